-- `reading::equations::equation_at` meets its contract: the number of terms, and then the terms.
-- Assumes nothing.
use mathlib.Core.Path.{◌≡◌, sym, ap, ◌∙◌}
use Prim.Native.Nat.{suc, ◌*◌}
use borrow.Author.Rules.{rules}
use lib.IntN.{pos, nat_abs}
use lib.ListN.{drop}
use mir.Syntax.{w64}
use mir.Val.{SFits, to_z, of_z}
use mir.Facts.{to_z-of_z, Fits-nat_abs}
use Rattle.rules.specs.Numbers.{got, field, between}
use Rattle.rules.specs.Stores.{span}
use Rattle.rules.specs.Sheets.{after_count_of, blank_row}
use Rattle.rules.specs.Layout.{size-bounds}
use Rattle.tokens.specs.Fields.{read-err, read-ok, read-within, fails-on, reads-as, then-got, then-fault, field-judged, between-zero}
use Rattle.reading.specs.Equations.{terms_into, terms_of, equation-is}
use Rattle.stores.specs.Validity.{the_sizes_of}
use Rattle.reading.proofs.equations.equation_at.Goals as goal
use Rattle.reading.proofs.equations.equation_at.Goals.{After-count_at, After-struct_told-1}

pub most_terms-requires : goal.most_terms-requires
most_terms-requires c = c.requires.at_in_bounds.1

-- The number of terms, as it was read.
module _ (c : After-count_at) where
  most_is : to_z w64 (of_z w64 c.most_terms.result) ≡ pos (c.args.z.m * suc (span (the_sizes_of c.args.z)))
  most_is = let f : SFits w64 c.most_terms.result = search rules in to_z-of_z {w = w64} f ∙ c.most_terms.ensures

pub returns-in_err-k : goal.returns-in_err-k
unfolding the_sizes_of
returns-in_err-k c =
    fails-on _ c.in_err-k.field-0.0 c.from_residual.ensures.1
    (equation-is _ (size-bounds _ c.requires.at_in_bounds.1).few _
    ∙ then-fault _ (read-err (rw (most_is (goal.at.returns-in_err-k c).After-count_at) at c.in_err-k.ensures)))

module _ (c : After-struct_told-1) where
  count_fits : SFits w64 c.in_ok-k.k.value
  count_fits = search rules

  count-read : field (between (pos 0) (pos (c.args.z.m * suc (span (the_sizes_of c.args.z))))) after_count_of (drop c.args.at c.args.bytes.now)
      ≡ got c.in_ok-k.k.value (drop c.in_ok-k.k.at c.args.bytes.now)
  count-read = read-ok (rw (most_is (goal.at.After-struct_told-1 c).After-count_at) at c.in_ok-k.ensures)

pub overflow_cast-k : goal.overflow_cast-k
overflow_cast-k c =
    rw (to_z-of_z {w = w64} (count_fits c)) ((between-zero 0 _ _ (field-judged _ after_count_of _ (count-read c))).0, Fits-nat_abs tt (count_fits c))

pub terms_at-requires : goal.terms_at-requires
terms_at-requires c = record {
  at_in_bounds = (
    read-within c.in_ok-k.ensures,
    c.requires.at_in_bounds.1,
  );
  row_value = c.requires.row_value;
}

pub shape_of-row : goal.shape_of-row
shape_of-row c = c.terms_at.auto.row

pub returns : goal.returns
unfolding the_sizes_of terms_of
returns c =
    let a = c.args in
    reads-as c.terms_at.ensures
    (ap (λ k. terms_into (the_sizes_of a.z) (nat_abs k) a.z.l 0 blank_row
    (drop c.in_ok-k.k.at a.bytes.now))
    (to_z-of_z {w = w64} (count_fits (goal.at.returns c).After-struct_told-1))
    ∙ sym (equation-is _
    (size-bounds _ c.requires.at_in_bounds.1).few _
    ∙ then-got _ (count-read (goal.at.returns c).After-struct_told-1)))
