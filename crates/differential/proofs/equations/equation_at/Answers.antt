-- `differential::equations::equation_at` meets its contract: the number of terms, and then the terms.
-- Assumes nothing.
use Rattle.std.proofs.Common.{rules, ◌≡◌, sym, ap, ◌∙◌, le_trans, pos, nat_abs, drop, w64, to_z, of_z, FitsSigned}
use mir.Facts.{to_z-of_z, Fits-nat_abs}
use Rattle.rules.specs.Numbers.{got, field, between}
use Rattle.rules.specs.Sheets.{after_count_of}
use Rattle.tokens.specs.Fields.{read-err, read-ok, read-within, fails-on, reads-as, then-got, then-fault, field-judged, between-zero}
use Rattle.differential.specs.Grammar.{most_of}
use Rattle.differential.specs.Read.{extent_of}
use Rattle.differential.specs.Rows.{terms_row, terms_of, row_is, count-few}
use Rattle.differential.proofs.equations.equation_at.Goals as goal
use Rattle.differential.proofs.equations.equation_at.Goals.{After-count_at, In_ok-k}

pub most_terms-requires : goal.most_terms-requires
most_terms-requires c = c.requires.at_in_bounds.1

pub count_at-requires : goal.count_at-requires
count_at-requires c = c.requires.at_in_bounds.0

most-is : (c : After-count_at) → to_z w64 (of_z w64 c.most_terms.result) ≡ pos (most_of (extent_of c.args.x))
most-is c = let f : FitsSigned w64 c.most_terms.result = search rules in to_z-of_z {w = w64} f ∙ c.most_terms.ensures

pub returns-in_err-k : goal.returns-in_err-k
returns-in_err-k c =
    fails-on _ c.in_err-k.field-0.0 c.from_residual.ensures.1
    (row_is _ _ ∙ then-fault _ (read-err (rw (most-is (goal.at.returns-in_err-k c).After-count_at) at c.in_err-k.ensures)))

-- The number of terms, as it was read.
module _ (c : In_ok-k) where
  count_fits : FitsSigned w64 c.in_ok-k.k.value
  count_fits = search rules

  count-read : field (between (pos 0) (pos (most_of (extent_of c.args.x)))) after_count_of (drop c.args.at c.args.bytes.now)
      ≡ got c.in_ok-k.k.value (drop c.in_ok-k.k.at c.args.bytes.now)
  count-read = read-ok (rw (most-is (goal.at.In_ok-k c).After-count_at) at c.in_ok-k.ensures)

pub overflow_cast-k : goal.overflow_cast-k
overflow_cast-k c =
    let d = (goal.at.overflow_cast-k c).In_ok-k in
    rw (to_z-of_z {w = w64} (count_fits d))
    ((between-zero 0 _ _ (field-judged _ after_count_of _ (count-read d))).0, Fits-nat_abs tt (count_fits d))

pub terms_at-requires : goal.terms_at-requires
terms_at-requires c =
    let d = (goal.at.terms_at-requires c).In_ok-k in
    record {
      at_in_bounds = (
        read-within c.in_ok-k.ensures,
        (
          c.requires.at_in_bounds.1,
          rw (to_z-of_z {w = w64} (count_fits d))
              (le_trans (between-zero 0 _ _ (field-judged _ after_count_of _ (count-read d))).2 (count-few _ c.requires.at_in_bounds.1)),
        ),
      );
      row_value = c.requires.row_value;
    }

pub shape_of-row : goal.shape_of-row
shape_of-row c = c.terms_at.auto.row

pub returns : goal.returns
unfolding terms_of
returns c =
    let d = (goal.at.returns c).In_ok-k in
    let a = c.args in
    reads-as c.terms_at.ensures
    (ap (λ k. terms_row (extent_of a.x) (nat_abs k) (drop c.in_ok-k.k.at a.bytes.now)) (to_z-of_z {w = w64} (count_fits d))
    ∙ sym (row_is _ _ ∙ then-got _ (count-read d)))
