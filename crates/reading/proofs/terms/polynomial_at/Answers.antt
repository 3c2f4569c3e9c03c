-- `reading::terms::polynomial_at` meets its contract: the number of coefficients, and then as many coefficients.
-- Assumes nothing.
use mathlib.Core.Path.{◌≡◌, sym, ap, ◌∙◌}
use Prim.Native.Nat.{◌≤◌}
use borrow.Author.Rules.{rules}
use lib.Dec.{T}
use lib.IntN.{ℤ, pos, nat_abs}
use lib.ListN.{drop}
use lib.Signed.{non_neg}
use mir.Syntax.{w64}
use mir.Val.{SFits}
use mir.Facts.{to_z-of_z, Fits-nat_abs}
use Rattle.rules.specs.Limits.{coefficient_count}
use Rattle.rules.specs.Numbers.{between, got, field}
use Rattle.rules.specs.Sheets.{always, read_coefficients}
use Rattle.tokens.specs.Fields.{read-err, read-ok, read-within, fails-on, reads-as, then-got, then-fault, field-judged, between-zero}
use Rattle.reading.specs.Terms.{padded, read_polynomial}
use Rattle.reading.proofs.terms.polynomial_at.Goals as goal
use Rattle.reading.proofs.terms.polynomial_at.Goals.{After-struct_told-1}

pub returns-in_err-k : goal.returns-in_err-k
unfolding read_polynomial
returns-in_err-k c = fails-on _ c.in_err-k.field-0.0 c.from_residual.ensures.1
    (then-fault _ (read-err c.in_err-k.ensures))

-- The number of coefficients, as it was read.
module _ (c : After-struct_told-1) where
  abbrev k : ℤ
  k = c.in_ok-k.k.value

  fits : SFits w64 k
  fits = search rules

  read : field (between (pos 1) (pos coefficient_count)) (always 32)
      (drop c.args.at
      c.args.bytes.now)
      ≡ got k (drop c.in_ok-k.k.at
      c.args.bytes.now)
  read = read-ok c.in_ok-k.ensures

  bounds : T (non_neg k) × (1 ≤ nat_abs k) × (nat_abs k ≤ coefficient_count)
  bounds = between-zero 1 coefficient_count k (field-judged (between (pos 1) (pos coefficient_count)) (always 32) _ read)

pub overflow_cast-k : goal.overflow_cast-k
overflow_cast-k c = rw (to_z-of_z {w = w64} (fits c)) ((bounds c).0, Fits-nat_abs tt (fits c))

pub coefficients_at-requires : goal.coefficients_at-requires
coefficients_at-requires c = record {
  at_in_bounds = (
    read-within c.in_ok-k.ensures,
    rw (to_z-of_z {w = w64} (fits (goal.at.coefficients_at-requires c).After-struct_told-1))
        (bounds (goal.at.coefficients_at-requires c).After-struct_told-1).2,
  );
  p_len = c.requires.p_len;
}

pub shape_of-p : goal.shape_of-p
shape_of-p c = c.coefficients_at.auto.p

pub returns : goal.returns
unfolding read_polynomial
returns c =
    let a = c.args in
    reads-as c.coefficients_at.ensures
    (ap (λ z. padded coefficient_count (pos 0)
    (read_coefficients a.separator (nat_abs z)
    (drop c.in_ok-k.k.at a.bytes.now)))
    (to_z-of_z {w = w64} (fits (goal.at.returns c).After-struct_told-1))
    ∙ sym (then-got _ (read (goal.at.returns c).After-struct_told-1)))
