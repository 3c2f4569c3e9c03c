-- `log_steps::combining::divides_sum` meets its contract. The loop's invariant: d divides the coefficients below k.
-- Assumes nothing.
use mathlib.Core.Path.{◌≡◌, sym, ◌∙◌, ap}
use native.Mathlib.Omega.{arith}
use borrow.Author.Count.{below_more}
use borrow.Author.Rules.{sfits_of}
use lib.IntN.{ℤ, nat_abs}
use lib.Signed.{rem_z}
use mir.Syntax.{w64}
use mir.Val.{of_z, to_z}
use mir.Facts.{to_z-of_z}
use Rattle.algebra.specs.Polynomials.{Polynomial, coeff}
use Rattle.polynomials.specs.Content.{read_back, zero_bits, nonzero-bits}
use Rattle.log_steps.specs.Logs.{divides_all}
use Rattle.log_steps.specs.Divisions.{sum_of, past-sum, sum-divided, sum_left}
use Rattle.log_steps.proofs.combining.divides_sum.Goals as goal
use Rattle.log_steps.proofs.combining.divides_sum.Goals.{After-remainder, At-loop-k}

-- the remainder of coefficient k
module _ (c : After-remainder) where
  abbrev at : At-loop-k
  at = (goal.at.After-remainder c).At-loop-k

  abbrev sum : Polynomial
  sum = let a = at.args in sum_of a.g.now a.p.now a.h.now a.q.now

  abbrev d : ℤ
  d = to_z w64 (of_z w64 at.args.d)

  result : rem_z (coeff sum at.loop-k.k) d ≡ c.remainder.result
  result =
      ap (λ x. rem_z x d)
      (sym (read_back c.combined_coefficient-a.result c.combined_coefficient-a.type_inv
      ∙ c.combined_coefficient-a.ensures.value)) ∙ sym c.remainder.ensures

pub loop-k-init : goal.loop-k-init
loop-k-init c =
    λ j below. absurd (omega arith)

pub combined_coefficient-a-requires : goal.combined_coefficient-a-requires
combined_coefficient-a-requires c =
    record {
      g_len_bound = (c.requires.g_len_bound.0, c.requires.g_len_bound.1, c.requires.g_len_bound.3);
      h_len_bound = (c.requires.h_len_bound.0, c.requires.h_len_bound.1, c.requires.h_len_bound.3);
      k_bound = omega arith;
    }

pub remainder-requires : goal.remainder-requires
remainder-requires c = (
  omega (
    arith,
    c.combined_coefficient-a.ensures.result_bound,
    ap nat_abs (read_back c.combined_coefficient-a.result c.combined_coefficient-a.type_inv),
  ),
  rw (to_z-of_z {w = w64} c.ranges.d) c.requires.d_nonzero,
)

pub returns-then-remainder-ne0 : goal.returns-then-remainder-ne0
returns-then-remainder-ne0 c =
    let b = (goal.at.returns-then-remainder-ne0 c).After-remainder in
    sym (ap (λ x. divides_all (nat_abs x) (sum b)) (sym (to_z-of_z {w = w64} (at b).ranges.d))
    ∙ sum_left (d b) (sum b) (at b).loop-k.k (λ e. nonzero-bits c.if-remainder-ne0.true (sym (result b) ∙ e)))

pub loop-k-preserved : goal.loop-k-preserved
loop-k-preserved c =
    let b = (goal.at.loop-k-preserved c).After-remainder in
    below_more _ _ (at b).loop-k.invariant (result b ∙ zero_bits (sfits_of b.remainder.type_inv) c.if-remainder-ne0.false)

pub returns : goal.returns
returns c =
    let a = c.args in
    let sum = sum_of a.g.now a.p.now a.h.now a.q.now in
    sym (ap (λ x. divides_all (nat_abs x) sum) (sym (to_z-of_z {w = w64} c.ranges.d))
    ∙ sum-divided (to_z w64 (of_z w64 a.d)) sum c.loop-k.k c.loop-k.invariant
    (λ j l. past-sum a.g.now a.p.now a.h.now a.q.now c.requires.g_len_bound.0 c.requires.g_len_bound.2 c.requires.h_len_bound.0
    c.requires.h_len_bound.2 j (omega arith)))
