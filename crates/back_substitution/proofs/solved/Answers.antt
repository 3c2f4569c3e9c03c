-- `back_substitution::solved` meets its contract.
-- Assumes nothing.
use mathlib.Core.Path.{◌≡◌, sym, ◌∙◌, ap, ap₂}
use Prim.Native.Nat.{◌^◌, ◌<◌}
use native.Mathlib.Omega.{arith}
use lib.IntN.{ℤ, pos, neg_ℤ, nat_abs}
use lib.Signed.{lt_z, quot_z}
use mir.Syntax.{w64}
use mir.Val.{of_z, to_z}
use mir.Facts.{to_z-of_z}
use Rattle.algebra.specs.Division.{quot_z-le}
use Rattle.algebra.specs.Gcd.{gcd}
use Rattle.polynomials.specs.Content.{read_back}
use Rattle.back_substitution.specs.BackSubstitution.{solved-kept, solved-turned}
use Rattle.back_substitution.proofs.solved.Goals as goal
use Rattle.back_substitution.proofs.solved.Goals.{After-is_negative, After-quotient-q, Start}

below : (c : Start) → nat_abs c.args.s < 2 ^ 63
below c = omega (arith, c.requires.s_bound.0)

module _ (c : After-quotient-q) where
  abbrev start : Start
  start = (goal.at.After-quotient-q c).Start

  abbrev share : ℤ
  share = quot_z start.args.s (pos (gcd (nat_abs start.args.d) (nat_abs start.args.s)))

  quotient_is : to_z w64 (of_z w64 c.quotient-q.result) ≡ share
  quotient_is =
      read_back c.quotient-q.result c.quotient-q.type_inv ∙ c.quotient-q.ensures
      ∙ ap₂ quot_z (to_z-of_z {w = w64} start.ranges.s) (to_z-of_z {w = w64} start.ranges.common ∙ start.requires.common_value)

sign : (c : After-is_negative) → c.is_negative.result ≡ lt_z (start (goal.at.After-is_negative c).After-quotient-q).args.d (pos 0)
sign c = c.is_negative.ensures ∙ ap (λ z. lt_z z (pos 0)) (to_z-of_z {w = w64} (start (goal.at.After-is_negative c).After-quotient-q).ranges.d)

pub quotient-q-requires : goal.quotient-q-requires
quotient-q-requires c = (rw (to_z-of_z {w = w64} c.ranges.s) (below c), rw (to_z-of_z {w = w64} c.ranges.common) c.requires.s_bound.1)

pub negated-requires : goal.negated-requires
negated-requires c =
    let q = (goal.at.negated-requires c).After-quotient-q in
    let s = (start q).args.s in
    rw (quotient_is q) (omega (arith, below (start q), quot_z-le s (pos (gcd (nat_abs (start q).args.d) (nat_abs s)))))

pub returns-then-is_negative : goal.returns-then-is_negative
returns-then-is_negative c =
    let e = (goal.at.returns-then-is_negative c).After-is_negative in
    quotient_is (goal.at.After-is_negative e).After-quotient-q ∙ solved-kept (start (goal.at.After-is_negative e).After-quotient-q).args.d (start (goal.at.After-is_negative e).After-quotient-q).args.s (sym (sign e) ∙ c.if-is_negative.true)

pub returns-else-is_negative : goal.returns-else-is_negative
returns-else-is_negative c =
    let e = (goal.at.returns-else-is_negative c).After-is_negative in
    read_back c.negated.result c.negated.type_inv ∙ c.negated.ensures ∙ ap neg_ℤ (quotient_is (goal.at.After-is_negative e).After-quotient-q)
    ∙ solved-turned (start (goal.at.After-is_negative e).After-quotient-q).args.d (start (goal.at.After-is_negative e).After-quotient-q).args.s (sym (sign e) ∙ c.if-is_negative.false)
