-- `echelon::factors_of` meets its contract. The divisor d is at most C, so it fits an i64, and no quotient is larger
-- than what is divided.
-- Assumes nothing.
use mathlib.Core.Path.{◌≡◌, sym, ◌∙◌, ap, ap₂}
use Prim.Native.Nat.{ℕ, ◌≤◌, ◌<◌}
use native.Mathlib.Omega.{arith}
use lib.Dec.{lit<}
use lib.IntN.{ℤ, pos, neg_ℤ, nat_abs}
use lib.Signed.{lt_z, quot_z}
use mir.Syntax.{w64}
use mir.Val.{SFits, of_z, to_z}
use mir.Facts.{to_z-of_z}
use Rattle.algebra.specs.Division.{quot_z-le}
use Rattle.algebra.specs.Gcd.{gcd}
use Rattle.integers.specs.Ranges.{sfits-size}
use Rattle.polynomials.specs.Content.{read_back}
use Rattle.rules.specs.Limits.{bound}
use Rattle.echelon.specs.Eliminated.{Factors}
use Rattle.echelon.specs.RowWork.{divisor-bounds, factors-negative, factors-positive}
use Rattle.echelon.proofs.factors_of.Goals as goal
use Rattle.echelon.proofs.factors_of.Goals.{After-gcd-d, After-quotient-h, Start}

-- the divisor, as a number and as an i64
module _ (c : After-gcd-d) where
  abbrev start : Start
  start = (goal.at.After-gcd-d c).Start

  abbrev a : ℤ
  a = start.args.a

  abbrev b : ℤ
  b = start.args.b

  abbrev d : ℕ
  d = gcd (nat_abs a) (nat_abs b)

  found : c.gcd-d.result ≡ d
  found =
      c.gcd-d.ensures
      ∙ ap₂ gcd (c.magnitude.ensures ∙ ap nat_abs (to_z-of_z {w = w64} start.ranges.a))
      (c.magnitude-2.ensures ∙ ap nat_abs (to_z-of_z {w = w64} start.ranges.b))

  bounds : (0 < d) × (d ≤ bound)
  bounds = divisor-bounds a b start.requires.0 start.requires.2

  fits : SFits w64 (pos c.gcd-d.result)
  fits = rw found (sfits-size (pos d) bounds.1 (lit< tt))

  divisor : to_z w64 c.gcd-d.result ≡ pos d
  divisor = to_z-of_z {w = w64} fits ∙ ap pos found

-- the quotients by d
module _ (c : After-quotient-h) where
  abbrev at : After-gcd-d
  at = (goal.at.After-quotient-h c).After-gcd-d

  g-is : c.quotient-g.result ≡ quot_z (a at) (pos (d at))
  g-is = c.quotient-g.ensures ∙ ap₂ quot_z (to_z-of_z {w = w64} (start at).ranges.a) (divisor at)

  h-is : c.quotient-h.result ≡ quot_z (b at) (pos (d at))
  h-is = c.quotient-h.ensures ∙ ap₂ quot_z (to_z-of_z {w = w64} (start at).ranges.b) (divisor at)

  g-read : to_z w64 (of_z w64 c.quotient-g.result) ≡ quot_z (a at) (pos (d at))
  g-read = read_back c.quotient-g.result c.quotient-g.type_inv ∙ g-is

  h-read : to_z w64 (of_z w64 c.quotient-h.result) ≡ quot_z (b at) (pos (d at))
  h-read = read_back c.quotient-h.result c.quotient-h.type_inv ∙ h-is

pub overflow_cast-d : goal.overflow_cast-d
overflow_cast-d c = fits c

pub quotient-g-requires : goal.quotient-g-requires
quotient-g-requires c = (rw (to_z-of_z {w = w64} (start c).ranges.a) (omega (arith, (start c).requires.0)), rw (divisor c) (bounds c).0)

pub quotient-h-requires : goal.quotient-h-requires
quotient-h-requires c =
    let at = (goal.at.quotient-h-requires c).After-gcd-d in (rw (to_z-of_z {w = w64} (start at).ranges.b) (omega (arith, (start at).requires.1)), rw (divisor at) (bounds at).0)

pub negated-requires : goal.negated-requires
negated-requires c =
    let e = (goal.at.negated-requires c).After-quotient-h in rw (g-read e) (omega (arith, quot_z-le (a (at e)) (pos (d (at e))), (start (at e)).requires.0))

pub negated-requires-else-a-lt0 : goal.negated-requires-else-a-lt0
negated-requires-else-a-lt0 c =
    let e = (goal.at.negated-requires-else-a-lt0 c).After-quotient-h in rw (h-read e) (omega (arith, quot_z-le (b (at e)) (pos (d (at e))), (start (at e)).requires.1))

pub returns-then-a-lt0 : goal.returns-then-a-lt0
returns-then-a-lt0 c =
    let e = (goal.at.returns-then-a-lt0 c).After-quotient-h in
    let is = factors-negative (a (at e)) (b (at e))
    (sym (ap (λ z. lt_z z (pos 0)) (to_z-of_z {w = w64} (start (at e)).ranges.a)) ∙ c.if-a-lt0.true) in (
      read_back _ c.negated.type_inv ∙ c.negated.ensures ∙ ap neg_ℤ (g-read e) ∙ sym (ap (λ (f : Factors). f.g) is),
      h-read e ∙ sym (ap (λ (f : Factors). f.h) is),
    )

pub returns-else-a-lt0 : goal.returns-else-a-lt0
returns-else-a-lt0 c =
    let e = (goal.at.returns-else-a-lt0 c).After-quotient-h in
    let is = factors-positive (a (at e)) (b (at e))
    (sym (ap (λ z. lt_z z (pos 0)) (to_z-of_z {w = w64} (start (at e)).ranges.a)) ∙ c.if-a-lt0.false) in (
      g-read e ∙ sym (ap (λ (f : Factors). f.g) is),
      read_back _ c.negated-else-a-lt0.type_inv ∙ c.negated-else-a-lt0.ensures ∙ ap neg_ℤ (h-read e) ∙ sym (ap (λ (f : Factors). f.h) is),
    )
