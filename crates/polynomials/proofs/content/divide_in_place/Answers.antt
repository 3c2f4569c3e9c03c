-- `polynomials::content::divide_in_place` meets its contract. The loop's invariant: the first i coefficients are divided by d and the
-- others are as they were.
-- Assumes nothing.
use mathlib.Core.Path.{◌≡◌, ◌∙◌}
use mathlib.Core.List.{List}
use Prim.Native.Nat.{ℕ}
use native.Mathlib.Omega.{arith}
use lib.Dec.{T}
use lib.IntN.{ℤ, pos, nat_abs}
use lib.ListN.{get_or}
use lib.Signed.{lt_z}
use mir.Syntax.{w64}
use mir.Val.{of_z, to_z}
use mir.Facts.{to_z-of_z}
use Rattle.algebra.specs.Gcd.{length-divide_by}
use Rattle.polynomials.specs.Content.{read_back, positive, quotient-stored}
use Rattle.lists.specs.Taken.{overwritten-next, overwritten-all, suffix-next, suffix-first}
use Rattle.polynomials.proofs.content.divide_in_place.Goals as goal
use Rattle.polynomials.proofs.content.divide_in_place.Goals.{After-quotient-arg-1}

-- coefficient i and the divisor, as the call reads them
module _ (c : After-quotient-arg-1) where
  abbrev p : List ℤ
  p = c.args.p.now

  abbrev i : ℕ
  i = c.loop-a.a-index

  abbrev d : ℤ
  d = to_z w64 (of_z w64 c.args.d)

  positive-d : T (lt_z (pos 0) d)
  positive-d = rw (to_z-of_z c.ranges.d) c.requires.1

  back : to_z w64 (of_z w64 (get_or c.loop-a.p i (pos 0))) ≡ get_or p i (pos 0)
  back =
      let now-p = c.loop-a.p in
      read_back (get_or now-p i (pos 0)) c.quotient-arg-1.given ∙ suffix-first now-p p i (pos 0) c.loop-a.invariant.1

pub quotient-requires : goal.quotient-requires
quotient-requires c = (rw (back c) (c.requires.0 (i c)), (positive (d c) (positive-d c)).1)

pub loop-a-preserved : goal.loop-a-preserved
loop-a-preserved c =
    let e = c.before in
    let loop = e.loop-a in (
      overwritten-next loop.invariant.0 (length-divide_by (nat_abs (d e)) (p e)) (pos 0) (omega arith)
          (quotient-stored (d e) (positive-d e) (p e) (i e) c.quotient.type_inv c.quotient.ensures (back e)),
      suffix-next loop.p (p e) (i e) _ loop.invariant.1,
    )

pub returns : goal.returns
returns c =
    let start = c.before.before in
    overwritten-all (rw (to_z-of_z start.ranges.d) at c.loop-a.invariant.0)
    (length-divide_by (nat_abs start.args.d) start.args.p.now) (omega arith)
