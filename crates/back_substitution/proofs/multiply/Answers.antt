-- `back_substitution::multiply` meets its contract. The loop's invariant: the first i numbers are taken so many times and the others
-- are as they were.
-- Assumes nothing.
use mathlib.Core.Path.{◌≡◌, sym, ◌∙◌, ap, ap₂}
use mathlib.Core.List.{List}
use Prim.Native.Nat.{ℕ}
use native.Mathlib.Omega.{arith}
use lib.Dec.{lit<}
use lib.IntN.{ℤ, pos, ◌*ℤ◌}
use lib.ListN.{get_or}
use mir.Syntax.{w64}
use mir.Val.{SFits, of_z, to_z}
use mir.Facts.{to_z-of_z}
use Rattle.integers.specs.Ranges.{sfits-size}
use Rattle.lists.specs.Taken.{overwritten-next, overwritten-all, suffix-next, suffix-first}
use Rattle.polynomials.specs.Content.{read_back, small_at}
use Rattle.back_substitution.specs.BackSubstitution.{multiple-size, multiple-at, length-multiple}
use Rattle.back_substitution.proofs.multiply.Goals as goal
use Rattle.back_substitution.proofs.multiply.Goals.{After-a-in-loop-a-1}

-- number i so many times
module _ (c : After-a-in-loop-a-1) where
  abbrev v : List ℤ
  v = c.args.v.now

  abbrev times : ℤ
  times = c.args.times

  abbrev i : ℕ
  i = c.loop-a.a-index

  abbrev here : ℤ
  here = to_z w64 (of_z w64 times) *ℤ to_z w64 (of_z w64 (get_or c.loop-a.v i (pos 0)))

  here-is : here ≡ times *ℤ get_or v i (pos 0)
  here-is =
      let now-v = c.loop-a.v in
      ap₂ ◌*ℤ◌ (to_z-of_z {w = w64} c.ranges.times)
      (read_back (get_or now-v i (pos 0)) c.a-in-loop-a-1.given ∙ suffix-first now-v v i (pos 0) c.loop-a.invariant.1)

  here-fits : SFits w64 here
  here-fits =
      let size = multiple-size times (get_or v i (pos 0)) c.requires.1 (small_at v c.requires.0 i) in
      rw here-is (sfits-size (times *ℤ get_or v i (pos 0)) size (lit< tt))

pub overflow_mul-a : goal.overflow_mul-a
overflow_mul-a c = here-fits c

pub loop-a-preserved : goal.loop-a-preserved
loop-a-preserved c =
    let loop = c.loop-a in
    let back = to_z-of_z {w = w64} c.ranges.times in (
      overwritten-next loop.invariant.0 (length-multiple (to_z w64 (of_z w64 (times c))) (v c)) (pos 0) (omega arith)
          (to_z-of_z {w = w64} (here-fits c) ∙ here-is c ∙ sym (ap (λ k. k *ℤ get_or (v c) (i c) (pos 0)) back)
          ∙ sym (multiple-at (to_z w64 (of_z w64 (times c))) (v c) (i c))),
      suffix-next loop.v (v c) (i c) _ loop.invariant.1,
    )

pub returns : goal.returns
returns c =
    overwritten-all (rw (to_z-of_z {w = w64} c.ranges.times) at c.loop-a.invariant.0)
    (length-multiple c.args.times c.args.v.now) (omega arith)
