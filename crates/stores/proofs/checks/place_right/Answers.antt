-- `stores::checks::place_right` meets its contract. Outside the system's blocks and columns the polynomial is tested for zero, inside for
-- its size.
-- Assumes nothing.
use mathlib.Core.Path.{◌≡◌, sym, ◌∙◌, ap}
use mathlib.Core.Bool.{Bool, true, false, ◌||◌, cond}
use mathlib.Core.List.{List}
use Prim.Native.Nat.{ℕ, ◌+◌, ◌*◌, ◌-◌, ◌/◌, ◌%◌}
use native.Mathlib.Omega.{arith}
use borrow.Author.Tests.{lt-ltb, le-ltb}
use lib.Dec.{ltb, leb}
use lib.IntN.{ℤ}
use lib.ListN.{take, drop}
use Rattle.algebra.specs.Polynomials.{is_zero_of}
use Rattle.rules.specs.Limits.{small, coefficient_count, column_count}
use Rattle.lists.specs.Tests.{every}
use Rattle.stores.specs.Checks.{outside, place_right_of}
use Rattle.stores.proofs.checks.place_right.Goals as goal
use Rattle.stores.proofs.checks.place_right.Goals.{Joined-span-place, else-span-place, then-span-place}

first_of : (s t : Bool) → s ≡ true → s ≡ (s || t)
first_of s t e = e ∙ ap (λ b. b || t) (sym e)

second-of : (s t : Bool) → s ≡ false → t ≡ (s || t)
second-of s t e = ap (λ b. b || t) (sym e)

module _ (c : Joined-span-place) where
  abbrev m : ℕ
  m = c.args.m

  abbrev span : ℕ
  span = c.args.span

  abbrev place : ℕ
  place = c.args.place

  abbrev part : ℕ → List ℤ
  part n = take n (drop (place * coefficient_count) c.args.numbers.now)

  -- the two tests, of the block and of the column
  tested : c.if-span-place.value ≡ outside m span place
  unfolding outside
  tested =
      let block = ltb span (place / column_count) in
      let column = leb m (place % column_count) in
      elim c.if-span-place.branch [ then-span-place w ↦ w.value-is ∙ first_of block column (lt-ltb span (place / column_count) w.if-span-place.true) | else-span-place w ↦ w.value-is ∙ second-of block column (le-ltb span (place / column_count) w.if-span-place.false) ]

  chosen : (t : Bool) → c.if-span-place.value ≡ t
      → cond t (is_zero_of (part coefficient_count)) (every small (part coefficient_count))
      ≡ place_right_of m span c.args.numbers.now place
  unfolding place_right_of
  chosen t e = ap (λ o. cond o (is_zero_of (part coefficient_count)) (every small (part coefficient_count))) (sym e ∙ tested)

  size : part (place * coefficient_count + coefficient_count - place * coefficient_count) ≡ part coefficient_count
  size =
      let width : place * coefficient_count + coefficient_count - place * coefficient_count ≡ coefficient_count = omega arith in
      ap part width

pub returns-then-m-place : goal.returns-then-m-place
returns-then-m-place c =
    let joined = c.before.before in
    c.all_zero.ensures ∙ ap is_zero_of (size joined) ∙ chosen joined true c.if-m-place.true

pub returns-else-m-place : goal.returns-else-m-place
returns-else-m-place c =
    let joined = c.before.before in
    c.all_small.ensures ∙ ap (every small) (size joined) ∙ chosen joined false c.if-m-place.false
