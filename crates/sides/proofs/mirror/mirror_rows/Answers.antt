-- `sides::mirror::mirror_rows` meets its contract. The loop's invariant: the first i rows are mirrored.
-- Assumes nothing.
use Prim.Native.Nat.{ℕ, ◌+◌, ◌*◌, ◌≤◌, zero-le}
use native.Mathlib.Omega.{arith}
use mathlib.Core.List.{List}
use lib.IntN.{ℤ}
use lib.ListN.{length}
use Rattle.rules.specs.Limits.{row_length}
use Rattle.rules.specs.Stores.{row_need}
use Rattle.sides.specs.StoreStates.{part_small}
use Rattle.sides.specs.MirrorLaws.{mirror_numbers, mirror-stays, changed-none, changed-next, rows-mirrored}
use Rattle.sides.proofs.mirror.mirror_rows.Goals as goal
use Rattle.sides.proofs.mirror.mirror_rows.Goals.{In-loop-i}

-- row i of the store
module _ (c : In-loop-i) where
  abbrev i : ℕ
  i = c.loop-i.i

  abbrev store : List ℤ
  store = c.loop-i.store

  long : i * row_length + row_length ≤ length store
  long = omega (arith, c.loop-i.invariant.1.within.long)

pub loop-i-init : goal.loop-i-init
unfolding row_need
loop-i-init c =
    (omega arith, changed-none row_length c.args.equations 0 (mirror_numbers c.args.span) c.args.store.now c.requires.1)

pub overflow_mul-at : goal.overflow_mul-at
overflow_mul-at c = omega (arith, long c)

pub mirror_row-requires : goal.mirror_row-requires
mirror_row-requires c =
    let at = (goal.at.mirror_row-requires c).In-loop-i in
    let numbers = part_small row_length at.args.equations (i at) (store at) at.loop-i-test.true at.loop-i.invariant.1.within in
    (at.requires.0, long at, numbers)

pub loop-i-preserved : goal.loop-i-preserved
loop-i-preserved c =
    let at = (goal.at.loop-i-preserved c).In-loop-i in
    let next = changed-next row_length at.args.equations 0 (mirror_numbers at.args.span) (mirror-stays at.args.span at.requires.0)
    at.args.store.now (store at) (i at) zero-le at.loop-i-test.true at.loop-i.invariant.1 in
    (omega arith, rw c.mirror_row.ensures next)

pub shape_of-store : goal.shape_of-store
shape_of-store c = c.loop-i.invariant.1.kept.same_length

pub returns : goal.returns
returns c =
    rows-mirrored c.args.equations c.args.span c.loop-i.i c.args.store.now c.loop-i.store c.requires.0
    c.requires.1 c.loop-i-test.false c.loop-i.invariant.1
