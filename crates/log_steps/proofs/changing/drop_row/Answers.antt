-- `log_steps::changing::drop_row` meets its contract.
-- Assumes nothing.
use Prim.Native.Nat.{ℕ, ◌*◌, ◌-◌, ◌≤◌, ◌<◌}
use mathlib.Core.Path.{refl, sym, ◌∙◌, ap}
use mathlib.Core.List.{List}
use native.Mathlib.Omega.{arith}
use lib.IntN.{ℤ, pos}
use lib.ListN.{length, replicate}
use lib.Seq.{paste}
use Rattle.rules.specs.Limits.{row_length}
use Rattle.rules.specs.Stores.{row_need}
use Rattle.reduction.specs.declared.step.Progress.{Progress}
use Rattle.reduction.specs.Dropping.{dropped}
use Rattle.log_steps.specs.Logs.{dropping}
use Rattle.log_steps.specs.StoreChanges.{Begun, begun-few, begun-room, stepped_same}
use Rattle.log_steps.proofs.StoreChanges.{step-refused, absent-dropped, drop-allowed}
use Rattle.log_steps.proofs.StoreChanges.{drop-stepped}
use Rattle.log_steps.proofs.changing.drop_row.Goals as goal
use Rattle.log_steps.proofs.changing.drop_row.Goals.{Else-p-i, Start}

-- the arguments
module _ (c : Start) where
  abbrev rows : List ℤ
  rows = c.args.rows.now

  abbrev p : Progress
  p = c.args.p

  abbrev i : ℕ
  i = c.args.i

  begun : Begun rows p
  begun = c.requires

  long : p.rows * row_length ≤ length rows
  unfolding row_need
  long = begun.rows-within.long

-- the row is present
module _ (c : Else-p-i) where
  abbrev start : Start
  start = (goal.at.Else-p-i c).Start

  inside : i start < (p start).rows
  inside = c.if-p-i.false

pub returns-then-p-i : goal.returns-then-p-i
returns-then-p-i c =
    let s = (goal.at.returns-then-p-i c).Start in
    rw c.stopped.ensures (λ D relations ready.
    step-refused D ready (begun s).unsettled (dropping (i s)) (absent-dropped D ready (begun s).unsettled (i s) c.if-p-i.true))

pub row_zero-requires : goal.row_zero-requires
row_zero-requires c = let e = c in begun-room (begun (start e)) (i (start e)) (inside e)

pub returns-then-not-row_zero : goal.returns-then-not-row_zero
returns-then-not-row_zero c =
    let e = (goal.at.returns-then-not-row_zero c).Else-p-i in
    let s = start e in
    rw c.stopped-then-not-row_zero.ensures (λ D relations ready.
    step-refused D ready (begun s).unsettled (dropping (i s))
    (drop-allowed D ready (begun s).unsettled (i s) (inside e) ∙ sym c.row_zero.ensures ∙ c.if-not-row_zero.true))

pub overflow_sub-last : goal.overflow_sub-last
overflow_sub-last c = let e = (goal.at.overflow_sub-last c).Else-p-i in omega (arith, inside e)

pub overflow_mul-i : goal.overflow_mul-i
overflow_mul-i c =
    let e = (goal.at.overflow_mul-i c).Else-p-i in omega (arith, begun-few (begun (start e)) (i (start e)) (inside e))

pub overflow_sub-last-2 : goal.overflow_sub-last-2
overflow_sub-last-2 c = let e = (goal.at.overflow_sub-last-2 c).Else-p-i in omega (arith, inside e)

pub overflow_mul-last : goal.overflow_mul-last
overflow_mul-last c =
    let e = (goal.at.overflow_mul-last c).Else-p-i in omega (arith, (begun (start e)).few-rows)

pub move_up-requires : goal.move_up-requires
move_up-requires c = let e = (goal.at.move_up-requires c).Else-p-i in omega (arith, inside e, long (start e))

pub overflow_mul-last-2 : goal.overflow_mul-last-2
overflow_mul-last-2 c =
    let e = (goal.at.overflow_mul-last-2 c).Else-p-i in omega (arith, (begun (start e)).few-rows)

pub clear-requires : goal.clear-requires
clear-requires c =
    let e = (goal.at.clear-requires c).Else-p-i in
    omega (arith, inside e, long (start e), c.move_up.auto.store)

pub returns : goal.returns
unfolding dropped
returns c =
    let e = (goal.at.returns c).Else-p-i in
    let s = start e in
    λ D relations ready.
    stepped_same
    (c.clear.ensures
    ∙ ap (λ l. paste l (((p s).rows - 1) * row_length) (replicate row_length (pos 0)) row_length) c.move_up.ensures)
    refl refl
    (drop-stepped D ready (begun s).unsettled (i s) (inside e)
    (drop-allowed D ready (begun s).unsettled (i s) (inside e) ∙ sym c.row_zero.ensures ∙ c.if-not-row_zero.false))
