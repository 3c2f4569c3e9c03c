-- `steps::checks::check_state` meets its contract. The sizes are tested first, then what a run tests of its stores, then the settled rows.
-- Assumes nothing.
use Rattle.refusals.specs.Refusals.{number_of, number-nonzero}
use mathlib.Core.Path.{◌≡◌, refl, sym, ◌∙◌, ap}
use mathlib.Core.Bool.{Bool, true, false, cond}
use Rattle.std.specs.Prelude.{◌≢◌, eqb}
use Rattle.std.proofs.Common.{eqb→eq, true≢false}
use mathlib.Core.List.{List}
use Prim.Native.Nat.{ℕ}
use lib.IntN.{ℤ}
use lib.ListN.{length}
use Rattle.lists.specs.Tests.{true-T}
use Rattle.rules.specs.Limits.{column_count}
use Rattle.rules.specs.Stores.{equations, rows_of, check_stores_of}
use Rattle.steps.specs.HeldCalls.{Held, the_columns_of, sizes_held_of, pivots_right_of, check_state_of}
use Rattle.steps.specs.SoundStates.{HeldBounds, sizes_held-iff}
use Rattle.steps.specs.Handed.{held_of, sizes-fail, too_short, numbers-fail, pivots-tell, held-few, held-positive, held-columns}
use Rattle.steps.specs.Handed.{held-room, pivots-held}
use Rattle.steps.proofs.checks.check_state.Goals as goal
use Rattle.steps.proofs.checks.check_state.Goals.{Else-not-sizes_held, In-Ok, After-pivots_right}

-- the sizes hold
module _ (c : Else-not-sizes_held) where
  abbrev x : Held
  x = held_of c.args.state

  abbrev rows : List ℤ
  rows = c.args.rows.now

  abbrev relations : List ℤ
  relations = c.args.relations.now

  hold : sizes_held_of x ≡ true
  hold = sym c.sizes_held.ensures ∙ c.if-not-sizes_held.false

  bounds : HeldBounds x
  bounds = (sizes_held-iff x).0 (true-T _ hold)

-- nothing is wrong with the stores
module _ (c : In-Ok) where
  abbrev checked : Else-not-sizes_held
  checked = (goal.at.In-Ok c).Else-not-sizes_held

  none : check_stores_of (x checked).sizes (x checked).relations (rows checked) (relations checked) ≡ 0
  unfolding held_of
  none = sym c.in-Ok.ensures

-- the test of the settled rows
module _ (c : After-pivots_right) where
  abbrev before : Else-not-sizes_held
  before = checked (goal.at.After-pivots_right c).In-Ok

  four : length (x before).order ≡ column_count
  unfolding held_of
  four = c.from_zero-order.ensures.1

  tested : c.pivots_right.result
      ≡ pivots_right_of (the_columns_of (x before)) (rows_of (equations (x before).sizes) (rows before)) (x before).settled
  unfolding held_of the_columns_of
  tested =
      c.pivots_right.ensures
      ∙ ap (λ o. pivots_right_of o (rows_of (x before).settled (rows before)) (x before).settled) c.from_zero-order.ensures.0
      ∙ pivots-held (x before) (bounds before) four (rows before)

  told : cond c.pivots_right.result 0 11 ≡ check_state_of (x before) (rows before) (relations before)
  told = ap (λ t. cond t 0 11) tested
      ∙ pivots-tell (x before) (rows before) (relations before) (hold before) (none (goal.at.After-pivots_right c).In-Ok)

pub returns-then-not-sizes_held : goal.returns-then-not-sizes_held
returns-then-not-sizes_held c =
    let args = c.args in
    sizes-fail (held_of args.state) args.rows.now args.relations.now
    (sym c.sizes_held.ensures ∙ c.if-not-sizes_held.true)

-- what is wrong with the stores, by the number of a run's check
refused-state : (x : Held) (row_store relation_store : List ℤ) (n : ℕ) → sizes_held_of x ≡ true → n ≢ 0
    → n ≡ check_stores_of x.sizes x.relations row_store relation_store
    → (t : Bool) → eqb n 1 ≡ t → cond t 1 11 ≡ check_state_of x row_store relation_store
refused-state x row_store relation_store n hold some e true h =
    too_short x row_store relation_store hold (sym e ∙ eqb→eq n 1 (true-T _ h))
refused-state x row_store relation_store n hold some e false h =
    numbers-fail x row_store relation_store hold (λ f. true≢false (sym (ap (λ k. eqb k 1) (e ∙ f)) ∙ h)) (λ f. some (e ∙ f))

pub returns-in-Err : goal.returns-in-Err
unfolding held_of
returns-in-Err c =
    let b = (goal.at.returns-in-Err c).Else-not-sizes_held in
    let n = number_of c.in-Err.refusal in
    c.of_state.ensures
    ∙ refused-state (x b) (rows b) (relations b) n (hold b) (number-nonzero c.in-Err.refusal) c.in-Err.ensures (eqb n 1) refl

pub from_zero-order-requires : goal.from_zero-order-requires
unfolding held_of
from_zero-order-requires c =
    let b = checked (goal.at.from_zero-order-requires c).In-Ok in
    (held-few (x b) (bounds b), held-positive (x b) (bounds b))

pub pivots_right-requires : goal.pivots_right-requires
unfolding held_of the_columns_of
pivots_right-requires c =
    let b = checked (goal.at.pivots_right-requires c).In-Ok in (
      held-few (x b) (bounds b),
      held-room (x b) (bounds b) (rows b) (relations b) (none (goal.at.pivots_right-requires c).In-Ok),
      rw c.from_zero-order.ensures.0 (held-columns (x b) (bounds b)),
    )

pub returns-then-not-pivots_right : goal.returns-then-not-pivots_right
returns-then-not-pivots_right c =
    sym (ap (λ t. cond {A = ℕ} t 0 11) c.if-not-pivots_right.true) ∙ told (goal.at.returns-then-not-pivots_right c).After-pivots_right

pub returns : goal.returns
returns c =
    sym (ap (λ t. cond {A = ℕ} t 0 11) c.if-not-pivots_right.false) ∙ told (goal.at.returns c).After-pivots_right
