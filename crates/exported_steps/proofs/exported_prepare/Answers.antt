-- `exported_steps::exported_prepare` meets its contract.
-- Assumes nothing.
use mathlib.Core.Path.{refl, ◌∙◌, ap}
use mathlib.Core.List.{List}
use Prim.Native.Nat.{ℕ}
use lib.IntN.{ℤ}
use Rattle.lists.specs.Overwritten.{overwrite}
use Rattle.rules.specs.Stores.{Sizes}
use Rattle.stores.specs.Validity.{the_sizes_of}
use Rattle.steps.specs.Handed.{held_of, prepared_of}
use Rattle.refusals.specs.Refusals.{number_of, number-nonzero}
use Rattle.export_results.specs.Results.{on_acceptance-none, on_acceptance-some}
use Rattle.steps.specs.HeldCalls.{state_numbers_of, no_state_of}
use Rattle.exported_steps.specs.StateNumbers.{prepare-short, prepare-left, prepare-small}
use Rattle.exported_steps.proofs.exported_prepare.Goals as goal
use Rattle.exported_steps.proofs.exported_prepare.Goals.{Start}

-- the call
module _ (c : Start) where
  abbrev z : Sizes
  z = the_sizes_of c.args.sizes

  abbrev count : ℕ
  count = c.args.count

  abbrev rows : List ℤ
  rows = c.args.rows.now

  abbrev relations : List ℤ
  relations = c.args.relations.now

  abbrev state : List ℤ
  state = c.args.state.now

pub returns-then-state-lt11 : goal.returns-then-state-lt11
returns-then-state-lt11 c =
    let s = (goal.at.returns-then-state-lt11 c).Start in
    (λ i. record { refusal = (c.number_in.ensures ∙ c.check_stores-checked.ensures) i; state_store = state s })
    ∙ prepare-short (z s) (count s) (rows s) (relations s) (state s) c.if-state-lt11.true

pub state_numbers-numbers-requires : goal.state_numbers-numbers-requires
unfolding prepared_of
state_numbers-numbers-requires c =
    let s = (goal.at.state_numbers-numbers-requires c).Start in
    prepare-small (z s) (count s) (rows s) (relations s) (state s) c.in-Ok.ensures refl

pub returns-in-Ok : goal.returns-in-Ok
unfolding prepared_of
returns-in-Ok c =
    let s = (goal.at.returns-in-Ok c).Start in
    prepare-left (z s) (count s) (rows s) (relations s) (state s) c.in-Ok.ensures
    (c.put.ensures ∙ ap (λ l. overwrite l (state s)) c.state_numbers-numbers.ensures
    ∙ on_acceptance-some 0 (state_numbers_of (held_of c.in-Ok.first)) (state s) refl)
    c.if-state-lt11.false

pub returns-in-Err : goal.returns-in-Err
unfolding prepared_of
returns-in-Err c =
    let s = (goal.at.returns-in-Err c).Start in
    (λ i. record { refusal = c.number.ensures i; state_store = state s })
    ∙ prepare-left (z s) (count s) (rows s) (relations s) (state s) c.in-Err.ensures
    (on_acceptance-none (number_of c.in-Err.refusal) (state_numbers_of no_state_of) (state s) (number-nonzero c.in-Err.refusal)) c.if-state-lt11.false
