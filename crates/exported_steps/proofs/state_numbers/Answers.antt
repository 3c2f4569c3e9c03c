-- `exported_steps::state_numbers` meets its contract.
-- Assumes nothing.
use mathlib.Core.Path.{◌≡◌, ◌∙◌, ap}
use mathlib.Core.List.{[], ◌∷◌, ◌++◌}
use Prim.Native.Nat.{ℕ, ◌≤◌, zero-le}
use native.Mathlib.Omega.{arith}
use borrow.Author.Rules.{rules}
use lib.IntN.{ℤ, pos}
use lib.ListN.{get_or}
use mir.Syntax.{w64}
use mir.Facts.{to_z-of_z}
use Rattle.lists.specs.Everywhere.{all-get_or-default}
use Rattle.stores.specs.Validity.{the_sizes_of}
use Rattle.rules.specs.Stores as Stores
use Rattle.steps.specs.Handed.{held_of}
use Rattle.steps.specs.HeldCalls.{state_numbers_of}
use Rattle.export_results.specs.Results.{small-fits, small-value, four-columns}
use Rattle.exported_steps.proofs.state_numbers.Goals as goal
use Rattle.exported_steps.proofs.state_numbers.Goals.{Start}

-- what is cast is small
module _ (c : Start) where
  unknowns : c.args.state.sizes.m ≤ 64
  unfolding held_of the_sizes_of
  unknowns = omega (arith, c.requires.few-unknowns)

  equations : c.args.state.sizes.equations ≤ 64
  unfolding held_of the_sizes_of Stores.equations
  equations = omega (arith, c.requires.few-rows)

  relations : c.args.state.relations ≤ 64
  unfolding held_of
  relations = omega (arith, c.requires.few-relations)

  settled : c.args.state.settled ≤ 64
  unfolding held_of
  settled = omega (arith, c.requires.few-settled)

  column : (j : ℕ) → get_or c.args.state.order j 0 ≤ 64
  unfolding held_of
  column j = omega (arith, all-get_or-default (λ k. k ≤ 4) c.args.state.order 0 j zero-le c.requires.columns)

  shifts : c.args.state.shifts ≤ 64
  unfolding held_of
  shifts = omega (arith, c.requires.few-shifts)

pub overflow_cast-result : goal.overflow_cast-result
overflow_cast-result c = small-fits _ (unknowns (goal.at.overflow_cast-result c).Start)

pub overflow_cast-result-2 : goal.overflow_cast-result-2
overflow_cast-result-2 c = small-fits _ (equations (goal.at.overflow_cast-result-2 c).Start)

pub overflow_cast-result-3 : goal.overflow_cast-result-3
overflow_cast-result-3 c = small-fits _ (relations (goal.at.overflow_cast-result-3 c).Start)

pub overflow_cast-result-4 : goal.overflow_cast-result-4
overflow_cast-result-4 c = small-fits _ (settled (goal.at.overflow_cast-result-4 c).Start)

pub overflow_cast-result-5 : goal.overflow_cast-result-5
overflow_cast-result-5 c = small-fits _ (column (goal.at.overflow_cast-result-5 c).Start 0)

pub overflow_cast-result-6 : goal.overflow_cast-result-6
overflow_cast-result-6 c = small-fits _ (column (goal.at.overflow_cast-result-6 c).Start 1)

pub overflow_cast-result-7 : goal.overflow_cast-result-7
overflow_cast-result-7 c = small-fits _ (column (goal.at.overflow_cast-result-7 c).Start 2)

pub overflow_cast-result-8 : goal.overflow_cast-result-8
overflow_cast-result-8 c = small-fits _ (column (goal.at.overflow_cast-result-8 c).Start 3)

pub overflow_cast-result-9 : goal.overflow_cast-result-9
overflow_cast-result-9 c = small-fits _ (shifts (goal.at.overflow_cast-result-9 c).Start)

pub returns : goal.returns
unfolding state_numbers_of held_of the_sizes_of Stores.equations
returns c =
    let start = (goal.at.returns c).Start in
    let state = start.args.state in
    let sizes = state.sizes in
    let order = state.order in
    let value : (j : ℕ) → ◌≡◌ {A = ℤ} _ (pos (get_or order j 0)) = λ j. small-value (get_or order j 0) (column start j) in
    (λ i. small-value sizes.m (unknowns start) i ∷ small-value sizes.equations (equations start) i
    ∷ to_z-of_z {w = w64} {z = sizes.l} (search rules) i
    ∷ to_z-of_z {w = w64} {z = sizes.t} (search rules) i
    ∷ small-value state.relations (relations start) i ∷ small-value state.settled (settled start) i
    ∷ value 0 i ∷ value 1 i ∷ value 2 i ∷ value 3 i ∷ small-value state.shifts (shifts start) i ∷ [])
    ∙ ap (λ l. pos sizes.m ∷ pos sizes.equations ∷ sizes.l ∷ sizes.t ∷ pos state.relations ∷ pos state.settled
    ∷ (l ++ (pos state.shifts ∷ [])))
    (four-columns order start.requires.four)
