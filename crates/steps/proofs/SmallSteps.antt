-- The numbers that a run with a budget gives back are small, whatever state it was handed, so that each is a number of a lent store.
--
-- Main statements
--   steps-small                 those of every call that is not refused before its work
use Prim.Native.Nat.{ℕ, ◌≤◌, zero-le}
use Rattle.std.proofs.Math.Nat.{mul-le-mul_left}
use Rattle.std.proofs.Common.{sym, ap}
use native.Mathlib.Omega.{arith}
use Rattle.std.specs.Prelude.{◌≡◌, refl, List, ℤ, length, replicate}
use Rattle.std.proofs.Math.Path.{subst}
use Rattle.lists.specs.Everywhere.{All, all-mono, all_replicate}
use Rattle.rules.specs.Limits.{column_count, most_equations}
use Rattle.rules.specs.Rows.{Row}
use Rattle.rules.specs.Elimination.{State, leading}
use Rattle.rules.specs.Stores.{equations, StoreRow, Shaped}
use Rattle.rules.specs.Layout.{size-bounds, length-rows_of}
use Rattle.rules.specs.Calls.{refusal}
use Rattle.theory.specs.Cells.{total_of-bound, shifts_of, width-le-length}
use Rattle.theory.proofs.Ending.{chain-shifts}
use Rattle.runs.specs.CallLaws as RunLaws
use Rattle.steps.specs.Budgets.{Walk, Led, Walked, used-up, at-end, stopped, led-chain}
use Rattle.steps.proofs.Budgets.{walked}
use Rattle.steps.specs.HeldCalls.{Held, no_state_of, state_in_of, moved_to, stopped_by_of, after_steps, after_state_check, steps_call}
use Rattle.steps.specs.HeldCalls.{check_state_of}
use Rattle.steps.specs.SoundStates.{HeldBounds}
use Rattle.steps.specs.StepCalls.{passed-bounds}
use Rattle.steps.proofs.HandedIn.{handed-valid, handed-sound, handed-few}
use Rattle.steps.specs.SmallSteps.{SmallRun, SmallState, SmallSteps, most_shifts, small-acceptance, small-state}

no-columns : All (λ c. c ≤ column_count) (replicate column_count 0)
no-columns = all_replicate (λ c. c ≤ column_count) column_count 0 zero-le

small-none : SmallState no_state_of
unfolding equations
small-none =
    record {
      few-unknowns = zero-le;
      few-rows = zero-le;
      few-relations = zero-le;
      few-settled = zero-le;
      four = refl;
      columns = no-columns;
      few-shifts = zero-le;
    }

small-refusal : (n : ℕ) → SmallRun (refusal n)
unfolding refusal
small-refusal n = record { few-relations = zero-le; few-shifts = zero-le; four = refl; columns = no-columns; low-rank = zero-le }

module _ (x : Held) (row_store relation_store : List ℤ) (passed : check_state_of x row_store relation_store ≡ 0)
    (four : length x.order ≡ column_count) where
  abbrev first : State
  first = state_in_of x row_store relation_store

  shifts-few : {k : ℕ} {v : State} → Led leading first k v → v.shifts ≤ most_shifts
  unfolding state_in_of Shaped
  shifts-few l =
      omega (
        arith,
        chain-shifts (led-chain l),
        total_of-bound shifts_of 4 first.rows each,
        count,
        bounds.few-shifts,
        mul-le-mul_left most_equations (RunLaws.few-blocks x.sizes bounds.sizes),
      )
    where
      bounds : HeldBounds x
      bounds = passed-bounds x row_store relation_store passed

      narrow : (r : Row) → StoreRow r → shifts_of r ≤ 4
      narrow r h = omega (arith, width-le-length r, h.0)

      each : All (λ r. shifts_of r ≤ 4) first.rows
      each = all-mono StoreRow (λ r. shifts_of r ≤ 4) narrow first.rows (handed-valid x row_store relation_store passed).row-shapes

      count : length first.rows ≤ most_equations
      count = rw length-rows_of (size-bounds x.sizes bounds.sizes).few-equations

  pub steps-small : (budget : ℕ) → SmallSteps (steps_call budget x row_store relation_store).result
  unfolding steps_call after_state_check after_steps moved_to stopped_by_of
  steps-small budget =
      subst (λ c. SmallSteps c.result) (sym (ap (after_state_check budget x row_store relation_store) passed)) (go (walked leading budget first))
    where
      go : {w : Walk} → Walked leading first budget w
          → SmallSteps (after_steps x.sizes w.taken w.outcome row_store relation_store).result
      go (used-up {v = v} l e) =
          let sound = handed-sound x row_store relation_store passed four l in
          record {
            few-steps = handed-few x row_store relation_store passed four l;
            state = small-state x.sizes v sound (shifts-few l);
            run = small-refusal 0;
          }
      go (at-end {v = v} h l e) =
          let sound = handed-sound x row_store relation_store passed four l in
          record {
            few-steps = handed-few x row_store relation_store passed four l;
            state = small-state x.sizes v sound (shifts-few l);
            run = small-acceptance x.sizes v sound (shifts-few l);
          }
      go (stopped {n = n} h l e g) =
          record { few-steps = handed-few x row_store relation_store passed four l; state = small-none; run = small-refusal n }
