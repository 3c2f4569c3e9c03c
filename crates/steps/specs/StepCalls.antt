-- The call of a run with a budget, from what the code's results and the stores hold.
--
-- Main definitions
--   result_of r, call_of r rows relations   the result, and the whole call, as the definitions have them
--   held_by z p, state_after_of z n p   the state that is given back with a progress, and after a refusal n
--   run_in r, finished_in r     the result of the run in that of the code, and whether it is finished
--   run_after D x               the result of a run that came to x
--   Stands D rows p            what the row store and the progress hold when a run stops
--   progress_in x               the progress that a state which is handed in says
--
-- Main statements
--   call-unmoved               the whole call of a state that does not
use Prim.Native.Nat.{ℕ, zero, suc, ◌≤◌}
use Rattle.std.proofs.Common.{sym, ◌∙◌}
use Rattle.std.specs.Prelude.{◌≡◌, refl, ◌≢◌, Bool, true, false, List, ℤ, length, take}
use Rattle.std.proofs.Math.Path.{ap}
use Rattle.lists.specs.Padded.{pad_to}
use Rattle.rules.specs.Limits.{column_count}
use Rattle.rules.specs.Elimination.{leading, State, Outcome, going, done, refused, diagonal}
use Rattle.rules.specs.Stores.{Sizes, equations, with_equations_of, row_need}
use Rattle.rules.specs.Calls.{Result, refusal, reported_order, acceptance}
use Rattle.working_rows.specs.Found.{Columns}
use Rattle.sides.specs.Lent.{Within}
use Rattle.sides.specs.FurthestRoots.{Nonzero}
use Rattle.sides.specs.ReportLaws.{settled_state}
use Rattle.reduction.specs.Progress.{outcome_of}
use Rattle.reduction.specs.declared.step.Progress.{Progress}
use Rattle.refusals.specs.declared.Refusal.{Refusal}
use Rattle.runs.specs.declared.RunReport.{RunReport}
use Rattle.std.specs.Prelude as Std
use Rattle.std.proofs.Common.{leb, Ok, Err, Some, None}
use Rattle.runs.specs.CallLaws as RunLaws
use Rattle.steps.specs.HeldCalls as Calls
use Rattle.steps.specs.HeldCalls.{Held, no_state_of, the_columns_of, StepsCall, unmoved}
use Rattle.steps.specs.HeldCalls.{after_state_check, steps_call, check_state_of}
use Rattle.steps.specs.SoundStates.{HeldBounds, sizes_held-iff, check_state-zero}
use Rattle.steps.specs.Handed.{held_of}
use Rattle.steps.specs.declared.StepsResult.{StepsResult}

-- The result of the run: zeros where it is not finished.
unfoldable pub run_in : Std.Result (Std.Option RunReport) Refusal → Result
run_in (Ok None) = refusal 0
run_in (Ok (Some report)) = RunLaws.result_of (Ok report)
run_in (Err r) = RunLaws.result_of (Err r)

abbrev pub finished_in : Std.Result (Std.Option RunReport) Refusal → Bool
finished_in (Ok None) = false
finished_in (Ok (Some report)) = true
finished_in (Err r) = false

unfoldable pub result_of : StepsResult → Calls.StepsResult
unfolding held_of run_in
result_of r = record { steps = r.steps; finished = finished_in r.run; state = held_of r.state; run = run_in r.run }

unfoldable pub call_of : StepsResult → List ℤ → List ℤ → StepsCall
unfolding result_of
call_of r rows relations = record { result = result_of r; row_store = rows; relation_store = relations }

-- ---- what is given back

unfoldable pub held_by : Sizes → Progress → Held
unfolding with_equations_of reported_order
held_by z p =
    record {
      sizes = with_equations_of p.rows z;
      relations = p.count;
      settled = p.settled;
      order = reported_order (take p.settled p.order);
      shifts = p.shifts;
    }

unfoldable pub state_after_of : Sizes → ℕ → Progress → Held
unfolding held_by
state_after_of z zero p = held_by z p
state_after_of z (suc n) p = no_state_of

unfoldable pub run_after : ℕ → Outcome → Result
unfolding acceptance refusal
run_after D (going s) = refusal 0
run_after D (done s) = acceptance leading D s
run_after D (refused n) = refusal n

pub after-refused : (z : Sizes) (n : ℕ) (p : Progress) → n ≢ 0 → no_state_of ≡ state_after_of z n p
unfolding state_after_of
after-refused z zero p h = absurd (h refl)
after-refused z (suc n) p h = refl

pub after-held : (z : Sizes) (n : ℕ) (p : Progress) → n ≡ 0 → held_by z p ≡ state_after_of z n p
unfolding state_after_of
after-held z n p e = ap (λ k. state_after_of z k p) (sym e)

-- The result by the answer of the code.
module _ (D : ℕ) (r : Result) (s : State) where
  pub run-refused : (n : ℕ) (d : Bool) → n ≢ 0 → r ≡ refusal n → r ≡ run_after D (outcome_of n d s)
  unfolding run_after outcome_of
  run-refused zero d h e = absurd (h refl)
  run-refused (suc n) d h e = e

  pub run-going : (n : ℕ) (d : Bool) → n ≡ 0 → d ≡ false → r ≡ refusal 0 → r ≡ run_after D (outcome_of n d s)
  unfolding run_after outcome_of
  run-going n d e f g = rw (e, f) g

  pub run-done : (n : ℕ) (d : Bool) → n ≡ 0 → d ≡ true → r ≡ acceptance leading D s → r ≡ run_after D (outcome_of n d s)
  unfolding run_after outcome_of
  run-done n d e f g = rw (e, f) g

-- ---- a state that is handed in

unfoldable pub progress_in : Held → Progress
unfolding pad_to the_columns_of
progress_in x =
    record {
      rows = equations x.sizes;
      settled = x.settled;
      order = pad_to column_count 0 (the_columns_of x);
      count = x.relations;
      shifts = x.shifts;
    }

pub passed-bounds : (x : Held) (row_store relation_store : List ℤ) → check_state_of x row_store relation_store ≡ 0 → HeldBounds x
passed-bounds x row_store relation_store passed = (sizes_held-iff x).0 ((check_state-zero x row_store relation_store).0 passed).sizes

-- ---- the whole call

-- What the row store and the progress hold when a run stops that is not refused. No diagonal polynomial of a finished run is zero.
pub record Stands (D : ℕ) (rows : List ℤ) (p : Progress) : Type 0 where
  pub rows-within : Within (row_need p.rows) rows
  pub few-settled : p.settled ≤ column_count
  pub four : length p.order ≡ column_count
  pub columns : Columns p.order
  pub all_settled : leb p.rows p.settled ≡ true → p.rows ≡ p.settled
  pub nonzero : leb p.rows p.settled ≡ true → Nonzero (diagonal leading D (settled_state p.settled rows p.order))

pub call-unmoved : (budget : ℕ) (x : Held) (row_store relation_store : List ℤ) (n : ℕ) (run : Result) → n ≢ 0
    → n ≡ check_state_of x row_store relation_store → run ≡ refusal n
    → record {
      result = record { steps = 0; finished = false; state = x; run = run };
      row_store = row_store;
      relation_store = relation_store;
    } ≡ steps_call budget x row_store relation_store
unfolding steps_call after_state_check unmoved
call-unmoved budget x row_store relation_store zero run h e f = absurd (h refl)
call-unmoved budget x row_store relation_store (suc n) run h e f =
    ap (λ r. record {
      result = record { steps = 0; finished = false; state = x; run = r };
      row_store = row_store;
      relation_store = relation_store;
    }) f ∙ ap (after_state_check budget x row_store relation_store) e
