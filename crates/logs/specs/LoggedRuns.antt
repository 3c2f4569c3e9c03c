-- Our own run with its log, as a whole call (SCOPE 13.5).
--
-- Main definitions
--   logged_of r rows relations log   the whole call, as the code gives it
--
-- Main statements
--   check-two, check-short, check-long   the checks, from those of the system
--   logged-refused, logged-done, logged-stopped   the whole call
use Prim.Native.Nat.{ℕ, zero, suc, ◌≤◌, ◌<◌}
use Rattle.std.proofs.Common.{le_refl, arith, sym, ◌∙◌, le-leb, le→leb}
use Rattle.std.specs.Prelude.{◌≡◌, ◌≢◌, Bool, true, false, ◌&&◌, List, ℤ, length}
use Rattle.std.proofs.Math.Path.{refl, ap}
use Rattle.std.proofs.Math.Bool.{cond}
use Rattle.std.proofs.lemmas.Bool.{lt-leb}
use Rattle.std.proofs.Math.Dec.{leb}
use Rattle.lists.specs.Overwritten.{overwrite}
use Rattle.lists.specs.Tests.{true_of}
use Rattle.rules.specs.Rows.{Row, Relation}
use Rattle.rules.specs.Elimination.{State, Outcome, done, refused, leading, whole_run_of}
use Rattle.rules.specs.Stores.{Sizes, equations, span, rows_of, relations_of, check_stores_of, sizes_right_of, count_right, lengths_right_of, numbers_right_of}
use Rattle.rules.specs.Calls.{zeros, refusal, unchanged, after_run_of, after_check, call_run}
use Rattle.std.specs.Prelude.{Result}
use Rattle.refusals.specs.declared.Refusal.{Refusal}
use Rattle.runs.specs.declared.RunReport.{RunReport}
use Rattle.runs.specs.CallLaws.{result_of, call_of}
use Rattle.log_steps.specs.Logs.{most_steps, log_need, own_need}
use Rattle.logs.specs.LogCalls.{check_replay, LoggedCall, logged_after, after_logged_check, logged_call}
use Rattle.own_logs.specs.Own.{own_store, own_changes, own_numbers}
use Rattle.logs.specs.declared.Logged.{Logged}

abbrev pub logged_of : Logged → List ℤ → List ℤ → List ℤ → LoggedCall
logged_of r rows relations log = record { call = call_of r.run rows relations; steps = r.steps; log = log }

-- ---- the checks

module _ (z : Sizes) (count : ℕ) (log rows relations : List ℤ) where
  abbrev sizes : Bool
  sizes = sizes_right_of z && count_right count

  abbrev lengths : Bool
  lengths = lengths_right_of (equations z) rows relations

  abbrev numbers : Bool
  numbers = numbers_right_of z count rows relations

  -- The checks of the system, and those of a replay of the longest log, by their tests.
  abbrev of_system : Bool → Bool → Bool → ℕ
  of_system s l n = cond s (cond l (cond n 0 5) 1) 2

  abbrev of_replay : Bool → Bool → Bool → Bool → ℕ
  of_replay s l n d = cond (s && true) (cond (l && d) (cond n 0 5) 1) 2

  replay-tests : check_replay z count most_steps log rows relations ≡ of_replay sizes lengths numbers (leb own_need (length log))
  unfolding check_replay log_need
  replay-tests =
      ap (λ t. cond (sizes && t) (cond (lengths && leb own_need (length log)) (cond numbers 0 5) 1) 2)
      (true_of (leb most_steps most_steps) (le→leb most_steps most_steps (le_refl most_steps)))

  system-tests : check_stores_of z count rows relations ≡ of_system sizes lengths numbers
  unfolding check_stores_of
  system-tests = refl

  pub check-two : check_stores_of z count rows relations ≡ 2 → 2 ≡ check_replay z count most_steps log rows relations
  check-two e = go sizes lengths numbers (leb own_need (length log)) (sym system-tests ∙ e) ∙ sym replay-tests
    where
      go : (s l n d : Bool) → of_system s l n ≡ 2 → 2 ≡ of_replay s l n d
      go false l n d e = refl
      go true false n d e = absurd (omega arith)
      go true true false d e = absurd (omega arith)
      go true true true d e = absurd (omega arith)

  pub check-short : check_stores_of z count rows relations ≢ 2 → length log < own_need → 1 ≡ check_replay z count most_steps log rows relations
  check-short f h =
      go sizes lengths numbers (λ e. f (system-tests ∙ e))
      ∙ sym (replay-tests ∙ ap (of_replay sizes lengths numbers) (lt-leb own_need (length log) h))
    where
      go : (s l n : Bool) → of_system s l n ≢ 2 → 1 ≡ of_replay s l n false
      go false l n f = absurd (f refl)
      go true false n f = refl
      go true true n f = refl

  pub check-long : own_need ≤ length log → check_stores_of z count rows relations ≡ check_replay z count most_steps log rows relations
  check-long h =
      system-tests ∙ go sizes lengths numbers
      ∙ sym (replay-tests ∙ ap (of_replay sizes lengths numbers) (le-leb own_need (length log) h))
    where
      go : (s l n : Bool) → of_system s l n ≡ of_replay s l n true
      go false l n = refl
      go true false n = refl
      go true true n = refl

-- ---- the whole call

module _ (z : Sizes) (count : ℕ) (log rows relations : List ℤ) where
  abbrev input : List Row
  input = rows_of (equations z) rows

  abbrev given : List Relation
  given = relations_of count relations

  -- Refusals 1, 2 and 5.
  pub logged-refused : (r : Result RunReport Refusal) (n : ℕ) → n ≢ 0 → n ≡ check_replay z count most_steps log rows relations → result_of r ≡ refusal n
      → logged_of (record { run = r; steps = 0 }) rows relations log ≡ logged_call z count log rows relations
  unfolding logged_call after_logged_check unchanged call_of
  logged-refused r zero h e f = absurd (h refl)
  logged-refused r (suc n) h e f =
      (λ i. record { call = record { result = f i; row_store = rows; relation_store = relations }; steps = 0; log = log })
      ∙ ap (after_logged_check z count log rows relations) e

  -- What a run leaves is what its call leaves.
  module _ (r : Result RunReport Refusal) (steps : ℕ) (rows' relations' log' : List ℤ) (passed : check_replay z count most_steps log rows relations ≡ 0)
      (right : check_stores_of z count rows relations ≡ 0) (call : call_of r rows' relations' ≡ call_run leading z count rows relations) where
    after_run : (x : Outcome) → whole_run_of leading (span z) input given ≡ x → call_of r rows' relations' ≡ after_run_of leading z x rows relations
    unfolding call_run after_check
    after_run x e =
        call ∙ ap (after_check leading z count rows relations) right ∙ ap (λ y. after_run_of leading z y rows relations) e

    logged : (x : Outcome) → whole_run_of leading (span z) input given ≡ x
        → logged_after z x (own_changes input given) log rows relations ≡ logged_call z count log rows relations
    unfolding logged_call after_logged_check
    logged x e =
        ap (λ y. logged_after z y (own_changes input given) log rows relations) (sym e)
        ∙ ap (after_logged_check z count log rows relations) (sym passed)

    pub logged-done : (s : State) → whole_run_of leading (span z) input given ≡ done s → steps ≡ length (own_changes input given)
        → log' ≡ overwrite (own_store (own_changes input given) (own_numbers s.order)) log
        → logged_of (record { run = r; steps = steps }) rows' relations' log' ≡ logged_call z count log rows relations
    unfolding logged_after
    logged-done s e f g =
        let same = after_run (done s) e in (λ i. record { call = same i; steps = f i; log = g i }) ∙ logged (done s) e

    pub logged-stopped : (n : ℕ) → whole_run_of leading (span z) input given ≡ refused n → steps ≡ 0 → log' ≡ overwrite (zeros own_need) log
        → logged_of (record { run = r; steps = steps }) rows' relations' log' ≡ logged_call z count log rows relations
    unfolding logged_after
    logged-stopped n e f g =
        let same = after_run (refused n) e in (λ i. record { call = same i; steps = f i; log = g i }) ∙ logged (refused n) e
