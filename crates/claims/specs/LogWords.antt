-- The words in which the claims on logs are said.
--
-- Main definitions
--   Replayed z count steps log rows relations c   c is what the replay of a log gave back and left: the contract of `logs::replay`
--   ExportedReplay, ExportedLogged     what an exported call gave back and left: its contract
--   ReplayRange, ReplayLong, LoggedLong   the sizes, the count and the steps are in range; the lent stores are long enough
--   ReplayReturns n                    a number that a replay returns
--   ReplayCourse, LoggedCourse         all that the exported calls can do
--   ReplayGives, LoggedGives           an exported call has left what the call c leaves, and the numbers of its result
--   steps_logged e                      the steps of the log, as the result tells them
use Rattle.std.specs.Prelude.{ℕ, ◌≤◌, ◌≡◌, ◌⊎◌, List, length, drop, get_or, ℤ, pos, nat_abs}
use Rattle.lists.specs.Overwritten.{overwrite}
use Rattle.rules.specs.Elimination.{leading, refused}
use Rattle.rules.specs.Stores.{Sizes, equations, row_need, relation_need}
use Rattle.rules.specs.Layout.{NumbersRight}
use Rattle.rules.specs.Calls.{Call, zeros}
use Rattle.log_steps.specs.Logs.{most_steps, log_need, own_need}
use Rattle.logs.specs.LogCalls.{replay_stores, replay_call, LoggedCall, logged_call}
use Rattle.logs.specs.LogCallLaws.{ReplayNumber}
use Rattle.export_results.specs.Results.{Exported, kept, run_need}
use Rattle.exported_runs.specs.Runs.{ran, run_numbers_of}
use Rattle.exported_logs.specs.LogNumbers.{export_replay, LoggedExport, logged_need, logged_numbers, logged_kept, export_logged}
use Rattle.claims.specs.RunWords.{Ran, Rewritten, InRange, LongEnough, Passed}

-- ---- the calls

pub record Replayed (z : Sizes) (count steps : ℕ) (log rows relations : List ℤ) (c : Call) : Type 0 where
  pub called : c ≡ replay_call z count steps log rows relations

-- The contract of `wurgalm_replay`.
pub record ExportedReplay (z : Sizes) (count steps : ℕ) (log rows relations result : List ℤ) (e : Exported) : Type 0 where
  pub called : e ≡ export_replay z count steps log rows relations result

-- The contract of `wurgalm_run_logged`.
pub record ExportedLogged (z : Sizes) (count : ℕ) (log rows relations result : List ℤ) (e : LoggedExport) : Type 0 where
  pub called : e ≡ export_logged z count log rows relations result

-- ---- the checks

-- At most 1,000 steps (SCOPE 13.1).
abbrev pub ReplayRange : Sizes → ℕ → ℕ → Type 0
ReplayRange z count steps = InRange z count × (steps ≤ most_steps)

-- The log and the result are two of the stores: 36 numbers for each step and four, and ten numbers (SCOPE 13.1, 13.43).
abbrev pub ReplayLong : Sizes → ℕ → List ℤ → List ℤ → List ℤ → List ℤ → Type 0
ReplayLong z steps log rows relations result =
    (LongEnough z rows relations × (log_need steps ≤ length log)) × (run_need ≤ length result)

-- Room for the longest log, and eleven numbers (SCOPE 13.52, 13.55).
abbrev pub LoggedLong : Sizes → List ℤ → List ℤ → List ℤ → List ℤ → Type 0
LoggedLong z log rows relations result =
    (LongEnough z rows relations × (own_need ≤ length log)) × (logged_need ≤ length result)

-- ---- what the calls can do

-- 0, a refusal by the checks, or 13, 7, 8 or 9 (SCOPE 13.26).
abbrev pub ReplayReturns : ℕ → Type 0
ReplayReturns n = (n ≡ 0) ⊎ ((n ≡ 1) ⊎ ((n ≡ 2) ⊎ ((n ≡ 5) ⊎ ReplayNumber n)))

pub data ReplayCourse (z : Sizes) (count steps : ℕ) (log rows relations result : List ℤ) : Exported → Type 0 where
  replay-range-wrong : ¬ ReplayRange z count steps → ReplayCourse z count steps log rows relations result (kept 2 rows relations result)
  replay-store-short : ReplayRange z count steps → ¬ ReplayLong z steps log rows relations result
      → ReplayCourse z count steps log rows relations result (kept 1 rows relations result)
  replay-number-wrong : ReplayRange z count steps → ReplayLong z steps log rows relations result → ¬ NumbersRight z count rows relations
      → ReplayCourse z count steps log rows relations result (kept 5 rows relations result)
  log-refused : Passed z count rows relations → steps ≤ most_steps → ReplayLong z steps log rows relations result
      → (n : ℕ) → ReplayNumber n → replay_stores z count steps log rows relations ≡ refused n
      → ReplayCourse z count steps log rows relations result
      (record {
        refusal = n;
        row_store = overwrite (zeros (row_need (equations z))) rows;
        relation_store = overwrite (zeros relation_need) relations;
        result_store = overwrite (zeros run_need) result;
      })
  log-accepted : Passed z count rows relations → steps ≤ most_steps → ReplayLong z steps log rows relations result
      → (c : Call) → Replayed z count steps log rows relations c → c.result.refusal ≡ 0
      → ReplayCourse z count steps log rows relations result (ran c result)

pub record ReplayGives (z : Sizes) (count steps : ℕ) (log rows relations result : List ℤ) (c : Call) (e : Exported) : Type 0 where
  pub replay : Replayed z count steps log rows relations c
  pub accepted : c.result.refusal ≡ 0
  pub same_rows : e.row_store ≡ c.row_store
  pub same-relations : e.relation_store ≡ c.relation_store
  pub numbers : Rewritten run_need (run_numbers_of c.result) result e.result_store

pub data LoggedCourse (z : Sizes) (count : ℕ) (log rows relations result : List ℤ) : LoggedExport → Type 0 where
  logged-range-wrong : ¬ InRange z count → LoggedCourse z count log rows relations result (logged_kept 2 log rows relations result)
  logged-store-short : InRange z count → ¬ LoggedLong z log rows relations result
      → LoggedCourse z count log rows relations result (logged_kept 1 log rows relations result)
  logged-number-wrong : InRange z count → LoggedLong z log rows relations result → ¬ NumbersRight z count rows relations
      → LoggedCourse z count log rows relations result (logged_kept 5 log rows relations result)
  as-run-logged : Passed z count rows relations → LoggedLong z log rows relations result
      → (c : LoggedCall) → c ≡ logged_call z count log rows relations → Ran leading z count rows relations c.call
      → LoggedCourse z count log rows relations result
      (record {
        refusal = c.call.result.refusal;
        row_store = c.call.row_store;
        relation_store = c.call.relation_store;
        log_store = c.log;
        result_store = overwrite (logged_numbers c) result;
      })

-- An exported run with its log that is not refused has left what a run on the leading side leaves, the log, and eleven numbers.
pub record LoggedGives (z : Sizes) (count : ℕ) (log rows relations result : List ℤ) (c : LoggedCall) (e : LoggedExport) : Type 0 where
  pub written : c ≡ logged_call z count log rows relations
  pub run : Ran leading z count rows relations c.call
  pub accepted : c.call.result.refusal ≡ 0
  pub same_rows : e.row_store ≡ c.call.row_store
  pub same-relations : e.relation_store ≡ c.call.relation_store
  pub same_log : e.log_store ≡ c.log
  pub numbers : Rewritten logged_need (logged_numbers c) result e.result_store

-- The number behind the ten of a run (SCOPE 13.55).
abbrev pub steps_logged : LoggedExport → ℕ
steps_logged e = nat_abs (get_or (drop run_need e.result_store) 0 (pos 0))
