-- The calls on lent stores: the replay of a log, and our own run with its log (SCOPE 13.4, 13.5).
--
-- Main definitions
--   check_replay                the checks before the work: sizes (2), lengths (1), numbers (5)
--   replay_call                 the replay on lent stores; the log's store is only read
--   LoggedCall, logged_call     our own run with its log
use Rattle.std.specs.Prelude.{ℕ, zero, suc, ◌&&◌, cond, List, leb, length, ℤ}
use Rattle.lists.specs.Overwritten.{overwrite}
use Rattle.rules.specs.Elimination.{Outcome, going, done, refused, leading, whole_run_of}
use Rattle.rules.specs.Stores.{Sizes, equations, span, rows_of, relations_of, sizes_right_of, count_right, lengths_right_of, numbers_right_of}
use Rattle.rules.specs.Calls.{Call, after_run_of, unchanged, zeros}
use Rattle.log_steps.specs.Logs.{Change, most_steps, steps_in, numbers_in, log_need, own_need, replay}
use Rattle.own_logs.specs.Own.{own_changes, own_numbers, own_store}

-- Sizes and the number of steps (2), the lengths of rows, relations and log (1), the system's numbers (5) (SCOPE 13.41).
unfoldable pub check_replay : Sizes → ℕ → ℕ → List ℤ → List ℤ → List ℤ → ℕ
unfolding sizes_right_of count_right lengths_right_of numbers_right_of log_need
check_replay z count steps log row_store relation_store =
    let numbers : ℕ = cond (numbers_right_of z count row_store relation_store) 0 5 in
    let lengths : ℕ = cond (lengths_right_of (equations z) row_store relation_store && leb (log_need steps) (length log)) numbers 1 in
    cond ((sizes_right_of z && count_right count) && leb steps most_steps) lengths 2

-- ---- the replay

unfoldable pub replay_stores : Sizes → ℕ → ℕ → List ℤ → List ℤ → List ℤ → Outcome
unfolding replay steps_in numbers_in rows_of relations_of span
replay_stores z count steps log row_store relation_store =
    replay z.m (span z) (steps_in steps log) (numbers_in steps log) (rows_of (equations z) row_store) (relations_of count relation_store)

-- What is accepted is left in the stores as a run leaves it; 13 and the limits are found during the work and make the needed parts
-- zero (SCOPE 13.42).
unfoldable pub after_replay_check : Sizes → ℕ → ℕ → List ℤ → List ℤ → List ℤ → ℕ → Call
unfolding after_run_of replay_stores unchanged
after_replay_check z count steps log row_store relation_store zero =
    after_run_of leading z (replay_stores z count steps log row_store relation_store) row_store relation_store
after_replay_check z count steps log row_store relation_store (suc n) = unchanged (suc n) row_store relation_store

unfoldable pub replay_call : Sizes → ℕ → ℕ → List ℤ → List ℤ → List ℤ → Call
unfolding after_replay_check check_replay
replay_call z count steps log row_store relation_store =
    after_replay_check z count steps log row_store relation_store (check_replay z count steps log row_store relation_store)

-- ---- our own run with its log

pub record LoggedCall : Type 0 where
  pub call : Call
  pub steps : ℕ
  pub log : List ℤ

-- On a refusal during the work the log's store is zero in its needed part (SCOPE 13.52).
unfoldable pub logged_after : Sizes → Outcome → List Change → List ℤ → List ℤ → List ℤ → LoggedCall
unfolding after_run_of overwrite own_store own_numbers zeros
logged_after z (done s) changes log row_store relation_store =
    record {
      call = after_run_of leading z (done s) row_store relation_store;
      steps = length changes;
      log = overwrite (own_store changes (own_numbers s.order)) log;
    }
logged_after z (refused n) changes log row_store relation_store =
    record { call = after_run_of leading z (refused n) row_store relation_store; steps = 0; log = overwrite (zeros own_need) log }
logged_after z (going s) changes log row_store relation_store =
    record { call = after_run_of leading z (going s) row_store relation_store; steps = 0; log = overwrite (zeros own_need) log }

-- The work is that of a run (SCOPE 13.5).
unfoldable pub after_logged_check : Sizes → ℕ → List ℤ → List ℤ → List ℤ → ℕ → LoggedCall
unfolding logged_after whole_run_of rows_of relations_of span own_changes unchanged
after_logged_check z count log row_store relation_store zero =
    let rows = rows_of (equations z) row_store in
    let relations = relations_of count relation_store in
    logged_after z (whole_run_of leading (span z) rows relations) (own_changes rows relations) log row_store relation_store
after_logged_check z count log row_store relation_store (suc n) =
    record { call = unchanged (suc n) row_store relation_store; steps = 0; log = log }

-- The checks are those of a replay of the longest log.
unfoldable pub logged_call : Sizes → ℕ → List ℤ → List ℤ → List ℤ → LoggedCall
unfolding after_logged_check check_replay
logged_call z count log row_store relation_store =
    after_logged_check z count log row_store relation_store (check_replay z count most_steps log row_store relation_store)
