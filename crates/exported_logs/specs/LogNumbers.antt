-- The exported calls on logs: the replay of a log and our own run with its log, whose results are lent stores too (SCOPE 13.43, 13.55).
--
-- Main definitions
--   export_replay ..           the exported replay of a log
--   logged_numbers c           the eleven numbers of a run with its log
--   LoggedExport, export_logged ..   the exported run with its log, and every lent store afterwards
--   SmallLogged c             the counts and columns of such a run are small
--
-- Main statements
--   none_lent, short-steps, short-system   the checks of a call whose stores hold nothing
--   replay-shifts             a replay counts no more shifts than its log has steps
--   refused-fields            a refused replay has 0 in all its other fields
--   replay-small, logged-small   the results of both calls are small
--   logged-run                where the checks pass, the run is a run on the leading side
--   replay-short, replay-done, logged-short, logged-done   the calls with a result store that is too short, and with one that is
--                             long enough
--   number_behind             one more number behind those that were put
use Prim.Native.Nat.{ℕ, zero, suc, ◌+◌, ◌*◌, ◌≤◌, ◌<◌, zero-le}
use Rattle.std.proofs.Common.{le_refl, arith, ◌∙◌, le-leb}
use Rattle.std.proofs.Math.Nat.{le_of_lt}
use Rattle.std.specs.Prelude.{◌≡◌, Bool, true, false, ◌&&◌, ℤ, pos, length, set}
use Rattle.std.proofs.Math.Path.{refl, sym, ap, subst}
use Rattle.std.proofs.Math.Bool.{cond, and-false}
use mathlib.Core.List.{List, [], ◌∷◌, ◌++◌}
use Rattle.std.proofs.lemmas.Bool.{lt-leb}
use Rattle.std.proofs.Math.Dec.{leb}
use Rattle.lists.specs.Everywhere.{All}
use Rattle.lists.specs.Overwritten.{overwrite}
use Rattle.lists.specs.Parts.{parts-length}
use Rattle.rules.specs.Limits.{row_length}
use Rattle.rules.specs.Rows.{Row, Relation}
use Rattle.rules.specs.Elimination.{State, start, Outcome, going, done, refused, and_then, leading, whole_run_of}
use Rattle.rules.specs.Elimination.{exchange, put_row, list_relations, count_shift, drop_row}
use Rattle.rules.specs.Stores.{Sizes, equations, span, rows_of, relations_of, row_need, check_stores_of}
use Rattle.rules.specs.Stores.{sizes_right_of, count_right, lengths_right_of, numbers_right_of}
use Rattle.rules.specs.Layout.{size-bounds, check_stores-zero, stores-valid}
use Rattle.rules.specs.Calls.{Call, call_run, after_check, after_run_of, unchanged, cleared, refusal, acceptance}
use Rattle.theory.specs.Steps.{going-injective, done-injective, going≢done, going≢refused, done≢refused}
use Rattle.log_steps.specs.Logs.{most_steps, step_length, change_of, changed_if, replayed, with_order, ordered, order_holds_of, the_columns_of}
use Rattle.log_steps.specs.Logs.{replay, steps_in, log_need}
use Rattle.log_steps.specs.Changes.{Changed, swapped, combined, raised, lowered, omitted, replayed-not-done}
use Rattle.log_steps.proofs.Changes.{changed-view}
use Rattle.own_logs.specs.Own.{own_changes}
use Rattle.logs.specs.OwnRuns.{own-few}
use Rattle.logs.specs.AcceptedLogs.{AcceptedLog, diagonal-nonzero, output-valid}
use Rattle.logs.specs.LogCalls.{check_replay, replay_stores, after_replay_check, replay_call, LoggedCall, logged_after, after_logged_check}
use Rattle.logs.specs.LogCalls.{logged_call}
use Rattle.logs.specs.LogCallLaws.{check-right, accepted-call}
use Rattle.steps.specs.HeldCalls.{pivots_right_of}
use Rattle.export_results.specs.Results.{Exported, kept, run_need, none-checked}
use Rattle.exported_runs.specs.Runs.{run_numbers_of, SmallResult, run_after, settled-small, run-zeros, run_small}
use Rattle.export_results.specs.Results.{kept_or}

-- ---- the calls

-- The result is that of a run. A store of the result that is too short is found with the other lengths (SCOPE 3.53): the call is then
-- judged as with stores that hold nothing.
unfoldable pub export_replay : Sizes → ℕ → ℕ → List ℤ → List ℤ → List ℤ → List ℤ → Exported
unfolding run_after replay_call kept check_replay
export_replay z count steps log row_store relation_store result_store =
    cond (leb run_need (length result_store)) (run_after (replay_call z count steps log row_store relation_store) result_store)
    (kept (check_replay z count steps [] [] []) row_store relation_store result_store)

-- The ten numbers of a run, then the steps of the log (SCOPE 13.55).
abbrev pub logged_need : ℕ
logged_need = 11

unfoldable pub logged_numbers : LoggedCall → List ℤ
unfolding run_numbers_of
logged_numbers c = run_numbers_of c.call.result ++ (pos c.steps ∷ [])

pub record LoggedExport : Type 0 where
  pub refusal : ℕ
  pub row_store : List ℤ
  pub relation_store : List ℤ
  pub log_store : List ℤ
  pub result_store : List ℤ

-- A refusal of the checks leaves the result store as it was; 7 to 10 make its eleven numbers zero (SCOPE 3.54).
unfoldable pub logged_left : LoggedCall → List ℤ → LoggedExport
unfolding kept_or logged_numbers
logged_left c result_store =
    record {
      refusal = c.call.result.refusal;
      row_store = c.call.row_store;
      relation_store = c.call.relation_store;
      log_store = c.log;
      result_store = kept_or c.call.result.refusal (logged_numbers c) result_store;
    }

unfoldable pub logged_kept : ℕ → List ℤ → List ℤ → List ℤ → List ℤ → LoggedExport
logged_kept n log row_store relation_store result_store =
    record { refusal = n; row_store = row_store; relation_store = relation_store; log_store = log; result_store = result_store }

unfoldable pub export_logged : Sizes → ℕ → List ℤ → List ℤ → List ℤ → List ℤ → LoggedExport
unfolding logged_left logged_call logged_kept check_replay
export_logged z count log row_store relation_store result_store =
    cond (leb logged_need (length result_store)) (logged_left (logged_call z count log row_store relation_store) result_store)
    (logged_kept (check_replay z count most_steps [] [] []) log row_store relation_store result_store)

-- ---- stores that hold nothing

module _ (z : Sizes) (count steps : ℕ) where
  pub none_lent : check_replay z count steps [] [] [] ≡ cond ((sizes_right_of z && count_right count) && leb steps most_steps) 1 2
  unfolding check_replay lengths_right_of row_need
  none_lent =
      ap (λ b. cond ((sizes_right_of z && count_right count) && leb steps most_steps)
      (cond (b && leb (log_need steps) 0) (cond (numbers_right_of z count [] []) 0 5) 1) 2)
      (and-false (leb (equations z * row_length) 0))

  -- Too many steps are found with the sizes (SCOPE 13.41).
  pub short-steps : most_steps < steps → 2 ≡ check_replay z count steps [] [] []
  short-steps h =
      sym (none_lent ∙ ap (λ b. cond ((sizes_right_of z && count_right count) && b) 1 2) (lt-leb steps most_steps h)
      ∙ ap (λ b. cond b 1 2) (and-false (sizes_right_of z && count_right count)))

  pub short-system : steps ≤ most_steps → check_stores_of z count [] [] ≡ check_replay z count steps [] [] []
  short-system h =
      none-checked z count ∙ by (sizes_right_of z && count_right count)
      ∙ sym (none_lent ∙ ap (λ b. cond ((sizes_right_of z && count_right count) && b) 1 2) (le-leb steps most_steps h))
    where
      by : (b : Bool) → cond {A = ℕ} b 1 2 ≡ cond (b && true) 1 2
      by true = refl
      by false = refl

-- ---- the shifts of a replay

-- A step counts one shift or none.
changed-shifts : {D : ℕ} {s u : State} → Changed D s u → u.shifts ≤ suc s.shifts
unfolding exchange put_row list_relations count_shift drop_row
changed-shifts {s = s} (swapped i j two) = le_of_lt (le_refl (suc s.shifts))
changed-shifts {s = s} (combined i j d g h two m p a l r e) = le_of_lt (le_refl (suc s.shifts))
changed-shifts {s = s} (raised i h z r e) = le_refl (suc s.shifts)
changed-shifts {s = s} (lowered i h z r e) = le_of_lt (le_refl (suc s.shifts))
changed-shifts {s = s} (omitted i h z) = le_of_lt (le_refl (suc s.shifts))

replayed-shifts : (D : ℕ) (l : List (List ℤ)) (s : State) {u : State} → All (λ x. length x ≡ step_length) l
    → replayed D l s ≡ going u → u.shifts ≤ length l + s.shifts
unfolding replayed All and_then
replayed-shifts D [] s a e = let same = ap (λ v. v.shifts) (going-injective e) in omega arith
replayed-shifts D (x ∷ l) s {u} a e = go (changed_if D s (change_of x)) refl (λ v. replayed-shifts D l v a.1) e
  where
    go : (o : Outcome) → changed_if D s (change_of x) ≡ o
        → ((v : State) → replayed D l v ≡ going u → u.shifts ≤ length l + v.shifts)
        → and_then o (replayed D l) ≡ going u → u.shifts ≤ suc (length l) + s.shifts
    go (going v) f rec e = omega (arith, rec v e, changed-shifts (changed-view D s x a.0 f))
    go (done v) f rec e = absurd (going≢done (sym e))
    go (refused n) f rec e = absurd (going≢refused (sym e))

-- The order at the end leaves the shifts.
ordered-shifts : (t : Bool) (order : List ℕ) (u s : State) → cond t (done (with_order order u)) (refused 13) ≡ done s → s.shifts ≡ u.shifts
unfolding with_order
ordered-shifts true order u s e = sym (ap (λ v. v.shifts) (done-injective e))
ordered-shifts false order u s e = absurd (done≢refused (sym e))

pub replay-shifts : {z : Sizes} {l : List (List ℤ)} {numbers : List ℤ} {rows : List Row} {relations : List Relation} {s : State}
    → AcceptedLog z l numbers rows relations s → s.shifts ≤ length l
unfolding replay and_then ordered start
replay-shifts {z} {l} {numbers} {rows} {relations} {s} a = go (replayed (span z) l (start rows relations)) refl a.accepts
  where
    go : (o : Outcome) → replayed (span z) l (start rows relations) ≡ o → and_then o (ordered z.m numbers) ≡ done s
        → s.shifts ≤ length l
    go (going u) e f =
        let w = length u.rows in
        let order = the_columns_of w numbers in
        omega (
          arith,
          replayed-shifts (span z) l (start rows relations) a.steps e,
          ordered-shifts (order_holds_of z.m w numbers && pivots_right_of order u.rows w) order u s f,
        )
    go (done u) e f = absurd (replayed-not-done (span z) l (start rows relations) e)
    go (refused n) e f = absurd (done≢refused (sym f))

-- ---- the result of a replay is small

module _ (z : Sizes) (count steps : ℕ) (log row_store relation_store : List ℤ) where
  abbrev replayed_call : Call
  replayed_call = replay_call z count steps log row_store relation_store

  pub refused-fields : (n : ℕ) → replayed_call.result.refusal ≡ suc n → replayed_call.result ≡ refusal (suc n)
  unfolding replay_call after_replay_check unchanged after_run_of cleared refusal acceptance
  refused-fields n = by-check (check_replay z count steps log row_store relation_store)
    where
      by-outcome : (o : Outcome) → (after_run_of leading z o row_store relation_store).result.refusal ≡ suc n
          → (after_run_of leading z o row_store relation_store).result ≡ refusal (suc n)
      by-outcome (going s) e = ap refusal e
      by-outcome (done s) e = absurd (omega arith)
      by-outcome (refused k) e = ap refusal e

      by-check : (k : ℕ) → (after_replay_check z count steps log row_store relation_store k).result.refusal ≡ suc n
          → (after_replay_check z count steps log row_store relation_store k).result ≡ refusal (suc n)
      by-check zero e = by-outcome (replay_stores z count steps log row_store relation_store) e
      by-check (suc k) e = ap refusal e

  call-small : SmallResult replayed_call.result
  unfolding replay_call after_replay_check unchanged after_run_of steps_in
  call-small = by-check (check_replay z count steps log row_store relation_store) refl
    where
      by_number : steps ≤ most_steps → (n : ℕ) → replayed_call.result.refusal ≡ n → SmallResult replayed_call.result
      by_number few zero e =
          let (s, a, same) = accepted-call z count steps log row_store relation_store e in
          subst (λ c. SmallResult c.result) (sym same)
          (settled-small leading z s (size-bounds z a.valid.sizes) (output-valid a) (diagonal-nonzero a)
          (omega (arith, replay-shifts a, parts-length step_length steps log)))
      by_number few (suc n) e = subst SmallResult (sym (refused-fields n e)) (run-zeros (suc n))

      by-check : (n : ℕ) → check_replay z count steps log row_store relation_store ≡ n → SmallResult replayed_call.result
      by-check zero e = by_number ((check-right z count steps log row_store relation_store).0 e).1 replayed_call.result.refusal refl
      by-check (suc n) e =
          subst (λ k. SmallResult (after_replay_check z count steps log row_store relation_store k).result) (sym e) (run-zeros (suc n))

  pub replay-small : {x : Call} → x ≡ replayed_call → SmallResult x.result
  replay-small same = subst (λ c. SmallResult c.result) (sym same) call-small

  -- ---- the exported replay

  module _ (result_store : List ℤ) where
    abbrev by_replay : Bool → Exported
    by_replay b =
        cond b (run_after replayed_call result_store) (kept (check_replay z count steps [] [] []) row_store relation_store result_store)

    pub replay-short : {n : ℕ} → n ≡ check_replay z count steps [] [] [] → length result_store < run_need
        → kept n row_store relation_store result_store ≡ export_replay z count steps log row_store relation_store result_store
    unfolding export_replay
    replay-short e h =
        ap (λ k. kept k row_store relation_store result_store) e
        ∙ sym (ap by_replay (lt-leb run_need (length result_store) h))

    -- The call, from the replay that was made and the result store that was left.
    pub replay-done : {x : Call} {after : List ℤ} → x ≡ replayed_call
        → after ≡ kept_or x.result.refusal (run_numbers_of x.result) result_store → run_need ≤ length result_store
        → record { refusal = x.result.refusal; row_store = x.row_store; relation_store = x.relation_store; result_store = after }
        ≡ export_replay z count steps log row_store relation_store result_store
    unfolding export_replay run_after
    replay-done {x} e f h =
        (λ i. record { refusal = x.result.refusal; row_store = x.row_store; relation_store = x.relation_store; result_store = f i })
        ∙ ap (λ y. run_after y result_store) e
        ∙ sym (ap by_replay (le-leb run_need (length result_store) h))

-- ---- our own run with its log

pub record SmallLogged (c : LoggedCall) : Type 0 where
  pub run : SmallResult c.call.result
  pub few-steps : c.steps ≤ most_steps

module _ (z : Sizes) (count : ℕ) (log row_store relation_store : List ℤ) where
  abbrev written : LoggedCall
  written = logged_call z count log row_store relation_store

  abbrev own : Outcome → LoggedCall
  own o = logged_after z o (own_changes (rows_of (equations z) row_store) (relations_of count relation_store)) log row_store relation_store

  abbrev ruled : Outcome
  ruled = whole_run_of leading (span z) (rows_of (equations z) row_store) (relations_of count relation_store)

  own-call : (o : Outcome) → (own o).call ≡ after_run_of leading z o row_store relation_store
  unfolding logged_after
  own-call (going s) = refl
  own-call (done s) = refl
  own-call (refused n) = refl

  -- The work is that of a run (SCOPE 13.5).
  pub logged-run : check_replay z count most_steps log row_store relation_store ≡ 0
      → written.call ≡ call_run leading z count row_store relation_store
  unfolding logged_call after_logged_check call_run after_check
  logged-run e =
      ap (λ n. (after_logged_check z count log row_store relation_store n).call) e ∙ own-call ruled
      ∙ sym (ap (after_check leading z count row_store relation_store)
      ((check_stores-zero z count row_store relation_store).1 ((check-right z count most_steps log row_store relation_store).0 e).0))

  written_small : SmallLogged written
  unfolding logged_call after_logged_check logged_after unchanged
  written_small = by-check (check_replay z count most_steps log row_store relation_store) refl
    where
      few : check_replay z count most_steps log row_store relation_store ≡ 0 → (o : Outcome) → ruled ≡ o → (own o).steps ≤ most_steps
      few e (going s) f = zero-le
      few e (done s) f =
          le_of_lt (own-few (record {
            valid = stores-valid z count row_store relation_store
                ((check_stores-zero z count row_store relation_store).1 ((check-right z count most_steps log row_store relation_store).0 e).0);
            accepts = f;
          }))
      few e (refused n) f = zero-le

      by-check : (n : ℕ) → check_replay z count most_steps log row_store relation_store ≡ n → SmallLogged written
      by-check zero e =
          record {
            run = run_small leading z count row_store relation_store (logged-run e);
            few-steps = subst (λ n. (after_logged_check z count log row_store relation_store n).steps ≤ most_steps) (sym e) (few e ruled refl);
          }
      by-check (suc n) e =
          subst (λ k. SmallLogged (after_logged_check z count log row_store relation_store k)) (sym e)
          (record { run = run-zeros (suc n); few-steps = zero-le })

  pub logged-small : {x : LoggedCall} → x ≡ written → SmallLogged x
  logged-small same = subst SmallLogged (sym same) written_small

  -- ---- the exported run with its log

  module _ (result_store : List ℤ) where
    abbrev by_length_of : Bool → LoggedExport
    by_length_of b =
        cond b (logged_left written result_store)
        (logged_kept (check_replay z count most_steps [] [] []) log row_store relation_store result_store)

    pub logged-short : {n : ℕ} → n ≡ check_replay z count most_steps [] [] [] → length result_store < logged_need
        → logged_kept n log row_store relation_store result_store ≡ export_logged z count log row_store relation_store result_store
    unfolding export_logged
    logged-short e h =
        ap (λ k. logged_kept k log row_store relation_store result_store) e ∙ sym (ap by_length_of (lt-leb logged_need (length result_store) h))

    -- The call, from the run that was made and the result store that was left.
    pub logged-done : {x : LoggedCall} {after : List ℤ} → x ≡ written
        → after ≡ kept_or x.call.result.refusal (logged_numbers x) result_store → logged_need ≤ length result_store
        → record {
          refusal = x.call.result.refusal;
          row_store = x.call.row_store;
          relation_store = x.call.relation_store;
          log_store = x.log;
          result_store = after;
        }
        ≡ export_logged z count log row_store relation_store result_store
    unfolding export_logged logged_left
    logged-done {x} e f h =
        (λ i. record {
          refusal = x.call.result.refusal;
          row_store = x.call.row_store;
          relation_store = x.call.relation_store;
          log_store = x.log;
          result_store = f i;
        })
        ∙ ap (λ y. logged_left y result_store) e ∙ sym (ap by_length_of (le-leb logged_need (length result_store) h))

-- One more number behind those that were put.
pub number_behind : (l store : List ℤ) (a : ℤ) → length l < length store
    → set (overwrite l store) (length l) a ≡ overwrite (l ++ (a ∷ [])) store
unfolding overwrite
number_behind [] [] a h = absurd (omega arith)
number_behind [] (b ∷ store) a h = refl
number_behind (c ∷ l) [] a h = absurd (omega arith)
number_behind (c ∷ l) (b ∷ store) a h = ap (λ r. c ∷ r) (number_behind l store a (omega arith))
