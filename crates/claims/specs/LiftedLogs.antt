-- The facts about logs lifted to the calls.
--
-- Main statements
--   replay-course, logged-course   the exported calls take one of their courses
--   replay-number, replay-kept, replay-cleared, replay-two, replay-one, replay-five, replay-gives   an exported replay
--   replay-left                    an accepted replay has left a final state that the log leads to
--   sequences, triangular, agrees, passes, relations-first, most-unknowns, most-equations, independent, root-no, root_none, root-yes,
--   shifts-few                     what such a replay has done
--   logged-number, logged-kept, logged-cleared, logged-two, logged-one, logged-five, logged-gives   an exported run with its log
--   own-replayed                   the replay of that log
use Prim.Native.Nat.{ℕ, zero, suc, ◌≤◌}
use Rattle.std.proofs.Common.{suc-ne-zero, ◌∙◌, ap₂, ⊎_elim, true≢false, le-leb, leb→le, le→leb, length-append, take_at, drop_at}
use Rattle.std.proofs.Math.Nat.{le_refl}
use native.Mathlib.Omega.{arith}
use Rattle.std.specs.Prelude.{◌≡◌, ◌↔◌, ◌≢◌, ◌⊎◌, Bool, ◌&&◌, cond, leb, drop, get_or, pos, nat_abs, ◌+ℤ◌}
use Rattle.std.proofs.Math.Path.{refl, sym, ap, subst, subst₂}
use Rattle.std.proofs.Math.Logic.{inl, inr}
use Rattle.std.proofs.Math.Bool.{true, false, and-false}
use mathlib.Core.List.{List, [], ◌∷◌, ◌++◌, append_assoc}
use Rattle.std.proofs.lemmas.Bool.{lt-leb}
use Rattle.std.proofs.Math.Dec.{T}
use Rattle.std.proofs.Math.ListN.{length, take}
use Rattle.std.proofs.lemmas.List.{length-map, length-replicate}
use Rattle.std.proofs.Math.IntN.{ℤ}
use Rattle.lists.specs.Overwritten.{overwrite}
use Rattle.lists.specs.Parts.{parts-length}
use Rattle.lists.specs.Tests.{T-&&}
use Rattle.rules.specs.Limits.{column_count}
use Rattle.rules.specs.Rows.{Row, Relation}
use Rattle.rules.specs.Elimination.{State, start, Outcome, going, done, refused, and_then, leading, rank, whole_run_of}
use Rattle.rules.specs.Stores.{Sizes, equations, with_equations_of, span, rows_of, relations_of, row_need, relation_need}
use Rattle.rules.specs.Stores.{sizes_right_of, count_right, lengths_right_of, numbers_right_of}
use Rattle.rules.specs.Layout.{NumbersRight, lengths_right-iff, numbers_right-iff, check_stores-zero}
use Rattle.rules.specs.Calls.{Result, Call, after_run_of, unchanged, cleared, refusal, acceptance, zeros}
use Rattle.rules.specs.Sequences.{Sequence, Satisfies, Dependent}
use Rattle.theory.specs.Steps.{going≢done, going≢refused}
use Rattle.theory.specs.ListedOrder.{Listed}
use Rattle.log_steps.specs.Logs.{most_steps, step_length, steps_in, numbers_in, order_holds_of, the_columns_of, replayed, ordered, with_order}
use Rattle.log_steps.specs.Logs.{replay, log_need, own_need}
use Rattle.logs.specs.LogCalls.{check_replay, replay_stores, after_replay_check, replay_call, LoggedCall, logged_after, after_logged_check}
use Rattle.logs.specs.LogCalls.{logged_call}
use Rattle.own_logs.specs.Own.{own_changes}
use Rattle.logs.specs.LogCallLaws.{ReplayNumber, replay-refused, check-right, accepted-call, own-call}
use Rattle.logs.specs.AcceptedLogs as Logged
use Rattle.logs.specs.AcceptedLogs.{AcceptedLog}
use Rattle.steps.specs.HeldCalls.{pivots_right_of}
use Rattle.export_results.specs.Results.{Exported, kept, run_need}
use Rattle.exported_runs.specs.Runs.{run_numbers_of, ran, run_after, refused-numbers}
use Rattle.export_results.specs.Results.{early, kept_or, kept-late}
use Rattle.exported_logs.specs.LogNumbers.{export_replay, LoggedExport, logged_need, logged_numbers, logged_left, logged_kept, export_logged}
use Rattle.exported_logs.specs.LogNumbers.{none_lent, replay-shifts, replay-small, replay-done, logged-small, logged-run}
use Rattle.claims.specs.RunWords.{Ran, RunNumber, FoundBefore, FoundDuring, Rewritten, Cleared, InRange, LongEnough, Passed, left}
use Rattle.claims.specs.RunWords.{GivesBack, Solves, Triangular, NoRoot, LastRoot, PastRoot, AgreeBetween, AgreeFrom}
use Rattle.claims.specs.LogWords.{Replayed, ExportedReplay, ExportedLogged, ReplayRange, ReplayLong, LoggedLong, ReplayReturns}
use Rattle.claims.specs.LogWords.{ReplayCourse, replay-range-wrong, replay-store-short, replay-number-wrong, log-refused}
use Rattle.claims.specs.LogWords.{log-accepted, ReplayGives, LoggedCourse, logged-range-wrong, logged-store-short}
use Rattle.claims.specs.LogWords.{logged-number-wrong, as-run-logged, LoggedGives, steps_logged}
use Rattle.claims.specs.LiftedRuns.{overwrite-rewritten, range-iff, Verdict, two, one, five, none_found, verdict, passed-zero}
use Rattle.claims.specs.LiftedRuns.{zero-passed, gives_back, LeftAs, state-triangular, state-report-no, state-report-value}
use Rattle.claims.specs.LiftedRuns.{state-report-yes, state-past, left-passes, number-of, fields-zero, stores-cleared, begun}

-- ---- the checks

steps-iff : (z : Sizes) (count steps : ℕ) → T ((sizes_right_of z && count_right count) && leb steps most_steps) ↔ ReplayRange z count steps
steps-iff z count steps = (
  λ h. let e = (T-&& (sizes_right_of z && count_right count) _).0 h in ((range-iff z count).0 e.0, leb→le _ _ e.1),
  λ h. (T-&& (sizes_right_of z && count_right count) _).1 ((range-iff z count).1 h.0, le→leb _ _ h.1),
)

log-iff : (z : Sizes) (steps : ℕ) (log rows relations : List ℤ)
    → T (lengths_right_of (equations z) rows relations && leb (log_need steps) (length log))
    ↔ (LongEnough z rows relations × (log_need steps ≤ length log))
log-iff z steps log rows relations = (
  λ h. let e = (T-&& (lengths_right_of (equations z) rows relations) _).0 h in
      ((lengths_right-iff (equations z) rows relations).0 e.0, leb→le _ _ e.1),
  λ h. (T-&& (lengths_right_of (equations z) rows relations) _).1 ((lengths_right-iff (equations z) rows relations).1 h.0, le→leb _ _ h.1),
)

check-verdict : (z : Sizes) (count steps : ℕ) (log rows relations : List ℤ)
    → Verdict (ReplayRange z count steps) (LongEnough z rows relations × (log_need steps ≤ length log)) (NumbersRight z count rows relations)
    (check_replay z count steps log rows relations)
unfolding check_replay
check-verdict z count steps log rows relations =
    verdict ((sizes_right_of z && count_right count) && leb steps most_steps)
    (lengths_right_of (equations z) rows relations && leb (log_need steps) (length log)) (numbers_right_of z count rows relations)
    (steps-iff z count steps) (log-iff z steps log rows relations) (numbers_right-iff z count rows relations)

long-result : (need : ℕ) (result : List ℤ) → leb need (length result) ≡ true → need ≤ length result
long-result need result e = leb→le need (length result) (subst T (sym e) tt)

short-result : (need : ℕ) (result : List ℤ) → leb need (length result) ≡ false → ¬ (need ≤ length result)
short-result need result e h = true≢false (sym (le-leb need (length result) h) ∙ e)

-- ---- an exported replay

-- A replay always ends.
replay-ends : (m D : ℕ) (l : List (List ℤ)) (numbers : List ℤ) (rows : List Row) (relations : List Relation) (s : State)
    → replay m D l numbers rows relations ≢ going s
unfolding replay and_then ordered
replay-ends m D l numbers rows relations s = go (replayed D l (start rows relations))
  where
    end : (t : Bool) (u : State) → cond t (done u) (refused 13) ≢ going s
    end true u e = going≢done (sym e)
    end false u e = going≢refused (sym e)

    go : (o : Outcome) → and_then o (ordered m numbers) ≢ going s
    go (going u) e =
        let w = length u.rows in
        let order = the_columns_of w numbers in
        end (order_holds_of m w numbers && pivots_right_of order u.rows w) (with_order order u) e
    go (done u) e = going≢done (sym e)
    go (refused n) e = going≢refused (sym e)

late-number : (n : ℕ) → ReplayNumber n → early n ≡ false
unfolding early
late-number n (inl e) = ap (λ k. leb 1 k && leb k 5) e
late-number n (inr (inl e)) = ap (λ k. leb 1 k && leb k 5) e
late-number n (inr (inr (inl e))) = ap (λ k. leb 1 k && leb k 5) e
late-number n (inr (inr (inr e))) = ap (λ k. leb 1 k && leb k 5) e

number-late : (n : ℕ) → ReplayNumber n → (7 ≤ n) × (n ≤ 13)
number-late n (inl e) = (omega arith, omega arith)
number-late n (inr (inl e)) = (omega arith, omega arith)
number-late n (inr (inr (inl e))) = (omega arith, omega arith)
number-late n (inr (inr (inr e))) = (omega arith, omega arith)

ten : (r : Result) → length r.order ≡ column_count → length (run_numbers_of r) ≡ run_need
unfolding run_numbers_of
ten r h = simp (length-append, length-map) (omega arith)

zeros-written : (need : ℕ) (before : List ℤ) → need ≤ length before → Cleared need before (overwrite (zeros need) before)
unfolding zeros
zeros-written need before h = overwrite-rewritten (zeros need) before (length-replicate need (pos 0)) h

module _ {z : Sizes} {count steps : ℕ} {log rows relations result : List ℤ} where
  -- What a replay does once the checks have passed.
  by-outcome : Passed z count rows relations → steps ≤ most_steps → ReplayLong z steps log rows relations result
      → check_replay z count steps log rows relations ≡ 0
      → (o : Outcome) → replay_stores z count steps log rows relations ≡ o
      → ReplayCourse z count steps log rows relations result (run_after (after_run_of leading z o rows relations) result)
  unfolding replay_call after_replay_check replay_stores run_after ran kept_or early after_run_of acceptance cleared refusal
  by-outcome p few l e (going s) f =
      absurd (replay-ends z.m (span z) (steps_in steps log) (numbers_in steps log) (rows_of (equations z) rows)
      (relations_of count relations) s f)
  by-outcome p few l e (done s) f =
      log-accepted p few l (after_run_of leading z (done s) rows relations)
      (record {
        called = sym
            (ap (after_replay_check z count steps log rows relations) e ∙ ap (λ o. after_run_of leading z o rows relations) f);
      })
      refl
  by-outcome p few l e (refused n) f =
      let number = replay-refused z.m (span z) (steps_in steps log) (numbers_in steps log) (rows_of (equations z) rows)
      (relations_of count relations) n f in
      subst (λ r. ReplayCourse z count steps log rows relations result (record {
        refusal = n;
        row_store = overwrite (zeros (row_need (equations z))) rows;
        relation_store = overwrite (zeros relation_need) relations;
        result_store = r;
      }))
      (ap (λ r. overwrite r result) (sym (refused-numbers n)) ∙ kept-late n (run_numbers_of (refusal n)) result (late-number n number))
      (log-refused p few l n number f)

  pub replay-course : {e : Exported} → ExportedReplay z count steps log rows relations result e
      → ReplayCourse z count steps log rows relations result e
  unfolding export_replay replay_call after_replay_check run_after kept_or early unchanged refusal kept
  replay-course x =
      subst (ReplayCourse z count steps log rows relations result) (sym x.called) (by_length (leb run_need (length result)) refl)
    where
      short : (b : Bool) → T b ↔ ReplayRange z count steps → ¬ (run_need ≤ length result)
          → ReplayCourse z count steps log rows relations result (kept (cond b 1 2) rows relations result)
      short true r h = replay-store-short (r.0 tt) (λ l. h l.1)
      short false r h = replay-range-wrong r.1

      by-check : run_need ≤ length result → {n : ℕ}
          → Verdict (ReplayRange z count steps) (LongEnough z rows relations × (log_need steps ≤ length log))
          (NumbersRight z count rows relations) n
          → check_replay z count steps log rows relations ≡ n
          → ReplayCourse z count steps log rows relations result (run_after (after_replay_check z count steps log rows relations n) result)
      by-check h (two r) e = replay-range-wrong r
      by-check h (one r l) e = replay-store-short r (λ k. l k.0)
      by-check h (five r l w) e = replay-number-wrong r (l, h) w
      by-check h (none_found r l w) e =
          by-outcome (record { range = r.0; lengths = l.0; numbers = w }) r.1 (l, h) e _ refl

      by_length : (b : Bool) → leb run_need (length result) ≡ b
          → ReplayCourse z count steps log rows relations result (cond b (run_after (replay_call z count steps log rows relations) result)
          (kept (check_replay z count steps [] [] []) rows relations result))
      by_length true e = by-check (long-result run_need result e) (check-verdict z count steps log rows relations) refl
      by_length false e =
          subst (λ n. ReplayCourse z count steps log rows relations result (kept n rows relations result)) (sym (none_lent z count steps))
          (short ((sizes_right_of z && count_right count) && leb steps most_steps) (steps-iff z count steps) (short-result run_need result e))

  number-course : {e : Exported} → ReplayCourse z count steps log rows relations result e → ReplayReturns e.refusal
  unfolding kept ran
  number-course (replay-range-wrong r) = inr (inr (inl refl))
  number-course (replay-store-short r l) = inr (inl refl)
  number-course (replay-number-wrong r l w) = inr (inr (inr (inl refl)))
  number-course (log-refused p few l n h f) = inr (inr (inr (inr h)))
  number-course (log-accepted p few l c r h) = inl h

  refused-course : {e : Exported} → ReplayCourse z count steps log rows relations result e → FoundBefore e.refusal
      → (e.row_store ≡ rows) × (e.relation_store ≡ relations) × (e.result_store ≡ result)
  unfolding kept ran
  refused-course (replay-range-wrong r) h = (refl, refl, refl)
  refused-course (replay-store-short r l) h = (refl, refl, refl)
  refused-course (replay-number-wrong r l w) h = (refl, refl, refl)
  refused-course (log-refused p few l n k f) h = let late = number-late n k in absurd (omega arith)
  refused-course (log-accepted p few l c r e) h = absurd (omega arith)

  cleared-course : {e : Exported} → ReplayCourse z count steps log rows relations result e → ReplayNumber e.refusal
      → Cleared (row_need (equations z)) rows e.row_store × Cleared relation_need relations e.relation_store
      × Cleared run_need result e.result_store
  unfolding kept ran
  cleared-course (replay-range-wrong r) h = let late = number-late 2 h in absurd (omega arith)
  cleared-course (replay-store-short r l) h = let late = number-late 1 h in absurd (omega arith)
  cleared-course (replay-number-wrong r l w) h = let late = number-late 5 h in absurd (omega arith)
  cleared-course (log-refused p few l n k f) h = (
    zeros-written (row_need (equations z)) rows p.lengths.0,
    zeros-written relation_need relations p.lengths.1,
    zeros-written run_need result l.1,
  )
  cleared-course (log-accepted p few l c r e) h = let late = number-late c.result.refusal h in absurd (omega arith)

  two-course : {e : Exported} → ReplayCourse z count steps log rows relations result e → (e.refusal ≡ 2) ↔ (¬ ReplayRange z count steps)
  unfolding kept ran
  two-course (replay-range-wrong r) = (λ e. r, λ h. refl)
  two-course (replay-store-short r l) = (λ e. absurd (omega arith), λ h. absurd (h r))
  two-course (replay-number-wrong r l w) = (λ e. absurd (omega arith), λ h. absurd (h r))
  two-course (log-refused p few l n k f) =
      (λ e. let late = number-late n k in absurd (omega arith), λ h. absurd (h (p.range, few)))
  two-course (log-accepted p few l c r e) = (λ f. absurd (omega arith), λ h. absurd (h (p.range, few)))

  one-course : {e : Exported} → ReplayCourse z count steps log rows relations result e
      → (e.refusal ≡ 1) ↔ (ReplayRange z count steps × (¬ ReplayLong z steps log rows relations result))
  unfolding kept ran
  one-course (replay-range-wrong r) = (λ e. absurd (omega arith), λ h. absurd (r h.0))
  one-course (replay-store-short r l) = (λ e. (r, l), λ h. refl)
  one-course (replay-number-wrong r l w) = (λ e. absurd (omega arith), λ h. absurd (h.1 l))
  one-course (log-refused p few l n k f) = (λ e. let late = number-late n k in absurd (omega arith), λ h. absurd (h.1 l))
  one-course (log-accepted p few l c r e) = (λ f. absurd (omega arith), λ h. absurd (h.1 l))

  five-course : {e : Exported} → ReplayCourse z count steps log rows relations result e
      → (e.refusal ≡ 5)
      ↔ (ReplayRange z count steps × ReplayLong z steps log rows relations result × (¬ NumbersRight z count rows relations))
  unfolding kept ran
  five-course (replay-range-wrong r) = (λ e. absurd (omega arith), λ h. absurd (r h.0))
  five-course (replay-store-short r l) = (λ e. absurd (omega arith), λ h. absurd (l h.1))
  five-course (replay-number-wrong r l w) = (λ e. (r, l, w), λ h. refl)
  five-course (log-refused p few l n k f) =
      (λ e. let late = number-late n k in absurd (omega arith), λ h. absurd (h.2 p.numbers))
  five-course (log-accepted p few l c r e) = (λ f. absurd (omega arith), λ h. absurd (h.2 p.numbers))

  gives-course : {e : Exported} → ReplayCourse z count steps log rows relations result e → e.refusal ≡ 0
      → (c : Call) × ReplayGives z count steps log rows relations result c e
  unfolding kept ran
  gives-course (replay-range-wrong r) h = absurd (omega arith)
  gives-course (replay-store-short r l) h = absurd (omega arith)
  gives-course (replay-number-wrong r l w) h = absurd (omega arith)
  gives-course (log-refused p few l n k f) h = let late = number-late n k in absurd (omega arith)
  gives-course (log-accepted p few l c r e) h = (
    c,
    record {
      replay = r;
      accepted = e;
      same_rows = refl;
      same-relations = refl;
      numbers = overwrite-rewritten (run_numbers_of c.result) result
          (ten c.result (replay-small z count steps log rows relations r.called).four) l.1;
    },
  )

  module _ {e : Exported} (x : ExportedReplay z count steps log rows relations result e) where
    pub replay-number : ReplayReturns e.refusal
    replay-number = number-course (replay-course x)

    pub replay-kept : FoundBefore e.refusal → (e.row_store ≡ rows) × (e.relation_store ≡ relations) × (e.result_store ≡ result)
    replay-kept = refused-course (replay-course x)

    pub replay-cleared : ReplayNumber e.refusal
        → Cleared (row_need (equations z)) rows e.row_store × Cleared relation_need relations e.relation_store
        × Cleared run_need result e.result_store
    replay-cleared = cleared-course (replay-course x)

    pub replay-two : (e.refusal ≡ 2) ↔ (¬ ReplayRange z count steps)
    replay-two = two-course (replay-course x)

    pub replay-one : (e.refusal ≡ 1) ↔ (ReplayRange z count steps × (¬ ReplayLong z steps log rows relations result))
    replay-one = one-course (replay-course x)

    pub replay-five : (e.refusal ≡ 5)
        ↔ (ReplayRange z count steps × ReplayLong z steps log rows relations result × (¬ NumbersRight z count rows relations))
    replay-five = five-course (replay-course x)

    pub replay-gives : e.refusal ≡ 0 → (c : Call) × ReplayGives z count steps log rows relations result c e
    replay-gives = gives-course (replay-course x)

-- ---- an accepted replay

module _ {z : Sizes} {count steps : ℕ} {log rows relations : List ℤ} {c : Call} (r : Replayed z count steps log rows relations c)
    (e : c.result.refusal ≡ 0) where
  accepts : (replay_call z count steps log rows relations).result.refusal ≡ 0
  accepts = ap (λ d. d.result.refusal) (sym r.called) ∙ e

  checks : check_replay z count steps log rows relations ≡ 0
  unfolding replay_call after_replay_check unchanged refusal
  checks = go (check_replay z count steps log rows relations) refl accepts
    where
      go : (n : ℕ) → check_replay z count steps log rows relations ≡ n
          → (after_replay_check z count steps log rows relations n).result.refusal ≡ 0 → check_replay z count steps log rows relations ≡ 0
      go zero f h = f
      go (suc n) f h = absurd (suc-ne-zero n h)

  passed : Passed z count rows relations
  passed =
      zero-passed ((check_stores-zero z count rows relations).1 ((check-right z count steps log rows relations).0 checks).0)

  pub replay-left : (s : State)
      × AcceptedLog z (steps_in steps log) (numbers_in steps log) (rows_of (equations z) rows) (relations_of count relations) s
      × LeftAs leading z count rows relations c s
  replay-left =
      let (s, a, same) = accepted-call z count steps log rows relations accepts in (
        s,
        a,
        record {
          passed = passed;
          given = subst (GivesBack leading z s rows relations) (sym (r.called ∙ same))
              (gives_back passed s (Logged.output-valid a) (Logged.diagonal-nonzero a).row_count (Logged.rank-few a));
          valid = Logged.output-valid a;
          diagonal = Logged.diagonal-nonzero a;
          few = Logged.rank-few a;
        },
      )

  pub sequences : (y : Sequence)
      → Solves z count rows relations y ↔ Solves (left z c) c.result.relations c.row_store c.relation_store y
  unfolding equations with_equations_of
  sequences y =
      let (s, a, l) = replay-left in
      subst₂ (λ p q. Solves z count rows relations y ↔ Satisfies z.l p q y) (sym l.given.rows-held) (sym l.given.relations-held)
      (Logged.same-sequences a y)

  pub triangular : Triangular leading (left z c) c
  triangular = let (s, a, l) = replay-left in state-triangular l

  pub most-unknowns : c.result.rank ≤ z.m
  most-unknowns = let (s, a, l) = replay-left in subst (λ n. n ≤ z.m) (sym l.given.row_count) (Logged.rank_most a)

  pub most-equations : c.result.rank ≤ equations z
  most-equations = let (s, a, l) = replay-left in subst (λ n. n ≤ equations z) (sym l.given.row_count) (Logged.rank-few a)

  pub independent : ¬ Dependent z.l (rows_of c.result.rank c.row_store)
  independent =
      let (s, a, l) = replay-left in
      subst (λ p. ¬ Dependent z.l p) (sym l.given.rows-held) (Logged.rows-independent a)

  pub relations-first : (more : List Relation)
      × (relations_of c.result.relations c.relation_store ≡ relations_of count relations ++ more) × Listed more
  relations-first =
      let (s, a, l) = replay-left in
      let (more, same, groups) = Logged.relations-listed a in
      (more, l.given.relations-held ∙ same, groups)

  pub passes : Passed (left z c) c.result.relations c.row_store c.relation_store
  passes = let (s, a, l) = replay-left in left-passes l

  pub root-no : (c.result.has_root_of ≡ false) ↔ NoRoot leading (left z c) c
  root-no = let (s, a, l) = replay-left in state-report-no l

  pub root_none : c.result.has_root_of ≡ false → c.result.root ≡ pos 0
  root_none = let (s, a, l) = replay-left in state-report-value l

  pub root-yes : c.result.has_root_of ≡ true → LastRoot leading (left z c) c c.result.root
  root-yes = let (s, a, l) = replay-left in state-report-yes l

  pub shifts-few : c.result.shifts ≤ steps
  unfolding steps_in
  shifts-few =
      let (s, a, l) = replay-left in
      omega (arith, l.given.shift_count, replay-shifts a, parts-length step_length steps log)

  pub agrees : c.result.rank ≡ z.m → (y w : Sequence) → Solves z count rows relations y → Solves z count rows relations w → (n : ℤ)
      → PastRoot leading c.result n → AgreeBetween z y w (n +ℤ z.t) (n +ℤ z.l) → AgreeFrom z y w (n +ℤ z.t)
  agrees full y w hy hw n past =
      let (s, a, l) = replay-left in
      Logged.agreement-leading a (sym l.given.row_count ∙ full) y w hy hw n (state-past l n past)

-- ---- an exported run with its log

-- Once the checks pass, a run is refused with 7 to 10.
late-run : (n : ℕ) → (n ≡ 0) ⊎ FoundDuring n → early n ≡ false
unfolding early
late-run n (inl e) = ap (λ k. leb 1 k && leb k 5) e
late-run n (inr h) = ap (λ b. leb 1 n && b) (lt-leb n 5 (omega arith)) ∙ and-false (leb 1 n)

eleven : (r : Result) (k : ℕ) → length r.order ≡ column_count → length (run_numbers_of r ++ (pos k ∷ [])) ≡ logged_need
eleven r k h = simp length-append (omega (arith, ten r h))

module _ (z : Sizes) (count : ℕ) (log rows relations : List ℤ) where
  -- The checks of a run with its log.
  own-checks : Passed z count rows relations → own_need ≤ length log → check_replay z count most_steps log rows relations ≡ 0
  unfolding log_need
  own-checks p long =
      (check-right z count most_steps log rows relations).1
      ((check_stores-zero z count rows relations).0 (passed-zero p), le_refl most_steps, long)

  -- The log of a refused run is zero, and has no step.
  refused-log : {c : LoggedCall} → check_replay z count most_steps log rows relations ≡ 0 → c ≡ logged_call z count log rows relations
      → c.call.result.refusal ≢ 0 → (c.log ≡ overwrite (zeros own_need) log) × (c.steps ≡ 0)
  unfolding logged_call after_logged_check logged_after after_run_of acceptance
  refused-log {c} e same = subst Zero (sym (same ∙ ap (after_logged_check z count log rows relations) e))
      (go (whole_run_of leading (span z) (rows_of (equations z) rows) (relations_of count relations)))
    where
      Zero : LoggedCall → Type 0
      Zero d = d.call.result.refusal ≢ 0 → (d.log ≡ overwrite (zeros own_need) log) × (d.steps ≡ 0)

      go : (o : Outcome)
          → Zero (logged_after z o (own_changes (rows_of (equations z) rows) (relations_of count relations)) log rows relations)
      go (going s) h = (refl, refl)
      go (done s) h = absurd (h refl)
      go (refused n) h = (refl, refl)

module _ {z : Sizes} {count : ℕ} {log rows relations result : List ℤ} where
  pub logged-course : {e : LoggedExport} → ExportedLogged z count log rows relations result e
      → LoggedCourse z count log rows relations result e
  unfolding export_logged logged_call after_logged_check logged_left logged_kept kept_or early unchanged refusal log_need
  logged-course x =
      subst (LoggedCourse z count log rows relations result) (sym x.called) (by_length (leb logged_need (length result)) refl)
    where
      short : (b : Bool) → T b ↔ ReplayRange z count most_steps → ¬ (logged_need ≤ length result)
          → LoggedCourse z count log rows relations result (logged_kept (cond b 1 2) log rows relations result)
      short true r h = logged-store-short (r.0 tt).0 (λ l. h l.1)
      short false r h = logged-range-wrong (λ i. r.1 (i, le_refl most_steps))

      worked : Passed z count rows relations → LoggedLong z log rows relations result
          → check_replay z count most_steps log rows relations ≡ 0
          → LoggedCourse z count log rows relations result (logged_left (after_logged_check z count log rows relations 0) result)
      worked p l e =
          let c = after_logged_check z count log rows relations 0 in
          let same : c ≡ logged_call z count log rows relations = sym (ap (after_logged_check z count log rows relations) e) in
          let run : Ran leading z count rows relations c.call =
          record { called = ap (λ d. d.call) same ∙ logged-run z count log rows relations e } in
          subst (λ r. LoggedCourse z count log rows relations result (record {
            refusal = c.call.result.refusal;
            row_store = c.call.row_store;
            relation_store = c.call.relation_store;
            log_store = c.log;
            result_store = r;
          }))
          (kept-late c.call.result.refusal (logged_numbers c) result (late-run _ (begun run p)))
          (as-run-logged p l c same run)

      by-check : logged_need ≤ length result → {n : ℕ}
          → Verdict (ReplayRange z count most_steps) (LongEnough z rows relations × (log_need most_steps ≤ length log))
          (NumbersRight z count rows relations) n
          → check_replay z count most_steps log rows relations ≡ n
          → LoggedCourse z count log rows relations result (logged_left (after_logged_check z count log rows relations n) result)
      by-check h (two r) e = logged-range-wrong (λ i. r (i, le_refl most_steps))
      by-check h (one r l) e = logged-store-short r.0 (λ k. l k.0)
      by-check h (five r l w) e = logged-number-wrong r.0 (l, h) w
      by-check h (none_found r l w) e = worked (record { range = r.0; lengths = l.0; numbers = w }) (l, h) e

      by_length : (b : Bool) → leb logged_need (length result) ≡ b
          → LoggedCourse z count log rows relations result (cond b (logged_left (logged_call z count log rows relations) result)
          (logged_kept (check_replay z count most_steps [] [] []) log rows relations result))
      by_length true e = by-check (long-result logged_need result e) (check-verdict z count most_steps log rows relations) refl
      by_length false e =
          subst (λ n. LoggedCourse z count log rows relations result (logged_kept n log rows relations result))
          (sym (none_lent z count most_steps))
          (short ((sizes_right_of z && count_right count) && leb most_steps most_steps) (steps-iff z count most_steps)
          (short-result logged_need result e))

  number-own : {e : LoggedExport} → LoggedCourse z count log rows relations result e → RunNumber e.refusal
  unfolding logged_kept
  number-own (logged-range-wrong r) = inr (inr (inl refl))
  number-own (logged-store-short r l) = inr (inl refl)
  number-own (logged-number-wrong r l w) = inr (inr (inr (inl refl)))
  number-own (as-run-logged p l c same run) = number-of run

  kept-own : {e : LoggedExport} → LoggedCourse z count log rows relations result e → FoundBefore e.refusal
      → (e.row_store ≡ rows) × (e.relation_store ≡ relations) × (e.log_store ≡ log) × (e.result_store ≡ result)
  unfolding logged_kept
  kept-own (logged-range-wrong r) h = (refl, refl, refl, refl)
  kept-own (logged-store-short r l) h = (refl, refl, refl, refl)
  kept-own (logged-number-wrong r l w) h = (refl, refl, refl, refl)
  kept-own (as-run-logged p l c same run) h = absurd (⊎_elim (λ e. omega arith) (λ e. omega arith) (begun run p))

  cleared-own : {e : LoggedExport} → LoggedCourse z count log rows relations result e → FoundDuring e.refusal
      → Cleared (row_need (equations z)) rows e.row_store × Cleared relation_need relations e.relation_store
      × Cleared own_need log e.log_store × Cleared logged_need result e.result_store
  unfolding logged_kept logged_numbers zeros
  cleared-own (logged-range-wrong r) h = absurd (omega arith)
  cleared-own (logged-store-short r l) h = absurd (omega arith)
  cleared-own (logged-number-wrong r l w) h = absurd (omega arith)
  cleared-own (as-run-logged p l c same run) h =
      let nonzero : c.call.result.refusal ≢ 0 = λ e. omega arith in
      let (no-log, no_steps) = refused-log z count log rows relations (own-checks z count log rows relations p l.0.1) same nonzero in (
        (stores-cleared run h).0,
        (stores-cleared run h).1,
        subst (Rewritten own_need (zeros own_need) log) (sym no-log) (zeros-written own_need log l.0.1),
        subst (λ x. Rewritten logged_need (zeros logged_need) result (overwrite x result))
            (sym (ap₂ (λ r k. run_numbers_of r ++ (pos k ∷ [])) (fields-zero run nonzero) no_steps
            ∙ ap (λ x. x ++ (pos 0 ∷ [])) (refused-numbers c.call.result.refusal)))
            (zeros-written logged_need result l.1),
      )

  two-own : {e : LoggedExport} → LoggedCourse z count log rows relations result e → (e.refusal ≡ 2) ↔ (¬ InRange z count)
  unfolding logged_kept
  two-own (logged-range-wrong r) = (λ e. r, λ h. refl)
  two-own (logged-store-short r l) = (λ e. absurd (omega arith), λ h. absurd (h r))
  two-own (logged-number-wrong r l w) = (λ e. absurd (omega arith), λ h. absurd (h r))
  two-own (as-run-logged p l c same run) =
      (λ e. absurd (⊎_elim (λ f. omega arith) (λ f. omega arith) (begun run p)), λ h. absurd (h p.range))

  one-own : {e : LoggedExport} → LoggedCourse z count log rows relations result e
      → (e.refusal ≡ 1) ↔ (InRange z count × (¬ LoggedLong z log rows relations result))
  unfolding logged_kept
  one-own (logged-range-wrong r) = (λ e. absurd (omega arith), λ h. absurd (r h.0))
  one-own (logged-store-short r l) = (λ e. (r, l), λ h. refl)
  one-own (logged-number-wrong r l w) = (λ e. absurd (omega arith), λ h. absurd (h.1 l))
  one-own (as-run-logged p l c same run) =
      (λ e. absurd (⊎_elim (λ f. omega arith) (λ f. omega arith) (begun run p)), λ h. absurd (h.1 l))

  five-own : {e : LoggedExport} → LoggedCourse z count log rows relations result e
      → (e.refusal ≡ 5) ↔ (InRange z count × LoggedLong z log rows relations result × (¬ NumbersRight z count rows relations))
  unfolding logged_kept
  five-own (logged-range-wrong r) = (λ e. absurd (omega arith), λ h. absurd (r h.0))
  five-own (logged-store-short r l) = (λ e. absurd (omega arith), λ h. absurd (l h.1))
  five-own (logged-number-wrong r l w) = (λ e. (r, l, w), λ h. refl)
  five-own (as-run-logged p l c same run) =
      (λ e. absurd (⊎_elim (λ f. omega arith) (λ f. omega arith) (begun run p)), λ h. absurd (h.2 p.numbers))

  gives-own : {e : LoggedExport} → LoggedCourse z count log rows relations result e → e.refusal ≡ 0
      → (c : LoggedCall) × LoggedGives z count log rows relations result c e
  unfolding logged_kept logged_numbers
  gives-own (logged-range-wrong r) h = absurd (omega arith)
  gives-own (logged-store-short r l) h = absurd (omega arith)
  gives-own (logged-number-wrong r l w) h = absurd (omega arith)
  gives-own (as-run-logged p l c same run) h = (
    c,
    record {
      written = same;
      run = run;
      accepted = h;
      same_rows = refl;
      same-relations = refl;
      same_log = refl;
      numbers = overwrite-rewritten (logged_numbers c) result
          (eleven c.call.result c.steps (logged-small z count log rows relations same).run.four) l.1;
    },
  )

  -- The replay of the log that was left, on the same stores (SCOPE 13.53).
  replayed-own : {e : LoggedExport} → LoggedCourse z count log rows relations result e → e.refusal ≡ 0
      → {other : List ℤ} {r : Exported} → ExportedReplay z count (steps_logged e) e.log_store rows relations other r
      → run_need ≤ length other
      → (r.refusal ≡ 0) × (r.row_store ≡ e.row_store) × (r.relation_store ≡ e.relation_store)
      × (take run_need r.result_store ≡ take run_need e.result_store)
  unfolding logged_kept overwrite logged_numbers run_after
  replayed-own (logged-range-wrong r) h x long = absurd (omega arith)
  replayed-own (logged-store-short r l) h x long = absurd (omega arith)
  replayed-own (logged-number-wrong r l w) h x long = absurd (omega arith)
  replayed-own (as-run-logged p l c same run) h {other} {r} x long =
      let same-result : take run_need r.result_store ≡ numbers = ap (λ d. take run_need d.result_store) whole ∙ front in
      (ap (λ d. d.refusal) whole ∙ h, ap (λ d. d.row_store) whole, ap (λ d. d.relation_store) whole, same-result ∙ sym own-front)
    where
      numbers : List ℤ
      numbers = run_numbers_of c.call.result

      ten-numbers : length numbers ≡ run_need
      ten-numbers = ten c.call.result (logged-small z count log rows relations same).run.four

      left-store : List ℤ
      left-store = overwrite (logged_numbers c) result

      behind : left-store ≡ numbers ++ ((pos c.steps ∷ []) ++ drop (length (logged_numbers c)) result)
      behind = append_assoc numbers (pos c.steps ∷ []) _

      told : nat_abs (get_or (drop run_need left-store) 0 (pos 0)) ≡ c.steps
      told = ap (λ x. nat_abs (get_or x 0 (pos 0))) (ap (drop run_need) behind ∙ drop_at numbers _ run_need ten-numbers)

      own-front : take run_need left-store ≡ numbers
      own-front = ap (take run_need) behind ∙ take_at numbers _ run_need ten-numbers

      again : replay_call z count c.steps c.log rows relations ≡ c.call
      again =
          subst (λ d. replay_call z count d.steps d.log rows relations ≡ d.call) (sym same)
          (own-call z count log rows relations (ap (λ d. d.call.result.refusal) (sym same) ∙ h))

      whole : r ≡ run_after c.call other
      whole =
          x.called ∙ ap (λ k. export_replay z count k c.log rows relations other) told
          ∙ sym (replay-done z count c.steps c.log rows relations other refl refl long) ∙ ap (λ d. run_after d other) again

      front : take run_need (run_after c.call other).result_store ≡ numbers
      front =
          ap (take run_need) (sym (kept-late c.call.result.refusal numbers other (late-run _ (inl h))))
          ∙ take_at numbers _ run_need ten-numbers

  module _ {e : LoggedExport} (x : ExportedLogged z count log rows relations result e) where
    pub logged-number : RunNumber e.refusal
    logged-number = number-own (logged-course x)

    pub logged-kept : FoundBefore e.refusal
        → (e.row_store ≡ rows) × (e.relation_store ≡ relations) × (e.log_store ≡ log) × (e.result_store ≡ result)
    logged-kept = kept-own (logged-course x)

    pub logged-cleared : FoundDuring e.refusal
        → Cleared (row_need (equations z)) rows e.row_store × Cleared relation_need relations e.relation_store
        × Cleared own_need log e.log_store × Cleared logged_need result e.result_store
    logged-cleared = cleared-own (logged-course x)

    pub logged-two : (e.refusal ≡ 2) ↔ (¬ InRange z count)
    logged-two = two-own (logged-course x)

    pub logged-one : (e.refusal ≡ 1) ↔ (InRange z count × (¬ LoggedLong z log rows relations result))
    logged-one = one-own (logged-course x)

    pub logged-five : (e.refusal ≡ 5)
        ↔ (InRange z count × LoggedLong z log rows relations result × (¬ NumbersRight z count rows relations))
    logged-five = five-own (logged-course x)

    pub logged-gives : e.refusal ≡ 0 → (c : LoggedCall) × LoggedGives z count log rows relations result c e
    logged-gives = gives-own (logged-course x)

    pub own-replayed : e.refusal ≡ 0
        → {other : List ℤ} {r : Exported} → ExportedReplay z count (steps_logged e) e.log_store rows relations other r
        → run_need ≤ length other
        → (r.refusal ≡ 0) × (r.row_store ≡ e.row_store) × (r.relation_store ≡ e.relation_store)
        × (take run_need r.result_store ≡ take run_need e.result_store)
    own-replayed = replayed-own (logged-course x)
