-- The call of a replay, from what the code's results and the stores hold.
--
-- Main statements
--   steps-checked, sizes-checked, log-checked, stores-checked   the checks, one after the other
--   checked, first-ready         what they let through
--   call-unchanged, call-cleared, call-accepted   the whole call
--   replay-nonzero               no diagonal polynomial of what is accepted is zero
use Prim.Native.Nat.{ℕ, zero, suc, ◌≤◌, ◌<◌}
use Rattle.std.proofs.Common.{arith, ◌∙◌, le-leb, leb→le}
use Rattle.std.specs.Prelude.{◌≡◌, ◌≢◌, Bool, not, ◌&&◌, cond, List, leb, ℤ, length}
use Rattle.std.proofs.Math.Path.{refl, sym, ap, ap₂, subst}
use Rattle.std.proofs.Math.Bool.{true, false}
use Rattle.std.proofs.lemmas.Bool.{lt-leb}
use Rattle.std.proofs.Math.Dec.{T}
use Rattle.lists.specs.Tests.{true-T}
use Rattle.algebra.specs.Polynomials.{is_zero_of}
use Rattle.lists.specs.Everywhere.{member-all}
use Rattle.rules.specs.Elimination.{State, Outcome, going, done, refused, leading, start, diagonal, rank}
use Rattle.rules.specs.Stores.{Sizes, equations, span, rows_of, sizes_right_of, count_right, lengths_right_of}
use Rattle.rules.specs.Stores.{numbers_right_of, check_stores_of}
use Rattle.rules.specs.Calls.{refusal, acceptance, after_run_of, unchanged}
use Rattle.theory.specs.Steps.{going≢refused, going≢done, done-injective}
use Rattle.theory.specs.Settled.{Diagonal, nonzero-of-diagonal}
use Rattle.sides.specs.FurthestRoots.{Nonzero}
use Rattle.sides.specs.ReportLaws.{settled_state, diagonal-settled}
use Rattle.reduction.specs.declared.step.Progress.{Progress}
use Rattle.reduction.specs.Answer as Answer
use Rattle.reduction.specs.Progress.{Ready, state_of, start_progress}
use Rattle.reduction.specs.Progress as Progress
use Rattle.reduction.specs.RunLaws.{start-ready}
use Rattle.std.specs.Prelude.{Result}
use Rattle.refusals.specs.declared.Refusal.{Refusal}
use Rattle.runs.specs.declared.RunReport.{RunReport}
use Rattle.runs.specs.CallLaws as RunLaws
use Rattle.log_steps.specs.Logs.{most_steps, replay, log_need}
use Rattle.logs.specs.LogCalls.{check_replay, replay_stores, after_replay_check, replay_call}
use Rattle.logs.specs.LogCallLaws.{accepted-call}
use Rattle.logs.specs.AcceptedLogs.{diagonal-nonzero}
use Rattle.replays.specs.ReplayWork.{outcome_of, outcome-refused, Left}

-- ---- the checks

cases-stores : (a l k : Bool) → ℕ
cases-stores a l k = cond a (cond l (cond k 0 5) 1) 2

cases-replay : (a b l m k : Bool) → ℕ
cases-replay a b l m k = cond (a && b) (cond (l && m) (cond k 0 5) 1) 2

module _ (z : Sizes) (count steps : ℕ) (log rows relations : List ℤ) where
  abbrev system : ℕ
  system = check_stores_of z count rows relations

  abbrev replaying : ℕ
  replaying = check_replay z count steps log rows relations

  abbrev sized : Bool
  sized = sizes_right_of z && count_right count

  abbrev long : Bool
  long = lengths_right_of (equations z) rows relations

  abbrev right : Bool
  right = numbers_right_of z count rows relations

  system-is : system ≡ cases-stores sized long right
  unfolding check_stores_of cases-stores
  system-is = refl

  replaying-is : replaying ≡ cases-replay sized (leb steps most_steps) long (leb (log_need steps) (length log)) right
  unfolding check_replay cases-replay
  replaying-is = refl

  pub steps-checked : most_steps < steps → 2 ≡ replaying
  unfolding cases-replay
  steps-checked h =
      sym (replaying-is ∙ ap (λ t. cases-replay sized t long (leb (log_need steps) (length log)) right) (lt-leb steps most_steps h) ∙ go sized)
    where
      go : (a : Bool) → cases-replay a false long (leb (log_need steps) (length log)) right ≡ 2
      go true = refl
      go false = refl

  module _ (few : steps ≤ most_steps) where
    by-steps : replaying ≡ cases-replay sized true long (leb (log_need steps) (length log)) right
    by-steps = replaying-is ∙ ap (λ t. cases-replay sized t long (leb (log_need steps) (length log)) right) (le-leb steps most_steps few)

    pub sizes-checked : system ≡ 2 → 2 ≡ replaying
    unfolding cases-replay cases-stores
    sizes-checked e = sym (by-steps ∙ go sized long right (sym system-is ∙ e))
      where
        go : (a l k : Bool) → cases-stores a l k ≡ 2 → cases-replay a true l (leb (log_need steps) (length log)) k ≡ 2
        go true true true e = absurd (omega arith)
        go true true false e = absurd (omega arith)
        go true false k e = absurd (omega arith)
        go false l k e = refl

    module _ (sizes : system ≢ 2) where
      pub log-checked : length log < log_need steps → 1 ≡ replaying
      unfolding cases-replay cases-stores
      log-checked h =
          sym (by-steps ∙ ap (λ t. cases-replay sized true long t right) (lt-leb (log_need steps) (length log) h)
          ∙ go sized long right (λ e. sizes (system-is ∙ e)))
        where
          go : (a l k : Bool) → cases-stores a l k ≢ 2 → cases-replay a true l false k ≡ 1
          go true true k n = refl
          go true false k n = refl
          go false l k n = absurd (n refl)

      pub stores-checked : log_need steps ≤ length log → system ≡ replaying
      unfolding cases-replay cases-stores
      stores-checked h =
          system-is ∙ go sized long right
          ∙ sym (by-steps ∙ ap (λ t. cases-replay sized true long t right) (le-leb (log_need steps) (length log) h))
        where
          go : (a l k : Bool) → cases-stores a l k ≡ cases-replay a true l true k
          go true true k = refl
          go true false k = refl
          go false l k = refl

-- What the checks let through.
pub record Checked (z : Sizes) (count steps : ℕ) (log rows relations : List ℤ) : Type 0 where
  pub stores : RunLaws.Checked z count rows relations
  pub few-steps : steps ≤ most_steps
  pub log-long : log_need steps ≤ length log

pub checked : (z : Sizes) (count steps : ℕ) (log rows relations : List ℤ) → check_replay z count steps log rows relations ≡ 0
    → Checked z count steps log rows relations
unfolding cases-replay cases-stores
checked z count steps log rows relations e =
    let passed = go (sized z count steps log rows relations) (leb steps most_steps) (long z count steps log rows relations)
    (leb (log_need steps) (length log)) (right z count steps log rows relations) (sym (replaying-is z count steps log rows relations) ∙ e) in
    record {
      stores = RunLaws.checked z count rows relations (system-is z count steps log rows relations ∙ passed.0);
      few-steps = leb→le steps most_steps (true-T _ passed.1);
      log-long = leb→le (log_need steps) (length log) (true-T _ passed.2);
    }
  where
    go : (a b l m k : Bool) → cases-replay a b l m k ≡ 0 → (cases-stores a l k ≡ 0) × (b ≡ true) × (m ≡ true)
    go true true true true true e = (refl, refl, refl)
    go true true true true false e = absurd (omega arith)
    go true true true false k e = absurd (omega arith)
    go true true false m k e = absurd (omega arith)
    go true false l m k e = absurd (omega arith)
    go false b l m k e = absurd (omega arith)

pub first-ready : (z : Sizes) (count steps : ℕ) (log rows relations : List ℤ) → check_replay z count steps log rows relations ≡ 0
    → Ready rows relations (start_progress (equations z) count)
first-ready z count steps log rows relations passed =
    let c = (checked z count steps log rows relations passed).stores in
    start-ready (equations z) count rows relations (RunLaws.few-equations z c.sizes) c.rows-within c.listing

-- ---- the whole call

module _ (z : Sizes) (count steps : ℕ) (log rows relations : List ℤ) where
  abbrev first : Progress
  first = start_progress (equations z) count

  abbrev whole : Outcome
  whole = outcome_of z.m (span z) steps log (state_of rows relations first)

  whole_is : replay_stores z count steps log rows relations ≡ whole
  unfolding replay_stores replay start state_of
  whole_is = refl

  module _ {rows' relations' : List ℤ} {o : Answer.Outcome} (l : Left rows relations rows' relations' first o whole) where
    is-done : o.refusal ≡ 0 → whole ≡ done (state_of rows' relations' o.progress)
    unfolding Progress.outcome_of
    is-done n =
        sym l.ran.reached.outcome
        ∙ ap₂ (λ k t. Progress.outcome_of k t (state_of rows' relations' o.progress)) n (l.finished.all_settled n).0

    -- No diagonal polynomial of what is accepted is zero.
    pub replay-nonzero : check_replay z count steps log rows relations ≡ 0 → o.refusal ≡ 0
        → Nonzero (diagonal leading (span z) (settled_state o.progress.settled rows' o.progress.order))
    unfolding replay_call after_replay_check after_run_of acceptance state_of
    replay-nonzero passed n =
        let v = state_of rows' relations' o.progress in
        let accepts : (replay_call z count steps log rows relations).result.refusal ≡ 0 =
        ap (λ k. (after_replay_check z count steps log rows relations k).result.refusal) passed
        ∙ ap (λ y. (after_run_of leading z y rows relations).result.refusal) (whole_is ∙ is-done n) in
        let (s, a, same) = accepted-call z count steps log rows relations accepts in
        let here : s ≡ v = done-injective (sym a.accepts ∙ whole_is ∙ is-done n) in
        subst Nonzero
        (diagonal-settled leading (span z) o.progress.settled rows' o.progress.order v
        (ap (λ k. rows_of k rows') (l.finished.all_settled n).1) refl)
        (member-all (λ p. T (not (is_zero_of p))) (diagonal leading (span z) v)
        (nonzero-of-diagonal leading (rank v) z.m (span z) v
        (subst (λ u. Diagonal leading (rank u) z.m (span z) u) here (diagonal-nonzero a))))

module _ (z : Sizes) (count steps : ℕ) (log rows relations : List ℤ) (r : Result RunReport Refusal) where
  -- Refusals 1, 2 and 5.
  pub call-unchanged : (n : ℕ) → n ≢ 0 → n ≡ check_replay z count steps log rows relations → RunLaws.result_of r ≡ refusal n
      → RunLaws.call_of r rows relations ≡ replay_call z count steps log rows relations
  unfolding replay_call after_replay_check unchanged
  call-unchanged zero h e f = absurd (h refl)
  call-unchanged (suc n) h e f =
      RunLaws.call-of (unchanged (suc n) rows relations) r rows relations f refl refl
      ∙ ap (after_replay_check z count steps log rows relations) e

  module _ (passed : check_replay z count steps log rows relations ≡ 0) where
    module _ {rows' relations' : List ℤ} {o : Answer.Outcome} (l : Left rows relations rows' relations' (first z count steps log rows relations) o (whole z count steps log rows relations)) where
      call-left : ((s : State) → whole z count steps log rows relations ≢ going s) → RunLaws.result_of r ≡ RunLaws.result_after_of leading (span z) (whole z count steps log rows relations)
          → RunLaws.call_of r rows' relations' ≡ replay_call z count steps log rows relations
      unfolding replay_call after_replay_check
      call-left n e =
          RunLaws.call-after leading z (whole z count steps log rows relations) r rows relations rows' relations' n e l.ran.rows-after l.ran.relations-after
          ∙ ap (λ y. after_run_of leading z y rows relations) (sym (whole_is z count steps log rows relations))
          ∙ ap (after_replay_check z count steps log rows relations) (sym passed)

      pub call-cleared : o.refusal ≢ 0 → RunLaws.result_of r ≡ refusal o.refusal
          → RunLaws.call_of r rows' relations' ≡ replay_call z count steps log rows relations
      unfolding RunLaws.result_after_of
      call-cleared n e =
          call-left (λ s f. going≢refused (sym f ∙ is-refused)) (e ∙ ap (RunLaws.result_after_of leading (span z)) (sym is-refused))
        where
          is-refused : whole z count steps log rows relations ≡ refused o.refusal
          is-refused =
              sym l.ran.reached.outcome ∙ outcome-refused o.refusal o.done (state_of rows' relations' o.progress) n

      pub call-accepted : o.refusal ≡ 0
          → RunLaws.result_of r ≡ acceptance leading (span z) (state_of rows' relations' o.progress)
          → RunLaws.call_of r rows' relations' ≡ replay_call z count steps log rows relations
      unfolding RunLaws.result_after_of
      call-accepted n e =
          call-left (λ s f. going≢done (sym f ∙ is-done z count steps log rows relations l n)) (e ∙ ap (RunLaws.result_after_of leading (span z)) (sym (is-done z count steps log rows relations l n)))
