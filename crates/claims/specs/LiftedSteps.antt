-- The facts about work by steps lifted to the exported calls, whose state and result are numbers of lent stores.
--
-- Main definitions
--   PreparedWith z count rows relations state p   what an accepted call that prepares has left
--   Shows c state result n s     the stores that a call left are those of the call c, with n steps
--
-- Main statements
--   prepare-course               every call that prepares takes one of the courses
--   prepare-number, prepare-refused, prepare-two, prepare-one, prepare-five, prepare-output, prepare-accepted   preparing
--   steps-number, steps-refused, steps-cleared, steps-checked, steps-gives, steps-bound, steps-none   a run with a budget
--   successive-shows             successive calls from a prepared state come to the call with the sum of their budgets
--   divided, whole, passes       so they end as that call ends, as a whole run if that is enough, and with a right state
use Prim.Native.Nat.{ℕ, zero, suc, ◌+◌, ◌*◌, ◌≤◌, zero-le}
use Rattle.std.proofs.Common.{le_refl, le_trans, le_of_eq, mul-le-mul, ◌∙◌, le-leb, take-append-drop, take_at, length-take-le}
use native.Mathlib.Omega.{arith}
use Rattle.std.specs.Prelude.{◌≡◌, ◌↔◌, ◌≢◌, Bool, ◌&&◌, cond, List, [], ◌∷◌, ◌++◌, take, drop, get_or, ℤ, pos}
use Rattle.std.proofs.Math.Path.{refl, sym, ap, ap₂, subst}
use Rattle.std.proofs.Math.Logic.{inl, inr}
use Rattle.std.proofs.Math.Bool.{true, false, true≢false}
use Rattle.std.proofs.Math.Dec.{T, leb, leb→le}
use Rattle.std.proofs.Math.ListN.{length, length-append}
use Rattle.std.proofs.lemmas.List.{length-map, length-replicate}
use Rattle.lists.specs.Everywhere.{all-mono, all-get_or-default}
use Rattle.lists.specs.Tests.{T-&&, true_of, true-T, cond-passed, cond-zero}
use Rattle.lists.specs.Overwritten.{overwrite, drop-overwrite, overwrite-length}
use Rattle.rules.specs.Limits.{column_count, most_equations}
use Rattle.rules.specs.Rows.{Row, no_row}
use Rattle.rules.specs.Elimination.{leading, enough, State}
use Rattle.rules.specs.Stores.{Sizes, equations, rows_of, relations_of, row_need, relation_need, sizes_right_of, count_right, check_stores_of}
use Rattle.rules.specs.Stores.{StoreRow, Shaped, Valid, span, lengths_right_of, numbers_right_of}
use Rattle.rules.specs.Layout.{size-bounds, stores-valid, length-rows_of, lengths_right-iff, NumbersRight}
use Rattle.rules.specs.Calls.{Result, Call, call_run, zeros, refusal, acceptance}
use Rattle.theory.specs.Steps.{Refusal}
use Rattle.theory.proofs.Steps.{step-refused}
use Rattle.steps.specs.Budgets.{Walk, Walked, used-up, at-end, stopped, row-of}
use Rattle.steps.proofs.Budgets.{walked}
use Rattle.steps.specs.HeldCalls.{Held, state_numbers_of, no_state_of, prepared, after_checks, prepare_call, check_state_of}
use Rattle.steps.specs.HeldCalls.{StepsResult, StepsCall, steps_call, state_in_of, the_columns_of, sizes_held_of, pivots_right_of, moved_to}
use Rattle.steps.specs.HeldCalls.{stopped_by_of, after_steps}
use Rattle.steps.specs.BudgetParts.{added_steps, unless_refused, call_continued, whole_call}
use Rattle.steps.proofs.BudgetParts.{left-passes, calls-add, calls-whole}
use Rattle.steps.specs.SoundStates.{prepared-passes, check_state-zero}
use Rattle.steps.proofs.HandedIn.{call_none}
use Rattle.steps.specs.SmallSteps.{SmallSteps}
use Rattle.steps.proofs.SmallSteps.{steps-small}
use Rattle.reduction.specs.Progress.{most_steps}
use Rattle.export_results.specs.Results.{Exported, run_need, none-checked, on_acceptance}
use Rattle.exported_runs.specs.Runs.{run_numbers_of, ran}
use Rattle.exported_steps.specs.StateNumbers.{state_need, StatePrepared, state_put, export_prepare, held_in, counts_right_of}
use Rattle.exported_steps.specs.StateNumbers.{numbers-held, numbers-right, length-state_numbers, held-four, held-numbers, no-numbers}
use Rattle.exported_steps.specs.StepNumbers.{steps_need, step_numbers, Stepped, stepped, export_steps, early, steps-left, left-late}
use Rattle.exported_steps.specs.StepNumbers.{check_steps, kept_steps, after_steps_check, worked, call-late, refused-steps}
use Rattle.claims.specs.RunWords.{Passed, InRange, LongEnough, Rewritten, Cleared, FoundDuring}
use Rattle.claims.specs.ExportWords.{ExportedRun, ExportCourse, run-range-wrong, run-store-short, run-number-wrong, as-run}
use Rattle.claims.specs.LiftedRuns.{overwrite-rewritten, zero-passed, range-iff, Verdict, two, one, five, none_found}
use Rattle.claims.specs.LiftedRuns.{stores-verdict}
use Rattle.claims.specs.SheetWords.{WriteNumber}
use Rattle.claims.specs.LiftedExports.{export-course}
use Rattle.claims.specs.StepWords.{ExportedPrepare, ExportedSteps, StateFault, steps_told, Successive, one-call, next-call, no_call}
use Rattle.claims.specs.StepWords.{SameEnd, StepsNumber, StepsGives, PrepareLong, PrepareCourse}
use Rattle.claims.specs.StepWords.{prepare-range-wrong, prepare-store-short, prepare-number-wrong, as-prepared}

-- ---- stores

-- A front of the same length takes the place of another.
over-front : (part before store : List ℤ) → length before ≤ length part → overwrite part (overwrite before store) ≡ overwrite part store
unfolding overwrite
over-front part before store h = ap (λ l. part ++ l) (drop-overwrite (length part) before store h)

-- A front that is written where it stands.
same-front : (n : ℕ) (store : List ℤ) → n ≤ length store → overwrite (take n store) store ≡ store
unfolding overwrite
same-front n store h = ap (λ k. take n store ++ drop k store) (length-take-le n store h) ∙ take-append-drop n store

zeros-written : (need : ℕ) (before : List ℤ) → need ≤ length before → Cleared need before (overwrite (zeros need) before)
unfolding zeros
zeros-written need before h = overwrite-rewritten (zeros need) before (length-replicate need (pos 0)) h

-- ---- preparing

pub record PreparedWith (z : Sizes) (count : ℕ) (rows relations state : List ℤ) (p : StatePrepared) : Type 0 where
  pub long : state_need ≤ length state
  pub passed : check_stores_of z count rows relations ≡ 0
  pub left : p.state_store ≡ overwrite (state_numbers_of (prepared z count)) state

module _ {z : Sizes} {count : ℕ} {rows relations state : List ℤ} {p : StatePrepared}
    (x : ExportedPrepare z count rows relations state p) where
  prepared-by : (b : Bool) → leb state_need (length state) ≡ b → (n : ℕ) → check_stores_of z count rows relations ≡ n
      → let q = state_put (cond b (after_checks z count n) (after_checks z count (check_stores_of z count [] []))) state in
      q.refusal ≡ 0 → PreparedWith z count rows relations state q
  unfolding state_put after_checks on_acceptance
  prepared-by true e zero f h = record { long = leb→le state_need (length state) (subst T (sym e) tt); passed = f; left = refl }
  prepared-by true e (suc n) f h = absurd (omega arith)
  prepared-by false e n f h =
      absurd (none (sizes_right_of z && count_right count) (ap (λ k. (after_checks z count k).refusal) (sym (none-checked z count)) ∙ h))
    where
      none : (b : Bool) → (after_checks z count (cond b 1 2)).refusal ≡ 0 → ⊥
      none true g = omega arith
      none false g = omega arith

  pub prepare-accepted : p.refusal ≡ 0 → PreparedWith z count rows relations state p
  unfolding export_prepare prepare_call
  prepare-accepted =
      subst (λ q. q.refusal ≡ 0 → PreparedWith z count rows relations state q) (sym x.called)
      (prepared-by (leb state_need (length state)) refl (check_stores_of z count rows relations) refl)

  -- The checks, in their order; the store of the state is one of the lent stores.
  pub prepare-course : PrepareCourse z count rows relations state p
  unfolding export_prepare prepare_call state_put after_checks on_acceptance
  prepare-course =
      subst (PrepareCourse z count rows relations state) (sym x.called) (go (leb state_need (length state)) refl)
    where
      by-check : state_need ≤ length state → {n : ℕ}
          → Verdict (InRange z count) (LongEnough z rows relations) (NumbersRight z count rows relations) n
          → PrepareCourse z count rows relations state (state_put (after_checks z count n) state)
      by-check long (two r) = prepare-range-wrong r
      by-check long (one r l) = prepare-store-short r (λ k. l k.0)
      by-check long (five r l w) = prepare-number-wrong r (l, long) w
      by-check long (none_found r l w) = as-prepared (record { range = r; lengths = l; numbers = w }) long

      short : (b : Bool) → (sizes_right_of z && count_right count) ≡ b → leb state_need (length state) ≡ false
          → PrepareCourse z count rows relations state (state_put (after_checks z count (cond b 1 2)) state)
      short true f e =
          prepare-store-short ((range-iff z count).0 (true-T _ f)) (λ k. true≢false (sym (le-leb state_need (length state) k.1) ∙ e))
      short false f e = prepare-range-wrong (λ r. true≢false (sym (true_of _ ((range-iff z count).1 r)) ∙ f))

      go : (b : Bool) → leb state_need (length state) ≡ b
          → PrepareCourse z count rows relations state
          (state_put
          (cond b (after_checks z count (check_stores_of z count rows relations)) (after_checks z count (check_stores_of z count [] []))) state)
      go true e = by-check (leb→le state_need (length state) (subst T (sym e) tt)) (stores-verdict z count rows relations)
      go false e =
          subst (λ n. PrepareCourse z count rows relations state (state_put (after_checks z count n) state)) (sym (none-checked z count))
          (short (sizes_right_of z && count_right count) refl e)

module _ {z : Sizes} {count : ℕ} {rows relations state : List ℤ} where
  prepared-number : {p : StatePrepared} → PrepareCourse z count rows relations state p → WriteNumber p.refusal
  prepared-number (prepare-range-wrong r) = inr (inr (inl refl))
  prepared-number (prepare-store-short r l) = inr (inl refl)
  prepared-number (prepare-number-wrong r l w) = inr (inr (inr refl))
  prepared-number (as-prepared q l) = inl refl

  prepared-refused : {p : StatePrepared} → PrepareCourse z count rows relations state p → p.refusal ≢ 0 → p.state_store ≡ state
  prepared-refused (prepare-range-wrong r) h = refl
  prepared-refused (prepare-store-short r l) h = refl
  prepared-refused (prepare-number-wrong r l w) h = refl
  prepared-refused (as-prepared q l) h = absurd (h refl)

  prepared-two : {p : StatePrepared} → PrepareCourse z count rows relations state p → (p.refusal ≡ 2) ↔ (¬ InRange z count)
  prepared-two (prepare-range-wrong r) = (λ e. r, λ h. refl)
  prepared-two (prepare-store-short r l) = (λ e. absurd (omega arith), λ h. absurd (h r))
  prepared-two (prepare-number-wrong r l w) = (λ e. absurd (omega arith), λ h. absurd (h r))
  prepared-two (as-prepared q l) = (λ e. absurd (omega arith), λ h. absurd (h q.range))

  prepared-one : {p : StatePrepared} → PrepareCourse z count rows relations state p
      → (p.refusal ≡ 1) ↔ (InRange z count × (¬ PrepareLong z rows relations state))
  prepared-one (prepare-range-wrong r) = (λ e. absurd (omega arith), λ h. absurd (r h.0))
  prepared-one (prepare-store-short r l) = (λ e. (r, l), λ h. refl)
  prepared-one (prepare-number-wrong r l w) = (λ e. absurd (omega arith), λ h. absurd (h.1 l))
  prepared-one (as-prepared q l) = (λ e. absurd (omega arith), λ h. absurd (h.1 (q.lengths, l)))

  prepared-five : {p : StatePrepared} → PrepareCourse z count rows relations state p
      → (p.refusal ≡ 5) ↔ (InRange z count × PrepareLong z rows relations state × (¬ NumbersRight z count rows relations))
  prepared-five (prepare-range-wrong r) = (λ e. absurd (omega arith), λ h. absurd (r h.0))
  prepared-five (prepare-store-short r l) = (λ e. absurd (omega arith), λ h. absurd (l h.1))
  prepared-five (prepare-number-wrong r l w) = (λ e. (r, l, w), λ h. refl)
  prepared-five (as-prepared q l) = (λ e. absurd (omega arith), λ h. absurd (h.2 q.numbers))

  prepared-output : {p : StatePrepared} → PrepareCourse z count rows relations state p → p.refusal ≡ 0
      → Passed z count rows relations × Rewritten state_need (state_numbers_of (prepared z count)) state p.state_store
  unfolding prepared
  prepared-output (prepare-range-wrong r) h = absurd (omega arith)
  prepared-output (prepare-store-short r l) h = absurd (omega arith)
  prepared-output (prepare-number-wrong r l w) h = absurd (omega arith)
  prepared-output (as-prepared q l) h =
      (q, overwrite-rewritten (state_numbers_of (prepared z count)) state (length-state_numbers (prepared z count) refl) l)

module _ {z : Sizes} {count : ℕ} {rows relations state : List ℤ} {p : StatePrepared}
    (x : ExportedPrepare z count rows relations state p) where
  pub prepare-number : WriteNumber p.refusal
  prepare-number = prepared-number (prepare-course x)

  pub prepare-refused : p.refusal ≢ 0 → p.state_store ≡ state
  prepare-refused = prepared-refused (prepare-course x)

  pub prepare-two : (p.refusal ≡ 2) ↔ (¬ InRange z count)
  prepare-two = prepared-two (prepare-course x)

  pub prepare-one : (p.refusal ≡ 1) ↔ (InRange z count × (¬ PrepareLong z rows relations state))
  prepare-one = prepared-one (prepare-course x)

  pub prepare-five : (p.refusal ≡ 5)
      ↔ (InRange z count × PrepareLong z rows relations state × (¬ NumbersRight z count rows relations))
  prepare-five = prepared-five (prepare-course x)

  pub prepare-output : p.refusal ≡ 0
      → Passed z count rows relations × Rewritten state_need (state_numbers_of (prepared z count)) state p.state_store
  prepare-output = prepared-output (prepare-course x)

-- ---- one call

pub record Shows (c : StepsCall) (state result : List ℤ) (n : ℕ) (s : Stepped) : Type 0 where
  pub refusal : s.refusal ≡ c.result.run.refusal
  pub rows : s.row_store ≡ c.row_store
  pub relations : s.relation_store ≡ c.relation_store
  pub state-left : s.state_store ≡ overwrite (state_numbers_of c.result.state) state
  pub last-steps : ℕ
  pub result-left : s.result_store ≡ overwrite (pos last-steps ∷ drop 1 (step_numbers c.result)) result
  pub steps : n ≡ c.result.steps

-- A call on a state store that holds the numbers of a state which passes the checks.
module _ (x : Held) (four : length x.order ≡ column_count) (rows relations : List ℤ) (passed : check_state_of x rows relations ≡ 0) where
  exported-moved : (k : ℕ) (rest result : List ℤ) → steps_need ≤ length result
      → export_steps k rows relations (state_numbers_of x ++ rest) result
      ≡ stepped (steps_call k x rows relations) (state_numbers_of x ++ rest) result
  unfolding stepped
  exported-moved k rest result long =
      let state = state_numbers_of x ++ rest in
      let told = numbers-held x four rest in
      let c = steps_call k (held_in state) rows relations in
      let late = call-late (held_in state) rows relations k (ap (λ y. check_state_of y rows relations) told ∙ passed) in
      sym (steps-left k rows relations state result enough-numbers (numbers-right x four rest) refl
      (left-late c.result state late).0 (left-late c.result result late).1 long)
      ∙ ap (λ y. stepped (steps_call k y rows relations) state result) told
    where
      enough-numbers : state_need ≤ length (state_numbers_of x ++ rest)
      enough-numbers = rw length-append (omega (arith, length-state_numbers x four))

  shown : (k : ℕ) (rest result : List ℤ) → steps_need ≤ length result → {s : Stepped}
      → ExportedSteps k rows relations (state_numbers_of x ++ rest) result s
      → Shows (steps_call k x rows relations) (state_numbers_of x ++ rest) result (steps_told s) s
  unfolding stepped step_numbers overwrite
  shown k rest result long {s} e =
      subst (λ t. Shows (steps_call k x rows relations) (state_numbers_of x ++ rest) result (steps_told t) t)
      (sym (e.called ∙ exported-moved k rest result long))
      (record {
        refusal = refl;
        rows = refl;
        relations = refl;
        state-left = refl;
        last-steps = (steps_call k x rows relations).result.steps;
        result-left = refl;
        steps = refl;
      })

-- ---- successive calls

-- The call goes on where it was not refused,
continued-going : (k : ℕ) (c : StepsCall) → c.result.run.refusal ≡ 0
    → call_continued k c ≡ added_steps c.result.steps (steps_call k c.result.state c.row_store c.relation_store)
unfolding call_continued unless_refused
continued-going k c e = ap (unless_refused k c) e

-- and stays as it is otherwise.
continued-refused : (k : ℕ) (c : StepsCall) → c.result.run.refusal ≢ 0 → call_continued k c ≡ c
unfolding call_continued unless_refused
continued-refused k c h = go c.result.run.refusal h
  where
    go : (n : ℕ) → n ≢ 0 → unless_refused k c n ≡ c
    go zero h = absurd (h refl)
    go (suc n) h = refl

length-run_numbers : (r : Result) → length r.order ≡ column_count → length (run_numbers_of r) ≡ run_need
unfolding run_numbers_of
length-run_numbers r h = simp (length-append, length-map) (omega arith)

behind-steps : (k : ℕ) (r : StepsResult) → length r.run.order ≡ column_count → length (pos k ∷ drop 1 (step_numbers r)) ≡ steps_need
unfolding step_numbers run_numbers_of
behind-steps k r four = simp (length-append, length-map) (omega (arith, four))

-- The ten numbers of a run behind the first two.
as-whole : {c : StepsCall} {state result : List ℤ} {n : ℕ} {s : Stepped} {d : Call} (other : List ℤ) → Shows c state result n s
    → length c.result.run.order ≡ column_count → whole_call c ≡ d
    → (s.refusal ≡ (ran d other).refusal) × (s.row_store ≡ (ran d other).row_store) × (s.relation_store ≡ (ran d other).relation_store)
    × (take run_need (drop 2 s.result_store) ≡ take run_need (ran d other).result_store)
unfolding whole_call ran overwrite step_numbers
as-whole {c} {result = result} {s = s} other shows four same = (
  shows.refusal ∙ ap (λ d. d.result.refusal) same,
  shows.rows ∙ ap (λ d. d.row_store) same,
  shows.relations ∙ ap (λ d. d.relation_store) same,
  ap (λ l. take run_need (drop 2 l)) shows.result-left
      ∙ take_at (run_numbers_of c.result.run) _ run_need ten
      ∙ sym (take_at (run_numbers_of c.result.run) (drop (length (run_numbers_of c.result.run)) other) run_need ten)
      ∙ ap (λ d. take run_need (overwrite (run_numbers_of d.result) other)) same,
)
  where
    ten : length (run_numbers_of c.result.run) ≡ run_need
    ten = length-run_numbers c.result.run four

five-blocks : (r : Row) → StoreRow r → length r.blocks ≤ 5
unfolding Shaped
five-blocks r h = le_of_eq h.0

-- No system needs more steps than any state allows.
enough-few : (z : Sizes) (count : ℕ) (rows relations : List ℤ) → check_stores_of z count rows relations ≡ 0
    → enough (rows_of (equations z) rows) ≤ most_steps
unfolding enough
enough-few z count rows relations e =
    go (length (rows_of (equations z) rows)) (length (get_or (rows_of (equations z) rows) 0 no_row).blocks) few-rows few-blocks
  where
    valid : Valid z (rows_of (equations z) rows) (relations_of count relations)
    valid = stores-valid z count rows relations e

    few-rows : length (rows_of (equations z) rows) ≤ most_equations
    few-rows = rw length-rows_of (size-bounds z valid.sizes).few-equations

    few-blocks : length (get_or (rows_of (equations z) rows) 0 no_row).blocks ≤ 5
    few-blocks = all-get_or-default (λ r. length r.blocks ≤ 5) (rows_of (equations z) rows) no_row 0 zero-le
        (all-mono StoreRow (λ r. length r.blocks ≤ 5) (λ r h. five-blocks r h) (rows_of (equations z) rows) valid.row-shapes)

    go : (m b : ℕ) → m ≤ most_equations → b ≤ 5 → suc m * (m + m * b) ≤ most_steps
    go m b h g =
        let rows : suc m ≤ 7 = omega arith in
        let sum : m + m * b ≤ 36 = omega (arith, mul-le-mul h g) in
        le_trans (mul-le-mul rows sum) (le_refl 252)

module _ {z : Sizes} {count : ℕ} {rows relations state : List ℤ} {p : StatePrepared}
    (ready : PreparedWith z count rows relations state p) where
  abbrev first : Held
  first = prepared z count

  abbrev call : ℕ → StepsCall
  call a = steps_call a first rows relations

  first_passes : check_state_of first rows relations ≡ 0
  first_passes = prepared-passes z count rows relations ready.passed

  first-four : length first.order ≡ column_count
  unfolding prepared
  first-four = refl

  small : (a : ℕ) → SmallSteps (call a).result
  small a = steps-small first rows relations first_passes first-four a

  rest : List ℤ
  rest = drop (length (state_numbers_of first)) state

  held : p.state_store ≡ state_numbers_of first ++ rest
  unfolding rest overwrite
  held = ready.left

  module _ (result : List ℤ) (long : steps_need ≤ length result) where
    -- One call on the prepared state.
    one-shows : (a : ℕ) {s : Stepped} → ExportedSteps a rows relations p.state_store result s
        → Shows (call a) p.state_store result (steps_told s) s
    one-shows a {s} =
        subst (λ l. ExportedSteps a rows relations l result s → Shows (call a) l result (steps_told s) s) (sym held)
        (shown first first-four rows relations first_passes a rest result long)

    -- A call after others.
    next-shows : (a n k : ℕ) {s t : Stepped} → Shows (call a) p.state_store result n s → s.refusal ≡ 0
        → ExportedSteps k s.row_store s.relation_store s.state_store s.result_store t
        → Shows (call (a + k)) p.state_store result (n + steps_told t) t
    unfolding added_steps overwrite step_numbers
    next-shows a n k {s} {t} shows none e =
        subst (λ c. Shows c p.state_store result (n + steps_told t) t)
        (sym (continued-going k (call a) going) ∙ calls-add z count rows relations ready.passed a k)
        (record {
          refusal = d.refusal;
          rows = d.rows;
          relations = d.relations;
          state-left = d.state-left
              ∙ over-front new old p.state_store
              (le_of_eq (length-state_numbers _ four ∙ sym (length-state_numbers _ next_small.state.four)));
          last-steps = d.last-steps;
          result-left = d.result-left ∙ ap (overwrite numbers) shows.result-left
              ∙ over-front numbers before result
              (le_of_eq (behind-steps shows.last-steps (call a).result (small a).run.four
              ∙ sym (behind-steps d.last-steps next.result next_small.run.four)));
          steps = ap₂ ◌+◌ shows.steps d.steps;
        })
      where
        going : (call a).result.run.refusal ≡ 0
        going = sym shows.refusal ∙ none

        four : length (call a).result.state.order ≡ column_count
        four = (small a).state.four

        next : StepsCall
        next = steps_call k (call a).result.state (call a).row_store (call a).relation_store

        next-passes : check_state_of (call a).result.state (call a).row_store (call a).relation_store ≡ 0
        next-passes = left-passes z count rows relations ready.passed a going

        next_small : SmallSteps next.result
        next_small = steps-small (call a).result.state (call a).row_store (call a).relation_store next-passes four k

        old : List ℤ
        old = state_numbers_of (call a).result.state

        new : List ℤ
        new = state_numbers_of next.result.state

        before : List ℤ
        before = pos shows.last-steps ∷ drop 1 (step_numbers (call a).result)

        result-long : steps_need ≤ length s.result_store
        result-long = le_trans long
            (le_trans (overwrite-length before result)
            (le_of_eq (ap length (sym shows.result-left))))

        d : Shows next (overwrite old p.state_store) s.result_store (steps_told t) t
        d = shown (call a).result.state four (call a).row_store (call a).relation_store next-passes k
            (drop (length old) p.state_store) s.result_store result-long
            (record {
              called = e.called ∙ (λ i. export_steps k (shows.rows i) (shows.relations i) (shows.state-left i) s.result_store);
            })

        numbers : List ℤ
        numbers = pos d.last-steps ∷ drop 1 (step_numbers next.result)

    -- All of them.
    pub successive-shows : {a n : ℕ} {s : Stepped} → Successive rows relations p.state_store result a n s
        → Shows (call a) p.state_store result n s
    successive-shows (one-call {k} e) = one-shows k e
    successive-shows (next-call {a} {n} {k} before none e) = next-shows a n k (successive-shows before) none e
    successive-shows (no_call k {a} {n} {s} before h) =
        let shows = successive-shows before in
        subst (λ c. Shows c p.state_store result n s)
        (sym (continued-refused k (call a) (λ e. h (shows.refusal ∙ e))) ∙ calls-add z count rows relations ready.passed a k) shows

    pub divided : {a n : ℕ} {s t : Stepped} → Successive rows relations p.state_store result a n s
        → ExportedSteps a rows relations p.state_store result t → SameEnd n s t
    unfolding overwrite
    divided {a} calls e =
        let s = successive-shows calls in
        let t = one-shows a e in
        record {
          refusal = s.refusal ∙ sym t.refusal;
          rows = s.rows ∙ sym t.rows;
          relations = s.relations ∙ sym t.relations;
          state = s.state-left ∙ sym t.state-left;
          steps = s.steps ∙ sym t.steps;
          numbers = ap (drop 1) s.result-left ∙ sym (ap (drop 1) t.result-left);
        }

    -- The state that is left passes the checks of the next call.
    pub passes : {a n : ℕ} {s : Stepped} → Successive rows relations p.state_store result a n s → s.refusal ≡ 0 → {k : ℕ} {t : Stepped}
        → ExportedSteps k s.row_store s.relation_store s.state_store s.result_store t → ¬ StateFault t.refusal
    unfolding early
    passes {a} {n} {s} calls none {k} {t} e fault =
        let t-shows = successive-shows (next-call calls none e) in
        true≢false (sym (soon fault) ∙ ap early t-shows.refusal ∙ call-late first rows relations (a + k) first_passes)
      where
        soon : StateFault t.refusal → early t.refusal ≡ true
        soon (inl e) = ap early e
        soon (inr e) = ap early e

    -- Enough steps in all make a whole run.
    pub whole : {a n : ℕ} {s : Stepped} → Successive rows relations p.state_store result a n s → most_steps ≤ a
        → {other : List ℤ} {e : Exported} → ExportedRun leading z count rows relations other e → run_need ≤ length other
        → (s.refusal ≡ e.refusal) × (s.row_store ≡ e.row_store) × (s.relation_store ≡ e.relation_store)
        × (take run_need (drop 2 s.result_store) ≡ take run_need e.result_store)
    whole {a} {n} {s} calls h {other} x room = go (export-course x)
      where
        shows : Shows (call a) p.state_store result n s
        shows = successive-shows calls

        all-passed : Passed z count rows relations
        all-passed = zero-passed ready.passed

        same : whole_call (call a) ≡ call_run leading z count rows relations
        same = calls-whole z count rows relations ready.passed a (le_trans (enough-few z count rows relations ready.passed) h)

        go : {e : Exported} → ExportCourse leading z count rows relations other e
            → (s.refusal ≡ e.refusal) × (s.row_store ≡ e.row_store) × (s.relation_store ≡ e.relation_store)
            × (take run_need (drop 2 s.result_store) ≡ take run_need e.result_store)
        go (run-range-wrong r) = absurd (r all-passed.range)
        go (run-store-short r l) = absurd (l (all-passed.lengths, room))
        go (run-number-wrong r l w) = absurd (w all-passed.numbers)
        go (as-run q l c r) = as-whole other shows (small a).run.four (same ∙ sym r.called)

-- ---- what one call can do

-- The number of the first of five checks that fails.
checks-number : (a b c d e : Bool) (n : ℕ) → cond a (cond b (cond c (cond d (cond {A = ℕ} e 0 11) 11) 1) 11) 1 ≡ suc n → StateFault (suc n)
checks-number true true true true true n h = absurd (omega arith)
checks-number true true true true false n h = inr (sym h)
checks-number true true true false e n h = inr (sym h)
checks-number true true false d e n h = inl (sym h)
checks-number true false c d e n h = inr (sym h)
checks-number false b c d e n h = inl (sym h)

-- What the checks let through.
record StepsPassed (rows relations state result : List ℤ) : Type 0 where
  state-long : state_need ≤ length state
  counts : counts_right_of state ≡ true
  result-long : steps_need ≤ length result
  passed : check_state_of (held_in state) rows relations ≡ 0

module _ (rows relations state result : List ℤ) where
  abbrev x : Held
  x = held_in state

  checks-passed : check_steps rows relations state result ≡ 0 → StepsPassed rows relations state result
  unfolding check_steps check_state_of
  checks-passed e =
      let first = cond-zero (leb state_need (length state)) _ 0 e in
      let second = cond-zero (counts_right_of state && sizes_held_of x) _ 10 first.1 in
      let third = cond-zero (lengths_right_of (equations x.sizes) rows relations && leb steps_need (length result)) _ 0 second.1 in
      let sizes = (T-&& (counts_right_of state) (sizes_held_of x)).0 second.0 in
      let lengths = (T-&& (lengths_right_of (equations x.sizes) rows relations) (leb steps_need (length result))).0 third.0 in
      record {
        state-long = leb→le state_need (length state) first.0;
        counts = true_of (counts_right_of state) sizes.0;
        result-long = leb→le steps_need (length result) lengths.1;
        passed = cond-passed (sizes_held_of x) _ 11 sizes.1
            ∙ cond-passed (lengths_right_of (equations x.sizes) rows relations) _ 1 lengths.0 ∙ third.1;
      }

  checks-failed : (n : ℕ) → check_steps rows relations state result ≡ suc n → StateFault (suc n)
  unfolding check_steps
  checks-failed n e =
      checks-number (leb state_need (length state)) (counts_right_of state && sizes_held_of x)
      (lengths_right_of (equations x.sizes) rows relations && leb steps_need (length result))
      (numbers_right_of x.sizes x.relations rows relations)
      (pivots_right_of (the_columns_of x) (rows_of (equations x.sizes) rows) x.settled) n e

-- A call is refused by the checks, or does what the run does.
data Done (budget : ℕ) (rows relations state result : List ℤ) : Stepped → Type 0 where
  not-begun : {n : ℕ} → StateFault n → check_steps rows relations state result ≡ n
      → Done budget rows relations state result (kept_steps n rows relations state result)
  begun : StepsPassed rows relations state result → check_steps rows relations state result ≡ 0
      → Done budget rows relations state result (stepped (steps_call budget (held_in state) rows relations) state result)

done-by : {budget : ℕ} {rows relations state result : List ℤ} {s : Stepped} → ExportedSteps budget rows relations state result s
    → Done budget rows relations state result s
unfolding export_steps after_steps_check
done-by {budget} {rows} {relations} {state} {result} e =
    subst (Done budget rows relations state result) (sym e.called) (go (check_steps rows relations state result) refl)
  where
    go : (n : ℕ) → check_steps rows relations state result ≡ n
        → Done budget rows relations state result (after_steps_check budget rows relations state result n)
    go zero e = begun (checks-passed rows relations state result e) e
    go (suc n) e = not-begun (checks-failed rows relations state result n e) e

-- What a run has come to.
data Came (x : Held) (budget : ℕ) (rows relations : List ℤ) : StepsCall → Type 0 where
  stopped_by : (j n : ℕ) → j ≤ budget → FoundDuring n → Came x budget rows relations (stopped_by_of x.sizes j n rows relations)
  came-to : (j : ℕ) (f : Bool) (r : Result) (v : State) → j ≤ budget → r.refusal ≡ 0
      → Came x budget rows relations (moved_to x.sizes j f r v rows relations)

came : (x : Held) (budget : ℕ) (rows relations : List ℤ) → check_state_of x rows relations ≡ 0
    → Came x budget rows relations (steps_call budget x rows relations)
unfolding after_steps refusal acceptance
came x budget rows relations passed =
    subst (Came x budget rows relations) (sym (worked x rows relations budget passed))
    (go (walked leading budget (state_in_of x rows relations)))
  where
    during : (u : State) (n : ℕ) → Refusal leading u n → FoundDuring n
    during u n (inl h) = (omega (arith, h.0), omega (arith, h.0))
    during u n (inr (inl h)) = (omega arith, omega arith)
    during u n (inr (inr (inl h))) = (omega arith, omega arith)
    during u n (inr (inr (inr h))) = (omega arith, omega arith)

    go : {w : Walk} → Walked leading (state_in_of x rows relations) budget w
        → Came x budget rows relations (after_steps x.sizes w.taken w.outcome rows relations)
    go (used-up {v} l e) = came-to budget false (refusal 0) v (le_refl budget) refl
    go (at-end {j} {v} h l e) = came-to j true (acceptance leading (span x.sizes) v) v h refl
    go (stopped {j} {n} {u} h l e f) = stopped_by j n (omega arith) (during u n (step-refused leading u n (row-of u e) f))

module _ {budget : ℕ} {rows relations state result : List ℤ} {s : Stepped} (e : ExportedSteps budget rows relations state result s) where
  pub steps-number : StepsNumber s.refusal
  unfolding kept_steps stepped stopped_by_of moved_to refusal
  steps-number = go (done-by e)
    where
      by : {c : StepsCall} → Came (held_in state) budget rows relations c → StepsNumber c.result.run.refusal
      by (stopped_by j n h f) = inr (inr f)
      by (came-to j f r v h z) = inl z

      go : {s : Stepped} → Done budget rows relations state result s → StepsNumber s.refusal
      go (not-begun f i) = inr (inl f)
      go (begun q i) = by (came (held_in state) budget rows relations q.passed)

  pub steps-refused : StateFault s.refusal
      → (s.row_store ≡ rows) × (s.relation_store ≡ relations) × (s.state_store ≡ state) × (s.result_store ≡ result)
  unfolding kept_steps stepped early
  steps-refused = go (done-by e)
    where
      soon : {n : ℕ} → StateFault n → early n ≡ true
      soon (inl e) = ap early e
      soon (inr e) = ap early e

      go : {s : Stepped} → Done budget rows relations state result s → StateFault s.refusal
          → (s.row_store ≡ rows) × (s.relation_store ≡ relations) × (s.state_store ≡ state) × (s.result_store ≡ result)
      go (not-begun f i) h = (refl, refl, refl, refl)
      go (begun q i) h = absurd (true≢false (sym (soon h) ∙ call-late (held_in state) rows relations budget q.passed))

  pub steps-cleared : FoundDuring s.refusal
      → Cleared (row_need (equations (held_in state).sizes)) rows s.row_store × Cleared relation_need relations s.relation_store
      × Cleared state_need state s.state_store × Rewritten steps_need (pos (steps_told s) ∷ zeros 11) result s.result_store
  unfolding kept_steps stepped stopped_by_of moved_to step_numbers overwrite
  steps-cleared = go (done-by e)
    where
      Left : Stepped → Type 0
      Left s =
          Cleared (row_need (equations (held_in state).sizes)) rows s.row_store × Cleared relation_need relations s.relation_store
          × Cleared state_need state s.state_store × Rewritten steps_need (pos (steps_told s) ∷ zeros 11) result s.result_store

      by : StepsPassed rows relations state result → {c : StepsCall} → Came (held_in state) budget rows relations c
          → FoundDuring c.result.run.refusal → Left (stepped c state result)
      by q (stopped_by j n h f) g =
          let long = (lengths_right-iff (equations (held_in state).sizes) rows relations).0
          ((check_state-zero (held_in state) rows relations).0 q.passed).lengths in (
            zeros-written (row_need (equations (held_in state).sizes)) rows long.0,
            zeros-written relation_need relations long.1,
            subst (λ l. Rewritten state_need (zeros state_need) state (overwrite l state)) (sym no-numbers)
                (zeros-written state_need state q.state-long),
            subst (λ l. Rewritten steps_need (pos j ∷ zeros 11) result (overwrite l result)) (sym (refused-steps j n no_state_of))
                (overwrite-rewritten (pos j ∷ zeros 11) result refl q.result-long),
          )
      by q (came-to j f r v h z) g = absurd (omega (arith, z, g.0))

      go : {s : Stepped} → Done budget rows relations state result s → FoundDuring s.refusal → Left s
      go (not-begun (inl f) i) h = absurd (omega (arith, f, h.0))
      go (not-begun (inr f) i) h = absurd (omega (arith, f, h.1))
      go (begun q i) h = by q (came (held_in state) budget rows relations q.passed) h

  pub steps-checked : {n : ℕ} → StateFault n → (s.refusal ≡ n) ↔ (check_steps rows relations state result ≡ n)
  unfolding kept_steps stepped early
  steps-checked {n} fault = go (done-by e)
    where
      soon : StateFault n → early n ≡ true
      soon (inl e) = ap early e
      soon (inr e) = ap early e

      none : StateFault n → 0 ≡ n → ⊥
      none (inl e) f = omega arith
      none (inr e) f = omega arith

      go : {s : Stepped} → Done budget rows relations state result s → (s.refusal ≡ n) ↔ (check_steps rows relations state result ≡ n)
      go (not-begun f i) = (λ e. i ∙ e, λ e. sym i ∙ e)
      go (begun q i) = (
        λ e. absurd (true≢false (sym (soon fault) ∙ ap early (sym e) ∙ call-late (held_in state) rows relations budget q.passed)),
        λ e. absurd (none fault (sym i ∙ e)),
      )

  pub steps-gives : s.refusal ≡ 0 → StepsGives budget rows relations state result s
  unfolding kept_steps stepped step_numbers
  steps-gives = go (done-by e)
    where
      go : {s : Stepped} → Done budget rows relations state result s → s.refusal ≡ 0 → StepsGives budget rows relations state result s
      go (not-begun (inl f) i) h = absurd (omega arith)
      go (not-begun (inr f) i) h = absurd (omega arith)
      go (begun q i) h =
          let few = steps-small (held_in state) rows relations q.passed (held-four state q.state-long) budget in
          let c = steps_call budget (held_in state) rows relations in
          record {
            same_rows = refl;
            same-relations = refl;
            state-numbers = overwrite-rewritten (state_numbers_of c.result.state) state
                (length-state_numbers c.result.state few.state.four) q.state-long;
            result-numbers = overwrite-rewritten (step_numbers c.result) result
                (behind-steps c.result.steps c.result few.run.four) q.result-long;
          }

  -- The steps are told, unless the checks refuse.
  pub steps-bound : ¬ StateFault s.refusal → (steps_told s ≤ budget) × (steps_told s ≤ most_steps)
  unfolding kept_steps stepped stopped_by_of moved_to step_numbers overwrite
  steps-bound = go (done-by e)
    where
      by : {c : StepsCall} → Came (held_in state) budget rows relations c → c.result.steps ≤ budget
      by (stopped_by j n h f) = h
      by (came-to j f r v h z) = h

      go : {s : Stepped} → Done budget rows relations state result s → ¬ StateFault s.refusal
          → (steps_told s ≤ budget) × (steps_told s ≤ most_steps)
      go (not-begun f i) h = absurd (h f)
      go (begun q i) h = (
        by (came (held_in state) budget rows relations q.passed),
        (steps-small (held_in state) rows relations q.passed (held-four state q.state-long) budget).few-steps,
      )

-- With budget 0 nothing moves.
pub steps-none : {rows relations state result : List ℤ} {s : Stepped} → ExportedSteps 0 rows relations state result s
    → (s.row_store ≡ rows) × (s.relation_store ≡ relations) × (s.state_store ≡ state) × (¬ StateFault s.refusal → steps_told s ≡ 0)
unfolding kept_steps stepped step_numbers overwrite
steps-none {rows} {relations} {state} {result} e = go (done-by e)
  where
    go : {s : Stepped} → Done 0 rows relations state result s
        → (s.row_store ≡ rows) × (s.relation_store ≡ relations) × (s.state_store ≡ state) × (¬ StateFault s.refusal → steps_told s ≡ 0)
    go (not-begun f i) = (refl, refl, refl, λ h. absurd (h f))
    go (begun q i) =
        let same = call_none (held_in state) rows relations q.passed (held-four state q.state-long) in (
          ap (λ c. c.row_store) same,
          ap (λ c. c.relation_store) same,
          ap (λ c. overwrite (state_numbers_of c.result.state) state) same
              ∙ ap (λ l. overwrite l state) (held-numbers state q.state-long q.counts) ∙ same-front state_need state q.state-long,
          λ h. ap (λ c. c.result.steps) same,
        )
