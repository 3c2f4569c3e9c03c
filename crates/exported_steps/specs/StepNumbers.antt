-- The exported run with a budget: its state and its result are lent stores.
--
-- Main definitions
--   step_numbers r              the twelve numbers of a result
--   check_steps ..              the checks of the call
--   export_steps budget ..      the call
--   early n, state_left, result_left   the refusals that are found before the work, and the two stores by the refusal
--   SmallNumbers r, SmallAnswer r   the numbers of a result are small, and so are those of its state
--
-- Main statements
--   refused-steps              after a refusal by a step the result is the steps before it, and zeros
--   run-same                   the refusal of a run is that of the answer
--   left-early, left-late      the two stores by the refusal
--   worked, unworked           a run by what its checks say
--   call-late, call-early      a state that passes gives no early refusal, any other one does
--   steps-no-state, steps-negative, steps-short, steps-left   the call: with a state store that is too short, with a negative
--                              count, with a result store that is too short, and with one that is long enough
--   answer-small               the numbers of every call that is not refused before its work are small
use Prim.Native.Nat.{ℕ, zero, suc, ◌+◌, ◌*◌, ◌≤◌, ◌<◌, zero-le}
use Rattle.std.proofs.Common.{le_refl, le_trans, arith, ◌∙◌, inl, inr, true≢false, le-leb, take_all}
use Rattle.std.specs.Prelude.{◌≡◌, Bool, ◌&&◌, ◌||◌, leb, eqb, ℤ, pos, length, drop, set}
use Rattle.std.proofs.Math.Path.{refl, sym, ap, ap₂, subst}
use Rattle.std.proofs.Math.Bool.{true, false, cond, and-false}
use mathlib.Core.List.{List, [], ◌∷◌, ◌++◌}
use Rattle.std.proofs.lemmas.Bool.{lt-leb}
use Rattle.std.proofs.Math.Seq.{paste}
use Rattle.lists.specs.Overwritten.{overwrite}
use Rattle.rules.specs.Limits.{column_count, row_length}
use Rattle.rules.specs.Elimination.{Side, State, leading, refused, step, report}
use Rattle.rules.specs.Stores.{Sizes, equations, span, rows_of, row_need, lengths_right_of, numbers_right_of}
use Rattle.rules.specs.Layout.{size-bounds}
use Rattle.rules.specs.Calls.{zeros, refusal, acceptance}
use Rattle.theory.specs.Steps.{current, Refusal}
use Rattle.theory.proofs.Steps.{step-refused}
use Rattle.steps.specs.Budgets.{Walk, steps, Walked, used-up, at-end, stopped, row-of}
use Rattle.steps.proofs.Budgets.{walked}
use Rattle.steps.specs.HeldCalls.{Held, the_columns_of, state_in_of, state_numbers_of, sizes_held_of, pivots_right_of, check_state_of, StepsResult, StepsCall}
use Rattle.steps.specs.HeldCalls.{moved_to, stopped_by_of, after_steps, unmoved, after_state_check, steps_call}
use Rattle.steps.specs.SoundStates.{settled-most}
use Rattle.steps.proofs.HandedIn.{handed-sound}
use Rattle.steps.specs.SmallSteps.{SmallState}
use Rattle.steps.proofs.SmallSteps.{steps-small}
use Rattle.std.specs.Prelude as Std
use Rattle.std.proofs.Common.{Ok, Err, Some, None}
use Rattle.refusals.specs.declared.Refusal as Refusals
use Rattle.refusals.specs.Refusals.{refusal_in}
use Rattle.runs.specs.declared.RunReport.{RunReport}
use Rattle.runs.specs.CallLaws as RunLaws
use Rattle.steps.specs.StepCalls.{run_in}
use Rattle.exported_runs.specs.Times.{times-few}
use Rattle.exported_runs.specs.Runs.{run_numbers_of, SmallResult}
use Rattle.exported_steps.specs.StateNumbers.{state_need, held_in, counts_right_of}

-- ---- the call

-- The numbers that the result has (SCOPE 11.44).
abbrev pub steps_need : ℕ
steps_need = 12

-- The steps, 1 or 0 for a finished run, the ten numbers of the run.
unfoldable pub step_numbers : StepsResult → List ℤ
unfolding run_numbers_of
step_numbers r = pos r.steps ∷ pos (cond r.finished 1 0) ∷ run_numbers_of r.run

-- The length of the state store (1), sizes (11), lengths (1), numbers (11), settled rows (11) (SCOPE 11.21, 11.43, 11.44).
unfoldable pub check_steps : List ℤ → List ℤ → List ℤ → List ℤ → ℕ
unfolding held_in counts_right_of sizes_held_of lengths_right_of numbers_right_of pivots_right_of the_columns_of rows_of
check_steps row_store relation_store state_store result_store =
    let x = held_in state_store in
    let pivots : ℕ = cond (pivots_right_of (the_columns_of x) (rows_of (equations x.sizes) row_store) x.settled) 0 11 in
    let numbers : ℕ = cond (numbers_right_of x.sizes x.relations row_store relation_store) pivots 11 in
    let lengths : ℕ =
    cond (lengths_right_of (equations x.sizes) row_store relation_store && leb steps_need (length result_store)) numbers 1 in
    let sizes : ℕ = cond (counts_right_of state_store && sizes_held_of x) lengths 11 in
    cond (leb state_need (length state_store)) sizes 1

-- The refusal that the call returned, and every lent store afterwards.
pub record Stepped : Type 0 where
  pub refusal : ℕ
  pub row_store : List ℤ
  pub relation_store : List ℤ
  pub state_store : List ℤ
  pub result_store : List ℤ

-- The new state and the numbers of the result; after a refusal by a step all are 0 but the steps (SCOPE 11.34, 11.44).
unfoldable pub stepped : StepsCall → List ℤ → List ℤ → Stepped
unfolding overwrite state_numbers_of step_numbers
stepped c state_store result_store =
    record {
      refusal = c.result.run.refusal;
      row_store = c.row_store;
      relation_store = c.relation_store;
      state_store = overwrite (state_numbers_of c.result.state) state_store;
      result_store = overwrite (step_numbers c.result) result_store;
    }

-- A refusal by the checks leaves every store as it was (SCOPE 11.35).
unfoldable pub kept_steps : ℕ → List ℤ → List ℤ → List ℤ → List ℤ → Stepped
kept_steps n row_store relation_store state_store result_store =
    record { refusal = n; row_store = row_store; relation_store = relation_store; state_store = state_store; result_store = result_store }

unfoldable pub after_steps_check : ℕ → List ℤ → List ℤ → List ℤ → List ℤ → ℕ → Stepped
unfolding stepped steps_call held_in kept_steps
after_steps_check budget row_store relation_store state_store result_store zero =
    stepped (steps_call budget (held_in state_store) row_store relation_store) state_store result_store
after_steps_check budget row_store relation_store state_store result_store (suc n) =
    kept_steps (suc n) row_store relation_store state_store result_store

unfoldable pub export_steps : ℕ → List ℤ → List ℤ → List ℤ → List ℤ → Stepped
unfolding after_steps_check check_steps
export_steps budget row_store relation_store state_store result_store =
    after_steps_check budget row_store relation_store state_store result_store (check_steps row_store relation_store state_store result_store)

-- The refusal of a run is that of the answer.
pub run-same : (r : Std.Result (Std.Option RunReport) Refusals.Refusal) → (run_in r).refusal ≡ refusal_in r
unfolding run_in RunLaws.result_of refusal
run-same (Ok None) = refl
run-same (Ok (Some report)) = refl
run-same (Err r) = refl

-- ---- the two stores, by the refusal

-- The refusals that are found before the work begins (SCOPE 11.35).
unfoldable pub early : ℕ → Bool
early n = eqb n 1 || eqb n 11

unfoldable pub state_left : StepsResult → List ℤ → List ℤ
unfolding early overwrite state_numbers_of
state_left r state_store = cond (early r.run.refusal) state_store (overwrite (state_numbers_of r.state) state_store)

unfoldable pub result_left : StepsResult → List ℤ → List ℤ
unfolding early overwrite step_numbers
result_left r result_store = cond (early r.run.refusal) result_store (overwrite (step_numbers r) result_store)

-- Counts and columns that fit into a number of a store.
pub record SmallNumbers (r : StepsResult) : Type 0 where
  pub few-steps : r.steps ≤ 252
  pub run : SmallResult r.run

pub record SmallAnswer (r : StepsResult) : Type 0 where
  pub numbers : SmallNumbers r
  pub state : SmallState r.state

-- A refusal before the work gives back the state that was handed in, however large.
abbrev pub SmallUnlessEarly : StepsResult → Type 0
SmallUnlessEarly r = early r.run.refusal ≡ false → SmallAnswer r

pub refused-steps : (taken n : ℕ) (state : Held)
    → step_numbers (record { steps = taken; finished = false; state = state; run = refusal n }) ≡ pos taken ∷ zeros 11
unfolding step_numbers run_numbers_of refusal zeros
refused-steps taken n state = refl

module _ (r : StepsResult) (store : List ℤ) where
  pub left-early : early r.run.refusal ≡ true → (store ≡ state_left r store) × (store ≡ result_left r store)
  unfolding state_left result_left
  left-early e = (
    sym (ap (λ b. cond b store (overwrite (state_numbers_of r.state) store)) e),
    sym (ap (λ b. cond b store (overwrite (step_numbers r) store)) e),
  )

  pub left-late : early r.run.refusal ≡ false
      → (overwrite (state_numbers_of r.state) store ≡ state_left r store) × (overwrite (step_numbers r) store ≡ result_left r store)
  unfolding state_left result_left
  left-late e = (
    sym (ap (λ b. cond b store (overwrite (state_numbers_of r.state) store)) e),
    sym (ap (λ b. cond b store (overwrite (step_numbers r) store)) e),
  )

-- Two numbers set, and others behind them.
pub two-and-more : (a b : ℤ) (numbers store : List ℤ) → 2 ≤ length store
    → paste (set (set store 0 a) 1 b) 2 numbers (length numbers) ≡ overwrite (a ∷ b ∷ numbers) store
unfolding overwrite
two-and-more a b numbers [] h = absurd (omega arith)
two-and-more a b numbers (x ∷ []) h = absurd (omega arith)
two-and-more a b numbers (x ∷ y ∷ store) h =
    let behind : 2 + length numbers ≡ suc (suc (length numbers)) = omega arith in
    ap₂ (λ l k. a ∷ b ∷ (l ++ drop k (a ∷ b ∷ store))) (take_all (length numbers) numbers (le_refl (length numbers))) behind

-- ---- the refusals

-- A step gives no early refusal.
late : (side : Side) (s : State) (n : ℕ) → current s < length s.rows → step side s ≡ refused n → early n ≡ false
unfolding early
late side s n more e = go (step-refused side s n more e)
  where
    go : Refusal side s n → (eqb n 1 || eqb n 11) ≡ false
    go (inl h) = ap (λ k. eqb k 1 || eqb k 11) h.0
    go (inr (inl h)) = ap (λ k. eqb k 1 || eqb k 11) h
    go (inr (inr (inl h))) = ap (λ k. eqb k 1 || eqb k 11) h
    go (inr (inr (inr h))) = ap (λ k. eqb k 1 || eqb k 11) h

walked-late : (z : Sizes) (row_store relation_store : List ℤ) {s : State} {k : ℕ} {w : Walk} → Walked leading s k w
    → early (after_steps z w.taken w.outcome row_store relation_store).result.run.refusal ≡ false
unfolding early after_steps moved_to stopped_by_of refusal acceptance
walked-late z row_store relation_store (used-up l e) = refl
walked-late z row_store relation_store (at-end h l e) = refl
walked-late z row_store relation_store (stopped {n = n} {u = u} h l e f) = late leading u n (row-of u e) f

-- The checks of a state give 0, 1 or 11.
check-early : (s l n p : Bool) (k : ℕ) → cond s (cond l (cond n (cond {A = ℕ} p 0 11) 11) 1) 11 ≡ suc k → early (suc k) ≡ true
unfolding early
check-early true true true true k e = absurd (omega arith)
check-early true true true false k e = ap (λ j. eqb j 1 || eqb j 11) (sym e)
check-early true true false p k e = ap (λ j. eqb j 1 || eqb j 11) (sym e)
check-early true false n p k e = ap (λ j. eqb j 1 || eqb j 11) (sym e)
check-early false l n p k e = ap (λ j. eqb j 1 || eqb j 11) (sym e)

module _ (x : Held) (row_store relation_store : List ℤ) where
  state-early : (k : ℕ) → check_state_of x row_store relation_store ≡ suc k → early (suc k) ≡ true
  unfolding check_state_of
  state-early k e =
      check-early (sizes_held_of x) (lengths_right_of (equations x.sizes) row_store relation_store)
      (numbers_right_of x.sizes x.relations row_store relation_store)
      (pivots_right_of (the_columns_of x) (rows_of (equations x.sizes) row_store) x.settled) k e

  module _ (budget : ℕ) where
    abbrev call : StepsCall
    call = steps_call budget x row_store relation_store

    pub worked : check_state_of x row_store relation_store ≡ 0
        → call ≡ (let w = steps leading budget (state_in_of x row_store relation_store) in
        after_steps x.sizes w.taken w.outcome row_store relation_store)
    unfolding steps_call after_state_check
    worked e = ap (after_state_check budget x row_store relation_store) e

    pub unworked : (n : ℕ) → check_state_of x row_store relation_store ≡ suc n → call ≡ unmoved (suc n) x row_store relation_store
    unfolding steps_call after_state_check
    unworked n e = ap (after_state_check budget x row_store relation_store) e

    pub call-late : check_state_of x row_store relation_store ≡ 0 → early call.result.run.refusal ≡ false
    call-late e =
        ap (λ c. early c.result.run.refusal) (worked e)
        ∙ walked-late x.sizes row_store relation_store (walked leading budget (state_in_of x row_store relation_store))

    pub call-early : (n : ℕ) → check_state_of x row_store relation_store ≡ suc n → early call.result.run.refusal ≡ true
    unfolding unmoved refusal
    call-early n e = ap (λ c. early c.result.run.refusal) (unworked n e) ∙ state-early n e

    -- ---- the numbers are small

    call-times : check_state_of x row_store relation_store ≡ 0 → length x.order ≡ column_count → call.result.run.multiplicity ≤ 64
    unfolding after_steps moved_to stopped_by_of acceptance refusal
    call-times e four =
        subst (λ c. c.result.run.multiplicity ≤ 64) (sym (worked e)) (go (walked leading budget (state_in_of x row_store relation_store)))
      where
        go : {w : Walk} → Walked leading (state_in_of x row_store relation_store) budget w
            → (after_steps x.sizes w.taken w.outcome row_store relation_store).result.run.multiplicity ≤ 64
        go (used-up l g) = zero-le
        go (at-end {v = v} h l g) =
            let sound = handed-sound x row_store relation_store e four l in
            times-few leading (span x.sizes) v sound.valid.row-shapes
            (le_trans (settled-most x.sizes v sound) (size-bounds x.sizes sound.valid.sizes).few)
            (report leading (span x.sizes) v)
        go (stopped h l g f) = zero-le

    pub answer-small : length x.order ≡ column_count → SmallUnlessEarly call.result
    answer-small four f = by-check (check_state_of x row_store relation_store) refl
      where
        by-check : (n : ℕ) → check_state_of x row_store relation_store ≡ n → SmallAnswer call.result
        by-check zero e =
            let small = steps-small x row_store relation_store e four budget in
            record {
              numbers = record {
                few-steps = small.few-steps;
                run = record {
                  few-relations = small.run.few-relations;
                  few-shifts = omega (arith, small.run.few-shifts);
                  four = small.run.four;
                  columns = small.run.columns;
                  low-rank = small.run.low-rank;
                  few-times = call-times e four;
                };
              };
              state = small.state;
            }
        by-check (suc n) e = absurd (true≢false (sym (call-early n e) ∙ f))

-- ---- the call

-- The length of the state store, counts, sizes, lengths, that of the result store, numbers, settled rows.
abbrev verdict : Bool → Bool → Bool → Bool → Bool → Bool → Bool → ℕ
verdict state counts sizes lengths result numbers pivots =
    cond state (cond (counts && sizes) (cond (lengths && result) (cond numbers (cond pivots 0 11) 11) 1) 11) 1

short-verdict : (s l n p : Bool) → verdict true true s l false n p ≡ cond s 1 11
short-verdict true true n p = refl
short-verdict true false n p = refl
short-verdict false l n p = refl

long-verdict : (s l n p : Bool) → verdict true true s l true n p ≡ cond s (cond l (cond n (cond p 0 11) 11) 1) 11
long-verdict s true n p = refl
long-verdict s false n p = refl

-- Stores that hold nothing are too short.
none-state : (x : Held) → check_state_of x [] [] ≡ cond (sizes_held_of x) 1 11
unfolding check_state_of lengths_right_of row_need
none-state x =
    ap (λ b. cond (sizes_held_of x) (cond b (cond (numbers_right_of x.sizes x.relations [] [])
    (cond (pivots_right_of (the_columns_of x) (rows_of (equations x.sizes) []) x.settled) 0 11) 11) 1) 11)
    (and-false (leb (equations x.sizes * row_length) 0))

module _ (budget : ℕ) (row_store relation_store state_store result_store : List ℤ) where
  abbrev x : Held
  x = held_in state_store

  abbrev lengths : Bool
  lengths = lengths_right_of (equations x.sizes) row_store relation_store

  abbrev numbers : Bool
  numbers = numbers_right_of x.sizes x.relations row_store relation_store

  abbrev pivots : Bool
  pivots = pivots_right_of (the_columns_of x) (rows_of (equations x.sizes) row_store) x.settled

  after : ℕ → Stepped
  after = after_steps_check budget row_store relation_store state_store result_store

  -- The checks, by what is known of the stores of state and result.
  checked : (a c b : Bool) → leb state_need (length state_store) ≡ a → counts_right_of state_store ≡ c → leb steps_need (length result_store) ≡ b
      → check_steps row_store relation_store state_store result_store ≡ verdict a c (sizes_held_of x) lengths b numbers pivots
  unfolding check_steps
  checked a c b e f g =
      ap₂ (λ u v. verdict u v (sizes_held_of x) lengths (leb steps_need (length result_store)) numbers pivots) e f
      ∙ ap (λ v. verdict a c (sizes_held_of x) lengths v numbers pivots) g

  pub steps-no-state : length state_store < state_need
      → kept_steps 1 row_store relation_store state_store result_store ≡ export_steps budget row_store relation_store state_store result_store
  unfolding export_steps after_steps_check after
  steps-no-state h = ap after (sym (checked false _ _ (lt-leb state_need (length state_store) h) refl refl))

  module _ (h : state_need ≤ length state_store) where
    long : leb state_need (length state_store) ≡ true
    long = le-leb state_need (length state_store) h

    pub steps-negative : counts_right_of state_store ≡ false
        → kept_steps 11 row_store relation_store state_store result_store ≡ export_steps budget row_store relation_store state_store result_store
    unfolding export_steps after_steps_check after
    steps-negative e = ap after (sym (checked true false _ long e refl))

    module _ (right : counts_right_of state_store ≡ true) where
      pub steps-short : {c : StepsCall} → c ≡ steps_call 0 x [] [] → length result_store < steps_need
          → kept_steps c.result.run.refusal row_store relation_store state_store result_store
          ≡ export_steps budget row_store relation_store state_store result_store
      unfolding steps_call export_steps after after_state_check unmoved refusal after_steps_check
      steps-short e g =
          ap (λ c. kept_steps c.result.run.refusal row_store relation_store state_store result_store)
          (e ∙ ap (after_state_check 0 x [] []) (none-state x))
          ∙ refused-short (sizes_held_of x)
          ∙ ap after
          (sym (checked true true false long right (lt-leb steps_need (length result_store) g)
          ∙ short-verdict (sizes_held_of x) lengths numbers pivots))
        where
          refused-short : (s : Bool)
              → kept_steps (after_state_check 0 x [] [] (cond s 1 11)).result.run.refusal row_store relation_store state_store result_store
              ≡ after_steps_check budget row_store relation_store state_store result_store (cond s 1 11)
          refused-short true = refl
          refused-short false = refl

      -- The call, from the run that was made and the stores that were left.
      pub steps-left : {c : StepsCall} {state result : List ℤ} → c ≡ steps_call budget x row_store relation_store
          → state ≡ state_left c.result state_store → result ≡ result_left c.result result_store → steps_need ≤ length result_store
          → record {
            refusal = c.result.run.refusal;
            row_store = c.row_store;
            relation_store = c.relation_store;
            state_store = state;
            result_store = result;
          } ≡ export_steps budget row_store relation_store state_store result_store
      unfolding export_steps after check_state_of after_steps_check stepped kept_steps unmoved refusal
      steps-left {c} e f k g =
          (λ i. record {
            refusal = c.result.run.refusal;
            row_store = c.row_store;
            relation_store = c.relation_store;
            state_store = f i;
            result_store = k i;
          })
          ∙ ap whole e ∙ by-check (check_state_of x row_store relation_store) refl
          ∙ ap after
          (sym (checked true true true long right (le-leb steps_need (length result_store) g)
          ∙ long-verdict (sizes_held_of x) lengths numbers pivots
          ∙ as-state))
        where
          whole : StepsCall → Stepped
          whole c =
              record {
                refusal = c.result.run.refusal;
                row_store = c.row_store;
                relation_store = c.relation_store;
                state_store = state_left c.result state_store;
                result_store = result_left c.result result_store;
              }

          with-stores : (c : StepsCall) {state result : List ℤ} → state_left c.result state_store ≡ state
              → result_left c.result result_store ≡ result
              → whole c ≡ record {
                refusal = c.result.run.refusal;
                row_store = c.row_store;
                relation_store = c.relation_store;
                state_store = state;
                result_store = result;
              }
          with-stores c e f = λ i. record {
            refusal = c.result.run.refusal;
            row_store = c.row_store;
            relation_store = c.relation_store;
            state_store = e i;
            result_store = f i;
          }

          as-state : cond (sizes_held_of x) (cond lengths (cond numbers (cond pivots 0 11) 11) 1) 11 ≡ check_state_of x row_store relation_store
          as-state = refl

          by-check : (n : ℕ) → check_state_of x row_store relation_store ≡ n
              → whole (steps_call budget x row_store relation_store) ≡ after (check_state_of x row_store relation_store)
          by-check zero s =
              let c = steps_call budget x row_store relation_store in
              let late = call-late x row_store relation_store budget s in
              with-stores c (sym (left-late c.result state_store late).0) (sym (left-late c.result result_store late).1)
              ∙ ap after (sym s)
          by-check (suc n) s =
              let c = steps_call budget x row_store relation_store in
              let soon = call-early x row_store relation_store budget n s in
              with-stores c (sym (left-early c.result state_store soon).0) (sym (left-early c.result result_store soon).1)
              ∙ ap (λ c. record {
                refusal = c.result.run.refusal;
                row_store = c.row_store;
                relation_store = c.relation_store;
                state_store = state_store;
                result_store = result_store;
              }) (unworked x row_store relation_store budget n s)
              ∙ ap after (sym s)
