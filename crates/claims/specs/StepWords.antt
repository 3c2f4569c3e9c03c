-- The words in which the claims on work by steps are said.
--
-- Main definitions
--   ExportedPrepare, ExportedSteps   what an exported call gave back and left: its contract
--   StateFault n, StepsNumber n      a refusal by the checks of a state; a number that a run with a budget returns
--   PrepareLong z rows relations state   the stores of the call that prepares are long enough
--   PrepareCourse ..                 all that it can do
--   StepsGives budget rows relations state result s   what a call has left that was not refused
--   steps_told s                      the steps that the result of a call tells
--   Successive rows relations state result a n s   successive calls with budgets that add up to a, up to a first refusal
--   SameEnd n s t                    successive calls with n steps have come to what one call has come to
use Rattle.std.specs.Prelude.{ℕ, ◌+◌, ◌≤◌, ◌≡◌, ◌≢◌, ◌⊎◌, List, length, drop, get_or, ℤ, pos, nat_abs}
use Rattle.lists.specs.Overwritten.{overwrite}
use Rattle.rules.specs.Stores.{Sizes}
use Rattle.rules.specs.Layout.{NumbersRight}
use Rattle.steps.specs.HeldCalls.{state_numbers_of, prepared, steps_call}
use Rattle.exported_steps.specs.StateNumbers.{state_need, StatePrepared, export_prepare, held_in}
use Rattle.exported_steps.specs.StepNumbers.{steps_need, step_numbers, Stepped, export_steps}
use Rattle.claims.specs.RunWords.{FoundDuring, Rewritten, InRange, LongEnough, Passed}

-- ---- the calls

-- The contract of `wurgalm_prepare`.
pub record ExportedPrepare (z : Sizes) (count : ℕ) (rows relations state : List ℤ) (p : StatePrepared) : Type 0 where
  pub called : p ≡ export_prepare z count rows relations state

-- The contract of `wurgalm_run_steps`.
pub record ExportedSteps (budget : ℕ) (rows relations state result : List ℤ) (s : Stepped) : Type 0 where
  pub called : s ≡ export_steps budget rows relations state result

-- The state store is one of the lent stores: eleven numbers (SCOPE 11.42).
abbrev pub PrepareLong : Sizes → List ℤ → List ℤ → List ℤ → Type 0
PrepareLong z rows relations state = LongEnough z rows relations × (state_need ≤ length state)

pub data PrepareCourse (z : Sizes) (count : ℕ) (rows relations state : List ℤ) : StatePrepared → Type 0 where
  prepare-range-wrong : ¬ InRange z count → PrepareCourse z count rows relations state (record { refusal = 2; state_store = state })
  prepare-store-short : InRange z count → ¬ PrepareLong z rows relations state
      → PrepareCourse z count rows relations state (record { refusal = 1; state_store = state })
  prepare-number-wrong : InRange z count → PrepareLong z rows relations state → ¬ NumbersRight z count rows relations
      → PrepareCourse z count rows relations state (record { refusal = 5; state_store = state })
  as-prepared : Passed z count rows relations → state_need ≤ length state
      → PrepareCourse z count rows relations state
      (record { refusal = 0; state_store = overwrite (state_numbers_of (prepared z count)) state })

-- ---- refusals

-- The refusals by the checks (SCOPE 11.21).
abbrev pub StateFault : ℕ → Type 0
StateFault n = (n ≡ 1) ⊎ (n ≡ 11)

abbrev pub StepsNumber : ℕ → Type 0
StepsNumber n = (n ≡ 0) ⊎ (StateFault n ⊎ FoundDuring n)

-- ---- a run with a budget

-- What the run of the definition leaves, and the numbers of the state that it leads to and of its result.
pub record StepsGives (budget : ℕ) (rows relations state result : List ℤ) (s : Stepped) : Type 0 where
  pub same_rows : s.row_store ≡ (steps_call budget (held_in state) rows relations).row_store
  pub same-relations : s.relation_store ≡ (steps_call budget (held_in state) rows relations).relation_store
  pub state-numbers :
      Rewritten state_need (state_numbers_of (steps_call budget (held_in state) rows relations).result.state) state s.state_store
  pub result-numbers : Rewritten steps_need (step_numbers (steps_call budget (held_in state) rows relations).result) result s.result_store

-- ---- one call after another

-- The first number of the result (SCOPE 11.44).
abbrev pub steps_told : Stepped → ℕ
steps_told s = nat_abs (get_or s.result_store 0 (pos 0))

-- Each call is lent what the one before it left. The steps of all are added up; a call is made only where none was refused.
pub data Successive (rows relations state result : List ℤ) : ℕ → ℕ → Stepped → Type 0 where
  one-call : {k : ℕ} {s : Stepped} → ExportedSteps k rows relations state result s
      → Successive rows relations state result k (steps_told s) s
  next-call : {a n k : ℕ} {s t : Stepped} → Successive rows relations state result a n s → s.refusal ≡ 0
      → ExportedSteps k s.row_store s.relation_store s.state_store s.result_store t
      → Successive rows relations state result (a + k) (n + steps_told t) t
  no_call : (k : ℕ) {a n : ℕ} {s : Stepped} → Successive rows relations state result a n s → s.refusal ≢ 0
      → Successive rows relations state result (a + k) n s

-- The result of the last call has its own steps in front; behind them it is that of the one call.
pub record SameEnd (n : ℕ) (s t : Stepped) : Type 0 where
  pub refusal : s.refusal ≡ t.refusal
  pub rows : s.row_store ≡ t.row_store
  pub relations : s.relation_store ≡ t.relation_store
  pub state : s.state_store ≡ t.state_store
  pub steps : n ≡ steps_told t
  pub numbers : drop 1 s.result_store ≡ drop 1 t.result_store
