-- Steps with a budget: at most so many from a state, and how many of them were taken (SCOPE 11.1 to 11.4).
--
-- Main statements
--   steps-run            the outcome is that of `run`
--   walked, steps-few    the number reported is that of the steps taken, state by state; it is within the budget
--   steps-none           no step is taken of a finished state
--   steps-add            the steps of a + b are the steps of a and then those of b
--   parts-total, any-division   only the sum of the budgets counts
--   steps-ended          a budget that is larger than needed gives the same
--   whole_run, whole-few, whole-more, whole_parts   the whole run is the run with enough steps, and so is any run with more
use Rattle.std.specs.Prelude.{ℕ, zero, suc, ◌+◌, ◌-◌, ◌≤◌, ◌≡◌, refl, ◌≢◌, Bool, true, false, cond, List, [], ◌∷◌}
use Rattle.std.proofs.Common.{zero-le, ◌∙◌, ap, zero-add, add-zero, suc-add, add_assoc, add-sub_of_le, le_refl, le_of_lt, zero-lt-suc, arith}
use Rattle.std.proofs.Math.Path.{sym}
use Rattle.std.proofs.Math.Nat.{suc-le-suc_iff}
use Rattle.lists.specs.Everywhere.{All}
use Rattle.lists.specs.Totals.{total}
use Rattle.rules.specs.Rows.{Row, Relation}
use Rattle.rules.specs.Stores.{StoreRow}
use Rattle.rules.specs.Elimination.{Side, leading, State, start, Outcome, going, done, refused, finished, step, and_then, run, enough}
use Rattle.rules.specs.Elimination.{leading_run_of}
use Rattle.theory.specs.Steps.{StepView, over-limit, inconsistent}
use Rattle.theory.specs.Steps.{goes_on, going≢done, done≢refused}
use Rattle.theory.proofs.Steps.{step-view}
use Rattle.theory.proofs.Ending.{leading_run-ends}
use Rattle.steps.specs.Budgets.{Walk, Walked, at-end, continued, in_parts, later, later-none, later_more, leads, one_more_of, row-of, standing, stays, step_then, steps, stopped, used-up}

-- ---- at most k steps

-- The outcome is that of `run`.
pub steps-run : (side : Side) (k : ℕ) (s : State) → (steps side k s).outcome ≡ run side k s
unfolding steps run
steps-run side zero s = refl
steps-run side (suc k) s = go (finished s) (step side s) (steps-run side k)
  where
    go : (t : Bool) (o : Outcome) → ((u : State) → (steps side k u).outcome ≡ run side k u)
        → (cond t (standing (done s)) (step_then o (steps side k))).outcome ≡ cond t (done s) (and_then o (run side k))
    go true o rec = refl
    go false (going u) rec = rec u
    go false (done u) rec = refl
    go false (refused n) rec = refl

never_done : (side : Side) (s u : State) → finished s ≡ false → step side s ≡ done u → ⊥
never_done side s u e = go (step-view side s (row-of s e))
  where
    go : {o : Outcome} → StepView side s o → o ≡ done u → ⊥
    go (over-limit n i z c) f = done≢refused (sym f)
    go (inconsistent i z) f = done≢refused (sym f)
    go (goes_on p) f = going≢done f

-- ---- the number reported is that of the steps taken, state by state

walked-before : {side : Side} {s u : State} {k : ℕ} {w : Walk} → finished s ≡ false → step side s ≡ going u → Walked side u k w
    → Walked side s (suc k) (one_more_of w)
unfolding one_more_of
walked-before f e (used-up l g) = used-up (leads f e l) g
walked-before f e (at-end h l g) = at-end (suc-le-suc_iff.1 h) (leads f e l) g
walked-before f e (stopped h l g r) = stopped (suc-le-suc_iff.1 h) (leads f e l) g r

pub walked : (side : Side) (k : ℕ) (s : State) → Walked side s k (steps side k s)
unfolding steps
walked side zero s = go (finished s) refl
  where
    go : (t : Bool) → finished s ≡ t → Walked side s zero (standing (cond t (done s) (going s)))
    go true e = at-end zero-le stays e
    go false e = used-up stays e
walked side (suc k) s = go (finished s) refl (step side s) refl (walked side k)
  where
    go : (t : Bool) → finished s ≡ t → (o : Outcome) → step side s ≡ o → ((u : State) → Walked side u k (steps side k u))
        → Walked side s (suc k) (cond t (standing (done s)) (step_then o (steps side k)))
    go true e o f rec = at-end zero-le stays e
    go false e (going u) f rec = walked-before e f (rec u)
    go false e (done u) f rec = absurd (never_done side s u e f)
    go false e (refused n) f rec = stopped (zero-lt-suc k) stays e f

pub steps-few : (side : Side) (k : ℕ) (s : State) → (steps side k s).taken ≤ k
steps-few side k s = go (walked side k s)
  where
    go : {w : Walk} → Walked side s k w → w.taken ≤ k
    go (used-up l e) = le_refl k
    go (at-end h l e) = h
    go (stopped h l e f) = le_of_lt h

-- ---- one budget after another

-- No step is taken of a finished state (SCOPE 11.4).
pub steps-none : (side : Side) (k : ℕ) (s : State) → finished s ≡ true → steps side k s ≡ standing (done s)
unfolding steps
steps-none side zero s e = ap (λ t. standing (cond t (done s) (going s))) e
steps-none side (suc k) s e = ap (λ t. cond t (standing (done s)) (step_then (step side s) (steps side k))) e

continued-more : (side : Side) (k : ℕ) (w : Walk) → continued side k (one_more_of w) ≡ one_more_of (continued side k w)
unfolding continued one_more_of
continued-more side k w = go w.outcome w.taken
  where
    go : (o : Outcome) (n : ℕ)
        → continued side k (one_more_of (record { outcome = o; taken = n })) ≡ one_more_of (continued side k (record { outcome = o; taken = n }))
    go (going s) n = later_more n (steps side k s)
    go (done s) n = later_more n (steps side k s)
    go (refused i) n = refl

-- The steps of a + b are the steps of a, and then those of b from where they stopped.
pub steps-add : (side : Side) (a b : ℕ) (s : State) → steps side (a + b) s ≡ continued side b (steps side a s)
unfolding steps continued
steps-add side zero b s = ap (λ n. steps side n s) (zero-add b) ∙ go (finished s)
  where
    go : (t : Bool) → steps side b s ≡ continued side b (standing (cond t (done s) (going s)))
    go true = sym (later-none (steps side b s))
    go false = sym (later-none (steps side b s))
steps-add side (suc a) b s = ap (λ n. steps side n s) (suc-add a b) ∙ go (finished s) refl (step side s) refl (steps-add side a b)
  where
    go : (t : Bool) → finished s ≡ t → (o : Outcome) → step side s ≡ o
        → ((u : State) → steps side (a + b) u ≡ continued side b (steps side a u))
        → cond t (standing (done s)) (step_then o (steps side (a + b)))
        ≡ continued side b (cond t (standing (done s)) (step_then o (steps side a)))
    go true e o f rec = sym (later-none (steps side b s) ∙ steps-none side b s e)
    go false e (going u) f rec = ap one_more_of (rec u) ∙ sym (continued-more side b (steps side a u))
    go false e (done u) f rec = absurd (never_done side s u e f)
    go false e (refused n) f rec = refl

-- Only the sum of the budgets counts.
pub parts-total : (side : Side) (ks : List ℕ) (a : ℕ) (s : State) → in_parts side ks (steps side a s) ≡ steps side (a + total ks) s
unfolding in_parts total
parts-total side [] a s = ap (λ n. steps side n s) (sym (add-zero a))
parts-total side (k ∷ ks) a s =
    ap (in_parts side ks) (sym (steps-add side a k s)) ∙ parts-total side ks (a + k) s
    ∙ ap (λ n. steps side n s) (add_assoc a k (total ks))

pub any-division : (side : Side) (ks js : List ℕ) (s : State) → total ks ≡ total js
    → in_parts side ks (steps side 0 s) ≡ in_parts side js (steps side 0 s)
any-division side ks js s e =
    parts-total side ks 0 s ∙ ap (λ n. steps side (0 + n) s) e ∙ sym (parts-total side js 0 s)

-- ---- runs to the end

-- Steps that have come to an end stay there.
pub continued-ended : (side : Side) (a b : ℕ) (s : State) → ((v : State) → (steps side a s).outcome ≢ going v)
    → continued side b (steps side a s) ≡ steps side a s
unfolding continued
continued-ended side a b s ends = go (walked side a s) ends
  where
    go : {w : Walk} → Walked side s a w → ((v : State) → w.outcome ≢ going v) → continued side b w ≡ w
    go (used-up {v} l e) ends = absurd (ends v refl)
    go (at-end {j} {v} h l e) ends =
        ap (later j) (steps-none side b v e) ∙ ap (λ n. record { outcome = done v; taken = n }) (add-zero j)
    go (stopped h l e f) ends = refl

-- So a larger budget gives the same.
pub steps-ended : (side : Side) (a k : ℕ) (s : State) → ((v : State) → (steps side a s).outcome ≢ going v) → a ≤ k
    → steps side k s ≡ steps side a s
steps-ended side a k s ends h =
    ap (λ n. steps side n s) (sym (add-sub_of_le h)) ∙ steps-add side a (k - a) s ∙ continued-ended side a (k - a) s ends

module _ (rows : List Row) (relations : List Relation) where
  -- The whole run is the run with enough steps.
  pub whole_run : leading_run_of rows relations ≡ (steps leading (enough rows) (start rows relations)).outcome
  unfolding leading_run_of
  whole_run = sym (steps-run leading (enough rows) (start rows relations))

  -- It takes no more than those.
  pub whole-few : (steps leading (enough rows) (start rows relations)).taken ≤ enough rows
  whole-few = steps-few leading (enough rows) (start rows relations)

  module _ (shapes : All StoreRow rows) where
    ends : (v : State) → (steps leading (enough rows) (start rows relations)).outcome ≢ going v
    ends v e = leading_run-ends rows relations v shapes (whole_run ∙ e)

    -- A budget of more steps gives the same, and the number taken is the same.
    pub whole-more : (k : ℕ) → enough rows ≤ k → steps leading k (start rows relations) ≡ steps leading (enough rows) (start rows relations)
    whole-more k h = steps-ended leading (enough rows) k (start rows relations) ends h

    -- So do successive runs whose budgets add up to so many.
    pub whole_parts : (ks : List ℕ) → enough rows ≤ total ks
        → (in_parts leading ks (steps leading 0 (start rows relations))).outcome ≡ leading_run_of rows relations
    whole_parts ks h =
        ap (λ w. w.outcome)
        (parts-total leading ks 0 (start rows relations) ∙ whole-more (0 + total ks) (omega (arith, h)))
        ∙ sym whole_run
