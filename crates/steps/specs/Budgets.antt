-- Steps with a budget: at most so many from a state, and how many of them were taken (SCOPE 11.1 to 11.4).
--
-- Main definitions
--   Walk                 where steps lead, and how many were taken
--   steps side k s       at most k steps from s
--   Led side s k v       k steps of the definition lead from s to v, state by state
--   Walked side s k w    what at most k steps from s come to, with the states that they go through
--   continued side k w   at most k steps more, from where w stopped
--   in_parts side ks w    runs with the budgets ks, one after the other
--
-- Main statements
--   led-chain, led-further   the steps are those of crate theory; steps after steps
use Rattle.std.specs.Prelude.{ℕ, zero, suc, ◌+◌, ◌≤◌, ◌<◌, ◌≡◌, ◌≢◌, Bool, true, false, cond, List, [], ◌∷◌, length}
use Rattle.std.proofs.Common.{ap, subst, inl, inr, true≢false, zero-add, suc-add, arith}
use Rattle.std.proofs.Math.Path.{sym}
use Rattle.rules.specs.Elimination.{Side, State, Outcome, going, done, refused, finished, step}
use Rattle.theory.specs.Steps.{current, Stepped, Chain, here, Left, none_left, row-left, left, StepView, over-limit, inconsistent}
use Rattle.theory.specs.Steps.{goes_on, going-injective, going≢refused, chain-before}
use Rattle.theory.proofs.Steps.{step-view}
use Rattle.theory.specs.Steps.{Refusal}
use Rattle.theory.proofs.Steps.{step-refused}

-- ---- at most k steps

pub record Walk : Type 0 where
  pub outcome : Outcome
  pub taken : ℕ

-- No step is taken.
unfoldable pub standing : Outcome → Walk
standing o = record { outcome = o; taken = 0 }

-- One step more, before those of w.
unfoldable pub one_more_of : Walk → Walk
one_more_of w = record { outcome = w.outcome; taken = suc w.taken }

-- A step that goes on is counted; one that is refused is not, and the refusal ends the run (SCOPE 11.3).
unfoldable pub step_then : Outcome → (State → Walk) → Walk
unfolding one_more_of standing
step_then (going s) f = one_more_of (f s)
step_then (done s) f = standing (done s)
step_then (refused n) f = standing (refused n)

-- At most k steps; a finished state takes none (SCOPE 11.1, 11.4).
unfoldable pub steps : Side → ℕ → State → Walk
unfolding finished step standing step_then
steps side zero s = standing (cond (finished s) (done s) (going s))
steps side (suc k) s =
    let rest = step_then (step side s) (steps side k) in
    cond (finished s) (standing (done s)) rest

-- A state that is not finished has a row left, and a step of it never ends the run.
pub row-of : (s : State) → finished s ≡ false → current s < length s.rows
row-of s e = go (left s) e
  where
    go : {t : Bool} → Left s t → t ≡ false → current s < length s.rows
    go (none_left h) e = absurd (true≢false e)
    go (row-left h) e = h

-- The number of a refused step is not 0.
pub refusal-number : (side : Side) (s : State) (n : ℕ) → current s < length s.rows → step side s ≡ refused n → n ≢ 0
refusal-number side s n more e z = go (step-refused side s n more e)
  where
    go : Refusal side s n → ⊥
    go (inl h) = omega (arith, h.0)
    go (inr (inl h)) = omega arith
    go (inr (inr (inl h))) = omega arith
    go (inr (inr (inr h))) = omega arith

-- ---- the number reported is that of the steps taken, state by state

-- k steps of the definition, none of a finished state.
pub data Led (side : Side) : State → ℕ → State → Type 0 where
  stays : {s : State} → Led side s zero s
  leads : {k : ℕ} {s u v : State} → finished s ≡ false → step side s ≡ going u → Led side u k v → Led side s (suc k) v

-- The budget is used up and the last state is not finished, or it is, or the next step is refused.
pub data Walked (side : Side) (s : State) (k : ℕ) : Walk → Type 0 where
  used-up : {v : State} → Led side s k v → finished v ≡ false → Walked side s k (record { outcome = going v; taken = k })
  at-end : {j : ℕ} {v : State} → j ≤ k → Led side s j v → finished v ≡ true → Walked side s k (record { outcome = done v; taken = j })
  stopped : {j n : ℕ} {u : State} → j < k → Led side s j u → finished u ≡ false → step side u ≡ refused n
      → Walked side s k (record { outcome = refused n; taken = j })

-- The steps are those of crate theory.
pub led-chain : {side : Side} {s v : State} {k : ℕ} → Led side s k v → Chain side s k v
led-chain stays = here
led-chain {side} {s} (leads {u = u} f e l) = chain-before (go (row-of s f) (step-view side s (row-of s f)) e) (led-chain l)
  where
    go : current s < length s.rows → {o : Outcome} → StepView side s o → o ≡ going u → Stepped side s u
    go h (over-limit n i z c) e = absurd (going≢refused (sym e))
    go h (inconsistent i z) e = absurd (going≢refused (sym e))
    go h (goes_on p) e = subst (Stepped side s) (going-injective e) p

-- Steps after steps.
pub led-further : {side : Side} {s u v : State} {j k : ℕ} → Led side s j u → Led side u k v → Led side s (j + k) v
led-further {side} {s} {v = v} {k = k} stays m = subst (λ n. Led side s n v) (sym (zero-add k)) m
led-further {side} {s} {v = v} {k = k} (leads {k = j} f e l) m =
    subst (λ n. Led side s n v) (sym (suc-add j k)) (leads f e (led-further l m))

-- ---- one budget after another

-- n steps before those of w.
unfoldable pub later : ℕ → Walk → Walk
later n w = record { outcome = w.outcome; taken = n + w.taken }

-- At most k steps more from where steps have led; a refusal ends all (SCOPE 11.5).
unfoldable pub continued : Side → ℕ → Walk → Walk
unfolding later steps
continued side k w = elim w.outcome [
  | going s ↦ later w.taken (steps side k s)
  | done s ↦ later w.taken (steps side k s)
  | refused n ↦ w
]

pub later-none : (w : Walk) → later 0 w ≡ w
unfolding later
later-none w = ap (λ n. record { outcome = w.outcome; taken = n }) (zero-add w.taken)

pub later_more : (n : ℕ) (w : Walk) → later (suc n) w ≡ one_more_of (later n w)
unfolding later one_more_of
later_more n w = ap (λ k. record { outcome = w.outcome; taken = k }) (suc-add n w.taken)

-- Runs with the budgets ks, one after the other.
unfoldable pub in_parts : Side → List ℕ → Walk → Walk
unfolding continued
in_parts side [] w = w
in_parts side (k ∷ ks) w = in_parts side ks (continued side k w)
