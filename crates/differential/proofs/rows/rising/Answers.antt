-- `differential::rows::rising` meets its contract. There are nine cases, by the derivative and the power; each computes.
-- Assumes nothing.
use mathlib.Core.Path.{◌≡◌, refl}
use mathlib.Core.Logic.{◌⊎◌, inl, inr, ⊎_elim}
use Prim.Native.Nat.{ℕ, ◌≤◌}
use native.Mathlib.Omega.{arith}
use lib.Dec.{lit≤}
use mir.Facts.{sfits_lit}
use Rattle.lists.specs.Padded.{pad_to}
use Rattle.differential.specs.Differential.{most_derivative, most_power}
use Rattle.differential.specs.Recurrence as Recurrence
use Rattle.differential.specs.ValidRecurrence.{up-to-two}
use Rattle.differential.proofs.rows.rising.Goals as goal

-- The power is one of three.
power-is : (j : ℕ) → j ≤ most_power → (j ≡ 0) ⊎ ((j ≡ 1) ⊎ (j ≡ 2))
power-is = up-to-two (λ j. (j ≡ 0) ⊎ ((j ≡ 1) ⊎ (j ≡ 2))) (inl refl) (inr (inl refl)) (inr (inr refl))

-- A derivative that is neither of the first two is the third.
last : (k : ℕ) → k ≤ most_derivative → (k ≡ 0 → ⊥) → (k ≡ 1 → ⊥) → k ≡ 2
last k h f g = omega arith

pub overflow_sub-first : goal.overflow_sub-first
overflow_sub-first c =
    ⊎_elim (λ e. rw e (sfits_lit tt)) (λ w. ⊎_elim (λ e. rw e (sfits_lit tt)) (λ e. rw e (sfits_lit tt)) w)
    (power-is c.args.power c.requires.1)

pub overflow_sub-second : goal.overflow_sub-second
overflow_sub-second c =
    ⊎_elim (λ e. rw e (sfits_lit tt)) (λ w. ⊎_elim (λ e. rw e (sfits_lit tt)) (λ e. rw e (sfits_lit tt)) w)
    (power-is c.args.power c.requires.1)

pub returns-then-derivative-eq0 : goal.returns-then-derivative-eq0
unfolding Recurrence.rising pad_to
returns-then-derivative-eq0 c =
    rw c.if-derivative-eq0.true
    (record { are = refl; short = lit≤ tt; constant-small = lit≤ tt; linear-small = lit≤ tt; square-small = lit≤ tt })

pub returns-then-derivative-eq1 : goal.returns-then-derivative-eq1
unfolding Recurrence.rising pad_to
returns-then-derivative-eq1 c =
    rw c.if-derivative-eq1.true
    (⊎_elim
    (λ e. rw e (record { are = refl; short = lit≤ tt; constant-small = lit≤ tt; linear-small = lit≤ tt; square-small = lit≤ tt }))
    (λ w. ⊎_elim
    (λ e. rw e (record { are = refl; short = lit≤ tt; constant-small = lit≤ tt; linear-small = lit≤ tt; square-small = lit≤ tt }))
    (λ e. rw e (record { are = refl; short = lit≤ tt; constant-small = lit≤ tt; linear-small = lit≤ tt; square-small = lit≤ tt })) w)
    (power-is c.args.power c.requires.1))

pub overflow_mul-result : goal.overflow_mul-result
overflow_mul-result c =
    ⊎_elim (λ e. rw e (sfits_lit tt)) (λ w. ⊎_elim (λ e. rw e (sfits_lit tt)) (λ e. rw e (sfits_lit tt)) w)
    (power-is c.args.power c.requires.1)

pub overflow_add-result : goal.overflow_add-result
overflow_add-result c =
    ⊎_elim (λ e. rw e (sfits_lit tt)) (λ w. ⊎_elim (λ e. rw e (sfits_lit tt)) (λ e. rw e (sfits_lit tt)) w)
    (power-is c.args.power c.requires.1)

pub returns : goal.returns
unfolding Recurrence.rising pad_to
returns c =
    rw (last c.args.derivative c.requires.0 c.if-derivative-eq0.false c.if-derivative-eq1.false)
    (⊎_elim
    (λ e. rw e (record { are = refl; short = lit≤ tt; constant-small = lit≤ tt; linear-small = lit≤ tt; square-small = lit≤ tt }))
    (λ w. ⊎_elim
    (λ e. rw e (record { are = refl; short = lit≤ tt; constant-small = lit≤ tt; linear-small = lit≤ tt; square-small = lit≤ tt }))
    (λ e. rw e (record { are = refl; short = lit≤ tt; constant-small = lit≤ tt; linear-small = lit≤ tt; square-small = lit≤ tt })) w)
    (power-is c.args.power c.requires.1))
