-- What a differential sheet makes of a series is a series: it has finitely many negative powers again.
--
-- Main definitions
--   Begun f            the coefficients f are zero below some index
--
-- Main statements
--   variable-begun, derivative-begun   the variable keeps that index, a derivative moves it down by one
--   term-series, equation-series   so what a term and an equation mean for a series is zero below some index
use Rattle.std.specs.Prelude.{ℕ, zero, suc, pred, ◌≡◌, refl, List, [], ◌∷◌, ℤ, pos, ◌+ℤ◌, ◌-ℤ◌, ◌*ℤ◌, ◌<ℤ◌, ◌≤ℤ◌}
use Rattle.std.proofs.Common.{◌∙◌, ap, ap₂, ⊎_elim}
use Rattle.std.proofs.Math.IntN.{*ℤ-zero, -ℤ-+ℤ_cancel}
use Rattle.std.specs.Int.Signed.{<ℤ-≤ℤ_trans}
use Rattle.algebra.specs.Order.{≤ℤ-<ℤ-trans, ≤ℤ-+ℤ-pos, ≤ℤ-total, +ℤ-<ℤ-right}
use Rattle.rules.specs.Sequences.{Sequence}
use Rattle.differential.specs.Differential.{DifferentialTerm}
use Rattle.differential.specs.Meaning.{Coefficients, times_variable, derivative, times, term_meaning, equation_meaning}
use Rattle.differential.specs.Meaning.{Series}

-- As `Series`, of one unknown (SCOPE 10.31).
pub record Begun (f : Coefficients) : Type 0 where
  pub first : ℤ
  pub below : (n : ℤ) → n <ℤ first → f n ≡ pos 0

pub variable-begun : (f : Coefficients) → Begun f → Begun (times_variable f)
unfolding times_variable
variable-begun f b = record { first = b.first; below = λ n h. b.below (n -ℤ pos 1) (≤ℤ-<ℤ-trans (less n) h) }
  where
    less : (n : ℤ) → (n -ℤ pos 1) ≤ℤ n
    less n = rw (-ℤ-+ℤ_cancel n (pos 1)) at (≤ℤ-+ℤ-pos (n -ℤ pos 1) 1)

pub derivative-begun : (f : Coefficients) → Begun f → Begun (derivative f)
unfolding derivative
derivative-begun f b =
    record {
      first = b.first -ℤ pos 1;
      below = λ n h. ap (λ x. (n +ℤ pos 1) *ℤ x) (b.below (n +ℤ pos 1) (later n h)) ∙ *ℤ-zero (n +ℤ pos 1);
    }
  where
    later : (n : ℤ) → n <ℤ (b.first -ℤ pos 1) → (n +ℤ pos 1) <ℤ b.first
    later n h = rw (-ℤ-+ℤ_cancel b.first (pos 1)) at (+ℤ-<ℤ-right (pos 1) h)

times-begun : (step : Coefficients → Coefficients) → ((f : Coefficients) → Begun f → Begun (step f))
    → (k : ℕ) (f : Coefficients) → Begun f → Begun (times k step f)
unfolding times
times-begun step kept zero f b = b
times-begun step kept (suc k) f b = kept (times k step f) (times-begun step kept k f b)

pub term-series : (z : Sequence) → Series z → (t : DifferentialTerm) → Begun (term_meaning z t)
unfolding term_meaning
term-series z series t =
    record { first = b.first; below = λ n h. ap (λ x. t.factor *ℤ x) (b.below n h) ∙ *ℤ-zero t.factor }
  where
    column : Coefficients
    column i = z i (pred t.column)

    b : Begun (times t.power times_variable (times t.derivative derivative column))
    b =
        times-begun times_variable variable-begun t.power (times t.derivative derivative column)
        (times-begun derivative derivative-begun t.derivative column
        (record { first = series.first; below = λ n h. series.below n (pred t.column) h }))

-- From the lower of the two indices on.
sum-begun : (f g : Coefficients) → Begun f → Begun g → Begun (λ n. f n +ℤ g n)
sum-begun f g b c = ⊎_elim
    (λ h. record { first = b.first; below = λ n k. ap₂ ◌+ℤ◌ (b.below n k) (c.below n (<ℤ-≤ℤ_trans k h)) })
    (λ h. record { first = c.first; below = λ n k. ap₂ ◌+ℤ◌ (b.below n (<ℤ-≤ℤ_trans k h)) (c.below n k) })
    (≤ℤ-total b.first c.first)

pub equation-series : (z : Sequence) → Series z → (ts : List DifferentialTerm) → Begun (equation_meaning z ts)
unfolding equation_meaning
equation-series z series [] = record { first = pos 0; below = λ n h. refl }
equation-series z series (t ∷ ts) =
    sum-begun (term_meaning z t) (equation_meaning z ts) (term-series z series t) (equation-series z series ts)
