-- What a differential sheet says of series in the variable, with finitely many negative powers.
--
-- Main definitions
--   Coefficients            the coefficients of one unknown's series, an integer for each power of either sign
--   times_variable, derivative   what the variable and a derivative do to them
--   term_meaning z t         the coefficients of a × variable^j × (k-th derivative of unknown c)
--   equation_meaning z ts    those of the sum of the terms
--   Vanishes f              f is the zero series
--   SatisfiesDifferential d z   every equation's sum is the zero series
--   Series z                z has finitely many negative powers: it is zero below some index
use Rattle.std.specs.Prelude.{ℕ, zero, suc, pred, ◌≡◌, List, [], ◌∷◌, ℤ, pos, ◌+ℤ◌, ◌-ℤ◌, ◌*ℤ◌, ◌<ℤ◌}
use Rattle.lists.specs.Everywhere.{All}
use Rattle.rules.specs.Sequences.{Sequence}
use Rattle.differential.specs.Differential.{DifferentialTerm, DifferentialSheet}

abbrev pub Coefficients : Type 0
Coefficients = ℤ → ℤ

-- The variable is one index down: x × Σ f(n) x^n = Σ f(n - 1) x^n (SCOPE 10.22).
unfoldable pub times_variable : Coefficients → Coefficients
times_variable f n = f (n -ℤ pos 1)

-- A derivative is n + 1 times one index up: (Σ f(n) x^n)' = Σ (n + 1) f(n + 1) x^n (SCOPE 10.22).
unfoldable pub derivative : Coefficients → Coefficients
derivative f n = (n +ℤ pos 1) *ℤ f (n +ℤ pos 1)

unfoldable pub times : ℕ → (Coefficients → Coefficients) → Coefficients → Coefficients
times zero step f = f
times (suc k) step f = step (times k step f)

-- By those two steps and nothing else (SCOPE 10.32). The unknowns are counted from 1 in a term and from 0 in a sequence.
unfoldable pub term_meaning : Sequence → DifferentialTerm → Coefficients
unfolding times times_variable derivative
term_meaning z t n =
    t.factor *ℤ times t.power times_variable (times t.derivative derivative (λ i. z i (pred t.column))) n

unfoldable pub equation_meaning : Sequence → List DifferentialTerm → Coefficients
unfolding term_meaning
equation_meaning z [] n = pos 0
equation_meaning z (t ∷ ts) n = term_meaning z t n +ℤ equation_meaning z ts n

-- The zero series.
abbrev pub Vanishes : Coefficients → Type 0
Vanishes f = (n : ℤ) → f n ≡ pos 0

-- Each equation's sum is the zero series (SCOPE 10.32).
unfoldable pub SatisfiesDifferential : DifferentialSheet → Sequence → Type 0
unfolding All equation_meaning
SatisfiesDifferential d z = All (λ ts. Vanishes (equation_meaning z ts)) d.equations

-- Finitely many negative powers (SCOPE 10.31).
pub record Series (z : Sequence) : Type 0 where
  pub first : ℤ
  pub below : (n : ℤ) (c : ℕ) → n <ℤ first → z n c ≡ pos 0
