-- The division of two polynomials by n - r, coefficient by coefficient from the top, and as often as it goes.
--
-- Main definitions
--   Sixteen p             p has 16 coefficients, all within ±C
--   entries_of e           the two arrays as the entries of the rules; Fits e where both have 16 coefficients within ±C
--   vanishes_at p r        does p vanish at r?
--   divides r p           does it, and is no coefficient of the quotient past ±C?
--
-- Main statements
--   divides-within, sixteen-divisible   it is a division within ±C, which can be made
--   divide_at-none         nothing is divided where one of both does not divide
--   divide_at-both         both are divided where both divide
use Rattle.std.specs.Prelude.{ℕ, zero, suc, ◌-◌, ◌≤◌, ◌<◌, ◌≡◌, refl, Bool, true, false, cond, T, ℤ, nat_abs}
use Rattle.std.proofs.Math.Path.{ap, ap₂}
use Rattle.std.proofs.Common.{◌∙◌, not-suc-le-zero, arith}
use Rattle.std.proofs.Math.Bool.{◌&&◌}
use Rattle.std.proofs.Math.ListN.{length}
use Rattle.algebra.specs.Polynomials.{Polynomial, eval, is_zero_ℤ, quotient}
use Rattle.algebra.specs.Vanishing.{quotient-length}
use Rattle.lists.specs.Tests.{every, both_true, true-T}
use Rattle.rules.specs.Limits.{bound, small, coefficient_count}
use Rattle.rules.specs.CommonRoots as Rules
use Rattle.polynomials.specs.Content.{small_at}
use Rattle.multiplicities.specs.Divisions as Multiplicities
use Rattle.std.proofs.Common.{le_refl, mul-le-mul}
use Rattle.common_roots.specs.declared.Entries.{Entries}

abbrev pub Sixteen : Polynomial → Type 0
Sixteen p = (length p ≡ coefficient_count) × T (every small p)

abbrev pub Fits : Entries → Type 0
Fits e = Sixteen e.pivot × Sixteen e.target

abbrev pub entries_of : Entries → Rules.Entries
entries_of e = record { pivot = e.pivot; target = e.target }

abbrev pub vanishes_at : Polynomial → ℤ → Bool
vanishes_at p r = is_zero_ℤ (eval p r)

abbrev pub divides : ℤ → Polynomial → Bool
divides r p = vanishes_at p r && every small (quotient r p)

-- It does so where the quotient is within ±C.
pub divides-within : (r : ℤ) (p : Polynomial) → divides r p ≡ Multiplicities.divides bound r p
unfolding small
divides-within r p = refl

pub sixteen-divisible : (r : ℤ) (p : Polynomial) → Sixteen p → nat_abs r ≤ bound → Multiplicities.Divisible bound r p
sixteen-divisible r p s h =
    record { long = s.0; coefficients = λ i. omega (arith, small_at p s.1 i); product = mul-le-mul (le_refl bound) h }

-- ---- as often as it goes

-- Both vanish and both quotients are within ±C: for one polynomial after the other.
pub divisible-both : (r : ℤ) (e : Rules.Entries) → Rules.divisible r e ≡ (divides r e.pivot && divides r e.target)
unfolding Rules.divisible
divisible-both r e =
    let p = e.pivot in
    let q = e.target in
    crosswise (vanishes_at p r) (vanishes_at q r) (every small (quotient r p)) (every small (quotient r q))
  where
    crosswise : (a b c d : Bool) → ((a && b) && (c && d)) ≡ ((a && c) && (b && d))
    crosswise true true c d = refl
    crosswise true false true d = refl
    crosswise true false false d = refl
    crosswise false b c d = refl

pub divide_at-none : (k : ℕ) (r : ℤ) (e : Rules.Entries) → (divides r e.pivot && divides r e.target) ≡ false → Rules.divide_at k r e ≡ e
unfolding Rules.divide_at
divide_at-none zero r e t = refl
divide_at-none (suc k) r e t = ap (λ b. cond b (Rules.divide_at k r (Rules.quotients r e)) e) (divisible-both r e ∙ t)

pub divide_at-both : (k : ℕ) (r : ℤ) (e : Rules.Entries) → 0 < k → divides r e.pivot ≡ true → divides r e.target ≡ true
    → Rules.divide_at k r e ≡ Rules.divide_at (k - 1) r (record { pivot = quotient r e.pivot; target = quotient r e.target })
unfolding Rules.divide_at
divide_at-both zero r e h s t = absurd (not-suc-le-zero h)
divide_at-both (suc k) r e h s t =
    let less : k ≡ suc k - 1 = omega arith in
    ap (λ b. cond b (Rules.divide_at k r (Rules.quotients r e)) e) (divisible-both r e ∙ ap₂ ◌&&◌ s t)
    ∙ ap (λ j. Rules.divide_at j r (Rules.quotients r e)) less

-- The quotient is as long as the polynomial, and within ±C.
pub quotient-sixteen : (r : ℤ) (p : Polynomial) → length p ≡ coefficient_count → divides r p ≡ true → Sixteen (quotient r p)
quotient-sixteen r p e t =
    (quotient-length r p ∙ e, true-T (every small (quotient r p)) (both_true (vanishes_at p r) (every small (quotient r p)) t).1)
