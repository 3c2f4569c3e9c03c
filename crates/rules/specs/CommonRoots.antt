-- Two polynomials divided by n - r for each common integer root r (SCOPE 2.27, 2.28).
--
-- Main definitions
--   Entries           the leading entries of rows j and i in column c(j)
--   common_roots_of e     the integer roots of both, ascending
--   divide_at k r e    both divided by n - r as long as both vanish at r, at most k times; no quotient passes ±C
--   reduced e         both divided so at each common root, ascending
use Rattle.std.specs.Prelude.{ℕ, zero, suc, Bool, ◌&&◌, cond, List, [], ◌∷◌, length, ℤ}
use Rattle.algebra.specs.Polynomials.{Polynomial, eval, is_zero_ℤ, quotient}
use Rattle.algebra.specs.Roots.{roots}
use Rattle.lists.specs.Sifted.{keep}
use Rattle.lists.specs.Tests.{every}
use Rattle.rules.specs.Limits.{small}

-- The entry of row j, whose column it is, and that of row i.
pub record Entries : Type 0 where
  pub pivot : Polynomial
  pub target : Polynomial

unfoldable pub both_vanish : ℤ → Entries → Bool
unfolding eval is_zero_ℤ
both_vanish r e = is_zero_ℤ (eval e.pivot r) && is_zero_ℤ (eval e.target r)

unfoldable pub both_small_of : Entries → Bool
unfolding every small
both_small_of e = every small e.pivot && every small e.target

unfoldable pub quotients : ℤ → Entries → Entries
unfolding quotient
quotients r e = record { pivot = quotient r e.pivot; target = quotient r e.target }

-- Both vanish at r, and may be divided by n - r: no coefficient of a quotient lies past ±C (SCOPE 2.28).
unfoldable pub divisible : ℤ → Entries → Bool
unfolding both_vanish both_small_of quotients
divisible r e = both_vanish r e && both_small_of (quotients r e)

-- Both quotients are taken, or neither. The first argument bounds the number of divisions; as many as a polynomial has coefficients are enough.
unfoldable pub divide_at : ℕ → ℤ → Entries → Entries
unfolding divisible quotients
divide_at zero r e = e
divide_at (suc k) r e =
    let more = divide_at k r (quotients r e) in
    cond (divisible r e) more e

-- One root after the other; one at which a division was left out is not tried again (SCOPE 2.28).
unfoldable pub divide_each : ℕ → List ℤ → Entries → Entries
unfolding divide_at
divide_each k [] e = e
divide_each k (r ∷ rs) e = divide_each k rs (divide_at k r e)

unfoldable pub common_roots_of : Entries → List ℤ
unfolding keep roots eval is_zero_ℤ
common_roots_of e = keep (λ r. is_zero_ℤ (eval e.target r)) (roots e.pivot)

unfoldable pub reduced : Entries → Entries
unfolding divide_each common_roots_of
reduced e = divide_each (length e.pivot) (common_roots_of e) e
