-- The laws of rule 2's multipliers, for polynomials of any length.
--
-- Main definitions
--   Turned g h x            x is g and h, or both with their signs turned
--
-- Main statements
--   multipliers-nonzero     g is not the zero polynomial if a is not
--   multipliers-cancel      g b + h a vanishes everywhere
--   multipliers-small       g and h stay within ±C
--   length-multipliers-g, length-multipliers-h   g is as long as a, h as b
--   multipliers-lead        the highest coefficient of g is positive
--   multipliers-listed      g vanishes at a common root of a and b only where the limit has left a division out, or where the root
--                           occurs more often in a
use Rattle.std.specs.Prelude.{ℕ, ◌≤◌, ◌<◌, ◌≡◌, refl, ◌⊎◌, Bool, true, false, not, cond, [], ◌∷◌, ◌++◌, map, T, ℤ, pos, neg_ℤ, nat_abs, ◌+ℤ◌, ◌*ℤ◌, length, ◌≤ℤ◌, ◌<ℤ◌}
use Rattle.std.proofs.Common.{sym, ◌∙◌, ap₂, le_trans, le_of_eq, leb→le, le→leb}
use Rattle.std.proofs.Math.Path.{ap}
use Rattle.std.proofs.Math.Logic.{Ne-symm}
use Rattle.std.proofs.Math.Dec.{T_not, not_T}
use Rattle.std.specs.Float.Ieee.Fits.{and_i, and_l, and_r}
use Rattle.std.proofs.Math.IntN.{*ℤ-zero, +ℤ_invr, neg_ℤ-neg_ℤ}
use Rattle.std.specs.Int.Signed.{lt_z, lt_z_yes, lt_z_no, quot_z}
use Rattle.algebra.specs.Integers.{ringℤ, nat_abs-neg_ℤ}
use Rattle.algebra.specs.Order.{≤ℤ-≢-<ℤ, neg_ℤ-<ℤ}
use Rattle.algebra.specs.Division.{quot_z-le}
use Rattle.algebra.specs.Gcd.{content, divide_by, DividesAll, content-pos, content-append, gcd-divides-left, gcd-divides-right}
use Rattle.algebra.specs.Gcd.{divides_all-of-content, length-divide_by, eval-divide_by, is_zero-divide_by}
use Rattle.algebra.specs.Polynomials.{Polynomial, is_zero_of, negate, lead, eval, eval-negate, is_zero-negate, is_zero-append, length-negate}
use Rattle.algebra.specs.Coefficients.{lead-nonzero}
use Rattle.algebra.specs.Multiplicity.{multiplicity}
use Rattle.rules.specs.Limits.{small, bound}
use Rattle.lists.specs.Tests.{every, T-&&}
use Rattle.rules.specs.Elimination.{Multipliers, turn_signs_of, ratio, multipliers}
use Rattle.rules.specs.CommonRoots.{Entries, both_small_of, reduced}
use Rattle.theory.specs.Reduced.{reduced-divides, reduced-nonzero, reduced-small, length-reduced, reduced-listed, LeftOut}

-- ---- the signs

-- Both signs are turned if the highest coefficient of g is negative, and neither otherwise.
pub data Turned (g h : Polynomial) : Multipliers → Type 0 where
  as-they-are : pos 0 ≤ℤ lead g → Turned g h (record { g = g; h = h })
  turned : lead g <ℤ pos 0 → Turned g h (record { g = negate g; h = negate h })

turned_signs : (g h : Polynomial) → Turned g h (turn_signs_of g h)
unfolding turn_signs_of
turned_signs g h = go (lt_z (lead g) (pos 0)) lt_z_yes lt_z_no
  where
    go : (t : Bool) → (T t → lead g <ℤ pos 0) → (T (not t) → pos 0 ≤ℤ lead g)
        → Turned g h (cond t (record { g = negate g; h = negate h }) (record { g = g; h = h }))
    go true less rest = turned (less tt)
    go false less rest = as-they-are (rest tt)

lead-negate : (p : Polynomial) → lead (negate p) ≡ neg_ℤ (lead p)
unfolding lead negate
lead-negate [] = refl
lead-negate (a ∷ p) = ap₂ (λ z e. cond z (neg_ℤ a) e) (is_zero-negate p) (lead-negate p) ∙ choose (is_zero_of p)
  where
    choose : (z : Bool) → cond z (neg_ℤ a) (neg_ℤ (lead p)) ≡ neg_ℤ (cond z a (lead p))
    choose true = refl
    choose false = refl

-- ---- sizes

small-no-larger : (x y : ℤ) → nat_abs y ≤ nat_abs x → T (small x) → T (small y)
unfolding small
small-no-larger x y h k = le→leb (nat_abs y) bound (le_trans h (leb→le (nat_abs x) bound k))

-- A function that makes no integer larger in size keeps a list within ±C.
small-map : (f : ℤ → ℤ) → ((x : ℤ) → nat_abs (f x) ≤ nat_abs x) → (p : Polynomial) → T (every small p) → T (every small (map f p))
unfolding every
small-map f h [] k = tt
small-map f h (x ∷ p) k =
    and_i (small (f x)) (every small (map f p)) (small-no-larger x (f x) (h x) (and_l (small x) (every small p) k))
    (small-map f h p (and_r (small x) (every small p) k))

small-negate : (p : Polynomial) → T (every small p) → T (every small (negate p))
unfolding negate
small-negate = small-map neg_ℤ (λ x. le_of_eq (nat_abs-neg_ℤ x))

small-divide_by : (d : ℕ) (p : Polynomial) → T (every small p) → T (every small (divide_by d p))
unfolding divide_by
small-divide_by d = small-map (λ x. quot_z x (pos d)) (λ x. quot_z-le x (pos d))

-- ---- the ratio of two polynomials

module _ (a b : Polynomial) where
  -- The common divisor.
  common : ℕ
  common = content (a ++ b)

  divides-left : DividesAll common a
  unfolding common
  divides-left = divides_all-of-content common a (rw (content-append a b) (gcd-divides-left (content a) (content b)))

  divides-right : DividesAll common b
  unfolding common
  divides-right = divides_all-of-content common b (rw (content-append a b) (gcd-divides-right (content a) (content b)))

  -- The multipliers before their signs are looked at.
  ratio-turned : Turned (divide_by common a) (negate (divide_by common b)) (ratio a b)
  unfolding common ratio
  ratio-turned = turned_signs (divide_by common a) (negate (divide_by common b))

  pub length-ratio-g : length (ratio a b).g ≡ length a
  length-ratio-g = go ratio-turned
    where
      go : {x : Multipliers} → Turned (divide_by common a) (negate (divide_by common b)) x → length x.g ≡ length a
      go (as-they-are _) = length-divide_by common a
      go (turned _) = length-negate (divide_by common a) ∙ length-divide_by common a

  length-ratio-h : length (ratio a b).h ≡ length b
  length-ratio-h = go ratio-turned
    where
      plain : length (negate (divide_by common b)) ≡ length b
      plain = length-negate (divide_by common b) ∙ length-divide_by common b

      go : {x : Multipliers} → Turned (divide_by common a) (negate (divide_by common b)) x → length x.h ≡ length b
      go (as-they-are _) = plain
      go (turned _) = length-negate (negate (divide_by common b)) ∙ plain

  pub ratio-small : T (every small a) → T (every small b)
      → T (every small (ratio a b).g) × T (every small (ratio a b).h)
  ratio-small p q = go ratio-turned
    where
      left : T (every small (divide_by common a))
      left = small-divide_by common a p

      right : T (every small (negate (divide_by common b)))
      right = small-negate (divide_by common b) (small-divide_by common b q)

      go : {x : Multipliers} → Turned (divide_by common a) (negate (divide_by common b)) x → T (every small x.g) × T (every small x.h)
      go (as-they-are _) = (left, right)
      go (turned _) = (small-negate (divide_by common a) left, small-negate (negate (divide_by common b)) right)

  -- (a/d) b - (b/d) a is zero, since a = d (a/d) and b = d (b/d).
  divided-cancel : (x : ℤ) → eval (divide_by common a) x *ℤ eval b x +ℤ eval (negate (divide_by common b)) x *ℤ eval a x ≡ pos 0
  divided-cancel x = rw
      (← eval-divide_by common a x divides-left, ← eval-divide_by common b x divides-right, eval-negate (divide_by common b) x)
      (crosswise (pos common) (eval (divide_by common a) x) (eval (divide_by common b) x))
    where
      crosswise : (d u v : ℤ) → u *ℤ (d *ℤ v) +ℤ neg_ℤ v *ℤ (d *ℤ u) ≡ pos 0
      crosswise d u v = simp (ringℤ, +ℤ_invr)

  module _ (nonzero : T (not (is_zero_of a))) where
    common-pos : 0 < common
    unfolding common
    common-pos = content-pos (a ++ b)
        (not_T (is_zero_of (a ++ b)) (λ z. T_not (is_zero_of a) nonzero (and_l (is_zero_of a) (is_zero_of b) (rw (is_zero-append a b) at z))))

    divided-nonzero : T (not (is_zero_of (divide_by common a)))
    divided-nonzero = rw (is_zero-divide_by common a common-pos divides-left) nonzero

    ratio-nonzero : T (not (is_zero_of (ratio a b).g))
    ratio-nonzero = go ratio-turned
      where
        go : {x : Multipliers} → Turned (divide_by common a) (negate (divide_by common b)) x → T (not (is_zero_of x.g))
        go (as-they-are _) = divided-nonzero
        go (turned _) = rw (is_zero-negate (divide_by common a)) divided-nonzero

    ratio-cancel : (x : ℤ) → eval (ratio a b).g x *ℤ eval b x +ℤ eval (ratio a b).h x *ℤ eval a x ≡ pos 0
    ratio-cancel x = go ratio-turned
      where
        turn : (u v c e : ℤ) → neg_ℤ u *ℤ v +ℤ neg_ℤ c *ℤ e ≡ neg_ℤ (u *ℤ v +ℤ c *ℤ e)
        turn u v c e = simp ringℤ

        go : {y : Multipliers} → Turned (divide_by common a) (negate (divide_by common b)) y
            → eval y.g x *ℤ eval b x +ℤ eval y.h x *ℤ eval a x ≡ pos 0
        go (as-they-are _) = divided-cancel x
        go (turned _) =
            rw (eval-negate (divide_by common a) x, eval-negate (negate (divide_by common b)) x)
            (turn (eval (divide_by common a) x) (eval b x) (eval (negate (divide_by common b)) x) (eval a x) ∙ ap neg_ℤ (divided-cancel x))

    ratio-lead : pos 0 <ℤ lead (ratio a b).g
    ratio-lead = go ratio-turned
      where
        go : {x : Multipliers} → Turned (divide_by common a) (negate (divide_by common b)) x → pos 0 <ℤ lead x.g
        go (as-they-are h) = ≤ℤ-≢-<ℤ h (Ne-symm ((lead-nonzero (divide_by common a)).0 divided-nonzero))
        go (turned h) = rw (lead-negate (divide_by common a)) (neg_ℤ-<ℤ.0 h)

  -- A root of g is one of a.
  ratio-root : (r : ℤ) → eval (ratio a b).g r ≡ pos 0 → eval a r ≡ pos 0
  ratio-root r = go ratio-turned
    where
      times : eval (divide_by common a) r ≡ pos 0 → eval a r ≡ pos 0
      times e = sym (eval-divide_by common a r divides-left) ∙ ap (λ y. pos common *ℤ y) e ∙ *ℤ-zero (pos common)

      go : {x : Multipliers} → Turned (divide_by common a) (negate (divide_by common b)) x → eval x.g r ≡ pos 0 → eval a r ≡ pos 0
      go (as-they-are _) e = times e
      go (turned _) e =
          times (sym (neg_ℤ-neg_ℤ (eval (divide_by common a) r)) ∙ ap neg_ℤ (sym (eval-negate (divide_by common a) r) ∙ e))

-- ---- the multipliers: the ratio of what is left of both behind the division by common roots

module _ (a b : Polynomial) where
  abbrev pub entries : Entries
  entries = record { pivot = a; target = b }

  abbrev left : Entries
  left = reduced entries

  pub length-multipliers-g : length (multipliers a b).g ≡ length a
  unfolding multipliers
  length-multipliers-g = length-ratio-g left.pivot left.target ∙ (length-reduced entries).0

  pub length-multipliers-h : length (multipliers a b).h ≡ length b
  unfolding multipliers
  length-multipliers-h = length-ratio-h left.pivot left.target ∙ (length-reduced entries).1

  pub multipliers-small : T (every small a) → T (every small b)
      → T (every small (multipliers a b).g) × T (every small (multipliers a b).h)
  unfolding multipliers both_small_of
  multipliers-small p q =
      let kept = (T-&& (every small left.pivot) (every small left.target)).0
      (reduced-small entries ((T-&& (every small a) (every small b)).1 (p, q))) in
      ratio-small left.pivot left.target kept.0 kept.1

  module _ (nonzero : T (not (is_zero_of a))) where
    left-nonzero : T (not (is_zero_of left.pivot))
    left-nonzero = reduced-nonzero entries nonzero

    pub multipliers-nonzero : T (not (is_zero_of (multipliers a b).g))
    unfolding multipliers
    multipliers-nonzero = ratio-nonzero left.pivot left.target left-nonzero

    -- a and b are one polynomial times what is left of them.
    pub multipliers-cancel : (x : ℤ) → eval (multipliers a b).g x *ℤ eval b x +ℤ eval (multipliers a b).h x *ℤ eval a x ≡ pos 0
    unfolding multipliers
    multipliers-cancel x =
        let f = reduced-divides entries in
        rw (f.pivots x, f.targets x)
        (together (eval f.factor x) (eval (multipliers a b).g x) (eval left.target x) (eval (multipliers a b).h x)
        (eval left.pivot x) ∙ ap (λ y. eval f.factor x *ℤ y) (ratio-cancel left.pivot left.target left-nonzero x)
        ∙ *ℤ-zero (eval f.factor x))
      where
        together : (c g v h u : ℤ) → g *ℤ (c *ℤ v) +ℤ h *ℤ (c *ℤ u) ≡ c *ℤ (g *ℤ v +ℤ h *ℤ u)
        together c g v h u = simp ringℤ

    pub multipliers-lead : pos 0 <ℤ lead (multipliers a b).g
    unfolding multipliers
    multipliers-lead = ratio-lead left.pivot left.target left-nonzero

    -- At a common root of a and b a relation is listed only where the limit has left a division out, or where the root occurs
    -- more often in a than in b.
    pub multipliers-listed : (r : ℤ) → T (not (is_zero_of b)) → eval (multipliers a b).g r ≡ pos 0
        → LeftOut r entries ⊎ (multiplicity b r < multiplicity a r)
    unfolding multipliers
    multipliers-listed r other root = reduced-listed entries r nonzero other (ratio-root left.pivot left.target r root)
