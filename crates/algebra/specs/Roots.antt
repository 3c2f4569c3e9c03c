-- The integer roots of a polynomial.
--
-- Main definitions
--   candidates p   0 and the divisors, of either sign, of the lowest nonzero coefficient, ascending (SCOPE 2.134)
--   is_constant p   no coefficient past power 0 is nonzero
--   roots p        the integer roots of a nonzero polynomial, ascending, each once
--
-- Main statements
--   roots-sound       every member of roots p is a root
--   roots-complete    every integer root of a nonzero polynomial is a member
--   roots-ascending   the members ascend strictly
--   roots-distinct    so each stands once; ascending-distinct: in any ascending list
--   place             a member of a list of integers has a place in it
-- (`List.Mem` is the kit's membership; its `Pairwise` relates each member to every later one.)
use Rattle.std.specs.Prelude.{ℕ, zero, suc, ◌<◌, ◌≡◌, refl, ◌≢◌, Bool, true, false, cond, not, List, [], ◌∷◌, map, ◌++◌, reverse, T, replicate, ℤ, pos, negsuc, neg_ℤ, nat_abs, ◌-ℤ◌, ◌<ℤ◌}
use Rattle.std.proofs.Common.{ap, T_not, suc-ne-zero}
use Rattle.std.proofs.Math.Logic.{∥∥₁_elim, by_cases}
use mathlib.Core.List.{Mem, Memᴰ, not-mem-nil, mem-cons_self, mem-cons_of_mem, mem_of_ne_of_mem}
use mathlib.Core.List.{mem-append_left, mem-append_right, mem-reverse, mem-map_of_mem, exists_of_mem-map}
use mathlib.Core.List.Pairwise
use mathlib.Core.List.{Pairwise, Nodup}
use mathlib.Core.List.{Pairwise-append, Pairwise-map, Pairwise-reverse}
use Rattle.std.proofs.Math.Dec.{not_T}
use Rattle.std.proofs.Math.IntN.{ℤ_discrete}
use Rattle.std.specs.Int.Signed.{<ℤ_irrefl, <ℤ-≤ℤ_trans}
use Rattle.algebra.specs.Order.{pos-<ℤ, neg_ℤ-<ℤ, pos-nonneg, <ℤ_prop}
use Rattle.algebra.specs.Sums.{count_from}
use Rattle.algebra.specs.Polynomials.{Polynomial, eval, is_zero_of, is_zero_ℤ, lowest, is_zero_ℤ-iff}
use Rattle.algebra.specs.Vanishing.{constant-root, lowest-positive, root-divides-lowest}
use Rattle.algebra.specs.Divisors.{divisors, mem-divisors, divisors-positive, divisors-ascending}
use Rattle.lists.specs.Sifted.{keep, mem-keep, keep-pairwise}

unfoldable pub candidates : Polynomial → List ℤ
unfolding divisors lowest
candidates p =
    let ds = divisors (nat_abs (lowest p)) in
    map (λ d. neg_ℤ (pos d)) (reverse ds) ++ (pos 0 ∷ map pos ds)

unfoldable pub is_constant : Polynomial → Bool
unfolding is_zero_of
is_constant [] = true
is_constant (a ∷ p) = is_zero_of p

-- The integer roots of a nonzero polynomial, ascending, each once; none for a constant (SCOPE 2.31, 2.32).
unfoldable pub roots : Polynomial → List ℤ
unfolding keep candidates eval is_zero_ℤ is_constant
roots p =
    let found = keep (λ r. is_zero_ℤ (eval p r)) (candidates p) in
    cond (is_constant p) [] found

-- ---- lists of integers

-- A member of a list of integers has a place in it.
pub place : {x : ℤ} (l : List ℤ) → Mem x l → Memᴰ x l
place [] m = absurd (not-mem-nil m)
place {x} (y ∷ l) m = by_cases (ℤ_discrete x y) Memᴰ.head (λ n. Memᴰ.tail (place l (mem_of_ne_of_mem n m)))

pub ascending-distinct : {l : List ℤ} → Pairwise ◌<ℤ◌ l → Nodup l
ascending-distinct = Pairwise.imp (λ a b h e. <ℤ_irrefl (rw e at h))

-- ---- the candidates

-- The negatives of the numbers ds, 0 and the numbers themselves: ascending if the numbers are positive and ascend.
abbrev negatives : List ℕ → List ℤ
negatives ds = map (λ d. neg_ℤ (pos d)) (reverse ds)

abbrev signed : List ℕ → List ℤ
signed ds = negatives ds ++ map pos (0 ∷ ds)

signed-complete : (ds : List ℕ) (r : ℤ) → (r ≢ pos 0 → Mem (nat_abs r) ds) → Mem r (signed ds)
signed-complete ds (pos zero) h = mem-append_right (negatives ds) mem-cons_self
signed-complete ds (pos (suc n)) h =
    mem-append_right (negatives ds) (mem-map_of_mem pos (mem-cons_of_mem 0 (h (λ e. suc-ne-zero n (ap nat_abs e)))))
signed-complete ds (negsuc n) h =
    mem-append_left (map pos (0 ∷ ds)) (mem-map_of_mem (λ d. neg_ℤ (pos d)) (mem-reverse.1 (h (λ e. suc-ne-zero n (ap nat_abs e)))))

signed-ascending : (ds : List ℕ) → Pairwise ◌<◌ ds → ((d : ℕ) → Mem d ds → 0 < d) → Pairwise ◌<ℤ◌ (signed ds)
signed-ascending ds ascends positive = (Pairwise-append <ℤ_prop).1 (negative, others, across)
  where
    others : Pairwise ◌<ℤ◌ (map pos (0 ∷ ds))
    others = Pairwise.map <ℤ_prop pos (λ d e. pos-<ℤ.1) (Pairwise.cons positive ascends)

    reversed : Pairwise (λ d e. neg_ℤ (pos d) <ℤ neg_ℤ (pos e)) (reverse ds)
    reversed = (Pairwise-reverse (λ d e. <ℤ_prop (neg_ℤ (pos d)) (neg_ℤ (pos e)))).1
        (Pairwise.imp (λ d e h. neg_ℤ-<ℤ.0 (pos-<ℤ.1 h)) ascends)

    negative : Pairwise ◌<ℤ◌ (negatives ds)
    negative = (Pairwise-map <ℤ_prop (λ d. neg_ℤ (pos d))).1 reversed

    between : {x y : ℤ} (d e : ℕ) → Mem d (reverse ds) → neg_ℤ (pos d) ≡ x → pos e ≡ y → x <ℤ y
    between d e m h k = rw (← h, ← k) (<ℤ-≤ℤ_trans (neg_ℤ-<ℤ.0 (pos-<ℤ.1 (positive d (mem-reverse.0 m)))) (pos-nonneg e))

    across : (x : ℤ) → Mem x (negatives ds) → (y : ℤ) → Mem y (map pos (0 ∷ ds)) → x <ℤ y
    across x m y n =
        let low = exists_of_mem-map {f = λ d. neg_ℤ (pos d)} {l = reverse ds} m in
        let high = exists_of_mem-map {f = pos} {l = 0 ∷ ds} n in
        ∥∥₁_elim low (<ℤ_prop x y) (λ t. ∥∥₁_elim high (<ℤ_prop x y) (λ u. between t.0 u.0 t.1 t.2 u.2))

candidates-complete : (p : Polynomial) (r : ℤ) → T (not (is_zero_of p)) → eval p r ≡ pos 0 → Mem r (candidates p)
unfolding candidates
candidates-complete p r n e = signed-complete _ r (λ h. (mem-divisors _ (lowest-positive p n)).1 (root-divides-lowest p r n h e))

candidates-ascending : (p : Polynomial) → T (not (is_zero_of p)) → Pairwise ◌<ℤ◌ (candidates p)
unfolding candidates
candidates-ascending p n = signed-ascending _ (divisors-ascending _ (lowest-positive p n)) (divisors-positive _ (lowest-positive p n))

-- ---- the roots

-- A nonconstant polynomial's roots are the candidates that pass the test.
abbrev is_root_of : Polynomial → ℤ → Bool
is_root_of p r = is_zero_ℤ (eval p r)

roots-split : (p : Polynomial) → roots p ≡ cond (is_constant p) [] (keep (is_root_of p) (candidates p))
unfolding roots
roots-split p = refl

pub roots-sound : (p : Polynomial) {r : ℤ} → Mem r (roots p) → eval p r ≡ pos 0
roots-sound p {r} m = cases (is_constant p) (rw (roots-split p) at m)
  where
    cases : (b : Bool) → Mem r (cond b [] (keep (is_root_of p) (candidates p))) → eval p r ≡ pos 0
    cases true m = absurd (not-mem-nil m)
    cases false m = (is_zero_ℤ-iff (eval p r)).0 ((mem-keep (is_root_of p) (candidates p)).0 m).1

constant-no-root : (p : Polynomial) (r : ℤ) → T (not (is_zero_of p)) → eval p r ≡ pos 0 → T (not (is_constant p))
unfolding is_constant
constant-no-root [] r n e = n
constant-no-root (a ∷ p) r n e = not_T (is_zero_of p) (λ z. T_not (is_zero_of (a ∷ p)) n (constant-root a p r z e))

pub roots-complete : (p : Polynomial) (r : ℤ) → T (not (is_zero_of p)) → eval p r ≡ pos 0 → Mem r (roots p)
roots-complete p r n e = rw (roots-split p) (cases (is_constant p) (constant-no-root p r n e))
  where
    cases : (b : Bool) → T (not b) → Mem r (cond b [] (keep (is_root_of p) (candidates p)))
    cases true h = absurd h
    cases false h = (mem-keep (is_root_of p) (candidates p)).1 (candidates-complete p r n e, (is_zero_ℤ-iff (eval p r)).1 e)

pub roots-ascending : (p : Polynomial) → T (not (is_zero_of p)) → Pairwise ◌<ℤ◌ (roots p)
roots-ascending p n = rw (roots-split p) (cases (is_constant p))
  where
    cases : (b : Bool) → Pairwise ◌<ℤ◌ (cond b [] (keep (is_root_of p) (candidates p)))
    cases true = Pairwise.nil
    cases false = keep-pairwise (is_root_of p) (candidates-ascending p n)

pub roots-distinct : (p : Polynomial) → T (not (is_zero_of p)) → Nodup (roots p)
roots-distinct p n = ascending-distinct (roots-ascending p n)

-- ---- examples

abbrev examples : List (Polynomial × List ℤ)
examples =
    -- both signs: (n + 3)(n - 2)
    (neg_ℤ (pos 6) ∷ pos 1 ∷ pos 1 ∷ [], neg_ℤ (pos 3) ∷ pos 2 ∷ []) ∷
    -- zero among the roots: n³ - n
    (pos 0 ∷ neg_ℤ (pos 1) ∷ pos 0 ∷ pos 1 ∷ [], neg_ℤ (pos 1) ∷ pos 0 ∷ pos 1 ∷ []) ∷
    -- a double root: (n - 2)²
    (pos 4 ∷ neg_ℤ (pos 4) ∷ pos 1 ∷ [], pos 2 ∷ []) ∷
    -- zero as a double root: n²(2n - 3)(n + 4)
    (pos 0 ∷ pos 0 ∷ neg_ℤ (pos 12) ∷ pos 5 ∷ pos 2 ∷ [], neg_ℤ (pos 4) ∷ pos 0 ∷ []) ∷
    -- no real root: n² + 1
    (pos 1 ∷ pos 0 ∷ pos 1 ∷ [], []) ∷
    -- no integer root: 6n² - 5n + 1
    (pos 1 ∷ neg_ℤ (pos 5) ∷ pos 6 ∷ [], []) ∷
    -- constants
    (pos 7 ∷ [], []) ∷
    (neg_ℤ (pos 7) ∷ [], []) ∷
    (pos 0 ∷ [], []) ∷
    ([], []) ∷
    -- a constant in sixteen entries
    (pos 5 ∷ replicate 15 (pos 0), []) ∷
    -- sixteen entries, most of them zero
    (neg_ℤ (pos 6) ∷ pos 1 ∷ pos 1 ∷ replicate 13 (pos 0), neg_ℤ (pos 3) ∷ pos 2 ∷ []) ∷
    -- degree 15: the product of n - k for k from -7 to 7
    (
      pos 0 ∷ neg_ℤ (pos 25401600) ∷ pos 0 ∷ pos 38402064 ∷ pos 0 ∷ neg_ℤ (pos 15291640) ∷ pos 0 ∷ pos 2475473 ∷ pos 0 ∷
          neg_ℤ (pos 191620) ∷ pos 0 ∷ pos 7462 ∷ pos 0 ∷ neg_ℤ (pos 140) ∷ pos 0 ∷ pos 1 ∷ [],
      map (λ k. pos k -ℤ pos 7) (count_from 0 15),
    ) ∷
    -- a large prime: n + 268435399
    (pos 268435399 ∷ pos 1 ∷ [], neg_ℤ (pos 268435399) ∷ []) ∷
    -- a large square: (n - 16383)²
    (pos 268402689 ∷ neg_ℤ (pos 32766) ∷ pos 1 ∷ [], pos 16383 ∷ []) ∷
    -- a large number with 64 divisors: n² - 268435455 and n - 268435455
    (neg_ℤ (pos 268435455) ∷ pos 0 ∷ pos 1 ∷ [], []) ∷
    (neg_ℤ (pos 268435455) ∷ pos 1 ∷ [], pos 268435455 ∷ []) ∷
    []

roots-examples : map (λ e. roots e.0) examples ≡ map (λ e. e.1) examples
unfolding roots count_from
roots-examples = refl
