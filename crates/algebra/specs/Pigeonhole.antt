-- The pigeonhole principle: a list of m different numbers below m has every number below m.
--
-- Main definitions
--   Distinct l           no number stands in l twice
--
-- Main statements
--   dec-member           membership in a list of numbers is decidable
--   distinct-length      a distinct list of numbers below m has length at most m
--   pigeonhole           a distinct list of length m, all members below m, has every number below m as a member
use Rattle.std.specs.Prelude.{◌≡◌, refl, ◌≢◌, ℕ, zero, suc, ◌≤◌, ◌<◌, length}
use Rattle.std.proofs.Common.{sym, ap, ⊎_elim, zero-le, not-suc-le-zero, arith}
use Rattle.std.proofs.Math.Decide.{ℕ_discrete}
use mathlib.Core.List.Memᴰ
use mathlib.Core.List.{List, [], ◌∷◌, Memᴰ}

abbrev pub Distinct : List ℕ → Type 0
Distinct [] = Unit {0}
Distinct (x ∷ l) = (¬ Memᴰ x l) × Distinct l

pub dec-member : (x : ℕ) (l : List ℕ) → Dec (Memᴰ x l)
dec-member x [] = no Memᴰ.not-nil
dec-member x (y ∷ l) = step (ℕ_discrete x y) (dec-member x l)
  where
    step : Dec (x ≡ y) → Dec (Memᴰ x l) → Dec (Memᴰ x (y ∷ l))
    step (yes e) d = yes (Memᴰ.head e)
    step (no n) (yes m) = yes (Memᴰ.tail m)
    step (no n) (no k) = no (λ m. ⊎_elim n k (Memᴰ.cases_cons m))

-- The list without the member that a proof of membership points at.
abbrev without : {x : ℕ} {l : List ℕ} → Memᴰ x l → List ℕ
without (Memᴰ.head {xs = l} e) = l
without (Memᴰ.tail {x = y} p) = y ∷ without p

length_without : {x : ℕ} {l : List ℕ} (p : Memᴰ x l) → length l ≡ suc (length (without p))
length_without (Memᴰ.head e) = refl
length_without (Memᴰ.tail p) = ap suc (length_without p)

without-member : {x y : ℕ} {l : List ℕ} (p : Memᴰ x l) → Memᴰ y (without p) → Memᴰ y l
without-member (Memᴰ.head e) m = Memᴰ.tail m
without-member (Memᴰ.tail p) m = ⊎_elim Memᴰ.head (λ r. Memᴰ.tail (without-member p r)) (Memᴰ.cases_cons m)

without-distinct : {x : ℕ} {l : List ℕ} (p : Memᴰ x l) → Distinct l → Distinct (without p)
without-distinct (Memᴰ.head e) d = d.1
without-distinct (Memᴰ.tail p) d = (λ m. d.0 (without-member p m), without-distinct p d.1)

without-not-member : {x : ℕ} {l : List ℕ} (p : Memᴰ x l) → Distinct l → ¬ Memᴰ x (without p)
without-not-member (Memᴰ.head e) d m = d.0 (Memᴰ.cast (sym e) m)
without-not-member (Memᴰ.tail p) d m =
    ⊎_elim (λ e. d.0 (Memᴰ.cast (sym e) p)) (without-not-member p d.1) (Memᴰ.cases_cons m)

-- By induction on m: the number m itself stands in the list at most once.
pub distinct-length : (m : ℕ) (l : List ℕ) → Distinct l → ((x : ℕ) → Memᴰ x l → x < m) → length l ≤ m
distinct-length zero [] d below = zero-le
distinct-length zero (x ∷ l) d below = absurd (not-suc-le-zero (below x (Memᴰ.head refl)))
distinct-length (suc m) l d below = step (dec-member m l) (distinct-length m)
  where
    under : (k : List ℕ) → ((x : ℕ) → Memᴰ x k → Memᴰ x l) → ¬ Memᴰ m k → (x : ℕ) → Memᴰ x k → x < m
    under k inside n x p = less (below x (inside x p)) (λ e. n (Memᴰ.cast (sym e) p))
      where
        less : x < suc m → x ≢ m → x < m
        less h ne = omega arith

    step : Dec (Memᴰ m l) → ((k : List ℕ) → Distinct k → ((x : ℕ) → Memᴰ x k → x < m) → length k ≤ m) → length l ≤ suc m
    step (yes p) rec = omega (arith, length_without p, rec (without p) (without-distinct p d) rest)
      where
        rest : (x : ℕ) → Memᴰ x (without p) → x < m
        rest = under (without p) (λ x. without-member p) (without-not-member p d)
    step (no n) rec = omega (arith, rec l d (under l (λ x p. p) n))

-- A missing number in front would make the list too long.
pub pigeonhole : (m : ℕ) (l : List ℕ) → Distinct l → length l ≡ m → ((x : ℕ) → Memᴰ x l → x < m) → (k : ℕ) → k < m → Memᴰ k l
pigeonhole m l d size below k h = cases (dec-member k l)
  where
    cases : Dec (Memᴰ k l) → Memᴰ k l
    cases (yes p) = p
    cases (no n) = absurd (omega (arith, distinct-length m (k ∷ l) (n, d) longer))
      where
        longer : (x : ℕ) → Memᴰ x (k ∷ l) → x < m
        longer x p = ⊎_elim (λ e. omega arith) (below x) (Memᴰ.cases_cons p)
