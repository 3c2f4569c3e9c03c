-- The members of a list that pass a test.
--
-- Main definitions
--   keep t l                               those members, in their order
--
-- Main statements
--   keep-filter                            it is the kit's `filter` by the test
--   mem-keep, keep-pairwise                its members, and what holds of any two of them
use Rattle.std.specs.Prelude.{◌≡◌, refl, ◌↔◌, Bool, cond, true, false, T}
use Rattle.std.proofs.Common.{ap}
use Rattle.std.proofs.Math.Logic.{ite}
use mathlib.Core.List.Pairwise
use mathlib.Core.List.{List, [], ◌∷◌, Mem, filter, mem-filter, Pairwise}
use Rattle.lists.specs.Tests.{dec-T}

-- The members of a list that pass a test, in their order.
unfoldable pub keep : {A : Type 0} → (A → Bool) → List A → List A
keep t [] = []
keep t (x ∷ l) = cond (t x) (x ∷ keep t l) (keep t l)

pub keep-filter : {A : Type 0} (t : A → Bool) (l : List A) → keep t l ≡ filter (λ x. dec-T (t x)) l
unfolding keep
keep-filter t [] = refl
keep-filter {A} t (x ∷ l) = step (t x) (dec-T (t x)) (keep-filter t l)
  where
    step : (b : Bool) (d : Dec (T b)) {k f : List A} → k ≡ f → cond b (x ∷ k) k ≡ ite d (x ∷ f) f
    step true (yes y) h = ap (λ m. x ∷ m) h
    step true (no n) h = absurd (n tt)
    step false (yes y) h = absurd y
    step false (no n) h = h

pub mem-keep : {A : Type 0} (t : A → Bool) (l : List A) {x : A} → Mem x (keep t l) ↔ (Mem x l × T (t x))
mem-keep t l = rw (keep-filter t l) (mem-filter (λ x. dec-T (t x)))

pub keep-pairwise : {A : Type 0} {R : A → A → Type 0} (t : A → Bool) {l : List A} → Pairwise R l → Pairwise R (keep t l)
keep-pairwise t {l} h = rw (keep-filter t l) (Pairwise.filter (λ x. dec-T (t x)) h)
