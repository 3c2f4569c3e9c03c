-- The search for the integer roots of a polynomial: the test of one candidate, the candidates that are
-- tried, and why these are all.
--
-- Main definitions
--   listed l, held f   the array that holds the list l, zeros past its end; the list that an array holds
--   try_root p r l      the ascending list l with r, if p vanishes at r
--   try_both p d l      the same for d and -d
--   answered o         a root or none, as an answer
--   Found p P l        l holds, ascending, only roots of p, and every root of p with the property P
--   Holds p P f        the array f holds such a list; OnlyRoots p f where nothing is asked of P
--   Candidate n d l z  in size z is below n, and d times a divisor of the product of l
--   Tried p n d l f g  the array g holds what f holds and the roots among these candidates
--   Passed a d z       in size z is below d, or its cofactor in a is; Paired p a d where that holds of every root of p
--   NoneOf p d         no root of p is d in size; NothingNew p a d e where none is passed from d to e
--
-- Main statements
--   lowest-small, roots-small   the lowest coefficient is within ±C, and so is every root
--   vanishes-past      past C only the zero polynomial vanishes
--   try_both-past       where no root reaches n, nothing from n on is listed
--   found-length       a list of roots has at most as many members as the degree says
--   tried-none, tried-with, tried-without   the divisors of a product, by its factors
--   all-tried          with 0 and the divisors of the lowest coefficient, the roots are found
--   pairs_start, pairs-divisor, pairs-other, pairs-none, pairs_end, pairs-few   the divisors in pairs, d and a / d: the start, both tried, d
--                      that does not divide a or where there is no root, the end at the square root and the end where every root was passed
--   found-new, none_of  nothing new to be found; no root d in size
--   gap-paired         a root past a gap has a small cofactor
--   linear-tried       a polynomial of degree 1 has one candidate
--   roots_few          a polynomial of 16 coefficients has at most 15 roots
--   answered-first, answered-last   the first root is the smallest and the last the largest
use Rattle.std.specs.Prelude.{ℕ, suc, ◌+◌, ◌*◌, ◌-◌, ◌/◌, ◌≤◌, ◌<◌, ◌≡◌, refl, ◌≢◌, ◌⊎◌, Bool, not, length, take, drop, replicate, negsuc, nat_abs, ◌+ℤ◌, ◌*ℤ◌, ◌<ℤ◌}
use Rattle.std.specs.Int.{◌∣◌, w64}
use Rattle.std.proofs.Common.{zero-le, ◌∙◌, subst, subst₂, ⊎_elim, true≢false, suc-ne-zero, le_refl, eq-zero-or-pos, one-mul, mul_comm, mul_assoc, le-mul_of_pos_right, le_trans, le_of_eq, lt_of_not-le, eq-or-lt_of_le, mul-zero, mul-le-mul, div-mul-le_self, le-div_iff_mul-le, arith, SFits}
use Rattle.std.proofs.Math.Path.{sym, ap, subst⁻¹}
use Rattle.std.proofs.Math.Logic.{inl, inr, by_cases}
use Rattle.std.proofs.Math.Bool.{true, false, cond}
use mathlib.Core.List.{List, [], ◌∷◌, ◌++◌, prod}
use mathlib.Core.List.Memᴰ
use mathlib.Core.List.{Mem, Memᴰ}
use mathlib.Core.List.Pairwise
use Rattle.std.proofs.Math.Option.{Option, none, some}
use Rattle.std.specs.Prelude as Prelude
use Rattle.std.specs.Prelude.{None, Some, slice_get}
use Rattle.std.proofs.Math.Nat.{mul-div_cancel', mul-one, pos_of_dvd_of_pos, eq-one_of_dvd-one, dvd_of_mul-dvd-mul_left, div-zero, div-eq_of_eq-mul_left}
use Rattle.std.proofs.Math.Decide.{dec_le, dec_dvd}
use Rattle.std.proofs.Math.Dec.{T, not_T}
use Rattle.std.proofs.Math.ListN.{get_or, get_or-append}
use Rattle.std.proofs.Math.Seq.{take-append_seam}
use Rattle.std.proofs.lemmas.Option.{slice_get-get_or}
use Rattle.std.proofs.Math.IntN.{ℤ, pos, neg_ℤ, neg_ℤ-neg_ℤ}
use Rattle.std.specs.Int.Signed.{le_z, quot_z}
use Rattle.integers.specs.Ranges.{sfits-size}
use Rattle.algebra.specs.Integers.{ringℤ, nat_abs-neg_ℤ, neg_ℤ-unique, neg_ℤ-*ℤ, nat_abs-zero}
use Rattle.algebra.specs.Division.{quot_z-exact}
use Rattle.algebra.specs.Order.{<ℤ-to-≤ℤ}
use Rattle.algebra.specs.Polynomials.{Polynomial, coeff, eval, is_zero_of, lowest, degree, is_zero_ℤ, eval-is_zero}
use Rattle.lists.specs.Tests.{same_test, every, dec-T, true_of, false_of}
use Rattle.algebra.specs.Vanishing.{is_zero_ℤ-sound, is_zero_ℤ-complete, roots-at-most-degree, root-divides-lowest}
use Rattle.algebra.specs.Vanishing.{nonzero-past-lowest, lowest-positive}
use Rattle.algebra.specs.Coefficients.{degree-is_zero, coeff-degree, lowest-place}
use Rattle.algebra.specs.Roots.{place, roots, ascending-distinct, roots-sound, roots-complete, roots-ascending}
use Rattle.rules.specs.Limits.{bound, small}
use Rattle.rules.specs.Elimination.{leading, trailing, further, furthest}
use Rattle.polynomials.specs.Content.{small_at}
use Rattle.lists.specs.Taken.{drop-next}
use Rattle.lists.specs.Places.{get_or-member}
use Rattle.roots.specs.Ascending.{Ascending, insert, insert-nil, first_below, ascending-unique, insert-longer}
use Rattle.roots.specs.Ascending.{insert-new}
use Rattle.roots.specs.Ascending.{insert-old, insert-only, insert-ascending}
use Rattle.roots.specs.Bound.{Top, RootsBelow, NoneBetween, degree-inside, top-degree, top-positive, eval-top}
use Rattle.roots.specs.Factors.{product, product-cons, product-positive, Simple, AllSimple, Factored, Run, simple-coprime}
use Rattle.roots.specs.Factors.{run-divides}
use Rattle.roots.specs.declared.RootList.{RootList}
use Rattle.roots.specs.declared.FactorList.{FactorList}

-- The first `count` values.
abbrev pub held : RootList → List ℤ
held f = take f.count f.values

abbrev pub listed : List ℤ → RootList
listed l = record { count = length l; values = l ++ replicate (16 - length l) (pos 0) }

-- The first `count` factors.
abbrev pub the_factors_of : FactorList → List ℕ
the_factors_of f = take f.count f.values

abbrev pub Sized : FactorList → Type 0
Sized f = (f.count ≤ 28) × (length f.values ≡ 28)

-- The candidate r.
unfoldable pub try_root : Polynomial → ℤ → List ℤ → List ℤ
unfolding insert eval is_zero_ℤ
try_root p r l = cond (is_zero_ℤ (eval p r)) (insert r l) l

-- The candidates d and -d.
unfoldable pub try_both : Polynomial → ℕ → List ℤ → List ℤ
unfolding try_root
try_both p d l = try_root p (neg_ℤ (pos d)) (try_root p (pos d) l)

-- The root asked for, as the code gives it (SCOPE 2.82).
abbrev pub answered : Option ℤ → Prelude.Option ℤ
answered none = None
answered (some r) = Some r

-- ---- the root test

-- The lowest coefficient is small as the others are.
pub lowest-small : (p : Polynomial) → T (not (is_zero_of p)) → T (every small p) → nat_abs (lowest p) ≤ bound
unfolding coeff
lowest-small p n t = let (k, e, _) = lowest-place p n in rw (← e) (small_at p t k)

pub roots-small : (p : Polynomial) → T (not (is_zero_of p)) → T (every small p) → RootsBelow p (bound + 1)
roots-small p n t z root =
    by_cases (dec_le (nat_abs z) (nat_abs (lowest p)))
    (λ h. omega (arith, lowest-small p n t))
    (λ h. absurd (nonzero-past-lowest p z n (lt_of_not-le h) root))

-- The zero polynomial with no coefficient, and the root 0.
pub eval-empty : (p : Polynomial) (r : ℤ) → length p ≡ 0 → eval p r ≡ pos 0
unfolding eval
eval-empty [] r h = refl
eval-empty (a ∷ p) r h = absurd (omega arith)

pub eval-at-zero : (p : Polynomial) → eval p (pos 0) ≡ get_or p 0 (pos 0)
unfolding eval
eval-at-zero [] = refl
eval-at-zero (a ∷ p) = simp ringℤ

-- A coefficient is in the range of an i64.
pub fits-small : (l : List ℤ) (i : ℕ) → T (every small l) → SFits w64 (get_or l i (pos 0))
fits-small l i t = sfits-size (get_or l i (pos 0)) (small_at l t i) (omega arith)

-- Past C only the zero polynomial vanishes.
pub vanishes-past : (p : Polynomial) (r : ℤ) → T (every small p) → bound < nat_abs r → is_zero_of p ≡ is_zero_ℤ (eval p r)
vanishes-past p r t h =
    same_test (is_zero_of p) (is_zero_ℤ (eval p r)) (λ z. is_zero_ℤ-complete (eval p r) (eval-is_zero p r z))
    (λ z. by_cases (dec-T (is_zero_of p)) (λ k. k) (λ k. absurd (far k (is_zero_ℤ-sound (eval p r) z))))
  where
    far : (T (is_zero_of p) → ⊥) → eval p r ≡ pos 0 → ⊥
    far k root = omega (arith, roots-small p (not_T (is_zero_of p) k) t r root)

-- ---- a tried candidate

held-listed : (l : List ℤ) → held (listed l) ≡ l
held-listed l = take-append_seam l (replicate (16 - length l) (pos 0))

-- A result of a function that lists l, as the next one takes it.
pub held_of : {f : RootList} (l : List ℤ) → f ≡ listed l → held f ≡ l
held_of l e = ap held e ∙ held-listed l

pub listed-held : {f : RootList} (l : List ℤ) → f ≡ listed l → f ≡ listed (held f)
listed-held l e = e ∙ ap listed (sym (held_of l e))

pub listed-get_or : {f : RootList} (l : List ℤ) → f ≡ listed l → (i : ℕ) → i < length l
    → get_or f.values i (pos 0) ≡ get_or l i (pos 0)
listed-get_or l e i h =
    ap (λ f. get_or f.values i (pos 0)) e ∙ get_or-append l (replicate (16 - length l) (pos 0)) (pos 0) i h

module _ (p : Polynomial) (r : ℤ) (l : List ℤ) where
  pub try_root-yes : is_zero_ℤ (eval p r) ≡ true → try_root p r l ≡ insert r l
  unfolding try_root
  try_root-yes h = ap (λ t. cond t (insert r l) l) h

  pub try_root-no : is_zero_ℤ (eval p r) ≡ false → try_root p r l ≡ l
  unfolding try_root
  try_root-no h = ap (λ t. cond t (insert r l) l) h

  -- What holds of the list with r, if r is a root, and of the list without it.
  try_root-cases : (P : List ℤ → Type 0) → (eval p r ≡ pos 0 → P (insert r l)) → (eval p r ≢ pos 0 → P l) → P (try_root p r l)
  unfolding try_root
  try_root-cases P f g = cases (is_zero_ℤ (eval p r)) (is_zero_ℤ-sound (eval p r)) (is_zero_ℤ-complete (eval p r))
    where
      cases : (t : Bool) → (T t → eval p r ≡ pos 0) → (eval p r ≡ pos 0 → T t) → P (cond t (insert r l) l)
      cases true y n = f (y tt)
      cases false y n = g n

  pub try_root-longer : length l ≤ length (try_root p r l)
  try_root-longer = try_root-cases (λ m. length l ≤ length m) (λ _. insert-longer r l) (λ _. le_refl (length l))

pub try_root-one : (p : Polynomial) (r : ℤ) → length (try_root p r []) ≤ 1
try_root-one p r = try_root-cases p r [] (λ m. length m ≤ 1) (λ _. le_of_eq (ap length (insert-nil r))) (λ _. zero-le)

pub try_both-twice : (p : Polynomial) (d : ℕ) (l : List ℤ) → try_both p d l ≡ try_root p (neg_ℤ (pos d)) (try_root p (pos d) l)
unfolding try_both
try_both-twice p d l = refl

-- Where no root reaches n, nothing from n on is listed.
pub try_both-past : (p : Polynomial) (n d : ℕ) (l : List ℤ) → RootsBelow p n → n ≤ d → try_both p d l ≡ l
try_both-past p n d l below h =
    try_both-twice p d l ∙ try_root-no p (neg_ℤ (pos d)) (try_root p (pos d) l) (none (neg_ℤ (pos d)) (nat_abs-neg_ℤ (pos d)))
    ∙ try_root-no p (pos d) l (none (pos d) refl)
  where
    none : (z : ℤ) → nat_abs z ≡ d → is_zero_ℤ (eval p z) ≡ false
    none z e = false_of (is_zero_ℤ (eval p z)) (λ t. omega (arith, below z (is_zero_ℤ-sound (eval p z) t)))

-- ---- the search

-- The list l holds, ascending, only roots of p, and every root of p with the property P.
pub record Found (p : Polynomial) (P : ℤ → Type 0) (l : List ℤ) : Type 0 where
  pub ascending : Ascending l
  pub sound : (z : ℤ) → Memᴰ z l → eval p z ≡ pos 0
  pub complete : (z : ℤ) → eval p z ≡ pos 0 → P z → Memᴰ z l

module _ {p : Polynomial} where
  found_none : Found p (λ _. ⊥) []
  found_none = record { ascending = Pairwise.nil; sound = λ z m. absurd (Memᴰ.not-nil m); complete = λ z e h. absurd h }

  found-more : {P Q : ℤ → Type 0} {l : List ℤ} → ((z : ℤ) → eval p z ≡ pos 0 → Q z → P z) → Found p P l → Found p Q l
  found-more f c = record { ascending = c.ascending; sound = c.sound; complete = λ z e h. c.complete z e (f z e h) }

  found-root : {P : ℤ → Type 0} (r : ℤ) (l : List ℤ) → Found p P l → Found p (λ z. (z ≡ r) ⊎ P z) (try_root p r l)
  found-root {P} r l c = try_root-cases p r l (Found p (λ z. (z ≡ r) ⊎ P z)) root other
    where
      root : eval p r ≡ pos 0 → Found p (λ z. (z ≡ r) ⊎ P z) (insert r l)
      root e =
          record {
            ascending = insert-ascending r l c.ascending;
            sound = λ z m. ⊎_elim (λ i. ap (eval p) i ∙ e) (c.sound z) (insert-only r l m);
            complete = λ z f. ⊎_elim (λ i. Memᴰ.cast i (insert-new r l)) (λ h. insert-old r l (c.complete z f h));
          }

      other : eval p r ≢ pos 0 → Found p (λ z. (z ≡ r) ⊎ P z) l
      other n = found-more (λ z e. ⊎_elim (λ i. absurd (n (ap (eval p) (sym i) ∙ e))) (λ h. h)) c

  pub found-both : {P : ℤ → Type 0} (d : ℕ) (l : List ℤ) → Found p P l → Found p (λ z. (nat_abs z ≡ d) ⊎ P z) (try_both p d l)
  found-both {P} d l c = rw (try_both-twice p d l) (found-more signs (found-root (neg_ℤ (pos d)) _ (found-root (pos d) l c)))
    where
      signs : (z : ℤ) → eval p z ≡ pos 0 → (nat_abs z ≡ d) ⊎ P z → (z ≡ neg_ℤ (pos d)) ⊎ (z ≡ pos d) ⊎ P z
      signs (pos n) e (inl h) = inr (inl (ap pos h))
      signs (negsuc n) e (inl h) = inl (ap (λ k. neg_ℤ (pos k)) h)
      signs z e (inr h) = inr (inr h)

module _ (p : Polynomial) (nonzero : T (not (is_zero_of p))) where
  -- Such a list has at most as many members as the degree says, ..
  pub found-length : {P : ℤ → Type 0} {l : List ℤ} → Found p P l → length l < length p
  found-length {l} c = omega (arith, degree-inside p nonzero, roots-at-most-degree l p nonzero (ascending-distinct c.ascending) root)
    where
      root : (z : ℤ) → Mem z l → eval p z ≡ pos 0
      root z m = c.sound z (place l m)

  -- .. and is the list of the roots once P holds of each.
  found_all : {P : ℤ → Type 0} {l : List ℤ} → Found p P l → ((z : ℤ) → eval p z ≡ pos 0 → P z) → l ≡ roots p
  found_all {l} c h =
      ascending-unique l (roots p) c.ascending (roots-ascending p nonzero)
      (λ z m. place (roots p) (roots-complete p z nonzero (c.sound z m)))
      (λ z m. let e = roots-sound p (∣ m ∣₁) in c.complete z e (h z e))

-- The array f holds a list, and that list, ascending, only roots of p, among them every root with the property P.
pub record Holds (p : Polynomial) (P : ℤ → Type 0) (f : RootList) : Type 0 where
  pub exact : f ≡ listed (held f)
  pub found : Found p P (held f)

pub holds-list : {f : RootList} (l : List ℤ) {p : Polynomial} {P : ℤ → Type 0} → f ≡ listed l → Found p P l → Holds p P f
holds-list l e c = record { exact = listed-held l e; found = rw (held_of l e) c }

abbrev pub OnlyRoots : Polynomial → RootList → Type 0
OnlyRoots p f = Holds p (λ _. ⊥) f

-- The integers of size below n that are, in size, d times a divisor of the product of l.
abbrev pub Candidate : ℕ → ℕ → List ℕ → ℤ → Type 0
Candidate n d l z = (nat_abs z < n) × (e : ℕ) × (nat_abs z ≡ d * e) × (e ∣ product l)

-- g holds what f holds and the roots among the candidates.
pub record Tried (p : Polynomial) (n d : ℕ) (l : List ℕ) (f g : RootList) : Type 0 where
  pub holds : Holds p (λ z. Candidate n d l z ⊎ Memᴰ z (held f)) g

holds_more : {p : Polynomial} {P Q : ℤ → Type 0} {f : RootList} → ((z : ℤ) → eval p z ≡ pos 0 → Q z → P z) → Holds p P f → Holds p Q f
holds_more step h = record { exact = h.exact; found = found-more step h.found }

pub only-roots : {p : Polynomial} {P : ℤ → Type 0} {f : RootList} → Holds p P f → OnlyRoots p f
only-roots h = holds_more (λ z e b. absurd b) h

pub tried-only : {p : Polynomial} {n d : ℕ} {l : List ℕ} {f g : RootList} → Tried p n d l f g → OnlyRoots p g
tried-only t = only-roots t.holds

-- 0 is the first candidate.
pub zero-tried : {f : RootList} (p : Polynomial) → f ≡ listed (try_root p (pos 0) []) → Holds p (λ z. (z ≡ pos 0) ⊎ ⊥) f
zero-tried p e = holds-list (try_root p (pos 0) []) e (found-root (pos 0) [] found_none)

module _ {p : Polynomial} {f : RootList} (only : OnlyRoots p f) where
  pub both_found : (d : ℕ) → Found p (λ z. (nat_abs z ≡ d) ⊎ Memᴰ z (held f)) (try_both p d (held f))
  both_found d =
      found-both d (held f) (record { ascending = only.found.ascending; sound = only.found.sound; complete = λ z e m. m })

  -- No factor is left.
  pub tried-none : {g : RootList} (n d : ℕ) → g ≡ listed (try_both p d (held f)) → Tried p n d [] f g
  unfolding prod
  tried-none n d e = record { holds = holds-list (try_both p d (held f)) e (found-more single (both_found d)) }
    where
      single : (z : ℤ) → eval p z ≡ pos 0 → Candidate n d [] z ⊎ Memᴰ z (held f) → (nat_abs z ≡ d) ⊎ Memᴰ z (held f)
      single z _ (inl h) = inl (h.2 ∙ ap (λ i. d * i) (eq-one_of_dvd-one h.3) ∙ mul-one d)
      single z _ (inr m) = inr m

-- The factor q: l has the others, and m those after the run of q.
module _ {n d q : ℕ} {l m : List ℕ} (positive : 0 < d) (simple : AllSimple n (q ∷ l)) (run : Run q (q ∷ l) m) where
  first-simple : Simple n q
  first-simple = simple q (Memᴰ.head refl)

  -- A divisor of the product is q times a divisor of the others' product, or divides the product without the run.
  with-or-without : (z : ℤ) → Candidate n d (q ∷ l) z → Candidate n (d * q) l z ⊎ Candidate n d m z
  with-or-without z (small, e, size, divides) = by_cases (dec_dvd q e) (λ h. inl (with-q h)) (λ h. inr (without-q h))
    where
      with-q : q ∣ e → Candidate n (d * q) l z
      with-q h =
          let exact = mul-div_cancel' q h in
          let others = subst₂ (λ i j. i ∣ j) (sym exact) (product-cons q l) divides in
          let large = first-simple.large in (
            small,
            e / q,
            size ∙ ap (λ k. d * k) (sym exact) ∙ sym (mul_assoc d q (e / q)),
            dvd_of_mul-dvd-mul_left (e / q) (omega arith) others,
          )

      without-q : (q ∣ e → ⊥) → Candidate n d m z
      without-q h =
          let some = pos_of_dvd_of_pos divides (product-positive (q ∷ l) simple) in
          let coprime = simple-coprime e first-simple some (omega (arith, le-mul_of_pos_right e positive, mul_comm e d)) h in
          (small, e, size, run-divides e coprime run divides)

  none-past : n ≤ d * q → (z : ℤ) → Candidate n (d * q) l z → ⊥
  none-past h z (small, e, size, divides) =
      let some = pos_of_dvd_of_pos divides (product-positive l (λ g k. simple g (Memᴰ.tail k))) in
      omega (arith, le-mul_of_pos_right (d * q) some)

  module _ {p : Polynomial} {f g : RootList} where
    pub tried-with : {k : RootList} → Tried p n (d * q) l f g → Tried p n d m g k → Tried p n d (q ∷ l) f k
    tried-with with-q rest = record { holds = holds_more step rest.holds }
      where
        step : (z : ℤ) → eval p z ≡ pos 0 → Candidate n d (q ∷ l) z ⊎ Memᴰ z (held f) → Candidate n d m z ⊎ Memᴰ z (held g)
        step z e (inl c) = ⊎_elim (λ h. inr (with-q.holds.found.complete z e (inl h))) inl (with-or-without z c)
        step z e (inr h) = inr (with-q.holds.found.complete z e (inr h))

    pub tried-without : n ≤ d * q → Tried p n d m f g → Tried p n d (q ∷ l) f g
    tried-without h rest = record { holds = holds_more step rest.holds }
      where
        step : (z : ℤ) → eval p z ≡ pos 0 → Candidate n d (q ∷ l) z ⊎ Memᴰ z (held f) → Candidate n d m z ⊎ Memᴰ z (held f)
        step z e (inl c) = inl (⊎_elim (λ k. absurd (none-past h z k)) (λ k. k) (with-or-without z c))
        step z e (inr k) = inr k

-- A nonzero root divides the lowest coefficient, whose factors were found.
pub all-tried : (p : Polynomial) → T (not (is_zero_of p)) → {n : ℕ} {l : List ℕ} {f g : RootList} → RootsBelow p n
    → Factored n (nat_abs (lowest p)) l → Holds p (λ z. (z ≡ pos 0) ⊎ ⊥) f → Tried p n 1 l f g → g ≡ listed (roots p)
all-tried p nonzero {n} {l} {f} below factored first tried = tried.holds.exact
    ∙ ap listed (found_all p nonzero tried.holds.found candidate)
  where
    candidate : (z : ℤ) → eval p z ≡ pos 0 → Candidate n 1 l z ⊎ Memᴰ z (held f)
    candidate z e =
        ⊎_elim (λ k. inr (first.found.complete z e (inl (nat_abs-zero k))))
        (λ k.
        let divides = root-divides-lowest p z nonzero (λ i. omega (arith, ap nat_abs i)) e in
        inl (below z e, nat_abs z, sym (one-mul (nat_abs z)), subst (λ a. nat_abs z ∣ a) (sym factored.whole) divides))
        (eq-zero-or-pos (nat_abs z))

-- ---- divisors in pairs

-- d and -d are no roots.
pub none_of : (p : Polynomial) (d : ℕ) → is_zero_ℤ (eval p (pos d)) ≡ false → is_zero_ℤ (eval p (neg_ℤ (pos d))) ≡ false
    → (z : ℤ) → eval p z ≡ pos 0 → nat_abs z ≢ d
none_of p d plus minus (pos n) root e =
    true≢false (sym (true_of _ (is_zero_ℤ-complete (eval p (pos n)) root)) ∙ ap (λ k. is_zero_ℤ (eval p (pos k))) e ∙ plus)
none_of p d plus minus (negsuc n) root e =
    true≢false (sym (true_of _ (is_zero_ℤ-complete (eval p (negsuc n)) root)) ∙ ap (λ k. is_zero_ℤ (eval p (neg_ℤ (pos k)))) e ∙ minus)

-- The integers of size below d, and those whose cofactor in a is below d.
abbrev pub Passed : ℕ → ℕ → ℤ → Type 0
Passed a d z = (nat_abs z < d) ⊎ (a / nat_abs z < d)

abbrev pub Paired : Polynomial → ℕ → ℕ → Type 0
Paired p a d = (z : ℤ) → eval p z ≡ pos 0 → Passed a d z

-- No root of p is d in size.
abbrev pub NoneOf : Polynomial → ℕ → Type 0
NoneOf p d = (z : ℤ) → eval p z ≡ pos 0 → nat_abs z ≢ d

-- From d to e no root of p is passed.
abbrev pub NothingNew : Polynomial → ℕ → ℕ → ℕ → Type 0
NothingNew p a d e = (z : ℤ) → eval p z ≡ pos 0 → Passed a e z → Passed a d z

-- A root past a gap has a cofactor of at most a / high.
pub gap-paired : (p : Polynomial) (a low k high d : ℕ) → NoneBetween p low k → NoneBetween p k high → 0 < high → low ≤ d
    → a / high < d → Paired p a d
gap-paired p a low k high d first second positive small_low small-high z root =
    by_cases (dec_le low (nat_abs z)) (λ h. by_cases (dec_le k (nat_abs z)) above (λ i. absurd (first z root h (lt_of_not-le i))))
    (λ h. inl (omega (arith, lt_of_not-le h)))
  where
    cofactor : high ≤ nat_abs z → a / nat_abs z ≤ a / high
    cofactor j = (le-div_iff_mul-le positive).1 (le_trans (mul-le-mul (le_refl (a / nat_abs z)) j) (div-mul-le_self a (nat_abs z)))

    above : k ≤ nat_abs z → Passed a d z
    above i =
        by_cases (dec_le high (nat_abs z)) (λ j. inr (omega (arith, cofactor j)))
        (λ j. absurd (second z root i (lt_of_not-le j)))

pub found-new : {p : Polynomial} {f : RootList} (a d e : ℕ) → NothingNew p a d e → Holds p (Passed a d) f → Holds p (Passed a e) f
found-new a d e new h = holds_more new h

-- One more d: those of size d, and those with the cofactor d.
passed-next : (a d : ℕ) (z : ℤ) → Passed a (d + 1) z → ((nat_abs z ≡ d) ⊎ (a / nat_abs z ≡ d)) ⊎ Passed a d z
passed-next a d z (inl h) = ⊎_elim (λ k. inl (inl k)) (λ k. inr (inl k)) (eq-or-lt_of_le (omega arith))
passed-next a d z (inr h) = ⊎_elim (λ k. inl (inr k)) (λ k. inr (inr k)) (eq-or-lt_of_le (omega arith))

-- The size a of the lowest coefficient of a nonzero polynomial.
module _ (p : Polynomial) (nonzero : T (not (is_zero_of p))) (a : ℕ) (lowest-size : a ≡ nat_abs (lowest p)) where
  -- A nonzero root times its cofactor is, in size, the lowest coefficient; the root 0 has the cofactor 0.
  module _ (z : ℤ) (root : eval p z ≡ pos 0) where
    divides : 0 < nat_abs z → nat_abs z * (a / nat_abs z) ≡ a
    divides h = rw lowest-size (mul-div_cancel' (nat_abs z) (root-divides-lowest p z nonzero (λ i. omega (arith, ap nat_abs i)) root))

    positive-root : 0 < a / nat_abs z → 0 < nat_abs z
    positive-root h =
        ⊎_elim (λ e. absurd (omega (arith, ap (λ n. a / n) e, div-zero a))) (λ k. k) (eq-zero-or-pos (nat_abs z))

    cofactor-of-cofactor : (d : ℕ) → 0 < d → a / nat_abs z ≡ d → nat_abs z ≡ a / d
    cofactor-of-cofactor d h e =
        sym (div-eq_of_eq-mul_left h (sym (divides (positive-root (omega arith))) ∙ ap (λ k. nat_abs z * k) e))

    exact : (d : ℕ) → 0 < d → (nat_abs z ≡ d) ⊎ (a / nat_abs z ≡ d) → a / d * d ≡ a
    exact d h (inl e) = subst (λ k. a / k * k ≡ a) e (mul_comm (a / nat_abs z) (nat_abs z) ∙ divides (omega arith))
    exact d h (inr e) =
        ap (λ k. k * d) (sym (cofactor-of-cofactor d h e)) ∙ ap (λ k. nat_abs z * k) (sym e)
        ∙ divides (positive-root (omega arith))

    passed_start : Passed a 1 z → (z ≡ pos 0) ⊎ ⊥
    passed_start h = ⊎_elim (λ e. inl (nat_abs-zero e)) (λ k. inr (⊎_elim (λ m. omega arith) (large k) h)) (eq-zero-or-pos (nat_abs z))
      where
        large : 0 < nat_abs z → a / nat_abs z < 1 → ⊥
        large k m =
            let none : a / nat_abs z ≡ 0 = omega arith in
            omega (arith, lowest-size, lowest-positive p nonzero, divides k, ap (λ q. nat_abs z * q) none, mul-zero (nat_abs z))

    -- Of a root and its cofactor one is at most the square root.
    passed-end : (d : ℕ) → 0 < d → a / d < d → Passed a d z
    passed-end d positive h = by_cases (dec_le d (nat_abs z)) (λ k. inr (lt_of_not-le (λ m. large k m))) (λ n. inl (lt_of_not-le n))
      where
        large : d ≤ nat_abs z → d ≤ a / nat_abs z → ⊥
        large k m = omega (arith, (le-div_iff_mul-le positive).1 (le_trans (mul-le-mul k m) (le_of_eq (divides (omega arith)))))

  pub pairs_start : Found p (Passed a 1) (try_root p (pos 0) [])
  pairs_start = found-more passed_start (found-root (pos 0) [] found_none)

  pub pairs-divisor : (d : ℕ) (l : List ℤ) → 0 < d → Found p (Passed a d) l
      → Found p (Passed a (d + 1)) (try_both p (a / d) (try_both p d l))
  pairs-divisor d l positive c = found-more (λ z e h. step z e (passed-next a d z h)) (found-both (a / d) _ (found-both d l c))
    where
      step : (z : ℤ) → eval p z ≡ pos 0 → ((nat_abs z ≡ d) ⊎ (a / nat_abs z ≡ d)) ⊎ Passed a d z
          → (nat_abs z ≡ a / d) ⊎ (nat_abs z ≡ d) ⊎ Passed a d z
      step z e (inl (inl h)) = inr (inl h)
      step z e (inl (inr h)) = inl (cofactor-of-cofactor z e d positive h)
      step z e (inr h) = inr (inr h)

  -- Where d does not divide a, and where neither d nor a / d is a root in size.
  pub pairs-other : (d : ℕ) → 0 < d → a / d * d ≢ a → NothingNew p a d (d + 1)
  pairs-other d positive n z e h = ⊎_elim (λ k. absurd (n (exact z e d positive k))) (λ k. k) (passed-next a d z h)

  pub pairs-none : (d : ℕ) → 0 < d → NoneOf p d → NoneOf p (a / d) → NothingNew p a d (d + 1)
  pairs-none d positive n m z e h =
      ⊎_elim (λ k. absurd (⊎_elim (n z e) (λ i. m z e (cofactor-of-cofactor z e d positive i)) k)) (λ k. k) (passed-next a d z h)

  -- The end at the square root, and where every root or its cofactor was passed.
  pub pairs_end : (d : ℕ) (l : List ℤ) → 0 < d → a / d < d → Found p (Passed a d) l → l ≡ roots p
  pairs_end d l positive h c = found_all p nonzero c (λ z e. passed-end z e d positive h)

  pub pairs-few : (n d : ℕ) (l : List ℤ) → Paired p a n → n ≤ d → Found p (Passed a d) l → l ≡ roots p
  pairs-few n d l paired h c =
      found_all p nonzero c (λ z e. ⊎_elim (λ k. inl (omega arith)) (λ k. inr (omega arith)) (paired z e))

-- ---- degree 1

pub nonconstant-nonzero : (p : Polynomial) → degree p ≢ 0 → T (not (is_zero_of p))
nonconstant-nonzero p h = not_T (is_zero_of p) (λ z. h (degree-is_zero p z))

module _ (p : Polynomial) (linear : degree p ≡ 1) where
  linear-nonzero : T (not (is_zero_of p))
  linear-nonzero = nonconstant-nonzero p (λ e. omega (arith, linear))

  pub linear-top : Top p 1
  linear-top = subst (Top p) linear (top-degree p linear-nonzero)

  pub linear-length : 1 < length p
  linear-length = omega (arith, linear, degree-inside p linear-nonzero)

  pub linear-positive : 0 < nat_abs (get_or p 1 (pos 0))
  linear-positive = subst (λ n. 0 < nat_abs (get_or p n (pos 0))) linear (top-positive p linear-nonzero)

  -- a + z b = 0 only for z = -(a / b).
  linear-root : (z : ℤ) → eval p z ≡ pos 0 → z ≡ neg_ℤ (quot_z (get_or p 0 (pos 0)) (get_or p 1 (pos 0)))
  unfolding eval coeff
  linear-root z root = sym (ap neg_ℤ quotient ∙ neg_ℤ-neg_ℤ z)
    where
      b : ℤ
      b = get_or p 1 (pos 0)

      value : eval (drop 1 p) z ≡ b
      value = subst (λ n. eval (drop n p) z ≡ get_or p n (pos 0)) linear (eval-top p z ∙ sym (coeff-degree p))

      split : get_or p 0 (pos 0) +ℤ z *ℤ b ≡ pos 0
      split = ap (λ v. get_or p 0 (pos 0) +ℤ z *ℤ v) (sym value)
          ∙ ap (λ q. eval q z) (sym (drop-next p 0 (pos 0) (omega (arith, linear-length)))) ∙ root

      quotient : quot_z (get_or p 0 (pos 0)) b ≡ neg_ℤ z
      quotient =
          ap (λ a. quot_z a b) (neg_ℤ-unique (get_or p 0 (pos 0)) (z *ℤ b) split ∙ sym (neg_ℤ-*ℤ z b))
          ∙ quot_z-exact (neg_ℤ z) b (λ e. omega (arith, linear-positive, ap nat_abs e))

  pub linear-tried : try_root p (neg_ℤ (quot_z (get_or p 0 (pos 0)) (get_or p 1 (pos 0)))) [] ≡ roots p
  linear-tried = found_all p linear-nonzero (found-root _ [] found_none) (λ z e. inl (linear-root z e))

-- ---- the roots of any polynomial, the largest and the smallest

pub roots-constant : (p : Polynomial) → degree p ≡ 0 → roots p ≡ []
unfolding roots degree
roots-constant [] h = refl
roots-constant (a ∷ p) h = cases (is_zero_of p) _ h
  where
    cases : (t : Bool) (l : List ℤ) → cond t 0 (suc (degree p)) ≡ 0 → cond t [] l ≡ []
    cases true l h = refl
    cases false l h = absurd (suc-ne-zero (degree p) h)

-- What holds of no roots and of the roots of a nonzero polynomial.
roots-cases : (p : Polynomial) (P : List ℤ → Type 0) → P [] → (T (not (is_zero_of p)) → P (roots p)) → P (roots p)
roots-cases p P f g = cases (is_zero_of p) (degree-is_zero p) g
  where
    cases : (t : Bool) → (T t → degree p ≡ 0) → (T (not t) → P (roots p)) → P (roots p)
    cases true h _ = subst⁻¹ P (roots-constant p (h tt)) f
    cases false _ h = h tt

pub roots-ascend : (p : Polynomial) → Ascending (roots p)
roots-ascend p = roots-cases p Ascending Pairwise.nil (roots-ascending p)

pub roots_few : (p : Polynomial) → length p ≤ 16 → length (roots p) ≤ 15
roots_few p h = roots-cases p (λ l. length l ≤ 15) zero-le few
  where
    all : T (not (is_zero_of p)) → Found p (λ _. ⊥) (roots p)
    all n = record { ascending = roots-ascending p n; sound = λ z m. roots-sound p (∣ m ∣₁); complete = λ z e b. absurd b }

    few : T (not (is_zero_of p)) → length (roots p) ≤ 15
    few n = omega (arith, found-length p n (all n))

-- The first and the last member of an ascending list are the smallest and the largest.
below-le_z : {x y : ℤ} → x <ℤ y → le_z x y ≡ true
below-le_z {x} {y} h = same_test (le_z x y) true (λ _. tt) (λ _. (<ℤ-to-≤ℤ h).le)

furthest-first : (a : ℤ) (l : List ℤ) → Ascending (a ∷ l) → furthest trailing (a ∷ l) ≡ some a
unfolding furthest
furthest-first a [] h = refl
furthest-first a (b ∷ l) h =
    ap (λ o. some (further trailing a o)) (furthest-first b l (Pairwise.of_cons h))
    ∙ ap (λ t. some (cond t a b)) (below-le_z (first_below h (Memᴰ.head refl)))

furthest-last : (a : ℤ) (l : List ℤ) → Ascending (a ∷ l) → furthest leading (a ∷ l) ≡ some (get_or (a ∷ l) (length l) (pos 0))
unfolding furthest
furthest-last a [] h = refl
furthest-last a (b ∷ l) h =
    ap (λ o. some (further leading a o)) (furthest-last b l (Pairwise.of_cons h))
    ∙ ap (λ t. some (cond t last a)) (below-le_z (first_below h (get_or-member (b ∷ l) (length l) (pos 0) (omega arith))))
  where
    last : ℤ
    last = get_or (b ∷ l) (length l) (pos 0)

-- The last member of the list of roots, and the first.
pub answered-last : (l : List ℤ) → Ascending l → slice_get l (length l - 1) ≡ answered (furthest leading l)
unfolding furthest
answered-last [] h = refl
answered-last (a ∷ l) h =
    let e : suc (length l) - 1 ≡ length l = omega arith in
    ap (slice_get (a ∷ l)) e ∙ slice_get-get_or (a ∷ l) (length l) (pos 0) (omega arith) ∙ sym (ap answered (furthest-last a l h))

pub answered-first : (l : List ℤ) → Ascending l → slice_get l 0 ≡ answered (furthest trailing l)
unfolding furthest
answered-first [] h = refl
answered-first (a ∷ l) h = sym (ap answered (furthest-first a l h))
