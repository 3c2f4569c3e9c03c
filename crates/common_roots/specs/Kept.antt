-- Those of a polynomial's roots that are left when it is divided, each with how often it occurs, without a second search.
--
-- Main definitions
--   occurs x              is the number beside x not 0?
--
-- Main statements
--   length-keep           no more members are kept than there are
--   few-kept, kept-yes, kept-no   one pair more of a list that is sifted into arrays
--   occurring-times       of numbers with how often each occurs, those that occur are those at which the polynomial vanishes
--   roots-among           the roots of a polynomial whose roots are some of another one's
--   roots-reduced         dividing by common roots leaves those of the pivot's roots at which the rest still vanishes
--   roots-ratio, roots_with-ratio   dividing by the content and turning the signs changes no root, nor how often it occurs
use Rattle.std.specs.Prelude.{ℕ, suc, ◌+◌, ◌-◌, ◌≤◌, ◌<◌, ◌≡◌, refl, ◌↔◌, ◌≢◌, Bool, true, false, not, cond, T, ltb, ℤ, pos, neg_ℤ, nat_abs, ◌*ℤ◌, length, get_or, take, set, replicate}
use Rattle.std.proofs.Common.{zero-le, sym, ◌∙◌, ap₂, subst, ⊎_elim, le_trans, le_of_eq, zero-add, add-one, arith, le→leb, length-append, take-suc, length-take-le}
use Rattle.std.proofs.Math.Path.{ap}
use mathlib.Core.List.{List, [], ◌∷◌, ◌++◌, map, append-nil, map-append, map_congr_left, Mem}
use Rattle.std.proofs.Math.IntN.{*ℤ-zero, neg_ℤ-neg_ℤ}
use Rattle.std.specs.Int.Signed.{lt_z}
use Rattle.std.proofs.lemmas.List.{length-map}
use Rattle.std.proofs.Math.Seq.{append_snoc, set-append_seam}
use Rattle.algebra.specs.Integers.{ringℤ, no-zero-divisors}
use Rattle.algebra.specs.Gcd.{content, divide_by, DividesAll, content-pos, content-append, gcd-divides-left}
use Rattle.algebra.specs.Gcd.{divides_all-of-content, eval-divide_by, is_zero-divide_by}
use Rattle.algebra.specs.Multiplicity.{multiplicity, multiplicity-occurs, occurs-none, occurs-mul, occurs-same, occurs-unique}
use Rattle.algebra.specs.Polynomials.{Polynomial, eval, is_zero_of, negate, lead, eval_mul, is_zero_ℤ-iff, is_zero-negate, eval-negate}
use Rattle.algebra.specs.Coefficients.{degree-is_zero}
use Rattle.algebra.specs.Roots.{roots, place, roots-sound, roots-complete, roots-ascending}
use Rattle.lists.specs.Sifted.{keep, mem-keep, keep-pairwise}
use Rattle.lists.specs.Tests.{true-T, true_of}
use Rattle.rules.specs.CommonRoots.{Entries, reduced}
use Rattle.rules.specs.Elimination.{Multipliers, turn_signs_of, ratio, roots_with_of}
use Rattle.theory.specs.Reduced.{reduced-divides, reduced-nonzero}
use Rattle.roots.specs.Ascending.{Ascending, ascending-unique}
use Rattle.roots.specs.RootSearch.{roots-constant}
use Rattle.multiplicities.specs.declared.RootsWith.{RootsWith}
use Rattle.multiplicities.specs.Counts.{root_of, no_root, listed_with, times_in}
use Rattle.common_roots.specs.Divisions.{vanishes_at}
use Rattle.common_roots.specs.DividedTimes.{vanishes-count}

-- ---- a list sifted into an array

keep_append : {A : Type 0} (t : A → Bool) (l m : List A) → keep t (l ++ m) ≡ keep t l ++ keep t m
unfolding keep
keep_append t [] m = refl
keep_append t (x ∷ l) m = ap (λ k. cond (t x) (x ∷ k) k) (keep_append t l m) ∙ cases (t x)
  where
    cases : (b : Bool) → cond b (x ∷ (keep t l ++ keep t m)) (keep t l ++ keep t m) ≡ cond b (x ∷ keep t l) (keep t l) ++ keep t m
    cases true = refl
    cases false = refl

pub length-keep : {A : Type 0} (t : A → Bool) (l : List A) → length (keep t l) ≤ length l
unfolding keep
length-keep t [] = zero-le
length-keep {A} t (x ∷ l) = cases (t x) (keep t l) (length-keep t l)
  where
    cases : (b : Bool) (k : List A) → length k ≤ length l → length (cond b (x ∷ k) k) ≤ suc (length l)
    cases true k h = omega arith
    cases false k h = omega arith

pub keep-map : {A B : Type 0} (f : A → B) (t : B → Bool) (s : A → Bool) → ((x : A) → s x ≡ t (f x)) → (l : List A)
    → keep t (map f l) ≡ map f (keep s l)
unfolding keep
keep-map f t s same [] = refl
keep-map {A} f t s same (x ∷ l) =
    ap₂ (λ b k. cond b (f x ∷ k) k) (sym (same x)) (keep-map f t s same l) ∙ cases (s x) (keep s l)
  where
    cases : (b : Bool) (k : List A) → cond b (f x ∷ map f k) (map f k) ≡ map f (cond b (x ∷ k) k)
    cases true k = refl
    cases false k = refl

-- One pair more behind the listed ones.
abbrev longer : ℤ × ℕ → RootsWith → RootsWith
longer x w = record { count = w.count + 1; roots = set w.roots w.count (root_of x) }

module _ {w : RootsWith} (l : List (ℤ × ℕ)) (x : ℤ × ℕ) (h : length l < 16) (e : w ≡ listed_with l) where
  size : length (l ++ (x ∷ [])) ≡ length l + 1
  size = length-append l (x ∷ [])

  filled : set (map root_of l ++ replicate (16 - length l) no_root) (length l) (root_of x)
      ≡ map root_of (l ++ (x ∷ [])) ++ replicate (16 - length (l ++ (x ∷ []))) no_root
  filled =
      let room : 16 - length l ≡ suc (16 - length (l ++ (x ∷ []))) = omega (arith, size) in
      let rest = replicate (16 - length (l ++ (x ∷ []))) no_root in
      ap₂ (λ n k. set (map root_of l ++ replicate n no_root) k (root_of x)) room (sym (length-map l root_of))
      ∙ set-append_seam (map root_of l) no_root rest (root_of x) ∙ sym (append_snoc (map root_of l) (root_of x) rest)
      ∙ ap (λ m. m ++ rest) (sym (map-append root_of l (x ∷ [])))

  listed-longer : longer x w ≡ listed_with (l ++ (x ∷ []))
  listed-longer = ap (longer x) e ∙ ap₂ (λ n v. record { count = n; roots = v }) (sym size) filled

-- A number occurs where its count is not 0.
abbrev pub occurs : ℤ × ℕ → Bool
occurs x = ltb 0 x.1

-- The first i pairs of l are sifted, and pair i comes next.
module _ (l : List (ℤ × ℕ)) (i : ℕ) (inside : i < length l) where
  abbrev x : ℤ × ℕ
  x = get_or l i (pos 0, 0)

  next : keep occurs (take (i + 1) l) ≡ keep occurs (take i l) ++ cond (occurs x) (x ∷ []) []
  unfolding keep
  next =
      ap (λ n. keep occurs (take n l)) (add-one i) ∙ ap (keep occurs) (take-suc l i (pos 0, 0) inside)
      ∙ keep_append occurs (take i l) (x ∷ [])

  pub few-kept : length (keep occurs (take i l)) ≤ i
  few-kept = le_trans (length-keep occurs (take i l)) (le_of_eq (length-take-le i l (omega arith)))

  pub kept-yes : {w : RootsWith} → i < 16 → w ≡ listed_with (keep occurs (take i l)) → 0 < x.1
      → longer x w ≡ listed_with (keep occurs (take (i + 1) l))
  kept-yes h e y =
      let yes = true_of (occurs x) (le→leb 1 x.1 y) in
      listed-longer (keep occurs (take i l)) x (omega (arith, few-kept)) e
      ∙ ap listed_with (sym (next ∙ ap (λ b. keep occurs (take i l) ++ cond b (x ∷ []) []) yes))

  pub kept-no : {w : RootsWith} → w ≡ listed_with (keep occurs (take i l)) → x.1 ≡ 0 → w ≡ listed_with (keep occurs (take (i + 1) l))
  kept-no e n =
      let same = next ∙ ap (λ m. keep occurs (take i l) ++ cond (ltb 0 m) (x ∷ []) []) n ∙ append-nil (keep occurs (take i l)) in
      e ∙ ap listed_with (sym same)

-- Those that occur are those at which the polynomial vanishes.
pub occurring-times : (p : Polynomial) (rs : List ℤ) → 0 < length p → keep occurs (times_in p rs) ≡ times_in p (keep (vanishes_at p) rs)
occurring-times p rs h = keep-map (λ r. (r, multiplicity p r)) occurs (vanishes_at p) (λ r. vanishes-count p r h) rs

-- ---- the roots

-- An ascending list of all the roots.
roots-are : (p : Polynomial) (l : List ℤ) → T (not (is_zero_of p)) → Ascending l → ((z : ℤ) → Mem z l ↔ (eval p z ≡ pos 0)) → roots p ≡ l
roots-are p l n a all =
    ascending-unique (roots p) l (roots-ascending p n) a (λ z m. place l ((all z).1 (roots-sound p (∣ m ∣₁))))
    (λ z m. place (roots p) (roots-complete p z n ((all z).0 (∣ m ∣₁))))

-- The roots of q are those of p at which q vanishes, if every root of q is one of p.
pub roots-among : (p q : Polynomial) → T (not (is_zero_of p)) → T (not (is_zero_of q)) → ((z : ℤ) → eval q z ≡ pos 0 → eval p z ≡ pos 0)
    → roots q ≡ keep (vanishes_at q) (roots p)
roots-among p q n m only =
    roots-are q (keep (vanishes_at q) (roots p)) m (keep-pairwise (vanishes_at q) (roots-ascending p n))
    (λ z. (
      λ k. (is_zero_ℤ-iff (eval q z)).0 ((mem-keep (vanishes_at q) (roots p)).0 k).1,
      λ e. (mem-keep (vanishes_at q) (roots p)).1 (roots-complete p z n (only z e), (is_zero_ℤ-iff (eval q z)).1 e),
    ))

pub roots-reduced : (e : Entries) → T (not (is_zero_of e.pivot))
    → roots (reduced e).pivot ≡ keep (vanishes_at (reduced e).pivot) (roots e.pivot)
roots-reduced e n = roots-among e.pivot (reduced e).pivot n (reduced-nonzero e n) only
  where
    only : (z : ℤ) → eval (reduced e).pivot z ≡ pos 0 → eval e.pivot z ≡ pos 0
    only z root =
        let d = reduced-divides e in
        d.pivots z ∙ ap (λ x. eval d.factor z *ℤ x) root ∙ *ℤ-zero (eval d.factor z)

-- Polynomials that are zero together and vanish together have the same roots.
roots-same : (p q : Polynomial) → is_zero_of q ≡ is_zero_of p → ((z : ℤ) → (eval q z ≡ pos 0) ↔ (eval p z ≡ pos 0)) → roots q ≡ roots p
roots-same p q zeros same = cases (is_zero_of p) refl
  where
    cases : (t : Bool) → is_zero_of p ≡ t → roots q ≡ roots p
    cases true e =
        roots-constant q (degree-is_zero q (true-T (is_zero_of q) (zeros ∙ e))) ∙ sym (roots-constant p (degree-is_zero p (true-T (is_zero_of p) e)))
    cases false e =
        let nonzero : T (not (is_zero_of p)) = subst (λ t. T (not t)) (sym e) tt in
        roots-are q (roots p) (subst (λ t. T (not t)) (sym (zeros ∙ e)) tt) (roots-ascending p nonzero)
        (λ z. (λ m. (same z).1 (roots-sound p m), λ root. roots-complete p z nonzero ((same z).0 root)))

-- A number that is not 0 times a polynomial has the multiplicities of the polynomial.
times-same : (c : ℤ) (p q : Polynomial) → c ≢ pos 0 → T (not (is_zero_of p)) → T (not (is_zero_of q))
    → ((x : ℤ) → eval p x ≡ c *ℤ eval q x) → (r : ℤ) → multiplicity p r ≡ multiplicity q r
unfolding eval
times-same c p q apart n m same r =
    occurs-unique (multiplicity-occurs p r n)
    (occurs-same (λ x. same x ∙ ap (λ a. a *ℤ eval q x) (sym (constant x)) ∙ sym (eval_mul (c ∷ []) q x))
    (occurs-mul (occurs-none (c ∷ []) r (λ e. apart (sym (constant r) ∙ e))) (multiplicity-occurs q r m)))
    ∙ zero-add (multiplicity q r)
  where
    constant : (x : ℤ) → eval (c ∷ []) x ≡ c
    constant x = simp ringℤ

negated-roots : (p : Polynomial) → roots (negate p) ≡ roots p
negated-roots p = roots-same p (negate p) (is_zero-negate p) (λ z. (
  λ e. sym (neg_ℤ-neg_ℤ (eval p z)) ∙ ap neg_ℤ (sym (eval-negate p z) ∙ e),
  λ e. eval-negate p z ∙ ap neg_ℤ e,
))

-- g is a divided by the positive content of a and b, or the negative of that.
module _ (a b : Polynomial) (nonzero : T (not (is_zero_of (a ++ b)))) where
  d : ℕ
  d = content (a ++ b)

  divides : DividesAll d a
  unfolding d
  divides = divides_all-of-content d a (rw (content-append a b) (gcd-divides-left (content a) (content b)))

  positive : 0 < d
  unfolding d
  positive = content-pos (a ++ b) nonzero

  divided-roots : roots (divide_by d a) ≡ roots a
  divided-roots = roots-same a (divide_by d a) (is_zero-divide_by d a positive divides) same
    where
      same : (z : ℤ) → (eval (divide_by d a) z ≡ pos 0) ↔ (eval a z ≡ pos 0)
      same z =
          let whole = eval-divide_by d a z divides in (
            λ e. sym whole ∙ ap (λ x. pos d *ℤ x) e ∙ *ℤ-zero (pos d),
            λ e. ⊎_elim (λ k. absurd (omega (arith, positive, ap nat_abs k))) (λ k. k)
                (no-zero-divisors (pos d) (eval (divide_by d a) z) (whole ∙ e)),
          )

  pub roots-ratio : roots (ratio a b).g ≡ roots a
  unfolding ratio turn_signs_of d
  roots-ratio = cases (lt_z (lead (divide_by d a)) (pos 0))
    where
      h : Polynomial
      h = negate (divide_by d b)

      cases : (t : Bool) → let x : Multipliers =
          cond t (record { g = negate (divide_by d a); h = negate h }) (record { g = divide_by d a; h = h }) in roots x.g ≡ roots a
      cases true = negated-roots (divide_by d a) ∙ divided-roots
      cases false = divided-roots

  module _ (some : T (not (is_zero_of a))) where
    divided-nonzero : T (not (is_zero_of (divide_by d a)))
    divided-nonzero = subst (λ t. T (not t)) (sym (is_zero-divide_by d a positive divides)) some

    divided-times : (r : ℤ) → multiplicity (divide_by d a) r ≡ multiplicity a r
    divided-times r =
        sym (times-same (pos d) a (divide_by d a) (λ e. absurd (omega (arith, positive, ap nat_abs e))) some divided-nonzero
        (λ x. sym (eval-divide_by d a x divides)) r)

    negated-times : (r : ℤ) → multiplicity (negate (divide_by d a)) r ≡ multiplicity a r
    negated-times r =
        times-same (neg_ℤ (pos 1)) (negate (divide_by d a)) (divide_by d a)
        (λ e. let z : ◌≡◌ {A = ℕ} 1 0 = ap nat_abs e in absurd (omega arith))
        (subst (λ t. T (not t)) (sym (is_zero-negate (divide_by d a))) divided-nonzero) divided-nonzero
        (λ x. eval-negate (divide_by d a) x ∙ minus (eval (divide_by d a) x)) r
        ∙ divided-times r
      where
        minus : (v : ℤ) → neg_ℤ v ≡ neg_ℤ (pos 1) *ℤ v
        minus v = simp ringℤ

    times-ratio : (r : ℤ) → multiplicity (ratio a b).g r ≡ multiplicity a r
    unfolding ratio turn_signs_of d
    times-ratio r = cases (lt_z (lead (divide_by d a)) (pos 0))
      where
        h : Polynomial
        h = negate (divide_by d b)

        cases : (t : Bool) → let x : Multipliers =
            cond t (record { g = negate (divide_by d a); h = negate h }) (record { g = divide_by d a; h = h }) in
            multiplicity x.g r ≡ multiplicity a r
        cases true = negated-times r
        cases false = divided-times r

    pub roots_with-ratio : roots_with_of (ratio a b).g ≡ roots_with_of a
    unfolding roots_with_of
    roots_with-ratio = map_congr_left {l = roots (ratio a b).g} (λ r m. ap (λ n. (r, n)) (times-ratio r)) ∙ ap (times_in a) roots-ratio
