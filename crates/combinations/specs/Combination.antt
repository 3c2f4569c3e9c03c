-- The combination g·p + h·q of polynomials and of rows as the code makes it.
--
-- Main definitions
--   combinations, low_numbers   the combinations of the polynomials of two lists of numbers, and the numbers of their low parts
--   few                most polynomials have no more coefficients
--   both_within_of n g h   all coefficients of both past the first n are zero
--   trim p             the coefficients of p up to the highest nonzero one
--   Shortened r p      r is a front of p with only zeros behind it
--   low_part_of p          the first 16 coefficients
--   low_sums n g p h q  the lowest coefficients of g·p + h·q, as many as it can have where g and h have n and p and q few
--
-- Main statements
--   within-next        one coefficient more of both is joined
--   worth              a coefficient that was worked out, and read again
--   combined-same      factors with the same coefficients have a combination with the same coefficients
--   shortened-trim, shortened-front, shortened-fits   what is shortened, and that it stays within the limits
--   low_part-at, low_part-take    coefficient k of the low part; the low part is the front where there are 16 coefficients
--   past-highest       what is zero past the highest power that a combination can have
--   high-free, high-found   the test of the coefficients past power 15
--   combination-at, polynomials-combination, length-combinations   the polynomials of a combination of rows
--   low-degrees           which of them have a degree past 15
--   length-low, low_part   the numbers of the low parts, and each part
--   shortened-combinations   combinations by shortened multipliers
--   zero-part          where both parts are zero, so is that of the combination
--   cut_low, StoreRow-cut   the low parts are the cut of the combination
--   combined-held      a combination within the limits is held by its numbers
--   numbers-below      the numbers of the low parts are in the range of an i64
use Rattle.std.specs.Prelude.{◌≡◌, ◌↔◌, ◌≢◌, Bool, true, false, T, eqb, ℤ, pos, nat_abs, ◌+ℤ◌, ◌*ℤ◌, take, drop, get_or}
use Rattle.std.proofs.Math.Path.{refl, sym, ap, ap₂, fun_ext}
use Rattle.std.proofs.Common.{◌∙◌, subst, not-suc-le-zero, zero-add, arith, length-take, ext_get_or, get_or-take, length-take-le, SFits, of_z, to_z}
use Rattle.std.proofs.Math.Bool.{◌&&◌, and_assoc, and_comm}
use mathlib.Core.List.{List, [], ◌∷◌, ◌++◌, map, flatten, zip_with, append-nil}
use Prim.Native.Nat.{ℕ, zero, suc, ◌+◌, ◌*◌, ◌-◌, ◌^◌, ◌≤◌, ◌<◌, max}
use Rattle.std.proofs.Math.Decide.{dec_le, dec_lt}
use Rattle.std.specs.Int.Bits.{bit_or}
use Rattle.std.proofs.Math.Dec.{lit<}
use Rattle.std.proofs.Math.ListN.{length}
use Rattle.std.proofs.lemmas.List.{length-map}
use Rattle.std.specs.Int.Signed.{mag}
use Rattle.algebra.specs.Integers.{nat_abs-+ℤ}
use Rattle.algebra.specs.Gcd.{content, divide_by, length-divide_by}
use Rattle.algebra.specs.Sums.{count_from, sum_below, length-count_from, get_or-count_from}
use Rattle.algebra.specs.Polynomials.{Polynomial, coeff, is_zero_of, degree, add, mul, is_zero-cons, is_zero-coeff}
use Rattle.lists.specs.Tests.{same_test, T-&&, true_of, false_of, every, every_take, every_drop}
use Rattle.algebra.specs.Polynomials.{coeff-is_zero}
use Rattle.algebra.specs.Polynomials.{is_zero-add, is_zero-mul-right, length-add, length-scale}
use Rattle.algebra.specs.Coefficients.{coeff-add, coeff-mul, coeff-take, coeff-drop, coeff-past-length, coeff-past-degree}
use Rattle.algebra.specs.Coefficients.{mul-within}
use Rattle.std.specs.Int.{w64}
use Rattle.polynomials.specs.Content.{Below, read_back, join-next}
use Rattle.products.specs.Product.{product-size}
use Rattle.rules.specs.Limits.{row_length, small, coefficient_count, column_count}
use Rattle.rules.specs.Rows.{Row, map_row, coefficients_of, combine, primitive, low_degrees, cut}
use Rattle.lists.specs.Everywhere.{All}
use Rattle.lists.specs.Images.{get_or_map, length-zip_with, get_or-zip_with}
use Rattle.lists.specs.Joined.{length-flatten}
use Rattle.rules.specs.Stores.{row_of, StoreRow}
use Rattle.lists.specs.Parts.{parts, parts-length, parts-width, get_or-parts, part-flatten}
use Rattle.rules.specs.Elimination.{within, limit_degrees}
use Rattle.rules.specs.Layout.{coefficients_at_of}
use Rattle.stores.specs.Flat.{part_count, parts_in, polynomials_of, polynomials-row_of, polynomials-map_row, polynomials-combine}
use Rattle.stores.specs.Flat.{numbers-map_row, length-blocks}
use Rattle.combinations.specs.Primitive.{is_low, low_degrees-every, degrees-within}
use Rattle.working_rows.specs.Worked.{Held, held, store-row}

-- ---- polynomials with the same coefficients

abbrev Same : Polynomial → Polynomial → Type 0
Same p q = (k : ℕ) → coeff p k ≡ coeff q k

mul-same : (g g' p p' : Polynomial) → Same g g' → Same p p' → Same (mul g p) (mul g' p')
mul-same g g' p p' s t k =
    coeff-mul g p k ∙ ap (sum_below (suc k)) (fun_ext (λ i. ap₂ ◌*ℤ◌ (s i) (t (k - i)))) ∙ sym (coeff-mul g' p' k)

add_same : (p p' q q' : Polynomial) → Same p p' → Same q q' → Same (add p q) (add p' q')
add_same p p' q q' s t k = coeff-add p q k ∙ ap₂ ◌+ℤ◌ (s k) (t k) ∙ sym (coeff-add p' q' k)

abbrev pub few : ℕ
few = 4

-- Have both only zeros past the first n coefficients?
abbrev pub both_within_of : ℕ → Polynomial → Polynomial → Bool
both_within_of n g h = is_zero_of (drop n g) && is_zero_of (drop n h)

-- One coefficient more of both is joined.
pub within-next : (n joined : ℕ) (g h : Polynomial) → n < length g → n < length h
    → SFits w64 (get_or g n (pos 0)) → SFits w64 (get_or h n (pos 0))
    → (eqb joined 0 && both_within_of n g h)
    ≡ (eqb (bit_or (bit_or joined (of_z w64 (get_or g n (pos 0)))) (of_z w64 (get_or h n (pos 0)))) 0 && both_within_of (n + 1) g h)
within-next n joined g h in_g in-h fit-g fit-h =
    let first = bit_or joined (of_z w64 (get_or g n (pos 0))) in
    let both = eqb (bit_or first (of_z w64 (get_or h n (pos 0)))) 0 in
    let x = is_zero_of (drop (n + 1) g) in
    let y = is_zero_of (drop (n + 1) h) in
    sym (and_assoc (eqb joined 0) (is_zero_of (drop n g)) (is_zero_of (drop n h)))
    ∙ ap (λ t. t && is_zero_of (drop n h)) (join-next joined g n in_g fit-g ∙ and_comm (eqb first 0) x)
    ∙ and_assoc x (eqb first 0) (is_zero_of (drop n h)) ∙ ap (λ t. x && t) (join-next first h n in-h fit-h)
    ∙ sym (and_assoc x both y) ∙ ap (λ t. t && y) (and_comm x both) ∙ and_assoc both x y

unfoldable pub trim : Polynomial → Polynomial
trim p = take (degree p + 1) p

pub coeff-trim : (p : Polynomial) → Same (trim p) p
unfolding trim
coeff-trim p k = cases (dec_le k (degree p))
  where
    cases : Dec (k ≤ degree p) → coeff (take (degree p + 1) p) k ≡ coeff p k
    cases (yes h) = coeff-take (degree p + 1) p k (omega arith)
    cases (no h) = coeff-past-length (take (degree p + 1) p) k (rw length-take (omega arith)) ∙ sym (coeff-past-degree p k (omega arith))

pub combined-same : (a g p s b h q t : Polynomial) → Same a g → Same p s → Same b h → Same q t
    → Same (add (mul a p) (mul b q)) (add (mul g s) (mul h t))
combined-same a g p s b h q t u v w x =
    add_same (mul a p) (mul g s) (mul b q) (mul h t) (mul-same a g p s u v) (mul-same b h q t w x)

-- A factor of a combination: from 1 to 16 coefficients, all within ±C.
abbrev pub Counted : Polynomial → Type 0
Counted p = (0 < length p) × (length p ≤ coefficient_count) × T (every small p)

-- A front r of p, which has all that is not zero.
pub record Shortened (r p : Polynomial) : Type 0 where
  pub some : 0 < length r
  pub few : length r ≤ length p
  pub same : Same r p
  pub within : T (every small p) → T (every small r)

pub shortened-fits : (r p : Polynomial) → Shortened r p → Counted p → Counted r
shortened-fits r p s h = (s.some, omega (arith, s.few, h.1), s.within h.2)

pub shortened-trim : (p r : Polynomial) → 0 < length p → r ≡ trim p → Shortened r p
unfolding trim
shortened-trim p r some e = record {
  some = rw (e, length-take) (omega (arith, some));
  few = rw (e, length-take) (omega arith);
  same = λ k. ap (λ s. coeff s k) e ∙ coeff-trim p k;
  within = λ h. rw e (every_take small (degree p + 1) p h);
}

-- The first n coefficients, where those behind are zero.
pub shortened-front : (p r : Polynomial) (n : ℕ) → 0 < n → n ≤ length p → r ≡ take n p → T (is_zero_of (drop n p)) → Shortened r p
shortened-front p r n some few e z = record {
  some = rw (e, length-take) (omega arith);
  few = rw (e, length-take) (omega arith);
  same = λ k. ap (λ s. coeff s k) e ∙ cases k (dec_lt k n);
  within = λ h. rw e (every_take small n p h);
}
  where
    cases : (k : ℕ) → Dec (k < n) → coeff (take n p) k ≡ coeff p k
    cases k (yes m) = coeff-take n p k m
    cases k (no m) =
        let place : n + (k - n) ≡ k = omega arith in
        coeff-past-length (take n p) k (rw length-take (omega arith))
        ∙ sym (ap (coeff p) (sym place) ∙ sym (coeff-drop n p (k - n)) ∙ is_zero-coeff (drop n p) z (k - n))

-- ---- the coefficients up to power 15 and those past it

-- A coefficient that was worked out, and read again.
pub worth : {a b : ℤ} → mag a < 2 ^ 63 → a ≡ b → to_z w64 (of_z w64 a) ≡ b
worth {a} h e = read_back a h ∙ e

unfoldable pub low_part_of : Polynomial → List ℤ
low_part_of p = map (coeff p) (count_from 0 coefficient_count)

abbrev pub low_sums : ℕ → Polynomial → Polynomial → Polynomial → Polynomial → List ℤ
low_sums n g p h q = take (n + few - 1) (low_part_of (add (mul g p) (mul h q)))

pub length-low_part : (p : Polynomial) → length (low_part_of p) ≡ coefficient_count
unfolding low_part_of
length-low_part p = length-map (count_from 0 coefficient_count) (coeff p) ∙ length-count_from 0 coefficient_count

pub low_part-at : (p : Polynomial) (k : ℕ) → k < coefficient_count → get_or (low_part_of p) k (pos 0) ≡ coeff p k
unfolding low_part_of
low_part-at p k h =
    get_or_map (coeff p) (count_from 0 coefficient_count) k 0 (pos 0) (rw length-count_from h)
    ∙ ap (coeff p) (get_or-count_from 0 coefficient_count k 0 h ∙ zero-add k)

pub low_part-same : (p q : Polynomial) → Same p q → low_part_of p ≡ low_part_of q
unfolding low_part_of
low_part-same p q s = ap (λ f. map f (count_from 0 coefficient_count)) (fun_ext s)

-- Where there are 16 coefficients, they are these.
pub low_part-take : (p : Polynomial) → coefficient_count ≤ length p → low_part_of p ≡ take coefficient_count p
unfolding coeff
low_part-take p h =
    ext_get_or (pos 0) (low_part_of p) (take coefficient_count p) (length-low_part p ∙ sym (length-take-le coefficient_count p h))
    (λ i l. let below : i < coefficient_count = omega (arith, length-low_part p) in low_part-at p i below
    ∙ sym (get_or-take coefficient_count p i (pos 0) below))

map-zero : {A : Type 0} (f : A → ℤ) → ((x : A) → f x ≡ pos 0) → (l : List A) → T (is_zero_of (map f l))
unfolding is_zero_of
map-zero f h [] = tt
map-zero f h (x ∷ l) = (is_zero-cons (f x) (map f l)).1 (h x, map-zero f h l)

pub low_part-zero : (p : Polynomial) → T (is_zero_of p) → T (is_zero_of (low_part_of p))
unfolding low_part_of
low_part-zero p z = map-zero (coeff p) (is_zero-coeff p z) (count_from 0 coefficient_count)

-- No coefficient past power 15 is left.
pub high_zero : (p : Polynomial) → T (is_zero_of (drop coefficient_count p)) ↔ ((k : ℕ) → coefficient_count ≤ k → coeff p k ≡ pos 0)
high_zero p = (forth, back)
  where
    forth : T (is_zero_of (drop coefficient_count p)) → (k : ℕ) → coefficient_count ≤ k → coeff p k ≡ pos 0
    forth z k h =
        let place : coefficient_count + (k - coefficient_count) ≡ k = omega arith in
        ap (coeff p) (sym place) ∙ sym (coeff-drop coefficient_count p (k - coefficient_count))
        ∙ is_zero-coeff (drop coefficient_count p) z (k - coefficient_count)

    back : ((k : ℕ) → coefficient_count ≤ k → coeff p k ≡ pos 0) → T (is_zero_of (drop coefficient_count p))
    back h = coeff-is_zero (drop coefficient_count p) (λ k. coeff-drop coefficient_count p k ∙ h (coefficient_count + k) (omega arith))

pub high_same : (p q : Polynomial) → Same p q → is_zero_of (drop coefficient_count p) ≡ is_zero_of (drop coefficient_count q)
high_same p q s = same_test (is_zero_of (drop coefficient_count p)) (is_zero_of (drop coefficient_count q))
    (λ z. (high_zero q).1 (λ k h. sym (s k) ∙ (high_zero p).0 z k h))
    (λ z. (high_zero p).1 (λ k h. s k ∙ (high_zero q).0 z k h))

-- The highest power that g·p + h·q can have, by the numbers of coefficients.
abbrev pub highest : Polynomial → Polynomial → Polynomial → Polynomial → ℕ
highest g p h q = max (length g + length p) (length h + length q) - 2

-- The loop over the coefficients k from power 16 on, up to that power.
module _ (g p h q : Polynomial) where
  abbrev sum : Polynomial
  sum = add (mul g p) (mul h q)

  pub past-highest : Counted g × Counted p × Counted h × Counted q → (k : ℕ) → highest g p h q < k → coeff sum k ≡ pos 0
  past-highest c k l =
      coeff-add (mul g p) (mul h q) k
      ∙ ap₂ ◌+ℤ◌
      (mul-within g p (length g - 1) (length p - 1) (λ i m. coeff-past-length g i (omega arith))
      (λ i m. coeff-past-length p i (omega arith)) k (omega arith))
      (mul-within h q (length h - 1) (length q - 1) (λ i m. coeff-past-length h i (omega arith))
      (λ i m. coeff-past-length q i (omega arith)) k (omega arith))

  pub high-free : Counted g × Counted p × Counted h × Counted q → (k : ℕ) → highest g p h q < k
      → ((j : ℕ) → j < k → coefficient_count ≤ j → coeff sum j ≡ pos 0)
      → is_zero_of (drop coefficient_count sum) ≡ true
  high-free c k l e = true_of _ ((high_zero sum).1 (λ j h. cases j h (dec_lt j k)))
    where
      cases : (j : ℕ) → coefficient_count ≤ j → Dec (j < k) → coeff sum j ≡ pos 0
      cases j h (yes m) = e j m h
      cases j h (no m) = past-highest c j (omega arith)

  pub high-found : (k : ℕ) → coefficient_count ≤ k → coeff sum k ≢ pos 0 → is_zero_of (drop coefficient_count sum) ≡ false
  high-found k l n = false_of _ (λ z. n ((high_zero sum).0 z k l))

-- ---- lengths and sizes

-- A product has at least the coefficients of its second factor, if there is a first.
length-mul-right : (g p : Polynomial) → 0 < length g → length p ≤ length (mul g p)
unfolding mul
length-mul-right [] p h = absurd (not-suc-le-zero h)
length-mul-right (a ∷ g) p h = rw (length-add, length-scale) (omega arith)

-- Polynomials of 16 coefficients have combinations of at least as many.
long-sums : (g h : Polynomial) → 0 < length g → (ps qs : List Polynomial) → All (λ p. length p ≡ coefficient_count) ps
    → All (λ p. coefficient_count ≤ length p) (zip_with (λ p q. add (mul g p) (mul h q)) ps qs)
unfolding zip_with All
long-sums g h some [] qs w = tt
long-sums g h some (p ∷ ps) [] w = tt
long-sums g h some (p ∷ ps) (q ∷ qs) w = (long w.0, long-sums g h some ps qs w.1)
  where
    long : length p ≡ coefficient_count → coefficient_count ≤ length (add (mul g p) (mul h q))
    long e = rw length-add (omega (arith, length-mul-right g p some))

low-front : (ps : List Polynomial) → All (λ p. coefficient_count ≤ length p) ps → map low_part_of ps ≡ map (take coefficient_count) ps
unfolding All
low-front [] w = refl
low-front (p ∷ ps) w = ap₂ ◌∷◌ (low_part-take p w.0) (low-front ps w.1)

-- A map that keeps lengths, and then the front.
front-width : (f : Polynomial → Polynomial) → ((p : Polynomial) → length (f p) ≡ length p) → (ps : List Polynomial)
    → All (λ p. coefficient_count ≤ length p) ps → All (λ p. length p ≡ coefficient_count) (map (take coefficient_count) (map f ps))
unfolding All
front-width f e [] w = tt
front-width f e (p ∷ ps) w = (length-take-le coefficient_count (f p) (rw e w.0), front-width f e ps w.1)

pub below-append : (n : ℕ) (l m : List ℤ) → Below n l → Below n m → Below n (l ++ m)
below-append n [] m h k i = k i
below-append n (a ∷ l) m h k zero = h 0
below-append n (a ∷ l) m h k (suc i) = below-append n l m (λ j. h (suc j)) k i

below-map : {A : Type 0} (n : ℕ) → 0 < n → (f : A → ℤ) → ((x : A) → nat_abs (f x) < n) → (l : List A) → Below n (map f l)
below-map n some f h [] k = some
below-map n some f h (x ∷ l) zero = h x
below-map n some f h (x ∷ l) (suc k) = below-map n some f h l k

small-parts : (n : ℕ) (l : List ℤ) → T (every small l) → All (λ p. T (every small p)) (parts coefficient_count n l)
unfolding parts All
small-parts zero l s = tt
small-parts (suc n) l s =
    (every_take small coefficient_count l s, small-parts n (drop coefficient_count l) (every_drop small coefficient_count l s))

module _ (g h : Polynomial) (short-g : length g ≤ coefficient_count) (short-h : length h ≤ coefficient_count) (small-g : T (every small g))
    (small-h : T (every small h)) where
  -- |coefficient| ≤ 32·C² < 2^63
  coefficient-below : (p q : Polynomial) → T (every small p) → T (every small q) → (k : ℕ)
      → nat_abs (coeff (add (mul g p) (mul h q)) k) < 2 ^ 63
  coefficient-below p q s t k =
      rw coeff-add
      (omega (
        arith,
        nat_abs-+ℤ (coeff (mul g p) k) (coeff (mul h q) k),
        product-size g p small-g s k coefficient_count short-g,
        product-size h q small-h t k coefficient_count short-h,
      ))

  low_below : (ps qs : List Polynomial) → All (λ p. T (every small p)) ps → All (λ p. T (every small p)) qs
      → Below (2 ^ 63) (flatten (map low_part_of (zip_with (λ p q. add (mul g p) (mul h q)) ps qs)))
  unfolding zip_with All flatten low_part_of
  low_below [] qs s t k = lit< tt
  low_below (p ∷ ps) [] s t k = lit< tt
  low_below (p ∷ ps) (q ∷ qs) s t k =
      below-append (2 ^ 63) (low_part_of (add (mul g p) (mul h q))) (flatten (map low_part_of (zip_with (λ p q. add (mul g p) (mul h q)) ps qs)))
      (below-map (2 ^ 63) (lit< tt) (coeff (add (mul g p) (mul h q))) (coefficient-below p q s.0 t.0) (count_from 0 coefficient_count))
      (low_below ps qs s.1 t.1) k

-- ---- combinations of the polynomials that numbers hold

-- The combinations of the first k polynomials of two lists of numbers.
unfoldable pub combinations : ℕ → Polynomial → Polynomial → List ℤ → List ℤ → List Polynomial
unfolding zip_with parts
combinations k g h t u = zip_with (λ p q. add (mul g p) (mul h q)) (parts coefficient_count k t) (parts coefficient_count k u)

-- Combinations by shortened multipliers have the same degrees up to 15 and the same low parts.
module _ (a g b h : Polynomial) (x : Shortened a g) (y : Shortened b h) where
  same-sums : (ps qs : List Polynomial) → let s = zip_with (λ p q. add (mul a p) (mul b q)) ps qs in
      let t = zip_with (λ p q. add (mul g p) (mul h q)) ps qs in
      (every is_low s ≡ every is_low t) × (map low_part_of s ≡ map low_part_of t)
  unfolding zip_with every
  same-sums [] qs = (refl, refl)
  same-sums (p ∷ ps) [] = (refl, refl)
  same-sums (p ∷ ps) (q ∷ qs) =
      let one = combined-same a g p p b h q q x.same (λ k. refl) y.same (λ k. refl) in
      let others = same-sums ps qs in (
        ap₂ ◌&&◌ (high_same (add (mul a p) (mul b q)) (add (mul g p) (mul h q)) one) others.0,
        ap₂ ◌∷◌ (low_part-same (add (mul a p) (mul b q)) (add (mul g p) (mul h q)) one) others.1,
      )

  pub shortened-combinations : (k : ℕ) (t u : List ℤ)
      → (every is_low (combinations k a b t u) ≡ every is_low (combinations k g h t u))
      × (map low_part_of (combinations k a b t u) ≡ map low_part_of (combinations k g h t u))
  unfolding combinations
  shortened-combinations k t u = same-sums (parts coefficient_count k t) (parts coefficient_count k u)

low-width : (ps : List Polynomial) → All (λ p. length p ≡ coefficient_count) (map low_part_of ps)
unfolding All
low-width [] = tt
low-width (p ∷ ps) = (length-low_part p, low-width ps)

-- The low parts of these combinations, end to end.
abbrev pub low_numbers : ℕ → Polynomial → Polynomial → List ℤ → List ℤ → List ℤ
low_numbers k g h t u = flatten (map low_part_of (combinations k g h t u))

module _ (k : ℕ) (g h : Polynomial) (t u : List ℤ) where
  -- The polynomial at place e.
  abbrev entry_at : ℕ → Polynomial
  entry_at e = add (mul g (coefficients_at_of t e)) (mul h (coefficients_at_of u e))

  pub length-combinations : length (combinations k g h t u) ≡ k
  unfolding combinations
  length-combinations =
      length-zip_with (λ p q. add (mul g p) (mul h q)) (parts coefficient_count k t) (parts coefficient_count k u)
      (parts-length coefficient_count k t ∙ sym (parts-length coefficient_count k u))
      ∙ parts-length coefficient_count k t

  pub combination-at : (e : ℕ) → e < k → get_or (combinations k g h t u) e [] ≡ entry_at e
  unfolding combinations
  combination-at e l =
      get_or-zip_with (λ p q. add (mul g p) (mul h q)) (parts coefficient_count k t) (parts coefficient_count k u) e [] [] []
      (rw parts-length l) (rw parts-length l)
      ∙ ap₂ (λ p q. add (mul g p) (mul h q)) (get_or-parts coefficient_count k t e l) (get_or-parts coefficient_count k u e l)

  pub length-low : length (low_numbers k g h t u) ≡ k * coefficient_count
  length-low =
      length-flatten coefficient_count (map low_part_of (combinations k g h t u)) (low-width (combinations k g h t u))
      ∙ ap (λ n. n * coefficient_count) (length-map (combinations k g h t u) low_part_of ∙ length-combinations)

  pub low_part : (e : ℕ) → e < k → coefficients_at_of (low_numbers k g h t u) e ≡ low_part_of (entry_at e)
  low_part e l =
      ap (λ r. coefficients_at_of r e) (sym (append-nil (low_numbers k g h t u)))
      ∙ part-flatten coefficient_count k (map low_part_of (combinations k g h t u)) []
      (length-map (combinations k g h t u) low_part_of ∙ length-combinations)
      (low-width (combinations k g h t u)) e l
      ∙ get_or_map low_part_of (combinations k g h t u) e [] [] (rw length-combinations l)
      ∙ ap low_part_of (combination-at e l)

  -- Where both parts at place e are zero, so is the polynomial.
  module _ (e : ℕ) (l : e < k) (z : (is_zero_of (coefficients_at_of t e) && is_zero_of (coefficients_at_of u e)) ≡ true) where
    sum-zero : T (is_zero_of (entry_at e))
    sum-zero =
        let both = (T-&& (is_zero_of (coefficients_at_of t e)) (is_zero_of (coefficients_at_of u e))).0 (subst T (sym z) tt) in
        is_zero-add (mul g (coefficients_at_of t e)) (mul h (coefficients_at_of u e))
        (is_zero-mul-right g (coefficients_at_of t e) both.0) (is_zero-mul-right h (coefficients_at_of u e) both.1)

    pub zero-part : T (is_zero_of (coefficients_at_of (low_numbers k g h t u) e))
    zero-part = subst (λ r. T (is_zero_of r)) (sym (low_part e l)) (low_part-zero (entry_at e) sum-zero)

-- ---- combinations of rows

columns : (l : List ℤ) → All (λ b. length b ≡ column_count) (row_of l).blocks
unfolding row_of All
columns l = (refl, (refl, (refl, (refl, (refl, tt)))))

module _ (g h : Polynomial) (t u : List ℤ) where
  abbrev combination : Row
  combination = combine g h (row_of t) (row_of u)

  pub polynomials-combination : polynomials_of combination ≡ combinations part_count g h t u
  unfolding combinations
  polynomials-combination =
      polynomials-combine g h column_count (row_of t) (row_of u) (length-blocks t ∙ sym (length-blocks u)) (columns t) (columns u)
      ∙ ap₂ (zip_with (λ p q. add (mul g p) (mul h q))) (polynomials-row_of t) (polynomials-row_of u)

  pub low-degrees : low_degrees combination ≡ every is_low (combinations part_count g h t u)
  low-degrees = low_degrees-every combination ∙ ap (every is_low) polynomials-combination

  numbers-low : coefficients_of (map_row low_part_of combination) ≡ low_numbers part_count g h t u
  numbers-low = numbers-map_row low_part_of combination ∙ ap (λ ps. flatten (map low_part_of ps)) polynomials-combination

  -- ---- the whole row

  module _ (some : 0 < length g) (long : length t ≡ row_length) where
    long-combinations : All (λ p. coefficient_count ≤ length p) (combinations part_count g h t u)
    unfolding combinations
    long-combinations =
        long-sums g h some (parts_in t) (parts_in u) (parts-width coefficient_count part_count t (omega arith))

    pub cut_low : coefficients_of (cut combination) ≡ low_numbers part_count g h t u
    unfolding cut
    cut_low =
        numbers-map_row (take coefficient_count) combination
        ∙ ap (λ ps. flatten (map (take coefficient_count) ps)) polynomials-combination
        ∙ ap flatten (sym (low-front (combinations part_count g h t u) long-combinations))

    -- The row divided by d, cut to 16 coefficients.
    pub StoreRow-cut : (f : Polynomial → Polynomial) → ((p : Polynomial) → length (f p) ≡ length p) → StoreRow (cut (map_row f combination))
    unfolding cut map_row combine row_of zip_with All
    StoreRow-cut f e =
        store-row (cut (map_row f combination)) refl (refl, (refl, (refl, (refl, (refl, tt)))))
        (subst (All (λ p. length p ≡ coefficient_count))
        (sym (polynomials-map_row (take coefficient_count) (map_row f combination)
        ∙ ap (map (take coefficient_count)) (polynomials-map_row f combination ∙ ap (map f) polynomials-combination)))
        (front-width f e (combinations part_count g h t u) long-combinations))

    pub StoreRow-primitive : StoreRow (cut (primitive combination))
    unfolding primitive map_row combine row_of zip_with
    StoreRow-primitive = go (content (coefficients_of combination))
      where
        go : (d : ℕ) → StoreRow (cut (elim d [ zero ↦ combination | suc e ↦ map_row (divide_by (suc e)) combination ]))
        go zero = StoreRow-cut (λ p. p) (λ p. refl)
        go (suc d) = StoreRow-cut (divide_by (suc d)) (length-divide_by (suc d))

    -- A combination within the limits is held by its numbers.
    pub combined-held : (r : Row) → limit_degrees (primitive combination) ≡ within r → Held r
    combined-held r e = held (cut (primitive combination)) r StoreRow-primitive (degrees-within (primitive combination) r e)

  pub numbers-below : (k : ℕ) → (length g ≤ coefficient_count) × (length h ≤ coefficient_count) × T (every small g) × T (every small h)
      × T (every small t) × T (every small u)
      → Below (2 ^ 63) (low_numbers k g h t u)
  unfolding combinations
  numbers-below k s =
      low_below g h s.0 s.1 s.2 s.3 (parts coefficient_count k t) (parts coefficient_count k u) (small-parts k t s.4)
      (small-parts k u s.5)
