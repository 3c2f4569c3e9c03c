-- Rule 4's division by the content, and its limit of the degrees, on the numbers of a row.
--
-- Main definitions
--   primitive_numbers l    the numbers divided by their content; zeros are not divided
--   divided_to d l k       the first k numbers divided by d, and the others as they are
--
-- Main statements
--   primitive-divided, primitive-kept   what the numbers become, by their content
--   divided-zeros, divided-front, divided-next   the division of zeros, of a front, and part by part
--   content-take          zeros at the end do not change the content
--   content-below         the content is at most as large as the numbers
--   degree-kept           the division does not change which polynomials have degrees up to 15
--   content-cut           where all have, the row that is cut to 16 coefficients has the content of the row
--   cut-primitive         where all have, the row may be cut to 16 coefficients before the division
--   limit-past, limit-low the answer for a row whose degrees pass 15, and for one whose degrees do not
--   degrees-within        a row within both limits is within that of the coefficients
use Rattle.std.specs.Prelude.{◌≡◌, Bool, true, false, cond, ℕ, zero, suc, ◌+◌, ◌≤◌, ◌<◌, T, ℤ, pos, nat_abs, length, take, drop}
use Rattle.std.proofs.Math.Path.{refl, ap, ap₂}
use Rattle.std.proofs.Common.{sym, ◌∙◌, subst, zero-lt-suc, le_trans, arith, le→leb, leb→le, take-append-drop, take-add, take_at, drop_at, drop-drop, length-take-le}
use Rattle.std.proofs.Math.Bool.{◌&&◌}
use mathlib.Core.List.{List, [], ◌∷◌, ◌++◌, map, flatten, append_assoc, map-append}
use Rattle.std.specs.Int.{◌∣◌}
use Rattle.std.proofs.Math.Nat.{zero-div, dvd_refl, dvd_trans}
use Rattle.std.specs.Int.Signed.{quot_z}
use Rattle.algebra.specs.Gcd.{gcd, content, divide_by, gcd-zero, gcd-divides-left, gcd-divides-right, gcd-le-right, content-append}
use Rattle.algebra.specs.Division.{quot_z-le}
use Rattle.algebra.specs.Gcd.{content-zero}
use Rattle.algebra.specs.Gcd.{divides_all-of-content, is_zero-divide_by, divide_by-one, length-divide_by}
use Rattle.algebra.specs.Polynomials.{Polynomial, is_zero_of, is_zero-cons}
use Rattle.lists.specs.Tests.{T-&&, every, every_append, every-flatten}
use Rattle.polynomials.specs.Content.{Below}
use Rattle.rules.specs.Rows.{Row, map_row, coefficients_of, primitive, low_degrees, cut}
use Rattle.lists.specs.Images.{map-take, map-drop}
use Rattle.rules.specs.Limits.{bound, small, coefficient_count}
use Rattle.rules.specs.Elimination.{within, beyond, limit_coefficients, limit_degrees, consistent}
use Rattle.stores.specs.Flat.{polynomials_of, polynomials-map_row, numbers-polynomials, numbers-map_row}
use Rattle.lists.specs.Joined.{flatten-map}

-- The numbers divided by d, or as they are if d is 0.
abbrev pub divide_unless_zero : ℕ → List ℤ → List ℤ
divide_unless_zero zero l = l
divide_unless_zero (suc d) l = divide_by (suc d) l

unfoldable pub primitive_numbers : List ℤ → List ℤ
unfolding content
primitive_numbers l = divide_unless_zero (content l) l

pub primitive-divided : (l : List ℤ) → 1 < content l → primitive_numbers l ≡ divide_by (content l) l
unfolding primitive_numbers
primitive-divided l h = go (content l) h
  where
    go : (d : ℕ) → 1 < d → divide_unless_zero d l ≡ divide_by d l
    go zero h = absurd (omega arith)
    go (suc d) h = refl

-- The division makes no number larger.
divided-small : (d : ℕ) (l : List ℤ) → T (every small l) → T (every small (divide_by d l))
unfolding divide_by every small
divided-small d [] h = tt
divided-small d (a ∷ l) h =
    let both = (T-&& (small a) (every small l)).0 h in
    (T-&& (small (quot_z a (pos d))) (every small (divide_by d l))).1
    (le→leb (nat_abs (quot_z a (pos d))) bound (le_trans (quot_z-le a (pos d)) (leb→le (nat_abs a) bound both.0)), divided-small d l both.1)

pub primitive-kept : (l : List ℤ) → content l ≤ 1 → primitive_numbers l ≡ l
unfolding primitive_numbers
primitive-kept l h = go (content l) h
  where
    go : (d : ℕ) → d ≤ 1 → divide_unless_zero d l ≡ l
    go zero h = refl
    go (suc zero) h = divide_by-one l
    go (suc (suc d)) h = absurd (omega arith)

-- ---- the division, part by part

pub divided-append : (d : ℕ) (p q : List ℤ) → divide_by d (p ++ q) ≡ divide_by d p ++ divide_by d q
unfolding divide_by
divided-append d p q = map-append (λ a. quot_z a (pos d)) p q

-- Zeros stay.
pub divided-zeros : (d : ℕ) (l : List ℤ) → T (is_zero_of l) → divide_by d l ≡ l
unfolding divide_by
divided-zeros d [] z = refl
divided-zeros d (a ∷ l) z =
    let both = (is_zero-cons a l).0 z in
    ap₂ ◌∷◌ (ap (λ b. quot_z b (pos d)) both.0 ∙ ap pos (zero-div d) ∙ sym both.0) (divided-zeros d l both.1)

-- The first k numbers are divided.
abbrev pub divided_to : ℕ → List ℤ → ℕ → List ℤ
divided_to d l k = divide_by d (take k l) ++ drop k l

pub divided-front : (d : ℕ) (l : List ℤ) (k : ℕ) → T (is_zero_of (drop k l)) → divided_to d l k ≡ divide_by d l
divided-front d l k z =
    ap (λ r. divide_by d (take k l) ++ r) (sym (divided-zeros d (drop k l) z)) ∙ sym (divided-append d (take k l) (drop k l))
    ∙ ap (divide_by d) (take-append-drop k l)

-- The next w numbers are divided where they stand.
module _ (d : ℕ) (l : List ℤ) (k w : ℕ) (inside : k ≤ length l) where
  front_long : length (divide_by d (take k l)) ≡ k
  front_long = length-divide_by d (take k l) ∙ length-take-le k l inside

  pub divided-rest : drop k (divided_to d l k) ≡ drop k l
  divided-rest = drop_at (divide_by d (take k l)) (drop k l) k front_long

  pub divided-next : take k (divided_to d l k) ++ (divide_by d (take w (drop k l)) ++ drop w (drop k (divided_to d l k)))
      ≡ divided_to d l (k + w)
  divided-next =
      ap₂ (λ x y. x ++ (divide_by d (take w (drop k l)) ++ drop w y)) (take_at (divide_by d (take k l)) (drop k l) k front_long) divided-rest
      ∙ sym (append_assoc (divide_by d (take k l)) (divide_by d (take w (drop k l))) (drop w (drop k l)))
      ∙ ap₂ (λ x y. x ++ y) (sym (divided-append d (take k l) (take w (drop k l))) ∙ ap (divide_by d) (sym (take-add k w l)))
      (drop-drop w k l)

-- ---- the size of the content

gcd-below : (n a b : ℕ) → a < n → b < n → gcd a b < n
gcd-below n a zero h k = rw (gcd-zero a) h
gcd-below n a (suc b) h k = omega (arith, gcd-le-right a (suc b) (zero-lt-suc b))

pub content-below : (n : ℕ) (l : List ℤ) → 0 < n → Below n l → content l < n
unfolding content
content-below n [] m h = m
content-below n (a ∷ l) m h = gcd-below n (nat_abs a) (content l) (h 0) (content-below n l m (λ k. h (suc k)))

-- ---- divisors of joined lists

pub divides-append : (d : ℕ) (p q : List ℤ) → d ∣ content (p ++ q) → (d ∣ content p) × (d ∣ content q)
divides-append d p q h =
    let both = rw content-append at h in
    (dvd_trans d both (gcd-divides-left (content p) (content q)), dvd_trans d both (gcd-divides-right (content p) (content q)))

-- Zeros at the end do not change the content.
pub content-take : (n : ℕ) (p : Polynomial) → T (is_zero_of (drop n p)) → content (take n p) ≡ content p
content-take n p z =
    sym (ap content (sym (take-append-drop n p)) ∙ content-append (take n p) (drop n p)
    ∙ ap (gcd (content (take n p))) ((content-zero (drop n p)).1 z) ∙ gcd-zero (content (take n p)))

-- ---- the degrees

abbrev pub is_low : Polynomial → Bool
is_low p = is_zero_of (drop coefficient_count p)

pub low_degrees-every : (r : Row) → low_degrees r ≡ every is_low (polynomials_of r)
unfolding low_degrees every
low_degrees-every r =
    sym
    (every_append is_low (flatten r.blocks) (r.right ∷ [])
    ∙ ap₂ ◌&&◌ (every-flatten is_low r.blocks) (and-true (is_low r.right)))
  where
    and-true : (t : Bool) → (t && true) ≡ t
    and-true true = refl
    and-true false = refl

module _ (d : ℕ) (positive : 0 < d) where
  divided-low : (p : Polynomial) → d ∣ content p → is_low (divide_by d p) ≡ is_low p
  unfolding divide_by
  divided-low p h =
      ap is_zero_of (map-drop (λ a. quot_z a (pos d)) coefficient_count p)
      ∙ is_zero-divide_by d (drop coefficient_count p) positive
      (divides_all-of-content d (drop coefficient_count p)
      (divides-append d (take coefficient_count p) (drop coefficient_count p)
      (subst (λ q. d ∣ content q) (sym (take-append-drop coefficient_count p)) h)).1)

  pub divided-every : (ps : List Polynomial) → d ∣ content (flatten ps) → every is_low (map (divide_by d) ps) ≡ every is_low ps
  unfolding flatten every
  divided-every [] h = refl
  divided-every (p ∷ ps) h =
      let both = divides-append d p (flatten ps) h in
      ap₂ ◌&&◌ (divided-low p both.0) (divided-every ps both.1)

pub degree-kept : (r : Row) → low_degrees (primitive r) ≡ low_degrees r
unfolding primitive coefficients_of
degree-kept r = go (content (coefficients_of r)) (rw (sym (numbers-polynomials r)) (dvd_refl (content (coefficients_of r))))
  where
    go : (d : ℕ) → d ∣ content (flatten (polynomials_of r))
        → low_degrees (elim d [ zero ↦ r | suc e ↦ map_row (divide_by (suc e)) r ]) ≡ low_degrees r
    go zero h = refl
    go (suc d) h =
        low_degrees-every (map_row (divide_by (suc d)) r) ∙ ap (every is_low) (polynomials-map_row (divide_by (suc d)) r)
        ∙ divided-every (suc d) (zero-lt-suc d) (polynomials_of r) h ∙ sym (low_degrees-every r)

-- ---- the numbers after the division

-- Where all degrees are at most 15, the first 16 coefficients have the content of all.
content-low : (ps : List Polynomial) → T (every is_low ps) → content (flatten (map (take coefficient_count) ps)) ≡ content (flatten ps)
unfolding flatten every
content-low [] z = refl
content-low (p ∷ ps) z =
    let both = (T-&& (is_low p) (every is_low ps)).0 z in
    content-append (take coefficient_count p) (flatten (map (take coefficient_count) ps))
    ∙ ap₂ gcd (content-take coefficient_count p both.0) (content-low ps both.1) ∙ sym (content-append p (flatten ps))

map-divide-take : (d : ℕ) (ps : List Polynomial)
    → map (take coefficient_count) (map (divide_by d) ps) ≡ map (divide_by d) (map (take coefficient_count) ps)
unfolding divide_by
map-divide-take d [] = refl
map-divide-take d (p ∷ ps) = ap₂ ◌∷◌ (map-take (λ a. quot_z a (pos d)) coefficient_count p) (map-divide-take d ps)

numbers-cut : (r : Row) → coefficients_of (cut r) ≡ flatten (map (take coefficient_count) (polynomials_of r))
unfolding cut
numbers-cut r = numbers-map_row (take coefficient_count) r

pub cut-divided : (d : ℕ) (r : Row) → coefficients_of (cut (map_row (divide_by d) r)) ≡ divide_by d (coefficients_of (cut r))
unfolding divide_by
cut-divided d r =
    numbers-cut (map_row (divide_by d) r)
    ∙ ap flatten (ap (map (take coefficient_count)) (polynomials-map_row (divide_by d) r) ∙ map-divide-take d (polynomials_of r))
    ∙ flatten-map (λ a. quot_z a (pos d)) (map (take coefficient_count) (polynomials_of r)) ∙ ap (divide_by d) (sym (numbers-cut r))

-- Where all degrees are at most 15, the row that is cut has the content of the row.
pub content-cut : (r : Row) → T (low_degrees r) → content (coefficients_of (cut r)) ≡ content (coefficients_of r)
content-cut r low =
    ap content (numbers-cut r) ∙ content-low (polynomials_of r) (subst T (low_degrees-every r) low)
    ∙ ap content (sym (numbers-polynomials r))

pub cut-primitive : (r : Row) → T (low_degrees r) → coefficients_of (cut (primitive r)) ≡ primitive_numbers (coefficients_of (cut r))
unfolding primitive primitive_numbers coefficients_of
cut-primitive r low =
    go (content (coefficients_of r)) ∙ ap (λ d. divide_unless_zero d (coefficients_of (cut r))) (sym (content-cut r low))
  where
    go : (d : ℕ) → coefficients_of (cut (elim d [ zero ↦ r | suc e ↦ map_row (divide_by (suc e)) r ]))
        ≡ divide_unless_zero d (coefficients_of (cut r))
    go zero = refl
    go (suc d) = cut-divided (suc d) r

-- ---- the answer

pub limit-past : (r : Row) → low_degrees r ≡ false → consistent (limit_degrees (primitive r)) ≡ beyond 7
unfolding limit_degrees consistent
limit-past r e = rw (degree-kept r, e) refl

pub limit-low : (r : Row) → low_degrees r ≡ true → limit_degrees (primitive r) ≡ limit_coefficients (cut (primitive r))
unfolding limit_degrees
limit-low r e = rw (degree-kept r, e)

pub degrees-within : (q r : Row) → limit_degrees q ≡ within r → limit_coefficients (cut q) ≡ within r
unfolding limit_degrees
degrees-within q r e = go (low_degrees q) e
  where
    go : (t : Bool) → cond t (limit_coefficients (cut q)) (beyond 7) ≡ within r → limit_coefficients (cut q) ≡ within r
    go true h = h
    go false h = let impossible : ◌≡◌ {A = ℕ} 0 1 = cc in absurd (omega arith)
