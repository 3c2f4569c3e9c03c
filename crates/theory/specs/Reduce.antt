-- What follows a combination: division by a common divisor of all coefficients, and the cut to 16 coefficients.
--
-- Main statements
--   primitive-divides        `primitive` divides by a positive common divisor of all coefficients
--   value-divided            d times the value after division by d is the value before
--   value-primitive          so a positive number times the value after division by the content is the value before
--   value-cut                the cut keeps the value where the degrees are at most 15
--   divided-zero, primitive-zero, cut-zero   zero cells stay zero
--   primitive-shaped, cut-shaped       the shape after each
use Rattle.std.specs.Prelude.{◌≡◌, refl, ℕ, zero, suc, ◌≤◌, ◌<◌, T, take, drop, ℤ, pos, ◌+ℤ◌, ◌*ℤ◌, ◌-ℤ◌}
use Rattle.std.proofs.Common.{sym, ◌∙◌, ap, subst, ap₂, zero-lt-suc, take-append-drop, length-take-le}
use Rattle.std.proofs.Math.Nat.{one-dvd, dvd-zero, zero-div}
use mathlib.Core.List.{map, flatten, ◌++◌}
use Rattle.std.specs.Float.Ieee.Fits.{and_l}
use Rattle.std.specs.Int.Signed.{quot_z}
use Rattle.algebra.specs.Division.{DividesZ}
use Rattle.algebra.specs.Gcd.{content, divide_by, DividesAll, content-divides, length-divide_by, divide_by-one, divide_by-get_or, eval-divide_by}
use Rattle.algebra.specs.Polynomials.{Polynomial, coeff, eval, is_zero_of, is_zero-append, is_zero-coeff, coeff-is_zero, eval-take}
use Rattle.rules.specs.Limits.{coefficient_count}
use Rattle.rules.specs.Rows.{Block, Row, map_row, coefficients_of, primitive, low_degrees, cut}
use Rattle.lists.specs.Everywhere.{All, all-mono, all-all-mono, all-always, all-get_or-default, get_or-all, all-of-flatten, all-front, all_back}
use Rattle.algebra.specs.Integers.{ringℤ}
use Rattle.lists.specs.Tests.{every, all-of-every, T-&&}
use Rattle.lists.specs.Images.{map_same}
use Rattle.rules.specs.Stores.{Shaped}
use Rattle.rules.specs.Sequences.{Sequence, value_of, left_value}
use Rattle.theory.specs.Cells.{ZeroWhere, map_row-zero}
use Rattle.theory.specs.Shapes.{map_row-shaped}
use Rattle.theory.specs.Values.{blocks-map, blocks-same}

-- ---- division

map_row-same : (f : Polynomial → Polynomial) → ((p : Polynomial) → f p ≡ p) → (r : Row) → map_row f r ≡ r
unfolding map_row
map_row-same f h r =
    ap₂ (λ bs q. record { blocks = bs; right = q }) (map_same (map f) r.blocks (all-always (λ b. map f b ≡ b) same r.blocks))
    (h r.right)
  where
    same : (b : Block) → map f b ≡ b
    same b = map_same f b (all-always (λ p. f p ≡ p) h b)

-- A zero row is not divided: it is divided by 1.
pub primitive-divides : (r : Row) → (d : ℕ) × (0 < d) × DividesAll d (coefficients_of r) × (primitive r ≡ map_row (divide_by d) r)
unfolding primitive
primitive-divides r = go (content (coefficients_of r)) (content-divides (coefficients_of r))
  where
    go : (c : ℕ) → DividesAll c (coefficients_of r)
        → (d : ℕ) × (0 < d) × DividesAll d (coefficients_of r)
        × (◌≡◌ {A = Row} (elim c [ zero ↦ r | suc e ↦ map_row (divide_by (suc e)) r ]) (map_row (divide_by d) r))
    go zero h = (1, zero-lt-suc 0, λ k. one-dvd _, sym (map_row-same (divide_by 1) divide_by-one r))
    go (suc e) h = (suc e, zero-lt-suc e, h, refl)

-- A common divisor of all coefficients of a row divides those of each polynomial.
divides_all-parts : (d : ℕ) (r : Row) → DividesAll d (coefficients_of r)
    → All (All (DividesAll d)) r.blocks × DividesAll d r.right
unfolding coefficients_of
divides_all-parts d r h = (
  all-all-mono (All (DividesZ d)) (DividesAll d) coefficients r.blocks
      (all-of-flatten (All (DividesZ d)) r.blocks
      (all-of-flatten (DividesZ d) (flatten r.blocks) (all-front (DividesZ d) (flatten (flatten r.blocks)) r.right whole))),
  coefficients r.right (all_back (DividesZ d) (flatten (flatten r.blocks)) r.right whole),
)
  where
    coefficients : (p : Polynomial) → All (DividesZ d) p → DividesAll d p
    coefficients p a k = all-get_or-default (DividesZ d) p (pos 0) k (dvd-zero d) a

    whole : All (DividesZ d) (flatten (flatten r.blocks) ++ r.right)
    whole = get_or-all (DividesZ d) _ (pos 0) (λ k _. h k)

pub value-divided : (d : ℕ) (l : ℤ) (r : Row) (z : Sequence) (n : ℤ) → DividesAll d (coefficients_of r)
    → pos d *ℤ value_of l (map_row (divide_by d) r) z n ≡ value_of l r z n
unfolding value_of map_row
value-divided d l r z n h =
    let parts = divides_all-parts d r h in
    spread (left_value l (map_row (divide_by d) r) z n) (eval (divide_by d r.right) n)
    ∙ ap₂ ◌-ℤ◌
    (blocks-map (divide_by d) (pos d) n n z (n +ℤ l) r.blocks
    (all-all-mono (DividesAll d) (λ p. pos d *ℤ eval (divide_by d p) n ≡ eval p n) (λ p e. eval-divide_by d p n e) r.blocks parts.0))
    (eval-divide_by d r.right n parts.1)
  where
    spread : (a b : ℤ) → pos d *ℤ (a -ℤ b) ≡ pos d *ℤ a -ℤ pos d *ℤ b
    spread a b = simp ringℤ

-- Division by the content: one number for all sequences and all n.
pub value-primitive : (r : Row)
    → (d : ℕ) × (0 < d) × ((l : ℤ) (z : Sequence) (n : ℤ) → pos d *ℤ value_of l (primitive r) z n ≡ value_of l r z n)
value-primitive r =
    let (d, positive, divides, same) = primitive-divides r in
    (d, positive, λ l z n. ap (λ q. pos d *ℤ value_of l q z n) same ∙ value-divided d l r z n divides)

divide_by-zero : (d : ℕ) (p : Polynomial) → T (is_zero_of p) → T (is_zero_of (divide_by d p))
unfolding coeff
divide_by-zero d p h = coeff-is_zero (divide_by d p)
    (λ k. divide_by-get_or d p k ∙ ap (λ a. quot_z a (pos d)) (is_zero-coeff p h k) ∙ ap pos (zero-div d))

pub divided-zero : (d : ℕ) (r : Row) → ZeroWhere r (map_row (divide_by d) r)
unfolding divide_by
divided-zero d r = map_row-zero (divide_by d) refl (divide_by-zero d) r

pub primitive-zero : (r : Row) → ZeroWhere r (primitive r)
primitive-zero r = let (d, positive, divides, same) = primitive-divides r in subst (ZeroWhere r) (sym same) (divided-zero d r)

pub primitive-shaped : (b c k : ℕ) (r : Row) → Shaped b c k r → Shaped b c k (primitive r)
primitive-shaped b c k r h = let d = primitive-divides r in
    subst (Shaped b c k) (sym d.3) (map_row-shaped (divide_by d.0) k k (λ p e. length-divide_by d.0 p ∙ e) b c r h)

-- ---- the cut

low_degrees-parts : (r : Row) → T (low_degrees r)
    → All (All (λ p. T (is_zero_of (drop coefficient_count p)))) r.blocks × T (is_zero_of (drop coefficient_count r.right))
unfolding low_degrees
low_degrees-parts r h =
    let both = (T-&& (every (every (λ p. is_zero_of (drop coefficient_count p))) r.blocks) (is_zero_of (drop coefficient_count r.right))).0 h in (
      all-mono (λ b. T (every (λ p. is_zero_of (drop coefficient_count p)) b)) (All (λ p. T (is_zero_of (drop coefficient_count p))))
          (all-of-every (λ p. is_zero_of (drop coefficient_count p))) r.blocks
          (all-of-every (every (λ p. is_zero_of (drop coefficient_count p))) r.blocks both.0),
      both.1,
    )

pub value-cut : (l : ℤ) (r : Row) (z : Sequence) (n : ℤ) → T (low_degrees r) → value_of l (cut r) z n ≡ value_of l r z n
unfolding value_of cut
value-cut l r z n h =
    let low = low_degrees-parts r h in
    ap₂ ◌-ℤ◌
    (blocks-same (take coefficient_count) r z n n (n +ℤ l)
    (all-all-mono (λ p. T (is_zero_of (drop coefficient_count p))) (λ p. eval (take coefficient_count p) n ≡ eval p n)
    (λ p e. eval-take coefficient_count p n e) r.blocks low.0))
    (eval-take coefficient_count r.right n low.1)

take-zero : (n : ℕ) (p : Polynomial) → T (is_zero_of p) → T (is_zero_of (take n p))
take-zero n p h =
    and_l (is_zero_of (take n p)) (is_zero_of (drop n p)) (subst T (is_zero-append (take n p) (drop n p)) (rw (take-append-drop n p) h))

pub cut-zero : (r : Row) → ZeroWhere r (cut r)
unfolding cut
cut-zero r = map_row-zero (take coefficient_count) refl (take-zero coefficient_count) r

pub cut-shaped : (b c k : ℕ) (r : Row) → coefficient_count ≤ k → Shaped b c k r → Shaped b c coefficient_count (cut r)
unfolding cut
cut-shaped b c k r n h =
    map_row-shaped (take coefficient_count) k coefficient_count
    (λ p e. length-take-le coefficient_count p (subst (λ l. coefficient_count ≤ l) (sym e) n)) b c r h
