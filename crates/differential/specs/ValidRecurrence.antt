-- The recurrence of a differential sheet is a valid system: no run refuses its sizes or its numbers.
--
-- Main definitions
--   most_rising, term_bound   no coefficient of (n - j + 1)..(n - j + k) is above 3 in size; none of a term's polynomial
--                           is above the second
--   Held m D B bs           the blocks of a row while terms are added: full, within ±B, and zero at unused places
--
-- Main statements
--   term-bounded            the coefficients of one term
--   term-held, terms-held   adding a term, or several, raises the bound by so much for each
--   row-valid               the row of an equation is as a store holds it and passes the check of its numbers
--   recurrence-valid        so does the recurrence
use Prim.Native.Nat.{ℕ, zero, suc, ◌+◌, ◌*◌, ◌≤◌, ◌<◌, max, pred, zero-le, suc-le-suc}
use Rattle.std.proofs.Common.{le_trans, mul-le-mul, sym, ◌∙◌, ap₂, leb→le, length-set, drop-set-lt}
use native.Mathlib.Omega.{arith}
use Rattle.std.specs.Prelude.{◌≡◌, refl, ◌&&◌, get_or, set, drop, replicate, ℤ, pos, neg_ℤ, nat_abs, ◌+ℤ◌, ◌-ℤ◌, ◌*ℤ◌}
use Rattle.std.proofs.Math.Path.{ap, subst}
use mathlib.Core.List.{List, [], ◌∷◌, map}
use Rattle.std.proofs.Math.Dec.{T, leb, le→leb}
use Rattle.std.proofs.Math.ListN.{length}
use Rattle.std.proofs.lemmas.List.{length-map}
use Rattle.std.proofs.Math.IntN.{neg_ℤ-neg_ℤ}
use Rattle.std.specs.Int.Signed.{le_z}
use Rattle.algebra.specs.Integers.{nat_abs-+ℤ, nat_abs-*ℤ}
use Rattle.algebra.specs.Polynomials.{Polynomial, is_zero_of, add, scale, length-add}
use Rattle.lists.specs.Everywhere.{All, all-mono, all_both, all_set, all_get_or, all_replicate, map-keeps}
use Rattle.lists.specs.Padded.{all-pad_to}
use Rattle.lists.specs.Tests.{T-&&, every, every-of-all, all-of-every, every_drop}
use Rattle.rules.specs.Limits.{bound, small, coefficient_count, column_count, most_equations, block_count, most_span, block_bound}
use Rattle.rules.specs.Rows.{Block, Row, zero_block, small_row}
use Rattle.rules.specs.Sheets.{blank_row}
use Rattle.rules.specs.Stores.{Sizes, equations, span, sizes_right_of, count_right, unused_zero_of, row_right_of}
use Rattle.rules.specs.Stores.{Shaped, StoreRow, Valid}
use Rattle.theory.specs.LimitsKept.{Small, small_row-iff, row_right-iff}
use Rattle.differential.specs.Differential.{DifferentialTerm, DifferentialSheet, ValidTerm, ValidDifferential}
use Rattle.differential.specs.Differential.{most_derivative, most_power, most_terms_of, factor_bound}
use Rattle.differential.specs.Recurrence.{rising, term_polynomial, place_of, add_term_of, add_terms, recurrence_row}
use Rattle.differential.specs.Recurrence.{recurrence_sizes, recurrence_of}
use Rattle.differential.specs.Terms.{FullPolynomial, FullBlock, length-term_polynomial, place-used, place_inside}
use Rattle.differential.specs.Terms.{column-used, column-inside, add_terms-right}

-- ---- numbers up to 2, one by one

pub up-to-two : (P : ℕ → Type 0) → P 0 → P 1 → P 2 → (n : ℕ) → n ≤ 2 → P n
up-to-two P a b c zero h = a
up-to-two P a b c (suc zero) h = b
up-to-two P a b c (suc (suc zero)) h = c
up-to-two P a b c (suc (suc (suc n))) h = absurd (omega arith)

-- ---- the coefficients of a term's polynomial

abbrev pub Within : ℕ → ℤ → Type 0
Within B a = nat_abs a ≤ B

abbrev pub most_rising : ℕ
most_rising = 3

abbrev pub term_bound : ℕ
term_bound = factor_bound * most_rising

abbrev RisingTest : ℕ → ℕ → Type 0
RisingTest k j = T (every (λ a. leb (nat_abs a) most_rising) (rising (neg_ℤ (pos j)) k))

-- One computed test for each k and j.
rising-tests : (k : ℕ) → k ≤ most_derivative → (j : ℕ) → j ≤ most_power → RisingTest k j
unfolding every rising
rising-tests = up-to-two (λ k. (j : ℕ) → j ≤ most_power → RisingTest k j)
    (up-to-two (RisingTest 0) tt tt tt)
    (up-to-two (RisingTest 1) tt tt tt)
    (up-to-two (RisingTest 2) tt tt tt)

rising-within : (j k : ℕ) → j ≤ most_power → k ≤ most_derivative → All (Within most_rising) (rising (neg_ℤ (pos j)) k)
rising-within j k h i =
    all-mono (λ a. T (leb (nat_abs a) most_rising)) (Within most_rising) (λ a. leb→le (nat_abs a) most_rising) _
    (all-of-every (λ a. leb (nat_abs a) most_rising) (rising (neg_ℤ (pos j)) k) (rising-tests k i j h))

scale-within : (a : ℤ) (A B : ℕ) (p : Polynomial) → Within A a → All (Within B) p → All (Within (A * B)) (scale a p)
unfolding scale
scale-within a A B p h all =
    map-keeps (Within B) (Within (A * B)) (λ x. a *ℤ x) (λ x i. rw (nat_abs-*ℤ a x) (mul-le-mul h i)) p all

pub term-bounded : (t : DifferentialTerm) → t.derivative ≤ most_derivative → t.power ≤ most_power
    → nat_abs t.factor ≤ factor_bound → All (Within term_bound) (term_polynomial t)
unfolding term_polynomial
term-bounded t h i f = all-pad_to (Within term_bound) coefficient_count (pos 0) _ zero-le
    (scale-within t.factor factor_bound most_rising _ f (rising-within t.power t.derivative i h))

pub add-within : (A B : ℕ) (p q : Polynomial) → All (Within A) p → All (Within B) q → All (Within (A + B)) (add p q)
unfolding add All
add-within A B [] q a b = all-mono (Within B) (Within (A + B)) (λ x h. omega arith) q b
add-within A B (x ∷ p) [] a b = all-mono (Within A) (Within (A + B)) (λ x h. omega arith) (x ∷ p) a
add-within A B (x ∷ p) (y ∷ q) a b = (omega (arith, nat_abs-+ℤ x y, a.0, b.0), add-within A B p q a.1 b.1)

-- ---- a row while terms are added

abbrev BoundedPolynomial : ℕ → Polynomial → Type 0
BoundedPolynomial B p = FullPolynomial p × All (Within B) p

abbrev BoundedBlock : ℕ → ℕ → Block → Type 0
BoundedBlock m B b = (length b ≡ column_count) × All (BoundedPolynomial B) b × T (zero_block (drop m b))

pub record Held (m D B : ℕ) (bs : List Block) : Type 0 where
  pub count : length bs ≡ block_count
  pub each : All (BoundedBlock m B) bs
  pub below : T (every zero_block (drop (suc D) bs))

polynomial-weakens : (A B : ℕ) (p : Polynomial) → BoundedPolynomial A p → BoundedPolynomial (A + B) p
polynomial-weakens A B p h = (h.0, all-mono (Within A) (Within (A + B)) (λ x i. omega arith) p h.1)

block-weakens : (m A B : ℕ) (b : Block) → BoundedBlock m A b → BoundedBlock m (A + B) b
block-weakens m A B b h =
    (h.0, all-mono (BoundedPolynomial A) (BoundedPolynomial (A + B)) (polynomial-weakens A B) b h.1, h.2)

-- A polynomial added at a used place.
held-added : (m D A B i c : ℕ) (q : Polynomial) (bs : List Block) → i ≤ D → i < block_count → c < m → c < column_count
    → BoundedPolynomial B q → Held m D A bs
    → Held m D (A + B) (set bs i (set (get_or bs i []) c (add (get_or (get_or bs i []) c []) q)))
held-added m D A B i c q bs used inside column column-inside h held =
    record {
      count = length-set bs i _ ∙ held.count;
      each = all_set (BoundedBlock m (A + B)) bs i _ block
          (all-mono (BoundedBlock m A) (BoundedBlock m (A + B)) (block-weakens m A B) bs held.each);
      below = rw (drop-set-lt (suc D) bs i _ (suc-le-suc used)) held.below;
    }
  where
    old : Block
    old = get_or bs i []

    held-old : BoundedBlock m A old
    held-old = all_get_or (BoundedBlock m A) bs [] i (rw held.count inside) held.each

    p : Polynomial
    p = get_or old c []

    held-p : BoundedPolynomial A p
    held-p = all_get_or (BoundedPolynomial A) old [] c (rw held-old.0 column-inside) held-old.1

    sum : BoundedPolynomial (A + B) (add p q)
    sum = (length-add p q ∙ ap₂ max held-p.0 h.0, add-within A B p q held-p.1 h.1)

    block : BoundedBlock m (A + B) (set old c (add p q))
    block = (
      length-set old c (add p q) ∙ held-old.0,
      all_set (BoundedPolynomial (A + B)) old c (add p q) sum (block-weakens m A B old held-old).1,
      rw (drop-set-lt m old c (add p q) column) held-old.2,
    )

blank-held : (m D : ℕ) → Held m D 0 blank_row.blocks
unfolding blank_row zero_block every
blank-held m D =
    record {
      count = refl;
      each = all_replicate (BoundedBlock m 0) block_count block (
        refl,
        all_replicate (BoundedPolynomial 0) column_count zeros
            (refl, all_replicate (Within 0) coefficient_count (pos 0) zero-le),
        every_drop is_zero_of m block tt,
      );
      below = every_drop zero_block (suc D) (replicate block_count block) tt;
    }
  where
    zeros : Polynomial
    zeros = replicate coefficient_count (pos 0)

    block : Block
    block = replicate column_count zeros

-- Such a row is as a store holds it, and its numbers pass the check, if the bound is not above C.
module _ (z : Sizes) (B : ℕ) (fits : B ≤ bound) (r : Row) (held : Held z.m (span z) B r.blocks)
    (side : r.right ≡ blank_row.right) where
  held-shaped : StoreRow r
  unfolding Shaped blank_row
  held-shaped = (held.count, all-mono (BoundedBlock z.m B) FullBlock block r.blocks held.each, ap length side)
    where
      block : (b : Block) → BoundedBlock z.m B b → FullBlock b
      block b h = (h.0, all-mono (BoundedPolynomial B) FullPolynomial (λ p i. i.0) b h.1)

  held_small : T (small_row r)
  unfolding small blank_row
  held_small = (small_row-iff r).1 (
    all-mono (BoundedBlock z.m B) (All (All Small)) block r.blocks held.each,
    subst (All Small) (sym side) (all_replicate Small coefficient_count (pos 0) tt),
  )
    where
      polynomial : (p : Polynomial) → BoundedPolynomial B p → All Small p
      polynomial p h = all-mono (Within B) Small (λ a i. le→leb (nat_abs a) bound (le_trans i fits)) p h.1

      block : (b : Block) → BoundedBlock z.m B b → All (All Small) b
      block b h = all-mono (BoundedPolynomial B) (All Small) polynomial b h.1

  held-unused : T (unused_zero_of z.m (span z) r)
  unfolding unused_zero_of
  held-unused = (T-&& (every (λ b. zero_block (drop z.m b)) r.blocks) _).1 (
    every-of-all (λ b. zero_block (drop z.m b)) r.blocks
        (all-mono (BoundedBlock z.m B) (λ b. T (zero_block (drop z.m b))) (λ b h. h.2) r.blocks held.each),
    held.below,
  )

  held-right : StoreRow r × T (row_right_of z r)
  held-right = (held-shaped, (row_right-iff z r).1 (held_small, held-unused))

pub recurrence-span : (m n K J : ℕ) → span (recurrence_sizes m n K J) ≡ K + J
unfolding span
recurrence-span m n K J = ap (λ x. nat_abs (pos K +ℤ x)) (neg_ℤ-neg_ℤ (pos J))

-- The ranges of l, t and D, for each K and J.
abbrev BlocksRight : ℕ → ℕ → Type 0
BlocksRight K J =
    T (le_z (neg_ℤ (pos block_bound)) (neg_ℤ (pos J)) && le_z (neg_ℤ (pos J)) (pos K) && le_z (pos K) (pos block_bound)
    && le_z (pos K -ℤ neg_ℤ (pos J)) (pos most_span))

blocks-right : (K : ℕ) → K ≤ most_derivative → (J : ℕ) → J ≤ most_power → BlocksRight K J
blocks-right = up-to-two (λ K. (J : ℕ) → J ≤ most_power → BlocksRight K J)
    (up-to-two (BlocksRight 0) tt tt tt)
    (up-to-two (BlocksRight 1) tt tt tt)
    (up-to-two (BlocksRight 2) tt tt tt)

module _ (m K J : ℕ) (columns : m ≤ column_count) (orders : K ≤ most_derivative) (powers : J ≤ most_power) where
  pub term-held : (t : DifferentialTerm) → ValidTerm m K J t → (B : ℕ) (r : Row) → Held m (K + J) B r.blocks
      → Held m (K + J) (B + term_bound) (add_term_of K t r).blocks
  unfolding add_term_of
  term-held t valid B r held =
      held-added m (K + J) B term_bound (place_of K t) (pred t.column) (term_polynomial t) r.blocks
      (place-used columns orders powers valid) (place_inside columns orders powers valid)
      (column-used columns orders powers valid) (column-inside columns orders powers valid)
      (length-term_polynomial t, bounded) held
    where
      bounded : All (Within term_bound) (term_polynomial t)
      bounded =
          term-bounded t (omega (arith, valid.derivative-most)) (omega (arith, valid.power-most)) valid.factor-most

  pub terms-held : (ts : List DifferentialTerm) → All (ValidTerm m K J) ts → (B : ℕ) (r : Row)
      → Held m (K + J) B r.blocks → Held m (K + J) (B + length ts * term_bound) (add_terms K r ts).blocks
  unfolding add_terms All
  terms-held [] a B r held = subst (λ b. Held m (K + J) b r.blocks) none held
    where
      none : B ≡ B + 0 * term_bound
      none = omega arith
  terms-held (t ∷ ts) a B r held =
      subst (λ b. Held m (K + J) b (add_terms K (add_term_of K t r) ts).blocks) more
      (terms-held ts a.1 (B + term_bound) (add_term_of K t r) (term-held t a.0 B r held))
    where
      more : B + term_bound + length ts * term_bound ≡ B + suc (length ts) * term_bound
      more = omega arith

  -- So many terms stay within ±C.
  few-terms : (k : ℕ) → k ≤ most_terms_of m K J → 0 + k * term_bound ≤ bound
  few-terms k h = omega (arith, most)
    where
      most : k ≤ most_terms_of column_count most_derivative most_power
      most = le_trans h (mul-le-mul (mul-le-mul columns (suc-le-suc orders)) (suc-le-suc powers))

  pub row-valid : (ts : List DifferentialTerm) → All (ValidTerm m K J) ts → length ts ≤ most_terms_of m K J
      → (n : ℕ) → StoreRow (recurrence_row K ts) × T (row_right_of (recurrence_sizes m n K J) (recurrence_row K ts))
  unfolding recurrence_row
  row-valid ts a h n =
      held-right (recurrence_sizes m n K J) (0 + length ts * term_bound) (few-terms (length ts) h) (add_terms K blank_row ts)
      (subst (λ D. Held m D (0 + length ts * term_bound) (add_terms K blank_row ts).blocks) (sym (recurrence-span m n K J))
      (terms-held ts a 0 blank_row (blank-held m (K + J))))
      (add_terms-right K ts blank_row)

  sizes-right : (n : ℕ) → n ≤ most_equations → 1 ≤ m → T (sizes_right_of (recurrence_sizes m n K J))
  unfolding sizes_right_of equations
  sizes-right n few some = (T-&& (leb 1 m && leb m column_count && leb n most_equations) _).1 (
    (T-&& (leb 1 m && leb m column_count) (leb n most_equations)).1
        ((T-&& (leb 1 m) (leb m column_count)).1 (le→leb 1 m some, le→leb m column_count columns), le→leb n most_equations few),
    blocks-right K orders J powers,
  )

-- No check of a call refuses the recurrence (SCOPE 10.24).
pub recurrence-valid : (d : DifferentialSheet) → ValidDifferential d
    → Valid (recurrence_of d).sizes (recurrence_of d).rows (recurrence_of d).relations
unfolding recurrence_of count_right All every equations
recurrence-valid d valid =
    record {
      sizes = sizes-right m K J valid.unknowns-most valid.order-most valid.degree-most n valid.equations-most
          valid.unknowns-least;
      row_count = length-map d.equations (recurrence_row K);
      row-shapes = map-keeps EquationRight StoreRow (recurrence_row K) (λ ts h. (row ts h).0) d.equations right;
      rows_right = every-of-all (row_right_of (recurrence_sizes m n K J)) (map (recurrence_row K) d.equations)
          (map-keeps EquationRight (λ r. T (row_right_of (recurrence_sizes m n K J) r)) (recurrence_row K)
          (λ ts h. (row ts h).1) d.equations right);
      relation-count = tt;
      relation-shapes = tt;
      relations-right = tt;
    }
  where
    m : ℕ
    m = d.unknowns

    n : ℕ
    n = length d.equations

    K : ℕ
    K = d.order

    J : ℕ
    J = d.degree

    EquationRight : List DifferentialTerm → Type 0
    EquationRight ts = All (ValidTerm m K J) ts × (length ts ≤ most_terms_of m K J)

    right : All EquationRight d.equations
    right =
        all_both (All (ValidTerm m K J)) (λ ts. length ts ≤ most_terms_of m K J) d.equations
        valid.terms valid.term-counts

    row : (ts : List DifferentialTerm) → EquationRight ts
        → StoreRow (recurrence_row K ts) × T (row_right_of (recurrence_sizes m n K J) (recurrence_row K ts))
    row ts h = row-valid m K J valid.unknowns-most valid.order-most valid.degree-most ts h.0 h.1 n
