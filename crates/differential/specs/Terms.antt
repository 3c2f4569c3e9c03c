-- The value of the row that a term gives is the coefficient that the term means.
--
-- Main statements
--   times-variable, times-derivative   the variable taken j times and the derivative taken k times, at one index
--   term-value       the coefficient of a term at n is its polynomial's value times the unknown's coefficient at
--                    n - j + k
--   add_term-shaped   adding a term keeps the shape of a row in a store
--   add_term-value    adding a term adds what the term means; add_terms-value: and so adding several
--   add_terms-right   the right side of the row stays
--   row-value        the value of an equation's row at n is the coefficient of the equation's sum
use Prim.Native.Nat.{ℕ, zero, suc, ◌+◌, ◌≤◌, ◌<◌, pred, max, zero-le}
use Rattle.std.proofs.Common.{not-suc-le-zero, le_of_suc-le-suc, arith, ◌∙◌, subst}
use Rattle.std.specs.Prelude.{◌≡◌, refl, T, length, set, replicate, ℤ, neg_ℤ, ◌+ℤ◌, ◌-ℤ◌, ◌*ℤ◌}
use Rattle.std.proofs.Math.Path.{sym, ap, ap₂}
use mathlib.Core.List.{List, [], ◌∷◌}
use Rattle.std.proofs.Math.ListN.{get_or, length-set}
use Rattle.std.proofs.Math.IntN.{pos, pred_ℤ, +ℤ_idl, +ℤ_idr, +ℤ_assoc, -ℤ_one, +ℤ-neg_ℤ_cancel, -ℤ-+ℤ_cancel}
use Rattle.algebra.specs.Integers.{ringℤ, *ℤ-assoc}
use Rattle.algebra.specs.Polynomials.{Polynomial, eval, add, scale, eval_add, eval-scale, eval_mul}
use Rattle.algebra.specs.Polynomials.{length-mul-le, length-scale, length-add}
use Rattle.lists.specs.Everywhere.{All, all_set, all_get_or, all_replicate}
use Rattle.lists.specs.Padded.{pad_to, length-pad_to}
use Rattle.rules.specs.Limits.{coefficient_count, column_count, block_count}
use Rattle.rules.specs.Rows.{Block, Row, zero_row}
use Rattle.rules.specs.Stores.{Shaped, StoreRow}
use Rattle.rules.specs.Sequences.{Sequence, block_value, blocks_value, value_of, left_value}
use Rattle.rules.specs.Sheets.{blank_row}
use Rattle.theory.specs.Values.{index_below, value-zero}
use Rattle.differential.specs.Differential.{DifferentialTerm, ValidTerm, most_derivative, most_power}
use Rattle.differential.specs.Recurrence.{rising, term_polynomial, place_of, add_term_of, add_terms, recurrence_row}
use Rattle.differential.specs.Meaning.{Coefficients, times, times_variable, derivative, term_meaning, equation_meaning}

-- ---- the variable and the derivative, taken several times

pub times-variable : (j : ℕ) (f : Coefficients) (n : ℤ) → times j times_variable f n ≡ f (n -ℤ pos j)
unfolding times times_variable
times-variable zero f n = ap f (sym (+ℤ_idr n))
times-variable (suc j) f n = times-variable j f (n -ℤ pos 1) ∙ ap f (ap (λ x. x -ℤ pos j) (-ℤ_one n) ∙ index_below n j)

-- At n + b, so that the factors are those of `rising`.
pub times-derivative : (k : ℕ) (f : Coefficients) (n b : ℤ)
    → times k derivative f (n +ℤ b) ≡ eval (rising b k) n *ℤ f (n +ℤ b +ℤ pos k)
unfolding times derivative rising eval
times-derivative zero f n b = ap f (sym (+ℤ_idr (n +ℤ b))) ∙ start (f (n +ℤ b +ℤ pos 0))
  where
    start : (x : ℤ) → x ≡ (pos 1 +ℤ n *ℤ pos 0) *ℤ x
    start x = simp ringℤ
times-derivative (suc k) f n b =
    ap (λ x. (n +ℤ b +ℤ pos 1) *ℤ times k derivative f x) (+ℤ_assoc n b (pos 1))
    ∙ ap (λ x. (n +ℤ b +ℤ pos 1) *ℤ x) (times-derivative k f n (b +ℤ pos 1))
    ∙ ap (λ i. (n +ℤ b +ℤ pos 1) *ℤ (eval (rising (b +ℤ pos 1) k) n *ℤ f i)) next
    ∙ factor (eval (rising (b +ℤ pos 1) k) n) (f (n +ℤ b +ℤ pos (suc k)))
    ∙ ap (λ e. e *ℤ f (n +ℤ b +ℤ pos (suc k))) (sym (eval_mul ((b +ℤ pos 1) ∷ pos 1 ∷ []) (rising (b +ℤ pos 1) k) n))
  where
    one_more : 1 + k ≡ suc k
    one_more = omega arith

    next : n +ℤ (b +ℤ pos 1) +ℤ pos k ≡ n +ℤ b +ℤ pos (suc k)
    next =
        ap (λ x. x +ℤ pos k) (sym (+ℤ_assoc n b (pos 1)))
        ∙ +ℤ_assoc (n +ℤ b) (pos 1) (pos k)
        ∙ ap (λ m. n +ℤ b +ℤ pos m) one_more

    factor : (x y : ℤ) → (n +ℤ b +ℤ pos 1) *ℤ (x *ℤ y) ≡ (b +ℤ pos 1 +ℤ n *ℤ (pos 1 +ℤ n *ℤ pos 0)) *ℤ x *ℤ y
    factor x y = simp ringℤ

-- ---- the coefficient that a term means

pub length-rising : (b : ℤ) (k : ℕ) → length (rising b k) ≤ suc (k + k)
unfolding rising
length-rising b zero = omega arith
length-rising b (suc k) =
    omega (arith, length-mul-le ((b +ℤ pos 1) ∷ pos 1 ∷ []) (rising (b +ℤ pos 1) k), length-rising (b +ℤ pos 1) k)

eval-pad_to : (n : ℕ) (p : Polynomial) (x : ℤ) → length p ≤ n → eval (pad_to n (pos 0) p) x ≡ eval p x
unfolding pad_to eval
eval-pad_to zero [] x h = refl
eval-pad_to (suc n) [] x h = ap (λ e. pos 0 +ℤ x *ℤ e) (eval-pad_to n [] x zero-le) ∙ nothing
  where
    nothing : pos 0 +ℤ x *ℤ pos 0 ≡ pos 0
    nothing = simp ringℤ
eval-pad_to zero (a ∷ p) x h = absurd (not-suc-le-zero h)
eval-pad_to (suc n) (a ∷ p) x h = ap (λ e. a +ℤ x *ℤ e) (eval-pad_to n p x (le_of_suc-le-suc h))

pub length-term_polynomial : (t : DifferentialTerm) → length (term_polynomial t) ≡ coefficient_count
unfolding term_polynomial
length-term_polynomial t =
    length-pad_to coefficient_count (pos 0) (scale t.factor (rising (neg_ℤ (pos t.power)) t.derivative))

pub term-value : (z : Sequence) (t : DifferentialTerm) (n : ℤ) → t.derivative ≤ most_derivative
    → term_meaning z t n ≡ eval (term_polynomial t) n *ℤ z (n -ℤ pos t.power +ℤ pos t.derivative) (pred t.column)
unfolding term_meaning term_polynomial
term-value z t n h =
    ap (λ x. t.factor *ℤ x)
    (times-variable t.power (times t.derivative derivative column) n
    ∙ times-derivative t.derivative column n (neg_ℤ (pos t.power)))
    ∙ sym (*ℤ-assoc t.factor (eval factors n) (column (n -ℤ pos t.power +ℤ pos t.derivative)))
    ∙ ap (λ e. e *ℤ column (n -ℤ pos t.power +ℤ pos t.derivative))
    (sym (eval-pad_to coefficient_count (scale t.factor factors) n fits ∙ eval-scale t.factor factors n))
  where
    column : Coefficients
    column i = z i (pred t.column)

    factors : Polynomial
    factors = rising (neg_ℤ (pos t.power)) t.derivative

    fits : length (scale t.factor factors) ≤ coefficient_count
    fits = simp length-scale (omega (arith, length-rising (neg_ℤ (pos t.power)) t.derivative))

-- ---- a polynomial added at one place of a row

block-added : (n : ℤ) (v : ℕ → ℤ) (b : Block) (c : ℕ) (q : Polynomial) → c < length b
    → block_value n v (set b c (add (get_or b c []) q)) ≡ block_value n v b +ℤ eval q n *ℤ v c
unfolding block_value
block-added n v [] c q h = absurd (not-suc-le-zero h)
block-added n v (p ∷ b) zero q h =
    ap (λ e. e *ℤ v 0 +ℤ block_value n (λ i. v (suc i)) b) (eval_add p q n)
    ∙ step (eval p n) (eval q n) (v 0) (block_value n (λ i. v (suc i)) b)
  where
    step : (x y u s : ℤ) → (x +ℤ y) *ℤ u +ℤ s ≡ x *ℤ u +ℤ s +ℤ y *ℤ u
    step x y u s = simp ringℤ
block-added n v (p ∷ b) (suc c) q h =
    ap (λ s. eval p n *ℤ v 0 +ℤ s) (block-added n (λ i. v (suc i)) b c q (le_of_suc-le-suc h))
    ∙ sym (+ℤ_assoc (eval p n *ℤ v 0) (block_value n (λ i. v (suc i)) b) (eval q n *ℤ v (suc c)))

-- A block by whose change its value grows by x.
blocks-added : (n : ℤ) (z : Sequence) (k : ℤ) (bs : List Block) (i : ℕ) (b : Block) (x : ℤ) → i < length bs
    → block_value n (z (k -ℤ pos i)) b ≡ block_value n (z (k -ℤ pos i)) (get_or bs i []) +ℤ x
    → blocks_value n z k (set bs i b) ≡ blocks_value n z k bs +ℤ x
unfolding blocks_value
blocks-added n z k [] i b x h e = absurd (not-suc-le-zero h)
blocks-added n z k (a ∷ bs) zero b x h e =
    ap (λ s. s +ℤ blocks_value n z (pred_ℤ k) bs)
    (subst (λ i. block_value n (z i) b ≡ block_value n (z i) a +ℤ x) (+ℤ_idr k) e)
    ∙ step (block_value n (z k) a) (blocks_value n z (pred_ℤ k) bs)
  where
    step : (y s : ℤ) → y +ℤ x +ℤ s ≡ y +ℤ s +ℤ x
    step y s = simp ringℤ
blocks-added n z k (a ∷ bs) (suc i) b x h e =
    ap (λ s. block_value n (z k) a +ℤ s)
    (blocks-added n z (pred_ℤ k) bs i b x (le_of_suc-le-suc h)
    (subst (λ y. block_value n (z y) b ≡ block_value n (z y) (get_or bs i []) +ℤ x) (sym (index_below k i)) e))
    ∙ sym (+ℤ_assoc (block_value n (z k) a) (blocks_value n z (pred_ℤ k) bs) x)

-- ---- the shape of a row in a store

abbrev pub FullPolynomial : Polynomial → Type 0
FullPolynomial p = length p ≡ coefficient_count

abbrev pub FullBlock : Block → Type 0
FullBlock b = (length b ≡ column_count) × All FullPolynomial b

pub blank-shaped : StoreRow blank_row
unfolding Shaped blank_row
blank-shaped = (
  refl,
  all_replicate FullBlock block_count (replicate column_count zeros)
      (refl, all_replicate FullPolynomial column_count zeros refl),
  refl,
)
  where
    zeros : Polynomial
    zeros = replicate coefficient_count (pos 0)

blank-zero : T (zero_row blank_row)
unfolding zero_row blank_row
blank-zero = tt

-- ---- a term added to a row

module _ {m K J : ℕ} {t : DifferentialTerm} (columns : m ≤ column_count) (orders : K ≤ most_derivative)
    (powers : J ≤ most_power) (valid : ValidTerm m K J t) where
  pub place-used : place_of K t ≤ K + J
  unfolding place_of
  place-used = omega (arith, valid.power-most)

  pub place_inside : place_of K t < block_count
  place_inside = omega (arith, place-used)

  pub column-used : pred t.column < m
  column-used = omega (arith, valid.column-least, valid.column-most)

  pub column-inside : pred t.column < column_count
  column-inside = omega (arith, column-used)

  -- Block k - j, which stands at the place of the term, meets the sequence at n - j + k.
  place-index : (n : ℤ) → n +ℤ pos K -ℤ pos (place_of K t) ≡ n -ℤ pos t.power +ℤ pos t.derivative
  unfolding place_of
  place-index n =
      ap (λ x. x -ℤ pos (place_of K t)) up ∙ +ℤ-neg_ℤ_cancel (n -ℤ pos t.power +ℤ pos t.derivative) (pos (place_of K t))
    where
      together : t.power + K ≡ t.derivative + place_of K t
      together = omega (arith, valid.derivative-most)

      up : n +ℤ pos K ≡ n -ℤ pos t.power +ℤ pos t.derivative +ℤ pos (place_of K t)
      up =
          ap (λ x. x +ℤ pos K) (sym (-ℤ-+ℤ_cancel n (pos t.power)))
          ∙ +ℤ_assoc (n -ℤ pos t.power) (pos t.power) (pos K)
          ∙ ap (λ s. n -ℤ pos t.power +ℤ pos s) together
          ∙ sym (+ℤ_assoc (n -ℤ pos t.power) (pos t.derivative) (pos (place_of K t)))

  module _ (r : Row) (shape : StoreRow r) where
    -- The block into which the term goes.
    old-shape : FullBlock (get_or r.blocks (place_of K t) [])
    unfolding Shaped
    old-shape =
        all_get_or FullBlock r.blocks [] (place_of K t)
        (rw shape.0 place_inside) shape.1

    pub add_term-shaped : StoreRow (add_term_of K t r)
    unfolding add_term_of Shaped
    add_term-shaped = (
      length-set r.blocks (place_of K t) _ ∙ shape.0,
      all_set FullBlock r.blocks (place_of K t) _ (
        length-set (get_or r.blocks (place_of K t) []) (pred t.column) _ ∙ old-shape.0,
        all_set FullPolynomial (get_or r.blocks (place_of K t) []) (pred t.column) _ sum-length old-shape.1,
      ) shape.1,
      shape.2,
    )
      where
        sum-length : FullPolynomial (add (get_or (get_or r.blocks (place_of K t) []) (pred t.column) []) (term_polynomial t))
        sum-length =
            length-add (get_or (get_or r.blocks (place_of K t) []) (pred t.column) []) (term_polynomial t)
            ∙ ap₂ max
            (all_get_or FullPolynomial (get_or r.blocks (place_of K t) []) [] (pred t.column)
            (rw old-shape.0 column-inside) old-shape.1)
            (length-term_polynomial t)

    pub add_term-value : (z : Sequence) (n : ℤ)
        → value_of (pos K) (add_term_of K t r) z n ≡ value_of (pos K) r z n +ℤ term_meaning z t n
    unfolding value_of left_value add_term_of Shaped
    add_term-value z n =
        ap (λ s. s -ℤ eval r.right n)
        (blocks-added n z (n +ℤ pos K) r.blocks (place_of K t) _ (term_meaning z t n) (rw shape.0 place_inside) block)
        ∙ step (left_value (pos K) r z n) (term_meaning z t n) (eval r.right n)
      where
        old : Block
        old = get_or r.blocks (place_of K t) []

        i : ℤ
        i = n +ℤ pos K -ℤ pos (place_of K t)

        block : block_value n (z i) (set old (pred t.column) (add (get_or old (pred t.column) []) (term_polynomial t)))
            ≡ block_value n (z i) old +ℤ term_meaning z t n
        block =
            block-added n (z i) old (pred t.column) (term_polynomial t) (rw old-shape.0 column-inside)
            ∙ ap (λ x. block_value n (z i) old +ℤ x)
            (ap (λ x. eval (term_polynomial t) n *ℤ z x (pred t.column)) (place-index n)
            ∙ sym (term-value z t n (omega (arith, valid.derivative-most))))

        step : (x y u : ℤ) → x +ℤ y -ℤ u ≡ x -ℤ u +ℤ y
        step x y u = simp ringℤ

-- ---- the terms of an equation

-- The right side stays as it was.
pub add_terms-right : (K : ℕ) (ts : List DifferentialTerm) (r : Row) → (add_terms K r ts).right ≡ r.right
unfolding add_terms add_term_of
add_terms-right K [] r = refl
add_terms-right K (t ∷ ts) r = add_terms-right K ts (add_term_of K t r)

module _ (m K J : ℕ) (columns : m ≤ column_count) (orders : K ≤ most_derivative) (powers : J ≤ most_power) where
  pub add_terms-value : (ts : List DifferentialTerm) → All (ValidTerm m K J) ts → (r : Row) → StoreRow r
      → (z : Sequence) (n : ℤ) → value_of (pos K) (add_terms K r ts) z n ≡ value_of (pos K) r z n +ℤ equation_meaning z ts n
  unfolding add_terms equation_meaning All
  add_terms-value [] a r shape z n = sym (+ℤ_idr (value_of (pos K) r z n))
  add_terms-value (t ∷ ts) a r shape z n =
      add_terms-value ts a.1 (add_term_of K t r) (add_term-shaped columns orders powers a.0 r shape) z n
      ∙ ap (λ x. x +ℤ equation_meaning z ts n) (add_term-value columns orders powers a.0 r shape z n)
      ∙ +ℤ_assoc (value_of (pos K) r z n) (term_meaning z t n) (equation_meaning z ts n)

  pub row-value : (ts : List DifferentialTerm) → All (ValidTerm m K J) ts → (z : Sequence) (n : ℤ)
      → value_of (pos K) (recurrence_row K ts) z n ≡ equation_meaning z ts n
  unfolding recurrence_row
  row-value ts a z n =
      add_terms-value ts a blank_row blank-shaped z n
      ∙ ap (λ x. x +ℤ equation_meaning z ts n) (value-zero (pos K) blank_row z n blank-zero)
      ∙ +ℤ_idl (equation_meaning z ts n)
