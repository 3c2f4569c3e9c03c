-- Back substitution: a triangular system with a nonzero diagonal settles the next vector of a sequence, so two solutions
-- that agree on D vectors agree from there on (leading side).
--
-- Main definitions
--   TriangularRows m D rows order   m rows, zero outside m columns and D + 1 blocks, whose leading entries are zero at the
--                         columns of the rows before; every column stands in the order
--   diagonal_at_of rows order j   the diagonal polynomial of row j
--   NonzeroAt m rows order n  no diagonal polynomial is zero at n
--   SameBetween m z y a b     z and y agree at every index from a up to, not with, b
--
-- Main statements
--   back-substitution     a sequence that satisfies the rows at n and is zero at n + l - D .. n + l - 1 is zero at n + l
--   agreement             two solutions that agree at n + t .. n + l - 1 agree at every index from n + t on
use Prim.Native.Nat.{ℕ, zero, suc, ◌+◌, ◌-◌, ◌≤◌, ◌<◌}
use Rattle.std.proofs.Common.{not-suc-le-zero, arith, ◌∙◌, subst, ⊎_elim}
use Rattle.std.proofs.Math.Decide.{dec_lt}
use Rattle.std.specs.Prelude.{◌≡◌, ◌≢◌, T, length, get_or, drop, neg_ℤ, ◌-ℤ◌, ◌*ℤ◌, ◌≤ℤ◌, ◌<ℤ◌}
use Rattle.std.proofs.Math.Path.{refl, sym, ap, ap₂}
use mathlib.Core.List.{List, [], ◌∷◌}
use Rattle.std.proofs.Math.IntN.{ℤ, pos, pred_ℤ, ◌+ℤ◌, +ℤ_idr, +ℤ_assoc, +ℤ_comm, +ℤ_invr, zero-*ℤ, *ℤ-zero, +ℤ-neg_ℤ_cancel, -ℤ-+ℤ_cancel}
use Rattle.algebra.specs.Integers.{no-zero-divisors, -ℤ-zero}
use Rattle.algebra.specs.Sums.{sum_below, sum_below-zeros, sum_below-single}
use Rattle.algebra.specs.Polynomials.{Polynomial, eval, is_zero_of, eval-is_zero}
use Rattle.algebra.specs.Order.{≤ℤ-intro, ≤ℤ-of-≡, ≤ℤ-trans, ≤ℤ-antisym, ≤ℤ-or->, <ℤ-+1, ≤ℤ-+ℤ-pos, +ℤ-≤ℤ-right, ≤ℤ-cancel-right}
use Rattle.algebra.specs.Order.{ℤ-induction-up}
use Rattle.rules.specs.Rows.{Block, Row, no_row, zero_block, leading_block, entry}
use Rattle.lists.specs.Everywhere.{All, all_get_or}
use Rattle.rules.specs.Stores.{unused_zero_of}
use Rattle.rules.specs.Sequences.{Sequence, block_value, blocks_value, value_of, SatisfiesEquation, Same, left_value}
use Rattle.theory.specs.Values.{block_value-sum, block-zero, index_below, value-difference}
use Rattle.theory.specs.Cells.{unused_zero-iff, zero_block-past}

-- ---- the value of a block as a sum over its columns

zero-term : (p : Polynomial) (n v : ℤ) → T (is_zero_of p) → eval p n *ℤ v ≡ pos 0
zero-term p n v h = ap (λ e. e *ℤ v) (eval-is_zero p n h) ∙ zero-*ℤ v

times_zero : (a v : ℤ) → v ≡ pos 0 → a *ℤ v ≡ pos 0
times_zero a v e = ap (λ x. a *ℤ x) e ∙ *ℤ-zero a

-- The term of column c.
abbrev term : ℤ → (ℕ → ℤ) → Block → ℕ → ℤ
term n v b c = eval (get_or b c []) n *ℤ v c

block-columns : (m : ℕ) (n : ℤ) (v : ℕ → ℤ) (b : Block) → T (zero_block (drop m b)) → block_value n v b ≡ sum_below m (term n v b)
block-columns m n v b h = block_value-sum m n v b ((zero_block-past m b).0 h)

-- ---- rows whose value has only one block

-- Every block is zero past column m, and every block from place D on is zero.
abbrev Used : ℕ → ℕ → List Block → Type 0
Used m D bs = All (λ b. T (zero_block (drop m b))) bs × All (λ b. T (zero_block b)) (drop D bs)

-- The sequence is zero at the D indices from k downward.
abbrev ZeroDown : ℕ → ℕ → Sequence → ℤ → Type 0
ZeroDown m D w k = (i : ℕ) → i < D → (c : ℕ) → c < m → w (k -ℤ pos i) c ≡ pos 0

zero-vector-value : (m : ℕ) (n : ℤ) (v : ℕ → ℤ) (b : Block)
    → T (zero_block (drop m b)) → ((c : ℕ) → c < m → v c ≡ pos 0) → block_value n v b ≡ pos 0
zero-vector-value m n v b h z =
    block-columns m n v b h ∙ sum_below-zeros m (term n v b) (λ c p. times_zero (eval (get_or b c []) n) (v c) (z c p))

module _ (m : ℕ) (n : ℤ) (w : Sequence) where
  zero-first : (D : ℕ) (k : ℤ) → ZeroDown m (suc D) w k → (c : ℕ) → c < m → w k c ≡ pos 0
  zero-first D k z c h = ap (λ i. w i c) (sym (+ℤ_idr k)) ∙ z 0 (omega arith) c h

  zero-next : (D : ℕ) (k : ℤ) → ZeroDown m (suc D) w k → ZeroDown m D w (pred_ℤ k)
  zero-next D k z i h c p = ap (λ x. w x c) (index_below k i) ∙ z (suc i) (omega arith) c p

  blocks-vanish : (D : ℕ) (k : ℤ) (bs : List Block) → Used m D bs → ZeroDown m D w k → blocks_value n w k bs ≡ pos 0
  unfolding blocks_value All
  blocks-vanish D k [] u z = refl
  blocks-vanish zero k (b ∷ bs) u z =
      ap₂ ◌+ℤ◌ (block-zero n (w k) b u.1.0) (blocks-vanish zero (pred_ℤ k) bs (u.0.1, u.1.1) (λ i h. absurd (not-suc-le-zero h)))
  blocks-vanish (suc D) k (b ∷ bs) u z =
      ap₂ ◌+ℤ◌ (zero-vector-value m n (w k) b u.0.0 (zero-first D k z)) (blocks-vanish D (pred_ℤ k) bs (u.0.1, u.1) (zero-next D k z))

  -- Where the sequence is zero at the D indices before k, only the first block counts.
  first_block : (D : ℕ) (k : ℤ) (bs : List Block) → Used m (suc D) bs → ZeroDown m D w (pred_ℤ k)
      → blocks_value n w k bs ≡ sum_below m (term n (w k) (get_or bs 0 []))
  unfolding blocks_value All eval
  first_block D k [] u z = sym (sum_below-zeros m (term n (w k) []) (λ c p. zero-*ℤ (w k c)))
  first_block D k (b ∷ bs) u z =
      ap₂ ◌+ℤ◌ (block-columns m n (w k) b u.0.0) (blocks-vanish D (pred_ℤ k) bs (u.0.1, u.1) z) ∙ +ℤ_idr (sum_below m (term n (w k) b))

  leading-value : (D : ℕ) (l : ℤ) (r : Row) → T (unused_zero_of m D r) → ZeroDown m D w (pred_ℤ (n +ℤ l))
      → left_value l r w n ≡ sum_below m (λ c. eval (entry r c) n *ℤ w (n +ℤ l) c)
  unfolding left_value entry leading_block
  leading-value D l r h z = first_block D (n +ℤ l) r.blocks ((unused_zero-iff m D r).0 h) z

-- ---- back substitution

-- In block l, row j is zero at the columns of the rows before it; every column is the column of a row; positions outside m
-- columns and D + 1 blocks are zero.
pub record TriangularRows (m D : ℕ) (rows : List Row) (order : List ℕ) : Type 0 where
  pub row_count : length rows ≡ m
  pub column-below : (j : ℕ) → j < m → get_or order j 0 < m
  pub column-of : (c : ℕ) → c < m → (j : ℕ) × (j < m) × (get_or order j 0 ≡ c)
  pub zero-before : (j k : ℕ) → k < j → j < m → T (is_zero_of (entry (get_or rows j no_row) (get_or order k 0)))
  pub unused : (j : ℕ) → j < m → T (unused_zero_of m D (get_or rows j no_row))

-- The diagonal polynomial of row j.
abbrev pub diagonal_at_of : List Row → List ℕ → ℕ → Polynomial
diagonal_at_of rows order j = entry (get_or rows j no_row) (get_or order j 0)

-- No diagonal polynomial is zero at n.
abbrev pub NonzeroAt : ℕ → List Row → List ℕ → ℤ → Type 0
NonzeroAt m rows order n = (j : ℕ) → j < m → eval (diagonal_at_of rows order j) n ≢ pos 0

module _ {m D : ℕ} {rows : List Row} {order : List ℕ} (triangular : TriangularRows m D rows order) where
  -- One row: the entries before its column are zero, and the values after its column are, so the value at it is.
  row_step : (n : ℤ) (v : ℕ → ℤ) (j : ℕ) → j < m → eval (diagonal_at_of rows order j) n ≢ pos 0
      → sum_below m (λ c. eval (entry (get_or rows j no_row) c) n *ℤ v c) ≡ pos 0
      → ((k : ℕ) → j < k → k < m → v (get_or order k 0) ≡ pos 0) → v (get_or order j 0) ≡ pos 0
  row_step n v j h d e after =
      ⊎_elim (λ x. absurd (d x)) (λ x. x) (no-zero-divisors (eval (diagonal_at_of rows order j) n) (v (get_or order j 0)) (sym only ∙ e))
    where
      p : ℕ → Polynomial
      p c = entry (get_or rows j no_row) c

      other : (k : ℕ) → k < m → k ≢ j → eval (p (get_or order k 0)) n *ℤ v (get_or order k 0) ≡ pos 0
      other k b q = cases (dec_lt k j)
        where
          cases : Dec (k < j) → eval (p (get_or order k 0)) n *ℤ v (get_or order k 0) ≡ pos 0
          cases (yes x) = zero-term (p (get_or order k 0)) n (v (get_or order k 0)) (triangular.zero-before j k x h)
          cases (no x) = times_zero (eval (p (get_or order k 0)) n) (v (get_or order k 0)) (after k (omega arith) b)

      elsewhere : (c : ℕ) → c < m → c ≢ get_or order j 0 → eval (p c) n *ℤ v c ≡ pos 0
      elsewhere c b q =
          let (k, i, x) = triangular.column-of c b in
          ap (λ y. eval (p y) n *ℤ v y) (sym x) ∙ other k i (λ y. q (sym x ∙ ap (λ i. get_or order i 0) y))

      only : sum_below m (λ c. eval (p c) n *ℤ v c) ≡ eval (diagonal_at_of rows order j) n *ℤ v (get_or order j 0)
      only = sum_below-single m (get_or order j 0) (λ c. eval (p c) n *ℤ v c) (triangular.column-below j h) elsewhere

  -- From the last row backwards: the values at the columns of the last i rows are zero.
  from-the-last : (n : ℤ) (v : ℕ → ℤ) → NonzeroAt m rows order n
      → ((j : ℕ) → j < m → sum_below m (λ c. eval (entry (get_or rows j no_row) c) n *ℤ v c) ≡ pos 0)
      → (i j : ℕ) → m ≤ j + i → j < m → v (get_or order j 0) ≡ pos 0
  from-the-last n v d e zero j h b = absurd (omega arith)
  from-the-last n v d e (suc i) j h b = row_step n v j b (d j b) (e j b) (λ k p q. from-the-last n v d e i k (later k p) q)
    where
      later : (k : ℕ) → j < k → m ≤ k + i
      later k p = omega arith

  pub back-substitution : (l n : ℤ) (w : Sequence) → NonzeroAt m rows order n
      → ((j : ℕ) → j < m → left_value l (get_or rows j no_row) w n ≡ pos 0)
      → ((i : ℕ) → i < D → (c : ℕ) → c < m → w (n +ℤ l -ℤ pos (suc i)) c ≡ pos 0) → (c : ℕ) → c < m → w (n +ℤ l) c ≡ pos 0
  back-substitution l n w d e z c h =
      let (j, b, x) = triangular.column-of c h in
      ap (w (n +ℤ l)) (sym x) ∙ from-the-last n (w (n +ℤ l)) d sums m j (omega arith) b
    where
      before : ZeroDown m D w (pred_ℤ (n +ℤ l))
      before i p c q = ap (λ k. w k c) (index_below (n +ℤ l) i) ∙ z i p c q

      sums : (j : ℕ) → j < m → sum_below m (λ c. eval (entry (get_or rows j no_row) c) n *ℤ w (n +ℤ l) c) ≡ pos 0
      sums j b = sym (leading-value m n w D l (get_or rows j no_row) (triangular.unused j b) before) ∙ e j b

-- ---- agreement

abbrev difference : Sequence → Sequence → Sequence
difference z y = λ n c. z n c -ℤ y n c

-- Two sequences agree at every index from a up to, not with, b.
abbrev pub SameBetween : ℕ → Sequence → Sequence → ℤ → ℤ → Type 0
SameBetween m z y a b = (i : ℤ) → a ≤ℤ i → i <ℤ b → Same m z y i

-- Sums and differences of indices.
one-add : (i : ℕ) → 1 + i ≡ suc i
one-add i = omega arith

minus-below : (x : ℤ) (i : ℕ) → (x -ℤ pos (suc i)) <ℤ x
minus-below x i = <ℤ-+1.1
    (≤ℤ-intro i (+ℤ_assoc lower (pos 1) (pos i) ∙ ap (λ k. lower +ℤ pos k) (one-add i) ∙ -ℤ-+ℤ_cancel x (pos (suc i))))
  where
    lower : ℤ
    lower = x -ℤ pos (suc i)

pub move-right : (a b c : ℤ) → a +ℤ b ≡ c → a ≡ c -ℤ b
move-right a b c e = sym (+ℤ-neg_ℤ_cancel a b) ∙ ap (λ x. x -ℤ b) e

-- An index i + 1 ≤ D below n + l is at least n + t.
window : (D i : ℕ) (n l t : ℤ) → l ≡ t +ℤ pos D → i < D → (n +ℤ t) ≤ℤ (n +ℤ l -ℤ pos (suc i))
window D i n l t e h = ≤ℤ-intro (D - suc i) (move-right (n +ℤ t +ℤ pos (D - suc i)) (pos (suc i)) (n +ℤ l) whole)
  where
    upper : t +ℤ pos (D - suc i + suc i) ≡ t +ℤ pos D
    upper = ap (λ k. t +ℤ pos k) (omega arith)

    whole : n +ℤ t +ℤ pos (D - suc i) +ℤ pos (suc i) ≡ n +ℤ l
    whole =
        +ℤ_assoc (n +ℤ t) (pos (D - suc i)) (pos (suc i)) ∙ +ℤ_assoc n t (pos (D - suc i + suc i)) ∙ ap (λ x. n +ℤ x) (upper ∙ sym e)

one_last : (n l : ℤ) → n +ℤ pos 1 +ℤ l ≡ n +ℤ l +ℤ pos 1
one_last n l = simp (+ℤ_assoc, +ℤ_comm)

-- Below n + 1 + l and not below n + l there is only n + l.
only-between : (i n l : ℤ) → (n +ℤ l) ≤ℤ i → i <ℤ (n +ℤ pos 1 +ℤ l) → i ≡ n +ℤ l
only-between i n l h k = ≤ℤ-antisym (≤ℤ-cancel-right (pos 1) (subst (λ x. (i +ℤ pos 1) ≤ℤ x) (one_last n l) (<ℤ-+1.0 k))) h

module _ {m D : ℕ} {rows : List Row} {order : List ℕ} (triangular : TriangularRows m D rows order) (l t : ℤ) (span : l ≡ t +ℤ pos D)
    (z y : Sequence) (solves-z : All (SatisfiesEquation l z) rows) (solves-y : All (SatisfiesEquation l y) rows) where
  solves : (n : ℤ) (j : ℕ) → j < m → left_value l (get_or rows j no_row) (difference z y) n ≡ pos 0
  unfolding SatisfiesEquation
  solves n j h = value-difference l (get_or rows j no_row) z y n ∙ ap₂ (λ a b. a -ℤ b) (at z solves-z) (at y solves-y)
    where
      at : (x : Sequence) → All (SatisfiesEquation l x) rows → value_of l (get_or rows j no_row) x n ≡ pos 0
      at x a = all_get_or (SatisfiesEquation l x) rows no_row j (subst (λ k. j < k) (sym triangular.row_count) h) a n

  -- The vectors at n + t .. n + l - 1 settle that at n + l.
  next-vector : (n : ℤ) → NonzeroAt m rows order n → SameBetween m z y (n +ℤ t) (n +ℤ l) → Same m z y (n +ℤ l)
  unfolding Same
  next-vector n d s c h =
      -ℤ-zero (z (n +ℤ l) c) (y (n +ℤ l) c) (back-substitution triangular l n (difference z y) d (solves n) zero-before-l c h)
    where
      zero-before-l : (i : ℕ) → i < D → (c : ℕ) → c < m → difference z y (n +ℤ l -ℤ pos (suc i)) c ≡ pos 0
      zero-before-l i p c q =
          let k : ℤ = n +ℤ l -ℤ pos (suc i) in
          ap (λ x. x -ℤ y k c) (s k (window D i n l t span p) (minus-below (n +ℤ l) i) c q) ∙ +ℤ_invr (y k c)

  -- One index more.
  climb : (n k : ℤ) → n ≤ℤ k → NonzeroAt m rows order k
      → SameBetween m z y (n +ℤ t) (k +ℤ l) → SameBetween m z y (n +ℤ t) (k +ℤ pos 1 +ℤ l)
  climb n k h d s i a b = ⊎_elim last (s i a) (≤ℤ-or-> (k +ℤ l) i)
    where
      last : (k +ℤ l) ≤ℤ i → Same m z y i
      last q = subst (Same m z y) (sym (only-between i k l q b)) (next-vector k d (λ j p. s j (≤ℤ-trans (+ℤ-≤ℤ-right t h) p)))

  -- Sequences equal at the D indices from n + t to n + l - 1 are equal from n + t upward (SCOPE 2.116).
  pub agreement : (n : ℤ) → ((k : ℤ) → n ≤ℤ k → NonzeroAt m rows order k)
      → SameBetween m z y (n +ℤ t) (n +ℤ l) → (i : ℤ) → (n +ℤ t) ≤ℤ i → Same m z y i
  agreement n d s i h = ⊎_elim beyond (s i h) (≤ℤ-or-> (n +ℤ l) i)
    where
      up_to : (k : ℤ) → n ≤ℤ k → SameBetween m z y (n +ℤ t) (k +ℤ l)
      up_to = ℤ-induction-up (λ k. SameBetween m z y (n +ℤ t) (k +ℤ l)) n s (λ k p. climb n k p (d k p))

      beyond : (n +ℤ l) ≤ℤ i → Same m z y i
      beyond p = up_to (i -ℤ l +ℤ pos 1) above i h below
        where
          above : n ≤ℤ (i -ℤ l +ℤ pos 1)
          above = ≤ℤ-trans (subst (λ x. x ≤ℤ (i -ℤ l)) (+ℤ-neg_ℤ_cancel n l) (+ℤ-≤ℤ-right (neg_ℤ l) p)) (≤ℤ-+ℤ-pos (i -ℤ l) 1)

          below : i <ℤ (i -ℤ l +ℤ pos 1 +ℤ l)
          below = <ℤ-+1.1 (≤ℤ-of-≡ (ap (λ x. x +ℤ pos 1) (sym (-ℤ-+ℤ_cancel i l)) ∙ sym (one_last (i -ℤ l) l)))
