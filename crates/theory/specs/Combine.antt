-- The combination of a row with another: d × (new row) = g × row + h × other, for a positive whole number d.
--
-- Main definitions
--   SameColumns r q         the rows have equally many blocks, and as many columns in each
--   Combines d g h r q r'   d × r' = g × r + h × q, by values
--   combined_row g h r q     g × r + h × q, divided by its content and cut: the row of rule 4
--
-- Main statements (those that speak of Combines are in proofs/Combine.antt)
--   combine-root-at         one combination at one n: the old row from the listed relation where g(n) is 0
--   combined_row-zero        the row of rule 4 is zero where g × r + h × q is, which the next three ask of a new row
--   combine-clears          two rows that are zero at c(1) to c(j - 1) make one that is zero at c(1) to c(j), where g b + h a = 0
--   combine-total           a sum over the rows that goes by their widths does not rise where the other row is no wider
--   combine-unused          unused places stay zero
--   combine-shaped, combined_row-shaped   the shape
-- The triangular form of the rows before it stays: `replace-pivots`.
use Rattle.std.specs.Prelude.{◌≡◌, ◌⊎◌, ℕ, suc, ◌+◌, ◌≤◌, ◌<◌, max, not, T, length, get_or, set, ℤ, ◌*ℤ◌, ◌-ℤ◌}
use Rattle.std.proofs.Math.Path.{sym, ap₂}
use Rattle.std.proofs.Common.{◌∙◌, ap, subst, inl, inr, le_refl, le_trans, arith}
use Rattle.std.proofs.Math.Nat.{suc_inj}
use Rattle.std.proofs.Math.Decide.{ℕ_discrete}
use mathlib.Core.List.{List, [], ◌∷◌, map, zip_with, head-eq_of_cons-eq, tail-eq_of_cons-eq, nil≢cons, cons≢nil}
use Rattle.std.proofs.Math.IntN.{pos, pred_ℤ, ◌+ℤ◌}
use Rattle.algebra.specs.Integers.{ringℤ}
use Rattle.algebra.specs.Polynomials.{Polynomial, eval, is_zero_of, add, mul, eval_add, eval_mul, is_zero-add, is_zero-mul-right, length-add}
use Rattle.algebra.specs.Polynomials.{length-mul}
use Rattle.algebra.specs.Roots.{roots, roots-complete, place}
use Rattle.algebra.specs.Vanishing.{zero-everywhere}
use Rattle.rules.specs.Limits.{coefficient_count}
use Rattle.rules.specs.Rows.{Block, Row, no_row, width, entry, combine, primitive, cut}
use Rattle.lists.specs.Everywhere.{All, all-member, all-zip_with}
use Rattle.lists.specs.Images.{length-zip_with, zip_with-place}
use Rattle.rules.specs.Elimination.{Side, root_relations}
use Rattle.rules.specs.Stores.{Shaped, unused_zero_of}
use Rattle.rules.specs.Sequences.{Sequence, block_value, blocks_value, value_of, SatisfiesRelation, left_value}
use Rattle.theory.specs.Cells.{cell, ZeroWhere, width-le, width-no-wider, total_of, total_of-set, unused-cells, unused-kept}
use Rattle.theory.specs.Shapes.{BlockShaped, shaped-columns}
use Rattle.theory.specs.Pivots.{PivotRow}
use Rattle.theory.specs.AddRelations.{root_relations-satisfied}
use Rattle.theory.specs.Reduce.{primitive-zero, cut-zero, primitive-shaped, cut-shaped}

-- ---- values, pointwise in n

-- The rows have equally many blocks, and as many columns in each.
abbrev pub SameColumns : Row → Row → Type 0
SameColumns r q = map {B = ℕ} length r.blocks ≡ map length q.blocks

pub shaped-same : (b c k k' : ℕ) (r q : Row) → Shaped b c k r → Shaped b c k' q → SameColumns r q
shaped-same b c k k' r q x y = shaped-columns b c k r x ∙ sym (shaped-columns b c k' q y)

abbrev pub Combines : ℕ → Polynomial → Polynomial → Row → Row → Row → Type 0
Combines d g h r q r' =
    (l : ℤ) (z : Sequence) (n : ℤ) → pos d *ℤ value_of l r' z n ≡ eval g n *ℤ value_of l r z n +ℤ eval h n *ℤ value_of l q z n

-- The row that rule 4 puts in the place of row i, before its limits are checked.
abbrev pub combined_row : Polynomial → Polynomial → Row → Row → Row
combined_row g h r q = cut (primitive (combine g h r q))

-- What `combine` makes of two polynomials at the same place.
abbrev combine_entry : Polynomial → Polynomial → Polynomial → Polynomial → Polynomial
combine_entry g h p e = add (mul g p) (mul h e)

module _ (g h : Polynomial) (n : ℤ) where
  combined-polynomial : (p e : Polynomial) → eval (add (mul g p) (mul h e)) n ≡ eval g n *ℤ eval p n +ℤ eval h n *ℤ eval e n
  combined-polynomial p e = eval_add (mul g p) (mul h e) n ∙ ap₂ ◌+ℤ◌ (eval_mul g p n) (eval_mul h e n)

  nothing-combined : pos 0 ≡ eval g n *ℤ pos 0 +ℤ eval h n *ℤ pos 0
  nothing-combined = simp ringℤ

  combined-term : (x y v s t : ℤ)
      → (eval g n *ℤ x +ℤ eval h n *ℤ y) *ℤ v +ℤ (eval g n *ℤ s +ℤ eval h n *ℤ t)
      ≡ eval g n *ℤ (x *ℤ v +ℤ s) +ℤ eval h n *ℤ (y *ℤ v +ℤ t)
  combined-term x y v s t = simp ringℤ

  combined-sum : (x y s t : ℤ)
      → eval g n *ℤ x +ℤ eval h n *ℤ y +ℤ (eval g n *ℤ s +ℤ eval h n *ℤ t) ≡ eval g n *ℤ (x +ℤ s) +ℤ eval h n *ℤ (y +ℤ t)
  combined-sum x y s t = simp ringℤ

  block-combine : (v : ℕ → ℤ) (b b' : Block) → length b ≡ length b'
      → block_value n v (zip_with (combine_entry g h) b b') ≡ eval g n *ℤ block_value n v b +ℤ eval h n *ℤ block_value n v b'
  unfolding block_value zip_with
  block-combine v [] [] e = nothing-combined
  block-combine v [] (q ∷ b') e = absurd (omega arith)
  block-combine v (p ∷ b) [] e = absurd (omega arith)
  block-combine v (p ∷ b) (q ∷ b') e =
      ap₂ (λ x s. x *ℤ v 0 +ℤ s) (combined-polynomial p q) (block-combine (λ c. v (suc c)) b b' (suc_inj e))
      ∙ combined-term (eval p n) (eval q n) (v 0) (block_value n (λ c. v (suc c)) b) (block_value n (λ c. v (suc c)) b')

  blocks-combine : (z : ℤ → ℕ → ℤ) (k : ℤ) (bs bs' : List Block) → map {B = ℕ} length bs ≡ map length bs'
      → blocks_value n z k (zip_with (zip_with (combine_entry g h)) bs bs')
      ≡ eval g n *ℤ blocks_value n z k bs +ℤ eval h n *ℤ blocks_value n z k bs'
  unfolding blocks_value zip_with
  blocks-combine z k [] [] e = nothing-combined
  blocks-combine z k [] (b' ∷ bs') e = absurd (nil≢cons e)
  blocks-combine z k (b ∷ bs) [] e = absurd (cons≢nil e)
  blocks-combine z k (b ∷ bs) (b' ∷ bs') e =
      ap₂ ◌+ℤ◌ (block-combine (z k) b b' (head-eq_of_cons-eq e)) (blocks-combine z (pred_ℤ k) bs bs' (tail-eq_of_cons-eq e))
      ∙ combined-sum (block_value n (z k) b) (block_value n (z k) b') (blocks_value n z (pred_ℤ k) bs) (blocks_value n z (pred_ℤ k) bs')

pub value-combine : (g h : Polynomial) (l : ℤ) (r q : Row) (z : Sequence) (n : ℤ) → SameColumns r q
    → value_of l (combine g h r q) z n ≡ eval g n *ℤ value_of l r z n +ℤ eval h n *ℤ value_of l q z n
unfolding value_of combine
value-combine g h l r q z n e =
    ap₂ ◌-ℤ◌ (blocks-combine g h n z (n +ℤ l) r.blocks q.blocks e) (combined-polynomial g h n r.right q.right)
    ∙ gather (eval g n) (eval h n) (left_value l r z n) (left_value l q z n) (eval r.right n) (eval q.right n)
  where
    gather : (x y a b c d : ℤ) → x *ℤ a +ℤ y *ℤ b -ℤ (x *ℤ c +ℤ y *ℤ d) ≡ x *ℤ (a -ℤ c) +ℤ y *ℤ (b -ℤ d)
    gather x y a b c d = simp ringℤ

-- ---- one combination at one n

-- Where g(n) is 0, n is among the roots of g, and the relation listed for it says that the old row is zero there.
pub combine-root-at : (l : ℤ) (z : Sequence) (side : Side) (g : Polynomial) (r : Row) (n : ℤ) → T (not (is_zero_of g)) → eval g n ≡ pos 0
    → All (SatisfiesRelation l z) (root_relations side g r) → value_of l r z n ≡ pos 0
combine-root-at l z side g r n nonzero e a =
    all-member (λ n. value_of l r z n ≡ pos 0) (roots g) (place (roots g) (roots-complete g n nonzero e))
    ((root_relations-satisfied l z side g r).0 a)

-- ---- zero cells and the triangular form

cell-combine : (g h : Polynomial) (r q : Row) (i c : ℕ)
    → (cell (combine g h r q) i c ≡ add (mul g (cell r i c)) (mul h (cell q i c))) ⊎ (cell (combine g h r q) i c ≡ [])
unfolding combine
cell-combine g h r q i c = go (zip_with-place (zip_with f) r.blocks q.blocks i [] [] [])
  where
    f : Polynomial → Polynomial → Polynomial
    f = combine_entry g h

    go : (get_or (zip_with (zip_with f) r.blocks q.blocks) i [] ≡ zip_with f (get_or r.blocks i []) (get_or q.blocks i []))
        ⊎ (get_or (zip_with (zip_with f) r.blocks q.blocks) i [] ≡ [])
        → (cell (combine g h r q) i c ≡ f (cell r i c) (cell q i c)) ⊎ (cell (combine g h r q) i c ≡ [])
    go (inl e) = rw e (zip_with-place f (get_or r.blocks i []) (get_or q.blocks i []) c [] [] [])
    go (inr e) = inr (ap (λ b. get_or b c []) e)

pub combine-zero : (g h : Polynomial) (r q : Row) (i c : ℕ) → T (is_zero_of (cell r i c)) → T (is_zero_of (cell q i c))
    → T (is_zero_of (cell (combine g h r q) i c))
unfolding is_zero_of
combine-zero g h r q i c p e = go (cell-combine g h r q i c)
  where
    go : (cell (combine g h r q) i c ≡ add (mul g (cell r i c)) (mul h (cell q i c))) ⊎ (cell (combine g h r q) i c ≡ [])
        → T (is_zero_of (cell (combine g h r q) i c))
    go (inl f) = rw f (is_zero-add (mul g (cell r i c)) (mul h (cell q i c))
        (is_zero-mul-right g (cell r i c) p) (is_zero-mul-right h (cell q i c) e))
    go (inr f) = rw f tt

pub combined_row-zero : (g h : Polynomial) (r q : Row) → ZeroWhere (combine g h r q) (combined_row g h r q)
combined_row-zero g h r q i c z = cut-zero (primitive (combine g h r q)) i c (primitive-zero (combine g h r q) i c z)

-- Where g times one entry and h times the other cancel, the entry of the combination is zero.
pub combine-cancels : (g h : Polynomial) (r q : Row) (c : ℕ)
    → ((n : ℤ) → eval g n *ℤ eval (entry r c) n +ℤ eval h n *ℤ eval (entry q c) n ≡ pos 0) → T (is_zero_of (cell (combine g h r q) 0 c))
unfolding entry is_zero_of
combine-cancels g h r q c cancels = go (cell-combine g h r q 0 c)
  where
    go : (cell (combine g h r q) 0 c ≡ add (mul g (cell r 0 c)) (mul h (cell q 0 c))) ⊎ (cell (combine g h r q) 0 c ≡ [])
        → T (is_zero_of (cell (combine g h r q) 0 c))
    go (inl e) = rw e ((zero-everywhere (add (mul g (cell r 0 c)) (mul h (cell q 0 c)))).1
        (λ n. combined-polynomial g h n (cell r 0 c) (cell q 0 c) ∙ cancels n))
    go (inr e) = rw e tt

-- At the columns before place j both rows are zero. The new row is zero where g × r + h × q is.
pub combine-clears : (order : List ℕ) (j : ℕ) (g h : Polynomial) (r q r' : Row) → ZeroWhere (combine g h r q) r'
    → PivotRow order j r → PivotRow order j q
    → ((n : ℤ) → eval g n *ℤ eval (entry r (get_or order j 0)) n +ℤ eval h n *ℤ eval (entry q (get_or order j 0)) n ≡ pos 0)
    → (k : ℕ) → k ≤ j → T (is_zero_of (entry r' (get_or order k 0)))
unfolding entry
combine-clears order j g h r q r' kept p e cancels k b = kept 0 (get_or order k 0) (cases (ℕ_discrete k j))
  where
    cases : Dec (k ≡ j) → T (is_zero_of (cell (combine g h r q) 0 (get_or order k 0)))
    cases (yes f) = subst (λ n. T (is_zero_of (cell (combine g h r q) 0 (get_or order n 0)))) (sym f)
        (combine-cancels g h r q (get_or order j 0) cancels)
    cases (no n) = let f : k < j = omega arith in combine-zero g h r q 0 (get_or order k 0) (p.zeros k f) (e.zeros k f)

-- ---- the widths

-- The row that a combination makes is no wider than the wider of the two rows.
pub width-combine : (g h : Polynomial) (r q : Row) → width q ≤ width r → width (combine g h r q) ≤ width r
width-combine g h r q narrow = (width-le (combine g h r q) (width r)).1
    (λ i c k. combine-zero g h r q i c ((width-le r (width r)).0 (le_refl (width r)) i c k) ((width-le q (width r)).0 narrow i c k))

-- So is the row that is zero wherever the combination is; and what is added up over the rows, and does not fall where a row
-- gets wider, does not rise.
pub combine-total : (f : Row → ℕ) → ((r q : Row) → width r ≤ width q → f r ≤ f q)
    → (rows : List Row) (g h : Polynomial) (i j : ℕ) (r' : Row) → i < length rows
    → ZeroWhere (combine g h (get_or rows i no_row) (get_or rows j no_row)) r' → width (get_or rows j no_row) ≤ width (get_or rows i no_row)
    → total_of f (set rows i r') ≤ total_of f rows
combine-total f rising rows g h i j r' below kept narrow =
    omega (
      arith,
      total_of-set f rows i r' below,
      rising r' (get_or rows i no_row) (le_trans (width-no-wider r' (combine g h (get_or rows i no_row) (get_or rows j no_row)) kept)
          (width-combine g h (get_or rows i no_row) (get_or rows j no_row) narrow)),
    )

-- ---- the shape, and the unused places

-- The product of polynomials with suc a and suc k coefficients has suc (a + k).
product-length : (g p : Polynomial) (a k : ℕ) → length g ≡ suc a → length p ≡ suc k → length (mul g p) ≡ suc (a + k)
product-length [] p a k hg hp = absurd (omega arith)
product-length (x ∷ g) [] a k hg hp = absurd (omega arith)
product-length (x ∷ g) (y ∷ p) a k hg hp = length-mul x g y p ∙ ap₂ (λ u v. suc (u + v)) (suc_inj hg) (suc_inj hp)

module _ (g h : Polynomial) (a : ℕ) (length-g : length g ≡ suc a) (length-h : length h ≡ suc a) where
  sum-length : (k : ℕ) (p e : Polynomial) → length p ≡ suc k → length e ≡ suc k → length (combine_entry g h p e) ≡ suc (a + k)
  sum-length k p e hp he =
      length-add (mul g p) (mul h e) ∙ ap₂ max (product-length g p a k length-g hp) (product-length h e a k length-h he) ∙ omega arith

  combine-block_shaped : (c k : ℕ) (block block' : Block) → BlockShaped c (suc k) block → BlockShaped c (suc k) block'
      → BlockShaped c (suc (a + k)) (zip_with (combine_entry g h) block block')
  combine-block_shaped c k block block' x y = (
    length-zip_with (combine_entry g h) block block' (x.0 ∙ sym y.0) ∙ x.0,
    all-zip_with (λ p. length p ≡ suc k) (λ p. length p ≡ suc k) (λ p. length p ≡ suc (a + k)) (combine_entry g h)
        (sum-length k) block block' x.1 y.1,
  )

  -- Polynomials of suc k coefficients, combined by multipliers of suc a coefficients, have suc (a + k).
  pub combine-shaped : (b c k : ℕ) (r q : Row) → Shaped b c (suc k) r → Shaped b c (suc k) q → Shaped b c (suc (a + k)) (combine g h r q)
  unfolding Shaped combine
  combine-shaped b c k r q x y = (
    length-zip_with (zip_with (combine_entry g h)) r.blocks q.blocks (x.0 ∙ sym y.0) ∙ x.0,
    all-zip_with (BlockShaped c (suc k)) (BlockShaped c (suc k)) (BlockShaped c (suc (a + k)))
        (zip_with (combine_entry g h)) (combine-block_shaped c k) r.blocks q.blocks x.1 y.1,
    sum-length k r.right q.right x.2 y.2,
  )

  -- Cut to 16 coefficients, where there are as many.
  pub combined_row-shaped : (b c k : ℕ) (r q : Row) → coefficient_count ≤ suc (a + k) → Shaped b c (suc k) r → Shaped b c (suc k) q
      → Shaped b c coefficient_count (combined_row g h r q)
  combined_row-shaped b c k r q long x y =
      cut-shaped b c (suc (a + k)) (primitive (combine g h r q)) long
      (primitive-shaped b c (suc (a + k)) (combine g h r q) (combine-shaped b c k r q x y))

pub combine-unused : (g h : Polynomial) (m D : ℕ) (r q r' : Row) → ZeroWhere (combine g h r q) r'
    → T (unused_zero_of m D r) → T (unused_zero_of m D q) → T (unused_zero_of m D r')
combine-unused g h m D r q r' kept x y =
    unused-kept m D (combine g h r q) r' kept
    ((unused-cells m D (combine g h r q)).1
    (λ i c e. combine-zero g h r q i c ((unused-cells m D r).0 x i c e) ((unused-cells m D q).0 y i c e)))
