-- The shift of a row down: every block moves down by one and n becomes n - 1. The last block, which is lost, is zero.
--
-- Main definitions
--   last_block r                    the last block of a row
--   shift_down r                    the row shifted down; a zero block comes in at the top
--
-- Main statements
--   value-shift_down, shift_down-at  the shifted row at n is the row at n - 1
--   shift_down-shift_up, shift_up-shift_down   the shifts down and up undo each other where the block that the first loses is zero
--   shift_down-satisfied            the same sequences satisfy the list
--   shift_down-dependent            the list is dependent exactly if it was
--   cell-shift_down, shift_down-entry   the zero cells move down by one block, and the leading entries are zero
--   width-shift_down, shift_down-width  a row that is not zero is one block wider, and so is the list
--   shift_down-shaped               the shape stays
--   lost-zero, shift_down-unused    where block l - D of D + 1 in use is zero, the block lost is zero and unused places stay zero
-- The triangular form of the rows before it stays: `replace-pivots`; the shifted row is none of them: `pivot-leading`.
use Rattle.std.specs.Prelude.{ℕ, zero, suc, ◌-◌, ◌≤◌, ◌<◌, ◌≡◌, refl, ◌↔◌, ◌⊎◌, Bool, true, length, get_or, set, ℤ, pos, negsuc, ◌+ℤ◌, ◌-ℤ◌}
use Rattle.std.proofs.Common.{sym, ◌∙◌, ap, ap₂, inl, inr, ⊎_elim, add-one, not-suc-le-zero, zero-lt-suc, lt_of_lt_of_le, arith, length-set, length-append}
use Rattle.std.proofs.Math.Path.{subst}
use Rattle.std.proofs.Math.Logic.{by_cases}
use mathlib.Core.Logic.Iff
use Rattle.std.proofs.Math.Decide.{ℕ_discrete}
use mathlib.Core.List.{List, [], ◌∷◌, ◌++◌, map, map-append, drop_last, get_last_d}
use Rattle.std.proofs.Math.Nat.{suc-le-suc_iff}
use Rattle.std.proofs.Math.Dec.{T}
use Rattle.std.proofs.Math.IntN.{pred_ℤ, +ℤ_idl, pred_ℤ-+ℤ, +ℤ-neg_ℤ_cancel, -ℤ_one}
use Rattle.algebra.specs.Polynomials.{Polynomial, is_zero_of, shift, shift_by, eval-shift_by, is_zero-shift_by, length-shift_by, shift_by-inverse}
use Rattle.lists.specs.Tests.{T-&&, every, all-of-every, every-of-all}
use Rattle.rules.specs.Rows.{Block, Row, Relation, no_row, map_row, zero_block, width, leading_block, entry, blank, shift_up}
use Rattle.lists.specs.Everywhere.{All, all-always, map-keeps, all-front, all_back}
use Rattle.lists.specs.Images.{map_back}
use Rattle.rules.specs.Stores.{Shaped, unused_zero_of}
use Rattle.rules.specs.Sequences.{Sequence, blocks_value, value_of, Satisfies, Dependent}
use Rattle.lists.specs.Taken.{front-last, drop_last-behind, get_last_d-behind, get_last_d-place}
use Rattle.theory.specs.Cells.{zero_block-all, zero_block-at, width-moved, width-moved-le, blank-zero, blank-same, cell, entry-cell}
use Rattle.theory.specs.Cells.{cell-map_row, append-zero, total_width, total_of-set, unused-cells}
use Rattle.theory.specs.Shapes.{BlockShaped, map_row-shaped, blank-shaped}
use Rattle.theory.specs.Values.{blocks-always, block-zero, blocks-append-zero}
use Rattle.theory.specs.Combinations.{moved-iff}
use Rattle.theory.specs.ByValues.{row_values, by_values}
use Rattle.theory.specs.Replace.{replaced-value, kept-value, replace-satisfied, moved-equation}

-- ---- the shift

unfoldable pub last_block : Row → Block
last_block r = get_last_d r.blocks []

-- The blocks moved down, before n - 1 is put for n.
abbrev moved : Row → Row
moved r = record { blocks = blank (last_block r) ∷ drop_last r.blocks; right = r.right }

unfoldable pub shift_down : Row → Row
shift_down r = map_row (shift_by (negsuc 0)) (moved r)

-- The blocks are all but the last and the last, where there is one.
front-last_block : (r : Row) → 0 < length r.blocks → drop_last r.blocks ++ (last_block r ∷ []) ≡ r.blocks
unfolding last_block
front-last_block r h = front-last r.blocks [] h

last-or-none : (r : Row) → (drop_last r.blocks ≡ r.blocks) ⊎ (drop_last r.blocks ++ (last_block r ∷ []) ≡ r.blocks)
last-or-none r = cases r.blocks refl
  where
    cases : (bs : List Block) → r.blocks ≡ bs → (drop_last r.blocks ≡ r.blocks)
        ⊎ (drop_last r.blocks ++ (last_block r ∷ []) ≡ r.blocks)
    cases [] e = inl (ap drop_last e ∙ sym e)
    cases (b ∷ bs) e = inr (front-last_block r (subst (λ l. 0 < length l) (sym e) (zero-lt-suc (length bs))))

-- ---- values, pointwise in n

-- The last block is zero, so it does not count.
moved_down : (n : ℤ) (z : Sequence) (k : ℤ) (r : Row) → T (zero_block (last_block r))
    → blocks_value n z k (drop_last r.blocks) ≡ blocks_value n z k r.blocks
unfolding every
moved_down n z k r zeros = ⊎_elim (ap (blocks_value n z k))
    (λ e. sym (blocks-append-zero n z k (drop_last r.blocks) (last_block r ∷ []) ((T-&& (zero_block (last_block r)) true).1 (zeros, tt)))
    ∙ ap (blocks_value n z k) e) (last-or-none r)

pub value-shift_down : (l : ℤ) (r : Row) (z : Sequence) (n : ℤ) → T (zero_block (last_block r))
    → value_of l (shift_down r) z n ≡ value_of l r z (n -ℤ pos 1)
unfolding value_of shift_down map_row blocks_value
value-shift_down l r z n zeros =
    ap₂ ◌-ℤ◌ (blocks-always (shift_by (negsuc 0)) (moved r) z n m (n +ℤ l) (λ p. eval-shift_by (negsuc 0) p n)
    ∙ ap (λ x. x +ℤ blocks_value m z (pred_ℤ (n +ℤ l)) (drop_last r.blocks))
    (block-zero m (z (n +ℤ l)) (blank (last_block r)) (blank-zero (last_block r)))
    ∙ +ℤ_idl (blocks_value m z (pred_ℤ (n +ℤ l)) (drop_last r.blocks))
    ∙ ap (λ k. blocks_value m z k (drop_last r.blocks)) (sym (pred_ℤ-+ℤ n l) ∙ ap (λ k. k +ℤ l) (sym (-ℤ_one n)))
    ∙ moved_down m z (m +ℤ l) r zeros)
    (eval-shift_by (negsuc 0) r.right n)
  where
    m : ℤ
    m = n -ℤ pos 1

pub shift_down-at : (l : ℤ) (r : Row) (z : Sequence) (n : ℤ) → T (zero_block (last_block r))
    → (value_of l (shift_down r) z n ≡ pos 0) ↔ (value_of l r z (n -ℤ pos 1) ≡ pos 0)
shift_down-at l r z n zeros = (λ e. sym (value-shift_down l r z n zeros) ∙ e, λ e. value-shift_down l r z n zeros ∙ e)

-- The row at n is the shifted row at n + 1.
value-back : (l : ℤ) (r : Row) (z : Sequence) (n : ℤ) → T (zero_block (last_block r))
    → value_of l r z n ≡ value_of l (shift_down r) z (n +ℤ pos 1)
value-back l r z n zeros = sym (value-shift_down l r z (n +ℤ pos 1) zeros ∙ ap (value_of l r z) (+ℤ-neg_ℤ_cancel n (pos 1)))

-- ---- the shifts undo each other

module _ (f g : Polynomial → Polynomial) (undoes : (p : Polynomial) → g (f p) ≡ p) where
  undone : (b : Block) → map g (map f b) ≡ b
  undone b = map_back f g b (all-always (λ p. g (f p) ≡ p) undoes b)

  undone-blocks : (bs : List Block) → map (map g) (map (map f) bs) ≡ bs
  undone-blocks bs = map_back (map f) (map g) bs (all-always (λ b. map g (map f b) ≡ b) undone bs)

-- A zero block that is blanked, moved by f, blanked again and moved back.
twice-blank : (f g : Polynomial → Polynomial) → ((p : Polynomial) → g (f p) ≡ p) → ((p : Polynomial) → is_zero_of (f p) ≡ is_zero_of p)
    → (b : Block) → T (zero_block b) → map g (blank (map f (blank b))) ≡ b
unfolding zero_block
twice-blank f g undoes same b z =
    ap (λ x. map g (blank (map f x))) (blank-same b z) ∙ ap (map g) (blank-same (map f b) zeros) ∙ undone f g undoes b
  where
    zeros : T (zero_block (map f b))
    zeros = every-of-all is_zero_of (map f b)
        (map-keeps (λ p. T (is_zero_of p)) (λ p. T (is_zero_of p)) f (λ p t. subst T (sym (same p)) t) b (all-of-every is_zero_of b z))

pub shift_down-shift_up : (r : Row) → 0 < length r.blocks → T (zero_block (leading_block r)) → shift_down (shift_up r) ≡ r
unfolding shift_down shift_up map_row last_block leading_block shift
shift_down-shift_up r some zeros =
    ap₂ (λ bs q. record { blocks = bs; right = q }) (go r.blocks some zeros) (shift_by-inverse (pos 1) r.right)
  where
    up : Polynomial → Polynomial
    up = shift_by (pos 1)

    down : Polynomial → Polynomial
    down = shift_by (negsuc 0)

    go : (bs : List Block) → 0 < length bs → T (zero_block (get_or bs 0 []))
        → (shift_down (shift_up (record { blocks = bs; right = [] }))).blocks ≡ bs
    go [] h z = absurd (not-suc-le-zero h)
    go (b ∷ bs) h z =
        ap (λ l. map (map down) (blank (get_last_d l []) ∷ drop_last l)) (map-append (map up) bs (blank b ∷ []))
        ∙ ap₂ (λ x l. map (map down) (blank x ∷ l)) (get_last_d-behind (map (map up) bs) (map up (blank b)) [])
        (drop_last-behind (map (map up) bs) (map up (blank b)))
        ∙ ap₂ ◌∷◌ (twice-blank up down (shift_by-inverse (pos 1)) (is_zero-shift_by (pos 1)) b z)
        (undone-blocks up down (shift_by-inverse (pos 1)) bs)

pub shift_up-shift_down : (r : Row) → 0 < length r.blocks → T (zero_block (last_block r)) → shift_up (shift_down r) ≡ r
unfolding shift_down shift_up map_row leading_block shift
shift_up-shift_down r some zeros = ap₂ (λ bs q. record { blocks = bs; right = q })
    (map-append (map up) (map (map down) (drop_last r.blocks)) (blank (map down (blank (last_block r))) ∷ [])
    ∙ ap₂ (λ l b. l ++ (b ∷ [])) (undone-blocks down up (shift_by-inverse (negsuc 0)) (drop_last r.blocks))
    (twice-blank down up (shift_by-inverse (negsuc 0)) (is_zero-shift_by (negsuc 0)) (last_block r) zeros)
    ∙ front-last_block r some)
    (shift_by-inverse (negsuc 0) r.right)
  where
    up : Polynomial → Polynomial
    up = shift_by (pos 1)

    down : Polynomial → Polynomial
    down = shift_by (negsuc 0)

-- ---- the sequences, and dependence both ways

module _ (l : ℤ) (rows : List Row) (i : ℕ) (below : i < length rows) (zeros : T (zero_block (last_block (get_or rows i no_row)))) where
  pub shift_down-satisfied : (z : Sequence) (relations : List Relation)
      → Satisfies l rows relations z ↔ Satisfies l (set rows i (shift_down (get_or rows i no_row))) relations z
  shift_down-satisfied z relations = replace-satisfied l z rows relations i (shift_down (get_or rows i no_row)) below
      (Iff.symm (moved-equation l z (shift_down (get_or rows i no_row)) (get_or rows i no_row) (λ n. value-back l (get_or rows i no_row) z n zeros)))

  pub shift_down-dependent : Dependent l rows ↔ Dependent l (set rows i (shift_down (get_or rows i no_row)))
  shift_down-dependent = by_values l rows (set rows i r) (length-set rows i r)
      (Iff.symm (moved-iff (length rows) i (row_values l (set rows i r)) (row_values l rows)
      (λ z n. value-back l (get_or rows i no_row) z n zeros ∙ sym (replaced-value l rows i r below z (n +ℤ pos 1)))
      (λ z k n other. sym (kept-value l rows i r z k n other))))
    where
      r : Row
      r = shift_down (get_or rows i no_row)

-- ---- zero cells

-- The cells of the shifted row are zero where those of the moved blocks are.
cell-moved : (r : Row) (i c : ℕ) → is_zero_of (cell (shift_down r) i c) ≡ is_zero_of (cell (moved r) i c)
unfolding shift_down shift_by
cell-moved r i c = ap is_zero_of (cell-map_row (shift_by (negsuc 0)) refl (moved r) i c) ∙ is_zero-shift_by (negsuc 0) (cell (moved r) i c)

-- A zero block comes in at the top.
pub shift_down-entry : (r : Row) (c : ℕ) → T (is_zero_of (entry (shift_down r) c))
shift_down-entry r c =
    subst T (sym (ap is_zero_of (entry-cell (shift_down r) c) ∙ cell-moved r 0 c))
    (zero_block-at (blank (last_block r)) (blank-zero (last_block r)) c)

-- The blocks move down by one.
pub cell-shift_down : (r : Row) (i c : ℕ) → T (zero_block (last_block r)) → is_zero_of (cell (shift_down r) (suc i) c) ≡ is_zero_of (cell r i c)
cell-shift_down r i c zeros =
    cell-moved r (suc i) c
    ∙ ⊎_elim (ap at) (λ e. sym (append-zero (drop_last r.blocks) (last_block r) zeros i c) ∙ ap at e) (last-or-none r)
  where
    at : List Block → Bool
    at bs = is_zero_of (get_or (get_or bs i []) c [])

-- ---- the widths

pub width-shift_down : (r : Row) → T (zero_block (last_block r)) → 0 < width r → width (shift_down r) ≡ suc (width r)
width-shift_down r zeros positive =
    width-moved (shift_down r) r lower (lt_of_lt_of_le positive (width-moved-le (shift_down r) r lower))
  where
    lower : (i c : ℕ) → is_zero_of (cell (shift_down r) (suc i) c) ≡ is_zero_of (cell r i c)
    lower i c = cell-shift_down r i c zeros

pub shift_down-width : (rows : List Row) (i : ℕ) → i < length rows → T (zero_block (last_block (get_or rows i no_row)))
    → 0 < width (get_or rows i no_row) → total_width (set rows i (shift_down (get_or rows i no_row))) ≡ suc (total_width rows)
shift_down-width rows i below zeros positive =
    omega (arith, total_of-set width rows i (shift_down (get_or rows i no_row)) below, width-shift_down (get_or rows i no_row) zeros positive)

-- ---- the shape, and the unused places

pub shift_down-shaped : (b c k : ℕ) (r : Row) → 0 < b → Shaped b c k r → Shaped b c k (shift_down r)
unfolding shift_down Shaped All
shift_down-shaped b c k r some h = map_row-shaped (shift_by (negsuc 0)) k k (λ p e. length-shift_by (negsuc 0) p ∙ e) b c (moved r) shaped
  where
    shaped : Shaped b c k (moved r)
    shaped =
        let split = front-last_block r (subst (λ n. 0 < n) (sym h.0) some) in
        let members = subst (All (BlockShaped c k)) (sym split) h.1 in (
          sym (add-one (length (drop_last r.blocks))) ∙ sym (length-append (drop_last r.blocks) (last_block r ∷ [])) ∙ ap length split
              ∙ h.0,
          (
            blank-shaped c k (last_block r) (all_back (BlockShaped c k) (drop_last r.blocks) (last_block r ∷ []) members).0,
            all-front (BlockShaped c k) (drop_last r.blocks) (last_block r ∷ []) members,
          ),
          h.2,
        )

-- A row whose D + 1 blocks in use stand in the first places loses a zero block if the last in use is zero.
module _ (m D : ℕ) (r : Row) (reaches : suc D ≤ length r.blocks) (unused : T (unused_zero_of m D r))
    (empty : T (zero_block (get_or r.blocks D []))) where
  zero-from : (i c : ℕ) → D ≤ i → T (is_zero_of (cell r i c))
  zero-from i c h = by_cases (ℕ_discrete i D)
      (λ e. subst (λ n. T (is_zero_of (cell r n c))) (sym e) (zero_block-at (get_or r.blocks D []) empty c))
      (λ n. (unused-cells m D r).0 unused i c (inr (omega arith)))

  pub lost-zero : T (zero_block (last_block r))
  unfolding last_block
  lost-zero = subst (λ b. T (zero_block b)) (sym (get_last_d-place r.blocks [] (length r.blocks - 1) (omega arith)))
      (zero_block-all (get_or r.blocks (length r.blocks - 1) []) (λ c. zero-from (length r.blocks - 1) c (omega arith)))

  pub shift_down-unused : T (unused_zero_of m D (shift_down r))
  shift_down-unused = (unused-cells m D (shift_down r)).1 kept
    where
      kept : (i c : ℕ) → (m ≤ c) ⊎ (suc D ≤ i) → T (is_zero_of (cell (shift_down r) i c))
      kept zero c h = subst (λ p. T (is_zero_of p)) (entry-cell (shift_down r) c) (shift_down-entry r c)
      kept (suc i) c h = subst T (sym (cell-shift_down r i c lost-zero))
          (⊎_elim (λ e. (unused-cells m D r).0 unused i c (inl e)) (λ e. zero-from i c (suc-le-suc_iff.0 e)) h)
