-- The shift of a row up: every block moves up by one and n becomes n + 1. The leading block, which is lost, is zero.
--
-- Main statements
--   value-shift_up, shift_up-at    the shifted row at n is the row at n + 1
--   shift_up-satisfied            the same sequences satisfy the list
--   shift_up-dependent            the list is dependent exactly if it was
--   cell-shift_up, shift_up-entry  the zero cells move up by one block: the leading entries are those of the block below
--   width-shift_up, shift_up-width the row is one block narrower, and so is the list
--   shift_up-shifts               and the list has one shift fewer before it
--   shift_up-shaped, shift_up-unused   the shape, and the unused places
-- The triangular form of the rows before it stays: `replace-pivots`; it is none of them: `pivot-leading`.
use Rattle.std.specs.Prelude.{ℕ, zero, suc, ◌≤◌, ◌<◌, ◌≡◌, refl, ◌↔◌, true, T, length, get_or, set, ℤ, pos, ◌+ℤ◌, ◌-ℤ◌}
use Rattle.std.proofs.Common.{zero-le, sym, ◌∙◌, ap, subst, ap₂, inl, inr, ⊎_elim, arith, length-append}
use mathlib.Core.List.{List, [], ◌∷◌, ◌++◌, tail}
use Rattle.std.proofs.Math.Nat.{suc-le-suc_iff}
use Rattle.std.proofs.Math.IntN.{pred_ℤ, +ℤ_idl, +ℤ_one, suc_ℤ-+ℤ, pred-suc}
use Rattle.algebra.specs.Polynomials.{is_zero_of, shift, eval-shift, is_zero-shift, length_shift, Polynomial}
use Rattle.lists.specs.Tests.{T-&&, every}
use Rattle.rules.specs.Rows.{Block, Row, Relation, no_row, zero_block, width, leading_block, entry, blank, shift_up}
use Rattle.lists.specs.Everywhere.{All, append-all}
use Rattle.rules.specs.Stores.{Shaped, unused_zero_of}
use Rattle.rules.specs.Sequences.{Sequence, blocks_value, value_of, Satisfies, Dependent}
use Rattle.theory.specs.Cells.{blank-zero, cell, ZeroFrom, entry-cell, cell-map_row, append-zero, width-le, width-moved, zero_block-at}
use Rattle.theory.specs.Cells.{unused-cells, total_of, total_of-set, total_width, shifts_of}
use Rattle.theory.specs.Shapes.{BlockShaped, map_row-shaped, blank-shaped}
use Rattle.theory.specs.Values.{blocks-always, block-zero, blocks-append-zero}
use Rattle.theory.specs.Replace.{moved-satisfied, moved-dependent}

-- The blocks moved up, before n + 1 is put for n.
abbrev moved : Row → Row
moved r = record { blocks = tail r.blocks ++ (blank (get_or r.blocks 0 []) ∷ []); right = r.right }

-- ---- values, pointwise in n

-- Block l is zero, so the index of the first block that counts is that of the block below it.
moved_up : (n k : ℤ) (z : Sequence) (bs : List Block) → T (zero_block (get_or bs 0 []))
    → blocks_value n z (pred_ℤ k) (tail bs) ≡ blocks_value n z k bs
unfolding blocks_value
moved_up n k z [] h = refl
moved_up n k z (b ∷ bs) h =
    sym (ap (λ x. x +ℤ blocks_value n z (pred_ℤ k) bs) (block-zero n (z k) b h) ∙ +ℤ_idl (blocks_value n z (pred_ℤ k) bs))

pub value-shift_up : (l : ℤ) (r : Row) (z : Sequence) (n : ℤ) → T (zero_block (leading_block r))
    → value_of l (shift_up r) z n ≡ value_of l r z (n +ℤ pos 1)
unfolding value_of shift_up leading_block every
value-shift_up l r z n h =
    ap₂ ◌-ℤ◌ (blocks-always shift (moved r) z n (n +ℤ pos 1) (n +ℤ l) (λ p. eval-shift p n)
    ∙ blocks-append-zero (n +ℤ pos 1) z (n +ℤ l) (tail r.blocks) (blank (leading_block r) ∷ [])
    ((T-&& (zero_block (blank (leading_block r))) true).1 (blank-zero (leading_block r), tt))
    ∙ ap (λ k. blocks_value (n +ℤ pos 1) z k (tail r.blocks)) index
    ∙ moved_up (n +ℤ pos 1) (n +ℤ pos 1 +ℤ l) z r.blocks h)
    (eval-shift r.right n)
  where
    index : n +ℤ l ≡ pred_ℤ (n +ℤ pos 1 +ℤ l)
    index = sym (ap pred_ℤ (ap (λ m. m +ℤ l) (+ℤ_one n) ∙ suc_ℤ-+ℤ n l) ∙ pred-suc (n +ℤ l))

pub shift_up-at : (l : ℤ) (r : Row) (z : Sequence) (n : ℤ) → T (zero_block (leading_block r))
    → (value_of l (shift_up r) z n ≡ pos 0) ↔ (value_of l r z (n +ℤ pos 1) ≡ pos 0)
shift_up-at l r z n zeros = (λ e. sym (value-shift_up l r z n zeros) ∙ e, λ e. value-shift_up l r z n zeros ∙ e)

-- ---- the sequences, and dependence both ways

module _ (l : ℤ) (rows : List Row) (i : ℕ) (below : i < length rows) (zeros : T (zero_block (leading_block (get_or rows i no_row)))) where
  pub shift_up-satisfied : (z : Sequence) (relations : List Relation)
      → Satisfies l rows relations z ↔ Satisfies l (set rows i (shift_up (get_or rows i no_row))) relations z
  shift_up-satisfied = moved-satisfied l rows i (shift_up (get_or rows i no_row)) below (λ z n. value-shift_up l (get_or rows i no_row) z n zeros)

  pub shift_up-dependent : Dependent l rows ↔ Dependent l (set rows i (shift_up (get_or rows i no_row)))
  shift_up-dependent = moved-dependent l rows i (shift_up (get_or rows i no_row)) below (λ z n. value-shift_up l (get_or rows i no_row) z n zeros)

-- ---- zero cells

-- The blocks move up by one.
pub cell-shift_up : (r : Row) (i c : ℕ) → is_zero_of (cell (shift_up r) i c) ≡ is_zero_of (cell r (suc i) c)
unfolding shift_up leading_block
cell-shift_up r i c = ap is_zero_of (cell-map_row shift refl (moved r) i c) ∙ is_zero-shift (cell (moved r) i c) ∙ go r.blocks
  where
    go : (bs : List Block) → is_zero_of (cell (moved (record { blocks = bs; right = [] })) i c) ≡ is_zero_of (get_or (get_or bs (suc i) []) c [])
    go [] = append-zero [] (blank []) (blank-zero []) i c
    go (b ∷ bs) = append-zero bs (blank b) (blank-zero b) i c

pub shift_up-entry : (r : Row) (c : ℕ) → is_zero_of (entry (shift_up r) c) ≡ is_zero_of (cell r 1 c)
shift_up-entry r c = ap is_zero_of (entry-cell (shift_up r) c) ∙ cell-shift_up r 0 c

-- ---- the widths

-- A shift takes one off the sum of all widths (SCOPE 2.65).
pub width-shift_up : (r : Row) → 0 < width r → width r ≡ suc (width (shift_up r))
width-shift_up r = width-moved r (shift_up r) (λ i c. sym (cell-shift_up r i c))

pub shift_up-width : (rows : List Row) (i : ℕ) → i < length rows → 0 < width (get_or rows i no_row)
    → total_width rows ≡ suc (total_width (set rows i (shift_up (get_or rows i no_row))))
shift_up-width rows i below positive =
    omega (arith, total_of-set width rows i (shift_up (get_or rows i no_row)) below, width-shift_up (get_or rows i no_row) positive)

-- A row with a left part and a zero leading block is wider than one block.
shift_up-wide : (r : Row) → 0 < width r → T (zero_block (leading_block r)) → 1 < width r
unfolding leading_block
shift_up-wide r positive zeros = not-le (λ h. none ((width-le r 0).1 (all-zero h)))
  where
    all-zero : width r ≤ 1 → ZeroFrom 0 r
    all-zero h zero c k = zero_block-at (leading_block r) zeros c
    all-zero h (suc i) c k = (width-le r 1).0 h (suc i) c (suc-le-suc_iff.1 zero-le)

    none : ¬ (width r ≤ 0)
    none h = omega arith

    not-le : ¬ (width r ≤ 1) → 1 < width r
    not-le n = omega arith

-- So it has one shift fewer before it (SCOPE 2.65).
pub shift_up-shifts : (rows : List Row) (i : ℕ) → i < length rows → 0 < width (get_or rows i no_row)
    → T (zero_block (leading_block (get_or rows i no_row)))
    → total_of shifts_of rows ≡ suc (total_of shifts_of (set rows i (shift_up (get_or rows i no_row))))
shift_up-shifts rows i below positive zeros =
    omega (
      arith,
      total_of-set shifts_of rows i (shift_up (get_or rows i no_row)) below,
      width-shift_up (get_or rows i no_row) positive,
      shift_up-wide (get_or rows i no_row) positive zeros,
    )

-- ---- the shape, and the unused places

moved-shaped : (b c k : ℕ) (bs : List Block) (q : Polynomial) → 0 < b → Shaped b c k (record { blocks = bs; right = q })
    → Shaped b c k (moved (record { blocks = bs; right = q }))
unfolding Shaped All
moved-shaped b c k [] q n h = absurd (omega (arith, h.0))
moved-shaped b c k (x ∷ bs) q n h = (
  length-append bs (blank x ∷ []) ∙ omega (arith, h.0),
  append-all (BlockShaped c k) bs (blank x ∷ []) h.1.1 (blank-shaped c k x h.1.0, tt),
  h.2,
)

pub shift_up-shaped : (b c k : ℕ) (r : Row) → 0 < b → Shaped b c k r → Shaped b c k (shift_up r)
unfolding shift_up leading_block
shift_up-shaped b c k r n h = map_row-shaped shift k k (λ p e. length_shift p ∙ e) b c (moved r) (moved-shaped b c k r.blocks r.right n h)

pub shift_up-unused : (m D : ℕ) (r : Row) → T (unused_zero_of m D r) → T (unused_zero_of m D (shift_up r))
shift_up-unused m D r u = (unused-cells m D (shift_up r)).1
    (λ i c h. subst T (sym (cell-shift_up r i c)) ((unused-cells m D r).0 u (suc i) c (⊎_elim inl (λ e. inr (omega arith)) h)))
