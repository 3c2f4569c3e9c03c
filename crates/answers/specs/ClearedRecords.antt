-- Records cleared one by one: of each its first numbers in use and its right side, between which it is zero.
--
-- Main definitions
--   ZeroBetween size used n l   each of the first n records of a store is zero between its first `used` numbers and its right side
--   cleared_to l size n k        the store with its first k numbers cleared, of n records
--
-- Main statements
--   record-cleared       one record more
--   blocks-fit           the blocks in use are within a row's left part
--   rows-between, relations-between   what passes the writer's check is zero between the blocks in use and the right side
use Prim.Native.Nat.{ℕ, suc, ◌+◌, ◌*◌, ◌-◌, ◌≤◌, ◌<◌}
use Rattle.std.proofs.Common.{zero-add, add_assoc, suc-mul, mul-le-mul_right, le_refl, sym, ◌∙◌, ap₂, inl, length-drop, length-take, take-append-drop, drop_of_length-le, take-add, take-take, drop-drop, length-take-le}
use native.Mathlib.Omega.{arith}
use Rattle.std.specs.Prelude.{◌≡◌, pos, length, drop, replicate}
use Rattle.std.proofs.Math.Path.{ap, subst}
use mathlib.Core.List.{List, ◌++◌, append_assoc}
use Rattle.std.proofs.Math.Dec.{T}
use Rattle.std.proofs.Math.IntN.{ℤ}
use Rattle.std.proofs.Math.ListN.{take}
use Rattle.std.proofs.lemmas.List.{length-replicate}
use Rattle.std.proofs.Math.Seq.{paste}
use Rattle.std.proofs.lemmas.List.Edits.{take-paste}
use Rattle.lists.specs.Parts.{held-every}
use Rattle.lists.specs.Pasted.{paste-rest}
use Rattle.lists.specs.Taken.{drop-take, part-of-part}
use Rattle.algebra.specs.Polynomials.{is_zero_of, zero-list}
use Rattle.rules.specs.Limits.{coefficient_count, column_count, polynomial_count, block_count, block_length, entries_length, row_length}
use Rattle.rules.specs.Limits.{relation_length}
use Rattle.rules.specs.Calls.{zeros}
use Rattle.rules.specs.Stores.{Sizes, equations, span, row_of, rows_of, relation_of, relations_of, row_right_of, relation_right_of}
use Rattle.rules.specs.Layout.{NumbersRight, numbers_right-iff, coefficients_at_of}
use Rattle.rules.specs.SheetCalls.{check_write_of}
use Rattle.stores.specs.Checks.{unused-iff}
use Rattle.working_rows.specs.Found.{zero-from}
use Rattle.theory.specs.LimitsKept.{row_right-iff, relation_right-iff}
use Rattle.reading.specs.Zeros.{length-zeros, take-zeros, drop-zeros}
use Rattle.writing.specs.WriterChecks.{check_write-iff, checked}

abbrev pub ZeroBetween : ℕ → ℕ → ℕ → List ℤ → Type 0
ZeroBetween size used n l = (i : ℕ) → i < n → T (is_zero_of (take (size - coefficient_count - used) (drop (i * size + used) l)))

abbrev pub cleared_to : List ℤ → ℕ → ℕ → ℕ → List ℤ
cleared_to l size n k = paste l 0 (replicate (n * size) (pos 0)) k

-- ---- parts pasted

-- What stands at a place, pasted there.
paste-own : (d : List ℤ) (a w : ℕ) → paste d a (take w (drop a d)) w ≡ d
paste-own d a w =
    ap (λ p. take a d ++ p ++ drop (a + w) d) (take-take w w (drop a d) (le_refl w))
    ∙ append_assoc (take a d) (take w (drop a d)) (drop (a + w) d)
    ∙ ap (λ r. take a d ++ (take w (drop a d) ++ r)) (sym (drop-drop w a d))
    ∙ ap (λ r. take a d ++ r) (take-append-drop w (drop a d)) ∙ take-append-drop a d

-- More of the same numbers behind them.
paste_more : (d : List ℤ) (at : ℕ) (s : List ℤ) (k w : ℕ) → at + k + w ≤ length d → k + w ≤ length s
    → paste (paste d at s k) (at + k) (take w (drop k s)) w ≡ paste d at s (k + w)
paste_more d at s k w room long =
    ap₂ (λ x y. x ++ take w (take w (drop k s)) ++ y) (take-paste d at s k (omega arith) (omega arith))
    (paste-rest d at s k (at + k + w) (omega arith) (omega arith) (omega arith))
    ∙ ap₂ (λ x y. take at d ++ take k s ++ x ++ drop y d) (take-take w w (drop k s) (le_refl w)) (add_assoc at k w)
    ∙ ap (λ x. x ++ drop (at + (k + w)) d)
    (append_assoc (take at d) (take k s) (take w (drop k s)) ∙ ap (λ x. take at d ++ x) (sym (take-add k w s)))

-- ---- one record more

-- The first k of n numbers cleared.
module _ (l : List ℤ) (n : ℕ) (room : n ≤ length l) where
  abbrev done : ℕ → List ℤ
  done k = paste l 0 (replicate n (pos 0)) k

  more : (k w : ℕ) → k + w ≤ n → paste (done k) k (replicate w (pos 0)) w ≡ done (k + w)
  unfolding zeros
  more k w h =
      ap (λ p. paste (done k) k p w) (sym part) ∙ ap (λ a. paste (done k) a (take w (drop k (zeros n))) w) (sym (zero-add k))
      ∙ paste_more l 0 (zeros n) k w (omega arith) (omega (arith, length-zeros n))
    where
      part : take w (drop k (zeros n)) ≡ zeros w
      part = ap (take w) (drop-zeros k n (omega arith)) ∙ take-zeros w (n - k) (omega arith)

  -- Zeros are there already.
  own : (k w : ℕ) → k + w ≤ n → T (is_zero_of (take w (drop k l))) → done (k + w) ≡ done k
  own k w h z = sym (more k w h) ∙ ap (λ p. paste (done k) k p w) (sym there) ∙ paste-own (done k) k w
    where
      there : take w (drop k (done k)) ≡ replicate w (pos 0)
      there =
          ap (take w) (paste-rest l 0 (replicate n (pos 0)) k k (omega arith) (omega (arith, length-replicate n (pos 0))) (omega arith))
          ∙ zero-list (take w (drop k l)) z
          ∙ ap (λ j. replicate j (pos 0)) (length-take-le w (drop k l) (rw length-drop (omega arith)))

module _ (l : List ℤ) (size used n : ℕ) (fits : used + coefficient_count ≤ size) (room : n * size ≤ length l)
    (zero : ZeroBetween size used n l) where
  abbrev to : ℕ → List ℤ
  to = cleared_to l size n

  pub record-within : (i : ℕ) → i < n → i * size + size ≤ n * size
  record-within i h = omega (arith, suc-mul i size, mul-le-mul_right size h)

  pub record-cleared : (i : ℕ) → i < n
      → paste (paste (to (i * size)) (i * size) (replicate used (pos 0)) used) (i * size + (size - coefficient_count))
      (replicate coefficient_count (pos 0)) coefficient_count
      ≡ to ((i + 1) * size)
  record-cleared i h =
      ap (λ s. paste s side (replicate coefficient_count (pos 0)) coefficient_count) front
      ∙ more l (n * size) room side coefficient_count (omega (arith, inside)) ∙ ap to next
    where
      side : ℕ
      side = i * size + (size - coefficient_count)

      inside : i * size + size ≤ n * size
      inside = record-within i h

      place : i * size + used + (size - coefficient_count - used) ≡ side
      place = omega arith

      next : side + coefficient_count ≡ (i + 1) * size
      next = omega (arith, suc-mul i size)

      front : paste (to (i * size)) (i * size) (replicate used (pos 0)) used ≡ to side
      front =
          more l (n * size) room (i * size) used (omega (arith, inside))
          ∙ sym (own l (n * size) room (i * size + used) (size - coefficient_count - used) (omega (arith, inside)) (zero i h)) ∙ ap to place

-- ---- what the writer's check tells

-- The blocks in use hold so many numbers.
module _ (z : Sizes) (few : suc (span z) ≤ block_count) (blocks : ℕ) (many : blocks ≡ suc (span z) * block_length) where
  row-between : (l : List ℤ) → T (row_right_of z (row_of l)) → T (is_zero_of (take (entries_length - blocks) (drop blocks l)))
  unfolding is_zero_of
  row-between l right =
      subst (λ p. T (is_zero_of p)) (ap (drop blocks) left ∙ drop-take blocks (entries_length - blocks) l)
      (subst (λ k. T (is_zero_of (drop k (take entries_length l)))) place
      (zero-from coefficient_count polynomial_count (take entries_length l) none (polynomial_count - first) first (omega arith) each))
    where
      first : ℕ
      first = suc (span z) * column_count

      place : first * coefficient_count ≡ blocks
      place = omega arith

      left : take entries_length l ≡ take (blocks + (entries_length - blocks)) l
      left = let e : entries_length ≡ blocks + (entries_length - blocks) = omega arith in ap (λ k. take k l) e

      none : T (is_zero_of (drop (polynomial_count * coefficient_count) (take entries_length l)))
      none =
          subst (λ p. T (is_zero_of p))
          (sym (drop_of_length-le (take entries_length l) {i = polynomial_count * coefficient_count} (rw length-take (omega arith)))) tt

      each : (q : ℕ) → first ≤ q → q < polynomial_count → T (is_zero_of (coefficients_at_of (take entries_length l) q))
      each q low h =
          subst (λ p. T (is_zero_of p))
          (sym (part-of-part 0 (q * coefficient_count) coefficient_count entries_length l (omega arith)
          ∙ ap (λ k. take coefficient_count (drop k l)) (zero-add (q * coefficient_count))))
          ((unused-iff z.m (span z) l).0 ((row_right-iff z (row_of l)).0 right).1 q h (inl (omega arith)))

module _ (z : Sizes) (count : ℕ) (order : List ℕ) (rows relations : List ℤ) (right : check_write_of z count order rows relations ≡ 0)
    (blocks : ℕ) (many : blocks ≡ suc (span z) * block_length) where
  few : suc (span z) ≤ block_count
  few = (checked z count order rows relations right).narrow

  numbers : NumbersRight z count rows relations
  numbers = (numbers_right-iff z count rows relations).0 ((check_write-iff z count order rows relations).0 right).1.numbers

  pub blocks-fit : blocks ≤ entries_length
  blocks-fit = omega (arith, few)

  pub rows-between : ZeroBetween row_length blocks (equations z) rows
  unfolding rows_of
  rows-between i h =
      subst (λ p. T (is_zero_of p))
      (part-of-part (i * row_length) blocks (entries_length - blocks) row_length rows (omega (arith, blocks-fit))
      ∙ ap (λ k. take k (drop (i * row_length + blocks) rows)) same)
      (row-between z few blocks many (take row_length (drop (i * row_length) rows))
      (held-every (row_right_of z) row_of row_length (equations z) rows numbers.rows_right i h))
    where
      same : entries_length - blocks ≡ row_length - coefficient_count - blocks
      same = omega arith

  -- n0 stands before the blocks.
  pub relations-between : ZeroBetween relation_length (1 + blocks) count relations
  unfolding relations_of relation_of
  relations-between i h =
      subst (λ p. T (is_zero_of p))
      (ap (take (entries_length - blocks)) (drop-drop blocks 1 part)
      ∙ part-of-part (i * relation_length) (1 + blocks) (entries_length - blocks) relation_length relations (omega (arith, blocks-fit))
      ∙ ap (λ k. take k (drop (i * relation_length + (1 + blocks)) relations)) same)
      (row-between z few blocks many (drop 1 part)
      ((relation_right-iff z (relation_of part)).0
      (held-every (relation_right_of z) relation_of relation_length count relations numbers.relations-right i h)).1)
    where
      part : List ℤ
      part = take relation_length (drop (i * relation_length) relations)

      same : entries_length - blocks ≡ relation_length - coefficient_count - (1 + blocks)
      same = omega arith
