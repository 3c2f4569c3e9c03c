-- Sequences, what they satisfy, and dependence.
--
-- Main definitions
--   Sequence                an integer for each index of either sign and each column
--   left_value, value_of l r z n   the sum that the left part of an equation makes at n; less its right side
--   Satisfies l rows relations z   z satisfies every equation and every relation
--   Same m z y n            z and y are equal at index n, at the columns of the system
--   Dependent l rows        a nonzero combination of shifted equations vanishes
use Rattle.std.specs.Prelude.{ℕ, suc, ◌+◌, ◌≤◌, ◌<◌, ◌≡◌, not, List, [], ◌∷◌, map, T, get_or, length, ℤ, pos, negsuc, nat_abs, ◌+ℤ◌, ◌-ℤ◌, ◌*ℤ◌}
use Rattle.std.proofs.Math.IntN.{pred_ℤ}
use Rattle.algebra.specs.Sums.{count_from}
use Rattle.algebra.specs.Polynomials.{Polynomial, eval, is_zero_of, add, mul, shift_by}
use Rattle.rules.specs.Rows.{Block, Row, Relation, no_row}
use Rattle.lists.specs.Everywhere.{All}

-- Two-sided: any integer is an index (SCOPE 1.11, 1.13). Columns are counted from 0 here.
abbrev pub Sequence : Type 0
Sequence = ℤ → ℕ → ℤ

-- The sum over the columns of a block: p(n) × v(c).
unfoldable pub block_value : ℤ → (ℕ → ℤ) → Block → ℤ
unfolding eval
block_value n v [] = pos 0
block_value n v (p ∷ ps) = eval p n *ℤ v 0 +ℤ block_value n (λ c. v (suc c)) ps

-- The sum over the blocks, the first of which meets the sequence at index k, the next at k - 1, and so on.
unfoldable pub blocks_value : ℤ → Sequence → ℤ → List Block → ℤ
unfolding block_value
blocks_value n z k [] = pos 0
blocks_value n z k (b ∷ bs) = block_value n (z k) b +ℤ blocks_value n z (pred_ℤ k) bs

-- The products p(n) × z(n + s, c), added up over all blocks s and columns c (SCOPE 1.3).
unfoldable pub left_value : ℤ → Row → Sequence → ℤ → ℤ
unfolding blocks_value
left_value l r z n = blocks_value n z (n +ℤ l) r.blocks

-- By how much that sum passes the right side.
unfoldable pub value_of : ℤ → Row → Sequence → ℤ → ℤ
unfolding left_value eval
value_of l r z n = left_value l r z n -ℤ eval r.right n

-- The sum is the value of the right side at all n (SCOPE 1.12).
unfoldable pub SatisfiesEquation : ℤ → Sequence → Row → Type 0
SatisfiesEquation l z r = (n : ℤ) → value_of l r z n ≡ pos 0

-- It is so at n0 (SCOPE 1.21).
unfoldable pub SatisfiesRelation : ℤ → Sequence → Relation → Type 0
SatisfiesRelation l z e = value_of l e.row z e.index ≡ pos 0

-- Each equation and each relation (SCOPE 1.24).
unfoldable pub Satisfies : ℤ → List Row → List Relation → Sequence → Type 0
unfolding All SatisfiesEquation SatisfiesRelation
Satisfies l rows relations z = All (SatisfiesEquation l z) rows × All (SatisfiesRelation l z) relations

-- z and y have the same vector at n, that is the same values in the m columns (SCOPE 1.14).
unfoldable pub Same : ℕ → Sequence → Sequence → ℤ → Type 0
Same m z y n = (c : ℕ) → c < m → z n c ≡ y n c

-- ---- dependence

-- The block of a row at a signed place below block l; no block outside the row.
unfoldable pub block_from : List Block → ℤ → Block
block_from bs (pos k) = get_or bs k []
block_from bs (negsuc k) = []

-- The polynomial of a row at block s and column c; the zero polynomial outside the row.
unfoldable pub polynomial_at_of : ℤ → Row → ℤ → ℕ → Polynomial
unfolding block_from
polynomial_at_of l r s c = get_or (block_from r.blocks (l -ℤ s)) c []

-- The copy of an equation shifted by k: the polynomials of block s - k at block s, with n + k for n (SCOPE 2.101).
unfoldable pub copy_at : ℤ → Row → ℤ → ℤ → ℕ → Polynomial
unfolding shift_by polynomial_at_of
copy_at l r k s c = shift_by k (polynomial_at_of l r (s -ℤ k) c)

unfoldable pub add_all : {A : Type 0} → (A → Polynomial) → List A → Polynomial
unfolding add
add_all f [] = []
add_all f (x ∷ l) = add (f x) (add_all f l)

-- The shifts from -N to N.
unfoldable pub shifts_within : ℕ → List ℤ
unfolding count_from
shifts_within N = map (λ j. pos j -ℤ pos N) (count_from 0 (suc (N + N)))

-- The combination at block s and column c: the sum over equations i and shifts k of S i k × (equation i shifted by k).
unfoldable pub combination_at : ℤ → List Row → ℕ → (ℕ → ℤ → Polynomial) → ℤ → ℕ → Polynomial
unfolding add_all count_from shifts_within mul copy_at
combination_at l rows N S s c =
    add_all (λ i. add_all (λ k. mul (S i k) (copy_at l (get_or rows i no_row) k s c)) (shifts_within N)) (count_from 0 (length rows))

-- The combination's right side.
unfoldable pub combined_right : List Row → ℕ → (ℕ → ℤ → Polynomial) → Polynomial
unfolding add_all count_from shifts_within mul shift_by
combined_right rows N S =
    add_all (λ i. add_all (λ k. mul (S i k) (shift_by k (get_or rows i no_row).right)) (shifts_within N)) (count_from 0 (length rows))

-- Copies of the equations at the shifts within `reach`, each times a polynomial of whatever degree, add up to zero in
-- every block and column and on the right, and at least one multiplier is not zero (SCOPE 2.102).
pub record Dependent (l : ℤ) (rows : List Row) : Type 0 where
  pub reach : ℕ
  pub multiplier : ℕ → ℤ → Polynomial
  pub number : ℕ
  pub shift : ℤ
  pub number-below : number < length rows
  pub shift-within : nat_abs shift ≤ reach
  pub nonzero : T (not (is_zero_of (multiplier number shift)))
  pub vanishes : (s : ℤ) (c : ℕ) → T (is_zero_of (combination_at l rows reach multiplier s c))
  pub right-vanishes : T (is_zero_of (combined_right rows reach multiplier))
