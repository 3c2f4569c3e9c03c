-- Rows as a store holds them, block by block.
--
-- Main definitions
--   BlockRight, RowRight     the blocks of a row that has a store's shape, small numbers, and zeros at unused places
--
-- Main statements
--   row_right-blocks, blocks-row_right     that is what the shape and the check of a row ask together
use Rattle.std.specs.Prelude.{ℕ, suc, ◌≡◌, ◌↔◌, ◌&&◌, T, length, drop}
use Rattle.std.proofs.Common.{◌∙◌, subst, ap}
use mathlib.Core.List.{List, flatten}
use Rattle.algebra.specs.Polynomials.{Polynomial}
use Rattle.lists.specs.Tests.{T-&&, every, every-all, every-flatten, every_append}
use Rattle.rules.specs.Limits.{coefficient_count, column_count, block_count, small}
use Rattle.rules.specs.Rows.{Block, Row, zero_block, coefficients_of, small_row}
use Rattle.lists.specs.Everywhere.{All, all-mono, all_both}
use Rattle.rules.specs.Stores.{Sizes, span, unused_zero_of, row_right_of, Shaped, StoreRow}

-- ---- the rows of a system, block by block

abbrev pub StorePolynomial : Polynomial → Type 0
StorePolynomial p = (length p ≡ coefficient_count) × T (every small p)

abbrev pub BlockRight : ℕ → Block → Type 0
BlockRight m b = (length b ≡ column_count) × All StorePolynomial b × T (zero_block (drop m b))

pub record RowRight (z : Sizes) (bs : List Block) : Type 0 where
  pub count : length bs ≡ block_count
  pub each : All (BlockRight z.m) bs
  pub below : T (every zero_block (drop (suc (span z)) bs))

small_row-blocks : (r : Row) → small_row r ≡ (every (every (every small)) r.blocks && every small r.right)
unfolding small_row coefficients_of
small_row-blocks r =
    every_append small (flatten (flatten r.blocks)) r.right
    ∙ ap (λ t. t && every small r.right) (every-flatten small (flatten r.blocks) ∙ every-flatten (every small) r.blocks)

-- The right side of a row that passes the check is small.
pub row_right-side : (z : Sizes) (r : Row) → T (row_right_of z r) → T (every small r.right)
unfolding row_right_of
row_right-side z r h =
    ((T-&& (every (every (every small)) r.blocks) (every small r.right)).0
    (subst T (small_row-blocks r) ((T-&& (small_row r) (unused_zero_of z.m (span z) r)).0 h).0)).1

abbrev pub StoreBlock : Block → Type 0
StoreBlock b = (length b ≡ column_count) × All (λ p. length p ≡ coefficient_count) b

-- The shape of a block, its small numbers and its zeros.
BlockRight-iff : (m : ℕ) (b : Block)
    → BlockRight m b ↔ ((StoreBlock b × T (every (every small) b)) × T (zero_block (drop m b)))
BlockRight-iff m b = (
  λ h. (
    (
      (h.0, all-mono StorePolynomial (λ p. length p ≡ coefficient_count) (λ p i. i.0) b h.1),
      (every-all (every small) b).1 (all-mono StorePolynomial (λ p. T (every small p)) (λ p i. i.1) b h.1),
    ),
    h.2,
  ),
  λ h. (
    h.0.0.0,
    all_both (λ p. length p ≡ coefficient_count) (λ p. T (every small p)) b h.0.0.1 ((every-all (every small) b).0 h.0.1),
    h.1,
  ),
)

abbrev BlockParts : ℕ → Block → Type 0
BlockParts m b = (StoreBlock b × T (every (every small) b)) × T (zero_block (drop m b))

pub row_right-blocks : (z : Sizes) (r : Row) → StoreRow r → T (row_right_of z r) → RowRight z r.blocks
unfolding row_right_of unused_zero_of Shaped
row_right-blocks z r s h = record { count = s.0; each = each; below = f.1 }
  where
    e : T (small_row r) × T (unused_zero_of z.m (span z) r)
    e = (T-&& (small_row r) (unused_zero_of z.m (span z) r)).0 h

    f : T (every (λ b. zero_block (drop z.m b)) r.blocks) × T (every zero_block (drop (suc (span z)) r.blocks))
    f = (T-&& (every (λ b. zero_block (drop z.m b)) r.blocks) _).0 e.1

    smalls : All (λ b. T (every (every small) b)) r.blocks
    smalls = (every-all (every (every small)) r.blocks).0 ((T-&& (every (every (every small)) r.blocks) (every small r.right)).0 (rw small_row-blocks at e.0)).0

    zeros : All (λ b. T (zero_block (drop z.m b))) r.blocks
    zeros = (every-all (λ b. zero_block (drop z.m b)) r.blocks).0 f.0

    each : All (BlockRight z.m) r.blocks
    each =
        all-mono (BlockParts z.m) (BlockRight z.m) (λ b. (BlockRight-iff z.m b).1) r.blocks
        (all_both (λ b. StoreBlock b × T (every (every small) b)) (λ b. T (zero_block (drop z.m b))) r.blocks
        (all_both StoreBlock (λ b. T (every (every small) b)) r.blocks s.1 smalls) zeros)

pub blocks-row_right : (z : Sizes) (r : Row) → RowRight z r.blocks → StorePolynomial r.right → StoreRow r × T (row_right_of z r)
unfolding row_right_of unused_zero_of Shaped
blocks-row_right z r h side =
    ((h.count, shape, side.0), (T-&& (small_row r) _).1 (smalls, (T-&& (every (λ b. zero_block (drop z.m b)) r.blocks) _).1 (zeros, h.below)))
  where
    part : (Q : Block → Type 0) → ((b : Block) → BlockParts z.m b → Q b) → All Q r.blocks
    part Q f = all-mono (BlockRight z.m) Q (λ b i. f b ((BlockRight-iff z.m b).0 i)) r.blocks h.each

    shape : All StoreBlock r.blocks
    shape = part StoreBlock (λ b i. i.0.0)

    smalls : T (small_row r)
    smalls = rw small_row-blocks ((T-&& (every (every (every small)) r.blocks) (every small r.right)).1 (
      (every-all (every (every small)) r.blocks).1 (part (λ b. T (every (every small) b)) (λ b i. i.0.1)),
      side.1,
    ))

    zeros : T (every (λ b. zero_block (drop z.m b)) r.blocks)
    zeros = (every-all (λ b. zero_block (drop z.m b)) r.blocks).1 (part (λ b. T (zero_block (drop z.m b))) (λ b i. i.1))
