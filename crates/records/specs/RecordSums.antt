-- The sum of a row: how large its parts can become, and which they are.
--
-- Main definitions
--   block_room           the products of a block are together no larger
--
-- Main statements
--   values-small                the values of a record
--   blocks-of, columns_of       the blocks and the columns in use, by their numbers
use Rattle.std.specs.Prelude.{ℕ, ◌*◌, ◌≤◌, ◌≡◌, List, map, T, leb, take, get_or, ℤ, pos, nat_abs}
use Rattle.std.proofs.Common.{arith, ◌∙◌, ap, leb→le}
use Rattle.lists.specs.Images.{map-take}
use Rattle.lists.specs.Tests.{every-get_or}
use Rattle.rules.specs.Limits.{coefficient_count, column_count, block_count, block_length}
use Rattle.rules.specs.Stores.{row_of}
use Rattle.rules.specs.Layout.{block_of}
use Rattle.lists.specs.Parts.{parts, take-parts, parts-take}
use Rattle.evaluation.specs.Evaluated.{value_limit}
use Rattle.records.specs.Records.{value_bound}
use Rattle.records.specs.Records.{values_right_of}

-- 4 × 2^40 × 2^16
abbrev pub block_room : ℕ
block_room = 4 * (value_limit * value_bound)

pub values-small : (values : List ℤ) → T (values_right_of values) → (k : ℕ) → nat_abs (get_or values k (pos 0)) ≤ value_bound
unfolding values_right_of
values-small values h k =
    leb→le (nat_abs (get_or values k (pos 0))) value_bound (every-get_or (λ v. leb (nat_abs v) value_bound) values (pos 0) tt h k)

-- ---- the blocks

pub blocks-of : (row : List ℤ) (k : ℕ) → k ≤ block_count → take k (row_of row).blocks ≡ map block_of (parts block_length k row)
unfolding row_of
blocks-of row k h =
    map-take block_of k (parts block_length block_count row) ∙ ap (map block_of) (take-parts block_length block_count k row h)

pub columns_of : (l : List ℤ) (m : ℕ) → m ≤ column_count → take m (block_of (take block_length l)) ≡ parts coefficient_count m l
columns_of l m h =
    take-parts coefficient_count column_count m (take block_length l) h ∙ parts-take coefficient_count m block_length l (omega arith)
