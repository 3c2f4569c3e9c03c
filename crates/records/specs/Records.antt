-- Recorded vectors, and whether a system explains them.
--
-- Main definitions
--   with_block, with_blocks   a sum with the products of a block's columns, and of a row's blocks, added one by one
--   less_right, row_sum_of, sum_at   the sum that a row makes at n on a record, less its right side; none where a value is past the limit
--   Which, Tested           an equation or a relation by its number; what a test has: which, its index and its sum
--   tests                   the tests of a record in their order
--   Answer, answer_to        what the tests say, one after another
--   refusal_of, numbers_of    the refusal and the four numbers of an answer
--   record_right_of, values_right_of, check_record_of   the checks of the call
--   record_call              the call as a whole
use Rattle.std.specs.Prelude.{ℕ, zero, suc, pred, ◌+◌, ◌*◌, ◌-◌, Bool, ◌&&◌, cond, List, [], ◌∷◌, ◌++◌, leb, length, take, get_or, ℤ, pos, nat_abs, ◌+ℤ◌, ◌-ℤ◌, ◌*ℤ◌}
use Rattle.std.proofs.Math.Option.{Option, none, some}
use Rattle.std.specs.Int.Signed.{le_z, lt_z}
use Rattle.algebra.specs.Polynomials.{Polynomial, is_zero_ℤ}
use Rattle.evaluation.specs.Evaluated.{after, horner}
use Rattle.lists.specs.Tests.{every}
use Rattle.rules.specs.Rows.{Block, Row, Relation}
use Rattle.rules.specs.Stores.{Sizes, equations, span, rows_of, relations_of, sizes_right_of, count_right, lengths_right_of, numbers_right_of}

-- ---- the sum of a row on a record

-- Vector v of a record with m numbers a vector begins at v × m. The products of a block's columns from c on with the numbers from
-- a place on are added: every entry is evaluated, also where the number is 0.
unfoldable pub with_block : ℤ → List ℤ → ℕ → ℕ → ℤ → Block → Option ℤ
unfolding after horner
with_block n values from c s [] = some s
with_block n values from c s (p ∷ ps) =
    after (λ v. with_block n values from (suc c) (s +ℤ v *ℤ get_or values (from + c) (pos 0)) ps) (horner n p)

-- The blocks from l down: the first meets vector `top`, the next the vector before it, and so on.
unfoldable pub with_blocks : ℤ → List ℤ → ℕ → ℕ → ℤ → List Block → Option ℤ
unfolding after with_block
with_blocks n values m top s [] = some s
with_blocks n values m top s (b ∷ bs) =
    after (λ q. with_blocks n values m (pred top) q bs) (with_block n values (top * m) 0 s (take m b))

-- The right side is evaluated and subtracted.
unfoldable pub less_right : ℤ → Polynomial → ℤ → Option ℤ
unfolding after horner
less_right n p s = after (λ b. some (s -ℤ b)) (horner n p)

-- The entries in the blocks from l to t, block by block and column by column, and the right side last (SCOPE 12.21).
unfoldable pub row_sum_of : ℕ → ℕ → List ℤ → ℕ → Row → ℤ → Option ℤ
unfolding after with_blocks less_right
row_sum_of m D values top r n =
    after (less_right n r.right) (with_blocks n values m top (pos 0) (take (suc D) r.blocks))

-- Which vector block l meets at n: that of index n + l, the first being that of index `first`.
unfoldable pub top_at : Sizes → ℤ → ℤ → ℕ
top_at z first n = nat_abs ((n +ℤ z.l) -ℤ first)

unfoldable pub sum_at : Sizes → ℤ → List ℤ → Row → ℤ → Option ℤ
unfolding row_sum_of span top_at
sum_at z first values r n = row_sum_of z.m (span z) values (top_at z first n) r n

-- ---- the tests

-- Equations and relations are counted from 1.
pub data Which : Type 0 where
  equation : ℕ → Which
  relation : ℕ → Which

pub record Tested : Type 0 where
  pub which : Which
  pub index : ℤ
  pub sum : Option ℤ

-- Rows at n, by number; block l meets vector `top` there.
unfoldable pub row_tests : ℕ → ℕ → List ℤ → ℕ → ℤ → ℕ → List Row → List Tested
unfolding row_sum_of
row_tests m D values top n i [] = []
row_tests m D values top n i (r ∷ rs) =
    record { which = equation i; index = n; sum = row_sum_of m D values top r n } ∷ row_tests m D values top n (suc i) rs

-- The n whose lowest block meets vector j.
unfoldable pub index_from_of : Sizes → ℤ → ℕ → ℤ
index_from_of z first j = (first -ℤ z.t) +ℤ pos j

-- Equations by rising n, so many n from the one whose lowest block meets vector j on (SCOPE 12.22).
unfoldable pub equation_tests : Sizes → ℤ → List ℤ → List Row → ℕ → ℕ → List Tested
unfolding row_tests top_at span index_from_of
equation_tests z first values rows j zero = []
equation_tests z first values rows j (suc k) =
    let n = index_from_of z first j in
    row_tests z.m (span z) values (top_at z first n) n 1 rows ++ equation_tests z first values rows (suc j) k

-- All blocks at n, up to l and down to t, lie in the record (SCOPE 12.22).
unfoldable pub inside : Sizes → ℤ → ℕ → ℤ → Bool
inside z first vectors n = le_z first (n +ℤ z.t) && lt_z (n +ℤ z.l) (first +ℤ pos vectors)

-- The relations whose n0 is such an n, in their order (SCOPE 12.23).
unfoldable pub relation_tests : Sizes → ℤ → ℕ → List ℤ → ℕ → List Relation → List Tested
unfolding inside sum_at
relation_tests z first vectors values i [] = []
relation_tests z first vectors values i (e ∷ es) =
    let rest = relation_tests z first vectors values (suc i) es in
    let n = e.index in
    cond (inside z first vectors n) (record { which = relation i; index = n; sum = sum_at z first values e.row n } ∷ rest) rest

-- The equations are tested at vectors - D values of n, and then the relations.
unfoldable pub tests : Sizes → ℤ → ℕ → List ℤ → List Row → List Relation → List Tested
unfolding equation_tests relation_tests span
tests z first vectors values rows relations =
    equation_tests z first values rows 0 (vectors - span z) ++ relation_tests z first vectors values 1 relations

-- ---- the answer

-- "fits" with the number tested; the first failure with its index and its nonzero sum; or a refusal (SCOPE 12.24, 12.31).
pub data Answer : Type 0 where
  fits : ℕ → Answer
  fails : Which → ℤ → ℤ → Answer
  refused : ℕ → Answer

abbrev pub limit_passed : ℕ
limit_passed = 12

-- The number of a refusal, 0 where there is none.
unfoldable pub refusal_of : Answer → ℕ
refusal_of (fits k) = 0
refusal_of (fails w n s) = 0
refusal_of (refused k) = k

-- The four numbers of an answer: its kind, how many were tested or which equation or relation fails, its index and its sum; zeros
-- where there is none (SCOPE 12.24).
unfoldable pub numbers_of : Answer → List ℤ
numbers_of (fits k) = pos 0 ∷ pos k ∷ pos 0 ∷ pos 0 ∷ []
numbers_of (fails (equation i) n s) = pos 1 ∷ pos i ∷ n ∷ s ∷ []
numbers_of (fails (relation i) n s) = pos 2 ∷ pos i ∷ n ∷ s ∷ []
numbers_of (refused k) = pos 0 ∷ pos 0 ∷ pos 0 ∷ pos 0 ∷ []

-- One after another: none past the limit, each sum zero; k were tested before.
unfoldable pub answer_to : ℕ → List Tested → Answer
unfolding is_zero_ℤ
answer_to k [] = fits k
answer_to k (t ∷ ts) =
    elim t.sum [
      | none ↦ refused limit_passed
      | some s ↦ cond (is_zero_ℤ s) (answer_to (suc k) ts) (fails t.which t.index s)
    ]

-- ---- the call

abbrev pub most_vectors : ℕ
most_vectors = 64

abbrev pub index_bound : ℕ
index_bound = 1048576

abbrev pub value_bound : ℕ
value_bound = 65536

-- The first index and the last are within ±1,048,576; where there is no vector, the first alone is asked for (SCOPE 12.11).
unfoldable pub record_right_of : ℤ → ℕ → Bool
record_right_of first vectors =
    leb vectors most_vectors && leb (nat_abs first) index_bound && leb (nat_abs (first +ℤ pos (vectors - 1))) index_bound

-- The values are within ±65,536 (SCOPE 12.13).
unfoldable pub values_right_of : List ℤ → Bool
unfolding every
values_right_of values = every (λ v. leb (nat_abs v) value_bound) values

-- The number of the first check that fails, or 0: sizes (2), lengths (1), numbers (5), each of the system first (SCOPE 12.14).
unfoldable pub check_record_of : Sizes → ℕ → ℤ → ℕ → List ℤ → List ℤ → List ℤ → ℕ
unfolding sizes_right_of count_right record_right_of lengths_right_of numbers_right_of values_right_of
check_record_of z count first vectors row_store relation_store values =
    let need : ℕ = vectors * z.m in
    let numbers : ℕ = cond (numbers_right_of z count row_store relation_store && values_right_of (take need values)) 0 5 in
    let lengths : ℕ = cond (lengths_right_of (equations z) row_store relation_store && leb need (length values)) numbers 1 in
    cond ((sizes_right_of z && count_right count) && record_right_of first vectors) lengths 2

unfoldable pub after_check : Sizes → ℕ → ℤ → ℕ → List ℤ → List ℤ → List ℤ → ℕ → Answer
unfolding answer_to tests rows_of relations_of
after_check z count first vectors row_store relation_store values zero =
    answer_to 0 (tests z first vectors (take (vectors * z.m) values) (rows_of (equations z) row_store) (relations_of count relation_store))
after_check z count first vectors row_store relation_store values (suc n) = refused (suc n)

-- Does the system explain the record? The stores are only read (SCOPE 12.1).
unfoldable pub record_call : Sizes → ℕ → ℤ → ℕ → List ℤ → List ℤ → List ℤ → Answer
unfolding after_check check_record_of
record_call z count first vectors row_store relation_store values =
    after_check z count first vectors row_store relation_store values (check_record_of z count first vectors row_store relation_store values)
