-- The words in which the claims on runs are said: small predicates on the stores before a call, its result and its stores
-- after.
--
-- Main definitions
--   Ran side z count rows relations c    c is what the call of a run gave back and left: its contract
--   FoundBefore n, FoundDuring n         a refusal that is found before the work, or during it
--   RunNumber n                          a number that a run returns
--   Rewritten need part before after     the needed part of a store is now `part`, and the rest of it is as it was
--   Cleared need before after            the needed part of a store is now zero, and the rest of it is as it was
--   Kept need before after               the numbers past the needed part are as they were
--   InRange, LongEnough, Passed          sizes and count are in range; the stores are long enough; all checks pass
--   ruled side z count rows relations    how the run of the rules ends on the system that the stores hold
--   GivesBack side z s ..                the result and the stores are those of the final state s
--   left z c                             the sizes of what the call leaves: as many equations as its rank
--   Freed need kept store                behind the first `kept` numbers the needed part of a store is zero
--   Course side z count rows relations c   all that a call can do, by what the checks and the rules say
--   Solves z count rows relations y      y satisfies the equations and the relations that the stores hold
--   SolvesFrom z j k count rows relations y   the same of the equations at every n ≥ j and of the relations with n0 ≥ k
--   AgreeBetween, AgreeFrom, AgreeDown, AgreeUpTo   two sequences have the same vectors at a to b - 1; from a on; at a + 1
--                                to b;
--                                        up to b
--   IsRow z i, IsColumn z c              i is a row of the system, c a column, counted from 1
--   edge, column_of, entry_of, diagonal_of  block l or t; c(row) of a result; an entry of that block, and the diagonal
--                                polynomial of
--                                        a row, as `polynomial` gives them
--   Triangular, NoRoot, LastRoot         what an accepted call leaves, and what it reports
--   PastRoot side r n                    n lies past the root that the result r reports, or it reports none
use Rattle.std.specs.Prelude.{ℕ, pred, ◌-◌, ◌≤◌, ◌<◌, ◌≡◌, ◌≢◌, ◌⊎◌, true, not, List, T, length, take, drop, get_or, ℤ, pos, ◌≤ℤ◌, ◌<ℤ◌}
use Rattle.algebra.specs.Polynomials.{Polynomial, eval, is_zero_of}
use Rattle.rules.specs.Limits.{most_relations}
use Rattle.rules.specs.Elimination.{Side, leading, trailing, State, Outcome, done, refused, rank, whole_run_of, report, reported_times}
use Rattle.rules.specs.Stores.{Sizes, equations, with_equations_of, span, rows_of, relations_of, row_need, relation_need, row_store_for}
use Rattle.rules.specs.Stores.{relation_store_of}
use Rattle.rules.specs.Sequences.{Sequence, Satisfies, Same}
use Rattle.rules.specs.Layout.{SizeBounds, NumbersRight}
use Rattle.rules.specs.Calls.{Result, Call, call_run, polynomial_part, reported_order, root_found, root_value, zeros}
use Rattle.rules.specs.Calls.{unchanged, cleared, after_run_of}
use Rattle.theory.specs.Report.{NoFurther}
use Rattle.theory.specs.FirstIndex.{SatisfiesFrom}

-- ---- the calls

-- The contract of `elimination::run_leading` and `run_trailing`, where c is `call_of` of what they gave back and left.
pub record Ran (side : Side) (z : Sizes) (count : ℕ) (rows relations : List ℤ) (c : Call) : Type 0 where
  pub called : c ≡ call_run side z count rows relations

-- ---- refusals and stores

abbrev pub FoundBefore : ℕ → Type 0
FoundBefore n = (1 ≤ n) × (n ≤ 5)

abbrev pub FoundDuring : ℕ → Type 0
FoundDuring n = (7 ≤ n) × (n ≤ 10)

-- The numbers that a run returns: 0 for an acceptance, or a refusal.
abbrev pub RunNumber : ℕ → Type 0
RunNumber n = (n ≡ 0) ⊎ ((n ≡ 1) ⊎ ((n ≡ 2) ⊎ ((n ≡ 5) ⊎ FoundDuring n)))

pub record Rewritten {A : Type 0} (need : ℕ) (part before after : List A) : Type 0 where
  pub needed : take need after ≡ part
  pub rest : drop need after ≡ drop need before
  pub same_length : length after ≡ length before

abbrev pub Cleared : ℕ → List ℤ → List ℤ → Type 0
Cleared need before after = Rewritten need (zeros need) before after

abbrev pub Kept : {A : Type 0} → ℕ → List A → List A → Type 0
Kept need before after = (drop need after ≡ drop need before) × (length after ≡ length before)

-- ---- the checks

-- 1 ≤ m ≤ 4, at most 6 equations, -64 ≤ t ≤ l ≤ 64, l - t ≤ 4, and at most 16 relations (SCOPE 1.1, 1.2, 1.23).
abbrev pub InRange : Sizes → ℕ → Type 0
InRange z count = SizeBounds z × (count ≤ most_relations)

-- 336 numbers for each equation, 16 × 337 for the relations (SCOPE 3.11).
abbrev pub LongEnough : Sizes → List ℤ → List ℤ → Type 0
LongEnough z rows relations = (row_need (equations z) ≤ length rows) × (relation_need ≤ length relations)

pub record Passed (z : Sizes) (count : ℕ) (rows relations : List ℤ) : Type 0 where
  pub range : InRange z count
  pub lengths : LongEnough z rows relations
  pub numbers : NumbersRight z count rows relations

-- ---- the rules

abbrev pub ruled : Side → Sizes → ℕ → List ℤ → List ℤ → Outcome
ruled side z count rows relations = whole_run_of side (span z) (rows_of (equations z) rows) (relations_of count relations)

pub record GivesBack (side : Side) (z : Sizes) (s : State) (rows relations : List ℤ) (c : Call) : Type 0 where
  pub row-store : Rewritten (row_need (equations z)) (row_store_for (equations z) s.rows) rows c.row_store
  pub relation-store : Rewritten relation_need (relation_store_of s.relations) relations c.relation_store
  pub rows-held : rows_of c.result.rank c.row_store ≡ s.rows
  pub relations-held : relations_of c.result.relations c.relation_store ≡ s.relations
  pub relation-count : c.result.relations ≡ length s.relations
  pub shift_count : c.result.shifts ≡ s.shifts
  pub column-order : c.result.order ≡ reported_order s.order
  pub root-found : c.result.has_root_of ≡ root_found (report side (span z) s)
  pub root-value : c.result.root ≡ root_value (report side (span z) s)
  pub row_count : c.result.rank ≡ rank s
  pub root-times : c.result.multiplicity ≡ reported_times side (span z) s (report side (span z) s)

-- The five courses exclude each other, so each says exactly when it is taken.
pub data Course (side : Side) (z : Sizes) (count : ℕ) (rows relations : List ℤ) : Call → Type 0 where
  out_of_range : ¬ InRange z count → Course side z count rows relations (unchanged 2 rows relations)
  too_short : InRange z count → ¬ LongEnough z rows relations → Course side z count rows relations (unchanged 1 rows relations)
  wrong-number : InRange z count → LongEnough z rows relations → ¬ NumbersRight z count rows relations
      → Course side z count rows relations (unchanged 5 rows relations)
  run-refused : Passed z count rows relations → (n : ℕ) → FoundDuring n → ruled side z count rows relations ≡ refused n
      → Course side z count rows relations (cleared n (equations z) rows relations)
  run-accepted : Passed z count rows relations → (s : State) → ruled side z count rows relations ≡ done s
      → Course side z count rows relations (after_run_of side z (done s) rows relations)

-- ---- what an accepted run leaves

-- The output has as many equations as its rank (SCOPE 2.13).
abbrev pub left : Sizes → Call → Sizes
left z c = with_equations_of c.result.rank z

-- The places of the rows that were dropped hold 0 (SCOPE 3.14).
abbrev pub Freed : ℕ → ℕ → List ℤ → Type 0
Freed need kept store = take (need - kept) (drop kept store) ≡ zeros (need - kept)

-- ---- solutions

abbrev pub Solves : Sizes → ℕ → List ℤ → List ℤ → Sequence → Type 0
Solves z count rows relations y = Satisfies z.l (rows_of (equations z) rows) (relations_of count relations) y

-- The equations hold at every n ≥ j, and the relations with n0 ≥ k hold (SCOPE 1.25).
abbrev pub SolvesFrom : Sizes → ℤ → ℤ → ℕ → List ℤ → List ℤ → Sequence → Type 0
SolvesFrom z j k count rows relations y = SatisfiesFrom z.l j k (rows_of (equations z) rows) (relations_of count relations) y

abbrev pub AgreeBetween : Sizes → Sequence → Sequence → ℤ → ℤ → Type 0
AgreeBetween z y w a b = (i : ℤ) → a ≤ℤ i → i <ℤ b → Same z.m y w i

abbrev pub AgreeFrom : Sizes → Sequence → Sequence → ℤ → Type 0
AgreeFrom z y w a = (i : ℤ) → a ≤ℤ i → Same z.m y w i

abbrev pub AgreeDown : Sizes → Sequence → Sequence → ℤ → ℤ → Type 0
AgreeDown z y w a b = (i : ℤ) → a <ℤ i → i ≤ℤ b → Same z.m y w i

abbrev pub AgreeUpTo : Sizes → Sequence → Sequence → ℤ → Type 0
AgreeUpTo z y w b = (i : ℤ) → i ≤ℤ b → Same z.m y w i

-- ---- the diagonal, as `elimination::polynomial` gives it of the store that a run left

abbrev pub IsRow : Sizes → ℕ → Type 0
IsRow z i = (1 ≤ i) × (i ≤ equations z)

abbrev pub IsColumn : Sizes → ℕ → Type 0
IsColumn z c = (1 ≤ c) × (c ≤ z.m)

-- The block that is made triangular.
abbrev pub edge : Side → Sizes → ℤ
edge leading z = z.l
edge trailing z = z.t

abbrev pub column_of : Call → ℕ → ℕ
column_of c row = get_or c.result.order (pred row) 0

abbrev pub entry_of : Side → Sizes → Call → ℕ → ℕ → Polynomial
entry_of side z c row column = polynomial_part c.row_store z row (edge side z) column

abbrev pub diagonal_of : Side → Sizes → Call → ℕ → Polynomial
diagonal_of side z c row = entry_of side z c row (column_of c row)

-- c(1) to c(w), for w equations, are different columns from 1 to m, where w = m all of them, and row j is zero at c(1) to c(j - 1)
-- and nonzero at c(j) (SCOPE 2.71, 2.73).
pub record Triangular (side : Side) (z : Sizes) (c : Call) : Type 0 where
  pub column-inside : (row : ℕ) → IsRow z row → IsColumn z (column_of c row)
  pub column-once : (row other : ℕ) → IsRow z row → IsRow z other → column_of c row ≡ column_of c other → row ≡ other
  pub every-column : equations z ≡ z.m → (column : ℕ) → IsColumn z column → (row : ℕ) × IsRow z row × (column_of c row ≡ column)
  pub zero-before : (row other : ℕ) → IsRow z row → IsRow z other → other < row
      → T (is_zero_of (entry_of side z c row (column_of c other)))
  pub diagonal-nonzero : (row : ℕ) → IsRow z row → T (not (is_zero_of (diagonal_of side z c row)))

abbrev pub NoRoot : Side → Sizes → Call → Type 0
NoRoot side z c = (row : ℕ) → IsRow z row → (n : ℤ) → eval (diagonal_of side z c row) n ≢ pos 0

-- r is a root of some diagonal polynomial, and none has an integer root above it, or, on the trailing side, below it
-- (SCOPE 2.81, 2.93).
pub record LastRoot (side : Side) (z : Sizes) (c : Call) (r : ℤ) : Type 0 where
  pub attained : (row : ℕ) × IsRow z row × (eval (diagonal_of side z c row) r ≡ pos 0)
  pub furthest : (row : ℕ) → IsRow z row → (n : ℤ) → eval (diagonal_of side z c row) n ≡ pos 0 → NoFurther side n r

abbrev pub PastRoot : Side → Result → ℤ → Type 0
PastRoot leading r n = r.has_root_of ≡ true → r.root <ℤ n
PastRoot trailing r n = r.has_root_of ≡ true → n <ℤ r.root
