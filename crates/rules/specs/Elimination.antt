-- The elimination: multipliers, step, run, root report, and the trailing side by the mirror (SCOPE 2).
--
-- Main definitions
--   ratio a b, multipliers a b   rule 2's g and h, before and behind the division by common roots
--   State, Outcome     rows, relations, the columns of the settled rows, shifts; going on, done or refused
--   rank s             w, the number of the settled rows
--   finished s         every row is settled
--   step side s        one exchange with its combination, one combination, one shift, one settling or one dropped row
--   run side k s       at most k steps, up to a finished state
--   never_number        the number in the place of a run that does not end, which never comes
--   leading_run_of, trailing_run_of   the whole runs
--   report side D s    the root report
--   roots_with_of p        the integer roots of a polynomial, each with how often it occurs
--   occurrences side D s r   how often r occurs as a root of the diagonal polynomials, all together
use Rattle.std.specs.Prelude.{ℕ, zero, suc, ◌+◌, ◌*◌, Bool, not, cond, ltb, leb, length, get_or, set, ℤ, pos}
use mathlib.Core.List.{List, [], ◌∷◌, ◌++◌, map, reverse, flatten, zip_with}
use Rattle.std.proofs.Math.Option.{Option, none, some}
use Rattle.std.specs.Int.Signed.{le_z, lt_z}
use Rattle.lists.specs.Places.{without}
use Rattle.algebra.specs.Gcd.{content, divide_by}
use Rattle.algebra.specs.Polynomials.{Polynomial, negate, lead}
use Rattle.algebra.specs.Roots.{roots}
use Rattle.algebra.specs.Multiplicity.{multiplicity}
use Rattle.lists.specs.Totals.{total}
use Rattle.rules.specs.Limits.{most_relations}
use Rattle.rules.specs.CommonRoots.{Entries, reduced}
use Rattle.rules.specs.Rows.{Row, Relation, no_row, zero_row, contradicts, width, leading_block, entry, first_nonzero, combine, primitive, low_degrees}
use Rattle.rules.specs.Rows.{cut, small_row, shift_up, mirror_row_of, mirror_relation}

-- The side that is made triangular: block l, or block t.
pub data Side : Type 0 where
  leading trailing : Side

-- ---- multipliers

pub record Multipliers : Type 0 where
  pub g : Polynomial
  pub h : Polynomial

-- Both change their signs if the coefficient of g's highest power is negative (SCOPE 2.25).
unfoldable pub turn_signs_of : Polynomial → Polynomial → Multipliers
unfolding negate lead
turn_signs_of g h =
    cond (lt_z (lead g) (pos 0)) (record { g = negate g; h = negate h }) (record { g = g; h = h })

-- g = a/d and h = -b/d, where d is the content of a and b together (SCOPE 2.23, 2.24).
unfoldable pub ratio : Polynomial → Polynomial → Multipliers
unfolding content divide_by negate turn_signs_of
ratio a b = let d = content (a ++ b) in turn_signs_of (divide_by d a) (negate (divide_by d b))

-- Before d is taken both are divided by n - r for their common integer roots r (SCOPE 2.27).
unfoldable pub multipliers : Polynomial → Polynomial → Multipliers
unfolding ratio reduced
multipliers a b = let e : Entries = reduced (record { pivot = a; target = b }) in ratio e.pivot e.target

-- ---- the state of a run and its outcome

-- `order` holds the columns c(1), c(2), .. of the settled rows, so its length is w, their number (SCOPE 2.2, 2.4).
pub record State : Type 0 where
  pub rows : List Row
  pub relations : List Relation
  pub order : List ℕ
  pub shifts : ℕ

-- No row is settled yet (SCOPE 2.2).
unfoldable pub start : List Row → List Relation → State
start rows relations = record { rows = rows; relations = relations; order = []; shifts = 0 }

pub data Outcome : Type 0 where
  going : State → Outcome
  done : State → Outcome
  refused : ℕ → Outcome

-- A new row, or the number of the limit that it breaks.
pub data Limited : Type 0 where
  within : Row → Limited
  beyond : ℕ → Limited

-- A coefficient past ±C is refused with 8 (SCOPE 2.44, 2.63).
unfoldable pub limit_coefficients : Row → Limited
unfolding small_row
limit_coefficients r = cond (small_row r) (within r) (beyond 8)

-- A degree past 15 is refused with 7; if there is none, a coefficient past ±C with 8 (SCOPE 2.43, 2.44).
unfoldable pub limit_degrees : Row → Limited
unfolding low_degrees cut limit_coefficients
limit_degrees r = let rest = limit_coefficients (cut r) in cond (low_degrees r) rest (beyond 7)

-- A new row whose left part alone is zero is refused with 10, behind the limits (SCOPE 2.48).
unfoldable pub consistent : Limited → Limited
unfolding contradicts
consistent (within r) = cond (contradicts r) (beyond 10) (within r)
consistent (beyond n) = beyond n

-- ---- what a step does to the state

unfoldable pub row_at : State → ℕ → Row
row_at s i = get_or s.rows i no_row

unfoldable pub put_row : State → ℕ → Row → State
put_row s i r = record { rows = set s.rows i r; relations = s.relations; order = s.order; shifts = s.shifts }

-- Behind the relations that are there (SCOPE 2.3).
unfoldable pub list_relations : State → List Relation → State
list_relations s l = record { rows = s.rows; relations = s.relations ++ l; order = s.order; shifts = s.shifts }

-- Rule 5: the row gets a column and does not change (SCOPE 2.51).
unfoldable pub settle : State → ℕ → State
settle s c = record { rows = s.rows; relations = s.relations; order = s.order ++ (c ∷ []); shifts = s.shifts }

-- The row is left out, and the later rows move up (SCOPE 2.11).
unfoldable pub drop_row : State → ℕ → State
unfolding without
drop_row s i = record { rows = without s.rows i; relations = s.relations; order = s.order; shifts = s.shifts }

-- The shifts of a run are counted (SCOPE 2.65).
unfoldable pub count_shift : State → State
count_shift s = record { rows = s.rows; relations = s.relations; order = s.order; shifts = suc s.shifts }

-- The rows change places; the columns stay where they are (SCOPE 2.4, 2.22).
unfoldable pub exchange : State → ℕ → ℕ → State
unfolding put_row row_at
exchange s i j = put_row (put_row s j (row_at s i)) i (row_at s j)

-- The new row in the place of row i, or the refusal.
unfoldable pub put_limited_of : State → ℕ → Limited → Outcome
unfolding put_row
put_limited_of s i (within r) = going (put_row s i r)
put_limited_of s i (beyond n) = refused n

-- ---- one step

-- The order in which the roots of one g are listed: n0 as given back ascends on either side (SCOPE 2.33).
unfoldable pub listing : Side → List ℤ → List ℤ
listing leading l = l
listing trailing l = reverse l

-- The row, as it is after the exchange, at each integer root of g, once (SCOPE 2.31).
unfoldable pub root_relations : Side → Polynomial → Row → List Relation
unfolding listing roots
root_relations side g r = map (λ n0. record { index = n0; row = r }) (listing side (roots g))

-- Rules 3 and 4 for row i and settled row j, with their multipliers. More than 16 relations are refused with 9
-- (SCOPE 2.34, 2.47); otherwise the combination, divided by its content, takes the place of row i (SCOPE 2.41, 2.42).
unfoldable pub combine_step_of : Side → State → ℕ → ℕ → Multipliers → Outcome
unfolding list_relations root_relations row_at combine primitive limit_degrees consistent put_limited_of
combine_step_of side s i j x =
    let listed = list_relations s (root_relations side x.g (row_at s i)) in
    let rest = put_limited_of listed i (consistent (limit_degrees (primitive (combine x.g x.h (row_at s i) (row_at s j))))) in
    cond (leb (length listed.relations) most_relations) rest (refused 9)

-- Rule 2 after the exchange: a is the leading entry of row j in column c(j), b that of row i (SCOPE 2.23).
unfoldable pub multipliers_at : State → ℕ → ℕ → Multipliers
unfolding row_at entry multipliers
multipliers_at s i j =
    let c = get_or s.order j 0 in
    multipliers (entry (row_at s j) c) (entry (row_at s i) c)

-- Rows i and j change places if row j is the wider (SCOPE 2.22, 2.135).
unfoldable pub narrow_first : State → ℕ → ℕ → State
unfolding row_at width exchange
narrow_first s i j =
    let exchanged = exchange s i j in
    cond (ltb (width (row_at s i)) (width (row_at s j))) exchanged s

-- The multipliers are those of the rows after the exchange (SCOPE 2.23, 2.131).
unfoldable pub eliminate_step_of : Side → State → ℕ → ℕ → Outcome
unfolding narrow_first multipliers_at combine_step_of
eliminate_step_of side s i j = let e = narrow_first s i j in combine_step_of side e i j (multipliers_at e i j)

-- Rule 6: the row is shifted, and refused with 8 if a coefficient comes to lie past ±C (SCOPE 2.61, 2.63).
unfoldable pub shift_step_of : State → ℕ → Outcome
unfolding shift_up row_at limit_coefficients put_limited_of count_shift
shift_step_of s i = put_limited_of (count_shift s) i (limit_coefficients (shift_up (row_at s i)))

-- Rule 5: c(i) is the lowest column with a nonzero leading entry, if there is one (SCOPE 2.51); otherwise rule 6.
unfoldable pub settle_or_shift : State → ℕ → Option ℕ → Outcome
unfolding shift_step_of settle
settle_or_shift s i (some c) = going (settle s c)
settle_or_shift s i none = shift_step_of s i

-- The first settled row whose column meets a nonzero leading entry of row i is the next that rule 2 works with
-- (SCOPE 2.21, 2.26).
unfoldable pub meet : Side → State → ℕ → Option ℕ → Outcome
unfolding eliminate_step_of first_nonzero leading_block row_at settle_or_shift
meet side s i (some j) = eliminate_step_of side s i j
meet side s i none = settle_or_shift s i (first_nonzero (leading_block (row_at s i)))

-- Rule 1: a zero row is dropped, also one that a combination has made zero (SCOPE 2.11, 2.45), and one whose left part
-- alone is zero is refused with 10 (SCOPE 2.12).
unfoldable pub work_on : Side → State → ℕ → Outcome
unfolding zero_row contradicts meet first_nonzero entry row_at drop_row
work_on side s i =
    let rest = meet side s i (first_nonzero (map (entry (row_at s i)) s.order)) in
    cond (zero_row (row_at s i)) (going (drop_row s i)) (cond (contradicts (row_at s i)) (refused 10) rest)

-- w, which is the rank of the system where the run is done (SCOPE 2.2, 2.13).
unfoldable pub rank : State → ℕ
rank s = length s.order

-- The settled rows are all the rows (SCOPE 2.2).
unfoldable pub finished : State → Bool
finished s = not (ltb (length s.order) (length s.rows))

-- The row in turn is row w + 1, at place w counted from 0 (SCOPE 2.2). A step is only ever taken of a state that is not finished.
unfoldable pub step : Side → State → Outcome
unfolding work_on
step side s = work_on side s (length s.order)

-- ---- the run

unfoldable pub and_then : Outcome → (State → Outcome) → Outcome
and_then (going s) f = f s
and_then (done s) f = done s
and_then (refused n) f = refused n

-- At most k steps; no step is taken of a finished state. A run that is still going at its end is neither accepted nor
-- refused.
unfoldable pub run : Side → ℕ → State → Outcome
unfolding finished step and_then
run side zero s = cond (finished s) (done s) (going s)
run side (suc k) s =
    let rest = and_then (step side s) (run side k) in
    cond (finished s) (done s) rest

-- Enough steps for any rows: a settling for each row, a shift for each block, and combinations with every settled row
-- before each of those; a row that is dropped is not settled (SCOPE 3.24).
unfoldable pub enough : List Row → ℕ
enough rows =
    let m = length rows in
    let b = length (get_or rows 0 no_row).blocks in
    suc m * (m + m * b)

-- A run with enough steps always ends (`run_ends` of crate theory), so no call ever answers with this number. It stands
-- where a definition has to say something of a run that is still going, and is one of a run's own limits, so that what
-- is said of all numbers of a call needs no exception.
abbrev pub never_number : ℕ
never_number = 8

unfoldable pub leading_run_of : List Row → List Relation → Outcome
unfolding run enough start
leading_run_of rows relations = run leading (enough rows) (start rows relations)

-- Order and shifts stay (SCOPE 2.92).
unfoldable pub mirror_state : ℕ → State → State
unfolding mirror_row_of mirror_relation
mirror_state D s =
    record { rows = map (mirror_row_of D) s.rows; relations = map (mirror_relation D) s.relations; order = s.order; shifts = s.shifts }

-- A refusal stays (SCOPE 2.94).
unfoldable pub mirror_outcome : ℕ → Outcome → Outcome
unfolding mirror_state
mirror_outcome D (going s) = going (mirror_state D s)
mirror_outcome D (done s) = done (mirror_state D s)
mirror_outcome D (refused n) = refused n

-- The trailing side: the mirrored system goes through the same rules, and the result is mirrored again (SCOPE 2.91).
unfoldable pub trailing_run_of : ℕ → List Row → List Relation → Outcome
unfolding mirror_outcome mirror_state run enough start
trailing_run_of D rows relations =
    mirror_outcome D (run trailing (enough rows) (mirror_state D (start rows relations)))

unfoldable pub whole_run_of : Side → ℕ → List Row → List Relation → Outcome
unfolding leading_run_of trailing_run_of
whole_run_of leading D rows relations = leading_run_of rows relations
whole_run_of trailing D rows relations = trailing_run_of D rows relations

-- ---- the root report

-- Diagonal polynomials stand in block l, on the trailing side in block t (SCOPE 2.72, 2.93).
unfoldable pub diagonal_place : Side → ℕ → ℕ
diagonal_place leading D = 0
diagonal_place trailing D = D

-- The polynomial of row j there in column c(j) (SCOPE 2.72).
unfoldable pub diagonal : Side → ℕ → State → List Polynomial
unfolding zip_with diagonal_place
diagonal side D s =
    zip_with (λ r c. get_or (get_or r.blocks (diagonal_place side D) []) c []) s.rows s.order

-- The larger on the leading side, the smaller on the trailing side.
unfoldable pub further : Side → ℤ → Option ℤ → ℤ
further side a none = a
further leading a (some b) = cond (le_z a b) b a
further trailing a (some b) = cond (le_z a b) a b

unfoldable pub furthest : Side → List ℤ → Option ℤ
unfolding further
furthest side [] = none
furthest side (a ∷ l) = some (further side a (furthest side l))

-- The greatest integer at which a diagonal polynomial of the output vanishes, if there is one (SCOPE 2.81); on the
-- trailing side the least (SCOPE 2.93).
unfoldable pub report : Side → ℕ → State → Option ℤ
unfolding furthest flatten diagonal roots
report side D s = furthest side (flatten (map roots (diagonal side D s)))

-- ---- multiplicities

-- Ascending, each root once with its multiplicity (SCOPE 2.84).
unfoldable pub roots_with_of : Polynomial → List (ℤ × ℕ)
unfolding roots multiplicity
roots_with_of p = map (λ r. (r, multiplicity p r)) (roots p)

-- How often r occurs in the product of the diagonal polynomials, as the sum over them (SCOPE 2.83).
unfoldable pub occurrences : Side → ℕ → State → ℤ → ℕ
unfolding total diagonal multiplicity
occurrences side D s r = total (map (λ p. multiplicity p r) (diagonal side D s))

-- That of the reported root, and 0 with "no" (SCOPE 2.83).
unfoldable pub reported_times : Side → ℕ → State → Option ℤ → ℕ
unfolding occurrences
reported_times side D s none = 0
reported_times side D s (some r) = occurrences side D s r
