-- `sides::report::report` meets its contract. The loop's invariant: the answer is the furthest root of the first j
-- diagonal polynomials with its times, which are at most sixteen for each.
-- Assumes nothing.
use mathlib.Core.Path.{◌≡◌, refl, ◌∙◌, ap, ap₂}
use mathlib.Core.List.{List, flatten}
use Prim.Native.Nat.{ℕ, ◌+◌, ◌-◌, ◌≤◌, ◌<◌}
use native.Mathlib.Omega.{arith}
use lib.Dec.{T}
use lib.IntN.{ℤ}
use lib.ListN.{length, take, drop, get_or, length-drop}
use lib.Seq.{length-take-le, get_or-take}
use Rattle.algebra.specs.Roots.{roots}
use Rattle.rules.specs.Limits.{small, coefficient_count}
use Rattle.lists.specs.Tests.{every}
use Rattle.rules.specs.Elimination.{Side, furthest}
use Rattle.multiplicities.specs.Counts.{answered_with}
use Rattle.working_rows.specs.Found.{Columns-at}
use Rattle.sides.specs.Lent.{side_of}
use Rattle.sides.specs.FurthestRoots.{times_of, further_with, further-times, answered-most}
use Rattle.sides.specs.ReportLaws.{diagonal_at_of, report-next, report-all, diagonal-long, diagonal-small, part-lent}
use Rattle.sides.proofs.report.report.Goals as goal
use Rattle.sides.proofs.report.report.Goals.{After-diagonal_at-from, After-furthest_with, In-loop-j, Start}

-- diagonal polynomial j
module _ (c : In-loop-j) where
  abbrev start : Start
  start = (goal.at.In-loop-j c).Start

  abbrev side : Side
  side = side_of start.args.side

  abbrev span : ℕ
  span = start.args.span

  abbrev settled : ℕ
  settled = start.args.settled

  abbrev store : List ℤ
  store = start.args.store.now

  abbrev order : List ℕ
  order = start.args.order

  abbrev j : ℕ
  j = c.loop-j.j

  abbrev from : ℕ
  from = diagonal_at_of side span j (get_or order j 0)

  enough : settled ≤ length order
  enough = c.loop-j.invariant.0

  inside : j < settled
  inside = omega (arith, c.loop-j-test.true, length-take-le settled order enough)

  column-is : get_or (take settled order) j 0 ≡ get_or order j 0
  column-is = get_or-take settled order j 0 inside

  long : from + coefficient_count ≤ length store
  long =
      diagonal-long side span settled store order enough start.requires.settled_le_column_count.1 start.requires.settled_le_column_count.2 j inside
      start.requires.settled_le_column_count.3.long

  sixteen : length (take coefficient_count (drop from store)) ≡ coefficient_count
  sixteen = length-take-le coefficient_count (drop from store) (rw length-drop (omega (arith, long)))

  numbers : T (every small (take coefficient_count (drop from store)))
  numbers =
      diagonal-small side span settled store order enough start.requires.settled_le_column_count.1 start.requires.settled_le_column_count.2 j inside start.requires.settled_le_column_count.3

from-is : (c : After-diagonal_at-from) → c.diagonal_at-from.result ≡ from (goal.at.After-diagonal_at-from c).In-loop-j
from-is c =
    let at = (goal.at.After-diagonal_at-from c).In-loop-j in
    c.diagonal_at-from.ensures ∙ ap (diagonal_at_of (side at) (span at) (j at)) (column-is at)

-- it is the part that is lent
part : (c : After-diagonal_at-from) → let at = (goal.at.After-diagonal_at-from c).In-loop-j in
    take (c.diagonal_at-from.result + coefficient_count - c.diagonal_at-from.result) (drop c.diagonal_at-from.result (store at))
    ≡ take coefficient_count (drop (from at) (store at))
part c = let at = (goal.at.After-diagonal_at-from c).In-loop-j in part-lent (store at) c.diagonal_at-from.result (from at) (from-is c)

lent : (c : After-diagonal_at-from) → c.diagonal_at-from.result + coefficient_count ≤ length (store (goal.at.After-diagonal_at-from c).In-loop-j)
lent c = rw (from-is c) (long (goal.at.After-diagonal_at-from c).In-loop-j)

-- its furthest root, and how often it occurs there
module _ (c : After-furthest_with) where
  abbrev at : In-loop-j
  at = (goal.at.After-furthest_with c).In-loop-j

  abbrev polynomial : List ℤ
  polynomial = take coefficient_count (drop (from at) (store at))

  root : c.furthest_with.result ≡ answered_with polynomial (furthest (side at) (roots polynomial))
  root = c.furthest_with.ensures ∙ ap (λ p. answered_with p (furthest (side at) (roots p))) (part (goal.at.After-furthest_with c).After-diagonal_at-from)

  few : times_of c.furthest_with.result ≤ coefficient_count
  few = omega (arith, ap times_of root, answered-most polynomial (furthest (side at) (roots polynomial)), sixteen at)

pub loop-j-init : goal.loop-j-init
unfolding furthest flatten
loop-j-init c = (omega arith, omega arith, refl)

pub diagonal_at-from-requires : goal.diagonal_at-from-requires
diagonal_at-from-requires c =
    let at = (goal.at.diagonal_at-from-requires c).In-loop-j in
    let pre = c.requires.settled_le_column_count in
    (omega (arith, pre.0, inside at), rw (column-is at) (Columns-at (order at) pre.2 (j at)), pre.1)

pub overflow_add-to : goal.overflow_add-to
overflow_add-to c = omega (arith, lent c)

pub offset_bounds-store-from : goal.offset_bounds-store-from
offset_bounds-store-from c = omega (arith, lent c)

pub slice_bounds-furthest_with-count : goal.slice_bounds-furthest_with-count
slice_bounds-furthest_with-count c = omega (arith, lent c)

pub slice_bounds-furthest_with-start : goal.slice_bounds-furthest_with-start
slice_bounds-furthest_with-start c = omega (arith, lent c)

pub slice_bounds-furthest_with-end : goal.slice_bounds-furthest_with-end
slice_bounds-furthest_with-end c = omega (arith, lent c)

pub furthest_with-requires : goal.furthest_with-requires
furthest_with-requires c = rw (part (goal.at.furthest_with-requires c).After-diagonal_at-from) (sixteen (goal.at.furthest_with-requires c).In-loop-j, numbers (goal.at.furthest_with-requires c).In-loop-j)

pub further-answer-requires : goal.further-answer-requires
further-answer-requires c =
    (omega (arith, (at c).loop-j.invariant.1, (start (at c)).requires.settled_le_column_count.0, inside (at c)), omega (arith, few c))

pub loop-j-preserved : goal.loop-j-preserved
loop-j-preserved c =
    let call = (goal.at.loop-j-preserved c).After-furthest_with in
    let turn = at call in
    let pre = c.requires.settled_le_column_count in
    let next = report-next (side turn) (span turn) (settled turn) (store turn) (order turn) (enough turn) pre.1 pre.2 (j turn) (inside turn) c.requires.nonzero in
    let most = further-times (side turn) turn.loop-j.answer c.furthest_with.result in (
      c.loop-j.invariant.0,
      omega (arith, ap times_of c.further-answer.ensures, most, few call, c.loop-j.invariant.1),
      c.further-answer.ensures ∙ ap₂ (further_with (side turn)) c.loop-j.invariant.2 (root call) ∙ next,
    )

pub returns : goal.returns
returns c =
    let pre = c.requires.settled_le_column_count in
    let enough = c.loop-j.invariant.0 in
    let all : c.args.settled ≤ c.loop-j.j = omega (arith, c.loop-j-test.false, length-take-le c.args.settled c.args.order enough) in
    c.loop-j.invariant.2 ∙ report-all (side_of c.args.side) c.args.span c.args.settled c.args.store.now c.args.order enough c.loop-j.j all
