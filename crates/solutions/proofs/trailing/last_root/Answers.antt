-- `solutions::trailing::last_root` meets its contract. The loop's invariant: the answer is the largest root of the first j
-- trailing diagonal polynomials.
-- Assumes nothing.
use mathlib.Core.Path.{◌≡◌, sym, ◌∙◌, ap, ap₂}
use mathlib.Core.List.{List}
use Rattle.std.proofs.Common.{rules}
use Rattle.std.specs.Prelude.{option_map}
use Prim.Native.Nat.{ℕ, ◌+◌, ◌-◌, ◌≤◌, ◌<◌}
use native.Mathlib.Omega.{arith}
use lib.Dec.{T}
use lib.IntN.{ℤ}
use lib.Seq.{length-take-le, get_or-take}
use lib.ListN.{length, take, drop, get_or, length-take, length-drop}
use Rattle.algebra.specs.Roots.{roots}
use Rattle.rules.specs.Limits.{small, coefficient_count}
use Rattle.lists.specs.Tests.{every}
use Rattle.rules.specs.Elimination.{leading, trailing, furthest}
use Rattle.working_rows.specs.Found.{Columns-at}
use Rattle.roots.specs.RootSearch.{answered}
use Rattle.sides.specs.FurthestRoots.{further_of}
use Rattle.sides.specs.ReportLaws.{diagonal_at_of, diagonal-long, diagonal-small, part-lent}
use Rattle.solutions.specs.LargestRoots.{option_of, option-of, answered-value}
use Rattle.solutions.specs.LastIndices.{last_none, last-next, last-all}
use Rattle.solutions.proofs.trailing.last_root.Goals as goal
use Rattle.solutions.proofs.trailing.last_root.Goals.{After-diagonal_at-from, After-map, In-loop-j, Start}

-- diagonal polynomial j
module _ (c : In-loop-j) where
  abbrev start : Start
  start = (goal.at.In-loop-j c).Start

  abbrev span : ℕ
  span = start.args.span

  abbrev settled : ℕ
  settled = start.args.settled

  abbrev store : List ℤ
  store = start.args.store.now

  abbrev order : List ℕ
  order = start.args.order

  abbrev j : ℕ
  j = c.loop-j.j

  abbrev from : ℕ
  from = diagonal_at_of trailing span j (get_or order j 0)

  enough : settled ≤ length order
  enough = c.loop-j.invariant.0

  inside : j < settled
  inside = omega (arith, c.loop-j-test.true, length-take-le settled order enough)

  column-is : get_or (take settled order) j 0 ≡ get_or order j 0
  column-is = get_or-take settled order j 0 inside

  long : from + coefficient_count ≤ length store
  long =
      diagonal-long trailing span settled store order enough start.requires.1 start.requires.2 j inside start.requires.3.long

  numbers : T (every small (take coefficient_count (drop from store)))
  numbers = diagonal-small trailing span settled store order enough start.requires.1 start.requires.2 j inside start.requires.3

from-is : (c : After-diagonal_at-from) → c.diagonal_at-from.result ≡ from (goal.at.After-diagonal_at-from c).In-loop-j
from-is c =
    let at = (goal.at.After-diagonal_at-from c).In-loop-j in
    c.diagonal_at-from.ensures ∙ ap (diagonal_at_of trailing (span at) (j at)) (column-is at)

-- it is the part that is lent
part : (c : After-diagonal_at-from) → let at = (goal.at.After-diagonal_at-from c).In-loop-j in
    take (c.diagonal_at-from.result + coefficient_count - c.diagonal_at-from.result) (drop c.diagonal_at-from.result (store at))
    ≡ take coefficient_count (drop (from at) (store at))
part c = let at = (goal.at.After-diagonal_at-from c).In-loop-j in part-lent (store at) c.diagonal_at-from.result (from at) (from-is c)

lent : (c : After-diagonal_at-from) → c.diagonal_at-from.result + coefficient_count ≤ length (store (goal.at.After-diagonal_at-from c).In-loop-j)
lent c = rw (from-is c) (long (goal.at.After-diagonal_at-from c).In-loop-j)

-- its largest root, without how often it occurs
alone : (c : After-map) → c.map.result ≡ option_map (λ r. r.value) c.largest_with-most.result
alone c = search rules

root : (c : After-map) → let at = (goal.at.After-map c).In-loop-j in
    c.map.result ≡ answered (furthest leading (roots (take coefficient_count (drop (from at) (store at)))))
root c =
    alone c ∙ ap (option_map (λ r. r.value)) c.largest_with-most.ensures ∙ answered-value _ _
    ∙ ap (λ p. answered (furthest leading (roots p))) (part (goal.at.After-map c).After-diagonal_at-from)

pub loop-j-init : goal.loop-j-init
loop-j-init c = (omega arith, ap answered (sym (last_none c.args.span c.args.settled c.args.store.now c.args.order)))

pub diagonal_at-from-requires : goal.diagonal_at-from-requires
diagonal_at-from-requires c =
    let at = (goal.at.diagonal_at-from-requires c).In-loop-j in
    (omega (arith, c.requires.0, inside at), rw (column-is at) (Columns-at (order at) c.requires.2 (j at)), c.requires.1)

pub overflow_add-to : goal.overflow_add-to
overflow_add-to c = omega (arith, lent c)

pub offset_bounds-store-from : goal.offset_bounds-store-from
offset_bounds-store-from c = omega (arith, lent c)

pub slice_bounds-largest_with-count : goal.slice_bounds-largest_with-count
slice_bounds-largest_with-count c = omega (arith, lent c)

pub slice_bounds-largest_with-start : goal.slice_bounds-largest_with-start
slice_bounds-largest_with-start c = omega (arith, lent c)

pub slice_bounds-largest_with-end : goal.slice_bounds-largest_with-end
slice_bounds-largest_with-end c = omega (arith, lent c)

pub largest_with-most-requires : goal.largest_with-most-requires
largest_with-most-requires c =
    let at = (goal.at.largest_with-most-requires c).In-loop-j in
    rw (part (goal.at.largest_with-most-requires c).After-diagonal_at-from)
    (rw length-take (omega (arith, long at, length-drop (from at) (store at))), numbers at)

pub loop-j-preserved : goal.loop-j-preserved
loop-j-preserved c =
    let call = (goal.at.loop-j-preserved c).After-map in
    let at = (goal.at.loop-j-preserved c).In-loop-j in
    let inv = c.loop-j.invariant in
    let next = last-next (span at) (settled at) (store at) (order at) (enough at) c.requires.1 c.requires.2 (j at) (inside at) in
    let answer = ap₂ (λ x y. answered (further_of leading (option_of x) (option_of y))) inv.1 (root call)
    ∙ ap₂ (λ x y. answered (further_of leading x y)) (option-of _) (option-of _) in
    (inv.0, c.larger-answer.ensures ∙ answer ∙ ap answered next)

pub returns : goal.returns
returns c =
    let inv = c.loop-j.invariant in
    let all : c.args.settled ≤ c.loop-j.j = omega (arith, c.loop-j-test.false, length-take-le c.args.settled c.args.order inv.0) in
    inv.1 ∙ ap answered (last-all c.args.span c.args.settled c.args.store.now c.args.order inv.0 c.loop-j.j all)
