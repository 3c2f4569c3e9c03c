-- `solutions::checks::sides_zero` meets its contract. The loop's invariant: the first i parts pass. Assumes nothing.
use mathlib.Core.Path.{◌≡◌, sym, ◌∙◌, ap}
use mathlib.Core.List.{List, []}
use Prim.Native.Nat.{ℕ, ◌+◌, ◌*◌, ◌-◌, ◌≤◌, ◌<◌}
use native.Mathlib.Omega.{arith}
use borrow.Author.Rules.{rules}
use lib.IntN.{ℤ}
use lib.ListN.{length, take, drop, get_or}
use lib.Seq.{take_all}
use Rattle.algebra.specs.Polynomials.{is_zero_of}
use Rattle.lists.specs.Parts.{parts, parts-length}
use Rattle.lists.specs.Tests.{every, every-longer, every-false}
use Rattle.rules.specs.Limits.{coefficient_count}
use Rattle.solutions.specs.SolutionChecks.{side_zero, sides_zero_of, part_room, side-at}
use Rattle.solutions.proofs.checks.sides_zero.Goals as goal
use Rattle.solutions.proofs.checks.sides_zero.Goals.{In-loop-i, Start}

-- A turn: part i.
module _ (d : In-loop-i) where
  abbrev s : Start
  s = (goal.at.In-loop-i d).Start

  abbrev store : List ℤ
  store = s.args.store.now

  abbrev i : ℕ
  i = d.loop-i.i

  abbrev width : ℕ
  width = s.args.width

  abbrev held : List (List ℤ)
  held = parts width s.args.count store

  room : i * width + width ≤ length store
  room = part_room i s.args.count width (length store) d.loop-i-test.true s.requires.2

  inside : i < length held
  inside = rw parts-length d.loop-i-test.true

  part-is : is_zero_of (take (i * width + s.args.at + coefficient_count - (i * width + s.args.at)) (drop (i * width + s.args.at) store))
      ≡ side_zero s.args.at (get_or held i [])
  part-is = side-at i s.args.at width s.args.count store d.loop-i-test.true s.requires.0

pub loop-i-init : goal.loop-i-init
unfolding every
loop-i-init c = search rules

pub overflow_mul-from : goal.overflow_mul-from
overflow_mul-from c = omega (arith, room c)

pub overflow_add-from : goal.overflow_add-from
overflow_add-from c = omega (arith, room c)

pub overflow_add-to : goal.overflow_add-to
overflow_add-to c = omega (arith, room c)

pub offset_bounds-store-from : goal.offset_bounds-store-from
offset_bounds-store-from c = omega (arith, room c)

pub slice_bounds-is_zero-count : goal.slice_bounds-is_zero-count
slice_bounds-is_zero-count c = omega (arith, room c)

pub slice_bounds-is_zero-start : goal.slice_bounds-is_zero-start
slice_bounds-is_zero-start c = omega (arith, room c)

pub slice_bounds-is_zero-end : goal.slice_bounds-is_zero-end
slice_bounds-is_zero-end c = omega (arith, room c)

pub returns-then-not-is_zero : goal.returns-then-not-is_zero
unfolding sides_zero_of
returns-then-not-is_zero c =
    let d = (goal.at.returns-then-not-is_zero c).In-loop-i in
    let failed = sym (sym (c.if-not-is_zero.true) ∙ c.is_zero.ensures ∙ part-is d) in
    sym (every-false (side_zero (s d).args.at) (held d) (i d) [] (inside d) failed)

pub loop-i-preserved : goal.loop-i-preserved
loop-i-preserved c =
    let d = (goal.at.loop-i-preserved c).In-loop-i in
    let here = sym (sym (c.if-not-is_zero.false) ∙ c.is_zero.ensures ∙ part-is d) in
    (omega arith, every-longer (side_zero (s d).args.at) (held d) (i d) [] (inside d) d.loop-i.invariant.1 here)

pub returns : goal.returns
unfolding sides_zero_of
returns c =
    let args = c.args in
    let held = parts args.width args.count args.store.now in
    let all : take c.loop-i.i held ≡ held = take_all c.loop-i.i held (rw parts-length c.loop-i-test.false) in
    sym (ap (every _) (sym all) ∙ c.loop-i.invariant.1)
