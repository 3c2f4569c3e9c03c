-- `records::sums::with_constant` meets its contract. The invariant: the products are added at the first j of the n.
-- Assumes nothing.
use mathlib.Core.Path.{◌≡◌, ◌∙◌, subst}
use mathlib.Core.List.{List}
use mathlib.Core.Logic.{inr}
use mathlib.Core.Option.{some}
use Prim.Native.Nat.{ℕ, ◌+◌, ◌*◌, ◌≤◌, ◌<◌}
use native.Mathlib.Omega.{arith}
use borrow.Author.Rules.{sfits_of}
use lib.Dec.{lit<}
use lib.IntN.{ℤ, pos, nat_abs, ◌+ℤ◌, ◌*ℤ◌}
use lib.ListN.{length, get_or}
use mir.Syntax.{w64}
use mir.Val.{SFits, of_z, to_z}
use mir.Facts.{to_z-of_z}
use Rattle.integers.specs.Ranges.{sfits-size}
use Rattle.rules.specs.Limits.{bound}
use Rattle.polynomials.specs.Content.{small_at}
use Rattle.evaluation.specs.Evaluated.{horner, horner-last}
use Rattle.records.specs.Records.{value_bound}
use Rattle.records.specs.RecordSums.{block_room, values-small}
use Rattle.records.specs.Successive.{AddedAnywhere, added_none, added_next}
use Rattle.records.proofs.sums.with_constant.Goals as goal
use Rattle.records.proofs.sums.with_constant.Goals.{After-plus, In-loop-j, Start}

-- A turn: the n of number j.
module _ (d : In-loop-j) where
  abbrev s : Start
  s = (goal.at.In-loop-j d).Start

  abbrev p : List ℤ
  p = s.args.p.now

  abbrev values : List ℤ
  values = s.args.values.now

  abbrev sums : List ℤ
  sums = d.loop-j.sums

  abbrev j : ℕ
  j = d.loop-j.j

  abbrev place : ℕ
  place = s.args.at + j

  abbrev factor : ℤ
  factor = get_or p 0 (pos 0)

  abbrev number : ℤ
  number = get_or values (s.args.from + j * s.args.m) (pos 0)

  below : j < s.args.count
  below = d.loop-j-test.true

  so_far : AddedAnywhere p values s.args.from s.args.m s.args.at j s.args.sums.now j sums
  so_far = d.loop-j.invariant

  room : place < length s.args.sums.now
  room = omega (arith, s.requires.sums_near.room, below)

  place-room : place < length sums
  place-room = omega (arith, (so_far (pos 0)).kept.same_length, room)

  number-room : s.args.from + j * s.args.m < length values
  number-room = s.requires.t_2.1 j below

  sum_near : nat_abs (get_or sums place (pos 0)) ≤ 5 * block_room
  sum_near = rw ((so_far (pos 0)).kept.others place (inr (omega arith))) (s.requires.sums_near.near j below)

  sum_fits : SFits w64 (get_or sums place (pos 0))
  sum_fits = sfits-size (get_or sums place (pos 0)) sum_near (lit< tt)

  factor-small : nat_abs factor ≤ bound
  factor-small = small_at p s.requires.t.0 0

  factor-fits : SFits w64 factor
  factor-fits = sfits-size factor factor-small (lit< tt)

  number_size : nat_abs number ≤ value_bound
  number_size = values-small values s.requires.t_2.0 (s.args.from + j * s.args.m)

  number_fits : SFits w64 number
  number_fits = sfits-size number number_size (lit< tt)

  value-is : (n : ℤ) → horner n p ≡ some factor
  value-is n = horner-last n p 0 (omega (arith, s.requires.t.1)) (omega (arith, factor-small))

pub bounds-p-0 : goal.bounds-p-0
bounds-p-0 c = omega (arith, c.requires.t.1)

pub loop-j-init : goal.loop-j-init
loop-j-init c =
    let a = c.args in
    λ n. added_none n a.p.now a.values.now a.from a.m a.at a.sums.now

pub overflow_add-place : goal.overflow_add-place
overflow_add-place c = omega (arith, room c)

pub offset_bounds-sums-place : goal.offset_bounds-sums-place
offset_bounds-sums-place c = omega (arith, room c)

pub slice_copy_out-plus : goal.slice_copy_out-plus
slice_copy_out-plus c = place-room c

pub overflow_mul-j : goal.overflow_mul-j
overflow_mul-j c = omega (arith, number-room (goal.at.overflow_mul-j c).In-loop-j)

pub overflow_add-from : goal.overflow_add-from
overflow_add-from c = omega (arith, number-room (goal.at.overflow_add-from c).In-loop-j)

pub offset_bounds-values-from : goal.offset_bounds-values-from
offset_bounds-values-from c = omega (arith, number-room (goal.at.offset_bounds-values-from c).In-loop-j)

pub bounds-values-from : goal.bounds-values-from
bounds-values-from c = number-room c.before

pub plus-requires : goal.plus-requires
plus-requires c =
    let d = (goal.at.plus-requires c).In-loop-j in (
      rw (to_z-of_z {w = w64} (sum_fits d)) (sum_near d),
      rw (to_z-of_z {w = w64} (factor-fits d)) (omega (arith, factor-small d)),
      rw (to_z-of_z {w = w64} (number_fits d)) (number_size d),
    )

pub offset_bounds-sums-place-in-loop-j : goal.offset_bounds-sums-place-in-loop-j
offset_bounds-sums-place-in-loop-j c = let d = (goal.at.offset_bounds-sums-place-in-loop-j c).In-loop-j in omega (arith, room d)

pub bounds-sums-place : goal.bounds-sums-place
bounds-sums-place c = place-room c.before.before.before

-- The sum that is written, as the machine reads it back.
plus-is : (g : After-plus)
    → let d = g.before.before.before in
    to_z w64 (of_z w64 g.plus.result) ≡ get_or (sums d) (place d) (pos 0) +ℤ factor d *ℤ number d
plus-is g =
    let d = g.before.before.before in
    to_z-of_z {w = w64} (sfits_of g.plus.type_inv)
    ∙ (simp (to_z-of_z (sum_fits d), to_z-of_z (factor-fits d), to_z-of_z (number_fits d)) at g.plus.ensures)

pub loop-j-preserved : goal.loop-j-preserved
loop-j-preserved c =
    let d = (goal.at.loop-j-preserved c).In-loop-j in
    λ n. added_next n (p d) (values d) (s d).args.from (s d).args.m (s d).args.at (s d).args.sums.now (j d) (sums d) (factor d)
    (to_z w64 (of_z w64 c.plus.result)) (room d) (so_far d n) (value-is d (n +ℤ pos (j d))) (plus-is c)

pub shape_of-sums : goal.shape_of-sums
shape_of-sums c = (c.loop-j.invariant (pos 0)).kept.same_length

pub returns : goal.returns
returns c =
    let a = c.args in
    let all : c.loop-j.j ≡ a.count = omega (arith, c.loop-j.auto.j-end, c.loop-j-test.false) in
    subst (λ k. AddedAnywhere a.p.now a.values.now a.from a.m a.at k a.sums.now k c.loop-j.sums) all
    c.loop-j.invariant
