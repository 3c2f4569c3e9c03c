-- `records::sums::with_term` meets its contract. The invariant: the products are added at the first j of the n.
-- Assumes nothing.
use mathlib.Core.Path.{◌≡◌, sym, ◌∙◌, ap, subst}
use mathlib.Core.List.{List}
use mathlib.Core.Logic.{inr}
use mathlib.Core.Option.{none, some}
use Prim.Native.Nat.{ℕ, ◌+◌, ◌*◌, ◌≤◌, ◌<◌}
use native.Mathlib.Omega.{arith}
use borrow.Author.Rules.{sfits_of}
use lib.Dec.{lit<}
use lib.IntN.{ℤ, pos, nat_abs, ◌+ℤ◌, ◌*ℤ◌}
use lib.ListN.{length, get_or}
use mir.Syntax.{w64}
use mir.Val.{SFits, of_z, to_z}
use mir.Facts.{to_z-of_z, to_z_pos}
use Rattle.algebra.specs.Integers.{nat_abs-+ℤ}
use Rattle.integers.specs.Ranges.{sfits-size}
use Rattle.evaluation.specs.Evaluated.{farthest, value_limit, formed_of, horner, horner-size}
use Rattle.std.proofs.Common.{Some, None}
use Rattle.records.specs.Records.{value_bound}
use Rattle.records.specs.RecordSums.{block_room, values-small}
use Rattle.records.specs.Successive.{Added, added_none, added_next, added-stop}
use Rattle.records.proofs.sums.with_term.Goals as goal
use Rattle.records.proofs.sums.with_term.Goals.{After-evaluate, After-plus, In-Some, In-loop-j, Start}

-- One coefficient.
pub with_constant-requires : goal.with_constant-requires
with_constant-requires c =
    record {
      t = (c.requires.t.0, c.if-p-eq1.true);
      t_2 = c.requires.t_2;
      sums_near = c.requires.sums_near;
    }

pub shape_of-sums-then-p-eq1 : goal.shape_of-sums-then-p-eq1
shape_of-sums-then-p-eq1 c = (c.with_constant.ensures (pos 0)).kept.same_length

pub returns-then-p-eq1 : goal.returns-then-p-eq1
returns-then-p-eq1 c = c.with_constant.ensures c.args.n

-- A turn: the n of number j.
module _ (d : In-loop-j) where
  abbrev s : Start
  s = (goal.at.In-loop-j d).Start

  abbrev p : List ℤ
  p = s.args.p.now

  abbrev values : List ℤ
  values = s.args.values.now

  abbrev sums : List ℤ
  sums = d.loop-j.sums

  abbrev j : ℕ
  j = d.loop-j.j

  abbrev place : ℕ
  place = s.args.at + j

  abbrev number : ℤ
  number = get_or values (s.args.from + j * s.args.m) (pos 0)

  abbrev index : ℤ
  index = s.args.n +ℤ pos j

  below : j < s.args.count
  below = d.loop-j-test.true

  so_far : Added s.args.n p values s.args.from s.args.m s.args.at j s.args.sums.now j sums
  so_far = rw (to_z-of_z s.ranges.n) at d.loop-j.invariant

  room : place < length s.args.sums.now
  room = omega (arith, s.requires.sums_near.room, below)

  place-room : place < length sums
  place-room = omega (arith, so_far.kept.same_length, room)

  number-room : s.args.from + j * s.args.m < length values
  number-room = s.requires.t_2.1 j below

  sum_near : nat_abs (get_or sums place (pos 0)) ≤ 5 * block_room
  sum_near = rw (so_far.kept.others place (inr (omega arith))) (s.requires.sums_near.near j below)

  sum_fits : SFits w64 (get_or sums place (pos 0))
  sum_fits = sfits-size (get_or sums place (pos 0)) sum_near (lit< tt)

  number_size : nat_abs number ≤ value_bound
  number_size = values-small values s.requires.t_2.0 (s.args.from + j * s.args.m)

  number_fits : SFits w64 number
  number_fits = sfits-size number number_size (lit< tt)

  j-is : to_z w64 j ≡ pos j
  j-is = to_z_pos w64 (omega (arith, below, s.requires.t.1))

  index-near : nat_abs index ≤ farthest
  index-near = omega (arith, nat_abs-+ℤ s.args.n (pos j), below, s.requires.t.1)

  index-fits : SFits w64 index
  index-fits = sfits-size index index-near (lit< tt)

pub loop-j-init : goal.loop-j-init
loop-j-init c =
    let a = c.args in
    added_none _ a.p.now a.values.now a.from a.m a.at a.sums.now

pub overflow_cast-j : goal.overflow_cast-j
overflow_cast-j c = omega (arith, below c, (s c).requires.t.1)

pub overflow_add-n : goal.overflow_add-n
overflow_add-n c = simp (to_z-of_z {w = w64} (s c).ranges.n, j-is c) (index-fits c)

pub evaluate-requires : goal.evaluate-requires
evaluate-requires c =
    ((s c).requires.t.0, simp (to_z-of_z {w = w64} (s c).ranges.n, j-is c, to_z-of_z {w = w64} (index-fits c)) (index-near c))

-- What Horner's rule gives there.
value_of : (e : After-evaluate) → formed_of e.evaluate.result
    ≡ horner (index (goal.at.After-evaluate e).In-loop-j) (p (goal.at.After-evaluate e).In-loop-j)
value_of e = simp (
  to_z-of_z (s (goal.at.After-evaluate e).In-loop-j).ranges.n,
  j-is (goal.at.After-evaluate e).In-loop-j,
  to_z-of_z (index-fits (goal.at.After-evaluate e).In-loop-j),
) at e.evaluate.ensures

pub shape_of-sums-in_default : goal.shape_of-sums-in_default
shape_of-sums-in_default c = (so_far (goal.at.shape_of-sums-in_default c).In-loop-j).kept.same_length

pub returns-in_default : goal.returns-in_default
returns-in_default c =
    let e = (goal.at.returns-in_default c).After-evaluate in
    let d = (goal.at.After-evaluate e).In-loop-j in
    let told : e.evaluate.result ≡ None = c.in_default.is in
    let none-there : horner (index d) (p d) ≡ none = sym (sym (ap formed_of told) ∙ value_of e) in
    added-stop (s d).args.n (p d) (values d) (s d).args.from (s d).args.m (s d).args.at (s d).args.sums.now (j d)
    (s d).args.count (sums d) (omega (arith, below d)) (λ l. none-there) (so_far d)

-- The value that was found.
module _ (f : In-Some) where
  abbrev e : After-evaluate
  e = (goal.at.In-Some f).After-evaluate

  abbrev d : In-loop-j
  d = (goal.at.After-evaluate e).In-loop-j

  abbrev value : ℤ
  value = f.in-Some.value

  value-is : horner (index d) (p d) ≡ some value
  value-is =
      let known : e.evaluate.result ≡ Some value = f.in-Some.is in
      sym (sym (ap formed_of known) ∙ value_of e)

  value-size : nat_abs value ≤ value_limit
  value-size = horner-size (index d) (p d) value value-is

  value-fits : SFits w64 value
  value-fits = sfits-size value value-size (lit< tt)

pub overflow_add-place : goal.overflow_add-place
overflow_add-place c = omega (arith, room (d c))

pub offset_bounds-sums-place : goal.offset_bounds-sums-place
offset_bounds-sums-place c = omega (arith, room (d c))

pub slice_copy_out-plus : goal.slice_copy_out-plus
slice_copy_out-plus c = place-room (d c)

pub overflow_mul-j : goal.overflow_mul-j
overflow_mul-j c = omega (arith, number-room (d (goal.at.overflow_mul-j c).In-Some))

pub overflow_add-from : goal.overflow_add-from
overflow_add-from c = omega (arith, number-room (d (goal.at.overflow_add-from c).In-Some))

pub offset_bounds-values-from : goal.offset_bounds-values-from
offset_bounds-values-from c = omega (arith, number-room (d (goal.at.offset_bounds-values-from c).In-Some))

pub bounds-values-from : goal.bounds-values-from
bounds-values-from c = number-room (d (goal.at.bounds-values-from c).In-Some)

pub plus-requires : goal.plus-requires
plus-requires c =
    let f = (goal.at.plus-requires c).In-Some in (
      rw (to_z-of_z {w = w64} (sum_fits (d f))) (sum_near (d f)),
      rw (to_z-of_z {w = w64} (value-fits f)) (value-size f),
      rw (to_z-of_z {w = w64} (number_fits (d f))) (number_size (d f)),
    )

pub offset_bounds-sums-place-in-loop-j : goal.offset_bounds-sums-place-in-loop-j
offset_bounds-sums-place-in-loop-j c = let e = d (goal.at.offset_bounds-sums-place-in-loop-j c).In-Some in omega (arith, room e)

pub bounds-sums-place : goal.bounds-sums-place
bounds-sums-place c = place-room (d (goal.at.bounds-sums-place c).In-Some)

-- The sum that is written, as the machine reads it back.
plus-is : (g : After-plus)
    → let f = g.before.before.before in
    to_z w64 (of_z w64 g.plus.result) ≡ get_or (sums (d f)) (place (d f)) (pos 0) +ℤ value f *ℤ number (d f)
plus-is g =
    let f = g.before.before.before in
    to_z-of_z {w = w64} (sfits_of g.plus.type_inv)
    ∙ (simp (to_z-of_z (sum_fits (d f)), to_z-of_z (value-fits f), to_z-of_z (number_fits (d f))) at g.plus.ensures)

pub loop-j-preserved : goal.loop-j-preserved
loop-j-preserved c =
    let f = (goal.at.loop-j-preserved c).In-Some in
    let e = d f in
    let a = (s e).args in
    rw (to_z-of_z {w = w64} (s e).ranges.n)
    (added_next a.n (p e) (values e) a.from a.m a.at a.sums.now (j e) (sums e) (value f)
    (to_z w64 (of_z w64 c.plus.result)) (room e) (so_far e) (value-is f) (plus-is c))

pub shape_of-sums : goal.shape_of-sums
shape_of-sums c = c.loop-j.invariant.kept.same_length

pub returns : goal.returns
returns c =
    let a = c.args in
    let all : c.loop-j.j ≡ a.count = omega (arith, c.loop-j.auto.j-end, c.loop-j-test.false) in
    subst (λ k. Added a.n a.p.now a.values.now a.from a.m a.at k a.sums.now k c.loop-j.sums) all
    (rw (to_z-of_z c.ranges.n) at c.loop-j.invariant)
