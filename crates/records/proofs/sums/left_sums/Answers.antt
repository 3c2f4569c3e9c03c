-- `records::sums::left_sums` meets its contract. The invariant: the sums are those of the first k terms; each adds at most 2^56.
-- Assumes nothing.
use mathlib.Core.Path.{◌≡◌, subst}
use mathlib.Core.List.{List}
use Prim.Native.Nat.{ℕ, ◌+◌, ◌*◌, ◌-◌, ◌≤◌, ◌<◌}
use native.Mathlib.Nat.{mul-le-mul, le_refl}
use native.Mathlib.Omega.{arith}
use lib.IntN.{ℤ}
use lib.ListN.{length, get_or}
use mir.Syntax.{w64}
use mir.Facts.{to_z-of_z}
use Rattle.lists.specs.Tests.{every-part}
use Rattle.rules.specs.Limits.{small, row_length}
use Rattle.records.specs.Terms.{term_length_of, count_place, term_polynomial, term_sum, FineTerm}
use Rattle.records.specs.Successive.{NumbersThere, SumsNear, Kept, Known, left_sum}
use Rattle.records.specs.Successive.{kept-none, kept-both, known-zeros, left-next, left_near}
use Rattle.records.proofs.sums.left_sums.Goals as goal
use Rattle.records.proofs.sums.left_sums.Goals.{In-loop-k, Start}

-- A turn: term k.
module _ (d : In-loop-k) where
  abbrev s : Start
  s = (goal.at.In-loop-k d).Start

  abbrev row : List ℤ
  row = s.args.row.now

  abbrev shape : List ℕ
  shape = s.args.shape.now

  abbrev values : List ℤ
  values = s.args.values.now

  abbrev sums : List ℤ
  sums = d.loop-k.sums

  abbrev formed : ℕ
  formed = d.loop-k.formed

  abbrev k : ℕ
  k = d.loop-k.k

  abbrev from : ℕ
  from = get_or shape (k * term_length_of) 0

  abbrev end : ℕ
  end = get_or shape (k * term_length_of + 1) 0

  abbrev number : ℕ
  number = get_or shape (k * term_length_of + 2) 0

  below : k < get_or shape count_place 0
  below = d.loop-k-test.true

  few : get_or shape count_place 0 ≤ 20
  few = s.requires.count_place_bound.0

  term : FineTerm row_length (length values - (s.args.base + (s.args.tests - 1) * s.args.m)) shape k
  term = s.requires.count_place_bound.1 k below

  room : k * term_length_of + 2 < length shape
  room = omega (arith, s.requires.t_2.1, below, few)

  part_room : end ≤ length row
  part_room = omega (arith, term.inside, s.requires.t.1)

  kept : Kept s.args.at s.args.tests s.args.sums.now sums
  kept = d.loop-k.invariant.0

  so_far : Known (left_sum s.args.n row values s.args.base s.args.m shape k) s.args.tests s.args.at sums formed
  so_far = rw (to_z-of_z s.ranges.n) at d.loop-k.invariant.1

  numbers : NumbersThere values (s.args.base + number) s.args.m formed
  numbers j l =
      let behind : j * s.args.m ≤ (s.args.tests - 1) * s.args.m =
      mul-le-mul (omega (arith, so_far.few)) (le_refl s.args.m) in
      omega (arith, term.number, behind)

  near : SumsNear sums s.args.at formed
  near =
      left_near s.args.n row values s.args.base s.args.m shape k s.args.tests s.args.at sums formed s.requires.t_2.0
      (omega (arith, below, few)) (omega (arith, kept.same_length, s.requires.zeros_at.room, so_far.few)) so_far

pub bounds-shape-60 : goal.bounds-shape-60
bounds-shape-60 c = omega (arith, c.requires.t_2.1)

pub loop-k-init : goal.loop-k-init
unfolding term_sum
loop-k-init c =
    let a = c.args in (
      kept-none a.at a.tests a.sums.now,
      known-zeros a.tests a.at a.sums.now c.requires.zeros_at.zeros,
    )

pub overflow_mul-place : goal.overflow_mul-place
overflow_mul-place c = omega (arith, below c, few c)

pub offset_bounds-shape-place : goal.offset_bounds-shape-place
offset_bounds-shape-place c = omega (arith, below c, few c)

pub bounds-shape-place : goal.bounds-shape-place
bounds-shape-place c = omega (arith, room (goal.at.bounds-shape-place c).In-loop-k)

pub overflow_add-end : goal.overflow_add-end
overflow_add-end c =
    let turn = (goal.at.overflow_add-end c).In-loop-k in
    omega (arith, below turn, few turn)

pub offset_bounds-shape-place-in-loop-k : goal.offset_bounds-shape-place-in-loop-k
offset_bounds-shape-place-in-loop-k c =
    let turn = (goal.at.offset_bounds-shape-place-in-loop-k c).In-loop-k in
    omega (arith, below turn, few turn)

pub bounds-shape-place-in-loop-k : goal.bounds-shape-place-in-loop-k
bounds-shape-place-in-loop-k c = omega (arith, room (goal.at.bounds-shape-place-in-loop-k c).In-loop-k)

pub offset_bounds-row-from : goal.offset_bounds-row-from
offset_bounds-row-from c = let d = (goal.at.offset_bounds-row-from c).In-loop-k in omega (arith, (term d).order, (term d).inside)

pub slice_bounds-with_term-count : goal.slice_bounds-with_term-count
slice_bounds-with_term-count c = (term (goal.at.slice_bounds-with_term-count c).In-loop-k).order

pub slice_bounds-with_term-start : goal.slice_bounds-with_term-start
slice_bounds-with_term-start c = (term (goal.at.slice_bounds-with_term-start c).In-loop-k).order

pub slice_bounds-with_term-end : goal.slice_bounds-with_term-end
slice_bounds-with_term-end c = part_room (goal.at.slice_bounds-with_term-end c).In-loop-k

pub overflow_add-place : goal.overflow_add-place
overflow_add-place c = let d = (goal.at.overflow_add-place c).In-loop-k in omega (arith, below d, few d)

pub offset_bounds-shape-place-in-loop-k-2 : goal.offset_bounds-shape-place-in-loop-k-2
offset_bounds-shape-place-in-loop-k-2 c =
    let d = (goal.at.offset_bounds-shape-place-in-loop-k-2 c).In-loop-k in omega (arith, below d, few d)

pub bounds-shape-place-in-loop-k-2 : goal.bounds-shape-place-in-loop-k-2
bounds-shape-place-in-loop-k-2 c = room (goal.at.bounds-shape-place-in-loop-k-2 c).In-loop-k

pub overflow_add-base : goal.overflow_add-base
overflow_add-base c = let d = (goal.at.overflow_add-base c).In-loop-k in omega (arith, (term d).number)

pub with_term-formed-requires : goal.with_term-formed-requires
with_term-formed-requires c =
    let d = (goal.at.with_term-formed-requires c).In-loop-k in record {
      t = (
        every-part small (from d) (end d - from d) (row d) (s d).requires.t.0,
        rw (to_z-of_z {w = w64} (s d).ranges.n) (omega (arith, (s d).requires.t.2, (so_far d).few)),
      );
      t_2 = ((s d).requires.t_2.0, numbers d);
      sums_near = near d;
    }

pub loop-k-preserved : goal.loop-k-preserved
unfolding term_polynomial
loop-k-preserved c =
    let d = (goal.at.loop-k-preserved c).In-loop-k in
    let a = (s d).args in
    let added = rw (to_z-of_z {w = w64} (s d).ranges.n) at c.with_term-formed.ensures in (
      kept-both a.at a.tests a.tests (formed d) a.sums.now (sums d) c.with_term-formed.new.sums (omega arith) (so_far d).few (kept d)
          added.kept,
      rw (to_z-of_z {w = w64} (s d).ranges.n)
          (left-next a.n (row d) (values d) a.base a.m (shape d) (k d) a.tests a.at (sums d) (formed d)
          c.with_term-formed.result c.with_term-formed.new.sums
          (so_far d) added),
    )

pub shape_of-sums : goal.shape_of-sums
shape_of-sums c = c.loop-k.invariant.0.same_length

pub returns : goal.returns
returns c =
    let a = c.args in
    let all : c.loop-k.k ≡ get_or a.shape.now count_place 0 = omega (arith, c.loop-k.auto.k-end, c.loop-k-test.false) in (
      c.loop-k.invariant.0,
      subst (λ k. Known (left_sum a.n a.row.now a.values.now a.base a.m a.shape.now k) a.tests a.at
          c.loop-k.sums
          c.loop-k.formed) all (rw (to_z-of_z c.ranges.n) at c.loop-k.invariant.1),
    )
