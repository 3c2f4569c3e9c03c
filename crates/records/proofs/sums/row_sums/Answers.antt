-- `records::sums::row_sums` meets its contract. The right side is a product with -1.
-- Assumes nothing.
use mathlib.Core.List.{List}
use Prim.Native.Nat.{ℕ, ◌+◌, ◌*◌, ◌-◌, ◌≤◌}
use native.Mathlib.Omega.{arith}
use lib.IntN.{ℤ}
use lib.ListN.{length, get_or}
use mir.Facts.{to_z-of_z}
use Rattle.lists.specs.Tests.{every, every-part}
use Rattle.rules.specs.Limits.{entries_length, row_length, small}
use Rattle.records.specs.Records.{values_right_of}
use Rattle.records.specs.Terms.{count_place, Shaped, numbers-room, fine-wider}
use Rattle.records.specs.Successive.{Kept, Known, left_sum, kept-both, left_near}
use Rattle.records.proofs.Successive.{row-known}
use mir.Syntax.{w64}
use Rattle.records.proofs.sums.row_sums.Goals as goal
use Rattle.records.proofs.sums.row_sums.Goals.{After-left_sums-formed, After-shape-3-1, Start}

-- The shape.
module _ (c : After-shape-3-1) where
  abbrev s : Start
  s = (goal.at.After-shape-3-1 c).Start

  abbrev shape : List ℕ
  shape = c.row_shape.new.shape

  abbrev values : List ℤ
  values = s.args.values.now

  abbrev base : ℕ
  base = (s.args.top - s.args.span) * s.args.m

  shaped : Shaped s.args.m s.args.span s.args.row.now shape
  shaped = c.row_shape.ensures

  room : base + (s.args.tests - 1) * s.args.m + (s.args.span + 1) * s.args.m ≤ length values
  room =
      numbers-room s.args.m s.args.span s.args.top s.args.tests (length values) s.requires.t_2.4 s.requires.t_2.5
      s.requires.t_2.1

pub overflow_mul-top : goal.overflow_mul-top
overflow_mul-top c = omega (arith, room c)

pub left_sums-formed-requires : goal.left_sums-formed-requires
left_sums-formed-requires c =
    let a = (s c).args in record {
      t = rw (to_z-of_z {w = w64} (s c).ranges.n) (s c).requires.t;
      t_2 = ((s c).requires.t_2.0, (shaped c).long);
      count_place_bound = (
        (shaped c).few,
        fine-wider row_length ((a.span + 1) * a.m) (length (values c) - (base c + (a.tests - 1) * a.m)) (shape c)
            (get_or (shape c) count_place 0) (omega (arith, room c)) (shaped c).fine,
      );
      zeros_at = (s c).requires.zeros_at;
    }

-- What the terms make.
module _ (w : After-left_sums-formed) where
  abbrev c : After-shape-3-1
  c = (goal.at.After-left_sums-formed w).After-shape-3-1

  abbrev middle : List ℤ
  middle = w.left_sums-formed.new.sums

  kept : Kept (s c).args.at (s c).args.tests (s c).args.sums.now middle
  kept = w.left_sums-formed.ensures.0

  known : Known (left_sum (s c).args.n (s c).args.row.now (values c) (base c) (s c).args.m (shape c) (get_or (shape c) count_place 0))
      (s c).args.tests (s c).args.at middle w.left_sums-formed.result
  known = rw (to_z-of_z (s c).ranges.n) at w.left_sums-formed.ensures.1

pub bounds-shape-61 : goal.bounds-shape-61
bounds-shape-61 d = omega (arith, (shaped (c (goal.at.bounds-shape-61 d).After-left_sums-formed)).long)

pub slice_bounds-with_term-count : goal.slice_bounds-with_term-count
slice_bounds-with_term-count d = (shaped (c (goal.at.slice_bounds-with_term-count d).After-left_sums-formed)).right-from

pub slice_bounds-with_term-start : goal.slice_bounds-with_term-start
slice_bounds-with_term-start d = (shaped (c (goal.at.slice_bounds-with_term-start d).After-left_sums-formed)).right-from

pub slice_bounds-with_term-end : goal.slice_bounds-with_term-end
slice_bounds-with_term-end d =
    let after = (goal.at.slice_bounds-with_term-end d).After-left_sums-formed in
    let e = c after in omega (arith, (shaped e).right-to, (s e).requires.t.1)

pub with_term-requires : goal.with_term-requires
unfolding values_right_of every
with_term-requires d =
    let w = (goal.at.with_term-requires d).After-left_sums-formed in
    let st = s (c w) in
    let a = st.args in
    let end = get_or (shape (c w)) (count_place + 1) 0 in record {
      t = (
        every-part small entries_length (end - entries_length) a.row.now st.requires.t.0,
        rw (to_z-of_z st.ranges.n) (omega (arith, st.requires.t.2, (known w).few)),
      );
      t_2 = (tt, λ j l. omega arith);
      sums_near = left_near a.n a.row.now (values (c w)) (base (c w)) a.m (shape (c w)) (get_or (shape (c w)) count_place 0) a.tests a.at
          (middle w) w.left_sums-formed.result st.requires.t_2.0 (shaped (c w)).few
          (omega (arith, (kept w).same_length, st.requires.zeros_at.room, (known w).few)) (known w);
    }

pub returns : goal.returns
returns d =
    let w = (goal.at.returns d).After-left_sums-formed in
    let st = s (c w) in
    let a = st.args in
    let added = rw (to_z-of_z st.ranges.n) at d.with_term.ensures in (
      kept-both a.at a.tests a.tests w.left_sums-formed.result a.sums.now (middle w) d.with_term.new.sums (omega arith)
          (known w).few (kept w) added.kept,
      row-known a.m a.span a.row.now (values (c w)) (shape (c w)) a.n a.top (shaped (c w)) st.requires.t_2.4
          a.tests a.at
          (middle w) w.left_sums-formed.result d.with_term.result d.with_term.new.sums (known w) added,
    )
