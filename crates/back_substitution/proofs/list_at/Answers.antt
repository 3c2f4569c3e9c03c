-- `back_substitution::list_at` meets its contract: the row begins as the unit vector, and the back substitution works on it alone.
-- Assumes nothing.
use mathlib.Core.Path.{◌≡◌, ◌∙◌}
use mathlib.Core.List.{List}
use Prim.Native.Nat.{ℕ, ◌+◌, ◌*◌, ◌-◌, ◌≤◌}
use native.Mathlib.Omega.{arith}
use borrow.Rule.Slice.PartMut.{same_len_mid, mid_len}
use lib.IntN.{ℤ, pos}
use lib.ListN.{length, set, length-set}
use Rattle.back_substitution.specs.Listed.{vector_at}
use Rattle.echelon.specs.MatrixTurns.{pivots_in}
use Rattle.constant_rows.specs.ListLengths.{list_columns}
use Rattle.back_substitution.specs.ListRows.{row-begun, row-placed}
use Rattle.back_substitution.proofs.list_at.Goals as goal
use Rattle.back_substitution.proofs.list_at.Goals.{After-substitute_all, Start}

-- the store with the unit vector in row k
module _ (c : Start) where
  abbrev list : List ℤ
  list = c.args.list.now

  abbrev from : ℕ
  from = c.args.k * list_columns

  abbrev begun : List ℤ
  begun = set list (from + c.args.f) (pos 1)

  within : from + c.args.n ≤ length begun
  within = rw length-set (omega (arith, c.requires.n_le_list_columns.0, c.requires.n_le_list_columns.2, c.requires.list_need_in_bounds.0))

-- what the back substitution leaves there
module _ (c : After-substitute_all) where
  abbrev start : Start
  start = (goal.at.After-substitute_all c).Start

  abbrev v : List ℤ
  v = c.substitute_all.new.v

  abbrev n : ℕ
  n = start.args.n

  same-part : length v ≡ n
  same-part =
      let size : from start + n - from start ≡ n = omega arith in
      c.substitute_all.auto.v ∙ mid_len (from start) (from start + n) (begun start) (within start) ∙ size

pub slice_bounds-substitute_all-end : goal.slice_bounds-substitute_all-end
slice_bounds-substitute_all-end c = within (goal.at.slice_bounds-substitute_all-end c).Start

pub substitute_all-requires : goal.substitute_all-requires
substitute_all-requires c =
    let s = (goal.at.substitute_all-requires c).Start in
    let begun = row-begun s.args.n (from s) s.args.f (list s) s.requires.n_le_list_columns.1 s.requires.list_need_in_bounds.1 in
    record {
      n_le_list_columns = (s.requires.n_le_list_columns.0, s.requires.n_le_list_columns.1, begun, s.requires.n_le_list_columns.3);
      free_column = s.requires.free_column;
    }

pub shape_of-list : goal.shape_of-list
shape_of-list c =
    let e = (goal.at.shape_of-list c).After-substitute_all in
    let s = start e in
    same_len_mid (from s) (from s + n e - from s) (begun s) (v e) e.substitute_all.auto.v
    ∙ length-set (list s) (from s + s.args.f) (pos 1)

pub returns : goal.returns
returns c =
    let e = (goal.at.returns c).After-substitute_all in
    let s = start e in
    row-placed (n e) s.args.k s.args.f e.substitute_all.result
    (vector_at (n e) (pivots_in (n e) s.args.columns.now s.args.matrix.now) s.args.f) (v e) (list s)
    s.requires.n_le_list_columns.0 s.requires.n_le_list_columns.1 s.requires.n_le_list_columns.2 s.requires.list_need_in_bounds.0 (same-part e) e.substitute_all.ensures
