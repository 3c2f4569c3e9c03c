-- `back_substitution::list_sequences` meets its contract. The loop's invariant: the sequences of the free columns below f stand in the
-- store, and nothing past its needed part has changed.
-- Assumes nothing.
use mathlib.Core.Path.{◌≡◌, refl, sym}
use mathlib.Core.List.{List}
use Prim.Native.Nat.{ℕ}
use native.Mathlib.Omega.{arith}
use lib.ListN.{length, take}
use lib.Seq.{length-take-le}
use Rattle.sides.specs.Lent.{Kept}
use Rattle.sides.specs.StoreStates.{kept_then}
use Rattle.echelon.specs.Eliminated.{Pivot}
use Rattle.echelon.specs.MatrixTurns.{pivots_in}
use Rattle.constant_rows.specs.ListLengths.{list_need}
use Rattle.std.proofs.Common.{Ok, ◌+◌, ap, subst}
use Rattle.refusals.specs.Refusals.{refusal_in}
use Rattle.constant_rows.specs.ConstantStores.{told-refused}
use Rattle.back_substitution.specs.ListRows.{Written, count_in, written_none, listing-passed, listing-goes-on, listing-told}
use Rattle.back_substitution.proofs.list_sequences.Goals as goal
use Rattle.back_substitution.proofs.list_sequences.Goals.{After-list_column, At-loop-f, Start}

-- the columns of the settled rows
module _ (c : Start) where
  abbrev used : List ℕ
  used = take c.args.settled c.args.columns

  abbrev ps : List Pivot
  ps = pivots_in c.args.n used c.args.matrix.now

  enough : length used ≡ c.args.settled
  enough = length-take-le c.args.settled c.args.columns (omega (arith, c.requires.n_le_list_columns.0, c.requires.n_le_list_columns.1, c.requires.n_le_list_columns.3))

-- one column more
module _ (c : After-list_column) where
  abbrev start : Start
  start = (goal.at.After-list_column c).Start

  abbrev loop : At-loop-f
  loop = (goal.at.After-list_column c).At-loop-f

  kept : Kept list_need start.args.list.now c.list_column.new.list
  kept = kept_then loop.loop-f.invariant.2 c.list_column.ensures.kept

pub slice_bounds-used-end : goal.slice_bounds-used-end
slice_bounds-used-end c = sym (enough (goal.at.slice_bounds-used-end c).Start)

pub loop-f-init : goal.loop-f-init
loop-f-init c =
    let s = (goal.at.loop-f-init c).Start in
    (omega arith, written_none s.args.n (ps s) s.args.list.now s.requires.list_need_in_bounds.1, record { same_length = refl; same_rest = refl })

pub list_column-requires : goal.list_column-requires
list_column-requires c =
    let s = (goal.at.list_column-requires c).Start in
    let inv = c.loop-f.invariant in record {
      n_le_list_columns = (
        s.requires.n_le_list_columns.0,
        c.loop-f-test.true,
        omega (arith, enough s, s.requires.n_le_list_columns.0, s.requires.n_le_list_columns.1, s.requires.n_le_list_columns.2),
        omega (arith, inv.2.same_length, s.requires.list_need_in_bounds.0),
      );
      settled = record { echelon = s.requires.echelon.0; within = s.requires.echelon.1 };
      written = inv.1;
    }

pub returns-in_err-count : goal.returns-in_err-count
returns-in_err-count c =
    let e = (goal.at.returns-in_err-count c).After-list_column in
    let s = start e in
    let r = c.in_err-count.field-0.0 in
    record {
      reports = told-refused _ _ _ r c.from_residual.ensures.1
          (listing-passed s.args.n (ps s) (loop e).loop-f.f _ r e.list_column.new.list c.in_err-count.was e.list_column.ensures.stepped);
      kept = kept e;
    }

pub loop-f-preserved : goal.loop-f-preserved
loop-f-preserved c =
    let e = (goal.at.loop-f-preserved c).After-list_column in
    let s = start e in
    let told : e.list_column.result ≡ Ok c.in_ok-count.count = c.in_ok-count.was in (
      omega arith,
      subst (λ k. Written s.args.n (ps s) ((loop e).loop-f.f + 1) k e.list_column.new.list) (ap count_in told)
          (listing-goes-on s.args.n (ps s) (loop e).loop-f.f _ _ e.list_column.new.list (ap refusal_in told) e.list_column.ensures.stepped),
      kept e,
    )

pub shape_of-list : goal.shape_of-list
shape_of-list c = c.loop-f.invariant.2.same_length

pub returns : goal.returns
returns c =
    let s = (goal.at.returns c).Start in
    let at = c.loop-f in record {
      reports = listing-told s.args.n (ps s) at.f at.count s.args.list.now at.list at.invariant.1 (omega arith) at.invariant.2;
      kept = at.invariant.2;
    }
