-- `solutions::trailing::last_index` meets its contract.
-- Assumes nothing.
use mathlib.Core.Path.{◌∙◌, ap}
use Prim.Native.Nat.{ℕ, ◌≤◌, ◌*◌}
use native.Mathlib.Omega.{arith}
use lib.ListN.{length}
use Rattle.rules.specs.Limits.{row_length, relation_length}
use Rattle.rules.specs.Stores.{Sizes, equations, row_need, relation_need}
use Rattle.stores.specs.Validity.{the_sizes_of}
use Rattle.runs.specs.CallLaws.{Checked, checked, few-equations}
use Rattle.solutions.specs.LastIndices.{index_after}
use Rattle.reduction.specs.Progress.{final_answer}
use Rattle.solutions.specs.TrailingCopies.{CopyRan, cleared, cleared-used}
use Rattle.solutions.proofs.trailing.last_index.Goals as goal
use Rattle.solutions.proofs.trailing.last_index.Goals.{After-copy_run-o, Start}

module _ (s : Start) where
  abbrev z : Sizes
  z = the_sizes_of s.args.sizes

  ok : Checked z s.args.count s.args.rows.now s.args.relations.now
  ok = checked z s.args.count s.args.rows.now s.args.relations.now s.requires.relations_value

  few : s.args.sizes.equations ≤ 6
  unfolding equations the_sizes_of
  few = few-equations z ok.sizes

pub copy_run-o-requires : goal.copy_run-o-requires
copy_run-o-requires c = c.requires

-- The run.
module _ (r : After-copy_run-o) where
  abbrev s : Start
  s = (goal.at.After-copy_run-o r).Start

  ran : CopyRan (z s) s.args.count s.args.rows.now s.args.relations.now s.args.work_rows.now
      s.args.work_relations.now r.copy_run-o.new.work_rows r.copy_run-o.new.work_relations (final_answer s.args.sizes.equations r.copy_run-o.result)
  ran = r.copy_run-o.ensures

  rows_long : s.args.sizes.equations * row_length ≤ length r.copy_run-o.new.work_rows
  unfolding equations the_sizes_of row_need
  rows_long = rw ran.rows-kept.same_length s.requires.equations_in_bounds.0

  relations-long : relation_need ≤ length r.copy_run-o.new.work_relations
  relations-long = rw ran.relations-kept.same_length s.requires.equations_in_bounds.1

  abbrev listed : ℕ
  listed = (final_answer s.args.sizes.equations r.copy_run-o.result).progress.count * relation_length

  listed-few : listed ≤ relation_need
  listed-few = omega (arith, ran.listing.few)

pub overflow_mul-listed : goal.overflow_mul-listed
overflow_mul-listed c =
    let r = (goal.at.overflow_mul-listed c).After-copy_run-o in
    omega (arith, (ran r).listing.few, c.listed_by-listed.ensures (s r).args.sizes.equations)

pub index_by-last-requires : goal.index_by-last-requires
index_by-last-requires c =
    let r = (goal.at.index_by-last-requires c).After-copy_run-o in
    ((ok (s r)).sizes, (ran r).final)

pub overflow_mul-sizes : goal.overflow_mul-sizes
overflow_mul-sizes c =
    let r = (goal.at.overflow_mul-sizes c).After-copy_run-o in
    omega (arith, few (s r))

pub clear-requires : goal.clear-requires
clear-requires c =
    let r = (goal.at.clear-requires c).After-copy_run-o in
    omega (arith, rows_long r)

pub clear-requires-2 : goal.clear-requires-2
clear-requires-2 c =
    let r = (goal.at.clear-requires-2 c).After-copy_run-o in
    omega (arith, listed-few r, relations-long r, c.listed_by-listed.ensures (s r).args.sizes.equations)

pub returns : goal.returns
unfolding equations the_sizes_of row_need
returns c =
    let r = (goal.at.returns c).After-copy_run-o in record {
      result_value = c.index_by-last.ensures _ ∙ ap (index_after (z (s r))) (ran r).outcome;
      work_rows_after = cleared _ _ _ _ (ran r).rows-kept c.clear.ensures;
      work_relations_after = cleared-used (listed r) relation_need _ _ _ (listed-few r) (relations-long r) (ran r).listing.unused (ran r).relations-kept
          (rw (c.listed_by-listed.ensures (s r).args.sizes.equations) at c.clear-2.ensures);
    }
