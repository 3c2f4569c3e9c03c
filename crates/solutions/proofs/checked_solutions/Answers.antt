-- `solutions::checked_solutions` meets its contract.
-- Assumes nothing.
use mathlib.Core.Path.{◌≡◌}
use native.Mathlib.Omega.{arith}
use Rattle.lists.specs.Overwritten.{overwrite}
use Rattle.rules.specs.Calls.{zeros}
use Rattle.rules.specs.Stores as Stores
use Rattle.stores.specs.Validity.{the_sizes_of}
use Rattle.sides.specs.StoreStates.{kept_same}
use Rattle.solutions.specs.AnswerStores.{work_of, index-few, over-front, call-checked}
use Rattle.solutions.specs.TrailingCopies.{cleared}
use Rattle.constant_rows.specs.ListLengths.{list_need}
use Rattle.solutions.specs.SolutionChecks.{CallRight, check_call-zero}
use Rattle.solutions.proofs.checked_solutions.Goals as goal
use Rattle.solutions.proofs.checked_solutions.Goals.{After-clear, After-last_index-reached, Start}

module _ (s : Start) where
  abbrev z : Stores.Sizes
  z = the_sizes_of s.args.sizes

  right : CallRight z s.args.count s.args.rows.now s.args.relations.now
      (work_of s.args.work_rows.now s.args.work_relations.now s.args.work_matrix.now s.args.list.now)
  right = check_call-zero z s.args.count s.args.rows.now s.args.relations.now _ s.requires

-- The list store is cleared.
module _ (d : After-clear) where
  abbrev st : Start
  st = (goal.at.After-clear d).Start

  list-is : d.clear.new.store ≡ overwrite (zeros list_need) st.args.list.now
  list-is = cleared list_need _ _ _ (kept_same list_need st.args.list.now) d.clear.ensures

pub clear-requires : goal.clear-requires
clear-requires c = let s = (goal.at.clear-requires c).Start in omega (arith, (right s).list-long)

pub last_index-reached-requires : goal.last_index-reached-requires
unfolding the_sizes_of Stores.equations
last_index-reached-requires c =
    let s = st (goal.at.last_index-reached-requires c).After-clear in
    record {
      relations_value = (right s).system;
      equations_in_bounds = ((right s).rows_long, (right s).relations-long);
    }

-- The last index is known.
module _ (l : After-last_index-reached) where
  abbrev d : After-clear
  d = (goal.at.After-last_index-reached l).After-clear

  abbrev s : Start
  s = st d

pub answer_for-answer-requires : goal.answer_for-answer-requires
unfolding the_sizes_of Stores.equations
answer_for-answer-requires c =
    let l = (goal.at.answer_for-answer-requires c).After-last_index-reached in
    let b = s l in record {
      relations_value = ((right b).system, index-few (z b) _ _ _ _ l.last_index-reached.ensures.result_value);
      matrix_need_in_bounds = (
        (right b).matrix-long,
        rw (list-is (d l)) (over-front list_need b.args.list.now (right b).list-long).0,
        rw (list-is (d l)) (over-front list_need b.args.list.now (right b).list-long).1,
      );
    }

pub clear-requires-2 : goal.clear-requires-2
clear-requires-2 c =
    let l = (goal.at.clear-requires-2 c).After-last_index-reached in
    omega (arith, c.answer_for-answer.ensures.kept.same_length, (right (s l)).matrix-long)

pub returns : goal.returns
unfolding the_sizes_of Stores.equations
returns c =
    let l = (goal.at.returns c).After-last_index-reached in
    let b = s l in
    call-checked (z b) b.args.count b.args.rows.now b.args.relations.now b.args.work_rows.now
    b.args.work_relations.now
    b.args.work_matrix.now b.args.list.now c.answer_for-answer.result _ _ _ _ _ b.requires
    (rw l.last_index-reached.ensures.result_value at c.answer_for-answer.ensures.answer_left) l.last_index-reached.ensures.work_rows_after l.last_index-reached.ensures.work_relations_after
    (cleared _ _ _ _ c.answer_for-answer.ensures.kept c.clear-2.ensures) (list-is (d l))
