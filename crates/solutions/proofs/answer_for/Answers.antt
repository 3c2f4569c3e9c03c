-- `solutions::answer_for` meets its contract.
-- Assumes nothing.
use mathlib.Core.Path.{◌≡◌, refl}
use mathlib.Core.Bool.{true}
use mathlib.Core.List.{List}
use Prim.Native.Nat.{ℕ}
use native.Mathlib.Omega.{arith}
use borrow.Author.Tests.{not-true, not-false}
use Rattle.rules.specs.Rows.{Row, Relation}
use Rattle.rules.specs.Stores as Stores
use Rattle.stores.specs.Validity.{the_sizes_of}
use Rattle.sides.specs.StoreStates.{kept_same}
use Rattle.solutions.specs.AnswerStores.{Made, solutions_of, left-unlisted, left-refused, left-listed}
use Rattle.solutions.specs.TrailingCopies.{cleared}
use Rattle.constant_rows.specs.ListLengths.{list_need}
use Rattle.solutions.specs.SolutionCalls.{result_of, unlisted}
use Rattle.solutions.specs.SolutionAnswers.{list_for_of}
use Rattle.std.proofs.Common.{◌∙◌, ap}
use Rattle.refusals.specs.Refusals.{number_of, number-nonzero}
use Rattle.constant_rows.specs.ConstantStores.{told-fine, told-stopped, made-reports, passed-reports}
use Rattle.solutions.proofs.answer_for.Goals as goal
use Rattle.solutions.proofs.answer_for.Goals.{Else-not-reached, Start}

module _ (s : Start) where
  abbrev z : Stores.Sizes
  z = the_sizes_of s.args.sizes

  abbrev rows : List Row
  rows = Stores.rows_of s.args.sizes.equations s.args.rows.now

  abbrev relations : List Relation
  relations = Stores.relations_of s.args.count s.args.relations.now

  abbrev refusal : ℕ
  refusal = s.args.reached.refusal

  abbrev index : ℕ
  index = s.args.reached.index

pub returns-then-not-reached : goal.returns-then-not-reached
unfolding result_of
returns-then-not-reached c =
    let s = (goal.at.returns-then-not-reached c).Start in
    let missing = not-true _ c.if-not-reached.true in record {
      answer_left = left-unlisted (z s) (rows s) (relations s) c.unlisted.result (refusal s) s.args.reached.found (index s) s.args.list.now
          missing c.unlisted.ensures
          s.requires.matrix_need_in_bounds.2;
      kept = kept_same _ _;
    }

-- There is an N.
module _ (d : Else-not-reached) where
  abbrev s : Start
  s = (goal.at.Else-not-reached d).Start

  found : s.args.reached.found ≡ true
  found = not-false _ d.if-not-reached.false

pub list_for-requires : goal.list_for-requires
list_for-requires c =
    let d = (goal.at.list_for-requires c).Else-not-reached in
    record {
      relations_value = (s d).requires.relations_value.0;
      last_le_largest_index = ((s d).requires.relations_value.1 (found d), (s d).requires.matrix_need_in_bounds.0, (s d).requires.matrix_need_in_bounds.1, (s d).requires.matrix_need_in_bounds.2);
    }

pub clear-requires : goal.clear-requires
clear-requires c =
    let s = s (goal.at.clear-requires c).Else-not-reached in
    omega (arith, c.list_for.ensures.kept.1.same_length, s.requires.matrix_need_in_bounds.1)

pub returns-in-Err : goal.returns-in-Err
unfolding result_of
returns-in-Err c =
    let d = (goal.at.returns-in-Err c).Else-not-reached in
    let st = s d in
    let r = c.in-Err.refusal in
    let j = list_for_of (z st) (index st) (rows st) (relations st) in
    let stopped = told-stopped (λ listed l. Made listed st.args.list.now c.list_for.new.list l) j c.list_for.result r c.list_for.ensures.reports c.in-Err.is in
    record {
      answer_left = left-refused (z st) (rows st) (relations st) c.unlisted-in-Err.result (index st) 0 st.args.list.now c.list_for.new.list c.clear.new.store
          (number_of r) (passed-reports _ j _ stopped) (number-nonzero r) (refusal st) st.args.reached.found (found d)
          (c.unlisted-in-Err.ensures ∙ ap (unlisted true) c.number.ensures)
          (cleared list_need st.args.list.now c.list_for.new.list c.clear.new.store c.list_for.ensures.kept.1 c.clear.ensures);
      kept = c.list_for.ensures.kept.0;
    }

pub returns-in-Ok : goal.returns-in-Ok
unfolding solutions_of
returns-in-Ok c =
    let d = (goal.at.returns-in-Ok c).Else-not-reached in
    let st = s d in
    let n = c.in-Ok.listed in
    let j = list_for_of (z st) (index st) (rows st) (relations st) in
    let (l, made, facts) =
    told-fine (λ listed l. Made listed st.args.list.now c.list_for.new.list l) j c.list_for.result n c.list_for.ensures.reports c.in-Ok.is in
    record {
      answer_left = left-listed (z st) (rows st) (relations st)
          (record { refusal = 0; begun = true; found = true; last = index st; count = n }) (index st)
          n st.args.list.now c.list_for.new.list c.list_for.new.list 0 (made-reports (Made n st.args.list.now c.list_for.new.list) j l made facts)
          refl (refusal st) st.args.reached.found (found d) refl;
      kept = c.list_for.ensures.kept.0;
    }
