-- `exported_solutions::exported` meets its contract.
-- Assumes nothing.
use mathlib.Core.Path.{◌∙◌, ap}
use mathlib.Core.List.{List}
use Prim.Native.Nat.{ℕ}
use lib.IntN.{ℤ}
use Rattle.rules.specs.Stores.{Sizes}
use Rattle.stores.specs.Validity.{the_sizes_of}
use Rattle.solutions.specs.AnswerStores.{work_of, solutions_of, call_of}
use Rattle.solutions.specs.SolutionCalls.{Work}
use Rattle.exported_solutions.specs.SolutionNumbers.{unsolved, solutions-short, solutions-small, solutions-done}
use Rattle.exported_solutions.proofs.exported.Goals as goal
use Rattle.exported_solutions.proofs.exported.Goals.{Start}

-- the call
module _ (c : Start) where
  abbrev z : Sizes
  z = the_sizes_of c.args.sizes

  abbrev count : ℕ
  count = c.args.count

  abbrev rows : List ℤ
  rows = c.args.rows.now

  abbrev relations : List ℤ
  relations = c.args.relations.now

  abbrev work : Work
  work = work_of c.args.work_rows.now c.args.work_relations.now c.args.work_matrix.now c.args.list.now

  abbrev result : List ℤ
  result = c.args.res.now

pub returns-then-res-lt3 : goal.returns-then-res-lt3
returns-then-res-lt3 c =
    let s = (goal.at.returns-then-res-lt3 c).Start in
    ap (λ n. unsolved n (work s) (result s)) (c.number_in.ensures ∙ c.check_stores-checked.ensures)
    ∙ solutions-short (z s) (count s) (rows s) (relations s) (work s) (result s) c.if-res-lt3.true

pub put_solutions-requires : goal.put_solutions-requires
unfolding call_of
put_solutions-requires c =
    let s = (goal.at.put_solutions-requires c).Start in
    (c.if-res-lt3.false, solutions-small (z s) (count s) (rows s) (relations s) (work s) c.solutions-answer.ensures)

pub returns : goal.returns
unfolding call_of solutions_of
returns c =
    let s = (goal.at.returns c).Start in
    solutions-done (z s) (count s) (rows s) (relations s) (work s) (result s) c.solutions-answer.ensures c.put_solutions.ensures
    c.if-res-lt3.false
