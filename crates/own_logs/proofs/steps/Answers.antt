-- `own_logs::steps` meets its contract. The loop's invariant: the steps that are left, from the progress that is reached, give
-- what the whole run gives, and the log holds the steps up to there.
-- Assumes nothing.
use mathlib.Core.Path.{◌≡◌, refl, sym, ◌∙◌, subst}
use mathlib.Core.Logic.{inl, inr}
use Prim.Native.Nat.{ℕ, ◌≤◌, ◌<◌, ◌-◌, ◌+◌}
use mathlib.Core.List.{List}
use lib.IntN.{ℤ}
use native.Mathlib.Omega.{arith}
use borrow.Author.Tests.{leb-true, leb-false}
use lib.ListN.{length}
use Rattle.std.proofs.lemmas.Result.{err_from_is_err_and}
use Rattle.refusals.specs.Refusals.{number-nonzero}
use Rattle.rules.specs.Elimination as Elimination
use Rattle.reduction.specs.RunLaws.{run-starts, run-goes, run-stops, run-refused}
use Rattle.reduction.specs.Unused.{none-unused}
use Rattle.log_steps.specs.Logs.{Change, own_need}
use Rattle.own_logs.specs.LoggedSteps.{Noting, noted-refused, noting-starts, noting-goes, noting-stops}
use Rattle.own_logs.proofs.steps.Goals as goal
use Rattle.own_logs.proofs.steps.Goals.{Else-is_done}

left-is : {all : List Change} {log log' : List ℤ} {n k left rest : ℕ} {s : Elimination.State} → left ≡ rest
    → Noting all log log' n k left s → Noting all log log' n k rest s
left-is {all} {log} {log'} {n} {k} {left} {rest} {s} e = subst (λ m. Noting all log log' n k m s) e

pub loop-init : goal.loop-init
loop-init c =
    let args = c.args in
    let left = c.enough-most.result - 0 in
    rw c.start-p.ensures (
      run-starts Elimination.leading args.equations args.count left args.rows.now args.relations.now
          c.requires.0 c.requires.1 c.requires.2 (omega (arith, c.enough-most.ensures)),
      noting-starts args.equations args.count left args.rows.now args.relations.now args.log.now
          c.requires.0 (omega (arith, c.enough-most.ensures)),
    )

-- a step is to be made
module _ (c : Else-is_done) where
  one_left : c.loop.p.settled < c.loop.p.rows
  one_left = leb-false _ _ (sym c.is_done.ensures ∙ c.if-is_done.false)

  some_left : 0 < c.enough-most.result - c.loop.counter
  some_left = omega (arith, c.loop-test.true)

  one_more : c.enough-most.result - c.loop.counter ≡ c.enough-most.result - (c.loop.counter + 1) + 1
  one_more = omega (arith, c.loop-test.true)

  next : c.enough-most.result - c.loop.counter - 1 ≡ c.enough-most.result - (c.loop.counter + 1)
  next = omega (arith, c.loop-test.true)

  room : own_need ≤ length c.args.log.now
  room = c.requires.3

pub returns-then-is_done : goal.returns-then-is_done
returns-then-is_done c =
    let at = c.loop.invariant in
    let end = inr (inr (leb-true _ _ (sym c.is_done.ensures ∙ c.if-is_done.true))) in
    record {
      came = run-stops at.0 end;
      noted = noting-stops at.1 at.0.reached.ready end;
    }

pub step_lines-lines-requires : goal.step_lines-lines-requires
step_lines-lines-requires c =
    (record { relations = c.loop.relations; ready = c.loop.invariant.0.reached.ready }, one_left (goal.at.step_lines-lines-requires c).Else-is_done)

pub put_lines-requires : goal.put_lines-requires
put_lines-requires c =
    let turn = (goal.at.put_lines-requires c).Else-is_done in
    let noting = turn.loop.invariant.1 in
    (c.step_lines-lines.ensures.two, omega (arith, noting.few, some_left turn, noting.kept.same_length, room turn))

pub overflow_add-k : goal.overflow_add-k
overflow_add-k c =
    let turn = (goal.at.overflow_add-k c).Else-is_done in
    omega (arith, turn.loop.invariant.1.few, c.step_lines-lines.ensures.two.few)

pub step-requires : goal.step-requires
step-requires c =
    let turn = (goal.at.step-requires c).Else-is_done in
    let at = turn.loop.invariant.0 in
    record {
      ready = (at.reached.ready, one_left turn, omega (arith, at.reached.few-shifts));
      span_le_most_span = (omega arith, none-unused _ _ turn.loop.p);
    }

pub returns-in_err-p : goal.returns-in_err-p
returns-in_err-p c =
    let turn = (goal.at.returns-in_err-p c).Else-is_done in
    let inv = turn.loop.invariant in
    let exit = err_from_is_err_and c.from_residual.result c.from_residual.ensures.1 in
    let came = c.in_err-p.ensures in
    let refused = number-nonzero c.in_err-p.field-0.0.refusal in
    rw (exit.1, exit.2) record {
      came = run-refused (run-goes inv.0 (one_more turn) refl (one_left turn) came refl) refused;
      noted = noted-refused refused
          (noting-stops (noting-goes inv.1 inv.0.reached.ready (some_left turn) refl (one_left turn) c.step_lines-lines.ensures
          c.put_lines.ensures came refl (room turn)) came.ready (inr (inl refused)));
    }

pub loop-preserved : goal.loop-preserved
loop-preserved c =
    let turn = (goal.at.loop-preserved c).Else-is_done in
    let inv = turn.loop.invariant in
    let came = c.in_ok-p.ensures in (
      run-goes inv.0 (one_more turn) refl (one_left turn) came refl,
      left-is (next turn) (noting-goes inv.1 inv.0.reached.ready (some_left turn) refl (one_left turn) c.step_lines-lines.ensures
          c.put_lines.ensures came refl (room turn)),
    )

pub returns : goal.returns
returns c =
    let at = c.loop.invariant in
    let none : c.enough-most.result - c.loop.counter ≡ 0 = omega (arith, c.loop-test.false) in
    record {
      came = run-stops at.0 (inl none);
      noted = noting-stops at.1 at.0.reached.ready (inl none);
    }
