-- `reduction::run::steps` meets its contract.
-- Assumes nothing.
use mathlib.Core.Path.{◌≡◌, refl, sym, ◌∙◌}
use mathlib.Core.Logic.{inl, inr}
use Prim.Native.Nat.{◌<◌, ◌-◌, ◌+◌}
use native.Mathlib.Omega.{arith}
use borrow.Author.Tests.{leb-true, leb-false}
use Rattle.rules.specs.Limits.{column_count}
use Rattle.sides.specs.Lent.{side_of}
use Rattle.std.proofs.lemmas.Result.{err_from_is_err_and}
use Rattle.refusals.specs.Refusals.{number-nonzero}
use Rattle.reduction.specs.Progress.{state_of}
use Rattle.reduction.specs.Unused.{unused-after}
use Rattle.reduction.specs.RunLaws.{run-starts, run-goes, run-stops, run-refused}
use Rattle.reduction.proofs.run.steps.Goals as goal
use Rattle.reduction.proofs.run.steps.Goals.{Else-is_done}

pub loop-init : goal.loop-init
unfolding state_of
loop-init c =
    let args = c.args in
    let needs = c.requires.equations_le_most_equations in
    rw c.start-p.ensures (
      run-starts (side_of args.side) args.equations args.count (c.enough-most.result - 0) args.rows.now args.relations.now
          needs.0 needs.1 needs.2 (omega (arith, c.enough-most.ensures)),
      c.requires.span_le_most_span.1,
    )

-- a step is to be made
module _ (c : Else-is_done) where
  one-left : c.loop.p.settled < c.loop.p.rows
  one-left = leb-false _ _ (sym c.is_done.ensures ∙ c.if-is_done.false)

  one_more : c.enough-most.result - c.loop.counter ≡ c.enough-most.result - (c.loop.counter + 1) + 1
  one_more = omega (arith, c.loop-test.true)

pub step-requires : goal.step-requires
step-requires c =
    let turn = (goal.at.step-requires c).Else-is_done in
    let at = c.loop.invariant in record {
      ready = (at.0.reached.ready, one-left turn, omega (arith, at.0.reached.few-shifts));
      span_le_most_span = (c.requires.span_le_most_span.0, at.1);
    }

pub returns-then-is_done : goal.returns-then-is_done
returns-then-is_done c =
    run-stops c.loop.invariant.0 (inr (inr (leb-true _ _ (sym c.is_done.ensures ∙ c.if-is_done.true))))

pub returns-in_err-p : goal.returns-in_err-p
returns-in_err-p c =
    let turn = (goal.at.returns-in_err-p c).Else-is_done in
    let exit = err_from_is_err_and c.from_residual.result c.from_residual.ensures.1 in
    let came = c.in_err-p.ensures in
    rw (exit.1, exit.2) (run-refused (run-goes c.loop.invariant.0 (one_more turn) refl (one-left turn) came refl)
    (number-nonzero c.in_err-p.field-0.0.refusal))

pub loop-preserved : goal.loop-preserved
loop-preserved c =
    let turn = (goal.at.loop-preserved c).Else-is_done in
    let at = c.loop.invariant in
    let came = c.in_ok-p.ensures in (
      run-goes at.0 (one_more turn) refl (one-left turn) came refl,
      unused-after column_count c.args.span at.0.reached.ready (side_of c.args.side) (one-left turn) came refl refl at.1,
    )

pub returns : goal.returns
returns c =
    let none : c.enough-most.result - c.loop.counter ≡ 0 = omega (arith, c.loop-test.false) in
    run-stops c.loop.invariant.0 (inl none)
