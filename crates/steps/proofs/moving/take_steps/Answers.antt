-- `steps::moving::take_steps` meets its contract. The loop's invariant: the steps that were taken lead from the first state to
-- that which the stores hold.
-- Assumes nothing.
use mathlib.Core.Path.{◌≡◌, refl, sym, ◌∙◌}
use mathlib.Core.Logic.{inl, inr}
use Prim.Native.Nat.{◌<◌}
use native.Mathlib.Omega.{arith}
use borrow.Author.Tests.{leb-true, leb-false}
use Rattle.refusals.specs.Refusals.{number-nonzero}
use Rattle.reduction.specs.Unused.{none-unused}
use Rattle.steps.specs.Moving.{move-starts}
use Rattle.steps.proofs.MovingLemmas.{moving-shifts, move-goes, move-refused, move-stops}
use Rattle.steps.proofs.moving.take_steps.Goals as goal
use Rattle.steps.proofs.moving.take_steps.Goals.{Else-is_done}

pub loop-taken-init : goal.loop-taken-init
loop-taken-init c = move-starts c.args.first c.args.rows.now c.args.relations.now c.requires.0

-- a step is to be made
one-left : (c : Else-is_done) → c.loop-taken.p.settled < c.loop-taken.p.rows
one-left c = leb-false _ _ (sym c.is_done.ensures ∙ c.if-is_done.false)

pub returns-then-is_done : goal.returns-then-is_done
returns-then-is_done c =
    rw c.stopped.ensures (move-stops c.requires.0 c.requires.1 c.loop-taken.invariant c.args.budget (omega arith)
    (inr (leb-true _ _ (sym c.is_done.ensures ∙ c.if-is_done.true))))

pub step-requires : goal.step-requires
step-requires c = record {
  ready = (c.loop-taken.invariant.reached.ready, one-left (goal.at.step-requires c).Else-is_done, omega (arith, moving-shifts c.requires.0 c.requires.1 c.loop-taken.invariant));
  span_le_most_span = (omega arith, none-unused _ _ c.loop-taken.p);
}

pub returns-in-Err : goal.returns-in-Err
returns-in-Err c =
    let came = c.in-Err.ensures in
    let end = move-refused c.requires.0 c.requires.1 c.loop-taken.invariant c.args.budget (omega arith)
    (one-left (goal.at.returns-in-Err c).Else-is_done) came refl (number-nonzero c.in-Err.stop.refusal) in
    rw c.stopped-in-Err.ensures record { came = end.0; taken = end.1 }

pub loop-taken-preserved : goal.loop-taken-preserved
loop-taken-preserved c =
    move-goes c.requires.0 c.requires.1 c.loop-taken.invariant (one-left (goal.at.loop-taken-preserved c).Else-is_done) c.in-Ok.ensures refl refl

pub returns : goal.returns
returns c =
    let all : c.loop-taken.taken ≡ c.args.budget = omega arith in
    let end = move-stops c.requires.0 c.requires.1 c.loop-taken.invariant c.args.budget (omega arith) (inl (omega arith)) in
    rw c.stopped-2.ensures (rw all at end)
