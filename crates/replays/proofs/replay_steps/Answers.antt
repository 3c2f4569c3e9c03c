-- `replays::replay_steps` meets its contract. The loop's invariant: the first k steps lead from the first state to that which the
-- stores hold.
-- Assumes nothing.
use mathlib.Core.Path.{◌≡◌, refl, sym, ◌∙◌, ap, subst}
use mathlib.Core.List.{List, []}
use Prim.Native.Nat.{ℕ, ◌+◌, ◌*◌, ◌-◌, ◌<◌}
use native.Mathlib.Omega.{arith}
use lib.IntN.{ℤ}
use lib.ListN.{length, get_or, take, drop, length-drop}
use lib.Seq.{length-take-le}
use Rattle.std.proofs.lemmas.Result.{err_from_is_err_and}
use Rattle.refusals.specs.Refusals.{number-nonzero}
use Rattle.rules.specs.Elimination.{State}
use Rattle.reduction.specs.Answer as Answer
use Rattle.reduction.specs.declared.step.Progress.{Progress}
use Rattle.lists.specs.Parts.{parts-length, get_or-parts}
use Rattle.log_steps.specs.Logs.{step_length, steps_in, change_of, changed_if}
use Rattle.log_steps.specs.StoreChanges.{Stepped}
use Rattle.replays.specs.Replays.{replay-starts, replay-goes, replay-halts, replay-stops, replaying-shifts}
use Rattle.replays.proofs.replay_steps.Goals as goal

steps-count : (n : ℕ) (log : List ℤ) → length (steps_in n log) ≡ n
unfolding steps_in
steps-count n log = parts-length step_length n log

step-at : (n : ℕ) (log : List ℤ) (k w : ℕ) → k < n → w ≡ step_length
    → take w (drop (k * step_length) log) ≡ get_or (steps_in n log) k []
unfolding steps_in
step-at n log k w h e = ap (λ i. take i (drop (k * step_length) log)) e ∙ sym (get_or-parts step_length n log k h)

-- one step of the log
stepped-at : {rows relations rows' relations' : List ℤ} {p : Progress} {o : Answer.Outcome} (D : ℕ) (s : State) (n : ℕ) (log : List ℤ) (k : ℕ)
    → k < n
    → Stepped rows relations rows' relations' p o
    (changed_if D s (change_of (take (k * step_length + step_length - k * step_length) (drop (k * step_length) log))))
    → Stepped rows relations rows' relations' p o (changed_if D s (change_of (get_or (steps_in n log) k [])))
stepped-at {rows} {relations} {rows'} {relations'} {p} {o} D s n log k h t =
    subst (λ x. Stepped rows relations rows' relations' p o (changed_if D s (change_of x)))
    (step-at n log k (k * step_length + step_length - k * step_length) h (omega arith)) t

pub loop-k-init : goal.loop-k-init
loop-k-init c =
    replay-starts c.args.span (steps_in c.args.steps c.args.log.now) c.args.first c.args.rows.now
    c.args.relations.now c.requires.ready.0 c.requires.ready.1 c.requires.ready.2

pub make_step-requires : goal.make_step-requires
make_step-requires c =
    let m = c.loop-k.invariant in
    let k = c.loop-k.k in
    let width : k * step_length + step_length - k * step_length ≡ step_length = omega arith in record {
      ready = (m.reached.ready, m.unsettled, c.requires.ready.3, omega (arith, replaying-shifts m, c.loop-k-test.true, c.requires.ready.4));
      x_len = length-take-le (k * step_length + step_length - k * step_length) (drop (k * step_length) c.args.log.now)
          (simp length-drop (omega (arith, c.loop-k-test.true, c.requires.steps_in_bounds))) ∙ width;
    }

pub returns-in_err-p : goal.returns-in_err-p
returns-in_err-p c =
    let exit = err_from_is_err_and c.from_residual.result c.from_residual.ensures.1 in
    let came = c.in_err-p.ensures in
    rw (exit.1, exit.2) (replay-halts c.loop-k.invariant (omega (arith, c.loop-k-test.true, steps-count c.args.steps c.args.log.now))
    (stepped-at c.args.span _ c.args.steps c.args.log.now c.loop-k.k c.loop-k-test.true came)
    (number-nonzero c.in_err-p.field-0.0.refusal) (omega (arith, c.loop-k-test.true, c.requires.ready.4)))

pub loop-k-preserved : goal.loop-k-preserved
loop-k-preserved c =
    let came = c.in_ok-p.ensures in
    replay-goes c.loop-k.invariant (omega (arith, c.loop-k-test.true, steps-count c.args.steps c.args.log.now))
    (stepped-at c.args.span _ c.args.steps c.args.log.now c.loop-k.k c.loop-k-test.true came) refl

pub returns : goal.returns
returns c =
    replay-stops c.loop-k.invariant refl
    (omega (arith, c.loop-k-test.false, steps-count c.args.steps c.args.log.now))
    (omega (arith, c.requires.ready.4))
