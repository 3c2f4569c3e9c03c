-- `logs::checked_replay` meets its contract.
-- Assumes nothing.
use mathlib.Core.Path.{refl, sym, ◌∙◌, ap, subst}
use mathlib.Core.List.{List}
use Prim.Native.Nat.{ℕ}
use lib.IntN.{ℤ}
use Rattle.rules.specs.Elimination.{leading, diagonal}
use Rattle.rules.specs.Layout.{size-bounds}
use Rattle.rules.specs.Stores.{Sizes, equations, span, row_need}
use Rattle.rules.specs.Calls.{acceptance}
use Rattle.stores.specs.Validity.{the_sizes_of}
use Rattle.sides.specs.FurthestRoots.{Nonzero}
use Rattle.sides.specs.Lent.{Within}
use Rattle.sides.specs.ReportLaws.{settled_state}
use Rattle.reduction.specs.Progress.{state_of, start_progress}
use Rattle.std.proofs.Common.{Ok, Err}
use Rattle.std.proofs.lemmas.Result.{err_from_is_err_and}
use Rattle.refusals.specs.Refusals.{number-nonzero}
use Rattle.runs.specs.CallLaws.{few-blocks, result_of}
use Rattle.logs.specs.ReplayCalls.{Checked, checked, first-ready, call-cleared, call-accepted, replay-nonzero}
use Rattle.replays.specs.ReplayWork.{Left, outcome_of}
use Rattle.logs.proofs.checked_replay.Goals as goal
use Rattle.logs.proofs.checked_replay.Goals.{Start}

-- the arguments
module _ (c : Start) where
  abbrev z : Sizes
  z = the_sizes_of c.args.sizes

  abbrev count : ℕ
  count = c.args.count

  abbrev steps : ℕ
  steps = c.args.steps

  abbrev log : List ℤ
  log = c.args.log.now

  abbrev rows : List ℤ
  rows = c.args.rows.now

  abbrev relations : List ℤ
  relations = c.args.relations.now

  passed : Checked z count steps log rows relations
  passed = checked z count steps log rows relations c.requires

pub span-span-requires : goal.span-span-requires
span-span-requires c = (passed (goal.at.span-span-requires c).Start).stores.sizes

pub replay_on-requires : goal.replay_on-requires
unfolding the_sizes_of equations
replay_on-requires c =
    let s = (goal.at.replay_on-requires c).Start in
    let bounds = size-bounds (z s) (passed s).stores.sizes in
    rw c.start-first.ensures record {
      ready = (
        first-ready (z s) (count s) (steps s) (log s) (rows s) (relations s) s.requires,
        refl,
        refl,
        rw c.span-span.ensures (few-blocks (z s) (passed s).stores.sizes),
        (passed s).few-steps,
      );
      m_le_column_count = (bounds.few, (passed s).log-long);
    }

pub returns-in_err-p : goal.returns-in_err-p
unfolding the_sizes_of equations result_of
returns-in_err-p c =
    let s = (goal.at.returns-in_err-p c).Start in
    let exit = err_from_is_err_and c.from_residual.result c.from_residual.ensures.1 in
    let l = rw (c.start-first.ensures, c.span-span.ensures) at c.in_err-p.ensures in
    rw (exit.1, exit.2)
    (call-cleared (z s) (count s) (steps s) (log s) (rows s) (relations s) (Err c.in_err-p.field-0.0) s.requires l (number-nonzero c.in_err-p.field-0.0)
    refl)

pub accepted-requires : goal.accepted-requires
unfolding the_sizes_of equations
accepted-requires c =
    let s = (goal.at.accepted-requires c).Start in
    let l = rw (c.start-first.ensures, c.span-span.ensures) at c.in_ok-p.ensures in
    let settled = (l.finished.all_settled refl).1 in
    let ready = l.ran.reached.ready in
    let within = subst (λ n. Within (row_need n) c.replay_on.new.rows) settled ready.rows-within in
    record {
      span_bound = (rw c.span-span.ensures (few-blocks (z s) (passed s).stores.sizes), ready.few-settled, within, settled);
      order_len = (ready.four, ready.columns);
      nonzero =
          subst (λ d. Nonzero (diagonal leading d (settled_state c.in_ok-p.p.settled c.replay_on.new.rows c.in_ok-p.p.order))) (sym c.span-span.ensures)
          (replay-nonzero (z s) (count s) (steps s) (log s) (rows s) (relations s) l s.requires refl);
    }

pub returns : goal.returns
unfolding the_sizes_of equations
returns c =
    let s = (goal.at.returns c).Start in
    let l = rw (c.start-first.ensures, c.span-span.ensures) at c.in_ok-p.ensures in
    let state = state_of c.replay_on.new.rows c.replay_on.new.relations c.in_ok-p.p in
    call-accepted (z s) (count s) (steps s) (log s) (rows s) (relations s) (Ok c.accepted.result) s.requires l refl
    (c.accepted.ensures c.replay_on.new.relations ∙ ap (λ d. acceptance leading d state) c.span-span.ensures)
