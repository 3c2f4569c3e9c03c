-- `steps::report_at` meets its contract.
-- Assumes nothing.
use mathlib.Core.Path.{refl, sym, ◌∙◌, ap, subst}
use Rattle.std.specs.Prelude.{leb}
use Rattle.rules.specs.Elimination.{leading}
use Rattle.rules.specs.Stores.{row_need, span}
use Rattle.rules.specs.Calls.{acceptance}
use Rattle.stores.specs.Validity.{the_sizes_of}
use Rattle.sides.specs.Lent.{Within}
use Rattle.reduction.specs.Progress.{state_of}
use Rattle.runs.specs.CallLaws.{result_of, few-blocks}
use Rattle.std.proofs.Common.{Ok}
use Rattle.steps.specs.StepCalls.{run_in, run-going, run-done}
use Rattle.steps.proofs.report_at.Goals as goal

pub returns-then-not-is_done : goal.returns-then-not-is_done
unfolding run_in
returns-then-not-is_done c =
    let args = c.args in
    let going = sym c.is_done.ensures ∙ c.if-not-is_done.true in record {
      finished = sym going;
      report = λ relations.
          run-going (span (the_sizes_of args.sizes)) _ (state_of args.rows.now relations args.p) 0 (leb args.p.rows args.p.settled) refl going refl;
    }

pub accepted-requires : goal.accepted-requires
accepted-requires c =
    let done = sym c.is_done.ensures ∙ c.if-not-is_done.false in
    let settled = c.requires.1.all_settled done in
    let within = subst (λ n. Within (row_need n) c.args.rows.now) settled c.requires.1.rows-within in
    let narrow = few-blocks (the_sizes_of c.args.sizes) c.requires.0 in record {
      span_bound = (rw c.span.ensures narrow, c.requires.1.few-settled, within, settled);
      order_len = (c.requires.1.four, c.requires.1.columns);
      nonzero = rw c.span.ensures (c.requires.1.nonzero done);
    }

pub returns : goal.returns
unfolding run_in
returns c =
    let args = c.args in
    let done = sym c.is_done.ensures ∙ c.if-not-is_done.false in
    record {
      finished = sym done;
      report = λ relations.
          let state = state_of args.rows.now relations args.p in
          run-done (span (the_sizes_of args.sizes)) (result_of (Ok c.accepted.result)) state 0 (leb args.p.rows args.p.settled)
          refl done (c.accepted.ensures relations ∙ ap (λ d. acceptance leading d state) c.span.ensures);
    }
