-- `runs::trailing_run` meets its contract.
-- Assumes nothing.
use borrow.Author.Rules.{rules}
use mathlib.Core.Path.{refl}
use native.Mathlib.Omega.{arith}
use Rattle.std.proofs.Common.{Ok, Err}
use Rattle.std.proofs.lemmas.Result.{err_from_is_err_and}
use Rattle.refusals.specs.Refusals.{number-nonzero}
use Rattle.rules.specs.Elimination.{trailing}
use Rattle.reduction.specs.Progress.{final_answer}
use Rattle.reduction.specs.Ran.{Ran, run_of}
use Rattle.reduction.specs.Unused.{unused-none}
use Rattle.runs.specs.TrailingLaws.{listed_more, trailing-refused, trailing-held}
use Rattle.runs.proofs.trailing_run.Goals as goal
use Rattle.runs.proofs.trailing_run.Goals.{In_ok-p}

-- the run on the mirrored rows, without a refusal
ran : (c : In_ok-p)
    → Ran c.args.equations c.mirror_rows.new.store c.args.relations.now c.run.new.rows c.run.new.relations (final_answer c.args.equations (Ok c.in_ok-p.p))
    (run_of trailing c.args.equations c.args.count c.mirror_rows.new.store c.args.relations.now)
ran c =
    let ended = c.in_ok-p.ensures in
    record { answer = ended.value; rows-after = ended.rows_after; relations-after = ended.relations_after; reached = ended.reached }

pub run-requires : goal.run-requires
run-requires c = search (rules, unused-none)

pub returns-in_err-p : goal.returns-in_err-p
returns-in_err-p c =
    let exit = err_from_is_err_and c.from_residual.result c.from_residual.ensures.1 in
    let ended = c.in_err-p.ensures in
    rw (exit.1, exit.2)
    (trailing-refused c.args.equations c.args.span c.args.count c.args.rows.now c.args.relations.now _ _ _ c.requires.1 c.mirror_rows.ensures
    (final_answer c.args.equations (Err c.in_err-p.field-0.0))
    (record { answer = ended.value; rows-after = ended.rows_after; relations-after = ended.relations_after; reached = ended.reached })
    (number-nonzero c.in_err-p.field-0.0))

pub mirror_rows-requires-2 : goal.mirror_rows-requires-2
mirror_rows-requires-2 c = (c.requires.1, (ran (goal.at.mirror_rows-requires-2 c).In_ok-p).reached.ready.rows-within)

pub mirror_relations-requires : goal.mirror_relations-requires
mirror_relations-requires c =
    let r = ran (goal.at.mirror_relations-requires c).In_ok-p in (
      c.requires.1,
      omega (
        arith,
        listed_more c.args.equations c.args.span c.args.count c.args.rows.now c.args.relations.now _ _ _ c.requires.1 c.mirror_rows.ensures _ r refl,
      ),
      r.reached.ready.listing,
    )

pub returns : goal.returns
returns c =
    trailing-held c.args.equations c.args.span c.args.count c.args.rows.now c.args.relations.now _ _ _ c.requires.1 c.mirror_rows.ensures _
    (ran (goal.at.returns c).In_ok-p) _ _ refl c.mirror_rows-2.ensures c.mirror_relations.ensures
