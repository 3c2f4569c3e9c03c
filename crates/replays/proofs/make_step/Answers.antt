-- `replays::make_step` meets its contract: each step that the numbers can say is one case.
-- Assumes nothing.
use mathlib.Core.Path.{refl, ap}
use borrow.Author.Rules.{rules}
use Rattle.polynomials.specs.Content.{read_back}
use Rattle.refusals.specs.Refusals.{number_of}
use Rattle.reduction.specs.Progress.{answer_of, state_of}
use Rattle.log_steps.specs.Logs.{multiplier_g, multiplier_h, change_of}
use Rattle.replays.specs.Given.{length-g, length-h}
use Rattle.log_steps.specs.StoreChanges.{stepped_same, given-changed, given-none}
use Rattle.log_steps.proofs.StoreChanges.{refused-here}
use Rattle.replays.proofs.make_step.Goals as goal

pub combine_rows-requires-clause-g_len : goal.combine_rows-requires-clause-g_len
unfolding multiplier_g multiplier_h
combine_rows-requires-clause-g_len c =
    let x = c.args.x.now in
    let read = c.in-Ok.ensures in
    let said = rw c.in-Combination.is at read in
    (length-g x c.requires.x_len, said.1.1, length-h x c.requires.x_len, said.1.2)

pub returns-in-Err : goal.returns-in-Err
returns-in-Err c =
    let wrong = c.in-Err.ensures in
    rw c.stopped.ensures (stepped_same refl (ap (λ r. answer_of (number_of r) c.args.p) wrong.0)
    (given-none c.args.span (state_of c.args.rows.now c.args.relations.now c.args.p) (change_of c.args.x.now) wrong.1)
    (refused-here c.args.span c.requires.ready.0 c.requires.ready.1))

pub returns-in-Exchange : goal.returns-in-Exchange
returns-in-Exchange c =
    let relations = c.args.relations.now in
    let read = c.in-Ok.ensures in
    let said = rw c.in-Exchange.is at read in
    let came = c.exchange_rows.ensures c.args.span relations c.requires.ready.0 in
    stepped_same refl refl (given-changed c.args.span (state_of c.args.rows.now relations c.args.p) (change_of c.args.x.now) _ said.0) came

pub returns-in-Combination : goal.returns-in-Combination
unfolding multiplier_g multiplier_h
returns-in-Combination c =
    let read = c.in-Ok.ensures in
    let said = rw c.in-Combination.is at read in
    let came = rw (read_back c.in-Combination.d (search rules)) at (c.combine_rows.ensures c.args.span) in
    stepped_same refl refl
    (given-changed c.args.span (state_of c.args.rows.now c.args.relations.now c.args.p) (change_of c.args.x.now) _ said.0)
    came

pub returns-in-Raise : goal.returns-in-Raise
returns-in-Raise c =
    let relations = c.args.relations.now in
    let read = c.in-Ok.ensures in
    let said = rw c.in-Raise.is at read in
    let came = c.raise_row.ensures c.args.span relations c.requires.ready.0 in
    stepped_same refl refl (given-changed c.args.span (state_of c.args.rows.now relations c.args.p) (change_of c.args.x.now) _ said.0) came

pub returns-in-Lower : goal.returns-in-Lower
returns-in-Lower c =
    let relations = c.args.relations.now in
    let read = c.in-Ok.ensures in
    let said = rw c.in-Lower.is at read in
    let came = c.lower_row.ensures relations c.requires.ready.0 in
    stepped_same refl refl (given-changed c.args.span (state_of c.args.rows.now relations c.args.p) (change_of c.args.x.now) _ said.0) came

pub returns-in-Drop : goal.returns-in-Drop
returns-in-Drop c =
    let relations = c.args.relations.now in
    let read = c.in-Ok.ensures in
    let said = rw c.in-Drop.is at read in
    let came = c.drop_row.ensures c.args.span relations c.requires.ready.0 in
    stepped_same refl refl (given-changed c.args.span (state_of c.args.rows.now relations c.args.p) (change_of c.args.x.now) _ said.0) came
