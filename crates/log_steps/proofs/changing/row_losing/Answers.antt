-- `log_steps::changing::row_losing` meets its contract.
-- Assumes nothing.
use mathlib.Core.Path.{sym, ◌∙◌}
use mathlib.Core.Logic.{inl, inr}
use Rattle.working_rows.specs.Working.{width-of}
use Rattle.reduction.specs.StoreExchange.{loaded-from}
use Rattle.log_steps.specs.StoreChanges.{begun-room}
use Rattle.log_steps.proofs.changing.row_losing.Goals as goal

pub returns-then-p-i : goal.returns-then-p-i
returns-then-p-i c = (c.stopped.ensures, inl c.if-p-i.true)

pub block_zero-requires : goal.block_zero-requires
block_zero-requires c = (begun-room c.requires.0 c.args.i c.if-p-i.false, c.requires.1)

pub returns-then-not-block_zero : goal.returns-then-not-block_zero
returns-then-not-block_zero c = (c.stopped-then-not-block_zero.ensures, inr (c.if-p-i.false, sym c.block_zero.ensures ∙ c.if-not-block_zero.true))

pub width_of-width-requires : goal.width_of-width-requires
width_of-width-requires c = begun-room c.requires.0 c.args.i c.if-p-i.false

pub load-requires : goal.load-requires
load-requires c = (begun-room c.requires.0 c.args.i c.if-p-i.false, c.width_of-width.ensures)

pub returns : goal.returns
returns c = record {
  inside = c.if-p-i.false;
  lost = sym c.block_zero.ensures ∙ c.if-not-block_zero.false;
  loaded = loaded-from c.args.rows.now c.args.i _ (begun-room c.requires.0 c.args.i c.if-p-i.false) c.load.ensures;
  wide = width-of c.load.result _ _ c.load.ensures;
}
