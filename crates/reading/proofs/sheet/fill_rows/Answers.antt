-- `reading::sheet::fill_rows` meets its contract.
-- Assumes nothing.
use mathlib.Core.Path.{◌∙◌}
use native.Mathlib.Omega.{arith}
use Rattle.rules.specs.Stores.{row_need}
use Rattle.reading.specs.ReadCalls.{rows-filled}
use Rattle.reading.proofs.sheet.fill_rows.Goals as goal

pub overflow_mul-equations : goal.overflow_mul-equations
overflow_mul-equations c = omega arith

pub copy-requires : goal.copy-requires
copy-requires c = omega arith

pub returns : goal.returns
unfolding row_need
returns c =
    c.copy.ensures ∙ rows-filled c.args.equations c.args.numbers.now c.args.store.now c.requires.2
