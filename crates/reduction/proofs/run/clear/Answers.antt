-- `reduction::run::clear` meets its contract.
-- Assumes nothing.
use mathlib.Core.Path.{◌∙◌}
use Prim.Native.Nat.{◌*◌}
use native.Mathlib.Omega.{arith}
use Rattle.rules.specs.Limits.{relation_length}
use Rattle.rules.specs.Stores.{row_need}
use Rattle.reduction.specs.Ran.{cleared-zeros}
use Rattle.reduction.proofs.run.clear.Goals as goal

pub clear-requires : goal.clear-requires
unfolding row_need
clear-requires c = omega (arith, c.requires)

pub returns : goal.returns
unfolding row_need
returns c =
    record {
      rows_after = c.clear.ensures ∙ cleared-zeros (row_need c.args.equations) c.args.rows.now;
      relations_after = c.clear-2.ensures ∙ cleared-zeros (c.args.listed * relation_length) c.args.relations.now;
    }
