-- `reading::sheet::fill_relations` meets its contract.
-- Assumes nothing.
use mathlib.Core.Path.{◌∙◌, ap}
use Prim.Native.Nat.{◌*◌, ◌-◌}
use native.Mathlib.Omega.{arith}
use lib.IntN.{pos}
use lib.ListN.{replicate}
use lib.Seq.{paste}
use Rattle.rules.specs.Limits.{relation_length}
use Rattle.rules.specs.Stores.{relation_need}
use Rattle.reading.specs.ReadCalls.{relations-filled}
use Rattle.reading.proofs.sheet.fill_relations.Goals as goal

pub overflow_mul-used : goal.overflow_mul-used
overflow_mul-used c = omega arith

pub copy-requires : goal.copy-requires
copy-requires c = omega arith

pub overflow_sub-used : goal.overflow_sub-used
overflow_sub-used c = omega arith

pub clear-requires : goal.clear-requires
clear-requires c =
    omega (arith, c.requires.0, c.requires.1, c.copy.auto)

pub returns : goal.returns
returns c =
    let used = c.args.count * relation_length in
    c.clear.ensures
    ∙ ap (λ l. paste l used (replicate (relation_need - used) (pos 0)) (relation_need - used))
    c.copy.ensures
    ∙ relations-filled c.args.count c.args.numbers.now c.args.store.now c.requires.0 c.requires.2
