-- `export_results::put` meets its contract.
-- Assumes nothing.
use mathlib.Core.Path.{◌∙◌, ap}
use native.Mathlib.Nat.{le_refl}
use lib.ListN.{length}
use lib.Seq.{take_all}
use Rattle.lists.specs.Overwritten.{overwrite, overwrite-paste}
use Rattle.export_results.proofs.put.Goals as goal

pub returns : goal.returns
returns c =
    let args = c.args in
    let result = args.res.now in
    let numbers = args.numbers.now in
    c.save.ensures ∙ overwrite-paste result numbers (length numbers) (le_refl (length numbers))
    ∙ ap (λ l. overwrite l result) (take_all (length numbers) numbers (le_refl (length numbers)))
