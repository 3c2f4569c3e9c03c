-- `exports::wurgalm_write_sheet` meets its contract.
-- Assumes nothing.
use mathlib.Core.Path.{◌∙◌, ap}
use Rattle.stores.specs.Validity.{the_sizes_of}
use Rattle.export_results.specs.Results.{sizes-told}
use Rattle.exported_sheets.specs.Writes.{export_write}
use Rattle.exports.proofs.wurgalm_write_sheet.Goals as goal

pub returns : goal.returns
unfolding the_sizes_of
returns c =
    let args = c.args in
    c.write_sheet.ensures
    ∙ ap (λ z. export_write z args.count args.order.now args.rows.now args.relations.now args.bytes.now
    args.res.now)
    (sizes-told args.m args.equations c.ranges.l c.ranges.t)
