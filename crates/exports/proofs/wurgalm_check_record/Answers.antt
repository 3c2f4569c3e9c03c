-- `exports::wurgalm_check_record` meets its contract.
-- Assumes nothing.
use mathlib.Core.Path.{◌∙◌, ap}
use mir.Facts.{to_z-of_z}
use Rattle.stores.specs.Validity.{the_sizes_of}
use Rattle.export_results.specs.Results.{sizes-told}
use Rattle.exported_records.specs.RecordNumbers.{export_record}
use mir.Syntax.{w64}
use Rattle.exports.proofs.wurgalm_check_record.Goals as goal

pub returns : goal.returns
unfolding the_sizes_of
returns c =
    let args = c.args in
    (simp (to_z-of_z {w = w64} c.ranges.first) at c.exported.ensures)
    ∙ ap (λ z. export_record z args.count args.first args.vectors args.rows.now args.relations.now args.values.now
    args.res.now)
    (sizes-told args.m args.equations c.ranges.l c.ranges.t)
