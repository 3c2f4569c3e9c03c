-- `writing::writer::write_sheet` meets its contract.
-- Assumes nothing.
use Rattle.std.proofs.Common.{sym}
use Rattle.std.proofs.lemmas.Result.{err_from_is_err_and}
use Rattle.stores.specs.Validity.{the_sizes_of}
use Rattle.writing.specs.WriterChecks.{refused-by_name}
use Rattle.writing.proofs.writer.write_sheet.Goals as goal

pub returns-in_err-check_write : goal.returns-in_err-check_write
returns-in_err-check_write c =
    let a = c.args in
    let p = err_from_is_err_and c.from_residual.result c.from_residual.ensures.1 in
    rw (p.1, p.2)
    (refused-by_name (the_sizes_of a.sizes) a.count a.order a.rows.now a.relations.now a.bytes.now _ c.in_err-check_write.ensures)

pub write_checked-requires : goal.write_checked-requires
write_checked-requires c = sym c.in_ok-check_write.ensures
