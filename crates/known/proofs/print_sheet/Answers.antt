-- What was written lies in the array.
use Rattle.std.proofs.Common.{ap, arith, sym, length-take-le}
use Rattle.stores.specs.Validity.{the_sizes_of}
use Rattle.known.specs.SheetFits.{write-fits}
use Rattle.known.proofs.print_sheet.Goals as goal

pub slice_bounds-bytes-end : goal.slice_bounds-bytes-end
slice_bounds-bytes-end g c =
    let a = c.args in
    let bytes = c.large_buffer-bytes.result in
    let inside = write-fits (the_sizes_of a.sizes) a.count a.order a.rows.now a.relations.now bytes in
    omega (arith, ap (λ r. r.length) c.in-Ok.ensures, inside)

pub slice_bounds-print-end : goal.slice_bounds-print-end
slice_bounds-print-end g c =
    let a = c.args in
    let bytes = c.large_buffer-bytes.result in
    let inside = write-fits (the_sizes_of a.sizes) a.count a.order a.rows.now a.relations.now bytes in
    sym (length-take-le _ _ (omega (arith, ap (λ r. r.length) c.in-Ok.ensures, inside)))
