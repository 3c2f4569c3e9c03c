-- `reading::sizes::unknowns_at` meets its contract: the section count, and then the number of unknowns.
-- Assumes nothing.
use Rattle.std.proofs.Common.{sym}
use Rattle.tokens.specs.Fields.{read-err, read-ok, read-within, fails-on, reads-as, then-got, then-fault}
use Rattle.reading.specs.WholeSheet.{read_unknowns}
use Rattle.reading.proofs.sizes.unknowns_at.Goals as goal

pub returns-in_err-k : goal.returns-in_err-k
unfolding read_unknowns
returns-in_err-k c = fails-on _ c.in_err-k.field-0.0 c.from_residual.ensures.1 (then-fault _ (read-err c.in_err-k.ensures))

pub number_between-requires-2 : goal.number_between-requires-2
number_between-requires-2 c = read-within c.in_ok-k.ensures

pub returns : goal.returns
unfolding read_unknowns
returns c = reads-as c.number_between-2.ensures (sym (then-got _ (read-ok c.in_ok-k.ensures)))
