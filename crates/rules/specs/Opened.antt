-- What has to open for the definitions to compute.
--
-- Main definitions
--   opened    a theorem that says `unfolding opened` computes with `sheet_answer`, `batch_output` and the runs by `refl`
use Rattle.rules.specs.Elimination.{trailing_run_of, whole_run_of, report, reported_times}
use Rattle.rules.specs.Stores.{equations}
use Rattle.rules.specs.Sequences.{value_of}
use Rattle.rules.specs.Calls.{call_run, polynomial_part}
use Rattle.rules.specs.SheetCalls.{read_call, write_call}
use Rattle.rules.specs.Batch.{sheet_answer, batch_output}

unfoldable pub opened : Unit {0}
unfolding sheet_answer batch_output read_call write_call call_run polynomial_part trailing_run_of whole_run_of report reported_times value_of equations
opened = tt
