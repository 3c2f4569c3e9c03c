-- What the calls on a differential sheet do as a whole: their results and the stores afterwards.
--
-- Main definitions
--   read_recurrence bytes        the recurrence of a differential sheet, or the number of its first fault
--   read_differential_call ..     it is read into lent stores
--   write_recurrence_call ..      it is written into a lent byte store
use Rattle.std.specs.Prelude.{ℕ, List, ℤ}
use Rattle.rules.specs.Numbers.{Read, got, fault, then_read}
use Rattle.rules.specs.Sheets.{Sheet, write_sheet_of}
use Rattle.rules.specs.SheetCalls.{ReadCall, WriteCall, after_read, written, unwritten}
use Rattle.differential.specs.Recurrence.{recurrence_of}
use Rattle.differential.specs.Grammar.{read_differential_of}

unfoldable pub read_recurrence : List ℕ → Read Sheet
unfolding then_read read_differential_of recurrence_of
read_recurrence bytes = then_read (read_differential_of bytes) λ d rest. got (recurrence_of d) rest

-- The stores of a sheet that is read (SCOPE 10.41, 4.41 to 4.43): unchanged on a refusal, and 1 comes last.
unfoldable pub read_differential_call : List ℕ → List ℤ → List ℤ → ReadCall
unfolding after_read read_recurrence
read_differential_call bytes row_store relation_store = after_read (read_recurrence bytes) row_store relation_store

-- The grammar's refusal comes first, and that the byte store is too short (1) last (SCOPE 10.42, 4.51, 4.54).
unfoldable pub write_read_of : Read Sheet → List ℕ → WriteCall
unfolding written write_sheet_of unwritten
write_read_of (got sheet rest) byte_store = written (write_sheet_of sheet) byte_store
write_read_of (fault n) byte_store = unwritten n byte_store

unfoldable pub write_recurrence_call : List ℕ → List ℕ → WriteCall
unfolding write_read_of read_recurrence
write_recurrence_call bytes byte_store = write_read_of (read_recurrence bytes) byte_store
