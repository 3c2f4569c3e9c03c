-- The words in which the claims on differential sheets are said.
--
-- Main definitions
--   DifferentialWasRead, RecurrenceWasWritten   what a call that reads a differential sheet, or writes its recurrence, gave back and
--                                left: its contract
--   IsDifferential d bytes       the bytes are read as the differential sheet d
--   DifferentialCourse, RecurrenceCourse   all that such a call can do
use Rattle.std.specs.Prelude.{ℕ, ◌≤◌, ◌<◌, ◌≡◌, List, [], length, ℤ}
use Rattle.rules.specs.Numbers.{got, fault}
use Rattle.rules.specs.Sheets.{write_sheet_of}
use Rattle.rules.specs.SheetCalls.{ReadCall, WriteCall, unread, filled, unwritten}
use Rattle.differential.specs.Differential.{DifferentialSheet}
use Rattle.differential.specs.Recurrence.{recurrence_of}
use Rattle.differential.specs.Grammar.{read_differential_of}
use Rattle.differential.specs.Calls.{read_differential_call, write_recurrence_call}
use Rattle.claims.specs.RunWords.{LongEnough}
use Rattle.claims.specs.SheetWords.{whole_sheet}

-- The contract of `differential::read_differential`.
pub record DifferentialWasRead (bytes : List ℕ) (rows relations : List ℤ) (c : ReadCall) : Type 0 where
  pub called : c ≡ read_differential_call bytes rows relations

-- The contract of `differential::write_recurrence`.
pub record RecurrenceWasWritten (sheet bytes : List ℕ) (w : WriteCall) : Type 0 where
  pub called : w ≡ write_recurrence_call sheet bytes

abbrev pub IsDifferential : DifferentialSheet → List ℕ → Type 0
IsDifferential d bytes = read_differential_of bytes ≡ got d []

pub data DifferentialCourse (bytes : List ℕ) (rows relations : List ℤ) : ReadCall → Type 0 where
  no-differential : (n : ℕ) → (2 ≤ n) × (n ≤ 5) → read_differential_of bytes ≡ fault n
      → DifferentialCourse bytes rows relations (unread n rows relations)
  no_store : (d : DifferentialSheet) → IsDifferential d bytes → ¬ LongEnough (recurrence_of d).sizes rows relations
      → DifferentialCourse bytes rows relations (unread 1 rows relations)
  recurrence-read : (d : DifferentialSheet) → IsDifferential d bytes → LongEnough (recurrence_of d).sizes rows relations
      → DifferentialCourse bytes rows relations (filled (recurrence_of d) rows relations)

pub data RecurrenceCourse (sheet bytes : List ℕ) : WriteCall → Type 0 where
  nothing-to-write : (n : ℕ) → (2 ≤ n) × (n ≤ 5) → read_differential_of sheet ≡ fault n
      → RecurrenceCourse sheet bytes (unwritten n bytes)
  no_bytes : (d : DifferentialSheet) → IsDifferential d sheet → length bytes < length (write_sheet_of (recurrence_of d))
      → RecurrenceCourse sheet bytes (unwritten 1 bytes)
  recurrence-written : (d : DifferentialSheet) → IsDifferential d sheet → length (write_sheet_of (recurrence_of d)) ≤ length bytes
      → RecurrenceCourse sheet bytes (whole_sheet (write_sheet_of (recurrence_of d)) bytes)
