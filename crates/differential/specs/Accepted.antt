-- What holds of a differential sheet that is read, and of the recurrence that is written for it.
--
-- Main statements
--   accepted-valid       its recurrence is a valid system: no check of a call refuses it
--   accepted-solutions   a series satisfies the sheet exactly if its coefficients satisfy the recurrence
--   accepted-read-back   the recurrence that is written is a sheet without a fault, and is read as it was
use Rattle.std.specs.Prelude.{ℕ, ◌≡◌, ◌↔◌, List, []}
use Rattle.rules.specs.Numbers.{got}
use Rattle.rules.specs.Sequences.{Sequence}
use Rattle.rules.specs.Sheets.{read_sheet_of, write_sheet_of}
use Rattle.rules.specs.SheetCalls.{different_columns_of}
use Rattle.rules.specs.Stores.{Valid}
use Rattle.sheets.specs.WrittenOrder.{OrderRight}
use Rattle.sheets.specs.ReadBack.{sheet-read-written}
use Rattle.differential.specs.Differential.{DifferentialSheet, ValidDifferential}
use Rattle.differential.specs.Recurrence.{recurrence_of}
use Rattle.differential.specs.Meaning.{Series, SatisfiesDifferential}
use Rattle.differential.specs.Grammar.{read_differential_of}
use Rattle.differential.specs.SameSolutions.{SatisfiesRecurrence, series-solutions}
use Rattle.differential.specs.ValidRecurrence.{recurrence-valid}
use Rattle.differential.specs.Longer.{differential-accepted}

-- The recurrence carries no column order.
pub no-order : (d : DifferentialSheet) → OrderRight (recurrence_of d).sizes.m (recurrence_of d).order
unfolding OrderRight recurrence_of different_columns_of
no-order d = tt

module _ (bytes : List ℕ) (d : DifferentialSheet) (rest : List ℕ) (read : read_differential_of bytes ≡ got d rest) where
  accepted : ValidDifferential d
  accepted = differential-accepted bytes d rest read

  -- (SCOPE 10.24)
  pub accepted-valid : Valid (recurrence_of d).sizes (recurrence_of d).rows (recurrence_of d).relations
  accepted-valid = recurrence-valid d accepted

  -- (SCOPE 10.33)
  pub accepted-solutions : (z : Sequence) → Series z → SatisfiesDifferential d z ↔ SatisfiesRecurrence d z
  accepted-solutions = series-solutions d accepted

  -- (SCOPE 10.42, 4.56)
  pub accepted-read-back : read_sheet_of (write_sheet_of (recurrence_of d)) ≡ got (recurrence_of d) []
  accepted-read-back = sheet-read-written (recurrence_of d) (record { valid = accepted-valid; order-right = no-order d })
