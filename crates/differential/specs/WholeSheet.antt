-- A whole differential sheet that was read into rows, and the calls on it.
--
-- Main definitions
--   RecurrenceIn     the rows hold the recurrence of the sheet
--   SheetTo          they do, or it is refused
--
-- Main statements
--   sheet-refuses    a sheet that is refused
--   extent-fault, rows-fault, end-fault, end-got   where a sheet is refused, and where it is read to its end
use Rattle.std.specs.Prelude.{ℕ, ◌≤◌, ◌<◌, ◌≡◌, List, [], length, drop, ℤ, Result, IsErrAnd}
use Rattle.std.proofs.Common.{Ok, Err, sym, ◌∙◌, drop_of_length-le, drop-cons}
use Rattle.std.proofs.Math.Path.{ap}
use Rattle.rules.specs.Stores.{rows_of, with_equations_of}
use Rattle.rules.specs.Rows.{Row}
use Rattle.rules.specs.Numbers.{got, fault}
use Rattle.tokens.specs.Fields.{then-got, then-fault}
use Rattle.reading.specs.Sections.{read_each}
use Rattle.differential.specs.Grammar.{Extent, sizes_for_of, read_extent}
use Rattle.differential.specs.Recurrence.{plain_sheet}
use Rattle.differential.specs.Calls.{read_recurrence}
use Rattle.differential.specs.Read.{extent_of, SmallExtent}
use Rattle.differential.specs.declared.extent.Extent as Declared
use Rattle.refusals.specs.declared.Refusal.{Refusal}
use Rattle.refusals.specs.Refusals.{number_of}
use Rattle.differential.specs.Rows.{read_row}
use Rattle.differential.specs.Sections.{end_of, rows_end_of, recurrence-is}

-- What was read: the extent and the rows hold the recurrence, and nothing is left of the bytes.
pub record RecurrenceIn (bytes : List ℕ) (x : Extent) (rows : List ℤ) : Type 0 where
  pub read : read_recurrence bytes ≡ got (plain_sheet (sizes_for_of x) (rows_of x.equations rows)) []
  pub small : SmallExtent x × (1 ≤ x.unknowns)

-- Or the refusal is the fault of the sheet.
abbrev pub SheetTo : List ℕ → Result Declared.Extent Refusal → List ℤ → Type 0
SheetTo bytes (Ok x) rows = RecurrenceIn bytes (extent_of x) rows
SheetTo bytes (Err r) rows = read_recurrence bytes ≡ fault (number_of r)

-- A function that hands on a refusal.
pub sheet-refuses : (bytes : List ℕ) (rows : List ℤ) (result : Result Declared.Extent Refusal) (r : Refusal) → IsErrAnd result (λ e. e ≡ r)
    → read_recurrence bytes ≡ fault (number_of r) → SheetTo bytes result rows
sheet-refuses bytes rows (Ok x) r same f = absurd same
sheet-refuses bytes rows (Err e) r same f = f ∙ ap (λ e. fault (number_of e)) (sym same)

pub extent-fault : (bytes : List ℕ) {n : ℕ} → read_extent bytes ≡ fault n → read_recurrence bytes ≡ fault n
extent-fault bytes e = recurrence-is bytes ∙ then-fault rows_end_of e

module _ (bytes : List ℕ) (x : Extent) (first : List ℕ) (extent-read : read_extent bytes ≡ got x first) where
  pub rows-fault : {n : ℕ} → read_each (read_row x) x.equations first ≡ fault n → read_recurrence bytes ≡ fault n
  unfolding rows_end_of
  rows-fault e = recurrence-is bytes ∙ then-got rows_end_of extent-read ∙ then-fault (end_of x) e

  module _ (rows : List Row) (at : ℕ) (rows-read : read_each (read_row x) x.equations first ≡ got rows (drop at bytes)) where
    to_end : read_recurrence bytes ≡ end_of x rows (drop at bytes)
    unfolding rows_end_of
    to_end = recurrence-is bytes ∙ then-got rows_end_of extent-read ∙ then-got (end_of x) rows-read

    pub end-fault : at < length bytes → read_recurrence bytes ≡ fault 4
    unfolding end_of
    end-fault h = to_end ∙ ap (end_of x rows) (drop-cons bytes at 0 h)

    pub end-got : length rows ≡ x.equations → length bytes ≤ at → read_recurrence bytes ≡ got (plain_sheet (sizes_for_of x) rows) []
    unfolding end_of with_equations_of sizes_for_of
    end-got counted h =
        to_end ∙ ap (end_of x rows) (drop_of_length-le bytes {i = at} h)
        ∙ ap (λ n. got (plain_sheet (with_equations_of n (sizes_for_of x)) rows) []) counted
