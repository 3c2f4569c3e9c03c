-- The exported calls on a differential sheet: the recurrence read into stores, and written as a sheet.
--
-- Main definitions
--   export_differential ..   the call that reads it
--   export_recurrence ..     the call that writes it
--
-- Main statements
--   differential-small      what a call that reads gives back is small
--   recurrence-short, recurrence-done   the call that writes, with no place for the length, and with one
use Rattle.std.specs.Prelude.{ℕ, ◌≤◌, ◌<◌, ◌≡◌, refl, Bool, true, false, List, [], ◌∷◌, leb, ℤ, pos, length}
use Rattle.std.proofs.Common.{zero-le, sym, ◌∙◌, subst, le-leb}
use Rattle.std.proofs.Math.Path.{ap}
use Rattle.std.proofs.Math.Bool.{cond}
use Rattle.std.proofs.lemmas.Bool.{lt-leb}
use Rattle.lists.specs.Everywhere.{All}
use Rattle.lists.specs.Padded.{length-pad_to, all-pad_to}
use Rattle.rules.specs.Limits.{column_count}
use Rattle.rules.specs.Stores.{lengths_right_of, equations}
use Rattle.rules.specs.Layout.{size-bounds}
use Rattle.rules.specs.Numbers.{Read, got, fault, then_read}
use Rattle.rules.specs.SheetCalls.{ReadCall, WriteCall, after_read, filled, unread}
use Rattle.differential.specs.Differential.{DifferentialSheet}
use Rattle.differential.specs.Recurrence.{recurrence_of}
use Rattle.differential.specs.Grammar.{read_differential_of}
use Rattle.differential.specs.Calls.{read_recurrence, read_differential_call, write_recurrence_call}
use Rattle.differential.specs.Accepted.{accepted-valid}
use Rattle.export_results.specs.Results.{Exported, on_acceptance}
use Rattle.exported_sheets.specs.Reads.{read_with, SmallRead, read-zeros}
use Rattle.exported_sheets.specs.Writes.{Written, wrote, not_written}

-- ---- the recurrence read

unfoldable pub export_differential : List ℕ → List ℤ → List ℤ → List ℤ → Exported
unfolding read_with read_differential_call
export_differential bytes row_store relation_store result_store = read_with (read_differential_call bytes) row_store relation_store result_store

filled-small : (bytes : List ℕ) (d : DifferentialSheet) (rest : List ℕ) (row_store relation_store : List ℤ) → read_differential_of bytes ≡ got d rest
    → SmallRead (filled (recurrence_of d) row_store relation_store).result
unfolding filled recurrence_of equations All
filled-small bytes d rest row_store relation_store e =
    let bounds = size-bounds (recurrence_of d).sizes (accepted-valid bytes d rest e).sizes in
    record {
      few-unknowns = bounds.few;
      few-equations = bounds.few-equations;
      few-relations = zero-le;
      four = length-pad_to {A = ℕ} column_count 0 [];
      columns = all-pad_to {A = ℕ} (λ c. c ≤ column_count) column_count 0 [] zero-le tt;
    }

pub differential-small : (bytes : List ℕ) (row_store relation_store : List ℤ) {x : ReadCall} → x ≡ read_differential_call bytes row_store relation_store
    → SmallRead x.result
unfolding read_differential_call read_recurrence after_read unread then_read
differential-small bytes row_store relation_store same = subst (λ c. SmallRead c.result) (sym same) (by-sheet (read_differential_of bytes) refl)
  where
    by_lengths : (d : DifferentialSheet) (rest : List ℕ) (b : Bool) → read_differential_of bytes ≡ got d rest
        → SmallRead (cond b (filled (recurrence_of d) row_store relation_store) (unread 1 row_store relation_store)).result
    by_lengths d rest true e = filled-small bytes d rest row_store relation_store e
    by_lengths d rest false e = read-zeros 1

    by-sheet : (r : Read DifferentialSheet) → read_differential_of bytes ≡ r
        → SmallRead (after_read (then_read r (λ d rest. got (recurrence_of d) rest)) row_store relation_store).result
    by-sheet (got d rest) e = by_lengths d rest (lengths_right_of (equations (recurrence_of d).sizes) row_store relation_store) e
    by-sheet (fault n) e = read-zeros n

-- ---- the recurrence written

-- A result store of no number is found too short with the byte store, after the grammar's faults (SCOPE 3.53, 4.54): the sheet is then
-- judged as with a byte store that holds nothing, and nothing is written.
unfoldable pub export_recurrence : List ℕ → List ℕ → List ℤ → Written
unfolding wrote write_recurrence_call not_written
export_recurrence bytes byte_store result_store =
    let whole = wrote (write_recurrence_call bytes byte_store) result_store in
    cond (leb 1 (length result_store)) whole (not_written (write_recurrence_call bytes []).refusal byte_store result_store)

module _ (bytes byte_store : List ℕ) (result_store : List ℤ) where
  pub recurrence-short : length result_store < 1
      → not_written (write_recurrence_call bytes []).refusal byte_store result_store ≡ export_recurrence bytes byte_store result_store
  unfolding export_recurrence
  recurrence-short h =
      ap (λ t. cond t (wrote (write_recurrence_call bytes byte_store) result_store)
      (not_written (write_recurrence_call bytes []).refusal byte_store result_store)) (sym (lt-leb 1 (length result_store) h))

  -- The call, from what was written and the result store that was left.
  pub recurrence-done : {x : WriteCall} {left : List ℤ} → x ≡ write_recurrence_call bytes byte_store
      → left ≡ on_acceptance x.refusal (pos x.length ∷ []) result_store → 1 ≤ length result_store
      → record { refusal = x.refusal; byte_store = x.byte_store; result_store = left } ≡ export_recurrence bytes byte_store result_store
  unfolding export_recurrence wrote
  recurrence-done {x} same f h =
      (λ i. record { refusal = x.refusal; byte_store = x.byte_store; result_store = f i })
      ∙ ap (λ y. wrote y result_store) same
      ∙ ap (λ t. cond t (wrote (write_recurrence_call bytes byte_store) result_store)
      (not_written (write_recurrence_call bytes []).refusal byte_store result_store)) (sym (le-leb 1 (length result_store) h))
