-- The calls on a differential sheet that was read into rows.
--
-- Main statements
--   read-faults, read_short, read-fills   the call that reads it: refused, a lent store too short, and filled
--   write-faults, write-checks, write-is  the call that writes it: refused; its recurrence passes the checks of the writer, and is
--                                         what the writer writes
--   recurrence-length                     the length that it gives back is at most that of the byte store
use Rattle.std.specs.Prelude.{ℕ, ◌≤◌, ◌≡◌, Bool, true, false, T, leb, length, replicate, ℤ}
use Rattle.std.proofs.Common.{zero-le, ap₂, ◌∙◌, leb→le}
use Rattle.std.proofs.Math.Path.{refl, sym, ap, subst}
use Rattle.std.proofs.Math.Bool.{cond}
use mathlib.Core.List.{List, [], ◌++◌}
use Rattle.std.proofs.Math.ListN.{drop, take-append-drop}
use Rattle.lists.specs.Overwritten.{overwrite}
use Rattle.lists.specs.Padded.{pad_to}
use Rattle.lists.specs.Tests.{every}
use Rattle.rules.specs.Limits.{column_count}
use Rattle.rules.specs.Calls.{zeros}
use Rattle.rules.specs.Stores.{equations, rows_of, relations_of, row_need, relation_need, row_store_of, relation_store_of}
use Rattle.rules.specs.Stores.{lengths_right_of, Valid, check_stores_of}
use Rattle.rules.specs.Layout.{row_store_of-rows_of, valid-stores, check_stores-zero}
use Rattle.rules.specs.Numbers.{Read, got, fault}
use Rattle.rules.specs.Sheets.{Sheet, write_sheet_of}
use Rattle.rules.specs.SheetCalls.{WriteCall, after_read, filled, unread, written, unwritten, check_write_of, write_call}
use Rattle.rules.specs.SheetCalls.{order_right_of, order_given}
use Rattle.rules.specs.SheetCalls as SheetCalls
use Rattle.tokens.specs.Fields.{then-parts}
use Rattle.reading.specs.Equations.{got-value}
use Rattle.writing.specs.WriterChecks.{check_write-iff, call-checked}
use Rattle.differential.specs.Grammar.{Extent, sizes_for_of, read_differential_of}
use Rattle.differential.specs.Recurrence.{plain_sheet, recurrence_of}
use Rattle.differential.specs.Calls.{read_recurrence, read_differential_call, write_read_of, write_recurrence_call}
use Rattle.differential.specs.Accepted.{accepted-valid}

-- ---- a sheet that is refused

pub read-faults : (bytes : List ℕ) (row_store relation_store : List ℤ) {n : ℕ} → read_recurrence bytes ≡ fault n
    → read_differential_call bytes row_store relation_store ≡ unread n row_store relation_store
unfolding read_differential_call after_read
read-faults bytes row_store relation_store e = ap (λ r. after_read r row_store relation_store) e

pub write-faults : (bytes byte_store : List ℕ) {n : ℕ} → read_recurrence bytes ≡ fault n → write_recurrence_call bytes byte_store
    ≡ unwritten n byte_store
unfolding write_recurrence_call write_read_of
write-faults bytes byte_store e = ap (λ r. write_read_of r byte_store) e

-- ---- a sheet that is read

-- No column order.
abbrev pub no_order : List ℕ
no_order = replicate column_count 0

module _ (bytes : List ℕ) (x : Extent) (numbers : List ℤ)
    (read : read_recurrence bytes ≡ got (plain_sheet (sizes_for_of x) (rows_of x.equations numbers)) []) where
  abbrev rows : List Rattle.rules.specs.Rows.Row
  rows = rows_of x.equations numbers

  module _ (row_store relation_store : List ℤ) where
    -- A store too short is 1, after all faults of the sheet (SCOPE 4.42).
    pub read_short : lengths_right_of x.equations row_store relation_store ≡ false
        → read_differential_call bytes row_store relation_store ≡ unread 1 row_store relation_store
    unfolding read_differential_call after_read equations sizes_for_of
    read_short e =
        ap (λ r. after_read r row_store relation_store) read
        ∙ ap (λ t. cond t (filled (plain_sheet (sizes_for_of x) rows) row_store relation_store) (unread 1 row_store relation_store)) e

    pub read-fills : lengths_right_of x.equations row_store relation_store ≡ true
        → read_differential_call bytes row_store relation_store
        ≡ record {
          result = record { refusal = 0; sizes = sizes_for_of x; relations = 0; order = no_order };
          row_store = overwrite (row_store_of rows) row_store;
          relation_store = overwrite (relation_store_of []) relation_store;
        }
    unfolding read_differential_call after_read filled pad_to equations sizes_for_of
    read-fills e =
        ap (λ r. after_read r row_store relation_store) read
        ∙ ap (λ t. cond t (filled (plain_sheet (sizes_for_of x) rows) row_store relation_store) (unread 1 row_store relation_store)) e

  -- The recurrence is a valid system.
  recurrence-right : Valid (sizes_for_of x) rows []
  unfolding read_recurrence
  recurrence-right =
      let parts = then-parts (read_differential_of bytes) (λ d rest. got (recurrence_of d) rest) read in
      subst (λ (s : Sheet). Valid s.sizes s.rows s.relations) (got-value parts.3)
      (accepted-valid bytes parts.0 parts.1 parts.2)

  -- What the writer has: the numbers that were read, and no relation.
  pub write-checks : check_write_of (sizes_for_of x) 0 no_order numbers (zeros relation_need) ≡ 0
  unfolding order_right_of order_given every zeros row_need relation_store_of equations sizes_for_of
  write-checks =
      (check_write-iff (sizes_for_of x) 0 no_order numbers (zeros relation_need)).1 (
        tt,
        (check_stores-zero (sizes_for_of x) 0 numbers (zeros relation_need)).0
            (ap₂ (check_stores_of (sizes_for_of x) 0) (sym held) refl
            ∙ valid-stores (sizes_for_of x) rows [] (drop (row_need x.equations) numbers) [] recurrence-right),
      )
    where
      held : row_store_of rows ++ drop (row_need x.equations) numbers ≡ numbers
      held =
          ap (λ front. front ++ drop (row_need x.equations) numbers) (row_store_of-rows_of x.equations numbers)
          ∙ take-append-drop (row_need x.equations) numbers

  pub write-is : (byte_store : List ℕ)
      → write_call (sizes_for_of x) 0 no_order numbers (zeros relation_need) byte_store ≡ write_recurrence_call bytes byte_store
  unfolding write_recurrence_call write_read_of SheetCalls.sheet_of order_given relations_of equations sizes_for_of
  write-is byte_store =
      sym (call-checked (sizes_for_of x) 0 no_order numbers (zeros relation_need) byte_store write-checks)
      ∙ sym (ap (λ r. write_read_of r byte_store) read)

-- ---- the length that is given back

-- It is at most that of the byte store, on a refusal too.
pub recurrence-length : (bytes byte_store : List ℕ) {x : WriteCall} → x ≡ write_recurrence_call bytes byte_store → x.length ≤ length byte_store
unfolding write_recurrence_call write_read_of written unwritten
recurrence-length bytes byte_store same = subst (λ c. c.length ≤ length byte_store) (sym same) (by-sheet (read_recurrence bytes))
  where
    fitting : (text : List ℕ) (b : Bool) → (T b → length text ≤ length byte_store)
        → (cond b (record { refusal = 0; length = length text; byte_store = overwrite text byte_store }) (unwritten 1 byte_store)).length
        ≤ length byte_store
    fitting text true h = h tt
    fitting text false h = zero-le

    by-sheet : (r : Read Sheet) → (write_read_of r byte_store).length ≤ length byte_store
    by-sheet (got s rest) =
        fitting (write_sheet_of s) (leb (length (write_sheet_of s)) (length byte_store)) (leb→le (length (write_sheet_of s)) (length byte_store))
    by-sheet (fault n) = zero-le
