-- The words in which the claims on the exported calls are said.
--
-- Main definitions
--   ExportedRun, ExportedRead, ExportedWrite, ExportedBatch   what an exported call gave back and left: its contract
--   ExportLong, ExportReadLong, OrderRange, OrderLong   the checks of an exported call, whose result and order are lent stores too
--   ExportWriteShort, ExportWriteReady   a store is too short for a sheet that is to be written; all is right
--   ExportGives, ExportReadGives, ExportWriteGives   the call has left what the call of the library leaves, and the
--                                numbers of its result
--   ExportCourse, ExportReadCourse, ExportWriteCourse, ExportBatchCourse   all that an exported call can do
use Rattle.std.specs.Prelude.{ℕ, ◌≤◌, ◌<◌, ◌≡◌, ◌⊎◌, List, [], ◌∷◌, T, length, ℤ, pos}
use Rattle.rules.specs.Limits.{column_count}
use Rattle.rules.specs.Elimination.{Side}
use Rattle.rules.specs.Stores.{Sizes}
use Rattle.rules.specs.Layout.{NumbersRight}
use Rattle.rules.specs.Calls.{Call}
use Rattle.lists.specs.Overwritten.{overwrite}
use Rattle.rules.specs.SheetCalls.{ReadCall, WriteCall}
use Rattle.export_results.specs.Results.{Exported, kept, run_need, read_need}
use Rattle.exported_runs.specs.Runs.{export_run, ran, run_numbers_of}
use Rattle.exported_sheets.specs.Reads.{export_read, read_after, read_numbers_of}
use Rattle.exported_sheets.specs.Writes.{Written, export_write, order_of, order_store_right, not_written, wrote}
use Rattle.batches.specs.PieceCalls.{OutputCall}
use Rattle.exports.specs.Batches.{export_batch}
use Rattle.claims.specs.RunWords.{Ran, Rewritten, InRange, LongEnough, Passed}
use Rattle.claims.specs.SheetWords.{SheetWasRead, SheetWasWritten, sheet_bytes}
use Rattle.claims.specs.BatchWords.{BatchWasAnswered}

-- ---- runs

-- The contract of `wurgalm_run_leading` and `wurgalm_run_trailing`.
pub record ExportedRun (side : Side) (z : Sizes) (count : ℕ) (rows relations result : List ℤ) (e : Exported) : Type 0 where
  pub called : e ≡ export_run side z count rows relations result

-- The store of the result is one of the lent stores: ten numbers (SCOPE 3.52, 3.53).
abbrev pub ExportLong : Sizes → List ℤ → List ℤ → List ℤ → Type 0
ExportLong z rows relations result = LongEnough z rows relations × (run_need ≤ length result)

-- That of a sheet that is read has nine.
abbrev pub ExportReadLong : Sizes → List ℤ → List ℤ → List ℤ → Type 0
ExportReadLong z rows relations result = LongEnough z rows relations × (read_need ≤ length result)

-- An exported run without a refusal has left what the run c leaves, and the numbers of its result.
pub record ExportGives (side : Side) (z : Sizes) (count : ℕ) (rows relations result : List ℤ) (c : Call) (e : Exported) :
    Type 0 where
  pub run : Ran side z count rows relations c
  pub accepted : c.result.refusal ≡ 0
  pub same_rows : e.row_store ≡ c.row_store
  pub same-relations : e.relation_store ≡ c.relation_store
  pub numbers : Rewritten run_need (run_numbers_of c.result) result e.result_store

pub data ExportCourse (side : Side) (z : Sizes) (count : ℕ) (rows relations result : List ℤ) : Exported → Type 0 where
  run-range-wrong : ¬ InRange z count → ExportCourse side z count rows relations result (kept 2 rows relations result)
  run-store-short : InRange z count → ¬ ExportLong z rows relations result
      → ExportCourse side z count rows relations result (kept 1 rows relations result)
  run-number-wrong : InRange z count → ExportLong z rows relations result → ¬ NumbersRight z count rows relations
      → ExportCourse side z count rows relations result (kept 5 rows relations result)
  as-run : Passed z count rows relations → run_need ≤ length result → (c : Call) → Ran side z count rows relations c
      → ExportCourse side z count rows relations result (ran c result)

-- ---- reading a sheet

-- The contract of `wurgalm_read_sheet`.
pub record ExportedRead (bytes : List ℕ) (rows relations result : List ℤ) (e : Exported) : Type 0 where
  pub called : e ≡ export_read bytes rows relations result

-- An exported reading without a refusal has left what the reading c leaves, and the numbers of its result.
pub record ExportReadGives (bytes : List ℕ) (rows relations result : List ℤ) (c : ReadCall) (e : Exported) : Type 0 where
  pub read : SheetWasRead bytes rows relations c
  pub accepted : c.result.refusal ≡ 0
  pub same_rows : e.row_store ≡ c.row_store
  pub same-relations : e.relation_store ≡ c.relation_store
  pub numbers : Rewritten read_need (read_numbers_of c.result) result e.result_store

pub data ExportReadCourse (bytes : List ℕ) (rows relations result : List ℤ) : Exported → Type 0 where
  result-short : length result < read_need → (c : ReadCall) → SheetWasRead bytes [] [] c
      → ExportReadCourse bytes rows relations result (kept c.result.refusal rows relations result)
  as_read : read_need ≤ length result → (c : ReadCall) → SheetWasRead bytes rows relations c
      → ExportReadCourse bytes rows relations result (read_after c result)

-- ---- writing a sheet

-- The contract of `wurgalm_write_sheet`.
pub record ExportedWrite (z : Sizes) (count : ℕ) (order rows relations : List ℤ) (bytes : List ℕ) (result : List ℤ)
    (w : Written) : Type 0 where
  pub called : w ≡ export_write z count order rows relations bytes result

-- Sizes, count and order in their ranges; an order store that is too short is not judged (SCOPE 3.55).
abbrev pub OrderRange : Sizes → ℕ → List ℤ → Type 0
OrderRange z count order = InRange z count × T (order_store_right z.m order)

-- The order and the result are two of the stores: four numbers and one (SCOPE 3.53, 3.55).
abbrev pub OrderLong : Sizes → List ℤ → List ℤ → List ℤ → List ℤ → Type 0
OrderLong z order rows relations result = LongEnough z rows relations × (column_count ≤ length order) × (1 ≤ length result)

-- A store is too short, or, with all the rest right, that of the bytes.
abbrev pub ExportWriteShort : Sizes → ℕ → List ℤ → List ℤ → List ℤ → List ℕ → List ℤ → Type 0
ExportWriteShort z count order rows relations bytes result =
    (OrderRange z count order × (¬ OrderLong z order rows relations result))
    ⊎ (OrderRange z count order × OrderLong z order rows relations result × NumbersRight z count rows relations
    × (length bytes < length (sheet_bytes z count (order_of order) rows relations)))

-- All is right, and the byte store is long enough.
abbrev pub ExportWriteReady : Sizes → ℕ → List ℤ → List ℤ → List ℤ → List ℕ → List ℤ → Type 0
ExportWriteReady z count order rows relations bytes result =
    OrderRange z count order × OrderLong z order rows relations result × NumbersRight z count rows relations
    × (length (sheet_bytes z count (order_of order) rows relations) ≤ length bytes)

-- An exported writing without a refusal has left what the writing x leaves, and the length of the sheet.
pub record ExportWriteGives (z : Sizes) (count : ℕ) (order rows relations : List ℤ) (bytes : List ℕ) (result : List ℤ)
    (x : WriteCall) (w : Written) : Type 0 where
  pub write : SheetWasWritten z count (order_of order) rows relations bytes x
  pub accepted : x.refusal ≡ 0
  pub same_bytes : w.byte_store ≡ x.byte_store
  pub number : Rewritten 1 (pos x.length ∷ []) result w.result_store

pub data ExportWriteCourse (z : Sizes) (count : ℕ) (order rows relations : List ℤ) (bytes : List ℕ) (result : List ℤ) :
    Written → Type 0 where
  wrong-order-range : ¬ OrderRange z count order
      → ExportWriteCourse z count order rows relations bytes result (not_written 2 bytes result)
  short-order-store : OrderRange z count order → ¬ OrderLong z order rows relations result
      → ExportWriteCourse z count order rows relations bytes result (not_written 1 bytes result)
  bad-order-number : OrderRange z count order → OrderLong z order rows relations result → ¬ NumbersRight z count rows relations
      → ExportWriteCourse z count order rows relations bytes result (not_written 5 bytes result)
  as_written : OrderRange z count order → OrderLong z order rows relations result → NumbersRight z count rows relations
      → (w : WriteCall) → SheetWasWritten z count (order_of order) rows relations bytes w
      → ExportWriteCourse z count order rows relations bytes result (wrote w result)

-- ---- a whole batch

-- The contract of `wurgalm_batch`.
pub record ExportedBatch (input output : List ℕ) (result : List ℤ) (w : Written) : Type 0 where
  pub called : w ≡ export_batch input output result

-- The length of the output is one number of the result's store.
pub data ExportBatchCourse (input output : List ℕ) (result : List ℤ) : Written → Type 0 where
  no_place : length result < 1 → ExportBatchCourse input output result (not_written 1 output result)
  as-answered : 1 ≤ length result → (e : OutputCall) → BatchWasAnswered input output e
      → ExportBatchCourse input output result
      (record { refusal = e.refusal; byte_store = e.output; result_store = overwrite (pos e.length ∷ []) result })
