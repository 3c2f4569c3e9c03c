-- The words in which the claims on sheets and on one polynomial are said.
--
-- Main definitions
--   SheetWasRead, SheetWasWritten   what a call that reads or writes a sheet gave back and left: its contract
--   IsSheetOf x bytes            the bytes are those written of x, whose system is valid and whose order is of different
--                                columns
--   HoldsSheet x rows relations c   the result and the stores of a call that read a sheet hold x
--   ReadCourse, WriteCourse      all that a call that reads or writes a sheet can do
--   WriteNumber n                a number that a call that writes a sheet returns
--   WriteRange, WriteReady, WriteShort   the checks before a sheet is written, and a store too short
--   sheet_bytes .., whole_sheet    the sheet that is to be written, and the call that has written it
--   ReadsBack ..                 a sheet that was written of some stores is read back into others
--   PlaceInside z row block column   they lie inside the system
use Rattle.std.specs.Prelude.{ℕ, ◌≤◌, ◌<◌, ◌≡◌, ◌⊎◌, List, T, length, take, ℤ, ◌≤ℤ◌}
use Rattle.rules.specs.Limits.{column_count}
use Rattle.rules.specs.Stores.{Sizes, equations, rows_of, relations_of, row_need, relation_need, row_store_of, relation_store_of}
use Rattle.rules.specs.Layout.{NumbersRight}
use Rattle.lists.specs.Padded.{pad_to}
use Rattle.lists.specs.Overwritten.{overwrite}
use Rattle.rules.specs.Numbers.{fault}
use Rattle.rules.specs.Sheets.{Sheet, read_sheet_of, write_sheet_of}
use Rattle.rules.specs.SheetCalls.{ReadCall, read_call, unread, filled, WriteCall, write_call, unwritten, sheet_of, order_right_of}
use Rattle.sheets.specs.ReadBack.{SheetRight}
use Rattle.claims.specs.RunWords.{Rewritten, InRange, LongEnough, Passed, IsRow, IsColumn}

-- ---- reading

-- The contract of `sheets::read_sheet`.
pub record SheetWasRead (bytes : List ℕ) (rows relations : List ℤ) (c : ReadCall) : Type 0 where
  pub called : c ≡ read_call bytes rows relations

abbrev pub IsSheetOf : Sheet → List ℕ → Type 0
IsSheetOf x bytes = SheetRight x × (write_sheet_of x ≡ bytes)

pub record HoldsSheet (x : Sheet) (rows relations : List ℤ) (c : ReadCall) : Type 0 where
  pub sizes : c.result.sizes ≡ x.sizes
  pub relation-count : c.result.relations ≡ length x.relations
  pub column-order : c.result.order ≡ pad_to column_count 0 x.order
  pub rows-held : rows_of (equations x.sizes) c.row_store ≡ x.rows
  pub relations-held : relations_of c.result.relations c.relation_store ≡ x.relations
  pub row-store : Rewritten (row_need (equations x.sizes)) (row_store_of x.rows) rows c.row_store
  pub relation-store : Rewritten relation_need (relation_store_of x.relations) relations c.relation_store

pub data ReadCourse (bytes : List ℕ) (rows relations : List ℤ) : ReadCall → Type 0 where
  no-sheet : (n : ℕ) → (2 ≤ n) × (n ≤ 5) → read_sheet_of bytes ≡ fault n → ReadCourse bytes rows relations (unread n rows relations)
  no_room : (x : Sheet) → IsSheetOf x bytes → ¬ LongEnough x.sizes rows relations
      → ReadCourse bytes rows relations (unread 1 rows relations)
  sheet-read : (x : Sheet) → IsSheetOf x bytes → LongEnough x.sizes rows relations
      → ReadCourse bytes rows relations (filled x rows relations)

-- ---- writing

-- The contract of `sheets::write_sheet`; the order is an array of four numbers.
pub record SheetWasWritten (z : Sizes) (count : ℕ) (order : List ℕ) (rows relations : List ℤ) (bytes : List ℕ)
    (w : WriteCall) : Type 0 where
  pub four : length order ≡ column_count
  pub called : w ≡ write_call z count order rows relations bytes

-- The numbers that writing returns.
abbrev pub WriteNumber : ℕ → Type 0
WriteNumber n = (n ≡ 0) ⊎ ((n ≡ 1) ⊎ ((n ≡ 2) ⊎ (n ≡ 5)))

-- The order is one of the sizes: different columns of 1..m first, zeros past them, all 0 for none (SCOPE 4.53).
abbrev pub WriteRange : Sizes → ℕ → List ℕ → Type 0
WriteRange z count order = InRange z count × T (order_right_of z.m order)

-- The sheet that is to be written.
abbrev pub sheet_bytes : Sizes → ℕ → List ℕ → List ℤ → List ℤ → List ℕ
sheet_bytes z count order rows relations = write_sheet_of (sheet_of z count order rows relations)

-- All checks but that of the byte store's length pass.
abbrev pub WriteReady : Sizes → ℕ → List ℕ → List ℤ → List ℤ → Type 0
WriteReady z count order rows relations = Passed z count rows relations × T (order_right_of z.m order)

-- A store is too short: the rows' or the relations', or, with all the rest right, that of the bytes.
abbrev pub WriteShort : Sizes → ℕ → List ℕ → List ℤ → List ℤ → List ℕ → Type 0
WriteShort z count order rows relations bytes =
    (WriteRange z count order × (¬ LongEnough z rows relations))
    ⊎ (WriteReady z count order rows relations × (length bytes < length (sheet_bytes z count order rows relations)))

-- The store begins with the sheet, and the bytes past it stay.
abbrev pub whole_sheet : List ℕ → List ℕ → WriteCall
whole_sheet sheet bytes = record { refusal = 0; length = length sheet; byte_store = overwrite sheet bytes }

pub data WriteCourse (z : Sizes) (count : ℕ) (order : List ℕ) (rows relations : List ℤ) (bytes : List ℕ) : WriteCall
    → Type 0 where
  wrong-range : ¬ WriteRange z count order → WriteCourse z count order rows relations bytes (unwritten 2 bytes)
  short-stores : WriteRange z count order → ¬ LongEnough z rows relations
      → WriteCourse z count order rows relations bytes (unwritten 1 bytes)
  bad-number : WriteRange z count order → LongEnough z rows relations → ¬ NumbersRight z count rows relations
      → WriteCourse z count order rows relations bytes (unwritten 5 bytes)
  short-bytes : WriteReady z count order rows relations → length bytes < length (sheet_bytes z count order rows relations)
      → WriteCourse z count order rows relations bytes (unwritten 1 bytes)
  sheet-written : WriteReady z count order rows relations → length (sheet_bytes z count order rows relations) ≤ length bytes
      → WriteCourse z count order rows relations bytes (whole_sheet (sheet_bytes z count order rows relations) bytes)

-- A sheet that was written of some stores is read back into others: sizes, count, order and the needed parts of both stores.
pub record ReadsBack (z : Sizes) (count : ℕ) (order : List ℕ) (rows relations rows' relations' : List ℤ) (c : ReadCall) :
    Type 0 where
  pub accepted : c.result.refusal ≡ 0
  pub sizes : c.result.sizes ≡ z
  pub relation-count : c.result.relations ≡ count
  pub column-order : c.result.order ≡ order
  pub row-store : Rewritten (row_need (equations z)) (take (row_need (equations z)) rows) rows' c.row_store
  pub relation-store : Rewritten relation_need (take relation_need relations) relations' c.relation_store

-- ---- one polynomial

pub record PlaceInside (z : Sizes) (row : ℕ) (block : ℤ) (column : ℕ) : Type 0 where
  pub row_inside : IsRow z row
  pub block-low : z.t ≤ℤ block
  pub block-high : block ≤ℤ z.l
  pub column-inside : IsColumn z column
