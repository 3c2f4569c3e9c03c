-- What the calls that read and write a sheet do as a whole: their results and the stores afterwards.
--
-- Main definitions
--   read_call bytes ..    a sheet read into lent stores
--   write_call ..         a system and its column order written into a lent byte store
use Rattle.std.specs.Prelude.{ℕ, zero, suc, Bool, true, ◌&&◌, not, cond, List, [], ◌∷◌, leb, eqb, length, drop, replicate, ℤ, pos}
use Rattle.rules.specs.Limits.{column_count}
use Rattle.lists.specs.Tests.{every}
use Rattle.rules.specs.Stores.{Sizes, rows_of, relations_of, row_store_of, relation_store_of, sizes_right_of, count_right, lengths_right_of}
use Rattle.rules.specs.Stores.{numbers_right_of, equations}
use Rattle.lists.specs.Padded.{pad_to}
use Rattle.lists.specs.Overwritten.{overwrite}
use Rattle.rules.specs.Numbers.{Read, got, fault}
use Rattle.rules.specs.Sheets.{Sheet, contains, read_sheet_of, write_sheet_of}

-- ---- reading

-- What the reader returns (SCOPE 4.41). The order holds columns counted from 1, zeros past its end.
pub record ReadResult : Type 0 where
  pub refusal : ℕ
  pub sizes : Sizes
  pub relations : ℕ
  pub order : List ℕ

pub record ReadCall : Type 0 where
  pub result : ReadResult
  pub row_store : List ℤ
  pub relation_store : List ℤ

-- A refusal returns its number, and 0 in all other fields (SCOPE 6.31).
unfoldable pub read_refusal : ℕ → ReadResult
read_refusal n =
    record { refusal = n; sizes = record { m = 0; equations = 0; l = pos 0; t = pos 0 }; relations = 0; order = replicate column_count 0 }

-- A refusal leaves both stores as they were (SCOPE 4.43).
unfoldable pub unread : ℕ → List ℤ → List ℤ → ReadCall
unfolding read_refusal
unread n row_store relation_store =
    record { result = read_refusal n; row_store = row_store; relation_store = relation_store }

-- A sheet that is read fills the needed parts of both stores (SCOPE 4.43).
unfoldable pub filled : Sheet → List ℤ → List ℤ → ReadCall
unfolding pad_to overwrite row_store_of relation_store_of
filled sheet row_store relation_store =
    record {
      result = record
          { refusal = 0; sizes = sheet.sizes; relations = length sheet.relations; order = pad_to column_count 0 sheet.order };
      row_store = overwrite (row_store_of sheet.rows) row_store;
      relation_store = overwrite
          (relation_store_of sheet.relations) relation_store;
    }

-- Stores too short are found (1) only where the sheet has no fault (SCOPE 4.42).
unfoldable pub after_read : Read Sheet → List ℤ → List ℤ → ReadCall
unfolding filled unread lengths_right_of
after_read (got sheet rest) row_store relation_store =
    let whole = filled sheet row_store relation_store in
    cond (lengths_right_of (equations sheet.sizes) row_store relation_store) whole (unread 1 row_store relation_store)
after_read (fault n) row_store relation_store = unread n row_store relation_store

unfoldable pub read_call : List ℕ → List ℤ → List ℤ → ReadCall
unfolding after_read read_sheet_of
read_call bytes row_store relation_store = after_read (read_sheet_of bytes) row_store relation_store

-- ---- writing

pub record WriteCall : Type 0 where
  pub refusal : ℕ
  pub length : ℕ
  pub byte_store : List ℕ

-- Are the numbers different and from 1 to m?
unfoldable pub different_columns_of : ℕ → List ℕ → Bool
unfolding contains
different_columns_of m [] = true
different_columns_of m (c ∷ l) = (leb 1 c && leb c m) && not (contains c l) && different_columns_of m l

-- The order that is written: the numbers before the first 0 (SCOPE 4.53).
unfoldable pub order_given : List ℕ → List ℕ
order_given [] = []
order_given (zero ∷ l) = []
order_given (suc c ∷ l) = suc c ∷ order_given l

-- The order argument: four numbers, different columns of 1..m first and zeros past them (SCOPE 4.53).
unfoldable pub order_right_of : ℕ → List ℕ → Bool
unfolding every different_columns_of order_given
order_right_of m order =
    different_columns_of m (order_given order) && every (eqb 0) (drop (length (order_given order)) order)

-- Sizes (2), then lengths (1), then numbers (5); the order argument is one of the sizes (SCOPE 3.31, 4.53, 4.54).
unfoldable pub check_write_of : Sizes → ℕ → List ℕ → List ℤ → List ℤ → ℕ
unfolding sizes_right_of count_right order_right_of lengths_right_of numbers_right_of
check_write_of z count order row_store relation_store =
    let numbers : ℕ = cond (numbers_right_of z count row_store relation_store) 0 5 in
    let lengths : ℕ = cond (lengths_right_of (equations z) row_store relation_store) numbers 1 in
    cond (sizes_right_of z && count_right count && order_right_of z.m order) lengths 2

unfoldable pub sheet_of : Sizes → ℕ → List ℕ → List ℤ → List ℤ → Sheet
unfolding rows_of relations_of order_given
sheet_of z count order row_store relation_store =
    record { sizes = z; rows = rows_of (equations z) row_store; relations = relations_of count relation_store; order = order_given order }

-- On a refusal no byte is written and the length is 0 (SCOPE 4.54).
unfoldable pub unwritten : ℕ → List ℕ → WriteCall
unwritten n byte_store = record { refusal = n; length = 0; byte_store = byte_store }

-- That the byte store is too short (1) comes last (SCOPE 4.54); bytes past the length stay (SCOPE 4.51).
unfoldable pub written : List ℕ → List ℕ → WriteCall
unfolding unwritten overwrite
written bytes byte_store =
    let whole : WriteCall = record { refusal = 0; length = length bytes; byte_store = overwrite bytes byte_store } in
    cond (leb (length bytes) (length byte_store)) whole (unwritten 1 byte_store)

unfoldable pub after_write_check : Sizes → ℕ → List ℕ → List ℤ → List ℤ → List ℕ → ℕ → WriteCall
unfolding written write_sheet_of sheet_of unwritten
after_write_check z count order row_store relation_store byte_store zero =
    written (write_sheet_of (sheet_of z count order row_store relation_store)) byte_store
after_write_check z count order row_store relation_store byte_store (suc n) = unwritten (suc n) byte_store

unfoldable pub write_call : Sizes → ℕ → List ℕ → List ℤ → List ℤ → List ℕ → WriteCall
unfolding after_write_check check_write_of
write_call z count order row_store relation_store byte_store =
    after_write_check z count order row_store relation_store byte_store (check_write_of z count order row_store relation_store)
