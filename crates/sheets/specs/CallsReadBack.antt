-- The calls that read and write a sheet, one after the other.
--
-- Main statements
--   order-given, given-order             the order argument of a call, and the order that is written for it
--   written-call-read                    what a call writes is read back as what the stores hold
--   read-call-given                      stores that were filled with a sheet hold that sheet
--   read-call-write, read-write-call     the call that writes them refuses nothing, and writes the bytes that were read
use Rattle.std.specs.Prelude.{ℕ, zero, suc, ◌≤◌, ◌≡◌, refl, List, [], ◌∷◌, T, eqb, length, ℤ}
use Rattle.std.proofs.Common.{not-suc-le-zero, le_of_suc-le-suc, le_trans, ◌∙◌}
use Rattle.std.proofs.Math.Path.{ap}
use Rattle.lists.specs.Tests.{T-&&}
use Rattle.rules.specs.Limits.{column_count}
use Rattle.rules.specs.Stores.{Sizes, rows_of, relations_of, row_store_of, equations}
use Rattle.rules.specs.Stores.{relation_store_of}
use Rattle.rules.specs.Layout.{SizeBounds, check_stores-zero, size-bounds, stores-valid, valid-stores, rows_of-row_store_of}
use Rattle.rules.specs.Layout.{relations_of-relation_store_of}
use Rattle.lists.specs.Padded.{pad_to, drop-pad_to}
use Rattle.lists.specs.Overwritten.{overwrite}
use Rattle.rules.specs.Numbers.{got}
use Rattle.rules.specs.Sheets.{Sheet, read_sheet_of, write_sheet_of}
use Rattle.rules.specs.SheetCalls.{different_columns_of, order_right_of, order_given, check_write_of, sheet_of, written, after_write_check, write_call}
use Rattle.writing.specs.WriterChecks.{check_write-iff}
use Rattle.sheets.specs.WrittenOrder.{OrderRight, different-cons, different-few}
use Rattle.sheets.specs.ReadBack.{SheetRight, read-written, read_right}

-- ---- the order argument

pub order-given : (m : ℕ) (order : List ℕ) → T (order_right_of m order) → OrderRight m (order_given order)
unfolding order_right_of OrderRight
order-given m order h = ((T-&& (different_columns_of m (order_given order)) _).0 h).0

-- Columns are not 0.
given-padded : (m n : ℕ) (order : List ℕ) → length order ≤ n → T (different_columns_of m order) → order_given (pad_to n 0 order) ≡ order
unfolding pad_to order_given
given-padded m zero [] h d = refl
given-padded m (suc n) [] h d = refl
given-padded m zero (c ∷ l) h d = absurd (not-suc-le-zero h)
given-padded m (suc n) (zero ∷ l) h d = absurd (not-suc-le-zero ((different-cons m 0 l).0 d).0)
given-padded m (suc n) (suc c ∷ l) h d =
    ap (λ k. suc c ∷ k) (given-padded m n l (le_of_suc-le-suc h) ((different-cons m (suc c) l).0 d).3)

-- A right order, with zeros up to four numbers, is a right argument, and is what is written for it.
pub given-order : (m : ℕ) (order : List ℕ) → m ≤ column_count → OrderRight m order
    → T (order_right_of m (pad_to column_count 0 order)) × (order_given (pad_to column_count 0 order) ≡ order)
unfolding OrderRight order_right_of
given-order m order h d = (rw same ((T-&& (different_columns_of m order) _).1 (d, drop-pad_to (eqb 0) column_count 0 order tt)), same)
  where
    same : order_given (pad_to column_count 0 order) ≡ order
    same = given-padded m column_count order (le_trans (different-few m order d) h) d

-- ---- the calls

-- What a call writes is read back.
pub written-call-read : (z : Sizes) (count : ℕ) (order : List ℕ) (row_store relation_store : List ℤ)
    → check_write_of z count order row_store relation_store ≡ 0
    → read_sheet_of (write_sheet_of (sheet_of z count order row_store relation_store)) ≡ got (sheet_of z count order row_store relation_store) []
unfolding sheet_of
written-call-read z count order row_store relation_store e =
    let c = (check_write-iff z count order row_store relation_store).0 e in
    read-written z _ _ _ (stores-valid z count row_store relation_store ((check_stores-zero z count row_store relation_store).1 c.1))
    (order-given z.m order c.0)

-- Stores that were filled with a sheet hold that sheet, and writing them refuses nothing.
module _ (bytes : List ℕ) (x : Sheet) (rest : List ℕ) (row_store relation_store : List ℤ) (e : read_sheet_of bytes ≡ got x rest) where
  right : SheetRight x
  right = (read_right bytes x rest e).0

  sizes : SizeBounds x.sizes
  sizes = size-bounds x.sizes right.valid.sizes

  pub read-call-given :
      sheet_of x.sizes (length x.relations) (pad_to column_count 0 x.order) (overwrite (row_store_of x.rows) row_store)
      (overwrite (relation_store_of x.relations) relation_store)
      ≡ x
  unfolding sheet_of overwrite
  read-call-given = λ i. record { sizes = x.sizes; rows = rows i; relations = relations i; order = order i }
    where
      rows : rows_of (equations x.sizes) (overwrite (row_store_of x.rows) row_store) ≡ x.rows
      rows = rows_of-row_store_of (equations x.sizes) x.rows _ right.valid.row_count right.valid.row-shapes

      relations : relations_of (length x.relations) (overwrite (relation_store_of x.relations) relation_store) ≡ x.relations
      relations = relations_of-relation_store_of x.relations _ right.valid.relation-shapes

      order : order_given (pad_to column_count 0 x.order) ≡ x.order
      order = (given-order x.sizes.m x.order sizes.few right.order-right).1

  pub read-call-write :
      check_write_of x.sizes (length x.relations) (pad_to column_count 0 x.order) (overwrite (row_store_of x.rows) row_store)
      (overwrite (relation_store_of x.relations) relation_store)
      ≡ 0
  unfolding overwrite
  read-call-write =
      (check_write-iff x.sizes (length x.relations) (pad_to column_count 0 x.order) _ _).1 (
        (given-order x.sizes.m x.order sizes.few right.order-right).0,
        (check_stores-zero x.sizes (length x.relations) _ _).0 (valid-stores x.sizes x.rows x.relations _ _ right.valid),
      )

  -- The call writes the bytes that were read.
  pub read-write-call : (byte_store : List ℕ)
      → write_call x.sizes (length x.relations) (pad_to column_count 0 x.order) (overwrite (row_store_of x.rows) row_store)
      (overwrite (relation_store_of x.relations) relation_store) byte_store
      ≡ written bytes byte_store
  unfolding write_call
  read-write-call byte_store =
      ap (after_write_check x.sizes (length x.relations) (pad_to column_count 0 x.order) (overwrite (row_store_of x.rows) row_store)
      (overwrite (relation_store_of x.relations) relation_store) byte_store) read-call-write
      ∙ ap (λ y. written (write_sheet_of y) byte_store) read-call-given
      ∙ ap (λ l. written l byte_store) (read_right bytes x rest e).1
