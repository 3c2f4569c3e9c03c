-- The call that reads a sheet into lent stores.
--
-- Main definitions
--   call_of r ..          the call of `rules` that a result and the stores after it give
--
-- Main statements
--   relation_store-again  the relations of a store, as a store of their own
--   rows-filled, relations-filled   numbers put into a lent store are what `rules` writes into it
-- call-faults, call-refuses, call-short, call-fills   the call where the sheet is refused, where a store is too short, and where
-- it is read
use Rattle.std.specs.Prelude.{ℕ, ◌+◌, ◌*◌, ◌-◌, ◌≤◌, ◌≡◌, true, false, length, take, drop, replicate, ℤ, pos}
use Rattle.std.proofs.Common.{le_of_eq, arith, sym, ◌∙◌, take_all}
use Rattle.std.proofs.Math.Path.{ap, ap₂}
use Rattle.std.proofs.Math.Bool.{cond}
use mathlib.Core.List.{List, ◌++◌, map, flatten}
use Rattle.std.proofs.lemmas.List.{length-replicate}
use Rattle.std.proofs.Math.Seq.{paste}
use Rattle.rules.specs.Limits.{relation_length, most_relations}
use Rattle.rules.specs.Stores.{rows_of, relation_of, relations_of, relation_numbers, row_need, relation_need, row_store_of, relation_store_of}
use Rattle.rules.specs.Stores.{lengths_right_of, equations}
use Rattle.lists.specs.Parts.{parts, flatten-parts, parts-width}
use Rattle.rules.specs.Layout.{row_store_of-rows_of, relation_numbers-relation_of, length-relations_of, length-relation_store_of}
use Rattle.rules.specs.Layout.{StoreRelation-relations_of}
use Rattle.lists.specs.Images.{map_back}
use Rattle.lists.specs.Everywhere.{all-mono}
use Rattle.lists.specs.Overwritten.{overwrite, overwrite-paste}
use Rattle.rules.specs.Numbers.{Read, got, fault, then_read}
use Rattle.rules.specs.Sheets.{Sheet, read_sheet_of}
use Rattle.rules.specs.SheetCalls.{ReadResult, ReadCall, read_refusal, unread, filled, after_read, read_call}
use Rattle.tokens.specs.Fields.{read_of, fault-of, then-parts, got-not-fault}
use Rattle.lists.specs.Pasted.{paste-twice}
use Rattle.reading.specs.Equations.{got-value}
use Rattle.reading.specs.WholeSheet.{result_of, sheet, pad_sheet, SheetRead}
use Rattle.std.specs.Prelude.{Result}
use Rattle.refusals.specs.declared.Refusal.{Refusal}
use Rattle.reading.specs.declared.sheet.Sheet.{Sheet as SheetGiven}

unfoldable pub call_of : Result SheetGiven Refusal → List ℤ → List ℤ → ReadCall
unfolding result_of
call_of r row_store relation_store = record { result = result_of r; row_store = row_store; relation_store = relation_store }

-- ---- stores that are filled

pub rows-filled : (m : ℕ) (numbers store : List ℤ) → row_need m ≤ length numbers
    → paste store 0 numbers (row_need m) ≡ overwrite (row_store_of (rows_of m numbers)) store
rows-filled m numbers store h =
    overwrite-paste store numbers (row_need m) h ∙ ap (λ part. overwrite part store) (sym (row_store_of-rows_of m numbers))

-- The relations that a store holds, written again, are the part of the store that they use.
used-again : (count : ℕ) (l : List ℤ) → count * relation_length ≤ length l
    → flatten (map relation_numbers (relations_of count l)) ≡ take (count * relation_length) l
unfolding relations_of
used-again count l h =
    ap flatten
    (map_back relation_of relation_numbers (parts relation_length count l)
    (all-mono (λ p. length p ≡ relation_length) (λ p. relation_numbers (relation_of p) ≡ p) relation_numbers-relation_of
    (parts relation_length count l) (parts-width relation_length count l h)))
    ∙ flatten-parts relation_length count l

pub relation_store-again : (count : ℕ) (l : List ℤ) → count * relation_length ≤ length l
    → relation_store_of (relations_of count l) ≡ take (count * relation_length) l
    ++ replicate ((most_relations - count) * relation_length) (pos 0)
unfolding relation_store_of
relation_store-again count l h =
    ap₂ (λ used n. used ++ replicate ((most_relations - n) * relation_length) (pos 0)) (used-again count l h) (length-relations_of count l)

-- The relations at the front, and zeros at the places past the count (SCOPE 3.13).
pub relations-filled : (count : ℕ) (numbers store : List ℤ) → count ≤ most_relations → count * relation_length ≤ length numbers
    → paste (paste store 0 numbers (count * relation_length)) (count * relation_length)
    (replicate (relation_need - count * relation_length) (pos 0)) (relation_need - count * relation_length)
    ≡ overwrite (relation_store_of (relations_of count numbers)) store
unfolding overwrite
relations-filled count numbers store few enough =
    paste-twice store numbers (replicate left (pos 0)) (count * relation_length) left enough
    ∙ ap₂ (λ part n. part ++ drop n store)
    (ap (λ r. take (count * relation_length) numbers ++ r) unused ∙ sym (relation_store-again count numbers enough)) whole
  where
    left : ℕ
    left = relation_need - count * relation_length

    same : left ≡ (most_relations - count) * relation_length
    same = omega arith

    unused : take left (replicate left (pos 0)) ≡ replicate ((most_relations - count) * relation_length) (pos 0)
    unused =
        take_all left (replicate left (pos 0)) (le_of_eq (length-replicate left (pos 0)))
        ∙ ap (λ n. replicate n (pos 0)) same

    whole : count * relation_length + left ≡ length (relation_store_of (relations_of count numbers))
    whole =
        sym (length-relation_store_of (relations_of count numbers) (rw length-relations_of few)
        (StoreRelation-relations_of count numbers enough) ∙ omega arith)

-- ---- the call

-- A result that is a refusal, with the stores as they were.
pub call-unread : (q : Result SheetGiven Refusal) (n : ℕ) (row_store relation_store : List ℤ) → result_of q ≡ read_refusal n
    → call_of q row_store relation_store ≡ unread n row_store relation_store
unfolding call_of unread
call-unread q n row_store relation_store e = ap (λ r. record { result = r; row_store = row_store; relation_store = relation_store }) e

-- What was read, from what was read with all the columns of its order.
pad-fault : (q : Read Sheet) (n : ℕ) → then_read q pad_sheet ≡ fault n → q ≡ fault n
unfolding then_read pad_sheet
pad-fault (got s rest) n e = absurd (got-not-fault e)
pad-fault (fault k) n e = e

pub call-faults : (bytes : List ℕ) (n : ℕ) (row_store relation_store : List ℤ) → then_read (read_sheet_of bytes) pad_sheet ≡ fault n
    → read_call bytes row_store relation_store ≡ unread n row_store relation_store
unfolding read_call after_read
call-faults bytes n row_store relation_store e = ap (λ q. after_read q row_store relation_store) (pad-fault (read_sheet_of bytes) n e)

module _ (bytes : List ℕ) (r : ReadResult) (rows relations : List ℤ) (read : SheetRead bytes r rows relations)
    (row_store relation_store : List ℤ) where
  pub call-refuses : (r.refusal ≡ 0 → ⊥) → read_call bytes row_store relation_store ≡ unread r.refusal row_store relation_store
  call-refuses h =
      call-faults bytes r.refusal row_store relation_store (sym read.answer ∙ fault-of bytes r.refusal _ (length bytes) h)

  module _ (none : r.refusal ≡ 0) where
    abbrev held : Sheet
    held = sheet r.sizes (rows_of (equations r.sizes) rows) (relations_of r.relations relations) r.order

    -- A call that gives a sheet back: the refusal and the number of relations beside it.
    call_with : ℕ → ℕ → Sheet → ReadCall
    call_with n k p =
        record {
          result = record { refusal = n; sizes = p.sizes; relations = k; order = p.order };
          row_store = overwrite (row_store_of p.rows) row_store;
          relation_store = overwrite (relation_store_of p.relations) relation_store;
        }

    -- The stores with what was read in their needed parts.
    abbrev pub filled_call : ReadCall
    filled_call =
        record {
          result = r;
          row_store = overwrite (row_store_of (rows_of (equations r.sizes) rows)) row_store;
          relation_store = overwrite (relation_store_of (relations_of r.relations relations)) relation_store;
        }

    call-read : read_call bytes row_store relation_store
        ≡ cond (lengths_right_of (equations r.sizes) row_store relation_store) filled_call (unread 1 row_store relation_store)
    unfolding read_of pad_sheet read_call after_read filled call_with
    call-read =
        let parts = then-parts (read_sheet_of bytes) pad_sheet (sym read.answer ∙ ap (λ n. read_of bytes n held (length bytes)) none) in
        ap (λ q. after_read q row_store relation_store) parts.2
        ∙ ap (λ p. cond (lengths_right_of (equations p.sizes) row_store relation_store) (call_with 0 (length p.relations) p)
        (unread 1 row_store relation_store))
        (got-value parts.3)
        ∙ ap₂ (λ n k. cond (lengths_right_of (equations r.sizes) row_store relation_store) (call_with n k held)
        (unread 1 row_store relation_store)) (sym none)
        (length-relations_of r.relations relations)

    -- A store too short is 1, after all faults of the sheet (SCOPE 4.42).
    pub call-short : lengths_right_of (equations r.sizes) row_store relation_store ≡ false → read_call bytes row_store relation_store
        ≡ unread 1 row_store relation_store
    call-short e = call-read ∙ ap (λ t. cond t filled_call (unread 1 row_store relation_store)) e

    pub call-fills : lengths_right_of (equations r.sizes) row_store relation_store ≡ true → read_call bytes row_store relation_store ≡ filled_call
    call-fills e = call-read ∙ ap (λ t. cond t filled_call (unread 1 row_store relation_store)) e
