-- A sheet read straight into stores of the largest sizes that are zero: they then are what the call that reads it leaves.
--
-- Main statements
--   head-front, sheet-front   a sheet read into the needed part of the row store, and into the whole store
--   call-holds           the rows and the relations that were read, and zeros past them
use Rattle.std.specs.Prelude.{ℕ, zero, suc, ◌*◌, ◌-◌, ◌≤◌, ◌≡◌, refl, true, ◌&&◌, List, ◌++◌, length, take, drop, ℤ}
use Rattle.std.proofs.Common.{zero-add, le_of_eq, arith, ap, ap₂, ◌∙◌, append-nil, le-leb, take-append-drop, drop_of_length-le, take_all}
use Rattle.std.proofs.Math.Path.{sym}
use Rattle.rules.specs.Limits.{most_equations, row_length, relation_length, most_relations}
use Rattle.rules.specs.Stores.{Sizes, equations, rows_of, relations_of, row_need, largest_rows, relation_need, row_store_of, relation_store_of}
use Rattle.rules.specs.Stores.{lengths_right_of}
use Rattle.rules.specs.Layout.{length-relations_of, length-relation_store_of, StoreRelation-relations_of}
use Rattle.rules.specs.Calls.{zeros}
use Rattle.lists.specs.Overwritten.{overwrite}
use Rattle.rules.specs.Numbers.{got, then_read}
use Rattle.rules.specs.Sheets.{Sheet, read_relations, read_rest}
use Rattle.rules.specs.SheetCalls.{ReadResult, ReadCall, read_call}
use Rattle.tokens.specs.Fields.{read_of}
use Rattle.reading.specs.WholeSheet.{sheet, order_section, HeadTo, SheetRead}
use Rattle.reading.specs.Sections.{rows_of-front}
use Rattle.reading.specs.Zeros.{length-zeros, drop-zeros}
use Rattle.reading.specs.ReadCalls.{rows-filled, relation_store-again, call-fills}

-- The rows stand in the needed part of their store.
pub head-front : {bytes : List ℕ} {z : Sizes} {count at : ℕ} {rows : List ℤ} (part rest : List ℤ) → HeadTo bytes z count at rows
    → rows ≡ part ++ rest → length part ≡ row_need (equations z) → HeadTo bytes z count at part
head-front {bytes} {z} {count} {at} part rest head e long =
    record {
      within = head.within;
      right = head.right;
      few = head.few;
      rest =
          head.rest
          ∙ ap (λ rows. then_read (then_read (read_relations z count (drop at bytes)) (order_section z rows)) read_rest)
          (ap (rows_of (equations z)) e ∙ rows_of-front (equations z) part rest long);
    }

pub sheet-front : {bytes : List ℕ} {r : ReadResult} {part relations : List ℤ} (rest : List ℤ) → SheetRead bytes r part relations
    → (r.refusal ≡ 0 → length part ≡ row_need (equations r.sizes)) → SheetRead bytes r (part ++ rest) relations
unfolding read_of
sheet-front {bytes} {r} {part} {relations} rest read long =
    record { answer = by r.refusal refl ∙ read.answer; few-rows = read.few-rows; few = read.few }
  where
    held : List ℤ → Sheet
    held rows = sheet r.sizes (rows_of (equations r.sizes) rows) (relations_of r.relations relations) r.order

    by : (n : ℕ) → r.refusal ≡ n → read_of bytes n (held (part ++ rest)) (length bytes) ≡ read_of bytes n (held part) (length bytes)
    by zero e =
        ap (λ rows. got (sheet r.sizes rows (relations_of r.relations relations) r.order) (drop (length bytes) bytes))
        (rows_of-front (equations r.sizes) part rest (long e))
    by (suc n) e = refl

module _ (bytes : List ℕ) (r : ReadResult) (rows relations : List ℤ) (read : SheetRead bytes r rows relations) (none : r.refusal ≡ 0)
    (rows_long : length rows ≡ largest_rows)
    (rows-rest : drop (equations r.sizes * row_length) rows ≡ drop (equations r.sizes * row_length) (zeros largest_rows))
    (relations-long : length relations ≡ r.relations * relation_length) where
  abbrev used : ℕ
  used = r.relations * relation_length

  pub call-holds : ◌≡◌ {A = ReadCall} (record { result = r; row_store = rows; relation_store = relations ++ drop used (zeros relation_need) })
      (read_call bytes (zeros largest_rows) (zeros relation_need))
  unfolding row_need lengths_right_of overwrite zeros
  call-holds =
      sym
      (call-fills bytes r rows relations read (zeros largest_rows) (zeros relation_need) none long
      ∙ (λ i. record { result = r; row_store = own i; relation_store = filled i }))
    where
      few : r.relations ≤ 16
      few = read.few none

      few-rows : equations r.sizes ≤ most_equations
      few-rows = read.few-rows none

      long : lengths_right_of (equations r.sizes) (zeros largest_rows) (zeros relation_need) ≡ true
      long =
          ap₂ ◌&&◌ (le-leb (row_need (equations r.sizes)) (length (zeros largest_rows))
          (omega (arith, few-rows, length-zeros largest_rows)))
          (le-leb relation_need (length (zeros relation_need)) (omega (arith, length-zeros relation_need)))

      own : overwrite (row_store_of (rows_of (equations r.sizes) rows)) (zeros largest_rows) ≡ rows
      own =
          sym (rows-filled (equations r.sizes) rows (zeros largest_rows) (omega (arith, few-rows)))
          ∙ ap (λ l. take (equations r.sizes * row_length) rows ++ l)
          (ap (λ k. drop k (zeros largest_rows)) (zero-add (equations r.sizes * row_length)) ∙ sym rows-rest)
          ∙ take-append-drop (equations r.sizes * row_length) rows

      part : List ℤ
      part = relation_store_of (relations_of r.relations relations)

      whole : length part ≡ relation_need
      whole =
          length-relation_store_of (relations_of r.relations relations) (rw length-relations_of few)
          (StoreRelation-relations_of r.relations relations (le_of_eq (sym relations-long)))

      unused : zeros ((most_relations - r.relations) * relation_length) ≡ drop used (zeros relation_need)
      unused =
          let e : (most_relations - r.relations) * relation_length ≡ relation_need - used = omega (arith, few) in
          ap zeros e ∙ sym (drop-zeros used relation_need (omega (arith, few)))

      filled : overwrite part (zeros relation_need) ≡ relations ++ drop used (zeros relation_need)
      filled =
          ap (λ l. part ++ l) (drop_of_length-le (zeros relation_need) {i = length part} (omega (arith, whole, length-zeros relation_need)))
          ∙ append-nil part
          ∙ relation_store-again r.relations relations (le_of_eq (sym relations-long))
          ∙ ap₂ ◌++◌ (take_all used relations (le_of_eq relations-long)) unused
