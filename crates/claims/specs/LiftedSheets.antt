-- The facts about sheets and about one polynomial lifted to the calls.
--
-- Main statements
--   no-fault, same-sheet       the bytes of a sheet are read, as no other sheet
--   read-course, write-course  every call takes one of the courses
--   read_number, read-refused, read-fault, read_short, read-accepts, read-sheet   a call that reads a sheet
--   write-number, write-refused, write-range, write-short, write-numbers, write-accepts, write_bytes   one that writes a sheet
--   written-sheet, read_back, write-back   a sheet that was written reads back as what the stores held, and the other way round
--   place-zero, place-two, place-one, part_none, part-polynomial, part-sixteen   the part that holds one polynomial
use Prim.Native.Nat.{ℕ, zero, suc, pred, ◌≤◌, ◌<◌}
use Rattle.std.proofs.Common.{le_trans, sym, ◌∙◌, ap₂, leb→le}
use native.Mathlib.Omega.{arith}
use Rattle.std.proofs.Math.Path.{◌≡◌, refl, ap, subst}
use Rattle.std.specs.Prelude.{◌↔◌, ◌≢◌, ◌⊎◌, Bool, ◌&&◌, not, cond, leb, take, ℤ, pos, negsuc, nat_abs, ◌-ℤ◌, ◌≤ℤ◌}
use Rattle.std.proofs.Math.Logic.{inl, inr}
use Rattle.std.proofs.Math.Bool.{true, false}
use mathlib.Core.List.{List, []}
use Rattle.std.proofs.Math.Dec.{T, le→leb, nleb→lt}
use Rattle.std.proofs.Math.ListN.{length, get_or}
use Rattle.algebra.specs.Order.{≤ℤ-difference}
use Rattle.lists.specs.Tests.{T-&&, cond-passed}
use Rattle.rules.specs.Limits.{column_count, coefficient_count}
use Rattle.rules.specs.Rows.{Block, Row, no_row}
use Rattle.lists.specs.Everywhere.{All, all_get_or}
use Rattle.rules.specs.Sequences.{block_from, polynomial_at_of}
use Rattle.rules.specs.Stores.{Sizes, equations, Valid, rows_of, row_need, relation_need, row_store_of, relation_store_of, lengths_right_of}
use Rattle.rules.specs.Stores.{sizes_right_of, Shaped, StoreRow}
use Rattle.rules.specs.Layout.{NumbersRight, lengths_right-iff, count_right-iff, rows_of-row_store_of, relations_of-relation_store_of}
use Rattle.rules.specs.Layout.{length-row_store_of, length-relation_store_of, row_store_of-rows_of, relation_store_of-relations_of}
use Rattle.rules.specs.Layout.{length-relations_of}
use Rattle.rules.specs.Layout.{SizeBounds, size-bounds, bounds-right, place-bounds, polynomial_part-at, block-place}
use Rattle.rules.specs.Layout.{length-rows_of, StoreRow-rows_of}
use Rattle.rules.specs.Calls.{place_right_of, polynomial_check, polynomial_part, polynomial_place, part_at}
use Rattle.lists.specs.Padded.{pad_to, pad-taken}
use Rattle.lists.specs.Overwritten.{overwrite}
use Rattle.rules.specs.Numbers.{Read, got, fault}
use Rattle.rules.specs.Sheets.{Sheet, read_sheet_of}
use Rattle.rules.specs.SheetCalls.{ReadCall, read_call, after_read, unread, filled, read_refusal, WriteCall, write_call}
use Rattle.rules.specs.SheetCalls.{after_write_check}
use Rattle.rules.specs.SheetCalls.{written, unwritten, sheet_of, order_right_of, order_given, different_columns_of}
use Rattle.writing.specs.WriterChecks.{check_write-order, given-first}
use Rattle.tokens.specs.Exact.{got-inj, fault-got}
use Rattle.sheets.specs.ReadBack.{SheetRight, read_right, read-exactly}
use Rattle.sheets.specs.CallsReadBack.{order-given, read-write-call}
use Rattle.answers.specs.Faults.{Numbered, read, numbered, sheet-numbered}
use Rattle.claims.specs.RunWords.{FoundBefore, Rewritten, InRange, LongEnough, IsRow, IsColumn}
use Rattle.claims.specs.SheetWords.{WriteNumber, SheetWasRead, IsSheetOf, HoldsSheet, ReadCourse, SheetWasWritten}
use Rattle.claims.specs.SheetWords.{WriteRange, sheet_bytes, WriteCourse, WriteReady, WriteShort, ReadsBack}
use Rattle.claims.specs.SheetWords.{PlaceInside}
use Rattle.claims.specs.SheetWords.{whole_sheet, no-sheet, no_room, sheet-read, wrong-range, short-stores, bad-number}
use Rattle.claims.specs.SheetWords.{short-bytes, sheet-written}
use Rattle.claims.specs.LiftedRuns.{overwrite-rewritten, Verdict, two, one, five, none_found, stores-verdict}
use Rattle.claims.specs.LiftedRuns.{passed-valid, place-right}

-- ---- reading

-- The bytes of a sheet are read as that sheet.
read_as : {x : Sheet} {bytes : List ℕ} → IsSheetOf x bytes → read_sheet_of bytes ≡ got x []
read_as {x} {bytes} h = (read-exactly bytes x).1 h

pub no-fault : {x : Sheet} {bytes : List ℕ} {n : ℕ} → IsSheetOf x bytes → ¬ (read_sheet_of bytes ≡ fault n)
no-fault {x} {n = n} h e = fault-got n x [] (sym e ∙ read_as h)

pub same-sheet : {x y : Sheet} {bytes : List ℕ} → IsSheetOf x bytes → IsSheetOf y bytes → x ≡ y
same-sheet {x} {y} h k = (got-inj x y [] [] (sym (read_as h) ∙ read_as k)).0

module _ {bytes : List ℕ} {rows relations : List ℤ} where
  pub read-course : {c : ReadCall} → SheetWasRead bytes rows relations c → ReadCourse bytes rows relations c
  unfolding read_call after_read
  read-course r = subst (ReadCourse bytes rows relations) (sym r.called) (by (read_sheet_of bytes) refl (sheet-numbered bytes))
    where
      long : (x : Sheet) → IsSheetOf x bytes → (t : Bool) → T t ↔ LongEnough x.sizes rows relations
          → ReadCourse bytes rows relations (cond t (filled x rows relations) (unread 1 rows relations))
      long x h true e = sheet-read x h (e.0 tt)
      long x h false e = no_room x h e.1

      by : (r : Read Sheet) → read_sheet_of bytes ≡ r → Numbered r → ReadCourse bytes rows relations (after_read r rows relations)
      by r e (read x rest) =
          let h = read_right bytes x rest e in
          long x (h.0, h.1) (lengths_right_of (equations x.sizes) rows relations) (lengths_right-iff (equations x.sizes) rows relations)
      by r e (numbered n low high) = no-sheet (suc n) (omega arith, omega arith) e

  number-course : {c : ReadCall} → ReadCourse bytes rows relations c → (c.result.refusal ≡ 0) ⊎ FoundBefore c.result.refusal
  unfolding unread read_refusal filled
  number-course (no-sheet n h e) = inr (omega arith, h.1)
  number-course (no_room x h l) = inr (omega arith, omega arith)
  number-course (sheet-read x h l) = inl refl

  refused-course : {c : ReadCall} → ReadCourse bytes rows relations c → c.result.refusal ≢ 0
      → c ≡ unread c.result.refusal rows relations
  unfolding unread read_refusal filled
  refused-course (no-sheet n h e) k = refl
  refused-course (no_room x h l) k = refl
  refused-course (sheet-read x h l) k = absurd (k refl)

  fault-course : {c : ReadCall} → ReadCourse bytes rows relations c → (n : ℕ) → 2 ≤ n
      → (c.result.refusal ≡ n) ↔ (read_sheet_of bytes ≡ fault n)
  unfolding unread read_refusal filled
  fault-course (no-sheet k h e) n low = (λ f. e ∙ ap fault f, λ f. same (sym e ∙ f))
    where
      same : ◌≡◌ {A = Read Sheet} (fault k) (fault n) → k ≡ n
      same f = cc
  fault-course (no_room x h l) n low = (λ f. absurd (omega arith), λ f. absurd (no-fault h f))
  fault-course (sheet-read x h l) n low = (λ f. absurd (omega arith), λ f. absurd (no-fault h f))

  short-course : {c : ReadCall} → ReadCourse bytes rows relations c
      → (c.result.refusal ≡ 1) ↔ ((x : Sheet) × IsSheetOf x bytes × (¬ LongEnough x.sizes rows relations))
  unfolding unread read_refusal filled
  short-course (no-sheet n h e) = (λ f. absurd (omega arith), λ f. absurd (no-fault f.1 e))
  short-course (no_room x h l) = (λ f. (x, h, l), λ f. refl)
  short-course (sheet-read x h l) = (
    λ f. absurd (omega arith),
    λ f. absurd (f.2 (subst (λ y. LongEnough y.sizes rows relations) (same-sheet h f.1) l)),
  )

  accepts-course : {c : ReadCall} → ReadCourse bytes rows relations c
      → (c.result.refusal ≡ 0) ↔ ((x : Sheet) × IsSheetOf x bytes × LongEnough x.sizes rows relations)
  unfolding unread read_refusal filled
  accepts-course (no-sheet n h e) = (λ f. absurd (omega arith), λ f. absurd (no-fault f.1 e))
  accepts-course (no_room x h l) = (
    λ f. absurd (omega arith),
    λ f. absurd (l (subst (λ y. LongEnough y.sizes rows relations) (same-sheet f.1 h) f.2)),
  )
  accepts-course (sheet-read x h l) = (λ f. (x, h, l), λ f. refl)

  pub filled-holds : (x : Sheet) → IsSheetOf x bytes → LongEnough x.sizes rows relations
      → HoldsSheet x rows relations (filled x rows relations)
  unfolding filled overwrite
  filled-holds x h l =
      record {
        sizes = refl;
        relation-count = refl;
        column-order = refl;
        rows-held = rows_of-row_store_of (equations x.sizes) x.rows _ v.row_count v.row-shapes;
        relations-held = relations_of-relation_store_of x.relations _ v.relation-shapes;
        row-store = overwrite-rewritten (row_store_of x.rows) rows
            (length-row_store_of x.rows v.row-shapes ∙ ap row_need v.row_count) l.0;
        relation-store = overwrite-rewritten (relation_store_of x.relations) relations
            (length-relation_store_of x.relations ((count_right-iff (length x.relations)).0 v.relation-count)
            v.relation-shapes) l.1;
      }
    where
      v : Valid x.sizes x.rows x.relations
      v = h.0.valid

  holds-course : {c : ReadCall} → ReadCourse bytes rows relations c → (x : Sheet) → IsSheetOf x bytes → c.result.refusal ≡ 0
      → HoldsSheet x rows relations c
  unfolding unread read_refusal
  holds-course (no-sheet n h e) x k f = absurd (omega arith)
  holds-course (no_room y h l) x k f = absurd (omega arith)
  holds-course (sheet-read y h l) x k f = subst (λ u. HoldsSheet u rows relations (filled y rows relations))
      (same-sheet h k) (filled-holds y h l)

module _ {bytes : List ℕ} {rows relations : List ℤ} {c : ReadCall} (r : SheetWasRead bytes rows relations c) where
  pub read_number : (c.result.refusal ≡ 0) ⊎ FoundBefore c.result.refusal
  read_number = number-course (read-course r)

  pub read-refused : c.result.refusal ≢ 0 → c ≡ unread c.result.refusal rows relations
  read-refused = refused-course (read-course r)

  pub read-fault : (n : ℕ) → 2 ≤ n → (c.result.refusal ≡ n) ↔ (read_sheet_of bytes ≡ fault n)
  read-fault = fault-course (read-course r)

  pub read_short : (c.result.refusal ≡ 1) ↔ ((x : Sheet) × IsSheetOf x bytes × (¬ LongEnough x.sizes rows relations))
  read_short = short-course (read-course r)

  pub read-accepts : (c.result.refusal ≡ 0) ↔ ((x : Sheet) × IsSheetOf x bytes × LongEnough x.sizes rows relations)
  read-accepts = accepts-course (read-course r)

  pub read-sheet : (x : Sheet) → IsSheetOf x bytes → c.result.refusal ≡ 0 → HoldsSheet x rows relations c
  read-sheet = holds-course (read-course r)

-- ---- writing

module _ {z : Sizes} {count : ℕ} {order : List ℕ} {rows relations : List ℤ} {bytes : List ℕ} where
  pub write-course : {w : WriteCall} → SheetWasWritten z count order rows relations bytes w
      → WriteCourse z count order rows relations bytes w
  unfolding write_call after_write_check written
  write-course w =
      subst (WriteCourse z count order rows relations bytes)
      (sym (w.called ∙ ap (after_write_check z count order rows relations bytes) (check_write-order z count order rows relations)))
      (by (order_right_of z.m order) (λ h. h) (λ h. h) (stores-verdict z count rows relations))
    where
      fits : WriteReady z count order rows relations → (t : Bool)
          → (T t → length (sheet_bytes z count order rows relations) ≤ length bytes)
          → (T (not t) → length bytes < length (sheet_bytes z count order rows relations))
          → WriteCourse z count order rows relations bytes
          (cond t (whole_sheet (sheet_bytes z count order rows relations) bytes) (unwritten 1 bytes))
      fits p true h k = sheet-written p (h tt)
      fits p false h k = short-bytes p (k tt)

      by : (t : Bool) {n : ℕ} → (T t → T (order_right_of z.m order)) → (T (order_right_of z.m order) → T t)
          → Verdict (InRange z count) (LongEnough z rows relations) (NumbersRight z count rows relations) n
          → WriteCourse z count order rows relations bytes (after_write_check z count order rows relations bytes (cond t n 2))
      by false f g v = wrong-range (λ h. g h.1)
      by true f g (two r) = wrong-range (λ h. r h.0)
      by true f g (one r l) = short-stores (r, f tt) l
      by true f g (five r l k) = bad-number (r, f tt) l k
      by true f g (none_found r l k) =
          fits (record { range = r; lengths = l; numbers = k }, f tt)
          (leb (length (sheet_bytes z count order rows relations)) (length bytes)) (leb→le _ _) (nleb→lt _ _)

  written-number : {w : WriteCall} → WriteCourse z count order rows relations bytes w
      → WriteNumber w.refusal
  unfolding unwritten
  written-number (wrong-range r) = inr (inr (inl refl))
  written-number (short-stores r l) = inr (inl refl)
  written-number (bad-number r l k) = inr (inr (inr refl))
  written-number (short-bytes p h) = inr (inl refl)
  written-number (sheet-written p h) = inl refl

  refused-write : {w : WriteCall} → WriteCourse z count order rows relations bytes w → w.refusal ≢ 0
      → w ≡ unwritten w.refusal bytes
  unfolding unwritten
  refused-write (wrong-range r) e = refl
  refused-write (short-stores r l) e = refl
  refused-write (bad-number r l k) e = refl
  refused-write (short-bytes p h) e = refl
  refused-write (sheet-written p h) e = absurd (e refl)

  range-write : {w : WriteCall} → WriteCourse z count order rows relations bytes w
      → (w.refusal ≡ 2) ↔ (¬ WriteRange z count order)
  unfolding unwritten
  range-write (wrong-range r) = (λ e. r, λ h. refl)
  range-write (short-stores r l) = (λ e. absurd (omega arith), λ h. absurd (h r))
  range-write (bad-number r l k) = (λ e. absurd (omega arith), λ h. absurd (h r))
  range-write (short-bytes p f) = (λ e. absurd (omega arith), λ h. absurd (h (p.0.range, p.1)))
  range-write (sheet-written p f) = (λ e. absurd (omega arith), λ h. absurd (h (p.0.range, p.1)))

  numbers-write : {w : WriteCall} → WriteCourse z count order rows relations bytes w
      → (w.refusal ≡ 5) ↔ (WriteRange z count order × LongEnough z rows relations × (¬ NumbersRight z count rows relations))
  unfolding unwritten
  numbers-write (wrong-range r) = (λ e. absurd (omega arith), λ h. absurd (r h.0))
  numbers-write (short-stores r l) = (λ e. absurd (omega arith), λ h. absurd (l h.1))
  numbers-write (bad-number r l k) = (λ e. (r, l, k), λ h. refl)
  numbers-write (short-bytes p f) = (λ e. absurd (omega arith), λ h. absurd (h.2 p.0.numbers))
  numbers-write (sheet-written p f) = (λ e. absurd (omega arith), λ h. absurd (h.2 p.0.numbers))

  short_write : {w : WriteCall} → WriteCourse z count order rows relations bytes w
      → (w.refusal ≡ 1) ↔ WriteShort z count order rows relations bytes
  unfolding unwritten
  short_write (wrong-range r) = (λ e. absurd (omega arith), λ h. absurd (none h))
    where
      none : ¬ WriteShort z count order rows relations bytes
      none (inl h) = r h.0
      none (inr h) = r (h.0.0.range, h.0.1)
  short_write (short-stores r l) = (λ e. inl (r, l), λ h. refl)
  short_write (bad-number r l k) = (λ e. absurd (omega arith), λ h. absurd (none h))
    where
      none : ¬ WriteShort z count order rows relations bytes
      none (inl h) = h.1 l
      none (inr h) = k h.0.0.numbers
  short_write (short-bytes p f) = (λ e. inr (p, f), λ h. refl)
  short_write (sheet-written p f) = (λ e. absurd (omega arith), λ h. absurd (none h))
    where
      none : ¬ WriteShort z count order rows relations bytes
      none (inl h) = h.1 p.0.lengths
      none (inr h) = omega arith

  accepts-write : {w : WriteCall} → WriteCourse z count order rows relations bytes w
      → (w.refusal ≡ 0) ↔ (WriteReady z count order rows relations
      × (length (sheet_bytes z count order rows relations) ≤ length bytes))
  unfolding unwritten
  accepts-write (wrong-range r) = (λ e. absurd (omega arith), λ h. absurd (r (h.0.0.range, h.0.1)))
  accepts-write (short-stores r l) = (λ e. absurd (omega arith), λ h. absurd (l h.0.0.lengths))
  accepts-write (bad-number r l k) = (λ e. absurd (omega arith), λ h. absurd (k h.0.0.numbers))
  accepts-write (short-bytes p f) = (λ e. absurd (omega arith), λ h. absurd (omega arith))
  accepts-write (sheet-written p f) = (λ e. (p, f), λ h. refl)

  bytes-write : {w : WriteCall} → WriteCourse z count order rows relations bytes w → w.refusal ≡ 0
      → (w.length ≡ length (sheet_bytes z count order rows relations))
      × Rewritten w.length (sheet_bytes z count order rows relations) bytes w.byte_store
  unfolding unwritten
  bytes-write (wrong-range r) e = absurd (omega arith)
  bytes-write (short-stores r l) e = absurd (omega arith)
  bytes-write (bad-number r l k) e = absurd (omega arith)
  bytes-write (short-bytes p f) e = absurd (omega arith)
  bytes-write (sheet-written p f) e = (refl, overwrite-rewritten (sheet_bytes z count order rows relations) bytes refl f)

-- ---- the order argument

-- The order that is written for an argument of four numbers, with zeros up to four, is the argument.
given-padded : (m : ℕ) (order : List ℕ) → length order ≡ column_count → T (order_right_of m order)
    → pad_to column_count 0 (order_given order) ≡ order
unfolding order_right_of
given-padded m order four h =
    ap₂ (λ n l. pad_to n 0 l) (sym four) (sym (given-first order))
    ∙ pad-taken (length (order_given order)) order ((T-&& (different_columns_of m (order_given order)) _).0 h).1

-- ---- the calls as they are called

module _ {z : Sizes} {count : ℕ} {order : List ℕ} {rows relations : List ℤ} {bytes : List ℕ} {w : WriteCall}
    (call : SheetWasWritten z count order rows relations bytes w) where
  pub write-number : WriteNumber w.refusal
  write-number = written-number (write-course call)

  pub write-refused : w.refusal ≢ 0 → w ≡ unwritten w.refusal bytes
  write-refused = refused-write (write-course call)

  pub write-range : (w.refusal ≡ 2) ↔ (¬ WriteRange z count order)
  write-range = range-write (write-course call)

  pub write-short : (w.refusal ≡ 1) ↔ WriteShort z count order rows relations bytes
  write-short = short_write (write-course call)

  pub write-numbers : (w.refusal ≡ 5)
      ↔ (WriteRange z count order × LongEnough z rows relations × (¬ NumbersRight z count rows relations))
  write-numbers = numbers-write (write-course call)

  pub write-accepts : (w.refusal ≡ 0)
      ↔ (WriteReady z count order rows relations × (length (sheet_bytes z count order rows relations) ≤ length bytes))
  write-accepts = accepts-write (write-course call)

  module _ (e : w.refusal ≡ 0) where
    pub write_bytes : (w.length ≡ length (sheet_bytes z count order rows relations))
        × Rewritten w.length (sheet_bytes z count order rows relations) bytes w.byte_store
    write_bytes = bytes-write (write-course call) e

    ready : WriteReady z count order rows relations
    ready = (write-accepts.0 e).0

    right : SheetRight (sheet_of z count order rows relations)
    unfolding sheet_of
    right =
        record {
          valid = passed-valid ready.0;
          order-right = order-given z.m order ready.1;
        }

    pub written-sheet : IsSheetOf (sheet_of z count order rows relations) (take w.length w.byte_store)
    written-sheet = (right, sym write_bytes.1.needed)

    -- What was written is read back as what the stores held.
    pub read_back : {rows' relations' : List ℤ} {c : ReadCall} → SheetWasRead (take w.length w.byte_store) rows' relations' c
        → LongEnough z rows' relations' → ReadsBack z count order rows relations rows' relations' c
    unfolding sheet_of
    read_back {rows'} {relations'} {c} r long =
        let fine = (read-accepts r).1 (sheet_of z count order rows relations, written-sheet, long) in
        let h = read-sheet r (sheet_of z count order rows relations) written-sheet fine in
        record {
          accepted = fine;
          sizes = h.sizes;
          relation-count = h.relation-count ∙ length-relations_of count relations;
          column-order = h.column-order ∙ given-padded z.m order call.four ready.1;
          row-store = subst (λ l. Rewritten (row_need (equations z)) l rows' c.row_store) (row_store_of-rows_of (equations z) rows)
              h.row-store;
          relation-store = subst (λ l. Rewritten relation_need l relations' c.relation_store)
              (relation_store_of-relations_of count relations ready.0.range.1 ready.0.lengths.1
              ready.0.numbers.unused-zero)
              h.relation-store;
        }

-- What was read is written back as the bytes that were read.
module _ {bytes : List ℕ} {rows relations : List ℤ} {c : ReadCall} (r : SheetWasRead bytes rows relations c)
    (e : c.result.refusal ≡ 0) where
  written-bytes : (byte_store : List ℕ)
      → write_call c.result.sizes c.result.relations c.result.order c.row_store c.relation_store byte_store
      ≡ written bytes byte_store
  unfolding filled unread read_refusal
  written-bytes byte_store = go (read-course r) e
    where
      go : {c : ReadCall} → ReadCourse bytes rows relations c → c.result.refusal ≡ 0
          → write_call c.result.sizes c.result.relations c.result.order c.row_store c.relation_store byte_store
          ≡ written bytes byte_store
      go (no-sheet n h f) e = absurd (omega arith)
      go (no_room x h l) e = absurd (omega arith)
      go (sheet-read x h l) e = read-write-call bytes x [] rows relations (read_as h) byte_store

  pub write-back : {byte_store : List ℕ} {w : WriteCall}
      → SheetWasWritten c.result.sizes c.result.relations c.result.order c.row_store c.relation_store byte_store w
      → length bytes ≤ length byte_store
      → (w.refusal ≡ 0) × (w.length ≡ length bytes) × Rewritten (length bytes) bytes byte_store w.byte_store
  unfolding written
  write-back {byte_store} call fits =
      subst (λ w. (w.refusal ≡ 0) × (w.length ≡ length bytes) × Rewritten (length bytes) bytes byte_store w.byte_store)
      (sym
      (call.called ∙ written-bytes byte_store
      ∙ cond-passed (leb (length bytes) (length byte_store)) _ (unwritten 1 byte_store)
      (le→leb (length bytes) (length byte_store) fits)))
      (refl, refl, overwrite-rewritten bytes byte_store refl fits)

-- ---- one polynomial

place-iff : (z : Sizes) (row : ℕ) (block : ℤ) (column : ℕ)
    → T (sizes_right_of z && place_right_of z row block column) ↔ (SizeBounds z × PlaceInside z row block column)
place-iff z row block column = (
  λ h.
      let e = (T-&& (sizes_right_of z) _).0 h in
      let b = place-bounds z row block column e.1 in (
        size-bounds z e.0,
        record {
          row_inside = (b.row_low, b.row-high);
          block-low = b.block-low;
          block-high = b.block-high;
          column-inside = (b.column-low, b.column-high);
        },
      ),
  λ h.
      (T-&& (sizes_right_of z) _).1 (
        bounds-right z h.0,
        place-right z row block column h.1.row_inside h.1.block-low h.1.block-high h.1.column-inside,
      ),
)

-- The check of a place, by its two tests.
abbrev place_number : Bool → Bool → ℕ
place_number s l = cond s (cond l 0 1) 2

module _ {A B : Type 0} where
  place-number : (s l : Bool) → T s ↔ A → T l ↔ B
      → ((place_number s l ≡ 0) ↔ (A × B)) × ((place_number s l ≡ 1) ↔ (A × (¬ B))) × ((place_number s l ≡ 2) ↔ (¬ A))
  place-number true true a b = (
    (λ e. (a.0 tt, b.0 tt), λ h. refl),
    (λ e. absurd (omega arith), λ h. absurd (h.1 (b.0 tt))),
    (λ e. absurd (omega arith), λ h. absurd (h (a.0 tt))),
  )
  place-number true false a b = (
    (λ e. absurd (omega arith), λ h. absurd (b.1 h.1)),
    (λ e. (a.0 tt, b.1), λ h. refl),
    (λ e. absurd (omega arith), λ h. absurd (h (a.0 tt))),
  )
  place-number false l a b = (
    (λ e. absurd (omega arith), λ h. absurd (a.1 h.0)),
    (λ e. absurd (omega arith), λ h. absurd (a.1 h.0)),
    (λ e. a.1, λ h. refl),
  )

-- A block that is not above block l, in a row.
block-below : (bs : List Block) (d : ℤ) → pos 0 ≤ℤ d → block_from bs d ≡ get_or bs (nat_abs d) []
unfolding block_from
block-below bs (pos k) h = refl
block-below bs (negsuc k) h = absurd h.le

-- A block as a store holds it.
abbrev StoreBlock : Block → Type 0
StoreBlock b = (length b ≡ column_count) × All (λ p. length p ≡ coefficient_count) b

module _ (rows : List ℤ) (z : Sizes) (row : ℕ) (block : ℤ) (column : ℕ) where
  abbrev Fits : Type 0
  Fits = row_need (equations z) ≤ length rows

  abbrev Placed : Type 0
  Placed = SizeBounds z × PlaceInside z row block column

  place-checks : ((polynomial_check rows z row block column ≡ 0) ↔ (Placed × Fits))
      × ((polynomial_check rows z row block column ≡ 1) ↔ (Placed × (¬ Fits)))
      × ((polynomial_check rows z row block column ≡ 2) ↔ (¬ Placed))
  unfolding polynomial_check
  place-checks =
      place-number (sizes_right_of z && place_right_of z row block column) (leb (row_need (equations z)) (length rows))
      (place-iff z row block column)
      (leb→le _ _, le→leb _ _)

  pub place-zero : (polynomial_check rows z row block column ≡ 0) ↔ (Placed × Fits)
  place-zero = place-checks.0

  pub place-one : (polynomial_check rows z row block column ≡ 1) ↔ (Placed × (¬ Fits))
  place-one = place-checks.1

  pub place-two : (polynomial_check rows z row block column ≡ 2) ↔ (¬ Placed)
  place-two = place-checks.2

  pub part_none : polynomial_check rows z row block column ≢ 0 → polynomial_part rows z row block column ≡ []
  unfolding polynomial_part part_at
  part_none h = go (polynomial_check rows z row block column) h
    where
      go : (n : ℕ) → n ≢ 0 → part_at rows (polynomial_place z row block column) n ≡ []
      go zero h = absurd (h refl)
      go (suc n) h = refl

  module _ (e : polynomial_check rows z row block column ≡ 0) where
    inside : PlaceInside z row block column
    inside = (place-zero.0 e).0.1

    pub part-polynomial : polynomial_part rows z row block column
        ≡ polynomial_at_of z.l (get_or (rows_of (equations z) rows) (pred row) no_row) block (pred column)
    unfolding polynomial_at_of
    part-polynomial =
        polynomial_part-at rows z row block column e
        ∙ ap (λ b. get_or b (pred column) [])
        (sym (block-below (get_or (rows_of (equations z) rows) (pred row) no_row).blocks (z.l -ℤ block)
        (≤ℤ-difference.0 inside.block-high)))

    pub part-sixteen : length (polynomial_part rows z row block column) ≡ coefficient_count
    unfolding Shaped
    part-sixteen =
        let b = place-zero.0 e in
        ap length (polynomial_part-at rows z row block column e)
        ∙ sixteen b.0.0 (get_or (rows_of (equations z) rows) (pred row) no_row)
        (all_get_or StoreRow (rows_of (equations z) rows) no_row (pred row)
        (rw length-rows_of (omega (arith, inside.row_inside.0, inside.row_inside.1)))
        (StoreRow-rows_of (equations z) rows b.1))
      where
        below : IsColumn z column → pred column < z.m
        below h = omega arith

        sixteen : SizeBounds z → (r : Row) → StoreRow r
            → length (get_or (get_or r.blocks (nat_abs (z.l -ℤ block)) []) (pred column) []) ≡ coefficient_count
        sixteen b r shape =
            let at = all_get_or StoreBlock r.blocks [] (nat_abs (z.l -ℤ block))
            (subst (λ n. nat_abs (z.l -ℤ block) < n) (sym shape.0)
            (block-place z block b inside.block-low inside.block-high)) shape.1 in
            all_get_or (λ p. length p ≡ coefficient_count) (get_or r.blocks (nat_abs (z.l -ℤ block)) []) [] (pred column)
            (subst (λ n. pred column < n) (sym at.0) (le_trans (below inside.column-inside) b.few)) at.1
