-- `answers::worked_out` meets its contract: the sheet is read into the stores, run and written, or refused on the way, and the stores
-- are zero again: a refusal has left them so, and after an answer what the run has left is cleared.
-- Assumes nothing.
use Prim.Native.Nat.{ℕ, suc, ◌+◌, ◌*◌, ◌≤◌}
use native.Mathlib.Omega.{arith}
use mathlib.Core.Path.{◌≡◌, sym, ◌∙◌, ap, subst}
use mathlib.Core.Logic.{◌≢◌}
use mathlib.Core.List.{List, map}
use lib.IntN.{ℤ}
use lib.ListN.{length, take, drop}
use lib.Seq.{length-take-le}
use Rattle.rules.specs.Stores.{Sizes, equations, with_equations_of, span, relations_of, largest_rows, relation_need, check_stores_of}
use Rattle.rules.specs.Layout.{SizeBounds, size-bounds, stores-valid}
use Rattle.rules.specs.Numbers.{lines}
use Rattle.rules.specs.Sheets.{relation_line}
use Rattle.rules.specs.Calls.{zeros}
use Rattle.rules.specs.SheetCalls.{ReadCall, WriteCall, read_call, read_refusal}
use Rattle.stores.specs.Validity.{the_sizes_of}
use Rattle.reading.specs.Zeros.{length-zeros, zero-again}
use Rattle.reading.specs.WholeSheet.{result_of}
use Rattle.reading.specs.ReadCalls as ReadCalls
use Rattle.reading.specs.RelationLines.{RelationLines}
use Rattle.reading.specs.declared.own.OwnRead.{OwnRead}
use Rattle.refusals.specs.declared.Refusal.{Refusal}
use Rattle.refusals.specs.Refusals.{number-nonzero}
use Rattle.std.proofs.Common.{Result, Ok, Err, refl, ◌++◌}
use Rattle.std.proofs.lemmas.Result.{err_from_is_err_and}
use Rattle.runs.specs.Unreported.{UnreportedCall, unreported_call_of}
use Rattle.writing.specs.WriterChecks as WriterChecks
use Rattle.answers.specs.Answers.{AnswerCall, call_in, unanswered, check_in, write_in, call-unread, call-refused, call-written, call-checked-read}
use Rattle.answers.specs.Answers.{call-checked-run}
use Rattle.answers.specs.ClearedRecords.{ZeroBetween, blocks-fit, rows-between, relations-between}
use Rattle.answers.specs.CopiedLines.{given-ordered, given-text}
use Rattle.answers.specs.WorkStores.{Used, unread-same, read-rest, refused-zero, accepted-used}
use Rattle.rules.specs.Limits.{block_length, entries_length, row_length, relation_length}
use Rattle.answers.proofs.worked_out.Goals as goal
use Rattle.answers.proofs.worked_out.Goals.{After-clear_records-2, After-span, After-with_equations-kept, After-write_given-written, In_ok-own, In_ok-run, Start}

-- What was lent.
module _ (c : Start) where
  abbrev bytes : List ℕ
  bytes = c.args.bytes.now

  abbrev output : List ℕ
  output = c.args.output.now

  abbrev rows₀ : List ℤ
  rows₀ = c.args.rows.now

  abbrev relations₀ : List ℤ
  relations₀ = c.args.relations.now

  rows_long : largest_rows ≤ length rows₀
  rows_long = omega (arith, ap length c.requires.0, length-zeros largest_rows)

  relations-long : relation_need ≤ length relations₀
  relations-long = omega (arith, ap length c.requires.1, length-zeros relation_need)

-- The sheet has been read.
module _ (c : In_ok-own) where
  abbrev start : Start
  start = (goal.at.In_ok-own c).Start

  abbrev rows : List ℤ
  rows = c.read_own.new.rows

  abbrev relations : List ℤ
  relations = c.read_own.new.relations

  abbrev given : OwnRead
  given = c.in_ok-own.own

  abbrev read_by : ReadCall
  read_by = ReadCalls.call_of (Ok given.sheet) rows relations

  read-is : read_by ≡ read_call (bytes start) (rows₀ start) (relations₀ start)
  read-is = c.in_ok-own.ensures.relations_after

  fine : read_by.result.refusal ≡ 0
  unfolding ReadCalls.call_of result_of
  fine = refl

  checked : check_stores_of (the_sizes_of given.sheet.sizes) given.sheet.relations rows relations ≡ 0
  unfolding ReadCalls.call_of result_of
  checked =
      call-checked-read (bytes start) (output start) (rows₀ start) (relations₀ start) (rows_long start) (relations-long start) read_by
      read-is fine

  -- the number of equations
  abbrev n : ℕ
  n = given.sheet.sizes.equations

  rest : drop (n * row_length) rows ≡ drop (n * row_length) (zeros largest_rows)
  unfolding equations ReadCalls.call_of result_of the_sizes_of
  rest = read-rest (bytes start) (rows₀ start) (relations₀ start) read_by read-is ∙ ap (drop (n * row_length)) start.requires.0

  long : length relations ≡ relation_need
  long = c.read_own.auto.relations ∙ ap length start.requires.1 ∙ length-zeros relation_need

pub read_own-requires : goal.read_own-requires
read_own-requires c = c.requires

pub returns-in_err-own : goal.returns-in_err-own
unfolding unanswered ReadCalls.call_of result_of read_refusal
returns-in_err-own c =
    let s = (goal.at.returns-in_err-own c).Start in
    let r = c.in_err-own.field-0.0 in
    let read = ReadCalls.call_of (Err r) c.read_own.new.rows c.read_own.new.relations in
    let p = err_from_is_err_and c.from_residual.result c.from_residual.ensures.1 in
    record {
      output_after = rw (p.1, p.2)
          (call-unread (bytes s) (output s) (rows₀ s) (relations₀ s) (rows_long s) (relations-long s) read
          c.in_err-own.ensures.relations_after (number-nonzero r));
      rows_unchanged = unread-same (bytes s) (rows₀ s) (relations₀ s) read c.in_err-own.ensures.relations_after (number-nonzero r);
    }

pub leading_run-requires : goal.leading_run-requires
leading_run-requires c = checked (goal.at.leading_run-requires c).In_ok-own

pub returns-in_err-run : goal.returns-in_err-run
unfolding unanswered equations the_sizes_of ReadCalls.call_of result_of
returns-in_err-run c =
    let o = (goal.at.returns-in_err-run c).In_ok-own in
    let a = start o in
    let r = c.in_err-run.field-0.0 in
    let ran = unreported_call_of (Err r) c.leading_run.new.rows c.leading_run.new.relations in
    let both = refused-zero _ _ _ _ (checked o) (rest o) (long o) ran c.in_err-run.ensures (number-nonzero r) in
    let p = err_from_is_err_and c.from_residual-in_err-run.result c.from_residual-in_err-run.ensures.1 in
    record {
      output_after = rw (p.1, p.2)
          (call-refused (bytes a) (output a) (rows₀ a) (relations₀ a) (rows_long a) (relations-long a) (read_by o) (read-is o) (fine o)
          ran c.in_err-run.ensures (number-nonzero r));
      rows_unchanged = (both.0 ∙ sym a.requires.0, both.1 ∙ sym a.requires.1);
    }

-- The run on it has accepted.
module _ (c : In_ok-run) where
  abbrev own : In_ok-own
  own = (goal.at.In_ok-run c).In_ok-own

  abbrev s : Start
  s = start own

  abbrev ran_by : UnreportedCall
  ran_by = unreported_call_of (Ok c.in_ok-run.run') c.leading_run.new.rows c.leading_run.new.relations

  rows-after : length c.leading_run.new.rows ≡ largest_rows
  rows-after = c.leading_run.auto.rows ∙ own.read_own.auto.rows ∙ ap length s.requires.0 ∙ length-zeros largest_rows

  relations-after : length c.leading_run.new.relations ≡ relation_need
  relations-after = c.leading_run.auto.relations ∙ long own

  kept : Used (given own).sheet.relations (relations own) ran_by
  unfolding equations the_sizes_of
  kept = accepted-used _ _ _ _ (checked own) (rest own) (long own) ran_by c.in_ok-run.ensures refl

  lines-read : RelationLines (bytes s) (the_sizes_of (given own).sheet.sizes) (given own).sheet.relations (relations own)
      (given own).from (given own).to
  lines-read = own.in_ok-own.ensures.relation_lines

  bounds : SizeBounds (the_sizes_of (given own).sheet.sizes)
  bounds = size-bounds _ (stores-valid _ _ _ _ (checked own)).sizes

abbrev wrote_by : After-write_given-written → WriteCall
wrote_by c = WriterChecks.call_of c.write_given-written.result c.write_given-written.new.bytes

-- The lines of the relations that the sheet gives.
pub slice_bounds-write_given-count : goal.slice_bounds-write_given-count
slice_bounds-write_given-count c =
    let f = (goal.at.slice_bounds-write_given-count c).In_ok-run in
    omega (arith, given-ordered (lines-read f) (bounds f))

pub slice_bounds-write_given-start : goal.slice_bounds-write_given-start
slice_bounds-write_given-start c =
    let f = (goal.at.slice_bounds-write_given-start c).In_ok-run in
    omega (arith, given-ordered (lines-read f) (bounds f))

pub slice_bounds-write_given-end : goal.slice_bounds-write_given-end
slice_bounds-write_given-end c =
    let f = (goal.at.slice_bounds-write_given-end c).In_ok-run in
    (lines-read f).ends

pub slice_bounds-write_given-end-3 : goal.slice_bounds-write_given-end-3
slice_bounds-write_given-end-3 c =
    let lent = c.lent_bytes-lent in
    let d = (goal.at.slice_bounds-write_given-end-3 c).In_ok-run in
    sym (length-take-le lent.result (output (s d)) (omega (arith, lent.ensures)))

-- What the run leaves passes the checks of the writer.
module _ (c : After-with_equations-kept) where
  abbrev runs : In_ok-run
  runs = (goal.at.After-with_equations-kept c).In_ok-run

  abbrev sizes-kept : Sizes
  sizes-kept = the_sizes_of c.with_equations-kept.result

  rank-rows : equations sizes-kept ≡ runs.in_ok-run.run'.rank
  unfolding equations with_equations_of
  rank-rows = ap equations c.with_equations-kept.ensures

  checks : check_in sizes-kept (ran_by runs) ≡ 0
  unfolding ReadCalls.call_of result_of with_equations_of
  checks =
      let o = own runs in
      let a = s runs in
      ap (λ z. check_in z (ran_by runs)) c.with_equations-kept.ensures
      ∙ call-checked-run (bytes a) (output a) (rows₀ a) (relations₀ a) (rows_long a) (relations-long a) (read_by o)
      (read-is o) (fine o) (ran_by runs) runs.in_ok-run.ensures refl

pub write_given-written-requires : goal.write_given-written-requires
unfolding with_equations_of
write_given-written-requires c =
    let q = (goal.at.write_given-written-requires c).After-with_equations-kept in
    let f = runs q in
    record {
      relations_value = checks q;
      first_le_count = (
        (kept f).kept,
        given-text (lines-read f) (bounds f)
            ∙ ap (λ es. lines (map (relation_line (the_sizes_of (given (own f)).sheet.sizes).l) es)) (sym (kept f).same)
            ∙ ap (λ z. lines (map (relation_line z.l) (relations_of (given (own f)).sheet.relations (ran_by f).relation_store)))
            (sym q.with_equations-kept.ensures),
      );
    }

-- What the run has left is cleared.
module _ (c : After-write_given-written) where
  abbrev q : After-with_equations-kept
  q = (goal.at.After-write_given-written c).After-with_equations-kept

  abbrev d : In_ok-run
  d = runs q

  left : Used (given (own d)).sheet.relations (relations (own d)) (ran_by d)
  left = kept d

pub span-requires : goal.span-requires
span-requires c = (WriterChecks.checked _ _ _ _ _ (checks (q (goal.at.span-requires c).After-write_given-written))).sizes

-- The numbers of the blocks in use.
module _ (c : After-span) where
  abbrev wrote : After-write_given-written
  wrote = (goal.at.After-span c).After-write_given-written

  abbrev blocks : ℕ
  blocks = (c.span.result + 1) * block_length

  many : blocks ≡ suc (span (sizes-kept (q wrote))) * block_length
  many = omega (arith, c.span.ensures)

  fit : blocks ≤ entries_length
  fit = blocks-fit _ _ _ _ _ (checks (q wrote)) blocks many

  rows-zero : ZeroBetween row_length blocks (d wrote).in_ok-run.run'.rank (ran_by (d wrote)).row_store
  rows-zero =
      subst (λ n. ZeroBetween row_length blocks n (ran_by (d wrote)).row_store) (rank-rows (q wrote))
      (rows-between _ _ _ _ _ (checks (q wrote)) blocks many)

  relations-zero : ZeroBetween relation_length (1 + blocks) (d wrote).in_ok-run.run'.relations (ran_by (d wrote)).relation_store
  relations-zero = relations-between _ _ _ _ _ (checks (q wrote)) blocks many

pub overflow_add-blocks : goal.overflow_add-blocks
overflow_add-blocks c = omega (arith, fit c)

pub overflow_mul-blocks : goal.overflow_mul-blocks
overflow_mul-blocks c = omega (arith, fit c)

pub clear_records-requires : goal.clear_records-requires
unfolding equations the_sizes_of
clear_records-requires c =
    let p = (goal.at.clear_records-requires c).After-span in
    let w = wrote p in record {
      coefficient_count_bound = (omega (arith, fit p), omega arith, omega (arith, (left w).few-rows));
      size_in_bounds = (omega (arith, (left w).few-rows, rows-after (d w)), rows-zero p);
    }

pub overflow_add-blocks-2 : goal.overflow_add-blocks-2
overflow_add-blocks-2 c = omega (arith, fit (goal.at.overflow_add-blocks-2 c).After-span)

pub clear_records-requires-2 : goal.clear_records-requires-2
clear_records-requires-2 c =
    let p = (goal.at.clear_records-requires-2 c).After-span in
    let w = wrote p in record {
      coefficient_count_bound = (omega (arith, fit p), omega arith, (left w).few);
      size_in_bounds = (omega (arith, (left w).few, relations-after (d w)), relations-zero p);
    }

-- The stores are as they were lent.
module _ (c : After-clear_records-2) where
  abbrev w : After-write_given-written
  w = (goal.at.After-clear_records-2 c).After-write_given-written

  rows_back : c.clear_records.new.store ≡ rows₀ (s (d w))
  unfolding equations the_sizes_of
  rows_back =
      c.clear_records.ensures
      ∙ zero-again ((d w).in_ok-run.run'.rank * row_length) largest_rows _ (omega (arith, (left w).few-rows)) (left w).rows-rest
      ∙ sym (s (d w)).requires.0

  relations-back : c.clear_records-2.new.store ≡ relations₀ (s (d w))
  unfolding the_sizes_of
  relations-back =
      c.clear_records-2.ensures
      ∙ zero-again ((d w).in_ok-run.run'.relations * relation_length) relation_need _ (omega (arith, (left w).few))
      (left w).relations-rest
      ∙ sym (s (d w)).requires.1

pub shape_of-rows : goal.shape_of-rows
shape_of-rows c = ap length (rows_back (goal.at.shape_of-rows c).After-clear_records-2)

pub shape_of-relations : goal.shape_of-relations
shape_of-relations c = ap length (relations-back (goal.at.shape_of-relations c).After-clear_records-2)

-- What the writer answers is what the call answers.
told : (r : Result ℕ Refusal) (b more : List ℕ)
    → let w = WriterChecks.call_of r b in
    ◌≡◌ {A = AnswerCall} (call_in r (b ++ more)) (record { refusal = w.refusal; length = w.length; store = w.byte_store ++ more })
told (Ok n) b more = refl
told (Err e) b more = refl

pub returns : goal.returns
unfolding ReadCalls.call_of result_of the_sizes_of
returns c =
    let b = (goal.at.returns c).After-clear_records-2 in
    let lent = (w b).lent_bytes-lent in
    let equal = (w b).with_equations-kept.ensures in
    let g = d (w b) in
    let o = own g in
    let a = s g in record {
      output_after = told (w b).write_given-written.result (w b).write_given-written.new.bytes (drop lent.result (output a))
          ∙ call-written (bytes a) (output a) (rows₀ a) (relations₀ a) (rows_long a) (relations-long a) (read_by o)
          (read-is o) (fine o) (ran_by g) g.in_ok-run.ensures refl lent.result
          lent.ensures
          (wrote_by (w b))
          ((w b).write_given-written.ensures
          ∙ ap (λ z. write_in z (ran_by g) (take lent.result (output a))) equal);
      rows_unchanged = (rows_back b, relations-back b);
    }
