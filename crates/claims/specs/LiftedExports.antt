-- The facts about runs and sheets lifted to the exported calls, whose results are numbers of a lent store.
--
-- Main statements
--   export-course, export-read-course, export-write-course   every exported call takes one of the courses
--   export-number, export-refused, export-cleared, export-accepted, export-as-run, export-two, export-one, export-five
--       an exported run
--   export-read-number, export-read-refused, export-read-fault, export-read-short, export-read-accepts, export-read-accepted
--       an exported reading of a sheet
--   export-write-number, export-write-refused, export-write-two, export-write-one, export-write-five,
--   export-write-zero, export-write-accepted
--       an exported writing of a sheet
use Rattle.std.specs.Prelude.{ℕ, ◌≤◌, ◌<◌, ◌≡◌, ◌↔◌, ◌≢◌, ◌⊎◌, Bool, ◌&&◌, not, cond, ℤ, pos}
use native.Mathlib.Omega.{arith}
use Rattle.std.proofs.Math.Path.{refl, sym, ap, subst}
use Rattle.std.proofs.Common.{◌∙◌, le-leb, leb→le, le→leb, length-append, length-take-le}
use Rattle.std.proofs.Math.Logic.{inl, inr, ⊎_elim}
use Rattle.std.proofs.Math.Bool.{true, false}
use mathlib.Core.List.{List, [], ◌∷◌}
use Rattle.std.proofs.Math.Dec.{T, leb, nleb→lt}
use Rattle.std.proofs.Math.ListN.{length}
use Rattle.std.proofs.lemmas.List.{length-map}
use Rattle.lists.specs.Tests.{T-&&}
use Rattle.rules.specs.Limits.{column_count}
use Rattle.rules.specs.Elimination.{Side}
use Rattle.rules.specs.Stores.{Sizes, equations, row_need, relation_need, sizes_right_of, count_right, lengths_right_of, numbers_right_of}
use Rattle.rules.specs.Layout.{NumbersRight, lengths_right-iff, numbers_right-iff}
use Rattle.rules.specs.Calls.{Result, Call, call_run, refusal, zeros}
use Rattle.lists.specs.Overwritten.{overwrite}
use Rattle.export_results.specs.Results.{Exported, kept, run_need, read_need, on_acceptance-none, on_acceptance-some}
use Rattle.rules.specs.SheetCalls.{ReadResult, ReadCall, read_call, unread, WriteCall, write_call, unwritten, order_right_of}
use Rattle.exported_sheets.specs.Reads.{export_read, read_numbers_of, read_after, read_small}
use Rattle.exported_sheets.specs.Writes.{Written, export_write, order_of, order_store_right, check_ordered, after_ordered_check}
use Rattle.exported_sheets.specs.Writes.{not_written, wrote, no_negative_of}
use Rattle.rules.specs.Numbers.{fault}
use Rattle.rules.specs.Sheets.{Sheet, read_sheet_of}
use Rattle.exported_runs.specs.Runs.{export_run, check_run, after_run_check, ran, run_numbers_of, refused-numbers, run_small}
use Rattle.claims.specs.RunWords.{Ran, RunNumber, FoundBefore, FoundDuring, Rewritten, Cleared, InRange, LongEnough}
use Rattle.claims.specs.SheetWords.{WriteNumber, IsSheetOf, SheetWasRead}
use Rattle.claims.specs.ExportWords.{ExportedRun, ExportLong, ExportReadLong, ExportGives, ExportCourse, run-range-wrong}
use Rattle.claims.specs.ExportWords.{run-store-short, run-number-wrong, as-run, ExportedRead, ExportReadGives}
use Rattle.claims.specs.ExportWords.{ExportReadCourse, result-short, as_read, ExportedWrite, OrderRange, OrderLong}
use Rattle.claims.specs.ExportWords.{ExportWriteShort, ExportWriteGives, ExportWriteCourse, wrong-order-range}
use Rattle.claims.specs.ExportWords.{short-order-store, bad-order-number, as_written, ExportWriteReady}
use Rattle.claims.specs.LiftedRuns.{overwrite-rewritten, range-iff, Verdict, two, one, five, none_found, verdict}
use Rattle.claims.specs.LiftedRuns.{stores-cleared, fields-zero, number-of, begun, two-exactly, one-exactly, five-exactly}
use Rattle.claims.specs.LiftedSheets.{read_number, write-number, read-accepts, read-refused, read-fault, read_short}
use Rattle.claims.specs.LiftedSheets.{write-refused, write-range, write-short, write-numbers, write-accepts}

-- ---- runs

long-iff : (z : Sizes) (rows relations result : List ℤ)
    → T (lengths_right_of (equations z) rows relations && leb run_need (length result)) ↔ ExportLong z rows relations result
long-iff z rows relations result = (
  λ h. let e = (T-&& (lengths_right_of (equations z) rows relations) _).0 h in
      ((lengths_right-iff (equations z) rows relations).0 e.0, leb→le _ _ e.1),
  λ h. (T-&& (lengths_right_of (equations z) rows relations) _).1 ((lengths_right-iff (equations z) rows relations).1 h.0, le→leb _ _ h.1),
)

ten : (r : Result) → length r.order ≡ column_count → length (run_numbers_of r) ≡ run_need
unfolding run_numbers_of
ten r h = simp (length-append, length-map) (omega arith)

module _ {side : Side} {z : Sizes} {count : ℕ} {rows relations result : List ℤ} where
  pub export-course : {e : Exported} → ExportedRun side z count rows relations result e
      → ExportCourse side z count rows relations result e
  unfolding export_run check_run after_run_check
  export-course x =
      subst (ExportCourse side z count rows relations result) (sym x.called)
      (by
      (verdict (sizes_right_of z && count_right count) (lengths_right_of (equations z) rows relations && leb run_need (length result))
      (numbers_right_of z count rows relations) (range-iff z count) (long-iff z rows relations result)
      (numbers_right-iff z count rows relations)))
    where
      by : {n : ℕ} → Verdict (InRange z count) (ExportLong z rows relations result) (NumbersRight z count rows relations) n
          → ExportCourse side z count rows relations result (after_run_check side z count rows relations result n)
      by (two r) = run-range-wrong r
      by (one r l) = run-store-short r l
      by (five r l w) = run-number-wrong r l w
      by (none_found r l w) =
          as-run (record { range = r; lengths = l.0; numbers = w }) l.1 (call_run side z count rows relations)
          (record { called = refl })

  number-export : {e : Exported} → ExportCourse side z count rows relations result e → RunNumber e.refusal
  unfolding kept ran
  number-export (run-range-wrong r) = inr (inr (inl refl))
  number-export (run-store-short r l) = inr (inl refl)
  number-export (run-number-wrong r l w) = inr (inr (inr (inl refl)))
  number-export (as-run p l c r) = number-of r

  refused-export : {e : Exported} → ExportCourse side z count rows relations result e → FoundBefore e.refusal
      → (e.row_store ≡ rows) × (e.relation_store ≡ relations) × (e.result_store ≡ result)
  unfolding kept ran
  refused-export (run-range-wrong r) h = (refl, refl, refl)
  refused-export (run-store-short r l) h = (refl, refl, refl)
  refused-export (run-number-wrong r l w) h = (refl, refl, refl)
  refused-export (as-run p l c r) h = absurd (⊎_elim (λ e. omega arith) (λ e. omega arith) (begun r p))

  cleared-export : {e : Exported} → ExportCourse side z count rows relations result e → FoundDuring e.refusal
      → Cleared (row_need (equations z)) rows e.row_store × Cleared relation_need relations e.relation_store
      × Cleared run_need result e.result_store
  unfolding kept ran zeros
  cleared-export (run-range-wrong r) h = absurd (omega arith)
  cleared-export (run-store-short r l) h = absurd (omega arith)
  cleared-export (run-number-wrong r l w) h = absurd (omega arith)
  cleared-export (as-run p l c r) h = (
    (stores-cleared r h).0,
    (stores-cleared r h).1,
    subst (λ x. Rewritten run_need (zeros run_need) result (overwrite x result))
        (sym (ap run_numbers_of (fields-zero r (λ e. omega arith)) ∙ refused-numbers c.result.refusal))
        (overwrite-rewritten (zeros run_need) result refl l),
  )

  accepted-export : {e : Exported} → ExportCourse side z count rows relations result e → e.refusal ≡ 0
      → (c : Call) × ExportGives side z count rows relations result c e
  unfolding kept ran
  accepted-export (run-range-wrong r) h = absurd (omega arith)
  accepted-export (run-store-short r l) h = absurd (omega arith)
  accepted-export (run-number-wrong r l w) h = absurd (omega arith)
  accepted-export (as-run p l c r) h = (
    c,
    record {
      run = r;
      accepted = h;
      same_rows = refl;
      same-relations = refl;
      numbers = overwrite-rewritten (run_numbers_of c.result) result
          (ten c.result (run_small side z count rows relations r.called).four) l;
    },
  )

  two-export : {e : Exported} → ExportCourse side z count rows relations result e → (e.refusal ≡ 2) ↔ (¬ InRange z count)
  unfolding kept ran
  two-export (run-range-wrong r) = (λ e. r, λ h. refl)
  two-export (run-store-short r l) = (λ e. absurd (omega arith), λ h. absurd (h r))
  two-export (run-number-wrong r l w) = (λ e. absurd (omega arith), λ h. absurd (h r))
  two-export (as-run p l c r) =
      (λ e. absurd (⊎_elim (λ f. omega arith) (λ f. omega arith) (begun r p)), λ h. absurd (h p.range))

  one-export : {e : Exported} → ExportCourse side z count rows relations result e
      → (e.refusal ≡ 1) ↔ (InRange z count × (¬ ExportLong z rows relations result))
  unfolding kept ran
  one-export (run-range-wrong r) = (λ e. absurd (omega arith), λ h. absurd (r h.0))
  one-export (run-store-short r l) = (λ e. (r, l), λ h. refl)
  one-export (run-number-wrong r l w) = (λ e. absurd (omega arith), λ h. absurd (h.1 l))
  one-export (as-run p l c r) = (
    λ e. absurd (⊎_elim (λ f. omega arith) (λ f. omega arith) (begun r p)),
    λ h. absurd (h.1 (p.lengths, l)),
  )

  five-export : {e : Exported} → ExportCourse side z count rows relations result e
      → (e.refusal ≡ 5) ↔ (InRange z count × ExportLong z rows relations result × (¬ NumbersRight z count rows relations))
  unfolding kept ran
  five-export (run-range-wrong r) = (λ e. absurd (omega arith), λ h. absurd (r h.0))
  five-export (run-store-short r l) = (λ e. absurd (omega arith), λ h. absurd (l h.1))
  five-export (run-number-wrong r l w) = (λ e. (r, l, w), λ h. refl)
  five-export (as-run p l c r) = (
    λ e. absurd (⊎_elim (λ f. omega arith) (λ f. omega arith) (begun r p)),
    λ h. absurd (h.2 p.numbers),
  )

  same-export : {e : Exported} {c : Call} → ExportCourse side z count rows relations result e → Ran side z count rows relations c
      → (n : ℕ) → ¬ FoundBefore n → (e.refusal ≡ n) ↔ ((c.result.refusal ≡ n) × (run_need ≤ length result))
  unfolding kept ran
  same-export (run-range-wrong r) q n late = (
    λ e. absurd (late (omega arith, omega arith)),
    λ h. absurd (late (subst FoundBefore (sym ((two-exactly q).1 r) ∙ h.0) (omega arith, omega arith))),
  )
  same-export (run-store-short r l) q n late = (
    λ e. absurd (late (omega arith, omega arith)),
    λ h. absurd (late (subst FoundBefore (sym ((one-exactly q).1 (r, λ k. l (k, h.1))) ∙ h.0) (omega arith, omega arith))),
  )
  same-export (run-number-wrong r l w) q n late = (
    λ e. absurd (late (omega arith, omega arith)),
    λ h. absurd (late (subst FoundBefore (sym ((five-exactly q).1 (r, l.0, w)) ∙ h.0) (omega arith, omega arith))),
  )
  same-export (as-run p l c r) q n late =
      let same = ap (λ x. x.result.refusal) (q.called ∙ sym r.called) in
      (λ e. (same ∙ e, l), λ h. sym same ∙ h.0)

module _ {side : Side} {z : Sizes} {count : ℕ} {rows relations result : List ℤ} {e : Exported}
    (x : ExportedRun side z count rows relations result e) where
  pub export-number : RunNumber e.refusal
  export-number = number-export (export-course x)

  pub export-refused : FoundBefore e.refusal
      → (e.row_store ≡ rows) × (e.relation_store ≡ relations) × (e.result_store ≡ result)
  export-refused = refused-export (export-course x)

  pub export-cleared : FoundDuring e.refusal
      → Cleared (row_need (equations z)) rows e.row_store × Cleared relation_need relations e.relation_store
      × Cleared run_need result e.result_store
  export-cleared = cleared-export (export-course x)

  pub export-accepted : e.refusal ≡ 0 → (c : Call) × ExportGives side z count rows relations result c e
  export-accepted = accepted-export (export-course x)

  pub export-two : (e.refusal ≡ 2) ↔ (¬ InRange z count)
  export-two = two-export (export-course x)

  pub export-one : (e.refusal ≡ 1) ↔ (InRange z count × (¬ ExportLong z rows relations result))
  export-one = one-export (export-course x)

  pub export-five : (e.refusal ≡ 5)
      ↔ (InRange z count × ExportLong z rows relations result × (¬ NumbersRight z count rows relations))
  export-five = five-export (export-course x)

  pub export-as-run : {c : Call} → Ran side z count rows relations c → (n : ℕ) → ¬ FoundBefore n
      → (e.refusal ≡ n) ↔ ((c.result.refusal ≡ n) × (run_need ≤ length result))
  export-as-run = same-export (export-course x)

-- ---- reading a sheet

nine-read : (r : ReadResult) → length r.order ≡ column_count → length (read_numbers_of r) ≡ read_need
unfolding read_numbers_of
nine-read r h = simp (length-append, length-map) (omega arith)

-- Stores that hold nothing are too short for any sheet.
nothing-short : (z : Sizes) → ¬ LongEnough z [] []
nothing-short z h = omega arith

-- With such stores every sheet is refused.
never-read : {bytes : List ℕ} {c : ReadCall} → SheetWasRead bytes [] [] c → c.result.refusal ≢ 0
never-read r e = let (x, h, long) = (read-accepts r).0 e in nothing-short x.sizes long

module _ {bytes : List ℕ} {rows relations result : List ℤ} where
  pub export-read-course : {e : Exported} → ExportedRead bytes rows relations result e
      → ExportReadCourse bytes rows relations result e
  unfolding export_read
  export-read-course x =
      subst (ExportReadCourse bytes rows relations result) (sym x.called)
      (by (leb read_need (length result)) (leb→le read_need (length result)) (nleb→lt read_need (length result)))
    where
      by : (t : Bool) → (T t → read_need ≤ length result) → (T (not t) → length result < read_need)
          → ExportReadCourse bytes rows relations result
          (cond t (read_after (read_call bytes rows relations) result)
          (kept (read_call bytes [] []).result.refusal rows relations result))
      by true h k = as_read (h tt) (read_call bytes rows relations) (record { called = refl })
      by false h k = result-short (k tt) (read_call bytes [] []) (record { called = refl })

  number_read : {e : Exported} → ExportReadCourse bytes rows relations result e → (e.refusal ≡ 0) ⊎ FoundBefore e.refusal
  unfolding kept read_after
  number_read (result-short l c r) = read_number r
  number_read (as_read l c r) = read_number r

  refused-read : {e : Exported} → ExportReadCourse bytes rows relations result e → e.refusal ≢ 0
      → (e.row_store ≡ rows) × (e.relation_store ≡ relations) × (e.result_store ≡ result)
  unfolding kept read_after unread
  refused-read (result-short l c r) h = (refl, refl, refl)
  refused-read (as_read l c r) h = (
    ap (λ x. x.row_store) (read-refused r h),
    ap (λ x. x.relation_store) (read-refused r h),
    sym (on_acceptance-none c.result.refusal (read_numbers_of c.result) result h),
  )

  accepted-read : {e : Exported} → ExportReadCourse bytes rows relations result e → e.refusal ≡ 0
      → (c : ReadCall) × ExportReadGives bytes rows relations result c e
  unfolding kept read_after
  accepted-read (result-short l c r) h = absurd (never-read r h)
  accepted-read (as_read l c r) h = (
    c,
    record {
      read = r;
      accepted = h;
      same_rows = refl;
      same-relations = refl;
      numbers = subst (Rewritten read_need (read_numbers_of c.result) result)
          (on_acceptance-some c.result.refusal (read_numbers_of c.result) result h)
          (overwrite-rewritten (read_numbers_of c.result) result
          (nine-read c.result (read_small bytes rows relations r.called).four) l);
    },
  )

  fault-read : {e : Exported} → ExportReadCourse bytes rows relations result e → (n : ℕ) → 2 ≤ n
      → (e.refusal ≡ n) ↔ (read_sheet_of bytes ≡ fault n)
  unfolding kept read_after
  fault-read (result-short l c r) n h = read-fault r n h
  fault-read (as_read l c r) n h = read-fault r n h

  short-read : {e : Exported} → ExportReadCourse bytes rows relations result e
      → (e.refusal ≡ 1) ↔ ((x : Sheet) × IsSheetOf x bytes × (¬ ExportReadLong x.sizes rows relations result))
  unfolding kept read_after
  short-read (result-short l c r) = (
    λ e. let (x, h, short) = (read_short r).0 e in (x, h, λ k. omega (arith, k.1)),
    λ h. (read_short r).1 (h.0, h.1, nothing-short h.0.sizes),
  )
  short-read (as_read l c r) = (
    λ e. let (x, h, short) = (read_short r).0 e in (x, h, λ k. short k.0),
    λ h. (read_short r).1 (h.0, h.1, λ k. h.2 (k, l)),
  )

  accepts-read : {e : Exported} → ExportReadCourse bytes rows relations result e
      → (e.refusal ≡ 0) ↔ ((x : Sheet) × IsSheetOf x bytes × ExportReadLong x.sizes rows relations result)
  unfolding kept read_after
  accepts-read (result-short l c r) = (λ e. absurd (never-read r e), λ h. absurd (omega (arith, h.2.1)))
  accepts-read (as_read l c r) = (
    λ e. let (x, h, long) = (read-accepts r).0 e in (x, h, (long, l)),
    λ h. (read-accepts r).1 (h.0, h.1, h.2.0),
  )

module _ {bytes : List ℕ} {rows relations result : List ℤ} {e : Exported} (x : ExportedRead bytes rows relations result e) where
  pub export-read-number : (e.refusal ≡ 0) ⊎ FoundBefore e.refusal
  export-read-number = number_read (export-read-course x)

  pub export-read-refused : e.refusal ≢ 0 → (e.row_store ≡ rows) × (e.relation_store ≡ relations) × (e.result_store ≡ result)
  export-read-refused = refused-read (export-read-course x)

  pub export-read-accepted : e.refusal ≡ 0 → (c : ReadCall) × ExportReadGives bytes rows relations result c e
  export-read-accepted = accepted-read (export-read-course x)

  pub export-read-fault : (n : ℕ) → 2 ≤ n → (e.refusal ≡ n) ↔ (read_sheet_of bytes ≡ fault n)
  export-read-fault = fault-read (export-read-course x)

  pub export-read-short : (e.refusal ≡ 1) ↔ ((x : Sheet) × IsSheetOf x bytes × (¬ ExportReadLong x.sizes rows relations result))
  export-read-short = short-read (export-read-course x)

  pub export-read-accepts : (e.refusal ≡ 0) ↔ ((x : Sheet) × IsSheetOf x bytes × ExportReadLong x.sizes rows relations result)
  export-read-accepts = accepts-read (export-read-course x)

-- ---- writing a sheet

four-numbers : (order : List ℤ) → column_count ≤ length order → length (order_of order) ≡ column_count
unfolding order_of
four-numbers order h = rw length-map (length-take-le column_count order h)

-- The order that the library's writer gets is right.
order-right : (m : ℕ) (order : List ℤ) → column_count ≤ length order → T (order_store_right m order)
    → T (order_right_of m (order_of order))
unfolding order_store_right
order-right m order h t =
    ((T-&& (no_negative_of order) _).0
    (subst (λ b. T (cond b (no_negative_of order && order_right_of m (order_of order)) true)) (le-leb column_count (length order) h) t)).1

module _ {z : Sizes} {count : ℕ} {order rows relations : List ℤ} {bytes : List ℕ} {result : List ℤ} where
  pub export-write-course : {w : Written} → ExportedWrite z count order rows relations bytes result w
      → ExportWriteCourse z count order rows relations bytes result w
  unfolding export_write check_ordered after_ordered_check
  export-write-course x =
      subst (ExportWriteCourse z count order rows relations bytes result) (sym x.called)
      (by
      (verdict (sizes_right_of z && count_right count && order_store_right z.m order)
      (lengths_right_of (equations z) rows relations && leb column_count (length order) && leb 1 (length result))
      (numbers_right_of z count rows relations)
      range long (numbers_right-iff z count rows relations)))
    where
      range : T (sizes_right_of z && count_right count && order_store_right z.m order) ↔ OrderRange z count order
      range = (
        λ h. let e = (T-&& (sizes_right_of z && count_right count) _).0 h in ((range-iff z count).0 e.0, e.1),
        λ h. (T-&& (sizes_right_of z && count_right count) _).1 ((range-iff z count).1 h.0, h.1),
      )

      long : T (lengths_right_of (equations z) rows relations && leb column_count (length order) && leb 1 (length result))
          ↔ OrderLong z order rows relations result
      long = (
        λ h.
            let e = (T-&& (lengths_right_of (equations z) rows relations && leb column_count (length order)) _).0 h in
            let f = (T-&& (lengths_right_of (equations z) rows relations) _).0 e.0 in
            ((lengths_right-iff (equations z) rows relations).0 f.0, leb→le _ _ f.1, leb→le _ _ e.1),
        λ h.
            (T-&& (lengths_right_of (equations z) rows relations && leb column_count (length order)) _).1 (
              (T-&& (lengths_right_of (equations z) rows relations) _).1
                  ((lengths_right-iff (equations z) rows relations).1 h.0, le→leb _ _ h.1),
              le→leb _ _ h.2,
            ),
      )

      by : {n : ℕ} → Verdict (OrderRange z count order) (OrderLong z order rows relations result)
          (NumbersRight z count rows relations) n
          → ExportWriteCourse z count order rows relations bytes result
          (after_ordered_check z count order rows relations bytes result n)
      by (two r) = wrong-order-range r
      by (one r l) = short-order-store r l
      by (five r l k) = bad-order-number r l k
      by (none_found r l k) =
          as_written r l k (write_call z count (order_of order) rows relations bytes)
          (record { four = four-numbers order l.1; called = refl })

  number-write : {w : Written} → ExportWriteCourse z count order rows relations bytes result w → WriteNumber w.refusal
  unfolding not_written wrote
  number-write (wrong-order-range r) = inr (inr (inl refl))
  number-write (short-order-store r l) = inr (inl refl)
  number-write (bad-order-number r l k) = inr (inr (inr refl))
  number-write (as_written r l k w s) = write-number s

  two-write : {w : Written} → ExportWriteCourse z count order rows relations bytes result w
      → (w.refusal ≡ 2) ↔ (¬ OrderRange z count order)
  unfolding not_written wrote
  two-write (wrong-order-range r) = (λ e. r, λ h. refl)
  two-write (short-order-store r l) = (λ e. absurd (omega arith), λ h. absurd (h r))
  two-write (bad-order-number r l k) = (λ e. absurd (omega arith), λ h. absurd (h r))
  two-write (as_written r l k w s) =
      (λ e. absurd ((write-range s).0 e (r.0, order-right z.m order l.1 r.1)), λ h. absurd (h r))

  five-write : {w : Written} → ExportWriteCourse z count order rows relations bytes result w
      → (w.refusal ≡ 5) ↔ (OrderRange z count order × OrderLong z order rows relations result
      × (¬ NumbersRight z count rows relations))
  unfolding not_written wrote
  five-write (wrong-order-range r) = (λ e. absurd (omega arith), λ h. absurd (r h.0))
  five-write (short-order-store r l) = (λ e. absurd (omega arith), λ h. absurd (l h.1))
  five-write (bad-order-number r l k) = (λ e. (r, l, k), λ h. refl)
  five-write (as_written r l k w s) = (λ e. absurd (((write-numbers s).0 e).2 k), λ h. absurd (h.2 k))

  one-write : {w : Written} → ExportWriteCourse z count order rows relations bytes result w
      → (w.refusal ≡ 1) ↔ ExportWriteShort z count order rows relations bytes result
  unfolding not_written wrote
  one-write (wrong-order-range r) = (λ e. absurd (omega arith), λ h. absurd (none h))
    where
      none : ¬ ExportWriteShort z count order rows relations bytes result
      none (inl h) = r h.0
      none (inr h) = r h.0
  one-write (short-order-store r l) = (λ e. inl (r, l), λ h. refl)
  one-write (bad-order-number r l k) = (λ e. absurd (omega arith), λ h. absurd (none h))
    where
      none : ¬ ExportWriteShort z count order rows relations bytes result
      none (inl h) = h.1 l
      none (inr h) = k h.2
  one-write (as_written r l k w s) =
      (λ e. ⊎_elim (λ h. absurd (h.1 l.0)) (λ h. inr (r, l, k, h.1)) ((write-short s).0 e), back)
    where
      back : ExportWriteShort z count order rows relations bytes result → w.refusal ≡ 1
      back (inl h) = absurd (h.1 l)
      back (inr h) = (write-short s).1
          (inr ((record { range = r.0; lengths = l.0; numbers = k }, order-right z.m order l.1 r.1), h.3))

  zero-write : {w : Written} → ExportWriteCourse z count order rows relations bytes result w
      → (w.refusal ≡ 0) ↔ ExportWriteReady z count order rows relations bytes result
  unfolding not_written wrote
  zero-write (wrong-order-range r) = (λ e. absurd (omega arith), λ h. absurd (r h.0))
  zero-write (short-order-store r l) = (λ e. absurd (omega arith), λ h. absurd (l h.1))
  zero-write (bad-order-number r l k) = (λ e. absurd (omega arith), λ h. absurd (k h.2))
  zero-write (as_written r l k w s) = (
    λ e. (r, l, k, ((write-accepts s).0 e).1),
    λ h.
        (write-accepts s).1
        ((record { range = r.0; lengths = l.0; numbers = k }, order-right z.m order l.1 r.1), h.3),
  )

  refused-write : {w : Written} → ExportWriteCourse z count order rows relations bytes result w → w.refusal ≢ 0
      → (w.byte_store ≡ bytes) × (w.result_store ≡ result)
  unfolding not_written wrote unwritten
  refused-write (wrong-order-range r) h = (refl, refl)
  refused-write (short-order-store r l) h = (refl, refl)
  refused-write (bad-order-number r l k) h = (refl, refl)
  refused-write (as_written r l k w s) h =
      (ap (λ x. x.byte_store) (write-refused s h), sym (on_acceptance-none w.refusal (pos w.length ∷ []) result h))

  accepted-write : {w : Written} → ExportWriteCourse z count order rows relations bytes result w → w.refusal ≡ 0
      → (x : WriteCall) × ExportWriteGives z count order rows relations bytes result x w
  unfolding not_written wrote
  accepted-write (wrong-order-range r) h = absurd (omega arith)
  accepted-write (short-order-store r l) h = absurd (omega arith)
  accepted-write (bad-order-number r l k) h = absurd (omega arith)
  accepted-write (as_written r l k w s) h = (
    w,
    record {
      write = s;
      accepted = h;
      same_bytes = refl;
      number = subst (Rewritten 1 (pos w.length ∷ []) result) (on_acceptance-some w.refusal (pos w.length ∷ []) result h)
          (overwrite-rewritten (pos w.length ∷ []) result refl l.2);
    },
  )

module _ {z : Sizes} {count : ℕ} {order rows relations : List ℤ} {bytes : List ℕ} {result : List ℤ} {w : Written}
    (x : ExportedWrite z count order rows relations bytes result w) where
  pub export-write-number : WriteNumber w.refusal
  export-write-number = number-write (export-write-course x)

  pub export-write-refused : w.refusal ≢ 0 → (w.byte_store ≡ bytes) × (w.result_store ≡ result)
  export-write-refused = refused-write (export-write-course x)

  pub export-write-accepted : w.refusal ≡ 0 → (y : WriteCall) × ExportWriteGives z count order rows relations bytes result y w
  export-write-accepted = accepted-write (export-write-course x)

  pub export-write-two : (w.refusal ≡ 2) ↔ (¬ OrderRange z count order)
  export-write-two = two-write (export-write-course x)

  pub export-write-one : (w.refusal ≡ 1) ↔ ExportWriteShort z count order rows relations bytes result
  export-write-one = one-write (export-write-course x)

  pub export-write-zero : (w.refusal ≡ 0) ↔ ExportWriteReady z count order rows relations bytes result
  export-write-zero = zero-write (export-write-course x)

  pub export-write-five : (w.refusal ≡ 5)
      ↔ (OrderRange z count order × OrderLong z order rows relations result × (¬ NumbersRight z count rows relations))
  export-write-five = five-write (export-write-course x)
