-- The answer to one sheet, lifted to the call.
--
-- Main statements
--   answer-course                     every call takes one of the courses
--   answer-number, answer-refused     the numbers that there are, and what a refused call gives back and leaves
--   answer-fault, answer-during, answer-fits   where each number comes
--   answer-accepted                   the sheet that answers
use Rattle.std.specs.Prelude.{ℕ, suc, ◌≤◌, ◌↔◌, ◌≢◌, ◌⊎◌, Bool, true, false, cond, List, T, leb, length}
use native.Mathlib.Omega.{arith}
use Rattle.std.proofs.Math.Path.{◌≡◌, refl, sym, ap, subst}
use Rattle.std.proofs.Common.{◌∙◌, ap₂, ⊎_elim, leb→le, le→leb}
use Rattle.std.proofs.Math.Logic.{inl, inr}
use Rattle.rules.specs.Elimination.{leading, State, Outcome, done, refused, whole_run_of}
use Rattle.rules.specs.Stores.{span, with_equations_of}
use Rattle.rules.specs.Numbers.{Read, got, fault}
use Rattle.rules.specs.Sheets.{Sheet, read_sheet_of, write_sheet_of}
use Rattle.rules.specs.Batch.{most_bytes, sized, answer_run, answer_read, answer_sheet}
use Rattle.rules.specs.Batch as Batch
use Rattle.theory.specs.Demands.{Ended, seven, eight, nine, ten}
use Rattle.theory.proofs.Demands.{run_ends, output-valid, diagonal-nonzero}
use Rattle.theory.specs.Demands as Demands
use Rattle.sheets.specs.ReadBack.{SheetRight, read_right}
use Rattle.answers.specs.Answers.{AnswerCall, answer_call, answered, unanswered, sheet_after_of, order-after}
use Rattle.answers.specs.Faults.{Numbered, read, numbered, sheet-numbered}
use Rattle.claims.specs.RunWords.{FoundBefore, FoundDuring}
use Rattle.claims.specs.SheetWords.{IsSheetOf}
use Rattle.claims.specs.AnswerWords.{SheetWasAnswered, AnswerFits, sheet_run, SheetAccepted, AnswerHolds}
use Rattle.claims.specs.AnswerWords.{whole_answer}
use Rattle.claims.specs.AnswerWords.{AnswerCourse, sheet-fault, work-refused, answer-long, answer-written}
use Rattle.claims.specs.LiftedRuns.{overwrite-rewritten}
use Rattle.claims.specs.LiftedSheets.{no-fault, same-sheet}

-- The answer of a run, by its end.
run-done : (x : Sheet) (s : State) → answer_run x (done s) ≡ sized (write_sheet_of (sheet_after_of x s))
unfolding answer_run
run-done x s = refl

run-stopped : (x : Sheet) (n : ℕ) → answer_run x (refused n) ≡ Batch.refused_with n
unfolding answer_run
run-stopped x n = refl

sized-answer : (l store : List ℕ)
    → (AnswerFits l store × (answered (sized l) store ≡ whole_answer l store))
    ⊎ ((¬ AnswerFits l store) × (answered (sized l) store ≡ unanswered 1 store))
unfolding answered sized
sized-answer l store =
    go (leb (length l) most_bytes) (leb→le _ _, le→leb _ _)
  where
    room : (u : Bool) → (T u ↔ (length l ≤ length store)) → length l ≤ most_bytes
        → (AnswerFits l store × (cond u (whole_answer l store) (unanswered 1 store) ≡ whole_answer l store))
        ⊎ ((¬ AnswerFits l store) × (cond u (whole_answer l store) (unanswered 1 store) ≡ unanswered 1 store))
    room true g h = inl ((h, g.0 tt), refl)
    room false g h = inr (λ k. g.1 k.1, refl)

    go : (t : Bool) → (T t ↔ (length l ≤ most_bytes))
        → (AnswerFits l store × (answered (cond t (Batch.accepted l) (Batch.refused_with 1)) store ≡ whole_answer l store))
        ⊎ ((¬ AnswerFits l store) × (answered (cond t (Batch.accepted l) (Batch.refused_with 1)) store ≡ unanswered 1 store))
    go true f = room (leb (length l) (length store)) (leb→le _ _, le→leb _ _) (f.0 tt)
    go false f = inr (λ k. f.1 k.0, refl)

pub answer-course : {bytes store : List ℕ} {a : AnswerCall} → SheetWasAnswered bytes store a → AnswerCourse bytes store a
unfolding answer_call answer_sheet answer_read whole_run_of answered
answer-course {bytes} {store} call =
    subst (AnswerCourse bytes store) (sym call.called) (by_read (read_sheet_of bytes) refl (sheet-numbered bytes))
  where
    written : (x : Sheet) → IsSheetOf x bytes → (s : State) → SheetAccepted x s
        → AnswerCourse bytes store (answered (sized (write_sheet_of (sheet_after_of x s))) store)
    written x h s a =
        ⊎_elim (λ f. subst (AnswerCourse bytes store) (sym f.1) (answer-written x h s a f.0))
        (λ f. subst (AnswerCourse bytes store) (sym f.1) (answer-long x h s a f.0))
        (sized-answer (write_sheet_of (sheet_after_of x s)) store)

    stopped : (x : Sheet) → IsSheetOf x bytes → (n : ℕ) → FoundDuring n → sheet_run x ≡ refused n
        → AnswerCourse bytes store (answered (answer_run x (refused n)) store)
    stopped x h n f e = subst (λ a. AnswerCourse bytes store (answered a store)) (sym (run-stopped x n)) (work-refused x h n f e)

    by-run : (x : Sheet) → IsSheetOf x bytes → (o : Outcome) → sheet_run x ≡ o → Ended o
        → AnswerCourse bytes store (answered (answer_run x o) store)
    by-run x h o e (Demands.accepted s) =
        subst (λ a. AnswerCourse bytes store (answered a store)) (sym (run-done x s))
        (written x h s (record { valid = h.0.valid; accepts = e }))
    by-run x h o e seven = stopped x h 7 (omega arith, omega arith) e
    by-run x h o e eight = stopped x h 8 (omega arith, omega arith) e
    by-run x h o e nine = stopped x h 9 (omega arith, omega arith) e
    by-run x h o e ten = stopped x h 10 (omega arith, omega arith) e

    by_read : (r : Read Sheet) → read_sheet_of bytes ≡ r → Numbered r → AnswerCourse bytes store (answered (answer_read r) store)
    by_read r e (read x rest) =
        let h = read_right bytes x rest e in
        by-run x (h.0, h.1) (sheet_run x) refl (run_ends leading h.0.valid)
    by_read r e (numbered n low high) = sheet-fault (suc n) (omega arith, omega arith) e

-- ---- the call as it is called

after-right : (x : Sheet) (s : State) → SheetAccepted x s → SheetRight (sheet_after_of x s)
unfolding with_equations_of
after-right x s a =
    record { valid = output-valid a; order-right = order-after x.sizes.m (span x.sizes) s (diagonal-nonzero a) }

-- The run of a sheet ends in one way.
sheet-end : {x y : Sheet} {bytes : List ℕ} {o u : Outcome} → IsSheetOf x bytes → IsSheetOf y bytes → sheet_run x ≡ o
    → sheet_run y ≡ u → o ≡ u
sheet-end h k e f = sym e ∙ ap sheet_run (same-sheet h k) ∙ f

done_refused : {s : State} {n : ℕ} → ¬ (done s ≡ refused n)
done_refused {s} {n} e = let clash : ◌≡◌ {A = ℕ} 0 1 = cc in omega arith

same_answer : {x y : Sheet} {s u : State} {bytes : List ℕ} → IsSheetOf y bytes → IsSheetOf x bytes → SheetAccepted y u
    → SheetAccepted x s
    → write_sheet_of (sheet_after_of y u) ≡ write_sheet_of (sheet_after_of x s)
same_answer {x} {y} {s} {u} h k a b =
    ap₂ (λ v w. write_sheet_of (sheet_after_of v w)) (same-sheet h k) (same-state (sheet-end h k a.accepts b.accepts))
  where
    same-state : done u ≡ done s → u ≡ s
    same-state e = cc

module _ {bytes store : List ℕ} where
  number-course : {a : AnswerCall} → AnswerCourse bytes store a
      → (a.refusal ≡ 0) ⊎ (FoundBefore a.refusal ⊎ FoundDuring a.refusal)
  unfolding unanswered
  number-course (sheet-fault n h e) = inr (inl (omega arith, h.1))
  number-course (work-refused x h n f e) = inr (inr f)
  number-course (answer-long x h s a f) = inr (inl (omega arith, omega arith))
  number-course (answer-written x h s a f) = inl refl

  refused-course : {a : AnswerCall} → AnswerCourse bytes store a → a.refusal ≢ 0 → a ≡ unanswered a.refusal store
  unfolding unanswered
  refused-course (sheet-fault n h e) k = refl
  refused-course (work-refused x h n f e) k = refl
  refused-course (answer-long x h s a f) k = refl
  refused-course (answer-written x h s a f) k = absurd (k refl)

  fault-course : {a : AnswerCall} → AnswerCourse bytes store a → (n : ℕ) → 2 ≤ n → n ≤ 5
      → (a.refusal ≡ n) ↔ (read_sheet_of bytes ≡ fault n)
  unfolding unanswered
  fault-course (sheet-fault k h e) n low high = (λ f. e ∙ ap fault f, λ f. same (sym e ∙ f))
    where
      same : ◌≡◌ {A = Read Sheet} (fault k) (fault n) → k ≡ n
      same f = cc
  fault-course (work-refused x h k f e) n low high = (λ g. absurd (omega arith), λ g. absurd (no-fault h g))
  fault-course (answer-long x h s a f) n low high = (λ g. absurd (omega arith), λ g. absurd (no-fault h g))
  fault-course (answer-written x h s a f) n low high = (λ g. absurd (omega arith), λ g. absurd (no-fault h g))

  during-course : {a : AnswerCall} → AnswerCourse bytes store a → (n : ℕ) → FoundDuring n
      → (a.refusal ≡ n) ↔ ((x : Sheet) × IsSheetOf x bytes × (sheet_run x ≡ refused n))
  unfolding unanswered
  during-course (sheet-fault k h e) n f = (λ g. absurd (omega arith), λ g. absurd (no-fault g.1 e))
  during-course (work-refused x h k f e) n g = (λ i. (x, h, e ∙ ap refused i), λ i. same (sheet-end h i.1 e i.2))
    where
      same : refused k ≡ refused n → k ≡ n
      same i = cc
  during-course (answer-long x h s a f) n g =
      (λ i. absurd (omega arith), λ i. absurd (done_refused (sheet-end h i.1 a.accepts i.2)))
  during-course (answer-written x h s a f) n g =
      (λ i. absurd (omega arith), λ i. absurd (done_refused (sheet-end h i.1 a.accepts i.2)))

  accepted-course : {a : AnswerCall} → AnswerCourse bytes store a → a.refusal ≡ 0
      → (x : Sheet) × (s : State) × AnswerHolds bytes store a x s
  unfolding unanswered
  accepted-course (sheet-fault n h e) k = absurd (omega arith)
  accepted-course (work-refused x h n f e) k = absurd (omega arith)
  accepted-course (answer-long x h s a f) k = absurd (omega arith)
  accepted-course (answer-written x h s a f) k =
      let r = overwrite-rewritten (write_sheet_of (sheet_after_of x s)) store refl f.1 in (
        x,
        s,
        record { input-sheet = h; accepted = a; output-sheet = (after-right x s a, sym r.needed); within = f.0; output = r },
      )

  fits-course : {a : AnswerCall} → AnswerCourse bytes store a → {x : Sheet} {s : State} → IsSheetOf x bytes → SheetAccepted x s
      → ((a.refusal ≡ 0) ↔ AnswerFits (write_sheet_of (sheet_after_of x s)) store)
      × ((a.refusal ≡ 1) ↔ (¬ AnswerFits (write_sheet_of (sheet_after_of x s)) store))
  unfolding unanswered
  fits-course (sheet-fault n h e) k b = absurd (no-fault k e)
  fits-course (work-refused y h n f e) k b = absurd (done_refused (sheet-end k h b.accepts e))
  fits-course (answer-long y h u a f) {x} {s} k b =
      let g = subst (λ l. ¬ AnswerFits l store) (same_answer h k a b) f in
      ((λ i. absurd (omega arith), λ i. absurd (g i)), (λ i. g, λ i. refl))
  fits-course (answer-written y h u a f) {x} {s} k b =
      let g = subst (λ l. AnswerFits l store) (same_answer h k a b) f in
      ((λ i. g, λ i. refl), (λ i. absurd (omega arith), λ i. absurd (i g)))

module _ {bytes store : List ℕ} {a : AnswerCall} (call : SheetWasAnswered bytes store a) where
  pub answer-number : (a.refusal ≡ 0) ⊎ (FoundBefore a.refusal ⊎ FoundDuring a.refusal)
  answer-number = number-course (answer-course call)

  pub answer-refused : a.refusal ≢ 0 → a ≡ unanswered a.refusal store
  answer-refused = refused-course (answer-course call)

  pub answer-fault : (n : ℕ) → 2 ≤ n → n ≤ 5 → (a.refusal ≡ n) ↔ (read_sheet_of bytes ≡ fault n)
  answer-fault = fault-course (answer-course call)

  pub answer-during : (n : ℕ) → FoundDuring n → (a.refusal ≡ n) ↔ ((x : Sheet) × IsSheetOf x bytes × (sheet_run x ≡ refused n))
  answer-during = during-course (answer-course call)

  pub answer-fits : {x : Sheet} {s : State} → IsSheetOf x bytes → SheetAccepted x s
      → ((a.refusal ≡ 0) ↔ AnswerFits (write_sheet_of (sheet_after_of x s)) store)
      × ((a.refusal ≡ 1) ↔ (¬ AnswerFits (write_sheet_of (sheet_after_of x s)) store))
  answer-fits = fits-course (answer-course call)

  pub answer-accepted : a.refusal ≡ 0 → (x : Sheet) × (s : State) × AnswerHolds bytes store a x s
  answer-accepted = accepted-course (answer-course call)
