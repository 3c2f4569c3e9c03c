-- The theorems on differential sheets, brought to the calls that read one and that write its recurrence.
--
-- Main statements
--   differential-numbered   a differential sheet that is not read has a number from 2 to 5
--   read-course, write-course   all that the two calls do
--   read_number, read-refused, read-accepts, read-holds, read-solutions, read-passes   of a call that reads
--   write-number, write-refused, written-reads   of a call that writes
use Rattle.std.specs.Prelude.{ℕ, zero, suc, ◌≤◌, ◌<◌, ◌≡◌, ◌↔◌, ◌≢◌, ◌⊎◌, Bool, not, cond, ◌&&◌, List, [], ◌∷◌, leb, ℤ, pos, nat_abs}
use Rattle.std.proofs.Math.Path.{refl, subst}
use Rattle.std.proofs.Common.{sym, ◌∙◌, ap, leb→le}
use Rattle.std.proofs.Math.Logic.{inl, inr}
use Rattle.std.proofs.Math.Bool.{true, false}
use native.Mathlib.Omega.{arith}
use Rattle.std.proofs.Math.Dec.{T, nleb→lt}
use Rattle.std.proofs.Math.ListN.{length}
use Rattle.std.specs.Int.Signed.{le_z}
use Rattle.algebra.specs.Polynomials.{is_zero_ℤ}
use Rattle.rules.specs.Limits.{column_count, most_equations}
use Rattle.rules.specs.Numbers.{Read, got, fault, then_read, newline}
use Rattle.rules.specs.Sheets.{read_sheet_of, write_sheet_of, parting}
use Rattle.rules.specs.Stores.{equations, lengths_right_of, rows_of, relations_of, check_stores_of, Valid}
use Rattle.rules.specs.Sequences.{Sequence, Satisfies}
use Rattle.lists.specs.Overwritten.{overwrite}
use Rattle.rules.specs.SheetCalls.{ReadCall, WriteCall, read_refusal, unread, filled, unwritten, written, after_read}
use Rattle.rules.specs.Layout.{lengths_right-iff, valid-stores}
use Rattle.tokens.specs.Exact.{got-inj, fault-got}
use Rattle.sheets.specs.ReadBack.{SheetRight}
use Rattle.answers.specs.Faults.{Numbered, read, numbered, Judging, fine, one_of, two, three, five, then-numbered, field-numbered}
use Rattle.answers.specs.Faults.{between-judging}
use Rattle.differential.specs.Differential.{DifferentialTerm, DifferentialSheet, most_derivative, most_power, factor_bound}
use Rattle.differential.specs.Recurrence.{recurrence_of}
use Rattle.differential.specs.Grammar.{Extent, read_differential_of, read_extent, judge_ordered_of, judge_factor_of, read_term, read_terms}
use Rattle.differential.specs.Grammar.{read_equation, read_equations, read_end, sheet_of, no_term_of, most_of, first_power_of, first_column_of}
use Rattle.differential.specs.Meaning.{Series, SatisfiesDifferential}
use Rattle.differential.specs.Accepted.{no-order, accepted-valid, accepted-solutions, accepted-read-back}
use Rattle.differential.specs.Calls.{read_recurrence, read_differential_call, write_read_of, write_recurrence_call}
use Rattle.claims.specs.RunWords.{FoundBefore, LongEnough}
use Rattle.claims.specs.SheetWords.{HoldsSheet, whole_sheet}
use Rattle.claims.specs.LiftedSheets.{filled-holds}
use Rattle.claims.specs.DifferentialWords.{DifferentialWasRead, RecurrenceWasWritten, IsDifferential, DifferentialCourse}
use Rattle.claims.specs.DifferentialWords.{RecurrenceCourse}
use Rattle.claims.specs.DifferentialWords.{no-differential, no_store, recurrence-read, nothing-to-write, no_bytes, recurrence-written}

-- ---- the numbers of the faults

ordered-judging : (low high first last : ℕ) → Judging (judge_ordered_of low high first last)
unfolding judge_ordered_of
ordered-judging low high first last v =
    one_of (le_z (pos low) v && le_z v (pos high)) (one_of (le_z (pos first) v && le_z v (pos last)) fine three) two

factor-judging : Judging judge_factor_of
unfolding judge_factor_of
factor-judging a = one_of (leb (nat_abs a) factor_bound) (one_of (is_zero_ℤ a) three fine) five

extent-numbered : (bytes : List ℕ) → Numbered (read_extent bytes)
unfolding read_extent
extent-numbered bytes =
    then-numbered _ _ (field-numbered _ _ (between-judging (pos 3) (pos 3)) bytes) λ _ bytes₁.
    then-numbered _ _ (field-numbered _ _ (between-judging (pos 1) (pos column_count)) bytes₁) λ _ bytes₂.
    then-numbered _ _ (field-numbered _ _ (between-judging (pos 0) (pos most_derivative)) bytes₂) λ _ bytes₃.
    then-numbered _ _ (field-numbered _ _ (between-judging (pos 0) (pos most_power)) bytes₃) λ _ bytes₄.
    then-numbered _ _ (field-numbered _ _ (between-judging (pos 0) (pos most_equations)) bytes₄) λ _ bytes₅. read _ _

term-numbered : (x : Extent) (before : DifferentialTerm) (last : ℕ) (bytes : List ℕ) → Numbered (read_term x before last bytes)
unfolding read_term
term-numbered x before last bytes =
    then-numbered _ _ (field-numbered _ _ (ordered-judging 0 x.order 0 before.derivative) bytes) λ k bytes₁.
    then-numbered _ _ (field-numbered _ _ (ordered-judging 0 x.degree (first_power_of before (nat_abs k)) x.degree) bytes₁) λ j bytes₂.
    then-numbered _ _
    (field-numbered _ _ (ordered-judging 1 x.unknowns (first_column_of before (nat_abs k) (nat_abs j)) x.unknowns) bytes₂) λ c bytes₃.
    then-numbered _ _ (field-numbered _ _ factor-judging bytes₃) λ a bytes₄. read _ _

terms-numbered : (x : Extent) (k : ℕ) (before : DifferentialTerm) (bytes : List ℕ) → Numbered (read_terms x k before bytes)
unfolding read_terms
terms-numbered x zero before bytes = read _ _
terms-numbered x (suc k) before bytes =
    then-numbered _ _ (term-numbered x before (parting newline k) bytes) λ e rest.
    then-numbered _ _ (terms-numbered x k e rest) λ l more. read _ _

equation-numbered : (x : Extent) (bytes : List ℕ) → Numbered (read_equation x bytes)
unfolding read_equation
equation-numbered x bytes =
    then-numbered _ _ (field-numbered _ _ (between-judging (pos 0) (pos (most_of x))) bytes) λ k rest.
    terms-numbered x (nat_abs k) (no_term_of x) rest

equations-numbered : (x : Extent) (k : ℕ) (bytes : List ℕ) → Numbered (read_equations x k bytes)
unfolding read_equations
equations-numbered x zero bytes = read _ _
equations-numbered x (suc k) bytes =
    then-numbered _ _ (equation-numbered x bytes) λ e rest.
    then-numbered _ _ (equations-numbered x k rest) λ l more. read _ _

end-numbered : (d : DifferentialSheet) (bytes : List ℕ) → Numbered (read_end d bytes)
unfolding read_end
end-numbered d [] = read d []
end-numbered d (b ∷ bytes) = numbered 3 (omega arith) (omega arith)

pub differential-numbered : (bytes : List ℕ) → Numbered (read_differential_of bytes)
unfolding read_differential_of
differential-numbered bytes =
    then-numbered _ _ (extent-numbered bytes) λ x bytes₁.
    then-numbered _ _ (equations-numbered x x.equations bytes₁) λ es bytes₂. end-numbered (sheet_of x es) bytes₂

-- ---- a differential sheet that is read leaves no byte

-- What is read leaves no byte behind it.
record Whole {A : Type 0} (r : Read A) : Type 0 where
  pub none_left : (a : A) (rest : List ℕ) → r ≡ got a rest → rest ≡ []

then-whole : {A B : Type 0} (r : Read A) (next : A → List ℕ → Read B) → ((a : A) (bytes : List ℕ) → Whole (next a bytes))
    → Whole (then_read r next)
unfolding then_read
then-whole (got a bytes) next h = h a bytes
then-whole (fault n) next h = record { none_left = λ b rest e. absurd (fault-got n b rest e) }

end_whole : (x : DifferentialSheet) (bytes : List ℕ) → Whole (read_end x bytes)
unfolding read_end
end_whole x [] = record { none_left = λ d rest e. sym (got-inj x d [] rest e).1 }
end_whole x (b ∷ bytes) = record { none_left = λ d rest e. absurd (fault-got 4 d rest e) }

read_whole : (bytes : List ℕ) → Whole (read_differential_of bytes)
unfolding read_differential_of
read_whole bytes =
    then-whole (read_extent bytes) _ λ x bytes₁.
    then-whole (read_equations x x.equations bytes₁) _ λ es bytes₂. end_whole (sheet_of x es) bytes₂

-- ---- reading

same-differential : (bytes : List ℕ) {d e : DifferentialSheet} → IsDifferential d bytes → IsDifferential e bytes → d ≡ e
same-differential bytes {d} {e} h k = (got-inj d e [] [] (sym h ∙ k)).0

no-fault : (bytes : List ℕ) {d : DifferentialSheet} {n : ℕ} → IsDifferential d bytes → ¬ (read_differential_of bytes ≡ fault n)
no-fault bytes {d} {n} h e = fault-got n d [] (sym e ∙ h)

module _ {bytes : List ℕ} {rows relations : List ℤ} where
  pub read-course : {c : ReadCall} → DifferentialWasRead bytes rows relations c → DifferentialCourse bytes rows relations c
  unfolding read_differential_call read_recurrence after_read then_read
  read-course r =
      subst (DifferentialCourse bytes rows relations) (sym r.called) (by (read_differential_of bytes) refl (differential-numbered bytes))
    where
      long : (d : DifferentialSheet) → IsDifferential d bytes → (t : Bool) → T t ↔ LongEnough (recurrence_of d).sizes rows relations
          → DifferentialCourse bytes rows relations (cond t (filled (recurrence_of d) rows relations) (unread 1 rows relations))
      long d h true e = recurrence-read d h (e.0 tt)
      long d h false e = no_store d h e.1

      by : (r : Read DifferentialSheet) → read_differential_of bytes ≡ r → Numbered r
          → DifferentialCourse bytes rows relations (after_read (then_read r (λ d rest. got (recurrence_of d) rest)) rows relations)
      by r e (read d rest) =
          let n = equations (recurrence_of d).sizes in
          long d (e ∙ ap (got d) ((read_whole bytes).none_left d rest e)) (lengths_right_of n rows relations) (lengths_right-iff n rows relations)
      by r e (numbered n low high) = no-differential (suc n) (omega arith, omega arith) e

  number-course : {c : ReadCall} → DifferentialCourse bytes rows relations c → (c.result.refusal ≡ 0) ⊎ FoundBefore c.result.refusal
  unfolding unread read_refusal filled
  number-course (no-differential n h e) = inr (omega arith, h.1)
  number-course (no_store d h l) = inr (omega arith, omega arith)
  number-course (recurrence-read d h l) = inl refl

  refused-course : {c : ReadCall} → DifferentialCourse bytes rows relations c → c.result.refusal ≢ 0
      → c ≡ unread c.result.refusal rows relations
  unfolding unread read_refusal filled
  refused-course (no-differential n h e) k = refl
  refused-course (no_store d h l) k = refl
  refused-course (recurrence-read d h l) k = absurd (k refl)

  accepts-course : {c : ReadCall} → DifferentialCourse bytes rows relations c
      → (c.result.refusal ≡ 0) ↔ ((d : DifferentialSheet) × IsDifferential d bytes × LongEnough (recurrence_of d).sizes rows relations)
  unfolding unread read_refusal filled
  accepts-course (no-differential n h e) = (λ f. absurd (omega arith), λ f. absurd (no-fault bytes f.1 e))
  accepts-course (no_store d h l) = (
    λ f. absurd (omega arith),
    λ f. absurd (l (subst (λ y. LongEnough (recurrence_of y).sizes rows relations) (same-differential bytes f.1 h) f.2)),
  )
  accepts-course (recurrence-read d h l) = (λ f. (d, h, l), λ f. refl)

  filled-course : {c : ReadCall} → DifferentialCourse bytes rows relations c → (d : DifferentialSheet) → IsDifferential d bytes
      → c.result.refusal ≡ 0 → (c ≡ filled (recurrence_of d) rows relations) × LongEnough (recurrence_of d).sizes rows relations
  unfolding unread read_refusal
  filled-course (no-differential n h e) d k f = absurd (omega arith)
  filled-course (no_store y h l) d k f = absurd (omega arith)
  filled-course (recurrence-read y h l) d k f =
      let same = same-differential bytes h k in
      (ap (λ u. filled (recurrence_of u) rows relations) same, subst (λ u. LongEnough (recurrence_of u).sizes rows relations) same l)

module _ {bytes : List ℕ} {rows relations : List ℤ} {c : ReadCall} (r : DifferentialWasRead bytes rows relations c) where
  pub read_number : (c.result.refusal ≡ 0) ⊎ FoundBefore c.result.refusal
  read_number = number-course (read-course r)

  pub read-refused : c.result.refusal ≢ 0 → c ≡ unread c.result.refusal rows relations
  read-refused = refused-course (read-course r)

  pub read-accepts : (c.result.refusal ≡ 0)
      ↔ ((d : DifferentialSheet) × IsDifferential d bytes × LongEnough (recurrence_of d).sizes rows relations)
  read-accepts = accepts-course (read-course r)

  module _ (d : DifferentialSheet) (is : IsDifferential d bytes) (accepted : c.result.refusal ≡ 0) where
    abbrev whole : (c ≡ filled (recurrence_of d) rows relations) × LongEnough (recurrence_of d).sizes rows relations
    whole = filled-course (read-course r) d is accepted

    valid : Valid (recurrence_of d).sizes (recurrence_of d).rows (recurrence_of d).relations
    valid = accepted-valid bytes d [] is

    -- The stores hold the recurrence.
    pub read-holds : HoldsSheet (recurrence_of d) rows relations c
    read-holds =
        let right : SheetRight (recurrence_of d) = record { valid = valid; order-right = no-order d } in
        subst (HoldsSheet (recurrence_of d) rows relations) (sym whole.0) (filled-holds (recurrence_of d) (right, refl) whole.1)

    pub read-solutions : (y : Sequence) → Series y
        → SatisfiesDifferential d y
        ↔ Satisfies c.result.sizes.l (rows_of (equations c.result.sizes) c.row_store)
        (relations_of c.result.relations c.relation_store) y
    read-solutions y s =
        let h = read-holds in
        let meaning = accepted-solutions bytes d [] is y s in
        subst (λ z. SatisfiesDifferential d y ↔ Satisfies z.l (rows_of (equations z) c.row_store)
        (relations_of c.result.relations c.relation_store) y) (sym h.sizes)
        (subst (λ rs. SatisfiesDifferential d y ↔ Satisfies (recurrence_of d).sizes.l rs
        (relations_of c.result.relations c.relation_store) y) (sym h.rows-held)
        (subst (λ es. SatisfiesDifferential d y ↔ Satisfies (recurrence_of d).sizes.l (recurrence_of d).rows es y)
        (sym h.relations-held) meaning))

    -- No check of a run or of the writer refuses what was read.
    pub read-passes : check_stores_of c.result.sizes c.result.relations c.row_store c.relation_store ≡ 0
    unfolding filled overwrite
    read-passes =
        subst (λ (x : ReadCall). check_stores_of x.result.sizes x.result.relations x.row_store x.relation_store ≡ 0)
        (sym whole.0)
        (valid-stores (recurrence_of d).sizes (recurrence_of d).rows (recurrence_of d).relations _ _ valid)

-- ---- writing

module _ {sheet bytes : List ℕ} where
  pub write-course : {w : WriteCall} → RecurrenceWasWritten sheet bytes w → RecurrenceCourse sheet bytes w
  unfolding write_recurrence_call read_recurrence write_read_of written then_read
  write-course r =
      subst (RecurrenceCourse sheet bytes) (sym r.called) (by (read_differential_of sheet) refl (differential-numbered sheet))
    where
      room : (d : DifferentialSheet) → IsDifferential d sheet → (t : Bool)
          → (T t → length (write_sheet_of (recurrence_of d)) ≤ length bytes) → (T (not t) → length bytes < length (write_sheet_of (recurrence_of d)))
          → RecurrenceCourse sheet bytes (cond t (whole_sheet (write_sheet_of (recurrence_of d)) bytes) (unwritten 1 bytes))
      room d h true fits short = recurrence-written d h (fits tt)
      room d h false fits short = no_bytes d h (short tt)

      by : (r : Read DifferentialSheet) → read_differential_of sheet ≡ r → Numbered r
          → RecurrenceCourse sheet bytes (write_read_of (then_read r (λ d rest. got (recurrence_of d) rest)) bytes)
      by r e (read d rest) =
          room d (e ∙ ap (got d) ((read_whole sheet).none_left d rest e)) (leb (length (write_sheet_of (recurrence_of d))) (length bytes))
          (leb→le _ _) (nleb→lt _ _)
      by r e (numbered n low high) = nothing-to-write (suc n) (omega arith, omega arith) e

  write-number-course : {w : WriteCall} → RecurrenceCourse sheet bytes w → (w.refusal ≡ 0) ⊎ FoundBefore w.refusal
  unfolding unwritten
  write-number-course (nothing-to-write n h e) = inr (omega arith, h.1)
  write-number-course (no_bytes d h l) = inr (omega arith, omega arith)
  write-number-course (recurrence-written d h l) = inl refl

  write-refused-course : {w : WriteCall} → RecurrenceCourse sheet bytes w → w.refusal ≢ 0 → w ≡ unwritten w.refusal bytes
  unfolding unwritten
  write-refused-course (nothing-to-write n h e) k = refl
  write-refused-course (no_bytes d h l) k = refl
  write-refused-course (recurrence-written d h l) k = absurd (k refl)

module _ {sheet bytes : List ℕ} {w : WriteCall} (r : RecurrenceWasWritten sheet bytes w) where
  pub write-number : (w.refusal ≡ 0) ⊎ FoundBefore w.refusal
  write-number = write-number-course (write-course r)

  pub write-refused : w.refusal ≢ 0 → w ≡ unwritten w.refusal bytes
  write-refused = write-refused-course (write-course r)

  -- What is written is a sheet without a fault, and is read as the recurrence.
  pub written-reads : (d : DifferentialSheet) → IsDifferential d sheet → read_sheet_of (write_sheet_of (recurrence_of d)) ≡ got (recurrence_of d) []
  written-reads d is = accepted-read-back sheet d [] is
