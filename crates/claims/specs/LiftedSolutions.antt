-- The facts about polynomial solutions lifted to the exported call.
--
-- Main statements
--   solve-course     every call takes one of the courses
--   solve-before     a refusal of the checks leaves all stores as they were
--   solve-during     a later refusal leaves them zero
--   solve-answer     a call without a refusal has found that there is no N, or has left N and the list
--   solve-two, solve-one, solve-five   where these numbers come
use Rattle.std.specs.Prelude.{ℕ, ◌≤◌, ◌≡◌, ◌↔◌, ◌≢◌, ◌⊎◌, Bool, ◌&&◌, cond, ℤ, length}
use Rattle.std.proofs.Common.{arith, sym, ◌∙◌, ap, ⊎_elim, leb→le, le→leb}
use Rattle.std.proofs.Math.Path.{refl, subst}
use Rattle.std.proofs.Math.Logic.{inl, inr}
use Rattle.std.proofs.Math.Bool.{true, false}
use mathlib.Core.List.{List, [], ◌∷◌, map, flatten}
use Rattle.std.proofs.Math.Dec.{T, leb}
use Rattle.std.proofs.Math.IntN.{pos}
use Rattle.std.proofs.lemmas.List.{length-replicate}
use Rattle.lists.specs.Overwritten.{overwrite}
use Rattle.lists.specs.Padded.{pad_to, length-pad_to}
use Rattle.lists.specs.Tests.{T-&&, cond-passed}
use Rattle.rules.specs.Calls.{zeros}
use Rattle.rules.specs.Stores.{Sizes, Valid, equations, rows_of, relations_of, row_need, relation_need, sizes_right_of, count_right}
use Rattle.rules.specs.Stores.{lengths_right_of, numbers_right_of}
use Rattle.rules.specs.Layout.{NumbersRight, lengths_right-iff, numbers_right-iff}
use Rattle.solutions.specs.SolutionAnswers.{Answer, refused_with, none_listed, listed, homogeneous, answer}
use Rattle.solutions.specs.SolutionCalls.{Work, all_lengths, check_call, unlisted, result_of, list_in, work_after}
use Rattle.constant_rows.specs.ListLengths.{list_columns, list_need, matrix_need}
use Rattle.back_substitution.specs.Listed.{list_store_of}
use Rattle.solutions.specs.AnswerNumbers.{Number, answer-number}
use Rattle.solutions.specs.CallPromises.{answered, call-checked}
use Rattle.solutions.specs.ListPromises as Promises
use Rattle.exported_solutions.specs.SolutionNumbers.{Solved, solution_need, solution_numbers_of, check_solutions, solved, unsolved, after_solutions_check}
use Rattle.exported_solutions.specs.SolutionNumbers.{export_solutions, unlisted-zeros}
use Rattle.claims.specs.RunWords.{Cleared, InRange}
use Rattle.claims.specs.LiftedRuns.{overwrite-rewritten, range-iff, passed-valid}
use Rattle.claims.specs.SolutionWords.{ExportedSolutions, SolveLong, SidesZero, SolvePassed, WorkCleared, Unlisted, Lists, NoneFinite}
use Rattle.claims.specs.SolutionWords.{Promised, answer_call, SolveCourse, solve-range-wrong, solve-store-short, solve-number-wrong}
use Rattle.claims.specs.SolutionWords.{solve-side-wrong, as-solved}

-- ---- the checks

long-iff : (z : Sizes) (rows relations : List ℤ) (w : Work) (result : List ℤ)
    → T (all_lengths z rows relations w && leb solution_need (length result)) ↔ SolveLong z rows relations w result
unfolding all_lengths
long-iff z rows relations w result =
    let own = lengths_right_of (equations z) rows relations in
    let lent = lengths_right_of (equations z) w.rows w.relations in
    let matrix = leb matrix_need (length w.matrix) in
    let list = leb list_need (length w.list) in (
      λ h. let five = (T-&& (own && lent && matrix && list) _).0 h in
          let four = (T-&& (own && lent && matrix) list).0 five.0 in
          let three = (T-&& (own && lent) matrix).0 four.0 in
          let two = (T-&& own lent).0 three.0 in (
            (lengths_right-iff (equations z) rows relations).0 two.0,
            (lengths_right-iff (equations z) w.rows w.relations).0 two.1,
            leb→le _ _ three.1,
            leb→le _ _ four.1,
            leb→le _ _ five.1,
          ),
      λ h. (T-&& (own && lent && matrix && list) _).1 (
        (T-&& (own && lent && matrix) list).1 (
          (T-&& (own && lent) matrix).1 (
            (T-&& own lent).1 (
              (lengths_right-iff (equations z) rows relations).1 h.0,
              (lengths_right-iff (equations z) w.rows w.relations).1 h.1,
            ),
            le→leb _ _ h.2,
          ),
          le→leb _ _ h.3,
        ),
        le→leb _ _ h.4,
      ),
    )

-- A number of the work is 7 or more.
late : (n : ℕ) → Number n → 7 ≤ n
late n o =
    ⊎_elim (λ p. omega arith)
    (λ q. ⊎_elim (λ r. ⊎_elim (λ p. omega arith) (λ t. ⊎_elim (λ p. omega arith) (λ p. omega arith) t) r) (λ p. omega arith) q) o

zeros-put : (need : ℕ) (before : List ℤ) → need ≤ length before → Cleared need before (overwrite (zeros need) before)
unfolding zeros
zeros-put need before h = overwrite-rewritten (zeros need) before (length-replicate need (pos 0)) h

module _ {z : Sizes} {count : ℕ} {rows relations : List ℤ} {w : Work} {result : List ℤ} where
  passed-checked : SolvePassed z count rows relations w result → check_call z count rows relations w ≡ 0
  unfolding check_call
  passed-checked p =
      let long = (T-&& (all_lengths z rows relations w) _).0 ((long-iff z rows relations w result).1 p.lengths) in
      cond-passed (sizes_right_of z && count_right count) _ 2 ((range-iff z count).1 p.range)
      ∙ cond-passed (all_lengths z rows relations w) _ 1 long.0
      ∙ cond-passed (numbers_right_of z count rows relations) _ 5 ((numbers_right-iff z count rows relations).1 p.numbers)
      ∙ cond-passed (homogeneous (rows_of (equations z) rows) (relations_of count relations)) 0 14 p.sides

  pub solve-course : {e : Solved} → ExportedSolutions z count rows relations w result e → SolveCourse z count rows relations w result e
  unfolding export_solutions check_solutions after_solutions_check answered
  solve-course x =
      subst (SolveCourse z count rows relations w result) (sym x.called)
      (by (sizes_right_of z && count_right count) (all_lengths z rows relations w && leb solution_need (length result))
      (numbers_right_of z count rows relations) (homogeneous (rows_of (equations z) rows) (relations_of count relations))
      (range-iff z count) (long-iff z rows relations w result) (numbers_right-iff z count rows relations) (λ h. h, λ h. h))
    where
      by : (s l n h : Bool) → T s ↔ InRange z count → T l ↔ SolveLong z rows relations w result
          → T n ↔ NumbersRight z count rows relations → T h ↔ SidesZero z count rows relations
          → SolveCourse z count rows relations w result
          (after_solutions_check z count rows relations w result (cond s (cond l (cond n (cond h 0 14) 5) 1) 2))
      by false l n h r o k t = solve-range-wrong r.1
      by true false n h r o k t = solve-store-short (r.0 tt) o.1
      by true true false h r o k t = solve-number-wrong (r.0 tt) (o.0 tt) k.1
      by true true true false r o k t = solve-side-wrong (r.0 tt) (o.0 tt) (k.0 tt) t.1
      by true true true true r o k t =
          let p : SolvePassed z count rows relations w result =
          record { range = r.0 tt; lengths = o.0 tt; numbers = k.0 tt; sides = t.0 tt } in
          subst (λ c. SolveCourse z count rows relations w result (solved c result))
          (sym (call-checked z count rows relations w (passed-checked p))) (as-solved p _ refl)

  -- ---- what is left

  work-left : SolvePassed z count rows relations w result → (a : Answer) → WorkCleared z w (work_after z a w)
  unfolding work_after
  work-left p a =
      record {
        rows-zero = zeros-put (row_need (equations z)) w.rows p.lengths.1.0;
        relations-zero = zeros-put relation_need w.relations p.lengths.1.1;
        matrix-zero = zeros-put matrix_need w.matrix p.lengths.2;
      }

  -- Where the list is zeros and so are the numbers.
  zeros-left : SolvePassed z count rows relations w result → (a : Answer) (n : ℕ) → result_of a ≡ unlisted true n → list_in a ≡ zeros list_need
      → Unlisted z w result (solved (answer_call z a w) result)
  unfolding solved work_after
  zeros-left p a n e f =
      record {
        work-zero = work-left p a;
        list-zero = subst (λ l. Cleared list_need w.list (overwrite l w.list)) (sym f) (zeros-put list_need w.list p.lengths.3);
        numbers-zero = subst (λ l. Cleared solution_need result (overwrite l result)) (sym (ap solution_numbers_of e ∙ unlisted-zeros true n))
            (zeros-put solution_need result p.lengths.4);
      }

  list_left : SolvePassed z count rows relations w result → (N : ℕ) (l : List (List ℤ))
      → Lists z w result (solved (answer_call z (listed N l) w) result) N l
  unfolding solved work_after list_in result_of solution_numbers_of list_store_of
  list_left p N l =
      record {
        work-zero = work-left p (listed N l);
        list_held = overwrite-rewritten (list_store_of l) w.list
            (length-pad_to list_need (pos 0) (flatten (map (pad_to list_columns (pos 0)) l))) p.lengths.3;
        numbers = overwrite-rewritten (pos 1 ∷ pos N ∷ pos (length l) ∷ []) result refl p.lengths.4;
      }

  valid : SolvePassed z count rows relations w result → Valid z (rows_of (equations z) rows) (relations_of count relations)
  valid p = passed-valid (record { range = p.range; lengths = p.lengths.0; numbers = p.numbers })

  number : SolvePassed z count rows relations w result → (n : ℕ)
      → answer z (rows_of (equations z) rows) (relations_of count relations) ≡ refused_with n → Number n
  number p n e = answer-number z (rows_of (equations z) rows) (relations_of count relations) (valid p) n e

  promised : SolvePassed z count rows relations w result → (N : ℕ) (l : List (List ℤ))
      → answer z (rows_of (equations z) rows) (relations_of count relations) ≡ listed N l
      → Promised z count rows relations N l
  promised p N l e =
      record {
        pivots = Promises.pivots (valid p) e;
        one_each = Promises.listed-one-each (valid p) e;
        each = Promises.listed_at (valid p) e;
        only = Promises.listed-only (valid p) e;
        complete = Promises.listed-complete (valid p) e;
      }

  -- The refusal of work that has begun, or 0.
  work-number : SolvePassed z count rows relations w result → (a : Answer)
      → answer z (rows_of (equations z) rows) (relations_of count relations) ≡ a
      → ((solved (answer_call z a w) result).refusal ≡ 0) ⊎ (7 ≤ (solved (answer_call z a w) result).refusal)
  unfolding solved result_of
  work-number p (refused_with n) e = inr (late n (number p n e))
  work-number p none_listed e = inl refl
  work-number p (listed N l) e = inl refl

  -- ---- the claims

  pub solve-before : {e : Solved} → SolveCourse z count rows relations w result e → ¬ SolvePassed z count rows relations w result
      → e ≡ unsolved e.refusal w result
  solve-before (solve-range-wrong r) h = refl
  solve-before (solve-store-short r l) h = refl
  solve-before (solve-number-wrong r l n) h = refl
  solve-before (solve-side-wrong r l n s) h = refl
  solve-before (as-solved p a f) h = absurd (h p)

  pub solve-during : {e : Solved} → SolveCourse z count rows relations w result e → SolvePassed z count rows relations w result
      → e.refusal ≢ 0 → Number e.refusal × Unlisted z w result e
  unfolding solved result_of list_in
  solve-during (solve-range-wrong r) p h = absurd (r p.range)
  solve-during (solve-store-short r l) p h = absurd (l p.lengths)
  solve-during (solve-number-wrong r l n) p h = absurd (n p.numbers)
  solve-during (solve-side-wrong r l n s) p h = absurd (s p.sides)
  solve-during (as-solved p (refused_with n) f) _ h = (number p n f, zeros-left p (refused_with n) n refl refl)
  solve-during (as-solved p none_listed f) _ h = absurd (h refl)
  solve-during (as-solved p (listed N l) f) _ h = absurd (h refl)

  pub solve-answer : {e : Solved} → SolveCourse z count rows relations w result e → e.refusal ≡ 0
      → SolvePassed z count rows relations w result × ((Unlisted z w result e × NoneFinite z count rows relations)
      ⊎ ((N : ℕ) × (l : List (List ℤ)) × Lists z w result e N l × Promised z count rows relations N l))
  unfolding solved result_of list_in
  solve-answer (solve-range-wrong r) h = absurd (omega arith)
  solve-answer (solve-store-short r l) h = absurd (omega arith)
  solve-answer (solve-number-wrong r l n) h = absurd (omega arith)
  solve-answer (solve-side-wrong r l n s) h = absurd (omega arith)
  solve-answer (as-solved p (refused_with n) f) h = absurd (omega (arith, late n (number p n f)))
  solve-answer (as-solved p none_listed f) h = (p, inl (zeros-left p none_listed 0 refl refl, Promises.none-zero (valid p) f))
  solve-answer (as-solved p (listed N l) f) h = (p, inr (N, l, list_left p N l, promised p N l f))

  pub solve-two : {e : Solved} → SolveCourse z count rows relations w result e → (e.refusal ≡ 2) ↔ (¬ InRange z count)
  solve-two (solve-range-wrong r) = (λ e. r, λ h. refl)
  solve-two (solve-store-short r l) = (λ e. absurd (omega arith), λ h. absurd (h r))
  solve-two (solve-number-wrong r l n) = (λ e. absurd (omega arith), λ h. absurd (h r))
  solve-two (solve-side-wrong r l n s) = (λ e. absurd (omega arith), λ h. absurd (h r))
  solve-two (as-solved p a f) =
      (λ e. absurd (⊎_elim (λ g. omega arith) (λ g. omega arith) (work-number p a f)), λ h. absurd (h p.range))

  pub solve-one : {e : Solved} → SolveCourse z count rows relations w result e
      → (e.refusal ≡ 1) ↔ (InRange z count × (¬ SolveLong z rows relations w result))
  solve-one (solve-range-wrong r) = (λ e. absurd (omega arith), λ h. absurd (r h.0))
  solve-one (solve-store-short r l) = (λ e. (r, l), λ h. refl)
  solve-one (solve-number-wrong r l n) = (λ e. absurd (omega arith), λ h. absurd (h.1 l))
  solve-one (solve-side-wrong r l n s) = (λ e. absurd (omega arith), λ h. absurd (h.1 l))
  solve-one (as-solved p a f) =
      (λ e. absurd (⊎_elim (λ g. omega arith) (λ g. omega arith) (work-number p a f)), λ h. absurd (h.1 p.lengths))

  pub solve-five : {e : Solved} → SolveCourse z count rows relations w result e
      → (e.refusal ≡ 5) ↔ (InRange z count × SolveLong z rows relations w result × (¬ NumbersRight z count rows relations))
  solve-five (solve-range-wrong r) = (λ e. absurd (omega arith), λ h. absurd (r h.0))
  solve-five (solve-store-short r l) = (λ e. absurd (omega arith), λ h. absurd (l h.1))
  solve-five (solve-number-wrong r l n) = (λ e. (r, l, n), λ h. refl)
  solve-five (solve-side-wrong r l n s) = (λ e. absurd (omega arith), λ h. absurd (h.2 n))
  solve-five (as-solved p a f) =
      (λ e. absurd (⊎_elim (λ g. omega arith) (λ g. omega arith) (work-number p a f)), λ h. absurd (h.2 p.numbers))
