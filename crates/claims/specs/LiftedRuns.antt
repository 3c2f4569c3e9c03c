-- The facts about runs lifted to the calls: what the result and the stores say, from what the rules' final state says.
--
-- Main definitions
--   Verdict A B D n            the number of the first of three checks that fails
--   AcceptedAs .. c s          the checks passed, the rules accept with the final state s, and the call gives s back
--   LeftAs .. c s              the checks passed, and a call gives back s, which is valid and triangular
--
-- Main statements
--   overwrite-rewritten        a store whose needed part is overwritten
--   range-iff, place-right     the tests of sizes and of a place
--   verdict, stores-verdict    the checks of a call on stores
--   passed-zero, zero-passed, passed-valid   all checks passed
--   course                     every call takes one of the courses
--   number-of, fields-zero, stores-kept, stores-cleared, rest-kept   what a refused call gives back and leaves
--   two-exactly, one-exactly, five-exactly, during-exactly, accepted-exactly, begun   where each number comes
--   accepted                   a call without a refusal has accepted, and gives back the final state of the rules
--   sequences, triangular, shifts-few, relations-first, output-passes, freed   what such a call has done
--   below-dependent, kept-independent, undropped-independent, most-unknowns, most-equations   what its rank says
--   root-no, root_none, root-yes   the root report, by result and store
--   times_none, times-yes      how often its root occurs
--   agrees-leading, agrees-trailing   agreement past the root of the result
--   from-unused, from-kept, from_back   sequences with a first index
--   unsatisfied-ten            refusal 10
--   gives_back                 a final state, as it is given back
--   state-accepted, left_as    an accepted call has left a final state
--   state-triangular, state-report-no, state-report-value, state-report-yes, state-past, left-passes   the same, from the state
use Prim.Native.Nat.{ℕ, suc, pred, ◌+◌, ◌*◌, ◌-◌, ◌≤◌, ◌<◌}
use Rattle.std.proofs.Common.{le_trans, ◌∙◌, ⊎_elim, le→leb, T_not, length-append, length-drop, take-append-drop}
use native.Mathlib.Omega.{arith}
use Rattle.std.proofs.Math.Path.{◌≡◌, refl, sym, ap, ap₂, subst, subst₂}
use Rattle.std.specs.Prelude.{◌↔◌, ◌≢◌, ◌⊎◌, Bool, true, false, ◌&&◌, not, cond, T, take, nat_abs, ◌+ℤ◌, ◌-ℤ◌, ◌≤ℤ◌, ◌<ℤ◌}
use Rattle.std.proofs.Math.Logic.{inl, inr}
use Rattle.std.proofs.Math.Option.{Option, none, some}
use mathlib.Core.List.{List, [], ◌++◌, map, append_assoc, Memᴰ}
use Rattle.std.proofs.Math.ListN.{length, drop, replicate, get_or, length-map}
use Rattle.std.proofs.lemmas.List.{length-replicate}
use Rattle.std.proofs.Math.Seq.{take_at, drop_at}
use Rattle.std.proofs.Math.IntN.{ℤ, pos, +ℤ_invr}
use Rattle.std.specs.Int.Signed.{≤ℤ_refl}
use Rattle.algebra.specs.Polynomials.{Polynomial, eval, is_zero_of}
use Rattle.algebra.specs.Multiplicity.{multiplicity}
use Rattle.lists.specs.Tests.{T-&&}
use Rattle.rules.specs.Limits.{column_count, row_length}
use Rattle.rules.specs.Rows.{Row, Relation, no_row, mirror_relation}
use Rattle.lists.specs.Everywhere.{All, all-mono}
use Rattle.lists.specs.Images.{get_or_map}
use Rattle.rules.specs.Elimination.{start, whole_run_of, mirror_state}
use Rattle.rules.specs.Elimination.{Side, leading, trailing, State, Outcome, done, refused, rank, report, diagonal, diagonal_place}
use Rattle.rules.specs.Stores.{Sizes, equations, with_equations_of, span, rows_of, relations_of, row_need, relation_need, row_store_of, row_store_for}
use Rattle.rules.specs.Stores.{relation_store_of, check_stores_of}
use Rattle.rules.specs.Stores.{sizes_right_of, count_right, lengths_right_of, numbers_right_of, Valid}
use Rattle.rules.specs.Sequences.{Sequence, Satisfies, Dependent}
use Rattle.rules.specs.Layout.{SizeBounds, NumbersRight, size-bounds, bounds-right, count_right-iff, lengths_right-iff}
use Rattle.rules.specs.Layout.{numbers_right-iff}
use Rattle.rules.specs.Layout.{check_stores-order, check_stores-zero, stores-valid, valid-stores, length-row_store_of}
use Rattle.rules.specs.Layout.{length-relation_store_of}
use Rattle.rules.specs.Layout.{rows_of-row_store_for, length-row_store_for, relations_of-relation_store_of, polynomial_check-zero, polynomial_part-at}
use Rattle.rules.specs.Calls.{Result, Call, call_run, after_check, after_run_of, acceptance, unchanged, cleared, refusal}
use Rattle.rules.specs.Calls.{zeros}
use Rattle.lists.specs.Overwritten.{overwrite}
use Rattle.rules.specs.Calls.{place_right_of, reported_order, root_found, root_value}
use Rattle.theory.specs.Settled.{Diagonal, pivot_entry, diagonal-most, nonzero-of-diagonal}
use Rattle.theory.specs.Demands.{Accepted, Ended, seven, eight, nine, ten}
use Rattle.theory.proofs.Demands.{run_ends, output-valid, diagonal-nonzero}
use Rattle.theory.proofs.Demands.{report-times, report-no-times, relations-listed}
use Rattle.theory.specs.ListedOrder.{Listed}
use Rattle.theory.proofs.Demands.{same-sequences, rank_most, rank-few, rank_below, rows-independent, shifts-bounded, refused-inconsistent}
use Rattle.theory.proofs.Demands.{agreement-leading, agreement-trailing, first-index, forward-from, backward-from}
use Rattle.theory.specs.FirstIndex.{SatisfiesFrom}
use Rattle.theory.specs.Report.{Past, Rootless, FurthestRoot, diagonal_entry, diagonal-member, diagonal-index, product}
use Rattle.theory.specs.Report.{NonzeroDiagonal, report-none, report-some}
use Rattle.theory.specs.Demands as Demands
use Rattle.lists.specs.Padded.{get_or-pad_to}
use Rattle.claims.specs.RunWords.{Ran, RunNumber, FoundBefore, FoundDuring, Rewritten, Cleared, InRange, LongEnough}
use Rattle.claims.specs.RunWords.{Passed, ruled, GivesBack, Course, Kept, left, Freed, SolvesFrom}
use Rattle.claims.specs.RunWords.{Solves, IsRow, IsColumn, edge, column_of, entry_of, diagonal_of, Triangular, NoRoot, LastRoot}
use Rattle.claims.specs.RunWords.{PastRoot}
use Rattle.claims.specs.RunWords.{AgreeBetween, AgreeFrom, AgreeDown, AgreeUpTo}
use Rattle.claims.specs.RunWords.{out_of_range, too_short, wrong-number, run-refused, run-accepted}

-- ---- stores

pub overwrite-rewritten : {A : Type 0} {need : ℕ} (part before : List A) → length part ≡ need → need ≤ length before
    → Rewritten need part before (overwrite part before)
unfolding overwrite
overwrite-rewritten {need = need} part before e h =
    record {
      needed = take_at part _ need e;
      rest = drop_at part _ need e ∙ ap (λ n. drop n before) e;
      same_length = length-append part _ ∙ ap (λ n. length part + n) (length-drop (length part) before) ∙ omega arith;
    }

rest_of : {need : ℕ} {part before after : List ℤ} → Rewritten need part before after → Kept need before after
rest_of r = (r.rest, r.same_length)

rewritten-is : {A : Type 0} {need : ℕ} {part before after : List A} → Rewritten need part before after
    → after ≡ part ++ drop need before
rewritten-is {need = need} {before = before} {after} r = sym (take-append-drop need after) ∙ ap₂ ◌++◌ r.needed r.rest

zeros-written : (need : ℕ) (before : List ℤ) → need ≤ length before → Cleared need before (overwrite (zeros need) before)
unfolding zeros
zeros-written need before h = overwrite-rewritten (zeros need) before (length-replicate need (pos 0)) h

-- ---- the checks

-- The number of the first of three checks that fails, in the order of every call on stores: sizes (2), lengths (1),
-- numbers (5) (SCOPE 3.31).
pub data Verdict (A B D : Type 0) : ℕ → Type 0 where
  two : ¬ A → Verdict A B D 2
  one : A → ¬ B → Verdict A B D 1
  five : A → B → ¬ D → Verdict A B D 5
  none_found : A → B → D → Verdict A B D 0

pub verdict : {A B D : Type 0} (a b d : Bool) → T a ↔ A → T b ↔ B → T d ↔ D → Verdict A B D (cond a (cond b (cond d 0 5) 1) 2)
verdict false b d r l n = two r.1
verdict true false d r l n = one (r.0 tt) l.1
verdict true true false r l n = five (r.0 tt) (l.0 tt) n.1
verdict true true true r l n = none_found (r.0 tt) (l.0 tt) (n.0 tt)

pub range-iff : (z : Sizes) (count : ℕ) → T (sizes_right_of z && count_right count) ↔ InRange z count
range-iff z count = (
  λ h. let e = (T-&& (sizes_right_of z) _).0 h in (size-bounds z e.0, (count_right-iff count).0 e.1),
  λ h. (T-&& (sizes_right_of z) _).1 (bounds-right z h.0, (count_right-iff count).1 h.1),
)

module _ {z : Sizes} {count : ℕ} {rows relations : List ℤ} where
  pub passed-zero : Passed z count rows relations → check_stores_of z count rows relations ≡ 0
  passed-zero p =
      (check_stores-zero z count rows relations).1 (record {
        sizes = bounds-right z p.range.0;
        few = (count_right-iff count).1 p.range.1;
        lengths = (lengths_right-iff (equations z) rows relations).1 p.lengths;
        numbers = (numbers_right-iff z count rows relations).1 p.numbers;
      })

  pub zero-passed : check_stores_of z count rows relations ≡ 0 → Passed z count rows relations
  zero-passed e =
      let h = (check_stores-zero z count rows relations).0 e in
      record {
        range = (size-bounds z h.sizes, (count_right-iff count).0 h.few);
        lengths = (lengths_right-iff (equations z) rows relations).0 h.lengths;
        numbers = (numbers_right-iff z count rows relations).0 h.numbers;
      }

  pub passed-valid : Passed z count rows relations → Valid z (rows_of (equations z) rows) (relations_of count relations)
  passed-valid p = stores-valid z count rows relations (passed-zero p)

pub stores-verdict : (z : Sizes) (count : ℕ) (rows relations : List ℤ)
    → Verdict (InRange z count) (LongEnough z rows relations) (NumbersRight z count rows relations)
    (check_stores_of z count rows relations)
stores-verdict z count rows relations =
    subst (Verdict (InRange z count) (LongEnough z rows relations) (NumbersRight z count rows relations))
    (sym (check_stores-order z count rows relations))
    (verdict (sizes_right_of z && count_right count) (lengths_right_of (equations z) rows relations) (numbers_right_of z count rows relations)
    (range-iff z count) (lengths_right-iff (equations z) rows relations) (numbers_right-iff z count rows relations))

-- ---- the courses

pub course : {side : Side} {z : Sizes} {count : ℕ} {rows relations : List ℤ} {c : Call} → Ran side z count rows relations c
    → Course side z count rows relations c
unfolding call_run after_check after_run_of
course {side} {z} {count} {rows} {relations} ran =
    subst (Course side z count rows relations) (sym ran.called)
    (by (check_stores_of z count rows relations) (stores-verdict z count rows relations))
  where
    worked : Passed z count rows relations → (o : Outcome) → ruled side z count rows relations ≡ o → Ended o
        → Course side z count rows relations (after_run_of side z o rows relations)
    worked p o e (Demands.accepted s) = run-accepted p s e
    worked p o e seven = run-refused p 7 (omega arith, omega arith) e
    worked p o e eight = run-refused p 8 (omega arith, omega arith) e
    worked p o e nine = run-refused p 9 (omega arith, omega arith) e
    worked p o e ten = run-refused p 10 (omega arith, omega arith) e

    by : (n : ℕ) → Verdict (InRange z count) (LongEnough z rows relations) (NumbersRight z count rows relations) n
        → Course side z count rows relations (after_check side z count rows relations n)
    by n (two r) = out_of_range r
    by n (one r l) = too_short r l
    by n (five r l w) = wrong-number r l w
    by n (none_found r l w) =
        let p : Passed z count rows relations = record { range = r; lengths = l; numbers = w } in
        worked p _ refl (run_ends side (passed-valid p))

-- ---- what an accepted call gives back

module _ {side : Side} {z : Sizes} {count : ℕ} {rows relations : List ℤ} where
  pub gives_back : Passed z count rows relations → (s : State) → Valid (with_equations_of (rank s) z) s.rows s.relations
      → length s.rows ≡ rank s → rank s ≤ equations z → GivesBack side z s rows relations (after_run_of side z (done s) rows relations)
  unfolding after_run_of acceptance overwrite
  gives_back p s v count_kept few =
      record {
        row-store = overwrite-rewritten (row_store_for (equations z) s.rows) rows
            (length-row_store_for (equations z) s.rows (subst (λ n. n ≤ equations z) (sym count_kept) few) v.row-shapes)
            p.lengths.0;
        relation-store = overwrite-rewritten (relation_store_of s.relations) relations
            (length-relation_store_of s.relations ((count_right-iff (length s.relations)).0 v.relation-count)
            v.relation-shapes)
            p.lengths.1;
        rows-held = rows-held;
        relations-held = relations-held;
        relation-count = refl;
        shift_count = refl;
        column-order = refl;
        root-found = refl;
        root-value = refl;
        row_count = refl;
        root-times = refl;
      }
    where
      rows-held : rows_of (rank s) (overwrite (row_store_for (equations z) s.rows) rows) ≡ s.rows
      rows-held =
          ap (λ n. rows_of n (overwrite (row_store_for (equations z) s.rows) rows)) (sym count_kept)
          ∙ rows_of-row_store_for (equations z) s.rows _ v.row-shapes

      relations-held : relations_of (length s.relations) (overwrite (relation_store_of s.relations) relations) ≡ s.relations
      relations-held = relations_of-relation_store_of s.relations _ v.relation-shapes

  run-gives-back : Passed z count rows relations → (s : State) → ruled side z count rows relations ≡ done s
      → GivesBack side z s rows relations (after_run_of side z (done s) rows relations)
  run-gives-back p s e = gives_back p s (output-valid a) (diagonal-nonzero a).row_count (rank-few a)
    where
      a : Accepted side z (rows_of (equations z) rows) (relations_of count relations) s
      a = record { valid = passed-valid p; accepts = e }

-- ---- refusals

-- Numbers that differ.
abbrev Number : Call → ℕ
Number c = c.result.refusal

module _ {side : Side} {z : Sizes} {count : ℕ} {rows relations : List ℤ} where
  number-course : {c : Call} → Course side z count rows relations c
      → RunNumber (Number c)
  unfolding unchanged cleared refusal after_run_of acceptance
  number-course (out_of_range r) = inr (inr (inl refl))
  number-course (too_short r l) = inr (inl refl)
  number-course (wrong-number r l w) = inr (inr (inr (inl refl)))
  number-course (run-refused p n h e) = inr (inr (inr (inr h)))
  number-course (run-accepted p s e) = inl refl

  fields-course : {c : Call} → Course side z count rows relations c → Number c ≢ 0 → c.result ≡ refusal (Number c)
  unfolding unchanged cleared refusal after_run_of acceptance
  fields-course (out_of_range r) h = refl
  fields-course (too_short r l) h = refl
  fields-course (wrong-number r l w) h = refl
  fields-course (run-refused p n f e) h = refl
  fields-course (run-accepted p s e) h = absurd (h refl)

  kept-course : {c : Call} → Course side z count rows relations c → FoundBefore (Number c)
      → (c.row_store ≡ rows) × (c.relation_store ≡ relations)
  unfolding unchanged cleared refusal after_run_of acceptance
  kept-course (out_of_range r) h = (refl, refl)
  kept-course (too_short r l) h = (refl, refl)
  kept-course (wrong-number r l w) h = (refl, refl)
  kept-course (run-refused p n f e) h = absurd (omega arith)
  kept-course (run-accepted p s e) h = absurd (omega arith)

  cleared-course : {c : Call} → Course side z count rows relations c → FoundDuring (Number c)
      → Cleared (row_need (equations z)) rows c.row_store × Cleared relation_need relations c.relation_store
  unfolding unchanged cleared refusal after_run_of acceptance
  cleared-course (out_of_range r) h = absurd (omega arith)
  cleared-course (too_short r l) h = absurd (omega arith)
  cleared-course (wrong-number r l w) h = absurd (omega arith)
  cleared-course (run-refused p n f e) h =
      (zeros-written (row_need (equations z)) rows p.lengths.0, zeros-written relation_need relations p.lengths.1)
  cleared-course (run-accepted p s e) h = absurd (omega arith)

  rest-course : {c : Call} → Course side z count rows relations c
      → Kept (row_need (equations z)) rows c.row_store × Kept relation_need relations c.relation_store
  unfolding unchanged cleared
  rest-course (out_of_range r) = ((refl, refl), (refl, refl))
  rest-course (too_short r l) = ((refl, refl), (refl, refl))
  rest-course (wrong-number r l w) = ((refl, refl), (refl, refl))
  rest-course (run-refused p n f e) = (
    rest_of (zeros-written (row_need (equations z)) rows p.lengths.0),
    rest_of (zeros-written relation_need relations p.lengths.1),
  )
  rest-course (run-accepted p s e) = let g = run-gives-back p s e in (rest_of g.row-store, rest_of g.relation-store)

  begun-course : {c : Call} → Passed z count rows relations → Course side z count rows relations c
      → (Number c ≡ 0) ⊎ FoundDuring (Number c)
  unfolding cleared refusal after_run_of acceptance
  begun-course p (out_of_range r) = absurd (r p.range)
  begun-course p (too_short r l) = absurd (l p.lengths)
  begun-course p (wrong-number r l w) = absurd (w p.numbers)
  begun-course p (run-refused q n h e) = inr h
  begun-course p (run-accepted q s e) = inl refl

  -- ---- where each number comes

  two-course : {c : Call} → Course side z count rows relations c → (Number c ≡ 2) ↔ (¬ InRange z count)
  unfolding unchanged cleared refusal after_run_of acceptance
  two-course (out_of_range r) = (λ e. r, λ h. refl)
  two-course (too_short r l) = (λ e. absurd (omega arith), λ h. absurd (h r))
  two-course (wrong-number r l w) = (λ e. absurd (omega arith), λ h. absurd (h r))
  two-course (run-refused p n f e) = (λ e. absurd (omega arith), λ h. absurd (h p.range))
  two-course (run-accepted p s e) = (λ e. absurd (omega arith), λ h. absurd (h p.range))

  one-course : {c : Call} → Course side z count rows relations c
      → (Number c ≡ 1) ↔ (InRange z count × (¬ LongEnough z rows relations))
  unfolding unchanged cleared refusal after_run_of acceptance
  one-course (out_of_range r) = (λ e. absurd (omega arith), λ h. absurd (r h.0))
  one-course (too_short r l) = (λ e. (r, l), λ h. refl)
  one-course (wrong-number r l w) = (λ e. absurd (omega arith), λ h. absurd (h.1 l))
  one-course (run-refused p n f e) = (λ e. absurd (omega arith), λ h. absurd (h.1 p.lengths))
  one-course (run-accepted p s e) = (λ e. absurd (omega arith), λ h. absurd (h.1 p.lengths))

  five-course : {c : Call} → Course side z count rows relations c
      → (Number c ≡ 5) ↔ (InRange z count × LongEnough z rows relations × (¬ NumbersRight z count rows relations))
  unfolding unchanged cleared refusal after_run_of acceptance
  five-course (out_of_range r) = (λ e. absurd (omega arith), λ h. absurd (r h.0))
  five-course (too_short r l) = (λ e. absurd (omega arith), λ h. absurd (l h.1))
  five-course (wrong-number r l w) = (λ e. (r, l, w), λ h. refl)
  five-course (run-refused p n f e) = (λ e. absurd (omega arith), λ h. absurd (h.2 p.numbers))
  five-course (run-accepted p s e) = (λ e. absurd (omega arith), λ h. absurd (h.2 p.numbers))

  during-course : {c : Call} → Course side z count rows relations c → (n : ℕ) → FoundDuring n
      → (Number c ≡ n) ↔ (Passed z count rows relations × (ruled side z count rows relations ≡ refused n))
  unfolding unchanged cleared refusal after_run_of acceptance
  during-course (out_of_range r) n f = (λ e. absurd (omega arith), λ h. absurd (r h.0.range))
  during-course (too_short r l) n f = (λ e. absurd (omega arith), λ h. absurd (l h.0.lengths))
  during-course (wrong-number r l w) n f = (λ e. absurd (omega arith), λ h. absurd (w h.0.numbers))
  during-course (run-refused p k g e) n f = (λ h. (p, e ∙ ap refused h), λ h. same_number (sym e ∙ h.1))
    where
      same_number : refused k ≡ refused n → k ≡ n
      same_number h = cc
  during-course (run-accepted p s e) n f = (λ h. absurd (omega arith), λ h. absurd (ended (sym e ∙ h.1)))
    where
      ended : done s ≡ refused n → ⊥
      ended h = let clash : ◌≡◌ {A = ℕ} 0 1 = cc in omega arith

  accepted-course : {c : Call} → Course side z count rows relations c
      → (Number c ≡ 0) ↔ (Passed z count rows relations × ((s : State) × (ruled side z count rows relations ≡ done s)))
  unfolding unchanged cleared refusal after_run_of acceptance
  accepted-course (out_of_range r) = (λ e. absurd (omega arith), λ h. absurd (r h.0.range))
  accepted-course (too_short r l) = (λ e. absurd (omega arith), λ h. absurd (l h.0.lengths))
  accepted-course (wrong-number r l w) = (λ e. absurd (omega arith), λ h. absurd (w h.0.numbers))
  accepted-course (run-refused p n f e) = (λ h. absurd (omega arith), λ h. absurd (ended h.1.0 (sym e ∙ h.1.1)))
    where
      ended : (s : State) → refused n ≡ done s → ⊥
      ended s h = let clash : ◌≡◌ {A = ℕ} 0 1 = cc in omega arith
  accepted-course (run-accepted p s e) = (λ h. (p, (s, e)), λ h. refl)

-- ---- the calls as they are called

-- What a call without a refusal has done: its checks passed, the rules accept with the final state s, and the call gives s
-- back.
pub record AcceptedAs (side : Side) (z : Sizes) (count : ℕ) (rows relations : List ℤ) (c : Call) (s : State) : Type 0 where
  pub passed : Passed z count rows relations
  pub accepts : ruled side z count rows relations ≡ done s
  pub given : GivesBack side z s rows relations c

-- What an accepted call has left, whichever call it was: the checks passed, the final state s was given back, and it is a valid system
-- in triangular form.
pub record LeftAs (side : Side) (z : Sizes) (count : ℕ) (rows relations : List ℤ) (c : Call) (s : State) : Type 0 where
  pub passed : Passed z count rows relations
  pub given : GivesBack side z s rows relations c
  pub valid : Valid (with_equations_of (rank s) z) s.rows s.relations
  pub diagonal : Diagonal side (rank s) z.m (span z) s
  pub few : rank s ≤ equations z

module _ {side : Side} {z : Sizes} {count : ℕ} {rows relations : List ℤ} where
  accepted-as : {c : Call} → Course side z count rows relations c → Number c ≡ 0
      → (s : State) × AcceptedAs side z count rows relations c s
  unfolding unchanged cleared refusal
  accepted-as (out_of_range r) h = absurd (omega arith)
  accepted-as (too_short r l) h = absurd (omega arith)
  accepted-as (wrong-number r l w) h = absurd (omega arith)
  accepted-as (run-refused p n f e) h = absurd (omega arith)
  accepted-as (run-accepted p s e) h = (s, record { passed = p; accepts = e; given = run-gives-back p s e })

-- ---- the diagonal by result and store

edge-place : (side : Side) (z : Sizes) → nat_abs (z.l -ℤ edge side z) ≡ diagonal_place side (span z)
unfolding diagonal_place span
edge-place leading z = ap nat_abs (+ℤ_invr z.l)
edge-place trailing z = refl

edge-inside : (side : Side) (z : Sizes) → SizeBounds z → (z.t ≤ℤ edge side z) × (edge side z ≤ℤ z.l)
edge-inside leading z b = (b.ordered, ≤ℤ_refl z.l)
edge-inside trailing z b = (≤ℤ_refl z.t, b.ordered)

pub place-right : (z : Sizes) (row : ℕ) (block : ℤ) (column : ℕ) → IsRow z row → z.t ≤ℤ block → block ≤ℤ z.l → IsColumn z column
    → T (place_right_of z row block column)
unfolding place_right_of
place-right z row block column h low high k =
    simp T-&& (((le→leb _ _ h.0, le→leb _ _ h.1), (low.le, high.le)), (le→leb _ _ k.0, le→leb _ _ k.1))

-- The report of a result, as that of the rules.
found_none : (o : Option ℤ) → (root_found o ≡ false) ↔ (o ≡ none)
unfolding root_found
found_none none = (λ e. refl, λ e. refl)
found_none (some r) =
    (λ e. let clash : ◌≡◌ {A = ℕ} 0 1 = cc in absurd (omega arith), λ e. let clash : ◌≡◌ {A = ℕ} 0 1 = cc in absurd (omega arith))

none-value : (o : Option ℤ) → root_found o ≡ false → root_value o ≡ pos 0
unfolding root_found root_value
none-value none e = refl
none-value (some r) e = let clash : ◌≡◌ {A = ℕ} 0 1 = cc in absurd (omega arith)

found_some : (o : Option ℤ) → root_found o ≡ true → o ≡ some (root_value o)
unfolding root_found root_value
found_some none e = let clash : ◌≡◌ {A = ℕ} 0 1 = cc in absurd (omega arith)
found_some (some r) e = refl

≮-antisym : {a b : ℕ} → ¬ (a < b) → ¬ (b < a) → a ≡ b
≮-antisym {a} {b} h k = omega arith

module _ {side : Side} {z : Sizes} {count : ℕ} {rows relations : List ℤ} {c : Call} {s : State}
    (a : AcceptedAs side z count rows relations c s) where
  pub state-accepted : Accepted side z (rows_of (equations z) rows) (relations_of count relations) s
  state-accepted = record { valid = passed-valid a.passed; accepts = a.accepts }

  pub left_as : LeftAs side z count rows relations c s
  left_as =
      record {
        passed = a.passed;
        given = a.given;
        valid = output-valid state-accepted;
        diagonal = diagonal-nonzero state-accepted;
        few = rank-few state-accepted;
      }

  pub state-times-no : c.result.has_root_of ≡ false → c.result.multiplicity ≡ 0
  state-times-no e = a.given.root-times ∙ report-no-times state-accepted ((found_none _).0 (sym a.given.root-found ∙ e))

  pub state-times-yes : c.result.has_root_of ≡ true
      → (c.result.multiplicity ≡ multiplicity (product (diagonal side (span z) s)) c.result.root) × (1 ≤ c.result.multiplicity)
  state-times-yes e =
      let t = report-times state-accepted (found_some _ (sym a.given.root-found ∙ e)) in (
        a.given.root-times ∙ t.0 ∙ ap (multiplicity (product (diagonal side (span z) s))) (sym a.given.root-value),
        subst (λ n. 1 ≤ n) (sym a.given.root-times) t.1,
      )

module _ {side : Side} {z : Sizes} {count : ℕ} {rows relations : List ℤ} {c : Call} {s : State}
    (a : LeftAs side z count rows relations c s) where
  -- What is left, with the rank as its number of equations.
  out-bounds : SizeBounds (left z c)
  out-bounds =
      size-bounds (left z c)
      (subst (λ n. T (sizes_right_of (with_equations_of n z))) (sym a.given.row_count) a.valid.sizes)

  diagonals : Diagonal side (equations (left z c)) (left z c).m (span (left z c)) s
  unfolding equations with_equations_of span
  diagonals = subst (λ n. Diagonal side n z.m (span z) s) (sym a.given.row_count) a.diagonal

  out-rows : rows_of (equations (left z c)) c.row_store ≡ s.rows
  unfolding equations with_equations_of
  out-rows = a.given.rows-held

  out-fits : row_need (equations (left z c)) ≤ length c.row_store
  unfolding equations with_equations_of row_need
  out-fits =
      omega (arith, a.given.row_count, a.few, a.given.row-store.same_length, a.passed.lengths.0)

  entry-is : (row column : ℕ) → IsRow (left z c) row → IsColumn (left z c) column
      → entry_of side (left z c) c row column ≡ pivot_entry side (span (left z c)) s (pred row) (pred column)
  entry-is row column h k =
      polynomial_part-at c.row_store (left z c) row (edge side (left z c)) column
      ((polynomial_check-zero c.row_store (left z c) row (edge side (left z c)) column).1 (
        bounds-right (left z c) out-bounds,
        place-right (left z c) row (edge side (left z c)) column h (edge-inside side (left z c) out-bounds).0
            (edge-inside side (left z c) out-bounds).1 k,
        out-fits,
      ))
      ∙ ap₂ (λ r d. get_or (get_or (get_or r (pred row) no_row).blocks d []) (pred column) []) out-rows (edge-place side (left z c))

  column-is : (row : ℕ) → IsRow (left z c) row → column_of c row ≡ suc (get_or s.order (pred row) 0)
  unfolding reported_order
  column-is row h =
      ap (λ l. get_or l (pred row) 0) a.given.column-order
      ∙ get_or-pad_to column_count 0 0 (map suc s.order) (pred row) (rw length-map within)
      (le_trans below (le_trans (diagonal-most diagonals) out-bounds.few))
      ∙ get_or_map suc s.order (pred row) 0 0 within
    where
      below : pred row < equations (left z c)
      below = omega arith

      within : pred row < length s.order
      within = subst (λ n. pred row < n) (sym diagonals.order-count) below

  column-inside : (row : ℕ) → IsRow (left z c) row → IsColumn (left z c) (column_of c row)
  column-inside row h =
      subst (IsColumn (left z c)) (sym (column-is row h)) (omega arith, diagonals.column-below (pred row) (omega arith))

  diagonal-is : (row : ℕ) → IsRow (left z c) row
      → diagonal_of side (left z c) c row ≡ diagonal_entry side (span (left z c)) s (pred row)
  diagonal-is row h =
      entry-is row (column_of c row) h (column-inside row h)
      ∙ ap (λ n. pivot_entry side (span (left z c)) s (pred row) (pred n)) (column-is row h)

  pub state-triangular : Triangular side (left z c) c
  state-triangular =
      record {
        column-inside = column-inside;
        column-once = once;
        every-column = λ square column h.
            let (j, inside, e) = diagonals.every-column square (pred column) (omega arith) in
            let row : IsRow (left z c) (suc j) = (omega arith, subst (λ n. j < n) (sym square) inside) in
            (suc j, row, column-is (suc j) row ∙ ap suc e ∙ omega arith);
        zero-before = before;
        diagonal-nonzero = λ row h. subst (λ p. T (not (is_zero_of p))) (sym (diagonal-is row h))
            (diagonals.nonzero (pred row) (omega arith));
      }
    where
      before : (row other : ℕ) → IsRow (left z c) row → IsRow (left z c) other → other < row
          → T (is_zero_of (entry_of side (left z c) c row (column_of c other)))
      before row other h k less =
          subst (λ p. T (is_zero_of p))
          (sym
          (entry-is row (column_of c other) h (column-inside other k)
          ∙ ap (λ n. pivot_entry side (span (left z c)) s (pred row) (pred n)) (column-is other k)))
          (diagonals.zero-before (pred row) (pred other) (omega arith) (omega arith))

      -- An entry is not zero and nonzero at once.
      apart : (row other : ℕ) → IsRow (left z c) row → IsRow (left z c) other → column_of c row ≡ column_of c other → ¬ (other < row)
      apart row other h k e less =
          T_not (is_zero_of (diagonal_of side (left z c) c row))
          (subst (λ p. T (not (is_zero_of p))) (sym (diagonal-is row h)) (diagonals.nonzero (pred row) (omega arith)))
          (subst (λ n. T (is_zero_of (entry_of side (left z c) c row n))) (sym e) (before row other h k less))

      once : (row other : ℕ) → IsRow (left z c) row → IsRow (left z c) other → column_of c row ≡ column_of c other → row ≡ other
      once row other h k e = ≮-antisym (apart other row k h (sym e)) (apart row other h k e)

  -- ---- the root report by result and store

  rows_inside : {j : ℕ} → j < length s.rows → IsRow (left z c) (suc j)
  rows_inside {j} h = (omega arith, subst (λ n. j < n) diagonals.row_count h)

  inside-rows : {row : ℕ} → IsRow (left z c) row → pred row < length s.rows
  inside-rows {row} h = subst (λ n. pred row < n) (sym diagonals.row_count) (omega arith)

  inside-order : {row : ℕ} → IsRow (left z c) row → pred row < length s.order
  inside-order {row} h = subst (λ n. pred row < n) (sym diagonals.order-count) (omega arith)

  among : (row : ℕ) → IsRow (left z c) row → Memᴰ (diagonal_of side (left z c) c row) (diagonal side (span (left z c)) s)
  among row h =
      subst (λ p. Memᴰ p (diagonal side (span (left z c)) s)) (sym (diagonal-is row h))
      (diagonal-member side (span (left z c)) s (pred row) (inside-rows h) (inside-order h))

  row-of : {p : Polynomial} → Memᴰ p (diagonal side (span (left z c)) s)
      → (row : ℕ) × IsRow (left z c) row × (p ≡ diagonal_of side (left z c) c row)
  row-of m =
      let (j, k, o, e) = diagonal-index side (span (left z c)) s m in
      (suc j, rows_inside k, e ∙ sym (diagonal-is (suc j) (rows_inside k)))

  rootless-iff : Rootless (diagonal side (span (left z c)) s) ↔ NoRoot side (left z c) c
  rootless-iff = (
    λ h row i n. h (diagonal_of side (left z c) c row) (among row i) n,
    λ h p m n e. let (row, i, same) = row-of m in h row i n (ap (λ q. eval q n) (sym same) ∙ e),
  )

  furthest-last : {r : ℤ} → FurthestRoot side (diagonal side (span (left z c)) s) r → LastRoot side (left z c) c r
  furthest-last {r} f =
      record {
        attained = let (p, m, e) = f.attained in let (row, i, same) = row-of m in (row, i, ap (λ q. eval q r) (sym same) ∙ e);
        furthest = λ row i n e. f.furthest (diagonal_of side (left z c) c row) (among row i) n e;
      }

  pivots : NonzeroDiagonal side (span z) s
  pivots = nonzero-of-diagonal side (rank s) z.m (span z) s a.diagonal

  pub state-report-no : (c.result.has_root_of ≡ false) ↔ NoRoot side (left z c) c
  unfolding with_equations_of span
  state-report-no = (
    λ e. rootless-iff.0 ((report-none side (span z) s pivots).0 ((found_none _).0 (sym a.given.root-found ∙ e))),
    λ h. a.given.root-found ∙ (found_none _).1 ((report-none side (span z) s pivots).1 (rootless-iff.1 h)),
  )

  pub state-report-value : c.result.has_root_of ≡ false → c.result.root ≡ pos 0
  state-report-value e = a.given.root-value ∙ none-value _ (sym a.given.root-found ∙ e)

  pub state-report-yes : c.result.has_root_of ≡ true → LastRoot side (left z c) c c.result.root
  unfolding with_equations_of span
  state-report-yes e =
      subst (LastRoot side (left z c) c) (sym a.given.root-value)
      (furthest-last (report-some side (span z) s pivots (found_some _ (sym a.given.root-found ∙ e))))

  pub state-past : (n : ℤ) → PastRoot side c.result n → Past side (report side (span z) s) n
  unfolding root_found root_value
  state-past n past = by side c.result (report side (span z) s) a.given.root-found a.given.root-value past
    where
      by : (side : Side) (r : Result) (o : Option ℤ) → r.has_root_of ≡ root_found o → r.root ≡ root_value o → PastRoot side r n
          → Past side o n
      by side r none e f h = tt
      by leading r (some x) e f h = subst (λ y. y <ℤ n) f (h e)
      by trailing r (some x) e f h = subst (λ y. n <ℤ y) f (h e)

  -- What was left passes the checks of a call.
  pub left-passes : Passed (left z c) c.result.relations c.row_store c.relation_store
  unfolding row_store_for
  left-passes =
      zero-passed
      (ap₂ (λ k n. check_stores_of (with_equations_of k z) n c.row_store c.relation_store) a.given.row_count a.given.relation-count
      ∙ ap₂ (check_stores_of (with_equations_of (rank s) z) (length s.relations))
      (rewritten-is a.given.row-store ∙ append_assoc (row_store_of s.rows) _ _) (rewritten-is a.given.relation-store)
      ∙ valid-stores (with_equations_of (rank s) z) s.rows s.relations _ _ a.valid)

-- ---- the calls as they are called

module _ {side : Side} {z : Sizes} {count : ℕ} {rows relations : List ℤ} {c : Call}
    (ran : Ran side z count rows relations c) where
  pub number-of : RunNumber (Number c)
  number-of = number-course (course ran)

  pub fields-zero : Number c ≢ 0 → c.result ≡ refusal (Number c)
  fields-zero = fields-course (course ran)

  pub stores-kept : FoundBefore (Number c) → (c.row_store ≡ rows) × (c.relation_store ≡ relations)
  stores-kept = kept-course (course ran)

  pub stores-cleared : FoundDuring (Number c)
      → Cleared (row_need (equations z)) rows c.row_store × Cleared relation_need relations c.relation_store
  stores-cleared = cleared-course (course ran)

  pub rest-kept : Kept (row_need (equations z)) rows c.row_store × Kept relation_need relations c.relation_store
  rest-kept = rest-course (course ran)

  pub two-exactly : (Number c ≡ 2) ↔ (¬ InRange z count)
  two-exactly = two-course (course ran)

  pub one-exactly : (Number c ≡ 1) ↔ (InRange z count × (¬ LongEnough z rows relations))
  one-exactly = one-course (course ran)

  pub five-exactly : (Number c ≡ 5) ↔ (InRange z count × LongEnough z rows relations × (¬ NumbersRight z count rows relations))
  five-exactly = five-course (course ran)

  pub during-exactly : (n : ℕ) → FoundDuring n
      → (Number c ≡ n) ↔ (Passed z count rows relations × (ruled side z count rows relations ≡ refused n))
  during-exactly = during-course (course ran)

  pub accepted-exactly : (Number c ≡ 0)
      ↔ (Passed z count rows relations × ((s : State) × (ruled side z count rows relations ≡ done s)))
  accepted-exactly = accepted-course (course ran)

  pub unsatisfied-ten : Number c ≡ 10 → (y : Sequence) → Solves z count rows relations y → ⊥
  unsatisfied-ten e =
      let h = (during-exactly 10 (omega arith, omega arith)).0 e in
      refused-inconsistent side (passed-valid h.0) h.1

  -- Once the checks pass, a refusal is one that is found during the work.
  pub begun : Passed z count rows relations → (Number c ≡ 0) ⊎ FoundDuring (Number c)
  begun p = begun-course p (course ran)

  -- A call without a refusal.
  module _ (e : Number c ≡ 0) where
    pub accepted : (s : State) × AcceptedAs side z count rows relations c s
    accepted = accepted-as (course ran) e

    pub sequences : (y : Sequence)
        → Solves z count rows relations y ↔ Solves (left z c) c.result.relations c.row_store c.relation_store y
    unfolding equations with_equations_of
    sequences y =
        let (s, a) = accepted in
        subst₂ (λ r l. Solves z count rows relations y
        ↔ Satisfies z.l r l y) (sym a.given.rows-held) (sym a.given.relations-held)
        (same-sequences (state-accepted a) y)

    pub triangular : Triangular side (left z c) c
    triangular = let (s, a) = accepted in state-triangular (left_as a)

    pub most-unknowns : c.result.rank ≤ z.m
    most-unknowns = let (s, a) = accepted in subst (λ n. n ≤ z.m) (sym a.given.row_count) (rank_most (state-accepted a))

    pub most-equations : c.result.rank ≤ equations z
    most-equations = let (s, a) = accepted in subst (λ n. n ≤ equations z) (sym a.given.row_count) (rank-few (state-accepted a))

    pub below-dependent : (c.result.rank < equations z) ↔ Dependent z.l (rows_of (equations z) rows)
    below-dependent =
        let (s, a) = accepted in
        subst (λ n. (n < equations z) ↔ Dependent z.l (rows_of (equations z) rows)) (sym a.given.row_count)
        (rank_below (state-accepted a))

    pub kept-independent : ¬ Dependent z.l (rows_of c.result.rank c.row_store)
    kept-independent =
        let (s, a) = accepted in
        subst (λ r. ¬ Dependent z.l r) (sym a.given.rows-held) (rows-independent (state-accepted a))

    pub undropped-independent : c.result.rank ≡ equations z → ¬ Dependent z.l (rows_of (equations z) rows)
    undropped-independent same d = omega (arith, same, below-dependent.1 d)

    -- The places behind the rows that are left hold 0.
    pub freed : Freed (row_need (equations z)) (row_need c.result.rank) c.row_store
    unfolding row_store_for row_need zeros
    freed =
        let (s, a) = accepted in
        let kept : ℕ = row_need c.result.rank in
        let gone : ℕ = (equations z - length s.rows) * row_length in
        let rest : List ℤ = drop (row_need (equations z)) rows in
        let count_kept : length s.rows ≡ c.result.rank = (diagonal-nonzero (state-accepted a)).row_count ∙ sym a.given.row_count in
        let shapes = (output-valid (state-accepted a)).row-shapes in
        let stored : drop kept c.row_store ≡ replicate gone (pos 0) ++ rest =
        ap (drop kept)
        (rewritten-is a.given.row-store ∙ append_assoc (row_store_of s.rows) (replicate gone (pos 0)) rest)
        ∙ drop_at (row_store_of s.rows) _ kept (length-row_store_of s.rows shapes ∙ ap row_need count_kept) in
        let many : gone ≡ row_need (equations z) - kept = omega (arith, count_kept) in
        ap (take (row_need (equations z) - kept)) stored
        ∙ take_at (replicate gone (pos 0)) _ (row_need (equations z) - kept) (length-replicate gone (pos 0) ∙ many)
        ∙ ap (λ n. replicate n (pos 0)) many

    pub shifts-few : c.result.shifts ≤ equations z * span z
    shifts-few =
        let (s, a) = accepted in
        subst (λ n. n ≤ equations z * span z) (sym a.given.shift_count) (shifts-bounded (state-accepted a))

    pub relations-first : (more : List Relation)
        × (relations_of c.result.relations c.relation_store ≡ relations_of count relations ++ more) × Listed more
    relations-first =
        let (s, a) = accepted in
        let (more, same, groups) = relations-listed (state-accepted a) in
        (more, a.given.relations-held ∙ same, groups)

    pub root-no : (c.result.has_root_of ≡ false) ↔ NoRoot side (left z c) c
    root-no = let (s, a) = accepted in state-report-no (left_as a)

    pub root_none : c.result.has_root_of ≡ false → c.result.root ≡ pos 0
    root_none = let (s, a) = accepted in state-report-value (left_as a)

    pub root-yes : c.result.has_root_of ≡ true → LastRoot side (left z c) c c.result.root
    root-yes = let (s, a) = accepted in state-report-yes (left_as a)

    pub times_none : c.result.has_root_of ≡ false → c.result.multiplicity ≡ 0
    times_none = let (s, a) = accepted in state-times-no a

    pub times-yes : c.result.has_root_of ≡ true → (s : State) × (ruled side z count rows relations ≡ done s)
        × (c.result.multiplicity ≡ multiplicity (product (diagonal side (span z) s)) c.result.root) × (1 ≤ c.result.multiplicity)
    times-yes e = let (s, a) = accepted in let t = state-times-yes a e in (s, a.accepts, t.0, t.1)

    pub output-passes : Passed (left z c) c.result.relations c.row_store c.relation_store
    output-passes = let (s, a) = accepted in left-passes (left_as a)

-- Where the rank is m, solutions that agree on D successive vectors past the reported root agree ever after (SCOPE 2.116, 2.117).
module _ {z : Sizes} {count : ℕ} {rows relations : List ℤ} {c : Call} where
  pub agrees-leading : Ran leading z count rows relations c → Number c ≡ 0 → c.result.rank ≡ z.m
      → (y w : Sequence) → Solves z count rows relations y → Solves z count rows relations w
      → (n : ℤ) → PastRoot leading c.result n → AgreeBetween z y w (n +ℤ z.t) (n +ℤ z.l) → AgreeFrom z y w (n +ℤ z.t)
  agrees-leading ran e full y w hy hw n past =
      let (s, a) = accepted ran e in
      agreement-leading (state-accepted a) (sym a.given.row_count ∙ full) y w hy hw n (state-past (left_as a) n past)

  pub agrees-trailing : Ran trailing z count rows relations c → Number c ≡ 0 → c.result.rank ≡ z.m
      → (y w : Sequence) → Solves z count rows relations y → Solves z count rows relations w
      → (n : ℤ) → PastRoot trailing c.result n → AgreeDown z y w (n +ℤ z.t) (n +ℤ z.l) → AgreeUpTo z y w (n +ℤ z.l)
  agrees-trailing ran e full y w hy hw n past =
      let (s, a) = accepted ran e in
      agreement-trailing (state-accepted a) (sym a.given.row_count ∙ full) y w hy hw n (state-past (left_as a) n past)

-- Sequences with a first index: nothing below the index k + t is used.
pub from-unused : {z : Sizes} {count : ℕ} {rows relations : List ℤ} → Passed z count rows relations → (j k : ℤ) → k ≤ℤ j
    → (y w : Sequence) → AgreeFrom z y w (k +ℤ z.t) → SolvesFrom z j k count rows relations y → SolvesFrom z j k count rows relations w
from-unused p = first-index (passed-valid p)

-- What is satisfied from an index on, before the run and after it.
module _ {z : Sizes} {count : ℕ} {rows relations : List ℤ} {c : Call} (ran : Ran leading z count rows relations c) (e : Number c ≡ 0)
    (k : ℤ) (y : Sequence) where
  pub from-kept : SolvesFrom z k k count rows relations y
      → SolvesFrom (left z c) k k c.result.relations c.row_store c.relation_store y
  unfolding equations with_equations_of
  from-kept h =
      let (s, a) = accepted ran e in
      subst₂ (λ r l. SatisfiesFrom z.l k k r l y) (sym a.given.rows-held) (sym a.given.relations-held)
      (forward-from (state-accepted a) k y h)

  pub from_back : SolvesFrom (left z c) k k c.result.relations c.row_store c.relation_store y
      → SolvesFrom z (k +ℤ pos c.result.shifts) k count rows relations y
  unfolding equations with_equations_of
  from_back h =
      let (s, a) = accepted ran e in
      subst (λ n. SolvesFrom z (k +ℤ pos n) k count rows relations y) (sym a.given.shift_count)
      (backward-from (state-accepted a) k y
      (subst₂ (λ r l. SatisfiesFrom z.l k k r l y) a.given.rows-held a.given.relations-held h))
