-- What a whole run gives back and leaves in both stores, by its outcome.
--
-- Main definitions
--   run_of side equations count rows relations   the run of the state that the stores hold
--   progress_of s                   how far a run has come with the state s
--   answer_for_of equations x          the answer of a run with the outcome x
--   rows_after_of equations x store, relations_after_of x store   the stores after it: the state of x, or zeros after a refusal
--   RanWithin most equations .. o x        the answer o and both stores are those of x, the stores are ready for a step, and there are at
--                                          most so many shifts
--   Ran equations .. o x                   the same with the most shifts of a run
--
-- Main statements
--   zeros-small                    zeros are within ±C
--   ran-held                       a run without a refusal
--   listed-cleared                 where the listed relations are cleared, the whole relation store is
--   ran-cleared                    a refused run, after the rows and the relations that it has listed are cleared
--   ran-cleared_whole              the same where the whole relation store is cleared
--   cleared-zeros                  how they are
--   ran-kept                       a refused run on stores that were changed before it
use Rattle.std.specs.Prelude.{ℕ, zero, suc, ◌+◌, ◌*◌, ◌-◌, ◌≤◌, ◌≡◌, ◌≢◌, Bool, List, ◌++◌, ℤ, pos, length, take, replicate}
use Rattle.std.proofs.Common.{zero-le, le_refl, le_of_eq, zero-add, add-sub_of_le, arith, ◌∙◌, subst₂, append_assoc, length-append, length-drop, take-append-drop, take-add, take_all, drop-drop, length-take-le}
use Rattle.std.proofs.Math.Path.{refl, sym, ap, ap₂, subst}
use Rattle.std.proofs.Math.Bool.{true, false}
use Rattle.std.proofs.Math.Dec.{T}
use Rattle.std.proofs.Math.ListN.{drop}
use Rattle.std.proofs.lemmas.List.{length-replicate, replicate-append-replicate}
use Rattle.std.proofs.Math.Seq.{paste, take_at, drop_at}
use Rattle.algebra.specs.Polynomials.{is_zero_of, is_zero-replicate, zero-list}
use Rattle.rules.specs.Limits.{column_count, most_equations, row_length, relation_length, small}
use Rattle.lists.specs.Tests.{every}
use Rattle.lists.specs.Taken.{drop-take}
use Rattle.rules.specs.Stores.{rows_of, relations_of, row_need, relation_need, row_store_for, relation_store_of}
use Rattle.rules.specs.Elimination.{Side, State, Outcome, going, done, refused, run, enough, start}
use Rattle.rules.specs.Layout.{row_store_of-rows_of, relation_store_of-relations_of, length-rows_of, length-relations_of}
use Rattle.rules.specs.Calls.{zeros}
use Rattle.lists.specs.Padded.{pad_to}
use Rattle.lists.specs.Overwritten.{overwrite}
use Rattle.sides.specs.Lent.{Within, Listing, Kept}
use Rattle.sides.specs.StoreStates.{kept_then}
use Rattle.reduction.specs.declared.step.Progress.{Progress}
use Rattle.reduction.specs.Answer as Answer
use Rattle.reduction.specs.Progress.{Ready, Freed, Reached, state_of, outcome_of, refused-is, answer_of, most_steps, start_progress}
use Rattle.reduction.specs.Dropping.{freed-none}
use Rattle.reduction.specs.RunLaws.{start-ready}

abbrev pub run_of : Side → ℕ → ℕ → List ℤ → List ℤ → Outcome
run_of side equations count rows relations = run side (enough (rows_of equations rows))
    (start (rows_of equations rows) (relations_of count relations))

-- Zeros past the columns of the settled rows.
unfoldable pub progress_of : State → Progress
unfolding pad_to
progress_of s =
    record {
      rows = length s.rows;
      settled = length s.order;
      order = pad_to column_count 0 s.order;
      count = length s.relations;
      shifts = s.shifts;
    }

unfoldable pub answer_for_of : ℕ → Outcome → Answer.Outcome
unfolding progress_of
answer_for_of equations (going s) = record { refusal = 0; done = false; progress = progress_of s }
answer_for_of equations (done s) = record { refusal = 0; done = true; progress = progress_of s }
answer_for_of equations (refused n) = answer_of n (start_progress equations 0)

-- A refusal during the work leaves the needed part zero, and the rest as it was (SCOPE 6.33).
unfoldable pub rows_after_of : ℕ → Outcome → List ℤ → List ℤ
unfolding overwrite zeros row_need row_store_for
rows_after_of equations (going s) store = overwrite (row_store_for equations s.rows) store
rows_after_of equations (done s) store = overwrite (row_store_for equations s.rows) store
rows_after_of equations (refused n) store = overwrite (zeros (row_need equations)) store

unfoldable pub relations_after_of : Outcome → List ℤ → List ℤ
unfolding overwrite zeros relation_store_of
relations_after_of (going s) store = overwrite (relation_store_of s.relations) store
relations_after_of (done s) store = overwrite (relation_store_of s.relations) store
relations_after_of (refused n) store = overwrite (zeros relation_need) store

pub record RanWithin (most equations : ℕ) (rows relations rows' relations' : List ℤ) (o : Answer.Outcome) (x : Outcome) : Type 0 where
  pub answer : o ≡ answer_for_of equations x
  pub rows-after : rows' ≡ rows_after_of equations x rows
  pub relations-after : relations' ≡ relations_after_of x relations
  pub reached : Reached equations rows relations rows' relations' most o x

abbrev pub Ran : ℕ → List ℤ → List ℤ → List ℤ → List ℤ → Answer.Outcome → Outcome → Type 0
Ran = RanWithin most_steps

-- ---- a run without a refusal

-- A store whose needed part is overwritten by the numbers of another with the same rest.
overwrite-kept : (need : ℕ) (part store after : List ℤ) → need ≤ length after → Kept need store after → part ≡ take need after
    → after ≡ overwrite part store
unfolding overwrite
overwrite-kept need part store after long kept e =
    sym
    (ap₂ (λ p n. p ++ drop n store) e (ap length e ∙ length-take-le need after long)
    ∙ ap (λ l. take need after ++ l) (sym kept.same_rest) ∙ take-append-drop need after)

-- The progress is that of the state that the stores hold with it.
held-progress : {rows relations : List ℤ} {p : Progress} → Ready rows relations p → p
    ≡ progress_of (state_of rows relations p)
unfolding progress_of state_of
held-progress {rows} {relations} {p} r =
    let left = sym (length-rows_of p.rows rows) in
    let settled = sym (length-take-le p.settled p.order (omega (arith, r.few-settled, r.four))) in
    let count = sym (length-relations_of p.count relations) in
    λ i. record { rows = left i; settled = settled i; order = r.padded i; count = count i; shifts = p.shifts }

-- The rows that are left, and zeros in the places of the others.
held-store : (equations n : ℕ) (store : List ℤ) → n ≤ equations → Freed equations n store
    → row_store_for equations (rows_of n store) ≡ take (row_need equations) store
unfolding row_store_for row_need zeros
held-store equations n store h freed =
    ap₂ (λ l k. l ++ replicate ((equations - k) * row_length) (pos 0)) (row_store_of-rows_of n store) (length-rows_of n store)
    ∙ ap (λ l. take (n * row_length) store ++ l) (sym freed)
    ∙ sym (take-add (n * row_length) ((equations - n) * row_length) store) ∙ ap (λ k. take k store) whole
  where
    whole : n * row_length + (equations - n) * row_length ≡ equations * row_length
    whole = omega arith

-- Going on or done.
module _ (s : State) where
  held-answer : (equations : ℕ) (d : Bool) → record { refusal = 0; done = d; progress = progress_of s }
      ≡ answer_for_of equations (outcome_of 0 d s)
  unfolding answer_for_of outcome_of
  held-answer equations false = refl
  held-answer equations true = refl

  held_rows : (equations : ℕ) (d : Bool) (store : List ℤ) → overwrite (row_store_for equations s.rows) store
      ≡ rows_after_of equations (outcome_of 0 d s) store
  unfolding rows_after_of outcome_of
  held_rows equations false store = refl
  held_rows equations true store = refl

  held-relations : (d : Bool) (store : List ℤ) → overwrite (relation_store_of s.relations) store ≡ relations_after_of (outcome_of 0 d s) store
  unfolding relations_after_of outcome_of
  held-relations false store = refl
  held-relations true store = refl

pub ran-held : {most equations : ℕ} {rows relations rows' relations' : List ℤ} {o : Answer.Outcome} {x : Outcome}
    → row_need equations ≤ length rows → Reached equations rows relations rows' relations' most o x → o.refusal ≡ 0
    → RanWithin most equations rows relations rows' relations' o x
unfolding state_of
ran-held {most} {equations} {rows} {relations} {rows'} {relations'} {o} {x} room r e =
    record {
      answer = whole ∙ held-answer s equations o.done ∙ ap (answer_for_of equations) same;
      rows-after =
          overwrite-kept (row_need equations) (row_store_for equations s.rows) rows rows' long r.rows-kept
          (held-store equations o.progress.rows rows' r.fewer r.freed)
          ∙ held_rows s equations o.done rows ∙ ap (λ y. rows_after_of equations y rows) same;
      relations-after =
          overwrite-kept relation_need (relation_store_of s.relations) relations relations' listing.within.long r.relations-kept
          (relation_store_of-relations_of o.progress.count relations' listing.few listing.within.long listing.unused)
          ∙ held-relations s o.done relations ∙ ap (λ y. relations_after_of y relations) same;
      reached = r;
    }
  where
    ready : Ready rows' relations' o.progress
    ready = r.ready

    long : row_need equations ≤ length rows'
    long = rw r.rows-kept.same_length room

    listing : Listing o.progress.count relations'
    listing = ready.listing

    s : State
    s = state_of rows' relations' o.progress

    same : outcome_of 0 o.done s ≡ x
    same = ap (λ n. outcome_of n o.done s) (sym e) ∙ r.outcome

    whole : o ≡ record { refusal = 0; done = o.done; progress = progress_of s }
    whole = λ i. record { refusal = e i; done = o.done; progress = held-progress ready i }

-- ---- a refused run

pub zeros-small : (n : ℕ) → T (every small (zeros n))
unfolding zeros every small
zeros-small zero = tt
zeros-small (suc n) = zeros-small n

length-zeros : (n : ℕ) → length (zeros n) ≡ n
unfolding zeros
length-zeros n = length-replicate n (pos 0)

-- A store whose needed part holds zeros.
module _ (need : ℕ) (store : List ℤ) where
  abbrev size : length (zeros need) ≡ need
  size = length-zeros need

  needed-zeros : take need (overwrite (zeros need) store) ≡ zeros need
  unfolding overwrite
  needed-zeros = take_at (zeros need) (drop (length (zeros need)) store) need size

  zeros_within : need ≤ length store → Within need (overwrite (zeros need) store)
  unfolding overwrite
  zeros_within h =
      record {
        long = simp (length-append, length-drop) (omega (arith, size));
        numbers = subst (λ l. T (every small l)) (sym needed-zeros) (zeros-small need);
      }

  zeros-kept : need ≤ length store → Kept need store (overwrite (zeros need) store)
  unfolding overwrite
  zeros-kept h =
      record {
        same_length = simp (length-append, length-drop) (omega (arith, size));
        same_rest = drop_at (zeros need) (drop (length (zeros need)) store) need size ∙ ap (λ n. drop n store) size;
      }

  -- Nothing else is left of a store with the same rest.
  zeros-over : {after : List ℤ} → Kept need store after → overwrite (zeros need) after ≡ overwrite (zeros need) store
  unfolding overwrite
  zeros-over {after} kept =
      ap (λ l. zeros need ++ l)
      (ap (λ n. drop n after) size ∙ kept.same_rest ∙ ap (λ n. drop n store) (sym size))

  pub cleared-zeros : paste store 0 (replicate need (pos 0)) need ≡ overwrite (zeros need) store
  unfolding overwrite zeros
  cleared-zeros =
      ap₂ (λ z n. z ++ drop n store) (take_all need (zeros need) (le_of_eq size)) (zero-add need ∙ sym size)

-- Where the places past the used ones hold 0, all are cleared with those.
clear-used : (used need : ℕ) (store : List ℤ) → used ≤ need → need ≤ length store → T (is_zero_of (drop used (take need store)))
    → overwrite (zeros used) store ≡ overwrite (zeros need) store
unfolding overwrite zeros
clear-used used need store h g z =
    ap (λ n. zeros used ++ drop n store) (length-zeros used)
    ∙ ap (λ l. zeros used ++ l) (sym (take-append-drop rest (drop used store)) ∙ ap₂ (λ k l. k ++ l) unused (drop-drop rest used store))
    ∙ sym (append_assoc (zeros used) (zeros rest) (drop (used + rest) store))
    ∙ ap₂ (λ k n. k ++ drop n store) (replicate-append-replicate used rest (pos 0) ∙ ap zeros total) (total ∙ sym (length-zeros need))
  where
    rest : ℕ
    rest = need - used

    total : used + rest ≡ need
    total = add-sub_of_le h

    unused-size : length (drop used (take need store)) ≡ rest
    unused-size = length-drop used (take need store) ∙ ap (λ n. n - used) (length-take-le need store g)

    unused : take rest (drop used store) ≡ zeros rest
    unused =
        sym (drop-take used rest store) ∙ ap (λ n. drop used (take n store)) total ∙ zero-list (drop used (take need store)) z
        ∙ ap zeros unused-size

-- So it is with the relations that are listed.
pub listed-cleared : {count : ℕ} {relations relations' : List ℤ} → Listing count relations
    → relations' ≡ overwrite (zeros (count * relation_length)) relations → relations' ≡ overwrite (zeros relation_need) relations
listed-cleared {count} {relations} listing e =
    e ∙ clear-used (count * relation_length) relation_need relations (omega (arith, listing.few)) listing.within.long listing.unused

zeros-listing : (store : List ℤ) → relation_need ≤ length store → Listing 0 (overwrite (zeros relation_need) store)
unfolding zeros
zeros-listing store h =
    record {
      few = zero-le;
      within = zeros_within relation_need store h;
      unused = subst (λ l. T (is_zero_of l)) (sym (needed-zeros relation_need store)) (is_zero-replicate relation_need);
    }

refused-outcome : {most equations : ℕ} {rows relations rows' relations' : List ℤ} {o : Answer.Outcome} {x : Outcome}
    → Reached equations rows relations rows' relations' most o x → o.refusal ≢ 0 → refused o.refusal ≡ x
refused-outcome {most} {equations} {rows} {relations} {rows'} {relations'} {o} r n =
    refused-is o.refusal o.done (state_of rows' relations' o.progress) n ∙ r.outcome

-- Both stores hold zeros, and the progress is that of a run that has not begun.
ran-zeros : (most equations n : ℕ) (rows relations : List ℤ) → n ≢ 0 → equations ≤ most_equations → row_need equations ≤ length rows
    → relation_need ≤ length relations
    → RanWithin most equations rows relations (overwrite (zeros (row_need equations)) rows) (overwrite (zeros relation_need) relations)
    (answer_of n (start_progress equations 0))
    (refused n)
unfolding answer_for_of rows_after_of relations_after_of
ran-zeros most equations n rows relations h few rows_long relations-long =
    record {
      answer = refl;
      rows-after = refl;
      relations-after = refl;
      reached =
          record {
            outcome = sym (refused-is n false (state_of rows' relations' (start_progress equations 0)) h);
            fewer = le_refl equations;
            freed = freed-none equations rows';
            rows-kept = zeros-kept (row_need equations) rows rows_long;
            relations-kept = zeros-kept relation_need relations relations-long;
            few-shifts = zero-le;
            ready =
                start-ready equations 0 rows' relations' few (zeros_within (row_need equations) rows rows_long)
                (zeros-listing relations relations-long);
          };
    }
  where
    rows' : List ℤ
    rows' = overwrite (zeros (row_need equations)) rows

    relations' : List ℤ
    relations' = overwrite (zeros relation_need) relations

-- The rows and the whole relation store are cleared,
pub ran-cleared_whole : {most equations : ℕ} {rows relations rows₁ relations₁ rows₂ relations₂ : List ℤ} {o : Answer.Outcome} {x : Outcome}
    → equations ≤ most_equations → row_need equations ≤ length rows
    → Reached equations rows relations rows₁ relations₁ most o x → o.refusal ≢ 0
    → rows₂ ≡ overwrite (zeros (row_need equations)) rows₁ → relations₂ ≡ overwrite (zeros relation_need) relations₁
    → RanWithin most equations rows relations rows₂ relations₂ (answer_of o.refusal (start_progress equations 0)) x
ran-cleared_whole {most} {equations} {rows} {relations} {rows₁} {relations₁} {rows₂} {relations₂} {o} {x} few room r n e f =
    subst₂ (λ a b. RanWithin most equations rows relations a b (answer_of o.refusal (start_progress equations 0)) x)
    (sym (e ∙ zeros-over (row_need equations) rows r.rows-kept)) (sym (f ∙ zeros-over relation_need relations r.relations-kept))
    (subst (RanWithin most equations rows relations (overwrite (zeros (row_need equations)) rows)
    (overwrite (zeros relation_need) relations) (answer_of o.refusal (start_progress equations 0))) (refused-outcome r n)
    (ran-zeros most equations o.refusal rows relations n few room
    (subst (λ k. relation_need ≤ k) r.relations-kept.same_length r.ready.listing.within.long)))

-- or the rows and the relations that are listed when the run is refused.
pub ran-cleared : {most equations : ℕ} {rows relations rows₁ relations₁ rows₂ relations₂ : List ℤ} {o : Answer.Outcome} {x : Outcome}
    → equations ≤ most_equations → row_need equations ≤ length rows
    → Reached equations rows relations rows₁ relations₁ most o x → o.refusal ≢ 0
    → rows₂ ≡ overwrite (zeros (row_need equations)) rows₁ → relations₂ ≡ overwrite (zeros (o.progress.count * relation_length)) relations₁
    → RanWithin most equations rows relations rows₂ relations₂ (answer_of o.refusal (start_progress equations 0)) x
ran-cleared few room r n e f = ran-cleared_whole few room r n e (listed-cleared r.ready.listing f)

-- The stores were changed before the run.
pub ran-kept : {most equations : ℕ} {rows relations rows₁ relations₁ rows₂ relations₂ : List ℤ} {o : Answer.Outcome} {x : Outcome}
    → Kept (row_need equations) rows rows₁ → Kept relation_need relations relations₁ → o.refusal ≢ 0
    → RanWithin most equations rows₁ relations₁ rows₂ relations₂ o x → RanWithin most equations rows relations rows₂ relations₂ o x
unfolding rows_after_of relations_after_of
ran-kept {most} {equations} {rows} {relations} {rows₁} {relations₁} {rows₂} {relations₂} {o} {x} h g n r =
    record {
      answer = r.answer;
      rows-after =
          r.rows-after
          ∙ subst (λ y. rows_after_of equations y rows₁ ≡ rows_after_of equations y rows) (refused-outcome reached n)
          (zeros-over (row_need equations) rows h);
      relations-after =
          r.relations-after
          ∙ subst (λ y. relations_after_of y relations₁ ≡ relations_after_of y relations) (refused-outcome reached n)
          (zeros-over relation_need relations g);
      reached =
          record {
            outcome = reached.outcome;
            fewer = reached.fewer;
            freed = reached.freed;
            rows-kept = kept_then h reached.rows-kept;
            relations-kept = kept_then g reached.relations-kept;
            few-shifts = reached.few-shifts;
            ready = reached.ready;
          };
    }
  where
    reached : Reached equations rows₁ relations₁ rows₂ relations₂ most o x
    reached = r.reached
