-- What rules 1 to 4 and 6 give on the state that the stores hold.
--
-- Main definitions
--   met_entries rows p j      the two entries of rule 2: of settled row j and of the row that is worked on
--   multipliers_of c target pivot, multipliers_in rows p j   the multipliers of two rows in column c, and of those two entries
--   new_row x target pivot    the new row of rule 4
--   shifted_row_of l             the new row of rule 6
--
-- Main statements
--   reached-same, reached-after      equal outcomes, and an exchange before the step
--   refused-reached                  a refusal before anything is stored
--   drop-reached                     rule 1: a row is dropped
--   multipliers-in                   the multipliers of the state are those of the store
--   combine-refused, combine-reached rules 3 and 4
--   shift-reached                    rule 6
use Rattle.std.specs.Prelude.{ℕ, suc, ◌+◌, ◌-◌, ◌≤◌, ◌<◌, ◌≡◌, refl, false, List, ◌++◌, ℤ, length, take, get_or}
use Rattle.std.proofs.Common.{le_refl, add-one, arith, ◌∙◌, subst, subst₂, get_or-take}
use Rattle.std.proofs.Math.Path.{sym, ap, ap₂}
use borrow.Author.Tests.{le-leb, lt-leb}
use Rattle.std.proofs.Math.ListN.{length-append}
use Rattle.std.proofs.lemmas.List.{length-map}
use Rattle.algebra.specs.Polynomials.{Polynomial}
use Rattle.algebra.specs.Roots.{roots}
use Rattle.rules.specs.Rows.{entry, combine, primitive, shift_up}
use Rattle.rules.specs.Stores.{row_of, rows_of, relations_of, relation_need, row_need}
use Rattle.rules.specs.Elimination.{Side, State, Outcome, going, refused, drop_row, Limited, limit_degrees, consistent, row_at, put_limited_of}
use Rattle.rules.specs.Elimination.{Multipliers, multipliers, multipliers_at, listing, list_relations, root_relations, combine_step_of}
use Rattle.rules.specs.Elimination.{limit_coefficients, count_shift, shift_step_of}
use Rattle.rules.specs.Layout.{length-relations_of}
use Rattle.working_rows.specs.Worked.{refusal_of, numbers_of}
use Rattle.reduction.specs.declared.step.Progress.{Progress}
use Rattle.reduction.specs.Answer as Answer
use Rattle.sides.specs.Lent.{Within, Kept}
use Rattle.reduction.specs.Progress.{Ready, Reached, state, state_of, outcome_of, answer_of}
use Rattle.reduction.specs.Progress.{dropped_progress, listed_progress, shifted_progress, ready_with}
use Rattle.sides.specs.StoreStates.{kept_same, kept_then}
use Rattle.sides.specs.Relations.{Relisted, length-listing}
use Rattle.reduction.specs.Dropping.{dropped, dropped-state, dropped-within, dropped-kept, dropped-freed, freed-none}
use Rattle.reduction.specs.NewRows.{Storable, saved, shifted-storable, saved-within, saved-kept, saved-outcome}
use Rattle.reduction.specs.StoreExchange.{numbers_at, length-numbers_at, row-of}

-- ---- what a step gives

-- Equal stores, answers and outcomes.
pub reached-same : {n most : ℕ} {rows relations rows' rows'' relations' : List ℤ} {o o' : Answer.Outcome} {x x' : Outcome}
    → rows' ≡ rows'' → o ≡ o' → x ≡ x' → Reached n rows relations rows'' relations' most o' x'
    → Reached n rows relations rows' relations' most o x
reached-same {n} {most} {rows} {relations} {rows'} {rows''} {relations'} {o} {o'} {x} {x'} e f g h =
    subst (λ r. Reached n rows relations r relations' most o x) (sym e)
    (subst₂ (λ a b. Reached n rows relations rows'' relations' most a b) (sym f) (sym g) h)

-- A step after the exchange.
pub reached-after : {n most : ℕ} {first rows relations rows' relations' : List ℤ} {o : Answer.Outcome} {x : Outcome}
    → Kept (row_need n) first rows → Reached n rows relations rows' relations' most o x
    → Reached n first relations rows' relations' most o x
reached-after k h =
    record {
      outcome = h.outcome;
      fewer = h.fewer;
      freed = h.freed;
      rows-kept = kept_then k h.rows-kept;
      relations-kept = h.relations-kept;
      few-shifts = h.few-shifts;
      ready = h.ready;
    }

pub refused-reached : {rows relations : List ℤ} {p : Progress} → Ready rows relations p → (n : ℕ)
    → Reached p.rows rows relations rows relations (p.shifts + 1) (answer_of (suc n) p) (refused (suc n))
unfolding outcome_of
refused-reached {rows} {relations} {p} r n =
    record {
      outcome = refl;
      fewer = le_refl p.rows;
      freed = freed-none p.rows rows;
      rows-kept = kept_same (row_need p.rows) rows;
      relations-kept = kept_same relation_need relations;
      few-shifts = omega arith;
      ready = r;
    }

-- The new row in the place of the row that is worked on, or the refusal, after relations have been listed: `after` is what the row store
-- holds then.
put-reached : {rows relations after relations' : List ℤ} (p next : Progress) (x : Limited)
    → outcome_of (refusal_of x) false (state_of after relations' next) ≡ put_limited_of (state_of rows relations' next) p.settled x
    → Within (row_need next.rows) after → Kept (row_need next.rows) rows after
    → Kept relation_need relations relations' → Ready rows relations' next → next.shifts ≤ p.shifts + 1
    → Reached next.rows rows relations after relations' (p.shifts + 1)
    (answer_of (refusal_of x) next) (put_limited_of (state_of rows relations' next) p.settled x)
put-reached {after = after} p next x e w stays k r s =
    record {
      outcome = e;
      fewer = le_refl next.rows;
      freed = freed-none next.rows after;
      rows-kept = stays;
      relations-kept = k;
      few-shifts = s;
      ready = ready_with r w r.listing;
    }

-- ---- rule 1

pub drop-reached : {rows relations : List ℤ} {p : Progress} → Ready rows relations p → p.settled < p.rows
    → Reached p.rows rows relations (dropped rows p.settled (p.rows - 1)) relations (p.shifts + 1)
    (answer_of 0 (dropped_progress p)) (going (drop_row (state_of rows relations p) p.settled))
unfolding outcome_of
drop-reached {rows} {relations} {p} r inside =
    let n = p.rows in
    let w = r.rows-within in
    record {
      outcome = ap going (dropped-state rows relations p w inside);
      fewer = omega arith;
      freed = dropped-freed n rows w p.settled inside;
      rows-kept = dropped-kept n rows w p.settled inside;
      relations-kept = kept_same relation_need relations;
      few-shifts = omega arith;
      ready =
          record {
            few-rows = omega (arith, r.few-rows);
            rows-within = dropped-within n rows w p.settled inside;
            listing = r.listing;
            settled = omega arith;
            few-settled = r.few-settled;
            different = r.different;
            four = r.four;
            columns = r.columns;
            padded = r.padded;
          };
    }

-- ---- rules 2 to 4

abbrev pub met_entries : List ℤ → Progress → ℕ → Polynomial
met_entries rows p j =
    let c = get_or p.order j 0 in entry (row_of (numbers_at rows j)) c ++ entry (row_of (numbers_at rows p.settled)) c

abbrev pub multipliers_of : ℕ → List ℤ → List ℤ → Multipliers
multipliers_of c target pivot = multipliers (entry (row_of pivot) c) (entry (row_of target) c)

abbrev pub multipliers_in : List ℤ → Progress → ℕ → Multipliers
multipliers_in rows p j = multipliers_of (get_or p.order j 0) (numbers_at rows p.settled) (numbers_at rows j)

abbrev pub new_row : Multipliers → List ℤ → List ℤ → Limited
new_row x target pivot = consistent (limit_degrees (primitive (combine x.g x.h (row_of target) (row_of pivot))))

module _ (side : Side) {rows relations : List ℤ} {p : Progress} (ready : Ready rows relations p) (j : ℕ)
    (inside : p.settled < p.rows) (settled : j < p.settled) where
  abbrev i : ℕ
  i = p.settled

  abbrev before : State
  before = state_of rows relations p

  i-row : row_at before i ≡ row_of (numbers_at rows i)
  i-row = row-of rows relations p i inside

  j-row : row_at before j ≡ row_of (numbers_at rows j)
  j-row = row-of rows relations p j (omega arith)

  pub multipliers-in : multipliers_at before i j ≡ multipliers_in rows p j
  unfolding multipliers_at state_of
  multipliers-in =
      ap (λ c. multipliers (entry (row_at before j) c) (entry (row_at before i) c)) (get_or-take i p.order j 0 settled)
      ∙ ap₂ (λ r q. multipliers (entry r (get_or p.order j 0)) (entry q (get_or p.order j 0))) j-row i-row

  module _ (x : Multipliers) where
    abbrev more : ℕ
    more = length (roots x.g)

    abbrev listed : State
    listed = list_relations before (root_relations side x.g (row_at before i))

    abbrev new : Limited
    new = new_row x (numbers_at rows i) (numbers_at rows j)

    listed-count : length listed.relations ≡ p.count + more
    unfolding state_of list_relations root_relations
    listed-count =
        length-append (relations_of p.count relations) (root_relations side x.g (row_at before i))
        ∙ ap₂ (λ a b. a + b) (length-relations_of p.count relations)
        (length-map (listing side (roots x.g)) (λ n0. record { index = n0; row = row_at before i }) ∙ length-listing side (roots x.g))

    pub combine-refused : 16 < p.count + more → combine_step_of side before i j x ≡ refused 9
    unfolding combine_step_of
    combine-refused h = rw (listed-count, lt-leb (p.count + more) 16 h)

    module _ {relations' : List ℤ} (l : Relisted p.count (numbers_at rows i) (listing side (roots x.g)) relations relations') where
      listed-state : listed ≡ state_of rows relations' (listed_progress p more)
      unfolding state_of list_relations root_relations
      listed-state = ap (λ r. state (rows_of p.rows rows) r (take i p.order) p.shifts) same
        where
          same : relations_of p.count relations ++ root_relations side x.g (row_at before i) ≡ relations_of (p.count + more) relations'
          same =
              ap (λ r. relations_of p.count relations ++ root_relations side x.g r) i-row ∙ sym l.relations
              ∙ ap (λ n. relations_of (p.count + n) relations') (length-listing side (roots x.g))

      combine-listed : p.count + more ≤ 16
          → combine_step_of side before i j x ≡ put_limited_of (state_of rows relations' (listed_progress p more)) i new
      unfolding combine_step_of
      combine-listed h =
          rw (listed-count, le-leb (p.count + more) 16 h)
          (ap₂ (λ s r. put_limited_of s i r) listed-state
          (ap₂ (λ a b. consistent (limit_degrees (primitive (combine x.g x.h a b)))) i-row j-row))

      pub combine-reached : p.count + more ≤ 16 → Storable new
          → Reached p.rows rows relations (saved rows i (refusal_of new) (numbers_of new)) relations' (p.shifts + 1)
          (answer_of (refusal_of new) (listed_progress p more)) (combine_step_of side before i j x)
      combine-reached few h =
          let next = ready_with ready ready.rows-within (rw (length-listing side (roots x.g)) at l.listing) in
          let w = ready.rows-within in
          reached-same refl refl (combine-listed few)
          (put-reached p (listed_progress p more) new (saved-outcome (listed_progress p more) i rows relations' w inside new h)
          (saved-within p.rows i rows w inside new h) (saved-kept p.rows i rows w inside new h) l.kept next (omega arith))

-- ---- rule 6

abbrev pub shifted_row_of : List ℤ → Limited
shifted_row_of l = limit_coefficients (shift_up (row_of l))

pub shift-reached : {rows relations : List ℤ} {p : Progress} → Ready rows relations p → p.settled < p.rows
    → let new = shifted_row_of (numbers_at rows p.settled) in
    Reached p.rows rows relations (saved rows p.settled (refusal_of new) (numbers_of new)) relations (p.shifts + 1)
    (answer_of (refusal_of new) (shifted_progress p)) (shift_step_of (state_of rows relations p) p.settled)
unfolding shift_step_of count_shift state_of
shift-reached {rows} {relations} {p} r inside =
    reached-same refl refl same
    (put-reached p (shifted_progress p) new (saved-outcome (shifted_progress p) i rows relations w inside new storable)
    (saved-within p.rows i rows w inside new storable) (saved-kept p.rows i rows w inside new storable)
    (kept_same relation_need relations) (ready_with r w r.listing) (omega arith))
  where
    i : ℕ
    i = p.settled

    w : Within (row_need p.rows) rows
    w = r.rows-within

    new : Limited
    new = shifted_row_of (numbers_at rows i)

    storable : Storable new
    storable = shifted-storable (numbers_at rows i) (length-numbers_at p.rows rows w i inside)

    with_shifts : ℕ → State
    with_shifts n = state (rows_of p.rows rows) (relations_of p.count relations) (take i p.order) n

    same : shift_step_of (state_of rows relations p) i
        ≡ put_limited_of (state_of rows relations (shifted_progress p)) i (shifted_row_of (numbers_at rows i))
    same =
        ap₂ (λ n q. put_limited_of (with_shifts n) i (limit_coefficients (shift_up q))) (sym (add-one p.shifts))
        (row-of rows relations p i inside)
