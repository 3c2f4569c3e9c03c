-- The loop over the steps of a log.
--
-- Main definitions
--   Replaying D l first .. p k   the loop's invariant: the first k steps of l lead from the first state to that of the progress p
--   Replayed .. first o x        what the loop gives
--   ReplayedTo .. first r x      the same of its result r
--
-- Main statements
--   replay-starts, replay-goes, replay-halts, replay-stops   the turns of the loop
use Rattle.std.specs.Prelude.{ℕ, zero, suc, ◌+◌, ◌≤◌, ◌<◌, ◌≡◌, refl, ◌≢◌, Bool, false, Result, ℤ, length, get_or, drop}
use Rattle.std.proofs.Common.{le_refl, arith, ◌∙◌, drop_of_length-le}
use Rattle.std.proofs.Math.Nat.{le_trans}
use Rattle.std.proofs.Math.Path.{sym, ap, ap₂, subst}
use mathlib.Core.List.{List, []}
use Rattle.lists.specs.Taken.{drop-next}
use Rattle.rules.specs.Stores.{row_need, relation_need}
use Rattle.rules.specs.Elimination.{State, Outcome, going, refused, and_then}
use Rattle.sides.specs.StoreStates.{kept_same, kept_then}
use Rattle.reduction.specs.declared.step.Progress.{Progress}
use Rattle.reduction.specs.declared.step.Stop.{Stop}
use Rattle.reduction.specs.Answer as Answer
use Rattle.reduction.specs.Answer.{told, progress_at, step_answer}
use Rattle.reduction.specs.Progress.{Ready, Reached, state_of, outcome_of, outcome_at, answer_of}
use Rattle.reduction.specs.Dropping.{freed-none, freed-then, kept_more}
use Rattle.log_steps.specs.Logs.{most_steps, change_of, changed_if, replayed}
use Rattle.log_steps.specs.StoreChanges.{Stepped}

pub record Replaying (D : ℕ) (l : List (List ℤ)) (first : Progress) (rows relations rows' relations' : List ℤ) (p : Progress)
    (k : ℕ) : Type 0 where
  pub reached : Reached first.rows rows relations rows' relations' k (answer_of 0 p) (going (state_of rows' relations' p))
  pub unsettled : p.settled ≡ 0
  pub rest : replayed D l (state_of rows relations first) ≡ replayed D (drop k l) (state_of rows' relations' p)

pub record Replayed (rows relations rows' relations' : List ℤ) (first : Progress) (o : Answer.Outcome) (x : Outcome) : Type 0 where
  pub reached : Reached first.rows rows relations rows' relations' most_steps o x
  pub goes_on : o.done ≡ false
  pub unsettled : o.progress.settled ≡ 0

-- The same of its result: with a refusal the stores are those of the progress at it.
abbrev pub ReplayedTo : List ℤ → List ℤ → List ℤ → List ℤ → Progress → Result Progress Stop → Outcome → Type 0
ReplayedTo rows relations rows' relations' first r x = Replayed rows relations rows' relations' first (step_answer (told r) (progress_at r)) x

outcome-refused : (n : ℕ) (d : Bool) (s : State) → n ≢ 0 → outcome_of n d s ≡ refused n
unfolding outcome_of
outcome-refused zero d s h = absurd (h refl)
outcome-refused (suc n) d s h = refl

pub replay-starts : (D : ℕ) (l : List (List ℤ)) (first : Progress) (rows relations : List ℤ) → Ready rows relations first
    → first.settled ≡ 0 → first.shifts ≡ 0 → Replaying D l first rows relations rows relations first 0
unfolding outcome_of
replay-starts D l first rows relations ready none few =
    record {
      reached =
          record {
            outcome = refl;
            fewer = le_refl first.rows;
            freed = freed-none first.rows rows;
            rows-kept = kept_same (row_need first.rows) rows;
            relations-kept = kept_same relation_need relations;
            few-shifts = omega (arith, few);
            ready = ready;
          };
      unsettled = none;
      rest = refl;
    }

module _ {D : ℕ} {l : List (List ℤ)} {first : Progress} {rows relations rows' relations' : List ℤ} {p : Progress} {k : ℕ}
    (m : Replaying D l first rows relations rows' relations' p k) where
  abbrev s : State
  s = state_of rows' relations' p

  pub replaying-shifts : p.shifts ≤ k
  replaying-shifts = m.reached.few-shifts

  pub replay-stops : {o : Answer.Outcome} → o ≡ answer_of 0 p → length l ≤ k → k ≤ most_steps
      → Replayed rows relations rows' relations' first o (replayed D l (state_of rows relations first))
  unfolding outcome_of replayed
  replay-stops {o} e all few =
      subst (λ a. Replayed rows relations rows' relations' first a (replayed D l (state_of rows relations first))) (sym e)
      (record {
        reached =
            record {
              outcome = sym (m.rest ∙ ap (λ x. replayed D x s) (drop_of_length-le l all));
              fewer = m.reached.fewer;
              freed = m.reached.freed;
              rows-kept = m.reached.rows-kept;
              relations-kept = m.reached.relations-kept;
              few-shifts = omega (arith, m.reached.few-shifts);
              ready = m.reached.ready;
            };
        goes_on = refl;
        unsettled = m.unsettled;
      })

  module _ (below : k < length l) {rows'' relations'' : List ℤ} {o : Answer.Outcome}
      (h : Stepped rows' relations' rows'' relations'' p o (changed_if D s (change_of (get_or l k [])))) where
    next : replayed D l (state_of rows relations first)
        ≡ and_then (changed_if D s (change_of (get_or l k []))) (replayed D (drop (k + 1) l))
    unfolding replayed
    next = m.rest ∙ ap (λ x. replayed D x s) (drop-next l k [] below)

    abbrev after : State
    after = state_of rows'' relations'' o.progress

    pub replay-goes : o.refusal ≡ 0 → Replaying D l first rows relations rows'' relations'' o.progress (k + 1)
    unfolding outcome_of and_then
    replay-goes z =
        record {
          reached =
              record {
                outcome = refl;
                fewer = le_trans h.reached.fewer m.reached.fewer;
                freed = freed-then first.rows p.rows o.progress.rows m.reached.fewer h.reached.fewer
                    m.reached.freed h.reached.rows-kept h.reached.freed;
                rows-kept = kept_then m.reached.rows-kept
                    (kept_more p.rows first.rows m.reached.fewer h.reached.rows-kept);
                relations-kept = kept_then m.reached.relations-kept h.reached.relations-kept;
                few-shifts = omega (arith, h.reached.few-shifts, m.reached.few-shifts);
                ready = h.reached.ready;
              };
          unsettled = h.unsettled;
          rest = next ∙ ap (λ x. and_then x (replayed D (drop (k + 1) l))) (sym h.reached.outcome ∙ went);
        }
      where
        went : outcome_at rows'' relations'' o ≡ going after
        went = ap₂ (λ n t. outcome_of n t after) z h.goes_on

    pub replay-halts : o.refusal ≢ 0 → k < most_steps
        → Replayed rows relations rows'' relations'' first o (replayed D l (state_of rows relations first))
    unfolding and_then
    replay-halts n few =
        record {
          reached =
              record {
                outcome =
                    is-refused
                    ∙ sym (next ∙ ap (λ x. and_then x (replayed D (drop (k + 1) l))) (sym h.reached.outcome ∙ is-refused));
                fewer = le_trans h.reached.fewer m.reached.fewer;
                freed = freed-then first.rows p.rows o.progress.rows m.reached.fewer h.reached.fewer
                    m.reached.freed h.reached.rows-kept h.reached.freed;
                rows-kept = kept_then m.reached.rows-kept
                    (kept_more p.rows first.rows m.reached.fewer h.reached.rows-kept);
                relations-kept = kept_then m.reached.relations-kept h.reached.relations-kept;
                few-shifts = omega (arith, h.reached.few-shifts, m.reached.few-shifts);
                ready = h.reached.ready;
              };
          goes_on = h.goes_on;
          unsettled = h.unsettled;
        }
      where
        is-refused : outcome_at rows'' relations'' o ≡ refused o.refusal
        is-refused = outcome-refused o.refusal o.done after n
