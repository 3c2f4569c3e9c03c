-- What the work of a replay gives and leaves: the steps of a log, and then its order.
--
-- Main definitions
--   outcome_of m D steps log s    the outcome of the steps of a log and its order
--   Worked rows .. first o x     what the work gives
--   WorkedTo rows .. first r x   the same of its result r
--   Left rows .. first o x       what is left where it is refused, too
--
-- Main statements
--   outcome-refused              an answer with a refusal
--   work-refused, work-ended     a step is refused; the end
--   left-held, left-cleared      what is left of a replay that is not refused, and of one that is
--   left-cleared_whole           the same where the whole relation store is cleared
use Rattle.std.specs.Prelude.{ℕ, zero, suc, ◌*◌, ◌≡◌, refl, ◌≢◌, Bool, List, ℤ, Result}
use Rattle.std.proofs.Math.Nat.{le_trans}
use Rattle.std.proofs.Common.{sym, ◌∙◌}
use Rattle.std.proofs.Math.Path.{ap, ap₂}
use Rattle.lists.specs.Overwritten.{overwrite}
use Rattle.rules.specs.Limits.{relation_length}
use Rattle.rules.specs.Calls.{zeros}
use Rattle.rules.specs.Elimination.{State, Outcome, going, refused, and_then}
use Rattle.rules.specs.Stores.{row_need, relation_need}
use Rattle.sides.specs.StoreStates.{kept_then}
use Rattle.reduction.specs.declared.step.Progress.{Progress}
use Rattle.reduction.specs.declared.step.Stop.{Stop}
use Rattle.reduction.specs.Answer as Answer
use Rattle.reduction.specs.Answer.{told, progress_at, run_answer}
use Rattle.reduction.specs.Progress.{Ready, Reached, state_of, outcome_at, answer_of, start_progress}
use Rattle.reduction.specs.Progress as Progress
use Rattle.reduction.specs.Dropping.{freed-then, kept_more}
use Rattle.reduction.specs.Ran.{RanWithin, ran-held, listed-cleared, ran-cleared_whole}
use Rattle.log_steps.specs.Logs.{most_steps, steps_in, numbers_in, replayed, ordered}
use Rattle.replays.specs.Replays.{Replayed}
use Rattle.replays.specs.Endings.{Finished, Ended}

abbrev pub outcome_of : ℕ → ℕ → ℕ → List ℤ → State → Outcome
outcome_of m D steps log s = and_then (replayed D (steps_in steps log) s) (ordered m (numbers_in steps log))

-- ---- the work

pub record Worked (rows relations rows' relations' : List ℤ) (first : Progress) (o : Answer.Outcome) (x : Outcome) : Type 0 where
  pub reached : Reached first.rows rows relations rows' relations' most_steps o x
  pub finished : Finished o

-- The same of its result: with a refusal the stores are those of the progress at it.
abbrev pub WorkedTo : List ℤ → List ℤ → List ℤ → List ℤ → Progress → Result Progress Stop → Outcome → Type 0
WorkedTo rows relations rows' relations' first r x = Worked rows relations rows' relations' first (run_answer (told r) (progress_at r)) x

pub record Left (rows relations rows' relations' : List ℤ) (first : Progress) (o : Answer.Outcome) (x : Outcome) : Type 0 where
  pub ran : RanWithin most_steps first.rows rows relations rows' relations' o x
  pub finished : Finished o

pub outcome-refused : (n : ℕ) (d : Bool) (s : State) → n ≢ 0 → Progress.outcome_of n d s ≡ refused n
unfolding Progress.outcome_of
outcome-refused zero d s h = absurd (h refl)
outcome-refused (suc n) d s h = refl

module _ {rows relations rows' relations' : List ℤ} {first : Progress} {o : Answer.Outcome} {x : Outcome} (f : State → Outcome)
    (r : Replayed rows relations rows' relations' first o x) where
  pub work-refused : o.refusal ≢ 0 → Worked rows relations rows' relations' first o (and_then x f)
  unfolding and_then
  work-refused n =
      record {
        reached =
            record {
              outcome = is-refused ∙ ap (λ y. and_then y f) (sym is-refused ∙ r.reached.outcome);
              fewer = r.reached.fewer;
              freed = r.reached.freed;
              rows-kept = r.reached.rows-kept;
              relations-kept = r.reached.relations-kept;
              few-shifts = r.reached.few-shifts;
              ready = r.reached.ready;
            };
        finished = record { all_settled = λ e. absurd (n e) };
      }
    where
      is-refused : outcome_at rows' relations' o ≡ refused o.refusal
      is-refused = outcome-refused o.refusal o.done (state_of rows' relations' o.progress) n

  pub work-ended : {o' : Answer.Outcome} → o.refusal ≡ 0
      → Ended rows' relations' o.progress o' (f (state_of rows' relations' o.progress))
      → Worked rows relations rows' relations' first o' (and_then x f)
  unfolding and_then Progress.outcome_of
  work-ended {o'} z h =
      record {
        reached =
            record {
              outcome = h.reached.outcome ∙ ap (λ y. and_then y f) (sym went ∙ r.reached.outcome);
              fewer = le_trans h.reached.fewer r.reached.fewer;
              freed = freed-then first.rows o.progress.rows o'.progress.rows r.reached.fewer h.reached.fewer
                  r.reached.freed h.reached.rows-kept h.reached.freed;
              rows-kept = kept_then r.reached.rows-kept
                  (kept_more o.progress.rows first.rows r.reached.fewer h.reached.rows-kept);
              relations-kept = kept_then r.reached.relations-kept h.reached.relations-kept;
              few-shifts = le_trans h.reached.few-shifts r.reached.few-shifts;
              ready = h.reached.ready;
            };
        finished = h.finished;
      }
    where
      went : outcome_at rows' relations' o ≡ going (state_of rows' relations' o.progress)
      went = ap₂ (λ k t. Progress.outcome_of k t (state_of rows' relations' o.progress)) z r.goes_on

-- ---- what is left

pub left-held : {rows relations rows' relations' : List ℤ} {first : Progress} {o : Answer.Outcome} {x : Outcome} → Ready rows relations first
    → Worked rows relations rows' relations' first o x → o.refusal ≡ 0 → Left rows relations rows' relations' first o x
left-held ready w e = record { ran = ran-held ready.rows-within.long w.reached e; finished = w.finished }

pub left-cleared_whole : {rows relations rows₁ relations₁ rows₂ relations₂ : List ℤ} {first : Progress} {o : Answer.Outcome} {x : Outcome}
    → Ready rows relations first → Worked rows relations rows₁ relations₁ first o x → o.refusal ≢ 0
    → rows₂ ≡ overwrite (zeros (row_need first.rows)) rows₁ → relations₂ ≡ overwrite (zeros relation_need) relations₁
    → Left rows relations rows₂ relations₂ first (answer_of o.refusal (start_progress first.rows 0)) x
left-cleared_whole ready w n e f =
    record {
      ran = ran-cleared_whole ready.few-rows ready.rows-within.long w.reached n e f;
      finished = record { all_settled = λ z. absurd (n z) };
    }

pub left-cleared : {rows relations rows₁ relations₁ rows₂ relations₂ : List ℤ} {first : Progress} {o : Answer.Outcome} {x : Outcome}
    → Ready rows relations first → Worked rows relations rows₁ relations₁ first o x → o.refusal ≢ 0
    → rows₂ ≡ overwrite (zeros (row_need first.rows)) rows₁ → relations₂ ≡ overwrite (zeros (o.progress.count * relation_length)) relations₁
    → Left rows relations rows₂ relations₂ first (answer_of o.refusal (start_progress first.rows 0)) x
left-cleared ready w n e f = left-cleared_whole ready w n e (listed-cleared w.reached.ready.listing f)
