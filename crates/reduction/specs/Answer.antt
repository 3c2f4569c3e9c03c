-- What a step or a run comes to, as one record, whose fields hold of a refusal too.
--
-- Main definitions
--   Outcome                the number of a refusal, or 0; whether the run is done; and how far it has come
--   told r                 the result that a caller of the run is told: a refusal alone
--   progress_at r          how far a step or a run has come, at a refusal too
--   progress_in r left     how far a run has come with the result that is told: a refusal does not say it, and then it is `left`
--   step_answer r left     a step, which goes on or is refused
--   run_answer r left      a run, which is done where every row that is left is settled
use Rattle.std.specs.Prelude.{ℕ, Bool, false, leb, Result}
use Rattle.std.proofs.Common.{Ok, Err}
use Rattle.refusals.specs.declared.Refusal.{Refusal}
use Rattle.refusals.specs.Refusals.{refusal_in}
use Rattle.reduction.specs.declared.step.Progress.{Progress}
use Rattle.reduction.specs.declared.step.Stop.{Stop}

pub record Outcome : Type 0 where
  pub refusal : ℕ
  pub done : Bool
  pub progress : Progress

abbrev pub told : Result Progress Stop → Result Progress Refusal
told (Ok p) = Ok p
told (Err s) = Err s.refusal

abbrev pub progress_at : Result Progress Stop → Progress
progress_at (Ok p) = p
progress_at (Err s) = s.progress

abbrev pub progress_in : Result Progress Refusal → Progress → Progress
progress_in (Ok p) left = p
progress_in (Err r) left = left

abbrev pub done_in : Result Progress Refusal → Bool
done_in (Ok p) = leb p.rows p.settled
done_in (Err r) = false

abbrev pub step_answer : Result Progress Refusal → Progress → Outcome
step_answer r left = record { refusal = refusal_in r; done = false; progress = progress_in r left }

abbrev pub run_answer : Result Progress Refusal → Progress → Outcome
run_answer r left = record { refusal = refusal_in r; done = done_in r; progress = progress_in r left }
