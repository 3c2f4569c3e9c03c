-- The loop of steps with a budget over the stores.
--
-- Main definitions
--   Moving first .. p taken   the loop's invariant: so many steps lead from the first state to that of the progress p
--   Moves first budget .. r   what the loop gives
--   MovedTo first budget .. r   what is left where the run is refused, too
--
-- Main statements
--   move-starts               the loop's start
--   moved-held, moved-cleared what a run gives that is not refused, and one that is
--   moved-cleared_whole       the same where the whole relation store is cleared
--   halted                    the stores where a step is refused
--   moved-as                  the same where it is known which of both it is
use Rattle.std.specs.Prelude.{ℕ, ◌*◌, ◌≡◌, refl, List, ℤ, Result}
use Rattle.std.proofs.Common.{Ok, Err}
use Rattle.std.proofs.Math.Nat.{le_refl}
use Rattle.std.proofs.Math.Path.{sym, subst}
use Rattle.refusals.specs.Refusals.{number-nonzero}
use Rattle.rules.specs.Limits.{relation_length}
use Rattle.rules.specs.Stores.{row_need, relation_need}
use Rattle.rules.specs.Calls.{zeros}
use Rattle.lists.specs.Overwritten.{overwrite}
use Rattle.rules.specs.Elimination.{leading, going}
use Rattle.sides.specs.StoreStates.{kept_same}
use Rattle.reduction.specs.Answer.{told, progress_at, run_answer}
use Rattle.reduction.specs.Progress.{Ready, Reached, Came, state_of, outcome_of, answer_of, most_steps, final_answer}
use Rattle.reduction.specs.Dropping.{freed-none}
use Rattle.reduction.specs.Ran.{Ran, ran-held, listed-cleared, ran-cleared_whole}
use Rattle.reduction.specs.declared.step.Progress.{Progress}
use Rattle.reduction.specs.declared.step.Stop.{Stop}
use Rattle.steps.specs.Budgets.{Walk, steps, Led, stays}
use Rattle.steps.specs.declared.moving.Moved.{Moved}

-- ---- the loop

-- The first state, and the walk of a budget from it.
abbrev pub walk_of : Progress → ℕ → List ℤ → List ℤ → Walk
walk_of first budget rows relations = steps leading budget (state_of rows relations first)

pub record Moving (first : Progress) (rows relations rows' relations' : List ℤ) (p : Progress) (taken : ℕ) : Type 0 where
  pub reached : Reached first.rows rows relations rows' relations' p.shifts (answer_of 0 p) (going (state_of rows' relations' p))
  pub led : Led leading (state_of rows relations first) taken (state_of rows' relations' p)

pub record Moves (first : Progress) (budget : ℕ) (rows relations rows' relations' : List ℤ) (r : Moved) : Type 0 where
  pub came : Came run_answer first.rows rows relations rows' relations' most_steps r.run (walk_of first budget rows relations).outcome
  pub taken : r.taken ≡ (walk_of first budget rows relations).taken

pub record MovedTo (first : Progress) (budget : ℕ) (rows relations rows' relations' : List ℤ) (r : Moved) : Type 0 where
  pub ran : Ran first.rows rows relations rows' relations' (final_answer first.rows (told r.run)) (walk_of first budget rows relations).outcome
  pub taken : r.taken ≡ (walk_of first budget rows relations).taken

pub move-starts : (first : Progress) (rows relations : List ℤ) → Ready rows relations first
    → Moving first rows relations rows relations first 0
unfolding outcome_of
move-starts first rows relations ready =
    record {
      reached =
          record {
            outcome = refl;
            fewer = le_refl first.rows;
            freed = freed-none first.rows rows;
            rows-kept = kept_same (row_need first.rows) rows;
            relations-kept = kept_same relation_need relations;
            few-shifts = le_refl first.shifts;
            ready = ready;
          };
      led = stays;
    }

-- ---- what is left

module _ {first : Progress} {budget : ℕ} {rows relations : List ℤ} {r : Moved} (ready : Ready rows relations first) where
  pub moved-held : {rows' relations' : List ℤ} {p : Progress} → r.run ≡ Ok p → Moves first budget rows relations rows' relations' r
      → MovedTo first budget rows relations rows' relations' r
  moved-held {rows'} {relations'} e m =
      record {
        ran = subst (λ run. Ran first.rows rows relations rows' relations' (final_answer first.rows (told run)) (walk_of first budget rows relations).outcome) (sym e)
            (ran-held ready.rows-within.long
            (subst (λ run. Reached first.rows rows relations rows' relations' most_steps (run_answer (told run) (progress_at run)) (walk_of first budget rows relations).outcome) e m.came)
            refl);
        taken = m.taken;
      }

  -- The stores where a step is refused.
  pub halted : {rows₁ relations₁ : List ℤ} {n : Stop} → r.run ≡ Err n → Moves first budget rows relations rows₁ relations₁ r
      → Reached first.rows rows relations rows₁ relations₁ most_steps (run_answer (told (Err n)) n.progress) (walk_of first budget rows relations).outcome
  halted {rows₁} {relations₁} e m =
      subst (λ run. Reached first.rows rows relations rows₁ relations₁ most_steps (run_answer (told run) (progress_at run)) (walk_of first budget rows relations).outcome) e m.came

  pub moved-cleared_whole : {rows₁ relations₁ rows₂ relations₂ : List ℤ} {n : Stop} → r.run ≡ Err n
      → Moves first budget rows relations rows₁ relations₁ r → rows₂ ≡ overwrite (zeros (row_need first.rows)) rows₁
      → relations₂ ≡ overwrite (zeros relation_need) relations₁ → MovedTo first budget rows relations rows₂ relations₂ r
  moved-cleared_whole {rows₁} {relations₁} {rows₂} {relations₂} {n} e m f g =
      record {
        ran = subst (λ run. Ran first.rows rows relations rows₂ relations₂ (final_answer first.rows (told run)) (walk_of first budget rows relations).outcome) (sym e)
            (ran-cleared_whole ready.few-rows ready.rows-within.long
            (halted e m) (number-nonzero n.refusal) f g);
        taken = m.taken;
      }

  pub moved-cleared : {rows₁ relations₁ rows₂ relations₂ : List ℤ} {n : Stop} → r.run ≡ Err n
      → Moves first budget rows relations rows₁ relations₁ r → rows₂ ≡ overwrite (zeros (row_need first.rows)) rows₁
      → relations₂ ≡ overwrite (zeros (n.progress.count * relation_length)) relations₁ → MovedTo first budget rows relations rows₂ relations₂ r
  moved-cleared e m f g = moved-cleared_whole e m f (listed-cleared (halted e m).ready.listing g)

-- What is known of the result, for each of its parts.
pub moved-as : {first : Progress} {budget : ℕ} {rows relations rows' relations' : List ℤ} {r : Moved} {x : Result Progress Stop}
    → r.run ≡ x → MovedTo first budget rows relations rows' relations' r
    → MovedTo first budget rows relations rows' relations' (record { run = x; taken = r.taken })
moved-as {first} {budget} {rows} {relations} {rows'} {relations'} {r} e m =
    subst (λ run. MovedTo first budget rows relations rows' relations' (record { run = run; taken = r.taken })) e m
