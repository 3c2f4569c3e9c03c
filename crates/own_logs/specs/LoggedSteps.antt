-- The log that a run has written so far, step after step (SCOPE 13.5).
--
-- Main definitions
--   Noted all log log' n k          unless n is a refusal, the store log' begins with the k steps `all`; past the needed part it is as
--                                   before
--   progress_of r, steps_in r       where the run with the result r has come to, and the steps of its log
--   walk_in r, told_of r            how far the steps with the result r have come, and the result of the run that they are
--   SoFar, Noting                   the same in the midst of a run, with the steps that are still to come
--
-- Main statements
--   noted-refused                   after a refusal no step counts
--   noting-starts, noting-goes, noting-stops   the turns of the loop
use Prim.Native.Nat.{ℕ, zero, suc, ◌+◌, ◌*◌, ◌-◌, ◌≤◌, ◌<◌}
use Rattle.std.proofs.Common.{Ok, Err, zero-le, not-suc-le-zero, le_of_eq, arith, ◌∙◌, inl, inr, length-append, take-take, length-take-le}
use Rattle.std.specs.Prelude.{◌≡◌, ◌≢◌, refl, true, false, cond, ℤ, drop, Result}
use Rattle.std.proofs.Math.Path.{sym, ap, ap₂}
use mathlib.Core.List.{List, [], ◌++◌, map, flatten, append-nil, append_assoc, map-append}
use borrow.Author.Tests.{le-leb, lt-leb}
use Rattle.std.proofs.Math.ListN.{length, take}
use Rattle.std.proofs.Math.Seq.{paste, length-paste, take-append-add}
use Rattle.std.proofs.lemmas.List.Edits.{take-paste}
use Rattle.lists.specs.Joined.{flatten-append}
use Rattle.lists.specs.Pasted.{paste-rest}
use Rattle.rules.specs.Limits.{most_equations}
use Rattle.rules.specs.Stores.{rows_of, relations_of}
use Rattle.rules.specs.Elimination.{State, going, leading, step, finished, start}
use Rattle.sides.specs.Lent.{Kept}
use Rattle.sides.specs.StoreStates.{kept_same, kept_then}
use Rattle.reduction.specs.declared.step.Progress.{Progress}
use Rattle.reduction.specs.declared.step.Stop.{Stop}
use Rattle.reduction.specs.Answer as Answer
use Rattle.refusals.specs.declared.Refusal.{Refusal}
use Rattle.own_logs.specs.declared.Written.{Written}
use Rattle.reduction.specs.Progress as Made
use Rattle.reduction.specs.Progress.{Ready, Reached, state_of, outcome_of, start_progress}
use Rattle.reduction.specs.RunLaws.{Stopped, enough-rows, enough-few}
use Rattle.reduction.specs.StepCases.{finished-at}
use Rattle.log_steps.specs.Logs.{Change, step_length, own_need}
use Rattle.own_logs.specs.Own.{change_numbers, step_changes, later, run_changes, own_changes}
use Rattle.own_logs.specs.declared.lines.Lines.{Lines}
use Rattle.own_logs.specs.OwnLines.{LinesOf, StepLines}

-- Two for each step of the longest run (SCOPE 13.54).
abbrev pub most_lines : ℕ
most_lines = 2 * Made.most_steps

abbrev pub line_numbers : List Change → List ℤ
line_numbers cs = flatten (map change_numbers cs)

pub record Noted (all : List Change) (log log' : List ℤ) (n k : ℕ) : Type 0 where
  pub kept : Kept own_need log log'
  pub few : k ≤ most_lines
  pub count-is : n ≡ 0 → k ≡ length all
  pub numbers-are : n ≡ 0 → take (k * step_length) log' ≡ line_numbers all

pub noted-refused : {all : List Change} {log log' : List ℤ} {n k : ℕ} → n ≢ 0 → Noted all log log' n k → Noted all log log' n 0
noted-refused h r = record { kept = r.kept; few = zero-le; count-is = λ e. absurd (h e); numbers-are = λ e. absurd (h e) }

-- The progress and the steps of the log in the result of a run: no step counts beside a refusal.
abbrev pub progress_of : Result Written Refusal → Result Progress Refusal
progress_of (Ok w) = Ok w.progress
progress_of (Err r) = Err r

abbrev pub steps_in : Result Written Refusal → ℕ
steps_in (Ok w) = w.steps
steps_in (Err r) = 0

-- The same where the steps of a run stop: how far it has come, and what a caller of the run is told.
abbrev pub walk_in : Result Written Stop → Result Progress Stop
walk_in (Ok w) = Ok w.progress
walk_in (Err s) = Err s

abbrev pub told_of : Result Written Stop → Result Written Refusal
told_of (Ok w) = Ok w
told_of (Err s) = Err s.refusal

-- ---- in the midst of a run

pub record SoFar (all : List Change) (log : List ℤ) (k left : ℕ) (s : State) : Type 0 where
  pub changes : List Change
  pub count-is : k ≡ length changes
  pub numbers-are : take (k * step_length) log ≡ line_numbers changes
  pub whole : changes ++ run_changes left s ≡ all

pub record Noting (all : List Change) (log log' : List ℤ) (n k left : ℕ) (s : State) : Type 0 where
  pub kept : Kept own_need log log'
  pub few : k + 2 * left ≤ most_lines
  pub so_far : n ≡ 0 → SoFar all log' k left s

-- The front of a list with a part pasted in, up to a place within the part.
take-pasted : (d s : List ℤ) (at m n : ℕ) → m ≤ n → n ≤ length s → at ≤ length d → take (at + m) (paste d at s n) ≡ take at d ++ take m s
take-pasted d s at m n h long room =
    sym (take-take (at + m) (at + n) (paste d at s n) (omega arith)) ∙ ap (take (at + m)) (take-paste d at s n room long)
    ∙ ap (λ k. take (k + m) (take at d ++ take n s)) (sym (length-take-le at d room)) ∙ take-append-add (take at d) (take n s) m
    ∙ ap (λ l. take at d ++ l) (take-take m n s h)

-- The steps of a run that is finished, and of one that is not.
changes-end : (k : ℕ) (s : State) → finished s ≡ true → run_changes k s ≡ []
unfolding run_changes
changes-end zero s e = refl
changes-end (suc k) s e = ap (λ t. cond t [] (step_changes s ++ later (step leading s) (run_changes k))) e

changes-go : (k : ℕ) (s u : State) → 0 < k → finished s ≡ false → step leading s ≡ going u
    → run_changes k s ≡ step_changes s ++ run_changes (k - 1) u
unfolding run_changes later
changes-go zero s u h e f = absurd (not-suc-le-zero h)
changes-go (suc k) s u h e f =
    ap₂ (λ t o. cond t [] (step_changes s ++ later o (run_changes k))) e f ∙ ap (λ n. step_changes s ++ run_changes n u) (before k)
  where
    before : (k : ℕ) → k ≡ suc k - 1
    before k = omega arith

-- ---- the loop

pub noting-starts : (equations count left : ℕ) (rows relations log : List ℤ) → equations ≤ most_equations
    → left ≡ (equations + 1) * (equations + equations * 5)
    → Noting (own_changes (rows_of equations rows) (relations_of count relations)) log log 0 0 left
    (state_of rows relations (start_progress equations count))
unfolding own_changes state_of start flatten
noting-starts equations count left rows relations log h e =
    record {
      kept = kept_same own_need log;
      few = omega (arith, enough-few equations h);
      so_far =
          λ _. record {
            changes = [];
            count-is = refl;
            numbers-are = refl;
            whole =
                ap (λ n. run_changes n (start (rows_of equations rows) (relations_of count relations))) (e ∙ sym (enough-rows equations rows));
          };
    }

module _ {all : List Change} {log log' : List ℤ} {n k left : ℕ} {rows relations : List ℤ} {p : Progress}
    (r : Noting all log log' n k left (state_of rows relations p)) (ready : Ready rows relations p) where
  abbrev s : State
  s = state_of rows relations p

  pub noting-stops : Stopped n p left → Noted all log log' n k
  unfolding run_changes
  noting-stops h =
      record {
        kept = r.kept;
        few = omega (arith, r.few);
        count-is = λ e. (r.so_far e).count-is ∙ ap length (ended e);
        numbers-are = λ e. (r.so_far e).numbers-are ∙ ap line_numbers (ended e);
      }
    where
      none_left : n ≡ 0 → Stopped n p left → run_changes left s ≡ []
      none_left e (inl z) = ap (λ m. run_changes m s) z
      none_left e (inr (inl f)) = absurd (f e)
      none_left e (inr (inr f)) = changes-end left s (finished-at leading ready ∙ le-leb p.rows p.settled f)

      ended : (e : n ≡ 0) → (r.so_far e).changes ≡ all
      ended e =
          sym (append-nil (r.so_far e).changes) ∙ ap (λ l. (r.so_far e).changes ++ l) (sym (none_left e h)) ∙ (r.so_far e).whole

  module _ {rows' relations' : List ℤ} {most : ℕ} {o : Answer.Outcome} {lines : Lines} {log'' : List ℤ} (b : 0 < left) (e : n ≡ 0)
      (f : p.settled < p.rows) (written : StepLines rows p lines)
      (put : log'' ≡ paste log' (k * step_length) (lines.first ++ lines.second) (step_length + step_length))
      (reached : Reached p.rows rows relations rows' relations' most o (step leading s)) (g : o.done ≡ false)
      (room : own_need ≤ length log) where
    abbrev after : State
    after = state_of rows' relations' o.progress

    two-long : length (lines.first ++ lines.second) ≡ step_length + step_length
    two-long = length-append lines.first lines.second ∙ ap₂ ◌+◌ written.two.first-long written.two.second-long

    fits : k * step_length + (step_length + step_length) ≤ own_need
    fits = omega (arith, r.few)

    pub noting-goes : Noting all log log'' o.refusal (k + lines.count) (left - 1) after
    unfolding outcome_of
    noting-goes =
        record {
          kept =
              kept_then r.kept
              (record {
                same_length =
                    ap length put
                    ∙ length-paste log' (k * step_length) (lines.first ++ lines.second) (step_length + step_length)
                    (omega (arith, fits, r.kept.same_length)) (le_of_eq (sym two-long));
                same_rest =
                    ap (drop own_need) put
                    ∙ paste-rest log' (k * step_length) (lines.first ++ lines.second) (step_length + step_length) own_need
                    (omega (arith, fits, r.kept.same_length)) (le_of_eq (sym two-long)) fits;
              });
          few = omega (arith, r.few, written.two.few);
          so_far = longer;
        }
      where
        longer : o.refusal ≡ 0 → SoFar all log'' (k + lines.count) (left - 1) after
        longer z =
            record {
              changes = before.changes ++ step_changes s;
              count-is = ap₂ ◌+◌ before.count-is said.count-is ∙ sym (length-append before.changes (step_changes s));
              numbers-are =
                  ap₂ take (places k lines.count) put
                  ∙ take-pasted log' (lines.first ++ lines.second) (k * step_length) (lines.count * step_length) (step_length + step_length)
                  (omega (arith, written.two.few)) (le_of_eq (sym two-long)) (omega (arith, fits, r.kept.same_length))
                  ∙ ap₂ ◌++◌ before.numbers-are said.numbers-are
                  ∙ sym (ap flatten (map-append change_numbers before.changes (step_changes s))
                  ∙ flatten-append (map change_numbers before.changes) (map change_numbers (step_changes s)));
              whole =
                  append_assoc before.changes (step_changes s) (run_changes (left - 1) after)
                  ∙ ap (λ l. before.changes ++ l)
                  (sym (changes-go left s after b (finished-at leading ready ∙ lt-leb p.rows p.settled f) goes))
                  ∙ before.whole;
            }
          where
            before : SoFar all log' k left s
            before = r.so_far e

            goes : step leading s ≡ going after
            goes = sym reached.outcome ∙ ap₂ (λ m d. outcome_of m d after) z g

            said : LinesOf (step_changes s) lines
            said = written.said relations after ready goes

            places : (k m : ℕ) → (k + m) * step_length ≡ k * step_length + m * step_length
            places k m = omega arith
