-- The run as a loop of steps.
--
-- Main definitions
--   Running side equations .. n p left x   the loop's invariant: at most `left` steps more from the progress p give x, unless n is
--                          a refusal
--   Stopped n p left       the loop's end: no step is left, or n is a refusal, or every row that is left is settled
--
-- Main statements
--   enough-rows            the number of steps that are enough for equations rows in a store
--   start-ready            stores that a run asks for are ready for its first step
--   run-starts, run-goes, run-stops, run-refused   the turns of the loop
use Prim.Native.Nat.{ℕ, zero, suc, ◌+◌, ◌*◌, ◌-◌, ◌≤◌, ◌<◌, zero-le}
use Rattle.std.proofs.Common.{mul-le-mul, le_refl, add-one, ◌∙◌, ap₂, inl, inr, lit<}
use native.Mathlib.Omega.{arith}
use Rattle.std.specs.Prelude.{◌≡◌, refl, ◌≢◌, ◌⊎◌, Bool, List, leb, ℤ, take}
use Rattle.std.proofs.Math.Path.{sym, ap}
use Rattle.std.proofs.Math.Bool.{true, false, cond}
use borrow.Author.Tests.{le-leb, lt-leb}
use Rattle.rules.specs.Limits.{most_equations, row_length}
use Rattle.lists.specs.Everywhere.{All}
use Rattle.rules.specs.Stores.{rows_of, relations_of, relation_need, row_need}
use Rattle.rules.specs.Elimination.{Side, State, Outcome, going, done, finished, step, and_then, run, enough, start}
use Rattle.rules.specs.Layout.{length-rows_of}
use Rattle.lists.specs.Padded.{pad_to}
use Rattle.stores.specs.Flat.{length-blocks}
use Rattle.working_rows.specs.Found.{Columns}
use Rattle.reduction.specs.declared.step.Progress.{Progress}
use Rattle.reduction.specs.Answer as Answer
use Rattle.sides.specs.Lent.{Within, Listing}
use Rattle.reduction.specs.Progress.{Ready, Reached, state_of, outcome_of, outcome_at, answer_of, most_steps, start_progress}
use Rattle.reduction.specs.Dropping.{freed-none, freed-then, kept_more}
use Rattle.reduction.specs.StepCases.{finished-at}
use Rattle.sides.specs.StoreStates.{kept_same, kept_then}

-- ---- how many steps are enough

pub enough-rows : (equations : ℕ) (store : List ℤ) → enough (rows_of equations store) ≡ (equations + 1) * (equations + equations * 5)
unfolding enough rows_of
enough-rows zero store = refl
enough-rows (suc equations) store =
    ap₂ (λ k b. suc k * (k + k * b)) (length-rows_of (suc equations) store) (length-blocks (take row_length store)) ∙ plain (suc equations)
  where
    plain : (k : ℕ) → suc k * (k + k * 5) ≡ (k + 1) * (k + k * 5)
    plain k = simp add-one

pub enough-few : (equations : ℕ) → equations ≤ most_equations → (equations + 1) * (equations + equations * 5) ≤ most_steps
enough-few equations h = omega (arith, mul-le-mul (count equations h) (width equations h))
  where
    count : (equations : ℕ) → equations ≤ most_equations → equations + 1 ≤ 7
    count equations h = omega arith

    width : (equations : ℕ) → equations ≤ most_equations → equations + equations * 5 ≤ 36
    width equations h = omega arith

-- ---- the loop

-- What a run asks is what its first step asks.
pub start-ready : (equations count : ℕ) (rows relations : List ℤ) → equations ≤ most_equations → Within (row_need equations) rows
    → Listing count relations
    → Ready rows relations (start_progress equations count)
unfolding Columns All pad_to
start-ready equations count rows relations h w l =
    record {
      few-rows = h;
      rows-within = w;
      listing = l;
      settled = zero-le;
      few-settled = zero-le;
      different = tt;
      four = refl;
      columns = (lit< tt, (lit< tt, (lit< tt, (lit< tt, tt))));
      padded = refl;
    }

-- The turns of a run.
module _ (side : Side) (s : State) where
  run-finished : (k : ℕ) → finished s ≡ true → run side k s ≡ done s
  unfolding run
  run-finished zero e = ap (λ t. cond t (done s) (going s)) e
  run-finished (suc k) e = ap (λ t. cond t (done s) (and_then (step side s) (run side k))) e

  run-steps : (k rest : ℕ) → finished s ≡ false → k ≡ rest + 1 → run side k s ≡ and_then (step side s) (run side rest)
  unfolding run
  run-steps k rest e h =
      ap (λ n. run side n s) (h ∙ add-one rest) ∙ ap (λ t. cond t (done s) (and_then (step side s) (run side rest))) e

  run-no-further : (t : Bool) → finished s ≡ t → run side 0 s ≡ outcome_of 0 t s
  unfolding run outcome_of
  run-no-further true e = ap (λ t. cond t (done s) (going s)) e
  run-no-further false e = ap (λ t. cond t (done s) (going s)) e

-- The loop: at most `left` steps more from the progress p give x, unless n is a refusal.
pub record Running (side : Side) (equations : ℕ) (rows relations rows' relations' : List ℤ) (n : ℕ) (p : Progress) (left : ℕ) (x : Outcome)
    : Type 0 where
  pub few : left ≤ most_steps
  pub reached : Reached equations rows relations rows' relations' (most_steps - left) (answer_of n p)
      (outcome_at rows' relations' (answer_of n p))
  pub whole : and_then (outcome_at rows' relations' (answer_of n p)) (run side left) ≡ x

-- What ends it: no step is left, a refusal, or every row that is left is settled.
abbrev pub Stopped : ℕ → Progress → ℕ → Type 0
Stopped n p left = (left ≡ 0) ⊎ (n ≢ 0) ⊎ (p.rows ≤ p.settled)

pub run-starts : (side : Side) (equations count left : ℕ) (rows relations : List ℤ) → equations ≤ most_equations
    → Within (row_need equations) rows → Listing count relations
    → left ≡ (equations + 1) * (equations + equations * 5)
    → Running side equations rows relations rows relations 0 (start_progress equations count) left
    (run side (enough (rows_of equations rows)) (start (rows_of equations rows) (relations_of count relations)))
unfolding outcome_of state_of start and_then
run-starts side equations count left rows relations h w l e =
    record {
      few = omega (arith, enough-few equations h);
      reached =
          record {
            outcome = refl;
            fewer = le_refl equations;
            freed = freed-none equations rows;
            rows-kept = kept_same (row_need equations) rows;
            relations-kept = kept_same relation_need relations;
            few-shifts = zero-le;
            ready = start-ready equations count rows relations h w l;
          };
      whole = ap (λ n. run side n (start (rows_of equations rows) (relations_of count relations))) (e ∙ sym (enough-rows equations rows));
    }

module _ {side : Side} {equations : ℕ} {rows relations rows' relations' : List ℤ} {n : ℕ} {p : Progress} {left : ℕ} {x : Outcome}
    (r : Running side equations rows relations rows' relations' n p left x) where
  abbrev s : State
  s = state_of rows' relations' p

  finished-here : finished s ≡ leb p.rows p.settled
  finished-here = finished-at side r.reached.ready

  -- A refused run stays so, and one that stops without a refusal is done exactly if every row that is left is settled.
  stopped-whole : (k : ℕ) → and_then (outcome_of k false s) (run side left) ≡ x → Stopped k p left
      → outcome_of k (leb p.rows p.settled) s ≡ x
  unfolding and_then outcome_of
  stopped-whole (suc k) e h = e
  stopped-whole zero e (inl none) = sym (ap (λ k. run side k s) none ∙ run-no-further side s (leb p.rows p.settled) finished-here) ∙ e
  stopped-whole zero e (inr (inl h)) = absurd (h refl)
  stopped-whole zero e (inr (inr h)) =
      let all = le-leb p.rows p.settled h in
      ap (λ t. outcome_of 0 t s) all ∙ sym (run-finished side s left (finished-here ∙ all)) ∙ e

  pub run-stops : Stopped n p left
      → Reached equations rows relations rows' relations' most_steps
      (record { refusal = n; done = leb p.rows p.settled; progress = p }) x
  run-stops h =
      record {
        outcome = stopped-whole n r.whole h;
        fewer = r.reached.fewer;
        freed = r.reached.freed;
        rows-kept = r.reached.rows-kept;
        relations-kept = r.reached.relations-kept;
        few-shifts = omega (arith, r.reached.few-shifts);
        ready = r.reached.ready;
      }

  refused-whole : (k : ℕ) → and_then (outcome_of k false s) (run side left) ≡ x → k ≢ 0 → outcome_of k false s ≡ x
  unfolding and_then outcome_of
  refused-whole (suc k) e h = e
  refused-whole zero e h = absurd (h refl)

  pub run-refused : n ≢ 0 → Reached equations rows relations rows' relations' most_steps (answer_of n p) x
  run-refused h =
      record {
        outcome = refused-whole n r.whole h;
        fewer = r.reached.fewer;
        freed = r.reached.freed;
        rows-kept = r.reached.rows-kept;
        relations-kept = r.reached.relations-kept;
        few-shifts = omega (arith, r.reached.few-shifts);
        ready = r.reached.ready;
      }

  pub run-goes : {rows'' relations'' : List ℤ} {o : Answer.Outcome} {rest : ℕ} → left ≡ rest + 1 → n ≡ 0 → p.settled < p.rows
      → Reached p.rows rows' relations' rows'' relations'' (p.shifts + 1) o (step side s) → o.done ≡ false
      → Running side equations rows relations rows'' relations'' o.refusal o.progress rest x
  unfolding and_then outcome_of
  run-goes {rows''} {relations''} {o} {rest} b e f h g =
      record {
        few = omega (arith, r.few);
        reached =
            record {
              outcome = refl;
              fewer = omega (arith, r.reached.fewer, h.fewer);
              freed =
                  freed-then equations p.rows o.progress.rows r.reached.fewer h.fewer r.reached.freed h.rows-kept
                  h.freed;
              rows-kept = kept_then r.reached.rows-kept (kept_more p.rows equations r.reached.fewer h.rows-kept);
              relations-kept = kept_then r.reached.relations-kept h.relations-kept;
              few-shifts = omega (arith, r.few, r.reached.few-shifts, h.few-shifts);
              ready = h.ready;
            };
        whole =
            ap (λ y. and_then y (run side rest))
            (ap (λ d. outcome_of o.refusal d (state_of rows'' relations'' o.progress)) (sym g) ∙ h.outcome)
            ∙ sym (run-steps side s left rest (finished-here ∙ lt-leb p.rows p.settled f) b)
            ∙ sym (ap (λ k. and_then (outcome_of k false s) (run side left)) e) ∙ r.whole;
      }
