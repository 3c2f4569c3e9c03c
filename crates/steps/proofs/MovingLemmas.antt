-- The loop of steps with a budget over the stores.
--
-- Main statements
--   steps-led                 the steps after some that were taken
--   move-goes, move-stops, move-refused   the turns of the loop
use Rattle.std.specs.Prelude.{ℕ, zero, suc, ◌+◌, ◌-◌, ◌≤◌, ◌<◌, ◌≡◌, refl, ◌≢◌, ◌⊎◌, Bool, true, false, cond, List, leb, ℤ}
use Rattle.std.proofs.Common.{Ok, zero-add, add-zero, suc-add, add-sub_of_le, ◌∙◌, ap, true≢false}
use Rattle.std.proofs.Math.Nat.{le_refl, le_trans}
use native.Mathlib.Omega.{arith}
use Rattle.std.proofs.Math.Path.{sym, ap₂}
use Rattle.std.proofs.Math.Logic.{inl, inr}
use borrow.Author.Tests.{le-leb, lt-leb}
use Rattle.lists.specs.Everywhere.{All, all-mono}
use Rattle.rules.specs.Rows.{Row}
use Rattle.rules.specs.Stores.{rows_of, Shaped, StoreRow}
use Rattle.rules.specs.Elimination.{Side, leading, State, going, done, refused, finished, step}
use Rattle.rules.specs.Layout.{length-rows_of, StoreRow-rows_of}
use Rattle.theory.specs.Cells.{total_of-bound, shifts_of, width-le-length}
use Rattle.theory.proofs.Ending.{chain-shifts}
use Rattle.sides.specs.StoreStates.{kept_then}
use Rattle.reduction.specs.Progress.{Ready, Reached, most_steps, state_of, outcome_of, outcome_at}
use Rattle.reduction.specs.Dropping.{freed-then, kept_more}
use Rattle.reduction.specs.StepCases.{finished-at}
use Rattle.reduction.specs.declared.step.Progress.{Progress}
use Rattle.reduction.specs.Answer as Answer
use Rattle.steps.specs.Budgets.{standing, one_more_of, later, step_then, steps, Led, stays, leads, led-further}
use Rattle.steps.proofs.Budgets.{steps-none}
use Rattle.steps.specs.Budgets.{led-chain, later-none, later_more}
use Rattle.steps.specs.Moving.{Moves, Moving, walk_of}

-- ---- the steps after some that were taken

pub steps-led : {side : Side} {s v : State} {k : ℕ} → Led side s k v → (b : ℕ) → steps side (k + b) s ≡ later k (steps side b v)
unfolding steps
steps-led {side} {s} stays b = ap (λ n. steps side n s) (zero-add b) ∙ sym (later-none (steps side b s))
steps-led {side} {s} {v} (leads {k = k} {u = u} f e l) b =
    ap (λ n. steps side n s) (suc-add k b)
    ∙ ap₂ (λ t o. cond t (standing (done s)) (step_then o (steps side (k + b)))) f e
    ∙ ap one_more_of (steps-led l b) ∙ sym (later_more k (steps side b v))

-- The next step is refused.
steps-refused : (side : Side) (s : State) (b n : ℕ) → finished s ≡ false → step side s ≡ refused n
    → steps side (suc b) s ≡ standing (refused n)
unfolding steps
steps-refused side s b n f e = ap₂ (λ t o. cond t (standing (done s)) (step_then o (steps side b))) f e

-- No step is left, or no row.
steps-over : (side : Side) (s : State) (b : ℕ) (t : Bool) → finished s ≡ t → (b ≡ 0) ⊎ (t ≡ true)
    → steps side b s ≡ standing (outcome_of 0 t s)
unfolding steps outcome_of
steps-over side s b true e h = steps-none side b s e
steps-over side s b false e (inl z) = ap (λ n. steps side n s) z ∙ ap (λ t. standing (cond t (done s) (going s))) e
steps-over side s b false e (inr t) = absurd (true≢false (sym t))

outcome-refused : (n : ℕ) (d : Bool) (s : State) → n ≢ 0 → outcome_of n d s ≡ refused n
unfolding outcome_of
outcome-refused zero d s h = absurd (h refl)
outcome-refused (suc n) d s h = refl

-- ---- the loop

module _ {first : Progress} {rows relations rows' relations' : List ℤ} {p : Progress} {taken : ℕ}
    (ready : Ready rows relations first) (few : first.shifts ≤ 24)
    (m : Moving first rows relations rows' relations' p taken) where
  abbrev s : State
  s = state_of rows' relations' p

  finished-here : finished s ≡ leb p.rows p.settled
  finished-here = finished-at leading m.reached.ready

  -- A run has few shifts before it, whatever its state is.
  pub moving-shifts : p.shifts ≤ 48
  unfolding state_of Shaped
  moving-shifts =
      omega (
        arith,
        chain-shifts (led-chain m.led),
        total_of-bound shifts_of 4 (rows_of first.rows rows) each,
        length-rows_of first.rows rows,
        ready.few-rows,
      )
    where
      narrow : (r : Row) → StoreRow r → shifts_of r ≤ 4
      narrow r h = omega (arith, width-le-length r, h.0)

      each : All (λ r. shifts_of r ≤ 4) (rows_of first.rows rows)
      each = all-mono StoreRow (λ r. shifts_of r ≤ 4) narrow (rows_of first.rows rows)
          (StoreRow-rows_of first.rows rows ready.rows-within.long)

  -- A step that goes on.
  pub move-goes : {rows'' relations'' : List ℤ} {o : Answer.Outcome} → p.settled < p.rows
      → Reached p.rows rows' relations' rows'' relations'' (p.shifts + 1) o (step leading s) → o.done ≡ false → o.refusal ≡ 0
      → Moving first rows relations rows'' relations'' o.progress (taken + 1)
  unfolding outcome_of
  move-goes {rows''} {relations''} {o} left h d z =
      record {
        reached =
            record {
              outcome = refl;
              fewer = le_trans h.fewer m.reached.fewer;
              freed = freed-then first.rows p.rows o.progress.rows m.reached.fewer h.fewer m.reached.freed
                  h.rows-kept h.freed;
              rows-kept = kept_then m.reached.rows-kept (kept_more p.rows first.rows m.reached.fewer h.rows-kept);
              relations-kept = kept_then m.reached.relations-kept h.relations-kept;
              few-shifts = le_refl o.progress.shifts;
              ready = h.ready;
            };
        led = led-further m.led (leads (finished-here ∙ lt-leb p.rows p.settled left) (sym h.outcome ∙ went) stays);
      }
    where
      went : outcome_at rows'' relations'' o ≡ going (state_of rows'' relations'' o.progress)
      went = ap₂ (λ n t. outcome_of n t (state_of rows'' relations'' o.progress)) z d

  -- A step that is refused.
  pub move-refused : {rows'' relations'' : List ℤ} {o : Answer.Outcome} (budget : ℕ) → taken < budget → p.settled < p.rows
      → Reached p.rows rows' relations' rows'' relations'' (p.shifts + 1) o (step leading s) → o.done ≡ false → o.refusal ≢ 0
      → Reached first.rows rows relations rows'' relations'' most_steps o (walk_of first budget rows relations).outcome
      × (taken ≡ (walk_of first budget rows relations).taken)
  unfolding later standing
  move-refused {rows''} {relations''} {o} budget below left h d n = (
    record {
      outcome = is-refused ∙ sym (ap (λ w. w.outcome) walk);
      fewer = le_trans h.fewer m.reached.fewer;
      freed = freed-then first.rows p.rows o.progress.rows m.reached.fewer h.fewer m.reached.freed
          h.rows-kept h.freed;
      rows-kept = kept_then m.reached.rows-kept (kept_more p.rows first.rows m.reached.fewer h.rows-kept);
      relations-kept = kept_then m.reached.relations-kept h.relations-kept;
      few-shifts = omega (arith, h.few-shifts, moving-shifts);
      ready = h.ready;
    },
    sym (add-zero taken) ∙ sym (ap (λ w. w.taken) walk),
  )
    where
      is-refused : outcome_at rows'' relations'' o ≡ refused o.refusal
      is-refused = outcome-refused o.refusal o.done (state_of rows'' relations'' o.progress) n

      walk : walk_of first budget rows relations ≡ later taken (standing (refused o.refusal))
      walk =
          ap (λ k. walk_of first k rows relations) (rest below)
          ∙ steps-led m.led (suc (budget - suc taken))
          ∙ ap (later taken) (steps-refused leading s (budget - suc taken) o.refusal
          (finished-here ∙ lt-leb p.rows p.settled left) (sym h.outcome ∙ is-refused))
        where
          rest : taken < budget → budget ≡ taken + suc (budget - suc taken)
          rest h = omega arith

  -- The end: no step is left, or no row.
  pub move-stops : (budget : ℕ) → taken ≤ budget → (budget ≤ taken) ⊎ (p.rows ≤ p.settled)
      → Moves first budget rows relations rows' relations' (record { run = Ok p; taken = taken })
  unfolding later standing
  move-stops budget within over =
      record {
        came =
            record {
              outcome = sym (ap (λ w. w.outcome) walk);
              fewer = m.reached.fewer;
              freed = m.reached.freed;
              rows-kept = m.reached.rows-kept;
              relations-kept = m.reached.relations-kept;
              few-shifts = omega (arith, moving-shifts);
              ready = m.reached.ready;
            };
        taken = sym (add-zero taken) ∙ sym (ap (λ w. w.taken) walk);
      }
    where
      ended : (budget ≤ taken) ⊎ (p.rows ≤ p.settled) → (budget - taken ≡ 0) ⊎ (leb p.rows p.settled ≡ true)
      ended (inl h) = inl (omega arith)
      ended (inr h) = inr (le-leb p.rows p.settled h)

      walk : walk_of first budget rows relations ≡ later taken (standing (outcome_of 0 (leb p.rows p.settled) s))
      walk =
          ap (λ k. walk_of first k rows relations) (sym (add-sub_of_le within))
          ∙ steps-led m.led (budget - taken)
          ∙ ap (later taken) (steps-over leading s (budget - taken) (leb p.rows p.settled) finished-here (ended over))
