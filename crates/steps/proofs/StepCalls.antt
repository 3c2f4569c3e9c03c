-- The call of a run with a budget, from what the code's results and the stores hold.
--
-- Main statements
--   state-in                   the stores hold the same state with it
--   held-ready                 a step may be made of a state that passes the checks
--   triangular-in              its settled rows are triangular
--   stands                     what is left of a run
--   call-moved                 the whole call of a state that passes the checks
use Prim.Native.Nat.{ℕ, zero, suc, ◌≤◌}
use Rattle.std.proofs.Common.{Ok, Err, le_trans, le_of_eq, le_antisymm, mul-le-mul_left, sym, ◌∙◌, leb-true}
use Rattle.std.specs.Prelude.{◌≡◌, refl, ◌≢◌, leb, true, false, not, List, T, ℤ, length}
use Rattle.std.proofs.Math.Path.{ap, subst}
use Rattle.lists.specs.Everywhere.{All, member-all}
use Rattle.lists.specs.Padded.{pad_to, length-pad_to, take-pad_to}
use Rattle.rules.specs.Limits.{column_count, most_equations}
use Rattle.rules.specs.Rows.{entry, leading_block}
use Rattle.rules.specs.Elimination.{leading, State, Outcome, going, done, refused, finished, diagonal, diagonal_place}
use Rattle.rules.specs.Stores.{Sizes, equations, with_equations_of, span, rows_of, relations_of}
use Rattle.rules.specs.Layout.{size-bounds, check_stores-zero}
use Rattle.rules.specs.Calls.{Result, refusal, reported_order, acceptance}
use Rattle.theory.specs.Steps.{going≢refused, going≢done, done≢refused, done-injective, refused-injective}
use Rattle.algebra.specs.Pigeonhole.{Distinct}
use Rattle.algebra.specs.Polynomials.{is_zero_of}
use Rattle.theory.specs.Pivots.{PivotRows, order-distinct}
use Rattle.theory.specs.Triangular.{Triangular, triangular-chain}
use Rattle.theory.specs.Report.{nonzero-diagonal}
use Rattle.sides.specs.FurthestRoots.{Nonzero}
use Rattle.sides.specs.ReportLaws.{diagonal-settled}
use Rattle.reduction.specs.Progress.{Ready, state_of, outcome_of, outcome_at}
use Rattle.reduction.specs.Ran.{progress_of, answer_for_of, rows_after_of, relations_after_of}
use Rattle.reduction.specs.declared.step.Progress.{Progress}
use Rattle.reduction.specs.declared.step.Stop.{Stop}
use Rattle.std.specs.Prelude as Prelude
use Rattle.reduction.specs.Answer as Answer
use Rattle.reduction.specs.Answer.{told}
use Rattle.reduction.specs.Progress.{final_answer}
use Rattle.runs.specs.CallLaws.{few-blocks, Checked, checked}
use Rattle.steps.specs.Budgets.{Walk, steps, Walked, used-up, at-end, stopped, led-chain, row-of, refusal-number}
use Rattle.steps.proofs.Budgets.{walked}
use Rattle.steps.specs.HeldCalls.{Held, the_columns_of, state_in_of, held_state, StepsCall, moved_to, stopped_by_of, after_steps}
use Rattle.steps.specs.HeldCalls.{after_state_check, steps_call, check_state_of}
use Rattle.steps.specs.SoundStates.{HeldBounds, StateRight, check_state-zero, pivots-right}
use Rattle.steps.specs.Handed.{held-few, held-columns, columns-count, columns-taken}
use Rattle.steps.proofs.HandedIn.{handed-triangular}
use Rattle.steps.specs.Moving.{walk_of, MovedTo}
use Rattle.steps.specs.declared.moving.Moved.{Moved}
use Rattle.steps.specs.StepCalls.{Stands, held_by, passed-bounds, progress_in, run_after, state_after_of}

-- ---- what is given back

-- The progress of a state gives the state back.
held-progress : (z : Sizes) (s : State) → length s.order ≤ column_count → held_by z (progress_of s) ≡ held_state z s
unfolding held_by progress_of held_state
held-progress z s few =
    ap (λ l. record {
      sizes = with_equations_of (length s.rows) z;
      relations = length s.relations;
      settled = length s.order;
      order = reported_order l;
      shifts = s.shifts;
    }) (take-pad_to column_count 0 s.order few)

-- ---- the whole call by its parts

module _ (z : Sizes) (taken : ℕ) (row_store relation_store : List ℤ) where
  abbrev parts : Outcome → Answer.Outcome → StepsCall
  parts x o =
      record {
        result = record { steps = taken; finished = o.done; state = state_after_of z o.refusal o.progress; run = run_after (span z) x };
        row_store = rows_after_of (equations z) x row_store;
        relation_store = relations_after_of x relation_store;
      }

  call-parts : (x : Outcome) (o : Answer.Outcome) → x ≢ refused 0 → o ≡ answer_for_of (equations z) x → o.progress.settled ≤ column_count
      → parts x o ≡ after_steps z taken x row_store relation_store
  unfolding answer_for_of state_after_of run_after rows_after_of relations_after_of after_steps moved_to stopped_by_of progress_of
  call-parts (going s) o n e few =
      ap (parts (going s)) e
      ∙ ap (λ h. record {
        result = record { steps = taken; finished = false; state = h; run = refusal 0 };
        row_store = rows_after_of (equations z) (going s) row_store;
        relation_store = relations_after_of (going s) relation_store;
      }) (held-progress z s (subst (λ a. a.progress.settled ≤ column_count) e few))
  call-parts (done s) o n e few =
      ap (parts (done s)) e
      ∙ ap (λ h. record {
        result = record { steps = taken; finished = true; state = h; run = acceptance leading (span z) s };
        row_store = rows_after_of (equations z) (done s) row_store;
        relation_store = relations_after_of (done s) relation_store;
      }) (held-progress z s (subst (λ a. a.progress.settled ≤ column_count) e few))
  call-parts (refused zero) o n e few = absurd (n refl)
  call-parts (refused (suc k)) o n e few = ap (parts (refused (suc k))) e

-- The number of a refusal is not 0.
walk_refused : (k : ℕ) (s : State) → (steps leading k s).outcome ≢ refused 0
walk_refused k s = go (walked leading k s)
  where
    go : {w : Walk} → Walked leading s k w → w.outcome ≢ refused 0
    go (used-up l e) f = going≢refused f
    go (at-end h l e) f = done≢refused f
    go (stopped {n = n} {u} h l e g) f = refusal-number leading u n (row-of u e) g (refused-injective f)

-- ---- a state that is handed in

module _ (x : Held) (row_store relation_store : List ℤ) (four : length x.order ≡ column_count)
    (passed : check_state_of x row_store relation_store ≡ 0) where
  right : StateRight x row_store relation_store
  right = (check_state-zero x row_store relation_store).0 passed

  bounds : HeldBounds x
  bounds = passed-bounds x row_store relation_store passed

  pub state-in : state_of row_store relation_store (progress_in x) ≡ state_in_of x row_store relation_store
  unfolding state_of state_in_of progress_in
  state-in = λ i. record {
    rows = rows_of (equations x.sizes) row_store;
    relations = relations_of x.relations relation_store;
    order = columns-taken x bounds four i;
    shifts = x.shifts;
  }

  stored : Checked x.sizes x.relations row_store relation_store
  stored = checked x.sizes x.relations row_store relation_store
      ((check_stores-zero x.sizes x.relations row_store relation_store).1 (record {
        sizes = bounds.sizes;
        few = bounds.few-relations;
        lengths = right.lengths;
        numbers = right.numbers;
      }))

  -- A step may be made of it.
  pub held-ready : Ready row_store relation_store (progress_in x)
  unfolding progress_in
  held-ready =
      record {
        few-rows = (size-bounds x.sizes bounds.sizes).few-equations;
        rows-within = stored.rows-within;
        listing = stored.listing;
        settled = bounds.few-rows;
        few-settled = held-few x bounds;
        different = subst Distinct (sym (columns-taken x bounds four))
            (order-distinct (the_columns_of x) (rows_of (equations x.sizes) row_store)
            (subst (λ w. PivotRows w (the_columns_of x) (rows_of (equations x.sizes) row_store)) (sym (columns-count x bounds four))
            ((pivots-right (the_columns_of x) (rows_of (equations x.sizes) row_store) x.settled
            (le_of_eq (sym (columns-count x bounds four)))).0 right.pivots)));
        four = length-pad_to column_count 0 (the_columns_of x);
        columns = held-columns x bounds;
        padded = ap (pad_to column_count 0) (sym (columns-taken x bounds four));
      }

  pub triangular-in : Triangular (state_of row_store relation_store (progress_in x))
  triangular-in = subst Triangular (sym state-in) (handed-triangular x row_store relation_store passed four)

  pub held-shifts : x.shifts ≤ 24
  held-shifts = le_trans bounds.few-shifts (mul-le-mul_left most_equations (few-blocks x.sizes bounds.sizes))

-- ---- the whole call

done-finished : (k : ℕ) (s v : State) → (steps leading k s).outcome ≡ done v → finished v ≡ true
done-finished k s v = go (walked leading k s)
  where
    go : {w : Walk} → Walked leading s k w → w.outcome ≡ done v → finished v ≡ true
    go (used-up l e) f = absurd (going≢done f)
    go (at-end h l e) f = subst (λ u. finished u ≡ true) (done-injective f) e
    go (stopped h l e g) f = absurd (done≢refused (sym f))

done-triangular : (k : ℕ) (s v : State) → Triangular s → (steps leading k s).outcome ≡ done v → Triangular v
done-triangular k s v t = go (walked leading k s)
  where
    go : {w : Walk} → Walked leading s k w → w.outcome ≡ done v → Triangular v
    go (used-up l e) f = absurd (going≢done f)
    go (at-end h l e) f = subst Triangular (done-injective f) (triangular-chain (led-chain l) t)
    go (stopped h l e g) f = absurd (done≢refused (sym f))

triangular-nonzero : (D : ℕ) (s : State) → Triangular s → Nonzero (diagonal leading D s)
unfolding diagonal_place entry leading_block
triangular-nonzero D s t =
    member-all (λ p. T (not (is_zero_of p))) (diagonal leading D s) (nonzero-diagonal leading D s (λ j h k. (t.pivots j k).diagonal))

-- What a run has left that is not refused,
going-stands : (D : ℕ) {first p : Progress} {budget taken : ℕ} {rows relations rows' relations' : List ℤ}
    → Triangular (state_of rows relations first) → MovedTo first budget rows relations rows' relations' (record { run = Ok p; taken = taken })
    → Stands D rows' p
unfolding outcome_of state_of
going-stands D {first} {p} {budget} {taken} {rows} {relations} {rows'} {relations'} t m =
    record {
      rows-within = ready.rows-within;
      few-settled = ready.few-settled;
      four = ready.four;
      columns = ready.columns;
      all_settled = all_settled;
      nonzero = λ d.
          subst Nonzero
          (diagonal-settled leading D p.settled rows' p.order v (ap (λ n. rows_of n rows') (all_settled d)) refl)
          (triangular-nonzero D v (done-triangular budget (state_of rows relations first) v t (came d)));
    }
  where
    v : State
    v = state_of rows' relations' p

    ready : Ready rows' relations' p
    ready = m.ran.reached.ready

    came : leb p.rows p.settled ≡ true → (walk_of first budget rows relations).outcome ≡ done v
    came d = sym m.ran.reached.outcome ∙ ap (λ b. outcome_of 0 b v) d

    all_settled : leb p.rows p.settled ≡ true → p.rows ≡ p.settled
    all_settled d = le_antisymm (leb-true p.rows p.settled d) ready.settled

-- and the same of any run: after a refusal the rows are those of a run that has not begun.
stands-by : (D : ℕ) {first : Progress} {budget taken : ℕ} {rows relations rows' relations' : List ℤ} (run : Prelude.Result Progress Stop)
    → Triangular (state_of rows relations first)
    → MovedTo first budget rows relations rows' relations' (record { run = run; taken = taken })
    → Stands D rows' (final_answer first.rows (told run)).progress
unfolding diagonal rows_of All
stands-by D (Ok p) t m = going-stands D t m
stands-by D (Err s) t m =
    let ready = m.ran.reached.ready in
    record {
      rows-within = ready.rows-within;
      few-settled = ready.few-settled;
      four = ready.four;
      columns = ready.columns;
      all_settled = λ d. le_antisymm (leb-true _ _ d) ready.settled;
      nonzero = λ d. tt;
    }

-- What a run has left.
pub stands : (D : ℕ) {first : Progress} {budget : ℕ} {rows relations rows' relations' : List ℤ} {r : Moved}
    → Triangular (state_of rows relations first) → MovedTo first budget rows relations rows' relations' r
    → Stands D rows' (final_answer first.rows (told r.run)).progress
stands D {r = r} t m = stands-by D r.run t m

pub call-moved : (budget : ℕ) (x : Held) (row_store relation_store : List ℤ) → length x.order ≡ column_count
    → check_state_of x row_store relation_store ≡ 0 → {first : Progress} {rows' relations' : List ℤ} {r : Moved}
    → MovedTo first budget row_store relation_store rows' relations' r → first ≡ progress_in x → (state : Held) (run : Result)
    → let o = final_answer first.rows (told r.run) in state ≡ state_after_of x.sizes o.refusal o.progress
    → run ≡ run_after (span x.sizes) (outcome_at rows' relations' o)
    → record {
      result = record { steps = r.taken; finished = o.done; state = state; run = run };
      row_store = rows';
      relation_store = relations';
    } ≡ steps_call budget x row_store relation_store
unfolding progress_in steps_call after_state_check
call-moved budget x row_store relation_store four passed {first} {rows'} {relations'} {r} left same state run e f =
    (λ i. record {
      result = record {
        steps = m.taken i;
        finished = o.done;
        state = e i;
        run = (f ∙ ap (run_after (span x.sizes)) left.ran.reached.outcome ∙ ap (λ p. run_after (span x.sizes) (walk_of p budget row_store relation_store).outcome) same) i;
      };
      row_store = (left.ran.rows-after ∙ ap (λ p. rows_after_of p.rows (walk_of p budget row_store relation_store).outcome row_store) same) i;
      relation_store = m.ran.relations-after i;
    })
    ∙ call-parts x.sizes walk.taken row_store relation_store walk.outcome o
    (walk_refused budget (state_of row_store relation_store (progress_in x)))
    (subst (λ p. o ≡ answer_for_of p.rows (walk_of p budget row_store relation_store).outcome) same left.ran.answer)
    left.ran.reached.ready.few-settled
    ∙ ap (λ s. after_steps x.sizes (steps leading budget s).taken (steps leading budget s).outcome row_store relation_store)
    (state-in x row_store relation_store four passed)
    ∙ ap (after_state_check budget x row_store relation_store) (sym passed)
  where
    o : Answer.Outcome
    o = final_answer first.rows (told r.run)

    m : MovedTo (progress_in x) budget row_store relation_store rows' relations' r
    m = subst (λ p. MovedTo p budget row_store relation_store rows' relations' r) same left

    walk : Walk
    walk = walk_of (progress_in x) budget row_store relation_store
