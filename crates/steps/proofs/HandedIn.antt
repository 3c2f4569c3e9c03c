-- What holds of every state that passes the checks, also of one that is made by hand (SCOPE 11.26).
--
-- Main statements
--   handed-valid, handed-triangular   its system is valid, and its settled rows are triangular: what the steps of a run keep
--   handed-few, handed-ends     at most `most_steps` steps can be taken of it, and a run with so many ends
--   call_none                   with budget 0 it is checked, and nothing moves
use Prim.Native.Nat.{ℕ, zero, suc, ◌+◌, ◌*◌, ◌-◌, ◌≤◌, ◌<◌, pred}
use Rattle.std.proofs.Common.{not-suc-le-zero, mul-le-mul_left, sym, ◌∙◌, take-append-drop, length-take-le}
use Rattle.std.proofs.Math.Nat.{le_of_eq, mul-le-mul}
use native.Mathlib.Omega.{arith}
use Rattle.std.specs.Prelude.{◌≡◌, ◌≢◌, Bool, ℤ, length, take, drop}
use Rattle.std.proofs.Math.Path.{refl, ap, subst}
use Rattle.std.proofs.Math.Bool.{true, false, cond}
use mathlib.Core.List.{List, [], ◌∷◌, ◌++◌, map}
use Rattle.lists.specs.Everywhere.{All, all-mono}
use Rattle.lists.specs.Overwritten.{overwrite}
use Rattle.lists.specs.Padded.{pad_to, pad-taken}
use Rattle.rules.specs.Limits.{column_count, most_equations}
use Rattle.rules.specs.Rows.{Row, width}
use Rattle.rules.specs.Elimination.{State, going, done, leading, finished}
use Rattle.rules.specs.Stores.{equations, with_equations_of, span, rows_of, relations_of, row_need, relation_need, row_store_for, relation_store_of}
use Rattle.rules.specs.Stores.{Valid, StoreRow, Shaped}
use Rattle.rules.specs.Layout.{check_stores-zero, stores-valid, lengths_right-iff, numbers_right-iff, count_right-iff, length-rows_of}
use Rattle.rules.specs.Layout.{length-relations_of, row_store_for-all, row_store_of-rows_of, relation_store_of-relations_of, size-bounds}
use Rattle.rules.specs.Calls.{Result, refusal, reported_order, acceptance}
use Rattle.theory.specs.Steps.{current, MetZeroBelow, going≢done, going≢refused}
use Rattle.theory.specs.Triangular.{Triangular}
use Rattle.theory.specs.Pivots.{PivotRows}
use Rattle.theory.specs.Cells.{total_of-bound, total_width, width-le-length}
use Rattle.theory.specs.Ending.{measure}
use Rattle.theory.proofs.Ending.{chain-measure}
use Rattle.reduction.specs.Progress.{most_steps}
use Rattle.steps.specs.Budgets.{Walk, standing, steps, Led, Walked, used-up, at-end, stopped, led-chain, row-of}
use Rattle.steps.proofs.Budgets.{walked}
use Rattle.steps.specs.HeldCalls.{Held, the_columns_of, state_in_of, held_state, moved_to, after_steps, after_state_check, steps_call, check_state_of}
use Rattle.steps.specs.SoundStates.{HeldBounds, StateRight, check_state-zero, sizes_held-iff, pivots-right, Sound, sound-kept}
use Rattle.theory.specs.LimitsKept.{valid-rows}
use Rattle.steps.specs.Handed.{held-positive, columns-count}

-- A row that is left is still to be settled.
measure-left : (u : State) (z : ℕ) → current u < length u.rows → 0 < measure u z
unfolding measure
measure-left u z more = omega (arith, mul-le-mul_left (suc (length u.rows)) to-do)
  where
    to-do : 1 ≤ length u.rows - current u + total_width u.rows
    to-do = omega arith

-- A front that is written where it stands.
same-front : (n : ℕ) (store : List ℤ) → n ≤ length store → overwrite (take n store) store ≡ store
unfolding overwrite
same-front n store h = ap (λ k. take n store ++ drop k store) (length-take-le n store h) ∙ take-append-drop n store

module _ (x : Held) (row_store relation_store : List ℤ) (passed : check_state_of x row_store relation_store ≡ 0) where
  right : StateRight x row_store relation_store
  right = (check_state-zero x row_store relation_store).0 passed

  bounds : HeldBounds x
  bounds = (sizes_held-iff x).0 right.sizes

  pub handed-valid : Valid x.sizes (rows_of (equations x.sizes) row_store) (relations_of x.relations relation_store)
  handed-valid = stores-valid x.sizes x.relations row_store relation_store
      ((check_stores-zero x.sizes x.relations row_store relation_store).1 (record {
        sizes = bounds.sizes;
        few = bounds.few-relations;
        lengths = right.lengths;
        numbers = right.numbers;
      }))

  module _ (four : length x.order ≡ column_count) where
    abbrev s : State
    s = state_in_of x row_store relation_store

    -- What the steps of a run keep.
    pub handed-triangular : Triangular s
    unfolding state_in_of
    handed-triangular =
        record {
          fits = rw (columns-count x bounds four, length-rows_of (equations x.sizes) row_store) bounds.few-rows;
          pivots = subst (λ w. PivotRows w (the_columns_of x) (rows_of (equations x.sizes) row_store)) (sym (columns-count x bounds four))
              ((pivots-right (the_columns_of x) (rows_of (equations x.sizes) row_store) x.settled
              (le_of_eq (sym (columns-count x bounds four)))).0 right.pivots);
        }

    -- So they keep it.
    pub handed-sound : {k : ℕ} {v : State} → Led leading s k v → Sound x.sizes v
    unfolding state_in_of
    handed-sound l =
        sound-kept (record {
          valid = valid-rows handed-valid;
          triangular = handed-triangular;
          few-rows = le_of_eq (length-rows_of (equations x.sizes) row_store);
        }) (led-chain l)

    nothing-met : MetZeroBelow s 0
    nothing-met k h = absurd (not-suc-le-zero h)

    few-rows : length s.rows ≤ most_equations
    unfolding state_in_of
    few-rows = rw length-rows_of (size-bounds x.sizes bounds.sizes).few-equations

    few-blocks : total_width s.rows ≤ length s.rows * 5
    unfolding state_in_of Shaped
    few-blocks = total_of-bound width 5 s.rows (all-mono StoreRow (λ r. width r ≤ 5) narrow s.rows handed-valid.row-shapes)
      where
        narrow : (r : Row) → StoreRow r → width r ≤ 5
        narrow r h = omega (arith, width-le-length r, h.0)

    few-steps : measure s 0 ≤ most_steps
    unfolding measure
    few-steps = go (length s.rows) (current s) (total_width s.rows) few-rows handed-triangular.fits few-blocks
      where
        go : (n w b : ℕ) → n ≤ most_equations → w ≤ n → b ≤ n * 5 → suc n * (n - w + b) + (w - 0) ≤ most_steps
        go n w b h g f =
            let most : n - w + b ≤ 36 - w = omega arith in
            let rows : suc n ≤ 7 = omega arith in
            omega (arith, mul-le-mul rows most)

    -- So many steps and no more can be taken.
    pub handed-few : {k : ℕ} {v : State} → Led leading s k v → k ≤ most_steps
    handed-few l =
        let (z, clear, bound) = chain-measure (led-chain l) handed-triangular 0 nothing-met in
        omega (arith, few-steps, bound)

    -- A run with so many ends, so that a larger budget gives the same.
    pub handed-ends : (v : State) → (steps leading most_steps s).outcome ≢ going v
    handed-ends v = go (walked leading most_steps s)
      where
        go : {w : Walk} → Walked leading s most_steps w → w.outcome ≢ going v
        go (used-up {v = u} l e) f =
            let (z, clear, bound) = chain-measure (led-chain l) handed-triangular 0 nothing-met in
            omega (arith, few-steps, bound, measure-left u z (row-of u e))
        go (at-end h l e) f = going≢done (sym f)
        go (stopped h l e g) f = going≢refused (sym f)

    -- ---- budget 0

    order-back : reported_order (the_columns_of x) ≡ x.order
    unfolding reported_order the_columns_of All
    order-back =
        ap (pad_to column_count 0) (back (take x.settled x.order) (held-positive x bounds))
        ∙ ap (λ n. pad_to n 0 (take x.settled x.order)) (sym four) ∙ pad-taken x.settled x.order bounds.unused
      where
        back : (l : List ℕ) → All (λ c. 1 ≤ c) l → map suc (map pred l) ≡ l
        back [] h = refl
        back (zero ∷ l) h = absurd (not-suc-le-zero h.0)
        back (suc c ∷ l) h = ap (λ r. suc c ∷ r) (back l h.1)

    state-back : held_state x.sizes s ≡ x
    unfolding held_state state_in_of with_equations_of equations
    state-back =
        λ i. record {
          sizes = record {
            m = x.sizes.m;
            equations = length-rows_of (equations x.sizes) row_store i;
            l = x.sizes.l;
            t = x.sizes.t;
          };
          relations = length-relations_of x.relations relation_store i;
          settled = columns-count x bounds four i;
          order = order-back i;
          shifts = x.shifts;
        }

    rows_back : overwrite (row_store_for (equations x.sizes) s.rows) row_store ≡ row_store
    unfolding state_in_of
    rows_back =
        ap (λ l. overwrite l row_store)
        (row_store_for-all (equations x.sizes) s.rows (length-rows_of (equations x.sizes) row_store)
        ∙ row_store_of-rows_of (equations x.sizes) row_store)
        ∙ same-front (row_need (equations x.sizes)) row_store
        ((lengths_right-iff (equations x.sizes) row_store relation_store).0 right.lengths).0

    relations-back : overwrite (relation_store_of s.relations) relation_store ≡ relation_store
    unfolding state_in_of
    relations-back =
        let long = ((lengths_right-iff (equations x.sizes) row_store relation_store).0 right.lengths).1 in
        ap (λ l. overwrite l relation_store)
        (relation_store_of-relations_of x.relations relation_store ((count_right-iff x.relations).0 bounds.few-relations) long
        ((numbers_right-iff x.sizes x.relations row_store relation_store).0 right.numbers).unused-zero)
        ∙ same-front relation_need relation_store long

    stays-there : (f : Bool) (run : Result) → moved_to x.sizes 0 f run s row_store relation_store
        ≡ record {
          result = record { steps = 0; finished = f; state = x; run = run };
          row_store = row_store;
          relation_store = relation_store;
        }
    unfolding moved_to
    stays-there f run = λ i. record {
      result = record { steps = 0; finished = f; state = state-back i; run = run };
      row_store = rows_back i;
      relation_store = relations-back i;
    }

    -- The state is checked, and nothing moves; whether it is finished is said, with the result if it is.
    pub call_none : steps_call 0 x row_store relation_store
        ≡ record {
          result = record {
            steps = 0;
            finished = finished s;
            state = x;
            run = cond (finished s) (acceptance leading (span x.sizes) s) (refusal 0);
          };
          row_store = row_store;
          relation_store = relation_store;
        }
    unfolding steps_call after_state_check steps standing
    call_none = ap (after_state_check 0 x row_store relation_store) passed ∙ cases (finished s)
      where
        cases : (t : Bool) → after_steps x.sizes 0 (cond t (done s) (going s)) row_store relation_store
            ≡ record {
              result = record { steps = 0; finished = t; state = x; run = cond t (acceptance leading (span x.sizes) s) (refusal 0) };
              row_store = row_store;
              relation_store = relation_store;
            }
        cases true = stays-there true (acceptance leading (span x.sizes) s)
        cases false = stays-there false (refusal 0)
