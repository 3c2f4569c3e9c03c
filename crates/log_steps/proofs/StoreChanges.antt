-- What a step of a log gives on the lent stores.
--
-- Main statements
--   step-refused               a step whose condition fails
--   two-rows-at, exchange-allowed, exchange-stepped   the exchange
--   raise-allowed, raise-unlost, raise-stepped, lower-allowed, lower-unlost, lower-stepped   the shifts
--   drop-allowed, drop-stepped the drop of a row
use Prim.Native.Nat.{ℕ, ◌-◌, ◌≤◌, ◌<◌}
use Rattle.std.proofs.Math.Nat.{le_refl}
use Rattle.std.proofs.Common.{add-one, arith, sym, ◌∙◌, inl, inr}
use Rattle.std.specs.Prelude.{◌≡◌, true, false, ◌&&◌, cond, List, [], eqb, ℤ, length, take, get_or, set}
use Rattle.std.proofs.Math.Path.{refl, ap, ap₂}
use Rattle.std.proofs.Math.Bool.{not}
use borrow.Author.Tests.{lt-ltb, le-ltb}
use Rattle.std.proofs.Math.Dec.{ltb}
use Rattle.rules.specs.Limits.{row_length}
use Rattle.rules.specs.Rows.{Row, zero_block, zero_row, leading_block, shift_up}
use Rattle.rules.specs.Stores.{row_of, rows_of, relations_of, row_need, relation_need}
use Rattle.rules.specs.Layout.{length-rows_of}
use Rattle.rules.specs.Elimination.{State, going, refused, row_at, put_row, put_limited_of, exchange, drop_row}
use Rattle.rules.specs.Elimination.{shift_step_of, count_shift}
use Rattle.rules.specs.Elimination.{limit_coefficients}
use Rattle.theory.specs.ShiftDown.{shift_down}
use Rattle.working_rows.specs.Worked.{refusal_of, numbers_of}
use Rattle.sides.specs.Lent.{Within}
use Rattle.sides.specs.StoreStates.{kept_same}
use Rattle.reduction.specs.declared.step.Progress.{Progress}
use Rattle.reduction.specs.Progress.{Ready, state, state_of, outcome_of, answer_of, shifted_progress, dropped_progress, ready_with}
use Rattle.reduction.specs.NewRows.{saved}
use Rattle.reduction.specs.NewRows.{shifted-storable}
use Rattle.reduction.specs.StoreExchange.{numbers_at, row-of, length-numbers_at, exchanged, within-exchanged, kept-exchanged, rows-exchanged}
use Rattle.reduction.specs.Dropping.{dropped, dropped-rows, dropped-within, dropped-kept, dropped-freed, freed-none}
use Rattle.reduction.specs.StepLaws.{shifted_row_of, refused-reached}
use Rattle.log_steps.specs.Logs.{Change, exchanging, raising, lowering, dropping, allowed, applied, changed, two_rows_of}
use Rattle.log_steps.specs.Logs.{lower_row_of}
use Rattle.log_steps.specs.StoreChanges.{Stepped, Unlost, changed-true, lowered-storable, put-stepped, stepped_same}

changed-false : (D : ℕ) (s : State) (c : Change) → allowed D s c ≡ false → changed D s c ≡ refused 13
unfolding changed
changed-false D s c e = ap (λ t. cond t (applied s c) (refused 13)) e

module _ (D : ℕ) {rows relations : List ℤ} {p : Progress} (ready : Ready rows relations p) (first : p.settled ≡ 0) where
  abbrev s : State
  s = state_of rows relations p

  abbrev n : ℕ
  n = p.rows

  rows-length : length s.rows ≡ n
  unfolding state_of
  rows-length = length-rows_of n rows

  pub refused-here : Stepped rows relations rows relations p (answer_of 13 p) (refused 13)
  refused-here = record { reached = refused-reached ready 12; goes_on = refl; unsettled = first }

  pub step-refused : (c : Change) → allowed D s c ≡ false → Stepped rows relations rows relations p (answer_of 13 p) (changed D s c)
  step-refused c e = stepped_same refl refl (changed-false D s c e) refused-here

  -- ---- the exchange

  pub two-rows-at : (i j : ℕ) → two_rows_of s i j ≡ ((ltb i n && ltb j n) && not (eqb i j))
  unfolding two_rows_of
  two-rows-at i j = ap (λ k. (ltb i k && ltb j k) && not (eqb i j)) rows-length

  pub exchange-allowed : (i j : ℕ) → allowed D s (exchanging i j) ≡ ((ltb i n && ltb j n) && not (eqb i j))
  unfolding allowed
  exchange-allowed i j = two-rows-at i j

  pub exchange-stepped : (i j : ℕ) (inside : i < n) (other : j < n) → allowed D s (exchanging i j) ≡ true
      → Stepped rows relations (exchanged n rows ready.rows-within i j inside other) relations p (answer_of 0 p)
      (changed D s (exchanging i j))
  unfolding applied exchange put_row state_of outcome_of
  exchange-stepped i j inside other e =
      stepped_same refl refl (changed-true D s (exchanging i j) e)
      (record {
        reached =
            record {
              outcome = ap going same;
              fewer = le_refl n;
              freed = freed-none n after;
              rows-kept = kept-exchanged n rows w i j inside other;
              relations-kept = kept_same relation_need relations;
              few-shifts = omega arith;
              ready = ready_with ready (within-exchanged n rows w i j inside other) ready.listing;
            };
        goes_on = refl;
        unsettled = first;
      })
    where
      w : Within (row_need n) rows
      w = ready.rows-within

      after : List ℤ
      after = exchanged n rows w i j inside other

      same : state_of after relations p ≡ exchange s i j
      same =
          ap (λ l. state l (relations_of p.count relations) (take p.settled p.order) p.shifts)
          (rows-exchanged n rows w i j inside other
          ∙ ap₂ (λ a b. set (set (rows_of n rows) j a) i b) (sym (row-of rows relations p i inside)) (sym (row-of rows relations p j other)))

  -- ---- one row

  module _ (i : ℕ) where
    pub absent-raised : n ≤ i → allowed D s (raising i) ≡ false
    unfolding allowed
    absent-raised h = rw (rows-length, le-ltb i n h)

    pub absent-lowered : n ≤ i → allowed D s (lowering i) ≡ false
    unfolding allowed
    absent-lowered h = rw (rows-length, le-ltb i n h)

    pub absent-dropped : n ≤ i → allowed D s (dropping i) ≡ false
    unfolding allowed
    absent-dropped h = rw (rows-length, le-ltb i n h)

    module _ (inside : i < n) where
      abbrev row : Row
      row = row_of (numbers_at rows i)

      row_is : row_at s i ≡ row
      row_is = row-of rows relations p i inside

      present : ltb i (length s.rows) ≡ true
      present = rw (rows-length, lt-ltb i n inside) refl

      numbers-long : length (numbers_at rows i) ≡ row_length
      numbers-long = length-numbers_at n rows ready.rows-within i inside

      pub raise-allowed : allowed D s (raising i) ≡ zero_block (get_or row.blocks 0 [])
      unfolding allowed leading_block
      raise-allowed = ap₂ (λ t r. t && zero_block (leading_block r)) present row_is

      pub lower-allowed : allowed D s (lowering i) ≡ zero_block (get_or row.blocks D [])
      unfolding allowed
      lower-allowed = ap₂ (λ t r. t && zero_block (get_or r.blocks D [])) present row_is

      pub drop-allowed : allowed D s (dropping i) ≡ zero_row row
      unfolding allowed
      drop-allowed = ap₂ (λ t r. t && zero_row r) present row_is

      pub raise-stepped : allowed D s (raising i) ≡ true
          → let new = shifted_row_of (numbers_at rows i) in
          Stepped rows relations (saved rows i (refusal_of new) (numbers_of new)) relations p (answer_of (refusal_of new) (shifted_progress p))
          (changed D s (raising i))
      unfolding applied shift_step_of count_shift state_of
      raise-stepped e =
          stepped_same refl refl (changed-true D s (raising i) e ∙ same)
          (put-stepped p (shifted_progress p) i (shifted_row_of (numbers_at rows i)) refl inside
          (shifted-storable (numbers_at rows i) numbers-long) (kept_same relation_need relations)
          (ready_with ready ready.rows-within ready.listing) (omega arith) first)
        where
          with_shifts : ℕ → State
          with_shifts k = state (rows_of n rows) (relations_of p.count relations) (take p.settled p.order) k

          same : shift_step_of s i ≡ put_limited_of (state_of rows relations (shifted_progress p)) i (shifted_row_of (numbers_at rows i))
          same = ap₂ (λ k q. put_limited_of (with_shifts k) i (limit_coefficients (shift_up q))) (sym (add-one p.shifts)) row_is

      pub lower-stepped : allowed D s (lowering i) ≡ true
          → let new = limit_coefficients (shift_down row) in
          Stepped rows relations (saved rows i (refusal_of new) (numbers_of new)) relations p (answer_of (refusal_of new) p)
          (changed D s (lowering i))
      unfolding applied lower_row_of
      lower-stepped e =
          stepped_same refl refl
          (changed-true D s (lowering i) e ∙ ap (λ q. put_limited_of s i (limit_coefficients (shift_down q))) row_is)
          (put-stepped p p i (limit_coefficients (shift_down row)) refl inside
          (lowered-storable (numbers_at rows i) numbers-long) (kept_same relation_need relations) ready
          (omega arith) first)

      pub drop-stepped : allowed D s (dropping i) ≡ true
          → Stepped rows relations (dropped rows i (n - 1)) relations p (answer_of 0 (dropped_progress p)) (changed D s (dropping i))
      unfolding applied drop_row state_of outcome_of
      drop-stepped e =
          stepped_same refl refl (changed-true D s (dropping i) e)
          (record {
            reached =
                record {
                  outcome =
                      ap (λ l. going (state l (relations_of p.count relations) (take p.settled p.order) p.shifts))
                      (dropped-rows n rows w i inside);
                  fewer = omega arith;
                  freed = dropped-freed n rows w i inside;
                  rows-kept = dropped-kept n rows w i inside;
                  relations-kept = kept_same relation_need relations;
                  few-shifts = omega arith;
                  ready =
                      record {
                        few-rows = omega (arith, ready.few-rows);
                        rows-within = dropped-within n rows w i inside;
                        listing = ready.listing;
                        settled = omega (arith, first);
                        few-settled = ready.few-settled;
                        different = ready.different;
                        four = ready.four;
                        columns = ready.columns;
                        padded = ready.padded;
                      };
                };
            goes_on = refl;
            unsettled = first;
          })
        where
          w : Within (row_need n) rows
          w = ready.rows-within

    -- The block that a shift takes from the row is not zero, or there is no such row.
    pub raise-unlost : Unlost rows p i 0 → allowed D s (raising i) ≡ false
    raise-unlost (inl h) = absent-raised h
    raise-unlost (inr h) = raise-allowed h.0 ∙ h.1

    pub lower-unlost : Unlost rows p i D → allowed D s (lowering i) ≡ false
    lower-unlost (inl h) = absent-lowered h
    lower-unlost (inr h) = lower-allowed h.0 ∙ h.1
