-- The lines of the next step of our own run are those of the steps of a log that it is.
--
-- Main statements
--   number_is                 a natural number below 2^63, as an i64
--   combining-pasted          the line of a combination, as it is put together
--   divisor-zero, divisor-some   the number that a combination is divided by, from its content
--   lines-one, lines_two, lines_none   the lines of one step of a log, of two, of none
--   eliminated-changes        the steps of an elimination, from the stores
--   changes-zero, changes-met, changes-settled, changes-shift   the cases of a step
--   met-low                   a combination that is not refused has no degree past 15
use Rattle.std.specs.Prelude.{ℕ, zero, suc, ◌+◌, ◌*◌, ◌^◌, ◌≤◌, ◌<◌, ◌≡◌, refl, ◌≢◌, Bool, true, false, ◌&&◌, leb, ltb, ℤ, pos, take}
use Rattle.std.proofs.Common.{le_refl, le_of_eq, arith, sym, ◌∙◌, lit<, length-append, take_all, take_at, length-take-le, to_z, to_z-of_z}
use Rattle.std.proofs.Math.Path.{ap, ap₂}
use Rattle.std.proofs.Math.Bool.{cond}
use mathlib.Core.List.{List, [], ◌∷◌, ◌++◌, map, flatten, append-nil}
use Rattle.std.proofs.Math.ListN.{length}
use Rattle.std.proofs.Math.Seq.{paste}
use Rattle.std.specs.Int.{w64}
use Rattle.algebra.specs.Gcd.{content}
use Rattle.integers.specs.Ranges.{sfits-size}
use Rattle.rules.specs.Limits.{coefficient_count, column_count, most_relations}
use Rattle.algebra.specs.Polynomials.{is_zero_of}
use Rattle.rules.specs.Calls.{zeros}
use Rattle.rules.specs.Rows.{Row, coefficients_of, width, entry, leading_block, first_nonzero, zero_left, zero_row, combine, low_degrees}
use Rattle.rules.specs.Rows.{primitive}
use Rattle.rules.specs.Stores.{row_of}
use Rattle.rules.specs.Layout.{block_at}
use Rattle.rules.specs.Elimination.{State, going, leading, Multipliers, multipliers_at, row_at, narrow_first, step, combine_step_of}
use Rattle.rules.specs.Elimination.{limit_degrees, consistent, put_limited_of, list_relations, root_relations}
use Rattle.lists.specs.Parts.{parts-length}
use Rattle.stores.specs.Flat.{block-at}
use Rattle.theory.specs.Steps.{going≢refused}
use Rattle.working_rows.specs.Working.{paste-joined}
use Rattle.working_rows.specs.Found.{found_or, entries_at, length-entries_at}
use Rattle.combinations.specs.Primitive.{limit-past}
use Rattle.reduction.specs.declared.step.Progress.{Progress}
use Rattle.reduction.specs.Progress.{Ready, state_of}
use Rattle.reduction.specs.StoreExchange.{numbers_at, narrowed, row-of, narrowed-state}
use Rattle.reduction.specs.StepLaws.{multipliers-in}
use Rattle.reduction.specs.StepCases.{found_some, found_none, narrowed-ready, step-met}
use Rattle.log_steps.specs.Logs.{Change, exchanging, raising, dropping, step_length}
use Rattle.log_steps.specs.Changes.{cond-going}
use Rattle.own_logs.specs.Own.{change_numbers, divisor_of, combination_change, eliminate_changes, shift_changes, meet_changes}
use Rattle.own_logs.specs.Own.{work_changes, step_changes}
use Rattle.own_logs.specs.OwnLines.{one_line, no_lines_of, LinesOf, combination_by, target_in, pivot_in, multipliers_after, combined_in}
use Rattle.own_logs.specs.OwnLines.{eliminated_in}

pub number_is : (n : ℕ) → n < 2 ^ 63 → to_z w64 n ≡ pos n
number_is n h = to_z-of_z (sfits-size (pos n) (le_refl n) h)

-- ---- the line of a combination

pub combining-pasted : (a b c d : ℤ) (g h : List ℤ) → length g ≡ coefficient_count → length h ≡ coefficient_count
    → paste (paste (a ∷ b ∷ c ∷ d ∷ zeros 32) 4 g (length g)) (4 + coefficient_count) h (length h) ≡ a ∷ b ∷ c ∷ d ∷ (g ++ h)
unfolding zeros
combining-pasted a b c d g h e f =
    ap₂ (λ k n. paste (paste (a ∷ b ∷ c ∷ d ∷ zeros 32) 4 g k) (4 + coefficient_count) h n) e f
    ∙ paste-joined (a ∷ b ∷ c ∷ d ∷ zeros 32) g h 4 coefficient_count coefficient_count e f (lit< tt)
    ∙ ap (λ l. a ∷ b ∷ c ∷ d ∷ l)
    (ap (λ l. l ++ []) (take_all (coefficient_count + coefficient_count) (g ++ h) (le_of_eq (length-append g h ∙ ap₂ ◌+◌ e f)))
    ∙ append-nil (g ++ h))

pub divisor-zero : (r : Row) → content (coefficients_of r) ≡ 0 → divisor_of r ≡ 1
unfolding divisor_of
divisor-zero r e = ap (λ c. elim c [ zero ↦ 1 | suc d ↦ suc d ]) e

pub divisor-some : (r : Row) → content (coefficients_of r) ≢ 0 → divisor_of r ≡ content (coefficients_of r)
unfolding divisor_of
divisor-some r n = go (content (coefficients_of r)) n
  where
    go : (c : ℕ) → c ≢ 0 → elim c [ zero ↦ 1 | suc d ↦ suc d ] ≡ c
    go zero n = absurd (n refl)
    go (suc c) n = refl

-- ---- lines and steps

pub lines-one : (c : Change) (l : List ℤ) → l ≡ change_numbers c → length l ≡ step_length → LinesOf (c ∷ []) (one_line l)
unfolding flatten
lines-one c l e long =
    record {
      count-is = refl;
      numbers-are = take_at l (zeros step_length) step_length long ∙ e ∙ sym (append-nil (change_numbers c));
    }

pub lines_two : (c d : Change) (l m : List ℤ) → l ≡ change_numbers c → m ≡ change_numbers d → length l ≡ step_length → length m ≡ step_length
    → LinesOf (c ∷ d ∷ []) (record { count = 2; first = l; second = m })
unfolding flatten
lines_two c d l m e f long long' =
    record {
      count-is = refl;
      numbers-are =
          take_all (2 * step_length) (l ++ m) (le_of_eq (length-append l m ∙ ap₂ ◌+◌ long long'))
          ∙ ap₂ ◌++◌ e (f ∙ sym (append-nil (change_numbers d)));
    }

pub lines_none : LinesOf [] no_lines_of
unfolding flatten
lines_none = record { count-is = refl; numbers-are = refl }

-- ---- a combination that is not refused

combined-low : (s s' : State) (i j : ℕ) (x : Multipliers) → combine_step_of leading s i j x ≡ going s'
    → low_degrees (combine x.g x.h (row_at s i) (row_at s j)) ≡ true
unfolding combine_step_of put_limited_of
combined-low s s' i j x e =
    let listed = list_relations s (root_relations leading x.g (row_at s i)) in
    go listed (low_degrees r) refl (cond-going (leb (length listed.relations) most_relations) _ 9 e).1
  where
    r : Row
    r = combine x.g x.h (row_at s i) (row_at s j)

    go : (u : State) (t : Bool) → low_degrees r ≡ t → put_limited_of u i (consistent (limit_degrees (primitive r))) ≡ going s' → t ≡ true
    go u true f g = refl
    go u false f g = absurd (going≢refused (sym g ∙ ap (put_limited_of u i) (limit-past r f)))

-- ---- the steps of a log, from the stores

module _ {rows relations : List ℤ} {p : Progress} (ready : Ready rows relations p) (inside : p.settled < p.rows) where
  abbrev s : State
  s = state_of rows relations p

  abbrev w : ℕ
  w = p.settled

  abbrev row : Row
  row = row_of (numbers_at rows w)

  abbrev entries : List (List ℤ)
  entries = entries_at row p.order w

  enough : w ≤ length p.order
  enough = omega (arith, ready.few-settled, ready.four)

  module _ (j : ℕ) (settled : j < w) where
    abbrev after : State
    after = state_of (narrowed rows w j) relations p

    multipliers-are : multipliers_at after w j ≡ multipliers_after rows p j
    multipliers-are = multipliers-in leading (narrowed-ready leading ready inside j settled) j inside settled

    target_is : row_at after w ≡ target_in rows p j
    target_is = row-of (narrowed rows w j) relations p w inside

    pivot-is : row_at after j ≡ pivot_in rows p j
    pivot-is = row-of (narrowed rows w j) relations p j (omega arith)

    pub eliminated-changes : eliminate_changes s w j ≡ eliminated_in rows p j
    unfolding eliminate_changes combination_change
    eliminated-changes =
        λ k. cond (ltb (width (first k)) (width (second k))) (exchanging w j ∷ whole k ∷ []) (whole k ∷ [])
      where
        first : row_at s w ≡ row
        first = row-of rows relations p w inside

        second : row_at s j ≡ row_of (numbers_at rows j)
        second = row-of rows relations p j (omega arith)

        whole : combination_change (narrow_first s w j) w j (multipliers_at (narrow_first s w j) w j)
            ≡ combination_by w j (multipliers_after rows p j) (target_in rows p j) (pivot_in rows p j)
        whole =
            ap (λ e. combination_change e w j (multipliers_at e w j))
            (narrowed-state rows relations p ready.rows-within w j inside (omega arith))
            ∙ (λ k. combination_by w j (multipliers-are k) (target_is k) (pivot-is k))

    pub met-low : (s' : State) → zero_left row ≡ false → found_or w (first_nonzero entries) ≡ j → step leading s ≡ going s'
        → low_degrees (combined_in rows p j) ≡ true
    met-low s' nonzero e g =
        sym (λ k. low_degrees (combine (multipliers-are k).g (multipliers-are k).h (target_is k) (pivot-is k)))
        ∙ combined-low after s' w j (multipliers_at after w j) (sym (step-met leading ready inside nonzero j e settled) ∙ g)

  changes-are : step_changes s ≡ cond (zero_row row) (dropping w ∷ []) (meet_changes s w (first_nonzero entries))
  unfolding step_changes work_changes state_of
  changes-are =
      rw (length-take-le w p.order enough)
      (ap (λ r. cond (zero_row r) (dropping w ∷ []) (meet_changes s w (first_nonzero (map (entry r) (take w p.order)))))
      (row-of rows relations p w inside))

  pub changes-zero : zero_left row ≡ true → is_zero_of row.right ≡ true → step_changes s ≡ dropping w ∷ []
  unfolding zero_row
  changes-zero e f = changes-are ∙ ap₂ (λ t u. cond (t && u) (dropping w ∷ []) (meet_changes s w (first_nonzero entries))) e f

  module _ (nonzero : zero_left row ≡ false) where
    changes-meet : step_changes s ≡ meet_changes s w (first_nonzero entries)
    unfolding zero_row
    changes-meet =
        changes-are ∙ ap (λ t. cond (t && is_zero_of row.right) (dropping w ∷ []) (meet_changes s w (first_nonzero entries))) nonzero

    pub changes-met : (j : ℕ) → found_or w (first_nonzero entries) ≡ j → j < w → step_changes s ≡ eliminated_in rows p j
    unfolding meet_changes
    changes-met j e h =
        changes-meet ∙ ap (meet_changes s w) (found_some w j (first_nonzero entries) e h) ∙ eliminated-changes j h

    module _ (none-met : w ≤ found_or w (first_nonzero entries)) where
      changes-none : step_changes s ≡ shift_changes w (first_nonzero (leading_block row))
      unfolding meet_changes
      changes-none =
          changes-meet
          ∙ ap (meet_changes s w) (found_none w entries (le_of_eq (length-entries_at row p.order w enough)) none-met)
          ∙ ap (λ r. shift_changes w (first_nonzero (leading_block r))) (row-of rows relations p w inside)

      pub changes-settled : (c : ℕ) → found_or column_count (first_nonzero (leading_block row)) ≡ c → c < column_count → step_changes s ≡ []
      unfolding shift_changes
      changes-settled c e h =
          changes-none ∙ ap (shift_changes w) (found_some column_count c (first_nonzero (leading_block row)) e h)

      pub changes-shift : column_count ≤ found_or column_count (first_nonzero (leading_block row)) → step_changes s ≡ raising w ∷ []
      unfolding shift_changes leading_block
      changes-shift h =
          changes-none ∙ ap (shift_changes w) (found_none column_count (leading_block row) (le_of_eq columns-four) h)
        where
          columns-four : length (leading_block row) ≡ column_count
          columns-four =
              let l = numbers_at rows w in
              ap length (block-at l 0 (lit< tt)) ∙ parts-length coefficient_count column_count (block_at l 0)
