-- The new row of a combination or a shift: what storing it does to the state.
--
-- Main definitions
--   Storable x              a new row that is held by its numbers, or the number of the limit that it breaks
--   numbers_in w            the numbers of a new row as the code gives it, or zeros
--   saved store i n l       the store with the numbers l as row i, if n, the refusal, is 0
--
-- Main statements
--   combined-storable, shifted-storable   the new rows of rules 4 and 6
--   full-worked, full-limited   the working row of a new row is full
--   row_room                row i of equations rows has room in a store for equations rows
--   saved-none              a refusal stores nothing
--   saved-limited           the new row as the code gives it is stored as the definition's
--   saved-outcome, saved-within, saved-kept   what storing the new row does
use Rattle.std.specs.Prelude.{ℕ, zero, suc, ◌+◌, ◌*◌, ◌≤◌, ◌<◌, ◌≡◌, refl, Bool, true, false, cond, List, ℤ, pos, length, take, set, replicate, Result, IfOk}
use Rattle.std.proofs.Math.Nat.{suc-mul, mul-le-mul_right}
use Rattle.std.proofs.Common.{Ok, Err, le_of_eq, not-suc-le-zero, arith, sym, ◌∙◌, ap, ap₂, subst, lit<, length-take-le}
use Rattle.std.proofs.lemmas.List.{length-replicate}
use Rattle.std.proofs.Math.Seq.{paste}
use Rattle.algebra.specs.Polynomials.{Polynomial}
use Rattle.rules.specs.Limits.{coefficient_count, entries_length, row_length}
use Rattle.rules.specs.Rows.{Row, coefficients_of, contradicts, combine, primitive, cut, shift_up, small_row, low_degrees}
use Rattle.rules.specs.Elimination.{Limited, within, beyond, limit_coefficients, limit_degrees, consistent, going, put_row, put_limited_of}
use Rattle.rules.specs.Stores.{row_of, rows_of, relations_of, row_need, Shaped}
use Rattle.rules.specs.Layout.{entries-row_of, StoreRow-row_of}
use Rattle.refusals.specs.declared.Refusal.{Refusal}
use Rattle.refusals.specs.Refusals.{refusal_in, number_of, number-nonzero}
use Rattle.working_rows.specs.declared.WorkingRow.{WorkingRow}
use Rattle.working_rows.specs.Working.{left_part, numbers_held, Full}
use Rattle.working_rows.specs.Worked.{Held, Shown, refusal_of, numbers_of, worked_row, numbers-worked}
use Rattle.combinations.specs.Combination.{combined-held}
use Rattle.working_rows.specs.Shifting.{shifted-held}
use Rattle.reduction.specs.declared.step.Progress.{Progress}
use Rattle.sides.specs.Lent.{Within, Kept}
use Rattle.reduction.specs.Progress.{state, state_of, outcome_of}
use Rattle.sides.specs.StoreStates.{rows_of-paste, within-paste, kept-paste, kept_same}

-- ---- a new row, or the number of the limit that it breaks

unfoldable pub Storable : Limited → Type 0
Storable (within r) = Held r
Storable (beyond n) = 0 < n

pub coefficients-storable : (q : Row) → ((r : Row) → limit_coefficients q ≡ within r → Held r) → Storable (limit_coefficients q)
unfolding Storable limit_coefficients
coefficients-storable q h = cases (small_row q) h
  where
    cases : (t : Bool) → ((r : Row) → cond t (within q) (beyond 8) ≡ within r → Held r) → Storable (cond t (within q) (beyond 8))
    cases true h = h q refl
    cases false h = lit< tt

pub degrees-storable : (q : Row) → ((r : Row) → limit_degrees q ≡ within r → Held r) → Storable (limit_degrees q)
unfolding Storable limit_degrees
degrees-storable q h = cases (low_degrees q) h
  where
    rest : Limited
    rest = limit_coefficients (cut q)

    cases : (t : Bool) → ((r : Row) → cond t rest (beyond 7) ≡ within r → Held r) → Storable (cond t rest (beyond 7))
    cases true h = coefficients-storable (cut q) h
    cases false h = lit< tt

pub shifted-storable : (l : List ℤ) → length l ≡ row_length → Storable (limit_coefficients (shift_up (row_of l)))
shifted-storable l e = coefficients-storable (shift_up (row_of l)) (shifted-held l e)

consistent-storable : (x : Limited) → Storable x → Storable (consistent x)
unfolding Storable consistent
consistent-storable (beyond n) h = h
consistent-storable (within r) h = cases (contradicts r)
  where
    cases : (t : Bool) → Storable (cond t (beyond 10) (within r))
    cases true = lit< tt
    cases false = h

pub combined-storable : (g h : Polynomial) (l m : List ℤ) → 0 < length g → length l ≡ row_length
    → Storable (consistent (limit_degrees (primitive (combine g h (row_of l) (row_of m)))))
combined-storable g h l m some e =
    let r = primitive (combine g h (row_of l) (row_of m)) in
    consistent-storable (limit_degrees r) (degrees-storable r (combined-held g h l m some e))

-- The working row of a new row has full arrays.
pub full-worked : (x : Limited) → Storable x → Full (worked_row x)
unfolding Storable worked_row Shaped
full-worked (beyond n) h =
    record {
      entries-long = length-replicate entries_length (pos 0);
      right-long = length-replicate coefficient_count (pos 0);
    }
full-worked (within r) h =
    let l = coefficients_of r in
    record {
      entries-long =
          ap (λ q. length (left_part q)) (sym h.numbers) ∙ ap length (entries-row_of l)
          ∙ length-take-le entries_length l (omega (arith, h.long));
      right-long = ap (λ q. length q.right) (sym h.numbers) ∙ side l h.long;
    }
  where
    side : (l : List ℤ) → length l ≡ row_length → length (row_of l).right ≡ coefficient_count
    side l e = (StoreRow-row_of l (le_of_eq (sym e))).2

pub full-limited : (x : Limited) → Storable x → (w : Result WorkingRow Refusal) → Shown w x → IfOk w Full
full-limited x h (Ok row) e = subst Full (sym e.1) (full-worked x h)
full-limited x h (Err r) e = tt

-- ---- the store afterwards

abbrev pub numbers_in : Result WorkingRow Refusal → List ℤ
numbers_in (Ok row) = numbers_held row
numbers_in (Err r) = replicate row_length (pos 0)

unfoldable pub saved : List ℤ → ℕ → ℕ → List ℤ → List ℤ
saved store i zero numbers = paste store (i * row_length) numbers row_length
saved store i (suc n) numbers = store

pub saved-none : (store : List ℤ) (i n : ℕ) (numbers : List ℤ) → (n ≡ 0 → ⊥) → saved store i n numbers ≡ store
unfolding saved
saved-none store i zero numbers h = absurd (h refl)
saved-none store i (suc n) numbers h = refl

pub saved-limited : (store : List ℤ) (i : ℕ) (x : Limited) (w : Result WorkingRow Refusal) → Shown w x
    → saved store i (refusal_in w) (numbers_in w) ≡ saved store i (refusal_of x) (numbers_of x)
saved-limited store i x (Ok row) e = ap₂ (saved store i) e.0 (ap numbers_held e.1 ∙ numbers-worked x)
saved-limited store i x (Err r) e =
    saved-none store i (number_of r) (replicate row_length (pos 0)) (number-nonzero r)
    ∙ sym (saved-none store i (refusal_of x) (numbers_of x) (λ z. number-nonzero r (e.0 ∙ z)))

-- Row i of equations rows in a store within ±C, in whose place a new row is put.
module _ (equations i : ℕ) (store : List ℤ) (w : Within (row_need equations) store) (inside : i < equations) where
  pub row_room : i * row_length + row_length ≤ row_need equations
  unfolding row_need
  row_room = omega (arith, mul-le-mul_right row_length inside, suc-mul i row_length)

  abbrev after : Limited → List ℤ
  after x = saved store i (refusal_of x) (numbers_of x)

  pub saved-within : (x : Limited) → Storable x → Within (row_need equations) (after x)
  unfolding Storable saved refusal_of numbers_of
  saved-within (within r) h =
      within-paste (row_need equations) store w (i * row_length) (coefficients_of r) row_length (le_of_eq (sym h.long)) row_room
      h.within-bound
  saved-within (beyond zero) h = absurd (not-suc-le-zero h)
  saved-within (beyond (suc n)) h = w

  pub saved-kept : (x : Limited) → Storable x → Kept (row_need equations) store (after x)
  unfolding Storable saved refusal_of numbers_of
  saved-kept (within r) h =
      kept-paste (row_need equations) store w (i * row_length) (coefficients_of r) row_length (le_of_eq (sym h.long)) row_room
  saved-kept (beyond zero) h = absurd (not-suc-le-zero h)
  saved-kept (beyond (suc n)) h = kept_same (row_need equations) store

pub saved-outcome : (p : Progress) (i : ℕ) (store relations : List ℤ) → Within (row_need p.rows) store → i < p.rows
    → (x : Limited) → Storable x
    → outcome_of (refusal_of x) false (state_of (saved store i (refusal_of x) (numbers_of x)) relations p)
    ≡ put_limited_of (state_of store relations p) i x
unfolding Storable saved refusal_of numbers_of outcome_of put_limited_of put_row state_of row_need
saved-outcome p i store relations w inside (within r) h =
    ap (λ rows. going (state rows (relations_of p.count relations) (take p.settled p.order) p.shifts))
    (rows_of-paste p.rows store (coefficients_of r) i h.long w.long inside ∙ ap (set (rows_of p.rows store) i) h.numbers)
saved-outcome p i store relations w inside (beyond zero) h = absurd (not-suc-le-zero h)
saved-outcome p i store relations w inside (beyond (suc n)) h = refl
