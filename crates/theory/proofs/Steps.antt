-- What a step keeps, the outcome of one step, and the outcome of a run: `Stepped`, `StepView` and `RunView` of specs/Steps.antt.
--
-- Main statements
--   stepped-rows, stepped-length                 a step keeps the number of rows, or drops a zero row
--   step-view, step-refused, step-refused-10     what a step's outcome says where a row is left
--   run-view, run-going, run-done, run-refused   a run is a chain of steps
use Rattle.std.specs.Prelude.{ℕ, zero, suc, ◌≤◌, ◌<◌, ◌≡◌, ◌⊎◌, Bool, false, ◌&&◌, not, cond, T, leb, get_or}
use Rattle.std.proofs.Math.Path.{refl}
use Rattle.std.proofs.Common.{sym, ◌∙◌, subst, ap₂, inl, inr, le_refl, le_trans, le_of_eq, arith, leb→le}
use Rattle.std.proofs.Math.Bool.{true}
use mathlib.Core.List.{List, [], map}
use Rattle.std.proofs.Math.Option.{Option, none, some}
use Rattle.std.proofs.Math.ListN.{length}
use Rattle.std.proofs.lemmas.List.{length-map}
use Rattle.algebra.specs.Polynomials.{Polynomial, is_zero_of}
use Rattle.rules.specs.Limits.{most_relations}
use Rattle.rules.specs.Rows.{Row, zero_left, zero_row, contradicts, entry, leading_block, first_nonzero}
use Rattle.rules.specs.Rows.{shift_up}
use Rattle.lists.specs.Images.{get_or_map}
use Rattle.rules.specs.Elimination.{Side, State, Outcome, going, done, refused, Limited, within, beyond, limit_coefficients}
use Rattle.rules.specs.Elimination.{limit_degrees, consistent, row_at, put_row, put_limited_of, settle, count_shift}
use Rattle.rules.specs.Elimination.{drop_row}
use Rattle.rules.specs.Elimination.{combine_step_of, eliminate_step_of, shift_step_of, settle_or_shift, meet, work_on, step}
use Rattle.rules.specs.Elimination.{and_then, run}
use Rattle.theory.specs.Steps.{Chain, FirstNonzero, Inconsistent, Left, MetZeroBelow, Refusal, RunView, StepView, Stepped, all-taken, at_once, came-to-end, chain-before, combination, combined, combined-length, current, done-injective, done≢refused, dropped, first_nonzero-none, first_nonzero-some, goes_on, going-injective, going≢done, going≢refused, here, inconsistent, left, length-drop_row, length-put_row, limit_coefficients-beyond, limit_degrees-beyond, listed, listed-rows, met, next, next_row, none_left, over-limit, refused-injective, row-left, row_at-put_row-same, settled, shifted, step-stopped}

-- ---- what a step that goes on keeps

-- There are as many rows as before, or the current row was zero and there is one row fewer.
pub stepped-rows : {side : Side} {s s' : State} → Stepped side s s' → (length s'.rows ≡ length s.rows)
    ⊎ ((current s < length s.rows) × T (zero_row (row_at s (current s))) × (suc (length s'.rows) ≡ length s.rows))
unfolding settle count_shift
stepped-rows {side} {s} (combined j a b c d e f r g) = inl (combined-length side s j r)
stepped-rows (settled c a b d e) = inl refl
stepped-rows {s} (shifted r a b c d e) = inl (length-put_row (count_shift s) (current s) r)
stepped-rows {s} (dropped a b) = inr (a, b, length-drop_row s (current s) a)

-- No step adds a row.
pub stepped-length : {side : Side} {s s' : State} → Stepped side s s' → length s'.rows ≤ length s.rows
stepped-length t = elim (stepped-rows t) [ inl e ↦ le_of_eq e | inr h ↦ omega (arith, h.2) ]

pub chain_length : {side : Side} {s s' : State} {k : ℕ} → Chain side s k s' → length s'.rows ≤ length s.rows
chain_length {s} here = le_refl (length s.rows)
chain_length (next c t) = le_trans (stepped-length t) (chain_length c)

-- ---- what a step gives

module _ (side : Side) (s : State) (more : current s < length s.rows) (nonzero : T (not (zero_left (row_at s (current s))))) where
  shift_step-view : MetZeroBelow s (current s) → first_nonzero (leading_block (row_at s (current s))) ≡ none
      → StepView side s (shift_step_of s (current s))
  unfolding shift_step_of
  shift_step-view clear e = go (limit_coefficients (shift_up (row_at s (current s)))) refl
    where
      go : (l : Limited) → limit_coefficients (shift_up (row_at s (current s))) ≡ l → StepView side s (put_limited_of (count_shift s) (current s) l)
      go (within r) f = goes_on (shifted r more nonzero clear e f)
      go (beyond n) f = over-limit n more nonzero (inr (inl (limit_coefficients-beyond (shift_up (row_at s (current s))) n f)))

  settle_or_shift-view : MetZeroBelow s (current s) → (o : Option ℕ) → first_nonzero (leading_block (row_at s (current s))) ≡ o
      → StepView side s (settle_or_shift s (current s) o)
  unfolding settle_or_shift
  settle_or_shift-view clear (some c) e = goes_on (settled c more nonzero clear e)
  settle_or_shift-view clear none e = shift_step-view clear e

  eliminate_step-view : (j : ℕ) → j < current s → MetZeroBelow s j → T (not (is_zero_of (met s j)))
      → StepView side s (eliminate_step_of side s (current s) j)
  unfolding eliminate_step_of combine_step_of consistent
  eliminate_step-view j below clear meets =
      go (leb (length (listed side s j).relations) most_relations) (leb→le (length (listed side s j).relations) most_relations)
      (limit_degrees (combination s j)) refl
    where
      go : (t : Bool) → (T t → length (listed side s j).relations ≤ most_relations) → (l : Limited) → limit_degrees (combination s j) ≡ l
          → StepView side s (cond t (put_limited_of (listed side s j) (current s) (consistent l)) (refused 9))
      go true few (within r) f = put (contradicts r) refl
        where
          new : Stepped side s (put_row (listed side s j) (current s) r)
          new = combined j below more nonzero clear meets (few tt) r f

          put : (t : Bool) → contradicts r ≡ t
              → StepView side s (put_limited_of (listed side s j) (current s) (cond t (beyond 10) (within r)))
          put true e =
              inconsistent more
              (next_row new (subst (λ n. current s < n) (sym (combined-length side s j r)) more)
              (subst (λ q. T (contradicts q)) (sym (row_at-put_row-same (listed side s j) (current s) r (rw (listed-rows side s j) more)))
              (rw e tt)))
          put false e = goes_on new
      go true few (beyond n) f = over-limit n more nonzero
          (elim (limit_degrees-beyond (combination s j) n f) [ inl e ↦ inl e | inr e ↦ inr (inl e) ])
      go false few l f = over-limit 9 more nonzero (inr (inr refl))

  meet-view : (o : Option ℕ) → first_nonzero (map (entry (row_at s (current s))) s.order) ≡ o → StepView side s (meet side s (current s) o)
  unfolding meet
  meet-view (some j) e = eliminate_step-view j below clear meets
    where
      entries : List Polynomial
      entries = map (entry (row_at s (current s))) s.order

      found : FirstNonzero entries j
      found = first_nonzero-some entries j e

      below : j < current s
      below = rw (length-map s.order (entry (row_at s (current s)))) at found.inside

      at : (k : ℕ) → k < current s → get_or entries k [] ≡ met s k
      at k h = get_or_map (entry (row_at s (current s))) s.order k 0 [] h

      clear : MetZeroBelow s j
      clear k h = rw (at k (omega (arith, below))) at (found.before k h)

      meets : T (not (is_zero_of (met s j)))
      meets = rw (at j below) at found.nonzero
  meet-view none e = settle_or_shift-view clear (first_nonzero (leading_block (row_at s (current s)))) refl
    where
      clear : MetZeroBelow s (current s)
      clear k h = rw (get_or_map (entry (row_at s (current s))) s.order k 0 [] h) at
          (first_nonzero-none (map (entry (row_at s (current s))) s.order) e k)

-- A row by its two parts.
zero-parts : (r : Row) {z q : Bool} → zero_left r ≡ z → is_zero_of r.right ≡ q → zero_row r ≡ (z && q)
unfolding zero_row
zero-parts r e f = ap₂ ◌&&◌ e f

contradict-parts : (r : Row) {z q : Bool} → zero_left r ≡ z → is_zero_of r.right ≡ q → contradicts r ≡ (z && not q)
unfolding contradicts
contradict-parts r e f = ap₂ (λ a b. a && not b) e f

pub step-view : (side : Side) (s : State) → current s < length s.rows → StepView side s (step side s)
unfolding step work_on
step-view side s more = go (zero_left row) refl (is_zero_of row.right) refl
  where
    row : Row
    row = row_at s (current s)

    rest : Outcome
    rest = meet side s (current s) (first_nonzero (map (entry row) s.order))

    go : (z : Bool) → zero_left row ≡ z → (q : Bool) → is_zero_of row.right ≡ q
        → StepView side s (cond (zero_row row) (going (drop_row s (current s))) (cond (contradicts row) (refused 10) rest))
    go true z true q = rw (zero-parts row z q) (goes_on (dropped more (rw (zero-parts row z q) tt)))
    go true z false q = rw (zero-parts row z q, contradict-parts row z q)
        (inconsistent more (at_once (rw (contradict-parts row z q) tt)))
    go false z q e = rw (zero-parts row z e, contradict-parts row z e)
        (meet-view side s more (rw z tt) (first_nonzero (map (entry row) s.order)) refl)

-- ---- the same by the outcome

view-refused : {side : Side} {s : State} {o : Outcome} {n : ℕ} → StepView side s o → o ≡ refused n → Refusal side s n
view-refused (inconsistent h z) e = inl (sym (refused-injective e), z)
view-refused {n} (over-limit k h z c) e = inr (rw (refused-injective e) at c)
view-refused (goes_on p) e = absurd (going≢refused e)

pub step-refused : (side : Side) (s : State) (n : ℕ) → current s < length s.rows → step side s ≡ refused n → Refusal side s n
step-refused side s n more = view-refused (step-view side s more)

pub step-refused-10 : (side : Side) (s : State) → current s < length s.rows → step side s ≡ refused 10 → Inconsistent side s
step-refused-10 side s more e = the_row (step-refused side s 10 more e)
  where
    the_row : Refusal side s 10 → Inconsistent side s
    the_row (inl h) = h.1
    the_row (inr (inl e)) = absurd (omega arith)
    the_row (inr (inr (inl e))) = absurd (omega arith)
    the_row (inr (inr (inr e))) = absurd (omega arith)

-- ---- chains and runs

view-before : {side : Side} {s u : State} {k : ℕ} {o : Outcome} → Stepped side s u → RunView side u k o → RunView side s (suc k) o
view-before t (all-taken c h) = all-taken (chain-before t c) h
view-before t (came-to-end c h) = came-to-end (chain-before t c) h
view-before t (step-stopped c h e) = step-stopped (chain-before t c) h e

pub run-view : (side : Side) (k : ℕ) (s : State) → RunView side s k (run side k s)
unfolding run
run-view side zero s = go (left s)
  where
    go : {t : Bool} → Left s t → RunView side s zero (cond t (done s) (going s))
    go (none_left h) = came-to-end here h
    go (row-left h) = all-taken here h
run-view side (suc k) s = go (left s) (run-view side k)
  where
    stepped : (o : Outcome) → step side s ≡ o → current s < length s.rows → StepView side s o
        → ((u : State) → RunView side u k (run side k u)) → RunView side s (suc k) (and_then o (run side k))
    stepped o e h (over-limit n i z c) rec = step-stopped here h e
    stepped o e h (inconsistent i z) rec = step-stopped here h e
    stepped o e h (goes_on {s' = u} p) rec = view-before p (rec u)

    go : {t : Bool} → Left s t → ((u : State) → RunView side u k (run side k u))
        → RunView side s (suc k) (cond t (done s) (and_then (step side s) (run side k)))
    go (none_left h) rec = came-to-end here h
    go (row-left h) rec = stepped (step side s) refl h (step-view side s h) rec

pub run-going : (side : Side) (k : ℕ) (s s' : State) → run side k s ≡ going s' → Chain side s k s' × (current s' < length s'.rows)
run-going side k s s' = go (run-view side k s)
  where
    go : {o : Outcome} → RunView side s k o → o ≡ going s' → Chain side s k s' × (current s' < length s'.rows)
    go (all-taken c h) e = subst (λ v. Chain side s k v × (current v < length v.rows)) (going-injective e) (c, h)
    go (came-to-end c h) e = absurd (going≢done (sym e))
    go (step-stopped c h f) e = absurd (going≢refused (sym e))

pub run-done : (side : Side) (k : ℕ) (s s' : State) → run side k s ≡ done s'
    → (j : ℕ) × Chain side s j s' × (length s'.rows ≤ current s')
run-done side k s s' = go (run-view side k s)
  where
    go : {o : Outcome} → RunView side s k o → o ≡ done s' → (j : ℕ) × Chain side s j s' × (length s'.rows ≤ current s')
    go (all-taken c h) e = absurd (going≢done e)
    go (came-to-end {j} c h) e =
        subst (λ v. (j : ℕ) × Chain side s j v × (length v.rows ≤ current v)) (done-injective e) (j, c, h)
    go (step-stopped c h f) e = absurd (done≢refused (sym e))

pub run-refused : (side : Side) (k : ℕ) (s : State) (n : ℕ) → run side k s ≡ refused n
    → (j : ℕ) × (u : State) × Chain side s j u × (current u < length u.rows) × (step side u ≡ refused n)
run-refused side k s n = go (run-view side k s)
  where
    go : {o : Outcome} → RunView side s k o → o ≡ refused n
        → (j : ℕ) × (u : State) × Chain side s j u × (current u < length u.rows) × (step side u ≡ refused n)
    go (all-taken c h) e = absurd (going≢refused e)
    go (came-to-end c h) e = absurd (done≢refused e)
    go (step-stopped {j} {u = u} c h f) e = (j, u, c, h, f ∙ e)
