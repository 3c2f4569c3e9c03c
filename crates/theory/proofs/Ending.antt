-- Every run ends: the fuel suffices, and a run makes at most D shifts for each row (SCOPE 9.26).
--
-- Main statements
--   stepped-shifts, chain-shifts     the shifts made and those that the rows have before them together never rise
--   stepped-measure, chain-measure   the measure falls at each step, so it bounds the number of steps
--   run_ends, enough-ends, whole_run-ends   a run with enough fuel is not still going at its end
--   shift-bound, whole_run-shifts     a run has made no more than D shifts for each row that it began with (SCOPE 2.65)
use Rattle.std.specs.Prelude.{ℕ, suc, ◌+◌, ◌*◌, ◌-◌, ◌≤◌, ◌<◌, ◌≡◌, refl, ◌≢◌, not, List, [], ◌∷◌, ◌++◌, map, T, length, get_or, set}
use Rattle.std.proofs.Common.{sym, ◌∙◌, ap, ap₂, subst, not-suc-le-zero, zero-add, le_of_eq, le_refl, le_trans, mul-suc, suc-mul, mul-le-mul_left, add-one, arith, T_not, length-append, length-set}
use Rattle.std.proofs.Math.Option.{none}
use Rattle.std.proofs.lemmas.List.{length-map}
use Rattle.algebra.specs.Polynomials.{is_zero_of}
use Rattle.rules.specs.Limits.{block_count, column_count, coefficient_count}
use Rattle.rules.specs.Rows.{Row, Relation, no_row, zero_row, width, leading_block, first_nonzero, shift_up, mirror_row_of, mirror_relation, zero_left}
use Rattle.lists.specs.Everywhere.{All, all-mono, map-all}
use Rattle.rules.specs.Elimination.{Side, leading, trailing, State, start, Outcome, going, done, refused, within, limit_degrees}
use Rattle.rules.specs.Elimination.{limit_coefficients, row_at, put_row, list_relations, settle, count_shift, exchange, narrow_first, run, enough}
use Rattle.rules.specs.Elimination.{leading_run_of, mirror_state, mirror_outcome, trailing_run_of, whole_run_of, drop_row}
use Rattle.rules.specs.Stores.{Shaped, StoreRow}
use Rattle.theory.specs.Shapes.{mirror_row-shaped}
use Rattle.theory.specs.Steps.{current, met, MetZeroBelow, exchanged, listed, combination, multipliers_for, Stepped, combined, settled}
use Rattle.theory.specs.Steps.{dropped, length-drop_row, combined-length, first_nonzero-none}
use Rattle.theory.specs.Steps.{shifted, Chain, here, next, Narrowed, narrowed, kept, swapped, narrow_first-width, length-narrow_first}
use Rattle.theory.specs.Steps.{shifts-narrow_first, listed-order, going≢done, going≢refused}
use Rattle.theory.proofs.Steps.{run-going, run-done}
use Rattle.theory.specs.Steps.{done≢refused, done-injective, limit_coefficients-within}
use Rattle.theory.specs.Cells.{total_of, total_of-bound, total_width, shifts_of, zero_block-all, width_positive, width-le-length}
use Rattle.theory.specs.Cells.{width-mirror_row}
use Rattle.theory.specs.Exchange.{exchange-total}
use Rattle.theory.specs.Combine.{combine-total}
use Rattle.theory.specs.ShiftUp.{shift_up-width, shift_up-shifts}
use Rattle.theory.specs.DropZero.{drop-width, drop-shifts}
use Rattle.theory.specs.Triangular.{combined-zero, Triangular, triangular-start, triangular-chain, combined-advances}
use Rattle.theory.specs.Ending.{measure}

-- ---- the total width after a step, and the shifts that the rows have before them

total_of-narrow_first : (f : Row → ℕ) (s : State) (i j : ℕ) → i < length s.rows → j < length s.rows
    → total_of f (narrow_first s i j).rows ≡ total_of f s.rows
unfolding exchange put_row row_at
total_of-narrow_first f s i j below-i below-j = go (narrowed s i j)
  where
    go : {e : State} → Narrowed s i j e → total_of f e.rows ≡ total_of f s.rows
    go (kept w) = refl
    go (swapped w) = exchange-total s.rows i j f below-i below-j

-- A combination makes no row wider.
combined-total : (f : Row → ℕ) → ((r q : Row) → width r ≤ width q → f r ≤ f q) → (side : Side) (s : State) (j : ℕ) (r : Row)
    → j < current s → current s < length s.rows → limit_degrees (combination s j) ≡ within r
    → total_of f (put_row (listed side s j) (current s) r).rows ≤ total_of f s.rows
unfolding put_row list_relations row_at
combined-total f rising side s j r below more e =
    le_trans (combine-total f rising (exchanged s j).rows (multipliers_for s j).g (multipliers_for s j).h (current s) j r
    (omega (arith, length-narrow_first s (current s) j)) (combined-zero s j r e) (narrow_first-width s (current s) j more (omega arith)))
    (le_of_eq (total_of-narrow_first f s (current s) j more (omega arith)))

combined-width : (side : Side) (s : State) (j : ℕ) (r : Row) → j < current s → current s < length s.rows
    → limit_degrees (combination s j) ≡ within r → total_width (put_row (listed side s j) (current s) r).rows ≤ total_width s.rows
combined-width = combined-total width (λ r q h. h)

-- A shift makes its row one block narrower.
shifted-total : (s : State) (r : Row) → current s < length s.rows → T (not (zero_left (row_at s (current s))))
    → limit_coefficients (shift_up (row_at s (current s))) ≡ within r
    → suc (total_width (put_row (count_shift s) (current s) r).rows) ≡ total_width s.rows
unfolding put_row count_shift row_at
shifted-total s r more nonzero e =
    sym (shift_up-width s.rows (current s) more (width_positive (row_at s (current s)) nonzero)
    ∙ ap (λ q. suc (total_width (set s.rows (current s) q))) (sym (limit_coefficients-within (shift_up (row_at s (current s))) r e).1))

-- And has one shift fewer before it, since its leading block is zero.
shifted-left : (s : State) (r : Row) → current s < length s.rows → T (not (zero_left (row_at s (current s))))
    → first_nonzero (leading_block (row_at s (current s))) ≡ none → limit_coefficients (shift_up (row_at s (current s))) ≡ within r
    → suc (total_of shifts_of (put_row (count_shift s) (current s) r).rows) ≡ total_of shifts_of s.rows
unfolding put_row count_shift row_at
shifted-left s r more nonzero f e =
    sym (shift_up-shifts s.rows (current s) more (width_positive (row_at s (current s)) nonzero)
    (zero_block-all (leading_block (row_at s (current s))) (first_nonzero-none (leading_block (row_at s (current s))) f))
    ∙ ap (λ q. suc (total_of shifts_of (set s.rows (current s) q)))
    (sym (limit_coefficients-within (shift_up (row_at s (current s))) r e).1))

dropped-width : (s : State) → current s < length s.rows → T (zero_row (row_at s (current s)))
    → total_width (drop_row s (current s)).rows ≡ total_width s.rows
unfolding drop_row row_at
dropped-width s more zeros = drop-width s.rows (current s) more zeros

dropped-left : (s : State) → current s < length s.rows → T (zero_row (row_at s (current s)))
    → total_of shifts_of (drop_row s (current s)).rows ≡ total_of shifts_of s.rows
unfolding drop_row row_at
dropped-left s more zeros = drop-shifts s.rows (current s) more zeros

dropped-current : (s : State) → current (drop_row s (current s)) ≡ current s
unfolding drop_row
dropped-current s = refl

dropped-shifts : (s : State) → (drop_row s (current s)).shifts ≡ s.shifts
unfolding drop_row
dropped-shifts s = refl

combined-shifts : (side : Side) (s : State) (j : ℕ) (r : Row) → (put_row (listed side s j) (current s) r).shifts ≡ s.shifts
unfolding put_row list_relations
combined-shifts side s j r = shifts-narrow_first s (current s) j

combined-order : (side : Side) (s : State) (j : ℕ) (r : Row) → (put_row (listed side s j) (current s) r).order ≡ s.order
unfolding put_row
combined-order side s j r = listed-order side s j

shifted-shifts : (s : State) (r : Row) → (put_row (count_shift s) (current s) r).shifts ≡ suc s.shifts
unfolding put_row count_shift
shifted-shifts s r = refl

-- The shifts made and those before the rows together never rise.
pub stepped-shifts : {side : Side} {s s' : State} → Stepped side s s'
    → s'.shifts + total_of shifts_of s'.rows ≤ s.shifts + total_of shifts_of s.rows
unfolding settle
stepped-shifts {side} {s} (combined j below more nonzero clear meets few r e) =
    omega (arith, combined-shifts side s j r, combined-total shifts_of (λ r q h. omega arith) side s j r below more e)
stepped-shifts {s} (settled c more nonzero clear e) = le_refl (s.shifts + total_of shifts_of s.rows)
stepped-shifts {s} (shifted r more nonzero clear f e) = omega (arith, shifted-shifts s r, shifted-left s r more nonzero f e)
stepped-shifts {s} (dropped more zeros) = omega (arith, dropped-shifts s, dropped-left s more zeros)

pub chain-shifts : {side : Side} {s s' : State} {k : ℕ} → Chain side s k s'
    → s'.shifts + total_of shifts_of s'.rows ≤ s.shifts + total_of shifts_of s.rows
chain-shifts {s} here = le_refl (s.shifts + total_of shifts_of s.rows)
chain-shifts (next c t) = le_trans (stepped-shifts t) (chain-shifts c)

-- ---- the measure

-- A combination leaves the rows to settle as they are, and one settled row fewer is to be met.
further-falls : (s u : State) (z j : ℕ) → length u.rows ≡ length s.rows → current u ≡ current s
    → total_width u.rows ≤ total_width s.rows → z ≤ j → j < current s → measure u (suc j) < measure s z
unfolding measure
further-falls s u z j size same no-wider first below =
    subst (λ n. n < measure s z) (sym (ap₂ (λ n v. suc n * (n - v + total_width u.rows) + (v - suc j)) size same))
    (omega (arith, mul-le-mul_left (suc (length s.rows)) fewer))
  where
    fewer : length s.rows - current s + total_width u.rows ≤ length s.rows - current s + total_width s.rows
    fewer = omega arith

-- One row or one block fewer pays for meeting every settled row again.
fewer-falls : (s u : State) (z : ℕ) → length u.rows ≡ length s.rows → current u ≤ length s.rows
    → length s.rows - current s + total_width s.rows ≡ suc (length s.rows - current u + total_width u.rows)
    → measure u 0 < measure s z
unfolding measure
fewer-falls s u z size fits one_less =
    subst (λ n. n < measure s z) (sym (ap (λ n. suc n * (n - current u + total_width u.rows) + (current u - 0)) size))
    (omega (
      arith,
      ap (λ n. suc (length s.rows) * n) one_less,
      mul-suc (suc (length s.rows)) (length s.rows - current u + total_width u.rows),
    ))

-- One row fewer pays for it too where it is dropped, though there are fewer rows to pay with.
dropped-falls : (s u : State) (z : ℕ) → suc (length u.rows) ≡ length s.rows → current u ≡ current s
    → current s < length s.rows → total_width u.rows ≡ total_width s.rows → measure u 0 < measure s z
unfolding measure
dropped-falls s u z size same more width =
    counted (length u.rows) (length s.rows) (current u) (current s) (total_width u.rows) (total_width s.rows) size same
    (omega arith) width
  where
    counted : (n e v w x y : ℕ) → suc n ≡ e → v ≡ w → w ≤ n → x ≡ y → suc n * (n - v + x) + (v - 0) < suc e * (e - w + y) + (w - z)
    counted n e v w x y p q h r =
        let one_more : suc n - w + y ≡ suc (n - w + y) = omega arith in
        rw (← p, q, r) (omega (
          arith,
          ap (λ k. suc (suc n) * k) one_more,
          mul-suc (suc (suc n)) (n - w + y),
          suc-mul (suc n) (n - w + y),
        ))

nothing-met : (s : State) → MetZeroBelow s 0
nothing-met s k h = absurd (not-suc-le-zero h)

settled-falls : (s : State) (c z : ℕ) → current s < length s.rows → measure (settle s c) 0 < measure s z
unfolding settle
settled-falls s c z more = fewer-falls s (settle s c) z refl (omega (arith, size)) (omega (arith, size))
  where
    size : length (s.order ++ (c ∷ [])) ≡ suc (current s)
    size = length-append s.order (c ∷ []) ∙ add-one (current s)

shifted-falls : (s : State) (r : Row) (z : ℕ) → current s < length s.rows
    → suc (total_width (put_row (count_shift s) (current s) r).rows) ≡ total_width s.rows
    → measure (put_row (count_shift s) (current s) r) 0 < measure s z
unfolding put_row count_shift
shifted-falls s r z more narrower =
    fewer-falls s (put_row (count_shift s) (current s) r) z (length-set s.rows (current s) r) (omega arith) (omega arith)

pub stepped-measure : {side : Side} {s s' : State} → Stepped side s s' → Triangular s → (z : ℕ) → MetZeroBelow s z
    → (z' : ℕ) × MetZeroBelow s' z' × (measure s' z' < measure s z)
stepped-measure {side} {s} (combined j below more nonzero clear meets few r e) t z known = (
  suc j,
  combined-advances s j t below more clear meets side r e,
  further-falls s (put_row (listed side s j) (current s) r) z j
      (combined-length side s j r) (ap length (combined-order side s j r)) (combined-width side s j r below more e)
      (first (λ b. T_not (is_zero_of (met s j)) meets (known j b))) below,
)
  where
    first : ¬ (j < z) → z ≤ j
    first n = omega arith
stepped-measure {s} (settled c more nonzero clear e) t z known = (0, nothing-met (settle s c), settled-falls s c z more)
stepped-measure {s} (shifted r more nonzero clear f e) t z known =
    (0, nothing-met (put_row (count_shift s) (current s) r), shifted-falls s r z more (shifted-total s r more nonzero e))
stepped-measure {s} (dropped more zeros) t z known = (
  0,
  nothing-met (drop_row s (current s)),
  dropped-falls s (drop_row s (current s)) z (length-drop_row s (current s) more) (dropped-current s) more (dropped-width s more zeros),
)

-- So the measure bounds the number of steps.
pub chain-measure : {side : Side} {s s' : State} {k : ℕ} → Chain side s k s' → Triangular s → (z : ℕ) → MetZeroBelow s z
    → (z' : ℕ) × MetZeroBelow s' z' × (k + measure s' z' ≤ measure s z)
chain-measure {s} here t z known = (z, known, le_of_eq (zero-add (measure s z)))
chain-measure {s} (next {k} {u} {v} c step) t z known = go (chain-measure c t z known)
  where
    go : (x : ℕ) × MetZeroBelow u x × (k + measure u x ≤ measure s z) → (x : ℕ) × MetZeroBelow v x × (suc k + measure v x ≤ measure s z)
    go (x, clear, bound) =
        let (y, cleared, falls) = stepped-measure step (triangular-chain c t) x clear in
        (y, cleared, omega arith)

-- ---- the fuel suffices

measure-start : (b : ℕ) (rows : List Row) (relations : List Relation) → All (λ r. width r ≤ b) rows
    → measure (start rows relations) 0 ≤ suc (length rows) * (length rows + length rows * b)
unfolding measure start
measure-start b rows relations narrow = omega (arith, mul-le-mul_left (suc (length rows)) fewer)
  where
    fewer : length rows - 0 + total_width rows ≤ length rows + length rows * b
    fewer = omega (arith, total_of-bound width b rows narrow)

-- A row that is left is still to be settled.
measure-left : (s : State) (z : ℕ) → current s < length s.rows → 0 < measure s z
unfolding measure
measure-left s z more = omega (arith, mul-le-mul_left (suc (length s.rows)) to-do)
  where
    to-do : 1 ≤ length s.rows - current s + total_width s.rows
    to-do = omega arith

pub run_ends : (side : Side) (b k : ℕ) (rows : List Row) (relations : List Relation) (s : State) → All (λ r. width r ≤ b) rows
    → suc (length rows) * (length rows + length rows * b) ≤ k → run side k (start rows relations) ≢ going s
run_ends side b k rows relations s narrow fuel e =
    let (chain, more) = run-going side k (start rows relations) s e in
    let (z, clear, bound) = chain-measure chain (triangular-start rows relations) 0 (nothing-met (start rows relations)) in
    absurd (omega (arith, measure-start b rows relations narrow, measure-left s z more))

-- No row is wider than its number of blocks, which is the same for every row.
widths-within : (b : ℕ) (rows others : List Row) → length others ≡ length rows → All (λ r. length r.blocks ≡ b) rows
    → All (λ r. length r.blocks ≡ b) others → All (λ r. width r ≤ length (get_or rows 0 no_row).blocks) others
unfolding All
widths-within b [] [] size h k = tt
widths-within b [] (r ∷ others) size h k = absurd (omega arith)
widths-within b (q ∷ rows) others size h k =
    all-mono (λ r. length r.blocks ≡ b) (λ r. width r ≤ length q.blocks) within_first others k
  where
    within_first : (r : Row) → length r.blocks ≡ b → width r ≤ length q.blocks
    within_first r e = omega (arith, width-le-length r, h.0)

pub enough-ends : (side : Side) (b : ℕ) (rows others : List Row) (relations : List Relation) (s : State) → length others ≡ length rows
    → All (λ r. length r.blocks ≡ b) rows → All (λ r. length r.blocks ≡ b) others
    → run side (enough rows) (start others relations) ≢ going s
unfolding enough
enough-ends side b rows others relations s size h k =
    run_ends side (length (get_or rows 0 no_row).blocks) (enough rows) others relations s (widths-within b rows others size h k)
    (subst (λ m. suc m * (m + m * length (get_or rows 0 no_row).blocks) ≤ enough rows) (sym size) (le_refl (enough rows)))

store-blocks : (rows : List Row) → All StoreRow rows → All (λ r. length r.blocks ≡ block_count) rows
unfolding Shaped
store-blocks rows h = all-mono StoreRow (λ r. length r.blocks ≡ block_count) (λ r k. k.0) rows h

pub leading_run-ends : (rows : List Row) (relations : List Relation) (s : State) → All StoreRow rows → leading_run_of rows relations ≢ going s
unfolding leading_run_of
leading_run-ends rows relations s h = enough-ends leading block_count rows rows relations s refl (store-blocks rows h) (store-blocks rows h)

mirror_outcome-going : (D : ℕ) (o : Outcome) (s : State) → mirror_outcome D o ≡ going s → (u : State) × (o ≡ going u)
unfolding mirror_outcome
mirror_outcome-going D (going u) s e = (u, refl)
mirror_outcome-going D (done u) s e = absurd (going≢done (sym e))
mirror_outcome-going D (refused n) s e = absurd (going≢refused (sym e))

pub trailing_run-ends : (D : ℕ) (rows : List Row) (relations : List Relation) (s : State) → All StoreRow rows
    → trailing_run_of D rows relations ≢ going s
unfolding trailing_run_of mirror_state start
trailing_run-ends D rows relations s h e =
    let (u, f) = mirror_outcome-going D (run trailing (enough rows) (mirror_state D (start rows relations))) s e in
    enough-ends trailing block_count rows (map (mirror_row_of D) rows) (map (mirror_relation D) relations) u (length-map rows (mirror_row_of D))
    (store-blocks rows h) (store-blocks (map (mirror_row_of D) rows) mirrored) f
  where
    mirrored : All StoreRow (map (mirror_row_of D) rows)
    mirrored = map-all StoreRow (mirror_row_of D) rows
        (all-mono StoreRow (λ r. StoreRow (mirror_row_of D r)) (mirror_row-shaped block_count column_count coefficient_count D) rows h)

-- Every whole run accepts or refuses.
pub whole_run-ends : (side : Side) (D : ℕ) (rows : List Row) (relations : List Relation) (s : State) → All StoreRow rows
    → whole_run_of side D rows relations ≢ going s
unfolding whole_run_of
whole_run-ends leading D rows relations s h = leading_run-ends rows relations s h
whole_run-ends trailing D rows relations s h = trailing_run-ends D rows relations s h

-- ---- the number of shifts

-- A row of width D + 1 or less has at most D shifts before it, and no step adds to them.
pub shift-bound : {side : Side} {k : ℕ} (D : ℕ) (rows : List Row) (relations : List Relation) (s : State) → All (λ r. width r ≤ suc D) rows
    → Chain side (start rows relations) k s → s.shifts ≤ length rows * D
unfolding start
shift-bound D rows relations s narrow chain = omega (arith, chain-shifts chain, total_of-bound shifts_of D rows few)
  where
    few : All (λ r. shifts_of r ≤ D) rows
    few = all-mono (λ r. width r ≤ suc D) (λ r. shifts_of r ≤ D) (λ r h. omega arith) rows narrow

pub mirror_outcome-refused : (D : ℕ) (o : Outcome) (n : ℕ) → mirror_outcome D o ≡ refused n → o ≡ refused n
unfolding mirror_outcome
mirror_outcome-refused D (going u) n e = absurd (going≢refused e)
mirror_outcome-refused D (done u) n e = absurd (done≢refused e)
mirror_outcome-refused D (refused k) n e = e

pub mirror_outcome-done : (D : ℕ) (o : Outcome) (s : State) → mirror_outcome D o ≡ done s → (u : State) × (o ≡ done u) × (mirror_state D u ≡ s)
unfolding mirror_outcome
mirror_outcome-done D (going u) s e = absurd (going≢done e)
mirror_outcome-done D (done u) s e = (u, refl, done-injective e)
mirror_outcome-done D (refused n) s e = absurd (done≢refused (sym e))

pub whole_run-shifts : (side : Side) (D : ℕ) (rows : List Row) (relations : List Relation) (s : State) → All (λ r. width r ≤ suc D) rows
    → whole_run_of side D rows relations ≡ done s → s.shifts ≤ length rows * D
unfolding whole_run_of leading_run_of trailing_run_of mirror_state start
whole_run-shifts leading D rows relations s narrow e =
    shift-bound D rows relations s narrow (run-done leading (enough rows) (start rows relations) s e).1
whole_run-shifts trailing D rows relations s narrow e =
    let (u, f, same) = mirror_outcome-done D (run trailing (enough rows) (mirror_state D (start rows relations))) s e in
    subst (λ x. x.shifts ≤ length rows * D) same
    (subst (λ n. u.shifts ≤ n * D) (length-map rows (mirror_row_of D))
    (shift-bound D (map (mirror_row_of D) rows) (map (mirror_relation D) relations) u mirrored
    (run-done trailing (enough rows) (mirror_state D (start rows relations)) u f).1))
  where
    mirrored : All (λ r. width r ≤ suc D) (map (mirror_row_of D) rows)
    mirrored = map-all (λ r. width r ≤ suc D) (mirror_row_of D) rows
        (all-mono (λ r. width r ≤ suc D) (λ r. width (mirror_row_of D r) ≤ suc D) (width-mirror_row D) rows narrow)
