-- The drop of a zero row: it is left out of the list, and the later rows move up.
--
-- Main definitions
--   former_place i k         the place that row k of the list without row i had
--
-- Main statements
--   kept_row                the rows kept, so their values at every n
--   drop-satisfied          the same sequences satisfy the list without a zero row
--   zero-row-dependent      a list with a zero row is dependent
--   kept-dependent          if the rows kept are dependent, so was the list, whatever row is dropped
--   drop-pivots             the triangular form of the rows before it stays; a zero row is none of them (`pivot-nonzero`)
--   total_of-without          a sum over the rows without one row
--   drop-width, drop-shifts  the total width, and the shifts before the rows, without a zero row
-- The converse of kept-dependent does not hold: a list with a zero row is dependent, and the rows kept may be independent.
use Rattle.std.specs.Prelude.{ℕ, zero, suc, ◌+◌, ◌-◌, ◌≤◌, ◌<◌, ◌≡◌, ◌≢◌, ◌↔◌, not, List, [], ◌∷◌, T, length, get_or, ℤ, pos, ◌+ℤ◌, ◌*ℤ◌}
use Rattle.std.proofs.Common.{sym, ◌∙◌, ap, ap₂, subst, not-suc-le-zero, le_of_suc-le-suc, arith}
use Rattle.std.proofs.Math.Logic.{ite, if_pos, if_neg, by_cases}
use Rattle.std.proofs.Math.Decide.{ℕ_discrete, dec_lt}
use Rattle.std.proofs.Math.IntN.{*ℤ-zero, zero-*ℤ}
use Rattle.algebra.specs.Integers.{+ℤ-left-comm}
use Rattle.algebra.specs.Sums.{sum_below, sum_below-congr, sum_below-append, sum_below-front, sum_below-zeros}
use Rattle.algebra.specs.Polynomials.{eval, is_zero_of}
use Rattle.rules.specs.Rows.{Row, Relation, no_row, zero_row, width}
use Rattle.lists.specs.Places.{without, length_without, get_or-without-before, get_or-without-after, all_without, all-of-without}
use Rattle.rules.specs.Sequences.{Sequence, value_of, SatisfiesEquation, Satisfies, Dependent}
use Rattle.theory.specs.Cells.{zero_row-width, total_of, total_width, shifts_of}
use Rattle.theory.specs.Values.{value-zero}
use Rattle.theory.specs.Pivots.{PivotRow, PivotRows}
use Rattle.theory.specs.Combinations.{put, put_same, put_other, eval-nil, number-nonzero, sum_within-congr, sum_within-zeros, Values}
use Rattle.theory.specs.Combinations.{Multiplier, copies, combination_value, DependentValues}
use Rattle.theory.specs.ByValues.{row_values, dependent-values}

-- ---- the rows kept

pub former_place : ℕ → ℕ → ℕ
former_place i k = ite (dec_lt k i) k (suc k)

pub former-before : (i k : ℕ) → k < i → former_place i k ≡ k
unfolding former_place
former-before i k h = if_pos (dec_lt k i) h k (suc k)

pub former-after : (i k : ℕ) → i ≤ k → former_place i k ≡ suc k
unfolding former_place
former-after i k h = if_neg (dec_lt k i) (omega arith) k (suc k)

pub kept_row : (rows : List Row) (i k : ℕ) → get_or (without rows i) k no_row ≡ get_or rows (former_place i k) no_row
kept_row rows i k = by_cases (dec_lt k i)
    (λ h. get_or-without-before rows no_row i k h ∙ ap (λ n. get_or rows n no_row) (sym (former-before i k h)))
    (λ h. let b : i ≤ k = omega arith in get_or-without-after rows no_row i k b ∙ ap (λ n. get_or rows n no_row) (sym (former-after i k b)))

pub drop-pivots : (w : ℕ) (order : List ℕ) (rows : List Row) (i : ℕ) → w ≤ i → PivotRows w order rows → PivotRows w order (without rows i)
drop-pivots w order rows i later p k h = subst (PivotRow order k) (sym (get_or-without-before rows no_row i k (omega arith))) (p k h)

-- ---- the sequences

pub drop-satisfied : (l : ℤ) (z : Sequence) (rows : List Row) (relations : List Relation) (i : ℕ) → T (zero_row (get_or rows i no_row))
    → Satisfies l rows relations z ↔ Satisfies l (without rows i) relations z
unfolding Satisfies SatisfiesEquation
drop-satisfied l z rows relations i zeros = (
  λ s. (all_without (SatisfiesEquation l z) rows i s.0, s.1),
  λ s. (all-of-without (SatisfiesEquation l z) rows no_row i (λ n. value-zero l (get_or rows i no_row) z n zeros) s.0, s.1),
)

-- ---- the widths

pub total_of-without : (f : Row → ℕ) (rows : List Row) (i : ℕ) → i < length rows
    → total_of f (without rows i) + f (get_or rows i no_row) ≡ total_of f rows
unfolding total_of without
total_of-without f [] i h = absurd (not-suc-le-zero h)
total_of-without f (r ∷ rows) zero h = omega arith
total_of-without f (r ∷ rows) (suc i) h = step (total_of-without f rows i (le_of_suc-le-suc h))
  where
    step : total_of f (without rows i) + f (get_or rows i no_row) ≡ total_of f rows
        → f r + total_of f (without rows i) + f (get_or rows i no_row) ≡ f r + total_of f rows
    step e = omega arith

pub drop-width : (rows : List Row) (i : ℕ) → i < length rows → T (zero_row (get_or rows i no_row))
    → total_width (without rows i) ≡ total_width rows
drop-width rows i below zeros = omega (arith, total_of-without width rows i below, zero_row-width (get_or rows i no_row) zeros)

pub drop-shifts : (rows : List Row) (i : ℕ) → i < length rows → T (zero_row (get_or rows i no_row))
    → total_of shifts_of (without rows i) ≡ total_of shifts_of rows
drop-shifts rows i below zeros = omega (arith, total_of-without shifts_of rows i below, zero_row-width (get_or rows i no_row) zeros)

-- ---- dependence

zero-dependent : (m i : ℕ) (E : Values) → i < m → ((z : Sequence) (n : ℤ) → E z i n ≡ pos 0) → DependentValues m E
unfolding combination_value copies
zero-dependent m i E h zero-i =
    record {
      reach = 0;
      multiplier = S;
      number = i;
      shift = pos 0;
      number-below = h;
      shift-within = omega arith;
      nonzero = rw (put_same i (pos 1 ∷ []) (λ _. [])) (number-nonzero 1 (omega arith));
      vanishes = λ z x. sum_below-zeros m _ (λ k _. sum_within-zeros 0 _ (λ s _. at z x k s));
    }
  where
    S : Multiplier
    S k s = put i (pos 1 ∷ []) (λ _. []) k

    at : (z : Sequence) (x : ℤ) (k : ℕ) (s : ℤ) → eval (S k s) x *ℤ E z k (x +ℤ s) ≡ pos 0
    at z x k s = by_cases (ℕ_discrete k i)
        (λ e. rw e (rw (zero-i z (x +ℤ s)) (*ℤ-zero (eval (S i s) x))))
        (λ n. rw (put_other i (pos 1 ∷ []) (λ _. []) k n, eval-nil x) (zero-*ℤ (E z k (x +ℤ s))))

pub zero-row-dependent : (l : ℤ) (rows : List Row) (i : ℕ) → i < length rows → T (zero_row (get_or rows i no_row)) → Dependent l rows
zero-row-dependent l rows i below zeros = (dependent-values l rows).1
    (zero-dependent (length rows) i (row_values l rows) below (λ z n. value-zero l (get_or rows i no_row) z n zeros))

-- The place that the row at place n has after row i has been left out.
later_place : ℕ → ℕ → ℕ
later_place i n = ite (dec_lt n i) n (n - 1)

later-former : (i k : ℕ) → later_place i (former_place i k) ≡ k
unfolding later_place
later-former i k = by_cases (dec_lt k i)
    (λ h. ap (later_place i) (former-before i k h) ∙ if_pos (dec_lt k i) h k (k - 1))
    (λ h. let b : i ≤ k = omega arith in
    ap (later_place i) (former-after i k b) ∙ if_neg (dec_lt (suc k) i) (omega arith) (suc k) (suc k - 1) ∙ omega arith)

former-other : (i k : ℕ) → former_place i k ≢ i
former-other i k e = by_cases (dec_lt k i)
    (λ h. before h (sym (former-before i k h) ∙ e))
    (λ h. let b : i ≤ k = omega arith in after b (sym (former-after i k b) ∙ e))
  where
    before : k < i → k ≡ i → ⊥
    before h f = omega arith

    after : i ≤ k → suc k ≡ i → ⊥
    after h f = omega arith

former-below : (i k m : ℕ) → k < m → former_place i k < suc m
former-below i k m h = by_cases (dec_lt k i)
    (λ b. subst (λ n. n < suc m) (sym (former-before i k b)) (omega arith))
    (λ b. subst (λ n. n < suc m) (sym (former-after i k (omega arith))) (omega arith))

-- The term at i apart, and the others at the places that they had.
sum_below-without : (m i : ℕ) (f : ℕ → ℤ) → i ≤ m → sum_below (suc m) f ≡ f i +ℤ sum_below m (λ k. f (former_place i k))
sum_below-without m i f h =
    ap (λ n. sum_below n f) (omega arith) ∙ sum_below-append i (suc e) f
    ∙ ap (λ s. sum_below i f +ℤ s) (sum_below-front e (λ k. f (i + k)) ∙ ap (λ n. f n +ℤ sum_below e (λ k. f (i + suc k))) (omega arith))
    ∙ +ℤ-left-comm (sum_below i f) (f i) (sum_below e (λ k. f (i + suc k)))
    ∙ ap (λ s. f i +ℤ s) (sym (ap (λ n. sum_below n g) whole ∙ sum_below-append i e g ∙ ap₂ ◌+ℤ◌ front back))
  where
    e : ℕ
    e = m - i

    g : ℕ → ℤ
    g k = f (former_place i k)

    whole : m ≡ i + e
    whole = omega arith

    front : sum_below i g ≡ sum_below i f
    front = sum_below-congr i g f (λ k b. ap f (former-before i k b))

    back : sum_below e (λ k. g (i + k)) ≡ sum_below e (λ k. f (i + suc k))
    back = sum_below-congr e (λ k. g (i + k)) (λ k. f (i + suc k)) (λ k _. ap f (former-after i (i + k) (omega arith) ∙ omega arith))

-- The equations kept with their multipliers, and equation i with multipliers zero.
kept-values : (m i : ℕ) (E E' : Values) → i ≤ m → ((z : Sequence) (k : ℕ) (n : ℤ) → E' z k n ≡ E z (former_place i k) n)
    → DependentValues m E' → DependentValues (suc m) E
unfolding combination_value copies
kept-values m i E E' h kept D =
    record {
      reach = N;
      multiplier = S;
      number = former_place i D.number;
      shift = D.shift;
      number-below = former-below i D.number m D.number-below;
      shift-within = D.shift-within;
      nonzero = subst (λ p. T (not (is_zero_of p))) (sym (same D.number D.shift)) D.nonzero;
      vanishes = λ z x. sum_below-without m i (copies E N S z x) h ∙ ap₂ ◌+ℤ◌ (at_i z x) (others z x ∙ D.vanishes z x);
    }
  where
    N : ℕ
    N = D.reach

    S : Multiplier
    S n k = put i [] (λ n. D.multiplier (later_place i n) k) n

    same : (n : ℕ) (k : ℤ) → S (former_place i n) k ≡ D.multiplier n k
    same n k = put_other i [] (λ n. D.multiplier (later_place i n) k) (former_place i n) (former-other i n)
        ∙ ap (λ a. D.multiplier a k) (later-former i n)

    at_i : (z : Sequence) (x : ℤ) → copies E N S z x i ≡ pos 0
    at_i z x = sum_within-zeros N (λ k. eval (S i k) x *ℤ E z i (x +ℤ k))
        (λ k _. ap (λ p. eval p x *ℤ E z i (x +ℤ k)) (put_same i [] (λ n. D.multiplier (later_place i n) k))
        ∙ ap (λ a. a *ℤ E z i (x +ℤ k)) (eval-nil x) ∙ zero-*ℤ (E z i (x +ℤ k)))

    others : (z : Sequence) (x : ℤ) → sum_below m (λ n. copies E N S z x (former_place i n)) ≡ sum_below m (copies E' N D.multiplier z x)
    others z x = sum_below-congr m _ _
        (λ n _. sum_within-congr N (λ k _. ap₂ (λ p v. eval p x *ℤ v) (same n k) (sym (kept z n (x +ℤ k)))))

pub kept-dependent : (l : ℤ) (rows : List Row) (i : ℕ) → i < length rows → Dependent l (without rows i) → Dependent l rows
kept-dependent l rows i below D = (dependent-values l rows).1
    (subst (λ m. DependentValues m (row_values l rows)) (length_without rows i below)
    (kept-values (length (without rows i)) i (row_values l rows) (row_values l (without rows i)) (omega (arith, length_without rows i below))
    (λ z k n. ap (λ r. value_of l r z n) (kept_row rows i k)) ((dependent-values l (without rows i)).0 D)))
