-- Rows in triangular form are independent.
--
-- Main statements
--   triangular-independent   rows each of which is a pivot row at its place are not dependent
use Rattle.std.specs.Prelude.{◌≡◌, ◌≢◌, not, List, [], T, length, get_or, pos, neg_ℤ, ◌+ℤ◌, ◌-ℤ◌, ◌*ℤ◌}
use Rattle.std.proofs.Math.Path.{sym, ap}
use Rattle.std.proofs.Common.{◌∙◌, subst, le_refl, not-suc-le-zero, arith, T_not}
use Rattle.std.proofs.Math.Logic.{by_cases}
use Prim.Native.Nat.{ℕ, zero, suc, ◌+◌, ◌-◌, ◌≤◌, ◌<◌}
use Rattle.std.proofs.Math.Decide.{dec_lt}
use Rattle.std.proofs.Math.Dec.{not_T}
use Rattle.std.proofs.Math.IntN.{ℤ, +ℤ_comm, +ℤ_invr, zero-*ℤ, *ℤ-zero, +ℤ-neg_ℤ_cancel}
use Rattle.algebra.specs.Integers.{ringℤ}
use Rattle.algebra.specs.Sums.{sum_below, sum_below-congr, sum_below-single}
use Rattle.algebra.specs.Polynomials.{Polynomial, eval, is_zero_of, mul, shift_by, eval_mul, eval-shift_by, eval-is_zero, is_zero-shift_by}
use Rattle.algebra.specs.Coefficients.{mul-nonzero}
use Rattle.algebra.specs.Vanishing.{zero-everywhere}
use Rattle.rules.specs.Rows.{Row, no_row, leading_block, entry}
use Rattle.rules.specs.Sequences.{Sequence, left_value, block_from, polynomial_at_of, Dependent}
use Rattle.theory.specs.Values.{delta, left-delta}
use Rattle.theory.specs.Combinations.{sum_within-below, place_of, Multiplier, copies, combination_value}
use Rattle.theory.specs.ByValues.{left_values, combination-zero}
use Rattle.theory.specs.Pivots.{PivotRows}
use Rattle.lists.specs.Tests.{dec-T}

-- What a row makes at n of the sequence that is 1 at index n + l, the last that the row reaches: its leading entry.
leading-value : (l : ℤ) (r : Row) (c : ℕ) (n : ℤ) → left_value l r (delta (n +ℤ l) c) n ≡ eval (entry r c) n
unfolding polynomial_at_of block_from entry leading_block
leading-value l r c n = left-delta l r (n +ℤ l) c n ∙ ap (λ s. eval (get_or (block_from r.blocks s) c []) n) place
  where
    place : l -ℤ (n +ℤ l -ℤ n) ≡ pos 0
    place = ap (λ a. l -ℤ a) (ap (λ a. a -ℤ n) (+ℤ_comm n l) ∙ +ℤ-neg_ℤ_cancel l n) ∙ +ℤ_invr l

-- Of the sequence that is 1 at an index past n + l it makes nothing.
past_value : (l : ℤ) (r : Row) (c : ℕ) (n : ℤ) (e : ℕ) → left_value l r (delta (n +ℤ l +ℤ pos (suc e)) c) n ≡ pos 0
unfolding polynomial_at_of block_from eval
past_value l r c n e =
    left-delta l r (n +ℤ l +ℤ pos (suc e)) c n ∙ ap (λ s. eval (get_or (block_from r.blocks s) c []) n) (place (pos (suc e)))
  where
    place : (a : ℤ) → l -ℤ (n +ℤ l +ℤ a -ℤ n) ≡ neg_ℤ a
    place a = ap (λ b. l -ℤ b) (inner ∙ +ℤ-neg_ℤ_cancel (l +ℤ a) n) ∙ outer ∙ +ℤ-neg_ℤ_cancel (neg_ℤ a) l
      where
        inner : n +ℤ l +ℤ a -ℤ n ≡ l +ℤ a +ℤ n -ℤ n
        inner = simp ringℤ

        outer : l -ℤ (l +ℤ a) ≡ neg_ℤ a +ℤ l -ℤ l
        outer = simp ringℤ

-- The shift at a place, from -N on.
abbrev shift_at : ℕ → ℕ → ℤ
shift_at N J = pos J -ℤ pos N

-- The multipliers of the first m equations at place J are zero.
abbrev Clear : ℕ → ℕ → Multiplier → ℕ → Type 0
Clear m N S J = (i : ℕ) → i < m → T (is_zero_of (S i (shift_at N J)))

abbrev ClearAbove : ℕ → ℕ → Multiplier → ℕ → Type 0
ClearAbove m N S J = (I : ℕ) → J < I → I < suc (N + N) → Clear m N S I

-- A combination that vanishes, with zero multipliers at the shifts above place J.
module _ (l : ℤ) (rows : List Row) (N : ℕ) (S : Multiplier)
    (vanishes : (z : Sequence) (x : ℤ) → combination_value (length rows) (left_values l rows) N S z x ≡ pos 0)
    (J : ℕ) (below : J < suc (N + N)) (clear : ClearAbove (length rows) N S J) where
  -- At the sequence that is 1 at the last index that the copies at J reach, the other copies make nothing.
  leading-copies : (c : ℕ) (x : ℤ) (i : ℕ) → i < length rows
      → copies (left_values l rows) N S (delta (x +ℤ shift_at N J +ℤ l) c) x i
      ≡ eval (S i (shift_at N J)) x *ℤ eval (entry (get_or rows i no_row) c) (x +ℤ shift_at N J)
  unfolding copies
  leading-copies c x i h =
      sum_within-below N _ ∙ sum_below-single (suc (N + N)) J (λ I. eval (S i (shift_at N I)) x *ℤ value I) below others
      ∙ ap (λ e. eval (S i (shift_at N J)) x *ℤ e) (leading-value l (get_or rows i no_row) c (x +ℤ shift_at N J))
    where
      value : ℕ → ℤ
      value I = left_value l (get_or rows i no_row) (delta (x +ℤ shift_at N J +ℤ l) c) (x +ℤ shift_at N I)

      lower : (I : ℕ) → I < J → value I ≡ pos 0
      lower I m =
          ap (λ y. left_value l (get_or rows i no_row) (delta y c) (x +ℤ shift_at N I)) index
          ∙ past_value l (get_or rows i no_row) c (x +ℤ shift_at N I) (J - suc I)
        where
          regroup : (a b e : ℤ) → x +ℤ (a +ℤ e -ℤ b) +ℤ l ≡ x +ℤ (a -ℤ b) +ℤ l +ℤ e
          regroup a b e = simp ringℤ

          split : J ≡ I + suc (J - suc I)
          split = omega arith

          index : x +ℤ shift_at N J +ℤ l ≡ x +ℤ shift_at N I +ℤ l +ℤ pos (suc (J - suc I))
          index = ap (λ a. x +ℤ shift_at N a +ℤ l) split ∙ regroup (pos I) (pos N) (pos (suc (J - suc I)))

      others : (I : ℕ) → I < suc (N + N) → I ≢ J → eval (S i (shift_at N I)) x *ℤ value I ≡ pos 0
      others I b n = by_cases (dec_lt I J)
          (λ m. rw (lower I m) (*ℤ-zero (eval (S i (shift_at N I)) x)))
          (λ m. rw (eval-is_zero (S i (shift_at N I)) x (clear I (omega arith) b i h)) (zero-*ℤ (value I)))

  -- So the leading entries of the copies at J, each times its multiplier, add up to zero in every column.
  leading-sum : (c : ℕ) (x : ℤ)
      → sum_below (length rows) (λ i. eval (S i (shift_at N J)) x *ℤ eval (entry (get_or rows i no_row) c) (x +ℤ shift_at N J)) ≡ pos 0
  unfolding combination_value
  leading-sum c x =
      sum_below-congr (length rows) _ _ (λ i h. sym (leading-copies c x i h)) ∙ vanishes (delta (x +ℤ shift_at N J +ℤ l) c) x

module _ (l : ℤ) (rows : List Row) (order : List ℕ) (pivots : PivotRows (length rows) order rows) (N : ℕ) (S : Multiplier)
    (vanishes : (z : Sequence) (x : ℤ) → combination_value (length rows) (left_values l rows) N S z x ≡ pos 0) where
  -- At the column of row i the later rows have no leading entry, and the earlier ones have multiplier zero.
  next-clear : (J : ℕ) → J < suc (N + N) → ClearAbove (length rows) N S J → (i : ℕ) → i < length rows → Clear i N S J
      → T (is_zero_of (S i (shift_at N J)))
  next-clear J below clear i h earlier = by_cases (dec-T (is_zero_of (S i K))) (λ t. t)
      (λ n. absurd (T_not (is_zero_of (mul (S i K) pivot)) (product-nonzero n) product-zero))
    where
      K : ℤ
      K = shift_at N J

      pivot : Polynomial
      pivot = shift_by K (entry (get_or rows i no_row) (get_or order i 0))

      term : ℤ → ℕ → ℤ
      term x k = eval (S k K) x *ℤ eval (entry (get_or rows k no_row) (get_or order i 0)) (x +ℤ K)

      others : (x : ℤ) (k : ℕ) → k < length rows → k ≢ i → term x k ≡ pos 0
      others x k b n = by_cases (dec_lt k i)
          (λ m. rw (eval-is_zero (S k K) x (earlier k m)) (zero-*ℤ (eval (entry (get_or rows k no_row) (get_or order i 0)) (x +ℤ K))))
          (λ m. rw (eval-is_zero (entry (get_or rows k no_row) (get_or order i 0)) (x +ℤ K) ((pivots k b).zeros i (omega arith)))
          (*ℤ-zero (eval (S k K) x)))

      value : (x : ℤ) → eval (mul (S i K) pivot) x ≡ term x i
      value x = eval_mul (S i K) pivot x ∙ ap (λ e. eval (S i K) x *ℤ e) (eval-shift_by K (entry (get_or rows i no_row) (get_or order i 0)) x)

      product-zero : T (is_zero_of (mul (S i K) pivot))
      product-zero = (zero-everywhere (mul (S i K) pivot)).1
          (λ x. value x ∙ sym (sum_below-single (length rows) i _ h (others x))
          ∙ leading-sum l rows N S vanishes J below clear (get_or order i 0) x)

      product-nonzero : ¬ T (is_zero_of (S i K)) → T (not (is_zero_of (mul (S i K) pivot)))
      product-nonzero n = mul-nonzero (S i K) pivot (not_T (is_zero_of (S i K)) n)
          (rw (is_zero-shift_by K (entry (get_or rows i no_row) (get_or order i 0))) (pivots i h).diagonal)

  first-clear : (J : ℕ) → J < suc (N + N) → ClearAbove (length rows) N S J → (i : ℕ) → i ≤ length rows → Clear i N S J
  first-clear J below clear zero h k b = absurd (not-suc-le-zero b)
  first-clear J below clear (suc i) h k b = last (first-clear J below clear i (omega arith))
    where
      last : Clear i N S J → T (is_zero_of (S k (shift_at N J)))
      last earlier = by_cases (dec_lt k i) (earlier k)
          (λ m. subst (λ a. T (is_zero_of (S a (shift_at N J)))) (same m) (next-clear J below clear i h earlier))
        where
          same : ¬ (k < i) → i ≡ k
          same m = omega arith

  -- From the highest shift down, all multipliers are zero.
  all-clear : (t J : ℕ) → N + N < J + t → J < suc (N + N) → Clear (length rows) N S J
  all-clear zero J p b = absurd (omega arith)
  all-clear (suc t) J p b = first-clear J b (λ I above inside. all-clear t I (omega arith) inside) (length rows) (le_refl (length rows))

-- Where row j is zero at c(1) to c(j - 1) and nonzero at c(j) (SCOPE 2.71), no nonzero combination vanishes.
pub triangular-independent : (l : ℤ) (rows : List Row) (order : List ℕ) → PivotRows (length rows) order rows → Dependent l rows → ⊥
triangular-independent l rows order pivots D =
    let (j, below, e) = place_of N D.shift D.shift-within in
    let clear = all-clear l rows order pivots N S (combination-zero l rows N S D.vanishes) (suc (N + N)) j (omega arith) below in
    T_not (is_zero_of (S D.number D.shift)) D.nonzero
    (subst (λ k. T (is_zero_of (S D.number k))) e (clear D.number D.number-below))
  where
    N : ℕ
    N = D.reach

    S : Multiplier
    S = D.multiplier
