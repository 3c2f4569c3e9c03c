-- The constant rows say of a vector what the equations and relations say of the sequence that it holds (SCOPE 14.3).
--
-- Main definitions
--   sequence_of m N v    the sequence whose vector at index k is v (k m), .., v (k m + m - 1), and which is zero outside 0 to N
--   vector_of m y        the numbers of a sequence from index 0 on, m to an index
-- Main statements
--   row-says            a constant row kills v exactly if the equation's sum is zero at its n for the sequence that v holds
--   sequence-same       a sequence that is zero outside 0 to N is the one that its vector holds
use Rattle.std.specs.Prelude.{ℕ, zero, suc, ◌+◌, ◌*◌, ◌/◌, ◌%◌, ◌≤◌, ◌<◌, refl, ◌≢◌, ◌↔◌, Bool, true, false, ◌&&◌, cond, List, [], ◌∷◌, leb, length, get_or, ℤ, pos, negsuc, nat_abs, ◌+ℤ◌, ◌*ℤ◌, ◌≤ℤ◌, ◌<ℤ◌}
use Rattle.std.proofs.Common.{suc-le-suc, ◌∙◌, ap₂, subst, ⊎_elim, not-suc-le-zero, mod-lt, div-lt_iff_lt-mul, div-add-mod', mod-eq_of_lt, add-zero, suc-mul, mul-le-mul_right, arith, leb→le, le→leb, ltb→lt, lt→ltb}
use Rattle.std.proofs.Math.Path.{◌≡◌, sym, ap}
use Rattle.std.proofs.Math.Logic.{by_cases}
use Rattle.std.proofs.Math.Option.{Option, none, some}
use Rattle.std.proofs.Math.Nat.{mul-add-div_right, mul-add-mod_self_right, div-eq_of_lt, zero-add}
use Rattle.std.proofs.Math.Dec.{T, ltb}
use Rattle.std.proofs.Math.IntN.{pred_ℤ, *ℤ-zero, *ℤ_comm, ℤ_discrete}
use Rattle.std.specs.Int.Signed.{clash_ℤ}
use Rattle.algebra.specs.Order.{≤ℤ-or->, pos-≤ℤ, pos-<ℤ, pos-nonneg, pos-nat_abs-nonneg}
use Rattle.algebra.specs.Integers.{ringℤ, *ℤ-1, -ℤ-zero}
use Rattle.algebra.specs.Sums.{count_from, sum_over, sum_below, sum_below-congr, sum_below-single, sum_below-zeros, get_or-count_from}
use Rattle.algebra.specs.Sums.{length-count_from}
use Rattle.algebra.specs.Polynomials.{Polynomial, eval}
use Rattle.lists.specs.Everywhere.{All}
use Rattle.lists.specs.Tests.{T-&&, cond-passed, cond-failed}
use Rattle.rules.specs.Limits.{small}
use Rattle.rules.specs.Rows.{Block, Row}
use Rattle.rules.specs.Sequences.{Sequence, block_value, blocks_value, left_value, Same}
use Rattle.theory.specs.Values.{delta, delta-here, delta-index, delta-column, left-delta, left-nothing}
use Rattle.evaluation.specs.Evaluated.{horner, horner-eval}
use Rattle.constant_rows.specs.Constants.{Judged, fine, passed, and_on, each, judge_value, entry_at, the_columns_of, column_polynomial}
use Rattle.constant_rows.specs.Constants.{constant_row_of}
use Rattle.echelon.specs.Eliminated.{at}
use Rattle.echelon.specs.Pairing.{pair, Kills, pair-congr}
use Rattle.echelon.specs.KernelKept.{and_on-fine}

-- ---- the values

entry_value : (n : ℤ) (p : Polynomial) (v : ℤ) → entry_at n p ≡ fine v → v ≡ eval p n
unfolding entry_at judge_value
entry_value n p v e = step (horner n p) (horner-eval n p) e
  where
    limit : (t : Bool) (w : ℤ) → cond t (fine w) (passed 8) ≡ fine v → v ≡ w
    limit true w s = cc
    limit false w s = let z : ◌≡◌ {A = ℕ} 0 1 = cc in absurd (omega arith)

    step : (o : Option ℤ) → ((w : ℤ) → o ≡ some w → w ≡ eval p n) → judge_value o ≡ fine v → v ≡ eval p n
    step none known s = let z : ◌≡◌ {A = ℕ} 0 1 = cc in absurd (omega arith)
    step (some w) known s = limit (small w) w s ∙ known w refl

-- ---- one after another

pub each-length : {A B : Type 0} (f : A → Judged B) (l : List A) (ys : List B) → each f l ≡ fine ys → length ys ≡ length l
unfolding each
each-length f [] ys e = let s : [] ≡ ys = cc in sym (ap length s)
each-length f (x ∷ l) ys e =
    let (y, one, rest) = and_on-fine (f x) (λ y. and_on (each f l) (λ ys. fine (y ∷ ys))) ys e in
    let (zs, more, last) = and_on-fine (each f l) (λ ys. fine (y ∷ ys)) ys rest in
    let s : (y ∷ zs) ≡ ys = cc in
    sym (ap length s) ∙ ap suc (each-length f l zs more)

pub each-place : {A B : Type 0} (f : A → Judged B) (l : List A) (ys : List B) → each f l ≡ fine ys
    → (j : ℕ) → j < length l → (a : A) (b : B) → f (get_or l j a) ≡ fine (get_or ys j b)
unfolding each
each-place f [] ys e j h a b = absurd (not-suc-le-zero h)
each-place f (x ∷ l) ys e j h a b =
    let (y, one, rest) = and_on-fine (f x) (λ y. and_on (each f l) (λ ys. fine (y ∷ ys))) ys e in
    let (zs, more, last) = and_on-fine (each f l) (λ ys. fine (y ∷ ys)) ys rest in
    let s : (y ∷ zs) ≡ ys = cc in
    subst (λ u. f (get_or (x ∷ l) j a) ≡ fine (get_or u j b)) s (at_place y zs one (each-place f l zs more) j h)
  where
    at_place : (y : _) (zs : List _) → f x ≡ fine y → ((i : ℕ) → i < length l → (a : _) (b : _) → f (get_or l i a) ≡ fine (get_or zs i b))
        → (i : ℕ) → i < length (x ∷ l) → f (get_or (x ∷ l) i a) ≡ fine (get_or (y ∷ zs) i b)
    at_place y zs one more zero p = one
    at_place y zs one more (suc i) p = more i (omega arith) a b

pub each_all : {A B : Type 0} (P : A → Type 0) (Q : B → Type 0) (f : A → Judged B) → ((x : A) (y : B) → f x ≡ fine y → P x ↔ Q y)
    → (l : List A) (ys : List B) → each f l ≡ fine ys → All P l ↔ All Q ys
unfolding each All
each_all P Q f same [] ys e = let s : [] ≡ ys = cc in subst (λ u. Unit {0} ↔ All Q u) s (λ h. h, λ h. h)
each_all P Q f same (x ∷ l) ys e =
    let (y, one, rest) = and_on-fine (f x) (λ y. and_on (each f l) (λ ys. fine (y ∷ ys))) ys e in
    let (zs, more, last) = and_on-fine (each f l) (λ ys. fine (y ∷ ys)) ys rest in
    let s : (y ∷ zs) ≡ ys = cc in
    let first = same x y one in
    let others = each_all P Q f same l zs more in
    subst (λ u. (P x × All P l) ↔ All Q u) s (λ h. (first.0 h.0, others.0 h.1), λ h. (first.1 h.0, others.1 h.1))

-- ---- the sequence that a vector holds

-- The column of an index up to N and an unknown is one of the columns.
pub column-inside : (m N k c : ℕ) → k ≤ N → c < m → k * m + c < the_columns_of m N
unfolding the_columns_of
column-inside m N k c h p = omega (arith, suc-mul k m, mul-le-mul_right m (suc-le-suc h))

unfoldable pub sequence_of : ℕ → ℕ → (ℕ → ℤ) → Sequence
sequence_of m N v (pos k) c = cond (leb k N && ltb c m) (v (k * m + c)) (pos 0)
sequence_of m N v (negsuc k) c = pos 0

-- ---- linearity

block-linear : (n a : ℤ) (v w : ℕ → ℤ) (b : Block) → block_value n (λ c. a *ℤ v c +ℤ w c) b ≡ a *ℤ block_value n v b +ℤ block_value n w b
unfolding block_value
block-linear n a v w [] = sym (ap (λ u. u +ℤ pos 0) (*ℤ-zero a))
block-linear n a v w (p ∷ b) =
    ap (λ s. eval p n *ℤ (a *ℤ v 0 +ℤ w 0) +ℤ s) (block-linear n a (λ c. v (suc c)) (λ c. w (suc c)) b)
    ∙ step (eval p n) (v 0) (w 0) (block_value n (λ c. v (suc c)) b) (block_value n (λ c. w (suc c)) b)
  where
    step : (x e f s t : ℤ) → x *ℤ (a *ℤ e +ℤ f) +ℤ (a *ℤ s +ℤ t) ≡ a *ℤ (x *ℤ e +ℤ s) +ℤ (x *ℤ f +ℤ t)
    step x e f s t = simp ringℤ

blocks-linear : (n a : ℤ) (z y : Sequence) (k : ℤ) (bs : List Block)
    → blocks_value n (λ i c. a *ℤ z i c +ℤ y i c) k bs ≡ a *ℤ blocks_value n z k bs +ℤ blocks_value n y k bs
unfolding blocks_value
blocks-linear n a z y k [] = sym (ap (λ u. u +ℤ pos 0) (*ℤ-zero a))
blocks-linear n a z y k (b ∷ bs) =
    ap₂ ◌+ℤ◌ (block-linear n a (z k) (y k) b) (blocks-linear n a z y (pred_ℤ k) bs)
    ∙ step (block_value n (z k) b) (block_value n (y k) b) (blocks_value n z (pred_ℤ k) bs) (blocks_value n y (pred_ℤ k) bs)
  where
    step : (e f s t : ℤ) → a *ℤ e +ℤ f +ℤ (a *ℤ s +ℤ t) ≡ a *ℤ (e +ℤ s) +ℤ (f +ℤ t)
    step e f s t = simp ringℤ

left-sum : (l : ℤ) (r : Row) (n : ℤ) (v : ℕ → ℤ) (s : ℕ → Sequence) (js : List ℕ)
    → left_value l r (λ i c. sum_over (λ j. v j *ℤ s j i c) js) n ≡ sum_over (λ j. v j *ℤ left_value l r (s j) n) js
unfolding sum_over left_value
left-sum l r n v s [] = left-nothing l r n
left-sum l r n v s (j ∷ js) =
    blocks-linear n (v j) (s j) (λ i c. sum_over (λ j. v j *ℤ s j i c) js) (n +ℤ l) r.blocks
    ∙ ap (λ u. v j *ℤ left_value l r (s j) n +ℤ u) (left-sum l r n v s js)

module _ (m N : ℕ) (v : ℕ → ℤ) (some-column : 0 < m) where
  spike : ℕ → Sequence
  spike j = delta (pos (j / m)) (j % m)

  apart : (j : ℕ) (i : ℤ) (c : ℕ) → (i ≡ pos (j / m) → c ≡ j % m → ⊥) → spike j i c ≡ pos 0
  unfolding spike
  apart j i c h =
      by_cases (ℤ_discrete i (pos (j / m))) (λ e. delta-column (pos (j / m)) (j % m) i c (h e))
      (λ e. delta-index (pos (j / m)) (j % m) i c (λ d. e (-ℤ-zero i (pos (j / m)) d)))

  nothing-at : (i : ℤ) (c : ℕ) → ((j : ℕ) → j < the_columns_of m N → i ≡ pos (j / m) → c ≡ j % m → ⊥)
      → pos 0 ≡ sum_below (the_columns_of m N) (λ j. v j *ℤ spike j i c)
  nothing-at i c h =
      sym (sum_below-zeros (the_columns_of m N) (λ j. v j *ℤ spike j i c) (λ j p. ap (λ u. v j *ℤ u) (apart j i c (h j p)) ∙ *ℤ-zero (v j)))

  -- The sequence as a sum of sequences with one nonzero value each.
  sequence-sum : (i : ℤ) (c : ℕ) → sequence_of m N v i c ≡ sum_below (the_columns_of m N) (λ j. v j *ℤ spike j i c)
  unfolding sequence_of the_columns_of spike
  sequence-sum (negsuc k) c = nothing-at (negsuc k) c (λ j _ e _. let z : ◌≡◌ {A = ℕ} 0 1 = cc in omega arith)
  sequence-sum (pos k) c = cases (leb k N && ltb c m) inside_of of-inside
    where
      both : T (leb k N && ltb c m) ↔ (T (leb k N) × T (ltb c m))
      both = T-&& (leb k N) (ltb c m)

      inside_of : T (leb k N && ltb c m) → (k ≤ N) × (c < m)
      inside_of h = (leb→le k N (both.0 h).0, ltb→lt c m (both.0 h).1)

      of-inside : (k ≤ N) × (c < m) → T (leb k N && ltb c m)
      of-inside h = both.1 (le→leb k N h.0, lt→ltb c m h.1)

      here : (k ≤ N) × (c < m) → v (k * m + c) ≡ sum_below (suc N * m) (λ j. v j *ℤ spike j (pos k) c)
      here h =
          sym (*ℤ-1 (v (k * m + c))) ∙ ap (λ u. v (k * m + c) *ℤ u) (sym one)
          ∙ sym (sum_below-single (suc N * m) (k * m + c) (λ j. v j *ℤ spike j (pos k) c) bound others)
        where
          place : (k * m + c) / m ≡ k
          place = mul-add-div_right some-column k c ∙ ap (λ u. k + u) (div-eq_of_lt h.1) ∙ add-zero k

          unknown : (k * m + c) % m ≡ c
          unknown = mul-add-mod_self_right k m c ∙ mod-eq_of_lt h.1

          one : spike (k * m + c) (pos k) c ≡ pos 1
          one = ap₂ (λ a b. delta (pos a) b (pos k) c) place unknown ∙ delta-here (pos k) c

          bound : k * m + c < suc N * m
          bound = column-inside m N k c h.0 h.1

          others : (j : ℕ) → j < suc N * m → j ≢ k * m + c → v j *ℤ spike j (pos k) c ≡ pos 0
          others j _ d =
              ap (λ u. v j *ℤ u) (apart j (pos k) c
              (λ e f. d (sym (div-add-mod' j m) ∙ ap₂ (λ a b. a * m + b) (sym (ap nat_abs e)) (sym f))))
              ∙ *ℤ-zero (v j)

      cases : (t : Bool) → (T t → (k ≤ N) × (c < m)) → ((k ≤ N) × (c < m) → T t)
          → cond t (v (k * m + c)) (pos 0) ≡ sum_below (suc N * m) (λ j. v j *ℤ spike j (pos k) c)
      cases true p q = here (p tt)
      cases false p q =
          nothing-at (pos k) c (λ j b e f. q (
            within (subst (λ u. u < suc N) (sym (ap nat_abs e)) ((div-lt_iff_lt-mul some-column).1 b)),
            subst (λ u. u < m) (sym f) (mod-lt j some-column),
          ))
        where
          within : k < suc N → k ≤ N
          within b = omega arith

  -- What the left part of an equation makes at n of the sequence that v holds.
  pub left-sequence : (l : ℤ) (r : Row) (n : ℤ)
      → left_value l r (sequence_of m N v) n ≡ pair (the_columns_of m N) (λ j. eval (column_polynomial m l r n j) n) v
  unfolding pair sum_below spike column_polynomial
  left-sequence l r n =
      ap (λ y. left_value l r y n) (λ t i c. sequence-sum i c t) ∙ left-sum l r n v spike (count_from 0 (the_columns_of m N))
      ∙ sum_below-congr (the_columns_of m N) (λ j. v j *ℤ left_value l r (spike j) n) (λ j. eval (column_polynomial m l r n j) n *ℤ v j)
      (λ j _. ap (λ u. v j *ℤ u) (left-delta l r (pos (j / m)) (j % m) n) ∙ *ℤ_comm (v j) (eval (column_polynomial m l r n j) n))

  -- A constant row says of v what its equation says at n of the sequence that v holds.
  pub row-says : (l : ℤ) (r : Row) (n : ℤ) (row : List ℤ) → constant_row_of m l N r n ≡ fine row
      → (left_value l r (sequence_of m N v) n ≡ pos 0) ↔ Kills (the_columns_of m N) v row
  unfolding Kills constant_row_of at
  row-says l r n row e =
      (λ h. same ∙ h, λ h. sym same ∙ h)
    where
      entries : (j : ℕ) → j < the_columns_of m N → at row j ≡ eval (column_polynomial m l r n j) n
      entries j h =
          entry_value n (column_polynomial m l r n j) (at row j)
          (subst (λ k. entry_at n (column_polynomial m l r n k) ≡ fine (at row j)) (get_or-count_from 0 (the_columns_of m N) j 0 h ∙ zero-add j)
          (each-place (λ j. entry_at n (column_polynomial m l r n j)) (count_from 0 (the_columns_of m N)) row e j
          (subst (λ k. j < k) (sym (length-count_from 0 (the_columns_of m N))) h) 0 (pos 0)))

      same : pair (the_columns_of m N) (at row) v ≡ left_value l r (sequence_of m N v) n
      same =
          pair-congr (the_columns_of m N) (at row) (λ j. eval (column_polynomial m l r n j) n) v v entries (λ j _. refl)
          ∙ sym (left-sequence l r n)

pub row-length : (m : ℕ) (l : ℤ) (N : ℕ) (r : Row) (n : ℤ) (row : List ℤ) → constant_row_of m l N r n ≡ fine row → length row ≡ the_columns_of m N
unfolding constant_row_of
row-length m l N r n row e =
    each-length (λ j. entry_at n (column_polynomial m l r n j)) (count_from 0 (the_columns_of m N)) row e ∙ length-count_from 0 (the_columns_of m N)

-- ---- indices outside 0 to N

pub sequence-low : (m N : ℕ) (v : ℕ → ℤ) (i : ℤ) (c : ℕ) → i <ℤ pos 0 → sequence_of m N v i c ≡ pos 0
unfolding sequence_of
sequence-low m N v (pos k) c h = clash_ℤ h (pos-nonneg k)
sequence-low m N v (negsuc k) c h = refl

pub sequence-high : (m N : ℕ) (v : ℕ → ℤ) (i : ℤ) (c : ℕ) → pos N <ℤ i → sequence_of m N v i c ≡ pos 0
unfolding sequence_of
sequence-high m N v (pos k) c h =
    cond-failed (leb k N && ltb c m) (v (k * m + c)) (pos 0)
    (λ t. let low : k ≤ N = leb→le k N ((T-&& (leb k N) (ltb c m)).0 t).0 in let high : N < k = pos-<ℤ.0 h in omega arith)
sequence-high m N v (negsuc k) c h = refl

pub sequence-here : (m N : ℕ) (v : ℕ → ℤ) (k c : ℕ) → k ≤ N → c < m → sequence_of m N v (pos k) c ≡ v (k * m + c)
unfolding sequence_of
sequence-here m N v k c h p =
    cond-passed (leb k N && ltb c m) (v (k * m + c)) (pos 0) ((T-&& (leb k N) (ltb c m)).1 (le→leb k N h, lt→ltb c m p))

unfoldable pub vector_of : ℕ → Sequence → ℕ → ℤ
vector_of m y j = y (pos (j / m)) (j % m)

-- A sequence that is zero below 0 and above N is the one that its vector holds.
pub sequence-same : (m N : ℕ) (y : Sequence) → ((i : ℤ) → i <ℤ pos 0 → (c : ℕ) → c < m → y i c ≡ pos 0)
    → ((i : ℤ) → pos N <ℤ i → (c : ℕ) → c < m → y i c ≡ pos 0) → (i : ℤ) → Same m (sequence_of m N (vector_of m y)) y i
unfolding Same vector_of
sequence-same m N y low high i c h = ⊎_elim from_zero below (≤ℤ-or-> (pos 0) i)
  where
    v : ℕ → ℤ
    v = vector_of m y

    below : i <ℤ pos 0 → sequence_of m N v i c ≡ y i c
    below p = sequence-low m N v i c p ∙ sym (low i p c h)

    above : pos N <ℤ i → sequence_of m N v i c ≡ y i c
    above p = sequence-high m N v i c p ∙ sym (high i p c h)

    some-column : 0 < m
    some-column = omega arith

    inside : (k : ℕ) → i ≡ pos k → k ≤ N → sequence_of m N v i c ≡ y i c
    inside k e p =
        ap (λ x. sequence_of m N v x c) e ∙ sequence-here m N v k c p h
        ∙ ap₂ (λ a b. y (pos a) b) (mul-add-div_right some-column k c ∙ ap (λ u. k + u) (div-eq_of_lt h) ∙ add-zero k)
        (mul-add-mod_self_right k m c ∙ mod-eq_of_lt h) ∙ ap (λ x. y x c) (sym e)

    from_zero : pos 0 ≤ℤ i → sequence_of m N v i c ≡ y i c
    from_zero p =
        ⊎_elim (λ q. inside (nat_abs i) (sym (pos-nat_abs-nonneg p))
        (pos-≤ℤ.0 (subst (λ x. x ≤ℤ pos N) (sym (pos-nat_abs-nonneg p)) q))) above
        (≤ℤ-or-> i (pos N))
