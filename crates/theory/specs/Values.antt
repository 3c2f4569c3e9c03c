-- The values of rows: the sum that an equation makes at n, pointwise in n.
--
-- Main definitions
--   delta i c            the sequence that is 1 at index i and column c and 0 elsewhere
--
-- Main statements
--   blocks-map, blocks-same, blocks-always   a function of the polynomials that multiplies their values, or keeps them
--   value-zero           the value of a zero row is 0; blocks-append-zero: zero blocks below the others do not count
--   block_value-sum, blocks_value-sum   the values as sums below a bound
--   value-difference     the difference of two values is the left value of the difference
--   value-congruence     only the indices n + l down to n + l - D and the columns below m count
--   left-nothing         of the sequence of zeros the left part makes nothing
--   left-delta           a sequence that is 1 at one place picks one polynomial of the row
use Rattle.std.specs.Prelude.{◌≡◌, ◌≢◌, ℕ, zero, suc, ◌≤◌, ◌<◌, ◌&&◌, cond, T, eqb, length, drop, get_or, ℤ, negsuc, neg_ℤ, ◌-ℤ◌, ◌*ℤ◌}
use Rattle.std.proofs.Math.Path.{refl, ap, ap₂}
use Rattle.std.proofs.Common.{sym, ◌∙◌, subst, zero-le, zero-lt-suc, eqb→eq}
use Rattle.std.proofs.Math.Nat.{suc_inj, suc-ne-zero, suc-le-suc_iff}
use mathlib.Core.List.{List, [], ◌∷◌, ◌++◌, map}
use Rattle.std.proofs.Math.Dec.{eqb_refl}
use Rattle.std.proofs.Math.IntN.{pos, nat_abs, pred_ℤ, ◌+ℤ◌, +ℤ_idl, +ℤ_idr, +ℤ_invr, pred_ℤ-+ℤ, +ℤ-pred_ℤ, neg_ℤ-suc_ℤ, *ℤ-zero, zero-*ℤ}
use Rattle.algebra.specs.Integers.{ringℤ, one-*ℤ, *ℤ-+ℤ, -ℤ-zero}
use Rattle.algebra.specs.Polynomials.{Polynomial, eval, is_zero_of, is_zero_ℤ, eval-is_zero, is_zero_ℤ-iff}
use Rattle.lists.specs.Tests.{T-&&, cond-passed, cond-failed, every, all-of-every}
use Rattle.algebra.specs.Sums.{sum_over, count_from, sum_below, sum_below-front, sum_below-congr, sum_below-zeros}
use Rattle.rules.specs.Rows.{Block, Row, map_row, zero_block, zero_row, zero_left}
use Rattle.lists.specs.Everywhere.{All, all-all-mono, all-always}
use Rattle.rules.specs.Stores.{unused_zero_of}
use Rattle.theory.specs.Combinations.{cancel-common}
use Rattle.rules.specs.Sequences.{Sequence, block_value, blocks_value, value_of, Same, block_from, polynomial_at_of, left_value}
use Rattle.theory.specs.Cells.{zero_block-all}

-- ---- a function of the polynomials that multiplies the values

module _ (f : Polynomial → Polynomial) (c n m : ℤ) where
  block-map : (v : ℕ → ℤ) (b : Block) → All (λ p. c *ℤ eval (f p) n ≡ eval p m) b → c *ℤ block_value n v (map f b) ≡ block_value m v b
  unfolding block_value All
  block-map v [] a = *ℤ-zero c
  block-map v (p ∷ b) a =
      step (eval (f p) n) (v 0) (block_value n (λ i. v (suc i)) (map f b))
      ∙ ap₂ (λ x s. x *ℤ v 0 +ℤ s) a.0 (block-map (λ i. v (suc i)) b a.1)
    where
      step : (x y s : ℤ) → c *ℤ (x *ℤ y +ℤ s) ≡ c *ℤ x *ℤ y +ℤ c *ℤ s
      step x y s = simp ringℤ

  pub blocks-map : (z : Sequence) (k : ℤ) (bs : List Block) → All (All (λ p. c *ℤ eval (f p) n ≡ eval p m)) bs
      → c *ℤ blocks_value n z k (map (map f) bs) ≡ blocks_value m z k bs
  unfolding blocks_value All
  blocks-map z k [] a = *ℤ-zero c
  blocks-map z k (b ∷ bs) a =
      *ℤ-+ℤ c (block_value n (z k) (map f b)) (blocks_value n z (pred_ℤ k) (map (map f) bs))
      ∙ ap₂ ◌+ℤ◌ (block-map (z k) b a.0) (blocks-map z (pred_ℤ k) bs a.1)

-- A function that keeps the values of the polynomials keeps those of the row.
pub blocks-same : (f : Polynomial → Polynomial) (r : Row) (z : Sequence) (n m k : ℤ)
    → All (All (λ p. eval (f p) n ≡ eval p m)) r.blocks → blocks_value n z k (map_row f r).blocks ≡ blocks_value m z k r.blocks
unfolding map_row
blocks-same f r z n m k a =
    sym (one-*ℤ (blocks_value n z k (map (map f) r.blocks))) ∙
    blocks-map f (pos 1) n m z k r.blocks
    (all-all-mono (λ p. eval (f p) n ≡ eval p m) (λ p. pos 1 *ℤ eval (f p) n ≡ eval p m) (λ p e. one-*ℤ (eval (f p) n) ∙ e) r.blocks a)

-- Where it does so for every polynomial, as a shift and the mirror do.
pub blocks-always : (f : Polynomial → Polynomial) (r : Row) (z : Sequence) (n m k : ℤ) → ((p : Polynomial) → eval (f p) n ≡ eval p m)
    → blocks_value n z k (map_row f r).blocks ≡ blocks_value m z k r.blocks
blocks-always f r z n m k e =
    blocks-same f r z n m k (all-always (All (λ p. eval (f p) n ≡ eval p m)) (all-always (λ p. eval (f p) n ≡ eval p m) e) r.blocks)

-- ---- zero blocks and zero rows

pub block-zero : (n : ℤ) (v : ℕ → ℤ) (b : Block) → T (zero_block b) → block_value n v b ≡ pos 0
unfolding block_value zero_block
block-zero n v [] h = refl
block-zero n v (p ∷ b) h = let both = (T-&& (is_zero_of p) (every is_zero_of b)).0 h in
    ap₂ (λ x s. x *ℤ v 0 +ℤ s) (eval-is_zero p n both.0) (block-zero n (λ c. v (suc c)) b both.1) ∙ step (v 0)
  where
    step : (x : ℤ) → pos 0 *ℤ x +ℤ pos 0 ≡ pos 0
    step x = simp ringℤ

pub blocks-zero : (n : ℤ) (z : Sequence) (k : ℤ) (bs : List Block) → T (every zero_block bs) → blocks_value n z k bs ≡ pos 0
unfolding blocks_value every
blocks-zero n z k [] h = refl
blocks-zero n z k (b ∷ bs) h = let both = (T-&& (zero_block b) (every zero_block bs)).0 h in
    ap₂ ◌+ℤ◌ (block-zero n (z k) b both.0) (blocks-zero n z (pred_ℤ k) bs both.1)

pub value-zero : (l : ℤ) (r : Row) (z : Sequence) (n : ℤ) → T (zero_row r) → value_of l r z n ≡ pos 0
unfolding value_of zero_row
value-zero l r z n h =
    let both = (T-&& (zero_left r) (is_zero_of r.right)).0 h in
    ap₂ ◌-ℤ◌ (blocks-zero n z (n +ℤ l) r.blocks both.0) (eval-is_zero r.right n both.1)

-- Zero blocks below the others do not count.
pub blocks-append-zero : (n : ℤ) (z : Sequence) (k : ℤ) (bs cs : List Block) → T (every zero_block cs)
    → blocks_value n z k (bs ++ cs) ≡ blocks_value n z k bs
unfolding blocks_value
blocks-append-zero n z k [] cs h = blocks-zero n z k cs h
blocks-append-zero n z k (b ∷ bs) cs h = ap (λ s. block_value n (z k) b +ℤ s) (blocks-append-zero n z (pred_ℤ k) bs cs h)

-- ---- the value as a sum

-- Columns from C on that are zero add nothing.
pub block_value-sum : (C : ℕ) (n : ℤ) (v : ℕ → ℤ) (b : Block) → ((c : ℕ) → C ≤ c → T (is_zero_of (get_or b c [])))
    → block_value n v b ≡ sum_below C (λ c. eval (get_or b c []) n *ℤ v c)
unfolding block_value eval sum_below
block_value-sum C n v [] z = sym (sum_below-zeros C _ (λ c _. zero-*ℤ (v c)))
block_value-sum zero n v (p ∷ b) z = block-zero n v (p ∷ b) (zero_block-all (p ∷ b) (λ c. z c zero-le))
block_value-sum (suc C) n v (p ∷ b) z =
    ap (λ s. eval p n *ℤ v 0 +ℤ s) (block_value-sum C n (λ c. v (suc c)) b (λ c h. z (suc c) (suc-le-suc_iff.1 h)))
    ∙ sym (sum_below-front C (λ c. eval (get_or (p ∷ b) c []) n *ℤ v c))

pub index_below : (k : ℤ) (j : ℕ) → pred_ℤ k -ℤ pos j ≡ k -ℤ pos (suc j)
index_below k j = pred_ℤ-+ℤ k (neg_ℤ (pos j)) ∙ sym (ap (λ x. k +ℤ x) (neg_ℤ-suc_ℤ (pos j)) ∙ +ℤ-pred_ℤ k (neg_ℤ (pos j)))

pub blocks_value-sum : (n : ℤ) (z : Sequence) (k : ℤ) (bs : List Block)
    → blocks_value n z k bs ≡ sum_below (length bs) (λ j. block_value n (z (k -ℤ pos j)) (get_or bs j []))
unfolding blocks_value sum_below sum_over count_from
blocks_value-sum n z k [] = refl
blocks_value-sum n z k (b ∷ bs) =
    ap₂ (λ i s. block_value n (z i) b +ℤ s) (sym (+ℤ_idr k))
    (blocks_value-sum n z (pred_ℤ k) bs
    ∙ sum_below-congr (length bs) (λ j. block_value n (z (pred_ℤ k -ℤ pos j)) (get_or bs j []))
    (λ j. block_value n (z (k -ℤ pos (suc j))) (get_or bs j []))
    (λ j h. ap (λ i. block_value n (z i) (get_or bs j [])) (index_below k j)))
    ∙ sym (sum_below-front (length bs) (λ j. block_value n (z (k -ℤ pos j)) (get_or (b ∷ bs) j [])))

-- ---- linearity in the sequence

block-difference : (n : ℤ) (v w : ℕ → ℤ) (b : Block) → block_value n (λ c. v c -ℤ w c) b ≡ block_value n v b -ℤ block_value n w b
unfolding block_value
block-difference n v w [] = refl
block-difference n v w (p ∷ b) =
    ap (λ s. eval p n *ℤ (v 0 -ℤ w 0) +ℤ s) (block-difference n (λ c. v (suc c)) (λ c. w (suc c)) b)
    ∙ step (eval p n) (v 0) (w 0) (block_value n (λ c. v (suc c)) b) (block_value n (λ c. w (suc c)) b)
  where
    step : (x a b s t : ℤ) → x *ℤ (a -ℤ b) +ℤ (s -ℤ t) ≡ x *ℤ a +ℤ s -ℤ (x *ℤ b +ℤ t)
    step x a b s t = simp ringℤ

blocks-difference : (n : ℤ) (z y : Sequence) (k : ℤ) (bs : List Block)
    → blocks_value n (λ i c. z i c -ℤ y i c) k bs ≡ blocks_value n z k bs -ℤ blocks_value n y k bs
unfolding blocks_value
blocks-difference n z y k [] = refl
blocks-difference n z y k (b ∷ bs) =
    ap₂ ◌+ℤ◌ (block-difference n (z k) (y k) b) (blocks-difference n z y (pred_ℤ k) bs)
    ∙ step (block_value n (z k) b) (block_value n (y k) b) (blocks_value n z (pred_ℤ k) bs) (blocks_value n y (pred_ℤ k) bs)
  where
    step : (a b s t : ℤ) → a -ℤ b +ℤ (s -ℤ t) ≡ a +ℤ s -ℤ (b +ℤ t)
    step a b s t = simp ringℤ

-- The right side falls out of a difference.
pub value-difference : (l : ℤ) (r : Row) (z y : Sequence) (n : ℤ) → left_value l r (λ i c. z i c -ℤ y i c) n
    ≡ value_of l r z n -ℤ value_of l r y n
unfolding value_of
value-difference l r z y n =
    blocks-difference n z y (n +ℤ l) r.blocks
    ∙ sym (cancel-common (left_value l r z n) (left_value l r y n) (neg_ℤ (eval r.right n)))

-- ---- the indices and columns that count

block-congruence : (n : ℤ) (m : ℕ) (v w : ℕ → ℤ) (b : Block) → T (zero_block (drop m b)) → ((c : ℕ) → c < m → v c ≡ w c)
    → block_value n v b ≡ block_value n w b
unfolding block_value
block-congruence n zero v w b h e = block-zero n v b h ∙ sym (block-zero n w b h)
block-congruence n (suc m) v w [] h e = refl
block-congruence n (suc m) v w (p ∷ b) h e =
    ap₂ (λ x s. eval p n *ℤ x +ℤ s) (e 0 (zero-lt-suc m))
    (block-congruence n m (λ c. v (suc c)) (λ c. w (suc c)) b h (λ c i. e (suc c) (suc-le-suc_iff.1 i)))

blocks-congruence : (n : ℤ) (m d : ℕ) (z y : Sequence) (k : ℤ) (bs : List Block)
    → All (λ b. T (zero_block (drop m b))) bs → T (every zero_block (drop d bs)) → ((j : ℕ) → j < d → Same m z y (k -ℤ pos j))
    → blocks_value n z k bs ≡ blocks_value n y k bs
unfolding blocks_value All Same
blocks-congruence n m zero z y k bs a h e = blocks-zero n z k bs h ∙ sym (blocks-zero n y k bs h)
blocks-congruence n m (suc d) z y k [] a h e = refl
blocks-congruence n m (suc d) z y k (b ∷ bs) a h e =
    ap₂ ◌+ℤ◌ (block-congruence n m (z k) (y k) b a.0 (subst (Same m z y) (+ℤ_idr k) (e 0 (zero-lt-suc d))))
    (blocks-congruence n m d z y (pred_ℤ k) bs a.1 h
    (λ j i. subst (Same m z y) (sym (index_below k j)) (e (suc j) (suc-le-suc_iff.1 i))))

-- The value depends on the indices n + l down to n + l - D and on the columns below m.
pub value-congruence : (m D : ℕ) (l : ℤ) (r : Row) (z y : Sequence) (n : ℤ) → T (unused_zero_of m D r)
    → ((k : ℕ) → k ≤ D → Same m z y (n +ℤ l -ℤ pos k)) → value_of l r z n ≡ value_of l r y n
unfolding value_of unused_zero_of
value-congruence m D l r z y n h e =
    let both = (T-&& (every (λ b. zero_block (drop m b)) r.blocks) (every zero_block (drop (suc D) r.blocks))).0 h in
    ap (λ v. v -ℤ eval r.right n)
    (blocks-congruence n m (suc D) z y (n +ℤ l) r.blocks (all-of-every (λ b. zero_block (drop m b)) r.blocks both.0) both.1
    (λ j i. e j (suc-le-suc_iff.0 i)))

-- ---- one index and one column

-- The sequence that is 1 at index i and column c and 0 elsewhere.
unfoldable pub delta : ℤ → ℕ → Sequence
unfolding is_zero_ℤ
delta i c a b = cond (is_zero_ℤ (a -ℤ i) && eqb b c) (pos 1) (pos 0)

pub delta-here : (i : ℤ) (c : ℕ) → delta i c i c ≡ pos 1
unfolding delta
delta-here i c = cond-passed (is_zero_ℤ (i -ℤ i) && eqb c c) (pos 1) (pos 0)
    ((T-&& (is_zero_ℤ (i -ℤ i)) (eqb c c)).1 ((is_zero_ℤ-iff (i -ℤ i)).1 (+ℤ_invr i), eqb_refl c))

pub delta-index : (i : ℤ) (c : ℕ) (a : ℤ) (b : ℕ) → a -ℤ i ≢ pos 0 → delta i c a b ≡ pos 0
unfolding delta
delta-index i c a b n = cond-failed (is_zero_ℤ (a -ℤ i) && eqb b c) (pos 1) (pos 0)
    (λ h. n ((is_zero_ℤ-iff (a -ℤ i)).0 ((T-&& (is_zero_ℤ (a -ℤ i)) (eqb b c)).0 h).0))

pub delta-column : (i : ℤ) (c : ℕ) (a : ℤ) (b : ℕ) → b ≢ c → delta i c a b ≡ pos 0
unfolding delta
delta-column i c a b n = cond-failed (is_zero_ℤ (a -ℤ i) && eqb b c) (pos 1) (pos 0)
    (λ h. n (eqb→eq b c ((T-&& (is_zero_ℤ (a -ℤ i)) (eqb b c)).0 h).1))

-- A vector of zeros meets nothing.
block-nothing : (n : ℤ) (v : ℕ → ℤ) (b : Block) → ((j : ℕ) → v j ≡ pos 0) → block_value n v b ≡ pos 0
unfolding block_value
block-nothing n v [] zeros = refl
block-nothing n v (p ∷ b) zeros =
    ap₂ (λ x s. eval p n *ℤ x +ℤ s) (zeros 0) (block-nothing n (λ c. v (suc c)) b (λ j. zeros (suc j)))
    ∙ ap (λ x. x +ℤ pos 0) (*ℤ-zero (eval p n))

-- A vector that is 1 at column c and 0 elsewhere meets one polynomial.
block-single : (n : ℤ) (v : ℕ → ℤ) (c : ℕ) (b : Block) → v c ≡ pos 1 → ((j : ℕ) → j ≢ c → v j ≡ pos 0)
    → block_value n v b ≡ eval (get_or b c []) n
unfolding block_value eval
block-single n v c [] one zeros = refl
block-single n v zero (p ∷ b) one zeros =
    ap₂ (λ x s. eval p n *ℤ x +ℤ s) one (block-nothing n (λ c. v (suc c)) b (λ j. zeros (suc j) (λ e. suc-ne-zero j e))) ∙ step (eval p n)
  where
    step : (x : ℤ) → x *ℤ pos 1 +ℤ pos 0 ≡ x
    step x = simp ringℤ
block-single n v (suc c) (p ∷ b) one zeros =
    ap₂ (λ x s. eval p n *ℤ x +ℤ s) (zeros 0 (λ e. suc-ne-zero c (sym e)))
    (block-single n (λ j. v (suc j)) c b one (λ j h. zeros (suc j) (λ e. h (suc_inj e)))) ∙ step (eval p n) (eval (get_or b c []) n)
  where
    step : (x y : ℤ) → x *ℤ pos 0 +ℤ y ≡ y
    step x y = simp ringℤ

module _ (n i : ℤ) (c : ℕ) where
  -- The block that meets index i is x blocks below the first.
  blocks-delta : (k : ℤ) (bs : List Block) (x : ℤ) → k -ℤ i ≡ x → blocks_value n (delta i c) k bs ≡ eval (get_or (block_from bs x) c []) n
  unfolding blocks_value block_from eval
  blocks-delta k [] (pos m) e = refl
  blocks-delta k [] (negsuc m) e = refl
  blocks-delta k (b ∷ bs) (pos zero) e =
      ap₂ ◌+ℤ◌
      (block-single n (delta i c k) c b (subst (λ a. delta i c a c ≡ pos 1) (sym (-ℤ-zero k i e)) (delta-here i c))
      (λ j. delta-column i c k j))
      (blocks-delta (pred_ℤ k) bs (negsuc 0) (pred_ℤ-+ℤ k (neg_ℤ i) ∙ ap pred_ℤ e))
      ∙ +ℤ_idr (eval (get_or b c []) n)
  blocks-delta k (b ∷ bs) (pos (suc m)) e =
      ap₂ ◌+ℤ◌ (block-nothing n (delta i c k) b (λ j. delta-index i c k j (λ f. suc-ne-zero m (ap nat_abs (sym e ∙ f)))))
      (blocks-delta (pred_ℤ k) bs (pos m) (pred_ℤ-+ℤ k (neg_ℤ i) ∙ ap pred_ℤ e))
      ∙ +ℤ_idl (eval (get_or (get_or bs m []) c []) n)
  blocks-delta k (b ∷ bs) (negsuc m) e =
      ap₂ ◌+ℤ◌ (block-nothing n (delta i c k) b (λ j. delta-index i c k j (λ f. suc-ne-zero m (ap nat_abs (sym e ∙ f)))))
      (blocks-delta (pred_ℤ k) bs (negsuc (suc m)) (pred_ℤ-+ℤ k (neg_ℤ i) ∙ ap pred_ℤ e))

-- Of the sequence of zeros the left part makes nothing.
pub left-nothing : (l : ℤ) (r : Row) (n : ℤ) → left_value l r (λ _ _. pos 0) n ≡ pos 0
unfolding left_value blocks_value
left-nothing l r n = none (n +ℤ l) r.blocks
  where
    none : (k : ℤ) (bs : List Block) → blocks_value n (λ _ _. pos 0) k bs ≡ pos 0
    none k [] = refl
    none k (b ∷ bs) = ap₂ ◌+ℤ◌ (block-nothing n (λ _. pos 0) b (λ j. refl)) (none (pred_ℤ k) bs)

-- What the left part of a row makes of a sequence that is 1 at one index and one column is the polynomial there.
pub left-delta : (l : ℤ) (r : Row) (i : ℤ) (c : ℕ) (n : ℤ) → left_value l r (delta i c) n ≡ eval (polynomial_at_of l r (i -ℤ n) c) n
unfolding left_value polynomial_at_of
left-delta l r i c n =
    blocks-delta n i c (n +ℤ l) r.blocks (n +ℤ l -ℤ i) refl ∙ ap (λ x. eval (get_or (block_from r.blocks x) c []) n) place
  where
    place : n +ℤ l -ℤ i ≡ l -ℤ (i -ℤ n)
    place = simp ringℤ
