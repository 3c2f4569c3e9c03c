-- Rows are dependent exactly if they are by their values.
--
-- Main definitions
--   left_values, row_values    the values of the rows of a list, as equations: of the left parts, and less the right sides
--
-- Main statements
--   eval-combination         the value of a combination's polynomial is the combination at a sequence with one nonzero value
--   combination-zero         a combination whose polynomials on the left vanish vanishes at every sequence, on the left
--   dependent-values         rows are dependent exactly if they are by their values
--   by_values                a change that keeps the number of rows keeps dependence exactly if it does by the values
use Rattle.std.specs.Prelude.{◌≡◌, refl, ◌↔◌, T, length, get_or, pos, negsuc, neg_ℤ, nat_abs, ◌+ℤ◌, ◌-ℤ◌, ◌*ℤ◌}
use Rattle.std.proofs.Math.Path.{sym}
use Rattle.std.proofs.Common.{◌∙◌, ap, ap₂, subst, le_trans, arith}
use mathlib.Core.Logic.Iff
use mathlib.Core.List.{List, [], ◌∷◌, map, flatten}
use Prim.Native.Nat.{ℕ, suc, ◌+◌, ◌-◌, ◌≤◌, ◌<◌, zero-le}
use Rattle.std.proofs.Math.ListN.{get_or-eq_default, get_or-map}
use Rattle.std.proofs.Math.IntN.{ℤ, +ℤ_idl, +ℤ_assoc, +ℤ_comm, *ℤ-zero, *ℤ_comm, +ℤ-neg_ℤ_cancel, -ℤ-+ℤ_cancel, +ℤ_idr}
use Rattle.algebra.specs.Integers.{ringℤ}
use Rattle.algebra.specs.Sums.{count_from, sum_over, sum_over-congr}
use Rattle.algebra.specs.Sums.{sum_below, sum_below-congr, sum_below-append, sum_below-extend, sum_below-zeros}
use Rattle.algebra.specs.Polynomials.{Polynomial, eval, is_zero_of, mul, shift_by, eval_add, eval_mul, eval-shift_by, eval-is_zero}
use Rattle.algebra.specs.Vanishing.{zero-everywhere}
use Rattle.rules.specs.Rows.{Block, Row, no_row}
use Rattle.lists.specs.Joined.{length-get_or-flatten}
use Rattle.rules.specs.Sequences.{Sequence, block_value, blocks_value, value_of, block_from, polynomial_at_of, add_all, shifts_within, combination_at, left_value, combined_right}
use Rattle.rules.specs.Sequences.{Dependent}
use Rattle.theory.specs.Values.{delta, left-delta, left-nothing, block_value-sum, blocks_value-sum}
use Rattle.theory.specs.Combinations.{cancel-common, eval-nil, sum_within, place_rest, place_of, Values, Multiplier, copies, combination-+ℤ, combination-nothing}
use Rattle.theory.specs.Combinations.{combination_value, combination-congr, combination-sum, combination-scale, DependentValues}

-- ---- the value of a row as a sum over a window of indices and columns

-- Columns past a block's end add nothing.
block-window : (C : ℕ) (n : ℤ) (v : ℕ → ℤ) (b : Block) → length b ≤ C → block_value n v b ≡ sum_below C (λ c. eval (get_or b c []) n *ℤ v c)
unfolding is_zero_of
block-window C n v b h = block_value-sum C n v b (λ c p. rw (get_or-eq_default b [] (le_trans h p)) tt)

-- The block at a place: none before the first, and a shift of the places.
block-before : (bs : List Block) (q p : ℕ) → q < p → block_from bs (pos q -ℤ pos p) ≡ []
unfolding block_from
block-before bs q p h = ap (block_from bs) (ap (λ a. pos q -ℤ pos a) split ∙ cancel (pos q) (pos (suc (p - suc q))))
  where
    split : p ≡ q + suc (p - suc q)
    split = omega arith

    cancel : (a b : ℤ) → a -ℤ (a +ℤ b) ≡ neg_ℤ b
    cancel a b = ap₂ (λ c e. c -ℤ e) (sym (+ℤ_idl a)) (+ℤ_comm a b) ∙ cancel-common (pos 0) b a ∙ +ℤ_idl (neg_ℤ b)

block-after : (bs : List Block) (q p : ℕ) → block_from bs (pos (p + q) -ℤ pos p) ≡ get_or bs q []
unfolding block_from
block-after bs q p = ap (block_from bs) (ap (λ a. a -ℤ pos p) (+ℤ_comm (pos p) (pos q)) ∙ +ℤ-neg_ℤ_cancel (pos q) (pos p))

block-nil : (n : ℤ) (v : ℕ → ℤ) (b : Block) → b ≡ [] → block_value n v b ≡ pos 0
unfolding block_value
block-nil n v b e = ap (block_value n v) e

-- A window that begins p places above the first block, and goes on past the last.
blocks-window : (W p : ℕ) (n : ℤ) (z : Sequence) (k : ℤ) (bs : List Block) → p + length bs ≤ W
    → blocks_value n z k bs ≡ sum_below W (λ q. block_value n (z (k +ℤ pos p -ℤ pos q)) (block_from bs (pos q -ℤ pos p)))
blocks-window W p n z k bs h =
    blocks_value-sum n z k bs
    ∙ sum_below-congr (length bs) _ _ (λ q _. ap₂ (λ i b. block_value n (z i) b) (sym (index (pos p) (pos q))) (sym (block-after bs q p)))
    ∙ sym (sum_below-extend (p + length bs) W term h past ∙ sum_below-append p (length bs) term
    ∙ ap (λ s. s +ℤ sum_below (length bs) (λ q. term (p + q))) before ∙ +ℤ_idl (sum_below (length bs) (λ q. term (p + q))))
  where
    term : ℕ → ℤ
    term q = block_value n (z (k +ℤ pos p -ℤ pos q)) (block_from bs (pos q -ℤ pos p))

    index : (a b : ℤ) → k +ℤ a -ℤ (a +ℤ b) ≡ k -ℤ b
    index a b = ap (λ c. k +ℤ a -ℤ c) (+ℤ_comm a b) ∙ cancel-common k b a

    before : sum_below p term ≡ pos 0
    before = sum_below-zeros p term (λ q c. block-nil n _ _ (block-before bs q p c))

    past : (q : ℕ) → p + length bs ≤ q → q < W → term q ≡ pos 0
    past q c _ =
        block-nil n _ _
        (ap (λ a. block_from bs (pos a -ℤ pos p)) split ∙ block-after bs (q - p) p ∙ get_or-eq_default bs [] (omega arith))
      where
        split : q ≡ p + (q - p)
        split = omega arith

-- ---- the value at a sequence from the values at the sequences with one nonzero value

block_from-length : (C : ℕ) (bs : List Block) → ((q : ℕ) → length (get_or bs q []) ≤ C) → (s : ℤ) → length (block_from bs s) ≤ C
unfolding block_from
block_from-length C bs h (pos q) = h q
block_from-length C bs h (negsuc q) = zero-le

-- The indices of a window from p places above the first block of the row at n down.
row-expansion : (l : ℤ) (r : Row) (W C p : ℕ) (z : Sequence) (n top : ℤ) → p + length r.blocks ≤ W
    → ((q : ℕ) → length (get_or r.blocks q []) ≤ C) → n +ℤ l +ℤ pos p ≡ top
    → left_value l r z n ≡ sum_below W (λ q. sum_below C (λ c. z (top -ℤ pos q) c *ℤ left_value l r (delta (top -ℤ pos q) c) n))
unfolding left_value polynomial_at_of
row-expansion l r W C p z n top wide columns e =
    blocks-window W p n z (n +ℤ l) r.blocks wide ∙ sum_below-congr W _ _ (λ q _. at q)
  where
    block : ℕ → Block
    block q = block_from r.blocks (pos q -ℤ pos p)

    cancel : (a b : ℤ) → b -ℤ a ≡ l -ℤ (n +ℤ l +ℤ a -ℤ b -ℤ n)
    cancel a b = sym (+ℤ-neg_ℤ_cancel (b -ℤ a) l) ∙ right ∙ ap (λ t. l -ℤ t) (sym (+ℤ-neg_ℤ_cancel (l +ℤ a -ℤ b) n) ∙ left)
      where
        left : l +ℤ a -ℤ b +ℤ n -ℤ n ≡ n +ℤ l +ℤ a -ℤ b -ℤ n
        left = simp ringℤ

        right : b -ℤ a +ℤ l -ℤ l ≡ l -ℤ (l +ℤ a -ℤ b)
        right = simp ringℤ

    place : (q : ℕ) → pos q -ℤ pos p ≡ l -ℤ (top -ℤ pos q -ℤ n)
    place q = cancel (pos p) (pos q) ∙ ap (λ t. l -ℤ (t -ℤ pos q -ℤ n)) e

    value : (q c : ℕ) → eval (get_or (block q) c []) n ≡ left_value l r (delta (top -ℤ pos q) c) n
    value q c = ap (λ s. eval (get_or (block_from r.blocks s) c []) n) (place q) ∙ sym (left-delta l r (top -ℤ pos q) c n)

    at : (q : ℕ) → block_value n (z (n +ℤ l +ℤ pos p -ℤ pos q)) (block q)
        ≡ sum_below C (λ c. z (top -ℤ pos q) c *ℤ left_value l r (delta (top -ℤ pos q) c) n)
    at q =
        ap (λ t. block_value n (z (t -ℤ pos q)) (block q)) e
        ∙ block-window C n (z (top -ℤ pos q)) (block q) (block_from-length C r.blocks columns (pos q -ℤ pos p))
        ∙ sum_below-congr C _ _ (λ c _. ap (λ v. v *ℤ z (top -ℤ pos q) c) (value q c) ∙ *ℤ_comm _ (z (top -ℤ pos q) c))

-- Bounds of the blocks of all rows, and of the columns of all their blocks.
rows-bounded : {A : Type 0} (f : Row → List A) → f no_row ≡ [] → (rows : List Row) (i : ℕ)
    → length (f (get_or rows i no_row)) ≤ length (flatten (map f rows))
rows-bounded f e rows i =
    subst (λ l. length l ≤ length (flatten (map f rows))) (ap (get_or (map f rows) i) (sym e) ∙ get_or-map f rows i no_row)
    (length-get_or-flatten (map f rows) i)

block_bound : List Row → ℕ
block_bound rows = length (flatten (map (λ r. r.blocks) rows))

column_bound : List Row → ℕ
column_bound rows = length (flatten (map (λ r. flatten r.blocks) rows))

blocks-bounded : (rows : List Row) (i : ℕ) → length (get_or rows i no_row).blocks ≤ block_bound rows
unfolding block_bound
blocks-bounded rows i = rows-bounded (λ r. r.blocks) refl rows i

columns-bounded : (rows : List Row) (i q : ℕ) → length (get_or (get_or rows i no_row).blocks q []) ≤ column_bound rows
unfolding column_bound flatten
columns-bounded rows i q =
    le_trans (length-get_or-flatten (get_or rows i no_row).blocks q) (rows-bounded (λ r. flatten r.blocks) refl rows i)

-- ---- the combination by coefficients and by values

-- The values of the rows of a list, as equations: the left parts, the right sides, and the ones less the others.
abbrev pub left_values : ℤ → List Row → Values
left_values l rows z i n = left_value l (get_or rows i no_row) z n

abbrev right_values : List Row → Values
right_values rows z i n = eval (get_or rows i no_row).right n

abbrev pub row_values : ℤ → List Row → Values
row_values l rows z i n = value_of l (get_or rows i no_row) z n

eval-add_all : {A : Type 0} (f : A → Polynomial) (l : List A) (x : ℤ) → eval (add_all f l) x ≡ sum_over (λ a. eval (f a) x) l
unfolding add_all sum_over
eval-add_all f [] x = eval-nil x
eval-add_all f (a ∷ l) x = eval_add (f a) (add_all f l) x ∙ ap (λ s. eval (f a) x +ℤ s) (eval-add_all f l x)

-- One summand of a combination's polynomial at block s and column c.
combination_term : ℤ → List Row → Multiplier → ℤ → ℕ → ℕ → ℤ → Polynomial
combination_term l rows S s c i k = mul (S i k) (shift_by k (polynomial_at_of l (get_or rows i no_row) (s -ℤ k) c))

combination_at-law : (l : ℤ) (rows : List Row) (N : ℕ) (S : Multiplier) (s : ℤ) (c : ℕ)
    → combination_at l rows N S s c ≡ add_all (λ i. add_all (combination_term l rows S s c i) (shifts_within N)) (count_from 0 (length rows))
unfolding combination_at combination_term
combination_at-law l rows N S s c = refl

eval-term : (l : ℤ) (rows : List Row) (S : Multiplier) (s : ℤ) (c : ℕ) (x : ℤ) (i : ℕ) (k : ℤ)
    → eval (combination_term l rows S s c i k) x ≡ eval (S i k) x *ℤ left_value l (get_or rows i no_row) (delta (x +ℤ s) c) (x +ℤ k)
unfolding combination_term
eval-term l rows S s c x i k =
    eval_mul (S i k) (shift_by k (polynomial_at_of l r (s -ℤ k) c)) x
    ∙ ap (λ e. eval (S i k) x *ℤ e) (eval-shift_by k (polynomial_at_of l r (s -ℤ k) c) x
    ∙ ap (λ b. eval (polynomial_at_of l r b c) (x +ℤ k)) block ∙ sym (left-delta l r (x +ℤ s) c (x +ℤ k)))
  where
    r : Row
    r = get_or rows i no_row

    block : s -ℤ k ≡ x +ℤ s -ℤ (x +ℤ k)
    block = sym (cancel-common s k x) ∙ ap₂ (λ a b. a -ℤ b) (+ℤ_comm s x) (+ℤ_comm k x)

-- The value of the combination's polynomial at block s and column c is the combination of values at the sequence that is
-- 1 there and 0 elsewhere.
pub eval-combination : (l : ℤ) (rows : List Row) (N : ℕ) (S : Multiplier) (s : ℤ) (c : ℕ) (x : ℤ)
    → eval (combination_at l rows N S s c) x ≡ combination_value (length rows) (left_values l rows) N S (delta (x +ℤ s) c) x
unfolding combination_value copies sum_below sum_within
eval-combination l rows N S s c x =
    ap (λ p. eval p x) (combination_at-law l rows N S s c) ∙ eval-add_all _ (count_from 0 (length rows)) x
    ∙ sum_over-congr _ _ (λ i. eval-add_all _ (shifts_within N) x ∙ sum_over-congr _ _ (eval-term l rows S s c x i) (shifts_within N))
    (count_from 0 (length rows))

module _ (l : ℤ) (rows : List Row) where
  -- Any sequence is a sum of such sequences, as far as finitely many shifted rows reach.
  pub combination-zero : (N : ℕ) (S : Multiplier) → ((s : ℤ) (c : ℕ) → T (is_zero_of (combination_at l rows N S s c)))
      → (z : Sequence) (x : ℤ) → combination_value (length rows) (left_values l rows) N S z x ≡ pos 0
  unfolding combination_value copies
  combination-zero N S vanish z x =
      combination-congr (length rows) (left_values l rows) (λ _ i n. sum_below W (λ q. part q i n)) N S z x expand
      ∙ combination-sum (length rows) N S z x W part
      ∙ sum_below-zeros W _ (λ q _. combination-sum (length rows) N S z x C (piece q) ∙ sum_below-zeros C _ (λ c _. zero-piece q c))
    where
      W : ℕ
      W = N + N + block_bound rows

      C : ℕ
      C = column_bound rows

      index : ℕ → ℤ
      index q = x +ℤ l +ℤ pos N -ℤ pos q

      piece : ℕ → ℕ → ℕ → ℤ → ℤ
      piece q c i n = z (index q) c *ℤ left_value l (get_or rows i no_row) (delta (index q) c) n

      part : ℕ → ℕ → ℤ → ℤ
      part q i n = sum_below C (λ c. piece q c i n)

      expand : (i : ℕ) (k : ℤ) → nat_abs k ≤ N → left_values l rows z i (x +ℤ k) ≡ sum_below W (λ q. part q i (x +ℤ k))
      expand i k h =
          let (j, below, e) = place_of N k h in
          row-expansion l (get_or rows i no_row) W C (N + N - j) z (x +ℤ k) (x +ℤ l +ℤ pos N)
          (omega (arith, blocks-bounded rows i)) (columns-bounded rows i)
          (regroup k (pos (N + N - j)) ∙ ap (λ a. x +ℤ l +ℤ (a +ℤ pos (N + N - j))) (sym e) ∙ ap (λ a. x +ℤ l +ℤ a) (place_rest N j below))
        where
          regroup : (a b : ℤ) → x +ℤ a +ℤ l +ℤ b ≡ x +ℤ l +ℤ (a +ℤ b)
          regroup a b = simp ringℤ

      zero-value : (q c : ℕ) → combination_value (length rows) (left_values l rows) N S (delta (index q) c) x ≡ pos 0
      zero-value q c =
          ap (λ y. combination_value (length rows) (left_values l rows) N S (delta y c) x) (regroup (pos N) (pos q))
          ∙ sym (eval-combination l rows N S (l +ℤ pos N -ℤ pos q) c x)
          ∙ eval-is_zero (combination_at l rows N S (l +ℤ pos N -ℤ pos q) c) x (vanish (l +ℤ pos N -ℤ pos q) c)
        where
          regroup : (a b : ℤ) → x +ℤ l +ℤ a -ℤ b ≡ x +ℤ (l +ℤ a -ℤ b)
          regroup a b = simp +ℤ_assoc

      zero-piece : (q c : ℕ) → combination_value (length rows) (λ _. piece q c) N S z x ≡ pos 0
      zero-piece q c =
          combination-scale (length rows) N S z x (z (index q) c) (λ i n. left_value l (get_or rows i no_row) (delta (index q) c) n)
          ∙ ap (λ e. z (index q) c *ℤ e) (zero-value q c) ∙ *ℤ-zero (z (index q) c)

  -- ---- the right sides

  eval_right : (N : ℕ) (S : Multiplier) (z : Sequence) (x : ℤ)
      → eval (combined_right rows N S) x ≡ combination_value (length rows) (right_values rows) N S z x
  unfolding combined_right combination_value copies sum_below sum_within
  eval_right N S z x =
      eval-add_all (λ i. add_all (term i) (shifts_within N)) (count_from 0 (length rows)) x
      ∙ sum_over-congr (λ i. eval (add_all (term i) (shifts_within N)) x) (copies (right_values rows) N S z x)
      (λ i. eval-add_all (term i) (shifts_within N) x
      ∙ sum_over-congr (λ k. eval (term i k) x) (λ k. eval (S i k) x *ℤ eval (get_or rows i no_row).right (x +ℤ k)) (at i) (shifts_within N))
      (count_from 0 (length rows))
    where
      term : ℕ → ℤ → Polynomial
      term i k = mul (S i k) (shift_by k (get_or rows i no_row).right)

      at : (i : ℕ) (k : ℤ) → eval (term i k) x
          ≡ eval (S i k) x *ℤ eval (get_or rows i no_row).right (x +ℤ k)
      at i k =
          eval_mul (S i k) (shift_by k (get_or rows i no_row).right) x
          ∙ ap (λ e. eval (S i k) x *ℤ e) (eval-shift_by k (get_or rows i no_row).right x)

  -- The combination of the left parts is that of the rows and that of the right sides.
  both-sides : (N : ℕ) (S : Multiplier) (z : Sequence) (x : ℤ) → combination_value (length rows) (left_values l rows) N S z x
      ≡ combination_value (length rows) (row_values l rows) N S z x +ℤ combination_value (length rows) (right_values rows) N S z x
  unfolding value_of combination_value copies
  both-sides N S z x =
      combination-congr (length rows) (left_values l rows) (λ _ i n. value_of l (get_or rows i no_row) z n +ℤ eval (get_or rows i no_row).right n)
      N S z x (λ i k h. sym (-ℤ-+ℤ_cancel (left_value l (get_or rows i no_row) z (x +ℤ k)) (eval (get_or rows i no_row).right (x +ℤ k))))
      ∙ combination-+ℤ (length rows) N S z x (λ i n. value_of l (get_or rows i no_row) z n) (λ i n. eval (get_or rows i no_row).right n)

  rows-zero : (N : ℕ) (S : Multiplier) → ((s : ℤ) (c : ℕ) → T (is_zero_of (combination_at l rows N S s c))) → T (is_zero_of (combined_right rows N S))
      → (z : Sequence) (x : ℤ) → combination_value (length rows) (row_values l rows) N S z x ≡ pos 0
  rows-zero N S vanish right z x =
      sym (+ℤ_idr _)
      ∙ ap (λ e. combination_value (length rows) (row_values l rows) N S z x +ℤ e) (sym (sym (eval_right N S z x) ∙ eval-is_zero (combined_right rows N S) x right))
      ∙ sym (both-sides N S z x) ∙ combination-zero N S vanish z x

  -- At the sequence of zeros only the right sides are left.
  right_zero : (N : ℕ) (S : Multiplier) → ((z : Sequence) (x : ℤ) → combination_value (length rows) (row_values l rows) N S z x ≡ pos 0)
      → T (is_zero_of (combined_right rows N S))
  right_zero N S vanish = (zero-everywhere (combined_right rows N S)).1 (λ x.
      eval_right N S nothing x ∙ sym (+ℤ_idl _) ∙ ap (λ e. e +ℤ combination_value (length rows) (right_values rows) N S nothing x) (sym (vanish nothing x))
      ∙ sym (both-sides N S nothing x)
      ∙ combination-congr (length rows) (left_values l rows) (λ _ i n. pos 0) N S nothing x (λ i k h. left-nothing l (get_or rows i no_row) (x +ℤ k))
      ∙ combination-nothing (length rows) N S nothing x)
    where
      nothing : Sequence
      nothing i c = pos 0

  pub values-of-dependent : Dependent l rows → DependentValues (length rows) (row_values l rows)
  values-of-dependent D =
      record {
        reach = D.reach;
        multiplier = D.multiplier;
        number = D.number;
        shift = D.shift;
        number-below = D.number-below;
        shift-within = D.shift-within;
        nonzero = D.nonzero;
        vanishes = rows-zero D.reach D.multiplier D.vanishes D.right-vanishes;
      }

  pub dependent-of-values : DependentValues (length rows) (row_values l rows) → Dependent l rows
  dependent-of-values D =
      record {
        reach = D.reach;
        multiplier = D.multiplier;
        number = D.number;
        shift = D.shift;
        number-below = D.number-below;
        shift-within = D.shift-within;
        nonzero = D.nonzero;
        vanishes = λ s c. (zero-everywhere (combination_at l rows D.reach D.multiplier s c)).1
            (λ x. eval-combination l rows D.reach D.multiplier s c x ∙ both-sides D.reach D.multiplier (delta (x +ℤ s) c) x
            ∙ ap₂ ◌+ℤ◌ (D.vanishes (delta (x +ℤ s) c) x)
            (sym (eval_right D.reach D.multiplier (delta (x +ℤ s) c) x) ∙ eval-is_zero (combined_right rows D.reach D.multiplier) x right));
        right-vanishes = right;
      }
    where
      right : T (is_zero_of (combined_right rows D.reach D.multiplier))
      right = right_zero D.reach D.multiplier D.vanishes

  -- A combination that vanishes (SCOPE 2.102) does so by coefficients or by values.
  pub dependent-values : Dependent l rows ↔ DependentValues (length rows) (row_values l rows)
  dependent-values = (values-of-dependent, dependent-of-values)

-- The number of rows given apart.
counted-values : (l : ℤ) (rows : List Row) (m : ℕ) → length rows ≡ m → Dependent l rows ↔ DependentValues m (row_values l rows)
counted-values l rows m e = subst (λ n. Dependent l rows ↔ DependentValues n (row_values l rows)) e (dependent-values l rows)

-- A change that keeps the number of rows, by its values.
pub by_values : (l : ℤ) (rows rows' : List Row) → length rows' ≡ length rows
    → DependentValues (length rows) (row_values l rows) ↔ DependentValues (length rows) (row_values l rows')
    → Dependent l rows ↔ Dependent l rows'
by_values l rows rows' e change =
    Iff.trans (dependent-values l rows) (Iff.trans change (Iff.symm (counted-values l rows' (length rows) e)))
