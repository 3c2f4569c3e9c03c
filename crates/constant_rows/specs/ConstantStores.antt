-- The constant rows as a program makes them, one after another in a store.
--
-- Main definitions
--   judged_of e           what an entry's result says: its value, or the limit that it passes
--   polynomial_there l r n i c   what stands in an equation at n, at index i and unknown c
--   row_at z N e          the constant row of an equation at its n, or of a relation
--   at_index n rows       the equations at n
--   Clamped x last r     r is x, or the end of 0 to last + 1 that is nearer to it
--   groups z N rows      the equations at each n that is asked for
--
-- Main statements
--   column-polynomial    what stands at a column, by its index and its unknown
--   each_both, each-stops, each-stopped, each-one   what is made of two lists, one behind the other
--   unmet-before, unmet-behind, zeros-made   the entries of columns that an equation does not meet are 0, and made by zeros
--   reports-made, reports-passed   what a refusal number tells
--   told-made, told-passed, refused-reports   what a result tells, and what a call that ends by `?` reports
--   told-of, told-refused, judged-refused    what is told by a result, at its two ends
--   told-fine, told-stopped                  what is known from it
--   matrix-put           the rows of a store after a part of it was written
use Prim.Native.Nat.{ℕ, zero, suc, ◌+◌, ◌*◌, ◌-◌, ◌/◌, ◌%◌, ◌≤◌, ◌<◌, zero-le}
use Rattle.std.specs.Prelude.{Result}
use Rattle.std.proofs.Common.{Ok, Err, le_refl, lt_of_le_of_lt, zero-add, add-zero, suc-mul, mul_assoc, not-suc-le-zero, mod-eq_of_lt, le_of_eq, div-lt_iff_lt-mul, le-div_iff_mul-le, add-one, sym, ◌∙◌, take-append-drop, length-drop, take_at, drop_at, length-take-le, get_or-take, get_or-drop, drop-drop, ltb-true}
use Rattle.std.proofs.Math.Nat.{mul-add-div_right, div-eq_of_lt, mul-add-mod_self_right}
use native.Mathlib.Omega.{arith}
use borrow.Rule.Slice.PartMut.{put_mid, post_of, same_len_mid, mid_len, drop_put}
use Rattle.std.specs.Prelude.{◌≡◌, ◌≢◌, replicate, ◌≤ℤ◌, true, false, ℤ, nat_abs, ◌+ℤ◌, ◌-ℤ◌, ◌*ℤ◌}
use Rattle.std.proofs.Math.Path.{refl, ap, ap₂, subst}
use Rattle.std.proofs.Math.Logic.{⊎_elim}
use mathlib.Core.List.{List, [], ◌∷◌, ◌++◌, map, map-append, flatten, append-nil}
use Rattle.std.proofs.Math.Option.{some}
use Rattle.std.proofs.Math.Dec.{T}
use Rattle.std.proofs.Math.ListN.{length, take, drop, get_or}
use Rattle.std.proofs.lemmas.List.{length-map, length-replicate}
use Rattle.std.proofs.Math.Seq.{take-length, take-suc, paste}
use Rattle.std.proofs.lemmas.List.Edits.{take-paste}
use Rattle.std.specs.Int.Signed.{lt_z, non_neg, le_z_yes}
use Rattle.std.proofs.Math.IntN.{pos, negsuc, *ℤ-zero, neg_ℤ, +ℤ_comm, -ℤ-+ℤ_cancel, +ℤ-neg_ℤ_cancel}
use Rattle.algebra.specs.Integers.{ringℤ, nat_abs-+ℤ, nat_abs-neg_ℤ}
use Rattle.algebra.specs.Sums.{count_from, count_from-append, get_or-count_from, length-count_from}
use Rattle.algebra.specs.Polynomials.{Polynomial, is_zero_of, is_zero_ℤ-iff}
use Rattle.evaluation.specs.Evaluated.{horner, after, within}
use Rattle.lists.specs.Tests.{T-&&, every, every-get_or}
use Rattle.rules.specs.Limits.{small, block_bound, most_span, row_length, relation_length}
use Rattle.rules.specs.Sequences.{block_from, polynomial_at_of}
use Rattle.lists.specs.Joined.{flatten-append}
use Rattle.lists.specs.Padded.{get_or-replicate-each}
use Rattle.lists.specs.Parts.{parts, parts-length, parts-append, parts-take, held_next, held-every}
use Rattle.lists.specs.Images.{get_or_map}
use Rattle.lists.specs.Taken.{drop-next}
use Rattle.rules.specs.Rows.{Row, Relation, no_row, zero_block, small_row}
use Rattle.rules.specs.Stores.{Sizes, sizes_right_of, span, row_of, rows_of, row_right_of, relation_of, relations_of, relation_right_of}
use Rattle.sides.specs.Lent.{Kept}
use Rattle.stores.specs.Validity.{index_at, row-after}
use Rattle.rules.specs.Layout.{SizeBounds, size-bounds, row-at, length-rows_of, coefficients_of-row_of-all}
use Rattle.algebra.specs.Order.{≤ℤ-trans, ≤ℤ-witness, ≤ℤ-difference, pos-≤ℤ, pos-nat_abs-nonneg, nat_abs-≤-iff}
use Rattle.constant_rows.specs.Constants.{Judged, fine, passed, and_on, each, judge_value, entry_at, column_polynomial, constant_row_of}
use Rattle.constant_rows.specs.Constants.{row_indices}
use Rattle.constant_rows.specs.ListLengths.{list_columns}
use Rattle.constant_rows.specs.RowLimits.{Limits}
use Rattle.constant_rows.specs.Matrices.{matrix_rows, Reports, Told, judged_with}
use Rattle.refusals.specs.declared.Refusal.{Refusal}
use Rattle.refusals.specs.Refusals.{number_of, refusal_in, number-nonzero}
use Rattle.std.specs.Result.{IsErrAnd}
use Rattle.std.proofs.lemmas.Result.{err_from_is_err_and}

abbrev pub judged_of : Result ℤ Refusal → Judged ℤ
judged_of (Ok v) = fine v
judged_of (Err r) = passed (number_of r)

unfoldable pub row_at : Sizes → ℕ → Relation → Judged (List ℤ)
unfolding constant_row_of
row_at z N e = constant_row_of z.m z.l N e.row e.index

unfoldable pub at_index : ℤ → List Row → List Relation
at_index n rows = map (λ r. record { index = n; row = r }) rows

-- ---- an entry

pub entry-none : (n : ℤ) → entry_at n [] ≡ fine (pos 0)
unfolding entry_at judge_value small horner
entry-none n = refl

pub entry_zero : (n : ℤ) (p : Polynomial) → T (is_zero_of p) → entry_at n p ≡ fine (pos 0)
unfolding entry_at judge_value small horner is_zero_of after within
entry_zero n p h = ap judge_value (none_left p h)
  where
    none_left : (q : Polynomial) → T (is_zero_of q) → horner n q ≡ some (pos 0)
    none_left [] k = refl
    none_left (a ∷ q) k =
        let zeros = simp T-&& at k in
        let same : a ≡ pos 0 = (is_zero_ℤ-iff a).0 zeros.0 in
        ap (after (λ v. within (a +ℤ n *ℤ v))) (none_left q zeros.1)
        ∙ ap within (ap (λ b. b +ℤ n *ℤ pos 0) same ∙ ap (λ b. pos 0 +ℤ b) (*ℤ-zero n))

-- The block in which an equation at n meets an index.
abbrev pub block_of : ℤ → ℤ → ℕ → ℤ
block_of n l i = (l +ℤ n) -ℤ pos i

-- What stands in a row at an index and an unknown.
module _ (l : ℤ) (r : Row) (n : ℤ) (i c : ℕ) where
  abbrev meets : ℤ
  meets = block_of n l i

  abbrev pub polynomial_there : Polynomial
  polynomial_there = polynomial_at_of l r (pos i -ℤ n) c

  column-at : polynomial_there ≡ get_or (block_from r.blocks meets) c []
  unfolding polynomial_at_of
  column-at = ap (λ s. get_or (block_from r.blocks s) c []) (turned l n (pos i))
    where
      turned : (a b c : ℤ) → (a -ℤ (c -ℤ b)) ≡ ((a +ℤ b) -ℤ c)
      turned a b c = simp ringℤ

  pub column-below : (k : ℕ) → meets ≡ negsuc k → polynomial_there ≡ []
  unfolding block_from
  column-below k e = column-at ∙ ap (λ s. get_or (block_from r.blocks s) c []) e

  pub column-in : (b : ℕ) → meets ≡ pos b → polynomial_there ≡ get_or (get_or r.blocks b []) c []
  unfolding block_from
  column-in b e = column-at ∙ ap (λ s. get_or (block_from r.blocks s) c []) e

  -- A block past t is zero, and so is what is outside a row.
  pub column-past : (D b : ℕ) → T (every zero_block (drop (suc D) r.blocks)) → meets ≡ pos b → D < b
      → T (is_zero_of polynomial_there)
  unfolding zero_block
  column-past D b h e k =
      let (d, same) : (d : ℕ) × (b ≡ suc D + d) = (b - suc D, omega arith) in
      let block : T (zero_block (get_or r.blocks b [])) =
      subst (λ i. T (zero_block (get_or r.blocks i []))) (sym same)
      (subst (λ x. T (zero_block x)) (get_or-drop (suc D) r.blocks d []) (every-get_or zero_block (drop (suc D) r.blocks) [] tt h d)) in
      subst (λ p. T (is_zero_of p)) (sym (column-in b e)) (every-get_or is_zero_of (get_or r.blocks b []) [] tt block c)

-- Column i × m + c is that of index i and unknown c.
pub column-polynomial : (m : ℕ) (l : ℤ) (r : Row) (n : ℤ) (i c : ℕ) → c < m
    → column_polynomial m l r n (i * m + c) ≡ polynomial_there l r n i c
unfolding column_polynomial
column-polynomial m l r n i c h =
    ap₂ (λ a b. polynomial_at_of l r (pos a -ℤ n) b)
    (mul-add-div_right (lt_of_le_of_lt zero-le h) i c ∙ ap (λ k. i + k) (div-eq_of_lt h) ∙ add-zero i)
    (mul-add-mod_self_right i m c ∙ mod-eq_of_lt h)

-- An equation that meets an index of the list does so near 0.
pub near : (n l : ℤ) (i b : ℕ) → block_of n l i ≡ pos b → nat_abs n ≤ b + i + nat_abs l
near n l i b e =
    subst (λ x. nat_abs x ≤ b + i + nat_abs l) (ap (λ x. (x +ℤ pos i) -ℤ l) (sym e) ∙ back l n (pos i))
    (omega (arith, nat_abs-+ℤ (pos b +ℤ pos i) (neg_ℤ l), nat_abs-+ℤ (pos b) (pos i), nat_abs-neg_ℤ l))
  where
    back : (a b c : ℤ) → ((((a +ℤ b) -ℤ c) +ℤ c) -ℤ a) ≡ b
    back a b c = ap (λ x. x -ℤ a) (-ℤ-+ℤ_cancel (a +ℤ b) c ∙ +ℤ_comm a b) ∙ +ℤ-neg_ℤ_cancel b a

pub l-near : (z : Sizes) → SizeBounds z → nat_abs z.l ≤ block_bound
l-near z b = (nat_abs-≤-iff z.l).1 (≤ℤ-trans b.low b.ordered, b.high)

pub t-near : (z : Sizes) → SizeBounds z → nat_abs z.t ≤ block_bound
t-near z b = (nat_abs-≤-iff z.t).1 (b.low, ≤ℤ-trans b.ordered b.high)

pub span-few : (z : Sizes) → SizeBounds z → span z ≤ most_span
unfolding span
span-few z b = (nat_abs-≤-iff (z.l -ℤ z.t)).1 (≤ℤ-trans (le_z_yes tt) (≤ℤ-difference.0 b.ordered), b.narrow)

pub below-zero : (a : ℤ) → lt_z a (pos 0) ≡ true → (k : ℕ) × (a ≡ negsuc k)
below-zero (pos n) h = absurd (not-suc-le-zero (ltb-true n 0 h))
below-zero (negsuc n) h = (n, refl)

pub from_zero : (a : ℤ) → lt_z a (pos 0) ≡ false → T (non_neg a) × (a ≡ pos (nat_abs a))
from_zero (pos n) h = (tt, refl)
from_zero (negsuc n) h = (subst T h tt, absurd (subst T h tt))

-- ---- one list behind another

module _ {A B : Type 0} (f : A → Judged B) where
  abbrev joined : Judged (List B) → Judged (List B) → Judged (List B)
  joined p q = and_on p (λ a. and_on q (λ b. fine (a ++ b)))

  each_append : (xs ys : List A) → each f (xs ++ ys) ≡ joined (each f xs) (each f ys)
  unfolding each and_on
  each_append [] ys = go (each f ys)
    where
      go : (q : Judged (List B)) → q ≡ and_on q fine
      go (fine b) = refl
      go (passed n) = refl
  each_append (x ∷ xs) ys =
      ap (λ q. and_on (f x) (λ y. and_on q (λ zs. fine (y ∷ zs)))) (each_append xs ys) ∙ go (f x) (each f xs) (each f ys)
    where
      go : (p : Judged B) (q r : Judged (List B))
          → and_on p (λ y. and_on (joined q r) (λ zs. fine (y ∷ zs))) ≡ joined (and_on p (λ y. and_on q (λ zs. fine (y ∷ zs)))) r
      go (passed n) q r = refl
      go (fine y) (passed n) r = refl
      go (fine y) (fine a) (passed n) = refl
      go (fine y) (fine a) (fine b) = refl

  pub each_both : (xs ys : List A) (a b : List B) → each f xs ≡ fine a → each f ys ≡ fine b → each f (xs ++ ys) ≡ fine (a ++ b)
  unfolding and_on
  each_both xs ys a b e g = each_append xs ys ∙ ap₂ joined e g

  pub each-stops : (xs ys : List A) (a : List B) (n : ℕ) → each f xs ≡ fine a → each f ys ≡ passed n → each f (xs ++ ys) ≡ passed n
  unfolding and_on
  each-stops xs ys a n e g = each_append xs ys ∙ ap₂ joined e g

  pub each-stopped : (xs ys : List A) (n : ℕ) → each f xs ≡ passed n → each f (xs ++ ys) ≡ passed n
  unfolding and_on
  each-stopped xs ys n e = each_append xs ys ∙ ap (λ p. joined p (each f ys)) e

  pub each-one : (x : A) (y : B) → f x ≡ fine y → each f (x ∷ []) ≡ fine (y ∷ [])
  unfolding each and_on
  each-one x y e = ap (λ p. and_on p (λ y. fine (y ∷ []))) e

  pub each_none : (x : A) (xs : List A) (n : ℕ) → f x ≡ passed n → each f (x ∷ xs) ≡ passed n
  unfolding each and_on
  each_none x xs n e = ap (λ p. and_on p (λ y. and_on (each f xs) (λ ys. fine (y ∷ ys)))) e

-- The columns before j, column j, and the rest.
pub all-columns : {B : Type 0} (f : ℕ → Judged B) (j n : ℕ) → j < n
    → each f (count_from 0 n) ≡ each f (count_from 0 j ++ (j ∷ count_from (suc j) (n - suc j)))
unfolding count_from
all-columns f j n h =
    let whole : n ≡ j + suc (n - suc j) = omega arith in
    ap (each f) (ap (count_from 0) whole ∙ count_from-append 0 j (suc (n - suc j))
    ∙ ap (λ k. count_from 0 j ++ (k ∷ count_from (suc k) (n - suc j))) (zero-add j))

pub next-column : {B : Type 0} (f : ℕ → Judged B) (j : ℕ) → each f (count_from 0 (j + 1)) ≡ each f (count_from 0 j ++ (j ∷ []))
unfolding count_from
next-column f j = ap (each f) (count_from-append 0 j 1 ∙ ap (λ k. count_from 0 j ++ (k ∷ [])) (zero-add j))

-- ---- the columns that an equation does not meet

pub record Clamped (x : ℤ) (last r : ℕ) : Type 0 where
  pub few : r ≤ suc last
  pub before : (i : ℕ) → i < r → (d : ℕ) × (x ≡ pos (suc (i + d)))
  pub behind : (i : ℕ) → r ≤ i → i ≤ last → x ≤ℤ pos i

pub clamped-none : (x : ℤ) (last : ℕ) → lt_z x (pos 0) ≡ true → Clamped x last 0
clamped-none (pos n) last h = absurd (not-suc-le-zero (ltb-true n 0 h))
clamped-none (negsuc n) last h =
    record { few = zero-le; before = λ i below. absurd (not-suc-le-zero below); behind = λ i _ _. le_z_yes tt }

pub clamped-past : (x : ℤ) (last : ℕ) → x ≡ pos (nat_abs x) → last < nat_abs x → Clamped x last (suc last)
clamped-past x last e h =
    record {
      few = le_refl (suc last);
      before = λ i below. (nat_abs x - suc i, e ∙ ap pos (omega arith));
      behind = λ i above inside. absurd (omega arith);
    }

pub clamped-here : (x : ℤ) (last : ℕ) → x ≡ pos (nat_abs x) → nat_abs x ≤ last → Clamped x last (nat_abs x)
clamped-here x last e h =
    record {
      few = omega arith;
      before = λ i below. (nat_abs x - suc i, e ∙ ap pos (omega arith));
      behind = λ i above _. subst (λ a. a ≤ℤ pos i) (sym e) (pos-≤ℤ.1 above);
    }

-- Before n + t the blocks are past t, behind n + l there are none.
module _ (z : Sizes) (r : Row) (n : ℤ) (last : ℕ) (right : T (sizes_right_of z)) where
  abbrev entry_of : ℕ → Judged ℤ
  entry_of k = entry_at n (column_polynomial z.m z.l r n k)

  abbrev any : 1 ≤ z.m
  any = (size-bounds z right).some

  pub unmet-before : (first k : ℕ) → T (every zero_block (drop (suc (span z)) r.blocks)) → Clamped (n +ℤ z.t) last first
      → k < first * z.m → entry_of k ≡ fine (pos 0)
  unfolding column_polynomial span
  unmet-before first k unused c h =
      let i = k / z.m in
      let (d, e) = c.before i ((div-lt_iff_lt-mul any).1 h) in
      let whole : suc (i + d) + span z ≡ span z + suc d + i = omega arith in
      let width : pos (span z) ≡ z.l -ℤ z.t = pos-nat_abs-nonneg (≤ℤ-difference.0 (size-bounds z right).ordered) in
      let meets : block_of n z.l i ≡ pos (span z + suc d) =
      ap (λ a. a -ℤ pos i) (turned z.l z.t n) ∙ ap₂ (λ a b. (a +ℤ b) -ℤ pos i) e (sym width)
      ∙ ap (λ a. pos a -ℤ pos i) whole ∙ +ℤ-neg_ℤ_cancel (pos (span z + suc d)) (pos i) in
      entry_zero n _ (column-past z.l r n i (k % z.m) (span z) (span z + suc d) unused meets (omega arith))
    where
      turned : (a b c : ℤ) → (a +ℤ c) ≡ ((c +ℤ b) +ℤ (a -ℤ b))
      turned a b c = ap (λ x. x +ℤ c) (sym (-ℤ-+ℤ_cancel a b)) ∙ moved (a -ℤ b) b c
        where
          moved : (a b c : ℤ) → ((a +ℤ b) +ℤ c) ≡ ((c +ℤ b) +ℤ a)
          moved a b c = simp ringℤ

  pub unmet-behind : (past k : ℕ) → Clamped ((n +ℤ z.l) +ℤ pos 1) last past → past * z.m ≤ k → k < suc last * z.m
      → entry_of k ≡ fine (pos 0)
  unfolding column_polynomial
  unmet-behind past k c h below =
      let i = k / z.m in
      let inside : i < suc last = (div-lt_iff_lt-mul any).1 below in
      let (d, e) = ≤ℤ-witness (c.behind i ((le-div_iff_mul-le any).1 h) (omega arith)) in
      let one_more : 1 + d ≡ suc d = omega arith in
      let meets : block_of n z.l i ≡ negsuc d =
      less (z.l +ℤ n) (pos 1 +ℤ pos d) (pos i) (turned z.l n (pos d) ∙ e) ∙ ap (λ a. neg_ℤ (pos a)) one_more in
      ap (entry_at n) (column-below z.l r n i (k % z.m) d meets) ∙ entry-none n
    where
      turned : (a b c : ℤ) → ((a +ℤ b) +ℤ (pos 1 +ℤ c)) ≡ (((b +ℤ a) +ℤ pos 1) +ℤ c)
      turned a b c = simp ringℤ

      less : (a b c : ℤ) → a +ℤ b ≡ c → (a -ℤ c) ≡ neg_ℤ b
      less a b c e =
          ap (λ x. x -ℤ c) (sym (+ℤ-neg_ℤ_cancel a b) ∙ ap (λ x. x -ℤ b) e ∙ +ℤ_comm c (neg_ℤ b)) ∙ +ℤ-neg_ℤ_cancel (neg_ℤ b) c

-- Zeros in the places of columns whose entries are 0.
pub zeros-made : (f : ℕ → Judged ℤ) (place : List ℤ) (j d : ℕ) → j + d ≤ length place
    → ((k : ℕ) → j ≤ k → k < j + d → (f k ≡ fine (pos 0)) × (get_or place k (pos 0) ≡ pos 0))
    → each f (count_from 0 j) ≡ fine (take j place) → each f (count_from 0 (j + d)) ≡ fine (take (j + d) place)
zeros-made f place j zero h none made = subst (λ k. each f (count_from 0 k) ≡ fine (take k place)) (sym (add-zero j)) made
zeros-made f place j (suc d) h none made =
    subst (λ k. each f (count_from 0 k) ≡ fine (take k place)) next
    (zeros-made f place (j + 1) d (omega arith) (λ k a b. none k (omega arith) (omega arith))
    (next-column f j ∙ each_both f (count_from 0 j) (j ∷ []) _ _ made (each-one f j (pos 0) here.0) ∙ ap fine (sym longer)))
  where
    next : j + 1 + d ≡ j + suc d
    next = omega arith

    here : (f j ≡ fine (pos 0)) × (get_or place j (pos 0) ≡ pos 0)
    here = none j (le_refl j) (omega arith)

    longer : take (j + 1) place ≡ take j place ++ (pos 0 ∷ [])
    longer =
        ap (λ i. take i place) (add-one j) ∙ take-suc place j (pos 0) (omega arith) ∙ ap (λ a. take j place ++ (a ∷ [])) here.1

pub cleared_at : (place : List ℤ) (n k : ℕ) → k < n → get_or (paste place 0 (replicate n (pos 0)) n) k (pos 0) ≡ pos 0
cleared_at place n k h =
    let long = le_of_eq (sym (length-replicate n (pos 0))) in
    let all = replicate n (pos 0) in
    sym (get_or-take n (paste place 0 all n) k (pos 0) h)
    ∙ ap (λ l. get_or l k (pos 0)) (ap (λ m. take m (paste place 0 all n)) (sym (zero-add n)) ∙ take-paste place 0 all n zero-le long)
    ∙ get_or-take n all k (pos 0) h ∙ get_or-replicate-each (λ a. a ≡ pos 0) n (pos 0) (pos 0) k refl refl

-- ---- what a refusal number tells

module _ {A : Type 0} (P : A → Type 0) where
  pub reports-made : (j : Judged A) (r : ℕ) → Limits j → Reports P j r → r ≡ 0 → (a : A) × (j ≡ fine a) × P a
  unfolding Reports
  reports-made (fine a) r h p e = (a, refl, p.1)
  reports-made (passed n) r h p e = ⊎_elim (λ x. absurd (omega arith)) (λ x. absurd (omega arith)) h

  pub reports-passed : (j : Judged A) (r : ℕ) → Reports P j r → r ≢ 0 → j ≡ passed r
  unfolding Reports
  reports-passed (fine a) r p e = absurd (e p.0)
  reports-passed (passed n) r p e = ap passed (sym p)

  pub made-reports : (j : Judged A) (a : A) → j ≡ fine a → P a → Reports P j 0
  unfolding Reports
  made-reports j a e p = subst (λ k. Reports P k 0) (sym e) (refl, p)

  pub passed-reports : (j : Judged A) (n : ℕ) → j ≡ passed n → Reports P j n
  unfolding Reports
  passed-reports j n e = subst (λ k. Reports P k n) (sym e) refl

-- What a result tells, and what the exit of a `?` reports.
pub told-made : {A B : Type 0} (P : A → Type 0) (j : Judged A) (result : Result B Refusal) (b : B) → Limits j → Reports P j (refusal_in result)
    → result ≡ Ok b → (a : A) × (j ≡ fine a) × P a
told-made P j result b l h e = reports-made P j (refusal_in result) l h (ap refusal_in e)

pub told-passed : {A B : Type 0} (P : A → Type 0) (j : Judged A) (result : Result B Refusal) (r : Refusal) → Reports P j (refusal_in result)
    → result ≡ Err r → j ≡ passed (number_of r)
told-passed P j result r h e =
    let told : refusal_in result ≡ number_of r = ap refusal_in e in
    reports-passed P j (number_of r) (subst (Reports P j) told h) (number-nonzero r)

pub refused-reports : {A B : Type 0} (P : A → Type 0) (j : Judged A) (result : Result B Refusal) (r : Refusal) → IsErrAnd result (λ e. e ≡ r)
    → j ≡ passed (number_of r) → Reports P j (refusal_in result)
refused-reports P j result r h e =
    let told = err_from_is_err_and result h in
    rw (told.1, told.2) (passed-reports P j (number_of r) e)

pub told-of : {A B : Type 0} (P : B → A → Type 0) (j : Judged A) (b : B) (a : A) → j ≡ fine a → P b a → Told P j (Ok b)
told-of P j b a e p = subst (λ k. Told P k (Ok b)) (sym e) p

pub told-refused : {A B : Type 0} (P : B → A → Type 0) (j : Judged A) (result : Result B Refusal) (r : Refusal) → IsErrAnd result (λ e. e ≡ r)
    → j ≡ passed (number_of r) → Told P j result
told-refused P j result r h e =
    let told = err_from_is_err_and result h in
    rw (told.1, told.2) (subst (λ k. Told P k (Err r)) (sym e) refl)

pub told-fine : {A B : Type 0} (P : B → A → Type 0) (j : Judged A) (result : Result B Refusal) (b : B) → Told P j result → result ≡ Ok b
    → (a : A) × (j ≡ fine a) × P b a
told-fine {A = A} P j result b t e = go j (subst (Told P j) e t)
  where
    go : (j : Judged A) → Told P j (Ok b) → (a : A) × (j ≡ fine a) × P b a
    go (fine a) t = (a, refl, t)
    go (passed n) t = absurd t

pub told-stopped : {A B : Type 0} (P : B → A → Type 0) (j : Judged A) (result : Result B Refusal) (r : Refusal) → Told P j result
    → result ≡ Err r → j ≡ passed (number_of r)
told-stopped {A = A} P j result r t e = go j (subst (Told P j) e t)
  where
    go : (j : Judged A) → Told P j (Err r) → j ≡ passed (number_of r)
    go (fine a) t = absurd t
    go (passed n) t = ap passed (sym t)

pub judged-refused : {A B : Type 0} (result : Result B Refusal) (r : Refusal) (a : A) → IsErrAnd result (λ e. e ≡ r)
    → judged_with result a ≡ passed (number_of r)
judged-refused result r a h =
    let told = err_from_is_err_and result h in
    rw (told.1, told.2) refl

-- What is made behind what is there.
pub reports-behind : {A : Type 0} (f : A → Judged (List ℤ)) (P Q : List (List ℤ) → Type 0) (xs ys : List A) (a : List (List ℤ)) (r : ℕ)
    → each f xs ≡ fine a → Reports P (each f ys) r → ((b : List (List ℤ)) → P b → Q (a ++ b)) → Reports Q (each f (xs ++ ys)) r
unfolding Reports
reports-behind f P Q xs ys a r e p join = go (each f ys) refl p
  where
    go : (j : Judged (List (List ℤ))) → each f ys ≡ j → Reports P j r → Reports Q (each f (xs ++ ys)) r
    go (fine b) s h =
        subst (λ k. Reports Q (each f (xs ++ ys)) k) (sym h.0)
        (made-reports Q (each f (xs ++ ys)) (a ++ b) (each_both f xs ys a b e s) (join b h.1))
    go (passed n) s h = subst (λ k. Reports Q (each f (xs ++ ys)) k) (sym h) (passed-reports Q (each f (xs ++ ys)) n (each-stops f xs ys a n e s))

-- ---- a part of a store

pub part_length : (at w : ℕ) (l : List ℤ) → at + w ≤ length l → length (take (at + w - at) (drop at l)) ≡ w
part_length at w l h =
    let width : at + w - at ≡ w = omega arith in
    ap (λ k. length (take k (drop at l))) width ∙ length-take-le w (drop at l) (rw length-drop (omega arith))

parts-front : {A : Type 0} (k n : ℕ) (l rest : List A) → n * k ≤ length l → parts k n (l ++ rest) ≡ parts k n l
parts-front k n l rest h =
    sym (parts-take k n (length l) (l ++ rest) h) ∙ ap (parts k n) (take_at l rest (length l) refl)

pub matrix-put : (n a b w : ℕ) (store q : List ℤ) → a * list_columns ≤ length store → b * list_columns ≤ length q
    → matrix_rows n (a + b) (put_mid (a * list_columns) w store q) ≡ matrix_rows n a store ++ matrix_rows n b q
unfolding matrix_rows
matrix-put n a b w store q h k =
    ap (map (take n)) (parts-append list_columns a b (front ++ after)
    ∙ ap₂ (λ x y. x ++ parts list_columns b y) first (drop_at front after (a * list_columns) long)
    ∙ ap (λ y. parts list_columns a store ++ y) (parts-front list_columns b q (post_of (a * list_columns) w store) k))
    ∙ map-append (take n) (parts list_columns a store) (parts list_columns b q)
  where
    front : List ℤ
    front = take (a * list_columns) store

    after : List ℤ
    after = q ++ post_of (a * list_columns) w store

    long : length front ≡ a * list_columns
    long = length-take-le (a * list_columns) store h

    first : parts list_columns a (front ++ after) ≡ parts list_columns a store
    first =
        parts-front list_columns a front after (omega (arith, long))
        ∙ parts-take list_columns a (a * list_columns) store (le_refl (a * list_columns))

-- ---- the rows of the stores

pub equation-at : (n : ℤ) (e : ℕ) (l : List ℤ) (i : ℕ) → i < e
    → get_or (at_index n (rows_of e l)) i (record { index = n; row = no_row }) ≡ record { index = n; row = row_of (take row_length (drop (i * row_length) l)) }
unfolding at_index
equation-at n e l i h =
    get_or_map (λ r. record { index = n; row = r }) (rows_of e l) i no_row _ (subst (λ k. i < k) (sym (length-rows_of e l)) h)
    ∙ ap (λ r. record { index = n; row = r }) (row-at e l i h)

pub length-at_index : (n : ℤ) (e : ℕ) (l : List ℤ) → length (at_index n (rows_of e l)) ≡ e
unfolding at_index
length-at_index n e l = length-map (rows_of e l) (λ r. record { index = n; row = r }) ∙ length-rows_of e l

-- The equations at the integers n from -l on.
unfoldable pub groups : Sizes → ℕ → List Row → List (List Relation)
unfolding at_index row_indices
groups z N rows = map (λ n. at_index n rows) (row_indices z N)

pub length-groups : (z : Sizes) (N : ℕ) (rows : List Row) → length (groups z N rows) ≡ suc (N + span z)
unfolding groups row_indices
length-groups z N rows =
    length-map (map (λ k. pos k -ℤ z.l) (count_from 0 (suc (N + span z)))) (λ n. at_index n rows)
    ∙ length-map (count_from 0 (suc (N + span z))) (λ k. pos k -ℤ z.l) ∙ length-count_from 0 (suc (N + span z))

pub group_at : (z : Sizes) (N : ℕ) (rows : List Row) (k : ℕ) → k < suc (N + span z) → get_or (groups z N rows) k [] ≡ at_index (pos k -ℤ z.l) rows
unfolding groups row_indices
group_at z N rows k h =
    let numbers = count_from 0 (suc (N + span z)) in
    let counted : k < length numbers = subst (λ j. k < j) (sym (length-count_from 0 (suc (N + span z)))) h in
    get_or_map (λ n. at_index n rows) (map (λ k. pos k -ℤ z.l) numbers) k (pos 0) [] (subst (λ j. k < j) (sym (length-map numbers (λ k. pos k -ℤ z.l))) counted)
    ∙ ap (λ n. at_index n rows) (get_or_map (λ k. pos k -ℤ z.l) numbers k 0 (pos 0) counted
    ∙ ap (λ j. pos j -ℤ z.l) (get_or-count_from 0 (suc (N + span z)) k 0 h ∙ zero-add k))

pub right-row : (z : Sizes) (e : ℕ) (l : List ℤ) (i : ℕ) → i < e → T (every (row_right_of z) (rows_of e l))
    → T (row_right_of z (row_of (take row_length (drop (i * row_length) l))))
unfolding rows_of
right-row z e l i h s = held-every (row_right_of z) row_of row_length e l s i h

held-relations : (count : ℕ) (l : List ℤ) (i : ℕ) → i < count
    → drop i (relations_of count l) ≡ relation_of (take relation_length (drop (i * relation_length) l)) ∷ drop (i + 1) (relations_of count l)
unfolding relations_of
held-relations count l i h = held_next relation_of relation_length count l i h

pub relation-at : (count : ℕ) (l : List ℤ) (i : ℕ) (d : Relation) → i < count
    → get_or (relations_of count l) i d
    ≡ record { index = get_or l (i * relation_length) (pos 0); row = row_of (take row_length (drop (i * relation_length + 1) l)) }
relation-at count l i d h =
    let p = take relation_length (drop (i * relation_length) l) in
    get_or-of-drop (relations_of count l) i d (relation_of p) _ (held l)
    ∙ ap₂ (λ n r. record { index = n; row = r }) (index_at l (i * relation_length)) (row-after l (i * relation_length))
  where
    get_or-of-drop : (es : List Relation) (k : ℕ) (e x : Relation) (rest : List Relation) → drop k es ≡ x ∷ rest → get_or es k e ≡ x
    get_or-of-drop es k e x rest same =
        ap (λ j. get_or es j e) (sym (add-zero k)) ∙ sym (get_or-drop k es 0 e) ∙ ap (λ r. get_or r 0 e) same

    held : (l : List ℤ) → drop i (relations_of count l) ≡ relation_of (take relation_length (drop (i * relation_length) l)) ∷ drop (i + 1) (relations_of count l)
    held l = held-relations count l i h

pub right-relation : (z : Sizes) (count : ℕ) (l : List ℤ) (i : ℕ) → i < count → T (every (relation_right_of z) (relations_of count l))
    → T (small (get_or l (i * relation_length) (pos 0))) × T (row_right_of z (row_of (take row_length (drop (i * relation_length + 1) l))))
unfolding relations_of relation_right_of
right-relation z count l i h s =
    let at = i * relation_length in
    let e = relation_of (take relation_length (drop at l)) in
    let both = (T-&& (small e.index) (row_right_of z e.row)).0 (held-every (relation_right_of z) relation_of relation_length count l s i h) in
    (subst (λ n. T (small n)) (index_at l at) both.0, subst (λ r. T (row_right_of z r)) (row-after l at) both.1)

pub small-numbers : (z : Sizes) (p : List ℤ) → length p ≡ row_length → T (row_right_of z (row_of p)) → T (every small p)
unfolding row_right_of small_row
small-numbers z p e h = rw (coefficients_of-row_of-all p e) at (simp T-&& at h).0

-- ---- rows that are filled in, one behind another

module _ {A : Type 0} (f : A → Judged (List ℤ)) (n : ℕ) where
  -- Some rows more, in the part behind those that are there.
  pub filled_more : (pre ys : List A) (a b w : ℕ) (store q : List ℤ) → a * list_columns ≤ length store → b * list_columns ≤ length q
      → each f pre ≡ fine (matrix_rows n a store) → each f ys ≡ fine (matrix_rows n b q)
      → each f (pre ++ ys) ≡ fine (matrix_rows n (a + b) (put_mid (a * list_columns) w store q))
  filled_more pre ys a b w store q h k e g =
      each_both f pre ys (matrix_rows n a store) (matrix_rows n b q) e g ∙ ap fine (sym (matrix-put n a b w store q h k))

  row-only : (q : List ℤ) → length q ≡ list_columns → matrix_rows n 1 q ≡ take n q ∷ []
  unfolding matrix_rows parts
  row-only q e = ap (λ r. take n r ∷ []) (take-of-length q e)
    where
      take-of-length : (l : List ℤ) → length l ≡ list_columns → take list_columns l ≡ l
      take-of-length l h = ap (λ k. take k l) (sym h) ∙ take-length l

  -- The next row.
  pub filled_next : (xs : List A) (d : A) (i w : ℕ) (store q : List ℤ) → i < length xs → i * list_columns ≤ length store
      → length q ≡ list_columns → each f (take i xs) ≡ fine (matrix_rows n i store) → f (get_or xs i d) ≡ fine (take n q)
      → each f (take (i + 1) xs) ≡ fine (matrix_rows n (i + 1) (put_mid (i * list_columns) w store q))
  filled_next xs d i w store q h k e made one =
      ap (each f) (ap (λ j. take j xs) (add-one i) ∙ take-suc xs i d h)
      ∙ filled_more (take i xs) (get_or xs i d ∷ []) i 1 w store q k (omega (arith, e)) made
      (each-one f (get_or xs i d) (take n q) one ∙ ap fine (sym (row-only q e)))

  pub filled-stop : (xs : List A) (d : A) (i k : ℕ) (a : List (List ℤ)) → i < length xs → each f (take i xs) ≡ fine a
      → f (get_or xs i d) ≡ passed k → each f xs ≡ passed k
  filled-stop xs d i k a h made stop =
      ap (each f) (sym (take-append-drop i xs) ∙ ap (λ r. take i xs ++ r) (drop-next xs i d h))
      ∙ each-stops f (take i xs) (get_or xs i d ∷ drop (i + 1) xs) a k made (each_none f (get_or xs i d) (drop (i + 1) xs) k stop)

  -- The same of several rows at a time.
  flatten-next : (gs : List (List A)) (k : ℕ) → k < length gs → flatten (take (k + 1) gs) ≡ flatten (take k gs) ++ get_or gs k []
  unfolding flatten
  flatten-next gs k h =
      ap flatten (ap (λ j. take j gs) (add-one k) ∙ take-suc gs k [] h) ∙ flatten-append (take k gs) (get_or gs k [] ∷ [])
      ∙ ap (λ r. flatten (take k gs) ++ r) (append-nil (get_or gs k []))

  pub group-next : (gs : List (List A)) (k b w : ℕ) (store q : List ℤ) → k < length gs → k * (b * list_columns) ≤ length store
      → length q ≡ b * list_columns → each f (flatten (take k gs)) ≡ fine (matrix_rows n (k * b) store)
      → each f (get_or gs k []) ≡ fine (matrix_rows n b q)
      → each f (flatten (take (k + 1) gs)) ≡ fine (matrix_rows n ((k + 1) * b) (put_mid (k * (b * list_columns)) w store q))
  group-next gs k b w store q h fits e made more =
      ap (each f) (flatten-next gs k h)
      ∙ filled_more (flatten (take k gs)) (get_or gs k []) (k * b) b w store q (subst (λ j. j ≤ length store) place fits) (omega (arith, e)) made more
      ∙ ap₂ (λ c j. fine (matrix_rows n c (put_mid j w store q))) (sym (suc-mul k b) ∙ ap (λ j. j * b) (sym (add-one k))) (sym place)
    where
      place : k * (b * list_columns) ≡ k * b * list_columns
      place = sym (mul_assoc k b list_columns)

  pub group-stop : (gs : List (List A)) (k j : ℕ) (a : List (List ℤ)) → k < length gs → each f (flatten (take k gs)) ≡ fine a
      → each f (get_or gs k []) ≡ passed j → each f (flatten gs) ≡ passed j
  unfolding flatten
  group-stop gs k j a h made stop =
      ap (each f) (ap flatten (sym (take-append-drop k gs) ∙ ap (λ r. take k gs ++ r) (drop-next gs k [] h))
      ∙ flatten-append (take k gs) (get_or gs k [] ∷ drop (k + 1) gs))
      ∙ each-stops f (flatten (take k gs)) (get_or gs k [] ++ flatten (drop (k + 1) gs)) a j made
      (each-stopped f (get_or gs k []) (flatten (drop (k + 1) gs)) j stop)

pub length-matrix_rows : (n count : ℕ) (store : List ℤ) → length (matrix_rows n count store) ≡ count
unfolding matrix_rows
length-matrix_rows n count store = length-map (parts list_columns count store) (take n) ∙ parts-length list_columns count store

-- The numbers past the needed part stay.
pub kept_put : (need from to : ℕ) (store q : List ℤ) → from ≤ to → to ≤ need → to ≤ length store → length q ≡ length (take (to - from) (drop from store))
    → Kept need store (put_mid from (to - from) store q)
kept_put need from to store q h k room e =
    record {
      same_length = same_len_mid from (to - from) store q e;
      same_rest =
          ap (λ j. drop j (put_mid from (to - from) store q)) whole ∙ sym (drop-drop (need - to) to (put_mid from (to - from) store q))
          ∙ ap (drop (need - to)) (drop_put from to store q h room (e ∙ mid_len from to store room))
          ∙ drop-drop (need - to) to store ∙ ap (λ j. drop j store) (sym whole);
    }
  where
    whole : need ≡ to + (need - to)
    whole = omega arith
