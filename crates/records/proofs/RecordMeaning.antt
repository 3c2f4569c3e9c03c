-- What the sums of a record mean.
--
-- Main statements
--   row_sum-none         the sum of a row is none exactly if one of its polynomials passes the limit
--   sum-value           a sum that is formed is the row's value on every sequence that agrees with the record
use Rattle.std.specs.Prelude.{ℕ, zero, suc, pred, ◌+◌, ◌*◌, ◌-◌, ◌≤◌, ◌<◌, ◌≡◌, refl, ◌↔◌, ◌⊎◌, T, length, take, drop, get_or, ℤ, neg_ℤ, ◌+ℤ◌, ◌-ℤ◌, ◌*ℤ◌, ◌≤ℤ◌}
use Rattle.std.proofs.Common.{suc-le-suc, add-zero, zero-add, arith, sym, ◌∙◌, ap₂, subst, inl, inr, ⊎_elim, length-take, take-append-drop}
use Rattle.std.proofs.Math.Nat.{sub-zero}
use Rattle.std.proofs.Math.Path.{ap}
use mathlib.Core.Logic.Iff
use mathlib.Core.List.Memᴰ
use mathlib.Core.List.{List, [], ◌∷◌, ◌++◌, map, flatten, Memᴰ}
use Rattle.std.proofs.Math.Option.{Option, none, some}
use Rattle.std.proofs.Math.IntN.{pos, pred_ℤ, +ℤ_idl, +ℤ_idr, +ℤ_invr, +ℤ_assoc}
use Rattle.algebra.specs.Integers.{ringℤ}
use Rattle.algebra.specs.Polynomials.{Polynomial, eval}
use Rattle.lists.specs.Tests.{every, every_take, T-&&}
use Rattle.rules.specs.Rows.{Block, Row, zero_block}
use Rattle.rules.specs.Sequences.{Sequence, block_value, blocks_value, left_value, value_of}
use Rattle.rules.specs.Stores.{Sizes, span, unused_zero_of}
use Rattle.theory.specs.Values.{block-zero, blocks-append-zero, index_below}
use Rattle.evaluation.specs.Evaluated.{after, horner, some-none, after-some, horner-eval}
use Rattle.records.specs.Records.{with_block, with_blocks, less_right, row_sum_of, top_at, sum_at, inside}
use Rattle.records.specs.RecordPlaces.{top-index, top-at, inside-index}
use Rattle.records.specs.RecordMeaning.{Agrees, PassesLimit, RowPasses, SomePasses, after_none, entries_of, horner-none}

-- ---- a row's polynomials

passes-first : (n : ℤ) (p : Polynomial) (ps : List Polynomial) → SomePasses n (p ∷ ps) ↔ (PassesLimit n p ⊎ SomePasses n ps)
unfolding SomePasses
passes-first n p ps = (forth, back)
  where
    forth : SomePasses n (p ∷ ps) → PassesLimit n p ⊎ SomePasses n ps
    forth w = ⊎_elim (λ e. inl (subst (PassesLimit n) e w.2)) (λ m. inr (w.0, m, w.2)) (Memᴰ.cases_cons w.1)

    back : PassesLimit n p ⊎ SomePasses n ps → SomePasses n (p ∷ ps)
    back h = ⊎_elim (λ w. (p, Memᴰ.head refl, w)) (λ w. (w.0, Memᴰ.tail w.1, w.2)) h

passes_none : (n : ℤ) → SomePasses n [] → ⊥
unfolding SomePasses
passes_none n w = Memᴰ.not-nil w.1

passes_append : (n : ℤ) (ps qs : List Polynomial) → SomePasses n (ps ++ qs) ↔ (SomePasses n ps ⊎ SomePasses n qs)
passes_append n [] qs = (λ h. inr h, λ h. ⊎_elim (λ w. absurd (passes_none n w)) (λ w. w) h)
passes_append n (p ∷ ps) qs = (forth (passes_append n ps qs), back (passes_append n ps qs))
  where
    forth : SomePasses n (ps ++ qs) ↔ (SomePasses n ps ⊎ SomePasses n qs) → SomePasses n (p ∷ (ps ++ qs))
        → SomePasses n (p ∷ ps) ⊎ SomePasses n qs
    forth i h =
        ⊎_elim (λ w. inl ((passes-first n p ps).1 (inl w))) (λ w. ⊎_elim (λ v. inl ((passes-first n p ps).1 (inr v))) (λ v. inr v) (i.0 w))
        ((passes-first n p (ps ++ qs)).0 h)

    back : SomePasses n (ps ++ qs) ↔ (SomePasses n ps ⊎ SomePasses n qs) → SomePasses n (p ∷ ps) ⊎ SomePasses n qs
        → SomePasses n (p ∷ (ps ++ qs))
    back i h =
        (passes-first n p (ps ++ qs)).1
        (⊎_elim (λ w. ⊎_elim (λ v. inl v) (λ v. inr (i.1 (inl v))) ((passes-first n p ps).0 w)) (λ w. inr (i.1 (inr w))) h)

-- One after the other: there is none exactly if the first or the second is missing.
after-none-iff : {A B : Type 0} {P Q : Type 0} (f : A → Option B) (o : Option A) → (o ≡ none) ↔ P → ((v : A) → (f v ≡ none) ↔ Q)
    → (after f o ≡ none) ↔ (P ⊎ Q)
unfolding after
after-none-iff {A} {B} {P} {Q} f o first second = (forth, back)
  where
    forth : after f o ≡ none → P ⊎ Q
    forth e = ⊎_elim (λ h. inl (first.0 h)) (λ w. inr ((second w.0).0 w.2)) (after_none f o e)

    later : (o : Option A) → Q → after f o ≡ none
    later none q = refl
    later (some v) q = (second v).1 q

    back : P ⊎ Q → after f o ≡ none
    back h = ⊎_elim (λ p. ap (after f) (first.1 p)) (λ q. later o q) h

-- A block has no sum exactly if one of its polynomials passes the limit.
block_none : (n : ℤ) (values : List ℤ) (from c : ℕ) (s : ℤ) (ps : Block) → (with_block n values from c s ps ≡ none) ↔ SomePasses n ps
unfolding with_block
block_none n values from c s [] = (λ e. absurd (some-none e), λ w. absurd (passes_none n w))
block_none n values from c s (p ∷ ps) =
    Iff.trans
    (after-none-iff (λ v. with_block n values from (suc c) (s +ℤ v *ℤ get_or values (from + c) (pos 0)) ps) (horner n p) (horner-none n p)
    (λ v. block_none n values from (suc c) (s +ℤ v *ℤ get_or values (from + c) (pos 0)) ps))
    (Iff.symm (passes-first n p ps))

blocks-none : (n : ℤ) (values : List ℤ) (m top : ℕ) (s : ℤ) (bs : List Block)
    → (with_blocks n values m top s bs ≡ none) ↔ SomePasses n (flatten (map (take m) bs))
unfolding with_blocks flatten
blocks-none n values m top s [] = (λ e. absurd (some-none e), λ w. absurd (passes_none n w))
blocks-none n values m top s (b ∷ bs) =
    Iff.trans
    (after-none-iff (λ q. with_blocks n values m (pred top) q bs) (with_block n values (top * m) 0 s (take m b))
    (block_none n values (top * m) 0 s (take m b)) (λ q. blocks-none n values m (pred top) q bs))
    (Iff.symm (passes_append n (take m b) (flatten (map (take m) bs))))

-- A value is subtracted without a limit.
right-none : (n s : ℤ) (p : Polynomial) → (less_right n p s ≡ none) ↔ SomePasses n (p ∷ [])
unfolding less_right
right-none n s p =
    Iff.trans (after-none-iff (λ b. some (s -ℤ b)) (horner n p) (horner-none n p) (λ b. (λ e. some-none e, λ e. absurd e)))
    (Iff.trans (λ h. ⊎_elim (λ w. inl w) (λ w. absurd w) h, λ h. ⊎_elim (λ w. inl w) (λ w. absurd (passes_none n w)) h)
    (Iff.symm (passes-first n p [])))

pub row_sum-none : (m D : ℕ) (values : List ℤ) (top : ℕ) (r : Row) (n : ℤ) → (row_sum_of m D values top r n ≡ none) ↔ RowPasses m D r n
unfolding row_sum_of RowPasses entries_of
row_sum-none m D values top r n =
    Iff.trans
    (after-none-iff (less_right n r.right) (with_blocks n values m top (pos 0) (take (suc D) r.blocks))
    (blocks-none n values m top (pos 0) (take (suc D) r.blocks)) (λ s. right-none n s r.right))
    (Iff.symm (passes_append n (flatten (map (take m) (take (suc D) r.blocks))) (r.right ∷ [])))

-- ---- a sum is the value of the row

block-value : (n : ℤ) (values : List ℤ) (from c : ℕ) (s q : ℤ) (v : ℕ → ℤ) (ps : Block)
    → ((k : ℕ) → k < length ps → v k ≡ get_or values (from + (c + k)) (pos 0)) → with_block n values from c s ps ≡ some q
    → q ≡ s +ℤ block_value n v ps
unfolding with_block block_value
block-value n values from c s q v [] h e = let z : q ≡ s = cc in z ∙ sym (+ℤ_idr s)
block-value n values from c s q v (p ∷ ps) h e =
    let x = get_or values (from + c) (pos 0) in
    let w = after-some (λ u. with_block n values from (suc c) (s +ℤ u *ℤ x) ps) (horner n p) q e in
    let place : (k : ℕ) → from + (c + suc k) ≡ from + (suc c + k) = λ k. omega arith in
    let here : x ≡ v 0 = ap (λ k. get_or values (from + k) (pos 0)) (sym (add-zero c)) ∙ sym (h 0 (omega arith)) in
    block-value n values from (suc c) (s +ℤ w.0 *ℤ x) q (λ k. v (suc k)) ps
    (λ k g. h (suc k) (suc-le-suc g) ∙ ap (λ i. get_or values i (pos 0)) (place k)) w.2
    ∙ +ℤ_assoc s (w.0 *ℤ x) (block_value n (λ k. v (suc k)) ps)
    ∙ ap₂ (λ a b. s +ℤ (a *ℤ b +ℤ block_value n (λ k. v (suc k)) ps)) (horner-eval n p w.0 w.1) here

blocks-value : (n : ℤ) (values : List ℤ) (m top : ℕ) (s q : ℤ) (y : Sequence) (k : ℤ) (bs : List Block)
    → ((b c : ℕ) → b < length bs → c < m → y (k -ℤ pos b) c ≡ get_or values ((top - b) * m + c) (pos 0))
    → with_blocks n values m top s bs ≡ some q → q ≡ s +ℤ blocks_value n y k (map (take m) bs)
unfolding with_blocks blocks_value
blocks-value n values m top s q y k [] h e = let z : q ≡ s = cc in z ∙ sym (+ℤ_idr s)
blocks-value n values m top s q y k (b ∷ bs) h e =
    let w = after-some (λ u. with_blocks n values m (pred top) u bs) (with_block n values (top * m) 0 s (take m b)) q e in
    let lower : (i : ℕ) → pred top - i ≡ top - suc i = λ i. omega arith in
    let few : length (take m b) ≤ m = rw length-take (omega arith) in
    let here : (c : ℕ) → c < length (take m b) → y k c ≡ get_or values (top * m + (0 + c)) (pos 0) =
    λ c g.
    ap (λ x. y x c) (sym (+ℤ_idr k)) ∙ h 0 c (omega arith) (omega arith)
    ∙ ap₂ (λ a d. get_or values (a * m + d) (pos 0)) (sub-zero top) (sym (zero-add c)) in
    blocks-value n values m (pred top) w.0 q y (pred_ℤ k) bs
    (λ i c g f. ap (λ x. y x c) (index_below k i) ∙ h (suc i) c (suc-le-suc g) f
    ∙ ap (λ j. get_or values (j * m + c) (pos 0)) (sym (lower i))) w.2
    ∙ ap (λ a. a +ℤ blocks_value n y (pred_ℤ k) (map (take m) bs)) (block-value n values (top * m) 0 s w.0 (y k) (take m b) here w.1)
    ∙ +ℤ_assoc s (block_value n (y k) (take m b)) (blocks_value n y (pred_ℤ k) (map (take m) bs))

-- Some vectors before another.
vector-before : (first k : ℤ) (top b : ℕ) → b ≤ top → k ≡ first +ℤ pos top → k -ℤ pos b ≡ first +ℤ pos (top - b)
vector-before first k top b h e =
    let apart : top ≡ (top - b) + b = omega arith in
    ap (λ x. x -ℤ pos b) (e ∙ ap (λ t. first +ℤ pos t) apart) ∙ regroup first (pos (top - b)) (pos b)
  where
    regroup : (f a c : ℤ) → (f +ℤ (a +ℤ c)) -ℤ c ≡ f +ℤ a
    regroup f a c = split ∙ ap (λ x. x +ℤ (f +ℤ a)) (+ℤ_invr c) ∙ +ℤ_idl (f +ℤ a)
      where
        split : (f +ℤ (a +ℤ c)) -ℤ c ≡ (c +ℤ neg_ℤ c) +ℤ (f +ℤ a)
        split = simp ringℤ

-- Columns and blocks that are not in use add nothing.
column-cut : (n : ℤ) (v : ℕ → ℤ) (m : ℕ) (b : Block) → T (zero_block (drop m b)) → block_value n v (take m b) ≡ block_value n v b
unfolding block_value
column-cut n v zero b h = sym (block-zero n v b h)
column-cut n v (suc m) [] h = refl
column-cut n v (suc m) (p ∷ b) h = ap (λ s. eval p n *ℤ v 0 +ℤ s) (column-cut n (λ c. v (suc c)) m b h)

columns-cut : (n : ℤ) (y : Sequence) (k : ℤ) (m : ℕ) (bs : List Block) → T (every (λ b. zero_block (drop m b)) bs)
    → blocks_value n y k (map (take m) bs) ≡ blocks_value n y k bs
unfolding blocks_value every
columns-cut n y k m [] h = refl
columns-cut n y k m (b ∷ bs) h =
    let both = (T-&& (zero_block (drop m b)) (every (λ b. zero_block (drop m b)) bs)).0 h in
    ap₂ ◌+ℤ◌ (column-cut n (y k) m b both.0) (columns-cut n y (pred_ℤ k) m bs both.1)

blocks-cut : (n : ℤ) (y : Sequence) (k : ℤ) (m D : ℕ) (r : Row) → T (unused_zero_of m D r)
    → blocks_value n y k (map (take m) (take (suc D) r.blocks)) ≡ blocks_value n y k r.blocks
unfolding unused_zero_of
blocks-cut n y k m D r h =
    let both = (T-&& (every (λ b. zero_block (drop m b)) r.blocks) (every zero_block (drop (suc D) r.blocks))).0 h in
    columns-cut n y k m (take (suc D) r.blocks) (every_take (λ b. zero_block (drop m b)) (suc D) r.blocks both.0)
    ∙ sym (blocks-append-zero n y k (take (suc D) r.blocks) (drop (suc D) r.blocks) both.1)
    ∙ ap (blocks_value n y k) (take-append-drop (suc D) r.blocks)

pub row-value : (m D : ℕ) (values : List ℤ) (top : ℕ) (r : Row) (n l s : ℤ) (y : Sequence) → T (unused_zero_of m D r)
    → ((b c : ℕ) → b ≤ D → c < m → y ((n +ℤ l) -ℤ pos b) c ≡ get_or values ((top - b) * m + c) (pos 0))
    → row_sum_of m D values top r n ≡ some s → s ≡ value_of l r y n
unfolding row_sum_of less_right value_of left_value
row-value m D values top r n l s y unused h e =
    let bs = take (suc D) r.blocks in
    let w = after-some (less_right n r.right) (with_blocks n values m top (pos 0) bs) s e in
    let v = after-some (λ b. some (w.0 -ℤ b)) (horner n r.right) s w.2 in
    let difference : s ≡ w.0 -ℤ v.0 = cc v.2 in
    let few : length bs ≤ suc D = rw length-take (omega arith) in
    let left : w.0 ≡ blocks_value n y (n +ℤ l) r.blocks =
    blocks-value n values m top (pos 0) w.0 y (n +ℤ l) bs (λ b c g f. h b c (omega arith) f) w.1
    ∙ +ℤ_idl (blocks_value n y (n +ℤ l) (map (take m) bs)) ∙ blocks-cut n y (n +ℤ l) m D r unused in
    difference ∙ ap₂ ◌-ℤ◌ left (horner-eval n r.right v.0 v.1)

module _ (z : Sizes) (first : ℤ) (vectors : ℕ) (values : List ℤ) (y : Sequence) (ordered : z.t ≤ℤ z.l) where
  -- A sum that is formed where all blocks lie in the record is the row's value, on every sequence that agrees with the record.
  pub sum-value : Agrees z.m first vectors values y → (r : Row) (n s : ℤ) → T (unused_zero_of z.m (span z) r)
      → T (inside z first vectors n)
      → sum_at z first values r n ≡ some s → s ≡ value_of z.l r y n
  unfolding sum_at Agrees
  sum-value agrees r n s unused there e =
      let place = inside-index z first ordered vectors n there in
      let j = place.0 in
      let top-is : top_at z first n ≡ j + span z = ap (top_at z first) place.1 ∙ top-at z first ordered j in
      let high : n +ℤ z.l ≡ first +ℤ pos (top_at z first n) =
      ap (λ k. k +ℤ z.l) place.1 ∙ top-index z first ordered j ∙ ap (λ t. first +ℤ pos t) (sym top-is) in
      row-value z.m (span z) values (top_at z first n) r n z.l s y unused
      (λ b c g f.
      ap (λ k. y k c) (vector-before first (n +ℤ z.l) (top_at z first n) b (omega arith) high)
      ∙ agrees (top_at z first n - b) c (omega (arith, place.2)) f) e
