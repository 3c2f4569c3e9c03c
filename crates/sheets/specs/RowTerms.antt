-- Terms put into rows, and the terms of a row.
--
-- Main definitions
--   put_at k c p bs         the blocks with polynomial p at block k and column c, both counted from 0
--   Before, Clear k c bs   the places in a sheet's order, and: all polynomials before (k, c) are zero
--   Blank bs               all polynomials are zero
--   TermsHeld              what holds of the row into which ordered terms are put
--
-- Main statements
--   terms-held             ordered terms put into a blank row give a row of the system, and are its terms
--   row-of-terms           the terms of a store's row, put into a blank row, give that row
use Rattle.std.specs.Prelude.{ℕ, zero, suc, pred, ◌+◌, ◌≤◌, ◌<◌, ◌≡◌, ◌⊎◌, Bool, true, false, ◌||◌, not, T, length, get_or, set, ℤ, pos, neg_ℤ, nat_abs, ◌+ℤ◌, ◌-ℤ◌, ◌≤ℤ◌, ◌<ℤ◌}
use Rattle.std.proofs.Common.{zero-le, suc-le-suc, not-suc-le-zero, le_of_suc-le-suc, zero-add, eq-or-lt_of_le, le_trans, add-one, arith, sym, ◌∙◌, ap₂, inl, inr, ⊎_elim, lit<, length-set, drop-set-lt, get_or-set_same, get_or-set_other}
use Rattle.std.proofs.Math.Path.{refl, ap}
use mathlib.Core.List.{List, [], ◌∷◌, ◌++◌, append-nil, append_assoc}
use Rattle.std.proofs.Math.ListN.{replicate, length-append}
use Rattle.std.proofs.lemmas.List.{length-replicate, get_or_at, set_at}
use Rattle.std.proofs.Math.IntN.{pred_ℤ, neg_ℤ-+ℤ, neg_ℤ-neg_ℤ, +ℤ_assoc, +ℤ_invr, +ℤ_idl, +ℤ_idr, -ℤ_one, pred_ℤ-+ℤ}
use Rattle.std.specs.Int.Signed.{lt_z, lt_z_yes}
use Rattle.algebra.specs.Order.{≤ℤ-trans, <ℤ-to-≤ℤ, pos-nat_abs-nonneg, ≤ℤ-difference, neg_ℤ-≤ℤ, neg_ℤ-<ℤ, +ℤ-≤ℤ-left, +ℤ-<ℤ-left, pos-≤ℤ}
use Rattle.algebra.specs.Order.{pos-<ℤ}
use Rattle.algebra.specs.Polynomials.{Polynomial, is_zero_of}
use Rattle.rules.specs.Limits.{coefficient_count, column_count, block_count, small}
use Rattle.rules.specs.Rows.{Block, Row, zero_block}
use Rattle.lists.specs.Everywhere.{All, all_set, all_get_or, all_replicate}
use Rattle.lists.specs.Tests.{every, every_drop, cond-passed, cond-not}
use Rattle.rules.specs.Stores.{Sizes, span, Shaped, StoreRow}
use Rattle.rules.specs.Layout.{SizeBounds, block-place}
use Rattle.lists.specs.Padded.{length-pad_to, pad_to, get_or-replicate-each, replicate-snoc}
use Rattle.rules.specs.Sheets.{Term, trim, blank_row, row_of_terms, block_terms_of, terms_from, put_term_of}
use Rattle.writing.specs.Writer.{trim-none}
use Rattle.sheets.specs.RowBlocks.{StorePolynomial, BlockRight, StoreBlock, RowRight}
use Rattle.sheets.specs.WrittenTerms.{TermRight, Ordered, judge_block-iff, judge_column-iff}
use Rattle.sheets.specs.Trimmed.{zero_or_not, pad_to-trim, trim-pad_to, pad_to-nonzero, small-pad_to}

-- ---- blocks counted down from l

abbrev depth : ℤ → ℤ → ℕ
depth l s = nat_abs (l -ℤ s)

sub-sub : (l s : ℤ) → l -ℤ (l -ℤ s) ≡ s
sub-sub l s = rw (neg_ℤ-+ℤ, neg_ℤ-neg_ℤ, ← +ℤ_assoc, +ℤ_invr) (+ℤ_idl s)

module _ {l s : ℤ} (h : s ≤ℤ l) where
  depth_pos : pos (depth l s) ≡ l -ℤ s
  depth_pos = pos-nat_abs-nonneg (≤ℤ-difference.0 h)

  depth-back : l -ℤ pos (depth l s) ≡ s
  depth-back = ap (λ d. l -ℤ d) depth_pos ∙ sub-sub l s

depth-≤ : {l s r : ℤ} → r ≤ℤ s → s ≤ℤ l → depth l s ≤ depth l r
depth-≤ {l} {s} {r} h i = pos-≤ℤ.0 (rw (depth_pos i, depth_pos (≤ℤ-trans h i)) (+ℤ-≤ℤ-left l (neg_ℤ-≤ℤ.0 h)))

depth-< : {l s r : ℤ} → r <ℤ s → s ≤ℤ l → depth l s < depth l r
depth-< {l} {s} {r} h i = pos-<ℤ.0 (rw (depth_pos i, depth_pos (≤ℤ-trans (<ℤ-to-≤ℤ h) i)) (+ℤ-<ℤ-left l (neg_ℤ-<ℤ.0 h)))

-- ---- a polynomial put into a row

abbrev put_at : ℕ → ℕ → Polynomial → List Block → List Block
put_at k c p bs = set bs k (set (get_or bs k []) c p)

abbrev pub polynomial_at_of : List Block → ℕ → ℕ → Polynomial
polynomial_at_of bs i j = get_or (get_or bs i []) j []

RowRight-put : (z : Sizes) (bs : List Block) (k c : ℕ) (p : Polynomial) → k < block_count → k ≤ span z → c < z.m → StorePolynomial p
    → RowRight z bs
    → RowRight z (put_at k c p bs)
RowRight-put z bs k c p inside used column h r =
    record {
      count = length-set bs k _ ∙ r.count;
      each = all_set (BlockRight z.m) bs k _ block r.each;
      below = rw (drop-set-lt (suc (span z)) bs k _ (suc-le-suc used)) r.below;
    }
  where
    old : BlockRight z.m (get_or bs k [])
    old = all_get_or (BlockRight z.m) bs [] k (rw r.count inside) r.each

    block : BlockRight z.m (set (get_or bs k []) c p)
    block = (
      length-set (get_or bs k []) c p ∙ old.0,
      all_set StorePolynomial (get_or bs k []) c p h old.1,
      rw (drop-set-lt z.m (get_or bs k []) c p column) old.2,
    )

-- Does place (i, j) come before (k, c)?
abbrev Before : ℕ → ℕ → ℕ → ℕ → Type 0
Before i j k c = (i < k) ⊎ ((i ≡ k) × (j < c))

-- All polynomials before (k, c) are zero.
pub Clear : ℕ → ℕ → List Block → Type 0
Clear k c bs = (i j : ℕ) → Before i j k c → T (is_zero_of (polynomial_at_of bs i j))

Clear-weaken : (k₀ c₀ k c : ℕ) (bs : List Block) → Before k₀ c₀ k c → Clear k c bs → Clear k₀ c₀ bs
unfolding Clear
Clear-weaken k₀ c₀ k c bs b h i j a = h i j (earlier a b)
  where
    earlier : Before i j k₀ c₀ → Before k₀ c₀ k c → Before i j k c
    earlier (inl a) (inl b) = inl (omega arith)
    earlier (inl a) (inr b) = inl (omega arith)
    earlier (inr a) (inl b) = inl (omega arith)
    earlier (inr a) (inr b) = inr (omega arith)

-- A polynomial put at (k, c) leaves the others.
put_at-other : (bs : List Block) (k c : ℕ) (p : Polynomial) (i j : ℕ) → Before i j k c → k < length bs
    → polynomial_at_of (put_at k c p bs) i j ≡ polynomial_at_of bs i j
put_at-other bs k c p i j (inl a) h = ap (λ b. get_or b j []) (get_or-set_other bs k i _ [] (omega arith))
put_at-other bs k c p i j (inr a) h =
    rw a.0
    (ap (λ b. get_or b j []) (get_or-set_same bs k (set (get_or bs k []) c p) [] h) ∙ get_or-set_other (get_or bs k []) c j p [] (omega arith))

Clear-put : (k₀ c₀ k c : ℕ) (p : Polynomial) (bs : List Block) → Before k₀ c₀ k (suc c) → k < length bs → Clear k₀ c₀ bs
    → Clear k₀ c₀ (put_at k c p bs)
unfolding Clear
Clear-put k₀ c₀ k c p bs b h clear i j a = rw (put_at-other bs k c p i j (earlier a b) h) (clear i j a)
  where
    earlier : Before i j k₀ c₀ → Before k₀ c₀ k (suc c) → Before i j k c
    earlier (inl a) (inl b) = inl (omega arith)
    earlier (inl a) (inr b) = inl (omega arith)
    earlier (inr a) (inl b) = inl (omega arith)
    earlier (inr a) (inr b) = inr (omega arith)

-- ---- the terms of a row into which one is put

pub block_terms-zero : (s : ℤ) (c : ℕ) (p : Polynomial) (b : Block) → T (is_zero_of p) → block_terms_of s c (p ∷ b) ≡ block_terms_of s (suc c) b
unfolding block_terms_of
block_terms-zero s c p b h = cond-passed (is_zero_of p) _ _ h

pub block_terms-nonzero : (s : ℤ) (c : ℕ) (p : Polynomial) (b : Block) → T (not (is_zero_of p))
    → block_terms_of s c (p ∷ b) ≡ record { block = s; column = c; polynomial = trim p } ∷ block_terms_of s (suc c) b
unfolding block_terms_of
block_terms-nonzero s c p b h = cond-not (is_zero_of p) _ _ h

pub block_terms-none : (s : ℤ) (c : ℕ) (b : Block) → ((j : ℕ) → T (is_zero_of (get_or b j []))) → block_terms_of s c b ≡ []
unfolding block_terms_of
block_terms-none s c [] h = refl
block_terms-none s c (p ∷ b) h = block_terms-zero s c p b (h 0) ∙ block_terms-none s (suc c) b (λ j. h (suc j))

-- The columns of the block are counted from n.
block_terms-put : (s : ℤ) (n c : ℕ) (p : Polynomial) (b : Block) → c < length b → T (not (is_zero_of p))
    → ((j : ℕ) → j < suc c → T (is_zero_of (get_or b j [])))
    → block_terms_of s n (set b c p) ≡ record { block = s; column = c + n; polynomial = trim p } ∷ block_terms_of s n b
block_terms-put s n c p [] h i z = absurd (not-suc-le-zero h)
block_terms-put s n zero p (q ∷ b) h i z =
    block_terms-nonzero s n p b i
    ∙ ap₂ (λ k l. record { block = s; column = k; polynomial = trim p } ∷ l) (sym (zero-add n))
    (sym (block_terms-zero s n q b (z 0 (lit< tt))))
block_terms-put s n (suc c) p (q ∷ b) h i z =
    block_terms-zero s n q (set b c p) (z 0 (suc-le-suc zero-le))
    ∙ block_terms-put s (suc n) c p b (le_of_suc-le-suc h) i (λ j l. z (suc j) (suc-le-suc l))
    ∙ ap₂ (λ k l. record { block = s; column = k; polynomial = trim p } ∷ l) (omega arith)
    (sym (block_terms-zero s n q b (z 0 (suc-le-suc zero-le))))

below_next : (s : ℤ) (k : ℕ) → pred_ℤ s -ℤ pos k ≡ s -ℤ pos (suc k)
below_next s k =
    ap (λ a. a -ℤ pos k) (sym (-ℤ_one s))
    ∙ +ℤ_assoc s (neg_ℤ (pos 1)) (neg_ℤ (pos k))
    ∙ ap (λ a. s +ℤ a) (sym (neg_ℤ-+ℤ (pos 1) (pos k)) ∙ ap (λ n. neg_ℤ (pos n)) next)
  where
    next : 1 + k ≡ suc k
    next = omega arith

terms_from-put : (s : ℤ) (k c : ℕ) (p : Polynomial) (bs : List Block) → k < length bs → c < length (get_or bs k []) → T (not (is_zero_of p))
    → Clear k (suc c) bs
    → terms_from s (put_at k c p bs) ≡ record { block = s -ℤ pos k; column = suc c; polynomial = trim p } ∷ terms_from s bs
unfolding terms_from Clear
terms_from-put s k c p [] h i n z = absurd (not-suc-le-zero h)
terms_from-put s zero c p (b ∷ bs) h i n z =
    ap (λ l. l ++ terms_from (pred_ℤ s) bs) (block_terms-put s 1 c p b i n (λ j l. z 0 j (inr (refl, l))))
    ∙ ap₂ (λ r k. record { block = r; column = k; polynomial = trim p } ∷ (block_terms_of s 1 b ++ terms_from (pred_ℤ s) bs))
    (sym (+ℤ_idr s)) (add-one c)
terms_from-put s (suc k) c p (b ∷ bs) h i n z =
    ap (λ l. l ++ terms_from (pred_ℤ s) (put_at k c p bs)) none
    ∙ terms_from-put (pred_ℤ s) k c p bs (le_of_suc-le-suc h) i n after
    ∙ ap₂ (λ r l. record { block = r; column = suc c; polynomial = trim p } ∷ (l ++ terms_from (pred_ℤ s) bs)) (below_next s k) (sym none)
  where
    none : block_terms_of s 1 b ≡ []
    none = block_terms-none s 1 b (λ j. z 0 j (inl (suc-le-suc zero-le)))

    after : Clear k (suc c) bs
    after i j (inl a) = z (suc i) j (inl (suc-le-suc a))
    after i j (inr a) = z (suc i) j (inr (ap suc a.0, a.1))

-- ---- the blank row

-- Every polynomial is zero.
unfoldable pub Blank : List Block → Type 0
Blank bs = (i j : ℕ) → T (is_zero_of (polynomial_at_of bs i j))

Blank-blank : Blank blank_row.blocks
unfolding Blank blank_row is_zero_of
Blank-blank i =
    get_or-replicate-each (λ b. (j : ℕ) → T (is_zero_of (get_or b j []))) block_count
    (replicate column_count (replicate coefficient_count (pos 0))) [] i
    (λ j. get_or-replicate-each (λ p. T (is_zero_of p)) column_count (replicate coefficient_count (pos 0)) [] j tt tt) (λ j. tt)

pub terms_from-none : (s : ℤ) (bs : List Block) → Blank bs → terms_from s bs ≡ []
unfolding terms_from Blank
terms_from-none s [] h = refl
terms_from-none s (b ∷ bs) h = ap₂ (λ l r. l ++ r) (block_terms-none s 1 b (h 0)) (terms_from-none (pred_ℤ s) bs (λ i. h (suc i)))

RowRight-blank : (z : Sizes) → RowRight z blank_row.blocks
unfolding blank_row every small zero_block
RowRight-blank z =
    record {
      count = refl;
      each = all_replicate (BlockRight z.m) block_count blank block;
      below = every_drop zero_block (suc (span z)) (replicate block_count blank) zeros;
    }
  where
    blank : Block
    blank = replicate column_count (replicate coefficient_count (pos 0))

    block : BlockRight z.m blank
    block = (refl, all_replicate StorePolynomial column_count _ (refl, tt), every_drop is_zero_of z.m blank tt)

    zeros : T (every zero_block (replicate block_count blank))
    zeros = tt

-- ---- terms put into a row and taken out again

pub record TermsHeld (z : Sizes) (s₀ : ℤ) (c₀ : ℕ) (es : List Term) : Type 0 where
  pub right : RowRight z (row_of_terms z.l es).blocks
  pub clear : Clear (depth z.l s₀) c₀ (row_of_terms z.l es).blocks
  pub same : terms_from z.l (row_of_terms z.l es).blocks ≡ es

-- What is asked of one term, counted from block l and column 1.
record TermPlace (z : Sizes) (s₀ : ℤ) (c₀ : ℕ) (e : Term) : Type 0 where
  under : e.block ≤ℤ z.l
  inside : depth z.l e.block < block_count
  used : depth z.l e.block ≤ span z
  first : 1 ≤ e.column
  last : e.column ≤ z.m
  later : Before (depth z.l s₀) c₀ (depth z.l e.block) e.column

before-or : (i j k c : ℕ) → i ≤ k → j < c → Before i j k c
before-or i j k c h l = ⊎_elim (λ e. inr (e, l)) (λ i. inl i) (eq-or-lt_of_le h)

term-place : (z : Sizes) (s₀ : ℤ) (c₀ : ℕ) (e : Term) → SizeBounds z → s₀ ≤ℤ z.l → TermRight z s₀ c₀ e → TermPlace z s₀ c₀ e
unfolding span
term-place z s₀ c₀ e sizes h r =
    record {
      under = b.1;
      inside = block-place z e.block sizes b.0 b.1;
      used = depth-≤ b.0 b.1;
      first = pos-≤ℤ.0 c.0;
      last = pos-≤ℤ.0 c.1;
      later = go (lt_z e.block s₀) (lt_z (pos c₀) (pos e.column))
          (λ i. depth-< {r = e.block} (lt_z_yes i) h) (λ i. pos-<ℤ.0 (lt_z_yes i)) c.2;
    }
  where
    b : (z.t ≤ℤ e.block) × (e.block ≤ℤ z.l) × (e.block ≤ℤ s₀)
    b = (judge_block-iff z s₀ e.block).0 r.block-right

    c : (pos 1 ≤ℤ pos e.column) × (pos e.column ≤ℤ pos z.m) × T (lt_z e.block s₀ || lt_z (pos c₀) (pos e.column))
    c = (judge_column-iff z s₀ c₀ e.block (pos e.column)).0 r.column-right

    go : (s t : Bool) → (T s → depth z.l s₀ < depth z.l e.block) → (T t → c₀ < e.column) → T (s || t)
        → Before (depth z.l s₀) c₀ (depth z.l e.block) e.column
    go true t f g i = inl (f tt)
    go false true f g i = before-or _ _ _ _ (depth-≤ b.2 h) (g tt)
    go false false f g i = absurd i

suc-pred : (n : ℕ) → 1 ≤ n → suc (pred n) ≡ n
suc-pred n h = omega arith

row_of_terms-put : (l : ℤ) (e : Term) (es : List Term)
    → (row_of_terms l (e ∷ es)).blocks
    ≡ put_at (depth l e.block) (pred e.column) (pad_to coefficient_count (pos 0) e.polynomial) (row_of_terms l es).blocks
unfolding row_of_terms
row_of_terms-put l e es = refl

row_of_terms-none : (l : ℤ) → row_of_terms l [] ≡ blank_row
unfolding row_of_terms
row_of_terms-none l = refl

-- One more term in front.
module _ (z : Sizes) (s₀ : ℤ) (c₀ : ℕ) (e : Term) (es : List Term) (b : SizeBounds z) (a : TermPlace z s₀ c₀ e) (r : TermRight z s₀ c₀ e)
    (held : TermsHeld z e.block e.column es) where
  abbrev row : List Block
  row = (row_of_terms z.l es).blocks

  abbrev down : ℕ
  down = depth z.l e.block

  abbrev across : ℕ
  across = pred e.column

  abbrev padded : Polynomial
  padded = pad_to coefficient_count (pos 0) e.polynomial

  column-suc : suc across ≡ e.column
  column-suc = suc-pred e.column a.first

  rows_long : down < length row
  rows_long = rw held.right.count a.inside

  columns-long : across < length (get_or row down [])
  columns-long =
      rw ((all_get_or (BlockRight z.m) row [] down rows_long held.right.each).0, column-suc) (le_trans a.last b.few)

  put_right : RowRight z (put_at down across padded row)
  put_right =
      RowRight-put z row down across padded a.inside a.used (rw column-suc a.last)
      (length-pad_to coefficient_count (pos 0) e.polynomial, small-pad_to coefficient_count e.polynomial r.sound) held.right

  put-clear : Clear (depth z.l s₀) c₀ (put_at down across padded row)
  put-clear =
      Clear-put (depth z.l s₀) c₀ down across padded row (rw column-suc a.later) rows_long
      (Clear-weaken (depth z.l s₀) c₀ down e.column row a.later held.clear)

  put_same : terms_from z.l (put_at down across padded row) ≡ e ∷ es
  put_same =
      terms_from-put z.l down across padded row rows_long columns-long
      (pad_to-nonzero coefficient_count e.polynomial r.sound r.some r.few)
      (rw column-suc held.clear)
      ∙ ap₂ (λ s l. record { block = s; column = suc across; polynomial = trim padded } ∷ l) (depth-back a.under) held.same
      ∙ ap₂ (λ n q. record { block = e.block; column = n; polynomial = q } ∷ es) column-suc
      (trim-pad_to coefficient_count e.polynomial r.sound r.few)

  one_more : TermsHeld z s₀ c₀ (e ∷ es)
  one_more =
      record {
        right = rw (row_of_terms-put z.l e es) put_right;
        clear = rw (row_of_terms-put z.l e es) put-clear;
        same = rw (row_of_terms-put z.l e es) put_same;
      }

pub terms-held : (z : Sizes) (s₀ : ℤ) (c₀ : ℕ) (es : List Term) → SizeBounds z → s₀ ≤ℤ z.l → Ordered z s₀ c₀ es → TermsHeld z s₀ c₀ es
unfolding Ordered Clear Blank
terms-held z s₀ c₀ [] b h o =
    record {
      right = rw (row_of_terms-none z.l) (RowRight-blank z);
      clear = λ i j _. rw (row_of_terms-none z.l) (Blank-blank i j);
      same = rw (row_of_terms-none z.l) (terms_from-none z.l blank_row.blocks Blank-blank);
    }
terms-held z s₀ c₀ (e ∷ es) b h o =
    let a = term-place z s₀ c₀ e b h o.0 in
    one_more z s₀ c₀ e es b a o.0 (terms-held z e.block e.column es b a.under o.1)

-- ---- the terms of a row put into a row again

put_terms_of : ℤ → List Term → List Block → List Block
put_terms_of l [] bs = bs
put_terms_of l (e ∷ es) bs = put_at (depth l e.block) (pred e.column) (pad_to coefficient_count (pos 0) e.polynomial) (put_terms_of l es bs)

row_of_terms-append : (l : ℤ) (es more : List Term) → (row_of_terms l (es ++ more)).blocks ≡ put_terms_of l es (row_of_terms l more).blocks
unfolding put_terms_of
row_of_terms-append l [] more = refl
row_of_terms-append l (e ∷ es) more =
    row_of_terms-put l e (es ++ more)
    ∙ ap (put_at (depth l e.block) (pred e.column) (pad_to coefficient_count (pos 0) e.polynomial)) (row_of_terms-append l es more)

abbrev zeros : Polynomial
zeros = replicate coefficient_count (pos 0)

put_at-seam : (F : List Block) (G : Block) (q : Polynomial) (b : Block) (B : List Block) (p : Polynomial) (k c : ℕ)
    → length F ≡ k → length G ≡ c
    → put_at k c p (F ++ ((G ++ (q ∷ b)) ∷ B)) ≡ F ++ ((G ++ (p ∷ b)) ∷ B)
put_at-seam F G q b B p k c h i =
    ap (λ r. set (F ++ ((G ++ (q ∷ b)) ∷ B)) k (set r c p)) (get_or_at F (G ++ (q ∷ b)) B [] k h)
    ∙ ap (set (F ++ ((G ++ (q ∷ b)) ∷ B)) k) (set_at G q b p c i)
    ∙ set_at F (G ++ (q ∷ b)) B (G ++ (p ∷ b)) k h

zero-zeros : (p : Polynomial) → length p ≡ coefficient_count → T (is_zero_of p) → zeros ≡ p
unfolding pad_to
zero-zeros p h z = ap (pad_to coefficient_count (pos 0)) (sym (trim-none p z)) ∙ pad_to-trim coefficient_count p h

-- The terms of a block, from column j on, put into a row whose block of that number has zeros there.
module _ (l s : ℤ) (F B : List Block) (place : length F ≡ depth l s) where
  block-step : (G b : Block) (p : Polynomial) (bs : List Block) → length p ≡ coefficient_count
      → put_terms_of l (block_terms_of s (suc (suc (length G))) b) bs ≡ F ++ ((G ++ (zeros ∷ b)) ∷ B)
      → put_terms_of l (block_terms_of s (suc (length G)) (p ∷ b)) bs ≡ F ++ ((G ++ (p ∷ b)) ∷ B)
  unfolding put_terms_of
  block-step G b p bs h e =
      zero_or_not p
      (λ z. ap (λ es. put_terms_of l es bs) (block_terms-zero s (suc (length G)) p b z) ∙ e
      ∙ ap (λ q. F ++ ((G ++ (q ∷ b)) ∷ B)) (zero-zeros p h z))
      (λ n.
      ap (λ es. put_terms_of l es bs) (block_terms-nonzero s (suc (length G)) p b n)
      ∙ ap (put_at (depth l s) (length G) (pad_to coefficient_count (pos 0) (trim p))) e
      ∙ put_at-seam F G zeros b B (pad_to coefficient_count (pos 0) (trim p)) (depth l s) (length G) place refl
      ∙ ap (λ q. F ++ ((G ++ (q ∷ b)) ∷ B)) (pad_to-trim coefficient_count p h))

  put_terms-block : (b G : Block) → All (λ p. length p ≡ coefficient_count) b
      → put_terms_of l (block_terms_of s (suc (length G)) b) (F ++ ((G ++ replicate (length b) zeros) ∷ B)) ≡ F ++ ((G ++ b) ∷ B)
  unfolding All block_terms_of put_terms_of
  put_terms-block [] G a = refl
  put_terms-block (p ∷ b) G a =
      block-step G b p (F ++ ((G ++ replicate (length (p ∷ b)) zeros) ∷ B)) a.0
      (shift (put_terms-block b (G ++ (zeros ∷ [])) a.1))
    where
      shift : put_terms_of l (block_terms_of s (suc (length (G ++ (zeros ∷ [])))) b)
          (F ++ (((G ++ (zeros ∷ [])) ++ replicate (length b) zeros) ∷ B))
          ≡ F ++ (((G ++ (zeros ∷ [])) ++ b) ∷ B)
          → put_terms_of l (block_terms_of s (suc (suc (length G))) b) (F ++ ((G ++ (zeros ∷ replicate (length b) zeros)) ∷ B))
          ≡ F ++ ((G ++ (zeros ∷ b)) ∷ B)
      shift e = rw (append_assoc G (zeros ∷ []) (replicate (length b) zeros), append_assoc G (zeros ∷ []) b, length-append, add-one) at e

depth_below : (l : ℤ) (k : ℕ) → depth l (l -ℤ pos k) ≡ k
depth_below l k = ap nat_abs (sub-sub l (pos k))

-- The terms of the blocks from s down, k blocks being above s.
row-of-blocks : (l s : ℤ) (k : ℕ) (bs : List Block) → s ≡ l -ℤ pos k → k + length bs ≡ block_count → All StoreBlock bs
    → (row_of_terms l (terms_from s bs)).blocks ≡ replicate k (replicate column_count zeros) ++ bs
unfolding terms_from All blank_row
row-of-blocks l s k [] e h a =
    ap (λ r. r.blocks) (row_of_terms-none l) ∙ ap (λ n. replicate n (replicate column_count zeros)) count ∙ sym (append-nil _)
  where
    count : block_count ≡ k
    count = omega arith
row-of-blocks l s k (b ∷ bs) e h a =
    row_of_terms-append l (block_terms_of s 1 b) (terms_from (pred_ℤ s) bs)
    ∙ ap (put_terms_of l (block_terms_of s 1 b))
    (row-of-blocks l (pred_ℤ s) (suc k) bs next (omega arith) a.1 ∙ replicate-snoc k (replicate column_count zeros) bs ∙ wide)
    ∙ put_terms-block l s (replicate k (replicate column_count zeros)) bs place b [] a.0.1
  where
    next : pred_ℤ s ≡ l -ℤ pos (suc k)
    next = ap pred_ℤ e ∙ sym (pred_ℤ-+ℤ l (neg_ℤ (pos k))) ∙ below_next l k

    place : length (replicate k (replicate column_count zeros)) ≡ depth l s
    place = length-replicate k _ ∙ sym (ap (depth l) e ∙ depth_below l k)

    wide : replicate k (replicate column_count zeros) ++ (replicate column_count zeros ∷ bs)
        ≡ replicate k (replicate column_count zeros) ++ (replicate (length b) zeros ∷ bs)
    wide = ap (λ n. replicate k (replicate column_count zeros) ++ (replicate n zeros ∷ bs)) (sym a.0.0)

-- A row of terms has a zero right side.
unfoldable pub ZeroSide : Row → Type 0
ZeroSide r = r.right ≡ replicate coefficient_count (pos 0)

pub terms-side : (l : ℤ) (es : List Term) → ZeroSide (row_of_terms l es)
unfolding ZeroSide row_of_terms blank_row put_term_of
terms-side l [] = refl
terms-side l (e ∷ es) = terms-side l es

pub row-of-terms : (l : ℤ) (r : Row) → StoreRow r → ZeroSide r → row_of_terms l (terms_from l r.blocks) ≡ r
unfolding Shaped ZeroSide
row-of-terms l r h side = λ i. record { blocks = same i; right = (terms-side l (terms_from l r.blocks) ∙ sym side) i }
  where
    same : (row_of_terms l (terms_from l r.blocks)).blocks ≡ r.blocks
    same = row-of-blocks l l 0 r.blocks (sym (+ℤ_idr l)) (zero-add (length r.blocks) ∙ h.0) h.1
