-- The terms of a row, as they stand in a sheet.
--
-- Main statements
--   row-ordered     the terms of a row of the system are in a sheet's order, in range, and sound
--   row_count       they are at most m × (D + 1)
use Prim.Native.Nat.{ℕ, zero, suc, ◌*◌, ◌-◌, ◌≤◌, ◌<◌, zero-le, suc-le-suc}
use Rattle.std.proofs.Common.{le_refl, le_trans, le_of_eq, mul-suc, arith, sym, ◌∙◌, ap, T_not, ltb→lt, lt→ltb, length-append}
use Rattle.std.specs.Prelude.{◌≡◌, ◌||◌, not, T, ltb, get_or, drop, ℤ, pos, ◌+ℤ◌, ◌-ℤ◌, ◌≤ℤ◌, ◌<ℤ◌}
use Rattle.std.proofs.Math.Path.{subst}
use mathlib.Core.List.{List, [], ◌∷◌, ◌++◌}
use Rattle.std.proofs.Math.ListN.{length}
use Rattle.std.proofs.Math.IntN.{suc_ℤ, pred_ℤ, suc-pred, pred-suc, +ℤ-suc_ℤ, +ℤ_comm, -ℤ-+ℤ_cancel}
use Rattle.std.specs.Int.Signed.{lt_z, ≤ℤ_refl}
use Rattle.algebra.specs.Order.{≤ℤ-trans, ≤ℤ-intro, pos-≤ℤ, <ℤ-suc_ℤ, <ℤ-to-≤ℤ, ≤ℤ-difference, pos-nat_abs-nonneg}
use Rattle.algebra.specs.Polynomials.{Polynomial, is_zero_of}
use Rattle.rules.specs.Rows.{Block, zero_block}
use Rattle.lists.specs.Everywhere.{All}
use Rattle.lists.specs.Tests.{every, every-get_or, every-cons, T-or-left, or_right, or-imply}
use Rattle.rules.specs.Stores.{Sizes, span}
use Rattle.rules.specs.Layout.{SizeBounds}
use Rattle.rules.specs.Sheets.{Term, trim, block_terms_of, terms_from}
use Rattle.writing.specs.Writer.{trim-le}
use Rattle.sheets.specs.WrittenTerms.{TermRight, Ordered, judge_block-iff, judge_column-iff}
use Rattle.sheets.specs.Trimmed.{zero_or_not, trim-some, Sound-trim}
use Rattle.sheets.specs.RowBlocks.{StorePolynomial, BlockRight, RowRight}
use Rattle.sheets.specs.RowTerms.{block_terms-zero, block_terms-nonzero, Blank, terms_from-none}

-- ---- zero blocks have no terms

zero-blocks : (bs : List Block) → T (every zero_block bs) → Blank bs
unfolding Blank zero_block is_zero_of every
zero-blocks bs h i j = every-get_or is_zero_of (get_or bs i []) [] tt (every-get_or zero_block bs [] tt h i) j

-- ---- one block

-- Column c of block s may stand after column c₀ of block s₀.
After : ℤ → ℕ → ℤ → ℕ → Type 0
After s₀ c₀ s c = (s ≤ℤ s₀) × T (lt_z s s₀ || lt_z (pos c₀) (pos c))

After-next : (s₀ : ℤ) (c₀ : ℕ) (s : ℤ) (c : ℕ) → After s₀ c₀ s c → After s₀ c₀ s (suc c)
unfolding After
After-next s₀ c₀ s c h = (h.0, or-imply (lt_z s s₀) (ltb c₀ c) (ltb c₀ (suc c)) (λ i. lt→ltb c₀ (suc c) (further (ltb→lt c₀ c i))) h.1)
  where
    further : c₀ < c → c₀ < suc c
    further i = omega arith

After-same : (s : ℤ) (c : ℕ) → After s c s (suc c)
unfolding After
After-same s c = (≤ℤ_refl s, or_right (lt_z s s) (ltb c (suc c)) (lt→ltb c (suc c) (le_refl (suc c))))

module _ (z : Sizes) (s : ℤ) (low : z.t ≤ℤ s) (high : s ≤ℤ z.l) (es : List Term)
    (free : (s₀ : ℤ) (c₀ : ℕ) → s ≤ℤ s₀ → Ordered z s₀ c₀ es) where
  block-term : (s₀ : ℤ) (c₀ c : ℕ) (p : Polynomial) → After s₀ c₀ s c → 1 ≤ c → c ≤ z.m → StorePolynomial p → T (not (is_zero_of p))
      → TermRight z s₀ c₀ (record { block = s; column = c; polynomial = trim p })
  unfolding After
  block-term s₀ c₀ c p a i j h n =
      record {
        block-right = (judge_block-iff z s₀ s).1 (low, high, a.0);
        column-right = (judge_column-iff z s₀ c₀ s (pos c)).1 (pos-≤ℤ.1 i, pos-≤ℤ.1 j, a.1);
        some = trim-some p n;
        few = subst (λ k. length (trim p) ≤ k) h.0 (trim-le p);
        sound = Sound-trim p h.1;
      }

  -- One polynomial and then the others of its block.
  block-step : (b : Block) (p : Polynomial) (s₀ : ℤ) (c₀ c : ℕ) → After s₀ c₀ s c → 1 ≤ c
      → (T (not (is_zero_of p)) → c ≤ z.m) → StorePolynomial p
      → ((s₁ : ℤ) (c₁ : ℕ) → After s₁ c₁ s (suc c) → Ordered z s₁ c₁ (block_terms_of s (suc c) b ++ es))
      → Ordered z s₀ c₀ (block_terms_of s c (p ∷ b) ++ es)
  unfolding Ordered
  block-step b p s₀ c₀ c a i j h rest =
      zero_or_not p (λ y. rw (block_terms-zero s c p b y) (rest s₀ c₀ (After-next s₀ c₀ s c a)))
      (λ n. rw (block_terms-nonzero s c p b n) (block-term s₀ c₀ c p a i (j n) h n, rest s c (After-same s c)))

  -- n columns from c on may be nonzero.
  block-ordered : (b : Block) (n c : ℕ) (s₀ : ℤ) (c₀ : ℕ) → n ≡ suc z.m - c → After s₀ c₀ s c → 1 ≤ c → All StorePolynomial b
      → T (zero_block (drop n b)) → Ordered z s₀ c₀ (block_terms_of s c b ++ es)
  unfolding All After block_terms_of zero_block
  block-ordered [] n c s₀ c₀ e a i h y = free s₀ c₀ a.0
  block-ordered (p ∷ b) zero c s₀ c₀ e a i h y =
      let f = (every-cons is_zero_of p b).0 y in
      block-step b p s₀ c₀ c a i (λ n. absurd (T_not (is_zero_of p) n f.0)) h.0
      (λ s₁ c₁ a₁. block-ordered b zero (suc c) s₁ c₁ (omega arith) a₁ (suc-le-suc zero-le) h.1 f.1)
  block-ordered (p ∷ b) (suc n) c s₀ c₀ e a i h y =
      block-step b p s₀ c₀ c a i (λ _. omega arith) h.0
      (λ s₁ c₁ a₁. block-ordered b n (suc c) s₁ c₁ (omega arith) a₁ (suc-le-suc zero-le) h.1 y)

-- ---- all blocks

pred-below : {s r : ℤ} → s ≤ℤ r → pred_ℤ s <ℤ r
pred-below {s} {r} h = <ℤ-suc_ℤ.1 (rw suc-pred h)

-- n blocks from s down may be nonzero.
blocks-ordered : (z : Sizes) (bs : List Block) (n : ℕ) (s : ℤ) (s₀ : ℤ) (c₀ : ℕ) → z.t +ℤ pos n ≡ suc_ℤ s → s ≤ℤ z.l → After s₀ c₀ s 1
    → All (BlockRight z.m) bs → T (every zero_block (drop n bs)) → Ordered z s₀ c₀ (terms_from s bs)
unfolding All After Ordered terms_from
blocks-ordered z [] n s s₀ c₀ e high a h y = tt
blocks-ordered z (b ∷ bs) zero s s₀ c₀ e high a h y = rw (terms_from-none s (b ∷ bs) (zero-blocks (b ∷ bs) y)) tt
blocks-ordered z (b ∷ bs) (suc n) s s₀ c₀ e high a h y =
    block-ordered z s (≤ℤ-intro n low) high (terms_from (pred_ℤ s) bs)
    (λ s₁ c₁ i.
    blocks-ordered z bs n (pred_ℤ s) s₁ c₁ (low ∙ sym (suc-pred s)) (≤ℤ-trans (<ℤ-to-≤ℤ (pred-below (≤ℤ_refl s))) high) (after s₁ c₁ i)
    h.1 y)
    b z.m 1 s₀ c₀ (omega arith) a (le_refl 1) h.0.1 h.0.2
  where
    low : z.t +ℤ pos n ≡ s
    low = sym (pred-suc (z.t +ℤ pos n)) ∙ ap pred_ℤ (sym (+ℤ-suc_ℤ z.t (pos n)) ∙ e) ∙ pred-suc s

    after : (s₁ : ℤ) (c₁ : ℕ) → s ≤ℤ s₁ → After s₁ c₁ (pred_ℤ s) 1
    after s₁ c₁ i = (<ℤ-to-≤ℤ (pred-below i), T-or-left (lt_z (pred_ℤ s) s₁) _ (pred-below i).lt)

pub row-ordered : (z : Sizes) (bs : List Block) → SizeBounds z → RowRight z bs → Ordered z z.l 0 (terms_from z.l bs)
unfolding span After
row-ordered z bs b r = blocks-ordered z bs (suc (span z)) z.l z.l 0 count (≤ℤ_refl z.l) (After-same z.l 0) r.each r.below
  where
    count : z.t +ℤ pos (suc (span z)) ≡ suc_ℤ z.l
    count =
        +ℤ-suc_ℤ z.t (pos (span z))
        ∙ ap suc_ℤ (ap (λ d. z.t +ℤ d) (pos-nat_abs-nonneg (≤ℤ-difference.0 b.ordered))
        ∙ +ℤ_comm z.t (z.l -ℤ z.t) ∙ -ℤ-+ℤ_cancel z.l z.t)

-- ---- the number of terms

block-count-zero : (s : ℤ) (c n : ℕ) (p : Polynomial) (b : Block) → T (is_zero_of p) → length (block_terms_of s (suc c) b) ≤ n
    → length (block_terms_of s c (p ∷ b)) ≤ n
block-count-zero s c n p b y h = rw (block_terms-zero s c p b y) h

block-count-suc : (s : ℤ) (c n : ℕ) (p : Polynomial) (b : Block) → length (block_terms_of s (suc c) b) ≤ n
    → length (block_terms_of s c (p ∷ b)) ≤ suc n
block-count-suc s c n p b h =
    zero_or_not p (λ y. block-count-zero s c (suc n) p b y (omega arith)) (λ y. rw (block_terms-nonzero s c p b y) (suc-le-suc h))

block-count : (b : Block) (s : ℤ) (c n : ℕ) → T (zero_block (drop n b)) → length (block_terms_of s c b) ≤ n
unfolding block_terms_of zero_block
block-count [] s c n h = zero-le
block-count (p ∷ b) s c zero h =
    let f = (every-cons is_zero_of p b).0 h in block-count-zero s c zero p b f.0 (block-count b s (suc c) zero f.1)
block-count (p ∷ b) s c (suc n) h = block-count-suc s c n p b (block-count b s (suc c) n h)

blocks-count : (m : ℕ) (bs : List Block) (s : ℤ) (n : ℕ) → All (BlockRight m) bs → T (every zero_block (drop n bs))
    → length (terms_from s bs) ≤ m * n
unfolding terms_from All
blocks-count m [] s n h y = zero-le
blocks-count m (b ∷ bs) s zero h y = rw (terms_from-none s (b ∷ bs) (zero-blocks (b ∷ bs) y)) zero-le
blocks-count m (b ∷ bs) s (suc n) h y =
    le_trans (le_of_eq (length-append (block_terms_of s 1 b) (terms_from (pred_ℤ s) bs)))
    (omega (arith, block-count b s 1 m h.0.2, blocks-count m bs (pred_ℤ s) n h.1 y, mul-suc m n))

pub row_count : (z : Sizes) (bs : List Block) → RowRight z bs → length (terms_from z.l bs) ≤ z.m * suc (span z)
row_count z bs r = blocks-count z.m bs z.l (suc (span z)) r.each r.below
