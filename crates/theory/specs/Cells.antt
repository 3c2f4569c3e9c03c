-- The polynomials of a row by place: the block, counted down from block l, and the column; widths and unused places.
--
-- Main definitions
--   cell r i c                 the polynomial at block l - i and column c
--   ZeroFrom n r               every cell of r from place n on is zero
--   ZeroWhere r q              every cell that is zero in r is zero in q
--   total_of f rows             the sum of f over the rows
--   total_width rows, shifts_of r   the sum of the widths; the shifts that a row has before it
--
-- Main statements
--   zero_block-all, zero_block-at, zero_block-past   a block is zero exactly if its polynomials are
--   blank-zero, blank-same     a blank block is zero, and a zero block its own blank
--   cell-map_row, map_row-zero   the cells of a row with f applied to each polynomial
--   append-zero                a zero block behind the others changes no cell from zero to nonzero or back
--   width-le                   the width is at most n exactly if every cell from place n on is zero
--   width-no-wider             a row that is zero wherever another is, is no wider
--   width-moved                a row whose cells are those of another one block lower is one block wider
--   zero_left-width, zero_row-width, width_positive, cell-within   zero rows, nonzero rows and nonzero cells by the width
--   total_of-set, total_of-bound   such a sum with one row replaced, and its bound
--   unused_zero-iff, unused-cells, unused-kept   positions outside the system's blocks and columns by place
--   width-unused, width-mirror_row   unused blocks are zero, also after the mirror
use Prim.Native.Nat.{ℕ, zero, suc, ◌+◌, ◌*◌, ◌-◌, ◌≤◌, ◌<◌, zero-le}
use Rattle.std.specs.Prelude.{◌≡◌, refl, ◌⊎◌, ◌↔◌, Bool, not, ◌&&◌, cond, eqb, pos, get_or, set, take, drop}
use Rattle.std.proofs.Common.{sym, ◌∙◌, ap, ap₂, subst, inl, inr, not-suc-le-zero, le_refl, add-sub_of_le, suc-mul, T_not, get_or-drop, get_or-append-add, length-take-le}
use Rattle.std.proofs.Math.Bool.{true, false}
use mathlib.Core.List.{List, [], ◌∷◌, ◌++◌, map, reverse}
use Rattle.std.proofs.Math.Nat.{suc-le-suc_iff}
use Rattle.std.proofs.Math.Decide.{dec_le}
use native.Mathlib.Omega.{arith}
use Rattle.std.proofs.Math.Dec.{T, eqb→eq, eqb-suc-zero}
use Rattle.std.specs.Float.Ieee.Fits.{and_i, and_l, and_r}
use Rattle.std.proofs.Math.ListN.{length, get_or-map, get_or-eq_default}
use Rattle.std.proofs.lemmas.List.{length-reverse}
use Rattle.std.proofs.Math.Seq.{length_front}
use Rattle.algebra.specs.Polynomials.{Polynomial, is_zero_of, mirror, is_zero-mirror, is_zero-cons}
use Rattle.lists.specs.Tests.{T-&&, true_of, every, all-of-every, every-of-all}
use Rattle.rules.specs.Rows.{Block, Row, no_row, map_row, zero_block, zero_row, width_of, width, entry, blank, mirror_row_of, zero_left}
use Rattle.lists.specs.Everywhere.{All, all-mono, all-get_or-default, get_or-all}
use Rattle.lists.specs.Images.{map_same}
use Rattle.rules.specs.Stores.{unused_zero_of}

-- ---- zero blocks

-- A list of zero polynomials is a zero block.
pub zero_block-all : (b : Block) → ((k : ℕ) → T (is_zero_of (get_or b k []))) → T (zero_block b)
unfolding zero_block
zero_block-all [] h = tt
zero_block-all (p ∷ ps) h = and_i (is_zero_of p) (every is_zero_of ps) (h 0) (zero_block-all ps (λ k. h (suc k)))

pub zero_block-at : (b : Block) → T (zero_block b) → (k : ℕ) → T (is_zero_of (get_or b k []))
unfolding zero_block is_zero_of
zero_block-at [] h k = tt
zero_block-at (p ∷ ps) h zero = and_l (is_zero_of p) (every is_zero_of ps) h
zero_block-at (p ∷ ps) h (suc k) = zero_block-at ps (and_r (is_zero_of p) (every is_zero_of ps) h) k

-- A block that is zero from column m on.
pub zero_block-past : (m : ℕ) (b : Block) → T (zero_block (drop m b)) ↔ ((c : ℕ) → m ≤ c → T (is_zero_of (get_or b c [])))
zero_block-past m b = (
  λ z c h. subst (λ p. T (is_zero_of p)) (get_or-drop m b (c - m) [] ∙ ap (λ i. get_or b i []) (add-sub_of_le h))
      (zero_block-at (drop m b) z (c - m)),
  λ z. zero_block-all (drop m b) (λ k. rw (get_or-drop m b k []) (z (m + k) (omega arith))),
)

zero-polynomial : (p : Polynomial) → T (is_zero_of (map (λ _. pos 0) p))
unfolding is_zero_of
zero-polynomial [] = tt
zero-polynomial (a ∷ p) = zero-polynomial p

pub blank-zero : (b : Block) → T (zero_block (blank b))
unfolding zero_block blank
blank-zero [] = tt
blank-zero (p ∷ b) = (T-&& (is_zero_of (map (λ _. pos 0) p)) (every is_zero_of (map (map (λ _. pos 0)) b))).1 (zero-polynomial p, blank-zero b)

-- A zero block is its own blank.
pub blank-same : (b : Block) → T (zero_block b) → blank b ≡ b
unfolding zero_block blank
blank-same b z = map_same (map (λ _. pos 0)) b
    (all-mono (λ p. T (is_zero_of p)) (λ p. map (λ _. pos 0) p ≡ p) zeros b (all-of-every is_zero_of b z))
  where
    zeros : (p : Polynomial) → T (is_zero_of p) → map (λ _. pos 0) p ≡ p
    zeros [] h = refl
    zeros (a ∷ p) h = let e = (is_zero-cons a p).0 h in ap₂ ◌∷◌ (sym e.0) (zeros p e.1)

-- ---- cells

abbrev cell_of : List Block → ℕ → ℕ → Polynomial
cell_of bs i c = get_or (get_or bs i []) c []

abbrev pub cell : Row → ℕ → ℕ → Polynomial
cell r i c = get_or (get_or r.blocks i []) c []

abbrev pub ZeroFrom : ℕ → Row → Type 0
ZeroFrom n r = (i c : ℕ) → n ≤ i → T (is_zero_of (cell r i c))

abbrev pub ZeroWhere : Row → Row → Type 0
ZeroWhere r q = (i c : ℕ) → T (is_zero_of (cell r i c)) → T (is_zero_of (cell q i c))

pub entry-cell : (r : Row) (c : ℕ) → entry r c ≡ cell r 0 c
unfolding entry
entry-cell r c = refl

pub cell-map_row : (f : Polynomial → Polynomial) → f [] ≡ [] → (r : Row) (i c : ℕ) → cell (map_row f r) i c ≡ f (cell r i c)
unfolding map_row
cell-map_row f e r i c =
    ap (λ b. get_or b c []) (get_or-map (map f) r.blocks i []) ∙ ap (get_or (map f (get_or r.blocks i [])) c) (sym e)
    ∙ get_or-map f (get_or r.blocks i []) c []

-- What makes zero polynomials of zero polynomials keeps the zero cells.
pub map_row-zero : (f : Polynomial → Polynomial) → f [] ≡ [] → ((p : Polynomial) → T (is_zero_of p) → T (is_zero_of (f p)))
    → (r : Row) → ZeroWhere r (map_row f r)
map_row-zero f e keep r i c h = rw (cell-map_row f e r i c) (keep (cell r i c) h)

-- A zero block behind the others changes no cell from zero to nonzero or back.
pub append-zero : (bs : List Block) (z : Block) → T (zero_block z) → (i c : ℕ) → is_zero_of (cell_of (bs ++ (z ∷ [])) i c)
    ≡ is_zero_of (cell_of bs i c)
unfolding is_zero_of
append-zero [] z h zero c = true_of (is_zero_of (get_or z c [])) (zero_block-at z h c)
append-zero [] z h (suc i) c = refl
append-zero (b ∷ bs) z h zero c = refl
append-zero (b ∷ bs) z h (suc i) c = append-zero bs z h i c

-- ---- the width

module _ (b : Block) (bs : List Block) where
  width_of-cons : (n : ℕ) → (width_of (b ∷ bs) ≤ suc n) ↔ (width_of bs ≤ n)
  unfolding width_of
  width_of-cons n = go (eqb (width_of bs) 0 && zero_block b) (λ h. eqb→eq (width_of bs) 0 (and_l (eqb (width_of bs) 0) (zero_block b) h))
    where
      go : (t : Bool) → (T t → width_of bs ≡ 0) → (cond t 0 (suc (width_of bs)) ≤ suc n) ↔ (width_of bs ≤ n)
      go true h = let e : width_of bs ≡ 0 = h tt in (λ k. omega arith, λ k. omega arith)
      go false h = suc-le-suc_iff

  width_of-none : (width_of (b ∷ bs) ≤ 0) ↔ ((width_of bs ≤ 0) × T (zero_block b))
  unfolding width_of
  width_of-none = go (width_of bs) (zero_block b)
    where
      go : (w : ℕ) (z : Bool) → (cond (eqb w 0 && z) 0 (suc w) ≤ 0) ↔ ((w ≤ 0) × T z)
      go zero true = (λ h. (zero-le, tt), λ h. zero-le)
      go zero false = (λ h. absurd (not-suc-le-zero h), λ h. absurd h.1)
      go (suc w) z = rw (eqb-suc-zero w) (λ h. absurd (not-suc-le-zero h), λ h. absurd (not-suc-le-zero h.0))

width-cells : (bs : List Block) (n : ℕ) → (width_of bs ≤ n) ↔ ((i c : ℕ) → n ≤ i → T (is_zero_of (cell_of bs i c)))
unfolding is_zero_of width_of
width-cells [] n = (λ h i c k. tt, λ h. zero-le)
width-cells (b ∷ bs) zero = (forth (width-cells bs 0).0, back (width-cells bs 0).1)
  where
    forth : (width_of bs ≤ 0 → (i c : ℕ) → 0 ≤ i → T (is_zero_of (cell_of bs i c))) → width_of (b ∷ bs) ≤ 0
        → (i c : ℕ) → 0 ≤ i → T (is_zero_of (cell_of (b ∷ bs) i c))
    forth rec h zero c k = zero_block-at b ((width_of-none b bs).0 h).1 c
    forth rec h (suc i) c k = rec ((width_of-none b bs).0 h).0 i c zero-le

    back : (((i c : ℕ) → 0 ≤ i → T (is_zero_of (cell_of bs i c))) → width_of bs ≤ 0) → ((i c : ℕ) → 0 ≤ i → T (is_zero_of (cell_of (b ∷ bs) i c)))
        → width_of (b ∷ bs) ≤ 0
    back rec h = (width_of-none b bs).1 (rec (λ i c k. h (suc i) c zero-le), zero_block-all b (λ c. h 0 c zero-le))
width-cells (b ∷ bs) (suc n) = (forth (width-cells bs n).0, back (width-cells bs n).1)
  where
    forth : (width_of bs ≤ n → (i c : ℕ) → n ≤ i → T (is_zero_of (cell_of bs i c))) → width_of (b ∷ bs) ≤ suc n
        → (i c : ℕ) → suc n ≤ i → T (is_zero_of (cell_of (b ∷ bs) i c))
    forth rec h zero c k = absurd (not-suc-le-zero k)
    forth rec h (suc i) c k = rec ((width_of-cons b bs n).0 h) i c (suc-le-suc_iff.0 k)

    back : (((i c : ℕ) → n ≤ i → T (is_zero_of (cell_of bs i c))) → width_of bs ≤ n) → ((i c : ℕ) → suc n ≤ i → T (is_zero_of (cell_of (b ∷ bs) i c)))
        → width_of (b ∷ bs) ≤ suc n
    back rec h = (width_of-cons b bs n).1 (rec (λ i c k. h (suc i) c (suc-le-suc_iff.1 k)))

pub width-le : (r : Row) (n : ℕ) → (width r ≤ n) ↔ ZeroFrom n r
unfolding width
width-le r n = width-cells r.blocks n

pub width-le-length : (r : Row) → width r ≤ length r.blocks
unfolding is_zero_of
width-le-length r = (width-le r (length r.blocks)).1 (λ i c h. rw (get_or-eq_default r.blocks [] h) tt)

-- A row that is zero wherever q is zero is no wider than q.
pub width-no-wider : (r q : Row) → ZeroWhere q r → width r ≤ width q
width-no-wider r q h = (width-le r (width q)).1 (λ i c k. h i c ((width-le q (width q)).0 (le_refl (width q)) i c k))

-- A row whose cells are those of q, one block lower, with anything at the top.
module _ (r q : Row) (lower : (i c : ℕ) → is_zero_of (cell r (suc i) c) ≡ is_zero_of (cell q i c)) where
  pub width-moved-le : width q ≤ width r
  width-moved-le = (width-le q (width r)).1
      (λ i c k. subst T (lower i c) ((width-le r (width r)).0 (le_refl (width r)) (suc i) c (omega arith)))

  pub width-moved : 0 < width r → width r ≡ suc (width q)
  width-moved positive = omega (arith, falls (width r - 1) (omega arith), rises)
    where
      rises : width r ≤ suc (width q)
      rises = (width-le r (suc (width q))).1 kept
        where
          kept : ZeroFrom (suc (width q)) r
          kept zero c k = absurd (not-suc-le-zero k)
          kept (suc i) c k = subst T (sym (lower i c)) ((width-le q (width q)).0 (le_refl (width q)) i c (suc-le-suc_iff.0 k))

      falls : (n : ℕ) → width r ≤ suc n → width q ≤ n
      falls n h = (width-le q n).1 (λ i c k. subst T (lower i c) ((width-le r (suc n)).0 h (suc i) c (suc-le-suc_iff.1 k)))

-- ---- nonzero rows

zero-blocks : (bs : List Block) → T (every zero_block bs) ↔ (width_of bs ≤ 0)
unfolding every width_of
zero-blocks [] = (λ h. zero-le, λ h. tt)
zero-blocks (b ∷ bs) = both (zero-blocks bs)
  where
    both : T (every zero_block bs) ↔ (width_of bs ≤ 0) → T (zero_block b && every zero_block bs) ↔ (width_of (b ∷ bs) ≤ 0)
    both rec = (
      λ h. (width_of-none b bs).1 (rec.0 (and_r (zero_block b) (every zero_block bs) h), and_l (zero_block b) (every zero_block bs) h),
      λ h. let none = (width_of-none b bs).0 h in and_i (zero_block b) (every zero_block bs) none.1 (rec.1 none.0),
    )

-- The left part is zero exactly if the width is 0 (SCOPE 2.1).
pub zero_left-width : (r : Row) → T (zero_left r) ↔ (width r ≤ 0)
unfolding zero_left width
zero_left-width r = zero-blocks r.blocks

-- A zero row has width 0.
pub zero_row-width : (r : Row) → T (zero_row r) → width r ≤ 0
unfolding zero_row
zero_row-width r h = (zero_left-width r).0 (and_l (zero_left r) (is_zero_of r.right) h)

pub width_positive : (r : Row) → T (not (zero_left r)) → 0 < width r
width_positive r h = not-le (λ k. T_not (zero_left r) h ((zero_left-width r).1 k))
  where
    not-le : ¬ (width r ≤ 0) → 0 < width r
    not-le n = omega arith

-- A nonzero cell stands within the width.
pub cell-within : (r : Row) (i c : ℕ) → T (not (is_zero_of (cell r i c))) → i < width r
cell-within r i c h = not-le (λ k. T_not (is_zero_of (cell r i c)) h ((width-le r i).0 k i c (le_refl i)))
  where
    not-le : ¬ (width r ≤ i) → i < width r
    not-le n = omega arith

-- ---- a number of each row, added up over a list of rows

unfoldable pub total_of : (Row → ℕ) → List Row → ℕ
total_of f [] = 0
total_of f (r ∷ l) = f r + total_of f l

abbrev pub total_width : List Row → ℕ
total_width l = total_of width l

-- A row of width w can be shifted up w - 1 times before a nonzero block stands first (SCOPE 2.65).
abbrev pub shifts_of : Row → ℕ
shifts_of r = width r - 1

module _ (f : Row → ℕ) where
  -- One row put in the place of another.
  pub total_of-set : (l : List Row) (i : ℕ) (r : Row) → i < length l → total_of f (set l i r) + f (get_or l i no_row) ≡ total_of f l + f r
  unfolding total_of
  total_of-set [] i r h = absurd (not-suc-le-zero h)
  total_of-set (q ∷ l) zero r h = omega arith
  total_of-set (q ∷ l) (suc i) r h = step (total_of-set l i r (suc-le-suc_iff.0 h))
    where
      step : total_of f (set l i r) + f (get_or l i no_row) ≡ total_of f l + f r
          → f q + total_of f (set l i r) + f (get_or l i no_row) ≡ f q + total_of f l + f r
      step e = omega arith

  pub total_of-bound : (b : ℕ) (l : List Row) → All (λ r. f r ≤ b) l → total_of f l ≤ length l * b
  unfolding total_of All
  total_of-bound b [] h = zero-le
  total_of-bound b (r ∷ l) h = step (f r) h.0 (total_of-bound b l h.1)
    where
      step : (w : ℕ) {t : ℕ} → w ≤ b → t ≤ length l * b → w + t ≤ suc (length l) * b
      step w u v = rw (suc-mul (length l) b) (omega arith)

-- ---- the blocks and columns in use

-- What is unused is zero (SCOPE 3.3).
pub unused_zero-iff : (m D : ℕ) (r : Row)
    → T (unused_zero_of m D r) ↔ (All (λ b. T (zero_block (drop m b))) r.blocks × All (λ b. T (zero_block b)) (drop (suc D) r.blocks))
unfolding unused_zero_of
unused_zero-iff m D r = (forth, back)
  where
    columns : Bool
    columns = every (λ b. zero_block (drop m b)) r.blocks

    blocks : Bool
    blocks = every zero_block (drop (suc D) r.blocks)

    forth : T (columns && blocks) → All (λ b. T (zero_block (drop m b))) r.blocks × All (λ b. T (zero_block b)) (drop (suc D) r.blocks)
    forth h =
        let both = (T-&& columns blocks).0 h in
        (all-of-every (λ b. zero_block (drop m b)) r.blocks both.0, all-of-every zero_block (drop (suc D) r.blocks) both.1)

    back : All (λ b. T (zero_block (drop m b))) r.blocks × All (λ b. T (zero_block b)) (drop (suc D) r.blocks) → T (columns && blocks)
    back h = (T-&& columns blocks).1
        (every-of-all (λ b. zero_block (drop m b)) r.blocks h.0, every-of-all zero_block (drop (suc D) r.blocks) h.1)

-- The same by place.
pub unused-cells : (m D : ℕ) (r : Row) → T (unused_zero_of m D r) ↔ ((i c : ℕ) → (m ≤ c) ⊎ (suc D ≤ i) → T (is_zero_of (cell r i c)))
unfolding is_zero_of zero_block
unused-cells m D r = (λ u. forth ((unused_zero-iff m D r).0 u), λ z. (unused_zero-iff m D r).1 (columns z, blocks z))
  where
    forth : All (λ b. T (zero_block (drop m b))) r.blocks × All (λ b. T (zero_block b)) (drop (suc D) r.blocks)
        → (i c : ℕ) → (m ≤ c) ⊎ (suc D ≤ i) → T (is_zero_of (cell r i c))
    forth u i c (inl h) = (zero_block-past m (get_or r.blocks i [])).0
        (all-get_or-default (λ b. T (zero_block (drop m b))) r.blocks [] i ((zero_block-past m []).1 (λ c h. tt)) u.0) c h
    forth u i c (inr h) = zero_block-at (get_or r.blocks i []) (subst (λ b. T (zero_block b)) place
        (all-get_or-default (λ b. T (zero_block b)) (drop (suc D) r.blocks) [] (i - suc D) tt u.1)) c
      where
        place : get_or (drop (suc D) r.blocks) (i - suc D) [] ≡ get_or r.blocks i []
        place = get_or-drop (suc D) r.blocks (i - suc D) [] ∙ ap (λ n. get_or r.blocks n []) (add-sub_of_le h)

    columns : ((i c : ℕ) → (m ≤ c) ⊎ (suc D ≤ i) → T (is_zero_of (cell r i c))) → All (λ b. T (zero_block (drop m b))) r.blocks
    columns z = get_or-all (λ b. T (zero_block (drop m b))) r.blocks []
        (λ i k. (zero_block-past m (get_or r.blocks i [])).1 (λ c h. z i c (inl h)))

    blocks : ((i c : ℕ) → (m ≤ c) ⊎ (suc D ≤ i) → T (is_zero_of (cell r i c))) → All (λ b. T (zero_block b)) (drop (suc D) r.blocks)
    blocks z = get_or-all (λ b. T (zero_block b)) (drop (suc D) r.blocks) []
        (λ i k. rw (get_or-drop (suc D) r.blocks i [])
        (zero_block-all (get_or r.blocks (suc D + i) []) (λ c. z (suc D + i) c (inr (omega arith)))))

-- A row that is zero wherever another is, has its unused places zero where the other has.
pub unused-kept : (m D : ℕ) (r q : Row) → ZeroWhere r q → T (unused_zero_of m D r) → T (unused_zero_of m D q)
unused-kept m D r q kept u = (unused-cells m D q).1 (λ i c h. kept i c ((unused-cells m D r).0 u i c h))

pub width-unused : (m D : ℕ) (r : Row) → T (unused_zero_of m D r) → width r ≤ suc D
width-unused m D r u = (width-le r (suc D)).1 (λ i c h. (unused-cells m D r).0 u i c (inr h))

-- Turned round in its first n members, a list is as before from place n on.
turned-rest : (n : ℕ) (bs : List Block) (i : ℕ) → n ≤ i → get_or (reverse (take n bs) ++ drop n bs) i [] ≡ get_or bs i []
turned-rest n bs i h = cases (dec_le n (length bs))
  where
    front : List Block
    front = reverse (take n bs)

    size : length (front ++ drop n bs) ≡ length bs
    size = length_front bs front n (length-reverse (take n bs))

    cases : Dec (n ≤ length bs) → get_or (front ++ drop n bs) i [] ≡ get_or bs i []
    cases (yes k) =
        ap (λ p. get_or (front ++ drop n bs) p [])
        (sym (ap (λ a. a + (i - n)) (length-reverse (take n bs) ∙ length-take-le n bs k) ∙ add-sub_of_le h))
        ∙ get_or-append-add front (drop n bs) (i - n) [] ∙ get_or-drop n bs (i - n) [] ∙ ap (λ p. get_or bs p []) (add-sub_of_le h)
    cases (no k) = get_or-eq_default (front ++ drop n bs) [] (omega (arith, size)) ∙ sym (get_or-eq_default bs [] (omega arith))

-- The mirror moves only the blocks in use.
pub width-mirror_row : (D : ℕ) (r : Row) → width r ≤ suc D → width (mirror_row_of D r) ≤ suc D
unfolding mirror_row_of mirror
width-mirror_row D r h = (width-le (mirror_row_of D r) (suc D)).1 kept
  where
    turned : Row
    turned = record { blocks = reverse (take (suc D) r.blocks) ++ drop (suc D) r.blocks; right = r.right }

    kept : ZeroFrom (suc D) (map_row mirror turned)
    kept i c k = rw (cell-map_row mirror refl turned i c, is_zero-mirror (cell turned i c))
        (subst (λ b. T (is_zero_of (get_or b c []))) (sym (turned-rest (suc D) r.blocks i k)) ((width-le r (suc D)).0 h i c k))
