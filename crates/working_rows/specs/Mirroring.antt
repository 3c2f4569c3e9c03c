-- The mirror of a row, number by number.
--
-- Main definitions
--   mirror_block D b     the block that comes to the place of block b
--   mirror_place D i     the place that the number at place i of the mirror comes from
--   Alternated i before after       up to place i the numbers at odd places have changed their sign
--   Exchanged a b n before after    n numbers from place a on and n from place b on have changed places
--   TurnedTo D b before after       of the blocks 0 to D the first b have changed places with the last b
--   Turned D before after           all have, first with last
--   mirrored_of D w      the mirror of a working row
--
-- Main statements
--   alternate-even, alternate-odd   the sign of a coefficient in the mirror, by the parity of its power
--   length-mirror_row    the mirror has 336 numbers
--   row_of-mirror_row     the mirror's numbers hold the mirror
--   small-mirror_row     the mirror of a row with coefficients within ±C has such coefficients
--   alternated-none, alternated-next, alternated-all   no sign changed, that of one odd place more, all
--   exchanged-none, exchanged-next                     no number exchanged, one of each part more
--   turned_none, turned-next, turned-all               no block exchanged, one pair more, all
--   numbers-mirrored, full-mirrored, small-mirrored, held-mirrored
--                       the mirror of a working row: its numbers, what they hold, and its width
--   turned_left, mirrored-side   signs changed and then blocks turned: the mirror's left part; its right side
use Prim.Native.Nat.{ℕ, zero, suc, ◌+◌, ◌*◌, ◌-◌, ◌/◌, ◌%◌, ◌≤◌, ◌<◌, zero-le}
use Rattle.std.proofs.Common.{le_refl, le_of_eq, suc-ne-zero, not-suc-le-zero, arith, ◌∙◌, inl, inr, ⊎_elim, leb-true, leb-false, length-set, get_or-take, get_or-drop, get_or-append-add, get_or-set_same, get_or-set_other}
use Rattle.std.proofs.Math.Decide.{ℕ_discrete, dec_lt}
use Rattle.std.specs.Prelude.{◌≡◌, ◌⊎◌, Bool, true, false, cond, leb, ℤ, pos, neg_ℤ, nat_abs, take, set}
use Rattle.std.proofs.Math.Path.{refl, sym, ap, subst}
use mathlib.Core.List.{List, [], ◌++◌, map, reverse}
use Rattle.std.proofs.Math.Dec.{T}
use Rattle.std.proofs.Math.IntN.{neg_ℤ-neg_ℤ}
use Rattle.std.proofs.Math.ListN.{length, drop, get_or, length-append, length-take, length-drop, length-reverse, get_or-append, get_or-map}
use Rattle.std.proofs.lemmas.List.{length-map}
use Rattle.std.proofs.Math.Seq.{length-take-le, ext_get_or}
use Rattle.algebra.specs.Integers.{nat_abs-neg_ℤ}
use Rattle.algebra.specs.Polynomials.{coeff, mirror, length-mirror}
use Rattle.algebra.specs.Coefficients.{alternate, coeff-mirror}
use Rattle.rules.specs.Limits.{entries_length, row_length, small, coefficient_count, column_count, most_span, block_count, block_length}
use Rattle.rules.specs.Rows.{Block, Row, coefficients_of, map_row, small_row, mirror_row_of}
use Rattle.lists.specs.Everywhere.{All, all_get_or, get_or-all, map-keeps}
use Rattle.lists.specs.Tests.{T-&&, every, every_append, every-part, every-from-at, every_from_all}
use Rattle.rules.specs.Stores.{row_of, Shaped, StoreRow}
use Rattle.rules.specs.Layout.{StoreRow-row_of, polynomial-at-row, row_of-coefficients_of, length-entries, length-coefficients_of}
use Rattle.stores.specs.Flat.{length-blocks}
use Rattle.lists.specs.Images.{get_or_reverse}
use Rattle.working_rows.specs.declared.WorkingRow.{WorkingRow}
use Rattle.working_rows.specs.Working.{left_part, working_of, numbers_held, Full, full-of, length-held}
use Rattle.working_rows.specs.Working.{right-held}

-- Block i of the mirror comes from block D - i; blocks past the D + 1 in use stay.
unfoldable pub mirror_block : ℕ → ℕ → ℕ
mirror_block D i = cond (leb i D) (D - i) i

unfoldable pub mirror_place : ℕ → ℕ → ℕ
unfolding mirror_block
mirror_place D i = mirror_block D (i / block_length) * block_length + i % block_length

-- ---- members that change places

module _ {A : Type 0} (d : A) where
  -- The first D + 1 members change places, first with last.
  get_or-exchanged : (l : List A) (D i : ℕ) → D < length l
      → get_or (reverse (take (suc D) l) ++ drop (suc D) l) i d ≡ get_or l (mirror_block D i) d
  unfolding mirror_block
  get_or-exchanged l D i h = cases (leb i D) (leb-true i D) (leb-false i D)
    where
      size : length (take (suc D) l) ≡ suc D
      size = length-take-le (suc D) l h

      back : length (reverse (take (suc D) l)) ≡ suc D
      back = length-reverse (take (suc D) l) ∙ size

      inside : i ≤ D → get_or (reverse (take (suc D) l) ++ drop (suc D) l) i d ≡ get_or l (D - i) d
      inside e =
          let place : length (take (suc D) l) - suc i ≡ D - i = omega (arith, size) in
          get_or-append (reverse (take (suc D) l)) (drop (suc D) l) d i (omega (arith, back))
          ∙ get_or_reverse d (take (suc D) l) i (omega (arith, size)) ∙ ap (λ n. get_or (take (suc D) l) n d) place
          ∙ get_or-take (suc D) l (D - i) d (omega arith)

      past : D < i → get_or (reverse (take (suc D) l) ++ drop (suc D) l) i d ≡ get_or l i d
      past e =
          let place : i ≡ length (reverse (take (suc D) l)) + (i - suc D) = omega (arith, back) in
          let same : suc D + (i - suc D) ≡ i = omega arith in
          ap (λ n. get_or (reverse (take (suc D) l) ++ drop (suc D) l) n d) place
          ∙ get_or-append-add (reverse (take (suc D) l)) (drop (suc D) l) (i - suc D) d ∙ get_or-drop (suc D) l (i - suc D) d
          ∙ ap (λ n. get_or l n d) same

      cases : (t : Bool) → (t ≡ true → i ≤ D) → (t ≡ false → D < i)
          → get_or (reverse (take (suc D) l) ++ drop (suc D) l) i d ≡ get_or l (cond t (D - i) i) d
      cases true f g = inside (f refl)
      cases false f g = past (g refl)

-- ---- signs by the parity of the power

pub alternate-even : (k : ℕ) (a : ℤ) → k % 2 ≡ 0 → alternate k a ≡ a
unfolding alternate
alternate-even zero a e = refl
alternate-even (suc zero) a e = absurd (suc-ne-zero 0 e)
alternate-even (suc (suc k)) a e = neg_ℤ-neg_ℤ (alternate k a) ∙ alternate-even k a (omega arith)

pub alternate-odd : (k : ℕ) (a : ℤ) → (k % 2 ≡ 0 → ⊥) → alternate k a ≡ neg_ℤ a
unfolding alternate
alternate-odd zero a e = absurd (e refl)
alternate-odd (suc zero) a e = refl
alternate-odd (suc (suc k)) a e = neg_ℤ-neg_ℤ (alternate k a) ∙ alternate-odd k a (λ h. e (omega arith))

-- The power counts by its parity only.
alternate-parity : (k n : ℕ) (a : ℤ) → k % 2 ≡ n % 2 → alternate k a ≡ alternate n a
alternate-parity k n a e = cases (ℕ_discrete (k % 2) 0)
  where
    cases : Dec (k % 2 ≡ 0) → alternate k a ≡ alternate n a
    cases (yes h) = alternate-even k a h ∙ sym (alternate-even n a (sym e ∙ h))
    cases (no h) = alternate-odd k a h ∙ sym (alternate-odd n a (λ g. h (e ∙ g)))

nat_abs-alternate : (k : ℕ) (a : ℤ) → nat_abs (alternate k a) ≡ nat_abs a
unfolding alternate
nat_abs-alternate zero a = refl
nat_abs-alternate (suc k) a = nat_abs-neg_ℤ (alternate k a) ∙ nat_abs-alternate k a

-- ---- the shape of the mirror

abbrev StoreBlock : Block → Type 0
StoreBlock block = (length block ≡ column_count) × All (λ p. length p ≡ coefficient_count) block

StoreBlock-mirror : (block : Block) → StoreBlock block → StoreBlock (map mirror block)
StoreBlock-mirror block h = (
  length-map block mirror ∙ h.0,
  map-keeps (λ p. length p ≡ coefficient_count) (λ p. length p ≡ coefficient_count) mirror (λ p w. length-mirror p ∙ w) block h.1,
)

pub mirror_block-below : (D b : ℕ) → D ≤ most_span → b < block_count → mirror_block D b < block_count
unfolding mirror_block
mirror_block-below D b hD hb = cases (leb b D)
  where
    cases : (t : Bool) → cond t (D - b) b < block_count
    cases true = omega arith
    cases false = omega arith

-- A coefficient of a row by its place.
number_at : (l : List ℤ) (b c k : ℕ) → b < block_count → c < column_count → k < coefficient_count
    → coeff (get_or (get_or (row_of l).blocks b []) c []) k ≡ get_or l (b * block_length + c * coefficient_count + k) (pos 0)
unfolding coeff
number_at l b c k hb hc hk =
    ap (λ p. get_or p k (pos 0)) (polynomial-at-row l b c hb hc)
    ∙ get_or-take coefficient_count (drop (b * block_length + c * coefficient_count) l) k (pos 0) hk
    ∙ get_or-drop (b * block_length + c * coefficient_count) l k (pos 0)

mirror_place-entry : (D i : ℕ) → D ≤ most_span → i < entries_length → mirror_place D i < entries_length
unfolding mirror_place
mirror_place-entry D i few h = omega (arith, mirror_block-below D (i / block_length) few (omega arith))

mirror-small : (p : List ℤ) → T (every small p) → T (every small (mirror p))
unfolding small coeff
mirror-small p h =
    every_from_all small (mirror p) (pos 0) 0
    (λ i _ b. rw (coeff-mirror p i, nat_abs-alternate)
    (every-from-at small p (pos 0) 0 h i zero-le (rw length-mirror at b)))

module _ (D : ℕ) (l : List ℤ) (few : D ≤ most_span) (long : length l ≡ row_length) where
  abbrev mirrored : Row
  mirrored = mirror_row_of D (row_of l)

  block-mirror_row : (b : ℕ) → get_or mirrored.blocks b [] ≡ map mirror (get_or (row_of l).blocks (mirror_block D b) [])
  unfolding mirror_row_of map_row
  block-mirror_row b =
      let blocks = (row_of l).blocks in
      get_or-map (map mirror) (reverse (take (suc D) blocks) ++ drop (suc D) blocks) b []
      ∙ ap (map mirror) (get_or-exchanged [] blocks D b (rw length-blocks (omega arith)))

  polynomial-mirror_row : (b c : ℕ)
      → get_or (get_or mirrored.blocks b []) c [] ≡ mirror (get_or (get_or (row_of l).blocks (mirror_block D b) []) c [])
  unfolding mirror
  polynomial-mirror_row b c =
      ap (λ block. get_or block c []) (block-mirror_row b) ∙ get_or-map mirror (get_or (row_of l).blocks (mirror_block D b) []) c []

  StoreRow-mirror_row : StoreRow mirrored
  unfolding Shaped mirror_row_of map_row
  StoreRow-mirror_row =
      (count, get_or-all StoreBlock mirrored.blocks [] block, length-mirror (row_of l).right ∙ (StoreRow-row_of l (le_of_eq (sym long))).2)
    where
      count : length mirrored.blocks ≡ block_count
      count = simp (length-map, length-append, length-reverse, length-take, length-drop, length-blocks) (omega arith)

      source : (b : ℕ) → b < length mirrored.blocks → StoreBlock (get_or (row_of l).blocks (mirror_block D b) [])
      source b h =
          let inside : mirror_block D b < length (row_of l).blocks = rw length-blocks (mirror_block-below D b few (rw count at h)) in
          all_get_or StoreBlock (row_of l).blocks [] (mirror_block D b) inside (StoreRow-row_of l (le_of_eq (sym long))).1

      block : (b : ℕ) → b < length mirrored.blocks → StoreBlock (get_or mirrored.blocks b [])
      block b h = rw (block-mirror_row b) (StoreBlock-mirror (get_or (row_of l).blocks (mirror_block D b) []) (source b h))

  -- ---- its numbers

  pub length-mirror_row : length (coefficients_of mirrored) ≡ row_length
  length-mirror_row = length-coefficients_of mirrored StoreRow-mirror_row

  pub row_of-mirror_row : row_of (coefficients_of mirrored) ≡ mirrored
  row_of-mirror_row = row_of-coefficients_of mirrored StoreRow-mirror_row

  left-mirror_row : length (left_part mirrored) ≡ entries_length
  left-mirror_row = length-entries mirrored StoreRow-mirror_row

  number-mirror_row : (i : ℕ) → i < entries_length
      → get_or (left_part mirrored) i (pos 0) ≡ alternate (i % coefficient_count) (get_or l (mirror_place D i) (pos 0))
  unfolding mirror_place coefficients_of
  number-mirror_row i h =
      sym (get_or-append (left_part mirrored) mirrored.right (pos 0) i (rw left-mirror_row h))
      ∙ ap (λ n. get_or (coefficients_of mirrored) n (pos 0)) place
      ∙ sym (number_at (coefficients_of mirrored) (i / block_length) (i % block_length / coefficient_count)
      (i % coefficient_count) inside column power)
      ∙ ap (λ r. coeff (get_or (get_or r.blocks (i / block_length) []) (i % block_length / coefficient_count) [])
      (i % coefficient_count)) row_of-mirror_row
      ∙ ap (λ p. coeff p (i % coefficient_count)) (polynomial-mirror_row (i / block_length) (i % block_length / coefficient_count))
      ∙ coeff-mirror (get_or (get_or (row_of l).blocks source []) (i % block_length / coefficient_count) []) (i % coefficient_count)
      ∙ ap (alternate (i % coefficient_count))
      (number_at l source (i % block_length / coefficient_count) (i % coefficient_count)
      (mirror_block-below D (i / block_length) few inside) column power ∙ ap (λ n. get_or l n (pos 0)) moved)
    where
      source : ℕ
      source = mirror_block D (i / block_length)

      inside : i / block_length < block_count
      inside = omega arith

      column : i % block_length / coefficient_count < column_count
      column = omega arith

      power : i % coefficient_count < coefficient_count
      power = omega arith

      place : i ≡ i / block_length * block_length + i % block_length / coefficient_count * coefficient_count + i % coefficient_count
      place = omega arith

      moved : source * block_length + i % block_length / coefficient_count * coefficient_count + i % coefficient_count
          ≡ source * block_length + i % block_length
      moved = omega arith

  pub small-mirror_row : T (every small l) → T (small_row mirrored)
  unfolding small_row small coefficients_of mirror_row_of map_row row_of
  small-mirror_row h =
      let side = mirror-small (row_of l).right (every-part small entries_length coefficient_count l h) in
      subst T (sym (every_append small (left_part mirrored) mirrored.right))
      ((T-&& (every small (left_part mirrored)) (every small mirrored.right)).1
      (every_from_all small (left_part mirrored) (pos 0) 0 (λ i _ b. each i (rw left-mirror_row at b)), side))
    where
      each : (i : ℕ) → i < entries_length → T (small (get_or (left_part mirrored) i (pos 0)))
      each i b =
          let source : mirror_place D i < length l = omega (arith, long, mirror_place-entry D i few b) in
          rw (number-mirror_row i b, nat_abs-alternate) (every-from-at small l (pos 0) 0 h (mirror_place D i) zero-le source)

-- ---- signs changed where the numbers stand

pub record Alternated (i : ℕ) (before after : List ℤ) : Type 0 where
  pub same_length : length after ≡ length before
  pub changed : (j : ℕ) → j < i → get_or after j (pos 0) ≡ alternate j (get_or before j (pos 0))
  pub kept : (j : ℕ) → i ≤ j → get_or after j (pos 0) ≡ get_or before j (pos 0)

pub alternated-none : (l : List ℤ) → Alternated 1 l l
alternated-none l =
    record { same_length = refl; changed = λ j h. sym (alternate-even j (get_or l j (pos 0)) (omega arith)); kept = λ j h. refl }

pub alternated-next : (i : ℕ) (before l : List ℤ) → (i % 2 ≡ 0 → ⊥) → i < length before → Alternated i before l
    → Alternated (i + 2) before (set l i (neg_ℤ (get_or l i (pos 0))))
alternated-next i before l odd inside s =
    record {
      same_length = simp length-set s.same_length;
      changed = changed;
      kept = λ j h. other j (λ e. omega arith) ∙ s.kept j (omega arith);
    }
  where
    next : List ℤ
    next = set l i (neg_ℤ (get_or l i (pos 0)))

    other : (j : ℕ) → (j ≡ i → ⊥) → get_or next j (pos 0) ≡ get_or l j (pos 0)
    other j n = get_or-set_other l i j (neg_ℤ (get_or l i (pos 0))) (pos 0) n

    here : get_or next i (pos 0) ≡ alternate i (get_or before i (pos 0))
    here =
        get_or-set_same l i (neg_ℤ (get_or l i (pos 0))) (pos 0) (omega (arith, s.same_length)) ∙ ap neg_ℤ (s.kept i (le_refl i))
        ∙ sym (alternate-odd i (get_or before i (pos 0)) odd)

    past : (j : ℕ) → (j < i → ⊥) → (j ≡ i → ⊥) → j < i + 2 → get_or next j (pos 0) ≡ alternate j (get_or before j (pos 0))
    past j low n h =
        other j n ∙ s.kept j (omega arith) ∙ sym (alternate-even j (get_or before j (pos 0)) (omega arith))

    at : (j : ℕ) → (j < i → ⊥) → j < i + 2 → Dec (j ≡ i) → get_or next j (pos 0) ≡ alternate j (get_or before j (pos 0))
    at j low h (yes e) = subst (λ n. get_or next n (pos 0) ≡ alternate n (get_or before n (pos 0))) (sym e) here
    at j low h (no n) = past j low n h

    changed : (j : ℕ) → j < i + 2 → get_or next j (pos 0) ≡ alternate j (get_or before j (pos 0))
    changed j h = cases (dec_lt j i)
      where
        cases : Dec (j < i) → get_or next j (pos 0) ≡ alternate j (get_or before j (pos 0))
        cases (yes b) = other j (λ e. omega arith) ∙ s.changed j b
        cases (no b) = at j b h (ℕ_discrete j i)

pub alternated-all : (i : ℕ) (before after : List ℤ) → length before ≤ i → Alternated i before after → after ≡ mirror before
unfolding coeff
alternated-all i before after h s =
    ext_get_or (pos 0) after (mirror before) (s.same_length ∙ sym (length-mirror before))
    (λ j b. s.changed j (omega (arith, s.same_length)) ∙ sym (coeff-mirror before j))

-- ---- blocks that change places where they stand

pub record Exchanged (a b n : ℕ) (before after : List ℤ) : Type 0 where
  pub same_length : length after ≡ length before
  pub first : (k : ℕ) → k < n → get_or after (a + k) (pos 0) ≡ get_or before (b + k) (pos 0)
  pub second : (k : ℕ) → k < n → get_or after (b + k) (pos 0) ≡ get_or before (a + k) (pos 0)
  pub others : (j : ℕ) → (j < a) ⊎ (a + n ≤ j) → (j < b) ⊎ (b + n ≤ j) → get_or after j (pos 0) ≡ get_or before j (pos 0)

pub exchanged-none : (a b : ℕ) (l : List ℤ) → Exchanged a b 0 l l
exchanged-none a b l =
    record {
      same_length = refl;
      first = λ k h. absurd (not-suc-le-zero h);
      second = λ k h. absurd (not-suc-le-zero h);
      others = λ j h g. refl;
    }

module _ (a b n : ℕ) (before l : List ℤ) (apart : a + n < b) (inside : b + n < length before) (s : Exchanged a b n before l) where
  abbrev from_first : ℤ
  from_first = get_or l (a + n) (pos 0)

  abbrev from_second : ℤ
  from_second = get_or l (b + n) (pos 0)

  abbrev once : List ℤ
  once = set l (a + n) from_second

  abbrev twice : List ℤ
  twice = set once (b + n) from_first

  elsewhere : (j : ℕ) → (j ≡ a + n → ⊥) → (j ≡ b + n → ⊥) → get_or twice j (pos 0) ≡ get_or l j (pos 0)
  elsewhere j h g =
      get_or-set_other once (b + n) j from_first (pos 0) g ∙ get_or-set_other l (a + n) j from_second (pos 0) h

  at_first : get_or twice (a + n) (pos 0) ≡ get_or before (b + n) (pos 0)
  at_first =
      get_or-set_other once (b + n) (a + n) from_first (pos 0) (λ e. omega arith)
      ∙ get_or-set_same l (a + n) from_second (pos 0) (omega (arith, s.same_length))
      ∙ s.others (b + n) (inr (omega arith)) (inr (le_refl (b + n)))

  at_second : get_or twice (b + n) (pos 0) ≡ get_or before (a + n) (pos 0)
  at_second =
      get_or-set_same once (b + n) from_first (pos 0) (simp length-set (omega (arith, s.same_length)))
      ∙ s.others (a + n) (inr (le_refl (a + n))) (inl apart)

  pub exchanged-next : Exchanged a b (n + 1) before twice
  exchanged-next =
      record {
        same_length = simp length-set s.same_length;
        first = λ k h. first k (ℕ_discrete k n) h;
        second = λ k h. second k (ℕ_discrete k n) h;
        others =
            λ j h g. elsewhere j (λ e. ⊎_elim (λ x. omega arith) (λ x. omega arith) h) (λ e. ⊎_elim (λ x. omega arith) (λ x. omega arith) g)
            ∙ s.others j (⊎_elim (λ x. inl x) (λ x. inr (omega arith)) h) (⊎_elim (λ x. inl x) (λ x. inr (omega arith)) g);
      }
    where
      first : (k : ℕ) → Dec (k ≡ n) → k < n + 1 → get_or twice (a + k) (pos 0) ≡ get_or before (b + k) (pos 0)
      first k (yes e) h = subst (λ i. get_or twice (a + i) (pos 0) ≡ get_or before (b + i) (pos 0)) (sym e) at_first
      first k (no e) h = elsewhere (a + k) (λ g. e (omega arith)) (λ g. omega arith) ∙ s.first k (omega arith)

      second : (k : ℕ) → Dec (k ≡ n) → k < n + 1 → get_or twice (b + k) (pos 0) ≡ get_or before (a + k) (pos 0)
      second k (yes e) h = subst (λ i. get_or twice (b + i) (pos 0) ≡ get_or before (a + i) (pos 0)) (sym e) at_second
      second k (no e) h = elsewhere (b + k) (λ g. omega arith) (λ g. e (omega arith)) ∙ s.second k (omega arith)

pub record TurnedTo (D b : ℕ) (before after : List ℤ) : Type 0 where
  pub same_length : length after ≡ length before
  pub outer : (q k : ℕ) → k < block_length → q ≤ D → (q < b) ⊎ (D < q + b)
      → get_or after (q * block_length + k) (pos 0) ≡ get_or before ((D - q) * block_length + k) (pos 0)
  pub inner : (q k : ℕ) → k < block_length → ((b ≤ q) × (q + b ≤ D)) ⊎ (D < q)
      → get_or after (q * block_length + k) (pos 0) ≡ get_or before (q * block_length + k) (pos 0)

pub turned_none : (D : ℕ) (l : List ℤ) → TurnedTo D 0 l l
turned_none D l =
    record {
      same_length = refl;
      outer = λ q k _ h e. absurd (⊎_elim (λ x. not-suc-le-zero x) (λ x. omega arith) e);
      inner = λ q k _ _. refl;
    }

-- Block b and block D - b change places.
pub turned-next : (D b : ℕ) (before l after : List ℤ) → 2 * b < D → TurnedTo D b before l
    → Exchanged (b * block_length) ((D - b) * block_length) block_length l after → TurnedTo D (b + 1) before after
turned-next D b before l after h s e =
    record { same_length = e.same_length ∙ s.same_length; outer = outer; inner = inner }
  where
    -- a number of another block
    elsewhere : (q k : ℕ) → k < block_length → (q ≡ b → ⊥) → (q ≡ D - b → ⊥)
        → get_or after (q * block_length + k) (pos 0) ≡ get_or l (q * block_length + k) (pos 0)
    elsewhere q k w n m = e.others (q * block_length + k) (away b n) (away (D - b) m)
      where
        away : (p : ℕ) → (q ≡ p → ⊥) → (q * block_length + k < p * block_length) ⊎ (p * block_length + block_length ≤ q * block_length + k)
        away p f = side (dec_lt q p)
          where
            side : Dec (q < p) → (q * block_length + k < p * block_length) ⊎ (p * block_length + block_length ≤ q * block_length + k)
            side (yes x) = inl (omega arith)
            side (no x) = inr (omega arith)

    at_first : (k : ℕ) → k < block_length → get_or after (b * block_length + k) (pos 0) ≡ get_or before ((D - b) * block_length + k) (pos 0)
    at_first k w = e.first k w ∙ s.inner (D - b) k w (inl (omega arith, omega arith))

    at_second : (k : ℕ) → k < block_length
        → get_or after ((D - b) * block_length + k) (pos 0) ≡ get_or before ((D - (D - b)) * block_length + k) (pos 0)
    at_second k w =
        let back : b ≡ D - (D - b) = omega arith in
        e.second k w ∙ s.inner b k w (inl (le_refl b, omega arith)) ∙ ap (λ p. get_or before (p * block_length + k) (pos 0)) back

    outer : (q k : ℕ) → k < block_length → q ≤ D → (q < b + 1) ⊎ (D < q + (b + 1))
        → get_or after (q * block_length + k) (pos 0) ≡ get_or before ((D - q) * block_length + k) (pos 0)
    outer q k w g x = cases (ℕ_discrete q b) (ℕ_discrete q (D - b))
      where
        cases : Dec (q ≡ b) → Dec (q ≡ D - b)
            → get_or after (q * block_length + k) (pos 0) ≡ get_or before ((D - q) * block_length + k) (pos 0)
        cases (yes n) m =
            subst (λ p. get_or after (p * block_length + k) (pos 0) ≡ get_or before ((D - p) * block_length + k) (pos 0)) (sym n)
            (at_first k w)
        cases (no n) (yes m) =
            subst (λ p. get_or after (p * block_length + k) (pos 0) ≡ get_or before ((D - p) * block_length + k) (pos 0)) (sym m)
            (at_second k w)
        cases (no n) (no m) =
            elsewhere q k w n m ∙ s.outer q k w g (⊎_elim (λ y. inl (omega arith)) (λ y. inr (omega arith)) x)

    inner : (q k : ℕ) → k < block_length → ((b + 1 ≤ q) × (q + (b + 1) ≤ D)) ⊎ (D < q)
        → get_or after (q * block_length + k) (pos 0) ≡ get_or before (q * block_length + k) (pos 0)
    inner q k w x =
        elsewhere q k w (λ n. ⊎_elim (λ y. omega arith) (λ y. omega arith) x) (λ m. ⊎_elim (λ y. omega arith) (λ y. omega arith) x)
        ∙ s.inner q k w (⊎_elim (λ y. inl (omega arith, omega arith)) (λ y. inr y) x)

pub record Turned (D : ℕ) (before after : List ℤ) : Type 0 where
  pub same_length : length after ≡ length before
  pub numbers : (i : ℕ) → get_or after i (pos 0) ≡ get_or before (mirror_place D i) (pos 0)

pub turned-all : (D b : ℕ) (before after : List ℤ) → D ≤ 2 * b → TurnedTo D b before after → Turned D before after
unfolding mirror_place mirror_block
turned-all D b before after h s = record { same_length = s.same_length; numbers = numbers }
  where
    numbers : (i : ℕ) → get_or after i (pos 0) ≡ get_or before (mirror_place D i) (pos 0)
    numbers i = ap (λ n. get_or after n (pos 0)) place ∙ cases (leb q D) (leb-true q D) (leb-false q D)
      where
        q : ℕ
        q = i / block_length

        k : ℕ
        k = i % block_length

        place : i ≡ q * block_length + k
        place = omega arith

        within : k < block_length
        within = omega arith

        middle : (D < q + b → ⊥) → (q < b → ⊥) → q ≤ D
            → get_or after (q * block_length + k) (pos 0) ≡ get_or before ((D - q) * block_length + k) (pos 0)
        middle m n g =
            let same : q ≡ D - q = omega arith in
            s.inner q k within (inl (omega arith, omega arith)) ∙ ap (λ p. get_or before (p * block_length + k) (pos 0)) same

        used : q ≤ D → Dec (q < b) → Dec (D < q + b)
            → get_or after (q * block_length + k) (pos 0) ≡ get_or before ((D - q) * block_length + k) (pos 0)
        used g (yes n) m = s.outer q k within g (inl n)
        used g (no n) (yes m) = s.outer q k within g (inr m)
        used g (no n) (no m) = middle m n g

        cases : (t : Bool) → (t ≡ true → q ≤ D) → (t ≡ false → D < q)
            → get_or after (q * block_length + k) (pos 0) ≡ get_or before (cond t (D - q) q * block_length + k) (pos 0)
        cases true f g = used (f refl) (dec_lt q b) (dec_lt D (q + b))
        cases false f g = s.inner q k within (inr (g refl))

mirror_place-parity : (D i : ℕ) → mirror_place D i % 2 ≡ i % coefficient_count % 2
unfolding mirror_place
mirror_place-parity D i = omega arith

-- ---- a working row

-- Its mirror.
abbrev pub mirrored_of : ℕ → WorkingRow → WorkingRow
mirrored_of D w = let m = mirror_row_of D (row_of (numbers_held w)) in working_of (left_part m) m.right

module _ (D : ℕ) (w : WorkingRow) (few : D ≤ most_span) (full : Full w) where
  abbrev m : Row
  m = mirror_row_of D (row_of (numbers_held w))

  pub numbers-mirrored : numbers_held (mirrored_of D w) ≡ coefficients_of m
  unfolding coefficients_of
  numbers-mirrored = refl

  pub full-mirrored : Full (mirrored_of D w)
  unfolding Shaped
  full-mirrored =
      let shape = StoreRow-mirror_row D (numbers_held w) few (length-held w full) in
      full-of (left_part m) m.right (length-entries m shape) shape.2

  pub small-mirrored : T (every small (numbers_held w)) → T (every small (numbers_held (mirrored_of D w)))
  unfolding small_row coefficients_of
  small-mirrored = small-mirror_row D (numbers_held w) few (length-held w full)

  pub held-mirrored : row_of (numbers_held (mirrored_of D w)) ≡ m
  held-mirrored = ap row_of numbers-mirrored ∙ row_of-mirror_row D (numbers_held w) few (length-held w full)

  -- The signs first, and then the blocks.
  pub turned_left : (after : List ℤ) → Turned D (mirror w.entries) after → after ≡ left_part m
  unfolding coeff
  turned_left after t =
      ext_get_or (pos 0) after (left_part m) (size ∙ sym full-mirrored.entries-long) (λ i h. number i (rw size at h))
    where
      size : length after ≡ entries_length
      size = t.same_length ∙ length-mirror w.entries ∙ full.entries-long

      number : (i : ℕ) → i < entries_length → get_or after i (pos 0) ≡ get_or (left_part m) i (pos 0)
      number i h =
          let from = mirror_place D i in
          let inside : from < length w.entries = rw full.entries-long (mirror_place-entry D i few h) in
          t.numbers i ∙ coeff-mirror w.entries from
          ∙ alternate-parity from (i % coefficient_count) (get_or w.entries from (pos 0)) (mirror_place-parity D i)
          ∙ ap (alternate (i % coefficient_count)) (sym (get_or-append w.entries w.right (pos 0) from inside))
          ∙ sym (number-mirror_row D (numbers_held w) few (length-held w full) i h)

  pub mirrored-side : m.right ≡ mirror w.right
  unfolding mirror_row_of map_row
  mirrored-side = ap mirror (right-held w.entries w.right full.entries-long full.right-long)
