-- The number check of a row, polynomial by polynomial.
--
-- Main definitions
--   outside m D q        does polynomial q of a row lie outside the system's blocks and columns?
--   place_right_of m D l q   is it zero if so, and otherwise within ±C?
--
-- Main statements
--   zero-small           zeros are within ±C
--   unused-iff           unused places are zero exactly if the polynomials outside the blocks and columns are
--   row-true, row-false  a row passes its check exactly if every polynomial of its left part passes and its right side is within ±C
use Rattle.std.specs.Prelude.{ℕ, suc, ◌+◌, ◌*◌, ◌/◌, ◌%◌, ◌≤◌, ◌<◌, ◌≡◌, ◌↔◌, ◌⊎◌, Bool, true, false, ◌&&◌, ◌||◌, cond, List, [], ◌∷◌, ltb, leb, ℤ, take, drop, get_or}
use Rattle.std.proofs.Common.{zero-le, eq-or-lt_of_le, le_of_suc-le-suc, arith, sym, ◌∙◌, ap, subst, inl, inr, lit<, ltb→lt, lt→ltb, leb→le, le→leb}
use Rattle.std.proofs.Math.Logic.{⊎_elim}
use Rattle.std.proofs.Math.Dec.{T}
use Rattle.std.proofs.Math.ListN.{length}
use Rattle.algebra.specs.Polynomials.{is_zero_of, is_zero-cons}
use Rattle.lists.specs.Tests.{T-&&, same_test, false_of, every, every-from-at, every_from_all}
use Rattle.rules.specs.Limits.{small, coefficient_count, column_count, block_count, polynomial_count, block_length}
use Rattle.rules.specs.Rows.{Block, zero_block, small_row}
use Rattle.rules.specs.Stores.{row_of, unused_zero_of}
use Rattle.lists.specs.Parts.{parts-length, get_or-parts}
use Rattle.rules.specs.Layout.{polynomial-at-row, coefficients_at_of, block_at}
use Rattle.stores.specs.Flat.{part_count, parts_in, small_row-row_of, length-blocks, block-at}

-- Polynomial q lies in block q / column_count, counted from block l down, and in column q % column_count.
unfoldable pub outside : ℕ → ℕ → ℕ → Bool
outside m D q = ltb D (q / column_count) || leb m (q % column_count)

unfoldable pub place_right_of : ℕ → ℕ → List ℤ → ℕ → Bool
unfolding outside is_zero_of every small
place_right_of m D l q = cond (outside m D q) (is_zero_of (coefficients_at_of l q)) (every small (coefficients_at_of l q))

-- ---- the polynomials of a row, by their places

outside-iff : (m D q : ℕ) → T (outside m D q) ↔ ((D < q / column_count) ⊎ (m ≤ q % column_count))
unfolding outside
outside-iff m D q = (
  forth (ltb D (q / column_count)) (leb m (q % column_count)) (ltb→lt D (q / column_count)) (leb→le m (q % column_count)),
  back (ltb D (q / column_count)) (leb m (q % column_count)) (lt→ltb D (q / column_count)) (le→leb m (q % column_count)),
)
  where
    forth : {P Q : Type 0} (s t : Bool) → (T s → P) → (T t → Q) → T (s || t) → P ⊎ Q
    forth true t f g h = inl (f tt)
    forth false t f g h = inr (g h)

    back : {P Q : Type 0} (s t : Bool) → (P → T s) → (Q → T t) → P ⊎ Q → T (s || t)
    back true t f g h = tt
    back false t f g (inl h) = absurd (f h)
    back false t f g (inr h) = g h

-- What a test chooses, where the first choice implies the second.
chosen : (o s t : Bool) → (T s → T t) → T (cond o s t) ↔ ((T o → T s) × T t)
chosen true s t f = (λ h. (λ _. h, f h), λ h. h.0 tt)
chosen false s t f = (λ h. (λ e. absurd e, h), λ h. h.1)

pub zero-small : (p : List ℤ) → T (is_zero_of p) → T (every small p)
unfolding every small
zero-small [] h = tt
zero-small (a ∷ p) h =
    let e = (is_zero-cons a p).0 h in
    (T-&& (small a) (every small p)).1 (subst (λ z. T (small z)) (sym e.0) tt, zero-small p e.1)

module _ (m D : ℕ) (l : List ℤ) where
  abbrev blocks : List Block
  blocks = (row_of l).blocks

  -- Every polynomial outside the system's blocks and columns is zero.
  abbrev ZeroOutside : Type 0
  ZeroOutside = (b c : ℕ) → b < block_count → c < column_count → (D < b) ⊎ (m ≤ c) → T (is_zero_of (get_or (get_or blocks b []) c []))

  length-block : (b : ℕ) → b < block_count → length (get_or blocks b []) ≡ column_count
  length-block b h = ap length (block-at l b h) ∙ parts-length coefficient_count column_count (block_at l b)

  unused-places : T (unused_zero_of m D (row_of l)) → ZeroOutside
  unfolding unused_zero_of zero_block
  unused-places h b c hb hc out = ⊎_elim below beside out
    where
      tests : T (every (λ block. zero_block (drop m block)) blocks) × T (every zero_block (drop (suc D) blocks))
      tests = (T-&& (every (λ block. zero_block (drop m block)) blocks) (every zero_block (drop (suc D) blocks))).0 h

      inside : b < length blocks
      inside = rw length-blocks hb

      column : c < length (get_or blocks b [])
      column = rw (length-block b hb) hc

      below : D < b → T (is_zero_of (get_or (get_or blocks b []) c []))
      below e =
          every-from-at is_zero_of (get_or blocks b []) [] 0 (every-from-at zero_block blocks [] (suc D) tests.1 b e inside) c zero-le column

      beside : m ≤ c → T (is_zero_of (get_or (get_or blocks b []) c []))
      beside e =
          every-from-at is_zero_of (get_or blocks b []) [] m
          (every-from-at (λ block. zero_block (drop m block)) blocks [] 0 tests.0 b zero-le inside) c e column

  places-unused : ZeroOutside → T (unused_zero_of m D (row_of l))
  unfolding unused_zero_of zero_block
  places-unused h = (T-&& (every (λ block. zero_block (drop m block)) blocks) (every zero_block (drop (suc D) blocks))).1 (beside, below)
    where
      inside : (b : ℕ) → b < length blocks → b < block_count
      inside b e = omega (arith, length-blocks l)

      column : (b c : ℕ) → b < block_count → c < length (get_or blocks b []) → c < column_count
      column b c e f = omega (arith, length-block b e)

      beside : T (every (λ block. zero_block (drop m block)) blocks)
      beside =
          every_from_all (λ block. zero_block (drop m block)) blocks [] 0
          (λ b _ hb. every_from_all is_zero_of (get_or blocks b []) [] m
          (λ c low hc. h b c (inside b hb) (column b c (inside b hb) hc) (inr low)))

      below : T (every zero_block (drop (suc D) blocks))
      below =
          every_from_all zero_block blocks [] (suc D)
          (λ b low hb. every_from_all is_zero_of (get_or blocks b []) [] 0
          (λ c _ hc. h b c (inside b hb) (column b c (inside b hb) hc) (inl low)))

  abbrev part : ℕ → List ℤ
  part q = coefficients_at_of l q

  part_at : (b c : ℕ) → b < block_count → c < column_count → get_or (get_or blocks b []) c [] ≡ part (b * column_count + c)
  part_at b c hb hc =
      let place : b * block_length + c * coefficient_count ≡ (b * column_count + c) * coefficient_count = omega arith in
      polynomial-at-row l b c hb hc ∙ ap (λ n. take coefficient_count (drop n l)) place

  pub unused-iff : T (unused_zero_of m D (row_of l))
      ↔ ((q : ℕ) → q < polynomial_count → (D < q / column_count) ⊎ (m ≤ q % column_count) → T (is_zero_of (part q)))
  unused-iff = (forth, λ h. places-unused (back h))
    where
      forth : T (unused_zero_of m D (row_of l)) → (q : ℕ) → q < polynomial_count → (D < q / column_count) ⊎ (m ≤ q % column_count)
          → T (is_zero_of (part q))
      forth z q h out =
          let place : q / column_count * column_count + q % column_count ≡ q = omega arith in
          let block : q / column_count < block_count = omega arith in
          let column : q % column_count < column_count = omega arith in
          rw (part_at (q / column_count) (q % column_count) block column, place)
          at (unused-places z (q / column_count) (q % column_count) block column out)

      back : ((q : ℕ) → q < polynomial_count → (D < q / column_count) ⊎ (m ≤ q % column_count) → T (is_zero_of (part q))) → ZeroOutside
      back h b c hb hc out =
          let block : (b * column_count + c) / column_count ≡ b = omega arith in
          let column : (b * column_count + c) % column_count ≡ c = omega arith in
          rw (part_at b c hb hc) (h (b * column_count + c) (omega arith) (rw (block, column) out))

  -- The right side stands behind the polynomials of the left part.
  abbrev side_small : Bool
  side_small = every small (part polynomial_count)

  small-iff : T (small_row (row_of l)) ↔ (((q : ℕ) → q < polynomial_count → T (every small (part q))) × T side_small)
  small-iff = (
    λ h. (λ q below. each h q (omega arith), each h polynomial_count (lit< tt)),
    λ h. rw small_row-row_of (every_from_all (every small) (parts_in l) [] 0 (λ q _ below. at h q (rw parts-length at below))),
  )
    where
      each : T (small_row (row_of l)) → (q : ℕ) → q < part_count → T (every small (part q))
      each h q below =
          rw (get_or-parts coefficient_count part_count l q below)
          at (every-from-at (every small) (parts_in l) [] 0 (rw small_row-row_of at h) q zero-le (rw parts-length below))

      at : ((q : ℕ) → q < polynomial_count → T (every small (part q))) × T side_small → (q : ℕ) → q < part_count
          → T (every small (get_or (parts_in l) q []))
      at h q below = rw (get_or-parts coefficient_count part_count l q below) (cases (eq-or-lt_of_le (le_of_suc-le-suc below)))
        where
          cases : (q ≡ polynomial_count) ⊎ (q < polynomial_count) → T (every small (part q))
          cases (inl e) = rw e h.1
          cases (inr e) = h.0 q e

  -- The test of one polynomial, as statements.
  place-iff : (q : ℕ) → T (place_right_of m D l q)
      ↔ (((D < q / column_count) ⊎ (m ≤ q % column_count) → T (is_zero_of (part q))) × T (every small (part q)))
  unfolding place_right_of
  place-iff q =
      let e = chosen (outside m D q) (is_zero_of (part q)) (every small (part q)) (zero-small (part q)) in (
        λ h. (λ out. (e.0 h).0 ((outside-iff m D q).1 out), (e.0 h).1),
        λ h. e.1 (λ out. h.0 ((outside-iff m D q).0 out), h.1),
      )

  abbrev right : Bool
  right = small_row (row_of l) && unused_zero_of m D (row_of l)

  right-iff : T right ↔ (((q : ℕ) → q < polynomial_count → T (place_right_of m D l q)) × T side_small)
  right-iff =
      let e = T-&& (small_row (row_of l)) (unused_zero_of m D (row_of l)) in (
        λ h. (
          λ q below. (place-iff q).1 (unused-iff.0 (e.0 h).1 q below, (small-iff.0 (e.0 h).0).0 q below),
          (small-iff.0 (e.0 h).0).1,
        ),
        λ h. e.1 (
          small-iff.1 (λ q below. ((place-iff q).0 (h.0 q below)).1, h.1),
          unused-iff.1 (λ q below. ((place-iff q).0 (h.0 q below)).0),
        ),
      )

  -- Where every polynomial of the left part passes, the right side decides.
  pub row-true : ((q : ℕ) → q < polynomial_count → place_right_of m D l q ≡ true) → side_small ≡ right
  row-true h =
      same_test side_small right (λ s. right-iff.1 (λ q below. subst T (sym (h q below)) tt, s)) (λ r. (right-iff.0 r).1)

  pub row-false : (q : ℕ) → q < polynomial_count → place_right_of m D l q ≡ false → right ≡ false
  row-false q below e = false_of right (λ h. subst T e ((right-iff.0 h).0 q below))
