-- Sizes as the code has them, and what their tests tell.
--
-- Main definitions
--   the_sizes_of s               the sizes of `rules` that a struct holds
--   row_test, relation_test   the number checks of a row and of a relation, by m and D
--
-- Main statements
--   row_right-test, relation_right-test   they are the checks of `rules`
--   relation-at, index_at, row-after    the place of a relation in a store, of its n0 and of its row
--   unused-part             the places past the count, as a part of the store
--   difference-fits         l - t is in the range of an i64 where -64 ≤ t ≤ l ≤ 64
--   difference-nonneg       l - t is not negative where t ≤ l
use Rattle.std.specs.Prelude.{ℕ, ◌+◌, ◌*◌, ◌-◌, ◌≤◌, ◌<◌, ◌≡◌, refl, Bool, ◌&&◌, List, [], ◌∷◌, T, take, drop, get_or, ℤ, pos, neg_ℤ, nat_abs, ◌-ℤ◌, ◌≤ℤ◌}
use Rattle.std.proofs.Common.{add-zero, arith, sym, ◌∙◌, ap, lit<, drop-drop, get_or-take, get_or-drop, SFits}
use Rattle.std.proofs.Math.ListN.{get_or-map}
use Rattle.std.specs.Int.Signed.{le_z_yes, non_neg, yes_non_neg}
use Rattle.std.specs.Int.{w64}
use Rattle.algebra.specs.Order.{≤ℤ-trans, +ℤ-≤ℤ-left, +ℤ-≤ℤ-right, ≤ℤ-difference, neg_ℤ-≤ℤ, nat_abs-≤-iff}
use Rattle.integers.specs.Ranges.{sfits-size}
use Rattle.rules.specs.Limits.{row_length, relation_length, small}
use Rattle.rules.specs.Rows.{Row, Relation, small_row}
use Rattle.lists.specs.Taken.{drop-take}
use Rattle.rules.specs.Stores as Stores
use Rattle.rules.specs.Stores.{span, row_of, relation_of, relations_of, relation_need, unused_zero_of, row_right_of, relation_right_of}
use Rattle.lists.specs.Parts.{parts, get_or-parts}
use Rattle.stores.specs.declared.validity.Sizes.{Sizes}

unfoldable pub the_sizes_of : Sizes → Stores.Sizes
the_sizes_of s = record { m = s.m; equations = s.equations; l = s.l; t = s.t }

-- ---- the number checks, by m and D

unfoldable pub row_test : ℕ → ℕ → Row → Bool
unfolding small_row unused_zero_of
row_test m D r = small_row r && unused_zero_of m D r

unfoldable pub relation_test : ℕ → ℕ → Relation → Bool
unfolding small row_test
relation_test m D e = small e.index && row_test m D e.row

pub row_right-test : (z : Stores.Sizes) → row_right_of z ≡ row_test z.m (span z)
unfolding row_right_of row_test
row_right-test z = refl

pub relation_right-test : (z : Stores.Sizes) → relation_right_of z ≡ relation_test z.m (span z)
unfolding relation_right_of row_right_of relation_test row_test
relation_right-test z = refl

-- ---- relations by their places

pub relation-at : (count : ℕ) (l : List ℤ) (k : ℕ) → k < count
    → get_or (relations_of count l) k (relation_of []) ≡ relation_of (take relation_length (drop (k * relation_length) l))
unfolding relations_of
relation-at count l k h =
    get_or-map relation_of (parts relation_length count l) k [] ∙ ap relation_of (get_or-parts relation_length count l k h)

pub index_at : (l : List ℤ) (at : ℕ) → (relation_of (take relation_length (drop at l))).index ≡ get_or l at (pos 0)
unfolding relation_of
index_at l at =
    get_or-take relation_length (drop at l) 0 (pos 0) (lit< tt) ∙ get_or-drop at l 0 (pos 0) ∙ ap (λ n. get_or l n (pos 0)) (add-zero at)

-- A row begins one place after its n0.
pub row-after : (l : List ℤ) (at : ℕ)
    → (relation_of (take relation_length (drop at l))).row ≡ row_of (take row_length (drop (at + 1) l))
unfolding relation_of
row-after l at = ap row_of (rest (drop at l) ∙ ap (take row_length) (drop-drop 1 at l))
  where
    rest : (p : List ℤ) → drop 1 (take relation_length p) ≡ take row_length (drop 1 p)
    rest [] = refl
    rest (a ∷ p) = refl

-- The places past the count, as the part of the store that is tested.
pub unused-part : (count : ℕ) (l : List ℤ) → count ≤ 16
    → take (relation_need - count * relation_length) (drop (count * relation_length) l)
    ≡ drop (count * relation_length) (take relation_need l)
unused-part count l h =
    let whole : count * relation_length + (relation_need - count * relation_length) ≡ relation_need = omega arith in
    sym (drop-take (count * relation_length) (relation_need - count * relation_length) l)
    ∙ ap (λ n. drop (count * relation_length) (take n l)) whole

-- ---- D = l - t

pub difference-size : {l t : ℤ} → neg_ℤ (pos 64) ≤ℤ t → t ≤ℤ l → l ≤ℤ pos 64 → nat_abs (l -ℤ t) ≤ 128
difference-size {l} {t} low ordered high =
    (nat_abs-≤-iff (l -ℤ t)).1
    (≤ℤ-trans (le_z_yes tt) (≤ℤ-difference.0 ordered), ≤ℤ-trans (+ℤ-≤ℤ-left l (neg_ℤ-≤ℤ.0 low)) (+ℤ-≤ℤ-right (pos 64) high))

pub difference-fits : {l t : ℤ} → neg_ℤ (pos 64) ≤ℤ t → t ≤ℤ l → l ≤ℤ pos 64 → SFits w64 (l -ℤ t)
difference-fits {l} {t} low ordered high = sfits-size (l -ℤ t) (difference-size low ordered high) (lit< tt)

pub difference-nonneg : {l t : ℤ} → t ≤ℤ l → T (non_neg (l -ℤ t))
difference-nonneg ordered = yes_non_neg (≤ℤ-difference.0 ordered)
