-- The mirror: -n for n, block -s for s, -n0 for n0. The trailing side is the leading side of the mirrored system
-- (SCOPE 2.91).
--
-- Main definitions
--   turn D l               the first D + 1 members in reverse order
--   reflect z              the sequence read backwards
--   Reaches D r, Spans D r  D + 1 blocks or more; and all of them zero after the first D + 1
--   mirror_sizes z          the same m, blocks from -l to -t
--
-- Main statements
--   mirror_row-twice, mirror_relation-twice, mirror_state-twice   the mirror undoes itself
--   mirror-leading_block, mirror-entry, mirror-last_entry   blocks l and t change places
--   mirror-diagonal        the diagonal polynomials of the trailing side are mirrors of those of the leading side
--   mirror-value           the value of the mirrored row at n, on the reflected sequence, is the value at -n
--   mirror-equation, mirror-relation, mirror-satisfies   so a sequence satisfies a system exactly if the reflected one does the mirror
--   span-sum, span-bound, mirror-span, mirror-sizes   sizes, and those of the mirror
--   mirror-valid           the mirror of a valid system is valid
--   mirror-dependent       a system is dependent exactly if its mirror is
use Rattle.std.specs.Prelude.{ℕ, suc, ◌+◌, ◌-◌, ◌≤◌, ◌<◌, ◌≡◌, refl, ◌↔◌, not, leb, length, get_or, take, nat_abs, ◌+ℤ◌, ◌-ℤ◌, ◌*ℤ◌, ◌≤ℤ◌}
use Rattle.std.proofs.Common.{arith, ◌∙◌, ap₂, subst₂, take-append-drop, length-take-le, take-suc}
use Rattle.std.proofs.Math.Path.{sym, ap, subst, fun_ext}
use mathlib.Core.Logic.Iff
use mathlib.Core.List.{List, [], ◌∷◌, ◌++◌, map, map-append, zip_with, reverse, reverse-cons, reverse-append, reverse-reverse}
use Rattle.std.proofs.Math.Dec.{T}
use Rattle.std.proofs.Math.ListN.{drop, get_or-map}
use Rattle.std.proofs.lemmas.List.{length-reverse, length-map}
use Rattle.std.proofs.Math.Seq.{length_front, take_at, drop_at}
use Rattle.std.proofs.Math.IntN.{ℤ, pos, neg_ℤ, pred_ℤ, +ℤ_idl, +ℤ_idr, +ℤ_assoc, +ℤ_comm, +ℤ_one, +ℤ_invr, neg_ℤ-neg_ℤ, neg_ℤ-+ℤ, pred_ℤ-+ℤ, suc-pred, -ℤ_one, -ℤ-+ℤ_cancel}
use Rattle.algebra.specs.Integers.{+ℤ-left-comm, nat_abs-neg_ℤ}
use Rattle.algebra.specs.Order.{≤ℤ-difference, neg_ℤ-≤ℤ, pos-≤ℤ, pos-nat_abs-nonneg}
use Rattle.algebra.specs.Sums.{sum_over-congr, sum_below-congr, sum_below-reverse}
use Rattle.algebra.specs.Polynomials.{Polynomial, eval, is_zero_of, negate, mirror, mirror-mirror, is_zero-mirror, eval-mirror}
use Rattle.rules.specs.Limits.{bound, coefficient_count, column_count, block_count, small}
use Rattle.rules.specs.Rows.{Block, Row, Relation, no_row, map_row, small_row, zero_block, leading_block, entry, mirror_row_of}
use Rattle.lists.specs.Everywhere.{All, all-always, all-mono, all_both, all_take, all_drop, append-all, reverse-all, all_get_or, map-keeps}
use Rattle.lists.specs.Tests.{every, every-all}
use Rattle.rules.specs.Rows.{mirror_relation}
use Rattle.rules.specs.Elimination.{leading, trailing, State, mirror_state, diagonal_place, diagonal}
use Rattle.rules.specs.Stores.{Sizes, equations, span, sizes_right_of, count_right, unused_zero_of, row_right_of, relation_right_of, Shaped, StoreRow}
use Rattle.rules.specs.Layout.{SizeBounds, size-bounds, bounds-right}
use Rattle.rules.specs.Sequences.{Sequence, block_value, blocks_value, value_of, SatisfiesEquation, SatisfiesRelation, Satisfies, shifts_within}
use Rattle.rules.specs.Sequences.{Dependent}
use Rattle.lists.specs.Everywhere.{all-images}
use Rattle.lists.specs.Images.{map_back, map-take, map-drop, map-reverse}
use Rattle.theory.specs.Shapes.{mirror_row-shaped}
use Rattle.theory.specs.Values.{blocks-always, blocks-append-zero, index_below}
use Rattle.theory.specs.Cells.{map_row-zero, unused_zero-iff, unused-kept}
use Rattle.theory.specs.LimitsKept.{Small, small_row-iff, row_right-iff, relation_right-iff, ValidRows}
use Rattle.theory.specs.BackSubstitution.{move-right}
use Rattle.theory.specs.Combinations.{sum_within, sum_within-below, cancel-common, Values, copies, combination_value, DependentValues}
use Rattle.theory.specs.ByValues.{row_values, dependent-values}

-- ---- the blocks change places

-- The first D + 1 members in reverse order.
unfoldable pub turn : {A : Type 0} → ℕ → List A → List A
turn D l = reverse (take (suc D) l) ++ drop (suc D) l

-- The mirror of each polynomial of a block.
abbrev pub mirror_block : Block → Block
mirror_block b = map mirror b

pub mirror_row-blocks : (D : ℕ) (r : Row) → (mirror_row_of D r).blocks ≡ map mirror_block (turn D r.blocks)
unfolding mirror_row_of map_row turn
mirror_row-blocks D r = refl

map-turn : {A B : Type 0} (f : A → B) (D : ℕ) (l : List A) → turn D (map f l) ≡ map f (turn D l)
unfolding turn
map-turn f D l =
    ap₂ (λ a b. reverse a ++ b) (map-take f (suc D) l) (map-drop f (suc D) l)
    ∙ ap (λ a. a ++ map f (drop (suc D) l)) (map-reverse f (take (suc D) l))
    ∙ sym (map-append f (reverse (take (suc D) l)) (drop (suc D) l))

turn-parts : {A : Type 0} (D : ℕ) (l : List A) → turn D l ≡ reverse (take (suc D) l) ++ drop (suc D) l
unfolding turn
turn-parts D l = refl

module _ {A : Type 0} (D : ℕ) (l : List A) (h : suc D ≤ length l) where
  first-length : length (reverse (take (suc D) l)) ≡ suc D
  first-length = length-reverse (take (suc D) l) ∙ length-take-le (suc D) l h

  take-turn : take (suc D) (turn D l) ≡ reverse (take (suc D) l)
  unfolding turn
  take-turn = take_at (reverse (take (suc D) l)) (drop (suc D) l) (suc D) first-length

  drop-turn : drop (suc D) (turn D l) ≡ drop (suc D) l
  unfolding turn
  drop-turn = drop_at (reverse (take (suc D) l)) (drop (suc D) l) (suc D) first-length

  pub turn-turn : turn D (turn D l) ≡ l
  turn-turn =
      turn-parts D (turn D l) ∙ ap₂ (λ a b. reverse a ++ b) take-turn drop-turn
      ∙ ap (λ a. a ++ drop (suc D) l) (reverse-reverse (take (suc D) l)) ∙ take-append-drop (suc D) l

  -- The member at place D comes to the front.
  turn-front : (d : A) → turn D l ≡ get_or l D d ∷ (reverse (take D l) ++ drop (suc D) l)
  unfolding turn
  turn-front d =
      ap (λ a. reverse a ++ drop (suc D) l) (take-suc l D d h)
      ∙ ap (λ a. a ++ drop (suc D) l) (reverse-append (take D l) (get_or l D d ∷ []))

pub turn-length : {A : Type 0} (D : ℕ) (l : List A) → length (turn D l) ≡ length l
unfolding turn
turn-length D l = length_front l (reverse (take (suc D) l)) (suc D) (length-reverse (take (suc D) l))

-- ---- the mirror twice

-- A row with D + 1 blocks or more.
abbrev pub Reaches : ℕ → Row → Type 0
Reaches D r = suc D ≤ length r.blocks

pub mirror_row-length : (D : ℕ) (r : Row) → length (mirror_row_of D r).blocks ≡ length r.blocks
mirror_row-length D r = ap length (mirror_row-blocks D r) ∙ length-map (turn D r.blocks) mirror_block ∙ turn-length D r.blocks

pub mirror-reaches : (D : ℕ) (r : Row) → Reaches D r → Reaches D (mirror_row_of D r)
mirror-reaches D r h = subst (λ n. suc D ≤ n) (sym (mirror_row-length D r)) h

mirror_block-twice : (b : Block) → mirror_block (mirror_block b) ≡ b
mirror_block-twice [] = refl
mirror_block-twice (p ∷ b) = ap₂ ◌∷◌ (mirror-mirror p) (mirror_block-twice b)

pub mirror_row-twice : (D : ℕ) (r : Row) → Reaches D r → mirror_row_of D (mirror_row_of D r) ≡ r
unfolding mirror_row_of map_row
mirror_row-twice D r h = ap₂ (λ bs q. record { blocks = bs; right = q }) blocks (mirror-mirror r.right)
  where
    blocks : (mirror_row_of D (mirror_row_of D r)).blocks ≡ r.blocks
    blocks =
        mirror_row-blocks D (mirror_row_of D r) ∙ ap (λ bs. map mirror_block (turn D bs)) (mirror_row-blocks D r)
        ∙ ap (map mirror_block) (map-turn mirror_block D (turn D r.blocks) ∙ ap (map mirror_block) (turn-turn D r.blocks h))
        ∙ map_back mirror_block mirror_block r.blocks (all-always (λ b. mirror_block (mirror_block b) ≡ b) mirror_block-twice r.blocks)

pub mirror_relation-twice : (D : ℕ) (e : Relation) → Reaches D e.row → mirror_relation D (mirror_relation D e) ≡ e
unfolding mirror_relation
mirror_relation-twice D e h = ap₂ (λ n r. record { index = n; row = r }) (neg_ℤ-neg_ℤ e.index) (mirror_row-twice D e.row h)

pub mirror_rows-twice : (D : ℕ) (rows : List Row) → All (Reaches D) rows → map (mirror_row_of D) (map (mirror_row_of D) rows) ≡ rows
mirror_rows-twice D rows a =
    map_back (mirror_row_of D) (mirror_row_of D) rows (all-mono (Reaches D) (λ r. mirror_row_of D (mirror_row_of D r) ≡ r) (mirror_row-twice D) rows a)

pub mirror_relations-twice : (D : ℕ) (l : List Relation) → All (λ e. Reaches D e.row) l
    → map (mirror_relation D) (map (mirror_relation D) l) ≡ l
mirror_relations-twice D l a =
    map_back (mirror_relation D) (mirror_relation D) l
    (all-mono (λ e. Reaches D e.row) (λ e. mirror_relation D (mirror_relation D e) ≡ e) (mirror_relation-twice D) l a)

pub mirror_state-twice : (D : ℕ) (s : State) → All (Reaches D) s.rows → All (λ e. Reaches D e.row) s.relations
    → mirror_state D (mirror_state D s) ≡ s
unfolding mirror_state
mirror_state-twice D s a b =
    ap₂ (λ rows relations. record { rows = rows; relations = relations; order = s.order; shifts = s.shifts })
    (mirror_rows-twice D s.rows a) (mirror_relations-twice D s.relations b)

-- ---- the leading block of the mirror

pub mirror-leading_block : (D : ℕ) (r : Row) → Reaches D r → leading_block (mirror_row_of D r) ≡ mirror_block (get_or r.blocks D [])
unfolding leading_block
mirror-leading_block D r h = ap (λ bs. get_or bs 0 []) (mirror_row-blocks D r ∙ ap (map mirror_block) (turn-front D r.blocks h []))

pub mirror-entry : (D : ℕ) (r : Row) (c : ℕ) → Reaches D r → entry (mirror_row_of D r) c ≡ mirror (get_or (get_or r.blocks D []) c [])
unfolding entry mirror
mirror-entry D r c h = ap (λ b. get_or b c []) (mirror-leading_block D r h) ∙ get_or-map mirror (get_or r.blocks D []) c []

-- Block t of the mirror is the mirror of block l.
pub mirror-last_block : (D : ℕ) (r : Row) → Reaches D r → get_or (mirror_row_of D r).blocks D [] ≡ mirror_block (leading_block r)
mirror-last_block D r h =
    sym (mirror_block-twice (get_or (mirror_row_of D r).blocks D []))
    ∙ ap mirror_block (sym (mirror-leading_block D (mirror_row_of D r) (mirror-reaches D r h)) ∙ ap leading_block (mirror_row-twice D r h))

pub mirror-last_entry : (D : ℕ) (r : Row) (c : ℕ) → Reaches D r → get_or (get_or (mirror_row_of D r).blocks D []) c [] ≡ mirror (entry r c)
unfolding entry mirror
mirror-last_entry D r c h = ap (λ b. get_or b c []) (mirror-last_block D r h) ∙ get_or-map mirror (leading_block r) c []

-- The polynomial of a row at a block, counted from block l, and a column.
abbrev at : ℕ → Row → ℕ → Polynomial
at i r c = get_or (get_or r.blocks i []) c []

zip-mirror : (D : ℕ) (rows : List Row) (order : List ℕ) → All (Reaches D) rows
    → zip_with (at D) (map (mirror_row_of D) rows) order ≡ map mirror (zip_with (at 0) rows order)
unfolding zip_with All entry leading_block
zip-mirror D [] order a = refl
zip-mirror D (r ∷ rows) [] a = refl
zip-mirror D (r ∷ rows) (c ∷ order) a = ap₂ ◌∷◌ (mirror-last_entry D r c a.0) (zip-mirror D rows order a.1)

-- The diagonal polynomials of the trailing side are the mirrors of those of the mirrored state's leading side.
pub mirror-diagonal : (D : ℕ) (s : State) → All (Reaches D) s.rows
    → diagonal trailing D (mirror_state D s) ≡ map mirror (diagonal leading D s)
unfolding diagonal diagonal_place mirror_state
mirror-diagonal D s a = zip-mirror D s.rows s.order a

-- ---- values

-- The sequence read backwards.
abbrev pub reflect : Sequence → Sequence
reflect z = λ n c. z (neg_ℤ n) c

blocks-mirror : (n : ℤ) (z : Sequence) (k : ℤ) (bs : List Block) → blocks_value n z k (map mirror_block bs) ≡ blocks_value (neg_ℤ n) z k bs
unfolding map_row
blocks-mirror n z k bs = blocks-always mirror (record { blocks = bs; right = [] }) z n (neg_ℤ n) k (λ p. eval-mirror p n)

blocks-append : (n : ℤ) (z : Sequence) (k : ℤ) (bs cs : List Block)
    → blocks_value n z k (bs ++ cs) ≡ blocks_value n z k bs +ℤ blocks_value n z (k -ℤ pos (length bs)) cs
unfolding blocks_value
blocks-append n z k [] cs = ap (λ i. blocks_value n z i cs) (sym (+ℤ_idr k)) ∙ sym (+ℤ_idl (blocks_value n z (k -ℤ pos 0) cs))
blocks-append n z k (b ∷ bs) cs =
    ap (λ s. block_value n (z k) b +ℤ s) (blocks-append n z (pred_ℤ k) bs cs)
    ∙ ap (λ i. block_value n (z k) b +ℤ (rest +ℤ blocks_value n z i cs)) (index_below k (length bs))
    ∙ sym (+ℤ_assoc (block_value n (z k) b) rest (blocks_value n z (k -ℤ pos (suc (length bs))) cs))
  where
    rest : ℤ
    rest = blocks_value n z (pred_ℤ k) bs

one_block : (n : ℤ) (z : Sequence) (k : ℤ) (b : Block) → blocks_value n z k (b ∷ []) ≡ block_value n (z k) b
unfolding blocks_value
one_block n z k b = +ℤ_idr (block_value n (z k) b)

mirror-minus : (a b : ℤ) → neg_ℤ (a -ℤ b) ≡ b -ℤ a
mirror-minus a b = neg_ℤ-+ℤ a (neg_ℤ b) ∙ ap (λ x. neg_ℤ a +ℤ x) (neg_ℤ-neg_ℤ b) ∙ +ℤ_comm (neg_ℤ a) b

-- The indices that the first of the blocks meets, and the rest.
module _ (k h : ℤ) (i : ℕ) (e : h +ℤ k +ℤ pos 1 ≡ pos (suc i)) where
  indices : h +ℤ k ≡ pos i
  indices = move-right (h +ℤ k) (pos 1) (pos (suc i)) e ∙ -ℤ_one (pos (suc i))

  indices-next : pred_ℤ h +ℤ k +ℤ pos 1 ≡ pos i
  indices-next = ap (λ x. x +ℤ pos 1) (pred_ℤ-+ℤ h k) ∙ +ℤ_one (pred_ℤ (h +ℤ k)) ∙ suc-pred (h +ℤ k) ∙ indices

  reflected-index : neg_ℤ (k -ℤ pos i) ≡ h
  reflected-index = mirror-minus k (pos i) ∙ sym (move-right h k (pos i) indices)

-- The blocks in reverse order meet the reflected sequence at the same indices.
blocks-reverse : (n : ℤ) (z : Sequence) (bs : List Block) (k h : ℤ) → h +ℤ k +ℤ pos 1 ≡ pos (length bs)
    → blocks_value n (reflect z) k (reverse bs) ≡ blocks_value n z h bs
unfolding blocks_value
blocks-reverse n z [] k h e = refl
blocks-reverse n z (b ∷ bs) k h e =
    ap (blocks_value n (reflect z) k) (reverse-cons b bs) ∙ blocks-append n (reflect z) k (reverse bs) (b ∷ [])
    ∙ ap₂ ◌+ℤ◌ (blocks-reverse n z bs k (pred_ℤ h) (indices-next k h (length bs) e)) last
    ∙ +ℤ_comm (blocks_value n z (pred_ℤ h) bs) (block_value n (z h) b)
  where
    last : blocks_value n (reflect z) (k -ℤ pos (length (reverse bs))) (b ∷ []) ≡ block_value n (z h) b
    last =
        ap (λ i. blocks_value n (reflect z) (k -ℤ pos i) (b ∷ [])) (length-reverse bs) ∙ one_block n (reflect z) (k -ℤ pos (length bs)) b
        ∙ ap (λ i. block_value n (z i) b) (reflected-index k h (length bs) e)

-- D + 1 blocks or more, all of them zero after the first D + 1.
pub record Spans (D : ℕ) (r : Row) : Type 0 where
  pub reaches : Reaches D r
  pub zero-after : T (every zero_block (drop (suc D) r.blocks))

pub spans : (m D : ℕ) (r : Row) → Reaches D r → T (unused_zero_of m D r) → Spans D r
spans m D r h u = record { reaches = h; zero-after = (every-all zero_block (drop (suc D) r.blocks)).1 ((unused_zero-iff m D r).0 u).1 }

mirror-indices : (D : ℕ) (l t : ℤ) → l ≡ t +ℤ pos D → (n : ℤ) → neg_ℤ n +ℤ l +ℤ (n -ℤ t) +ℤ pos 1 ≡ pos (suc D)
mirror-indices D l t e n =
    ap (λ x. neg_ℤ n +ℤ x +ℤ (n -ℤ t) +ℤ pos 1) e ∙ regroup (pos D) ∙ ap₂ (λ a b. a +ℤ (b +ℤ (pos D +ℤ pos 1))) (+ℤ_invr n) (+ℤ_invr t)
    ∙ ap pos (omega arith)
  where
    regroup : (d : ℤ) → neg_ℤ n +ℤ (t +ℤ d) +ℤ (n -ℤ t) +ℤ pos 1 ≡ (n -ℤ n) +ℤ ((t -ℤ t) +ℤ (d +ℤ pos 1))
    regroup d = simp (+ℤ_assoc, +ℤ_comm, +ℤ-left-comm)

-- The value of the mirror at n is the value at -n.
pub mirror-value : (D : ℕ) (l t : ℤ) → l ≡ t +ℤ pos D → (r : Row) → Spans D r → (z : Sequence) (n : ℤ)
    → value_of (neg_ℤ t) (mirror_row_of D r) (reflect z) n ≡ value_of l r z (neg_ℤ n)
unfolding value_of mirror_row_of map_row
mirror-value D l t e r s z n =
    ap₂ ◌-ℤ◌
    (ap (blocks_value n (reflect z) (n -ℤ t)) (mirror_row-blocks D r) ∙ blocks-mirror n (reflect z) (n -ℤ t) (turn D r.blocks)
    ∙ ap (blocks_value (neg_ℤ n) (reflect z) (n -ℤ t)) (turn-parts D r.blocks)
    ∙ blocks-append-zero (neg_ℤ n) (reflect z) (n -ℤ t) (reverse first) rest s.zero-after
    ∙ blocks-reverse (neg_ℤ n) z first (n -ℤ t) (neg_ℤ n +ℤ l) (mirror-indices D l t e n ∙ ap pos (sym count))
    ∙ sym (blocks-append-zero (neg_ℤ n) z (neg_ℤ n +ℤ l) first rest s.zero-after)
    ∙ ap (blocks_value (neg_ℤ n) z (neg_ℤ n +ℤ l)) (take-append-drop (suc D) r.blocks))
    (eval-mirror r.right n)
  where
    first : List Block
    first = take (suc D) r.blocks

    rest : List Block
    rest = drop (suc D) r.blocks

    count : length first ≡ suc D
    count = length-take-le (suc D) r.blocks s.reaches

-- ---- what a sequence satisfies

module _ (D : ℕ) (l t : ℤ) (span : l ≡ t +ℤ pos D) (z : Sequence) where
  pub mirror-equation : (r : Row) → Spans D r → SatisfiesEquation l z r ↔ SatisfiesEquation (neg_ℤ t) (reflect z) (mirror_row_of D r)
  unfolding SatisfiesEquation
  mirror-equation r s = (λ h n. mirror-value D l t span r s z n ∙ h (neg_ℤ n), back)
    where
      back : ((n : ℤ) → value_of (neg_ℤ t) (mirror_row_of D r) (reflect z) n ≡ pos 0) → (n : ℤ) → value_of l r z n ≡ pos 0
      back h n = ap (value_of l r z) (sym (neg_ℤ-neg_ℤ n)) ∙ sym (mirror-value D l t span r s z (neg_ℤ n)) ∙ h (neg_ℤ n)

  pub mirror-relation : (e : Relation) → Spans D e.row
      → SatisfiesRelation l z e ↔ SatisfiesRelation (neg_ℤ t) (reflect z) (mirror_relation D e)
  unfolding SatisfiesRelation mirror_relation
  mirror-relation e s = (λ h. same ∙ h, λ h. sym same ∙ h)
    where
      same : value_of (neg_ℤ t) (mirror_row_of D e.row) (reflect z) (neg_ℤ e.index) ≡ value_of l e.row z e.index
      same = mirror-value D l t span e.row s z (neg_ℤ e.index) ∙ ap (value_of l e.row z) (neg_ℤ-neg_ℤ e.index)

  -- The mirror is satisfied by the same sequences, read backwards.
  pub mirror-satisfies : (rows : List Row) (relations : List Relation) → All (Spans D) rows → All (λ e. Spans D e.row) relations
      → Satisfies l rows relations z ↔ Satisfies (neg_ℤ t) (map (mirror_row_of D) rows) (map (mirror_relation D) relations) (reflect z)
  unfolding Satisfies
  mirror-satisfies rows relations a b = (λ h. (equations.0 h.0, conditions.0 h.1), λ h. (equations.1 h.0, conditions.1 h.1))
    where
      equations : All (SatisfiesEquation l z) rows ↔ All (SatisfiesEquation (neg_ℤ t) (reflect z)) (map (mirror_row_of D) rows)
      equations = all-images (Spans D) (SatisfiesEquation l z) (SatisfiesEquation (neg_ℤ t) (reflect z)) (mirror_row_of D) mirror-equation rows a

      conditions : All (SatisfiesRelation l z) relations ↔ All (SatisfiesRelation (neg_ℤ t) (reflect z)) (map (mirror_relation D) relations)
      conditions =
          all-images (λ e. Spans D e.row) (SatisfiesRelation l z) (SatisfiesRelation (neg_ℤ t) (reflect z)) (mirror_relation D)
          mirror-relation relations b

pub reflect-twice : (z : Sequence) → reflect (reflect z) ≡ z
reflect-twice z = fun_ext (λ n. fun_ext (λ c. ap (λ k. z k c) (neg_ℤ-neg_ℤ n)))

-- D is the number of blocks from -l to -t too.
pub mirror-span-sum : (D : ℕ) (l t : ℤ) → l ≡ t +ℤ pos D → neg_ℤ t ≡ neg_ℤ l +ℤ pos D
mirror-span-sum D l t e =
    sym (-ℤ-+ℤ_cancel (neg_ℤ t) (pos D)) ∙ ap (λ x. x +ℤ pos D) (sym (neg_ℤ-+ℤ t (pos D)) ∙ ap neg_ℤ (sym e))

-- The other way round: a sequence satisfies the mirror exactly if the reflected one satisfies the system.
pub mirror-satisfies-back : (D : ℕ) (l t : ℤ) → l ≡ t +ℤ pos D → (z : Sequence) (rows : List Row) (relations : List Relation)
    → All (Spans D) rows → All (λ e. Spans D e.row) relations
    → Satisfies l (map (mirror_row_of D) rows) (map (mirror_relation D) relations) z ↔ Satisfies (neg_ℤ t) rows relations (reflect z)
mirror-satisfies-back D l t e z rows relations a b = Iff.symm (subst₂ Same (neg_ℤ-neg_ℤ l) (reflect-twice z) same)
  where
    Same : ℤ → Sequence → Type 0
    Same k x = Satisfies (neg_ℤ t) rows relations (reflect z) ↔ Satisfies k (map (mirror_row_of D) rows) (map (mirror_relation D) relations) x

    same : Same (neg_ℤ (neg_ℤ l)) (reflect (reflect z))
    same = mirror-satisfies D (neg_ℤ t) (neg_ℤ l) (mirror-span-sum D l t e) (reflect z) rows relations a b

-- ---- sizes

-- The same numbers of unknowns and equations, blocks from -l to -t (SCOPE 2.92).
abbrev pub mirror_sizes : Sizes → Sizes
mirror_sizes z = record { m = z.m; equations = z.equations; l = neg_ℤ z.t; t = neg_ℤ z.l }

-- D = l - t for the mirrored sizes too.
mirror-difference : (l t : ℤ) → neg_ℤ t -ℤ neg_ℤ l ≡ l -ℤ t
mirror-difference l t = ap (λ x. neg_ℤ t +ℤ x) (neg_ℤ-neg_ℤ l) ∙ +ℤ_comm (neg_ℤ t) l

pub mirror-span : (z : Sizes) → span (mirror_sizes z) ≡ span z
unfolding span
mirror-span z = ap nat_abs (mirror-difference z.l z.t)

span-difference : (z : Sizes) → SizeBounds z → pos (span z) ≡ z.l -ℤ z.t
unfolding span
span-difference z f = pos-nat_abs-nonneg (≤ℤ-difference.0 f.ordered)

pub span-sum : (z : Sizes) → T (sizes_right_of z) → z.l ≡ z.t +ℤ pos (span z)
span-sum z h =
    sym (-ℤ-+ℤ_cancel z.l z.t) ∙ +ℤ_comm (z.l -ℤ z.t) z.t ∙ ap (λ x. z.t +ℤ x) (sym (span-difference z (size-bounds z h)))

pub span-bound : (z : Sizes) → T (sizes_right_of z) → span z ≤ 4
span-bound z h = let f = size-bounds z h in pos-≤ℤ.0 (subst (λ x. x ≤ℤ pos 4) (sym (span-difference z f)) f.narrow)

pub mirror-sizes : (z : Sizes) → T (sizes_right_of z) → T (sizes_right_of (mirror_sizes z))
unfolding equations
mirror-sizes z h = bounds-right (mirror_sizes z) (turned (size-bounds z h))
  where
    turned : SizeBounds z → SizeBounds (mirror_sizes z)
    turned f =
        record {
          some = f.some;
          few = f.few;
          few-equations = f.few-equations;
          low = neg_ℤ-≤ℤ.0 f.high;
          ordered = neg_ℤ-≤ℤ.0 f.ordered;
          high = neg_ℤ-≤ℤ.0 f.low;
          narrow = subst (λ x. x ≤ℤ pos 4) (sym (mirror-difference z.l z.t)) f.narrow;
        }

-- ---- valid systems

all-turn : {A : Type 0} (P : A → Type 0) (D : ℕ) (l : List A) → All P l → All P (turn D l)
unfolding turn
all-turn P D l a =
    append-all P (reverse (take (suc D) l)) (drop (suc D) l)
    (reverse-all P (take (suc D) l) (all_take P (suc D) l a)) (all_drop P (suc D) l a)

small-neg_ℤ : (a : ℤ) → Small a → Small (neg_ℤ a)
unfolding small
small-neg_ℤ a h = subst (λ n. T (leb n bound)) (sym (nat_abs-neg_ℤ a)) h

small-mirror : (p : Polynomial) → All Small p → All Small (mirror p)
unfolding mirror negate All
small-mirror [] a = tt
small-mirror (x ∷ p) a = (a.0, map-keeps Small Small neg_ℤ small-neg_ℤ (mirror p) (small-mirror p a.1))

pub mirror-small : (D : ℕ) (r : Row) → T (small_row r) → T (small_row (mirror_row_of D r))
unfolding mirror_row_of map_row
mirror-small D r h =
    (small_row-iff (mirror_row_of D r)).1 (
      subst (All Fits) (sym (mirror_row-blocks D r)) (map-keeps Fits Fits mirror_block block (turn D r.blocks) turned),
      small-mirror r.right ((small_row-iff r).0 h).1,
    )
  where
    Fits : Block → Type 0
    Fits b = All (All Small) b

    turned : All Fits (turn D r.blocks)
    turned = all-turn Fits D r.blocks ((small_row-iff r).0 h).0

    block : (b : Block) → Fits b → Fits (mirror_block b)
    block b a = map-keeps (All Small) (All Small) mirror small-mirror b a

is_zero-kept : (p : Polynomial) → T (is_zero_of p) → T (is_zero_of (mirror p))
is_zero-kept p z = subst T (sym (is_zero-mirror p)) z

turned-unused : (m D : ℕ) (r : Row) → Reaches D r → T (unused_zero_of m D r) → T (unused_zero_of m D (record { blocks = turn D r.blocks; right = r.right }))
turned-unused m D r h u = (unused_zero-iff m D (record { blocks = turn D r.blocks; right = r.right })).1 (
  all-turn (λ b. T (zero_block (drop m b))) D r.blocks ((unused_zero-iff m D r).0 u).0,
  subst (All (λ b. T (zero_block b))) (sym (drop-turn D r.blocks h)) ((unused_zero-iff m D r).0 u).1,
)

pub mirror-unused : (m D : ℕ) (r : Row) → Reaches D r → T (unused_zero_of m D r) → T (unused_zero_of m D (mirror_row_of D r))
unfolding mirror_row_of turn
mirror-unused m D r h u =
    let turned : Row = record { blocks = turn D r.blocks; right = r.right } in
    unused-kept m D turned (map_row mirror turned) (map_row-zero mirror refl is_zero-kept turned) (turned-unused m D r h u)

-- Rows of D + 1 blocks that pass the check still pass it, for the mirrored sizes.
pub mirror-row_right : (z : Sizes) (r : Row) → Reaches (span z) r → T (row_right_of z r) → T (row_right_of (mirror_sizes z) (mirror_row_of (span z) r))
mirror-row_right z r h t =
    let both = (row_right-iff z r).0 t in
    (row_right-iff (mirror_sizes z) (mirror_row_of (span z) r)).1
    (mirror-small (span z) r both.0, unused both.1)
  where
    unused : T (unused_zero_of z.m (span z) r) → T (unused_zero_of z.m (span (mirror_sizes z)) (mirror_row_of (span z) r))
    unused u = subst (λ D. T (unused_zero_of z.m D (mirror_row_of (span z) r))) (sym (mirror-span z)) (mirror-unused z.m (span z) r h u)

pub mirror-relation_right : (z : Sizes) (e : Relation) → Reaches (span z) e.row → T (relation_right_of z e)
    → T (relation_right_of (mirror_sizes z) (mirror_relation (span z) e))
unfolding mirror_relation
mirror-relation_right z e h t =
    let both = (relation_right-iff z e).0 t in
    (relation_right-iff (mirror_sizes z) (mirror_relation (span z) e)).1
    (small-neg_ℤ e.index both.0, mirror-row_right z e.row h both.1)

-- A row as a store holds it has enough blocks.
pub store_row-reaches : (z : Sizes) → T (sizes_right_of z) → (r : Row) → StoreRow r → Reaches (span z) r
unfolding Shaped
store_row-reaches z h r s = omega (arith, span-bound z h, s.0)

pub valid-row-spans : (z : Sizes) → T (sizes_right_of z) → (r : Row) → StoreRow r → T (row_right_of z r) → Spans (span z) r
valid-row-spans z h r s t = spans z.m (span z) r (store_row-reaches z h r s) ((row_right-iff z r).0 t).1

module _ (z : Sizes) (rows : List Row) (relations : List Relation) (valid : ValidRows z rows relations) where
  RowFacts : Row → Type 0
  RowFacts r = StoreRow r × T (row_right_of z r)

  RelationFacts : Relation → Type 0
  RelationFacts e = StoreRow e.row × T (relation_right_of z e)

  rows-facts : All RowFacts rows
  unfolding RowFacts
  rows-facts = all_both StoreRow (λ r. T (row_right_of z r)) rows valid.row-shapes ((every-all (row_right_of z) rows).0 valid.rows_right)

  relations-facts : All RelationFacts relations
  unfolding RelationFacts
  relations-facts =
      all_both (λ e. StoreRow e.row) (λ e. T (relation_right_of z e)) relations
      valid.relation-shapes ((every-all (relation_right_of z) relations).0 valid.relations-right)

  pub valid-rows-span : All (Spans (span z)) rows
  unfolding RowFacts
  valid-rows-span = all-mono RowFacts (Spans (span z)) (λ r f. valid-row-spans z valid.sizes r f.0 f.1) rows rows-facts

  pub valid-relations-span : All (λ e. Spans (span z) e.row) relations
  unfolding RelationFacts
  valid-relations-span = all-mono RelationFacts (λ e. Spans (span z) e.row) one relations relations-facts
    where
      one : (e : Relation) → RelationFacts e → Spans (span z) e.row
      one e f = valid-row-spans z valid.sizes e.row f.0 ((relation_right-iff z e).0 f.1).1

  shape : (r : Row) → StoreRow r → StoreRow (mirror_row_of (span z) r)
  shape = mirror_row-shaped block_count column_count coefficient_count (span z)

  relation-shape : (e : Relation) → StoreRow e.row → StoreRow (mirror_relation (span z) e).row
  unfolding mirror_relation
  relation-shape e = shape e.row

  row-right : (r : Row) → RowFacts r → T (row_right_of (mirror_sizes z) (mirror_row_of (span z) r))
  unfolding RowFacts
  row-right r f = mirror-row_right z r (store_row-reaches z valid.sizes r f.0) f.1

  relation-right : (e : Relation) → RelationFacts e → T (relation_right_of (mirror_sizes z) (mirror_relation (span z) e))
  unfolding RelationFacts
  relation-right e f = mirror-relation_right z e (store_row-reaches z valid.sizes e.row f.0) f.1

  -- The mirror, on which the trailing side runs, is a valid system again, of as many rows (SCOPE 2.91, 2.92).
  pub mirror-valid : ValidRows (mirror_sizes z) (map (mirror_row_of (span z)) rows) (map (mirror_relation (span z)) relations)
  mirror-valid =
      record {
        sizes = mirror-sizes z valid.sizes;
        row-shapes = map-keeps StoreRow StoreRow (mirror_row_of (span z)) shape rows valid.row-shapes;
        rows_right =
            (every-all (row_right_of (mirror_sizes z)) (map (mirror_row_of (span z)) rows)).1
            (map-keeps RowFacts (λ r. T (row_right_of (mirror_sizes z) r)) (mirror_row_of (span z)) row-right rows rows-facts);
        relation-count = subst (λ n. T (count_right n)) (sym (length-map relations (mirror_relation (span z)))) valid.relation-count;
        relation-shapes =
            map-keeps (λ e. StoreRow e.row) (λ e. StoreRow e.row) (mirror_relation (span z)) relation-shape relations
            valid.relation-shapes;
        relations-right =
            (every-all (relation_right_of (mirror_sizes z)) (map (mirror_relation (span z)) relations)).1
            (map-keeps RelationFacts (λ e. T (relation_right_of (mirror_sizes z) e)) (mirror_relation (span z)) relation-right
            relations relations-facts);
      }

-- ---- dependence

reflected-shift : (N j a : ℕ) → N + N ≡ j + a → neg_ℤ (pos a -ℤ pos N) ≡ pos j -ℤ pos N
reflected-shift N j a e =
    mirror-minus (pos a) (pos N) ∙ sym (cancel-common (pos N) (pos a) (pos N)) ∙ ap₂ ◌-ℤ◌ (ap pos e) (+ℤ_comm (pos a) (pos N))
    ∙ cancel-common (pos j) (pos N) (pos a)

-- The shifts from -N to N, the other way round.
sum_within-reflect : (N : ℕ) (f : ℤ → ℤ) → sum_within N (λ k. f (neg_ℤ k)) ≡ sum_within N f
sum_within-reflect N f =
    sum_within-below N (λ k. f (neg_ℤ k)) ∙ sum_below-reverse (suc (N + N)) (λ j. f (neg_ℤ (pos j -ℤ pos N)))
    ∙ sum_below-congr (suc (N + N)) (λ j. f (neg_ℤ (pos (suc (N + N) - suc j) -ℤ pos N))) (λ j. f (pos j -ℤ pos N)) (λ j h. ap f (place j h))
    ∙ sym (sum_within-below N f)
  where
    place : (j : ℕ) → j < suc (N + N) → neg_ℤ (pos (suc (N + N) - suc j) -ℤ pos N) ≡ pos j -ℤ pos N
    place j h = reflected-shift N j (suc (N + N) - suc j) (omega arith)

module _ (m : ℕ) (E E' : Values) (mirrored : (z : Sequence) (i : ℕ) (n : ℤ) → i < m → E' z i n ≡ E (reflect z) i (neg_ℤ n)) where
  -- The multipliers of the mirror: -n for n, and shift -k for k.
  mirror_multipliers : (ℕ → ℤ → Polynomial) → ℕ → ℤ → Polynomial
  mirror_multipliers S i k = mirror (S i (neg_ℤ k))

  copies-mirror : (N : ℕ) (S : ℕ → ℤ → Polynomial) (z : Sequence) (x : ℤ) (i : ℕ) → i < m
      → copies E' N (mirror_multipliers S) z x i ≡ copies E N S (reflect z) (neg_ℤ x) i
  unfolding copies mirror_multipliers sum_within
  copies-mirror N S z x i h =
      sum_over-congr (λ k. eval (mirror (S i (neg_ℤ k))) x *ℤ E' z i (x +ℤ k)) (λ k. f (neg_ℤ k)) one (shifts_within N) ∙ sum_within-reflect N f
    where
      f : ℤ → ℤ
      f k = eval (S i k) (neg_ℤ x) *ℤ E (reflect z) i (neg_ℤ x +ℤ k)

      one : (k : ℤ) → eval (mirror (S i (neg_ℤ k))) x *ℤ E' z i (x +ℤ k) ≡ f (neg_ℤ k)
      one k = ap₂ ◌*ℤ◌ (eval-mirror (S i (neg_ℤ k)) x) (mirrored z i (x +ℤ k) h ∙ ap (E (reflect z) i) (neg_ℤ-+ℤ x k))

  values-mirror : DependentValues m E → DependentValues m E'
  unfolding mirror_multipliers combination_value
  values-mirror d =
      record {
        reach = d.reach;
        multiplier = mirror_multipliers d.multiplier;
        number = d.number;
        shift = neg_ℤ d.shift;
        number-below = d.number-below;
        shift-within = subst (λ n. n ≤ d.reach) (sym (nat_abs-neg_ℤ d.shift)) d.shift-within;
        nonzero = subst (λ b. T (not b)) (sym same) d.nonzero;
        vanishes = vanish;
      }
    where
      same : is_zero_of (mirror (d.multiplier d.number (neg_ℤ (neg_ℤ d.shift)))) ≡ is_zero_of (d.multiplier d.number d.shift)
      same =
          is_zero-mirror (d.multiplier d.number (neg_ℤ (neg_ℤ d.shift)))
          ∙ ap (λ k. is_zero_of (d.multiplier d.number k)) (neg_ℤ-neg_ℤ d.shift)

      vanish : (z : Sequence) (x : ℤ) → combination_value m E' d.reach (mirror_multipliers d.multiplier) z x ≡ pos 0
      vanish z x =
          sum_below-congr m (copies E' d.reach (mirror_multipliers d.multiplier) z x)
          (copies E d.reach d.multiplier (reflect z) (neg_ℤ x)) (copies-mirror d.reach d.multiplier z x)
          ∙ d.vanishes (reflect z) (neg_ℤ x)

-- Equations whose values are those of others, mirrored, are dependent exactly if those are.
values-mirror-iff : (m : ℕ) (E E' : Values) → ((z : Sequence) (i : ℕ) (n : ℤ) → i < m → E' z i n ≡ E (reflect z) i (neg_ℤ n))
    → DependentValues m E ↔ DependentValues m E'
values-mirror-iff m E E' h = (values-mirror m E E' h, values-mirror m E' E back)
  where
    back : (z : Sequence) (i : ℕ) (n : ℤ) → i < m → E z i n ≡ E' (reflect z) i (neg_ℤ n)
    back z i n p = sym (h (reflect z) i (neg_ℤ n) p ∙ ap₂ (λ x k. E x i k) (reflect-twice z) (neg_ℤ-neg_ℤ n))

mirrored-row : (D : ℕ) (rows : List Row) (i : ℕ) → get_or (map (mirror_row_of D) rows) i no_row ≡ mirror_row_of D (get_or rows i no_row)
unfolding mirror_row_of map_row
mirrored-row D rows i = get_or-map (mirror_row_of D) rows i no_row

-- A system and its mirror are both dependent, or neither is.
pub mirror-dependent : (D : ℕ) (l t : ℤ) → l ≡ t +ℤ pos D → (rows : List Row) → All (Spans D) rows
    → Dependent l rows ↔ Dependent (neg_ℤ t) (map (mirror_row_of D) rows)
mirror-dependent D l t e rows a =
    Iff.trans (dependent-values l rows) (Iff.trans (values-mirror-iff (length rows) (row_values l rows) mirrored values) back)
  where
    mirrored : Values
    mirrored = row_values (neg_ℤ t) (map (mirror_row_of D) rows)

    values : (z : Sequence) (i : ℕ) (n : ℤ) → i < length rows → mirrored z i n ≡ row_values l rows (reflect z) i (neg_ℤ n)
    values z i n h =
        ap₂ (λ r x. value_of (neg_ℤ t) r x n) (mirrored-row D rows i) (sym (reflect-twice z))
        ∙ mirror-value D l t e (get_or rows i no_row) (all_get_or (Spans D) rows no_row i h a) (reflect z) n

    back : DependentValues (length rows) mirrored ↔ Dependent (neg_ℤ t) (map (mirror_row_of D) rows)
    back =
        subst (λ m. DependentValues m mirrored ↔ Dependent (neg_ℤ t) (map (mirror_row_of D) rows)) (length-map rows (mirror_row_of D))
        (Iff.symm (dependent-values (neg_ℤ t) (map (mirror_row_of D) rows)))
