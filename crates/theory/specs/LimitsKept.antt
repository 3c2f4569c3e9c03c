-- The limits are kept: a step from a valid system leads to a valid system.
--
-- Main definitions
--   StateShaped s       every row and every relation of s has the shape of a row in a store
--   Small a             a is within ±C
--   StateRight z s      every row and every relation of s passes the check of the numbers (SCOPE 3.34)
--   ValidRows z rows relations   a valid system but for the number of its rows
--
-- Main statements
--   small_row-iff                  a row is within ±C exactly if its coefficients are
--   entry-small, root-small       the entries of a row within ±C, and the integer roots of a polynomial within ±C
--   current-shaped, pivot-shaped, combined-shaped, shifted-shaped   the shapes of the rows of a step
--   stepped-shapes, chain-shapes  steps keep the shapes
--   row_right-iff, relation_right-iff   what the checks of a row and of a relation test
--   stepped-right                 a step keeps the numbers right
--   valid-rows, counted-valid     the rows of a valid system are valid; valid rows, no more than there were, are a valid system of so many
--   stepped-valid, valid-kept     the output of a run is valid, as its input was
use Rattle.std.specs.Prelude.{◌≡◌, refl, ◌↔◌, ℕ, ◌≤◌, ◌<◌, Bool, true, false, not, length, set, ℤ, pos, nat_abs}
use Rattle.std.proofs.Common.{sym, ◌∙◌, subst, zero-le, le_trans, arith, leb→le, le→leb}
use Rattle.std.proofs.Math.Nat.{le_of_dvd}
use mathlib.Core.List.{List, [], ◌∷◌, flatten, Mem, not-mem-nil, ◌++◌}
use Rattle.std.proofs.Math.Dec.{T}
use Rattle.std.proofs.Math.ListN.{get_or}
use Rattle.std.proofs.Math.IntN.{ℤ_discrete}
use Rattle.algebra.specs.Polynomials.{Polynomial, coeff, is_zero_of, lowest, is_zero-cons}
use Rattle.lists.specs.Tests.{T-&&, cond-passed, every, all-of-every, every-of-all, every-all}
use Rattle.algebra.specs.Coefficients.{lowest-place}
use Rattle.algebra.specs.Vanishing.{root-divides-lowest, lowest-positive}
use Rattle.algebra.specs.Roots.{roots, is_constant, roots-sound}
use Rattle.rules.specs.Limits.{bound, coefficient_count, most_relations, small, column_count, block_count}
use Rattle.rules.specs.Rows.{Row, Relation, no_row, coefficients_of, leading_block, entry, small_row, shift_up}
use Rattle.lists.specs.Everywhere.{All, all-get_or-default, all_get_or, all_set, append-all, all-flatten, all_append}
use Rattle.rules.specs.Elimination.{Side, State, start, within, limit_degrees, limit_coefficients, row_at, put_row, list_relations, settle}
use Rattle.rules.specs.Elimination.{count_shift, root_relations, multipliers_at, drop_row}
use Rattle.rules.specs.Stores.{Sizes, equations, with_equations_of, span, sizes_right_of, count_right, unused_zero_of, row_right_of, relation_right_of, Valid}
use Rattle.rules.specs.Stores.{StoreRow}
use Rattle.rules.specs.Layout.{size-bounds, bounds-right}
use Rattle.lists.specs.Places.{without, all_without}
use Rattle.theory.specs.Steps.{Stepped, combined, settled, shifted, dropped, Chain, chain-induction, current, exchanged}
use Rattle.theory.specs.Steps.{combination, multipliers_for, limit_degrees-within, limit_coefficients-within, relations-narrow_first}
use Rattle.theory.specs.Steps.{length-narrow_first, met, order-narrow_first, narrow_first-all}
use Rattle.theory.specs.Multipliers.{multipliers-small, length-multipliers-g, length-multipliers-h}
use Rattle.theory.specs.Shapes.{entry-column, entry_length}
use Rattle.theory.specs.AddRelations.{root_relations-all}
use Rattle.theory.specs.Combine.{combined_row-shaped, combine-unused}
use Rattle.theory.specs.Triangular.{combined-zero}
use Rattle.theory.specs.ShiftUp.{shift_up-shaped, shift_up-unused}

-- ---- sizes

-- Within ±C (SCOPE 1.4).
abbrev pub Small : ℤ → Type 0
Small a = T (small a)

pub small_row-iff : (r : Row) → T (small_row r) ↔ (All (All (All Small)) r.blocks × All Small r.right)
unfolding small_row coefficients_of
small_row-iff r = (
  λ h. let both = parts.0 (tests.0 h) in (blocks.0 (coefficients.0 both.0), both.1),
  λ a. tests.1 (parts.1 (coefficients.1 (blocks.1 a.0), a.1)),
)
  where
    tests : T (every small (flatten (flatten r.blocks) ++ r.right)) ↔ All Small (flatten (flatten r.blocks) ++ r.right)
    tests = every-all small (flatten (flatten r.blocks) ++ r.right)

    parts : All Small (flatten (flatten r.blocks) ++ r.right) ↔ (All Small (flatten (flatten r.blocks)) × All Small r.right)
    parts = all_append Small (flatten (flatten r.blocks)) r.right

    coefficients : All Small (flatten (flatten r.blocks)) ↔ All (All Small) (flatten r.blocks)
    coefficients = all-flatten Small (flatten r.blocks)

    blocks : All (All Small) (flatten r.blocks) ↔ All (All (All Small)) r.blocks
    blocks = all-flatten (All Small) r.blocks

pub entry-small : (r : Row) (c : ℕ) → T (small_row r) → T (every small (entry r c))
unfolding entry leading_block All
entry-small r c h =
    every-of-all small (get_or (get_or r.blocks 0 []) c [])
    (all-get_or-default (All (λ a. T (small a))) (get_or r.blocks 0 []) [] c tt
    (all-get_or-default (All (All (λ a. T (small a)))) r.blocks [] 0 tt ((small_row-iff r).0 h).0))

-- The zero polynomial has no roots in the list.
roots-of-zero : (p : Polynomial) → T (is_zero_of p) → roots p ≡ []
unfolding roots is_constant
roots-of-zero [] h = refl
roots-of-zero (a ∷ p) h = cond-passed (is_zero_of p) [] _ ((is_zero-cons a p).0 h).1

lowest-small : (g : Polynomial) → T (every small g) → T (not (is_zero_of g)) → nat_abs (lowest g) ≤ bound
unfolding coeff small
lowest-small g h nonzero = let (k, e, _) = lowest-place g nonzero in
    leb→le (nat_abs (lowest g)) bound
    (subst (λ a. T (small a)) e (all-get_or-default (λ a. T (small a)) g (pos 0) k tt (all-of-every small g h)))

-- A nonzero root divides the lowest nonzero coefficient.
pub root-small : (g : Polynomial) (n : ℤ) → T (every small g) → Mem n (roots g) → T (small n)
unfolding small
root-small g n h m = le→leb (nat_abs n) bound (cases (is_zero_of g) refl (ℤ_discrete n (pos 0)))
  where
    cases : (t : Bool) → is_zero_of g ≡ t → Dec (n ≡ pos 0) → nat_abs n ≤ bound
    cases true e z = absurd (not-mem-nil (subst (Mem n) (roots-of-zero g (rw e tt)) m))
    cases false e (yes z) = subst (λ a. nat_abs a ≤ bound) (sym z) zero-le
    cases false e (no z) =
        let nonzero : T (not (is_zero_of g)) = rw e tt in
        le_trans (le_of_dvd (lowest-positive g nonzero) (root-divides-lowest g n nonzero z (roots-sound g m))) (lowest-small g h nonzero)

-- ---- steps keep the shapes

-- Every row and every relation has the shape of a row in a store.
pub record StateShaped (s : State) : Type 0 where
  pub row-shapes : All StoreRow s.rows
  pub relation-shapes : All (λ e. StoreRow e.row) s.relations

module _ (s : State) (j : ℕ) (before : j < current s) (below : current s < length s.rows) (shapes : All StoreRow s.rows) where
  -- The two rows of a combination, after the exchange.
  pub exchanged-shapes : All StoreRow (exchanged s j).rows
  exchanged-shapes = (narrow_first-all StoreRow s (current s) j below (omega arith)).1 shapes

  pub current-shaped : StoreRow (row_at (exchanged s j) (current s))
  unfolding row_at
  current-shaped = all_get_or StoreRow (exchanged s j).rows no_row (current s)
      (omega (arith, length-narrow_first s (current s) j)) exchanged-shapes

  pub pivot-shaped : StoreRow (row_at (exchanged s j) j)
  unfolding row_at
  pivot-shaped = all_get_or StoreRow (exchanged s j).rows no_row j (omega (arith, length-narrow_first s (current s) j)) exchanged-shapes

  module _ (nonzero : T (not (is_zero_of (met s j)))) where
    pub met-column : get_or s.order j 0 < column_count
    unfolding row_at
    met-column = entry-column block_count column_count coefficient_count (row_at s (current s)) (get_or s.order j 0) (omega arith)
        (all_get_or StoreRow s.rows no_row (current s) below shapes) nonzero

    entry-length-at : (r : Row) → StoreRow r → length (entry r (get_or (exchanged s j).order j 0)) ≡ coefficient_count
    entry-length-at r h = entry_length block_count column_count coefficient_count r (get_or (exchanged s j).order j 0) (omega arith) h
        (subst (λ l. get_or l j 0 < column_count) (sym (order-narrow_first s (current s) j)) met-column)

    pub multipliers_for-lengths : (length (multipliers_for s j).g ≡ coefficient_count) × (length (multipliers_for s j).h ≡ coefficient_count)
    unfolding multipliers_at
    multipliers_for-lengths =
        let c = get_or (exchanged s j).order j 0 in
        let a = entry (row_at (exchanged s j) j) c in
        let b = entry (row_at (exchanged s j) (current s)) c in (
          length-multipliers-g a b ∙ entry-length-at (row_at (exchanged s j) j) pivot-shaped,
          length-multipliers-h a b ∙ entry-length-at (row_at (exchanged s j) (current s)) current-shaped,
        )

    pub combined-shaped : (r : Row) → limit_degrees (combination s j) ≡ within r → StoreRow r
    combined-shaped r e =
        subst StoreRow (sym (limit_degrees-within (combination s j) r e).2)
        (combined_row-shaped (multipliers_for s j).g (multipliers_for s j).h 15 multipliers_for-lengths.0 multipliers_for-lengths.1
        block_count column_count 15 (row_at (exchanged s j) (current s)) (row_at (exchanged s j) j) (omega arith) current-shaped pivot-shaped)

pub shifted-shaped : (s : State) → current s < length s.rows → All StoreRow s.rows → (r : Row)
    → limit_coefficients (shift_up (row_at s (current s))) ≡ within r → StoreRow r
unfolding row_at
shifted-shaped s below shapes r e =
    subst StoreRow (sym (limit_coefficients-within (shift_up (row_at s (current s))) r e).1)
    (shift_up-shaped block_count column_count coefficient_count (row_at s (current s)) (omega arith)
    (all_get_or StoreRow s.rows no_row (current s) below shapes))

-- A step keeps the shapes.
pub stepped-shapes : {side : Side} {s s' : State} → Stepped side s s' → StateShaped s → StateShaped s'
unfolding put_row list_relations settle count_shift drop_row
stepped-shapes {side} {s} (combined j before below nonzero clear meets few r e) h =
    record {
      row-shapes = all_set StoreRow (exchanged s j).rows (current s) r (combined-shaped s j before below h.row-shapes meets r e)
          (exchanged-shapes s j before below h.row-shapes);
      relation-shapes = append-all (λ e. StoreRow e.row) (exchanged s j).relations
          (root_relations side (multipliers_for s j).g (row_at (exchanged s j) (current s)))
          (subst (All (λ e. StoreRow e.row)) (sym (relations-narrow_first s (current s) j)) h.relation-shapes)
          (root_relations-all (λ e. StoreRow e.row) side (multipliers_for s j).g (row_at (exchanged s j) (current s))
          (λ n m. current-shaped s j before below h.row-shapes));
    }
stepped-shapes (settled c below nonzero clear e) h = record { row-shapes = h.row-shapes; relation-shapes = h.relation-shapes }
stepped-shapes {s} (shifted r below nonzero clear f e) h =
    record {
      row-shapes = all_set StoreRow s.rows (current s) r (shifted-shaped s below h.row-shapes r e) h.row-shapes;
      relation-shapes = h.relation-shapes;
    }
stepped-shapes {s} (dropped below zeros) h =
    record { row-shapes = all_without StoreRow s.rows (current s) h.row-shapes; relation-shapes = h.relation-shapes }

pub chain-shapes : {side : Side} {s s' : State} {k : ℕ} → Chain side s k s' → StateShaped s → StateShaped s'
chain-shapes {side} c h = chain-induction side StateShaped (λ u v. stepped-shapes) c h

-- ---- steps keep the numbers right

-- Every row and every relation passes the check of the numbers.
pub record StateRight (z : Sizes) (s : State) : Type 0 where
  pub rows_right : T (every (row_right_of z) s.rows)
  pub relations-right : T (every (relation_right_of z) s.relations)

pub row_right-iff : (z : Sizes) (r : Row) → T (row_right_of z r) ↔ (T (small_row r) × T (unused_zero_of z.m (span z) r))
unfolding row_right_of
row_right-iff z r = T-&& (small_row r) (unused_zero_of z.m (span z) r)

pub relation_right-iff : (z : Sizes) (e : Relation) → T (relation_right_of z e) ↔ (T (small e.index) × T (row_right_of z e.row))
unfolding relation_right_of
relation_right-iff z e = T-&& (small e.index) (row_right_of z e.row)

module _ (z : Sizes) (s : State) (j : ℕ) (before : j < current s) (below : current s < length s.rows)
    (right : All (λ r. T (row_right_of z r)) s.rows) where
  -- The rows after the exchange.
  exchanged-right : All (λ r. T (row_right_of z r)) (exchanged s j).rows
  exchanged-right = (narrow_first-all (λ r. T (row_right_of z r)) s (current s) j below (omega arith)).1 right

  exchanged-row : (i : ℕ) → i ≤ current s → T (row_right_of z (row_at (exchanged s j) i))
  unfolding row_at
  exchanged-row i h = all_get_or (λ r. T (row_right_of z r)) (exchanged s j).rows no_row i
      (omega (arith, length-narrow_first s (current s) j)) exchanged-right

  g-small : T (every small (multipliers_for s j).g)
  unfolding multipliers_at
  g-small =
      let c = get_or (exchanged s j).order j 0 in
      let a = row_at (exchanged s j) j in
      let b = row_at (exchanged s j) (current s) in
      (multipliers-small (entry a c) (entry b c) (entry-small a c ((row_right-iff z a).0 (exchanged-row j (omega arith))).0)
      (entry-small b c ((row_right-iff z b).0 (exchanged-row (current s) (omega arith))).0)).0

  combined-right : (r : Row) → limit_degrees (combination s j) ≡ within r → T (row_right_of z r)
  combined-right r e =
      let g = (multipliers_for s j).g in
      let h = (multipliers_for s j).h in
      let a = row_at (exchanged s j) (current s) in
      let b = row_at (exchanged s j) j in
      let limits = limit_degrees-within (combination s j) r e in
      (row_right-iff z r).1 (
        subst (λ q. T (small_row q)) (sym limits.2) limits.1,
        combine-unused g h z.m (span z) a b r (combined-zero s j r e)
            ((row_right-iff z a).0 (exchanged-row (current s) (omega arith))).1 ((row_right-iff z b).0 (exchanged-row j (omega arith))).1,
      )

  listed-right : (side : Side)
      → All (λ e. T (relation_right_of z e)) (root_relations side (multipliers_for s j).g (row_at (exchanged s j) (current s)))
  listed-right side = root_relations-all (λ e. T (relation_right_of z e)) side (multipliers_for s j).g (row_at (exchanged s j) (current s))
      (λ n m. (relation_right-iff z (record { index = n; row = row_at (exchanged s j) (current s) })).1
      (root-small (multipliers_for s j).g n g-small m, exchanged-row (current s) (omega arith)))

shifted-right : (z : Sizes) (s : State) (r : Row) → current s < length s.rows → All (λ r. T (row_right_of z r)) s.rows
    → limit_coefficients (shift_up (row_at s (current s))) ≡ within r → T (row_right_of z r)
unfolding row_at
shifted-right z s r below right e =
    let q = row_at s (current s) in
    let limits = limit_coefficients-within (shift_up q) r e in
    subst (λ q. T (row_right_of z q)) (sym limits.1) ((row_right-iff z (shift_up q)).1 (
      limits.0,
      shift_up-unused z.m (span z) q
          ((row_right-iff z q).0 (all_get_or (λ r. T (row_right_of z r)) s.rows no_row (current s) below right)).1,
    ))

pub stepped-right : {side : Side} {s s' : State} {z : Sizes} → Stepped side s s' → StateRight z s → StateRight z s'
unfolding put_row list_relations settle count_shift drop_row
stepped-right {side} {s} {z} (combined j before below nonzero clear meets few r e) h =
    let right = all-of-every (row_right_of z) s.rows h.rows_right in
    record {
      rows_right = every-of-all (row_right_of z) (set (exchanged s j).rows (current s) r)
          (all_set (λ q. T (row_right_of z q)) (exchanged s j).rows (current s) r (combined-right z s j before below right r e)
          (exchanged-right z s j before below right));
      relations-right = every-of-all (relation_right_of z) _
          (append-all (λ e. T (relation_right_of z e)) (exchanged s j).relations _
          (subst (All (λ e. T (relation_right_of z e))) (sym (relations-narrow_first s (current s) j))
          (all-of-every (relation_right_of z) s.relations h.relations-right))
          (listed-right z s j before below right side));
    }
stepped-right (settled c below nonzero clear e) h = record { rows_right = h.rows_right; relations-right = h.relations-right }
stepped-right {s} {z} (shifted r below nonzero clear f e) h =
    let right = all-of-every (row_right_of z) s.rows h.rows_right in
    record {
      rows_right = every-of-all (row_right_of z) (set s.rows (current s) r)
          (all_set (λ q. T (row_right_of z q)) s.rows (current s) r (shifted-right z s r below right e) right);
      relations-right = h.relations-right;
    }
stepped-right {s} {z} (dropped below zeros) h =
    record {
      rows_right = every-of-all (row_right_of z) (without s.rows (current s))
          (all_without (λ q. T (row_right_of z q)) s.rows (current s) (all-of-every (row_right_of z) s.rows h.rows_right));
      relations-right = h.relations-right;
    }

stepped-count : {side : Side} {s s' : State} → Stepped side s s'
    → length s.relations ≤ most_relations → length s'.relations ≤ most_relations
unfolding put_row settle count_shift drop_row
stepped-count (combined j before below nonzero clear meets few r e) h = few
stepped-count (settled c below nonzero clear e) h = h
stepped-count (shifted r below nonzero clear f e) h = h
stepped-count (dropped below zeros) h = h

-- All that Valid says but the number of rows, which a drop changes.
pub record ValidRows (z : Sizes) (rows : List Row) (relations : List Relation) : Type 0 where
  pub sizes : T (sizes_right_of z)
  pub row-shapes : All StoreRow rows
  pub rows_right : T (every (row_right_of z) rows)
  pub relation-count : T (count_right (length relations))
  pub relation-shapes : All (λ e. StoreRow e.row) relations
  pub relations-right : T (every (relation_right_of z) relations)

pub valid-rows : {z : Sizes} {rows : List Row} {relations : List Relation} → Valid z rows relations → ValidRows z rows relations
valid-rows v =
    record {
      sizes = v.sizes;
      row-shapes = v.row-shapes;
      rows_right = v.rows_right;
      relation-count = v.relation-count;
      relation-shapes = v.relation-shapes;
      relations-right = v.relations-right;
    }

pub counted-valid : {z : Sizes} {rows : List Row} {relations : List Relation} → ValidRows z rows relations → {n : ℕ} → length rows ≡ n
    → n ≤ equations z → Valid (with_equations_of n z) rows relations
unfolding with_equations_of equations span row_right_of relation_right_of
counted-valid {z} v {n} e few =
    let f = size-bounds z v.sizes in
    record {
      sizes = bounds-right (with_equations_of n z) (record {
        some = f.some;
        few = f.few;
        few-equations = le_trans few f.few-equations;
        low = f.low;
        ordered = f.ordered;
        high = f.high;
        narrow = f.narrow;
      });
      row_count = e;
      row-shapes = v.row-shapes;
      rows_right = v.rows_right;
      relation-count = v.relation-count;
      relation-shapes = v.relation-shapes;
      relations-right = v.relations-right;
    }

pub stepped-valid : {side : Side} {s s' : State} {z : Sizes} → Stepped side s s'
    → ValidRows z s.rows s.relations → ValidRows z s'.rows s'.relations
unfolding count_right
stepped-valid {side} {s} {s'} {z} t v =
    record {
      sizes = v.sizes;
      row-shapes = shaped.row-shapes;
      rows_right = right.rows_right;
      relation-count = le→leb (length s'.relations) most_relations
          (stepped-count t (leb→le (length s.relations) most_relations v.relation-count));
      relation-shapes = shaped.relation-shapes;
      relations-right = right.relations-right;
    }
  where
    shaped : StateShaped s'
    shaped = stepped-shapes t (record { row-shapes = v.row-shapes; relation-shapes = v.relation-shapes })

    right : StateRight z s'
    right = stepped-right t (record { rows_right = v.rows_right; relations-right = v.relations-right })

-- Every state of a run from a valid system is a valid system, of as many rows as are left.
pub valid-kept : {side : Side} {k : ℕ} {s : State} {z : Sizes} {rows : List Row} {relations : List Relation}
    → ValidRows z rows relations → Chain side (start rows relations) k s → ValidRows z s.rows s.relations
unfolding start
valid-kept {side} {z} v c = chain-induction side (λ u. ValidRows z u.rows u.relations) (λ u w. stepped-valid) c v
