-- What every step of a log keeps: a valid system, the sequences that satisfy it, and the relations that were there.
--
-- Main statements
--   changed-valid, replay-valid           a valid system stays valid, of as many rows as are left
--   changed-solutions, replay-solutions   the same sequences satisfy it
--   changed-length, replay-length         no step adds a row
--   replay-listed                         the input's relations stay first, and behind them those of one multiplier stand together
use Rattle.std.specs.Prelude.{ℕ, ◌≤◌, ◌<◌, ◌≡◌, refl, ◌↔◌, length, set, ℤ, ◌*ℤ◌}
use Rattle.std.proofs.Common.{sym, ◌∙◌, ap₂, le_refl, le_trans, le_of_eq, arith, length-set}
use Rattle.std.proofs.Math.Path.{ap, subst}
use mathlib.Core.Logic.Iff
use mathlib.Core.List.{List, [], ◌∷◌, ◌++◌, flatten, append-nil, append_assoc}
use Rattle.std.proofs.Math.Dec.{T, le→leb}
use Rattle.std.proofs.Math.ListN.{get_or}
use Rattle.std.proofs.Math.IntN.{pos}
use Rattle.lists.specs.Everywhere.{All, all_get_or, all_set, append-all}
use Rattle.lists.specs.Joined.{flatten-append}
use Rattle.lists.specs.Places.{without, all_without, length_without}
use Rattle.lists.specs.Tests.{every, every-all}
use Rattle.algebra.specs.Gcd.{divide_by, DividesAll, length-divide_by}
use Rattle.algebra.specs.Polynomials.{Polynomial}
use Rattle.algebra.specs.Roots.{roots, roots-sound, roots-complete, roots-ascending}
use Rattle.rules.specs.Limits.{coefficient_count, column_count, block_count, most_relations, small}
use Rattle.rules.specs.Rows.{Row, Relation, no_row, map_row, coefficients_of, combine, cut, small_row, shift_up, zero_block}
use Rattle.rules.specs.Stores.{Sizes, span, row_right_of, relation_right_of, count_right, StoreRow, unused_zero_of}
use Rattle.rules.specs.Sequences.{Sequence, Satisfies}
use Rattle.rules.specs.Elimination.{State, leading, listing, root_relations, row_at, put_row, list_relations, count_shift, exchange, drop_row}
use Rattle.rules.specs.Elimination.{limit_degrees, limit_coefficients, within}
use Rattle.theory.specs.Cells.{ZeroWhere}
use Rattle.theory.specs.Shapes.{map_row-shaped}
use Rattle.theory.specs.Reduce.{value-cut, divided-zero, cut-zero, cut-shaped}
use Rattle.theory.specs.Combine.{Combines, shaped-same, combine-shaped, combine-unused}
use Rattle.theory.proofs.Combine.{combine-values, combine-satisfied}
use Rattle.theory.specs.Exchange.{exchange-satisfied}
use Rattle.theory.specs.ShiftUp.{shift_up-satisfied, shift_up-shaped, shift_up-unused}
use Rattle.theory.specs.ShiftDown.{last_block, shift_down, shift_down-satisfied, shift_down-shaped, shift_down-unused, lost-zero}
use Rattle.theory.specs.DropZero.{drop-satisfied}
use Rattle.theory.specs.AddRelations.{root_relations-all}
use Rattle.theory.specs.LimitsKept.{ValidRows, row_right-iff, relation_right-iff, root-small}
use Rattle.theory.specs.Mirror.{store_row-reaches}
use Rattle.theory.specs.ListedOrder.{OneMultiplier, Listed}
use Rattle.theory.specs.Steps.{limit_coefficients-within, limit_degrees-within}
use Rattle.log_steps.specs.Logs.{divided_row_of}
use Rattle.log_steps.specs.Changes.{TwoRows, Multiplied, Changed, swapped, combined, raised, lowered, omitted, Replay, here, before}

-- ---- a valid system

module _ {z : Sizes} {rows : List Row} {relations : List Relation} (v : ValidRows z rows relations) where
  row-shaped : (i : ℕ) → i < length rows → StoreRow (get_or rows i no_row)
  row-shaped i h = all_get_or StoreRow rows no_row i h v.row-shapes

  row-right : (i : ℕ) → i < length rows → T (row_right_of z (get_or rows i no_row))
  row-right i h = all_get_or (λ r. T (row_right_of z r)) rows no_row i h ((every-all (row_right_of z) rows).0 v.rows_right)

  put-valid : (i : ℕ) (r : Row) → StoreRow r → T (row_right_of z r) → ValidRows z (set rows i r) relations
  put-valid i r shaped right =
      record {
        sizes = v.sizes;
        row-shapes = all_set StoreRow rows i r shaped v.row-shapes;
        rows_right = (every-all (row_right_of z) (set rows i r)).1
            (all_set (λ q. T (row_right_of z q)) rows i r right ((every-all (row_right_of z) rows).0 v.rows_right));
        relation-count = v.relation-count;
        relation-shapes = v.relation-shapes;
        relations-right = v.relations-right;
      }

  omit-valid : (i : ℕ) → ValidRows z (without rows i) relations
  omit-valid i =
      record {
        sizes = v.sizes;
        row-shapes = all_without StoreRow rows i v.row-shapes;
        rows_right = (every-all (row_right_of z) (without rows i)).1
            (all_without (λ q. T (row_right_of z q)) rows i ((every-all (row_right_of z) rows).0 v.rows_right));
        relation-count = v.relation-count;
        relation-shapes = v.relation-shapes;
        relations-right = v.relations-right;
      }

  -- Row i at the roots of a multiplier within ±C.
  listed-valid : (g : Polynomial) (i : ℕ) → i < length rows → T (every small g)
      → length (relations ++ root_relations leading g (get_or rows i no_row)) ≤ most_relations
      → ValidRows z rows (relations ++ root_relations leading g (get_or rows i no_row))
  unfolding count_right
  listed-valid g i h few most =
      record {
        sizes = v.sizes;
        row-shapes = v.row-shapes;
        rows_right = v.rows_right;
        relation-count = le→leb _ most_relations most;
        relation-shapes = append-all (λ e. StoreRow e.row) relations added v.relation-shapes
            (root_relations-all (λ e. StoreRow e.row) leading g r (λ n m. row-shaped i h));
        relations-right = (every-all (relation_right_of z) (relations ++ added)).1
            (append-all (λ e. T (relation_right_of z e)) relations added ((every-all (relation_right_of z) relations).0 v.relations-right)
            (root_relations-all (λ e. T (relation_right_of z e)) leading g r
            (λ n m. (relation_right-iff z (record { index = n; row = r })).1 (root-small g n few m, row-right i h))));
      }
    where
      r : Row
      r = get_or rows i no_row

      added : List Relation
      added = root_relations leading g r

-- ---- the combination of a log

module _ (z : Sizes) (s : State) (v : ValidRows z s.rows s.relations) (i j d : ℕ) (g h : Polynomial) (two : TwoRows s i j)
    (m : Multiplied g h) (r : Row) (limited : limit_degrees (divided_row_of s i j d g h) ≡ within r) where
  abbrev result : Row
  result = combine g h (row_at s i) (row_at s j)

  first-shaped : StoreRow (row_at s i)
  unfolding row_at
  first-shaped = row-shaped v i two.first

  second-shaped : StoreRow (row_at s j)
  unfolding row_at
  second-shaped = row-shaped v j two.second

  new_row : r ≡ cut (map_row (divide_by d) result)
  unfolding divided_row_of
  new_row = (limit_degrees-within (divided_row_of s i j d g h) r limited).2

  new-shaped : StoreRow r
  new-shaped = subst StoreRow (sym new_row)
      (cut-shaped block_count column_count 31 (map_row (divide_by d) result) (omega arith)
      (map_row-shaped (divide_by d) 31 31 (λ p e. length-divide_by d p ∙ e) block_count column_count result
      (combine-shaped g h 15 m.length-g m.length-h block_count column_count 15 (row_at s i) (row_at s j) first-shaped second-shaped)))

  new-zero : ZeroWhere result r
  new-zero = subst (ZeroWhere result) (sym new_row)
      (λ k c e. cut-zero (map_row (divide_by d) result) k c (divided-zero d result k c e))

  new-right : T (row_right_of z r)
  unfolding row_at divided_row_of
  new-right = (row_right-iff z r).1 (
    subst (λ q. T (small_row q)) (sym new_row) (limit_degrees-within (divided_row_of s i j d g h) r limited).1,
    combine-unused g h z.m (span z) (row_at s i) (row_at s j) r new-zero ((row_right-iff z _).0 (row-right v i two.first)).1
        ((row_right-iff z _).0 (row-right v j two.second)).1,
  )

  new-value : DividesAll d (coefficients_of result) → Combines d g h (row_at s i) (row_at s j) r
  unfolding divided_row_of
  new-value exact = subst (Combines d g h (row_at s i) (row_at s j)) (sym new_row)
      (λ l y n. ap (λ x. pos d *ℤ x) (value-cut l (map_row (divide_by d) result) y n (limit_degrees-within
      (divided_row_of s i j d g h) r limited).0)
      ∙ combine-values g h (row_at s i) (row_at s j)
      (shaped-same block_count column_count coefficient_count coefficient_count (row_at s i)
      (row_at s j) first-shaped second-shaped) d exact l y n)

-- ---- one step

-- Where block t is zero, so is the block that a shift down loses.
module _ (z : Sizes) (s : State) (v : ValidRows z s.rows s.relations) (i : ℕ) (below : i < length s.rows)
    (empty : T (zero_block (get_or (row_at s i).blocks (span z) []))) where
  lost : T (zero_block (last_block (row_at s i)))
  unfolding row_at
  lost = lost-zero z.m (span z) (row_at s i) (store_row-reaches z v.sizes (row_at s i) (row-shaped v i below))
      ((row_right-iff z (row_at s i)).0 (row-right v i below)).1 empty

  lowered-unused : T (unused_zero_of z.m (span z) (shift_down (row_at s i)))
  unfolding row_at
  lowered-unused = shift_down-unused z.m (span z) (row_at s i) (store_row-reaches z v.sizes (row_at s i) (row-shaped v i below))
      ((row_right-iff z (row_at s i)).0 (row-right v i below)).1 empty

-- A row that is shifted, within the limit.
moved-valid : {z : Sizes} {rows : List Row} {relations : List Relation} (i : ℕ) (q r : Row) → ValidRows z rows relations
    → limit_coefficients q ≡ within r → StoreRow q → T (unused_zero_of z.m (span z) q) → ValidRows z (set rows i r) relations
moved-valid {z} i q r v limited shaped unused =
    let (few, same) = limit_coefficients-within q r limited in
    put-valid v i r (subst StoreRow (sym same) shaped) (subst (λ x. T (row_right_of z x)) (sym same) ((row_right-iff z q).1 (few, unused)))

pub changed-valid : {z : Sizes} {s s' : State} → Changed (span z) s s' → ValidRows z s.rows s.relations
    → ValidRows z s'.rows s'.relations
unfolding exchange put_row row_at list_relations count_shift drop_row
changed-valid {z} {s} (swapped i j two) v =
    put-valid (put-valid v j (row_at s i) (row-shaped v i two.first) (row-right v i two.first)) i (row_at s j)
    (row-shaped v j two.second) (row-right v j two.second)
changed-valid {z} {s} (combined i j d g h two m positive exact few r limited) v =
    put-valid (listed-valid v g i two.first m.small-g few) i r (new-shaped z s v i j d g h two m r limited)
    (new-right z s v i j d g h two m r limited)
changed-valid {z} {s} (raised i below zeros r limited) v =
    moved-valid i (shift_up (row_at s i)) r v limited
    (shift_up-shaped block_count column_count coefficient_count (row_at s i) (omega arith) (row-shaped v i below))
    (shift_up-unused z.m (span z) (row_at s i) ((row_right-iff z (row_at s i)).0 (row-right v i below)).1)
changed-valid {z} {s} (lowered i below empty r limited) v =
    moved-valid i (shift_down (row_at s i)) r v limited
    (shift_down-shaped block_count column_count coefficient_count (row_at s i) (omega arith) (row-shaped v i below))
    (lowered-unused z s v i below empty)
changed-valid {s} (omitted i below zeros) v = omit-valid v i

-- A sequence satisfies the system before the step exactly if it does after it.
pub changed-solutions : {z : Sizes} {s s' : State} (l : ℤ) (y : Sequence) → ValidRows z s.rows s.relations → Changed (span z) s s'
    → Satisfies l s.rows s.relations y ↔ Satisfies l s'.rows s'.relations y
unfolding exchange put_row row_at list_relations count_shift drop_row
changed-solutions {s} l y v (swapped i j two) = exchange-satisfied s.rows i j l y s.relations two.first two.second
changed-solutions {z} {s} l y v (combined i j d g h two m positive exact few r limited) =
    combine-satisfied l y leading d g h s.rows s.relations i j r two.first two.second two.apart positive m.nonzero
    (new-value z s v i j d g h two m r limited exact)
changed-solutions {s} l y v (raised i below zeros r limited) =
    subst (λ q. Satisfies l s.rows s.relations y ↔ Satisfies l (set s.rows i q) s.relations y)
    (sym (limit_coefficients-within (shift_up (row_at s i)) r limited).1) (shift_up-satisfied l s.rows i below zeros y s.relations)
changed-solutions {z} {s} l y v (lowered i below empty r limited) =
    subst (λ q. Satisfies l s.rows s.relations y ↔ Satisfies l (set s.rows i q) s.relations y)
    (sym (limit_coefficients-within (shift_down (row_at s i)) r limited).1)
    (shift_down-satisfied l s.rows i below (lost z s v i below empty) y s.relations)
changed-solutions {s} l y v (omitted i below zeros) = drop-satisfied l y s.rows s.relations i zeros

-- No step adds a row.
pub changed-length : {D : ℕ} {s s' : State} → Changed D s s' → length s'.rows ≤ length s.rows
unfolding exchange put_row list_relations count_shift drop_row
changed-length {s} (swapped i j two) = le_of_eq (length-set (set s.rows j (row_at s i)) i (row_at s j) ∙ length-set s.rows j
    (row_at s i))
changed-length {s} (combined i j d g h two m positive exact few r limited) = le_of_eq (length-set s.rows i r)
changed-length {s} (raised i below zeros r limited) = le_of_eq (length-set s.rows i r)
changed-length {s} (lowered i below empty r limited) = le_of_eq (length-set s.rows i r)
changed-length {s} (omitted i below zeros) = omega (arith, length_without s.rows i below)

-- ---- the steps of a log

pub replay-valid : {z : Sizes} {s s' : State} → Replay (span z) s s' → ValidRows z s.rows s.relations
    → ValidRows z s'.rows s'.relations
replay-valid here v = v
replay-valid (before c r) v = replay-valid r (changed-valid c v)

pub replay-solutions : {z : Sizes} {s s' : State} (l : ℤ) (y : Sequence) → ValidRows z s.rows s.relations → Replay (span z) s s'
    → Satisfies l s.rows s.relations y ↔ Satisfies l s'.rows s'.relations y
replay-solutions l y v here = Iff.rfl
replay-solutions l y v (before c r) = Iff.trans (changed-solutions l y v c) (replay-solutions l y (changed-valid c v) r)

pub replay-length : {D : ℕ} {s s' : State} → Replay D s s' → length s'.rows ≤ length s.rows
replay-length {s} here = le_refl (length s.rows)
replay-length (before c r) = le_trans (replay-length r) (changed-length c)

-- ---- the relations listed

nothing-listed : (s : State) {l : List Relation} → l ≡ s.relations
    → (more : List Relation) × (l ≡ s.relations ++ more) × Listed more
unfolding All flatten
nothing-listed s e = ([], e ∙ sym (append-nil s.relations), record { groups = []; together = refl; each = tt })

-- Row i at the roots of g, by ascending n0 (SCOPE 13.27).
one-group : {g h : Polynomial} → Multiplied g h → (r : Row) → OneMultiplier (root_relations leading g r)
unfolding root_relations listing
one-group {g} m r =
    record {
      multiplier = g;
      row = r;
      places = roots g;
      listed = refl;
      ascending = roots-ascending g m.nonzero;
      all-roots = λ n. (λ h. roots-sound g h, λ e. roots-complete g n m.nonzero e);
    }

changed-listed : {D : ℕ} {s s' : State} → Changed D s s'
    → (more : List Relation) × (s'.relations ≡ s.relations ++ more) × Listed more
unfolding exchange put_row list_relations count_shift drop_row All flatten
changed-listed {s} (swapped i j two) = nothing-listed s refl
changed-listed {s} (combined i j d g h two m positive exact few r limited) =
    let group = root_relations leading g (row_at s i) in
    (group, refl, record { groups = group ∷ []; together = sym (append-nil group); each = (one-group m (row_at s i), tt) })
changed-listed {s} (raised i below zeros r limited) = nothing-listed s refl
changed-listed {s} (lowered i below empty r limited) = nothing-listed s refl
changed-listed {s} (omitted i below zeros) = nothing-listed s refl

pub replay-listed : {D : ℕ} {s s' : State} → Replay D s s' → (more : List Relation) × (s'.relations ≡ s.relations ++ more) × Listed more
replay-listed {s} here = nothing-listed s refl
replay-listed {s} (before c r) =
    let (first, e, a) = changed-listed c in
    let (second, f, b) = replay-listed r in (
      first ++ second,
      f ∙ ap (λ l. l ++ second) e ∙ append_assoc s.relations first second,
      record {
        groups = a.groups ++ b.groups;
        together = ap₂ ◌++◌ a.together b.together ∙ sym (flatten-append a.groups b.groups);
        each = append-all OneMultiplier a.groups b.groups a.each b.each;
      },
    )
