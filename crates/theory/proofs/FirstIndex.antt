-- Sequences with a first index: what the steps of a run do to those that satisfy a system from an index on (SCOPE 2.123 to 2.125).
--
-- Main statements
--   from-same                    sequences that are equal from k + t on satisfy the same
--   stepped-from, chain-from     forward, a step keeps what holds from k on
--   stepped-from-back, chain-from-back   backward, each shift costs the equations one index, and the relations nothing
use Rattle.std.specs.Prelude.{◌≡◌, ◌↔◌, ◌≢◌, ℕ, suc, ◌+◌, ◌≤◌, ◌<◌, not, T, set, ℤ, ◌+ℤ◌, ◌-ℤ◌, ◌≤ℤ◌}
use Rattle.std.proofs.Math.Path.{refl, sym, ap, subst}
use Rattle.std.proofs.Common.{◌∙◌, add-zero, add-one, get_or-set_same, get_or-set_other, lt-length-set}
use mathlib.Core.Logic.Iff
use native.Mathlib.Omega.{arith}
use mathlib.Core.List.{List, [], ◌∷◌, ◌++◌}
use Rattle.std.proofs.Math.ListN.{length, get_or}
use Rattle.std.proofs.Math.IntN.{pos, ℤ_discrete, -ℤ-+ℤ_cancel, +ℤ_assoc}
use Rattle.algebra.specs.Order.{≤ℤ-trans, ≤ℤ-+ℤ-pos, +ℤ-≤ℤ-left, +ℤ-≤ℤ-right, ≤ℤ-cancel-right, pos-≤ℤ}
use Rattle.algebra.specs.Polynomials.{Polynomial, eval, is_zero_of}
use Rattle.algebra.specs.Roots.{roots, roots-complete, place}
use Rattle.lists.specs.Everywhere.{All, all_get_or, all_set, all-of-set, all-member, all-mono, all_append}
use Rattle.lists.specs.Places.{all-swap, all_without, all-of-without}
use Rattle.rules.specs.Rows.{Row, Relation, no_row, zero_block, zero_row, leading_block, shift_up}
use Rattle.rules.specs.Stores.{unused_zero_of}
use Rattle.rules.specs.Elimination.{Side, State, row_at, put_row, list_relations, settle, count_shift, exchange, root_relations, drop_row}
use Rattle.rules.specs.Sequences.{Sequence, value_of, Same}
use Rattle.theory.specs.Steps.{Stepped, combined, settled, shifted, dropped, Chain, here, next, current, exchanged}
use Rattle.theory.specs.Steps.{multipliers_for, length-narrow_first, limit_coefficients-within, Narrowed, narrowed}
use Rattle.theory.specs.Steps.{narrow_first-keeps, kept, swapped}
use Rattle.theory.specs.AddRelations.{root_relations-iff, root_relations-all}
use Rattle.theory.specs.Combine.{Combines}
use Rattle.theory.proofs.Combine.{combine-at, combine-back-at}
use Rattle.theory.specs.ShiftUp.{value-shift_up}
use Rattle.theory.specs.Values.{value-zero, value-congruence}
use Rattle.theory.specs.Triangular.{Triangular, triangular-chain, multipliers_for-nonzero}
use Rattle.theory.specs.LimitsKept.{StateShaped, chain-shapes}
use Rattle.theory.proofs.Solutions.{combined-value, shifted-zeros}
use Rattle.theory.specs.FirstIndex.{EquationFrom, RelationFrom, SatisfiesFrom}

-- ---- what lies below the first index

-- The indices n + l - j of the blocks are n + t or above it.
index-above : (l t n : ℤ) (D j : ℕ) → l ≡ t +ℤ pos D → j ≤ D → (n +ℤ t) ≤ℤ (n +ℤ l -ℤ pos j)
index-above l t n D j e h =
    let whole : n +ℤ t +ℤ pos D ≡ n +ℤ l -ℤ pos j +ℤ pos j =
    +ℤ_assoc n t (pos D) ∙ ap (λ a. n +ℤ a) (sym e) ∙ sym (-ℤ-+ℤ_cancel (n +ℤ l) (pos j)) in
    ≤ℤ-cancel-right (pos j) (subst (λ a. (n +ℤ t +ℤ pos j) ≤ℤ a) whole (+ℤ-≤ℤ-left (n +ℤ t) (pos-≤ℤ.1 h)))

-- An equation from k on uses no index below k + t (SCOPE 2.125).
module _ (m D : ℕ) (l t k : ℤ) (sum : l ≡ t +ℤ pos D) (y w : Sequence) (same : (i : ℤ) → (k +ℤ t) ≤ℤ i → Same m y w i) where
  value_same : (r : Row) → T (unused_zero_of m D r) → (n : ℤ) → k ≤ℤ n → value_of l r y n ≡ value_of l r w n
  value_same r u n a =
      value-congruence m D l r y w n u (λ j h. same (n +ℤ l -ℤ pos j) (≤ℤ-trans (+ℤ-≤ℤ-right t a) (index-above l t n D j sum h)))

  equations-same : (j : ℤ) → k ≤ℤ j → (rows : List Row) → All (λ r. T (unused_zero_of m D r)) rows → All (EquationFrom l y j) rows
      → All (EquationFrom l w j) rows
  unfolding All EquationFrom
  equations-same j h [] u s = tt
  equations-same j h (r ∷ rows) u s =
      (λ n a. sym (value_same r u.0 n (≤ℤ-trans h a)) ∙ s.0 n a, equations-same j h rows u.1 s.1)

  relations-same : (relations : List Relation) → All (λ e. T (unused_zero_of m D e.row)) relations → All (RelationFrom l y k) relations
      → All (RelationFrom l w k) relations
  unfolding All RelationFrom
  relations-same [] u s = tt
  relations-same (e ∷ relations) u s =
      (λ a. sym (value_same e.row u.0 e.index a) ∙ s.0 a, relations-same relations u.1 s.1)

  pub from-same : (j : ℤ) → k ≤ℤ j → (rows : List Row) (relations : List Relation) → All (λ r. T (unused_zero_of m D r)) rows
      → All (λ e. T (unused_zero_of m D e.row)) relations → SatisfiesFrom l j k rows relations y → SatisfiesFrom l j k rows relations w
  unfolding SatisfiesFrom
  from-same j h rows relations u v s = (equations-same j h rows u s.0, relations-same relations v s.1)

-- ---- one elementary change of the rows

module _ (l : ℤ) (z : Sequence) where
  -- An equation that holds from an index on holds from a later one on.
  later : (i j : ℤ) → i ≤ℤ j → (r : Row) → EquationFrom l z i r → EquationFrom l z j r
  unfolding EquationFrom
  later i j h r s n a = s n (≤ℤ-trans h a)

  module _ (side : Side) (d : ℕ) (g h : Polynomial) (r q r' : Row) (positive : 0 < d) (value : Combines d g h r q r') where
    combined-row : (k : ℤ) → EquationFrom l z k r → EquationFrom l z k q → EquationFrom l z k r'
    unfolding EquationFrom
    combined-row k s t n a = combine-at l z d g h r q r' positive value n (s n a) (t n a)

    -- Each listed relation is the old row at a root.
    combined-relations : (k : ℤ) → EquationFrom l z k r → All (RelationFrom l z k) (root_relations side g r)
    unfolding EquationFrom RelationFrom
    combined-relations k s = root_relations-all (RelationFrom l z k) side g r (λ n m a. s n a)

    -- Back where g(n) is not 0 by the new row, and at a root by the relation that is listed for it.
    combined-row-back : (j k : ℤ) → k ≤ℤ j → T (not (is_zero_of g)) → EquationFrom l z j r' → EquationFrom l z j q
        → All (RelationFrom l z k) (root_relations side g r) → EquationFrom l z j r
    unfolding EquationFrom RelationFrom
    combined-row-back j k before nonzero s t added n a = old (ℤ_discrete (eval g n) (pos 0))
      where
        old : Dec (eval g n ≡ pos 0) → value_of l r z n ≡ pos 0
        old (yes e) =
            all-member (λ n. RelationFrom l z k (record { index = n; row = r })) (roots g) (place (roots g) (roots-complete g n nonzero e))
            ((root_relations-iff (RelationFrom l z k) side g r).0 added) (≤ℤ-trans before a)
        old (no e) = combine-back-at l z d g h r q r' positive value n e (s n a) (t n a)

  -- The same in a list of rows, of which row i is combined with row p.
  module _ (side : Side) (d : ℕ) (g h : Polynomial) (rows : List Row) (relations : List Relation) (i p : ℕ) (r' : Row)
      (below-i : i < length rows) (below-p : p < length rows) (apart : i ≢ p) (positive : 0 < d)
      (value : Combines d g h (get_or rows i no_row) (get_or rows p no_row) r') where
    abbrev r : Row
    r = get_or rows i no_row

    abbrev q : Row
    q = get_or rows p no_row

    combine-from : (k : ℤ) → SatisfiesFrom l k k rows relations z
        → SatisfiesFrom l k k (set rows i r') (relations ++ root_relations side g r) z
    unfolding SatisfiesFrom
    combine-from k s =
        let old = all_get_or (EquationFrom l z k) rows no_row i below-i s.0 in
        let pivot = all_get_or (EquationFrom l z k) rows no_row p below-p s.0 in (
          all_set (EquationFrom l z k) rows i r' (combined-row side d g h r q r' positive value k old pivot) s.0,
          (all_append (RelationFrom l z k) relations (root_relations side g r)).1
              (s.1, combined-relations side d g h r q r' positive value k old),
        )

    combine-from-back : (j k : ℤ) → k ≤ℤ j → T (not (is_zero_of g))
        → SatisfiesFrom l j k (set rows i r') (relations ++ root_relations side g r) z → SatisfiesFrom l j k rows relations z
    unfolding SatisfiesFrom
    combine-from-back j k before nonzero s =
        let parts = (all_append (RelationFrom l z k) relations (root_relations side g r)).0 s.1 in
        let new = at i r' (get_or-set_same rows i r' no_row below-i) below-i in
        let pivot = at p q (get_or-set_other rows i p r' no_row (λ e. apart (sym e))) below-p in
        let old = combined-row-back side d g h r q r' positive value j k before nonzero new pivot parts.1 in
        (all-of-set (EquationFrom l z j) rows i r' no_row old s.0, parts.0)
      where
        at : (m : ℕ) (a : Row) → get_or (set rows i r') m no_row ≡ a → m < length rows → EquationFrom l z j a
        at m a e below =
            subst (EquationFrom l z j) e (all_get_or (EquationFrom l z j) (set rows i r') no_row m (lt-length-set rows i r' below) s.0)

  -- The shifted row at n is the row at n + 1.
  shifted_row : (k : ℤ) (r : Row) → T (zero_block (leading_block r)) → EquationFrom l z k r → EquationFrom l z k (shift_up r)
  unfolding EquationFrom
  shifted_row k r zeros s n a = value-shift_up l r z n zeros ∙ s (n +ℤ pos 1) (≤ℤ-trans a (≤ℤ-+ℤ-pos n 1))

  shifted-row-back : (j : ℤ) (r : Row) → T (zero_block (leading_block r)) → EquationFrom l z j (shift_up r)
      → EquationFrom l z (j +ℤ pos 1) r
  unfolding EquationFrom
  shifted-row-back j r zeros s n a =
      let before : (n -ℤ pos 1) +ℤ pos 1 ≡ n = -ℤ-+ℤ_cancel n (pos 1) in
      subst (λ m. value_of l r z m ≡ pos 0) before
      (sym (value-shift_up l r z (n -ℤ pos 1) zeros)
      ∙ s (n -ℤ pos 1) (≤ℤ-cancel-right (pos 1) (subst (λ m. (j +ℤ pos 1) ≤ℤ m) (sym before) a)))

-- ---- one step

next-index : (k : ℤ) (a : ℕ) → k +ℤ pos a +ℤ pos 1 ≡ k +ℤ pos (suc a)
next-index k a = +ℤ_assoc k (pos a) (pos 1) ∙ ap (λ n. k +ℤ pos n) (add-one a)

module _ (l : ℤ) (z : Sequence) (k : ℤ) where
  abbrev From : ℤ → State → Type 0
  From j s = SatisfiesFrom l j k s.rows s.relations z

  exchanged-from : (j : ℤ) (s : State) (p : ℕ) → p < current s → current s < length s.rows → From j s ↔ From j (exchanged s p)
  unfolding exchange put_row row_at SatisfiesFrom
  exchanged-from j s p before below = go (narrowed s (current s) p)
    where
      go : {e : State} → Narrowed s (current s) p e → From j s ↔ From j e
      go (kept w) = Iff.rfl
      go (swapped w) =
          let turned = all-swap s.rows no_row (current s) p (EquationFrom l z j) below (omega arith) in
          (λ a. (turned.1 a.0, a.1), λ a. (turned.0 a.0, a.1))

  row_from : (j : ℤ) (s : State) → current s < length s.rows → From j s → EquationFrom l z j (row_at s (current s))
  unfolding SatisfiesFrom row_at
  row_from j s below a = all_get_or (EquationFrom l z j) s.rows no_row (current s) below a.0

  -- Another row in the place of the current one, and none there.
  changed : (j : ℤ) (s : State) (r : Row) → EquationFrom l z j r → From j s → From j (put_row (count_shift s) (current s) r)
  unfolding SatisfiesFrom put_row count_shift
  changed j s r new a = (all_set (EquationFrom l z j) s.rows (current s) r new a.0, a.1)

  changed_row : (j : ℤ) (s : State) (r : Row) → current s < length s.rows → From j (put_row (count_shift s) (current s) r)
      → EquationFrom l z j r
  unfolding SatisfiesFrom put_row count_shift
  changed_row j s r below a =
      subst (EquationFrom l z j) (get_or-set_same s.rows (current s) r no_row below)
      (all_get_or (EquationFrom l z j) (set s.rows (current s) r) no_row (current s) (lt-length-set s.rows (current s) r below) a.0)

  changed-back : (i j : ℤ) (s : State) (r : Row) → i ≤ℤ j → EquationFrom l z j (row_at s (current s))
      → From i (put_row (count_shift s) (current s) r) → From j s
  unfolding SatisfiesFrom put_row count_shift row_at
  changed-back i j s r before old a = (
    all-of-set (EquationFrom l z j) s.rows (current s) r no_row old
        (all-mono (EquationFrom l z i) (EquationFrom l z j) (later l z i j before) (set s.rows (current s) r) a.0),
    a.1,
  )

  left_out : (j : ℤ) (s : State) → From j s → From j (drop_row s (current s))
  unfolding SatisfiesFrom drop_row
  left_out j s a = (all_without (EquationFrom l z j) s.rows (current s) a.0, a.1)

  left-out-back : (j : ℤ) (s : State) → T (zero_row (row_at s (current s))) → From j (drop_row s (current s)) → From j s
  unfolding SatisfiesFrom EquationFrom drop_row row_at
  left-out-back j s zeros a = (
    all-of-without (EquationFrom l z j) s.rows no_row (current s) (λ n h. value-zero l (row_at s (current s)) z n zeros) a.0,
    a.1,
  )

  pub stepped-from : {side : Side} {s s' : State} → StateShaped s → Stepped side s s' → From k s → From k s'
  unfolding put_row list_relations settle count_shift row_at drop_row
  stepped-from {side} {s} shaped (combined j before below nonzero clear meets few r e) a =
      let (d, positive, value) = combined-value s j r shaped.row-shapes before below e in
      combine-from l z side d (multipliers_for s j).g (multipliers_for s j).h (exchanged s j).rows (exchanged s j).relations
      (current s) j r (omega (arith, length-narrow_first s (current s) j)) (omega (arith, length-narrow_first s (current s) j)) (omega arith)
      positive value k ((exchanged-from k s j before below).0 a)
  stepped-from shaped (settled c below nonzero clear e) a = a
  stepped-from {s = s} shaped (shifted r below nonzero clear f e) a =
      let new : EquationFrom l z k r = subst (EquationFrom l z k) (sym (limit_coefficients-within (shift_up (row_at s (current s))) r e).1)
      (shifted_row l z k (row_at s (current s)) (shifted-zeros s f) (row_from k s below a)) in
      changed k s r new a
  stepped-from {s = s} shaped (dropped below zeros) a = left_out k s a

  -- Backward, from j, which is k or above it: a shift costs one index.
  pub stepped-from-back : {side : Side} {s s' : State} → StateShaped s → Triangular s → Stepped side s s'
      → (a : ℕ) → From (k +ℤ pos a) s' → (b : ℕ) × (b + s.shifts ≡ a + s'.shifts) × From (k +ℤ pos b) s
  unfolding put_row list_relations settle count_shift row_at drop_row
  stepped-from-back {side} {s} shaped t (combined j before below nonzero clear meets few r e) a f =
      let (d, positive, value) = combined-value s j r shaped.row-shapes before below e in
      let back = combine-from-back l z side d (multipliers_for s j).g (multipliers_for s j).h (exchanged s j).rows
      (exchanged s j).relations (current s) j r (omega (arith, length-narrow_first s (current s) j))
      (omega (arith, length-narrow_first s (current s) j)) (omega arith) positive value (k +ℤ pos a) k (≤ℤ-+ℤ-pos k a)
      (multipliers_for-nonzero s j t before below clear meets) f in
      let same = ap (λ n. a + n) (sym (narrow_first-keeps (λ u. u.shifts) s (current s) j (λ l. refl))) in
      (a, same, (exchanged-from (k +ℤ pos a) s j before below).1 back)
  stepped-from-back shaped t (settled c below nonzero clear e) a f = (a, refl, f)
  stepped-from-back {s = s} shaped t (shifted r below nonzero clear g e) a f =
      let new = subst (EquationFrom l z (k +ℤ pos a)) (limit_coefficients-within (shift_up (row_at s (current s))) r e).1
      (changed_row (k +ℤ pos a) s r below f) in
      let old = subst (λ i. EquationFrom l z i (row_at s (current s))) (next-index k a)
      (shifted-row-back l z (k +ℤ pos a) (row_at s (current s)) (shifted-zeros s g) new) in
      let less = subst (λ i. (k +ℤ pos a) ≤ℤ i) (next-index k a) (≤ℤ-+ℤ-pos (k +ℤ pos a) 1) in
      (suc a, omega arith, changed-back (k +ℤ pos a) (k +ℤ pos (suc a)) s r less old f)
  stepped-from-back {s = s} shaped t (dropped below zeros) a f = (a, refl, left-out-back (k +ℤ pos a) s zeros f)

  -- ---- a chain of steps

  -- Forward: what holds from k on at the start of a chain holds from k on at its end.
  pub chain-from : {side : Side} {s s' : State} {n : ℕ} → StateShaped s → Chain side s n s' → From k s → From k s'
  chain-from shaped here a = a
  chain-from shaped (next c u) a = stepped-from (chain-shapes c shaped) u (chain-from shaped c a)

  -- Backward, to a state before any shift: the equations from as much later on as there are shifts, the relations from k on.
  pub chain-from-back : {side : Side} {s s' : State} {n : ℕ} → StateShaped s → Triangular s → s.shifts ≡ 0 → Chain side s n s'
      → (a : ℕ) → From (k +ℤ pos a) s' → From (k +ℤ pos (a + s'.shifts)) s
  chain-from-back {s = s} shaped t none here a f = subst (λ n. From (k +ℤ pos n) s) (sym (ap (λ n. a + n) none ∙ add-zero a)) f
  chain-from-back {s = s} shaped t none (next c u) a f =
      let (b, same, before) = stepped-from-back (chain-shapes c shaped) (triangular-chain c t) u a f in
      subst (λ n. From (k +ℤ pos n) s) same (chain-from-back shaped t none c b before)
