-- The rows of a system for N say what the system says of the sequences that are zero outside 0 to N (SCOPE 14.31).
--
-- Main statements
--   outside-zero      at n below -l or above N - t the sum of an equation is zero by itself
--   rows-say          a vector makes the sums of all rows 0 exactly if the sequence that it holds satisfies the system
--   satisfies-same    sequences that are equal in the columns of the system satisfy it together
--   rows-length       each row has a number for each column
use Prim.Native.Nat.{ℕ, suc, ◌+◌, ◌≤◌, ◌<◌}
use Rattle.std.specs.Prelude.{◌≡◌, ◌↔◌, length, ℤ, neg_ℤ, ◌+ℤ◌, ◌-ℤ◌, ◌≤ℤ◌, ◌<ℤ◌}
use Rattle.std.proofs.Math.Path.{sym}
use Rattle.std.proofs.Common.{◌∙◌, ap, subst, arith}
use Rattle.std.proofs.Math.Logic.{⊎_elim}
use mathlib.Core.Logic.Iff
use mathlib.Core.List.{List, ◌++◌, map, flatten}
use Rattle.std.proofs.Math.Dec.{T}
use Rattle.std.proofs.Math.IntN.{pos, nat_abs, +ℤ-neg_ℤ_cancel, -ℤ-+ℤ_cancel}
use Rattle.algebra.specs.Order.{≤ℤ-or->, ≤ℤ-intro, ≤ℤ-<ℤ-trans, +ℤ-<ℤ-right, pos-≤ℤ, pos-nat_abs-nonneg}
use Rattle.algebra.specs.Sums.{count_from, count_from-member}
use Rattle.algebra.specs.Polynomials.{is_zero_of}
use Rattle.lists.specs.Everywhere.{All, all-mono, all_both, all-always, all-member, member-all, all_append, all-flatten, all_map}
use Rattle.lists.specs.Tests.{every-all}
use Rattle.rules.specs.Rows.{Row, Relation}
use Rattle.rules.specs.Stores.{Sizes, span, unused_zero_of, row_right_of, relation_right_of, Valid}
use Rattle.rules.specs.Sequences.{Sequence, Satisfies, SatisfiesEquation, SatisfiesRelation, Same, left_value, value_of}
use Rattle.theory.specs.Values.{value-congruence, left-nothing}
use Rattle.theory.specs.LimitsKept.{row_right-iff, relation_right-iff}
use Rattle.constant_rows.specs.Constants.{fine, the_columns_of, constant_row_of, row_indices, asked, constant_rows_of}
use Rattle.solutions.specs.SolutionAnswers.{homogeneous}
use Rattle.echelon.specs.Pairing.{Kills}
use Rattle.solutions.specs.Extent.{nothing, homogeneous-left, zero-sides, zero-relation-sides}
use Rattle.solutions.specs.RowMeaning.{each_all, sequence_of, row-says, row-length, sequence-low, sequence-high}

module _ {z : Sizes} {rows : List Row} {relations : List Relation} (valid : Valid z rows relations) where
  unused-rows : All (λ r. T (unused_zero_of z.m (span z) r)) rows
  unused-rows = all-mono (λ r. T (row_right_of z r)) (λ r. T (unused_zero_of z.m (span z) r)) (λ r t. ((row_right-iff z r).0 t).1) rows
      ((every-all (row_right_of z) rows).0 valid.rows_right)

  unused-relations : All (λ e. T (unused_zero_of z.m (span z) e.row)) relations
  unused-relations = all-mono (λ e. T (relation_right_of z e)) (λ e. T (unused_zero_of z.m (span z) e.row))
      (λ e t. ((row_right-iff z e.row).0 ((relation_right-iff z e).0 t).1).1) relations
      ((every-all (relation_right_of z) relations).0 valid.relations-right)

  pub satisfies-same : (y w : Sequence) → ((i : ℤ) → Same z.m y w i) → Satisfies z.l rows relations y
      → Satisfies z.l rows relations w
  unfolding Satisfies SatisfiesEquation SatisfiesRelation
  satisfies-same y w same h = (
    all-mono (λ r. T (unused_zero_of z.m (span z) r) × SatisfiesEquation z.l y r) (SatisfiesEquation z.l w)
        (λ r u n. sym (value-congruence z.m (span z) z.l r y w n u.0 (λ k _. same (n +ℤ z.l -ℤ pos k))) ∙ u.1 n) rows
        (all_both (λ r. T (unused_zero_of z.m (span z) r)) (SatisfiesEquation z.l y) rows unused-rows h.0),
    all-mono (λ e. T (unused_zero_of z.m (span z) e.row) × SatisfiesRelation z.l y e) (SatisfiesRelation z.l w)
        (λ e u. sym (value-congruence z.m (span z) z.l e.row y w e.index u.0 (λ k _. same (e.index +ℤ z.l -ℤ pos k)))
        ∙ u.1) relations
        (all_both (λ e. T (unused_zero_of z.m (span z) e.row)) (SatisfiesRelation z.l y) relations unused-relations h.1),
  )

  module _ (N : ℕ) (v : ℕ → ℤ) where
    y : Sequence
    y = sequence_of z.m N v

    -- Where all indices of an equation lie outside 0 to N its value is that of the sequence of zeros.
    outside-zero : (r : Row) → T (unused_zero_of z.m (span z) r) → T (is_zero_of r.right) → (n : ℤ)
        → ((k : ℕ) → k ≤ span z → Same z.m y nothing (n +ℤ z.l -ℤ pos k)) → value_of z.l r y n ≡ pos 0
    outside-zero r u s n h =
        value-congruence z.m (span z) z.l r y nothing n u h ∙ homogeneous-left z.l r nothing n s ∙ left-nothing z.l r n

    below : (n : ℤ) → (n +ℤ z.l) <ℤ pos 0 → (k : ℕ) → k ≤ span z → Same z.m y nothing (n +ℤ z.l -ℤ pos k)
    unfolding Same y
    below n h k _ c _ = sequence-low z.m N v (n +ℤ z.l -ℤ pos k) c (≤ℤ-<ℤ-trans (≤ℤ-intro k (-ℤ-+ℤ_cancel (n +ℤ z.l) (pos k))) h)

    above : (n : ℤ) → pos (N + span z) <ℤ (n +ℤ z.l) → (k : ℕ) → k ≤ span z → Same z.m y nothing (n +ℤ z.l -ℤ pos k)
    unfolding Same y
    above n h k p c _ =
        sequence-high z.m N v (n +ℤ z.l -ℤ pos k) c
        (subst (λ i. i <ℤ (n +ℤ z.l -ℤ pos k)) (+ℤ-neg_ℤ_cancel (pos N) (pos k))
        (+ℤ-<ℤ-right (neg_ℤ (pos k)) (≤ℤ-<ℤ-trans (pos-≤ℤ.1 (omega arith)) h)))

    -- Zero at the indices from -l to N - t means zero everywhere (SCOPE 14.31).
    everywhere : (r : Row) → T (unused_zero_of z.m (span z) r) → T (is_zero_of r.right)
        → ((k : ℕ) → k < suc (N + span z) → left_value z.l r y (pos k -ℤ z.l) ≡ pos 0) → SatisfiesEquation z.l y r
    unfolding SatisfiesEquation
    everywhere r u s h n = ⊎_elim from_zero (λ p. outside-zero r u s n (below n p)) (≤ℤ-or-> (pos 0) (n +ℤ z.l))
      where
        from_zero : pos 0 ≤ℤ (n +ℤ z.l) → value_of z.l r y n ≡ pos 0
        from_zero p = ⊎_elim inside (λ q. outside-zero r u s n (above n q)) (≤ℤ-or-> (n +ℤ z.l) (pos (N + span z)))
          where
            k : ℕ
            k = nat_abs (n +ℤ z.l)

            index : pos k -ℤ z.l ≡ n
            index = ap (λ i. i -ℤ z.l) (pos-nat_abs-nonneg p) ∙ +ℤ-neg_ℤ_cancel n z.l

            inside : (n +ℤ z.l) ≤ℤ pos (N + span z) → value_of z.l r y n ≡ pos 0
            inside q =
                let low : k ≤ N + span z = pos-≤ℤ.0 (subst (λ i. i ≤ℤ pos (N + span z)) (sym (pos-nat_abs-nonneg p)) q) in
                homogeneous-left z.l r y n s ∙ subst (λ i. left_value z.l r y i ≡ pos 0) index (h k (omega arith))

    -- What is asked of the sequence: each equation at each n of the range, and the relations.
    Zero : Relation → Type 0
    Zero e = left_value z.l e.row y e.index ≡ pos 0

    at-index : ℤ → Row → Relation
    at-index n r = record { index = n; row = r }

    row_zero : ℕ → Row → Type 0
    row_zero k r = left_value z.l r y (pos k -ℤ z.l) ≡ pos 0

    asked-parts : All Zero (asked z N rows relations) ↔
        (All (λ k. All (row_zero k) rows) (count_from 0 (suc (N + span z))) × All Zero relations)
    unfolding asked row_indices at-index Zero row_zero
    asked-parts = (
      λ h. (
        all-mono (λ k. All Zero (f (pos k -ℤ z.l))) (λ k. All (row_zero k) rows) (λ k. (single k).0) ks
            (flat.0 (parts.0 h).0),
        (parts.0 h).1,
      ),
      λ h. parts.1 (
        flat.1 (all-mono (λ k. All (row_zero k) rows) (λ k. All Zero (f (pos k -ℤ z.l))) (λ k. (single k).1) ks
            h.0),
        h.1,
      ),
    )
      where
        ks : List ℕ
        ks = count_from 0 (suc (N + span z))

        ns : List ℤ
        ns = map (λ k. pos k -ℤ z.l) ks

        f : ℤ → List Relation
        f n = map (at-index n) rows

        parts : All Zero (flatten (map f ns) ++ relations) ↔ (All Zero (flatten (map f ns)) × All Zero relations)
        parts = all_append Zero (flatten (map f ns)) relations

        flat : All Zero (flatten (map f ns)) ↔ All (λ k. All Zero (f (pos k -ℤ z.l))) ks
        flat = Iff.trans (all-flatten Zero (map f ns))
            (Iff.trans (all_map (All Zero) f ns) (all_map (λ n. All Zero (f n)) (λ k. pos k -ℤ z.l) ks))

        single : (k : ℕ) → All Zero (f (pos k -ℤ z.l)) ↔ All (row_zero k) rows
        single k = all_map Zero (at-index (pos k -ℤ z.l)) rows

    module _ (sides : T (homogeneous rows relations)) (some-column : 0 < z.m) where
      asked-satisfies : All Zero (asked z N rows relations) ↔ Satisfies z.l rows relations y
      unfolding Satisfies SatisfiesEquation SatisfiesRelation Zero row_zero
      asked-satisfies = Iff.trans asked-parts (forth, back)
        where
          forth : All (λ k. All (row_zero k) rows) (count_from 0 (suc (N + span z))) × All Zero relations → Satisfies z.l rows relations y
          forth h = (
            member-all (SatisfiesEquation z.l y) rows
                (λ r m. everywhere r (all-member (λ r. T (unused_zero_of z.m (span z) r)) rows m unused-rows)
                (all-member (λ r. T (is_zero_of r.right)) rows m (zero-sides rows relations sides))
                (λ k p. all-member (row_zero k) rows m
                (all-member (λ k. All (row_zero k) rows) (count_from 0 (suc (N + span z)))
                (count_from-member 0 (suc (N + span z)) (omega arith) (omega arith)) h.0))),
            all-mono (λ e. Zero e × T (is_zero_of e.row.right)) (SatisfiesRelation z.l y)
                (λ e q. homogeneous-left z.l e.row y e.index q.1 ∙ q.0) relations
                (all_both Zero (λ e. T (is_zero_of e.row.right)) relations h.1 (zero-relation-sides rows relations sides)),
          )

          back : Satisfies z.l rows relations y → All (λ k. All (row_zero k) rows) (count_from 0 (suc (N + span z))) × All Zero relations
          back h = (
            all-always (λ k. All (row_zero k) rows) (λ k. all-mono (λ r. SatisfiesEquation z.l y r × T (is_zero_of r.right)) (row_zero k)
                (λ r q. sym (homogeneous-left z.l r y (pos k -ℤ z.l) q.1) ∙ q.0 (pos k -ℤ z.l)) rows
                (all_both (SatisfiesEquation z.l y) (λ r. T (is_zero_of r.right)) rows h.0 (zero-sides rows relations sides)))
                (count_from 0 (suc (N + span z))),
            all-mono (λ e. SatisfiesRelation z.l y e × T (is_zero_of e.row.right)) Zero
                (λ e q. sym (homogeneous-left z.l e.row y e.index q.1) ∙ q.0) relations
                (all_both (SatisfiesRelation z.l y) (λ e. T (is_zero_of e.row.right)) relations h.1
                (zero-relation-sides rows relations sides)),
          )

      -- The rows say of v what the system says of the sequence that v holds (SCOPE 14.31).
      pub rows-say : (rs : List (List ℤ)) → constant_rows_of z N rows relations ≡ fine rs
          → Satisfies z.l rows relations (sequence_of z.m N v) ↔ All (Kills (the_columns_of z.m N) v) rs
      unfolding constant_rows_of y Zero
      rows-say rs e =
          Iff.trans (Iff.symm asked-satisfies)
          (each_all Zero (Kills (the_columns_of z.m N) v) (λ e. constant_row_of z.m z.l N e.row e.index)
          (λ e row f. row-says z.m N v some-column z.l e.row e.index row f) (asked z N rows relations) rs e)

-- Each row has a number for each column.
pub rows-length : (z : Sizes) (N : ℕ) (rows : List Row) (relations : List Relation) (rs : List (List ℤ))
    → constant_rows_of z N rows relations ≡ fine rs
    → All (λ r. length r ≡ the_columns_of z.m N) rs
unfolding constant_rows_of All
rows-length z N rows relations rs e =
    (each_all (λ _. Unit {0}) (λ r. length r ≡ the_columns_of z.m N) (λ e. constant_row_of z.m z.l N e.row e.index)
    (λ e row f. (λ _. row-length z.m z.l N e.row e.index row f, λ _. tt)) (asked z N rows relations) rs e).0
    (all-always (λ _. Unit {0}) (λ _. tt) (asked z N rows relations))
