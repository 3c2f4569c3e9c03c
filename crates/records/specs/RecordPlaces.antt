-- Where a row is tested: the n at which all its blocks lie in the record.
--
-- Main statements
--   top-index, top-at   block l meets vector j + D where block t meets vector j: n + l is the index of that vector
--   inside-index        a tested n is the one whose lowest block meets a vector j, and vector j + D is there
--   index-inside        and the other way round
use Rattle.std.specs.Prelude.{ℕ, ◌+◌, ◌<◌, ◌≡◌, T, ℤ, ◌+ℤ◌, ◌-ℤ◌, ◌≤ℤ◌, ◌<ℤ◌}
use Rattle.std.proofs.Math.Path.{sym, ap, subst}
use Rattle.std.proofs.Common.{◌∙◌}
use Rattle.std.proofs.Math.IntN.{pos, neg_ℤ, nat_abs, +ℤ_idl, +ℤ_idr, +ℤ_invr, +ℤ_assoc, +ℤ_comm}
use Rattle.std.specs.Int.Signed.{le_z, lt_z, le_z_yes, lt_z_yes}
use Rattle.algebra.specs.Integers.{ringℤ}
use Rattle.algebra.specs.Order.{≤ℤ-witness, ≤ℤ-intro, <ℤ-cancel-left, +ℤ-<ℤ-left, pos-<ℤ, pos-nat_abs-nonneg, ≤ℤ-difference}
use Rattle.lists.specs.Tests.{T-&&}
use Rattle.rules.specs.Stores.{Sizes, span}
use Rattle.records.specs.Records.{inside, index_from_of, top_at}

module _ (z : Sizes) (first : ℤ) (ordered : z.t ≤ℤ z.l) where
  -- n + l is the index of vector j + D.
  pub top-index : (j : ℕ) → index_from_of z first j +ℤ z.l ≡ first +ℤ pos (j + span z)
  unfolding index_from_of span
  top-index j =
      regroup first z.l z.t (pos j) ∙ ap (λ d. first +ℤ (pos j +ℤ d)) (sym (pos-nat_abs-nonneg (≤ℤ-difference.0 ordered)))
    where
      regroup : (f l t k : ℤ) → ((f -ℤ t) +ℤ k) +ℤ l ≡ f +ℤ (k +ℤ (l -ℤ t))
      regroup f l t k = simp ringℤ

  pub top-at : (j : ℕ) → top_at z first (index_from_of z first j) ≡ j + span z
  unfolding top_at
  top-at j = ap nat_abs (ap (λ k. k -ℤ first) (top-index j) ∙ back first (pos (j + span z)))
    where
      back : (f k : ℤ) → (f +ℤ k) -ℤ f ≡ k
      back f k = ap (λ x. x -ℤ f) (+ℤ_comm f k) ∙ +ℤ_assoc k f (neg_ℤ f) ∙ ap (λ x. k +ℤ x) (+ℤ_invr f) ∙ +ℤ_idr k

  -- n + t is the index of vector j.
  pub low-index : (j : ℕ) → index_from_of z first j +ℤ z.t ≡ first +ℤ pos j
  unfolding index_from_of
  low-index j = regroup first z.t (pos j)
    where
      regroup : (f t k : ℤ) → ((f -ℤ t) +ℤ k) +ℤ t ≡ f +ℤ k
      regroup f t k = apart ∙ ap (λ x. x +ℤ (f +ℤ k)) (+ℤ_invr t) ∙ +ℤ_idl (f +ℤ k)
        where
          apart : ((f -ℤ t) +ℤ k) +ℤ t ≡ (t +ℤ neg_ℤ t) +ℤ (f +ℤ k)
          apart = simp ringℤ

  pub inside-index : (vectors : ℕ) (n : ℤ) → T (inside z first vectors n) → (j : ℕ) × (n ≡ index_from_of z first j) × (j + span z < vectors)
  unfolding inside index_from_of
  inside-index vectors n h =
      let both = (T-&& (le_z first (n +ℤ z.t)) (lt_z (n +ℤ z.l) (first +ℤ pos vectors))).0 h in
      let w = ≤ℤ-witness {a = first} {b = n +ℤ z.t} (le_z_yes both.0) in
      let e : n ≡ (first -ℤ z.t) +ℤ pos w.0 = from n z.t first (pos w.0) w.1 in
      let below : (first +ℤ pos (w.0 + span z)) <ℤ (first +ℤ pos vectors) =
      subst (λ x. x <ℤ (first +ℤ pos vectors)) (ap (λ x. x +ℤ z.l) e ∙ top-index w.0) (lt_z_yes {a =
      n +ℤ z.l} {b = first +ℤ pos vectors} both.1) in
      (w.0, e, pos-<ℤ.0 (<ℤ-cancel-left first below))
    where
      from : (n t f k : ℤ) → f +ℤ k ≡ n +ℤ t → n ≡ (f -ℤ t) +ℤ k
      from n t f k e =
          sym (+ℤ_idr n) ∙ ap (λ x. n +ℤ x) (sym (+ℤ_invr t)) ∙ sym (+ℤ_assoc n t (neg_ℤ t)) ∙ ap (λ x. x +ℤ neg_ℤ t) (sym e) ∙ regroup
        where
          regroup : (f +ℤ k) +ℤ neg_ℤ t ≡ (f -ℤ t) +ℤ k
          regroup = simp ringℤ

  pub index-inside : (vectors j : ℕ) → j + span z < vectors → T (inside z first vectors (index_from_of z first j))
  unfolding inside
  index-inside vectors j h =
      (T-&& (le_z first (index_from_of z first j +ℤ z.t)) (lt_z (index_from_of z first j +ℤ z.l) (first +ℤ pos vectors))).1 (
        (≤ℤ-intro {a = first} j (sym (low-index j))).le,
        (subst (λ x. x <ℤ (first +ℤ pos vectors)) (sym (top-index j)) (+ℤ-<ℤ-left first (pos-<ℤ.1 h))).lt,
      )
