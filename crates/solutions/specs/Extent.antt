-- A solution with finitely many nonzero terms ends at N: the vector with the highest index is killed by the trailing matrix, so a trailing
-- diagonal polynomial has a root there (SCOPE 14.21, 14.72).
--
-- Main definitions
--   nothing              the sequence of zeros
--   ZeroAbove m y k      y is zero at every index above k, in the m columns
-- Main statements
--   homogeneous-left, nothing-satisfies   where right sides are zero, the value is the sum alone, and zeros satisfy the system
--   vector-below         a solution that is zero above n + t is zero at n + t, if no trailing diagonal polynomial vanishes at n
--   ends_at              it is zero above the largest root plus t
--   ends_nowhere         and everywhere, if there is no root
use Rattle.std.specs.Prelude.{ℕ, suc, ◌<◌, ◌≡◌, ◌≢◌, get_or, ℤ, ◌+ℤ◌, ◌-ℤ◌, ◌≤ℤ◌, ◌<ℤ◌}
use Rattle.std.proofs.Math.Path.{sym, ap, subst}
use Rattle.std.proofs.Common.{◌∙◌, ap₂, ⊎_elim, zero-lt-suc}
use mathlib.Core.List.Memᴰ
use mathlib.Core.List.{List, map, flatten, Memᴰ}
use Rattle.std.proofs.Math.Option.{none, some}
use Rattle.std.proofs.Math.Dec.{T}
use Rattle.std.proofs.Math.ListN.{length}
use Rattle.std.proofs.Math.IntN.{pos, neg_ℤ, +ℤ_idr, -ℤ-+ℤ_cancel, neg_ℤ-neg_ℤ, neg_ℤ-+ℤ}
use Rattle.std.specs.Int.Signed.{≤ℤ_refl, clash_ℤ}
use Rattle.algebra.specs.Order.{<ℤ-trans, <ℤ-+1, ≤ℤ-or->, ≤ℤ-cases, <ℤ-to-≤ℤ, +ℤ-≤ℤ-right, +ℤ-<ℤ-left, pos-<ℤ, ≤ℤ-of-≡, <ℤ-cancel-right}
use Rattle.algebra.specs.Order.{ℤ-induction-down}
use Rattle.algebra.specs.Integers.{ringℤ}
use Rattle.algebra.specs.Polynomials.{Polynomial, eval, is_zero_of, mirror, eval-is_zero, eval-mirror}
use Rattle.algebra.specs.Roots.{roots, roots-complete, place}
use Rattle.lists.specs.Everywhere.{All, all-mono, all_get_or}
use Rattle.lists.specs.Joined.{flat-member}
use Rattle.lists.specs.Tests.{every, every-all, T-&&}
use Rattle.rules.specs.Rows.{Row, Relation, no_row, entry, leading_block, mirror_row_of, mirror_relation}
use Rattle.rules.specs.Elimination.{leading, trailing, State, rank, mirror_state, diagonal, diagonal_place}
use Rattle.rules.specs.Stores.{Sizes, span}
use Rattle.rules.specs.Sequences.{Sequence, Satisfies, SatisfiesEquation, SatisfiesRelation, left_value, value_of}
use Rattle.theory.specs.Values.{value-difference, left-nothing}
use Rattle.theory.specs.BackSubstitution.{TriangularRows, NonzeroAt, back-substitution}
use Rattle.theory.specs.Settled.{MirroredRun, nonzero-of-diagonal}
use Rattle.theory.proofs.Settled.{settled-trailing, settled-rows, settled-valid}
use Rattle.theory.specs.LimitsKept.{ValidRows, valid-rows}
use Rattle.theory.specs.Mirror.{Reaches, Spans, reflect, mirror_sizes, span-sum, mirror-span, mirror-valid, mirror-satisfies}
use Rattle.theory.specs.Mirror.{mirror-diagonal}
use Rattle.theory.specs.Mirror.{valid-rows-span, valid-relations-span}
use Rattle.theory.proofs.Solutions.{run-solutions}
use Rattle.theory.specs.Report.{NonzeroDiagonal, diagonal_entry, diagonal-member, furthest-none, furthest-some}
use Rattle.theory.specs.Demands.{Accepted}
use Rattle.theory.proofs.Demands.{diagonal-nonzero}
use Rattle.solutions.specs.SolutionAnswers.{homogeneous, last_root_of}

abbrev pub nothing : Sequence
nothing = λ _ _. pos 0

pub homogeneous-left : (l : ℤ) (r : Row) (y : Sequence) (n : ℤ) → T (is_zero_of r.right) → value_of l r y n ≡ left_value l r y n
unfolding value_of
homogeneous-left l r y n h = ap (λ e. left_value l r y n -ℤ e) (eval-is_zero r.right n h) ∙ +ℤ_idr (left_value l r y n)

module _ (rows : List Row) (relations : List Relation) (h : T (homogeneous rows relations)) where
  both : T (every (λ r. is_zero_of r.right) rows) × T (every (λ e. is_zero_of e.row.right) relations)
  unfolding homogeneous
  both = (T-&& (every (λ r. is_zero_of r.right) rows) (every (λ e. is_zero_of e.row.right) relations)).0 h

  pub zero-sides : All (λ r. T (is_zero_of r.right)) rows
  zero-sides = (every-all (λ r. is_zero_of r.right) rows).0 both.0

  pub zero-relation-sides : All (λ e. T (is_zero_of e.row.right)) relations
  zero-relation-sides = (every-all (λ e. is_zero_of e.row.right) relations).0 both.1

  pub nothing-satisfies : (l : ℤ) → Satisfies l rows relations nothing
  unfolding Satisfies SatisfiesEquation SatisfiesRelation
  nothing-satisfies l = (
    all-mono (λ r. T (is_zero_of r.right)) (SatisfiesEquation l nothing)
        (λ r z n. homogeneous-left l r nothing n z ∙ left-nothing l r n) rows zero-sides,
    all-mono (λ e. T (is_zero_of e.row.right)) (SatisfiesRelation l nothing)
        (λ e z. homogeneous-left l e.row nothing e.index z ∙ left-nothing l e.row e.index) relations zero-relation-sides,
  )

abbrev pub ZeroAt : ℕ → Sequence → ℤ → Type 0
ZeroAt m y i = (c : ℕ) → c < m → y i c ≡ pos 0

abbrev pub ZeroAbove : ℕ → Sequence → ℤ → Type 0
ZeroAbove m y k = (i : ℤ) → k <ℤ i → ZeroAt m y i

module _ {z : Sizes} {rows : List Row} {relations : List Relation} {s : State} (a : Accepted trailing z rows relations s)
    (square : rank s ≡ z.m)
    (sides : T (homogeneous rows relations)) (y : Sequence) (solution : Satisfies z.l rows relations y) where
  run : MirroredRun z rows relations s
  run = settled-trailing a.valid a.accepts

  u : State
  u = run.final

  valid : ValidRows z rows relations
  valid = valid-rows a.valid

  count : length u.order ≡ z.m
  unfolding rank mirror_state u
  count = ap (λ x. length x.order) run.back ∙ square

  triangular : TriangularRows z.m (span z) u.rows u.order
  unfolding u
  triangular = subst (λ d. TriangularRows z.m d u.rows u.order) (mirror-span z) (settled-rows run.settled count)

  -- What satisfies the input satisfies the mirrored output, read backwards.
  mirrored : (x : Sequence) → Satisfies z.l rows relations x → All (SatisfiesEquation (neg_ℤ z.t) (reflect x)) u.rows
  unfolding Satisfies u
  mirrored x h =
      let m = mirror-valid z rows relations valid in
      ((run-solutions (neg_ℤ z.t) (reflect x) (map (mirror_row_of (span z)) rows) (map (mirror_relation (span z)) relations) m.row-shapes
      m.relation-shapes run.settled.chain).0
      ((mirror-satisfies (span z) z.l z.t (span-sum z a.valid.sizes) x rows relations (valid-rows-span z rows relations valid)
      (valid-relations-span z rows relations valid)).0 h)).0

  -- No trailing diagonal polynomial vanishes at n.
  abbrev Rootless : ℤ → Type 0
  Rootless n = (p : Polynomial) → Memᴰ p (diagonal trailing (span z) s) → eval p n ≢ pos 0

  nonzero-mirrored : (n : ℤ) → Rootless n → NonzeroAt z.m u.rows u.order (neg_ℤ n)
  unfolding entry leading_block diagonal_place u
  nonzero-mirrored n h j b e = h (mirror p) inside (eval-mirror p n ∙ e)
    where
      p : Polynomial
      p = diagonal_entry leading (span z) u j

      reaches : All (Reaches (span z)) u.rows
      reaches = subst (λ d. All (Reaches d) u.rows) (mirror-span z)
          (all-mono (Spans (span (mirror_sizes z))) (Reaches (span (mirror_sizes z))) (λ r w. w.reaches) u.rows
          (valid-rows-span (mirror_sizes z) u.rows u.relations (settled-valid run.settled)))

      member : Memᴰ p (diagonal leading (span z) u)
      member = diagonal-member leading (span z) u j (subst (λ k. j < k) (sym triangular.row_count) b) (subst (λ k. j < k) (sym count) b)

      inside : Memᴰ (mirror p) (diagonal trailing (span z) s)
      inside = subst (λ x. Memᴰ (mirror p) (diagonal trailing (span z) x)) run.back
          (subst (Memᴰ (mirror p)) (sym (mirror-diagonal (span z) u reaches)) (Memᴰ.map mirror member))

  pub vector-below : (n : ℤ) → Rootless n → ZeroAbove z.m y (n +ℤ z.t) → ZeroAt z.m y (n +ℤ z.t)
  unfolding SatisfiesEquation
  vector-below n h above c b =
      ap (λ i. y i c) (sym (turned n z.t)) ∙ sym (+ℤ_idr (y (neg_ℤ (neg_ℤ n +ℤ neg_ℤ z.t)) c))
      ∙ back-substitution triangular (neg_ℤ z.t) (neg_ℤ n) (λ i k. reflect y i k -ℤ reflect nothing i k)
      (nonzero-mirrored n h) solves zeros c b
    where
      turned : (i k : ℤ) → neg_ℤ (neg_ℤ i +ℤ neg_ℤ k) ≡ i +ℤ k
      turned i k = ap neg_ℤ (sym (neg_ℤ-+ℤ i k)) ∙ neg_ℤ-neg_ℤ (i +ℤ k)

      solves : (j : ℕ) → j < z.m
          → left_value (neg_ℤ z.t) (get_or u.rows j no_row) (λ i k. reflect y i k -ℤ reflect nothing i k) (neg_ℤ n) ≡ pos 0
      solves j q =
          value-difference (neg_ℤ z.t) (get_or u.rows j no_row) (reflect y) (reflect nothing) (neg_ℤ n)
          ∙ ap₂ (λ e f. e -ℤ f) (at y solution) (at nothing (nothing-satisfies rows relations sides z.l))
        where
          at : (x : Sequence) → Satisfies z.l rows relations x
              → value_of (neg_ℤ z.t) (get_or u.rows j no_row) (reflect x) (neg_ℤ n) ≡ pos 0
          at x w = all_get_or (SatisfiesEquation (neg_ℤ z.t) (reflect x)) u.rows no_row j
              (subst (λ k. j < k) (sym triangular.row_count) q)
              (mirrored x w) (neg_ℤ n)

      zeros : (i : ℕ) → i < span z → (k : ℕ) → k < z.m
          → y (neg_ℤ (neg_ℤ n +ℤ neg_ℤ z.t -ℤ pos (suc i))) k -ℤ pos 0 ≡ pos 0
      zeros i _ k q = +ℤ_idr (y (neg_ℤ (neg_ℤ n +ℤ neg_ℤ z.t -ℤ pos (suc i))) k)
          ∙ above (neg_ℤ (neg_ℤ n +ℤ neg_ℤ z.t -ℤ pos (suc i))) higher k q
        where
          index : neg_ℤ (neg_ℤ n +ℤ neg_ℤ z.t -ℤ pos (suc i)) ≡ n +ℤ z.t +ℤ pos (suc i)
          index = step n z.t (pos (suc i))
            where
              step : (e f g : ℤ) → neg_ℤ (neg_ℤ e +ℤ neg_ℤ f +ℤ neg_ℤ g) ≡ e +ℤ f +ℤ g
              step e f g = simp ringℤ

          higher : (n +ℤ z.t) <ℤ neg_ℤ (neg_ℤ n +ℤ neg_ℤ z.t -ℤ pos (suc i))
          higher = subst (λ e. (n +ℤ z.t) <ℤ e) (sym index)
              (subst (λ e. e <ℤ (n +ℤ z.t +ℤ pos (suc i))) (+ℤ_idr (n +ℤ z.t)) (+ℤ-<ℤ-left (n +ℤ z.t) (pos-<ℤ.1 (zero-lt-suc i))))

  -- Down from any bound to b, if no diagonal polynomial has a root at n with n + t above b.
  descend : (b : ℤ) → ((n : ℤ) → b <ℤ (n +ℤ z.t) → Rootless n) → (M : ℤ) → ZeroAbove z.m y M → ZeroAbove z.m y b
  descend b good M above = ⊎_elim reach (λ h i p. above i (<ℤ-trans h p)) (≤ℤ-or-> b M)
    where
      at : (k : ℤ) → b <ℤ k → ZeroAbove z.m y k → ZeroAt z.m y k
      at k h up = subst (ZeroAt z.m y) (-ℤ-+ℤ_cancel k z.t)
          (vector-below (k -ℤ z.t) (good (k -ℤ z.t) (subst (λ e. b <ℤ e) (sym (-ℤ-+ℤ_cancel k z.t)) h))
          (subst (ZeroAbove z.m y) (sym (-ℤ-+ℤ_cancel k z.t)) up))

      step : (k : ℤ) → k ≤ℤ M → (b ≤ℤ k → ZeroAbove z.m y k) → b ≤ℤ (k -ℤ pos 1) → ZeroAbove z.m y (k -ℤ pos 1)
      step k _ known h i p =
          ⊎_elim (known (<ℤ-to-≤ℤ higher) i) (λ e. subst (ZeroAt z.m y) e (at k higher (known (<ℤ-to-≤ℤ higher))))
          (≤ℤ-cases (subst (λ e. e ≤ℤ i) (-ℤ-+ℤ_cancel k (pos 1)) (<ℤ-+1.0 p)))
        where
          higher : b <ℤ k
          higher = <ℤ-+1.1 (subst (λ e. (b +ℤ pos 1) ≤ℤ e) (-ℤ-+ℤ_cancel k (pos 1)) (+ℤ-≤ℤ-right (pos 1) h))

      reach : b ≤ℤ M → ZeroAbove z.m y b
      reach h = ℤ-induction-down (λ k. b ≤ℤ k → ZeroAbove z.m y k) M (λ _. above) step b h (≤ℤ_refl b)

  nonzero : NonzeroDiagonal trailing (span z) s
  nonzero = nonzero-of-diagonal trailing (rank s) z.m (span z) s (diagonal-nonzero a)

  root-listed : (p : Polynomial) (n : ℤ) → Memᴰ p (diagonal trailing (span z) s) → eval p n ≡ pos 0
      → Memᴰ n (flatten (map roots (diagonal trailing (span z) s)))
  root-listed p n m e = flat-member roots (diagonal trailing (span z) s) m (place (roots p) (roots-complete p n (nonzero p m) e))

  -- A solution that is zero above some index is zero above the largest root plus t (SCOPE 14.72).
  pub ends_at : (r : ℤ) → last_root_of (span z) s ≡ some r → (M : ℤ) → ZeroAbove z.m y M → ZeroAbove z.m y (r +ℤ z.t)
  unfolding last_root_of
  ends_at r e M above =
      descend (r +ℤ z.t) (λ n h p m f. clash_ℤ (<ℤ-cancel-right z.t h)
      ((furthest-some leading (flatten (map roots (diagonal trailing (span z) s))) e).1 n (root-listed p n m f))) M above

  -- Without a root it is zero everywhere (SCOPE 14.72).
  pub ends_nowhere : last_root_of (span z) s ≡ none → (M : ℤ) → ZeroAbove z.m y M → (i : ℤ) → ZeroAt z.m y i
  unfolding last_root_of
  ends_nowhere e M above i =
      descend (i -ℤ pos 1) (λ n h p m f. Memᴰ.not-nil (subst (Memᴰ n)
      ((furthest-none leading (flatten (map roots (diagonal trailing (span z) s)))).0 e) (root-listed p n m f))) M above i
      (<ℤ-+1.1 (≤ℤ-of-≡ (-ℤ-+ℤ_cancel i (pos 1))))
