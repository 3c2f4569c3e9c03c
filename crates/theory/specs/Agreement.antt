-- Demand 3's agreement on both sides: past the reported root, D vectors of a solution settle all that follow
-- (SCOPE 2.116, 2.117).
--
-- Main statements
--   triangular-rows, diagonal-nonzero   the settled rows of a valid system can be substituted back, and no diagonal polynomial is zero
--   leading-agreement      solutions equal at n + t to n + l - 1 are equal at every index from n + t on
--   trailing-agreement     solutions equal at n + t + 1 to n + l are equal at every index up to n + l
use Rattle.std.specs.Prelude.{ℕ, ◌<◌, ◌≡◌, not, get_or, ℤ, pos, ◌+ℤ◌, ◌≤ℤ◌, ◌<ℤ◌}
use Rattle.std.proofs.Common.{sym, ◌∙◌, inl}
use Rattle.std.proofs.Math.Path.{ap, subst}
use Rattle.std.proofs.Math.Option.{Option, none, some}
use mathlib.Core.List.Memᴰ
use mathlib.Core.List.{[], map, Memᴰ}
use Rattle.std.proofs.Math.Dec.{T}
use Rattle.std.proofs.Math.ListN.{length}
use Rattle.std.proofs.Math.IntN.{neg_ℤ, neg_ℤ-neg_ℤ, neg_ℤ-+ℤ}
use Rattle.std.specs.Int.Signed.{<ℤ-≤ℤ_trans}
use Rattle.algebra.specs.Order.{≤ℤ-<ℤ-trans, neg_ℤ-≤ℤ, neg_ℤ-<ℤ}
use Rattle.algebra.specs.Polynomials.{Polynomial, eval, is_zero_of, mirror, is_zero-mirror, eval-mirror}
use Rattle.rules.specs.Rows.{Row, no_row, entry, leading_block}
use Rattle.lists.specs.Everywhere.{All, all-mono, all_get_or}
use Rattle.rules.specs.Elimination.{leading, trailing, State, row_at, mirror_state, diagonal_place, diagonal, report}
use Rattle.rules.specs.Stores.{Sizes, span, unused_zero_of, row_right_of}
use Rattle.rules.specs.Sequences.{Sequence, SatisfiesEquation, Satisfies, Same}
use Rattle.lists.specs.Tests.{every-all}
use Rattle.theory.specs.Steps.{current}
use Rattle.theory.specs.Triangular.{Triangular}
use Rattle.theory.specs.Pivots.{ColumnsBelow, column-below, order-complete}
use Rattle.theory.specs.Cells.{entry-cell, unused-cells}
use Rattle.theory.specs.LimitsKept.{row_right-iff, ValidRows}
use Rattle.theory.specs.BackSubstitution.{TriangularRows, NonzeroAt, SameBetween, agreement}
use Rattle.theory.specs.Report.{Past, NonzeroDiagonal, diagonal_entry, diagonal-member, nonzero-diagonal, past-report}
use Rattle.theory.specs.Mirror.{Reaches, Spans, reflect, mirror-diagonal, mirror-span-sum, mirror-satisfies-back}

-- ---- the settled rows of a valid system

unused-columns : (m D : ℕ) (r : Row) → T (unused_zero_of m D r) → ColumnsBelow m r
unused-columns m D r u c h = subst (λ p. T (is_zero_of p)) (sym (entry-cell r c)) ((unused-cells m D r).0 u 0 c (inl h))

module _ (z : Sizes) (s : State) (valid : ValidRows z s.rows s.relations) (triangular : Triangular s)
    (settled : current s ≡ length s.rows) where
  unused-rows : All (λ r. T (unused_zero_of z.m (span z) r)) s.rows
  unused-rows =
      all-mono (λ r. T (row_right_of z r)) (λ r. T (unused_zero_of z.m (span z) r))
      (λ r h. ((row_right-iff z r).0 h).1) s.rows ((every-all (row_right_of z) s.rows).0 valid.rows_right)

  narrow : All (ColumnsBelow z.m) s.rows
  narrow = all-mono (λ r. T (unused_zero_of z.m (span z) r)) (ColumnsBelow z.m) (unused-columns z.m (span z)) s.rows unused-rows

  -- The column of a settled row is one of the m columns.
  pub settled-column : (j : ℕ) → j < length s.rows → get_or s.order j 0 < z.m
  settled-column j h =
      column-below z.m s.order s.rows triangular.fits triangular.pivots narrow j (subst (λ n. j < n) (sym settled) h)

  -- With as many rows as columns every column is that of a row.
  pub every-column : length s.rows ≡ z.m → (c : ℕ) → c < z.m → (j : ℕ) × (j < z.m) × (get_or s.order j 0 ≡ c)
  every-column square = order-complete z.m s.order s.rows triangular.fits triangular.pivots narrow (settled ∙ square)

  pub triangular-rows : length s.rows ≡ z.m → TriangularRows z.m (span z) s.rows s.order
  unfolding row_at
  triangular-rows square =
      record {
        row_count = square;
        column-below = λ j h. settled-column j (subst (λ n. j < n) (sym square) h);
        column-of = every-column square;
        zero-before = λ j k h b. (triangular.pivots j (below j b)).zeros k h;
        unused = λ j h. all_get_or (λ r. T (unused_zero_of z.m (span z) r)) s.rows no_row j (within j h) unused-rows;
      }
    where
      within : (j : ℕ) → j < z.m → j < length s.rows
      within j h = subst (λ n. j < n) (sym square) h

      below : (j : ℕ) → j < z.m → j < current s
      below j h = subst (λ n. j < n) (sym (settled ∙ square)) h

  pub diagonal-nonzero : NonzeroDiagonal leading (span z) s
  unfolding row_at entry leading_block diagonal_place
  diagonal-nonzero = nonzero-diagonal leading (span z) s (λ j h b. (triangular.pivots j b).diagonal)

-- ---- agreement

past-further : (o : Option ℤ) (n k : ℤ) → Past leading o n → n ≤ℤ k → Past leading o k
past-further none n k p h = tt
past-further (some r) n k p h = <ℤ-≤ℤ_trans p h

past-lower : (o : Option ℤ) (n k : ℤ) → Past trailing o n → k ≤ℤ n → Past trailing o k
past-lower none n k p h = tt
past-lower (some r) n k p h = ≤ℤ-<ℤ-trans h p

negate-sum : (a b : ℤ) → neg_ℤ (neg_ℤ a +ℤ neg_ℤ b) ≡ a +ℤ b
negate-sum a b = ap neg_ℤ (sym (neg_ℤ-+ℤ a b)) ∙ neg_ℤ-neg_ℤ (a +ℤ b)

-- The state s holds m settled rows, triangular, of the leading side; or of the mirrored system.
module _ (m D : ℕ) (s : State) (triangular : TriangularRows m D s.rows s.order) (settled : length s.order ≡ m)
    (nonzero : NonzeroDiagonal leading D s) where
  member : (j : ℕ) → j < m → Memᴰ (diagonal_entry leading D s j) (diagonal leading D s)
  member j h =
      diagonal-member leading D s j (subst (λ k. j < k) (sym triangular.row_count) h) (subst (λ k. j < k) (sym settled) h)

  nonzero-past : (n : ℤ) → Past leading (report leading D s) n → NonzeroAt m s.rows s.order n
  unfolding entry leading_block diagonal_place
  nonzero-past n past j h = past-report leading D s nonzero n past (diagonal_entry leading D s j) (member j h)

  -- For n above the report, equal at n + t to n + l - 1 means equal from n + t upward (SCOPE 2.116).
  pub leading-agreement : (l t : ℤ) → l ≡ t +ℤ pos D → (z y : Sequence)
      → All (SatisfiesEquation l z) s.rows → All (SatisfiesEquation l y) s.rows
      → (n : ℤ) → Past leading (report leading D s) n → SameBetween m z y (n +ℤ t) (n +ℤ l)
      → (i : ℤ) → (n +ℤ t) ≤ℤ i → Same m z y i
  leading-agreement l t span z y a b n past =
      agreement triangular l t span z y a b n (λ k h. nonzero-past k (past-further (report leading D s) n k past h))

  module _ (spans : All (Spans D) s.rows) where
    mirrored-diagonal : diagonal trailing D (mirror_state D s) ≡ map mirror (diagonal leading D s)
    mirrored-diagonal = mirror-diagonal D s (all-mono (Spans D) (Reaches D) (λ r h. h.reaches) s.rows spans)

    nonzero-mirrored : NonzeroDiagonal trailing D (mirror_state D s)
    nonzero-mirrored p h =
        let (q, i, e) = Memᴰ.of_map mirror (diagonal leading D s) (subst (Memᴰ p) mirrored-diagonal h) in
        subst (λ x. T (not (is_zero_of x))) e (subst (λ b. T (not b)) (sym (is_zero-mirror q)) (nonzero q i))

    -- Below the report of the mirror at -k, the diagonal is nonzero at k.
    nonzero-below : (k : ℤ) → Past trailing (report trailing D (mirror_state D s)) (neg_ℤ k) → NonzeroAt m s.rows s.order k
    unfolding entry leading_block diagonal_place
    nonzero-below k past j h e =
        past-report trailing D (mirror_state D s) nonzero-mirrored (neg_ℤ k) past (mirror p) inside
        (eval-mirror p (neg_ℤ k) ∙ ap (eval p) (neg_ℤ-neg_ℤ k) ∙ e)
      where
        p : Polynomial
        p = diagonal_entry leading D s j

        inside : Memᴰ (mirror p) (diagonal trailing D (mirror_state D s))
        inside = subst (Memᴰ (mirror p)) (sym mirrored-diagonal) (Memᴰ.map mirror (member j h))

    reflected : (l t : ℤ) → l ≡ t +ℤ pos D → (z : Sequence) → All (SatisfiesEquation l z) (mirror_state D s).rows
        → All (SatisfiesEquation (neg_ℤ t) (reflect z)) s.rows
    unfolding mirror_state Satisfies All
    reflected l t span z a = ((mirror-satisfies-back D l t span z s.rows [] spans tt).0 (a, tt)).0

    -- For n below the report, equal at n + t + 1 to n + l means equal from n + l downward (SCOPE 2.117).
    pub trailing-agreement : (l t : ℤ) → l ≡ t +ℤ pos D → (z y : Sequence)
        → All (SatisfiesEquation l z) (mirror_state D s).rows → All (SatisfiesEquation l y) (mirror_state D s).rows
        → (n : ℤ) → Past trailing (report trailing D (mirror_state D s)) n
        → ((i : ℤ) → (n +ℤ t) <ℤ i → i ≤ℤ (n +ℤ l) → Same m z y i)
        → (i : ℤ) → i ≤ℤ (n +ℤ l) → Same m z y i
    unfolding Same
    trailing-agreement l t span z y a b n past same i h =
        subst (Same m z y) (neg_ℤ-neg_ℤ i)
        (agreement triangular (neg_ℤ t) (neg_ℤ l) (mirror-span-sum D l t span) (reflect z) (reflect y)
        (reflected l t span z a) (reflected l t span y b) (neg_ℤ n) settles before (neg_ℤ i) from)
      where
        settles : (k : ℤ) → neg_ℤ n ≤ℤ k → NonzeroAt m s.rows s.order k
        settles k p =
            let below : neg_ℤ k ≤ℤ n = subst (λ x. neg_ℤ k ≤ℤ x) (neg_ℤ-neg_ℤ n) (neg_ℤ-≤ℤ.0 p) in
            nonzero-below k (past-lower (report trailing D (mirror_state D s)) n (neg_ℤ k) past below)

        before : SameBetween m (reflect z) (reflect y) (neg_ℤ n +ℤ neg_ℤ l) (neg_ℤ n +ℤ neg_ℤ t)
        before k p q =
            same (neg_ℤ k) (subst (λ x. x <ℤ neg_ℤ k) (negate-sum n t) (neg_ℤ-<ℤ.0 q))
            (subst (λ x. neg_ℤ k ≤ℤ x) (negate-sum n l) (neg_ℤ-≤ℤ.0 p))

        from : (neg_ℤ n +ℤ neg_ℤ l) ≤ℤ neg_ℤ i
        from = subst (λ x. x ≤ℤ neg_ℤ i) (neg_ℤ-+ℤ n l) (neg_ℤ-≤ℤ.0 h)
