-- Demand 3 on the trailing side, through the mirror (SCOPE 2.91, 2.114 to 2.119, 2.122).
--
-- Main statements, of a run on the mirrored system that has led to u, all of whose rows are settled:
--   mirrored-sequences      a sequence satisfies the input exactly if it satisfies the mirror of u
--   diagonal-back           block t of the mirror of u is triangular
--   valid-back              the mirror of u is a valid system
--   dropped-back            the input is dependent exactly if u has fewer rows
--   independent-back        the rows of the mirror of u are independent
--   agrees_back             with m rows, solutions that agree on D vectors below the report agree at all lower indices
-- and of any valid system:
--   dropped-mirrored        where steps from the mirrored system have dropped a row, it is dependent
--   trailing-inconsistent   a system that the trailing run refuses with 10 is satisfied by no sequence
use Rattle.std.specs.Prelude.{◌≡◌, ℕ, ◌<◌, ◌↔◌, List, map, ℤ, pos, neg_ℤ, ◌+ℤ◌, ◌≤ℤ◌, ◌<ℤ◌}
use Rattle.std.proofs.Common.{sym}
use Rattle.std.proofs.Math.Path.{subst}
use mathlib.Core.Logic.Iff
use Rattle.std.proofs.Math.ListN.{length}
use Rattle.std.proofs.lemmas.List.{length-map}
use Rattle.std.proofs.Math.IntN.{neg_ℤ-neg_ℤ}
use Rattle.rules.specs.Rows.{Row, Relation, mirror_row_of, mirror_relation}
use Rattle.lists.specs.Everywhere.{All, all-mono}
use Rattle.rules.specs.Elimination.{leading, trailing, State, start, refused, run, enough, whole_run_of, trailing_run_of, mirror_state, report}
use Rattle.rules.specs.Stores.{Sizes, span}
use Rattle.rules.specs.Sequences.{Sequence, Satisfies, Same, Dependent}
use Rattle.theory.specs.Steps.{current, Chain}
use Rattle.theory.specs.Triangular.{triangular-start}
use Rattle.theory.specs.LimitsKept.{StateShaped, ValidRows}
use Rattle.theory.proofs.Solutions.{run-solutions}
use Rattle.theory.proofs.Inconsistency.{refused-unsatisfied}
use Rattle.theory.proofs.Dependence.{settled-independent, chain-dropped, settled-dropped}
use Rattle.theory.proofs.Ending.{mirror_outcome-refused}
use Rattle.theory.specs.Report.{Past}
use Rattle.theory.specs.Mirror.{mirror_sizes, Reaches, Spans, reflect, span-sum, mirror-span, mirror-valid}
use Rattle.theory.specs.Mirror.{mirror-satisfies, mirror-span-sum}
use Rattle.theory.specs.Mirror.{mirror-satisfies-back, mirror-dependent, valid-rows-span, valid-relations-span}
use Rattle.theory.specs.BackSubstitution.{TriangularRows}
use Rattle.theory.specs.Agreement.{trailing-agreement}
use Rattle.theory.specs.Settled.{Diagonal, Settled}
use Rattle.theory.proofs.Settled.{settled-valid, settled-triangular, settled-count, settled-rows, settled-diagonal}
use Rattle.theory.specs.Settled.{nonzero-of-diagonal, mirrored-diagonal}

pub valid-shapes : {z : Sizes} {rows : List Row} {relations : List Relation} → ValidRows z rows relations
    → StateShaped (start rows relations)
unfolding start
valid-shapes v = record { row-shapes = v.row-shapes; relation-shapes = v.relation-shapes }

mirror_sizes-twice : (z : Sizes) → mirror_sizes (mirror_sizes z) ≡ z
mirror_sizes-twice z = λ i. record { m = z.m; equations = z.equations; l = neg_ℤ-neg_ℤ z.l i; t = neg_ℤ-neg_ℤ z.t i }

module _ {z : Sizes} {rows : List Row} {relations : List Relation} (v : ValidRows z rows relations) where
  sum : z.l ≡ z.t +ℤ pos (span z)
  sum = span-sum z v.sizes

  dependent-mirrored : Dependent z.l rows ↔ Dependent (neg_ℤ z.t) (map (mirror_row_of (span z)) rows)
  dependent-mirrored = mirror-dependent (span z) z.l z.t sum rows (valid-rows-span z rows relations v)

  pub dropped-mirrored : {k : ℕ} {u : State} → Chain trailing (mirror_state (span z) (start rows relations)) k u
      → length u.rows < length rows → Dependent z.l rows
  unfolding mirror_state start
  dropped-mirrored {u = u} c fewer =
      dependent-mirrored.1
      (chain-dropped (neg_ℤ z.t) (valid-shapes (mirror-valid z rows relations v))
      (triangular-start (map (mirror_row_of (span z)) rows) (map (mirror_relation (span z)) relations)) c
      (subst (λ n. length u.rows < n) (sym (length-map rows (mirror_row_of (span z)))) fewer))

  pub trailing-inconsistent : whole_run_of trailing (span z) rows relations ≡ refused 10 → (y : Sequence) → Satisfies z.l rows relations y → ⊥
  unfolding whole_run_of trailing_run_of mirror_state start
  trailing-inconsistent e y a =
      refused-unsatisfied (neg_ℤ z.t) trailing (enough rows) (mirror_state (span z) (start rows relations))
      (valid-shapes (mirror-valid z rows relations v))
      (triangular-start (map (mirror_row_of (span z)) rows) (map (mirror_relation (span z)) relations)) (reflect y)
      (mirror_outcome-refused (span z) (run trailing (enough rows) (mirror_state (span z) (start rows relations))) 10 e)
      ((mirror-satisfies (span z) z.l z.t sum y rows relations (valid-rows-span z rows relations v)
      (valid-relations-span z rows relations v)).0 a)

  -- The run on the mirrored system has led to u.
  module _ {u : State}
      (a : Settled trailing (mirror_sizes z) (map (mirror_row_of (span z)) rows) (map (mirror_relation (span z)) relations) u) where
    spans : All (Spans (span z)) u.rows
    spans = subst (λ d. All (Spans d) u.rows) (mirror-span z)
        (valid-rows-span (mirror_sizes z) u.rows u.relations (settled-valid a))

    relations-span : All (λ e. Spans (span z) e.row) u.relations
    relations-span =
        subst (λ d. All (λ e. Spans d e.row) u.relations) (mirror-span z)
        (valid-relations-span (mirror_sizes z) u.rows u.relations (settled-valid a))

    pub mirrored-sequences : (y : Sequence)
        → Satisfies z.l rows relations y ↔ Satisfies z.l (mirror_state (span z) u).rows (mirror_state (span z) u).relations y
    unfolding mirror_state
    mirrored-sequences y =
        let m = mirror-valid z rows relations v in
        Iff.trans (mirror-satisfies (span z) z.l z.t sum y rows relations (valid-rows-span z rows relations v)
        (valid-relations-span z rows relations v))
        (Iff.trans
        (run-solutions (neg_ℤ z.t) (reflect y) (map (mirror_row_of (span z)) rows) (map (mirror_relation (span z)) relations) m.row-shapes
        m.relation-shapes a.chain)
        (Iff.symm (mirror-satisfies-back (span z) z.l z.t sum y u.rows u.relations spans relations-span)))

    leading-diagonal : Diagonal leading (current u) z.m (span z) u
    leading-diagonal = subst (λ d. Diagonal leading (current u) z.m d u) (mirror-span z) (settled-diagonal a)

    pub diagonal-back : Diagonal trailing (current u) z.m (span z) (mirror_state (span z) u)
    diagonal-back =
        mirrored-diagonal (current u) z.m (span z) u
        (all-mono (Spans (span z)) (Reaches (span z)) (λ r h. h.reaches) u.rows spans) leading-diagonal

    pub valid-back : ValidRows z (mirror_state (span z) u).rows (mirror_state (span z) u).relations
    unfolding mirror_state
    valid-back =
        subst (λ d. ValidRows z (map (mirror_row_of d) u.rows) (map (mirror_relation d) u.relations)) (mirror-span z)
        (subst (λ y. ValidRows y (map (mirror_row_of (span (mirror_sizes z))) u.rows)
        (map (mirror_relation (span (mirror_sizes z))) u.relations)) (mirror_sizes-twice z)
        (mirror-valid (mirror_sizes z) u.rows u.relations (settled-valid a)))

    pub dropped-back : (current u < length rows) ↔ Dependent z.l rows
    unfolding start
    dropped-back =
        Iff.trans (subst (λ n. (current u < length rows) ↔ (n < length (map (mirror_row_of (span z)) rows))) (settled-count a)
        (subst (λ n. (current u < length rows) ↔ (current u < n)) (sym (length-map rows (mirror_row_of (span z)))) Iff.rfl))
        (Iff.trans (settled-dropped (neg_ℤ z.t) (valid-shapes a.valid)
        (triangular-start (map (mirror_row_of (span z)) rows) (map (mirror_relation (span z)) relations)) a.chain a.all)
        (Iff.symm dependent-mirrored))

    pub independent-back : Dependent z.l (mirror_state (span z) u).rows → ⊥
    unfolding mirror_state
    independent-back d =
        settled-independent (neg_ℤ z.t) u (settled-triangular a) a.all
        ((mirror-dependent (span z) (neg_ℤ z.t) (neg_ℤ z.l) (mirror-span-sum (span z) z.l z.t sum) u.rows spans).1
        (subst (λ l. Dependent l (map (mirror_row_of (span z)) u.rows)) (sym (neg_ℤ-neg_ℤ z.l)) d))

    pub agrees_back : current u ≡ z.m → (y w : Sequence) → Satisfies z.l rows relations y → Satisfies z.l rows relations w
        → (n : ℤ) → Past trailing (report trailing (span z) (mirror_state (span z) u)) n
        → ((i : ℤ) → (n +ℤ z.t) <ℤ i → i ≤ℤ (n +ℤ z.l) → Same z.m y w i)
        → (i : ℤ) → i ≤ℤ (n +ℤ z.l) → Same z.m y w i
    unfolding Satisfies
    agrees_back square y w hy hw =
        trailing-agreement z.m (span z) u
        (subst (λ d. TriangularRows z.m d u.rows u.order) (mirror-span z) (settled-rows a square)) square
        (nonzero-of-diagonal leading (current u) z.m (span z) u leading-diagonal) spans z.l z.t sum y w
        ((mirrored-sequences y).0 hy).0
        ((mirrored-sequences w).0 hw).0
