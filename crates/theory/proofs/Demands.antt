-- Demand 3, sentence by sentence, for both sides (SCOPE 2.114 to 2.119, 2.122), and what else is proved of a run
-- (SCOPE 9.26 to 9.30, 9.41).
--
-- Main statements, by the numbers of their comments
--   1 same-sequences          4 rank_below, rows-independent,   7 report-no, report-root, report-times, report-no-times
--   2 diagonal-nonzero,         undropped-independent,          8 output-valid, relations-listed
--     rank_most, rank-few       dropped-dependent,              9 next-row-later, zero-row-dropped
--   3 agreement-leading,        zero-row-dependent              10 first-index, forward-from, backward-from
--     agreement-trailing      5 refused-inconsistent
--                             6 run_ends, shifts-bounded        11 common-root-divided, common-root-listed
use Rattle.std.specs.Prelude.{ℕ, suc, ◌*◌, ◌≤◌, ◌<◌, ◌≡◌, refl, ◌↔◌, ◌⊎◌, not, List, map, ◌++◌, T, length, ℤ, pos, ◌+ℤ◌, ◌≤ℤ◌, ◌<ℤ◌}
use Rattle.std.proofs.Common.{sym, ◌∙◌, inl, inr, arith, zero-add}
use Rattle.std.proofs.Math.Path.{subst, ap}
use Rattle.std.proofs.lemmas.List.{map-append, length-map}
use Rattle.std.proofs.Math.Option.{none, some}
use Rattle.std.proofs.Math.IntN.{+ℤ_idr}
use Rattle.algebra.specs.Polynomials.{is_zero_of, eval}
use Rattle.algebra.specs.Multiplicity.{multiplicity}
use Rattle.rules.specs.Rows.{Row, Relation, zero_row, width, mirror_relation, mirror_row_of}
use Rattle.lists.specs.Everywhere.{All, all-mono}
use Rattle.rules.specs.Elimination.{Side, leading, trailing, State, Outcome, going, done, refused, rank, start, enough, step, run}
use Rattle.rules.specs.Elimination.{whole_run_of, leading_run_of, trailing_run_of, mirror_state, diagonal, report, reported_times, row_at, put_row, drop_row}
use Rattle.rules.specs.Elimination.{limit_degrees, within}
use Rattle.rules.specs.Stores.{Sizes, equations, with_equations_of, span, row_right_of, relation_right_of, unused_zero_of, Valid}
use Rattle.rules.specs.Sequences.{Sequence, Satisfies, Same, Dependent}
use Rattle.lists.specs.Tests.{every-all}
use Rattle.theory.specs.Steps.{current, met, MetZeroBelow, combination, listed, Chain, Refusal}
use Rattle.theory.proofs.Steps.{run-refused, step-refused}
use Rattle.theory.specs.Steps.{next, dropped, length-drop_row, zero-dropped, multipliers_for}
use Rattle.theory.proofs.Steps.{chain_length}
use Rattle.theory.specs.Reduced.{LeftOut, DividedOften}
use Rattle.theory.specs.Cells.{width-unused}
use Rattle.theory.proofs.Ending.{whole_run-ends, whole_run-shifts, mirror_outcome-refused}
use Rattle.theory.specs.Report.{Past, Rootless, FurthestRoot, report-none, report-some, product, report-product, report-occurs}
use Rattle.theory.proofs.Solutions.{run-solutions}
use Rattle.theory.specs.FirstIndex.{SatisfiesFrom}
use Rattle.theory.proofs.FirstIndex.{from-same, chain-from, chain-from-back}
use Rattle.theory.specs.ListedOrder.{Listed, leading-listed, trailing-listed}
use Rattle.theory.specs.Triangular.{triangular-start, triangular-chain, combined-advances, entries_for, entries_for-divided}
use Rattle.theory.specs.Triangular.{multipliers_for-listed}
use Rattle.theory.proofs.Dependence.{settled-independent, chain-dropped, settled-dropped}
use Rattle.theory.specs.LimitsKept.{row_right-iff, relation_right-iff, ValidRows, valid-rows, counted-valid}
use Rattle.theory.specs.Mirror.{span-sum, Reaches, Spans, valid-relations-span, mirror_relations-twice}
use Rattle.theory.specs.Agreement.{leading-agreement}
use Rattle.theory.proofs.Trailing.{valid-shapes, mirrored-sequences, diagonal-back, valid-back, dropped-back, agrees_back}
use Rattle.theory.proofs.Trailing.{dropped-mirrored, independent-back, trailing-inconsistent}
use Rattle.theory.proofs.Inconsistency.{refused-unsatisfied}
use Rattle.theory.specs.Settled.{Diagonal, diagonal-most}
use Rattle.theory.proofs.Settled.{settled-count, settled-few, settled-triangular, settled-rows}
use Rattle.theory.specs.Settled.{nonzero-of-diagonal}
use Rattle.theory.proofs.Settled.{settled-leading, settled-trailing, settled-diagonal, settled-valid}
use Rattle.theory.specs.Demands.{Accepted, Ended, accepted, begun, eight, nine, seven, ten}

begun-length : (side : Side) (D : ℕ) (rows : List Row) (relations : List Relation)
    → length (begun side D rows relations).rows ≡ length rows
unfolding begun start mirror_state
begun-length leading D rows relations = refl
begun-length trailing D rows relations = length-map rows (mirror_row_of D)

-- ---- each sentence, first from a run to its final state, then mirrored back

sequences : (side : Side) {z : Sizes} {rows : List Row} {relations : List Relation} {s : State} → Valid z rows relations
    → whole_run_of side (span z) rows relations ≡ done s
    → (y : Sequence) → Satisfies z.l rows relations y ↔ Satisfies z.l s.rows s.relations y
sequences leading {z} {rows} {relations} v e y =
    run-solutions z.l y rows relations v.row-shapes v.relation-shapes (settled-leading v e).chain
sequences trailing {z} {rows} {relations} v e y =
    let m = settled-trailing v e in
    subst (λ x. Satisfies z.l rows relations y ↔ Satisfies z.l x.rows x.relations y) m.back
    (mirrored-sequences (valid-rows v) m.settled y)

triangular : (side : Side) {z : Sizes} {rows : List Row} {relations : List Relation} {s : State} → Valid z rows relations
    → whole_run_of side (span z) rows relations ≡ done s → Diagonal side (current s) z.m (span z) s
unfolding mirror_state
triangular leading v e = settled-diagonal (settled-leading v e)
triangular trailing {z} v e =
    let m = settled-trailing v e in
    subst (λ x. Diagonal trailing (current x) z.m (span z) x) m.back (diagonal-back (valid-rows v) m.settled)

no-more-rows : (side : Side) {z : Sizes} {rows : List Row} {relations : List Relation} {s : State} → Valid z rows relations
    → whole_run_of side (span z) rows relations ≡ done s → current s ≤ length rows
unfolding mirror_state
no-more-rows leading v e = settled-few (settled-leading v e)
no-more-rows trailing {z} {rows} v e =
    let m = settled-trailing v e in
    subst (λ x. current x ≤ length rows) m.back
    (subst (λ n. current m.final ≤ n) (length-map rows (mirror_row_of (span z))) (settled-few m.settled))

kept-independent : (side : Side) {z : Sizes} {rows : List Row} {relations : List Relation} {s : State} → Valid z rows relations
    → whole_run_of side (span z) rows relations ≡ done s → Dependent z.l s.rows → ⊥
kept-independent leading {z} {s = s} v e =
    let a = settled-leading v e in
    settled-independent z.l s (settled-triangular a) a.all
kept-independent trailing {z} v e =
    let m = settled-trailing v e in
    subst (λ x. Dependent z.l x.rows → ⊥) m.back (independent-back (valid-rows v) m.settled)

-- Fewer rows are settled than there were exactly if those were dependent.
fewer-rows : (side : Side) {z : Sizes} {rows : List Row} {relations : List Relation} {s : State} → Valid z rows relations
    → whole_run_of side (span z) rows relations ≡ done s → (current s < length rows) ↔ Dependent z.l rows
unfolding start mirror_state
fewer-rows leading {z} {rows} {relations} v e =
    let a = settled-leading v e in
    subst (λ n. (n < length rows) ↔ Dependent z.l rows) (sym (settled-count a))
    (settled-dropped z.l (valid-shapes (valid-rows v)) (triangular-start rows relations) a.chain a.all)
fewer-rows trailing {z} {rows} v e =
    let m = settled-trailing v e in
    subst (λ x. (current x < length rows) ↔ Dependent z.l rows) m.back (dropped-back (valid-rows v) m.settled)

valid-output : (side : Side) {z : Sizes} {rows : List Row} {relations : List Relation} {s : State} → Valid z rows relations
    → whole_run_of side (span z) rows relations ≡ done s → ValidRows z s.rows s.relations
valid-output leading v e = settled-valid (settled-leading v e)
valid-output trailing {z} v e =
    let m = settled-trailing v e in
    subst (λ x. ValidRows z x.rows x.relations) m.back (valid-back (valid-rows v) m.settled)

-- The input's relations stay first, and what the run lists is behind them, mirrored back on the trailing side.
listed-behind : (side : Side) {z : Sizes} {rows : List Row} {relations : List Relation} {s : State} → Valid z rows relations
    → whole_run_of side (span z) rows relations ≡ done s → (more : List Relation) × (s.relations ≡ relations ++ more) × Listed more
unfolding start mirror_state
listed-behind leading {rows = rows} {relations} v e = leading-listed (triangular-start rows relations) (settled-leading v e).chain
listed-behind trailing {z} {rows} {relations} {s} v e =
    let m = settled-trailing v e in
    let (more, same, groups) = trailing-listed (span z)
    (triangular-start (map (mirror_row_of (span z)) rows) (map (mirror_relation (span z)) relations)) m.settled.chain in
    (map (mirror_relation (span z)) more, sym (ap (λ x. x.relations) m.back) ∙ turned m.final more same, groups)
  where
    reach : All (λ x. Reaches (span z) x.row) relations
    reach =
        all-mono (λ x. Spans (span z) x.row) (λ x. Reaches (span z) x.row) (λ x h. h.reaches) relations
        (valid-relations-span z rows relations (valid-rows v))

    turned : (u : State) (more : List Relation) → u.relations ≡ map (mirror_relation (span z)) relations ++ more
        → (mirror_state (span z) u).relations ≡ relations ++ map (mirror_relation (span z)) more
    turned u more same =
        ap (map (mirror_relation (span z))) same ∙ map-append (mirror_relation (span z)) (map (mirror_relation (span z)) relations) more
        ∙ ap (λ l. l ++ map (mirror_relation (span z)) more) (mirror_relations-twice (span z) relations reach)

-- The rows of a valid system have no block below t.
valid-widths : {z : Sizes} {rows : List Row} {relations : List Relation} → Valid z rows relations → All (λ r. width r ≤ suc (span z)) rows
valid-widths {z} {rows} v =
    all-mono (λ r. T (row_right_of z r)) (λ r. width r ≤ suc (span z))
    (λ r t. width-unused z.m (span z) r ((row_right-iff z r).0 t).1) rows
    ((every-all (row_right_of z) rows).0 v.rows_right)

module _ {side : Side} {z : Sizes} {rows : List Row} {relations : List Relation} {s : State} (a : Accepted side z rows relations s) where
  -- 1. A sequence satisfies the input exactly if it satisfies the output (SCOPE 2.114).
  pub same-sequences : (y : Sequence) → Satisfies z.l rows relations y ↔ Satisfies z.l s.rows s.relations y
  same-sequences y = sequences side a.valid a.accepts y

  -- 2. The output is triangular, and no diagonal polynomial is zero (SCOPE 2.71, 2.73, 2.115); it has as many rows as its rank
  -- says, no more than there are unknowns and no more than there were equations (SCOPE 2.13).
  pub diagonal-nonzero : Diagonal side (rank s) z.m (span z) s
  unfolding rank
  diagonal-nonzero = triangular side a.valid a.accepts

  pub rank_most : rank s ≤ z.m
  rank_most = diagonal-most diagonal-nonzero

  pub rank-few : rank s ≤ equations z
  unfolding rank
  rank-few = subst (λ n. current s ≤ n) a.valid.row_count (no-more-rows side a.valid a.accepts)

  -- 4. The rank is below the number of equations exactly if they are dependent (SCOPE 2.122).
  pub rank_below : (rank s < equations z) ↔ Dependent z.l rows
  unfolding rank
  rank_below = subst (λ n. (current s < n) ↔ Dependent z.l rows) a.valid.row_count (fewer-rows side a.valid a.accepts)

  -- The rows kept are independent, and so are the equations where no row was dropped (SCOPE 2.118).
  pub rows-independent : Dependent z.l s.rows → ⊥
  rows-independent = kept-independent side a.valid a.accepts

  pub undropped-independent : rank s ≡ equations z → Dependent z.l rows → ⊥
  undropped-independent same d = absurd (omega (arith, rank_below.1 d))

  -- 6. An accepted run has made no more than D shifts for each equation (SCOPE 2.65).
  pub shifts-bounded : s.shifts ≤ equations z * span z
  shifts-bounded =
      subst (λ n. s.shifts ≤ n * span z) a.valid.row_count
      (whole_run-shifts side (span z) rows relations s (valid-widths a.valid) a.accepts)

  -- 7. The report is "no" exactly if no diagonal polynomial of the output vanishes at an integer; a reported root is
  -- the greatest of all, on the trailing side the least (SCOPE 2.81, 2.93).
  pub report-no : (report side (span z) s ≡ none) ↔ Rootless (diagonal side (span z) s)
  report-no = report-none side (span z) s (nonzero-of-diagonal side (rank s) z.m (span z) s diagonal-nonzero)

  pub report-root : {r : ℤ} → report side (span z) s ≡ some r → FurthestRoot side (diagonal side (span z) s) r
  report-root e = report-some side (span z) s (nonzero-of-diagonal side (rank s) z.m (span z) s diagonal-nonzero) e

  -- Beside a reported root stands how often it occurs in the product of the diagonal polynomials, at least once, and beside "no" 0
  -- (SCOPE 2.83).
  pub report-times : {r : ℤ} → report side (span z) s ≡ some r
      → (reported_times side (span z) s (report side (span z) s) ≡ multiplicity (product (diagonal side (span z) s)) r)
      × (1 ≤ reported_times side (span z) s (report side (span z) s))
  unfolding reported_times
  report-times {r} e =
      let nonzero = nonzero-of-diagonal side (rank s) z.m (span z) s diagonal-nonzero in
      rw e (report-product side (span z) s nonzero r, report-occurs side (span z) s nonzero e)

  pub report-no-times : report side (span z) s ≡ none → reported_times side (span z) s (report side (span z) s) ≡ 0
  unfolding reported_times
  report-no-times e = ap (reported_times side (span z) s) e

  -- 8. Every coefficient and every n0 of the output lies within ±C, every degree is at most 15, unused positions stay
  -- zero (SCOPE 9.27).
  pub output-valid : Valid (with_equations_of (rank s) z) s.rows s.relations
  output-valid = counted-valid (valid-output side a.valid a.accepts) diagonal-nonzero.row_count rank-few

  -- The input's relations stay first (SCOPE 2.3). Behind them the relations that one multiplier adds stand together, by strictly
  -- ascending n0 as given back (SCOPE 2.33).
  pub relations-listed : (more : List Relation) × (s.relations ≡ relations ++ more) × Listed more
  relations-listed = listed-behind side a.valid a.accepts

-- 3. Where the rank is m, on the leading side: where n lies above the reported root, or anywhere if the report is "no", sequences
-- that satisfy the system and are equal at the D indices from n + t to n + l - 1 are equal from n + t upward (SCOPE 2.116).
pub agreement-leading : {z : Sizes} {rows : List Row} {relations : List Relation} {s : State} → Accepted leading z rows relations s
    → rank s ≡ z.m → (y w : Sequence) → Satisfies z.l rows relations y → Satisfies z.l rows relations w
    → (n : ℤ) → Past leading (report leading (span z) s) n
    → ((i : ℤ) → (n +ℤ z.t) ≤ℤ i → i <ℤ (n +ℤ z.l) → Same z.m y w i)
    → (i : ℤ) → (n +ℤ z.t) ≤ℤ i → Same z.m y w i
unfolding Satisfies rank
agreement-leading {z} {s = s} a square y w hy hw =
    let b = settled-leading a.valid a.accepts in
    leading-agreement z.m (span z) s (settled-rows b square) square
    (nonzero-of-diagonal leading (current s) z.m (span z) s (settled-diagonal b))
    z.l z.t (span-sum z a.valid.sizes) y w ((same-sequences a y).0 hy).0 ((same-sequences a w).0 hw).0

-- On the trailing side: where n lies below the reported root, or anywhere with "no", such sequences that are equal at the D
-- indices from n + t + 1 to n + l are equal from n + l downward (SCOPE 2.117).
pub agreement-trailing : {z : Sizes} {rows : List Row} {relations : List Relation} {s : State} → Accepted trailing z rows relations s
    → rank s ≡ z.m → (y w : Sequence) → Satisfies z.l rows relations y → Satisfies z.l rows relations w
    → (n : ℤ) → Past trailing (report trailing (span z) s) n
    → ((i : ℤ) → (n +ℤ z.t) <ℤ i → i ≤ℤ (n +ℤ z.l) → Same z.m y w i)
    → (i : ℤ) → i ≤ℤ (n +ℤ z.l) → Same z.m y w i
unfolding mirror_state rank
agreement-trailing {z} a square y w hy hw n past =
    let m = settled-trailing a.valid a.accepts in
    agrees_back (valid-rows a.valid) m.settled (ap (λ x. current x) m.back ∙ square) y w hy hw n
    (subst (λ x. Past trailing (report trailing (span z) x) n) (sym m.back) past)

-- 4. A row is dropped only where a nonzero combination of shifted equations vanishes (SCOPE 2.119), in a run that is refused later too:
-- where any number of its steps have left fewer rows than there were equations,
pub dropped-dependent : (side : Side) {z : Sizes} {rows : List Row} {relations : List Relation} → Valid z rows relations
    → {k : ℕ} {u : State} → Chain side (begun side (span z) rows relations) k u → length u.rows < length rows → Dependent z.l rows
unfolding begun start
dropped-dependent leading {z} {rows} {relations} v c =
    chain-dropped z.l (valid-shapes (valid-rows v)) (triangular-start rows relations) c
dropped-dependent trailing v c = dropped-mirrored (valid-rows v) c

-- and where they lead to a zero row in its turn.
pub zero-row-dependent : (side : Side) {z : Sizes} {rows : List Row} {relations : List Relation} → Valid z rows relations
    → {k : ℕ} {u : State} → Chain side (begun side (span z) rows relations) k u → current u < length u.rows
    → T (zero_row (row_at u (current u))) → Dependent z.l rows
zero-row-dependent side {z} {rows} {relations} v {u = u} c more zeros =
    dropped-dependent side v (next c (dropped more zeros))
    (omega (arith, length-drop_row u (current u) more, chain_length c, begun-length side (span z) rows relations))

-- 5. A system that is refused with 10 is satisfied by no sequence at all (SCOPE 2.121).
pub refused-inconsistent : (side : Side) {z : Sizes} {rows : List Row} {relations : List Relation} → Valid z rows relations
    → whole_run_of side (span z) rows relations ≡ refused 10 → (y : Sequence) → Satisfies z.l rows relations y → ⊥
unfolding whole_run_of leading_run_of start
refused-inconsistent leading {z} {rows} {relations} v e y =
    refused-unsatisfied z.l leading (enough rows) (start rows relations) (valid-shapes (valid-rows v))
    (triangular-start rows relations) y e
refused-inconsistent trailing v e y = trailing-inconsistent (valid-rows v) e y

-- The number of a refused run is that of its refused step.
refused-number : (side : Side) (k : ℕ) (s : State) (n : ℕ) → run side k s ≡ refused n → Ended (refused n)
refused-number side k s n e =
    let (j, u, c, more, f) = run-refused side k s n e in
    number u (step-refused side u n more f)
  where
    number : (u : State) → Refusal side u n → Ended (refused n)
    number u (inl h) = subst (λ k. Ended (refused k)) (sym h.0) ten
    number u (inr (inl h)) = subst (λ k. Ended (refused k)) (sym h) seven
    number u (inr (inr (inl h))) = subst (λ k. Ended (refused k)) (sym h) eight
    number u (inr (inr (inr h))) = subst (λ k. Ended (refused k)) (sym h) nine

whole-refused : (side : Side) (D : ℕ) (rows : List Row) (relations : List Relation) (n : ℕ) → whole_run_of side D rows relations ≡ refused n
    → Ended (refused n)
unfolding whole_run_of leading_run_of trailing_run_of
whole-refused leading D rows relations n e = refused-number leading (enough rows) (start rows relations) n e
whole-refused trailing D rows relations n e =
    refused-number trailing (enough rows) (mirror_state D (start rows relations)) n
    (mirror_outcome-refused D (run trailing (enough rows) (mirror_state D (start rows relations))) n e)

pub run_ends : (side : Side) {z : Sizes} {rows : List Row} {relations : List Relation} → Valid z rows relations
    → Ended (whole_run_of side (span z) rows relations)
run_ends side {z} {rows} {relations} v = cases (whole_run_of side (span z) rows relations) refl
  where
    cases : (o : Outcome) → whole_run_of side (span z) rows relations ≡ o → Ended o
    cases (going s) e = absurd (whole_run-ends side (span z) rows relations s v.row-shapes e)
    cases (done s) e = accepted s
    cases (refused n) e = whole-refused side (span z) rows relations n e

-- 9. After a combination with settled row j, row i is zero at c(1) to c(j), so the next settled row that a step works
-- with comes after j (SCOPE 2.26).
pub next-row-later : {side : Side} (rows : List Row) (relations : List Relation) {k : ℕ} {s : State} → Chain side (start rows relations) k s
    → (j : ℕ) → j < current s → current s < length s.rows → MetZeroBelow s j → T (not (is_zero_of (met s j)))
    → (r : Row) → limit_degrees (combination s j) ≡ within r → MetZeroBelow (put_row (listed side s j) (current s) r) (suc j)
next-row-later {side} rows relations {s = s} c j below more clear meets =
    combined-advances s j (triangular-chain c (triangular-start rows relations)) below more clear meets side

-- The row that a combination has made zero is dropped by the next step (SCOPE 2.11, 2.45).
pub zero-row-dropped : (side : Side) (s : State) → T (zero_row (row_at s (current s))) → step side s ≡ going (drop_row s (current s))
zero-row-dropped = zero-dropped

-- 11. At an integer r the two entries, as they are after the exchange, are divided by n - r as often as the smaller of their
-- multiplicities says, unless the limit has left a division out (SCOPE 2.85).
pub common-root-divided : {side : Side} (rows : List Row) (relations : List Relation) {k : ℕ} {s : State}
    → Chain side (start rows relations) k s → (j : ℕ) → j < current s → current s < length s.rows → MetZeroBelow s j
    → T (not (is_zero_of (met s j))) → (r : ℤ) → LeftOut r (entries_for s j) ⊎ DividedOften r (entries_for s j)
common-root-divided rows relations {s = s} c j below more clear meets =
    entries_for-divided s j (triangular-chain c (triangular-start rows relations)) below more clear meets

-- A relation is listed at a common root r of both entries only where the limit has left a division by n - r out, or where r occurs
-- more often in row j's entry than in row i's, as both are after the exchange (SCOPE 2.29).
pub common-root-listed : {side : Side} (rows : List Row) (relations : List Relation) {k : ℕ} {s : State}
    → Chain side (start rows relations) k s → (j : ℕ) → j < current s → current s < length s.rows → MetZeroBelow s j
    → T (not (is_zero_of (met s j))) → (r : ℤ) → eval (multipliers_for s j).g r ≡ pos 0
    → LeftOut r (entries_for s j) ⊎ (multiplicity (entries_for s j).target r < multiplicity (entries_for s j).pivot r)
common-root-listed rows relations {s = s} c j below more clear meets =
    multipliers_for-listed s j (triangular-chain c (triangular-start rows relations)) below more clear meets

-- ---- sequences with a first index, on the leading side

-- The rows of a valid system have no block below t and no column past m, and so have those of its relations.
valid-unused : {z : Sizes} {rows : List Row} {relations : List Relation} → Valid z rows relations
    → All (λ r. T (unused_zero_of z.m (span z) r)) rows × All (λ e. T (unused_zero_of z.m (span z) e.row)) relations
valid-unused {z} {rows} {relations} v = (
  all-mono (λ r. T (row_right_of z r)) (λ r. T (unused_zero_of z.m (span z) r)) (λ r t. ((row_right-iff z r).0 t).1) rows
      ((every-all (row_right_of z) rows).0 v.rows_right),
  all-mono (λ e. T (relation_right_of z e)) (λ e. T (unused_zero_of z.m (span z) e.row))
      (λ e t. ((row_right-iff z e.row).0 ((relation_right-iff z e).0 t).1).1) relations
      ((every-all (relation_right_of z) relations).0 v.relations-right),
)

-- 10. Of a sequence that satisfies the equations at every n from k or a later index on and the relations with n0 ≥ k, nothing below the
-- index k + t is used, so that a two-sided sequence serves for a series that begins there (SCOPE 2.125).
pub first-index : {z : Sizes} {rows : List Row} {relations : List Relation} → Valid z rows relations → (j k : ℤ) → k ≤ℤ j
    → (y w : Sequence) → ((i : ℤ) → (k +ℤ z.t) ≤ℤ i → Same z.m y w i)
    → SatisfiesFrom z.l j k rows relations y → SatisfiesFrom z.l j k rows relations w
first-index {z} {rows} {relations} v j k h y w same =
    let unused = valid-unused v in
    from-same z.m (span z) z.l z.t k (span-sum z v.sizes) y w same j h rows relations unused.0 unused.1

-- What satisfies the input's equations at every n ≥ k and its relations with n0 ≥ k does so with those of the output (SCOPE 2.123).
pub forward-from : {z : Sizes} {rows : List Row} {relations : List Relation} {s : State} → Accepted leading z rows relations s
    → (k : ℤ) (y : Sequence) → SatisfiesFrom z.l k k rows relations y → SatisfiesFrom z.l k k s.rows s.relations y
unfolding start
forward-from {z} a k y =
    chain-from z.l y k (valid-shapes (valid-rows a.valid)) (settled-leading a.valid a.accepts).chain

-- What satisfies those of the output satisfies the input's equations at every n ≥ k + S, with S shifts, and its relations with
-- n0 ≥ k (SCOPE 2.124).
pub backward-from : {z : Sizes} {rows : List Row} {relations : List Relation} {s : State} → Accepted leading z rows relations s
    → (k : ℤ) (y : Sequence) → SatisfiesFrom z.l k k s.rows s.relations y
    → SatisfiesFrom z.l (k +ℤ pos s.shifts) k rows relations y
unfolding start
backward-from {z} {rows} {relations} {s} a k y f =
    subst (λ n. SatisfiesFrom z.l (k +ℤ pos n) k rows relations y) (zero-add s.shifts)
    (chain-from-back z.l y k (valid-shapes (valid-rows a.valid)) (triangular-start rows relations) refl
    (settled-leading a.valid a.accepts).chain 0
    (subst (λ j. SatisfiesFrom z.l j k s.rows s.relations y) (sym (+ℤ_idr k)) f))
