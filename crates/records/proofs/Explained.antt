-- What the answer to a record promises.
--
-- Main statements
--   tests-all               the tests are those of each equation at each such n, and of each relation with such an n0
--   sums-meant              a sum that is formed is the value of its row, on every sequence that agrees with the record
--   sums-unformed           a sum is not formed exactly if a value of Horner's rule for its row passes the limit
--   fits-explains           "fits" says that the system explains the record
--   explains-fits           if it does and 12 does not come, the answer is "fits", with the number of tests
--   failure-value           a failure's sum is the nonzero value of its row at its index
use Prim.Native.Nat.{ℕ, zero, suc, ◌+◌, ◌-◌, ◌≤◌, ◌<◌, suc-le-suc}
use Rattle.std.proofs.Common.{add-zero, zero-add, not-suc-le-zero, le_of_suc-le-suc, eq-or-lt_of_le, ◌∙◌, ap}
use native.Mathlib.Omega.{arith}
use Rattle.std.specs.Prelude.{◌≡◌, refl, ◌≢◌, ◌↔◌, Bool, cond, length, get_or, ℤ, ◌≤ℤ◌}
use Rattle.std.proofs.Math.Path.{sym, ap₂, subst}
use Rattle.std.proofs.Math.Logic.{⊎_elim}
use Rattle.std.proofs.Math.Bool.{true, false}
use mathlib.Core.List.{List, [], ◌∷◌}
use Rattle.std.proofs.Math.Option.{some}
use Rattle.std.proofs.Math.Dec.{T}
use Rattle.std.proofs.Math.IntN.{pos}
use Rattle.lists.specs.Everywhere.{All, all_get_or, get_or-all, all-mono, all-front, all_back, append-all, all_both}
use Rattle.rules.specs.Rows.{Row, Relation, no_row}
use Rattle.rules.specs.Sequences.{Sequence, value_of}
use Rattle.rules.specs.Stores.{Sizes, span, unused_zero_of}
use Rattle.records.specs.Records.{Which, equation, relation, Tested, Answer, fits, fails, refused, limit_passed, answer_to}
use Rattle.records.specs.Records.{row_sum_of, top_at, sum_at, inside, index_from_of, row_tests, equation_tests, relation_tests, tests}
use Rattle.records.specs.RecordPlaces.{inside-index, index-inside}
use Rattle.records.specs.RecordAnswers.{answer-count}
use Rattle.records.specs.RecordMeaning.{Agrees, RowPasses}
use Rattle.records.proofs.RecordMeaning.{row_sum-none, sum-value}
use Rattle.records.specs.Outcomes.{SumZero, First, FailsWith, Unformed, first-has, first-as, fits-sums, fails-first}
use Rattle.records.specs.Outcomes.{refused-first, first-refused}
use Rattle.records.specs.Explained.{Explains, named, no_relation}

-- ---- which tests there are

module _ (P : Tested → Type 0) where
  -- A test that may have been left out, and the others.
  chosen : (b : Bool) (t : Tested) (ts : List Tested) → All P (cond b (t ∷ ts) ts) → (T b → P t) × All P ts
  unfolding All
  chosen true t ts a = (λ h. a.0, a.1)
  chosen false t ts a = (λ h. absurd h, a)

  module _ (m D : ℕ) (values : List ℤ) (top : ℕ) (n : ℤ) where
    abbrev row-test : ℕ → Row → Tested
    row-test i r = record { which = equation i; index = n; sum = row_sum_of m D values top r n }

    rows_all : (i : ℕ) (rows : List Row) → ((k : ℕ) → k < length rows → P (row-test (i + k) (get_or rows k no_row)))
        → All P (row_tests m D values top n i rows)
    unfolding All row_tests
    rows_all i [] f = tt
    rows_all i (r ∷ rs) f =
        let place : (k : ℕ) → i + suc k ≡ suc i + k = λ k. omega arith in (
          subst (λ j. P (row-test j r)) (add-zero i) (f 0 (omega arith)),
          rows_all (suc i) rs (λ k h. subst (λ j. P (row-test j (get_or rs k no_row))) (place k) (f (suc k) (suc-le-suc h))),
        )

    all-rows : (i : ℕ) (rows : List Row) → All P (row_tests m D values top n i rows) → (k : ℕ) → k < length rows
        → P (row-test (i + k) (get_or rows k no_row))
    unfolding All row_tests
    all-rows i [] a k h = absurd (not-suc-le-zero h)
    all-rows i (r ∷ rs) a zero h = subst (λ j. P (row-test j r)) (sym (add-zero i)) a.0
    all-rows i (r ∷ rs) a (suc k) h =
        let place : suc i + k ≡ i + suc k = omega arith in
        subst (λ j. P (row-test j (get_or rs k no_row))) place (all-rows (suc i) rs a.1 k (le_of_suc-le-suc h))

  module _ (z : Sizes) (first : ℤ) (values : List ℤ) (rows : List Row) where
    abbrev tests-at : ℤ → List Tested
    tests-at n = row_tests z.m (span z) values (top_at z first n) n 1 rows

    turns-all : (j k : ℕ) → ((a : ℕ) → j ≤ a → a < j + k → All P (tests-at (index_from_of z first a)))
        → All P (equation_tests z first values rows j k)
    unfolding All equation_tests
    turns-all j zero f = tt
    turns-all j (suc k) f =
        append-all P (tests-at (index_from_of z first j)) (equation_tests z first values rows (suc j) k) (f j (omega arith) (omega arith))
        (turns-all (suc j) k (λ a h g. f a (omega arith) (omega arith)))

    all-turns : (j k : ℕ) → All P (equation_tests z first values rows j k) → (a : ℕ) → j ≤ a → a < j + k
        → All P (tests-at (index_from_of z first a))
    unfolding equation_tests
    all-turns j zero p a h g = absurd (omega arith)
    all-turns j (suc k) p a h g =
        ⊎_elim (λ e. subst (λ b. All P (tests-at (index_from_of z first b))) e
        (all-front P (tests-at (index_from_of z first j)) (equation_tests z first values rows (suc j) k) p))
        (λ l. all-turns (suc j) k (all_back P (tests-at (index_from_of z first j)) (equation_tests z first values rows (suc j) k) p) a l
        (omega arith)) (eq-or-lt_of_le h)

    module _ (vectors : ℕ) where
      abbrev relation-test : ℕ → Relation → Tested
      relation-test i e = record { which = relation i; index = e.index; sum = sum_at z first values e.row e.index }

      relations-all : (i : ℕ) (es : List Relation)
          → ((k : ℕ) → k < length es → T (inside z first vectors (get_or es k no_relation).index)
          → P (relation-test (i + k) (get_or es k no_relation)))
          → All P (relation_tests z first vectors values i es)
      unfolding All relation_tests
      relations-all i [] f = tt
      relations-all i (e ∷ es) f =
          let place : (k : ℕ) → i + suc k ≡ suc i + k = λ k. omega arith in
          go (inside z first vectors e.index) (λ h. subst (λ j. P (relation-test j e)) (add-zero i) (f 0 (omega arith) h))
          (relations-all (suc i) es
          (λ k h g. subst (λ j. P (relation-test j (get_or es k no_relation))) (place k) (f (suc k) (suc-le-suc h) g)))
        where
          go : (b : Bool) → (T b → P (relation-test i e)) → All P (relation_tests z first vectors values (suc i) es)
              → All P (cond b (relation-test i e ∷ relation_tests z first vectors values (suc i) es)
              (relation_tests z first vectors values (suc i) es))
          go true here later = (here tt, later)
          go false here later = later

      all-relations : (i : ℕ) (es : List Relation) → All P (relation_tests z first vectors values i es)
          → (k : ℕ) → k < length es → T (inside z first vectors (get_or es k no_relation).index)
          → P (relation-test (i + k) (get_or es k no_relation))
      unfolding All relation_tests
      all-relations i [] a k h g = absurd (not-suc-le-zero h)
      all-relations i (e ∷ es) a zero h g =
          subst (λ j. P (relation-test j e)) (sym (add-zero i))
          ((chosen (inside z first vectors e.index) (relation-test i e) (relation_tests z first vectors values (suc i) es) a).0 g)
      all-relations i (e ∷ es) a (suc k) h g =
          let place : suc i + k ≡ i + suc k = omega arith in
          let rest = relation_tests z first vectors values (suc i) es in
          subst (λ j. P (relation-test j (get_or es k no_relation))) place
          (all-relations (suc i) es (chosen (inside z first vectors e.index) (relation-test i e) rest a).1 k (le_of_suc-le-suc h) g)

module _ (z : Sizes) (first : ℤ) (vectors : ℕ) (values : List ℤ) (rows : List Row) (relations : List Relation)
    (ordered : z.t ≤ℤ z.l) where
  abbrev all : List Tested
  all = tests z first vectors values rows relations

  abbrev equation-test : ℤ → ℕ → Tested
  equation-test n i = record { which = equation (suc i); index = n; sum = sum_at z first values (get_or rows i no_row) n }

  abbrev relation-at : ℕ → Relation
  relation-at i = get_or relations i no_relation

  abbrev relation-tested : ℕ → Tested
  relation-tested i =
      record {
        which =
            relation (suc i);
        index = (relation-at i).index;
        sum = sum_at z first values (relation-at i).row (relation-at i).index;
      }

  abbrev on-equations : List Tested
  on-equations = equation_tests z first values rows 0 (vectors - span z)

  abbrev on-relations : List Tested
  on-relations = relation_tests z first vectors values 1 relations

  -- What holds of each equation at each n where all blocks lie in the record, and of each relation with such an n0.
  abbrev Each : (Tested → Type 0) → Type 0
  Each P =
      ((n : ℤ) → T (inside z first vectors n) → (i : ℕ) → i < length rows → P (equation-test n i))
      × ((i : ℕ) → i < length relations → T (inside z first vectors (relation-at i).index) → P (relation-tested i))

  number : (k : ℕ) → 1 + k ≡ suc k
  number k = omega arith

  all-each : (P : Tested → Type 0) → All P all → Each P
  unfolding tests sum_at
  all-each P a = (
    λ n there i h.
        let place = inside-index z first ordered vectors n there in
        let here =
        all-turns P z first values rows 0 (vectors - span z) (all-front P on-equations on-relations a) place.0 (omega arith)
        (omega (arith, place.2)) in
        let at = index_from_of z first place.0 in
        subst (λ k. P (equation-test k i)) (sym place.1)
        (subst (λ k. P (record { which = equation k; index = at; sum = sum_at z first values (get_or rows i no_row) at })) (number i)
        (all-rows P z.m (span z) values (top_at z first at) at 1 rows here i h)),
    λ i h there.
        subst (λ k. P (record {
          which =
              relation k;
          index = (relation-at i).index;
          sum = sum_at z first values (relation-at i).row (relation-at i).index;
        })) (number i)
        (all-relations P z first values rows vectors 1 relations (all_back P on-equations on-relations a) i h there),
  )

  each_all : (P : Tested → Type 0) → Each P → All P all
  unfolding tests sum_at
  each_all P f =
      append-all P on-equations on-relations
      (turns-all P z first values rows 0 (vectors - span z)
      (λ a h g.
      let at = index_from_of z first a in
      let there = index-inside z first ordered vectors a (omega arith) in
      rows_all P z.m (span z) values (top_at z first at) at 1 rows
      (λ i l. subst (λ k. P (record {
        which =
            equation k;
        index = at;
        sum = sum_at z first values (get_or rows i no_row) at;
      })) (sym (number i)) (f.0 at there i l))))
      (relations-all P z first values rows vectors 1 relations
      (λ i h there.
      subst (λ k. P (record {
        which =
            relation k;
        index =
            (relation-at i).index;
        sum = sum_at z first values (relation-at i).row (relation-at i).index;
      })) (sym (number i))
      (f.1 i h there)))

  -- The tests are those (SCOPE 12.22, 12.23).
  pub tests-all : (P : Tested → Type 0) → All P all ↔ Each P
  tests-all P = (all-each P, each_all P)

  abbrev row-of : Tested → Row
  row-of t = named rows relations t.which

  -- A sum is not formed exactly if a value of Horner's rule for its row passes the limit.
  pub sums-unformed : All (λ t. Unformed t ↔ RowPasses z.m (span z) (row-of t) t.index) all
  unfolding Unformed sum_at named
  sums-unformed =
      (tests-all (λ t. Unformed t ↔ RowPasses z.m (span z) (row-of t) t.index)).1 (
        λ n there i h. row_sum-none z.m (span z) values (top_at z first n) (get_or rows i no_row) n,
        λ i h there. row_sum-none z.m (span z) values (top_at z first (relation-at i).index) (relation-at i).row (relation-at i).index,
      )

  module _ (rows-used : All (λ r. T (unused_zero_of z.m (span z) r)) rows)
      (relations-used : All (λ e. T (unused_zero_of z.m (span z) e.row)) relations) (y : Sequence)
      (agrees : Agrees z.m first vectors values y) where
    -- A sum that is formed is the value of its row.
    abbrev Meant : Tested → Type 0
    Meant t = (s : ℤ) → t.sum ≡ some s → s ≡ value_of z.l (row-of t) y t.index

    pub sums-meant : All Meant all
    unfolding named
    sums-meant =
        (tests-all Meant).1 (
          λ n there i h s e.
              sum-value z first vectors values y ordered agrees (get_or rows i no_row) n s
              (all_get_or (λ r. T (unused_zero_of z.m (span z) r)) rows no_row i h rows-used) there e,
          λ i h there s e.
              sum-value z first vectors values y ordered agrees (relation-at i).row (relation-at i).index s
              (all_get_or (λ e. T (unused_zero_of z.m (span z) e.row)) relations no_relation i h relations-used) there e,
        )

    -- "fits" says that the system explains the record.
    pub fits-explains : (j : ℕ) → answer_to 0 all ≡ fits j → Explains z first vectors rows relations y
    unfolding SumZero named
    fits-explains j e =
        let holds =
        (tests-all (λ t. value_of z.l (row-of t) y t.index ≡ pos 0)).0
        (all-mono (λ t. SumZero t × Meant t) (λ t. value_of z.l (row-of t) y t.index ≡ pos 0) (λ t h. sym (h.1 (pos 0) h.0)) all
        (all_both SumZero Meant all (fits-sums 0 j all e) sums-meant)) in
        record {
          equations-hold = λ n there. get_or-all (λ r. value_of z.l r y n ≡ pos 0) rows no_row (λ i h. holds.0 n there i h);
          relations-hold =
              get_or-all (λ e. T (inside z first vectors e.index) → value_of z.l e.row y e.index ≡ pos 0) relations no_relation
              (λ i h there. holds.1 i h there);
        }

    -- A failure is a nonzero value of its row at its index.
    pub failure-value : (w : Which) (n s : ℤ) → answer_to 0 all ≡ fails w n s
        → (s ≡ value_of z.l (named rows relations w) y n) × (s ≢ pos 0)
    unfolding FailsWith
    failure-value w n s e =
        let f = fails-first 0 w n s all e in (
          first-has (FailsWith w n s) Meant all f sums-meant s f.holds.2
              ∙ ap₂ (λ a b. value_of z.l (named rows relations a) y b) f.holds.0 f.holds.1,
          f.holds.3,
        )

    -- Of a system that explains the record no test fails.
    pub explains-never-fails : Explains z first vectors rows relations y → (w : Which) (n s : ℤ) → answer_to 0 all ≢ fails w n s
    unfolding FailsWith named
    explains-never-fails x w n s e =
        let f = fails-first 0 w n s all e in
        let zero-values =
        (tests-all (λ t. value_of z.l (row-of t) y t.index ≡ pos 0)).1 (
          λ n there i h. all_get_or (λ r. value_of z.l r y n ≡ pos 0) rows no_row i h (x.equations-hold n there),
          λ i h there.
              all_get_or (λ e. T (inside z first vectors e.index) → value_of z.l e.row y e.index ≡ pos 0) relations no_relation i h
              x.relations-hold there,
        ) in
        f.holds.3
        (first-has (FailsWith w n s) Meant all f sums-meant s f.holds.2
        ∙ first-has (FailsWith w n s) (λ t. value_of z.l (row-of t) y t.index ≡ pos 0) all f zero-values)

    -- So the answer is "fits", with the number of tests, unless 12 comes.
    pub explains-fits : Explains z first vectors rows relations y → answer_to 0 all ≢ refused limit_passed → answer_to 0 all
        ≡ fits (length all)
    explains-fits x no-limit = go (answer_to 0 all) refl
      where
        go : (a : Answer) → answer_to 0 all ≡ a → answer_to 0 all ≡ fits (length all)
        go (fits k) e = e ∙ ap fits (answer-count 0 k all e ∙ zero-add (length all))
        go (fails w n s) e = absurd (explains-never-fails x w n s e)
        go (refused c) e = absurd (no-limit (e ∙ ap refused (refused-first 0 c all e).0))

  -- 12 comes exactly if, before any nonzero sum, a value of Horner's rule for a tested row passes the limit.
  abbrev PastLimit : Tested → Type 0
  PastLimit t = RowPasses z.m (span z) (row-of t) t.index

  pub limit-iff : (answer_to 0 all ≡ refused limit_passed) ↔ First PastLimit all
  limit-iff = (
    λ e.
        first-as Unformed PastLimit all
        (all-mono (λ t. Unformed t ↔ PastLimit t) (λ t. Unformed t → PastLimit t) (λ t i. i.0) all sums-unformed)
        (refused-first 0 limit_passed all e).1,
    λ f.
        first-refused 0 all
        (first-as PastLimit Unformed all
        (all-mono (λ t. Unformed t ↔ PastLimit t) (λ t. PastLimit t → Unformed t) (λ t i. i.1) all sums-unformed) f),
  )
