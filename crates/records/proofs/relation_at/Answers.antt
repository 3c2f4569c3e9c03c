-- `records::relation_at` meets its contract. Where n0 lies so that all blocks are in the record, it is the n of a vector, and block l
-- meets a vector of the record too.
-- Assumes nothing.
use mathlib.Core.Path.{◌≡◌, sym, ◌∙◌, ap, ap₂, subst}
use mathlib.Core.Logic.{◌≢◌}
use mathlib.Core.Bool.{true}
use mathlib.Core.List.{List, [], ◌∷◌}
use mathlib.Core.Option.{Option, none, some}
use Prim.Native.Nat.{ℕ, ◌+◌, ◌*◌, ◌≤◌, ◌<◌}
use native.Mathlib.Nat.{add-zero, mul-le-mul, le_refl, le_trans}
use native.Mathlib.Omega.{arith}
use borrow.Author.Rules.{sfits_of}
use lib.Dec.{T, lit<}
use lib.IntN.{ℤ, pos, neg_ℤ, nat_abs, ◌+ℤ◌, ◌-ℤ◌, +ℤ_idr}
use lib.ListN.{length, take, drop, get_or}
use lib.Signed.{non_neg, yes_non_neg}
use mir.Syntax.{w64}
use mir.Val.{SFits, of_z}
use mir.Facts.{to_z-of_z, sfits_lit, Fits-nat_abs}
use Rattle.algebra.specs.Integers.{nat_abs-+ℤ, nat_abs-neg_ℤ}
use Rattle.algebra.specs.Order.{≤ℤ-difference, ≤ℤ-+ℤ-pos}
use Rattle.integers.specs.Ranges.{sfits-size, of_z-inj}
use Rattle.lists.specs.Tests.{true-T}
use Rattle.rules.specs.Limits.{row_length, relation_length}
use Rattle.rules.specs.Layout.{SizeBounds, size-bounds}
use Rattle.rules.specs.Rows.{Relation}
use Rattle.rules.specs.Stores as Stores
use Rattle.rules.specs.Stores.{row_of, relation_of}
use Rattle.stores.specs.Validity.{the_sizes_of, index_at, row-after}
use Rattle.evaluation.specs.Evaluated.{farthest}
use Rattle.records.specs.Records.{Tested, relation, sum_at, row_sum_of, top_at, index_from_of, inside, relation_tests, answer_to}
use Rattle.records.specs.Records.{most_vectors}
use Rattle.records.specs.RecordPlaces.{inside-index, top-index, top-at}
use Rattle.records.specs.RecordAnswers.{answer_of, answer-past, answer-zero, answer-fails, relation-inside, relation-outside}
use Rattle.records.specs.RecordAnswers.{span-few}
use Rattle.records.specs.RecordAnswers.{t-near, l-near, index-size}
use Rattle.records.specs.Successive.{Known, zeros-there}
use Rattle.records.proofs.relation_at.Goals as goal
use Rattle.records.proofs.relation_at.Goals.{After-inside, After-row_at-row, After-row_sums, After-sum-1, Else-not-inside, Start}

module _ (s : Start) where
  abbrev z : Stores.Sizes
  z = the_sizes_of s.args.sizes

  abbrev store : List ℤ
  store = s.args.relations.now

  abbrev n : ℤ
  n = get_or store s.args.at (pos 0)

  abbrev e : Relation
  e = relation_of (take relation_length (drop s.args.at store))

  abbrev l : ℤ
  l = s.args.sizes.l

  abbrev t : ℤ
  t = s.args.sizes.t

  abbrev first : ℤ
  first = s.args.first

  bounds : SizeBounds z
  bounds = size-bounds z s.requires.t.0

  n-is : e.index ≡ n
  n-is = index_at store s.args.at

  n-fits : SFits w64 n
  n-fits = sfits-size n s.requires.relation_length_in_bounds.1 (lit< tt)

  l-small : nat_abs l ≤ 64
  unfolding the_sizes_of
  l-small = l-near z bounds

  t-small : nat_abs t ≤ 64
  unfolding the_sizes_of
  t-small = t-near z bounds

  l-fits : SFits w64 l
  l-fits = sfits-size l l-small (lit< tt)

  t-fits : SFits w64 t
  t-fits = sfits-size t t-small (lit< tt)

  high_fits : SFits w64 (n +ℤ l)
  high_fits = sfits-size (n +ℤ l) {k = 300000000} (omega (arith, nat_abs-+ℤ n l, l-small, s.requires.relation_length_in_bounds.1)) (lit< tt)

  top-fits : SFits w64 ((n +ℤ l) -ℤ first)
  top-fits =
      sfits-size ((n +ℤ l) -ℤ first) {k = 300000000}
      (omega (
        arith,
        nat_abs-+ℤ (n +ℤ l) (neg_ℤ first),
        nat_abs-neg_ℤ first,
        nat_abs-+ℤ n l,
        l-small,
        s.requires.relation_length_in_bounds.1,
        s.requires.t.1,
      )) (lit< tt)

  abbrev tests : List Tested
  tests = relation_tests z first s.args.vectors s.args.values.now s.args.number (e ∷ [])

-- The test of n0.
tested : (i : After-inside)
    → let s = (goal.at.After-inside i).Start in
    i.inside.result ≡ inside (z s) (first s) s.args.vectors (e s).index
unfolding inside the_sizes_of
tested i =
    let s = (goal.at.After-inside i).Start in
    (simp (to_z-of_z (l-fits s), to_z-of_z (t-fits s), to_z-of_z s.ranges.first, to_z-of_z (n-fits s)) at i.inside.ensures)
    ∙ ap (inside (z s) (first s) s.args.vectors) (sym (n-is s))

pub inside-requires : goal.inside-requires
inside-requires c =
    let s = (goal.at.inside-requires c).Start in
    simp (to_z-of_z {w = w64} (l-fits s), to_z-of_z {w = w64} (t-fits s), to_z-of_z s.ranges.first, to_z-of_z {w = w64} (n-fits s))
    (l-small s, t-small s, s.requires.t.1, s.requires.t.2, s.requires.relation_length_in_bounds.1)

pub returns-then-not-inside : goal.returns-then-not-inside
unfolding answer_of answer_to
returns-then-not-inside c =
    let s = (goal.at.returns-then-not-inside c).Start in
    let out = sym (tested (goal.at.returns-then-not-inside c).After-inside) ∙ c.if-not-inside.true in
    sym (ap (answer_to s.args.before)
    (relation-outside (z s) (first s) s.args.vectors s.args.values.now s.args.number (e s) out))

-- Where it is tested.
module _ (d : Else-not-inside) where
  abbrev s : Start
  s = (goal.at.Else-not-inside d).Start

  in-record : inside (z s) (first s) s.args.vectors (e s).index ≡ true
  in-record = sym (tested (goal.at.Else-not-inside d).After-inside) ∙ d.if-not-inside.false

  place : (j : ℕ) × (n s ≡ index_from_of (z s) (first s) j) × (j + Stores.span (z s) < s.args.vectors)
  place =
      inside-index (z s) (first s) (bounds s).ordered s.args.vectors (n s)
      (subst (λ k. T (inside (z s) (first s) s.args.vectors k)) (n-is s) (true-T _ in-record))

  top-is : top_at (z s) (first s) (n s) ≡ place.0 + Stores.span (z s)
  top-is = ap (top_at (z s) (first s)) place.1 ∙ top-at (z s) (first s) (bounds s).ordered place.0

  top-nonneg : T (non_neg ((n s +ℤ l s) -ℤ first s))
  unfolding the_sizes_of
  top-nonneg =
      rw (ap (λ k. (k +ℤ l s) -ℤ first s) place.1 ∙ ap (λ k. k -ℤ first s) (top-index (z s) (first s) (bounds s).ordered place.0))
      (yes_non_neg (≤ℤ-difference.0 (≤ℤ-+ℤ-pos (first s) (place.0 + Stores.span (z s)))))

  near : nat_abs (n s) + most_vectors ≤ farthest
  near = rw place.1 (index-size (z s) (first s) place.0 (bounds s) s.requires.t.1 (omega (arith, place.2, s.requires.t.2)))

  abbrev test : Tested
  test = record { which = relation s.args.number; index = n s; sum = sum_at (z s) (first s) s.args.values.now (e s).row (n s) }

  tests-are : tests s ≡ test ∷ []
  tests-are =
      relation-inside (z s) (first s) s.args.vectors s.args.values.now s.args.number (e s) in-record
      ∙ ap (λ k. record {
        which =
            relation s.args.number;
        index = k;
        sum = sum_at (z s) (first s) s.args.values.now (e s).row k;
      } ∷ []) (n-is s)

  room : (top_at (z s) (first s) (n s) + 1) * s.args.sizes.m ≤ length s.args.values.now
  room = le_trans (mul-le-mul (omega (arith, top-is, place.2)) (le_refl s.args.sizes.m)) s.requires.t_2.1

pub span-span-requires : goal.span-span-requires
span-span-requires c = (s c).requires.t.0

pub overflow_add-top : goal.overflow_add-top
overflow_add-top c =
    let here = (goal.at.overflow_add-top c).Else-not-inside in
    let st = s here in simp (to_z-of_z {w = w64} (n-fits st), to_z-of_z {w = w64} (l-fits st)) (high_fits st)

pub overflow_sub-top : goal.overflow_sub-top
overflow_sub-top c =
    let here = (goal.at.overflow_sub-top c).Else-not-inside in
    let st = s here in
    simp (to_z-of_z {w = w64} (n-fits st), to_z-of_z {w = w64} (l-fits st), to_z-of_z {w = w64} (high_fits st), to_z-of_z st.ranges.first)
    (top-fits st)

pub overflow_cast-top : goal.overflow_cast-top
overflow_cast-top c =
    let here = (goal.at.overflow_cast-top c).Else-not-inside in
    let st = s here in
    simp (
      to_z-of_z {w = w64} (n-fits st),
      to_z-of_z {w = w64} (l-fits st),
      to_z-of_z {w = w64} (high_fits st),
      to_z-of_z st.ranges.first,
      to_z-of_z {w = w64} (top-fits st),
    )
    (top-nonneg here, Fits-nat_abs tt (top-fits st))

pub row_sums-requires : goal.row_sums-requires
unfolding top_at the_sizes_of
row_sums-requires c =
    let d = (goal.at.row_sums-requires c).Else-not-inside in
    let st = s d in
    simp (
      to_z-of_z {w = w64} (n-fits st),
      to_z-of_z {w = w64} (l-fits st),
      to_z-of_z {w = w64} (high_fits st),
      to_z-of_z st.ranges.first,
      to_z-of_z {w = w64} (top-fits st),
    ) record {
      t = (
        rw c.row_at-row.ensures.result_value st.requires.relation_length_in_bounds.2,
        c.row_at-row.ensures.result_len,
        omega (arith, near d),
      );
      t_2 = (
        st.requires.t_2.0,
        room d,
        (bounds st).few,
        omega (arith, c.span-span.ensures, span-few (z st) (bounds st)),
        omega (arith, c.span-span.ensures, top-is d),
        omega arith,
      );
      zeros_at = zeros-there 1;
    }

-- The sum of the relation's row.
module _ (w : After-row_sums) where
  abbrev r : After-row_at-row
  r = (goal.at.After-row_sums w).After-row_at-row

  abbrev d : Else-not-inside
  d = (goal.at.After-row_at-row r).Else-not-inside

  abbrev st : Start
  st = s d

  abbrev numbers : List ℤ
  numbers = take row_length (drop (st.args.at + 1) (store st))

  abbrev sum : ℤ
  sum = get_or w.row_sums.new.sums 0 (pos 0)

  abbrev sums : ℕ → Option ℤ
  sums j =
      row_sum_of st.args.sizes.m r.span-span.result st.args.values.now (top_at (z st) (first st) (n st) + j) (row_of numbers)
      (n st +ℤ pos j)

  known : Known sums 1 0 w.row_sums.new.sums w.row_sums.result
  unfolding top_at the_sizes_of
  known =
      simp (
        to_z-of_z (n-fits st),
        to_z-of_z (l-fits st),
        to_z-of_z (high_fits st),
        to_z-of_z st.ranges.first,
        to_z-of_z (top-fits st),
        r.row_at-row.ensures.result_value,
      ) at w.row_sums.ensures.1

  sum_is : sums 0 ≡ (test d).sum
  unfolding sum_at the_sizes_of
  sum_is =
      let m = st.args.sizes.m in
      let values = st.args.values.now in
      let top = top_at (z st) (first st) (n st) in
      ap₂ (λ k i. row_sum_of m r.span-span.result values k (row_of numbers) i) (add-zero top) (+ℤ_idr (n st))
      ∙ ap₂ (λ k r. row_sum_of m k values top r (n st)) r.span-span.ensures (sym (row-after (store st) st.args.at))

pub returns-then-row_sums-eq0 : goal.returns-then-row_sums-eq0
unfolding answer_of
returns-then-row_sums-eq0 c =
    let w = (goal.at.returns-then-row_sums-eq0 c).After-row_sums in
    let none-formed : w.row_sums.result ≡ 0 = c.if-row_sums-eq0.true in
    let past = subst (λ k. sums w k ≡ none) none-formed ((known w).stop (omega arith)) in
    sym (ap (answer_to (st w).args.before) (tests-are (d w))
    ∙ answer-past (st w).args.before (test (d w)) [] (sym (sum_is w) ∙ past))

-- A sum that is formed.
module _ (k : After-sum-1) where
  abbrev w : After-row_sums
  w = (goal.at.After-sum-1 k).After-row_sums

  sum-found : (test (d w)).sum ≡ some (sum w)
  sum-found = sym (sum_is w) ∙ (known w).there 0 (omega (arith, k.if-row_sums-eq0.false))

  sum_fits : SFits w64 (sum w)
  sum_fits = sfits_of k.sum-1.given

pub returns-then-sum-ne0 : goal.returns-then-sum-ne0
unfolding answer_of
returns-then-sum-ne0 c =
    let k = (goal.at.returns-then-sum-ne0 c).After-sum-1 in
    let e = st (w k) in
    let nonzero : sum (w k) ≢ pos 0 = λ z. c.if-sum-ne0.true (ap (of_z w64) z) in
    simp (to_z-of_z {w = w64} (n-fits e), to_z-of_z {w = w64} (sum_fits k))
    (sym (ap (answer_to e.args.before) (tests-are (d (w k)))
    ∙ answer-fails e.args.before (test (d (w k))) [] (sum (w k)) (sum-found k) nonzero))

pub returns : goal.returns
unfolding answer_of answer_to
returns c =
    let k = (goal.at.returns c).After-sum-1 in
    let e = st (w k) in
    let zero-sum : sum (w k) ≡ pos 0 = of_z-inj (sum_fits k) (sfits_lit tt) c.if-sum-ne0.false in
    sym (ap (answer_to e.args.before) (tests-are (d (w k)))
    ∙ answer-zero e.args.before (test (d (w k))) [] (sum-found k ∙ ap some zero-sum))
