-- `records::equations_fit` meets its contract. The invariant: the tests from the n of vector j on, after those before, answer as all of
-- them do; at most six are made at each n, and all sums at the n before are formed.
-- Assumes nothing.
use mathlib.Core.Path.{◌≡◌, sym, ◌∙◌, ap, ap₂}
use mathlib.Core.List.{List, ◌++◌}
use Prim.Native.Nat.{ℕ, suc, ◌+◌, ◌-◌, ◌≤◌, ◌<◌, zero-le}
use native.Mathlib.Nat.{zero-add, sub-zero}
use native.Mathlib.Omega.{arith}
use borrow.Author.Rules.{rules, sfits_of}
use lib.IntN.{ℤ, pos, ◌+ℤ◌, ◌-ℤ◌, +ℤ_idr}
use lib.ListN.{length}
use mir.Syntax.{w64}
use mir.Val.{of_z, to_z}
use mir.Facts.{to_z-of_z}
use Rattle.rules.specs.Layout.{SizeBounds, size-bounds, length-rows_of}
use Rattle.rules.specs.Rows.{Row}
use Rattle.rules.specs.Stores as Stores
use Rattle.rules.specs.Stores.{rows_of}
use Rattle.stores.specs.Validity.{the_sizes_of}
use Rattle.records.specs.Records.{Tested, fits, row_tests, equation_tests, answer_to, index_from_of}
use Rattle.records.specs.RecordAnswers.{answer_of, go_on, stays, refused-stays, answer-append, answer-count, equations-next, row-tests-count, span-few}
use Rattle.records.specs.Successive.{AllKnown, stored_tests, zeros-there, stored-tests, stored-formed}
use Rattle.records.specs.declared.Finding.{Finding}
use Rattle.records.specs.declared.Finding.TheVariants.{Fits}
use Rattle.refusals.specs.declared.Refusal.{Refusal}
use Rattle.std.proofs.Common.{Result, Ok, Err}
use Rattle.std.proofs.lemmas.Result.{err_from_is_err_and}
use Rattle.records.proofs.equations_fit.Goals as goal
use Rattle.records.proofs.equations_fit.Goals.{After-equation_sums, After-index_from-n, After-span-span, In-loop-j, Start}

-- What is known before the loop.
module _ (a : After-span-span) where
  abbrev s : Start
  s = (goal.at.After-span-span a).Start

  abbrev z : Stores.Sizes
  z = the_sizes_of s.args.sizes

  abbrev tests : ℕ
  tests = s.args.vectors - a.span-span.result

  bounds : SizeBounds z
  bounds = size-bounds z s.requires.t.0

  span-is : a.span-span.result ≡ Stores.span z
  span-is = a.span-span.ensures

  span_small : a.span-span.result ≤ 4
  span_small = omega (arith, span-is, span-few z bounds)

  m-small : s.args.sizes.m ≤ 4
  unfolding the_sizes_of
  m-small = bounds.few

  equations-few : s.args.sizes.equations ≤ 6
  unfolding the_sizes_of Stores.equations
  equations-few = bounds.few-equations

  abbrev rows : List Row
  rows = rows_of s.args.sizes.equations s.args.rows.now

  abbrev all : ℕ → ℕ → List Tested
  all j k = equation_tests z s.args.first s.args.values.now rows j k

-- The sums.
module _ (q : After-equation_sums) where
  abbrev a : After-span-span
  a = (goal.at.After-equation_sums q).After-span-span

  abbrev sums : List ℤ
  sums = q.equation_sums.new.sums

  abbrev formed : List ℕ
  formed = q.equation_sums.new.formed

  abbrev lowest : ℤ
  lowest = q.index_from.result

  lowest-is : lowest ≡ index_from_of (z a) (s a).args.first 0
  lowest-is = simp (to_z-of_z (s a).ranges.first) at q.index_from.ensures.value

  index_is : (j : ℕ) → lowest +ℤ pos j ≡ index_from_of (z a) (s a).args.first j
  unfolding index_from_of
  index_is j = ap (λ k. k +ℤ pos j) (lowest-is ∙ +ℤ_idr ((s a).args.first -ℤ (z a).t))

  known : AllKnown (s a).args.sizes.m a.span-span.result lowest (s a).args.values.now (s a).args.rows.now (tests a) sums formed
      (s a).args.sizes.equations
  known = rw (to_z-of_z (sfits_of q.index_from.type_inv)) at q.equation_sums.ensures

-- A turn: the n whose lowest block meets vector j.
module _ (d : In-loop-j) where
  abbrev q : After-equation_sums
  q = (goal.at.In-loop-j d).After-equation_sums

  abbrev b : After-span-span
  b = a q

  abbrev j : ℕ
  j = d.loop-j.j

  abbrev index : ℤ
  index = index_from_of (z b) (s b).args.first j

  abbrev here : List Tested
  here = row_tests (s b).args.sizes.m b.span-span.result (s b).args.values.now (j + b.span-span.result) index 1 (rows b)

  abbrev left : ℕ
  left = tests b - (j + 1)

  below : j < tests b
  below = d.loop-j-test.true

  stored : stored_tests index (sums q) (formed q) j 0 (s b).args.sizes.equations ≡ here
  stored =
      let places : b.span-span.result + j ≡ j + b.span-span.result = omega arith in
      ap (λ n. stored_tests n (sums q) (formed q) j 0 (s b).args.sizes.equations) (sym (index_is q j))
      ∙ stored-tests (s b).args.sizes.m b.span-span.result (lowest q) (s b).args.values.now (s b).args.rows.now (tests b) (sums q)
      (formed q) (s b).args.sizes.equations j below (known q) d.loop-j.invariant.2 0 (s b).args.sizes.equations
      (zero-add (s b).args.sizes.equations)
      ∙ ap₂ (λ k n. row_tests (s b).args.sizes.m b.span-span.result (s b).args.values.now k n 1 (rows b)) places (index_is q j)

  whole : answer_to d.loop-j.tested (here ++ all b (j + 1) left) ≡ answer_to 0 (all b 0 (tests b))
  unfolding the_sizes_of
  whole =
      let turns : tests b - j ≡ suc left = omega (arith, below) in
      let next = equations-next (z b) (s b).args.first (s b).args.values.now (rows b) j left (bounds b).ordered in
      ap (answer_to d.loop-j.tested)
      (ap (λ k. row_tests (s b).args.sizes.m k (s b).args.values.now (j + k) index 1 (rows b) ++ all b (j + 1) left) (span-is b)
      ∙ sym next ∙ ap (all b j) (sym turns))
      ∙ (simp (to_z-of_z (s b).ranges.first) at d.loop-j.invariant.1)

-- The index there.
turn-index : (f : After-index_from-n) → to_z w64 (of_z w64 f.index_from-n.result) ≡ index (goal.at.After-index_from-n f).In-loop-j
turn-index f =
    to_z-of_z {w = w64} (sfits_of f.index_from-n.type_inv)
    ∙ (simp (to_z-of_z (s (b (goal.at.After-index_from-n f).In-loop-j)).ranges.first) at f.index_from-n.ensures.value)

-- What the equations there answer.
module _ (e : After-index_from-n) (r : Result Finding Refusal)
    (told : let d = (goal.at.After-index_from-n e).In-loop-j in
    answer_of r ≡ answer_to d.loop-j.tested
    (stored_tests (to_z w64 (of_z w64 e.index_from-n.result)) (sums (q d)) (formed (q d)) (j d) 0 (s (b d)).args.sizes.equations)) where
  abbrev d : In-loop-j
  d = (goal.at.After-index_from-n e).In-loop-j

  answered : answer_of r ≡ answer_to d.loop-j.tested (here d)
  answered =
      told
      ∙ ap (λ n. answer_to d.loop-j.tested
      (stored_tests n (sums (q d)) (formed (q d)) (j d) 0 (s (b d)).args.sizes.equations))
      (turn-index e)
      ∙ ap (answer_to d.loop-j.tested) (stored d)

  goes_on : go_on (all (b d) (j d + 1) (left d)) (answer_of r) ≡ answer_to 0 (all (b d) 0 (tests (b d)))
  goes_on =
      ap (go_on (all (b d) (j d + 1) (left d))) answered
      ∙ sym (answer-append d.loop-j.tested (here d) (all (b d) (j d + 1) (left d))) ∙ whole d

pub span-span-requires : goal.span-span-requires
span-span-requires c = c.requires.t.0

pub returns-then-vectors-span : goal.returns-then-vectors-span
unfolding answer_of answer_to equation_tests
returns-then-vectors-span c =
    let b = (goal.at.returns-then-vectors-span c).After-span-span in
    let none-there : (s b).args.vectors - Stores.span (z b) ≡ 0 = omega (arith, span-is b, c.if-vectors-span.true) in
    sym (ap (λ k. answer_to 0 (all b 0 k)) none-there)

pub index_from-requires : goal.index_from-requires
index_from-requires c =
    let st = s c.before.before.before in (st.requires.t.0, rw (to_z-of_z st.ranges.first) st.requires.t.1, zero-le)

pub equation_sums-requires : goal.equation_sums-requires
equation_sums-requires c =
    let b = (goal.at.equation_sums-requires c).After-span-span in
    let st = s b in
    let vectors : b.span-span.result + tests b ≡ st.args.vectors = omega (arith, c.if-vectors-span.false) in record {
      equations_in_bounds = (
        st.requires.equations_in_bounds.0,
        st.requires.equations_in_bounds.1,
        rw (to_z-of_z {w = w64} (sfits_of c.index_from.type_inv)) (omega (arith, c.index_from.ensures.result_bound, st.requires.t.2)),
      );
      t = (
        st.requires.t_2.0,
        rw vectors st.requires.t_2.1,
        m-small b,
        span_small b,
        omega (arith, c.if-vectors-span.false),
      );
      equations_le_most_equations = (equations-few b, omega (arith, st.requires.t.2), search rules, zeros-there 384);
    }

pub loop-j-init : goal.loop-j-init
loop-j-init c =
    let b = a c.before.before in (
      search rules,
      ap (λ k. answer_to 0 (equation_tests (z b) (to_z w64 (of_z w64 (s b).args.first)) (s b).args.values.now (rows b) 0 k))
          (sub-zero (tests b)),
      λ i l. zero-le,
    )

pub index_from-n-requires : goal.index_from-n-requires
index_from-n-requires c =
    let st = s (b c) in
    (st.requires.t.0, rw (to_z-of_z st.ranges.first) st.requires.t.1, omega (arith, below c, st.requires.t.2))

pub equations_at-requires : goal.equations_at-requires
equations_at-requires c =
    let d = (goal.at.equations_at-requires c).In-loop-j in
    let st = s (b d) in record {
      equations_le_most_equations = (
        equations-few (b d),
        search rules,
        omega (arith, d.loop-j.invariant.0, below d, equations-few (b d), st.requires.t.2),
      );
      most_equations_in_bounds = (search rules, omega (arith, below d, st.requires.t.2));
    }

pub returns-in_err-finding : goal.returns-in_err-finding
returns-in_err-finding c =
    let e = (goal.at.returns-in_err-finding c).After-index_from-n in
    let f = (goal.at.returns-in_err-finding c).In-loop-j in
    let p = err_from_is_err_and c.from_residual.result c.from_residual.ensures.1 in
    rw (p.1, p.2)
    (sym (refused-stays c.in_err-finding.field-0.0 (all (b f) (j f + 1) (left f)))
    ∙ goes_on e (Err c.in_err-finding.field-0.0) c.in_err-finding.ensures
    ∙ ap (λ k. answer_to 0 (all (b f) 0 ((s (b f)).args.vectors - k))) (span-is (b f)))

pub returns-in_default : goal.returns-in_default
returns-in_default c =
    let e = (goal.at.returns-in_default c).After-index_from-n in
    let f = (goal.at.returns-in_default c).In-loop-j in
    sym (stays c.in_ok-finding.finding (all (b f) (j f + 1) (left f)) c.in_default.not-Fits)
    ∙ goes_on e (Ok c.in_ok-finding.finding) c.in_ok-finding.ensures
    ∙ ap (λ k. answer_to 0 (all (b f) 0 ((s (b f)).args.vectors - k))) (span-is (b f))

pub loop-j-preserved : goal.loop-j-preserved
unfolding answer_of go_on
loop-j-preserved c =
    let e = (goal.at.loop-j-preserved c).After-index_from-n in
    let f = (goal.at.loop-j-preserved c).In-loop-j in
    let k = c.in-Fits.k in
    let tested = f.loop-j.tested in
    let finding = c.in_ok-finding.finding in
    let told : finding ≡ Fits k = c.in-Fits.is in
    let found : answer_to tested (here f) ≡ fits k =
    sym (answered e (Ok finding) c.in_ok-finding.ensures) ∙ ap (λ r. answer_of (Ok r)) told in
    let count = answer-count tested k (here f) found in
    let equations = (s (b f)).args.sizes.equations in
    let more : length (here f) ≡ equations = row-tests-count _ _ _ _ _ 1 (rows (b f)) ∙ length-rows_of _ _ in (
      omega (arith, count, more, f.loop-j.invariant.0, equations-few (b f)),
      simp (to_z-of_z {w = w64} (s (b f)).ranges.first)
          (sym (ap (λ r. go_on (all (b f) (j f + 1) (left f)) (answer_of (Ok r))) told)
          ∙ goes_on e (Ok finding) c.in_ok-finding.ensures),
      λ i l.
          omega (
            arith,
            stored-formed (index f) (sums (q f)) (formed (q f)) (j f) tested k 0 equations (ap (answer_to tested) (stored f) ∙ found)
                i zero-le
                (omega arith),
          ),
    )

pub returns : goal.returns
unfolding answer_of answer_to equation_tests
returns c =
    let b = (goal.at.returns c).After-span-span in
    let none_left : tests b - c.loop-j.j ≡ 0 = omega (arith, c.loop-j-test.false) in
    sym (ap (λ k. answer_to c.loop-j.tested (all b c.loop-j.j k)) none_left)
    ∙ (simp (to_z-of_z {w = w64} (s b).ranges.first) at c.loop-j.invariant.1)
    ∙ ap (λ k. answer_to 0 (all b 0 ((s b).args.vectors - k))) (span-is b)
