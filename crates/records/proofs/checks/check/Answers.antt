-- `records::checks::check` meets its contract. Each test is made where those before it passed.
-- Assumes nothing.
use mathlib.Core.Path.{◌≡◌, sym, ◌∙◌}
use mathlib.Core.Logic.{◌≢◌}
use mathlib.Core.Bool.{true}
use Prim.Native.Nat.{ℕ, ◌*◌, ◌≤◌}
use native.Mathlib.Nat.{mul-le-mul}
use native.Mathlib.Omega.{arith}
use borrow.Author.Tests.{lt-leb, le-leb}
use lib.ListN.{length}
use lib.Seq.{length-take-le}
use mir.Facts.{to_z-of_z}
use Rattle.lists.specs.Tests.{T-&&, true-T}
use Rattle.rules.specs.Layout.{size-bounds}
use Rattle.rules.specs.Stores as Stores
use Rattle.rules.specs.Stores.{check_stores_of, sizes_right_of, count_right}
use Rattle.stores.specs.Validity.{the_sizes_of}
use Rattle.records.specs.Records.{record_right_of}
use Rattle.records.specs.RecordChecks as Checks
use Rattle.records.specs.RecordChecks.{record-right}
use mir.Syntax.{w64}
use Rattle.records.proofs.checks.check.Goals as goal
use Rattle.records.proofs.checks.check.Goals.{After-check_stores-system, Else-not-record_right, Else-system-eq2, Else-values-need, Start}

-- The check of the system.
module _ (a : After-check_stores-system) where
  abbrev s : Start
  s = (goal.at.After-check_stores-system a).Start

  abbrev z : Stores.Sizes
  z = the_sizes_of s.args.sizes

  abbrev system : ℕ
  system = check_stores_of z s.args.count s.args.rows.now s.args.relations.now

  system-is : a.check_stores-system.result ≡ system
  system-is = a.check_stores-system.ensures

-- Its sizes are right.
module _ (d : Else-system-eq2) where
  not-two : system (goal.at.Else-system-eq2 d).After-check_stores-system ≢ 2
  not-two e = d.if-system-eq2.false (system-is (goal.at.Else-system-eq2 d).After-check_stores-system ∙ e)

-- The record is right too.
module _ (d : Else-not-record_right) where
  abbrev a : After-check_stores-system
  a = (goal.at.Else-not-record_right d).After-check_stores-system

  indices : record_right_of (s a).args.first (s a).args.vectors ≡ true
  indices = sym ((simp (to_z-of_z (s a).ranges.first) at d.record_right.ensures)) ∙ d.if-not-record_right.false

  few : (s a).args.vectors ≤ 64
  few = (record-right (s a).args.first (s a).args.vectors (true-T _ indices)).0

  m-small : (s a).args.sizes.m ≤ 4
  unfolding the_sizes_of
  m-small =
      let both =
      (T-&& (sizes_right_of (z a)) (count_right (s a).args.count)).0
      (true-T _
      (Checks.sizes-passed (z a) (s a).args.count (s a).args.first (s a).args.vectors (s a).args.rows.now
      (s a).args.relations.now
      (s a).args.values.now (not-two (goal.at.Else-not-record_right d).Else-system-eq2))) in
      (size-bounds (z a) both.0).few

pub returns-then-system-eq2 : goal.returns-then-system-eq2
returns-then-system-eq2 c =
    let a = (goal.at.returns-then-system-eq2 c).After-check_stores-system in
    Checks.sizes-wrong (z a) (s a).args.count (s a).args.first (s a).args.vectors (s a).args.rows.now (s a).args.relations.now
    (s a).args.values.now (sym (system-is a) ∙ c.if-system-eq2.true)

pub returns-then-not-record_right : goal.returns-then-not-record_right
returns-then-not-record_right c =
    let a = (goal.at.returns-then-not-record_right c).After-check_stores-system in
    Checks.record-wrong (z a) (s a).args.count (s a).args.first (s a).args.vectors (s a).args.rows.now (s a).args.relations.now
    (s a).args.values.now (sym (simp (to_z-of_z {w = w64} (s a).ranges.first) at c.record_right.ensures) ∙ c.if-not-record_right.true)

pub returns-then-system-eq1 : goal.returns-then-system-eq1
returns-then-system-eq1 c =
    let d = (goal.at.returns-then-system-eq1 c).Else-not-record_right in
    let st = s (a d) in
    Checks.lengths-wrong (z (a d)) st.args.count st.args.first st.args.vectors st.args.rows.now st.args.relations.now
    st.args.values.now (sym (system-is (a d)) ∙ c.if-system-eq1.true) (indices d)

pub overflow_mul-need : goal.overflow_mul-need
overflow_mul-need c = let d = (goal.at.overflow_mul-need c).Else-not-record_right in omega (arith, mul-le-mul (few d) (m-small d))

pub returns-then-values-need : goal.returns-then-values-need
unfolding the_sizes_of
returns-then-values-need c =
    let d = (goal.at.returns-then-values-need c).Else-not-record_right in
    let st = s (a d) in
    Checks.values-short (z (a d)) st.args.count st.args.first st.args.vectors st.args.rows.now st.args.relations.now
    st.args.values.now (not-two (goal.at.Else-not-record_right d).Else-system-eq2) (indices d) (lt-leb _ _ c.if-values-need.true)

-- The values are there.
module _ (e : Else-values-need) where
  abbrev d : Else-not-record_right
  d = (goal.at.Else-values-need e).Else-not-record_right

  not-one : system (a d) ≢ 1
  not-one k = e.if-system-eq1.false (system-is (a d) ∙ k)

  enough : (s (a d)).args.vectors * (s (a d)).args.sizes.m ≤ length (s (a d)).args.values.now
  enough = e.if-values-need.false

pub returns-then-system-eq5 : goal.returns-then-system-eq5
unfolding the_sizes_of
returns-then-system-eq5 c =
    let e = (goal.at.returns-then-system-eq5 c).Else-values-need in
    let st = s (a (d e)) in
    Checks.numbers-wrong (z (a (d e))) st.args.count st.args.first st.args.vectors st.args.rows.now
    st.args.relations.now
    st.args.values.now (sym (system-is (a (d e))) ∙ c.if-system-eq5.true) (indices (d e)) (le-leb _ _ (enough e))

pub slice_bounds-values_right-end : goal.slice_bounds-values_right-end
slice_bounds-values_right-end c = sym (length-take-le _ _ (enough (goal.at.slice_bounds-values_right-end c).Else-values-need))

pub returns-then-not-values_right : goal.returns-then-not-values_right
unfolding the_sizes_of
returns-then-not-values_right c =
    let e = (goal.at.returns-then-not-values_right c).Else-values-need in
    let st = s (a (d e)) in
    Checks.values-wrong (z (a (d e))) st.args.count st.args.first st.args.vectors st.args.rows.now
    st.args.relations.now
    st.args.values.now (not-two (goal.at.Else-not-record_right (d e)).Else-system-eq2) (not-one e) (indices (d e)) (le-leb _ _ (enough e))
    (sym c.values_right.ensures ∙ c.if-not-values_right.true)

pub returns : goal.returns
unfolding the_sizes_of
returns c =
    let e = (goal.at.returns c).Else-values-need in
    let st = s (a (d e)) in
    Checks.all_right (z (a (d e))) st.args.count st.args.first st.args.vectors st.args.rows.now st.args.relations.now
    st.args.values.now (not-two (goal.at.Else-not-record_right (d e)).Else-system-eq2) (not-one e)
    (λ k. c.if-system-eq5.false (system-is (a (d e)) ∙ k)) (indices (d e))
    (le-leb _ _ (enough e)) (sym c.values_right.ensures ∙ c.if-not-values_right.false)
