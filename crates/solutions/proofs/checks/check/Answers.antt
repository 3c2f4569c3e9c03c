-- `solutions::checks::check` meets its contract. Each test is made where those before it passed.
-- Assumes nothing.
use mathlib.Core.Path.{◌≡◌, sym, ◌∙◌}
use mathlib.Core.Logic.{◌≢◌}
use mathlib.Core.Bool.{true}
use mathlib.Core.List.{List}
use Prim.Native.Nat.{ℕ}
use lib.Dec.{T}
use lib.IntN.{ℤ}
use Rattle.lists.specs.Tests.{T-&&, true-T}
use Rattle.rules.specs.Layout.{size-bounds, count_right-iff, lengths_right-iff}
use Rattle.rules.specs.Stores as Stores
use Rattle.rules.specs.Stores.{check_stores_of, sizes_right_of, count_right}
use Rattle.stores.specs.Validity.{the_sizes_of}
use Rattle.solutions.specs.SolutionCalls.{Work}
use Rattle.solutions.specs.SolutionChecks as Checks
use Rattle.solutions.proofs.checks.check.Goals as goal
use Rattle.solutions.proofs.checks.check.Goals.{After-number_in-system, After-homogeneous, After-lent_long, Else-not-lent_long, Else-system-eq1, Start}

-- The check of the system.
module _ (a : After-number_in-system) where
  abbrev s : Start
  s = (goal.at.After-number_in-system a).Start

  abbrev z : Stores.Sizes
  z = the_sizes_of s.args.sizes

  abbrev count : ℕ
  count = s.args.count

  abbrev rows : List ℤ
  rows = s.args.rows.now

  abbrev relations : List ℤ
  relations = s.args.relations.now

  abbrev w : Work
  w =
      record {
        rows = s.args.work_rows.now;
        relations = s.args.work_relations.now;
        matrix = s.args.matrix.now;
        list = s.args.list.now;
      }

  abbrev system : ℕ
  system = check_stores_of z count rows relations

  system-is : a.number_in-system.result ≡ system
  system-is = a.number_in-system.ensures ∙ a.check_stores.ensures

-- Sizes and lengths of the system are right.
module _ (d : Else-system-eq1) where
  abbrev a : After-number_in-system
  a = (goal.at.Else-system-eq1 d).After-number_in-system

  not-two : system a ≢ 2
  not-two e = d.if-system-eq2.false (system-is a ∙ e)

  not-one : system a ≢ 1
  not-one e = d.if-system-eq1.false (system-is a ∙ e)

  both : T (sizes_right_of (z a)) × T (count_right (count a))
  both = (T-&& (sizes_right_of (z a)) (count_right (count a))).0
      (true-T _ (Checks.early (z a) (count a) (rows a) (relations a) (w a) not-two not-one).0)

pub returns-then-system-eq2 : goal.returns-then-system-eq2
returns-then-system-eq2 c =
    let a = (goal.at.returns-then-system-eq2 c).After-number_in-system in
    Checks.sizes-wrong (z a) (count a) (rows a) (relations a) (w a) (sym (system-is a) ∙ c.if-system-eq2.true)

pub returns-then-system-eq1 : goal.returns-then-system-eq1
returns-then-system-eq1 c =
    let a = (goal.at.returns-then-system-eq1 c).After-number_in-system in
    Checks.lengths-wrong (z a) (count a) (rows a) (relations a) (w a) (sym (system-is a) ∙ c.if-system-eq1.true)

pub lent_long-requires : goal.lent_long-requires
unfolding the_sizes_of Stores.equations
lent_long-requires c = (size-bounds (z (a c)) (both c).0).few-equations

-- The other stores are tested.
module _ (l : After-lent_long) where
  abbrev d : Else-system-eq1
  d = (goal.at.After-lent_long l).Else-system-eq1

  tested : l.lent_long.result ≡ Checks.lent (z (a d)) (count (a d)) (rows (a d)) (relations (a d)) (w (a d))
  unfolding the_sizes_of Stores.equations
  tested = l.lent_long.ensures

pub returns-then-not-lent_long : goal.returns-then-not-lent_long
returns-then-not-lent_long c =
    let l = (goal.at.returns-then-not-lent_long c).After-lent_long in
    let e = d l in
    Checks.lent-short (z (a e)) (count (a e)) (rows (a e)) (relations (a e)) (w (a e)) (not-two e) (not-one e)
    (sym (tested l) ∙ c.if-not-lent_long.true)

-- They are long enough.
module _ (f : Else-not-lent_long) where
  abbrev l : After-lent_long
  l = (goal.at.Else-not-lent_long f).After-lent_long

  long : Checks.lent (z (a (d l))) (count (a (d l))) (rows (a (d l))) (relations (a (d l))) (w (a (d l))) ≡ true
  long = sym (tested l) ∙ f.if-not-lent_long.false

pub returns-then-system-eq5 : goal.returns-then-system-eq5
returns-then-system-eq5 c =
    let f = (goal.at.returns-then-system-eq5 c).Else-not-lent_long in
    let e = d (l f) in
    Checks.numbers-wrong (z (a e)) (count (a e)) (rows (a e)) (relations (a e)) (w (a e)) (not-two e) (not-one e) (long f)
    (sym (system-is (a e)) ∙ c.if-system-eq5.true)

pub homogeneous-requires : goal.homogeneous-requires
unfolding the_sizes_of Stores.equations
homogeneous-requires c =
    let e = d (l (goal.at.homogeneous-requires c).Else-not-lent_long) in
    let early = Checks.early (z (a e)) (count (a e)) (rows (a e)) (relations (a e)) (w (a e)) (not-two e) (not-one e) in
    let lengths = (lengths_right-iff (Stores.equations (z (a e))) (rows (a e)) (relations (a e))).0 (true-T _ early.1) in
    (lengths.0, (count_right-iff (count (a e))).0 (both e).1, lengths.1)

-- The numbers of the system are right too.
module _ (h : After-homogeneous) where
  abbrev f : Else-not-lent_long
  f = (goal.at.After-homogeneous h).Else-not-lent_long

  abbrev e : Else-system-eq1
  e = d (l f)

  not_five : system (a e) ≢ 5
  not_five k = h.if-system-eq5.false (system-is (a e) ∙ k)

  sides : h.homogeneous.result ≡ Checks.sides (z (a e)) (count (a e)) (rows (a e)) (relations (a e)) (w (a e))
  unfolding the_sizes_of Stores.equations
  sides = h.homogeneous.ensures

pub returns-then-not-homogeneous : goal.returns-then-not-homogeneous
returns-then-not-homogeneous c =
    let h = (goal.at.returns-then-not-homogeneous c).After-homogeneous in
    Checks.sides-wrong (z (a (e h))) (count (a (e h))) (rows (a (e h))) (relations (a (e h))) (w (a (e h))) (not-two (e h)) (not-one (e h))
    (long (f h)) (not_five h) (sym (sides h) ∙ c.if-not-homogeneous.true)

pub returns : goal.returns
returns c =
    let h = (goal.at.returns c).After-homogeneous in
    Checks.all_right (z (a (e h))) (count (a (e h))) (rows (a (e h))) (relations (a (e h))) (w (a (e h))) (not-two (e h)) (not-one (e h))
    (long (f h)) (not_five h) (sym (sides h) ∙ c.if-not-homogeneous.false)
