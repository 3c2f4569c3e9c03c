-- `stores::validity::check_stores` meets its contract. Sizes and count are tested first, then lengths, then numbers.
-- Assumes nothing.
use mathlib.Core.Path.{◌≡◌, sym, ◌∙◌, ap}
use mathlib.Core.Bool.{Bool, true, false, ◌&&◌, cond}
use mathlib.Core.List.{List}
use Prim.Native.Nat.{ℕ}
use lib.Dec.{T}
use lib.IntN.{ℤ}
use mathlib.Core.Logic.{⊎_elim}
use Rattle.std.proofs.lemmas.Bool.{lt-leb, le-leb}
use Rattle.lists.specs.Tests.{T-&&, and_first, and_second, true-T}
use Rattle.rules.specs.Stores.{Sizes, sizes_right_of, count_right, lengths_right_of, numbers_right_of, check_stores_of, equations}
use Rattle.rules.specs.Layout.{check_stores-order, size-bounds, count_right-iff, lengths_right-iff}
use Rattle.stores.specs.Validity.{the_sizes_of}
use Rattle.stores.proofs.validity.check_stores.Goals as goal
use Rattle.stores.proofs.validity.check_stores.Goals.{Else-not-count, Else-not-lengths_right, Then-not-count}

-- what the call gives, by its three tests
module _ (z : Sizes) (count : ℕ) (rows relations : List ℤ) where
  abbrev sizes : Bool
  sizes = sizes_right_of z && count_right count

  abbrev lengths : Bool
  lengths = lengths_right_of (equations z) rows relations

  abbrev numbers : Bool
  numbers = numbers_right_of z count rows relations

  abbrev checked : ℕ
  checked = check_stores_of z count rows relations

  sizes-failed : sizes ≡ false → 2 ≡ checked
  sizes-failed e = sym (check_stores-order z count rows relations ∙ ap (λ s. cond s (cond lengths (cond numbers 0 5) 1) 2) e)

  sizes-passed : sizes ≡ true → cond lengths (cond numbers 0 5) 1 ≡ checked
  sizes-passed e = sym (check_stores-order z count rows relations ∙ ap (λ s. cond s (cond lengths (cond numbers 0 5) 1) 2) e)

  lengths-failed : sizes ≡ true → lengths ≡ false → 1 ≡ checked
  lengths-failed e f = sym (ap (λ t. cond t (cond numbers 0 5) 1) f) ∙ sizes-passed e

  lengths-passed : sizes ≡ true → lengths ≡ true → cond numbers 0 5 ≡ checked
  lengths-passed e f = sym (ap (λ t. cond t (cond numbers 0 5) 1) f) ∙ sizes-passed e

-- what the code knows after each test
failed_sizes : (c : Then-not-count)
    → (sizes_right_of (the_sizes_of c.args.sizes) && count_right c.args.count) ≡ false
unfolding count_right
failed_sizes c = ⊎_elim (λ w. sym (and_second _ _ (sym c.sizes_right.ensures ∙ w.0)) ∙ lt-leb _ _ w.1)
    (λ w. sym (and_first _ _ (sym c.sizes_right.ensures ∙ w)) ∙ sym c.sizes_right.ensures ∙ w) c.if-not-count.either

sizes-hold : (c : Else-not-count)
    → (sizes_right_of (the_sizes_of c.args.sizes) && count_right c.args.count) ≡ true
unfolding count_right
sizes-hold c = sym (and_second _ _ (sym c.sizes_right.ensures ∙ c.if-not-count.false.0)) ∙ le-leb _ _ c.if-not-count.false.1

lengths-hold : (c : Else-not-lengths_right)
    → let args = c.args in
    lengths_right_of (equations (the_sizes_of args.sizes)) args.rows.now args.relations.now ≡ true
unfolding equations the_sizes_of
lengths-hold c = sym c.lengths_right.ensures ∙ c.if-not-lengths_right.false

right : (c : Else-not-count)
    → T (sizes_right_of (the_sizes_of c.args.sizes)) × T (count_right c.args.count)
right c = simp T-&& at (true-T _ (sizes-hold c))

pub returns-then-not-count : goal.returns-then-not-count
returns-then-not-count c =
    let args = c.args in
    sizes-failed (the_sizes_of args.sizes) args.count args.rows.now args.relations.now
    (failed_sizes c)

pub lengths_right-requires : goal.lengths_right-requires
unfolding equations the_sizes_of
lengths_right-requires c = (size-bounds _ (right c).0).few-equations

pub returns-then-not-lengths_right : goal.returns-then-not-lengths_right
unfolding equations the_sizes_of
returns-then-not-lengths_right c =
    let args = c.args in
    lengths-failed (the_sizes_of args.sizes) args.count args.rows.now args.relations.now (sizes-hold c.before.before)
    (sym c.lengths_right.ensures ∙ c.if-not-lengths_right.true)

pub numbers_right-requires : goal.numbers_right-requires
numbers_right-requires c =
    let args = c.args in
    let long = (lengths_right-iff (equations (the_sizes_of args.sizes)) args.rows.now args.relations.now).0
    (true-T _ (lengths-hold c)) in
    record { t = ((right c.before.before).0, long.0); count_bound = ((count_right-iff args.count).0 (right c.before.before).1, long.1) }

pub returns-then-not-numbers_right : goal.returns-then-not-numbers_right
unfolding the_sizes_of
returns-then-not-numbers_right c =
    let before = c.before.before in
    let args = before.args in
    let failed = sym c.numbers_right.ensures ∙ c.if-not-numbers_right.true in
    sym (ap (λ t. cond t 0 5) failed)
    ∙ lengths-passed (the_sizes_of args.sizes) args.count args.rows.now args.relations.now (sizes-hold before.before.before)
    (lengths-hold before)

pub returns : goal.returns
unfolding the_sizes_of
returns c =
    let before = c.before.before in
    let args = before.args in
    let passed = sym c.numbers_right.ensures ∙ c.if-not-numbers_right.false in
    sym (ap (λ t. cond t 0 5) passed)
    ∙ lengths-passed (the_sizes_of args.sizes) args.count args.rows.now args.relations.now (sizes-hold before.before.before)
    (lengths-hold before)
