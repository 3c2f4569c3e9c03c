-- `elimination::check_right_side` meets its contract.
-- Assumes nothing.
use mathlib.Core.Path.{◌≡◌, sym, ◌∙◌, ap, ap₂}
use mathlib.Core.Bool.{true, false, ◌&&◌, cond}
use mathlib.Core.List.{List}
use Prim.Native.Nat.{ℕ}
use native.Mathlib.Omega.{arith}
use lib.Dec.{leb}
use lib.IntN.{ℤ}
use lib.ListN.{length}
use borrow.Author.Tests.{le-leb, lt-leb}
use Rattle.rules.specs.Calls.{right_side_check}
use Rattle.rules.specs.Stores.{Sizes, equations, row_need, sizes_right_of}
use Rattle.rules.specs.Layout.{size-bounds}
use Rattle.stores.specs.Validity.{the_sizes_of}
use Rattle.lists.specs.Tests.{true-T}
use Rattle.elimination.proofs.check_right_side.Goals as goal
use Rattle.elimination.proofs.check_right_side.Goals.{After-counted, Else-not-counted, Else-not-sizes_right}

-- what the call gives, by its three tests
module _ (l : List ℤ) (z : Sizes) (row : ℕ) where
  abbrev long : ℕ
  long = cond (leb (row_need (equations z)) (length l)) 0 1

  sizes-failed : sizes_right_of z ≡ false → 2 ≡ right_side_check l z row
  unfolding right_side_check
  sizes-failed e = sym (ap (λ s. cond (s && (leb 1 row && leb row (equations z))) long 2) e)

  row-failed : sizes_right_of z ≡ true → (leb 1 row && leb row (equations z)) ≡ false → 2 ≡ right_side_check l z row
  unfolding right_side_check
  row-failed e f = sym (ap₂ (λ s p. cond (s && p) long 2) e f)

  both-passed : sizes_right_of z ≡ true → (leb 1 row && leb row (equations z)) ≡ true → long ≡ right_side_check l z row
  unfolding right_side_check
  both-passed e f = sym (ap₂ (λ s p. cond (s && p) long 2) e f)

-- what the code knows after each test
sizes-hold : (c : Else-not-sizes_right) → sizes_right_of (the_sizes_of c.args.sizes) ≡ true
sizes-hold c = sym c.sizes_right.ensures ∙ c.if-not-sizes_right.false

row-tested : (c : After-counted)
    → let args = c.args in
    c.counted.result ≡ (leb 1 args.row && leb args.row (equations (the_sizes_of args.sizes)))
unfolding equations the_sizes_of
row-tested c = c.counted.ensures

row-hold : (c : Else-not-counted)
    → let args = c.args in
    (leb 1 args.row && leb args.row (equations (the_sizes_of args.sizes))) ≡ true
row-hold c = sym (row-tested (goal.at.Else-not-counted c).After-counted) ∙ c.if-not-counted.false

-- the third test stands for the last two results
tested : (c : Else-not-counted)
    → let args = c.args in
    cond (leb (row_need args.sizes.equations) (length args.rows.now)) 0 1
    ≡ right_side_check args.rows.now (the_sizes_of args.sizes) args.row
unfolding equations the_sizes_of
tested c =
    let args = c.args in
    both-passed args.rows.now (the_sizes_of args.sizes) args.row (sizes-hold (goal.at.Else-not-counted c).Else-not-sizes_right) (row-hold c)

pub returns-then-not-sizes_right : goal.returns-then-not-sizes_right
returns-then-not-sizes_right c =
    let args = c.args in
    sizes-failed args.rows.now (the_sizes_of args.sizes) args.row (sym c.sizes_right.ensures ∙ c.if-not-sizes_right.true)

pub returns-then-not-counted : goal.returns-then-not-counted
returns-then-not-counted c =
    let args = c.args in
    row-failed args.rows.now (the_sizes_of args.sizes) args.row (sizes-hold (goal.at.returns-then-not-counted c).Else-not-sizes_right)
    (sym (row-tested (goal.at.returns-then-not-counted c).After-counted) ∙ c.if-not-counted.true)

pub overflow_mul-sizes : goal.overflow_mul-sizes
unfolding equations the_sizes_of
overflow_mul-sizes c =
    let sizes = the_sizes_of c.args.sizes in
    omega (arith, (size-bounds sizes (true-T _ (sizes-hold (goal.at.overflow_mul-sizes c).Else-not-sizes_right))).few-equations)

pub returns-then-rows-sizes : goal.returns-then-rows-sizes
unfolding row_need
returns-then-rows-sizes c = sym (ap (λ t. cond t 0 1) (lt-leb _ _ c.if-rows-sizes.true)) ∙ tested (goal.at.returns-then-rows-sizes c).Else-not-counted

pub returns : goal.returns
unfolding row_need
returns c = sym (ap (λ t. cond t 0 1) (le-leb _ _ c.if-rows-sizes.false)) ∙ tested (goal.at.returns c).Else-not-counted
