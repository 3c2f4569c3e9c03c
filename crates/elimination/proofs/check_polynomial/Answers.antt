-- `elimination::check_polynomial` meets its contract.
-- Assumes nothing.
use mathlib.Core.Path.{◌≡◌, sym, ◌∙◌, ap, ap₂}
use mathlib.Core.Bool.{true, false, ◌&&◌, cond}
use mathlib.Core.List.{List}
use Prim.Native.Nat.{ℕ}
use native.Mathlib.Omega.{arith}
use mir.Facts.{to_z-of_z}
use lib.Dec.{leb}
use lib.IntN.{ℤ}
use lib.ListN.{length}
use borrow.Author.Tests.{le-leb, lt-leb}
use Rattle.rules.specs.Calls.{place_right_of, polynomial_check}
use Rattle.rules.specs.Stores.{Sizes, equations, row_need, sizes_right_of}
use Rattle.rules.specs.Layout.{size-bounds}
use Rattle.stores.specs.Validity.{the_sizes_of}
use Rattle.lists.specs.Tests.{true-T}
use mir.Syntax.{w64}
use Rattle.elimination.proofs.check_polynomial.Goals as goal
use Rattle.elimination.proofs.check_polynomial.Goals.{After-place_right, Else-not-place_right, Else-not-sizes_right}

-- what the call gives, by its three tests
module _ (l : List ℤ) (z : Sizes) (row : ℕ) (block : ℤ) (column : ℕ) where
  abbrev long : ℕ
  long = cond (leb (row_need (equations z)) (length l)) 0 1

  sizes-failed : sizes_right_of z ≡ false → 2 ≡ polynomial_check l z row block column
  unfolding polynomial_check
  sizes-failed e = sym (ap (λ s. cond (s && place_right_of z row block column) long 2) e)

  place-failed : sizes_right_of z ≡ true → place_right_of z row block column ≡ false → 2 ≡ polynomial_check l z row block column
  unfolding polynomial_check
  place-failed e f = sym (ap₂ (λ s p. cond (s && p) long 2) e f)

  both-passed : sizes_right_of z ≡ true → place_right_of z row block column ≡ true → long ≡ polynomial_check l z row block column
  unfolding polynomial_check
  both-passed e f = sym (ap₂ (λ s p. cond (s && p) long 2) e f)

-- what the code knows after each test
sizes-hold : (c : Else-not-sizes_right) → sizes_right_of (the_sizes_of c.args.sizes) ≡ true
sizes-hold c = sym c.sizes_right.ensures ∙ c.if-not-sizes_right.false

place-tested : (c : After-place_right)
    → let args = c.args in
    c.place_right.result ≡ place_right_of (the_sizes_of args.sizes) args.row args.block args.column
place-tested c = rw (to_z-of_z {w = w64} c.ranges.block) at c.place_right.ensures

place-hold : (c : Else-not-place_right)
    → let args = c.args in
    place_right_of (the_sizes_of args.sizes) args.row args.block args.column ≡ true
place-hold c = sym (place-tested (goal.at.Else-not-place_right c).After-place_right) ∙ c.if-not-place_right.false

-- the third test stands for the last two results
tested : (c : Else-not-place_right)
    → let args = c.args in
    cond (leb (row_need args.sizes.equations) (length args.rows.now)) 0 1
    ≡ polynomial_check args.rows.now (the_sizes_of args.sizes) args.row args.block args.column
unfolding equations the_sizes_of
tested c =
    let args = c.args in
    both-passed args.rows.now (the_sizes_of args.sizes) args.row args.block args.column
    (sizes-hold (goal.at.Else-not-place_right c).Else-not-sizes_right) (place-hold c)

pub returns-then-not-sizes_right : goal.returns-then-not-sizes_right
returns-then-not-sizes_right c =
    let args = c.args in
    sizes-failed args.rows.now (the_sizes_of args.sizes) args.row args.block args.column
    (sym c.sizes_right.ensures ∙ c.if-not-sizes_right.true)

pub returns-then-not-place_right : goal.returns-then-not-place_right
returns-then-not-place_right c =
    let args = c.args in
    place-failed args.rows.now (the_sizes_of args.sizes) args.row args.block args.column (sizes-hold (goal.at.returns-then-not-place_right c).Else-not-sizes_right)
    (sym (place-tested (goal.at.returns-then-not-place_right c).After-place_right) ∙ c.if-not-place_right.true)

pub overflow_mul-sizes : goal.overflow_mul-sizes
unfolding equations the_sizes_of
overflow_mul-sizes c =
    let sizes = the_sizes_of c.args.sizes in
    omega (arith, (size-bounds sizes (true-T _ (sizes-hold (goal.at.overflow_mul-sizes c).Else-not-sizes_right))).few-equations)

pub returns-then-rows-sizes : goal.returns-then-rows-sizes
unfolding row_need
returns-then-rows-sizes c = sym (ap (λ t. cond t 0 1) (lt-leb _ _ c.if-rows-sizes.true)) ∙ tested (goal.at.returns-then-rows-sizes c).Else-not-place_right

pub returns : goal.returns
unfolding row_need
returns c = sym (ap (λ t. cond t 0 1) (le-leb _ _ c.if-rows-sizes.false)) ∙ tested (goal.at.returns c).Else-not-place_right
