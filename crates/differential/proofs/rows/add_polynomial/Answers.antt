-- `differential::rows::add_polynomial` meets its contract. The first three numbers change, and the others have zero added to them.
-- Assumes nothing.
use mathlib.Core.Path.{◌≡◌, ◌∙◌}
use mathlib.Core.List.{List}
use Prim.Native.Nat.{ℕ, ◌≤◌, ◌<◌}
use native.Mathlib.Omega.{arith}
use borrow.Author.Rules.{sfits_of}
use lib.Dec.{lit<}
use lib.IntN.{ℤ, pos, neg_ℤ, nat_abs, ◌+ℤ◌, ◌*ℤ◌}
use lib.ListN.{get_or, set, length-set}
use mir.Syntax.{w64}
use mir.Val.{SFits, to_z, of_z}
use mir.Facts.{to_z-of_z}
use Rattle.integers.specs.Ranges.{sfits-size}
use Rattle.lists.specs.Everywhere.{all_get_or}
use Rattle.rules.specs.Limits.{bound, coefficient_count}
use Rattle.differential.specs.Differential.{factor_bound}
use Rattle.differential.specs.Recurrence as Recurrence
use Rattle.differential.specs.Read.{term_of}
use Rattle.differential.specs.Added.{Trinomial, add-three}
use Rattle.differential.proofs.rows.add_polynomial.Goals as goal
use Rattle.differential.proofs.rows.add_polynomial.Goals.{After-plus-constant, After-plus-linear, After-plus-square, After-rising-f}

-- A number as the machine reads it back.
fits : (a : ℤ) (k : ℕ) → nat_abs a ≤ k → k ≤ bound → SFits w64 a
fits a k h g = sfits-size a {k = bound} (omega arith) (lit< tt)

pub rising-f-requires : goal.rising-f-requires
unfolding term_of
rising-f-requires c = (c.requires.small_place.0.before.derivative-small, c.requires.small_place.0.before.power_small)

-- The numbers at hand.
module _ (c : After-rising-f) where
  abbrev p : List ℤ
  p = c.args.p.now

  number_small : (i : ℕ) → i < coefficient_count → nat_abs (get_or p i (pos 0)) ≤ bound
  number_small i h = all_get_or (λ a. nat_abs a ≤ bound) p (pos 0) i (omega (arith, c.requires.p_len.0)) c.requires.p_len.1

  number_fits : (i : ℕ) → i < coefficient_count → SFits w64 (get_or p i (pos 0))
  number_fits i h = fits (get_or p i (pos 0)) bound (number_small i h) (omega arith)

  factor-fits : SFits w64 c.args.t.factor
  factor-fits = fits c.args.t.factor factor_bound c.requires.small_place.1 (omega arith)

  coefficients : Trinomial c.rising-f.result.constant c.rising-f.result.linear c.rising-f.result.square
      (Recurrence.rising (neg_ℤ (pos c.args.t.power)) c.args.t.derivative)
  coefficients = c.rising-f.ensures

  constant-fits : SFits w64 c.rising-f.result.constant
  constant-fits = fits c.rising-f.result.constant 3 coefficients.constant-small (omega arith)

  linear-fits : SFits w64 c.rising-f.result.linear
  linear-fits = fits c.rising-f.result.linear 3 coefficients.linear-small (omega arith)

  square-fits : SFits w64 c.rising-f.result.square
  square-fits = fits c.rising-f.result.square 3 coefficients.square-small (omega arith)

pub slice_copy_out-plus : goal.slice_copy_out-plus
slice_copy_out-plus c = omega (arith, c.requires.p_len.0)

pub plus-constant-requires : goal.plus-constant-requires
plus-constant-requires c =
    let r = (goal.at.plus-constant-requires c).After-rising-f in
    simp (to_z-of_z {w = w64} (number_fits r 0 (omega arith)), to_z-of_z {w = w64} (factor-fits r), to_z-of_z {w = w64} (constant-fits r))
    (number_small r 0 (omega arith), (c.requires.small_place.1, (coefficients r).constant-small))

pub slice_copy_out-plus-2 : goal.slice_copy_out-plus-2
slice_copy_out-plus-2 c = omega (arith, c.requires.p_len.0)

pub plus-linear-requires : goal.plus-linear-requires
plus-linear-requires c =
    let r = (goal.at.plus-linear-requires c).After-rising-f in
    simp (to_z-of_z {w = w64} (number_fits r 1 (omega arith)), to_z-of_z {w = w64} (factor-fits r), to_z-of_z {w = w64} (linear-fits r))
    (number_small r 1 (omega arith), (c.requires.small_place.1, (coefficients r).linear-small))

pub slice_copy_out-plus-3 : goal.slice_copy_out-plus-3
slice_copy_out-plus-3 c = omega (arith, c.requires.p_len.0)

pub plus-square-requires : goal.plus-square-requires
plus-square-requires c =
    let r = (goal.at.plus-square-requires c).After-rising-f in
    simp (to_z-of_z {w = w64} (number_fits r 2 (omega arith)), to_z-of_z {w = w64} (factor-fits r), to_z-of_z {w = w64} (square-fits r))
    (number_small r 2 (omega arith), (c.requires.small_place.1, (coefficients r).square-small))

pub bounds-p-0 : goal.bounds-p-0
bounds-p-0 c = omega (arith, c.requires.p_len.0)

pub bounds-p-1 : goal.bounds-p-1
bounds-p-1 c = simp length-set (omega (arith, c.requires.p_len.0))

pub bounds-p-2 : goal.bounds-p-2
bounds-p-2 c = simp length-set (omega (arith, c.requires.p_len.0))

pub shape_of-p : goal.shape_of-p
shape_of-p c = simp length-set

constant-is : (c : After-plus-constant)
    → to_z w64 (of_z w64 c.plus-constant.result)
    ≡ get_or (p (goal.at.After-plus-constant c).After-rising-f) 0 (pos 0) +ℤ c.args.t.factor *ℤ c.rising-f.result.constant
constant-is c =
    let r = (goal.at.After-plus-constant c).After-rising-f in
    to_z-of_z {w = w64} (sfits_of c.plus-constant.type_inv)
    ∙ (simp (
      to_z-of_z {w = w64} (number_fits r 0 (omega arith)),
      to_z-of_z {w = w64} (factor-fits r),
      to_z-of_z {w = w64} (constant-fits r),
    ) at c.plus-constant.ensures)

linear-is : (c : After-plus-linear)
    → to_z w64 (of_z w64 c.plus-linear.result)
    ≡ get_or (p (goal.at.After-plus-linear c).After-rising-f) 1 (pos 0) +ℤ c.args.t.factor *ℤ c.rising-f.result.linear
linear-is c =
    let r = (goal.at.After-plus-linear c).After-rising-f in
    to_z-of_z {w = w64} (sfits_of c.plus-linear.type_inv)
    ∙ (simp (
      to_z-of_z {w = w64} (number_fits r 1 (omega arith)),
      to_z-of_z {w = w64} (factor-fits r),
      to_z-of_z {w = w64} (linear-fits r),
    ) at c.plus-linear.ensures)

square-is : (c : After-plus-square)
    → to_z w64 (of_z w64 c.plus-square.result)
    ≡ get_or (p (goal.at.After-plus-square c).After-rising-f) 2 (pos 0) +ℤ c.args.t.factor *ℤ c.rising-f.result.square
square-is c =
    let r = (goal.at.After-plus-square c).After-rising-f in
    to_z-of_z {w = w64} (sfits_of c.plus-square.type_inv)
    ∙ (simp (
      to_z-of_z {w = w64} (number_fits r 2 (omega arith)),
      to_z-of_z {w = w64} (factor-fits r),
      to_z-of_z {w = w64} (square-fits r),
    ) at c.plus-square.ensures)

pub returns : goal.returns
unfolding term_of
returns c =
    let r = (goal.at.returns c).After-rising-f in
    (λ i. set (set (set (p r) 0 (constant-is (goal.at.returns c).After-plus-constant i)) 1
    (linear-is (goal.at.returns c).After-plus-linear i)) 2 (square-is c i))
    ∙ add-three (term_of c.args.t) _ _ _ (coefficients r) (p r) c.requires.p_len.0
