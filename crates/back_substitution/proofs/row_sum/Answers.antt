-- `back_substitution::row_sum` meets its contract. The loop's invariant: sum is the sum of the first i products.
-- Assumes nothing.
use mathlib.Core.Path.{◌≡◌, refl, sym, ◌∙◌, ap, ap₂}
use mathlib.Core.List.{List}
use Prim.Native.Nat.{ℕ, ◌+◌}
use native.Mathlib.Omega.{arith}
use lib.Dec.{lit<}
use lib.IntN.{ℤ, pos, ◌*ℤ◌, ◌+ℤ◌}
use lib.ListN.{length, get_or}
use mir.Syntax.{w64}
use mir.Val.{SFits, of_z, to_z}
use mir.Facts.{to_z-of_z}
use Rattle.algebra.specs.Sums.{sum_below}
use Rattle.integers.specs.Ranges.{sfits-size}
use Rattle.polynomials.specs.Content.{read_back}
use Rattle.echelon.specs.Eliminated.{at}
use Rattle.back_substitution.specs.BackSubstitution.{product, product-size, sum-size, sum-next, dot-sum}
use Rattle.back_substitution.proofs.row_sum.Goals as goal
use Rattle.back_substitution.proofs.row_sum.Goals.{After-sum-in-loop-i-1, Start}

-- the product of this turn, and the sum with it
module _ (c : After-sum-in-loop-i-1) where
  abbrev start : Start
  start = (goal.at.After-sum-in-loop-i-1 c).Start

  abbrev row : List ℤ
  row = start.args.row.now

  abbrev v : List ℤ
  v = start.args.v.now

  abbrev i : ℕ
  i = c.loop-i.i

  abbrev here : ℤ
  here = to_z w64 (of_z w64 (get_or row i (pos 0))) *ℤ to_z w64 (of_z w64 (get_or v i (pos 0)))

  here-is : here ≡ product row v i
  unfolding product at
  here-is = ap₂ ◌*ℤ◌ (read_back (get_or row i (pos 0)) c.sum-1.given) (read_back (get_or v i (pos 0)) c.sum-in-loop-i-1.given)

  here-fits : SFits w64 here
  here-fits = rw here-is (sfits-size (product row v i) (product-size row v start.requires.t.0 start.requires.t.1 i) (lit< tt))

  next-is : to_z w64 c.loop-i.sum-bits +ℤ to_z w64 (of_z w64 here) ≡ sum_below (i + 1) (product row v)
  next-is = ap₂ ◌+ℤ◌ c.loop-i.invariant.1 (to_z-of_z {w = w64} here-fits ∙ here-is) ∙ sym (sum-next row v i)

  next_fits : SFits w64 (sum_below (i + 1) (product row v))
  next_fits =
      sfits-size (sum_below (i + 1) (product row v)) (sum-size row v start.requires.t.0 start.requires.t.1 (i + 1) (omega arith)) (lit< tt)

pub loop-i-init : goal.loop-i-init
unfolding sum_below
loop-i-init c = (omega arith, refl)

pub overflow_mul-sum : goal.overflow_mul-sum
overflow_mul-sum c = here-fits c

pub overflow_add-sum : goal.overflow_add-sum
overflow_add-sum c = rw (next-is c) (next_fits c)

pub loop-i-preserved : goal.loop-i-preserved
loop-i-preserved c = (omega arith, ap (λ z. to_z w64 (of_z w64 z)) (next-is c) ∙ to_z-of_z {w = w64} (next_fits c))

pub returns : goal.returns
returns c =
    let row = c.args.row.now in
    let v = c.args.v.now in
    let all : c.loop-i.i ≡ length row = omega arith in
    let is = c.loop-i.invariant.1 ∙ ap (λ i. sum_below i (product row v)) all in
    record {
      value = is ∙ sym (dot-sum row v);
      result_bound = rw is (sum-size row v c.requires.t.0 c.requires.t.1 (length row) c.requires.row_len.1);
    }
