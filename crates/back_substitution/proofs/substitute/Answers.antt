-- `back_substitution::substitute` meets its contract. The pivot, the sum and their divisor are those of the definition, and the factor
-- is no larger than the pivot.
-- Assumes nothing.
use mathlib.Core.Path.{◌≡◌, sym, ◌∙◌, ap, ap₂}
use mathlib.Core.List.{List}
use Prim.Native.Nat.{ℕ, ◌<◌, ◌≤◌, ◌*◌}
use native.Mathlib.Nat.{le_trans}
use native.Mathlib.Omega.{arith}
use lib.Dec.{lit<}
use lib.IntN.{ℤ, pos, nat_abs}
use lib.ListN.{get_or, set}
use lib.Signed.{quot_z}
use mir.Syntax.{w64}
use mir.Val.{SFits, of_z, to_z}
use mir.Facts.{to_z-of_z}
use Rattle.algebra.specs.Division.{quot_z-le}
use Rattle.algebra.specs.Gcd.{gcd}
use Rattle.algebra.specs.Polynomials.{scale}
use Rattle.integers.specs.Ranges.{sfits-size}
use Rattle.polynomials.specs.Content.{read_back, small_at}
use Rattle.rules.specs.Limits.{bound}
use Rattle.echelon.specs.Eliminated.{at, pivot_of}
use Rattle.back_substitution.specs.Listed as Listed
use Rattle.constant_rows.specs.ListLengths.{list_columns}
use Rattle.back_substitution.proofs.substitute.Goals as goal
use Rattle.back_substitution.proofs.substitute.Goals.{After-common_divisor-common, After-d-1, After-magnitude, After-quotient, Start}

-- the pivot and the sum
module _ (c : After-d-1) where
  abbrev start : Start
  start = (goal.at.After-d-1 c).Start

  abbrev row : List ℤ
  row = start.args.row.now

  abbrev v : List ℤ
  v = start.args.v.now

  abbrev d : ℤ
  d = get_or row start.args.column (pos 0)

  abbrev S : ℤ
  S = Listed.dot row v

  abbrev common : ℕ
  common = gcd (nat_abs d) (nat_abs S)

  abbrev times : ℤ
  times = quot_z (pos (nat_abs d)) (pos common)

  d-is : to_z w64 (of_z w64 d) ≡ d
  d-is = read_back d c.d-1.given

  d-size : nat_abs d ≤ bound
  d-size = small_at row start.requires.t.0 start.args.column

  sum_is : to_z w64 (of_z w64 start.args.s) ≡ S
  sum_is = to_z-of_z {w = w64} start.ranges.s ∙ start.requires.s_value.0

  sum-size : nat_abs S ≤ list_columns * (bound * bound)
  sum-size = rw start.requires.s_value.0 at start.requires.s_value.1

  factor-size : nat_abs times ≤ bound
  factor-size = le_trans (quot_z-le (pos (nat_abs d)) (pos common)) d-size

-- their divisor
module _ (c : After-common_divisor-common) where
  common-is : to_z w64 (of_z w64 c.common_divisor-common.result) ≡ pos (common (goal.at.After-common_divisor-common c).After-d-1)
  common-is =
      read_back c.common_divisor-common.result c.common_divisor-common.type_inv ∙ c.common_divisor-common.ensures.value
      ∙ ap₂ (λ x y. pos (gcd (nat_abs x) (nat_abs y))) (d-is (goal.at.After-common_divisor-common c).After-d-1) (sum_is (goal.at.After-common_divisor-common c).After-d-1)

  common-positive : 0 < nat_abs (to_z w64 (of_z w64 c.common_divisor-common.result))
  common-positive = rw (read_back c.common_divisor-common.result c.common_divisor-common.type_inv) c.common_divisor-common.ensures.result_nonzero

-- the factor
module _ (c : After-magnitude) where
  abbrev sums : After-d-1
  sums = (goal.at.After-magnitude c).After-d-1

  size_is : c.magnitude.result ≡ nat_abs (d sums)
  size_is = c.magnitude.ensures ∙ ap nat_abs (d-is sums)

  size_fits : SFits w64 (pos c.magnitude.result)
  size_fits = rw size_is (sfits-size (pos (nat_abs (d sums))) (d-size sums) (lit< tt))

  size_back : to_z w64 c.magnitude.result ≡ pos (nat_abs (d sums))
  size_back = to_z-of_z {z = pos c.magnitude.result} size_fits ∙ ap pos size_is

factor-is : (c : After-quotient) → to_z w64 (of_z w64 c.quotient.result) ≡ times (sums (goal.at.After-quotient c).After-magnitude)
factor-is c =
    read_back c.quotient.result c.quotient.type_inv ∙ c.quotient.ensures
    ∙ ap₂ quot_z (size_back (goal.at.After-quotient c).After-magnitude) (common-is (goal.at.After-quotient c).After-common_divisor-common)

pub common_divisor-common-requires : goal.common_divisor-common-requires
common_divisor-common-requires c = (λ e. (start c).requires.t.2 (sym (d-is c) ∙ e), rw (d-is c) (d-size c))

pub overflow_cast-magnitude : goal.overflow_cast-magnitude
overflow_cast-magnitude c = size_fits c

pub quotient-requires : goal.quotient-requires
quotient-requires c = (rw (size_back c) (omega (arith, d-size (sums c))), common-positive (goal.at.quotient-requires c).After-common_divisor-common)

pub multiply-requires : goal.multiply-requires
multiply-requires c =
    let e = sums (goal.at.multiply-requires c).After-magnitude in
    ((start e).requires.t.1, rw (factor-is c) (factor-size e))

pub solved-requires : goal.solved-requires
solved-requires c =
    let divided = (goal.at.solved-requires c).After-common_divisor-common in
    let e = (goal.at.After-common_divisor-common divided).After-d-1 in
    record {
      s_bound = (rw (sum_is e) (sum-size e), common-positive divided);
      common_value = rw (d-is e, sum_is e) (common-is divided);
    }

pub returns : goal.returns
unfolding Listed.substitute pivot_of at
returns c =
    let e = sums (goal.at.returns c).After-magnitude in
    let value = read_back c.solved.result c.solved.type_inv ∙ c.solved.ensures ∙ ap₂ Listed.solved (d-is e) (sum_is e) in
    let others = c.multiply.ensures ∙ ap (λ k. scale k (v e)) (factor-is (goal.at.returns c).After-quotient) in
    ap₂ (λ w x. set w (start e).args.column x) others value
