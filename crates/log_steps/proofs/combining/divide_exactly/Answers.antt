-- `log_steps::combining::divide_exactly` meets its contract. The loop's invariant: d divides the first k numbers, they are divided by it,
-- and the others are as they were.
-- Assumes nothing.
use mathlib.Core.Path.{◌≡◌, refl, sym, ◌∙◌, ap}
use mathlib.Core.Bool.{true≢false}
use mathlib.Core.List.{List}
use Prim.Native.Nat.{ℕ}
use native.Mathlib.Omega.{arith}
use borrow.Author.Count.{below_more}
use borrow.Author.Rules.{sfits_of}
use lib.Dec.{T}
use lib.IntN.{ℤ, pos, nat_abs}
use lib.ListN.{get_or}
use lib.Signed.{lt_z, rem_z}
use mir.Syntax.{w64}
use mir.Val.{of_z, to_z}
use mir.Facts.{to_z-of_z, sfits_lit}
use Rattle.algebra.specs.Gcd.{divide_by, length-divide_by, divide_by-one}
use Rattle.algebra.specs.Polynomials.{coeff}
use Rattle.algebra.specs.Coefficients.{coeff-past-length}
use Rattle.integers.specs.Ranges.{of_z-inj}
use Rattle.lists.specs.Taken.{overwritten-next, overwritten-all, suffix-next, suffix-first}
use Rattle.polynomials.specs.Content.{read_back, zero_bits, nonzero-bits, positive, quotient-stored}
use Rattle.log_steps.specs.Logs.{divides_all}
use Rattle.log_steps.specs.Divisions.{one-exact, sum-divided, sum_left}
use Rattle.log_steps.proofs.combining.divide_exactly.Goals as goal
use Rattle.log_steps.proofs.combining.divide_exactly.Goals.{After-a-1, After-remainder, Start}

-- number k, as it is read
module _ (c : After-a-1) where
  abbrev start : Start
  start = (goal.at.After-a-1 c).Start

  abbrev l : List ℤ
  l = start.args.numbers.now

  abbrev k : ℕ
  k = c.loop-number.number-index

  abbrev d : ℤ
  d = to_z w64 (of_z w64 start.args.d)

  positive-d : T (lt_z (pos 0) d)
  positive-d = rw (to_z-of_z {w = w64} start.ranges.d) start.requires.1

  back : to_z w64 (of_z w64 (get_or c.loop-number.numbers k (pos 0))) ≡ get_or l k (pos 0)
  back =
      let numbers = c.loop-number.numbers in
      read_back (get_or numbers k (pos 0)) c.a-1.given ∙ suffix-first numbers l k (pos 0) c.loop-number.invariant.1

-- its remainder
module _ (c : After-remainder) where
  left : rem_z (coeff (l (goal.at.After-remainder c).After-a-1) (k (goal.at.After-remainder c).After-a-1))
      (d (goal.at.After-remainder c).After-a-1) ≡ c.remainder.result
  unfolding coeff
  left = ap (λ a. rem_z a (d (goal.at.After-remainder c).After-a-1)) (sym (back (goal.at.After-remainder c).After-a-1))
      ∙ sym c.remainder.ensures

pub returns-then-d-eq1 : goal.returns-then-d-eq1
returns-then-d-eq1 c =
    let l = c.args.numbers.now in
    let one : c.args.d ≡ pos 1 = of_z-inj {z = pos 1} c.ranges.d (sfits_lit tt) c.if-d-eq1.true in
    record {
      value = sym (ap (λ a. divides_all (nat_abs a) l) one ∙ one-exact l);
      numbers_after = λ _. sym (ap (λ a. divide_by (nat_abs a) l) one ∙ divide_by-one l);
    }

pub loop-number-init : goal.loop-number-init
loop-number-init c =
    (record { within = omega arith; long = refl; front = refl }, refl, λ j below. absurd (omega arith))

pub remainder-requires : goal.remainder-requires
remainder-requires c = (rw (back c) ((start c).requires.0 (k c)), (positive (d c) (positive-d c)).1)

pub returns-then-remainder-ne0 : goal.returns-then-remainder-ne0
returns-then-remainder-ne0 c =
    let b = (goal.at.returns-then-remainder-ne0 c).After-remainder in
    let e = (goal.at.After-remainder b).After-a-1 in record {
      value = sym (ap (λ a. divides_all (nat_abs a) (l e)) (sym (to_z-of_z {w = w64} (start e).ranges.d))
          ∙ sum_left (d e) (l e) (k e) (λ z. nonzero-bits c.if-remainder-ne0.true (sym (left b) ∙ z)));
      numbers_after = λ z. absurd (true≢false (sym z));
    }

pub quotient-requires : goal.quotient-requires
quotient-requires c =
    let e = (goal.at.quotient-requires c).After-a-1 in
    (rw (back e) ((start e).requires.0 (k e)), (positive (d e) (positive-d e)).1)

pub loop-number-preserved : goal.loop-number-preserved
loop-number-preserved c =
    let b = (goal.at.loop-number-preserved c).After-remainder in
    let e = (goal.at.After-remainder b).After-a-1 in
    let loop = e.loop-number in (
      overwritten-next loop.invariant.0 (length-divide_by (nat_abs (d e)) (l e)) (pos 0) (omega arith)
          (quotient-stored (d e) (positive-d e) (l e) (k e) c.quotient.type_inv c.quotient.ensures (back e)),
      suffix-next loop.numbers (l e) (k e) _ loop.invariant.1,
      below_more _ _ loop.invariant.2 (left b ∙ zero_bits (sfits_of b.remainder.type_inv) c.if-remainder-ne0.false),
    )

pub returns : goal.returns
returns c =
    let loop = c.loop-number in
    let l = c.args.numbers.now in
    let d = to_z w64 (of_z w64 c.args.d) in record {
      value = sym (ap (λ a. divides_all (nat_abs a) l) (sym (to_z-of_z {w = w64} c.ranges.d))
          ∙ sum-divided d l loop.number-index loop.invariant.2 (λ j m. coeff-past-length l j (omega arith)));
      numbers_after = λ _. overwritten-all (rw (to_z-of_z {w = w64} c.ranges.d) at loop.invariant.0)
          (length-divide_by (nat_abs c.args.d) l) (omega arith);
    }
