-- `writing::writer::most_in_terms` meets its contract. The loop's invariant: what the polynomials from i on come to is still to be added.
-- Assumes nothing.
use mathlib.Core.Path.{◌≡◌, ◌∙◌, ap}
use mathlib.Core.List.{List}
use Prim.Native.Nat.{ℕ, ◌+◌, ◌*◌, ◌-◌, ◌≤◌}
use native.Mathlib.Omega.{arith}
use lib.IntN.{ℤ}
use lib.ListN.{take, drop}
use Rattle.rules.specs.Limits.{coefficient_count, polynomial_count}
use Rattle.rules.specs.Layout.{coefficients_at_of}
use Rattle.writing.specs.LineLengths.{long_term, most_in_term_of, most_in_terms_of, most-in-term, total-parts-next, total-parts-end}
use Rattle.writing.proofs.writer.most_in_terms.Goals as goal
use Rattle.writing.proofs.writer.most_in_terms.Goals.{After-most_in_term-numbers, In-loop-i}

pub loop-i-init : goal.loop-i-init
unfolding most_in_terms_of
loop-i-init c = (omega arith, omega arith)

-- what polynomial i comes to
module _ (c : After-most_in_term-numbers) where
  abbrev turn : In-loop-i
  turn = (goal.at.After-most_in_term-numbers c).In-loop-i

  abbrev row : List ℤ
  row = turn.args.row.now

  abbrev i : ℕ
  i = turn.loop-i.i

  found : c.most_in_term-numbers.result ≡ most_in_term_of (coefficients_at_of row i)
  found =
      let width : i * coefficient_count + coefficient_count - i * coefficient_count ≡ coefficient_count = omega arith in
      c.most_in_term-numbers.ensures ∙ ap (λ n. most_in_term_of (take n (drop (i * coefficient_count) row))) width

  few : c.most_in_term-numbers.result ≤ long_term
  few = omega (arith, found, most-in-term (coefficients_at_of row i))

pub overflow_add-numbers : goal.overflow_add-numbers
overflow_add-numbers c = omega (arith, few c)

pub loop-i-preserved : goal.loop-i-preserved
loop-i-preserved c =
    let next = total-parts-next most_in_term_of coefficient_count polynomial_count (row c) (i c) (turn c).loop-i-test.true in
    (omega (arith, few c), omega (arith, found c, next))

pub returns : goal.returns
returns c =
    let args = c.args in
    omega
    (arith, total-parts-end most_in_term_of coefficient_count polynomial_count args.row.now c.loop-i.i c.loop-i-test.false)
