-- `writing::writer::most_in_term` meets its contract, by what is found behind the first few coefficients.
-- Assumes nothing.
use mathlib.Core.Path.{◌≡◌, sym, ◌∙◌, ap}
use mathlib.Core.Bool.{cond}
use mathlib.Core.List.{List}
use Prim.Native.Nat.{◌-◌}
use native.Mathlib.Omega.{arith}
use lib.IntN.{ℤ}
use lib.ListN.{length, drop, length-drop}
use lib.Seq.{take_all}
use Rattle.algebra.specs.Polynomials.{is_zero_of}
use Rattle.writing.specs.LineLengths.{few_coefficients, short_term, long_term, most_in_term_of}
use Rattle.writing.proofs.writer.most_in_term.Goals as goal
use Rattle.writing.proofs.writer.most_in_term.Goals.{After-all_zero}

-- what the test tells
module _ (c : After-all_zero) where
  abbrev p : List ℤ
  p = c.args.p.now

  tested : is_zero_of (drop few_coefficients p) ≡ c.all_zero.result
  tested =
      ap is_zero_of (sym (take_all (length p - few_coefficients) (drop few_coefficients p) (omega (arith, length-drop few_coefficients p))))
      ∙ sym c.all_zero.ensures

pub returns-then-all_zero : goal.returns-then-all_zero
unfolding most_in_term_of
returns-then-all_zero c =
    sym (ap (λ t. cond t short_term long_term) (tested (goal.at.returns-then-all_zero c).After-all_zero ∙ c.if-all_zero.true))

pub returns : goal.returns
unfolding most_in_term_of
returns c = sym (ap (λ t. cond t short_term long_term) (tested (goal.at.returns c).After-all_zero ∙ c.if-all_zero.false))
