-- `reading::counts::after_count` meets its contract. The test is made on the bits, which are 0 exactly for the number 0.
-- Assumes nothing.
use mathlib.Core.Path.{sym, ap, ◌∙◌}
use mathlib.Core.Bool.{cond}
use borrow.Author.Tests.{eq-eqb, ne_eqb}
use Rattle.algebra.specs.Polynomials.{is_zero_ℤ}
use Rattle.integers.specs.Ranges.{of_z-zero}
use Rattle.rules.specs.Sheets.{after_count_of}
use Rattle.reading.proofs.counts.after_count.Goals as goal

pub returns-then-value-eq0 : goal.returns-then-value-eq0
unfolding after_count_of is_zero_ℤ
returns-then-value-eq0 c = sym (ap (λ t. cond t 10 32) (sym (of_z-zero _ c.ranges.value) ∙ eq-eqb _ 0 c.if-value-eq0.true))

pub returns-else-value-eq0 : goal.returns-else-value-eq0
unfolding after_count_of is_zero_ℤ
returns-else-value-eq0 c = sym (ap (λ t. cond t 10 32) (sym (of_z-zero _ c.ranges.value) ∙ ne_eqb _ 0 c.if-value-eq0.false))
