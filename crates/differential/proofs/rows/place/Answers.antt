-- `differential::rows::place` meets its contract. The place is in the row's first five blocks and four columns.
-- Assumes nothing.
use native.Mathlib.Numerals.{sub-one}
use native.Mathlib.Omega.{arith}
use Rattle.differential.specs.Added.{place_in_row_of}
use Rattle.differential.specs.Read.{term_of}
use Rattle.differential.specs.Recurrence.{place_of}
use Rattle.differential.proofs.rows.place.Goals as goal

pub overflow_add-result : goal.overflow_add-result
unfolding term_of
overflow_add-result c = omega (arith, c.requires.0, c.requires.1.1.before.power_small)

pub overflow_sub-result : goal.overflow_sub-result
unfolding term_of
overflow_sub-result c = omega (arith, c.requires.1.0)

pub overflow_mul-result : goal.overflow_mul-result
unfolding term_of
overflow_mul-result c = omega (arith, c.requires.0, c.requires.1.1.before.power_small)

pub overflow_sub-result-2 : goal.overflow_sub-result-2
unfolding term_of
overflow_sub-result-2 c = omega (arith, c.requires.1.1.column-low)

pub overflow_mul-result-2 : goal.overflow_mul-result-2
unfolding term_of
overflow_mul-result-2 c = omega (arith, c.requires.1.1.before.column-small)

pub overflow_add-result-2 : goal.overflow_add-result-2
unfolding term_of
overflow_add-result-2 c = omega (arith, c.requires.0, c.requires.1.1.before.power_small, c.requires.1.1.before.column-small)

pub returns : goal.returns
unfolding place_in_row_of place_of term_of
returns c = rw sub-one
