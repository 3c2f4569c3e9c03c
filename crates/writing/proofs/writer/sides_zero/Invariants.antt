-- `writing::writer::sides_zero` meets its contract. The loop's invariant: the first i right sides are zero.
-- Assumes nothing.
use mathlib.Core.Path.{◌≡◌}
use mathlib.Core.Bool.{true}
use lib.ListN.{take}
use Rattle.algebra.specs.Polynomials.{is_zero_of}
use Rattle.lists.specs.Tests.{every}
use Rattle.writing.specs.Writer.{sides_in}
use Rattle.writing.proofs.writer.sides_zero.Given as goal

abbrev pub invariant-loop-i : goal.invariant-loop-i
invariant-loop-i l = every is_zero_of (take l.i (sides_in l.skip l.records l.store)) ≡ true
