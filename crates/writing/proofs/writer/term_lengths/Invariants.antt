-- `writing::writer::term_lengths` meets its contract. The loop's invariant: the polynomials from i on are still to be counted,
-- and the lengths of those before it stand.
-- Assumes nothing.
use mathlib.Core.Path.{◌≡◌}
use Prim.Native.Nat.{◌+◌, ◌≤◌}
use lib.ListN.{length, drop}
use Rattle.rules.specs.Limits.{polynomial_count}
use Rattle.writing.specs.Writer.{nonzero_count, Lengths}
use Rattle.rules.specs.Layout.{polynomials_in}
use Rattle.writing.proofs.writer.term_lengths.Given as goal

abbrev pub invariant-loop-i : goal.invariant-loop-i
invariant-loop-i l =
    (l.terms ≤ l.i)
    × (l.terms + nonzero_count (drop l.i (polynomials_in l.row)) ≡ nonzero_count (polynomials_in l.row))
    × (length l.lengths ≡ polynomial_count)
    × Lengths l.i l.row l.lengths
