-- `writing::writer::most_in_terms` meets its contract. The loop's invariant: what the polynomials from i on come to is still to be added.
-- Assumes nothing.
use mathlib.Core.Path.{◌≡◌}
use mathlib.Core.List.{map}
use Prim.Native.Nat.{◌+◌, ◌*◌, ◌≤◌}
use lib.ListN.{drop}
use Rattle.lists.specs.Totals.{total}
use Rattle.rules.specs.Layout.{polynomials_in}
use Rattle.writing.specs.LineLengths.{long_term, most_in_term_of, most_in_terms_of}
use Rattle.writing.proofs.writer.most_in_terms.Given as goal

abbrev pub invariant-loop-i : goal.invariant-loop-i
invariant-loop-i l =
    (l.numbers ≤ l.i * long_term)
    × (l.numbers + total (drop l.i (map most_in_term_of (polynomials_in l.row))) ≡ most_in_terms_of l.row)
