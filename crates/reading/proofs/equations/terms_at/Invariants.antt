-- `reading::equations::terms_at` meets its contract. The loop's invariant: the row holds the terms before the place `next`, and
-- the others are to come.
-- Assumes nothing.
use Prim.Native.Nat.{◌-◌}
use Rattle.reading.specs.Equations.{TermsTo}
use Rattle.stores.specs.Validity.{the_sizes_of}
use Rattle.reading.proofs.equations.terms_at.Given as goal

abbrev pub invariant-loop-i : goal.invariant-loop-i
invariant-loop-i l =
    TermsTo (the_sizes_of l.z) l.count l.bytes l.at l.row l.next l.block l.column (l.count - l.i)
