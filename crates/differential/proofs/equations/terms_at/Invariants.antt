-- `differential::equations::terms_at` meets its contract. The loop's invariant: the row holds the terms that were read, `before` is the
-- last of them, and the others are to come.
-- Assumes nothing.
use Rattle.std.proofs.Common.{◌-◌}
use Rattle.differential.specs.Read.{extent_of, term_of}
use Rattle.differential.specs.Rows.{TermsTo}
use Rattle.differential.proofs.equations.terms_at.Given as goal

abbrev pub invariant-loop-i : goal.invariant-loop-i
invariant-loop-i l =
    TermsTo (extent_of l.x) l.count l.bytes l.at l.row (term_of l.before) l.before.at (l.count - l.i)
