-- `roots::tried_below` meets its contract.
-- Assumes nothing.
use mathlib.Core.Path.{sym, ◌∙◌, ap}
use Rattle.roots.specs.RootSearch.{held, listed, try_both-past}
use Rattle.roots.proofs.tried_below.Goals as goal

pub tried_both-requires : goal.tried_both-requires
tried_both-requires c = (c.requires.0, c.requires.1, c.requires.2, c.requires.3, c.requires.5, c.requires.6)

pub returns-then-d-limit : goal.returns-then-d-limit
returns-then-d-limit c = c.tried_both.ensures

pub returns-else-d-limit : goal.returns-else-d-limit
returns-else-d-limit c =
    c.requires.5 ∙ ap listed (sym (try_both-past c.args.p.now c.args.limit c.args.d (held c.args.found) c.requires.4 c.if-d-limit.false))
