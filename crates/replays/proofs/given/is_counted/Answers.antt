-- `replays::given::is_counted` meets its contract.
-- Assumes nothing.
use mathlib.Core.Path.{ap}
use borrow.Author.Rules.{rules}
use lib.IntN.{pos}
use lib.ListN.{get_or}
use lib.Signed.{le_z}
use Rattle.polynomials.specs.Content.{read_back}
use Rattle.log_steps.specs.Logs.{counted}
use Rattle.replays.proofs.given.is_counted.Goals as goal

pub returns : goal.returns
unfolding counted
returns c =
    ap (le_z (pos 1)) (read_back (get_or c.args.x.now c.args.k (pos 0)) (search rules))
