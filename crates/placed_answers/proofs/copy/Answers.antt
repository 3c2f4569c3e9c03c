-- `placed_answers::copy` meets its contract: the front of the target is the source, and what lies behind it stays.
use Rattle.std.proofs.Common.{◌≡◌, length, List, ◌++◌, ap}
use Rattle.std.proofs.Math.ListN.{drop}
use Rattle.lists.specs.Overwritten.{overwrite}
use Rattle.placed_answers.proofs.copy.Goals as goal

-- The source's bytes stand in front, and behind them what the target had there.
pub returns-clause-target_after : goal.returns-clause-target_after
unfolding overwrite
returns-clause-target_after c =
    ap (λ front. front ++ drop (length c.args.source.now) c.args.target.now) c.copy_from_slice.ensures.after
