-- `replays::given::place_at` meets its contract.
-- Assumes nothing.
use Prim.Native.Nat.{◌-◌}
use mathlib.Core.Path.{◌≡◌, ◌∙◌, ap}
use native.Mathlib.Omega.{arith}
use borrow.Author.Rules.{rules}
use lib.IntN.{pos, nat_abs}
use lib.ListN.{get_or}
use Rattle.polynomials.specs.Content.{read_back}
use Rattle.log_steps.specs.Logs.{place_of}
use Rattle.log_steps.specs.Changes.{counted-positive}
use Rattle.replays.specs.Given.{pred-less}
use Rattle.replays.proofs.given.place_at.Goals as goal
use Rattle.replays.proofs.given.place_at.Goals.{After-magnitude}

size : (c : After-magnitude) → c.magnitude.result ≡ nat_abs (get_or c.args.x.now c.args.k (pos 0))
size c =
    c.magnitude.ensures ∙ ap nat_abs (read_back (get_or c.args.x.now c.args.k (pos 0)) (search rules))

pub overflow_sub-result : goal.overflow_sub-result
overflow_sub-result c =
    omega (arith, size c, counted-positive (get_or c.args.x.now c.args.k (pos 0)) c.requires.1)

pub returns : goal.returns
unfolding place_of
returns c =
    ap (λ n. n - 1) (size c) ∙ pred-less _
