-- `steps::state_at` meets its contract.
-- Assumes nothing.
use mathlib.Core.Path.{ap}
use Rattle.stores.specs.Validity.{the_sizes_of}
use Rattle.steps.specs.Handed.{held_of}
use Rattle.rules.specs.Stores.{with_equations_of}
use Rattle.steps.specs.StepCalls.{held_by}
use Rattle.steps.proofs.state_at.Goals as goal

pub returns : goal.returns
unfolding held_of the_sizes_of held_by with_equations_of
returns c =
    let p = c.args.p in
    let z = the_sizes_of c.args.sizes in
    ap (λ l. record { sizes = with_equations_of p.rows z; relations = p.count; settled = p.settled; order = l; shifts = p.shifts })
    c.counted.ensures
