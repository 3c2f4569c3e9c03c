-- `working_rows::stored::working` meets its contract.
-- Assumes nothing.
use Rattle.working_rows.proofs.stored.working.Goals as goal

pub returns : goal.returns
returns c =
    let args = c.args in λ k. record { entries = args.entries; right = args.right; width = c.width-width.ensures k }
