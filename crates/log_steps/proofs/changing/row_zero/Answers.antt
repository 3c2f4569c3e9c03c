-- `log_steps::changing::row_zero` meets its contract.
-- Assumes nothing.
use mathlib.Core.Path.{sym, ◌∙◌, ap}
use lib.ListN.{length}
use Rattle.algebra.specs.Polynomials.{is_zero_of}
use Rattle.rules.specs.Stores.{row_of}
use Rattle.rules.specs.Layout.{coefficients_of-row_of-all}
use Rattle.stores.specs.Flat.{zero_row-numbers}
use Rattle.reduction.specs.StoreExchange.{numbers_at}
use Rattle.log_steps.proofs.changing.row_zero.Goals as goal

pub returns : goal.returns
returns c =
    let l = numbers_at c.args.rows.now c.args.i in
    c.is_zero.ensures ∙ ap is_zero_of c.row_at.ensures.result_value
    ∙ sym (zero_row-numbers (row_of l)
    ∙ ap is_zero_of (coefficients_of-row_of-all l (sym (ap length c.row_at.ensures.result_value) ∙ c.row_at.ensures.result_len)))
