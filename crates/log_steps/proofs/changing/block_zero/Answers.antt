-- `log_steps::changing::block_zero` meets its contract.
-- Assumes nothing.
use Prim.Native.Nat.{◌+◌, ◌*◌, ◌-◌}
use mathlib.Core.Path.{◌≡◌, sym, ◌∙◌, ap₂}
use native.Mathlib.Omega.{arith}
use lib.ListN.{take, drop}
use Rattle.algebra.specs.Polynomials.{is_zero_of}
use Rattle.rules.specs.Limits.{block_length}
use Rattle.stores.specs.Flat.{zero_block-at}
use Rattle.reduction.specs.StoreExchange.{numbers_at}
use Rattle.log_steps.proofs.changing.block_zero.Goals as goal

pub returns : goal.returns
returns c =
    let block = c.args.block in
    let width : block * block_length + block_length - block * block_length ≡ block_length = omega arith in
    c.is_zero.ensures
    ∙ ap₂ (λ n l. is_zero_of (take n (drop (block * block_length) l))) width c.row_at-row.ensures.result_value
    ∙ sym (zero_block-at (numbers_at c.args.rows.now c.args.i) block (omega arith))
