-- `stores::rows::row_at` meets its contract.
-- Assumes nothing.
use mathlib.Core.Path.{◌≡◌, ap}
use Prim.Native.Nat.{◌+◌, ◌-◌}
use native.Mathlib.Omega.{arith}
use borrow.Author.Rules.{rules}
use lib.ListN.{take, drop}
use Rattle.rules.specs.Limits.{row_length}
use Rattle.stores.proofs.rows.row_at.Goals as goal

pub returns : goal.returns
returns c =
    let args = c.args in
    let size : args.at + row_length - args.at ≡ row_length = omega arith in
    record { result_value = ap (λ n. take n (drop args.at args.store.now)) size; result_len = search rules }
