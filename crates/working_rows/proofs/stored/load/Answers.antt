-- `working_rows::stored::load` meets its contract. Both arrays are overwritten whole.
-- Assumes nothing.
use mathlib.Core.Path.{◌≡◌, ◌∙◌, ap}
use Prim.Native.Nat.{◌+◌, ◌-◌}
use native.Mathlib.Omega.{arith}
use lib.ListN.{take, drop}
use Rattle.rules.specs.Limits.{coefficient_count, entries_length, row_length}
use Rattle.working_rows.specs.Working.{width-loaded}
use Rattle.working_rows.proofs.stored.load.Goals as goal

pub returns : goal.returns
returns c =
    let at = c.args.at in
    let store = c.args.store.now in
    let size : at + entries_length - at ≡ entries_length = omega arith in
    let side : at + row_length - (at + entries_length) ≡ coefficient_count = omega arith in
    let left = c.copy_from_slice.ensures.after ∙ ap (λ n. take n (drop at store)) size in
    let right = c.copy_from_slice-2.ensures.after ∙ ap (λ n. take n (drop (at + entries_length) store)) side in
    let wide = c.requires.1 ∙ width-loaded store at c.requires.0 in
    λ k. record { entries = left k; right = right k; width = wide k }
