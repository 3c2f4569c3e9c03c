-- `constant_rows::block_entry` meets its contract. Assumes nothing.
use mathlib.Core.Path.{◌≡◌, sym, ◌∙◌, ap}
use Prim.Native.Nat.{ℕ, ◌+◌, ◌*◌, ◌-◌}
use native.Mathlib.Omega.{arith}
use lib.ListN.{take, drop}
use mir.Facts.{to_z-of_z}
use Rattle.lists.specs.Tests.{every-part}
use Rattle.rules.specs.Limits.{small, block_length, coefficient_count}
use Rattle.rules.specs.Layout.{polynomial-at-row}
use Rattle.constant_rows.specs.Constants.{entry_at}
use mir.Syntax.{w64}
use Rattle.constant_rows.proofs.block_entry.Goals as goal

-- where the numbers of the entry begin
abbrev from : ℕ → ℕ → ℕ
from block column = block * block_length + column * coefficient_count

pub entry_value-requires : goal.entry_value-requires
entry_value-requires c =
    let start = from c.args.block c.args.column in
    (every-part small start (start + coefficient_count - start) c.args.row.now c.requires.t.0, rw (to_z-of_z {w = w64} c.ranges.n) c.requires.t.2)

pub returns : goal.returns
returns c =
    let start = from c.args.block c.args.column in
    let width : start + coefficient_count - start ≡ coefficient_count = omega arith in
    (simp (to_z-of_z {w = w64} c.ranges.n) at c.entry_value.ensures)
    ∙ ap (entry_at c.args.n) (ap (λ k. take k (drop start c.args.row.now)) width
    ∙ sym (polynomial-at-row c.args.row.now c.args.block c.args.column c.requires.block_lt_block_count.0 c.requires.block_lt_block_count.1))
