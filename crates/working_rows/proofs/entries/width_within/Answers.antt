-- `working_rows::entries::width_within` meets its contract. The loop's invariant: the first blocks that are left have the width of the row.
-- Assumes nothing.
use mathlib.Core.Path.{◌≡◌, sym, ◌∙◌, ap}
use mathlib.Core.List.{List, []}
use Prim.Native.Nat.{ℕ, suc, ◌+◌, ◌*◌, ◌-◌, ◌<◌}
use native.Mathlib.Numerals.{add-one}
use native.Mathlib.Omega.{arith}
use lib.IntN.{ℤ}
use lib.ListN.{length, take, drop, get_or}
use Rattle.algebra.specs.Polynomials.{is_zero_of}
use Rattle.rules.specs.Limits.{block_length}
use Rattle.rules.specs.Rows.{zero_block, width, width_of}
use Rattle.rules.specs.Stores.{row_of}
use Rattle.stores.specs.Flat.{zero_block-at, length-blocks}
use Rattle.working_rows.specs.Found.{width_of-zero, width_of-nonzero, width_of-within}
use Rattle.working_rows.proofs.entries.width_within.Goals as goal
use Rattle.working_rows.proofs.entries.width_within.Goals.{After-zero_throughout}

-- the test of the lowest block that is left
module _ (c : After-zero_throughout) where
  abbrev numbers : List ℤ
  numbers = c.args.entries.now

  abbrev left : ℕ
  left = c.loop-block.block - 1

  some_left : c.loop-block.block ≡ suc left
  some_left = omega arith

  tested : c.zero_throughout.result ≡ zero_block (get_or (row_of numbers).blocks left [])
  tested =
      let size : left * block_length + block_length - left * block_length ≡ block_length = omega arith in
      c.zero_throughout.ensures ∙ ap (λ n. is_zero_of (take n (drop (left * block_length) numbers))) size
      ∙ sym (zero_block-at numbers left (omega arith))

  down : width (row_of numbers) ≡ width_of (take (suc left) (row_of numbers).blocks)
  down = c.loop-block.invariant ∙ ap (λ b. width_of (take b (row_of numbers).blocks)) some_left

pub loop-block-init : goal.loop-block-init
unfolding width
loop-block-init c = sym (width_of-within (row_of c.args.entries.now).blocks c.args.most c.requires.2)

pub returns-then-not-zero_throughout : goal.returns-then-not-zero_throughout
returns-then-not-zero_throughout c =
    let t = (goal.at.returns-then-not-zero_throughout c).After-zero_throughout in
    let blocks = (row_of (numbers t)).blocks in
    let nonzero = sym (tested t) ∙ c.if-not-zero_throughout.true in
    let inside : left t < length blocks = rw length-blocks (omega arith) in
    add-one (left t) ∙ sym (down t ∙ width_of-nonzero blocks (left t) inside nonzero)

pub loop-block-preserved : goal.loop-block-preserved
loop-block-preserved c =
    let t = (goal.at.loop-block-preserved c).After-zero_throughout in
    down t ∙ width_of-zero (row_of (numbers t)).blocks (left t) (sym (tested t) ∙ c.if-not-zero_throughout.false)

pub returns : goal.returns
unfolding width_of
returns c =
    let none : c.loop-block.block ≡ 0 = omega arith in
    sym (c.loop-block.invariant ∙ ap (λ n. width_of (take n (row_of c.args.entries.now).blocks)) none)
