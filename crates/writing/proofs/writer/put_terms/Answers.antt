-- `writing::writer::put_terms` meets its contract. The loop's invariant: the terms from block l - b down are still to be written.
-- Assumes nothing.
use mathlib.Core.Path.{◌≡◌, sym, ◌∙◌, ap, ap₂}
use mathlib.Core.List.{List}
use Prim.Native.Nat.{ℕ, ◌+◌, ◌*◌, ◌-◌, ◌≤◌}
use native.Mathlib.Omega.{arith}
use lib.Dec.{lit<}
use lib.IntN.{ℤ, pos, nat_abs, ◌-ℤ◌, +ℤ_idr}
use lib.ListN.{length, take, drop, get_or}
use mir.Syntax.{w64}
use mir.Val.{SFits, to_z, of_z}
use mir.Facts.{to_z-of_z}
use Rattle.integers.specs.Ranges.{sfits-size}
use Rattle.rules.specs.Limits.{column_count, block_count, block_length, block_bound}
use Rattle.rules.specs.Limits as Limits
use Rattle.lists.specs.Tests.{every-part}
use Rattle.rules.specs.Sheets.{trim, block_terms_of, terms_from}
use Rattle.rules.specs.Stores.{row_of}
use Rattle.rules.specs.Layout.{block_of, coefficients_at_of}
use Rattle.number_texts.specs.Runs.{going-first, going_next, going-last, put_same}
use Rattle.writing.specs.Writer.{numbers_of, block_size, lengths-part, terms-next, terms-end}
use Rattle.number_texts.specs.Texts.{spaced}
use borrow.Author.Rules.{rules}
use Rattle.writing.proofs.writer.put_terms.Goals as goal
use Rattle.writing.proofs.writer.put_terms.Goals.{In-loop-b, Start}

-- the block that is written
module _ (c : In-loop-b) where
  abbrev start : Start
  start = (goal.at.In-loop-b c).Start

  abbrev b : ℕ
  b = c.loop-b.b

  abbrev l : ℤ
  l = start.args.shape.l

  count : to_z w64 b ≡ pos b
  count = to_z-of_z {z = pos b} (sfits-size (pos b) {k = block_count} (omega arith) (lit< tt))

  small : nat_abs l ≤ block_bound
  small = start.args.shape.low

  row-width : b * block_length + block_length - b * block_length ≡ block_length
  row-width = omega arith

  lengths-width : b * column_count + column_count - b * column_count ≡ column_count
  lengths-width = omega arith

  back : to_z w64 (of_z w64 l) ≡ l
  back = to_z-of_z {w = w64} (sfits-size l small (lit< tt))

  fits : SFits w64 (l -ℤ pos b)
  fits = sfits-size (l -ℤ pos b) {k = 68} (block_size l b small (omega arith)) (lit< tt)

  read : to_z w64 (of_z w64 (to_z w64 (of_z w64 l) -ℤ to_z w64 b)) ≡ l -ℤ pos b
  read = ap₂ (λ r s. to_z w64 (of_z w64 (r -ℤ s))) back count ∙ to_z-of_z {w = w64} fits

pub loop-b-init : goal.loop-b-init
loop-b-init c =
    let row = c.args.row.now in
    going-first (ap (λ s. spaced (numbers_of (terms_from s (row_of row).blocks))) (sym (+ℤ_idr _)))

pub overflow_sub-shape : goal.overflow_sub-shape
overflow_sub-shape c = let turn = (goal.at.overflow_sub-shape c).In-loop-b in rw (back turn, count turn) (fits turn)

pub put_block-next-requires : goal.put_block-next-requires
put_block-next-requires c =
    let turn = (goal.at.put_block-next-requires c).In-loop-b in
    let k = b turn in
    let row = c.args.row.now in
    let lengths = c.args.lengths.now in (
      search rules,
      search rules,
      λ i lt.
          ap (λ n. get_or (take n (drop (k * column_count) lengths)) i 0) (lengths-width turn)
          ∙ lengths-part row lengths c.args.shape.blocks k c.loop-b-test.true c.requires.2 i lt
          ∙ ap (λ n. length (trim (coefficients_at_of (take n (drop (k * block_length) row)) i))) (sym (row-width turn)),
      search rules,
      every-part Limits.small (k * block_length) (k * block_length + block_length - k * block_length) row c.requires.4,
      rw (read turn) (block_size (l turn) k (small turn) (omega (arith, c.args.shape.few))),
    )

pub loop-b-preserved : goal.loop-b-preserved
loop-b-preserved c =
    let turn = (goal.at.loop-b-preserved c).In-loop-b in
    let row = c.args.row.now in
    let written : ℤ → ℕ → List ℕ =
    λ s n. spaced (numbers_of (block_terms_of s 1 (block_of (take n (drop (b turn * block_length) row))))) in
    going_next c.loop-b.invariant (terms-next (l turn) row (b turn) (omega (arith, c.args.shape.few)))
    (put_same c.put_block-next.ensures (ap₂ written (read turn) (row-width turn)))
    (omega arith)

pub returns : goal.returns
returns c =
    let args = c.args in
    going-last c.loop-b.invariant (terms-end _ args.row.now args.shape.blocks c.loop-b.b (omega arith) c.requires.5) (omega arith)
