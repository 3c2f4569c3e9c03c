-- `writing::writer::put_block` meets its contract. The loop's invariant: the terms from column c + 1 on are still to be written.
-- Assumes nothing.
use mathlib.Core.Path.{◌≡◌, refl, ◌∙◌, ap}
use Prim.Native.Nat.{◌+◌, ◌*◌, ◌-◌}
use native.Mathlib.Omega.{arith}
use lib.ListN.{length, take, drop}
use mir.Syntax.{w64}
use mir.Val.{to_z, of_z}
use mir.Facts.{to_z-of_z}
use Rattle.rules.specs.Sheets.{trim, block_terms_of}
use Rattle.rules.specs.Limits.{small, coefficient_count}
use Rattle.lists.specs.Tests.{every-part}
use Rattle.rules.specs.Layout.{block_of}
use Rattle.number_texts.specs.Runs.{going-first, going_next, going-last, put_same}
use Rattle.writing.specs.Writer.{term_at_of, numbers_of, block-next, block-end}
use Rattle.number_texts.specs.Texts.{spaced}
use borrow.Author.Rules.{rules}
use Rattle.writing.proofs.writer.put_block.Goals as goal

pub loop-c-init : goal.loop-c-init
loop-c-init c = going-first refl

pub put_term-next-requires : goal.put_term-next-requires
put_term-next-requires c =
    let k = c.loop-c.c in
    let width : coefficient_count ≡ k * coefficient_count + coefficient_count - k * coefficient_count = omega arith in
    let size = ap (λ n. length (trim (take n (drop (k * coefficient_count) c.args.numbers.now)))) width in (
      search rules,
      c.requires.2 k c.loop-c-test.true ∙ size,
      search rules,
      every-part small (k * coefficient_count) (k * coefficient_count + coefficient_count - k * coefficient_count)
          c.args.numbers.now c.requires.4,
      rw (to_z-of_z {w = w64} c.ranges.block) c.requires.5,
    )

pub loop-c-preserved : goal.loop-c-preserved
loop-c-preserved c =
    let numbers = c.args.numbers.now in
    let k = c.loop-c.c in
    let s = to_z w64 (of_z w64 c.args.block) in
    let width : k * coefficient_count + coefficient_count - k * coefficient_count ≡ coefficient_count = omega arith in
    going_next c.loop-c.invariant (block-next s numbers k c.loop-c-test.true)
    (put_same c.put_term-next.ensures
    (ap (λ n. spaced (term_at_of s (k + 1) (take n (drop (k * coefficient_count) numbers)))) width))
    (omega arith)

pub returns : goal.returns
returns c =
    let args = c.args in
    let block = to_z w64 (of_z w64 args.block) in
    let none = block-end block args.numbers.now c.loop-c.c c.loop-c-test.false in
    put_same (going-last c.loop-c.invariant none (omega arith))
    (ap (λ s. spaced (numbers_of (block_terms_of s 1 (block_of args.numbers.now))))
    (to_z-of_z {w = w64} c.ranges.block))
