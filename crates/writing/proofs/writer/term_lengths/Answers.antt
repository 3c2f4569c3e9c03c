-- `writing::writer::term_lengths` meets its contract. The loop's invariant: the polynomials from i on are still to be counted,
-- and the lengths of those before it stand.
-- Assumes nothing.
use mathlib.Core.Path.{◌≡◌, ◌∙◌, ap}
use Prim.Native.Nat.{◌*◌, ◌<◌}
use native.Mathlib.Nat.{not-suc-le-zero}
use native.Mathlib.Omega.{arith}
use lib.ListN.{drop, length-set}
use Rattle.rules.specs.Limits.{column_count, polynomial_count}
use Rattle.writing.specs.Writer.{nonzero_count, lengths-next, count_none, count-some}
use Rattle.rules.specs.Layout.{polynomials_in}
use Rattle.writing.proofs.writer.term_lengths.Goals as goal
use Rattle.writing.proofs.writer.term_lengths.Goals.{else-n-ne0, then-n-ne0}

pub loop-i-init : goal.loop-i-init
loop-i-init c = (omega arith, omega arith, omega arith, λ k lt. absurd (not-suc-le-zero lt))

pub term_length-n-requires : goal.term_length-n-requires
term_length-n-requires c =
    let i = c.loop-i.i in
    let low : i < polynomial_count = omega arith in
    (c.requires.1, low, c.requires.2.columns i low)

pub loop-i-preserved : goal.loop-i-preserved
loop-i-preserved c =
    let loop = c.loop-i in
    let row = c.args.row.now in
    let i = loop.i in
    let n = c.term_length-n.result in
    let inside : i < polynomial_count = omega arith in
    let long = length-set loop.lengths i n in
    let more = lengths-next row loop.lengths i n loop.invariant.3 (omega arith) c.term_length-n.ensures in
    elim c.if-n-ne0.branch [
      | then-n-ne0 w ↦
          let one = count-some row i n inside c.term_length-n.ensures w.if-n-ne0.true in
          (omega arith, omega arith, omega arith, more)
      | else-n-ne0 w ↦
          let none = count_none row i n inside c.term_length-n.ensures w.if-n-ne0.false in
          (omega arith, omega arith, omega arith, more)
    ]

pub returns : goal.returns
returns c =
    let loop = c.loop-i in
    let whole : loop.i ≡ c.args.shape.blocks * column_count = omega arith in
    let none = ap (λ k. nonzero_count (drop k (polynomials_in c.args.row.now))) whole ∙ c.requires.2.rest in
    (omega (arith, none), λ k lt. loop.invariant.3 k (omega arith))
