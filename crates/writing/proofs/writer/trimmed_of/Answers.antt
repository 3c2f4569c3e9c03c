-- `writing::writer::trimmed_of` meets its contract. The loop's invariant: n numbers of the first i are left.
-- Assumes nothing.
use Rattle.std.proofs.Common.{sym, ◌∙◌, ap, add-one, length, take, take_all, rules, arith}
use Rattle.polynomials.specs.Content.{zero_bits, nonzero-bits}
use Rattle.rules.specs.Sheets.{trim}
use Rattle.writing.specs.Writer.{trim-nonzero, trim-more}
use Rattle.writing.proofs.writer.trimmed_of.Goals as goal
use Rattle.writing.proofs.writer.trimmed_of.Goals.{else-a-ne0, then-a-ne0}

pub loop-i-init : goal.loop-i-init
unfolding trim
loop-i-init c = search rules

pub loop-i-preserved : goal.loop-i-preserved
loop-i-preserved c =
    let p = c.args.numbers.now in
    let i = c.loop-i.i in
    let next = ap (λ k. length (trim (take k p))) (sym (add-one i)) in
    elim c.if-a-ne0.branch [
      | then-a-ne0 w ↦ w.n-is ∙ add-one i ∙ sym (trim-nonzero p i (omega arith) (nonzero-bits w.if-a-ne0.true)) ∙ next
      | else-a-ne0 w ↦
          w.n-is ∙ c.loop-i.invariant
          ∙ sym (trim-more p i (omega arith) (zero_bits (search rules) w.if-a-ne0.false))
          ∙ next
    ]

pub returns : goal.returns
returns c = c.loop-i.invariant ∙ ap (λ q. length (trim q)) (take_all c.loop-i.i c.args.numbers.now c.loop-i-test.false)
