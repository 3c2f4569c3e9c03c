-- `writing::writer::trimmed` meets its contract. Zeros at the end change nothing.
-- Assumes nothing.
use mathlib.Core.Path.{sym, ◌∙◌, ap}
use Prim.Native.Nat.{◌-◌}
use native.Mathlib.Omega.{arith}
use lib.ListN.{length, drop, length-drop}
use lib.Seq.{take_all}
use Rattle.lists.specs.Tests.{true-T}
use Rattle.algebra.specs.Polynomials.{is_zero_of}
use Rattle.rules.specs.Limits.{coefficient_count}
use Rattle.rules.specs.Sheets.{trim}
use Rattle.writing.specs.Writer.{trim-front}
use Rattle.writing.proofs.writer.trimmed.Goals as goal

pub returns-then-all_zero : goal.returns-then-all_zero
returns-then-all_zero c =
    let p = c.args.p.now in
    let rest = take_all (length p - 4) (drop 4 p) (omega (arith, length-drop 4 p)) in
    let zero = ap is_zero_of (sym rest) ∙ sym c.all_zero.ensures ∙ c.if-all_zero.true in
    c.trimmed_of.ensures ∙ trim-front p 4 (true-T (is_zero_of (drop 4 p)) zero)

pub returns : goal.returns
returns c =
    let p = c.args.p.now in
    c.trimmed_of-2.ensures ∙ ap (λ q. length (trim q)) (take_all coefficient_count p (omega arith))
