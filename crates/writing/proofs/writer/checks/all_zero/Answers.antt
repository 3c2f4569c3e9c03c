-- `writing::writer::checks::all_zero` meets its contract.
-- Assumes nothing.
use Rattle.std.proofs.Common.{◌≡◌, sym, ◌↔◌, IsTrue, EachIndex, get_or, rules}
use Rattle.std.proofs.Math.Dec.{eqb}
use Rattle.std.proofs.Math.Facts.{eqb_yes, yes_eqb}
use Rattle.lists.specs.Tests.{every-each}
use Rattle.writing.proofs.writer.checks.all_zero.Goals as goal

pub returns : goal.returns
returns c =
    let numbers = c.args.numbers.now in
    let each : IsTrue c.all.result ↔ EachIndex numbers (λ k. get_or numbers k 0 ≡ 0) = search rules in
    every-each (eqb 0) numbers 0 c.all.result
    (λ t i h. yes_eqb (sym (each.0 t i h)), λ g. each.1 (λ i h. sym (eqb_yes (g i h))))
