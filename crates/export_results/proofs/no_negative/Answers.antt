-- `export_results::no_negative` meets its contract.
use Rattle.std.specs.Prelude.{◌↔◌, IsTrue, EachIndex, T, get_or, pos}
use Rattle.std.proofs.Common.{rules}
use Rattle.lists.specs.Tests.{every-each}
use Rattle.std.specs.Int.Signed.{non_neg}
use Rattle.export_results.proofs.no_negative.Goals as goal

pub returns : goal.returns
returns c =
    let numbers = c.args.numbers.now in
    let each : IsTrue c.all.result ↔ EachIndex numbers (λ k. T (non_neg (get_or numbers k (pos 0)))) = search rules in
    every-each non_neg numbers (pos 0) c.all.result each
