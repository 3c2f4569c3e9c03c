-- `records::checks::values_right` meets its contract.
use Rattle.std.specs.Prelude.{◌↔◌, IsTrue, EachIndex, T, leb, nat_abs, get_or, pos}
use Rattle.std.proofs.Common.{rules}
use Rattle.lists.specs.Tests.{every-each}
use Rattle.records.specs.Records.{values_right_of, value_bound}
use Rattle.records.proofs.checks.values_right.Goals as goal

pub returns : goal.returns
unfolding values_right_of
returns c =
    let values = c.args.values.now in
    let each : IsTrue c.all.result ↔ EachIndex values (λ k. T (leb (nat_abs (get_or values k (pos 0))) value_bound)) = search rules in
    every-each (λ v. leb (nat_abs v) value_bound) values (pos 0) c.all.result each
