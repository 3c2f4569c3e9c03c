-- `stores::checks::row_right` meets its contract. The loop's invariant: the polynomials at the places before `place` pass.
-- Assumes nothing.
use mathlib.Core.Path.{◌≡◌, sym, ◌∙◌, ap}
use Prim.Native.Nat.{◌-◌}
use native.Mathlib.Omega.{arith}
use lib.ListN.{length, take, drop}
use Rattle.lists.specs.Tests.{every}
use Rattle.rules.specs.Limits.{coefficient_count, entries_length, small}
use Rattle.stores.specs.Checks.{row-true, row-false}
use Rattle.stores.proofs.checks.row_right.Goals as goal

pub returns-then-not-place_right : goal.returns-then-not-place_right
returns-then-not-place_right c =
    let args = c.args in
    let failed = sym c.place_right.ensures ∙ c.if-not-place_right.true in
    sym (row-false args.m args.span args.row.now c.loop-place.place c.loop-place-test.true failed)

pub returns : goal.returns
returns c =
    let args = c.args in
    let row = args.row.now in
    let size : length row - entries_length ≡ coefficient_count = omega arith in
    c.all_small.ensures ∙ ap (λ n. every small (take n (drop entries_length row))) size
    ∙ row-true args.m args.span row (λ q h. c.loop-place.invariant q (omega arith))
