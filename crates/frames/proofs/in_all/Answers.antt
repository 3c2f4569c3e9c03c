-- `frames::in_all` meets its contract. The loop's invariant: the sum is that of the counts passed, and at most 1,000.
-- Assumes nothing.
use Prim.Native.Nat.{suc}
use mathlib.Core.Path.{◌≡◌, refl, ap}
use native.Mathlib.Numerals.{add-one}
use native.Mathlib.Omega.{arith}
use lib.ListN.{length}
use lib.Seq.{take_all}
use Rattle.lists.specs.Totals.{total, total-next, total-front}
use Rattle.rules.specs.Batch.{client_count}
use borrow.Author.Rules.{rules}
use Rattle.frames.proofs.in_all.Goals as goal

pub loop-count-init : goal.loop-count-init
unfolding total
loop-count-init c =
    (omega arith, refl)

pub returns-then-sum-count : goal.returns-then-sum-count
returns-then-sum-count c =
    let counts = c.args.counts in
    let i = c.loop-count.count-index in
    let size : length counts ≡ client_count = search rules in
    omega (arith, total-next counts i (omega arith), total-front counts (suc i), c.if-sum-count.true)

pub loop-count-preserved : goal.loop-count-preserved
loop-count-preserved c =
    let counts = c.args.counts in
    let i = c.loop-count.count-index in
    let size : length counts ≡ client_count = search rules in
    (omega arith, rw add-one (omega (arith, total-next counts i (omega arith))))

pub returns : goal.returns
returns c =
    let counts = c.args.counts in
    let i = c.loop-count.count-index in
    let size : length counts ≡ client_count = search rules in
    omega (arith, ap total (take_all i counts (omega arith)))
