-- `working_rows::entries::first_column` meets its contract. The loop's invariant: the first i numbers are zero.
-- Assumes nothing.
use mathlib.Core.Path.{◌≡◌, sym, ap}
use Prim.Native.Nat.{◌<◌}
use native.Mathlib.Omega.{arith}
use borrow.Author.Rules.{rules}
use mir.Syntax.{w64}
use mir.Val.{SFits}
use lib.IntN.{pos}
use lib.ListN.{length, get_or}
use Rattle.algebra.specs.Polynomials.{is_zero_of}
use Rattle.rules.specs.Limits.{column_count}
use Rattle.polynomials.specs.Content.{zero_bits, nonzero-bits}
use Rattle.working_rows.specs.Found.{found_or, is_zero-longer, column-none, column-some}
use Rattle.working_rows.proofs.entries.first_column.Goals as goal

pub loop-i-init : goal.loop-i-init
unfolding is_zero_of
loop-i-init c = search rules

pub loop-i-preserved : goal.loop-i-preserved
loop-i-preserved c =
    let row = c.args.entries.now in
    let i = c.loop-i.i in
    let read : SFits w64 (get_or row i (pos 0)) = search rules in
    let zero : get_or row i (pos 0) ≡ pos 0 = zero_bits read c.if-entries-i-ne0.false in
    let inside : i < length row = omega arith in
    (omega arith, is_zero-longer row i inside c.loop-i.invariant.1 zero)

pub returns-then-i-eq-BLOCK : goal.returns-then-i-eq-BLOCK
unfolding found_or
returns-then-i-eq-BLOCK c = sym (ap (found_or column_count) (column-none c.args.entries.now (rw c.if-i-eq-BLOCK.true at
    c.loop-i.invariant.1)))

pub returns-then-entries-i-ne0 : goal.returns-then-entries-i-ne0
unfolding found_or
returns-then-entries-i-ne0 c =
    let row = c.args.entries.now in
    let i = c.loop-i.i in
    sym (ap (found_or column_count)
    (column-some row i (omega arith) c.loop-i.invariant.1 (nonzero-bits c.if-entries-i-ne0.true)))
