-- `multiplicities::RootsWith::numbers` meets its contract. The invariant: the first i numbers are in the array, and zeros stand behind.
-- Assumes nothing.
use mathlib.Core.Path.{◌≡◌, ◌∙◌, ap}
use mathlib.Core.List.{List}
use Rattle.std.proofs.Common.{rules}
use native.Mathlib.Omega.{arith}
use lib.IntN.{pos}
use lib.Seq.{length-take-le}
use lib.ListN.{length, get_or, set, take}
use mir.Syntax.{w64}
use mir.Val.{SFits}
use mir.Facts.{to_z-of_z}
use Rattle.multiplicities.specs.declared.Root.{Root}
use Rattle.multiplicities.specs.Counts.{no_root, placed-next, values-all}
use Rattle.multiplicities.proofs.RootsWith.numbers.Goals as goal

pub loop-i-preserved : goal.loop-i-preserved
loop-i-preserved c =
    let w = c.args.self.now in
    let i = c.loop-i.i in
    let long : length w.roots ≡ 16 = search rules in
    let all : List Root = take w.count w.roots in
    let fits : SFits w64 (get_or all i no_root).value = search rules in
    simp (to_z-of_z fits)
    (ap (λ l. set l i (get_or all i no_root).value) c.loop-i.invariant
    ∙ placed-next (λ r. r.value) no_root (pos 0) all i c.loop-i-test.true (omega (arith, length-take-le w.count w.roots (omega arith))))

pub returns : goal.returns
returns c =
    let w = c.args.self.now in
    let long : length w.roots ≡ 16 = search rules in
    ap (λ l. record { count = w.count; values = l }) c.loop-i.invariant
    ∙ values-all w c.loop-i.i (omega (arith, c.loop-i-test.false, length-take-le w.count w.roots (omega arith))) (omega arith)
