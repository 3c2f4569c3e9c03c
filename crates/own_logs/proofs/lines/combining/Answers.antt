-- `own_logs::lines::combining` meets its contract.
-- Assumes nothing.
use mathlib.Core.Path.{◌∙◌, ap, ap₂}
use Prim.Native.Nat.{◌+◌}
use native.Mathlib.Omega.{arith}
use lib.IntN.{pos}
use lib.ListN.{length, set, length-set}
use lib.Seq.{paste}
use Rattle.rules.specs.Calls.{zeros}
use Rattle.rules.specs.Limits.{coefficient_count}
use Rattle.own_logs.specs.LineLaws.{number_is, combining-pasted}
use Rattle.own_logs.proofs.lines.combining.Goals as goal

pub save-requires : goal.save-requires
unfolding zeros
save-requires c =
    simp length-set (omega (arith, c.requires.g_len.0, ap length c.plain-numbers.ensures))

pub returns : goal.returns
unfolding zeros
returns c =
    let args = c.args in
    let g = args.g.now in
    let h = args.h.now in
    c.save-2.ensures
    ∙ ap (λ l. paste l (4 + coefficient_count) h (length h))
    (c.save.ensures
    ∙ ap (λ l. paste l 4 g (length g)) (ap₂ (λ l v. set l 3 v) c.plain-numbers.ensures (number_is args.divisor c.requires.i_bound.2)))
    ∙ combining-pasted (pos 2) (pos args.i) (pos args.j) (pos args.divisor) g h c.requires.g_len.0 c.requires.g_len.1
