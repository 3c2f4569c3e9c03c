-- `roots::largest_root` meets its contract: the largest root is the last.
-- Assumes nothing.
use mathlib.Core.Path.{◌∙◌, ap}
use Prim.Native.Nat.{◌-◌}
use lib.ListN.{length}
use Rattle.std.specs.Prelude.{slice_get}
use Rattle.algebra.specs.Roots.{roots}
use Rattle.roots.specs.RootSearch.{held_of, roots-ascend, answered-last}
use Rattle.roots.proofs.largest_root.Goals as goal

pub returns : goal.returns
returns c =
    let l = roots c.args.p.now in
    let all = c.as_slice.ensures ∙ held_of l c.roots.ensures in
    c.copied.ensures ∙ c.last.ensures.value ∙ ap (λ k. slice_get k (length k - 1)) all ∙ answered-last l (roots-ascend c.args.p.now)
