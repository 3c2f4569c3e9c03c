-- `roots::smallest_root` meets its contract: the smallest root is the first.
-- Assumes nothing.
use mathlib.Core.Path.{◌∙◌, ap}
use Rattle.std.specs.Prelude.{slice_get}
use Rattle.algebra.specs.Roots.{roots}
use Rattle.roots.specs.RootSearch.{held_of, roots-ascend, answered-first}
use Rattle.roots.proofs.smallest_root.Goals as goal

pub returns : goal.returns
returns c =
    let l = roots c.args.p.now in
    let all = c.as_slice.ensures ∙ held_of l c.roots.ensures in
    c.copied.ensures ∙ c.first.ensures.value ∙ ap (λ k. slice_get k 0) all ∙ answered-first l (roots-ascend c.args.p.now)
