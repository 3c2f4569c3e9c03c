-- `sides::listing::save_relation` meets its contract: n0 and then the row are n0 followed by the row's numbers.
-- Assumes nothing.
use mathlib.Core.Path.{◌∙◌, ap₂}
use Prim.Native.Nat.{◌*◌, ◌+◌}
use native.Mathlib.Omega.{arith}
use lib.ListN.{length-set, set}
use lib.Seq.{paste}
use mir.Facts.{to_z-of_z}
use Rattle.rules.specs.Limits.{row_length, relation_length}
use Rattle.lists.specs.Pasted.{paste-cons}
use Rattle.sides.proofs.listing.save_relation.Goals as goal

pub save-requires : goal.save-requires
save-requires c = simp length-set (omega arith)

pub shape_of-relations : goal.shape_of-relations
shape_of-relations c = c.save.auto.store ∙ simp length-set

pub returns : goal.returns
returns c =
    let args = c.args in
    let at = args.k * relation_length in
    let row = args.row.now in
    c.save.ensures
    ∙ ap₂ (λ z n. paste (set args.relations.now at z) (at + 1) row n) (to_z-of_z c.ranges.n0) c.requires.1
    ∙ paste-cons args.relations.now at args.n0 row row_length (omega arith)
