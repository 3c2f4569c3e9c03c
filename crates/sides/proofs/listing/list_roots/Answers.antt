-- `sides::listing::list_roots` meets its contract. The loop's invariant: the relations of the first k roots are listed.
-- Assumes nothing.
use mathlib.Core.Path.{◌≡◌, ◌∙◌, ap}
use mathlib.Core.List.{List, ◌∷◌}
use Prim.Native.Nat.{◌+◌, ◌*◌, ◌≤◌}
use native.Mathlib.Omega.{arith}
use lib.IntN.{ℤ}
use lib.ListN.{length}
use lib.Seq.{paste, take_all}
use Rattle.rules.specs.Limits.{relation_length, small}
use Rattle.rules.specs.Elimination.{listing}
use Rattle.polynomials.specs.Content.{read_back}
use Rattle.multiplicities.specs.Counts.{roots_held}
use Rattle.sides.specs.Lent.{side_of}
use Rattle.sides.specs.Relations.{relisted-none, relisted-more, length-held, length-listing, every-listing}
use Rattle.sides.proofs.listing.list_roots.Goals as goal
use Rattle.sides.proofs.listing.list_roots.Goals.{At-loop-k}

-- the roots in the order of the side
module _ (c : At-loop-k) where
  abbrev listed : List ℤ
  listed = listing (side_of c.args.side) (roots_held c.args.found)

  size : length listed ≡ c.args.found.count
  size =
      length-listing (side_of c.args.side) (roots_held c.args.found) ∙ length-held c.args.found c.requires.listing.2 (omega arith)

pub loop-k-init : goal.loop-k-init
loop-k-init c = (omega arith, relisted-none c.args.count c.args.row.now c.args.relations.now c.requires.listing.0)

pub overflow_add-count : goal.overflow_add-count
overflow_add-count c = omega arith

pub root_at-requires : goal.root_at-requires
root_at-requires c = omega arith

pub save_relation-requires : goal.save_relation-requires
save_relation-requires c =
    (omega (arith, c.loop-k.invariant.1.listing.within.long), c.requires.t.2)

pub loop-k-preserved : goal.loop-k-preserved
loop-k-preserved c =
    let at = (goal.at.loop-k-preserved c).At-loop-k in
    let args = at.args in
    let k = at.loop-k.k in
    let root = c.root_at in
    let value = read_back root.result root.type_inv ∙ root.ensures in
    let stored =
    c.save_relation.ensures
    ∙ ap (λ z. paste at.loop-k.relations ((args.count + k) * relation_length) (z ∷ args.row.now) relation_length) value in
    let small-listed = every-listing (side_of args.side) small (roots_held args.found) at.requires.t.0 in
    let more = relisted-more args.count k args.row.now (listed at) args.relations.now at.loop-k.relations
    at.loop-k.invariant.1
    (rw (size at) (omega arith)) (omega arith) at.requires.t.2 at.requires.t.1 small-listed in
    (omega arith, rw stored more)

pub shape_of-relations : goal.shape_of-relations
shape_of-relations c = c.loop-k.invariant.1.kept.same_length

pub returns : goal.returns
returns c =
    let at = (goal.at.returns c).At-loop-k in
    let short : length (listed at) ≤ at.loop-k.k = rw (size at) (omega arith) in
    rw (take_all at.loop-k.k (listed at) short) at at.loop-k.invariant.1
