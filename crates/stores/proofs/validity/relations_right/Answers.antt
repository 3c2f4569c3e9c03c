-- `stores::validity::relations_right` meets its contract. The loop's invariant: the first k relations pass.
-- Assumes nothing.
use mathlib.Core.Path.{◌≡◌, sym, ◌∙◌, ap}
use mathlib.Core.Bool.{Bool}
use mathlib.Core.List.{List, []}
use Prim.Native.Nat.{◌<◌}
use borrow.Author.Rules.{rules}
use lib.ListN.{length, take, get_or}
use lib.Seq.{take_all}
use Rattle.rules.specs.Rows.{Relation}
use Rattle.lists.specs.Tests.{every, every-longer, every-false}
use Rattle.rules.specs.Stores.{relation_of, relations_of, relation_right_of}
use Rattle.rules.specs.Layout.{length-relations_of}
use Rattle.stores.specs.Validity.{the_sizes_of, relation_test, relation_right-test, relation-at}
use Rattle.stores.proofs.validity.relations_right.Goals as goal
use Rattle.stores.proofs.validity.relations_right.Goals.{After-relation_right, After-span-d, At-loop-k}

-- the check of a relation, by m and D
right : (c : After-span-d)
    → relation_right_of (the_sizes_of c.args.sizes) ≡ relation_test c.args.sizes.m c.span-d.result
unfolding the_sizes_of
right c =
    let sizes = c.args.sizes in
    relation_right-test (the_sizes_of sizes) ∙ ap (relation_test sizes.m) (sym c.span-d.ensures)

-- the test of relation k
module _ (c : After-relation_right) where
  abbrev at : At-loop-k
  at = c.before.before

  abbrev test : Relation → Bool
  test = relation_test at.args.sizes.m at.span-d.result

  abbrev relations : List Relation
  relations = relations_of at.args.count at.args.store.now

  inside : at.loop-k.k < length relations
  inside = rw length-relations_of c.loop-k-test.true

  tested : c.relation_right.result ≡ test (get_or relations at.loop-k.k (relation_of []))
  tested =
      let args = at.args in
      c.relation_right.ensures ∙ ap test (sym (relation-at args.count args.store.now at.loop-k.k c.loop-k-test.true))

pub loop-k-init : goal.loop-k-init
unfolding every
loop-k-init c = search rules

pub returns-then-not-relation_right : goal.returns-then-not-relation_right
returns-then-not-relation_right c =
    let failed = sym (tested c.before) ∙ c.if-not-relation_right.true in
    sym
    (ap (λ t. every t (relations c.before)) (right (at c.before).before)
    ∙ every-false _ _ _ (relation_of []) (inside c.before) failed)

pub loop-k-preserved : goal.loop-k-preserved
loop-k-preserved c =
    let here = sym (tested c.before) ∙ c.if-not-relation_right.false in
    every-longer _ _ _ (relation_of []) (inside c.before) (at c.before).loop-k.invariant here

pub returns : goal.returns
returns c =
    let args = c.args in
    let relations = relations_of args.count args.store.now in
    let all : take c.loop-k.k relations ≡ relations =
    take_all c.loop-k.k relations (rw length-relations_of c.loop-k-test.false) in
    sym (ap (λ t. every t relations) (right c.before.before) ∙ ap (every _) (sym all) ∙ c.loop-k.invariant)
