-- `sides::mirror::mirror_relations` meets its contract. The loop's invariant: the relations from `from` on and before k are
-- mirrored.
-- Assumes nothing.
use Prim.Native.Nat.{ℕ, ◌+◌, ◌*◌, ◌≤◌}
use native.Mathlib.Omega.{arith}
use mathlib.Core.Path.{◌≡◌, ◌∙◌, ap}
use mathlib.Core.List.{List, ◌∷◌}
use borrow.Author.Rules.{sfits_of}
use lib.Dec.{T}
use lib.IntN.{ℤ, pos, neg_ℤ}
use lib.ListN.{length, take, drop, get_or, set, length-set}
use lib.Seq.{paste, drop-set-lt}
use mir.Syntax.{w64}
use mir.Val.{SFits, to_z, of_z}
use mir.Facts.{to_z-of_z}
use Rattle.lists.specs.Pasted.{paste-cons}
use Rattle.rules.specs.Limits.{row_length, relation_length, small}
use Rattle.lists.specs.Tests.{every}
use Rattle.sides.specs.MirrorLaws.{mirror_numbers, mirror_relation_numbers, changed-none, changed-next}
use Rattle.sides.specs.StoreStates.{part_small}
use Rattle.sides.specs.MirrorLaws.{relation-stays, used-within, index-small, row_small}
use Rattle.sides.specs.MirrorLaws.{mirror-relation, relations-mirrored}
use Rattle.sides.proofs.mirror.mirror_relations.Goals as goal
use Rattle.sides.proofs.mirror.mirror_relations.Goals.{After-negated, In-loop-k}

-- relation k of the store
module _ (c : In-loop-k) where
  abbrev k : ℕ
  k = c.loop-k.k

  abbrev store : List ℤ
  store = c.loop-k.store

  long : k * relation_length + relation_length ≤ length store
  long = omega (arith, c.loop-k.invariant.1.1.within.long)

  numbers : T (every small (take relation_length (drop (k * relation_length) store)))
  numbers =
      part_small relation_length c.args.count k store c.loop-k-test.true c.loop-k.invariant.1.1.within

-- this relation with its n0 negated
module _ (d : After-negated) where
  abbrev here : In-loop-k
  here = (goal.at.After-negated d).In-loop-k

  abbrev place : ℕ
  place = k here * relation_length

  abbrev index : ℤ
  index = to_z w64 (of_z w64 d.negated.result)

  abbrev begun : List ℤ
  begun = set (store here) place index

  index_is : index ≡ neg_ℤ (get_or (store here) place (pos 0))
  index_is =
      let read : SFits w64 (get_or (store here) place (pos 0)) = sfits_of d.negated-arg-1.given in
      to_z-of_z {w = w64} (sfits_of d.negated.type_inv) ∙ d.negated.ensures ∙ ap neg_ℤ (to_z-of_z {w = w64} read)

  room : place + 1 + row_length ≤ length begun
  room = simp length-set (omega (arith, long here))

  -- the numbers behind n0 are as they were
  behind : drop (place + 1) begun ≡ drop (place + 1) (store here)
  behind = drop-set-lt (place + 1) (store here) place index (omega arith)

pub loop-k-init : goal.loop-k-init
loop-k-init c =
    let a = c.args in
    let used = used-within a.count a.store.now c.requires.2 in
    (omega arith, (omega arith, changed-none relation_length a.count a.from (mirror_relation_numbers a.span) a.store.now used))

pub overflow_mul-at : goal.overflow_mul-at
overflow_mul-at c = omega (arith, long c)

pub offset_bounds-store-at : goal.offset_bounds-store-at
offset_bounds-store-at c = omega (arith, long c)

pub slice_copy_out-negated : goal.slice_copy_out-negated
slice_copy_out-negated c = omega (arith, long c)

pub negated-requires : goal.negated-requires
negated-requires c =
    let at = (goal.at.negated-requires c).In-loop-k in
    let read : SFits w64 (get_or (store at) (k at * relation_length) (pos 0)) = sfits_of c.negated-arg-1.given in
    rw (to_z-of_z {w = w64} read) (omega (arith, index-small (store at) (k at * relation_length) (numbers at)))

pub offset_bounds-store-at-in-loop-k : goal.offset_bounds-store-at-in-loop-k
offset_bounds-store-at-in-loop-k c = omega (arith, long (here c))

pub bounds-store-at : goal.bounds-store-at
bounds-store-at c = omega (arith, long (here c))

pub overflow_add-row : goal.overflow_add-row
overflow_add-row c = omega (arith, long (here c))

pub mirror_row-requires : goal.mirror_row-requires
mirror_row-requires c =
    let d = (goal.at.mirror_row-requires c).After-negated in
    ((here d).requires.0, room d, rw (behind d) (row_small (store (here d)) (place d) (numbers (here d))))

pub loop-k-preserved : goal.loop-k-preserved
loop-k-preserved c =
    let d = (goal.at.loop-k-preserved c).After-negated in
    let at = here d in
    let next = changed-next relation_length at.args.count at.args.from (mirror_relation_numbers at.args.span)
    (relation-stays at.args.span at.requires.0)
    at.args.store.now (store at) (k at) at.loop-k.invariant.0 at.loop-k-test.true at.loop-k.invariant.1.1 in
    let mirrored = mirror_numbers at.args.span (take row_length (drop (place d + 1) (store at))) in
    let stored = c.mirror_row.ensures
    ∙ ap (λ l. paste (begun d) (place d + 1) (mirror_numbers at.args.span (take row_length l)) row_length) (behind d)
    ∙ paste-cons (store at) (place d) (index d) mirrored row_length (omega (arith, long at))
    ∙ ap (λ p. paste (store at) (place d) p relation_length)
    (ap (λ n. n ∷ mirrored) (index_is d) ∙ mirror-relation (store at) (place d) at.args.span) in
    (omega arith, (omega arith, rw stored next))

pub shape_of-store : goal.shape_of-store
shape_of-store c = c.loop-k.invariant.1.1.kept.same_length

pub returns : goal.returns
returns c =
    relations-mirrored c.args.from c.args.count c.args.span c.loop-k.k c.args.store.now c.loop-k.store
    c.requires.0 c.requires.2 c.loop-k-test.false c.loop-k.invariant.1.1
