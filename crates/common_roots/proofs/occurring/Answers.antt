-- `common_roots::occurring` meets its contract. The invariant: the array holds those of the first numbers that occur.
-- Assumes nothing.
use mathlib.Core.Path.{◌≡◌, refl, ◌∙◌, ap, subst}
use mathlib.Core.List.{List}
use Prim.Native.Nat.{ℕ, ◌+◌, ◌≤◌, ◌<◌}
use native.Mathlib.Omega.{arith}
use lib.IntN.{ℤ, pos}
use lib.ListN.{length, get_or, set, take}
use lib.Seq.{take_all}
use Rattle.std.proofs.lemmas.List.{length-map}
use Rattle.lists.specs.Images.{get_or_map}
use Rattle.lists.specs.Sifted.{keep}
use Rattle.multiplicities.specs.declared.Root.{Root}
use Rattle.multiplicities.specs.declared.RootsWith.{RootsWith}
use Rattle.multiplicities.specs.Counts.{listed_with, held_with, pair_of, root_of, no_root}
use Rattle.common_roots.specs.Kept.{occurs, few-kept, kept-yes, kept-no}
use Rattle.common_roots.proofs.occurring.Goals as goal
use Rattle.common_roots.proofs.occurring.Goals.{At-loop-root, else-root-gt0, then-root-gt0}

-- What is handed in, and how many were looked at.
module _ (c : At-loop-root) where
  abbrev l : List (ℤ × ℕ)
  l = held_with c.args.all

  abbrev items : List Root
  items = take c.args.all.count c.args.all.roots

  abbrev i : ℕ
  i = c.loop-root.root-index

  size : length l ≡ length items
  size = length-map items pair_of

  few : length l ≤ 16
  few = c.requires.1

  module _ (h : i < length items) where
    inside : i < length l
    inside = omega (arith, size)

    below : i < 16
    below = omega (arith, size, few)

    pair-is : get_or l i (pos 0, 0) ≡ pair_of (get_or items i no_root)
    pair-is = get_or_map pair_of items i no_root (pos 0, 0) h

    room : c.loop-root.kept.count < 16
    room = omega (arith, ap (λ w. w.count) c.loop-root.invariant, few-kept l i inside, below)

pub loop-root-init : goal.loop-root-init
unfolding keep
loop-root-init c = refl

pub offset_bounds-kept-kept : goal.offset_bounds-kept-kept
offset_bounds-kept-kept c = let h = room (goal.at.offset_bounds-kept-kept c).At-loop-root c.loop-root-test.true in omega arith

pub overflow_add-kept : goal.overflow_add-kept
overflow_add-kept c = let h = room (goal.at.overflow_add-kept c).At-loop-root c.loop-root-test.true in omega arith

pub bounds-kept-kept : goal.bounds-kept-kept
bounds-kept-kept c = room (goal.at.bounds-kept-kept c).At-loop-root c.loop-root-test.true

pub loop-root-preserved : goal.loop-root-preserved
loop-root-preserved c =
    let at = (goal.at.loop-root-preserved c).At-loop-root in
    let h = c.loop-root-test.true in
    let is = pair-is at h in
    elim c.if-root-gt0.branch [
      | then-root-gt0 w ↦ rw w.kept-is (subst (λ x. ◌≡◌ {A = RootsWith}
          (record { count = c.loop-root.kept.count + 1; roots = set c.loop-root.kept.roots c.loop-root.kept.count (root_of x) })
          (listed_with (keep occurs (take (i at + 1) (l at))))) is
          (kept-yes (l at) (i at) (inside at h) (below at h) c.loop-root.invariant (rw is w.if-root-gt0.true)))
      | else-root-gt0 w ↦ rw w.kept-is (kept-no (l at) (i at) (inside at h) c.loop-root.invariant (omega (arith, ap (λ x. x.1) is, w.if-root-gt0.false)))
    ]

pub returns : goal.returns
returns c =
    let at = (goal.at.returns c).At-loop-root in
    c.loop-root.invariant ∙ ap (λ m. listed_with (keep occurs m)) (take_all (i at) (l at) (omega (arith, size at, c.loop-root-test.false)))
