-- `roots::is_root` meets its contract. Past C only the zero polynomial vanishes.
-- Assumes nothing.
use mathlib.Core.Path.{◌≡◌, sym, ◌∙◌, ap}
use Prim.Native.Nat.{◌<◌}
use native.Mathlib.Omega.{arith}
use lib.ListN.{length}
use Rattle.std.proofs.lemmas.Grind.{common_steps}
use borrow.Author.Tests.{leb-true, leb-false}
use lib.Dec.{leb}
use lib.IntN.{nat_abs}
use mir.Facts.{to_z-of_z}
use Rattle.algebra.specs.Polynomials.{is_zero_ℤ}
use Rattle.rules.specs.Limits.{bound, small}
use Rattle.roots.specs.Bound.{top-last}
use Rattle.roots.specs.RootSearch.{eval-empty, vanishes-past}
use Rattle.roots.proofs.is_root.Goals as goal
use Rattle.roots.proofs.is_root.Goals.{After-within_bound}

tested : (c : After-within_bound) → c.within_bound.result ≡ leb (nat_abs c.args.r) bound
unfolding small
tested c = rw (to_z-of_z c.ranges.r) at c.within_bound.ensures

pub vanishes-requires : goal.vanishes-requires
vanishes-requires c =
    let full : 0 < length c.args.p.now = grind (arith, common_steps) in
    let some = top-last c.args.p.now full in
    (c.requires.0, c.requires.1, some, rw (to_z-of_z c.ranges.r) (leb-true (nat_abs c.args.r) bound (sym (tested c.before) ∙ c.if-within_bound.true)))

pub returns-then-is_empty : goal.returns-then-is_empty
unfolding is_zero_ℤ
returns-then-is_empty c = let none : length c.args.p.now ≡ 0 = grind (arith, common_steps) in sym (ap is_zero_ℤ (eval-empty c.args.p.now c.args.r none))

pub returns-then-within_bound : goal.returns-then-within_bound
returns-then-within_bound c = rw (to_z-of_z c.ranges.r) at c.vanishes.ensures

pub returns-else-within_bound : goal.returns-else-within_bound
returns-else-within_bound c =
    let past = leb-false (nat_abs c.args.r) bound (sym (tested c.before.before) ∙ c.if-within_bound.false) in
    c.all_zero.ensures ∙ vanishes-past c.args.p.now c.args.r c.requires.1 past
