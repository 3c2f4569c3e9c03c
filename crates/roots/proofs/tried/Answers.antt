-- `roots::tried` meets its contract.
-- Assumes nothing.
use mathlib.Core.Path.{◌≡◌, sym, ◌∙◌, ap, subst}
use Prim.Native.Nat.{◌≤◌}
use lib.ListN.{length}
use mir.Facts.{to_z-of_z}
use Rattle.algebra.specs.Polynomials.{eval, is_zero_ℤ}
use Rattle.roots.specs.RootSearch.{held, listed, try_root, try_root-yes, try_root-no}
use Rattle.roots.specs.Ascending.{insert}
use Rattle.roots.proofs.tried.Goals as goal
use Rattle.roots.proofs.tried.Goals.{After-vanishes, Then-vanishes}

-- The test's result, and the list where r is a root.
tested : (c : After-vanishes) → c.vanishes.result ≡ is_zero_ℤ (eval c.args.p.now c.args.r)
tested c = rw (to_z-of_z c.ranges.r) at c.vanishes.ensures

new : (c : Then-vanishes) → try_root c.args.p.now c.args.r (held c.args.found)
    ≡ insert c.args.r (held c.args.found)
new c = try_root-yes _ _ _ (sym (tested c.before) ∙ c.if-vanishes.true)

pub vanishes-requires : goal.vanishes-requires
vanishes-requires c = (c.requires.0, c.requires.1, c.requires.2, rw (to_z-of_z c.ranges.r) c.requires.3)

pub inserted-requires : goal.inserted-requires
inserted-requires c =
    (c.requires.4, rw (to_z-of_z c.ranges.r) (subst (λ l. length l ≤ 16) (new c) c.requires.5))

pub returns-then-vanishes : goal.returns-then-vanishes
returns-then-vanishes c =
    (rw (to_z-of_z c.ranges.r) at c.inserted.ensures) ∙ ap listed (sym (new c.before))

pub returns-else-vanishes : goal.returns-else-vanishes
returns-else-vanishes c = c.requires.4 ∙ ap listed (sym (try_root-no _ _ _ (sym (tested c.before) ∙ c.if-vanishes.false)))
