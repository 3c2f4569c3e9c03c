-- `stores::checks::row_right` meets its contract. The loop's invariant: the polynomials at the places before `place` pass.
-- Assumes nothing.
use mathlib.Core.Path.{◌≡◌}
use mathlib.Core.Bool.{true}
use Prim.Native.Nat.{ℕ, ◌<◌}
use Rattle.stores.specs.Checks.{place_right_of}
use Rattle.stores.proofs.checks.row_right.Given as goal

abbrev pub invariant-loop-place : goal.invariant-loop-place
invariant-loop-place l = (q : ℕ) → q < l.place → place_right_of l.m l.span l.row q ≡ true
