-- `differential::sizes_for` meets its contract. K and J are at most 2.
-- Assumes nothing.
use mathlib.Core.Path.{◌≡◌, refl}
use native.Mathlib.Omega.{arith}
use lib.IntN.{pos, neg_ℤ, ◌-ℤ◌}
use mir.Syntax.{w64}
use mir.Val.{SFits, to_z, of_z}
use mir.Facts.{to_z_pos, sfits_lit}
use Rattle.stores.specs.Validity.{the_sizes_of}
use Rattle.differential.specs.ValidRecurrence.{up-to-two}
use Rattle.differential.specs.Grammar.{sizes_for_of}
use Rattle.differential.specs.Read.{extent_of}
use Rattle.differential.proofs.sizes_for.Goals as goal

pub overflow_cast-result : goal.overflow_cast-result
unfolding extent_of
overflow_cast-result c = omega (arith, c.requires.order_small)

pub overflow_cast-result-2 : goal.overflow_cast-result-2
unfolding extent_of
overflow_cast-result-2 c = omega (arith, c.requires.degree-small)

pub overflow_sub-result : goal.overflow_sub-result
unfolding extent_of
overflow_sub-result c =
    up-to-two (λ j. SFits w64 (pos 0 -ℤ to_z w64 j)) (sfits_lit tt) (sfits_lit tt) (sfits_lit tt) c.args.x.degree
    c.requires.degree-small

pub returns : goal.returns
unfolding the_sizes_of sizes_for_of extent_of
returns c =
    let x = c.args.x in
    let highest : to_z w64 x.order ≡ pos x.order = to_z_pos w64 (omega (arith, c.requires.order_small)) in
    let lowest : to_z w64 (of_z w64 (pos 0 -ℤ to_z w64 x.degree)) ≡ neg_ℤ (pos x.degree) =
    up-to-two (λ j. to_z w64 (of_z w64 (pos 0 -ℤ to_z w64 j)) ≡ neg_ℤ (pos j)) refl refl refl x.degree c.requires.degree-small in
    λ i. record { m = x.unknowns; equations = x.equations; l = highest i; t = lowest i }
