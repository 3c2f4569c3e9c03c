-- `integers::quotient` meets its contract. The quotient's size is at most the dividend's, so it is in the range of an i64.
-- Assumes nothing.
use mathlib.Core.Path.{◌≡◌, sym, ◌∙◌, ap}
use mathlib.Core.List.{[], ◌∷◌}
use lib.IntN.{ℤ, pos}
use lib.ListN.{get_or}
use lib.Signed.{quot_z}
use mir.Facts.{to_z-of_z, sfits_lit}
use Rattle.algebra.specs.Gcd.{divide_by-get_or, divide_by-one}
use Rattle.integers.specs.Ranges.{division, sfits-quot_z, of_z-inj}
use Rattle.integers.proofs.quotient.Goals as goal

by_one : (a : ℤ) → quot_z a (pos 1) ≡ a
by_one a = sym (divide_by-get_or 1 (a ∷ []) 0) ∙ ap (λ l. get_or l 0 (pos 0)) (divide_by-one (a ∷ []))

pub returns-then-d-eq1 : goal.returns-then-d-eq1
returns-then-d-eq1 c =
    let b = c.before in
    let one : b.args.d ≡ pos 1 = of_z-inj {z = pos 1} b.ranges.d (sfits_lit tt) c.if-d-eq1.true in
    to_z-of_z b.ranges.a ∙ sym (ap (quot_z b.args.a) one ∙ by_one b.args.a)

pub nonzero_div-result : goal.nonzero_div-result
nonzero_div-result c = let b = c.before in division b.ranges.a b.ranges.d b.requires.0 b.requires.1

pub returns : goal.returns
returns c =
    let b = c.before in
    let fits = sfits-quot_z b.args.a b.args.d b.requires.0 in
    simp (to_z-of_z b.ranges.a, to_z-of_z b.ranges.d, to_z-of_z fits)
