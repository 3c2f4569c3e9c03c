-- `working_rows::mirroring::alternate_signs` meets its contract. The loop's invariant: i is odd, and before it the numbers at odd places
-- have changed their sign.
-- Assumes nothing.
use native.Mathlib.Nat.{le_refl}
use native.Mathlib.Omega.{arith}
use mathlib.Core.Path.{◌≡◌, refl, ◌∙◌, ap}
use borrow.Author.Rules.{sfits_of}
use Prim.Native.Nat.{◌+◌}
use lib.IntN.{pos, neg_ℤ, nat_abs}
use lib.ListN.{get_or, set}
use mir.Syntax.{w64}
use mir.Val.{SFits, to_z, of_z}
use mir.Facts.{to_z-of_z}
use Rattle.integers.specs.Ranges.{sfits-size}
use Rattle.polynomials.specs.Content.{small_at}
use Rattle.working_rows.specs.Mirroring.{Alternated, alternated-none, alternated-next, alternated-all}
use Rattle.working_rows.proofs.mirroring.alternate_signs.Goals as goal
use Rattle.working_rows.proofs.mirroring.alternate_signs.Goals.{After-negated, In-loop-i}

-- the number at an odd place, as the code reads it
read : (c : In-loop-i) → SFits w64 (get_or c.loop-i.numbers c.loop-i.i (pos 0))
read c =
    let l = c.loop-i in
    sfits-size (get_or l.numbers l.i (pos 0)) (le_refl (nat_abs (get_or l.numbers l.i (pos 0))))
    (rw (l.invariant.1.kept l.i (le_refl l.i)) (omega (arith, small_at c.args.numbers.now c.requires l.i)))

-- and its negation in its place
next : (c : After-negated)
    → Alternated (c.loop-i.i + 2) c.args.numbers.now (set c.loop-i.numbers c.loop-i.i (to_z w64 (of_z w64 c.negated.result)))
next c =
    let l = c.loop-i in
    let own = read (goal.at.After-negated c).In-loop-i in
    let value : to_z w64 (of_z w64 c.negated.result) ≡ neg_ℤ (get_or l.numbers l.i (pos 0)) =
    to_z-of_z {w = w64} (sfits_of c.negated.type_inv) ∙ c.negated.ensures ∙ ap neg_ℤ (to_z-of_z {w = w64} own) in
    rw value (alternated-next l.i c.args.numbers.now l.numbers (λ e. omega arith) (omega arith) l.invariant.1)

pub loop-i-init : goal.loop-i-init
loop-i-init c = (refl, alternated-none c.args.numbers.now)

pub negated-requires : goal.negated-requires
negated-requires c =
    let l = c.loop-i in
    rw (to_z-of_z {w = w64} (read (goal.at.negated-requires c).In-loop-i), l.invariant.1.kept l.i (le_refl l.i))
    (omega (arith, small_at c.args.numbers.now c.requires l.i))

pub loop-i-preserved : goal.loop-i-preserved
loop-i-preserved c = (omega arith, next (goal.at.loop-i-preserved c).After-negated)

pub returns : goal.returns
returns c = alternated-all c.loop-i.i c.args.numbers.now c.loop-i.numbers (omega arith) c.loop-i.invariant.1

pub returns-2 : goal.returns-2
returns-2 c = alternated-all (c.loop-i.i + 2) c.args.numbers.now _ (omega arith) (next (goal.at.returns-2 c).After-negated)
