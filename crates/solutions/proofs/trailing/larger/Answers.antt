-- `solutions::trailing::larger` meets its contract: the tests tell which of the two is larger. Assumes nothing.
use mathlib.Core.Path.{sym, ◌∙◌, ap, ap₂}
use Rattle.std.proofs.Common.{rules}
use lib.Signed.{le_z}
use mir.Syntax.{w64}
use mir.Val.{SFits}
use mir.Facts.{to_z-of_z}
use Rattle.rules.specs.Elimination.{leading}
use Rattle.roots.specs.RootSearch.{answered}
use Rattle.sides.specs.FurthestRoots.{further_of}
use Rattle.solutions.specs.LargestRoots.{option_of, first-missing, second-missing, first-larger, second-larger}
use Rattle.solutions.proofs.trailing.larger.Goals as goal

pub returns-in_default : goal.returns-in_default
returns-in_default c =
    first-missing c.args.b ∙ sym (ap (λ a. answered (further_of leading (option_of a) (option_of c.args.b))) c.in_default.is)

pub returns-in_default-b : goal.returns-in_default-b
returns-in_default-b c =
    second-missing c.in-Some.first
    ∙ sym (ap₂ (λ a b. answered (further_of leading (option_of a) (option_of b))) c.in-Some.is c.in_default-b.is)

pub returns-then-first-second : goal.returns-then-first-second
returns-then-first-second c =
    let read_a : SFits w64 c.in-Some.first = search rules in
    let read-b : SFits w64 c.in-Some-b.second = search rules in
    second-larger c.in-Some.first c.in-Some-b.second (sym (ap₂ le_z (to_z-of_z {w = w64} read_a) (to_z-of_z {w = w64} read-b)) ∙ c.if-first-second.true)
    ∙ sym (ap₂ (λ a b. answered (further_of leading (option_of a) (option_of b))) c.in-Some.is c.in-Some-b.is)

pub returns-else-first-second : goal.returns-else-first-second
returns-else-first-second c =
    let read_a : SFits w64 c.in-Some.first = search rules in
    let read-b : SFits w64 c.in-Some-b.second = search rules in
    first-larger c.in-Some.first c.in-Some-b.second (sym (ap₂ le_z (to_z-of_z {w = w64} read_a) (to_z-of_z {w = w64} read-b)) ∙ c.if-first-second.false)
    ∙ sym (ap₂ (λ a b. answered (further_of leading (option_of a) (option_of b))) c.in-Some.is c.in-Some-b.is)
