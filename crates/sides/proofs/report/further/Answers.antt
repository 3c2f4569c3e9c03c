-- `sides::report::further` meets its contract: the tests tell which of the two is further, and whether both give the same root.
-- Assumes nothing.
use mathlib.Core.Path.{◌≡◌, sym, ◌∙◌, ap, ap₂, subst}
use mathlib.Core.Logic.{◌≢◌}
use Prim.Native.Nat.{◌≤◌}
use native.Mathlib.Omega.{arith}
use Rattle.rules.specs.Limits.{bound}
use mir.Syntax.{w64}
use mir.Val.{SFits, of_z}
use mir.Facts.{to_z-of_z}
use Rattle.std.specs.Prelude.{Some}
use Rattle.integers.specs.Ranges.{of_z-inj}
use Rattle.rules.specs.Elimination.{Side}
use Rattle.multiplicities.specs.declared.Root.{Root}
use Rattle.sides.specs.Lent.{side_of}
use Rattle.sides.specs.FurthestRoots.{times_of, further_with, is_beyond_of, both-same, first-further, second-further}
use Rattle.sides.proofs.report.further.Goals as goal
use Rattle.sides.proofs.report.further.Goals.{In-Some-b, After-is_beyond}

pub returns-in_default : goal.returns-in_default
returns-in_default c = sym (ap (λ a. further_with (side_of c.args.side) a c.args.b) c.in_default.is)

pub returns-in_default-b : goal.returns-in_default-b
returns-in_default-b c =
    sym (ap₂ (further_with (side_of c.args.side)) c.in-Some.is c.in_default-b.is)

-- Both answers give a root, and these are compared.
module _ (c : In-Some-b) where
  abbrev a : Root
  a = c.in-Some.first

  abbrev b : Root
  b = c.in-Some-b.second

  abbrev side : Side
  side = side_of c.args.side

  both : further_with side c.args.a c.args.b ≡ further_with side (Some a) (Some b)
  both = ap₂ (further_with side) c.in-Some.is c.in-Some-b.is

-- The roots are different, and one of them is further.
module _ (c : After-is_beyond) where
  abbrev told : In-Some-b
  told = (goal.at.After-is_beyond c).In-Some-b

  apart : (a told).value ≢ (b told).value
  apart h = c.if-first-second.false (ap (of_z w64) h)

  read_a : SFits w64 (a told).value
  read_a = record { sfits = c.struct_told-1.given.0.1 }

  read-b : SFits w64 (b told).value
  read-b = record { sfits = c.struct_told-2-1.given.0.1 }

  tested : c.is_beyond.result ≡ is_beyond_of (side told) (a told).value (b told).value
  tested = c.is_beyond.ensures ∙ ap₂ (is_beyond_of (side told)) (to_z-of_z read_a) (to_z-of_z read-b)

pub returns-then-first-second : goal.returns-then-first-second
returns-then-first-second c =
    let at = (goal.at.returns-then-first-second c).In-Some-b in
    let read_a : SFits w64 (a at).value = record { sfits = c.struct_told-1.given.0.1 } in
    let read-b : SFits w64 (b at).value = record { sfits = c.struct_told-2-1.given.0.1 } in
    let same = of_z-inj read_a read-b c.if-first-second.true in
    rw (to_z-of_z {w = w64} read_a) (ap Some (both-same (side at) (a at) (b at) same) ∙ sym (both at))

pub overflow_add-result : goal.overflow_add-result
overflow_add-result c =
    let first = subst (λ o. times_of o ≤ bound) c.in-Some.is c.requires.0 in
    let second = subst (λ o. times_of o ≤ bound) c.in-Some-b.is c.requires.1 in
    omega arith

pub returns-then-is_beyond : goal.returns-then-is_beyond
returns-then-is_beyond c =
    let further = (goal.at.returns-then-is_beyond c).After-is_beyond in
    let at = told further in
    ap Some (second-further (side at) (a at) (b at) (apart further) (sym (tested further) ∙ c.if-is_beyond.true)) ∙ sym (both at)

pub returns-else-is_beyond : goal.returns-else-is_beyond
returns-else-is_beyond c =
    let further = (goal.at.returns-else-is_beyond c).After-is_beyond in
    let at = told further in
    ap Some (first-further (side at) (a at) (b at) (apart further) (sym (tested further) ∙ c.if-is_beyond.false)) ∙ sym (both at)
