-- `multiplicities::each_with_times` meets its contract. The invariant: the first i numbers are counted, and zeros stand behind.
-- Assumes nothing.
use mathlib.Core.Path.{◌≡◌, refl, sym, ◌∙◌, ap, ap₂}
use mathlib.Core.List.{List}
use Prim.Native.Nat.{ℕ, ◌≤◌, ◌<◌}
use native.Mathlib.Omega.{arith}
use lib.Dec.{T}
use lib.IntN.{ℤ, pos}
use Rattle.lists.specs.Tests.{every}
use lib.ListN.{length, get_or, set}
use mir.Syntax.{w64}
use mir.Val.{SFits}
use mir.Facts.{to_z-of_z}
use Rattle.polynomials.specs.Content.{small_at}
use Rattle.rules.specs.Limits.{small}
use Rattle.roots.specs.RootSearch.{fits-small}
use Rattle.multiplicities.specs.Counts.{listed_with, times_in, counted, counted-next, counted-all}
use Rattle.multiplicities.proofs.each_with_times.Goals as goal
use Rattle.multiplicities.proofs.each_with_times.Goals.{At-loop-i}

pub loop-i-init : goal.loop-i-init
loop-i-init c = refl

-- The numbers that are handed in.
module _ (c : At-loop-i) where
  abbrev p : List ℤ
  p = c.args.p.now

  abbrev rs : List ℤ
  rs = c.as_slice-value-items.result.now

  small-rs : T (every small rs)
  small-rs = rw c.as_slice-value-items.ensures c.requires.found_value.2

  few : length rs ≤ 16
  few = rw c.as_slice-value-items.ensures c.requires.found_value.1

  read : (i : ℕ) → SFits w64 (get_or rs i (pos 0))
  read i = fits-small rs i small-rs

pub multiplicity-requires : goal.multiplicity-requires
multiplicity-requires c =
    let at = (goal.at.multiplicity-requires c).At-loop-i in
    (c.requires.p_len.0, c.requires.p_len.1, rw (to_z-of_z (read at c.loop-i.i)) (small_at (rs at) (small-rs at) c.loop-i.i))

pub bounds-roots-i : goal.bounds-roots-i
bounds-roots-i c = let few = few (goal.at.bounds-roots-i c).At-loop-i in omega (arith, c.loop-i-test.true)

pub loop-i-preserved : goal.loop-i-preserved
loop-i-preserved c =
    let at = (goal.at.loop-i-preserved c).At-loop-i in
    let i = c.loop-i.i in
    let read = to_z-of_z (read at i) in
    let here : i < 16 = omega (arith, few at, c.loop-i-test.true) in
    simp read
    (ap₂ (λ l n. set l i (record { value = get_or (rs at) i (pos 0); times = n })) c.loop-i.invariant (rw read at c.multiplicity.ensures)
    ∙ counted-next (p at) (rs at) i c.loop-i-test.true here)

pub returns : goal.returns
returns c =
    let at = (goal.at.returns c).At-loop-i in
    let same = c.as_slice-value-items.ensures in
    let e : c.loop-i.i ≡ length (rs at) = omega arith in
    let count = ap (λ f. f.count) c.requires.found_value.0 ∙ ap length (sym same) in
    ap₂ (λ n l. record { count = n; roots = l }) count (c.loop-i.invariant ∙ ap (counted (p at) (rs at)) e)
    ∙ counted-all (p at) (rs at) ∙ ap (λ l. listed_with (times_in (p at) l)) same
