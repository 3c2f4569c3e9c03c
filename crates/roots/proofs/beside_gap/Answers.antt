-- `roots::beside_gap` meets its contract: no root lies in the gap, and none reaches the limit.
-- Assumes nothing.
use mathlib.Core.Path.{sym, subst}
use mathlib.Core.List.{List}
use Prim.Native.Nat.{◌≤◌}
use native.Mathlib.Nat.{div-le_self}
use native.Mathlib.Omega.{arith}
use lib.IntN.{ℤ}
use Rattle.rules.specs.Limits.{bound}
use Rattle.roots.specs.Bound.{RootsBelow, NoneBetween, none-roots}
use Rattle.roots.specs.RootSearch.{Paired, lowest-small, roots-small, gap-paired}
use Rattle.roots.proofs.beside_gap.Goals as goal
use Rattle.roots.proofs.beside_gap.Goals.{After-high_end-high, Joined-high-eq-PAST, Start, else-high-eq-PAST, then-high-eq-PAST}

small-a : (c : Start) → c.args.a ≤ bound
small-a c = omega (arith, c.requires.4, lowest-small c.args.p.now c.requires.3 c.requires.1)

-- Where the gap and the limit are known.
module _ (c : Joined-high-eq-PAST) where
  abbrev start : Start
  start = c.before.before.before

  abbrev p : List ℤ
  p = start.args.p.now

  abbrev at_high : After-high_end-high
  at_high = c.before.before

  all_small : RootsBelow p 268435456
  all_small = roots-small p start.requires.3 start.requires.1

  limited : RootsBelow p c.if-high-eq-PAST.limit
  limited =
      elim c.if-high-eq-PAST.branch [
        | then-high-eq-PAST w ↦
            let above = subst (NoneBetween p 16384) w.if-high-eq-PAST.true at_high.high_end-high.ensures.1 in
            subst (RootsBelow p) (sym w.limit-is) (none-roots p start.args.low 16384 268435456 start.requires.6 above all_small)
        | else-high-eq-PAST w ↦ subst (RootsBelow p) (sym w.limit-is) all_small
      ]

  paired : Paired p start.args.a c.max-few.result
  paired =
      gap-paired p start.args.a start.args.low 16384 at_high.high_end-high.result c.max-few.result
      start.requires.6
      at_high.high_end-high.ensures.1
      at_high.high_end-high.ensures.0
      (omega (arith, c.max-few.ensures))
      (omega (arith, c.max-few.ensures))

pub overflow_add-a : goal.overflow_add-a
overflow_add-a c =
    let s = c.before in
    omega (arith, div-le_self s.args.a c.high_end-high.result, small-a s)

pub by_pairs-requires : goal.by_pairs-requires
by_pairs-requires c =
    let s = start c.before in
    (s.requires.0, s.requires.1, s.requires.2, s.requires.3, s.requires.4, paired c.before, limited c.before)

pub bound_of_roots-requires : goal.bound_of_roots-requires
bound_of_roots-requires c =
    let s = start c.before in
    (s.requires.1, s.requires.2, s.requires.3, s.requires.5)

pub by_factors-requires : goal.by_factors-requires
by_factors-requires c =
    let s = start c.before.before in
    (s.requires.0, s.requires.1, s.requires.2, s.requires.3, s.requires.4, c.bound_of_roots.ensures)
