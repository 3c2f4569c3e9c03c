-- `roots::factors` meets its contract. The invariant is `Factoring`; the measure falls where the rest is divided, and where q
-- grows, which is at most the rest.
-- Assumes nothing.
use Prim.Native.Nat.{◌-◌, ◌*◌}
use Rattle.roots.specs.Factors.{Factoring}
use Rattle.roots.specs.Factors.{Gap}
use Rattle.roots.specs.RootSearch.{the_factors_of, Sized}
use Rattle.roots.proofs.factors.Given as goal

abbrev pub invariant-loop-q : goal.invariant-loop-q
invariant-loop-q l = Sized l.list × Factoring l.limit l.a (the_factors_of l.list) l.rest l.q × Gap l.q l.gap

abbrev pub decreases-loop-q : goal.decreases-loop-q
decreases-loop-q l = 2 * l.rest - l.q
