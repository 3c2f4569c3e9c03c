-- `roots::after_run` meets its contract. The invariant: the factors from `from` on are those from `next` on after some equal
-- to the first. The measure is the number of factors left.
-- Assumes nothing.
use mathlib.Core.Path.{◌≡◌, refl, ◌∙◌, ap, subst}
use mathlib.Core.List.{List, ◌∷◌}
use Prim.Native.Nat.{ℕ, ◌+◌, ◌<◌}
use native.Mathlib.Omega.{arith}
use lib.ListN.{length, get_or, drop}
use Rattle.roots.specs.Factors.{Run, stop, run-next}
use Rattle.lists.specs.Taken.{drop-next}
use Rattle.roots.proofs.after_run.Goals as goal

-- A factor equal to the first is passed.
passed : {q : ℕ} (l m : List ℕ) (k : ℕ) → k < length m → get_or m k 0 ≡ q → Run q l (drop k m) → Run q l (drop (k + 1) m)
passed {q} l m k h e r = run-next (subst (Run q l) (drop-next m k 0 h ∙ ap (λ f. f ∷ drop (k + 1) m) e) r)

pub loop-next-init : goal.loop-next-init
loop-next-init c =
    let from = c.args.from in
    let factors = c.args.factors.now in
    (omega arith, omega arith, passed (drop from factors) factors from (omega arith) refl stop)

pub returns-then-factors-next : goal.returns-then-factors-next
returns-then-factors-next c = c.loop-next.invariant

pub loop-next-preserved : goal.loop-next-preserved
loop-next-preserved c =
    let factors = c.args.factors.now in
    (omega arith, omega arith, passed _ factors c.loop-next.next (omega arith) c.if-factors-next.false c.loop-next.invariant.2)

pub returns : goal.returns
returns c =
    let e : c.loop-next.next ≡ length c.args.factors.now = omega arith in
    (omega arith, omega arith, subst (λ k. Run (get_or c.args.factors.now c.args.from 0) (drop c.args.from c.args.factors.now) (drop k c.args.factors.now)) e c.loop-next.invariant.2)
