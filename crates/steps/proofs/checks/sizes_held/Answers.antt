-- `steps::checks::sizes_held` meets its contract.
-- Assumes nothing.
use mathlib.Core.Path.{◌≡◌, sym, ◌∙◌, ap}
use Prim.Native.Nat.{◌*◌}
use mathlib.Core.Bool.{true, ◌&&◌}
use lib.Dec.{T, leb, eqb}
use lib.ListN.{take, drop}
use Rattle.lists.specs.Tests.{every}
use Rattle.rules.specs.Stores.{equations, sizes_right_of, count_right}
use Rattle.stores.specs.Validity.{the_sizes_of}
use Rattle.runs.specs.CallLaws.{few-blocks}
use Rattle.steps.specs.HeldCalls.{Held, sizes_held_of}
use Rattle.steps.specs.Handed.{held_of, sizes-passed, settled-passed, first-fails, second-fails, third-fails, last-tells}
use native.Mathlib.Omega.{arith}
use Rattle.steps.proofs.checks.sizes_held.Goals as goal
use Rattle.steps.proofs.checks.sizes_held.Goals.{Else-not-counts_held, Else-not-order_held, Else-not-settled_held}

-- what the code knows after each test
module _ (c : Else-not-counts_held) where
  abbrev held : Held
  held = held_of c.args.state

  counts-hold : (sizes_right_of held.sizes && leb held.relations 16) ≡ true
  unfolding held_of
  counts-hold = sym c.counts_held.ensures ∙ c.if-not-counts_held.false

  right : T (sizes_right_of held.sizes)
  right = sizes-passed held.sizes held.relations counts-hold

settled-hold : (c : Else-not-settled_held) → let x = held (goal.at.Else-not-settled_held c).Else-not-counts_held in
    (leb x.settled x.sizes.m && leb x.settled (equations x.sizes)) ≡ true
unfolding held_of the_sizes_of equations
settled-hold c = sym c.settled_held.ensures ∙ c.if-not-settled_held.false

-- the test of the columns, and the largest D
module _ (c : Else-not-order_held) where
  abbrev settled-tested : Else-not-settled_held
  settled-tested = (goal.at.Else-not-order_held c).Else-not-settled_held

  abbrev counts-tested : Else-not-counts_held
  counts-tested = (goal.at.Else-not-settled_held settled-tested).Else-not-counts_held

  order-holds : let x = held counts-tested in
      (every (λ k. leb 1 k && leb k x.sizes.m) (take x.settled x.order) && every (eqb 0) (drop x.settled x.order)) ≡ true
  unfolding held_of the_sizes_of
  order-holds = sym c.order_held.ensures ∙ c.if-not-order_held.false

pub returns-then-not-counts_held : goal.returns-then-not-counts_held
unfolding sizes_held_of held_of count_right
returns-then-not-counts_held c = first-fails _ _ _ _ (sym c.counts_held.ensures ∙ c.if-not-counts_held.true)

pub returns-then-not-settled_held : goal.returns-then-not-settled_held
unfolding sizes_held_of held_of count_right the_sizes_of equations
returns-then-not-settled_held c =
    let here = (goal.at.returns-then-not-settled_held c).Else-not-counts_held in
    second-fails _ _ _ _ (counts-hold here) (sym c.settled_held.ensures ∙ c.if-not-settled_held.true)

pub order_held-requires : goal.order_held-requires
unfolding held_of
order_held-requires c =
    let here = (goal.at.order_held-requires c).Else-not-settled_held in
    let counts = (goal.at.order_held-requires c).Else-not-counts_held in
    settled-passed (held counts).sizes (held counts).settled (right counts) (settled-hold here)

pub returns-then-not-order_held : goal.returns-then-not-order_held
unfolding sizes_held_of held_of count_right the_sizes_of
returns-then-not-order_held c =
    let settled = (goal.at.returns-then-not-order_held c).Else-not-settled_held in
    third-fails _ _ _ _ (counts-hold (goal.at.Else-not-settled_held settled).Else-not-counts_held) (settled-hold settled)
    (sym c.order_held.ensures ∙ c.if-not-order_held.true)

pub span-requires : goal.span-requires
unfolding held_of
span-requires c = right (counts-tested c)

pub overflow_mul-result : goal.overflow_mul-result
unfolding held_of
overflow_mul-result c =
    let counts = counts-tested (goal.at.overflow_mul-result c).Else-not-order_held in
    omega (arith, c.span.ensures, few-blocks (held counts).sizes (right counts))

pub returns : goal.returns
unfolding sizes_held_of held_of count_right
returns c =
    let order = (goal.at.returns c).Else-not-order_held in
    ap (λ n. leb (held (counts-tested order)).shifts (6 * n)) c.span.ensures
    ∙ last-tells _ _ _ _ (counts-hold (counts-tested order)) (settled-hold (settled-tested order)) (order-holds order)
