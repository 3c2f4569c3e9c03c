-- `replays::ending::finish` meets its contract: each test is a part of what the end asks.
-- Assumes nothing.
use mathlib.Core.Path.{◌≡◌, refl, sym, ◌∙◌, ap, ap₂, subst}
use native.Mathlib.Nat.{le_refl}
use borrow.Author.Tests.{le-leb}
use mathlib.Core.Bool.{true}
use mathlib.Core.List.{List, map}
use Prim.Native.Nat.{ℕ, pred, ◌≤◌}
use lib.IntN.{ℤ, nat_abs}
use lib.ListN.{take}
use Rattle.lists.specs.Everywhere.{All}
use Rattle.lists.specs.Padded.{pad_to}
use Rattle.rules.specs.Limits.{column_count}
use Rattle.rules.specs.Stores.{rows_of}
use Rattle.working_rows.specs.Found.{Columns}
use Rattle.reduction.specs.declared.step.Progress.{Progress}
use Rattle.steps.specs.HeldCalls.{pivots_right_of}
use Rattle.log_steps.specs.Logs.{order_holds_of}
use Rattle.replays.specs.Endings.{ended_same, settled_at, named-few, named-positive, named-columns, end-unheld, end-unpivoted}
use Rattle.replays.specs.Endings.{end-accepted}
use Rattle.replays.proofs.ending.finish.Goals as goal
use Rattle.replays.proofs.ending.finish.Goals.{After-from_zero-order, Else-not-order_holds, Start}

-- the arguments
module _ (c : Start) where
  abbrev rows : List ℤ
  rows = c.args.rows.now

  abbrev m : ℕ
  m = c.args.m

  abbrev numbers : List ℤ
  numbers = c.args.numbers.now

  abbrev p : Progress
  p = c.args.p

-- the order holds
module _ (c : Else-not-order_holds) where
  abbrev start : Start
  start = (goal.at.Else-not-order_holds c).Start

  holds : order_holds_of (m start) (p start).rows (numbers start) ≡ true
  holds = sym c.order_holds.ensures ∙ c.if-not-order_holds.false

  named-is : c.sizes_of-named.result ≡ map nat_abs (numbers start)
  named-is = c.sizes_of-named.ensures

module _ (c : After-from_zero-order) where
  abbrev held : Else-not-order_holds
  held = (goal.at.After-from_zero-order c).Else-not-order_holds

  abbrev base : Start
  base = start held

  order_is : c.from_zero-order.result ≡ pad_to column_count 0 (map pred (take (p base).rows (map nat_abs (numbers base))))
  order_is = c.from_zero-order.ensures.0 ∙ ap (λ l. pad_to column_count 0 (map pred (take (p base).rows l))) (named-is held)

  pivots-are : (o : List ℕ) → c.from_zero-order.result ≡ o
      → pivots_right_of c.from_zero-order.result (rows_of (p base).rows (rows base)) (p base).rows
      ≡ pivots_right_of o (rows_of (p base).rows (rows base)) (p base).rows
  pivots-are o e = ap (λ l. pivots_right_of l (rows_of (p base).rows (rows base)) (p base).rows) e

pub sizes_of-named-requires : goal.sizes_of-named-requires
sizes_of-named-requires c =
    c.requires.2

pub order_holds-requires : goal.order_holds-requires
order_holds-requires c =
    (c.requires.1, c.requires.2, c.sizes_of-named.ensures)

pub returns-then-not-order_holds : goal.returns-then-not-order_holds
returns-then-not-order_holds c =
    let s = (goal.at.returns-then-not-order_holds c).Start in
    rw c.stopped.ensures (λ relations ready.
    end-unheld (m s) (numbers s) ready (sym c.order_holds.ensures ∙ c.if-not-order_holds.true))

pub from_zero-order-requires : goal.from_zero-order-requires
from_zero-order-requires c =
    let s = start c in (
      named-few (m s) (p s).rows (numbers s) s.requires.2 s.requires.1 (holds c),
      subst (λ l. All (λ k. 1 ≤ k) (take (p s).rows l)) (sym (named-is c))
          (named-positive (m s) (p s).rows (numbers s) s.requires.2 s.requires.1 (holds c)),
    )

pub pivots_right-requires : goal.pivots_right-requires
pivots_right-requires c =
    let e = held c in
    let s = base c in (
      named-few (m s) (p s).rows (numbers s) s.requires.2 s.requires.1 (holds e),
      s.requires.0.rows-within.long,
      subst Columns (sym (order_is c)) (named-columns (m s) (p s).rows (numbers s) s.requires.2 s.requires.1 (holds e)),
    )

pub returns-then-not-pivots_right : goal.returns-then-not-pivots_right
returns-then-not-pivots_right c =
    let z = (goal.at.returns-then-not-pivots_right c).After-from_zero-order in
    let e = held z in
    let s = base z in
    rw c.stopped-then-not-pivots_right.ensures (λ relations ready.
    end-unpivoted (m s) (numbers s) ready s.requires.2 s.requires.1 (holds e)
    (sym (pivots-are z _ (order_is z)) ∙ sym c.pivots_right.ensures ∙ c.if-not-pivots_right.true))

pub returns : goal.returns
returns c =
    let z = (goal.at.returns c).After-from_zero-order in
    let e = held z in
    let s = base z in
    λ relations ready.
    ended_same
    (ap₂ (λ d o. record { refusal = 0; done = d; progress = settled_at (p s) o }) (le-leb (p s).rows (p s).rows (le_refl (p s).rows)) (order_is z))
    refl
    (end-accepted (m s) (numbers s) ready s.requires.2 s.requires.1 (holds e)
    (sym (pivots-are z _ (order_is z)) ∙ sym c.pivots_right.ensures ∙ c.if-not-pivots_right.false))
