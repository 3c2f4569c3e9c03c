-- `log_steps::changing::exchange_rows` meets its contract.
-- Assumes nothing.
use Prim.Native.Nat.{ℕ, ◌<◌}
use mathlib.Core.Path.{◌≡◌, refl, sym, ◌∙◌}
use mathlib.Core.Bool.{◌&&◌, not, true}
use mathlib.Core.List.{List}
use lib.Dec.{ltb, eqb}
use lib.IntN.{ℤ}
use Rattle.reduction.specs.declared.step.Progress.{Progress}
use Rattle.log_steps.specs.Logs.{exchanging}
use Rattle.log_steps.specs.StoreChanges.{Begun, begun-room, stepped_same, two-places}
use Rattle.log_steps.proofs.StoreChanges.{step-refused, exchange-allowed}
use Rattle.log_steps.proofs.StoreChanges.{exchange-stepped}
use Rattle.log_steps.proofs.changing.exchange_rows.Goals as goal
use Rattle.log_steps.proofs.changing.exchange_rows.Goals.{Else-not-two_rows, Start}

-- the arguments
module _ (c : Start) where
  abbrev rows : List ℤ
  rows = c.args.rows.now

  abbrev p : Progress
  p = c.args.p

  abbrev i : ℕ
  i = c.args.i

  abbrev j : ℕ
  j = c.args.j

  begun : Begun rows p
  begun = c.requires

-- both rows are present
module _ (c : Else-not-two_rows) where
  abbrev start : Start
  start = (goal.at.Else-not-two_rows c).Start

  tested : ((ltb (i start) (p start).rows && ltb (j start) (p start).rows) && not (eqb (i start) (j start))) ≡ true
  tested = sym c.two_rows.ensures ∙ c.if-not-two_rows.false

  inside : i start < (p start).rows
  inside = (two-places (i start) (j start) (p start).rows tested).0

  other : j start < (p start).rows
  other = (two-places (i start) (j start) (p start).rows tested).1

pub returns-then-not-two_rows : goal.returns-then-not-two_rows
returns-then-not-two_rows c =
    let s = (goal.at.returns-then-not-two_rows c).Start in
    rw c.stopped.ensures (λ D relations ready.
    step-refused D ready (begun s).unsettled (exchanging (i s) (j s))
    (exchange-allowed D ready (begun s).unsettled (i s) (j s) ∙ sym c.two_rows.ensures ∙ c.if-not-two_rows.true))

pub width_of-width-requires : goal.width_of-width-requires
width_of-width-requires c = let e = c in let s = start e in begun-room (begun s) (i s) (inside e)

pub width_of-other-requires : goal.width_of-other-requires
width_of-other-requires c = let e = (goal.at.width_of-other-requires c).Else-not-two_rows in let s = start e in
    begun-room (begun s) (j s) (other e)

pub exchange-requires : goal.exchange-requires
exchange-requires c =
    let e = (goal.at.exchange-requires c).Else-not-two_rows in
    let s = start e in record {
      row_length_in_bounds = (begun-room (begun s) (i s) (inside e), begun-room (begun s) (j s) (other e));
      width_value = (c.width_of-width.ensures, c.width_of-other.ensures);
    }

pub returns : goal.returns
returns c =
    let e = (goal.at.returns c).Else-not-two_rows in
    let s = start e in
    λ D relations ready.
    stepped_same c.exchange.ensures refl refl
    (exchange-stepped D ready (begun s).unsettled (i s) (j s) (inside e) (other e)
    (exchange-allowed D ready (begun s).unsettled (i s) (j s) ∙ tested e))
