-- `steps::checks::pivots_right` meets its contract.
-- Assumes nothing.
use mathlib.Core.Path.{◌≡◌, refl, sym, ◌∙◌, ap}
use mathlib.Core.List.{List, map}
use Prim.Native.Nat.{ℕ, ◌+◌, ◌<◌}
use lib.Dec.{eqb}
use lib.ListN.{take, get_or}
use Rattle.rules.specs.Stores.{row_of, rows_of, row_need}
use Rattle.rules.specs.Rows.{Row, no_row, entry, first_nonzero}
use Rattle.rules.specs.Layout.{row-at}
use Rattle.working_rows.specs.Found.{found_or}
use Rattle.steps.specs.HeldCalls.{pivot_right, pivots_right_of}
use Rattle.steps.specs.Handed.{entry-front, pivot-met, pivots-false, pivots-next}
use borrow.Author.Tests.{eq-eqb, ne_eqb}
use native.Mathlib.Omega.{arith}
use borrow.Author.Rules.{rules}
use Rattle.steps.proofs.checks.pivots_right.Goals as goal
use Rattle.steps.proofs.checks.pivots_right.Goals.{After-first_met, At-loop-j}

-- the row that is tested
module _ (c : After-first_met) where
  abbrev at : At-loop-j
  at = (goal.at.After-first_met c).At-loop-j

  abbrev order : List ℕ
  order = at.args.order

  abbrev settled : ℕ
  settled = at.args.settled

  abbrev rows : List Row
  rows = rows_of settled at.args.rows.now

  abbrev j : ℕ
  j = at.loop-j.j

  inside : j < settled
  inside = c.loop-j-test.true

  tested : eqb c.first_met.result j ≡ pivot_right order j (get_or rows j no_row)
  tested =
      let entries = entry-front c.row_at-row.result.now (omega (arith, c.row_at-row.ensures.result_len))
      ∙ ap (λ l. entry (row_of l)) c.row_at-row.ensures.result_value in
      ap (λ n. eqb n j) (c.first_met.ensures ∙ ap (λ f. found_or (j + 1) (first_nonzero (map f (take (j + 1) order)))) entries)
      ∙ pivot-met order j _ (omega arith) ∙ ap (pivot_right order j) (sym (row-at settled at.args.rows.now j inside))

pub loop-j-init : goal.loop-j-init
unfolding pivots_right_of
loop-j-init c = (omega arith, refl)

pub row_at-row-requires : goal.row_at-row-requires
unfolding row_need
row_at-row-requires c = search rules

pub returns-then-first_met-j : goal.returns-then-first_met-j
returns-then-first_met-j c =
    let after = (goal.at.returns-then-first_met-j c).After-first_met in
    let failed = sym (tested after) ∙ ne_eqb _ _ c.if-first_met-j.true in
    sym (pivots-false (order after) (rows after) (settled after) (j after) (inside after) failed)

pub loop-j-preserved : goal.loop-j-preserved
loop-j-preserved c =
    let after = (goal.at.loop-j-preserved c).After-first_met in
    let inv = (at after).loop-j.invariant in
    let passed = sym (tested after) ∙ eq-eqb _ _ c.if-first_met-j.false in
    (inv.0, pivots-next (order after) (rows after) (j after) inv.1 passed)

pub returns : goal.returns
returns c =
    let all : c.loop-j.j ≡ c.args.settled = omega arith in
    sym (rw all at c.loop-j.invariant.1)
