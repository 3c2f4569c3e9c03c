-- `reduction::step::step` meets its contract: each way of the code is one case of the step.
-- Assumes nothing.
use mathlib.Core.Path.{◌≡◌, refl, sym, ◌∙◌, ap}
use mathlib.Core.Bool.{true, false}
use mathlib.Core.List.{List}
use Prim.Native.Nat.{ℕ, ◌+◌, ◌*◌, ◌≤◌, ◌<◌}
use native.Mathlib.Omega.{arith}
use borrow.Author.Rules.{rules}
use borrow.Author.Tests.{eq-eqb, ne_eqb}
use lib.IntN.{ℤ}
use lib.ListN.{length}
use Rattle.rules.specs.Limits.{column_count, row_length}
use Rattle.rules.specs.Rows.{Row, zero_left, width, leading_block, first_nonzero}
use Rattle.rules.specs.Stores.{row_of, row_need}
use Rattle.rules.specs.Elimination.{Side}
use Rattle.working_rows.specs.Found.{found_or, entries_at}
use Rattle.working_rows.specs.Working.{width-zero}
use Rattle.reduction.specs.declared.step.Progress.{Progress}
use Rattle.sides.specs.Lent.{side_of}
use Rattle.reduction.specs.Progress.{Ready, answer_of}
use Rattle.reduction.specs.NewRows.{row_room}
use Rattle.reduction.specs.StoreExchange.{numbers_at, small-numbers_at}
use Rattle.reduction.specs.StepLaws.{reached-same, refused-reached, drop-reached, shift-reached}
use Rattle.reduction.specs.StepCases.{step-zero, step-contradicts, step-met, met-nonzero, room-left, settled-reached, step-shift}
use Rattle.reduction.specs.Unused.{unused-width}
use Rattle.reduction.proofs.step.step.Goals as goal
use Rattle.reduction.proofs.step.step.Goals.{After-column_at-c, After-met_at-j, After-width_at-width, Else-width-eq0, Start}

-- the arguments
module _ (c : Start) where
  abbrev rows : List ℤ
  rows = c.args.rows.now

  abbrev relations : List ℤ
  relations = c.args.relations.now

  abbrev p : Progress
  p = c.args.p

  abbrev i : ℕ
  i = p.settled

  abbrev n : ℕ
  n = p.rows

  abbrev side : Side
  side = side_of c.args.side

  abbrev row : Row
  row = row_of (numbers_at rows i)

  abbrev met : ℕ
  met = found_or i (first_nonzero (entries_at row p.order i))

  ready : Ready rows relations p
  ready = c.requires.ready.0

  room : (k : ℕ) → k < n → k * row_length + row_length ≤ length rows
  room k h = omega (arith, row_room n k rows ready.rows-within h, ready.rows-within.long)

  inside : i < n
  inside = c.requires.ready.1

  row-room-here : i * row_length + row_length ≤ length rows
  row-room-here = room i inside

-- the width of the row that is worked on
module _ (c : After-width_at-width) where
  abbrev start : Start
  start = (goal.at.After-width_at-width c).Start

  left-zero : c.width_at-width.result ≡ 0 → zero_left (row start) ≡ true
  left-zero e = sym (width-zero (row start)) ∙ eq-eqb (width (row start)) 0 (sym c.width_at-width.ensures ∙ e)

  left-nonzero : (c.width_at-width.result ≡ 0 → ⊥) → zero_left (row start) ≡ false
  left-nonzero n = sym (width-zero (row start)) ∙ ne_eqb (width (row start)) 0 (λ e. n (c.width_at-width.ensures ∙ e))

-- the settled row that is met
module _ (c : After-met_at-j) where
  abbrev tested : Else-width-eq0
  tested = (goal.at.After-met_at-j c).Else-width-eq0

  abbrev base : Start
  base = start (goal.at.Else-width-eq0 tested).After-width_at-width

  nonzero : zero_left (row base) ≡ false
  nonzero = left-nonzero (goal.at.Else-width-eq0 tested).After-width_at-width tested.if-width-eq0.false

  met-is : met base ≡ c.met_at-j.result
  met-is = sym c.met_at-j.ensures

-- the column, where no settled row is met
module _ (c : After-column_at-c) where
  abbrev unmet : After-met_at-j
  unmet = (goal.at.After-column_at-c c).After-met_at-j

  abbrev origin : Start
  origin = base unmet

  none-met : i origin ≤ met origin
  none-met = omega (arith, met-is unmet, c.if-j-i.false)

  column-is : found_or column_count (first_nonzero (leading_block (row origin))) ≡ c.column_at-c.result
  column-is = sym c.column_at-c.ensures

pub width_at-width-requires : goal.width_at-width-requires
width_at-width-requires c =
    let b = (goal.at.width_at-width-requires c).Start in
    (row-room-here b, b.requires.span_le_most_span.0, unused-width column_count b.args.span (ready b) (i b) (inside b) b.requires.span_le_most_span.1)

pub side_zero_at-requires : goal.side_zero_at-requires
side_zero_at-requires c = row-room-here (start (goal.at.side_zero_at-requires c).After-width_at-width)

pub drop_step-requires : goal.drop_step-requires
unfolding row_need
drop_step-requires c =
    let b = start (goal.at.drop_step-requires c).After-width_at-width in
    ((ready b).few-rows, inside b, (ready b).rows-within.long)

pub returns-then-side_zero_at : goal.returns-then-side_zero_at
returns-then-side_zero_at c =
    let b = start (goal.at.returns-then-side_zero_at c).After-width_at-width in
    let none = sym c.side_zero_at.ensures ∙ c.if-side_zero_at.true in
    reached-same c.drop_step.ensures.rows_after (ap (answer_of 0) c.drop_step.ensures.value)
    (step-zero (side b) (ready b) (inside b) (left-zero (goal.at.returns-then-side_zero_at c).After-width_at-width c.if-width-eq0.true) none)
    (drop-reached (ready b) (inside b))

pub returns-then-width-eq0 : goal.returns-then-width-eq0
returns-then-width-eq0 c =
    let b = start (goal.at.returns-then-width-eq0 c).After-width_at-width in
    let some = sym c.side_zero_at.ensures ∙ c.if-side_zero_at.false in
    rw c.stopped.ensures (reached-same refl refl
    (step-contradicts (side b) (ready b) (inside b) (left-zero (goal.at.returns-then-width-eq0 c).After-width_at-width c.if-width-eq0.true) some)
    (refused-reached (ready b) 9))

pub met_at-j-requires : goal.met_at-j-requires
met_at-j-requires c =
    let b = start (goal.at.met_at-j-requires c).After-width_at-width in
    (row-room-here b, search rules, search rules)

pub eliminate_step-requires : goal.eliminate_step-requires
eliminate_step-requires c =
    let d = (goal.at.eliminate_step-requires c).After-met_at-j in
    let b = base d in
    let met-j = c.if-j-i.true in record {
      ready = (ready b, inside b, met-j, (tested d).width_at-width.ensures);
      t = (
        met-nonzero (side b) (ready b) (inside b) (nonzero d) d.met_at-j.result (met-is d) met-j,
        b.requires.span_le_most_span.0,
        b.requires.span_le_most_span.1,
      );
    }

pub returns-then-j-i : goal.returns-then-j-i
returns-then-j-i c =
    let d = (goal.at.returns-then-j-i c).After-met_at-j in
    let b = base d in
    reached-same refl refl
    (step-met (side b) (ready b) (inside b) (nonzero d) d.met_at-j.result (met-is d) c.if-j-i.true)
    c.eliminate_step.ensures

pub column_at-c-requires : goal.column_at-c-requires
column_at-c-requires c = row-room-here (base (goal.at.column_at-c-requires c).After-met_at-j)

pub with_settled-requires : goal.with_settled-requires
with_settled-requires c =
    let d = (goal.at.with_settled-requires c).After-column_at-c in
    let b = origin d in
    let room = room-left (side b) (ready b) (inside b) (nonzero (unmet d)) (none-met d) d.column_at-c.result
    (column-is d) (omega (arith, c.if-c-lt-COLUMNS.true)) in
    (room, (ready b).four)

pub shift_step-requires : goal.shift_step-requires
shift_step-requires c =
    let d = (goal.at.shift_step-requires c).After-column_at-c in
    let b = origin d in (
      row-room-here b,
      small-numbers_at (n b) (rows b) (ready b).rows-within (i b) (inside b),
      (tested (unmet d)).width_at-width.ensures,
      b.requires.ready.2,
    )

pub returns-then-c-lt-COLUMNS : goal.returns-then-c-lt-COLUMNS
returns-then-c-lt-COLUMNS c =
    let d = (goal.at.returns-then-c-lt-COLUMNS c).After-column_at-c in
    let b = origin d in
    let column = d.column_at-c.result in
    reached-same refl (ap (answer_of 0) c.with_settled.ensures) refl
    (settled-reached (side b) (ready b) (inside b) (nonzero (unmet d)) (none-met d) column
    (column-is d) (omega (arith, c.if-c-lt-COLUMNS.true)))

pub returns-else-c-lt-COLUMNS : goal.returns-else-c-lt-COLUMNS
returns-else-c-lt-COLUMNS c =
    let d = (goal.at.returns-else-c-lt-COLUMNS c).After-column_at-c in
    let b = origin d in
    reached-same c.shift_step.ensures.rows_after c.shift_step.ensures.value
    (step-shift (side b) (ready b) (inside b) (nonzero (unmet d)) (none-met d) (omega (arith, column-is d, c.if-c-lt-COLUMNS.false)))
    (shift-reached (ready b) (inside b))
