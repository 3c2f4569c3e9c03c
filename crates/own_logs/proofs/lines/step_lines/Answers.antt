-- `own_logs::lines::step_lines` meets its contract: each way of the code is one case of the step.
-- Assumes nothing.
use mathlib.Core.Path.{◌≡◌, refl, sym, ◌∙◌, ap, subst}
use mathlib.Core.Bool.{Bool, true, false}
use mathlib.Core.List.{List, [], ◌∷◌}
use Prim.Native.Nat.{ℕ, ◌+◌, ◌*◌, ◌≤◌, ◌<◌}
use native.Mathlib.Numerals.{add-one}
use native.Mathlib.Omega.{arith}
use borrow.Author.Tests.{eq-eqb, ne_eqb}
use lib.IntN.{ℤ, pos}
use lib.ListN.{length}
use Rattle.algebra.specs.Polynomials.{is_zero_of}
use Rattle.rules.specs.Calls.{zeros}
use Rattle.rules.specs.Limits.{column_count, row_length}
use Rattle.rules.specs.Rows.{Row, zero_left, width, leading_block, first_nonzero}
use Rattle.rules.specs.Stores.{row_of}
use Rattle.rules.specs.Elimination.{State, going, leading, step}
use Rattle.theory.specs.Steps.{going≢refused}
use Rattle.working_rows.specs.Found.{found_or, entries_at, width-most}
use Rattle.working_rows.specs.Working.{width-zero}
use Rattle.reduction.specs.declared.step.Progress.{Progress}
use Rattle.reduction.specs.Progress.{Ready, state_of}
use Rattle.reduction.specs.NewRows.{row_room}
use Rattle.reduction.specs.StoreExchange.{numbers_at}
use Rattle.reduction.specs.StepCases.{step-contradicts, met-nonzero}
use Rattle.log_steps.specs.Logs.{raising, dropping}
use Rattle.own_logs.specs.Own.{change_numbers, step_changes}
use Rattle.own_logs.specs.OwnLines.{one_line, no_lines_of, LinesOf, StepLines}
use Rattle.own_logs.specs.LineLaws.{lines-one, lines_none, changes-zero, changes-met, changes-settled, changes-shift, met-low}
use Rattle.own_logs.proofs.lines.step_lines.Goals as goal
use Rattle.own_logs.proofs.lines.step_lines.Goals.{After-column_at, After-met_at-j, After-width_at-width, Else-width-eq0, Start}

-- the arguments
module _ (c : Start) where
  abbrev rows : List ℤ
  rows = c.args.rows.now

  abbrev p : Progress
  p = c.args.p

  abbrev i : ℕ
  i = p.settled

  abbrev n : ℕ
  n = p.rows

  abbrev row : Row
  row = row_of (numbers_at rows i)

  abbrev met : ℕ
  met = found_or i (first_nonzero (entries_at row p.order i))

  ready : Ready rows c.requires.0.relations p
  ready = c.requires.0.ready

  inside : i < n
  inside = c.requires.1

  room : i * row_length + row_length ≤ length rows
  room = omega (arith, row_room n i rows ready.rows-within inside, ready.rows-within.long)

  -- a row without left part that is not refused is a zero row
  dropped : (relations : List ℤ) (s : State) (t : Bool) → Ready rows relations p → zero_left row ≡ true → is_zero_of row.right ≡ t
      → step leading (state_of rows relations p) ≡ going s → step_changes (state_of rows relations p) ≡ dropping i ∷ []
  dropped relations s true r e f g = changes-zero r inside e f
  dropped relations s false r e f g = absurd (going≢refused (sym g ∙ step-contradicts leading r inside e f))

-- the row that is worked on
module _ (c : After-width_at-width) where
  abbrev start : Start
  start = (goal.at.After-width_at-width c).Start

  left-zero : c.width_at-width.result ≡ 0 → zero_left (row start) ≡ true
  left-zero e = sym (width-zero (row start)) ∙ eq-eqb (width (row start)) 0 (sym c.width_at-width.ensures ∙ e)

  left-nonzero : (c.width_at-width.result ≡ 0 → ⊥) → zero_left (row start) ≡ false
  left-nonzero n = sym (width-zero (row start)) ∙ ne_eqb (width (row start)) 0 (λ e. n (c.width_at-width.ensures ∙ e))

-- the settled row that is met
module _ (c : After-met_at-j) where
  abbrev tested : Else-width-eq0
  tested = (goal.at.After-met_at-j c).Else-width-eq0

  abbrev read : After-width_at-width
  read = (goal.at.Else-width-eq0 tested).After-width_at-width

  abbrev base : Start
  base = start read

  nonzero : zero_left (row base) ≡ false
  nonzero = left-nonzero read tested.if-width-eq0.false

  met-is : met base ≡ c.met_at-j.result
  met-is = sym c.met_at-j.ensures

-- the column, where no settled row is met
module _ (c : After-column_at) where
  abbrev unmet : After-met_at-j
  unmet = (goal.at.After-column_at c).After-met_at-j

  abbrev origin : Start
  origin = base unmet

  none-met : i origin ≤ met origin
  none-met = omega (arith, met-is unmet, c.if-j-i.false)

  column-is : found_or column_count (first_nonzero (leading_block (row origin))) ≡ c.column_at.result
  column-is = sym c.column_at.ensures

pub width_at-width-requires : goal.width_at-width-requires
width_at-width-requires c = (room c, omega arith, omega (arith, width-most (numbers_at (rows c) (i c))))

pub returns-then-width-eq0 : goal.returns-then-width-eq0
unfolding change_numbers zeros
returns-then-width-eq0 c =
    let narrow = (goal.at.returns-then-width-eq0 c).After-width_at-width in
    let l = narrow in
    let b = start l in
    let plain = c.plain in
    let line = plain.ensures ∙ (λ k. pos 5 ∷ pos (add-one (i b) k) ∷ zeros 34) in
    let long = ap length plain.ensures in
    subst (StepLines (rows b) (p b)) (sym c.one.ensures)
    (record {
      two = record { few = omega arith; first-long = long; second-long = refl };
      said =
          λ relations s r e. subst (λ cs. LinesOf cs (one_line plain.result))
          (sym (dropped b relations s (is_zero_of (row b).right) r (left-zero l c.if-width-eq0.true) refl e))
          (lines-one (dropping (i b)) plain.result line long);
    })

pub met_at-j-requires : goal.met_at-j-requires
met_at-j-requires c =
    let b = start (goal.at.met_at-j-requires c).After-width_at-width in (room b, (ready b).few-settled, (ready b).columns)

pub elimination-requires : goal.elimination-requires
elimination-requires c =
    let d = (goal.at.elimination-requires c).After-met_at-j in
    let b = base d in
    let met-j = c.if-j-i.true in record {
      readable = (b.requires.0, inside b, met-j, (read d).width_at-width.ensures);
      t = met-nonzero leading (ready b) (inside b) (nonzero d) d.met_at-j.result (met-is d) met-j;
    }

pub returns-then-j-i : goal.returns-then-j-i
returns-then-j-i c =
    let d = (goal.at.returns-then-j-i c).After-met_at-j in
    let b = base d in
    let j = d.met_at-j.result in
    let h = c.if-j-i.true in
    record {
      two = c.elimination.ensures.two;
      said =
          λ relations s r e. subst (λ cs. LinesOf cs c.elimination.result)
          (sym (changes-met r (inside b) (nonzero d) j (met-is d) h))
          (c.elimination.ensures.said (met-low r (inside b) j h s (nonzero d) (met-is d) e));
    }

pub column_at-requires : goal.column_at-requires
column_at-requires c = room (base (goal.at.column_at-requires c).After-met_at-j)

pub returns-then-column_at-lt-COLUMNS : goal.returns-then-column_at-lt-COLUMNS
unfolding zeros
returns-then-column_at-lt-COLUMNS c =
    let d = (goal.at.returns-then-column_at-lt-COLUMNS c).After-column_at in
    let b = origin d in
    record {
      two = record { few = omega arith; first-long = refl; second-long = refl };
      said =
          λ relations s r e. subst (λ cs. LinesOf cs no_lines_of)
          (sym (changes-settled r (inside b) (nonzero (unmet d)) (none-met d) d.column_at.result (column-is d)
          (omega (arith, c.if-column_at-lt-COLUMNS.true))))
          lines_none;
    }

pub returns : goal.returns
unfolding change_numbers zeros
returns c =
    let d = (goal.at.returns c).After-column_at in
    let b = origin d in
    let plain = c.plain-2 in
    let line = plain.ensures ∙ (λ k. pos 3 ∷ pos (add-one (i b) k) ∷ zeros 34) in
    let long = ap length plain.ensures in
    subst (StepLines (rows b) (p b)) (sym c.one-2.ensures)
    (record {
      two = record { few = omega arith; first-long = long; second-long = refl };
      said =
          λ relations s r e. subst (λ cs. LinesOf cs (one_line plain.result))
          (sym (changes-shift r (inside b) (nonzero (unmet d)) (none-met d) (omega (arith, column-is d, c.if-column_at-lt-COLUMNS.false))))
          (lines-one (raising (i b)) plain.result line long);
    })
