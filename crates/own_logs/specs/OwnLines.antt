-- The next step of our own run, as the lines of a log that the code works out before it is taken (SCOPE 13.51).
--
-- Main definitions
--   one_line l, no_lines_of        one line, with zeros in the place of the second, and none
--   LinesOf cs lines          the lines are the numbers of the steps cs
--   CombinationLine i j c t u l   the line of a combination of the rows t and u, where no degree is past 15
--   Readable rows p           a step may be made
--   Eliminated rows p j lines   the lines of an exchange, if there is one, and a combination
--   StepLines rows p lines    the lines of the next step of a run, where it is not refused
use Rattle.std.specs.Prelude.{ℕ, ◌*◌, ◌≤◌, ◌≡◌, true, cond, ltb, ℤ, length, take}
use mathlib.Core.List.{List, [], ◌∷◌, ◌++◌, map, flatten}
use Rattle.rules.specs.Calls.{zeros}
use Rattle.rules.specs.Rows.{Row, width, entry, combine, low_degrees}
use Rattle.rules.specs.Stores.{row_of}
use Rattle.rules.specs.Elimination.{State, going, leading, step, Multipliers, multipliers}
use Rattle.reduction.specs.declared.step.Progress.{Progress}
use Rattle.reduction.specs.Progress.{Ready, state_of}
use Rattle.reduction.specs.StoreExchange.{numbers_at, narrowed}
use Rattle.reduction.specs.StepLaws.{multipliers_in}
use Rattle.log_steps.specs.Logs.{Change, exchanging, combining, step_length}
use Rattle.own_logs.specs.Own.{change_numbers, divisor_of, step_changes}
use Rattle.own_logs.specs.declared.lines.Lines.{Lines}

abbrev pub one_line : List ℤ → Lines
one_line l = record { count = 1; first = l; second = zeros step_length }

abbrev pub no_lines_of : Lines
no_lines_of = record { count = 0; first = zeros step_length; second = zeros step_length }

-- So many of the two lines count.
abbrev pub numbers_of : Lines → List ℤ
numbers_of lines = take (lines.count * step_length) (lines.first ++ lines.second)

pub record LinesOf (cs : List Change) (lines : Lines) : Type 0 where
  pub count-is : lines.count ≡ length cs
  pub numbers-are : numbers_of lines ≡ flatten (map change_numbers cs)

-- Two lines at most, each of 36 numbers.
pub record Two (lines : Lines) : Type 0 where
  pub few : lines.count ≤ 2
  pub first-long : length lines.first ≡ step_length
  pub second-long : length lines.second ≡ step_length

-- ---- a combination

abbrev pub combined_by : Multipliers → Row → Row → Row
combined_by x t u = combine x.g x.h t u

abbrev pub combination_by : ℕ → ℕ → Multipliers → Row → Row → Change
combination_by i j x t u = combining i j (divisor_of (combined_by x t u)) x.g x.h

pub record CombinationLine (i j c : ℕ) (t u : Row) (l : List ℤ) : Type 0 where
  pub long : length l ≡ step_length
  pub said : let x = multipliers (entry u c) (entry t c) in
      low_degrees (combined_by x t u) ≡ true → l ≡ change_numbers (combination_by i j x t u)

-- ---- an elimination

-- What a step asks of the rows, with some relations.
pub record Readable (rows : List ℤ) (p : Progress) : Type 0 where
  pub relations : List ℤ
  pub ready : Ready rows relations p

-- The row in turn and settled row j after the exchange.
abbrev pub target_in : List ℤ → Progress → ℕ → Row
target_in rows p j = row_of (numbers_at (narrowed rows p.settled j) p.settled)

abbrev pub pivot_in : List ℤ → Progress → ℕ → Row
pivot_in rows p j = row_of (numbers_at (narrowed rows p.settled j) j)

abbrev pub multipliers_after : List ℤ → Progress → ℕ → Multipliers
multipliers_after rows p j = multipliers_in (narrowed rows p.settled j) p j

abbrev pub combined_in : List ℤ → Progress → ℕ → Row
combined_in rows p j = combined_by (multipliers_after rows p j) (target_in rows p j) (pivot_in rows p j)

abbrev pub eliminated_in : List ℤ → Progress → ℕ → List Change
eliminated_in rows p j =
    let i = p.settled in
    let rest = combination_by i j (multipliers_after rows p j) (target_in rows p j) (pivot_in rows p j) ∷ [] in
    cond (ltb (width (row_of (numbers_at rows i))) (width (row_of (numbers_at rows j)))) (exchanging i j ∷ rest) rest

pub record Eliminated (rows : List ℤ) (p : Progress) (j : ℕ) (lines : Lines) : Type 0 where
  pub two : Two lines
  pub said : low_degrees (combined_in rows p j) ≡ true → LinesOf (eliminated_in rows p j) lines

-- ---- a step

pub record StepLines (rows : List ℤ) (p : Progress) (lines : Lines) : Type 0 where
  pub two : Two lines
  pub said : (relations : List ℤ) (s : State) → Ready rows relations p → step leading (state_of rows relations p) ≡ going s
      → LinesOf (step_changes (state_of rows relations p)) lines
