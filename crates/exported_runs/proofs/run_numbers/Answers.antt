-- `exported_runs::run_numbers` meets its contract.
-- Assumes nothing.
use mathlib.Core.Path.{◌≡◌, ◌∙◌, ap}
use mathlib.Core.Bool.{cond}
use mathlib.Core.List.{[], ◌∷◌, ◌++◌}
use Prim.Native.Nat.{ℕ, ◌≤◌, zero-le}
use native.Mathlib.Omega.{arith}
use borrow.Author.Rules.{rules}
use lib.IntN.{ℤ, pos}
use lib.ListN.{get_or}
use mir.Syntax.{w64}
use mir.Val.{SFits}
use mir.Facts.{to_z-of_z}
use Rattle.lists.specs.Everywhere.{all-get_or-default}
use Rattle.std.proofs.Common.{Ok, subst, sym}
use Rattle.std.specs.Prelude.{Option, None, Some, is_some, unwrap_or}
use Rattle.multiplicities.specs.Counts.{no_root}
use Rattle.multiplicities.specs.declared.Root.{Root}
use Rattle.refusals.specs.Refusals.{number_of}
use Rattle.rules.specs.Calls.{zeros}
use Rattle.runs.specs.declared.RunReport.{RunReport}
use Rattle.runs.specs.CallLaws.{result_of}
use Rattle.export_results.specs.Results.{most_count, small-fits, small-value, count_fits, count-value, answer-value, four-columns}
use Rattle.exported_runs.specs.Runs.{run_numbers_of, SmallResult, refused-numbers}
use Rattle.exported_runs.proofs.run_numbers.Goals as goal
use Rattle.exported_runs.proofs.run_numbers.Goals.{After-unwrap_or-root}

-- A root, or what stands in its place.
times-or : (o : Option Root) (d : Root) → (unwrap_or o no_root).times ≤ 64 → d.times ≤ 64 → (unwrap_or o d).times ≤ 64
times-or None d h k = k
times-or (Some r) d h k = h

-- what is cast is small
module _ (c : After-unwrap_or-root) where
  abbrev report : RunReport
  report = c.in-Ok.report

  small : SmallResult (result_of (Ok report))
  small = subst (λ r. SmallResult (result_of r)) c.in-Ok.is c.requires

  relations : report.relations ≤ 64
  unfolding result_of
  relations = omega (arith, small.few-relations)

  shifts : report.shifts ≤ most_count
  unfolding result_of
  shifts = small.few-shifts

  column : (j : ℕ) → get_or report.order j 0 ≤ 64
  unfolding result_of
  column j = omega (arith, all-get_or-default (λ k. k ≤ 4) report.order 0 j zero-le small.columns)

  rank : report.rank ≤ 64
  unfolding result_of
  rank = omega (arith, small.low-rank)

  times : c.unwrap_or-root.result.times ≤ 64
  unfolding result_of
  times = subst (λ r. r.times ≤ 64) (sym c.unwrap_or-root.ensures) (times-or report.root _ small.few-times (omega arith))

pub returns-in_default : goal.returns-in_default
unfolding result_of zeros
returns-in_default c =
    sym (ap (λ r. run_numbers_of (result_of r)) c.in_default.is ∙ refused-numbers (number_of c.in_default.field-0))

pub overflow_cast-result : goal.overflow_cast-result
overflow_cast-result c = small-fits _ (relations (goal.at.overflow_cast-result c).After-unwrap_or-root)

pub overflow_cast-result-2 : goal.overflow_cast-result-2
overflow_cast-result-2 c = count_fits _ (shifts (goal.at.overflow_cast-result-2 c).After-unwrap_or-root)

pub overflow_cast-result-3 : goal.overflow_cast-result-3
overflow_cast-result-3 c = small-fits _ (column (goal.at.overflow_cast-result-3 c).After-unwrap_or-root 0)

pub overflow_cast-result-4 : goal.overflow_cast-result-4
overflow_cast-result-4 c = small-fits _ (column (goal.at.overflow_cast-result-4 c).After-unwrap_or-root 1)

pub overflow_cast-result-5 : goal.overflow_cast-result-5
overflow_cast-result-5 c = small-fits _ (column (goal.at.overflow_cast-result-5 c).After-unwrap_or-root 2)

pub overflow_cast-result-6 : goal.overflow_cast-result-6
overflow_cast-result-6 c = small-fits _ (column (goal.at.overflow_cast-result-6 c).After-unwrap_or-root 3)

pub overflow_cast-result-8 : goal.overflow_cast-result-8
overflow_cast-result-8 c = small-fits _ (rank (goal.at.overflow_cast-result-8 c).After-unwrap_or-root)

pub overflow_cast-result-9 : goal.overflow_cast-result-9
overflow_cast-result-9 c =
    let d = (goal.at.overflow_cast-result-9 c).After-unwrap_or-root in small-fits _ (omega (arith, times d, rank d))

pub returns : goal.returns
unfolding run_numbers_of result_of
returns c =
    let d = (goal.at.returns c).After-unwrap_or-root in
    let report = c.in-Ok.report in
    let order = report.order in
    let found = c.unwrap_or-root.result in
    let value : (j : ℕ) → ◌≡◌ {A = ℤ} _ (pos (get_or order j 0)) = λ j. small-value (get_or order j 0) (column d j) in
    let root : SFits w64 found.value = search rules in
    let same = c.unwrap_or-root.ensures in
    (λ i. small-value report.relations (relations d) i ∷ count-value report.shifts
    (shifts d) i ∷ value 0 i ∷ value 1 i ∷ value 2 i ∷ value 3 i
    ∷ (answer-value c.is_some.result ∙ ap (λ t. pos (cond t 1 0)) c.is_some.ensures) i
    ∷ (to_z-of_z {w = w64} {z = found.value} root ∙ ap (λ r. r.value) same) i ∷ small-value report.rank (rank d) i
    ∷ (small-value found.times (times d) ∙ ap (λ r. pos r.times) same) i ∷ [])
    ∙ ap (λ l. pos report.relations ∷ pos report.shifts ∷ (l ++ (pos (cond (is_some report.root) 1 0) ∷ (unwrap_or report.root no_root).value
    ∷ pos report.rank ∷ pos (unwrap_or report.root no_root).times ∷ [])))
    (four-columns order (small d).four)
    ∙ ap (λ r. run_numbers_of (result_of r)) (sym c.in-Ok.is)
