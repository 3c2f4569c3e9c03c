-- `exported_sheets::reads::read_numbers` meets its contract.
-- Assumes nothing.
use mathlib.Core.Path.{◌≡◌, ◌∙◌, ap}
use mathlib.Core.List.{[], ◌∷◌, ◌++◌}
use Prim.Native.Nat.{ℕ, ◌≤◌, zero-le}
use native.Mathlib.Omega.{arith}
use borrow.Author.Rules.{sfits_of}
use lib.IntN.{ℤ, pos}
use lib.ListN.{get_or}
use mir.Syntax.{w64}
use mir.Facts.{to_z-of_z}
use Rattle.lists.specs.Everywhere.{all-get_or-default}
use Rattle.stores.specs.Validity.{the_sizes_of}
use Rattle.reading.specs.WholeSheet.{result_of}
use Rattle.export_results.specs.Results.{small-fits, small-value, four-columns}
use Rattle.exported_sheets.specs.Reads.{read_numbers_of}
use Rattle.exported_sheets.proofs.reads.read_numbers.Goals as goal
use Rattle.exported_sheets.proofs.reads.read_numbers.Goals.{Start}

-- what is cast is small
module _ (c : Start) where
  unknowns : c.args.sheet.sizes.m ≤ 64
  unfolding result_of the_sizes_of
  unknowns = omega (arith, c.requires.few-unknowns)

  equations : c.args.sheet.sizes.equations ≤ 64
  unfolding result_of the_sizes_of
  equations = omega (arith, c.requires.few-equations)

  relations : c.args.sheet.relations ≤ 64
  unfolding result_of
  relations = omega (arith, c.requires.few-relations)

  column : (j : ℕ) → get_or c.args.sheet.order j 0 ≤ 64
  unfolding result_of
  column j = omega (arith, all-get_or-default (λ k. k ≤ 4) c.args.sheet.order 0 j zero-le c.requires.columns)

pub overflow_cast-result : goal.overflow_cast-result
overflow_cast-result c = small-fits _ (unknowns (goal.at.overflow_cast-result c).Start)

pub overflow_cast-result-2 : goal.overflow_cast-result-2
overflow_cast-result-2 c = small-fits _ (relations (goal.at.overflow_cast-result-2 c).Start)

pub overflow_cast-result-3 : goal.overflow_cast-result-3
overflow_cast-result-3 c = small-fits _ (column (goal.at.overflow_cast-result-3 c).Start 0)

pub overflow_cast-result-4 : goal.overflow_cast-result-4
overflow_cast-result-4 c = small-fits _ (column (goal.at.overflow_cast-result-4 c).Start 1)

pub overflow_cast-result-5 : goal.overflow_cast-result-5
overflow_cast-result-5 c = small-fits _ (column (goal.at.overflow_cast-result-5 c).Start 2)

pub overflow_cast-result-6 : goal.overflow_cast-result-6
overflow_cast-result-6 c = small-fits _ (column (goal.at.overflow_cast-result-6 c).Start 3)

pub overflow_cast-result-7 : goal.overflow_cast-result-7
overflow_cast-result-7 c = small-fits _ (equations (goal.at.overflow_cast-result-7 c).Start)

pub returns : goal.returns
unfolding read_numbers_of result_of the_sizes_of
returns c =
    let start = (goal.at.returns c).Start in
    let sheet = start.args.sheet in
    let order = sheet.order in
    let value : (j : ℕ) → ◌≡◌ {A = ℤ} _ (pos (get_or order j 0)) = λ j. small-value (get_or order j 0) (column start j) in
    (λ i. small-value sheet.sizes.m (unknowns start) i ∷ to_z-of_z {w = w64} {z = sheet.sizes.l}
    (sfits_of c.struct_told-1.given.1.1.0.1) i
    ∷ to_z-of_z {w = w64} {z = sheet.sizes.t} (sfits_of c.struct_told-1.given.1.1.1.0.1) i ∷ small-value sheet.relations
    (relations start) i ∷ value 0 i ∷ value 1 i ∷ value 2 i ∷ value 3 i ∷ small-value sheet.sizes.equations (equations start) i ∷ [])
    ∙ ap (λ l. pos sheet.sizes.m ∷ sheet.sizes.l ∷ sheet.sizes.t ∷ pos sheet.relations ∷ (l ++ (pos sheet.sizes.equations ∷ [])))
    (four-columns order start.requires.four)
