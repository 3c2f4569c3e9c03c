-- `writing::writer::plainly_fits` meets its contract: both tests bound the numbers of the lines, and each number takes at most 11 bytes.
-- Assumes nothing.
use mathlib.Core.Path.{◌≡◌, ap₂}
use Prim.Native.Nat.{ℕ, ◌+◌, ◌*◌, ◌≤◌}
use native.Mathlib.Omega.{arith}
use lib.Dec.{leb→le}
use lib.IntN.{ℤ, nat_abs}
use Rattle.rules.specs.Limits.{block_bound, polynomial_count}
use Rattle.number_texts.specs.TextBytes.{number_bytes}
use Rattle.writing.specs.LineLengths.{long_term, most_in_records_of, most-in-records, lines_length, lines-most}
use Rattle.writing.proofs.writer.plainly_fits.Goals as goal
use Rattle.writing.proofs.writer.plainly_fits.Goals.{After-most_in_records-2, Start}

-- the numbers of the terms, and the bytes of the lines
module _ (c : Start) where
  abbrev in_rows : ℕ
  in_rows = most_in_records_of 0 c.args.equations c.args.rows.now

  abbrev in-relations : ℕ
  in-relations = most_in_records_of 1 c.args.count c.args.relations.now

  few : in_rows ≤ c.args.equations * (polynomial_count * long_term)
  few = most-in-records 0 c.args.equations c.args.rows.now

  few-more : in-relations ≤ c.args.count * (polynomial_count * long_term)
  few-more = most-in-records 1 c.args.count c.args.relations.now

  most : (l : ℤ) → nat_abs l ≤ block_bound
      → lines_length l c.args.equations c.args.count c.args.rows.now c.args.relations.now
      ≤ number_bytes * (c.args.equations + 2 * c.args.count + (in_rows + in-relations))
  most l h =
      lines-most l c.args.equations c.args.count c.args.rows.now c.args.relations.now h c.requires.equations_le_most_equations.2
      c.requires.count_le_most_relations.2

pub returns-then-others-most : goal.returns-then-others-most
returns-then-others-most c =
    λ _ l h. omega (
      arith,
      most (goal.at.returns-then-others-most c).Start l h,
      few (goal.at.returns-then-others-most c).Start,
      few-more (goal.at.returns-then-others-most c).Start,
    )

-- what the calls counted
module _ (c : After-most_in_records-2) where
  abbrev start : Start
  start = (goal.at.After-most_in_records-2 c).Start

  counted : c.most_in_records.result + c.most_in_records-2.result ≡ in_rows start + in-relations start
  counted = ap₂ ◌+◌ c.most_in_records.ensures c.most_in_records-2.ensures

pub overflow_add-numbers : goal.overflow_add-numbers
overflow_add-numbers c = omega (arith, counted c, few (start c), few-more (start c))

pub overflow_add-result : goal.overflow_add-result
overflow_add-result c = omega (arith, counted c, few (start c), few-more (start c))

pub overflow_mul-result : goal.overflow_mul-result
overflow_mul-result c = omega (arith, counted c, few (start c), few-more (start c))

pub overflow_add-result-2 : goal.overflow_add-result-2
overflow_add-result-2 c = omega (arith, counted c, few (start c), few-more (start c))

pub returns : goal.returns
returns c = λ t l h. omega (arith, leb→le, most (start c) l h, counted c)
