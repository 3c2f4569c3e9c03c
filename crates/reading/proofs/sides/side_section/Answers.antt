-- `reading::sides::side_section` meets its contract: the number of sides, those of the equations, and those of the relations.
-- Assumes nothing.
use mathlib.Core.Path.{◌≡◌, refl}
use Prim.Native.Nat.{◌+◌}
use native.Mathlib.Omega.{arith}
use lib.ListN.{drop}
use Rattle.reading.specs.Sides.{section-count-fault, section-rows-fault, section-relations-fault, section-gives}
use Rattle.rules.specs.Numbers.{got, field}
use Rattle.rules.specs.Sheets.{always, judge_side_count}
use Rattle.tokens.specs.Fields.{read-err, read-ok, read-within, fails-on, reads}
use Rattle.reading.proofs.sides.side_section.Goals as goal
use Rattle.reading.proofs.sides.side_section.Goals.{In_ok-k}

pub total_at-requires : goal.total_at-requires
total_at-requires c = omega (arith, c.requires.at_in_bounds)

-- The number of sides, as it was read.
module _ (c : In_ok-k) where
  counted : field (judge_side_count (c.args.equations + c.args.count)) (always 10) (drop c.args.at c.args.bytes.now)
      ≡ got c.in_ok-k.k.value (drop c.in_ok-k.k.at c.args.bytes.now)
  counted = read-ok c.in_ok-k.ensures

pub returns-in_err-k : goal.returns-in_err-k
returns-in_err-k c =
    fails-on _ c.in_err-k.field-0.0 c.from_residual.ensures.1
    (section-count-fault _ _ _ _ _ (read-err c.in_err-k.ensures))

pub sides_at-requires-clause-at_in_bounds : goal.sides_at-requires-clause-at_in_bounds
sides_at-requires-clause-at_in_bounds c = (read-within c.in_ok-k.ensures, omega (arith, c.requires.at_in_bounds), c.requires.at_in_bounds.2)

pub returns-in_err-e : goal.returns-in_err-e
returns-in_err-e c =
    fails-on _ c.in_err-e.field-0.0 c.from_residual-in_err-e.ensures.1
    (section-rows-fault _ _ _ _ _ _ _ (counted (goal.at.returns-in_err-e c).In_ok-k) (read-err c.in_err-e.ensures))

pub sides_at-requires-2-clause-at_in_bounds : goal.sides_at-requires-2-clause-at_in_bounds
sides_at-requires-2-clause-at_in_bounds c = (read-within c.in_ok-e.ensures, c.requires.at_in_bounds.2, omega arith)

pub returns-in_err-r : goal.returns-in_err-r
returns-in_err-r c =
    fails-on _ c.in_err-r.field-0.0 c.from_residual-in_err-r.ensures.1
    (section-relations-fault _ _ _ _ _ _ _ (counted (goal.at.returns-in_err-r c).In_ok-k) _ _ _ (read-ok c.in_ok-e.ensures)
    c.requires.row_length_in_bounds.0 (read-err c.in_err-r.ensures))

pub returns : goal.returns
returns c =
    reads refl
    (section-gives _ _ _ _ _ _ _ (counted (goal.at.returns c).In_ok-k) _ _ _ (read-ok c.in_ok-e.ensures)
    c.requires.row_length_in_bounds.0 (read-ok c.in_ok-r.ensures) c.requires.row_length_in_bounds.1)
    (read-within c.in_ok-r.ensures)
