-- `working_rows::shifting::shifted` meets its contract: blocks moved up and the last one in use cleared make the left part of the shifted
-- row, which is one block narrower; past the blocks that were moved it has only zeros, which are within ±C.
-- Assumes nothing.
use mathlib.Core.Path.{◌≡◌, sym, ◌∙◌, ap, ap₂, subst}
use mathlib.Core.Bool.{◌&&◌}
use mathlib.Core.List.{List, ◌++◌}
use Prim.Native.Nat.{ℕ, ◌*◌, ◌-◌, ◌<◌}
use native.Mathlib.Nat.{le_of_eq}
use native.Mathlib.Omega.{arith}
use lib.Dec.{T}
use lib.IntN.{ℤ, pos}
use lib.ListN.{length, take, replicate}
use lib.Seq.{paste, take_all}
use borrow.Author.Rules.{rules}
use Rattle.algebra.specs.Polynomials.{shift, length_shift}
use Rattle.lists.specs.Pasted.{paste-whole}
use Rattle.lists.specs.Tests.{every}
use Rattle.rules.specs.Limits.{coefficient_count, block_count, block_length, entries_length, small}
use Rattle.rules.specs.Rows.{shift_up, width}
use Rattle.rules.specs.Stores.{row_of}
use Rattle.rules.specs.Elimination.{limit_coefficients}
use Rattle.working_rows.specs.declared.WorkingRow.{WorkingRow}
use Rattle.working_rows.specs.Found.{width-most}
use Rattle.working_rows.specs.Working.{left_part, numbers_held, Full, length-held, small-apart}
use Rattle.working_rows.specs.Worked.{Shown}
use Rattle.working_rows.specs.Shifting.{shifted-long, shifted-numbers, shifted-narrower, row_of-shifted, over-cleared, small-front}
use Rattle.working_rows.proofs.shifting.shifted.Goals as goal
use Rattle.working_rows.proofs.shifting.shifted.Goals.{After-clear, After-move_blocks-left_within, After-put_moved-right_within, After-saturating_sub-last, Start, else-left_within, then-left_within}

-- the row, its entries and its right side
module _ (c : Start) where
  abbrev row : WorkingRow
  row = c.args.row

  abbrev e : List ℤ
  e = row.entries

  abbrev s : List ℤ
  s = row.right

  abbrev left : List ℤ
  left = left_part (shift_up (row_of e))

  long : length e ≡ entries_length
  long = c.requires.0.entries-long

  size : length s ≡ coefficient_count
  size = c.requires.0.right-long

  whole-side : take coefficient_count s ≡ s
  whole-side = take_all coefficient_count s (le_of_eq size)

-- the blocks that move up
module _ (c : After-saturating_sub-last) where
  abbrev start : Start
  start = (goal.at.After-saturating_sub-last c).Start

  abbrev blocks : ℕ
  blocks = c.saturating_sub-last.result

  narrower : blocks ≡ width (row_of (e start)) - 1
  narrower = c.saturating_sub-last.ensures ∙ ap (λ w. w - 1) start.requires.2

  few : blocks < block_count
  few = omega (arith, width-most (e start), narrower)

-- the shifted left part
module _ (c : After-clear) where
  abbrev moved : After-move_blocks-left_within
  moved = (goal.at.After-clear c).After-move_blocks-left_within

  abbrev chosen : After-saturating_sub-last
  chosen = (goal.at.After-move_blocks-left_within moved).After-saturating_sub-last

  left_is : c.clear.new.store ≡ left (start chosen)
  left_is =
      let b = start chosen in
      c.clear.ensures
      ∙ ap (λ d. paste d (blocks chosen * block_length) (replicate block_length (pos 0)) block_length) moved.move_blocks-left_within.ensures.entries_after
      ∙ over-cleared (e b) (s b) (long b) (size b) (blocks chosen) (narrower chosen)

-- the shifted row
module _ (c : After-put_moved-right_within) where
  abbrev cleared : After-clear
  cleared = (goal.at.After-put_moved-right_within c).After-clear

  abbrev known : After-saturating_sub-last
  known = chosen cleared

  abbrev origin : Start
  origin = start known

  abbrev new : WorkingRow
  new = record { entries = cleared.clear.new.store; right = c.put_moved-right_within.new.place; width = blocks known }

  side-is : new.right ≡ shift (s origin)
  side-is =
      c.put_moved-right_within.ensures.place_after ∙ ap (λ q. paste (s origin) 0 (shift q) coefficient_count) (whole-side origin)
      ∙ paste-whole (s origin) (shift (s origin)) coefficient_count (le_of_eq (size origin)) (length_shift (s origin) ∙ size origin)

  parts_are : numbers_held new ≡ left origin ++ shift (s origin)
  parts_are = ap₂ ◌++◌ (left_is cleared) side-is

  holds : row_of (numbers_held new) ≡ shift_up (row_of (numbers_held (row origin)))
  holds =
      let o = origin in
      ap row_of (parts_are ∙ sym (shifted-numbers (e o) (s o) (long o) (size o)))
      ∙ row_of-shifted (numbers_held (row o)) (length-held (row o) o.requires.0)

  full : Full new
  full =
      let o = origin in
      record {
        entries-long = ap length (left_is cleared) ∙ shifted-long (e o) (s o) (long o) (size o);
        right-long = ap length side-is ∙ length_shift (s o) ∙ size o;
      }

  wide : new.width ≡ width (row_of new.entries)
  wide =
      let o = origin in
      narrower known ∙ sym (shifted-narrower (e o) (s o) (long o) (size o)) ∙ sym (ap (λ l. width (row_of l)) (left_is cleared))

  within : every small (numbers_held new) ≡ ((moved cleared).move_blocks-left_within.result && c.put_moved-right_within.result)
  within =
      let o = origin in
      ap (every small) parts_are ∙ small-front (e o) (s o) (long o) (size o) (blocks known) (narrower known)
      ∙ ap₂ ◌&&◌ (sym (moved cleared).move_blocks-left_within.ensures.value)
      (sym (c.put_moved-right_within.ensures.value ∙ ap (λ q. every small (shift q)) (whole-side o)))

pub move_blocks-left_within-requires : goal.move_blocks-left_within-requires
move_blocks-left_within-requires c =
    let d = (goal.at.move_blocks-left_within-requires c).After-saturating_sub-last in
    let o = start d in
    (d.pascal-table.ensures, long o, (small-apart (row o) o.requires.1).0, omega (arith, few d))

pub overflow_mul-last : goal.overflow_mul-last
overflow_mul-last c = let h = few (goal.at.overflow_mul-last c).After-saturating_sub-last in search rules

pub clear-requires : goal.clear-requires
clear-requires c =
    let d = (goal.at.clear-requires c).After-saturating_sub-last in
    omega (arith, c.move_blocks-left_within.auto.entries, long (start d), few d)

pub put_moved-right_within-requires : goal.put_moved-right_within-requires
put_moved-right_within-requires c =
    let d = (goal.at.put_moved-right_within-requires c).After-saturating_sub-last in
    let o = start d in (
      d.pascal-table.ensures,
      le_of_eq (sym (size o)),
      le_of_eq (sym (size o)),
      subst (λ l. T (every small l)) (sym (whole-side o)) (small-apart (row o) o.requires.1).1,
    )

pub limited-requires : goal.limited-requires
limited-requires c =
    let d = (goal.at.limited-requires c).After-put_moved-right_within in (
      full d,
      wide d,
      elim c.if-left_within.branch [
        | then-left_within w ↦ w.limited-is ∙ sym (within d ∙ ap (λ t. t && d.put_moved-right_within.result) w.if-left_within.true)
        | else-left_within w ↦ w.limited-is ∙ w.if-left_within.false ∙ sym (within d ∙ ap (λ t. t && d.put_moved-right_within.result) w.if-left_within.false)
      ],
    )

pub returns : goal.returns
returns c = subst (λ r. Shown c.limited.result (limit_coefficients r)) (holds (goal.at.returns c).After-put_moved-right_within) c.limited.ensures
