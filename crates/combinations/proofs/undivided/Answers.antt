-- `combinations::undivided` meets its contract.
-- Assumes nothing.
use mathlib.Core.Path.{◌≡◌, sym, ◌∙◌, ap, subst}
use mathlib.Core.Bool.{true}
use mathlib.Core.List.{List}
use Rattle.std.proofs.Common.{Option, Some}
use Prim.Native.Nat.{ℕ, ◌*◌, ◌-◌, ◌/◌, ◌≤◌, max}
use native.Mathlib.Omega.{arith}
use lib.Dec.{T}
use lib.IntN.{ℤ}
use lib.ListN.{length, take, drop}
use Rattle.algebra.specs.Polynomials.{Polynomial, is_zero_of}
use Rattle.lists.specs.Tests.{T-&&, true-T}
use Rattle.rules.specs.Limits.{coefficient_count, column_count, entries_length}
use Rattle.rules.specs.Rows.{width}
use Rattle.rules.specs.Stores.{row_of}
use Rattle.working_rows.specs.declared.WorkingRow.{WorkingRow}
use Rattle.working_rows.specs.Working.{left-long, behind-all}
use Rattle.combinations.specs.declared.Known.{Known}
use Rattle.combinations.specs.Combination.{both_within_of, Shortened, combinations}
use Rattle.combinations.specs.Parts.{PartsFit, PartsMade}
use Rattle.combinations.specs.Undivided.{RowsFit, blocks-most, left-fits, right-fits, left-made, right-made, right_sums}
use Rattle.combinations.specs.Undivided.{past-left, past-right, after-long, after-width, made-whole}
use Rattle.combinations.proofs.undivided.Goals as goal
use Rattle.combinations.proofs.undivided.Goals.{After-max-blocks, Start}

tails : (n : ℕ) (g h : Polynomial) → both_within_of n g h ≡ true → T (is_zero_of (drop n g)) × T (is_zero_of (drop n h))
tails n g h e = (T-&& (is_zero_of (drop n g)) (is_zero_of (drop n h))).0 (true-T _ e)

-- the shortened multipliers, and how many blocks are gone over
module _ (w : After-max-blocks) where
  abbrev start : Start
  start = (goal.at.After-max-blocks w).Start

  abbrev g : Polynomial
  g = start.args.g.now

  abbrev h : Polynomial
  h = start.args.h.now

  abbrev target : WorkingRow
  target = start.args.target

  abbrev pivot : List ℤ
  pivot = start.args.pivot.now

  abbrev a : Polynomial
  a = w.front_of-a.result.now

  abbrev b : Polynomial
  b = w.front_of-b.result.now

  fits : RowsFit g h target pivot start.args.width
  fits = start.requires

  x : Shortened a g
  x = w.front_of-a.ensures

  y : Shortened b h
  y = w.front_of-b.ensures

  blocks-are : w.max-blocks.result ≡ max target.width start.args.width
  blocks-are = w.max-blocks.ensures

  behind : take (length pivot - entries_length) (drop entries_length pivot) ≡ drop entries_length pivot
  behind = behind-all pivot start.requires.pivot-long

  right_side : {before : Known} {after : List ℤ} {r : Option Known}
      → PartsMade (combinations (length target.right / coefficient_count) a b target.right
      (take (length pivot - entries_length) (drop entries_length pivot))) before after r
      → PartsMade (right_sums fits) before after r
  right_side {before} {after} {r} made =
      right-made fits x y
      (subst (λ l. PartsMade (combinations (length target.right / coefficient_count) a b target.right l) before after r) behind made)

pub front_of-a-requires : goal.front_of-a-requires
front_of-a-requires c =
    (c.requires.g-long, c.common_length-n.ensures.0, c.common_length-n.ensures.1, (tails c.common_length-n.result c.args.g.now c.args.h.now c.common_length-n.ensures.2).0)

pub front_of-b-requires : goal.front_of-b-requires
front_of-b-requires c =
    (c.requires.h-long, c.common_length-n.ensures.0, c.common_length-n.ensures.1, (tails c.common_length-n.result c.args.g.now c.args.h.now c.common_length-n.ensures.2).1)

pub slice_bounds-put_parts-end-2 : goal.slice_bounds-put_parts-end-2
slice_bounds-put_parts-end-2 c = sym (left-long c.args.pivot.now c.requires.pivot-long)

pub overflow_mul-blocks : goal.overflow_mul-blocks
overflow_mul-blocks c = let w = (goal.at.overflow_mul-blocks c).After-max-blocks in omega (arith, blocks-are w, blocks-most (fits w))

pub put_parts-requires : goal.put_parts-requires
put_parts-requires c =
    let w = (goal.at.put_parts-requires c).After-max-blocks in
    let s = start w in
    let most = blocks-most (fits w) in
    let long = s.requires.target-full.entries-long in record {
      count_le_polynomial_count = (
        omega (arith, blocks-are w, most),
        omega (arith, blocks-are w, most, long),
        left-long (pivot w) s.requires.pivot-long ∙ sym long,
      );
      parts_fit = subst (λ n. PartsFit (n * column_count) (a w) (b w) (target w).entries (take entries_length (pivot w))) (sym (blocks-are w))
          (left-fits (fits w) (x w) (y w));
    }

pub returns-in_err-left : goal.returns-in_err-left
returns-in_err-left c =
    let w = (goal.at.returns-in_err-left c).After-max-blocks in
    c.from_residual.ensures ∙ past-left (fits w) (left-made (fits w) (x w) (y w) c.in_err-left.ensures)

pub put_parts-requires-2 : goal.put_parts-requires-2
put_parts-requires-2 c =
    let w = (goal.at.put_parts-requires-2 c).After-max-blocks in
    let s = start w in
    let parts = right-fits (fits w) (x w) (y w) in record {
      count_le_polynomial_count = (
        omega arith,
        omega (arith, s.requires.target-full.right-long),
        ap length (behind w) ∙ parts.same,
      );
      parts_fit = subst (PartsFit 1 (a w) (b w) (target w).right) (sym (behind w)) parts;
    }

pub returns-in_err-all : goal.returns-in_err-all
returns-in_err-all c =
    let w = (goal.at.returns-in_err-all c).After-max-blocks in
    c.from_residual-in_err-all.ensures ∙ past-right (fits w) (right_side w c.in_err-all.ensures)

pub width_within-after-requires : goal.width_within-after-requires
width_within-after-requires c =
    let w = (goal.at.width_within-after-requires c).After-max-blocks in
    let made = left-made (fits w) (x w) (y w) c.in_ok-left.ensures in (
      after-long (fits w) made,
      omega (arith, blocks-are w, blocks-most (fits w)),
      subst (λ n. width (row_of c.put_parts.new.place) ≤ n) (sym (blocks-are w)) (after-width (fits w) made),
    )

pub returns : goal.returns
returns c =
    let w = (goal.at.returns c).After-max-blocks in
    ap (λ n. Some (record {
      content = c.in_ok-all.all.content;
      within = c.in_ok-all.all.within;
      row = record { entries = c.put_parts.new.place; right = c.put_parts-2.new.place; width = n };
    })) c.width_within-after.ensures
    ∙ made-whole (fits w) (left-made (fits w) (x w) (y w) c.in_ok-left.ensures) (right_side w c.in_ok-all.ensures)
