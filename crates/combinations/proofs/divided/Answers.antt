-- `combinations::divided` meets its contract.
-- Assumes nothing.
use mathlib.Core.Path.{◌≡◌, sym, ◌∙◌, ap, ap₂, subst}
use mathlib.Core.List.{List, ◌++◌}
use Prim.Native.Nat.{◌*◌, ◌<◌, ◌∣◌}
use native.Mathlib.Omega.{arith}
use lib.Dec.{T}
use lib.IntN.{ℤ, pos, nat_abs}
use lib.ListN.{length, drop}
use lib.Signed.{lt_z}
use mir.Syntax.{w64}
use mir.Val.{to_z, of_z}
use mir.Facts.{to_z-of_z}
use Rattle.algebra.specs.Gcd.{content, divide_by, length-divide_by}
use Rattle.algebra.specs.Polynomials.{is_zero_of}
use Rattle.lists.specs.Tests.{every_append}
use Rattle.polynomials.specs.Content.{positive}
use Rattle.rules.specs.Limits.{small, coefficient_count, column_count, block_length}
use Rattle.rules.specs.Rows.{width}
use Rattle.rules.specs.Stores.{row_of}
use Rattle.rules.specs.Elimination.{limit_coefficients, consistent}
use Rattle.working_rows.specs.Found.{width-most, width-rest}
use Rattle.working_rows.specs.Worked.{Shown}
use Rattle.combinations.specs.Primitive.{divided-append, divides-append}
use Rattle.combinations.specs.Undivided.{divided-width}
use Rattle.combinations.proofs.divided.Goals as goal
use Rattle.combinations.proofs.divided.Goals.{Start}

-- the divisor, and the two parts
module _ (s : Start) where
  abbrev d : ℤ
  d = to_z w64 (of_z w64 s.args.d)

  divisor : d ≡ s.args.d
  divisor = to_z-of_z {w = w64} s.ranges.d

  some : 0 < nat_abs s.args.d
  some = (positive s.args.d s.requires.positive).1

  divides : nat_abs s.args.d ∣ content s.args.row.entries
  divides = (divides-append (nat_abs s.args.d) s.args.row.entries s.args.row.right s.requires.divides).0

  left_is : {l : List ℤ} → l ≡ divide_by (nat_abs d) s.args.row.entries → l ≡ divide_by (nat_abs s.args.d) s.args.row.entries
  left_is e = e ∙ ap (λ z. divide_by (nat_abs z) s.args.row.entries) divisor

  right_is : {l : List ℤ} → l ≡ divide_by (nat_abs d) s.args.row.right → l ≡ divide_by (nat_abs s.args.d) s.args.row.right
  right_is e = e ∙ ap (λ z. divide_by (nat_abs z) s.args.row.right) divisor

pub overflow_mul-width : goal.overflow_mul-width
overflow_mul-width c = omega (arith, c.requires.width_is, width-most c.args.row.entries)

pub divide_parts-requires : goal.divide_parts-requires
divide_parts-requires c =
    let s = (goal.at.divide_parts-requires c).Start in
    let row = s.args.row in
    let most = width-most row.entries in
    let same : width (row_of row.entries) * block_length ≡ row.width * column_count * coefficient_count = omega (arith, s.requires.width_is) in record {
      count_le_polynomial_count = (
        omega (arith, s.requires.width_is, most),
        omega (arith, s.requires.width_is, most, s.requires.full.entries-long),
        subst (λ n. T (is_zero_of (drop n row.entries))) same (width-rest row.entries s.requires.full.entries-long),
      );
      below = (s.requires.entries_below, subst (λ z. T (lt_z (pos 0) z)) (sym (divisor s)) s.requires.positive);
    }

pub limited-requires : goal.limited-requires
limited-requires c =
    let s = (goal.at.limited-requires c).Start in
    let e = left_is s c.divide_parts.ensures in
    let r = right_is s c.divide_part.ensures in (
      record {
        entries-long = ap length e ∙ length-divide_by (nat_abs s.args.d) s.args.row.entries ∙ s.requires.full.entries-long;
        right-long = ap length r ∙ length-divide_by (nat_abs s.args.d) s.args.row.right ∙ s.requires.full.right-long;
      },
      s.requires.width_is ∙ sym (ap (λ l. width (row_of l)) e ∙ divided-width (nat_abs s.args.d) s.args.row.entries (some s) (divides s)),
      c.both_small-within.ensures ∙ sym (every_append small c.divide_parts.new.numbers c.divide_part.new.p),
    )

pub returns : goal.returns
returns c =
    let s = (goal.at.returns c).Start in
    let row = s.args.row in
    let same = ap row_of (ap₂ ◌++◌ (left_is s c.divide_parts.ensures) (right_is s c.divide_part.ensures)
    ∙ sym (divided-append (nat_abs s.args.d) row.entries row.right)) in
    subst (λ r. Shown c.limited.result (consistent (limit_coefficients r))) same c.limited.ensures
