-- `reading::sides::side_at` meets its contract: the number of coefficients, and then as many coefficients.
-- Assumes nothing.
use mathlib.Core.Path.{◌≡◌, ap}
use Prim.Native.Nat.{◌≤◌}
use borrow.Author.Rules.{rules}
use lib.Dec.{T}
use lib.IntN.{ℤ, nat_abs}
use lib.ListN.{drop}
use lib.Signed.{non_neg}
use mir.Syntax.{w64}
use mir.Val.{SFits}
use mir.Facts.{to_z-of_z, Fits-nat_abs}
use Rattle.rules.specs.Limits.{coefficient_count}
use Rattle.rules.specs.Numbers.{got, field}
use Rattle.rules.specs.Sheets.{after_count_of, judge_side_of}
use Rattle.tokens.specs.Fields.{read-err, read-ok, read-within, fails-on, reads, field-judged}
use Rattle.reading.specs.Sides.{side-zero, side-count-fault, side-fault, side-got}
use Rattle.reading.proofs.sides.side_at.Goals as goal
use Rattle.reading.proofs.sides.side_at.Goals.{After-struct_told-1, Start}

pub returns-in_err-k : goal.returns-in_err-k
returns-in_err-k c =
    fails-on _ c.in_err-k.field-0.0 c.from_residual.ensures.1
    (side-count-fault _ _ _ (read-err c.in_err-k.ensures))

-- The number of coefficients, as it was read.
module _ (c : After-struct_told-1) where
  abbrev start : Start
  start = (goal.at.After-struct_told-1 c).Start

  abbrev k : ℤ
  k = c.in_ok-k.k.value

  fits : SFits w64 k
  fits = search rules

  read : field (judge_side_of start.args.needed) after_count_of (drop start.args.at start.args.bytes.now)
      ≡ got k (drop c.in_ok-k.k.at start.args.bytes.now)
  read = read-ok c.in_ok-k.ensures

  bounds : T (non_neg k) × (nat_abs k ≤ coefficient_count)
  bounds = side-zero start.args.needed k (field-judged (judge_side_of start.args.needed) after_count_of _ read)

pub overflow_cast-k : goal.overflow_cast-k
overflow_cast-k c = rw (to_z-of_z {w = w64} (fits c)) ((bounds c).0, Fits-nat_abs tt (fits c))

pub coefficients_at-requires : goal.coefficients_at-requires
coefficients_at-requires c = record {
  at_in_bounds = (
    read-within c.in_ok-k.ensures,
    rw (to_z-of_z {w = w64} (fits (goal.at.coefficients_at-requires c).After-struct_told-1)) (bounds (goal.at.coefficients_at-requires c).After-struct_told-1).1,
  );
  p_len = (start (goal.at.coefficients_at-requires c).After-struct_told-1).requires.1;
}

pub returns-in_err-c : goal.returns-in_err-c
returns-in_err-c c =
    let d = (goal.at.returns-in_err-c c).After-struct_told-1 in
    fails-on _ c.in_err-c.field-0.0 c.from_residual-in_err-c.ensures.1
    (side-fault _ _ _ (read d) (read-err (rw (to_z-of_z {w = w64} (fits d)) at c.in_err-c.ensures)))

pub still_none-requires : goal.still_none-requires
still_none-requires c = tt

pub returns : goal.returns
returns c =
    let d = (goal.at.returns c).After-struct_told-1 in
    reads (ap (λ t. (c.coefficients_at.new.p, t)) c.still_none.ensures)
    (side-got _ _ _ (read d) (read-ok (rw (to_z-of_z {w = w64} (fits d)) at c.in_ok-c.ensures)))
    (read-within c.in_ok-c.ensures)
