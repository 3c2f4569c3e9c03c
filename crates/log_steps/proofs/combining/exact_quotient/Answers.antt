-- `log_steps::combining::exact_quotient` meets its contract.
-- Assumes nothing.
use mathlib.Core.Path.{◌≡◌, sym, ◌∙◌, ap, ap₂}
use mathlib.Core.Bool.{Bool, true, false, ◌&&◌, and-false}
use mathlib.Core.List.{List, ◌++◌}
use Prim.Native.Nat.{ℕ}
use native.Mathlib.Omega.{arith}
use lib.IntN.{ℤ, nat_abs}
use mir.Syntax.{w64}
use mir.Val.{to_z, of_z}
use mir.Facts.{to_z-of_z}
use Rattle.algebra.specs.Gcd.{divide_by, length-divide_by}
use Rattle.lists.specs.Tests.{every, every_append, true-T}
use Rattle.rules.specs.Limits.{small}
use Rattle.rules.specs.Rows.{coefficients_of}
use Rattle.rules.specs.Stores.{row_of}
use Rattle.rules.specs.Layout.{coefficients_of-row_of-all}
use Rattle.rules.specs.Elimination.{within, beyond}
use Rattle.working_rows.specs.declared.WorkingRow.{WorkingRow}
use Rattle.working_rows.specs.Working.{numbers_held, length-held}
use Rattle.working_rows.specs.Worked.{refusal_of, worked_row, worked-held, limit-within, limit-beyond}
use Rattle.combinations.specs.Primitive.{divided-append}
use Rattle.combinations.specs.Undivided.{divided-width}
use Rattle.log_steps.specs.Logs.{divides_all}
use Rattle.log_steps.specs.Divisions.{content-exact}
use Rattle.log_steps.specs.StoreChanges.{positive-size}
use Rattle.log_steps.specs.StoreCombinations.{quotient_of, quotient-exact, quotient-inexact}
use Rattle.log_steps.proofs.combining.exact_quotient.Goals as goal
use Rattle.log_steps.proofs.combining.exact_quotient.Goals.{Else-not-divide_exactly-2, Start}

-- the row, and the integer
module _ (c : Start) where
  abbrev row : WorkingRow
  row = c.args.row

  abbrev left : List ℤ
  left = row.entries

  abbrev right : List ℤ
  right = row.right

  abbrev n : ℕ
  n = nat_abs c.args.d

  divisor : nat_abs (to_z w64 (of_z w64 c.args.d)) ≡ n
  divisor = ap nat_abs (to_z-of_z {w = w64} c.ranges.d)

  same_left : divides_all (nat_abs (to_z w64 (of_z w64 c.args.d))) left ≡ divides_all n left
  same_left = ap (λ k. divides_all k left) divisor

  same-right : divides_all (nat_abs (to_z w64 (of_z w64 c.args.d))) right ≡ divides_all n right
  same-right = ap (λ k. divides_all k right) divisor

  split : divides_all n (numbers_held row) ≡ (divides_all n left && divides_all n right)
  unfolding divides_all
  split = every_append _ left right

  inexact : (divides_all n left && divides_all n right) ≡ false → quotient_of n row ≡ beyond 13
  inexact e = quotient-inexact n row (split ∙ e)

  -- a part that was divided
  abbrev Divided : List ℤ → Bool → List ℤ → Type 0
  Divided l t m =
      (t ≡ divides_all (nat_abs (to_z w64 (of_z w64 c.args.d))) l)
      × (t ≡ true → m ≡ divide_by (nat_abs (to_z w64 (of_z w64 c.args.d))) l)

  exact-left : {t : Bool} {m : List ℤ} → Divided left t m → t ≡ true → (divides_all n left ≡ true) × (m ≡ divide_by n left)
  exact-left h e = (sym same_left ∙ sym h.0 ∙ e, h.1 e ∙ ap (λ k. divide_by k left) divisor)

  exact-right : {t : Bool} {m : List ℤ} → Divided right t m → t ≡ true → (divides_all n right ≡ true) × (m ≡ divide_by n right)
  exact-right h e = (sym same-right ∙ sym h.0 ∙ e, h.1 e ∙ ap (λ k. divide_by k right) divisor)

  abbrev numbers : List ℤ
  numbers = divide_by n (numbers_held row)

  joined : numbers ≡ divide_by n left ++ divide_by n right
  joined = divided-append n left right

  whole : coefficients_of (row_of numbers) ≡ numbers
  whole = coefficients_of-row_of-all numbers (length-divide_by n (numbers_held row) ∙ length-held row c.requires.full.0)

  small-split : every small numbers ≡ (every small (divide_by n left) && every small (divide_by n right))
  small-split = ap (every small) joined ∙ every_append small (divide_by n left) (divide_by n right)

  module _ (first : divides_all n left ≡ true) (second : divides_all n right ≡ true) where
    exact : divides_all n (numbers_held row) ≡ true
    exact = split ∙ ap₂ ◌&&◌ first second

    large : (every small (divide_by n left) && every small (divide_by n right)) ≡ false → quotient_of n row ≡ beyond 8
    large e = quotient-exact n row exact ∙ limit-beyond (row_of numbers) numbers whole (small-split ∙ e)

    within-limit : (every small (divide_by n left) && every small (divide_by n right)) ≡ true
        → quotient_of n row ≡ within (row_of numbers)
    within-limit e = quotient-exact n row exact ∙ limit-within (row_of numbers) numbers whole (small-split ∙ e)

  -- the new row
  new-worked : divides_all n left ≡ true
      → record { entries = divide_by n left; right = divide_by n right; width = row.width } ≡ worked_row (within (row_of numbers))
  new-worked e =
      worked-held (record { entries = divide_by n left; right = divide_by n right; width = row.width })
      (record {
        entries-long = length-divide_by n left ∙ c.requires.full.0.entries-long;
        right-long = length-divide_by n right ∙ c.requires.full.0.right-long;
      })
      (c.requires.full.1 ∙ sym (divided-width n left (positive-size c.args.d c.requires.full.2) ((content-exact n left).0 (true-T _ e))))
      ∙ ap (λ l. worked_row (within (row_of l))) (sym joined)

-- the integer divides both parts
module _ (q : Else-not-divide_exactly-2) where
  abbrev start : Start
  start = (goal.at.Else-not-divide_exactly-2 q).Start

  divided-left : (divides_all (n start) (left start) ≡ true)
      × (q.divide_exactly.new.numbers ≡ divide_by (n start) (left start))
  divided-left = exact-left start (q.divide_exactly.ensures.value, q.divide_exactly.ensures.numbers_after) (q.if-not-divide_exactly.false)

  divided-right : (divides_all (n start) (right start) ≡ true)
      × (q.divide_exactly-2.new.numbers ≡ divide_by (n start) (right start))
  divided-right = exact-right start (q.divide_exactly-2.ensures.value, q.divide_exactly-2.ensures.numbers_after)
      (q.if-not-divide_exactly-2.false)

pub returns-then-not-divide_exactly : goal.returns-then-not-divide_exactly
unfolding refusal_of
returns-then-not-divide_exactly c =
    let s = (goal.at.returns-then-not-divide_exactly c).Start in
    let first = c.divide_exactly.ensures.value ∙ same_left s in
    let e = inexact s (ap (λ t. t && divides_all (n s) (right s)) (sym first ∙ c.if-not-divide_exactly.true)) in
    ap refusal_of e

pub returns-then-not-divide_exactly-2 : goal.returns-then-not-divide_exactly-2
unfolding refusal_of
returns-then-not-divide_exactly-2 c =
    let s = (goal.at.returns-then-not-divide_exactly-2 c).Start in
    let second = c.divide_exactly-2.ensures.value ∙ same-right s in
    let e = inexact s (ap (λ t. divides_all (n s) (left s) && t) (sym second ∙ c.if-not-divide_exactly-2.true)
    ∙ and-false (divides_all (n s) (left s))) in
    ap refusal_of e

pub returns-then-not-all_small : goal.returns-then-not-all_small
unfolding refusal_of
returns-then-not-all_small c =
    let q = (goal.at.returns-then-not-all_small c).Else-not-divide_exactly-2 in
    let s = start q in
    let past = ap (every small) (sym (divided-left q).1) ∙ sym c.all_small.ensures ∙ c.if-not-all_small.true in
    let e = large s (divided-left q).0 (divided-right q).0 (ap (λ t. t && every small (divide_by (n s) (right s))) past) in
    let limit = ap refusal_of e in (λ z. omega (arith, limit, z), (sym limit, tt))

pub returns-then-not-all_small-2 : goal.returns-then-not-all_small-2
unfolding refusal_of
returns-then-not-all_small-2 c =
    let q = (goal.at.returns-then-not-all_small-2 c).Else-not-divide_exactly-2 in
    let s = start q in
    let past = ap (every small) (sym (divided-right q).1) ∙ sym c.all_small-2.ensures ∙ c.if-not-all_small-2.true in
    let first = every small (divide_by (n s) (left s)) in
    let e = large s (divided-left q).0 (divided-right q).0 (ap (λ t. first && t) past ∙ and-false first) in
    let limit = ap refusal_of e in (λ z. omega (arith, limit, z), (sym limit, tt))

pub returns : goal.returns
unfolding refusal_of
returns c =
    let q = (goal.at.returns c).Else-not-divide_exactly-2 in
    let s = start q in
    let one = divided-left q in
    let two = divided-right q in
    let little = ap (every small) (sym one.1) ∙ sym c.all_small.ensures ∙ c.if-not-all_small.false in
    let also = ap (every small) (sym two.1) ∙ sym c.all_small-2.ensures ∙ c.if-not-all_small-2.false in
    let e = within-limit s one.0 two.0 (ap₂ ◌&&◌ little also) in
    let limit = ap refusal_of e in (
      λ z. omega (arith, limit, z),
      (
        sym limit,
        ap₂ (λ a b. record { entries = a; right = b; width = s.args.row.width }) one.1 two.1 ∙ new-worked s one.0
            ∙ sym (ap worked_row e),
      ),
    )
