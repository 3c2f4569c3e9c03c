-- `working_rows::entries::first_met` meets its contract. The loop's invariant: the leading entries at the first j columns of the order are zero.
-- Assumes nothing.
use mathlib.Core.Path.{◌≡◌, refl, sym, ◌∙◌, ap, subst}
use mathlib.Core.List.{List, []}
use Prim.Native.Nat.{ℕ, ◌+◌, ◌*◌, ◌-◌, ◌≤◌, ◌<◌}
use native.Mathlib.Omega.{arith}
use lib.IntN.{ℤ}
use lib.ListN.{length, take, drop, get_or}
use lib.Seq.{take_all, length-take-le, get_or-take}
use Rattle.algebra.specs.Polynomials.{Polynomial, is_zero_of}
use Rattle.rules.specs.Limits.{coefficient_count, column_count}
use Rattle.lists.specs.Tests.{every, every-longer}
use Rattle.rules.specs.Stores.{row_of}
use Rattle.stores.specs.Flat.{entry_at}
use Rattle.working_rows.specs.Found.{found_or, entries_at, Columns-at, length-entries_at, get_or-entries_at, first_nonzero-some}
use Rattle.working_rows.specs.Found.{first_nonzero-none}
use Rattle.working_rows.proofs.entries.first_met.Goals as goal
use Rattle.working_rows.proofs.entries.first_met.Goals.{After-is_zero, In-loop-j}

-- column j of the order
module _ (c : In-loop-j) where
  abbrev column : ℕ
  column = get_or (take c.args.settled c.args.order) c.loop-j.j 0

  left : c.loop-j.j < c.args.settled
  left = omega (arith, length-take-le c.args.settled c.args.order (omega arith))

  column-is : column ≡ get_or c.args.order c.loop-j.j 0
  column-is = get_or-take c.args.settled c.args.order c.loop-j.j 0 left

  below : column < column_count
  below = subst (λ n. n < column_count) (sym column-is) (Columns-at c.args.order c.requires.2 c.loop-j.j)

-- the test of the leading entry there
module _ (c : After-is_zero) where
  abbrev numbers : List ℤ
  numbers = c.args.entries.now

  abbrev order : List ℕ
  order = c.args.order

  abbrev settled : ℕ
  settled = c.args.settled

  abbrev entries : List Polynomial
  entries = entries_at (row_of numbers) order settled

  enough : settled ≤ length order
  enough = omega arith

  abbrev here : In-loop-j
  here = (goal.at.After-is_zero c).In-loop-j

  abbrev j : ℕ
  j = c.loop-j.j

  inside : j < length entries
  inside = rw (length-entries_at (row_of numbers) order settled enough) (left here)

  tested : c.is_zero.result ≡ is_zero_of (get_or entries j [])
  tested =
      let k = column here in
      let entry_here = get_or-entries_at (row_of numbers) order settled j enough (left here) in
      let size : k * coefficient_count + coefficient_count - k * coefficient_count ≡ coefficient_count = omega arith in
      c.is_zero.ensures ∙ ap (λ n. is_zero_of (take n (drop (k * coefficient_count) numbers))) size
      ∙ ap (λ m. is_zero_of (take coefficient_count (drop (m * coefficient_count) numbers))) (column-is here)
      ∙ sym (ap is_zero_of (entry_here ∙ entry_at numbers (get_or order j 0) (Columns-at order c.requires.2 j)))

pub loop-j-init : goal.loop-j-init
unfolding every
loop-j-init c = refl

pub overflow_mul-from : goal.overflow_mul-from
overflow_mul-from c = omega (arith, below (goal.at.overflow_mul-from c).In-loop-j)

pub overflow_add-to : goal.overflow_add-to
overflow_add-to c = omega (arith, below (goal.at.overflow_add-to c).In-loop-j)

pub offset_bounds-entries-from : goal.offset_bounds-entries-from
offset_bounds-entries-from c = omega (arith, below (goal.at.offset_bounds-entries-from c).In-loop-j)

pub slice_bounds-is_zero-end : goal.slice_bounds-is_zero-end
slice_bounds-is_zero-end c = omega (arith, below (goal.at.slice_bounds-is_zero-end c).In-loop-j)

pub returns-then-not-is_zero : goal.returns-then-not-is_zero
unfolding found_or
returns-then-not-is_zero c =
    let t = (goal.at.returns-then-not-is_zero c).After-is_zero in
    let nonzero = sym (tested t) ∙ c.if-not-is_zero.true in
    sym (ap (found_or c.args.settled) (first_nonzero-some (entries t) (j t) (inside t) c.loop-j.invariant nonzero))

pub loop-j-preserved : goal.loop-j-preserved
loop-j-preserved c =
    let t = (goal.at.loop-j-preserved c).After-is_zero in
    every-longer is_zero_of (entries t) (j t) [] (inside t) c.loop-j.invariant (sym (tested t) ∙ c.if-not-is_zero.false)

pub returns : goal.returns
unfolding found_or
returns c =
    let args = c.args in
    let entries = entries_at (row_of args.entries.now) args.order args.settled in
    let size : length entries ≡ args.settled = length-entries_at (row_of args.entries.now) args.order args.settled (omega arith) in
    let taken : length (take args.settled args.order) ≡ args.settled = length-take-le args.settled args.order (omega arith) in
    let passed = ap (every is_zero_of) (sym (take_all c.loop-j.j entries (omega arith))) ∙ c.loop-j.invariant in
    sym (ap (found_or args.settled) (first_nonzero-none entries passed))
