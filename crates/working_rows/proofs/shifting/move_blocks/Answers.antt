-- `working_rows::shifting::move_blocks` meets its contract. The loop's invariant: the first e polynomials are those of the shifted row, the
-- numbers past them are as they were, and `within` is the test of what is written.
-- Assumes nothing.
use mathlib.Core.Path.{◌≡◌, refl, sym, ◌∙◌, ap, ap₂, subst}
use mathlib.Core.Bool.{◌&&◌, and-true, and-false}
use mathlib.Core.List.{List}
use Prim.Native.Nat.{ℕ, ◌+◌, ◌*◌, ◌≤◌}
use native.Mathlib.Omega.{arith}
use lib.Dec.{T}
use lib.IntN.{ℤ}
use lib.ListN.{length, take, drop}
use lib.Seq.{paste}
use Rattle.algebra.specs.Polynomials.{shift}
use Rattle.lists.specs.Tests.{every, every-part}
use Rattle.rules.specs.Limits.{coefficient_count, block_length, entries_length, small}
use Rattle.rules.specs.Rows.{shift_up}
use Rattle.rules.specs.Stores.{row_of}
use Rattle.rules.specs.Layout.{coefficients_at_of}
use Rattle.working_rows.specs.Working.{left_part}
use Rattle.working_rows.specs.Shifting.{over_front, length-shift_up, shift_up-part, length_over, over-behind, over-next, small-next}
use Rattle.working_rows.proofs.shifting.move_blocks.Goals as goal
use Rattle.working_rows.proofs.shifting.move_blocks.Goals.{At-loop-e, In-loop-e, Start, else-not-put_moved, then-not-put_moved}

-- polynomial e of the row, one block further down
module _ (c : In-loop-e) where
  abbrev looped : At-loop-e
  looped = c.before

  abbrev start : Start
  start = looped.before

  abbrev row : List ℤ
  row = start.args.entries.now

  abbrev full : List ℤ
  full = left_part (shift_up (row_of row))

  abbrev e : ℕ
  e = looped.loop-e.e

  abbrev from : ℕ
  from = e * coefficient_count + block_length

  -- as it stands there still
  abbrev p : List ℤ
  p = take coefficient_count (drop from looped.loop-e.entries)

  enough : entries_length ≤ length row
  enough = omega (arith, start.requires.1)

  full-long : length full ≡ entries_length
  full-long = length-shift_up row enough

  inside : e * coefficient_count + coefficient_count ≤ length full
  inside = omega (arith, full-long, c.loop-e-test.true, start.requires.3)

  p-is : p ≡ take coefficient_count (drop from row)
  p-is =
      ap (λ l. take coefficient_count (drop from l)) looped.loop-e.invariant.1
      ∙ ap (take coefficient_count) (over-behind full row (e * coefficient_count) (omega (arith, inside)) from (omega arith))

  p-shifted : shift p ≡ coefficients_at_of full e
  p-shifted = ap shift p-is ∙ sym (shift_up-part row enough e (omega (arith, c.loop-e-test.true, start.requires.3)))

  p-within : T (every small p)
  p-within = subst (λ l. T (every small l)) (sym p-is) (every-part small from coefficient_count row start.requires.2)

pub loop-e-init : goal.loop-e-init
unfolding every
loop-e-init c = (c.requires.1, refl, refl)

pub put_moved-requires : goal.put_moved-requires
put_moved-requires c =
    let d = c.before in
    let long = (looped d).loop-e.invariant.0 in
    let room = inside d in
    ((start d).requires.0, omega (arith, long, room, full-long d), omega (arith, long, (start d).requires.3, d.loop-e-test.true), p-within d)

pub loop-e-preserved : goal.loop-e-preserved
loop-e-preserved c =
    let d = c.before.before.before.before in
    let loop = (looped d).loop-e in
    let at = e d * coefficient_count in
    let written = c.put_moved.ensures.place_after
    ∙ ap₂ (λ l q. paste l at q coefficient_count) loop.invariant.1 (p-shifted d)
    ∙ over-next (full d) (row d) (e d) (inside d)
    in
    let within : every small (take ((e d + 1) * coefficient_count) (full d)) ≡ (loop.within && c.put_moved.result) =
    small-next (full d) (row d) (e d) (inside d)
    ∙ ap₂ ◌&&◌ (sym loop.invariant.2) (ap (every small) (sym (p-shifted d)) ∙ sym c.put_moved.ensures.value)
    in (
      ap length written
          ∙ length_over (full d) (row d) ((e d + 1) * coefficient_count) (omega (arith, inside d))
          (omega (arith, inside d, full-long d, (start d).requires.1))
          ∙ (start d).requires.1,
      written,
      elim c.if-not-put_moved.branch [
        | then-not-put_moved w ↦ w.within-is ∙ sym (within ∙ ap (λ t. loop.within && t) w.if-not-put_moved.true ∙ and-false loop.within)
        | else-not-put_moved w ↦ w.within-is ∙ sym (within ∙ ap (λ t. loop.within && t) w.if-not-put_moved.false ∙ and-true loop.within)
      ],
    )

pub shape_of-entries : goal.shape_of-entries
shape_of-entries c = c.loop-e.invariant.0 ∙ sym c.requires.1

pub returns : goal.returns
returns c =
    let loop = c.loop-e in
    let l = c.args.entries.now in
    let full = left_part (shift_up (row_of l)) in
    let all : loop.e * coefficient_count ≡ c.args.blocks * block_length = omega arith in
    record { entries_after = loop.invariant.1 ∙ ap (over_front full l) all; value = loop.invariant.2 ∙ ap (λ n. every small (take n full)) all }
