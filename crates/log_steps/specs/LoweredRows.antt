-- The row shifted down, as the code makes it: the mirror, the mirror shifted up, and that mirrored back.
--
-- Main definitions
--   raised w             the mirror shifted up, with its limits
--
-- Main statements
--   lowered-refused      one is refused where the other is
--   raised-full, raised-small, lowered-passed, lowered-worked   and otherwise the mirror of the one is the other
use Rattle.std.specs.Prelude.{◌≤◌, ◌≡◌, refl, ◌≢◌, T}
use Rattle.std.proofs.Common.{le_of_eq, le_refl, arith, ◌∙◌}
use Rattle.std.proofs.Math.Path.{sym, ap, subst}
use Rattle.std.proofs.Math.ListN.{length}
use Rattle.lists.specs.Tests.{every}
use Rattle.rules.specs.Limits.{most_span, block_count, column_count, coefficient_count, row_length, small}
use Rattle.rules.specs.Rows.{Row, coefficients_of, shift_up, mirror_row_of}
use Rattle.rules.specs.Stores.{row_of, StoreRow, Shaped}
use Rattle.rules.specs.Layout.{StoreRow-row_of, length-entries}
use Rattle.rules.specs.Elimination.{Limited, within, beyond, limit_coefficients}
use Rattle.stores.specs.Flat.{length-blocks}
use Rattle.theory.specs.ShiftUp.{shift_up-shaped}
use Rattle.theory.specs.ShiftDown.{shift_down}
use Rattle.working_rows.specs.declared.WorkingRow.{WorkingRow}
use Rattle.working_rows.specs.Working.{left_part, numbers_held, Full, full-of, length-held}
use Rattle.working_rows.specs.Worked.{Held, refusal_of, numbers_of, worked_row, numbers-worked, limit-zero}
use Rattle.working_rows.specs.Mirroring.{mirrored_of, full-mirrored, held-mirrored}
use Rattle.working_rows.specs.Shifting.{shifted-held}
use Rattle.log_steps.specs.ShiftedDown.{mirror_limited, lowered-limit}

refused-mirrored : (x : Limited) → refusal_of x ≢ 0 → mirror_limited x ≡ x
unfolding mirror_limited refusal_of
refused-mirrored (within r) n = absurd (n refl)
refused-mirrored (beyond k) n = refl

module _ (w : WorkingRow) (full : Full w) where
  abbrev mirror : WorkingRow
  mirror = mirrored_of most_span w

  mirror-long : length (numbers_held mirror) ≡ row_length
  mirror-long = length-held mirror (full-mirrored most_span w (le_refl most_span) full)

  abbrev up : Row
  up = shift_up (row_of (numbers_held mirror))

  abbrev pub raised : Limited
  raised = limit_coefficients up

  abbrev pub lowered_limit : Limited
  lowered_limit = limit_coefficients (shift_down (row_of (numbers_held w)))

  up_is : up ≡ shift_up (mirror_row_of most_span (row_of (numbers_held w)))
  up_is = ap shift_up (held-mirrored most_span w (le_refl most_span) full)

  up-blocks : StoreRow up
  up-blocks =
      shift_up-shaped block_count column_count coefficient_count (row_of (numbers_held mirror)) (omega arith)
      (StoreRow-row_of (numbers_held mirror) (le_of_eq (sym mirror-long)))

  lowered_is : mirror_limited raised ≡ lowered_limit
  unfolding Shaped
  lowered_is =
      ap (λ q. mirror_limited (limit_coefficients q)) up_is
      ∙ lowered-limit (row_of (numbers_held w)) (length-blocks (numbers_held w))
      (subst (λ q. 5 ≤ length q.blocks) up_is (le_of_eq (sym up-blocks.0)))

  pub lowered-refused : refusal_of raised ≢ 0 → raised ≡ lowered_limit
  lowered-refused n = sym (refused-mirrored raised n) ∙ lowered_is

  module _ (passed : refusal_of raised ≡ 0) where
    raised_is : raised ≡ within up
    raised_is = limit-zero up passed

    up-held : Held up
    up-held = shifted-held (numbers_held mirror) mirror-long up raised_is

    numbers-are : numbers_held (worked_row raised) ≡ coefficients_of up
    unfolding numbers_of
    numbers-are = numbers-worked raised ∙ ap numbers_of raised_is

    pub raised-full : Full (worked_row raised)
    unfolding worked_row Shaped
    raised-full =
        subst Full (sym (ap worked_row raised_is))
        (full-of (left_part up) up.right (length-entries up up-blocks) up-blocks.2)

    pub raised-small : T (every small (numbers_held (worked_row raised)))
    raised-small = subst (λ k. T (every small k)) (sym numbers-are) up-held.within-bound

    lowered-within : lowered_limit ≡ within (mirror_row_of most_span (row_of (numbers_held (worked_row raised))))
    unfolding mirror_limited
    lowered-within =
        sym lowered_is ∙ ap mirror_limited raised_is
        ∙ ap (λ q. within (mirror_row_of most_span q)) (sym (ap row_of numbers-are ∙ up-held.numbers))

    pub lowered-passed : 0 ≡ refusal_of lowered_limit
    unfolding refusal_of
    lowered-passed = sym (ap refusal_of lowered-within)

    pub lowered-worked : mirrored_of most_span (worked_row raised) ≡ worked_row lowered_limit
    unfolding worked_row
    lowered-worked = sym (ap worked_row lowered-within)
