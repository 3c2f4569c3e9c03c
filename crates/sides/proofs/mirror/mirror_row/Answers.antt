-- `sides::mirror::mirror_row` meets its contract: the row is loaded, mirrored and saved.
-- Assumes nothing.
use mathlib.Core.Path.{◌≡◌, sym, ◌∙◌, ap, subst}
use mathlib.Core.List.{List}
use Prim.Native.Nat.{ℕ, ◌+◌, ◌-◌}
use native.Mathlib.Omega.{arith}
use lib.Dec.{T}
use lib.IntN.{ℤ}
use lib.ListN.{take, drop}
use lib.Seq.{paste}
use Rattle.lists.specs.Tests.{every}
use Rattle.rules.specs.Limits.{entries_length, row_length, small}
use Rattle.rules.specs.Rows.{width}
use Rattle.rules.specs.Stores.{row_of}
use Rattle.working_rows.specs.Working.{numbers_held, Full, loaded, full-loaded, numbers-loaded, width-loaded}
use Rattle.working_rows.specs.Mirroring.{mirrored_of, numbers-mirrored}
use Rattle.sides.specs.MirrorLaws.{mirror_numbers}
use Rattle.sides.proofs.mirror.mirror_row.Goals as goal
use Rattle.sides.proofs.mirror.mirror_row.Goals.{Start}

-- the store, and the row in it
module _ (c : Start) where
  abbrev store : List ℤ
  store = c.args.store.now

  abbrev at : ℕ
  at = c.args.at

  full : Full (loaded store at)
  full = full-loaded store at c.requires.1

pub load-row-requires : goal.load-row-requires
load-row-requires c =
    let s = (goal.at.load-row-requires c).Start in
    let size : at (goal.at.Start s).Start + entries_length - at (goal.at.Start s).Start ≡ entries_length = omega arith in (
      s.requires.1,
      c.width-width.ensures ∙ ap (λ n. width (row_of (take n (drop (at (goal.at.Start s).Start) (store (goal.at.Start s).Start))))) size
          ∙ sym (width-loaded (store (goal.at.Start s).Start) (at (goal.at.Start s).Start) s.requires.1),
    )

pub mirrored-requires : goal.mirrored-requires
mirrored-requires c =
    let s = (goal.at.mirrored-requires c).Start in (
      s.requires.0,
      subst Full (sym c.load-row.ensures) (full (goal.at.Start s).Start),
      subst (λ l. T (every small l)) (sym (ap numbers_held c.load-row.ensures ∙ numbers-loaded (store (goal.at.Start s).Start) (at (goal.at.Start s).Start))) s.requires.2,
    )

pub returns : goal.returns
returns c =
    let s = (goal.at.returns c).Start in
    let span = s.args.span in
    c.save.ensures
    ∙ ap (λ p. paste (store (goal.at.Start s).Start) (at (goal.at.Start s).Start) p row_length)
    (ap numbers_held (c.mirrored.ensures ∙ ap (mirrored_of span) c.load-row.ensures)
    ∙ numbers-mirrored span (loaded (store (goal.at.Start s).Start) (at (goal.at.Start s).Start)) s.requires.0 (full (goal.at.Start s).Start)
    ∙ ap (mirror_numbers span) (numbers-loaded (store (goal.at.Start s).Start) (at (goal.at.Start s).Start)))
