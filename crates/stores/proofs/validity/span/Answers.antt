-- `stores::validity::span` meets its contract. Right sizes bound l and t, and t is not above l.
-- Assumes nothing.
use mathlib.Core.Path.{◌≡◌, refl}
use lib.IntN.{ℤ, ◌-ℤ◌}
use mir.Syntax.{w64}
use mir.Val.{SFits, of_z, to_z}
use mir.Facts.{to_z-of_z, Fits-nat_abs}
use borrow.Author.Rules.{rules}
use Rattle.rules.specs.Stores.{span}
use Rattle.rules.specs.Layout.{SizeBounds, size-bounds}
use Rattle.stores.specs.declared.validity.Sizes.{Sizes}
use Rattle.stores.specs.Validity.{the_sizes_of, difference-fits, difference-nonneg}
use Rattle.stores.proofs.validity.span.Goals as goal
use Rattle.stores.proofs.validity.span.Goals.{Start}

module _ (c : Start) where
  abbrev sizes : Sizes
  sizes = c.args.sizes

  abbrev difference : ℤ
  difference = sizes.l -ℤ sizes.t

  bounds : SizeBounds (the_sizes_of sizes)
  bounds = size-bounds (the_sizes_of sizes) c.requires

  fits : SFits w64 difference
  unfolding the_sizes_of
  fits = difference-fits {l = sizes.l} {t = sizes.t} bounds.low bounds.ordered bounds.high

  -- l - t, as the machine reads its operands back
  read : to_z w64 (of_z w64 sizes.l) -ℤ to_z w64 (of_z w64 sizes.t) ≡ difference
  read =
      let fits_l : SFits w64 sizes.l = search rules in
      let fits_t : SFits w64 sizes.t = search rules in
      simp (to_z-of_z {w = w64} {z = sizes.l} fits_l, to_z-of_z {w = w64} {z = sizes.t} fits_t)

pub overflow_sub-result : goal.overflow_sub-result
overflow_sub-result c = rw (read c.before.before) (fits c.before.before)

pub overflow_cast-result : goal.overflow_cast-result
unfolding the_sizes_of
overflow_cast-result c =
    rw (read c.before.before, to_z-of_z (fits c.before.before))
    (difference-nonneg {l = (sizes c.before.before).l} {t = (sizes c.before.before).t} (bounds c.before.before).ordered, Fits-nat_abs tt (fits c.before.before))

pub returns : goal.returns
unfolding span the_sizes_of
returns c = rw (read c.before.before, to_z-of_z (fits c.before.before)) refl
