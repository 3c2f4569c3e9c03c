-- `replays::given::row_formed` meets its contract.
-- Assumes nothing.
use mathlib.Core.Path.{sym, ◌∙◌, ap}
use mathlib.Core.Bool.{◌&&◌}
use Prim.Native.Nat.{◌-◌}
use native.Mathlib.Nat.{le_refl}
use lib.ListN.{length, drop, length-drop}
use lib.Seq.{take_all}
use Rattle.algebra.specs.Polynomials.{is_zero_of}
use Rattle.replays.specs.Given.{row_formed_of}
use Rattle.replays.proofs.given.row_formed.Goals as goal

pub returns-then-not-is_counted : goal.returns-then-not-is_counted
unfolding row_formed_of
returns-then-not-is_counted c =
    let x = c.args.x.now in
    sym (ap (λ t. t && is_zero_of (drop 2 x)) (sym c.is_counted.ensures ∙ c.if-not-is_counted.true))

pub returns : goal.returns
unfolding row_formed_of
returns c =
    let x = c.args.x.now in
    c.is_zero.ensures ∙ ap is_zero_of (take_all (length x - 2) (drop 2 x) (rw length-drop (le_refl _)))
    ∙ sym (ap (λ t. t && is_zero_of (drop 2 x)) (sym c.is_counted.ensures ∙ c.if-not-is_counted.false))
