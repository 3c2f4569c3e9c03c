-- `replays::given::exchange_formed` meets its contract.
-- Assumes nothing.
use mathlib.Core.Path.{sym, ◌∙◌, ap, ap₂}
use mathlib.Core.Bool.{◌&&◌}
use Prim.Native.Nat.{◌-◌}
use native.Mathlib.Nat.{le_refl}
use lib.IntN.{pos}
use lib.ListN.{length, get_or, drop, length-drop}
use lib.Seq.{take_all}
use Rattle.algebra.specs.Polynomials.{is_zero_of}
use Rattle.log_steps.specs.Logs.{counted, two_places}
use Rattle.replays.specs.Given.{exchange_formed_of}
use Rattle.replays.proofs.given.exchange_formed.Goals as goal

pub returns-then-not-is_counted : goal.returns-then-not-is_counted
unfolding exchange_formed_of two_places
returns-then-not-is_counted c =
    let x = c.args.x.now in
    sym (ap (λ t. (t && counted (get_or x 2 (pos 0))) && is_zero_of (drop 3 x))
    (sym c.is_counted.ensures ∙ c.if-not-is_counted.true))

pub returns-then-not-is_counted-2 : goal.returns-then-not-is_counted-2
unfolding exchange_formed_of two_places
returns-then-not-is_counted-2 c =
    let x = c.args.x.now in
    sym (ap₂ (λ t u. (t && u) && is_zero_of (drop 3 x)) (sym c.is_counted.ensures ∙ c.if-not-is_counted.false)
    (sym c.is_counted-2.ensures ∙ c.if-not-is_counted-2.true))

pub returns : goal.returns
unfolding exchange_formed_of two_places
returns c =
    let x = c.args.x.now in
    c.is_zero.ensures ∙ ap is_zero_of (take_all (length x - 3) (drop 3 x) (rw length-drop (le_refl _)))
    ∙ sym (ap₂ (λ t u. (t && u) && is_zero_of (drop 3 x)) (sym c.is_counted.ensures ∙ c.if-not-is_counted.false)
    (sym c.is_counted-2.ensures ∙ c.if-not-is_counted-2.false))
