-- `replays::given::combination_formed` meets its contract.
-- Assumes nothing.
use mathlib.Core.Path.{◌≡◌, sym, ◌∙◌, ap, ap₂}
use mathlib.Core.Bool.{◌&&◌, true}
use lib.IntN.{pos}
use lib.ListN.{get_or}
use Rattle.lists.specs.Tests.{every}
use Rattle.rules.specs.Limits.{small}
use Rattle.log_steps.specs.Logs.{counted, two_places, combination_right, multiplier_g, multiplier_h}
use Rattle.replays.proofs.given.combination_formed.Goals as goal
use Rattle.replays.proofs.given.combination_formed.Goals.{Else-not-is_counted-3, Start}

-- the numbers of the rows and the integer
module _ (c : Else-not-is_counted-3) where
  abbrev start : Start
  start = (goal.at.Else-not-is_counted-3 c).Start

  numbers : let x = start.args.x.now in (two_places x && counted (get_or x 3 (pos 0))) ≡ true
  unfolding two_places
  numbers =
      ap₂ (λ t u. t && u)
      (ap₂ (λ t u. t && u) (sym c.is_counted.ensures ∙ c.if-not-is_counted.false)
      (sym c.is_counted-2.ensures ∙ c.if-not-is_counted-2.false))
      (sym c.is_counted-3.ensures ∙ c.if-not-is_counted-3.false)

pub returns-then-not-is_counted : goal.returns-then-not-is_counted
unfolding combination_right two_places
returns-then-not-is_counted c =
    let x = c.args.x.now in
    sym (ap (λ t. ((t && counted (get_or x 2 (pos 0))) && counted (get_or x 3 (pos 0)))
    && (every small (multiplier_g x) && every small (multiplier_h x)))
    (sym c.is_counted.ensures ∙ c.if-not-is_counted.true))

pub returns-then-not-is_counted-2 : goal.returns-then-not-is_counted-2
unfolding combination_right two_places
returns-then-not-is_counted-2 c =
    let x = c.args.x.now in
    sym (ap₂ (λ t u. ((t && u) && counted (get_or x 3 (pos 0))) && (every small (multiplier_g x) && every small (multiplier_h x)))
    (sym c.is_counted.ensures ∙ c.if-not-is_counted.false)
    (sym c.is_counted-2.ensures ∙ c.if-not-is_counted-2.true))

pub returns-then-not-is_counted-3 : goal.returns-then-not-is_counted-3
unfolding combination_right two_places
returns-then-not-is_counted-3 c =
    let x = c.args.x.now in
    sym (ap₂ (λ t u. (t && u) && (every small (multiplier_g x) && every small (multiplier_h x)))
    (ap₂ (λ t u. t && u) (sym c.is_counted.ensures ∙ c.if-not-is_counted.false)
    (sym c.is_counted-2.ensures ∙ c.if-not-is_counted-2.false))
    (sym c.is_counted-3.ensures ∙ c.if-not-is_counted-3.true))

pub returns-then-not-all_small : goal.returns-then-not-all_small
unfolding combination_right multiplier_g
returns-then-not-all_small c =
    let third = (goal.at.returns-then-not-all_small c).Else-not-is_counted-3 in
    let x = (start third).args.x.now in
    sym (ap₂ (λ t u. t && (u && every small (multiplier_h x))) (numbers third)
    (sym c.all_small.ensures ∙ c.if-not-all_small.true))

pub returns : goal.returns
unfolding combination_right multiplier_g multiplier_h
returns c =
    let third = (goal.at.returns c).Else-not-is_counted-3 in
    let x = (start third).args.x.now in
    c.all_small-2.ensures
    ∙ sym (ap₂ (λ t u. t && (u && every small (multiplier_h x))) (numbers third)
    (sym c.all_small.ensures ∙ c.if-not-all_small.false))
