-- `constant_rows::entry_value` meets its contract: 12 where Horner's rule passes its limit, then 8 where the value is past ±C. Assumes
-- nothing.
use mathlib.Core.Path.{◌≡◌, sym, ◌∙◌, ap}
use mathlib.Core.Bool.{cond}
use mathlib.Core.Option.{some}
use lib.Dec.{lit<}
use lib.IntN.{ℤ}
use mir.Syntax.{w64}
use mir.Val.{SFits}
use mir.Facts.{to_z-of_z}
use Rattle.evaluation.specs.Evaluated.{horner, formed_of, horner-size}
use Rattle.std.proofs.Common.{Some, None}
use Rattle.integers.specs.Ranges.{sfits-size}
use Rattle.rules.specs.Limits.{small}
use Rattle.constant_rows.specs.Constants.{fine, passed, judge_value, entry_at}
use Rattle.constant_rows.proofs.entry_value.Goals as goal
use Rattle.constant_rows.proofs.entry_value.Goals.{After-horner, In-Some}

-- What Horner's rule gives.
horner-is : (h : After-horner) → formed_of h.horner.result ≡ horner h.args.n h.args.p.now
horner-is h = simp (to_z-of_z {w = w64} h.ranges.n) at h.horner.ensures

pub returns-in_default : goal.returns-in_default
unfolding entry_at judge_value
returns-in_default c =
    let h = (goal.at.returns-in_default c).After-horner in
    let told : h.horner.result ≡ None = c.in_default.is in
    sym (ap judge_value (sym (horner-is h) ∙ ap formed_of told))

-- The value that was found.
module _ (k : In-Some) where
  abbrev value : ℤ
  value = k.in-Some.value

  value-is : horner k.args.n k.args.p.now ≡ some value
  value-is =
      let h = (goal.at.In-Some k).After-horner in
      let known : h.horner.result ≡ Some value = k.in-Some.is in
      sym (sym (ap formed_of known) ∙ horner-is h)

  value-fits : SFits w64 value
  value-fits = sfits-size value (horner-size _ _ value value-is) (lit< tt)

pub returns-then-not-within_bound : goal.returns-then-not-within_bound
unfolding entry_at judge_value
returns-then-not-within_bound c =
    let k = (goal.at.returns-then-not-within_bound c).In-Some in
    let past : small (value k) ≡ _ = sym (simp (to_z-of_z {w = w64} (value-fits k)) at c.within_bound.ensures) ∙ c.if-not-within_bound.true in
    sym (ap judge_value (value-is k) ∙ ap (λ t. cond t (fine (value k)) (passed 8)) past)

pub returns : goal.returns
unfolding entry_at judge_value
returns c =
    let k = (goal.at.returns c).In-Some in
    let here : small (value k) ≡ _ = sym (simp (to_z-of_z {w = w64} (value-fits k)) at c.within_bound.ensures) ∙ c.if-not-within_bound.false in
    simp (to_z-of_z {w = w64} (value-fits k)) (sym (ap judge_value (value-is k) ∙ ap (λ t. cond t (fine (value k)) (passed 8)) here))
