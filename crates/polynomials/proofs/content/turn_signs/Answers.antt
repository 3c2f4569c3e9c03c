-- `polynomials::content::turn_signs` meets its contract. Where the signs are turned, -h with the other sign is h.
-- Assumes nothing.
use mathlib.Core.Path.{◌≡◌, sym, ◌∙◌, ap}
use mathlib.Core.Bool.{Bool}
use mathlib.Core.List.{List}
use lib.IntN.{ℤ, pos}
use lib.Signed.{lt_z}
use mir.Syntax.{w64}
use mir.Val.{of_z, to_z}
use Rattle.algebra.specs.Polynomials.{negate, lead, negate-negate}
use Rattle.polynomials.specs.Content.{read_back, signs-turned, signs-kept}
use Rattle.polynomials.proofs.content.turn_signs.Goals as goal
use Rattle.polynomials.proofs.content.turn_signs.Goals.{After-lead}

-- The test of g's highest coefficient.
module _ (c : After-lead) where
  abbrev g : List ℤ
  g = c.args.g.now

  abbrev h : List ℤ
  h = c.args.h.now

  sign : {t : Bool} → lt_z (to_z w64 (of_z w64 c.lead.result)) (pos 0) ≡ t → lt_z (lead g) (pos 0) ≡ t
  sign e = ap (λ z. lt_z z (pos 0)) (sym (read_back c.lead.result c.lead.type_inv ∙ c.lead.ensures)) ∙ e

pub returns-then-lead-lt0 : goal.returns-then-lead-lt0
returns-then-lead-lt0 c =
    let n = c.before in
    let e = n.before.before.before in
    let turned = sym (signs-turned (g e) (negate (h e)) (sign e n.if-lead-lt0.true)) in
    record { g_after = n.negate_in_place.ensures ∙ ap (λ m. m.g) turned; h_after = sym (negate-negate (h e)) ∙ ap (λ m. m.h) turned }

pub returns-else-lead-lt0 : goal.returns-else-lead-lt0
returns-else-lead-lt0 c =
    let n = c.before in
    let e = n.before.before.before in
    let kept = sym (signs-kept (g e) (negate (h e)) (sign e n.if-lead-lt0.false)) in
    record { g_after = ap (λ m. m.g) kept; h_after = n.negate_in_place-else-lead-lt0.ensures ∙ ap (λ m. m.h) kept }
