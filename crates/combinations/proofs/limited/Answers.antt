-- `combinations::limited` meets its contract.
-- Assumes nothing.
use mathlib.Core.Path.{◌≡◌, sym, ◌∙◌, ap, ap₂}
use mathlib.Core.Bool.{Bool, true, false, not, ◌&&◌, and-false, cond}
use borrow.Author.Tests.{eq-eqb, ne_eqb, not-false}
use lib.Dec.{eqb}
use Rattle.algebra.specs.Polynomials.{is_zero_of}
use Rattle.rules.specs.Stores.{row_of}
use Rattle.rules.specs.Elimination.{Limited, within, beyond, limit_coefficients, consistent}
use Rattle.working_rows.specs.Working.{numbers_held}
use Rattle.working_rows.specs.Worked.{refusal_of, worked_row}
use Rattle.combinations.specs.Undivided.{limited-beyond, limited-within, worked_same}
use Rattle.combinations.proofs.limited.Goals as goal
use Rattle.combinations.proofs.limited.Goals.{Start}

-- the answer for a row within ±C
module _ (s : Start) where
  abbrev new : Limited
  new = consistent (limit_coefficients (row_of (numbers_held s.args.row)))

  answer : not s.args.within ≡ false → (t : Bool) → (eqb s.args.row.width 0 && not (is_zero_of s.args.row.right)) ≡ t
      → new ≡ cond t (beyond 10) (within (row_of (numbers_held s.args.row)))
  answer w t e =
      limited-within s.args.row s.requires.0 s.requires.1 (sym s.requires.2 ∙ not-false _ w)
      ∙ ap (λ u. cond u (beyond 10) (within (row_of (numbers_held s.args.row)))) e

  fine : new ≡ within (row_of (numbers_held s.args.row)) → (0 ≡ refusal_of new) × (s.args.row ≡ worked_row new)
  unfolding refusal_of
  fine e = (sym (ap refusal_of e), sym (ap worked_row e ∙ worked_same s.args.row s.requires.0 s.requires.1))

pub returns-then-not-within : goal.returns-then-not-within
unfolding refusal_of
returns-then-not-within c =
    let e = limited-beyond c.args.row c.requires.0 c.requires.1 (sym c.requires.2 ∙ c.if-not-within.true) in
    (sym (ap refusal_of e), tt)

pub returns-then-not-is_zero : goal.returns-then-not-is_zero
unfolding refusal_of
returns-then-not-is_zero c =
    let s = (goal.at.returns-then-not-is_zero c).Start in
    let zero = eq-eqb s.args.row.width 0 c.if-row-eq0.true in
    let some = ap not (sym c.is_zero.ensures) ∙ c.if-not-is_zero.true-raw in
    let e = answer s c.if-not-within.false-raw true (ap₂ ◌&&◌ zero some) in
    (sym (ap refusal_of e), tt)

pub returns-else-not-is_zero : goal.returns-else-not-is_zero
returns-else-not-is_zero c =
    let s = (goal.at.returns-else-not-is_zero c).Start in
    let none = ap not (sym c.is_zero.ensures) ∙ c.if-not-is_zero.false-raw in
    let width = s.args.row.width in
    fine s (answer s c.if-not-within.false-raw false (ap (λ t. eqb width 0 && t) none ∙ and-false (eqb width 0)))

pub returns-else-row-eq0 : goal.returns-else-row-eq0
returns-else-row-eq0 c =
    let s = (goal.at.returns-else-row-eq0 c).Start in
    let row = s.args.row in
    fine s (answer s c.if-not-within.false-raw false (ap (λ t. t && not (is_zero_of row.right)) (ne_eqb row.width 0 c.if-row-eq0.false)))
