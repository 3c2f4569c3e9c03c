-- `combinations::both_zero` meets its contract.
-- Assumes nothing.
use mathlib.Core.Path.{sym, ◌∙◌, ap}
use mathlib.Core.Bool.{◌&&◌, and-false}
use Rattle.algebra.specs.Polynomials.{is_zero_of}
use Rattle.polynomials.specs.Content.{is_zero-false, nonzero-bits}
use Rattle.combinations.proofs.both_zero.Goals as goal

pub returns-then-p-ne0 : goal.returns-then-p-ne0
returns-then-p-ne0 c =
    let args = c.args in
    sym (ap (λ b. b && is_zero_of args.q.now) (is_zero-false args.p.now 0 (nonzero-bits c.if-p-ne0.true)))

pub returns-then-q-ne0 : goal.returns-then-q-ne0
returns-then-q-ne0 c =
    let args = c.args in
    sym (ap (λ b. is_zero_of args.p.now && b) (is_zero-false args.q.now 0 (nonzero-bits c.if-q-ne0.true))
    ∙ and-false (is_zero_of args.p.now))

pub returns-then-all_zero : goal.returns-then-all_zero
returns-then-all_zero c =
    let args = c.args in
    let first = sym c.all_zero.ensures ∙ c.if-all_zero.true in
    c.all_zero-then-all_zero.ensures ∙ sym (ap (λ b. b && is_zero_of args.q.now) first)

pub returns-else-all_zero : goal.returns-else-all_zero
returns-else-all_zero c =
    let args = c.args in
    let first = sym c.all_zero.ensures ∙ c.if-all_zero.false in
    c.if-all_zero.false ∙ sym (ap (λ b. b && is_zero_of args.q.now) first)
