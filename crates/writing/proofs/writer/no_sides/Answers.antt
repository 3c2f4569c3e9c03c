-- `writing::writer::no_sides` meets its contract.
-- Assumes nothing.
use mathlib.Core.Path.{sym, ◌∙◌, ap}
use mathlib.Core.Bool.{◌&&◌}
use Prim.Native.Nat.{◌+◌}
use Rattle.algebra.specs.Polynomials.{is_zero_of}
use Rattle.lists.specs.Tests.{every, every_append}
use Rattle.rules.specs.Limits.{entries_length}
use Rattle.writing.specs.Writer.{sides_in}
use Rattle.writing.proofs.writer.no_sides.Goals as goal

pub returns-then-sides_zero : goal.returns-then-sides_zero
returns-then-sides_zero c =
    let args = c.args in
    let A = sides_in entries_length args.equations args.rows.now in
    let B = sides_in (1 + entries_length) args.count args.relations.now in
    let first = sym c.sides_zero.ensures ∙ c.if-sides_zero.true in
    c.sides_zero-then-sides_zero.ensures ∙ sym (every_append is_zero_of A B ∙ ap (λ b. b && every is_zero_of B) first)

pub returns-else-sides_zero : goal.returns-else-sides_zero
returns-else-sides_zero c =
    let args = c.args in
    let A = sides_in entries_length args.equations args.rows.now in
    let B = sides_in (1 + entries_length) args.count args.relations.now in
    let first = sym c.sides_zero.ensures ∙ c.if-sides_zero.false in
    c.if-sides_zero.false ∙ sym (every_append is_zero_of A B ∙ ap (λ b. b && every is_zero_of B) first)
