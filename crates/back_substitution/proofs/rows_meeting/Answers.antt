-- `back_substitution::rows_meeting` meets its contract. The loop's invariant: the rows from i on are 0 at the column.
-- Assumes nothing.
use Rattle.std.specs.Prelude.{◌≡◌, ◌+◌, ◌*◌, ◌-◌, ◌≤◌, length}
use Rattle.std.proofs.Common.{le_refl, subst, arith, rules, SFits}
use Rattle.std.proofs.Common.{get_or, pos}
use mir.Syntax.{w64}
use Rattle.polynomials.specs.Content.{zero_bits}
use Rattle.constant_rows.specs.ListLengths.{list_columns}
use Rattle.back_substitution.specs.BackSubstitution.{MetBelow, met_next}
use Rattle.back_substitution.proofs.rows_meeting.Goals as goal
use Rattle.back_substitution.proofs.rows_meeting.Goals.{In-loop-i}

-- the row before i
inside : (c : In-loop-i) → (c.loop-i.i - 1) * list_columns + list_columns ≤ length c.args.matrix.now
inside c = omega (arith, c.loop-i.invariant.few, c.loop-i-test.true, c.requires.0)

pub loop-i-init : goal.loop-i-init
loop-i-init c = record { few = le_refl _; unmet = λ k h below. absurd (omega arith) }

pub bounds-matrix-i : goal.bounds-matrix-i
bounds-matrix-i c = omega (arith, inside (goal.at.bounds-matrix-i c).In-loop-i, c.requires.1)

pub returns-then-matrix-i-ne0 : goal.returns-then-matrix-i-ne0
returns-then-matrix-i-ne0 c =
    let same : c.loop-i.i ≡ c.loop-i.i - 1 + 1 = omega arith in
    subst (MetBelow c.args.matrix.now c.args.f c.args.count) same c.loop-i.invariant

pub loop-i-preserved : goal.loop-i-preserved
loop-i-preserved c =
    let fits : SFits w64 (get_or c.args.matrix.now ((c.loop-i.i - 1) * list_columns + c.args.f) (pos 0)) = search rules in
    met_next c.loop-i.invariant c.loop-i-test.true (zero_bits fits c.if-matrix-i-ne0.false)

pub returns : goal.returns
returns c = let none : c.loop-i.i ≡ 0 = omega arith in subst (MetBelow c.args.matrix.now c.args.f c.args.count) none c.loop-i.invariant
