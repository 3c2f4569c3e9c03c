-- `reading::terms::coefficients_at` meets its contract. The loop's invariant: `p` holds the first i coefficients and zeros
-- after them, and the others are read from `next`.
-- Assumes nothing.
use mathlib.Core.Path.{refl, sym, ◌∙◌}
use Prim.Native.Nat.{◌+◌, ◌-◌, zero-le}
use native.Mathlib.Nat.{le_of_eq, sub-zero}
use native.Mathlib.Omega.{arith}
use borrow.Author.Rules.{rules}
use lib.IntN.{pos}
use lib.ListN.{drop, replicate}
use mir.Syntax.{w64}
use mir.Val.{SFits}
use mir.Facts.{to_z-of_z}
use Rattle.lists.specs.Padded.{pad_to}
use Rattle.rules.specs.Limits.{coefficient_count}
use Rattle.rules.specs.Sheets.{read_coefficients}
use Rattle.tokens.specs.Fields.{read-err, read-ok, read-within, fails-on, reads}
use Rattle.reading.specs.Terms.{filled-begins, filled-ends, filled-refused, filled-goes-on, coefficients-next}
use Rattle.reading.specs.Terms.{coefficients-none}
use Rattle.lists.specs.Pasted.{paste-whole}
use Rattle.reading.proofs.terms.coefficients_at.Goals as goal

pub clear-requires : goal.clear-requires
clear-requires c = omega arith

pub loop-i-init : goal.loop-i-init
unfolding pad_to
loop-i-init c =
    let zeros = replicate coefficient_count (pos 0) in
    let cleared = c.clear.ensures ∙ paste-whole c.args.p.now zeros coefficient_count (le_of_eq c.requires.p_len) refl in
    (zero-le, rw (cleared, sub-zero c.args.count) (filled-begins coefficient_count (pos 0) _ _ _ _ c.requires.at_in_bounds.0 refl refl))

pub overflow_add-i : goal.overflow_add-i
overflow_add-i c = omega arith

pub overflow_sub-count : goal.overflow_sub-count
overflow_sub-count c = omega arith

pub coefficient_at-requires : goal.coefficient_at-requires
coefficient_at-requires c = c.loop-i.invariant.1.within

pub returns-in_err-a : goal.returns-in_err-a
returns-in_err-a c =
    let a = c.args in
    let l = c.loop-i in
    fails-on _ c.in_err-a.field-0.0 c.from_residual.ensures.1
    (filled-refused _ _ _ _ _ _ _ _ l.invariant.1 _ (λ x. x) (λ _ r. read_coefficients a.last (a.count - (l.i + 1)) r)
    (coefficients-next a.last a.count l.i (drop l.next a.bytes.now) c.loop-i-test.true)
    _
    (read-err c.in_err-a.ensures))

pub offset_bounds-p-i : goal.offset_bounds-p-i
offset_bounds-p-i c = omega arith

pub bounds-p-i : goal.bounds-p-i
bounds-p-i c = omega (arith, c.loop-i.invariant.1.long)

pub loop-i-preserved : goal.loop-i-preserved
loop-i-preserved c =
    let a = c.args in
    let l = c.loop-i in
    let fv : SFits w64 c.in_ok-a.a.value = search rules in (
      omega arith,
      rw (to_z-of_z {w = w64} fv)
          (filled-goes-on _ _ _ _ _ _ _ _ l.invariant.1 _ (λ x. x) (λ _ r. read_coefficients a.last (a.count - (l.i + 1)) r)
          (coefficients-next a.last a.count l.i (drop l.next a.bytes.now)
          c.loop-i-test.true) _ _ (omega arith)
          (read-ok c.in_ok-a.ensures) (read-within c.in_ok-a.ensures)),
    )

pub shape_of-p : goal.shape_of-p
shape_of-p c = c.loop-i.invariant.1.long ∙ sym c.requires.p_len

pub returns : goal.returns
returns c =
    let a = c.args in
    let l = c.loop-i in
    reads refl
    (filled-ends _ _ _ _ _ _ _ _ l.invariant.1
    (coefficients-none a.last a.count l.i (drop l.next a.bytes.now) (omega arith)))
    l.invariant.1.within
