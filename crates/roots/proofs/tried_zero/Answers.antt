-- `roots::tried_zero` meets its contract.
-- Assumes nothing.
use mathlib.Core.Path.{sym, ◌∙◌, ap}
use mathlib.Core.List.{[]}
use lib.IntN.{pos}
use Rattle.algebra.specs.Polynomials.{eval, is_zero_ℤ}
use Rattle.algebra.specs.Vanishing.{is_zero_ℤ-sound}
use Rattle.lists.specs.Tests.{false_of}
use Rattle.polynomials.specs.Content.{zero_bits, nonzero-bits}
use Rattle.roots.specs.Ascending.{insert-nil}
use Rattle.roots.specs.RootSearch.{listed, try_root-yes, try_root-no, eval-at-zero, fits-small}
use Rattle.roots.proofs.tried_zero.Goals as goal

pub returns-then-p-eq0 : goal.returns-then-p-eq0
unfolding is_zero_ℤ
returns-then-p-eq0 c =
    let zero = zero_bits (fits-small c.args.p.now 0 c.requires.1) c.if-p-eq0.true in
    sym (ap listed (try_root-yes c.args.p.now (pos 0) [] (ap is_zero_ℤ (eval-at-zero c.args.p.now ∙ zero)) ∙ insert-nil (pos 0)))

pub returns-else-p-eq0 : goal.returns-else-p-eq0
returns-else-p-eq0 c =
    let e = eval-at-zero c.args.p.now in
    let none = false_of (is_zero_ℤ (eval c.args.p.now (pos 0))) (λ t. nonzero-bits c.if-p-eq0.false (sym e ∙ is_zero_ℤ-sound _ t)) in
    c.empty.ensures ∙ ap listed (sym (try_root-no c.args.p.now (pos 0) [] none))
