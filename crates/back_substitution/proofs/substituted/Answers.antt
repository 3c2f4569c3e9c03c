-- `back_substitution::substituted` meets its contract.
-- Assumes nothing.
use mathlib.Core.Path.{sym, ◌∙◌}
use borrow.Author.Rules.{sfits_of}
use lib.IntN.{pos}
use lib.ListN.{set}
use mir.Facts.{sfits_lit}
use Rattle.integers.specs.Ranges.{of_z-inj}
use Rattle.lists.specs.Tests.{every, true_of}
use Rattle.rules.specs.Limits.{small}
use Rattle.back_substitution.specs.BackSubstitution.{substitute-none, none-small}
use mir.Syntax.{w64}
use Rattle.back_substitution.proofs.substituted.Goals as goal

pub returns-then-s-eq0 : goal.returns-then-s-eq0
returns-then-s-eq0 c =
    let row = c.args.row.now in
    let v = c.args.v.now in
    let zero-sum = sym c.row_sum-s.ensures.value ∙ of_z-inj {w = w64} (sfits_of c.row_sum-s.type_inv) (sfits_lit tt) c.if-s-eq0.true in
    let none = substitute-none row v c.args.column c.requires.t.2 zero-sum in
    let tested = none-small row v c.args.column c.requires.t.2 zero-sum c.requires.t.1 in
    record {
      value = sym (true_of (every small (set v c.args.column (pos 0))) tested);
      v_after = sym none;
    }
