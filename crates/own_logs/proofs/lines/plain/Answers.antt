-- `own_logs::lines::plain` meets its contract.
-- Assumes nothing.
use mathlib.Core.Path.{◌∙◌}
use mathlib.Core.List.{◌∷◌}
use Rattle.polynomials.specs.Content.{read_back}
use Rattle.rules.specs.Calls.{zeros}
use Rattle.own_logs.specs.LineLaws.{number_is}
use Rattle.own_logs.proofs.lines.plain.Goals as goal

pub returns : goal.returns
unfolding zeros
returns c =
    let args = c.args in
    let kind = read_back c.number.result c.number.type_inv ∙ c.number.ensures in
    let i = number_is args.i c.requires.0 in
    let j = number_is args.j c.requires.1 in
    λ k. kind k ∷ i k ∷ j k ∷ zeros 33
