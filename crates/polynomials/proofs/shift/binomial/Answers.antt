-- `polynomials::shift::binomial` meets its contract: a table that follows Pascal's addition rule holds the binomial coefficients.
-- Assumes nothing.
use mathlib.Core.Path.{◌∙◌}
use native.Mathlib.Omega.{arith}
use borrow.Author.Rules.{sfits_of}
use mir.Facts.{to_z-of_z}
use Rattle.polynomials.specs.Shift.{pascal-entry}
use mir.Syntax.{w64}
use Rattle.polynomials.proofs.shift.binomial.Goals as goal

pub returns : goal.returns
returns c =
    let s = c.before in
    to_z-of_z {w = w64} (sfits_of c.result-1.given)
    ∙ pascal-entry s.args.table.now s.requires.0 s.args.j s.args.k (omega arith) (omega arith)
