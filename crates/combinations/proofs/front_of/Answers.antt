-- `combinations::front_of` meets its contract.
-- Assumes nothing.
use mathlib.Core.Path.{refl, sym}
use native.Mathlib.Omega.{arith}
use lib.Seq.{length-take-le}
use Rattle.combinations.specs.Combination.{shortened-front, shortened-trim}
use Rattle.combinations.proofs.front_of.Goals as goal

pub slice_bounds-result-end : goal.slice_bounds-result-end
slice_bounds-result-end c =
    sym (length-take-le c.args.n c.args.p.now (omega (arith, c.requires.0, c.requires.2)))

pub returns-then-n-lt-COEFFICIENTS : goal.returns-then-n-lt-COEFFICIENTS
returns-then-n-lt-COEFFICIENTS c =
    shortened-front c.args.p.now _ c.args.n c.requires.1 (omega (arith, c.requires.0, c.requires.2)) refl c.requires.3

pub returns : goal.returns
returns c =
    shortened-trim c.args.p.now _ (omega (arith, c.requires.0)) c.trimmed.ensures
