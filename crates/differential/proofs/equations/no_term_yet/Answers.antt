-- `differential::equations::no_term_yet` meets its contract.
-- Assumes nothing.
use mathlib.Core.Path.{refl}
use Rattle.differential.specs.Grammar.{no_term_of}
use Rattle.differential.specs.Read.{extent_of, term_of}
use Rattle.differential.proofs.equations.no_term_yet.Goals as goal

pub returns : goal.returns
unfolding no_term_of extent_of term_of
returns c = (refl, refl)
