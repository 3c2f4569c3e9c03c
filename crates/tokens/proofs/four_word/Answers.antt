-- `tokens::four_word` meets its contract. A byte is at most 255.
-- Assumes nothing.
use Rattle.std.proofs.Common.{arith}
use Rattle.tokens.specs.Words.{four_word_of}
use Rattle.tokens.proofs.four_word.Goals as goal

pub returns : goal.returns
unfolding four_word_of
returns c = (omega arith, omega arith)
