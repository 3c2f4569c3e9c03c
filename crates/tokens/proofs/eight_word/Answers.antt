-- `tokens::eight_word` meets its contract. Four bytes come to less than 2 ^ 32.
-- Assumes nothing.
use Rattle.std.proofs.Common.{arith}
use Rattle.tokens.specs.Words.{eight_word_of}
use Rattle.tokens.proofs.eight_word.Goals as goal

pub returns : goal.returns
unfolding eight_word_of
returns c = omega arith
