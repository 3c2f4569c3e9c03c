-- `tokens::word_value` meets its contract. The masks keep the sums small.
-- Assumes nothing.
use Rattle.std.proofs.Common.{ℕ, ◌+◌, ◌*◌, ◌/◌, ◌≤◌, refl, arith}
use lib.Bits.{bit_and, and_le_r}
use Rattle.tokens.specs.Words.{pair_word, quad_word, word_value_of}
use Rattle.tokens.proofs.word_value.Goals as goal

pairs_small : (d : ℕ) → bit_and (10 * d + d / 256) 0x00ff00ff00ff00ff ≤ 0x00ff00ff00ff00ff
pairs_small d = and_le_r (10 * d + d / 256) 0x00ff00ff00ff00ff

pub overflow_mul-b : goal.overflow_mul-b
overflow_mul-b c = omega (arith, pairs_small c.args.d)

pub overflow_add-b : goal.overflow_add-b
overflow_add-b c = omega (arith, pairs_small c.args.d)

pub overflow_add-result : goal.overflow_add-result
overflow_add-result c = omega (arith, and_le_r (100 * bit_and (10 * c.args.d + c.args.d / 256) 0x00ff00ff00ff00ff + bit_and (10 * c.args.d + c.args.d / 256) 0x00ff00ff00ff00ff / 65536) 0x0000ffff0000ffff)

pub returns : goal.returns
unfolding word_value_of pair_word quad_word
returns c = refl
