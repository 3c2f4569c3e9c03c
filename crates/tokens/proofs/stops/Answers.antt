-- `tokens::stops` meets its contract. The sum is that of the definition.
-- Assumes nothing.
use Rattle.std.proofs.Common.{ap}
use lib.Bits.{bit_and, bit_or}
use Rattle.tokens.specs.Words.{rest_stops}
use Rattle.tokens.proofs.stops.Goals as goal

pub returns : goal.returns
unfolding rest_stops
returns c = ap (λ n. bit_and (bit_or n c.args.x) 0x8080808080808000) c.wrapping_add_u64.ensures.value
