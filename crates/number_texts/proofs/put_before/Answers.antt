-- `number_texts::put_before` meets its contract: both ways store the same digits.
-- Assumes nothing.
use Rattle.number_texts.proofs.put_before.Goals as goal

pub returns-then-n-lt1000000 : goal.returns-then-n-lt1000000
returns-then-n-lt1000000 c = c.put_pairs_back.ensures _
