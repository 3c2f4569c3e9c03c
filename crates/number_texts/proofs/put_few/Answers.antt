-- `number_texts::put_few` meets its contract. The space is stored over the zero before a single digit.
-- Assumes nothing.
use native.Mathlib.Omega.{arith}
use Rattle.number_texts.specs.TextBytes.{count_bytes}
use Rattle.number_texts.specs.Texts.{digits-length}
use Rattle.number_texts.specs.DigitPairs.{few-stored}
use Rattle.number_texts.proofs.put_few.Goals as goal

pub returns : goal.returns
returns c =
    let stored = c.put_short-end in
    let args = c.args in
    few-stored args.bytes.now stored.new.bytes args.at stored.result args.n count_bytes (stored.ensures.1 args.at)
    stored.ensures.0 (omega (arith, digits-length args.n (omega arith)))
