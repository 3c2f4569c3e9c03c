-- `number_texts::put_eight` meets its contract: four digits, and four behind them.
-- Assumes nothing.
use mathlib.Core.Path.{◌∙◌, ap}
use Prim.Native.Nat.{◌+◌, ◌/◌, ◌%◌}
use lib.Seq.{sets}
use Rattle.lists.specs.Pasted.{sets-append}
use Rattle.number_texts.specs.DigitPairs.{four_of}
use Rattle.number_texts.proofs.put_eight.Goals as goal

pub returns : goal.returns
returns c =
    let args = c.args in
    let high = four_of (args.n / 10000) in
    let low = four_of (args.n % 10000) in
    c.put_four-2.ensures
    ∙ ap (λ l. sets l (args.at + 4) low) c.put_four.ensures
    ∙ sets-append args.bytes.now args.at high low
