-- `number_texts::put_four` meets its contract: two pairs, one behind the other.
-- Assumes nothing.
use mathlib.Core.Path.{◌∙◌, ap}
use Prim.Native.Nat.{◌+◌, ◌/◌, ◌%◌}
use lib.Seq.{sets}
use Rattle.lists.specs.Pasted.{sets-append}
use Rattle.number_texts.specs.DigitPairs.{pair_of}
use Rattle.number_texts.proofs.put_four.Goals as goal

pub returns : goal.returns
returns c =
    let args = c.args in
    let high = pair_of (args.n / 100) in
    let low = pair_of (args.n % 100) in
    c.put_pair-2.ensures
    ∙ ap (λ l. sets l (args.at + 2) low) c.put_pair.ensures
    ∙ sets-append args.bytes.now args.at high low
