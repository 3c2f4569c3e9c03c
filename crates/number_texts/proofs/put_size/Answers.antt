-- `number_texts::put_size` meets its contract: each way stores the digits up to their end.
-- Assumes nothing.
use native.Mathlib.Omega.{arith}
use Prim.Native.Nat.{◌≤◌}
use lib.ListN.{length}
use Rattle.number_texts.specs.Texts.{digits_of, nine-digits}
use Rattle.number_texts.proofs.put_size.Goals as goal
use Rattle.number_texts.proofs.put_size.Goals.{After-few_digits, Start}

pub returns-then-n-lt100 : goal.returns-then-n-lt100
returns-then-n-lt100 c =
    let stored = c.put_short in
    (stored.ensures.0, stored.ensures.1 c.args.at)

pub returns-then-n-lt10000 : goal.returns-then-n-lt10000
returns-then-n-lt10000 c =
    let stored = c.put_middle in
    (stored.ensures.0, stored.ensures.1 c.args.at)

-- the number of digits
module _ (c : After-few_digits) where
  abbrev begin : Start
  begin = (goal.at.After-few_digits c).Start

  few : length (digits_of begin.args.n) ≤ 9
  few = nine-digits begin.args.n begin.requires.0

pub overflow_add-end : goal.overflow_add-end
overflow_add-end c = omega (arith, c.few_digits.ensures, few c)

pub put_before-requires : goal.put_before-requires
put_before-requires c =
    let start = begin (goal.at.put_before-requires c).After-few_digits in
    (omega (arith, start.requires.0), omega (arith, c.few_digits.ensures, start.requires.1), omega (arith, c.few_digits.ensures, few (goal.at.put_before-requires c).After-few_digits, start.requires.2))
