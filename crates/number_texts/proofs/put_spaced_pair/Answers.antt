-- `number_texts::put_spaced_pair` meets its contract: one digit or two, and before them the minus and the space.
-- Assumes nothing.
use mathlib.Core.Path.{◌≡◌, ◌∙◌, ap}
use Prim.Native.Nat.{◌<◌}
use native.Mathlib.Omega.{arith}
use lib.IntN.{nat_abs}
use mir.Facts.{to_z-of_z}
use Rattle.number_texts.specs.TextBytes.{number_bytes}
use Rattle.number_texts.specs.Runs.{put-into}
use Rattle.number_texts.specs.Texts.{nine-digits}
use Rattle.number_texts.specs.DigitPairs.{Begins, long-stored}
use Rattle.number_texts.proofs.put_spaced_pair.Goals as goal
use Rattle.number_texts.proofs.put_spaced_pair.Goals.{After-digits_from-start, Start}

-- the size of the number, and where its digits begin
module _ (c : After-digits_from-start) where
  abbrev begin : Start
  begin = (goal.at.After-digits_from-start c).Start

  size : c.magnitude-size.result ≡ nat_abs begin.args.a
  size = c.magnitude-size.ensures ∙ ap nat_abs (to_z-of_z begin.ranges.a)

  low : c.magnitude-size.result < 100
  low = omega (arith, size, begin.requires.0)

  begins : Begins begin.args.at begin.args.a c.digits_from-start.result
  begins = rw (to_z-of_z begin.ranges.a) at c.digits_from-start.ensures

pub put_short-end-requires : goal.put_short-end-requires
put_short-end-requires c =
    let e = (goal.at.put_short-end-requires c).After-digits_from-start in
    (low e, omega (arith, (begins e).bottom), omega (arith, (begins e).top, (begin e).requires.1))

pub returns : goal.returns
returns c =
    let stored = c.put_short-end in
    let e = (goal.at.returns c).After-digits_from-start in
    let args = (begin e).args in
    let n = e.magnitude-size.result in
    put-into
    (long-stored args.bytes.now stored.new.bytes args.at e.digits_from-start.result stored.result n number_bytes args.a (size e)
    (stored.ensures.1 args.at) stored.ensures.0 (omega (arith, nine-digits n (omega (arith, low e)))) (begins e))
    c.put_sign.ensures
