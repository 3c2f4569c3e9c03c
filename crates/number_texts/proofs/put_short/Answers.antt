-- `number_texts::put_short` meets its contract. A zero stands before a single digit.
-- Assumes nothing.
use mathlib.Core.Path.{◌≡◌, ◌∙◌, ap}
use Prim.Native.Nat.{◌+◌, ◌≤◌}
use native.Mathlib.Omega.{arith}
use lib.ListN.{length}
use lib.Seq.{sets}
use Rattle.number_texts.specs.Texts.{digits_of, digits-one}
use Rattle.number_texts.specs.DigitPairs.{digits-pair, pair-first}
use Rattle.number_texts.proofs.put_short.Goals as goal
use Rattle.number_texts.proofs.put_short.Goals.{Joined-n-ge10, Start, else-n-ge10, then-n-ge10}

-- where the number ends
module _ (c : Joined-n-ge10) where
  abbrev begin : Start
  begin = (goal.at.Joined-n-ge10 c).Start

  ended : c.if-n-ge10.end ≡ begin.args.start + length (digits_of begin.args.n)
  ended =
      elim c.if-n-ge10.branch [
        | then-n-ge10 w ↦ omega (arith, ap length (digits-pair begin.args.n w.if-n-ge10.true begin.requires.0), w.end-is)
        | else-n-ge10 w ↦ omega (arith, ap length (digits-one begin.args.n w.if-n-ge10.false), w.end-is)
      ]

  top : c.if-n-ge10.end ≤ begin.args.start + 2
  top = elim c.if-n-ge10.branch [ then-n-ge10 w ↦ omega (arith, w.end-is) | else-n-ge10 w ↦ omega (arith, w.end-is) ]

  bottom : begin.args.start + 1 ≤ c.if-n-ge10.end
  bottom = elim c.if-n-ge10.branch [ then-n-ge10 w ↦ omega (arith, w.end-is) | else-n-ge10 w ↦ omega (arith, w.end-is) ]

pub overflow_sub-end : goal.overflow_sub-end
overflow_sub-end c = omega (arith, bottom (goal.at.overflow_sub-end c).Joined-n-ge10)

pub put_pair-requires : goal.put_pair-requires
put_pair-requires c = (omega arith, omega (arith, bottom (goal.at.put_pair-requires c).Joined-n-ge10, top (goal.at.put_pair-requires c).Joined-n-ge10))

pub returns : goal.returns
returns c =
    let e = (goal.at.returns c).Joined-n-ge10 in
    let args = (begin e).args in (
      ended e,
      λ at front some same.
          ap (λ l. sets l at front) c.put_pair.ensures
          ∙ pair-first args.bytes.now at e.if-n-ge10.end args.n (begin e).requires.0 front some same,
    )
