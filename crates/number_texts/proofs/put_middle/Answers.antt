-- `number_texts::put_middle` meets its contract. A zero stands before three digits.
-- Assumes nothing.
use mathlib.Core.Path.{◌≡◌, ◌∙◌, ap}
use Prim.Native.Nat.{◌+◌, ◌≤◌}
use native.Mathlib.Omega.{arith}
use lib.ListN.{length}
use lib.Seq.{sets}
use Rattle.number_texts.specs.Texts.{digits_of, digits-size}
use Rattle.number_texts.specs.DigitPairs.{four-first}
use Rattle.number_texts.proofs.put_middle.Goals as goal
use Rattle.number_texts.proofs.put_middle.Goals.{Joined-n-ge1000, Start, else-n-ge1000, then-n-ge1000}

-- where the number ends
module _ (c : Joined-n-ge1000) where
  abbrev begin : Start
  begin = (goal.at.Joined-n-ge1000 c).Start

  ended : c.if-n-ge1000.end ≡ begin.args.start + length (digits_of begin.args.n)
  ended =
      elim c.if-n-ge1000.branch [
        | then-n-ge1000 w ↦ omega (arith, digits-size 3 begin.args.n w.if-n-ge1000.true begin.requires.1, w.end-is)
        | else-n-ge1000 w ↦ omega (arith, digits-size 2 begin.args.n begin.requires.0 w.if-n-ge1000.false, w.end-is)
      ]

  top : c.if-n-ge1000.end ≤ begin.args.start + 4
  top = elim c.if-n-ge1000.branch [ then-n-ge1000 w ↦ omega (arith, w.end-is) | else-n-ge1000 w ↦ omega (arith, w.end-is) ]

  bottom : begin.args.start + 3 ≤ c.if-n-ge1000.end
  bottom = elim c.if-n-ge1000.branch [ then-n-ge1000 w ↦ omega (arith, w.end-is) | else-n-ge1000 w ↦ omega (arith, w.end-is) ]

pub overflow_sub-end : goal.overflow_sub-end
overflow_sub-end c = omega (arith, bottom (goal.at.overflow_sub-end c).Joined-n-ge1000)

pub put_four-requires : goal.put_four-requires
put_four-requires c = (omega arith, omega (arith, bottom (goal.at.put_four-requires c).Joined-n-ge1000, top (goal.at.put_four-requires c).Joined-n-ge1000))

pub returns : goal.returns
returns c =
    let e = (goal.at.returns c).Joined-n-ge1000 in
    let args = (begin e).args in (
      ended e,
      λ at front some same.
          ap (λ l. sets l at front) c.put_four.ensures
          ∙ four-first args.bytes.now at e.if-n-ge1000.end args.n (begin e).requires.0 (begin e).requires.1 front some same,
    )
