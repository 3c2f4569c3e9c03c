-- `number_texts::put_nine` meets its contract. The ninth digit has its place, or what comes before the number is stored over it.
-- Assumes nothing.
use mathlib.Core.Path.{◌≡◌, ◌∙◌, ap}
use mathlib.Core.Logic.{◌⊎◌, inl, inr, ⊎_elim}
use Prim.Native.Nat.{ℕ, ◌+◌, ◌-◌, ◌/◌, ◌%◌, ◌≤◌, ◌<◌}
use native.Mathlib.Omega.{arith}
use lib.ListN.{length, set, length-set}
use lib.Seq.{sets, length-sets}
use Rattle.number_texts.specs.Texts.{digits_of}
use Rattle.number_texts.specs.DigitPairs.{nine-stored}
use Rattle.number_texts.specs.DigitPairs.{eight_of, digits-some, six-more}
use Rattle.number_texts.proofs.put_nine.Goals as goal
use Rattle.number_texts.proofs.put_nine.Goals.{Joined-at-end, Start, else-at-end, then-at-end}

-- there are seven digits, or more
seven : (n : ℕ) → 1000000 ≤ n → 7 ≤ length (digits_of n)
seven n h = omega (arith, six-more n h, digits-some (n / 1000000))

-- the ninth digit's place
module _ (c : Joined-at-end) where
  abbrev start : Start
  start = (goal.at.Joined-at-end c).Start

  place : ((start.args.at + 9 ≤ start.args.end) × (c.if-at-end.first ≡ start.args.end - 9))
      ⊎ ((start.args.end < start.args.at + 9) × (c.if-at-end.first ≡ start.args.at))
  place = elim c.if-at-end.branch [
    | then-at-end w ↦ inl (w.if-at-end.true, w.first-is)
    | else-at-end w ↦ inr (w.if-at-end.false, w.first-is)
  ]

  below : c.if-at-end.first < start.args.end
  below = ⊎_elim (λ w. omega arith) (λ w. omega arith) place

  long : 7 ≤ length (digits_of start.args.n)
  long = seven start.args.n start.requires.0

pub bounds-bytes-first : goal.bounds-bytes-first
bounds-bytes-first c = omega (arith, below c)

pub overflow_sub-end : goal.overflow_sub-end
overflow_sub-end c = omega (arith, long (goal.at.overflow_sub-end c).Joined-at-end)

pub put_eight-requires : goal.put_eight-requires
put_eight-requires c = (omega arith, simp length-set (omega (arith, long (goal.at.put_eight-requires c).Joined-at-end)))

pub shape_of-bytes : goal.shape_of-bytes
shape_of-bytes c =
    let e = (goal.at.shape_of-bytes c).Joined-at-end in
    let bytes = (start e).args.bytes.now in
    let ninth = 48 + (start e).args.n / 100000000 in
    ap length c.put_eight.ensures
    ∙ length-sets (set bytes e.if-at-end.first ninth) ((start e).args.end - 8) (eight_of ((start e).args.n % 100000000))
    ∙ length-set bytes e.if-at-end.first ninth

pub returns : goal.returns
returns c front some same =
    let e = (goal.at.returns c).Joined-at-end in
    let args = (start e).args in
    ap (λ l. sets l args.at front) c.put_eight.ensures
    ∙ nine-stored args.bytes.now args.at args.end args.n e.if-at-end.first (start e).requires.0 (start e).requires.1 (place e) front some same
