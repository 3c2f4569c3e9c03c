-- `writing::writer::put_side` meets its contract: the number of coefficients, these, and the end of the line.
-- Assumes nothing.
use mathlib.Core.Path.{◌≡◌, sym}
use mathlib.Core.List.{List}
use Prim.Native.Nat.{ℕ, ◌≤◌}
use native.Mathlib.Omega.{arith}
use lib.IntN.{ℤ}
use lib.ListN.{length, take}
use lib.Seq.{length-take-le}
use Rattle.lists.specs.Tests.{every_take}
use Rattle.rules.specs.Limits.{small}
use Rattle.writing.specs.Writer.{trim-le, side-line}
use Rattle.number_texts.specs.Runs.{put_same, put_then, put-wide}
use Rattle.writing.proofs.writer.put_side.Goals as goal
use Rattle.writing.proofs.writer.put_side.Goals.{After-trimmed-n}

-- the coefficients that are written
module _ (c : After-trimmed-n) where
  abbrev p : List ℤ
  p = c.args.p.now

  abbrev n : ℕ
  n = c.trimmed-n.result

  few : n ≤ length p
  few = omega (arith, trim-le p, c.trimmed-n.ensures)

  size : length (take n p) ≡ n
  size = length-take-le n p few

pub slice_bounds-put_numbers-end : goal.slice_bounds-put_numbers-end
slice_bounds-put_numbers-end c = sym (size (goal.at.slice_bounds-put_numbers-end c).After-trimmed-n)

pub put_numbers-written-requires : goal.put_numbers-written-requires
put_numbers-written-requires c =
    let t = (goal.at.put_numbers-written-requires c).After-trimmed-n in
    (every_take small (n t) (p t) t.requires.2, omega (arith, size t, few t))

pub put_byte-requires : goal.put_byte-requires
put_byte-requires c =
    let t = (goal.at.put_byte-requires c).After-trimmed-n in
    let put = put_then c.put_digits-counted.ensures c.put_numbers-written.ensures in
    omega (arith, size t, few t, put.passed, put.few)

pub returns : goal.returns
returns c =
    let t = (goal.at.returns c).After-trimmed-n in
    put-wide
    (put_same (put_then (put_then c.put_digits-counted.ensures c.put_numbers-written.ensures) c.put_byte.ensures)
    (side-line (p t) (n t) t.trimmed-n.ensures))
    (omega (arith, size t, few t))
