-- `frames::first_line` meets its contract: the window decides the line.
-- Assumes nothing.
use mathlib.Core.Path.{◌≡◌, ◌∙◌, ap}
use lib.Dec.{lit<}
use lib.IntN.{ℤ}
use lib.ListN.{drop}
use mathlib.Core.List.{List}
use Prim.Native.Nat.{ℕ}
use mir.Syntax.{w64}
use mir.Val.{SFits}
use mir.Facts.{to_z-of_z, Fits-nat_abs}
use Rattle.std.proofs.lemmas.Result.{err_from_is_err_and}
use Rattle.integers.specs.Ranges.{sfits-size}
use Rattle.refusals.specs.Refusals.{number_of}
use Rattle.rules.specs.Numbers.{got}
use Rattle.tokens.specs.Fields.{read-ok, read-err, read-within}
use Rattle.frames.specs.Pieces.{read_count}
use Rattle.frames.specs.Lines.{window-of, begun-refused, begun-read, in-range}
use Rattle.frames.proofs.first_line.Goals as goal
use Rattle.frames.proofs.first_line.Goals.{In_ok-n}

pub returns-in_err-n : goal.returns-in_err-n
unfolding read_count
returns-in_err-n c =
    let p = err_from_is_err_and c.from_residual.result c.from_residual.ensures.1 in
    rw (p.1, p.2)
    (begun-refused (window-of c.args.bytes.now c.window.ensures) (number_of c.in_err-n.field-0.0) (read-err c.in_err-n.ensures))

-- The number that was read.
module _ (c : In_ok-n) where
  abbrev k : ℤ
  k = c.in_ok-n.n.value

  abbrev w : List ℕ
  w = c.window.result.now

  read : read_count w ≡ got k (drop c.in_ok-n.n.at w)
  unfolding read_count
  read = read-ok c.in_ok-n.ensures

  k-fits : SFits w64 k
  unfolding read_count
  k-fits = sfits-size k (in-range 0 1000 10 w k (drop c.in_ok-n.n.at w) read).2 (lit< tt)

pub overflow_cast-sheets : goal.overflow_cast-sheets
unfolding read_count
overflow_cast-sheets c =
    let e = (goal.at.overflow_cast-sheets c).In_ok-n in
    rw (to_z-of_z {w = w64} (k-fits e)) ((in-range 0 1000 10 (w e) (k e) (drop e.in_ok-n.n.at (w e)) (read e)).0, Fits-nat_abs tt (k-fits e))

pub returns : goal.returns
returns c =
    let e = (goal.at.returns c).In_ok-n in
    ap (λ b. record { refusal = 0; taken = e.in_ok-n.n.at; batch = b }) (rw (to_z-of_z {w = w64} (k-fits e)) at c.uncounted.ensures)
    ∙ begun-read (window-of e.args.bytes.now e.window.ensures) (k e) e.in_ok-n.n.at (read e) (read-within e.in_ok-n.ensures)
