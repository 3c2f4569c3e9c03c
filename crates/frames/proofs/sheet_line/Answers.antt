-- `frames::sheet_line` meets its contract: the window decides both numbers.
-- Assumes nothing.
use mathlib.Core.Path.{◌≡◌}
use lib.Dec.{lit<}
use lib.IntN.{ℤ}
use lib.ListN.{drop}
use mathlib.Core.List.{List}
use Prim.Native.Nat.{ℕ}
use mir.Syntax.{w64}
use mir.Val.{SFits}
use mir.Facts.{to_z-of_z, Fits-nat_abs}
use Rattle.std.proofs.lemmas.Result.{err_from_is_err_and}
use Rattle.integers.specs.Ranges.{sfits-size}
use Rattle.refusals.specs.Refusals.{number_of}
use Rattle.rules.specs.Numbers.{got}
use Rattle.tokens.specs.Fields.{read-ok, read-err, read-within}
use Rattle.tokens.specs.Windows.{Window, client_of, count_of}
use Rattle.frames.specs.Lines.{window-of, line-no-client, line-no-size, line_read, in-range}
use Rattle.frames.proofs.sheet_line.Goals as goal
use Rattle.frames.proofs.sheet_line.Goals.{In_ok-client, In_ok-size}

pub returns-in_err-client : goal.returns-in_err-client
returns-in_err-client c =
    let p = err_from_is_err_and c.from_residual.result c.from_residual.ensures.1 in
    rw (p.1, p.2)
    (line-no-client (window-of c.args.bytes.now c.window-w.ensures) (number_of c.in_err-client.field-0.0) (read-err c.in_err-client.ensures))

-- The client has been read.
module _ (c : In_ok-client) where
  abbrev client : ℤ
  client = c.in_ok-client.client.value

  abbrev w : List ℕ
  w = c.window-w.result.now

  -- The bytes that are left after the client.
  abbrev rest : List ℕ
  rest = drop c.in_ok-client.client.at w

  seen : Window w c.args.bytes.now
  seen = window-of c.args.bytes.now c.window-w.ensures

  client-read : client_of w ≡ got client rest
  client-read = read-ok c.in_ok-client.ensures

  client-fits : SFits w64 client
  client-fits = sfits-size client (in-range 1 8 32 w client rest client-read).2 (lit< tt)

pub returns-in_err-size : goal.returns-in_err-size
returns-in_err-size c =
    let d = (goal.at.returns-in_err-size c).In_ok-client in
    let p = err_from_is_err_and c.from_residual-in_err-size.result c.from_residual-in_err-size.ensures.1 in
    rw (p.1, p.2)
    (line-no-size (seen d) (client d) (rest d) (client-read d) (number_of c.in_err-size.field-0.0) (read-err c.in_err-size.ensures))

-- Both numbers have been read.
module _ (c : In_ok-size) where
  abbrev d : In_ok-client
  d = (goal.at.In_ok-size c).In_ok-client

  abbrev size : ℤ
  size = c.in_ok-size.size.value

  size-read : count_of (rest d) ≡ got size (drop c.in_ok-size.size.at (w d))
  size-read = read-ok c.in_ok-size.ensures

  size-fits : SFits w64 size
  size-fits = sfits-size size (in-range 0 32768 10 (rest d) size (drop c.in_ok-size.size.at (w d)) size-read).2 (lit< tt)

pub overflow_cast-result : goal.overflow_cast-result
overflow_cast-result c =
    let e = d (goal.at.overflow_cast-result c).In_ok-size in
    rw (to_z-of_z {w = w64} (client-fits e))
    ((in-range 1 8 32 (w e) (client e) (rest e) (client-read e)).0, Fits-nat_abs tt (client-fits e))

pub overflow_cast-result-2 : goal.overflow_cast-result-2
overflow_cast-result-2 c =
    let e = (goal.at.overflow_cast-result-2 c).In_ok-size in
    rw (to_z-of_z {w = w64} (size-fits e))
    ((in-range 0 32768 10 (rest (d e)) (size e) (drop e.in_ok-size.size.at (w (d e))) (size-read e)).0, Fits-nat_abs tt (size-fits e))

pub returns : goal.returns
returns c =
    let e = (goal.at.returns c).In_ok-size in
    simp (to_z-of_z {w = w64} (client-fits (d e)), to_z-of_z {w = w64} (size-fits e))
    (line_read (seen (d e)) (client (d e)) (rest (d e)) (client-read (d e)) (size e) e.in_ok-size.size.at (size-read e)
    (read-within e.in_ok-size.ensures))
