-- `writing::writer::term_length` meets its contract. A polynomial that is not in use is zero, and has no coefficients.
-- Assumes nothing.
use mathlib.Core.Path.{◌≡◌, sym, ◌∙◌, ap}
use Prim.Native.Nat.{◌+◌, ◌*◌, ◌-◌}
use native.Mathlib.Omega.{arith}
use lib.ListN.{length, take, drop}
use Rattle.rules.specs.Limits.{coefficient_count}
use Rattle.rules.specs.Sheets.{trim}
use Rattle.rules.specs.Layout.{coefficients_at_of}
use Rattle.writing.specs.Writer.{trim-none}
use Rattle.writing.proofs.writer.term_length.Goals as goal

pub returns-then-m-i : goal.returns-then-m-i
returns-then-m-i c =
    sym (ap length (trim-none (coefficients_at_of c.args.row.now c.args.i) (c.requires.2 c.if-m-i.true)))

pub returns : goal.returns
returns c =
    let args = c.args in
    let width : args.i * coefficient_count + coefficient_count - args.i * coefficient_count ≡ coefficient_count = omega arith in
    c.trimmed.ensures ∙ ap (λ n. length (trim (take n (drop (args.i * coefficient_count) args.row.now)))) width
