-- `writing::writer::put_sizes` meets its contract: the form's number 3, m, l, t, and the end of the line.
-- Assumes nothing.
use mathlib.Core.Path.{◌∙◌, ap₂}
use mathlib.Core.List.{List, [], ◌∷◌, ◌++◌}
use Prim.Native.Nat.{ℕ}
use native.Mathlib.Omega.{arith}
use lib.IntN.{ℤ, pos}
use mir.Facts.{to_z-of_z}
use Rattle.rules.specs.Numbers.{newline}
use Rattle.writing.specs.Writer.{sizes-line}
use Rattle.number_texts.specs.Runs.{put_same, put_then}
use Rattle.number_texts.specs.Texts.{spaced, spaced-then}
use borrow.Author.Rules.{rules}
use mir.Syntax.{w64}
use Rattle.writing.proofs.writer.put_sizes.Goals as goal

pub put_next_short-after_l-requires : goal.put_next_short-after_l-requires
put_next_short-after_l-requires c =
    (rw (to_z-of_z {w = w64} c.ranges.l) (omega (arith, c.requires.1)), search rules)

pub put_next_short-after_t-requires : goal.put_next_short-after_t-requires
put_next_short-after_t-requires c =
    (rw (to_z-of_z {w = w64} c.ranges.t) (omega (arith, c.requires.2)), search rules)

pub returns : goal.returns
returns c =
    let m = c.args.m in
    let bytes : ℤ → ℤ → List ℕ = λ l t. ((51 ∷ []) ++ spaced (pos m ∷ l ∷ t ∷ [])) ++ (newline ∷ []) in
    put_same
    (put_then
    (put_then c.put_byte-after_form.ensures
    (spaced-then (pos m ∷ []) (_ ∷ _ ∷ []) c.put_next_count-after_m.ensures
    (spaced-then (_ ∷ []) (_ ∷ []) c.put_next_short-after_l.ensures c.put_next_short-after_t.ensures)))
    c.put_byte.ensures)
    (ap₂ bytes (to_z-of_z {w = w64} c.ranges.l) (to_z-of_z {w = w64} c.ranges.t) ∙ sizes-line m c.args.l c.args.t)
