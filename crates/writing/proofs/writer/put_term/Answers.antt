-- `writing::writer::put_term` meets its contract. A term is its block, its column, the number of its coefficients and those.
-- Assumes nothing.
use mathlib.Core.Path.{◌≡◌, sym, ◌∙◌, ap}
use mathlib.Core.List.{List, [], ◌∷◌}
use Prim.Native.Nat.{ℕ, ◌+◌, ◌*◌, ◌≤◌}
use native.Mathlib.Omega.{arith}
use lib.IntN.{ℤ, pos}
use lib.ListN.{length, take}
use lib.Seq.{length-take-le}
use mir.Facts.{to_z-of_z}
use Rattle.rules.specs.Limits.{small}
use Rattle.lists.specs.Tests.{every_take}
use Rattle.writing.specs.SheetBytes.{term_bytes}
use Rattle.number_texts.specs.TextBytes.{number_bytes, count_bytes}
use Rattle.writing.specs.Writer.{trim-le, term-none, term-some}
use Rattle.number_texts.specs.Runs.{put-none, put_same, put-wide}
use Rattle.number_texts.specs.Texts.{spaced, spaced-then}
use borrow.Author.Rules.{rules}
use mir.Syntax.{w64}
use Rattle.writing.proofs.writer.put_term.Goals as goal
use Rattle.writing.proofs.writer.put_term.Goals.{Start}

-- the coefficients that are written
module _ (c : Start) where
  abbrev p : List ℤ
  p = c.args.p.now

  abbrev n : ℕ
  n = c.args.n

  few : n ≤ length p
  few = omega (arith, trim-le p, c.requires.1)

  size : length (take n p) ≡ n
  size = length-take-le n p few

pub returns-then-n-eq0 : goal.returns-then-n-eq0
unfolding spaced
returns-then-n-eq0 c =
    let start = (goal.at.returns-then-n-eq0 c).Start in
    put-none (ap spaced (term-none start.args.block start.args.column (p start) (sym start.requires.1 ∙ c.if-n-eq0.true)))

pub put_next_short-after_block-requires : goal.put_next_short-after_block-requires
put_next_short-after_block-requires c =
    (rw (to_z-of_z {w = w64} c.ranges.block) (omega (arith, c.requires.4)), search rules)

pub slice_bounds-put_numbers-end : goal.slice_bounds-put_numbers-end
slice_bounds-put_numbers-end c =
    sym (size (goal.at.slice_bounds-put_numbers-end c).Start)

pub put_numbers-requires : goal.put_numbers-requires
put_numbers-requires c =
    let t = (goal.at.put_numbers-requires c).Start in
    (every_take small (n t) (p t) t.requires.3, omega (arith, size t, few t))

pub returns : goal.returns
returns c =
    let t = (goal.at.returns c).Start in
    let args = t.args in
    let column = args.column in
    let coefficients = take (n t) (p t) in
    let bound : number_bytes + (count_bytes + (count_bytes + number_bytes * length coefficients)) ≤ term_bytes =
    omega (arith, size t, few t) in
    put-wide
    (put_same
    (spaced-then (_ ∷ []) (pos column ∷ pos (n t) ∷ coefficients) c.put_next_short-after_block.ensures
    (spaced-then (pos column ∷ []) (pos (n t) ∷ coefficients) c.put_next_count-after_column.ensures
    (spaced-then (pos (n t) ∷ []) coefficients c.put_next_count-after_count.ensures c.put_numbers.ensures)))
    (ap (λ s. spaced (s ∷ pos column ∷ pos (n t) ∷ coefficients)) (to_z-of_z {w = w64} t.ranges.block)
    ∙ ap spaced (sym (term-some args.block column (n t) (p t) t.requires.1 c.if-n-eq0.false))))
    bound
