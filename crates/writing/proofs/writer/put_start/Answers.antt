-- `writing::writer::put_start` meets its contract: the number of terms alone, or behind n0.
-- Assumes nothing.
use Rattle.std.proofs.Common.{rules, ◌≡◌, sym, ◌∙◌, ap, ℤ, pos, get_or, w64, to_z, of_z, arith, lit<, ◌++◌, [], ◌∷◌}
use mir.Facts.{to_z-of_z}
use Rattle.integers.specs.Ranges.{sfits-size}
use Rattle.rules.specs.Limits.{small}
use Rattle.rules.specs.Numbers.{decimal}
use Rattle.lists.specs.Tests.{every-get_or}
use Rattle.number_texts.specs.Runs.{put_same, put_then, put-wide}
use Rattle.number_texts.specs.Texts.{spaced, small_size}
use Rattle.writing.specs.Records.{record_start, start-behind}
use Rattle.writing.proofs.writer.put_start.Goals as goal
use Rattle.writing.proofs.writer.put_start.Goals.{Start}

-- n0 is what it reads as.
module _ (c : Start) where
  abbrev n0 : ℤ
  n0 = get_or c.args.part.now 0 (pos 0)

  read : to_z w64 (of_z w64 n0) ≡ n0
  unfolding small
  read = to_z-of_z (sfits-size n0 (small_size n0 (every-get_or small c.args.part.now (pos 0) tt c.requires.1 0)) (lit< tt))

pub returns-then-skip-eq0 : goal.returns-then-skip-eq0
unfolding record_start
returns-then-skip-eq0 c =
    put-wide (put_same c.put_digits.ensures (sym (ap (λ k. record_start k c.args.part.now c.args.terms) c.if-skip-eq0.true))) (omega arith)

pub put_number-indexed-requires : goal.put_number-indexed-requires
unfolding small
put_number-indexed-requires c =
    (rw (read (goal.at.put_number-indexed-requires c).Start) (every-get_or small c.args.part.now (pos 0) tt c.requires.1 0), search rules)

pub returns : goal.returns
returns c =
    put_same (put_then c.put_number-indexed.ensures c.put_next_count.ensures)
    (ap (λ a. decimal a ++ spaced (pos c.args.terms ∷ [])) (read (goal.at.returns c).Start)
    ∙ sym (start-behind c.args.skip c.args.part.now c.args.terms c.if-skip-eq0.false))
