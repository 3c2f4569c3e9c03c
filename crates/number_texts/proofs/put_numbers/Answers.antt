-- `number_texts::put_numbers` meets its contract. The loop's invariant: the numbers from an index on are still to be written.
-- Assumes nothing.
use Rattle.std.proofs.Common.{rules, ◌≡◌, ap, [], ◌∷◌, ℤ, pos, T, w64, to_z, of_z, arith, lit<, drop_of_length-le}
use mir.Facts.{to_z-of_z}
use Rattle.integers.specs.Ranges.{sfits-size}
use Rattle.rules.specs.Limits.{small}
use Rattle.lists.specs.Tests.{every-get_or}
use Rattle.number_texts.specs.Runs.{going_next, going-last, put_same}
use Rattle.number_texts.specs.Texts.{spaced, spaced-next, small_size}
use Rattle.number_texts.proofs.put_numbers.Goals as goal

-- A number within C is what it reads as.
read : (a : ℤ) → T (small a) → to_z w64 (of_z w64 a) ≡ a
read a h = to_z-of_z (sfits-size a (small_size a h) (lit< tt))

pub put_next-next-requires : goal.put_next-next-requires
unfolding small
put_next-next-requires c =
    let within = every-get_or small c.args.numbers.now (pos 0) tt c.requires.0 c.loop-a.a-index in
    (rw (read _ within) within, search rules)

pub loop-a-preserved : goal.loop-a-preserved
unfolding small
loop-a-preserved c =
    let numbers = c.args.numbers.now in
    let i = c.loop-a.a-index in
    let same = read _ (every-get_or small numbers (pos 0) tt c.requires.0 i) in
    going_next c.loop-a.invariant (spaced-next numbers i c.loop-a-test.true)
    (put_same c.put_next-next.ensures (ap (λ a. spaced (a ∷ [])) same)) (omega arith)

pub returns : goal.returns
unfolding spaced
returns c = going-last c.loop-a.invariant (ap spaced (drop_of_length-le c.args.numbers.now c.loop-a-test.false)) (omega arith)
