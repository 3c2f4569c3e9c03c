-- `writing::writer::put_given` meets its contract: the lines of the first relations, and those of the others.
-- Assumes nothing.
use mathlib.Core.Path.{◌∙◌, ap, ap₂}
use mathlib.Core.List.{List, ◌++◌, map}
use Prim.Native.Nat.{ℕ, ◌-◌, ◌*◌, ◌≤◌}
use native.Mathlib.Omega.{arith}
use borrow.Author.Rules.{rules}
use lib.Dec.{T}
use lib.IntN.{ℤ}
use lib.ListN.{length, drop}
use Rattle.lists.specs.Taken.{whole_part}
use Rattle.lists.specs.Tests.{every}
use Rattle.rules.specs.Limits.{relation_length, small}
use Rattle.rules.specs.Numbers.{lines}
use Rattle.rules.specs.Sheets.{relation_line}
use Rattle.rules.specs.Stores.{relations_of}
use Rattle.writing.specs.Records.{relation-lines}
use Rattle.writing.specs.GivenLines.{lines-given, parts-behind}
use Rattle.number_texts.specs.Runs.{put_same, put_then}
use Rattle.writing.specs.Writer.{Unused}
use Rattle.writing.proofs.writer.put_given.Goals as goal

pub put_records-requires : goal.put_records-requires
put_records-requires c =
    let args = c.args in
    let enough : args.first * relation_length ≤ length args.relations.now = search rules in
    let behind = (whole_part args.relations.now (args.first * relation_length) enough).0 in (
      search rules,
      search rules,
      search rules,
      search rules,
      rw behind (parts-behind (λ part. T (every small part)) relation_length args.first args.count args.relations.now
          c.requires.count_le_most_relations.3),
      rw behind
          (parts-behind (λ part. Unused args.shape.m args.shape.blocks (drop 1 part)) relation_length args.first args.count
          args.relations.now c.requires.count_le_most_relations.4),
    )

pub returns : goal.returns
returns c =
    let args = c.args in
    let store = args.relations.now in
    let bytes : List ℤ → List ℕ = λ part. lines (map (relation_line args.shape.l) (relations_of (args.count - args.first) part)) in
    let enough : args.first * relation_length ≤ length store =
    omega (arith, c.requires.count_le_most_relations.1, c.requires.first_le_count.0) in
    put_same (put_then c.put_text-after_given.ensures (put_same c.put_records.ensures (relation-lines _ _ _)))
    (ap₂ ◌++◌ c.requires.first_le_count.1
    (ap bytes (whole_part store (args.first * relation_length) enough).0)
    ∙ lines-given args.shape.l args.first args.count store c.requires.first_le_count.0)
