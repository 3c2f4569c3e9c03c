-- `writing::writer::given_fits` meets its contract: the text and the right sides of its relations are taken off the room.
-- Assumes nothing.
use mathlib.Core.Path.{ap}
use Prim.Native.Nat.{◌-◌, ◌*◌, ◌≤◌}
use native.Mathlib.Omega.{arith}
use borrow.Author.Rules.{rules}
use lib.Dec.{T}
use lib.ListN.{length}
use Rattle.lists.specs.Taken.{whole_part}
use Rattle.lists.specs.Tests.{every}
use Rattle.rules.specs.Limits.{relation_length, small}
use Rattle.writing.specs.GivenLines.{lines-length-given, parts-behind}
use Rattle.writing.specs.LineLengths.{lines_length}
use Rattle.writing.proofs.writer.given_fits.Goals as goal
use Rattle.writing.proofs.writer.given_fits.Goals.{Start}

enough : (c : Start) → c.args.first * relation_length ≤ length c.args.relations.now
enough c = omega (arith, c.requires.count_le_most_relations.1, c.requires.count_le_most_relations.3)

pub overflow_add-taken : goal.overflow_add-taken
overflow_add-taken c = omega (arith, c.well_formed.1.1.1.1.0.1, c.requires.count_le_most_relations.0, c.requires.count_le_most_relations.3)

pub returns-then-room-taken : goal.returns-then-room-taken
returns-then-room-taken c t l h e = absurd t

pub plainly_fits-requires : goal.plainly_fits-requires
plainly_fits-requires c =
    let start = (goal.at.plainly_fits-requires c).Start in
    let args = start.args in
    let behind = (whole_part args.relations.now (args.first * relation_length) (enough start)).0 in record {
      equations_le_most_equations = start.requires.equations_le_most_equations;
      count_le_most_relations = (
        search rules,
        search rules,
        rw behind (parts-behind (λ part. T (every small part)) relation_length args.first args.count args.relations.now
            start.requires.count_le_most_relations.2),
      );
    }

pub returns : goal.returns
returns c t l h e =
    let start = (goal.at.returns c).Start in
    let args = start.args in
    let store = args.relations.now in
    let behind = (whole_part store (args.first * relation_length) (enough start)).0 in
    omega (
      arith,
      c.plainly_fits.ensures t l h,
      ap (lines_length l args.equations (args.count - args.first) args.rows.now) behind,
      lines-length-given l args.equations args.first args.count args.rows.now store args.given.now
          start.requires.count_le_most_relations.3 e,
      c.if-room-taken.false,
      start.requires.count_le_most_relations.3,
    )
