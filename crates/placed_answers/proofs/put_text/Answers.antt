-- `placed_answers::put_text` meets its contract: an array of a text has 192 bytes.
-- Assumes nothing.
use Prim.Native.Nat.{◌≤◌}
use mathlib.Core.Path.{◌≡◌, sym, ◌∙◌, ap}
use native.Mathlib.Omega.{arith}
use mathlib.Core.List.{◌++◌}
use lib.ListN.{length, take, drop}
use lib.Seq.{length-take-le, take-length}
use Rattle.lists.specs.Overwritten.{overwrite}
use Rattle.frames.specs.Pieces.{text_room}
use borrow.Author.Rules.{rules}
use Rattle.placed_answers.proofs.put_text.Goals as goal
use Rattle.placed_answers.proofs.put_text.Goals.{Start}

-- The first bytes of a text are as many as its length says.
within : (c : Start) → c.args.text.length ≤ length c.args.text.bytes
within c =
    let bytes : length c.args.text.bytes ≡ text_room = search rules in
    omega arith

counted : (c : Start) → length (take c.args.text.length c.args.text.bytes) ≡ c.args.text.length
counted c = length-take-le c.args.text.length c.args.text.bytes (within c)

pub slice_bounds-lines-end : goal.slice_bounds-lines-end
slice_bounds-lines-end c = within (goal.at.slice_bounds-lines-end c).Start

pub slice_bounds-copy-end : goal.slice_bounds-copy-end
slice_bounds-copy-end c = sym (counted (goal.at.slice_bounds-copy-end c).Start)

pub copy-requires : goal.copy-requires
copy-requires c = omega (arith, counted (goal.at.copy-requires c).Start)

pub returns : goal.returns
returns c =
    c.copy.ensures.target_after
