-- `writing::writer::write_checked` meets its contract: an empty text has the lines of no relation.
-- Assumes nothing.
use mathlib.Core.Path.{refl}
use mathlib.Core.List.{flatten}
use native.Mathlib.Omega.{arith}
use borrow.Author.Rules.{rules}
use Rattle.lists.specs.Parts.{parts}
use Rattle.rules.specs.Numbers.{lines}
use Rattle.rules.specs.Stores.{relations_of}
use Rattle.writing.proofs.writer.write_checked.Goals as goal

pub write_given-requires : goal.write_given-requires
unfolding lines flatten relations_of parts
write_given-requires c = record { relations_value = search rules; first_le_count = (omega arith, refl) }
