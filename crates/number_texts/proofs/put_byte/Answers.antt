-- `number_texts::put_byte` meets its contract. A store past the end changes nothing.
-- Assumes nothing.
use mathlib.Core.Path.{refl, sym}
use borrow.Author.Rules.{rules}
use lib.Seq.{set_out}
use Rattle.number_texts.proofs.put_byte.Goals as goal

pub returns-else-at-bytes : goal.returns-else-at-bytes
returns-else-at-bytes c =
    let args = c.args in
    record {
      stored = sym (set_out args.bytes.now args.at args.b c.if-at-bytes.false);
      passed = refl;
      few = search rules;
    }
