-- `writing::writer::put_text` meets its contract: as much of the text is copied as the store takes.
-- Assumes nothing.
use Rattle.std.proofs.Common.{◌≡◌, refl, sym, ◌∙◌, ap, add-zero, ◌-◌, min, take, length, length-take-le, arith}
use Rattle.std.proofs.Math.Seq.{sets}
use Rattle.std.proofs.lemmas.Slice.{put_mid-paste}
use Rattle.writing.specs.GivenLines.{text-last, text-stored}
use Rattle.writing.proofs.writer.put_text.Goals as goal

pub returns-then-at-end : goal.returns-then-at-end
returns-then-at-end c =
    let d = c.args.bytes.now in
    let text = c.args.text.now in
    let at = c.args.at in
    let n = c.min-end.result - at in
    let many : n ≡ min (length text) (length d - at) = omega (arith, c.min-end.ensures) in
    let size : length (take n text) ≡ n = length-take-le n text (omega arith) in
    record {
      stored = put_mid-paste at n d c.copy_from_slice.new.self (take n text) n c.copy_from_slice.ensures.after refl (sym size) ∙ text-stored d text at n many (omega arith);
      passed = refl;
      few = omega arith;
    }

pub returns-else-at-end : goal.returns-else-at-end
returns-else-at-end c =
    let args = c.args in
    let none : 0 ≡ min (length args.text.now) (length args.bytes.now - args.at) = omega (arith, c.min-end.ensures) in
    record { stored = sym (ap (λ n. sets args.bytes.now n args.text.now) (sym (add-zero args.at)) ∙ text-last args.bytes.now args.text.now args.at 0 none); passed = refl; few = omega arith }
