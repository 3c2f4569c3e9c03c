-- `number_texts::put_digits` meets its contract. One digit is stored at once; digits past the store's end change nothing.
-- Assumes nothing.
use mathlib.Core.Path.{sym, ap}
use Prim.Native.Nat.{◌+◌}
use native.Mathlib.Omega.{arith}
use Rattle.number_texts.specs.Runs.{put_same, put-few}
use Rattle.number_texts.specs.Texts.{digits_of, digits-one, digits-length}
use Rattle.lists.specs.Pasted.{sets-out}
use Rattle.number_texts.proofs.put_digits.Goals as goal

pub returns-then-n-lt10 : goal.returns-then-n-lt10
returns-then-n-lt10 c =
    let n = c.args.n in
    put-few (put_same c.put_byte.ensures (sym (digits-one n (omega arith)))) (digits-length n (omega arith))

pub overflow_add-end : goal.overflow_add-end
overflow_add-end c = omega (arith, digits-length c.args.n (omega arith))

pub returns-then-at-bytes : goal.returns-then-at-bytes
returns-then-at-bytes c =
    let args = c.args in
    record {
      stored = c.put_digits_back.ensures;
      passed = ap (λ k. args.at + k) c.digit_count.ensures;
      few = digits-length args.n (omega arith);
    }

pub returns-else-at-bytes : goal.returns-else-at-bytes
returns-else-at-bytes c =
    let args = c.args in
    record {
      stored = sym (sets-out args.bytes.now args.at (digits_of args.n) c.if-at-bytes.false);
      passed = ap (λ k. args.at + k) c.digit_count.ensures;
      few = digits-length args.n (omega arith);
    }
