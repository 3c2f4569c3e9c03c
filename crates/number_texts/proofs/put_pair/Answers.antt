-- `number_texts::put_pair` meets its contract. The tenth of a number below 100 is found by a product and a shift.
-- Assumes nothing.
use mathlib.Core.Path.{◌≡◌, ◌∙◌, ap, ap₂}
use Prim.Native.Nat.{◌+◌, ◌-◌, ◌*◌, ◌/◌, ◌%◌}
use native.Mathlib.Numerals.{add-one}
use native.Mathlib.Omega.{arith}
use lib.ListN.{set, length-set}
use Rattle.number_texts.proofs.put_pair.Goals as goal

pub bounds-bytes-next : goal.bounds-bytes-next
bounds-bytes-next c = simp length-set (omega arith)

pub returns : goal.returns
returns c =
    let bytes = c.args.bytes.now in
    let at = c.args.at in
    let n = c.args.n in
    let tens : n * 103 / 1024 ≡ n / 10 = omega arith in
    let ones : n - 10 * (n * 103 / 1024) ≡ n % 10 = omega arith in
    ap₂ (λ x y. set (set bytes at (48 + x)) (at + 1) (48 + y)) tens ones
    ∙ ap (λ i. set (set bytes at (48 + n / 10)) i (48 + n % 10)) (add-one at)
