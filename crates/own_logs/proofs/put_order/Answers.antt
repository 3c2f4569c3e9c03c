-- `own_logs::put_order` meets its contract. The loop's invariant: the first j columns are written.
-- Assumes nothing.
use mathlib.Core.Path.{◌≡◌, refl, sym, ◌∙◌, ap, ap₂}
use mathlib.Core.List.{List, map}
use Prim.Native.Nat.{ℕ, ◌+◌, ◌≤◌, ◌<◌}
use native.Mathlib.Numerals.{add-one}
use native.Mathlib.Omega.{arith}
use lib.IntN.{pos}
use lib.ListN.{length, get_or, set, length-set, length-map}
use lib.Seq.{paste, paste-zero, paste-suc}
use Rattle.lists.specs.Everywhere.{All, all_get_or}
use Rattle.lists.specs.Images.{get_or_map}
use Rattle.rules.specs.Limits.{column_count}
use Rattle.own_logs.specs.LineLaws.{number_is}
use Rattle.own_logs.proofs.put_order.Goals as goal

pub loop-j-init : goal.loop-j-init
loop-j-init c = (refl, paste-zero c.args.log.now c.args.at (map pos c.args.order))

-- a column is a small number
column-few : (order : List ℕ) (j : ℕ) → All (λ c. c ≤ column_count) order → j < length order → get_or order j 0 ≤ column_count
column-few order j all h = all_get_or (λ n. n ≤ column_count) order 0 j h all

pub overflow_cast-log : goal.overflow_cast-log
overflow_cast-log c = omega (arith, column-few c.args.order c.loop-j.j c.requires.1 (omega arith))

pub loop-j-preserved : goal.loop-j-preserved
loop-j-preserved c =
    let args = c.args in
    let log = args.log.now in
    let at = c.loop-j in
    let j = at.j in
    let inside : j < length args.order = omega arith in
    let value = number_is (get_or args.order j 0) (omega (arith, column-few args.order j c.requires.1 inside)) ∙ sym (get_or_map pos args.order j 0 (pos 0) inside) in (
      simp length-set at.invariant.0,
      ap₂ (λ l v. set l (args.at + j) v) at.invariant.1 value
          ∙ paste-suc log args.at (map pos args.order) j (pos 0) (omega (arith, c.requires.0, c.requires.2))
          (rw length-map inside)
          ∙ ap (paste log args.at (map pos args.order)) (sym (add-one j)),
    )

pub returns : goal.returns
returns c =
    let all : c.loop-j.j ≡ column_count = omega arith in
    rw all at c.loop-j.invariant.1
