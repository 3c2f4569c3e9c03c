-- `writing::writer::checks::check_write` meets its contract: the sizes, the order, and then the checks of every call on stores.
-- Assumes nothing.
use mathlib.Core.Path.{◌≡◌, sym, ◌∙◌, ap}
use mathlib.Core.Bool.{Bool, true, false, cond}
use Prim.Native.Nat.{ℕ}
use Rattle.rules.specs.SheetCalls.{order_right_of, check_write_of}
use Rattle.rules.specs.Stores.{Sizes, check_stores_of}
use Rattle.stores.specs.Validity.{the_sizes_of}
use Rattle.writing.specs.WriterChecks.{check_write-order, check_write-sizes}
use Rattle.writing.proofs.writer.checks.check_write.Goals as goal
use Rattle.writing.proofs.writer.checks.check_write.Goals.{Start, then-not-sizes_right-via-then-not-sizes_right, then-not-sizes_right-via-else-not-sizes_right+then-not-order_right}

-- what the function is to give, by the test of the order
module _ (c : Start) where
  abbrev z : Sizes
  z = the_sizes_of c.args.sizes

  abbrev stores : ℕ
  stores = check_stores_of z c.args.count c.args.rows.now c.args.relations.now

  by_order : (t : Bool) → order_right_of z.m c.args.order ≡ t
      → cond t stores 2 ≡ check_write_of z c.args.count c.args.order c.args.rows.now c.args.relations.now
  by_order t e =
      sym
      (check_write-order z c.args.count c.args.order c.args.rows.now c.args.relations.now
      ∙ ap (λ b. cond b stores 2) e)

pub returns-then-not-sizes_right : goal.returns-then-not-sizes_right
unfolding the_sizes_of
returns-then-not-sizes_right c =
    let args = c.args in
    elim c.then-not-sizes_right.branch [
      | then-not-sizes_right-via-then-not-sizes_right w ↦
          check_write-sizes (the_sizes_of args.sizes) args.count args.order args.rows.now args.relations.now
          (sym c.sizes_right.ensures ∙ w.if-not-sizes_right.true)
      | then-not-sizes_right-via-else-not-sizes_right+then-not-order_right w ↦
          by_order (goal.at.returns-then-not-sizes_right c).Start false (sym w.order_right.ensures ∙ w.if-not-order_right.true)
    ]

pub returns : goal.returns
unfolding the_sizes_of
returns c =
    c.check_stores.ensures
    ∙ by_order (goal.at.returns c).Start true (sym c.order_right.ensures ∙ c.if-not-order_right.false)
