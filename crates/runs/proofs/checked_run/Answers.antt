-- `runs::checked_run` meets its contract.
-- Assumes nothing.
use mathlib.Core.List.{List}
use Prim.Native.Nat.{ℕ}
use lib.IntN.{ℤ}
use Rattle.rules.specs.Stores.{Sizes, equations, span, rows_of}
use Rattle.stores.specs.Validity.{the_sizes_of}
use Rattle.runs.specs.CallLaws.{few-equations, few-blocks, rows-unused, columns-unused, Checked, checked}
use Rattle.runs.proofs.checked_run.Goals as goal
use Rattle.runs.proofs.checked_run.Goals.{Start}

-- the stores before the run
module _ (c : Start) where
  abbrev z : Sizes
  z = the_sizes_of c.args.sizes

  abbrev count : ℕ
  count = c.args.count

  abbrev rows : List ℤ
  rows = c.args.rows.now

  abbrev relations : List ℤ
  relations = c.args.relations.now

  stores : Checked z count rows relations
  stores = checked z count rows relations c.requires

pub span-span-requires : goal.span-span-requires
span-span-requires c = (stores c).sizes

pub whole_run-requires : goal.whole_run-requires
unfolding equations the_sizes_of
whole_run-requires c =
    let s = (goal.at.whole_run-requires c).Start in
    let ok = stores s in
    record {
      equations_le_most_equations = (few-equations (z s) ok.sizes, rw c.span-span.ensures (few-blocks (z s) ok.sizes), ok.rows-within, ok.listing);
      t = rw c.span-span.ensures (columns-unused (z s).m (span (z s)) (equations (z s)) (rows s)
          (rows-unused (z s) (rows_of (equations (z s)) (rows s)) ok.valid.rows_right));
    }

pub returns : goal.returns
unfolding equations the_sizes_of
returns c = rw c.span-span.ensures at c.whole_run.ensures
