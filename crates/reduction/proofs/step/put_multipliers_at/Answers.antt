-- `reduction::step::put_multipliers_at` meets its contract.
-- Assumes nothing.
use mathlib.Core.Path.{◌≡◌, sym, ◌∙◌, ap, ap₂}
use mathlib.Core.List.{List}
use Prim.Native.Nat.{◌+◌, ◌*◌, ◌-◌}
use native.Mathlib.Omega.{arith}
use lib.IntN.{ℤ}
use lib.ListN.{take, drop}
use Rattle.rules.specs.Limits.{coefficient_count}
use Rattle.rules.specs.Rows.{entry}
use Rattle.rules.specs.Elimination.{multipliers, roots_with_of}
use Rattle.rules.specs.Stores.{row_of}
use Rattle.multiplicities.specs.Counts.{listed_with}
use Rattle.stores.specs.Flat.{entry_at}
use Rattle.reduction.specs.StoreExchange.{length-entry, small-entry}
use Rattle.reduction.proofs.step.put_multipliers_at.Goals as goal
use Rattle.reduction.proofs.step.put_multipliers_at.Goals.{Start}

-- what the parts of the arguments are
module _ (c : Start) where
  size : c.args.c * coefficient_count + coefficient_count - c.args.c * coefficient_count ≡ coefficient_count
  size = omega arith

  entry_of : (l : List ℤ)
      → take (c.args.c * coefficient_count + coefficient_count - c.args.c * coefficient_count) (drop (c.args.c * coefficient_count) l)
      ≡ entry (row_of l) c.args.c
  entry_of l = ap (λ n. take n (drop (c.args.c * coefficient_count) l)) size ∙ sym (entry_at l c.args.c c.requires.c_lt_column_count.0)

pub put_multipliers-requires : goal.put_multipliers-requires
put_multipliers-requires c =
    let start = (goal.at.put_multipliers-requires c).Start in
    let target = start.args.target.now in
    let pivot = start.args.pivot.now in
    let column = start.args.c in
    rw (entry_of start target, entry_of start pivot) record {
      g_len = start.requires.g_len;
      sixteen = ((length-entry pivot column start.requires.c_lt_column_count.2 start.requires.c_lt_column_count.0, small-entry pivot column start.requires.t.1 start.requires.c_lt_column_count.0), start.requires.t_2);
      sixteen_2 = (length-entry target column start.requires.c_lt_column_count.1 start.requires.c_lt_column_count.0, small-entry target column start.requires.t.0 start.requires.c_lt_column_count.0);
    }

pub returns : goal.returns
returns c =
    let start = (goal.at.returns c).Start in
    let same = ap₂ multipliers (entry_of start start.args.pivot.now) (entry_of start start.args.target.now) in
    record {
      g_after = c.put_multipliers.ensures.g_after ∙ ap (λ x. x.g) same;
      h_after = c.put_multipliers.ensures.h_after ∙ ap (λ x. x.h) same;
      value = c.put_multipliers.ensures.value ∙ ap (λ x. listed_with (roots_with_of x.g)) same;
    }
