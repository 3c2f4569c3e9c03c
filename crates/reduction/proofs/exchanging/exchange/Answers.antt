-- `reduction::exchanging::exchange` meets its contract.
-- Assumes nothing.
use mathlib.Core.Path.{◌≡◌, sym, ◌∙◌, ap, ap₂, subst}
use mathlib.Core.List.{List}
use native.Mathlib.Omega.{arith}
use lib.IntN.{ℤ}
use lib.ListN.{length}
use Prim.Native.Nat.{ℕ, ◌+◌, ◌*◌, ◌≤◌}
use lib.Seq.{paste}
use Rattle.rules.specs.Limits.{row_length}
use Rattle.working_rows.specs.declared.WorkingRow.{WorkingRow}
use Rattle.working_rows.specs.Working.{numbers_held, Full, loaded, full-loaded, numbers-loaded}
use Rattle.reduction.specs.StoreExchange.{numbers_at}
use Rattle.reduction.proofs.exchanging.exchange.Goals as goal

-- the numbers of a row that is loaded
held : (l : List ℤ) (k : ℕ) (w : WorkingRow) → w ≡ loaded l (k * row_length) → numbers_held w ≡ numbers_at l k
held l k w e = ap numbers_held e ∙ numbers-loaded l (k * row_length)

full : (l : List ℤ) (k : ℕ) (w : WorkingRow) → k * row_length + row_length ≤ length l → w ≡ loaded l (k * row_length) → Full w
full l k w room e = subst Full (sym e) (full-loaded l (k * row_length) room)

pub save-requires : goal.save-requires
save-requires c =
    (c.requires.row_length_in_bounds.1, full c.args.rows.now c.args.i c.load-first.result c.requires.row_length_in_bounds.0 c.load-first.ensures)

pub save-requires-2 : goal.save-requires-2
save-requires-2 c = (
  omega (arith, c.requires.row_length_in_bounds.0, c.save.auto.store),
  full c.args.rows.now c.args.j c.load-second.result c.requires.row_length_in_bounds.1 c.load-second.ensures,
)

pub returns : goal.returns
returns c =
    let rows = c.args.rows.now in
    c.save-2.ensures
    ∙ ap₂ (λ r l. paste r (c.args.i * row_length) l row_length)
    (c.save.ensures
    ∙ ap (λ l. paste rows (c.args.j * row_length) l row_length) (held rows c.args.i c.load-first.result c.load-first.ensures))
    (held rows c.args.j c.load-second.result c.load-second.ensures)
