-- `reading::order::order_at` meets its contract: the number of columns, and then the columns.
-- Assumes nothing.
use mathlib.Core.Path.{◌≡◌, sym, ap, ◌∙◌}
use mathlib.Core.List.{[]}
use Prim.Native.Nat.{ℕ, ◌≤◌}
use native.Mathlib.Nat.{le_trans}
use native.Mathlib.Omega.{arith}
use borrow.Author.Rules.{rules}
use lib.Dec.{T}
use lib.IntN.{ℤ, pos, nat_abs}
use lib.ListN.{drop}
use lib.Signed.{non_neg}
use mir.Syntax.{w64}
use mir.Val.{SFits, to_z}
use mir.Facts.{to_z-of_z, to_z_pos, Fits-nat_abs}
use Rattle.rules.specs.Limits.{column_count}
use Rattle.rules.specs.Numbers.{got, field, between}
use Rattle.rules.specs.Sheets.{after_count_of, read_columns}
use Rattle.tokens.specs.Fields.{read-err, read-ok, read-within, fails-on, reads-as, then-got, then-fault, field-judged, between-zero}
use Rattle.reading.specs.Terms.{padded}
use Rattle.reading.specs.OrderLine.{order_then, order_is}
use Rattle.reading.proofs.order.order_at.Goals as goal
use Rattle.reading.proofs.order.order_at.Goals.{After-struct_told-1}

pub overflow_cast-m : goal.overflow_cast-m
overflow_cast-m c = omega (arith, c.requires.1)

-- The most columns, as the code casts it.
m_is : (m : ℕ) → m ≤ 4 → to_z w64 m ≡ pos m
m_is m h = to_z_pos w64 (omega arith)

pub returns-in_err-k : goal.returns-in_err-k
returns-in_err-k c =
    fails-on _ c.in_err-k.field-0.0 c.from_residual.ensures.1
    (order_is _ _ ∙ then-fault _ (read-err (rw (m_is c.args.m c.requires.1) at c.in_err-k.ensures)))

module _ (c : After-struct_told-1) where
  abbrev count : ℤ
  count = c.in_ok-k.k.value

  count_fits : SFits w64 count
  count_fits = search rules

  count-read : field (between (pos 0) (pos c.args.m)) after_count_of
      (drop c.args.at
      c.args.bytes.now)
      ≡ got count
      (drop c.in_ok-k.k.at
      c.args.bytes.now)
  count-read = read-ok (rw (m_is c.args.m c.requires.1) at c.in_ok-k.ensures)

  bounds : T (non_neg count) × (0 ≤ nat_abs count) × (nat_abs count ≤ c.args.m)
  bounds = between-zero 0 _ _ (field-judged _ after_count_of _ count-read)

pub overflow_cast-k : goal.overflow_cast-k
overflow_cast-k c = rw (to_z-of_z {w = w64} (count_fits c)) ((bounds c).0, Fits-nat_abs tt (count_fits c))

pub columns_at-requires : goal.columns_at-requires
columns_at-requires c = (
  read-within c.in_ok-k.ensures,
  (
    c.requires.1,
    rw (to_z-of_z {w = w64} (count_fits c))
        (le_trans (bounds c).2 c.requires.1),
  ),
)

pub returns : goal.returns
unfolding order_then
returns c =
    let a = c.args in
    reads-as c.columns_at.ensures
    (ap (λ k. padded column_count 0
    (read_columns a.m (nat_abs k) [] (drop c.in_ok-k.k.at a.bytes.now)))
    (to_z-of_z {w = w64} (count_fits (goal.at.returns c).After-struct_told-1))
    ∙ sym (order_is _ _ ∙ then-got _ (count-read (goal.at.returns c).After-struct_told-1)))
