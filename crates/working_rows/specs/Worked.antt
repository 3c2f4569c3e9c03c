-- A new row, or the limit that it breaks, as the code gives it: a working row, or the refusal.
--
-- Main definitions
--   refusal_of x    0, or the number of the limit
--   numbers_of x    the numbers of the new row, or zeros
--   worked_row x    the working row of the new row, or zeros
--   Shown result x the code's refusal or working row is that of x
--   Held r         the numbers of r hold it, and they are within ±C
--
-- Main statements
--   numbers-worked the numbers of that working row
--   worked-held    a full row whose width is right is the one of the row that its numbers hold
--   limit-within, limit-beyond   the answer for numbers that are all within ±C, and for others
--   limit-zero     a row that is let through is the row itself
--   held           a row of a store's shape that is within the limit is held by its numbers
--   store-row      that shape, by the polynomials of the row
use Rattle.std.specs.Prelude.{◌≡◌, refl, Bool, true, false, ℕ, T, ℤ, pos, length, replicate, Result, IfOk}
use Rattle.std.proofs.Common.{sym, ◌∙◌, ap₂, subst, arith, take_at}
use Rattle.std.proofs.Math.Path.{ap}
use Rattle.std.proofs.Math.Bool.{cond}
use mathlib.Core.List.{List, [], ◌∷◌, ◌++◌, flatten}
use Rattle.std.proofs.lemmas.List.{replicate-append-replicate}
use Rattle.refusals.specs.declared.Refusal.{Refusal}
use Rattle.refusals.specs.Refusals.{refusal_in}
use Rattle.rules.specs.Limits.{entries_length, row_length, small, coefficient_count, column_count, block_count}
use Rattle.rules.specs.Rows.{Block, Row, coefficients_of, small_row, width}
use Rattle.lists.specs.Everywhere.{All}
use Rattle.lists.specs.Tests.{every}
use Rattle.rules.specs.Stores.{row_of, Shaped, StoreRow}
use Rattle.rules.specs.Layout.{entries-row_of, row_of-coefficients_of, length-coefficients_of}
use Rattle.stores.specs.Flat.{polynomials_of}
use Rattle.working_rows.specs.declared.WorkingRow.{WorkingRow}
use Rattle.working_rows.specs.Working.{left_part, working_of, numbers_held, Full, right-held}
use Rattle.rules.specs.Elimination.{Limited, within, beyond, limit_coefficients}

unfoldable pub refusal_of : Limited → ℕ
refusal_of (within r) = 0
refusal_of (beyond n) = n

unfoldable pub numbers_of : Limited → List ℤ
unfolding coefficients_of
numbers_of (within r) = coefficients_of r
numbers_of (beyond n) = replicate row_length (pos 0)

-- The working row of the new row, or zeros.
unfoldable pub worked_row : Limited → WorkingRow
worked_row (within r) = working_of (left_part r) r.right
worked_row (beyond n) =
    record { entries = replicate entries_length (pos 0); right = replicate coefficient_count (pos 0); width = 0 }

pub numbers-worked : (x : Limited) → numbers_held (worked_row x) ≡ numbers_of x
unfolding worked_row numbers_of coefficients_of
numbers-worked (within r) = refl
numbers-worked (beyond n) = replicate-append-replicate entries_length coefficient_count (pos 0)

-- A full row whose width is right is the one of the row that its numbers hold.
pub worked-held : (w : WorkingRow) → Full w → w.width ≡ width (row_of w.entries)
    → w ≡ worked_row (within (row_of (numbers_held w)))
unfolding worked_row
worked-held w full wide =
    (λ k. record { entries = w.entries; right = w.right; width = wide k }) ∙ sym (ap₂ working_of left side)
  where
    left : left_part (row_of (numbers_held w)) ≡ w.entries
    left = entries-row_of (numbers_held w) ∙ take_at w.entries w.right entries_length full.entries-long

    side : (row_of (numbers_held w)).right ≡ w.right
    side = right-held w.entries w.right full.entries-long full.right-long

-- The code's refusal or row is that of x.
abbrev pub Shown : Result WorkingRow Refusal → Limited → Type 0
Shown result x = (refusal_in result ≡ refusal_of x) × IfOk result (λ row. row ≡ worked_row x)

-- ---- the limit of the coefficients

-- The answer depends on the numbers of the row alone.
module _ (r : Row) (l : List ℤ) (held : coefficients_of r ≡ l) where
  limit_is : limit_coefficients r ≡ cond (every small l) (within r) (beyond 8)
  unfolding limit_coefficients small_row
  limit_is = ap (λ m. cond (every small m) (within r) (beyond 8)) held

  pub limit-within : every small l ≡ true → limit_coefficients r ≡ within r
  limit-within e = limit_is ∙ ap (λ t. cond t (within r) (beyond 8)) e

  pub limit-beyond : every small l ≡ false → limit_coefficients r ≡ beyond 8
  limit-beyond e = limit_is ∙ ap (λ t. cond t (within r) (beyond 8)) e

-- A row within the limit is the row itself.
pub limit-zero : (r : Row) → refusal_of (limit_coefficients r) ≡ 0 → limit_coefficients r ≡ within r
unfolding refusal_of limit_coefficients
limit-zero r e = go (small_row r) e
  where
    go : (t : Bool) → refusal_of (cond t (within r) (beyond 8)) ≡ 0 → cond t (within r) (beyond 8) ≡ within r
    go true h = refl
    go false h = absurd (omega arith)

-- ---- rows within the limits

-- The numbers of r hold it, and they are within ±C.
pub record Held (r : Row) : Type 0 where
  pub numbers : row_of (coefficients_of r) ≡ r
  pub long : length (coefficients_of r) ≡ row_length
  pub within-bound : T (every small (coefficients_of r))

limit-cases : (t : Bool) (q r : Row) → cond t (within q) (beyond 8) ≡ within r → (q ≡ r) × (t ≡ true)
limit-cases true q r e = (cc, refl)
limit-cases false q r e = let impossible : ◌≡◌ {A = ℕ} 0 1 = cc in absurd (omega arith)

-- A row of the shape of a row in a store, if it is within the limit.
pub held : (q r : Row) → StoreRow q → limit_coefficients q ≡ within r → Held r
unfolding limit_coefficients small_row
held q r shape e =
    let passed = limit-cases (every small (coefficients_of q)) q r e in
    subst Held passed.0
    (record {
      numbers = row_of-coefficients_of q shape;
      long = length-coefficients_of q shape;
      within-bound = subst T (sym passed.1) tt;
    })

-- The shape, by the polynomials.
pub store-row : (r : Row) → length r.blocks ≡ block_count → All (λ b. length b ≡ column_count) r.blocks
    → All (λ p. length p ≡ coefficient_count) (polynomials_of r) → StoreRow r
unfolding Shaped All flatten
store-row r count columns widths =
    let both = front-all (flatten r.blocks) (r.right ∷ []) widths in (count, shapes r.blocks columns both.0, both.1.0)
  where
    front-all : (l m : Block) → All (λ p. length p ≡ coefficient_count) (l ++ m)
        → All (λ p. length p ≡ coefficient_count) l × All (λ p. length p ≡ coefficient_count) m
    front-all [] m h = (tt, h)
    front-all (p ∷ l) m h = let rest = front-all l m h.1 in ((h.0, rest.0), rest.1)

    shapes : (bs : List Block) → All (λ b. length b ≡ column_count) bs → All (λ p. length p ≡ coefficient_count) (flatten bs)
        → All (λ b. (length b ≡ column_count) × All (λ p. length p ≡ coefficient_count) b) bs
    shapes [] c w = tt
    shapes (b ∷ bs) c w = let both = front-all b (flatten bs) w in ((c.0, both.0), shapes bs c.1 both.1)
