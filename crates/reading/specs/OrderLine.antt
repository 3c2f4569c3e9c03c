-- The order line of a sheet: the number of its columns, at most m, and so many different columns of 1 to m (SCOPE 4.15).
--
-- Main definitions
--   taken_of order i    the first i columns of an order, the latest first
--
-- Main statements
--   taken-any          a search of the first columns finds those that stand already
--   columns-next       the columns of an order, one after another
--   order_is           an order line is its count and then its columns
--   order-zero         what is known of a column that was let through
use Prim.Native.Nat.{ℕ, zero, suc, ◌+◌, ◌-◌, ◌≤◌, ◌<◌}
use Rattle.std.proofs.Common.{le_refl, add-one, sym, ap₂, ◌∙◌, get_or-set_same, get_or-set_other, eq-eqb, ne_eqb}
use native.Mathlib.Omega.{arith}
use Rattle.std.specs.Prelude.{◌≡◌, refl, ◌&&◌, ◌||◌, not, List, [], ◌∷◌, length, get_or, take, set, T, eqb, ℤ, pos, nat_abs}
use Rattle.std.proofs.Math.Path.{ap}
use Rattle.std.proofs.Math.Bool.{or_comm}
use Rattle.std.proofs.Math.Decide.{ℕ_discrete}
use Rattle.std.proofs.lemmas.List.Folds.{list_any_more}
use Rattle.std.specs.List.{list_any}
use Rattle.lists.specs.Tests.{both_true}
use Rattle.std.specs.Int.Signed.{le_z, non_neg}
use Rattle.rules.specs.Limits.{column_count}
use Rattle.rules.specs.Numbers.{Read, got, then_read, field, between, newline}
use Rattle.lists.specs.Padded.{pad_to}
use Rattle.rules.specs.Sheets.{contains, always, after_count_of, parting, judge_order_of, read_columns, read_order}
use Rattle.tokens.specs.Fields.{then-then, between-size, passed}
use Rattle.reading.specs.Terms.{padded}

-- ---- the column order

-- The first i columns of an order, the latest first: the columns that stand already.
unfoldable pub taken_of : List ℕ → ℕ → List ℕ
taken_of order zero = []
taken_of order (suc i) = get_or order i 0 ∷ taken_of order i

eqb-swap : (a b : ℕ) → eqb a b ≡ eqb b a
eqb-swap a b = by (ℕ_discrete a b)
  where
    by : Dec (a ≡ b) → eqb a b ≡ eqb b a
    by (yes e) = eq-eqb a b e ∙ sym (eq-eqb b a (sym e))
    by (no n) = ne_eqb a b n ∙ sym (ne_eqb b a (λ e. n (sym e)))

-- A search of the first i columns finds those that stand already.
pub taken-any : (c : ℕ) (order : List ℕ) (i : ℕ) → i ≤ length order → list_any (λ d. eqb d c) (take i order) ≡ contains c (taken_of order i)
unfolding taken_of contains
taken-any c order zero h = refl
taken-any c order (suc i) h =
    ap (λ k. list_any (λ d. eqb d c) (take k order)) (sym (add-one i))
    ∙ list_any_more (λ d. eqb d c) order i 0 h
    ∙ or_comm (list_any (λ d. eqb d c) (take i order)) (eqb (get_or order i 0) c)
    ∙ ap₂ ◌||◌ (eqb-swap (get_or order i 0) c) (taken-any c order i (omega arith))

-- A column stored behind those that were taken.
taken_of-before : (order : List ℕ) (i v j : ℕ) → j ≤ i → taken_of (set order i v) j ≡ taken_of order j
unfolding taken_of
taken_of-before order i v zero h = refl
taken_of-before order i v (suc j) h =
    ap₂ (λ c l. c ∷ l) (get_or-set_other order i j v 0 (λ e. omega (arith, h))) (taken_of-before order i v j (omega arith))

taken_of-set : (order : List ℕ) (i v : ℕ) → i < length order → taken_of (set order i v) (i + 1) ≡ v ∷ taken_of order i
unfolding taken_of
taken_of-set order i v h =
    ap (taken_of (set order i v)) (add-one i)
    ∙ ap₂ (λ c l. c ∷ l) (get_or-set_same order i v 0 h) (taken_of-before order i v i (le_refl i))

-- With i of `count` columns read, the next one and those after it.
pub columns_then : ℕ → ℕ → List ℕ → ℤ → List ℕ → Read (List ℕ)
columns_then m k taken c rest = read_columns m k (nat_abs c ∷ taken) rest

columns-step : (m k : ℕ) (taken : List ℕ) (bytes : List ℕ)
    → read_columns m (suc k) taken bytes
    ≡ then_read (field (judge_order_of m taken) (always (parting newline k)) bytes)
    (λ c rest. then_read (columns_then m k taken c rest) (λ l more. got (nat_abs c ∷ l) more))
unfolding read_columns columns_then
columns-step m k taken bytes = refl

pub columns-next : (m count i : ℕ) (taken : List ℕ) (bytes : List ℕ) → i < count
    → read_columns m (count - i) taken bytes
    ≡ then_read (field (judge_order_of m taken) (always (parting newline (count - (i + 1)))) bytes)
    (λ c rest. then_read (columns_then m (count - (i + 1)) taken c rest) (λ l more. got (nat_abs c ∷ l) more))
columns-next m count i taken bytes h =
    let e : count - i ≡ suc (count - (i + 1)) = omega arith in
    ap (λ k. read_columns m k taken bytes) e ∙ columns-step m (count - (i + 1)) taken bytes

pub columns-none : (m count i : ℕ) (taken : List ℕ) (bytes : List ℕ) → i ≡ count → read_columns m (count - i) taken bytes ≡ got [] bytes
unfolding read_columns
columns-none m count i taken bytes h =
    let e : count - i ≡ 0 = omega arith in
    ap (λ k. read_columns m k taken bytes) e

pub columns-left : (m k : ℕ) (order : List ℕ) (i : ℕ) (c : ℤ) (bytes : List ℕ) → i < length order
    → columns_then m k (taken_of order i) c bytes ≡ read_columns m k (taken_of (set order i (nat_abs c)) (i + 1)) bytes
unfolding columns_then
columns-left m k order i c bytes h = ap (λ taken. read_columns m k taken bytes) (sym (taken_of-set order i (nat_abs c) h))

-- The definition of an order line, with all the columns of its answer.
unfoldable pub order_then : ℕ → ℤ → List ℕ → Read (List ℕ)
order_then m k bytes = padded column_count 0 (read_columns m (nat_abs k) [] bytes)

order-parts : (m : ℕ) (bytes : List ℕ)
    → read_order m bytes ≡ then_read (field (between (pos 0) (pos m)) after_count_of bytes) (λ k rest. read_columns m (nat_abs k) [] rest)
unfolding read_order
order-parts m bytes = refl

pub order_is : (m : ℕ) (bytes : List ℕ)
    → padded column_count 0 (read_order m bytes) ≡ then_read (field (between (pos 0) (pos m)) after_count_of bytes) (order_then m)
unfolding padded order_then
order_is m bytes =
    ap (padded column_count 0) (order-parts m bytes)
    ∙ then-then (field (between (pos 0) (pos m)) after_count_of bytes) (λ k rest. read_columns m (nat_abs k) [] rest)
    (λ l more. got (pad_to column_count 0 l) more)

-- A column of an order is from 1 to m.
pub order-zero : (m : ℕ) (taken : List ℕ) (c : ℤ) → judge_order_of m taken c ≡ 0 → T (non_neg c) × (1 ≤ nat_abs c) × (nat_abs c ≤ m)
unfolding judge_order_of
order-zero m taken c e =
    between-size 1 m c
    (both_true (le_z (pos 1) c && le_z c (pos m)) (not (contains (nat_abs c) taken))
    (passed (le_z (pos 1) c && le_z c (pos m) && not (contains (nat_abs c) taken)) 0 1 e).0).0
