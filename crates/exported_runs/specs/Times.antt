-- How often a reported root occurs: at most as often as the diagonal polynomials of an output have coefficients.
--
-- Main statements
--   times-few    the number fits into a number of the result store
use Rattle.std.specs.Prelude.{ℕ, zero, suc, ◌+◌, ◌*◌, ◌≤◌, Bool, true, false, cond, ℤ, length, get_or}
use Rattle.std.proofs.Common.{zero-le, suc-le-suc, le_trans, le_of_eq, arith}
use mathlib.Core.List.{List, [], ◌∷◌, map, zip_with}
use Rattle.std.proofs.Math.Option.{Option, none, some}
use Rattle.std.proofs.lemmas.List.{length-map}
use Rattle.algebra.specs.Polynomials.{Polynomial, eval, is_zero_ℤ, quotient}
use Rattle.algebra.specs.Multiplicity.{divisions, multiplicity}
use Rattle.lists.specs.Everywhere.{All, all-mono, all_map, all-get_or-default}
use Rattle.lists.specs.Totals.{total}
use Rattle.rules.specs.Limits.{coefficient_count, column_count}
use Rattle.rules.specs.Rows.{Row}
use Rattle.rules.specs.Stores.{Shaped, StoreRow}
use Rattle.rules.specs.Elimination.{Side, State, rank, diagonal, diagonal_place, occurrences, reported_times}

divisions-few : (k : ℕ) (p : Polynomial) (r : ℤ) → divisions k p r ≤ k
unfolding divisions
divisions-few zero p r = zero-le
divisions-few (suc k) p r = go (is_zero_ℤ (eval p r)) (divisions-few k (quotient r p) r)
  where
    go : (t : Bool) → divisions k (quotient r p) r ≤ k → cond t (suc (divisions k (quotient r p) r)) 0 ≤ suc k
    go true h = suc-le-suc h
    go false h = zero-le

abbrev Short : Polynomial → Type 0
Short p = length p ≤ coefficient_count

short-times : (p : Polynomial) (r : ℤ) → Short p → multiplicity p r ≤ coefficient_count
unfolding multiplicity
short-times p r h = le_trans (divisions-few (length p) p r) h

total-few : (l : List ℕ) → All (λ n. n ≤ coefficient_count) l → total l ≤ length l * coefficient_count
unfolding total All
total-few [] h = zero-le
total-few (n ∷ l) h = let more : n + total l ≤ suc (length l) * coefficient_count = omega (arith, h.0, total-few l h.1) in more

entry-short : (r : Row) (place c : ℕ) → StoreRow r → Short (get_or (get_or r.blocks place []) c [])
unfolding All Shaped
entry-short r place c h =
    all-get_or-default Short (get_or r.blocks place []) [] c zero-le
    (all-get_or-default (All Short) r.blocks [] place tt
    (all-mono _ (All Short) (λ block b. all-mono _ Short (λ p e. le_of_eq e) block b.1) r.blocks h.1))

entries-short : (place : ℕ) (rows : List Row) (order : List ℕ) → All StoreRow rows
    → let entries = zip_with (λ r c. get_or (get_or r.blocks place []) c []) rows order in
    All Short entries × (length entries ≤ length order)
unfolding All zip_with
entries-short place [] order h = (tt, zero-le)
entries-short place (r ∷ rows) [] h = (tt, zero-le)
entries-short place (r ∷ rows) (c ∷ order) h =
    let rest = entries-short place rows order h.1 in
    ((entry-short r place c h.0, rest.0), suc-le-suc rest.1)

pub times-few : (side : Side) (D : ℕ) (s : State) → All StoreRow s.rows → rank s ≤ column_count → (root : Option ℤ)
    → reported_times side D s root ≤ 64
unfolding reported_times occurrences diagonal rank
times-few side D s shapes low none = zero-le
times-few side D s shapes low (some r) =
    let short = entries-short (diagonal_place side D) s.rows s.order shapes in
    let ps = diagonal side D s in
    let sum = total-few (map (λ p. multiplicity p r) ps)
    ((all_map (λ n. n ≤ coefficient_count) (λ p. multiplicity p r) ps).1 (all-mono Short _ (λ p. short-times p r) ps short.0)) in
    omega (arith, sum, length-map ps (λ p. multiplicity p r), short.1, low)
