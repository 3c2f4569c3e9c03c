-- The sums of a row at successive n, which stand one after the other in a store.
--
-- Main statements
--   less-right, row-known       a product with -1 is subtracted: the right side after the terms
use Prim.Native.Nat.{ℕ, ◌+◌, ◌*◌, ◌-◌, ◌≤◌}
use Rattle.std.proofs.Common.{◌∙◌}
use Rattle.std.proofs.Math.Nat.{add-mul}
use native.Mathlib.Omega.{arith}
use Rattle.std.specs.Prelude.{◌≡◌, List, [], ◌∷◌, take, drop, ℤ, negsuc, neg_ℤ, ◌+ℤ◌, ◌-ℤ◌}
use Rattle.std.proofs.Math.Path.{sym, ap}
use Rattle.std.proofs.Math.Option.{some}
use Rattle.std.proofs.Math.ListN.{get_or}
use Rattle.std.proofs.Math.IntN.{pos, *ℤ-negsuc}
use Rattle.algebra.specs.Integers.{*ℤ-1}
use Rattle.algebra.specs.Polynomials.{Polynomial}
use Rattle.rules.specs.Limits.{entries_length}
use Rattle.rules.specs.Stores.{row_of}
use Rattle.evaluation.specs.Evaluated.{after, horner}
use Rattle.records.specs.Records.{row_sum_of, less_right}
use Rattle.records.specs.Terms.{with_product, term_sum, after_same, count_place, Shaped}
use Rattle.records.specs.Successive.{Added, Known, known_next, known_same, left_sum}

-- ---- the sums of a row

-- A product with -1 is subtracted.
pub less-right : (n : ℤ) (p : Polynomial) (s : ℤ) → with_product n (negsuc 0 ∷ []) 0 p s ≡ less_right n p s
unfolding with_product less_right
less-right n p s =
    after_same _ (λ b. some (s -ℤ b)) (λ v. ap (λ b. some (s +ℤ b)) (*ℤ-negsuc v 0 ∙ ap neg_ℤ (*ℤ-1 v))) (horner n p)

-- The terms, and then the right side.
module _ (m span : ℕ) (row values : List ℤ) (shape : List ℕ) (n : ℤ) (top : ℕ) (shaped : Shaped m span row shape)
    (inside : span ≤ top) where
  abbrev right : Polynomial
  right = take (get_or shape (count_place + 1) 0 - entries_length) (drop entries_length row)

  abbrev count : ℕ
  count = get_or shape count_place 0

  row-sum : (j : ℕ) → row_sum_of m span values (top + j) (row_of row) (n +ℤ pos j)
      ≡ after (with_product (n +ℤ pos j) (negsuc 0 ∷ []) (0 + j * 0) right) (left_sum n row values ((top - span) * m) m shape count j)
  unfolding row_sum_of less_right
  row-sum j =
      let k = n +ℤ pos j in
      let base : (top + j - span) * m ≡ (top - span) * m + j * m =
      let e : top + j - span ≡ top - span + j = omega arith in ap (λ i. i * m) e ∙ add-mul (top - span) j m in
      let place : 0 ≡ 0 + j * 0 = omega arith in
      ap (after (less_right k (row_of row).right))
      (sym (shaped.sums k values (top + j) (omega arith)) ∙ ap (λ b. term_sum k row values b shape count) base)
      ∙ after_same _ (with_product k (negsuc 0 ∷ []) (0 + j * 0) right)
      (λ s.
      ap (after (λ b. some (s -ℤ b))) (sym (shaped.right k)) ∙ sym (less-right k right s)
      ∙ ap (λ i. with_product k (negsuc 0 ∷ []) i right s) place)
      (left_sum n row values ((top - span) * m) m shape count j)

  pub row-known : (tests at : ℕ) (middle : List ℤ) (formed r : ℕ) (later : List ℤ)
      → Known (left_sum n row values ((top - span) * m) m shape count) tests at middle formed
      → Added n right (negsuc 0 ∷ []) 0 0 at formed middle r later
      → Known (λ j. row_sum_of m span values (top + j) (row_of row) (n +ℤ pos j)) tests at later r
  row-known tests at middle formed r later known added =
      known_same _ (λ j. row_sum_of m span values (top + j) (row_of row) (n +ℤ pos j)) tests at later r row-sum
      (known_next (left_sum n row values ((top - span) * m) m shape count) tests at middle formed n right (negsuc 0 ∷ []) 0 0 r later
      known added)
