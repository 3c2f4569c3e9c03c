-- The checks of the call, one after another, by those of the system.
--
-- Main definitions
--   RecordRight         the facts behind a check that gives no refusal
--
-- Main statements
--   sizes-wrong, record-wrong, lengths-wrong, values-short, numbers-wrong, values-wrong, all_right
--                       what the check gives, by the check of the system's stores and the three tests of the record
--   check_record-zero    what passes
use Rattle.std.specs.Prelude.{ℕ, ◌*◌, ◌≤◌, ◌≡◌, ◌≢◌, Bool, true, false, ◌&&◌, cond, List, T, leb, length, take, ℤ, nat_abs}
use Rattle.std.proofs.Common.{arith, sym, ◌∙◌, ap, ap₂, leb→le}
use Rattle.std.proofs.Math.Path.{refl}
use Rattle.std.proofs.Math.Bool.{and-false}
use Rattle.lists.specs.Tests.{T-&&, cond-zero}
use Rattle.rules.specs.Layout.{check_stores-order, StoresRight}
use Rattle.rules.specs.Stores.{Sizes, equations, sizes_right_of, count_right, lengths_right_of, numbers_right_of, check_stores_of}
use Rattle.records.specs.Records.{record_right_of, values_right_of, check_record_of, most_vectors, index_bound}

-- ---- which of three tests failed, by the number that they give

abbrev number : Bool → Bool → Bool → ℕ
number a b c = cond a (cond b (cond c 0 5) 1) 2

first-failed : (a b c : Bool) → number a b c ≡ 2 → a ≡ false
first-failed false b c e = refl
first-failed true false c e = absurd (omega arith)
first-failed true true false e = absurd (omega arith)
first-failed true true true e = absurd (omega arith)

first-passed : (a b c : Bool) → number a b c ≢ 2 → a ≡ true
first-passed true b c e = refl
first-passed false b c e = absurd (e refl)

second-failed : (a b c : Bool) → number a b c ≡ 1 → (a ≡ true) × (b ≡ false)
second-failed false b c e = absurd (omega arith)
second-failed true false c e = (refl, refl)
second-failed true true false e = absurd (omega arith)
second-failed true true true e = absurd (omega arith)

second-passed : (a b c : Bool) → number a b c ≢ 2 → number a b c ≢ 1 → b ≡ true
second-passed a true c e f = refl
second-passed true false c e f = absurd (f refl)
second-passed false false c e f = absurd (e refl)

third-failed : (a b c : Bool) → number a b c ≡ 5 → (a ≡ true) × (b ≡ true) × (c ≡ false)
third-failed false b c e = absurd (omega arith)
third-failed true false c e = absurd (omega arith)
third-failed true true false e = (refl, refl, refl)
third-failed true true true e = absurd (omega arith)

third-passed : (a b c : Bool) → number a b c ≢ 2 → number a b c ≢ 1 → number a b c ≢ 5 → c ≡ true
third-passed a b true e f g = refl
third-passed true true false e f g = absurd (g refl)
third-passed true false false e f g = absurd (f refl)
third-passed false b false e f g = absurd (e refl)

-- ---- the check of a record by that of the system

module _ (z : Sizes) (count : ℕ) (first : ℤ) (vectors : ℕ) (row_store relation_store values : List ℤ) where
  abbrev sizes : Bool
  sizes = sizes_right_of z && count_right count

  abbrev lengths : Bool
  lengths = lengths_right_of (equations z) row_store relation_store

  abbrev numbers : Bool
  numbers = numbers_right_of z count row_store relation_store

  abbrev indices : Bool
  indices = record_right_of first vectors

  abbrev long : Bool
  long = leb (vectors * z.m) (length values)

  abbrev near : Bool
  near = values_right_of (take (vectors * z.m) values)

  abbrev system : ℕ
  system = check_stores_of z count row_store relation_store

  abbrev checked : ℕ
  checked = check_record_of z count first vectors row_store relation_store values

  order : checked ≡ number (sizes && indices) (lengths && long) (numbers && near)
  unfolding check_record_of
  order = refl

  system-order : system ≡ number sizes lengths numbers
  system-order = check_stores-order z count row_store relation_store

  pub sizes-passed : system ≢ 2 → sizes ≡ true
  sizes-passed e = first-passed sizes lengths numbers (λ k. e (system-order ∙ k))

  pub sizes-wrong : system ≡ 2 → 2 ≡ checked
  sizes-wrong e =
      sym (order ∙ ap (λ s. number (s && indices) (lengths && long) (numbers && near))
      (first-failed sizes lengths numbers (sym system-order ∙ e)))

  pub record-wrong : indices ≡ false → 2 ≡ checked
  record-wrong e = sym (order ∙ ap (λ s. number s (lengths && long) (numbers && near)) (ap (λ s. sizes && s) e ∙ and-false sizes))

  sizes-right : sizes ≡ true → indices ≡ true → checked ≡ cond (lengths && long) (cond (numbers && near) 0 5) 1
  sizes-right e f = order ∙ ap (λ s. number s (lengths && long) (numbers && near)) (ap₂ ◌&&◌ e f)

  lengths-right : sizes ≡ true → indices ≡ true → lengths ≡ true → long ≡ true → checked ≡ cond (numbers && near) 0 5
  lengths-right e f g h = sizes-right e f ∙ ap (λ s. cond s (cond (numbers && near) 0 5) 1) (ap₂ ◌&&◌ g h)

  pub lengths-wrong : system ≡ 1 → indices ≡ true → 1 ≡ checked
  lengths-wrong e f =
      let both = second-failed sizes lengths numbers (sym system-order ∙ e) in
      sym (sizes-right both.0 f ∙ ap (λ s. cond (s && long) (cond (numbers && near) 0 5) 1) both.1)

  pub values-short : system ≢ 2 → indices ≡ true → long ≡ false → 1 ≡ checked
  values-short e f g =
      sym (sizes-right (sizes-passed e) f ∙ ap (λ s. cond s (cond (numbers && near) 0 5) 1) (ap (λ s. lengths && s) g ∙ and-false lengths))

  pub numbers-wrong : system ≡ 5 → indices ≡ true → long ≡ true → 5 ≡ checked
  numbers-wrong e f g =
      let all = third-failed sizes lengths numbers (sym system-order ∙ e) in
      sym (lengths-right all.0 f all.1 g ∙ ap (λ s. cond (s && near) 0 5) all.2)

  pub lengths-passed : system ≢ 2 → system ≢ 1 → lengths ≡ true
  lengths-passed e f = second-passed sizes lengths numbers (λ k. e (system-order ∙ k)) (λ k. f (system-order ∙ k))

  pub values-wrong : system ≢ 2 → system ≢ 1 → indices ≡ true → long ≡ true → near ≡ false → 5 ≡ checked
  values-wrong e f g h k =
      sym
      (lengths-right (sizes-passed e) g (lengths-passed e f) h ∙ ap (λ s. cond s 0 5) (ap (λ s. numbers && s) k ∙ and-false numbers))

  pub all_right : system ≢ 2 → system ≢ 1 → system ≢ 5 → indices ≡ true → long ≡ true → near ≡ true → 0 ≡ checked
  all_right e f d g h k =
      let c = third-passed sizes lengths numbers (λ j. e (system-order ∙ j)) (λ j. f (system-order ∙ j)) (λ j. d (system-order ∙ j)) in
      sym (lengths-right (sizes-passed e) g (lengths-passed e f) h ∙ ap (λ s. cond s 0 5) (ap₂ ◌&&◌ c k))

-- What the checks let through.
pub record RecordRight (z : Sizes) (count : ℕ) (first : ℤ) (vectors : ℕ) (row_store relation_store values : List ℤ) : Type 0 where
  pub system : StoresRight z count row_store relation_store
  pub few : vectors ≤ most_vectors
  pub first-near : nat_abs first ≤ index_bound
  pub long : vectors * z.m ≤ length values
  pub values-near : T (values_right_of (take (vectors * z.m) values))

-- The facts behind a right record.
pub record-right : (first : ℤ) (vectors : ℕ) → T (record_right_of first vectors) → (vectors ≤ most_vectors) × (nat_abs first ≤ index_bound)
unfolding record_right_of
record-right first vectors h = let e = simp T-&& at h in (leb→le vectors most_vectors e.0.0, leb→le (nat_abs first) index_bound e.0.1)

pub check_record-zero : (z : Sizes) (count : ℕ) (first : ℤ) (vectors : ℕ) (row_store relation_store values : List ℤ)
    → check_record_of z count first vectors row_store relation_store values ≡ 0 → RecordRight z count first vectors row_store relation_store values
unfolding check_record_of
check_record-zero z count first vectors row_store relation_store values e =
    let need = vectors * z.m in
    let one = cond-zero ((sizes_right_of z && count_right count) && record_right_of first vectors) _ 1 e in
    let two = cond-zero (lengths_right_of (equations z) row_store relation_store && leb need (length values)) _ 0 one.1 in
    let three = cond-zero (numbers_right_of z count row_store relation_store && values_right_of (take need values)) 0 4 two.1 in
    let both = (T-&& (sizes_right_of z && count_right count) (record_right_of first vectors)).0 one.0 in
    let sizes = (T-&& (sizes_right_of z) (count_right count)).0 both.0 in
    let lengths = (T-&& (lengths_right_of (equations z) row_store relation_store) (leb need (length values))).0 two.0 in
    let numbers = (T-&& (numbers_right_of z count row_store relation_store) (values_right_of (take need values))).0 three.0 in
    let record-facts = record-right first vectors both.1 in
    record {
      system = record { sizes = sizes.0; few = sizes.1; lengths = lengths.0; numbers = numbers.0 };
      few = record-facts.0;
      first-near = record-facts.1;
      long = leb→le need (length values) lengths.1;
      values-near = numbers.1;
    }
