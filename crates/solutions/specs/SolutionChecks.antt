-- The checks of the call, one after another, by those of the system.
--
-- Main definitions
--   sides_zero_of at width count store   the sixteen numbers from `at` on are zero in each part
--   CallRight           the facts behind a check that gives no refusal
--
-- Main statements
--   homogeneous-parts   the right sides, by the parts of the stores
--   sizes-wrong, lengths-wrong, lent-short, numbers-wrong, sides-wrong, all_right
--                       what the check gives, by the check of the system's stores and the tests of the call
--   check_call-zero      what passes
use Rattle.std.specs.Prelude.{ℕ, ◌+◌, ◌*◌, ◌-◌, ◌≤◌, ◌<◌, ◌≡◌, ◌≢◌, Bool, true, false, ◌&&◌, cond, List, [], ◌∷◌, map, T, leb, length, take, drop, get_or, ℤ}
use Rattle.std.proofs.Common.{suc-mul, mul-le-mul_right, arith, sym, ◌∙◌, ap, ap₂, leb→le, drop-drop, take-take}
use Rattle.std.proofs.Math.Path.{refl}
use Rattle.algebra.specs.Polynomials.{is_zero_of}
use Rattle.lists.specs.Parts.{parts, get_or-parts}
use Rattle.lists.specs.Taken.{drop-take}
use Rattle.lists.specs.Tests.{T-&&, every, cond-zero}
use Rattle.rules.specs.Layout.{check_stores-order, check_stores-zero, lengths_right-iff}
use Rattle.rules.specs.Limits.{coefficient_count, entries_length, row_length, relation_length}
use Rattle.rules.specs.Stores.{Sizes, equations, row_of, rows_of, relation_of, relations_of, row_need, relation_need, sizes_right_of, count_right}
use Rattle.rules.specs.Stores.{lengths_right_of, numbers_right_of, check_stores_of}
use Rattle.solutions.specs.SolutionAnswers.{homogeneous}
use Rattle.solutions.specs.SolutionCalls.{Work, all_lengths, check_call}
use Rattle.constant_rows.specs.ListLengths.{matrix_need, list_need}

-- ---- right sides in the parts of a store

abbrev pub side_zero : ℕ → List ℤ → Bool
side_zero at p = is_zero_of (take coefficient_count (drop at p))

unfoldable pub sides_zero_of : ℕ → ℕ → ℕ → List ℤ → Bool
unfolding every parts
sides_zero_of at width count store = every (side_zero at) (parts width count store)

-- A test of what is made of the members is a test of the members.
every_made : {A B : Type 0} (t : B → Bool) (f : A → B) (s : A → Bool) → ((x : A) → t (f x) ≡ s x) → (l : List A)
    → every t (map f l) ≡ every s l
unfolding every
every_made t f s e [] = refl
every_made t f s e (x ∷ l) = ap₂ ◌&&◌ (e x) (every_made t f s e l)

pub homogeneous-parts : (n count : ℕ) (row_store relation_store : List ℤ)
    → homogeneous (rows_of n row_store) (relations_of count relation_store)
    ≡ (sides_zero_of entries_length row_length n row_store && sides_zero_of (1 + entries_length) relation_length count relation_store)
unfolding homogeneous rows_of relations_of sides_zero_of row_of relation_of
homogeneous-parts n count row_store relation_store =
    ap₂ ◌&&◌
    (every_made (λ r. is_zero_of r.right) row_of (side_zero entries_length) (λ p. refl) (parts row_length n row_store))
    (every_made (λ e. is_zero_of e.row.right) relation_of (side_zero (1 + entries_length))
    (λ p. ap (λ l. is_zero_of (take coefficient_count l)) (drop-drop entries_length 1 p)) (parts relation_length count relation_store))

-- Part i lies in the store.
pub part_room : (i count width k : ℕ) → i < count → count * width ≤ k → i * width + width ≤ k
part_room i count width k h g = omega (arith, suc-mul i width, mul-le-mul_right width h)

-- The sixteen numbers that are lent of it.
pub side-at : (i at width count : ℕ) (store : List ℤ) → i < count → at + coefficient_count ≤ width
    → let from = i * width + at in
    is_zero_of (take (from + coefficient_count - from) (drop from store)) ≡ side_zero at (get_or (parts width count store) i [])
side-at i at width count store h g =
    let from = i * width + at in
    let size : from + coefficient_count - from ≡ coefficient_count = omega arith in
    let enough : width ≡ at + (width - at) = omega arith in
    ap is_zero_of
    (ap (λ k. take k (drop from store)) size
    ∙ sym (ap (λ l. take coefficient_count (drop at l)) (get_or-parts width count store i h)
    ∙ ap (λ k. take coefficient_count (drop at (take k (drop (i * width) store)))) enough
    ∙ ap (take coefficient_count) (drop-take at (width - at) (drop (i * width) store))
    ∙ take-take coefficient_count (width - at) (drop at (drop (i * width) store)) (omega arith)
    ∙ ap (take coefficient_count) (drop-drop at (i * width) store)))

-- ---- which test failed, by the number that the system's tests give

abbrev judged : Bool → ℕ
judged n = cond n 0 5

abbrev number : Bool → Bool → Bool → ℕ
number s l n = cond s (cond l (cond n 0 5) 1) 2

-- With the lengths of four stores more, and the right sides.
abbrev whole : Bool → Bool → Bool → Bool → Bool → Bool → Bool → ℕ
whole s l n a b c h = cond s (cond (l && a && b && c) (cond n (cond h 0 14) 5) 1) 2

module _ (n a b c h : Bool) where
  first : (s l : Bool) → number s l n ≡ 2 → 2 ≡ whole s l n a b c h
  first false l e = refl
  first true false e = absurd (omega arith)
  first true true e = absurd (left n e)
    where
      left : (n : Bool) → judged n ≡ 2 → ⊥
      left true e = omega arith
      left false e = omega arith

  second : (s l : Bool) → number s l n ≡ 1 → 1 ≡ whole s l n a b c h
  second false l e = absurd (omega arith)
  second true false e = refl
  second true true e = absurd (left n e)
    where
      left : (n : Bool) → judged n ≡ 1 → ⊥
      left true e = omega arith
      left false e = omega arith

-- The first two passed.
both : (s l n : Bool) → number s l n ≢ 2 → number s l n ≢ 1 → (s ≡ true) × (l ≡ true)
both false l n e f = absurd (e refl)
both true false n e f = absurd (f refl)
both true true n e f = (refl, refl)

third : (n : Bool) → judged n ≡ 5 → n ≡ false
third false e = refl
third true e = absurd (omega arith)

third-passed : (n : Bool) → judged n ≢ 5 → n ≡ true
third-passed false e = absurd (e refl)
third-passed true e = refl

-- ---- the check

module _ (z : Sizes) (count : ℕ) (row_store relation_store : List ℤ) (w : Work) where
  abbrev sizes : Bool
  sizes = sizes_right_of z && count_right count

  abbrev lengths : Bool
  lengths = lengths_right_of (equations z) row_store relation_store

  abbrev numbers : Bool
  numbers = numbers_right_of z count row_store relation_store

  abbrev pub lent : Bool
  lent = lengths_right_of (equations z) w.rows w.relations && leb matrix_need (length w.matrix) && leb list_need (length w.list)

  abbrev pub sides : Bool
  sides = homogeneous (rows_of (equations z) row_store) (relations_of count relation_store)

  abbrev system : ℕ
  system = check_stores_of z count row_store relation_store

  abbrev checked : ℕ
  checked = check_call z count row_store relation_store w

  abbrev wholly : Bool → Bool → Bool → Bool → ℕ
  wholly s l n h =
      whole s l n (lengths_right_of (equations z) w.rows w.relations) (leb matrix_need (length w.matrix))
      (leb list_need (length w.list)) h

  order : checked ≡ wholly sizes lengths numbers sides
  unfolding check_call all_lengths
  order = refl

  system-order : system ≡ number sizes lengths numbers
  system-order = check_stores-order z count row_store relation_store

  pub sizes-wrong : system ≡ 2 → 2 ≡ checked
  sizes-wrong e = first numbers _ _ _ sides sizes lengths (sym system-order ∙ e) ∙ sym order

  pub lengths-wrong : system ≡ 1 → 1 ≡ checked
  lengths-wrong e = second numbers _ _ _ sides sizes lengths (sym system-order ∙ e) ∙ sym order

  module _ (not-two : system ≢ 2) (not-one : system ≢ 1) where
    pub early : (sizes ≡ true) × (lengths ≡ true)
    early = both sizes lengths numbers (λ e. not-two (system-order ∙ e)) (λ e. not-one (system-order ∙ e))

    passed : checked ≡ cond lent (cond numbers (cond sides 0 14) 5) 1
    passed = order ∙ ap₂ (λ s l. wholly s l numbers sides) early.0 early.1

    system-left : system ≡ judged numbers
    system-left = system-order ∙ ap₂ (λ s l. number s l numbers) early.0 early.1

    pub lent-short : lent ≡ false → 1 ≡ checked
    lent-short e = sym (passed ∙ ap (λ t. cond t (cond numbers (cond sides 0 14) 5) 1) e)

    module _ (long : lent ≡ true) where
      all-long : checked ≡ cond numbers (cond sides 0 14) 5
      all-long = passed ∙ ap (λ t. cond t (cond numbers (cond sides 0 14) 5) 1) long

      pub numbers-wrong : system ≡ 5 → 5 ≡ checked
      numbers-wrong e = sym (all-long ∙ ap (λ t. cond t (cond sides 0 14) 5) (third numbers (sym system-left ∙ e)))

      module _ (not_five : system ≢ 5) where
        right : checked ≡ cond sides 0 14
        right = all-long ∙ ap (λ t. cond t (cond sides 0 14) 5) (third-passed numbers (λ e. not_five (system-left ∙ e)))

        pub sides-wrong : sides ≡ false → 14 ≡ checked
        sides-wrong e = sym (right ∙ ap (λ t. cond t 0 14) e)

        pub all_right : sides ≡ true → 0 ≡ checked
        all_right e = sym (right ∙ ap (λ t. cond t 0 14) e)

-- ---- what the checks let through

pub record CallRight (z : Sizes) (count : ℕ) (row_store relation_store : List ℤ) (w : Work) : Type 0 where
  pub system : check_stores_of z count row_store relation_store ≡ 0
  pub sides : T (homogeneous (rows_of (equations z) row_store) (relations_of count relation_store))
  pub rows_long : row_need (equations z) ≤ length w.rows
  pub relations-long : relation_need ≤ length w.relations
  pub matrix-long : matrix_need ≤ length w.matrix
  pub list-long : list_need ≤ length w.list

pub check_call-zero : (z : Sizes) (count : ℕ) (row_store relation_store : List ℤ) (w : Work)
    → check_call z count row_store relation_store w ≡ 0 → CallRight z count row_store relation_store w
unfolding check_call all_lengths
check_call-zero z count row_store relation_store w e =
    let first = lengths_right_of (equations z) row_store relation_store in
    let own = lengths_right_of (equations z) w.rows w.relations in
    let matrix = leb matrix_need (length w.matrix) in
    let list = leb list_need (length w.list) in
    let one = cond-zero (sizes_right_of z && count_right count) _ 1 e in
    let two = cond-zero (first && own && matrix && list) _ 0 one.1 in
    let three = cond-zero (numbers_right_of z count row_store relation_store) _ 4 two.1 in
    let four = cond-zero (homogeneous (rows_of (equations z) row_store) (relations_of count relation_store)) 0 13 three.1 in
    let sizes = (T-&& (sizes_right_of z) (count_right count)).0 one.0 in
    let lists = (T-&& (first && own && matrix) list).0 two.0 in
    let matrices = (T-&& (first && own) matrix).0 lists.0 in
    let lengths = (T-&& first own).0 matrices.0 in
    let long = (lengths_right-iff (equations z) w.rows w.relations).0 lengths.1 in
    record {
      system =
          (check_stores-zero z count row_store relation_store).1
          (record { sizes = sizes.0; few = sizes.1; lengths = lengths.0; numbers = three.0 });
      sides = four.0;
      rows_long = long.0;
      relations-long = long.1;
      matrix-long = leb→le matrix_need (length w.matrix) matrices.1;
      list-long = leb→le list_need (length w.list) lists.1;
    }
