-- The state and the results as the code has them, and what the tests of a state tell.
--
-- Main definitions
--   held_of, prepared_of    the state and the result of preparing, as the definitions have them
use Prim.Native.Nat.{ℕ, zero, suc, ◌+◌, ◌-◌, ◌≤◌, ◌<◌, pred}
use Rattle.std.proofs.Common.{Ok, Err, not-suc-le-zero, le_of_lt, le_refl, mul-le-mul_right, add-one, arith, ◌∙◌, ap₂, subst, leb→le, eqb→eq, take-append-drop, take-suc, take-take}
use Rattle.std.proofs.Math.Nat.{le_trans}
use Rattle.std.proofs.Math.Decide.{ℕ_discrete}
use Rattle.std.specs.Prelude.{Result, ◌≡◌, refl, ◌≢◌, ◌↔◌, IsTrue, EachIndex, Bool, true, false, ◌&&◌, not, List, [], ◌∷◌, ◌++◌, map, T, leb, eqb, ℤ, length, take, drop, get_or, set}
use Rattle.std.proofs.Math.Path.{sym, ap}
use Rattle.std.proofs.Math.Bool.{cond, and-false}
use Rattle.std.proofs.lemmas.List.{map-append}
use Rattle.std.proofs.Math.Option
use Rattle.std.proofs.Math.Option.{Option, none, some}
use Rattle.std.proofs.Math.Dec.{lit<, eqb-zero-suc, eqb-suc-suc}
use Rattle.std.proofs.Math.ListN.{length-map}
use Rattle.std.proofs.Math.Seq.{length-take-le}
use Rattle.algebra.specs.Polynomials.{Polynomial, is_zero_of}
use Rattle.lists.specs.Everywhere.{All, all-mono, map-keeps, all_get_or, get_or-all}
use Rattle.lists.specs.Padded.{pad_to, pad_to-more, all-pad_to, take-pad_to, get_or-pad_to}
use Rattle.lists.specs.Tests.{T-&&, T-is, same_test, every, all-of-every, every-of-all, true-T, cond-passed}
use Rattle.rules.specs.Limits.{column_count, entries_length, row_length}
use Rattle.rules.specs.Rows.{Row, no_row, entry, first_nonzero}
use Rattle.rules.specs.Stores.{Sizes, equations, row_of, rows_of, row_need, sizes_right_of, count_right, lengths_right_of, numbers_right_of, check_stores_of}
use Rattle.rules.specs.Layout.{size-bounds, check_stores-order, check_stores-zero, lengths_right-iff, row-at}
use Rattle.stores.specs.Validity.{the_sizes_of}
use Rattle.working_rows.specs.Found.{found_or, Columns}
use Rattle.working_rows.specs.Working.{entry-held}
use Rattle.steps.specs.HeldCalls as Calls
use Rattle.steps.specs.HeldCalls.{Held, no_state_of, prepared, after_checks, prepare_call, the_columns_of, sizes_held_of, pivot_right, pivots_right_of}
use Rattle.steps.specs.HeldCalls.{check_state_of}
use Rattle.steps.specs.SoundStates.{HeldBounds, sizes_held-iff}
use Rattle.steps.specs.declared.State.{State}
use Rattle.refusals.specs.declared.Refusal.{Refusal}
use Rattle.refusals.specs.Refusals.{number_of}

unfoldable pub held_of : State → Held
unfolding the_sizes_of
held_of x = record { sizes = the_sizes_of x.sizes; relations = x.relations; settled = x.settled; order = x.order; shifts = x.shifts }

unfoldable pub prepared_of : Result State Refusal → Calls.Prepared
unfolding held_of
prepared_of (Ok state) = record { refusal = 0; state = held_of state }
prepared_of (Err r) = record { refusal = number_of r; state = no_state_of }

-- ---- preparing

module _ (z : Sizes) (count : ℕ) (row_store relation_store : List ℤ) where
  pub prepare-refused : (n : ℕ) (x : Held) → n ≢ 0 → n ≡ check_stores_of z count row_store relation_store → x ≡ no_state_of
      → record { refusal = n; state = x } ≡ prepare_call z count row_store relation_store
  unfolding prepare_call after_checks
  prepare-refused zero x h e f = absurd (h refl)
  prepare-refused (suc n) x h e f = ap (λ y. record { refusal = suc n; state = y }) f ∙ ap (after_checks z count) e

  pub prepare-passed : 0 ≡ check_stores_of z count row_store relation_store
      → record { refusal = 0; state = prepared z count } ≡ prepare_call z count row_store relation_store
  unfolding prepare_call after_checks
  prepare-passed e = ap (after_checks z count) e

-- ---- the tests of the sizes

-- Four tests, one after the other: the first that fails, and the last where the others passed.
module _ (a b c d : Bool) where
  pub first-fails : a ≡ false → false ≡ (a && b && c && d)
  first-fails e = sym (ap (λ t. t && b && c && d) e)

  pub second-fails : a ≡ true → b ≡ false → false ≡ (a && b && c && d)
  second-fails e f = sym (ap₂ (λ s t. s && t && c && d) e f)

  pub third-fails : a ≡ true → b ≡ true → c ≡ false → false ≡ (a && b && c && d)
  third-fails e f g = sym (ap₂ (λ s t. s && t && c && d) e f ∙ ap (λ t. t && d) g)

  pub last-tells : a ≡ true → b ≡ true → c ≡ true → d ≡ (a && b && c && d)
  last-tells e f g = sym (ap₂ (λ s t. s && t && c && d) e f ∙ ap (λ t. t && d) g)

-- ---- the tests of the columns

-- A test of every member says what `every` says.
pub every-tested : {A : Type 0} (t : A → Bool) (d : A) (b : Bool) (l : List A) → IsTrue b ↔ EachIndex l (λ k. t (get_or l k d) ≡ true)
    → b ≡ every t l
every-tested t d b l h =
    same_test b (every t l)
    (λ e. every-of-all t l (get_or-all (λ x. T (t x)) l d (λ k below. true-T _ (h.0 ((T-is b).0 e) k below))))
    (λ e. true-T b (h.1 (λ k below. (T-is _).0 (all_get_or (λ x. T (t x)) l d k below (all-of-every t l e)))))

-- So does a test of every number for 0.
pub zeros-tested : (b : Bool) (l : List ℕ) → IsTrue b ↔ EachIndex l (λ k. get_or l k 0 ≡ 0) → b ≡ every (eqb 0) l
zeros-tested b l h =
    every-tested (eqb 0) 0 b l (
      λ e k below. subst (λ n. eqb 0 n ≡ true) (sym (h.0 e k below)) refl,
      λ each. h.1 (λ k below. sym (eqb→eq 0 (get_or l k 0) (true-T _ (each k below)))),
    )

-- ---- the diagonal and the columns

every_map : {A B : Type 0} (t : B → Bool) (f : A → B) (l : List A) → every t (map f l) ≡ every (λ x. t (f x)) l
unfolding every
every_map t f [] = refl
every_map t f (x ∷ l) = ap (λ b. t (f x) && b) (every_map t f l)

-- The last of some polynomials is the first that is not zero exactly if those before it are zero and it is not.
last_found : (ps : List Polynomial) (q : Polynomial)
    → eqb (found_or (suc (length ps)) (first_nonzero (ps ++ (q ∷ [])))) (length ps) ≡ (every is_zero_of ps && not (is_zero_of q))
unfolding first_nonzero found_or every
last_found [] q = go (is_zero_of q)
  where
    go : (t : Bool) → eqb (found_or 1 (cond t (Option.map suc none) (some 0))) 0 ≡ not t
    go true = refl
    go false = refl
last_found (p ∷ ps) q = go (is_zero_of p) (first_nonzero (ps ++ (q ∷ []))) (last_found ps q)
  where
    go : (t : Bool) (o : Option ℕ) → eqb (found_or (suc (length ps)) o) (length ps) ≡ (every is_zero_of ps && not (is_zero_of q))
        → eqb (found_or (suc (suc (length ps))) (cond t (Option.map suc o) (some 0))) (suc (length ps))
        ≡ ((t && every is_zero_of ps) && not (is_zero_of q))
    go false o e = eqb-zero-suc (length ps)
    go true none e = eqb-suc-suc (suc (length ps)) (length ps) ∙ e
    go true (some k) e = eqb-suc-suc k (length ps) ∙ e

-- The first column that a settled row meets is its own.
pub pivot-met : (order : List ℕ) (j : ℕ) (r : Row) → j < length order
    → eqb (found_or (j + 1) (first_nonzero (map (entry r) (take (j + 1) order)))) j ≡ pivot_right order j r
unfolding pivot_right
pivot-met order j r h =
    ap (λ n. eqb (found_or n (first_nonzero (map (entry r) (take n order)))) j) (add-one j)
    ∙ ap (λ l. eqb (found_or (suc j) (first_nonzero l)) j)
    (ap (map (entry r)) (take-suc order j 0 h) ∙ map-append (entry r) (take j order) (get_or order j 0 ∷ []))
    ∙ ap (λ n. eqb (found_or (suc n) (first_nonzero (map (entry r) (take j order) ++ (entry r (get_or order j 0) ∷ [])))) n) (sym size)
    ∙ last_found (map (entry r) (take j order)) (entry r (get_or order j 0))
    ∙ ap (λ b. b && not (is_zero_of (entry r (get_or order j 0)))) (every_map is_zero_of (entry r) (take j order))
  where
    size : length (map (entry r) (take j order)) ≡ j
    size = length-map (take j order) (entry r) ∙ length-take-le j order (le_of_lt h)

-- The leading entries of a row, from the numbers of its left part.
pub entry-front : (l : List ℤ) → entries_length ≤ length l → entry (row_of (take entries_length l)) ≡ entry (row_of l)
entry-front l h =
    sym (entry-held (take entries_length l) (drop entries_length l) (length-take-le entries_length l h))
    ∙ ap (λ r. entry (row_of r)) (take-append-drop entries_length l)

-- A settled row that fails.
pub pivots-false : (order : List ℕ) (rows : List Row) (w j : ℕ) → j < w → pivot_right order j (get_or rows j no_row) ≡ false
    → pivots_right_of order rows w ≡ false
unfolding pivots_right_of
pivots-false order rows zero j h e = absurd (not-suc-le-zero h)
pivots-false order rows (suc w) j h e = cases (ℕ_discrete j w) (λ b. pivots-false order rows w j b e)
  where
    cases : Dec (j ≡ w) → (j < w → pivots_right_of order rows w ≡ false)
        → (pivots_right_of order rows w && pivot_right order w (get_or rows w no_row)) ≡ false
    cases (yes same) rec =
        ap (λ t. pivots_right_of order rows w && t) (ap (λ k. pivot_right order k (get_or rows k no_row)) (sym same) ∙ e)
        ∙ and-false (pivots_right_of order rows w)
    cases (no n) rec = ap (λ t. t && pivot_right order w (get_or rows w no_row)) (rec (omega arith))

pub pivots-next : (order : List ℕ) (rows : List Row) (j : ℕ) → pivots_right_of order rows j ≡ true
    → pivot_right order j (get_or rows j no_row) ≡ true → pivots_right_of order rows (j + 1) ≡ true
unfolding pivots_right_of
pivots-next order rows j e f = ap (pivots_right_of order rows) (add-one j) ∙ ap₂ ◌&&◌ e f

-- They look at the first rows only, and at the first columns of the order.
pub pivots-same : (order others : List ℕ) (rows more : List Row) (w : ℕ)
    → ((j : ℕ) → j < w → (take j order ≡ take j others) × (get_or order j 0 ≡ get_or others j 0) × (get_or rows j no_row ≡ get_or more j no_row))
    → pivots_right_of order rows w ≡ pivots_right_of others more w
unfolding pivots_right_of pivot_right
pivots-same order others rows more zero same = refl
pivots-same order others rows more (suc w) same =
    ap₂ ◌&&◌ (pivots-same order others rows more w (λ j h. same j (omega arith))) last
  where
    last : pivot_right order w (get_or rows w no_row) ≡ pivot_right others w (get_or more w no_row)
    last =
        let (front, here, row) = same w (le_refl (suc w)) in
        ap₂ (λ l c. every (λ k. is_zero_of (entry (get_or rows w no_row) k)) l && not (is_zero_of (entry (get_or rows w no_row) c))) front here
        ∙ ap (pivot_right others w) row

-- ---- the columns counted from 0

pub zeroed-none : (order : List ℕ) → 0 ∷ 0 ∷ 0 ∷ 0 ∷ [] ≡ pad_to column_count 0 (map pred (take 0 order))
unfolding pad_to
zeroed-none order = refl

pub zeroed-next : (order : List ℕ) (j : ℕ) → j < column_count → j < length order
    → set (pad_to column_count 0 (map pred (take j order))) j (get_or order j 0 - 1) ≡ pad_to column_count 0 (map pred (take (j + 1) order))
zeroed-next order j h g =
    ap₂ (λ n x. set (pad_to column_count 0 columns) n x) (sym size) (one_less (get_or order j 0))
    ∙ pad_to-more column_count 0 columns (pred (get_or order j 0)) (rw size h)
    ∙ ap (pad_to column_count 0) (sym (map-append pred (take j order) (get_or order j 0 ∷ [])))
    ∙ ap (λ l. pad_to column_count 0 (map pred l)) (sym (take-suc order j 0 g))
    ∙ ap (λ n. pad_to column_count 0 (map pred (take n order))) (sym (add-one j))
  where
    columns : List ℕ
    columns = map pred (take j order)

    size : length columns ≡ j
    size = length-map (take j order) pred ∙ length-take-le j order (le_of_lt g)

    one_less : (n : ℕ) → n - 1 ≡ pred n
    one_less zero = refl
    one_less (suc n) = let e : suc n - 1 ≡ n = omega arith in e

-- ---- the checks of a state

module _ (x : Held) (row_store relation_store : List ℤ) where
  abbrev lengths : Bool
  lengths = lengths_right_of (equations x.sizes) row_store relation_store

  abbrev numbers : Bool
  numbers = numbers_right_of x.sizes x.relations row_store relation_store

  abbrev pivots : Bool
  pivots = pivots_right_of (the_columns_of x) (rows_of (equations x.sizes) row_store) x.settled

  abbrev stored : ℕ
  stored = check_stores_of x.sizes x.relations row_store relation_store

  pub sizes-fail : sizes_held_of x ≡ false → 11 ≡ check_state_of x row_store relation_store
  unfolding check_state_of
  sizes-fail e = sym (ap (λ t. cond t (cond lengths (cond numbers (cond pivots 0 11) 11) 1) 11) e)

  module _ (e : sizes_held_of x ≡ true) where
    -- The stores as a run checks them, where the sizes are right.
    stored_is : stored ≡ cond lengths (cond numbers 0 5) 1
    stored_is =
        let bounds = (sizes_held-iff x).0 (true-T (sizes_held_of x) e) in
        check_stores-order x.sizes x.relations row_store relation_store
        ∙ cond-passed (sizes_right_of x.sizes && count_right x.relations) _ 2
        ((T-&& (sizes_right_of x.sizes) (count_right x.relations)).1 (bounds.sizes, bounds.few-relations))

    passed_is : cond lengths (cond numbers (cond pivots 0 11) 11) 1 ≡ check_state_of x row_store relation_store
    unfolding check_state_of
    passed_is = sym (ap (λ t. cond t (cond lengths (cond numbers (cond pivots 0 11) 11) 1) 11) e)

    pub too_short : stored ≡ 1 → 1 ≡ check_state_of x row_store relation_store
    too_short h = cases lengths numbers (cond pivots 0 11) (sym stored_is ∙ h) ∙ passed_is
      where
        cases : (l n : Bool) (p : ℕ) → cond {A = ℕ} l (cond n 0 5) 1 ≡ 1 → 1 ≡ cond l (cond n p 11) 1
        cases true true p h = absurd (omega arith)
        cases true false p h = absurd (omega arith)
        cases false n p h = refl

    pub numbers-fail : stored ≢ 1 → stored ≢ 0 → 11 ≡ check_state_of x row_store relation_store
    numbers-fail h g = cases lengths numbers (cond pivots 0 11) (λ i. h (stored_is ∙ i)) (λ i. g (stored_is ∙ i)) ∙ passed_is
      where
        cases : (l n : Bool) (p : ℕ) → cond {A = ℕ} l (cond n 0 5) 1 ≢ 1 → cond {A = ℕ} l (cond n 0 5) 1 ≢ 0 → 11 ≡ cond l (cond n p 11) 1
        cases true true p h g = absurd (g refl)
        cases true false p h g = refl
        cases false n p h g = absurd (h refl)

    pub pivots-tell : stored ≡ 0 → cond pivots 0 11 ≡ check_state_of x row_store relation_store
    pivots-tell h = cases lengths numbers (cond pivots 0 11) (sym stored_is ∙ h) ∙ passed_is
      where
        cases : (l n : Bool) (p : ℕ) → cond {A = ℕ} l (cond n 0 5) 1 ≡ 0 → p ≡ cond l (cond n p 11) 1
        cases true true p h = refl
        cases true false p h = absurd (omega arith)
        cases false n p h = absurd (omega arith)

-- ---- what a state within its ranges asks

module _ (x : Held) (b : HeldBounds x) where
  pub held-few : x.settled ≤ column_count
  held-few = le_trans b.few-unknowns (size-bounds x.sizes b.sizes).few

  held-each : All (λ c. (1 ≤ c) × (c ≤ x.sizes.m)) (take x.settled x.order)
  held-each =
      all-mono (λ c. T (leb 1 c && leb c x.sizes.m)) (λ c. (1 ≤ c) × (c ≤ x.sizes.m))
      (λ c t. let both = (T-&& (leb 1 c) (leb c x.sizes.m)).0 t in (leb→le 1 c both.0, leb→le c x.sizes.m both.1))
      (take x.settled x.order) (all-of-every (λ c. leb 1 c && leb c x.sizes.m) (take x.settled x.order) b.columns)

  pub held-positive : All (λ c. 1 ≤ c) (take x.settled x.order)
  held-positive = all-mono (λ c. (1 ≤ c) × (c ≤ x.sizes.m)) (λ c. 1 ≤ c) (λ c h. h.0) (take x.settled x.order) held-each

  pub held-columns : Columns (pad_to column_count 0 (the_columns_of x))
  unfolding Columns the_columns_of
  held-columns = all-pad_to (λ c. c < column_count) column_count 0 (map pred (take x.settled x.order)) (lit< tt)
      (map-keeps (λ c. (1 ≤ c) × (c ≤ x.sizes.m)) (λ c. c < column_count) pred below (take x.settled x.order) held-each)
    where
      below : (c : ℕ) → (1 ≤ c) × (c ≤ x.sizes.m) → pred c < column_count
      below zero h = lit< tt
      below (suc c) h = le_trans h.1 (size-bounds x.sizes b.sizes).few

  module _ (four : length x.order ≡ column_count) where
    pub columns-count : length (the_columns_of x) ≡ x.settled
    unfolding the_columns_of
    columns-count = length-map (take x.settled x.order) pred ∙ length-take-le x.settled x.order (omega (arith, held-few))

    pub columns-taken : take x.settled (pad_to column_count 0 (the_columns_of x)) ≡ the_columns_of x
    columns-taken =
        ap (λ n. take n (pad_to column_count 0 (the_columns_of x))) (sym columns-count)
        ∙ take-pad_to column_count 0 (the_columns_of x) (omega (arith, columns-count, held-few))

    -- The code has zeros past the columns, and looks at the settled rows only.
    pub pivots-held : (store : List ℤ) → pivots_right_of (pad_to column_count 0 (the_columns_of x)) (rows_of x.settled store) x.settled
        ≡ pivots_right_of (the_columns_of x) (rows_of (equations x.sizes) store) x.settled
    pivots-held store = pivots-same (pad_to column_count 0 (the_columns_of x)) (the_columns_of x) (rows_of x.settled store)
        (rows_of (equations x.sizes) store) x.settled same
      where
        same : (j : ℕ) → j < x.settled → (take j (pad_to column_count 0 (the_columns_of x)) ≡ take j (the_columns_of x))
            × (get_or (pad_to column_count 0 (the_columns_of x)) j 0 ≡ get_or (the_columns_of x) j 0)
            × (get_or (rows_of x.settled store) j no_row ≡ get_or (rows_of (equations x.sizes) store) j no_row)
        same j h = (
          sym (take-take j x.settled (pad_to column_count 0 (the_columns_of x)) (le_of_lt h)) ∙ ap (take j) columns-taken,
          get_or-pad_to column_count 0 0 (the_columns_of x) j (omega (arith, columns-count)) (omega (arith, held-few)),
          row-at x.settled store j h ∙ sym (row-at (equations x.sizes) store j (omega (arith, b.few-rows))),
        )

  pub held-room : (row_store relation_store : List ℤ) → check_stores_of x.sizes x.relations row_store relation_store ≡ 0
      → row_need x.settled ≤ length row_store
  unfolding row_need
  held-room row_store relation_store e =
      let passed = (check_stores-zero x.sizes x.relations row_store relation_store).0 e in
      let long = ((lengths_right-iff (equations x.sizes) row_store relation_store).0 passed.lengths).0 in
      le_trans (mul-le-mul_right row_length b.few-rows) long

-- The first two tests, as facts.
pub sizes-passed : (z : Sizes) (count : ℕ) → (sizes_right_of z && leb count 16) ≡ true → T (sizes_right_of z)
sizes-passed z count e = ((T-&& (sizes_right_of z) (leb count 16)).0 (true-T _ e)).0

pub settled-passed : (z : Sizes) (settled : ℕ) → T (sizes_right_of z) → (leb settled z.m && leb settled (equations z)) ≡ true
    → settled ≤ column_count
settled-passed z settled right e =
    le_trans (leb→le settled z.m ((T-&& (leb settled z.m) (leb settled (equations z))).0 (true-T _ e)).0)
    (size-bounds z right).few
