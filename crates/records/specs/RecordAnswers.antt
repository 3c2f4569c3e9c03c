-- Answers as the code comes to them, one test after another.
--
-- Main definitions
--   answer_of            what the code's findings and refusals mean
--   go_on                what more tests make of an answer
--
-- Main statements
--   answer-past, answer-zero, answer-fails   a test past the limit, one with sum zero, and one that fails
--   answer-fits         "fits" says that each sum is zero
--   answer-append, stays, refused-stays   tests in two parts
--   answer-count        "fits" counts the tests
--   rows_next, relations-next, row-tests-next, relation-tests-next   one row, or one relation, more
--   row_small, relation-small, rows-small   the numbers of a row, or of a relation, that passed the check
--   row-tests-count     as many tests as rows
--   relation-inside, relation-outside, relation-tests-few   a relation is tested or not
--   equations-next      the equations at one n more
--   equations-count     as many tests as rows at each n
--   span-few, t-near, l-near, index-size   how large right sizes are, and an index that is tested
use Prim.Native.Nat.{ℕ, zero, suc, ◌+◌, ◌*◌, ◌≤◌, ◌<◌}
use Rattle.std.proofs.Common.{Result, Ok, Err, add-zero, zero-mul, suc-mul, add-one, sym, ◌∙◌, ap₂, subst, leb→le, length-drop, length-append, length-take-le}
use native.Mathlib.Omega.{arith}
use Rattle.std.specs.Prelude.{◌≡◌, ◌≢◌, Bool, T, take, drop, get_or, ℤ, pos, neg_ℤ, nat_abs, ◌-ℤ◌, ◌≤ℤ◌}
use Rattle.std.proofs.Math.Path.{refl, ap}
use Rattle.std.proofs.Math.Bool.{true, false, cond}
use mathlib.Core.List.{List, [], ◌∷◌, ◌++◌}
use Rattle.std.proofs.Math.Option.{Option, none, some}
use Rattle.std.proofs.Math.ListN.{length}
use Rattle.std.specs.Int.Signed.{le_z_yes}
use Rattle.algebra.specs.Integers.{nat_abs-+ℤ, nat_abs-neg_ℤ}
use Rattle.algebra.specs.Order.{≤ℤ-difference, ≤ℤ-trans, nat_abs-≤-iff}
use Rattle.algebra.specs.Polynomials.{is_zero_ℤ, is_zero_ℤ-iff}
use Rattle.lists.specs.Parts.{held_next, held-end, held-every}
use Rattle.lists.specs.Tests.{every, every-all, T-&&, false_of}
use Rattle.lists.specs.Everywhere.{all-mono}
use Rattle.rules.specs.Limits.{row_length, relation_length, most_span, block_bound, bound, small}
use Rattle.rules.specs.Layout.{SizeBounds, coefficients_of-row_of-all}
use Rattle.rules.specs.Rows.{Row, Relation, small_row}
use Rattle.rules.specs.Stores.{Sizes, span, row_of, rows_of, row_need, relation_of, relations_of, row_right_of, relation_right_of, unused_zero_of}
use Rattle.stores.specs.Validity.{index_at, row-after}
use Rattle.evaluation.specs.Evaluated.{farthest}
use Rattle.records.specs.Records.{equation, relation, Tested, row_sum_of, row_tests, equation_tests, relation_tests, inside, sum_at}
use Rattle.records.specs.Records.{index_from_of, top_at}
use Rattle.records.specs.Records.{Answer, fits, fails, refused, limit_passed, answer_to, index_bound, most_vectors}
use Rattle.records.specs.RecordPlaces.{top-at}
use Rattle.records.specs.declared.Finding.{Finding}
use Rattle.records.specs.declared.Finding.TheVariants as code
use Rattle.refusals.specs.declared.Refusal.{Refusal}
use Rattle.refusals.specs.Refusals.{number_of}

unfoldable pub answer_of : Result Finding Refusal → Answer
answer_of (Ok (code.Fits k)) = fits k
answer_of (Ok (code.Equation i n s)) = fails (equation i) n s
answer_of (Ok (code.Relation i n s)) = fails (relation i) n s
answer_of (Err r) = refused (number_of r)

-- ---- one test

module _ (k : ℕ) (t : Tested) (ts : List Tested) where
  pub answer-past : t.sum ≡ none → answer_to k (t ∷ ts) ≡ refused limit_passed
  unfolding answer_to
  answer-past e =
      ap (λ o. elim o [ none ↦ refused limit_passed | some s ↦ cond (is_zero_ℤ s) (answer_to (suc k) ts) (fails t.which t.index s) ]) e

  at_sum : (s : ℤ) → t.sum ≡ some s → answer_to k (t ∷ ts) ≡ cond (is_zero_ℤ s) (answer_to (suc k) ts) (fails t.which t.index s)
  unfolding answer_to
  at_sum s e =
      ap (λ o. elim o [ none ↦ refused limit_passed | some s ↦ cond (is_zero_ℤ s) (answer_to (suc k) ts) (fails t.which t.index s) ]) e

  pub answer-zero : t.sum ≡ some (pos 0) → answer_to k (t ∷ ts) ≡ answer_to (k + 1) ts
  unfolding is_zero_ℤ
  answer-zero e = at_sum (pos 0) e ∙ ap (λ j. answer_to j ts) (sym (add-one k))

  -- Where the answer is "fits", the sum of the first test is zero.
  pub answer-fits : (j : ℕ) → answer_to k (t ∷ ts) ≡ fits j → (t.sum ≡ some (pos 0)) × (answer_to (k + 1) ts ≡ fits j)
  answer-fits j e = go t.sum refl
    where
      sums : (s : ℤ) → t.sum ≡ some s → (b : Bool) → is_zero_ℤ s ≡ b → (t.sum ≡ some (pos 0)) × (answer_to (k + 1) ts ≡ fits j)
      sums s f true z =
          let zero-sum : t.sum ≡ some (pos 0) = f ∙ ap some ((is_zero_ℤ-iff s).0 (rw z tt)) in (zero-sum, sym (answer-zero zero-sum) ∙ e)
      sums s f false z =
          let other = sym (at_sum s f ∙ ap (λ b. cond b (answer_to (suc k) ts) (fails t.which t.index s)) z) ∙ e in
          absurd (let z : ◌≡◌ {A = ℕ} 0 1 = cc in omega arith)

      go : (o : Option ℤ) → t.sum ≡ o → (t.sum ≡ some (pos 0)) × (answer_to (k + 1) ts ≡ fits j)
      go none f = let past = sym (answer-past f) ∙ e in absurd (let z : ◌≡◌ {A = ℕ} 0 1 = cc in omega arith)
      go (some s) f = sums s f (is_zero_ℤ s) refl

  pub answer-fails : (s : ℤ) → t.sum ≡ some s → s ≢ pos 0 → answer_to k (t ∷ ts) ≡ fails t.which t.index s
  answer-fails s e d =
      at_sum s e
      ∙ ap (λ b. cond b (answer_to (suc k) ts) (fails t.which t.index s)) (false_of (is_zero_ℤ s) (λ z. d ((is_zero_ℤ-iff s).0 z)))

-- ---- several

unfoldable pub go_on : List Tested → Answer → Answer
unfolding answer_to
go_on ts (fits k) = answer_to k ts
go_on ts (fails w n s) = fails w n s
go_on ts (refused k) = refused k

pub answer-append : (k : ℕ) (ts us : List Tested) → answer_to k (ts ++ us) ≡ go_on us (answer_to k ts)
unfolding answer_to go_on
answer-append k [] us = refl
answer-append k (t ∷ ts) us = go t.sum (answer-append (suc k) ts us)
  where
    step : (s : ℤ) (b : Bool) → answer_to (suc k) (ts ++ us) ≡ go_on us (answer_to (suc k) ts)
        → cond b (answer_to (suc k) (ts ++ us)) (fails t.which t.index s)
        ≡ go_on us (cond b (answer_to (suc k) ts) (fails t.which t.index s))
    step s true e = e
    step s false e = refl

    go : (o : Option ℤ) → answer_to (suc k) (ts ++ us) ≡ go_on us (answer_to (suc k) ts)
        → (elim o [ none ↦ refused limit_passed | some s ↦ cond (is_zero_ℤ s) (answer_to (suc k) (ts ++ us)) (fails t.which t.index s) ])
        ≡ go_on us (elim o [ none ↦ refused limit_passed | some s ↦ cond (is_zero_ℤ s) (answer_to (suc k) ts) (fails t.which t.index s) ])
    go none e = refl
    go (some s) e = step s (is_zero_ℤ s) e

-- What is not "fits" stays, whatever is tested later.
pub stays : (f : Finding) (ts : List Tested) → ((k : ℕ) → f ≡ code.Fits k → ⊥) → go_on ts (answer_of (Ok f)) ≡ answer_of (Ok f)
unfolding go_on answer_of
stays (code.Fits k) ts h = absurd (h k refl)
stays (code.Equation i n s) ts h = refl
stays (code.Relation i n s) ts h = refl

pub refused-stays : (r : Refusal) (ts : List Tested) → go_on ts (answer_of (Err r)) ≡ answer_of (Err r)
unfolding go_on answer_of
refused-stays r ts = refl

pub answer-count : (k j : ℕ) (ts : List Tested) → answer_to k ts ≡ fits j → j ≡ k + length ts
unfolding answer_to
answer-count k j [] e = let z : j ≡ k = cc in z ∙ sym (add-zero k)
answer-count k j (t ∷ ts) e = go t.sum (answer-count (suc k) j ts) e
  where
    step : (s : ℤ) (b : Bool) → (answer_to (suc k) ts ≡ fits j → j ≡ suc k + length ts)
        → cond b (answer_to (suc k) ts) (fails t.which t.index s) ≡ fits j → j ≡ k + suc (length ts)
    step s true f d = let z = f d in omega arith
    step s false f d = absurd (let z : ◌≡◌ {A = ℕ} 0 1 = cc in omega arith)

    go : (o : Option ℤ) → (answer_to (suc k) ts ≡ fits j → j ≡ suc k + length ts)
        → (elim o [ none ↦ refused limit_passed | some s ↦ cond (is_zero_ℤ s) (answer_to (suc k) ts) (fails t.which t.index s) ]) ≡ fits j
        → j ≡ k + suc (length ts)
    go none f d = absurd (let z : ◌≡◌ {A = ℕ} 0 1 = cc in omega arith)
    go (some s) f d = step s (is_zero_ℤ s) f d

-- ---- the tests of rows and of relations

pub rows_next : (n : ℕ) (l : List ℤ) (i : ℕ) → i < n
    → drop i (rows_of n l) ≡ row_of (take row_length (drop (i * row_length) l)) ∷ drop (i + 1) (rows_of n l)
unfolding rows_of
rows_next n l i h = held_next row_of row_length n l i h

pub rows_end : (n : ℕ) (l : List ℤ) (i : ℕ) → n ≤ i → drop i (rows_of n l) ≡ []
unfolding rows_of
rows_end n l i h = held-end row_of row_length n l i h

pub relations-next : (n : ℕ) (l : List ℤ) (i : ℕ) → i < n
    → drop i (relations_of n l) ≡ relation_of (take relation_length (drop (i * relation_length) l)) ∷ drop (i + 1) (relations_of n l)
unfolding relations_of
relations-next n l i h = held_next relation_of relation_length n l i h

pub relations-end : (n : ℕ) (l : List ℤ) (i : ℕ) → n ≤ i → drop i (relations_of n l) ≡ []
unfolding relations_of
relations-end n l i h = held-end relation_of relation_length n l i h

-- The numbers of a row that passed the check.
pub row_small : (n : ℕ) (l : List ℤ) (i : ℕ) → i < n → row_need n ≤ length l → T (every small_row (rows_of n l))
    → T (every small (take row_length (drop (i * row_length) l)))
unfolding rows_of small_row row_need
row_small n l i h room s =
    rw (coefficients_of-row_of-all (take row_length (drop (i * row_length) l))
    (length-take-le row_length (drop (i * row_length) l) (rw length-drop (omega arith)))) at
    (held-every small_row row_of row_length n l s i h)

module _ (m D : ℕ) (values : List ℤ) (top : ℕ) (n : ℤ) where
  pub row-tests-next : (i : ℕ) (r : Row) (rs : List Row)
      → row_tests m D values top n i (r ∷ rs)
      ≡ record { which = equation i; index = n; sum = row_sum_of m D values top r n } ∷ row_tests m D values top n (i + 1) rs
  unfolding row_tests
  row-tests-next i r rs =
      ap (λ j. record { which = equation i; index = n; sum = row_sum_of m D values top r n } ∷ row_tests m D values top n j rs) (sym (add-one i))

  pub row-tests-count : (i : ℕ) (rows : List Row) → length (row_tests m D values top n i rows) ≡ length rows
  unfolding row_tests
  row-tests-count i [] = refl
  row-tests-count i (r ∷ rs) = ap suc (row-tests-count (suc i) rs)

module _ (z : Sizes) (first : ℤ) (vectors : ℕ) (values : List ℤ) where
  pub relation-tests-next : (i : ℕ) (e : Relation) (es : List Relation)
      → relation_tests z first vectors values i (e ∷ es)
      ≡ relation_tests z first vectors values i (e ∷ []) ++ relation_tests z first vectors values (i + 1) es
  unfolding relation_tests
  relation-tests-next i e es =
      let t : Tested = record { which = relation i; index = e.index; sum = sum_at z first values e.row e.index } in
      go (inside z first vectors e.index) t
    where
      go : (b : Bool) (t : Tested)
          → cond b (t ∷ relation_tests z first vectors values (suc i) es) (relation_tests z first vectors values (suc i) es)
          ≡ cond b (t ∷ []) [] ++ relation_tests z first vectors values (i + 1) es
      go true t = ap (λ j. t ∷ relation_tests z first vectors values j es) (sym (add-one i))
      go false t = ap (λ j. relation_tests z first vectors values j es) (sym (add-one i))

  pub relation-inside : (i : ℕ) (e : Relation) → inside z first vectors e.index ≡ true
      → relation_tests z first vectors values i (e ∷ [])
      ≡ record { which = relation i; index = e.index; sum = sum_at z first values e.row e.index } ∷ []
  unfolding relation_tests
  relation-inside i e h =
      ap (λ b. cond b (record { which = relation i; index = e.index; sum = sum_at z first values e.row e.index } ∷ []) []) h

  pub relation-outside : (i : ℕ) (e : Relation) → inside z first vectors e.index ≡ false
      → relation_tests z first vectors values i (e ∷ []) ≡ []
  unfolding relation_tests
  relation-outside i e h =
      ap (λ b. cond b (record { which = relation i; index = e.index; sum = sum_at z first values e.row e.index } ∷ []) []) h

  pub relation-tests-few : (i : ℕ) (e : Relation) → length (relation_tests z first vectors values i (e ∷ [])) ≤ 1
  unfolding relation_tests
  relation-tests-few i e =
      go (inside z first vectors e.index) (record {
        which =
            relation i;
        index = e.index;
        sum = sum_at z first values e.row e.index;
      })
    where
      go : (b : Bool) (t : Tested) → length (cond b (t ∷ []) []) ≤ 1
      go true t = omega arith
      go false t = omega arith

-- The numbers of a relation that passed the check.
pub relation-small : (z : Sizes) (count : ℕ) (l : List ℤ) (i : ℕ) → i < count → count * relation_length ≤ length l
    → T (every (relation_right_of z) (relations_of count l))
    → (nat_abs (get_or l (i * relation_length) (pos 0)) ≤ bound) × T (every small (take row_length (drop (i * relation_length + 1) l)))
unfolding relations_of relation_right_of row_right_of small small_row
relation-small z count l i h room right =
    let at = i * relation_length in
    let numbers = take row_length (drop (at + 1) l) in
    let e = relation_of (take relation_length (drop at l)) in
    let both =
    (T-&& (small e.index) (row_right_of z e.row)).0 (held-every (relation_right_of z) relation_of relation_length count l right i h) in
    let row = ((T-&& (small_row e.row) (unused_zero_of z.m (span z) e.row)).0 both.1).0 in
    let long : length numbers ≡ row_length = length-take-le row_length (drop (at + 1) l) (rw length-drop (omega arith)) in (
      leb→le (nat_abs (get_or l at (pos 0))) bound (rw (index_at l at) at both.0),
      subst (λ c. T (every small c)) (coefficients_of-row_of-all numbers long) (subst (λ r. T (small_row r)) (row-after l at) row),
    )

pub rows-small : (z : Sizes) (rows : List Row) → T (every (row_right_of z) rows) → T (every small_row rows)
unfolding row_right_of
rows-small z rows h =
    (every-all small_row rows).1
    (all-mono (λ r. T (row_right_of z r)) (λ r. T (small_row r)) (λ r t. ((T-&& (small_row r) (unused_zero_of z.m (span z) r)).0 t).0) rows
    ((every-all (row_right_of z) rows).0 h))

-- Equations at one n more.
pub equations-next : (z : Sizes) (first : ℤ) (values : List ℤ) (rows : List Row) (j k : ℕ) → z.t ≤ℤ z.l
    → equation_tests z first values rows j (suc k)
    ≡ row_tests z.m (span z) values (j + span z) (index_from_of z first j) 1 rows ++ equation_tests z first values rows (j + 1) k
unfolding equation_tests
equations-next z first values rows j k h =
    ap₂ (λ top i. row_tests z.m (span z) values top (index_from_of z first j) 1 rows ++ equation_tests z first values rows i k)
    (top-at z first h j) (sym (add-one j))

pub equations-count : (z : Sizes) (first : ℤ) (values : List ℤ) (rows : List Row) (j k : ℕ)
    → length (equation_tests z first values rows j k) ≡ k * length rows
unfolding equation_tests
equations-count z first values rows j zero = sym (zero-mul (length rows))
equations-count z first values rows j (suc k) =
    let n = index_from_of z first j in
    let here = row-tests-count z.m (span z) values (top_at z first n) n 1 rows in
    let later = equations-count z first values rows (suc j) k in
    let more = suc-mul k (length rows) in
    rw length-append (omega arith)

-- ---- sizes

pub span-few : (z : Sizes) → SizeBounds z → span z ≤ most_span
unfolding span
span-few z b = (nat_abs-≤-iff (z.l -ℤ z.t)).1 (≤ℤ-trans (le_z_yes tt) (≤ℤ-difference.0 b.ordered), b.narrow)

pub t-near : (z : Sizes) → SizeBounds z → nat_abs z.t ≤ block_bound
t-near z b = (nat_abs-≤-iff z.t).1 (b.low, ≤ℤ-trans b.ordered b.high)

pub l-near : (z : Sizes) → SizeBounds z → nat_abs z.l ≤ block_bound
l-near z b = (nat_abs-≤-iff z.l).1 (≤ℤ-trans b.low b.ordered, b.high)

pub index-size : (z : Sizes) (first : ℤ) (j : ℕ) → SizeBounds z → nat_abs first ≤ index_bound → j ≤ most_vectors
    → nat_abs (index_from_of z first j) + most_vectors ≤ farthest
unfolding index_from_of
index-size z first j b h k =
    omega (arith, nat_abs-+ℤ (first -ℤ z.t) (pos j), nat_abs-+ℤ first (neg_ℤ z.t), nat_abs-neg_ℤ z.t, t-near z b)
