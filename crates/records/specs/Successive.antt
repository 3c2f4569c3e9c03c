-- The sums of a row at successive n, which stand one after the other in a store.
--
-- Main definitions
--   NumbersThere, SumsNear      the numbers that a polynomial's values multiply are there; sums that leave room for one product more
--   Kept                        nothing else is changed in the store
--   Added                       a polynomial's products are added, up to the first n at which a value is past the limit
--   Known                       the sums of the first n are those that a function gives, up to the first at which it gives none
--   AllKnown                    so they are for each row of a store
--   stored_sum, stored_tests          the tests at one n, by the sums that stand in the store
--
-- Main statements
--   added_none, added_next, added-stop   one n more
--   kept-none, kept-both        one change after the other
--   known_next, left-next       one polynomial more
--   sum-size                    how large the sum of the first terms is
--   left_near                   which leaves room for one product more
--   all-next                    one row more
--   stored-tests, stored-formed     the tests of the rows are those; where they fit, all sums are formed
use Prim.Native.Nat.{ℕ, zero, suc, ◌+◌, ◌*◌, ◌≤◌, ◌<◌, zero-le}
use Rattle.std.proofs.Common.{mul-le-mul, zero-add, add-one, ◌∙◌, subst, inl, inr, leb→le, le→leb, get_or-set_same, get_or-set_other}
use Rattle.std.proofs.Math.Decide.{dec_lt, dec_le}
use native.Mathlib.Omega.{arith}
use Rattle.std.specs.Prelude.{◌≡◌, refl, ◌⊎◌, cond, List, [], ◌∷◌, T, leb, length, take, drop, set, replicate, ℤ, nat_abs, ◌+ℤ◌, ◌*ℤ◌}
use Rattle.std.proofs.Math.Path.{sym, ap, ap₂}
use Rattle.std.proofs.Math.Option.{Option, none, some}
use Rattle.std.proofs.Math.ListN.{get_or, length-set}
use Rattle.std.proofs.lemmas.List.{length-replicate, get_or-replicate}
use Rattle.std.proofs.Math.IntN.{pos}
use Rattle.algebra.specs.Integers.{nat_abs-+ℤ, nat_abs-*ℤ}
use Rattle.algebra.specs.Polynomials.{Polynomial}
use Rattle.lists.specs.Tests.{true_of, false_of}
use Rattle.rules.specs.Limits.{row_length}
use Rattle.rules.specs.Rows.{Row}
use Rattle.rules.specs.Stores.{row_of, rows_of}
use Rattle.evaluation.specs.Evaluated.{value_limit, after, horner, after-some, horner-size, some-none}
use Rattle.records.specs.Records.{Tested, equation, row_sum_of, row_tests, value_bound, values_right_of, most_vectors, answer_to, fits}
use Rattle.records.specs.RecordSums.{block_room, values-small}
use Rattle.records.specs.RecordAnswers.{answer-fits, rows_next, rows_end, row-tests-next}
use Rattle.records.specs.Terms.{term_length_of, term_polynomial, with_product, term_sum}

-- The numbers from a place on, each m behind the last, one for each n.
abbrev pub NumbersThere : List ℤ → ℕ → ℕ → ℕ → Type 0
NumbersThere values from m count = (j : ℕ) → j < count → from + j * m < length values

pub record SumsNear (sums : List ℤ) (at count : ℕ) : Type 0 where
  pub room : at + count ≤ length sums
  pub near : (j : ℕ) → j < count → nat_abs (get_or sums (at + j) (pos 0)) ≤ 5 * block_room

-- Places of the store that hold 0.
pub record ZerosAt (sums : List ℤ) (at count : ℕ) : Type 0 where
  pub room : at + count ≤ length sums
  pub zeros : (j : ℕ) → j < count → get_or sums (at + j) (pos 0) ≡ pos 0

pub zeros-there : (n : ℕ) → ZerosAt (replicate n (pos 0)) 0 n
zeros-there n = record {
  room = omega (arith, length-replicate n (pos 0));
  zeros = λ j l. ap (λ k. get_or (replicate n (pos 0)) k (pos 0)) (zero-add j) ∙ get_or-replicate n j (pos 0) (pos 0) l;
}

-- ---- what is kept

-- Outside of so many places from `at` on nothing is changed.
pub record Kept (at count : ℕ) (sums later : List ℤ) : Type 0 where
  pub same_length : length later ≡ length sums
  pub others : (i : ℕ) → (i < at) ⊎ (at + count ≤ i) → get_or later i (pos 0) ≡ get_or sums i (pos 0)

pub kept-none : (at count : ℕ) (sums : List ℤ) → Kept at count sums sums
kept-none at count sums = record { same_length = refl; others = λ i h. refl }

outer : (at count more i : ℕ) → count ≤ more → (i < at) ⊎ (at + more ≤ i) → (i < at) ⊎ (at + count ≤ i)
outer at count more i h (inl l) = inl l
outer at count more i h (inr l) = inr (omega arith)

pub kept-both : (at more first next : ℕ) (sums middle later : List ℤ) → first ≤ more → next ≤ more → Kept at first sums middle
    → Kept at next middle later → Kept at more sums later
kept-both at more first next sums middle later h g k l = record {
  same_length = l.same_length ∙ k.same_length;
  others = λ i o. l.others i (outer at next more i g o) ∙ k.others i (outer at first more i h o);
}

-- ---- one polynomial

-- Its products with its numbers are added to the sums at the first r of `count` successive n; at the next it has no value.
pub record Added (n : ℤ) (p : Polynomial) (values : List ℤ) (from m at count : ℕ) (sums : List ℤ) (r : ℕ) (later : List ℤ) : Type 0 where
  pub few : r ≤ count
  pub there : (j : ℕ) → j < r
      → with_product (n +ℤ pos j) values (from + j * m) p (get_or sums (at + j) (pos 0)) ≡ some (get_or later (at + j) (pos 0))
  pub stop : r < count → horner (n +ℤ pos r) p ≡ none
  pub kept : Kept at count sums later

-- The same whatever n is.
abbrev pub AddedAnywhere : Polynomial → List ℤ → ℕ → ℕ → ℕ → ℕ → List ℤ → ℕ → List ℤ → Type 0
AddedAnywhere p values from m at count sums r later = (n : ℤ) → Added n p values from m at count sums r later

module _ (n : ℤ) (p : Polynomial) (values : List ℤ) (from m at : ℕ) (sums : List ℤ) where
  pub added_none : Added n p values from m at 0 sums 0 sums
  added_none = record {
    few = zero-le;
    there = λ j l. absurd (omega arith);
    stop = λ l. absurd (omega arith);
    kept = kept-none at 0 sums;
  }

  pub added_next : (j : ℕ) (later : List ℤ) (v x : ℤ) → at + j < length sums → Added n p values from m at j sums j later
      → horner (n +ℤ pos j) p ≡ some v → x ≡ get_or later (at + j) (pos 0) +ℤ v *ℤ get_or values (from + j * m) (pos 0)
      → Added n p values from m at (j + 1) sums (j + 1) (set later (at + j) x)
  unfolding with_product after
  added_next j later v x room a e f = record {
    few = omega arith;
    there = there;
    stop = λ l. absurd (omega arith);
    kept = record { same_length = length-set later (at + j) x ∙ a.kept.same_length; others = others };
  }
    where
      here : with_product (n +ℤ pos j) values (from + j * m) p (get_or sums (at + j) (pos 0)) ≡ some x
      here =
          ap (after (λ v. some (get_or sums (at + j) (pos 0) +ℤ v *ℤ get_or values (from + j * m) (pos 0)))) e
          ∙ ap some (ap (λ s. s +ℤ v *ℤ get_or values (from + j * m) (pos 0)) (sym (a.kept.others (at + j) (inr (omega arith)))) ∙ sym f)

      there : (i : ℕ) → i < j + 1 → with_product (n +ℤ pos i) values (from + i * m) p (get_or sums (at + i) (pos 0))
          ≡ some (get_or (set later (at + j) x) (at + i) (pos 0))
      there i l = cases (dec_lt i j)
        where
          cases : Dec (i < j) → with_product (n +ℤ pos i) values (from + i * m) p (get_or sums (at + i) (pos 0))
              ≡ some (get_or (set later (at + j) x) (at + i) (pos 0))
          cases (yes below) =
              a.there i below ∙ ap some (sym (get_or-set_other later (at + j) (at + i) x (pos 0) (λ z. absurd (omega arith))))
          cases (no other) =
              let z : j ≡ i = omega arith in
              subst (λ i. with_product (n +ℤ pos i) values (from + i * m) p (get_or sums (at + i) (pos 0))
              ≡ some (get_or (set later (at + j) x) (at + i) (pos 0))) z
              (here ∙ ap some (sym (get_or-set_same later (at + j) x (pos 0) (omega (arith, a.kept.same_length)))))

      others : (i : ℕ) → (i < at) ⊎ (at + (j + 1) ≤ i) → get_or (set later (at + j) x) i (pos 0) ≡ get_or sums i (pos 0)
      others i (inl l) =
          get_or-set_other later (at + j) i x (pos 0) (λ z. absurd (omega arith)) ∙ a.kept.others i (inl l)
      others i (inr l) =
          get_or-set_other later (at + j) i x (pos 0) (λ z. absurd (omega arith)) ∙ a.kept.others i (inr (omega arith))

  pub added-stop : (j count : ℕ) (later : List ℤ) → j ≤ count → (j < count → horner (n +ℤ pos j) p ≡ none)
      → Added n p values from m at j sums j later → Added n p values from m at count sums j later
  added-stop j count later h e a = record {
    few = h;
    there = a.there;
    stop = e;
    kept = record { same_length = a.kept.same_length; others = λ i o. a.kept.others i (outer at j count i h o) };
  }

-- ---- the sums of a row

-- At the first `count` of so many n they are what f gives, and f gives nothing at the next.
pub record Known (f : ℕ → Option ℤ) (tests at : ℕ) (sums : List ℤ) (count : ℕ) : Type 0 where
  pub few : count ≤ tests
  pub there : (j : ℕ) → j < count → f j ≡ some (get_or sums (at + j) (pos 0))
  pub stop : count < tests → f count ≡ none

pub known-zeros : (tests at : ℕ) (sums : List ℤ) → ((j : ℕ) → j < tests → get_or sums (at + j) (pos 0) ≡ pos 0)
    → Known (λ j. some (pos 0)) tests at sums tests
known-zeros tests at sums h = record { few = omega arith; there = λ j l. ap some (sym (h j l)); stop = λ l. absurd (omega arith) }

pub known_same : (f g : ℕ → Option ℤ) (tests at : ℕ) (sums : List ℤ) (count : ℕ) → ((j : ℕ) → g j ≡ f j)
    → Known f tests at sums count → Known g tests at sums count
known_same f g tests at sums count e k =
    record { few = k.few; there = λ j l. e j ∙ k.there j l; stop = λ l. e count ∙ k.stop l }

-- One polynomial more.
pub known_next : (f : ℕ → Option ℤ) (tests at : ℕ) (sums : List ℤ) (count : ℕ) (n : ℤ) (p : Polynomial) (values : List ℤ) (from m : ℕ)
    (r : ℕ) (later : List ℤ) → Known f tests at sums count → Added n p values from m at count sums r later
    → Known (λ j. after (with_product (n +ℤ pos j) values (from + j * m) p) (f j)) tests at later r
unfolding after with_product
known_next f tests at sums count n p values from m r later k a = record {
  few = omega (arith, k.few, a.few);
  there = λ j l.
      ap (after (with_product (n +ℤ pos j) values (from + j * m) p)) (k.there j (omega (arith, a.few))) ∙ a.there j l;
  stop = stop;
}
  where
    stop : r < tests → after (with_product (n +ℤ pos r) values (from + r * m) p) (f r) ≡ none
    stop l = cases (dec_lt r count)
      where
        cases : Dec (r < count) → after (with_product (n +ℤ pos r) values (from + r * m) p) (f r) ≡ none
        cases (yes below) =
            ap (after (with_product (n +ℤ pos r) values (from + r * m) p)) (k.there r below)
            ∙ ap (after (λ v. some (get_or sums (at + r) (pos 0) +ℤ v *ℤ get_or values (from + r * m) (pos 0)))) (a.stop below)
        cases (no other) =
            let z : count ≡ r = omega (arith, a.few) in
            ap (after (with_product (n +ℤ pos r) values (from + r * m) p)) (ap f (sym z) ∙ k.stop (omega arith))

-- The sum of the first k terms at the n of number j.
abbrev pub left_sum : ℤ → List ℤ → List ℤ → ℕ → ℕ → List ℕ → ℕ → ℕ → Option ℤ
left_sum n row values base m shape k j = term_sum (n +ℤ pos j) row values (base + j * m) shape k

-- One term more.
pub left-next : (n : ℤ) (row values : List ℤ) (base m : ℕ) (shape : List ℕ) (k tests at : ℕ) (sums : List ℤ) (count r : ℕ) (later : List ℤ)
    → Known (left_sum n row values base m shape k) tests at sums count
    → Added n (term_polynomial row shape k) values (base + get_or shape (k * term_length_of + 2) 0) m at count sums r later
    → Known (left_sum n row values base m shape (k + 1)) tests at later r
unfolding term_sum
left-next n row values base m shape k tests at sums count r later known added =
    let p = term_polynomial row shape k in
    let number = get_or shape (k * term_length_of + 2) 0 in
    known_same _ (left_sum n row values base m shape (k + 1)) tests at later r
    (λ j.
    let place : base + j * m + number ≡ base + number + j * m = omega arith in
    ap (term_sum (n +ℤ pos j) row values (base + j * m) shape) (add-one k)
    ∙ ap (λ i. after (with_product (n +ℤ pos j) values i p) (left_sum n row values base m shape k j)) place)
    (known_next (left_sum n row values base m shape k) tests at sums count n p values (base + number) m r later known added)

-- Each term adds at most 2^56.
pub sum-size : (n : ℤ) (row values : List ℤ) (base : ℕ) (shape : List ℕ) (k : ℕ) (s : ℤ) → T (values_right_of values)
    → term_sum n row values base shape k ≡ some s → nat_abs s ≤ k * (value_limit * value_bound)
unfolding term_sum with_product
sum-size n row values base shape zero s h e = let z : s ≡ pos 0 = cc in rw z (omega arith)
sum-size n row values base shape (suc k) s h e =
    let x = get_or values (base + get_or shape (k * term_length_of + 2) 0) (pos 0) in
    let p = term_polynomial row shape k in
    let w = after-some (λ s. after (λ v. some (s +ℤ v *ℤ x)) (horner n p)) (term_sum n row values base shape k) s e in
    let u = after-some (λ v. some (w.0 +ℤ v *ℤ x)) (horner n p) s w.2 in
    let z : s ≡ w.0 +ℤ u.0 *ℤ x = cc in
    let size : nat_abs (u.0 *ℤ x) ≤ value_limit * value_bound =
    rw (nat_abs-*ℤ u.0 x)
    (mul-le-mul (horner-size n p u.0 u.1) (values-small values h (base + get_or shape (k * term_length_of + 2) 0))) in
    rw z (omega (arith, sum-size n row values base shape k w.0 h w.1, nat_abs-+ℤ w.0 (u.0 *ℤ x), size))

-- Sums of at most twenty terms leave room for one product more.
pub left_near : (n : ℤ) (row values : List ℤ) (base m : ℕ) (shape : List ℕ) (k tests at : ℕ) (sums : List ℤ) (count : ℕ)
    → T (values_right_of values) → k ≤ 20 → at + count ≤ length sums → Known (left_sum n row values base m shape k) tests at sums count
    → SumsNear sums at count
left_near n row values base m shape k tests at sums count h few room known = record {
  room = room;
  near = λ j l.
      omega (arith, sum-size (n +ℤ pos j) row values (base + j * m) shape k (get_or sums (at + j) (pos 0)) h (known.there j l));
}

-- ---- the sums of the rows

-- The sums that row i of a store makes at the n after a first one, in the order of the n.
abbrev pub sums_of : ℕ → ℕ → ℤ → List ℤ → List ℤ → ℕ → ℕ → Option ℤ
sums_of m span n values rows i j =
    row_sum_of m span values (span + j) (row_of (take row_length (drop (i * row_length) rows))) (n +ℤ pos j)

abbrev pub AllKnown : ℕ → ℕ → ℤ → List ℤ → List ℤ → ℕ → List ℤ → List ℕ → ℕ → Type 0
AllKnown m span n values rows tests sums formed equations =
    (i : ℕ) → i < equations
    → Known (sums_of m span n values rows i) tests (i * most_vectors) sums (get_or formed i 0)

-- One row more.
pub all-next : (m span : ℕ) (n : ℤ) (values rows : List ℤ) (tests : ℕ) (sums : List ℤ) (formed : List ℕ) (i : ℕ) (later : List ℤ) (r : ℕ)
    → tests ≤ most_vectors → i < length formed → AllKnown m span n values rows tests sums formed i
    → Known (sums_of m span n values rows i) tests (i * most_vectors) later r
    → Kept (i * most_vectors) tests sums later → AllKnown m span n values rows tests later (set formed i r) (i + 1)
all-next m span n values rows tests sums formed i later r h room all here kept k l = cases (dec_lt k i)
  where
    cases : Dec (k < i) → Known (sums_of m span n values rows k) tests (k * most_vectors) later (get_or (set formed i r) k 0)
    cases (yes below) =
        let known = all k below in
        subst (Known (sums_of m span n values rows k) tests (k * most_vectors) later)
        (sym (get_or-set_other formed i k r 0 (λ z. absurd (omega arith))))
        (record {
          few = known.few;
          there = λ j l. known.there j l ∙ ap some (sym (kept.others (k * most_vectors + j) (inl (omega (arith, known.few)))));
          stop = known.stop;
        })
    cases (no other) =
        let z : i ≡ k = omega arith in
        subst (λ k. Known (sums_of m span n values rows k) tests (k * most_vectors) later (get_or (set formed i r) k 0)) z
        (subst (Known (sums_of m span n values rows i) tests (i * most_vectors) later) (sym (get_or-set_same formed i r 0 room)) here)

-- ---- the tests at one n

-- The sum of row i at the n of number j, by what stands in the store.
unfoldable pub stored_sum : List ℤ → List ℕ → ℕ → ℕ → Option ℤ
stored_sum sums formed j i = cond (leb (get_or formed i 0) j) none (some (get_or sums (i * most_vectors + j) (pos 0)))

-- Of so many rows from row i on.
unfoldable pub stored_tests : ℤ → List ℤ → List ℕ → ℕ → ℕ → ℕ → List Tested
unfolding stored_sum
stored_tests n sums formed j i zero = []
stored_tests n sums formed j i (suc k) =
    record { which = equation (i + 1); index = n; sum = stored_sum sums formed j i } ∷ stored_tests n sums formed j (i + 1) k

pub stored_past : (sums : List ℤ) (formed : List ℕ) (j i : ℕ) → get_or formed i 0 ≤ j → stored_sum sums formed j i ≡ none
unfolding stored_sum
stored_past sums formed j i h =
    ap (λ b. cond b none (some (get_or sums (i * most_vectors + j) (pos 0))))
    (true_of (leb (get_or formed i 0) j) (le→leb (get_or formed i 0) j h))

pub stored_there : (sums : List ℤ) (formed : List ℕ) (j i : ℕ) → j < get_or formed i 0
    → stored_sum sums formed j i ≡ some (get_or sums (i * most_vectors + j) (pos 0))
unfolding stored_sum
stored_there sums formed j i h =
    ap (λ b. cond b none (some (get_or sums (i * most_vectors + j) (pos 0))))
    (false_of (leb (get_or formed i 0) j) (λ t. let l = leb→le (get_or formed i 0) j t in absurd (omega arith)))

-- Where all tests fit, all sums are formed.
pub stored-formed : (n : ℤ) (sums : List ℤ) (formed : List ℕ) (j b c i k : ℕ) → answer_to b (stored_tests n sums formed j i k) ≡ fits c
    → (e : ℕ) → i ≤ e → e < i + k → j < get_or formed e 0
unfolding stored_tests
stored-formed n sums formed j b c i zero h e g l = absurd (omega arith)
stored-formed n sums formed j b c i (suc k) h e g l =
    let both = answer-fits b _ (stored_tests n sums formed j (i + 1) k) c h in
    cases both.0 (dec_le (get_or formed i 0) j) (dec_le (i + 1) e)
    (λ later. stored-formed n sums formed j (b + 1) c (i + 1) k both.1 e later (omega arith))
  where
    cases : stored_sum sums formed j i ≡ some (pos 0) → Dec (get_or formed i 0 ≤ j) → Dec (i + 1 ≤ e) → (i + 1 ≤ e → j < get_or formed e 0)
        → j < get_or formed e 0
    cases zero-sum (yes past) d r = absurd (some-none (sym zero-sum ∙ stored_past sums formed j i past))
    cases zero-sum (no f) (yes later) r = r later
    cases zero-sum (no f) (no other) r = let z : i ≡ e = omega arith in subst (λ i. j < get_or formed i 0) z (omega arith)

-- The tests of the rows are those of the store.
module _ (m span : ℕ) (first : ℤ) (values rows : List ℤ) (tests : ℕ) (sums : List ℤ) (formed : List ℕ) (equations j : ℕ) (below : j < tests)
    (all : AllKnown m span first values rows tests sums formed equations)
    (reached : (i : ℕ) → i < equations → j ≤ get_or formed i 0) where
  abbrev row_at : ℕ → Row
  row_at i = row_of (take row_length (drop (i * row_length) rows))

  stored-sum : (i : ℕ) → i < equations → stored_sum sums formed j i ≡ row_sum_of m span values (span + j) (row_at i) (first +ℤ pos j)
  stored-sum i l = cases (dec_lt j (get_or formed i 0))
    where
      cases : Dec (j < get_or formed i 0) → stored_sum sums formed j i ≡ row_sum_of m span values (span + j) (row_at i) (first +ℤ pos j)
      cases (yes h) = stored_there sums formed j i h ∙ sym ((all i l).there j h)
      cases (no h) =
          let z : get_or formed i 0 ≡ j = omega (arith, reached i l) in
          stored_past sums formed j i (omega arith) ∙ sym (subst (λ k. sums_of m span first values rows i k ≡ none)
          z ((all i l).stop (omega arith)))

  pub stored-tests : (i k : ℕ) → i + k ≡ equations
      → stored_tests (first +ℤ pos j) sums formed j i k
      ≡ row_tests m span values (span + j) (first +ℤ pos j) (i + 1) (drop i (rows_of equations rows))
  unfolding stored_tests row_tests
  stored-tests i zero e = ap (row_tests m span values (span + j) (first +ℤ pos j) (i + 1)) (sym (rows_end equations rows i (omega arith)))
  stored-tests i (suc k) e =
      let n = first +ℤ pos j in
      ap₂ (λ s ts. record { which = equation (i + 1); index = n; sum = s } ∷ ts) (stored-sum i (omega arith))
      (stored-tests (i + 1) k (omega arith))
      ∙ sym (row-tests-next m span values (span + j) n (i + 1) (row_at i) (drop (i + 1) (rows_of equations rows)))
      ∙ ap (row_tests m span values (span + j) n (i + 1)) (sym (rows_next equations rows i (omega arith)))
