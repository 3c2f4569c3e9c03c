-- Polynomials combined one after the other, each in the place of the one that it replaces.
--
-- Main definitions
--   sum_of g h p q       g·p + h·q
--   PartFits, PartsFit  what is asked where a polynomial, or the polynomials of a list, are combined
--   known_of l k         what is known of the numbers l and of those before them, of which k is known
--   SumsSaved, PartMade, PartsMade   what is known once sums, a polynomial, or those of a list have been made
--   PartsBegun          the first e polynomials of a list have degrees up to 15 and are combined
--
-- Main statements
--   some-passed, none-failed   a value or none tells whether the test passed that it hangs on
--   known-twice         numbers, and then others
--   zero-made           where both polynomials are zero, their combination is what stands there already
--   beyond-made, whole-made   a combination of shortened polynomials, past degree 15 or not
--   front_fits, sums-made     that of polynomials of few coefficients: behind the sums there are zeros
--   parts-start, parts_next, parts-beyond, parts-end   before the first polynomial, one more, one past degree 15, and after the last
--   part-is, part-fits   the next polynomial is as it was and fits
--   part-zero           a polynomial past the place from which on a list is zero
--   shortened-made      polynomials that are combined by shortened multipliers
use Rattle.std.specs.Prelude.{◌≡◌, refl, Bool, true, false, not, ◌&&◌, cond, T, ℤ, pos, length, take, drop, get_or, replicate, Option}
use Rattle.std.proofs.Common.{Some, None, sym, ◌∙◌, ap₂, subst, true≢false, le_of_eq, arith, length-drop, take-append-drop, drop_of_length-le, take_all, take-add, take_at, drop-drop, length-take-le}
use Rattle.std.proofs.Math.Path.{ap}
use Rattle.std.proofs.Math.Bool.{and_assoc, and-true}
use mathlib.Core.List.{List, [], ◌∷◌, ◌++◌, map, flatten, append_assoc, append-nil}
use Prim.Native.Nat.{ℕ, zero, suc, ◌+◌, ◌*◌, ◌-◌, ◌/◌, ◌≤◌, ◌<◌}
use Rattle.std.proofs.Math.Decide.{dec_lt}
use Rattle.std.proofs.lemmas.Bool.{not-true, not-false}
use Rattle.std.proofs.Math.Seq.{paste}
use Rattle.lists.specs.Pasted.{paste-first}
use Rattle.lists.specs.Taken.{rest-past}
use Rattle.lists.specs.Tests.{T-&&, true_of, true-T, every, every_append, every-part, every-longer, every-false}
use Rattle.algebra.specs.Gcd.{gcd, content, gcd-comm, gcd-assoc, zero-gcd, content-zero, content-append}
use Rattle.algebra.specs.Polynomials.{Polynomial, coeff, is_zero_of, add, mul, zero-list, is_zero-cons, is_zero-coeff, coeff-is_zero}
use Rattle.algebra.specs.Polynomials.{is_zero-append, is_zero-add, is_zero-mul-right}
use Rattle.algebra.specs.Coefficients.{coeff-drop, coeff-past-length}
use Rattle.rules.specs.Limits.{small, coefficient_count}
use Rattle.rules.specs.Layout.{coefficients_at_of}
use Rattle.working_rows.specs.Shifting.{over_front, over-behind}
use Rattle.combinations.specs.declared.Known.{Known}
use Rattle.combinations.specs.Primitive.{is_low, content-take}
use Rattle.combinations.specs.Combination.{few, both_within_of, Counted, Shortened, shortened-front, shortened-fits, combined-same}
use Rattle.combinations.specs.Combination.{past-highest, high-free, high_zero, high_same}
use Rattle.combinations.specs.Combination.{low_part_of, low_sums, length-low_part, low_part-at, low_part-same, low_part-zero}
use Rattle.combinations.specs.Combination.{combinations, low_numbers, length-combinations, combination-at, length-low, low_part}
use Rattle.combinations.specs.Combination.{shortened-combinations}

abbrev pub sum_of : Polynomial → Polynomial → Polynomial → Polynomial → Polynomial
sum_of g h p q = add (mul g p) (mul h q)

-- What is asked where p is combined with q.
abbrev pub PartFits : Polynomial → Polynomial → List ℤ → List ℤ → Type 0
PartFits g h p q =
    ((length p ≡ coefficient_count) × (length q ≡ coefficient_count)) × (T (every small p) × T (every small q) × Counted g × Counted h)

-- What is known of the numbers l and of those before them.
abbrev pub known_of : List ℤ → Known → Known
known_of l before = record { content = gcd (content l) before.content; within = before.within && every small l }

-- The sums s stand at the front of a place.
pub record SumsSaved (s : List ℤ) (before : Known) (place after : List ℤ) (r : Known) : Type 0 where
  pub store : after ≡ paste place 0 s (length s)
  pub known : r ≡ known_of s before

-- A polynomial is combined to `sum`, unless its degree is past 15.
pub record PartMade (sum : Polynomial) (before : Known) (place after : List ℤ) (r : Option Known) : Type 0 where
  pub value : r ≡ cond (is_low sum) (Some (known_of (low_part_of sum) before)) None
  pub store : after ≡ cond (is_low sum) (low_part_of sum) place

-- What is asked where the polynomials of two lists are combined: behind the first `count` there are zeros only.
pub record PartsFit (count : ℕ) (g h : Polynomial) (target pivot : List ℤ) : Type 0 where
  pub multipliers : Counted g × Counted h
  pub whole : length target ≡ length target / coefficient_count * coefficient_count
  pub same : length pivot ≡ length target
  pub count-in : count * coefficient_count ≤ length target
  pub target_small : T (every small target)
  pub pivot-small : T (every small pivot)
  pub target-rest : T (is_zero_of (drop (count * coefficient_count) target))
  pub pivot-rest : T (is_zero_of (drop (count * coefficient_count) pivot))

-- The polynomials of a list are combined to ps, unless the degree of one is past 15.
pub record PartsMade (ps : List Polynomial) (before : Known) (after : List ℤ) (r : Option Known) : Type 0 where
  pub value : r ≡ cond (every is_low ps) (Some (known_of (flatten (map low_part_of ps)) before)) None
  pub store : every is_low ps ≡ true → after ≡ flatten (map low_part_of ps)

-- A value tells that the test passed that it hangs on, and none that it failed.
pub some-passed : {A : Type 0} (t : Bool) {a x : A} → Some a ≡ cond t (Some x) None → (t ≡ true) × (a ≡ x)
some-passed true e = (refl, cc)
some-passed {A} false {a} {x} e = let impossible : ◌≡◌ {A = ℕ} 0 1 = cc in absurd (omega arith)

pub none-failed : {A : Type 0} (t : Bool) (x : A) → None ≡ cond t (Some x) None → t ≡ false
none-failed {A} true x e = let impossible : ◌≡◌ {A = ℕ} 0 1 = cc in absurd (omega arith)
none-failed false x e = refl

-- Numbers, and then others.
pub known-twice : (a b : List ℤ) (before : Known) → known_of b (known_of a before) ≡ known_of (a ++ b) before
known-twice a b before =
    ap₂ (λ c w. record { content = c; within = w })
    (sym (gcd-assoc (content b) (content a) before.content)
    ∙ ap (λ m. gcd m before.content) (gcd-comm (content b) (content a) ∙ sym (content-append a b)))
    (and_assoc before.within (every small a) (every small b) ∙ ap (λ u. before.within && u) (sym (every_append small a b)))

-- ---- zeros at the end

zero-drop : (n k : ℕ) (p : Polynomial) → n ≤ k → T (is_zero_of (drop n p)) → T (is_zero_of (drop k p))
zero-drop n k p inside z =
    subst (λ q. T (is_zero_of q)) (sym (rest-past n k inside p))
    (coeff-is_zero (drop (k - n) (drop n p)) (λ i. coeff-drop (k - n) (drop n p) i ∙ is_zero-coeff (drop n p) z (k - n + i)))

small-zeros : (p : List ℤ) → T (is_zero_of p) → every small p ≡ true
unfolding every small
small-zeros [] z = refl
small-zeros (a ∷ p) z = let both = (is_zero-cons a p).0 z in ap₂ (λ b t. small b && t) both.0 (small-zeros p both.1)

-- They are within ±C.
small-take : (n : ℕ) (p : List ℤ) → T (is_zero_of (drop n p)) → every small (take n p) ≡ every small p
small-take n p z =
    sym (ap (every small) (sym (take-append-drop n p)) ∙ every_append small (take n p) (drop n p)
    ∙ ap (λ t. every small (take n p) && t) (small-zeros (drop n p) z) ∙ and-true (every small (take n p)))

same-zeros : (p q : List ℤ) → T (is_zero_of p) → T (is_zero_of q) → length p ≡ length q → p ≡ q
same-zeros p q x y e = zero-list p x ∙ ap (λ n. replicate n (pos 0)) e ∙ sym (zero-list q y)

-- A polynomial past the place from which on a list is zero.
pub part-zero : (l : List ℤ) (count e : ℕ) → count ≤ e → T (is_zero_of (drop (count * coefficient_count) l)) → T (is_zero_of (coefficients_at_of l e))
part-zero l count e h z =
    let rest = zero-drop (count * coefficient_count) (e * coefficient_count) l (omega arith) z in
    ((T-&& (is_zero_of (coefficients_at_of l e)) (is_zero_of (drop coefficient_count (drop (e * coefficient_count) l)))).0
    (subst T (ap is_zero_of (sym (take-append-drop coefficient_count (drop (e * coefficient_count) l)))
    ∙ is_zero-append (coefficients_at_of l e) (drop coefficient_count (drop (e * coefficient_count) l))) rest)).0

-- ---- one polynomial

module _ (g h p q : Polynomial) (fits : PartFits g h p q) where
  abbrev sum : Polynomial
  sum = sum_of g h p q

  pub zero-made : (is_zero_of p && is_zero_of q) ≡ true → (before : Known) → PartMade sum before p p (Some before)
  zero-made z before = record {
    value = sym (ap (λ t. cond t (Some (known_of (low_part_of sum) before)) None) high ∙ ap Some same);
    store = sym (ap (λ t. cond t (low_part_of sum) p) high ∙ low);
  }
    where
      both : T (is_zero_of p) × T (is_zero_of q)
      both = (T-&& (is_zero_of p) (is_zero_of q)).0 (true-T _ z)

      zero-sum : T (is_zero_of sum)
      zero-sum = is_zero-add (mul g p) (mul h q) (is_zero-mul-right g p both.0) (is_zero-mul-right h q both.1)

      high : is_low sum ≡ true
      high = true_of _ ((high_zero sum).1 (λ i m. is_zero-coeff sum zero-sum i))

      none : content (low_part_of sum) ≡ 0
      none = (content-zero (low_part_of sum)).1 (low_part-zero sum zero-sum)

      low : low_part_of sum ≡ p
      low = same-zeros (low_part_of sum) p (low_part-zero sum zero-sum) both.0 (length-low_part sum ∙ sym fits.0.0)

      same : known_of (low_part_of sum) before ≡ before
      same =
          ap₂ (λ c w. record { content = c; within = w }) (ap (λ m. gcd m before.content) none ∙ zero-gcd before.content)
          (ap (λ u. before.within && u) (ap (every small) low ∙ true_of _ fits.1.0) ∙ and-true before.within)

  -- The combination of shortened polynomials.
  module _ (r s : Polynomial) (x : Shortened r p) (y : Shortened s q) where
    abbrev short : Polynomial
    short = sum_of g h r s

    same : (k : ℕ) → coeff short k ≡ coeff sum k
    same = combined-same g g r p h h s q (λ k. refl) x.same (λ k. refl) y.same

    high_is : is_low short ≡ is_low sum
    high_is = high_same short sum same

    low-is : low_part_of short ≡ low_part_of sum
    low-is = low_part-same short sum same

    pub factors : Counted g × Counted r × Counted h × Counted s
    factors = (
      fits.1.2,
      shortened-fits r p x (omega (arith, fits.0.0), le_of_eq fits.0.0, fits.1.0),
      fits.1.3,
      shortened-fits s q y (omega (arith, fits.0.1), le_of_eq fits.0.1, fits.1.1),
    )

    pub beyond-made : not (is_low short) ≡ true → (before : Known) → PartMade sum before p p None
    beyond-made b before =
        let past : is_low sum ≡ false = sym high_is ∙ not-true _ b in record {
          value = sym (ap (λ t. cond t (Some (known_of (low_part_of sum) before)) None) past);
          store = sym (ap (λ t. cond t (low_part_of sum) p) past);
        }

    -- Numbers that stand at the front, with zeros behind them.
    saved-made : is_low sum ≡ true → (n : ℕ) → n ≤ coefficient_count → T (is_zero_of (drop n p)) → T (is_zero_of (drop n (low_part_of sum)))
        → {l after : List ℤ} {before m : Known} → l ≡ take n (low_part_of sum) → SumsSaved l before p after m
        → PartMade sum before p after (Some m)
    saved-made low n inside z w {l} {after} {before} {m} e saved = record {
      value =
          ap Some (saved.known
          ∙ ap₂ (λ c u. record { content = c; within = u })
          (ap (λ k. gcd k before.content) (ap content e ∙ content-take n (low_part_of sum) w))
          (ap (λ v. before.within && v) (ap (every small) e ∙ small-take n (low_part_of sum) w)))
          ∙ sym (ap (λ t. cond t (Some (known_of (low_part_of sum) before)) None) low);
      store = saved.store ∙ stored ∙ sym (ap (λ u. cond u (low_part_of sum) p) low);
    }
      where
        long : length l ≡ n
        long = ap length e ∙ length-take-le n (low_part_of sum) (rw length-low_part inside)

        stored : paste p 0 l (length l) ≡ low_part_of sum
        stored =
            ap (paste p 0 l) long ∙ paste-first p l n long
            ∙ ap₂ ◌++◌ e (same-zeros (drop n p) (drop n (low_part_of sum)) z w (simp (length-drop, length-low_part) (omega (arith, fits.0.0))))
            ∙ take-append-drop n (low_part_of sum)

    pub whole-made : not (is_low short) ≡ false → {l after : List ℤ} {before m : Known} → l ≡ low_part_of short
        → SumsSaved l before p after m → PartMade sum before p after (Some m)
    whole-made b e saved =
        let all = sym (take_all coefficient_count (low_part_of sum) (le_of_eq (length-low_part sum))) in
        saved-made (sym high_is ∙ not-false _ b) coefficient_count (omega arith) (past p (le_of_eq fits.0.0))
        (past (low_part_of sum) (le_of_eq (length-low_part sum))) (e ∙ low-is ∙ all) saved
      where
        past : (l : List ℤ) → length l ≤ coefficient_count → T (is_zero_of (drop coefficient_count l))
        past l k = coeff-is_zero (drop coefficient_count l) (λ i. coeff-drop coefficient_count l i ∙ coeff-past-length l (coefficient_count + i) (omega arith))

  -- Polynomials of few coefficients, and multipliers of n.
  module _ (tails : both_within_of few p q ≡ true) where
    tails-zero : T (is_zero_of (drop few p)) × T (is_zero_of (drop few q))
    tails-zero = (T-&& (is_zero_of (drop few p)) (is_zero_of (drop few q))).0 (true-T _ tails)

    module _ {r s : Polynomial} (first : r ≡ take few p) (second : s ≡ take few q) where
      front-p : Shortened r p
      front-p = shortened-front p r few (omega arith) (omega (arith, fits.0.0)) first tails-zero.0

      front-q : Shortened s q
      front-q = shortened-front q s few (omega arith) (omega (arith, fits.0.1)) second tails-zero.1

      pub front_fits : Counted g × Counted r × Counted h × Counted s
      front_fits = factors r s front-p front-q

      pub sums-made : (n : ℕ) → length g ≡ n → length h ≡ n → n + few ≤ coefficient_count + 1
          → {l after : List ℤ} {before m : Known} → l ≡ low_sums n g r h s → SumsSaved l before p after m
          → PartMade sum before p after (Some m)
      unfolding coeff
      sums-made n in_g in-h powers {l} e saved =
          saved-made r s front-p front-q low count (omega arith)
          (zero-drop few count p (omega (arith, in_g, front_fits)) tails-zero.0) rest
          (e ∙ ap (take count) (low-is r s front-p front-q)) saved
        where
          count : ℕ
          count = n + few - 1

          in-r : length r ≡ few
          in-r = rw first (length-take-le few p (omega (arith, fits.0.0)))

          in-s : length s ≡ few
          in-s = rw second (length-take-le few q (omega (arith, fits.0.1)))

          low : is_low sum ≡ true
          low =
              sym (high_is r s front-p front-q)
              ∙ high-free g r h s front_fits coefficient_count (omega (arith, in_g, in-h, in-r, in-s)) (λ i below above. absurd (omega arith))

          rest : T (is_zero_of (drop count (low_part_of sum)))
          rest =
              subst (λ m. T (is_zero_of (drop count m))) (low-is r s front-p front-q)
              (coeff-is_zero (drop count (low_part_of (sum_of g h r s))) (λ k. coeff-drop count (low_part_of (sum_of g h r s)) k
              ∙ cases k (dec_lt (count + k) coefficient_count)))
            where
              cases : (k : ℕ) → Dec (count + k < coefficient_count) → coeff (low_part_of (sum_of g h r s)) (count + k) ≡ pos 0
              cases k (yes m) =
                  low_part-at (sum_of g h r s) (count + k) m
                  ∙ past-highest g r h s front_fits (count + k) (omega (arith, in_g, in-h, in-r, in-s))
              cases k (no m) = coeff-past-length (low_part_of (sum_of g h r s)) (count + k) (rw length-low_part (omega arith))

-- ---- the polynomials of a list

-- The first e polynomials of the list `target` are combined with those of `pivot` in the list `place`, which makes `known` of what was known
-- before.
pub record PartsBegun (g h : Polynomial) (target pivot : List ℤ) (before : Known) (place : List ℤ) (known : Known) (e : ℕ) : Type 0 where
  pub inside : e * coefficient_count ≤ length target
  pub place_is : place
      ≡ over_front (low_numbers (length target / coefficient_count) g h target pivot) target (e * coefficient_count)
  pub degrees : every is_low (take e (combinations (length target / coefficient_count) g h target pivot)) ≡ true
  pub known-is : known ≡ known_of (take (e * coefficient_count) (low_numbers (length target / coefficient_count) g h target pivot)) before

pub parts-start : (g h : Polynomial) (target pivot : List ℤ) (before : Known) → PartsBegun g h target pivot before target before 0
unfolding every content
parts-start g h target pivot before = record {
  inside = omega arith;
  place_is = refl;
  degrees = refl;
  known-is = sym (ap₂ (λ c w. record { content = c; within = w }) (zero-gcd before.content) (and-true before.within));
}

module _ {count : ℕ} {g h : Polynomial} {target pivot : List ℤ} (fits : PartsFit count g h target pivot) where
  abbrev n : ℕ
  n = length target / coefficient_count

  abbrev ps : List Polynomial
  ps = combinations n g h target pivot

  abbrev numbers : List ℤ
  numbers = low_numbers n g h target pivot

  numbers-long : length numbers ≡ length target
  numbers-long = length-low n g h target pivot ∙ sym fits.whole

  module _ {before : Known} {place : List ℤ} {known : Known} {e : ℕ} (begun : PartsBegun g h target pivot before place known e) where
    abbrev k : ℕ
    k = e * coefficient_count

    module _ (left : e < n) where
      room : k + coefficient_count ≤ length target
      room = omega (arith, fits.whole, left)

      some_left : e < length ps
      some_left = rw length-combinations left

      -- What is not combined yet is as it was.
      pub part-is : take coefficient_count (drop k place) ≡ coefficients_at_of target e
      part-is =
          ap (λ l. take coefficient_count (drop k l)) begun.place_is
          ∙ ap (take coefficient_count) (over-behind numbers target k (omega (arith, numbers-long, begun.inside)) k (le_of_eq refl))

      pub part-fits : PartFits g h (coefficients_at_of target e) (coefficients_at_of pivot e)
      part-fits = (
        (
          length-take-le coefficient_count (drop k target) (rw length-drop (omega (arith, room))),
          length-take-le coefficient_count (drop k pivot) (rw length-drop (omega (arith, room, fits.same))),
        ),
        (
          every-part small k coefficient_count target fits.target_small,
          every-part small k coefficient_count pivot fits.pivot-small,
          fits.multipliers.0,
          fits.multipliers.1,
        ),
      )

      abbrev sum-here : Polynomial
      sum-here = sum_of g h (coefficients_at_of target e) (coefficients_at_of pivot e)

      degree-is : is_low (get_or ps e []) ≡ is_low sum-here
      degree-is = ap is_low (combination-at n g h target pivot e left)

      low-part-is : low_part_of sum-here ≡ coefficients_at_of numbers e
      low-part-is = sym (low_part n g h target pivot e left)

      next-is : k + coefficient_count ≡ (e + 1) * coefficient_count
      next-is = omega arith

      taken_next : take ((e + 1) * coefficient_count) numbers ≡ take k numbers ++ coefficients_at_of numbers e
      taken_next = ap (λ m. take m numbers) (sym next-is) ∙ take-add k coefficient_count numbers

      module _ {part after : List ℤ} where
        pub parts_next : {more : Known} → PartMade sum-here known part after (Some more)
            → PartsBegun g h target pivot before (take k place ++ (after ++ drop coefficient_count (drop k place))) more (e + 1)
        parts_next {more} made = let passed = some-passed (is_low sum-here) made.value in record {
          inside = omega (arith, room);
          place_is =
              ap₂ (λ a b. a ++ (b ++ drop coefficient_count (drop k place))) front
              (made.store ∙ ap (λ u. cond u (low_part_of sum-here) part) passed.0 ∙ low-part-is)
              ∙ ap (λ b. take k numbers ++ (coefficients_at_of numbers e ++ b)) behind
              ∙ sym (append_assoc (take k numbers) (coefficients_at_of numbers e) (drop ((e + 1) * coefficient_count) target))
              ∙ ap (λ a. a ++ drop ((e + 1) * coefficient_count) target) (sym taken_next);
          degrees = every-longer is_low ps e [] some_left begun.degrees (degree-is ∙ passed.0);
          known-is =
              passed.1 ∙ ap₂ known_of low-part-is begun.known-is ∙ known-twice (take k numbers) (coefficients_at_of numbers e) before
              ∙ ap (λ l. known_of l before) (sym taken_next);
        }
          where
            front : take k place ≡ take k numbers
            front =
                ap (take k) begun.place_is
                ∙ take_at (take k numbers) (drop k target) k (length-take-le k numbers (omega (arith, numbers-long, begun.inside)))

            behind : drop coefficient_count (drop k place) ≡ drop ((e + 1) * coefficient_count) target
            behind =
                drop-drop coefficient_count k place ∙ ap (λ l. drop (k + coefficient_count) l) begun.place_is
                ∙ over-behind numbers target k (omega (arith, numbers-long, begun.inside)) (k + coefficient_count) (omega arith)
                ∙ ap (λ m. drop m target) next-is

        pub parts-beyond : PartMade sum-here known part after None → {l : List ℤ} → PartsMade ps before l None
        parts-beyond made =
            let past : every is_low ps ≡ false =
            every-false is_low ps e [] some_left (degree-is ∙ none-failed (is_low sum-here) _ made.value) in record {
              value = sym (ap (λ t. cond t (Some (known_of numbers before)) None) past);
              store = λ low. absurd (true≢false (sym low ∙ past));
            }

  -- Behind the first `count` nothing has to be done.
  parts-skip : {before : Known} {place : List ℤ} {known : Known} (j e : ℕ) → j + e ≡ n → count ≤ e
      → PartsBegun g h target pivot before place known e → PartsBegun g h target pivot before place known n
  parts-skip {before} {place} {known} zero e s c begun = subst (PartsBegun g h target pivot before place known) (omega arith) begun
  parts-skip {before} {place} {known} (suc j) e s c begun = parts-skip j (e + 1) (omega arith) (omega arith) next
    where
      left : e < n
      left = omega arith

      made : PartMade (sum_of g h (coefficients_at_of target e) (coefficients_at_of pivot e)) known (coefficients_at_of target e)
          (coefficients_at_of target e) (Some known)
      made =
          zero-made g h (coefficients_at_of target e) (coefficients_at_of pivot e) (part-fits begun left)
          (true_of _ ((T-&& (is_zero_of (coefficients_at_of target e)) (is_zero_of (coefficients_at_of pivot e))).1
          (part-zero target count e c fits.target-rest, part-zero pivot count e c fits.pivot-rest))) known

      same : take (e * coefficient_count) place ++ (coefficients_at_of target e ++ drop coefficient_count (drop (e * coefficient_count) place)) ≡ place
      same =
          ap (λ p. take (e * coefficient_count) place ++ (p ++ drop coefficient_count (drop (e * coefficient_count) place)))
          (sym (part-is begun left))
          ∙ ap (λ r. take (e * coefficient_count) place ++ r) (take-append-drop coefficient_count (drop (e * coefficient_count) place))
          ∙ take-append-drop (e * coefficient_count) place

      next : PartsBegun g h target pivot before place known (e + 1)
      next = subst (λ l. PartsBegun g h target pivot before l known (e + 1)) same (parts_next begun left made)

  pub parts-end : {before : Known} {place : List ℤ} {known : Known} {e : ℕ} → PartsBegun g h target pivot before place known e
      → count ≤ e → e ≤ n → PartsMade ps before place (Some known)
  parts-end {before} {place} {known} {e} begun c inside =
      let all = parts-skip (n - e) e (omega arith) c begun in
      let whole = take_all (n * coefficient_count) numbers (omega (arith, numbers-long, fits.whole)) in
      let low : every is_low ps ≡ true =
      ap (every is_low) (sym (take_all n ps (le_of_eq (length-combinations n g h target pivot)))) ∙ all.degrees in record {
        value =
            ap Some (all.known-is ∙ ap (λ l. known_of l before) whole) ∙ sym (ap (λ t. cond t (Some (known_of numbers before)) None) low);
        store = λ _. all.place_is ∙ ap₂ ◌++◌ whole (none (omega (arith, fits.whole))) ∙ append-nil numbers;
      }
    where
      none : length target ≤ n * coefficient_count → drop (n * coefficient_count) target ≡ []
      none b = drop_of_length-le target b

-- Polynomials that are combined by shortened multipliers.
pub shortened-made : (a g b h : Polynomial) → Shortened a g → Shortened b h → (n : ℕ) (target pivot : List ℤ)
    → {before : Known} {after : List ℤ} {r : Option Known}
    → PartsMade (combinations n a b target pivot) before after r → PartsMade (combinations n g h target pivot) before after r
shortened-made a g b h x y n target pivot {before} made =
    let same = shortened-combinations a g b h x y n target pivot in record {
      value = made.value ∙ ap₂ (λ t m. cond t (Some (known_of (flatten m) before)) None) same.0 same.1;
      store = λ low. made.store (same.0 ∙ low) ∙ ap flatten same.1;
    }
