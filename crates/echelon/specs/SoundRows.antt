-- What the elimination makes of rows within ±C: settled rows within ±C, their columns below n, no more of them than columns.
--
-- Main definitions
--   judged t q           a row that is within ±C or passes it
--   Sound n ps           settled rows of n numbers that can be substituted back, within ±C, their columns below n
-- Main statements
--   reduce_by-small, reduce_all-small   a row behind one settled row, and behind all of them, is within ±C
--   first_below          the first column with a nonzero entry lies within the row
--   sound-few            the settled rows have different columns, so there are no more than n
--   sound-pivot          what is known of one settled row
--   sound_none, sound-settle, eliminate-sound   no row, one row more, and all rows
use Rattle.std.specs.Prelude.{ℕ, zero, suc, ◌≤◌, ◌<◌, ◌≡◌, refl, ◌≢◌, Bool, true, false, cond, List, [], ◌∷◌, map, T, length, drop, ℤ, pos}
use Rattle.std.proofs.Common.{◌∙◌, ap, subst, arith}
use Rattle.std.proofs.Math.Option
use Rattle.std.proofs.Math.Option.{Option, none, some}
use Rattle.std.proofs.lemmas.List.{length-map}
use Rattle.algebra.specs.Pigeonhole.{Distinct, distinct-length}
use Rattle.algebra.specs.Polynomials.{is_zero_ℤ}
use Rattle.lists.specs.Everywhere.{All, all-member, all_drop, map-all, append-all}
use Rattle.lists.specs.Tests.{every, T-&&}
use Rattle.rules.specs.Limits.{small}
use Rattle.constant_rows.specs.Constants.{Judged, fine, passed, and_on}
use Rattle.echelon.specs.Eliminated.{Pivot, at, pivot_of, the_factors_of, combined, whole, limited, reduce_by_of, reduce_all_of, first_at}
use Rattle.echelon.specs.Eliminated.{settle_at, eliminate}
use Rattle.echelon.specs.KernelKept.{and_on-fine, limited-fine, reduce_all-reduced, Echelon, eliminate-settled}

abbrev pub judged : Bool → List ℤ → Judged (List ℤ)
judged t q = cond t (fine q) (passed 8)

-- ---- the numbers

pub reduce_by-small : (p : Pivot) (r q : List ℤ) → T (every small r) → reduce_by_of p r ≡ fine q → T (every small q)
unfolding reduce_by_of
reduce_by-small p r q h e = cases (is_zero_ℤ (at r p.column)) e
  where
    new : List ℤ
    new = whole (combined (the_factors_of (pivot_of p) (at r p.column)) r p.numbers)

    cases : (t : Bool) → cond t (fine r) (limited new) ≡ fine q → T (every small q)
    cases true s = let same : r ≡ q = cc in subst (λ l. T (every small l)) same h
    cases false s = let made = limited-fine new q s in subst (λ l. T (every small l)) made.0 made.1

pub reduce_all-small : (ps : List Pivot) (r q : List ℤ) → T (every small r) → reduce_all_of ps r ≡ fine q → T (every small q)
unfolding reduce_all_of
reduce_all-small [] r q h e = let same : r ≡ q = cc in subst (λ l. T (every small l)) same h
reduce_all-small (p ∷ ps) r q h e =
    let (one, first, rest) = and_on-fine (reduce_by_of p r) (reduce_all_of ps) q e in
    reduce_all-small ps one q (reduce_by-small p r one h first) rest

-- ---- the columns

pub first_below : (r : List ℤ) (c : ℕ) → first_at r ≡ some c → c < length r
unfolding first_at
first_below [] c e = let z : ◌≡◌ {A = ℕ} 0 1 = cc in absurd (omega arith)
first_below (a ∷ r) c e = cases (is_zero_ℤ a) (first_at r) (first_below r) e
  where
    cases : (t : Bool) (o : Option ℕ) → ((k : ℕ) → o ≡ some k → k < length r) → cond t (Option.map suc o) (some 0) ≡ some c
        → c < suc (length r)
    cases true none f s = let z : ◌≡◌ {A = ℕ} 0 1 = cc in absurd (omega arith)
    cases true (some k) f s = let same : suc k ≡ c = cc in omega (arith, f k refl)
    cases false o f s = let same : 0 ≡ c = cc in omega arith

-- ---- the settled rows

pub record Sound (n : ℕ) (ps : List Pivot) : Type 0 where
  pub echelon : Echelon n ps
  pub numbers : All (λ p. T (every small p.numbers)) ps
  pub columns : All (λ p. p.column < n) ps

-- A row that is zero at a column is not settled there.
other-columns : (n : ℕ) (ps : List Pivot) → Echelon n ps → (c : ℕ) → All (λ q. at q.numbers c ≡ pos 0) ps
    → All (λ q. q.column ≢ c) ps
unfolding Echelon All pivot_of
other-columns n [] t c z = tt
other-columns n (q ∷ ps) t c z =
    (λ e. t.1 (ap (at q.numbers) e ∙ z.0), other-columns n ps t.3 c z.1)

different : (n : ℕ) (ps : List Pivot) → Echelon n ps → Distinct (map (λ p. p.column) ps)
unfolding Echelon
different n [] t = tt
different n (p ∷ ps) t = (
  λ m. all-member (λ c. c ≢ p.column) (map (λ q. q.column) ps) m
      (map-all (λ c. c ≢ p.column) (λ q. q.column) ps (other-columns n ps t.3 p.column t.2)) refl,
  different n ps t.3,
)

pub sound-few : (n : ℕ) (ps : List Pivot) → Sound n ps → length ps ≤ n
sound-few n ps s =
    let columns : List ℕ = map (λ p. p.column) ps in
    subst (λ k. k ≤ n) (length-map ps (λ p. p.column))
    (distinct-length n columns (different n ps s.echelon)
    (λ c m. all-member (λ k. k < n) columns m (map-all (λ k. k < n) (λ p. p.column) ps s.columns)))

pub sound_none : (n : ℕ) → Sound n []
unfolding Echelon All
sound_none n = record { echelon = tt; numbers = tt; columns = tt }

echelon-drop : (n k : ℕ) (ps : List Pivot) → Echelon n ps → Echelon n (drop k ps)
unfolding Echelon
echelon-drop n zero ps t = t
echelon-drop n (suc k) [] t = tt
echelon-drop n (suc k) (p ∷ ps) t = echelon-drop n k ps t.3

-- One of the settled rows.
pub sound-pivot : (n : ℕ) (ps : List Pivot) → Sound n ps → (k : ℕ) (p : Pivot) (rest : List Pivot) → drop k ps ≡ p ∷ rest
    → (length p.numbers ≡ n) × (pivot_of p ≢ pos 0) × T (every small p.numbers) × (p.column < n)
unfolding Echelon All
sound-pivot n ps s k p rest e =
    let echelon = subst (Echelon n) e (echelon-drop n k ps s.echelon) in
    let numbers = subst (All (λ q. T (every small q.numbers))) e (all_drop (λ q. T (every small q.numbers)) k ps s.numbers) in
    let columns = subst (All (λ q. q.column < n)) e (all_drop (λ q. q.column < n) k ps s.columns) in
    (echelon.0, echelon.1, numbers.0, columns.0)

-- A row that is reduced joins the settled rows, or it is zero and dropped.
pub sound-settle : (n : ℕ) (ps : List Pivot) → Sound n ps → (r q : List ℤ) → length r ≡ n → T (every small r) → reduce_all_of ps r ≡ fine q
    → Sound n (settle_at ps q (first_at q))
unfolding All eliminate settle_at
sound-settle n ps s r q long h e =
    cases (first_at q) refl
  where
    reduced : length q ≡ n
    reduced = (reduce_all-reduced n ps s.echelon r long q e).length-kept

    steps : eliminate ps (r ∷ []) ≡ fine (settle_at ps q (first_at q))
    steps = ap (λ o. and_on o (λ l. fine (settle_at ps l (first_at l)))) e

    echelon : Echelon n (settle_at ps q (first_at q))
    echelon = (eliminate-settled n (r ∷ []) ps s.echelon (long, tt) (settle_at ps q (first_at q)) steps).echelon

    cases : (o : Option ℕ) → first_at q ≡ o → Sound n (settle_at ps q (first_at q))
    cases none f =
        record { echelon = echelon; numbers = rw f s.numbers; columns = rw f s.columns }
    cases (some c) f =
        let new : Pivot = record { numbers = q; column = c } in
        record {
          echelon = echelon;
          numbers = rw f (append-all (λ p. T (every small p.numbers)) ps (new ∷ []) s.numbers (reduce_all-small ps r q h e, tt));
          columns = rw f (append-all (λ p. p.column < n) ps (new ∷ []) s.columns (omega (arith, first_below q c f, reduced), tt));
        }

pub eliminate-sound : (n : ℕ) (rows : List (List ℤ)) (ps : List Pivot) → Sound n ps → All (λ r. length r ≡ n) rows
    → T (every (every small) rows) → (qs : List Pivot) → eliminate ps rows ≡ fine qs → Sound n qs
unfolding eliminate All every
eliminate-sound n [] ps s long h qs e = let same : ps ≡ qs = cc in subst (Sound n) same s
eliminate-sound n (r ∷ rows) ps s long h qs e =
    let (q, first, rest) = and_on-fine (reduce_all_of ps r) (λ q. eliminate (settle_at ps q (first_at q)) rows) qs e in
    let both = (T-&& (every small r) (every (every small) rows)).0 h in
    eliminate-sound n rows (settle_at ps q (first_at q)) (sound-settle n ps s r q long.0 both.0 first) long.1 both.1 qs rest
