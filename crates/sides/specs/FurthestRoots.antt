-- The furthest root of several polynomials, with how often it occurs in them all together.
--
-- Main definitions
--   further_of side x y     the further of two roots, each of which may be missing
--   is_beyond_of side a b      is b taken of the roots a and b?
--   Nonzero ps             no polynomial of ps is zero
--   times_in ps o           how often the root o occurs in the polynomials ps, all together; 0 where it is missing
--   furthest_with_of side ps   the furthest root of all roots of ps, with its times
--   answer o n             a root or none, as the code gives it, with n as its times; times_of a the times of an answer, 0 where there is no root
--   of_both side a b       the further of two roots; where they are the same their times add up
--   further_with side a b   the same of two answers
--
-- Main statements
--   both-same, second-further, first-further   which of two roots is further, by the tests that tell it
--   furthest-append        the furthest of two lists is the further of their furthest
--   no-times               what is no root of any of them occurs not at all
--   further-with           the answer for two lists of nonzero polynomials together
--   further-one-more       and for one polynomial more
--   further-times          its times are at most those of both
use Rattle.std.specs.Prelude.{ℕ, ◌+◌, ◌≤◌, ◌≡◌, ◌≢◌, Bool, not, T, ℤ, ◌-ℤ◌, length, ◌≤ℤ◌}
use Rattle.std.proofs.Common.{zero-le, eq-zero-or-pos, arith, sym, ◌∙◌, subst, ⊎_elim, true≢false}
use Rattle.std.proofs.Math.Path.{refl, ap}
use Rattle.std.proofs.Math.Bool.{true, false, cond, not-not}
use mathlib.Core.List.Memᴰ
use mathlib.Core.List.{List, [], ◌∷◌, ◌++◌, map, flatten, append-nil, map-append, Memᴰ}
use Rattle.std.proofs.Math.Option.{Option, none, some}
use Rattle.std.specs.Prelude as Prelude
use Rattle.std.specs.Prelude.{None, Some}
use Rattle.std.proofs.Math.IntN.{+ℤ_invr}
use Rattle.std.specs.Int.Signed.{le_z, le_z_yes}
use Rattle.lists.specs.Everywhere.{All}
use Rattle.lists.specs.Joined.{flatten-append, flat-member}
use Rattle.lists.specs.Tests.{same_test, true_of, false_of, true-T}
use Rattle.lists.specs.Totals.{total}
use Rattle.algebra.specs.Integers.{ -ℤ-zero}
use Rattle.algebra.specs.Order.{≤ℤ-trans, ≤ℤ-antisym, ≤ℤ-total}
use Rattle.algebra.specs.Polynomials.{Polynomial, is_zero_of, is_zero_ℤ, is_zero_ℤ-iff}
use Rattle.algebra.specs.Multiplicity.{multiplicity, multiplicity-root}
use Rattle.algebra.specs.Roots.{roots, roots-complete, place}
use Rattle.rules.specs.Elimination.{Side, leading, trailing, further, furthest}
use Rattle.theory.specs.Report.{NoFurther, furthest-none, furthest-some}
use Rattle.multiplicities.specs.declared.Root.{Root}
use Rattle.multiplicities.specs.Counts.{root_of, answered_with}
use Rattle.multiplicities.specs.Divisions.{multiplicity-most}

-- ---- the furthest of two lists

unfoldable pub further_of : Side → Option ℤ → Option ℤ → Option ℤ
unfolding further
further_of side none o = o
further_of side (some a) o = some (further side a o)

-- Is b taken of the two, as the larger or, on the trailing side, the smaller?
unfoldable pub is_beyond_of : Side → ℤ → ℤ → Bool
is_beyond_of leading a b = le_z a b
is_beyond_of trailing a b = not (le_z a b)

further-one : (side : Side) (a b : ℤ) → further side a (some b) ≡ cond (is_beyond_of side a b) b a
unfolding further is_beyond_of
further-one leading a b = refl
further-one trailing a b = turned (le_z a b)
  where
    turned : (t : Bool) → cond t a b ≡ cond (not t) b a
    turned true = refl
    turned false = refl

passed : (a b : ℤ) → le_z a b ≡ true → a ≤ℤ b
passed a b h = le_z_yes (subst T (sym h) tt)

failed : (a b : ℤ) → le_z a b ≡ false → a ≤ℤ b → ⊥
failed a b h k = subst T h k.le

le_z-trans : (t : Bool) (a b c : ℤ) → le_z a b ≡ t → le_z b c ≡ t → le_z a c ≡ t
le_z-trans true a b c h g = same_test (le_z a c) true (λ _. tt) (λ _. (≤ℤ-trans (passed a b h) (passed b c g)).le)
le_z-trans false a b c h g = same_test (le_z a c) false (λ t. failed a b h (≤ℤ-trans (le_z_yes t) below)) (λ t. absurd t)
  where
    below : c ≤ℤ b
    below = ⊎_elim (λ k. absurd (failed b c g k)) (λ k. k) (≤ℤ-total b c)

is_beyond-trans : (side : Side) (t : Bool) (a b c : ℤ) → is_beyond_of side a b ≡ t → is_beyond_of side b c ≡ t → is_beyond_of side a c ≡ t
unfolding is_beyond_of
is_beyond-trans leading t a b c h g = le_z-trans t a b c h g
is_beyond-trans trailing t a b c h g = turned (le_z a c) (le_z-trans (not t) a b c (back (le_z a b) h) (back (le_z b c) g))
  where
    back : (s : Bool) → not s ≡ t → s ≡ not t
    back s e = sym (not-not s) ∙ ap not e

    turned : (s : Bool) → s ≡ not t → not s ≡ t
    turned s e = ap not e ∙ not-not t

further-assoc : (side : Side) (a : ℤ) (x y : Option ℤ) → further side a (further_of side x y) ≡ further side (further side a x) y
unfolding further further_of
further-assoc side a none y = refl
further-assoc side a (some b) none = refl
further-assoc side a (some b) (some c) =
    further-one side a (further side b (some c)) ∙ ap (λ z. cond (is_beyond_of side a z) z a) (further-one side b c)
    ∙ cases (is_beyond_of side a b) (is_beyond_of side b c) refl refl
    ∙ sym (further-one side (further side a (some b)) c ∙ ap (λ z. cond (is_beyond_of side z c) c z) (further-one side a b))
  where
    cases : (s t : Bool) → is_beyond_of side a b ≡ s → is_beyond_of side b c ≡ t
        → cond (is_beyond_of side a (cond t c b)) (cond t c b) a ≡ cond (is_beyond_of side (cond s b a) c) c (cond s b a)
    cases true true p q = ap (λ u. cond u c a) (is_beyond-trans side true a b c p q) ∙ sym (ap (λ u. cond u c b) q)
    cases true false p q = ap (λ u. cond u b a) p ∙ sym (ap (λ u. cond u c b) q)
    cases false true p q = refl
    cases false false p q = ap (λ u. cond u b a) p ∙ sym (ap (λ u. cond u c a) (is_beyond-trans side false a b c p q))

pub furthest-append : (side : Side) (l m : List ℤ) → furthest side (l ++ m) ≡ further_of side (furthest side l) (furthest side m)
unfolding furthest further_of
furthest-append side [] m = refl
furthest-append side (a ∷ l) m =
    ap (λ o. some (further side a o)) (furthest-append side l m) ∙ ap some (further-assoc side a (furthest side l) (furthest side m))

-- Where b is taken it is no less far than a, and otherwise no further.
beyond-yes : (side : Side) (a b : ℤ) → is_beyond_of side a b ≡ true → NoFurther side a b
unfolding is_beyond_of
beyond-yes leading a b h = passed a b h
beyond-yes trailing a b h =
    ⊎_elim (λ k. absurd (failed a b (sym (not-not (le_z a b)) ∙ ap not h) k)) (λ k. k) (≤ℤ-total a b)

beyond-no : (side : Side) (a b : ℤ) → is_beyond_of side a b ≡ false → NoFurther side b a
unfolding is_beyond_of
beyond-no leading a b h = ⊎_elim (λ k. absurd (failed a b h k)) (λ k. k) (≤ℤ-total a b)
beyond-no trailing a b h = passed a b (sym (not-not (le_z a b)) ∙ ap not h)

NoFurther-antisym : (side : Side) (a b : ℤ) → NoFurther side a b → NoFurther side b a → a ≡ b
NoFurther-antisym leading a b h k = ≤ℤ-antisym h k
NoFurther-antisym trailing a b h k = ≤ℤ-antisym k h

-- ---- multiplicities

abbrev pub Nonzero : List Polynomial → Type 0
Nonzero ps = All (λ p. T (not (is_zero_of p))) ps

abbrev pub times_of : Prelude.Option Root → ℕ
times_of None = 0
times_of (Some r) = r.times

pub answered-most : (p : Polynomial) (o : Option ℤ) → times_of (answered_with p o) ≤ length p
answered-most p none = zero-le
answered-most p (some r) = multiplicity-most p r

-- All their roots.
abbrev pub roots_of : List Polynomial → List ℤ
roots_of ps = flatten (map roots ps)

unfoldable pub times_in : List Polynomial → Option ℤ → ℕ
unfolding total multiplicity
times_in ps none = 0
times_in ps (some r) = total (map (λ p. multiplicity p r) ps)

times-append : (ps qs : List Polynomial) (r : ℤ) → times_in (ps ++ qs) (some r) ≡ times_in ps (some r) + times_in qs (some r)
unfolding times_in total
times-append [] qs r = let e : times_in qs (some r) ≡ 0 + times_in qs (some r) = omega arith in e
times-append (p ∷ ps) qs r =
    let e : multiplicity p r + times_in (ps ++ qs) (some r) ≡ multiplicity p r + times_in ps (some r) + times_in qs (some r) =
    omega (arith, times-append ps qs r) in e

pub no-times : (ps : List Polynomial) → Nonzero ps → (r : ℤ) → (Memᴰ r (roots_of ps) → ⊥) → times_in ps (some r) ≡ 0
unfolding times_in total All flatten
no-times [] n r h = refl
no-times (p ∷ ps) n r h =
    let e : multiplicity p r + times_in ps (some r) ≡ 0 = omega (arith, first, no-times ps n.1 r rest) in e
  where
    first : multiplicity p r ≡ 0
    first = ⊎_elim (λ e. e) (λ k. absurd (h (flat-member roots (p ∷ ps) (Memᴰ.head refl)
        (place (roots p) (roots-complete p r n.0 ((multiplicity-root p r n.0).1 k)))))) (eq-zero-or-pos (multiplicity p r))

    rest : Memᴰ r (roots_of ps) → ⊥
    rest m = h (Memᴰ.append_right (roots p) m)

-- ---- answers

abbrev pub answer : Option ℤ → ℕ → Prelude.Option Root
answer none n = None
answer (some r) n = Some (root_of (r, n))

abbrev pub furthest_with_of : Side → List Polynomial → Prelude.Option Root
furthest_with_of side ps = answer (furthest side (roots_of ps)) (times_in ps (furthest side (roots_of ps)))

unfoldable pub same_root : ℤ → ℤ → Bool
unfolding is_zero_ℤ
same_root a b = is_zero_ℤ (a -ℤ b)

pub same-root : (a b : ℤ) → a ≡ b → same_root a b ≡ true
unfolding same_root
same-root a b e = true_of (is_zero_ℤ (a -ℤ b)) ((is_zero_ℤ-iff (a -ℤ b)).1 (ap (λ x. x -ℤ b) e ∙ +ℤ_invr b))

pub other-root : (a b : ℤ) → a ≢ b → same_root a b ≡ false
unfolding same_root
other-root a b n = false_of (is_zero_ℤ (a -ℤ b)) (λ t. n (-ℤ-zero a b ((is_zero_ℤ-iff (a -ℤ b)).0 t)))

same_of : (a b : ℤ) → same_root a b ≡ true → a ≡ b
unfolding same_root
same_of a b t = -ℤ-zero a b ((is_zero_ℤ-iff (a -ℤ b)).0 (true-T (is_zero_ℤ (a -ℤ b)) t))

apart_of : (a b : ℤ) → same_root a b ≡ false → a ≢ b
apart_of a b t e = true≢false (sym (same-root a b e) ∙ t)

no_member : {l : List ℤ} {r : ℤ} → l ≡ [] → Memᴰ r l → ⊥
no_member e k = Memᴰ.not-nil (rw e at k)

-- Both have the same root.
abbrev pub together : Root → Root → Root
together a b = record { value = a.value; times = a.times + b.times }

-- Of two roots.
unfoldable pub of_both : Side → Root → Root → Root
unfolding is_beyond_of same_root
of_both side a b = cond (same_root a.value b.value) (together a b) (cond (is_beyond_of side a.value b.value) b a)

abbrev pub further_with : Side → Prelude.Option Root → Prelude.Option Root → Prelude.Option Root
further_with side None o = o
further_with side (Some a) None = Some a
further_with side (Some a) (Some b) = Some (of_both side a b)

-- By the tests that tell it.
module _ (side : Side) (a b : Root) where
  pub both-same : a.value ≡ b.value → together a b ≡ of_both side a b
  unfolding of_both
  both-same h = ap (λ t. cond t (together a b) (cond (is_beyond_of side a.value b.value) b a)) (sym (same-root a.value b.value h))

  apart : a.value ≢ b.value → cond (is_beyond_of side a.value b.value) b a ≡ of_both side a b
  unfolding of_both
  apart n = ap (λ t. cond t (together a b) (cond (is_beyond_of side a.value b.value) b a)) (sym (other-root a.value b.value n))

  pub second-further : a.value ≢ b.value → is_beyond_of side a.value b.value ≡ true → b ≡ of_both side a b
  second-further n t = ap (λ u. cond u b a) (sym t) ∙ apart n

  pub first-further : a.value ≢ b.value → is_beyond_of side a.value b.value ≡ false → a ≡ of_both side a b
  first-further n t = ap (λ u. cond u b a) (sym t) ∙ apart n

  of_both-times : (of_both side a b).times ≤ a.times + b.times
  unfolding of_both
  of_both-times = cases (same_root a.value b.value) (is_beyond_of side a.value b.value)
    where
      cases : (u v : Bool) → (cond u (together a b) (cond v b a)).times ≤ a.times + b.times
      cases true v = omega arith
      cases false true = omega arith
      cases false false = omega arith

pub further-times : (side : Side) (a b : Prelude.Option Root) → times_of (further_with side a b) ≤ times_of a + times_of b
further-times side None b = omega arith
further-times side (Some a) None = omega arith
further-times side (Some a) (Some b) = of_both-times side a b

module _ (side : Side) (ps qs : List Polynomial) (m : Nonzero ps) (n : Nonzero qs) where
  both : (r : ℤ) → times_in (ps ++ qs) (some r) ≡ times_in ps (some r) + times_in qs (some r)
  both = times-append ps qs

  -- An integer that is no less far than the furthest root of ps, and another, is no root of them.
  none_before : {a : ℤ} (r : ℤ) → furthest side (roots_of ps) ≡ some a → a ≢ r → NoFurther side a r → times_in ps (some r) ≡ 0
  none_before {a} r e apart h =
      no-times ps m r (λ k. apart (NoFurther-antisym side a r h ((furthest-some side (roots_of ps) e).1 r k)))

  none-behind : {b : ℤ} (r : ℤ) → furthest side (roots_of qs) ≡ some b → b ≢ r → NoFurther side b r → times_in qs (some r) ≡ 0
  none-behind {b} r e apart h =
      no-times qs n r (λ k. apart (NoFurther-antisym side b r h ((furthest-some side (roots_of qs) e).1 r k)))

  -- Where both have a root.
  module _ (a b : ℤ) (e : furthest side (roots_of ps) ≡ some a) (f : furthest side (roots_of qs) ≡ some b) where
    abbrev first : Root
    first = root_of (a, times_in ps (some a))

    abbrev second : Root
    second = root_of (b, times_in qs (some b))

    abbrev all : ℤ → Root
    all r = root_of (r, times_in (ps ++ qs) (some r))

    by_tests : (s t : Bool) → same_root a b ≡ s → is_beyond_of side a b ≡ t
        → cond s (together first second) (cond t second first) ≡ all (cond t b a)
    by_tests true true s t =
        ap (λ r. root_of (r, times_in ps (some r) + times_in qs (some b))) (same_of a b s)
        ∙ ap (λ n. root_of (b, n)) (sym (both b))
    by_tests true false s t =
        ap (λ r. root_of (a, times_in ps (some a) + times_in qs (some r))) (sym (same_of a b s))
        ∙ ap (λ n. root_of (a, n)) (sym (both a))
    by_tests false true s t =
        ap (λ n. root_of (b, n)) (omega (arith, both b, none_before b e (apart_of a b s) (beyond-yes side a b t)))
    by_tests false false s t =
        ap (λ n. root_of (a, n)) (omega (arith, both a, none-behind a f (λ h. apart_of a b s (sym h)) (beyond-no side a b t)))

    of_two : of_both side first second ≡ all (further side a (some b))
    unfolding of_both
    of_two = by_tests (same_root a b) (is_beyond_of side a b) refl refl ∙ ap all (sym (further-one side a b))

  -- The answers for both lists give that for all.
  with_cases : (o u : Option ℤ) → furthest side (roots_of ps) ≡ o → furthest side (roots_of qs) ≡ u
      → further_with side (answer o (times_in ps o)) (answer u (times_in qs u))
      ≡ answer (further_of side o u) (times_in (ps ++ qs) (further_of side o u))
  unfolding further_of further times_in
  with_cases none none e f = refl
  with_cases none (some b) e f =
      ap (answer (some b)) (omega (arith, both b, no-times ps m b (no_member ((furthest-none side (roots_of ps)).0 e))))
  with_cases (some a) none e f =
      ap (answer (some a)) (omega (arith, both a, no-times qs n a (no_member ((furthest-none side (roots_of qs)).0 f))))
  with_cases (some a) (some b) e f = ap Some (of_two a b e f)

  pub further-with : further_with side (furthest_with_of side ps) (furthest_with_of side qs) ≡ furthest_with_of side (ps ++ qs)
  further-with =
      with_cases (furthest side (roots_of ps)) (furthest side (roots_of qs)) refl refl
      ∙ ap (λ o. answer o (times_in (ps ++ qs) o)) (sym joined)
    where
      joined : furthest side (roots_of (ps ++ qs)) ≡ further_of side (furthest side (roots_of ps)) (furthest side (roots_of qs))
      joined =
          ap (λ l. furthest side (flatten l)) (map-append roots ps qs)
          ∙ ap (furthest side) (flatten-append (map roots ps) (map roots qs))
          ∙ furthest-append side (roots_of ps) (roots_of qs)

-- Of one polynomial.
furthest-single : (side : Side) (p : Polynomial) → answered_with p (furthest side (roots p)) ≡ furthest_with_of side (p ∷ [])
unfolding flatten times_in total
furthest-single side p =
    single (furthest side (roots p))
    ∙ ap (λ l. answer (furthest side l) (times_in (p ∷ []) (furthest side l))) (sym (append-nil (roots p)))
  where
    single : (o : Option ℤ) → answered_with p o ≡ answer o (times_in (p ∷ []) o)
    single none = refl
    single (some r) = let e : multiplicity p r ≡ multiplicity p r + 0 = omega arith in ap (answer (some r)) e

pub further-one-more : (side : Side) (ps : List Polynomial) (p : Polynomial) → Nonzero ps → T (not (is_zero_of p))
    → further_with side (furthest_with_of side ps) (answered_with p (furthest side (roots p))) ≡ furthest_with_of side (ps ++ (p ∷ []))
unfolding All
further-one-more side ps p m n =
    ap (further_with side (furthest_with_of side ps)) (furthest-single side p) ∙ further-with side ps (p ∷ []) m (n, tt)
