-- How often the roots of two polynomials occur while both are divided, and how many divisions there are.
--
-- Main definitions
--   made_at k r e          how many divisions by n - r there are of the entries e, at most k
--   Lessened r n p q      q is p divided n times by n - r: r occurs n times less often, and any other integer as often
--
-- Main statements
--   made_at-none, made_at-both   nothing is divided where one of both does not divide, and once more where both do
--   divide_at-lessened     the division by n - r lessens how often r occurs in the pivot's entry
--   divide_at-fewer        it makes no integer occur more often in the target's entry
--   divide_at-least        there are no more divisions by n - r than r occurs in the one of both that has it less often
--   divide_each-common     at a root of the pivot's entry alone nothing is divided
--   listed-at, listed-less   one of the roots with how often it occurs, and all of them after divisions at one
--   counts-less           the same of how often each occurs alone
use Prim.Native.Nat.{ℕ, zero, suc, min, ◌+◌, ◌-◌, ◌≤◌, ◌<◌}
use Rattle.std.specs.Prelude.{◌≡◌, ◌≢◌, Bool, not, ◌&&◌, T, ltb, ℤ, pos, nat_abs, ◌-ℤ◌, ◌*ℤ◌, length, get_or, set, replicate, ◌<ℤ◌}
use Rattle.std.proofs.Math.Path.{refl, sym, ap}
use Rattle.std.proofs.Common.{◌∙◌, ap₂, subst, le_trans, le_of_eq, not-suc-le-zero, le_of_suc-le-suc, arith, T_not, le→leb}
use Rattle.std.proofs.Math.Logic.{by_cases}
use Rattle.std.proofs.Math.Bool.{true, false, cond, and-false}
use mathlib.Core.List.Pairwise
use mathlib.Core.List.{List, [], ◌∷◌, ◌++◌, map, map-map, map_congr_left, rel_of_Pairwise-cons}
use Rattle.std.proofs.Math.Decide.{dec_le}
use Rattle.std.proofs.Math.Dec.{not_T}
use Rattle.std.proofs.Math.IntN.{*ℤ-zero}
use Rattle.std.proofs.Math.ListN.{get_or-append}
use Rattle.std.proofs.lemmas.List.{length-map, set-append_left}
use Rattle.std.specs.Int.Signed.{<ℤ_irrefl}
use Rattle.algebra.specs.Integers.{ringℤ, -ℤ-zero}
use Rattle.algebra.specs.Polynomials.{Polynomial, eval, is_zero_of, is_zero_ℤ-iff, is_zero-cons, quotient, mul, eval_mul, eval-is_zero}
use Rattle.algebra.specs.Vanishing.{factor-root, quotient-nonzero, quotient-length}
use Rattle.algebra.specs.Multiplicity.{Occurs, divisions, multiplicity, linear, linear-nonzero, eval-linear, power, power_zero, power-suc}
use Rattle.algebra.specs.Multiplicity.{occurs-mul, occurs-same, occurs-none, multiplicity-occurs, occurs-unique}
use Rattle.lists.specs.Images.{get_or_map}
use Rattle.lists.specs.Places.{get_or-member}
use Rattle.lists.specs.Sifted.{keep}
use Rattle.lists.specs.Tests.{every, true_of, false_of, true-T, both_true, dec-T}
use Rattle.rules.specs.Limits.{small, coefficient_count}
use Rattle.rules.specs.CommonRoots.{Entries, divide_at, divide_each, divisible, quotients}
use Rattle.roots.specs.Ascending.{Ascending, first_below}
use Rattle.multiplicities.specs.declared.Root.{Root}
use Rattle.multiplicities.specs.declared.RootsWith.{RootsWith}
use Rattle.multiplicities.specs.Counts.{root_of, no_root, listed_with, times_in, length-times, counts, root-at}
use Rattle.multiplicities.specs.Divisions.{divisions-none, divisions-more, multiplicity-most}
use Rattle.common_roots.specs.Divisions.{vanishes_at, divides, divisible-both, divide_at-none}

unfoldable pub made_at : ℕ → ℤ → Entries → ℕ
unfolding divisible quotients
made_at zero r e = 0
made_at (suc k) r e =
    let more = suc (made_at k r (quotients r e)) in
    cond (divisible r e) more 0

pub made_at-none : (k : ℕ) (r : ℤ) (e : Entries) → (divides r e.pivot && divides r e.target) ≡ false → made_at k r e ≡ 0
unfolding made_at
made_at-none zero r e t = refl
made_at-none (suc k) r e t = ap (λ b. cond b (suc (made_at k r (quotients r e))) 0) (divisible-both r e ∙ t)

pub made_at-both : (k : ℕ) (r : ℤ) (e : Entries) → 0 < k → divides r e.pivot ≡ true → divides r e.target ≡ true
    → made_at k r e ≡ suc (made_at (k - 1) r (record { pivot = quotient r e.pivot; target = quotient r e.target }))
unfolding made_at quotients
made_at-both zero r e h s t = absurd (not-suc-le-zero h)
made_at-both (suc k) r e h s t =
    let less : k ≡ suc k - 1 = omega arith in
    ap (λ b. cond b (suc (made_at k r (quotients r e))) 0) (divisible-both r e ∙ ap₂ ◌&&◌ s t)
    ∙ ap (λ j. suc (made_at j r (quotients r e))) less

-- ---- one division

-- What occurs is what the polynomial vanishes at.
pub vanishes-count : (p : Polynomial) (r : ℤ) → 0 < length p → vanishes_at p r ≡ ltb 0 (multiplicity p r)
unfolding multiplicity
vanishes-count p r h = cases (vanishes_at p r) refl
  where
    cases : (t : Bool) → vanishes_at p r ≡ t → t ≡ ltb 0 (divisions (length p) p r)
    cases true e =
        let some : 0 < divisions (length p) p r = omega (arith, divisions-more (length p) p r h e) in
        sym (true_of (ltb 0 (divisions (length p) p r)) (le→leb 1 (divisions (length p) p r) some))
    cases false e = sym (ap (ltb 0) (divisions-none (length p) p r e))

linear-once : (r : ℤ) → multiplicity (linear r) r ≡ 1
linear-once r = occurs-unique (multiplicity-occurs (linear r) r (linear-nonzero r)) once
  where
    one : (x : ℤ) → x -ℤ r ≡ ((x -ℤ r) *ℤ pos 1) *ℤ pos 1
    one x = simp ringℤ

    once : Occurs (linear r) r 1
    once =
        record {
          rest = power r 0;
          no-root = λ e. let z : ◌≡◌ {A = ℕ} 1 0 = ap nat_abs (sym (power_zero r r) ∙ e) in absurd (omega arith);
          factored = λ x. eval-linear r x ∙ one x
              ∙ sym (ap₂ ◌*ℤ◌ (power-suc r 0 x ∙ ap (λ a. (x -ℤ r) *ℤ a) (power_zero r x)) (power_zero r x));
        }

linear-other : (r x : ℤ) → x ≢ r → multiplicity (linear r) x ≡ 0
linear-other r x apart =
    occurs-unique (multiplicity-occurs (linear r) x (linear-nonzero r))
    (occurs-none (linear r) x (λ e. apart (-ℤ-zero x r (sym (eval-linear r x) ∙ e))))

-- A polynomial that vanishes at r is n - r times its quotient.
quotient-times : (p : Polynomial) (r x : ℤ) → T (not (is_zero_of p)) → eval p r ≡ pos 0
    → multiplicity p x ≡ multiplicity (linear r) x + multiplicity (quotient r p) x
quotient-times p r x n e =
    occurs-unique (multiplicity-occurs p x n)
    (occurs-same product (occurs-mul (multiplicity-occurs (linear r) x (linear-nonzero r))
    (multiplicity-occurs (quotient r p) x (quotient-nonzero r p n e))))
  where
    product : (y : ℤ) → eval p y ≡ eval (mul (linear r) (quotient r p)) y
    product y =
        factor-root p y r e
        ∙ sym (eval_mul (linear r) (quotient r p) y ∙ ap (λ a. a *ℤ eval (quotient r p) y) (eval-linear r y))

-- The zero polynomial is divided as often as one may.
quotient-zero : (r : ℤ) (p : Polynomial) → T (is_zero_of p) → T (is_zero_of (quotient r p))
unfolding quotient is_zero_of
quotient-zero r [] z = tt
quotient-zero r (a ∷ p) z =
    let rest = ((is_zero-cons a p).0 z).1 in
    (is_zero-cons (eval p r) (quotient r p)).1 (eval-is_zero p r rest, quotient-zero r p rest)

divisions-zero : (k : ℕ) (p : Polynomial) (x : ℤ) → T (is_zero_of p) → divisions k p x ≡ k
unfolding divisions
divisions-zero zero p x z = refl
divisions-zero (suc k) p x z =
    ap (λ b. cond b (suc (divisions k (quotient x p) x)) 0) (true_of (vanishes_at p x) ((is_zero_ℤ-iff (eval p x)).1 (eval-is_zero p x z)))
    ∙ ap suc (divisions-zero k (quotient x p) x (quotient-zero x p z))

quotient-fewer : (p : Polynomial) (r x : ℤ) → eval p r ≡ pos 0 → multiplicity (quotient r p) x ≤ multiplicity p x
unfolding multiplicity
quotient-fewer p r x e =
    by_cases (dec-T (is_zero_of p))
    (λ z. omega (arith, multiplicity-most (quotient r p) x, quotient-length r p, divisions-zero (length p) p x z))
    (λ n. omega (arith, quotient-times p r x (not_T (is_zero_of p) n) e))

-- What is divided vanishes.
divisible-roots : (r : ℤ) (e : Entries) → divisible r e ≡ true → (eval e.pivot r ≡ pos 0) × (eval e.target r ≡ pos 0)
divisible-roots r e t =
    let both = both_true (divides r e.pivot) (divides r e.target) (sym (divisible-both r e) ∙ t) in
    (root e.pivot both.0, root e.target both.1)
  where
    root : (p : Polynomial) → divides r p ≡ true → eval p r ≡ pos 0
    root p d = (is_zero_ℤ-iff (eval p r)).0 (true-T (vanishes_at p r) (both_true (vanishes_at p r) (every small (quotient r p)) d).0)

-- ---- the divisions at one integer

pub record Lessened (r : ℤ) (n : ℕ) (p q : Polynomial) : Type 0 where
  pub nonzero : T (not (is_zero_of q))
  pub here : multiplicity p r ≡ n + multiplicity q r
  pub elsewhere : (x : ℤ) → x ≢ r → multiplicity q x ≡ multiplicity p x

pub divide_at-lessened : (k : ℕ) (r : ℤ) (e : Entries) → T (not (is_zero_of e.pivot))
    → Lessened r (made_at k r e) e.pivot (divide_at k r e).pivot
unfolding divide_at made_at quotients
divide_at-lessened zero r e n = record { nonzero = n; here = omega arith; elsewhere = λ x _. refl }
divide_at-lessened (suc k) r e n = cases (divisible r e) refl (divide_at-lessened k r (quotients r e))
  where
    p : Polynomial
    p = e.pivot

    cases : (t : Bool) → divisible r e ≡ t
        → (T (not (is_zero_of (quotient r p))) → Lessened r (made_at k r (quotients r e)) (quotient r p) (divide_at k r (quotients r e)).pivot)
        → Lessened r (cond t (suc (made_at k r (quotients r e))) 0) p (cond t (divide_at k r (quotients r e)) e).pivot
    cases true t more =
        let root = (divisible-roots r e t).0 in
        let rest = more (quotient-nonzero r p n root) in
        record {
          nonzero = rest.nonzero;
          here = omega (arith, quotient-times p r r n root, linear-once r, rest.here);
          elsewhere = λ x apart. rest.elsewhere x apart ∙ omega (arith, quotient-times p r x n root, linear-other r x apart);
        }
    cases false t more = record { nonzero = n; here = omega arith; elsewhere = λ x _. refl }

pub divide_at-fewer : (k : ℕ) (r : ℤ) (e : Entries) (x : ℤ) → multiplicity (divide_at k r e).target x ≤ multiplicity e.target x
unfolding divide_at quotients
divide_at-fewer zero r e x = omega arith
divide_at-fewer (suc k) r e x = cases (divisible r e) refl (divide_at-fewer k r (quotients r e) x)
  where
    cases : (t : Bool) → divisible r e ≡ t → multiplicity (divide_at k r (quotients r e)).target x ≤ multiplicity (quotient r e.target) x
        → multiplicity (cond t (divide_at k r (quotients r e)) e).target x ≤ multiplicity e.target x
    cases true t rest = le_trans rest (quotient-fewer e.target r x (divisible-roots r e t).1)
    cases false t rest = omega arith

-- Where one of both does not vanish, nothing is divided.
pivot-alone : (r : ℤ) (e : Entries) → vanishes_at e.pivot r ≡ false → (divides r e.pivot && divides r e.target) ≡ false
pivot-alone r e t = ap (λ s. (s && every small (quotient r e.pivot)) && divides r e.target) t

target-alone : (r : ℤ) (e : Entries) → vanishes_at e.target r ≡ false → (divides r e.pivot && divides r e.target) ≡ false
target-alone r e t =
    ap (λ s. divides r e.pivot && (s && every small (quotient r e.target))) t ∙ and-false (divides r e.pivot)

-- There are no more divisions than one of both allows, the pivot's entry or the target's.
module _ (of : Entries → Polynomial) (r : ℤ) (divided : (e : Entries) → of (quotients r e) ≡ quotient r (of e))
    (alone : (e : Entries) → vanishes_at (of e) r ≡ false → (divides r e.pivot && divides r e.target) ≡ false) where
  bounded : (k n : ℕ) (e : Entries) → n ≤ k → divisions k (of e) r ≤ n → divide_at n r e ≡ divide_at k r e
  unfolding divide_at divisions
  bounded zero zero e h g = refl
  bounded zero (suc n) e h g = absurd (not-suc-le-zero h)
  bounded (suc k) zero e h g = cases (vanishes_at (of e) r) refl g
    where
      cases : (t : Bool) → vanishes_at (of e) r ≡ t → cond t (suc (divisions k (quotient r (of e)) r)) 0 ≤ 0 → e ≡ divide_at (suc k) r e
      cases true t less = absurd (not-suc-le-zero less)
      cases false t less = sym (divide_at-none (suc k) r e (alone e t))
  bounded (suc k) (suc n) e h g = cases (vanishes_at (of e) r) refl g (bounded k n (quotients r e) (le_of_suc-le-suc h))
    where
      cases : (t : Bool) → vanishes_at (of e) r ≡ t → cond t (suc (divisions k (quotient r (of e)) r)) 0 ≤ suc n
          → (divisions k (of (quotients r e)) r ≤ n → divide_at n r (quotients r e) ≡ divide_at k r (quotients r e))
          → divide_at (suc n) r e ≡ divide_at (suc k) r e
      cases true t less more =
          ap (λ x. cond (divisible r e) x e) (more (rw (divided e) (le_of_suc-le-suc less)))
      cases false t less more = divide_at-none (suc n) r e (alone e t) ∙ sym (divide_at-none (suc k) r e (alone e t))

pub divide_at-least : (m n : ℕ) (r : ℤ) (e : Entries) → length e.pivot ≡ coefficient_count → length e.target ≡ coefficient_count
    → multiplicity e.pivot r ≡ m → multiplicity e.target r ≤ n → n ≤ coefficient_count
    → divide_at (min m n) r e ≡ divide_at coefficient_count r e
unfolding multiplicity quotients
divide_at-least m n r e long also is less most =
    by_cases (dec_le m n)
    (λ h. let same : min m n ≡ m = omega arith in
    ap (λ k. divide_at k r e) same
    ∙ bounded (λ d. d.pivot) r (λ d. refl) (pivot-alone r) coefficient_count m e (omega arith)
    (subst (λ k. divisions k e.pivot r ≤ m) long (le_of_eq is)))
    (λ h. let same : min m n ≡ n = omega arith in
    ap (λ k. divide_at k r e) same
    ∙ bounded (λ d. d.target) r (λ d. refl) (target-alone r) coefficient_count n e most
    (subst (λ k. divisions k e.target r ≤ n) also less))

-- ---- each root after the other

-- Where the rest of the target's entry vanishes, the entry does.
divide_at-among : (k : ℕ) (r : ℤ) (e : Entries) (x : ℤ) → eval (divide_at k r e).target x ≡ pos 0 → eval e.target x ≡ pos 0
unfolding divide_at quotients
divide_at-among zero r e x root = root
divide_at-among (suc k) r e x root = cases (divisible r e) refl root (divide_at-among k r (quotients r e) x)
  where
    q : Polynomial
    q = e.target

    cases : (t : Bool) → divisible r e ≡ t → eval (cond t (divide_at k r (quotients r e)) e).target x ≡ pos 0
        → (eval (divide_at k r (quotients r e)).target x ≡ pos 0 → eval (quotient r q) x ≡ pos 0) → eval q x ≡ pos 0
    cases true t there before =
        factor-root q x r (divisible-roots r e t).1 ∙ ap (λ a. (x -ℤ r) *ℤ a) (before there) ∙ *ℤ-zero (x -ℤ r)
    cases false t there before = there

-- At a root of the pivot's entry alone nothing is divided.
pub divide_each-common : (k : ℕ) (rs : List ℤ) (b : Polynomial) (e : Entries) → ((x : ℤ) → eval e.target x ≡ pos 0 → eval b x ≡ pos 0)
    → divide_each k rs e ≡ divide_each k (keep (vanishes_at b) rs) e
unfolding divide_each keep
divide_each-common k [] b e among = refl
divide_each-common k (r ∷ rs) b e among =
    cases (vanishes_at b r) refl (divide_each-common k rs b (divide_at k r e) (λ x root. among x (divide_at-among k r e x root)))
    (divide_each-common k rs b e among)
  where
    kept : List ℤ
    kept = keep (vanishes_at b) rs

    cases : (t : Bool) → vanishes_at b r ≡ t → divide_each k rs (divide_at k r e) ≡ divide_each k kept (divide_at k r e)
        → divide_each k rs e ≡ divide_each k kept e
        → divide_each k rs (divide_at k r e) ≡ divide_each k (cond t (r ∷ kept) kept) e
    cases true t divided left = divided
    cases false t divided left = ap (divide_each k rs) (divide_at-none k r e (target-alone r e none)) ∙ left
      where
        none : vanishes_at e.target r ≡ false
        none = false_of (vanishes_at e.target r) (λ v. T_not (vanishes_at b r) (rw t tt)
            ((is_zero_ℤ-iff (eval b r)).1 (among r ((is_zero_ℤ-iff (eval e.target r)).0 v))))

-- ---- how often each root occurs

-- One value of a function, at a number that stands once in an ascending list.
map-changed : {A : Type 0} (f g : ℤ → A) (rs : List ℤ) (i : ℕ) → Ascending rs → i < length rs → ((x : ℤ) → x ≢ get_or rs i (pos 0) → g x ≡ f x)
    → set (map f rs) i (g (get_or rs i (pos 0))) ≡ map g rs
map-changed f g [] i a h same = absurd (not-suc-le-zero h)
map-changed f g (r ∷ rs) zero a h same =
    ap (λ l. g r ∷ l) (map_congr_left (λ x m. sym (same x (λ e. <ℤ_irrefl (subst (λ y. r <ℤ y) e (rel_of_Pairwise-cons a m))))))
map-changed f g (r ∷ rs) (suc i) a h same =
    let inside = le_of_suc-le-suc h in
    let apart = first_below a (get_or-member rs i (pos 0) inside) in
    ap₂ ◌∷◌ (sym (same r (λ e. <ℤ_irrefl (subst (λ y. r <ℤ y) (sym e) apart))))
    (map-changed f g rs i (Pairwise.of_cons a) inside same)

module _ {w : RootsWith} (p : Polynomial) (rs : List ℤ) (e : w ≡ listed_with (times_in p rs)) (i : ℕ) (h : i < length rs) where
  abbrev r : ℤ
  r = get_or rs i (pos 0)

  pub listed-at : get_or w.roots i no_root ≡ root_of (r, multiplicity p r)
  listed-at =
      root-at (times_in p rs) e i (rw (length-times p rs) h)
      ∙ ap root_of (get_or_map (λ x. (x, multiplicity p x)) rs i (pos 0) (pos 0, 0) h)

  pub listed-less : (q : Polynomial) (n : ℕ) → Ascending rs → Lessened r n p q
      → record { count = w.count; roots = set w.roots i (root_of (r, multiplicity p r - n)) } ≡ listed_with (times_in q rs)
  listed-less q n a l =
      let left : multiplicity p r - n ≡ multiplicity q r = omega (arith, l.here) in
      let size = length-times p rs ∙ sym (length-times q rs) in
      let changed = ap (λ m. set m i (f q r)) (map-map root_of (λ x. (x, multiplicity p x)) rs)
      ∙ map-changed (f p) (f q) rs i a h (λ x apart. ap (λ k. root_of (x, k)) (l.elsewhere x apart))
      ∙ sym (map-map root_of (λ x. (x, multiplicity q x)) rs) in
      ap₂ (λ v k. record { count = v.count; roots = set v.roots i (root_of (r, k)) }) e left
      ∙ ap₂ (λ k v. record { count = k; roots = v }) size
      (set-append_left (map root_of (times_in p rs)) (replicate (16 - length (times_in p rs)) no_root) i (f q r) inside
      ∙ ap₂ (λ v k. v ++ replicate (16 - k) no_root) changed size)
    where
      f : Polynomial → ℤ → Root
      f q x = root_of (x, multiplicity q x)

      inside : i < length (map root_of (times_in p rs))
      inside = rw (length-map (times_in p rs) root_of, length-times p rs) h

-- The same of how often each occurs alone.
pub counts-at : (p : Polynomial) (rs : List ℤ) (i : ℕ) → i < length rs → get_or (counts p rs) i 0 ≡ multiplicity p (get_or rs i (pos 0))
counts-at p rs i h =
    get_or-append (map (multiplicity p) rs) (replicate (16 - length rs) 0) 0 i (rw (length-map rs (multiplicity p)) h)
    ∙ get_or_map (multiplicity p) rs i (pos 0) 0 h

pub counts-less : (p q : Polynomial) (rs : List ℤ) (i n : ℕ) → Ascending rs → i < length rs → Lessened (get_or rs i (pos 0)) n p q
    → set (counts p rs) i (get_or (counts p rs) i 0 - n) ≡ counts q rs
counts-less p q rs i n a h l =
    let left : get_or (counts p rs) i 0 - n ≡ multiplicity q (get_or rs i (pos 0)) = omega (arith, counts-at p rs i h, l.here) in
    ap (set (counts p rs) i) left
    ∙ set-append_left (map (multiplicity p) rs) (replicate (16 - length rs) 0) i (multiplicity q (get_or rs i (pos 0)))
    (rw (length-map rs (multiplicity p)) h)
    ∙ ap (λ m. m ++ replicate (16 - length rs) 0) (map-changed (multiplicity p) (multiplicity q) rs i a h l.elsewhere)
