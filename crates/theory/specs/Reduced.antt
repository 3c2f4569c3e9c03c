-- The laws of the division by common roots, for polynomials of any length.
--
-- Main definitions
--   Divides d e        d is e times one nonzero polynomial
--   Stage r e left, LeftOut r e   the limit of the coefficients has left out a division by n - r
--   DividedOften r e   both are divided by n - r as often as r occurs in both
--
-- Main statements
--   root-factor        a polynomial is n - r times its quotient exactly if it vanishes at r
--   reduced-divides    dividing both keeps their ratio
--   reduced-nonzero    the pivot's entry stays nonzero
--   reduced-small, length-reduced   both stay within ±C and keep their lengths
--   reduced-left       where both still vanish at r, the limit has left a division by n - r out
--   reduced-times      or else both are divided by n - r as often as the smaller of the two multiplicities says
--   reduced-listed     a relation at a common root is listed only there, or where the root occurs more often in the pivot's entry
use Prim.Native.Nat.{ℕ, zero, suc, min, ◌+◌, ◌≤◌, ◌<◌}
use Rattle.std.specs.Prelude.{◌≡◌, refl, ◌↔◌, ◌≢◌, ◌⊎◌, Bool, ◌&&◌, not, cond, T, length, ℤ, pos, ◌+ℤ◌, ◌-ℤ◌, ◌*ℤ◌}
use Rattle.std.proofs.Common.{sym, ◌∙◌, ap, subst, inl, inr, ⊎_elim, not-suc-le-zero, le_refl, arith, T_not}
use Rattle.std.proofs.Math.Bool.{true, false}
use mathlib.Core.List.Memᴰ
use mathlib.Core.List.{List, [], ◌∷◌, Memᴰ}
use Rattle.std.proofs.Math.Dec.{not_T}
use Rattle.std.proofs.Math.IntN.{*ℤ-zero, zero-*ℤ, +ℤ_invr, ℤ_discrete}
use Rattle.algebra.specs.Integers.{ringℤ, *ℤ-assoc}
use Rattle.algebra.specs.Polynomials.{Polynomial, eval, is_zero_of, is_zero_ℤ, degree, mul, quotient, eval_mul, eval-is_zero, is_zero_ℤ-iff}
use Rattle.algebra.specs.Coefficients.{degree-lt-length, mul-nonzero}
use Rattle.algebra.specs.Vanishing.{factor-root, quotient-length, quotient-nonzero, degree-quotient, zero-everywhere}
use Rattle.algebra.specs.Roots.{roots, roots-complete, place}
use Rattle.algebra.specs.Multiplicity.{linear, linear-nonzero, eval-linear, multiplicity, multiplicity-occurs, occurs-none, occurs-same}
use Rattle.algebra.specs.Multiplicity.{occurs-mul, occurs-unique, multiplicity-root}
use Rattle.lists.specs.Sifted.{mem-keep}
use Rattle.lists.specs.Tests.{T-&&}
use Rattle.rules.specs.CommonRoots.{Entries, both_vanish, both_small_of, quotients, divisible, divide_at, divide_each, common_roots_of, reduced}

-- p is n - r times the quotient exactly if p vanishes at r.
pub root-factor : (p : Polynomial) (r : ℤ)
    → (eval p r ≡ pos 0) ↔ ((x : ℤ) → eval p x ≡ (x -ℤ r) *ℤ eval (quotient r p) x)
root-factor p r = (λ e x. factor-root p x r e, λ f. f r ∙ at-root (eval (quotient r p) r))
  where
    at-root : (q : ℤ) → (r -ℤ r) *ℤ q ≡ pos 0
    at-root q = ap (λ a. a *ℤ q) (+ℤ_invr r) ∙ zero-*ℤ q

-- ---- both are one polynomial times what is left

pub record Divides (d e : Entries) : Type 0 where
  pub factor : Polynomial
  pub nonzero : T (not (is_zero_of factor))
  pub pivots : (x : ℤ) → eval d.pivot x ≡ eval factor x *ℤ eval e.pivot x
  pub targets : (x : ℤ) → eval d.target x ≡ eval factor x *ℤ eval e.target x

divides-same : (e : Entries) → Divides e e
unfolding is_zero_of eval
divides-same e = record { factor = pos 1 ∷ []; nonzero = tt; pivots = λ x. once (eval e.pivot x) x; targets = λ x. once (eval e.target x) x }
  where
    once : (a x : ℤ) → a ≡ (pos 1 +ℤ x *ℤ pos 0) *ℤ a
    once a x = simp ringℤ

divides-trans : {c d e : Entries} → Divides c d → Divides d e → Divides c e
divides-trans {c} {d} {e} f g =
    record {
      factor = mul f.factor g.factor;
      nonzero = mul-nonzero f.factor g.factor f.nonzero g.nonzero;
      pivots = λ x. both (eval e.pivot x) x (f.pivots x) (g.pivots x);
      targets = λ x. both (eval e.target x) x (f.targets x) (g.targets x);
    }
  where
    both : {a b : ℤ} (c x : ℤ) → a ≡ eval f.factor x *ℤ b → b ≡ eval g.factor x *ℤ c
        → a ≡ eval (mul f.factor g.factor) x *ℤ c
    both c x p q =
        p ∙ ap (λ y. eval f.factor x *ℤ y) q ∙ sym (*ℤ-assoc (eval f.factor x) (eval g.factor x) c)
        ∙ ap (λ y. y *ℤ c) (sym (eval_mul f.factor g.factor x))

vanish : (r : ℤ) (e : Entries) → T (both_vanish r e) ↔ ((eval e.pivot r ≡ pos 0) × (eval e.target r ≡ pos 0))
unfolding both_vanish
vanish r e =
    let parts = T-&& (is_zero_ℤ (eval e.pivot r)) (is_zero_ℤ (eval e.target r)) in (
      λ t. ((is_zero_ℤ-iff _).0 (parts.0 t).0, (is_zero_ℤ-iff _).0 (parts.0 t).1),
      λ h. parts.1 ((is_zero_ℤ-iff _).1 h.0, (is_zero_ℤ-iff _).1 h.1),
    )

divides-quotients : (r : ℤ) (e : Entries) → T (both_vanish r e) → Divides e (quotients r e)
unfolding quotients is_zero_of
divides-quotients r e t =
    let zeros = (vanish r e).0 t in
    record {
      factor = linear r;
      nonzero = linear-nonzero r;
      pivots = λ x. factor-root e.pivot x r zeros.0 ∙ ap (λ y. y *ℤ eval (quotient r e.pivot) x) (sym (eval-linear r x));
      targets = λ x. factor-root e.target x r zeros.1 ∙ ap (λ y. y *ℤ eval (quotient r e.target) x) (sym (eval-linear r x));
    }

-- ---- one root, and each of them

split : (r : ℤ) (e : Entries) → T (divisible r e) → T (both_vanish r e) × T (both_small_of (quotients r e))
unfolding divisible
split r e t = (T-&& (both_vanish r e) (both_small_of (quotients r e))).0 t

-- What holds of the entries and is kept by a division holds of what is left.
module _ (P : Entries → Type 0) (keeps : (r : ℤ) (e : Entries) → T (divisible r e) → P e → P (quotients r e)) where
  divide_at-keeps : (k : ℕ) (r : ℤ) (e : Entries) → P e → P (divide_at k r e)
  unfolding divide_at
  divide_at-keeps zero r e h = h
  divide_at-keeps (suc k) r e h = go (divisible r e) (λ t. divide_at-keeps k r (quotients r e) (keeps r e t h))
    where
      go : (t : Bool) → (T t → P (divide_at k r (quotients r e))) → P (cond t (divide_at k r (quotients r e)) e)
      go true f = f tt
      go false f = h

  divide_each-keeps : (k : ℕ) (rs : List ℤ) (e : Entries) → P e → P (divide_each k rs e)
  unfolding divide_each
  divide_each-keeps k [] e h = h
  divide_each-keeps k (r ∷ rs) e h = divide_each-keeps k rs (divide_at k r e) (divide_at-keeps k r e h)

divide_at-divides : (k : ℕ) (r : ℤ) (e : Entries) → Divides e (divide_at k r e)
divide_at-divides k r e =
    divide_at-keeps (Divides e) (λ s d t f. divides-trans f (divides-quotients s d (split s d t).0)) k r e (divides-same e)

divide_each-divides : (k : ℕ) (rs : List ℤ) (e : Entries) → Divides e (divide_each k rs e)
divide_each-divides k rs e =
    divide_each-keeps (Divides e) (λ s d t f. divides-trans f (divides-quotients s d (split s d t).0)) k rs e (divides-same e)

-- Both are divided by the same polynomial.
pub reduced-divides : (e : Entries) → Divides e (reduced e)
unfolding reduced
reduced-divides e = divide_each-divides (length e.pivot) (common_roots_of e) e

-- A factor of a nonzero polynomial is nonzero.
factor-nonzero : (p q f : Polynomial) → T (not (is_zero_of p)) → ((x : ℤ) → eval p x ≡ eval f x *ℤ eval q x) → T (not (is_zero_of q))
factor-nonzero p q f n same =
    not_T (is_zero_of q) (λ z. T_not (is_zero_of p) n ((zero-everywhere p).1
    (λ x. same x ∙ ap (λ y. eval f x *ℤ y) (eval-is_zero q x z) ∙ *ℤ-zero (eval f x))))

pub divides-nonzero : {d e : Entries} → Divides d e → T (not (is_zero_of d.pivot)) → T (not (is_zero_of e.pivot))
divides-nonzero {d} {e} f n = factor-nonzero d.pivot e.pivot f.factor n f.pivots

pub reduced-nonzero : (e : Entries) → T (not (is_zero_of e.pivot)) → T (not (is_zero_of (reduced e).pivot))
reduced-nonzero e n = divides-nonzero (reduced-divides e) n

pub reduced-small : (e : Entries) → T (both_small_of e) → T (both_small_of (reduced e))
unfolding reduced
reduced-small e h = divide_each-keeps (λ d. T (both_small_of d)) (λ s d t f. (split s d t).1) (length e.pivot) (common_roots_of e) e h

abbrev SameLengths : Entries → Entries → Type 0
SameLengths d e = (length e.pivot ≡ length d.pivot) × (length e.target ≡ length d.target)

quotients-lengths : (r : ℤ) (d e : Entries) → SameLengths d e → SameLengths d (quotients r e)
unfolding quotients
quotients-lengths r d e h = (quotient-length r e.pivot ∙ h.0, quotient-length r e.target ∙ h.1)

pub length-reduced : (e : Entries) → (length (reduced e).pivot ≡ length e.pivot) × (length (reduced e).target ≡ length e.target)
unfolding reduced
length-reduced e =
    divide_each-keeps (SameLengths e) (λ s d t h. quotients-lengths s e d h) (length e.pivot) (common_roots_of e) e (refl, refl)

-- ---- no common root is left, but for the limit

-- Between the entries e and what is left of them stand some at which both vanish at r and a quotient passes ±C.
pub record Stage (r : ℤ) (e left : Entries) : Type 0 where
  pub stage : Entries
  pub before : Divides e stage
  pub after : Divides stage left
  pub vanishes : T (both_vanish r stage)
  pub passes : T (not (both_small_of (quotients r stage)))

-- The limit of the coefficients has left out a division by n - r.
abbrev pub LeftOut : ℤ → Entries → Type 0
LeftOut r e = Stage r e (reduced e)

-- With more divisions than the degree, either both do not vanish at r any more, or a quotient passes ±C.
divide_at-end : (k : ℕ) (r : ℤ) (e : Entries) → T (not (is_zero_of e.pivot)) → degree e.pivot < k
    → T (not (divisible r (divide_at k r e)))
unfolding divide_at quotients
divide_at-end zero r e n h = absurd (not-suc-le-zero h)
divide_at-end (suc k) r e n h =
    go (divisible r e) refl
    (λ t. let zero-there = ((vanish r e).0 (split r e t).0).0 in
    divide_at-end k r (quotients r e) (quotient-nonzero r e.pivot n zero-there) (omega (arith, degree-quotient r e.pivot n zero-there)))
  where
    go : (t : Bool) → divisible r e ≡ t → (T (divisible r e) → T (not (divisible r (divide_at k r (quotients r e)))))
        → T (not (divisible r (cond t (divide_at k r (quotients r e)) e)))
    go true same f = f (subst T (sym same) tt)
    go false same f = subst (λ t. T (not t)) (sym same) tt

-- Where both vanish at r after a division, they did before it.
vanish-before : {d e : Entries} → Divides d e → (r : ℤ) → T (both_vanish r e) → T (both_vanish r d)
vanish-before {d} {e} f r t =
    let zeros = (vanish r e).0 t in
    (vanish r d).1 (
      f.pivots r ∙ ap (λ y. eval f.factor r *ℤ y) zeros.0 ∙ *ℤ-zero (eval f.factor r),
      f.targets r ∙ ap (λ y. eval f.factor r *ℤ y) zeros.1 ∙ *ℤ-zero (eval f.factor r),
    )

nonzero-degree : (p : Polynomial) → T (not (is_zero_of p)) → degree p < length p
unfolding is_zero_of
nonzero-degree [] n = absurd n
nonzero-degree (a ∷ p) n = degree-lt-length a p

-- Not both tests of a division pass, but the first does.
limit-broken : (r : ℤ) (e : Entries) → T (not (divisible r e)) → T (both_vanish r e) → T (not (both_small_of (quotients r e)))
unfolding divisible
limit-broken r e n v = go (both_vanish r e) (both_small_of (quotients r e)) n v
  where
    go : (s t : Bool) → T (not (s && t)) → T s → T (not t)
    go true t n v = n
    go false t n v = absurd v

-- At a root of both that is among those tried, the limit has left a division out.
left-among : (k : ℕ) (rs : List ℤ) (r : ℤ) (e : Entries) → Memᴰ r rs → T (not (is_zero_of e.pivot)) → length e.pivot ≤ k
    → T (both_vanish r (divide_each k rs e)) → Stage r e (divide_each k rs e)
unfolding divide_each
left-among k [] r e m n h v = absurd (Memᴰ.not-nil m)
left-among k (s ∷ rs) r e m n h v =
    let d = divide_at k s e in
    let shorter = (divide_at-keeps (SameLengths e) (λ q c t f. quotients-lengths q e c f) k s e (refl, refl)).0 in
    ⊎_elim
    (λ same. subst (λ q. Stage q e (divide_each k rs d)) (sym same) (turn (subst (λ q. T (both_vanish q (divide_each k rs d))) same v)))
    (λ later. earlier (left-among k rs r d later (divides-nonzero (divide_at-divides k s e) n) (omega arith) v))
    (Memᴰ.cases_cons m)
  where
    turn : T (both_vanish s (divide_each k rs (divide_at k s e))) → Stage s e (divide_each k rs (divide_at k s e))
    turn v =
        let d = divide_at k s e in
        let there = vanish-before (divide_each-divides k rs d) s v in
        record {
          stage = d;
          before = divide_at-divides k s e;
          after = divide_each-divides k rs d;
          vanishes = there;
          passes = limit-broken s d (divide_at-end k s e n (omega (arith, nonzero-degree e.pivot n))) there;
        }

    earlier : Stage r (divide_at k s e) (divide_each k rs (divide_at k s e)) → Stage r e (divide_each k rs (divide_at k s e))
    earlier x =
        record {
          stage = x.stage;
          before = divides-trans (divide_at-divides k s e) x.before;
          after = x.after;
          vanishes = x.vanishes;
          passes = x.passes;
        }

-- Where both still vanish at r in the end, the limit of the coefficients has left a division by n - r out.
pub reduced-left : (e : Entries) (r : ℤ) → T (not (is_zero_of e.pivot)) → T (both_vanish r (reduced e)) → LeftOut r e
unfolding reduced common_roots_of
reduced-left e r n v =
    let zeros = (vanish r e).0 (vanish-before (reduced-divides e) r v) in
    let among = (mem-keep (λ q. is_zero_ℤ (eval e.target q)) (roots e.pivot)).1
    (roots-complete e.pivot r n zeros.0, (is_zero_ℤ-iff (eval e.target r)).1 zeros.1) in
    left-among (length e.pivot) (common_roots_of e) r e (place (common_roots_of e) among) n (le_refl (length e.pivot)) v

-- At r both are divided by n - r as often as r occurs in both, the smaller of the two multiplicities, unless the limit has left a
-- division out (SCOPE 2.85): with that number, what is left of each gives its multiplicity.
abbrev pub DividedOften : ℤ → Entries → Type 0
DividedOften r e =
    let times = min (multiplicity e.pivot r) (multiplicity e.target r) in
    (multiplicity e.pivot r ≡ times + multiplicity (reduced e).pivot r)
    × (multiplicity e.target r ≡ times + multiplicity (reduced e).target r)

pub reduced-times : (e : Entries) (r : ℤ) → T (not (is_zero_of e.pivot)) → T (not (is_zero_of e.target)) → LeftOut r e ⊎ DividedOften r e
reduced-times e r n m = cases (ℤ_discrete (eval (reduced e).pivot r) (pos 0)) (ℤ_discrete (eval (reduced e).target r) (pos 0))
  where
    f : Divides e (reduced e)
    f = reduced-divides e

    shared : ℕ
    shared = multiplicity f.factor r

    -- How often r occurs in a product with the common factor.
    both : (p q : Polynomial) → T (not (is_zero_of p)) → ((x : ℤ) → eval p x ≡ eval f.factor x *ℤ eval q x)
        → multiplicity p r ≡ shared + multiplicity q r
    both p q h same =
        occurs-unique (multiplicity-occurs p r h)
        (occurs-same (λ x. same x ∙ sym (eval_mul f.factor q x))
        (occurs-mul (multiplicity-occurs f.factor r f.nonzero) (multiplicity-occurs q r (factor-nonzero p q f.factor h same))))

    pivots : multiplicity e.pivot r ≡ shared + multiplicity (reduced e).pivot r
    pivots = both e.pivot (reduced e).pivot n f.pivots

    targets : multiplicity e.target r ≡ shared + multiplicity (reduced e).target r
    targets = both e.target (reduced e).target m f.targets

    absent : (q : Polynomial) → T (not (is_zero_of q)) → eval q r ≢ pos 0 → multiplicity q r ≡ 0
    absent q h other = occurs-unique (multiplicity-occurs q r h) (occurs-none q r other)

    cases : Dec (eval (reduced e).pivot r ≡ pos 0) → Dec (eval (reduced e).target r ≡ pos 0) → LeftOut r e ⊎ DividedOften r e
    cases (yes root) (yes also) = inl (reduced-left e r n ((vanish r (reduced e)).1 (root, also)))
    cases (no other) _ =
        let none = absent (reduced e).pivot (reduced-nonzero e n) other in
        inr (omega (arith, pivots, targets, none), omega (arith, pivots, targets, none))
    cases (yes root) (no other) =
        let none = absent (reduced e).target (factor-nonzero e.target (reduced e).target f.factor m f.targets) other in
        inr (omega (arith, pivots, targets, none), omega (arith, pivots, targets, none))

-- A relation is listed at a common root r of both entries only where the limit has left a division by n - r out, or where r
-- occurs more often in row j's entry than in row i's (SCOPE 2.29).
pub reduced-listed : (e : Entries) (r : ℤ) → T (not (is_zero_of e.pivot)) → T (not (is_zero_of e.target))
    → eval (reduced e).pivot r ≡ pos 0 → LeftOut r e ⊎ (multiplicity e.target r < multiplicity e.pivot r)
reduced-listed e r n m root =
    ⊎_elim inl (λ d. inr (omega (arith, d.0, (multiplicity-root (reduced e).pivot r (reduced-nonzero e n)).0 root)))
    (reduced-times e r n m)
