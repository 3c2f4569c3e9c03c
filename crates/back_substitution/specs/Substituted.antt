-- The listed vectors: each makes every settled row's sum 0, is positive at its own column, zero at the other columns without a pivot,
-- and has no common divisor above 1 (SCOPE 14.51, 14.52).
--
-- Main definitions
--   Free ps c          c is the column of no settled row
--   Solves n ps f v    the vector v has these properties for the column f
-- Main statements
--   dot-pair           the sum over a row is the pairing of row and vector
--   substitute-solves, vector-solves   each step of the back substitution keeps them, so a listed vector has them
--   is_free-iff         the test for a free column
use Rattle.std.specs.Prelude.{ℕ, ◌*◌, ◌/◌, ◌<◌, ◌≡◌, refl, ◌≢◌, ◌↔◌, Bool, not, cond, List, [], ◌∷◌, T, eqb, length, get_or, set, replicate, ℤ, pos, negsuc, neg_ℤ, nat_abs, ◌+ℤ◌, ◌*ℤ◌}
use Rattle.std.specs.Int.{◌∣◌}
use Rattle.std.proofs.Common.{sym, ◌∙◌, ap₂, mul-one, mul_comm, mul-pos, pos_of_ne-zero, arith, eqb→eq, T_not, ltb→lt}
use Rattle.std.proofs.Math.Path.{ap, subst}
use Rattle.std.proofs.Math.Logic.{by_cases}
use Rattle.std.proofs.Math.Bool.{true, false}
use Rattle.std.proofs.Math.Nat.{eq_of_mul-eq-mul_left, eq-one_of_dvd-one, dvd-zero}
use Rattle.std.proofs.Math.Decide.{dec_lt, ℕ_discrete}
use Rattle.std.proofs.Math.Dec.{eqb_refl, not_T}
use Rattle.std.proofs.Math.ListN.{length-set, length-map, get_or-eq_default}
use Rattle.std.proofs.lemmas.List.{length-replicate}
use Rattle.std.proofs.Math.Seq.{get_or-set_same, get_or-set_other}
use Rattle.std.proofs.Math.IntN.{*ℤ-zero, +ℤ_idl, +ℤ_idr, +ℤ_invr}
use Rattle.std.specs.Int.Signed.{lt_z, quot_z}
use Rattle.algebra.specs.Integers.{ringℤ, *ℤ-1, nat_abs-zero, nat_abs-neg_ℤ, nat_abs-*ℤ}
use Rattle.algebra.specs.Division.{DividesZ, quot_z-divides_z}
use Rattle.algebra.specs.Gcd.{gcd, content, gcd-divides-left, gcd-divides-right, divides-gcd, gcd-pos-left, gcd-mul, content-divides}
use Rattle.algebra.specs.Gcd.{divides-content}
use Rattle.algebra.specs.Gcd.{content-scale, DividesAll}
use Rattle.algebra.specs.Polynomials.{scale, coeff}
use Rattle.algebra.specs.Sums.{sum_below, sum_over, count_from, sum_below-front, sum_below-zeros}
use Rattle.algebra.specs.Coefficients.{coeff-scale}
use Rattle.lists.specs.Everywhere.{All, all-mono, all_both}
use Rattle.lists.specs.Tests.{every-all, cond-passed, cond-failed}
use Rattle.lists.specs.Padded.{get_or-replicate-each}
use Rattle.echelon.specs.Eliminated.{Pivot, at, pivot_of}
use Rattle.back_substitution.specs.Listed.{dot, is_free_of, unit, solved, substitute, substitute_all_of, vector_at}
use Rattle.echelon.specs.Pairing.{pair, Kills, pair-congr, pair-right, pair-only}
use Rattle.echelon.specs.KernelKept.{Echelon, KillsAll}

-- The sum over a row is the pairing.
pub dot-pair : (r v : List ℤ) → dot r v ≡ pair (length r) (at r) (at v)
unfolding dot pair at sum_below sum_over count_from
dot-pair [] v = refl
dot-pair (a ∷ r) [] = sym (sum_below-zeros (length (a ∷ r)) (λ j. at (a ∷ r) j *ℤ pos 0) (λ j h. *ℤ-zero (at (a ∷ r) j)))
dot-pair (a ∷ r) (x ∷ v) = ap (λ s. a *ℤ x +ℤ s) (dot-pair r v) ∙ sym (sum_below-front (length r) (λ j. at (a ∷ r) j *ℤ at (x ∷ v) j))

unfoldable pub Free : List Pivot → ℕ → Type 0
unfolding All
Free ps c = All (λ p. p.column ≢ c) ps

pub is_free-iff : (ps : List Pivot) (c : ℕ) → T (is_free_of ps c) ↔ Free ps c
unfolding is_free_of Free
is_free-iff ps c =
    let e = every-all (λ p. not (eqb p.column c)) ps in (
      λ h. all-mono (λ p. T (not (eqb p.column c))) (λ p. p.column ≢ c)
          (λ p t s. T_not (eqb p.column c) t (subst (λ x. T (eqb p.column x)) s (eqb_refl p.column))) ps (e.0 h),
      λ h. e.1 (all-mono (λ p. p.column ≢ c) (λ p. T (not (eqb p.column c)))
          (λ p s. not_T (eqb p.column c) (λ t. s (eqb→eq p.column c t))) ps h),
    )

-- A column at which all rows are zero is the column of none.
pub echelon-free : (n : ℕ) (ps : List Pivot) → Echelon n ps → (c : ℕ) → All (λ q. at q.numbers c ≡ pos 0) ps → Free ps c
unfolding Echelon Free All pivot_of
echelon-free n [] t c z = tt
echelon-free n (p ∷ ps) t c z = (λ e. t.1 (ap (at p.numbers) e ∙ z.0), echelon-free n ps t.3 c z.1)

-- A nonzero number stands within the list.
pub place-below : (r : List ℤ) (c : ℕ) → at r c ≢ pos 0 → c < length r
unfolding at
place-below r c h = by_cases (dec_lt c (length r)) (λ p. p) (λ p. absurd (h (get_or-eq_default r (pos 0) (omega arith))))

pub record Solves (n : ℕ) (ps : List Pivot) (f : ℕ) (v : List ℤ) : Type 0 where
  pub size : length v ≡ n
  pub kills : KillsAll n (at v) ps
  pub positive : (i : ℕ) × (0 < i) × (at v f ≡ pos i)
  pub elsewhere : (c : ℕ) → c ≢ f → Free ps c → at v c ≡ pos 0
  pub primitive : content v ≡ 1

-- ---- the value at a pivot

below-zero : (d : ℤ) → T (lt_z d (pos 0)) → d ≡ neg_ℤ (pos (nat_abs d))
below-zero (pos a) t = absurd (omega (arith, ltb→lt a 0 t))
below-zero (negsuc a) t = refl

from_zero : (d : ℤ) → T (not (lt_z d (pos 0))) → d ≡ pos (nat_abs d)
from_zero (pos a) t = refl
from_zero (negsuc a) t = absurd t

abbrev pub common : ℤ → ℤ → ℕ
common d S = gcd (nat_abs d) (nat_abs S)

abbrev pub times : ℤ → ℤ → ℕ
times d S = nat_abs d / common d S

abbrev share : ℤ → ℤ → ℤ
share d S = quot_z S (pos (common d S))

module _ (d S : ℤ) (nonzero : d ≢ pos 0) where
  times-common : pos (times d S) *ℤ pos (common d S) ≡ pos (nat_abs d)
  times-common = quot_z-divides_z (common d S) (pos (nat_abs d)) (gcd-divides-left (nat_abs d) (nat_abs S))

  share-common : (share d S) *ℤ pos (common d S) ≡ S
  share-common = quot_z-divides_z (common d S) S (gcd-divides-right (nat_abs d) (nat_abs S))

  solved-cases : (P : ℤ → Type 0) → (T (lt_z d (pos 0)) → P (share d S)) → (T (not (lt_z d (pos 0))) → P (neg_ℤ (share d S))) → P (solved d S)
  unfolding solved
  solved-cases P h k = cases (lt_z d (pos 0)) h k
    where
      cases : (t : Bool) → (T t → P (share d S)) → (T (not t) → P (neg_ℤ (share d S))) → P (cond t (share d S) (neg_ℤ (share d S)))
      cases true h k = h tt
      cases false h k = k tt

  -- The sum with the new value is 0.
  pub solved-zero : pos (times d S) *ℤ S +ℤ solved d S *ℤ d ≡ pos 0
  solved-zero = solved-cases (λ x. pos (times d S) *ℤ S +ℤ x *ℤ d ≡ pos 0) below above
    where
      k : ℤ
      k = pos (times d S)

      g : ℤ
      g = pos (common d S)

      opposite : (q : ℤ) → k *ℤ (q *ℤ g) +ℤ q *ℤ neg_ℤ (k *ℤ g) ≡ pos 0
      opposite q = ap (λ u. k *ℤ (q *ℤ g) +ℤ u) (step q) ∙ +ℤ_invr (k *ℤ (q *ℤ g))
        where
          step : (q : ℤ) → q *ℤ neg_ℤ (k *ℤ g) ≡ neg_ℤ (k *ℤ (q *ℤ g))
          step q = simp ringℤ

      opposite-too : (q : ℤ) → k *ℤ (q *ℤ g) +ℤ neg_ℤ q *ℤ (k *ℤ g) ≡ pos 0
      opposite-too q = ap (λ u. k *ℤ (q *ℤ g) +ℤ u) (step q) ∙ +ℤ_invr (k *ℤ (q *ℤ g))
        where
          step : (q : ℤ) → neg_ℤ q *ℤ (k *ℤ g) ≡ neg_ℤ (k *ℤ (q *ℤ g))
          step q = simp ringℤ

      below : T (lt_z d (pos 0)) → k *ℤ S +ℤ (share d S) *ℤ d ≡ pos 0
      below t = ap₂ (λ s e. k *ℤ s +ℤ (share d S) *ℤ e) (sym share-common) (below-zero d t ∙ ap neg_ℤ (sym times-common))
          ∙ opposite (share d S)

      above : T (not (lt_z d (pos 0))) → k *ℤ S +ℤ neg_ℤ (share d S) *ℤ d ≡ pos 0
      above t = ap₂ (λ s e. k *ℤ s +ℤ neg_ℤ (share d S) *ℤ e) (sym share-common) (from_zero d t ∙ sym times-common)
          ∙ opposite-too (share d S)

  size-positive : 0 < nat_abs d
  size-positive = pos_of_ne-zero (λ e. nonzero (nat_abs-zero e))

  pub common-positive : 0 < (common d S)
  common-positive = gcd-pos-left (nat_abs d) (nat_abs S) size-positive

  sizes : (times d S) * (common d S) ≡ nat_abs d
  sizes = ap nat_abs times-common

  pub times-positive : 0 < (times d S)
  times-positive = pos_of_ne-zero (λ e. omega (arith, size-positive, sym sizes ∙ ap (λ x. x * (common d S)) e))

  solved-size : nat_abs (solved d S) * (common d S) ≡ nat_abs S
  solved-size = solved-cases (λ x. nat_abs x * (common d S) ≡ nat_abs S) (λ _. one)
      (λ _. ap (λ x. x * (common d S)) (nat_abs-neg_ℤ (share d S)) ∙ one)
    where
      one : nat_abs (share d S) * (common d S) ≡ nat_abs S
      one = sym (nat_abs-*ℤ (share d S) (pos (common d S))) ∙ ap nat_abs share-common

  -- The factor and the new value have no (common d S) divisor.
  pub coprime : gcd (times d S) (nat_abs (solved d S)) ≡ 1
  coprime = eq_of_mul-eq-mul_left (common d S) common-positive (gcd (times d S) (nat_abs (solved d S))) 1
      (sym (gcd-mul (common d S) (times d S) (nat_abs (solved d S)) common-positive) ∙ ap₂ gcd swapped swapped-too
      ∙ sym (mul-one (common d S)))
    where
      swapped : (common d S) * (times d S) ≡ nat_abs d
      swapped = mul_comm (common d S) (times d S) ∙ sizes

      swapped-too : (common d S) * nat_abs (solved d S) ≡ nat_abs S
      swapped-too = mul_comm (common d S) (nat_abs (solved d S)) ∙ solved-size

-- ---- one step

-- 1 at column c and 0 elsewhere.
spike : ℕ → ℕ → ℤ
spike c j = cond (eqb j c) (pos 1) (pos 0)

spike-here : (c : ℕ) → spike c c ≡ pos 1
unfolding spike
spike-here c = cond-passed (eqb c c) (pos 1) (pos 0) (eqb_refl c)

spike-away : (c j : ℕ) → j ≢ c → spike c j ≡ pos 0
unfolding spike
spike-away c j h = cond-failed (eqb j c) (pos 1) (pos 0) (λ t. h (eqb→eq j c t))

module _ (n : ℕ) (v : List ℤ) (k x : ℤ) (c : ℕ) (size : length v ≡ n) (below : c < n) (none : at v c ≡ pos 0) where
  new : List ℤ
  new = set (scale k v) c x

  new-length : length new ≡ n
  unfolding new scale
  new-length = length-set (scale k v) c x ∙ length-map v (λ a. k *ℤ a) ∙ size

  scaled : (j : ℕ) → at (scale k v) j ≡ k *ℤ at v j
  unfolding at coeff
  scaled j = coeff-scale k v j

  new-here : at new c ≡ x
  unfolding new scale at
  new-here = get_or-set_same (scale k v) c x (pos 0) (subst (λ m. c < m) (sym (length-map v (λ a. k *ℤ a) ∙ size)) below)

  new-away : (j : ℕ) → j ≢ c → at new j ≡ k *ℤ at v j
  unfolding new at
  new-away j h = get_or-set_other (scale k v) c j x (pos 0) h ∙ scaled j

  new-at : (j : ℕ) → at new j ≡ k *ℤ at v j +ℤ x *ℤ spike c j
  new-at j = by_cases (ℕ_discrete j c) here away
    where
      here : j ≡ c → at new j ≡ k *ℤ at v j +ℤ x *ℤ spike c j
      here e =
          ap (at new) e ∙ new-here ∙ sym (*ℤ-1 x) ∙ sym (+ℤ_idl (x *ℤ pos 1))
          ∙ sym (ap₂ ◌+ℤ◌ (ap (λ u. k *ℤ u) (ap (at v) e ∙ none) ∙ *ℤ-zero k) (ap (λ u. x *ℤ u) (ap (spike c) e ∙ spike-here c)))

      away : j ≢ c → at new j ≡ k *ℤ at v j +ℤ x *ℤ spike c j
      away h = new-away j h ∙ sym (+ℤ_idr (k *ℤ at v j))
          ∙ sym (ap (λ u. k *ℤ at v j +ℤ u) (ap (λ u. x *ℤ u) (spike-away c j h) ∙ *ℤ-zero x))

  -- What a row says of the new vector.
  new-pair : (f : ℕ → ℤ) → pair n f (at new) ≡ k *ℤ pair n f (at v) +ℤ x *ℤ f c
  new-pair f =
      pair-congr n f f (at new) (λ j. k *ℤ at v j +ℤ x *ℤ spike c j) (λ j _. refl) (λ j _. new-at j)
      ∙ pair-right n k x f (at v) (spike c)
      ∙ ap (λ u. k *ℤ pair n f (at v) +ℤ x *ℤ u)
      (pair-only n c f (spike c) below (λ j _ h. ap (λ u. f j *ℤ u) (spike-away c j h) ∙ *ℤ-zero (f j))
      ∙ ap (λ u. f c *ℤ u) (spike-here c) ∙ *ℤ-1 (f c))

  -- A common divisor of the new vector divides the factor, where the old one has none, and the new value.
  new-divides : (e : ℕ) → DividesAll e new → DividesAll e (scale k v) × DividesZ e x
  unfolding at
  new-divides e h = (λ j. by_cases (ℕ_discrete j c) (here j) (away j), subst (DividesZ e) new-here (h c))
    where
      here : (j : ℕ) → j ≡ c → DividesZ e (get_or (scale k v) j (pos 0))
      here j s = subst (DividesZ e) (sym (scaled j ∙ ap (λ u. k *ℤ u) (ap (at v) s ∙ none) ∙ *ℤ-zero k)) (dvd-zero e)

      away : (j : ℕ) → j ≢ c → DividesZ e (get_or (scale k v) j (pos 0))
      away j s = subst (DividesZ e) (new-away j s ∙ sym (scaled j)) (h j)

-- The back substitution with one more row.
pub substitute-solves : (n : ℕ) (p : Pivot) (ps : List Pivot) → Echelon n (p ∷ ps) → (f : ℕ) → p.column ≢ f → (v : List ℤ)
    → Solves n ps f v
    → Solves n (p ∷ ps) f (substitute p v)
unfolding substitute Echelon Free All Kills new
substitute-solves n p ps t f other v s =
    record {
      size = new-length n v k x c s.size below none;
      kills = (
        own,
        all-mono (λ q. (at q.numbers c ≡ pos 0) × Kills n (at v) q.numbers) (λ q. Kills n (at w) q.numbers) later ps
            (all_both (λ q. at q.numbers c ≡ pos 0) (λ q. Kills n (at v) q.numbers) ps t.2 s.kills),
      );
      positive = (
        times d S * s.positive.0,
        mul-pos (times-positive d S t.1) s.positive.1,
        new-away n v k x c s.size below none f (λ e. other (sym e)) ∙ ap (λ u. k *ℤ u) s.positive.2,
      );
      elsewhere = λ j h z. new-away n v k x c s.size below none j (λ e. z.0 (sym e)) ∙ ap (λ u. k *ℤ u) (s.elsewhere j h z.1)
          ∙ *ℤ-zero k;
      primitive = eq-one_of_dvd-one (subst (λ m. content w ∣ m) (coprime d S t.1)
          (divides-gcd (content w) (times d S) (nat_abs x)
          (subst (λ m. content w ∣ m) (content-scale (times d S) v (times-positive d S t.1) ∙ ap (λ m. times d S * m) s.primitive
          ∙ mul-one (times d S))
          (divides-content (content w) (scale k v) shared.0)) shared.1));
    }
  where
    d : ℤ
    d = pivot_of p

    S : ℤ
    S = dot p.numbers v

    c : ℕ
    c = p.column

    k : ℤ
    k = pos (times d S)

    x : ℤ
    x = solved d S

    w : List ℤ
    w = set (scale k v) c x

    below : c < n
    below = subst (λ m. c < m) t.0 (place-below p.numbers c t.1)

    none : at v c ≡ pos 0
    none = s.elsewhere c other (echelon-free n ps t.3 c t.2)

    sum : S ≡ pair n (at p.numbers) (at v)
    sum = dot-pair p.numbers v ∙ ap (λ m. pair m (at p.numbers) (at v)) t.0

    own : pair n (at p.numbers) (at w) ≡ pos 0
    own = new-pair n v k x c s.size below none (at p.numbers) ∙ ap (λ u. k *ℤ u +ℤ x *ℤ at p.numbers c) (sym sum)
        ∙ solved-zero d S t.1

    later : (q : Pivot) → (at q.numbers c ≡ pos 0) × Kills n (at v) q.numbers → Kills n (at w) q.numbers
    later q h = new-pair n v k x c s.size below none (at q.numbers)
        ∙ ap₂ ◌+ℤ◌ (ap (λ u. k *ℤ u) h.1 ∙ *ℤ-zero k) (ap (λ u. x *ℤ u) h.0 ∙ *ℤ-zero x)

    shared : DividesAll (content w) (scale k v) × DividesZ (content w) x
    shared = new-divides n v k x c s.size below none (content w) (content-divides w)

-- At the other columns the vector is taken so many times.
pub substitute-away : (p : Pivot) (v : List ℤ) (j : ℕ) → j ≢ p.column
    → at (substitute p v) j ≡ pos (times (pivot_of p) (dot p.numbers v)) *ℤ at v j
unfolding substitute at coeff
substitute-away p v j h =
    let k : ℤ = pos (times (pivot_of p) (dot p.numbers v)) in
    get_or-set_other (scale k v) p.column j (solved (pivot_of p) (dot p.numbers v)) (pos 0) h ∙ coeff-scale k v j

pub unit-solves : (n f : ℕ) → f < n → Solves n [] f (unit n f)
unfolding unit All Free at
unit-solves n f h =
    record {
      size = length-set (replicate n (pos 0)) f (pos 1) ∙ length-replicate n (pos 0);
      kills = tt;
      positive = (1, omega arith, here);
      elsewhere = λ c s _. get_or-set_other (replicate n (pos 0)) f c (pos 1) (pos 0) s
          ∙ get_or-replicate-each (λ a. a ≡ pos 0) n (pos 0) (pos 0) c refl refl;
      primitive = eq-one_of_dvd-one (subst (λ a. content (unit n f) ∣ nat_abs a) here (content-divides (unit n f) f));
    }
  where
    here : get_or (set (replicate n (pos 0)) f (pos 1)) f (pos 0) ≡ pos 1
    here = get_or-set_same (replicate n (pos 0)) f (pos 1) (pos 0) (subst (λ m. f < m) (sym (length-replicate n (pos 0))) h)

pub vector-solves : (n : ℕ) (ps : List Pivot) → Echelon n ps → (f : ℕ) → f < n → Free ps f → Solves n ps f (vector_at n ps f)
unfolding vector_at substitute_all_of Echelon Free All
vector-solves n ps t f h z = go ps t z
  where
    go : (ps : List Pivot) → Echelon n ps → Free ps f → Solves n ps f (substitute_all_of ps (unit n f))
    go [] t z = unit-solves n f h
    go (p ∷ ps) t z = substitute-solves n p ps t f z.0 (substitute_all_of ps (unit n f)) (go ps t.3 z.1)
