-- The elimination keeps what the rows say, and leaves settled rows that can be substituted back.
--
-- Main definitions
--   Echelon n ps         rows of n numbers, nonzero at their own columns and zero at those of the rows before
-- Main statements
--   factors-cancel, factors-nonzero   rule 2's g and h of two integers: g b + h a = 0, and g is not zero
--   reduce_by-reduced, reduce_all-reduced   a row behind one settled row, and behind all of them
--   eliminate-settled    the settled rows at the end, whose sums a vector makes 0 exactly if it makes those of all rows 0
use Prim.Native.Nat.{ℕ, zero, suc}
use Rattle.std.specs.Prelude.{◌≡◌, ◌≢◌, ◌↔◌, Bool, true, false, cond, T, get_or, nat_abs, ◌+ℤ◌, ◌*ℤ◌}
use Rattle.std.proofs.Math.Path.{refl, sym, ap, subst}
use Rattle.std.proofs.Common.{◌∙◌, ap₂, arith}
use Rattle.std.proofs.Math.Logic.{⊎_elim}
use mathlib.Core.Logic.Iff
use mathlib.Core.List.{List, [], ◌∷◌, ◌++◌, zip_with}
use Rattle.std.proofs.Math.Option.{Option, none, some, map}
use Rattle.std.proofs.Math.ListN.{length}
use Rattle.std.proofs.Math.IntN.{ℤ, pos, neg_ℤ, *ℤ-zero, zero-*ℤ, +ℤ_invl, +ℤ_comm, +ℤ_idr, *ℤ_comm, neg_ℤ-neg_ℤ}
use Rattle.std.specs.Int.Signed.{lt_z, quot_z}
use Rattle.algebra.specs.Integers.{ringℤ, one-*ℤ, pos-nonzero, no-zero-divisors}
use Rattle.algebra.specs.Sums.{sum_below-zeros}
use Rattle.algebra.specs.Division.{DividesZ, quot_z-divides_z}
use Rattle.algebra.specs.Gcd.{gcd, content, divide_by, gcd-divides-left, gcd-divides-right, content-divides, divide_by-get_or}
use Rattle.algebra.specs.Gcd.{length-divide_by}
use Rattle.algebra.specs.Polynomials.{is_zero_ℤ, is_zero_ℤ-iff}
use Rattle.lists.specs.Everywhere.{All}
use Rattle.lists.specs.Tests.{every}
use Rattle.rules.specs.Limits.{small}
use Rattle.constant_rows.specs.Constants.{Judged, fine, passed, and_on}
use Rattle.echelon.specs.Eliminated.{Pivot, at, pivot_of, Factors, the_factors_of, combined, whole, limited, reduce_by_of, reduce_all_of}
use Rattle.echelon.specs.Eliminated.{first_at, settle_at, eliminate}
use Rattle.echelon.specs.Pairing.{pair, Kills, pair-congr, pair-combined, pair-scaled}

-- ---- what is judged

pub and_on-fine : {A B : Type 0} (o : Judged A) (f : A → Judged B) (b : B) → and_on o f ≡ fine b → (a : A) × (o ≡ fine a) × (f a ≡ fine b)
unfolding and_on
and_on-fine (fine a) f b e = (a, refl, e)
and_on-fine (passed n) f b e = let z : ◌≡◌ {A = ℕ} 0 1 = cc in absurd (omega arith)

pub limited-fine : (r q : List ℤ) → limited r ≡ fine q → (r ≡ q) × T (every small r)
unfolding limited
limited-fine r q e = cases (every small r) e
  where
    cases : (t : Bool) → cond t (fine r) (passed 8) ≡ fine q → (r ≡ q) × T t
    cases true h = (cc, tt)
    cases false h = let z : ◌≡◌ {A = ℕ} 0 1 = cc in absurd (omega arith)

-- ---- rule 2's multipliers

either : (P : Factors → Type 0) (t : Bool) (x y : Factors) → P x → P y → P (cond t x y)
either P true x y h k = h
either P false x y h k = k

opposite : (x y d : ℤ) → neg_ℤ x *ℤ (y *ℤ d) +ℤ y *ℤ (x *ℤ d) ≡ pos 0
opposite x y d = ap (λ u. u +ℤ y *ℤ (x *ℤ d)) step ∙ +ℤ_invl (y *ℤ (x *ℤ d))
  where
    step : neg_ℤ x *ℤ (y *ℤ d) ≡ neg_ℤ (y *ℤ (x *ℤ d))
    step = simp ringℤ

module _ (a b : ℤ) (nonzero : a ≢ pos 0) where
  divisor : ℤ
  divisor = pos (gcd (nat_abs a) (nat_abs b))

  quotient-a : quot_z a divisor *ℤ divisor ≡ a
  unfolding divisor
  quotient-a = quot_z-divides_z (gcd (nat_abs a) (nat_abs b)) a (gcd-divides-left (nat_abs a) (nat_abs b))

  quotient-b : quot_z b divisor *ℤ divisor ≡ b
  unfolding divisor
  quotient-b = quot_z-divides_z (gcd (nat_abs a) (nat_abs b)) b (gcd-divides-right (nat_abs a) (nat_abs b))

  quotient-nonzero : quot_z a divisor ≢ pos 0
  quotient-nonzero e = nonzero (sym quotient-a ∙ ap (λ q. q *ℤ divisor) e ∙ zero-*ℤ divisor)

  pub factors-cancel : (the_factors_of a b).g *ℤ b +ℤ (the_factors_of a b).h *ℤ a ≡ pos 0
  unfolding the_factors_of divisor
  factors-cancel =
      either (λ f. f.g *ℤ b +ℤ f.h *ℤ a ≡ pos 0) (lt_z a (pos 0)) (record { g = neg_ℤ x; h = y })
      (record { g = x; h = neg_ℤ y }) first second
    where
      x : ℤ
      x = quot_z a divisor

      y : ℤ
      y = quot_z b divisor

      first : neg_ℤ x *ℤ b +ℤ y *ℤ a ≡ pos 0
      first = ap₂ (λ u w. neg_ℤ x *ℤ u +ℤ y *ℤ w) (sym quotient-b) (sym quotient-a) ∙ opposite x y divisor

      second : x *ℤ b +ℤ neg_ℤ y *ℤ a ≡ pos 0
      second = ap₂ (λ u w. x *ℤ u +ℤ neg_ℤ y *ℤ w) (sym quotient-b) (sym quotient-a)
          ∙ +ℤ_comm (x *ℤ (y *ℤ divisor)) (neg_ℤ y *ℤ (x *ℤ divisor)) ∙ opposite y x divisor

  pub factors-nonzero : (the_factors_of a b).g ≢ pos 0
  unfolding the_factors_of divisor
  factors-nonzero =
      let x : ℤ = quot_z a divisor in
      let y : ℤ = quot_z b divisor in
      either (λ f. f.g ≢ pos 0) (lt_z a (pos 0)) (record { g = neg_ℤ x; h = y }) (record { g = x; h = neg_ℤ y })
      (λ e. quotient-nonzero (sym (neg_ℤ-neg_ℤ x) ∙ ap neg_ℤ e)) quotient-nonzero

-- ---- one combination

pub at-combined : (x : Factors) (r q : List ℤ) → length r ≡ length q → (j : ℕ) → at (combined x r q) j ≡ x.g *ℤ at r j +ℤ x.h *ℤ at q j
unfolding at combined zip_with
at-combined x [] [] e j = sym (ap₂ ◌+ℤ◌ (*ℤ-zero x.g) (*ℤ-zero x.h))
at-combined x [] (b ∷ q) e j = absurd (omega arith)
at-combined x (a ∷ r) [] e j = absurd (omega arith)
at-combined x (a ∷ r) (b ∷ q) e zero = refl
at-combined x (a ∷ r) (b ∷ q) e (suc j) = at-combined x r q (omega arith) j

pub length-combined : (x : Factors) (r q : List ℤ) → length r ≡ length q → length (combined x r q) ≡ length r
unfolding combined zip_with
length-combined x [] q e = refl
length-combined x (a ∷ r) [] e = absurd (omega arith)
length-combined x (a ∷ r) (b ∷ q) e = ap suc (length-combined x r q (omega arith))

divided : ℕ → List ℤ → List ℤ
divided c r = elim c [ zero ↦ r | suc d ↦ divide_by (suc d) r ]

-- The row is a nonzero multiple of what is left of it.
pub whole_multiple : (r : List ℤ) → (d : ℤ) × (d ≢ pos 0) × ((j : ℕ) → at r j ≡ d *ℤ at (whole r) j) × (length (whole r) ≡ length r)
unfolding whole at divided
whole_multiple r = cases (content r) (content-divides r)
  where
    cases : (c : ℕ) → ((k : ℕ) → DividesZ c (get_or r k (pos 0)))
        → (d : ℤ) × (d ≢ pos 0) × ((j : ℕ) → get_or r j (pos 0) ≡ d *ℤ get_or (divided c r) j (pos 0)) × (length (divided c r) ≡ length r)
    cases zero h = (pos 1, pos-nonzero (omega arith), λ j. sym (one-*ℤ (get_or r j (pos 0))), refl)
    cases (suc e) h = (
      pos (suc e),
      pos-nonzero (omega arith),
      λ j. sym (*ℤ_comm (pos (suc e)) (get_or (divide_by (suc e) r) j (pos 0)) ∙ ap (λ q. q *ℤ pos (suc e)) (divide_by-get_or (suc e) r j)
          ∙ quot_z-divides_z (suc e) (get_or r j (pos 0)) (h j)),
      length-divide_by (suc e) r,
    )

-- ---- what one settled row does to a row

module _ (n : ℕ) (p : Pivot) (nonzero : pivot_of p ≢ pos 0) (size : length p.numbers ≡ n) (r : List ℤ) (fits : length r ≡ n) where
  -- Either the row is zero there and stays, or it is a nonzero multiple of the combination.
  pub record Reduced (q : List ℤ) : Type 0 where
    pub g : ℤ
    pub h : ℤ
    pub d : ℤ
    pub g-nonzero : g ≢ pos 0
    pub d-nonzero : d ≢ pos 0
    pub entries : (j : ℕ) → g *ℤ at r j +ℤ h *ℤ at p.numbers j ≡ d *ℤ at q j
    pub same_length : length q ≡ n
    pub cleared : at q p.column ≡ pos 0

  pub reduce_by-reduced : (q : List ℤ) → reduce_by_of p r ≡ fine q → Reduced q
  unfolding reduce_by_of pivot_of
  reduce_by-reduced q e = cases (is_zero_ℤ b) (is_zero_ℤ-iff b).0 e
    where
      b : ℤ
      b = at r p.column

      x : Factors
      x = the_factors_of (pivot_of p) b

      new : List ℤ
      new = combined x r p.numbers

      stays : b ≡ pos 0 → r ≡ q → Reduced q
      stays z s =
          record {
            g = pos 1;
            h = pos 0;
            d = pos 1;
            g-nonzero = pos-nonzero (omega arith);
            d-nonzero = pos-nonzero (omega arith);
            entries = λ j. ap (λ u. pos 1 *ℤ at r j +ℤ u) (zero-*ℤ (at p.numbers j)) ∙ +ℤ_idr (pos 1 *ℤ at r j)
                ∙ ap (λ u. pos 1 *ℤ at u j) s;
            same_length = sym (ap length s) ∙ fits;
            cleared = sym (ap (λ u. at u p.column) s) ∙ z;
          }

      made : whole new ≡ q → Reduced q
      made s =
          let m = whole_multiple new in
          let sizes : length r ≡ length p.numbers = fits ∙ sym size in
          record {
            g = x.g;
            h = x.h;
            d = m.0;
            g-nonzero = factors-nonzero (pivot_of p) b nonzero;
            d-nonzero = m.1;
            entries = λ j. sym (at-combined x r p.numbers sizes j) ∙ m.2 j ∙ ap (λ u. m.0 *ℤ at u j) s;
            same_length = sym (ap length s) ∙ m.3 ∙ length-combined x r p.numbers sizes ∙ fits;
            cleared = ⊎_elim (λ z. absurd (m.1 z)) (λ z. z) (no-zero-divisors m.0 (at q p.column)
                (sym (m.2 p.column ∙ ap (λ u. m.0 *ℤ at u p.column) s) ∙ at-combined x r p.numbers sizes p.column
                ∙ factors-cancel (pivot_of p) b nonzero));
          }

      cases : (t : Bool) → (T t → b ≡ pos 0) → cond t (fine r) (limited (whole new)) ≡ fine q → Reduced q
      cases true h s = stays (h tt) (cc)
      cases false h s = made (limited-fine (whole new) q s).0

-- ---- all settled rows

-- Rows of n numbers, nonzero at their own columns; each is zero at the columns of the rows before it (SCOPE 14.42, 14.44).
unfoldable pub Echelon : ℕ → List Pivot → Type 0
unfolding All
Echelon n [] = Unit {0}
Echelon n (p ∷ ps) = (length p.numbers ≡ n) × (pivot_of p ≢ pos 0) × All (λ q. at q.numbers p.column ≡ pos 0) ps × Echelon n ps

abbrev pub KillsAll : ℕ → (ℕ → ℤ) → List Pivot → Type 0
KillsAll n v ps = All (λ p. Kills n v p.numbers) ps

module _ (n : ℕ) where
  -- A vector in the kernel of the settled row: the row before and the row after say the same of it.
  reduced-kernel : (p : Pivot) (nonzero : pivot_of p ≢ pos 0) (size : length p.numbers ≡ n) (r : List ℤ) (fits : length r ≡ n)
      (q : List ℤ)
      → Reduced n p nonzero size r fits q → (v : ℕ → ℤ) → Kills n v p.numbers → Kills n v r ↔ Kills n v q
  unfolding Kills
  reduced-kernel p nonzero size r fits q w v k = (
    λ e. cancel w.d (pair n (at q) v) w.d-nonzero (sym same ∙ ap (λ u. w.g *ℤ u) e ∙ *ℤ-zero w.g),
    λ e. cancel w.g (pair n (at r) v) w.g-nonzero (same ∙ ap (λ u. w.d *ℤ u) e ∙ *ℤ-zero w.d),
  )
    where
      cancel : (a b : ℤ) → a ≢ pos 0 → a *ℤ b ≡ pos 0 → b ≡ pos 0
      cancel a b h e = ⊎_elim (λ z. absurd (h z)) (λ z. z) (no-zero-divisors a b e)

      same : w.g *ℤ pair n (at r) v ≡ w.d *ℤ pair n (at q) v
      same =
          sym (+ℤ_idr (w.g *ℤ pair n (at r) v)) ∙ sym (ap (λ u. w.g *ℤ pair n (at r) v +ℤ u) (ap (λ u. w.h *ℤ u) k ∙ *ℤ-zero w.h))
          ∙ sym (pair-combined n w.g w.h (at r) (at p.numbers) v)
          ∙ pair-congr n (λ j. w.g *ℤ at r j +ℤ w.h *ℤ at p.numbers j) (λ j. w.d *ℤ at q j) v v (λ j _. w.entries j) (λ j _. refl)
          ∙ pair-scaled n w.d (at q) v

  -- A column that is zero in the row and in the settled row stays zero.
  reduced-zero : (p : Pivot) (nonzero : pivot_of p ≢ pos 0) (size : length p.numbers ≡ n) (r : List ℤ) (fits : length r ≡ n) (q : List ℤ)
      → Reduced n p nonzero size r fits q → (c : ℕ) → at p.numbers c ≡ pos 0 → at r c ≡ pos 0 → at q c ≡ pos 0
  reduced-zero p nonzero size r fits q w c z y =
      ⊎_elim (λ e. absurd (w.d-nonzero e)) (λ e. e) (no-zero-divisors w.d (at q c)
      (sym (w.entries c) ∙ ap₂ ◌+ℤ◌ (ap (λ u. w.g *ℤ u) y ∙ *ℤ-zero w.g) (ap (λ u. w.h *ℤ u) z ∙ *ℤ-zero w.h)))

  -- Rule 2 with all settled rows: the length stays, zeros at columns where the settled rows are zero stay, the row is zero at the
  -- columns of the settled rows, and of a vector in their kernel it says the same.
  pub record ReducedAll (ps : List Pivot) (r q : List ℤ) : Type 0 where
    pub length-kept : length q ≡ n
    pub zeros-kept : (c : ℕ) → All (λ p. at p.numbers c ≡ pos 0) ps → at r c ≡ pos 0 → at q c ≡ pos 0
    pub zero-at : All (λ p. at q p.column ≡ pos 0) ps
    pub kernel-kept : (v : ℕ → ℤ) → KillsAll n v ps → Kills n v r ↔ Kills n v q

  pub reduce_all-reduced : (ps : List Pivot) → Echelon n ps → (r : List ℤ) → length r ≡ n → (q : List ℤ) → reduce_all_of ps r ≡ fine q
      → ReducedAll ps r q
  unfolding reduce_all_of Echelon All
  reduce_all-reduced [] t r fits q e =
      let same : r ≡ q = cc in
      record {
        length-kept = sym (ap length same) ∙ fits;
        zeros-kept = λ c _ z. subst (λ u. at u c ≡ pos 0) same z;
        zero-at = tt;
        kernel-kept = λ v _. subst (λ u. Kills n v r ↔ Kills n v u) same Iff.rfl;
      }
  reduce_all-reduced (p ∷ ps) t r fits q e =
      let (one, first, rest) = and_on-fine (reduce_by_of p r) (reduce_all_of ps) q e in
      let w = reduce_by-reduced n p t.1 t.0 r fits one first in
      let more = reduce_all-reduced ps t.3 one w.same_length q rest in
      record {
        length-kept = more.length-kept;
        zeros-kept = λ c z y. more.zeros-kept c z.1 (reduced-zero p t.1 t.0 r fits one w c z.0 y);
        zero-at = (more.zeros-kept p.column t.2 w.cleared, more.zero-at);
        kernel-kept = λ v k. Iff.trans (reduced-kernel p t.1 t.0 r fits one w v k.0) (more.kernel-kept v k.1);
      }

-- ---- the rows one after another

first-nonzero : (r : List ℤ) (c : ℕ) → first_at r ≡ some c → at r c ≢ pos 0
unfolding first_at at
first-nonzero [] c e = let z : ◌≡◌ {A = ℕ} 0 1 = cc in absurd (omega arith)
first-nonzero (a ∷ r) c e = cases (is_zero_ℤ a) (is_zero_ℤ-iff a).1 (first_at r) (first-nonzero r) e
  where
    cases : (t : Bool) → (a ≡ pos 0 → T t) → (o : Option ℕ) → ((k : ℕ) → o ≡ some k → at r k ≢ pos 0)
        → cond t (map suc o) (some 0) ≡ some c → get_or (a ∷ r) c (pos 0) ≢ pos 0
    cases true h none f s = let z : ◌≡◌ {A = ℕ} 0 1 = cc in absurd (omega arith)
    cases true h (some k) f s = let same : suc k ≡ c = cc in subst (λ j. get_or (a ∷ r) j (pos 0) ≢ pos 0) same (f k refl)
    cases false h o f s = let same : 0 ≡ c = cc in subst (λ j. get_or (a ∷ r) j (pos 0) ≢ pos 0) same (λ z. absurd (h z))

first-none : (r : List ℤ) → first_at r ≡ none → (j : ℕ) → at r j ≡ pos 0
unfolding first_at at
first-none [] e j = refl
first-none (a ∷ r) e j = cases (is_zero_ℤ a) (is_zero_ℤ-iff a).0 (first_at r) (first-none r) e j
  where
    cases : (t : Bool) → (T t → a ≡ pos 0) → (o : Option ℕ) → (o ≡ none → (k : ℕ) → at r k ≡ pos 0)
        → cond t (map suc o) (some 0) ≡ none → (k : ℕ) → get_or (a ∷ r) k (pos 0) ≡ pos 0
    cases true h none f s zero = h tt
    cases true h none f s (suc k) = f refl k
    cases true h (some i) f s k = let z : ◌≡◌ {A = ℕ} 0 1 = cc in absurd (omega arith)
    cases false h o f s k = let z : ◌≡◌ {A = ℕ} 0 1 = cc in absurd (omega arith)

module _ (n : ℕ) where
  all_snoc : {A : Type 0} (P : A → Type 0) (l : List A) (x : A) → (All P l × P x) ↔ All P (l ++ (x ∷ []))
  unfolding All
  all_snoc P [] x = (λ h. (h.1, tt), λ h. (tt, h.0))
  all_snoc P (y ∷ l) x =
      let rest = all_snoc P l x in
      (λ h. (h.0.0, rest.0 (h.0.1, h.1)), λ h. let a = rest.1 h.1 in ((h.0, a.0), a.1))

  echelon-snoc : (ps : List Pivot) (q : Pivot) → Echelon n ps → length q.numbers ≡ n → pivot_of q ≢ pos 0
      → All (λ p. at q.numbers p.column ≡ pos 0) ps → Echelon n (ps ++ (q ∷ []))
  unfolding Echelon All
  echelon-snoc [] q t size nonzero z = (size, nonzero, tt, tt)
  echelon-snoc (p ∷ ps) q t size nonzero z =
      (t.0, t.1, (all_snoc (λ r. at r.numbers p.column ≡ pos 0) ps q).0 (t.2, z.0), echelon-snoc ps q t.3 size nonzero z.1)

  pub record Settled (ps qs : List Pivot) (rows : List (List ℤ)) : Type 0 where
    pub echelon : Echelon n qs
    pub kernel : (v : ℕ → ℤ) → (KillsAll n v ps × All (Kills n v) rows) ↔ KillsAll n v qs

  -- A row that is reduced is settled, or it is zero and dropped.
  settled-one : (ps : List Pivot) → Echelon n ps → (r q : List ℤ) → ReducedAll n ps r q → (o : Option ℕ) → first_at q ≡ o
      → Echelon n (settle_at ps q o) × ((v : ℕ → ℤ) → (KillsAll n v ps × Kills n v r) ↔ KillsAll n v (settle_at ps q o))
  unfolding settle_at pivot_of Kills pair
  settled-one ps t r q w none e =
      (t, λ v. (λ h. h.0, λ h. (h, (w.kernel-kept v h).1 (zero-pair v))))
    where
      zero-pair : (v : ℕ → ℤ) → pair n (at q) v ≡ pos 0
      zero-pair v = sum_below-zeros n (λ j. at q j *ℤ v j) (λ j _. ap (λ u. u *ℤ v j) (first-none q e j) ∙ zero-*ℤ (v j))
  settled-one ps t r q w (some c) e =
      let new : Pivot = record { numbers = q; column = c } in (
        echelon-snoc ps new t w.length-kept (first-nonzero q c e) w.zero-at,
        λ v. Iff.trans (λ h. (h.0, (w.kernel-kept v h.0).0 h.1), λ h. (h.0, (w.kernel-kept v h.0).1 h.1))
            (all_snoc (λ p. Kills n v p.numbers) ps new),
      )

  pub eliminate-settled : (rows : List (List ℤ)) (ps : List Pivot) → Echelon n ps → All (λ r. length r ≡ n) rows
      → (qs : List Pivot) → eliminate ps rows ≡ fine qs → Settled ps qs rows
  unfolding eliminate All
  eliminate-settled [] ps t s qs e =
      let same : ps ≡ qs = cc in
      record {
        echelon = subst (Echelon n) same t;
        kernel = λ v. subst (λ u. (KillsAll n v ps × Unit {0}) ↔ KillsAll n v u) same (λ h. h.0, λ h. (h, tt));
      }
  eliminate-settled (r ∷ rows) ps t s qs e =
      let (q, first, rest) = and_on-fine (reduce_all_of ps r) (λ q. eliminate (settle_at ps q (first_at q)) rows) qs e in
      let (u, k) = settled-one ps t r q (reduce_all-reduced n ps t r s.0 q first) (first_at q) refl in
      let more = eliminate-settled rows (settle_at ps q (first_at q)) u s.1 qs rest in
      record {
        echelon = more.echelon;
        kernel = λ v. Iff.trans (λ h. ((k v).0 (h.0, h.1.0), h.1.1), λ h. let a = (k v).1 h.0 in (a.0, (a.1, h.1)))
            (more.kernel v);
      }
