-- The listed vectors span the kernel of the settled rows, and they are the only ones with their properties (SCOPE 14.71, 14.72).
--
-- Main definitions
--   combination ks vs   the integer combination of vectors
-- Main statements
--   kernel-zero     a vector in the kernel that is zero at all free columns is zero
--   spanned         a vector in the kernel, times a nonzero integer, is an integer combination of the listed vectors
--   solves-unique   the properties of a listed vector determine it
use Prim.Native.Nat.{ℕ, zero, suc, ◌+◌, ◌*◌, ◌≤◌, ◌<◌}
use Rattle.std.specs.Prelude.{◌≡◌, refl, ◌≢◌, ◌⊎◌, Bool, true, false, cond, T, length, neg_ℤ, ◌+ℤ◌, ◌-ℤ◌, ◌*ℤ◌}
use Rattle.std.proofs.Math.Path.{sym, ap}
use Rattle.std.proofs.Common.{◌∙◌, ap₂, subst, mul-one, arith}
use Rattle.std.proofs.Math.Logic.{inl, inr, ⊎_elim, by_cases}
use mathlib.Core.List.{List, [], ◌∷◌, map}
use Rattle.std.proofs.Math.Decide.{ℕ_discrete}
use Rattle.std.proofs.lemmas.List.{length-map}
use Rattle.std.proofs.Math.Seq.{ext_get_or}
use Rattle.std.proofs.Math.IntN.{ℤ, pos, *ℤ-zero, zero-*ℤ, +ℤ_idl, +ℤ_idr, +ℤ_invr, *ℤ_comm}
use Rattle.algebra.specs.Integers.{ringℤ, *ℤ-assoc, one-*ℤ, no-zero-divisors, *ℤ-nonzero, pos-nonzero, -ℤ-zero, *ℤ-cancel-left, neg_ℤ-*ℤ}
use Rattle.algebra.specs.Sums.{count_from, sum_below-zeros}
use Rattle.algebra.specs.Gcd.{content, content-scale}
use Rattle.algebra.specs.Polynomials.{scale, coeff}
use Rattle.algebra.specs.Coefficients.{coeff-scale}
use Rattle.lists.specs.Everywhere.{All, all-mono, all_both, all-always}
use Rattle.lists.specs.Sifted.{keep}
use Rattle.echelon.specs.Eliminated.{Pivot, at, pivot_of}
use Rattle.back_substitution.specs.Listed.{is_free_of, free_columns, vector_at}
use Rattle.echelon.specs.Pairing.{pair, Kills, pair-congr, pair-right, pair-only}
use Rattle.echelon.specs.KernelKept.{Echelon, KillsAll}
use Rattle.back_substitution.specs.Substituted.{Free, is_free-iff, place-below, Solves, vector-solves}

-- ---- a vector in the kernel that is zero at all free columns

-- What holds at the columns of all settled rows holds at a column, or the column is free.
column-or-free : (P : ℕ → Type 0) (ps : List Pivot) → All (λ p. P p.column) ps → (c : ℕ) → P c ⊎ Free ps c
unfolding All Free
column-or-free P [] a c = inr tt
column-or-free P (p ∷ ps) a c =
    by_cases (ℕ_discrete p.column c) (λ e. inl (subst P e a.0))
    (λ e. ⊎_elim inl (λ h. inr (e, h)) (column-or-free P ps a.1 c))

module _ (n : ℕ) (v : ℕ → ℤ) where
  -- Columns at which all settled rows are zero need not be known.
  zero-at-pivots : (ps : List Pivot) → Echelon n ps → KillsAll n v ps
      → ((c : ℕ) → c < n → Free ps c → (v c ≡ pos 0) ⊎ All (λ q. at q.numbers c ≡ pos 0) ps) → All (λ p. v p.column ≡ pos 0) ps
  unfolding Echelon All Free Kills pivot_of
  zero-at-pivots [] t k h = tt
  zero-at-pivots (p ∷ ps) t k h = let rest = zero-at-pivots ps t.3 k.1 known in (own rest, rest)
    where
      known : (c : ℕ) → c < n → Free ps c → (v c ≡ pos 0) ⊎ All (λ q. at q.numbers c ≡ pos 0) ps
      known c b z =
          by_cases (ℕ_discrete p.column c) (λ e. inr (subst (λ j. All (λ q. at q.numbers j ≡ pos 0) ps) e t.2))
          (λ e. ⊎_elim inl (λ a. inr a.1) (h c b (e, z)))

      below : p.column < n
      below = subst (λ m. p.column < m) t.0 (place-below p.numbers p.column t.1)

      others : All (λ q. v q.column ≡ pos 0) ps → (j : ℕ) → j < n → j ≢ p.column → at p.numbers j *ℤ v j ≡ pos 0
      others rest j b e =
          ⊎_elim (λ z. ap (λ u. at p.numbers j *ℤ u) z ∙ *ℤ-zero (at p.numbers j))
          (λ z. ⊎_elim (λ y. ap (λ u. at p.numbers j *ℤ u) y ∙ *ℤ-zero (at p.numbers j))
          (λ y. ap (λ u. u *ℤ v j) y.0 ∙ zero-*ℤ (v j)) (h j b (λ s. e (sym s), z)))
          (column-or-free (λ c. v c ≡ pos 0) ps rest j)

      own : All (λ q. v q.column ≡ pos 0) ps → v p.column ≡ pos 0
      own rest = ⊎_elim (λ z. absurd (t.1 z)) (λ z. z) (no-zero-divisors (at p.numbers p.column) (v p.column)
          (sym (pair-only n p.column (at p.numbers) v below (others rest)) ∙ k.0))

  pub kernel-zero : (ps : List Pivot) → Echelon n ps → KillsAll n v ps → ((c : ℕ) → c < n → Free ps c → v c ≡ pos 0)
      → (c : ℕ) → c < n → v c ≡ pos 0
  kernel-zero ps t k h c b =
      ⊎_elim (λ z. z) (h c b) (column-or-free (λ j. v j ≡ pos 0) ps (zero-at-pivots ps t k (λ j p z. inl (h j p z))) c)

-- ---- combinations

unfoldable pub combination : List ℤ → List (List ℤ) → ℕ → ℤ
unfolding at
combination [] vs j = pos 0
combination (a ∷ ks) [] j = pos 0
combination (a ∷ ks) (v ∷ vs) j = a *ℤ at v j +ℤ combination ks vs j

scaled-combination : (b : ℤ) (ks : List ℤ) (vs : List (List ℤ)) (j : ℕ) → combination (scale b ks) vs j ≡ b *ℤ combination ks vs j
unfolding combination scale
scaled-combination b [] vs j = sym (*ℤ-zero b)
scaled-combination b (a ∷ ks) [] j = sym (*ℤ-zero b)
scaled-combination b (a ∷ ks) (v ∷ vs) j =
    ap (λ u. b *ℤ a *ℤ at v j +ℤ u) (scaled-combination b ks vs j) ∙ step (at v j) (combination ks vs j)
  where
    step : (x y : ℤ) → b *ℤ a *ℤ x +ℤ b *ℤ y ≡ b *ℤ (a *ℤ x +ℤ y)
    step x y = simp ringℤ

-- Zero minus zero.
no_difference : (g h x y : ℤ) → x ≡ pos 0 → y ≡ pos 0 → g *ℤ x +ℤ h *ℤ y ≡ pos 0
no_difference g h x y e f = ap₂ (λ a b. g *ℤ a +ℤ h *ℤ b) e f ∙ ap₂ ◌+ℤ◌ (*ℤ-zero g) (*ℤ-zero h)

-- Two vectors in the kernel whose multiples agree at all free columns agree everywhere.
pub kernel-same : (n : ℕ) (ps : List Pivot) → Echelon n ps → (g h : ℤ) (v w : ℕ → ℤ) → KillsAll n v ps → KillsAll n w ps
    → ((c : ℕ) → c < n → Free ps c → g *ℤ v c ≡ h *ℤ w c) → (c : ℕ) → c < n → g *ℤ v c ≡ h *ℤ w c
unfolding Kills
kernel-same n ps t g h v w k l same c b =
    -ℤ-zero (g *ℤ v c) (h *ℤ w c) (sym (minus (v c) (w c)) ∙ kernel-zero n difference ps t killed at-free c b)
  where
    difference : ℕ → ℤ
    difference j = g *ℤ v j +ℤ neg_ℤ h *ℤ w j

    minus : (x y : ℤ) → g *ℤ x +ℤ neg_ℤ h *ℤ y ≡ g *ℤ x -ℤ h *ℤ y
    minus x y = ap (λ u. g *ℤ x +ℤ u) (neg_ℤ-*ℤ h y)

    killed : KillsAll n difference ps
    killed =
        all-mono (λ p. Kills n v p.numbers × Kills n w p.numbers) (λ p. Kills n difference p.numbers)
        (λ p z. pair-right n g (neg_ℤ h) (at p.numbers) v w
        ∙ no_difference g (neg_ℤ h) (pair n (at p.numbers) v) (pair n (at p.numbers) w) z.0 z.1) ps
        (all_both (λ p. Kills n v p.numbers) (λ p. Kills n w p.numbers) ps k l)

    at-free : (j : ℕ) → j < n → Free ps j → difference j ≡ pos 0
    at-free j p z = minus (v j) (w j) ∙ ap (λ u. u -ℤ h *ℤ w j) (same j p z) ∙ +ℤ_invr (h *ℤ w j)

module _ (n : ℕ) (ps : List Pivot) (t : Echelon n ps) where
  -- The vectors of the free columns from a on, m columns.
  basis_from : ℕ → ℕ → List (List ℤ)
  basis_from a m = map (vector_at n ps) (keep (is_free_of ps) (count_from a m))

  -- A nonzero factor and the coefficients: the combination is the multiple of v at the free columns from a to a + m - 1 and 0 before them.
  record Chosen (v : ℕ → ℤ) (a m : ℕ) (basis : List (List ℤ)) : Type 0 where
    factor : ℤ
    coefficients : List ℤ
    nonzero : factor ≢ pos 0
    within : (c : ℕ) → c < n → Free ps c → a ≤ c → c < a + m → factor *ℤ v c ≡ combination coefficients basis c
    before : (c : ℕ) → c < n → Free ps c → c < a → combination coefficients basis c ≡ pos 0
    killed : KillsAll n (combination coefficients basis) ps

  choose-none : (v : ℕ → ℤ) (a : ℕ) → Chosen v a zero []
  unfolding combination Kills pair
  choose-none v a =
      record {
        factor = pos 1;
        coefficients = [];
        nonzero = pos-nonzero (omega arith);
        within = λ c _ _ p q. absurd (omega arith);
        before = λ c _ _ _. refl;
        killed = all-always (λ p. pair n (at p.numbers) (λ j. pos 0) ≡ pos 0) (λ p. zero-pair (at p.numbers)) ps;
      }
    where
      zero-pair : (f : ℕ → ℤ) → pair n f (λ j. pos 0) ≡ pos 0
      zero-pair f = sum_below-zeros n (λ j. f j *ℤ pos 0) (λ j _. *ℤ-zero (f j))

  choose-more : (v : ℕ → ℤ) (m a : ℕ) → a + suc m ≤ n → Chosen v (suc a) m (basis_from (suc a) m) → Chosen v a (suc m) (basis_from a (suc m))
  unfolding basis_from keep count_from combination Kills
  choose-more v m a h more = cases (is_free_of ps a) (is_free-iff ps a).0 (is_free-iff ps a).1
    where
      b : List ℤ
      b = vector_at n ps a

      taken : Free ps a → Chosen v a (suc m) (b ∷ basis_from (suc a) m)
      taken z =
          record {
            factor = β *ℤ k;
            coefficients = g ∷ scale β more.coefficients;
            nonzero = *ℤ-nonzero (λ e. pos-nonzero one.positive.1 (sym one.positive.2 ∙ e)) more.nonzero;
            within = λ c l f p q. by_cases (ℕ_discrete c a) (here c)
                (λ e. *ℤ-assoc β k (v c) ∙ ap (λ u. β *ℤ u) (more.within c l f (omega arith) (omega arith)) ∙ sym (away c e f));
            before = λ c l f p. away c (λ e. omega arith) f ∙ ap (λ u. β *ℤ u) (more.before c l f (omega arith)) ∙ *ℤ-zero β;
            killed = all-mono (λ p. Kills n (at b) p.numbers × Kills n rest p.numbers) (λ p. Kills n whole p.numbers) kill ps
                (all_both (λ p. Kills n (at b) p.numbers) (λ p. Kills n rest p.numbers) ps one.kills more.killed);
          }
        where
          one : Solves n ps a b
          one = vector-solves n ps t a (omega arith) z

          β : ℤ
          β = at b a

          k : ℤ
          k = more.factor

          g : ℤ
          g = k *ℤ v a

          rest : ℕ → ℤ
          rest = combination more.coefficients (basis_from (suc a) m)

          whole : ℕ → ℤ
          whole j = g *ℤ at b j +ℤ combination (scale β more.coefficients) (basis_from (suc a) m) j

          split : (j : ℕ) → whole j ≡ g *ℤ at b j +ℤ β *ℤ rest j
          split j = ap (λ u. g *ℤ at b j +ℤ u) (scaled-combination β more.coefficients (basis_from (suc a) m) j)

          away : (c : ℕ) → c ≢ a → Free ps c → whole c ≡ β *ℤ rest c
          away c e f = split c ∙ ap (λ u. g *ℤ u +ℤ β *ℤ rest c) (one.elsewhere c e f) ∙ ap (λ u. u +ℤ β *ℤ rest c) (*ℤ-zero g)
              ∙ +ℤ_idl (β *ℤ rest c)

          here : (c : ℕ) → c ≡ a → β *ℤ k *ℤ v c ≡ whole c
          here c e =
              ap (λ j. β *ℤ k *ℤ v j) e ∙ order β k (v a) ∙ sym (+ℤ_idr (g *ℤ β))
              ∙ sym (split a ∙ ap (λ u. g *ℤ β +ℤ u) (ap (λ u. β *ℤ u) (more.before a (omega arith) z (omega arith)) ∙ *ℤ-zero β))
              ∙ ap whole (sym e)
            where
              order : (x y w : ℤ) → x *ℤ y *ℤ w ≡ y *ℤ w *ℤ x
              order x y w = simp ringℤ

          kill : (p : Pivot) → Kills n (at b) p.numbers × Kills n rest p.numbers → Kills n whole p.numbers
          kill p h =
              pair-congr n (at p.numbers) (at p.numbers) whole (λ j. g *ℤ at b j +ℤ β *ℤ rest j) (λ j _. refl) (λ j _. split j)
              ∙ pair-right n g β (at p.numbers) (at b) rest
              ∙ no_difference g β (pair n (at p.numbers) (at b)) (pair n (at p.numbers) rest) h.0 h.1

      left : ¬ Free ps a → Chosen v a (suc m) (basis_from (suc a) m)
      left z =
          record {
            factor = more.factor;
            coefficients = more.coefficients;
            nonzero = more.nonzero;
            within = λ c l f p q. more.within c l f
                (by_cases (ℕ_discrete a c) (λ e. absurd (z (subst (Free ps) (sym e) f))) (λ e. omega arith)) (omega arith);
            before = λ c l f p. more.before c l f (omega arith);
            killed = more.killed;
          }

      cases : (s : Bool) → (T s → Free ps a) → (Free ps a → T s)
          → Chosen v a (suc m) (map (vector_at n ps)
          (cond s (a ∷ keep (is_free_of ps) (count_from (suc a) m)) (keep (is_free_of ps) (count_from (suc a) m))))
      cases true p q = taken (p tt)
      cases false p q = left (λ z. q z)

  choose : (v : ℕ → ℤ) (m a : ℕ) → a + m ≤ n → Chosen v a m (basis_from a m)
  unfolding basis_from keep count_from
  choose v zero a h = choose-none v a
  choose v (suc m) a h = choose-more v m a h (choose v m (suc a) (omega arith))

  -- Completeness: a vector in the kernel, times a nonzero integer, is an integer combination of the listed ones (SCOPE 14.72).
  pub spanned : (v : ℕ → ℤ) → KillsAll n v ps
      → (k : ℤ) × (k ≢ pos 0) × (ks : List ℤ) × ((c : ℕ) → c < n → k *ℤ v c ≡ combination ks (map (vector_at n ps) (free_columns n ps)) c)
  unfolding basis_from free_columns
  spanned v h =
      let all = choose v n 0 (omega arith) in
      let w = combination all.coefficients (basis_from 0 n) in (
        all.factor,
        all.nonzero,
        all.coefficients,
        λ c b. kernel-same n ps t all.factor (pos 1) v w h all.killed
            (λ j p z. all.within j p z (omega arith) (omega arith) ∙ sym (one-*ℤ (w j))) c b ∙ one-*ℤ (w c),
      )

  -- Uniqueness: the properties of a listed vector determine it (SCOPE 14.73).
  pub solves-unique : (f : ℕ) (u v : List ℤ) → Solves n ps f u → Solves n ps f v → u ≡ v
  unfolding at scale coeff
  solves-unique f u v p q =
      ext_get_or (pos 0) u v (p.size ∙ sym q.size) (λ j h. *ℤ-cancel-left (pos b) (at u j) (at v j) (pos-nonzero q.positive.1)
      (agree j (subst (λ m. j < m) p.size h) ∙ ap (λ m. pos m *ℤ at v j) equal))
    where
      a : ℕ
      a = p.positive.0

      b : ℕ
      b = q.positive.0

      agree : (c : ℕ) → c < n → pos b *ℤ at u c ≡ pos a *ℤ at v c
      agree = kernel-same n ps t (pos b) (pos a) (at u) (at v) p.kills q.kills free
        where
          free : (c : ℕ) → c < n → Free ps c → pos b *ℤ at u c ≡ pos a *ℤ at v c
          free c _ z =
              by_cases (ℕ_discrete c f)
              (λ e. ap₂ ◌*ℤ◌ (sym q.positive.2) (ap (at u) e ∙ p.positive.2) ∙ *ℤ_comm (at v f) (pos a)
              ∙ ap (λ j. pos a *ℤ at v j) (sym e))
              (λ e. ap (λ x. pos b *ℤ x) (p.elsewhere c e z) ∙ *ℤ-zero (pos b)
              ∙ sym (ap (λ x. pos a *ℤ x) (q.elsewhere c e z) ∙ *ℤ-zero (pos a)))

      multiples : scale (pos b) u ≡ scale (pos a) v
      multiples =
          ext_get_or (pos 0) (scale (pos b) u) (scale (pos a) v) (sizes (pos b) u ∙ p.size ∙ sym (sizes (pos a) v ∙ q.size))
          (λ j h. scaled (pos b) u j ∙ agree j (subst (λ m. j < m) (sizes (pos b) u ∙ p.size) h) ∙ sym (scaled (pos a) v j))
        where
          sizes : (k : ℤ) (l : List ℤ) → length (scale k l) ≡ length l
          sizes k l = length-map l (λ x. k *ℤ x)

          scaled : (k : ℤ) (l : List ℤ) (j : ℕ) → at (scale k l) j ≡ k *ℤ at l j
          scaled k l j = coeff-scale k l j

      equal : a ≡ b
      equal =
          sym (content-scale a v p.positive.1 ∙ ap (λ m. a * m) q.primitive ∙ mul-one a) ∙ sym (ap content multiples)
          ∙ content-scale b u q.positive.1 ∙ ap (λ m. b * m) p.primitive ∙ mul-one b
