-- The root report: what it says about the integer roots of the diagonal polynomials, on both sides.
--
-- Main definitions
--   NoFurther side a r     a ≤ r on the leading side, r ≤ a on the trailing side
--   Past side o n          n lies past the report o: anywhere if it is "no", otherwise above r, or below r
--   NonzeroDiagonal side D s   no diagonal polynomial is zero
--   Rootless l, FurthestRoot side l r   no polynomial of l has an integer root; r is the furthest one among them all
--   diagonal_entry side D s j   the diagonal polynomial of row j
--   product l              the product of the polynomials of l
--
-- Main statements
--   furthest-none, furthest-some   the furthest member of a list: none of an empty list, otherwise a member and no member further
--   diagonal-member, diagonal-index   the members of the diagonal are its entries by row
--   report-none, report-some   "no" exactly if no diagonal polynomial has an integer root; otherwise the furthest root of all
--   report-product, report-occurs   how often a reported root occurs in the product of the diagonal polynomials, at least once
--   past-report            past the report no diagonal polynomial is zero
use Rattle.std.specs.Prelude.{ℕ, ◌+◌, ◌≤◌, ◌<◌, ◌≡◌, ◌↔◌, ◌≢◌, ◌⊎◌, Bool, true, false, not, cond, T, length, get_or, ℤ, pos, nat_abs, ◌≤ℤ◌, ◌<ℤ◌}
use Rattle.std.proofs.Common.{arith, sym, ◌∙◌, ap, subst, inl, inr, ⊎_elim, T_not}
use Rattle.std.proofs.Math.Path.{refl}
use Rattle.std.proofs.Math.Option.{Option, none, some}
use mathlib.Core.List.Memᴰ
use mathlib.Core.List.{List, [], ◌∷◌, map, flatten, Memᴰ}
use Rattle.std.specs.Int.Signed.{le_z, le_z_yes, ≤ℤ_refl, clash_ℤ}
use Rattle.algebra.specs.Order.{≤ℤ-trans, ¬≤ℤ→<ℤ, <ℤ-to-≤ℤ}
use Rattle.algebra.specs.Polynomials.{Polynomial, eval, is_zero_of, mul}
use Rattle.algebra.specs.Coefficients.{mul-nonzero}
use Rattle.algebra.specs.Multiplicity.{power, power_zero, power-nonzero, multiplicity, multiplicity-occurs, multiplicity-root}
use Rattle.algebra.specs.Multiplicity.{multiplicity-mul, occurs-none, occurs-unique}
use Rattle.algebra.specs.Roots.{roots, roots-sound, roots-complete, place}
use Rattle.rules.specs.Rows.{no_row}
use Rattle.rules.specs.Elimination.{Side, leading, trailing, State, diagonal_place, diagonal, further, furthest, report, occurrences}
use Rattle.lists.specs.Images.{zip-member, zip-index}
use Rattle.lists.specs.Joined.{flat-member, flat_origin}
use Rattle.lists.specs.Totals.{total}

abbrev pub NoFurther : Side → ℤ → ℤ → Type 0
NoFurther leading a r = a ≤ℤ r
NoFurther trailing a r = r ≤ℤ a

abbrev pub Past : Side → Option ℤ → ℤ → Type 0
Past side none n = Unit {0}
Past leading (some r) n = r <ℤ n
Past trailing (some r) n = n <ℤ r

abbrev pub NonzeroDiagonal : Side → ℕ → State → Type 0
NonzeroDiagonal side D s = (p : Polynomial) → Memᴰ p (diagonal side D s) → T (not (is_zero_of p))

-- No member has an integer root.
abbrev pub Rootless : List Polynomial → Type 0
Rootless l = (p : Polynomial) → Memᴰ p l → (n : ℤ) → eval p n ≢ pos 0

-- r is a root of a member, and no member has an integer root that is further.
pub record FurthestRoot (side : Side) (l : List Polynomial) (r : ℤ) : Type 0 where
  pub attained : (p : Polynomial) × Memᴰ p l × (eval p r ≡ pos 0)
  pub furthest : (p : Polynomial) → Memᴰ p l → (n : ℤ) → eval p n ≡ pos 0 → NoFurther side n r

-- ---- the furthest member of a list

NoFurther-refl : (side : Side) (a : ℤ) → NoFurther side a a
NoFurther-refl leading a = ≤ℤ_refl a
NoFurther-refl trailing a = ≤ℤ_refl a

NoFurther-trans : (side : Side) (a b c : ℤ) → NoFurther side a b → NoFurther side b c → NoFurther side a c
NoFurther-trans leading a b c h k = ≤ℤ-trans h k
NoFurther-trans trailing a b c h k = ≤ℤ-trans k h

-- The further of two numbers is one of them, and neither is further.
record Chosen (side : Side) (a b r : ℤ) : Type 0 where
  among : (r ≡ a) ⊎ (r ≡ b)
  first : NoFurther side a r
  second : NoFurther side b r

le_z-no : {a b : ℤ} → T (not (le_z a b)) → b ≤ℤ a
le_z-no {a} {b} t = <ℤ-to-≤ℤ (¬≤ℤ→<ℤ (λ h. T_not (le_z a b) t h.le))

further-chosen : (side : Side) (a b : ℤ) → Chosen side a b (further side a (some b))
unfolding further
further-chosen leading a b = cases (le_z a b) le_z_yes le_z-no
  where
    cases : (t : Bool) → (T t → a ≤ℤ b) → (T (not t) → b ≤ℤ a) → Chosen leading a b (cond t b a)
    cases true h k = record { among = inr refl; first = h tt; second = ≤ℤ_refl b }
    cases false h k = record { among = inl refl; first = ≤ℤ_refl a; second = k tt }
further-chosen trailing a b = cases (le_z a b) le_z_yes le_z-no
  where
    cases : (t : Bool) → (T t → a ≤ℤ b) → (T (not t) → b ≤ℤ a) → Chosen trailing a b (cond t a b)
    cases true h k = record { among = inl refl; first = ≤ℤ_refl a; second = h tt }
    cases false h k = record { among = inr refl; first = k tt; second = ≤ℤ_refl b }

-- An optional number is the furthest member of l, or none where l is empty.
Furthest : Side → List ℤ → Option ℤ → Type 0
Furthest side l none = l ≡ []
Furthest side l (some r) = Memᴰ r l × ((a : ℤ) → Memᴰ a l → NoFurther side a r)

furthest-is : (side : Side) (l : List ℤ) → Furthest side l (furthest side l)
unfolding furthest further Furthest
furthest-is side [] = refl
furthest-is side (a ∷ l) = step (furthest side l) (furthest-is side l)
  where
    step : (o : Option ℤ) → Furthest side l o → Furthest side (a ∷ l) (some (further side a o))
    step none e = (Memᴰ.head refl, λ b m. ⊎_elim level (λ k. absurd (Memᴰ.not-nil (rw e at k))) (Memᴰ.cases_cons m))
      where
        level : {b : ℤ} → b ≡ a → NoFurther side b a
        level {b} h = rw h (NoFurther-refl side a)
    step (some r) h = (⊎_elim Memᴰ.head later chosen.among, λ b m. ⊎_elim (first b) (rest b) (Memᴰ.cases_cons m))
      where
        new : ℤ
        new = further side a (some r)

        chosen : Chosen side a r new
        chosen = further-chosen side a r

        later : new ≡ r → Memᴰ new (a ∷ l)
        later e = Memᴰ.tail (Memᴰ.cast e h.0)

        first : (b : ℤ) → b ≡ a → NoFurther side b new
        first b e = rw e chosen.first

        rest : (b : ℤ) → Memᴰ b l → NoFurther side b new
        rest b m = NoFurther-trans side b r new (h.1 b m) chosen.second

pub furthest-none : (side : Side) (l : List ℤ) → (furthest side l ≡ none) ↔ (l ≡ [])
unfolding Furthest furthest
furthest-none side l = (λ e. subst (Furthest side l) e (furthest-is side l), λ e. ap (furthest side) e)

pub furthest-some : (side : Side) (l : List ℤ) {r : ℤ}
    → furthest side l ≡ some r → Memᴰ r l × ((a : ℤ) → Memᴰ a l → NoFurther side a r)
unfolding Furthest
furthest-some side l e = subst (Furthest side l) e (furthest-is side l)

past-clash : (side : Side) (n r : ℤ) → Past side (some r) n → NoFurther side n r → ⊥
past-clash leading n r h k = clash_ℤ h k
past-clash trailing n r h k = clash_ℤ h k

-- ---- the diagonal

-- The diagonal polynomial of row j.
abbrev pub diagonal_entry : Side → ℕ → State → ℕ → Polynomial
diagonal_entry side D s j = get_or (get_or (get_or s.rows j no_row).blocks (diagonal_place side D) []) (get_or s.order j 0) []

pub diagonal-member : (side : Side) (D : ℕ) (s : State) (j : ℕ) → j < length s.rows → j < length s.order
    → Memᴰ (diagonal_entry side D s j) (diagonal side D s)
unfolding diagonal
diagonal-member side D s j h k =
    zip-member (λ r c. get_or (get_or r.blocks (diagonal_place side D) []) c []) s.rows s.order no_row 0 j h k

pub diagonal-index : (side : Side) (D : ℕ) (s : State) {p : Polynomial} → Memᴰ p (diagonal side D s)
    → (j : ℕ) × (j < length s.rows) × (j < length s.order) × (p ≡ diagonal_entry side D s j)
unfolding diagonal
diagonal-index side D s m =
    zip-index (λ r c. get_or (get_or r.blocks (diagonal_place side D) []) c []) s.rows s.order no_row 0 m

-- The diagonal is nonzero if each of its entries is.
pub nonzero-diagonal : (side : Side) (D : ℕ) (s : State)
    → ((j : ℕ) → j < length s.rows → j < length s.order → T (not (is_zero_of (diagonal_entry side D s j)))) → NonzeroDiagonal side D s
nonzero-diagonal side D s h p m = let (j, k, o, e) = diagonal-index side D s m in rw e (h j k o)

-- ---- the product of the diagonal

-- Of no polynomial the constant 1.
unfoldable pub product : List Polynomial → Polynomial
unfolding mul
product [] = pos 1 ∷ []
product (p ∷ l) = mul p (product l)

abbrev AllNonzero : List Polynomial → Type 0
AllNonzero l = (p : Polynomial) → Memᴰ p l → T (not (is_zero_of p))

pub product-nonzero : (l : List Polynomial) → AllNonzero l → T (not (is_zero_of (product l)))
unfolding product power
product-nonzero [] h = power-nonzero (pos 0) 0
product-nonzero (p ∷ l) h = mul-nonzero p (product l) (h p (Memᴰ.head refl)) (product-nonzero l (λ q m. h q (Memᴰ.tail m)))

-- The multiplicities add up to that in the product.
pub total-product : (l : List Polynomial) (r : ℤ) → AllNonzero l → total (map (λ p. multiplicity p r) l) ≡ multiplicity (product l) r
unfolding product total power
total-product [] r h =
    occurs-unique (occurs-none (power r 0) r (λ e. one-nonzero (sym (power_zero r r) ∙ e)))
    (multiplicity-occurs (power r 0) r (power-nonzero r 0))
  where
    one-nonzero : pos 1 ≡ pos 0 → ⊥
    one-nonzero e = let z : ◌≡◌ {A = ℕ} 1 0 = ap nat_abs e in omega arith
total-product (p ∷ l) r h =
    let rest : AllNonzero l = λ q m. h q (Memᴰ.tail m) in
    ap (λ n. multiplicity p r + n) (total-product l r rest)
    ∙ sym (multiplicity-mul p (product l) r (h p (Memᴰ.head refl)) (product-nonzero l rest))

-- No member's number is above the total.
member-total : {A : Type 0} (f : A → ℕ) (l : List A) {x : A} → Memᴰ x l → f x ≤ total (map f l)
unfolding total
member-total f [] m = absurd (Memᴰ.not-nil m)
member-total f (y ∷ l) {x} m =
    ⊎_elim (λ e. let h : f x ≤ f y + total (map f l) = omega (arith, ap f e) in h)
    (λ k. let h : f x ≤ f y + total (map f l) = omega (arith, member-total f l k) in h) (Memᴰ.cases_cons m)

-- ---- the report

-- The integer roots of the diagonal polynomials, all in one list.
abbrev roots_of : List Polynomial → List ℤ
roots_of l = flatten (map roots l)

root-member : (l : List Polynomial) {p : Polynomial} (n : ℤ)
    → Memᴰ p l → T (not (is_zero_of p)) → eval p n ≡ pos 0 → Memᴰ n (roots_of l)
root-member l {p} n m z e = flat-member roots l m (place (roots p) (roots-complete p n z e))

member-root : (l : List Polynomial) {n : ℤ} → Memᴰ n (roots_of l) → (p : Polynomial) × Memᴰ p l × (eval p n ≡ pos 0)
member-root l m = let (p, i, k) = flat_origin roots l m in (p, i, roots-sound p ∣ k ∣₁)

module _ (side : Side) (D : ℕ) (s : State) (nonzero : NonzeroDiagonal side D s) where
  found : List ℤ
  found = roots_of (diagonal side D s)

  report-is : report side D s ≡ furthest side found
  unfolding report found
  report-is = refl

  root-found : {p : Polynomial} (n : ℤ) → Memᴰ p (diagonal side D s) → eval p n ≡ pos 0 → Memᴰ n found
  unfolding found
  root-found {p} n m e = root-member (diagonal side D s) n m (nonzero p m) e

  found-root : {n : ℤ} → Memᴰ n found → (p : Polynomial) × Memᴰ p (diagonal side D s) × (eval p n ≡ pos 0)
  unfolding found
  found-root m = member-root (diagonal side D s) m

  -- The report is "no" exactly if no diagonal polynomial vanishes at an integer (SCOPE 2.81).
  pub report-none : (report side D s ≡ none) ↔ Rootless (diagonal side D s)
  report-none = (forth, back)
    where
      forth : report side D s ≡ none → Rootless (diagonal side D s)
      forth e p m n h = Memᴰ.not-nil (rw ((furthest-none side found).0 (sym report-is ∙ e)) at (root-found n m h))

      empty : (l : List ℤ) → ((n : ℤ) → ¬ Memᴰ n l) → l ≡ []
      empty [] h = refl
      empty (a ∷ l) h = absurd (h a (Memᴰ.head refl))

      back : Rootless (diagonal side D s) → report side D s ≡ none
      back h = report-is ∙ (furthest-none side found).1 (empty found (λ n m. let (p, i, e) = found-root m in h p i n e))

  -- A reported root is the greatest of all, on the trailing side the least (SCOPE 2.81, 2.93).
  pub report-some : {r : ℤ} → report side D s ≡ some r → FurthestRoot side (diagonal side D s) r
  report-some {r} e = record { attained = found-root far.0; furthest = λ p m n h. far.1 n (root-found n m h) }
    where
      far : Memᴰ r found × ((a : ℤ) → Memᴰ a found → NoFurther side a r)
      far = furthest-some side found (sym report-is ∙ e)

  -- How often an integer occurs in the diagonal polynomials is how often it occurs in their product (SCOPE 2.83).
  pub report-product : (r : ℤ) → occurrences side D s r ≡ multiplicity (product (diagonal side D s)) r
  unfolding occurrences
  report-product r = total-product (diagonal side D s) r nonzero

  -- A reported root occurs at least once.
  pub report-occurs : {r : ℤ} → report side D s ≡ some r → 0 < occurrences side D s r
  unfolding occurrences
  report-occurs {r} e =
      let (p, m, root) = (report-some e).attained in
      omega (arith, (multiplicity-root p r (nonzero p m)).0 root, member-total (λ q. multiplicity q r) (diagonal side D s) m)

  pub past-report : (n : ℤ) → Past side (report side D s) n → (p : Polynomial) → Memᴰ p (diagonal side D s) → eval p n ≢ pos 0
  past-report n past p m e = cases (report side D s) refl past
    where
      cases : (o : Option ℤ) → report side D s ≡ o → Past side o n → ⊥
      cases none h q = report-none.0 h p m n e
      cases (some r) h q = past-clash side n r q ((report-some h).furthest p m n e)
