-- What the functions of the back substitution go by: sums and multiples of vectors within ±C, and the settled rows of a store
-- (SCOPE 14.52, 14.53).
--
-- Main definitions
--   product r v j             one product of a row's sum
--   pivot_at r c               a settled row with its column
--   Settled n ps              settled rows within ±C that can be substituted back
--   FreeColumn n ps f         and a column without a pivot
--   MetBelow matrix f count r   of the rows of a store below `count`, those from r on are 0 at the column f
--   Filled r w v              the test whether w is within ±C; v is w if it is
--   back n ps f i             the vector of the column f behind the settled rows from i on
-- Main statements
--   sum-next, sum-size, dot-sum   one product more; the size of a sum; the sum of all products
--   multiple-size, multiple-at, length-multiple   a vector so many times
--   divisor-size, solved-kept, solved-turned      the divisor of pivot and sum, and the value with its sign
--   substitute-none, none-small                   a step whose sum is 0
--   pivots-length, pivot-at, free-columns         the settled rows of a store, one of them, and their columns
--   back_none, back-next, back-all   the back substitution row by row
--   met_next, back-unmet      one row more is 0 at the column; behind the last row that meets the column the vector is the first one
--   back-solves, back-small   its vectors solve the rows; what is within ±C at the end was so on the way
--   row-ready                 what a step asks of its row
--   filled-all, filled-not    the two ends of the back substitution
use Rattle.std.specs.Prelude.{ℕ, zero, suc, ◌+◌, ◌*◌, ◌-◌, ◌≤◌, ◌<◌, ◌≡◌, refl, ◌≢◌, Bool, not, ◌&&◌, eqb, length, replicate, ℤ, nat_abs, ◌+ℤ◌, ◌*ℤ◌}
use Rattle.std.proofs.Common.{sym, ◌∙◌, pos_of_ne-zero, le_refl, le_trans, mul-le-mul, mul-le-mul_right, add-one, arith, drop_of_length-le, take-take, get_or-take, get_or-drop}
use Rattle.std.proofs.Math.Path.{ap, ap₂, subst}
use Rattle.std.proofs.Math.Logic.{by_cases}
use Rattle.std.proofs.Math.Bool.{true, false, cond}
use mathlib.Core.List.{List, [], ◌∷◌, ◌++◌, zip_with}
use Rattle.std.proofs.Math.Decide.{ℕ_discrete}
use Rattle.std.proofs.Math.Dec.{T}
use Rattle.std.proofs.Math.ListN.{get_or, set, take, drop, length-map, take-append-drop}
use Rattle.std.proofs.Math.Seq.{set-get_or}
use Rattle.std.proofs.Math.IntN.{pos, neg_ℤ, *ℤ-zero, zero-*ℤ}
use Rattle.std.specs.Int.Signed.{lt_z, quot_z}
use Rattle.algebra.specs.Integers.{ringℤ, nat_abs-*ℤ, nat_abs-zero}
use Rattle.algebra.specs.Division.{quot_z-le, quot_z-exact}
use Rattle.algebra.specs.Polynomials.{scale, scale_one, coeff}
use Rattle.algebra.specs.Coefficients.{coeff-scale}
use Rattle.algebra.specs.Gcd.{gcd, gcd-zero, gcd-pos-left, gcd-le-left}
use Rattle.algebra.specs.Sums.{sum_below, sum_below-last, sum_below-zeros, nat_abs-sum_below}
use Rattle.lists.specs.Everywhere.{All, all_drop, all_set, all_replicate}
use Rattle.lists.specs.Images.{length-zip_with, get_or-zip_with, get_or_map}
use Rattle.lists.specs.Parts.{parts, parts-length, get_or-parts}
use Rattle.lists.specs.Taken.{drop-next}
use Rattle.lists.specs.Tests.{every, every-of-all, all-of-every, true_of, false_of}
use Rattle.polynomials.specs.Content.{small_at}
use Rattle.rules.specs.Limits.{bound, small}
use Rattle.echelon.specs.Eliminated.{Pivot, at, pivot_of}
use Rattle.back_substitution.specs.Listed.{dot, solved, is_free_of, unit, substitute, substitute_all_of, vector_at}
use Rattle.echelon.specs.Pairing.{pair}
use Rattle.back_substitution.specs.Substituted.{dot-pair, Free, Solves, unit-solves, vector-solves}
use Rattle.constant_rows.specs.ListLengths.{list_columns}
use Rattle.constant_rows.specs.Matrices.{matrix_rows}
use Rattle.echelon.specs.MatrixTurns.{pivots_in}
use Rattle.echelon.specs.KernelKept.{Echelon}
use Rattle.back_substitution.specs.Bounds.{small-on-the-way}

-- ---- sums and multiples

unfoldable pub product : List ℤ → List ℤ → ℕ → ℤ
unfolding at
product r v j = at r j *ℤ at v j

pub multiple-size : (a b : ℤ) → nat_abs a ≤ bound → nat_abs b ≤ bound → nat_abs (a *ℤ b) ≤ bound * bound
multiple-size a b h k = rw (nat_abs-*ℤ a b) (mul-le-mul h k)

module _ (r v : List ℤ) (small_r : T (every small r)) (small-v : T (every small v)) where
  pub product-size : (j : ℕ) → nat_abs (product r v j) ≤ bound * bound
  unfolding product at
  product-size j = multiple-size (at r j) (at v j) (small_at r small_r j) (small_at v small-v j)

  pub sum-size : (i : ℕ) → i ≤ list_columns → nat_abs (sum_below i (product r v)) ≤ list_columns * (bound * bound)
  sum-size i h =
      le_trans (nat_abs-sum_below i (bound * bound) (product r v) (λ j _. product-size j)) (mul-le-mul_right {m = i} (bound * bound) h)

pub sum-next : (r v : List ℤ) (i : ℕ) → sum_below (i + 1) (product r v) ≡ sum_below i (product r v) +ℤ product r v i
sum-next r v i = rw add-one (sum_below-last i (product r v))

pub dot-sum : (r v : List ℤ) → dot r v ≡ sum_below (length r) (product r v)
unfolding pair product
dot-sum r v = dot-pair r v

pub length-multiple : (k : ℤ) (v : List ℤ) → length (scale k v) ≡ length v
unfolding scale
length-multiple k v = length-map v (λ a. k *ℤ a)

pub multiple-at : (k : ℤ) (v : List ℤ) (i : ℕ) → get_or (scale k v) i (pos 0) ≡ k *ℤ get_or v i (pos 0)
unfolding coeff
multiple-at k v i = coeff-scale k v i

-- ---- the value at a pivot

-- The divisor of a nonzero pivot within ±C is positive and within ±C.
pub divisor-size : (d s : ℤ) → d ≢ pos 0 → nat_abs d ≤ bound → (0 < gcd (nat_abs d) (nat_abs s)) × (gcd (nat_abs d) (nat_abs s) ≤ bound)
divisor-size d s n h =
    let nonzero : 0 < nat_abs d = pos_of_ne-zero (λ e. n (nat_abs-zero e)) in
    (gcd-pos-left (nat_abs d) (nat_abs s) nonzero, le_trans (gcd-le-left (nat_abs d) (nat_abs s) nonzero) h)

pub solved-kept : (d s : ℤ) → lt_z d (pos 0) ≡ true → quot_z s (pos (gcd (nat_abs d) (nat_abs s))) ≡ solved d s
unfolding solved
solved-kept d s e = rw e

pub solved-turned : (d s : ℤ) → lt_z d (pos 0) ≡ false → neg_ℤ (quot_z s (pos (gcd (nat_abs d) (nat_abs s)))) ≡ solved d s
unfolding solved
solved-turned d s e = rw e

-- ---- the settled rows

abbrev pub pivot_at : List ℤ → ℕ → Pivot
pivot_at r c = record { numbers = r; column = c }

pub record Settled (n : ℕ) (ps : List Pivot) : Type 0 where
  pub echelon : Echelon n ps
  pub within : All (λ p. T (every small p.numbers) × (p.column < n)) ps

pub record FreeColumn (n : ℕ) (ps : List Pivot) (f : ℕ) : Type 0 where
  pub settled : Settled n ps
  pub free : Free ps f

pub record MetBelow (matrix : List ℤ) (f count r : ℕ) : Type 0 where
  pub few : r ≤ count
  pub unmet : (k : ℕ) → r ≤ k → k < count → get_or matrix (k * list_columns + f) (pos 0) ≡ pos 0

pub met_next : {matrix : List ℤ} {f count i : ℕ} → MetBelow matrix f count i → 0 < i
    → get_or matrix ((i - 1) * list_columns + f) (pos 0) ≡ pos 0 → MetBelow matrix f count (i - 1)
met_next {matrix} {f} {count} {i} met some e =
    record {
      few = omega (arith, met.few);
      unmet = λ k h below. by_cases (ℕ_discrete k (i - 1)) (λ s. ap (λ j. get_or matrix (j * list_columns + f) (pos 0)) s ∙ e)
          (λ s. met.unmet k (omega arith) below);
    }

pub record Filled (r : Bool) (w v : List ℤ) : Type 0 where
  pub judged : r ≡ every small w
  pub same : r ≡ true → v ≡ w

-- Where the sum is 0, the value is 0 and all others stay.
module _ (r v : List ℤ) (c : ℕ) (nonzero : get_or r c (pos 0) ≢ pos 0) (none_left : dot r v ≡ pos 0) where
  abbrev d : ℤ
  d = get_or r c (pos 0)

  kept-once : quot_z (pos (nat_abs d)) (pos (gcd (nat_abs d) 0)) ≡ pos 1
  kept-once =
      let whole : pos 1 *ℤ pos (nat_abs d) ≡ pos (nat_abs d) = simp ringℤ in
      ap (λ k. quot_z (pos (nat_abs d)) (pos k)) (gcd-zero (nat_abs d)) ∙ ap (λ a. quot_z a (pos (nat_abs d))) (sym whole)
      ∙ quot_z-exact (pos 1) (pos (nat_abs d)) (λ e. nonzero (nat_abs-zero (ap nat_abs e)))

  solved-none : solved d (pos 0) ≡ pos 0
  unfolding solved
  solved-none = cases (lt_z d (pos 0)) (nat_abs-zero (omega (arith, quot_z-le (pos 0) (pos (gcd (nat_abs d) 0)))))
    where
      cases : (t : Bool) {q : ℤ} → q ≡ pos 0 → cond t q (neg_ℤ q) ≡ pos 0
      cases true e = e
      cases false e = ap neg_ℤ e

  pub substitute-none : substitute (pivot_at r c) v ≡ set v c (pos 0)
  unfolding substitute pivot_of at
  substitute-none =
      ap (λ S. set (scale (quot_z (pos (nat_abs d)) (pos (gcd (nat_abs d) (nat_abs S)))) v) c (solved d S)) none_left
      ∙ ap₂ (λ k x. set (scale k v) c x) kept-once solved-none ∙ ap (λ w. set w c (pos 0)) (scale_one v)

  pub none-small : T (every small v) → T (every small (set v c (pos 0)))
  unfolding small
  none-small h =
      every-of-all small (set v c (pos 0)) (all_set (λ x. T (small x)) v c (pos 0) tt (all-of-every small v h))

-- The tests of the columns, whatever the rows.
zip-free : (rows : List (List ℤ)) (columns : List ℕ) (f : ℕ) → length rows ≡ length columns
    → is_free_of (zip_with pivot_at rows columns) f ≡ every (λ c. not (eqb c f)) columns
unfolding is_free_of every zip_with
zip-free [] [] f e = refl
zip-free [] (c ∷ columns) f e = absurd (omega arith)
zip-free (r ∷ rows) [] f e = absurd (omega arith)
zip-free (r ∷ rows) (c ∷ columns) f e = ap (λ t. not (eqb c f) && t) (zip-free rows columns f (omega arith))

module _ (n : ℕ) (columns : List ℕ) (matrix : List ℤ) where
  rows-length : length (matrix_rows n (length columns) matrix) ≡ length columns
  unfolding matrix_rows
  rows-length = length-map (parts list_columns (length columns) matrix) (take n) ∙ parts-length list_columns (length columns) matrix

  pub pivots-length : length (pivots_in n columns matrix) ≡ length columns
  unfolding pivots_in matrix_rows
  pivots-length = length-zip_with pivot_at (matrix_rows n (length columns) matrix) columns rows-length ∙ rows-length

  -- Settled row i of the store.
  pub pivot-at : (i : ℕ) → n ≤ list_columns → i < length columns
      → drop i (pivots_in n columns matrix)
      ≡ pivot_at (take n (drop (i * list_columns) matrix)) (get_or columns i 0) ∷ drop (i + 1) (pivots_in n columns matrix)
  unfolding pivots_in matrix_rows
  pivot-at i h k =
      drop-next (pivots_in n columns matrix) i none (rw pivots-length k)
      ∙ ap (λ p. p ∷ drop (i + 1) (pivots_in n columns matrix))
      (get_or-zip_with pivot_at (matrix_rows n (length columns) matrix) columns i [] 0 none (rw rows-length k) k
      ∙ ap (λ r. pivot_at r (get_or columns i 0)) row)
    where
      none : Pivot
      none = pivot_at [] 0

      row : get_or (matrix_rows n (length columns) matrix) i [] ≡ take n (drop (i * list_columns) matrix)
      row =
          get_or_map (take n) (parts list_columns (length columns) matrix) i [] [] (rw parts-length k)
          ∙ ap (take n) (get_or-parts list_columns (length columns) matrix i k)
          ∙ take-take n list_columns (drop (i * list_columns) matrix) h

  -- The columns of the settled rows are those of the store.
  pub free-columns : (f : ℕ) → is_free_of (pivots_in n columns matrix) f ≡ every (λ c. not (eqb c f)) columns
  unfolding pivots_in
  free-columns f = zip-free (matrix_rows n (length columns) matrix) columns f rows-length

-- ---- through the settled rows

substitute_all-append : (ps qs : List Pivot) (v : List ℤ) → substitute_all_of (ps ++ qs) v ≡ substitute_all_of ps (substitute_all_of qs v)
unfolding substitute_all_of
substitute_all-append [] qs v = refl
substitute_all-append (p ∷ ps) qs v = ap (substitute p) (substitute_all-append ps qs v)

echelon-drop : (n : ℕ) (ps : List Pivot) (i : ℕ) → Echelon n ps → Echelon n (drop i ps)
unfolding Echelon
echelon-drop n ps zero t = t
echelon-drop n [] (suc i) t = t
echelon-drop n (p ∷ ps) (suc i) t = echelon-drop n ps i t.3

-- Behind the rows from i on.
unfoldable pub back : ℕ → List Pivot → ℕ → ℕ → List ℤ
unfolding substitute_all_of unit
back n ps f i = substitute_all_of (drop i ps) (unit n f)

pub back_none : (n : ℕ) (ps : List Pivot) (f i : ℕ) → length ps ≤ i → back n ps f i ≡ unit n f
unfolding back substitute_all_of
back_none n ps f i h = ap (λ qs. substitute_all_of qs (unit n f)) (drop_of_length-le ps {i = i} h)

pub back-all : (n : ℕ) (ps : List Pivot) (f i : ℕ) → i ≡ 0 → back n ps f i ≡ vector_at n ps f
unfolding back vector_at
back-all n ps f i e = ap (λ k. substitute_all_of (drop k ps) (unit n f)) e

pub back-next : (n : ℕ) (ps : List Pivot) (f i : ℕ) (p : Pivot) → drop i ps ≡ p ∷ drop (i + 1) ps
    → back n ps f i ≡ substitute p (back n ps f (i + 1))
unfolding back substitute_all_of
back-next n ps f i p e = ap (λ qs. substitute_all_of qs (unit n f)) e

pub unit-small : (n f : ℕ) → T (every small (unit n f))
unfolding unit small
unit-small n f = every-of-all small (unit n f) (all_set (λ x. T (small x)) (replicate n (pos 0)) f (pos 1) tt
    (all_replicate (λ x. T (small x)) n (pos 0) tt))

module _ (n : ℕ) (ps : List Pivot) (f : ℕ) (below : f < n) (c : FreeColumn n ps f) where
  pub back-solves : (i : ℕ) → Solves n (drop i ps) f (back n ps f i)
  unfolding back vector_at Free
  back-solves i =
      vector-solves n (drop i ps) (echelon-drop n ps i c.settled.echelon) f below (all_drop (λ p. p.column ≢ f) i ps c.free)

  -- What is within ±C at the end was so on the way.
  pub back-small : (i : ℕ) → T (every small (vector_at n ps f)) → T (every small (back n ps f i))
  unfolding vector_at back
  back-small i h =
      small-on-the-way n f (take i ps) (drop i ps) (subst (Echelon n) (sym whole) c.settled.echelon)
      (subst (λ qs. Free qs f) (sym whole) c.free) (back n ps f i) (back-solves i)
      (subst (λ w. T (every small w)) end h)
    where
      whole : take i ps ++ drop i ps ≡ ps
      whole = take-append-drop i ps

      end : vector_at n ps f ≡ substitute_all_of (take i ps) (back n ps f i)
      end = ap (λ qs. substitute_all_of qs (unit n f)) (sym whole) ∙ substitute_all-append (take i ps) (drop i ps) (unit n f)

  -- What a step asks of settled row i.
  pub row-ready : (i : ℕ) (r : List ℤ) (k : ℕ) → drop i ps ≡ pivot_at r k ∷ drop (i + 1) ps
      → (length r ≡ n) × (k < n) × T (every small r) × (get_or r k (pos 0) ≢ pos 0)
  unfolding Echelon All pivot_of at
  row-ready i r k e =
      let t = subst (Echelon n) e (echelon-drop n ps i c.settled.echelon) in
      let w = subst (All (λ p. T (every small p.numbers) × (p.column < n))) e
      (all_drop (λ p. T (every small p.numbers) × (p.column < n)) i ps c.settled.within) in
      (t.0, w.0.1, w.0.0, t.1)

  -- A row that is 0 at the column leaves the first vector as it is.
  back-passed : (i : ℕ) (r : List ℤ) (k : ℕ) → drop i ps ≡ pivot_at r k ∷ drop (i + 1) ps → get_or r f (pos 0) ≡ pos 0
      → back n ps f (i + 1) ≡ unit n f → back n ps f i ≡ unit n f
  unfolding All Free at product unit
  back-passed i r k e apart same =
      back-next n ps f i (pivot_at r k) e ∙ ap (substitute (pivot_at r k)) same
      ∙ substitute-none r (unit n f) k (row-ready i r k e).3 (dot-sum r (unit n f) ∙ sum_below-zeros (length r) (product r (unit n f)) none)
      ∙ ap (set (unit n f) k) (sym away) ∙ set-get_or (unit n f) k (pos 0)
    where
      elsewhere : (j : ℕ) → j ≢ f → get_or (unit n f) j (pos 0) ≡ pos 0
      elsewhere j h = (unit-solves n f below).elsewhere j h tt

      other : k ≢ f
      other = (subst (All (λ p. p.column ≢ f)) e (all_drop (λ p. p.column ≢ f) i ps c.free)).0

      away : get_or (unit n f) k (pos 0) ≡ pos 0
      away = elsewhere k other

      none : (j : ℕ) → j < length r → product r (unit n f) j ≡ pos 0
      none j h = by_cases (ℕ_discrete j f)
          (λ s. ap (λ a. a *ℤ get_or (unit n f) j (pos 0)) (ap (λ i. get_or r i (pos 0)) s ∙ apart)
          ∙ zero-*ℤ (get_or (unit n f) j (pos 0)))
          (λ s. ap (λ a. get_or r j (pos 0) *ℤ a) (elsewhere j s) ∙ *ℤ-zero (get_or r j (pos 0)))

  pub filled-all : (i : ℕ) (v : List ℤ) → i ≡ 0 → v ≡ back n ps f i → T (every small v) → Filled true (vector_at n ps f) v
  filled-all i v z e h =
      let is = e ∙ back-all n ps f i z in
      record { judged = sym (true_of (every small (vector_at n ps f)) (subst (λ w. T (every small w)) is h)); same = λ _. is }

  pub filled-not : (i : ℕ) (v : List ℤ) → v ≡ back n ps f i → every small v ≡ false → Filled false (vector_at n ps f) v
  filled-not i v e h =
      record {
        judged = sym (false_of (every small (vector_at n ps f)) (λ t. subst T (ap (every small) (sym e) ∙ h) (back-small i t)));
        same = λ z. absurd (subst T (sym z) tt);
      }

-- Behind the last row of a store that meets the column.
pub back-unmet : (n f : ℕ) (columns : List ℕ) (matrix : List ℤ) (r : ℕ) → n ≤ list_columns → f < n
    → FreeColumn n (pivots_in n columns matrix) f → MetBelow matrix f (length columns) r → back n (pivots_in n columns matrix) f r ≡ unit n f
back-unmet n f columns matrix r h below c met = go (length columns - r) r (omega (arith, met.few)) (le_refl r)
  where
    ps : List Pivot
    ps = pivots_in n columns matrix

    go : (d i : ℕ) → i + d ≡ length columns → r ≤ i → back n ps f i ≡ unit n f
    go zero i e k = back_none n ps f i (rw pivots-length (omega arith))
    go (suc d) i e k =
        let inside : i < length columns = omega arith in
        let entry = get_or-take n (drop (i * list_columns) matrix) f (pos 0) below ∙ get_or-drop (i * list_columns) matrix f (pos 0) in
        back-passed n ps f below c i (take n (drop (i * list_columns) matrix)) (get_or columns i 0) (pivot-at n columns matrix i h inside)
        (entry ∙ met.unmet i k inside) (go d (i + 1) (omega arith) (omega arith))
