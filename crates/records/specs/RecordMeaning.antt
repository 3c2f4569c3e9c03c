-- What the sums of a record mean.
--
-- Main definitions
--   PassesLimit n p     a value of Horner's rule for p at n, the value of p without its lowest coefficients, is past the limit
--   entries_of m D r     the polynomials of a row that are evaluated, in their order
--   RowPasses           one of them passes the limit
--   Agrees              a sequence that has the recorded vectors
--
-- Main statements
--   horner-none         Horner's rule gives none exactly if a value on the way is past the limit
use Rattle.std.specs.Prelude.{ℕ, zero, suc, ◌+◌, ◌*◌, ◌≤◌, ◌<◌, ◌≡◌, refl, ◌↔◌, ◌⊎◌, Bool, true, false, not, cond, T, leb, take, drop, get_or, ℤ, nat_abs, ◌+ℤ◌, ◌*ℤ◌}
use Rattle.std.proofs.Common.{arith, subst, inl, inr, ⊎_elim}
use mathlib.Core.List.{List, [], ◌∷◌, ◌++◌, map, flatten, Memᴰ}
use Rattle.std.proofs.Math.Option.{Option, none, some}
use Rattle.std.proofs.Math.Dec.{nleb→lt}
use Rattle.std.proofs.Math.IntN.{pos}
use Rattle.algebra.specs.Polynomials.{Polynomial, eval}
use Rattle.rules.specs.Rows.{Row}
use Rattle.rules.specs.Sequences.{Sequence}
use Rattle.evaluation.specs.Evaluated.{value_limit, within, after, horner, some-none, after-some, within-size, horner-eval}

-- ---- Horner's rule

-- The values of Horner's rule, from the highest power down, are those of p without its i lowest coefficients.
unfoldable pub PassesLimit : ℤ → Polynomial → Type 0
PassesLimit n p = (i : ℕ) × (value_limit < nat_abs (eval (drop i p) n))

-- A value is there, or not.
formed : {A : Type 0} (o : Option A) → ((v : A) × (o ≡ some v)) ⊎ (o ≡ none)
formed none = inr refl
formed (some v) = inl (v, refl)

pub after_none : {A B : Type 0} (f : A → Option B) (o : Option A) → after f o ≡ none → (o ≡ none) ⊎ ((v : A) × (o ≡ some v) × (f v ≡ none))
unfolding after
after_none f none e = inl refl
after_none f (some v) e = inr (v, refl, e)

horner-near : (n : ℤ) (p : Polynomial) (v : ℤ) → horner n p ≡ some v → (i : ℕ) → nat_abs (eval (drop i p) n) ≤ value_limit
unfolding horner eval
horner-near n [] v e zero = omega arith
horner-near n [] v e (suc i) = omega arith
horner-near n (a ∷ p) v e zero =
    let w = after-some (λ v. within (a +ℤ n *ℤ v)) (horner n p) v e in
    subst (λ x. nat_abs (a +ℤ n *ℤ x) ≤ value_limit) (horner-eval n p w.0 w.1) (within-size (a +ℤ n *ℤ w.0) v w.2).1
horner-near n (a ∷ p) v e (suc i) =
    let w = after-some (λ v. within (a +ℤ n *ℤ v)) (horner n p) v e in
    horner-near n p w.0 w.1 i

within_none : (v : ℤ) → within v ≡ none → value_limit < nat_abs v
unfolding within
within_none v e = go (leb (nat_abs v) value_limit) (nleb→lt (nat_abs v) value_limit) e
  where
    go : (t : Bool) → (T (not t) → value_limit < nat_abs v) → cond t (some v) none ≡ none → value_limit < nat_abs v
    go true h e = absurd (some-none e)
    go false h e = h tt

past : (n : ℤ) (p : Polynomial) → horner n p ≡ none → PassesLimit n p
unfolding horner eval PassesLimit
past n [] e = absurd (some-none e)
past n (a ∷ p) e =
    ⊎_elim (λ h. let w = past n p h in (suc w.0, w.1))
    (λ w. (0, subst (λ x. value_limit < nat_abs (a +ℤ n *ℤ x)) (horner-eval n p w.0 w.1) (within_none (a +ℤ n *ℤ w.0) w.2)))
    (after_none (λ v. within (a +ℤ n *ℤ v)) (horner n p) e)

pub horner-none : (n : ℤ) (p : Polynomial) → (horner n p ≡ none) ↔ PassesLimit n p
unfolding PassesLimit
horner-none n p = (past n p, back)
  where
    back : PassesLimit n p → horner n p ≡ none
    back w =
        ⊎_elim (λ v. absurd (let h = horner-near n p v.0 v.1 w.0 in let k = w.1 in omega arith)) (λ e. e) (formed (horner n p))

-- ---- a row's polynomials

-- The entries in the blocks from l to t and the columns 1 to m, and the right side last.
unfoldable pub entries_of : ℕ → ℕ → Row → List Polynomial
entries_of m D r = flatten (map (take m) (take (suc D) r.blocks)) ++ (r.right ∷ [])

-- Some polynomial of a list passes the limit.
unfoldable pub SomePasses : ℤ → List Polynomial → Type 0
SomePasses n ps = (p : Polynomial) × Memᴰ p ps × PassesLimit n p

unfoldable pub RowPasses : ℕ → ℕ → Row → ℤ → Type 0
unfolding entries_of SomePasses
RowPasses m D r n = SomePasses n (entries_of m D r)

-- ---- a sum is the value of the row

-- A sequence that has the recorded vectors: vector j is that of index first + j (SCOPE 12.11).
unfoldable pub Agrees : ℕ → ℤ → ℕ → List ℤ → Sequence → Type 0
Agrees m first vectors values y = (j c : ℕ) → j < vectors → c < m → y (first +ℤ pos j) c ≡ get_or values (j * m + c) (pos 0)
