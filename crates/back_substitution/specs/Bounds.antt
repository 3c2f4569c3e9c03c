-- How large the numbers of a vector become on the way of the back substitution.
--
-- Main statements
--   substitute-grows   no number of a vector becomes smaller by a step of the back substitution
--   small-before, small-on-the-way   so what is within ±C at the end was so on the way: 8 comes just where a listed value is past ±C
use Rattle.std.specs.Prelude.{ℕ, ◌*◌, ◌≤◌, ◌≡◌, ◌≢◌, List, [], ◌∷◌, ◌++◌, T, ℤ, pos, nat_abs}
use Rattle.std.proofs.Common.{sym, ◌∙◌, ap, subst, le_trans, mul-le-mul_right, one-mul, arith, leb→le, le→leb}
use Rattle.std.proofs.Math.Logic.{by_cases}
use Rattle.std.proofs.Math.Decide.{ℕ_discrete}
use Rattle.algebra.specs.Integers.{nat_abs-*ℤ}
use Rattle.lists.specs.Everywhere.{All, get_or-all}
use Rattle.lists.specs.Tests.{every, every-all, every-get_or}
use Rattle.rules.specs.Limits.{bound, small}
use Rattle.echelon.specs.Eliminated.{Pivot, at, pivot_of}
use Rattle.back_substitution.specs.Listed.{dot, substitute, substitute_all_of}
use Rattle.back_substitution.specs.Substituted.{Free, Solves, substitute-solves, substitute-away, times}
use Rattle.back_substitution.specs.Substituted.{times-positive, echelon-free}
use Rattle.echelon.specs.KernelKept.{Echelon}

pub substitute-grows : (n : ℕ) (p : Pivot) (ps : List Pivot) → Echelon n (p ∷ ps) → (f : ℕ) → p.column ≢ f → (v : List ℤ) → Solves n ps f v
    → (j : ℕ) → nat_abs (at v j) ≤ nat_abs (at (substitute p v) j)
unfolding Echelon
substitute-grows n p ps t f other v s j = by_cases (ℕ_discrete j p.column) here away
  where
    d : ℤ
    d = pivot_of p

    S : ℤ
    S = dot p.numbers v

    none : at v p.column ≡ pos 0
    none = s.elsewhere p.column other (echelon-free n ps t.3 p.column t.2)

    here : j ≡ p.column → nat_abs (at v j) ≤ nat_abs (at (substitute p v) j)
    here e = subst (λ x. nat_abs x ≤ nat_abs (at (substitute p v) j)) (sym (ap (at v) e ∙ none)) (omega arith)

    away : j ≢ p.column → nat_abs (at v j) ≤ nat_abs (at (substitute p v) j)
    away e =
        subst (λ x. nat_abs (at v j) ≤ x) (sym (ap nat_abs (substitute-away p v j e) ∙ nat_abs-*ℤ (pos (times d S)) (at v j)))
        (subst (λ x. x ≤ times d S * nat_abs (at v j)) (one-mul (nat_abs (at v j)))
        (mul-le-mul_right (nat_abs (at v j)) (times-positive d S t.1)))

-- Every number is within ±C exactly if it is so at every place.
small-places : (v : List ℤ) → T (every small v) → (j : ℕ) → nat_abs (at v j) ≤ bound
unfolding small at
small-places v h j = leb→le (nat_abs (at v j)) bound (every-get_or small v (pos 0) tt h j)

places-small : (v : List ℤ) → ((j : ℕ) → nat_abs (at v j) ≤ bound) → T (every small v)
unfolding small at
places-small v h = (every-all small v).1 (get_or-all (λ x. T (small x)) v (pos 0) (λ j _. le→leb (nat_abs (at v j)) bound (h j)))

pub small-before : (n : ℕ) (p : Pivot) (ps : List Pivot) → Echelon n (p ∷ ps) → (f : ℕ) → p.column ≢ f → (v : List ℤ) → Solves n ps f v
    → T (every small (substitute p v)) → T (every small v)
small-before n p ps t f other v s h =
    places-small v (λ j. le_trans (substitute-grows n p ps t f other v s j) (small-places (substitute p v) h j))

-- The back substitution through more rows.
pub more-solves : (n f : ℕ) (qs ps : List Pivot) → Echelon n (qs ++ ps) → Free (qs ++ ps) f → (v : List ℤ) → Solves n ps f v
    → Solves n (qs ++ ps) f (substitute_all_of qs v)
unfolding Echelon Free All substitute_all_of
more-solves n f [] ps t z v s = s
more-solves n f (q ∷ qs) ps t z v s =
    substitute-solves n q (qs ++ ps) t f z.0 (substitute_all_of qs v) (more-solves n f qs ps t.3 z.1 v s)

-- A number past ±C on the way leads to one past ±C at the end: what is within ±C at the end was so on the way (SCOPE 14.53).
pub small-on-the-way : (n f : ℕ) (qs ps : List Pivot) → Echelon n (qs ++ ps) → Free (qs ++ ps) f → (v : List ℤ) → Solves n ps f v
    → T (every small (substitute_all_of qs v)) → T (every small v)
unfolding Echelon Free All substitute_all_of
small-on-the-way n f [] ps t z v s h = h
small-on-the-way n f (q ∷ qs) ps t z v s h =
    small-on-the-way n f qs ps t.3 z.1 v s
    (small-before n q (qs ++ ps) t f z.0 (substitute_all_of qs v) (more-solves n f qs ps t.3 z.1 v s) h)
