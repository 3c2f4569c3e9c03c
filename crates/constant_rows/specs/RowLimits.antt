-- The limits that constant rows pass: 12 of Horner's rule and 8 of a value, and no other (SCOPE 14.33, 14.34).
--
-- Main definitions
--   Limit n             8 or 12
--   Limits j            what is judged passes no other limit
-- Main statements
--   and_on-limits, each-limits, cond-limits   one after another, and one of two
--   row-limits, rows-limits                  a constant row, and all of them
use Rattle.std.specs.Prelude.{ℕ, ◌≡◌, refl, ◌⊎◌, Bool, true, false, cond, List, [], ◌∷◌, ℤ}
use Rattle.std.proofs.Common.{inl, inr}
use Rattle.std.proofs.Math.Option.{Option, none, some}
use Rattle.algebra.specs.Sums.{count_from}
use Rattle.evaluation.specs.Evaluated.{horner}
use Rattle.rules.specs.Limits.{small}
use Rattle.rules.specs.Rows.{Row, Relation}
use Rattle.rules.specs.Stores.{Sizes}
use Rattle.constant_rows.specs.Constants.{Judged, fine, passed, and_on, each, judge_value, entry_at, column_polynomial, constant_row_of}
use Rattle.constant_rows.specs.Constants.{constant_rows_of, the_columns_of, asked}

-- 12 or 8.
abbrev pub Limit : ℕ → Type 0
Limit n = (n ≡ 8) ⊎ (n ≡ 12)

-- What is judged passes no other limit.
abbrev pub Limits : {A : Type 0} → Judged A → Type 0
Limits (fine a) = Unit {0}
Limits (passed n) = Limit n

pub and_on-limits : {A B : Type 0} (o : Judged A) (f : A → Judged B) → Limits o → ((a : A) → Limits (f a)) → Limits (and_on o f)
unfolding and_on
and_on-limits (fine a) f h k = k a
and_on-limits (passed n) f h k = h

pub each-limits : {A B : Type 0} (f : A → Judged B) → ((x : A) → Limits (f x)) → (l : List A) → Limits (each f l)
unfolding each
each-limits f h [] = tt
each-limits f h (x ∷ l) =
    and_on-limits (f x) (λ y. and_on (each f l) (λ ys. fine (y ∷ ys))) (h x)
    (λ y. and_on-limits (each f l) (λ ys. fine (y ∷ ys)) (each-limits f h l) (λ ys. tt))

pub cond-limits : {A : Type 0} (t : Bool) (x y : Judged A) → Limits x → Limits y → Limits (cond t x y)
cond-limits true x y h k = h
cond-limits false x y h k = k

value-limits : (o : Option ℤ) → Limits (judge_value o)
unfolding judge_value
value-limits none = inr refl
value-limits (some v) = cond-limits (small v) (fine v) (passed 8) tt (inl refl)

pub row-limits : (m : ℕ) (l : ℤ) (N : ℕ) (r : Row) (n : ℤ) → Limits (constant_row_of m l N r n)
unfolding constant_row_of entry_at
row-limits m l N r n =
    each-limits (λ j. entry_at n (column_polynomial m l r n j)) (λ j. value-limits (horner n (column_polynomial m l r n j)))
    (count_from 0 (the_columns_of m N))

pub rows-limits : (z : Sizes) (N : ℕ) (rows : List Row) (relations : List Relation) → Limits (constant_rows_of z N rows relations)
unfolding constant_rows_of
rows-limits z N rows relations =
    each-limits (λ e. constant_row_of z.m z.l N e.row e.index) (λ e. row-limits z.m z.l N e.row e.index)
    (asked z N rows relations)
