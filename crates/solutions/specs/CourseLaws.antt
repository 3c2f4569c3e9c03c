-- The course from N on, as a program goes through it: what is known of the rows and of the settled rows, and what a refusal on the way
-- means.
--
-- Main statements
--   reports-refused, refused-on   a limit that a part passes is what all of it passes
--   rows-small, rows-count  the constant rows: within ±C, and how many there are
--   rest, left, sound       what follows the rows, and what follows their elimination; the settled rows
use Rattle.std.specs.Prelude.{ℕ, suc, ◌+◌, ◌*◌, ◌≡◌, refl, ◌≢◌, Bool, true, false, cond, length, ℤ}
use Rattle.std.proofs.Common.{arith, ◌∙◌, subst}
use Rattle.std.proofs.Math.Path.{ap}
use mathlib.Core.List.{List, []}
use Rattle.std.proofs.Math.Option.{Option, none, some}
use Rattle.std.proofs.Math.Dec.{T}
use Rattle.algebra.specs.Sums.{count_from}
use Rattle.algebra.specs.Polynomials.{Polynomial}
use Rattle.evaluation.specs.Evaluated.{horner}
use Rattle.lists.specs.Everywhere.{all-always}
use Rattle.lists.specs.Tests.{every, every-all, true-T}
use Rattle.rules.specs.Limits.{small}
use Rattle.rules.specs.Rows.{Row, Relation}
use Rattle.rules.specs.Stores.{Sizes, span}
use Rattle.solutions.specs.Asked.{rows-length}
use Rattle.constant_rows.specs.RowCounts.{asked-length}
use Rattle.constant_rows.specs.Constants.{Judged, fine, passed, and_on, judge_value, entry_at, the_columns_of, column_polynomial, constant_row_of}
use Rattle.constant_rows.specs.Constants.{asked, constant_rows_of}
use Rattle.constant_rows.specs.ConstantStores.{reports-passed, passed-reports}
use Rattle.echelon.specs.Eliminated.{Pivot, eliminate}
use Rattle.back_substitution.specs.Listed.{sequences}
use Rattle.constant_rows.specs.Matrices.{Reports}
use Rattle.solutions.specs.RowMeaning.{each-length, each_all}
use Rattle.solutions.specs.SolutionAnswers.{list_for_of}
use Rattle.echelon.specs.SoundRows.{Sound, sound_none, eliminate-sound}

-- A limit that a part passes is what all of it passes.
pub reports-refused : {A B : Type 0} (P : A → Type 0) (Q : B → Type 0) (j : Judged A) (k : A → Judged B) (n : ℕ) → Reports P j n → n ≢ 0
    → Reports Q (and_on j k) n
unfolding and_on
reports-refused P Q j k n h e = passed-reports Q (and_on j k) n (ap (λ i. and_on i k) (reports-passed P j n h e))

pub refused-on : {A B : Type 0} (j : Judged A) (k : A → Judged B) (n : ℕ) → j ≡ passed n → and_on j k ≡ passed n
unfolding and_on
refused-on j k n e = ap (λ i. and_on i k) e

-- ---- the numbers of the constant rows

value-small : (o : Option ℤ) (v : ℤ) → judge_value o ≡ fine v → T (small v)
unfolding judge_value
value-small none v e = let z : ◌≡◌ {A = ℕ} 0 1 = cc in absurd (omega arith)
value-small (some x) v e = cases (small x) refl e
  where
    cases : (t : Bool) → small x ≡ t → cond t (fine x) (passed 8) ≡ fine v → T (small v)
    cases true h s = let same : x ≡ v = cc in subst (λ y. T (small y)) same (true-T _ h)
    cases false h s = let z : ◌≡◌ {A = ℕ} 0 1 = cc in absurd (omega arith)

entry-small : (n : ℤ) (p : Polynomial) (v : ℤ) → entry_at n p ≡ fine v → T (small v)
unfolding entry_at
entry-small n p v e = value-small (horner n p) v e

row_small : (m : ℕ) (l : ℤ) (N : ℕ) (r : Row) (n : ℤ) (row : List ℤ) → constant_row_of m l N r n ≡ fine row → T (every small row)
unfolding constant_row_of
row_small m l N r n row e =
    let columns = count_from 0 (the_columns_of m N) in
    (every-all small row).1
    ((each_all (λ _. Unit {0}) (λ v. T (small v)) (λ j. entry_at n (column_polynomial m l r n j))
    (λ j v f. (λ _. entry-small n (column_polynomial m l r n j) v f, λ _. tt)) columns row e).0
    (all-always (λ _. Unit {0}) (λ _. tt) columns))

-- ---- the course

module _ (z : Sizes) (N : ℕ) (rows : List Row) (relations : List Relation) where
  module _ (rs : List (List ℤ)) (made : constant_rows_of z N rows relations ≡ fine rs) where
    pub rows-small : T (every (every small) rs)
    unfolding constant_rows_of
    rows-small =
        (every-all (every small) rs).1
        ((each_all (λ _. Unit {0}) (λ r. T (every small r)) (λ e. constant_row_of z.m z.l N e.row e.index)
        (λ e row f. (λ _. row_small z.m z.l N e.row e.index row f, λ _. tt)) (asked z N rows relations) rs made).0
        (all-always (λ _. Unit {0}) (λ _. tt) (asked z N rows relations)))

    pub rows-count : length rs ≡ suc (N + span z) * length rows + length relations
    unfolding constant_rows_of
    rows-count = each-length _ (asked z N rows relations) rs made ∙ asked-length z N rows relations

    pub rest : list_for_of z N rows relations ≡ and_on (eliminate [] rs) (sequences (the_columns_of z.m N))
    unfolding list_for_of and_on
    rest = ap (λ j. and_on j (λ rs. and_on (eliminate [] rs) (sequences (the_columns_of z.m N)))) made

    module _ (ps : List Pivot) (done : eliminate [] rs ≡ fine ps) where
      pub left : list_for_of z N rows relations ≡ sequences (the_columns_of z.m N) ps
      unfolding and_on
      left = rest ∙ ap (λ j. and_on j (sequences (the_columns_of z.m N))) done

      pub sound : Sound (the_columns_of z.m N) ps
      sound =
          eliminate-sound (the_columns_of z.m N) rs [] (sound_none (the_columns_of z.m N)) (rows-length z N rows relations rs made) rows-small
          ps done
