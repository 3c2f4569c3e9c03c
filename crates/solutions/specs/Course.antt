-- What has happened where the answer is a list, and where it is that there is none.
--
-- Main definitions
--   Begun z rows relations s   right sides are zero, the trailing run leads to s, and its rank is m
--   Course                     that, with N, the constant rows, the settled rows and the list
-- Main statements
--   listed-course    a list comes by such a course
--   none-course      where there is none there is no root, or the largest root plus t is negative
use Rattle.std.specs.Prelude.{ℕ, ◌≤◌, ◌⊎◌, Bool, true, false, cond, T, eqb, leb, ℤ, pos, negsuc, ◌+ℤ◌}
use Rattle.std.proofs.Math.Path.{◌≡◌, refl}
use Rattle.std.proofs.Common.{sym, ◌∙◌, ap, subst, inl, inr, leb→le}
use mathlib.Core.List.{List, []}
use Rattle.std.proofs.Math.Option.{Option, none, some}
use native.Mathlib.Omega.{arith}
use Rattle.std.proofs.Math.Dec.{eqb→eq}
use Rattle.rules.specs.Rows.{Row, Relation}
use Rattle.rules.specs.Elimination.{trailing, State, Outcome, going, done, refused, rank, whole_run_of}
use Rattle.rules.specs.Stores.{Sizes, span}
use Rattle.constant_rows.specs.Constants.{Judged, fine, passed, and_on, the_columns_of, constant_rows_of}
use Rattle.echelon.specs.Eliminated.{Pivot, eliminate}
use Rattle.back_substitution.specs.Listed.{sequences}
use Rattle.solutions.specs.SolutionAnswers.{Answer, refused_with, none_listed, listed, homogeneous, last_root_of, answer_of, list_for_of}
use Rattle.solutions.specs.SolutionAnswers.{answer_at, answer_for_of, after_trailing, answer}
use Rattle.constant_rows.specs.ListLengths.{largest_index}
use Rattle.echelon.specs.KernelKept.{and_on-fine}

pub record Begun (z : Sizes) (rows : List Row) (relations : List Relation) (s : State) : Type 0 where
  pub sides : T (homogeneous rows relations)
  pub accepts : whole_run_of trailing (span z) rows relations ≡ done s
  pub square : rank s ≡ z.m

pub record Course (z : Sizes) (rows : List Row) (relations : List Relation) (N : ℕ) (l : List (List ℤ)) : Type 0 where
  pub final : State
  pub begun : Begun z rows relations final
  pub root : ℤ
  pub last : last_root_of (span z) final ≡ some root
  pub end : root +ℤ z.t ≡ pos N
  pub small-end : N ≤ largest_index
  pub constants : List (List ℤ)
  pub made : constant_rows_of z N rows relations ≡ fine constants
  pub pivots : List Pivot
  pub eliminated : eliminate [] constants ≡ fine pivots
  pub shown : sequences (the_columns_of z.m N) pivots ≡ fine l

-- The answer is not a refusal.
abbrev Accepts : Answer → Type 0
Accepts (refused_with n) = ⊥
Accepts none_listed = Unit {0}
Accepts (listed N l) = Unit {0}

accepted-cond : (t : Bool) (x : Answer) (n : ℕ) → Accepts (cond t x (refused_with n)) → T t × (cond t x (refused_with n) ≡ x)
accepted-cond true x n h = (tt, refl)
accepted-cond false x n h = absurd h

module _ (z : Sizes) (rows : List Row) (relations : List Relation) where
  after-trailing : (o : Outcome) → Accepts (after_trailing z rows relations o)
      → (s : State) × (o ≡ done s) × (rank s ≡ z.m) × (after_trailing z rows relations o ≡ answer_for_of z rows relations (last_root_of (span z) s))
  unfolding after_trailing
  after-trailing (done s) h =
      let (t, e) = accepted-cond (eqb (rank s) z.m) (answer_for_of z rows relations (last_root_of (span z) s)) 14 h in
      (s, refl, eqb→eq (rank s) z.m t, e)
  after-trailing (refused n) h = absurd h
  after-trailing (going s) h = absurd h

  -- An answer that is no refusal has gone through the checks and the trailing run.
  begins : Accepts (answer z rows relations)
      → (s : State) × Begun z rows relations s × (answer z rows relations ≡ answer_for_of z rows relations (last_root_of (span z) s))
  unfolding answer
  begins h =
      let (t, e) = accepted-cond (homogeneous rows relations)
      (after_trailing z rows relations (whole_run_of trailing (span z) rows relations)) 14 h in
      let (s, f, r, g) = after-trailing (whole_run_of trailing (span z) rows relations) (subst Accepts e h) in
      (s, record { sides = t; accepts = f; square = r }, e ∙ g)

  -- A list comes of a root whose sum with t is N.
  found : (N : ℕ) (l : List (List ℤ)) (o : Option ℤ) → answer_for_of z rows relations o ≡ listed N l
      → (r : ℤ) × (o ≡ some r) × (r +ℤ z.t ≡ pos N) × (N ≤ largest_index) × (list_for_of z N rows relations ≡ fine l)
  unfolding answer_for_of answer_at answer_of
  found N l none e = let w : ◌≡◌ {A = ℕ} 0 1 = cc in absurd (omega arith)
  found N l (some r) e = let (a, b, c) = at-end (r +ℤ z.t) e in (r, refl, a, b, c)
    where
      of-judged : (K : ℕ) (j : Judged (List (List ℤ))) → answer_of K j ≡ listed N l → (K ≡ N) × (j ≡ fine l)
      of-judged K (fine k) f = (cc, cc)
      of-judged K (passed n) f = let w : ◌≡◌ {A = ℕ} 0 1 = cc in absurd (omega arith)

      at-end : (i : ℤ) → answer_at z rows relations i ≡ listed N l → (i ≡ pos N) × (N ≤ largest_index) × (list_for_of z N rows relations ≡ fine l)
      at-end (pos K) f =
          let (t, e) = accepted-cond (leb K largest_index) (answer_of K (list_for_of z K rows relations)) 14 (subst Accepts (sym f) tt) in
          let (a, b) = of-judged K (list_for_of z K rows relations) (sym e ∙ f) in
          (ap pos a, subst (λ k. k ≤ largest_index) a (leb→le K largest_index t), subst (λ k. list_for_of z k rows relations ≡ fine l) a b)
      at-end (negsuc k) f = let w : ◌≡◌ {A = ℕ} 0 1 = cc in absurd (omega arith)

  pub listed-course : (N : ℕ) (l : List (List ℤ)) → answer z rows relations ≡ listed N l → Course z rows relations N l
  unfolding list_for_of
  listed-course N l e =
      let (s, b, f) = begins (subst Accepts (sym e) tt) in
      let (r, o, i, n, j) = found N l (last_root_of (span z) s) (sym f ∙ e) in
      let (rs, made, more) = and_on-fine (constant_rows_of z N rows relations)
      (λ rs. and_on (eliminate [] rs) (sequences (the_columns_of z.m N))) l j in
      let (ps, settled, shown) = and_on-fine (eliminate [] rs) (sequences (the_columns_of z.m N)) l more in
      record {
        final = s;
        begun = b;
        root = r;
        last = o;
        end = i;
        small-end = n;
        constants = rs;
        made = made;
        pivots = ps;
        eliminated = settled;
        shown = shown;
      }

  -- There is no root, or N is negative.
  pub none-course : answer z rows relations ≡ none_listed → (s : State) × Begun z rows relations s
      × ((last_root_of (span z) s ≡ none) ⊎ ((r : ℤ) × (last_root_of (span z) s ≡ some r) × ((k : ℕ) × (r +ℤ z.t ≡ negsuc k))))
  unfolding answer_for_of answer_at answer_of
  none-course e =
      let (s, b, f) = begins (subst Accepts (sym e) tt) in
      (s, b, by-root (last_root_of (span z) s) (sym f ∙ e))
    where
      no-list : (K : ℕ) (j : Judged (List (List ℤ))) → answer_of K j ≡ none_listed → ⊥
      no-list K (fine k) f = let w : ◌≡◌ {A = ℕ} 0 1 = cc in omega arith
      no-list K (passed n) f = let w : ◌≡◌ {A = ℕ} 0 1 = cc in omega arith

      negative : (i : ℤ) → answer_at z rows relations i ≡ none_listed → (k : ℕ) × (i ≡ negsuc k)
      negative (pos K) f =
          let (t, g) = accepted-cond (leb K largest_index) (answer_of K (list_for_of z K rows relations)) 14 (subst Accepts (sym f) tt) in
          absurd (no-list K (list_for_of z K rows relations) (sym g ∙ f))
      negative (negsuc k) f = (k, refl)

      by-root : (o : Option ℤ) → answer_for_of z rows relations o ≡ none_listed
          → (o ≡ none) ⊎ ((r : ℤ) × (o ≡ some r) × ((k : ℕ) × (r +ℤ z.t ≡ negsuc k)))
      by-root none f = inl refl
      by-root (some r) f = inr (r, refl, negative (r +ℤ z.t) f)
