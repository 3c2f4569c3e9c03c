-- The last index N, from the trailing run on (SCOPE 14.21, 14.22).
--
-- Main definitions
--   LastIndex               refused; no N; or N
--   index_for t o, index_after z x   by the largest root, and by the outcome of the trailing run
--   answer_with z rows relations i  the answer, once it is known which N there is
--   last_over D settled store order j   the largest root of the first j trailing diagonal polynomials
--   last_of r                what the code's answer means
--
-- Main statements
--   answer-with             the answer by the last index
--   last_none, last-next, last-all   the largest root over no rows, one row more, all rows
--   last-settled, last-small   it depends on the rows and on their columns alone, and is within ±C
--   negative-none, past-refused, within-index   N by the largest root and t
--   after-refused, after-rank, after-root   the last index by what the trailing run has left
use Prim.Native.Nat.{ℕ, zero, suc, ◌+◌, ◌≤◌, ◌<◌, zero-le}
use Rattle.std.proofs.Common.{not-suc-le-zero, add-one, arith, ◌∙◌, true≢false, ltb-true, ltb-false, le-leb, eq-eqb, ne_eqb, take-suc, take_all}
use Rattle.std.specs.Prelude.{◌≡◌, ◌≢◌, Bool, true, false, eqb, leb, ℤ, pos, negsuc, ◌+ℤ◌, length, take, drop, get_or}
use Rattle.std.proofs.Math.Path.{refl, sym, ap, ap₂}
use Rattle.std.proofs.Math.Bool.{cond}
use mathlib.Core.List.Memᴰ
use mathlib.Core.List.{List, [], map, flatten, zip_with}
use Rattle.std.proofs.Math.Option.{Option, none, some}
use Rattle.std.proofs.lemmas.Bool.{lt-leb}
use Rattle.std.proofs.Math.Dec.{T, not_T}
use Rattle.std.proofs.Math.IntN.{nat_abs}
use Rattle.std.proofs.Math.Seq.{length-take-le}
use Rattle.std.specs.Int.Signed.{lt_z, non_neg}
use Rattle.algebra.specs.Polynomials.{Polynomial, is_zero_of}
use Rattle.algebra.specs.Coefficients.{degree-is_zero}
use Rattle.algebra.specs.Roots.{roots, roots-sound}
use Rattle.lists.specs.Everywhere.{all-member}
use Rattle.lists.specs.Joined.{flat_origin}
use Rattle.lists.specs.Tests.{every}
use Rattle.rules.specs.Limits.{bound, coefficient_count, most_span, small}
use Rattle.rules.specs.Rows.{Row, Relation}
use Rattle.rules.specs.Calls.{root_value}
use Rattle.rules.specs.Elimination.{leading, trailing, State, Outcome, going, done, refused, rank, diagonal, diagonal_place, furthest}
use Rattle.rules.specs.Elimination.{never_number}
use Rattle.rules.specs.Stores.{Sizes, span, rows_of, row_need}
use Rattle.theory.specs.Report.{furthest-some}
use Rattle.roots.specs.RootSearch.{roots-constant, roots-small}
use Rattle.working_rows.specs.Found.{Columns}
use Rattle.sides.specs.Lent.{Within}
use Rattle.sides.specs.FurthestRoots.{further_of}
use Rattle.sides.specs.ReportLaws.{settled_state, diagonals, length-diagonals, diagonal-at, diagonal_at_of}
use Rattle.solutions.specs.LargestRoots.{furthest-more, diagonals-small}
use Rattle.reduction.specs.Progress.{outcome_at, outcome_of, state_of}
use Rattle.reduction.specs.declared.step.Progress.{Progress}
use Rattle.reduction.specs.Answer as Run
use Rattle.runs.specs.CallLaws.{Final}
use Rattle.solutions.specs.SolutionAnswers.{Answer, refused_with, none_listed, last_root_of, answer_of, list_for_of, answer_at, answer_for_of}
use Rattle.solutions.specs.SolutionAnswers.{after_trailing}
use Rattle.constant_rows.specs.ListLengths.{largest_index}
use Rattle.solutions.specs.declared.trailing.Last.{Last}

-- ---- which N there is

pub data LastIndex : Type 0 where
  refused_index : ℕ → LastIndex
  no_index : LastIndex
  last_index_of : ℕ → LastIndex

unfoldable pub index_at : ℤ → LastIndex
index_at (pos N) = cond (leb N largest_index) (last_index_of N) (refused_index 14)
index_at (negsuc k) = no_index

unfoldable pub index_for : ℤ → Option ℤ → LastIndex
unfolding index_at
index_for t none = no_index
index_for t (some r) = index_at (r +ℤ t)

unfoldable pub index_after : Sizes → Outcome → LastIndex
unfolding index_for rank last_root_of span
index_after z (done s) = cond (eqb (rank s) z.m) (index_for z.t (last_root_of (span z) s)) (refused_index 14)
index_after z (refused n) = refused_index n
index_after z (going s) = refused_index never_number

unfoldable pub answer_with : Sizes → List Row → List Relation → LastIndex → Answer
unfolding answer_of list_for_of
answer_with z rows relations (refused_index n) = refused_with n
answer_with z rows relations no_index = none_listed
answer_with z rows relations (last_index_of N) = answer_of N (list_for_of z N rows relations)

module _ (z : Sizes) (rows : List Row) (relations : List Relation) where
  chosen : (t : Bool) (i j : LastIndex)
      → cond t (answer_with z rows relations i) (answer_with z rows relations j) ≡ answer_with z rows relations (cond t i j)
  chosen true i j = refl
  chosen false i j = refl

  at-index : (n : ℤ) → answer_at z rows relations n ≡ answer_with z rows relations (index_at n)
  unfolding answer_at answer_with index_at
  at-index (pos N) = chosen (leb N largest_index) (last_index_of N) (refused_index 14)
  at-index (negsuc k) = refl

  for-index : (o : Option ℤ) → answer_for_of z rows relations o ≡ answer_with z rows relations (index_for z.t o)
  unfolding answer_for_of answer_with index_for
  for-index none = refl
  for-index (some r) = at-index (r +ℤ z.t)

  pub answer-with : (x : Outcome) → after_trailing z rows relations x ≡ answer_with z rows relations (index_after z x)
  unfolding after_trailing answer_with index_after
  answer-with (done s) =
      let i = index_for z.t (last_root_of (span z) s) in
      ap (λ a. cond (eqb (rank s) z.m) a (refused_with 14)) (for-index (last_root_of (span z) s))
      ∙ chosen (eqb (rank s) z.m) i (refused_index 14)
  answer-with (refused n) = refl
  answer-with (going s) = refl

-- ---- the largest root over the rows of a store

pub last-settled : (D settled : ℕ) (store : List ℤ) (order : List ℕ) (s : State)
    → s.rows ≡ rows_of settled store → s.order ≡ take settled order → last_root_of D s ≡ last_root_of D (settled_state settled store order)
unfolding last_root_of diagonal
last-settled D settled store order s e f =
    let entry : Row → ℕ → Polynomial = λ r c. get_or (get_or r.blocks (diagonal_place trailing D) []) c [] in
    ap₂ (λ rows cs. furthest leading (flatten (map roots (zip_with entry rows cs)))) e f

module _ (D settled : ℕ) (store : List ℤ) (order : List ℕ) where
  unfoldable pub last_over : ℕ → Option ℤ
  last_over j = furthest leading (flatten (map roots (take j (diagonals trailing D settled store order))))

  pub last_none : last_over 0 ≡ none
  unfolding last_over furthest flatten
  last_none = refl

module _ (D settled : ℕ) (store : List ℤ) (order : List ℕ) (enough : settled ≤ length order) where
  abbrev ps : List Polynomial
  ps = diagonals trailing D settled store order

  size : length ps ≡ settled
  size = length-diagonals trailing D settled store order enough

  pub last-all : (j : ℕ) → settled ≤ j → last_over D settled store order j ≡ last_root_of D (settled_state settled store order)
  unfolding last_over last_root_of
  last-all j h = ap (λ l. furthest leading (flatten (map roots l))) (take_all j ps (rw size h))

  pub last-next : D ≤ most_span → Columns order → (j : ℕ) → j < settled
      → further_of leading (last_over D settled store order j)
      (furthest leading (roots (take coefficient_count (drop (diagonal_at_of trailing D j (get_or order j 0)) store))))
      ≡ last_over D settled store order (j + 1)
  unfolding last_over
  last-next few columns j h =
      ap (λ p. further_of leading (last_over D settled store order j) (furthest leading (roots p)))
      (sym (diagonal-at trailing D settled store order enough few columns j h))
      ∙ sym (furthest-more leading roots (take j ps) (get_or ps j []))
      ∙ ap (λ l. furthest leading (flatten (map roots l))) (sym (take-suc ps j [] (rw size h)))
      ∙ ap (last_over D settled store order) (sym (add-one j))

  -- It is a root of a diagonal polynomial, which is within ±C, and so is the root.
  pub last-small : D ≤ most_span → Columns order → Within (row_need settled) store
      → nat_abs (root_value (last_root_of D (settled_state settled store order))) ≤ bound
  unfolding last_root_of root_value
  last-small few columns w = cases (furthest leading (flatten (map roots ps))) refl
    where
      cases : (o : Option ℤ) → furthest leading (flatten (map roots ps)) ≡ o → nat_abs (root_value o) ≤ bound
      cases none e = zero-le
      cases (some r) e =
          let (p, i, k) = flat_origin roots ps (furthest-some leading (flatten (map roots ps)) e).0 in
          let within = all-member (λ q. T (every small q)) ps i (diagonals-small trailing D settled store order enough few columns w) in
          let nonzero = not_T (is_zero_of p) (λ z. Memᴰ.not-nil (rw (roots-constant p (degree-is_zero p z)) at k)) in
          omega (arith, roots-small p nonzero within r (roots-sound p ∣ k ∣₁))

-- ---- N by that root

-- What the code's answer means.
unfoldable pub index_of : ℕ → Bool → ℕ → LastIndex
index_of n true N = last_index_of N
index_of zero false N = no_index
index_of (suc n) false N = refused_index (suc n)

abbrev pub last_of : Last → LastIndex
last_of r = index_of r.refusal r.found r.index

pub negative-none : (n : ℤ) → lt_z n (pos 0) ≡ true → index_of 0 false 0 ≡ index_at n
unfolding index_of index_at
negative-none (pos k) h = absurd (not-suc-le-zero (ltb-true k 0 h))
negative-none (negsuc k) h = refl

pub past-refused : (n : ℤ) → lt_z (pos largest_index) n ≡ true → index_of 14 false 0 ≡ index_at n
unfolding index_of index_at
past-refused (pos k) h =
    ap (λ t. cond t (last_index_of k) (refused_index 14)) (sym (lt-leb k largest_index (ltb-true largest_index k h)))
past-refused (negsuc k) h = absurd (true≢false (sym h))

pub within-index : (n : ℤ) → lt_z n (pos 0) ≡ false → lt_z (pos largest_index) n ≡ false
    → T (non_neg n) × (index_of 0 true (nat_abs n) ≡ index_at n)
unfolding index_of index_at
within-index (pos k) h g =
    (tt, ap (λ t. cond t (last_index_of k) (refused_index 14)) (sym (le-leb k largest_index (ltb-false largest_index k g))))
within-index (negsuc k) h g = absurd (true≢false h)

-- ---- the last index by what the run has left

pub after-refused : (z : Sizes) (n : ℕ) (d : Bool) (s : State) → n ≢ 0 → index_of n false 0 ≡ index_after z (outcome_of n d s)
unfolding index_of index_after outcome_of
after-refused z zero d s h = absurd (h refl)
after-refused z (suc n) d s h = refl

-- The run is done, and the rows that are left are settled.
module _ (z : Sizes) (rows relations : List ℤ) (o : Run.Outcome) (end : Final trailing (span z) rows o) (none-refused : o.refusal ≡ 0) where
  abbrev p : Progress
  p = o.progress

  abbrev s : State
  s = state_of rows relations p

  ranked : rank s ≡ p.settled
  unfolding rank state_of
  ranked = length-take-le p.settled p.order (omega (arith, end.few-settled, end.four))

  abbrev ended : State
  ended = settled_state p.settled rows p.order

  same-root : last_root_of (span z) s ≡ last_root_of (span z) ended
  unfolding state_of
  same-root =
      last-settled (span z) p.settled rows p.order s (ap (λ n. rows_of n rows) (end.all_settled none-refused).1) refl

  came : index_after z (outcome_at rows relations o)
      ≡ cond (eqb p.settled z.m) (index_for z.t (last_root_of (span z) ended)) (refused_index 14)
  unfolding index_after outcome_of
  came =
      ap₂ (λ n d. index_after z (outcome_of n d s)) none-refused (end.all_settled none-refused).0
      ∙ ap₂ (λ n r. cond (eqb n z.m) (index_for z.t r) (refused_index 14)) ranked same-root

  pub after-rank : p.settled ≢ z.m → index_of 14 false 0 ≡ index_after z (outcome_at rows relations o)
  unfolding index_of
  after-rank h =
      sym (came ∙ ap (λ t. cond t (index_for z.t (last_root_of (span z) ended)) (refused_index 14)) (ne_eqb p.settled z.m h))

  pub after-root : p.settled ≡ z.m
      → index_for z.t (last_root_of (span z) ended) ≡ index_after z (outcome_at rows relations o)
  after-root h =
      sym (came ∙ ap (λ t. cond t (index_for z.t (last_root_of (span z) ended)) (refused_index 14)) (eq-eqb p.settled z.m h))
