-- `records::equations_at` meets its contract. The invariant: the tests from row i on, after i more, answer as all of them do.
-- Assumes nothing.
use mathlib.Core.Path.{◌≡◌, sym, ◌∙◌, ap, ap₂}
use mathlib.Core.Logic.{◌≢◌}
use mathlib.Core.List.{List, ◌∷◌}
use mathlib.Core.Option.{some}
use Prim.Native.Nat.{ℕ, suc, ◌+◌, ◌*◌, ◌-◌}
use native.Mathlib.Nat.{add-zero, sub-zero}
use native.Mathlib.Omega.{arith}
use borrow.Author.Rules.{sfits_of}
use lib.IntN.{ℤ, pos}
use lib.ListN.{get_or}
use mir.Syntax.{w64}
use mir.Val.{SFits, of_z, to_z}
use mir.Facts.{to_z-of_z, sfits_lit}
use Rattle.integers.specs.Ranges.{of_z-inj}
use Rattle.records.specs.Records.{Tested, equation, answer_to, fits, most_vectors}
use Rattle.records.specs.RecordAnswers.{answer_of, answer-past, answer-zero, answer-fails}
use Rattle.records.specs.Successive.{stored_sum, stored_tests, stored_past, stored_there}
use Rattle.records.proofs.equations_at.Goals as goal
use Rattle.records.proofs.equations_at.Goals.{After-sum-1, In-loop-i, Start}

-- A turn: row i.
module _ (d : In-loop-i) where
  abbrev s : Start
  s = (goal.at.In-loop-i d).Start

  abbrev n : ℤ
  n = s.args.n

  abbrev sums : List ℤ
  sums = s.args.sums.now

  abbrev formed : List ℕ
  formed = s.args.formed.now

  abbrev i : ℕ
  i = d.loop-i.i

  abbrev sum : ℤ
  sum = get_or sums (i * most_vectors + s.args.j) (pos 0)

  abbrev test : Tested
  test = record { which = equation (i + 1); index = n; sum = stored_sum sums formed s.args.j i }

  abbrev rest : List Tested
  rest = stored_tests n sums formed s.args.j (i + 1) (s.args.equations - (i + 1))

  whole : answer_to (s.args.before + i) (test ∷ rest)
      ≡ answer_to s.args.before (stored_tests n sums formed s.args.j 0 s.args.equations)
  unfolding stored_tests
  whole =
      let turns : s.args.equations - i ≡ suc (s.args.equations - (i + 1)) = omega (arith, d.loop-i-test.true) in
      ap (λ k. answer_to (s.args.before + i) (stored_tests n sums formed s.args.j i k)) (sym turns)
      ∙ (simp (to_z-of_z s.ranges.n) at d.loop-i.invariant)

pub loop-i-init : goal.loop-i-init
loop-i-init c =
    let a = c.args in
    ap₂ (λ k e. answer_to k (stored_tests (to_z w64 (of_z w64 a.n)) a.sums.now a.formed.now a.j 0 e)) (add-zero a.before)
    (sub-zero a.equations)

pub offset_bounds-formed-i : goal.offset_bounds-formed-i
offset_bounds-formed-i c = omega (arith, c.loop-i-test.true, (s c).requires.equations_le_most_equations.0)

pub bounds-formed-i : goal.bounds-formed-i
bounds-formed-i c =
    let d = (goal.at.bounds-formed-i c).In-loop-i in
    omega (arith, d.loop-i-test.true, (s d).requires.equations_le_most_equations.0, (s d).requires.equations_le_most_equations.1)

pub returns-then-formed-i : goal.returns-then-formed-i
unfolding answer_of
returns-then-formed-i c =
    let d = (goal.at.returns-then-formed-i c).In-loop-i in
    sym (sym (whole d) ∙ answer-past ((s d).args.before + i d) (test d) (rest d)
    (stored_past (sums d) (formed d) (s d).args.j (i d) c.if-formed-i.true))

pub overflow_mul-sum : goal.overflow_mul-sum
overflow_mul-sum c =
    let d = (goal.at.overflow_mul-sum c).In-loop-i in omega (arith, d.loop-i-test.true, (s d).requires.equations_le_most_equations.0)

pub overflow_add-sum : goal.overflow_add-sum
overflow_add-sum c =
    let d = (goal.at.overflow_add-sum c).In-loop-i in
    omega (arith, d.loop-i-test.true, (s d).requires.equations_le_most_equations.0, (s d).requires.most_equations_in_bounds.1)

pub offset_bounds-sums-i : goal.offset_bounds-sums-i
offset_bounds-sums-i c =
    let d = (goal.at.offset_bounds-sums-i c).In-loop-i in
    omega (arith, d.loop-i-test.true, (s d).requires.equations_le_most_equations.0, (s d).requires.most_equations_in_bounds.1)

pub bounds-sums-i : goal.bounds-sums-i
bounds-sums-i c =
    let d = (goal.at.bounds-sums-i c).In-loop-i in
    omega (
      arith,
      d.loop-i-test.true,
      (s d).requires.equations_le_most_equations.0,
      (s d).requires.most_equations_in_bounds.0,
      (s d).requires.most_equations_in_bounds.1,
    )

-- A sum that is formed.
module _ (k : After-sum-1) where
  abbrev d : In-loop-i
  d = (goal.at.After-sum-1 k).In-loop-i

  sum-found : (test d).sum ≡ some (sum d)
  sum-found = stored_there (sums d) (formed d) (s d).args.j (i d) k.if-formed-i.false

  sum_fits : SFits w64 (sum d)
  sum_fits = sfits_of k.sum-1.given

pub overflow_add-result : goal.overflow_add-result
overflow_add-result c =
    let after = (goal.at.overflow_add-result c).After-sum-1 in
    let e = d after in omega (arith, e.loop-i-test.true, (s e).requires.equations_le_most_equations.0)

pub returns-then-sum-ne0 : goal.returns-then-sum-ne0
unfolding answer_of
returns-then-sum-ne0 c =
    let k = (goal.at.returns-then-sum-ne0 c).After-sum-1 in
    let e = d k in
    let nonzero : sum e ≢ pos 0 = λ z. c.if-sum-ne0.true (ap (of_z w64) z) in
    simp (to_z-of_z {w = w64} (s e).ranges.n, to_z-of_z {w = w64} (sum_fits k))
    (sym (sym (whole e) ∙ answer-fails ((s e).args.before + i e) (test e) (rest e) (sum e) (sum-found k) nonzero))

pub loop-i-preserved : goal.loop-i-preserved
loop-i-preserved c =
    let k = (goal.at.loop-i-preserved c).After-sum-1 in
    let e = d k in
    let zero-sum : sum e ≡ pos 0 = of_z-inj (sum_fits k) (sfits_lit tt) c.if-sum-ne0.false in
    let more : (s e).args.before + i e + 1 ≡ (s e).args.before + (i e + 1) = omega arith in
    simp (to_z-of_z {w = w64} (s e).ranges.n)
    (ap (λ j. answer_to j (rest e)) (sym more)
    ∙ sym (answer-zero ((s e).args.before + i e) (test e) (rest e) (sum-found k ∙ ap some zero-sum)) ∙ whole e)

pub returns : goal.returns
unfolding answer_of answer_to stored_tests
returns c =
    let a = c.args in
    let all : c.loop-i.i ≡ a.equations = omega (arith, c.loop-i.auto.i-end, c.loop-i-test.false) in
    let none_left : a.equations - c.loop-i.i ≡ 0 = omega arith in
    ap (λ j. fits (a.before + j)) (sym all)
    ∙ sym (ap (λ k. answer_to (a.before + c.loop-i.i) (stored_tests a.n a.sums.now a.formed.now a.j
    c.loop-i.i k)) none_left)
    ∙ (simp (to_z-of_z c.ranges.n) at c.loop-i.invariant)
