-- `records::relations_fit` meets its contract. The invariant: the tests from relation i on, after those before, answer as all of them do.
-- Assumes nothing.
use mathlib.Core.Path.{◌≡◌, refl, sym, ◌∙◌, ap}
use mathlib.Core.List.{List, [], ◌∷◌, ◌++◌}
use Prim.Native.Nat.{ℕ, ◌+◌, ◌*◌}
use native.Mathlib.Omega.{arith}
use borrow.Author.Rules.{rules}
use lib.ListN.{take, drop}
use mir.Syntax.{w64}
use mir.Facts.{to_z-of_z}
use Rattle.rules.specs.Limits.{relation_length}
use Rattle.rules.specs.Rows.{Relation}
use Rattle.rules.specs.Stores.{relation_of, relations_of}
use Rattle.stores.specs.Validity.{the_sizes_of}
use Rattle.records.specs.Records.{Tested, fits, relation_tests, answer_to}
use Rattle.records.specs.RecordAnswers.{answer_of, go_on, stays, refused-stays, answer-append, answer-count, relations-next, relations-end, relation-small}
use Rattle.records.specs.RecordAnswers.{relation-tests-next, relation-tests-few}
use Rattle.records.specs.declared.Finding.{Finding}
use Rattle.records.specs.declared.Finding.TheVariants.{Fits}
use Rattle.refusals.specs.declared.Refusal.{Refusal}
use Rattle.std.proofs.Common.{Result, Ok, Err}
use Rattle.std.proofs.lemmas.Result.{err_from_is_err_and}
use Rattle.records.proofs.relations_fit.Goals as goal
use Rattle.records.proofs.relations_fit.Goals.{In-loop-i, Start}

-- A turn: relation i.
module _ (d : In-loop-i) where
  abbrev s : Start
  s = (goal.at.In-loop-i d).Start

  abbrev i : ℕ
  i = d.loop-i.i

  abbrev tested : ℕ
  tested = d.loop-i.tested

  abbrev relations : List Relation
  relations = relations_of s.args.count s.args.relations.now

  abbrev tests : ℕ → List Relation → List Tested
  tests k es = relation_tests (the_sizes_of s.args.sizes) s.args.first s.args.vectors s.args.values.now k es

  abbrev e : Relation
  e = relation_of (take relation_length (drop (i * relation_length) s.args.relations.now))

  abbrev here : List Tested
  here = tests (i + 1) (e ∷ [])

  abbrev later : List Tested
  later = tests (i + 1 + 1) (drop (i + 1) relations)

  whole : answer_to tested (here ++ later) ≡ answer_to s.args.before (tests 1 relations)
  whole =
      ap (answer_to tested)
      (sym
      (ap (tests (i + 1)) (relations-next s.args.count s.args.relations.now i d.loop-i-test.true)
      ∙ relation-tests-next (the_sizes_of s.args.sizes) s.args.first s.args.vectors s.args.values.now (i + 1) e
      (drop (i + 1) relations)))
      ∙ (simp (to_z-of_z s.ranges.first) at d.loop-i.invariant.1)

-- What relation i answers.
module _ (d : In-loop-i) (r : Result Finding Refusal) (answered : answer_of r ≡ answer_to (tested d) (here d)) where
  goes_on : go_on (later d) (answer_of r) ≡ answer_to (s d).args.before (tests d 1 (relations d))
  goes_on = ap (go_on (later d)) answered ∙ sym (answer-append (tested d) (here d) (later d)) ∙ whole d

pub loop-i-init : goal.loop-i-init
loop-i-init c = (
  search rules,
  refl,
)

pub relation_at-requires : goal.relation_at-requires
relation_at-requires c =
    let st = s c in
    let small =
    relation-small (the_sizes_of st.args.sizes) st.args.count st.args.relations.now (i c) c.loop-i-test.true
    (omega (arith, st.requires.count_bound.0, st.requires.count_bound.1)) st.requires.count_bound.2 in
    simp (to_z-of_z st.ranges.first) record {
      t = (st.requires.t.0, st.requires.t.1, st.requires.t.2);
      relation_length_in_bounds =
          (omega (arith, c.loop-i-test.true, st.requires.count_bound.0, st.requires.count_bound.1), small.0, small.1);
      t_2 = (
        st.requires.t_2.0,
        st.requires.t_2.1,
        omega
            (arith, c.loop-i.invariant.0, c.loop-i-test.true, st.requires.count_bound.0, st.requires.t_2.2),
      );
    }

pub returns-in_err-finding : goal.returns-in_err-finding
returns-in_err-finding c =
    let d = (goal.at.returns-in_err-finding c).In-loop-i in
    let p = err_from_is_err_and c.from_residual.result c.from_residual.ensures.1 in
    let answered = simp (to_z-of_z {w = w64} (s d).ranges.first) at c.in_err-finding.ensures in
    rw (p.1, p.2)
    (sym (refused-stays c.in_err-finding.field-0.0 (later d)) ∙ goes_on d (Err c.in_err-finding.field-0.0) answered)

pub returns-in_default : goal.returns-in_default
returns-in_default c =
    let d = (goal.at.returns-in_default c).In-loop-i in
    let answered = simp (to_z-of_z {w = w64} (s d).ranges.first) at c.in_ok-finding.ensures in
    sym (stays c.in_ok-finding.finding (later d) c.in_default.not-Fits)
    ∙ goes_on d (Ok c.in_ok-finding.finding) answered

pub loop-i-preserved : goal.loop-i-preserved
unfolding answer_of go_on
loop-i-preserved c =
    let t = (goal.at.loop-i-preserved c).In-loop-i in
    let k = c.in-Fits.k in
    let finding = c.in_ok-finding.finding in
    let known : finding ≡ Fits k = c.in-Fits.is in
    let answered = simp (to_z-of_z {w = w64} (s t).ranges.first) at c.in_ok-finding.ensures in
    let found : answer_to (tested t) (here t) ≡ fits k = sym answered ∙ ap (λ r. answer_of (Ok r)) known in
    let count = answer-count (tested t) k (here t) found in
    let few =
    relation-tests-few (the_sizes_of (s t).args.sizes) (s t).args.first (s t).args.vectors (s t).args.values.now (i t + 1) (e t) in (
      omega (arith, count, few, t.loop-i.invariant.0),
      simp (to_z-of_z {w = w64} (s t).ranges.first) (sym (ap (λ r. go_on (later t) (answer_of (Ok r))) known) ∙ goes_on t (Ok finding) answered),
    )

pub returns : goal.returns
unfolding answer_of answer_to relation_tests
returns c =
    let tests = relation_tests (the_sizes_of c.args.sizes) c.args.first c.args.vectors c.args.values.now in
    sym
    (ap (λ es. answer_to c.loop-i.tested (tests (c.loop-i.i + 1) es))
    (relations-end c.args.count c.args.relations.now c.loop-i.i c.loop-i-test.false))
    ∙ (simp (to_z-of_z c.ranges.first) at c.loop-i.invariant.1)
