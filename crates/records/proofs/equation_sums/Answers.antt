-- `records::equation_sums` meets its contract. The invariant: the sums of the first i rows are known; behind them stand zeros.
-- Assumes nothing.
use mathlib.Core.Path.{◌≡◌, ◌∙◌, sym, ap, subst}
use mathlib.Core.List.{List}
use mathlib.Core.Logic.{inr}
use Prim.Native.Nat.{ℕ, ◌+◌, ◌*◌, ◌≤◌, ◌<◌}
use native.Mathlib.Nat.{zero-add}
use native.Mathlib.Omega.{arith}
use borrow.Author.Rules.{rules}
use lib.IntN.{ℤ, pos}
use lib.ListN.{length, get_or, length-set}
use mir.Facts.{to_z-of_z}
use Rattle.rules.specs.Limits.{row_length}
use Rattle.rules.specs.Stores.{row_need}
use Rattle.records.specs.Records.{most_vectors}
use Rattle.records.specs.RecordAnswers.{row_small}
use Rattle.records.specs.Successive.{Known, AllKnown, sums_of, all-next}
use Rattle.records.proofs.equation_sums.Goals as goal
use Rattle.records.proofs.equation_sums.Goals.{In-loop-i, Start}

-- A turn: row i.
module _ (d : In-loop-i) where
  abbrev s : Start
  s = (goal.at.In-loop-i d).Start

  abbrev sums : List ℤ
  sums = d.loop-i.sums

  abbrev formed : List ℕ
  formed = d.loop-i.formed

  abbrev i : ℕ
  i = d.loop-i.i

  below : i < s.args.equations
  below = d.loop-i-test.true

  few : s.args.equations ≤ 6
  few = s.requires.equations_le_most_equations.0

  tests-few : s.args.tests ≤ 64
  tests-few = s.requires.equations_le_most_equations.1

  row_room : i * row_length + row_length ≤ length s.args.rows.now
  unfolding row_need
  row_room = omega (arith, below, s.requires.equations_in_bounds.0)

pub loop-i-init : goal.loop-i-init
loop-i-init c =
    let a = c.args in (
      c.requires.equations_le_most_equations.2,
      search rules,
      λ k l. absurd (omega arith),
      λ k h l. ap (λ j. get_or a.sums.now j (pos 0)) (sym (zero-add k)) ∙ c.requires.equations_le_most_equations.3.zeros k l,
    )

pub overflow_mul-i : goal.overflow_mul-i
overflow_mul-i c = let d = (goal.at.overflow_mul-i c).In-loop-i in omega (arith, below d, few d)

pub overflow_mul-i-in-loop-i : goal.overflow_mul-i-in-loop-i
overflow_mul-i-in-loop-i c = let d = (goal.at.overflow_mul-i-in-loop-i c).In-loop-i in omega (arith, below d, few d)

pub row_at-requires : goal.row_at-requires
row_at-requires c = row_room c.before

pub row_sums-requires : goal.row_sums-requires
row_sums-requires c =
    let d = (goal.at.row_sums-requires c).In-loop-i in
    let st = s d in
    let a = st.args in record {
      t = (
        rw c.row_at.ensures.result_value
            (row_small a.equations a.rows.now (i d) (below d) st.requires.equations_in_bounds.0 st.requires.equations_in_bounds.1),
        c.row_at.ensures.result_len,
        rw (to_z-of_z st.ranges.n) st.requires.equations_in_bounds.2,
      );
      t_2 = (st.requires.t.0, st.requires.t.1, st.requires.t.2, st.requires.t.3, omega arith, st.requires.t.4);
      zeros_at = record {
        room = omega (arith, below d, few d, tests-few d, st.requires.equations_le_most_equations.3.room, d.loop-i.invariant.1);
        zeros = λ j l. d.loop-i.invariant.3 (i d * most_vectors + j) (omega arith) (omega (arith, below d, few d, tests-few d));
      };
    }

pub offset_bounds-formed-i : goal.offset_bounds-formed-i
offset_bounds-formed-i c = let d = (goal.at.offset_bounds-formed-i c).In-loop-i in omega (arith, below d, few d)

pub bounds-formed-i : goal.bounds-formed-i
bounds-formed-i c = let d = (goal.at.bounds-formed-i c).In-loop-i in omega (arith, below d, few d, d.loop-i.invariant.0)

pub loop-i-preserved : goal.loop-i-preserved
loop-i-preserved c =
    let d = (goal.at.loop-i-preserved c).In-loop-i in
    let st = s d in
    let a = st.args in
    let inv = d.loop-i.invariant in
    let known : Known (sums_of a.m a.span a.n a.values.now a.rows.now (i d)) a.tests (i d * most_vectors) c.row_sums.new.sums
    c.row_sums.result = simp (to_z-of_z st.ranges.n, c.row_at.ensures.result_value) at c.row_sums.ensures.1 in
    let all = rw (to_z-of_z st.ranges.n) at inv.2 in (
      length-set (formed d) (i d) c.row_sums.result ∙ inv.0,
      c.row_sums.ensures.0.same_length ∙ inv.1,
      rw (to_z-of_z st.ranges.n)
          (all-next a.m a.span a.n a.values.now a.rows.now a.tests (sums d) (formed d) (i d) c.row_sums.new.sums c.row_sums.result
          (tests-few d) (omega (arith, below d, few d, inv.0)) all known c.row_sums.ensures.0),
      λ k h l. c.row_sums.ensures.0.others k (inr (omega (arith, tests-few d))) ∙ inv.3 k (omega arith) l,
    )

pub shape_of-sums : goal.shape_of-sums
shape_of-sums c = c.loop-i.invariant.1

pub shape_of-formed : goal.shape_of-formed
shape_of-formed c = c.loop-i.invariant.0 ∙ sym c.requires.equations_le_most_equations.2

pub returns : goal.returns
returns c =
    let a = c.args in
    let all : c.loop-i.i ≡ a.equations = omega (arith, c.loop-i.auto.i-end, c.loop-i-test.false) in
    subst (AllKnown a.m a.span a.n a.values.now a.rows.now a.tests c.loop-i.sums c.loop-i.formed) all
    (rw (to_z-of_z c.ranges.n) at c.loop-i.invariant.2)
