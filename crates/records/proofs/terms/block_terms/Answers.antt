-- `records::terms::block_terms` meets its contract. The invariant: the terms of the first c columns are listed.
-- Assumes nothing.
use mathlib.Core.Path.{◌≡◌, sym, ◌∙◌, subst}
use Prim.Native.Nat.{ℕ, ◌+◌, ◌<◌}
use native.Mathlib.Nat.{add-zero}
use native.Mathlib.Omega.{arith}
use Rattle.records.specs.Terms.{Listed, columns_added, listed-none, listed-column}
use Rattle.records.proofs.terms.block_terms.Goals as goal
use Rattle.records.proofs.terms.block_terms.Goals.{In-loop-c, Start}

-- A turn: column c.
module _ (d : In-loop-c) where
  abbrev s : Start
  s = (goal.at.In-loop-c d).Start

  abbrev c : ℕ
  c = d.loop-c.c

  below : c < s.args.m
  below = d.loop-c-test.true

  so_far : Listed s.args.row.now s.args.shape.now s.args.before d.loop-c.shape d.loop-c.count c
      (s.args.number + c) (columns_added s.args.row.now s.args.at s.args.number c)
  so_far = d.loop-c.invariant

pub loop-c-init : goal.loop-c-init
loop-c-init c =
    let a = c.args in
    subst (λ k. Listed a.row.now a.shape.now a.before a.shape.now a.before 0 k
    (columns_added a.row.now a.at a.number 0)) (sym (add-zero a.number))
    (listed-none a.row.now a.at a.number a.shape.now a.before)

pub overflow_mul-c : goal.overflow_mul-c
overflow_mul-c c = let d = (goal.at.overflow_mul-c c).In-loop-c in omega (arith, below d, (s d).requires.block_length_in_bounds)

pub overflow_add-at : goal.overflow_add-at
overflow_add-at c = let d = (goal.at.overflow_add-at c).In-loop-c in omega (arith, below d, (s d).requires.block_length_in_bounds)

pub overflow_add-number : goal.overflow_add-number
overflow_add-number c = let d = (goal.at.overflow_add-number c).In-loop-c in omega (arith, below d, (s d).requires.block_length_in_bounds)

pub column_term-count-requires : goal.column_term-count-requires
column_term-count-requires c =
    let d = (goal.at.column_term-count-requires c).In-loop-c in record {
      coefficient_count_in_bounds =
          (omega (arith, below d, (s d).requires.block_length_in_bounds), (s d).requires.block_length_in_bounds.1);
      shape_len = ((so_far d).same_length ∙ (s d).requires.shape_len.0, omega (arith, (so_far d).few, below d, (s d).requires.shape_len.1));
    }

pub loop-c-preserved : goal.loop-c-preserved
loop-c-preserved e =
    let d = (goal.at.loop-c-preserved e).In-loop-c in
    listed-column (s d).args.row.now (s d).args.at (s d).args.number (s d).args.shape.now (s d).args.before (c d)
    d.loop-c.shape e.column_term-count.new.shape d.loop-c.count e.column_term-count.result (so_far d)
    e.column_term-count.ensures

pub shape_of-shape : goal.shape_of-shape
shape_of-shape c = c.loop-c.invariant.same_length

pub returns : goal.returns
returns e =
    let a = e.args in
    let all : e.loop-c.c ≡ a.m = omega (arith, e.loop-c.auto.c-end, e.loop-c-test.false) in
    subst (λ k. Listed a.row.now a.shape.now a.before e.loop-c.shape e.loop-c.count k (a.number + k)
    (columns_added a.row.now a.at a.number k)) all e.loop-c.invariant
