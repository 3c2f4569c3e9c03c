-- `records::terms::left_terms` meets its contract. The invariant: the terms of the first b blocks are listed.
-- Assumes nothing.
use mathlib.Core.Path.{◌≡◌, sym, ◌∙◌, subst}
use Prim.Native.Nat.{ℕ, suc, ◌+◌, ◌*◌, ◌-◌, ◌≤◌}
use native.Mathlib.Nat.{mul-le-mul, suc-mul}
use native.Mathlib.Omega.{arith}
use Rattle.records.specs.Terms.{BlocksListed, blocks-none, blocks-listed}
use Rattle.records.proofs.terms.left_terms.Goals as goal
use Rattle.records.proofs.terms.left_terms.Goals.{In-loop-b, Start}

-- A turn: block b.
module _ (d : In-loop-b) where
  abbrev s : Start
  s = (goal.at.In-loop-b d).Start

  abbrev m : ℕ
  m = s.args.m

  abbrev b : ℕ
  b = d.loop-b.b

  below : b ≤ s.args.span
  below = d.loop-b-test.true

  so_far : BlocksListed m s.args.span s.args.row.now d.loop-b.shape d.loop-b.count b
  so_far = d.loop-b.invariant

  -- Terms and numbers are at most those of five blocks of four columns.
  terms-few : d.loop-b.count + m ≤ 20
  terms-few =
      let blocks : suc b ≤ 5 = omega (arith, below, s.requires.2) in
      let most : suc b * m ≤ 5 * 4 = mul-le-mul blocks s.requires.1 in
      omega (arith, most, suc-mul b m, so_far.few)

  numbers-few : (s.args.span - b) * m ≤ 16
  numbers-few =
      let blocks : s.args.span - b ≤ 4 = omega (arith, s.requires.2) in
      let most : (s.args.span - b) * m ≤ 4 * 4 = mul-le-mul blocks s.requires.1 in
      omega (arith, most)

pub loop-b-init : goal.loop-b-init
loop-b-init c =
    blocks-none c.args.m c.args.span c.args.row.now c.args.shape.now c.requires.3

pub overflow_mul-b : goal.overflow_mul-b
overflow_mul-b c = let d = (goal.at.overflow_mul-b c).In-loop-b in omega (arith, below d, (s d).requires.2)

pub overflow_mul-span : goal.overflow_mul-span
overflow_mul-span c = omega (arith, numbers-few (goal.at.overflow_mul-span c).In-loop-b)

pub block_terms-count-requires : goal.block_terms-count-requires
block_terms-count-requires c =
    let d = (goal.at.block_terms-count-requires c).In-loop-b in record {
      block_length_in_bounds =
          (omega (arith, below d, (s d).requires.0, (s d).requires.2), (s d).requires.0, (s d).requires.1, omega (arith, numbers-few d));
      shape_len = ((so_far d).long, terms-few d);
    }

pub loop-b-preserved : goal.loop-b-preserved
loop-b-preserved e =
    let d = (goal.at.loop-b-preserved e).In-loop-b in
    blocks-listed (m d) (s d).args.span (s d).args.row.now d.loop-b.shape d.loop-b.count (b d)
    e.block_terms-count.new.shape e.block_terms-count.result (below d) (s d).requires.1 (so_far d) e.block_terms-count.ensures

pub shape_of-shape : goal.shape_of-shape
shape_of-shape c = c.loop-b.invariant.long ∙ sym c.requires.3

pub returns : goal.returns
returns e =
    let a = e.args in
    let all : e.loop-b.b ≡ a.span + 1 = omega (arith, e.loop-b.auto.b-end, e.loop-b-test.false) in
    subst (BlocksListed a.m a.span a.row.now e.loop-b.shape e.loop-b.count) all e.loop-b.invariant

-- After the last block.
pub returns-2 : goal.returns-2
returns-2 e =
    let d = (goal.at.returns-2 e).In-loop-b in
    let last : b d ≡ (s d).args.span = omega arith in
    subst (λ k. BlocksListed (m d) (s d).args.span (s d).args.row.now e.block_terms-count.new.shape e.block_terms-count.result (k + 1)) last
    (blocks-listed (m d) (s d).args.span (s d).args.row.now d.loop-b.shape d.loop-b.count (b d)
    e.block_terms-count.new.shape e.block_terms-count.result (below d) (s d).requires.1 (so_far d) e.block_terms-count.ensures)
