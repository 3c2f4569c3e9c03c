-- `records::checks::record_right` meets its contract. Where there is no vector the last index is that of the first.
-- Assumes nothing.
use mathlib.Core.Path.{◌≡◌, sym, ◌∙◌, ap}
use mathlib.Core.Bool.{true}
use Prim.Native.Nat.{◌-◌}
use native.Mathlib.Omega.{arith}
use borrow.Author.Tests.{lt-leb, le-leb}
use lib.Dec.{leb, leb→le, lit<}
use lib.IntN.{ℤ, pos, nat_abs, ◌+ℤ◌, +ℤ_idr}
use mir.Syntax.{w64}
use mir.Val.{SFits, to_z}
use mir.Facts.{to_z-of_z, to_z_pos}
use Rattle.algebra.specs.Integers.{nat_abs-+ℤ}
use Rattle.integers.specs.Ranges.{sfits-size}
use Rattle.lists.specs.Tests.{first-failed, second-failed, both-passed, true-T}
use Rattle.records.specs.Records.{most_vectors, index_bound, record_right_of}
use Rattle.records.proofs.checks.record_right.Goals as goal
use Rattle.records.proofs.checks.record_right.Goals.{After-within, Else-vectors-eq0, Start}

-- What is known once the first index passed.
module _ (w : After-within) where
  abbrev s : Start
  s = (goal.at.After-within w).Start

  abbrev last : ℤ
  last = s.args.first +ℤ pos (s.args.vectors - 1)

  few : leb s.args.vectors most_vectors ≡ true
  few = le-leb s.args.vectors most_vectors (omega arith)

  tested : w.within.result ≡ leb (nat_abs s.args.first) index_bound
  tested = w.within.ensures ∙ ap (λ n. leb (nat_abs n) index_bound) (to_z-of_z s.ranges.first)

pub returns-then-vectors-gt-VECTORS : goal.returns-then-vectors-gt-VECTORS
unfolding record_right_of
returns-then-vectors-gt-VECTORS c = first-failed _ _ _ (lt-leb c.args.vectors most_vectors c.if-vectors-gt-VECTORS.true)

pub returns-then-not-within : goal.returns-then-not-within
unfolding record_right_of
returns-then-not-within c =
    let after = (goal.at.returns-then-not-within c).After-within in
    second-failed _ _ _ (few after) (sym (tested after) ∙ c.if-not-within.true)

pub returns-then-vectors-eq0 : goal.returns-then-vectors-eq0
unfolding record_right_of
returns-then-vectors-eq0 c =
    let w = (goal.at.returns-then-vectors-eq0 c).After-within in
    let passed : leb (nat_abs (s w).args.first) index_bound ≡ true = sym (tested w) ∙ c.if-not-within.false in
    let same : last w ≡ (s w).args.first = ap (λ k. (s w).args.first +ℤ pos (k - 1)) c.if-vectors-eq0.true ∙ +ℤ_idr (s w).args.first in
    sym (ap (λ n. leb (nat_abs n) index_bound) same ∙ passed) ∙ both-passed _ _ _ (few w) passed

-- The last index, where there is a vector.
module _ (d : Else-vectors-eq0) where
  abbrev w : After-within
  w = (goal.at.Else-vectors-eq0 d).After-within

  passed : leb (nat_abs (s w).args.first) index_bound ≡ true
  passed = sym (tested w) ∙ d.if-not-within.false

  vectors-is : to_z w64 ((s w).args.vectors - 1) ≡ pos ((s w).args.vectors - 1)
  vectors-is = to_z_pos w64 (omega arith)

  last_fits : SFits w64 (last w)
  last_fits =
      sfits-size (last w) {k = 2000000}
      (omega (
        arith,
        nat_abs-+ℤ (s w).args.first (pos ((s w).args.vectors - 1)),
        leb→le (nat_abs (s w).args.first) index_bound
            (true-T _ passed),
      )) (lit< tt)

pub overflow_add-first : goal.overflow_add-first
overflow_add-first c = simp (to_z-of_z {w = w64} (s (w c)).ranges.first, vectors-is c) (last_fits c)

pub returns : goal.returns
unfolding record_right_of
returns c =
    let d = (goal.at.returns c).Else-vectors-eq0 in
    (simp (to_z-of_z {w = w64} (s (w d)).ranges.first, vectors-is d, to_z-of_z {w = w64} (last_fits d)) at c.within-2.ensures)
    ∙ both-passed _ _ _ (few (w d)) (passed d)
