-- `echelon::combine` meets its contract. The loop's invariant: the first j numbers of the row are combined, and the others
-- are as they were.
-- Assumes nothing.
use mathlib.Core.Path.{◌≡◌, sym, ◌∙◌, ap₂}
use mathlib.Core.List.{List}
use Prim.Native.Nat.{ℕ}
use native.Mathlib.Omega.{arith}
use lib.IntN.{ℤ, pos, ◌+ℤ◌, ◌*ℤ◌}
use lib.ListN.{get_or}
use mir.Syntax.{w64}
use mir.Val.{of_z, to_z}
use mir.Facts.{to_z-of_z}
use Rattle.lists.specs.Taken.{overwritten-next, overwritten-all, suffix-next, suffix-first}
use Rattle.polynomials.specs.Content.{read_back, small_at}
use Rattle.echelon.specs.Eliminated.{Factors, combined}
use Rattle.echelon.specs.KernelKept.{length-combined}
use Rattle.echelon.specs.RowWork.{combined-place}
use Rattle.echelon.proofs.combine.Goals as goal
use Rattle.echelon.proofs.combine.Goals.{After-combination-arg-in-loop-j-1, Start}

-- the two factors, as the call reads them back
abbrev factors : ℕ → ℕ → Factors
factors g h = record { g = to_z w64 g; h = to_z w64 h }

-- the numbers of this turn, as the call reads them
module _ (c : After-combination-arg-in-loop-j-1) where
  abbrev start : Start
  start = (goal.at.After-combination-arg-in-loop-j-1 c).Start

  abbrev row : List ℤ
  row = start.args.row.now

  abbrev pivot : List ℤ
  pivot = start.args.pivot.now

  abbrev x : Factors
  x = factors (of_z w64 start.args.g) (of_z w64 start.args.h)

  abbrev j : ℕ
  j = c.loop-j.j

  from_row : to_z w64 (of_z w64 (get_or c.loop-j.row j (pos 0))) ≡ get_or row j (pos 0)
  from_row =
      let now-row = c.loop-j.row in
      read_back (get_or now-row j (pos 0)) c.combination-arg-1.given
      ∙ suffix-first now-row row j (pos 0) c.loop-j.invariant.1

  from-pivot : to_z w64 (of_z w64 (get_or pivot j (pos 0))) ≡ get_or pivot j (pos 0)
  from-pivot = read_back (get_or pivot j (pos 0)) c.combination-arg-in-loop-j-1.given

pub combination-requires : goal.combination-requires
combination-requires c =
    let s = start c in (
      rw (to_z-of_z {w = w64} s.ranges.g) s.requires.g_bound.0,
      rw (from_row c) (small_at (row c) s.requires.row_len.1 (j c)),
      rw (to_z-of_z {w = w64} s.ranges.h) s.requires.g_bound.1,
      rw (from-pivot c) (small_at (pivot c) s.requires.row_len.2 (j c)),
    )

pub loop-j-preserved : goal.loop-j-preserved
loop-j-preserved c =
    let e = (goal.at.loop-j-preserved c).After-combination-arg-in-loop-j-1 in
    let loop = e.loop-j in
    let same = (start e).requires.row_len.0 in
    let made = read_back _ c.combination.type_inv ∙ c.combination.ensures
    ∙ ap₂ (λ u w. (x e).g *ℤ u +ℤ (x e).h *ℤ w) (from_row e) (from-pivot e) ∙ sym (combined-place (x e) (row e) (pivot e) same (j e)) in (
      overwritten-next loop.invariant.0 (length-combined (x e) (row e) (pivot e) same) (pos 0) (omega arith) made,
      suffix-next loop.row (row e) (j e) _ loop.invariant.1,
    )

pub returns : goal.returns
returns c =
    let x = factors (of_z w64 c.args.g) (of_z w64 c.args.h) in
    overwritten-all c.loop-j.invariant.0 (length-combined x c.args.row.now c.args.pivot.now c.requires.row_len.0) (omega arith)
    ∙ ap₂ (λ g h. combined (record { g = g; h = h }) c.args.row.now c.args.pivot.now) (to_z-of_z {w = w64} c.ranges.g)
    (to_z-of_z {w = w64} c.ranges.h)
