-- `records::terms::row_shape` meets its contract.
-- Assumes nothing.
use mathlib.Core.Path.{◌≡◌, sym, ◌∙◌, ap, subst}
use mathlib.Core.List.{List}
use Prim.Native.Nat.{◌+◌, ◌*◌, ◌-◌, ◌≤◌}
use native.Mathlib.Omega.{arith}
use lib.IntN.{ℤ}
use lib.ListN.{length, take, drop, set, length-take}
use Rattle.rules.specs.Limits.{coefficient_count, polynomial_count, entries_length}
use Rattle.rules.specs.Stores.{row_of}
use Rattle.evaluation.specs.Evaluated.{used, used-length}
use Rattle.records.specs.Terms.{term_length_of, Shaped, blocks-shaped}
use Rattle.records.proofs.terms.row_shape.Goals as goal
use Rattle.records.proofs.terms.row_shape.Goals.{After-left_terms-count, After-used-right, Start}

module _ (w : After-used-right) where
  abbrev l : After-left_terms-count
  l = (goal.at.After-used-right w).After-left_terms-count

  abbrev s : Start
  s = (goal.at.After-left_terms-count l).Start

  abbrev row : List ℤ
  row = s.args.row.now

  used-is : w.used-right.result ≡ used (row_of row).right
  unfolding row_of
  used-is =
      let width : length row - entries_length ≡ coefficient_count = omega (arith, s.requires.0) in
      w.used-right.ensures ∙ ap (λ k. used (take k (drop entries_length row))) width

  used-few : w.used-right.result ≤ coefficient_count
  unfolding row_of
  used-few = omega (arith, used-is, used-length (row_of row).right, length-take coefficient_count (drop entries_length row))

pub overflow_add-shape : goal.overflow_add-shape
overflow_add-shape c = omega (arith, used-few c)

pub returns : goal.returns
returns c =
    let shape = (l c).left_terms-count.new.shape in
    let count = (l c).left_terms-count.result in
    subst (λ k. Shaped (s c).args.m (s c).args.span (row c)
    (set (set shape (polynomial_count * term_length_of) count) (polynomial_count * term_length_of + 1) (entries_length + k)))
    (sym (used-is c))
    (blocks-shaped (s c).args.m (s c).args.span (row c) shape count (s c).requires.1 (s c).requires.2 (s c).requires.0
    (l c).left_terms-count.ensures)
