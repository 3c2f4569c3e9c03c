-- `differential::rows::add_term` meets its contract: sixteen numbers are lent, and come back with the term's polynomial added.
-- Assumes nothing.
use mathlib.Core.Path.{◌≡◌, sym, ap, ◌∙◌, subst}
use mathlib.Core.List.{List}
use Prim.Native.Nat.{ℕ, ◌+◌, ◌-◌, ◌≤◌}
use native.Mathlib.Nat.{le-add_right, le_trans, le_of_eq}
use native.Mathlib.Omega.{arith}
use borrow.Rule.Slice.PartMut.{mid_of, same_len_mid}
use lib.IntN.{ℤ, nat_abs}
use lib.ListN.{length, take, drop}
use lib.Seq.{paste}
use Rattle.algebra.specs.Polynomials.{add}
use Rattle.lists.specs.Everywhere.{all_take, all_drop}
use Rattle.rules.specs.Limits.{bound, coefficient_count}
use Rattle.stores.specs.LentParts.{lent-long, lent_back}
use Rattle.differential.specs.Recurrence.{term_polynomial}
use Rattle.differential.specs.Read.{term_of}
use Rattle.differential.specs.Added.{added_at, place-fits}
use Rattle.differential.proofs.rows.add_term.Goals as goal
use Rattle.differential.proofs.rows.add_term.Goals.{After-place-from, Start}

pub place-from-requires : goal.place-from-requires
place-from-requires c =
    (c.requires.order_le_most_derivative.0, (c.requires.order_le_most_derivative.1.0, c.requires.order_le_most_derivative.1.1.0))

-- The place is in the row.
module _ (c : After-place-from) where
  abbrev s : Start
  s = (goal.at.After-place-from c).Start

  abbrev row : List ℤ
  row = s.args.row.now

  abbrev from : ℕ
  from = c.place-from.result

  room : from + coefficient_count ≤ length row
  unfolding term_of
  room =
      subst (λ k. k + coefficient_count ≤ length row) (sym c.place-from.ensures)
      (le_trans (place-fits _ _ s.requires.order_le_most_derivative.0 s.requires.order_le_most_derivative.1.0
      s.requires.order_le_most_derivative.1.1.0) (le_of_eq (sym s.requires.row_len.0)))

  part-long : length (mid_of from (from + coefficient_count - from) row) ≡ coefficient_count
  part-long = lent-long row from coefficient_count room

pub overflow_add-to : goal.overflow_add-to
overflow_add-to c = omega (arith, room c, c.requires.row_len.0)

pub offset_bounds-row-from : goal.offset_bounds-row-from
offset_bounds-row-from c = omega (arith, room c, c.requires.row_len.0)

pub slice_bounds-add_polynomial-count : goal.slice_bounds-add_polynomial-count
slice_bounds-add_polynomial-count c = le-add_right _ coefficient_count

pub slice_bounds-add_polynomial-start : goal.slice_bounds-add_polynomial-start
slice_bounds-add_polynomial-start c = le-add_right _ coefficient_count

pub slice_bounds-add_polynomial-end : goal.slice_bounds-add_polynomial-end
slice_bounds-add_polynomial-end c = room c

pub add_polynomial-requires : goal.add_polynomial-requires
add_polynomial-requires c =
    let p = (goal.at.add_polynomial-requires c).After-place-from in record {
      p_len = (
        part-long p,
        all_take (λ a. nat_abs a ≤ bound) (from p + coefficient_count - from p) (drop (from p) (row p))
            (all_drop (λ a. nat_abs a ≤ bound) (from p) (row p) c.requires.row_len.1),
      );
      small_place = (c.requires.order_le_most_derivative.1.1.0, c.requires.order_le_most_derivative.1.1.1);
    }

pub shape_of-row : goal.shape_of-row
shape_of-row c =
    let p = (goal.at.shape_of-row c).After-place-from in
    same_len_mid (from p) (from p + coefficient_count - from p) (row p) c.add_polynomial.new.p
    c.add_polynomial.auto.p

pub returns : goal.returns
unfolding added_at
returns c =
    let q = (goal.at.returns c).After-place-from in
    let t = term_polynomial (term_of (s q).args.t) in
    let a = c.add_polynomial in
    let width : from q + coefficient_count - from q ≡ coefficient_count = omega arith in
    lent_back (row q) (from q) coefficient_count a.new.p (a.auto.p ∙ part-long q)
    ∙ ap (λ p. paste (row q) (from q) p coefficient_count)
    (a.ensures ∙ ap (λ k. add (take k (drop (from q) (row q))) t) width)
    ∙ ap (λ f. paste (row q) f (add (take coefficient_count (drop f (row q))) t) coefficient_count) q.place-from.ensures
