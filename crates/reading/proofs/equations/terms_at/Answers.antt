-- `reading::equations::terms_at` meets its contract. The loop's invariant: the row holds the terms before the place `next`, and
-- the others are to come.
-- Assumes nothing.
use mathlib.Core.Path.{◌≡◌, refl, sym, ap, ap₂, ◌∙◌}
use mathlib.Core.List.{[]}
use Prim.Native.Nat.{ℕ, ◌+◌, ◌-◌, ◌<◌, ◌≤◌}
use native.Mathlib.Nat.{le-add_right, sub-zero}
use native.Mathlib.Omega.{arith}
use borrow.Author.Rules.{rules, sfits_of}
use lib.ListN.{length, drop}
use mir.Syntax.{w64}
use mir.Val.{SFits, to_z}
use mir.Facts.{to_z-of_z}
use Rattle.rules.specs.Limits.{coefficient_count, row_length}
use Rattle.rules.specs.Numbers.{got}
use Rattle.rules.specs.Stores.{row_of}
use Rattle.rules.specs.Sheets.{parting}
use Rattle.rules.specs.Layout.{size-bounds}
use Rattle.tokens.specs.Fields.{read-err, read-ok, read-within, fails-on, reads, then-got, then-fault}
use Rattle.reading.specs.Zeros.{length-zeros}
use Rattle.reading.specs.Terms.{term_of, read_place, with_place, read_padded-is, place_in_row_of}
use Rattle.stores.specs.LentParts.{lent-long}
use Rattle.reading.specs.Equations.{TermRight, place-right, term-place, place-fits, terms-begin, terms-end}
use Rattle.reading.specs.Equations.{terms-refused, terms-go-on, zeros-blank}
use Rattle.stores.specs.Validity.{the_sizes_of}
use Rattle.reading.proofs.equations.terms_at.Goals as goal
use Rattle.reading.proofs.equations.terms_at.Goals.{After-parting-separator, After-place_in_row-from, After-struct_told-in-loop-i-2-1, In-loop-i, Start}

-- The row that was lent has 320 numbers.
row-long : (c : Start) → length c.args.row.now ≡ row_length
row-long c = ap length c.requires.row_value ∙ length-zeros row_length

pub loop-i-init : goal.loop-i-init
unfolding the_sizes_of
loop-i-init c =
    let s = (goal.at.loop-i-init c).Start in
    let f : SFits w64 s.args.z.l = sfits_of c.struct_told-1.given.1.1.0.1 in
    rw (sub-zero s.args.count)
    (terms-begin _ s.requires.at_in_bounds.1 _ _ _ _ _ s.requires.at_in_bounds.0 (to_z-of_z {w = w64} f) (row-long s) (ap row_of s.requires.row_value ∙ zeros-blank))

pub place_at-requires : goal.place_at-requires
unfolding the_sizes_of
place_at-requires c = (c.loop-i.invariant.within, ((size-bounds _ c.requires.at_in_bounds.1).few, c.loop-i.invariant.few))

-- There is a term to come.
some : (c : In-loop-i) → 0 < c.args.count - c.loop-i.i
some c = omega (arith, c.loop-i-test.true)

pub returns-in_err-q : goal.returns-in_err-q
unfolding the_sizes_of
returns-in_err-q c =
    fails-on _ c.in_err-q.field-0.0 c.from_residual.ensures.1
    (terms-refused _ c.requires.at_in_bounds.1 _ _ _ _ _ _ _ _ c.loop-i.invariant (some (goal.at.returns-in_err-q c).In-loop-i) _
    (read_padded-is _ _ _ _ _ ∙ then-fault _ (read-err c.in_err-q.ensures)))

-- The place of a turn's term, as it was read.
module _ (d : After-struct_told-in-loop-i-2-1) where
  l-fits : SFits w64 d.args.z.l
  l-fits = search rules

  block-fits : SFits w64 d.in_ok-q.q.block
  block-fits = search rules

  place_read : read_place (the_sizes_of d.args.z) (to_z w64 d.loop-i.block-bits) d.loop-i.column (drop d.loop-i.next d.args.bytes.now)
      ≡ got (d.in_ok-q.q.block, d.in_ok-q.q.column) (drop d.in_ok-q.q.at d.args.bytes.now)
  place_read = read-ok d.in_ok-q.ensures

  right : TermRight (the_sizes_of d.args.z) (to_z w64 d.loop-i.block-bits) d.loop-i.column (term_of d.in_ok-q.q.block d.in_ok-q.q.column [])
  right = place-right _ _ _ _ _ _ [] place_read

pub place_in_row-from-requires : goal.place_in_row-from-requires
unfolding the_sizes_of
place_in_row-from-requires c =
    let place = term-place _ _ _ _ c.requires.at_in_bounds.1 (right c) in
    rw (to_z-of_z {w = w64} (l-fits c), to_z-of_z {w = w64} (block-fits c)) record {
      block_bound = (place.0, place.1);
      le_column = (place.2, place.3);
    }

-- There is room for it.
module _ (c : After-place_in_row-from) where
  abbrev told : After-struct_told-in-loop-i-2-1
  told = (goal.at.After-place_in_row-from c).After-struct_told-in-loop-i-2-1

  abbrev from : ℕ
  from = c.place_in_row-from.result

  from_is : from ≡ place_in_row_of c.args.z.l c.in_ok-q.q.block c.in_ok-q.q.column
  from_is = c.place_in_row-from.ensures
      ∙ ap₂ (λ l b. place_in_row_of l b c.in_ok-q.q.column) (to_z-of_z {w = w64} (l-fits told)) (to_z-of_z {w = w64} (block-fits told))

  room : from + coefficient_count ≤ row_length
  unfolding the_sizes_of
  room = rw from_is (place-fits _ _ _ _ c.requires.at_in_bounds.1 (right told))

pub overflow_add-to : goal.overflow_add-to
overflow_add-to c = omega (arith, room c)

pub offset_bounds-row-from : goal.offset_bounds-row-from
offset_bounds-row-from c = omega (arith, room (goal.at.offset_bounds-row-from c).After-place_in_row-from)

pub slice_bounds-polynomial_at-count : goal.slice_bounds-polynomial_at-count
slice_bounds-polynomial_at-count c = le-add_right _ coefficient_count

pub slice_bounds-polynomial_at-start : goal.slice_bounds-polynomial_at-start
slice_bounds-polynomial_at-start c = le-add_right _ coefficient_count

pub slice_bounds-polynomial_at-end : goal.slice_bounds-polynomial_at-end
slice_bounds-polynomial_at-end c = rw c.loop-i.invariant.long (room (goal.at.slice_bounds-polynomial_at-end c).After-place_in_row-from)

pub polynomial_at-requires : goal.polynomial_at-requires
polynomial_at-requires c =
    let l = c.loop-i in
    let p = (goal.at.polynomial_at-requires c).After-place_in_row-from in
    record {
      at_in_bounds = read-within c.in_ok-q.ensures;
      p_len = lent-long l.row (from p) coefficient_count (rw l.invariant.long (room p));
    }

-- The separator behind it.
module _ (c : After-parting-separator) where
  same : c.args.count - (c.loop-i.i + 1) ≡ c.args.count - c.loop-i.i - 1
  same = omega (arith, c.loop-i-test.true)

  separator_is : c.parting-separator.result ≡ parting 10 (c.args.count - c.loop-i.i - 1)
  separator_is = c.parting-separator.ensures ∙ ap (parting 10) same

pub returns-in_err-next : goal.returns-in_err-next
unfolding with_place the_sizes_of
returns-in_err-next c =
    let told = (goal.at.returns-in_err-next c).After-struct_told-in-loop-i-2-1 in
    fails-on _ c.in_err-next.field-0.0 c.from_residual-in_err-next.ensures.1
    (terms-refused _ c.requires.at_in_bounds.1 _ _ _ _ _ _ _ _ c.loop-i.invariant (some (goal.at.returns-in_err-next c).In-loop-i) _
    (read_padded-is _ _ _ _ _ ∙ then-got _ (place_read told)
    ∙ then-fault _ (read-err (rw (separator_is (goal.at.returns-in_err-next c).After-parting-separator) at c.in_err-next.ensures))))

pub loop-i-preserved : goal.loop-i-preserved
unfolding with_place the_sizes_of
loop-i-preserved c =
    let told = (goal.at.loop-i-preserved c).After-struct_told-in-loop-i-2-1 in
    let separator = (goal.at.loop-i-preserved c).After-parting-separator in
    rw (to_z-of_z {w = w64} (block-fits told), same separator)
    (terms-go-on _ c.requires.at_in_bounds.1 _ _ _ _ _ _ _ _ c.loop-i.invariant (some (goal.at.loop-i-preserved c).In-loop-i) _ _ _
    (read_padded-is _ _ _ _ _ ∙ then-got _ (place_read told)
    ∙ then-got _ (read-ok (rw (separator_is separator) at c.in_ok-next.ensures)))
    (read-within c.in_ok-next.ensures)
    (from_is (goal.at.loop-i-preserved c).After-place_in_row-from))

pub shape_of-row : goal.shape_of-row
shape_of-row c = c.loop-i.invariant.long ∙ sym (row-long (goal.at.shape_of-row c).Start)

pub returns : goal.returns
unfolding the_sizes_of
returns c =
    reads refl (terms-end _ c.requires.at_in_bounds.1 _ _ _ _ _ _ _ _ c.loop-i.invariant (omega arith)) c.loop-i.invariant.within
