-- `reading::sheet::head_at` meets its contract: the sizes, the equations, and the number of relations.
-- Assumes nothing.
use mathlib.Core.Path.{◌≡◌, refl, sym, ap, ◌∙◌}
use mathlib.Core.List.{List, ◌++◌}
use Prim.Native.Nat.{ℕ, ◌*◌, ◌≤◌}
use native.Mathlib.Omega.{arith}
use borrow.Author.Rules.{rules}
use lib.Dec.{T}
use lib.IntN.{ℤ, pos, nat_abs}
use lib.ListN.{length, take, drop}
use lib.Seq.{drop_at}
use lib.Signed.{non_neg}
use mir.Syntax.{w64}
use mir.Val.{SFits}
use mir.Facts.{to_z-of_z, Fits-nat_abs}
use Rattle.rules.specs.Limits.{most_equations, row_length}
use Rattle.rules.specs.Numbers.{got, field, between}
use Rattle.rules.specs.Stores.{equations, rows_of, row_need, largest_rows, sizes_right_of}
use Rattle.rules.specs.Layout.{size-bounds}
use Rattle.rules.specs.Calls.{zeros}
use Rattle.rules.specs.Sheets.{always}
use Rattle.tokens.specs.Fields.{read-err, read-ok, read-within, field-judged, between-zero}
use Rattle.reading.specs.Zeros.{length-zeros, take-zeros}
use Rattle.reading.specs.Sections.{rows_of-front}
use Rattle.reading.specs.WholeSheet.{sizes-right, head-fails-on, equations-fault, count-fault, count-got}
use Rattle.stores.specs.Validity.{the_sizes_of}
use Rattle.reading.proofs.sheet.head_at.Goals as goal
use Rattle.reading.proofs.sheet.head_at.Goals.{After-equations_at, In_ok-k, Start}

-- The sizes, as they were read.
module _ (c : Start) where
  abbrev rows : List ℤ
  rows = c.args.rows.now

  -- the number of equations
  abbrev n : ℕ
  n = c.args.z.sizes.equations

  right : T (sizes_right_of (the_sizes_of c.args.z.sizes))
  right = sizes-right _ _ _ c.requires.sizes_read.1

  few : n ≤ most_equations
  unfolding equations the_sizes_of
  few = (size-bounds _ right).few-equations

  -- The part of the store that is lent.
  lent : take (n * row_length) rows ≡ zeros (n * row_length)
  lent = ap (take (n * row_length)) c.requires.rows_value ∙ take-zeros (n * row_length) largest_rows (omega (arith, few))

pub overflow_mul-used : goal.overflow_mul-used
overflow_mul-used c = omega (arith, few (goal.at.overflow_mul-used c).Start)

pub slice_bounds-equations_at-end : goal.slice_bounds-equations_at-end
slice_bounds-equations_at-end c =
    let s = (goal.at.slice_bounds-equations_at-end c).Start in
    omega (arith, few s, ap length s.requires.rows_value, length-zeros largest_rows)

pub slice_bounds-equations_at-end-2 : goal.slice_bounds-equations_at-end-2
slice_bounds-equations_at-end-2 c = sym (ap length (lent (goal.at.slice_bounds-equations_at-end-2 c).Start) ∙ length-zeros _)

pub equations_at-requires : goal.equations_at-requires
equations_at-requires c =
    let s = (goal.at.equations_at-requires c).Start in
    record {
      at_in_bounds = (s.requires.sizes_read.0, right s);
      equations_le_most_equations = (few s, lent s);
    }

-- The rows, as they were read into the part that was lent.
module _ (c : After-equations_at) where
  abbrev start : Start
  start = (goal.at.After-equations_at c).Start

  abbrev part : List ℤ
  part = c.equations_at.new.rows

  abbrev after : List ℤ
  after = part ++ drop (n start * row_length) (rows start)

  part-long : length part ≡ n start * row_length
  part-long = c.equations_at.auto.rows ∙ ap length (lent start) ∙ length-zeros _

  -- What lies past the rows is as it was.
  past : drop (n start * row_length) after ≡ drop (n start * row_length) (rows start)
  past = drop_at part (drop (n start * row_length) (rows start)) (n start * row_length) part-long

  rows_is : rows_of (n start) after ≡ rows_of (n start) part
  unfolding row_need
  rows_is = rows_of-front (n start) part (drop (n start * row_length) (rows start)) part-long

pub returns-in_err-e : goal.returns-in_err-e
unfolding equations the_sizes_of
returns-in_err-e c =
    let e = (goal.at.returns-in_err-e c).After-equations_at in
    record {
      head_read = head-fails-on _ _ _ c.in_err-e.field-0.0 _ c.from_residual.ensures.1
          (equations-fault _ _ _ (start e).requires.sizes_read.1 (read-err c.in_err-e.ensures));
      rows_past = past e;
    }

pub number_between-requires : goal.number_between-requires
number_between-requires c = read-within c.in_ok-e.ensures

pub returns-in_err-k : goal.returns-in_err-k
unfolding equations the_sizes_of
returns-in_err-k c =
    let e = (goal.at.returns-in_err-k c).After-equations_at in
    record {
      head_read = head-fails-on _ _ _ c.in_err-k.field-0.0 _ c.from_residual-in_err-k.ensures.1
          (count-fault _ _ _ (start e).requires.sizes_read.1 _ _ (read-ok c.in_ok-e.ensures) (read-err c.in_err-k.ensures));
      rows_past = past e;
    }

-- The number of relations, as it was read.
module _ (c : In_ok-k) where
  count-read : field (between (pos 0) (pos 16)) (always 10) (drop c.in_ok-e.e c.args.bytes.now)
      ≡ got c.in_ok-k.k.value (drop c.in_ok-k.k.at c.args.bytes.now)
  count-read = read-ok c.in_ok-k.ensures

  bounds : T (non_neg c.in_ok-k.k.value) × (0 ≤ nat_abs c.in_ok-k.k.value) × (nat_abs c.in_ok-k.k.value ≤ 16)
  bounds = between-zero 0 16 c.in_ok-k.k.value (field-judged (between (pos 0) (pos 16)) (always 10) _ count-read)

pub overflow_cast-result : goal.overflow_cast-result
overflow_cast-result c =
    let fits : SFits w64 c.in_ok-k.k.value = search rules in
    rw (to_z-of_z {w = w64} fits) ((bounds (goal.at.overflow_cast-result c).In_ok-k).0, Fits-nat_abs tt fits)

pub returns : goal.returns
unfolding equations the_sizes_of
returns c =
    let e = (goal.at.returns c).After-equations_at in
    let k = (goal.at.returns c).In_ok-k in
    let fits : SFits w64 c.in_ok-k.k.value = search rules in
    rw (to_z-of_z {w = w64} fits) record {
      head_read = (
        record {
          within = read-within c.in_ok-k.ensures;
          right = right (start e);
          few = (bounds k).2;
          rest = count-got _ _ _ (start e).requires.sizes_read.1 _ _
              (read-ok c.in_ok-e.ensures ∙ ap (λ r. got r (drop c.in_ok-e.e c.args.bytes.now)) (sym (rows_is e))) _ _ (count-read k);
        },
        refl,
      );
      rows_past = past e;
    }
