-- `reduction::step::combine_step` meets its contract: multipliers, roots, relations and new row are those of the definition.
-- Assumes nothing.
use mathlib.Core.Path.{◌≡◌, refl, sym, ◌∙◌, ap, ap₂, subst, subst₂}
use mathlib.Core.Bool.{not}
use mathlib.Core.List.{List, ◌++◌}
use Prim.Native.Nat.{ℕ, ◌+◌, ◌*◌, ◌≤◌, ◌<◌}
use native.Mathlib.Nat.{le_of_eq}
use native.Mathlib.Omega.{arith}
use lib.Dec.{T}
use lib.IntN.{ℤ}
use lib.ListN.{length, get_or}
use Rattle.algebra.specs.Polynomials.{is_zero_of}
use Rattle.algebra.specs.Roots.{roots}
use Rattle.rules.specs.Limits.{column_count, row_length, small}
use Rattle.rules.specs.Rows.{entry, combine, primitive, width}
use Rattle.lists.specs.Tests.{every}
use Rattle.rules.specs.Stores.{row_of}
use Rattle.rules.specs.Elimination.{Side, Limited, limit_degrees, consistent, Multipliers, multipliers_at, listing, combine_step_of, roots_with_of}
use Rattle.roots.specs.RootSearch.{roots_few}
use Rattle.multiplicities.specs.declared.RootsWith.{RootsWith}
use Rattle.multiplicities.specs.Counts.{listed_with, roots_held, found-held, found-count, found-long}
use Rattle.combinations.specs.Undivided.{RowsFit}
use Rattle.working_rows.specs.Found.{Columns-at}
use Rattle.working_rows.specs.declared.WorkingRow.{WorkingRow}
use Rattle.working_rows.specs.Working.{numbers_held, Full, loaded, full-loaded, numbers-loaded}
use Rattle.working_rows.specs.Worked.{Shown}
use Rattle.reduction.specs.declared.step.Progress.{Progress}
use Rattle.sides.specs.Lent.{side_of}
use Rattle.reduction.specs.Progress.{Ready, state_of, answer_of, listed_progress}
use Rattle.sides.specs.Relations.{Relisted}
use Rattle.reduction.specs.MultiplierSizes.{Sixteen, multipliers-fit, roots-small}
use Rattle.reduction.specs.NewRows.{Storable, row_room, combined-storable, full-limited, saved-limited}
use Rattle.reduction.specs.StoreExchange.{numbers_at, length-numbers_at, small-numbers_at, length-entry, small-entry}
use Rattle.reduction.specs.StepLaws.{multipliers_of, multipliers_in, new_row, multipliers-in, combine-refused, combine-reached}
use Rattle.reduction.specs.StepLaws.{refused-reached, reached-same}
use Rattle.reduction.proofs.step.combine_step.Goals as goal
use Rattle.reduction.proofs.step.combine_step.Goals.{After-list_roots, After-combined-worked, After-put_multipliers_at-found, After-row_at-pivot, After-row_at-target, Start}

abbrev Small : List ℤ → Type 0
Small l = T (every small l)

abbrev NotBoth : ℕ → List ℤ → List ℤ → Type 0
NotBoth c target pivot = T (not (is_zero_of (entry (row_of pivot) c ++ entry (row_of target) c)))

-- the arguments
module _ (c : Start) where
  abbrev rows : List ℤ
  rows = c.args.rows.now

  abbrev relations : List ℤ
  relations = c.args.relations.now

  abbrev p : Progress
  p = c.args.p

  abbrev i : ℕ
  i = p.settled

  abbrev j : ℕ
  j = c.args.j

  abbrev n : ℕ
  n = p.rows

  abbrev side : Side
  side = side_of c.args.side

  ready : Ready rows relations p
  ready = c.requires.ready.0

  inside : i < n
  inside = c.requires.ready.1

  settled : j < i
  settled = c.requires.ready.2

  other : j < n
  other = omega (arith, inside, settled)

  room : (k : ℕ) → k < n → k * row_length + row_length ≤ length rows
  room k h = omega (arith, row_room n k rows ready.rows-within h, ready.rows-within.long)

  -- the two rows and their entries
  abbrev target : List ℤ
  target = numbers_at rows i

  abbrev pivot : List ℤ
  pivot = numbers_at rows j

  abbrev column : ℕ
  column = get_or p.order j 0

  below : column < column_count
  below = Columns-at p.order ready.columns j

  target_small : Small target
  target_small = small-numbers_at n rows ready.rows-within i inside

  pivot-small : Small pivot
  pivot-small = small-numbers_at n rows ready.rows-within j other

  target-long : length target ≡ row_length
  target-long = length-numbers_at n rows ready.rows-within i inside

  entry-fits : (l : List ℤ) → length l ≡ row_length → Small l → Sixteen (entry (row_of l) column)
  entry-fits l e h = (length-entry l column (omega (arith, e)) below, small-entry l column h below)

  -- the multipliers and their roots
  abbrev x : Multipliers
  x = multipliers_in rows p j

  fits : Sixteen x.g × Sixteen x.h
  fits =
      multipliers-fit (entry (row_of pivot) column) (entry (row_of target) column)
      (entry-fits pivot (length-numbers_at n rows ready.rows-within j other) pivot-small)
      (entry-fits target target-long target_small)

  few : length (roots x.g) ≤ 15
  few = roots_few x.g (le_of_eq fits.0.0)

  combine-is : combine_step_of side (state_of rows relations p) i j (multipliers_at (state_of rows relations p) i j)
      ≡ combine_step_of side (state_of rows relations p) i j x
  combine-is = ap (combine_step_of side (state_of rows relations p) i j) (multipliers-in side ready j inside settled)

  -- the new row
  abbrev new : Limited
  new = new_row x target pivot

  storable : Storable new
  storable = combined-storable x.g x.h target pivot (omega (arith, fits.0.0)) target-long

-- the multipliers and their roots
module _ (c : After-put_multipliers_at-found) where
  abbrev start : Start
  start = (goal.at.After-put_multipliers_at-found c).Start

  -- the rows, where they stand
  abbrev target-read : After-row_at-target
  target-read = (goal.at.After-put_multipliers_at-found c).After-row_at-target

  abbrev pivot-read : After-row_at-pivot
  pivot-read = (goal.at.After-put_multipliers_at-found c).After-row_at-pivot

  target_is : target-read.row_at-target.result.now ≡ target start
  target_is = target-read.row_at-target.ensures.result_value

  pivot-is : pivot-read.row_at-pivot.result.now ≡ pivot start
  pivot-is = pivot-read.row_at-pivot.ensures.result_value

  multipliers-are : multipliers_of (column start) target-read.row_at-target.result.now pivot-read.row_at-pivot.result.now ≡ x start
  multipliers-are = ap₂ (multipliers_of (column start)) target_is pivot-is

  abbrev g : List ℤ
  g = c.put_multipliers_at-found.new.g

  abbrev h : List ℤ
  h = c.put_multipliers_at-found.new.h

  abbrev found : RootsWith
  found = c.put_multipliers_at-found.result

  g-is : g ≡ (x start).g
  g-is = c.put_multipliers_at-found.ensures.g_after ∙ ap (λ y. y.g) multipliers-are

  h-is : h ≡ (x start).h
  h-is = c.put_multipliers_at-found.ensures.h_after ∙ ap (λ y. y.h) multipliers-are

  found-is : found ≡ listed_with (roots_with_of (x start).g)
  found-is = c.put_multipliers_at-found.ensures.value ∙ ap (λ y. listed_with (roots_with_of y.g)) multipliers-are

  count-is : found.count ≡ length (roots (x start).g)
  count-is = found-count (x start).g found-is

  held-is : roots_held found ≡ roots (x start).g
  held-is = found-held (x start).g found-is

-- the relations
module _ (c : After-list_roots) where
  abbrev multiplied : After-put_multipliers_at-found
  multiplied = (goal.at.After-list_roots c).After-put_multipliers_at-found

  abbrev origin : Start
  origin = start multiplied

  abbrev after : List ℤ
  after = c.list_roots.new.relations

  relisted : Relisted (p origin).count (target origin) (listing (side origin) (roots (x origin).g)) (relations origin) after
  relisted =
      subst₂ (λ t l. Relisted (p origin).count t (listing (side origin) l) (relations origin) after)
      (target_is multiplied) (held-is multiplied) c.list_roots.ensures

  -- the row that is loaded
  abbrev row : WorkingRow
  row = loaded (rows origin) (i origin * row_length)

  row-held : numbers_held row ≡ target origin
  row-held = numbers-loaded (rows origin) (i origin * row_length)

  row-full : Full row
  row-full = full-loaded (rows origin) (i origin * row_length) (room origin (i origin) (inside origin))

  -- what is asked where it is combined
  row_fits : RowsFit (g multiplied) (h multiplied) row (pivot-read multiplied).row_at-pivot.result.now origin.args.other
  row_fits =
      let g-fits = subst Sixteen (sym (g-is multiplied)) (fits origin).0 in
      let h_fits = subst Sixteen (sym (h-is multiplied)) (fits origin).1 in record {
        g-long = g-fits.0;
        g-small = g-fits.1;
        h-long = h_fits.0;
        h-small = h_fits.1;
        target-full = row-full;
        target_small = subst Small (sym row-held) (target_small origin);
        target-width = refl;
        pivot-long = (pivot-read multiplied).row_at-pivot.ensures.result_len;
        pivot-small = subst Small (sym (pivot-is multiplied)) (pivot-small origin);
        pivot-width = origin.requires.width_value.1 ∙ ap (λ l. width (row_of l)) (sym (pivot-is multiplied));
      }

  -- the new row, with the multipliers of the definition
  abbrev made : WorkingRow → Limited
  made w =
      consistent (limit_degrees (primitive (combine (g multiplied) (h multiplied) (row_of (numbers_held w))
      (row_of (pivot-read multiplied).row_at-pivot.result.now))))

  made-is : made row ≡ new origin
  made-is =
      ap₂ (λ t q. consistent (limit_degrees (primitive (combine (g multiplied) (h multiplied) (row_of t) (row_of q))))) row-held
      (pivot-is multiplied)
      ∙ ap₂ (λ a b. consistent (limit_degrees (primitive (combine a b (row_of (target origin)) (row_of (pivot origin))))))
      (g-is multiplied) (h-is multiplied)

pub row_at-target-requires : goal.row_at-target-requires
row_at-target-requires c = let b = (goal.at.row_at-target-requires c).Start in room b (i b) (inside b)

pub row_at-pivot-requires : goal.row_at-pivot-requires
row_at-pivot-requires c = let b = (goal.at.row_at-pivot-requires c).Start in room b (j b) (other b)

pub put_multipliers_at-found-requires : goal.put_multipliers_at-found-requires
put_multipliers_at-found-requires c =
    let b = (goal.at.put_multipliers_at-found-requires c).Start in
    record {
      g_len = (refl, refl);
      c_lt_column_count = (below b, omega (arith, c.row_at-target.ensures.result_len), omega (arith, c.row_at-pivot.ensures.result_len));
      t = (subst Small (sym c.row_at-target.ensures.result_value) (target_small b), subst Small (sym c.row_at-pivot.ensures.result_value) (pivot-small b));
      t_2 = subst₂ (NotBoth (column b)) (sym c.row_at-target.ensures.result_value) (sym c.row_at-pivot.ensures.result_value) b.requires.t;
    }

pub overflow_add-count : goal.overflow_add-count
overflow_add-count c =
    let e = (goal.at.overflow_add-count c).After-put_multipliers_at-found in
    omega (arith, few (start e), count-is e, (ready (start e)).listing.few)

pub returns-then-count-gt16 : goal.returns-then-count-gt16
returns-then-count-gt16 c =
    let e = (goal.at.returns-then-count-gt16 c).After-put_multipliers_at-found in
    let b = start e in
    let many : 16 < (p b).count + length (roots (x b).g) = omega (arith, count-is e, c.if-count-gt16.true) in
    rw c.stopped.ensures (reached-same refl refl
    (combine-is b ∙ combine-refused (side b) (ready b) (j b) (inside b) (settled b) (x b) many)
    (refused-reached (ready b) 8))

pub list_roots-requires : goal.list_roots-requires
list_roots-requires c =
    let e = (goal.at.list_roots-requires c).After-put_multipliers_at-found in
    let b = start e in
    let t = (target-read e).row_at-target.ensures in
    let row = subst Small (sym t.result_value) (target_small b) in
    let values = found-long (x b).g (found-is e) (omega (arith, few b)) in record {
      listing = ((ready b).listing, omega (arith, c.if-count-gt16.false), values);
      t = (subst Small (sym (held-is e)) (roots-small (x b).g (fits b).0.1), row, t.result_len);
    }

pub overflow_mul-i-2 : goal.overflow_mul-i-2
overflow_mul-i-2 c = omega (arith, (ready (origin (goal.at.overflow_mul-i-2 c).After-list_roots)).few-settled)

pub load-row-requires : goal.load-row-requires
load-row-requires c = let b = origin (goal.at.load-row-requires c).After-list_roots in (room b (i b) (inside b), b.requires.width_value.0)

pub combined-worked-requires : goal.combined-worked-requires
combined-worked-requires c =
    let l = (goal.at.combined-worked-requires c).After-list_roots in
    let m = multiplied l in
    subst (λ w. RowsFit (g m) (h m) w (pivot-read m).row_at-pivot.result.now (origin l).args.other) (sym c.load-row.ensures)
    (row_fits l)

-- the new row
module _ (c : After-combined-worked) where
  abbrev listings : After-list_roots
  listings = (goal.at.After-combined-worked c).After-list_roots

  abbrev begun : Start
  begun = origin listings

  shown : Shown c.combined-worked.result (new begun)
  shown = subst (Shown c.combined-worked.result) (ap (made listings) c.load-row.ensures ∙ made-is listings) c.combined-worked.ensures

pub put_limited-requires : goal.put_limited-requires
put_limited-requires c =
    let w = (goal.at.put_limited-requires c).After-combined-worked in
    let b = begun w in
    (room b (i b) (inside b), full-limited (new b) (storable b) w.combined-worked.result (shown w))

pub returns : goal.returns
returns c =
    let w = (goal.at.returns c).After-combined-worked in
    let l = listings w in
    let b = begun w in
    let few : (p b).count + length (roots (x b).g) ≤ 16 = omega (arith, count-is (multiplied l), l.if-count-gt16.false) in
    reached-same
    (c.put_limited.ensures.rows_after ∙ saved-limited (rows b) (i b) (new b) w.combined-worked.result (shown w))
    (c.put_limited.ensures.value ∙ ap₂ (λ n k. answer_of n (listed_progress (p b) k)) (shown w).0 (count-is (multiplied l)))
    (combine-is b)
    (combine-reached (side b) (ready b) (j b) (inside b) (settled b) (x b) (relisted l) few (storable b))
