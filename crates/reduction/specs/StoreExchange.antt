-- Rows of the store by their numbers, and the exchange of rule 2.
--
-- Main definitions
--   numbers_at store i       the numbers of row i
--   Loaded store i w        w is the working row that row i is loaded as
--   exchanged_rows store i j the store in which rows i and j have changed places
--   narrowed store i j      the store after the exchange of rows i and j, if row j is the wider (SCOPE 2.22)
--
-- Main statements
--   narrowed-exchanged, narrowed-same     the two cases
--   loaded-from, exchanged-loaded         a working row as it is loaded; two of them after the exchange
--   length-entry, small-entry             the entries of a row within ±C
--   length-numbers_at, small-numbers_at, row-of   the numbers of a row of the state
--   narrowed-within, narrowed-kept, narrowed-state, narrowed-one   what the exchange does to the store and to the state
use Rattle.std.specs.Prelude.{ℕ, ◌+◌, ◌*◌, ◌≤◌, ◌<◌, ◌≡◌, refl, ◌≢◌, ◌⊎◌, Bool, cond, List, [], T, ltb, ℤ, length, take, drop}
use Rattle.std.proofs.Common.{le_of_eq, arith, ◌∙◌, ap₂, subst, inl, inr, lt-ltb, le-ltb, length-drop, length-set, length-take-le}
use Rattle.std.proofs.Math.Path.{sym, ap}
use Rattle.std.proofs.Math.Bool.{true, false}
use Rattle.std.proofs.Math.ListN.{get_or, set}
use Rattle.std.proofs.Math.Seq.{paste, get_or-set_same, get_or-set_other}
use Rattle.rules.specs.Limits.{coefficient_count, column_count, entries_length, row_length, small}
use Rattle.rules.specs.Rows.{no_row, width, entry}
use Rattle.lists.specs.Tests.{every, every-part}
use Rattle.rules.specs.Stores.{row_of, rows_of, relations_of, row_need}
use Rattle.rules.specs.Elimination.{State, row_at, put_row, exchange, narrow_first}
use Rattle.rules.specs.Layout.{row-at, length-rows_of}
use Rattle.lists.specs.Parts.{parts, parts-length, get_or-parts}
use Rattle.lists.specs.Pasted.{parts-paste}
use Rattle.stores.specs.Flat.{entry_at}
use Rattle.working_rows.specs.declared.WorkingRow.{WorkingRow}
use Rattle.working_rows.specs.Working.{working_of, numbers_held, Full, full-loaded, numbers-loaded, width-held}
use Rattle.reduction.specs.declared.step.Progress.{Progress}
use Rattle.sides.specs.Lent.{Within, Kept}
use Rattle.reduction.specs.Progress.{state, state_of}
use Rattle.sides.specs.StoreStates.{part_small, within-paste, kept-paste, kept_then, kept_same, rows_of-paste}
use Rattle.reduction.specs.NewRows.{row_room}

abbrev pub numbers_at : List ℤ → ℕ → List ℤ
numbers_at store i = take row_length (drop (i * row_length) store)

abbrev pub exchanged_rows : List ℤ → ℕ → ℕ → List ℤ
exchanged_rows store i j =
    paste (paste store (j * row_length) (numbers_at store i) row_length) (i * row_length) (numbers_at store j) row_length

unfoldable pub narrowed : List ℤ → ℕ → ℕ → List ℤ
narrowed store i j =
    cond (ltb (width (row_of (numbers_at store i))) (width (row_of (numbers_at store j)))) (exchanged_rows store i j) store

pub narrowed-exchanged : (store : List ℤ) (i j : ℕ) → width (row_of (numbers_at store i)) < width (row_of (numbers_at store j))
    → narrowed store i j ≡ exchanged_rows store i j
unfolding narrowed
narrowed-exchanged store i j h = rw (lt-ltb _ _ h)

pub narrowed-same : (store : List ℤ) (i j : ℕ) → width (row_of (numbers_at store j)) ≤ width (row_of (numbers_at store i))
    → narrowed store i j ≡ store
unfolding narrowed
narrowed-same store i j h = rw (le-ltb _ _ h)

-- ---- working rows

-- The working row that row i of the store is loaded as.
pub record Loaded (store : List ℤ) (i : ℕ) (w : WorkingRow) : Type 0 where
  pub numbers : numbers_held w ≡ numbers_at store i
  pub full : Full w
  pub width_is : w.width ≡ width (row_of (numbers_at store i))

pub loaded-from : (store : List ℤ) (i : ℕ) (w : WorkingRow) → i * row_length + row_length ≤ length store
    → w ≡ working_of (take entries_length (drop (i * row_length) store)) (take coefficient_count (drop (i * row_length + entries_length) store))
    → Loaded store i w
loaded-from store i w room e =
    record {
      numbers = ap numbers_held e ∙ numbers-loaded store (i * row_length);
      full = subst Full (sym e) (full-loaded store (i * row_length) room);
      width_is =
          ap (λ v. v.width) e
          ∙ sym (width-held (take entries_length (drop (i * row_length) store))
          (take coefficient_count (drop (i * row_length + entries_length) store))
          (full-loaded store (i * row_length) room).entries-long)
          ∙ ap (λ l. width (row_of l)) (numbers-loaded store (i * row_length));
    }

-- ---- the entries of a row

pub length-entry : (l : List ℤ) (c : ℕ) → entries_length ≤ length l → c < column_count → length (entry (row_of l) c) ≡ coefficient_count
length-entry l c e h =
    ap length (entry_at l c h) ∙ length-take-le coefficient_count (drop (c * coefficient_count) l) (rw length-drop (omega arith))

pub small-entry : (l : List ℤ) (c : ℕ) → T (every small l) → c < column_count → T (every small (entry (row_of l) c))
small-entry l c s h = rw (entry_at l c h) (every-part small (c * coefficient_count) coefficient_count l s)

-- ---- the rows of a state

module _ (equations : ℕ) (rows : List ℤ) (w : Within (row_need equations) rows) (i : ℕ) (inside : i < equations) where
  pub length-numbers_at : length (numbers_at rows i) ≡ row_length
  length-numbers_at =
      length-take-le row_length (drop (i * row_length) rows) (rw length-drop (omega (arith, row_room equations i rows w inside, w.long)))

  pub small-numbers_at : T (every small (numbers_at rows i))
  unfolding row_need
  small-numbers_at = part_small row_length equations i rows inside w

pub row-of : (rows relations : List ℤ) (p : Progress) (i : ℕ) → i < p.rows
    → row_at (state_of rows relations p) i ≡ row_of (numbers_at rows i)
unfolding state_of row_at
row-of rows relations p i inside = row-at p.rows rows i inside

-- ---- the exchange

module _ (equations : ℕ) (rows : List ℤ) (w : Within (row_need equations) rows) (i j : ℕ) (inside : i < equations)
    (other : j < equations) where
  abbrev pub exchanged : List ℤ
  exchanged = exchanged_rows rows i j

  long-i : row_length ≤ length (numbers_at rows i)
  long-i = le_of_eq (sym (length-numbers_at equations rows w i inside))

  long-j : row_length ≤ length (numbers_at rows j)
  long-j = le_of_eq (sym (length-numbers_at equations rows w j other))

  within_first : Within (row_need equations) (paste rows (j * row_length) (numbers_at rows i) row_length)
  within_first =
      within-paste (row_need equations) rows w (j * row_length) (numbers_at rows i) row_length long-i (row_room equations j rows w other)
      (small-numbers_at equations rows w i inside)

  pub within-exchanged : Within (row_need equations) exchanged
  within-exchanged =
      within-paste (row_need equations) (paste rows (j * row_length) (numbers_at rows i) row_length) within_first (i * row_length)
      (numbers_at rows j) row_length long-j
      (row_room equations i rows w inside) (small-numbers_at equations rows w j other)

  pub kept-exchanged : Kept (row_need equations) rows exchanged
  kept-exchanged =
      kept_then
      (kept-paste (row_need equations) rows w (j * row_length) (numbers_at rows i) row_length long-i (row_room equations j rows w other))
      (kept-paste (row_need equations) (paste rows (j * row_length) (numbers_at rows i) row_length) within_first (i * row_length)
      (numbers_at rows j) row_length long-j
      (row_room equations i rows w inside))

  pub rows-exchanged : rows_of equations exchanged
      ≡ set (set (rows_of equations rows) j (row_of (numbers_at rows i))) i (row_of (numbers_at rows j))
  unfolding row_need
  rows-exchanged =
      rows_of-paste equations (paste rows (j * row_length) (numbers_at rows i) row_length) (numbers_at rows j) i
      (length-numbers_at equations rows w j other)
      within_first.long inside
      ∙ ap (λ l. set l i (row_of (numbers_at rows j)))
      (rows_of-paste equations rows (numbers_at rows i) j (length-numbers_at equations rows w i inside) w.long other)

  -- The numbers of both rows afterwards.
  parts-exchanged : parts row_length equations exchanged
      ≡ set (set (parts row_length equations rows) j (numbers_at rows i)) i (numbers_at rows j)
  unfolding row_need
  parts-exchanged =
      parts-paste row_length equations (paste rows (j * row_length) (numbers_at rows i) row_length) (numbers_at rows j) i
      (length-numbers_at equations rows w j other) within_first.long inside
      ∙ ap (λ l. set l i (numbers_at rows j))
      (parts-paste row_length equations rows (numbers_at rows i) j (length-numbers_at equations rows w i inside) w.long other)

  pub exchanged-first : numbers_at exchanged i ≡ numbers_at rows j
  exchanged-first =
      sym (get_or-parts row_length equations exchanged i inside) ∙ ap (λ l. get_or l i []) parts-exchanged
      ∙ get_or-set_same (set (parts row_length equations rows) j (numbers_at rows i)) i (numbers_at rows j) []
      (simp (length-set, parts-length) inside)

  pub exchanged-second : j ≢ i → numbers_at exchanged j ≡ numbers_at rows i
  exchanged-second n =
      sym (get_or-parts row_length equations exchanged j other) ∙ ap (λ l. get_or l j []) parts-exchanged
      ∙ get_or-set_other (set (parts row_length equations rows) j (numbers_at rows i)) i j (numbers_at rows j) [] n
      ∙ get_or-set_same (parts row_length equations rows) j (numbers_at rows i) [] (rw parts-length other)

  -- The working rows change places with the rows.
  pub exchanged-loaded : j ≢ i → (v o : WorkingRow) → Loaded rows i v → Loaded rows j o → Loaded exchanged i o × Loaded exchanged j v
  exchanged-loaded n v o lv lo = (
    record {
      numbers = lo.numbers ∙ sym exchanged-first;
      full = lo.full;
      width_is = lo.width_is ∙ ap (λ l. width (row_of l)) (sym exchanged-first);
    },
    record {
      numbers = lv.numbers ∙ sym (exchanged-second n);
      full = lv.full;
      width_is = lv.width_is ∙ ap (λ l. width (row_of l)) (sym (exchanged-second n));
    },
  )

  -- Which rows the store holds afterwards, and what stays.
  pub narrowed-within : Within (row_need equations) (narrowed rows i j)
  unfolding narrowed
  narrowed-within = cases (ltb (width (row_of (numbers_at rows i))) (width (row_of (numbers_at rows j))))
    where
      cases : (t : Bool) → Within (row_need equations) (cond t exchanged rows)
      cases true = within-exchanged
      cases false = w

  pub narrowed-kept : Kept (row_need equations) rows (narrowed rows i j)
  unfolding narrowed
  narrowed-kept = cases (ltb (width (row_of (numbers_at rows i))) (width (row_of (numbers_at rows j))))
    where
      cases : (t : Bool) → Kept (row_need equations) rows (cond t exchanged rows)
      cases true = kept-exchanged
      cases false = kept_same (row_need equations) rows

  -- Row i stands in one of the two places afterwards.
  pub narrowed-one : j ≢ i
      → (row_of (numbers_at (narrowed rows i j) j) ≡ row_of (numbers_at rows i))
      ⊎ (row_of (numbers_at (narrowed rows i j) i) ≡ row_of (numbers_at rows i))
  unfolding narrowed
  narrowed-one n = cases (ltb (width (row_of (numbers_at rows i))) (width (row_of (numbers_at rows j))))
    where
      moved : row_of (numbers_at exchanged j) ≡ row_of (numbers_at rows i)
      moved =
          let first = set (rows_of equations rows) j (row_of (numbers_at rows i)) in
          sym (row-at equations exchanged j other) ∙ ap (λ l. get_or l j no_row) rows-exchanged
          ∙ get_or-set_other first i j (row_of (numbers_at rows j)) no_row n
          ∙ get_or-set_same (rows_of equations rows) j (row_of (numbers_at rows i)) no_row (rw length-rows_of other)

      cases : (t : Bool) → let after = cond t exchanged rows in
          (row_of (numbers_at after j) ≡ row_of (numbers_at rows i)) ⊎ (row_of (numbers_at after i) ≡ row_of (numbers_at rows i))
      cases true = inl moved
      cases false = inr refl

pub narrowed-state : (rows relations : List ℤ) (p : Progress) → Within (row_need p.rows) rows → (i j : ℕ) → i < p.rows → j < p.rows
    → narrow_first (state_of rows relations p) i j ≡ state_of (narrowed rows i j) relations p
unfolding narrow_first narrowed exchange put_row state_of
narrowed-state rows relations p w i j inside other =
    ap₂ (λ a b. cond (ltb (width a) (width b)) (exchange s i j) s) first second
    ∙ cases (ltb (width (row_of (numbers_at rows i))) (width (row_of (numbers_at rows j))))
  where
    s : State
    s = state_of rows relations p

    first : row_at s i ≡ row_of (numbers_at rows i)
    first = row-of rows relations p i inside

    second : row_at s j ≡ row_of (numbers_at rows j)
    second = row-of rows relations p j other

    cases : (t : Bool) → cond t (exchange s i j) s ≡ state_of (cond t (exchanged p.rows rows w i j inside other) rows) relations p
    cases true =
        ap (λ l. state l (relations_of p.count relations) (take p.settled p.order) p.shifts)
        (ap₂ (λ a b. set (set (rows_of p.rows rows) j a) i b) first second ∙ sym (rows-exchanged p.rows rows w i j inside other))
    cases false = refl
