-- The settled rows in a matrix store, and what a turn of the elimination does to the store.
--
-- Main definitions
--   row_at, pivot_at       row k of a store, and a settled row
--   pivots_in n columns store   the settled rows of a store, with their columns
--   count_after, columns_after, store_after   how many rows are settled, their columns and the store behind a row that is reduced
--   Ready                what is asked of a store
--   Turn                 where the elimination stands behind i rows, of which w are settled
-- Main statements
--   pivots-next          the settled rows from row k on
--   pivots-none, pivots-more   no settled row, and one row more behind w of them
--   rows_long            the rows of a store have n numbers each
--   rows_next, rows-later   the rows from row i on, and those past a row that is written
--   turn-first, turn-row, turn-next, turn_last, turn-passed   before the first row, row i, behind it, and the two ends
--   matrix-sound         what the elimination makes of a store's rows is within ±C, its columns below n and different
use Prim.Native.Nat.{ℕ, suc, ◌+◌, ◌*◌, ◌≤◌, ◌<◌, zero-le}
use Rattle.std.specs.Prelude.{◌≡◌, get_or, set}
use Rattle.std.proofs.Math.Path.{refl, sym, ap, ap₂, subst}
use Rattle.std.proofs.Common.{◌∙◌, add-zero, le_of_eq, arith, length-drop, take-take, take-suc-set, take_at}
use mathlib.Core.List.{List, [], ◌∷◌, ◌++◌, map, zip_with, map-append}
use Rattle.std.proofs.Math.Option.{Option, none, some}
use Rattle.std.proofs.Math.Numerals.{add-one}
use Rattle.std.proofs.Math.Dec.{T}
use Rattle.std.proofs.Math.IntN.{ℤ}
use Rattle.std.proofs.Math.ListN.{length, take, drop, length-append, length-set}
use Rattle.std.proofs.Math.Seq.{paste, length-paste, length-take-le, drop-set-lt}
use Rattle.lists.specs.Everywhere.{All, map-keeps}
use Rattle.lists.specs.Images.{length-zip_with, get_or-zip_with, zip_with-append, map-set}
use Rattle.lists.specs.Parts.{parts, parts-width, parts_more, held_next, held-end}
use Rattle.lists.specs.Pasted.{drop-paste-later, paste-first, paste-rest, parts-paste-in, parts-paste-past}
use Rattle.lists.specs.Taken.{drop-next}
use Rattle.lists.specs.Tests.{every, T-&&}
use Rattle.rules.specs.Limits.{small}
use Rattle.sides.specs.Lent.{Kept}
use Rattle.constant_rows.specs.Constants.{fine, passed, and_on}
use Rattle.echelon.specs.Eliminated.{Pivot, reduce_all_of, first_at, settle_at, eliminate}
use Rattle.echelon.specs.KernelKept.{reduce_all-reduced}
use Rattle.constant_rows.specs.ConstantStores.{length-matrix_rows}
use Rattle.constant_rows.specs.Matrices.{matrix_rows}
use Rattle.constant_rows.specs.ListLengths.{list_columns, most_rows, matrix_need}
use Rattle.echelon.specs.SoundRows.{Sound, sound-few, sound_none, sound-settle, eliminate-sound}

-- ---- the settled rows of a store

-- Row k of a store, n numbers of it.
abbrev pub row_at : ℕ → ℕ → List ℤ → List ℤ
row_at n k store = take n (drop (k * list_columns) store)

unfoldable pub pivots_in : ℕ → List ℕ → List ℤ → List Pivot
unfolding matrix_rows zip_with
pivots_in n columns store = zip_with (λ r c. record { numbers = r; column = c }) (matrix_rows n (length columns) store) columns

abbrev pub pivot_at : ℕ → ℕ → ℕ → List ℤ → Pivot
pivot_at n k c store = record { numbers = row_at n k store; column = c }

pub length-pivots : (n : ℕ) (columns : List ℕ) (store : List ℤ) → length (pivots_in n columns store) ≡ length columns
unfolding pivots_in
length-pivots n columns store =
    length-zip_with (λ r c. record { numbers = r; column = c }) (matrix_rows n (length columns) store) columns
    (length-matrix_rows n (length columns) store) ∙ length-matrix_rows n (length columns) store

pub rows_next : (n count : ℕ) (store : List ℤ) (i : ℕ) → n ≤ list_columns → i < count
    → drop i (matrix_rows n count store) ≡ row_at n i store ∷ drop (i + 1) (matrix_rows n count store)
unfolding matrix_rows
rows_next n count store i h k =
    held_next (take n) list_columns count store i k
    ∙ ap (λ r. r ∷ drop (i + 1) (map (take n) (parts list_columns count store))) (take-take n list_columns (drop (i * list_columns) store) h)

get_or_rows : (n count : ℕ) (store : List ℤ) (i : ℕ) → n ≤ list_columns → i < count → get_or (matrix_rows n count store) i [] ≡ row_at n i store
get_or_rows n count store i h k =
    let rows = matrix_rows n count store in
    let long : i < length rows = rw length-matrix_rows k in
    ap first (sym (drop-next rows i [] long) ∙ rows_next n count store i h k)
  where
    first : List (List ℤ) → List ℤ
    first [] = []
    first (r ∷ rs) = r

-- The settled rows from row k on are row k and those from row k + 1 on.
pub pivots-next : (n : ℕ) (columns : List ℕ) (store : List ℤ) (k : ℕ) → n ≤ list_columns → k < length columns
    → drop k (pivots_in n columns store) ≡ pivot_at n k (get_or columns k 0) store ∷ drop (k + 1) (pivots_in n columns store)
unfolding pivots_in
pivots-next n columns store k h inside =
    drop-next (pivots_in n columns store) k none_here (rw length-pivots inside)
    ∙ ap (λ p. p ∷ drop (k + 1) (pivots_in n columns store))
    (get_or-zip_with (λ r c. record { numbers = r; column = c }) (matrix_rows n (length columns) store) columns k [] 0 none_here
    (rw length-matrix_rows inside) inside
    ∙ ap (λ r. record { numbers = r; column = get_or columns k 0 }) (get_or_rows n (length columns) store k h inside))
  where
    none_here : Pivot
    none_here = record { numbers = []; column = 0 }

pub pivots-none : (n : ℕ) (store : List ℤ) → pivots_in n [] store ≡ []
unfolding pivots_in matrix_rows parts zip_with
pivots-none n store = refl

pub rows_long : (n count : ℕ) (store : List ℤ) → n ≤ list_columns → count * list_columns ≤ length store
    → All (λ r. length r ≡ n) (matrix_rows n count store)
unfolding matrix_rows
rows_long n count store narrow enough =
    map-keeps (λ p. length p ≡ list_columns) (λ r. length r ≡ n) (take n)
    (λ p long. length-take-le n p (omega arith)) (parts list_columns count store) (parts-width list_columns count store enough)

-- ---- a row written into the store

module _ (n w : ℕ) (store q : List ℤ) (narrow : n ≤ list_columns) (long : length q ≡ n)
    (inside : w * list_columns + list_columns ≤ length store) where
  -- The row that is written.
  written_row : row_at n w (paste store (w * list_columns) q n) ≡ q
  written_row =
      let start : ℕ = w * list_columns in
      ap (λ j. take n (drop start (paste store j q n))) (sym (add-zero start))
      ∙ ap (take n) (drop-paste-later store start 0 q n (omega arith) ∙ paste-first (drop start store) q n long)
      ∙ take_at q (drop n (drop start store)) n long

  rows_written : matrix_rows n (suc w) (paste store (w * list_columns) q n) ≡ matrix_rows n w store ++ (q ∷ [])
  unfolding matrix_rows
  rows_written =
      let store' : List ℤ = paste store (w * list_columns) q n in
      ap (map (take n)) (parts_more list_columns w store')
      ∙ map-append (take n) (parts list_columns w store') (take list_columns (drop (w * list_columns) store') ∷ [])
      ∙ ap₂ (λ ps r. map (take n) ps ++ (r ∷ [])) (parts-paste-past list_columns w store q n (omega arith))
      (take-take n list_columns (drop (w * list_columns) store') narrow ∙ written_row)

  -- One settled row more.
  pub pivots-more : (columns : List ℕ) (c : ℕ) → w < length columns
      → pivots_in n (take (w + 1) (set columns w c)) (paste store (w * list_columns) q n)
      ≡ pivots_in n (take w columns) store ++ (record { numbers = q; column = c } ∷ [])
  unfolding pivots_in zip_with
  pivots-more columns c h =
      let store' : List ℤ = paste store (w * list_columns) q n in
      let front : take (w + 1) (set columns w c) ≡ take w columns ++ (c ∷ []) = rw add-one (take-suc-set columns w c h) in
      let size : length (take w columns) ≡ w = length-take-le w columns (omega arith) in
      let count : length (take (w + 1) (set columns w c)) ≡ suc w
      = length-take-le (w + 1) (set columns w c) (rw length-set (omega arith)) ∙ add-one w in
      ap₂ (λ k cs. zip_with (λ r c. record { numbers = r; column = c }) (matrix_rows n k store') cs) count front
      ∙ ap (λ rs. zip_with (λ r c. record { numbers = r; column = c }) rs (take w columns ++ (c ∷ []))) rows_written
      ∙ zip_with-append (λ r c. record { numbers = r; column = c }) (matrix_rows n w store) (q ∷ []) (take w columns) (c ∷ [])
      (length-matrix_rows n w store ∙ sym size)
      ∙ ap (λ k. zip_with (λ r c. record { numbers = r; column = c }) (matrix_rows n k store) (take w columns)
      ++ (record { numbers = q; column = c } ∷ [])) (sym size)

  -- The rows past it are as they were.
  pub rows-later : (count i : ℕ) → w < i → w < count → count * list_columns ≤ length store
      → drop i (matrix_rows n count (paste store (w * list_columns) q n)) ≡ drop i (matrix_rows n count store)
  unfolding matrix_rows
  rows-later count i past h fits =
      let ps : List (List ℤ) = parts list_columns count store in
      ap (λ j. drop i (map (take n) (parts list_columns count (paste store j q n)))) (sym (add-zero (w * list_columns)))
      ∙ ap (λ l. drop i (map (take n) l)) (parts-paste-in list_columns count w 0 store q n h (omega arith) fits (le_of_eq (sym long)))
      ∙ ap (drop i) (map-set (take n) ps w (paste (get_or ps w []) 0 q n))
      ∙ drop-set-lt i (map (take n) ps) w (take n (paste (get_or ps w []) 0 q n)) past

-- ---- where the elimination stands

-- A row that is not zero is settled in the place behind the settled rows (SCOPE 14.44).
unfoldable pub count_after : ℕ → Option ℕ → ℕ
count_after w none = w
count_after w (some c) = w + 1

unfoldable pub columns_after : ℕ → List ℕ → Option ℕ → List ℕ
columns_after w columns none = columns
columns_after w columns (some c) = set columns w c

unfoldable pub store_after : ℕ → List ℤ → List ℤ → Option ℕ → List ℤ
store_after w q store none = store
store_after w q store (some c) = paste store (w * list_columns) q (length q)

pub record Turn (n count : ℕ) (store₀ store : List ℤ) (columns : List ℕ) (w i : ℕ) : Type 0 where
  pub within : i ≤ count
  pub below : w ≤ i
  pub few : w ≤ n
  pub full : length columns ≡ list_columns
  pub kept : Kept matrix_need store₀ store
  pub sound : Sound n (pivots_in n (take w columns) store)
  pub numbers : T (every (every small) (drop i (matrix_rows n count store)))
  pub same : eliminate [] (matrix_rows n count store₀) ≡ eliminate (pivots_in n (take w columns) store) (drop i (matrix_rows n count store))

-- What is asked of a store before its rows are eliminated.
abbrev pub Ready : ℕ → ℕ → List ℤ → Type 0
Ready n count store =
    (n ≤ list_columns) × (count ≤ most_rows) × (matrix_need ≤ length store) × T (every (every small) (matrix_rows n count store))

module _ {n count : ℕ} {store₀ : List ℤ} (ready : Ready n count store₀) where
  pub turn-first : (columns : List ℕ) → length columns ≡ list_columns → Turn n count store₀ store₀ columns 0 0
  turn-first columns full =
      record {
        within = zero-le;
        below = zero-le;
        few = zero-le;
        full = full;
        kept = record { same_length = refl; same_rest = refl };
        sound = subst (Sound n) (sym (pivots-none n store₀)) (sound_none n);
        numbers = ready.3;
        same = ap (λ ps. eliminate ps (matrix_rows n count store₀)) (sym (pivots-none n store₀));
      }

  module _ {store : List ℤ} {columns : List ℕ} {w i : ℕ} (t : Turn n count store₀ store columns w i) where
    abbrev pub settled_rows : List Pivot
    settled_rows = pivots_in n (take w columns) store

    pub settled-count : length settled_rows ≡ w
    settled-count = length-pivots n (take w columns) store ∙ length-take-le w columns (omega (arith, t.few, t.full, ready.0))

    -- Behind the last row the settled rows are what is asked for.
    pub turn_last : count ≤ i → eliminate [] (matrix_rows n count store₀) ≡ fine settled_rows
    unfolding eliminate matrix_rows
    turn_last h = t.same ∙ ap (eliminate settled_rows) (held-end (take n) list_columns count store i h)

    module _ (inside : i < count) where
      -- Row i and the place of the next settled row lie within the store.
      pub turn_inside : (i * list_columns + list_columns ≤ length store) × (w * list_columns + list_columns ≤ length store)
      turn_inside =
          let long : matrix_need ≤ length store = omega (arith, t.kept.same_length, ready.2) in
          (omega (arith, long, ready.1), omega (arith, long, t.below, ready.1))

      abbrev row : List ℤ
      row = row_at n i store

      abbrev rest : List (List ℤ)
      rest = drop (i + 1) (matrix_rows n count store)

      next : drop i (matrix_rows n count store) ≡ row ∷ rest
      next = rows_next n count store i ready.0 inside

      tested : T (every small row) × T (every (every small) rest)
      unfolding every
      tested = (T-&& (every small row) (every (every small) rest)).0 (rw next at t.numbers)

      pub turn-row : T (every small row)
      turn-row = tested.0

      row-long : length row ≡ n
      row-long = length-take-le n (drop (i * list_columns) store) (rw length-drop (omega (arith, turn_inside.0, ready.0)))

      from-here : eliminate [] (matrix_rows n count store₀)
          ≡ and_on (reduce_all_of settled_rows row) (λ q. eliminate (settle_at settled_rows q (first_at q)) rest)
      unfolding eliminate
      from-here = t.same ∙ ap (eliminate settled_rows) next

      pub turn-passed : {limit : ℕ} → reduce_all_of settled_rows row ≡ passed limit → eliminate [] (matrix_rows n count store₀) ≡ passed limit
      unfolding and_on
      turn-passed e = from-here ∙ ap (λ o. and_on o (λ q. eliminate (settle_at settled_rows q (first_at q)) rest)) e

      module _ (q : List ℤ) (reduced : reduce_all_of settled_rows row ≡ fine q) where
        long : length q ≡ n
        long = (reduce_all-reduced n settled_rows t.sound.echelon row row-long q reduced).length-kept

        sound-now : Sound n (settle_at settled_rows q (first_at q))
        sound-now = sound-settle n settled_rows t.sound row q row-long turn-row reduced

        same-now : eliminate [] (matrix_rows n count store₀) ≡ eliminate (settle_at settled_rows q (first_at q)) rest
        unfolding and_on
        same-now = from-here ∙ ap (λ o. and_on o (λ l. eliminate (settle_at settled_rows l (first_at l)) rest)) reduced

        one_more : (c : ℕ) → first_at q ≡ some c → w + 1 ≤ n
        unfolding settle_at
        one_more c e =
            let new : Pivot = record { numbers = q; column = c } in
            let most = sound-few n (settled_rows ++ (new ∷ [])) (subst (λ o. Sound n (settle_at settled_rows q o)) e sound-now) in
            omega (arith, most, length-append settled_rows (new ∷ []), settled-count)

        pub turn-room : count_after w (first_at q) ≤ list_columns
        unfolding count_after
        turn-room = go (first_at q) refl
          where
            go : (o : Option ℕ) → first_at q ≡ o → count_after w o ≤ list_columns
            go none e = omega (arith, t.few, ready.0)
            go (some c) e = omega (arith, one_more c e, ready.0)

        abbrev After : Option ℕ → Type 0
        After o = Turn n count store₀ (store_after w q store o) (columns_after w columns o) (count_after w o) (i + 1)

        pub turn-next : After (first_at q)
        unfolding count_after columns_after store_after settle_at
        turn-next = go (first_at q) refl
          where
            go : (o : Option ℕ) → first_at q ≡ o → After o
            go none e =
                record {
                  within = omega arith;
                  below = omega (arith, t.below);
                  few = t.few;
                  full = t.full;
                  kept = t.kept;
                  sound = t.sound;
                  numbers = tested.1;
                  same = same-now ∙ ap (λ o. eliminate (settle_at settled_rows q o) rest) e;
                }
            go (some c) e =
                let new : Pivot = record { numbers = q; column = c } in
                let more : w + 1 ≤ n = one_more c e in
                let place : ℕ = w * list_columns in
                let store' : List ℤ = paste store place q n in
                let written : paste store place q (length q) ≡ store' = ap (paste store place q) long in
                let fits = turn_inside.1 in
                let filled : count * list_columns ≤ length store = omega (arith, t.kept.same_length, ready.1, ready.2) in
                let pivots : pivots_in n (take (w + 1) (set columns w c)) store' ≡ settled_rows ++ (new ∷ [])
                = pivots-more n w store q ready.0 long fits columns c (omega (arith, more, t.full, ready.0)) in
                let later : drop (i + 1) (matrix_rows n count store') ≡ rest
                = rows-later n w store q ready.0 long fits count (i + 1) (omega (arith, t.below)) (omega (arith, t.below)) filled in
                subst (λ s. Turn n count store₀ s (set columns w c) (w + 1) (i + 1)) (sym written) (
                record {
                  within = omega arith;
                  below = omega (arith, t.below);
                  few = more;
                  full = length-set columns w c ∙ t.full;
                  kept =
                      record {
                        same_length = length-paste store place q n (omega (arith, fits)) (le_of_eq (sym long)) ∙ t.kept.same_length;
                        same_rest = paste-rest store place q n matrix_need (omega (arith, fits)) (le_of_eq (sym long))
                            (omega (arith, t.below)) ∙ t.kept.same_rest;
                      };
                  sound = subst (Sound n) (sym pivots) (subst (λ o. Sound n (settle_at settled_rows q o)) e sound-now);
                  numbers = subst (λ l. T (every (every small) l)) (sym later) tested.1;
                  same = same-now ∙ ap (λ o. eliminate (settle_at settled_rows q o) rest) e ∙ ap₂ eliminate (sym pivots) (sym later);
                }
                )

-- ---- what is known of the settled rows at the end

pub matrix-sound : (n count : ℕ) (store : List ℤ) → Ready n count store → (ps : List Pivot)
    → eliminate [] (matrix_rows n count store) ≡ fine ps → Sound n ps
matrix-sound n count store ready ps e =
    eliminate-sound n (matrix_rows n count store) [] (sound_none n) (rows_long n count store ready.0 (omega (arith, ready.1, ready.2)))
    ready.3 ps e
