-- The list in its store while it is made, one sequence a row (SCOPE 14.5, 14.63).
--
-- Main definitions
--   Placed n k r w s s'       the test whether w is within ±C; if it is, it is row k of the store afterwards
--   listed_below n ps f        the list of the free columns below f
--   Written n ps f count s    that list stands in the store
--   count_in r               how many sequences a result tells
--   Stepped n ps f ..         what one column more reports
-- Main statements
--   row-begun, row-placed     a row of the store begins as the unit vector, and holds the sequence afterwards
--   written_none, written-past, written_next   the list before the first column, and with one column more
--   written-zeros             the rows behind the list are 0
--   listing-refused, listing-stopped, listing-goes-on, listing-reported, listing-told   what a column reports, and what is reported of it and at the end
use Prim.Native.Nat.{ℕ, zero, suc, ◌+◌, ◌*◌, ◌-◌, ◌≤◌, ◌<◌}
use Rattle.std.specs.Prelude.{◌≡◌, refl, ◌≢◌, ◌⊎◌, Bool, true, false, cond, length, take, drop, set, ℤ, pos}
use Rattle.std.specs.Prelude.{Result}
use Rattle.refusals.specs.declared.Refusal.{Refusal}
use Rattle.refusals.specs.Refusals.{number_of, refusal_in, number-nonzero}
use Rattle.std.proofs.Common.{Ok, Err, sym, ◌∙◌, subst, ⊎_elim, zero-add, le-add_right, arith, take-append-drop, take_all, take_at, drop_at, drop-set-lt}
use Rattle.std.proofs.Math.Path.{ap, ap₂}
use mathlib.Core.List.{List, [], ◌∷◌, ◌++◌, map, flatten, append-nil, append_assoc, map-append}
use borrow.Rule.Slice.PartMut.{put_mid, Post-is}
use Rattle.std.proofs.Math.ListN.{length-append}
use Rattle.std.proofs.lemmas.List.{length-replicate, length-map, replicate-append-replicate, take-set-le, drop-set-add}
use Rattle.std.proofs.Math.Seq.{paste, take-set-lt, drop-append-add}
use Rattle.std.proofs.lemmas.List.Edits.{length-paste}
use Rattle.algebra.specs.Sums.{count_from, count_from-append}
use Rattle.lists.specs.Everywhere.{map-all, all-always}
use Rattle.lists.specs.Joined.{flatten-append, length-flatten}
use Rattle.lists.specs.Overwritten.{overwrite}
use Rattle.lists.specs.Padded.{pad_to, length-pad_to}
use Rattle.lists.specs.Pasted.{paste-rest, take-paste-within}
use Rattle.lists.specs.Sifted.{keep}
use Rattle.lists.specs.Taken.{part-of-part}
use Rattle.lists.specs.Tests.{every}
use Rattle.rules.specs.Calls.{zeros}
use Rattle.rules.specs.Limits.{small}
use Rattle.sides.specs.Lent.{Kept}
use Rattle.constant_rows.specs.Constants.{Judged, fine, passed, each, and_on}
use Rattle.echelon.specs.Eliminated.{Pivot, limited}
use Rattle.back_substitution.specs.Listed.{is_free_of, unit, vector_at, free_columns, sequences, list_store_of}
use Rattle.constant_rows.specs.Matrices.{Reports, Told}
use Rattle.constant_rows.specs.ConstantStores.{told-of}
use Rattle.constant_rows.specs.ListLengths.{list_columns, list_need}
use Rattle.back_substitution.specs.BackSubstitution.{Filled}

pub record Placed (n k : ℕ) (r : Bool) (w store store' : List ℤ) : Type 0 where
  pub judged : r ≡ every small w
  pub same : r ≡ true → store' ≡ paste store (k * list_columns) w n
  pub kept : Kept list_need store store'

unfoldable pub listed_below : ℕ → List Pivot → ℕ → Judged (List (List ℤ))
unfolding each keep count_from
listed_below n ps f = each (λ c. limited (vector_at n ps c)) (keep (is_free_of ps) (count_from 0 f))

pub record Written (n : ℕ) (ps : List Pivot) (f count : ℕ) (store : List ℤ) : Type 0 where
  pub list : List (List ℤ)
  pub below : listed_below n ps f ≡ fine list
  pub size : count ≡ length list
  pub few : count ≤ f
  pub front : take list_need store ≡ list_store_of list

-- How many sequences a result tells.
abbrev pub count_in : Result ℕ Refusal → ℕ
count_in (Ok count) = count
count_in (Err r) = 0

-- Either the list with one column more stands in the store, or it is refused with 8.
abbrev pub Stepped : ℕ → List Pivot → ℕ → ℕ → ℕ → List ℤ → Type 0
Stepped n ps f refusal count store =
    ((refusal ≡ 0) × Written n ps (f + 1) count store) ⊎ ((refusal ≡ 8) × (sequences n ps ≡ passed 8))

-- ---- one row of the store

pub row-begun : (n a f : ℕ) (store : List ℤ) → f < n → take n (drop a store) ≡ zeros n
    → take (a + n - a) (drop a (set store (a + f) (pos 1))) ≡ unit n f
unfolding unit zeros
row-begun n a f store h z =
    let size : a + n - a ≡ n = omega arith in
    ap₂ take size (drop-set-add a store f (pos 1)) ∙ take-set-lt n (drop a store) f (pos 1) h ∙ ap (λ l. set l f (pos 1)) z

put-row : (n a f : ℕ) (store v : List ℤ) → f < n → length v ≡ n
    → put_mid a (a + n - a) (set store (a + f) (pos 1)) v ≡ paste store a v n
put-row n a f store v h e =
    ap₂ (λ x y. x ++ (v ++ y)) (take-set-le a store (a + f) (pos 1) (le-add_right a f))
    (Post-is a (a + n) (set store (a + f) (pos 1)) (le-add_right a n) ∙ drop-set-lt (a + n) store (a + f) (pos 1) (omega arith))
    ∙ sym (append_assoc (take a store) v (drop (a + n) store))
    ∙ ap (λ x. take a store ++ x ++ drop (a + n) store) (sym (take_all n v (omega arith)))

pub row-placed : (n k f : ℕ) (r : Bool) (w v store : List ℤ) → n ≤ list_columns → f < n → k < list_columns → list_need ≤ length store
    → length v ≡ n → Filled r w v
    → Placed n k r w store (put_mid (k * list_columns) (k * list_columns + n - k * list_columns) (set store (k * list_columns + f) (pos 1)) v)
row-placed n k f r w v store few below row long e h =
    record {
      judged = h.judged;
      same = λ t. is ∙ ap (λ x. paste store a x n) (h.same t);
      kept = record {
        same_length = ap length is ∙ length-paste store a v n (omega arith) (omega arith);
        same_rest = ap (drop list_need) is ∙ paste-rest store a v n list_need (omega arith) (omega arith) (omega arith);
      };
    }
  where
    a : ℕ
    a = k * list_columns

    is : put_mid a (a + n - a) (set store (a + f) (pos 1)) v ≡ paste store a v n
    is = put-row n a f store v below e

-- ---- the list in its store

pad-none : (n : ℕ) → pad_to n (pos 0) [] ≡ zeros n
unfolding pad_to zeros
pad-none zero = refl
pad-none (suc n) = ap (λ r. pos 0 ∷ r) (pad-none n)

pad-append : (n : ℕ) (l : List ℤ) → length l ≤ n → pad_to n (pos 0) l ≡ l ++ zeros (n - length l)
unfolding pad_to
pad-append n [] h = let size : n ≡ n - 0 = omega arith in pad-none n ∙ ap zeros size
pad-append zero (x ∷ l) h = absurd (omega arith)
pad-append (suc n) (x ∷ l) h =
    let size : n - length l ≡ suc n - suc (length l) = omega arith in
    ap (λ r. x ∷ r) (pad-append n l (omega arith) ∙ ap (λ k. l ++ zeros k) size)

-- The rows of the list, 64 numbers each.
list_rows : List (List ℤ) → List ℤ
list_rows l = flatten (map (pad_to list_columns (pos 0)) l)

length-rows : (l : List (List ℤ)) → length (list_rows l) ≡ length l * list_columns
unfolding list_rows
length-rows l =
    length-flatten list_columns (map (pad_to list_columns (pos 0)) l)
    (map-all (λ p. length p ≡ list_columns) (pad_to list_columns (pos 0)) l
    (all-always (λ p. length (pad_to list_columns (pos 0) p) ≡ list_columns) (length-pad_to list_columns (pos 0)) l))
    ∙ ap (λ k. k * list_columns) (length-map l (pad_to list_columns (pos 0)))

rows_more : (l : List (List ℤ)) (w : List ℤ) → list_rows (l ++ w ∷ []) ≡ list_rows l ++ pad_to list_columns (pos 0) w
unfolding list_rows flatten
rows_more l w =
    ap flatten (map-append (pad_to list_columns (pos 0)) l (w ∷ []))
    ∙ flatten-append (map (pad_to list_columns (pos 0)) l) (pad_to list_columns (pos 0) w ∷ [])
    ∙ ap (λ r. list_rows l ++ r) (append-nil (pad_to list_columns (pos 0) w))

store-rows : (l : List (List ℤ)) → length l ≤ list_columns → list_store_of l ≡ list_rows l ++ zeros (list_need - length l * list_columns)
unfolding list_store_of list_rows
store-rows l h =
    pad-append list_need (list_rows l) (omega (arith, length-rows l))
    ∙ ap (λ k. list_rows l ++ zeros (list_need - k)) (length-rows l)

length-store : (l : List (List ℤ)) → length (list_store_of l) ≡ list_need
unfolding list_store_of
length-store l = length-pad_to list_need (pos 0) (flatten (map (pad_to list_columns (pos 0)) l))

zeros-join : (a b : ℕ) → zeros a ++ zeros b ≡ zeros (a + b)
unfolding zeros
zeros-join a b = replicate-append-replicate a b (pos 0)

length-zeros : (n : ℕ) → length (zeros n) ≡ n
unfolding zeros
length-zeros n = length-replicate n (pos 0)

zeros-drop : (a b : ℕ) → drop a (zeros (a + b)) ≡ zeros b
zeros-drop a b = ap (drop a) (sym (zeros-join a b)) ∙ drop_at (zeros a) (zeros b) a (length-zeros a)

-- One row more.
store-more : (n : ℕ) (l : List (List ℤ)) (w : List ℤ) → length l < list_columns → n ≤ list_columns → length w ≡ n
    → paste (list_store_of l) (length l * list_columns) w n ≡ list_store_of (l ++ w ∷ [])
store-more n l w h k e =
    ap (λ s. paste s a w n) (store-rows l (omega arith))
    ∙ ap₂ ◌++◌ (ap₂ ◌++◌ (take_at F (zeros Z) a (length-rows l)) (take_all n w (omega arith))) behind
    ∙ sym (store-rows (l ++ w ∷ []) (rw length-append (omega arith)) ∙ ap₂ (λ x y. x ++ zeros y) rows rest ∙ joined)
  where
    F : List ℤ
    F = list_rows l

    a : ℕ
    a = length l * list_columns

    Z : ℕ
    Z = list_need - a

    b : ℕ
    b = list_need - (a + list_columns)

    behind : drop (a + n) (F ++ zeros Z) ≡ zeros (Z - n)
    behind =
        let size : n + (Z - n) ≡ Z = omega arith in
        ap (λ i. drop (i + n) (F ++ zeros Z)) (sym (length-rows l)) ∙ drop-append-add F (zeros Z) n
        ∙ ap (λ i. drop n (zeros i)) (sym size) ∙ zeros-drop n (Z - n)

    rows : list_rows (l ++ w ∷ []) ≡ F ++ (w ++ zeros (list_columns - n))
    rows = rows_more l w ∙ ap (λ x. F ++ x) (pad-append list_columns w (omega arith) ∙ ap (λ i. w ++ zeros (list_columns - i)) e)

    rest : list_need - length (l ++ w ∷ []) * list_columns ≡ b
    rest = rw length-append (omega arith)

    joined : (F ++ (w ++ zeros (list_columns - n))) ++ zeros b ≡ (F ++ w) ++ zeros (Z - n)
    joined =
        let size : list_columns - n + b ≡ Z - n = omega arith in
        ap (λ x. x ++ zeros b) (sym (append_assoc F w (zeros (list_columns - n))))
        ∙ append_assoc (F ++ w) (zeros (list_columns - n)) (zeros b)
        ∙ ap (λ x. (F ++ w) ++ x) (zeros-join (list_columns - n) b ∙ ap zeros size)

-- ---- column by column

keep_append : {A : Type 0} (t : A → Bool) (l m : List A) → keep t (l ++ m) ≡ keep t l ++ keep t m
unfolding keep
keep_append t [] m = refl
keep_append t (x ∷ l) m = cases (t x) (keep_append t l m)
  where
    cases : (s : Bool) → keep t (l ++ m) ≡ keep t l ++ keep t m
        → cond s (x ∷ keep t (l ++ m)) (keep t (l ++ m)) ≡ cond s (x ∷ keep t l) (keep t l) ++ keep t m
    cases true e = ap (λ r. x ∷ r) e
    cases false e = e

and_on-same : {A : Type 0} (o : Judged (List A)) → o ≡ and_on o (λ bs. fine ([] ++ bs))
unfolding and_on
and_on-same (fine l) = refl
and_on-same (passed n) = refl

and_on-moved : {A : Type 0} (y : A) (o u : Judged (List A))
    → and_on (and_on o (λ l. and_on u (λ m. fine (l ++ m)))) (λ r. fine (y ∷ r))
    ≡ and_on (and_on o (λ l. fine (y ∷ l))) (λ l. and_on u (λ m. fine (l ++ m)))
unfolding and_on
and_on-moved y (passed n) u = refl
and_on-moved y (fine l) (fine m) = refl
and_on-moved y (fine l) (passed n) = refl

each_append : {A B : Type 0} (f : A → Judged B) (l m : List A)
    → each f (l ++ m) ≡ and_on (each f l) (λ ys. and_on (each f m) (λ zs. fine (ys ++ zs)))
unfolding each and_on
each_append f [] m = and_on-same (each f m)
each_append {B = B} f (x ∷ l) m = cases (f x) (each_append f l m)
  where
    cases : (o : Judged B) → each f (l ++ m) ≡ and_on (each f l) (λ ys. and_on (each f m) (λ zs. fine (ys ++ zs)))
        → and_on o (λ y. and_on (each f (l ++ m)) (λ ys. fine (y ∷ ys)))
        ≡ and_on (and_on o (λ y. and_on (each f l) (λ ys. fine (y ∷ ys)))) (λ ys. and_on (each f m) (λ zs. fine (ys ++ zs)))
    cases (passed n) e = refl
    cases (fine y) e = ap (λ o. and_on o (λ ys. fine (y ∷ ys))) e ∙ and_on-moved y (each f l) (each f m)

-- The columns below f + 1, and all of them from f on.
columns-next : (ps : List Pivot) (f : ℕ)
    → keep (is_free_of ps) (count_from 0 (f + 1)) ≡ keep (is_free_of ps) (count_from 0 f) ++ keep (is_free_of ps) (f ∷ [])
unfolding count_from
columns-next ps f =
    ap (keep (is_free_of ps)) (count_from-append 0 f 1 ∙ ap (λ k. count_from 0 f ++ (k ∷ [])) (zero-add f))
    ∙ keep_append (is_free_of ps) (count_from 0 f) (f ∷ [])

columns-from : (ps : List Pivot) (n f : ℕ) → f < n
    → keep (is_free_of ps) (count_from 0 n) ≡ keep (is_free_of ps) (count_from 0 f) ++ keep (is_free_of ps) (f ∷ count_from (suc f) (n - suc f))
unfolding count_from
columns-from ps n f h =
    let size : n ≡ f + suc (n - suc f) = omega arith in
    ap (λ k. keep (is_free_of ps) (count_from 0 k)) size
    ∙ ap (keep (is_free_of ps)) (count_from-append 0 f (suc (n - suc f)) ∙ ap (λ k. count_from 0 f ++ count_from k (suc (n - suc f))) (zero-add f))
    ∙ keep_append (is_free_of ps) (count_from 0 f) (f ∷ count_from (suc f) (n - suc f))

keep-passed : {A : Type 0} (t : A → Bool) (x : A) (l : List A) → t x ≡ true → keep t (x ∷ l) ≡ x ∷ keep t l
unfolding keep
keep-passed t x l e = rw e

keep-failed : {A : Type 0} (t : A → Bool) (x : A) (l : List A) → t x ≡ false → keep t (x ∷ l) ≡ keep t l
unfolding keep
keep-failed t x l e = rw e

pub written_none : (n : ℕ) (ps : List Pivot) (store : List ℤ) → take list_need store ≡ zeros list_need → Written n ps 0 0 store
unfolding listed_below each keep count_from list_rows flatten
written_none n ps store z =
    record { list = []; below = refl; size = refl; few = omega arith; front = z ∙ sym (store-rows [] (omega arith)) }

module _ (n : ℕ) (ps : List Pivot) (f count : ℕ) (store : List ℤ) (w : Written n ps f count store) where
  judge : ℕ → Judged (List ℤ)
  judge c = limited (vector_at n ps c)

  pub written-past : is_free_of ps f ≡ false → Written n ps (f + 1) count store
  unfolding listed_below judge
  written-past e =
      record {
        list = w.list;
        below = ap (each judge) (columns-next ps f ∙ ap (λ l. keep (is_free_of ps) (count_from 0 f) ++ l) (keep-failed (is_free_of ps) f [] e)
            ∙ append-nil (keep (is_free_of ps) (count_from 0 f))) ∙ w.below;
        size = w.size;
        few = omega (arith, w.few);
        front = w.front;
      }

  judge-passed : every small (vector_at n ps f) ≡ true → judge f ≡ fine (vector_at n ps f)
  unfolding judge limited
  judge-passed e = rw e

  judge-failed : every small (vector_at n ps f) ≡ false → judge f ≡ passed 8
  unfolding judge limited
  judge-failed e = rw e

  -- With more columns.
  each-further : (l : List ℕ) → each judge (keep (is_free_of ps) (count_from 0 f) ++ l) ≡ and_on (each judge l) (λ zs. fine (w.list ++ zs))
  unfolding listed_below judge and_on
  each-further l =
      each_append judge (keep (is_free_of ps) (count_from 0 f)) l
      ∙ ap (λ o. and_on o (λ ys. and_on (each judge l) (λ zs. fine (ys ++ zs)))) w.below

  pub listing-refused : f < n → is_free_of ps f ≡ true → every small (vector_at n ps f) ≡ false → sequences n ps ≡ passed 8
  unfolding sequences free_columns judge each and_on
  listing-refused h e s =
      ap (each judge) (columns-from ps n f h ∙ ap (λ l. keep (is_free_of ps) (count_from 0 f) ++ l)
      (keep-passed (is_free_of ps) f (count_from (suc f) (n - suc f)) e))
      ∙ each-further (f ∷ keep (is_free_of ps) (count_from (suc f) (n - suc f)))
      ∙ rw (judge-failed s)

  module _ (few : n ≤ list_columns) (below : f < n) (long : list_need ≤ length store) where
    pub written-zeros : take n (drop (count * list_columns) store) ≡ zeros n
    written-zeros =
        let a = count * list_columns in
        let Z = list_need - a in
        let size : n + (Z - n) ≡ Z = omega (arith, w.few) in
        ap (λ i. take n (drop i store)) (sym (zero-add a)) ∙ sym (part-of-part 0 a n list_need store (omega (arith, w.few)))
        ∙ ap (λ s. take n (drop a s)) (w.front ∙ store-rows w.list (omega (arith, w.few, w.size))
        ∙ ap (λ k. list_rows w.list ++ zeros (list_need - k * list_columns)) (sym w.size))
        ∙ ap (take n) (drop_at (list_rows w.list) (zeros Z) a (length-rows w.list ∙ ap (λ k. k * list_columns) (sym w.size)))
        ∙ ap (λ i. take n (zeros i)) (sym size) ∙ ap (take n) (sym (zeros-join n (Z - n)))
        ∙ take_at (zeros n) (zeros (Z - n)) n (length-zeros n)

    pub written_next : is_free_of ps f ≡ true → every small (vector_at n ps f) ≡ true → length (vector_at n ps f) ≡ n
        → Written n ps (f + 1) (count + 1) (paste store (count * list_columns) (vector_at n ps f) n)
    unfolding listed_below judge each and_on keep
    written_next e s size =
        record {
          list = w.list ++ vector_at n ps f ∷ [];
          below = ap (each judge) (columns-next ps f ∙ ap (λ l. keep (is_free_of ps) (count_from 0 f) ++ l) (keep-passed (is_free_of ps) f [] e))
              ∙ each-further (f ∷ []) ∙ rw (judge-passed s);
          size = rw length-append (omega (arith, w.size));
          few = omega (arith, w.few);
          front = take-paste-within store (count * list_columns) (vector_at n ps f) n list_need (omega arith) (omega (arith, w.few)) long
              ∙ ap₂ (λ s k. paste s (k * list_columns) (vector_at n ps f) n) w.front w.size
              ∙ store-more n w.list (vector_at n ps f) (omega (arith, w.few, w.size)) few size;
        }

pub listing-reported : (n : ℕ) (ps : List Pivot) (f count : ℕ) (store store' : List ℤ) → Written n ps f count store' → n ≡ f
    → Kept list_need store store'
    → Reports (λ l. (count ≡ length l) × (store' ≡ overwrite (list_store_of l) store)) (sequences n ps) 0
unfolding Reports sequences free_columns listed_below overwrite
listing-reported n ps f count store store' w e k =
    subst (λ j. Reports (λ l. (count ≡ length l) × (store' ≡ overwrite (list_store_of l) store)) j 0)
    (sym (ap (listed_below n ps) e ∙ w.below)) (
      refl,
      (
        w.size,
        sym (take-append-drop list_need store') ∙ ap₂ ◌++◌ w.front
            (k.same_rest ∙ ap (λ i. drop i store) (sym (length-store w.list))),
      ),
    )

-- What is reported where one column more was refused.
pub listing-stopped : (P : List (List ℤ) → Type 0) (n : ℕ) (ps : List Pivot) (f refusal count : ℕ) (store : List ℤ) → refusal ≢ 0
    → Stepped n ps f refusal count store → Reports P (sequences n ps) refusal
unfolding Reports
listing-stopped P n ps f refusal count store e s =
    ⊎_elim (λ h. absurd (e h.0)) (λ h. subst (λ j. Reports P j refusal) (sym h.1) h.0) s

-- The same by the result of the column.
pub listing-passed : (n : ℕ) (ps : List Pivot) (f : ℕ) (result : Result ℕ Refusal) (r : Refusal) (store : List ℤ) → result ≡ Err r
    → Stepped n ps f (refusal_in result) (count_in result) store → sequences n ps ≡ passed (number_of r)
listing-passed n ps f result r store e s =
    let told : refusal_in result ≡ number_of r = ap refusal_in e in
    ⊎_elim (λ h. absurd (number-nonzero r (sym told ∙ h.0))) (λ h. h.1 ∙ ap passed (sym h.0 ∙ told)) s

-- What is known where it was not.
pub listing-goes-on : (n : ℕ) (ps : List Pivot) (f refusal count : ℕ) (store : List ℤ) → refusal ≡ 0 → Stepped n ps f refusal count store
    → Written n ps (f + 1) count store
listing-goes-on n ps f refusal count store e s = ⊎_elim (λ h. h.1) (λ h. absurd (omega (arith, h.0))) s

-- What is told at the end.
pub listing-told : (n : ℕ) (ps : List Pivot) (f count : ℕ) (store store' : List ℤ) → Written n ps f count store' → n ≡ f
    → Kept list_need store store'
    → Told (λ count l. (count ≡ length l) × (store' ≡ overwrite (list_store_of l) store)) (sequences n ps) (Ok count)
unfolding sequences free_columns listed_below overwrite
listing-told n ps f count store store' w e k =
    told-of (λ count l. (count ≡ length l) × (store' ≡ overwrite (list_store_of l) store)) (sequences n ps) count w.list
    (ap (listed_below n ps) e ∙ w.below) (
      w.size,
      sym (take-append-drop list_need store') ∙ ap₂ ◌++◌ w.front
          (k.same_rest ∙ ap (λ i. drop i store) (sym (length-store w.list))),
    )
