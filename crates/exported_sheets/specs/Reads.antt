-- The exported reader of sheets: what a sheet says besides its rows and relations is numbers of a lent store.
--
-- Main definitions
--   read_numbers_of r          the nine numbers of a result
--   read_after c ..         the call, by what reading the sheet did
--   read_with call ..       an exported call, by the call that reads
--   export_read ..          the call
--   SmallRead r            the counts and columns of a result are small
--
-- Main statements
--   short-whole, short-fault   what a call with a result store that is too short refuses
--   with-short, with-done, read_short, read_done   a call with a result store that is too short, and with one that is long enough
--   read-zeros, read_small     a refusal is small, and so is the result of every call
use Rattle.std.specs.Prelude.{ℕ, ◌*◌, ◌≤◌, ◌<◌, ◌≡◌, refl, Bool, true, false, cond, T, leb, ℤ, pos, length}
use Rattle.std.proofs.Common.{zero-le, le_trans, ◌∙◌, subst, le-leb}
use Rattle.std.proofs.Math.Path.{sym, ap}
use Rattle.std.proofs.Math.Bool.{and-false}
use mathlib.Core.List.{List, [], ◌∷◌, ◌++◌, map}
use Rattle.std.proofs.lemmas.Bool.{lt-leb}
use Rattle.rules.specs.Limits.{column_count, most_equations, row_length}
use Rattle.lists.specs.Everywhere.{All, all-mono}
use Rattle.rules.specs.Stores.{lengths_right_of, row_need, equations}
use Rattle.rules.specs.Layout.{SizeBounds, size-bounds, count_right-iff}
use Rattle.lists.specs.Padded.{length-pad_to, all-pad_to}
use Rattle.rules.specs.Numbers.{Read, got, fault}
use Rattle.rules.specs.Sheets.{Sheet, read_sheet_of}
use Rattle.rules.specs.SheetCalls.{ReadResult, ReadCall, different_columns_of, read_refusal, unread, filled, after_read, read_call}
use Rattle.std.specs.Prelude.{Result}
use Rattle.std.proofs.Common.{Ok, Err}
use Rattle.refusals.specs.declared.Refusal.{Refusal}
use Rattle.refusals.specs.Refusals.{refusal_in}
use Rattle.reading.specs.declared.sheet.Sheet.{Sheet as SheetGiven}
use Rattle.reading.specs.WholeSheet.{result_of}
use Rattle.sheets.specs.WrittenOrder.{OrderRight, different-cons}
use Rattle.sheets.specs.ReadBack.{SheetRight, read_right}
use Rattle.export_results.specs.Results.{Exported, kept, read_need, on_acceptance}

-- m, l, t, the number of relations, c(1) to c(4), the number of equations (SCOPE 3.52).
unfoldable pub read_numbers_of : ReadResult → List ℤ
read_numbers_of r =
    pos r.sizes.m ∷ r.sizes.l ∷ r.sizes.t ∷ pos r.relations ∷ (map pos r.order ++ (pos r.sizes.equations ∷ []))

-- The refusal of a result is that of the answer.
pub read-same : (r : Result SheetGiven Refusal) → (result_of r).refusal ≡ refusal_in r
unfolding result_of read_refusal
read-same (Ok r) = refl
read-same (Err r) = refl

-- The result store is written on acceptance only: reading refuses 1 to 5 alone (SCOPE 3.54).
unfoldable pub read_after : ReadCall → List ℤ → Exported
unfolding on_acceptance read_numbers_of
read_after c result_store =
    record {
      refusal = c.result.refusal;
      row_store = c.row_store;
      relation_store = c.relation_store;
      result_store = on_acceptance
          c.result.refusal (read_numbers_of c.result) result_store;
    }

-- The result store is found too short last of all, with the other stores (SCOPE 3.53, 4.42): the sheet is then judged
-- as with stores that hold nothing, and nothing is written. `call` says what a call that reads does to two stores.
unfoldable pub read_with : (List ℤ → List ℤ → ReadCall) → List ℤ → List ℤ → List ℤ → Exported
unfolding read_after kept
read_with call row_store relation_store result_store =
    let whole = read_after (call row_store relation_store) result_store in
    cond (leb read_need (length result_store)) whole (kept (call [] []).result.refusal row_store relation_store result_store)

unfoldable pub export_read : List ℕ → List ℤ → List ℤ → List ℤ → Exported
unfolding read_with read_call
export_read bytes row_store relation_store result_store = read_with (read_call bytes) row_store relation_store result_store

chosen : {A : Type 0} (x y : A) {b c : Bool} → b ≡ c → cond c x y ≡ cond b x y
chosen x y e = ap (λ k. cond k x y) (sym e)

module _ (call : List ℤ → List ℤ → ReadCall) (row_store relation_store result_store : List ℤ) where
  pub with-short : length result_store < read_need
      → kept (call [] []).result.refusal row_store relation_store result_store ≡ read_with call row_store relation_store result_store
  unfolding read_with
  with-short h = chosen _ _ (lt-leb read_need (length result_store) h)

  -- The call, from what was read and the result store that was left.
  pub with-done : {x : ReadCall} {left : List ℤ} → x ≡ call row_store relation_store
      → left ≡ on_acceptance x.result.refusal (read_numbers_of x.result) result_store → read_need ≤ length result_store
      → record { refusal = x.result.refusal; row_store = x.row_store; relation_store = x.relation_store; result_store = left }
      ≡ read_with call row_store relation_store result_store
  unfolding read_with read_after
  with-done {x} same f h =
      (λ i. record { refusal = x.result.refusal; row_store = x.row_store; relation_store = x.relation_store; result_store = f i })
      ∙ ap (λ y. read_after y result_store) same ∙ chosen _ _ (le-leb read_need (length result_store) h)

module _ (bytes : List ℕ) (row_store relation_store result_store : List ℤ) where
  pub read_short : length result_store < read_need
      → kept (read_call bytes [] []).result.refusal row_store relation_store result_store
      ≡ export_read bytes row_store relation_store result_store
  unfolding export_read
  read_short h = with-short (read_call bytes) row_store relation_store result_store h

  pub read_done : {x : ReadCall} {left : List ℤ} → x ≡ read_call bytes row_store relation_store
      → left ≡ on_acceptance x.result.refusal (read_numbers_of x.result) result_store → read_need ≤ length result_store
      → record { refusal = x.result.refusal; row_store = x.row_store; relation_store = x.relation_store; result_store = left }
      ≡ export_read bytes row_store relation_store result_store
  unfolding export_read
  read_done same f h = with-done (read_call bytes) row_store relation_store result_store same f h

  -- A whole sheet is refused 1, and any other as it is with stores that are long enough.
  pub short-whole : (x : Sheet) (rest : List ℕ) → read_sheet_of bytes ≡ got x rest → length result_store < read_need
      → export_read bytes row_store relation_store result_store ≡ kept 1 row_store relation_store result_store
  unfolding read_call after_read lengths_right_of row_need unread read_refusal
  short-whole x rest e h =
      sym (read_short h)
      ∙ ap (λ r. kept (after_read r [] []).result.refusal row_store relation_store result_store) e
      ∙ ap (λ b. kept (cond b (filled x [] []) (unread 1 [] [])).result.refusal row_store relation_store result_store)
      (and-false (leb (equations x.sizes * row_length) 0))

  pub short-fault : (n : ℕ) → read_sheet_of bytes ≡ fault n → length result_store < read_need
      → export_read bytes row_store relation_store result_store ≡ kept n row_store relation_store result_store
  unfolding read_call after_read unread read_refusal
  short-fault n e h =
      sym (read_short h) ∙ ap (λ r. kept (after_read r [] []).result.refusal row_store relation_store result_store) e

-- ---- the result is small

pub record SmallRead (r : ReadResult) : Type 0 where
  pub few-unknowns : r.sizes.m ≤ column_count
  pub few-equations : r.sizes.equations ≤ most_equations
  pub few-relations : r.relations ≤ 16
  pub four : length r.order ≡ column_count
  pub columns : All (λ c. c ≤ column_count) r.order

pub read-zeros : (n : ℕ) → SmallRead (read_refusal n)
unfolding read_refusal All
read-zeros n =
    record {
      few-unknowns = zero-le;
      few-equations = zero-le;
      few-relations = zero-le;
      four = refl;
      columns = (zero-le, (zero-le, (zero-le, (zero-le, tt))));
    }

different-columns : (m : ℕ) (l : List ℕ) → T (different_columns_of m l) → All (λ c. c ≤ m) l
unfolding All
different-columns m [] h = tt
different-columns m (c ∷ l) h = let e = (different-cons m c l).0 h in (e.1, different-columns m l e.3)

order-columns : (m : ℕ) (order : List ℕ) → OrderRight m order → All (λ c. c ≤ m) order
unfolding OrderRight
order-columns m order h = different-columns m order h

filled-small : (bytes : List ℕ) (x : Sheet) (rest : List ℕ) (row_store relation_store : List ℤ) → read_sheet_of bytes ≡ got x rest
    → SmallRead (filled x row_store relation_store).result
unfolding filled equations
filled-small bytes x rest row_store relation_store e =
    record {
      few-unknowns = bounds.few;
      few-equations = bounds.few-equations;
      few-relations = (count_right-iff (length x.relations)).0 right.valid.relation-count;
      four = length-pad_to column_count 0 x.order;
      columns = all-pad_to (λ c. c ≤ column_count) column_count 0 x.order zero-le
          (all-mono (λ c. c ≤ x.sizes.m) (λ c. c ≤ column_count) (λ c h. le_trans h bounds.few) x.order
          (order-columns x.sizes.m x.order right.order-right));
    }
  where
    right : SheetRight x
    right = (read_right bytes x rest e).0

    bounds : SizeBounds x.sizes
    bounds = size-bounds x.sizes right.valid.sizes

pub read_small : (bytes : List ℕ) (row_store relation_store : List ℤ) {x : ReadCall} → x ≡ read_call bytes row_store relation_store
    → SmallRead x.result
unfolding read_call after_read unread
read_small bytes row_store relation_store same = subst (λ c. SmallRead c.result) (sym same) (by-sheet (read_sheet_of bytes) refl)
  where
    by_lengths : (x : Sheet) (rest : List ℕ) (b : Bool) → read_sheet_of bytes ≡ got x rest
        → SmallRead (cond b (filled x row_store relation_store) (unread 1 row_store relation_store)).result
    by_lengths x rest true e = filled-small bytes x rest row_store relation_store e
    by_lengths x rest false e = read-zeros 1

    by-sheet : (r : Read Sheet) → read_sheet_of bytes ≡ r → SmallRead (after_read r row_store relation_store).result
    by-sheet (got x rest) e = by_lengths x rest (lengths_right_of (equations x.sizes) row_store relation_store) e
    by-sheet (fault n) e = read-zeros n
