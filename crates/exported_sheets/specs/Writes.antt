-- The exported writer of sheets: the column order and the length of the sheet are numbers of lent stores.
--
-- Main definitions
--   order_of l                  the column order that a store holds
--   order_store_right m l        is it right? One that is too short is not judged
--   check_ordered ..            the checks of the call: sizes with count and order (2), lengths (1), numbers (5)
--   Written                    what a call did as a whole: the refusal that it returned, and the stores that it may write
--   export_write ..             the call
--
-- Main statements
--   write-unordered            the call with an order store that is too short
--   write-negative             the call with a negative number in the order
--   write-short, write_done    the call with a result store that is too short, and with one that is long enough
--   written-length             the length of a sheet is at most that of the byte store
use Rattle.std.specs.Prelude.{ℕ, zero, suc, ◌≤◌, ◌<◌, ◌≡◌, Bool, ◌&&◌, T, leb, ℤ, pos, nat_abs, length, take}
use Rattle.std.proofs.Common.{zero-le, sym, ◌∙◌, subst, leb→le}
use Rattle.std.proofs.Math.Path.{refl, ap, ap₂}
use Rattle.std.proofs.Math.Bool.{true, false, cond}
use mathlib.Core.List.{List, [], ◌∷◌, map}
use borrow.Author.Tests.{le-leb, lt-leb}
use Rattle.std.specs.Int.Signed.{non_neg}
use Rattle.rules.specs.Limits.{column_count}
use Rattle.lists.specs.Tests.{every}
use Rattle.rules.specs.Stores.{Sizes, sizes_right_of, count_right, lengths_right_of, numbers_right_of, check_stores_of, equations}
use Rattle.lists.specs.Overwritten.{overwrite}
use Rattle.rules.specs.Sheets.{write_sheet_of}
use Rattle.rules.specs.SheetCalls.{WriteCall, order_right_of, check_write_of, sheet_of, unwritten, written, after_write_check, write_call}
use Rattle.std.specs.Prelude.{Result}
use Rattle.std.proofs.Common.{Ok, Err}
use Rattle.refusals.specs.declared.Refusal.{Refusal}
use Rattle.refusals.specs.Refusals.{refusal_in}
use Rattle.writing.specs.WriterChecks.{call_of, check_write-order}
use Rattle.export_results.specs.Results.{on_acceptance, none-checked}

-- The refusal of a result is that of the answer.
pub write-same : (r : Result ℕ Refusal) (bytes : List ℕ) → (call_of r bytes).refusal ≡ refusal_in r
write-same (Ok n) bytes = refl
write-same (Err r) bytes = refl

-- ---- the order

-- The first four numbers; those behind them are not looked at (SCOPE 3.55).
unfoldable pub order_of : List ℤ → List ℕ
order_of orderStore = map nat_abs (take column_count orderStore)

unfoldable pub no_negative_of : List ℤ → Bool
unfolding every
no_negative_of orderStore = every non_neg (take column_count orderStore)

-- A wrong order is refused as a size (2), a negative number in it too; an order store that is too short is a store too
-- short (1) (SCOPE 3.55).
unfoldable pub order_store_right : ℕ → List ℤ → Bool
unfolding no_negative_of order_right_of order_of
order_store_right m orderStore =
    cond (leb column_count (length orderStore)) (no_negative_of orderStore && order_right_of m (order_of orderStore)) true

-- ---- the call

-- Sizes (2), lengths (1), numbers (5) in turn (SCOPE 3.31); order and result are two of the stores (SCOPE 3.53, 3.55).
unfoldable pub check_ordered : Sizes → ℕ → List ℤ → List ℤ → List ℤ → List ℤ → ℕ
unfolding sizes_right_of count_right order_store_right lengths_right_of numbers_right_of
check_ordered z count orderStore row_store relation_store result_store =
    let lengths : Bool =
    lengths_right_of (equations z) row_store relation_store && leb column_count (length orderStore) && leb 1 (length result_store) in
    cond (sizes_right_of z && count_right count && order_store_right z.m orderStore)
    (cond lengths (cond (numbers_right_of z count row_store relation_store) 0 5) 1) 2

pub record Written : Type 0 where
  pub refusal : ℕ
  pub byte_store : List ℕ
  pub result_store : List ℤ

-- A refusal found before the work begins leaves the stores as they were (SCOPE 6.32).
unfoldable pub not_written : ℕ → List ℕ → List ℤ → Written
not_written n byte_store result_store = record { refusal = n; byte_store = byte_store; result_store = result_store }

-- A byte store too short is found after all else (SCOPE 4.54): the length is written on acceptance only (SCOPE 3.54).
unfoldable pub wrote : WriteCall → List ℤ → Written
unfolding on_acceptance
wrote c result_store =
    record { refusal = c.refusal; byte_store = c.byte_store; result_store = on_acceptance c.refusal (pos c.length ∷ []) result_store }

unfoldable pub after_ordered_check : Sizes → ℕ → List ℤ → List ℤ → List ℤ → List ℕ → List ℤ → ℕ → Written
unfolding wrote write_call order_of not_written
after_ordered_check z count orderStore row_store relation_store byte_store result_store zero =
    wrote (write_call z count (order_of orderStore) row_store relation_store byte_store) result_store
after_ordered_check z count orderStore row_store relation_store byte_store result_store (suc n) = not_written (suc n) byte_store result_store

unfoldable pub export_write : Sizes → ℕ → List ℤ → List ℤ → List ℤ → List ℕ → List ℤ → Written
unfolding after_ordered_check check_ordered
export_write z count orderStore row_store relation_store byte_store result_store =
    after_ordered_check z count orderStore row_store relation_store byte_store result_store
    (check_ordered z count orderStore row_store relation_store result_store)

-- ---- the checks, where a store is too short or the order has a negative number

-- Sizes and count, the order, the lengths of the lent stores, of the order and of the result, and the numbers.
abbrev verdict : Bool → Bool → Bool → Bool → Bool → Bool → ℕ
verdict sizes order lengths four one numbers = cond (sizes && order) (cond (lengths && four && one) (cond numbers 0 5) 1) 2

unordered : (s l r n : Bool) → verdict s true l false r n ≡ cond s 1 2
unordered true true r n = refl
unordered true false r n = refl
unordered false l r n = refl

misordered : (s l b r n : Bool) → verdict s false l b r n ≡ 2
misordered true l b r n = refl
misordered false l b r n = refl

shortened : (s o l n : Bool) → verdict s o l true false n ≡ cond o (cond s 1 2) 2
shortened true true true n = refl
shortened true true false n = refl
shortened true false l n = refl
shortened false true l n = refl
shortened false false l n = refl

lengthened : (s o l n : Bool) → verdict s o l true true n ≡ cond (s && o) (cond l (cond n 0 5) 1) 2
lengthened s o true n = refl
lengthened s o false n = refl

early-order : (s : Bool) (z : Sizes) (count : ℕ) (orderStore row_store relation_store : List ℤ) (byte_store : List ℕ) (result_store : List ℤ)
    → not_written (cond s 1 2) byte_store result_store
    ≡ after_ordered_check z count orderStore row_store relation_store byte_store result_store (cond s 1 2)
unfolding after_ordered_check
early-order true z count orderStore row_store relation_store byte_store result_store = refl
early-order false z count orderStore row_store relation_store byte_store result_store = refl

early-result : (o s : Bool) (z : Sizes) (count : ℕ) (orderStore row_store relation_store : List ℤ) (byte_store : List ℕ) (result_store : List ℤ)
    → not_written (after_write_check z count (order_of orderStore) [] [] [] (cond o (cond s 1 2) 2)).refusal byte_store result_store
    ≡ after_ordered_check z count orderStore row_store relation_store byte_store result_store (cond o (cond s 1 2) 2)
unfolding after_ordered_check after_write_check unwritten
early-result true true z count orderStore row_store relation_store byte_store result_store = refl
early-result true false z count orderStore row_store relation_store byte_store result_store = refl
early-result false s z count orderStore row_store relation_store byte_store result_store = refl

module _ (z : Sizes) (count : ℕ) (orderStore row_store relation_store : List ℤ) (byte_store : List ℕ) (result_store : List ℤ) where
  abbrev sizes : Bool
  sizes = sizes_right_of z && count_right count

  abbrev lengths : Bool
  lengths = lengths_right_of (equations z) row_store relation_store

  abbrev numbers : Bool
  numbers = numbers_right_of z count row_store relation_store

  -- The checks, by what is known of the order and the lengths.
  checked : (o b r : Bool) → order_store_right z.m orderStore ≡ o → leb column_count (length orderStore) ≡ b
      → leb 1 (length result_store) ≡ r
      → check_ordered z count orderStore row_store relation_store result_store ≡ verdict sizes o lengths b r numbers
  unfolding check_ordered
  checked o b r e f g =
      ap (λ x. verdict sizes x lengths (leb column_count (length orderStore)) (leb 1 (length result_store)) numbers) e
      ∙ ap₂ (λ x y. verdict sizes o lengths x y numbers) f g

  after : ℕ → Written
  after = after_ordered_check z count orderStore row_store relation_store byte_store result_store

  pub write-unordered : length orderStore < column_count
      → not_written (check_stores_of z count [] []) byte_store result_store
      ≡ export_write z count orderStore row_store relation_store byte_store result_store
  unfolding export_write order_store_right after
  write-unordered h =
      let short = lt-leb column_count (length orderStore) h in
      ap (λ n. not_written n byte_store result_store) (none-checked z count)
      ∙ early-order sizes z count orderStore row_store relation_store byte_store result_store
      ∙ ap after
      (sym
      (checked true false _ (ap (λ b. cond b (no_negative_of orderStore && order_right_of z.m (order_of orderStore)) true) short) short refl
      ∙ unordered sizes lengths _ numbers))

  -- The order store is long enough.
  module _ (h : column_count ≤ length orderStore) where
    four : leb column_count (length orderStore) ≡ true
    four = le-leb column_count (length orderStore) h

    judged : (b : Bool) → no_negative_of orderStore ≡ b
        → order_store_right z.m orderStore ≡ (b && order_right_of z.m (order_of orderStore))
    unfolding order_store_right
    judged b e = ap₂ (λ x y. cond x (y && order_right_of z.m (order_of orderStore)) true) four e

    pub write-negative : no_negative_of orderStore ≡ false
        → not_written 2 byte_store result_store ≡ export_write z count orderStore row_store relation_store byte_store result_store
    unfolding export_write after_ordered_check after
    write-negative e = ap after (sym (checked false true _ (judged false e) four refl ∙ misordered sizes lengths true _ numbers))

    module _ (e : no_negative_of orderStore ≡ true) where
      pub write-short : length result_store < 1
          → not_written (write_call z count (order_of orderStore) [] [] []).refusal byte_store result_store
          ≡ export_write z count orderStore row_store relation_store byte_store result_store
      unfolding export_write write_call after
      write-short g =
          let right = order_right_of z.m (order_of orderStore) in
          ap (λ n. not_written (after_write_check z count (order_of orderStore) [] [] [] n).refusal byte_store result_store)
          (check_write-order z count (order_of orderStore) [] [] ∙ ap (λ n. cond right n 2) (none-checked z count))
          ∙ early-result right sizes z count orderStore row_store relation_store byte_store result_store
          ∙ ap after
          (sym (checked right true false (judged true e) four (lt-leb 1 (length result_store) g) ∙ shortened sizes right lengths numbers))

      write-long : 1 ≤ length result_store
          → wrote (write_call z count (order_of orderStore) row_store relation_store byte_store) result_store
          ≡ export_write z count orderStore row_store relation_store byte_store result_store
      unfolding export_write write_call check_write_of after_write_check wrote on_acceptance unwritten not_written after_ordered_check after
      write-long g = by-check (check_write_of z count (order_of orderStore) row_store relation_store) refl ∙ ap after (sym same)
        where
          same : check_ordered z count orderStore row_store relation_store result_store
              ≡ check_write_of z count (order_of orderStore) row_store relation_store
          same =
              checked _ true true (judged true e) four (le-leb 1 (length result_store) g)
              ∙ lengthened sizes (order_right_of z.m (order_of orderStore)) lengths numbers

          by-check : (n : ℕ) → check_write_of z count (order_of orderStore) row_store relation_store ≡ n
              → wrote (write_call z count (order_of orderStore) row_store relation_store byte_store) result_store
              ≡ after (check_write_of z count (order_of orderStore) row_store relation_store)
          by-check zero f = ap after (sym f)
          by-check (suc n) f =
              ap (λ k. wrote (after_write_check z count (order_of orderStore) row_store relation_store byte_store k) result_store) f
              ∙ ap after (sym f)

      -- The call, from the sheet that was written and the result store that was left.
      pub write_done : {x : WriteCall} {left : List ℤ} → x ≡ write_call z count (order_of orderStore) row_store relation_store byte_store
          → left ≡ on_acceptance x.refusal (pos x.length ∷ []) result_store → 1 ≤ length result_store
          → record { refusal = x.refusal; byte_store = x.byte_store; result_store = left }
          ≡ export_write z count orderStore row_store relation_store byte_store result_store
      unfolding wrote
      write_done {x} same f g =
          (λ i. record { refusal = x.refusal; byte_store = x.byte_store; result_store = f i }) ∙ ap (λ y. wrote y result_store) same
          ∙ write-long g

-- ---- the length of a sheet

pub written-length : (z : Sizes) (count : ℕ) (order : List ℕ) (row_store relation_store : List ℤ) (byte_store : List ℕ) {x : WriteCall}
    → x ≡ write_call z count order row_store relation_store byte_store → x.length ≤ length byte_store
unfolding write_call after_write_check written unwritten
written-length z count order row_store relation_store byte_store same =
    subst (λ c. c.length ≤ length byte_store) (sym same) (by-check (check_write_of z count order row_store relation_store))
  where
    fitting : (bytes : List ℕ) (b : Bool) → (T b → length bytes ≤ length byte_store)
        → (cond b (record { refusal = 0; length = length bytes; byte_store = overwrite bytes byte_store }) (unwritten 1 byte_store)).length
        ≤ length byte_store
    fitting bytes true h = h tt
    fitting bytes false h = zero-le

    by-check : (n : ℕ) → (after_write_check z count order row_store relation_store byte_store n).length ≤ length byte_store
    by-check zero =
        let bytes = write_sheet_of (sheet_of z count order row_store relation_store) in
        fitting bytes (leb (length bytes) (length byte_store)) (leb→le (length bytes) (length byte_store))
    by-check (suc n) = zero-le
