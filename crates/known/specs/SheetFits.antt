-- A sheet that was written.
--
-- Main statements
--   write-fits      the bytes that were written lie in the lent store
use Prim.Native.Nat.{ℕ, zero, suc, ◌≤◌, zero-le}
use Rattle.std.specs.Prelude.{Bool, true, false, cond, List, T, leb, length, ℤ}
use Rattle.std.proofs.Common.{leb→le}
use Rattle.rules.specs.Stores.{Sizes}
use Rattle.lists.specs.Overwritten.{overwrite}
use Rattle.rules.specs.Sheets.{write_sheet_of}
use Rattle.rules.specs.SheetCalls.{WriteCall, check_write_of, sheet_of, written, unwritten, after_write_check, write_call}

written-fits : (sheet bytes : List ℕ) → (written sheet bytes).length ≤ length bytes
unfolding written unwritten
written-fits sheet bytes = go (leb (length sheet) (length bytes)) (leb→le _ _)
  where
    whole : WriteCall
    whole = record { refusal = 0; length = length sheet; byte_store = overwrite sheet bytes }

    go : (t : Bool) → (T t → length sheet ≤ length bytes) → (cond t whole (unwritten 1 bytes)).length ≤ length bytes
    go true h = h tt
    go false h = zero-le

module _ (z : Sizes) (count : ℕ) (order : List ℕ) (rows relations : List ℤ) (bytes : List ℕ) where
  checked-fits : (n : ℕ) → (after_write_check z count order rows relations bytes n).length ≤ length bytes
  unfolding after_write_check unwritten
  checked-fits zero = written-fits (write_sheet_of (sheet_of z count order rows relations)) bytes
  checked-fits (suc n) = zero-le

  pub write-fits : (write_call z count order rows relations bytes).length ≤ length bytes
  unfolding write_call
  write-fits = checked-fits (check_write_of z count order rows relations)
