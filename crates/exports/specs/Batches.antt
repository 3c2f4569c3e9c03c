-- The exported batch: the length of the output is the number of a lent store.
--
-- Main definitions
--   export_batch input byte_store result_store   the call
--
-- Main statements
--   output-length                 the length of an output is at most that of the byte store
--   batch-missing, batch-worked   the call without a place for the length, and with one
--   batch-fits, batch-long        what the call does, by whether the output fits
use Prim.Native.Nat.{ℕ, ◌≤◌, ◌<◌, zero-le}
use Rattle.std.specs.Prelude.{◌≡◌, refl, Bool, List, [], ◌∷◌, T, leb, ℤ, pos, replicate}
use Rattle.std.proofs.Math.Path.{sym, ap, subst}
use Rattle.std.proofs.Common.{◌∙◌, le-leb, leb→le}
use Rattle.std.proofs.Math.Bool.{true, false, cond}
use Rattle.std.proofs.lemmas.Bool.{lt-leb}
use Rattle.std.proofs.Math.ListN.{length}
use Rattle.lists.specs.Overwritten.{overwrite}
use Rattle.rules.specs.Batch.{batch_output}
use Rattle.batches.specs.PieceCalls.{OutputCall, put_text_of, output_call}
use Rattle.exported_sheets.specs.Writes.{Written, not_written}

-- The refusal and the output of a call, with its length, 0 on a refusal, at the start of the result.
abbrev batched : OutputCall → List ℤ → Written
batched c result_store =
    record { refusal = c.refusal; byte_store = c.output; result_store = overwrite (pos c.length ∷ []) result_store }

-- A result store of no number is found before the work begins, and stores are unchanged.
unfoldable pub export_batch : List ℕ → List ℕ → List ℤ → Written
unfolding output_call overwrite not_written
export_batch input byte_store result_store =
    let worked = batched (output_call input byte_store) result_store in
    cond (leb 1 (length result_store)) worked (not_written 1 byte_store result_store)

-- ---- the output of a batch

module _ (input byte_store : List ℕ) where
  abbrev put : OutputCall
  put = record { refusal = 0; length = length (batch_output input); output = overwrite (batch_output input) byte_store }

  abbrev short : OutputCall
  short = record { refusal = 1; length = 0; output = replicate (length byte_store) 0 }

  pub output-length : {c : OutputCall} → c ≡ output_call input byte_store → c.length ≤ length byte_store
  unfolding output_call put_text_of
  output-length same =
      subst (λ c. c.length ≤ length byte_store) (sym same)
      (go (leb (length (batch_output input)) (length byte_store)) (leb→le (length (batch_output input)) (length byte_store)))
    where
      go : (t : Bool) → (T t → length (batch_output input) ≤ length byte_store) → (cond t put short).length ≤ length byte_store
      go true h = h tt
      go false h = zero-le

-- ---- the call

module _ (input byte_store : List ℕ) (result_store : List ℤ) where
  -- The call, by whether there is a place for the length.
  by_place : (t : Bool) → leb 1 (length result_store) ≡ t
      → cond t (batched (output_call input byte_store) result_store) (not_written 1 byte_store result_store)
      ≡ export_batch input byte_store result_store
  unfolding export_batch
  by_place t e = ap (λ t. cond t (batched (output_call input byte_store) result_store) (not_written 1 byte_store result_store)) (sym e)

  pub batch-missing : length result_store < 1 → not_written 1 byte_store result_store ≡ export_batch input byte_store result_store
  batch-missing h = by_place false (lt-leb 1 (length result_store) h)

  module _ (h : 1 ≤ length result_store) where
    pub batch-worked : {c : OutputCall} → c ≡ output_call input byte_store
        → record { refusal = c.refusal; byte_store = c.output; result_store = overwrite (pos c.length ∷ []) result_store }
        ≡ export_batch input byte_store result_store
    batch-worked same = ap (λ c. batched c result_store) same ∙ by_place true (le-leb 1 (length result_store) h)

    -- The only refusal is an output that does not fit.
    by-room : (t : Bool) → leb (length (batch_output input)) (length byte_store) ≡ t
        → export_batch input byte_store result_store ≡ batched (cond t (put input byte_store) (short input byte_store)) result_store
    unfolding output_call put_text_of
    by-room t e = sym (batch-worked refl) ∙ ap (λ t. batched (cond t (put input byte_store) (short input byte_store)) result_store) e

    pub batch-fits : length (batch_output input) ≤ length byte_store
        → export_batch input byte_store result_store
        ≡ record {
          refusal = 0;
          byte_store = overwrite (batch_output input) byte_store;
          result_store = overwrite (pos (length (batch_output input)) ∷ []) result_store;
        }
    batch-fits g = by-room true (le-leb (length (batch_output input)) (length byte_store) g)

    pub batch-long : length byte_store < length (batch_output input)
        → export_batch input byte_store result_store
        ≡ record { refusal = 1; byte_store = replicate (length byte_store) 0; result_store = overwrite (pos 0 ∷ []) result_store }
    batch-long g = by-room false (lt-leb (length (batch_output input)) (length byte_store) g)
