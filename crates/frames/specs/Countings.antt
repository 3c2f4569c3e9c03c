-- The output of a batch step by step, for any way to count its answers, and the sums of the count by client (SCOPE 5.15).
--
-- Main definitions
--   Ends output in_all_of     two outputs of one batch: one ends with the tally by client, the other with the sums over the clients
--
-- Main statements
--   output-fault, output-got                     the output by the line with the sheet count
--   answers-none, answers-fault, answers-got     the answers by the line of a sheet
--   closing-over                                 bytes left over
--   tally-sums            so do the output of every batch and the one that counts in all
use Rattle.std.specs.Prelude.{ℕ, zero, suc, ◌≡◌, ◌≢◌, Bool, true, false, cond, leb, ℤ, nat_abs, length, take, drop}
use Rattle.std.proofs.Math.Path.{refl, ap}
use Rattle.std.proofs.Common.{sym, ◌∙◌, subst}
use mathlib.Core.List.{List, [], ◌∷◌, ◌++◌, append_assoc}
use Rattle.rules.specs.Numbers.{lines, Read, got, fault}
use Rattle.rules.specs.Batch.{SheetLine as ReadLine, answer_sheet, answer_bytes, broken, Counting, closing_by, read_sheet_line, answers_by}
use Rattle.rules.specs.Batch.{answers_after, output_by, Tally, tally_lines, by_client, batch_output}
use Rattle.rules.specs.Tallies.{Total, total_line, in_all_of, output_in_all, Sums, sums_none, sums-count}
use Rattle.frames.specs.Pieces.{read_count}
use Rattle.frames.specs.PieceSizes.{client-read}

-- ---- step by step

module _ {C : Type 0} (how : Counting C) where
  pub output-fault : (input : List ℕ) (n : ℕ) → read_count input ≡ fault n → output_by how input ≡ broken
  unfolding output_by answers_after read_count
  output-fault input n e = ap (answers_after how) e

  pub output-got : (input : List ℕ) (k : ℤ) (rest : List ℕ) → read_count input ≡ got k rest
      → output_by how input ≡ answers_by how (nat_abs k) how.none rest
  unfolding output_by answers_after read_count
  output-got input k rest e = ap (answers_after how) e

  pub answers-none : (y : C) (bytes : List ℕ) → answers_by how 0 y bytes ≡ closing_by how y bytes
  unfolding answers_by
  answers-none y bytes = refl

  pub answers-fault : (k : ℕ) (y : C) (bytes : List ℕ) (n : ℕ) → read_sheet_line bytes ≡ fault n
      → answers_by how (suc k) y bytes ≡ broken
  unfolding answers_by
  answers-fault k y bytes n e = rw e

  -- A sheet of a client, of so many bytes, and the sheets after it.
  abbrev pub after_line : ℕ → C → ℕ → ℕ → List ℕ → List ℕ
  after_line k y client size rest =
      let a = answer_sheet (take size rest) in
      answer_bytes a ++ answers_by how k (how.count client a y) (drop size rest)

  pub answers-got : (k : ℕ) (y : C) (bytes : List ℕ) (v : ReadLine) (rest : List ℕ) → read_sheet_line bytes ≡ got v rest
      → answers_by how (suc k) y bytes
      ≡ cond (leb v.bytes (length rest)) (after_line k y v.client v.bytes rest) broken
  unfolding answers_by
  answers-got k y bytes v rest e = rw e

  pub closing-over : (y : C) (bytes : List ℕ) → length bytes ≢ 0 → closing_by how y bytes ≡ broken
  unfolding closing_by
  closing-over y [] h = absurd (h refl)
  closing-over y (c ∷ bytes) h = refl

-- ---- the sums

-- The same text, and then both are broken, or one has the lines of eight clients and the other one line with their sums.
pub data Ends : List ℕ → List ℕ → Type 0 where
  both-broken : {output summed : List ℕ} (text : List ℕ) → output ≡ text ++ broken → summed ≡ text ++ broken
      → Ends output summed
  both-closed : {output summed : List ℕ} (text : List ℕ) (y : Tally) (z : Total) → Sums y z
      → output ≡ text ++ lines (tally_lines y) → summed ≡ text ++ lines (total_line z ∷ []) → Ends output summed

-- With a text before both.
ends-after : (before : List ℕ) {output summed : List ℕ} → Ends output summed → Ends (before ++ output) (before ++ summed)
ends-after before (both-broken text e d) =
    both-broken (before ++ text) (ap (λ l. before ++ l) e ∙ sym (append_assoc before text _))
    (ap (λ l. before ++ l) d ∙ sym (append_assoc before text _))
ends-after before (both-closed text y z s e d) =
    both-closed (before ++ text) y z s (ap (λ l. before ++ l) e ∙ sym (append_assoc before text _))
    (ap (λ l. before ++ l) d ∙ sym (append_assoc before text _))

ends_same : {output output' summed summed' : List ℕ} → output ≡ output' → summed ≡ summed' → Ends output' summed' → Ends output summed
ends_same {output} {output'} {summed} {summed'} e d ends =
    subst (λ l. Ends l summed) (sym e) (subst (Ends output') (sym d) ends)

closing-ends : (y : Tally) (z : Total) → Sums y z → (bytes : List ℕ) → Ends (closing_by by_client y bytes) (closing_by in_all_of z bytes)
unfolding closing_by
closing-ends y z s [] = both-closed [] y z s refl refl
closing-ends y z s (b ∷ bytes) = both-broken [] refl refl

answers-ends : (k : ℕ) (y : Tally) (z : Total) → Sums y z → (bytes : List ℕ)
    → Ends (answers_by by_client k y bytes) (answers_by in_all_of k z bytes)
answers-ends zero y z s bytes = ends_same (answers-none by_client y bytes) (answers-none in_all_of z bytes) (closing-ends y z s bytes)
answers-ends (suc k) y z s bytes = go (read_sheet_line bytes) refl (answers-ends k)
  where
    later : (k : ℕ) → Type 0
    later k =
        (y : Tally) (z : Total) → Sums y z → (bytes : List ℕ) → Ends (answers_by by_client k y bytes) (answers_by in_all_of k z bytes)

    go : (r : Read ReadLine) → read_sheet_line bytes ≡ r → later k
        → Ends (answers_by by_client (suc k) y bytes) (answers_by in_all_of (suc k) z bytes)
    go (fault n) e more =
        both-broken [] (answers-fault by_client k y bytes n e) (answers-fault in_all_of k z bytes n e)
    go (got v rest) e more =
        ends_same (answers-got by_client k y bytes v rest e) (answers-got in_all_of k z bytes v rest e) (by (leb v.bytes (length rest)))
      where
        by : (t : Bool)
            → Ends (cond t (after_line by_client k y v.client v.bytes rest) broken)
            (cond t (after_line in_all_of k z v.client v.bytes rest) broken)
        by true =
            let (low, high) = client-read bytes v rest e in
            let a = answer_sheet (take v.bytes rest) in
            ends-after (answer_bytes a) (more _ _ (sums-count v.client low high a s) (drop v.bytes rest))
        by false = both-broken [] refl refl

-- The output of a batch, and what it would be with one line at its end.
pub tally-sums : (input : List ℕ) → Ends (batch_output input) (output_in_all input)
unfolding batch_output output_in_all
tally-sums input = go (read_count input) refl
  where
    go : (r : Read ℤ) → read_count input ≡ r → Ends (output_by by_client input) (output_by in_all_of input)
    go (fault n) e = both-broken [] (output-fault by_client input n e) (output-fault in_all_of input n e)
    go (got k rest) e =
        ends_same (output-got by_client input k rest e) (output-got in_all_of input k rest e)
        (answers-ends (nat_abs k) by_client.none in_all_of.none sums_none rest)
