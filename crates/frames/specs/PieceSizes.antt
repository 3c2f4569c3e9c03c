-- How large the pieces of a batch are.
--
-- Main statements
--   client-read, line-client   a client is from 1 to 8
--   line_small       a sheet has at most 32,768 bytes
--   begun-counted    a batch begins with at most 1,000 sheets, and none where its first line is broken
--   answer-fits      the sheet that answers lies in the lent store
--   text-fits        a text has at most 192 bytes
use Rattle.std.specs.Prelude.{ℕ, zero, ◌+◌, ◌≤◌, ◌≡◌, refl, Bool, true, false, cond, List, T, leb, ℤ, nat_abs, length, drop, replicate}
use Rattle.std.proofs.Common.{zero-le, arith, sym, ◌∙◌, ap, subst, leb→le, length-append, length-drop}
use Rattle.std.proofs.lemmas.List.{length-replicate}
use Rattle.lists.specs.Overwritten.{overwrite}
use Rattle.lists.specs.Totals.{total}
use Rattle.rules.specs.Numbers.{space, newline, Read, got, fault}
use Rattle.rules.specs.Batch.{SheetLine as ReadLine, Answer, accepted, refused_with, answer_sheet, read_after_client, read_size}
use Rattle.rules.specs.Batch.{read_sheet_line, client_count}
use Rattle.frames.specs.declared.Text.{Text}
use Rattle.tokens.specs.Windows.{count_of, client_of, sheet_line-is}
use Rattle.frames.specs.Pieces.{read_count, begun_by, begun_of, line_by, line_of, line-got, text_room, text_of, Counted}
use Rattle.answers.specs.Answers.{AnswerCall, unanswered, answered, answer_call}
use Rattle.frames.specs.Lines.{in-range}

-- A client has a number from 1 to 8 (SCOPE 5.2).
pub client-read : (bytes : List ℕ) (v : ReadLine) (rest : List ℕ) → read_sheet_line bytes ≡ got v rest
    → (1 ≤ v.client) × (v.client ≤ client_count)
unfolding read_after_client read_size
client-read bytes v rest e = client (client_of bytes) refl (sym (sheet_line-is bytes) ∙ e)
  where
    size : (k : ℤ) → (1 ≤ nat_abs k) × (nat_abs k ≤ client_count) → (r : Read ℤ) → read_size k r ≡ got v rest
        → (1 ≤ v.client) × (v.client ≤ client_count)
    size k h (got n more) e =
        let same : record { client = nat_abs k; bytes = nat_abs n } ≡ v = cc in
        subst (λ v. (1 ≤ v.client) × (v.client ≤ client_count)) same h
    size k h (fault n) e = absurd (let z : ◌≡◌ {A = ℕ} 0 1 = cc in omega arith)

    client : (r : Read ℤ) → client_of bytes ≡ r → read_after_client r ≡ got v rest → (1 ≤ v.client) × (v.client ≤ client_count)
    client (got k more) d e = let h = in-range 1 8 space bytes k more d in size k (h.1, h.2) (count_of more) e
    client (fault n) d e = absurd (let z : ◌≡◌ {A = ℕ} 0 1 = cc in omega arith)

pub line-client : (bytes : List ℕ) → (line_of bytes).refusal ≡ 0
    → (1 ≤ (line_of bytes).client) × ((line_of bytes).client ≤ client_count)
line-client bytes z =
    let (v, rest, e, d, same, size) = line-got bytes z in
    subst (λ n. (1 ≤ n) × (n ≤ client_count)) (sym same) (client-read bytes v rest e)

-- A sheet has at most 32,768 bytes (SCOPE 5.2).
pub line_small : (bytes : List ℕ) → (line_of bytes).bytes ≤ 32768
unfolding line_of line_by read_after_client read_size
line_small bytes = rw (sheet_line-is bytes) (client (client_of bytes))
  where
    size : (k : ℤ) (more : List ℕ) (r : Read ℤ) → count_of more ≡ r → (line_by bytes (read_size k r)).bytes ≤ 32768
    size k more (got n rest) e = (in-range 0 32768 newline more n rest e).2
    size k more (fault n) e = zero-le

    client : (r : Read ℤ) → (line_by bytes (read_after_client r)).bytes ≤ 32768
    client (got k more) = size k more (count_of more) refl
    client (fault n) = zero-le

-- A batch has at most 1,000 sheets (SCOPE 5.1).
pub begun-counted : (bytes : List ℕ) → Counted (begun_of bytes).batch
unfolding begun_of begun_by read_count total
begun-counted bytes = go (read_count bytes) refl
  where
    go : (r : Read ℤ) → read_count bytes ≡ r → Counted (begun_by bytes r).batch
    go (got k rest) e = let few = (in-range 0 1000 newline bytes k rest e).2 in let h : nat_abs k + 0 + 0 ≤ 1000 = omega arith in h
    go (fault n) e = zero-le

pub answer-fits : (bytes store : List ℕ) → (answer_call bytes store).length ≤ length store
unfolding answer_call answered unanswered
answer-fits bytes store = go (answer_sheet bytes)
  where
    go : (a : Answer) → (answered a store).length ≤ length store
    go (accepted sheet) = by (leb (length sheet) (length store)) (leb→le (length sheet) (length store))
      where
        whole : AnswerCall
        whole = record { refusal = 0; length = length sheet; store = overwrite sheet store }

        by : (t : Bool) → (T t → length sheet ≤ length store) → (cond t whole (unanswered 1 store)).length ≤ length store
        by true h = h tt
        by false h = zero-le
    go (refused_with n) = zero-le

-- The array of a text has 192 bytes, so its lines have no more.
pub text-fits : (t : Text) (l : List ℕ) → t ≡ text_of l → length t.bytes ≡ text_room → t.length ≤ text_room
unfolding text_of overwrite
text-fits t l e size =
    omega (
      arith,
      ap (λ r. r.length) e,
      ap (λ r. length r.bytes) e,
      length-append l (drop (length l) zeros),
      length-drop
          (length l) zeros,
      length-replicate text_room zero,
    )
  where
    zeros : List ℕ
    zeros = replicate text_room 0
