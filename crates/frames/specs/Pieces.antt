-- What each function of a batch gives.
--
-- Main definitions
--   begun_of, line_of            a batch's first line, and the line of a sheet, read from the bytes given
--   raised_of, counted_of        one more for a client, and the batch after one more answer
--   accepted_in, refused_in      the answers so far, of all clients
--   refusal_line_of, close_text     a refusal's number alone on a line, and the last lines of a batch
--   text_of l, shown t          lines at the start of 192 bytes, and the lines of such a text
--   Counted b                  a batch of at most 1,000 sheets
--
-- Main statements
--   shown-text                 the lines of a text are those that were put there
--   begun-got, line-got        a refusal of 0 tells that a line was read: its numbers, and the bytes after it
--   begun-fault, line-fault    another refusal is the fault of the line
--   raised_is, counted_is, closed_is   the tests of `raised_of`, `counted_of` and `close_text` passed
--   counted-left, counted-tally, counted-few   a batch of at most 1,000 sheets, counted as `rules` counts
--   close-closing, close-broken                its last lines, as `rules` closes
--   refusal-broken, refusal-refused, refusal-accepted   the lines of `rules`
use Prim.Native.Nat.{ℕ, zero, suc, pred, ◌+◌, ◌-◌, ◌≤◌, ◌<◌, zero-le}
use Rattle.std.proofs.Common.{suc-ne-zero, sym, ◌∙◌, le-leb, lt-ltb, eq-eqb, ne_eqb, take_at}
use native.Mathlib.Omega.{arith}
use Rattle.std.specs.Prelude.{◌≡◌, ◌≢◌, Bool, cond, ◌&&◌, leb, ltb, eqb, length, take, drop, replicate, get_or, ℤ, pos, nat_abs}
use Rattle.std.proofs.Math.Path.{refl, ap, subst}
use Rattle.std.proofs.Math.Bool.{true, false}
use mathlib.Core.List.{List, [], ◌∷◌, ◌++◌}
use Rattle.lists.specs.Overwritten.{overwrite}
use Rattle.lists.specs.Totals.{total, total_at_most, get_or-total}
use Rattle.rules.specs.Numbers.{newline, lines, Read, got, fault, field, between}
use Rattle.rules.specs.Sheets.{always}
use Rattle.rules.specs.Batch.{SheetLine as ReadLine, Answer as SheetAnswer, Tally, accepted, refused_with, no_tally, client_count}
use Rattle.rules.specs.Batch.{one_more_of, count_answer, broken, closing_by, closing, tally_lines, answer_bytes}
use Rattle.rules.specs.Batch.{read_size, read_after_client, read_sheet_line}
use Rattle.answers.specs.Faults.{Numbered, read, numbered as numbered-fault, field-numbered, between-judging}
use Rattle.lists.specs.Tests.{first-failed, both-passed}
use Rattle.refusals.specs.declared.Refusal.{Refusal}
use Rattle.refusals.specs.Refusals.{number_of as refusal_number}
use Rattle.std.proofs.Common.{Result, Ok, Err}
use Rattle.frames.specs.declared.Batch.{Batch}
use Rattle.frames.specs.declared.Begun.{Begun}
use Rattle.frames.specs.declared.SheetLine.{SheetLine}
use Rattle.frames.specs.declared.Text.{Text}
use Rattle.tokens.specs.Windows.{number_line, Taken, taken-drop, field-taken, sheet_line-taken}
use Rattle.tokens.specs.Windows.{count_of, client_of, sheet_line-is}

-- ---- lines that are read

-- The line with the number of sheets, 0 to 1,000 (SCOPE 5.1).
unfoldable pub read_count : List ℕ → Read ℤ
unfolding field between always
read_count bytes = field (between (pos 0) (pos 1000)) (always newline) bytes

-- The sheets still to come, and the answers so far.
abbrev pub batch_with : ℕ → Tally → Batch
batch_with left y = record { left = left; accepted = y.accepted; refused = y.refused }

-- The fault of a line is told by its number: 4 where more bytes could make the line whole (SCOPE 5.23).
unfoldable pub begun_by : List ℕ → Read ℤ → Begun
begun_by bytes (got k rest) =
    record { refusal = 0; taken = length bytes - length rest; batch = batch_with (nat_abs k) no_tally }
begun_by bytes (fault n) = record { refusal = n; taken = 0; batch = batch_with 0 no_tally }

unfoldable pub begun_of : List ℕ → Begun
unfolding begun_by read_count
begun_of bytes = begun_by bytes (read_count bytes)

-- The same of a line, or of why there is none.
abbrev pub begun_in : Result Begun Refusal → Begun
begun_in (Ok b) = b
begun_in (Err r) = record { refusal = refusal_number r; taken = 0; batch = batch_with 0 no_tally }

unfoldable pub line_by : List ℕ → Read ReadLine → SheetLine
line_by bytes (got v rest) = record { refusal = 0; taken = length bytes - length rest; client = v.client; bytes = v.bytes }
line_by bytes (fault n) = record { refusal = n; taken = 0; client = 0; bytes = 0 }

unfoldable pub line_of : List ℕ → SheetLine
unfolding line_by read_sheet_line
line_of bytes = line_by bytes (read_sheet_line bytes)

abbrev pub line_in : Result SheetLine Refusal → SheetLine
line_in (Ok l) = l
line_in (Err r) = record { refusal = refusal_number r; taken = 0; client = 0; bytes = 0 }

-- ---- counting

unfoldable pub tally_of : Batch → Tally
tally_of b = record { accepted = b.accepted; refused = b.refused }

-- The answer that a refusal's number, or 0, stands for.
unfoldable pub numbered : ℕ → SheetAnswer
numbered zero = accepted []
numbered (suc n) = refused_with (suc n)

-- A client from 1 to 8, of whom fewer than 1,000 sheets are counted.
unfoldable pub raises : ℕ → List ℕ → Bool
raises client counts = leb 1 client && leb client client_count && ltb (get_or counts (pred client) 0) 1000

-- One more for a client.
unfoldable pub raised_of : ℕ → List ℕ → List ℕ
unfolding raises one_more_of
raised_of client counts = cond (raises client counts) (one_more_of client counts) counts

unfoldable pub counted_by : SheetAnswer → ℕ → Batch → Batch
unfolding raised_of
counted_by (accepted bytes) client b =
    record { left = pred b.left; accepted = raised_of client b.accepted; refused = b.refused }
counted_by (refused_with n) client b =
    record { left = pred b.left; accepted = b.accepted; refused = raised_of client b.refused }

-- One sheet fewer to come, and one answer more; a batch in which no sheet is still to come stays as it is.
unfoldable pub counted_of : Batch → ℕ → ℕ → Batch
unfolding counted_by numbered
counted_of b client n = let more = counted_by (numbered n) client b in cond (ltb 0 b.left) more b

-- The answers so far, of all clients.
abbrev pub accepted_in : Batch → ℕ
accepted_in b = total b.accepted

abbrev pub refused_in : Batch → ℕ
refused_in b = total b.refused

-- ---- lines that are written

-- The longest text: a line of at most 24 bytes for each client.
abbrev pub text_room : ℕ
text_room = 192

-- Lines at the start of 192 bytes, the others 0.
unfoldable pub text_of : List ℕ → Text
unfolding overwrite
text_of l = record { bytes = overwrite l (replicate text_room 0); length = length l }

-- The bytes of the lines of a text.
abbrev pub shown : Text → List ℕ
shown t = take t.length t.bytes

pub shown-text : (l : List ℕ) → shown (text_of l) ≡ l
unfolding text_of overwrite
shown-text l = take_at l (drop (length l) (replicate text_room 0)) (length l) refl

-- A refusal alone on its line (SCOPE 5.11).
unfoldable pub refusal_line_of : ℕ → List ℕ
unfolding lines
refusal_line_of n = lines ((pos n ∷ []) ∷ [])

-- The last lines: how many sheets of each client are accepted and how many refused (SCOPE 5.12). A batch with sheets still to come,
-- or bytes left over, is broken (SCOPE 5.21), and so is one that counts more than 1,000 sheets.
unfoldable pub closeable : Batch → Bool
unfolding total
closeable b = eqb b.left 0 && leb (accepted_in b) 1000 && leb (refused_in b) 1000

unfoldable pub close_text : Batch → ℕ → List ℕ
unfolding closeable closing_by tally_lines tally_of broken
close_text b over = cond (closeable b) (closing (tally_of b) (replicate over 0)) broken

-- ---- what is read

-- A line that is not read has a number other than 0.
count-numbered : (bytes : List ℕ) → Numbered (read_count bytes)
unfolding read_count
count-numbered bytes = field-numbered _ (always newline) (between-judging (pos 0) (pos 1000)) bytes

line-numbered : (bytes : List ℕ) → Numbered (read_sheet_line bytes)
unfolding read_after_client read_size
line-numbered bytes = rw (sheet_line-is bytes) (client (client_of bytes) (field-numbered _ _ (between-judging (pos 1) (pos 8)) bytes))
  where
    size : (k : ℤ) (r : Read ℤ) → Numbered r → Numbered (read_size k r)
    size k r (read n rest) = read _ rest
    size k r (numbered-fault n low high) = numbered-fault n low high

    client : (r : Read ℤ) → Numbered r → Numbered (read_after_client r)
    client r (read k more) = size k (count_of more) (field-numbered _ _ (between-judging (pos 0) (pos 32768)) more)
    client r (numbered-fault n low high) = numbered-fault n low high

pub count-taken : (bytes : List ℕ) (k : ℤ) (rest : List ℕ) → read_count bytes ≡ got k rest → Taken number_line bytes rest
unfolding read_count
count-taken bytes k rest e = field-taken (between (pos 0) (pos 1000)) (always newline) bytes k rest e

-- A refusal of 0 tells that the line was read.
pub begun-got : (bytes : List ℕ) → (begun_of bytes).refusal ≡ 0
    → (k : ℤ) × (rest : List ℕ) × (read_count bytes ≡ got k rest) × (drop (begun_of bytes).taken bytes ≡ rest)
    × ((begun_of bytes).batch ≡ batch_with (nat_abs k) no_tally)
unfolding begun_of begun_by
begun-got bytes z = go (read_count bytes) (count-numbered bytes) refl z
  where
    go : (r : Read ℤ) → Numbered r → read_count bytes ≡ r → (begun_by bytes r).refusal ≡ 0
        → (k : ℤ) × (rest : List ℕ) × (read_count bytes ≡ got k rest) × (drop (begun_by bytes r).taken bytes ≡ rest)
        × ((begun_by bytes r).batch ≡ batch_with (nat_abs k) no_tally)
    go r (read k rest) e z = (k, rest, e, taken-drop (count-taken bytes k rest e), refl)
    go r (numbered-fault n low high) e z = absurd (suc-ne-zero n z)

-- No more bytes are taken than are given.
pub begun-inside : (bytes : List ℕ) → (begun_of bytes).taken ≤ length bytes
unfolding begun_of begun_by
begun-inside bytes = go (read_count bytes)
  where
    go : (r : Read ℤ) → (begun_by bytes r).taken ≤ length bytes
    go (got k rest) = let h : length bytes - length rest ≤ length bytes = omega arith in h
    go (fault n) = zero-le

pub line-inside : (bytes : List ℕ) → (line_of bytes).taken ≤ length bytes
unfolding line_of line_by
line-inside bytes = go (read_sheet_line bytes)
  where
    go : (r : Read ReadLine) → (line_by bytes r).taken ≤ length bytes
    go (got v rest) = let h : length bytes - length rest ≤ length bytes = omega arith in h
    go (fault n) = zero-le

-- A line that was read: its numbers, and the bytes after it.
pub line-got : (bytes : List ℕ) → (line_of bytes).refusal ≡ 0
    → (v : ReadLine) × (rest : List ℕ) × (read_sheet_line bytes ≡ got v rest) × (drop (line_of bytes).taken bytes ≡ rest)
    × ((line_of bytes).client ≡ v.client) × ((line_of bytes).bytes ≡ v.bytes)
unfolding line_of line_by
line-got bytes z = go (read_sheet_line bytes) (line-numbered bytes) refl z
  where
    go : (r : Read ReadLine) → Numbered r → read_sheet_line bytes ≡ r → (line_by bytes r).refusal ≡ 0
        → (v : ReadLine) × (rest : List ℕ) × (read_sheet_line bytes ≡ got v rest) × (drop (line_by bytes r).taken bytes ≡ rest)
        × ((line_by bytes r).client ≡ v.client) × ((line_by bytes r).bytes ≡ v.bytes)
    go r (read v rest) e z = (v, rest, e, taken-drop (sheet_line-taken bytes v rest e), refl, refl)
    go r (numbered-fault n low high) e z = absurd (suc-ne-zero n z)

-- Another refusal is the fault of the line.
pub begun-fault : (bytes : List ℕ) → (begun_of bytes).refusal ≢ 0 → read_count bytes ≡ fault (begun_of bytes).refusal
unfolding begun_of begun_by
begun-fault bytes z = go (read_count bytes) z
  where
    go : (r : Read ℤ) → (begun_by bytes r).refusal ≢ 0 → r ≡ fault (begun_by bytes r).refusal
    go (got k rest) z = absurd (z refl)
    go (fault n) z = refl

pub line-fault : (bytes : List ℕ) → (line_of bytes).refusal ≢ 0 → read_sheet_line bytes ≡ fault (line_of bytes).refusal
unfolding line_of line_by
line-fault bytes z = go (read_sheet_line bytes) z
  where
    go : (r : Read ReadLine) → (line_by bytes r).refusal ≢ 0 → r ≡ fault (line_by bytes r).refusal
    go (got v rest) z = absurd (z refl)
    go (fault n) z = refl

-- ---- counting and closing

pub raised_is : (client : ℕ) (counts : List ℕ) → 1 ≤ client → client ≤ client_count → get_or counts (pred client) 0 < 1000
    → raised_of client counts ≡ one_more_of client counts
unfolding raised_of raises
raised_is client counts low high few =
    rw (le-leb 1 client low, le-leb client client_count high, lt-ltb (get_or counts (pred client) 0) 1000 few)

pub counted_is : (b : Batch) (client n : ℕ) → b.left ≢ 0 → counted_of b client n ≡ counted_by (numbered n) client b
unfolding counted_of
counted_is b client n some = rw (lt-ltb 0 b.left (omega arith))

pub closed_is : (b : Batch) (over : ℕ) → b.left ≡ 0 → accepted_in b ≤ 1000 → refused_in b ≤ 1000
    → close_text b over ≡ closing (tally_of b) (replicate over 0)
unfolding close_text closeable
closed_is b over none few few' =
    ap (λ t. cond t (closing (tally_of b) (replicate over 0)) broken)
    (sym (both-passed (eqb b.left 0) (leb (accepted_in b) 1000) _ (eq-eqb b.left 0 none) (le-leb (accepted_in b) 1000 few))
    ∙ le-leb (refused_in b) 1000 few')

-- What a batch that has begun keeps: its sheets are at most 1,000.
abbrev pub Counted : Batch → Type 0
Counted b = b.left + accepted_in b + refused_in b ≤ 1000

module _ (b : Batch) (few : Counted b) where
  module _ (some : b.left ≢ 0) (client n : ℕ) where
    pub counted-left : (counted_of b client n).left ≡ pred b.left
    unfolding counted_by
    counted-left = ap (λ c. c.left) (counted_is b client n some) ∙ go (numbered n)
      where
        go : (a : SheetAnswer) → (counted_by a client b).left ≡ pred b.left
        go (accepted bytes) = refl
        go (refused_with n) = refl

    -- Where a number stands for a client, as many are counted as `rules` counts.
    module _ (low : 1 ≤ client) (high : client ≤ client_count) where
      pub counted-tally : tally_of (counted_of b client n) ≡ count_answer client (numbered n) (tally_of b)
      unfolding tally_of count_answer counted_by
      counted-tally = ap tally_of (counted_is b client n some) ∙ go (numbered n)
        where
          below : (counts : List ℕ) → total counts < 1000 → raised_of client counts ≡ one_more_of client counts
          below counts h = raised_is client counts low high (omega (arith, get_or-total counts (pred client)))

          go : (a : SheetAnswer) → tally_of (counted_by a client b) ≡ count_answer client a (tally_of b)
          go (accepted bytes) = ap (λ l. record { accepted = l; refused = b.refused }) (below b.accepted (omega arith))
          go (refused_with n) = ap (λ l. record { accepted = b.accepted; refused = l }) (below b.refused (omega arith))

    pub counted-few : Counted (counted_of b client n)
    unfolding counted_by raised_of one_more_of
    counted-few = subst Counted (sym (counted_is b client n some)) (go (numbered n))
      where
        raised-few : (counts : List ℕ) → total (raised_of client counts) ≤ suc (total counts)
        raised-few counts = by (raises client counts)
          where
            by : (t : Bool) → total (cond t (one_more_of client counts) counts) ≤ suc (total counts)
            by true = total_at_most counts (pred client)
            by false = omega arith

        go : (a : SheetAnswer) → Counted (counted_by a client b)
        go (accepted bytes) =
            let h : pred b.left + total (raised_of client b.accepted) + refused_in b ≤ 1000 =
            omega (arith, raised-few b.accepted) in
            h
        go (refused_with n) =
            let h : pred b.left + accepted_in b + total (raised_of client b.refused) ≤ 1000 =
            omega (arith, raised-few b.refused) in
            h

  pub close-closing : b.left ≡ 0 → (rest : List ℕ) → close_text b (length rest) ≡ closing (tally_of b) rest
  unfolding closing_by
  close-closing none rest = closed_is b (length rest) none (omega arith) (omega arith) ∙ over rest
    where
      -- It only matters whether any bytes are left over.
      over : (rest : List ℕ) → closing (tally_of b) (replicate (length rest) 0) ≡ closing (tally_of b) rest
      over [] = refl
      over (x ∷ rest) = refl

pub close-broken : (b : Batch) (over : ℕ) → b.left ≢ 0 → close_text b over ≡ broken
unfolding close_text closeable
close-broken b over some =
    ap (λ t. cond t (closing (tally_of b) (replicate over 0)) broken)
    (sym (first-failed (eqb b.left 0) (leb (accepted_in b) 1000) (leb (refused_in b) 1000) (ne_eqb b.left 0 some)))

-- ---- the lines of `rules`

pub refusal-broken : refusal_line_of 3 ≡ broken
unfolding refusal_line_of broken
refusal-broken = refl

-- An answer is its number on a line, and the sheet that answers (SCOPE 5.11).
pub refusal-refused : (n : ℕ) → refusal_line_of n ≡ answer_bytes (refused_with n)
unfolding refusal_line_of answer_bytes
refusal-refused n = refl

pub refusal-accepted : (sheet : List ℕ) → refusal_line_of 0 ++ sheet ≡ answer_bytes (accepted sheet)
unfolding refusal_line_of answer_bytes
refusal-accepted sheet = refl
