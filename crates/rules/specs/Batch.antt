-- What the batch program writes.
--
-- Main definitions
--   sheet_answer bytes    the answer to one sheet (SCOPE 5.11)
--   Counting, answers_by, output_by   the output of a batch, for any way to count its answers
--   Tally, by_client      accepted and refused sheets of each client (SCOPE 5.12)
--   batch_output bytes    the whole output for a whole input
use Prim.Native.Nat.{ℕ, zero, suc, pred}
use Rattle.std.specs.Prelude.{cond, leb, length, take, drop, get_or, set, replicate, ℤ, pos, nat_abs}
use mathlib.Core.List.{List, [], ◌∷◌, ◌++◌, map}
use Rattle.algebra.specs.Sums.{count_from}
use Rattle.rules.specs.Stores.{with_equations_of}
use Rattle.rules.specs.Elimination.{Outcome, going, done, refused, rank, leading_run_of, never_number}
use Rattle.rules.specs.Numbers.{space, newline, Read, got, fault, field, between, lines}
use Rattle.rules.specs.Sheets.{Sheet, always, read_sheet_of, write_sheet_of}

-- A sheet of more bytes is not written: its answer is refusal 1 (SCOPE 5.13).
abbrev pub most_bytes : ℕ
most_bytes = 65536

-- The bytes of the sheet that answers, or the refusal's number.
pub data Answer : Type 0 where
  accepted : List ℕ → Answer
  refused_with : ℕ → Answer

unfoldable pub sized : List ℕ → Answer
sized bytes = cond (leb (length bytes) most_bytes) (accepted bytes) (refused_with 1)

-- The sheet has the input's m, l and t, and the rows, relations and column order of the run (SCOPE 5.14).
unfoldable pub answer_run : Sheet → Outcome → Answer
unfolding sized write_sheet_of with_equations_of rank
answer_run sheet (done s) =
    sized (write_sheet_of (record { sizes = with_equations_of (rank s) sheet.sizes; rows = s.rows; relations = s.relations; order = map suc s.order }))
answer_run sheet (refused n) = refused_with n
-- A run always ends (crate theory), so this case never comes (SCOPE 3.24).
answer_run sheet (going s) = refused_with never_number

-- The run makes no use of the order that the sheet carries (SCOPE 4.44).
unfoldable pub answer_read : Read Sheet → Answer
unfolding answer_run leading_run_of
answer_read (got sheet rest) = answer_run sheet (leading_run_of sheet.rows sheet.relations)
answer_read (fault n) = refused_with n

unfoldable pub answer_sheet : List ℕ → Answer
unfolding answer_read read_sheet_of
answer_sheet bytes = answer_read (read_sheet_of bytes)

-- A line `0` and the sheet that the leading side gives, or one line with the refusal (SCOPE 5.11).
unfoldable pub answer_bytes : Answer → List ℕ
unfolding lines
answer_bytes (accepted bytes) = lines ((pos 0 ∷ []) ∷ []) ++ bytes
answer_bytes (refused_with n) = lines ((pos n ∷ []) ∷ [])

unfoldable pub sheet_answer : List ℕ → List ℕ
unfolding answer_bytes answer_sheet
sheet_answer bytes = answer_bytes (answer_sheet bytes)

-- ---- the batch

-- What is written where the batch is found to be broken; nothing comes after it (SCOPE 5.21).
unfoldable pub broken : List ℕ
unfolding lines
broken = lines ((pos 3 ∷ []) ∷ [])

-- How the answers of a batch are counted, by the client of each, and the lines that stand at its end (SCOPE 5.12).
pub record Counting (C : Type 0) : Type 0 where
  pub none : C
  pub count : ℕ → Answer → C → C
  pub ending : C → List (List ℤ)

-- The client and byte count of a sheet (SCOPE 5.2).
pub record SheetLine : Type 0 where
  pub client : ℕ
  pub bytes : ℕ

-- The client is from 1 to 8, and the byte count behind it from 0 to 32,768 (SCOPE 5.2).
unfoldable pub read_client : List ℕ → Read ℤ
unfolding field between always
read_client bytes = field (between (pos 1) (pos 8)) (always space) bytes

unfoldable pub read_size : ℤ → Read ℤ → Read SheetLine
read_size client (got size rest) = got (record { client = nat_abs client; bytes = nat_abs size }) rest
read_size client (fault n) = fault n

unfoldable pub read_after_client : Read ℤ → Read SheetLine
unfolding read_size field between always
read_after_client (got client rest) = read_size client (field (between (pos 0) (pos 32768)) (always newline) rest)
read_after_client (fault n) = fault n

unfoldable pub read_sheet_line : List ℕ → Read SheetLine
unfolding read_after_client read_client
read_sheet_line bytes = read_after_client (read_client bytes)

module _ {C : Type 0} (how : Counting C) where
  -- At the end the lines of the count; bytes left over are a broken batch (SCOPE 5.12, 5.21).
  unfoldable pub closing_by : C → List ℕ → List ℕ
  unfolding lines broken
  closing_by y [] = lines (how.ending y)
  closing_by y (b ∷ bytes) = broken

  -- The answers to k sheets and what comes after them; the sheet of which bytes are missing has none (SCOPE 5.22).
  unfoldable pub answers_by : ℕ → C → List ℕ → List ℕ
  unfolding closing_by broken answer_bytes answer_sheet read_sheet_line
  answers_by zero y bytes = closing_by y bytes
  answers_by (suc k) y bytes = after_line (read_sheet_line bytes) (answers_by k)
    where
      whole : ℕ → ℕ → List ℕ → (C → List ℕ → List ℕ) → List ℕ
      whole client size rest more =
          let answer = answer_sheet (take size rest) in
          answer_bytes answer ++ more (how.count client answer y) (drop size rest)

      after_line : Read SheetLine → (C → List ℕ → List ℕ) → List ℕ
      after_line (fault n) more = broken
      after_line (got sheetLine rest) more =
          let answered = whole sheetLine.client sheetLine.bytes rest more in
          cond (leb sheetLine.bytes (length rest)) answered broken

  unfoldable pub answers_after : Read ℤ → List ℕ
  unfolding answers_by broken
  answers_after (got k rest) = answers_by (nat_abs k) how.none rest
  answers_after (fault n) = broken

  -- The first line has the number of sheets, 0 to 1,000 (SCOPE 5.1).
  unfoldable pub output_by : List ℕ → List ℕ
  unfolding answers_after field between always
  output_by bytes = answers_after (field (between (pos 0) (pos 1000)) (always newline) bytes)

-- ---- the count by client

-- Clients have the numbers 1 to 8 (SCOPE 5.2).
abbrev pub client_count : ℕ
client_count = 8

-- The sheets that are accepted and those that are refused, each a list of the numbers of clients 1 to 8 (SCOPE 5.12).
pub record Tally : Type 0 where
  pub accepted : List ℕ
  pub refused : List ℕ

abbrev pub no_tally : Tally
no_tally = record { accepted = replicate client_count 0; refused = replicate client_count 0 }

-- One sheet more for a client.
unfoldable pub one_more_of : ℕ → List ℕ → List ℕ
one_more_of client counts = set counts (pred client) (suc (get_or counts (pred client) 0))

unfoldable pub count_answer : ℕ → Answer → Tally → Tally
unfolding one_more_of
count_answer client (accepted bytes) y = record { accepted = one_more_of client y.accepted; refused = y.refused }
count_answer client (refused_with n) y = record { accepted = y.accepted; refused = one_more_of client y.refused }

-- A line `accepted refused` for each client, client 1 first (SCOPE 5.12).
abbrev pub client_line : Tally → ℕ → List ℤ
client_line y k = pos (get_or y.accepted k 0) ∷ pos (get_or y.refused k 0) ∷ []

unfoldable pub tally_lines : Tally → List (List ℤ)
unfolding count_from
tally_lines y = map (client_line y) (count_from 0 client_count)

abbrev pub by_client : Counting Tally
by_client = record { none = no_tally; count = count_answer; ending = tally_lines }

abbrev pub closing : Tally → List ℕ → List ℕ
closing = closing_by by_client

abbrev pub answers : ℕ → Tally → List ℕ → List ℕ
answers = answers_by by_client

unfoldable pub batch_output : List ℕ → List ℕ
unfolding output_by count_answer tally_lines
batch_output bytes = output_by by_client bytes
