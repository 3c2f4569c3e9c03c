-- The words in which the claims on the answer to a sheet are said.
--
-- Main definitions
--   SheetWasAnswered bytes store a    a is what the call gave back and left: its contract
--   AnswerFits sheet store            the sheet that answers is not above 65,536 bytes, and there is room for it
--   sheet_run x, SheetAccepted x s     the leading run of the rules on a sheet, and that it accepts with the final state s
--   whole_answer sheet store           the call that has answered with the sheet
--   AnswerCourse bytes store a        all that the call can do
--   AnswerHolds bytes store a x s     the sheet x was accepted with the final state s, and the store begins with the sheet of s
use Rattle.std.specs.Prelude.{ℕ, ◌≤◌, ◌≡◌, List, length, take}
use Rattle.rules.specs.Elimination.{leading, State, Outcome, refused, whole_run_of}
use Rattle.rules.specs.Stores.{span}
use Rattle.lists.specs.Overwritten.{overwrite}
use Rattle.rules.specs.Numbers.{fault}
use Rattle.rules.specs.Sheets.{Sheet, read_sheet_of, write_sheet_of}
use Rattle.rules.specs.Batch.{most_bytes}
use Rattle.theory.specs.Demands.{Accepted}
use Rattle.answers.specs.Answers.{AnswerCall, answer_call, unanswered, sheet_after_of}
use Rattle.claims.specs.RunWords.{FoundDuring, Rewritten}
use Rattle.claims.specs.SheetWords.{IsSheetOf}

-- ---- the answer to a sheet

-- The contract of `batches::answer`.
pub record SheetWasAnswered (bytes store : List ℕ) (a : AnswerCall) : Type 0 where
  pub called : a ≡ answer_call bytes store

abbrev pub AnswerFits : List ℕ → List ℕ → Type 0
AnswerFits sheet store = (length sheet ≤ most_bytes) × (length sheet ≤ length store)

-- The leading run of the rules on a sheet.
abbrev pub sheet_run : Sheet → Outcome
sheet_run x = whole_run_of leading (span x.sizes) x.rows x.relations

abbrev pub SheetAccepted : Sheet → State → Type 0
SheetAccepted x s = Accepted leading x.sizes x.rows x.relations s

-- The store begins with the sheet that answers, and the bytes past it stay (SCOPE 5.31).
abbrev pub whole_answer : List ℕ → List ℕ → AnswerCall
whole_answer sheet store = record { refusal = 0; length = length sheet; store = overwrite sheet store }

pub data AnswerCourse (bytes store : List ℕ) : AnswerCall → Type 0 where
  sheet-fault : (n : ℕ) → (2 ≤ n) × (n ≤ 5) → read_sheet_of bytes ≡ fault n → AnswerCourse bytes store (unanswered n store)
  work-refused : (x : Sheet) → IsSheetOf x bytes → (n : ℕ) → FoundDuring n → sheet_run x ≡ refused n
      → AnswerCourse bytes store (unanswered n store)
  answer-long : (x : Sheet) → IsSheetOf x bytes → (s : State) → SheetAccepted x s
      → ¬ AnswerFits (write_sheet_of (sheet_after_of x s)) store
      → AnswerCourse bytes store (unanswered 1 store)
  answer-written : (x : Sheet) → IsSheetOf x bytes → (s : State) → SheetAccepted x s
      → AnswerFits (write_sheet_of (sheet_after_of x s)) store
      → AnswerCourse bytes store (whole_answer (write_sheet_of (sheet_after_of x s)) store)

-- The sheet x was accepted with the final state s, and the store begins with the sheet of s, which has the rank of x as its
-- number of equations and of columns in its order (SCOPE 5.14).
pub record AnswerHolds (bytes store : List ℕ) (a : AnswerCall) (x : Sheet) (s : State) : Type 0 where
  pub input-sheet : IsSheetOf x bytes
  pub accepted : SheetAccepted x s
  pub output-sheet : IsSheetOf (sheet_after_of x s) (take a.length a.store)
  pub within : a.length ≤ most_bytes
  pub output : Rewritten a.length (write_sheet_of (sheet_after_of x s)) store a.store
