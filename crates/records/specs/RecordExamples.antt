-- Worked examples, from the lines of a sheet and a record to the answer, computed in the definitions.
--
-- Main definitions
--   answer_for_of           the call on the stores that hold the system of a sheet
--
-- Main statements
--   first-failure, side-subtracted, relation-failure, at-the-limit, past-the-limit, too_short, index-outside, value-outside
use Rattle.std.specs.Prelude.{ℕ, ◌≡◌, refl, List, [], ◌∷◌, length, ℤ, pos, negsuc, neg_ℤ}
use Rattle.rules.specs.Numbers.{Read, got, fault, lines}
use Rattle.rules.specs.Sheets.{Sheet, read_sheet_of}
use Rattle.rules.specs.Stores.{equations, row_store_of, relation_store_of}
use Rattle.records.specs.Records.{Answer, fits, fails, refused, equation, relation, record_call}

on_sheet : ℤ → ℕ → List ℤ → Read Sheet → Answer
unfolding record_call row_store_of relation_store_of equations
on_sheet first vectors values (got s rest) =
    record_call s.sizes (length s.relations) first vectors (row_store_of s.rows) (relation_store_of s.relations) values
on_sheet first vectors values (fault n) = refused n

unfoldable pub answer_for_of : List (List ℤ) → ℤ → ℕ → List ℤ → Answer
unfolding on_sheet read_sheet_of lines
answer_for_of sheet first vectors values = on_sheet first vectors values (read_sheet_of (lines sheet))

-- One vector, whose index is n - 3 at the only n that is tested: (-2 - 2 × 20) × -1 is not zero.
pub first-failure : answer_for_of
    ((pos 3 ∷ pos 1 ∷ negsuc 2 ∷ negsuc 2 ∷ []) ∷ (pos 1 ∷ []) ∷ (pos 1 ∷ negsuc 2 ∷ pos 1 ∷ pos 2 ∷ negsuc 1 ∷ negsuc 1 ∷ [])
    ∷ (pos 0 ∷ []) ∷ (pos 0 ∷ []) ∷ []) (pos 17) 1 (negsuc 0 ∷ [])
    ≡ fails (equation 1) (pos 20) (pos 42)
unfolding answer_for_of
first-failure = refl

-- The right side n², which reaches the limit and does not pass it, is subtracted.
pub side-subtracted : answer_for_of
    ((pos 3 ∷ pos 1 ∷ pos 0 ∷ pos 0 ∷ []) ∷ (pos 1 ∷ []) ∷ (pos 1 ∷ pos 0 ∷ pos 1 ∷ pos 1 ∷ pos 1 ∷ [])
    ∷ (pos 0 ∷ []) ∷ (pos 0 ∷ []) ∷ (pos 1 ∷ []) ∷ (pos 3 ∷ pos 0 ∷ pos 0 ∷ pos 1 ∷ []) ∷ []) (pos 1048576) 1 (pos 0 ∷ [])
    ≡ fails (equation 1) (pos 1048576) (neg_ℤ (pos 1099511627776))
unfolding answer_for_of
side-subtracted = refl

-- An equation 0 = 0 at each of five n, and a relation 0 = 1 at the second.
pub relation-failure : answer_for_of
    ((pos 3 ∷ pos 1 ∷ pos 1 ∷ pos 1 ∷ []) ∷ (pos 1 ∷ []) ∷ (pos 0 ∷ []) ∷ (pos 1 ∷ []) ∷ (pos 9 ∷ pos 0 ∷ []) ∷ (pos 0 ∷ [])
    ∷ (pos 2 ∷ []) ∷ (pos 0 ∷ []) ∷ (pos 1 ∷ pos 1 ∷ []) ∷ []) (pos 9) 5 (pos 65536 ∷ pos 0 ∷ pos 0 ∷ pos 0 ∷ pos 0 ∷ [])
    ≡ fails (relation 1) (pos 9) (negsuc 0)
unfolding answer_for_of
relation-failure = refl

-- n² at n = 2^20 is 2^40, which is still a value; the entry is evaluated though the recorded value is 0.
pub at-the-limit : answer_for_of
    ((pos 3 ∷ pos 1 ∷ pos 0 ∷ pos 0 ∷ []) ∷ (pos 1 ∷ []) ∷ (pos 1 ∷ pos 0 ∷ pos 1 ∷ pos 3 ∷ pos 0 ∷ pos 0 ∷ pos 1 ∷ [])
    ∷ (pos 0 ∷ []) ∷ (pos 0 ∷ []) ∷ []) (pos 1048576) 1 (pos 0 ∷ [])
    ≡ fits 1
unfolding answer_for_of
at-the-limit = refl

pub past-the-limit : answer_for_of
    ((pos 3 ∷ pos 1 ∷ pos 0 ∷ pos 0 ∷ []) ∷ (pos 1 ∷ []) ∷ (pos 1 ∷ pos 0 ∷ pos 1 ∷ pos 3 ∷ pos 1 ∷ pos 0 ∷ pos 1 ∷ [])
    ∷ (pos 0 ∷ []) ∷ (pos 0 ∷ []) ∷ []) (neg_ℤ (pos 1048576)) 1 (pos 0 ∷ [])
    ≡ refused 12
unfolding answer_for_of
past-the-limit = refl

-- No equation and no relation.
abbrev nothing : ℕ → ℤ → ℤ → List (List ℤ)
nothing m l t = (pos 3 ∷ pos m ∷ l ∷ t ∷ []) ∷ (pos 0 ∷ []) ∷ (pos 0 ∷ []) ∷ (pos 0 ∷ []) ∷ []

pub too_short : answer_for_of (nothing 1 (negsuc 1) (negsuc 1)) (pos 0) 2 (pos 0 ∷ []) ≡ refused 1
unfolding answer_for_of
too_short = refl

pub index-outside : answer_for_of (nothing 3 (pos 4) (pos 2)) (neg_ℤ (pos 1048577)) 0 [] ≡ refused 2
unfolding answer_for_of
index-outside = refl

pub value-outside : answer_for_of (nothing 1 (pos 3) (negsuc 0)) (neg_ℤ (pos 1048576)) 1 (pos 65537 ∷ []) ≡ refused 5
unfolding answer_for_of
value-outside = refl
