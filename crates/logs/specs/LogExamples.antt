-- Logs replayed in the definitions, from the lines of a sheet to the lines of the answer, as ../shared/vectors/calls/logs.txt has them.
--
-- Main definitions
--   fields                             the 36 numbers of a step, from those that are given
--   Replays input steps order output   the sheet with the lines `input`, replayed, is accepted, and has the lines `output` then
--   Refuses input steps order n        it is refused with n
--   Logs input steps order             our own run of it, as a log
use Rattle.std.specs.Prelude.{ℕ, ◌≡◌, refl, ℤ, pos, negsuc}
use mathlib.Core.List.{List, [], ◌∷◌, ◌++◌, map, get_last_d}
use Rattle.lists.specs.Padded.{pad_to}
use Rattle.rules.specs.Limits.{coefficient_count}
use Rattle.rules.specs.Numbers.{Read, got, fault, lines}
use Rattle.rules.specs.Sheets.{Sheet, read_sheet_of}
use Rattle.rules.specs.Stores.{equations, span}
use Rattle.rules.specs.Batch.{Answer, accepted, refused_with, answer_run}
use Rattle.rules.specs.Elimination.{Outcome, going, done, refused, leading_run_of}
use Rattle.rules.specs.Rows.{map_row, blank}
use Rattle.algebra.specs.Polynomials.{shift_by}
use Rattle.theory.specs.ShiftDown.{shift_down, last_block}
use Rattle.log_steps.specs.Logs.{replay}
use Rattle.own_logs.specs.Own.{change_numbers, own_changes, own_numbers}

-- The kind, i, j and the integer, then the coefficients of g and h up to the last that is not 0.
unfoldable pub fields : List ℤ → List ℤ → List ℤ → List ℤ
unfolding pad_to
fields numbers g h = pad_to 4 (pos 0) numbers ++ pad_to coefficient_count (pos 0) g ++ pad_to coefficient_count (pos 0) h

unfoldable pub answered : List (List ℤ) → List ℤ → Read Sheet → Answer
unfolding answer_run replay span
answered steps order (got sheet rest) =
    answer_run sheet (replay sheet.sizes.m (span sheet.sizes) steps order sheet.rows sheet.relations)
answered steps order (fault n) = refused_with n

unfoldable pub Replays : List (List ℤ) → List (List ℤ) → List ℤ → List (List ℤ) → Type 0
unfolding answered lines read_sheet_of fields equations shift_down last_block get_last_d map_row shift_by blank
Replays input steps order output = answered steps order (read_sheet_of (lines input)) ≡ accepted (lines output)

unfoldable pub Refuses : List (List ℤ) → List (List ℤ) → List ℤ → ℕ → Type 0
unfolding answered lines read_sheet_of fields equations shift_down last_block get_last_d map_row shift_by blank
Refuses input steps order n = answered steps order (read_sheet_of (lines input)) ≡ refused_with n

-- The order of a run that has ended.
unfoldable pub order_after : Outcome → List ℤ
unfolding own_numbers
order_after (done s) = own_numbers s.order
order_after (going s) = []
order_after (refused n) = []

pub record Log : Type 0 where
  pub steps : List (List ℤ)
  pub order : List ℤ

unfoldable pub own_log : Read Sheet → Log
unfolding change_numbers own_changes order_after leading_run_of
own_log (got sheet rest) =
    record {
      steps = map change_numbers (own_changes sheet.rows sheet.relations);
      order = order_after (leading_run_of sheet.rows sheet.relations);
    }
own_log (fault n) = record { steps = []; order = [] }

unfoldable pub Logs : List (List ℤ) → List (List ℤ) → List ℤ → Type 0
unfolding own_log lines read_sheet_of fields equations
Logs input steps order = own_log (read_sheet_of (lines input)) ≡ record { steps = steps; order = order }

-- Row 1 by (3n - 18) and 1: the row before the step is listed at 6, the root of g (SCOPE 13.22, 13.27).
pub other-pivot : Replays ((pos 3 ∷ pos 2 ∷ pos 2 ∷ pos 2 ∷ []) ∷ (pos 2 ∷ []) ∷ (pos 1 ∷ pos 2 ∷ pos 1 ∷ pos 4 ∷ pos 4 ∷ pos 8 ∷ negsuc 2 ∷
    negsuc 2 ∷ []) ∷ (pos 1 ∷ pos 2 ∷ pos 2 ∷ pos 3 ∷ negsuc 1 ∷ negsuc 6 ∷ negsuc 2 ∷ []) ∷ (pos 0 ∷ []) ∷ (pos 2 ∷ pos 1 ∷ pos 2
    ∷ []) ∷ []) (fields (pos 2 ∷ pos 1 ∷ pos 2 ∷ pos 1 ∷ []) (negsuc 17 ∷ pos 3 ∷ []) (pos 1 ∷ []) ∷ []) (pos 1 ∷ pos 2 ∷ pos 0 ∷
    pos 0 ∷ []) ((pos 3 ∷ pos 2 ∷ pos 2 ∷ pos 2 ∷ []) ∷ (pos 2 ∷ []) ∷ (pos 2 ∷ pos 2 ∷ pos 1 ∷ pos 5 ∷ negsuc 71 ∷ negsuc 131 ∷
    pos 78 ∷ pos 45 ∷ negsuc 8 ∷ pos 2 ∷ pos 2 ∷ pos 3 ∷ negsuc 1 ∷ negsuc 6 ∷ negsuc 2 ∷ []) ∷ (pos 1 ∷ pos 2 ∷ pos 2 ∷ pos 3 ∷
    negsuc 1 ∷ negsuc 6 ∷ negsuc 2 ∷ []) ∷ (pos 1 ∷ []) ∷ (pos 6 ∷ pos 1 ∷ pos 2 ∷ pos 1 ∷ pos 4 ∷ pos 4 ∷ pos 8 ∷ negsuc 2 ∷
    negsuc 2 ∷ []) ∷ (pos 2 ∷ pos 1 ∷ pos 2 ∷ []) ∷ [])
unfolding Replays
other-pivot = refl

-- Our own run: three relations by ascending n0, and the content 6 divided by (SCOPE 13.51).
pub combination :
    Replays ((pos 3 ∷ pos 2 ∷ pos 2 ∷ pos 2 ∷ []) ∷ (pos 2 ∷ []) ∷ (pos 1 ∷ pos 2 ∷ pos 2 ∷ pos 4 ∷ negsuc 11 ∷ pos 12 ∷ pos 3 ∷
    negsuc 2 ∷ []) ∷ (pos 2 ∷ pos 2 ∷ pos 1 ∷ pos 4 ∷ pos 6 ∷ negsuc 13 ∷ pos 10 ∷ negsuc 1 ∷ pos 2 ∷ pos 2 ∷ pos 2 ∷ pos 0 ∷ pos
    1 ∷ []) ∷ (pos 0 ∷ []) ∷ (pos 2 ∷ pos 2 ∷ pos 1 ∷ []) ∷ []) (fields (pos 2 ∷ pos 2 ∷ pos 1 ∷ pos 6 ∷ []) (pos 12 ∷ negsuc 11 ∷
    negsuc 2 ∷ pos 3 ∷ []) (pos 0 ∷ pos 1 ∷ []) ∷ []) (pos 2 ∷ pos 1 ∷ pos 0 ∷ pos 0 ∷ []) ((pos 3 ∷ pos 2 ∷ pos 2 ∷ pos 2 ∷ []) ∷
    (pos 2 ∷ []) ∷ (pos 1 ∷ pos 2 ∷ pos 2 ∷ pos 4 ∷ negsuc 11 ∷ pos 12 ∷ pos 3 ∷ negsuc 2 ∷ []) ∷ (pos 1 ∷ pos 2 ∷ pos 1 ∷ pos 7 ∷
    pos 12 ∷ negsuc 39 ∷ pos 45 ∷ negsuc 13 ∷ negsuc 7 ∷ pos 6 ∷ negsuc 0 ∷ []) ∷ (pos 3 ∷ []) ∷ (negsuc 1 ∷ pos 2 ∷ pos 2 ∷ pos 1
    ∷ pos 4 ∷ pos 6 ∷ negsuc 13 ∷ pos 10 ∷ negsuc 1 ∷ pos 2 ∷ pos 2 ∷ pos 2 ∷ pos 0 ∷ pos 1 ∷ []) ∷ (pos 1 ∷ pos 2 ∷ pos 2 ∷ pos 1
    ∷ pos 4 ∷ pos 6 ∷ negsuc 13 ∷ pos 10 ∷ negsuc 1 ∷ pos 2 ∷ pos 2 ∷ pos 2 ∷ pos 0 ∷ pos 1 ∷ []) ∷ (pos 2 ∷ pos 2 ∷ pos 2 ∷ pos 1
    ∷ pos 4 ∷ pos 6 ∷ negsuc 13 ∷ pos 10 ∷ negsuc 1 ∷ pos 2 ∷ pos 2 ∷ pos 2 ∷ pos 0 ∷ pos 1 ∷ []) ∷ (pos 2 ∷ pos 2 ∷ pos 1 ∷ []) ∷
    [])
unfolding Replays
combination = refl

pub combination-own :
    Logs ((pos 3 ∷ pos 2 ∷ pos 2 ∷ pos 2 ∷ []) ∷ (pos 2 ∷ []) ∷ (pos 1 ∷ pos 2 ∷ pos 2 ∷ pos 4 ∷ negsuc 11 ∷ pos 12 ∷ pos 3 ∷
    negsuc 2 ∷ []) ∷ (pos 2 ∷ pos 2 ∷ pos 1 ∷ pos 4 ∷ pos 6 ∷ negsuc 13 ∷ pos 10 ∷ negsuc 1 ∷ pos 2 ∷ pos 2 ∷ pos 2 ∷ pos 0 ∷ pos
    1 ∷ []) ∷ (pos 0 ∷ []) ∷ (pos 2 ∷ pos 2 ∷ pos 1 ∷ []) ∷ []) (fields (pos 2 ∷ pos 2 ∷ pos 1 ∷ pos 6 ∷ []) (pos 12 ∷ negsuc 11 ∷
    negsuc 2 ∷ pos 3 ∷ []) (pos 0 ∷ pos 1 ∷ []) ∷ []) (pos 2 ∷ pos 1 ∷ pos 0 ∷ pos 0 ∷ [])
unfolding Logs
combination-own = refl

-- Our own run: the exchange and the combination are two steps; a right side becomes zero (SCOPE 13.51).
pub exchange : Replays ((pos 3 ∷ pos 2 ∷ pos 0 ∷ negsuc 0 ∷ []) ∷ (pos 2 ∷ []) ∷ (pos 2 ∷ pos 0 ∷ pos 2 ∷ pos 2 ∷ pos 3 ∷ pos 3 ∷ negsuc 0 ∷
    pos 1 ∷ pos 2 ∷ pos 2 ∷ pos 2 ∷ []) ∷ (pos 2 ∷ pos 0 ∷ pos 1 ∷ pos 3 ∷ negsuc 0 ∷ pos 0 ∷ pos 1 ∷ pos 0 ∷ pos 2 ∷ pos 2 ∷ pos
    1 ∷ pos 1 ∷ []) ∷ (pos 0 ∷ []) ∷ (pos 1 ∷ pos 1 ∷ []) ∷ (pos 2 ∷ []) ∷ (pos 2 ∷ negsuc 8 ∷ negsuc 8 ∷ []) ∷ (pos 2 ∷ negsuc 2
    ∷ negsuc 2 ∷ []) ∷ []) (fields (pos 1 ∷ pos 2 ∷ pos 1 ∷ []) [] [] ∷ fields (pos 2 ∷ pos 2 ∷ pos 1 ∷ pos 1 ∷ []) (pos 1 ∷ [])
    (negsuc 2 ∷ []) ∷ []) (pos 2 ∷ pos 1 ∷ pos 0 ∷ pos 0 ∷ []) ((pos 3 ∷ pos 2 ∷ pos 0 ∷ negsuc 0 ∷ []) ∷ (pos 2 ∷ []) ∷ (pos 2 ∷
    pos 0 ∷ pos 1 ∷ pos 3 ∷ negsuc 0 ∷ pos 0 ∷ pos 1 ∷ pos 0 ∷ pos 2 ∷ pos 2 ∷ pos 1 ∷ pos 1 ∷ []) ∷ (pos 2 ∷ pos 0 ∷ pos 1 ∷ pos
    3 ∷ pos 3 ∷ pos 0 ∷ negsuc 2 ∷ negsuc 0 ∷ pos 1 ∷ pos 2 ∷ pos 2 ∷ pos 2 ∷ []) ∷ (pos 0 ∷ []) ∷ (pos 2 ∷ pos 2 ∷ pos 1 ∷ []) ∷
    (pos 2 ∷ []) ∷ (pos 2 ∷ negsuc 2 ∷ negsuc 2 ∷ []) ∷ (pos 0 ∷ []) ∷ [])
unfolding Replays
exchange = refl

pub exchange-own :
    Logs ((pos 3 ∷ pos 2 ∷ pos 0 ∷ negsuc 0 ∷ []) ∷ (pos 2 ∷ []) ∷ (pos 2 ∷ pos 0 ∷ pos 2 ∷ pos 2 ∷ pos 3 ∷ pos 3 ∷ negsuc 0 ∷ pos
    1 ∷ pos 2 ∷ pos 2 ∷ pos 2 ∷ []) ∷ (pos 2 ∷ pos 0 ∷ pos 1 ∷ pos 3 ∷ negsuc 0 ∷ pos 0 ∷ pos 1 ∷ pos 0 ∷ pos 2 ∷ pos 2 ∷ pos 1 ∷
    pos 1 ∷ []) ∷ (pos 0 ∷ []) ∷ (pos 1 ∷ pos 1 ∷ []) ∷ (pos 2 ∷ []) ∷ (pos 2 ∷ negsuc 8 ∷ negsuc 8 ∷ []) ∷ (pos 2 ∷ negsuc 2 ∷
    negsuc 2 ∷ []) ∷ []) (fields (pos 1 ∷ pos 2 ∷ pos 1 ∷ []) [] [] ∷ fields (pos 2 ∷ pos 2 ∷ pos 1 ∷ pos 1 ∷ []) (pos 1 ∷ [])
    (negsuc 2 ∷ []) ∷ []) (pos 2 ∷ pos 1 ∷ pos 0 ∷ pos 0 ∷ [])
unfolding Logs
exchange-own = refl

-- A shift down and up again; the steps up are counted (SCOPE 13.23, 13.24).
pub down-and-up : Replays ((pos 3 ∷ pos 2 ∷ pos 62 ∷ pos 61 ∷ []) ∷ (pos 1 ∷ []) ∷ (pos 1 ∷ pos 62 ∷ pos 1 ∷ pos 4 ∷ negsuc 724 ∷ pos 77 ∷
    negsuc 512 ∷ pos 57 ∷ []) ∷ (pos 0 ∷ []) ∷ (pos 1 ∷ pos 2 ∷ []) ∷ []) (fields (pos 4 ∷ pos 1 ∷ []) [] [] ∷ fields (pos 3 ∷ pos
    1 ∷ []) [] [] ∷ []) (pos 1 ∷ pos 0 ∷ pos 0 ∷ pos 0 ∷ []) ((pos 3 ∷ pos 2 ∷ pos 62 ∷ pos 61 ∷ []) ∷ (pos 1 ∷ []) ∷ (pos 1 ∷ pos
    62 ∷ pos 1 ∷ pos 4 ∷ negsuc 724 ∷ pos 77 ∷ negsuc 512 ∷ pos 57 ∷ []) ∷ (pos 0 ∷ []) ∷ (pos 1 ∷ pos 1 ∷ []) ∷ [])
unfolding Replays
down-and-up = refl

-- Factors that no run of ours takes; then the zero row is dropped (SCOPE 13.25).
pub factors : Replays ((pos 3 ∷ pos 3 ∷ pos 3 ∷ pos 3 ∷ []) ∷ (pos 2 ∷ []) ∷ (pos 2 ∷ pos 3 ∷ pos 1 ∷ pos 3 ∷ negsuc 5 ∷ negsuc 12 ∷ negsuc
    1 ∷ pos 3 ∷ pos 3 ∷ pos 3 ∷ pos 0 ∷ pos 2 ∷ pos 4 ∷ []) ∷ (pos 0 ∷ []) ∷ (pos 1 ∷ []) ∷ (negsuc 2 ∷ pos 0 ∷ []) ∷ (pos 0 ∷ [])
    ∷ (pos 3 ∷ []) ∷ (pos 0 ∷ []) ∷ (pos 0 ∷ []) ∷ (pos 2 ∷ negsuc 0 ∷ negsuc 0 ∷ []) ∷ []) (fields (pos 2 ∷ pos 1 ∷ pos 2 ∷ pos 1
    ∷ []) (pos 4 ∷ pos 1 ∷ []) (negsuc 0 ∷ []) ∷ fields (pos 2 ∷ pos 1 ∷ pos 2 ∷ pos 3 ∷ []) (negsuc 2 ∷ pos 3 ∷ []) (negsuc 14 ∷
    pos 3 ∷ []) ∷ fields (pos 5 ∷ pos 2 ∷ []) [] [] ∷ []) (pos 1 ∷ pos 0 ∷ pos 0 ∷ pos 0 ∷ []) ((pos 3 ∷ pos 3 ∷ pos 3 ∷ pos 3 ∷
    []) ∷ (pos 1 ∷ []) ∷ (pos 2 ∷ pos 3 ∷ pos 1 ∷ pos 5 ∷ pos 24 ∷ pos 34 ∷ negsuc 36 ∷ negsuc 18 ∷ negsuc 1 ∷ pos 3 ∷ pos 3 ∷ pos
    5 ∷ pos 0 ∷ negsuc 7 ∷ negsuc 9 ∷ pos 14 ∷ pos 4 ∷ []) ∷ (pos 3 ∷ []) ∷ (negsuc 2 ∷ pos 0 ∷ []) ∷ (negsuc 3 ∷ pos 2 ∷ pos 3 ∷
    pos 1 ∷ pos 3 ∷ negsuc 5 ∷ negsuc 12 ∷ negsuc 1 ∷ pos 3 ∷ pos 3 ∷ pos 3 ∷ pos 0 ∷ pos 2 ∷ pos 4 ∷ []) ∷ (pos 1 ∷ pos 2 ∷ pos 3
    ∷ pos 1 ∷ pos 4 ∷ negsuc 23 ∷ negsuc 57 ∷ negsuc 20 ∷ negsuc 1 ∷ pos 3 ∷ pos 3 ∷ pos 4 ∷ pos 0 ∷ pos 8 ∷ pos 18 ∷ pos 4 ∷ [])
    ∷ (pos 1 ∷ pos 1 ∷ []) ∷ (pos 4 ∷ []) ∷ (pos 0 ∷ []) ∷ (pos 2 ∷ negsuc 0 ∷ negsuc 0 ∷ []) ∷ (pos 0 ∷ []) ∷ (pos 0 ∷ []) ∷ [])
unfolding Replays
factors = refl

-- The order names a column that our run does not take (SCOPE 13.31).
pub other-column :
    Replays ((pos 3 ∷ pos 3 ∷ negsuc 2 ∷ negsuc 3 ∷ []) ∷ (pos 1 ∷ []) ∷ (pos 2 ∷ negsuc 2 ∷ pos 1 ∷ pos 1 ∷ negsuc 0 ∷ negsuc 2 ∷
    pos 3 ∷ pos 1 ∷ negsuc 0 ∷ []) ∷ (pos 0 ∷ []) ∷ (pos 0 ∷ []) ∷ []) [] (pos 3 ∷ pos 0 ∷ pos 0 ∷ pos 0 ∷ []) ((pos 3 ∷ pos 3 ∷
    negsuc 2 ∷ negsuc 3 ∷ []) ∷ (pos 1 ∷ []) ∷ (pos 2 ∷ negsuc 2 ∷ pos 1 ∷ pos 1 ∷ negsuc 0 ∷ negsuc 2 ∷ pos 3 ∷ pos 1 ∷ negsuc 0
    ∷ []) ∷ (pos 0 ∷ []) ∷ (pos 1 ∷ pos 3 ∷ []) ∷ [])
unfolding Replays
other-column = refl

-- The limit of the relations (9).
pub relations-past :
    Refuses ((pos 3 ∷ pos 2 ∷ pos 1 ∷ pos 1 ∷ []) ∷ (pos 5 ∷ []) ∷ (pos 1 ∷ pos 1 ∷ pos 1 ∷ pos 1 ∷ pos 1 ∷ []) ∷ (pos 0 ∷ []) ∷
    (pos 1 ∷ pos 1 ∷ pos 1 ∷ pos 2 ∷ pos 2 ∷ pos 3 ∷ []) ∷ (pos 0 ∷ []) ∷ (pos 0 ∷ []) ∷ (pos 2 ∷ []) ∷ (negsuc 0 ∷ pos 0 ∷ []) ∷
    (pos 7 ∷ pos 1 ∷ pos 1 ∷ pos 1 ∷ pos 2 ∷ negsuc 0 ∷ negsuc 0 ∷ []) ∷ (pos 0 ∷ []) ∷ []) (fields (pos 2 ∷ pos 5 ∷ pos 4 ∷ pos 2
    ∷ []) (pos 8100 ∷ pos 8100 ∷ negsuc 1448 ∷ negsuc 1448 ∷ pos 70 ∷ pos 70 ∷ negsuc 0 ∷ negsuc 0 ∷ []) (pos 193623041 ∷ negsuc
    114383865 ∷ []) ∷ fields (pos 2 ∷ pos 5 ∷ pos 2 ∷ pos 2 ∷ []) (pos 0 ∷ negsuc 241919 ∷ pos 123264 ∷ pos 41424 ∷ negsuc 23799 ∷
    negsuc 1035 ∷ pos 1358 ∷ negsuc 69 ∷ negsuc 21 ∷ pos 2 ∷ []) (negsuc 260527398 ∷ pos 110770028 ∷ pos 226990199 ∷ []) ∷ [])
    (pos 1 ∷ pos 2 ∷ pos 0 ∷ pos 0 ∷ []) 9
unfolding Refuses
relations-past = refl

-- The limit of the degrees (7).
pub degree-past :
    Refuses ((pos 3 ∷ pos 1 ∷ negsuc 2 ∷ negsuc 2 ∷ []) ∷ (pos 3 ∷ []) ∷ (pos 1 ∷ negsuc 2 ∷ pos 1 ∷ pos 4 ∷ pos 0 ∷ negsuc 3 ∷
    negsuc 7 ∷ negsuc 3 ∷ []) ∷ (pos 1 ∷ negsuc 2 ∷ pos 1 ∷ pos 3 ∷ negsuc 11 ∷ negsuc 5 ∷ pos 6 ∷ []) ∷ (pos 0 ∷ []) ∷ (pos 0 ∷
    []) ∷ (pos 1 ∷ pos 1 ∷ []) ∷ (pos 3 ∷ []) ∷ (pos 6 ∷ pos 0 ∷ pos 52 ∷ pos 60 ∷ negsuc 27 ∷ negsuc 27 ∷ pos 8 ∷ []) ∷ (pos 5 ∷
    pos 156 ∷ negsuc 53 ∷ negsuc 119 ∷ pos 78 ∷ negsuc 11 ∷ []) ∷ (pos 0 ∷ []) ∷ []) (fields (pos 2 ∷ pos 2 ∷ pos 1 ∷ pos 1 ∷ [])
    (pos 86973334 ∷ pos 26109642 ∷ pos 12465091 ∷ negsuc 102954235 ∷ negsuc 141083640 ∷ negsuc 67110572 ∷ []) (negsuc 97116454 ∷
    pos 21113001 ∷ negsuc 215945030 ∷ negsuc 109380208 ∷ negsuc 266125077 ∷ negsuc 189894388 ∷ pos 144153240 ∷ negsuc 265485427 ∷
    pos 214259027 ∷ negsuc 18592334 ∷ negsuc 132007207 ∷ pos 247791373 ∷ negsuc 207630760 ∷ []) ∷ []) (pos 1 ∷ pos 0 ∷ pos 0 ∷ pos
    0 ∷ []) 7
unfolding Refuses
degree-past = refl

-- The limit of the coefficients (8).
pub coefficient-past :
    Refuses ((pos 3 ∷ pos 2 ∷ negsuc 1 ∷ negsuc 3 ∷ []) ∷ (pos 2 ∷ []) ∷ (pos 0 ∷ []) ∷ (pos 2 ∷ negsuc 1 ∷ pos 1 ∷ pos 1 ∷ negsuc
    2 ∷ negsuc 2 ∷ pos 2 ∷ pos 1 ∷ negsuc 1 ∷ []) ∷ (pos 0 ∷ []) ∷ (pos 1 ∷ pos 1 ∷ []) ∷ []) (fields (pos 2 ∷ pos 2 ∷ pos 1 ∷ pos
    1 ∷ []) (negsuc 137567021 ∷ pos 201727460 ∷ negsuc 147206673 ∷ negsuc 205885292 ∷ negsuc 30575262 ∷ pos 40846649 ∷ negsuc
    112554951 ∷ pos 257481279 ∷ pos 42439125 ∷ pos 158280413 ∷ []) (negsuc 179296159 ∷ pos 117647259 ∷ pos 56046077 ∷ pos
    237260186 ∷ pos 116901407 ∷ negsuc 73476383 ∷ pos 70549042 ∷ pos 183222494 ∷ negsuc 24200283 ∷ pos 201950872 ∷ pos 76364526 ∷
    negsuc 27160453 ∷ pos 48176755 ∷ negsuc 149500645 ∷ pos 103857512 ∷ []) ∷ []) (pos 1 ∷ pos 2 ∷ pos 0 ∷ pos 0 ∷ []) 8
unfolding Refuses
coefficient-past = refl

-- The integer does not divide the result (SCOPE 13.22).
pub not-divided :
    Refuses ((pos 3 ∷ pos 2 ∷ pos 1 ∷ pos 0 ∷ []) ∷ (pos 2 ∷ []) ∷ (pos 1 ∷ pos 0 ∷ pos 1 ∷ pos 2 ∷ pos 6 ∷ pos 1 ∷ []) ∷ (pos 2 ∷
    pos 1 ∷ pos 2 ∷ pos 1 ∷ pos 1 ∷ pos 0 ∷ pos 2 ∷ pos 1 ∷ pos 1 ∷ []) ∷ (pos 0 ∷ []) ∷ (pos 1 ∷ pos 1 ∷ []) ∷ (pos 2 ∷ []) ∷
    (pos 0 ∷ []) ∷ (pos 2 ∷ negsuc 2 ∷ negsuc 1 ∷ []) ∷ []) (fields (pos 2 ∷ pos 1 ∷ pos 2 ∷ pos 3 ∷ []) (pos 12 ∷ negsuc 6 ∷ pos
    1 ∷ []) [] ∷ []) (pos 1 ∷ pos 2 ∷ pos 0 ∷ pos 0 ∷ []) 13
unfolding Refuses
not-divided = refl

-- Shifts that would lose a block that is not zero (SCOPE 13.23, 13.24).
pub block-lost-down :
    Refuses ((pos 3 ∷ pos 1 ∷ pos 3 ∷ pos 3 ∷ []) ∷ (pos 1 ∷ []) ∷ (pos 1 ∷ pos 3 ∷ pos 1 ∷ pos 3 ∷ pos 12 ∷ pos 2 ∷ negsuc 3 ∷
    []) ∷ (pos 0 ∷ []) ∷ (pos 1 ∷ pos 1 ∷ []) ∷ (pos 1 ∷ []) ∷ (pos 1 ∷ negsuc 0 ∷ []) ∷ []) (fields (pos 4 ∷ pos 1 ∷ []) [] [] ∷
    []) (pos 1 ∷ pos 0 ∷ pos 0 ∷ pos 0 ∷ []) 13
unfolding Refuses
block-lost-down = refl

pub block-lost-up :
    Refuses ((pos 3 ∷ pos 2 ∷ pos 0 ∷ negsuc 0 ∷ []) ∷ (pos 1 ∷ []) ∷ (pos 2 ∷ pos 0 ∷ pos 1 ∷ pos 2 ∷ pos 2 ∷ pos 2 ∷ negsuc 0 ∷
    pos 2 ∷ pos 1 ∷ pos 2 ∷ []) ∷ (pos 0 ∷ []) ∷ (pos 0 ∷ []) ∷ (pos 1 ∷ []) ∷ (pos 1 ∷ negsuc 3 ∷ []) ∷ []) (fields (pos 3 ∷ pos
    1 ∷ []) [] [] ∷ []) (pos 2 ∷ pos 0 ∷ pos 0 ∷ pos 0 ∷ []) 13
unfolding Refuses
block-lost-up = refl

-- A row with a right side is not dropped (SCOPE 13.25).
pub right-side-dropped :
    Refuses ((pos 3 ∷ pos 1 ∷ negsuc 0 ∷ negsuc 4 ∷ []) ∷ (pos 1 ∷ []) ∷ (pos 0 ∷ []) ∷ (pos 0 ∷ []) ∷ (pos 0 ∷ []) ∷ (pos 1 ∷ [])
    ∷ (pos 1 ∷ negsuc 389 ∷ []) ∷ []) (fields (pos 5 ∷ pos 1 ∷ []) [] [] ∷ []) (pos 1 ∷ pos 0 ∷ pos 0 ∷ pos 0 ∷ []) 13
unfolding Refuses
right-side-dropped = refl

-- The final matrix has a zero on its diagonal (SCOPE 13.32).
pub not-triangular :
    Refuses ((pos 3 ∷ pos 3 ∷ pos 3 ∷ pos 2 ∷ []) ∷ (pos 3 ∷ []) ∷ (pos 1 ∷ pos 2 ∷ pos 1 ∷ pos 1 ∷ negsuc 0 ∷ []) ∷ (pos 0 ∷ [])
    ∷ (pos 0 ∷ []) ∷ (pos 1 ∷ []) ∷ (pos 1 ∷ pos 1 ∷ pos 2 ∷ pos 2 ∷ pos 2 ∷ negsuc 7 ∷ negsuc 4 ∷ []) ∷ (pos 1 ∷ pos 3 ∷ []) ∷
    []) [] (pos 3 ∷ pos 1 ∷ pos 2 ∷ pos 0 ∷ []) 13
unfolding Refuses
not-triangular = refl
