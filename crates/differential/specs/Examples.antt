-- Worked examples, from the text of a differential sheet to the lines of its recurrence, computed in the definitions.
--
-- Main definitions
--   Induces input output   the sheet with the lines `input` is read, and its recurrence has the lines `output`
--
-- Main statements
--   airy          y'' - x y = 0 gives (n + 1)(n + 2) y(n + 2) - y(n - 1) = 0
--   bessel        x² y'' + x y' + x² y = 0 gives n² y(n) + y(n - 2) = 0: terms at one place add up
--   slope         y' - z = 0 alone, of the two unknowns y and z, gives (n + 1) y(n + 1) - z(n) = 0
use Rattle.std.specs.Prelude.{ℕ, ◌≡◌, refl, List, [], ◌∷◌, ℤ, pos, negsuc}
use Rattle.rules.specs.Numbers.{Read, got, fault, lines}
use Rattle.rules.specs.Sheets.{Sheet, write_sheet_of}
use Rattle.differential.specs.Calls.{read_recurrence}

-- The bytes that answer a sheet without a fault.
unfoldable pub answer_to : Read Sheet → List ℕ
unfolding write_sheet_of
answer_to (got sheet rest) = write_sheet_of sheet
answer_to (fault n) = []

unfoldable pub Induces : List (List ℤ) → List (List ℤ) → Type 0
unfolding answer_to read_recurrence lines
Induces input output = answer_to (read_recurrence (lines input)) ≡ lines output

-- y'' - x y = 0 (SCOPE 10.22)
pub airy : Induces
    ((pos 3 ∷ pos 1 ∷ pos 2 ∷ pos 1 ∷ []) ∷ (pos 1 ∷ [])
    ∷ (pos 2 ∷ pos 2 ∷ pos 0 ∷ pos 1 ∷ pos 1 ∷ pos 0 ∷ pos 1 ∷ pos 1 ∷ negsuc 0 ∷ []) ∷ [])
    ((pos 3 ∷ pos 1 ∷ pos 2 ∷ negsuc 0 ∷ []) ∷ (pos 1 ∷ [])
    ∷ (pos 2 ∷ pos 2 ∷ pos 1 ∷ pos 3 ∷ pos 2 ∷ pos 3 ∷ pos 1 ∷ negsuc 0 ∷ pos 1 ∷ pos 1 ∷ negsuc 0 ∷ [])
    ∷ (pos 0 ∷ []) ∷ (pos 0 ∷ []) ∷ [])
unfolding Induces
airy = refl

-- x² y'' + x y' + x² y = 0 (SCOPE 10.23)
pub bessel : Induces
    ((pos 3 ∷ pos 1 ∷ pos 2 ∷ pos 2 ∷ []) ∷ (pos 1 ∷ [])
    ∷ (pos 3 ∷ pos 2 ∷ pos 2 ∷ pos 1 ∷ pos 1 ∷ pos 1 ∷ pos 1 ∷ pos 1 ∷ pos 1 ∷ pos 0 ∷ pos 2 ∷ pos 1 ∷ pos 1 ∷ []) ∷ [])
    ((pos 3 ∷ pos 1 ∷ pos 2 ∷ negsuc 1 ∷ []) ∷ (pos 1 ∷ [])
    ∷ (pos 2 ∷ pos 0 ∷ pos 1 ∷ pos 3 ∷ pos 0 ∷ pos 0 ∷ pos 1 ∷ negsuc 1 ∷ pos 1 ∷ pos 1 ∷ pos 1 ∷ [])
    ∷ (pos 0 ∷ []) ∷ (pos 0 ∷ []) ∷ [])
unfolding Induces
bessel = refl

-- y' - z = 0: fewer equations than unknowns (SCOPE 10.3)
pub slope : Induces
    ((pos 3 ∷ pos 2 ∷ pos 1 ∷ pos 0 ∷ []) ∷ (pos 1 ∷ [])
    ∷ (pos 2 ∷ pos 1 ∷ pos 0 ∷ pos 1 ∷ pos 1 ∷ pos 0 ∷ pos 0 ∷ pos 2 ∷ negsuc 0 ∷ []) ∷ [])
    ((pos 3 ∷ pos 2 ∷ pos 1 ∷ pos 0 ∷ []) ∷ (pos 1 ∷ [])
    ∷ (pos 2 ∷ pos 1 ∷ pos 1 ∷ pos 2 ∷ pos 1 ∷ pos 1 ∷ pos 0 ∷ pos 2 ∷ pos 1 ∷ negsuc 0 ∷ [])
    ∷ (pos 0 ∷ []) ∷ (pos 0 ∷ []) ∷ [])
unfolding Induces
slope = refl
