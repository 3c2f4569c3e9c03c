-- The constant rows in a lent store, 64 numbers a row, and what a function that works on them reports (SCOPE 14.61).
--
-- Main definitions
--   matrix_rows n count store    the first `count` rows of a store, of whose 64 numbers the first n count
--   Reports P j refusal         what a refusal number says of what is judged: 0, and P of what is made, or the limit that is passed
--   Told P j result             the same of a result: P of its value and what is made, or the limit that is passed
--   judged_with result a        what a result says of what is made where it is no refusal
use Rattle.std.specs.Prelude.{ℕ, ◌≡◌, List, map, ℤ, take, Result}
use Rattle.std.proofs.Common.{Ok, Err}
use Rattle.refusals.specs.declared.Refusal.{Refusal}
use Rattle.refusals.specs.Refusals.{number_of}
use Rattle.lists.specs.Parts.{parts}
use Rattle.constant_rows.specs.Constants.{Judged, fine, passed}
use Rattle.constant_rows.specs.ListLengths.{list_columns}

unfoldable pub matrix_rows : ℕ → ℕ → List ℤ → List (List ℤ)
unfolding parts
matrix_rows n count store = map (take n) (parts list_columns count store)

unfoldable pub Reports : {A : Type 0} → (A → Type 0) → Judged A → ℕ → Type 0
Reports P (fine a) refusal = (refusal ≡ 0) × P a
Reports P (passed n) refusal = refusal ≡ n

abbrev pub Told : {A B : Type 0} → (B → A → Type 0) → Judged A → Result B Refusal → Type 0
Told P (fine a) (Ok b) = P b a
Told P (fine a) (Err r) = ⊥
Told P (passed n) (Ok b) = ⊥
Told P (passed n) (Err r) = number_of r ≡ n

abbrev pub judged_with : {A B : Type 0} → Result B Refusal → A → Judged A
judged_with (Ok b) a = fine a
judged_with (Err r) a = passed (number_of r)
