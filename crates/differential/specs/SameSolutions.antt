-- A series satisfies a differential sheet exactly if its coefficients satisfy the recurrence that is written for it.
--
-- Main statements
--   same-solutions    for every two-sided sequence of coefficients, both directions
--   series-solutions  so for a series with finitely many negative powers, whose coefficients are zero below them
use Rattle.std.specs.Prelude.{ℕ, ◌≡◌, ◌↔◌, List, map, ℤ, pos}
use Rattle.std.proofs.Common.{sym, ◌∙◌}
use Rattle.lists.specs.Everywhere.{All, all-images}
use Rattle.rules.specs.Sequences.{Sequence, value_of, SatisfiesEquation, Satisfies}
use Rattle.differential.specs.Differential.{DifferentialTerm, DifferentialSheet, ValidTerm, ValidDifferential}
use Rattle.differential.specs.Recurrence.{recurrence_row, recurrence_of}
use Rattle.differential.specs.Meaning.{equation_meaning, Vanishes, SatisfiesDifferential, Series}
use Rattle.differential.specs.Terms.{row-value}

-- A sheet's recurrence, as `Satisfies` takes it.
abbrev pub SatisfiesRecurrence : DifferentialSheet → Sequence → Type 0
SatisfiesRecurrence d z =
    let s = recurrence_of d in
    Satisfies s.sizes.l s.rows s.relations z

-- Of every two-sided sequence (SCOPE 10.33).
pub same-solutions : (d : DifferentialSheet) → ValidDifferential d → (z : Sequence)
    → SatisfiesDifferential d z ↔ SatisfiesRecurrence d z
unfolding SatisfiesDifferential Satisfies recurrence_of
same-solutions d valid z = (λ h. (rows.0 h, tt), λ h. rows.1 h.0)
  where
    K : ℕ
    K = d.order

    Right : List DifferentialTerm → Type 0
    Right = All (ValidTerm d.unknowns K d.degree)

    value : (ts : List DifferentialTerm) → Right ts → (n : ℤ)
        → value_of (pos K) (recurrence_row K ts) z n ≡ equation_meaning z ts n
    value ts right n =
        row-value d.unknowns K d.degree valid.unknowns-most valid.order-most valid.degree-most ts right z n

    equation : (ts : List DifferentialTerm) → Right ts
        → Vanishes (equation_meaning z ts) ↔ SatisfiesEquation (pos K) z (recurrence_row K ts)
    equation ts right = (λ h n. value ts right n ∙ h n, λ h n. sym (value ts right n) ∙ h n)

    rows : All (λ ts. Vanishes (equation_meaning z ts)) d.equations
        ↔ All (SatisfiesEquation (pos K) z) (map (recurrence_row K) d.equations)
    rows =
        all-images Right (λ ts. Vanishes (equation_meaning z ts)) (SatisfiesEquation (pos K) z) (recurrence_row K) equation
        d.equations valid.terms

-- Of series (SCOPE 10.33).
pub series-solutions : (d : DifferentialSheet) → ValidDifferential d → (z : Sequence) → Series z
    → SatisfiesDifferential d z ↔ SatisfiesRecurrence d z
series-solutions d valid z series = same-solutions d valid z
