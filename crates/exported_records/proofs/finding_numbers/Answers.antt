-- `exported_records::finding_numbers` meets its contract: the numbers go by the finding.
-- Assumes nothing.
use mathlib.Core.Path.{◌≡◌, sym, ◌∙◌, ap, subst}
use mathlib.Core.List.{[], ◌∷◌}
use Prim.Native.Nat.{ℕ, ◌≤◌}
use native.Mathlib.Omega.{arith}
use borrow.Author.Rules.{rules}
use lib.IntN.{ℤ, pos}
use mir.Syntax.{w64}
use mir.Val.{SFits}
use mir.Facts.{to_z-of_z}
use Rattle.records.specs.RecordAnswers.{answer_of}
use Rattle.records.specs.declared.Finding.{Finding}
use Rattle.records.specs.declared.Finding.TheVariants.{Fits, Equation, Relation}
use Rattle.std.proofs.Common.{Ok}
use Rattle.export_results.specs.Results.{most_count, count_fits, count-value}
use Rattle.exported_records.specs.RecordNumbers.{record_numbers_of, SmallAnswer, most_tests, number_of}
use Rattle.exported_records.proofs.finding_numbers.Goals as goal
use Rattle.exported_records.proofs.finding_numbers.Goals.{In-Equation, In-Fits, In-Relation}

-- what is cast is small
small-fitting : {a : Finding} (k : ℕ) → a ≡ Fits k → SmallAnswer (answer_of (Ok a)) → k ≤ most_tests
unfolding SmallAnswer answer_of
small-fitting k e h = subst (λ a. SmallAnswer (answer_of (Ok a))) e h

small-equation : {a : Finding} (i : ℕ) (n s : ℤ) → a ≡ Equation i n s → SmallAnswer (answer_of (Ok a)) → i ≤ most_tests
unfolding SmallAnswer answer_of number_of
small-equation i n s e h = subst (λ a. SmallAnswer (answer_of (Ok a))) e h

small-relation : {a : Finding} (i : ℕ) (n s : ℤ) → a ≡ Relation i n s → SmallAnswer (answer_of (Ok a)) → i ≤ most_tests
unfolding SmallAnswer answer_of number_of
small-relation i n s e h = subst (λ a. SmallAnswer (answer_of (Ok a))) e h

module _ (c : In-Fits) where
  tested : c.in-Fits.tested ≤ most_count
  tested = omega (arith, small-fitting c.in-Fits.tested c.in-Fits.is c.requires)

module _ (c : In-Equation) where
  which-equation : c.in-Equation.i ≤ most_count
  which-equation =
      omega (
        arith,
        small-equation c.in-Equation.i c.in-Equation.n c.in-Equation.sum c.in-Equation.is
            c.requires,
      )

module _ (c : In-Relation) where
  which-relation : c.in-Relation.i ≤ most_count
  which-relation =
      omega (
        arith,
        small-relation c.in-Relation.i c.in-Relation.n c.in-Relation.sum c.in-Relation.is
            c.requires,
      )

pub overflow_cast-result : goal.overflow_cast-result
overflow_cast-result c = count_fits _ (tested (goal.at.overflow_cast-result c).In-Fits)

pub overflow_cast-result-in-Equation : goal.overflow_cast-result-in-Equation
overflow_cast-result-in-Equation c = count_fits _ (which-equation (goal.at.overflow_cast-result-in-Equation c).In-Equation)

pub overflow_cast-result-in-Relation : goal.overflow_cast-result-in-Relation
overflow_cast-result-in-Relation c = count_fits _ (which-relation (goal.at.overflow_cast-result-in-Relation c).In-Relation)

pub returns-in-Fits : goal.returns-in-Fits
unfolding record_numbers_of answer_of
returns-in-Fits c =
    ap (λ v. pos 0 ∷ v ∷ pos 0 ∷ pos 0 ∷ []) (count-value c.in-Fits.tested (tested (goal.at.returns-in-Fits c).In-Fits))
    ∙ sym (ap (λ a. record_numbers_of (answer_of (Ok a))) c.in-Fits.is)

pub returns-in-Equation : goal.returns-in-Equation
unfolding record_numbers_of answer_of
returns-in-Equation c =
    let arm = (goal.at.returns-in-Equation c).In-Equation in
    let found = c.in-Equation in
    let index : SFits w64 found.n = search rules in
    let sum : SFits w64 found.sum = search rules in
    (λ i. pos 1 ∷ count-value found.i (which-equation arm) i ∷ to_z-of_z {w = w64} index i ∷ to_z-of_z {w = w64} sum i ∷ [])
    ∙ sym (ap (λ a. record_numbers_of (answer_of (Ok a))) found.is)

pub returns-in-Relation : goal.returns-in-Relation
unfolding record_numbers_of answer_of
returns-in-Relation c =
    let arm = (goal.at.returns-in-Relation c).In-Relation in
    let found = c.in-Relation in
    let index : SFits w64 found.n = search rules in
    let sum : SFits w64 found.sum = search rules in
    (λ i. pos 2 ∷ count-value found.i (which-relation arm) i ∷ to_z-of_z {w = w64} index i ∷ to_z-of_z {w = w64} sum i ∷ [])
    ∙ sym (ap (λ a. record_numbers_of (answer_of (Ok a))) found.is)
