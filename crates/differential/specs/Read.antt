-- What the code has read of a differential sheet, as the definitions have it.
--
-- Main definitions
--   extent_of, term_of      the extent and the term that a struct holds
--   FewNumbers, SmallExtent, SmallBefore, SmallPlace   numbers that are small enough to be compared
--   read_place, factor_then   the first three numbers of a term, and its factor put to them
--
-- Main statements
--   term_is               a term is those two
use Rattle.std.specs.Prelude.{ℕ, suc, ◌≤◌, List, ◌≡◌, ℤ, pos, nat_abs}
use Rattle.std.proofs.Common.{sym, ◌∙◌}
use Rattle.rules.specs.Limits.{column_count, most_equations}
use Rattle.rules.specs.Numbers.{space, Read, got, then_read, field}
use Rattle.rules.specs.Sheets.{always}
use Rattle.tokens.specs.Fields.{then-cong, then-then}
use Rattle.differential.specs.Differential.{DifferentialTerm, most_derivative, most_power}
use Rattle.differential.specs.Grammar.{Extent, judge_ordered_of, judge_factor_of, first_power_of, first_column_of, read_term}
use Rattle.differential.specs.declared.extent.Extent as Declared
use Rattle.differential.specs.declared.terms.TermRead.{TermRead}

unfoldable pub extent_of : Declared.Extent → Extent
extent_of x = record { unknowns = x.unknowns; order = x.order; degree = x.degree; equations = x.equations }

unfoldable pub term_of : TermRead → DifferentialTerm
term_of t = record { derivative = t.derivative; power = t.power; column = t.column; factor = t.factor }

-- A number of a term's place is compared with numbers that are no larger than a column behind the last.
pub record FewNumbers (low high first last : ℕ) : Type 0 where
  pub low-few : low ≤ suc column_count
  pub high-few : high ≤ suc column_count
  pub first-few : first ≤ suc column_count
  pub last-few : last ≤ suc column_count

pub record SmallExtent (x : Extent) : Type 0 where
  pub unknowns-few : x.unknowns ≤ column_count
  pub order_small : x.order ≤ most_derivative
  pub degree-small : x.degree ≤ most_power
  pub equations-few : x.equations ≤ most_equations

-- The term before another, or what an equation's first term follows.
pub record SmallBefore (t : DifferentialTerm) : Type 0 where
  pub derivative-small : t.derivative ≤ most_derivative
  pub power_small : t.power ≤ most_power
  pub column-small : t.column ≤ column_count

pub record SmallPlace (t : DifferentialTerm) : Type 0 where
  pub before : SmallBefore t
  pub column-low : 1 ≤ t.column

-- The first three numbers of a term, in a term whose factor is 0.
unfoldable pub read_place : Extent → DifferentialTerm → List ℕ → Read DifferentialTerm
read_place x before bytes =
    then_read (field (judge_ordered_of 0 x.order 0 before.derivative) (always space) bytes) λ k bytes₁.
    then_read (field (judge_ordered_of 0 x.degree (first_power_of before (nat_abs k)) x.degree) (always space) bytes₁) λ j bytes₂.
    then_read (field (judge_ordered_of 1 x.unknowns (first_column_of before (nat_abs k) (nat_abs j)) x.unknowns) (always space) bytes₂)
    λ c bytes₃.
    got (record { derivative = nat_abs k; power = nat_abs j; column = nat_abs c; factor = pos 0 }) bytes₃

-- The factor, put into a term.
unfoldable pub factor_then : ℕ → DifferentialTerm → List ℕ → Read DifferentialTerm
factor_then last t bytes =
    then_read (field judge_factor_of (always last) bytes) λ a rest.
    got (record { derivative = t.derivative; power = t.power; column = t.column; factor = a }) rest

-- A term is its place and then its factor.
pub term_is : (x : Extent) (before : DifferentialTerm) (last : ℕ) (bytes : List ℕ)
    → read_term x before last bytes ≡ then_read (read_place x before bytes) (factor_then last)
unfolding read_term read_place factor_then then_read
term_is x before last bytes =
    then-cong derivative
    (λ k bytes₁. then-cong (power k bytes₁) (λ j bytes₂. sym (then-then (column k j bytes₂) (placed k j) (factor_then last)))
    ∙ sym (then-then (power k bytes₁) (λ j bytes₂. then_read (column k j bytes₂) (placed k j)) (factor_then last)))
    ∙ sym (then-then derivative (λ k bytes₁. then_read (power k bytes₁) λ j bytes₂. then_read (column k j bytes₂) (placed k j)) (factor_then last))
  where
    derivative : Read ℤ
    derivative = field (judge_ordered_of 0 x.order 0 before.derivative) (always space) bytes

    power : ℤ → List ℕ → Read ℤ
    power k rest = field (judge_ordered_of 0 x.degree (first_power_of before (nat_abs k)) x.degree) (always space) rest

    column : ℤ → ℤ → List ℕ → Read ℤ
    column k j rest = field (judge_ordered_of 1 x.unknowns (first_column_of before (nat_abs k) (nat_abs j)) x.unknowns) (always space) rest

    placed : ℤ → ℤ → ℤ → List ℕ → Read DifferentialTerm
    placed k j c rest = got (record { derivative = nat_abs k; power = nat_abs j; column = nat_abs c; factor = pos 0 }) rest
