-- Differential sheets when more bytes follow: so many bytes decide, and what is read is valid.
--
-- Main definitions
--   term_bytes, equation_bytes, sheet_bytes   the bytes that decide a term, an equation and the equations of a sheet, each
--                          number with its separator
--   most_sheet_bytes         one more: bytes that are so many are a fault
--
-- Main statements
--   differential-accepted  a sheet that is read is valid
--   differential-window    the first `most_sheet_bytes` bytes are read as all bytes are
--   differential-long      bytes that are so many or more are a fault
--   read-window, write-window   so the calls do with the first bytes what they would do with all
use Prim.Native.Nat.{ℕ, zero, suc, ◌+◌, ◌*◌, ◌≤◌, ◌<◌, zero-le, suc-le-suc}
use Rattle.std.proofs.Common.{le_trans, mul-le-mul, mul-le-mul_right, sym, ap, subst, leb→le}
use native.Mathlib.Omega.{arith}
use Rattle.std.specs.Prelude.{◌≡◌, refl, ◌&&◌, T, leb, length, take, ℤ, pos, negsuc, nat_abs}
use mathlib.Core.List.{List, [], ◌∷◌, ◌++◌}
use Rattle.std.specs.Int.Signed.{le_z}
use Rattle.lists.specs.Everywhere.{All, all-mono}
use Rattle.lists.specs.Tests.{T-&&, cond-zero}
use Rattle.rules.specs.Limits.{column_count, most_equations}
use Rattle.rules.specs.Numbers.{space, newline, got, fault, then_read, between}
use Rattle.rules.specs.Sheets.{always, parting}
use Rattle.rules.specs.SheetCalls.{after_read}
use Rattle.tokens.specs.Exact.{fault-got, got-inj}
use Rattle.tokens.specs.Windows.{number_line}
use Rattle.differential.specs.Differential.{DifferentialTerm, DifferentialSheet, ValidTerm, ValidDifferential}
use Rattle.differential.specs.Differential.{most_derivative, most_power, most_terms_of, factor_bound}
use Rattle.differential.specs.Recurrence.{recurrence_of}
use Rattle.differential.specs.Grammar.{Extent, read_extent, judge_ordered_of, judge_factor_of}
use Rattle.differential.specs.Grammar.{first_power_of, first_column_of}
use Rattle.differential.specs.Grammar.{no_term_of, read_term, read_terms, most_of, read_equation, read_equations, read_end}
use Rattle.differential.specs.Grammar.{sheet_of, read_differential_of}
use Rattle.differential.specs.Calls.{read_recurrence, read_differential_call, write_read_of, write_recurrence_call}
use Rattle.differential.specs.Deciding.{Decides, field-decides, nothing-decides, more-decides, weaken-decides}
use Rattle.differential.specs.Deciding.{then-decides, Closes, then-closes}
use Rattle.differential.specs.Deciding.{closes-window, closes-refused}

-- ---- the bytes of a sheet

-- Four numbers a term.
abbrev pub term_bytes : ℕ
term_bytes = 4 * number_line

-- The count of the terms, and no more terms than the largest m, K and J allow.
abbrev pub equation_bytes : ℕ
equation_bytes = number_line + most_terms_of column_count most_derivative most_power * term_bytes

-- Four numbers in the first line, the count of the equations, and the equations (SCOPE 10.2 to 10.4).
abbrev pub sheet_bytes : ℕ
sheet_bytes = 5 * number_line + most_equations * equation_bytes

-- One byte more is a fault (SCOPE 10.14, 10.52).
abbrev pub most_sheet_bytes : ℕ
most_sheet_bytes = suc sheet_bytes

-- ---- what the judgements let through

ranged : (low high : ℕ) (v : ℤ) → T (le_z (pos low) v && le_z v (pos high)) → (low ≤ nat_abs v) × (nat_abs v ≤ high)
ranged low high (pos n) h =
    let both = (T-&& (leb low n) (leb n high)).0 h in
    (leb→le low n both.0, leb→le n high both.1)
ranged low high (negsuc n) h = absurd h

between-ranged : (low high : ℕ) (v : ℤ) → between (pos low) (pos high) v ≡ 0 → (low ≤ nat_abs v) × (nat_abs v ≤ high)
unfolding between
between-ranged low high v e = ranged low high v (cond-zero (le_z (pos low) v && le_z v (pos high)) 0 1 e).0

ordered-ranged : (low high first last : ℕ) (v : ℤ) → judge_ordered_of low high first last v ≡ 0
    → (low ≤ nat_abs v) × (nat_abs v ≤ high)
unfolding judge_ordered_of
ordered-ranged low high first last v e = ranged low high v (cond-zero (le_z (pos low) v && le_z v (pos high)) _ 1 e).0

factor-ranged : (a : ℤ) → judge_factor_of a ≡ 0 → nat_abs a ≤ factor_bound
unfolding judge_factor_of
factor-ranged a e = leb→le (nat_abs a) factor_bound (cond-zero (leb (nat_abs a) factor_bound) _ 4 e).0

-- ---- the first two lines

pub record ExtentRight (x : Extent) : Type 0 where
  pub unknowns-least : 1 ≤ x.unknowns
  pub unknowns-most : x.unknowns ≤ column_count
  pub order-most : x.order ≤ most_derivative
  pub degree-most : x.degree ≤ most_power
  pub equations-most : x.equations ≤ most_equations

extent-decides : Decides (5 * number_line) ExtentRight read_extent
unfolding read_extent
extent-decides =
    then-decides (field-decides (between (pos 3) (pos 3)) (always space)) λ three _.
    then-decides (field-decides (between (pos 1) (pos column_count)) (always space)) λ m hm.
    then-decides (field-decides (between (pos 0) (pos most_derivative)) (always space)) λ K hK.
    then-decides (field-decides (between (pos 0) (pos most_power)) (always newline)) λ J hJ.
    then-decides (field-decides (between (pos 0) (pos most_equations)) (always newline)) λ n hn.
    nothing-decides _ (record {
      unknowns-least = (between-ranged 1 column_count m hm).0;
      unknowns-most = (between-ranged 1 column_count m hm).1;
      order-most = (between-ranged 0 most_derivative K hK).1;
      degree-most = (between-ranged 0 most_power J hJ).1;
      equations-most = (between-ranged 0 most_equations n hn).1;
    })

-- ---- the equations

module _ (x : Extent) (right : ExtentRight x) where
  abbrev TermRight : DifferentialTerm → Type 0
  TermRight = ValidTerm x.unknowns x.order x.degree

  abbrev EquationRight : List DifferentialTerm → Type 0
  EquationRight ts = (length ts ≤ most_of x) × All TermRight ts

  term-decides : (before : DifferentialTerm) (last : ℕ) → Decides term_bytes TermRight (read_term x before last)
  unfolding read_term
  term-decides before last =
      then-decides (field-decides _ _) λ k hk.
      then-decides (field-decides _ _) λ j hj.
      then-decides (field-decides _ _) λ c hc.
      then-decides (field-decides _ _) λ a ha.
      nothing-decides _ (record {
        derivative-most = (ordered-ranged 0 x.order 0 before.derivative k hk).1;
        power-most = (ordered-ranged 0 x.degree (first_power_of before (nat_abs k)) x.degree j hj).1;
        column-least = (ordered-ranged 1 x.unknowns (first_column_of before (nat_abs k) (nat_abs j)) x.unknowns c hc).0;
        column-most = (ordered-ranged 1 x.unknowns (first_column_of before (nat_abs k) (nat_abs j)) x.unknowns c hc).1;
        factor-most = factor-ranged a ha;
      })

  terms-decides : (k : ℕ) (before : DifferentialTerm)
      → Decides (k * term_bytes) (λ ts. (length ts ≡ k) × All TermRight ts) (read_terms x k before)
  unfolding read_terms All
  terms-decides zero before = nothing-decides [] (refl, tt)
  terms-decides (suc k) before = more-decides enough
      (then-decides (term-decides before (parting newline k)) λ t ht.
      then-decides (terms-decides k t) λ ts hts.
      nothing-decides _ (ap suc hts.0, (ht, hts.1)))
    where
      enough : term_bytes + (k * term_bytes + 0) ≤ suc k * term_bytes
      enough = omega arith

  few-terms : most_of x ≤ most_terms_of column_count most_derivative most_power
  few-terms =
      mul-le-mul (mul-le-mul right.unknowns-most (suc-le-suc right.order-most)) (suc-le-suc right.degree-most)

  equation-decides : Decides equation_bytes EquationRight (read_equation x)
  unfolding read_equation
  equation-decides =
      then-decides {k = most_terms_of column_count most_derivative most_power * term_bytes} (field-decides _ _) λ k hk.
      let few = (between-ranged 0 (most_of x) k hk).1 in
      weaken-decides (λ ts h. (subst (λ n. n ≤ most_of x) (sym h.0) few, h.1))
      (more-decides (mul-le-mul_right term_bytes (le_trans few few-terms)) (terms-decides (nat_abs k) (no_term_of x)))

  equations-decides : (n : ℕ)
      → Decides (n * equation_bytes) (λ es. (length es ≡ n) × All EquationRight es) (read_equations x n)
  unfolding read_equations All
  equations-decides zero = nothing-decides [] (refl, tt)
  equations-decides (suc n) = more-decides enough
      (then-decides equation-decides λ e he.
      then-decides (equations-decides n) λ es hes.
      nothing-decides _ (ap suc hes.0, (he, hes.1)))
    where
      enough : equation_bytes + (n * equation_bytes + 0) ≤ suc n * equation_bytes
      enough = omega arith

-- ---- the sheet

end-closes : (d : DifferentialSheet) → ValidDifferential d → Closes 0 ValidDifferential (read_end d)
unfolding read_end
end-closes d h = record { longer = longer; few = few; good = good }
  where
    longer : (w x : List ℕ) → 0 < length w → read_end d (w ++ x) ≡ read_end d w
    longer [] x i = absurd (omega arith)
    longer (b ∷ w) x i = refl

    few : (bytes : List ℕ) (a : DifferentialSheet) (rest : List ℕ) → read_end d bytes ≡ got a rest → length bytes ≤ 0
    few [] a rest e = zero-le
    few (b ∷ bytes) a rest e = absurd (fault-got 4 a rest e)

    good : (bytes : List ℕ) (a : DifferentialSheet) (rest : List ℕ) → read_end d bytes ≡ got a rest → ValidDifferential a
    good [] a rest e = subst ValidDifferential (got-inj d a [] rest e).0 h
    good (b ∷ bytes) a rest e = absurd (fault-got 4 a rest e)

sheet-accepted : (x : Extent) (h : ExtentRight x) (es : List (List DifferentialTerm)) → length es ≡ x.equations
    → All (EquationRight x h) es → ValidDifferential (sheet_of x es)
sheet-accepted x h es as_many all =
    record {
      unknowns-least = h.unknowns-least;
      unknowns-most = h.unknowns-most;
      order-most = h.order-most;
      degree-most = h.degree-most;
      equations-most = rw as_many h.equations-most;
      term-counts = all-mono (EquationRight x h) (λ ts. length ts ≤ most_of x) (λ ts i. i.0) es all;
      terms = all-mono (EquationRight x h) (All (TermRight x h)) (λ ts i. i.1) es all;
    }

pub differential-closes : Closes sheet_bytes ValidDifferential read_differential_of
unfolding read_differential_of
differential-closes =
    then-closes extent-decides λ x h.
    then-closes {j = most_equations * equation_bytes}
    (more-decides (mul-le-mul_right equation_bytes h.equations-most) (equations-decides x h x.equations))
    λ es i.
    end-closes (sheet_of x es) (sheet-accepted x h es i.0 i.1)

pub differential-accepted : (bytes : List ℕ) (d : DifferentialSheet) (rest : List ℕ)
    → read_differential_of bytes ≡ got d rest → ValidDifferential d
differential-accepted bytes d rest e = differential-closes.good bytes d rest e

-- The first bytes decide (SCOPE 10.52).
pub differential-window : (bytes : List ℕ) → read_differential_of (take most_sheet_bytes bytes) ≡ read_differential_of bytes
differential-window bytes = closes-window differential-closes bytes

pub differential-long : (bytes : List ℕ) → most_sheet_bytes ≤ length bytes → (n : ℕ) × (read_differential_of bytes ≡ fault n)
differential-long bytes h = closes-refused differential-closes bytes h

-- ---- the calls

same-recurrence : (w bytes : List ℕ) → read_differential_of w ≡ read_differential_of bytes
    → read_recurrence w ≡ read_recurrence bytes
unfolding read_recurrence
same-recurrence w bytes e = ap (λ r. then_read r (λ d rest. got (recurrence_of d) rest)) e

same_read : (w bytes : List ℕ) (row_store relation_store : List ℤ) → read_recurrence w ≡ read_recurrence bytes
    → read_differential_call w row_store relation_store ≡ read_differential_call bytes row_store relation_store
unfolding read_differential_call
same_read w bytes row_store relation_store e = ap (λ r. after_read r row_store relation_store) e

same_write : (w bytes byte_store : List ℕ) → read_recurrence w ≡ read_recurrence bytes
    → write_recurrence_call w byte_store ≡ write_recurrence_call bytes byte_store
unfolding write_recurrence_call
same_write w bytes byte_store e = ap (λ r. write_read_of r byte_store) e

-- A call that is lent the first bytes of a longer sheet does what it would do with all of them (SCOPE 10.52).
pub read-window : (bytes : List ℕ) (row_store relation_store : List ℤ)
    → read_differential_call (take most_sheet_bytes bytes) row_store relation_store
    ≡ read_differential_call bytes row_store relation_store
read-window bytes row_store relation_store =
    same_read _ bytes row_store relation_store (same-recurrence _ bytes (differential-window bytes))

pub write-window : (bytes byte_store : List ℕ)
    → write_recurrence_call (take most_sheet_bytes bytes) byte_store ≡ write_recurrence_call bytes byte_store
write-window bytes byte_store = same_write _ bytes byte_store (same-recurrence _ bytes (differential-window bytes))
