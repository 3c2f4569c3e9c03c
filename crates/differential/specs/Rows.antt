-- Equations read straight into rows: a row is an equation's terms, added as they are read.
--
-- Main definitions
--   terms_row, read_row    so many terms, and an equation, as a row of the recurrence
--   TermsTo              the terms read so far are in the numbers of a row
--
-- Main statements
--   term-right           what is known of a term that was read
--   row_is               an equation is its count and then its terms, added as they are read
--   terms-begin, terms-refused, terms-go-on, terms-end   the terms of an equation, one after another
use Prim.Native.Nat.{ℕ, suc, ◌+◌, ◌*◌, ◌-◌, ◌≤◌, ◌<◌, zero-le, suc-le-suc}
use Rattle.std.proofs.Math.Nat.{le_refl}
use Rattle.std.proofs.Common.{le_trans, mul-le-mul, arith, ◌∙◌, subst, leb-true}
use Rattle.std.specs.Prelude.{◌≡◌, refl, Bool, true, false, ◌&&◌, ◌||◌, cond, List, ◌∷◌, drop, T, leb, ltb, ℤ, pos, nat_abs}
use Rattle.std.proofs.Math.Path.{sym, ap}
use Rattle.std.proofs.Math.ListN.{length}
use Rattle.std.specs.Int.Signed.{le_z, non_neg}
use Rattle.algebra.specs.Polynomials.{is_zero_ℤ}
use Rattle.lists.specs.Everywhere.{All, all_replicate}
use Rattle.rules.specs.Limits.{column_count, row_length}
use Rattle.rules.specs.Calls.{zeros}
use Rattle.rules.specs.Rows.{Row}
use Rattle.rules.specs.Stores.{row_of}
use Rattle.rules.specs.Numbers.{space, newline, Read, got, fault, then_read, field, between}
use Rattle.rules.specs.Sheets.{always, after_count_of, parting, blank_row}
use Rattle.tokens.specs.Fields.{then-got, then-fault, then-cong, then-then, then-parts, field-judged, passed, between-size}
use Rattle.reading.specs.Equations.{got-value, zeros-blank}
use Rattle.reading.specs.Zeros.{length-zeros}
use Rattle.differential.specs.Differential.{DifferentialTerm, factor_bound, most_derivative, most_power, most_terms_of, ValidTerm}
use Rattle.differential.specs.Recurrence.{add_term_of, add_terms, recurrence_row}
use Rattle.differential.specs.Grammar.{Extent, judge_ordered_of, judge_factor_of, first_power_of, first_column_of, no_term_of, read_term, read_terms, most_of}
use Rattle.differential.specs.Grammar.{read_equation}
use Rattle.differential.specs.Read.{SmallExtent, SmallBefore, SmallPlace}
use Rattle.differential.specs.ValidRecurrence.{Within, term_bound}
use Rattle.differential.specs.Added.{added_at, added-long, added-within, row_of-added}

-- The most terms that any equation has.
abbrev pub most_count : ℕ
most_count = most_terms_of column_count most_derivative most_power

pub count-few : (x : Extent) → SmallExtent x → most_of x ≤ most_count
count-few x small =
    let orders : suc x.order ≤ suc most_derivative = suc-le-suc small.order_small in
    let degrees : suc x.degree ≤ suc most_power = suc-le-suc small.degree-small in
    mul-le-mul (mul-le-mul small.unknowns-few orders) degrees

-- ---- what is known of a term that was read

pub ordered-zero : (low high first last : ℕ) (v : ℤ) → judge_ordered_of low high first last v ≡ 0
    → T (non_neg v) × (low ≤ nat_abs v) × (nat_abs v ≤ high) × (nat_abs v ≤ last)
unfolding judge_ordered_of
ordered-zero low high first last v e =
    let range = passed (le_z (pos low) v && le_z v (pos high)) (cond (le_z (pos first) v && le_z v (pos last)) 0 3) 1 e in
    let order = passed (le_z (pos first) v && le_z v (pos last)) 0 2 range.1 in
    let b = between-size low high v range.0 in
    (b.0, b.1, b.2, (between-size first last v order.0).2)

-- The numbers that a power and a column are compared with.
pub power-few : (before : DifferentialTerm) (k : ℕ) → SmallBefore before → first_power_of before k ≤ suc column_count
unfolding first_power_of
power-few before k small = by (ltb k before.derivative)
  where
    by : (t : Bool) → cond t 0 before.power ≤ suc column_count
    by true = zero-le
    by false = omega (arith, small.power_small)

pub column-few : (before : DifferentialTerm) (k j : ℕ) → SmallBefore before → first_column_of before k j ≤ suc column_count
unfolding first_column_of
column-few before k j small = by (ltb k before.derivative || ltb before.power j)
  where
    by : (t : Bool) → cond t 1 (suc before.column) ≤ suc column_count
    by true = omega arith
    by false = omega (arith, small.column-small)

pub factor-zero : (a : ℤ) → judge_factor_of a ≡ 0 → nat_abs a ≤ factor_bound
unfolding judge_factor_of
factor-zero a e = leb-true (nat_abs a) factor_bound (passed (leb (nat_abs a) factor_bound) (cond (is_zero_ℤ a) 3 0) 4 e).0

pub term-right : (x : Extent) (before : DifferentialTerm) (last : ℕ) (bytes : List ℕ) {t : DifferentialTerm} {rest : List ℕ}
    → read_term x before last bytes ≡ got t rest
    → ValidTerm x.unknowns x.order x.degree t
unfolding read_term
term-right x before last bytes e =
    let k = then-parts (field (judge_ordered_of 0 x.order 0 before.derivative) (always space) bytes) _ e in
    let j = then-parts (field (judge_ordered_of 0 x.degree (first_power_of before (nat_abs k.0)) x.degree) (always space) k.1) _ k.3 in
    let c = then-parts
    (field (judge_ordered_of 1 x.unknowns (first_column_of before (nat_abs k.0) (nat_abs j.0)) x.unknowns) (always space) j.1) _
    j.3 in
    let a = then-parts (field judge_factor_of (always last) c.1) _ c.3 in
    let hk = ordered-zero 0 x.order 0 before.derivative k.0
    (field-judged (judge_ordered_of 0 x.order 0 before.derivative) (always space) bytes k.2) in
    let first = first_power_of before (nat_abs k.0) in
    let hj = ordered-zero 0 x.degree first x.degree j.0
    (field-judged (judge_ordered_of 0 x.degree first x.degree) (always space) k.1 j.2) in
    let leftmost = first_column_of before (nat_abs k.0) (nat_abs j.0) in
    let hc = ordered-zero 1 x.unknowns leftmost x.unknowns c.0
    (field-judged (judge_ordered_of 1 x.unknowns leftmost x.unknowns) (always space) j.1 c.2) in
    let ha = factor-zero a.0 (field-judged judge_factor_of (always last) c.1 a.2) in
    subst (ValidTerm x.unknowns x.order x.degree) (got-value a.3)
    (record { derivative-most = hk.2; power-most = hj.2; column-least = hc.1; column-most = hc.2; factor-most = ha })

-- Its place, where the extent is small.
pub term-small : (x : Extent) → SmallExtent x → (t : DifferentialTerm) → ValidTerm x.unknowns x.order x.degree t → SmallPlace t
term-small x small t right =
    record {
      before = record {
        derivative-small = le_trans right.derivative-most small.order_small;
        power_small = le_trans right.power-most small.degree-small;
        column-small = le_trans right.column-most small.unknowns-few;
      };
      column-low = right.column-least;
    }

-- ---- terms added as they are read

unfoldable pub add_read : ℕ → Row → List DifferentialTerm → List ℕ → Read Row
add_read K r ts rest = got (add_terms K r ts) rest

unfoldable pub terms_row : Extent → ℕ → List ℕ → Read Row
terms_row x k bytes = then_read (read_terms x k (no_term_of x) bytes) (add_read x.order blank_row)

-- An equation, as a row of the recurrence.
unfoldable pub row_read_of : ℕ → List DifferentialTerm → List ℕ → Read Row
row_read_of K ts rest = got (recurrence_row K ts) rest

unfoldable pub read_row : Extent → List ℕ → Read Row
read_row x bytes = then_read (read_equation x bytes) (row_read_of x.order)

unfoldable pub terms_of : Extent → ℤ → List ℕ → Read Row
terms_of x k bytes = terms_row x (nat_abs k) bytes

pub row_is : (x : Extent) (bytes : List ℕ)
    → read_row x bytes ≡ then_read (field (between (pos 0) (pos (most_of x))) after_count_of bytes) (terms_of x)
unfolding read_row read_equation terms_of terms_row row_read_of add_read recurrence_row
row_is x bytes =
    then-then (field (between (pos 0) (pos (most_of x))) after_count_of bytes) (λ k rest. read_terms x (nat_abs k) (no_term_of x) rest) (row_read_of x.order)

-- The clause of the definition for one more term.
cons_term : DifferentialTerm → List DifferentialTerm → List ℕ → Read (List DifferentialTerm)
cons_term t ts rest = got (t ∷ ts) rest

then_terms : Extent → ℕ → DifferentialTerm → List ℕ → Read (List DifferentialTerm)
then_terms x k t bytes = then_read (read_terms x k t bytes) (cons_term t)

read_terms-suc : (x : Extent) (k : ℕ) (before : DifferentialTerm) (bytes : List ℕ)
    → read_terms x (suc k) before bytes ≡ then_read (read_term x before (parting newline k) bytes) (then_terms x k)
unfolding read_terms then_terms cons_term
read_terms-suc x k before bytes = refl

-- A term is put first, whatever comes after it.
term-first : (x : Extent) (k : ℕ) (t : DifferentialTerm) (r : Row) (bytes : List ℕ)
    → then_read (then_terms x k t bytes) (add_read x.order r)
    ≡ then_read (read_terms x k t bytes) (add_read x.order (add_term_of x.order t r))
unfolding then_terms cons_term add_read add_terms
term-first x k t r bytes =
    then-then (read_terms x k t bytes) (cons_term t) (add_read x.order r)
    ∙ then-cong (read_terms x k t bytes) (λ ts more. then-got (add_read x.order r) refl)

-- The numbers of `row` are those of the terms before the place `next`; t is the last of them, and `left` terms are to come.
pub record TermsTo (x : Extent) (count : ℕ) (bytes : List ℕ) (at : ℕ) (row : List ℤ) (t : DifferentialTerm) (next left : ℕ) : Type 0 where
  pub within : next ≤ length bytes
  pub long : length row ≡ row_length
  pub fewer : left ≤ count
  pub sizes : All (Within ((count - left) * term_bound)) row
  pub before : SmallBefore t
  pub rest : terms_row x count (drop at bytes) ≡ then_read (read_terms x left t (drop next bytes)) (add_read x.order (row_of row))

module _ (x : Extent) (small : SmallExtent x) (count : ℕ) (bytes : List ℕ) (at : ℕ) where
  pub terms-begin : (row : List ℤ) (t : DifferentialTerm) (next : ℕ) → at ≤ length bytes → row ≡ zeros row_length → t ≡ no_term_of x → next ≡ at
      → TermsTo x count bytes at row t next count
  unfolding zeros terms_row no_term_of
  terms-begin row t next h blank none start =
      record {
        within = rw start h;
        long = ap length blank ∙ length-zeros row_length;
        fewer = le_refl count;
        sizes = rw blank (all_replicate (Within ((count - count) * term_bound)) row_length (pos 0) zero-le);
        before = rw none (record { derivative-small = small.order_small; power_small = zero-le; column-small = zero-le });
        rest = sym (λ i. then_read (read_terms x count (none i) (drop (start i) bytes)) (add_read x.order (row-is-blank i)));
      }
    where
      row-is-blank : row_of row ≡ blank_row
      row-is-blank = ap row_of blank ∙ zeros-blank

  module _ (row : List ℤ) (t : DifferentialTerm) (next left : ℕ) (so_far : TermsTo x count bytes at row t next left) where
    pub terms-end : left ≡ 0 → terms_row x count (drop at bytes) ≡ got (row_of row) (drop next bytes)
    unfolding read_terms add_read add_terms then_read
    terms-end e = so_far.rest
        ∙ ap (λ k. then_read (read_terms x k t (drop next bytes)) (add_read x.order (row_of row))) e

    module _ (some : 0 < left) where
      term-next : read_terms x left t (drop next bytes)
          ≡ then_read (read_term x t (parting newline (left - 1)) (drop next bytes)) (then_terms x (left - 1))
      term-next =
          let e : left ≡ suc (left - 1) = omega arith in
          ap (λ k. read_terms x k t (drop next bytes)) e ∙ read_terms-suc x (left - 1) t (drop next bytes)

      pub terms-refused : (n : ℕ) → read_term x t (parting newline (left - 1)) (drop next bytes) ≡ fault n
          → terms_row x count (drop at bytes) ≡ fault n
      terms-refused n e =
          so_far.rest ∙ then-fault (add_read x.order (row_of row)) (term-next ∙ then-fault (then_terms x (left - 1)) e)

      -- One more term, added at its place.
      pub terms-go-on : (u : DifferentialTerm) (after : ℕ) (row₁ : List ℤ)
          → read_term x t (parting newline (left - 1)) (drop next bytes) ≡ got u (drop after bytes) → after ≤ length bytes
          → row₁ ≡ added_at x.order u row → TermsTo x count bytes at row₁ u after (left - 1)
      terms-go-on u after row₁ e inside same =
          let right = term-right x t (parting newline (left - 1)) (drop next bytes) e in
          let place = term-small x small u right in
          rw same
          (record {
            within = inside;
            long = added-long x.order u small.order_small right.derivative-most place row so_far.long;
            fewer = omega (arith, so_far.fewer);
            sizes = rw (grown so_far.fewer) (added-within x.order u ((count - left) * term_bound) row place right.factor-most
                so_far.sizes);
            before = place.before;
            rest =
                so_far.rest
                ∙ ap (λ r. then_read r (add_read x.order (row_of row))) (term-next ∙ then-got (then_terms x (left - 1)) e)
                ∙ term-first x (left - 1) u (row_of row) (drop after bytes)
                ∙ ap (λ r. then_read (read_terms x (left - 1) u (drop after bytes)) (add_read x.order r))
                (sym (row_of-added x.order u small.order_small right.derivative-most place row so_far.long));
          })
        where
          grown : left ≤ count → (count - (left - 1)) * term_bound ≡ (count - left) * term_bound + term_bound
          grown h = omega arith
