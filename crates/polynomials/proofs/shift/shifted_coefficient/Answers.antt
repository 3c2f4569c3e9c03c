-- `polynomials::shift::shifted_coefficient` meets its contract: the loop adds up the terms of the expansion of p(n + 1) at n^k; those
-- before j = k are zero.
-- Assumes nothing.
use mathlib.Core.Path.{◌≡◌, sym, ◌∙◌, subst}
use Prim.Native.Nat.{ℕ, suc, ◌*◌, ◌^◌, ◌≤◌}
use native.Mathlib.Numerals.{add-one}
use native.Mathlib.Omega.{arith}
use lib.Dec.{lit<}
use lib.IntN.{ℤ, pos, nat_abs, ◌+ℤ◌, ◌*ℤ◌}
use lib.ListN.{get_or}
use borrow.Author.Rules.{sfits_of}
use mir.Syntax.{w64}
use mir.Val.{SFits, of_z, to_z}
use mir.Facts.{to_z-of_z}
use Rattle.algebra.specs.Binomials as Binomials
use Rattle.algebra.specs.Polynomials.{coeff, shift}
use Rattle.rules.specs.Limits.{bound, coefficient_count}
use Rattle.integers.specs.Ranges.{sfits-size}
use Rattle.polynomials.specs.Shift.{expansion, expansion-first, expansion-next, expansion-all, expansion-size, shift-size, term-size}
use Rattle.polynomials.proofs.shift.shifted_coefficient.Goals as goal
use Rattle.polynomials.proofs.shift.shifted_coefficient.Goals.{After-sum-1, Start}

-- the sum of n terms is in the range of an i64
module _ (s : Start) (n : ℕ) (h : n ≤ coefficient_count) where
  abbrev terms : ℤ
  terms = expansion s.args.p.now s.args.k n

  sum_fits : SFits w64 terms
  sum_fits = sfits-size terms (expansion-size s.args.p.now s.requires.2 s.args.k n h) (lit< tt)

-- what a turn knows of the term that it adds
module _ (c : After-sum-1) where
  abbrev s : Start
  s = c.before.before.before.before

  abbrev j : ℕ
  j = c.loop-j.j

  abbrev x : ℤ
  x = get_or s.args.p.now j (pos 0)

  abbrev number : ℤ
  number = pos (Binomials.binomial j s.args.k)

  number_is : c.binomial.result ≡ number
  number_is = c.binomial.ensures

  fits-x : SFits w64 x
  fits-x = sfits_of c.sum-1.given

  fits-number : SFits w64 number
  fits-number =
      let fits : SFits w64 c.binomial.result = sfits_of c.binomial.type_inv in
      rw number_is at fits

  fits-term : SFits w64 (number *ℤ x)
  unfolding coeff
  fits-term = sfits-size (number *ℤ x) (term-size s.args.p.now s.requires.2 s.args.k j (omega arith)) (lit< tt)

  abbrev product-read : ℤ
  product-read = to_z w64 (of_z w64 c.binomial.result) *ℤ to_z w64 (of_z w64 x)

  -- the machine's sum, each operand read back from its bits
  next : to_z w64 c.loop-j.sum-bits +ℤ to_z w64 (of_z w64 product-read)
      ≡ expansion s.args.p.now s.args.k (suc j)
  unfolding coeff
  next =
      simp (c.loop-j.invariant.1, number_is, to_z-of_z fits-x, to_z-of_z fits-number, to_z-of_z fits-term)
      (sym (expansion-next s.args.p.now s.args.k j))

pub loop-j-init : goal.loop-j-init
loop-j-init c = (omega arith, sym (expansion-first c.args.p.now c.args.k))

pub overflow_mul-sum : goal.overflow_mul-sum
overflow_mul-sum c = simp (number_is c, to_z-of_z (fits-number c), to_z-of_z (fits-x c)) (fits-term c)

pub overflow_add-sum : goal.overflow_add-sum
overflow_add-sum c = rw (next c) (sum_fits (s c) (suc (j c)) (omega arith))

pub loop-j-preserved : goal.loop-j-preserved
loop-j-preserved c =
    (omega arith, rw (next c) (rw add-one (to_z-of_z (sum_fits (s c) (suc (j c)) (omega arith)))))

pub returns : goal.returns
returns c =
    let s = c.before.before in
    let p = s.args.p.now in
    let k = s.args.k in
    let j = c.loop-j.j in
    let value : to_z w64 c.loop-j.sum-bits ≡ coeff (shift p) k = c.loop-j.invariant.1 ∙ expansion-all p k j (omega arith) in
    record { value = value; size = subst (λ r. nat_abs r ≤ 2 ^ coefficient_count * bound) (sym value) (shift-size p s.requires.2 s.requires.1 k) }
