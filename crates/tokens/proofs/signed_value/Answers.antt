-- `tokens::signed_value` meets its contract. Ten digits are below 2^63.
-- Assumes nothing.
use Rattle.std.proofs.Common.{◌≡◌, ℕ, ◌^◌, ◌<◌, cond, pos, ◌-ℤ◌, neg_ℤ, sym, ap, ◌∙◌, lt_of_lt_of_le, le_of_lt, arith, lit<, lit≤, to_z-of_z, w64, SFits, to_z}
use lib.IntN.{+ℤ_idl}
use mir.Facts.{to_z_pos}
use Rattle.integers.specs.Ranges.{sfits-size}
use Rattle.algebra.specs.Integers.{nat_abs-neg_ℤ}
use Rattle.tokens.proofs.signed_value.Goals as goal

pub overflow_cast-value : goal.overflow_cast-value
overflow_cast-value c = omega arith

-- Ten digits, read as a signed number, and their negation.
module _ (n : ℕ) (h : n < 10 ^ 10) where
  value-is : to_z w64 n ≡ pos n
  value-is = to_z_pos w64 (lt_of_lt_of_le h (lit≤ tt))

  negated-is : pos 0 -ℤ to_z w64 n ≡ neg_ℤ (pos n)
  negated-is = ap (λ z. pos 0 -ℤ z) value-is ∙ +ℤ_idl (neg_ℤ (pos n))

  negated_fits : SFits w64 (pos 0 -ℤ to_z w64 n)
  negated_fits = rw negated-is (sfits-size (neg_ℤ (pos n)) {k = 10 ^ 10} (rw (nat_abs-neg_ℤ (pos n)) (le_of_lt h)) (lit< tt))

pub overflow_sub-result : goal.overflow_sub-result
overflow_sub-result c = negated_fits _ c.requires

pub returns-then-negative : goal.returns-then-negative
returns-then-negative c =
    to_z-of_z {w = w64} (negated_fits _ c.requires) ∙ negated-is _ c.requires
    ∙ sym (ap (λ t. cond t (neg_ℤ (pos c.args.size)) (pos c.args.size)) c.if-negative.true)

pub returns-else-negative : goal.returns-else-negative
returns-else-negative c =
    value-is _ c.requires ∙ sym (ap (λ t. cond t (neg_ℤ (pos c.args.size)) (pos c.args.size)) c.if-negative.false)
