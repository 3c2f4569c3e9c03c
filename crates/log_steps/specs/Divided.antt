-- Whether a number divides another, by the remainder.
--
-- Main statements
--   remainder-none, remainder-some   what a remainder says of one number
use Rattle.std.specs.Prelude.{◌%◌, ◌≡◌, ◌≢◌, true, false, eqb, ℤ, pos, nat_abs}
use Rattle.std.proofs.Common.{sym, ◌∙◌, ap, eqb→eq}
use Rattle.std.specs.Int.Signed.{rem_z}
use Rattle.lists.specs.Tests.{false_of}
use Rattle.algebra.specs.Integers.{nat_abs-zero}
use Rattle.algebra.specs.Division.{nat_abs-rem_z}
use Rattle.algebra.specs.Divisors.{divides}

pub remainder-none : (a d : ℤ) → rem_z a d ≡ pos 0 → divides (nat_abs d) (nat_abs a) ≡ true
unfolding divides
remainder-none a d e = ap (λ n. eqb n 0) (sym (nat_abs-rem_z a d) ∙ ap nat_abs e)

pub remainder-some : (a d : ℤ) → rem_z a d ≢ pos 0 → divides (nat_abs d) (nat_abs a) ≡ false
unfolding divides
remainder-some a d n =
    false_of (eqb (nat_abs a % nat_abs d) 0) (λ t. n (nat_abs-zero (nat_abs-rem_z a d ∙ eqb→eq (nat_abs a % nat_abs d) 0 t)))
