-- `integers::gcd` ends: the measure is the second operand, since the remainder of a division by it is smaller.
use Rattle.integers.proofs.+gcd.Given as goal

abbrev pub decreases-gcd : goal.decreases-gcd
decreases-gcd l = l.b
