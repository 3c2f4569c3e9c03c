-- The numbers of the refusals (SCOPE 6).
--
-- Main definitions
--   number_of r            its number
--   refusal_in r           the number that a result has: 0 where it is no refusal
--
-- Main statements
--   number-nonzero         no refusal has the number 0
--   number-small           nor one past 14
use Rattle.std.specs.Prelude.{ℕ, ◌≢◌, ◌≤◌, Result}
use Rattle.std.proofs.Common.{arith, Ok, Err}
use Rattle.refusals.specs.declared.Refusal.{Refusal}
use Rattle.refusals.specs.declared.Refusal.TheVariants.{ShortStore, OutOfRange, Malformed, WrongEnd, PastBound, DegreePassed, CoefficientPassed, TooManyRelations, Contradiction, WrongState, ValuePassed, WrongLog, NotListed}

abbrev pub number_of : Refusal → ℕ
number_of ShortStore = 1
number_of OutOfRange = 2
number_of Malformed = 3
number_of WrongEnd = 4
number_of PastBound = 5
number_of DegreePassed = 7
number_of CoefficientPassed = 8
number_of TooManyRelations = 9
number_of Contradiction = 10
number_of WrongState = 11
number_of ValuePassed = 12
number_of WrongLog = 13
number_of NotListed = 14

abbrev pub refusal_in : {A : Type 0} → Result A Refusal → ℕ
refusal_in (Ok _) = 0
refusal_in (Err r) = number_of r

pub number-nonzero : (r : Refusal) → number_of r ≢ 0
number-nonzero ShortStore = omega arith
number-nonzero OutOfRange = omega arith
number-nonzero Malformed = omega arith
number-nonzero WrongEnd = omega arith
number-nonzero PastBound = omega arith
number-nonzero DegreePassed = omega arith
number-nonzero CoefficientPassed = omega arith
number-nonzero TooManyRelations = omega arith
number-nonzero Contradiction = omega arith
number-nonzero WrongState = omega arith
number-nonzero ValuePassed = omega arith
number-nonzero WrongLog = omega arith
number-nonzero NotListed = omega arith

pub number-small : (r : Refusal) → number_of r ≤ 14
number-small ShortStore = omega arith
number-small OutOfRange = omega arith
number-small Malformed = omega arith
number-small WrongEnd = omega arith
number-small PastBound = omega arith
number-small DegreePassed = omega arith
number-small CoefficientPassed = omega arith
number-small TooManyRelations = omega arith
number-small Contradiction = omega arith
number-small WrongState = omega arith
number-small ValuePassed = omega arith
number-small WrongLog = omega arith
number-small NotListed = omega arith
