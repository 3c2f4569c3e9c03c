-- The kinds of the steps of a log, and their numbers there (SCOPE 13.12).
--
-- Main definitions
--   number_of k            the number of a kind
--   KindRead n r           r is the kind with the number n; where there is none, the log is wrong
use Rattle.std.specs.Prelude.{ℕ, ◌≡◌, ◌≢◌, ℤ, pos, Result, MatchResult}
use Rattle.refusals.specs.declared.Refusal.{Refusal}
use Rattle.refusals.specs.declared.Refusal.TheVariants.{WrongLog}
use Rattle.log_steps.specs.declared.kinds.Kind.{Kind}
use Rattle.log_steps.specs.declared.kinds.Kind.TheVariants.{Exchange, Combination, Raise, Lower, Drop}

abbrev pub number_of : Kind → ℕ
number_of Exchange = 1
number_of Combination = 2
number_of Raise = 3
number_of Lower = 4
number_of Drop = 5

abbrev pub KindRead : ℤ → Result Kind Refusal → Type 0
KindRead n r = MatchResult r (λ k. n ≡ pos (number_of k)) (λ e. (e ≡ WrongLog) × ((k : Kind) → n ≢ pos (number_of k)))
