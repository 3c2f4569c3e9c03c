-- The step that the numbers of a log say, as the code has it.
--
-- Main definitions
--   said_of x s            the step s, whose multipliers are in x
--   Said x r               r is the step that the numbers x say, fit for a replay; where they say none, the log is wrong
--   Row x r                r is the row of a step of one row
use Rattle.std.specs.Prelude.{ℕ, ◌≡◌, true, false, List, T, ℤ, pos, nat_abs, Result, MatchResult, get_or}
use Rattle.std.proofs.Math.Option.{none, some}
use Rattle.std.specs.Int.Signed.{lt_z}
use Rattle.lists.specs.Tests.{every}
use Rattle.rules.specs.Limits.{small}
use Rattle.refusals.specs.declared.Refusal.{Refusal}
use Rattle.refusals.specs.declared.Refusal.TheVariants.{WrongLog}
use Rattle.log_steps.specs.Logs.{Change, exchanging, combining, raising, lowering, dropping, place_of, multiplier_g, multiplier_h, change_of}
use Rattle.replays.specs.Given.{row_formed_of}
use Rattle.replays.specs.declared.given.Step.{Step}
use Rattle.replays.specs.declared.given.Step.TheVariants.{Exchange, Combination, Raise, Lower, Drop}

abbrev pub said_of : List ℤ → Step → Change
said_of x (Exchange i j) = exchanging i j
said_of x (Combination i j d) = combining i j (nat_abs d) (multiplier_g x) (multiplier_h x)
said_of x (Raise i) = raising i
said_of x (Lower i) = lowering i
said_of x (Drop i) = dropping i

-- The integer of a combination is positive, and its multipliers are within ±C.
abbrev pub Usable : List ℤ → Step → Type 0
Usable x (Exchange i j) = Unit {0}
Usable x (Combination i j d) = T (lt_z (pos 0) d) × T (every small (multiplier_g x)) × T (every small (multiplier_h x))
Usable x (Raise i) = Unit {0}
Usable x (Lower i) = Unit {0}
Usable x (Drop i) = Unit {0}

abbrev pub Said : List ℤ → Result Step Refusal → Type 0
Said x r = MatchResult r (λ s. (change_of x ≡ some (said_of x s)) × Usable x s) (λ e. (e ≡ WrongLog) × (change_of x ≡ none))

abbrev pub Row : List ℤ → Result ℕ Refusal → Type 0
Row x r = MatchResult r (λ i. (row_formed_of x ≡ true) × (i ≡ place_of (get_or x 1 (pos 0)))) (λ e. (e ≡ WrongLog) × (row_formed_of x ≡ false))
