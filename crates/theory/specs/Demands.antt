-- Demand 3, sentence by sentence, for both sides (SCOPE 2.114 to 2.119, 2.122), and what else is proved of a run
-- (SCOPE 9.26 to 9.30, 9.41): the words of the theorems in proofs/Demands.antt.
--
-- Main definitions
--   Accepted side z rows relations s   the system is valid and the whole run on that side accepts it with the final state s
--   begun side D rows relations        the state from which a run on that side takes its steps
--   Ended o                            the outcomes of a run that has ended
use Rattle.std.specs.Prelude.{ℕ, ◌≡◌, List}
use Rattle.rules.specs.Rows.{Row, Relation}
use Rattle.rules.specs.Elimination.{Side, leading, trailing, State, Outcome, done, refused, start}
use Rattle.rules.specs.Elimination.{whole_run_of, mirror_state}
use Rattle.rules.specs.Stores.{Sizes, span, Valid}

-- The run returns no refusal (SCOPE 2.111). Valid is exactly what the checks of a call let through.
pub record Accepted (side : Side) (z : Sizes) (rows : List Row) (relations : List Relation) (s : State) : Type 0 where
  pub valid : Valid z rows relations
  pub accepts : whole_run_of side (span z) rows relations ≡ done s

-- The system as it stands, on the trailing side its mirror (SCOPE 2.91).
unfoldable pub begun : Side → ℕ → List Row → List Relation → State
unfolding start mirror_state
begun leading D rows relations = start rows relations
begun trailing D rows relations = mirror_state D (start rows relations)

-- 6. Every run on a valid system ends in an acceptance or in one of the refusals 7 to 10 (SCOPE 9.26).
pub data Ended : Outcome → Type 0 where
  accepted : (s : State) → Ended (done s)
  seven : Ended (refused 7)
  eight : Ended (refused 8)
  nine : Ended (refused 9)
  ten : Ended (refused 10)
