-- The numbers that a run with a budget gives back are small, whatever state it was handed, so that each is a number of a lent store.
--
-- Main definitions
--   SmallState x, SmallRun r, SmallSteps c   the numbers of a state, of a run's result, and of a call
use Prim.Native.Nat.{ℕ, suc, ◌≤◌, ◌<◌, zero-le}
use Rattle.std.proofs.Math.Nat.{le_trans}
use Rattle.std.specs.Prelude.{◌≡◌, map, length}
use Rattle.lists.specs.Everywhere.{All, get_or-all, map-keeps}
use Rattle.lists.specs.Padded.{length-pad_to, all-pad_to}
use Rattle.rules.specs.Limits.{column_count, most_equations, most_relations}
use Rattle.rules.specs.Elimination.{State, leading, rank}
use Rattle.rules.specs.Stores.{Sizes, equations, with_equations_of, span}
use Rattle.rules.specs.Layout.{size-bounds, count_right-iff}
use Rattle.rules.specs.Calls.{Result, reported_order, acceptance}
use Rattle.reduction.specs.Progress.{most_steps}
use Rattle.steps.specs.HeldCalls.{Held, held_state, StepsResult}
use Rattle.steps.specs.SoundStates.{Sound, settled-most, columns-within}

-- Twice the shifts of a run: those that a state says, and those that its rows have before them.
abbrev pub most_shifts : ℕ
most_shifts = 48

pub record SmallState (x : Held) : Type 0 where
  pub few-unknowns : x.sizes.m ≤ column_count
  pub few-rows : equations x.sizes ≤ most_equations
  pub few-relations : x.relations ≤ most_relations
  pub few-settled : x.settled ≤ column_count
  pub four : length x.order ≡ column_count
  pub columns : All (λ c. c ≤ column_count) x.order
  pub few-shifts : x.shifts ≤ most_shifts

pub record SmallRun (r : Result) : Type 0 where
  pub few-relations : r.relations ≤ most_relations
  pub few-shifts : r.shifts ≤ most_shifts
  pub four : length r.order ≡ column_count
  pub columns : All (λ c. c ≤ column_count) r.order
  pub low-rank : r.rank ≤ column_count

pub record SmallSteps (r : StepsResult) : Type 0 where
  pub few-steps : r.steps ≤ most_steps
  pub state : SmallState r.state
  pub run : SmallRun r.run

-- A sound state with few shifts.
module _ (z : Sizes) (s : State) (sound : Sound z s) (few : s.shifts ≤ most_shifts) where
  unknowns : z.m ≤ column_count
  unknowns = (size-bounds z sound.valid.sizes).few

  settled : length s.order ≤ column_count
  settled = le_trans (settled-most z s sound) unknowns

  relations : length s.relations ≤ most_relations
  relations = (count_right-iff (length s.relations)).0 sound.valid.relation-count

  four-columns : length (reported_order s.order) ≡ column_count
  unfolding reported_order
  four-columns = length-pad_to column_count 0 (map suc s.order)

  small-columns : All (λ c. c ≤ column_count) (reported_order s.order)
  unfolding reported_order
  small-columns = all-pad_to (λ c. c ≤ column_count) column_count 0 (map suc s.order) zero-le
      (map-keeps (λ c. c < z.m) (λ c. c ≤ column_count) suc (λ c h. le_trans h unknowns) s.order
      (get_or-all (λ c. c < z.m) s.order 0 (columns-within z s sound)))

  pub small-state : SmallState (held_state z s)
  unfolding held_state with_equations_of equations
  small-state =
      record {
        few-unknowns = unknowns;
        few-rows = le_trans sound.few-rows (size-bounds z sound.valid.sizes).few-equations;
        few-relations = relations;
        few-settled = settled;
        four = four-columns;
        columns = small-columns;
        few-shifts = few;
      }

  pub small-acceptance : SmallRun (acceptance leading (span z) s)
  unfolding acceptance rank
  small-acceptance =
      record { few-relations = relations; few-shifts = few; four = four-columns; columns = small-columns; low-rank = settled }
