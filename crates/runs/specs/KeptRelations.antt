-- A run does not look at the relations that are there before it: it lists its own behind them. With others of the same number in their place
-- it goes the same way.
--
-- Main definitions
--   behind R s           the state s, its relations behind R
--   outcome_behind R x    the outcome x, so
--   Alike R Q x y        x and y are one outcome, behind R and behind Q
--
-- Main statements
--   run-alike            runs from a state behind R and behind Q, of one length, are alike
use Prim.Native.Nat.{ℕ, zero, suc, ◌+◌}
use Rattle.std.specs.Prelude.{◌≡◌, Bool, true, false, cond, ltb, leb}
use Rattle.std.proofs.Math.Path.{refl, subst₂}
use Rattle.std.proofs.Common.{sym, ◌∙◌, ap, subst, length-append}
use mathlib.Core.List.{List, ◌++◌, map, append_assoc}
use Rattle.std.proofs.Math.Option.{Option, none, some}
use Rattle.std.proofs.Math.ListN.{length}
use Rattle.rules.specs.Limits.{most_relations}
use Rattle.rules.specs.Rows.{Relation, zero_row, contradicts, width, leading_block, entry, first_nonzero, combine, primitive, shift_up}
use Rattle.rules.specs.Elimination.{Side, State, Outcome, going, done, refused, Limited, within, beyond, limit_coefficients, limit_degrees}
use Rattle.rules.specs.Elimination.{consistent, row_at, put_row, list_relations, settle, drop_row, count_shift, exchange, put_limited_of}
use Rattle.rules.specs.Elimination.{root_relations, combine_step_of, Multipliers, multipliers_at, narrow_first, eliminate_step_of, shift_step_of, settle_or_shift}
use Rattle.rules.specs.Elimination.{meet, work_on, finished, step, and_then, run}

abbrev pub behind : List Relation → State → State
behind R s = record { rows = s.rows; relations = R ++ s.relations; order = s.order; shifts = s.shifts }

unfoldable pub outcome_behind : List Relation → Outcome → Outcome
outcome_behind R (going s) = going (behind R s)
outcome_behind R (done s) = done (behind R s)
outcome_behind R (refused n) = refused n

pub record Alike (R Q : List Relation) (x y : Outcome) : Type 0 where
  pub common : Outcome
  pub first : x ≡ outcome_behind R common
  pub second : y ≡ outcome_behind Q common

-- ---- one step

-- Relations listed behind others.
listed-behind : (R : List Relation) (s : State) (l : List Relation) → list_relations (behind R s) l ≡ behind R (list_relations s l)
unfolding list_relations
listed-behind R s l =
    ap (λ e. record { rows = s.rows; relations = e; order = s.order; shifts = s.shifts }) (append_assoc R s.relations l)

narrow-behind : (R : List Relation) (s : State) (i j : ℕ) → narrow_first (behind R s) i j ≡ behind R (narrow_first s i j)
unfolding narrow_first exchange put_row row_at
narrow-behind R s i j = cases (ltb (width (row_at s i)) (width (row_at s j)))
  where
    cases : (t : Bool) → cond t (exchange (behind R s) i j) (behind R s) ≡ behind R (cond t (exchange s i j) s)
    cases true = refl
    cases false = refl

module _ (R Q : List Relation) (e : length R ≡ length Q) where
  alike-cond : (t : Bool) {x y z w : Outcome} → Alike R Q x y → Alike R Q z w → Alike R Q (cond t x z) (cond t y w)
  alike-cond true h g = h
  alike-cond false h g = g

  alike-refused : (n : ℕ) → Alike R Q (refused n) (refused n)
  unfolding outcome_behind
  alike-refused n = record { common = refused n; first = refl; second = refl }

  alike-going : (s : State) → Alike R Q (going (behind R s)) (going (behind Q s))
  unfolding outcome_behind
  alike-going s = record { common = going s; first = refl; second = refl }

  alike-put : (s : State) (i : ℕ) (l : Limited) → Alike R Q (put_limited_of (behind R s) i l) (put_limited_of (behind Q s) i l)
  unfolding put_limited_of put_row
  alike-put s i (within r) = alike-going (put_row s i r)
  alike-put s i (beyond n) = alike-refused n

  -- As many relations on either side.
  alike-count : (s : State) → leb (length (R ++ s.relations)) most_relations ≡ leb (length (Q ++ s.relations)) most_relations
  alike-count s = ap (λ n. leb n most_relations) (length-append R s.relations ∙ ap (λ n. n + length s.relations) e
      ∙ sym (length-append Q s.relations))

  alike-combine : (side : Side) (s : State) (i j : ℕ) (x : Multipliers)
      → Alike R Q (combine_step_of side (behind R s) i j x) (combine_step_of side (behind Q s) i j x)
  unfolding combine_step_of row_at
  alike-combine side s i j x =
      subst₂ (Alike R Q) (sym (ap put (listed-behind R s l))) (sym (ap put (listed-behind Q s l)))
      (subst (λ t. Alike R Q (cond t (put_limited_of (behind R listed) i new) (refused 9)) (put (behind Q listed))) (sym (alike-count listed))
      (alike-cond (leb (length (Q ++ listed.relations)) most_relations) (alike-put listed i new) (alike-refused 9)))
    where
      l : List Relation
      l = root_relations side x.g (row_at s i)

      listed : State
      listed = list_relations s l

      new : Limited
      new = consistent (limit_degrees (primitive (combine x.g x.h (row_at s i) (row_at s j))))

      put : State → Outcome
      put t = cond (leb (length t.relations) most_relations) (put_limited_of t i new) (refused 9)

  alike-eliminate : (side : Side) (s : State) (i j : ℕ) → Alike R Q (eliminate_step_of side (behind R s) i j) (eliminate_step_of side (behind Q s) i j)
  unfolding eliminate_step_of multipliers_at row_at
  alike-eliminate side s i j =
      subst₂ (Alike R Q) (sym (ap work (narrow-behind R s i j))) (sym (ap work (narrow-behind Q s i j)))
      (alike-combine side (narrow_first s i j) i j (multipliers_at (narrow_first s i j) i j))
    where
      work : State → Outcome
      work t = combine_step_of side t i j (multipliers_at t i j)

  alike-settle : (s : State) (i : ℕ) (c : Option ℕ) → Alike R Q (settle_or_shift (behind R s) i c) (settle_or_shift (behind Q s) i c)
  unfolding settle_or_shift settle shift_step_of count_shift row_at
  alike-settle s i (some c) = alike-going (settle s c)
  alike-settle s i none = alike-put (count_shift s) i (limit_coefficients (shift_up (row_at s i)))

  alike-meet : (side : Side) (s : State) (i : ℕ) (j : Option ℕ) → Alike R Q (meet side (behind R s) i j) (meet side (behind Q s) i j)
  unfolding meet row_at
  alike-meet side s i (some j) = alike-eliminate side s i j
  alike-meet side s i none = alike-settle s i (first_nonzero (leading_block (row_at s i)))

  alike-step : (side : Side) (s : State) → Alike R Q (step side (behind R s)) (step side (behind Q s))
  unfolding step work_on row_at drop_row
  alike-step side s =
      let i = length s.order in
      alike-cond (zero_row (row_at s i)) (alike-going (drop_row s i))
      (alike-cond (contradicts (row_at s i)) (alike-refused 10) (alike-meet side s i (first_nonzero (map (entry (row_at s i)) s.order))))

  -- ---- the run

  alike_then : {x y : Outcome} (f : State → Outcome) → ((s : State) → Alike R Q (f (behind R s)) (f (behind Q s))) → Alike R Q x y
      → Alike R Q (and_then x f) (and_then y f)
  unfolding and_then outcome_behind
  alike_then {x} {y} f h a =
      subst₂ (λ z w. Alike R Q (and_then z f) (and_then w f)) (sym a.first) (sym a.second) (cases a.common)
    where
      cases : (z : Outcome) → Alike R Q (and_then (outcome_behind R z) f) (and_then (outcome_behind Q z) f)
      cases (going s) = h s
      cases (done s) = record { common = done s; first = refl; second = refl }
      cases (refused n) = alike-refused n

  pub run-alike : (side : Side) (k : ℕ) (s : State) → Alike R Q (run side k (behind R s)) (run side k (behind Q s))
  unfolding run finished outcome_behind
  run-alike side zero s = alike-cond (finished s) (record { common = done s; first = refl; second = refl }) (alike-going s)
  run-alike side (suc k) s =
      alike-cond (finished s) (record { common = done s; first = refl; second = refl })
      (alike_then (run side k) (run-alike side k) (alike-step side s))
