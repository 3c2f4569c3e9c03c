-- What a step of a log that goes on has done.
--
-- Main definitions
--   Changed D s s'       s' is the state after a step of a log from s
--   Replay D s s'        steps of a log lead from s to s'
--   Formed c             the multipliers and the integer of a combination are as a log may have them
--
-- Main statements
--   divides_all-all, counted-positive   what the tests of divisibility and of a counted number say
--   change-right         what is read from 36 numbers is well formed
--   replayed-not-done    the steps alone end nothing
use Prim.Native.Nat.{ℕ, zero, suc, ◌≤◌, ◌<◌}
use Rattle.std.specs.Prelude.{◌≡◌, ◌≢◌, Bool, true, false, ◌&&◌, not, cond, List, [], ◌∷◌, ◌++◌, T, leb, length, get_or, drop, ℤ, pos, negsuc, nat_abs}
use Rattle.std.proofs.Math.Path.{refl, subst}
use Rattle.std.proofs.Common.{sym, zero-lt-suc, arith, length-take-le}
use Rattle.std.proofs.Math.Option.{Option, none, some, some-injective, none-ne-some}
use Rattle.std.proofs.Math.Nat.{dvd-zero}
use Rattle.std.proofs.Math.ListN.{length-drop}
use Rattle.lists.specs.Everywhere.{all-get_or-default}
use Rattle.lists.specs.Tests.{every, T-&&, all-of-every}
use Rattle.algebra.specs.Divisors.{divides, divides-dvd}
use Rattle.algebra.specs.Gcd.{DividesAll}
use Rattle.algebra.specs.Polynomials.{Polynomial, is_zero_of}
use Rattle.rules.specs.Limits.{coefficient_count, most_relations, small}
use Rattle.rules.specs.Rows.{Row, coefficients_of, zero_block, zero_row, leading_block, combine, shift_up}
use Rattle.rules.specs.Elimination.{State, Outcome, going, done, refused, and_then, Limited, within, beyond, leading, row_at, exchange}
use Rattle.rules.specs.Elimination.{drop_row}
use Rattle.rules.specs.Elimination.{shift_step_of, put_row, put_limited_of, list_relations, root_relations, count_shift, limit_degrees}
use Rattle.rules.specs.Elimination.{limit_coefficients}
use Rattle.theory.specs.ShiftDown.{shift_down}
use Rattle.theory.specs.Steps.{going≢refused, going≢done, done≢refused}
use Rattle.log_steps.specs.Logs.{Change, exchanging, combining, raising, lowering, dropping, counted, place_of, multiplier_g}
use Rattle.log_steps.specs.Logs.{multiplier_h, change_of, change_of_kind, of_row_of, exchange_of, combination_of, combination_right}
use Rattle.log_steps.specs.Logs.{two_places, divides_all, divided_row_of, allowed, combine_rows_of, lower_row_of, applied, changed}
use Rattle.log_steps.specs.Logs.{changed_if, replayed, step_length}

-- Row i and another row j are present.
pub record TwoRows (s : State) (i j : ℕ) : Type 0 where
  pub first : i < length s.rows
  pub second : j < length s.rows
  pub apart : i ≢ j

-- The multipliers as a log has them.
pub record Multiplied (g h : Polynomial) : Type 0 where
  pub length-g : length g ≡ coefficient_count
  pub length-h : length h ≡ coefficient_count
  pub small-g : T (every small g)
  pub nonzero : T (not (is_zero_of g))

-- One step of a log that goes on.
pub data Changed (D : ℕ) (s : State) : State → Type 0 where
  swapped : (i j : ℕ) → TwoRows s i j → Changed D s (exchange s i j)
  combined : (i j d : ℕ) (g h : Polynomial) → TwoRows s i j → Multiplied g h → 0 < d
      → DividesAll d (coefficients_of (combine g h (row_at s i) (row_at s j)))
      → length (s.relations ++ root_relations leading g (row_at s i)) ≤ most_relations
      → (r : Row) → limit_degrees (divided_row_of s i j d g h) ≡ within r
      → Changed D s (put_row (list_relations s (root_relations leading g (row_at s i))) i r)
  raised : (i : ℕ) → i < length s.rows → T (zero_block (leading_block (row_at s i)))
      → (r : Row) → limit_coefficients (shift_up (row_at s i)) ≡ within r → Changed D s (put_row (count_shift s) i r)
  lowered : (i : ℕ) → i < length s.rows → T (zero_block (get_or (row_at s i).blocks D []))
      → (r : Row) → limit_coefficients (shift_down (row_at s i)) ≡ within r → Changed D s (put_row s i r)
  omitted : (i : ℕ) → i < length s.rows → T (zero_row (row_at s i)) → Changed D s (drop_row s i)

-- Steps of a log, one after another.
pub data Replay (D : ℕ) : State → State → Type 0 where
  here : {s : State} → Replay D s s
  before : {s u v : State} → Changed D s u → Replay D u v → Replay D s v

-- ---- what the tests say

pub cond-going : {s : State} (t : Bool) (o : Outcome) (n : ℕ) → cond t o (refused n) ≡ going s → T t × (o ≡ going s)
cond-going true o n e = (tt, e)
cond-going false o n e = absurd (going≢refused (sym e))

cond-some : {A : Type 0} (t : Bool) (o : Option A) (c : A) → cond t o none ≡ some c → T t × (o ≡ some c)
cond-some true o c e = (tt, e)
cond-some false o c e = absurd (none-ne-some c e)

pub divides_all-all : (d : ℕ) (l : List ℤ) → T (divides_all d l) → DividesAll d l
unfolding divides_all
divides_all-all d l t k = (divides-dvd d _).0
    (all-get_or-default (λ a. T (divides d (nat_abs a))) l (pos 0) k ((divides-dvd d 0).1 (dvd-zero d))
    (all-of-every (λ a. divides d (nat_abs a)) l t))

pub counted-positive : (a : ℤ) → T (counted a) → 0 < nat_abs a
unfolding counted
counted-positive (pos (suc n)) t = zero-lt-suc n
counted-positive (pos zero) t = absurd t
counted-positive (negsuc n) t = absurd t

-- A combination that is read from 36 numbers has multipliers of 16 coefficients within ±C and a positive integer.
pub data Formed : Change → Type 0 where
  exchange-formed : {i j : ℕ} → Formed (exchanging i j)
  combination-formed : {i j d : ℕ} {g h : Polynomial} → length g ≡ coefficient_count → length h ≡ coefficient_count
      → T (every small g) → T (every small h) → 0 < d → Formed (combining i j d g h)
  raise-formed : {i : ℕ} → Formed (raising i)
  lower-formed : {i : ℕ} → Formed (lowering i)
  drop-formed : {i : ℕ} → Formed (dropping i)

module _ (l : List ℤ) (size : length l ≡ step_length) where
  combination-right : (c : Change) → combination_of l ≡ some c → Formed c
  unfolding combination_of combination_right multiplier_g multiplier_h
  combination-right c e =
      let (t, f) = cond-some (combination_right l) _ c e in
      let (numbers, coefficients) = (T-&& (two_places l && counted (get_or l 3 (pos 0))) _).0 t in
      subst Formed (some-injective _ c f)
      (combination-formed (length-take-le coefficient_count (drop 4 l) (simp length-drop (omega (arith, size))))
      (length-take-le coefficient_count (drop 20 l) (simp length-drop (omega (arith, size))))
      ((T-&& (every small (multiplier_g l)) _).0 coefficients).0 ((T-&& (every small (multiplier_g l)) _).0 coefficients).1
      (counted-positive (get_or l 3 (pos 0)) ((T-&& (two_places l) _).0 numbers).1))

  only : (t : Bool) (b c : Change) → Formed b → cond t (some b) none ≡ some c → Formed c
  only t b c f e = subst Formed (some-injective b c (cond-some t (some b) c e).1) f

  kind-right : (k : ℕ) (c : Change) → change_of_kind k l ≡ some c → Formed c
  unfolding change_of_kind exchange_of of_row_of
  kind-right zero c e = only (two_places l && is_zero_of (drop 3 l)) _ c exchange-formed e
  kind-right (suc zero) c e = combination-right c e
  kind-right (suc (suc zero)) c e = only (counted (get_or l 1 (pos 0)) && is_zero_of (drop 2 l)) _ c raise-formed e
  kind-right (suc (suc (suc zero))) c e = only (counted (get_or l 1 (pos 0)) && is_zero_of (drop 2 l)) _ c lower-formed e
  kind-right (suc (suc (suc (suc zero)))) c e = only (counted (get_or l 1 (pos 0)) && is_zero_of (drop 2 l)) _ c drop-formed e
  kind-right (suc (suc (suc (suc (suc k))))) c e = absurd (none-ne-some c e)

  pub change-right : (c : Change) → change_of l ≡ some c → Formed c
  unfolding change_of
  change-right c e = kind-right (place_of (get_or l 0 (pos 0))) c (cond-some (counted (get_or l 0 (pos 0))) _ c e).1

-- ---- no step is the end

put-not-done : (s : State) (i : ℕ) (x : Limited) {u : State} → put_limited_of s i x ≢ done u
unfolding put_limited_of
put-not-done s i (within r) e = going≢done e
put-not-done s i (beyond n) e = done≢refused (sym e)

cond-not-done : (t : Bool) (o : Outcome) (n : ℕ) {u : State} → o ≢ done u → cond t o (refused n) ≢ done u
cond-not-done true o n h e = h e
cond-not-done false o n h e = done≢refused (sym e)

applied-not-done : (s : State) (c : Change) {u : State} → applied s c ≢ done u
unfolding applied combine_rows_of shift_step_of lower_row_of
applied-not-done s (exchanging i j) e = going≢done e
applied-not-done s (combining i j d g h) e = cond-not-done (leb (length (list_relations s (root_relations leading g (row_at s i))).relations)
    most_relations) (put_limited_of (list_relations s (root_relations leading g (row_at s i))) i (limit_degrees (divided_row_of s i j d g h))) 9
    (put-not-done (list_relations s (root_relations leading g (row_at s i))) i (limit_degrees (divided_row_of s i j d g h))) e
applied-not-done s (raising i) e = put-not-done (count_shift s) i (limit_coefficients (shift_up (row_at s i))) e
applied-not-done s (lowering i) e = put-not-done s i (limit_coefficients (shift_down (row_at s i))) e
applied-not-done s (dropping i) e = going≢done e

changed-not-done : (D : ℕ) (s : State) (o : Option Change) {u : State} → changed_if D s o ≢ done u
unfolding changed_if changed
changed-not-done D s none e = done≢refused (sym e)
changed-not-done D s (some c) e = cond-not-done (allowed D s c) (applied s c) 13 (applied-not-done s c) e

pub replayed-not-done : (D : ℕ) (l : List (List ℤ)) (s : State) {u : State} → replayed D l s ≢ done u
unfolding replayed and_then
replayed-not-done D [] s e = going≢done e
replayed-not-done D (x ∷ l) s {u} e = go (changed_if D s (change_of x)) refl (λ v. replayed-not-done D l v) e
  where
    go : (o : Outcome) → changed_if D s (change_of x) ≡ o → ((v : State) → replayed D l v ≢ done u)
        → and_then o (replayed D l) ≡ done u → ⊥
    go (going v) f rec e = rec v e
    go (done v) f rec e = changed-not-done D s (change_of x) f
    go (refused n) f rec e = done≢refused (sym e)
