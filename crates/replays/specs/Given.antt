-- The steps that numbers give, by the tests of their form.
--
-- Main definitions
--   exchange_formed_of, row_formed_of    the tests of the form of an exchange, and of a step of one row
--
-- Main statements
--   pred-less, counted-above     a number counted from 0
--   counted-passes, counted-fails, kind-given, kind-ungiven   the kind of a step
--   exchange-given, exchange-ungiven, exchange-counted   an exchange
--   combination-given, combination-ungiven, combination-formed, length-g, length-h   a combination
--   raise-given, lower-given, drop-given, row-counted, row-ungiven, kind-past   one row, and no kind
use Prim.Native.Nat.{ℕ, zero, suc, ◌-◌, pred, ◌≤◌}
use Rattle.std.proofs.Common.{arith, ◌∙◌}
use Rattle.std.specs.Prelude.{◌≡◌, ◌≢◌, Bool, true, false, ◌&&◌, List, T, ℤ, pos, negsuc, nat_abs, length, get_or, drop}
use Rattle.std.proofs.Math.Path.{refl, ap}
use Rattle.std.proofs.Math.Bool.{cond}
use Rattle.std.proofs.Math.Option.{Option, none, some}
use Rattle.std.proofs.Math.ListN.{length-drop}
use Rattle.std.proofs.Math.Seq.{length-take-le}
use Rattle.std.specs.Int.Signed.{lt_z}
use Rattle.lists.specs.Tests.{every, T-&&, true-T}
use Rattle.rules.specs.Limits.{coefficient_count, small}
use Rattle.algebra.specs.Polynomials.{is_zero_of}
use Rattle.log_steps.specs.Logs.{Change, exchanging, combining, raising, lowering, dropping, counted, place_of, multiplier_g}
use Rattle.log_steps.specs.Logs.{multiplier_h, step_length, of_row_of, two_places, exchange_of, combination_right, combination_of, change_of_kind}
use Rattle.log_steps.specs.Logs.{change_of}
use Rattle.log_steps.specs.Kinds.{number_of}
use Rattle.log_steps.specs.declared.kinds.Kind.{Kind}
use Rattle.log_steps.specs.declared.kinds.Kind.TheVariants.{Exchange, Combination, Raise, Lower, Drop}

pub pred-less : (n : ℕ) → n - 1 ≡ pred n
pred-less zero = refl
pred-less (suc n) = let e : suc n - 1 ≡ n = omega arith in e

pub counted-above : (a : ℤ) → T (counted a) → T (lt_z (pos 0) a)
unfolding counted
counted-above (pos zero) t = absurd t
counted-above (pos (suc n)) t = t
counted-above (negsuc n) t = absurd t

unfoldable pub row_formed_of : List ℤ → Bool
unfolding counted is_zero_of
row_formed_of x = counted (get_or x 1 (pos 0)) && is_zero_of (drop 2 x)

unfoldable pub exchange_formed_of : List ℤ → Bool
unfolding two_places is_zero_of
exchange_formed_of x = two_places x && is_zero_of (drop 3 x)

given : {A : Type 0} (t : Bool) (a : A) → t ≡ true → cond t (some a) none ≡ some a
given t a e = ap (λ b. cond b (some a) none) e

ungiven : {A : Type 0} (t : Bool) (a : Option A) → t ≡ false → cond t a none ≡ none
ungiven t a e = ap (λ b. cond b a none) e

same-both : {A : Type 0} (t : Bool) (o : Option A) → cond t o o ≡ o
same-both true o = refl
same-both false o = refl

module _ (x : List ℤ) where
  abbrev place : ℕ → ℕ
  place k = place_of (get_or x k (pos 0))

  pub counted-passes : counted (get_or x 0 (pos 0)) ≡ true → change_of x ≡ change_of_kind (place 0) x
  unfolding change_of
  counted-passes e = ap (λ t. cond t (change_of_kind (place 0) x) none) e

  pub counted-fails : counted (get_or x 0 (pos 0)) ≡ false → change_of x ≡ none
  unfolding change_of
  counted-fails e = ungiven (counted (get_or x 0 (pos 0))) (change_of_kind (place 0) x) e

  -- The kind that is read.
  pub kind-given : (k : Kind) → get_or x 0 (pos 0) ≡ pos (number_of k) → change_of x ≡ change_of_kind (pred (number_of k)) x
  unfolding counted place_of
  kind-given k e =
      counted-passes (ap counted e ∙ is_counted k) ∙ ap (λ n. change_of_kind (place_of n) x) e
    where
      is_counted : (k : Kind) → counted (pos (number_of k)) ≡ true
      is_counted Exchange = refl
      is_counted Combination = refl
      is_counted Raise = refl
      is_counted Lower = refl
      is_counted Drop = refl

  pub kind-ungiven : ((k : Kind) → get_or x 0 (pos 0) ≢ pos (number_of k)) → change_of x ≡ none
  unfolding change_of counted place_of change_of_kind
  kind-ungiven h = go (get_or x 0 (pos 0)) h
    where
      go : (a : ℤ) → ((k : Kind) → a ≢ pos (number_of k)) → cond (counted a) (change_of_kind (place_of a) x) none ≡ none
      go (pos zero) h = refl
      go (pos (suc zero)) h = absurd (h Exchange refl)
      go (pos (suc (suc zero))) h = absurd (h Combination refl)
      go (pos (suc (suc (suc zero)))) h = absurd (h Raise refl)
      go (pos (suc (suc (suc (suc zero))))) h = absurd (h Lower refl)
      go (pos (suc (suc (suc (suc (suc zero)))))) h = absurd (h Drop refl)
      go (pos (suc (suc (suc (suc (suc (suc k))))))) h = same-both (counted (pos (suc (suc (suc (suc (suc (suc k)))))))) none
      go (negsuc k) h = refl

  -- ---- two rows

  pub exchange-given : exchange_formed_of x ≡ true → change_of_kind 0 x ≡ some (exchanging (place 1) (place 2))
  unfolding exchange_formed_of change_of_kind exchange_of
  exchange-given e = given (two_places x && is_zero_of (drop 3 x)) (exchanging (place 1) (place 2)) e

  pub exchange-ungiven : exchange_formed_of x ≡ false → change_of_kind 0 x ≡ none
  unfolding exchange_formed_of change_of_kind exchange_of
  exchange-ungiven e = ungiven (two_places x && is_zero_of (drop 3 x)) (some (exchanging (place 1) (place 2))) e

  abbrev combination : Change
  combination = combining (place 1) (place 2) (nat_abs (get_or x 3 (pos 0))) (multiplier_g x) (multiplier_h x)

  pub combination-given : combination_right x ≡ true
      → change_of_kind 1 x ≡ some (combining (place 1) (place 2) (nat_abs (get_or x 3 (pos 0))) (multiplier_g x) (multiplier_h x))
  unfolding change_of_kind combination_of
  combination-given e = given (combination_right x) combination e

  pub combination-ungiven : combination_right x ≡ false → change_of_kind 1 x ≡ none
  unfolding change_of_kind combination_of
  combination-ungiven e = ungiven (combination_right x) (some combination) e

  pub exchange-counted : exchange_formed_of x ≡ true → T (counted (get_or x 1 (pos 0))) × T (counted (get_or x 2 (pos 0)))
  unfolding exchange_formed_of two_places
  exchange-counted e =
      (T-&& (counted (get_or x 1 (pos 0))) (counted (get_or x 2 (pos 0)))).0 ((T-&& (two_places x) (is_zero_of (drop 3 x))).0 (true-T _ e)).0

  pub record CombinationFormed : Type 0 where
    pub first : T (counted (get_or x 1 (pos 0)))
    pub second : T (counted (get_or x 2 (pos 0)))
    pub integer : T (counted (get_or x 3 (pos 0)))
    pub small-g : T (every small (multiplier_g x))
    pub small-h : T (every small (multiplier_h x))

  pub combination-formed : combination_right x ≡ true → CombinationFormed
  unfolding combination_right two_places
  combination-formed e =
      let (numbers, coefficients) = (T-&& (two_places x && counted (get_or x 3 (pos 0))) _).0 (true-T _ e) in
      let (places, integer) = (T-&& (two_places x) (counted (get_or x 3 (pos 0)))).0 numbers in
      let (one, two) = (T-&& (counted (get_or x 1 (pos 0))) (counted (get_or x 2 (pos 0)))).0 places in
      let (g, h) = (T-&& (every small (multiplier_g x)) (every small (multiplier_h x))).0 coefficients in
      record { first = one; second = two; integer = integer; small-g = g; small-h = h }

  pub length-g : length x ≡ step_length → length (multiplier_g x) ≡ coefficient_count
  unfolding multiplier_g
  length-g e = length-take-le coefficient_count (drop 4 x) (simp length-drop (omega (arith, e)))

  pub length-h : length x ≡ step_length → length (multiplier_h x) ≡ coefficient_count
  unfolding multiplier_h
  length-h e = length-take-le coefficient_count (drop 20 x) (simp length-drop (omega (arith, e)))

  -- ---- one row

  pub row-counted : row_formed_of x ≡ true → T (counted (get_or x 1 (pos 0)))
  unfolding row_formed_of
  row-counted e = ((T-&& (counted (get_or x 1 (pos 0))) (is_zero_of (drop 2 x))).0 (true-T _ e)).0

  of_row : (change : ℕ → Change) → row_formed_of x ≡ true → of_row_of change x ≡ some (change (place 1))
  unfolding row_formed_of of_row_of
  of_row change e = given (counted (get_or x 1 (pos 0)) && is_zero_of (drop 2 x)) (change (place 1)) e

  of_none : (change : ℕ → Change) → row_formed_of x ≡ false → of_row_of change x ≡ none
  unfolding row_formed_of of_row_of
  of_none change e = ungiven (counted (get_or x 1 (pos 0)) && is_zero_of (drop 2 x)) (some (change (place 1))) e

  pub raise-given : row_formed_of x ≡ true → change_of_kind 2 x ≡ some (raising (place 1))
  unfolding change_of_kind
  raise-given e = of_row raising e

  pub lower-given : row_formed_of x ≡ true → change_of_kind 3 x ≡ some (lowering (place 1))
  unfolding change_of_kind
  lower-given e = of_row lowering e

  pub drop-given : row_formed_of x ≡ true → change_of_kind 4 x ≡ some (dropping (place 1))
  unfolding change_of_kind
  drop-given e = of_row dropping e

  pub kind-past : (k : ℕ) → 5 ≤ k → change_of_kind k x ≡ none
  unfolding change_of_kind
  kind-past zero h = absurd (omega arith)
  kind-past (suc zero) h = absurd (omega arith)
  kind-past (suc (suc zero)) h = absurd (omega arith)
  kind-past (suc (suc (suc zero))) h = absurd (omega arith)
  kind-past (suc (suc (suc (suc zero)))) h = absurd (omega arith)
  kind-past (suc (suc (suc (suc (suc k))))) h = refl

  pub row-ungiven : (k : ℕ) → 2 ≤ k → row_formed_of x ≡ false → change_of_kind k x ≡ none
  unfolding change_of_kind
  row-ungiven zero h e = absurd (omega arith)
  row-ungiven (suc zero) h e = absurd (omega arith)
  row-ungiven (suc (suc zero)) h e = of_none raising e
  row-ungiven (suc (suc (suc zero))) h e = of_none lowering e
  row-ungiven (suc (suc (suc (suc zero)))) h e = of_none dropping e
  row-ungiven (suc (suc (suc (suc (suc k))))) h e = refl
