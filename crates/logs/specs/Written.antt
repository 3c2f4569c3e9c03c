-- The numbers of a step, read again.
--
-- Main definitions
--   changes D cs s      the steps cs, one after the other
--
-- Main statements
--   read-written        a step is read again from its numbers
--   length-numbers      its numbers are 36
--   replayed-written    so the replay of written steps makes the steps
use Rattle.std.specs.Prelude.{ℕ, zero, suc, ◌+◌, ◌≡◌, refl, ◌&&◌, List, [], ◌∷◌, ◌++◌, map, T, length, take, ℤ, pos}
use Rattle.std.proofs.Common.{zero-le, sym, ◌∙◌, ap, ap₂, subst, le_of_eq, arith, le→leb, length-append, take_at, drop_at, take_all}
use Rattle.std.proofs.Math.Option.{some, none}
use Rattle.std.proofs.Math.Nat.{suc-le-suc_iff}
use Rattle.lists.specs.Everywhere.{All}
use Rattle.lists.specs.Tests.{every, T-&&, cond-passed}
use Rattle.algebra.specs.Polynomials.{is_zero_of}
use Rattle.rules.specs.Limits.{coefficient_count, small}
use Rattle.rules.specs.Calls.{zeros}
use Rattle.rules.specs.Elimination.{State, Outcome, going, done, refused, and_then}
use Rattle.log_steps.specs.Logs.{Change, exchanging, combining, raising, lowering, dropping, counted, place_of, multiplier_g}
use Rattle.log_steps.specs.Logs.{multiplier_h, change_of, change_of_kind, of_row_of, exchange_of, two_places, combination_of, combination_right}
use Rattle.log_steps.specs.Logs.{changed, changed_if, replayed, step_length}
use Rattle.log_steps.specs.Changes.{Formed, combination-formed}
use Rattle.own_logs.specs.Own.{change_numbers}

counted-suc : (n : ℕ) → T (counted (pos (suc n)))
unfolding counted
counted-suc n = le→leb 1 (suc n) (suc-le-suc_iff.1 zero-le)

row_read : (change : ℕ → Change) (k : ℤ) (i : ℕ) → of_row_of change (k ∷ pos (suc i) ∷ zeros 34) ≡ some (change i)
unfolding of_row_of place_of zeros
row_read change k i = cond-passed (counted (pos (suc i)) && is_zero_of (zeros 34)) (some (change i)) none
    ((T-&& (counted (pos (suc i))) (is_zero_of (zeros 34))).1 (counted-suc i, tt))

-- A step is read again from its numbers.
pub read-written : (c : Change) → Formed c → change_of (change_numbers c) ≡ some c
unfolding change_of change_of_kind change_numbers exchange_of two_places place_of zeros combination_of combination_right multiplier_g multiplier_h
read-written (exchanging i j) f =
    cond-passed (two_places (change_numbers (exchanging i j)) && is_zero_of (zeros 33)) (some (exchanging i j)) none
    ((T-&& (two_places (change_numbers (exchanging i j))) (is_zero_of (zeros 33))).1
    ((T-&& (counted (pos (suc i))) (counted (pos (suc j)))).1 (counted-suc i, counted-suc j), tt))
read-written (combining i j (suc d) g h) (combination-formed a b small-g small-h positive) =
    cond-passed (combination_right l) _ none passed ∙ ap₂ (λ p q. some (combining i j (suc d) p q)) g-read h-read
  where
    l : List ℤ
    l = change_numbers (combining i j (suc d) g h)

    g-read : multiplier_g l ≡ g
    g-read = take_at g h coefficient_count a

    h-read : multiplier_h l ≡ h
    h-read = ap (take coefficient_count) (drop_at g h coefficient_count a) ∙ take_all coefficient_count h (le_of_eq b)

    passed : T (combination_right l)
    passed =
        (T-&& (two_places l && counted (pos (suc d))) (every small (multiplier_g l) && every small (multiplier_h l))).1 (
          (T-&& (two_places l) (counted (pos (suc d)))).1
              ((T-&& (counted (pos (suc i))) (counted (pos (suc j)))).1 (counted-suc i, counted-suc j), counted-suc d),
          (T-&& (every small (multiplier_g l)) (every small (multiplier_h l))).1
              (subst (λ p. T (every small p)) (sym g-read) small-g, subst (λ p. T (every small p)) (sym h-read) small-h),
        )
read-written (combining i j zero g h) (combination-formed a b small-g small-h positive) = absurd (omega arith)
read-written (raising i) f = row_read raising (pos 3) i
read-written (lowering i) f = row_read lowering (pos 4) i
read-written (dropping i) f = row_read dropping (pos 5) i

pub length-numbers : (c : Change) → Formed c → length (change_numbers c) ≡ step_length
unfolding change_numbers zeros
length-numbers (exchanging i j) f = refl
length-numbers (combining i j d g h) (combination-formed a b small-g small-h positive) = ap (λ n. suc (suc (suc (suc n))))
    (length-append g h ∙ ap₂ ◌+◌ a b)
length-numbers (raising i) f = refl
length-numbers (lowering i) f = refl
length-numbers (dropping i) f = refl

-- ---- written steps

-- The steps, one after the other, before they are written.
unfoldable pub changes : ℕ → List Change → State → Outcome
unfolding changed and_then
changes D [] s = going s
changes D (c ∷ cs) s = and_then (changed D s c) (changes D cs)

pub replayed-written : (D : ℕ) (cs : List Change) → All Formed cs → (s : State) → replayed D (map change_numbers cs) s ≡ changes D cs s
unfolding replayed changes changed_if All and_then
replayed-written D [] a s = refl
replayed-written D (c ∷ cs) (f, a) s =
    ap (λ o. and_then (changed_if D s o) (replayed D (map change_numbers cs))) (read-written c f)
    ∙ go (changed D s c) (replayed-written D cs a)
  where
    go : (o : Outcome) → ((u : State) → replayed D (map change_numbers cs) u ≡ changes D cs u)
        → and_then o (replayed D (map change_numbers cs)) ≡ and_then o (changes D cs)
    go (going u) rec = rec u
    go (done u) rec = refl
    go (refused n) rec = refl

pub changes-append : (D : ℕ) (cs es : List Change) (s : State) → changes D (cs ++ es) s ≡ and_then (changes D cs s) (changes D es)
unfolding changes and_then
changes-append D [] es s = refl
changes-append D (c ∷ cs) es s = go (changed D s c) (changes-append D cs es)
  where
    go : (o : Outcome) → ((u : State) → changes D (cs ++ es) u ≡ and_then (changes D cs u) (changes D es))
        → and_then o (changes D (cs ++ es)) ≡ and_then (and_then o (changes D cs)) (changes D es)
    go (going u) rec = rec u
    go (done u) rec = refl
    go (refused n) rec = refl
