-- The state of a run by steps as the numbers of a lent store, and the exported call that prepares it.
--
-- Main definitions
--   held_in numbers             the state that eleven numbers say
--   counts_right_of numbers        is no count among them negative?
--   export_prepare ..           the call
--
-- Main statements
--   numbers-held, numbers-right   the numbers of a state say that state, and no count among them is negative
--   held-four                  eleven numbers say four columns
--   held-numbers               numbers without a negative count are those of the state that they say
--   length-state_numbers, no-numbers   a state has eleven numbers; those of no state are zero
--   prepare-short, prepare-left   the call with a state store that is too short, and with one that is long enough
--   prepare-small              a prepared state is small
use Prim.Native.Nat.{ℕ, zero, suc, ◌≤◌, ◌<◌, zero-le}
use Rattle.std.proofs.Common.{arith, sym, ◌∙◌, le-leb, length-drop, length-take-le}
use Rattle.std.specs.Prelude.{◌≡◌, Bool, ◌&&◌, List, [], ◌∷◌, ◌++◌, map, leb, ℤ, pos, nat_abs, length, take, drop, get_or}
use Rattle.std.proofs.Math.Path.{refl, ap, subst}
use Rattle.std.proofs.Math.Bool.{true, false, cond}
use Rattle.std.proofs.lemmas.Bool.{lt-leb}
use Rattle.std.specs.Int.Signed.{non_neg, pos-nat_abs}
use Rattle.std.proofs.lemmas.List.{length-map}
use Rattle.lists.specs.Everywhere.{All, all_replicate}
use Rattle.lists.specs.Tests.{every, all-of-every, both_true, true-T}
use Rattle.rules.specs.Limits.{column_count}
use Rattle.rules.specs.Stores.{Sizes, equations, sizes_right_of, count_right, check_stores_of}
use Rattle.rules.specs.Layout.{size-bounds, count_right-iff, check_stores-zero}
use Rattle.rules.specs.Calls.{zeros}
use Rattle.steps.specs.HeldCalls.{Held, state_numbers_of, no_state_of, prepared, Prepared, after_checks, prepare_call}
use Rattle.steps.specs.SmallSteps.{SmallState}
use Rattle.export_results.specs.Results.{on_acceptance, none-checked}

-- ---- the numbers

-- The numbers that a state has (SCOPE 11.12).
abbrev pub state_need : ℕ
state_need = 11

abbrev number_at : List ℤ → ℕ → ℤ
number_at numbers i = get_or numbers i (pos 0)

-- Counts by their size; their signs are looked at by `counts_right_of`.
unfoldable pub held_in : List ℤ → Held
held_in numbers =
    record {
      sizes = record {
        m = nat_abs (number_at numbers 0);
        equations = nat_abs (number_at numbers 1);
        l = number_at numbers 2;
        t = number_at numbers 3;
      };
      relations = nat_abs (number_at numbers 4);
      settled = nat_abs (number_at numbers 5);
      order = map nat_abs (take column_count (drop 6 numbers));
      shifts = nat_abs (number_at numbers 10);
    }

-- All but l and t are counts (SCOPE 11.43).
unfoldable pub counts_right_of : List ℤ → Bool
unfolding every
counts_right_of numbers = every non_neg (take 2 numbers) && every non_neg (take 7 (drop 4 numbers))

-- ---- the numbers of a state say it

four-told : (order : List ℕ) (shifts : ℕ) (rest : List ℤ) → length order ≡ column_count
    → let l = (map pos order ++ (pos shifts ∷ [])) ++ rest in
    (map nat_abs (take column_count l) ≡ order) × (nat_abs (get_or l column_count (pos 0)) ≡ shifts) × (every non_neg (take 5 l) ≡ true)
unfolding every
four-told (a ∷ b ∷ c ∷ d ∷ []) shifts rest h = (refl, refl, refl)
four-told [] shifts rest h = absurd (omega arith)
four-told (a ∷ []) shifts rest h = absurd (omega arith)
four-told (a ∷ b ∷ []) shifts rest h = absurd (omega arith)
four-told (a ∷ b ∷ c ∷ []) shifts rest h = absurd (omega arith)
four-told (a ∷ b ∷ c ∷ d ∷ e ∷ l) shifts rest h = absurd (omega arith)

module _ (x : Held) (four : length x.order ≡ column_count) (rest : List ℤ) where
  pub numbers-held : held_in (state_numbers_of x ++ rest) ≡ x
  unfolding held_in state_numbers_of equations
  numbers-held =
      let (order, shifts, right) = four-told x.order x.shifts rest four in
      λ i. record { sizes = x.sizes; relations = x.relations; settled = x.settled; order = order i; shifts = shifts i }

  pub numbers-right : counts_right_of (state_numbers_of x ++ rest) ≡ true
  unfolding counts_right_of state_numbers_of every
  numbers-right = (four-told x.order x.shifts rest four).2

pub length-state_numbers : (x : Held) → length x.order ≡ column_count → length (state_numbers_of x) ≡ state_need
unfolding state_numbers_of
length-state_numbers x four = go x.order four
  where
    go : (order : List ℕ) → length order ≡ column_count
        → suc (suc (suc (suc (suc (suc (length (map pos order ++ (pos x.shifts ∷ [])))))))) ≡ state_need
    go (a ∷ b ∷ c ∷ d ∷ []) h = refl
    go [] h = absurd (omega arith)
    go (a ∷ []) h = absurd (omega arith)
    go (a ∷ b ∷ []) h = absurd (omega arith)
    go (a ∷ b ∷ c ∷ []) h = absurd (omega arith)
    go (a ∷ b ∷ c ∷ d ∷ e ∷ l) h = absurd (omega arith)

pub no-numbers : state_numbers_of no_state_of ≡ zeros state_need
unfolding state_numbers_of zeros equations
no-numbers = refl

-- Numbers without a negative count are those of the state that they say.
pub held-numbers : (numbers : List ℤ) → state_need ≤ length numbers → counts_right_of numbers ≡ true
    → state_numbers_of (held_in numbers) ≡ take state_need numbers
unfolding state_numbers_of held_in counts_right_of every equations All
held-numbers (a ∷ b ∷ l ∷ t ∷ c ∷ d ∷ e ∷ f ∷ g ∷ h ∷ k ∷ rest) long right =
    let (two, seven) = both_true (every non_neg (a ∷ b ∷ [])) (every non_neg (c ∷ d ∷ e ∷ f ∷ g ∷ h ∷ k ∷ [])) right in
    let u = all-of-every non_neg (a ∷ b ∷ []) (true-T _ two) in
    let v = all-of-every non_neg (c ∷ d ∷ e ∷ f ∷ g ∷ h ∷ k ∷ []) (true-T _ seven) in
    λ i. pos-nat_abs a u.0 i ∷ pos-nat_abs b u.1.0 i ∷ l ∷ t ∷ pos-nat_abs c v.0 i ∷ pos-nat_abs d v.1.0 i
    ∷ pos-nat_abs e v.1.1.0 i ∷ pos-nat_abs f v.1.1.1.0 i ∷ pos-nat_abs g v.1.1.1.1.0 i
    ∷ pos-nat_abs h v.1.1.1.1.1.0 i ∷ pos-nat_abs k v.1.1.1.1.1.1.0 i ∷ []
held-numbers [] long right = absurd (omega arith)
held-numbers (a ∷ []) long right = absurd (omega arith)
held-numbers (a ∷ b ∷ []) long right = absurd (omega arith)
held-numbers (a ∷ b ∷ l ∷ []) long right = absurd (omega arith)
held-numbers (a ∷ b ∷ l ∷ t ∷ []) long right = absurd (omega arith)
held-numbers (a ∷ b ∷ l ∷ t ∷ c ∷ []) long right = absurd (omega arith)
held-numbers (a ∷ b ∷ l ∷ t ∷ c ∷ d ∷ []) long right = absurd (omega arith)
held-numbers (a ∷ b ∷ l ∷ t ∷ c ∷ d ∷ e ∷ []) long right = absurd (omega arith)
held-numbers (a ∷ b ∷ l ∷ t ∷ c ∷ d ∷ e ∷ f ∷ []) long right = absurd (omega arith)
held-numbers (a ∷ b ∷ l ∷ t ∷ c ∷ d ∷ e ∷ f ∷ g ∷ []) long right = absurd (omega arith)
held-numbers (a ∷ b ∷ l ∷ t ∷ c ∷ d ∷ e ∷ f ∷ g ∷ h ∷ []) long right = absurd (omega arith)

pub held-four : (numbers : List ℤ) → state_need ≤ length numbers → length (held_in numbers).order ≡ column_count
unfolding held_in
held-four numbers long =
    length-map (take column_count (drop 6 numbers)) nat_abs
    ∙ length-take-le column_count (drop 6 numbers) (omega (arith, length-drop 6 numbers))

-- ---- preparing

-- The refusal that the call returned, and the only store that is not only read.
pub record StatePrepared : Type 0 where
  pub refusal : ℕ
  pub state_store : List ℤ

unfoldable pub state_put : Prepared → List ℤ → StatePrepared
unfolding on_acceptance state_numbers_of
state_put c state_store =
    record { refusal = c.refusal; state_store = on_acceptance c.refusal (state_numbers_of c.state) state_store }

-- A state store that is too short is found with the other lengths: the call is then judged as with stores that hold nothing. The
-- state is written where the call accepts (SCOPE 11.42).
unfoldable pub export_prepare : Sizes → ℕ → List ℤ → List ℤ → List ℤ → StatePrepared
unfolding state_put prepare_call
export_prepare z count row_store relation_store state_store =
    state_put (cond (leb state_need (length state_store)) (prepare_call z count row_store relation_store) (prepare_call z count [] [])) state_store

module _ (z : Sizes) (count : ℕ) (row_store relation_store state_store : List ℤ) where
  abbrev by : Bool → StatePrepared
  by b = state_put (cond b (prepare_call z count row_store relation_store) (prepare_call z count [] [])) state_store

  by_length : (b : Bool) → leb state_need (length state_store) ≡ b → by b ≡ export_prepare z count row_store relation_store state_store
  unfolding export_prepare
  by_length b e = ap by (sym e)

  -- Sizes that are wrong are found first; the state store is as it was.
  pub prepare-short : length state_store < state_need
      → record { refusal = check_stores_of z count [] []; state_store = state_store } ≡ export_prepare z count row_store relation_store state_store
  unfolding prepare_call after_checks state_put on_acceptance
  prepare-short h =
      ap (λ n. record { refusal = n; state_store = state_store }) (none-checked z count)
      ∙ refused-short (sizes_right_of z && count_right count)
      ∙ ap (λ n. state_put (after_checks z count n) state_store) (sym (none-checked z count))
      ∙ by_length false (lt-leb state_need (length state_store) h)
    where
      refused-short : (s : Bool) → record { refusal = cond s 1 2; state_store = state_store }
          ≡ state_put (after_checks z count (cond s 1 2)) state_store
      refused-short true = refl
      refused-short false = refl

  -- The call, from the state that was prepared and the state store that was left.
  pub prepare-left : {c : Prepared} {left : List ℤ} → c ≡ prepare_call z count row_store relation_store
      → left ≡ on_acceptance c.refusal (state_numbers_of c.state) state_store → state_need ≤ length state_store
      → record { refusal = c.refusal; state_store = left } ≡ export_prepare z count row_store relation_store state_store
  unfolding state_put
  prepare-left {c} e f h =
      ap (λ l. record { refusal = c.refusal; state_store = l }) f ∙ ap (λ c. state_put c state_store) e
      ∙ by_length true (le-leb state_need (length state_store) h)

  pub prepare-small : {c : Prepared} → c ≡ prepare_call z count row_store relation_store → c.refusal ≡ 0 → SmallState c.state
  unfolding prepare_call after_checks prepared
  prepare-small same =
      subst (λ c. c.refusal ≡ 0 → SmallState c.state) (sym same) (by-check (check_stores_of z count row_store relation_store) refl)
    where
      by-check : (n : ℕ) → check_stores_of z count row_store relation_store ≡ n
          → (after_checks z count n).refusal ≡ 0 → SmallState (after_checks z count n).state
      by-check zero e h =
          let passed = (check_stores-zero z count row_store relation_store).0 e in
          let bounds = size-bounds z passed.sizes in
          record {
            few-unknowns = bounds.few;
            few-rows = bounds.few-equations;
            few-relations = (count_right-iff count).0 passed.few;
            few-settled = zero-le;
            four = refl;
            columns = all_replicate (λ c. c ≤ column_count) column_count 0 zero-le;
            few-shifts = zero-le;
          }
      by-check (suc n) e h = absurd (omega arith)
