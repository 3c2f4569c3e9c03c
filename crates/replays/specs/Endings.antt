-- The end of a replay on the lent stores.
--
-- Main definitions
--   Finished o            an answer without a refusal has ended, with every row settled
--   Ended rows relations p o x   what the end gives: its outcome is x, and nothing is stored
--   settled_at p order     the progress where every row is settled
--
-- Main statements
--   not_negative, four-numbers   the test of a sign, and four numbers without theirs
--   order-few, order_signed, order-different, order-last   the tests of the order, one after the other
--   named-few, named-positive, named-columns   the columns of an order that holds
--   end_refused, end-unheld, end-unpivoted, end-accepted   the ends
use Prim.Native.Nat.{ℕ, zero, suc, ◌≤◌, ◌<◌, pred, zero-le}
use Rattle.std.proofs.Math.Nat.{le_refl, le_trans}
use Rattle.std.proofs.Common.{le_of_eq, le_of_lt, arith, sym, ◌∙◌, le-leb, le-ltb, leb→le, take-take}
use Rattle.std.specs.Prelude.{◌≡◌, Bool, false, ◌&&◌, not, List, [], ◌∷◌, map, T, leb, ℤ, pos, negsuc, length, drop, get_or}
use Rattle.std.proofs.Math.Path.{refl, ap, ap₂, subst}
use Rattle.std.proofs.Math.Bool.{true, cond}
use Rattle.std.proofs.lemmas.Bool.{lt-leb}
use Rattle.std.proofs.Math.Dec.{lit<}
use Rattle.std.proofs.Math.IntN.{nat_abs}
use Rattle.std.proofs.Math.ListN.{take, length-map}
use Rattle.std.proofs.Math.Seq.{length-take-le}
use Rattle.std.specs.Int.Signed.{le_z, lt_z}
use Rattle.algebra.specs.Pigeonhole.{Distinct}
use Rattle.algebra.specs.Polynomials.{is_zero_of}
use Rattle.lists.specs.Everywhere.{All, all-mono, map-keeps}
use Rattle.lists.specs.Images.{map-take}
use Rattle.lists.specs.Padded.{pad_to, length-pad_to, take-pad_to, get_or-pad_to, all-pad_to}
use Rattle.lists.specs.Tests.{every, T-&&, true-T}
use Rattle.rules.specs.Limits.{column_count}
use Rattle.rules.specs.Sheets.{contains}
use Rattle.rules.specs.SheetCalls.{different_columns_of}
use Rattle.rules.specs.Stores.{rows_of, row_need, relation_need}
use Rattle.rules.specs.Layout.{length-rows_of}
use Rattle.rules.specs.Elimination.{State, Outcome, done, refused}
use Rattle.theory.specs.Pivots.{PivotRows, order-distinct}
use Rattle.working_rows.specs.Found.{Columns}
use Rattle.sides.specs.StoreStates.{kept_same}
use Rattle.reduction.specs.declared.step.Progress.{Progress}
use Rattle.reduction.specs.Answer as Answer
use Rattle.reduction.specs.Progress.{Ready, Reached, state_of, outcome_of, answer_of}
use Rattle.reduction.specs.Dropping.{freed-none}
use Rattle.steps.specs.HeldCalls.{pivots_right_of}
use Rattle.steps.specs.Handed.{pivots-same}
use Rattle.steps.specs.SoundStates.{pivots-right}
use Rattle.log_steps.specs.Logs.{order_holds_of, the_columns_of, place_of, with_order, ordered}

-- ---- the tests of the order

pub not_negative : (a : ℤ) → le_z (pos 0) a ≡ not (lt_z a (pos 0))
not_negative (pos n) = le-leb 0 n zero-le ∙ sym (ap not (le-ltb n 0 zero-le))
not_negative (negsuc n) = refl

-- Four numbers without their signs.
pub four-numbers : (l : List ℤ) → length l ≡ 4
    → nat_abs (get_or l 0 (pos 0)) ∷ nat_abs (get_or l 1 (pos 0)) ∷ nat_abs (get_or l 2 (pos 0)) ∷ nat_abs (get_or l 3 (pos 0)) ∷ [] ≡ map nat_abs l
four-numbers (a ∷ b ∷ c ∷ d ∷ []) e = refl
four-numbers (a ∷ b ∷ c ∷ d ∷ f ∷ l) e = absurd (omega arith)
four-numbers [] e = absurd (omega arith)
four-numbers (a ∷ []) e = absurd (omega arith)
four-numbers (a ∷ b ∷ []) e = absurd (omega arith)
four-numbers (a ∷ b ∷ c ∷ []) e = absurd (omega arith)

module _ (m w : ℕ) (numbers : List ℤ) where
  abbrev signed : Bool
  signed = every (le_z (pos 0)) numbers

  abbrev different : Bool
  different = different_columns_of m (map nat_abs (take w numbers))

  abbrev rest : Bool
  rest = is_zero_of (drop w numbers)

  tests : Bool → Bool → Bool → Bool
  tests few t d = (few && t) && (d && rest)

  held-is : order_holds_of m w numbers ≡ tests (leb w m) signed different
  unfolding order_holds_of tests
  held-is = refl

  pub order-few : m < w → order_holds_of m w numbers ≡ false
  unfolding tests
  order-few h = held-is ∙ ap (λ t. tests t signed different) (lt-leb w m h)

  module _ (few : w ≤ m) where
    pub order_signed : every (le_z (pos 0)) numbers ≡ false → order_holds_of m w numbers ≡ false
    unfolding tests
    order_signed e = held-is ∙ ap₂ (λ t u. tests t u different) (le-leb w m few) e

    module _ (sound : every (le_z (pos 0)) numbers ≡ true) where
      by-columns : (d : Bool) → different_columns_of m (take w (map nat_abs numbers)) ≡ d → order_holds_of m w numbers ≡ (d && rest)
      unfolding tests
      by-columns d e =
          held-is ∙ ap₂ (λ t u. tests t u different) (le-leb w m few) sound
          ∙ ap (λ t. t && rest) (ap (different_columns_of m) (sym (map-take nat_abs w numbers)) ∙ e)

      pub order-different : different_columns_of m (take w (map nat_abs numbers)) ≡ false → order_holds_of m w numbers ≡ false
      order-different e = by-columns false e

      pub order-last : different_columns_of m (take w (map nat_abs numbers)) ≡ true → order_holds_of m w numbers ≡ is_zero_of (drop w numbers)
      order-last e = by-columns true e

-- ---- an order that holds

columns-each : (m : ℕ) (l : List ℕ) → T (different_columns_of m l) → All (λ c. (1 ≤ c) × (c ≤ m)) l
unfolding different_columns_of All
columns-each m [] t = tt
columns-each m (c ∷ l) t =
    let (ranged, rest) = (T-&& ((leb 1 c && leb c m) && not (contains c l)) (different_columns_of m l)).0 t in
    let (low, high) = (T-&& (leb 1 c) (leb c m)).0 ((T-&& (leb 1 c && leb c m) (not (contains c l))).0 ranged).0 in
    ((leb→le 1 c low, leb→le c m high), columns-each m l rest)

map-place : (l : List ℤ) → map place_of l ≡ map pred (map nat_abs l)
unfolding place_of
map-place [] = refl
map-place (a ∷ l) = ap (λ r. pred (nat_abs a) ∷ r) (map-place l)

module _ (m w : ℕ) (numbers : List ℤ) (four : length numbers ≡ column_count) (narrow : m ≤ column_count)
    (holds : order_holds_of m w numbers ≡ true) where
  abbrev named : List ℕ
  named = map nat_abs numbers

  both : T (leb w m && every (le_z (pos 0)) numbers) × T (different_columns_of m (map nat_abs (take w numbers)) && is_zero_of (drop w numbers))
  unfolding order_holds_of
  both = (T-&& (leb w m && every (le_z (pos 0)) numbers) _).0 (true-T _ holds)

  pub named-few : w ≤ column_count
  named-few = le_trans (leb→le w m ((T-&& (leb w m) _).0 both.0).0) narrow

  each : All (λ c. (1 ≤ c) × (c ≤ m)) (take w named)
  each =
      subst (All (λ c. (1 ≤ c) × (c ≤ m))) (sym (map-take nat_abs w numbers))
      (columns-each m (map nat_abs (take w numbers)) ((T-&& (different_columns_of m (map nat_abs (take w numbers))) _).0 both.1).0)

  pub named-positive : All (λ c. 1 ≤ c) (take w named)
  named-positive = all-mono (λ c. (1 ≤ c) × (c ≤ m)) (λ c. 1 ≤ c) (λ c h. h.0) (take w named) each

  -- The columns counted from 0.
  columns-are : the_columns_of w numbers ≡ map pred (take w named)
  unfolding the_columns_of
  columns-are = map-place (take w numbers) ∙ ap (map pred) (sym (map-take nat_abs w numbers))

  abbrev order : List ℕ
  order = pad_to column_count 0 (map pred (take w named))

  pub named-columns : Columns order
  unfolding Columns
  named-columns =
      all-pad_to (λ c. c < column_count) column_count 0 (map pred (take w named)) (lit< tt)
      (map-keeps (λ c. (1 ≤ c) × (c ≤ m)) (λ c. c < column_count) pred below (take w named) each)
    where
      below : (c : ℕ) → (1 ≤ c) × (c ≤ m) → pred c < column_count
      below zero h = lit< tt
      below (suc c) h = le_trans h.1 narrow

  columns-count : length (the_columns_of w numbers) ≡ w
  unfolding the_columns_of
  columns-count = length-map (take w numbers) place_of ∙ length-take-le w numbers (omega (arith, named-few))

  order_is : order ≡ pad_to column_count 0 (the_columns_of w numbers)
  order_is = ap (pad_to column_count 0) (sym columns-are)

  order-taken : take w order ≡ the_columns_of w numbers
  order-taken =
      ap (take w) order_is ∙ ap (λ n. take n (pad_to column_count 0 (the_columns_of w numbers))) (sym columns-count)
      ∙ take-pad_to column_count 0 (the_columns_of w numbers) (omega (arith, columns-count, named-few))

  -- The code has zeros past the columns.
  pivots-are : (store : List ℤ) → pivots_right_of order (rows_of w store) w ≡ pivots_right_of (the_columns_of w numbers) (rows_of w store) w
  pivots-are store =
      pivots-same order (the_columns_of w numbers) (rows_of w store) (rows_of w store) w (λ j h. (
        sym (take-take j w order (le_of_lt h)) ∙ ap (take j) order-taken,
        ap (λ l. get_or l j 0) order_is
            ∙ get_or-pad_to column_count 0 0 (the_columns_of w numbers) j (omega (arith, columns-count)) (omega (arith, named-few)),
        refl,
      ))

-- ---- the end

pub record Finished (o : Answer.Outcome) : Type 0 where
  pub all_settled : o.refusal ≡ 0 → (o.done ≡ true) × (o.progress.rows ≡ o.progress.settled)

pub record Ended (rows relations : List ℤ) (p : Progress) (o : Answer.Outcome) (x : Outcome) : Type 0 where
  pub reached : Reached p.rows rows relations rows relations p.shifts o x
  pub finished : Finished o

abbrev pub settled_at : Progress → List ℕ → Progress
settled_at p order = record { rows = p.rows; settled = p.rows; order = order; count = p.count; shifts = p.shifts }

pub ended_same : {rows relations : List ℤ} {p : Progress} {o o' : Answer.Outcome} {x x' : Outcome} → o ≡ o' → x ≡ x'
    → Ended rows relations p o' x' → Ended rows relations p o x
ended_same {rows} {relations} {p} {o} {o'} {x} {x'} e f h =
    subst (λ a. Ended rows relations p a x) (sym e) (subst (Ended rows relations p o') (sym f) h)

module _ (m : ℕ) (numbers : List ℤ) {rows relations : List ℤ} {p : Progress} (ready : Ready rows relations p) where
  abbrev n : ℕ
  n = p.rows

  abbrev s : State
  s = state_of rows relations p

  abbrev test : Bool → Bool → Outcome
  test t u = cond (t && u) (done (with_order (the_columns_of n numbers) s)) (refused 13)

  ordered_at : ordered m numbers s ≡ test (order_holds_of m n numbers) (pivots_right_of (the_columns_of n numbers) (rows_of n rows) n)
  unfolding ordered state_of
  ordered_at =
      ap (λ k. cond (order_holds_of m k numbers && pivots_right_of (the_columns_of k numbers) (rows_of n rows) k)
      (done (with_order (the_columns_of k numbers) s)) (refused 13)) (length-rows_of n rows)

  end_refused : Ended rows relations p (answer_of 13 p) (refused 13)
  unfolding outcome_of
  end_refused =
      record {
        reached =
            record {
              outcome = refl;
              fewer = le_refl n;
              freed = freed-none n rows;
              rows-kept = kept_same (row_need n) rows;
              relations-kept = kept_same relation_need relations;
              few-shifts = le_refl p.shifts;
              ready = ready;
            };
        finished = record { all_settled = λ e. absurd (omega arith) };
      }

  pub end-unheld : order_holds_of m n numbers ≡ false → Ended rows relations p (answer_of 13 p) (ordered m numbers s)
  end-unheld e =
      ended_same refl (ordered_at ∙ ap (λ t. test t (pivots_right_of (the_columns_of n numbers) (rows_of n rows) n)) e) end_refused

  module _ (four : length numbers ≡ column_count) (narrow : m ≤ column_count) (holds : order_holds_of m n numbers ≡ true) where
    abbrev pub end_order : List ℕ
    end_order = pad_to column_count 0 (map pred (take n (map nat_abs numbers)))

    by-pivots : (u : Bool) → pivots_right_of end_order (rows_of n rows) n ≡ u → ordered m numbers s ≡ test true u
    by-pivots u e = ordered_at ∙ ap₂ test holds (sym (pivots-are m n numbers four narrow holds rows) ∙ e)

    pub end-unpivoted : pivots_right_of end_order (rows_of n rows) n ≡ false → Ended rows relations p (answer_of 13 p) (ordered m numbers s)
    end-unpivoted e = ended_same refl (by-pivots false e) end_refused

    pub end-accepted : pivots_right_of end_order (rows_of n rows) n ≡ true
        → Ended rows relations p (record { refusal = 0; done = true; progress = settled_at p end_order }) (ordered m numbers s)
    unfolding outcome_of state_of with_order
    end-accepted e =
        ended_same refl (by-pivots true e)
        (record {
          reached =
              record {
                outcome = ap (λ o. done (with_order o s)) taken;
                fewer = le_refl n;
                freed = freed-none n rows;
                rows-kept = kept_same (row_need n) rows;
                relations-kept = kept_same relation_need relations;
                few-shifts = le_refl p.shifts;
                ready =
                    record {
                      few-rows = ready.few-rows;
                      rows-within = ready.rows-within;
                      listing = ready.listing;
                      settled = le_refl n;
                      few-settled = named-few m n numbers four narrow holds;
                      different = subst Distinct (sym taken) distinct;
                      four = length-pad_to column_count 0 (map pred (take n (map nat_abs numbers)));
                      columns = named-columns m n numbers four narrow holds;
                      padded = order_is m n numbers four narrow holds ∙ ap (pad_to column_count 0) (sym taken);
                    };
              };
          finished = record { all_settled = λ _. (refl, refl) };
        })
      where
        taken : take n end_order ≡ the_columns_of n numbers
        taken = order-taken m n numbers four narrow holds

        distinct : Distinct (the_columns_of n numbers)
        distinct =
            let count = columns-count m n numbers four narrow holds in
            order-distinct (the_columns_of n numbers) (rows_of n rows)
            (subst (λ w. PivotRows w (the_columns_of n numbers) (rows_of n rows)) (sym count)
            ((pivots-right (the_columns_of n numbers) (rows_of n rows) n (le_of_eq (sym count))).0
            (true-T _ (sym (pivots-are m n numbers four narrow holds rows) ∙ e))))
