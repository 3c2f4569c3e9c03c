-- What one step of our own leading run is as steps of a log.
--
-- Main definitions
--   Taken D cs s s'      the steps cs lead from s to s', whatever the order is
--   OwnStep D s s' cs    they do, they can be written, and there are two of them or fewer
--
-- Main statements
--   primitive-divisor, divisor-positive, divisor-divides   the division by the content, by its number
--   own-step             so is every step of a run, with the steps of a log that it is
use Prim.Native.Nat.{ℕ, zero, suc, ◌≤◌, ◌<◌, zero-le}
use Rattle.std.specs.Prelude.{◌≡◌, Bool, ◌&&◌, not, cond, leb, eqb, length, pos, nat_abs}
use Rattle.std.proofs.Math.Path.{refl, ap, subst}
use Rattle.std.proofs.Common.{sym, ◌∙◌, ap₂, zero-lt-suc, le→leb, eqb→eq}
use Rattle.std.proofs.Math.Bool.{true, false}
use mathlib.Core.List.{List, [], ◌∷◌, map}
use Rattle.std.proofs.Math.Option.{Option, none, some}
use Rattle.std.proofs.Math.Nat.{one-dvd}
use native.Mathlib.Omega.{arith}
use Rattle.std.proofs.Math.Dec.{T, T_not, not_T, ltb, lt→ltb}
use Rattle.std.proofs.Math.ListN.{get_or, length-map}
use Rattle.lists.specs.Everywhere.{All, all-always, all_get_or, get_or-all}
use Rattle.lists.specs.Images.{map_same, get_or_map}
use Rattle.lists.specs.Tests.{T-&&, every-all, every-of-all, cond-passed, cond-failed}
use Rattle.algebra.specs.Divisors.{divides, divides-dvd}
use Rattle.algebra.specs.Gcd.{content, divide_by, DividesAll, content-divides, divide_by-one}
use Rattle.algebra.specs.Polynomials.{Polynomial, is_zero_of}
use Rattle.rules.specs.Limits.{most_relations}
use Rattle.rules.specs.Rows.{Block, Row, no_row, map_row, coefficients_of, zero_left, zero_row, zero_block, width, leading_block, entry}
use Rattle.rules.specs.Rows.{first_nonzero}
use Rattle.rules.specs.Rows.{combine, primitive, shift_up, small_row}
use Rattle.rules.specs.Stores.{Sizes, row_right_of}
use Rattle.rules.specs.Elimination.{State, going, refused, and_then, leading, row_at, put_row, put_limited_of, list_relations, settle}
use Rattle.rules.specs.Elimination.{count_shift, exchange, drop_row, narrow_first, multipliers_at, root_relations, limit_degrees}
use Rattle.rules.specs.Elimination.{limit_coefficients}
use Rattle.rules.specs.Elimination.{within, shift_step_of}
use Rattle.theory.specs.Steps.{Stepped, combined, settled, shifted, dropped, current, met, MetZeroBelow, exchanged, multipliers_for}
use Rattle.theory.specs.Steps.{listed}
use Rattle.theory.specs.Steps.{combination, FirstNonzero, first_nonzero-some, first_nonzero-none, length-narrow_first, narrow_first-all}
use Rattle.theory.specs.Triangular.{Triangular, multipliers_for-nonzero}
use Rattle.theory.specs.Multipliers.{multipliers-small}
use Rattle.theory.specs.LimitsKept.{ValidRows, row_right-iff, entry-small, multipliers_for-lengths}
use Rattle.theory.proofs.Solutions.{shifted-zeros}
use Rattle.log_steps.specs.Logs.{Change, exchanging, raising, dropping, divides_all, two_rows_of, divided_row_of, allowed, applied, combine_rows_of}
use Rattle.log_steps.specs.Logs.{changed, with_order}
use Rattle.log_steps.specs.Changes.{Formed, exchange-formed, combination-formed, raise-formed, drop-formed}
use Rattle.own_logs.specs.Own.{divisor_of, combination_change, eliminate_changes, shift_changes, meet_changes, work_changes, step_changes}
use Rattle.logs.specs.Written.{changes}

-- ---- the number that a combination is divided by

divided-once : (r : Row) → map_row (divide_by 1) r ≡ r
unfolding map_row
divided-once r =
    ap₂ (λ bs q. record { blocks = bs; right = q })
    (map_same (map (divide_by 1)) r.blocks (all-always (λ b. map (divide_by 1) b ≡ b) same r.blocks)) (divide_by-one r.right)
  where
    same : (b : Block) → map (divide_by 1) b ≡ b
    same b = map_same (divide_by 1) b (all-always (λ p. divide_by 1 p ≡ p) divide_by-one b)

pub primitive-divisor : (r : Row) → map_row (divide_by (divisor_of r)) r ≡ primitive r
unfolding primitive divisor_of
primitive-divisor r = go (content (coefficients_of r))
  where
    go : (c : ℕ) → map_row (divide_by (elim c [ zero ↦ 1 | suc d ↦ suc d ])) r ≡ elim c [ zero ↦ r | suc d ↦ map_row (divide_by (suc d)) r ]
    go zero = divided-once r
    go (suc d) = refl

pub divisor-positive : (r : Row) → 0 < divisor_of r
unfolding divisor_of
divisor-positive r = go (content (coefficients_of r))
  where
    go : (c : ℕ) → 0 < elim c [ zero ↦ 1 | suc d ↦ suc d ]
    go zero = zero-lt-suc 0
    go (suc d) = zero-lt-suc d

divisor-all : (r : Row) → DividesAll (divisor_of r) (coefficients_of r)
unfolding divisor_of
divisor-all r = go (content (coefficients_of r)) (content-divides (coefficients_of r))
  where
    go : (c : ℕ) → DividesAll c (coefficients_of r) → DividesAll (elim c [ zero ↦ 1 | suc d ↦ suc d ]) (coefficients_of r)
    go zero h k = one-dvd _
    go (suc d) h k = h k

pub divisor-divides : (r : Row) → T (divides_all (divisor_of r) (coefficients_of r))
unfolding divides_all
divisor-divides r =
    every-of-all (λ a. divides (divisor_of r) (nat_abs a)) (coefficients_of r)
    (get_or-all _ (coefficients_of r) (pos 0) (λ k _. (divides-dvd (divisor_of r) _).1 (divisor-all r k)))

-- ---- the first nonzero polynomial

first-is : (ps : List Polynomial) (c : ℕ) → FirstNonzero ps c → first_nonzero ps ≡ some c
first-is ps c f = go (first_nonzero ps) refl
  where
    go : (o : Option ℕ) → first_nonzero ps ≡ o → o ≡ some c
    go none e = absurd (T_not (is_zero_of (get_or ps c [])) f.nonzero (first_nonzero-none ps e c))
    go (some k) e =
        let q = first_nonzero-some ps k e in
        ap some (two k (λ h. T_not (is_zero_of (get_or ps c [])) f.nonzero (q.before c h))
        (λ h. T_not (is_zero_of (get_or ps k [])) q.nonzero (f.before k h)))
      where
        two : (k : ℕ) → ¬ (c < k) → ¬ (k < c) → k ≡ c
        two k x y = omega arith

first-none : (ps : List Polynomial) → ((k : ℕ) → k < length ps → T (is_zero_of (get_or ps k []))) → first_nonzero ps ≡ none
first-none ps zeros = go (first_nonzero ps) refl
  where
    go : (o : Option ℕ) → first_nonzero ps ≡ o → o ≡ none
    go none e = refl
    go (some k) e = let q = first_nonzero-some ps k e in absurd (T_not (is_zero_of (get_or ps k [])) q.nonzero (zeros k q.inside))

module _ (s : State) where
  entries : List Polynomial
  entries = map (entry (row_at s (current s))) s.order

  at-column : (k : ℕ) → k < current s → get_or entries k [] ≡ met s k
  unfolding entries
  at-column k h = get_or_map (entry (row_at s (current s))) s.order k 0 [] h

  size : length entries ≡ current s
  unfolding entries
  size = length-map s.order (entry (row_at s (current s)))

  met-first : (j : ℕ) → j < current s → MetZeroBelow s j → T (not (is_zero_of (met s j))) → first_nonzero entries ≡ some j
  met-first j below clear meets =
      first-is entries j (record {
        inside = rw size below;
        nonzero = subst (λ p. T (not (is_zero_of p))) (sym (at-column j below)) meets;
        before = λ k h. subst (λ p. T (is_zero_of p)) (sym (at-column k (omega arith))) (clear k h);
      })

  met-none : MetZeroBelow s (current s) → first_nonzero entries ≡ none
  met-none clear = first-none entries (λ k h. let b = subst (λ n. k < n) size h in subst (λ p. T (is_zero_of p)) (sym (at-column k b))
      (clear k b))

  -- A row with a left part is not dropped.
  changes-met : T (not (zero_left (row_at s (current s)))) → step_changes s ≡ meet_changes s (current s) (first_nonzero entries)
  unfolding step_changes work_changes entries zero_row
  changes-met nonzero = cond-failed (zero_row (row_at s (current s))) _ _ (λ t. T_not (zero_left (row_at s (current s))) nonzero
      ((T-&& (zero_left (row_at s (current s))) _).0 t).0)

  changes-zero : T (zero_row (row_at s (current s))) → step_changes s ≡ dropping (current s) ∷ []
  unfolding step_changes work_changes
  changes-zero zeros = cond-passed (zero_row (row_at s (current s))) (dropping (current s) ∷ []) _ zeros

-- ---- the steps of a log

abbrev pub Taken : ℕ → List Change → State → State → Type 0
Taken D cs s s' = (o : List ℕ) → changes D cs (with_order o s) ≡ going (with_order o s')

pub record OwnStep (D : ℕ) (s s' : State) (cs : List Change) : Type 0 where
  pub taken : Taken D cs s s'
  pub formed : All Formed cs
  pub few : length cs ≤ 2

first_taken : (D : ℕ) (c : Change) (cs : List Change) (u v : State) → T (allowed D u c) → applied u c ≡ going v
    → changes D (c ∷ cs) u ≡ changes D cs v
unfolding changes changed and_then
first_taken D c cs u v t e =
    ap (λ o. and_then o (changes D cs)) (cond-passed (allowed D u c) (applied u c) (refused 13) t ∙ e)

two-present : (s : State) (i j : ℕ) → i < length s.rows → j < i → T (two_rows_of s i j)
unfolding two_rows_of
two-present s i j a b =
    (T-&& (ltb i (length s.rows) && ltb j (length s.rows)) (not (eqb i j))).1 (
      (T-&& (ltb i (length s.rows)) (ltb j (length s.rows))).1 (
        lt→ltb i (length s.rows) a,
        lt→ltb j (length s.rows)
            (omega arith),
      ),
      not_T (eqb i j) (λ t. other (eqb→eq i j t)),
    )
  where
    other : i ≡ j → ⊥
    other e = omega arith

module _ (D : ℕ) {z : Sizes} (s : State) (v : ValidRows z s.rows s.relations) (t : Triangular s) where
  dropped_step : current s < length s.rows → T (zero_row (row_at s (current s)))
      → OwnStep D s (drop_row s (current s)) (dropping (current s) ∷ [])
  unfolding allowed applied with_order drop_row row_at changes All
  dropped_step below zeros =
      record {
        taken = λ o. first_taken D (dropping (current s)) [] (with_order o s) (with_order o (drop_row s (current s)))
            ((T-&& (ltb (current s) (length s.rows)) (zero_row (row_at s (current s)))).1 (
              lt→ltb (current s) (length
                  s.rows) below,
              zeros,
            )) refl;
        formed = (drop-formed, tt);
        few = omega arith;
      }

  settled-step : (c : ℕ) → OwnStep D s (settle s c) []
  unfolding with_order settle changes All
  settled-step c = record { taken = λ o. refl; formed = tt; few = zero-le }

  shifted_step : (r : Row) → current s < length s.rows → T (zero_block (leading_block (row_at s (current s))))
      → limit_coefficients (shift_up (row_at s (current s))) ≡ within r
      → OwnStep D s (put_row (count_shift s) (current s) r) (raising (current s) ∷ [])
  unfolding allowed applied shift_step_of with_order put_limited_of put_row count_shift row_at changes All
  shifted_step r below zeros e =
      record {
        taken = λ o. first_taken D (raising (current s)) [] (with_order o s) (with_order o (put_row (count_shift s) (current s) r))
            ((T-&& (ltb (current s) (length s.rows)) (zero_block (leading_block (row_at s (current s))))).1
            (lt→ltb (current s) (length s.rows) below, zeros))
            (ap (put_limited_of (count_shift (with_order o s)) (current s)) e);
        formed = (raise-formed, tt);
        few = omega arith;
      }

  module _ (j : ℕ) (before : j < current s) (below : current s < length s.rows) (clear : MetZeroBelow s j)
      (meets : T (not (is_zero_of (met s j)))) where
    abbrev e : State
    e = exchanged s j

    abbrev g : Polynomial
    g = (multipliers_for s j).g

    abbrev h : Polynomial
    h = (multipliers_for s j).h

    abbrev result : Row
    result = combine g h (row_at e (current s)) (row_at e j)

    abbrev change : Change
    change = combination_change e (current s) j (multipliers_for s j)

    exchange-taken : (o : List ℕ) → changes D (eliminate_changes s (current s) j) (with_order o s) ≡ changes D (change ∷ []) (with_order o e)
    unfolding eliminate_changes narrow_first allowed applied with_order exchange put_row row_at
    exchange-taken o = go (ltb (width (row_at s (current s))) (width (row_at s j))) (change ∷ [])
      where
        go : (w : Bool) (rest : List Change) → changes D (cond w (exchanging (current s) j ∷ rest) rest) (with_order o s)
            ≡ changes D rest (with_order o (cond w (exchange s (current s) j) s))
        go true rest = first_taken D (exchanging (current s) j) rest (with_order o s) (with_order o (exchange s (current s) j))
            (two-present (with_order o s) (current s) j below before) refl
        go false rest = refl

    change-taken : (r : Row) (o : List ℕ) → length (listed leading s j).relations ≤ most_relations → limit_degrees
        (combination s j) ≡ within r
        → changes D (change ∷ []) (with_order o e) ≡ going (with_order o (put_row (listed leading s j) (current s) r))
    unfolding combination_change allowed applied combine_rows_of with_order list_relations put_limited_of put_row row_at divided_row_of changes
    change-taken r o few f =
        first_taken D change [] (with_order o e) (with_order o (put_row (listed leading s j) (current s) r))
        ((T-&& (two_rows_of (with_order o e) (current s) j) _).1 (
          two-present (with_order o e) (current s) j (subst (λ n. current s < n) (sym (length-narrow_first s (current s) j)) below) before,
          (T-&& (not (is_zero_of g)) (divides_all (divisor_of result) (coefficients_of result))).1
              (multipliers_for-nonzero s j t before below clear meets, divisor-divides result),
        ))
        (cond-passed (leb (length (listed leading s j).relations) most_relations) _ (refused 9) (le→leb _ most_relations few)
        ∙ ap (put_limited_of (list_relations (with_order o e) (root_relations leading g (row_at e (current s)))) (current s))
        (ap limit_degrees (primitive-divisor result) ∙ f))

    -- The rows after the exchange are within ±C.
    small-row : (k : ℕ) → k ≤ current s → T (small_row (row_at e k))
    unfolding row_at
    small-row k b =
        ((row_right-iff z (row_at e k)).0 (all_get_or (λ r. T (row_right_of z r)) e.rows no_row k (omega (
          arith,
          length-narrow_first s
              (current s) j,
        ))
        ((narrow_first-all (λ r. T (row_right_of z r)) s (current s) j below (omega arith)).1
        ((every-all (row_right_of z) s.rows).0 v.rows_right)))).0

    change-formed : Formed change
    unfolding combination_change multipliers_at
    change-formed =
        let lengths = multipliers_for-lengths s j before below v.row-shapes meets in
        let c = get_or e.order j 0 in
        let smalls = multipliers-small (entry (row_at e j) c) (entry (row_at e (current s)) c)
        (entry-small (row_at e j) c (small-row j (omega arith))) (entry-small (row_at e (current s)) c (small-row (current s)
        (omega arith))) in
        combination-formed lengths.0 lengths.1 smalls.0 smalls.1 (divisor-positive result)

    combined-step : (r : Row) → length (listed leading s j).relations ≤ most_relations → limit_degrees (combination s j) ≡ within r
        → OwnStep D s (put_row (listed leading s j) (current s) r) (eliminate_changes s (current s) j)
    unfolding eliminate_changes All
    combined-step r few f =
        let w = ltb (width (row_at s (current s))) (width (row_at s j)) in
        record { taken = λ o. exchange-taken o ∙ change-taken r o few f; formed = formed w; few = most w }
      where
        formed : (w : Bool) → All Formed (cond w (exchanging (current s) j ∷ change ∷ []) (change ∷ []))
        formed true = (exchange-formed, (change-formed, tt))
        formed false = (change-formed, tt)

        most : (w : Bool) → length (cond w (exchanging (current s) j ∷ change ∷ []) (change ∷ [])) ≤ 2
        most true = omega arith
        most false = omega arith

  -- Each step of a run.
  pub own-step : {s' : State} → Stepped leading s s' → OwnStep D s s' (step_changes s)
  unfolding meet_changes shift_changes
  own-step (combined j before below nonzero clear meets few r f) =
      subst (OwnStep D s (put_row (listed leading s j) (current s) r))
      (sym (changes-met s nonzero ∙ ap (meet_changes s (current s)) (met-first s j before clear meets)))
      (combined-step j before below clear meets r few f)
  own-step (settled c below nonzero clear f) =
      subst (OwnStep D s (settle s c))
      (sym (changes-met s nonzero ∙ ap (meet_changes s (current s)) (met-none s clear) ∙ ap (shift_changes (current s)) f)) (settled-step c)
  own-step (shifted r below nonzero clear f limited) =
      subst (OwnStep D s (put_row (count_shift s) (current s) r))
      (sym (changes-met s nonzero ∙ ap (meet_changes s (current s)) (met-none s clear) ∙ ap (shift_changes (current s)) f))
      (shifted_step r below (shifted-zeros s f) limited)
  own-step (dropped below zeros) = subst (OwnStep D s (drop_row s (current s))) (sym (changes-zero s zeros)) (dropped_step below zeros)
