-- Our own accepted leading runs, written as logs, are accepted with the same rows, relations and order (SCOPE 13.5).
--
-- Main definitions
--   OwnRun D s s' k cs     the steps cs lead from s to s', they can be written, and there are 2 k of them or fewer
--
-- Main statements
--   own-run                the steps of a log that a run of at most k steps is
--   own-accepted           the replay of our own log is accepted with the final state of the run
--   own-few                our own log has fewer than 1,000 steps
--   own_read, own-order    what the log's store holds is read as its steps and its four numbers
use Prim.Native.Nat.{ℕ, zero, suc, ◌+◌, ◌*◌, ◌≤◌, ◌<◌, zero-le}
use Rattle.std.specs.Prelude.{◌≡◌, Bool, true, false, ◌&&◌, not, leb, eqb, get_or, drop, ℤ}
use Rattle.std.proofs.Math.Path.{refl, ap, subst}
use Rattle.std.proofs.Common.{sym, ◌∙◌, ⊎_elim, le_refl, le_of_eq, mul-le-mul, add-le-add, arith, le→leb, eqb→eq, length-append, drop_at}
use Rattle.std.proofs.Math.Bool.{cond}
use mathlib.Core.List.{List, [], ◌∷◌, ◌++◌, map, flatten, append_assoc, Memᴰ}
use Rattle.std.proofs.Math.Nat.{suc_inj, suc-le-suc_iff, le_trans}
use Rattle.std.proofs.Math.Dec.{T, not_T}
use Rattle.std.proofs.Math.ListN.{length, take}
use Rattle.std.proofs.lemmas.List.{length-map}
use Rattle.std.proofs.Math.Seq.{take_at}
use Rattle.std.proofs.Math.IntN.{pos, nat_abs}
use Rattle.std.specs.Int.Signed.{le_z}
use Rattle.lists.specs.Everywhere.{All, append-all, all-mono, all-get_or-default, map-keeps}
use Rattle.lists.specs.Tests.{T-&&, T-or, every, cond-passed}
use Rattle.lists.specs.Images.{map-take, map-drop}
use Rattle.lists.specs.Padded.{pad_to, length-pad_to, take-pad_to, drop-pad_to}
use Rattle.lists.specs.Joined.{length-flatten}
use Rattle.lists.specs.Parts.{parts, parts-flatten}
use Rattle.algebra.specs.Pigeonhole.{Distinct}
use Rattle.algebra.specs.Polynomials.{is_zero_of, is_zero-cons}
use Rattle.rules.specs.Limits.{column_count, block_count}
use Rattle.rules.specs.Rows.{Row, Relation, no_row}
use Rattle.rules.specs.Sheets.{contains}
use Rattle.rules.specs.SheetCalls.{different_columns_of}
use Rattle.rules.specs.Stores.{Sizes, span, Shaped, StoreRow}
use Rattle.rules.specs.Layout.{size-bounds}
use Rattle.rules.specs.Calls.{reported_order}
use Rattle.rules.specs.Elimination.{State, start, Outcome, going, done, refused, and_then, leading, step, run, finished, enough}
use Rattle.rules.specs.Elimination.{leading_run_of}
use Rattle.rules.specs.Elimination.{whole_run_of}
use Rattle.theory.specs.Steps.{current, StepView, over-limit, inconsistent, goes_on, Left, none_left, row-left, left}
use Rattle.theory.proofs.Steps.{step-view}
use Rattle.theory.specs.Steps.{going≢done, done-injective, done≢refused}
use Rattle.theory.specs.Triangular.{Triangular, triangular-start, triangular-stepped}
use Rattle.theory.specs.LimitsKept.{ValidRows, valid-rows, stepped-valid}
use Rattle.theory.specs.Settled.{Diagonal, diagonal-most}
use Rattle.theory.proofs.Settled.{settled-leading, settled-triangular, settled-count, settled-diagonal}
use Rattle.theory.specs.Demands.{Accepted}
use Rattle.log_steps.specs.Logs.{Change, place_of, order_holds_of, the_columns_of, with_order, ordered, replay, most_steps, step_length}
use Rattle.steps.specs.HeldCalls.{pivots_right_of}
use Rattle.log_steps.specs.Logs.{steps_in, numbers_in}
use Rattle.log_steps.specs.Changes.{Formed}
use Rattle.steps.specs.SoundStates.{pivots-right}
use Rattle.own_logs.specs.Own.{change_numbers, step_changes, later, run_changes, own_changes, own_numbers, log_of}
use Rattle.logs.specs.Written.{changes, changes-append, replayed-written, length-numbers}
use Rattle.logs.specs.OwnSteps.{Taken, OwnStep, own-step}

-- ---- a run

pub record OwnRun (D : ℕ) (s s' : State) (k : ℕ) (cs : List Change) : Type 0 where
  pub taken : Taken D cs s s'
  pub formed : All Formed cs
  pub few : length cs ≤ k + k

nothing-done : (D : ℕ) (s s' : State) (k : ℕ) → s ≡ s' → OwnRun D s s' k []
unfolding changes All
nothing-done D s s' k e = record { taken = λ o. ap (λ u. going (with_order o u)) e; formed = tt; few = zero-le }

-- A step and the run behind it.
step-before : (D : ℕ) (s u s' : State) (k : ℕ) (cs es : List Change) → OwnStep D s u cs → OwnRun D u s' k es
    → OwnRun D s s' (suc k) (cs ++ es)
unfolding and_then
step-before D s u s' k cs es a b =
    record {
      taken = λ o. changes-append D cs es (with_order o s) ∙ ap (λ x. and_then x (changes D es)) (a.taken o) ∙ b.taken o;
      formed = append-all Formed cs es a.formed b.formed;
      few = omega (arith, length-append cs es, a.few, b.few);
    }

pub own-run : (D : ℕ) {z : Sizes} (k : ℕ) (s s' : State) → ValidRows z s.rows s.relations → Triangular s
    → run leading k s ≡ done s' → OwnRun D s s' k (run_changes k s)
unfolding run run_changes and_then later
own-run D zero s s' v t e = go (finished s) e
  where
    go : (b : Bool) → cond b (done s) (going s) ≡ done s' → OwnRun D s s' zero []
    go true e = nothing-done D s s' zero (done-injective e)
    go false e = absurd (going≢done e)
own-run D {z} (suc k) s s' v t e = go (left s) (λ u v t f. own-run D k u s' v t f) e
  where
    Rest : Type 0
    Rest = (u : State) → ValidRows z u.rows u.relations → Triangular u → run leading k u ≡ done s' → OwnRun D u s' k (run_changes k u)

    taken : (o : Outcome) → StepView leading s o → Rest → and_then o (run leading k) ≡ done s'
        → OwnRun D s s' (suc k) (step_changes s ++ later o (run_changes k))
    taken o (over-limit n i x c) rec e = absurd (done≢refused (sym e))
    taken o (inconsistent i x) rec e = absurd (done≢refused (sym e))
    taken o (goes_on {s' = u} p) rec e =
        step-before D s u s' k (step_changes s) (run_changes k u) (own-step D s v t p)
        (rec u (stepped-valid p v) (triangular-stepped p t) e)

    go : {b : Bool} → Left s b → Rest → cond b (done s) (and_then (step leading s) (run leading k)) ≡ done s'
        → OwnRun D s s' (suc k) (cond b [] (step_changes s ++ later (step leading s) (run_changes k)))
    go (none_left h) rec e = nothing-done D s s' (suc k) (done-injective e)
    go (row-left h) rec e = taken (step leading s) (step-view leading s h) rec e

-- ---- the column order

-- A number that the list counted from 1 contains stands in the list.
contained : (c : ℕ) (l : List ℕ) → T (contains (suc c) (map suc l)) → Memᴰ c l
unfolding contains
contained c [] h = absurd h
contained c (d ∷ l) h =
    ⊎_elim (λ e. Memᴰ.head (suc_inj (eqb→eq (suc c) (suc d) e))) (λ m. Memᴰ.tail (contained c l m))
    ((T-or (eqb (suc c) (suc d)) (contains (suc c) (map suc l))).0 h)

-- Different columns below m, counted from 1.
different-columns : (m : ℕ) (l : List ℕ) → Distinct l → ((k : ℕ) → k < length l → get_or l k 0 < m) → T (different_columns_of m (map suc l))
unfolding different_columns_of
different-columns m [] d below = tt
different-columns m (c ∷ l) d below =
    (T-&& (leb 1 (suc c) && leb (suc c) m && not (contains (suc c) (map suc l))) (different_columns_of m (map suc l))).1 (
      (T-&& (leb 1 (suc c) && leb (suc c) m) (not (contains (suc c) (map suc l)))).1 (
        (T-&& (leb 1 (suc c)) (leb (suc c) m)).1 (le→leb 1 (suc c) (omega arith), le→leb (suc c) m (below 0 (omega arith))),
        not_T (contains (suc c) (map suc l)) (λ h. d.0 (contained c l h)),
      ),
      different-columns m l d.1 (λ k h. below (suc k) (suc-le-suc_iff.1 h)),
    )

pub own-four : (order : List ℕ) → length (own_numbers order) ≡ column_count
unfolding own_numbers reported_order
own-four order = length-map (pad_to column_count 0 (map suc order)) pos ∙ length-pad_to column_count 0 (map suc order)

-- A row of a store has five blocks.
shaped-blocks : (r : Row) → StoreRow r → length r.blocks ≡ block_count
unfolding Shaped
shaped-blocks r h = h.0

module _ (order : List ℕ) (few : length order ≤ column_count) where
  taken-numbers : take (length order) (own_numbers order) ≡ map pos (map suc order)
  unfolding own_numbers reported_order
  taken-numbers =
      map-take pos (length order) (pad_to column_count 0 (map suc order))
      ∙ ap (map pos) (subst (λ n. take n (pad_to column_count 0 (map suc order)) ≡ map suc order) (length-map order suc)
      (take-pad_to column_count 0 (map suc order) (subst (λ n. n ≤ column_count) (sym (length-map order suc)) few)))

  read-columns : the_columns_of (length order) (own_numbers order) ≡ order
  unfolding the_columns_of place_of
  read-columns = ap (map place_of) taken-numbers ∙ back order
    where
      back : (l : List ℕ) → map place_of (map pos (map suc l)) ≡ l
      back [] = refl
      back (c ∷ l) = ap (λ r. c ∷ r) (back l)

  read_names : map nat_abs (take (length order) (own_numbers order)) ≡ map suc order
  read_names = ap (map nat_abs) taken-numbers ∙ back (map suc order)
    where
      back : (l : List ℕ) → map nat_abs (map pos l) ≡ l
      back [] = refl
      back (c ∷ l) = ap (λ r. c ∷ r) (back l)

  rest-zero : T (is_zero_of (drop (length order) (own_numbers order)))
  unfolding own_numbers reported_order every is_zero_of
  rest-zero =
      subst (λ l. T (is_zero_of l)) (sym (map-drop pos (length order) (pad_to column_count 0 (map suc order))))
      (go (drop (length order) (pad_to column_count 0 (map suc order)))
      (subst (λ n. T (every (eqb 0) (drop n (pad_to column_count 0 (map suc order))))) (length-map order suc)
      (drop-pad_to (eqb 0) column_count 0 (map suc order) tt)))
    where
      go : (l : List ℕ) → T (every (eqb 0) l) → T (is_zero_of (map pos l))
      go [] t = tt
      go (c ∷ l) t =
          let (first, others) = (T-&& (eqb 0 c) (every (eqb 0) l)).0 t in
          (is_zero-cons (pos c) (map pos l)).1 (ap pos (sym (eqb→eq 0 c first)), go l others)

  all-positive : T (every (le_z (pos 0)) (own_numbers order))
  unfolding own_numbers every
  all-positive = go (reported_order order)
    where
      go : (l : List ℕ) → T (every (le_z (pos 0)) (map pos l))
      go [] = tt
      go (c ∷ l) = (T-&& (le_z (pos 0) (pos c)) _).1 (le→leb 0 c zero-le, go l)

-- ---- the replay of our own log

module _ {z : Sizes} {rows : List Row} {relations : List Relation} {s : State} (a : Accepted leading z rows relations s) where
  abbrev own : List Change
  own = own_changes rows relations

  own-whole : OwnRun (span z) (start rows relations) s (enough rows) own
  unfolding own_changes whole_run_of leading_run_of start
  own-whole =
      own-run (span z) (enough rows) (start rows relations) s (valid-rows a.valid) (triangular-start rows relations) a.accepts

  count : current s ≡ length s.rows
  count = settled-count (settled-leading a.valid a.accepts)

  diagonal : Diagonal leading (current s) z.m (span z) s
  diagonal = settled-diagonal (settled-leading a.valid a.accepts)

  few-columns : length s.order ≤ column_count
  few-columns = le_trans (diagonal-most diagonal) (size-bounds z a.valid.sizes).few

  order-right : T (order_holds_of z.m (length s.order) (own_numbers s.order))
  unfolding order_holds_of
  order-right =
      (T-&& (leb (length s.order) z.m && every (le_z (pos 0)) (own_numbers s.order)) _).1 (
        (T-&& (leb (length s.order) z.m) (every (le_z (pos 0)) (own_numbers s.order))).1
            (le→leb (length s.order) z.m (diagonal-most diagonal), all-positive s.order few-columns),
        (T-&& (different_columns_of z.m (map nat_abs (take (length s.order) (own_numbers s.order)))) _).1 (
          subst (λ l. T (different_columns_of z.m l)) (sym (read_names s.order few-columns))
              (different-columns z.m s.order diagonal.columns-different diagonal.column-below),
          rest-zero s.order few-columns,
        ),
      )

  ended : ordered z.m (own_numbers s.order) (with_order [] s) ≡ done s
  unfolding ordered with_order
  ended =
      subst (λ w. cond (order_holds_of z.m w (own_numbers s.order) && pivots_right_of (the_columns_of w (own_numbers s.order)) s.rows w)
      (done (with_order (the_columns_of w (own_numbers s.order)) s)) (refused 13) ≡ done s) count
      (cond-passed (order_holds_of z.m (current s) (own_numbers s.order) && pivots_right_of columns s.rows (current s)) _ (refused 13)
      ((T-&& (order_holds_of z.m (current s) (own_numbers s.order)) (pivots_right_of columns s.rows (current s))).1 (
        order-right,
        subst (λ l. T (pivots_right_of l s.rows (current s))) (sym same)
            ((pivots-right s.order s.rows (current s) (le_refl (current s))).1
            (settled-triangular (settled-leading a.valid a.accepts)).pivots),
      ))
      ∙ ap (λ l. done (with_order l s)) same)
    where
      columns : List ℕ
      columns = the_columns_of (current s) (own_numbers s.order)

      same : columns ≡ s.order
      same = read-columns s.order few-columns

  -- Accepted, with the same rows, relations, order and shifts (SCOPE 13.53).
  pub own-accepted : replay z.m (span z) (map change_numbers own) (own_numbers s.order) rows relations ≡ done s
  unfolding replay and_then start with_order
  own-accepted =
      ap (λ o. and_then o (ordered z.m (own_numbers s.order)))
      (replayed-written (span z) own own-whole.formed (start rows relations) ∙ own-whole.taken [])
      ∙ ended

  -- No more than 252 steps of a run, each two steps of a log or fewer (SCOPE 13.54).
  enough-bound : enough rows ≤ 252
  unfolding enough
  enough-bound =
      le_trans (mul-le-mul (suc-le-suc_iff.1 six) (add-le-add six (mul-le-mul six five))) (omega arith)
    where
      six : length rows ≤ 6
      six = subst (λ n. n ≤ 6) (sym a.valid.row_count) (size-bounds z a.valid.sizes).few-equations

      five : length (get_or rows 0 no_row).blocks ≤ 5
      five = all-get_or-default (λ r. length r.blocks ≤ 5) rows no_row 0 zero-le
          (all-mono StoreRow (λ r. length r.blocks ≤ 5) (λ r h. le_of_eq (shaped-blocks r h)) rows a.valid.row-shapes)

  pub own-few : length own < most_steps
  own-few = omega (arith, own-whole.few, enough-bound)

  own-formed : All (λ x. length x ≡ step_length) (map change_numbers own)
  own-formed = map-keeps Formed (λ x. length x ≡ step_length) change_numbers length-numbers own own-whole.formed

  -- The steps and the four numbers, as they are read from the store (SCOPE 13.1).
  pub own_read : (rest : List ℤ) → steps_in (length own) (log_of own (own_numbers s.order) ++ rest) ≡ map change_numbers own
  unfolding steps_in log_of
  own_read rest =
      ap (parts step_length (length own)) (append_assoc (flatten (map change_numbers own)) (own_numbers s.order) rest)
      ∙ parts-flatten step_length (length own) (map change_numbers own) (own_numbers s.order ++ rest)
      (length-map own change_numbers) own-formed

  pub own-order : (rest : List ℤ) → numbers_in (length own) (log_of own (own_numbers s.order) ++ rest) ≡ own_numbers s.order
  unfolding numbers_in log_of
  own-order rest =
      ap (λ l. take column_count (drop (length own * step_length) l))
      (append_assoc (flatten (map change_numbers own)) (own_numbers s.order) rest)
      ∙ ap (take column_count) (drop_at (flatten (map change_numbers own)) (own_numbers s.order ++ rest) (length own * step_length) size)
      ∙ take_at (own_numbers s.order) rest column_count (own-four s.order)
    where
      size : length (flatten (map change_numbers own)) ≡ length own * step_length
      size = length-flatten step_length (map change_numbers own) own-formed ∙ ap (λ n. n * step_length) (length-map own change_numbers)
