-- What the calls on stores promise (SCOPE 13.4 to 13.6).
--
-- Main statements
--   replay-refused     a replay is refused with 13, 7, 8 or 9
--   check-right        the checks of a replay pass exactly if those of a run do, and the log has its length
--   accepted-call      a replay that is accepted is one of the system in the stores, so that it has all of `Accepted`
--   own-call           our own run with its log, accepted: the replay of that log on the same stores gives the same result and stores
use Prim.Native.Nat.{ℕ, zero, suc, ◌*◌, ◌-◌, ◌≤◌, ◌<◌}
use Rattle.std.specs.Prelude.{◌≡◌, ◌≢◌, ◌↔◌, ◌⊎◌, true, false, ◌&&◌, cond, drop, ℤ}
use Rattle.std.proofs.Math.Path.{refl, ap}
use Rattle.std.proofs.Common.{sym, ◌∙◌, ap₂, inl, inr, ⊎_elim, suc-ne-zero, arith, leb→le, le→leb}
use Rattle.std.proofs.Math.Bool.{Bool}
use mathlib.Core.List.{List, [], ◌∷◌, ◌++◌, append_assoc}
use Rattle.std.proofs.Math.Option.{Option, none, some}
use Rattle.std.proofs.Math.Nat.{le_trans}
use Rattle.std.proofs.Math.Dec.{leb}
use Rattle.std.proofs.Math.ListN.{length, length-drop}
use Rattle.std.proofs.Math.Seq.{length-take-le}
use Rattle.lists.specs.Everywhere.{All}
use Rattle.lists.specs.Tests.{T-&&, cond-zero-iff}
use Rattle.lists.specs.Parts.{parts-width}
use Rattle.lists.specs.Overwritten.{overwrite, overwrite-length}
use Rattle.rules.specs.Limits.{column_count, most_relations}
use Rattle.rules.specs.Rows.{Row, Relation, shift_up}
use Rattle.rules.specs.Stores.{Sizes, equations, span, rows_of, relations_of, sizes_right_of, count_right, lengths_right_of, numbers_right_of}
use Rattle.rules.specs.Layout.{StoresRight, check_stores-zero, stores-valid}
use Rattle.rules.specs.Calls.{after_run_of, unchanged, cleared, refusal, zeros}
use Rattle.rules.specs.Elimination.{State, start, Outcome, going, done, refused, and_then, Limited, within, beyond, leading, row_at}
use Rattle.rules.specs.Elimination.{put_limited_of}
use Rattle.rules.specs.Elimination.{list_relations, root_relations, limit_degrees, limit_coefficients, count_shift, shift_step_of, whole_run_of}
use Rattle.rules.specs.Elimination.{leading_run_of}
use Rattle.rules.specs.Elimination.{enough}
use Rattle.theory.specs.ShiftDown.{shift_down}
use Rattle.theory.specs.Steps.{going≢refused, done≢refused, refused-injective, limit_degrees-beyond, limit_coefficients-beyond}
use Rattle.theory.specs.Steps.{Refusal}
use Rattle.theory.proofs.Steps.{run-refused, step-refused}
use Rattle.theory.specs.Demands.{Accepted}
use Rattle.log_steps.specs.Logs.{Change, exchanging, combining, raising, lowering, dropping, step_length, most_steps, steps_in, numbers_in}
use Rattle.log_steps.specs.Logs.{change_of, divided_row_of, allowed, applied, combine_rows_of, lower_row_of, changed, changed_if, replayed}
use Rattle.log_steps.specs.Logs.{order_holds_of, the_columns_of, with_order, ordered, replay}
use Rattle.steps.specs.HeldCalls.{pivots_right_of}
use Rattle.own_logs.specs.Own.{own_changes, own_numbers, log_of, own_store}
use Rattle.logs.specs.OwnRuns.{own-accepted, own-few, own_read, own-order}
use Rattle.logs.specs.AcceptedLogs.{AcceptedLog}
use Rattle.log_steps.specs.Logs.{log_need, own_need}
use Rattle.logs.specs.LogCalls.{check_replay, replay_stores, after_replay_check, replay_call, LoggedCall, logged_after}
use Rattle.logs.specs.LogCalls.{after_logged_check, logged_call}

-- ---- the refusals of a replay

-- 13, and the limits 7, 8 and 9; no 10 (SCOPE 13.26).
abbrev pub ReplayNumber : ℕ → Type 0
ReplayNumber n = (n ≡ 13) ⊎ ((n ≡ 7) ⊎ (n ≡ 8) ⊎ (n ≡ 9))

put_refused : (s : State) (i : ℕ) (x : Limited) (n : ℕ) → put_limited_of s i x ≡ refused n → x ≡ beyond n
unfolding put_limited_of
put_refused s i (within r) n e = absurd (going≢refused e)
put_refused s i (beyond k) n e = ap beyond (refused-injective e)

cond-refused : (t : Bool) (o : Outcome) (k n : ℕ) → (o ≡ refused n → ReplayNumber n) → (k ≡ n → ReplayNumber n)
    → cond t o (refused k) ≡ refused n → ReplayNumber n
cond-refused true o k n f g e = f e
cond-refused false o k n f g e = g (refused-injective e)

applied-refused : (s : State) (c : Change) (n : ℕ) → applied s c ≡ refused n → ReplayNumber n
unfolding applied combine_rows_of shift_step_of lower_row_of
applied-refused s (exchanging i j) n e = absurd (going≢refused e)
applied-refused s (combining i j d g h) n e =
    let listed = list_relations s (root_relations leading g (row_at s i)) in
    cond-refused (leb (length listed.relations) most_relations) (put_limited_of listed i (limit_degrees (divided_row_of s i j d g h))) 9 n
    (λ f. ⊎_elim (λ x. inr (inl x)) (λ x. inr (inr (inl x)))
    (limit_degrees-beyond (divided_row_of s i j d g h) n (put_refused listed i (limit_degrees (divided_row_of s i j d g h)) n f)))
    (λ f. inr (inr (inr (sym f)))) e
applied-refused s (raising i) n e =
    inr (inr (inl (limit_coefficients-beyond (shift_up (row_at s i)) n (put_refused (count_shift s) i (limit_coefficients (shift_up
    (row_at s i))) n e))))
applied-refused s (lowering i) n e =
    inr (inr (inl (limit_coefficients-beyond (shift_down (row_at s i)) n (put_refused s i (limit_coefficients (shift_down (row_at s i))) n e))))
applied-refused s (dropping i) n e = absurd (going≢refused e)

changed-refused : (D : ℕ) (s : State) (o : Option Change) (n : ℕ) → changed_if D s o ≡ refused n → ReplayNumber n
unfolding changed_if changed
changed-refused D s none n e = inl (sym (refused-injective e))
changed-refused D s (some c) n e = cond-refused (allowed D s c) (applied s c) 13 n (applied-refused s c n) (λ f. inl (sym f)) e

replayed-refused : (D : ℕ) (l : List (List ℤ)) (s : State) (n : ℕ) → replayed D l s ≡ refused n → ReplayNumber n
unfolding replayed and_then
replayed-refused D [] s n e = absurd (going≢refused e)
replayed-refused D (x ∷ l) s n e = go (changed_if D s (change_of x)) refl (λ u. replayed-refused D l u n) e
  where
    go : (o : Outcome) → changed_if D s (change_of x) ≡ o → ((u : State) → replayed D l u ≡ refused n → ReplayNumber n)
        → and_then o (replayed D l) ≡ refused n → ReplayNumber n
    go (going u) f rec e = rec u e
    go (done u) f rec e = absurd (done≢refused e)
    go (refused k) f rec e = changed-refused D s (change_of x) n (f ∙ e)

pub replay-refused : (m D : ℕ) (l : List (List ℤ)) (numbers : List ℤ) (rows : List Row) (relations : List Relation) (n : ℕ)
    → replay m D l numbers rows relations ≡ refused n → ReplayNumber n
unfolding replay and_then ordered
replay-refused m D l numbers rows relations n e = go (replayed D l (start rows relations)) refl e
  where
    go : (o : Outcome) → replayed D l (start rows relations) ≡ o → and_then o (ordered m numbers) ≡ refused n → ReplayNumber n
    go (going u) f e =
        let w = length u.rows in
        cond-refused (order_holds_of m w numbers && pivots_right_of (the_columns_of w numbers) u.rows w) (done (with_order
        (the_columns_of w numbers) u)) 13 n
        (λ g. absurd (done≢refused g)) (λ g. inl (sym g)) e
    go (done u) f e = absurd (done≢refused e)
    go (refused k) f e = replayed-refused D l (start rows relations) n (f ∙ e)

-- ---- the checks

module _ (z : Sizes) (count steps : ℕ) (log row_store relation_store : List ℤ) where
  pub check-right : (check_replay z count steps log row_store relation_store ≡ 0)
      ↔ (StoresRight z count row_store relation_store × (steps ≤ most_steps) × (log_need steps ≤ length log))
  unfolding check_replay
  check-right = (forth, back)
    where
      sizes : Bool
      sizes = (sizes_right_of z && count_right count) && leb steps most_steps

      lengths : Bool
      lengths = lengths_right_of (equations z) row_store relation_store && leb (log_need steps) (length log)

      forth : check_replay z count steps log row_store relation_store ≡ 0
          → StoresRight z count row_store relation_store × (steps ≤ most_steps) × (log_need steps ≤ length log)
      forth e =
          let first = (cond-zero-iff sizes _ 2 refl).0 e in
          let second = (cond-zero-iff lengths _ 1 refl).0 first.1 in
          let third = (cond-zero-iff (numbers_right_of z count row_store relation_store) 0 5 refl).0 second.1 in
          let (start, few) = (T-&& (sizes_right_of z && count_right count) (leb steps most_steps)).0 first.0 in
          let both = (T-&& (sizes_right_of z) (count_right count)).0 start in
          let (long, enough) = (T-&& (lengths_right_of (equations z) row_store relation_store) (leb (log_need steps) (length log))).0
          second.0 in (
            record { sizes = both.0; few = both.1; lengths = long; numbers = third.0 },
            leb→le steps most_steps few,
            leb→le (log_need steps) (length log) enough,
          )

      back : StoresRight z count row_store relation_store × (steps ≤ most_steps) × (log_need steps ≤ length log)
          → check_replay z count steps log row_store relation_store ≡ 0
      back (r, few, long) =
          (cond-zero-iff sizes _ 2 refl).1 (
            (T-&& (sizes_right_of z && count_right count) (leb steps most_steps)).1
                ((T-&& (sizes_right_of z) (count_right count)).1 (r.sizes, r.few), le→leb steps most_steps few),
            (cond-zero-iff lengths _ 1 refl).1 (
              (T-&& (lengths_right_of (equations z) row_store relation_store) (leb (log_need steps) (length log))).1
                  (r.lengths, le→leb (log_need steps) (length log) long),
              (cond-zero-iff (numbers_right_of z count row_store relation_store) 0 5 refl).1 (r.numbers, refl),
            ),
          )

-- ---- an accepted replay

not-accepted : (n : ℕ) → ReplayNumber n → n ≢ 0
not-accepted n (inl e) f = omega arith
not-accepted n (inr (inl e)) f = omega arith
not-accepted n (inr (inr (inl e))) f = omega arith
not-accepted n (inr (inr (inr e))) f = omega arith

module _ (z : Sizes) (count steps : ℕ) (log row_store relation_store : List ℤ) where
  abbrev rows : List Row
  rows = rows_of (equations z) row_store

  abbrev relations : List Relation
  relations = relations_of count relation_store

  -- The steps and the numbers of a log that is long enough.
  steps-wide : log_need steps ≤ length log → All (λ x. length x ≡ step_length) (steps_in steps log)
  unfolding steps_in log_need
  steps-wide long = parts-width step_length steps log (omega arith)

  numbers-wide : log_need steps ≤ length log → length (numbers_in steps log) ≡ column_count
  unfolding numbers_in log_need
  numbers-wide long = length-take-le column_count (drop (steps * step_length) log) (simp length-drop (omega arith))

  pub accepted-call : (replay_call z count steps log row_store relation_store).result.refusal ≡ 0
      → (s : State) × AcceptedLog z (steps_in steps log) (numbers_in steps log) rows relations s
      × (replay_call z count steps log row_store relation_store ≡ after_run_of leading z (done s) row_store relation_store)
  unfolding replay_call after_replay_check unchanged refusal after_run_of cleared replay_stores
  accepted-call = go (check_replay z count steps log row_store relation_store) refl
    where
      Whole : ℕ → Type 0
      Whole n = (s : State) × AcceptedLog z (steps_in steps log) (numbers_in steps log) rows relations s
          × (after_replay_check z count steps log row_store relation_store n ≡ after_run_of leading z (done s) row_store relation_store)

      ended : check_replay z count steps log row_store relation_store ≡ 0 → (o : Outcome)
          → replay_stores z count steps log row_store relation_store ≡ o → (after_run_of leading z o row_store relation_store).result.refusal ≡ 0
          → Whole zero
      ended e (done s) f r =
          let (right, few, long) = (check-right z count steps log row_store relation_store).0 e in (
            s,
            record {
              valid = stores-valid z count row_store relation_store ((check_stores-zero z count row_store relation_store).1 right);
              steps = steps-wide long;
              columns = numbers-wide long;
              accepts = f;
            },
            ap (λ o. after_run_of leading z o row_store relation_store) f,
          )
      ended e (refused n) f r =
          absurd (not-accepted n (replay-refused z.m (span z) (steps_in steps log) (numbers_in steps log) rows relations n f) r)
      ended e (going s) f r = absurd (omega arith)

      go : (n : ℕ) → check_replay z count steps log row_store relation_store ≡ n
          → (after_replay_check z count steps log row_store relation_store n).result.refusal ≡ 0 → Whole n
      go zero e r = ended e (replay_stores z count steps log row_store relation_store) refl r
      go (suc n) e r = absurd (suc-ne-zero n r)

-- ---- our own log

-- A run is never refused with 0.
run-not-accepted : (D : ℕ) (rows : List Row) (relations : List Relation) (n : ℕ) → whole_run_of leading D rows relations ≡ refused n → n ≢ 0
unfolding whole_run_of leading_run_of
run-not-accepted D rows relations n e f =
    let (j, u, chain, more, stopped) = run-refused leading (enough rows) (start rows relations) n e in
    cases (step-refused leading u n more stopped)
  where
    cases : {u : State} → Refusal leading u n → ⊥
    cases (inl x) = tenth x.0
      where
        tenth : n ≡ 10 → ⊥
        tenth g = omega arith
    cases (inr (inl g)) = omega arith
    cases (inr (inr (inl g))) = omega arith
    cases (inr (inr (inr g))) = omega arith

log-fits : (n k : ℕ) → n < most_steps → own_need ≤ k → log_need n ≤ k
unfolding log_need
log-fits n k few long = omega arith

module _ (z : Sizes) (count : ℕ) (log row_store relation_store : List ℤ) where
  abbrev input : List Row
  input = rows_of (equations z) row_store

  abbrev given : List Relation
  given = relations_of count relation_store

  abbrev own : List Change
  own = own_changes input given

  module _ (s : State) (right : StoresRight z count row_store relation_store) (long : own_need ≤ length log)
      (accepts : whole_run_of leading (span z) input given ≡ done s) where
    accepted-run : Accepted leading z input given s
    accepted-run =
        record {
          valid = stores-valid z count row_store relation_store
              ((check_stores-zero z count row_store relation_store).1 right);
          accepts = accepts;
        }

    abbrev left : List ℤ
    left = overwrite (own_store own (own_numbers s.order)) log

    abbrev rest : List ℤ
    rest =
        zeros (own_need - length (log_of own (own_numbers s.order)))
        ++ drop (length (own_store own (own_numbers s.order))) log

    left_is : left ≡ log_of own (own_numbers s.order) ++ rest
    unfolding overwrite own_store
    left_is = append_assoc (log_of own (own_numbers s.order)) _ _

    replayed-own : replay_call z count (length own) left row_store relation_store ≡ after_run_of leading z (done s) row_store relation_store
    unfolding replay_call after_replay_check replay_stores
    replayed-own =
        ap (after_replay_check z count (length own) left row_store relation_store)
        ((check-right z count (length own) left row_store relation_store).1 (right, omega (arith, own-few accepted-run), fits))
        ∙ ap (λ o. after_run_of leading z o row_store relation_store)
        (ap₂ (λ l numbers. replay z.m (span z) l numbers input given)
        (ap (steps_in (length own)) left_is ∙ own_read accepted-run rest) (ap (numbers_in (length own)) left_is ∙ own-order accepted-run rest)
        ∙ own-accepted accepted-run)
      where
        fits : log_need (length own) ≤ length left
        fits = le_trans (log-fits (length own) (length log) (own-few accepted-run) long)
            (overwrite-length (own_store own (own_numbers s.order)) log)

  -- What our own run leaves, and what the replay of the log that it leaves would (SCOPE 13.53).
  pub own-call : (logged_call z count log row_store relation_store).call.result.refusal ≡ 0
      → replay_call z count (logged_call z count log row_store relation_store).steps (logged_call z count log row_store relation_store).log
      row_store relation_store ≡ (logged_call z count log row_store relation_store).call
  unfolding logged_call after_logged_check logged_after unchanged refusal after_run_of cleared
  own-call = go (check_replay z count most_steps log row_store relation_store) refl
    where
      Same : LoggedCall → Type 0
      Same c = replay_call z count c.steps c.log row_store relation_store ≡ c.call

      ended : check_replay z count most_steps log row_store relation_store ≡ 0 → (o : Outcome) → whole_run_of leading (span z) input given ≡ o
          → (logged_after z o own log row_store relation_store).call.result.refusal ≡ 0 → Same
          (logged_after z o own log row_store relation_store)
      ended e (done s) f r =
          let (right, few, long) = (check-right z count most_steps log row_store relation_store).0 e in replayed-own s right long f
      ended e (refused n) f r = absurd (run-not-accepted (span z) input given n f r)
      ended e (going s) f r = absurd (omega arith)

      go : (n : ℕ) → check_replay z count most_steps log row_store relation_store ≡ n
          → (after_logged_check z count log row_store relation_store n).call.result.refusal ≡ 0
          → Same (after_logged_check z count log row_store relation_store n)
      go zero e r = ended e (whole_run_of leading (span z) input given) refl r
      go (suc n) e r = absurd (suc-ne-zero n r)
