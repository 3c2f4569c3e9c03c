-- What a step of a log that goes on has done.
--
-- Main statements
--   changed-view, replayed-view   a step that goes on is a change, and so are the steps of a log
use Prim.Native.Nat.{ℕ}
use Rattle.std.specs.Prelude.{◌≡◌, ◌&&◌, not, List, [], ◌∷◌, ◌++◌, T, leb, ltb, eqb, length, ℤ}
use Rattle.std.proofs.Math.Path.{refl, subst}
use Rattle.std.proofs.Common.{sym, leb→le, ltb→lt, T_not}
use Rattle.std.proofs.Math.Option.{Option, none, some}
use Rattle.std.proofs.Math.Dec.{eqb_refl}
use Rattle.lists.specs.Everywhere.{All}
use Rattle.lists.specs.Tests.{T-&&}
use Rattle.algebra.specs.Polynomials.{is_zero_of}
use Rattle.rules.specs.Limits.{most_relations}
use Rattle.rules.specs.Rows.{Row, coefficients_of, combine, shift_up}
use Rattle.rules.specs.Elimination.{State, Outcome, going, done, refused, and_then, Limited, within, beyond, leading, row_at}
use Rattle.rules.specs.Elimination.{shift_step_of, put_row, put_limited_of, list_relations, root_relations, count_shift, limit_degrees}
use Rattle.rules.specs.Elimination.{limit_coefficients}
use Rattle.theory.specs.ShiftDown.{shift_down}
use Rattle.theory.specs.Steps.{going≢refused, going≢done, going-injective}
use Rattle.log_steps.specs.Logs.{Change, exchanging, combining, raising, lowering, dropping}
use Rattle.log_steps.specs.Logs.{change_of}
use Rattle.log_steps.specs.Logs.{two_rows_of, divided_row_of, allowed, combine_rows_of, lower_row_of, applied, changed}
use Rattle.log_steps.specs.Logs.{changed_if, replayed, step_length}
use Rattle.log_steps.specs.Changes.{Changed, Formed, Replay, TwoRows, before, change-right, combination-formed, combined, cond-going, divides_all-all, here, lowered, omitted, raised, swapped}

-- ---- what the tests say

two-rows : (s : State) (i j : ℕ) → T (two_rows_of s i j) → TwoRows s i j
unfolding two_rows_of
two-rows s i j t =
    let (present, apart) = (T-&& (ltb i (length s.rows) && ltb j (length s.rows)) (not (eqb i j))).0 t in
    let (first, second) = (T-&& (ltb i (length s.rows)) (ltb j (length s.rows))).0 present in
    record {
      first = ltb→lt i (length s.rows) first;
      second = ltb→lt j (length s.rows) second;
      apart = λ e. T_not (eqb i j) apart (subst (λ k. T (eqb i k)) e (eqb_refl i));
    }

-- ---- a step that goes on

put_going : {s' : State} (s : State) (i : ℕ) (x : Limited) → put_limited_of s i x ≡ going s' → (r : Row) × (x ≡ within r) × (put_row s i r ≡ s')
unfolding put_limited_of
put_going s i (within r) e = (r, refl, going-injective e)
put_going s i (beyond n) e = absurd (going≢refused (sym e))

module _ (D : ℕ) (s : State) {s' : State} where
  applied-view : (c : Change) → Formed c → T (allowed D s c) → applied s c ≡ going s' → Changed D s s'
  unfolding allowed applied combine_rows_of shift_step_of lower_row_of list_relations
  applied-view (exchanging i j) f t e = subst (Changed D s) (going-injective e) (swapped i j (two-rows s i j t))
  applied-view (combining i j d g h) (combination-formed a b small-g small-h positive) t e =
      let (two, rest) = (T-&& (two_rows_of s i j) _).0 t in
      let (nonzero, exact) = (T-&& (not (is_zero_of g)) _).0 rest in
      let (few, put) = cond-going (leb (length (s.relations ++ root_relations leading g (row_at s i))) most_relations) _ 9 e in
      let (r, limited, same) = put_going _ i (limit_degrees (divided_row_of s i j d g h)) put in
      subst (Changed D s) same (combined i j d g h (two-rows s i j two)
      (record { length-g = a; length-h = b; small-g = small-g; nonzero = nonzero }) positive
      (divides_all-all d (coefficients_of (combine g h (row_at s i) (row_at s j))) exact)
      (leb→le _ most_relations few) r limited)
  applied-view (raising i) f t e =
      let (present, zeros) = (T-&& (ltb i (length s.rows)) _).0 t in
      let (r, limited, same) = put_going (count_shift s) i (limit_coefficients (shift_up (row_at s i))) e in
      subst (Changed D s) same (raised i (ltb→lt i _ present) zeros r limited)
  applied-view (lowering i) f t e =
      let (present, zeros) = (T-&& (ltb i (length s.rows)) _).0 t in
      let (r, limited, same) = put_going s i (limit_coefficients (shift_down (row_at s i))) e in
      subst (Changed D s) same (lowered i (ltb→lt i _ present) zeros r limited)
  applied-view (dropping i) f t e =
      let (present, zeros) = (T-&& (ltb i (length s.rows)) _).0 t in
      subst (Changed D s) (going-injective e) (omitted i (ltb→lt i _ present) zeros)

  pub changed-view : (l : List ℤ) → length l ≡ step_length → changed_if D s (change_of l) ≡ going s' → Changed D s s'
  unfolding changed_if changed
  changed-view l size = go (change_of l) refl
    where
      go : (o : Option Change) → change_of l ≡ o → changed_if D s o ≡ going s' → Changed D s s'
      go none f e = absurd (going≢refused (sym e))
      go (some c) f e = let (t, taken) = cond-going (allowed D s c) _ 13 e in applied-view c (change-right l size c f) t taken

pub replayed-view : (D : ℕ) (l : List (List ℤ)) (s : State) {s' : State} → All (λ x. length x ≡ step_length) l
    → replayed D l s ≡ going s' → Replay D s s'
unfolding replayed All and_then
replayed-view D [] s a e = subst (Replay D s) (going-injective e) here
replayed-view D (x ∷ l) s {s'} a e = go (changed_if D s (change_of x)) refl (λ u. replayed-view D l u a.1) e
  where
    go : (o : Outcome) → changed_if D s (change_of x) ≡ o → ((u : State) → replayed D l u ≡ going s' → Replay D u s')
        → and_then o (replayed D l) ≡ going s' → Replay D s s'
    go (going u) f rec e = before (changed-view D s x a.0 f) (rec u e)
    go (done u) f rec e = absurd (going≢done (sym e))
    go (refused n) f rec e = absurd (going≢refused (sym e))
