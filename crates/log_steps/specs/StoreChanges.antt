-- What a step of a log gives on the lent stores.
--
-- Main definitions
--   Begun rows p               what a step asks of the row store and of the progress: no row is settled
--   SteppedTo rows .. p r x    the same of its result r
--   Losing rows p i block row, Unlost rows p i block   row i, from which a shift takes a zero block, and none
--   Stepped rows .. p o x      what a step gives: its outcome is x, it ends nothing, and no row is settled
--
-- Main statements
--   begun-few, begun-room      a row's place is small, and it has room in the store
--   stepped_same               equal stores, answers and outcomes
--   two-places                 two rows at their places, for the exchange
--   lowered-storable           a row whose blocks go up has room in the store
--   given-changed, given-none  a step that is well formed, and one that is not
--   combining-changed, positive-size   a combination whose condition holds, and its integer
use Prim.Native.Nat.{ℕ, zero, suc, ◌+◌, ◌*◌, ◌≤◌, ◌<◌}
use Rattle.std.proofs.Math.Nat.{le_refl}
use Rattle.std.proofs.Common.{zero-lt-suc, arith, sym, subst, subst₂, ltb→lt}
use Rattle.std.specs.Prelude.{◌≡◌, ◌⊎◌, Result, true, false, ◌&&◌, cond, List, [], T, eqb, ℤ, pos, negsuc, nat_abs, length, get_or}
use Rattle.std.proofs.Math.Path.{refl, ap}
use Rattle.std.proofs.Math.Bool.{not}
use Rattle.std.proofs.Math.Option.{Option, none, some}
use Rattle.std.proofs.Math.Dec.{ltb}
use Rattle.std.specs.Int.Signed.{lt_z}
use Rattle.algebra.specs.Polynomials.{Polynomial}
use Rattle.lists.specs.Tests.{T-&&}
use Rattle.rules.specs.Limits.{most_equations, block_count, column_count, coefficient_count, row_length}
use Rattle.rules.specs.Rows.{zero_block}
use Rattle.rules.specs.Rows as Rows
use Rattle.rules.specs.Stores.{row_of, row_need, relation_need}
use Rattle.rules.specs.Layout.{StoreRow-row_of}
use Rattle.rules.specs.Elimination.{State, Outcome, refused, Limited, put_limited_of}
use Rattle.rules.specs.Elimination.{limit_coefficients}
use Rattle.theory.specs.ShiftDown.{shift_down, shift_down-shaped}
use Rattle.working_rows.specs.declared.WorkingRow.{WorkingRow}
use Rattle.working_rows.specs.Worked.{refusal_of, numbers_of, held}
use Rattle.sides.specs.Lent.{Within, Kept}
use Rattle.reduction.specs.declared.step.Progress.{Progress}
use Rattle.reduction.specs.declared.step.Stop.{Stop}
use Rattle.reduction.specs.Answer as Answer
use Rattle.reduction.specs.Answer.{told, progress_at, step_answer}
use Rattle.reduction.specs.Progress.{Ready, Reached, state_of, answer_of, ready_with}
use Rattle.reduction.specs.NewRows.{row_room, Storable, saved, saved-within, saved-kept, saved-outcome}
use Rattle.reduction.specs.NewRows.{coefficients-storable}
use Rattle.reduction.specs.StoreExchange.{numbers_at, Loaded}
use Rattle.reduction.specs.Dropping.{freed-none}
use Rattle.log_steps.specs.Logs.{Change, combining, allowed, applied, changed}
use Rattle.log_steps.specs.Logs.{combine_rows_of, changed_if}

pub record Begun (rows : List ℤ) (p : Progress) : Type 0 where
  pub few-rows : p.rows ≤ most_equations
  pub rows-within : Within (row_need p.rows) rows
  pub unsettled : p.settled ≡ 0

pub begun-few : {rows : List ℤ} {p : Progress} → Begun rows p → (i : ℕ) → i < p.rows → i < 6
begun-few b i h = omega (arith, b.few-rows)

pub begun-room : {rows : List ℤ} {p : Progress} → Begun rows p → (i : ℕ) → i < p.rows → i * row_length + row_length ≤ length rows
begun-room {rows} {p} b i h = omega (arith, row_room p.rows i rows b.rows-within h, b.rows-within.long)

pub record Stepped (rows relations rows' relations' : List ℤ) (p : Progress) (o : Answer.Outcome) (x : Outcome) : Type 0 where
  pub reached : Reached p.rows rows relations rows' relations' (p.shifts + 1) o x
  pub goes_on : o.done ≡ false
  pub unsettled : o.progress.settled ≡ 0

-- The same of a step's result: with a refusal the stores are those of the progress at it.
abbrev pub SteppedTo : List ℤ → List ℤ → List ℤ → List ℤ → Progress → Result Progress Stop → Outcome → Type 0
SteppedTo rows relations rows' relations' p r x = Stepped rows relations rows' relations' p (step_answer (told r) (progress_at r)) x

pub stepped_same : {rows relations rows' rows'' relations' : List ℤ} {p : Progress} {o o' : Answer.Outcome} {x x' : Outcome}
    → rows' ≡ rows'' → o ≡ o' → x ≡ x' → Stepped rows relations rows'' relations' p o' x' → Stepped rows relations rows' relations' p o x
stepped_same {rows} {relations} {rows'} {rows''} {relations'} {p} {o} {o'} {x} {x'} e f g h =
    subst (λ r. Stepped rows relations r relations' p o x) (sym e)
    (subst₂ (λ a b. Stepped rows relations rows'' relations' p a b) (sym f) (sym g) h)

-- The row that a shift takes a zero block from, as it is loaded,
pub record Losing (rows : List ℤ) (p : Progress) (i block : ℕ) (row : WorkingRow) : Type 0 where
  pub inside : i < p.rows
  pub lost : zero_block (get_or (row_of (numbers_at rows i)).blocks block []) ≡ true
  pub loaded : Loaded rows i row
  pub wide : row.width ≡ Rows.width (row_of row.entries)

-- or there is none.
abbrev pub Unlost : List ℤ → Progress → ℕ → ℕ → Type 0
Unlost rows p i block = (p.rows ≤ i) ⊎ ((i < p.rows) × (zero_block (get_or (row_of (numbers_at rows i)).blocks block []) ≡ false))

-- Two rows that pass the test are present.
pub two-places : (i j n : ℕ) → ((ltb i n && ltb j n) && not (eqb i j)) ≡ true → (i < n) × (j < n)
two-places i j n e =
    let both = (T-&& (ltb i n) (ltb j n)).0 ((T-&& (ltb i n && ltb j n) (not (eqb i j))).0 (subst T (sym e) tt)).0 in
    (ltb→lt i n both.0, ltb→lt j n both.1)

-- A row shifted down is held by its numbers.
pub lowered-storable : (l : List ℤ) → length l ≡ row_length → Storable (limit_coefficients (shift_down (row_of l)))
lowered-storable l long =
    coefficients-storable (shift_down (row_of l)) (λ r e. held (shift_down (row_of l)) r
    (shift_down-shaped block_count column_count coefficient_count (row_of l) (omega arith) (StoreRow-row_of l (omega (arith, long)))) e)

-- What is changed where the test of its condition is known.
pub changed-true : (D : ℕ) (s : State) (c : Change) → allowed D s c ≡ true → changed D s c ≡ applied s c
unfolding changed
changed-true D s c e = ap (λ t. cond t (applied s c) (refused 13)) e

pub combining-changed : (D : ℕ) (s : State) (i j d : ℕ) (g h : Polynomial) → allowed D s (combining i j d g h) ≡ true
    → changed D s (combining i j d g h) ≡ combine_rows_of s i j d g h
unfolding applied
combining-changed D s i j d g h e = changed-true D s (combining i j d g h) e

-- What the form of a step gives.
pub given-changed : (D : ℕ) (s : State) (o : Option Change) (c : Change) → o ≡ some c → changed_if D s o ≡ changed D s c
unfolding changed_if
given-changed D s o c e = ap (changed_if D s) e

pub given-none : (D : ℕ) (s : State) (o : Option Change) → o ≡ none → changed_if D s o ≡ refused 13
unfolding changed_if
given-none D s o e = ap (changed_if D s) e

-- A positive integer has a size.
pub positive-size : (a : ℤ) → T (lt_z (pos 0) a) → 0 < nat_abs a
positive-size (pos zero) t = absurd t
positive-size (pos (suc n)) t = zero-lt-suc n
positive-size (negsuc n) t = absurd t

-- A new row in the place of row i, or the refusal, after relations have been listed.
pub put-stepped : {rows relations relations' : List ℤ} (p next : Progress) (i : ℕ) (x : Limited) → next.rows ≡ p.rows → i < p.rows
    → Storable x → Kept relation_need relations relations' → Ready rows relations' next → next.shifts ≤ p.shifts + 1
    → next.settled ≡ 0
    → Stepped rows relations (saved rows i (refusal_of x) (numbers_of x)) relations' p (answer_of (refusal_of x) next)
    (put_limited_of (state_of rows relations' next) i x)
put-stepped {rows} {relations} {relations'} p next i x same b h k r s first =
    let inside : i < next.rows = omega (arith, same) in
    let w = r.rows-within in
    record {
      reached =
          subst (λ n. Reached n rows relations (saved rows i (refusal_of x) (numbers_of x)) relations' (p.shifts + 1)
          (answer_of (refusal_of x) next) (put_limited_of (state_of rows relations' next) i x)) same
          (record {
            outcome = saved-outcome next i rows relations' w inside x h;
            fewer = le_refl next.rows;
            freed = freed-none next.rows (saved rows i (refusal_of x) (numbers_of x));
            rows-kept = saved-kept next.rows i rows w inside x h;
            relations-kept = k;
            few-shifts = s;
            ready = ready_with r (saved-within next.rows i rows w inside x h) r.listing;
          });
      goes_on = refl;
      unsettled = first;
    }
