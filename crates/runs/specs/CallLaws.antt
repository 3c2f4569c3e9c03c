-- The calls on lent stores, as `rules` has them, from what the stores and the results of the code hold.
--
-- Main definitions
--   result_of r, call_of r rows relations   the result, and the whole call, as `rules` has them
--   result_after_of side D x          the result of a call whose run has the outcome x
--   Final side D rows o, FinalIn side D rows r   what the row store holds when the run has ended with the answer o, or the result r
--   Checked z count rows relations   what the stores hold when the checks have passed
--   RanOn side z count .. o       the answer o and both stores are those of the whole run
--
-- Main statements
--   counted_none, counted_next    the columns of an order, counted from 1, one after the other
--   few-equations, few-blocks     the equations and D of right sizes are few
--   accepted-result               the result of a run that accepts
--   ended-refused, ended-accepted the result after the run, from the answer and the stores
--   rows-unused, columns-unused   the unused places of rows that pass the checks are zero; the same of blocks alone
--   checked                       what the checks let through
--   final-run                     a whole run ends, and one that accepts has settled every row that is left
--   call-left, call-run, call-refused   the whole call
use Prim.Native.Nat.{ℕ, zero, suc, ◌+◌, ◌*◌, ◌-◌, ◌≤◌, ◌<◌}
use Rattle.std.proofs.Common.{Ok, Err, le_of_suc-le-suc, le_of_lt, add-one, arith, sym, ◌∙◌, ap, ap₂, subst, take-suc, length-take-le}
use Rattle.std.specs.Prelude.{◌≡◌, ◌≢◌, Bool, true, false, not, T, ℤ, pos, length, take, drop, get_or, set, replicate}
use Rattle.std.proofs.Math.Path.{refl}
use mathlib.Core.List.{List, [], ◌∷◌, ◌++◌, map, flatten, map-append}
use Rattle.std.specs.Int.Signed.{≤ℤ_refl}
use Rattle.std.proofs.lemmas.List.{length-map}
use Rattle.algebra.specs.Polynomials.{is_zero_of}
use Rattle.lists.specs.Everywhere.{member-all}
use Rattle.lists.specs.Parts.{parts}
use Rattle.lists.specs.Tests.{T-&&, every, every_append}
use Rattle.rules.specs.Limits.{column_count, row_length, relation_length, small, most_equations}
use Rattle.rules.specs.Rows.{Row, Relation, coefficients_of, small_row, zero_block}
use Rattle.rules.specs.Elimination.{Side, State, Outcome, going, done, refused, rank, whole_run_of, never_number, diagonal, report, reported_times}
use Rattle.rules.specs.Stores.{Sizes, equations, Valid, span, sizes_right_of, check_stores_of, rows_of, relations_of, row_need, relation_need}
use Rattle.rules.specs.Stores.{row_of, row_store_of, relation_store_of, relation_numbers, unused_zero_of, row_right_of, relation_right_of}
use Rattle.rules.specs.Layout.{row_store_of-rows_of, relation_store_of-relations_of, length-relations_of, size-bounds, length-rows_of, block-place}
use Rattle.rules.specs.Layout.{StoresRight, check_stores-zero, stores-valid, NumbersRight, numbers_right-iff}
use Rattle.rules.specs.Layout.{lengths_right-iff, count_right-iff}
use Rattle.rules.specs.Calls.{Result, Call, reported_order, refusal, acceptance, zeros, root_found, root_value}
use Rattle.lists.specs.Padded.{pad_to, pad_to-more}
use Rattle.rules.specs.Calls.{cleared, unchanged, after_run_of, after_check, call_run}
use Rattle.multiplicities.specs.declared.Root.{Root}
use Rattle.multiplicities.specs.Counts.{no_root}
use Rattle.std.specs.Prelude.{Option, is_some, unwrap_or}
use Rattle.theory.specs.Settled.{Diagonal, nonzero-of-diagonal}
use Rattle.theory.proofs.Ending.{whole_run-ends}
use Rattle.theory.proofs.Demands.{diagonal-nonzero}
use Rattle.working_rows.specs.Found.{Columns}
use Rattle.sides.specs.Lent.{Within, Listing}
use Rattle.reduction.specs.Progress.{state_of, outcome_of, outcome_at, Ready}
use Rattle.reduction.specs.Ran.{Ran, rows_after_of, relations_after_of, zeros-small}
use Rattle.sides.specs.FurthestRoots.{Nonzero}
use Rattle.sides.specs.ReportLaws.{settled_state, reported_with, answer-found, answer-root, answer-times, diagonal-settled, report-settled}
use Rattle.sides.specs.FurthestRoots.{answer}
use Rattle.reduction.specs.declared.step.Progress.{Progress}
use Rattle.refusals.specs.declared.Refusal.{Refusal}
use Rattle.refusals.specs.Refusals.{number_of, number-nonzero}
use Rattle.std.specs.Prelude as Std
use Rattle.reduction.specs.Answer as Answer
use Rattle.reduction.specs.Answer.{run_answer}
use Rattle.runs.specs.declared.RunReport.{RunReport}

-- A root that is not there is reported as 0, and so is how often it occurs.
abbrev accepted_with : ℕ → ℕ → List ℕ → Option Root → ℕ → Result
accepted_with count shifts order a rank =
    record {
      refusal = 0;
      relations = count;
      shifts = shifts;
      order = order;
      has_root_of = is_some a;
      root = (unwrap_or a no_root).value;
      rank = rank;
      multiplicity = (unwrap_or a no_root).times;
    }

unfoldable pub result_of : Std.Result RunReport Refusal → Result
unfolding refusal
result_of (Ok r) = accepted_with r.relations r.shifts r.order r.root r.rank
result_of (Err r) = refusal (number_of r)

unfoldable pub call_of : Std.Result RunReport Refusal → List ℤ → List ℤ → Call
unfolding result_of
call_of r rows relations = record { result = result_of r; row_store = rows; relation_store = relations }

-- ---- the order of a result

pub counted_none : (order : List ℕ) → 0 ∷ 0 ∷ 0 ∷ 0 ∷ [] ≡ reported_order (take 0 order)
unfolding reported_order pad_to
counted_none order = refl

pub counted_next : (order : List ℕ) (j : ℕ) → j < 4 → j < length order
    → set (reported_order (take j order)) j (get_or order j 0 + 1) ≡ reported_order (take (j + 1) order)
unfolding reported_order
counted_next order j h g =
    ap₂ (λ n x. set (pad_to 4 0 columns) n x) (sym size) (add-one (get_or order j 0))
    ∙ pad_to-more 4 0 columns (suc (get_or order j 0)) (rw size h)
    ∙ ap (pad_to 4 0) (sym (map-append suc (take j order) (get_or order j 0 ∷ [])))
    ∙ ap (λ l. pad_to 4 0 (map suc l)) (sym (take-suc order j 0 g))
    ∙ ap (λ n. pad_to 4 0 (map suc (take n order))) (sym (add-one j))
  where
    columns : List ℕ
    columns = map suc (take j order)

    size : length columns ≡ j
    size = length-map (take j order) suc ∙ length-take-le j order (le_of_lt g)

-- ---- the sizes of a call

pub few-equations : (z : Sizes) → T (sizes_right_of z) → equations z ≤ most_equations
few-equations z h = (size-bounds z h).few-equations

pub few-blocks : (z : Sizes) → T (sizes_right_of z) → span z ≤ 4
unfolding span
few-blocks z h =
    let bounds = size-bounds z h in
    le_of_suc-le-suc (block-place z z.t bounds (≤ℤ_refl z.t) bounds.ordered)

-- ---- the result of a run that accepts

-- The answer in three numbers.
accepted-answer : (side : Side) (D : ℕ) (s : State)
    → accepted_with (length s.relations) s.shifts (reported_order s.order) (reported_with side D s) (rank s) ≡ acceptance side D s
unfolding acceptance
accepted-answer side D s =
    let o = report side D s in
    let n = reported_times side D s o in
    ap₂ (λ f r. record {
      refusal = 0;
      relations = length s.relations;
      shifts = s.shifts;
      order = reported_order s.order;
      has_root_of = f;
      root = r;
      rank = rank s;
      multiplicity = (unwrap_or (answer o n) no_root).times;
    }) (answer-found o n) (answer-root o n)
    ∙ ap (λ m. record {
      refusal = 0;
      relations = length s.relations;
      shifts = s.shifts;
      order = reported_order s.order;
      has_root_of = root_found o;
      root = root_value o;
      rank = rank s;
      multiplicity = m;
    }) (answer-times side D s o)

pub accepted-result : (side : Side) (D : ℕ) (rows relations : List ℤ) (p : Progress) (order : List ℕ) (a : Option Root)
    → p.rows ≡ p.settled → p.settled ≤ length p.order
    → order ≡ reported_order (take p.settled p.order) → a ≡ reported_with side D (settled_state p.settled rows p.order)
    → accepted_with p.count p.shifts order a p.settled ≡ acceptance side D (state_of rows relations p)
unfolding acceptance state_of rank
accepted-result side D rows relations p order a e h f g =
    let s = state_of rows relations p in
    let same = ap (λ n. rows_of n rows) e in
    ap₂ (λ o b. accepted_with p.count p.shifts o b p.settled) f
    (g ∙ sym (report-settled side D p.settled rows p.order s same refl))
    ∙ ap₂ (λ n w. accepted_with n p.shifts (reported_order (take p.settled p.order)) (reported_with side D s) w)
    (sym (length-relations_of p.count relations)) (sym (length-take-le p.settled p.order h))
    ∙ accepted-answer side D s

-- ---- the result after the run

unfoldable pub result_after_of : Side → ℕ → Outcome → Result
unfolding acceptance refusal
result_after_of side D (done s) = acceptance side D s
result_after_of side D (refused n) = refusal n
-- A run always ends (crate theory), so this case never comes (SCOPE 3.24).
result_after_of side D (going s) = refusal never_number

-- What the row store and the answer hold when the run has ended. No diagonal polynomial of a run that accepts is zero.
pub record Final (side : Side) (D : ℕ) (rows : List ℤ) (o : Answer.Outcome) : Type 0 where
  pub rows-within : Within (row_need o.progress.rows) rows
  pub few-settled : o.progress.settled ≤ column_count
  pub four : length o.progress.order ≡ column_count
  pub columns : Columns o.progress.order
  pub all_settled : o.refusal ≡ 0 → (o.done ≡ true) × (o.progress.rows ≡ o.progress.settled)
  pub nonzero : o.refusal ≡ 0 → Nonzero (diagonal side D (settled_state o.progress.settled rows o.progress.order))

abbrev pub FinalIn : Side → ℕ → List ℤ → Std.Result Progress Refusal → Type 0
FinalIn side D rows r = Std.IfOk r (λ p. Final side D rows (run_answer (Ok p) p))

pub final-in : {side : Side} {D : ℕ} {rows : List ℤ} (left : Progress) (r : Std.Result Progress Refusal) → Final side D rows (run_answer r left)
    → FinalIn side D rows r
final-in left (Ok p) h = h
final-in left (Err r) h = tt

module _ (side : Side) (D : ℕ) (s : State) where
  pub ended-refused : (n : ℕ) (d : Bool) → n ≢ 0 → refusal n ≡ result_after_of side D (outcome_of n d s)
  unfolding result_after_of outcome_of
  ended-refused zero d h = absurd (h refl)
  ended-refused (suc n) d h = refl

  pub ended-accepted : (n : ℕ) (d : Bool) → n ≡ 0 → d ≡ true → acceptance side D s ≡ result_after_of side D (outcome_of n d s)
  unfolding result_after_of outcome_of
  ended-accepted n d e f = rw (e, f) refl

-- ---- the checks and the run

-- What a call that passes its checks may ask of the stores.
pub record Checked (z : Sizes) (count : ℕ) (rows relations : List ℤ) : Type 0 where
  pub sizes : T (sizes_right_of z)
  pub valid : Valid z (rows_of (equations z) rows) (relations_of count relations)
  pub rows-within : Within (row_need (equations z)) rows
  pub listing : Listing count relations

-- Rows that pass the check of the numbers have zeros at their unused places.
pub rows-unused : (z : Sizes) (rows : List Row) → T (every (row_right_of z) rows) → T (every (unused_zero_of z.m (span z)) rows)
unfolding every row_right_of
rows-unused z [] h = tt
rows-unused z (r ∷ rows) h =
    let both = (T-&& (row_right_of z r) (every (row_right_of z) rows)).0 h in
    (T-&& (unused_zero_of z.m (span z) r) (every (unused_zero_of z.m (span z)) rows)).1
    (((T-&& (small_row r) (unused_zero_of z.m (span z) r)).0 both.0).1, rows-unused z rows both.1)

-- Whatever m is, a row of a store has no columns past its four.
row-columns : (m D : ℕ) (l : List ℤ) → T (unused_zero_of m D (row_of l)) → T (unused_zero_of column_count D (row_of l))
unfolding unused_zero_of row_of parts every zero_block
row-columns m D l h =
    let blocks = (row_of l).blocks in
    (T-&& (every (λ b. zero_block (drop column_count b)) blocks) (every zero_block (drop (suc D) blocks))).1
    (tt, ((T-&& (every (λ b. zero_block (drop m b)) blocks) (every zero_block (drop (suc D) blocks))).0 h).1)

pub columns-unused : (m D n : ℕ) (store : List ℤ) → T (every (unused_zero_of m D) (rows_of n store))
    → T (every (unused_zero_of column_count D) (rows_of n store))
unfolding rows_of every
columns-unused m D n store h = go (parts row_length n store) h
  where
    go : (ls : List (List ℤ)) → T (every (unused_zero_of m D) (map row_of ls)) → T (every (unused_zero_of column_count D) (map row_of ls))
    go [] k = tt
    go (l ∷ ls) k =
        let both = (T-&& (unused_zero_of m D (row_of l)) (every (unused_zero_of m D) (map row_of ls))).0 k in
        (T-&& (unused_zero_of column_count D (row_of l)) (every (unused_zero_of column_count D) (map row_of ls))).1
        (row-columns m D l both.0, go ls both.1)

-- The numbers of things that pass a test, end to end.
every-number : {A : Type 0} (t : A → Bool) (f : A → List ℤ) → ((x : A) → T (t x) → T (every small (f x)))
    → (l : List A) → T (every t l) → T (every small (flatten (map f l)))
unfolding every flatten
every-number t f each [] h = tt
every-number t f each (x ∷ l) h = step ((T-&& (t x) (every t l)).0 h) (every-number t f each l)
  where
    step : T (t x) × T (every t l) → (T (every t l) → T (every small (flatten (map f l)))) → T (every small (f x ++ flatten (map f l)))
    step both rest =
        rw every_append ((T-&& (every small (f x)) (every small (flatten (map f l)))).1 (each x both.0, rest both.1))

rows-small : (z : Sizes) (rows : List Row) → T (every (row_right_of z) rows) → T (every small (row_store_of rows))
unfolding row_store_of row_right_of small_row
rows-small z rows h = every-number (row_right_of z) coefficients_of (λ r t. ((T-&& (small_row r) (unused_zero_of z.m (span z) r)).0 t).0) rows h

relations-small : (z : Sizes) (relations : List Relation) → T (every (relation_right_of z) relations)
    → T (every small (relation_store_of relations))
unfolding relation_store_of relation_right_of row_right_of small_row relation_numbers every zeros
relations-small z relations h =
    rw every_append
    ((T-&& (every small (flatten (map relation_numbers relations)))
    (every small (replicate ((16 - length relations) * relation_length) (pos 0)))).1
    (every-number (relation_right_of z) relation_numbers numbers relations h, zeros-small ((16 - length relations) * relation_length)))
  where
    numbers : (e : Relation) → T (relation_right_of z e) → T (every small (relation_numbers e))
    numbers e t =
        let both = (T-&& (small e.index) (row_right_of z e.row)).0 t in
        (T-&& (small e.index) (every small (coefficients_of e.row))).1
        (both.0, ((T-&& (small_row e.row) (unused_zero_of z.m (span z) e.row)).0 both.1).0)

pub checked : (z : Sizes) (count : ℕ) (rows relations : List ℤ) → check_stores_of z count rows relations ≡ 0 → Checked z count rows relations
checked z count rows relations e =
    record {
      sizes = passed.sizes;
      valid = stores-valid z count rows relations e;
      rows-within = record { long = long.0; numbers = row-numbers };
      listing = record { few = few; within = record { long = long.1; numbers = relation-numbers }; unused = right.unused-zero };
    }
  where
    passed : StoresRight z count rows relations
    passed = (check_stores-zero z count rows relations).0 e

    few : count ≤ 16
    few = (count_right-iff count).0 passed.few

    long : (row_need (equations z) ≤ length rows) × (relation_need ≤ length relations)
    long = (lengths_right-iff (equations z) rows relations).0 passed.lengths

    right : NumbersRight z count rows relations
    right = (numbers_right-iff z count rows relations).0 passed.numbers

    row-numbers : T (every small (take (row_need (equations z)) rows))
    row-numbers = subst (λ l. T (every small l)) (row_store_of-rows_of (equations z) rows)
        (rows-small z (rows_of (equations z) rows) right.rows_right)

    relation-numbers : T (every small (take relation_need relations))
    relation-numbers =
        subst (λ l. T (every small l)) (relation_store_of-relations_of count relations few long.1 right.unused-zero)
        (relations-small z (relations_of count relations) right.relations-right)

-- The whole run of the system that the stores hold.
abbrev pub RanOn : Side → Sizes → ℕ → List ℤ → List ℤ → List ℤ → List ℤ → Answer.Outcome → Type 0
RanOn side z count rows relations rows' relations' o =
    Ran (equations z) rows relations rows' relations' o (whole_run_of side (span z) (rows_of (equations z) rows) (relations_of count relations))

-- A run that is enough ends, and one that accepts has settled every row that is left.
module _ (side : Side) (z : Sizes) (count : ℕ) (rows relations rows' relations' : List ℤ) (o : Answer.Outcome)
    (c : Checked z count rows relations) (r : RanOn side z count rows relations rows' relations' o) where
  abbrev whole : Outcome
  whole = whole_run_of side (span z) (rows_of (equations z) rows) (relations_of count relations)

  abbrev s : State
  s = state_of rows' relations' o.progress

  ends : (s : State) → whole ≢ going s
  ends s = whole_run-ends side (span z) (rows_of (equations z) rows) (relations_of count relations) s c.valid.row-shapes

  pub final-run : Final side (span z) rows' o
  unfolding outcome_of state_of rank
  final-run =
      record {
        rows-within = ready.rows-within;
        few-settled = ready.few-settled;
        four = ready.four;
        columns = ready.columns;
        all_settled = λ e. cases e o.done refl;
        nonzero = λ e. no_zero e (cases e o.done refl);
      }
    where
      ready : Ready rows' relations' o.progress
      ready = r.reached.ready

      came : (d : Bool) → o.refusal ≡ 0 → o.done ≡ d → whole ≡ outcome_of 0 d s
      came d e f = sym r.reached.outcome ∙ ap₂ (λ n x. outcome_of n x s) e f

      triangular : o.refusal ≡ 0 → o.done ≡ true → Diagonal side (rank s) z.m (span z) s
      triangular e f = diagonal-nonzero (record { valid = c.valid; accepts = came true e f })

      settled : o.refusal ≡ 0 → o.done ≡ true → o.progress.rows ≡ o.progress.settled
      settled e f =
          let count = (triangular e f).row_count in
          let inside : o.progress.settled ≤ length o.progress.order = omega (arith, ready.few-settled, ready.four) in
          sym (length-rows_of o.progress.rows rows') ∙ count ∙ length-take-le o.progress.settled o.progress.order inside

      cases : o.refusal ≡ 0 → (d : Bool) → o.done ≡ d → (o.done ≡ true) × (o.progress.rows ≡ o.progress.settled)
      cases e true f = (f, settled e f)
      cases e false f = absurd (ends s (came false e f))

      no_zero : o.refusal ≡ 0 → (o.done ≡ true) × (o.progress.rows ≡ o.progress.settled)
          → Nonzero (diagonal side (span z) (settled_state o.progress.settled rows' o.progress.order))
      no_zero e (f, all) =
          subst Nonzero
          (diagonal-settled side (span z) o.progress.settled rows' o.progress.order s (ap (λ n. rows_of n rows') all) refl)
          (member-all (λ p. T (not (is_zero_of p))) (diagonal side (span z) s)
          (nonzero-of-diagonal side (rank s) z.m (span z) s (triangular e f)))

-- A call by its parts.
pub call-of : (c : Call) (r : Std.Result RunReport Refusal) (rows relations : List ℤ) → result_of r ≡ c.result → rows ≡ c.row_store
    → relations ≡ c.relation_store
    → call_of r rows relations ≡ c
unfolding call_of
call-of c r rows relations e f g = λ i. record { result = e i; row_store = f i; relation_store = g i }

-- What a run that ends leaves is what its call leaves.
left_after : (side : Side) (z : Sizes) (x : Outcome) (result : Result) (rows relations rows' relations' : List ℤ)
    → ((s : State) → x ≢ going s) → result ≡ result_after_of side (span z) x → rows' ≡ rows_after_of (equations z) x rows → relations'
    ≡ relations_after_of x relations
    → ◌≡◌ {A = Call} (record { result = result; row_store = rows'; relation_store = relations' }) (after_run_of side z x rows relations)
unfolding after_run_of result_after_of rows_after_of relations_after_of cleared
left_after side z (going s) result rows relations rows' relations' n e f g = absurd (n s refl)
left_after side z (done s) result rows relations rows' relations' n e f g =
    λ i. record { result = e i; row_store = f i; relation_store = g i }
left_after side z (refused k) result rows relations rows' relations' n e f g =
    λ i. record { result = e i; row_store = f i; relation_store = g i }

pub call-after : (side : Side) (z : Sizes) (x : Outcome) (r : Std.Result RunReport Refusal) (rows relations rows' relations' : List ℤ)
    → ((s : State) → x ≢ going s) → result_of r ≡ result_after_of side (span z) x → rows' ≡ rows_after_of (equations z) x rows → relations'
    ≡ relations_after_of x relations
    → call_of r rows' relations' ≡ after_run_of side z x rows relations
unfolding call_of
call-after side z x r = left_after side z x (result_of r)

pub call-left : (side : Side) (z : Sizes) (count : ℕ) (rows relations rows' relations' : List ℤ) (o : Answer.Outcome) (result : Result)
    → check_stores_of z count rows relations ≡ 0 → RanOn side z count rows relations rows' relations' o
    → result ≡ result_after_of side (span z) (outcome_at rows' relations' o)
    → ◌≡◌ {A = Call} (record { result = result; row_store = rows'; relation_store = relations' }) (call_run side z count rows relations)
unfolding call_run after_check
call-left side z count rows relations rows' relations' o result e ran f =
    let x = whole_run_of side (span z) (rows_of (equations z) rows) (relations_of count relations) in
    let never-going = ends side z count rows relations rows' relations' o (checked z count rows relations e) ran in
    left_after side z x result rows relations rows' relations' never-going
    (f ∙ ap (result_after_of side (span z)) ran.reached.outcome) ran.rows-after ran.relations-after
    ∙ ap (after_check side z count rows relations) (sym e)

pub call-run : (side : Side) (z : Sizes) (count : ℕ) (rows relations rows' relations' : List ℤ) (o : Answer.Outcome) (r : Std.Result RunReport Refusal)
    → check_stores_of z count rows relations ≡ 0 → RanOn side z count rows relations rows' relations' o
    → result_of r ≡ result_after_of side (span z) (outcome_at rows' relations' o)
    → call_of r rows' relations' ≡ call_run side z count rows relations
unfolding call_of
call-run side z count rows relations rows' relations' o r = call-left side z count rows relations rows' relations' o (result_of r)

-- Refusals 1, 2 and 5.
pub call-refused : (side : Side) (z : Sizes) (count : ℕ) (rows relations : List ℤ) (r : Refusal) → number_of r ≡ check_stores_of z count rows relations
    → call_of (Err r) rows relations ≡ call_run side z count rows relations
unfolding call_run after_check unchanged call_of result_of
call-refused side z count rows relations r e = go (number_of r) (number-nonzero r) e
  where
    go : (n : ℕ) → n ≢ 0 → n ≡ check_stores_of z count rows relations
        → ◌≡◌ {A = Call} (record { result = refusal n; row_store = rows; relation_store = relations }) (call_run side z count rows relations)
    go zero h e = absurd (h refl)
    go (suc n) h e = ap (after_check side z count rows relations) e
