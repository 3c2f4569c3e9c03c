-- The exported runs: a run on lent stores whose result is a lent store too.
--
-- Main definitions
--   run_numbers_of r           the ten numbers of a result
--   check_run ..            the checks of the call: sizes (2), lengths (1), numbers (5)
--   export_run side ..      the call
--   run_after c ..          the call, by what its run did
--   SmallResult r          the counts and columns of a result are small
--
-- Main statements
--   refused-numbers        on a refusal the needed part of the result store is zero where it is written
--   run_short, run-done    the call with a result store that is too short, and with one that is long enough
--   refusal-same           the refusal of a result is that of the answer
--   settled-small          the result of a final state is small
--   run-zeros, run_small   the result of a refusal is small, and that of every run
use Rattle.std.specs.Prelude.{ℕ, zero, suc, ◌≤◌, ◌<◌, ◌≡◌, Bool, ◌&&◌, List, [], ◌∷◌, ◌++◌, map, leb, ℤ, pos, length}
use Rattle.std.proofs.Common.{zero-le, le_trans, le_of_suc-le-suc, arith, sym, ◌∙◌, ap₂, le-leb}
use Rattle.std.proofs.Math.Nat.{mul-le-mul}
use Rattle.std.proofs.Math.Path.{refl, ap, subst}
use Rattle.std.proofs.Math.Bool.{true, false, cond}
use Rattle.std.proofs.lemmas.Bool.{lt-leb}
use Rattle.std.specs.Int.Signed.{≤ℤ_refl}
use Rattle.rules.specs.Limits.{column_count}
use Rattle.lists.specs.Everywhere.{All, all_map, get_or-all}
use Rattle.rules.specs.Elimination.{Side, State, Outcome, going, done, refused, rank, whole_run_of, report, never_number}
use Rattle.rules.specs.Stores.{Sizes, Valid, span, rows_of, relations_of, sizes_right_of, count_right, lengths_right_of, numbers_right_of, check_stores_of}
use Rattle.rules.specs.Stores.{equations, with_equations_of}
use Rattle.rules.specs.Layout.{SizeBounds, size-bounds, check_stores-order, stores-valid, count_right-iff, block-place}
use Rattle.lists.specs.Padded.{length-pad_to, all-pad_to}
use Rattle.theory.specs.Demands.{Accepted, Ended, accepted, seven, eight, nine, ten}
use Rattle.theory.proofs.Demands.{run_ends, shifts-bounded, output-valid}
use Rattle.theory.proofs.Demands.{diagonal-nonzero}
use Rattle.theory.specs.Settled.{Diagonal, diagonal-most}
use Rattle.rules.specs.Calls.{reported_order}
use Rattle.rules.specs.Calls.{Result, Call, call_run, zeros, refusal, unchanged, cleared, acceptance, after_run_of, after_check}
use Rattle.lists.specs.Overwritten.{overwrite}
use Rattle.export_results.specs.Results.{Exported, kept, run_need, most_count, early, kept_or, kept-early, kept-late, none-checked}
use Rattle.std.specs.Prelude as Std
use Rattle.std.proofs.Common.{Ok, Err}
use Rattle.refusals.specs.declared.Refusal.{Refusal}
use Rattle.refusals.specs.Refusals.{refusal_in}
use Rattle.runs.specs.declared.RunReport.{RunReport}
use Rattle.runs.specs.CallLaws.{result_of}
use Rattle.exported_runs.specs.Times.{times-few}

-- The number of relations, the shifts, c(1) to c(4), 1 or 0 for a root, the root, the rank, how often the root occurs (SCOPE 3.52).
unfoldable pub run_numbers_of : Result → List ℤ
run_numbers_of r =
    pos r.relations ∷ pos r.shifts ∷ (map pos r.order ++ (pos (cond r.has_root_of 1 0) ∷ r.root ∷ pos r.rank ∷ pos r.multiplicity ∷ []))

-- Sizes (2), lengths (1), numbers (5) in turn (SCOPE 3.31); the result store is one of the stores (SCOPE 3.53).
unfoldable pub check_run : Sizes → ℕ → List ℤ → List ℤ → List ℤ → ℕ
unfolding sizes_right_of count_right lengths_right_of numbers_right_of
check_run z count row_store relation_store result_store =
    let numbers : ℕ = cond (numbers_right_of z count row_store relation_store) 0 5 in
    let lengths : ℕ = cond (lengths_right_of (equations z) row_store relation_store && leb run_need (length result_store)) numbers 1 in
    cond (sizes_right_of z && count_right count) lengths 2

-- An acceptance, or a refusal 7 to 10, which makes the ten numbers of the result zero (SCOPE 3.54, 6.31).
unfoldable pub ran : Call → List ℤ → Exported
unfolding overwrite run_numbers_of
ran c result_store =
    record {
      refusal = c.result.refusal;
      row_store = c.row_store;
      relation_store = c.relation_store;
      result_store = overwrite
          (run_numbers_of c.result) result_store;
    }

unfoldable pub after_run_check : Side → Sizes → ℕ → List ℤ → List ℤ → List ℤ → ℕ → Exported
unfolding ran call_run kept
after_run_check side z count row_store relation_store result_store zero = ran (call_run side z count row_store relation_store) result_store
after_run_check side z count row_store relation_store result_store (suc n) = kept (suc n) row_store relation_store result_store

unfoldable pub export_run : Side → Sizes → ℕ → List ℤ → List ℤ → List ℤ → Exported
unfolding after_run_check check_run
export_run side z count row_store relation_store result_store =
    after_run_check side z count row_store relation_store result_store (check_run z count row_store relation_store result_store)

pub refused-numbers : (n : ℕ) → run_numbers_of (refusal n) ≡ zeros run_need
unfolding run_numbers_of refusal zeros
refused-numbers n = refl

-- Counts and columns that fit into a number of the result store. A replay has the most shifts: no more than its log has steps (SCOPE 13.1).
pub record SmallResult (r : Result) : Type 0 where
  pub few-relations : r.relations ≤ 16
  pub few-shifts : r.shifts ≤ most_count
  pub four : length r.order ≡ column_count
  pub columns : All (λ c. c ≤ column_count) r.order
  pub low-rank : r.rank ≤ column_count
  pub few-times : r.multiplicity ≤ 64

-- The refusal of a result is that of the answer.
pub refusal-same : (r : Std.Result RunReport Refusal) → (result_of r).refusal ≡ refusal_in r
unfolding result_of refusal
refusal-same (Ok r) = refl
refusal-same (Err r) = refl

-- ---- the result store, by the refusal of the run

unfoldable pub run_after : Call → List ℤ → Exported
unfolding kept_or run_numbers_of
run_after c result_store =
    record {
      refusal = c.result.refusal;
      row_store = c.row_store;
      relation_store = c.relation_store;
      result_store = kept_or
          c.result.refusal (run_numbers_of c.result) result_store;
    }

after-late : (c : Call) (result_store : List ℤ) → early c.result.refusal ≡ false → run_after c result_store ≡ ran c result_store
unfolding run_after ran
after-late c result_store e =
    ap (λ l. record { refusal = c.result.refusal; row_store = c.row_store; relation_store = c.relation_store; result_store = l })
    (sym (kept-late c.result.refusal (run_numbers_of c.result) result_store e))

after-early : (n : ℕ) (row_store relation_store result_store : List ℤ) → suc n ≤ 5
    → run_after (unchanged (suc n) row_store relation_store) result_store ≡ kept (suc n) row_store relation_store result_store
unfolding run_after early unchanged refusal kept
after-early n row_store relation_store result_store h =
    ap (λ l. record { refusal = suc n; row_store = row_store; relation_store = relation_store; result_store = l })
    (sym
    (kept-early (suc n) (run_numbers_of (refusal (suc n))) result_store (ap₂ ◌&&◌ (le-leb 1 (suc n) (omega arith)) (le-leb (suc n) 5 h))))

long-check : (s l n : Bool) → cond s (cond (l && true) (cond {A = ℕ} n 0 5) 1) 2 ≡ cond s (cond l (cond n 0 5) 1) 2
long-check s true n = refl
long-check s false n = refl

short-check : (s l n : Bool) → cond s (cond (l && false) (cond {A = ℕ} n 0 5) 1) 2 ≡ cond s 1 2
short-check s true n = refl
short-check s false n = refl

few-checks : (s l n : Bool) → cond s (cond l (cond {A = ℕ} n 0 5) 1) 2 ≤ 5
few-checks true true true = omega arith
few-checks true true false = omega arith
few-checks true false n = omega arith
few-checks false l n = omega arith

pub run-zeros : (n : ℕ) → SmallResult (refusal n)
unfolding refusal All
run-zeros n =
    record {
      few-relations = zero-le;
      few-shifts = zero-le;
      four = refl;
      columns = (zero-le, (zero-le, (zero-le, (zero-le, tt))));
      low-rank = zero-le;
      few-times = zero-le;
    }

-- A final state has few relations and rows, and its columns are below m.
pub settled-small : (side : Side) (z : Sizes) (s : State) → SizeBounds z → Valid (with_equations_of (rank s) z) s.rows s.relations
    → Diagonal side (rank s) z.m (span z) s → s.shifts ≤ most_count → SmallResult (acceptance side (span z) s)
unfolding acceptance reported_order
settled-small side z s bounds v d few =
    record {
      few-relations = (count_right-iff (length s.relations)).0 v.relation-count;
      few-shifts = few;
      four = length-pad_to 4 0 (map suc s.order);
      columns = all-pad_to (λ c. c ≤ 4) 4 0 (map suc s.order) zero-le ((all_map (λ c. c ≤ 4) suc s.order).1 below);
      low-rank = low;
      few-times = times-few side (span z) s v.row-shapes low (report side (span z) s);
    }
  where
    low : rank s ≤ 4
    low = le_trans (diagonal-most d) bounds.few

    below : All (λ c. suc c ≤ 4) s.order
    below =
        get_or-all (λ c. suc c ≤ 4) s.order 0
        (λ j h. le_trans (d.column-below j (subst (λ n. j < n) d.order-count h)) bounds.few)

module _ (side : Side) (z : Sizes) (count : ℕ) (row_store relation_store : List ℤ) where
  abbrev outcome : Outcome
  outcome = whole_run_of side (span z) (rows_of (equations z) row_store) (relations_of count relation_store)

  unchecked : (n : ℕ) → check_stores_of z count row_store relation_store ≡ suc n
      → call_run side z count row_store relation_store ≡ unchanged (suc n) row_store relation_store
  unfolding call_run after_check
  unchecked n e = ap (after_check side z count row_store relation_store) e

  worked : check_stores_of z count row_store relation_store ≡ 0
      → call_run side z count row_store relation_store ≡ after_run_of side z outcome row_store relation_store
  unfolding call_run after_check
  worked e = ap (after_check side z count row_store relation_store) e

  -- The checks passed.
  module _ (e : check_stores_of z count row_store relation_store ≡ 0) where
    valid : Valid z (rows_of (equations z) row_store) (relations_of count relation_store)
    valid = stores-valid z count row_store relation_store e

    bounds : SizeBounds z
    bounds = size-bounds z valid.sizes

    accepted-small : (s : State) → outcome ≡ done s → SmallResult (acceptance side (span z) s)
    unfolding span
    accepted-small s f =
        settled-small side z s bounds (output-valid a) (diagonal-nonzero a)
        (omega (arith, shifts-bounded a, mul-le-mul bounds.few-equations few-blocks))
      where
        a : Accepted side z (rows_of (equations z) row_store) (relations_of count relation_store) s
        a = record { valid = valid; accepts = f }

        few-blocks : span z ≤ 4
        few-blocks = le_of_suc-le-suc (block-place z z.t bounds (≤ℤ_refl z.t) bounds.ordered)

    -- A run that has begun gives no early refusal.
    late : (o : Outcome) → Ended o → early (after_run_of side z o row_store relation_store).result.refusal ≡ false
    unfolding early after_run_of acceptance cleared refusal
    late o (accepted s) = refl
    late o seven = refl
    late o eight = refl
    late o nine = refl
    late o ten = refl

  -- The result of a run is small.
  pub run_small : {x : Call} → x ≡ call_run side z count row_store relation_store → SmallResult x.result
  unfolding after_run_of cleared unchanged
  run_small same = subst (λ c. SmallResult c.result) (sym same) (by-check (check_stores_of z count row_store relation_store) refl)
    where
      by-run : check_stores_of z count row_store relation_store ≡ 0 → (o : Outcome) → outcome ≡ o
          → SmallResult (after_run_of side z o row_store relation_store).result
      by-run e (going s) f = run-zeros never_number
      by-run e (done s) f = accepted-small e s f
      by-run e (refused n) f = run-zeros n

      by-check : (n : ℕ) → check_stores_of z count row_store relation_store ≡ n
          → SmallResult (call_run side z count row_store relation_store).result
      by-check zero e = subst (λ c. SmallResult c.result) (sym (worked e)) (by-run e _ refl)
      by-check (suc n) e = subst (λ c. SmallResult c.result) (sym (unchecked n e)) (run-zeros (suc n))

  module _ (result_store : List ℤ) where
    -- The length of the result store is checked with the other lengths, after the sizes (SCOPE 3.53).
    pub run_short : length result_store < run_need
        → kept (check_stores_of z count [] []) row_store relation_store result_store
        ≡ export_run side z count row_store relation_store result_store
    unfolding export_run check_run after_run_check
    run_short h =
        ap (λ n. kept n row_store relation_store result_store) (none-checked z count) ∙ refused-short (sizes_right_of z && count_right count)
        ∙ ap (after_run_check side z count row_store relation_store result_store)
        (sym
        (ap (λ b. cond (sizes_right_of z && count_right count)
        (cond (lengths_right_of (equations z) row_store relation_store && b) (cond (numbers_right_of z count row_store relation_store) 0 5) 1) 2)
        (lt-leb run_need (length result_store) h)
        ∙ short-check (sizes_right_of z && count_right count) (lengths_right_of (equations z) row_store relation_store)
        (numbers_right_of z count row_store relation_store)))
      where
        refused-short : (s : Bool) → kept (cond s 1 2) row_store relation_store result_store
            ≡ after_run_check side z count row_store relation_store result_store (cond s 1 2)
        refused-short true = refl
        refused-short false = refl

    long-checked : run_need ≤ length result_store
        → check_run z count row_store relation_store result_store ≡ check_stores_of z count row_store relation_store
    unfolding check_run check_stores_of
    long-checked h =
        ap (λ b. cond (sizes_right_of z && count_right count)
        (cond (lengths_right_of (equations z) row_store relation_store && b) (cond (numbers_right_of z count row_store relation_store) 0 5) 1) 2)
        (le-leb run_need (length result_store) h)
        ∙ long-check (sizes_right_of z && count_right count) (lengths_right_of (equations z) row_store relation_store)
        (numbers_right_of z count row_store relation_store)

    run_long : run_need ≤ length result_store
        → run_after (call_run side z count row_store relation_store) result_store ≡ export_run side z count row_store relation_store result_store
    unfolding export_run after_run_check
    run_long h =
        by-check (check_stores_of z count row_store relation_store) refl
        ∙ ap (after_run_check side z count row_store relation_store result_store) (sym (long-checked h))
      where
        begun : check_stores_of z count row_store relation_store ≡ 0 → early (call_run side z count row_store relation_store).result.refusal
            ≡ false
        begun e = ap (λ c. early c.result.refusal) (worked e) ∙ late e outcome (run_ends side (valid e))

        few : (n : ℕ) → check_stores_of z count row_store relation_store ≡ n → n ≤ 5
        few n e =
            subst (λ k. k ≤ 5) (sym (check_stores-order z count row_store relation_store) ∙ e)
            (few-checks (sizes_right_of z && count_right count) (lengths_right_of (equations z) row_store relation_store)
            (numbers_right_of z count row_store relation_store))

        by-check : (n : ℕ) → check_stores_of z count row_store relation_store ≡ n
            → run_after (call_run side z count row_store relation_store) result_store
            ≡ after_run_check side z count row_store relation_store result_store (check_stores_of z count row_store relation_store)
        by-check zero e =
            after-late (call_run side z count row_store relation_store) result_store (begun e)
            ∙ ap (after_run_check side z count row_store relation_store result_store) (sym e)
        by-check (suc n) e =
            ap (λ c. run_after c result_store) (unchecked n e) ∙ after-early n row_store relation_store result_store (few (suc n) e)
            ∙ ap (after_run_check side z count row_store relation_store result_store) (sym e)

    -- The call, from the run that was made and the result store that was left.
    pub run-done : {x : Call} {after : List ℤ} → x ≡ call_run side z count row_store relation_store
        → after ≡ kept_or x.result.refusal (run_numbers_of x.result) result_store → run_need ≤ length result_store
        → record { refusal = x.result.refusal; row_store = x.row_store; relation_store = x.relation_store; result_store = after }
        ≡ export_run side z count row_store relation_store result_store
    unfolding run_after
    run-done {x} e f h =
        (λ i. record { refusal = x.result.refusal; row_store = x.row_store; relation_store = x.relation_store; result_store = f i })
        ∙ ap (λ y. run_after y result_store) e ∙ run_long h
