-- A state that a run leaves passes the checks of the next one (SCOPE 11.25).
--
-- Main definitions
--   Sound z s           what is kept by the steps of a run that began with a prepared state
--   StateRight x ..     what the checks of a state let through, as facts
--
-- Main statements
--   sound-kept, sound-chain, shifts-chain   steps keep it; every state of a run from a valid system is sound, with few shifts
--   state-held          what is handed over of a sound state, with its stores, is the state
--   sound-passes        and passes the checks
--   check_state-zero     the checks as facts
--   prepared-start, prepared-passes   a prepared state is the start of a run, and passes the checks
use Prim.Native.Nat.{ℕ, zero, suc, ◌*◌, ◌-◌, ◌≤◌, ◌<◌, zero-le, pred}
use Rattle.std.proofs.Common.{le_refl, le_trans, le_of_eq, mul-le-mul_right, not-suc-le-zero, arith, sym, ◌∙◌, inl, leb→le, get_or-take, length-take-le}
use Rattle.std.proofs.Math.Decide.{ℕ_discrete}
use Rattle.std.specs.Prelude.{◌≡◌, ◌↔◌, ◌&&◌, not, eqb, drop, get_or, pos}
use Rattle.std.proofs.Math.Path.{refl, ap, subst}
use mathlib.Core.List.{List, [], ◌∷◌, ◌++◌, map, append_assoc, Memᴰ}
use Rattle.std.proofs.Math.Dec.{T, leb, le→leb}
use Rattle.std.proofs.Math.ListN.{length, take, replicate}
use Rattle.std.proofs.lemmas.List.{length-map}
use Rattle.std.proofs.Math.IntN.{ℤ}
use Rattle.algebra.specs.Polynomials.{is_zero_of}
use Rattle.algebra.specs.Pigeonhole.{distinct-length}
use Rattle.lists.specs.Everywhere.{All, all-mono, all_get_or, get_or-all, map-keeps}
use Rattle.lists.specs.Places.{member-place}
use Rattle.lists.specs.Padded.{pad_to, take-pad_to, drop-pad_to}
use Rattle.lists.specs.Tests.{T-&&, every, every-all, every-of-all, all-of-every, cond-passed, cond-zero}
use Rattle.rules.specs.Limits.{column_count, most_equations, row_length}
use Rattle.rules.specs.Rows.{Row, Relation, no_row, entry, width}
use Rattle.rules.specs.Elimination.{State, start, leading}
use Rattle.rules.specs.Stores.{Sizes, equations, with_equations_of, span, rows_of, relations_of, row_store_of, row_store_for}
use Rattle.rules.specs.Stores.{relation_store_of, sizes_right_of, count_right, lengths_right_of, numbers_right_of, check_stores_of, unused_zero_of, row_right_of}
use Rattle.rules.specs.Stores.{Valid}
use Rattle.rules.specs.Layout.{size-bounds, check_stores-zero, valid-stores, rows_of-row_store_for, relations_of-relation_store_of}
use Rattle.rules.specs.Layout.{StoresRight}
use Rattle.rules.specs.Calls.{reported_order}
use Rattle.theory.specs.Steps.{Chain, chain-induction}
use Rattle.theory.proofs.Steps.{chain_length}
use Rattle.theory.specs.Triangular.{Triangular, triangular-start, triangular-chain}
use Rattle.theory.specs.Pivots.{PivotRow, PivotRows, ColumnsBelow, column-below, order-distinct}
use Rattle.theory.specs.Cells.{entry-cell, unused-cells, width-unused}
use Rattle.theory.specs.LimitsKept.{ValidRows, valid-rows, stepped-valid, counted-valid, row_right-iff}
use Rattle.theory.proofs.Ending.{shift-bound}
use Rattle.steps.specs.HeldCalls.{Held, the_columns_of, state_in_of, held_state, prepared, sizes_held_of, pivot_right, pivots_right_of, check_state_of}

-- ---- the checks as facts

pub record HeldBounds (x : Held) : Type 0 where
  pub sizes : T (sizes_right_of x.sizes)
  pub few-relations : T (count_right x.relations)
  pub few-unknowns : x.settled ≤ x.sizes.m
  pub few-rows : x.settled ≤ equations x.sizes
  pub columns : T (every (λ c. leb 1 c && leb c x.sizes.m) (take x.settled x.order))
  pub unused : T (every (eqb 0) (drop x.settled x.order))
  pub few-shifts : x.shifts ≤ most_equations * span x.sizes

pub sizes_held-iff : (x : Held) → T (sizes_held_of x) ↔ HeldBounds x
unfolding sizes_held_of
sizes_held-iff x = (
  λ h. let e = simp T-&& at h in
      record {
        sizes = e.0.0.0.0;
        few-relations = e.0.0.0.1;
        few-unknowns = leb→le _ _ e.0.0.1.0;
        few-rows = leb→le _ _ e.0.0.1.1;
        columns = e.0.1.0;
        unused = e.0.1.1;
        few-shifts = leb→le _ _ e.1;
      },
  λ h. simp T-&& (
    (((h.sizes, h.few-relations), (le→leb _ _ h.few-unknowns, le→leb _ _ h.few-rows)), (h.columns, h.unused)),
    le→leb _ _ h.few-shifts,
  ),
)

pub record StateRight (x : Held) (row_store relation_store : List ℤ) : Type 0 where
  pub sizes : T (sizes_held_of x)
  pub lengths : T (lengths_right_of (equations x.sizes) row_store relation_store)
  pub numbers : T (numbers_right_of x.sizes x.relations row_store relation_store)
  pub pivots : T (pivots_right_of (the_columns_of x) (rows_of (equations x.sizes) row_store) x.settled)

pub check_state-zero : (x : Held) (row_store relation_store : List ℤ)
    → (check_state_of x row_store relation_store ≡ 0) ↔ StateRight x row_store relation_store
unfolding check_state_of
check_state-zero x row_store relation_store = (
  λ e. let first = cond-zero (sizes_held_of x) _ 10 e in
      let second = cond-zero (lengths_right_of (equations x.sizes) row_store relation_store) _ 0 first.1 in
      let third = cond-zero (numbers_right_of x.sizes x.relations row_store relation_store) _ 10 second.1 in
      let fourth = cond-zero (pivots_right_of (the_columns_of x) (rows_of (equations x.sizes) row_store) x.settled) 0 10 third.1 in
      record { sizes = first.0; lengths = second.0; numbers = third.0; pivots = fourth.0 },
  λ h. cond-passed (sizes_held_of x) _ 11 h.sizes
      ∙ cond-passed (lengths_right_of (equations x.sizes) row_store relation_store) _ 1 h.lengths
      ∙ cond-passed (numbers_right_of x.sizes x.relations row_store relation_store) _ 11 h.numbers
      ∙ cond-passed (pivots_right_of (the_columns_of x) (rows_of (equations x.sizes) row_store) x.settled) 0 11 h.pivots,
)

-- The diagonal and the columns: what the steps of a run keep.
pub pivots-right : (order : List ℕ) (rows : List Row) (w : ℕ) → w ≤ length order
    → T (pivots_right_of order rows w) ↔ PivotRows w order rows
unfolding pivots_right_of pivot_right
pivots-right order rows zero h = (λ t j b. absurd (not-suc-le-zero b), λ p. tt)
pivots-right order rows (suc w) h = (
  λ t. let both = (T-&& (pivots_right_of order rows w) _).0 t in
      let last = (T-&& (every (λ c. is_zero_of (entry (get_or rows w no_row) c)) (take w order)) _).0 both.1 in
      λ j b. cases ((pivots-right order rows w (omega arith)).0 both.0) last j b (ℕ_discrete j w),
  λ p. (T-&& (pivots_right_of order rows w) _).1 (
    (pivots-right order rows w (omega arith)).1 (λ j b. p j (omega arith)),
    (T-&& (every (λ c. is_zero_of (entry (get_or rows w no_row) c)) (take w order)) _).1 (
      every-of-all (λ c. is_zero_of (entry (get_or rows w no_row) c)) (take w order)
          (get_or-all (λ c. T (is_zero_of (entry (get_or rows w no_row) c))) (take w order) 0 (before (p w (omega arith)))),
      (p w (omega arith)).diagonal,
    ),
  ),
)
  where
    before : PivotRow order w (get_or rows w no_row) → (i : ℕ) → i < length (take w order)
        → T (is_zero_of (entry (get_or rows w no_row) (get_or (take w order) i 0)))
    before p i b =
        let below : i < w = omega (arith, length-take-le w order (omega arith)) in
        subst (λ c. T (is_zero_of (entry (get_or rows w no_row) c))) (sym (get_or-take w order i 0 below)) (p.zeros i below)

    zero-at : T (every (λ c. is_zero_of (entry (get_or rows w no_row) c)) (take w order)) → (k : ℕ) → k < w
        → T (is_zero_of (entry (get_or rows w no_row) (get_or order k 0)))
    zero-at t k b =
        subst (λ c. T (is_zero_of (entry (get_or rows w no_row) c))) (get_or-take w order k 0 b)
        (all_get_or (λ c. T (is_zero_of (entry (get_or rows w no_row) c))) (take w order) 0 k
        (omega (arith, length-take-le w order (omega arith)))
        (all-of-every (λ c. is_zero_of (entry (get_or rows w no_row) c)) (take w order) t))

    cases : PivotRows w order rows
        → T (every (λ c. is_zero_of (entry (get_or rows w no_row) c)) (take w order))
        × T (not (is_zero_of (entry (get_or rows w no_row) (get_or order w 0))))
        → (j : ℕ) → j < suc w → Dec (j ≡ w) → PivotRow order j (get_or rows j no_row)
    cases earlier last j b (yes e) =
        subst (λ k. PivotRow order k (get_or rows k no_row)) (sym e) (record { zeros = zero-at last.0; diagonal = last.1 })
    cases earlier last j b (no n) = earlier j (omega arith)

-- ---- what the steps keep

pub record Sound (z : Sizes) (s : State) : Type 0 where
  pub valid : ValidRows z s.rows s.relations
  pub triangular : Triangular s
  pub few-rows : length s.rows ≤ equations z

rows-unused : (z : Sizes) (rows : List Row) → T (every (row_right_of z) rows) → All (λ r. T (unused_zero_of z.m (span z) r)) rows
rows-unused z rows h =
    all-mono (λ r. T (row_right_of z r)) (λ r. T (unused_zero_of z.m (span z) r)) (λ r t. ((row_right-iff z r).0 t).1) rows
    ((every-all (row_right_of z) rows).0 h)

-- Every state that steps lead to from a valid system with some rows settled.
pub sound-kept : {z : Sizes} {s : State} → Sound z s → {k : ℕ} {v : State} → Chain leading s k v → Sound z v
sound-kept {z} sound c =
    record {
      valid = chain-induction leading (λ u. ValidRows z u.rows u.relations) (λ u w. stepped-valid) c sound.valid;
      triangular = triangular-chain c sound.triangular;
      few-rows = le_trans (chain_length c) sound.few-rows;
    }

-- Every state of a run from a valid system,
pub sound-chain : {z : Sizes} {rows : List Row} {relations : List Relation} → Valid z rows relations → {k : ℕ} {s : State}
    → Chain leading (start rows relations) k s → Sound z s
unfolding start
sound-chain {rows = rows} {relations} v c =
    sound-kept (record { valid = valid-rows v; triangular = triangular-start rows relations; few-rows = le_of_eq v.row_count }) c

-- which has made no more shifts than a run of six equations may.
pub shifts-chain : {z : Sizes} {rows : List Row} {relations : List Relation} → Valid z rows relations → {k : ℕ} {s : State}
    → Chain leading (start rows relations) k s → s.shifts ≤ most_equations * span z
shifts-chain {z} {rows} {relations} v {s = s} c =
    le_trans (shift-bound (span z) rows relations s widths c) (mul-le-mul_right (span z) most)
  where
    widths : All (λ r. width r ≤ suc (span z)) rows
    widths = all-mono (λ r. T (unused_zero_of z.m (span z) r)) (λ r. width r ≤ suc (span z)) (width-unused z.m (span z)) rows
        (rows-unused z rows v.rows_right)

    most : length rows ≤ most_equations
    most = subst (λ n. n ≤ most_equations) (sym v.row_count) (size-bounds z v.sizes).few-equations

-- ---- what is handed over of it

module _ (z : Sizes) (s : State) (sound : Sound z s) where
  -- The columns of the settled rows are among the m columns, and different.
  pub columns-within : (j : ℕ) → j < length s.order → get_or s.order j 0 < z.m
  columns-within = column-below z.m s.order s.rows sound.triangular.fits sound.triangular.pivots
      (all-mono (λ r. T (unused_zero_of z.m (span z) r)) (ColumnsBelow z.m) narrow s.rows
      (rows-unused z s.rows sound.valid.rows_right))
    where
      narrow : (r : Row) → T (unused_zero_of z.m (span z) r) → ColumnsBelow z.m r
      narrow r u c h = subst (λ p. T (is_zero_of p)) (sym (entry-cell r c)) ((unused-cells z.m (span z) r).0 u 0 c (inl h))

  pub settled-most : length s.order ≤ z.m
  settled-most = distinct-length z.m s.order (order-distinct s.order s.rows sound.triangular.pivots) below
    where
      below : (c : ℕ) → Memᴰ c s.order → c < z.m
      below c h = let (j, inside, same) = member-place 0 h in subst (λ k. k < z.m) same (columns-within j inside)

  settled-four : length (map suc s.order) ≤ column_count
  settled-four = rw (length-map s.order suc) (le_trans settled-most (size-bounds z sound.valid.sizes).few)

  order-taken : take (length s.order) (reported_order s.order) ≡ map suc s.order
  unfolding reported_order
  order-taken =
      ap (λ n. take n (pad_to column_count 0 (map suc s.order))) (sym (length-map s.order suc))
      ∙ take-pad_to column_count 0 (map suc s.order) settled-four

  pub order-held : the_columns_of (held_state z s) ≡ s.order
  unfolding the_columns_of held_state
  order-held = ap (map pred) order-taken ∙ back s.order
    where
      back : (l : List ℕ) → map pred (map suc l) ≡ l
      back [] = refl
      back (c ∷ l) = ap (λ r. c ∷ r) (back l)

  order-unused : T (every (eqb 0) (drop (length s.order) (reported_order s.order)))
  unfolding reported_order
  order-unused =
      subst (λ n. T (every (eqb 0) (drop n (pad_to column_count 0 (map suc s.order))))) (length-map s.order suc)
      (drop-pad_to (eqb 0) column_count 0 (map suc s.order) tt)

  pub valid-held : Valid (with_equations_of (length s.rows) z) s.rows s.relations
  valid-held = counted-valid sound.valid refl sound.few-rows

  module _ (n : ℕ) (rest others : List ℤ) where
    abbrev rows_held : List ℤ
    rows_held = row_store_for n s.rows ++ rest

    abbrev relations_held : List ℤ
    relations_held = relation_store_of s.relations ++ others

    rows-held : rows_of (length s.rows) rows_held ≡ s.rows
    rows-held = rows_of-row_store_for n s.rows rest sound.valid.row-shapes

    -- The state is what is handed over, with its stores.
    pub state-held : state_in_of (held_state z s) rows_held relations_held ≡ s
    unfolding state_in_of held_state with_equations_of equations
    state-held =
        λ i. record {
          rows = rows-held i;
          relations = relations_of-relation_store_of s.relations others sound.valid.relation-shapes i;
          order = order-held i;
          shifts = s.shifts;
        }

    sizes-held : s.shifts ≤ most_equations * span z → HeldBounds (held_state z s)
    unfolding held_state with_equations_of equations span
    sizes-held few =
        record {
          sizes = valid-held.sizes;
          few-relations = sound.valid.relation-count;
          few-unknowns = settled-most;
          few-rows = sound.triangular.fits;
          columns = subst (λ l. T (every (λ c. leb 1 c && leb c z.m) l)) (sym order-taken)
              (every-of-all (λ c. leb 1 c && leb c z.m) (map suc s.order)
              (map-keeps (λ c. c < z.m) (λ c. T (leb 1 c && leb c z.m)) suc
              (λ c h. (T-&& (leb 1 (suc c)) (leb (suc c) z.m)).1 (le→leb 1 (suc c) (omega arith), le→leb (suc c) z.m h))
              s.order (get_or-all (λ c. c < z.m) s.order 0 columns-within)));
          unused = order-unused;
          few-shifts = few;
        }

    -- It passes the checks of the next run.
    pub sound-passes : s.shifts ≤ most_equations * span z → check_state_of (held_state z s) rows_held relations_held ≡ 0
    unfolding held_state with_equations_of row_store_for equations
    sound-passes few =
        (check_state-zero (held_state z s) rows_held relations_held).1
        (record {
          sizes = (sizes_held-iff (held_state z s)).1 (sizes-held few);
          lengths = stored.lengths;
          numbers = stored.numbers;
          pivots = subst (λ l. T (pivots_right_of l (rows_of (length s.rows) rows_held) (length s.order))) (sym order-held)
              (subst (λ l. T (pivots_right_of s.order l (length s.order))) (sym rows-held)
              ((pivots-right s.order s.rows (length s.order) (le_refl (length s.order))).1 sound.triangular.pivots));
        })
      where
        freed : List ℤ
        freed = replicate ((n - length s.rows) * row_length) (pos 0)

        stored : StoresRight (with_equations_of (length s.rows) z) (length s.relations) rows_held relations_held
        stored =
            (check_stores-zero (with_equations_of (length s.rows) z) (length s.relations) rows_held relations_held).0
            (ap (λ l. check_stores_of (with_equations_of (length s.rows) z) (length s.relations) l relations_held)
            (append_assoc (row_store_of s.rows) freed rest)
            ∙ valid-stores (with_equations_of (length s.rows) z) s.rows s.relations (freed ++ rest) others valid-held)

-- ---- a prepared state

-- It is the start of a run,
pub prepared-start : (z : Sizes) (count : ℕ) (row_store relation_store : List ℤ)
    → state_in_of (prepared z count) row_store relation_store ≡ start (rows_of (equations z) row_store) (relations_of count relation_store)
unfolding state_in_of prepared start the_columns_of
prepared-start z count row_store relation_store = refl

-- and passes the checks.
pub prepared-passes : (z : Sizes) (count : ℕ) (row_store relation_store : List ℤ) → check_stores_of z count row_store relation_store ≡ 0
    → check_state_of (prepared z count) row_store relation_store ≡ 0
unfolding prepared pivots_right_of every
prepared-passes z count row_store relation_store e =
    let passed = (check_stores-zero z count row_store relation_store).0 e in
    (check_state-zero (prepared z count) row_store relation_store).1
    (record {
      sizes = (sizes_held-iff (prepared z count)).1 (record {
        sizes = passed.sizes;
        few-relations = passed.few;
        few-unknowns = zero-le;
        few-rows = zero-le;
        columns = tt;
        unused = tt;
        few-shifts = zero-le;
      });
      lengths = passed.lengths;
      numbers = passed.numbers;
      pivots = tt;
    })
