-- The cases of a step: which rule comes next for the row that is worked on.
--
-- Main statements
--   found_some, found_none     what a search has found, from its answer
--   finished-at               the state is finished if the settled rows are all rows that are left
--   step-zero, step-contradicts   rule 1: a zero row, and one whose left part alone is zero
--   step-met, met-nonzero     rule 2: settled row j meets a nonzero entry, and the entries are not both zero after the exchange
--   narrowed-ready            after which a step may be made as before it
--   room-left, settled-reached   rule 5: the order has room for the new column, and what settling gives
--   step-shift                rule 6
use Prim.Native.Nat.{ℕ, zero, suc, ◌+◌, ◌≤◌, ◌<◌, suc-le-suc}
use Rattle.std.proofs.Common.{zero-lt-suc, le_of_eq, add-one, arith, ◌∙◌, ⊎_elim, le-leb, ltb→lt, nltb→le, lit<, take-suc-set, get_or-take}
use Rattle.std.proofs.Math.Nat.{le_refl}
use Rattle.std.specs.Prelude.{◌≡◌, refl, ◌≢◌, ◌⊎◌, Bool, ◌&&◌, T, ltb, ℤ, take, set}
use Rattle.std.proofs.Math.Path.{sym, ap, ap₂, subst}
use Rattle.std.proofs.Math.Logic.{inl, inr}
use Rattle.std.proofs.Math.Bool.{true≢false, true, false, not, and-false, cond}
use mathlib.Core.List.Memᴰ
use mathlib.Core.List.{List, [], ◌∷◌, ◌++◌, map, Memᴰ}
use Rattle.std.proofs.Math.Option
use Rattle.std.proofs.Math.Option.{Option, none, some}
use Rattle.std.proofs.lemmas.Bool.{lt-leb}
use Rattle.std.proofs.Math.Dec.{leb}
use Rattle.std.proofs.Math.ListN.{length, get_or, length-set}
use Rattle.std.proofs.Math.Seq.{length-take-le}
use Rattle.algebra.specs.Pigeonhole.{Distinct, distinct-length}
use Rattle.algebra.specs.Polynomials.{Polynomial, is_zero_of, is_zero-append}
use Rattle.rules.specs.Limits.{coefficient_count, column_count}
use Rattle.rules.specs.Rows.{Row, zero_left, zero_row, contradicts, entry, leading_block, first_nonzero}
use Rattle.lists.specs.Everywhere.{All}
use Rattle.lists.specs.Places.{member-place}
use Rattle.rules.specs.Stores.{row_of, rows_of, relations_of, relation_need, row_need}
use Rattle.rules.specs.Elimination.{Side, State, Outcome, going, refused, drop_row, settle, multipliers_at}
use Rattle.rules.specs.Elimination.{combine_step_of, eliminate_step_of, shift_step_of, settle_or_shift, meet, work_on, finished, step}
use Rattle.rules.specs.Layout.{block_at, length-rows_of}
use Rattle.lists.specs.Parts.{parts-length}
use Rattle.lists.specs.Padded.{pad_to, pad_to-more}
use Rattle.stores.specs.Flat.{block-at}
use Rattle.working_rows.specs.Found.{found_or, Columns, Columns-at, entries_at, length-entries_at, get_or-entries_at}
use Rattle.reduction.specs.declared.step.Progress.{Progress}
use Rattle.reduction.specs.Progress.{Ready, Reached, state, state_of, outcome_of, answer_of, settled_progress, ready_with}
use Rattle.sides.specs.StoreStates.{kept_same}
use Rattle.reduction.specs.StepLaws.{met_entries}
use Rattle.reduction.specs.Dropping.{freed-none}
use Rattle.reduction.specs.StoreExchange.{numbers_at, narrowed, row-of, narrowed-within, narrowed-state, narrowed-one}

-- ---- what the searches in a row find

FoundAt : List Polynomial → Option ℕ → Type 0
FoundAt ps none = (k : ℕ) → is_zero_of (get_or ps k []) ≡ true
FoundAt ps (some k) = (k < length ps) × (is_zero_of (get_or ps k []) ≡ false)

first_found : (ps : List Polynomial) → FoundAt ps (first_nonzero ps)
unfolding FoundAt first_nonzero is_zero_of
first_found [] = λ k. refl
first_found (p ∷ ps) = cases (is_zero_of p) refl (first_nonzero ps) (first_found ps)
  where
    cases : (t : Bool) → is_zero_of p ≡ t → (o : Option ℕ) → FoundAt ps o → FoundAt (p ∷ ps) (cond t (Option.map suc o) (some 0))
    cases true e none f = λ k. elim k as (λ k. is_zero_of (get_or {A = Polynomial} (p ∷ ps) k []) ≡ true) [
      | zero ↦ e
      | suc k ↦ f k
    ]
    cases true e (some k) f = (suc-le-suc f.0, f.1)
    cases false e o f = (zero-lt-suc (length ps), e)

pub found_some : (n j : ℕ) (o : Option ℕ) → found_or n o ≡ j → j < n → o ≡ some j
unfolding found_or
found_some n j none e h = absurd (omega arith)
found_some n j (some k) e h = ap some e

pub found_none : (n : ℕ) (ps : List Polynomial) → length ps ≤ n → n ≤ found_or n (first_nonzero ps) → first_nonzero ps ≡ none
unfolding found_or FoundAt
found_none n ps h g = cases (first_nonzero ps) (first_found ps) g
  where
    cases : (o : Option ℕ) → FoundAt ps o → n ≤ found_or n o → o ≡ none
    cases none f g = refl
    cases (some k) f g = absurd (omega (arith, f.0))

-- A new number behind different ones.
distinct_more : (l : List ℕ) (c : ℕ) → Distinct l → ¬ Memᴰ c l → Distinct (l ++ (c ∷ []))
distinct_more [] c d n = (Memᴰ.not-nil, tt)
distinct_more (x ∷ l) c d n = (apart l d.0 (λ e. n (Memᴰ.head (sym e))), distinct_more l c d.1 (λ m. n (Memᴰ.tail m)))
  where
    apart : (l : List ℕ) → ¬ Memᴰ x l → x ≢ c → ¬ Memᴰ x (l ++ (c ∷ []))
    apart [] n m q = ⊎_elim m Memᴰ.not-nil (Memᴰ.cases_cons q)
    apart (y ∷ l) n m q = ⊎_elim (λ e. n (Memᴰ.head e)) (apart l (λ r. n (Memᴰ.tail r)) m) (Memᴰ.cases_cons q)

columns-set : (order : List ℕ) (i c : ℕ) → Columns order → c < column_count → Columns (set order i c)
unfolding Columns All
columns-set [] i c a h = tt
columns-set (x ∷ order) zero c a h = (h, a.1)
columns-set (x ∷ order) (suc i) c a h = (a.0, columns-set order i c a.1 h)

not-both-zero : (a b : Polynomial) → (is_zero_of a ≡ false) ⊎ (is_zero_of b ≡ false) → T (not (is_zero_of (a ++ b)))
not-both-zero a b (inl z) = subst (λ t. T (not t)) (sym (is_zero-append a b ∙ ap (λ t. t && is_zero_of b) z)) tt
not-both-zero a b (inr z) = subst (λ t. T (not t)) (sym (is_zero-append a b ∙ ap (λ t. is_zero_of a && t) z ∙ and-false (is_zero_of a))) tt

-- ---- the cases

module _ (side : Side) {rows relations : List ℤ} {p : Progress} (ready : Ready rows relations p) where
  abbrev s : State
  s = state_of rows relations p

  abbrev w : ℕ
  w = p.settled

  abbrev row : Row
  row = row_of (numbers_at rows w)

  abbrev entries : List Polynomial
  entries = entries_at row p.order w

  enough : w ≤ length p.order
  enough = omega arith

  order-length : length s.order ≡ w
  unfolding state_of
  order-length = length-take-le w p.order enough

  abbrev n : ℕ
  n = p.rows

  rows-length : length s.rows ≡ n
  unfolding state_of
  rows-length = length-rows_of n rows

  pub finished-at : finished s ≡ leb n w
  unfolding finished
  finished-at = rw (order-length, rows-length) (go (ltb w n) (ltb→lt w n) (nltb→le w n))
    where
      go : (t : Bool) → (T t → w < n) → (T (not t) → n ≤ w) → not t ≡ leb n w
      go true f g = sym (lt-leb n w (f tt))
      go false f g = sym (le-leb n w (g tt))

  module _ (inside : w < n) where
    pub narrowed-ready : (j : ℕ) → j < w → Ready (narrowed rows w j) relations p
    narrowed-ready j h = ready_with ready (narrowed-within n rows ready.rows-within w j inside (omega arith)) ready.listing

    -- What comes where the row is not zero.
    abbrev rest : Outcome
    rest = meet side s w (first_nonzero entries)

    step_is : step side s ≡ cond (zero_row row) (going (drop_row s w)) (cond (contradicts row) (refused 10) rest)
    unfolding step work_on state_of
    step_is =
        rw order-length
        (ap (λ r. cond (zero_row r) (going (drop_row s w))
        (cond (contradicts r) (refused 10) (meet side s w (first_nonzero (map (entry r) (take w p.order))))))
        (row-of rows relations p w inside))

    -- By the two parts of the row.
    step-parts : (left right : Bool) → zero_left row ≡ left → is_zero_of row.right ≡ right
        → step side s ≡ cond (left && right) (going (drop_row s w)) (cond (left && not right) (refused 10) rest)
    unfolding zero_row contradicts
    step-parts left right e f =
        step_is ∙ ap₂ (λ t u. cond (t && u) (going (drop_row s w)) (cond (t && not u) (refused 10) rest)) e f

    pub step-zero : zero_left row ≡ true → is_zero_of row.right ≡ true → step side s ≡ going (drop_row s w)
    step-zero e f = step-parts true true e f

    pub step-contradicts : zero_left row ≡ true → is_zero_of row.right ≡ false → step side s ≡ refused 10
    step-contradicts e f = step-parts true false e f

    module _ (nonzero : zero_left row ≡ false) where
      step-meet : step side s ≡ meet side s w (first_nonzero entries)
      step-meet = step-parts false (is_zero_of row.right) nonzero refl

      pub step-met : (j : ℕ) → found_or w (first_nonzero entries) ≡ j → j < w
          → let e = state_of (narrowed rows w j) relations p in step side s ≡ combine_step_of side e w j (multipliers_at e w j)
      unfolding meet eliminate_step_of
      step-met j e h =
          step-meet ∙ ap (meet side s w) (found_some w j (first_nonzero entries) e h)
          ∙ ap (λ e. combine_step_of side e w j (multipliers_at e w j))
          (narrowed-state rows relations p ready.rows-within w j inside (omega arith))

      -- The entry of the row that is worked on stands in one of the two rows after the exchange.
      pub met-nonzero : (j : ℕ) → found_or w (first_nonzero entries) ≡ j → j < w → T (not (is_zero_of (met_entries (narrowed rows w j) p j)))
      unfolding FoundAt
      met-nonzero j e h =
          not-both-zero (entry (row_of (numbers_at (narrowed rows w j) j)) column) (entry (row_of (numbers_at (narrowed rows w j) w)) column)
          (⊎_elim (λ f. inl (same f)) (λ f. inr (same f))
          (narrowed-one n rows ready.rows-within w j inside (omega arith) (λ f. omega arith)))
        where
          column : ℕ
          column = get_or p.order j 0

          entry-nonzero : is_zero_of (entry row column) ≡ false
          entry-nonzero =
              sym (ap is_zero_of (get_or-entries_at row p.order w j enough h))
              ∙ (subst (FoundAt entries) (found_some w j (first_nonzero entries) e h) (first_found entries)).1

          same : {r : Row} → r ≡ row → is_zero_of (entry r column) ≡ false
          same f = ap (λ r. is_zero_of (entry r column)) f ∙ entry-nonzero

      module _ (none-met : w ≤ found_or w (first_nonzero entries)) where
        step-none : step side s ≡ settle_or_shift s w (first_nonzero (leading_block row))
        unfolding meet
        step-none =
            step-meet
            ∙ ap (meet side s w) (found_none w entries (le_of_eq (length-entries_at row p.order w enough)) none-met)
            ∙ ap (λ r. settle_or_shift s w (first_nonzero (leading_block r))) (row-of rows relations p w inside)

        step-settle : (c : ℕ) → found_or column_count (first_nonzero (leading_block row)) ≡ c → c < column_count
            → step side s ≡ going (settle s c)
        unfolding settle_or_shift
        step-settle c e h = step-none ∙ ap (settle_or_shift s w) (found_some column_count c (first_nonzero (leading_block row)) e h)

        pub step-shift : column_count ≤ found_or column_count (first_nonzero (leading_block row)) → step side s ≡ shift_step_of s w
        unfolding settle_or_shift leading_block
        step-shift h = step-none ∙ ap (settle_or_shift s w) (found_none column_count (leading_block row) (le_of_eq columns-four) h)
          where
            columns-four : length (leading_block row) ≡ column_count
            columns-four =
                let l = numbers_at rows w in
                ap length (block-at l 0 (lit< tt)) ∙ parts-length coefficient_count column_count (block_at l 0)

        -- The row has no entry at the settled columns, so its first column is a new one, and the order has room for it.
        order-size : length (take w p.order) ≡ w
        order-size = length-take-le w p.order enough

        new-column : (c : ℕ) → found_or column_count (first_nonzero (leading_block row)) ≡ c → c < column_count
            → ¬ Memᴰ c (take w p.order)
        unfolding FoundAt entry
        new-column c e h m =
            let (k, b, f) = member-place 0 m in
            let inside-order = subst (λ j. k < j) order-size b in
            let column = sym (get_or-take w p.order k 0 inside-order) ∙ f in
            let met = get_or-entries_at row p.order w k enough inside-order ∙ ap (entry row) column in
            let nonzero = (subst (FoundAt (leading_block row)) (found_some column_count c (first_nonzero (leading_block row)) e h)
            (first_found (leading_block row))).1 in
            let zero-entry = subst (FoundAt entries)
            (found_none w entries (le_of_eq (length-entries_at row p.order w enough)) none-met) (first_found entries) k in
            true≢false (sym zero-entry ∙ ap is_zero_of met ∙ nonzero)

        pub room-left : (c : ℕ) → found_or column_count (first_nonzero (leading_block row)) ≡ c → c < column_count → w < column_count
        room-left c e h =
            let taken = take w p.order in
            omega (
              arith,
              order-size,
              distinct-length column_count (c ∷ taken) (new-column c e h, ready.different)
                  (λ x m. ⊎_elim (λ f. omega (arith, f)) (λ q. below x q) (Memᴰ.cases_cons m)),
            )
          where
            below : (x : ℕ) → Memᴰ x (take w p.order) → x < column_count
            below x m =
                let (k, b, f) = member-place 0 m in
                let inside-order = subst (λ j. k < j) order-size b in
                subst (λ j. j < column_count) (sym (get_or-take w p.order k 0 inside-order) ∙ f)
                (Columns-at p.order ready.columns k)

        pub settled-reached : (c : ℕ) → found_or column_count (first_nonzero (leading_block row)) ≡ c → c < column_count
            → Reached n rows relations rows relations (p.shifts + 1) (answer_of 0 (settled_progress p c)) (step side s)
        unfolding outcome_of settle state_of
        settled-reached c e h =
            record {
              outcome =
                  ap (λ o. going (state (rows_of n rows) (relations_of p.count relations) o p.shifts)) order
                  ∙ sym (step-settle c e h);
              fewer = le_refl n;
              freed = freed-none n rows;
              rows-kept = kept_same (row_need n) rows;
              relations-kept = kept_same relation_need relations;
              few-shifts = omega arith;
              ready =
                  record {
                    few-rows = ready.few-rows;
                    rows-within = ready.rows-within;
                    listing = ready.listing;
                    settled = omega arith;
                    few-settled = omega (arith, room);
                    different = rw order (distinct_more (take w p.order) c ready.different (new-column c e h));
                    four = length-set p.order w c ∙ ready.four;
                    columns = columns-set p.order w c ready.columns h;
                    padded = padded ∙ ap (pad_to column_count 0) (sym order);
                  };
            }
          where
            room : w < column_count
            room = room-left c e h

            order : take (w + 1) (set p.order w c) ≡ take w p.order ++ (c ∷ [])
            order = rw add-one (take-suc-set p.order w c (omega (arith, room, ready.four)))

            padded : set p.order w c ≡ pad_to column_count 0 (take w p.order ++ (c ∷ []))
            padded =
                ap₂ (λ l k. set l k c) ready.padded (sym order-size)
                ∙ pad_to-more column_count 0 (take w p.order) c (rw order-size room)
