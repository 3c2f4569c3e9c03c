-- The work stores of an answer are zero before it and zero again after it: what reading a sheet and running on it leave in them.
--
-- Main definitions
--   Used n l d           past the rows and the relations that an accepting run leaves, the stores are zero, and its first n relations are
--                        those of the store l
--
-- Main statements
--   unread-same          a sheet that is refused leaves the stores as they were
--   read-rest            reading a sheet leaves what lies past its rows
--   refused-zero         a run that is refused leaves zeros
--   accepted-used        a run that accepts leaves zeros past its rows and its relations, and the relations that it was given
use Rattle.std.specs.Prelude.{ℕ, suc, ◌+◌, ◌*◌, ◌-◌, ◌≤◌, ◌≡◌, ◌≢◌, Bool, true, false, length, take, replicate, ℤ, pos}
use Rattle.std.proofs.Common.{le_refl, le_of_eq, arith, ◌∙◌, subst, length-append, take_at, drop_at}
use Rattle.std.proofs.Math.Nat.{suc-ne-zero}
use Rattle.std.proofs.Math.Path.{refl, sym, ap}
use Rattle.std.proofs.Math.Bool.{cond}
use mathlib.Core.List.{List, ◌++◌, map, flatten, append-nil, append_assoc}
use Rattle.std.proofs.Math.ListN.{drop, drop_of_length-le}
use Rattle.std.proofs.lemmas.List.{length-replicate, replicate-append-replicate}
use Rattle.rules.specs.Limits.{row_length, relation_length, most_relations, most_equations}
use Rattle.rules.specs.Rows.{Row, Relation}
use Rattle.lists.specs.Everywhere.{All}
use Rattle.lists.specs.Images.{map-take}
use Rattle.lists.specs.Parts.{parts, take-parts}
use Rattle.rules.specs.Elimination.{leading, State, Outcome, done, refused, rank, whole_run_of}
use Rattle.rules.specs.Stores.{Sizes, equations, span, rows_of, relation_of, relations_of, relation_numbers, row_store_of, check_stores_of, StoreRow, Valid}
use Rattle.rules.specs.Stores.{row_need, largest_rows, relation_need, row_store_for, relation_store_of, lengths_right_of}
use Rattle.rules.specs.Layout.{StoreRelation, stores-valid, size-bounds, count_right-iff, length-row_store_of, length-relation_store_of}
use Rattle.rules.specs.Layout.{length-row_store_for, length-relations_of, relations_of-relation_store_of}
use Rattle.rules.specs.Calls.{zeros, call_run, after_check, after_run_of, acceptance, cleared, refusal}
use Rattle.lists.specs.Overwritten.{overwrite, overwrite-paste, drop-overwrite}
use Rattle.rules.specs.Numbers.{Read, got, fault}
use Rattle.rules.specs.Sheets.{Sheet, read_sheet_of}
use Rattle.rules.specs.SheetCalls.{ReadCall, read_call, after_read, filled, unread, read_refusal}
use Rattle.theory.specs.Demands.{Accepted, Ended, seven, eight, nine, ten}
use Rattle.theory.proofs.Demands.{run_ends, diagonal-nonzero, rank-few, output-valid}
use Rattle.theory.proofs.Demands.{relations-listed}
use Rattle.theory.specs.Demands as Demands
use Rattle.runs.specs.Unreported.{UnreportedCall, unreported_call}
use Rattle.reading.specs.Zeros.{length-zeros, take-zeros, drop-zeros, zero-again}
use Rattle.sheets.specs.ReadBack.{read-valid}

-- ---- parts of a store

past-rows : (n : ℕ) (rows store : List ℤ) → length rows ≡ row_need n → drop (n * row_length) (overwrite rows store)
    ≡ drop (n * row_length) store
unfolding row_need
past-rows n rows store e = drop-overwrite (n * row_length) rows store (le_of_eq e)

-- A store whose used part is overwritten by zeros.
zero-overwritten : (n k : ℕ) (store : List ℤ) → n ≤ k → drop n store ≡ drop n (zeros k) → overwrite (zeros n) store ≡ zeros k
unfolding zeros
zero-overwritten n k store h e =
    ap (λ p. overwrite p store) (sym (take-zeros n n (le_refl n)))
    ∙ sym (overwrite-paste store (zeros n) n (le_of_eq (sym (length-zeros n))))
    ∙ zero-again n k store h e

-- The places that dropped rows have freed hold 0 (SCOPE 3.14).
past-left : (n : ℕ) (rows : List Row) (store : List ℤ) (k : ℕ) → length rows ≡ k → k ≤ n → n ≤ most_equations → All StoreRow rows
    → drop (n * row_length) store ≡ drop (n * row_length) (zeros largest_rows)
    → drop (k * row_length) (overwrite (row_store_for n rows) store) ≡ drop (k * row_length) (zeros largest_rows)
unfolding overwrite row_store_for zeros row_need
past-left n rows store k e few small shapes rest =
    ap (drop (k * row_length)) (append_assoc (row_store_of rows) freed (drop (length (row_store_for n rows)) store))
    ∙ drop_at (row_store_of rows) (freed ++ drop (length (row_store_for n rows)) store) (k * row_length)
    (length-row_store_of rows shapes ∙ ap row_need e)
    ∙ ap (λ l. freed ++ l)
    (ap (λ j. drop j store) (length-row_store_for n rows (rw e few) shapes) ∙ rest ∙ drop-zeros (n * row_length) largest_rows (omega arith))
    ∙ replicate-append-replicate ((n - length rows) * row_length) (largest_rows - n * row_length) (pos 0)
    ∙ ap zeros sum
    ∙ sym (drop-zeros (k * row_length) largest_rows (omega arith))
  where
    freed : List ℤ
    freed = replicate ((n - length rows) * row_length) (pos 0)

    sum : (n - length rows) * row_length + (largest_rows - n * row_length) ≡ largest_rows - k * row_length
    sum = omega arith

-- The places behind the relations in use hold 0 (SCOPE 3.13).
past-relations : (es : List Relation) (store : List ℤ) → length es ≤ most_relations → All StoreRelation es → length store ≡ relation_need
    → drop (length es * relation_length) (overwrite (relation_store_of es) store) ≡ drop (length es * relation_length) (zeros relation_need)
unfolding overwrite relation_store_of zeros
past-relations es store few shapes long =
    ap (λ l. drop n (relation_store_of es ++ l)) (drop_of_length-le store {i = length (relation_store_of es)} (omega (arith, whole)))
    ∙ ap (drop n) (append-nil (relation_store_of es))
    ∙ drop_at used (replicate left (pos 0)) n
    (omega (arith, whole, length-append used (replicate left (pos 0)), length-replicate left (pos 0)))
    ∙ ap zeros e
    ∙ sym (drop-zeros n relation_need (omega arith))
  where
    n : ℕ
    n = length es * relation_length

    left : ℕ
    left = (most_relations - length es) * relation_length

    used : List ℤ
    used = flatten (map relation_numbers es)

    whole : length (relation_store_of es) ≡ relation_need
    whole = length-relation_store_of es few shapes

    e : left ≡ relation_need - n
    e = omega arith

-- ---- a sheet that was read, or refused

module _ (bytes : List ℕ) (rows relations : List ℤ) (c : ReadCall) (e : c ≡ read_call bytes rows relations) where
  read_by : (r : Read Sheet) → read_sheet_of bytes ≡ r → c ≡ after_read r rows relations
  unfolding read_call
  read_by r f = e ∙ ap (λ r. after_read r rows relations) f

  by_length : (x : Sheet) (rest : List ℕ) → read_sheet_of bytes ≡ got x rest → (t : Bool) → lengths_right_of (equations x.sizes) rows relations
      ≡ t
      → c ≡ cond t (filled x rows relations) (unread 1 rows relations)
  unfolding after_read
  by_length x rest f t g = read_by (got x rest) f ∙ ap (λ t. cond t (filled x rows relations) (unread 1 rows relations)) g

  pub unread-same : c.result.refusal ≢ 0 → (c.row_store ≡ rows) × (c.relation_store ≡ relations)
  unfolding after_read filled unread
  unread-same h = go (read_sheet_of bytes) refl
    where
      same : (n : ℕ) → c ≡ unread n rows relations → (c.row_store ≡ rows) × (c.relation_store ≡ relations)
      same n g = (ap (λ c. c.row_store) g, ap (λ c. c.relation_store) g)

      go : (r : Read Sheet) → read_sheet_of bytes ≡ r → (c.row_store ≡ rows) × (c.relation_store ≡ relations)
      go (fault n) f = same n (read_by (fault n) f)
      go (got x rest) f = test (lengths_right_of (equations x.sizes) rows relations) refl
        where
          test : (t : Bool) → lengths_right_of (equations x.sizes) rows relations ≡ t → (c.row_store ≡ rows) × (c.relation_store ≡ relations)
          test true g = absurd (h (ap (λ c. c.result.refusal) (by_length x rest f true g)))
          test false g = same 1 (by_length x rest f false g)

  pub read-rest : drop (equations c.result.sizes * row_length) c.row_store ≡ drop (equations c.result.sizes * row_length) rows
  unfolding after_read filled unread read_refusal
  read-rest = go (read_sheet_of bytes) refl
    where
      Rest : ReadCall → Type 0
      Rest c = drop (equations c.result.sizes * row_length) c.row_store ≡ drop (equations c.result.sizes * row_length) rows

      go : (r : Read Sheet) → read_sheet_of bytes ≡ r → Rest c
      go (fault n) f = subst Rest (sym (read_by (fault n) f)) refl
      go (got x rest) f = test (lengths_right_of (equations x.sizes) rows relations) refl
        where
          whole : length (row_store_of x.rows) ≡ row_need (equations x.sizes)
          whole = let v = read-valid bytes x rest f in length-row_store_of x.rows v.row-shapes ∙ ap row_need v.row_count

          test : (t : Bool) → lengths_right_of (equations x.sizes) rows relations ≡ t → Rest c
          test true g = subst Rest (sym (by_length x rest f true g)) (past-rows _ (row_store_of x.rows) rows whole)
          test false g = subst Rest (sym (by_length x rest f false g)) refl

-- ---- a run that accepted, or was refused

pub record Used (count : ℕ) (relations : List ℤ) (d : UnreportedCall) : Type 0 where
  pub few-rows : d.result.rank ≤ most_equations
  pub few : d.result.relations ≤ most_relations
  pub rows-rest : drop (d.result.rank * row_length) d.row_store ≡ drop (d.result.rank * row_length) (zeros largest_rows)
  pub relations-rest : drop (d.result.relations * relation_length) d.relation_store
      ≡ drop (d.result.relations * relation_length) (zeros relation_need)
  pub kept : count ≤ d.result.relations
  pub same : relations_of count d.relation_store ≡ relations_of count relations

-- The first relations of a store.
relations_of-take : (k n : ℕ) (store : List ℤ) → k ≤ n → relations_of k store ≡ take k (relations_of n store)
unfolding relations_of
relations_of-take k n store h =
    ap (map relation_of) (sym (take-parts relation_length n k store h)) ∙ sym (map-take relation_of k (parts relation_length n store))

-- Relations that stand first in a store stay the same where others are put behind them (SCOPE 2.3).
front_same : (k : ℕ) (es given more : List Relation) (store : List ℤ) → es ≡ given ++ more → length given ≡ k → All StoreRelation es
    → (k ≤ length es) × (relations_of k (overwrite (relation_store_of es) store) ≡ given)
unfolding overwrite
front_same k es given more store e long shapes =
    let few : k ≤ length es = omega (arith, long, ap length e, length-append given more) in (
      few,
      relations_of-take k (length es) (overwrite (relation_store_of es) store) few
          ∙ ap (take k) (relations_of-relation_store_of es (drop (length (relation_store_of es)) store) shapes ∙ e) ∙ take_at given more k long,
    )

module _ (z : Sizes) (count : ℕ) (rows relations : List ℤ) (checked : check_stores_of z count rows relations ≡ 0)
    (rest : drop (equations z * row_length) rows ≡ drop (equations z * row_length) (zeros largest_rows))
    (long : length relations ≡ relation_need)
    (d : UnreportedCall) (e : d ≡ unreported_call (call_run leading z count rows relations)) where
  abbrev outcome : Outcome
  outcome = whole_run_of leading (span z) (rows_of (equations z) rows) (relations_of count relations)

  valid : Valid z (rows_of (equations z) rows) (relations_of count relations)
  valid = stores-valid z count rows relations checked

  few-rows : equations z ≤ most_equations
  few-rows = (size-bounds z valid.sizes).few-equations

  ran-by : (o : Outcome) → outcome ≡ o → d ≡ unreported_call (after_run_of leading z o rows relations)
  unfolding call_run after_check
  ran-by o f =
      e ∙ ap (λ n. unreported_call (after_check leading z count rows relations n)) checked
      ∙ ap (λ o. unreported_call (after_run_of leading z o rows relations)) f

  pub refused-zero : d.result.refusal ≢ 0 → (d.row_store ≡ zeros largest_rows) × (d.relation_store ≡ zeros relation_need)
  unfolding after_run_of acceptance cleared row_need
  refused-zero h = go outcome refl (run_ends leading valid)
    where
      zero : (n : ℕ) → outcome ≡ refused n → (d.row_store ≡ zeros largest_rows) × (d.relation_store ≡ zeros relation_need)
      zero n f = (
        ap (λ d. d.row_store) (ran-by (refused n) f) ∙ zero-overwritten (equations z * row_length) largest_rows rows
            (omega (arith, few-rows)) rest,
        ap (λ d. d.relation_store) (ran-by (refused n) f)
            ∙ zero-overwritten relation_need relation_need relations (le_refl relation_need) none,
      )
        where
          none : drop relation_need relations ≡ drop relation_need (zeros relation_need)
          none =
              drop_of_length-le relations {i = relation_need} (le_of_eq long)
              ∙ sym (drop_of_length-le (zeros relation_need) {i = relation_need} (le_of_eq (length-zeros relation_need)))

      go : (o : Outcome) → outcome ≡ o → Ended o → (d.row_store ≡ zeros largest_rows) × (d.relation_store ≡ zeros relation_need)
      go o f (Demands.accepted s) = absurd (h (ap (λ d. d.result.refusal) (ran-by (done s) f)))
      go o f seven = zero 7 f
      go o f eight = zero 8 f
      go o f nine = zero 9 f
      go o f ten = zero 10 f

  pub accepted-used : d.result.refusal ≡ 0 → Used count relations d
  unfolding after_run_of acceptance cleared refusal rank
  accepted-used h = go outcome refl (run_ends leading valid)
    where
      clash : (n : ℕ) → outcome ≡ refused (suc n) → ⊥
      clash n f = suc-ne-zero n (sym (ap (λ d. d.result.refusal) (ran-by (refused (suc n)) f)) ∙ h)

      leaves : (s : State) → outcome ≡ done s → Used count relations (unreported_call (after_run_of leading z (done s) rows relations))
      leaves s f =
          let accepts : Accepted leading z _ _ s = record { valid = valid; accepts = f } in
          let v = output-valid accepts in
          let few = (count_right-iff (length s.relations)).0 v.relation-count in
          let (more, behind, _) = relations-listed accepts in
          let front = front_same count s.relations (relations_of count relations) more relations behind (length-relations_of count relations)
          v.relation-shapes in
          record {
            few-rows = omega (arith, few-rows, rank-few accepts);
            few = few;
            rows-rest = past-left (equations z) s.rows rows (rank s) (diagonal-nonzero accepts).row_count (rank-few accepts) few-rows
                v.row-shapes rest;
            relations-rest = past-relations s.relations relations few v.relation-shapes long;
            kept = front.0;
            same = front.1;
          }

      go : (o : Outcome) → outcome ≡ o → Ended o → Used count relations d
      go o f (Demands.accepted s) = subst (Used count relations) (sym (ran-by (done s) f)) (leaves s f)
      go o f seven = absurd (clash 6 f)
      go o f eight = absurd (clash 7 f)
      go o f nine = absurd (clash 8 f)
      go o f ten = absurd (clash 9 f)
