-- Successive runs on stores: from a prepared state, any division of the budget gives the same end, and the whole run is the run to
-- the end (SCOPE 11.5, 11.6).
--
-- Main statements
--   call-prepared            what a call on a prepared state does
--   left-passes              a state that such a call leaves passes the checks
--   calls-add                the calls of a and b are the call of a + b
--   calls-total, calls-divided   only the sum of the budgets counts
--   calls-whole, parts_whole   the whole run is the run with enough steps, at once or in parts
use Prim.Native.Nat.{ℕ, zero, suc, ◌+◌, ◌*◌, ◌-◌, ◌≤◌, zero-le}
use Rattle.std.proofs.Common.{add-zero, add_assoc, arith, ◌∙◌, subst, drop_at}
use Rattle.std.specs.Prelude.{◌≡◌, refl, ◌≢◌, Bool, ℤ, pos, length, drop, replicate}
use Rattle.std.proofs.Math.Path.{sym, ap, ap₂}
use Rattle.std.proofs.Math.Bool.{true, false}
use mathlib.Core.List.{List, [], ◌∷◌, ◌++◌, append_assoc, flatten}
use Rattle.std.proofs.lemmas.List.{length-replicate, replicate-append-replicate}
use Rattle.lists.specs.Everywhere.{All}
use Rattle.lists.specs.Overwritten.{overwrite}
use Rattle.lists.specs.Totals.{total}
use Rattle.rules.specs.Limits.{most_relations, row_length}
use Rattle.rules.specs.Rows.{Row, Relation}
use Rattle.rules.specs.Elimination.{State, start, Outcome, going, done, refused, leading, enough, whole_run_of}
use Rattle.rules.specs.Stores.{Sizes, equations, with_equations_of, span, rows_of, relations_of, row_need, relation_need, row_store_of, row_store_for}
use Rattle.rules.specs.Stores.{relation_store_of, check_stores_of, StoreRow}
use Rattle.rules.specs.Layout.{stores-valid, length-row_store_of, length-row_store_for, length-relation_store_of, count_right-iff}
use Rattle.rules.specs.Calls.{Result, refusal, acceptance, zeros, after_run_of, after_check, call_run, cleared}
use Rattle.theory.proofs.Steps.{chain_length}
use Rattle.theory.proofs.Ending.{leading_run-ends}
use Rattle.steps.specs.Budgets.{Walk, steps, Led, Walked, used-up, at-end, stopped, led-chain, led-further, row-of, continued}
use Rattle.steps.proofs.Budgets.{walked}
use Rattle.steps.specs.Budgets.{refusal-number}
use Rattle.steps.specs.Budgets.{later}
use Rattle.steps.proofs.Budgets.{steps-add, whole_run, whole-more}
use Rattle.steps.specs.HeldCalls.{no_state_of, state_in_of, held_state, prepared, StepsCall, moved_to, stopped_by_of, after_steps}
use Rattle.steps.specs.HeldCalls.{after_state_check, steps_call, check_state_of}
use Rattle.steps.specs.SoundStates.{Sound, sound-chain, shifts-chain, state-held, sound-passes, prepared-passes}
use Rattle.steps.specs.BudgetParts.{added_steps, call_continued, calls_in_parts, unless_refused, whole_call}

-- ---- one call after another

refused-stays : (budget : ℕ) (c : StepsCall) (n : ℕ) → n ≢ 0 → unless_refused budget c n ≡ c
unfolding unless_refused
refused-stays budget c zero h = absurd (h refl)
refused-stays budget c (suc n) h = refl

-- ---- what the stores hold after two runs

-- A front of the same length takes the place of another.
overwrite-over : (part before store : List ℤ) → length part ≡ length before → overwrite part (overwrite before store) ≡ overwrite part store
unfolding overwrite
overwrite-over part before store e =
    ap (λ l. part ++ l) (drop_at before (drop (length before) store) (length part) (sym e) ∙ ap (λ n. drop n store) (sym e))

-- Rows that take the place of as many rows or more, in a store with freed places behind them.
rows-over : (n : ℕ) (rows others : List Row) (store : List ℤ) → length rows ≤ n → length others ≤ length rows → All StoreRow rows
    → All StoreRow others
    → overwrite (row_store_for (length rows) others) (overwrite (row_store_for n rows) store) ≡ overwrite (row_store_for n others) store
unfolding overwrite row_store_for row_need
rows-over n rows others store few fewer shapes new =
    ap (λ k. row_store_for (length rows) others ++ drop k (row_store_for n rows ++ drop (length (row_store_for n rows)) store))
    (length-row_store_for (length rows) others fewer new)
    ∙ ap (λ l. row_store_for (length rows) others ++ l)
    (ap (drop (row_need (length rows))) (append_assoc (row_store_of rows) (places (n - length rows)) rest)
    ∙ drop_at (row_store_of rows) (places (n - length rows) ++ rest) (row_need (length rows)) (length-row_store_of rows shapes))
    ∙ append_assoc (row_store_of others) (places (length rows - length others)) (places (n - length rows) ++ rest)
    ∙ ap (λ l. row_store_of others ++ l)
    (sym (append_assoc (places (length rows - length others)) (places (n - length rows)) rest)
    ∙ ap (λ l. l ++ rest)
    (replicate-append-replicate ((length rows - length others) * row_length) ((n - length rows) * row_length) (pos 0)
    ∙ ap (λ k. replicate k (pos 0)) sum))
    ∙ sym (append_assoc (row_store_of others) (places (n - length others)) rest)
    ∙ ap (λ k. row_store_for n others ++ drop k store)
    (length-row_store_for n rows few shapes ∙ sym (length-row_store_for n others (omega arith) new))
  where
    places : ℕ → List ℤ
    places k = replicate (k * row_length) (pos 0)

    rest : List ℤ
    rest = drop (length (row_store_for n rows)) store

    sum : (length rows - length others) * row_length + (n - length rows) * row_length ≡ (n - length others) * row_length
    sum = omega arith

-- A store for k rows with none of them.
no_rows : (k : ℕ) → zeros (row_need k) ≡ row_store_for k []
unfolding zeros row_need row_store_for row_store_of flatten
no_rows k = let e : k ≡ k - 0 = omega arith in ap (λ i. replicate (i * row_length) (pos 0)) e

relations-over : (relations others : List Relation) (store : List ℤ) → length relations ≤ most_relations → length others ≤ most_relations
    → All (λ e. StoreRow e.row) relations → All (λ e. StoreRow e.row) others
    → overwrite (relation_store_of others) (overwrite (relation_store_of relations) store) ≡ overwrite (relation_store_of others) store
relations-over relations others store few less shapes new =
    overwrite-over (relation_store_of others) (relation_store_of relations) store
    (length-relation_store_of others less new ∙ sym (length-relation_store_of relations few shapes))

after-whole : (z : Sizes) (n : ℕ) (o : Outcome) (row_store relation_store : List ℤ) → ((v : State) → o ≢ going v)
    → whole_call (after_steps z n o row_store relation_store) ≡ after_run_of leading z o row_store relation_store
unfolding whole_call after_steps moved_to stopped_by_of after_run_of cleared
after-whole z n (going v) row_store relation_store ends = absurd (ends v refl)
after-whole z n (done v) row_store relation_store ends = refl
after-whole z n (refused i) row_store relation_store ends = refl

-- ---- from a prepared state

module _ (z : Sizes) (count : ℕ) (row_store relation_store : List ℤ) (passed : check_stores_of z count row_store relation_store ≡ 0) where
  abbrev begun : State
  begun = start (rows_of (equations z) row_store) (relations_of count relation_store)

  abbrev after : Walk → StepsCall
  after w = after_steps z w.taken w.outcome row_store relation_store

  -- What a call on a prepared state does.
  pub call-prepared : (k : ℕ) → steps_call k (prepared z count) row_store relation_store ≡ after (steps leading k begun)
  unfolding steps_call after_state_check prepared state_in_of start
  call-prepared k = ap (after_state_check k (prepared z count) row_store relation_store) (prepared-passes z count row_store relation_store passed)

  sound-at : {k : ℕ} {s : State} → Led leading begun k s → Sound z s
  sound-at l = sound-chain (stores-valid z count row_store relation_store passed) (led-chain l)

  -- The state v after n steps, with what is left in the stores; f and r are what the call reports besides.
  module _ (n : ℕ) (v : State) (l : Led leading begun n v) (f : Bool) (r : Result) where
    abbrev call : StepsCall
    call = moved_to z n f r v row_store relation_store

    abbrev left : Sizes
    left = with_equations_of (length v.rows) z

    few : (s : State) → Sound z s → length s.relations ≤ most_relations
    few s sound = (count_right-iff (length s.relations)).0 sound.valid.relation-count

    next-moved : {k : ℕ} (s : State) → Led leading v k s → (t : ℕ) (g : Bool) (q : Result)
        → added_steps n (moved_to left t g q s call.row_store call.relation_store) ≡ moved_to z (n + t) g q s row_store relation_store
    unfolding added_steps moved_to held_state with_equations_of equations
    next-moved s m t g q =
        let sound = sound-at (led-further l m) in
        let first = sound-at l in
        ap₂ (λ a b. record {
          result = record { steps = n + t; finished = g; state = held_state z s; run = q };
          row_store = a;
          relation_store = b;
        })
        (rows-over (equations z) v.rows s.rows row_store first.few-rows (chain_length (led-chain m))
        first.valid.row-shapes sound.valid.row-shapes)
        (relations-over v.relations s.relations relation_store (few v first) (few s sound)
        first.valid.relation-shapes sound.valid.relation-shapes)

    next-stopped : (t i : ℕ)
        → added_steps n (stopped_by_of left t i call.row_store call.relation_store) ≡ stopped_by_of z (n + t) i row_store relation_store
    unfolding added_steps stopped_by_of moved_to with_equations_of equations All
    next-stopped t i =
        let first = sound-at l in
        ap₂ (λ a b. record {
          result = record { steps = n + t; finished = false; state = no_state_of; run = refusal i };
          row_store = a;
          relation_store = b;
        }) rows-cleared
        (overwrite-over (zeros relation_need) (relation_store_of v.relations) relation_store
        (length-replicate relation_need (pos 0) ∙ sym (length-relation_store_of v.relations (few v first) first.valid.relation-shapes)))
      where
        rows-cleared : overwrite (zeros (row_need (length v.rows))) (overwrite (row_store_for (equations z) v.rows) row_store)
            ≡ overwrite (zeros (row_need (equations z))) row_store
        rows-cleared =
            ap (λ l. overwrite l (overwrite (row_store_for (equations z) v.rows) row_store)) (no_rows (length v.rows))
            ∙ rows-over (equations z) v.rows [] row_store (sound-at l).few-rows zero-le (sound-at l).valid.row-shapes tt
            ∙ ap (λ l. overwrite l row_store) (sym (no_rows (equations z)))

    next-after : (b : ℕ) {w : Walk} → Walked leading v b w
        → added_steps n (after_steps left w.taken w.outcome call.row_store call.relation_store)
        ≡ after_steps z (n + w.taken) w.outcome row_store relation_store
    unfolding after_steps with_equations_of span
    next-after b (used-up {v = s} m e) = next-moved s m b false (refusal 0)
    next-after b (at-end {j} {v = s} h m e) = next-moved s m j true (acceptance leading (span z) s)
    next-after b (stopped {j} {n = i} h m e g) = next-stopped j i

    -- What it leaves passes the checks of the next call,
    moved_passes : check_state_of (held_state z v) call.row_store call.relation_store ≡ 0
    unfolding moved_to overwrite
    moved_passes =
        sound-passes z v (sound-at l) (equations z) (drop (length (row_store_for (equations z) v.rows)) row_store)
        (drop (length (relation_store_of v.relations)) relation_store)
        (shifts-chain (stores-valid z count row_store relation_store passed) (led-chain l))

    -- which takes the steps from there.
    next-call : (b : ℕ) → steps_call b (held_state z v) call.row_store call.relation_store
        ≡ after_steps left (steps leading b v).taken (steps leading b v).outcome call.row_store call.relation_store
    unfolding steps_call after_state_check moved_to overwrite held_state
    next-call b =
        ap (after_state_check b (held_state z v) call.row_store call.relation_store) moved_passes
        ∙ ap (λ s. after_steps left (steps leading b s).taken (steps leading b s).outcome call.row_store call.relation_store)
        (state-held z v (sound-at l) (equations z) (drop (length (row_store_for (equations z) v.rows)) row_store)
        (drop (length (relation_store_of v.relations)) relation_store))

    further : (b : ℕ) → added_steps n (steps_call b (held_state z v) call.row_store call.relation_store)
        ≡ after (later n (steps leading b v))
    unfolding later
    further b = ap (added_steps n) (next-call b) ∙ next-after b (walked leading b v)

  after-passes : (k : ℕ) {w : Walk} → Walked leading begun k w → (after w).result.run.refusal ≡ 0
      → check_state_of (after w).result.state (after w).row_store (after w).relation_store ≡ 0
  unfolding after_steps moved_to stopped_by_of refusal
  after-passes k (used-up {v} l e) f = moved_passes k v l false (refusal 0)
  after-passes k (at-end {j} {v} h l e) f = moved_passes j v l true (acceptance leading (span z) v)
  after-passes k (stopped {j} {n = i} {u} h l e g) f = absurd (refusal-number leading u i (row-of u e) g f)

  continue-after : (a b : ℕ) {w : Walk} → Walked leading begun a w → call_continued b (after w) ≡ after (continued leading b w)
  unfolding call_continued unless_refused after_steps moved_to stopped_by_of acceptance refusal continued
  continue-after a b (used-up {v} l e) = further a v l false (refusal 0) b
  continue-after a b (at-end {j} {v} h l e) = further j v l true (acceptance leading (span z) v) b
  continue-after a b (stopped {j} {n = i} {u} h l e f) =
      refused-stays b (stopped_by_of z j i row_store relation_store) i (refusal-number leading u i (row-of u e) f)

  -- Every state that a call from a prepared state leaves passes the checks, unless it is refused (SCOPE 11.25).
  pub left-passes : (k : ℕ) → let c = steps_call k (prepared z count) row_store relation_store in
      c.result.run.refusal ≡ 0 → check_state_of c.result.state c.row_store c.relation_store ≡ 0
  left-passes k =
      subst (λ c. c.result.run.refusal ≡ 0 → check_state_of c.result.state c.row_store c.relation_store ≡ 0)
      (sym (call-prepared k)) (after-passes k (walked leading k begun))

  -- The calls of a and b are the call of a + b.
  pub calls-add : (a b : ℕ)
      → call_continued b (steps_call a (prepared z count) row_store relation_store)
      ≡ steps_call (a + b) (prepared z count) row_store relation_store
  calls-add a b =
      ap (call_continued b) (call-prepared a) ∙ continue-after a b (walked leading a begun)
      ∙ sym (call-prepared (a + b) ∙ ap after (steps-add leading a b begun))

  -- Only the sum of the budgets counts,
  pub calls-total : (ks : List ℕ) (a : ℕ) → calls_in_parts ks (steps_call a (prepared z count) row_store relation_store)
      ≡ steps_call (a + total ks) (prepared z count) row_store relation_store
  unfolding calls_in_parts total
  calls-total [] a = ap (λ n. steps_call n (prepared z count) row_store relation_store) (sym (add-zero a))
  calls-total (k ∷ ks) a =
      ap (calls_in_parts ks) (calls-add a k) ∙ calls-total ks (a + k)
      ∙ ap (λ n. steps_call n (prepared z count) row_store relation_store) (add_assoc a k (total ks))

  -- however it is divided.
  pub calls-divided : (ks js : List ℕ) → total ks ≡ total js
      → calls_in_parts ks (steps_call 0 (prepared z count) row_store relation_store)
      ≡ calls_in_parts js (steps_call 0 (prepared z count) row_store relation_store)
  calls-divided ks js e =
      calls-total ks 0 ∙ ap (λ n. steps_call (0 + n) (prepared z count) row_store relation_store) e ∙ sym (calls-total js 0)

  -- The whole run is the run with enough steps or more, and so are runs whose budgets add up to so many.
  pub calls-whole : (k : ℕ) → enough (rows_of (equations z) row_store) ≤ k
      → whole_call (steps_call k (prepared z count) row_store relation_store) ≡ call_run leading z count row_store relation_store
  unfolding call_run after_check whole_run_of
  calls-whole k h =
      ap whole_call (call-prepared k ∙ ap after (whole-more rows relations shapes k h))
      ∙ after-whole z w.taken w.outcome row_store relation_store ends
      ∙ ap (λ o. after_run_of leading z o row_store relation_store) (sym (whole_run rows relations))
      ∙ ap (after_check leading z count row_store relation_store) (sym passed)
    where
      rows : List Row
      rows = rows_of (equations z) row_store

      relations : List Relation
      relations = relations_of count relation_store

      shapes : All StoreRow rows
      shapes = (stores-valid z count row_store relation_store passed).row-shapes

      w : Walk
      w = steps leading (enough rows) begun

      ends : (v : State) → w.outcome ≢ going v
      ends v e = leading_run-ends rows relations v shapes (whole_run rows relations ∙ e)

  pub parts_whole : (ks : List ℕ) → enough (rows_of (equations z) row_store) ≤ total ks
      → whole_call (calls_in_parts ks (steps_call 0 (prepared z count) row_store relation_store)) ≡ call_run leading z count row_store relation_store
  parts_whole ks h = ap whole_call (calls-total ks 0) ∙ calls-whole (0 + total ks) (omega (arith, h))
