-- The answer to one sheet, as a call on a lent byte store, and how it is made: the sheet is read into stores, the leading-side
-- run works on them, and the result is written.
--
-- Main definitions
--   AnswerCall, answer_call bytes store    what the call returns and leaves in the lent store
--   RightAnswer          the answers that there are: a sheet of at most 65,536 bytes, or a refusal from 1 to 10
--
-- Main statements
--   answer-right         every sheet's answer is one of those
--   answer_call-answer    the call leaves the answer of `rules`, unless it says 1 of a store of less than 65,536 bytes
--   answer_call-none      a refusal leaves the store as it was
--   order-after          the column order of a run that accepts has different columns of 1..m
--   read-refused, run-refused, run-written   the answer, by what reading and running on stores give
--   read-checked         the stores that a sheet was read into pass the checks of a run
--   answer-written       the writer, lent at most 65,536 bytes of the store, leaves in it what the whole call leaves
--   call-unread, call-refused, call-written  the whole call, by what the three calls on stores gave
--   call-checked-read, call-checked-run      what was read, and what an accepting run leaves, passes the checks of the next call
use Rattle.std.specs.Prelude.{ℕ, zero, suc, min, ◌≤◌, ◌<◌, ◌≡◌, ◌≢◌, ◌⊎◌, Bool, true, false, not, T, leb, eqb, take, drop, get_or}
use Rattle.std.proofs.Common.{Result, Ok, Err, suc-le-suc, ◌∙◌, inl, inr, ⊎_elim, le-leb, leb→le, le→leb, eqb→eq, take-append-drop, take_at, length-take-le}
use Rattle.std.proofs.Math.Nat.{suc_inj, suc-ne-zero}
use native.Mathlib.Omega.{arith}
use Rattle.std.proofs.Math.Path.{refl, sym, ap, ap₂, subst}
use Rattle.std.proofs.Math.Bool.{cond}
use mathlib.Core.List.{List, [], ◌∷◌, ◌++◌, map, append_assoc, Memᴰ}
use Rattle.std.proofs.lemmas.Bool.{lt-leb}
use Rattle.std.proofs.Math.Dec.{nleb→lt, not_T}
use Rattle.std.proofs.Math.ListN.{length}
use Rattle.std.proofs.lemmas.List.{drop-append-le}
use Rattle.std.proofs.Math.IntN.{ℤ}
use Rattle.algebra.specs.Pigeonhole.{Distinct}
use Rattle.lists.specs.Tests.{cond-passed, T-or}
use Rattle.rules.specs.Elimination.{leading, State, Outcome, done, refused, rank, whole_run_of, leading_run_of}
use Rattle.rules.specs.Stores.{Sizes, equations, span, row_store_of, relation_store_of, lengths_right_of, check_stores_of, Valid}
use Rattle.rules.specs.Stores.{with_equations_of, row_store_for, row_need, largest_rows, relation_need}
use Rattle.rules.specs.Layout.{valid-stores, size-bounds, lengths_right-iff, rows_of-row_store_of, relations_of-relation_store_of}
use Rattle.rules.specs.Calls.{call_run, after_check, after_run_of, acceptance, reported_order, cleared, refusal}
use Rattle.lists.specs.Overwritten.{overwrite, overwrite-twice}
use Rattle.rules.specs.Numbers.{Read, got, fault}
use Rattle.rules.specs.Sheets.{Sheet, contains, read_sheet_of, write_sheet_of}
use Rattle.rules.specs.SheetCalls.{ReadCall, read_call, after_read, filled, unread, read_refusal, different_columns_of, WriteCall, written}
use Rattle.rules.specs.SheetCalls.{unwritten}
use Rattle.rules.specs.SheetCalls.{check_write_of, write_call}
use Rattle.rules.specs.Batch.{most_bytes, Answer, accepted, refused_with, sized, answer_run, answer_read, answer_sheet}
use Rattle.theory.specs.Demands.{Accepted, Ended, seven, eight, nine, ten}
use Rattle.theory.proofs.Demands.{run_ends, output-valid, diagonal-nonzero}
use Rattle.theory.specs.Demands as Demands
use Rattle.theory.specs.Settled.{Diagonal}
use Rattle.sheets.specs.WrittenOrder.{OrderRight, different-cons}
use Rattle.sheets.specs.ReadBack.{SheetRight, read-valid, sheet-read-written}
use Rattle.sheets.specs.CallsReadBack.{read-call-write, read-write-call}
use Rattle.runs.specs.Unreported.{UnreportedCall, unreported_in, unreported_call}
use Rattle.refusals.specs.declared.Refusal.{Refusal}
use Rattle.refusals.specs.Refusals.{number_of}
use Rattle.answers.specs.declared.AnswerResult as declared
use Rattle.answers.specs.Faults.{Numbered, read, numbered, sheet-numbered}

-- ---- the call

pub record AnswerCall : Type 0 where
  pub refusal : ℕ
  pub length : ℕ
  pub store : List ℕ

-- What the call returned, with the store as it left it.
unfoldable pub call_of : declared.AnswerResult → List ℕ → AnswerCall
call_of r store = record { refusal = r.refusal; length = r.length; store = store }

-- The same of a length or a refusal.
abbrev pub call_in : Result ℕ Refusal → List ℕ → AnswerCall
call_in (Ok n) store = record { refusal = 0; length = n; store = store }
call_in (Err r) store = record { refusal = number_of r; length = 0; store = store }

-- A refusal has its number and the length 0, and the lent store is unchanged (SCOPE 5.31).
unfoldable pub unanswered : ℕ → List ℕ → AnswerCall
unanswered n store = record { refusal = n; length = 0; store = store }

-- The sheet that answers stands at the start of the store, and the bytes past it stay; a store too short for it is
-- refusal 1 (SCOPE 5.31).
unfoldable pub answered : Answer → List ℕ → AnswerCall
unfolding unanswered overwrite
answered (accepted bytes) store =
    let whole : AnswerCall = record { refusal = 0; length = length bytes; store = overwrite bytes store } in
    cond (leb (length bytes) (length store)) whole (unanswered 1 store)
answered (refused_with n) store = unanswered n store

unfoldable pub answer_call : List ℕ → List ℕ → AnswerCall
unfolding answered answer_sheet
answer_call bytes store = answered (answer_sheet bytes) store

-- ---- the answers that there are

pub data RightAnswer : Answer → Type 0 where
  right-accepted : {bytes : List ℕ} → length bytes ≤ most_bytes → RightAnswer (accepted bytes)
  right-refused : (n : ℕ) → n ≤ 9 → RightAnswer (refused_with (suc n))

sized-right : (bytes : List ℕ) → RightAnswer (sized bytes)
unfolding sized
sized-right bytes = go (leb (length bytes) most_bytes) (leb→le (length bytes) most_bytes)
  where
    go : (t : Bool) → (T t → length bytes ≤ most_bytes) → RightAnswer (cond t (accepted bytes) (refused_with 1))
    go true h = right-accepted (h tt)
    go false h = right-refused 0 (omega arith)

-- The sheet that a run which accepts gives (SCOPE 5.14).
abbrev pub sheet_after_of : Sheet → State → Sheet
sheet_after_of x s =
    record { sizes = with_equations_of (rank s) x.sizes; rows = s.rows; relations = s.relations; order = map suc s.order }

-- The leading run of a sheet that was read.
leading-ends : (bytes : List ℕ) (x : Sheet) (rest : List ℕ) → read_sheet_of bytes ≡ got x rest → Ended (leading_run_of x.rows x.relations)
unfolding whole_run_of
leading-ends bytes x rest e = run_ends leading (read-valid bytes x rest e)

pub answer-right : (bytes : List ℕ) → RightAnswer (answer_sheet bytes)
unfolding answer_sheet answer_read answer_run
answer-right bytes = by_read (read_sheet_of bytes) refl (sheet-numbered bytes)
  where
    by-run : (x : Sheet) (o : Outcome) → Ended o → RightAnswer (answer_run x o)
    by-run x o (Demands.accepted s) = sized-right (write_sheet_of (sheet_after_of x s))
    by-run x o seven = right-refused 6 (omega arith)
    by-run x o eight = right-refused 7 (omega arith)
    by-run x o nine = right-refused 8 (omega arith)
    by-run x o ten = right-refused 9 (omega arith)

    by_read : (r : Read Sheet) → read_sheet_of bytes ≡ r → Numbered r → RightAnswer (answer_read r)
    by_read r e (read x rest) = by-run x _ (leading-ends bytes x rest e)
    by_read r e (numbered n low high) = right-refused n (omega arith)

-- ---- the answer that the store holds

-- The answer of `rules` that a call has given.
unfoldable pub answer_by : ℕ → ℕ → List ℕ → Answer
answer_by zero n store = accepted (take n store)
answer_by (suc k) n store = refused_with (suc k)

-- A sheet of at most 65,536 bytes lies in the store, unless that is shorter and the call says 1.
pub answered-fits : (sheet store : List ℕ) → length sheet ≤ most_bytes
    → ((answered (accepted sheet) store).refusal ≡ 1 → most_bytes ≤ length store) → length sheet ≤ length store
unfolding answered unanswered
answered-fits sheet store few decided = go (leb (length sheet) (length store)) (leb→le (length sheet) (length store)) decided
  where
    whole : AnswerCall
    whole = record { refusal = 0; length = length sheet; store = overwrite sheet store }

    go : (t : Bool) → (T t → length sheet ≤ length store) → ((cond t whole (unanswered 1 store)).refusal ≡ 1 → most_bytes ≤ length store)
        → length sheet ≤ length store
    go true low decided = low tt
    go false low decided = omega (arith, decided refl)

pub answer_call-answer : (bytes store : List ℕ) → ((answer_call bytes store).refusal ≡ 1 → most_bytes ≤ length store)
    → let c = answer_call bytes store in answer_by c.refusal c.length c.store ≡ answer_sheet bytes
unfolding answer_call answered answer_by overwrite unanswered
answer_call-answer bytes store decided = go (answer_sheet bytes) (answer-right bytes) decided
  where
    go : (a : Answer) → RightAnswer a → ((answered a store).refusal ≡ 1 → most_bytes ≤ length store)
        → let c = answered a store in answer_by c.refusal c.length c.store ≡ a
    go a (right-accepted {bytes = sheet} few) decided =
        ap (λ c. answer_by c.refusal c.length c.store)
        (cond-passed (leb (length sheet) (length store)) _ (unanswered 1 store)
        (le→leb (length sheet) (length store) (answered-fits sheet store few decided)))
        ∙ ap accepted (take_at sheet (drop (length sheet) store) (length sheet) refl)
    go a (right-refused n few) decided = refl

-- With a refusal the length is 0 (SCOPE 6.31), and the store is unchanged (SCOPE 5.31).
pub answer_call-none : (bytes store : List ℕ) → (answer_call bytes store).refusal ≢ 0
    → ((answer_call bytes store).length ≡ 0) × ((answer_call bytes store).store ≡ store)
unfolding answer_call answered unanswered
answer_call-none bytes store h = go (answer_sheet bytes) h
  where
    go : (a : Answer) → (answered a store).refusal ≢ 0 → ((answered a store).length ≡ 0) × ((answered a store).store ≡ store)
    go (accepted sheet) h = by (leb (length sheet) (length store)) h
      where
        whole : AnswerCall
        whole = record { refusal = 0; length = length sheet; store = overwrite sheet store }

        by : (t : Bool) → (cond t whole (unanswered 1 store)).refusal ≢ 0
            → ((cond t whole (unanswered 1 store)).length ≡ 0) × ((cond t whole (unanswered 1 store)).store ≡ store)
        by true h = absurd (h refl)
        by false h = (refl, refl)
    go (refused_with n) h = (refl, refl)

-- ---- the column order of a run that accepts

-- A number that the list counted from 1 contains stands in the list.
contained : (c : ℕ) (l : List ℕ) → T (contains (suc c) (map suc l)) → Memᴰ c l
unfolding contains
contained c [] h = absurd h
contained c (d ∷ l) h =
    ⊎_elim (λ e. Memᴰ.head (suc_inj (eqb→eq (suc c) (suc d) e))) (λ m. Memᴰ.tail (contained c l m))
    ((T-or (eqb (suc c) (suc d)) (contains (suc c) (map suc l))).0 h)

-- Different columns below m, counted from 1.
different-columns : (m : ℕ) (l : List ℕ) → Distinct l → ((k : ℕ) → k < length l → get_or l k 0 < m) → T (different_columns_of m (map suc l))
unfolding different_columns_of
different-columns m [] d below = tt
different-columns m (c ∷ l) d below =
    (different-cons m (suc c) (map suc l)).1 (
      omega arith,
      below 0 (omega arith),
      not_T (contains (suc c) (map suc l)) (λ h. d.0 (contained c l h)),
      different-columns m l d.1 (λ k h. below (suc k) (suc-le-suc h)),
    )

pub order-after : (m D : ℕ) (s : State) → Diagonal leading (rank s) m D s → OrderRight m (map suc s.order)
unfolding OrderRight rank
order-after m D s d = different-columns m s.order d.columns-different (λ k h. d.column-below k h)

-- ---- the run on the stores that a sheet was read into

-- The check before what a run leaves is written with some sizes, and the call that writes it.
abbrev pub check_in : Sizes → UnreportedCall → ℕ
check_in z c = check_write_of z c.result.relations c.result.order c.row_store c.relation_store

abbrev pub write_in : Sizes → UnreportedCall → List ℕ → WriteCall
write_in z c store = write_call z c.result.relations c.result.order c.row_store c.relation_store store

-- The same with as many equations as its rank, for a run on a system of sizes z (SCOPE 5.14).
abbrev pub check_on : Sizes → UnreportedCall → ℕ
check_on z c = check_in (with_equations_of c.result.rank z) c

abbrev pub write_on : Sizes → UnreportedCall → List ℕ → WriteCall
write_on z c store = write_in (with_equations_of c.result.rank z) c store

module _ (bytes : List ℕ) (x : Sheet) (rest : List ℕ) (e : read_sheet_of bytes ≡ got x rest) (rows relations : List ℤ) where
  abbrev rows_read : List ℤ
  rows_read = overwrite (row_store_of x.rows) rows

  abbrev relations_read : List ℤ
  relations_read = overwrite (relation_store_of x.relations) relations

  abbrev ran : UnreportedCall
  ran = unreported_call (call_run leading x.sizes (length x.relations) rows_read relations_read)

  valid : Valid x.sizes x.rows x.relations
  valid = read-valid bytes x rest e

  -- The call does with the stores what the run does with the sheet.
  ran-is : ran ≡ unreported_call (after_run_of leading x.sizes (leading_run_of x.rows x.relations) rows_read relations_read)
  unfolding call_run after_check whole_run_of overwrite
  ran-is =
      ap (λ n. unreported_call (after_check leading x.sizes (length x.relations) rows_read relations_read n))
      (valid-stores x.sizes x.rows x.relations _ _ valid)
      ∙ ap₂ (λ r l. unreported_call (after_run_of leading x.sizes (leading_run_of r l) rows_read relations_read))
      (rows_of-row_store_of (equations x.sizes) x.rows _ valid.row_count valid.row-shapes)
      (relations_of-relation_store_of x.relations _ valid.relation-shapes)

  ran-by : (o : Outcome) → leading_run_of x.rows x.relations ≡ o
      → ran ≡ unreported_call (after_run_of leading x.sizes o rows_read relations_read)
  ran-by o f = ran-is ∙ ap (λ o. unreported_call (after_run_of leading x.sizes o rows_read relations_read)) f

  answer-by : (o : Outcome) → leading_run_of x.rows x.relations ≡ o → answer_sheet bytes ≡ answer_run x o
  unfolding answer_sheet answer_read
  answer-by o f = ap answer_read e ∙ ap (answer_run x) f

  -- A run that is refused.
  ran-refused : (n : ℕ) → leading_run_of x.rows x.relations ≡ refused n → (ran.result.refusal ≡ n) × (answer_sheet bytes ≡ refused_with n)
  unfolding after_run_of cleared refusal answer_run
  ran-refused n f = (ap (λ c. c.result.refusal) (ran-by (refused n) f), answer-by (refused n) f)

  -- A run that accepts, and the writer after it.
  ran-accepted : (s : State) → leading_run_of x.rows x.relations ≡ done s
      → (ran.result.refusal ≡ 0) × (answer_sheet bytes ≡ sized (write_sheet_of (sheet_after_of x s))) × (check_on x.sizes ran ≡ 0)
      × ((store : List ℕ) → write_on x.sizes ran store ≡ written (write_sheet_of (sheet_after_of x s)) store)
  unfolding after_run_of acceptance reported_order answer_run whole_run_of row_store_for with_equations_of
  ran-accepted s f = (
    ap (λ c. c.result.refusal) leaves,
    answer-by (done s) f,
    ap (check_on x.sizes) leaves
        ∙ read-call-write (write_sheet_of (sheet_after_of x s)) (sheet_after_of x s) [] rows_left relations_read
        (sheet-read-written (sheet_after_of x s) right),
    λ store.
        ap (λ c. write_on x.sizes c store) leaves
        ∙ read-write-call (write_sheet_of (sheet_after_of x s)) (sheet_after_of x s) [] rows_left relations_read
        (sheet-read-written (sheet_after_of x s) right) store,
  )
    where
      -- The rows that are left, and the places that the dropped ones freed (SCOPE 3.14).
      rows_left : List ℤ
      rows_left = overwrite (row_store_for (equations x.sizes) s.rows) rows_read

      leaves : ran
          ≡ record {
            result = unreported_in (acceptance leading (span x.sizes) s);
            row_store = overwrite (row_store_of s.rows) rows_left;
            relation_store = overwrite (relation_store_of s.relations) relations_read;
          }
      leaves =
          ran-by (done s) f
          ∙ ap (λ l. record {
            result = unreported_in (acceptance leading (span x.sizes) s);
            row_store = l;
            relation_store = overwrite (relation_store_of s.relations) relations_read;
          })
          (sym (overwrite-twice (row_store_of s.rows) _ rows_read))

      accepts : Accepted leading x.sizes x.rows x.relations s
      accepts = record { valid = valid; accepts = f }

      right : SheetRight (sheet_after_of x s)
      right =
          record {
            valid = output-valid accepts;
            order-right = order-after x.sizes.m (span x.sizes) s (diagonal-nonzero accepts);
          }

-- ---- the three calls on stores

-- The run on what was read.
abbrev pub run_on_of : ReadCall → UnreportedCall
run_on_of c = unreported_call (call_run leading c.result.sizes c.result.relations c.row_store c.relation_store)

-- The stores are long enough for every sheet.
module _ (bytes : List ℕ) (rows relations : List ℤ) (rows_long : largest_rows ≤ length rows)
    (relations-long : relation_need ≤ length relations) where
  abbrev read_in : ReadCall
  read_in = read_call bytes rows relations

  read_by : (r : Read Sheet) → read_sheet_of bytes ≡ r → read_in ≡ after_read r rows relations
  unfolding read_call
  read_by r e = ap (λ r. after_read r rows relations) e

  read-got : (x : Sheet) (rest : List ℕ) → read_sheet_of bytes ≡ got x rest → read_in ≡ filled x rows relations
  unfolding after_read row_need
  read-got x rest e =
      read_by (got x rest) e
      ∙ cond-passed (lengths_right_of (equations x.sizes) rows relations) _ (unread 1 rows relations)
      ((lengths_right-iff (equations x.sizes) rows relations).1 (
        omega (arith, (size-bounds x.sizes (read-valid bytes x rest e).sizes).few-equations),
        relations-long,
      ))

  answer-fault : (n : ℕ) → read_sheet_of bytes ≡ fault n → (read_in.result.refusal ≡ n) × (answer_sheet bytes ≡ refused_with n)
  unfolding after_read unread read_refusal answer_sheet answer_read
  answer-fault n e = (ap (λ c. c.result.refusal) (read_by (fault n) e), ap answer_read e)

  -- The sheet is refused.
  pub read-refused : read_in.result.refusal ≢ 0 → answer_sheet bytes ≡ refused_with read_in.result.refusal
  unfolding filled
  read-refused h = go (read_sheet_of bytes) refl
    where
      go : (r : Read Sheet) → read_sheet_of bytes ≡ r → answer_sheet bytes ≡ refused_with read_in.result.refusal
      go (got x rest) e = absurd (h (ap (λ c. c.result.refusal) (read-got x rest e)))
      go (fault n) e = let both = answer-fault n e in both.1 ∙ ap refused_with (sym both.0)

  module _ (fine : read_in.result.refusal ≡ 0) where
    -- The sheet that was read.
    sheet-read : (x : Sheet) × (rest : List ℕ) × (read_sheet_of bytes ≡ got x rest)
    sheet-read = go (read_sheet_of bytes) refl (sheet-numbered bytes)
      where
        go : (r : Read Sheet) → read_sheet_of bytes ≡ r → Numbered r → (x : Sheet) × (rest : List ℕ) × (read_sheet_of bytes ≡ got x rest)
        go r e (read x rest) = (x, rest, e)
        go r e (numbered n low high) = absurd (suc-ne-zero n (sym (answer-fault (suc n) e).0 ∙ fine))

    ran_on : (x : Sheet) (rest : List ℕ) → read_sheet_of bytes ≡ got x rest
        → run_on_of read_in
        ≡ unreported_call (call_run leading x.sizes (length x.relations) (overwrite (row_store_of x.rows) rows)
        (overwrite (relation_store_of x.relations) relations))
    unfolding filled
    ran_on x rest e = ap run_on_of (read-got x rest e)

    pub read-checked : check_stores_of read_in.result.sizes read_in.result.relations read_in.row_store read_in.relation_store ≡ 0
    unfolding filled overwrite
    read-checked =
        let (x, rest, e) = sheet-read in
        ap (λ c. check_stores_of c.result.sizes c.result.relations c.row_store c.relation_store) (read-got x rest e)
        ∙ valid-stores x.sizes x.rows x.relations _ _ (read-valid bytes x rest e)

    -- The run is refused.
    pub run-refused : (run_on_of read_in).result.refusal ≢ 0 → answer_sheet bytes ≡ refused_with (run_on_of read_in).result.refusal
    run-refused h = let (x, rest, e) = sheet-read in go x rest e _ refl (leading-ends bytes x rest e)
      where
        refuses : (x : Sheet) (rest : List ℕ) → read_sheet_of bytes ≡ got x rest → (n : ℕ) → leading_run_of x.rows x.relations ≡ refused n
            → answer_sheet bytes ≡ refused_with (run_on_of read_in).result.refusal
        refuses x rest e n f =
            let both = ran-refused bytes x rest e rows relations n f in
            both.1 ∙ ap refused_with (sym (ap (λ c. c.result.refusal) (ran_on x rest e) ∙ both.0))

        go : (x : Sheet) (rest : List ℕ) → read_sheet_of bytes ≡ got x rest → (o : Outcome) → leading_run_of x.rows x.relations ≡ o → Ended o
            → answer_sheet bytes ≡ refused_with (run_on_of read_in).result.refusal
        go x rest e o f (Demands.accepted s) =
            absurd (h (ap (λ c. c.result.refusal) (ran_on x rest e) ∙ (ran-accepted bytes x rest e rows relations s f).0))
        go x rest e o f seven = refuses x rest e 7 f
        go x rest e o f eight = refuses x rest e 8 f
        go x rest e o f nine = refuses x rest e 9 f
        go x rest e o f ten = refuses x rest e 10 f

    -- The run accepts: the writer then has the sheet that answers.
    pub run-written : (run_on_of read_in).result.refusal ≡ 0
        → (sheet : List ℕ) × (answer_sheet bytes ≡ sized sheet) × (check_on read_in.result.sizes (run_on_of read_in) ≡ 0)
        × ((store : List ℕ) → write_on read_in.result.sizes (run_on_of read_in) store ≡ written sheet store)
    unfolding filled
    run-written h = let (x, rest, e) = sheet-read in go x rest e _ refl (leading-ends bytes x rest e)
      where
        clash : (x : Sheet) (rest : List ℕ) → read_sheet_of bytes ≡ got x rest → (n : ℕ) → leading_run_of x.rows x.relations
            ≡ refused (suc n) → ⊥
        clash x rest e n f =
            suc-ne-zero n
            (sym (ran-refused bytes x rest e rows relations (suc n) f).0 ∙ sym (ap (λ c. c.result.refusal) (ran_on x rest e)) ∙ h)

        go : (x : Sheet) (rest : List ℕ) → read_sheet_of bytes ≡ got x rest → (o : Outcome) → leading_run_of x.rows x.relations ≡ o → Ended o
            → (sheet : List ℕ) × (answer_sheet bytes ≡ sized sheet) × (check_on read_in.result.sizes (run_on_of read_in) ≡ 0)
            × ((store : List ℕ) → write_on read_in.result.sizes (run_on_of read_in) store ≡ written sheet store)
        go x rest e o f (Demands.accepted s) =
            let all = ran-accepted bytes x rest e rows relations s f in
            let sizes = ap (λ c. c.result.sizes) (read-got x rest e) in (
              write_sheet_of (sheet_after_of x s),
              all.1,
              ap₂ check_on sizes (ran_on x rest e) ∙ all.2,
              λ store. ap₂ (λ z c. write_on z c store) sizes (ran_on x rest e) ∙ all.3 store,
            )
        go x rest e o f seven = absurd (clash x rest e 6 f)
        go x rest e o f eight = absurd (clash x rest e 7 f)
        go x rest e o f nine = absurd (clash x rest e 8 f)
        go x rest e o f ten = absurd (clash x rest e 9 f)

-- ---- the limit on the output

-- Of the lent store the writer gets at most 65,536 bytes (SCOPE 5.13).
module _ (sheet store : List ℕ) (lent : ℕ) (inside : lent ≤ length store) (limited : lent ≤ most_bytes)
    (most : (lent ≡ length store) ⊎ (lent ≡ most_bytes)) where
  -- What the call leaves, by what the writer did.
  abbrev after : WriteCall → AnswerCall
  after w = record { refusal = w.refusal; length = w.length; store = w.byte_store ++ drop lent store }

  size : length (take lent store) ≡ lent
  size = length-take-le lent store inside

  -- There is room for the sheet.
  room : length sheet ≤ lent → after (written sheet (take lent store)) ≡ answered (sized sheet) store
  unfolding written answered sized overwrite
  room h =
      ap (λ t. after
      (cond t (record { refusal = 0; length = length sheet; byte_store = overwrite sheet (take lent store) })
      (unwritten 1 (take lent store))))
      (le-leb (length sheet) (length (take lent store)) (rw size h))
      ∙ (λ i. record { refusal = 0; length = length sheet; store = joined i })
      ∙ sym (ap (λ t. cond t whole (unanswered 1 store)) (le-leb (length sheet) (length store) (omega arith)))
      ∙ sym (ap (λ t. answered (cond t (accepted sheet) (refused_with 1)) store) (le-leb (length sheet) most_bytes (omega arith)))
    where
      whole : AnswerCall
      whole = record { refusal = 0; length = length sheet; store = overwrite sheet store }

      joined : overwrite sheet (take lent store) ++ drop lent store ≡ overwrite sheet store
      joined =
          append_assoc sheet (drop (length sheet) (take lent store)) (drop lent store)
          ∙ ap (λ l. sheet ++ l)
          (sym (drop-append-le (length sheet) (take lent store) (drop lent store) (rw size h))
          ∙ ap (drop (length sheet)) (take-append-drop lent store))

  -- The lent part is too short: the store is, or the sheet is above 65,536 bytes.
  no_room : lent < length sheet → after (written sheet (take lent store)) ≡ answered (sized sheet) store
  unfolding written unwritten answered sized unanswered
  no_room h =
      ap (λ t. after
      (cond t (record { refusal = 0; length = length sheet; byte_store = overwrite sheet (take lent store) })
      (unwritten 1 (take lent store))))
      (lt-leb (length sheet) (length (take lent store)) (rw size h))
      ∙ ap (unanswered 1) (take-append-drop lent store)
      ∙ sym (⊎_elim short large most)
    where
      whole : AnswerCall
      whole = record { refusal = 0; length = length sheet; store = overwrite sheet store }

      large : lent ≡ most_bytes → answered (sized sheet) store ≡ unanswered 1 store
      large e = ap (λ t. answered (cond t (accepted sheet) (refused_with 1)) store) (lt-leb (length sheet) most_bytes (omega arith))

      short : lent ≡ length store → answered (sized sheet) store ≡ unanswered 1 store
      short e = go (leb (length sheet) most_bytes)
        where
          go : (t : Bool) → answered (cond t (accepted sheet) (refused_with 1)) store ≡ unanswered 1 store
          go true = ap (λ t. cond t whole (unanswered 1 store)) (lt-leb (length sheet) (length store) (omega arith))
          go false = refl

  pub answer-written : after (written sheet (take lent store)) ≡ answered (sized sheet) store
  answer-written = go (leb (length sheet) lent) (leb→le (length sheet) lent) (nleb→lt (length sheet) lent)
    where
      go : (t : Bool) → (T t → length sheet ≤ lent) → (T (not t) → lent < length sheet) → after (written sheet (take lent store))
          ≡ answered (sized sheet) store
      go true low high = room (low tt)
      go false low high = no_room (high tt)

-- ---- the whole call

-- The calls on stores gave c, d and w, one after the other.
module _ (bytes store : List ℕ) (rows relations : List ℤ) (rows_long : largest_rows ≤ length rows)
    (relations-long : relation_need ≤ length relations)
    (c : ReadCall) (e : c ≡ read_call bytes rows relations) where
  pub call-unread : c.result.refusal ≢ 0 → unanswered c.result.refusal store ≡ answer_call bytes store
  unfolding answer_call answered
  call-unread =
      subst (λ c. c.result.refusal ≢ 0 → unanswered c.result.refusal store ≡ answer_call bytes store) (sym e)
      (λ h. sym (ap (λ a. answered a store) (read-refused bytes rows relations rows_long relations-long h)))

  fine-read : c.result.refusal ≡ 0 → (read_call bytes rows relations).result.refusal ≡ 0
  fine-read = subst (λ c. c.result.refusal ≡ 0) e

  pub call-checked-read : c.result.refusal ≡ 0 → check_stores_of c.result.sizes c.result.relations c.row_store c.relation_store
      ≡ 0
  call-checked-read fine =
      ap (λ c. check_stores_of c.result.sizes c.result.relations c.row_store c.relation_store) e
      ∙ read-checked bytes rows relations rows_long relations-long (fine-read fine)

  module _ (fine : c.result.refusal ≡ 0) (d : UnreportedCall) (f : d ≡ run_on_of c) where
    same-run : d ≡ run_on_of (read_call bytes rows relations)
    same-run = f ∙ ap run_on_of e

    pub call-refused : d.result.refusal ≢ 0 → unanswered d.result.refusal store ≡ answer_call bytes store
    unfolding answer_call answered
    call-refused =
        subst (λ d. d.result.refusal ≢ 0 → unanswered d.result.refusal store ≡ answer_call bytes store) (sym same-run)
        (λ h. sym (ap (λ a. answered a store) (run-refused bytes rows relations rows_long relations-long (fine-read fine) h)))

    -- What the writer has, if the run accepts.
    run-writes : d.result.refusal ≡ 0
        → (sheet : List ℕ) × (answer_sheet bytes ≡ sized sheet) × (check_on c.result.sizes d ≡ 0)
        × ((store : List ℕ) → write_on c.result.sizes d store ≡ written sheet store)
    run-writes accepts =
        let (sheet, answer, passed, wrote) = run-written bytes rows relations rows_long relations-long (fine-read fine)
        (subst (λ d. d.result.refusal ≡ 0) same-run accepts) in
        let sizes = ap (λ c. c.result.sizes) e in
        (sheet, answer, ap₂ check_on sizes same-run ∙ passed, λ store. ap₂ (λ z d. write_on z d store) sizes same-run ∙ wrote store)

    pub call-checked-run : d.result.refusal ≡ 0 → check_on c.result.sizes d ≡ 0
    call-checked-run accepts = (run-writes accepts).2

    pub call-written : d.result.refusal ≡ 0 → (lent : ℕ) → lent ≡ min (length store) most_bytes
        → (w : WriteCall) → w ≡ write_on c.result.sizes d (take lent store)
        → ◌≡◌ {A = AnswerCall} (record { refusal = w.refusal; length = w.length; store = w.byte_store ++ drop lent store })
        (answer_call bytes store)
    unfolding answer_call
    call-written accepts lent least w g =
        let (sheet, answer, passed, wrote) = run-writes accepts in
        ap (after sheet store lent inside limited most) (g ∙ wrote (take lent store))
        ∙ answer-written sheet store lent inside limited most ∙ ap (λ a. answered a store) (sym answer)
      where
        inside : lent ≤ length store
        inside = omega arith

        limited : lent ≤ most_bytes
        limited = omega arith

        most : (lent ≡ length store) ⊎ (lent ≡ most_bytes)
        most = go (leb (length store) most_bytes) (leb→le (length store) most_bytes) (nleb→lt (length store) most_bytes)
          where
            go : (t : Bool) → (T t → length store ≤ most_bytes) → (T (not t) → most_bytes < length store)
                → (lent ≡ length store) ⊎ (lent ≡ most_bytes)
            go true low high = inl (omega (arith, low tt))
            go false low high = inr (omega (arith, high tt))
