-- The store of our own log: what a run leaves there, and how its end is written (SCOPE 13.5).
--
-- Main definitions
--   LogLeft all log log' n k     what a run leaves in the store of its log before the end is written
--   closed l log                 the numbers l at the front of a log's store, with zeros past them
--
-- Main statements
--   left-kept, left-cleared      a run without a refusal, and a refused one
--   closed-pasted                the end of a log, as it is written
--   closed-own                   a log that is closed is our own log
--   reported-few                 the columns of a result are few
use Rattle.std.specs.Prelude.{ℕ, suc, ◌+◌, ◌*◌, ◌-◌, ◌≤◌, ◌<◌, ◌≡◌, refl, ◌≢◌, length, take, drop, replicate}
use Rattle.std.proofs.Common.{zero-le, le_of_eq, zero-add, arith, sym, ◌∙◌, ap₂, length-append, take_all, length-take-le}
use Rattle.std.proofs.Math.Path.{ap}
use mathlib.Core.List.{List, ◌++◌, map, append_assoc}
use Rattle.std.proofs.Math.IntN.{ℤ, pos}
use Rattle.std.proofs.lemmas.List.{length-map, length-replicate}
use Rattle.std.proofs.Math.Seq.{paste}
use Rattle.lists.specs.Overwritten.{overwrite}
use Rattle.lists.specs.Everywhere.{All, all_take, map-keeps}
use Rattle.lists.specs.Padded.{length-pad_to, all-pad_to}
use Rattle.rules.specs.Limits.{column_count}
use Rattle.rules.specs.Calls.{zeros, reported_order}
use Rattle.working_rows.specs.Found.{Columns}
use Rattle.working_rows.specs.Working.{paste-joined}
use Rattle.sides.specs.Lent.{Kept}
use Rattle.log_steps.specs.Logs.{Change, step_length, own_need}
use Rattle.own_logs.specs.Own.{own_store, own_numbers, log_of}
use Rattle.own_logs.specs.LoggedSteps.{line_numbers, Noted}

-- ---- what a run leaves in the store of its log

pub record LogLeft (all : List Change) (log log' : List ℤ) (n k : ℕ) : Type 0 where
  pub noted : n ≡ 0 → Noted all log log' n k
  pub same_length : length log' ≡ length log
  pub steps-none : n ≢ 0 → k ≡ 0
  pub cleared : n ≢ 0 → log' ≡ overwrite (zeros own_need) log

pub left-kept : {all : List Change} {log log' : List ℤ} {n k : ℕ} → n ≡ 0 → Noted all log log' n k → LogLeft all log log' n k
left-kept e r =
    record { noted = λ _. r; same_length = r.kept.same_length; steps-none = λ f. absurd (f e); cleared = λ f. absurd (f e) }

zeros-long : (n : ℕ) → length (zeros n) ≡ n
unfolding zeros
zeros-long n = length-replicate n (pos 0)

-- A front as long as the needed part, over stores that are the same past that.
over-kept : (part : List ℤ) {log log' : List ℤ} → length part ≡ own_need → Kept own_need log log' → overwrite part log' ≡ overwrite part log
unfolding overwrite
over-kept part {log} {log'} e kept =
    ap (λ l. part ++ l) (ap (λ n. drop n log') e ∙ kept.same_rest ∙ ap (λ n. drop n log) (sym e))

pub left-cleared : {all : List Change} {log log' log'' : List ℤ} {n k : ℕ} → n ≢ 0 → Noted all log log' n k
    → log'' ≡ paste log' 0 (replicate own_need (pos 0)) own_need → length log'' ≡ length log → LogLeft all log log'' n 0
unfolding overwrite zeros
left-cleared {all} {log} {log'} {log''} e r put long =
    record { noted = λ f. absurd (e f); same_length = long; steps-none = λ _. refl; cleared = λ _. whole }
  where
    whole : log'' ≡ overwrite (zeros own_need) log
    whole =
        put
        ∙ ap₂ (λ z n. z ++ drop n log') (take_all own_need (zeros own_need) (le_of_eq (zeros-long own_need)))
        (zero-add own_need ∙ sym (zeros-long own_need))
        ∙ over-kept (zeros own_need) (zeros-long own_need) r.kept

-- ---- the end of a log

unfoldable pub closed : List ℤ → List ℤ → List ℤ
unfolding overwrite zeros
closed l log = overwrite (l ++ zeros (own_need - length l)) log

pub closed-pasted : (log numbers : List ℤ) (a : ℕ) → a + column_count ≤ own_need → own_need ≤ length log → length numbers ≡ column_count
    → let rest = own_need - (a + column_count) in
    paste (paste log a numbers column_count) (a + column_count) (replicate rest (pos 0)) rest ≡ closed (take a log ++ numbers) log
unfolding closed overwrite zeros
closed-pasted log numbers a h room e =
    paste-joined log numbers (zeros rest) a column_count rest e (zeros-long rest) (omega arith)
    ∙ ap₂ (λ l n. (take a log ++ l) ++ drop n log)
    (take_all (column_count + rest) (numbers ++ zeros rest) (le_of_eq (length-append numbers (zeros rest) ∙ ap₂ ◌+◌ e (zeros-long rest))))
    total
    ∙ ap (λ l. l ++ drop own_need log) (sym (append_assoc (take a log) numbers (zeros rest)))
    ∙ sym
    (ap (λ k. ((take a log ++ numbers) ++ zeros k) ++ drop (length ((take a log ++ numbers) ++ zeros k)) log) front
    ∙ ap (λ n. ((take a log ++ numbers) ++ zeros rest) ++ drop n log) whole)
  where
    rest : ℕ
    rest = own_need - (a + column_count)

    total : a + (column_count + rest) ≡ own_need
    total = omega arith

    front_long : length (take a log ++ numbers) ≡ a + column_count
    front_long = length-append (take a log) numbers ∙ ap₂ ◌+◌ (length-take-le a log (omega arith)) e

    front : own_need - length (take a log ++ numbers) ≡ rest
    front = ap (λ n. own_need - n) front_long

    whole : length ((take a log ++ numbers) ++ zeros rest) ≡ own_need
    whole = length-append (take a log ++ numbers) (zeros rest) ∙ omega (arith, front_long, zeros-long rest)

-- The front of the store that is left is our own log.
module _ {all : List Change} {log log' : List ℤ} {n k : ℕ} (r : Noted all log log' n k) (e : n ≡ 0) (room : own_need ≤ length log) where
  pub closed-own : (order : List ℕ)
      → closed (take (k * step_length) log' ++ map pos (reported_order order)) log' ≡ overwrite (own_store all (own_numbers order)) log
  unfolding closed own_store log_of own_numbers reported_order
  closed-own order =
      ap (λ l. closed (l ++ numbers) log') (r.numbers-are e) ∙ over-kept (own_store all numbers) whole_long r.kept
    where
      numbers : List ℤ
      numbers = map pos (reported_order order)

      lines_long : length (line_numbers all) ≡ k * step_length
      lines_long =
          ap length (sym (r.numbers-are e)) ∙ length-take-le (k * step_length) log' (omega (arith, r.few, r.kept.same_length))

      numbers-long : length numbers ≡ column_count
      numbers-long = length-map (reported_order order) pos ∙ length-pad_to column_count 0 (map suc order)

      log-long : length (line_numbers all ++ numbers) ≡ k * step_length + column_count
      log-long = length-append (line_numbers all) numbers ∙ ap₂ ◌+◌ lines_long numbers-long

      whole_long : length (own_store all numbers) ≡ own_need
      whole_long =
          length-append (line_numbers all ++ numbers) (zeros (own_need - length (line_numbers all ++ numbers)))
          ∙ omega (arith, r.few, log-long, zeros-long (own_need - length (line_numbers all ++ numbers)))

pub reported-few : (order : List ℕ) (w : ℕ) → Columns order → All (λ c. c ≤ column_count) (reported_order (take w order))
unfolding reported_order Columns
reported-few order w h = all-pad_to (λ c. c ≤ column_count) column_count 0 (map suc (take w order)) zero-le
    (map-keeps (λ c. c < column_count) (λ c. c ≤ column_count) suc (λ c b. b) (take w order) (all_take (λ c. c < column_count) w order h))
