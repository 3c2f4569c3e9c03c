-- `reading::own::read_own` meets its contract: the sheet is refused and what was written of it is cleared, or the stores hold it.
-- Assumes nothing.
use mathlib.Core.List.{List, ◌++◌}
use mathlib.Core.Path.{◌≡◌, refl, sym, ap, ap₂, ◌∙◌, subst}
use Prim.Native.Nat.{ℕ, ◌*◌, ◌≤◌}
use native.Mathlib.Nat.{le_of_eq}
use native.Mathlib.Omega.{arith}
use lib.IntN.{ℤ, pos}
use lib.ListN.{length, take, drop, replicate, length-append, length-drop, take-append-drop}
use lib.Seq.{paste, drop_at, length-take-le}
use Rattle.std.proofs.Common.{Ok, Err}
use Rattle.refusals.specs.Refusals.{number-nonzero}
use Rattle.tokens.specs.Fields.{read-err, read-ok, read-within, handed-on, then-fault}
use Rattle.reading.specs.OwnStores.{head-front, sheet-front, call-holds}
use Rattle.reading.specs.ReadCalls.{call_of, call-unread, call-faults, call-refuses}
use Rattle.reading.specs.RelationLines.{RelationLines, lines-front}
use Rattle.reading.specs.WholeSheet.{result_of, sheet_in, sheet-is, sizes-right, HeadTo}
use Rattle.reading.specs.Zeros.{length-zeros, take-zeros, zero-again}
use Rattle.rules.specs.Calls.{zeros}
use Rattle.rules.specs.Layout.{size-bounds}
use Rattle.rules.specs.Limits.{most_equations, row_length, relation_length}
use Rattle.rules.specs.Numbers.{got}
use Rattle.rules.specs.Sheets.{read_sizes}
use Rattle.rules.specs.SheetCalls.{read_refusal, read_call}
use Rattle.rules.specs.Stores.{Sizes, equations, row_need, largest_rows, relation_need}
use Rattle.stores.specs.Validity.{the_sizes_of}
use Rattle.reading.proofs.own.read_own.Goals as goal
use Rattle.reading.proofs.own.read_own.Goals.{After-head_at, After-rest_at, In-Ok, In_ok-z}

pub returns-in_err-z-clause-relations_after : goal.returns-in_err-z-clause-relations_after
unfolding result_of
returns-in_err-z-clause-relations_after c =
    call-unread _ _ _ _ (ap (λ q. result_of (sheet_in q)) (handed-on _ c.from_residual.ensures.1))
    ∙ sym (call-faults _ _ _ _ (sheet-is _ ∙ then-fault _ (read-err c.in_err-z.ensures)))

-- The sizes, as they were read.
module _ (c : In_ok-z) where
  -- the number of equations
  abbrev n : ℕ
  n = c.in_ok-z.z.sizes.equations

  sizes_read : read_sizes c.args.bytes.now ≡ got (the_sizes_of c.in_ok-z.z.sizes) (drop c.in_ok-z.z.at c.args.bytes.now)
  sizes_read = read-ok c.in_ok-z.ensures

  few-rows : n ≤ most_equations
  unfolding equations the_sizes_of
  few-rows = (size-bounds _ (sizes-right _ _ _ sizes_read)).few-equations

pub overflow_mul-filled : goal.overflow_mul-filled
overflow_mul-filled c = omega (arith, few-rows (goal.at.overflow_mul-filled c).In_ok-z)

pub head_at-requires-clause-sizes_read : goal.head_at-requires-clause-sizes_read
head_at-requires-clause-sizes_read c = (read-within c.in_ok-z.ensures, read-ok c.in_ok-z.ensures)

-- The rows, as they were read.
module _ (c : After-head_at) where
  abbrev sized : In_ok-z
  sized = (goal.at.After-head_at c).In_ok-z

  abbrev filled : ℕ
  filled = n sized * row_length

  abbrev rows : List ℤ
  rows = c.head_at.new.rows

  rows_long : length rows ≡ largest_rows
  rows_long = c.head_at.auto.rows ∙ ap length c.requires.0 ∙ length-zeros largest_rows

  rows-rest : drop filled rows ≡ drop filled (zeros largest_rows)
  unfolding equations the_sizes_of
  rows-rest = c.head_at.ensures.rows_past ∙ ap (drop filled) c.requires.0

  rows-cleared : paste rows 0 (replicate filled (pos 0)) filled ≡ c.args.rows.now
  rows-cleared = zero-again filled largest_rows rows (omega (arith, few-rows sized)) rows-rest ∙ sym c.requires.0

  lent-rows-long : length (take filled rows) ≡ filled
  lent-rows-long = length-take-le filled rows (omega (arith, few-rows sized, rows_long))

pub clear-requires : goal.clear-requires
clear-requires c =
    let h = (goal.at.clear-requires c).After-head_at in
    omega (arith, few-rows (sized h), rows_long h)

pub returns-in-Err-clause-relations_after : goal.returns-in-Err-clause-relations_after
unfolding result_of
returns-in-Err-clause-relations_after c =
    let h = (goal.at.returns-in-Err-clause-relations_after c).After-head_at in
    ap (λ l. call_of (Err c.in-Err.refusal) l c.args.relations.now) (c.clear.ensures ∙ rows-cleared h)
    ∙ call-unread _ _ _ _ refl
    ∙ sym (call-faults _ _ _ _ c.in-Err.ensures.head_read)

-- The head of the sheet, and the parts of the stores that are lent for its sides and its relations.
module _ (c : In-Ok) where
  abbrev before_rest : After-head_at
  before_rest = (goal.at.In-Ok c).After-head_at

  abbrev used : ℕ
  used = c.in-Ok.h.relations * relation_length

  head : HeadTo c.args.bytes.now (the_sizes_of c.in-Ok.h.sizes) c.in-Ok.h.relations c.in-Ok.h.at (rows before_rest)
  head = c.in-Ok.ensures.head_read.0

  -- its sizes are those that were read
  counted : equations (the_sizes_of c.in-Ok.h.sizes) ≡ n (sized before_rest)
  unfolding equations the_sizes_of
  counted = ap equations c.in-Ok.ensures.head_read.1

  head-part : HeadTo c.args.bytes.now (the_sizes_of c.in-Ok.h.sizes) c.in-Ok.h.relations c.in-Ok.h.at
      (take (filled before_rest) (rows before_rest))
  unfolding row_need
  head-part =
      head-front (take (filled before_rest) (rows before_rest)) (drop (filled before_rest) (rows before_rest)) head
      (sym (take-append-drop (filled before_rest) (rows before_rest)))
      (lent-rows-long before_rest ∙ ap (λ k. k * row_length) (sym counted))

  lent : take used c.args.relations.now ≡ zeros used
  lent = ap (take used) c.requires.1 ∙ take-zeros used relation_need (omega (arith, head.few))

pub overflow_mul-used : goal.overflow_mul-used
overflow_mul-used c = omega (arith, (head (goal.at.overflow_mul-used c).In-Ok).few)

pub slice_bounds-rest_at-end : goal.slice_bounds-rest_at-end
slice_bounds-rest_at-end c =
    let h = (goal.at.slice_bounds-rest_at-end c).After-head_at in
    omega (arith, few-rows (sized h), rows_long h)

pub slice_bounds-rest_at-end-2 : goal.slice_bounds-rest_at-end-2
slice_bounds-rest_at-end-2 c = sym (lent-rows-long (goal.at.slice_bounds-rest_at-end-2 c).After-head_at)

pub slice_bounds-rest_at-end-3 : goal.slice_bounds-rest_at-end-3
slice_bounds-rest_at-end-3 c =
    omega (arith, (head (goal.at.slice_bounds-rest_at-end-3 c).In-Ok).few, ap length c.requires.1, length-zeros relation_need)

pub slice_bounds-rest_at-end-4 : goal.slice_bounds-rest_at-end-4
slice_bounds-rest_at-end-4 c = sym (ap length (lent (goal.at.slice_bounds-rest_at-end-4 c).In-Ok) ∙ length-zeros _)

pub rest_at-requires-clause-head_to : goal.rest_at-requires-clause-head_to
rest_at-requires-clause-head_to c = head-part (goal.at.rest_at-requires-clause-head_to c).In-Ok

pub rest_at-requires-clause-row_length_in_bounds : goal.rest_at-requires-clause-row_length_in_bounds
rest_at-requires-clause-row_length_in_bounds c =
    let k = (goal.at.rest_at-requires-clause-row_length_in_bounds c).In-Ok in
    (le_of_eq (ap (λ k. k * row_length) (counted k) ∙ sym (lent-rows-long (before_rest k))), lent k)

-- The rows and the relations, as they were read into the parts that were lent.
module _ (c : After-rest_at) where
  abbrev k : In-Ok
  k = (goal.at.After-rest_at c).In-Ok

  abbrev h : After-head_at
  h = before_rest k

  abbrev rows-part : List ℤ
  rows-part = c.rest_at.new.rows

  abbrev rows-after : List ℤ
  rows-after = rows-part ++ drop (filled h) (rows h)

  abbrev part : List ℤ
  part = c.rest_at.new.relations

  abbrev relations : List ℤ
  relations = part ++ drop (used k) c.args.relations.now

  rows-part-long : length rows-part ≡ filled h
  rows-part-long = c.rest_at.auto.rows ∙ lent-rows-long h

  part-long : length part ≡ used k
  part-long = c.rest_at.auto.relations ∙ ap length (lent k) ∙ length-zeros _

  rows-after-long : length rows-after ≡ largest_rows
  rows-after-long =
      length-append rows-part (drop (filled h) (rows h))
      ∙ omega (arith, rows-part-long, length-drop (filled h) (rows h), rows_long h, few-rows (sized h))

  rows-after-rest : (m : ℕ) → m ≡ n (sized h) → drop (m * row_length) rows-after ≡ drop (m * row_length) (zeros largest_rows)
  rows-after-rest m e = rw e (drop_at rows-part _ (filled h) rows-part-long ∙ rows-rest h)

  rows-again : paste rows-after 0 (replicate (filled h) (pos 0)) (filled h) ≡ c.args.rows.now
  rows-again =
      zero-again (filled h) largest_rows rows-after (omega (arith, few-rows (sized h))) (rows-after-rest (n (sized h)) refl)
      ∙ sym c.requires.0

  relations-rest : drop (used k) relations ≡ drop (used k) (zeros relation_need)
  relations-rest = drop_at part _ (used k) part-long ∙ ap (drop (used k)) c.requires.1

  relations-cleared : paste relations 0 (replicate (used k) (pos 0)) (used k) ≡ c.args.relations.now
  relations-cleared = zero-again (used k) relation_need relations (omega (arith, (head k).few)) relations-rest ∙ sym c.requires.1

pub clear-requires-in-Err-rest_at : goal.clear-requires-in-Err-rest_at
clear-requires-in-Err-rest_at c =
    let r = (goal.at.clear-requires-in-Err-rest_at c).After-rest_at in
    omega (arith, length-append (rows-part r) (drop (filled (h r)) (rows (h r))), rows-part-long r)

pub clear-requires-in-Err-rest_at-2 : goal.clear-requires-in-Err-rest_at-2
clear-requires-in-Err-rest_at-2 c =
    let r = (goal.at.clear-requires-in-Err-rest_at-2 c).After-rest_at in
    omega (arith, length-append (part r) (drop (used (k r)) c.args.relations.now), part-long r)

pub returns-in-Err-rest_at-clause-relations_after : goal.returns-in-Err-rest_at-clause-relations_after
unfolding result_of read_refusal
returns-in-Err-rest_at-clause-relations_after c =
    let r = (goal.at.returns-in-Err-rest_at-clause-relations_after c).After-rest_at in
    ap₂ (call_of (Err c.in-Err-rest_at.refusal)) (c.clear-in-Err-rest_at.ensures ∙ rows-again r)
    (c.clear-in-Err-rest_at-2.ensures ∙ relations-cleared r)
    ∙ call-unread _ _ _ _ refl
    ∙ sym (call-refuses _ _ _ _ c.in-Err-rest_at.ensures.sheet_read _ _ (number-nonzero c.in-Err-rest_at.refusal))

-- The sizes and the number of the relations are those of the head.
lines_same : {z z' : Sizes} {n n' : ℕ} {bytes : List ℕ} {store : List ℤ} {from to : ℕ} → z ≡ z' → n ≡ n'
    → RelationLines bytes z n store from to → RelationLines bytes z' n' store from to
lines_same {z} {n' = n'} {bytes} {store} {from} {to} e f l =
    subst (λ z. RelationLines bytes z n' store from to) e (subst (λ n. RelationLines bytes z n store from to) f l)

pub returns-in-Ok-rest_at-clause-relations_after : goal.returns-in-Ok-rest_at-clause-relations_after
unfolding call_of equations result_of row_need the_sizes_of
returns-in-Ok-rest_at-clause-relations_after c =
    let r = (goal.at.returns-in-Ok-rest_at-clause-relations_after c).After-rest_at in
    let same = c.in-Ok-rest_at.ensures.sizes_value in
    let count : c.in-Ok-rest_at.r.sheet.sizes.equations ≡ n (sized (h r)) = ap (λ z. z.equations) same.0 ∙ counted (k r) in
    let read = sheet-front (drop (filled (h r)) (rows (h r))) c.in-Ok-rest_at.ensures.sheet_read
    (λ _. rows-part-long r ∙ ap (λ k. k * row_length) (sym count)) in
    ap₂ (λ k l. call_of (Ok c.in-Ok-rest_at.r.sheet) (rows-after r) (part r ++ drop (k * relation_length) l)) (sym same.1) c.requires.1
    ∙ call-holds _ _ _ _ read refl (rows-after-long r) (rows-after-rest r _ count)
    (part-long r ∙ ap (λ k. k * relation_length) (sym same.1))
    ∙ ap₂ (read_call c.args.bytes.now) (sym c.requires.0) (sym c.requires.1)

pub returns-in-Ok-rest_at-clause-relation_lines : goal.returns-in-Ok-rest_at-clause-relation_lines
returns-in-Ok-rest_at-clause-relation_lines c =
    let r = (goal.at.returns-in-Ok-rest_at-clause-relation_lines c).After-rest_at in
    let same = c.in-Ok-rest_at.ensures.sizes_value in
    lines_same (sym same.0) (sym same.1) (lines-front (part r) (drop (used (k r)) c.args.relations.now) (part-long r) same.2)
