-- `writing::writer::checks::different_columns` meets its contract. The loop's invariant: the columns from i on tell whether all are right.
-- Assumes nothing.
use mathlib.Core.Path.{◌≡◌, refl, sym, ◌∙◌, ap}
use mathlib.Core.Bool.{Bool, true, false, ◌&&◌, not}
use mathlib.Core.List.{List}
use Prim.Native.Nat.{ℕ, ◌+◌, ◌-◌, ◌≤◌, ◌<◌}
use native.Mathlib.Nat.{le_refl}
use borrow.Author.Tests.{le-leb, lt-leb}
use lib.Dec.{eqb, leb}
use lib.ListN.{length, take, drop, get_or, length-drop, drop_of_length-le}
use lib.Seq.{take_all}
use Rattle.std.specs.List.{list_any}
use Rattle.rules.specs.Sheets.{contains}
use Rattle.writing.specs.WriterChecks.{any-contains}
use Rattle.rules.specs.SheetCalls.{different_columns_of}
use Rattle.lists.specs.Taken.{drop-next}
use Rattle.writing.proofs.writer.checks.different_columns.Goals as goal
use Rattle.writing.proofs.writer.checks.different_columns.Goals.{In-loop-i, then-c-lt1-via-then-c-lt1, then-c-lt1-via-else-c-lt1+then-m-c, then-c-lt1-via-else-c-lt1+else-m-c+then-contains}

-- column i and those past it
module _ (c : In-loop-i) where
  abbrev columns : List ℕ
  columns = c.args.columns.now

  abbrev m : ℕ
  m = c.args.m

  abbrev i : ℕ
  i = c.loop-i.i

  abbrev x : ℕ
  x = get_or columns i 0

  abbrev rest : List ℕ
  rest = drop (i + 1) columns

  left : different_columns_of m columns ≡ (((leb 1 x && leb x m) && not (contains x rest)) && different_columns_of m rest)
  unfolding different_columns_of
  left = c.loop-i.invariant ∙ ap (different_columns_of m) (drop-next columns i 0 c.loop-i-test.true)

  abbrev others : List ℕ
  others = take (length columns - (i + 1)) rest

  found : (b : Bool) → list_any (λ y. eqb y x) others ≡ b → contains x rest ≡ b
  found b e = ap (contains x) (sym (take_all (length columns - (i + 1)) rest (rw length-drop (le_refl _)))) ∙ sym (any-contains x others) ∙ e

  too-low : x < 1 → false ≡ different_columns_of m columns
  too-low low = rw (left, lt-leb 1 x low)

  too-high : 1 ≤ x → m < x → false ≡ different_columns_of m columns
  too-high low high = rw (left, le-leb 1 x low, lt-leb x m high)

  twice : 1 ≤ x → x ≤ m → list_any (λ y. eqb y x) others ≡ true → false ≡ different_columns_of m columns
  twice low high again = rw (left, le-leb 1 x low, le-leb x m high, found true again)

  once : 1 ≤ x → x ≤ m → list_any (λ y. eqb y x) others ≡ false → different_columns_of m columns ≡ different_columns_of m rest
  once low high new = rw (left, le-leb 1 x low, le-leb x m high, found false new)

pub loop-i-init : goal.loop-i-init
loop-i-init c = refl

pub returns-then-c-lt1 : goal.returns-then-c-lt1
returns-then-c-lt1 c =
    let turn = (goal.at.returns-then-c-lt1 c).In-loop-i in
    elim c.then-c-lt1.branch [
      | then-c-lt1-via-then-c-lt1 w ↦ too-low turn w.if-c-lt1.true
      | then-c-lt1-via-else-c-lt1+then-m-c w ↦ too-high turn w.if-c-lt1.false w.if-m-c.true
      | then-c-lt1-via-else-c-lt1+else-m-c+then-contains w ↦
          twice turn w.if-c-lt1.false w.if-m-c.false (sym w.contains.ensures.value ∙ w.if-contains.true)
    ]

pub loop-i-preserved : goal.loop-i-preserved
loop-i-preserved c =
    once (goal.at.loop-i-preserved c).In-loop-i c.if-c-lt1.false c.if-m-c.false (sym c.contains.ensures.value ∙ c.if-contains.false)

pub returns : goal.returns
unfolding different_columns_of
returns c =
    let columns = c.args.columns.now in
    sym (c.loop-i.invariant ∙ ap (different_columns_of _) (drop_of_length-le columns c.loop-i-test.false))
