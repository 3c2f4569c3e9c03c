-- `solutions::trailing::copy_run` meets its contract.
-- Assumes nothing.
use mathlib.Core.Path.{◌≡◌, sym}
use mathlib.Core.List.{List}
use Prim.Native.Nat.{ℕ, ◌*◌, ◌≤◌}
use native.Mathlib.Omega.{arith}
use lib.IntN.{ℤ}
use lib.ListN.{length, take}
use lib.Seq.{length-take-le}
use Rattle.rules.specs.Limits.{relation_length}
use Rattle.rules.specs.Stores.{Sizes, equations, row_need}
use Rattle.stores.specs.Validity.{the_sizes_of}
use Rattle.runs.specs.CallLaws.{Checked, checked, few-blocks, few-equations}
use Rattle.reduction.specs.Progress.{final_answer}
use Rattle.solutions.specs.TrailingCopies.{copy-checked, copy_ran}
use Rattle.solutions.proofs.trailing.copy_run.Goals as goal
use Rattle.solutions.proofs.trailing.copy_run.Goals.{After-save, After-save-2, Start}

module _ (s : Start) where
  abbrev z : Sizes
  z = the_sizes_of s.args.sizes

  abbrev count : ℕ
  count = s.args.count

  abbrev rows : List ℤ
  rows = s.args.rows.now

  abbrev relations : List ℤ
  relations = s.args.relations.now

  ok : Checked z count rows relations
  ok = checked z count rows relations s.requires.relations_value

  few : s.args.sizes.equations ≤ 6
  unfolding equations the_sizes_of
  few = few-equations z ok.sizes

pub overflow_mul-need : goal.overflow_mul-need
overflow_mul-need c = omega (arith, few c)

pub slice_bounds-save-end : goal.slice_bounds-save-end
unfolding equations the_sizes_of row_need
slice_bounds-save-end c = let s = (goal.at.slice_bounds-save-end c).Start in sym (length-take-le _ _ (ok s).rows-within.long)

pub save-requires : goal.save-requires
unfolding equations the_sizes_of row_need
save-requires c =
    let s = (goal.at.save-requires c).Start in
    omega (arith, length-take-le (row_need (equations (z s))) (rows s) (ok s).rows-within.long, s.requires.equations_in_bounds.0)

pub clear-requires : goal.clear-requires
clear-requires c =
    omega (arith, c.requires.equations_in_bounds.1)

pub overflow_mul-given : goal.overflow_mul-given
overflow_mul-given c =
    let s = (goal.at.overflow_mul-given c).Start in
    omega (arith, (ok s).listing.few)

-- The relations that are there.
given : (s : Start) → length (take (count s * relation_length) (relations s)) ≡ count s * relation_length
given s =
    length-take-le (count s * relation_length) (relations s) (omega (arith, (ok s).listing.few, (ok s).listing.within.long))

pub slice_bounds-save-end-2 : goal.slice_bounds-save-end-2
slice_bounds-save-end-2 c = let s = (goal.at.slice_bounds-save-end-2 c).Start in sym (given s)

pub save-requires-2 : goal.save-requires-2
save-requires-2 c =
    let s = (goal.at.save-requires-2 c).Start in
    omega (arith, given s, (ok s).listing.few, c.clear.auto.store, s.requires.equations_in_bounds.1)

pub span-span-requires : goal.span-span-requires
span-span-requires c =
    let s = (goal.at.span-span-requires c).Start in
    (ok s).sizes

-- The copies are made.
module _ (p : After-save-2) where
  abbrev first : After-save
  first = (goal.at.After-save-2 p).After-save

  abbrev s : Start
  s = (goal.at.After-save first).Start

  abbrev rows₁ : List ℤ
  rows₁ = first.save.new.store

  abbrev relations₁ : List ℤ
  relations₁ = p.save-2.new.store

  copies : Checked (z s) (count s) rows₁ relations₁
  unfolding equations the_sizes_of row_need
  copies =
      copy-checked (z s) (count s) (rows s) (relations s) s.args.work_rows.now s.args.work_relations.now rows₁ _ relations₁
      s.requires.relations_value s.requires.equations_in_bounds.0 s.requires.equations_in_bounds.1 first.save.ensures p.clear.ensures
      p.save-2.ensures

pub trailing_run-requires : goal.trailing_run-requires
unfolding equations the_sizes_of
trailing_run-requires c =
    let p = (goal.at.trailing_run-requires c).After-save-2 in (
      few (s p),
      rw c.span-span.ensures (few-blocks (z (s p)) (ok (s p)).sizes),
      (copies p).rows-within,
      (copies p).listing,
    )

pub returns : goal.returns
unfolding equations the_sizes_of row_need
returns c =
    let p = (goal.at.returns c).After-save-2 in
    let st = s p in
    copy_ran (z st) (count st) (rows st) (relations st) st.args.work_rows.now st.args.work_relations.now (rows₁ p) _
    (relations₁ p) st.requires.relations_value st.requires.equations_in_bounds.0 st.requires.equations_in_bounds.1 (first p).save.ensures p.clear.ensures
    p.save-2.ensures _ _ (final_answer st.args.sizes.equations c.trailing_run.result)
    (rw c.span-span.ensures at c.trailing_run.ensures)
