-- `batches::feeding::counting` meets its contract: the line with the sheet count is early, broken or read.
-- Assumes nothing.
use Prim.Native.Nat.{ℕ, ◌≤◌}
use native.Mathlib.Omega.{arith}
use mathlib.Core.Path.{◌≡◌, refl, sym, ◌∙◌, ap, subst}
use mathlib.Core.List.{List}
use lib.ListN.{length}
use Rattle.frames.specs.PieceSizes.{begun-counted}
use Rattle.frames.specs.Pieces.{begun_of, begun-inside, Counted}
use Rattle.batches.specs.Turns.{fed_of, count-waits, count-breaks, count-sheets}
use Rattle.batches.proofs.feeding.counting.Goals as goal
use Rattle.batches.proofs.feeding.counting.Goals.{After-begin-begun, Start}

-- The line has been read.
module _ (c : After-begin-begun) where
  abbrev start : Start
  start = (goal.at.After-begin-begun c).Start

  abbrev bytes : List ℕ
  bytes = start.args.bytes.now

  seen : c.begin-begun.result ≡ begun_of bytes
  seen = c.begin-begun.ensures

  inside : c.begin-begun.result.taken ≤ length bytes
  inside = subst (λ v. v.taken ≤ length bytes) (sym seen) (begun-inside bytes)

pub returns-then-begun-eq4 : goal.returns-then-begun-eq4
returns-then-begun-eq4 c =
    let line = (goal.at.returns-then-begun-eq4 c).After-begin-begun in
    let args = (start line).args in record {
      output_after = ap (λ r. fed_of r args.output.now) c.nothing.ensures
          ∙ count-waits args.batch (bytes line) args.output.now (rw (← seen line) c.if-begun-eq4.true);
      rows_unchanged = (refl, refl);
    }

pub returns-then-begun-ne0 : goal.returns-then-begun-ne0
returns-then-begun-ne0 c =
    let line = (goal.at.returns-then-begun-ne0 c).After-begin-begun in
    let args = (start line).args in record {
      output_after = c.breaking.ensures
          ∙ count-breaks args.batch (bytes line) args.output.now
          (rw (← seen line) c.if-begun-eq4.false)
          (rw (← seen line) c.if-begun-ne0.true);
      rows_unchanged = (refl, refl);
    }

pub slice_bounds-sheets-count : goal.slice_bounds-sheets-count
slice_bounds-sheets-count c = inside (goal.at.slice_bounds-sheets-count c).After-begin-begun

pub slice_bounds-sheets-start : goal.slice_bounds-sheets-start
slice_bounds-sheets-start c = inside (goal.at.slice_bounds-sheets-start c).After-begin-begun

pub sheets-fed-requires : goal.sheets-fed-requires
sheets-fed-requires c =
    let line = (goal.at.sheets-fed-requires c).After-begin-begun in
    (subst (λ v. Counted v.batch) (sym (seen line)) (begun-counted (bytes line)), (start line).requires.0, (start line).requires.1)

pub overflow_add-result : goal.overflow_add-result
overflow_add-result c =
    let line = (goal.at.overflow_add-result c).After-begin-begun in
    let args = (start line).args in
    let all =
    count-sheets args.batch (bytes line) args.output.now line.begin-begun.result (seen line)
    c.if-begun-ne0.false
    c.sheets-fed.result
    c.sheets-fed.new.output c.sheets-fed.ensures.output_after in
    omega (arith, all.0)

pub returns : goal.returns
returns c =
    let line = (goal.at.returns c).After-begin-begun in
    let args = (start line).args in
    record {
      output_after = (count-sheets args.batch (bytes line) args.output.now line.begin-begun.result (seen line)
          c.if-begun-ne0.false
          c.sheets-fed.result
          c.sheets-fed.new.output c.sheets-fed.ensures.output_after).1;
      rows_unchanged = c.sheets-fed.ensures.rows_unchanged;
    }
