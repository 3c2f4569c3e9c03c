-- `batches::endings::whole` meets its contract: the feed of all bytes, and then the end of the input behind what is written.
-- Assumes nothing.
use Prim.Native.Nat.{ℕ, ◌-◌, ◌≤◌, zero-le}
use native.Mathlib.Omega.{arith}
use mathlib.Core.Path.{◌≡◌, sym, ◌∙◌, ap₂, subst}
use mathlib.Core.Bool.{false}
use mathlib.Core.List.{List}
use borrow.Rule.Slice.PartMut.{put_mid, same_len_mid}
use lib.ListN.{length}
use Rattle.frames.specs.declared.Batch.{Batch}
use Rattle.lists.specs.Totals.{total}
use Rattle.frames.specs.Pieces.{Counted}
use Rattle.batches.specs.PieceCalls.{output_of}
use Rattle.batches.specs.Endings.{fed-places, whole-short, whole-less, whole-fits, whole-all}
use Rattle.batches.proofs.endings.whole.Goals as goal
use Rattle.batches.proofs.endings.whole.Goals.{After-ending-last, After-feed-fed, Start}

-- The bytes have been worked.
module _ (c : After-feed-fed) where
  abbrev start : Start
  start = (goal.at.After-feed-fed c).Start

  -- Before anything has come.
  abbrev none : Batch
  none = c.uncounted-none.result

  abbrev input : List ℕ
  input = start.args.input.now

  abbrev output : List ℕ
  output = start.args.output.now

  abbrev after : List ℕ
  after = c.feed-fed.new.output

  places : (c.feed-fed.result.taken ≤ length input) × (c.feed-fed.result.written ≤ length after)
  places = fed-places none input output c.feed-fed.result after c.feed-fed.ensures.output_after

-- The end of the input has been written.
module _ (c : After-ending-last) where
  abbrev fed : After-feed-fed
  fed = (goal.at.After-ending-last c).After-feed-fed

  fits : fed.feed-fed.result.full ≡ false
  fits = c.if-fed.false

  abbrev part : List ℕ
  part = c.ending-last.new.output

  abbrev joined : List ℕ
  joined = put_mid fed.feed-fed.result.written (length (after fed) - fed.feed-fed.result.written) (after fed) part

  same : length joined ≡ length (after fed)
  same =
      same_len_mid fed.feed-fed.result.written (length (after fed) - fed.feed-fed.result.written) (after fed) part
      c.ending-last.auto.output

pub feed-fed-requires : goal.feed-fed-requires
unfolding total
feed-fed-requires c =
    (subst Counted (sym c.uncounted-none.ensures) zero-le, c.requires.0, c.requires.1)

pub returns-then-fed : goal.returns-then-fed
returns-then-fed c =
    let fed = (goal.at.returns-then-fed c).After-feed-fed in
    ap₂ output_of c.too_short.ensures.0 c.too_short.ensures.1
    ∙ whole-short (none fed) (input fed) (output fed) fed.feed-fed.result (after fed) fed.feed-fed.ensures.output_after
    c.if-fed.true

pub overflow_sub-input : goal.overflow_sub-input
overflow_sub-input c = (places (goal.at.overflow_sub-input c).After-feed-fed).0

pub slice_bounds-ending-count : goal.slice_bounds-ending-count
slice_bounds-ending-count c = (places (goal.at.slice_bounds-ending-count c).After-feed-fed).1

pub slice_bounds-ending-start : goal.slice_bounds-ending-start
slice_bounds-ending-start c = (places (goal.at.slice_bounds-ending-start c).After-feed-fed).1

pub returns-then-last-ne0 : goal.returns-then-last-ne0
returns-then-last-ne0 c =
    let last = (goal.at.returns-then-last-ne0 c).After-ending-last in
    let fed = fed last in
    ap₂ output_of c.too_short-then-last-ne0.ensures.0 c.too_short-then-last-ne0.ensures.1
    ∙ whole-less (none fed) (input fed) (output fed) fed.feed-fed.result (after fed) fed.feed-fed.ensures.output_after
    (fits last) last.ending-last.result (part last) last.ending-last.ensures c.if-last-ne0.true
    (joined last) (same last)

pub overflow_add-result : goal.overflow_add-result
overflow_add-result c =
    let last = (goal.at.overflow_add-result c).After-ending-last in
    let fed = fed last in
    let few =
    whole-fits (none fed) (input fed) (output fed) fed.feed-fed.result (after fed) fed.feed-fed.ensures.output_after (fits last)
    last.ending-last.result (part last) last.ending-last.ensures c.if-last-ne0.false in
    omega (arith, few)

pub returns : goal.returns
returns c =
    let last = (goal.at.returns c).After-ending-last in
    let fed = fed last in
    whole-all (none fed) (input fed) (output fed) fed.feed-fed.result (after fed) fed.feed-fed.ensures.output_after
    (fits last) last.ending-last.result (part last) last.ending-last.ensures c.if-last-ne0.false
