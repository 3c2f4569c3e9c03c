-- `batches::pieces::held_piece` meets its contract: the bytes held and those of the piece are laid end to end, and fed.
-- Assumes nothing.
use Prim.Native.Nat.{ℕ, min, ◌+◌, ◌-◌, ◌≤◌}
use native.Mathlib.Omega.{arith}
use mathlib.Core.Path.{◌≡◌, sym, ◌∙◌, ap, ap₂}
use mathlib.Core.List.{List, ◌++◌}
use borrow.Rule.Slice.PartMut.{put_mid}
use lib.ListN.{length, take, drop, length-drop}
use lib.Seq.{length-take-le}
use Rattle.batches.specs.Feeds.{feed_call}
use Rattle.batches.specs.PieceCalls.{held_need, call_of}
use Rattle.batches.specs.PieceLaws.{Right, check-right}
use Rattle.batches.specs.PieceSteps.{untaken_of, rest_of}
use Rattle.batches.specs.Turns.{fed_of}
use Rattle.batches.specs.PieceJoins.{LaidOn, laid_on, held-untaken, held-from, held-taken}
use Rattle.batches.proofs.pieces.held_piece.Goals as goal
use Rattle.batches.proofs.pieces.held_piece.Goals.{After-copy, After-feed-fed, After-joining-count, Start}

right : (c : Start) → Right c.args.s c.args.held.now
right c = check-right c.args.s c.args.held.now c.requires.0

-- The place of the copy has been found.
module _ (c : After-joining-count) where
  abbrev start : Start
  start = (goal.at.After-joining-count c).Start

  counted : length (take c.joining-count.result start.args.input.now) ≡ c.joining-count.result
  counted = length-take-le c.joining-count.result start.args.input.now (omega (arith, c.joining-count.ensures))

-- The bytes have been laid end to end.
module _ (c : After-copy) where
  abbrev begun : After-joining-count
  begun = (goal.at.After-copy c).After-joining-count

  abbrev store : List ℕ
  store = (start begun).args.held.now

  abbrev stored : List ℕ
  stored = put_mid (start begun).args.s.held (length store - (start begun).args.s.held) store c.copy.new.target

  laid : LaidOn (start begun).args.s store (start begun).args.input.now (start begun).args.output.now
      (start begun).requires.0 (start begun).requires.1 begun.joining-count.result stored
  laid =
      laid_on (start begun).args.s store (start begun).args.input.now (start begun).args.output.now
      (start begun).requires.0 (start begun).requires.1
      begun.joining-count.result begun.joining-count.ensures c.copy.new.target
      c.copy.ensures.target_after

-- They have been fed.
module _ (c : After-feed-fed) where
  abbrev copied : After-copy
  copied = (goal.at.After-feed-fed c).After-copy

  abbrev from_start : Start
  from_start = start (begun copied)

  abbrev after : List ℕ
  after = c.feed-fed.new.output

  told : fed_of c.feed-fed.result after
      ≡ feed_call from_start.args.s.stage from_start.args.s.batch
      (take from_start.args.s.held (store copied) ++ take
      (min (length from_start.args.input.now) (held_need - from_start.args.s.held)) from_start.args.input.now)
      from_start.args.output.now
  told =
      c.feed-fed.ensures.output_after
      ∙ ap (λ p. feed_call from_start.args.s.stage from_start.args.s.batch p from_start.args.output.now) (laid copied).front

pub joining-count-requires : goal.joining-count-requires
joining-count-requires c = (right (goal.at.joining-count-requires c).Start).few

pub slice_bounds-copy-end : goal.slice_bounds-copy-end
slice_bounds-copy-end c = sym (counted c)

pub slice_bounds-copy-count : goal.slice_bounds-copy-count
slice_bounds-copy-count c = let r = right (start c) in omega (arith, r.few, r.long)

pub slice_bounds-copy-start : goal.slice_bounds-copy-start
slice_bounds-copy-start c = let r = right (start c) in omega (arith, r.few, r.long)

pub copy-requires : goal.copy-requires
copy-requires c =
    let begun = (goal.at.copy-requires c).After-joining-count in
    let r = right (start begun) in
    let store = (start begun).args.held.now in
    let from = (start begun).args.s.held in
    rw (counted begun, length-take-le (length store - from) (drop from store) (rw length-drop (omega arith)))
    (omega (arith, begun.joining-count.ensures, r.few, r.long))

pub slice_bounds-feed-end : goal.slice_bounds-feed-end
slice_bounds-feed-end c = (laid (goal.at.slice_bounds-feed-end c).After-copy).fits

pub slice_bounds-feed-end-2 : goal.slice_bounds-feed-end-2
slice_bounds-feed-end-2 c =
    let copied = (goal.at.slice_bounds-feed-end-2 c).After-copy in
    sym (length-take-le _ (stored copied) (laid copied).fits)

pub feed-fed-requires : goal.feed-fed-requires
feed-fed-requires c =
    let begun = (goal.at.feed-fed-requires c).After-joining-count in
    ((right (start begun)).counted, (start begun).requires.2, (start begun).requires.3)

pub shape_of-held-then-fed-eq0 : goal.shape_of-held-then-fed-eq0
shape_of-held-then-fed-eq0 c = (laid (goal.at.shape_of-held-then-fed-eq0 c).After-copy).same

pub returns-then-fed-eq0 : goal.returns-then-fed-eq0
returns-then-fed-eq0 c =
    let fed = (goal.at.returns-then-fed-eq0 c).After-feed-fed in
    let input = (from_start fed).args.input.now in
    ap (λ r. call_of r (stored (copied fed)) (after fed)) c.untaken.ensures
    ∙ ap₂ (λ n l. call_of (untaken_of fed.feed-fed.result (from_start fed).args.s.held
    ((from_start fed).args.s.held + n) (length input)) l (after fed))
    (begun (copied fed)).joining-count.ensures (laid (copied fed)).stored_is
    ∙ held-untaken (from_start fed).args.s (store (copied fed)) (from_start fed).args.input.now
    (from_start fed).args.output.now (from_start fed).requires.0 (from_start fed).requires.1 fed.feed-fed.result
    (after fed) (told fed) c.if-fed-eq0.true

pub overflow_sub-fed : goal.overflow_sub-fed
overflow_sub-fed c =
    let fed = (goal.at.overflow_sub-fed c).After-feed-fed in
    (held-from (from_start fed).args.s (store (copied fed)) (from_start fed).args.input.now
    (from_start fed).args.output.now (from_start fed).requires.0 (from_start fed).requires.1 fed.feed-fed.result
    (after fed) (told fed) c.if-fed-eq0.false).0

pub rest_piece-requires : goal.rest_piece-requires
rest_piece-requires c =
    let fed = (goal.at.rest_piece-requires c).After-feed-fed in
    let from = held-from (from_start fed).args.s (store (copied fed)) (from_start fed).args.input.now
    (from_start fed).args.output.now (from_start fed).requires.0 (from_start fed).requires.1 fed.feed-fed.result
    (after fed) (told fed) c.if-fed-eq0.false in
    let unchanged = fed.feed-fed.ensures.rows_unchanged in
    let long : held_need ≤ length (stored (copied fed)) = omega (arith, (laid (copied fed)).same, (right (from_start fed)).long) in
    record {
      counted = (from.3, long, unchanged.0 ∙ (from_start fed).requires.2, unchanged.1 ∙ (from_start fed).requires.3);
      from_in_bounds = (from.1, from.2);
    }

pub shape_of-held : goal.shape_of-held
shape_of-held c = c.rest_piece.auto.held ∙ (laid (copied (goal.at.shape_of-held c).After-feed-fed)).same

pub returns : goal.returns
returns c =
    let fed = (goal.at.returns c).After-feed-fed in
    c.rest_piece.ensures
    ∙ ap (λ l. rest_of fed.feed-fed.result (fed.feed-fed.result.taken - (from_start fed).args.s.held) l
    (from_start fed).args.input.now (after fed)) (laid (copied fed)).stored_is
    ∙ held-taken (from_start fed).args.s (store (copied fed)) (from_start fed).args.input.now
    (from_start fed).args.output.now (from_start fed).requires.0 (from_start fed).requires.1 fed.feed-fed.result
    (after fed) (told fed)
    c.if-fed-eq0.false
