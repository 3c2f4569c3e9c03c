-- `own_logs::lines::elimination` meets its contract: where the settled row is the wider, the exchange comes before the combination.
-- Assumes nothing.
use mathlib.Core.Path.{◌≡◌, refl, sym, ◌∙◌, ap, subst, subst₂}
use mathlib.Core.Bool.{Bool, true, false, not, cond}
use mathlib.Core.List.{List, [], ◌∷◌, ◌++◌}
use Prim.Native.Nat.{ℕ, ◌+◌, ◌*◌, ◌≤◌, ◌<◌}
use native.Mathlib.Numerals.{add-one}
use native.Mathlib.Omega.{arith}
use borrow.Author.Tests.{lt-ltb, le-ltb}
use lib.Dec.{T, ltb}
use lib.IntN.{ℤ, pos}
use lib.ListN.{length, get_or, take, drop}
use Rattle.algebra.specs.Polynomials.{is_zero_of}
use Rattle.lists.specs.Tests.{every}
use Rattle.rules.specs.Calls.{zeros}
use Rattle.rules.specs.Limits.{coefficient_count, column_count, entries_length, most_equations, row_length, small}
use Rattle.rules.specs.Rows.{width, entry}
use Rattle.rules.specs.Stores.{row_of, row_need}
use Rattle.sides.specs.Lent.{Within}
use Rattle.working_rows.specs.Found.{Columns-at, width-most}
use Rattle.working_rows.specs.Working.{working_of}
use Rattle.reduction.specs.declared.step.Progress.{Progress}
use Rattle.reduction.specs.Progress.{Ready}
use Rattle.reduction.specs.NewRows.{row_room}
use Rattle.reduction.specs.StoreExchange.{numbers_at, narrowed, Loaded, loaded-from, exchanged-loaded, length-numbers_at, small-numbers_at}
use Rattle.reduction.specs.StoreExchange.{narrowed-exchanged, narrowed-same, narrowed-within}
use Rattle.log_steps.specs.Logs.{Change, exchanging}
use Rattle.own_logs.specs.Own.{change_numbers}
use Rattle.own_logs.specs.declared.lines.Lines.{Lines}
use Rattle.own_logs.specs.OwnLines.{LinesOf, CombinationLine, Eliminated, combination_by, target_in, pivot_in, multipliers_after}
use Rattle.own_logs.specs.LineLaws.{lines-one, lines_two}
use Rattle.own_logs.proofs.lines.elimination.Goals as goal
use Rattle.own_logs.proofs.lines.elimination.Goals.{After-row_at-other, After-width_at, Else-width-width_at, Start, Then-width-width_at}

-- the arguments
module _ (c : Start) where
  abbrev rows : List ℤ
  rows = c.args.rows.now

  abbrev p : Progress
  p = c.args.p

  abbrev i : ℕ
  i = p.settled

  abbrev j : ℕ
  j = c.args.j

  abbrev n : ℕ
  n = p.rows

  ready : Ready rows c.requires.readable.0.relations p
  ready = c.requires.readable.0.ready

  inside : i < n
  inside = c.requires.readable.1

  settled : j < i
  settled = c.requires.readable.2

  width_is : c.args.width ≡ width (row_of (numbers_at rows i))
  width_is = c.requires.readable.3

  other : j < n
  other = omega (arith, inside, settled)

  room : (k : ℕ) → k < n → k * row_length + row_length ≤ length rows
  room k h = omega (arith, row_room n k rows ready.rows-within h, ready.rows-within.long)

  -- the numbers of row k, as a working row has them
  held : (k : ℕ) → k < n → Loaded rows k (working_of (take entries_length (drop (k * row_length) rows))
      (take coefficient_count (drop (k * row_length + entries_length) rows)))
  held k h = loaded-from rows k _ (room k h) refl

  abbrev column : ℕ
  column = get_or p.order j 0

  abbrev after : List ℤ
  after = narrowed rows i j

  within-after : Within (row_need n) after
  within-after = narrowed-within n rows ready.rows-within i j inside other

  -- the rows that are combined
  pub record Narrowed (t q : List ℤ) : Type 0 where
    pub target_is : t ≡ numbers_at after i
    pub pivot-is : q ≡ numbers_at after j

  -- what a combination asks
  asked : (t q : List ℤ) → Narrowed t q
      → ((i < most_equations) × (j < most_equations) × (column < column_count))
      × (((length t ≡ row_length) × (length q ≡ row_length) × T (every small t) × T (every small q))
      × T (not (is_zero_of (entry (row_of q) column ++ entry (row_of t) column))))
  asked t q k = (
    (omega (arith, inside, ready.few-rows), omega (arith, other, ready.few-rows), Columns-at p.order ready.columns j),
    (
      (
        ap length k.target_is ∙ length-numbers_at n after within-after i inside,
        ap length k.pivot-is ∙ length-numbers_at n after within-after j other,
        subst (λ m. T (every small m)) (sym k.target_is) (small-numbers_at n after within-after i inside),
        subst (λ m. T (every small m)) (sym k.pivot-is) (small-numbers_at n after within-after j other),
      ),
      subst₂ (λ a b. T (not (is_zero_of (entry (row_of a) column ++ entry (row_of b) column)))) (sym k.pivot-is) (sym k.target_is)
          c.requires.t,
    ),
  )

  -- what it gives
  combined-line : (t q l : List ℤ) → Narrowed t q → CombinationLine i j column (row_of t) (row_of q) l
      → CombinationLine i j column (target_in rows p j) (pivot_in rows p j) l
  combined-line t q l k line = subst₂ (λ a b. CombinationLine i j column (row_of a) (row_of b) l) k.target_is k.pivot-is line

  abbrev whole : Change
  whole = combination_by i j (multipliers_after rows p j) (target_in rows p j) (pivot_in rows p j)

  -- the lines, by the test of the widths
  abbrev changes_by : Bool → List Change
  changes_by t = cond t (exchanging i j ∷ whole ∷ []) (whole ∷ [])

  said : (t : Bool) (lines : Lines) → ltb (width (row_of (numbers_at rows i))) (width (row_of (numbers_at rows j))) ≡ t
      → LinesOf (changes_by t) lines → LinesOf
      (changes_by (ltb (width (row_of (numbers_at rows i))) (width (row_of (numbers_at rows j))))) lines
  said t lines e h = subst (λ u. LinesOf (changes_by u) lines) (sym e) h

-- both rows, where they stand
module _ (c : After-width_at) where
  abbrev seen : After-row_at-other
  seen = (goal.at.After-width_at c).After-row_at-other

  abbrev start : Start
  start = (goal.at.After-row_at-other seen).Start

  abbrev first : List ℤ
  first = seen.row_at-row.result.now

  abbrev second : List ℤ
  second = seen.row_at-other.result.now

  first-is : first ≡ numbers_at (rows start) (i start)
  first-is = seen.row_at-row.ensures.result_value

  second_is : second ≡ numbers_at (rows start) (j start)
  second_is = seen.row_at-other.ensures.result_value

-- the exchange
module _ (c : Then-width-width_at) where
  abbrev looked : After-width_at
  looked = (goal.at.Then-width-width_at c).After-width_at

  abbrev b : Start
  b = start looked

  wider : width (row_of (numbers_at (rows b) (i b))) < width (row_of (numbers_at (rows b) (j b)))
  wider = omega (arith, width_is b, looked.width_at.ensures, c.if-width-width_at.true)

  different : j b ≡ i b → ⊥
  different e = omega (arith, settled b, e)

  exchanged : Narrowed b (second looked) (first looked)
  exchanged =
      let w = (ready b).rows-within in
      let held-i = held b (i b) (inside b) in
      let held-j = held b (j b) (other b) in
      let both = exchanged-loaded (n b) (rows b) w (i b) (j b) (inside b) (other b) different _ _ held-i held-j in
      let same = narrowed-exchanged (rows b) (i b) (j b) wider in
      record {
        target_is = second_is looked ∙ sym held-j.numbers ∙ both.0.numbers ∙ ap (λ d. numbers_at d (i b)) (sym same);
        pivot-is = first-is looked ∙ sym held-i.numbers ∙ both.1.numbers ∙ ap (λ d. numbers_at d (j b)) (sym same);
      }

-- no exchange
module _ (c : Else-width-width_at) where
  abbrev kept : After-width_at
  kept = (goal.at.Else-width-width_at c).After-width_at

  abbrev base : Start
  base = start kept

  not_wider : width (row_of (numbers_at (rows base) (j base))) ≤ width (row_of (numbers_at (rows base) (i base)))
  not_wider = omega (arith, width_is base, kept.width_at.ensures, c.if-width-width_at.false)

  same-places : Narrowed base (first kept) (second kept)
  same-places =
      let same = narrowed-same (rows base) (i base) (j base) not_wider in
      record {
        target_is = first-is kept ∙ ap (λ d. numbers_at d (i base)) (sym same);
        pivot-is = second_is kept ∙ ap (λ d. numbers_at d (j base)) (sym same);
      }

pub row_at-row-requires : goal.row_at-row-requires
row_at-row-requires c = let b = (goal.at.row_at-row-requires c).Start in room b (i b) (inside b)

pub row_at-other-requires : goal.row_at-other-requires
row_at-other-requires c = let b = (goal.at.row_at-other-requires c).Start in room b (j b) (other b)

pub width_at-requires : goal.width_at-requires
width_at-requires c =
    let b = (goal.at.width_at-requires c).Start in
    (room b (j b) (other b), omega arith, omega (arith, width-most (numbers_at (rows b) (j b))))

pub combination-second-requires : goal.combination-second-requires
combination-second-requires c =
    let d = (goal.at.combination-second-requires c).Then-width-width_at in
    let all = asked (b d) (second (looked d)) (first (looked d)) (exchanged d) in
    record { i_lt_most_equations = all.0; target_len = all.1.0; t = all.1.1 }

pub returns-then-width-width_at : goal.returns-then-width-width_at
unfolding change_numbers zeros
returns-then-width-width_at c =
    let d = (goal.at.returns-then-width-width_at c).Then-width-width_at in
    let a = b d in
    let l = c.combination-second.result in
    let line = combined-line a (second (looked d)) (first (looked d)) l (exchanged d) c.combination-second.ensures in
    let first = c.plain-first.ensures
    ∙ (λ k. pos 1 ∷ pos (add-one (i a) k) ∷ pos (add-one (j a) k) ∷ zeros 33) in
    let long = ap length c.plain-first.ensures in
    record {
      two = record { few = omega arith; first-long = long; second-long = line.long };
      said =
          λ low. said a true _ (lt-ltb _ _ (wider d))
          (lines_two (exchanging (i a) (j a)) (whole a) c.plain-first.result l first (line.said low) long line.long);
    }

pub combination-requires : goal.combination-requires
combination-requires c =
    let all = asked (base c) (first (kept c)) (second (kept c)) (same-places c) in
    record { i_lt_most_equations = all.0; target_len = all.1.0; t = all.1.1 }

pub returns : goal.returns
unfolding zeros
returns c =
    let d = (goal.at.returns c).Else-width-width_at in
    let a = base d in
    let l = c.combination.result in
    let line = combined-line a (first (kept d)) (second (kept d)) l (same-places d) c.combination.ensures in
    subst (Eliminated (rows a) (p a) (j a)) (sym c.one.ensures)
    (record {
      two = record { few = omega arith; first-long = line.long; second-long = refl };
      said = λ low. said a false _ (le-ltb _ _ (not_wider d)) (lines-one (whole a) l (line.said low) line.long);
    })
