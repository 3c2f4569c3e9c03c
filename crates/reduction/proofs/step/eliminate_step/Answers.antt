-- `reduction::step::eliminate_step` meets its contract: where the settled row is the wider, the two rows change places in the store.
-- Assumes nothing.
use mathlib.Core.Path.{◌≡◌, sym, ◌∙◌, ap, subst}
use mathlib.Core.Bool.{not}
use mathlib.Core.List.{List}
use Prim.Native.Nat.{ℕ, ◌+◌, ◌*◌, ◌≤◌, ◌<◌}
use native.Mathlib.Omega.{arith}
use lib.Dec.{T}
use lib.IntN.{ℤ}
use lib.ListN.{length}
use Rattle.algebra.specs.Polynomials.{is_zero_of}
use Rattle.rules.specs.Limits.{column_count, row_length}
use Rattle.rules.specs.Rows.{width}
use Rattle.rules.specs.Stores.{row_of}
use Rattle.rules.specs.Elimination.{Side, multipliers_at, combine_step_of}
use Rattle.reduction.specs.declared.step.Progress.{Progress}
use Rattle.std.specs.Prelude.{Result}
use Rattle.reduction.specs.declared.step.Stop.{Stop}
use Rattle.reduction.specs.Answer.{told, progress_at, step_answer}
use Rattle.sides.specs.Lent.{side_of}
use Rattle.reduction.specs.Progress.{Ready, Reached, Came, state_of}
use Rattle.reduction.specs.NewRows.{row_room}
use Rattle.reduction.specs.StoreExchange.{numbers_at, exchanged_rows, narrowed}
use Rattle.reduction.specs.StoreExchange.{narrowed-exchanged, narrowed-same, narrowed-kept, exchanged-first, exchanged-second}
use Rattle.reduction.specs.StepLaws.{met_entries, reached-after}
use Rattle.reduction.specs.StepCases.{narrowed-ready}
use Rattle.reduction.specs.Unused.{unused-width}
use Rattle.reduction.proofs.step.eliminate_step.Goals as goal
use Rattle.reduction.proofs.step.eliminate_step.Goals.{Start}

-- the arguments
module _ (c : Start) where
  abbrev rows : List ℤ
  rows = c.args.rows.now

  abbrev relations : List ℤ
  relations = c.args.relations.now

  abbrev p : Progress
  p = c.args.p

  abbrev i : ℕ
  i = p.settled

  abbrev j : ℕ
  j = c.args.j

  abbrev n : ℕ
  n = p.rows

  abbrev side : Side
  side = side_of c.args.side

  ready : Ready rows relations p
  ready = c.requires.ready.0

  inside : i < n
  inside = c.requires.ready.1

  settled : j < i
  settled = c.requires.ready.2

  width_is : c.args.width ≡ width (row_of (numbers_at rows i))
  width_is = c.requires.ready.3

  other : j < n
  other = omega (arith, inside, settled)

  room : (k : ℕ) → k < n → k * row_length + row_length ≤ length rows
  room k h = omega (arith, row_room n k rows ready.rows-within h, ready.rows-within.long)

  -- what a combination asks of the store
  abbrev Asked : List ℤ → ℕ → ℕ → Type 0
  Asked r a b =
      (Ready r relations p × (i < n) × (j < i))
      × (T (not (is_zero_of (met_entries r p j))) × ((a ≡ width (row_of (numbers_at r i))) × (b ≡ width (row_of (numbers_at r j)))))

  asked : (r : List ℤ) (a b : ℕ) → r ≡ narrowed rows i j → a ≡ width (row_of (numbers_at r i)) → b ≡ width (row_of (numbers_at r j)) → Asked r a b
  asked r a b e u v =
      let same = sym e in (
        (subst (λ d. Ready d relations p) same (narrowed-ready side ready inside j settled), inside, settled),
        (subst (λ d. T (not (is_zero_of (met_entries d p j)))) same c.requires.t.0, (u, v)),
      )

  -- the outcome, for a store that is the narrowed one
  reached : (r rows' relations' : List ℤ) (o : Result Progress Stop) → r ≡ narrowed rows i j
      → (let s = state_of r relations p in
      Came step_answer n r relations rows' relations' (p.shifts + 1) o (combine_step_of side s i j (multipliers_at s i j)))
      → let s = state_of (narrowed rows i j) relations p in
      Came step_answer n rows relations rows' relations' (p.shifts + 1) o (combine_step_of side s i j (multipliers_at s i j))
  reached r rows' relations' o e h =
      reached-after (narrowed-kept n rows ready.rows-within i j inside other)
      (subst (λ d. let s = state_of d relations p in
      Reached n d relations rows' relations' (p.shifts + 1) (step_answer (told o) (progress_at o)) (combine_step_of side s i j (multipliers_at s i j))) e h)

  -- the rows after the exchange
  first : numbers_at (exchanged_rows rows i j) i ≡ numbers_at rows j
  first = exchanged-first n rows ready.rows-within i j inside other

  second : numbers_at (exchanged_rows rows i j) j ≡ numbers_at rows i
  second = exchanged-second n rows ready.rows-within i j inside other (λ e. omega (arith, e, settled))

pub width_at-other-requires : goal.width_at-other-requires
width_at-other-requires c =
    let b = (goal.at.width_at-other-requires c).Start in
    (room b (j b) (other b), b.requires.t.1, unused-width column_count b.args.span (ready b) (j b) (other b) b.requires.t.2)

pub exchange-requires : goal.exchange-requires
exchange-requires c =
    let b = (goal.at.exchange-requires c).Start in
    record {
      row_length_in_bounds = (room b (i b) (inside b), room b (j b) (other b));
      width_value = (width_is b, c.width_at-other.ensures);
    }

pub combine_step-requires : goal.combine_step-requires
combine_step-requires c =
    let b = (goal.at.combine_step-requires c).Start in
    let call = c.exchange in
    let wider = c.width_at-other in
    let wide = sym (narrowed-exchanged (rows b) (i b) (j b) (omega (arith, width_is b, wider.ensures, c.if-width-other.true))) in
    let a = asked b call.new.rows wider.result b.args.width (call.ensures ∙ wide)
    (wider.ensures ∙ ap (λ l. width (row_of l)) (sym (ap (λ d. numbers_at d (i b)) call.ensures ∙ first b)))
    (width_is b ∙ ap (λ l. width (row_of l)) (sym (ap (λ d. numbers_at d (j b)) call.ensures ∙ second b))) in
    record { ready = a.0; t = a.1.0; width_value = a.1.1 }

pub returns-then-width-other : goal.returns-then-width-other
returns-then-width-other c =
    let b = (goal.at.returns-then-width-other c).Start in
    let call = c.exchange in
    let wider = c.width_at-other in
    let wide = sym (narrowed-exchanged (rows b) (i b) (j b) (omega (arith, width_is b, wider.ensures, c.if-width-other.true))) in
    reached b call.new.rows c.combine_step.new.rows c.combine_step.new.relations c.combine_step.result (call.ensures ∙ wide) c.combine_step.ensures

pub combine_step-requires-2 : goal.combine_step-requires-2
combine_step-requires-2 c =
    let b = (goal.at.combine_step-requires-2 c).Start in
    let wider = c.width_at-other in
    let a = asked b (rows b) b.args.width wider.result
    (sym (narrowed-same (rows b) (i b) (j b) (omega (arith, width_is b, wider.ensures, c.if-width-other.false)))) (width_is b) wider.ensures in
    record { ready = a.0; t = a.1.0; width_value = a.1.1 }

pub returns : goal.returns
returns c =
    let b = (goal.at.returns c).Start in
    let wider = c.width_at-other in
    let same = sym (narrowed-same (rows b) (i b) (j b) (omega (arith, width_is b, wider.ensures, c.if-width-other.false))) in
    reached b (rows b) c.combine_step-2.new.rows c.combine_step-2.new.relations c.combine_step-2.result same c.combine_step-2.ensures
