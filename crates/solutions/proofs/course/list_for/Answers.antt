-- `solutions::course::list_for` meets its contract. Each part is made where those before it passed no limit.
-- Assumes nothing.
use mathlib.Core.Path.{◌≡◌, sym, ◌∙◌, ap, ap₂}
use mathlib.Core.List.{List, []}
use Prim.Native.Nat.{ℕ, suc, ◌+◌, ◌*◌, ◌≤◌}
use native.Mathlib.Nat.{mul-le-mul}
use native.Mathlib.Numerals.{add-one}
use native.Mathlib.Omega.{arith}
use lib.IntN.{ℤ}
use lib.ListN.{length, take}
use Rattle.lists.specs.Everywhere.{all_both}
use Rattle.rules.specs.Layout.{SizeBounds, size-bounds, length-rows_of, length-relations_of}
use Rattle.rules.specs.Rows.{Row, Relation}
use Rattle.rules.specs.Stores as Stores
use Rattle.stores.specs.Validity.{the_sizes_of}
use Rattle.sides.specs.Lent.{Kept}
use Rattle.sides.specs.StoreStates.{kept_same, kept_then}
use Rattle.runs.specs.CallLaws.{Checked, checked, few-blocks}
use Rattle.constant_rows.specs.RowLimits.{rows-limits}
use Rattle.constant_rows.specs.Constants.{fine, the_columns_of, constant_rows_of}
use Rattle.constant_rows.specs.ConstantStores.{told-made, told-passed, told-refused, told-fine, told-stopped}
use Rattle.solutions.specs.CourseLaws.{refused-on, rows-small, rows-count, rest, left, sound}
use Rattle.echelon.specs.Eliminated.{Pivot, eliminate}
use Rattle.back_substitution.specs.Listed.{sequences}
use Rattle.constant_rows.specs.Matrices.{matrix_rows, Reports, Told}
use Rattle.refusals.specs.Refusals.{refusal_in}
use Rattle.echelon.specs.declared.Eliminated.{Eliminated}
use Rattle.echelon.specs.MatrixTurns.{pivots_in}
use Rattle.solutions.specs.SolutionAnswers.{list_for_of}
use Rattle.constant_rows.specs.ListLengths.{list_columns, matrix_need}
use Rattle.echelon.specs.SoundRows.{Sound}
use Rattle.solutions.proofs.course.list_for.Goals as goal
use Rattle.solutions.proofs.course.list_for.Goals.{After-constant_rows, After-eliminate, After-span, In_ok-constant_rows, In_ok-eliminated, Start}

module _ (s : Start) where
  abbrev z : Stores.Sizes
  z = the_sizes_of s.args.sizes

  abbrev m : ℕ
  m = s.args.sizes.m

  abbrev N : ℕ
  N = s.args.last

  abbrev rows : List Row
  rows = Stores.rows_of s.args.sizes.equations s.args.rows.now

  abbrev relations : List Relation
  relations = Stores.relations_of s.args.count s.args.relations.now

  ok : Checked z s.args.count s.args.rows.now s.args.relations.now
  ok = checked z s.args.count s.args.rows.now s.args.relations.now s.requires.relations_value

  bounds : SizeBounds z
  bounds = size-bounds z ok.sizes

  few : m ≤ 4
  unfolding the_sizes_of
  few = bounds.few

  few-equations : s.args.sizes.equations ≤ 6
  unfolding the_sizes_of Stores.equations
  few-equations = bounds.few-equations

-- The rows are made, or a limit is passed.
module _ (d : After-constant_rows) where
  abbrev st : Start
  st = (goal.at.After-constant_rows d).Start

  abbrev matrix₁ : List ℤ
  matrix₁ = d.constant_rows.new.matrix

  abbrev Rows : List (List ℤ) → Type 0
  Rows rs = matrix_rows (the_columns_of (m st) (N st)) (length rs) matrix₁ ≡ rs

  reported : Reports Rows (constant_rows_of (z st) (N st) (rows st) (relations st)) (refusal_in d.constant_rows.result)
  reported = d.constant_rows.ensures.reports

  kept : Kept matrix_need st.args.matrix.now matrix₁
  kept = d.constant_rows.ensures.kept

pub returns-in_err-constant_rows : goal.returns-in_err-constant_rows
unfolding list_for_of
returns-in_err-constant_rows c =
    let d = (goal.at.returns-in_err-constant_rows c).After-constant_rows in
    let s = st d in
    let r = c.in_err-constant_rows.field-0.0 in record {
      reports = told-refused _ _ _ r c.from_residual.ensures.1
          (refused-on (constant_rows_of (z s) (N s) (rows s) (relations s)) _ _ (told-passed _ _ _ r (reported d) c.in_err-constant_rows.was));
      kept = (kept d, kept_same _ _);
    }

-- They are made.
module _ (e : In_ok-constant_rows) where
  abbrev d : After-constant_rows
  d = (goal.at.In_ok-constant_rows e).After-constant_rows

  abbrev s : Start
  s = st d

  made : (rs : List (List ℤ)) × (constant_rows_of (z s) (N s) (rows s) (relations s) ≡ fine rs) × Rows d rs
  made =
      told-made (Rows d) (constant_rows_of (z s) (N s) (rows s) (relations s)) d.constant_rows.result tt
      (rows-limits (z s) (N s) (rows s) (relations s)) (reported d) e.in_ok-constant_rows.was

  abbrev rs : List (List ℤ)
  rs = made.0

  columns-few : (N s + 1) * m s ≤ 64
  columns-few = let indices : N s + 1 ≤ 16 = omega (arith, s.requires.last_le_largest_index.0) in mul-le-mul indices (few s)

pub overflow_mul-columns : goal.overflow_mul-columns
overflow_mul-columns c = omega (arith, columns-few (goal.at.overflow_mul-columns c).In_ok-constant_rows)

pub span-requires : goal.span-requires
span-requires c = (ok (s (goal.at.span-requires c).In_ok-constant_rows)).sizes

-- How many there are.
module _ (f : After-span) where
  abbrev e : In_ok-constant_rows
  e = (goal.at.After-span f).In_ok-constant_rows

  abbrev n : ℕ
  n = (N (s e) + 1) * m (s e)

  abbrev asked : ℕ
  asked = (N (s e) + f.span.result + 1) * (s e).args.sizes.equations + (s e).args.count

  span-few : f.span.result ≤ 4
  span-few = rw f.span.ensures (few-blocks (z (s e)) (ok (s e)).sizes)

  indices-few : N (s e) + f.span.result + 1 ≤ 20
  indices-few = omega (arith, (s e).requires.last_le_largest_index.0, span-few)

  product-few : (N (s e) + f.span.result + 1) * (s e).args.sizes.equations ≤ 120
  product-few = mul-le-mul indices-few (few-equations (s e))

  asked-few : asked ≤ 136
  asked-few = omega (arith, product-few, (ok (s e)).listing.few)

  n-is : n ≡ the_columns_of (m (s e)) (N (s e))
  unfolding the_columns_of
  n-is = ap (λ k. k * m (s e)) (add-one (N (s e)))

  asked_is : asked ≡ length (rs e)
  asked_is =
      ap (λ k. k * (s e).args.sizes.equations + (s e).args.count) (add-one _ ∙ ap (λ k. suc (N (s e) + k)) f.span.ensures)
      ∙ sym (ap₂ (λ a b. suc (N (s e) + Stores.span (z (s e))) * a + b) (length-rows_of _ _) (length-relations_of _ _))
      ∙ sym (rows-count (z (s e)) (N (s e)) (rows (s e)) (relations (s e)) (rs e) (made e).1)

  held : matrix_rows n asked (matrix₁ (d e)) ≡ rs e
  held = ap₂ (λ k i. matrix_rows k i (matrix₁ (d e))) n-is asked_is ∙ (made e).2

pub overflow_add-asked : goal.overflow_add-asked
overflow_add-asked c = omega (arith, indices-few c)

pub overflow_add-asked-2 : goal.overflow_add-asked-2
overflow_add-asked-2 c = omega (arith, indices-few c)

pub overflow_mul-asked : goal.overflow_mul-asked
overflow_mul-asked c = omega (arith, product-few (goal.at.overflow_mul-asked c).After-span)

pub overflow_add-asked-3 : goal.overflow_add-asked-3
overflow_add-asked-3 c = omega (arith, asked-few (goal.at.overflow_add-asked-3 c).After-span)

pub eliminate-requires : goal.eliminate-requires
eliminate-requires c =
    let f = (goal.at.eliminate-requires c).After-span in
    let s = s (e f) in (
      columns-few (e f),
      asked-few f,
      rw (kept (d (e f))).same_length s.requires.last_le_largest_index.1,
      rw (held f) (rows-small (z s) (N s) (rows s) (relations s) (rs (e f)) (made (e f)).1),
    )

-- The elimination.
module _ (g : After-eliminate) where
  abbrev f : After-span
  f = (goal.at.After-eliminate g).After-span

  abbrev a : Start
  a = s (e f)

  abbrev matrix₂ : List ℤ
  matrix₂ = g.eliminate.new.matrix

  abbrev Settled : Eliminated → List Pivot → Type 0
  Settled x ps =
      (x.settled ≡ length ps) × (x.settled ≤ n f) × (length x.columns ≡ list_columns)
      × (pivots_in (n f) (take x.settled x.columns) matrix₂ ≡ ps)

  eliminated : Told Settled (eliminate [] (rs (e f))) g.eliminate.result
  eliminated = rw (held f) at g.eliminate.ensures.reports

  kept-both : Kept matrix_need a.args.matrix.now matrix₂
  kept-both = kept_then (kept (d (e f))) g.eliminate.ensures.kept

pub returns-in_err-eliminated : goal.returns-in_err-eliminated
returns-in_err-eliminated c =
    let g = (goal.at.returns-in_err-eliminated c).After-eliminate in
    let t = a g in
    let onward = rest (z t) (N t) (rows t) (relations t) (rs (e (f g))) (made (e (f g))).1 in
    let r = c.in_err-eliminated.field-0.0 in record {
      reports = rw onward
          (told-refused _ _ _ r c.from_residual-in_err-eliminated.ensures.1
          (refused-on (eliminate [] (rs (e (f g)))) (sequences (the_columns_of (z t).m (N t))) _
          (told-stopped (Settled g) _ _ r (eliminated g) c.in_err-eliminated.was)));
      kept = (kept-both g, kept_same _ _);
    }

-- The rows are settled.
module _ (h : In_ok-eliminated) where
  abbrev g : After-eliminate
  g = (goal.at.In_ok-eliminated h).After-eliminate

  abbrev t : Start
  t = a g

  abbrev x : Eliminated
  x = h.in_ok-eliminated.eliminated

  settled : (ps : List Pivot) × (eliminate [] (rs (e (f g))) ≡ fine ps) × Settled g x ps
  settled = told-fine (Settled g) (eliminate [] (rs (e (f g)))) g.eliminate.result x (eliminated g) h.in_ok-eliminated.was

  abbrev ps : List Pivot
  ps = settled.0

  all_sound : Sound (n (f g)) ps
  unfolding the_sizes_of
  all_sound =
      rw (n-is (f g))
      (sound (z t) (N t) (rows t) (relations t) (rs (e (f g))) (made (e (f g))).1 ps settled.1)

  onward : list_for_of (z t) (N t) (rows t) (relations t)
      ≡ sequences (n (f g)) (pivots_in (n (f g)) (take x.settled x.columns) (matrix₂ g))
  unfolding the_sizes_of
  onward =
      left (z t) (N t) (rows t) (relations t) (rs (e (f g))) (made (e (f g))).1 ps settled.1
      ∙ ap₂ sequences (sym (n-is (f g))) (sym settled.2.3)

pub list_sequences-requires : goal.list_sequences-requires
list_sequences-requires c =
    let h = (goal.at.list_sequences-requires c).In_ok-eliminated in
    let p = all_sound h in record {
      n_le_list_columns = (
        columns-few (e (f (g h))),
        (settled h).2.1,
        rw (kept-both (g h)).same_length (t h).requires.last_le_largest_index.1,
        (settled h).2.2,
      );
      echelon = rw (settled h).2.3 (p.echelon, all_both _ _ (ps h) p.numbers p.columns);
      list_need_in_bounds = ((t h).requires.last_le_largest_index.2, (t h).requires.last_le_largest_index.3);
    }

pub returns : goal.returns
returns c =
    let h = (goal.at.returns c).In_ok-eliminated in
    record {
      reports = rw (onward h) c.list_sequences.ensures.reports;
      kept = (kept-both (g h), c.list_sequences.ensures.kept);
    }
