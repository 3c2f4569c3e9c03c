-- `records::check_record` meets its contract. The checks give what the tests ask for; the relations are tested where the equations fit.
-- Assumes nothing.
use mathlib.Core.Path.{◌≡◌, refl, sym, ◌∙◌, ap}
use mathlib.Core.List.{List}
use Prim.Native.Nat.{ℕ, zero, suc, ◌*◌, ◌-◌, ◌≤◌}
use native.Mathlib.Nat.{mul-le-mul, le_of_eq}
use native.Mathlib.Omega.{arith}
use lib.Dec.{T}
use lib.IntN.{ℤ}
use lib.ListN.{length, take}
use lib.Seq.{length-take-le}
use mir.Facts.{to_z-of_z}
use Rattle.rules.specs.Layout.{SizeBounds, size-bounds, count_right-iff, lengths_right-iff, numbers_right-iff, NumbersRight, length-rows_of}
use Rattle.rules.specs.Stores as Stores
use Rattle.rules.specs.Stores.{rows_of, relations_of}
use Rattle.stores.specs.Validity.{the_sizes_of}
use Rattle.records.specs.Records.{Tested, fits, refused, check_record_of, after_check, record_call, tests, equation_tests}
use Rattle.records.specs.Records.{relation_tests, answer_to, values_right_of}
use Rattle.records.specs.RecordChecks.{RecordRight, check_record-zero}
use Rattle.records.specs.RecordAnswers.{answer_of, go_on, stays, refused-stays, answer-append, answer-count, equations-count, rows-small}
use Rattle.records.specs.declared.Finding.TheVariants.{Fits}
use Rattle.refusals.specs.Refusals.{number_of, number-nonzero}
use Rattle.std.proofs.Common.{Result, Ok, Err}
use Rattle.std.proofs.lemmas.Result.{err_from_is_err_and}
use mir.Syntax.{w64}
use Rattle.records.proofs.check_record.Goals as goal
use Rattle.records.proofs.check_record.Goals.{In_ok-check, In_ok-finding, In-Fits, Start}

-- The check.
module _ (s : Start) where
  abbrev z : Stores.Sizes
  z = the_sizes_of s.args.sizes

  abbrev checked : ℕ
  checked =
      check_record_of z s.args.count s.args.first s.args.vectors s.args.rows.now s.args.relations.now
      s.args.values.now

refuses : (z : Stores.Sizes) (count : ℕ) (first : ℤ) (vectors : ℕ) (rows relations values : List ℤ) (n : ℕ) → (n ≡ 0 → ⊥)
    → refused n ≡ after_check z count first vectors rows relations values n
unfolding after_check
refuses z count first vectors rows relations values zero h = absurd (h refl)
refuses z count first vectors rows relations values (suc n) h = refl

pub returns-in_err-check : goal.returns-in_err-check
unfolding answer_of record_call
returns-in_err-check c =
    let s = (goal.at.returns-in_err-check c).Start in
    let r = c.in_err-check.field-0.0 in
    let checked-is : number_of r ≡ checked s = simp (to_z-of_z {w = w64} s.ranges.first) at c.in_err-check.ensures in
    let p = err_from_is_err_and c.from_residual.result c.from_residual.ensures.1 in
    rw (p.1, p.2)
    (ap refused checked-is
    ∙ refuses (z s) s.args.count s.args.first s.args.vectors s.args.rows.now s.args.relations.now s.args.values.now
    (checked s) (λ e. number-nonzero r (checked-is ∙ e)))

-- The check passed.
module _ (d : In_ok-check) where
  abbrev a : Start
  a = (goal.at.In_ok-check d).Start

  abbrev st : Start
  st = a

  checked-is : 0 ≡ checked a
  checked-is = simp (to_z-of_z a.ranges.first) at d.in_ok-check.ensures

  right : RecordRight (z a) st.args.count st.args.first st.args.vectors st.args.rows.now st.args.relations.now
      st.args.values.now
  right =
      check_record-zero (z a) st.args.count st.args.first st.args.vectors st.args.rows.now st.args.relations.now
      st.args.values.now
      (sym checked-is)

  bounds : SizeBounds (z a)
  bounds = size-bounds (z a) right.system.sizes

  abbrev need : ℕ
  need = st.args.vectors * st.args.sizes.m

  abbrev known : List ℤ
  known = take need st.args.values.now

  known-long : length known ≡ need
  unfolding the_sizes_of
  known-long = length-take-le need st.args.values.now right.long

  known-near : T (values_right_of known)
  unfolding the_sizes_of
  known-near = right.values-near

  numbers : NumbersRight (z a) st.args.count st.args.rows.now st.args.relations.now
  numbers = (numbers_right-iff (z a) st.args.count st.args.rows.now st.args.relations.now).0 right.system.numbers

  lengths : (Stores.row_need (Stores.equations (z a)) ≤ length st.args.rows.now)
      × (Stores.relation_need ≤ length st.args.relations.now)
  lengths = (lengths_right-iff (Stores.equations (z a)) st.args.rows.now st.args.relations.now).0 right.system.lengths

  abbrev on-equations : List Tested
  on-equations =
      equation_tests (z a) st.args.first known (rows_of st.args.sizes.equations st.args.rows.now) 0
      (st.args.vectors - Stores.span (z a))

  abbrev on-relations : List Tested
  on-relations =
      relation_tests (z a) st.args.first st.args.vectors known 1 (relations_of st.args.count st.args.relations.now)

  -- What the call is to answer.
  whole : record_call (z a) st.args.count st.args.first st.args.vectors st.args.rows.now st.args.relations.now
      st.args.values.now
      ≡ go_on on-relations (answer_to 0 on-equations)
  unfolding record_call after_check tests the_sizes_of Stores.equations
  whole =
      ap (after_check (z a) st.args.count st.args.first st.args.vectors st.args.rows.now st.args.relations.now
      st.args.values.now)
      (sym checked-is)
      ∙ answer-append 0 on-equations on-relations

pub overflow_mul-need : goal.overflow_mul-need
unfolding the_sizes_of
overflow_mul-need c = let d = (goal.at.overflow_mul-need c).In_ok-check in omega (arith, mul-le-mul (right d).few (bounds d).few)

pub slice_bounds-record-end : goal.slice_bounds-record-end
slice_bounds-record-end c = sym (known-long (goal.at.slice_bounds-record-end c).In_ok-check)

pub equations_fit-requires : goal.equations_fit-requires
unfolding the_sizes_of Stores.equations
equations_fit-requires c =
    let d = (goal.at.equations_fit-requires c).In_ok-check in
    simp (to_z-of_z {w = w64} (st d).ranges.first) record {
      t = ((right d).system.sizes, (right d).first-near, (right d).few);
      equations_in_bounds =
          ((lengths d).0, rows-small (z (a d)) (rows_of (st d).args.sizes.equations (st d).args.rows.now) (numbers d).rows_right);
      t_2 = (known-near d, le_of_eq (sym (known-long d)));
    }

pub returns-in_err-finding : goal.returns-in_err-finding
returns-in_err-finding c =
    let d = (goal.at.returns-in_err-finding c).In_ok-check in
    let answered = simp (to_z-of_z {w = w64} (st d).ranges.first) at c.in_err-finding.ensures in
    let p = err_from_is_err_and c.from_residual-in_err-finding.result c.from_residual-in_err-finding.ensures.1 in
    rw (p.1, p.2)
    (sym (refused-stays c.in_err-finding.field-0.0 (on-relations d)) ∙ ap (go_on (on-relations d)) answered ∙ sym (whole d))

-- What the equations answer.
answered : (e : In_ok-finding) → answer_of (Ok e.in_ok-finding.finding)
    ≡ answer_to 0 (on-equations (goal.at.In_ok-finding e).In_ok-check)
answered e =
    let d = (goal.at.In_ok-finding e).In_ok-check in
    simp (to_z-of_z (st d).ranges.first) at e.in_ok-finding.ensures

pub returns-in_default : goal.returns-in_default
returns-in_default c =
    let e = (goal.at.returns-in_default c).In_ok-finding in
    let d = (goal.at.In_ok-finding e).In_ok-check in
    sym (stays e.in_ok-finding.finding (on-relations d) c.in_default.not-Fits)
    ∙ ap (go_on (on-relations d)) (answered e) ∙ sym (whole d)

-- The equations fit.
module _ (k : In-Fits) where
  abbrev e : In_ok-finding
  e = (goal.at.In-Fits k).In_ok-finding

  abbrev d : In_ok-check
  d = (goal.at.In_ok-finding e).In_ok-check

  abbrev tested : ℕ
  tested = k.in-Fits.tested

  all_fit : answer_to 0 (on-equations d) ≡ fits tested
  unfolding answer_of
  all_fit =
      let known : e.in_ok-finding.finding ≡ Fits tested = k.in-Fits.is in
      sym (answered e) ∙ ap (λ r. answer_of (Ok r)) known

  tested-few : tested ≤ 900
  unfolding the_sizes_of Stores.equations
  tested-few =
      let rows = rows_of (st d).args.sizes.equations (st d).args.rows.now in
      let turns = (st d).args.vectors - Stores.span (z (a d)) in
      let some-turns : turns ≤ 64 = omega (arith, (right d).few) in
      let some-rows : length rows ≤ 6 = rw length-rows_of (bounds d).few-equations in
      omega (
        arith,
        answer-count 0 tested (on-equations d) all_fit,
        equations-count (z (a d)) (st d).args.first (known d) rows 0 turns,
        mul-le-mul some-turns some-rows,
      )

pub relations_fit-requires : goal.relations_fit-requires
unfolding the_sizes_of
relations_fit-requires c =
    let e = d c in
    simp (to_z-of_z {w = w64} (st e).ranges.first) record {
      t = ((right e).system.sizes, (right e).first-near, (right e).few);
      count_bound = ((count_right-iff (st e).args.count).0 (right e).system.few, (lengths e).1, (numbers e).relations-right);
      t_2 = (known-near e, le_of_eq (sym (known-long e)), tested-few c);
    }

pub returns : goal.returns
unfolding go_on
returns c =
    let k = (goal.at.returns c).In-Fits in
    (simp (to_z-of_z {w = w64} (st (d k)).ranges.first) at c.relations_fit.ensures)
    ∙ sym (whole (d k) ∙ ap (go_on (on-relations (d k))) (all_fit k))
