-- `log_steps::combining::combine_rows` meets its contract: each test is a part of the condition.
-- Assumes nothing.
use mathlib.Core.Path.{◌≡◌, refl, sym, ◌∙◌, ap, ap₂, subst}
use mathlib.Core.Bool.{◌&&◌, not, true, and-false}
use mathlib.Core.List.{List}
use Prim.Native.Nat.{ℕ, ◌<◌}
use native.Mathlib.Omega.{arith}
use lib.Dec.{T, ltb, eqb}
use lib.IntN.{ℤ, nat_abs}
use Rattle.std.specs.Prelude.{Result}
use Rattle.std.proofs.Common.{Some}
use Rattle.refusals.specs.declared.Refusal.{Refusal}
use Rattle.rules.specs.Elimination.{Limited}
use mir.Syntax.{w64}
use mir.Facts.{to_z-of_z}
use Rattle.algebra.specs.Polynomials.{Polynomial, is_zero_of}
use Rattle.lists.specs.Tests.{every}
use Rattle.rules.specs.Limits.{small}
use Rattle.rules.specs.Rows.{coefficients_of}
use Rattle.working_rows.specs.declared.WorkingRow.{WorkingRow}
use Rattle.working_rows.specs.Worked.{Shown}
use Rattle.reduction.specs.declared.step.Progress.{Progress}
use Rattle.reduction.specs.Progress.{Ready, state_of}
use Rattle.reduction.specs.NewRows.{full-limited}
use Rattle.reduction.specs.StoreExchange.{numbers_at, length-numbers_at, small-numbers_at}
use Rattle.log_steps.specs.Logs.{combining, allowed, divides_all}
use Rattle.log_steps.specs.Divisions.{combined, divided-storable}
use Rattle.log_steps.specs.StoreChanges.{Begun, begun-few, begun-room, two-places, stepped_same, combining-changed}
use Rattle.log_steps.proofs.StoreChanges.{step-refused}
use Rattle.log_steps.specs.StoreCombinations.{Judged, new_row, judged_row, judged-exact, exact-judged, inexact-judged}
use Rattle.log_steps.proofs.StoreCombinations.{absent-combined}
use Rattle.log_steps.proofs.StoreCombinations.{combine-allowed}
use Rattle.log_steps.proofs.combining.combine_rows.Goals as goal
use Rattle.log_steps.proofs.combining.combine_rows.Goals.{After-divided_row, Else-not-two_rows, Start}

-- the arguments
module _ (c : Start) where
  abbrev rows : List ℤ
  rows = c.args.rows.now

  abbrev relations : List ℤ
  relations = c.args.relations.now

  abbrev p : Progress
  p = c.args.p

  abbrev i : ℕ
  i = c.args.i

  abbrev j : ℕ
  j = c.args.j

  abbrev d : ℕ
  d = nat_abs c.args.d

  abbrev g : Polynomial
  g = c.args.g.now

  abbrev h : Polynomial
  h = c.args.h.now

  ready : Ready rows relations p
  ready = c.requires.ready.0

  none : p.settled ≡ 0
  none = c.requires.ready.1

  begun : Begun rows p
  begun = record { few-rows = ready.few-rows; rows-within = ready.rows-within; unsettled = none }

-- both rows are present
module _ (c : Else-not-two_rows) where
  abbrev start : Start
  start = (goal.at.Else-not-two_rows c).Start

  tested : ((ltb (i start) (p start).rows && ltb (j start) (p start).rows) && not (eqb (i start) (j start))) ≡ true
  tested = sym c.two_rows.ensures ∙ c.if-not-two_rows.false

  inside : i start < (p start).rows
  inside = (two-places (i start) (j start) (p start).rows tested).0

  other : j start < (p start).rows
  other = (two-places (i start) (j start) (p start).rows tested).1

  abbrev whole : List ℤ
  whole = coefficients_of (combined (g start) (h start) (numbers_at (rows start) (i start)) (numbers_at (rows start) (j start)))

  condition : (D : ℕ) → allowed D (state_of (rows start) (relations start) (p start))
      (combining (i start) (j start) (d start) (g start) (h start))
      ≡ (not (is_zero_of (g start)) && divides_all (d start) whole)
  condition D =
      combine-allowed (ready start) (none start) (i start) (j start) (d start) (g start) (h start) inside other D
      ∙ ap (λ t. t && (not (is_zero_of (g start)) && divides_all (d start) whole)) tested

-- the new row
module _ (c : After-divided_row) where
  abbrev passed : Else-not-two_rows
  passed = (goal.at.After-divided_row c).Else-not-two_rows

  abbrev base : Start
  base = start passed

  abbrev target : List ℤ
  target = numbers_at (rows base) (i base)

  abbrev pivot : List ℤ
  pivot = numbers_at (rows base) (j base)

  abbrev judged : Limited
  judged = judged_row (d base) (g base) (h base) target pivot

  judged-is : Judged c.divided_row.result judged
  judged-is =
      subst (Judged c.divided_row.result)
      (λ k. judged_row (nat_abs (to_z-of_z {w = w64} base.ranges.d k)) (g base) (h base) (c.row_at-target.ensures.result_value k)
      (c.row_at-pivot.ensures.result_value k))
      c.divided_row.ensures

  nonzero : not (is_zero_of (g base)) ≡ true
  nonzero = ap not (sym c.is_zero.ensures ∙ c.if-is_zero.false)

  -- the integer divides every coefficient
  module _ (w : Result WorkingRow Refusal) (some : c.divided_row.result ≡ Some w) where
    told : Judged (Some w) judged
    told = subst (λ o. Judged o judged) some judged-is

    exact : divides_all (d base) (whole passed) ≡ true
    exact = exact-judged (d base) (g base) (h base) target pivot told.0

    shown : Shown w (new_row (d base) (g base) (h base) target pivot)
    shown = subst (Shown w) (judged-exact (d base) (g base) (h base) target pivot exact) told.1

pub returns-then-not-two_rows : goal.returns-then-not-two_rows
returns-then-not-two_rows c =
    let s = (goal.at.returns-then-not-two_rows c).Start in
    rw c.stopped.ensures (λ D. step-refused D (ready s) (none s) (combining (i s) (j s) (d s) (g s) (h s))
    (absent-combined (ready s) (none s) (i s) (j s) (d s) (g s) (h s) D (sym c.two_rows.ensures ∙ c.if-not-two_rows.true)))

pub returns-then-is_zero : goal.returns-then-is_zero
returns-then-is_zero c =
    let e = (goal.at.returns-then-is_zero c).Else-not-two_rows in
    let s = start e in
    rw c.stopped-then-is_zero.ensures (λ D. step-refused D (ready s) (none s) (combining (i s) (j s) (d s) (g s) (h s))
    (condition e D ∙ ap (λ t. not t && divides_all (d s) (whole e)) (sym c.is_zero.ensures ∙ c.if-is_zero.true)))

pub overflow_mul-i : goal.overflow_mul-i
overflow_mul-i c =
    let e = (goal.at.overflow_mul-i c).Else-not-two_rows in
    let s = start e in omega (arith, begun-few (begun s) (i s) (inside e))

pub row_at-target-requires : goal.row_at-target-requires
row_at-target-requires c =
    let e = (goal.at.row_at-target-requires c).Else-not-two_rows in
    let s = start e in begun-room (begun s) (i s) (inside e)

pub overflow_mul-j : goal.overflow_mul-j
overflow_mul-j c =
    let e = (goal.at.overflow_mul-j c).Else-not-two_rows in
    let s = start e in omega (arith, begun-few (begun s) (j s) (other e))

pub row_at-pivot-requires : goal.row_at-pivot-requires
row_at-pivot-requires c =
    let e = (goal.at.row_at-pivot-requires c).Else-not-two_rows in
    let s = start e in begun-room (begun s) (j s) (other e)

pub divided_row-requires : goal.divided_row-requires
divided_row-requires c =
    let e = (goal.at.divided_row-requires c).Else-not-two_rows in
    let s = start e in
    let w = (ready s).rows-within in record {
      t = rw (to_z-of_z {w = w64} s.ranges.d) s.requires.ready.2;
      g_len = s.requires.g_len;
      target_len = (
        c.row_at-target.ensures.result_len,
        c.row_at-pivot.ensures.result_len,
        subst (λ l. T (every small l)) (sym c.row_at-target.ensures.result_value) (small-numbers_at (p s).rows (rows s) w (i s) (inside e)),
        subst (λ l. T (every small l)) (sym c.row_at-pivot.ensures.result_value) (small-numbers_at (p s).rows (rows s) w (j s) (other e)),
      );
    }

pub returns-in-None : goal.returns-in-None
returns-in-None c =
    let q = (goal.at.returns-in-None c).After-divided_row in
    let e = passed q in
    let s = base q in
    let inexact = inexact-judged (d s) (g s) (h s) (target q) (pivot q) (subst (λ o. Judged o (judged q)) c.in-None.is (judged-is q)) in
    rw c.stopped-in-None.ensures (λ D. step-refused D (ready s) (none s) (combining (i s) (j s) (d s) (g s) (h s))
    (condition e D ∙ ap (λ t. not (is_zero_of (g s)) && t) inexact ∙ and-false (not (is_zero_of (g s)))))

pub combine_allowed-requires : goal.combine_allowed-requires
combine_allowed-requires c =
    let q = (goal.at.combine_allowed-requires c).After-divided_row in
    let s = base q in
    let storable = divided-storable (g s) (h s) (target q) (pivot q) (omega (arith, s.requires.g_len.0))
    (length-numbers_at (p s).rows (rows s) (ready s).rows-within (i s) (inside (passed q))) (d s) in
    record {
      ready = (ready s, none s, inside (passed q));
      g_len = (
        s.requires.g_len.0,
        s.requires.g_len.1,
        full-limited (new_row (d s) (g s) (h s) (target q) (pivot q)) storable c.in-Some.worked (shown q c.in-Some.worked c.in-Some.is),
      );
    }

pub returns-in-Some : goal.returns-in-Some
returns-in-Some c =
    let q = (goal.at.returns-in-Some c).After-divided_row in
    let e = passed q in
    let s = base q in
    λ D.
    let stepped = c.combine_allowed.ensures (j s) (d s) (h s) (other e) (shown q c.in-Some.worked c.in-Some.is) in
    stepped_same refl refl
    (combining-changed D (state_of (rows s) (relations s) (p s)) (i s) (j s) (d s) (g s) (h s)
    (condition e D ∙ ap₂ ◌&&◌ (nonzero q) (exact q c.in-Some.worked c.in-Some.is)))
    stepped
