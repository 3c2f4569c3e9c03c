-- What the combination of a log's step gives on the lent stores.
--
-- Main statements
--   absent-combined, combine-allowed   the condition, where a row is not present, and where both are
--   combine-many               too many relations
--   combine-stepped            the new row, after the relations have been listed
use Rattle.std.specs.Prelude.{ℕ, ◌+◌, ◌≤◌, ◌<◌, ◌≡◌, Bool, ◌&&◌, not, List, ◌++◌, ltb, leb, eqb, ℤ, length, take}
use Rattle.std.proofs.Common.{arith, ◌∙◌, le-leb}
use Rattle.std.proofs.Math.Path.{refl, sym, ap, ap₂}
use Rattle.std.proofs.Math.Bool.{false, cond}
use Rattle.std.proofs.lemmas.Bool.{lt-leb}
use Rattle.std.proofs.Math.ListN.{length-append}
use Rattle.std.proofs.lemmas.List.{length-map}
use Rattle.algebra.specs.Gcd.{divide_by}
use Rattle.algebra.specs.Polynomials.{Polynomial, is_zero_of}
use Rattle.algebra.specs.Roots.{roots}
use Rattle.rules.specs.Rows.{map_row, coefficients_of, combine}
use Rattle.rules.specs.Stores.{row_of, rows_of, relations_of}
use Rattle.rules.specs.Layout.{length-relations_of}
use Rattle.rules.specs.Elimination.{State, leading, refused, limit_degrees, row_at, put_limited_of}
use Rattle.rules.specs.Elimination.{listing, list_relations, root_relations}
use Rattle.sides.specs.Relations.{Relisted, length-listing}
use Rattle.working_rows.specs.Worked.{refusal_of, numbers_of}
use Rattle.reduction.specs.declared.step.Progress.{Progress}
use Rattle.reduction.specs.Progress.{Ready, state, state_of, answer_of, listed_progress, ready_with}
use Rattle.reduction.specs.NewRows.{Storable, saved}
use Rattle.reduction.specs.StoreExchange.{numbers_at, row-of}
use Rattle.reduction.specs.StepLaws.{refused-reached}
use Rattle.log_steps.specs.Logs.{combining, allowed, combine_rows_of, divided_row_of, divides_all}
use Rattle.log_steps.specs.StoreChanges.{Stepped, stepped_same, put-stepped}
use Rattle.log_steps.proofs.StoreChanges.{two-rows-at}
use Rattle.log_steps.specs.StoreCombinations.{new_row}

-- ---- the integer divides every coefficient, and the new row is within the limits

module _ {rows relations : List ℤ} {p : Progress} (ready : Ready rows relations p) (none : p.settled ≡ 0) (i j d : ℕ)
    (g h : Polynomial) where
  abbrev s : State
  s = state_of rows relations p

  abbrev test : Bool
  test = (ltb i p.rows && ltb j p.rows) && not (eqb i j)

  pub absent-combined : (D : ℕ) → test ≡ false → allowed D s (combining i j d g h) ≡ false
  unfolding allowed
  absent-combined D e =
      ap (λ t. t && (not (is_zero_of g) && divides_all d (coefficients_of (combine g h (row_at s i) (row_at s j)))))
      (two-rows-at D ready none i j ∙ e)

  module _ (inside : i < p.rows) (other : j < p.rows) where
    abbrev target : List ℤ
    target = numbers_at rows i

    abbrev pivot : List ℤ
    pivot = numbers_at rows j

    i-row : row_at s i ≡ row_of target
    i-row = row-of rows relations p i inside

    j-row : row_at s j ≡ row_of pivot
    j-row = row-of rows relations p j other

    pub combine-allowed : (D : ℕ) → allowed D s (combining i j d g h)
        ≡ (test && (not (is_zero_of g) && divides_all d (coefficients_of (combine g h (row_of target) (row_of pivot)))))
    unfolding allowed
    combine-allowed D =
        ap₂ (λ t q. t && (not (is_zero_of g) && divides_all d (coefficients_of (combine g h q (row_at s j))))) (two-rows-at D ready none i j) i-row
        ∙ ap (λ q. test && (not (is_zero_of g) && divides_all d (coefficients_of (combine g h (row_of target) q)))) j-row

    abbrev more : ℕ
    more = length (roots g)

    abbrev listed : State
    listed = list_relations s (root_relations leading g (row_at s i))

    listed-count : length listed.relations ≡ p.count + more
    unfolding state_of list_relations root_relations
    listed-count =
        length-append (relations_of p.count relations) (root_relations leading g (row_at s i))
        ∙ ap₂ (λ a b. a + b) (length-relations_of p.count relations)
        (length-map (listing leading (roots g)) (λ n0. record { index = n0; row = row_at s i }) ∙ length-listing leading (roots g))

    pub combine-many : 16 < p.count + more
        → Stepped rows relations rows relations p (answer_of 9 p) (combine_rows_of s i j d g h)
    unfolding combine_rows_of
    combine-many many =
        stepped_same refl refl
        (ap (λ n. cond (leb n 16) (put_limited_of listed i (limit_degrees (divided_row_of s i j d g h))) (refused 9)) listed-count
        ∙ ap (λ t. cond t (put_limited_of listed i (limit_degrees (divided_row_of s i j d g h))) (refused 9)) (lt-leb (p.count + more) 16 many))
        (record { reached = refused-reached ready 8; goes_on = refl; unsettled = none })

    module _ {relations' : List ℤ} (l : Relisted p.count target (listing leading (roots g)) relations relations') where
      listed-state : listed ≡ state_of rows relations' (listed_progress p more)
      unfolding state_of list_relations root_relations
      listed-state = ap (λ r. state (rows_of p.rows rows) r (take p.settled p.order) p.shifts) same
        where
          same : relations_of p.count relations ++ root_relations leading g (row_at s i) ≡ relations_of (p.count + more) relations'
          same =
              ap (λ r. relations_of p.count relations ++ root_relations leading g r) i-row ∙ sym l.relations
              ∙ ap (λ n. relations_of (p.count + n) relations') (length-listing leading (roots g))

      new_is : limit_degrees (divided_row_of s i j d g h) ≡ new_row d g h target pivot
      unfolding divided_row_of
      new_is = ap₂ (λ a b. limit_degrees (map_row (divide_by d) (combine g h a b))) i-row j-row

      pub combine-stepped : p.count + more ≤ 16 → Storable (new_row d g h target pivot)
          → let new = new_row d g h target pivot in
          Stepped rows relations (saved rows i (refusal_of new) (numbers_of new)) relations' p
          (answer_of (refusal_of new) (listed_progress p more)) (combine_rows_of s i j d g h)
      unfolding combine_rows_of
      combine-stepped few storable =
          let next = ready_with ready ready.rows-within (rw (length-listing leading (roots g)) at l.listing) in
          stepped_same refl refl
          (ap (λ n. cond (leb n 16) (put_limited_of listed i (limit_degrees (divided_row_of s i j d g h))) (refused 9)) listed-count
          ∙ ap (λ t. cond t (put_limited_of listed i (limit_degrees (divided_row_of s i j d g h))) (refused 9)) (le-leb (p.count + more) 16 few)
          ∙ ap₂ (λ x y. put_limited_of x i y) listed-state new_is)
          (put-stepped p (listed_progress p more) i (new_row d g h target pivot) refl inside storable l.kept next (omega arith) none)
