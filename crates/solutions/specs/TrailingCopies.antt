-- The trailing run on a copy of the system's stores (SCOPE 14.12, 14.63).
--
-- Main definitions
--   CopyRan                 what the run on the copy gives and leaves
--
-- Main statements
--   rows_of-same, relations_of-same   rows and relations are those of the needed parts
--   copy-checked, copy_ran  a copy of the needed parts passes the checks, and the run on it
--   cleared, cleared-used   a needed part that is cleared after it was used, whole or as far as it is not 0
use Rattle.std.specs.Prelude.{ℕ, ◌*◌, ◌-◌, ◌≤◌, ◌≡◌, List, ◌++◌, map, T, ℤ, pos, take, replicate}
use Rattle.std.proofs.Common.{le_refl, le_trans, le_of_eq, add-sub_of_le, arith, sym, ◌∙◌, subst, subst₂, take-append-drop, take_all, take_at, drop_at, length-take-le}
use Rattle.std.proofs.Math.Nat.{zero-add}
use Rattle.std.proofs.Math.Path.{ap, ap₂}
use Rattle.std.proofs.Math.ListN.{length, drop, length-drop}
use Rattle.std.proofs.lemmas.List.{length-replicate, replicate-append-replicate}
use Rattle.std.proofs.Math.Seq.{paste}
use Rattle.std.proofs.lemmas.List.Edits.{length-paste}
use Rattle.algebra.specs.Polynomials.{is_zero_of, is_zero-replicate, zero-list}
use Rattle.lists.specs.Overwritten.{overwrite, overwrite-paste}
use Rattle.lists.specs.Parts.{parts, parts-take}
use Rattle.lists.specs.Pasted.{paste-first, paste-rest, take-paste-within}
use Rattle.lists.specs.Tests.{every}
use Rattle.rules.specs.Limits.{row_length, relation_length, most_relations, small}
use Rattle.rules.specs.Calls.{zeros}
use Rattle.rules.specs.Elimination.{trailing, whole_run_of, trailing_run_of}
use Rattle.rules.specs.Stores.{Sizes, equations, span, row_of, rows_of, relation_of, relations_of, row_need, relation_need}
use Rattle.rules.specs.Stores.{Valid, check_stores_of}
use Rattle.sides.specs.Lent.{Listing, Kept}
use Rattle.sides.specs.StoreStates.{kept_then}
use Rattle.reduction.specs.Progress.{outcome_at}
use Rattle.reduction.specs.Ran.{Ran}
use Rattle.reduction.specs.Answer as Run
use Rattle.runs.specs.CallLaws.{Checked, Final, checked, final-run}

-- The rows and relations are those of the needed parts.
pub rows_of-same : (n : ℕ) (store store' : List ℤ) → take (row_need n) store' ≡ take (row_need n) store → rows_of n store' ≡ rows_of n store
unfolding rows_of row_need
rows_of-same n store store' e =
    ap (map row_of)
    (sym (parts-take row_length n (n * row_length) store' (le_refl _)) ∙ ap (parts row_length n) e
    ∙ parts-take row_length n (n * row_length) store (le_refl _))

pub relations_of-same : (count : ℕ) (store store' : List ℤ) → count ≤ most_relations
    → take relation_need store' ≡ take relation_need store → relations_of count store' ≡ relations_of count store
unfolding relations_of
relations_of-same count store store' few e =
    let inside : count * relation_length ≤ relation_need = omega arith in
    ap (map relation_of)
    (sym (parts-take relation_length count relation_need store' inside) ∙ ap (parts relation_length count) e
    ∙ parts-take relation_length count relation_need store inside)

-- A copy of what passes the checks passes them.
checked-copy : (z : Sizes) (count : ℕ) (rows relations rows' relations' : List ℤ) → Checked z count rows relations
    → row_need (equations z) ≤ length rows' → relation_need ≤ length relations'
    → take (row_need (equations z)) rows' ≡ take (row_need (equations z)) rows
    → take relation_need relations' ≡ take relation_need relations → Checked z count rows' relations'
checked-copy z count rows relations rows' relations' c rows_long relations-long e f =
    record {
      sizes = c.sizes;
      valid =
          subst₂ (Valid z) (sym (rows_of-same (equations z) rows rows' e))
          (sym (relations_of-same count relations relations' c.listing.few f)) c.valid;
      rows-within = record { long = rows_long; numbers = subst (λ l. T (every small l)) (sym e) c.rows-within.numbers };
      listing =
          record {
            few = c.listing.few;
            within = record { long = relations-long; numbers = subst (λ l. T (every small l)) (sym f) c.listing.within.numbers };
            unused = subst (λ l. T (is_zero_of (drop (count * relation_length) l))) (sym f) c.listing.unused;
          };
    }

-- Numbers put to the front of a store, no more than are needed.
module _ (used need : ℕ) (store part : List ℤ) (inside : used ≤ need) (long : need ≤ length store) (exact : length part ≡ used) where
  front_kept : Kept need store (paste store 0 part used)
  front_kept =
      let enough = le_of_eq (sym exact) in
      record {
        same_length = length-paste store 0 part used (omega arith) enough;
        same_rest = paste-rest store 0 part used need (omega arith) enough (rw zero-add inside);
      }

  -- Where the places behind them hold 0.
  front-used : T (is_zero_of (drop used (take need store))) → take need (paste store 0 part used) ≡ part ++ zeros (need - used)
  unfolding zeros
  front-used unused =
      let rest = drop used (take need store) in
      let size : length rest ≡ need - used =
      length-drop used (take need store) ∙ ap (λ n. n - used) (length-take-le need store long) in
      take-paste-within store 0 part used need (le_of_eq (sym exact)) (rw zero-add inside) long
      ∙ paste-first (take need store) part used exact ∙ ap (λ l. part ++ l) (zero-list rest unused ∙ ap zeros size)

-- All that are needed.
front-whole : (need : ℕ) (store part : List ℤ) → length part ≡ need → take need (paste store 0 part need) ≡ part
front-whole need store part exact = ap (take need) (paste-first store part need exact) ∙ take_at part (drop need store) need exact

pub record CopyRan (z : Sizes) (count : ℕ) (rows relations workRows workRelations workRows' workRelations' : List ℤ) (o : Run.Outcome)
    : Type 0 where
  pub outcome : outcome_at workRows' workRelations' o
      ≡ whole_run_of trailing (span z) (rows_of (equations z) rows) (relations_of count relations)
  pub final : Final trailing (span z) workRows' o
  pub rows-kept : Kept (row_need (equations z)) workRows workRows'
  pub relations-kept : Kept relation_need workRelations workRelations'
  pub listing : Listing o.progress.count workRelations'

module _ (z : Sizes) (count : ℕ) (rows relations workRows workRelations rows₁ empty relations₁ : List ℤ)
    (right : check_stores_of z count rows relations ≡ 0)
    (rows_long : row_need (equations z) ≤ length workRows) (relations-long : relation_need ≤ length workRelations)
    (e : let part = take (row_need (equations z)) rows in rows₁ ≡ paste workRows 0 part (length part))
    (cleared-first : empty ≡ paste workRelations 0 (replicate relation_need (pos 0)) relation_need)
    (f : let part = take (count * relation_length) relations in relations₁ ≡ paste empty 0 part (length part)) where
  ok : Checked z count rows relations
  ok = checked z count rows relations right

  -- The rows.
  abbrev need : ℕ
  need = row_need (equations z)

  given-rows : length (take need rows) ≡ need
  given-rows = length-take-le need rows ok.rows-within.long

  rows₁-is : rows₁ ≡ paste workRows 0 (take need rows) need
  rows₁-is = e ∙ ap (paste workRows 0 (take need rows)) given-rows

  rows-front : take need rows₁ ≡ take need rows
  rows-front = ap (take need) rows₁-is ∙ front-whole need workRows (take need rows) given-rows

  rows-first : Kept need workRows rows₁
  rows-first =
      subst (Kept need workRows) (sym rows₁-is)
      (front_kept need need workRows (take need rows) (le_refl need) rows_long given-rows)

  -- The relations, and zeros behind them.
  abbrev used : ℕ
  used = count * relation_length

  abbrev given : List ℤ
  given = take used relations

  inside : used ≤ relation_need
  inside = omega (arith, ok.listing.few)

  given-relations : length given ≡ used
  given-relations = length-take-le used relations (le_trans inside ok.listing.within.long)

  empty-kept : Kept relation_need workRelations empty
  empty-kept =
      subst (Kept relation_need workRelations) (sym cleared-first)
      (front_kept relation_need relation_need workRelations (replicate relation_need (pos 0)) (le_refl relation_need) relations-long
      (length-replicate relation_need (pos 0)))

  empty-long : relation_need ≤ length empty
  empty-long = rw empty-kept.same_length relations-long

  empty-unused : T (is_zero_of (drop used (take relation_need empty)))
  empty-unused =
      subst (λ l. T (is_zero_of l)) (sym (ap (drop used) (ap (take relation_need) cleared-first
      ∙ front-whole relation_need workRelations (replicate relation_need (pos 0)) (length-replicate relation_need (pos 0))
      ∙ ap (λ n. replicate n (pos 0)) (sym (add-sub_of_le inside)) ∙ sym (replicate-append-replicate used (relation_need - used) (pos 0)))
      ∙ drop_at (replicate used (pos 0)) _ used (length-replicate used (pos 0))))
      (is_zero-replicate (relation_need - used))

  relations₁-is : relations₁ ≡ paste empty 0 given used
  relations₁-is = f ∙ ap (paste empty 0 given) given-relations

  relations-front : take relation_need relations₁ ≡ take relation_need relations
  relations-front =
      let same : paste relations 0 given used ≡ relations =
      paste-first relations given used given-relations ∙ take-append-drop used relations in
      ap (take relation_need) relations₁-is ∙ front-used used relation_need empty given inside empty-long given-relations empty-unused
      ∙ sym (front-used used relation_need relations given inside ok.listing.within.long given-relations ok.listing.unused)
      ∙ ap (take relation_need) same

  relations-first : Kept relation_need workRelations relations₁
  relations-first =
      kept_then empty-kept
      (subst (Kept relation_need empty) (sym relations₁-is) (front_kept used relation_need empty given inside empty-long given-relations))

  pub copy-checked : Checked z count rows₁ relations₁
  copy-checked =
      checked-copy z count rows relations rows₁ relations₁ ok (rw rows-first.same_length rows_long)
      (rw relations-first.same_length relations-long) rows-front relations-front

  pub copy_ran : (rows₂ relations₂ : List ℤ) (o : Run.Outcome)
      → Ran (equations z) rows₁ relations₁ rows₂ relations₂ o
      (trailing_run_of (span z) (rows_of (equations z) rows₁) (relations_of count relations₁))
      → CopyRan z count rows relations workRows workRelations rows₂ relations₂ o
  unfolding whole_run_of
  copy_ran rows₂ relations₂ o r =
      record {
        outcome =
            r.reached.outcome
            ∙ ap₂ (trailing_run_of (span z)) (rows_of-same (equations z) rows rows₁ rows-front)
            (relations_of-same count relations relations₁ ok.listing.few relations-front);
        final = final-run trailing z count rows₁ relations₁ rows₂ relations₂ o copy-checked r;
        rows-kept = kept_then rows-first r.reached.rows-kept;
        relations-kept = kept_then relations-first r.reached.relations-kept;
        listing = r.reached.ready.listing;
      }

-- ---- zeros at the end

-- A needed part that is cleared after it was used.
pub cleared : (need : ℕ) (store store' store'' : List ℤ) → Kept need store store' → store'' ≡ paste store' 0 (replicate need (pos 0)) need
    → store'' ≡ overwrite (zeros need) store
unfolding zeros overwrite
cleared need store store' store'' kept e =
    let size = length-replicate need (pos 0) in
    e ∙ overwrite-paste store' (zeros need) need (le_of_eq (sym size))
    ∙ ap (λ l. overwrite l store') (take_all need (zeros need) (le_of_eq size))
    ∙ ap (λ l. zeros need ++ l) (ap (λ n. drop n store') size ∙ kept.same_rest ∙ ap (λ n. drop n store) (sym size))

-- One of which only the used places are cleared, where those behind them hold 0.
pub cleared-used : (used need : ℕ) (store store' store'' : List ℤ) → used ≤ need → need ≤ length store'
    → T (is_zero_of (drop used (take need store'))) → Kept need store store' → store'' ≡ paste store' 0 (replicate used (pos 0)) used
    → store'' ≡ overwrite (zeros need) store
unfolding zeros overwrite
cleared-used used need store store' store'' inside long unused kept e =
    let part = replicate used (pos 0) in
    let exact = length-replicate used (pos 0) in
    e ∙ sym (take-append-drop need (paste store' 0 part used))
    ∙ ap₂ (λ k l. k ++ l)
    (front-used used need store' part inside long exact unused ∙ replicate-append-replicate used (need - used) (pos 0)
    ∙ ap zeros (add-sub_of_le inside))
    ((front_kept used need store' part inside long exact).same_rest ∙ kept.same_rest
    ∙ ap (λ n. drop n store) (sym (length-replicate need (pos 0))))
