-- The run on the trailing side: the mirror of the rows, the run, and the mirror back of the rows and of the relations that the run has
-- listed. Those that were there before it are not looked at by the run, and the mirror undoes itself, so that they stay as they are.
--
-- Main definitions
--   mirror_listed D n s                   the state s mirrored, but for its first n relations
--
-- Main statements
--   listed_more                          the run leaves the relations that were there, and lists its own behind them
--   trailing-refused, trailing-held      what the run comes to with a refusal, and with none
use Prim.Native.Nat.{ℕ, zero, suc, ◌≤◌}
use Rattle.std.proofs.Common.{le_refl, ◌∙◌, length-append, take_at, drop_at}
use native.Mathlib.Omega.{arith}
use Rattle.std.proofs.Math.Path.{◌≡◌, refl, sym, ap, ap₂, subst}
use mathlib.Core.List.{List, [], ◌++◌, map, append-nil, map-append}
use Rattle.std.specs.Prelude.{◌≢◌, Bool, ℤ, length, take}
use Rattle.std.proofs.Math.Bool.{true, false}
use Rattle.std.proofs.lemmas.List.{length-map}
use Rattle.lists.specs.Everywhere.{all-always, map-all}
use Rattle.lists.specs.Parts.{parts}
use Rattle.rules.specs.Limits.{most_span, relation_length}
use Rattle.rules.specs.Rows.{Relation, mirror_row_of, mirror_relation}
use Rattle.rules.specs.Elimination.{State, Outcome, going, done, refused, trailing, run, enough, start, mirror_state, mirror_outcome, trailing_run_of}
use Rattle.rules.specs.Stores.{rows_of, relation_of, relations_of, row_need, relation_need}
use Rattle.rules.specs.Layout.{length-relations_of}
use Rattle.theory.specs.Mirror.{Reaches, mirror_relations-twice}
use Rattle.stores.specs.Flat.{length-blocks}
use Rattle.reduction.specs.Progress.{state, state_of, outcome_of, outcome_at, ready_with}
use Rattle.reduction.specs.Dropping.{freed-none, freed-then, kept_more}
use Rattle.reduction.specs.Ran.{Ran, run_of, ran-held, ran-kept}
use Rattle.reduction.specs.Answer as Answer
use Rattle.reduction.specs.RunLaws.{enough-rows}
use Rattle.sides.specs.StoreStates.{kept_same, kept_then}
use Rattle.sides.specs.MirrorLaws.{change_from, RowsMirrored, RelationsMirrored}
use Rattle.runs.specs.KeptRelations.{behind, outcome_behind, Alike, run-alike}

unfoldable pub mirror_listed : ℕ → ℕ → State → State
unfolding mirror_row_of mirror_relation
mirror_listed D n s =
    state (map (mirror_row_of D) s.rows) (change_from (mirror_relation D) n s.relations) s.order s.shifts

-- The relations of a store, mirrored twice.
twice : (D count : ℕ) (store : List ℤ) → D ≤ most_span
    → map (mirror_relation D) (map (mirror_relation D) (relations_of count store)) ≡ relations_of count store
unfolding relations_of relation_of
twice D count store few =
    mirror_relations-twice D (relations_of count store)
    (map-all (λ e. Reaches D e.row) relation_of (parts relation_length count store)
    (all-always (λ p. Reaches D (relation_of p).row) (λ p. rw length-blocks (omega arith)) (parts relation_length count store)))

-- ---- a state behind the relations R

module _ (D : ℕ) (R : List Relation) where
  listed-behind : (s : State) → mirror_listed D (length R) (behind R s) ≡ behind R (mirror_state D s)
  unfolding mirror_listed mirror_state
  listed-behind s =
      ap₂ (λ p q. state (map (mirror_row_of D) s.rows) (p ++ map (mirror_relation D) q) s.order s.shifts)
      (take_at R s.relations (length R) refl) (drop_at R s.relations (length R) refl)

  -- The mirror of what is behind the mirrored relations.
  module _ (e : map (mirror_relation D) (map (mirror_relation D) R) ≡ R) where
    state-behind : (s : State) → mirror_state D (behind (map (mirror_relation D) R) s) ≡ behind R (mirror_state D s)
    unfolding mirror_state
    state-behind s =
        ap (λ q. state (map (mirror_row_of D) s.rows) q s.order s.shifts)
        (map-append (mirror_relation D) (map (mirror_relation D) R) s.relations ∙ ap (λ q. q ++ map (mirror_relation D) s.relations) e)

    mirror-behind : (x : Outcome) → mirror_outcome D (outcome_behind (map (mirror_relation D) R) x) ≡ outcome_behind R (mirror_outcome D x)
    unfolding mirror_outcome outcome_behind
    mirror-behind (going s) = ap going (state-behind s)
    mirror-behind (done s) = ap done (state-behind s)
    mirror-behind (refused n) = refl

  outcome-back : (n : ℕ) (d : Bool) (s s' : State) (x : Outcome) → outcome_of n d s ≡ outcome_behind R x
      → (n ≡ 0 → s' ≡ mirror_listed D (length R) s) → outcome_of n d s' ≡ outcome_behind R (mirror_outcome D x)
  unfolding outcome_of mirror_outcome outcome_behind
  outcome-back zero false s s' (going t) e h =
      let same : s ≡ behind R t = cc in ap going (h refl ∙ ap (mirror_listed D (length R)) same ∙ listed-behind t)
  outcome-back zero false s s' (done t) e h = absurd (let z : ◌≡◌ {A = ℕ} 0 1 = cc in omega arith)
  outcome-back zero false s s' (refused m) e h = absurd (let z : ◌≡◌ {A = ℕ} 0 1 = cc in omega arith)
  outcome-back zero true s s' (going t) e h = absurd (let z : ◌≡◌ {A = ℕ} 0 1 = cc in omega arith)
  outcome-back zero true s s' (done t) e h =
      let same : s ≡ behind R t = cc in ap done (h refl ∙ ap (mirror_listed D (length R)) same ∙ listed-behind t)
  outcome-back zero true s s' (refused m) e h = absurd (let z : ◌≡◌ {A = ℕ} 0 1 = cc in omega arith)
  outcome-back (suc n) d s s' (going t) e h = absurd (let z : ◌≡◌ {A = ℕ} 0 1 = cc in omega arith)
  outcome-back (suc n) d s s' (done t) e h = absurd (let z : ◌≡◌ {A = ℕ} 0 1 = cc in omega arith)
  outcome-back (suc n) d s s' (refused m) e h = e

  outcome-more : (n : ℕ) (d : Bool) (s : State) (x : Outcome) → n ≡ 0 → outcome_of n d s ≡ outcome_behind R x → length R ≤ length s.relations
  unfolding outcome_of outcome_behind
  outcome-more zero false s (going t) z e = let same : s ≡ behind R t = cc in rw (same, length-append) (omega arith)
  outcome-more zero false s (done t) z e = let y : ◌≡◌ {A = ℕ} 0 1 = cc in omega arith
  outcome-more zero false s (refused m) z e = let y : ◌≡◌ {A = ℕ} 0 1 = cc in omega arith
  outcome-more zero true s (going t) z e = let y : ◌≡◌ {A = ℕ} 0 1 = cc in omega arith
  outcome-more zero true s (done t) z e = let same : s ≡ behind R t = cc in rw (same, length-append) (omega arith)
  outcome-more zero true s (refused m) z e = let y : ◌≡◌ {A = ℕ} 0 1 = cc in omega arith
  outcome-more (suc n) d s x z e = omega arith

-- ---- the stores before the mirror of the rows, after it, and after the run

module _ (equations D count : ℕ) (rows relations rows₁ rows₂ relations₂ : List ℤ) (few : D ≤ most_span)
    (h : RowsMirrored equations D rows rows₁) (o : Answer.Outcome)
    (r : Ran equations rows₁ relations rows₂ relations₂ o (run_of trailing equations count rows₁ relations)) where
  abbrev R : List Relation
  R = relations_of count relations

  abbrev begun : State
  begun = state (map (mirror_row_of D) (rows_of equations rows)) [] [] 0

  abbrev left : State
  left = state_of rows₂ relations₂ o.progress

  both : Alike R (map (mirror_relation D) R) (run trailing (enough (rows_of equations rows)) (behind R begun))
      (run trailing (enough (rows_of equations rows)) (behind (map (mirror_relation D) R) begun))
  both = run-alike R (map (mirror_relation D) R) (sym (length-map R (mirror_relation D))) trailing (enough (rows_of equations rows)) begun

  reached : outcome_at rows₂ relations₂ o ≡ outcome_behind R both.common
  unfolding start
  reached =
      r.reached.outcome
      ∙ ap₂ (run trailing) (enough-rows equations rows₁ ∙ sym (enough-rows equations rows))
      (ap₂ (λ q e. state q e [] 0) h.rows (sym (append-nil R)))
      ∙ both.first

  asked : trailing_run_of D (rows_of equations rows) R ≡ outcome_behind R (mirror_outcome D both.common)
  unfolding trailing_run_of mirror_state start
  asked =
      ap (λ e. mirror_outcome D (run trailing (enough (rows_of equations rows)) (state (map (mirror_row_of D) (rows_of equations rows)) e [] 0)))
      (sym (append-nil (map (mirror_relation D) R)))
      ∙ ap (mirror_outcome D) both.second ∙ mirror-behind D R (twice D count relations few) both.common

  pub listed_more : o.refusal ≡ 0 → count ≤ o.progress.count
  unfolding state_of
  listed_more e =
      rw (length-relations_of count relations, length-relations_of o.progress.count relations₂) at
      (outcome-more D R o.refusal o.done left both.common e reached)

  -- A refusal, and the stores as they are.
  pub trailing-refused : o.refusal ≢ 0
      → Ran equations rows relations rows₂ relations₂ o (trailing_run_of D (rows_of equations rows) R)
  trailing-refused n =
      let same = outcome-back D R o.refusal o.done left left both.common reached (λ e. absurd (n e)) ∙ sym asked in
      subst (Ran equations rows relations rows₂ relations₂ o) (sym r.reached.outcome ∙ same)
      (ran-kept h.kept (kept_same relation_need relations) n r)

  -- No refusal, and the stores after the mirror back.
  pub trailing-held : (rows₃ relations₃ : List ℤ) → o.refusal ≡ 0 → RowsMirrored o.progress.rows D rows₂ rows₃
      → RelationsMirrored count o.progress.count D relations₂ relations₃
      → Ran equations rows relations rows₃ relations₃ o (trailing_run_of D (rows_of equations rows) R)
  unfolding state_of mirror_listed
  trailing-held rows₃ relations₃ e h' g' =
      let s' = state_of rows₃ relations₃ o.progress in
      let p = o.progress in
      let same : s' ≡ mirror_listed D (length R) left =
      ap₂ (λ q f. state q f (take p.settled p.order) p.shifts) h'.rows g'.relations
      ∙ ap (λ n. mirror_listed D n left) (sym (length-relations_of count relations)) in
      let n = p.rows in
      let fewer = r.reached.fewer in
      let long = subst (λ k. row_need equations ≤ k) h.kept.same_length h.within.long in
      ran-held long (record {
        outcome = outcome-back D R o.refusal o.done left s' both.common reached (λ _. same) ∙ sym asked;
        fewer = fewer;
        freed = freed-then equations n n fewer (le_refl n) r.reached.freed h'.kept (freed-none n rows₃);
        rows-kept = kept_then h.kept (kept_then r.reached.rows-kept (kept_more n equations fewer h'.kept));
        relations-kept = kept_then r.reached.relations-kept g'.kept;
        few-shifts = r.reached.few-shifts;
        ready = ready_with r.reached.ready h'.within g'.listing;
      }) e
