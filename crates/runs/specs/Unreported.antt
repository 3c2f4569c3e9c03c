-- A call on lent stores whose caller wants neither the shifts nor the root report.
--
-- Main definitions
--   UnreportedResult, UnreportedCall    the fields that are left of a result, and of a whole call
--   unreported_in, unreported_call        those of a result and of a call of `rules`
--   unreported_of r, unreported_call_of r rows relations   what the code returned, and the whole call
--
-- Main statements
--   unreported-accepted           what is left of the result of a run that accepts
--   unreported-left               the whole call
use Rattle.std.specs.Prelude.{ℕ, ◌≤◌, ◌≡◌, refl, List, [], ◌∷◌, ℤ, length, take}
use Rattle.std.specs.Prelude as Std
use Rattle.refusals.specs.declared.Refusal.{Refusal}
use Rattle.refusals.specs.Refusals.{number_of}
use Rattle.std.proofs.Common.{Ok, Err, sym, ◌∙◌, ap, length-take-le}
use Rattle.rules.specs.Elimination.{Side, rank}
use Rattle.rules.specs.Stores.{Sizes, span, check_stores_of}
use Rattle.rules.specs.Layout.{length-relations_of}
use Rattle.rules.specs.Calls.{Result, Call, acceptance, reported_order, call_run}
use Rattle.reduction.specs.Progress.{state_of, outcome_at}
use Rattle.reduction.specs.declared.step.Progress.{Progress}
use Rattle.reduction.specs.Answer as Answer
use Rattle.runs.specs.declared.Unreported.{Unreported}
use Rattle.runs.specs.CallLaws.{RanOn, result_after_of, call-left}

pub record UnreportedResult : Type 0 where
  pub refusal : ℕ
  pub relations : ℕ
  pub order : List ℕ
  pub rank : ℕ

pub record UnreportedCall : Type 0 where
  pub result : UnreportedResult
  pub row_store : List ℤ
  pub relation_store : List ℤ

abbrev pub unreported_in : Result → UnreportedResult
unreported_in r = record { refusal = r.refusal; relations = r.relations; order = r.order; rank = r.rank }

abbrev pub unreported_call : Call → UnreportedCall
unreported_call c = record { result = unreported_in c.result; row_store = c.row_store; relation_store = c.relation_store }

abbrev pub unreported_of : Std.Result Unreported Refusal → UnreportedResult
unreported_of (Ok r) = record { refusal = 0; relations = r.relations; order = r.order; rank = r.rank }
unreported_of (Err r) = record { refusal = number_of r; relations = 0; order = 0 ∷ 0 ∷ 0 ∷ 0 ∷ []; rank = 0 }

abbrev pub unreported_call_of : Std.Result Unreported Refusal → List ℤ → List ℤ → UnreportedCall
unreported_call_of r rows relations = record { result = unreported_of r; row_store = rows; relation_store = relations }

pub unreported-accepted : (side : Side) (D : ℕ) (rows relations : List ℤ) (p : Progress) (order : List ℕ)
    → p.settled ≤ length p.order → order ≡ reported_order (take p.settled p.order)
    → ◌≡◌ {A = UnreportedResult} (record { refusal = 0; relations = p.count; order = order; rank = p.settled })
    (unreported_in (acceptance side D (state_of rows relations p)))
unfolding acceptance state_of rank
unreported-accepted side D rows relations p order h f =
    let count = sym (length-relations_of p.count relations) in
    let few = sym (length-take-le p.settled p.order h) in
    λ i. record { refusal = 0; relations = count i; order = f i; rank = few i }

pub unreported-left : (side : Side) (z : Sizes) (count : ℕ) (rows relations rows' relations' : List ℤ) (o : Answer.Outcome)
    (r : Std.Result Unreported Refusal)
    → check_stores_of z count rows relations ≡ 0 → RanOn side z count rows relations rows' relations' o
    → unreported_of r ≡ unreported_in (result_after_of side (span z) (outcome_at rows' relations' o))
    → unreported_call_of r rows' relations' ≡ unreported_call (call_run side z count rows relations)
unreported-left side z count rows relations rows' relations' o r e ran f =
    ap (λ l. record { result = l; row_store = rows'; relation_store = relations' }) f
    ∙ ap unreported_call (call-left side z count rows relations rows' relations' o _ e ran refl)
