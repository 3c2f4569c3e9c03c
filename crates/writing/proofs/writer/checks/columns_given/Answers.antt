-- `writing::writer::checks::columns_given` meets its contract.
-- Assumes nothing.
use Rattle.std.proofs.Common.{◌≡◌, ◌≢◌, refl, ◌∙◌, ap, ℕ, zero, suc, ◌≤◌, ◌<◌, List, [], ◌∷◌, length, get_or, rules, arith, Option, Some, None, MatchOption, EachIndex}
use Rattle.std.specs.Option.{unwrap_or}
use Rattle.rules.specs.SheetCalls.{order_given}
use Rattle.writing.proofs.writer.checks.columns_given.Goals as goal

-- Number i of an order is its first 0, or its end.
given-places : (order : List ℕ) (i : ℕ) → i ≤ length order → (i < length order → get_or order i 0 ≡ 0) → ((k : ℕ) → k < i → get_or order k 0 ≢ 0)
    → i ≡ length (order_given order)
unfolding order_given
given-places [] i h zero-there before = omega arith
given-places (zero ∷ l) zero h zero-there before = refl
given-places (zero ∷ l) (suc i) h zero-there before = absurd (before 0 (omega arith) refl)
given-places (suc c ∷ l) zero h zero-there before = let no : suc c ≡ 0 = zero-there (omega arith) in absurd (omega arith)
given-places (suc c ∷ l) (suc i) h zero-there before =
    ap suc (given-places l i (omega arith) (λ lt. zero-there (omega arith)) (λ k lt. before (suc k) (omega arith)))

given-found : (order : List ℕ) (found : Option ℕ)
    → MatchOption found (EachIndex order (λ k. get_or order k 0 ≢ 0))
    (λ i. i < length order × (get_or order i 0 ≡ 0) × ((k : ℕ) → k < i → get_or order k 0 ≢ 0))
    → unwrap_or found (length order) ≡ length (order_given order)
given-found order None each = given-places order (length order) (omega arith) (λ lt. absurd (omega arith)) each
given-found order (Some i) at = given-places order i (omega (arith, at.0)) (λ lt. at.1) at.2

pub returns : goal.returns
returns c = c.unwrap_or.ensures ∙ given-found c.args.order.now c.position.result (search rules)
