-- A system that is refused with 10 is satisfied by no sequence.
--
-- Main statements
--   contradiction           a row with a right side and no left part is satisfied by no sequence
--   refused-unsatisfied     nor is a state from which a run is refused with 10
use Rattle.std.specs.Prelude.{◌≡◌, not, ℕ, ◌<◌, T, length, ℤ, pos, neg_ℤ, ◌-ℤ◌}
use Rattle.std.proofs.Common.{sym, ◌∙◌, ap, T_not}
use Rattle.std.proofs.Math.IntN.{+ℤ_idl, neg_ℤ-neg_ℤ}
use Rattle.algebra.specs.Polynomials.{is_zero_of, eval}
use Rattle.algebra.specs.Vanishing.{zero-everywhere}
use Rattle.rules.specs.Rows.{Row, no_row, zero_left, contradicts}
use Rattle.rules.specs.Elimination.{Side, State, refused, run, row_at}
use Rattle.rules.specs.Sequences.{Sequence, left_value, value_of, SatisfiesEquation, Satisfies}
use Rattle.lists.specs.Everywhere.{all_get_or}
use Rattle.lists.specs.Tests.{T-&&}
use Rattle.theory.specs.Steps.{current, Inconsistent, at_once, next_row}
use Rattle.theory.proofs.Steps.{run-refused, step-refused-10}
use Rattle.theory.specs.Values.{blocks-zero}
use Rattle.theory.specs.Triangular.{Triangular, triangular-chain}
use Rattle.theory.specs.LimitsKept.{StateShaped, chain-shapes}
use Rattle.theory.proofs.Solutions.{stepped-solutions, chain-solutions}

-- It says 0 = q(n) at every n, and q is not zero everywhere (SCOPE 2.12).
pub contradiction : (l : ℤ) (r : Row) (z : Sequence) → T (contradicts r) → SatisfiesEquation l z r → ⊥
unfolding contradicts zero_left SatisfiesEquation value_of left_value
contradiction l r z h s =
    let both = (T-&& (zero_left r) (not (is_zero_of r.right))).0 h in
    T_not (is_zero_of r.right) both.1 ((zero-everywhere r.right).1 (λ n. value n both.0))
  where
    value : (n : ℤ) → T (zero_left r) → eval r.right n ≡ pos 0
    value n none =
        sym (neg_ℤ-neg_ℤ (eval r.right n))
        ∙ ap neg_ℤ (sym (ap (λ v. v -ℤ eval r.right n) (blocks-zero n z _ r.blocks none) ∙ +ℤ_idl (neg_ℤ (eval r.right n))) ∙ s n)

-- A state whose row i contradicts.
row-contradiction : (l : ℤ) (s : State) (i : ℕ) (z : Sequence) → i < length s.rows → T (contradicts (row_at s i))
    → Satisfies l s.rows s.relations z → ⊥
unfolding row_at Satisfies
row-contradiction l s i z below h a = contradiction l (row_at s i) z h (all_get_or (SatisfiesEquation l z) s.rows no_row i below a.0)

module _ (l : ℤ) (side : Side) (k : ℕ) (s : State) (shaped : StateShaped s) (t : Triangular s) (z : Sequence) where
  pub refused-unsatisfied : run side k s ≡ refused 10 → Satisfies l s.rows s.relations z → ⊥
  refused-unsatisfied e a =
      let (j, u, c, below, f) = run-refused side k s 10 e in
      stuck u below (chain-shapes c shaped) (triangular-chain c t) (step-refused-10 side u below f) ((chain-solutions l z shaped t c).0 a)
    where
      stuck : (u : State) → current u < length u.rows → StateShaped u → Triangular u → Inconsistent side u
          → Satisfies l u.rows u.relations z → ⊥
      stuck u below shape tri (at_once h) b = row-contradiction l u (current u) z below h b
      stuck u below shape tri (next_row {s' = v} step there h) b =
          row-contradiction l v (current u) z there h ((stepped-solutions l z shape tri step).0 b)
