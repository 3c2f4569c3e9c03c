-- `records::equation_sums` meets its contract. The invariant: the sums of the first i rows are known; behind them stand zeros.
-- Assumes nothing.
use mathlib.Core.Path.{◌≡◌}
use Prim.Native.Nat.{ℕ, ◌*◌, ◌≤◌, ◌<◌}
use lib.IntN.{pos}
use lib.ListN.{length, get_or}
use Rattle.rules.specs.Limits.{most_equations}
use Rattle.records.specs.Records.{most_vectors}
use Rattle.records.specs.Successive.{AllKnown}
use Rattle.records.proofs.equation_sums.Given as goal

abbrev pub invariant-loop-i : goal.invariant-loop-i
invariant-loop-i l =
    (length l.formed ≡ most_equations) × (length l.sums ≡ length l.initial.sums)
    × AllKnown l.m l.span l.n l.values l.rows l.tests l.sums l.formed l.i
    × ((k : ℕ) → l.i * most_vectors ≤ k → k < most_equations * most_vectors → get_or l.sums k (pos 0) ≡ pos 0)
