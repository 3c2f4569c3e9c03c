-- `reading::counts::mark_after` meets its contract. The test is that of the definition.
-- Assumes nothing.
use mathlib.Core.Path.{◌≡◌, refl, sym, ap}
use Prim.Native.Nat.{ℕ, zero, suc}
use Rattle.rules.specs.Sheets.{parting}
use Rattle.reading.proofs.counts.mark_after.Goals as goal

pub returns-then-left-eq0 : goal.returns-then-left-eq0
unfolding parting
returns-then-left-eq0 c = sym (ap (parting c.args.last) c.if-left-eq0.true)

more : (last k : ℕ) → (k ≡ 0 → ⊥) → 32 ≡ parting last k
unfolding parting
more last zero h = absurd (h refl)
more last (suc k) h = refl

pub returns-else-left-eq0 : goal.returns-else-left-eq0
returns-else-left-eq0 c = more c.args.last c.args.left c.if-left-eq0.false
