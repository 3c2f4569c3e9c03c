-- `export_results::columns` meets its contract.
-- Assumes nothing.
use mathlib.Core.Path.{◌≡◌, ◌∙◌, ap}
use mathlib.Core.List.{[], ◌∷◌}
use Prim.Native.Nat.{ℕ}
use native.Mathlib.Omega.{arith}
use lib.IntN.{ℤ, pos, nat_abs}
use lib.ListN.{get_or}
use mir.Syntax.{w64}
use mir.Val.{SFits, to_z, of_z}
use mir.Facts.{to_z-of_z}
use Rattle.export_results.specs.Results.{four-members}
use borrow.Author.Rules.{rules}
use Rattle.export_results.proofs.columns.Goals as goal

-- the size of a number as the call reads it
size : (a : ℤ) {n : ℕ} → n ≡ nat_abs (to_z w64 (of_z w64 a)) → SFits w64 a → n ≡ nat_abs a
size a e f = e ∙ ap nat_abs (to_z-of_z f)

pub returns : goal.returns
returns c =
    let order = c.args.order.now in
    (λ i. size (get_or order 0 (pos 0)) c.magnitude.ensures (search rules) i
    ∷ size (get_or order 1 (pos 0)) c.magnitude-2.ensures (search rules) i
    ∷ size (get_or order 2 (pos 0)) c.magnitude-3.ensures (search rules) i
    ∷ size (get_or order 3 (pos 0)) c.magnitude-4.ensures (search rules) i ∷ [])
    ∙ four-members nat_abs (pos 0) order (omega arith)
