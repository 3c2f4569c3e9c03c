-- `replays::ending::sizes_of` meets its contract.
-- Assumes nothing.
use mathlib.Core.Path.{◌≡◌, ◌∙◌, ap}
use mathlib.Core.List.{[], ◌∷◌}
use Prim.Native.Nat.{ℕ}
use lib.IntN.{ℤ, pos, nat_abs}
use lib.ListN.{get_or}
use mir.Syntax.{w64}
use mir.Val.{SFits, to_z, of_z}
use mir.Facts.{to_z-of_z}
use Rattle.replays.specs.Endings.{four-numbers}
use borrow.Author.Rules.{rules}
use Rattle.replays.proofs.ending.sizes_of.Goals as goal

-- the size of a number as the call reads it
size : (a : ℤ) {n : ℕ} → n ≡ nat_abs (to_z w64 (of_z w64 a)) → SFits w64 a → n ≡ nat_abs a
size a e f = e ∙ ap nat_abs (to_z-of_z {w = w64} f)

pub returns : goal.returns
returns c =
    let numbers = c.args.numbers.now in
    (λ i. size (get_or numbers 0 (pos 0)) c.magnitude.ensures (search rules) i
    ∷ size (get_or numbers 1 (pos 0)) c.magnitude-2.ensures (search rules) i
    ∷ size (get_or numbers 2 (pos 0)) c.magnitude-3.ensures (search rules) i
    ∷ size (get_or numbers 3 (pos 0)) c.magnitude-4.ensures (search rules) i ∷ [])
    ∙ four-numbers numbers c.requires
