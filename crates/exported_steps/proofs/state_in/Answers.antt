-- `exported_steps::state_in` meets its contract.
-- Assumes nothing.
use mathlib.Core.Path.{◌≡◌, ◌∙◌, ap}
use mathlib.Core.List.{List, map}
use Prim.Native.Nat.{ℕ, ◌-◌}
use native.Mathlib.Nat.{le_of_eq}
use lib.IntN.{ℤ, pos, nat_abs}
use lib.ListN.{length, take, drop, get_or, length-drop}
use lib.Seq.{take_all}
use mir.Syntax.{w64}
use mir.Val.{SFits, to_z, of_z}
use mir.Facts.{to_z-of_z}
use borrow.Author.Rules.{rules}
use Rattle.stores.specs.Validity.{the_sizes_of}
use Rattle.steps.specs.Handed.{held_of}
use Rattle.exported_steps.specs.StateNumbers.{held_in}
use Rattle.exported_steps.proofs.state_in.Goals as goal

-- the size of a number as the call reads it
size : (a : ℤ) {n : ℕ} → n ≡ nat_abs (to_z w64 (of_z w64 a)) → SFits w64 a → n ≡ nat_abs a
size a e f = e ∙ ap nat_abs (to_z-of_z {w = w64} f)

-- what stands behind the first six numbers
behind : (numbers : List ℤ) → take (length numbers - 6) (drop 6 numbers) ≡ drop 6 numbers
behind numbers = take_all (length numbers - 6) (drop 6 numbers) (le_of_eq (length-drop 6 numbers))

pub returns : goal.returns
unfolding held_of the_sizes_of held_in
returns c =
    let numbers = c.args.numbers.now in
    λ i. record {
      sizes = record {
        m = size (get_or numbers 0 (pos 0)) c.magnitude.ensures (search rules) i;
        equations =
            size (get_or numbers 1 (pos 0)) c.magnitude-2.ensures (search rules) i;
        l = to_z-of_z {w = w64} {z = get_or numbers 2 (pos 0)} (search rules) i;
        t = to_z-of_z {w = w64} {z = get_or numbers 3 (pos 0)} (search rules) i;
      };
      relations =
          size (get_or numbers 4 (pos 0)) c.magnitude-3.ensures (search rules) i;
      settled = size (get_or numbers 5 (pos 0)) c.magnitude-4.ensures (search rules) i;
      order = (c.columns-order.ensures ∙ ap (λ l. map nat_abs (take 4 l)) (behind numbers)) i;
      shifts = size (get_or numbers 10 (pos 0)) c.magnitude-5.ensures (search rules) i;
    }
