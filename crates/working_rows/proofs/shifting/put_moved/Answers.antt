-- `working_rows::shifting::put_moved` meets its contract: shifted, a zero polynomial is the zeros that are put, and any other is worked out
-- beside the row before it is saved.
-- Assumes nothing.
use mathlib.Core.Path.{◌≡◌, refl, sym, ◌∙◌, ap, ap₂, subst}
use mathlib.Core.List.{List}
use Prim.Native.Nat.{ℕ, ◌+◌, ◌-◌}
use native.Mathlib.Omega.{arith}
use lib.Dec.{T}
use lib.IntN.{ℤ, pos}
use lib.ListN.{length, take, drop, replicate}
use lib.Seq.{paste}
use Rattle.algebra.specs.Polynomials.{Polynomial, shift, is_zero_of, is_zero-shift, length_shift, zero-list}
use Rattle.lists.specs.Tests.{every, true_of}
use Rattle.rules.specs.Limits.{coefficient_count, small}
use Rattle.stores.specs.Checks.{zero-small}
use Rattle.stores.specs.LentParts.{lent-long}
use Rattle.working_rows.proofs.shifting.put_moved.Goals as goal
use Rattle.working_rows.proofs.shifting.put_moved.Goals.{After-put_shifted, Start}

-- the arguments
module _ (c : Start) where
  abbrev place : List ℤ
  place = c.args.place.now

  abbrev at : ℕ
  at = c.args.at

  abbrev below : ℕ
  below = c.args.below

  abbrev p : Polynomial
  p = take coefficient_count (drop below place)

  -- the polynomial as it is lent
  abbrev lent : Polynomial
  lent = take (below + coefficient_count - below) (drop below place)

  lent_is : lent ≡ p
  lent_is = let wide : below + coefficient_count - below ≡ coefficient_count = omega arith in ap (λ n. take n (drop below place)) wide

  lent-size : length lent ≡ coefficient_count
  lent-size = lent-long place below coefficient_count c.requires.2

  shifted-long : length (shift p) ≡ coefficient_count
  shifted-long = length_shift p ∙ ap length (sym lent_is) ∙ lent-size

-- the polynomial shifted beside the row
module _ (c : After-put_shifted) where
  abbrev start : Start
  start = c.before.before.before.before.before.before

  moved : c.put_shifted.new.place ≡ shift (p start)
  moved = c.put_shifted.ensures ∙ ap shift (lent_is start)

  moved-long : length c.put_shifted.new.place ≡ coefficient_count
  moved-long = ap length moved ∙ shifted-long start

pub returns-then-is_zero : goal.returns-then-is_zero
returns-then-is_zero c =
    let s = c.before.before.before.before.before.before in
    let zero : T (is_zero_of (shift (p s))) =
    subst T (sym (is_zero-shift (p s) ∙ ap is_zero_of (sym (lent_is s)) ∙ sym c.is_zero.ensures ∙ c.if-is_zero.true)) tt in
    let zeros = zero-list (shift (p s)) zero ∙ ap (λ n. replicate n (pos 0)) (shifted-long s) in record { place_after = c.clear.ensures ∙ ap (λ l. paste (place s) (at s) l coefficient_count) (sym zeros); value = sym (true_of (every small (shift (p s))) (zero-small (shift (p s)) zero)) }

pub put_shifted-requires : goal.put_shifted-requires
put_shifted-requires c =
    let s = c.before.before.before.before.before in
    (s.requires.0, refl, lent-size s, subst (λ l. T (every small l)) (sym (lent_is s)) s.requires.3)

pub save-requires : goal.save-requires
save-requires c =
    let d = c.before.before.before in omega (arith, moved-long d, (start d).requires.1)

pub returns : goal.returns
returns c =
    let d = c.before.before.before.before.before.before.before in record { place_after = c.save.ensures ∙ ap₂ (paste (place (start d)) (at (start d))) (moved d) (moved-long d); value = c.all_small.ensures ∙ ap (every small) (moved d) }
