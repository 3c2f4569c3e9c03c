-- `combinations::short_part` meets its contract.
-- Assumes nothing.
use mathlib.Core.Path.{◌≡◌, refl, sym, ◌∙◌}
use mathlib.Core.Bool.{true, ◌&&◌}
use mathlib.Core.List.{List}
use Rattle.std.proofs.Common.{Some}
use Prim.Native.Nat.{ℕ, ◌+◌, ◌≤◌}
use native.Mathlib.Omega.{arith}
use lib.Dec.{eqb, eqb→eq}
use lib.IntN.{ℤ}
use lib.ListN.{length, take}
use lib.Seq.{length-take-le}
use Rattle.algebra.specs.Polynomials.{Polynomial}
use Rattle.lists.specs.Tests.{T-&&, true-T}
use Rattle.rules.specs.Limits.{coefficient_count}
use Rattle.combinations.specs.declared.Known.{Known}
use Rattle.combinations.specs.Combination.{few, Counted, low_sums}
use Rattle.combinations.specs.Parts.{sum_of, SumsSaved, PartMade, front_fits, sums-made}
use Rattle.combinations.proofs.short_part.Goals as goal
use Rattle.combinations.proofs.short_part.Goals.{Start}

lengths : (a b n : ℕ) → (eqb a n && eqb b n) ≡ true → (a ≡ n) × (b ≡ n)
lengths a b n e = let both = (T-&& (eqb a n) (eqb b n)).0 (true-T _ e) in (eqb→eq a n both.0, eqb→eq b n both.1)

-- the fronts, where the coefficients past them are zero
module _ (c : Start) where
  abbrev g : Polynomial
  g = c.args.g.now

  abbrev h : Polynomial
  h = c.args.h.now

  abbrev p : Polynomial
  p = c.args.place.now

  abbrev q : Polynomial
  q = c.args.q.now

  front_long : few ≡ length (take few p)
  front_long = sym (length-take-le few p (omega (arith, c.requires.0.0.0)))

  pivot-long : few ≡ length (take few q)
  pivot-long = sym (length-take-le few q (omega (arith, c.requires.0.0.1)))

  factors : Counted g × Counted (take few p) × Counted h × Counted (take few q)
  factors = front_fits g h p q c.requires.0 c.requires.1 refl refl

  made_of : (n : ℕ) → (eqb (length g) n && eqb (length h) n) ≡ true → n + few ≤ coefficient_count + 1
      → {l after : List ℤ} {before r : Known} → l ≡ low_sums n g (take few p) h (take few q) → SumsSaved l before p after r
      → PartMade (sum_of g h p q) before p after (Some r)
  made_of n e powers f saved =
      let both = lengths (length g) (length h) n e in
      sums-made g h p q c.requires.0 c.requires.1 refl refl n both.0 both.1 powers f saved

pub lowest_sums-sums-requires : goal.lowest_sums-sums-requires
lowest_sums-sums-requires c = (omega arith, (omega arith, factors (goal.at.lowest_sums-sums-requires c).Start))

pub returns-then-lengths_are : goal.returns-then-lengths_are
returns-then-lengths_are c =
    made_of (goal.at.returns-then-lengths_are c).Start 1 (sym c.lengths_are.ensures ∙ c.if-lengths_are.true) (omega arith) c.lowest_sums-sums.ensures
    c.put_sums.ensures

pub lowest_sums-sums-requires-then-lengths_are-2 : goal.lowest_sums-sums-requires-then-lengths_are-2
lowest_sums-sums-requires-then-lengths_are-2 c =
    (omega arith, (omega arith, factors (goal.at.lowest_sums-sums-requires-then-lengths_are-2 c).Start))

pub returns-then-lengths_are-2 : goal.returns-then-lengths_are-2
returns-then-lengths_are-2 c =
    made_of (goal.at.returns-then-lengths_are-2 c).Start 2 (sym c.lengths_are-2.ensures ∙ c.if-lengths_are-2.true) (omega arith)
    c.lowest_sums-sums-then-lengths_are-2.ensures c.put_sums-then-lengths_are-2.ensures

pub lowest_sums-sums-requires-then-lengths_are-3 : goal.lowest_sums-sums-requires-then-lengths_are-3
lowest_sums-sums-requires-then-lengths_are-3 c =
    (omega arith, (omega arith, factors (goal.at.lowest_sums-sums-requires-then-lengths_are-3 c).Start))

pub returns-then-lengths_are-3 : goal.returns-then-lengths_are-3
returns-then-lengths_are-3 c =
    made_of (goal.at.returns-then-lengths_are-3 c).Start few (sym c.lengths_are-3.ensures ∙ c.if-lengths_are-3.true) (omega arith)
    c.lowest_sums-sums-then-lengths_are-3.ensures c.put_sums-then-lengths_are-3.ensures
