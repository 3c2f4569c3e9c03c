-- `combinations::put_combined` meets its contract. The loop's invariant: the first k numbers are those of g·p + h·q.
-- Assumes nothing.
use mathlib.Core.Path.{◌≡◌, refl, sym, ◌∙◌}
use Prim.Native.Nat.{ℕ, ◌<◌}
use native.Mathlib.Omega.{arith}
use lib.IntN.{pos}
use lib.ListN.{length, take}
use lib.Seq.{get_or-take, length-take-le}
use Rattle.algebra.specs.Polynomials.{Polynomial, add, mul}
use Rattle.lists.specs.Taken.{overwritten-next, overwritten-all}
use Rattle.polynomials.specs.Content.{read_back}
use Rattle.combinations.specs.Combination.{low_part_of, length-low_part, low_part-at}
use Rattle.combinations.proofs.put_combined.Goals as goal
use Rattle.combinations.proofs.put_combined.Goals.{Start}

pub loop-k-init : goal.loop-k-init
loop-k-init c = record { within = omega arith; long = refl; front = refl }

pub combined_coefficient-requires : goal.combined_coefficient-requires
combined_coefficient-requires c =
    record {
      g_len_bound = (c.requires.counted.0.1, c.requires.counted.0.2, c.requires.counted.1.2);
      h_len_bound = (c.requires.counted.2.1, c.requires.counted.2.2, c.requires.counted.3.2);
      k_bound = omega (arith, c.loop-k.invariant.long, c.requires.place_len_bound);
    }

-- the low part, as far as there are places
module _ (start : Start) where
  abbrev sum : Polynomial
  sum = add (mul start.args.g.now start.args.p.now) (mul start.args.h.now start.args.q.now)

  abbrev places : ℕ
  places = length start.args.place.now

  part-long : length (take places (low_part_of sum)) ≡ places
  part-long = length-take-le places (low_part_of sum) (rw length-low_part start.requires.place_len_bound)

pub loop-k-preserved : goal.loop-k-preserved
loop-k-preserved c =
    let start = (goal.at.loop-k-preserved c).Start in
    let k = c.loop-k.k in
    let below : k < places start = omega (arith, c.loop-k.invariant.long) in
    overwritten-next c.loop-k.invariant (part-long (goal.at.Start start).Start) (pos 0) below
    (read_back _ c.combined_coefficient.type_inv ∙ c.combined_coefficient.ensures.value
    ∙ sym (get_or-take (places start) (low_part_of (sum start)) k (pos 0) below
    ∙ low_part-at (sum (goal.at.Start start).Start) k (omega (arith, start.requires.place_len_bound))))

pub shape_of-place : goal.shape_of-place
shape_of-place c = c.loop-k.invariant.long

pub returns : goal.returns
returns c =
    let start = (goal.at.returns c).Start in
    overwritten-all c.loop-k.invariant (part-long (goal.at.Start start).Start) (omega (arith, c.loop-k.invariant.long))
