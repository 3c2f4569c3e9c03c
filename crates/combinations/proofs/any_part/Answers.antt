-- `combinations::any_part` meets its contract.
-- Assumes nothing.
use mathlib.Core.Path.{refl, sym, ◌∙◌}
use Rattle.algebra.specs.Polynomials.{Polynomial}
use Rattle.combinations.specs.Combination.{Shortened}
use Rattle.combinations.specs.Parts.{PartFits, factors, beyond-made, whole-made}
use Rattle.combinations.proofs.any_part.Goals as goal
use Rattle.combinations.proofs.any_part.Goals.{After-shortened-2, Start}

-- the shortened polynomials
module _ (c : After-shortened-2) where
  abbrev start : Start
  start = (goal.at.After-shortened-2 c).Start

  abbrev g : Polynomial
  g = start.args.g.now

  abbrev h : Polynomial
  h = start.args.h.now

  abbrev p : Polynomial
  p = start.args.place.now

  abbrev q : Polynomial
  q = start.args.q.now

  abbrev r : Polynomial
  r = c.shortened.result.now

  abbrev t : Polynomial
  t = c.shortened-2.result.now

  fits : PartFits g h p q
  fits = start.requires

  first : Shortened r p
  first = c.shortened.ensures

  second : Shortened t q
  second = c.shortened-2.ensures

pub put_low-requires : goal.put_low-requires
put_low-requires c =
    let s = c in record {
      place_value = refl;
      counted = factors (g s) (h s) (p s) (q s) (fits s) (r s) (t s) (first s) (second s);
    }

pub returns-then-put_low : goal.returns-then-put_low
returns-then-put_low c =
    let s = (goal.at.returns-then-put_low c).After-shortened-2 in
    beyond-made (g s) (h s) (p s) (q s) (fits s) (r s) (t s) (first s) (second s) (sym c.put_low.ensures.value ∙ c.if-put_low.true)
    (start s).args.before

pub returns : goal.returns
returns c =
    let s = (goal.at.returns c).After-shortened-2 in
    whole-made (g s) (h s) (p s) (q s) (fits s) (r s) (t s) (first s) (second s) (sym c.put_low.ensures.value ∙ c.if-put_low.false)
    (c.put_low.ensures.place_after c.if-put_low.false) c.put_sums.ensures
