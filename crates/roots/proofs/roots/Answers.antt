-- `roots::roots` meets its contract. A constant has no roots; any other polynomial is nonzero.
-- Assumes nothing.
use mathlib.Core.Path.{◌≡◌, sym, ◌∙◌, ap, subst}
use mathlib.Core.List.{List}
use mathlib.Core.Bool.{not}
use native.Mathlib.Omega.{arith}
use lib.Dec.{T}
use lib.IntN.{ℤ, nat_abs}
use mir.Syntax.{w64}
use mir.Val.{of_z, to_z}
use mir.Facts.{to_z-of_z}
use Rattle.integers.specs.Ranges.{sfits-size}
use Rattle.algebra.specs.Polynomials.{is_zero_of, lowest}
use Rattle.roots.specs.Bound.{Top, top-degree}
use Rattle.roots.specs.RootSearch.{listed, lowest-small, nonconstant-nonzero, roots-constant}
use Rattle.roots.proofs.roots.Goals as goal
use Rattle.roots.proofs.roots.Goals.{After-magnitude, Start}

-- What is searched.
module _ (c : After-magnitude) where
  abbrev start : Start
  start = c.before.before.before.before.before

  abbrev p : List ℤ
  p = start.args.p.now

  nonzero : T (not (is_zero_of p))
  nonzero = nonconstant-nonzero p (λ e. c.if-n-eq0.false (c.degree-n.ensures ∙ e))

  size : c.magnitude.result ≡ nat_abs (lowest p)
  size =
      let fits = sfits-size (lowest p) (lowest-small p nonzero start.requires.1) (omega arith) in
      c.magnitude.ensures ∙ ap (λ z. nat_abs (to_z w64 (of_z w64 z))) c.lowest.ensures ∙ ap nat_abs (to_z-of_z fits)

pub overflow_cast-magnitude : goal.overflow_cast-magnitude
overflow_cast-magnitude c = omega (arith, size c, lowest-small (p c) (nonzero c) (start c).requires.1)

pub searched-requires : goal.searched-requires
searched-requires c =
    let top = subst (Top (p c)) (sym c.degree-n.ensures) (top-degree (p c) (nonzero c)) in
    ((start c).requires.0, (start c).requires.1, top, nonzero c, size c)

pub returns-then-n-eq0 : goal.returns-then-n-eq0
returns-then-n-eq0 c =
    let p = c.args.p.now in
    c.empty.ensures ∙ ap listed (sym (roots-constant p (sym c.degree-n.ensures ∙ c.if-n-eq0.true)))
