-- `roots::root_of_linear` meets its contract.
-- Assumes nothing.
use mathlib.Core.Path.{◌≡◌, ◌∙◌, ap}
use mathlib.Core.List.{List, []}
use Prim.Native.Nat.{◌≤◌}
use native.Mathlib.Nat.{le_trans, le_of_eq}
use native.Mathlib.Omega.{arith}
use lib.Dec.{lit≤}
use lib.IntN.{ℤ, pos, neg_ℤ, nat_abs, ◌-ℤ◌, +ℤ_idl}
use lib.ListN.{get_or}
use lib.Signed.{quot_z}
use mir.Syntax.{w64}
use mir.Val.{SFits, of_z, to_z}
use mir.Facts.{to_z-of_z}
use Rattle.algebra.specs.Integers.{nat_abs-neg_ℤ}
use Rattle.algebra.specs.Division.{quot_z-le}
use Rattle.integers.specs.Ranges.{division, sfits-size, sfits-quot_z}
use Rattle.polynomials.specs.Content.{small_at}
use Rattle.rules.specs.Limits.{bound}
use Rattle.roots.specs.RootSearch.{listed, held_of, listed-held, try_root, try_root-one, fits-small}
use Rattle.roots.specs.RootSearch.{linear-top, linear-length, linear-positive, linear-tried}
use Rattle.roots.proofs.root_of_linear.Goals as goal
use Rattle.roots.proofs.root_of_linear.Goals.{Start}

module _ (c : Start) where
  abbrev p : List ℤ
  p = c.args.p.now

  abbrev a : ℤ
  a = get_or p 0 (pos 0)

  abbrev b : ℤ
  b = get_or p 1 (pos 0)

  candidate-size : nat_abs (neg_ℤ (quot_z a b)) ≤ bound
  candidate-size = le_trans (le_of_eq (nat_abs-neg_ℤ (quot_z a b))) (le_trans (quot_z-le a b) (small_at p c.requires.1 0))

  candidate-fits : SFits w64 (neg_ℤ (quot_z a b))
  candidate-fits = sfits-size (neg_ℤ (quot_z a b)) candidate-size (omega arith)

  candidate : pos 0 -ℤ to_z w64 (of_z w64 (quot_z (to_z w64 (of_z w64 a)) (to_z w64 (of_z w64 b)))) ≡ neg_ℤ (quot_z a b)
  candidate =
      let fits-a = fits-small p 0 c.requires.1 in
      let fits-b = fits-small p 1 c.requires.1 in
      let fits = sfits-quot_z a b (omega (arith, small_at p c.requires.1 0)) in
      simp (to_z-of_z fits-a, to_z-of_z fits-b, to_z-of_z fits, +ℤ_idl)

pub bounds-p-0 : goal.bounds-p-0
bounds-p-0 c = omega (arith, linear-length (p c) c.requires.2)

pub bounds-p-1 : goal.bounds-p-1
bounds-p-1 c = linear-length (p c.before) c.requires.2

pub nonzero_div-quotient : goal.nonzero_div-quotient
nonzero_div-quotient c =
    let s = c.before.before in
    division (fits-small (p s) 0 s.requires.1) (fits-small (p s) 1 s.requires.1) (omega (arith, small_at (p s) s.requires.1 0)) (linear-positive (p s) s.requires.2)

pub overflow_sub-quotient : goal.overflow_sub-quotient
overflow_sub-quotient c = rw (candidate c.before.before) (candidate-fits c.before.before)

pub tried-requires : goal.tried-requires
tried-requires c =
    let s = c.before.before.before in (
      s.requires.0,
      s.requires.1,
      linear-top (p s) s.requires.2,
      simp (candidate s, to_z-of_z (candidate-fits s)) (candidate-size s),
      listed-held [] c.empty.ensures,
      rw (held_of [] c.empty.ensures) (le_trans (try_root-one _ _) (lit≤ tt)),
    )

pub returns : goal.returns
returns c =
    let s = c.before.before.before.before in
    (simp (candidate s, to_z-of_z (candidate-fits s)) at c.tried.ensures)
    ∙ ap (λ l. listed (try_root (p s) (neg_ℤ (quot_z (a s) (b s))) l)) (held_of [] c.empty.ensures)
    ∙ ap listed (linear-tried (p s) s.requires.2)
