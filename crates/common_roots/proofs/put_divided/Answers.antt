-- `common_roots::put_divided` meets its contract.
-- Assumes nothing.
use mathlib.Core.Path.{◌≡◌, sym, ◌∙◌, ap, ap₂, subst}
use mathlib.Core.Bool.{not}
use mathlib.Core.List.{List, ◌++◌}
use Prim.Native.Nat.{ℕ, ◌≤◌}
use native.Mathlib.Nat.{le_of_eq}
use native.Mathlib.Omega.{arith}
use lib.Dec.{T}
use lib.IntN.{ℤ}
use lib.ListN.{length}
use Rattle.algebra.specs.Polynomials.{Polynomial, is_zero_of}
use Rattle.algebra.specs.Roots.{roots}
use Rattle.lists.specs.Sifted.{keep}
use Rattle.rules.specs.CommonRoots.{reduced}
use Rattle.rules.specs.Elimination.{ratio, multipliers, roots_with_of}
use Rattle.roots.specs.RootSearch.{roots_few}
use Rattle.multiplicities.specs.Counts.{listed_with, times_in, held_with-of, listed_with-held}
use Rattle.multiplicities.specs.Counts.{length-times}
use Rattle.common_roots.specs.Divisions.{Sixteen, entries_of}
use Rattle.common_roots.specs.Kept.{occurs}
use Rattle.common_roots.specs.Amended.{both, reduced-not-both, multipliers-roots}
use Rattle.common_roots.proofs.put_divided.Goals as goal
use Rattle.common_roots.proofs.put_divided.Goals.{After-divided_each-d, Start}

pub divided_each-d-requires : goal.divided_each-d-requires
divided_each-d-requires c =
    let pivot = sym c.copied-pivot.ensures in
    let target = sym c.copied-target.ensures in (
      (subst Sixteen pivot c.requires.sixteen.0, subst Sixteen target c.requires.sixteen_2.0),
      subst (λ x. T (not (is_zero_of x))) pivot c.requires.sixteen.1,
      c.requires.sixteen.2 ∙ ap (λ x. listed_with (roots_with_of x)) pivot,
      c.requires.sixteen_2.1 ∙ ap₂ (λ x y. listed_with (times_in y (roots x))) pivot target,
    )

-- What is left of both entries, and how often each root of a occurs in what is left of a.
module _ (c : After-divided_each-d) where
  abbrev a : List ℤ
  a = c.args.a.now

  abbrev b : List ℤ
  b = c.args.b.now

  abbrev p : Polynomial
  p = (reduced (both a b)).pivot

  abbrev pairs : List (ℤ × ℕ)
  pairs = times_in p (roots a)

  pivot-is : c.copied-pivot.result ≡ a
  pivot-is = c.copied-pivot.ensures

  target_is : c.copied-target.result ≡ b
  target_is = c.copied-target.ensures

  entries-are : entries_of c.divided_each-d.result.entries ≡ reduced (both a b)
  entries-are = c.divided_each-d.ensures.fits.1 ∙ ap₂ (λ x y. reduced (both x y)) pivot-is target_is

  all-is : c.divided_each-d.result.roots ≡ listed_with pairs
  all-is = c.divided_each-d.ensures.roots_value ∙ ap₂ (λ x y. listed_with (times_in x.pivot (roots y))) entries-are pivot-is

  few : length pairs ≤ 16
  few = omega (arith, length-times p (roots a), roots_few a (le_of_eq c.requires.sixteen.0.0))

pub put_multipliers-requires : goal.put_multipliers-requires
put_multipliers-requires c =
    let d = (goal.at.put_multipliers-requires c).After-divided_each-d in
    let left = reduced-not-both (a d) (b d) c.requires.sixteen.1 in
    record {
      g_len = c.requires.g_len;
      a_len = (
        d.divided_each-d.ensures.fits.0.0.0,
        d.divided_each-d.ensures.fits.0.0.1,
        subst (λ e. T (not (is_zero_of (e.pivot ++ e.target)))) (sym (entries-are d)) left,
      );
      b_len = d.divided_each-d.ensures.fits.0.1;
    }

pub occurring-requires : goal.occurring-requires
occurring-requires c =
    let d = (goal.at.occurring-requires c).After-divided_each-d in
    (listed_with-held (pairs d) (all-is d), rw (held_with-of (pairs d) (all-is d)) (few d))

pub returns : goal.returns
unfolding multipliers
returns c =
    let d = (goal.at.returns c).After-divided_each-d in
    let pre = c.requires.sixteen in record {
      g_after = c.put_multipliers.ensures.g_after ∙ ap (λ e. (ratio e.pivot e.target).g) (entries-are d);
      h_after = c.put_multipliers.ensures.h_after ∙ ap (λ e. (ratio e.pivot e.target).h) (entries-are d);
      value = c.occurring.ensures ∙ ap (λ l. listed_with (keep occurs l)) (held_with-of (pairs d) (all-is d))
          ∙ ap listed_with (sym (multipliers-roots (a d) (b d) pre.1 (omega (arith, pre.0.0))));
    }
