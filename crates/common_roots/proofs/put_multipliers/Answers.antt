-- `common_roots::put_multipliers` meets its contract.
-- Assumes nothing.
use mathlib.Core.Path.{◌≡◌, sym, ◌∙◌, ap}
use mathlib.Core.List.{List, ◌++◌}
use mathlib.Core.Bool.{not}
use lib.Dec.{T}
use Rattle.algebra.specs.Polynomials.{is_zero_of}
use Rattle.lists.specs.Tests.{every}
use Rattle.rules.specs.Limits.{small}
use Rattle.roots.specs.declared.RootList.{RootList}
use Rattle.multiplicities.specs.declared.RootsWith.{RootsWith}
use Prim.Native.Nat.{◌≤◌}
use native.Mathlib.Nat.{le_of_eq, pos_of_ne-zero}
use native.Mathlib.Omega.{arith}
use lib.IntN.{ℤ}
use lib.ListN.{length}
use Rattle.algebra.specs.Roots.{roots}
use Rattle.lists.specs.Sifted.{keep}
use Rattle.rules.specs.CommonRoots.{common_roots_of}
use Rattle.rules.specs.Elimination.{ratio, multipliers, roots_with_of}
use Rattle.theory.specs.Multipliers.{length-ratio-g, ratio-small}
use Rattle.roots.specs.RootSearch.{held, listed, held_of, listed-held, roots_few}
use Rattle.multiplicities.specs.Counts.{listed_with, held_with, roots_held, times_in, held_with-of, listed_with-held, roots-within}
use Rattle.multiplicities.specs.Counts.{length-times, found-held, found-count}
use Rattle.common_roots.specs.Divisions.{vanishes_at}
use Rattle.common_roots.specs.Kept.{occurs, occurring-times, length-keep, roots-ratio, roots_with-ratio}
use Rattle.common_roots.specs.Amended.{both, multipliers-plain, found-pivot}
use Rattle.common_roots.proofs.put_multipliers.Goals as goal

-- The multipliers g and h of a and b as they are, and the roots of g, with how often each occurs.
module _ (a b : List ℤ) {g h : List ℤ} {w : RootsWith} (short : length a ≡ 16) (t : T (every small a)) (some : T (not (is_zero_of (a ++ b))))
    (g-is : g ≡ (ratio a b).g) (h-is : h ≡ (ratio a b).h) (found : w ≡ listed_with (roots_with_of g)) where
  few : length (roots a) ≤ 15
  few = roots_few a (le_of_eq short)

  same-roots : roots g ≡ roots a
  same-roots = ap roots g-is ∙ roots-ratio a b some

  counted : w.count ≡ length (roots a)
  counted = found-count g found ∙ ap length same-roots

  found-is : w ≡ listed_with (roots_with_of (ratio a b).g)
  found-is = found ∙ ap (λ p. listed_with (roots_with_of p)) g-is

  -- The answer where no root is common.
  answer : length (common_roots_of (both a b)) ≡ 0
      → (g ≡ (multipliers a b).g) × (h ≡ (multipliers a b).h) × (w ≡ listed_with (roots_with_of (multipliers a b).g))
  answer none =
      let same = sym (multipliers-plain a b none) in
      (g-is ∙ ap (λ x. x.g) same, h-is ∙ ap (λ x. x.h) same, found-is ∙ ap (λ x. listed_with (roots_with_of x.g)) same)

  -- The roots alone.
  module _ {rs : RootList} (numbers : rs ≡ listed (roots_held w)) where
    alone : rs ≡ listed (roots a)
    alone = numbers ∙ ap listed (found-held g found ∙ same-roots)

    held-is : held rs ≡ roots a
    held-is = held_of (roots a) alone

    handed : (rs ≡ listed (held rs)) × (length (held rs) ≤ 16) × T (every small (held rs))
    handed = (listed-held (roots a) alone, rw held-is (omega (arith, few)), rw held-is (roots-within a t))

    -- With how often each occurs in b.
    module _ {v : RootsWith} (long : length b ≡ 16) (there : v ≡ listed_with (times_in b (held rs))) where
      other-is : v ≡ listed_with (times_in b (roots a))
      other-is = there ∙ ap (λ l. listed_with (times_in b l)) held-is

      -- The common roots are those that occur in b.
      common-is : {k : RootsWith} → k ≡ listed_with (keep occurs (held_with v)) → k.count ≡ length (common_roots_of (both a b))
      unfolding common_roots_of
      common-is kept =
          ap (λ w. w.count) (kept ∙ ap (λ l. listed_with (keep occurs l)) (held_with-of (times_in b (roots a)) other-is)
          ∙ ap listed_with (occurring-times b (roots a) (omega (arith, long))))
          ∙ length-times b (keep (vanishes_at b) (roots a))

pub roots_with-found-requires : goal.roots_with-found-requires
roots_with-found-requires c =
    let a = c.args.a.now in
    let b = c.args.b.now in
    rw c.put_multipliers.ensures.g_after
    (length-ratio-g a b ∙ c.requires.sixteen.0.0, (ratio-small a b c.requires.sixteen.0.1 c.requires.sixteen_2.1).0)

pub returns-then-found-eq0 : goal.returns-then-found-eq0
unfolding common_roots_of
returns-then-found-eq0 c =
    let a = c.args.a.now in
    let b = c.args.b.now in
    let pre = c.requires.sixteen in
    let m = c.put_multipliers.ensures in
    let found = c.roots_with-found.ensures in
    let none = sym (counted a b pre.0.0 pre.0.1 pre.1 m.g_after m.h_after found) ∙ c.if-found-eq0.true in
    let end = answer a b pre.0.0 pre.0.1 pre.1 m.g_after m.h_after found (omega (arith, none, length-keep (vanishes_at b) (roots a))) in
    record { g_after = end.0; h_after = end.1; value = end.2 }

pub numbers-requires : goal.numbers-requires
numbers-requires c =
    let a = c.args.a.now in
    let b = c.args.b.now in
    let pre = c.requires.sixteen in
    let m = c.put_multipliers.ensures in
    let found = c.roots_with-found.ensures in
    omega (arith, counted a b pre.0.0 pre.0.1 pre.1 m.g_after m.h_after found, few a b pre.0.0 pre.0.1 pre.1 m.g_after m.h_after found)

pub each_with_times-other-requires : goal.each_with_times-other-requires
each_with_times-other-requires c =
    let pre = c.requires.sixteen in
    let m = c.put_multipliers.ensures in
    record {
      p_len = c.requires.sixteen_2;
      found_value = handed c.args.a.now c.args.b.now pre.0.0 pre.0.1 pre.1 m.g_after m.h_after c.roots_with-found.ensures c.numbers.ensures;
    }

pub occurring-common-requires : goal.occurring-common-requires
occurring-common-requires c =
    let a = c.args.a.now in
    let b = c.args.b.now in
    let pre = c.requires.sixteen in
    let m = c.put_multipliers.ensures in
    let found = c.roots_with-found.ensures in
    let pairs = times_in b (roots a) in
    let few = few a b pre.0.0 pre.0.1 pre.1 m.g_after m.h_after found in
    let is = other-is a b pre.0.0 pre.0.1 pre.1 m.g_after m.h_after found c.numbers.ensures c.requires.sixteen_2.0 c.each_with_times-other.ensures in
    (listed_with-held pairs is, rw (held_with-of pairs is) (omega (arith, few, length-times b (roots a))))

pub put_divided-requires : goal.put_divided-requires
put_divided-requires c =
    let a = c.args.a.now in
    let b = c.args.b.now in
    let pre = c.requires.sixteen in
    let m = c.put_multipliers.ensures in
    let found = c.roots_with-found.ensures in
    let count = counted a b pre.0.0 pre.0.1 pre.1 m.g_after m.h_after found in
    let some = pos_of_ne-zero (λ e. c.if-found-eq0.false (count ∙ e)) in
    let nonzero = found-pivot a b some in
    let all = found-is a b pre.0.0 pre.0.1 pre.1 m.g_after m.h_after found ∙ ap listed_with (roots_with-ratio a b pre.1 nonzero) in
    let other = other-is a b pre.0.0 pre.0.1 pre.1 m.g_after m.h_after found c.numbers.ensures c.requires.sixteen_2.0 c.each_with_times-other.ensures in
    record { g_len = (omega (arith, c), omega (arith, c)); sixteen = (pre.0, nonzero, all); sixteen_2 = (c.requires.sixteen_2, other) }

pub returns-then-common-eq0 : goal.returns-then-common-eq0
returns-then-common-eq0 c =
    let a = c.args.a.now in
    let b = c.args.b.now in
    let pre = c.requires.sixteen in
    let m = c.put_multipliers.ensures in
    let found = c.roots_with-found.ensures in
    let common = common-is a b pre.0.0 pre.0.1 pre.1 m.g_after m.h_after found c.numbers.ensures c.requires.sixteen_2.0 c.each_with_times-other.ensures
    c.occurring-common.ensures in
    let end = answer a b pre.0.0 pre.0.1 pre.1 m.g_after m.h_after found (sym common ∙ c.if-common-eq0.true) in
    record { g_after = end.0; h_after = end.1; value = end.2 }
