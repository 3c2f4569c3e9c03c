-- `common_roots::divided_each` meets its contract. The invariant: the roots that are left divide, from the entries as they are, what all of
-- them divide from the first; the counts are those of the pivot as it is, and no integer occurs more often in the target than at first.
-- Assumes nothing.
use mathlib.Core.Path.{◌≡◌, refl, sym, ◌∙◌, ap, ap₂, subst}
use mathlib.Core.List.{List}
use Prim.Native.Nat.{ℕ, min, ◌+◌, ◌-◌, ◌≤◌, ◌<◌}
use native.Mathlib.Nat.{le_refl, le_trans, le_of_eq}
use native.Mathlib.Omega.{arith}
use lib.IntN.{ℤ, pos, nat_abs}
use lib.ListN.{length, get_or, set, drop, drop_of_length-le}
use mir.Syntax.{w64}
use mir.Val.{SFits, of_z, to_z}
use mir.Facts.{to_z-of_z}
use Rattle.algebra.specs.Multiplicity.{multiplicity}
use Rattle.algebra.specs.Roots.{roots}
use Rattle.lists.specs.Taken.{drop-next}
use Rattle.polynomials.specs.Content.{small_at}
use Rattle.rules.specs.Limits.{bound, coefficient_count}
use Rattle.rules.specs.CommonRoots.{Entries, divide_at, divide_each}
use Rattle.rules.specs.Elimination.{roots_with_of}
use Rattle.roots.specs.RootSearch.{fits-small, roots_few, roots-ascend}
use Rattle.multiplicities.specs.declared.Root.{Root}
use Rattle.multiplicities.specs.Counts.{listed_with, times_in, root_of, no_root, length-times, roots-within}
use Rattle.multiplicities.specs.Divisions.{multiplicity-most}
use Rattle.common_roots.specs.Amended.{reduced-each}
use Rattle.common_roots.specs.Divisions.{entries_of}
use Rattle.common_roots.specs.DividedTimes.{made_at, Lessened, divide_at-lessened, divide_at-fewer, divide_at-least}
use Rattle.common_roots.specs.DividedTimes.{listed-at, listed-less}
use Rattle.common_roots.proofs.divided_each.Goals as goal
use Rattle.common_roots.proofs.divided_each.Goals.{At-loop-i}

-- What is handed in, and the entries as they are at root i.
module _ (c : At-loop-i) where
  abbrev a : List ℤ
  a = c.args.entries.pivot

  abbrev b : List ℤ
  b = c.args.entries.target

  abbrev rs : List ℤ
  rs = roots a

  abbrev e : Entries
  e = entries_of c.loop-i.e

  abbrev i : ℕ
  i = c.loop-i.i

  found-is : c.args.found ≡ listed_with (times_in a rs)
  unfolding roots_with_of
  found-is = c.requires.2

  counted : c.args.found.count ≡ length rs
  counted = ap (λ f. f.count) found-is ∙ length-times a rs

  few : length rs < 16
  few = omega (arith, roots_few a (le_of_eq c.requires.0.0.0))

  -- The next root.
  abbrev r : ℤ
  r = get_or rs i (pos 0)

  root-within : nat_abs r ≤ bound
  root-within = small_at rs (roots-within a c.requires.0.0.1) i

  fits-r : SFits w64 r
  fits-r = fits-small rs i (roots-within a c.requires.0.0.1)

  module _ (h : i < c.args.found.count) where
    inside : i < length rs
    inside = omega (arith, counted)

    -- How often it occurs in both.
    abbrev here : ℕ
    here = multiplicity e.pivot r

    abbrev there : ℕ
    there = multiplicity b r

    root-is : get_or c.loop-i.left.roots i no_root ≡ root_of (r, here)
    root-is = listed-at e.pivot rs c.loop-i.invariant.3 i inside

    other-is : get_or c.args.other.roots i no_root ≡ root_of (r, there)
    other-is = listed-at b rs c.requires.3 i inside

    -- It divides no more often than it occurs in both.
    divided : divide_at (min here there) r e ≡ divide_at coefficient_count r e
    divided =
        divide_at-least here there r e c.loop-i.invariant.0.0.0 c.loop-i.invariant.0.1.0 refl
        (c.loop-i.invariant.2 r)
        (omega (arith, multiplicity-most b r, c.requires.0.1.0))

    taken : divide_each coefficient_count (drop (i + 1) rs) (divide_at (min here there) r e) ≡ divide_each coefficient_count rs (entries_of c.args.entries)
    unfolding divide_each
    taken =
        ap (divide_each coefficient_count (drop (i + 1) rs)) divided
        ∙ ap (λ l. divide_each coefficient_count l e) (sym (drop-next rs i (pos 0) inside)) ∙ c.loop-i.invariant.4

    -- What divisions at it give.
    module _ (made : ℕ) (next : Entries) (made-is : made ≡ made_at (min here there) r e) (next-is : next ≡ divide_at (min here there) r e) where
      lessened : Lessened r made e.pivot next.pivot
      lessened =
          subst (λ m. Lessened r m e.pivot next.pivot) (sym made-is)
          (subst (λ d. Lessened r (made_at (min here there) r e) e.pivot d.pivot) (sym next-is)
          (divide_at-lessened (min here there) r e c.loop-i.invariant.1))

      fewer : (x : ℤ) → multiplicity next.target x ≤ multiplicity b x
      fewer x =
          le_trans (subst (λ y. multiplicity y.target x ≤ multiplicity e.target x) (sym next-is) (divide_at-fewer (min here there) r e x))
          (c.loop-i.invariant.2 x)

      less : record { count = c.loop-i.left.count; roots = set c.loop-i.left.roots i (root_of (r, here - made)) }
          ≡ listed_with (times_in next.pivot rs)
      less = listed-less e.pivot rs c.loop-i.invariant.3 i inside next.pivot made (roots-ascend a) lessened

      on : divide_each coefficient_count (drop (i + 1) rs) next ≡ divide_each coefficient_count rs (entries_of c.args.entries)
      on = ap (divide_each coefficient_count (drop (i + 1) rs)) next-is ∙ taken

pub loop-i-init : goal.loop-i-init
unfolding roots_with_of
loop-i-init c = (c.requires.0, c.requires.1, λ x. le_refl (multiplicity c.args.entries.target x), c.requires.2, refl)

pub bounds-left-i : goal.bounds-left-i
bounds-left-i c =
    let at = (goal.at.bounds-left-i c).At-loop-i in
    omega (arith, few at, inside at c.loop-i-test.true)

pub bounds-other-i : goal.bounds-other-i
bounds-other-i c =
    let at = (goal.at.bounds-other-i c).At-loop-i in
    omega (arith, few at, inside at c.loop-i-test.true)

pub divided_at-d-requires : goal.divided_at-d-requires
divided_at-d-requires c =
    let at = (goal.at.divided_at-d-requires c).At-loop-i in
    (c.loop-i.invariant.0, rw (ap (λ x. x.value) (root-is at c.loop-i-test.true), to_z-of_z (fits-r at)) (root-within at))

-- What the call that divides gives, said of the next root.
module _ (c : At-loop-i) (h : c.loop-i.i < c.args.found.count) where
  abbrev root : Root
  root = get_or c.loop-i.left.roots (i c) no_root

  abbrev other : Root
  other = get_or c.args.other.roots (i c) no_root

  module _ {k : ℕ} (least : k ≡ min root.times other.times) where
    least-is : k ≡ min (here c h) (there c h)
    least-is = least ∙ ap₂ (λ x y. min x.times y.times) (root-is c h) (other-is c h)

    value-is : to_z w64 (of_z w64 root.value) ≡ r c
    value-is = ap (λ x. to_z w64 (of_z w64 x.value)) (root-is c h) ∙ to_z-of_z (fits-r c)

    made-at : {made : ℕ} → made ≡ made_at k (to_z w64 (of_z w64 root.value)) (e c) → made ≡ made_at (min (here c h) (there c h)) (r c) (e c)
    made-at m = m ∙ ap₂ (λ n x. made_at n x (e c)) least-is value-is

    next-at : {next : Entries} → next ≡ divide_at k (to_z w64 (of_z w64 root.value)) (e c) → next ≡ divide_at (min (here c h) (there c h)) (r c) (e c)
    next-at d = d ∙ ap₂ (λ n x. divide_at n x (e c)) least-is value-is

pub overflow_sub-left : goal.overflow_sub-left
overflow_sub-left c =
    let at = (goal.at.overflow_sub-left c).At-loop-i in
    let h = c.loop-i-test.true in
    let made = made-at at h c.min.ensures c.divided_at-d.ensures.made_value in
    let next = next-at at h c.min.ensures c.divided_at-d.ensures.fits.1 in
    omega (arith, ap (λ x. x.times) (root-is at h), (lessened at h _ _ made next).here)

pub loop-i-preserved : goal.loop-i-preserved
loop-i-preserved c =
    let at = (goal.at.loop-i-preserved c).At-loop-i in
    let h = c.loop-i-test.true in
    let made = made-at at h c.min.ensures c.divided_at-d.ensures.made_value in
    let next = next-at at h c.min.ensures c.divided_at-d.ensures.fits.1 in (
      c.divided_at-d.ensures.fits.0,
      (lessened at h _ _ made next).nonzero,
      fewer at h _ _ made next,
      ap (λ x. record {
        count = c.loop-i.left.count;
        roots = set c.loop-i.left.roots c.loop-i.i (record { value = x.value; times = x.times - c.divided_at-d.result.made });
      }) (root-is at h) ∙ less at h _ _ made next,
      on at h _ _ made next,
    )

pub returns : goal.returns
unfolding divide_each
returns c =
    let at = (goal.at.returns c).At-loop-i in
    let inv = c.loop-i.invariant in
    let past : length (rs at) ≤ c.loop-i.i = omega (arith, c.loop-i-test.false, counted at) in record {
      fits = (
        inv.0,
        ap (λ l. divide_each coefficient_count l (entries_of c.loop-i.e)) (sym (drop_of_length-le (rs at) past)) ∙ inv.4
            ∙ reduced-each (a at) (b at) c.requires.0.0.0,
      );
      roots_value = inv.3;
    }
