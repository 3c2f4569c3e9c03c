-- `roots::none_between` meets its contract. The invariant is `Ranged`. The measure is i.
-- Assumes nothing.
use mathlib.Core.Path.{◌≡◌, sym, ◌∙◌, ap, subst}
use mathlib.Core.Logic.{◌⊎◌}
use mathlib.Core.Bool.{true≢false}
use mathlib.Core.List.{List}
use Prim.Native.Nat.{◌+◌, ◌*◌, ◌-◌, ◌≤◌}
use native.Mathlib.Nat.{mul-le-mul}
use native.Mathlib.Omega.{arith}
use borrow.Author.Tests.{ltb-true}
use lib.IntN.{ℤ, pos, nat_abs}
use lib.ListN.{get_or}
use Rattle.polynomials.specs.Content.{read_back, small_at}
use Rattle.roots.specs.Bound.{Ranged, ranged-start, ranged-next, ranged-none, ranged-past}
use Rattle.roots.proofs.none_between.Goals as goal
use Rattle.roots.proofs.none_between.Goals.{After-magnitude-size, At-loop-i, Start}

module _ (c : At-loop-i) where
  abbrev start : Start
  start = c.before.before.before

  abbrev p : List ℤ
  p = start.args.p.now

-- The size of the coefficient that is joined.
module _ (c : After-magnitude-size) where
  abbrev head : At-loop-i
  head = c.before.before.before.before

  size_is : c.magnitude-size.result ≡ nat_abs (get_or (p head) (head.loop-i.i - 1) (pos 0))
  size_is = c.magnitude-size.ensures ∙ ap nat_abs (read_back (get_or (p head) (head.loop-i.i - 1) (pos 0)) c.magnitude-arg-in-loop-i-1.given)

pub bounds-p-top : goal.bounds-p-top
bounds-p-top c = c.requires.1.0

pub loop-i-init : goal.loop-i-init
loop-i-init c =
    let q = c.args.p.now in
    let size = c.magnitude-least.ensures ∙ ap nat_abs (read_back (get_or q c.args.top (pos 0)) c.magnitude-arg-1.given) in (
      c.requires.1.0,
      omega (arith, size, small_at q c.requires.0 c.args.top),
      subst (λ k. Ranged q c.args.n c.args.m c.args.top k k) (sym size) (ranged-start q c.args.n c.args.m c.args.top c.requires.1),
    )

pub returns-then-least-ge268435456 : goal.returns-then-least-ge268435456
returns-then-least-ge268435456 c =
    let head = c.before.before in
    let s = start head in
    λ _. ranged-past (p head) s.args.n s.args.m head.loop-i.i head.loop-i.least head.loop-i.most s.requires.0 s.requires.2 (omega arith)
    head.loop-i.invariant.2

pub overflow_mul-high : goal.overflow_mul-high
overflow_mul-high c = let head = c.before.before.before.before in omega (arith, mul-le-mul head.loop-i.invariant.1 (start head).requires.5)

pub overflow_mul-least : goal.overflow_mul-least
overflow_mul-least c =
    let head = c.before.before.before.before in
    let few : head.loop-i.least ≤ 268435456 = omega (arith, c.if-least-ge268435456.false) in
    omega (arith, mul-le-mul few (start head).requires.3)

pub returns-then-least-eq0 : goal.returns-then-least-eq0
returns-then-least-eq0 c = λ t. absurd (true≢false (sym t))

pub overflow_add-high : goal.overflow_add-high
overflow_add-high c =
    let at_size = c.before.before in
    let head = at_size.before.before.before.before in
    omega (arith, mul-le-mul head.loop-i.invariant.1 (start head).requires.5, size_is at_size, small_at (p head) (start head).requires.0 (head.loop-i.i - 1))

pub loop-i-preserved : goal.loop-i-preserved
loop-i-preserved c =
    let at_size = c.before.before.before in
    let head = at_size.before.before.before.before in
    let s = start head in
    let i = head.loop-i.i - 1 in
    let e = head.loop-i.least in
    let f = head.loop-i.most in
    let more : head.loop-i.i ≡ i + 1 = omega arith in
    let apart = subst (λ k. (c.distance-least.result + k ≤ e * s.args.n) ⊎ (c.distance-least.result + f * s.args.m ≤ k)
    ⊎ (c.distance-least.result ≡ 0)) (size_is at_size) c.distance-least.ensures in
    let ranged = subst (λ k. Ranged (p head) s.args.n s.args.m k e f) more head.loop-i.invariant.2 in (
      omega (arith, head.loop-i.invariant.0),
      omega (arith, c.min-most.ensures),
      ranged-next (p head) s.args.n s.args.m i e f c.distance-least.result c.min-most.result s.requires.0 s.requires.4
          (omega (arith, head.loop-i.invariant.0)) ranged apart
          (λ h. let sum : c.min-most.result ≡ f * s.args.m + at_size.magnitude-size.result = omega (arith, c.min-most.ensures) in
          sum ∙ ap (λ k. f * s.args.m + k) (size_is at_size)),
    )

pub returns : goal.returns
returns c =
    let head = c.before in
    let s = start head in
    let e : head.loop-i.i ≡ 0 = omega arith in
    let whole = subst (λ k. Ranged (p head) s.args.n s.args.m k head.loop-i.least head.loop-i.most) e head.loop-i.invariant.2 in
    λ t. ranged-none (p head) s.args.n s.args.m head.loop-i.least head.loop-i.most (ltb-true 0 head.loop-i.least t) whole
