-- `roots::factors` meets its contract. The invariant is `Factoring`; the measure falls where the rest is divided, and where q
-- grows, which is at most the rest.
-- Assumes nothing.
use mathlib.Core.Logic.{◌⊎◌, inl, inr}
use Prim.Native.Nat.{ℕ, ◌/◌, ◌≤◌, ◌<◌}
use native.Mathlib.Nat.{div-le_self, div-lt_self, div-mul-le_self}
use native.Mathlib.Omega.{arith}
use lib.ListN.{length}
use Rattle.rules.specs.Limits.{bound}
use Rattle.roots.specs.Factors.{Factoring, factoring-start, factoring-take, factoring-pass, factoring-last, factoring-done}
use Rattle.roots.specs.Factors.{two, gap-bounds, rest-positive, rest-small, few-factors}
use Rattle.roots.specs.RootSearch.{the_factors_of}
use Rattle.roots.proofs.factors.Goals as goal
use Rattle.roots.proofs.factors.Goals.{At-loop-q, else-loop-q-test, then-loop-q-test+else-q-limit}

module _ (c : At-loop-q) where
  abbrev rest : ℕ
  rest = c.loop-q.rest

  abbrev q : ℕ
  q = c.loop-q.q

  state : Factoring c.args.limit c.args.a (the_factors_of c.loop-q.list) rest q
  state = c.loop-q.invariant.1

  positive : 0 < rest
  positive = rest-positive state c.requires.0

  small : rest ≤ bound
  small = omega (arith, rest-small state)

  room : length (the_factors_of c.loop-q.list) < 28
  room = few-factors state c.requires.0 c.requires.1

pub loop-q-init : goal.loop-q-init
loop-q-init c =
    (c.empty-list.ensures.0, rw c.empty-list.ensures.1 (factoring-start c.args.limit c.args.a), two)

pub nonzero_div-rest : goal.nonzero_div-rest
nonzero_div-rest c = omega (arith, (state c).low)

pub nonzero_div-quotient : goal.nonzero_div-quotient
nonzero_div-quotient c = omega (arith, (state c.before.before).low)

pub overflow_mul-quotient : goal.overflow_mul-quotient
overflow_mul-quotient c = let head = c.before.before in omega (arith, small head, div-mul-le_self (rest head) (q head))

pub push-requires : goal.push-requires
push-requires c = let head = (goal.at.push-requires c).At-loop-q in (head.loop-q.invariant.0, room head)

pub loop-q-smaller-then-quotient-q : goal.loop-q-smaller-then-quotient-q
loop-q-smaller-then-quotient-q c =
    let head = c.before.before.before.before.before in
    omega (arith, div-lt_self {n = rest head} {k = q head} (positive head) (state head).low, div-le_self (rest head) (q head))

pub loop-q-preserved-then-quotient-q : goal.loop-q-preserved-then-quotient-q
loop-q-preserved-then-quotient-q c =
    let head = c.before.before.before.before.before in (
      c.push.ensures.0,
      rw c.push.ensures.1 (factoring-take (state head) c.if-quotient-q.true),
      head.loop-q.invariant.2,
    )

pub next_gap-next-requires : goal.next_gap-next-requires
next_gap-next-requires c = c.loop-q.invariant.2

pub overflow_add-q : goal.overflow_add-q
overflow_add-q c =
    let head = c.before.before.before.before in
    omega (arith, small head, div-le_self (rest head) (q head), gap-bounds head.loop-q.invariant.2)

pub loop-q-smaller : goal.loop-q-smaller
loop-q-smaller c =
    let head = c.before.before.before.before in
    omega (arith, gap-bounds head.loop-q.invariant.2, (state head).low, div-le_self (rest head) (q head))

pub loop-q-preserved : goal.loop-q-preserved
loop-q-preserved c =
    let head = c.before.before.before.before in
    (head.loop-q.invariant.0, factoring-pass (state head) head.loop-q.invariant.2 c.if-quotient-q.false, c.next_gap-next.ensures)

pub push-requires-then-rest-ne1 : goal.push-requires-then-rest-ne1
push-requires-then-rest-ne1 c = let head = (goal.at.push-requires-then-rest-ne1 c).At-loop-q in (head.loop-q.invariant.0, room head)

pub returns-then-rest-ne1 : goal.returns-then-rest-ne1
returns-then-rest-ne1 c =
    let head = (goal.at.returns-then-rest-ne1 c).At-loop-q in
    let end : (rest head / q head < q head) ⊎ (c.args.limit ≤ q head) =
    elim c.loop-q-test.branch [ then-loop-q-test+else-q-limit w ↦ inr w.if-q-limit.false | else-loop-q-test w ↦ inl w.loop-q-test.false ] in
    let more : 1 < rest head = omega (arith, positive head) in
    let last = factoring-last (state head) more end in
    (c.push-then-rest-ne1.ensures.0, rw c.push-then-rest-ne1.ensures.1 last)

pub returns-else-rest-ne1 : goal.returns-else-rest-ne1
returns-else-rest-ne1 c =
    let head = (goal.at.returns-else-rest-ne1 c).At-loop-q in
    (c.loop-q.invariant.0, factoring-done (state head) c.if-rest-ne1.false)
