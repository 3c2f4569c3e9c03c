-- `polynomials::content::content_with` meets its contract. The loop's invariant: the result is the greatest common divisor of d and of
-- the content of the coefficients from i on.
-- Assumes nothing.
use mathlib.Core.Path.{◌≡◌, sym, ◌∙◌, ap}
use mathlib.Core.List.{List}
use Prim.Native.Nat.{ℕ, ◌+◌}
use lib.IntN.{ℤ, pos, nat_abs}
use lib.ListN.{get_or, take, drop, drop_of_length-le}
use Rattle.algebra.specs.Gcd.{gcd, content, gcd-zero}
use Rattle.polynomials.specs.Content.{read_back, content-front, content-next, one-gcd}
use Rattle.polynomials.proofs.content.content_with.Goals as goal
use Rattle.polynomials.proofs.content.content_with.Goals.{After-with_divisor-d}

-- the content, with the next coefficient joined to d
module _ (c : After-with_divisor-d) where
  abbrev front : List ℤ
  front = take c.without_fours-n.result c.args.p.now

  abbrev i : ℕ
  i = c.loop-a.a-index

  abbrev rest : ℕ
  rest = content (drop (i + 1) front)

  abbrev start : ℕ
  start = c.args.start

  joined : gcd start (content c.args.p.now) ≡ gcd c.with_divisor-d.result rest
  joined =
      let d = c.loop-a.d in
      c.loop-a.invariant ∙ content-next d front i c.loop-a-test.true
      ∙ ap (λ e. gcd e rest)
      (sym (c.with_divisor-d.ensures ∙ ap (λ a. gcd (nat_abs a) d) (read_back (get_or front i (pos 0)) c.with_divisor-arg-1.given)))

pub loop-a-init : goal.loop-a-init
loop-a-init c = ap (gcd c.args.start) (content-front c.args.p.now c.without_fours-n.result c.without_fours-n.ensures.1)

pub returns-then-d-eq1 : goal.returns-then-d-eq1
returns-then-d-eq1 c = sym (joined c.before ∙ ap (λ e. gcd e (rest c.before)) c.if-d-eq1.true ∙ one-gcd (rest c.before))

pub loop-a-preserved : goal.loop-a-preserved
loop-a-preserved c = joined c.before

pub returns : goal.returns
unfolding content
returns c =
    let loop = c.loop-a in
    let front = take c.without_fours-n.result c.args.p.now in
    sym (loop.invariant ∙ ap (λ q. gcd loop.d (content q)) (drop_of_length-le front c.loop-a-test.false) ∙ gcd-zero loop.d)
