-- `polynomials::content::content_of_both` meets its contract. The content of two lists together is the greatest common divisor of theirs.
-- Assumes nothing.
use mathlib.Core.Path.{◌≡◌, sym, ◌∙◌, ap}
use mathlib.Core.List.{List, ◌++◌}
use lib.IntN.{ℤ}
use Rattle.algebra.specs.Gcd.{gcd, content, content-append}
use Rattle.polynomials.specs.Content.{one-gcd}
use Rattle.polynomials.proofs.content.content_of_both.Goals as goal
use Rattle.polynomials.proofs.content.content_of_both.Goals.{After-content-first}

-- The content of a is known.
module _ (c : After-content-first) where
  abbrev a : List ℤ
  a = c.args.a.now

  abbrev b : List ℤ
  b = c.args.b.now

  joined : content (a ++ b) ≡ gcd c.content-first.result (content b)
  joined = content-append a b ∙ ap (λ n. gcd n (content b)) (sym c.content-first.ensures)

pub returns-then-first-eq1 : goal.returns-then-first-eq1
returns-then-first-eq1 c =
    let first = c.before in
    sym (joined first ∙ ap (λ n. gcd n (content (b first))) c.if-first-eq1.true ∙ one-gcd (content (b first)))

pub returns : goal.returns
returns c = c.content_with.ensures ∙ sym (joined c.before.before)
