-- `polynomials::content::put_multipliers` meets its contract. The content d of both is at most C, so it fits an i64, and no quotient
-- is larger than its coefficient.
-- Assumes nothing.
use mathlib.Core.Path.{◌≡◌, sym, ◌∙◌, ap, ap₂, subst}
use mathlib.Core.List.{List, ◌++◌}
use Prim.Native.Nat.{ℕ, ◌^◌, ◌≤◌, ◌<◌}
use lib.Dec.{T, lt→ltb, lit<}
use lib.IntN.{ℤ, pos, nat_abs}
use lib.ListN.{length}
use lib.Signed.{lt_z}
use mir.Syntax.{w64}
use mir.Val.{SFits, to_z}
use mir.Facts.{to_z-of_z}
use Rattle.algebra.specs.Polynomials.{negate}
use Rattle.algebra.specs.Gcd.{content, divide_by, length-divide_by}
use Rattle.rules.specs.Limits.{bound, small, coefficient_count}
use Rattle.lists.specs.Tests.{every}
use Rattle.rules.specs.Elimination.{turn_signs_of, ratio}
use Rattle.integers.specs.Ranges.{sfits-size}
use Rattle.polynomials.specs.Content.{Below, below-of-small, below-divide_by, content-bounds}
use Rattle.polynomials.proofs.content.put_multipliers.Goals as goal
use Rattle.polynomials.proofs.content.put_multipliers.Goals.{After-content_of_both-divisor, After-put_divided, After-put_divided-2}

-- the divisor, as a number and as an i64
module _ (c : After-content_of_both-divisor) where
  abbrev a : List ℤ
  a = c.args.a.now

  abbrev b : List ℤ
  b = c.args.b.now

  abbrev d : ℕ
  d = content (a ++ b)

  bounds : (0 < d) × (d ≤ bound)
  bounds = content-bounds a b c.requires.a_len.1 c.requires.b_len.1 c.requires.a_len.2

  fits : SFits w64 (pos c.content_of_both-divisor.result)
  fits = rw c.content_of_both-divisor.ensures (sfits-size (pos d) bounds.1 (lit< tt))

  divisor : to_z w64 c.content_of_both-divisor.result ≡ pos d
  divisor = to_z-of_z fits ∙ ap pos c.content_of_both-divisor.ensures

  positive-d : T (lt_z (pos 0) (to_z w64 c.content_of_both-divisor.result))
  positive-d = rw divisor (lt→ltb 0 d bounds.0)

-- the quotients by d
p-is : (c : After-put_divided) → let e = c.before.before in c.put_divided.new.place ≡ divide_by (d e) (a e)
p-is c = let e = c.before.before in c.put_divided.ensures ∙ ap (λ z. divide_by (nat_abs z) (a e)) (divisor e)

q-is : (c : After-put_divided-2) → let e = c.before.before.before.before.before in c.put_divided-2.new.place ≡ divide_by (d e) (b e)
q-is c =
    let e = c.before.before.before.before.before in
    c.put_divided-2.ensures ∙ ap (λ z. divide_by (nat_abs z) (b e)) (divisor e)

-- a polynomial of so many coefficients, each of which can be negated
abbrev Negatable : List ℤ → Type 0
Negatable p = (length p ≡ coefficient_count) × Below (2 ^ 63) p

quotients-negatable : (n : ℕ) (p : List ℤ) → length p ≡ coefficient_count → T (every small p) → Negatable (divide_by n p)
quotients-negatable n p l h = (length-divide_by n p ∙ l, below-divide_by n p (below-of-small p h))

pub overflow_cast-divisor : goal.overflow_cast-divisor
overflow_cast-divisor c = fits c

pub put_divided-requires : goal.put_divided-requires
put_divided-requires c =
    let e = c.before in
    (e.requires.g_len.0, e.requires.a_len.0, below-of-small (a e) e.requires.a_len.1, positive-d e)

pub put_divided-requires-2 : goal.put_divided-requires-2
put_divided-requires-2 c =
    let e = c.before.before.before.before in
    (e.requires.g_len.1, e.requires.b_len.0, below-of-small (b e) e.requires.b_len.1, positive-d e)

pub turn_signs-requires : goal.turn_signs-requires
turn_signs-requires c =
    let q = c.before.before.before in
    let e = q.before.before.before.before.before in
    record { g_len = subst Negatable (sym (p-is q.before.before.before)) (quotients-negatable (d e) (a e) e.requires.a_len.0 e.requires.a_len.1); h_len = subst Negatable (sym (q-is q)) (quotients-negatable (d e) (b e) e.requires.b_len.0 e.requires.b_len.1) }

pub returns : goal.returns
unfolding ratio
returns c =
    let t = c.before.before in
    let q = t.before.before.before.before in
    let signed = ap₂ (λ x y. turn_signs_of x (negate y)) (p-is q.before.before.before) (q-is q) in
    record { g_after = t.turn_signs.ensures.g_after ∙ ap (λ m. m.g) signed; h_after = t.turn_signs.ensures.h_after ∙ ap (λ m. m.h) signed }
