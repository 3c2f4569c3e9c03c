-- `roots::tried_products` meets its contract.
-- Assumes nothing.
use native.Mathlib.Omega.{arith}
use lib.IntN.{ℤ}
use lib.ListN.{length, get_or, drop, drop_of_length-le}
use mathlib.Core.Path.{sym, subst}
use mathlib.Core.List.{List, ◌∷◌}
use native.Mathlib.Nat.{le_of_eq}
use Rattle.roots.specs.declared.RootList.{RootList}
use Rattle.roots.specs.Factors.{Run, Remaining, remaining-none, remaining-with, remaining-without, next_small}
use Rattle.lists.specs.Taken.{drop-next}
use Rattle.roots.specs.RootSearch.{Tried, tried-none, tried-with, tried-without, both_found, tried-only, found-length}
use Prim.Native.Nat.{ℕ, ◌+◌, ◌*◌, ◌≤◌, ◌<◌}
use Rattle.roots.proofs.+tried_products.Goals as goal

-- The factors l from i on, and those from `next` on, which come after the run of factor i.
module _ {n d : ℕ} (l : List ℕ) (i : ℕ) (inside : i < length l) (left : Remaining n d (drop i l)) where
  abbrev q : ℕ
  q = get_or l i 0

  first : Remaining n d (q ∷ drop (i + 1) l)
  first = subst (Remaining n d) (drop-next l i 0 inside) left

  module _ (next : ℕ) (run : Run q (drop i l) (drop next l)) where
    first_run : Run q (q ∷ drop (i + 1) l) (drop next l)
    first_run = subst (λ k. Run q k (drop next l)) (drop-next l i 0 inside) run

    both : {p : List ℤ} {f g k : RootList} → Tried p n (d * q) (drop (i + 1) l) f g → Tried p n d (drop next l) g k
        → Tried p n d (drop i l) f k
    both {p} {f} {k} with-q without-q =
        subst (λ m. Tried p n d m f k) (sym (drop-next l i 0 inside))
        (tried-with first.positive first.simple first_run with-q without-q)

    without : {p : List ℤ} {f g : RootList} → n ≤ d * q → Tried p n d (drop next l) f g → Tried p n d (drop i l) f g
    without {p} {f} {g} past without-q =
        subst (λ m. Tried p n d m f g) (sym (drop-next l i 0 inside))
        (tried-without first.positive first.simple first_run past without-q)

pub tried_both-requires : goal.tried_both-requires
tried_both-requires t c =
    let few = found-length _ c.requires.3 (both_found c.requires.4 c.args.d) in
    let none = drop_of_length-le c.args.factors.now (le_of_eq (sym c.if-i-factors.true)) in
    let last = subst (Remaining c.args.limit c.args.d) none c.requires.6 in
    (c.requires.0, c.requires.1, c.requires.2, remaining-none last, c.requires.4.exact, omega arith)

pub returns-then-i-factors : goal.returns-then-i-factors
returns-then-i-factors t c =
    let e = drop_of_length-le c.args.factors.now (le_of_eq (sym c.if-i-factors.true)) in
    subst (λ l. Tried c.args.p.now c.args.limit c.args.d l c.args.found c.tried_both.result) (sym e)
    (tried-none c.requires.4 c.args.limit c.args.d c.tried_both.ensures)

pub overflow_mul-larger : goal.overflow_mul-larger
overflow_mul-larger t c = omega (arith, next_small (first c.args.factors.now c.args.i (omega arith) c.requires.6))

pub tried_products-more-requires : goal.tried_products-more-requires
tried_products-more-requires t c =
    let rest = remaining-with (first c.args.factors.now c.args.i (omega arith) c.requires.6) in
    (omega arith, (c.requires.0, c.requires.1, c.requires.2, c.requires.3, c.requires.4, omega arith, rest))

pub tried_products-requires : goal.tried_products-requires
tried_products-requires t c =
    let rest = remaining-without c.requires.6 c.after_run-next.ensures.2 in
    (omega arith, (c.requires.0, c.requires.1, c.requires.2, c.requires.3, tried-only c.tried_products-more.ensures, omega arith, rest))

pub tried_products-requires-else-larger-limit : goal.tried_products-requires-else-larger-limit
tried_products-requires-else-larger-limit t c =
    let rest = remaining-without c.requires.6 c.after_run-next.ensures.2 in
    (omega arith, (c.requires.0, c.requires.1, c.requires.2, c.requires.3, c.requires.4, omega arith, rest))

pub returns-then-larger-limit : goal.returns-then-larger-limit
returns-then-larger-limit t c =
    both c.args.factors.now c.args.i (omega arith) c.requires.6 c.after_run-next.result c.after_run-next.ensures.2
    c.tried_products-more.ensures
    c.tried_products.ensures

pub returns-else-larger-limit : goal.returns-else-larger-limit
returns-else-larger-limit t c =
    without c.args.factors.now c.args.i (omega arith) c.requires.6 c.after_run-next.result c.after_run-next.ensures.2
    c.if-larger-limit.false
    c.tried_products-else-larger-limit.ensures
