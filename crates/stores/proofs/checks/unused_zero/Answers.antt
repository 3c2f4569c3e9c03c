-- `stores::checks::unused_zero` meets its contract: all is zero where each block of 64 numbers is, and the rest.
-- Assumes nothing.
use Rattle.std.proofs.Common.{◌≡◌, refl, sym, ◌∙◌, ap, rules, ℕ, zero, suc, ◌+◌, ◌*◌, ◌/◌, ◌&&◌, List, ℤ, length, take, drop, take-append-drop, take-add, arith}
use Rattle.std.specs.List.{list_all}
use Rattle.std.specs.Simd.{first_chunks}
use Rattle.std.proofs.lemmas.Iterator.{YieldsList-from_slice}
use Rattle.std.proofs.lemmas.Iterator.Search.{all_from_yields_List}
use Rattle.algebra.specs.Polynomials.{is_zero_of, is_zero-append}
use Rattle.lists.specs.Tests.{and_second, and_first}
use Rattle.stores.proofs.checks.unused_zero.Goals as goal
use Rattle.stores.proofs.checks.unused_zero.Goals.{After-all}

chunks-zero : (k : ℕ) (l : List ℤ) → list_all is_zero_of (first_chunks 64 k l) ≡ is_zero_of (take (k * 64) l)
unfolding is_zero_of
chunks-zero zero l = refl
chunks-zero (suc k) l =
    let whole : suc k * 64 ≡ 64 + k * 64 = omega arith in
    ap (λ b. is_zero_of (take 64 l) && b) (chunks-zero k (drop 64 l))
    ∙ sym (ap (λ n. is_zero_of (take n l)) whole ∙ ap is_zero_of (take-add 64 (k * 64) l)
    ∙ is_zero-append (take 64 l) (take (k * 64) (drop 64 l)))

parted : (n : ℕ) (l : List ℤ) → is_zero_of l ≡ (is_zero_of (take n l) && is_zero_of (drop n l))
parted n l = ap is_zero_of (sym (take-append-drop n l)) ∙ is_zero-append (take n l) (drop n l)

module _ (c : After-all) where
  abbrev numbers : List ℤ
  numbers = c.args.numbers.now

  blocks : c.all.result ≡ is_zero_of (take (length numbers / 64 * 64) numbers)
  blocks =
      all_from_yields_List is_zero_of c.all.new.self _ c.all.result c.all.ensures.ran (YieldsList-from_slice _ c.iter.ensures.rest)
      (λ x b q k. search rules)
      ∙ ap (list_all is_zero_of) c.as_chunks.ensures.front ∙ chunks-zero (length numbers / 64) numbers

pub returns-then-all : goal.returns-then-all
returns-then-all c =
    let d = (goal.at.returns-then-all c).After-all in
    let n = numbers d in
    c.all_zero.ensures ∙ ap is_zero_of c.as_chunks.ensures.back
    ∙ and_second _ _ (sym (blocks d) ∙ c.if-all.true) ∙ sym (parted (length n / 64 * 64) n)

pub returns-else-all : goal.returns-else-all
returns-else-all c =
    let d = (goal.at.returns-else-all c).After-all in
    let n = numbers d in
    blocks d ∙ and_first _ _ (sym (blocks d) ∙ c.if-all.false) ∙ sym (parted (length n / 64 * 64) n)
