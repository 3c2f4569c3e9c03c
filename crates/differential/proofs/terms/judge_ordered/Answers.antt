-- `differential::terms::judge_ordered` meets its contract. The tests are those of the definition.
-- Assumes nothing.
use mathlib.Core.Path.{◌≡◌, sym, ap, ap₂, ◌∙◌}
use mathlib.Core.Bool.{◌&&◌, cond}
use Prim.Native.Nat.{ℕ, suc, ◌≤◌}
use native.Mathlib.Omega.{arith}
use lib.IntN.{pos}
use lib.Signed.{le_z}
use mir.Syntax.{w64}
use mir.Val.{to_z}
use mir.Facts.{to_z-of_z, to_z_pos}
use Rattle.rules.specs.Limits.{column_count}
use Rattle.differential.specs.Grammar.{judge_ordered_of}
use Rattle.differential.proofs.terms.judge_ordered.Goals as goal
use Rattle.differential.proofs.terms.judge_ordered.Goals.{After-is_between, After-is_between-2, Start}

small_is : (n : ℕ) → n ≤ suc column_count → to_z w64 n ≡ pos n
small_is n h = to_z_pos w64 (omega arith)

-- The range.
module _ (c : After-is_between) where
  abbrev s : Start
  s = (goal.at.After-is_between c).Start

  range : c.is_between.result ≡ (le_z (pos s.args.low) s.args.value && le_z s.args.value (pos s.args.high))
  range = simp (small_is s.args.low s.requires.low-few, small_is s.args.high s.requires.high-few, to_z-of_z {w = w64} s.ranges.value) at
      c.is_between.ensures

-- What keeps the order.
module _ (c : After-is_between-2) where
  abbrev t : Start
  t = (goal.at.After-is_between-2 c).Start

  order : c.is_between-2.result ≡ (le_z (pos t.args.first) t.args.value && le_z t.args.value (pos t.args.last))
  order = simp (small_is t.args.first t.requires.first-few, small_is t.args.last t.requires.last-few, to_z-of_z {w = w64} t.ranges.value) at
      c.is_between-2.ensures

pub returns-then-not-is_between : goal.returns-then-not-is_between
unfolding judge_ordered_of
returns-then-not-is_between c =
    let a = c.args in
    sym (ap (λ t. cond t (cond (le_z (pos a.first) a.value && le_z a.value (pos a.last)) 0 3) 2)
    (sym (range (goal.at.returns-then-not-is_between c).After-is_between) ∙ c.if-not-is_between.true))

pub returns-then-not-is_between-2 : goal.returns-then-not-is_between-2
unfolding judge_ordered_of
returns-then-not-is_between-2 c =
    sym (ap₂ (λ t u. cond t (cond u 0 3) 2) (sym (range (goal.at.returns-then-not-is_between-2 c).After-is_between) ∙ c.if-not-is_between.false)
    (sym (order (goal.at.returns-then-not-is_between-2 c).After-is_between-2) ∙ c.if-not-is_between-2.true))

pub returns : goal.returns
unfolding judge_ordered_of
returns c =
    sym (ap₂ (λ t u. cond t (cond u 0 3) 2) (sym (range (goal.at.returns c).After-is_between) ∙ c.if-not-is_between.false)
    (sym (order (goal.at.returns c).After-is_between-2) ∙ c.if-not-is_between-2.false))
