-- `reading::terms::judge_column` meets its contract. The tests are those of the definition.
-- Assumes nothing.
use mathlib.Core.Path.{◌≡◌, sym, ap, ap₂, ◌∙◌}
use mathlib.Core.Bool.{◌&&◌, ◌||◌, cond}
use Prim.Native.Nat.{ℕ, ◌≤◌}
use native.Mathlib.Omega.{arith}
use lib.IntN.{pos}
use lib.Signed.{le_z, lt_z}
use mir.Syntax.{w64}
use mir.Val.{to_z}
use mir.Facts.{to_z-of_z, to_z_pos}
use Rattle.rules.specs.Sheets.{judge_column_of}
use Rattle.stores.specs.Validity.{the_sizes_of}
use Rattle.reading.proofs.terms.judge_column.Goals as goal
use Rattle.reading.proofs.terms.judge_column.Goals.{After-is_between}

pub is_between-requires : goal.is_between-requires
is_between-requires c = tt

small_is : (n : ℕ) → n ≤ 4 → to_z w64 n ≡ pos n
small_is n h = to_z_pos w64 (omega arith)

module _ (c : After-is_between) where
  test : c.is_between.result
      ≡ (le_z (pos 1) c.args.c && le_z c.args.c (pos c.args.z.m))
  test = simp (small_is c.args.z.m c.requires.0, to_z-of_z {w = w64} c.ranges.c) at
      c.is_between.ensures

pub returns-then-s-before : goal.returns-then-s-before
unfolding judge_column_of the_sizes_of
returns-then-s-before c =
    let a = c.args in
    let f = c.ranges in
    sym
    (ap₂ (λ t u. cond t (cond (u || lt_z (pos a.last) a.c) 0 3) 2) (sym (test (goal.at.returns-then-s-before c).After-is_between) ∙ c.if-is_between.true)
    (simp (to_z-of_z {w = w64} f.s, to_z-of_z {w = w64} f.before) at c.if-s-before.true))

pub returns-then-last-c : goal.returns-then-last-c
unfolding judge_column_of the_sizes_of
returns-then-last-c c =
    let f = c.ranges in
    sym
    (ap₂ (λ t u. cond t (cond u 0 3) 2) (sym (test (goal.at.returns-then-last-c c).After-is_between) ∙ c.if-is_between.true)
    (ap₂ ◌||◌ (simp (to_z-of_z {w = w64} f.s, to_z-of_z {w = w64} f.before) at c.if-s-before.false)
    (simp (
      small_is c.args.last c.requires.1,
      to_z-of_z {w = w64}
          f.c,
    ) at c.if-last-c.true)))

pub returns-then-is_between : goal.returns-then-is_between
unfolding judge_column_of the_sizes_of
returns-then-is_between c =
    let f = c.ranges in
    sym
    (ap₂ (λ t u. cond t (cond u 0 3) 2) (sym (test (goal.at.returns-then-is_between c).After-is_between) ∙ c.if-is_between.true)
    (ap₂ ◌||◌ (simp (to_z-of_z {w = w64} f.s, to_z-of_z {w = w64} f.before) at c.if-s-before.false)
    (simp (
      small_is c.args.last c.requires.1,
      to_z-of_z {w = w64}
          f.c,
    ) at c.if-last-c.false)))

pub returns : goal.returns
unfolding judge_column_of the_sizes_of
returns c =
    let a = c.args in
    sym (ap (λ t. cond t (cond (lt_z a.s a.before || lt_z (pos a.last) a.c) 0 3) 2) (sym (test (goal.at.returns c).After-is_between) ∙ c.if-is_between.false))
