-- `answers::clear_records` meets its contract. The loop's invariant: the first i records are cleared.
-- Assumes nothing.
use mathlib.Core.Path.{◌≡◌, refl, sym, ◌∙◌, ap}
use Prim.Native.Nat.{ℕ, ◌+◌, ◌*◌, ◌≤◌, ◌-◌}
use native.Mathlib.Nat.{zero-mul, mul-le-mul}
use native.Mathlib.Omega.{arith}
use lib.IntN.{pos}
use lib.ListN.{replicate}
use lib.Seq.{paste, paste-zero}
use Rattle.rules.specs.Limits.{coefficient_count, relation_length, most_relations}
use Rattle.answers.specs.ClearedRecords.{record-within, record-cleared}
use Rattle.answers.proofs.clear_records.Goals as goal
use Rattle.answers.proofs.clear_records.Goals.{In-loop-i, Start}

pub loop-i-init : goal.loop-i-init
loop-i-init c =
    let a = c.args in
    let zeros = replicate (a.count * a.size) (pos 0) in
    (refl, paste-zero a.store.now 0 zeros ∙ ap (paste a.store.now 0 zeros) (sym (zero-mul a.size)))

-- One turn.
module _ (c : In-loop-i) where
  abbrev s : Start
  s = (goal.at.In-loop-i c).Start

  abbrev at : ℕ
  at = c.loop-i.i * s.args.size

  inside : at + s.args.size ≤ s.args.count * s.args.size
  inside =
      record-within s.args.store.now s.args.size s.args.used s.args.count s.requires.coefficient_count_bound.0 s.requires.size_in_bounds.0 s.requires.size_in_bounds.1
      c.loop-i.i c.loop-i-test.true

  few : s.args.count * s.args.size ≤ most_relations * relation_length
  few = mul-le-mul s.requires.coefficient_count_bound.2 s.requires.coefficient_count_bound.1

pub overflow_mul-at : goal.overflow_mul-at
overflow_mul-at c = omega (arith, inside c, few c)

pub clear-requires : goal.clear-requires
clear-requires c =
    let d = (goal.at.clear-requires c).In-loop-i in
    omega (arith, inside d, (s d).requires.coefficient_count_bound.0, (s d).requires.size_in_bounds.0, d.loop-i.invariant.0)

pub overflow_sub-side : goal.overflow_sub-side
overflow_sub-side c = let d = (goal.at.overflow_sub-side c).In-loop-i in omega (arith, (s d).requires.coefficient_count_bound.0)

pub overflow_add-side : goal.overflow_add-side
overflow_add-side c = let d = (goal.at.overflow_add-side c).In-loop-i in omega (arith, inside d, few d)

pub clear-requires-in-loop-i : goal.clear-requires-in-loop-i
clear-requires-in-loop-i c =
    let d = (goal.at.clear-requires-in-loop-i c).In-loop-i in
    omega (arith, inside d, (s d).requires.coefficient_count_bound.0, (s d).requires.size_in_bounds.0, d.loop-i.invariant.0, c.clear.auto.store)

pub loop-i-preserved : goal.loop-i-preserved
loop-i-preserved c =
    let d = (goal.at.loop-i-preserved c).In-loop-i in
    let a = (s d).args in
    let first = c.clear in (
      c.clear-in-loop-i.auto.store ∙ first.auto.store ∙ d.loop-i.invariant.0,
      c.clear-in-loop-i.ensures
          ∙ ap (λ l. paste l (at d + (a.size - coefficient_count)) (replicate coefficient_count (pos 0)) coefficient_count)
          (first.ensures ∙ ap (λ l. paste l (at d) (replicate a.used (pos 0)) a.used) d.loop-i.invariant.1)
          ∙ record-cleared a.store.now a.size a.used a.count (s d).requires.coefficient_count_bound.0 (s d).requires.size_in_bounds.0 (s d).requires.size_in_bounds.1
          d.loop-i.i d.loop-i-test.true,
    )

pub returns : goal.returns
returns c = let all : c.loop-i.i ≡ c.args.count = omega arith in rw all at c.loop-i.invariant.1
