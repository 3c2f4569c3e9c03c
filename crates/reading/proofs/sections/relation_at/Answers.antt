-- `reading::sections::relation_at` meets its contract: n0, and then an equation, whose row is read behind n0.
-- Assumes nothing.
use mathlib.Core.Path.{◌≡◌, sym, ap, ◌∙◌}
use mathlib.Core.List.{List}
use Prim.Native.Nat.{◌-◌}
use native.Mathlib.Nat.{le_refl}
use native.Mathlib.Omega.{arith}
use borrow.Author.Rules.{rules}
use borrow.Rule.Slice.PartMut.{same_len_mid}
use lib.Dec.{lit≤}
use lib.IntN.{ℤ}
use lib.ListN.{length, set, length-set}
use mir.Syntax.{w64}
use mir.Val.{SFits, to_z, of_z}
use mir.Facts.{to_z-of_z}
use Rattle.rules.specs.Limits.{relation_length}
use Rattle.tokens.specs.Fields.{read-err, read-ok, read-within, fails-on, reads-as, reads-made, then-got, then-fault}
use Rattle.reading.specs.Zeros.{length-zeros}
use Rattle.reading.specs.Sections.{relation_of-back, relation-behind, relation_then, relation-is}
use Rattle.reading.proofs.sections.relation_at.Goals as goal
use Rattle.reading.proofs.sections.relation_at.Goals.{After-struct_told-1, Start}

pub returns-in_err-n : goal.returns-in_err-n
returns-in_err-n c =
    fails-on _ c.in_err-n.field-0.0 c.from_residual.ensures.1
    (relation-is _ _ ∙ then-fault _ (read-err c.in_err-n.ensures))

-- The relation that was lent has numbers.
whole : (c : Start) → length c.args.relation.now ≡ relation_length
whole c = ap length c.requires.relation_value ∙ length-zeros relation_length

pub bounds-relation-0 : goal.bounds-relation-0
bounds-relation-0 c = omega (arith, whole (goal.at.bounds-relation-0 c).Start)

-- The relation with its n0.
module _ (c : After-struct_told-1) where
  abbrev value : ℤ
  value = c.in_ok-n.n.value

  abbrev numbers : List ℤ
  numbers = set c.args.relation.now 0 (to_z w64 (of_z w64 value))

  long : length numbers ≡ relation_length
  long = length-set c.args.relation.now 0 _
      ∙ whole (goal.at.After-struct_told-1 c).Start

pub slice_bounds-equation_at-count : goal.slice_bounds-equation_at-count
slice_bounds-equation_at-count c = rw (long c) (lit≤ tt)

pub slice_bounds-equation_at-start : goal.slice_bounds-equation_at-start
slice_bounds-equation_at-start c = rw (long c) (lit≤ tt)

pub slice_bounds-equation_at-end : goal.slice_bounds-equation_at-end
slice_bounds-equation_at-end c = le_refl _

pub equation_at-requires : goal.equation_at-requires
equation_at-requires c =
    record {
      at_in_bounds = (read-within c.in_ok-n.ensures, c.requires.at_in_bounds.1);
      row_value = relation-behind c.args.relation.now _
          c.requires.relation_value;
    }

pub shape_of-relation : goal.shape_of-relation
shape_of-relation c =
    let n = numbers (goal.at.shape_of-relation c).After-struct_told-1 in
    same_len_mid 1 (length n - 1) n c.equation_at.new.row c.equation_at.auto.row
    ∙ long (goal.at.shape_of-relation c).After-struct_told-1 ∙ sym (whole (goal.at.shape_of-relation c).Start)

pub returns : goal.returns
unfolding relation_then
returns c =
    let v = value (goal.at.returns c).After-struct_told-1 in
    let f : SFits w64 v = search rules in
    rw (
      relation_of-back c.args.relation.now c.equation_at.new.row (to_z w64 (of_z w64 v))
          (whole (goal.at.returns c).Start),
      to_z-of_z {w = w64} f,
    )
    (reads-as (reads-made (λ r. record { index = v; row = r }) c.equation_at.ensures)
    (sym (relation-is _ _
    ∙ then-got _
    (read-ok c.in_ok-n.ensures))))
