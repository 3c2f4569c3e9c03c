-- `roots::FactorList.push` meets its contract.
-- Assumes nothing.
use mathlib.Core.Path.{◌∙◌}
use Prim.Native.Nat.{◌<◌}
use native.Mathlib.Numerals.{add-one}
use native.Mathlib.Omega.{arith}
use lib.ListN.{length-set}
use lib.Seq.{take-suc-set, length-take-le}
use Rattle.roots.proofs.FactorList.push.Goals as goal

pub offset_bounds-self-self : goal.offset_bounds-self-self
offset_bounds-self-self c = let h : c.args.self.now.count < 28 = omega (arith, length-take-le c.args.self.now.count c.args.self.now.values (omega arith)) in omega arith

pub bounds-self-self : goal.bounds-self-self
bounds-self-self c = let h : c.args.self.now.count < 28 = omega (arith, length-take-le c.args.self.now.count c.args.self.now.values (omega arith)) in omega arith

pub returns : goal.returns
returns c =
    let list = c.args.self.now in
    let place : list.count < 28 = omega (arith, length-take-le list.count list.values (omega arith)) in (
      (omega arith, length-set list.values list.count _ ∙ c.requires.0.1),
      rw (add-one list.count) (take-suc-set list.values list.count c.args.f (omega arith)),
    )
