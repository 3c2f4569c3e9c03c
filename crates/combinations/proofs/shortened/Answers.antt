-- `combinations::shortened` meets its contract.
-- Assumes nothing.
use mathlib.Core.Path.{refl, sym, ◌∙◌, ap, subst}
use Prim.Native.Nat.{◌-◌}
use native.Mathlib.Omega.{arith}
use lib.Dec.{T}
use lib.ListN.{length, take, drop, length-drop}
use lib.Seq.{length-take-le, take_all}
use Rattle.algebra.specs.Polynomials.{is_zero_of}
use Rattle.combinations.specs.Combination.{shortened-trim, shortened-front}
use Rattle.combinations.proofs.shortened.Goals as goal

pub slice_bounds-result-end : goal.slice_bounds-result-end
slice_bounds-result-end c =
    sym (length-take-le 4 c.args.p.now (omega (arith, c.requires)))

pub returns-then-all_zero : goal.returns-then-all_zero
returns-then-all_zero c =
    let p = c.args.p.now in
    let rest = length-drop 4 p in
    let zeros = sym c.all_zero.ensures ∙ c.if-all_zero.true in
    shortened-front p (take 4 p) 4 (omega arith) (omega (arith, c.requires)) refl
    (subst T (sym (ap is_zero_of (sym (take_all (length p - 4) (drop 4 p) (omega (arith, rest)))) ∙ zeros)) tt)

pub trimmed-requires : goal.trimmed-requires
trimmed-requires c = omega (arith, c.requires)

pub returns : goal.returns
returns c =
    shortened-trim c.args.p.now c.trimmed.result.now (omega (arith, c.requires)) c.trimmed.ensures
