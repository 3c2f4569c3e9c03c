-- `multiplicities::with_times` meets its contract.
-- Assumes nothing.
use mathlib.Core.Path.{◌∙◌, sym, ap, subst}
use native.Mathlib.Omega.{arith}
use lib.IntN.{nat_abs}
use mir.Facts.{to_z-of_z}
use Prim.Native.Nat.{◌≤◌}
use Rattle.std.specs.Prelude.{Some, IfSome}
use Rattle.integers.specs.Ranges.{sfits-size}
use Rattle.rules.specs.Limits.{bound}
use Rattle.multiplicities.specs.Counts.{with_times_of}
use Rattle.multiplicities.proofs.with_times.Goals as goal
use Rattle.multiplicities.proofs.with_times.Goals.{In_ok-value}

-- The root.
inside : (c : In_ok-value) → nat_abs c.in_ok-value.value ≤ bound
inside c = subst (λ o. IfSome o (λ r. nat_abs r ≤ bound)) c.in_ok-value.was c.requires.2

pub multiplicity-requires : goal.multiplicity-requires
multiplicity-requires c =
    let size = inside c in
    (c.requires.0, c.requires.1, rw (to_z-of_z (sfits-size c.in_ok-value.value size (omega arith))) size)

pub returns : goal.returns
returns c =
    let read = to_z-of_z (sfits-size c.in_ok-value.value (inside c.before) (omega arith)) in
    simp read (ap (λ n. Some (record { value = c.in_ok-value.value; times = n })) (rw read at c.multiplicity.ensures)
    ∙ sym (ap (with_times_of c.args.p.now) c.in_ok-value.was))
