-- `answers::with_equations` meets its contract.
-- Assumes nothing.
use borrow.Author.Rules.{sfits_of}
use mir.Syntax.{w64}
use mir.Facts.{to_z-of_z}
use Rattle.rules.specs.Stores.{with_equations_of}
use Rattle.stores.specs.Validity.{the_sizes_of}
use Rattle.answers.proofs.with_equations.Goals as goal

pub returns : goal.returns
unfolding the_sizes_of with_equations_of
returns c =
    let sizes = c.args.sizes in
    let told = c.struct_told-1.given in
    rw (to_z-of_z {w = w64} {z = sizes.l} (sfits_of told.1.1.0.1), to_z-of_z {w = w64} {z = sizes.t} (sfits_of told.1.1.1.0.1))
