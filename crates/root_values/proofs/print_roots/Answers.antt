-- There are at most 15 roots.
use Rattle.std.proofs.Common.{le_of_eq, arith}
use Rattle.roots.specs.RootSearch.{roots_few}
use Rattle.multiplicities.specs.Counts.{found-count}
use Rattle.root_values.proofs.print_roots.Goals as goal

pub print_list-requires : goal.print_list-requires
print_list-requires g c =
    let p = c.args.p.now in
    omega (arith, found-count p c.roots_with.ensures, roots_few p (le_of_eq c.requires.0))
