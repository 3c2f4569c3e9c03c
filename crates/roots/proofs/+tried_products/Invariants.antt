-- `roots::tried_products` ends: the measure is the number of factors left.
use Prim.Native.Nat.{◌-◌}
use lib.ListN.{length}
use Rattle.roots.proofs.+tried_products.Given as goal

abbrev pub decreases-tried_products : goal.decreases-tried_products
decreases-tried_products l = length l.factors.now - l.i
