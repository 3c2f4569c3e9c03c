-- `stores::checks::all_small` meets its contract: the iterator's test of all is `every`.
-- Assumes nothing.
use Rattle.std.proofs.Common.{◌≡◌, refl, ◌∙◌, ap, rules, Bool, ◌&&◌, List, [], ◌∷◌}
use Rattle.std.specs.List.{list_all}
use Rattle.std.proofs.lemmas.Iterator.{YieldsList-from_slice}
use Rattle.std.proofs.lemmas.Iterator.Search.{all_from_yields_List}
use Rattle.rules.specs.Limits.{small}
use Rattle.lists.specs.Tests.{every}
use Rattle.stores.proofs.checks.all_small.Goals as goal

every_all : {A : Type 0} (t : A → Bool) (l : List A) → list_all t l ≡ every t l
unfolding every
every_all t [] = refl
every_all t (x ∷ l) = ap (λ b. t x && b) (every_all t l)

pub returns : goal.returns
returns c =
    all_from_yields_List small c.all.new.self _ c.all.result c.all.ensures.ran (YieldsList-from_slice c.args.numbers.now c.iter.ensures.rest)
    (λ x b q k. search rules)
    ∙ every_all small c.args.numbers.now
