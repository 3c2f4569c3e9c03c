-- The extent of a differential sheet: what was read is small enough, and it is read in parts.
--
-- Main statements
--   extent-is        it is the number of unknowns, read as that of a sheet, and then K, J and the number of equations
--   extent-small     what was read is within its ranges
use Rattle.std.specs.Prelude.{ℕ, ◌≤◌, ◌≡◌, List, ℤ, pos, nat_abs}
use Rattle.std.proofs.Common.{sym, ◌∙◌, subst}
use Rattle.rules.specs.Limits.{most_equations}
use Rattle.rules.specs.Numbers.{space, newline, Read, got, then_read, field, between}
use Rattle.rules.specs.Sheets.{always}
use Rattle.tokens.specs.Fields.{then-then, then-parts, field-judged, between-zero}
use Rattle.reading.specs.Equations.{got-value}
use Rattle.reading.specs.WholeSheet.{read_unknowns, unknowns-right}
use Rattle.differential.specs.Differential.{most_derivative, most_power}
use Rattle.differential.specs.Grammar.{Extent, read_extent}
use Rattle.differential.specs.Read.{SmallExtent}

unfoldable pub count_then : ℤ → ℤ → ℤ → List ℕ → Read Extent
count_then m K J bytes =
    then_read (field (between (pos 0) (pos most_equations)) (always newline) bytes) λ n rest.
    got (record { unknowns = nat_abs m; order = nat_abs K; degree = nat_abs J; equations = nat_abs n }) rest

unfoldable pub degree_then : ℤ → ℤ → List ℕ → Read Extent
degree_then m K bytes = then_read (field (between (pos 0) (pos most_power)) (always newline) bytes) (count_then m K)

unfoldable pub order_then : ℤ → List ℕ → Read Extent
order_then m bytes = then_read (field (between (pos 0) (pos most_derivative)) (always space) bytes) (degree_then m)

pub extent-is : (bytes : List ℕ) → read_extent bytes ≡ then_read (read_unknowns bytes) order_then
unfolding read_extent read_unknowns order_then degree_then count_then
extent-is bytes =
    sym (then-then (field (between (pos 3) (pos 3)) (always space) bytes) (λ _ rest. field (between (pos 1) (pos 4)) (always space) rest)
    order_then)

pub extent-small : (bytes : List ℕ) {x : Extent} {rest : List ℕ} → read_extent bytes ≡ got x rest → SmallExtent x × (1 ≤ x.unknowns)
unfolding order_then degree_then count_then
extent-small bytes {x} {rest} e =
    let m = then-parts (read_unknowns bytes) order_then (sym (extent-is bytes) ∙ e) in
    let k = then-parts (field (between (pos 0) (pos most_derivative)) (always space) m.1) (degree_then m.0) m.3 in
    let j = then-parts (field (between (pos 0) (pos most_power)) (always newline) k.1) (count_then m.0 k.0) k.3 in
    let n = then-parts (field (between (pos 0) (pos most_equations)) (always newline) j.1) _ j.3 in
    let hm = unknowns-right bytes m.0 m.1 m.2 in
    let hk = between-zero 0 most_derivative k.0 (field-judged (between (pos 0) (pos most_derivative)) (always space) m.1 k.2) in
    let hj = between-zero 0 most_power j.0 (field-judged (between (pos 0) (pos most_power)) (always newline) k.1 j.2) in
    let hn = between-zero 0 most_equations n.0 (field-judged (between (pos 0) (pos most_equations)) (always newline) j.1 n.2) in
    subst (λ x. SmallExtent x × (1 ≤ x.unknowns)) (got-value n.3)
    (record { unknowns-few = hm.2; order_small = hk.2; degree-small = hj.2; equations-few = hn.2 }, hm.1)
