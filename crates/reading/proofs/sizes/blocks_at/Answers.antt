-- `reading::sizes::blocks_at` meets its contract: the highest block, and then the lowest.
-- Assumes nothing.
use Rattle.std.proofs.Common.{◌≡◌, ap₂, ◌∙◌, drop, ℤ, pos, neg_ℤ, to_z-of_z, w64, rules, FitsSigned}
use Rattle.rules.specs.Numbers.{got, field, between}
use Rattle.rules.specs.Sheets.{always}
use Rattle.tokens.specs.Fields.{read-err, read-ok, read-within, fails-on, reads, then-got, then-fault, field-judged}
use Rattle.reading.specs.WholeSheet.{read_blocks, highest-small}
use Rattle.reading.proofs.sizes.blocks_at.Goals as goal
use Rattle.reading.proofs.sizes.blocks_at.Goals.{After-struct_told-1}

pub returns-in_err-l : goal.returns-in_err-l
unfolding read_blocks
returns-in_err-l c = fails-on _ c.in_err-l.field-0.0 c.from_residual.ensures.1 (then-fault _ (read-err c.in_err-l.ensures))

-- The highest block, as it was read.
module _ (c : After-struct_told-1) where
  abbrev l : ℤ
  l = c.in_ok-l.l.value

  l-fits : FitsSigned w64 l
  l-fits = search rules

  l-read : field (between (neg_ℤ (pos 64)) (pos 64)) (always 32) (drop c.args.at c.args.bytes.now) ≡ got l (drop c.in_ok-l.l.at c.args.bytes.now)
  l-read = read-ok c.in_ok-l.ensures

pub lowest_at-requires : goal.lowest_at-requires
lowest_at-requires c = (
  read-within c.in_ok-l.ensures,
  rw (to_z-of_z {w = w64} (l-fits c)) (highest-small (l c) (field-judged (between (neg_ℤ (pos 64)) (pos 64)) (always 32) _ (l-read c))),
)

pub returns-in_err-t : goal.returns-in_err-t
unfolding read_blocks
returns-in_err-t c =
    let s = (goal.at.returns-in_err-t c).After-struct_told-1 in
    fails-on _ c.in_err-t.field-0.0 c.from_residual-in_err-t.ensures.1
    (then-got _ (l-read s) ∙ then-fault _ (read-err (rw (to_z-of_z {w = w64} (l-fits s)) at c.in_err-t.ensures)))

pub returns : goal.returns
unfolding read_blocks
returns c =
    let s = (goal.at.returns c).After-struct_told-1 in
    let t-fits : FitsSigned w64 c.in_ok-t.t.value = search rules in
    reads (ap₂ (λ l t. (l, t)) (to_z-of_z {w = w64} (l-fits s)) (to_z-of_z {w = w64} t-fits))
    (then-got _ (l-read s) ∙ then-got _ (read-ok (rw (to_z-of_z {w = w64} (l-fits s)) at c.in_ok-t.ensures)))
    (read-within c.in_ok-t.ensures)
