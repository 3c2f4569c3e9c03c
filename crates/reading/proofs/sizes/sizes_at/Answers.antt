-- `reading::sizes::sizes_at` meets its contract: the number of unknowns, then the blocks, and then the number of equations.
-- Assumes nothing.
use Rattle.std.proofs.Common.{◌≡◌, ◌∙◌, drop, to_z-of_z, w64, rules, FitsSigned}
use mir.Facts.{Fits-nat_abs}
use Rattle.rules.specs.Numbers.{got}
use Rattle.rules.specs.Sheets.{read_sizes}
use Rattle.tokens.specs.Fields.{read-err, read-ok, read-within, fails-on, reads, then-got, then-fault}
use Rattle.reading.specs.WholeSheet.{read_unknowns, read_count, count_then, sizes_then, sizes-is, unknowns-right, count-right}
use Rattle.stores.specs.Validity.{the_sizes_of}
use Rattle.reading.proofs.sizes.sizes_at.Goals as goal
use Rattle.reading.proofs.sizes.sizes_at.Goals.{After-number_between, In_ok-k}

pub returns-in_err-m : goal.returns-in_err-m
returns-in_err-m c = fails-on _ c.in_err-m.field-0.0 c.from_residual.ensures.1 (sizes-is _ ∙ then-fault _ (read-err c.in_err-m.ensures))

pub blocks_at-requires : goal.blocks_at-requires
blocks_at-requires c = read-within c.in_ok-m.ensures

pub returns-in_err-b : goal.returns-in_err-b
unfolding sizes_then
returns-in_err-b c =
    fails-on _ c.in_err-b.field-0.0 c.from_residual-in_err-b.ensures.1
    (sizes-is _ ∙ then-got _ (read-ok c.in_ok-m.ensures) ∙ then-fault _ (read-err c.in_err-b.ensures))

pub number_between-requires : goal.number_between-requires
number_between-requires c = read-within c.in_ok-b.ensures

-- The first line, as it was read.
module _ (c : After-number_between) where
  m-read : read_unknowns (drop c.args.at c.args.bytes.now) ≡ got c.in_ok-m.m.value (drop c.in_ok-m.m.at c.args.bytes.now)
  m-read = read-ok c.in_ok-m.ensures

  line_read : read_sizes (drop c.args.at c.args.bytes.now)
      ≡ count_then c.in_ok-m.m.value (c.in_ok-b.b.l, c.in_ok-b.b.t) (drop c.in_ok-b.b.at c.args.bytes.now)
  unfolding sizes_then
  line_read = sizes-is _ ∙ then-got _ m-read ∙ then-got _ (read-ok c.in_ok-b.ensures)

pub returns-in_err-k : goal.returns-in_err-k
unfolding count_then read_count
returns-in_err-k c =
    fails-on _ c.in_err-k.field-0.0 c.from_residual-in_err-k.ensures.1
    (line_read (goal.at.returns-in_err-k c).After-number_between ∙ then-fault _ (read-err c.in_err-k.ensures))

-- The number of equations, as it was read.
module _ (c : In_ok-k) where
  k-read : read_count (drop c.in_ok-b.b.at c.args.bytes.now) ≡ got c.in_ok-k.k.value (drop c.in_ok-k.k.at c.args.bytes.now)
  unfolding read_count
  k-read = read-ok c.in_ok-k.ensures

pub overflow_cast-result : goal.overflow_cast-result
overflow_cast-result c =
    let fits : FitsSigned w64 c.in_ok-m.m.value = search rules in
    rw (to_z-of_z {w = w64} fits)
    ((unknowns-right _ _ _ (m-read (goal.at.overflow_cast-result c).After-number_between)).0, Fits-nat_abs tt fits)

pub overflow_cast-result-2 : goal.overflow_cast-result-2
overflow_cast-result-2 c =
    let fits : FitsSigned w64 c.in_ok-k.k.value = search rules in
    rw (to_z-of_z {w = w64} fits) ((count-right _ _ _ (k-read (goal.at.overflow_cast-result-2 c).In_ok-k)).0, Fits-nat_abs tt fits)

pub returns : goal.returns
unfolding count_then the_sizes_of
returns c =
    let m-fits : FitsSigned w64 c.in_ok-m.m.value = search rules in
    let k-fits : FitsSigned w64 c.in_ok-k.k.value = search rules in
    let l-fits : FitsSigned w64 c.in_ok-b.b.l = search rules in
    let t-fits : FitsSigned w64 c.in_ok-b.b.t = search rules in
    reads (simp (to_z-of_z {w = w64} m-fits, to_z-of_z {w = w64} k-fits, to_z-of_z {w = w64} l-fits, to_z-of_z {w = w64} t-fits))
    (line_read (goal.at.returns c).After-number_between ∙ then-got _ (k-read (goal.at.returns c).In_ok-k)) (read-within c.in_ok-k.ensures)
