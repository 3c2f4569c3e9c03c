-- `reading::terms::place_at` meets its contract: the block, and then the column.
-- Assumes nothing.
use Rattle.std.proofs.Common.{◌≡◌, ap₂, ◌∙◌, drop, nat_abs, to_z-of_z, w64, rules, FitsSigned}
use mir.Facts.{Fits-nat_abs}
use Rattle.rules.specs.Numbers.{got, field}
use Rattle.rules.specs.Sheets.{always, judge_block_of, judge_column_of}
use Rattle.tokens.specs.Fields.{read-err, read-ok, read-within, fails-on, reads, then-got, then-fault, field-judged}
use Rattle.reading.specs.Terms.{ColumnRight, column-zero, read_place}
use Rattle.stores.specs.Validity.{the_sizes_of}
use Rattle.reading.proofs.terms.place_at.Goals as goal
use Rattle.reading.proofs.terms.place_at.Goals.{After-column_at, After-struct_told-2-1}

pub returns-in_err-s : goal.returns-in_err-s
unfolding read_place
returns-in_err-s c =
    fails-on _ c.in_err-s.field-0.0 c.from_residual.ensures.1
    (then-fault _ (read-err (rw (to_z-of_z {w = w64} c.ranges.before) at c.in_err-s.ensures)))

pub column_at-requires : goal.column_at-requires
column_at-requires c = (read-within c.in_ok-s.ensures, c.requires.1)

-- The block, as it was read.
module _ (c : After-column_at) where
  block-fits : FitsSigned w64 c.in_ok-s.s.value
  block-fits = search rules

  block-read : field (judge_block_of (the_sizes_of c.args.z) c.args.before) (always 32) (drop c.args.at c.args.bytes.now)
      ≡ got c.in_ok-s.s.value (drop c.in_ok-s.s.at c.args.bytes.now)
  block-read = read-ok (rw (to_z-of_z {w = w64} c.ranges.before) at c.in_ok-s.ensures)

pub returns-in_err-c : goal.returns-in_err-c
unfolding read_place
returns-in_err-c c =
    let d = (goal.at.returns-in_err-c c).After-column_at in
    fails-on _ c.in_err-c.field-0.0 c.from_residual-in_err-c.ensures.1
    (then-got _ (block-read d)
    ∙ then-fault _ (read-err (simp (to_z-of_z {w = w64} c.ranges.before, to_z-of_z {w = w64} (block-fits d)) at c.in_err-c.ensures)))

-- The column, as it was read.
module _ (c : After-struct_told-2-1) where
  abbrev call : After-column_at
  call = (goal.at.After-struct_told-2-1 c).After-column_at

  column_fits : FitsSigned w64 c.in_ok-c.c.value
  column_fits = search rules

  column-read : field (judge_column_of (the_sizes_of c.args.z) c.args.before c.args.last c.in_ok-s.s.value) (always 32)
      (drop c.in_ok-s.s.at c.args.bytes.now)
      ≡ got c.in_ok-c.c.value (drop c.in_ok-c.c.at c.args.bytes.now)
  column-read = read-ok (simp (to_z-of_z {w = w64} c.ranges.before, to_z-of_z {w = w64} (block-fits call)) at c.in_ok-c.ensures)

  right : ColumnRight (the_sizes_of c.args.z) c.args.before c.args.last c.in_ok-s.s.value c.in_ok-c.c.value
  right = column-zero _ _ _ _ _ (field-judged _ (always 32) _ column-read)

pub overflow_cast-result : goal.overflow_cast-result
overflow_cast-result c = rw (to_z-of_z {w = w64} (column_fits c)) ((right c).counted, Fits-nat_abs tt (column_fits c))

pub returns : goal.returns
unfolding read_place
returns c =
    let d = (goal.at.returns c).After-column_at in
    let e = (goal.at.returns c).After-struct_told-2-1 in
    reads (ap₂ (λ s k. (s, nat_abs k)) (to_z-of_z {w = w64} (block-fits d)) (to_z-of_z {w = w64} (column_fits e)))
    (then-got _ (block-read d) ∙ then-got _ (column-read e)) (read-within c.in_ok-c.ensures)
