-- `differential::terms::place_at` meets its contract: the derivative, the power and then the column.
-- Assumes nothing.
use Rattle.std.proofs.Common.{rules, ◌≡◌, ◌∙◌, zero-le, ℤ, nat_abs, drop, w64, FitsSigned, arith}
use mir.Facts.{to_z-of_z, Fits-nat_abs}
use Rattle.rules.specs.Numbers.{got, field}
use Rattle.rules.specs.Sheets.{always}
use Rattle.tokens.specs.Fields.{read-err, read-ok, read-within, fails-on, reads, then-got, then-fault, field-judged}
use Rattle.differential.specs.Grammar.{judge_ordered_of, first_power_of, first_column_of}
use Rattle.differential.specs.Read.{extent_of, term_of, read_place}
use Rattle.differential.specs.Rows.{ordered-zero, power-few, column-few}
use Rattle.differential.proofs.terms.place_at.Goals as goal
use Rattle.differential.proofs.terms.place_at.Goals.{After-first_column-leftmost, After-first_power-lowest, In_ok-c, In_ok-j, In_ok-k}

pub ordered_at-requires : goal.ordered_at-requires
unfolding extent_of term_of
ordered_at-requires c = (
  c.requires.0,
  record {
    low-few = zero-le;
    high-few = omega (arith, c.requires.1.order_small);
    first-few = zero-le;
    last-few = omega (arith, c.requires.2.derivative-small);
  },
)

pub returns-in_err-k : goal.returns-in_err-k
unfolding read_place extent_of term_of
returns-in_err-k c =
    fails-on _ c.in_err-k.field-0.0 c.from_residual.ensures.1 (then-fault _ (read-err c.in_err-k.ensures))

-- The derivative, as it was read.
module _ (c : In_ok-k) where
  abbrev k : ℤ
  k = c.in_ok-k.k.value

  k-fits : FitsSigned w64 k
  k-fits = search rules

  k-read : field (judge_ordered_of 0 c.args.x.order 0 c.args.before.derivative) (always 32) (drop c.args.before.at c.args.bytes.now)
      ≡ got k (drop c.in_ok-k.k.at c.args.bytes.now)
  k-read = read-ok c.in_ok-k.ensures

pub overflow_cast-derivative : goal.overflow_cast-derivative
overflow_cast-derivative c =
    let d = (goal.at.overflow_cast-derivative c).In_ok-k in
    rw (to_z-of_z {w = w64} (k-fits d)) ((ordered-zero _ _ _ _ _ (field-judged _ (always 32) _ (k-read d))).0, Fits-nat_abs tt (k-fits d))

-- The lowest power.
module _ (c : After-first_power-lowest) where
  abbrev d : In_ok-k
  d = (goal.at.After-first_power-lowest c).In_ok-k

  lowest-is : c.first_power-lowest.result ≡ first_power_of (term_of c.args.before) (nat_abs (k d))
  lowest-is = rw (to_z-of_z {w = w64} (k-fits d)) at c.first_power-lowest.ensures

pub ordered_at-requires-2 : goal.ordered_at-requires-2
unfolding extent_of
ordered_at-requires-2 c = (
  read-within c.in_ok-k.ensures,
  record {
    low-few = zero-le;
    high-few = omega (arith, c.requires.1.degree-small);
    first-few = rw (lowest-is c) (power-few (term_of c.args.before) (nat_abs (k (d c))) c.requires.2);
    last-few = omega (arith, c.requires.1.degree-small);
  },
)

pub returns-in_err-j : goal.returns-in_err-j
unfolding read_place extent_of term_of
returns-in_err-j c =
    fails-on _ c.in_err-j.field-0.0 c.from_residual-in_err-j.ensures.1
    (then-got _ (k-read (goal.at.returns-in_err-j c).In_ok-k)
    ∙ then-fault _ (read-err (rw (lowest-is (goal.at.returns-in_err-j c).After-first_power-lowest) at c.in_err-j.ensures)))

-- The power, as it was read.
module _ (c : In_ok-j) where
  abbrev e : After-first_power-lowest
  e = (goal.at.In_ok-j c).After-first_power-lowest

  abbrev j : ℤ
  j = c.in_ok-j.j.value

  j-fits : FitsSigned w64 j
  j-fits = search rules

  j-read : field (judge_ordered_of 0 c.args.x.degree (first_power_of (term_of c.args.before) (nat_abs (k (d e)))) c.args.x.degree) (always 32)
      (drop c.in_ok-k.k.at c.args.bytes.now)
      ≡ got j (drop c.in_ok-j.j.at c.args.bytes.now)
  j-read = read-ok (rw (lowest-is e) at c.in_ok-j.ensures)

pub overflow_cast-power : goal.overflow_cast-power
overflow_cast-power c =
    let f = (goal.at.overflow_cast-power c).In_ok-j in
    rw (to_z-of_z {w = w64} (j-fits f)) ((ordered-zero _ _ _ _ _ (field-judged _ (always 32) _ (j-read f))).0, Fits-nat_abs tt (j-fits f))

pub first_column-leftmost-requires : goal.first_column-leftmost-requires
first_column-leftmost-requires c = c.requires.2

-- The lowest column.
module _ (c : After-first_column-leftmost) where
  abbrev f : In_ok-j
  f = (goal.at.After-first_column-leftmost c).In_ok-j

  leftmost-is : c.first_column-leftmost.result ≡ first_column_of (term_of c.args.before) (nat_abs (k (d (e f)))) (nat_abs (j f))
  leftmost-is = simp (to_z-of_z {w = w64} (k-fits (d (e f))), to_z-of_z {w = w64} (j-fits f)) at c.first_column-leftmost.ensures

pub ordered_at-requires-3 : goal.ordered_at-requires-3
unfolding extent_of
ordered_at-requires-3 c = (
  read-within c.in_ok-j.ensures,
  record {
    low-few = omega arith;
    high-few = omega (arith, c.requires.1.unknowns-few);
    first-few =
        rw (leftmost-is c) (column-few (term_of c.args.before) (nat_abs (k (d (e (f c))))) (nat_abs (j (f c))) c.requires.2);
    last-few = omega (arith, c.requires.1.unknowns-few);
  },
)

pub returns-in_err-c : goal.returns-in_err-c
unfolding read_place extent_of term_of
returns-in_err-c c =
    fails-on _ c.in_err-c.field-0.0 c.from_residual-in_err-c.ensures.1
    (then-got _ (k-read (goal.at.returns-in_err-c c).In_ok-k) ∙ then-got _ (j-read (goal.at.returns-in_err-c c).In_ok-j)
    ∙ then-fault _ (read-err (rw (leftmost-is (goal.at.returns-in_err-c c).After-first_column-leftmost) at c.in_err-c.ensures)))

-- The column, as it was read.
module _ (c : In_ok-c) where
  abbrev g : After-first_column-leftmost
  g = (goal.at.In_ok-c c).After-first_column-leftmost

  abbrev column : ℤ
  column = c.in_ok-c.c.value

  column_fits : FitsSigned w64 column
  column_fits = search rules

  column-read : field (judge_ordered_of 1 c.args.x.unknowns
      (first_column_of (term_of c.args.before) (nat_abs (k (d (e (f g))))) (nat_abs (j (f g)))) c.args.x.unknowns) (always 32)
      (drop c.in_ok-j.j.at c.args.bytes.now)
      ≡ got column (drop c.in_ok-c.c.at c.args.bytes.now)
  column-read = read-ok (rw (leftmost-is g) at c.in_ok-c.ensures)

pub overflow_cast-result : goal.overflow_cast-result
overflow_cast-result c =
    let h = (goal.at.overflow_cast-result c).In_ok-c in
    rw (to_z-of_z {w = w64} (column_fits h))
    ((ordered-zero _ _ _ _ _ (field-judged _ (always 32) _ (column-read h))).0, Fits-nat_abs tt (column_fits h))

pub returns : goal.returns
unfolding read_place extent_of term_of
returns c =
    let h = (goal.at.returns c).In_ok-c in
    reads
    (simp (
      to_z-of_z {w = w64} (k-fits (goal.at.returns c).In_ok-k),
      to_z-of_z {w = w64} (j-fits (goal.at.returns c).In_ok-j),
      to_z-of_z {w = w64} (column_fits h),
    ))
    (then-got _ (k-read (goal.at.returns c).In_ok-k) ∙ then-got _ (j-read (goal.at.returns c).In_ok-j) ∙ then-got _ (column-read h))
    (read-within c.in_ok-c.ensures)
