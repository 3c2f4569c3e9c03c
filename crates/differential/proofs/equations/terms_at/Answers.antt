-- `differential::equations::terms_at` meets its contract. The loop's invariant: the row holds the terms that were read, `before` is the
-- last of them, and the others are to come.
-- Assumes nothing.
use mathlib.Core.Path.{◌≡◌, refl, sym, ap, ◌∙◌}
use Prim.Native.Nat.{◌+◌, ◌*◌, ◌-◌}
use native.Mathlib.Numerals.{unary_clauses}
use native.Mathlib.Omega.{arith}
use lib.ListN.{length, drop}
use Rattle.lists.specs.Everywhere.{All, all-mono}
use Rattle.rules.specs.Limits.{bound, row_length}
use Rattle.rules.specs.Numbers.{got}
use Rattle.rules.specs.Sheets.{parting}
use Rattle.tokens.specs.Fields.{read-err, read-ok, read-within, fails-on, reads}
use Rattle.reading.specs.Zeros.{length-zeros}
use Rattle.differential.specs.Differential.{ValidTerm}
use Rattle.differential.specs.Grammar.{read_term}
use Rattle.differential.specs.Read.{extent_of, term_of}
use Rattle.differential.specs.ValidRecurrence.{Within, term_bound}
use Rattle.differential.specs.Rows.{term-right, term-small, terms-begin, terms-end, terms-refused, terms-go-on}
use Rattle.differential.proofs.equations.terms_at.Goals as goal
use Rattle.differential.proofs.equations.terms_at.Goals.{After-parting-separator, In_ok-before, Start}

-- The row that was lent has as many numbers as any row.
row-long : (c : Start) → length c.args.row.now ≡ row_length
row-long c = ap length c.requires.row_value ∙ length-zeros row_length

pub no_term_yet-before-requires : goal.no_term_yet-before-requires
no_term_yet-before-requires c = tt

pub loop-i-init : goal.loop-i-init
loop-i-init c =
    simp unary_clauses
    (terms-begin _ c.requires.at_in_bounds.1.0 _ _ _ _ _ _ c.requires.at_in_bounds.0 c.requires.row_value c.no_term_yet-before.ensures.1
    c.no_term_yet-before.ensures.0)

pub parting-separator-requires : goal.parting-separator-requires
parting-separator-requires c = tt

pub term_at-requires : goal.term_at-requires
term_at-requires c = (c.loop-i.invariant.within, c.requires.at_in_bounds.1.0, c.loop-i.invariant.before)

pub returns-in_err-before : goal.returns-in_err-before
returns-in_err-before c =
    fails-on _ c.in_err-before.field-0.0 c.from_residual.ensures.1
    (terms-refused _ c.requires.at_in_bounds.1.0 _ _ _ _ _ _ _ c.loop-i.invariant (omega (arith, c.loop-i-test.true)) _
    (read-err (rw c.parting-separator.ensures at c.in_err-before.ensures)))

-- The term of a turn, as it was read.
module _ (c : In_ok-before) where
  term-read : read_term (extent_of c.args.x) (term_of c.loop-i.before) (parting 10 (c.args.count - c.loop-i.i - 1))
      (drop c.loop-i.before.at c.args.bytes.now)
      ≡ got (term_of c.in_ok-before.before) (drop c.in_ok-before.before.at c.args.bytes.now)
  term-read = read-ok (rw c.parting-separator.ensures at c.in_ok-before.ensures)

  right : ValidTerm c.args.x.unknowns c.args.x.order c.args.x.degree (term_of c.in_ok-before.before)
  unfolding extent_of
  right = term-right _ _ _ _ term-read

  row_small : All (Within bound) c.loop-i.row
  row_small =
      all-mono (Within ((c.args.count - (c.args.count - c.loop-i.i)) * term_bound)) (Within bound)
      (λ a h. omega (arith, h, c.requires.at_in_bounds.1.1)) c.loop-i.row c.loop-i.invariant.sizes

pub add_term-requires : goal.add_term-requires
unfolding extent_of term_of
add_term-requires c =
    let e = (goal.at.add_term-requires c).In_ok-before in
    record {
      row_len = (c.loop-i.invariant.long, row_small e);
      order_le_most_derivative = (
        c.requires.at_in_bounds.1.0.order_small,
        ((right e).derivative-most, (term-small _ c.requires.at_in_bounds.1.0 _ (right e), (right e).factor-most)),
      );
    }

pub loop-i-preserved : goal.loop-i-preserved
unfolding extent_of
loop-i-preserved c =
    let fewer : c.args.count - (c.loop-i.i + 1) ≡ c.args.count - c.loop-i.i - 1 = omega arith in
    rw fewer
    (terms-go-on _ c.requires.at_in_bounds.1.0 _ _ _ _ _ _ _ c.loop-i.invariant (omega (arith, c.loop-i-test.true)) _ _ _
    (term-read (goal.at.loop-i-preserved c).In_ok-before) (read-within c.in_ok-before.ensures) c.add_term.ensures)

pub shape_of-row : goal.shape_of-row
shape_of-row c = c.loop-i.invariant.long ∙ sym (row-long (goal.at.shape_of-row c).Start)

pub returns : goal.returns
returns c =
    reads refl (terms-end _ c.requires.at_in_bounds.1.0 _ _ _ _ _ _ _ c.loop-i.invariant (omega (arith, c.loop-i-test.false)))
    c.loop-i.invariant.within
