-- `differential::terms::term_at` meets its contract: the place of the term, and then its factor.
-- Assumes nothing.
use Rattle.std.proofs.Common.{rules, ◌∙◌, w64, FitsSigned}
use mir.Facts.{to_z-of_z}
use Rattle.tokens.specs.Fields.{read-err, read-ok, read-within, fails-on, reads, then-got, then-fault}
use Rattle.differential.specs.Read.{term_of, factor_then, term_is}
use Rattle.differential.proofs.terms.term_at.Goals as goal

pub returns-in_err-q : goal.returns-in_err-q
returns-in_err-q c =
    fails-on _ c.in_err-q.field-0.0 c.from_residual.ensures.1 (term_is _ _ _ _ ∙ then-fault _ (read-err c.in_err-q.ensures))

pub factor_at-requires : goal.factor_at-requires
factor_at-requires c = read-within c.in_ok-q.ensures

pub returns-in_err-a : goal.returns-in_err-a
unfolding factor_then
returns-in_err-a c =
    fails-on _ c.in_err-a.field-0.0 c.from_residual-in_err-a.ensures.1
    (term_is _ _ _ _ ∙ then-got _ (read-ok c.in_ok-q.ensures) ∙ then-fault _ (read-err c.in_err-a.ensures))

pub returns : goal.returns
unfolding factor_then term_of
returns c =
    let fits : FitsSigned w64 c.in_ok-a.a.value = search rules in
    reads (simp (to_z-of_z {w = w64} fits))
    (term_is _ _ _ _ ∙ then-got _ (read-ok c.in_ok-q.ensures) ∙ then-got _ (read-ok c.in_ok-a.ensures))
    (read-within c.in_ok-a.ensures)
