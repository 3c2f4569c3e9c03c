-- `tokens::read_token` meets its contract. The byte after the digits says whether the token ends there.
-- Assumes nothing.
use Rattle.std.proofs.Common.{◌≡◌, ℕ, ◌-◌, Bool, true, false, cond, ◌&&◌, ltb, leb, drop, ℤ, pos, neg_ℤ, sym, refl, ap, ◌∙◌, ap₂, arith, to_z-of_z, le-leb}
use borrow.Author.Tests.{not-true, not-false, lt-leb}
use borrow.Author.Rules.{sfits_of}
use Rattle.rules.specs.Numbers.{got, fault}
use Rattle.tokens.specs.Tokens.{digits-size, token_answer}
use Rattle.tokens.specs.Fields.{read_number_of, number-followed, number-whole}
use mir.Syntax.{w64}
use Rattle.tokens.proofs.read_token.Goals as goal
use Rattle.tokens.proofs.read_token.Goals.{Else-not-is_separator, Start}

pub bounds-bytes-end : goal.bounds-bytes-end
bounds-bytes-end c = omega arith

pub is_separator-requires : goal.is_separator-requires
is_separator-requires c = tt

pub returns-then-not-is_separator : goal.returns-then-not-is_separator
unfolding token_answer
returns-then-not-is_separator c =
    sym (number-followed _ _ _ _ _ c.requires.digits_start.0 c.requires.digits_start.1 c.requires.end_in_bounds.0
    (sym c.is_separator.ensures ∙ not-true _ c.if-not-is_separator.true-raw) c.requires.digits_start.2)

-- Where the separator stands after the digits.
module _ (d : Else-not-is_separator) where
  abbrev s : Start
  s = (goal.at.Else-not-is_separator d).Start

  abbrev from : ℕ
  from = s.args.from

  abbrev end : ℕ
  end = s.args.d.end

  abbrev number : ℤ
  number = cond (ltb s.args.at from) (neg_ℤ (pos s.args.d.value)) (pos s.args.d.value)

  whole : (some t : Bool) → leb 1 (end - from) ≡ some → s.args.right ≡ t
      → cond (some && t) (got number (drop end s.args.bytes.now)) (fault 3) ≡ read_number_of (drop s.args.at s.args.bytes.now)
  whole some t h e =
      sym (number-whole _ _ _ _ _ s.requires.digits_start.0 s.requires.digits_start.1 s.requires.end_in_bounds.0
      (sym d.is_separator.ensures ∙ not-false _ d.if-not-is_separator.false-raw)
      ∙ ap₂ (λ some t. cond (some && t) (got number (drop end s.args.bytes.now)) (fault 3)) h (sym s.requires.end_in_bounds.1 ∙ e))

pub returns-then-from-end : goal.returns-then-from-end
unfolding token_answer
returns-then-from-end c = let d = (goal.at.returns-then-from-end c).Else-not-is_separator in whole d false (s d).args.right (lt-leb 1 (end d - from d) (omega arith)) refl

pub returns-then-not-right : goal.returns-then-not-right
unfolding token_answer
returns-then-not-right c =
    let d = (goal.at.returns-then-not-right c).Else-not-is_separator in
    whole d true false (le-leb 1 (end d - from d) (omega (arith, (s d).requires.digits_start.1.token.begun))) (not-true _ c.if-not-right.true-raw)

pub signed_value-requires : goal.signed_value-requires
signed_value-requires c = digits-size _ _ _ _ (s (goal.at.signed_value-requires c).Else-not-is_separator).requires.digits_start.1

pub returns : goal.returns
unfolding token_answer
returns c =
    let d = (goal.at.returns c).Else-not-is_separator in
    ap (λ v. got v (drop (end d) (s d).args.bytes.now)) (to_z-of_z {w = w64} (sfits_of c.signed_value.type_inv) ∙ c.signed_value.ensures)
    ∙ whole d true true (le-leb 1 (end d - from d) (omega (arith, (s d).requires.digits_start.1.token.begun))) (not-false _ c.if-not-right.false-raw)
