-- `tokens::token_at` meets its contract. The digits are read first; where the bytes go on after them, the token
-- is a number or none.
-- Assumes nothing.
use Rattle.std.proofs.Common.{◌≡◌, ℕ, Bool, true, false, cond, ltb, List, length, drop, sym, ap, ◌∙◌, arith, rules, Some, None}
use lib.Seq.{slice}
use Rattle.rules.specs.Numbers.{starts_right_of, got, fault}
use Rattle.tokens.specs.Tokens.{token_answer}
use Rattle.tokens.specs.Fields.{read_number_of, read_in, number_cut, number-fails}
use Rattle.tokens.proofs.token_at.Goals as goal
use Rattle.tokens.proofs.token_at.Goals.{After-starts_right-right}

pub digits_start-from-requires : goal.digits_start-from-requires
digits_start-from-requires c = omega arith

pub digits_from-d-requires : goal.digits_from-d-requires
digits_from-d-requires c = omega arith

pub starts_right-right-requires : goal.starts_right-right-requires
starts_right-right-requires c = omega arith

-- What is known of the digits once they are read.
module _ (d : After-starts_right-right) where
  abbrev from : ℕ
  from = d.digits_start-from.result

  abbrev end : ℕ
  end = d.digits_from-d.result.end

  abbrev bytes : List ℕ
  bytes = d.args.bytes.now

  abbrev at : ℕ
  at = d.args.at

  right : (t : Bool) → d.starts_right-right.result ≡ t → starts_right_of (ltb at from) (slice from end bytes) ≡ t
  right t e = sym d.starts_right-right.ensures ∙ e

  cut : (t : Bool) → end ≡ length bytes → d.starts_right-right.result ≡ t → read_number_of (drop at bytes) ≡ fault (cond t 4 3)
  cut t h e = number_cut _ _ _ _ _ d.digits_start-from.ensures d.digits_from-d.ensures.0 h
      ∙ ap (λ t. fault (cond t 4 3)) (right t e)

pub returns-then-right : goal.returns-then-right
returns-then-right c = number-fails (cut (goal.at.returns-then-right c).After-starts_right-right true c.if-end-bytes.true c.if-right.true)

pub returns-then-end-bytes : goal.returns-then-end-bytes
returns-then-end-bytes c = number-fails (cut (goal.at.returns-then-end-bytes c).After-starts_right-right false c.if-end-bytes.true c.if-right.false)

pub read_token-requires : goal.read_token-requires
read_token-requires c =
    record {
      digits_start = (c.digits_start-from.ensures, c.digits_from-d.ensures.0, c.digits_from-d.ensures.1);
      end_in_bounds = (omega arith, c.starts_right-right.ensures);
    }

pub returns-in_default : goal.returns-in_default
unfolding token_answer
returns-in_default c =
    let a = (goal.at.returns-in_default c).After-starts_right-right in
    let told : c.read_token.result ≡ None = c.in_default.is in
    number-fails (sym c.read_token.ensures ∙ ap (λ k. token_answer k (drop (end a) (bytes a))) told)

pub returns : goal.returns
unfolding token_answer read_in
returns c =
    let a = (goal.at.returns c).After-starts_right-right in
    let known : c.read_token.result ≡ Some c.in-Some.value = c.in-Some.is in
    record {
      answer =
          ap (λ v. got v (drop (end a) (bytes a))) (search rules)
          ∙ sym (sym c.read_token.ensures ∙ ap (λ k. token_answer k (drop (end a) (bytes a))) known);
      separator = omega arith;
    }
