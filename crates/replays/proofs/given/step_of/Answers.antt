-- `replays::given::step_of` meets its contract: each kind is one case of the step.
-- Assumes nothing.
use mathlib.Core.Path.{◌≡◌, refl, sym, ◌∙◌, ap, ap₂}
use mathlib.Core.List.{List}
use mathlib.Core.Option.{some}
use Prim.Native.Nat.{pred}
use native.Mathlib.Omega.{arith}
use borrow.Author.Rules.{rules}
use lib.IntN.{ℤ, pos, nat_abs}
use lib.ListN.{get_or}
use Rattle.std.proofs.lemmas.Result.{err_from_is_err_and}
use Rattle.polynomials.specs.Content.{read_back}
use Rattle.log_steps.specs.Kinds.{number_of}
use Rattle.log_steps.specs.Logs.{exchanging, combining, raising, lowering, dropping, change_of, change_of_kind, multiplier_g, multiplier_h}
use Rattle.log_steps.specs.declared.kinds.Kind.{Kind}
use Rattle.log_steps.specs.declared.kinds.Kind.TheVariants.{Exchange, Combination, Raise, Lower, Drop}
use Rattle.replays.specs.Given.{kind-given, kind-ungiven, exchange-given, exchange-ungiven, exchange-counted, combination-given}
use Rattle.replays.specs.Given.{combination-ungiven, combination-formed, counted-above, raise-given, lower-given, drop-given, row-ungiven}
use Rattle.replays.proofs.given.step_of.Goals as goal

-- the kind that was read
kind-is : (x : List ℤ) (k read : Kind) → get_or x 0 (pos 0) ≡ pos (number_of read) → read ≡ k
    → change_of x ≡ change_of_kind (pred (number_of k)) x
kind-is x k read e same = kind-given x k (e ∙ ap (λ n. pos (number_of n)) same)

pub returns-in_err-try_from : goal.returns-in_err-try_from
returns-in_err-try_from c =
    let p = err_from_is_err_and c.from_residual.result c.from_residual.ensures.1 in
    let wrong = c.in_err-try_from.ensures in
    rw (p.1, p.2) (wrong.0, kind-ungiven c.args.x.now (λ k e. wrong.1 k (read_back (get_or c.args.x.now 0 (pos 0)) (search rules) ∙ e)))

pub returns-then-not-exchange_formed : goal.returns-then-not-exchange_formed
returns-then-not-exchange_formed c =
    let x = c.args.x.now in
    let read = sym (read_back (get_or x 0 (pos 0)) (search rules)) ∙ c.in_ok-try_from.ensures in (
      refl,
      kind-is x Exchange c.in_ok-try_from.field-0 read c.in-Exchange.is
          ∙ exchange-ungiven x (sym c.exchange_formed.ensures ∙ c.if-not-exchange_formed.true),
    )

pub place_at-requires : goal.place_at-requires
place_at-requires c =
    (omega (arith, c.requires), (exchange-counted c.args.x.now (sym c.exchange_formed.ensures ∙ c.if-not-exchange_formed.false)).0)

pub place_at-requires-in-Exchange : goal.place_at-requires-in-Exchange
place_at-requires-in-Exchange c =
    (omega (arith, c.requires), (exchange-counted c.args.x.now (sym c.exchange_formed.ensures ∙ c.if-not-exchange_formed.false)).1)

pub returns-else-not-exchange_formed : goal.returns-else-not-exchange_formed
returns-else-not-exchange_formed c =
    let x = c.args.x.now in
    let read = sym (read_back (get_or x 0 (pos 0)) (search rules)) ∙ c.in_ok-try_from.ensures in (
      kind-is x Exchange c.in_ok-try_from.field-0 read c.in-Exchange.is
          ∙ exchange-given x (sym c.exchange_formed.ensures ∙ c.if-not-exchange_formed.false)
          ∙ ap₂ (λ i j. some (exchanging i j)) (sym c.place_at.ensures) (sym c.place_at-in-Exchange.ensures),
      tt,
    )

pub returns-then-not-combination_formed : goal.returns-then-not-combination_formed
returns-then-not-combination_formed c =
    let x = c.args.x.now in
    let read = sym (read_back (get_or x 0 (pos 0)) (search rules)) ∙ c.in_ok-try_from.ensures in (
      refl,
      kind-is x Combination c.in_ok-try_from.field-0 read c.in-Combination.is
          ∙ combination-ungiven x (sym c.combination_formed.ensures ∙ c.if-not-combination_formed.true),
    )

pub place_at-requires-in-Combination : goal.place_at-requires-in-Combination
place_at-requires-in-Combination c =
    (omega (arith, c.requires), (combination-formed c.args.x.now (sym c.combination_formed.ensures ∙ c.if-not-combination_formed.false)).first)

pub place_at-requires-in-Combination-2 : goal.place_at-requires-in-Combination-2
place_at-requires-in-Combination-2 c =
    (omega (arith, c.requires), (combination-formed c.args.x.now (sym c.combination_formed.ensures ∙ c.if-not-combination_formed.false)).second)

pub returns-else-not-combination_formed : goal.returns-else-not-combination_formed
returns-else-not-combination_formed c =
    let x = c.args.x.now in
    let read = sym (read_back (get_or x 0 (pos 0)) (search rules)) ∙ c.in_ok-try_from.ensures in
    let right = sym c.combination_formed.ensures ∙ c.if-not-combination_formed.false in
    let formed = combination-formed x right in
    let integer = read_back (get_or x 3 (pos 0)) (search rules) in (
      kind-is x Combination c.in_ok-try_from.field-0 read c.in-Combination.is ∙ combination-given x right
          ∙ (λ k. some (combining (sym c.place_at-in-Combination.ensures k) (sym c.place_at-in-Combination-2.ensures k)
          (nat_abs (sym integer k)) (multiplier_g x) (multiplier_h x))),
      (rw integer (counted-above (get_or x 3 (pos 0)) formed.integer), formed.small-g, formed.small-h),
    )

pub returns-in_err-row_of-in-Raise : goal.returns-in_err-row_of-in-Raise
returns-in_err-row_of-in-Raise c =
    let p = err_from_is_err_and c.from_residual-in_err-row_of-in-Raise.result c.from_residual-in_err-row_of-in-Raise.ensures.1 in
    let wrong = c.in_err-row_of-in-Raise.ensures in
    let x = c.args.x.now in
    let read = sym (read_back (get_or x 0 (pos 0)) (search rules)) ∙ c.in_ok-try_from.ensures in
    rw (p.1, p.2) (wrong.0, kind-is x Raise c.in_ok-try_from.field-0 read c.in-Raise.is ∙ row-ungiven x 2 (omega arith) wrong.1)

pub returns-in_ok-row_of-in-Raise : goal.returns-in_ok-row_of-in-Raise
returns-in_ok-row_of-in-Raise c =
    let x = c.args.x.now in
    let read = sym (read_back (get_or x 0 (pos 0)) (search rules)) ∙ c.in_ok-try_from.ensures in
    let found = c.in_ok-row_of-in-Raise.ensures in
    (kind-is x Raise c.in_ok-try_from.field-0 read c.in-Raise.is ∙ raise-given x found.0 ∙ ap (λ i. some (raising i)) (sym found.1), tt)

pub returns-in_err-row_of-in-Lower : goal.returns-in_err-row_of-in-Lower
returns-in_err-row_of-in-Lower c =
    let p = err_from_is_err_and c.from_residual-in_err-row_of-in-Lower.result c.from_residual-in_err-row_of-in-Lower.ensures.1 in
    let wrong = c.in_err-row_of-in-Lower.ensures in
    let x = c.args.x.now in
    let read = sym (read_back (get_or x 0 (pos 0)) (search rules)) ∙ c.in_ok-try_from.ensures in
    rw (p.1, p.2) (wrong.0, kind-is x Lower c.in_ok-try_from.field-0 read c.in-Lower.is ∙ row-ungiven x 3 (omega arith) wrong.1)

pub returns-in_ok-row_of-in-Lower : goal.returns-in_ok-row_of-in-Lower
returns-in_ok-row_of-in-Lower c =
    let x = c.args.x.now in
    let read = sym (read_back (get_or x 0 (pos 0)) (search rules)) ∙ c.in_ok-try_from.ensures in
    let found = c.in_ok-row_of-in-Lower.ensures in
    (kind-is x Lower c.in_ok-try_from.field-0 read c.in-Lower.is ∙ lower-given x found.0 ∙ ap (λ i. some (lowering i)) (sym found.1), tt)

pub returns-in_err-row_of-in-Drop : goal.returns-in_err-row_of-in-Drop
returns-in_err-row_of-in-Drop c =
    let p = err_from_is_err_and c.from_residual-in_err-row_of-in-Drop.result c.from_residual-in_err-row_of-in-Drop.ensures.1 in
    let wrong = c.in_err-row_of-in-Drop.ensures in
    let x = c.args.x.now in
    let read = sym (read_back (get_or x 0 (pos 0)) (search rules)) ∙ c.in_ok-try_from.ensures in
    rw (p.1, p.2) (wrong.0, kind-is x Drop c.in_ok-try_from.field-0 read c.in-Drop.is ∙ row-ungiven x 4 (omega arith) wrong.1)

pub returns-in_ok-row_of-in-Drop : goal.returns-in_ok-row_of-in-Drop
returns-in_ok-row_of-in-Drop c =
    let x = c.args.x.now in
    let read = sym (read_back (get_or x 0 (pos 0)) (search rules)) ∙ c.in_ok-try_from.ensures in
    let found = c.in_ok-row_of-in-Drop.ensures in
    (kind-is x Drop c.in_ok-try_from.field-0 read c.in-Drop.is ∙ drop-given x found.0 ∙ ap (λ i. some (dropping i)) (sym found.1), tt)
