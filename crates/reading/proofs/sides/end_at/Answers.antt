-- `reading::sides::end_at` meets its contract: the bytes end, or the fifth section is read and the bytes end behind it.
-- Assumes nothing.
use Rattle.std.proofs.Common.{refl, le_refl}
use Prim.Native.Nat.{◌<◌}
use native.Mathlib.Omega.{arith}
use lib.ListN.{length}
use Rattle.reading.specs.Sides.{rest-none, rest-fault, rest_more, rest-whole}
use Rattle.tokens.specs.Fields.{read-err, read-ok, fails, fails-on, reads}
use Rattle.reading.proofs.sides.end_at.Goals as goal
use Rattle.reading.proofs.sides.end_at.Goals.{Else-at-bytes}

pub returns-then-at-bytes : goal.returns-then-at-bytes
returns-then-at-bytes c = reads refl (rest-none _ _ _ _ _ _ c.if-at-bytes.true) (le_refl _)

-- There are bytes behind the fourth section.
module _ (c : Else-at-bytes) where
  some : c.args.at < length c.args.bytes.now
  some = omega (arith, c.requires.at_in_bounds.0, c.if-at-bytes.false)

pub returns-in_err-s : goal.returns-in_err-s
returns-in_err-s c =
    fails-on _ c.in_err-s.field-0.0 c.from_residual.ensures.1
    (rest-fault _ _ _ _ _ _ (some (goal.at.returns-in_err-s c).Else-at-bytes) (read-err c.in_err-s.ensures))

pub returns-then-s-bytes : goal.returns-then-s-bytes
returns-then-s-bytes c =
    fails (rest_more _ _ _ _ _ _ (some (goal.at.returns-then-s-bytes c).Else-at-bytes) _ _ (read-ok c.in_ok-s.ensures) c.if-s-bytes.true)

pub returns : goal.returns
returns c =
    reads refl
    (rest-whole _ _ _ _ _ _ (some (goal.at.returns c).Else-at-bytes) _ _ (read-ok c.in_ok-s.ensures) c.if-s-bytes.false) (le_refl _)
