-- `number_texts::put_sign` meets its contract: two bytes are stored.
-- Assumes nothing.
use native.Mathlib.Omega.{arith}
use lib.ListN.{length-set}
use Rattle.number_texts.proofs.put_sign.Goals as goal

pub bounds-bytes-at : goal.bounds-bytes-at
bounds-bytes-at c = simp length-set (omega arith)
