-- A part of a list that is lent, and is back.
--
-- Main statements
--   lent-long   the part has as many members as were lent
--   lent_back   the list with another part in its place is the list with that part pasted into it
use Rattle.std.specs.Prelude.{ℕ, ◌+◌, ◌-◌, ◌≤◌, ◌≡◌, List, ◌++◌, length, take, drop}
use Rattle.std.proofs.Common.{le_of_eq, arith, sym, ◌∙◌, ap₂, append_assoc, take_all}
use borrow.Rule.Slice.PartMut.{mid_of, put_mid, mid_len, Post-is}
use Rattle.std.proofs.Math.Seq.{paste}

module _ {A : Type 0} where
  pub lent-long : (l : List A) (at w : ℕ) → at + w ≤ length l → length (mid_of at (at + w - at) l) ≡ w
  lent-long l at w h = mid_len at (at + w) l h ∙ omega arith

  pub lent_back : (l : List A) (at w : ℕ) (p : List A) → length p ≡ w → put_mid at (at + w - at) l p ≡ paste l at p w
  lent_back l at w p long =
      ap₂ (λ t r. take at l ++ (t ++ r)) (sym (take_all w p (le_of_eq long))) (Post-is at (at + w) l (omega arith))
      ∙ sym (append_assoc (take at l) (take w p) (drop (at + w) l))
