-- `tokens::front_digits` meets its contract. Eight bytes are read as one number, and two digits more may follow them.
-- Assumes nothing.
use Rattle.std.proofs.Common.{◌≡◌, ℕ, ◌+◌, ◌-◌, ◌*◌, ◌%◌, ◌^◌, ◌<◌, ◌≤◌, Bool, true, false, cond, ◌&&◌, eqb, ltb, List, length, get_or, sym, refl, subst, arith, ltb-true, eqb-true}
use mir.Val.{bool_byte}
use lib.Bits.{bit_xor}
use Rattle.lists.specs.Tests.{both_true}
use Rattle.tokens.specs.Tokens.{DigitsTo, digits-size}
use Rattle.tokens.specs.Straight.{front, front-end}
use Rattle.tokens.specs.Words.{word_value_of, front-most, front-all, front-some, front-stops, front-ended, sign-less, near, shifted-small}
use Rattle.tokens.specs.Words.{front_read, more-read}
use Rattle.rules.specs.Numbers.{is_digit_of}
use Rattle.tokens.proofs.front_digits.Goals as goal
use Rattle.tokens.proofs.front_digits.Goals.{After-shared_slice_known-1, After-word_value-value, Start}

-- What is known of the digits in front.
module _ (k : After-shared_slice_known-1) where
  abbrev s : Start
  s = (goal.at.After-shared_slice_known-1 k).Start

  abbrev bytes : List ℕ
  bytes = s.args.bytes.now

  byte : (j : ℕ) → get_or bytes j 0 < 256
  byte j = (k.shared_slice_known-1.given j).fits

  close-by : (s.args.at ≤ s.args.from) × (s.args.from ≤ s.args.at + 1)
  close-by = near bytes s.args.at s.args.from s.requires.at_in_bounds.1

  most : (1 ≤ s.args.n) × (s.args.n ≤ 8)
  most = front-most bytes byte s.args.at s.args.from s.args.x s.args.s s.args.n (omega arith)
      s.requires.at_in_bounds.1 s.requires.x_value.0 s.requires.x_value.1 s.requires.x_value.2

  all : s.args.s ≡ 0 → s.args.n ≡ 8
  all = front-all bytes byte s.args.at s.args.from s.args.x s.args.s s.args.n (omega arith)
      s.requires.at_in_bounds.1 s.requires.x_value.0 s.requires.x_value.1 s.requires.x_value.2

  some : s.args.from < s.args.at + s.args.n
  some = front-some bytes byte s.args.at s.args.from s.args.x s.args.s s.args.n (omega arith)
      s.requires.at_in_bounds.1 s.requires.x_value.0 s.requires.x_value.1 s.requires.x_value.2 s.requires.at_in_bounds.2

  stops : (s.args.s ≡ 0 → ⊥) → is_digit_of (get_or bytes (s.args.at + s.args.n) 0) ≡ false
  stops = front-stops bytes byte s.args.at s.args.from s.args.x s.args.s s.args.n (omega arith)
      s.requires.at_in_bounds.1 s.requires.x_value.0 s.requires.x_value.1 s.requires.x_value.2

  less : 29 * (s.args.from - s.args.at) ≤ s.args.x
  less = sign-less bytes byte s.args.at s.args.from s.args.x s.args.s s.args.n (omega arith)
      s.requires.at_in_bounds.1 s.requires.x_value.0 s.requires.x_value.1 s.requires.x_value.2

  small : (s.args.x - 29 * (s.args.from - s.args.at)) * 2 ^ (64 - 8 * s.args.n) % 2 ^ 64 < 720575940379279360
  small = shifted-small bytes byte s.args.at s.args.from s.args.x s.args.s s.args.n (omega arith)
      s.requires.at_in_bounds.1 s.requires.x_value.0 s.requires.x_value.1 s.requires.x_value.2

  read : DigitsTo bytes s.args.from (s.args.at + s.args.n)
      (word_value_of ((s.args.x - 29 * (s.args.from - s.args.at)) * 2 ^ (64 - 8 * s.args.n) % 2 ^ 64))
  read = front_read bytes byte s.args.at s.args.from s.args.x s.args.s s.args.n (omega arith)
      s.requires.at_in_bounds.1 s.requires.x_value.0 s.requires.x_value.1 s.requires.x_value.2

  -- The tests for one digit more, and for two.
  abbrev more : Bool
  more = eqb s.args.s 0 && ltb (bit_xor (get_or bytes (s.args.at + 8) 0) 48) 10

  abbrev last : Bool
  last = more && ltb (bit_xor (get_or bytes (s.args.at + 9) 0) 48) 10

  more-found : more ≡ true → (s.args.at + s.args.n ≡ s.args.at + 8) × (bit_xor (get_or bytes (s.args.at + 8) 0) 48 < 10)
  more-found e =
      let both = both_true (eqb s.args.s 0) (ltb (bit_xor (get_or bytes (s.args.at + 8) 0) 48) 10) e in
      (omega (arith, all (eqb-true s.args.s 0 both.0)), ltb-true _ 10 both.1)

  last_found : last ≡ true
      → (s.args.at + s.args.n + bool_byte more ≡ s.args.at + 9) × (bit_xor (get_or bytes (s.args.at + 9) 0) 48 < 10)
  last_found e =
      let both = both_true more (ltb (bit_xor (get_or bytes (s.args.at + 9) 0) 48) 10) e in
      let one : bool_byte more ≡ 1 = rw both.0 in
      (omega (arith, (more-found both.0).0), ltb-true _ 10 both.1)

pub overflow_sub-from : goal.overflow_sub-from
overflow_sub-from c = (close-by c).0

pub overflow_mul-from : goal.overflow_mul-from
overflow_mul-from c = omega (arith, close-by c)

pub overflow_sub-x : goal.overflow_sub-x
overflow_sub-x c = less c

pub overflow_mul-n : goal.overflow_mul-n
overflow_mul-n c = omega (arith, most c)

pub overflow_sub-n : goal.overflow_sub-n
overflow_sub-n c = omega (arith, most c)

pub overflow_shl-x : goal.overflow_shl-x
overflow_shl-x c = omega (arith, most c)

pub word_value-value-requires : goal.word_value-value-requires
word_value-value-requires c = small c

-- The digits, with the ninth and the tenth byte or without.
module _ (k : After-word_value-value) where
  abbrev b : After-shared_slice_known-1
  b = (goal.at.After-word_value-value k).After-shared_slice_known-1

  abbrev ninth : ℕ
  ninth = bit_xor (get_or (bytes b) ((s b).args.at + 8) 0) 48

  abbrev tenth : ℕ
  tenth = bit_xor (get_or (bytes b) ((s b).args.at + 9) 0) 48

  value : DigitsTo (bytes b) (s b).args.from ((s b).args.at + (s b).args.n) k.word_value-value.result
  value =
      subst (λ v. DigitsTo (bytes b) (s b).args.from ((s b).args.at + (s b).args.n) v) (sym k.word_value-value.ensures) (read b)

  longer : DigitsTo (bytes b) (s b).args.from ((s b).args.at + (s b).args.n + bool_byte (more b))
      (cond (more b) (10 * k.word_value-value.result + ninth) k.word_value-value.result)
  longer =
      more-read (bytes b) (byte b) (s b).args.from ((s b).args.at + (s b).args.n) k.word_value-value.result ((s b).args.at + 8)
      (omega arith) (omega (arith, close-by b)) (more b) (more-found b) value

  longest : {v : ℕ} → v ≡ cond (more b) (10 * k.word_value-value.result + ninth) k.word_value-value.result
      → DigitsTo (bytes b) (s b).args.from ((s b).args.at + (s b).args.n + bool_byte (more b) + bool_byte (last b))
      (cond (last b) (10 * v + tenth) v)
  longest {v} e =
      more-read (bytes b) (byte b) (s b).args.from ((s b).args.at + (s b).args.n + bool_byte (more b)) v ((s b).args.at + 9)
      (omega arith) (omega (arith, close-by b)) (last b) (last_found b)
      (subst (λ w. DigitsTo (bytes b) (s b).args.from ((s b).args.at + (s b).args.n + bool_byte (more b)) w) (sym e) longer)

  bit : (t : Bool) → bool_byte t ≤ 1
  bit true = omega arith
  bit false = omega arith

  end-most : (s b).args.at + (s b).args.n + bool_byte (more b) + bool_byte (last b) ≤ (s b).args.at + 10
  end-most = omega (arith, most b, bit (more b), bit (last b))

  ends : (s b).args.at + (s b).args.n + bool_byte (more b) + bool_byte (last b)
      ≡ (s b).args.from + length (front (bytes b) (s b).args.from ((s b).args.at + 10 - (s b).args.from))
  ends =
      front-end (bytes b) ((s b).args.at + 10 - (s b).args.from) (s b).args.from
      ((s b).args.at + (s b).args.n + bool_byte (more b) + bool_byte (last b))
      (omega (arith, some b)) (omega (arith, end-most)) (longest refl).all_digits (omega (arith, end-most, close-by b))
      (λ h. front-ended (bytes b) (byte b) (s b).args.at (s b).args.s (s b).args.n (all b) (stops b) (more b) (last b) refl refl
      (omega (arith, h, close-by b)))

pub overflow_add-result : goal.overflow_add-result
overflow_add-result c = omega (arith, end-most (goal.at.overflow_add-result c).After-word_value-value)

pub overflow_add-result-2 : goal.overflow_add-result-2
overflow_add-result-2 c = omega (arith, end-most (goal.at.overflow_add-result-2 c).After-word_value-value)

pub overflow_add-result-3 : goal.overflow_add-result-3
overflow_add-result-3 c = omega (arith, end-most (goal.at.overflow_add-result-3 c).After-word_value-value)

pub one_more-requires : goal.one_more-requires
one_more-requires c = digits-size _ _ _ _ (value (goal.at.one_more-requires c).After-word_value-value)

pub one_more-requires-2 : goal.one_more-requires-2
one_more-requires-2 c =
    subst (λ v. v < 10 ^ 10) (sym c.one_more.ensures) (digits-size _ _ _ _ (longer (goal.at.one_more-requires-2 c).After-word_value-value))

pub returns : goal.returns
returns c =
    let k = (goal.at.returns c).After-word_value-value in
    let a = (s (b k)).args in record {
      digits_to = subst (λ v. DigitsTo (bytes (b k)) a.from (a.at + a.n + bool_byte (more (b k)) + bool_byte (last (b k))) v)
          (sym c.one_more-2.ensures) (longest k c.one_more.ensures);
      end_value = ends k;
    }
