-- Terms: the coefficients, the place and the whole of a term, read from a place in the bytes into an array.
--
-- Main definitions
--   padded, FilledTo      a list of known length read into an array, zeros past its end
--   read_place, read_polynomial, read_padded   the two halves of a term, and the term with all its sixteen coefficients
--   place_in_row_of            where a term begins in a row
--
-- Main statements
--   coefficients-next     the coefficients of a term, one after another
--   block-zero, column-zero   what is known of a block and of a column that were let through
--   read_padded-is         a term is its two halves
use Rattle.std.specs.Prelude.{ℕ, zero, suc, pred, ◌+◌, ◌-◌, ◌*◌, ◌≤◌, ◌<◌, ◌≡◌, true, ◌&&◌, ◌||◌, cond, length, drop, set, T, pos, ◌-ℤ◌, ◌≤ℤ◌}
use Rattle.std.proofs.Common.{add-one, arith, ◌∙◌, length-set}
use Rattle.std.proofs.Math.Path.{refl, sym, ap}
use mathlib.Core.List.{List, [], ◌∷◌, ◌++◌, append-nil}
use Rattle.std.proofs.Math.ListN.{take}
use Rattle.std.proofs.Math.Seq.{append_snoc, take-suc-set}
use Rattle.algebra.specs.Polynomials.{Polynomial, is_zero_ℤ, is_zero_ℤ-iff}
use Rattle.lists.specs.Tests.{false_of, both_true}
use Rattle.std.proofs.Math.IntN.{ℤ, nat_abs}
use Rattle.std.specs.Int.Signed.{le_z, lt_z, non_neg}
use Rattle.rules.specs.Limits.{coefficient_count, block_length, small}
use Rattle.rules.specs.Numbers.{Read, got, fault, then_read, field, between, judge_small_of, space}
use Rattle.lists.specs.Padded.{pad_to, pad_to-set}
use Rattle.rules.specs.Stores.{Sizes}
use Rattle.rules.specs.Sheets.{Term, judge_last_of, judge_block_of, judge_column_of, always, parting, read_coefficients, read_term}
use Rattle.tokens.specs.Fields.{then-got, then-fault, then-cong, then-then, le_z-true, between-size, passed}

-- ---- a list of known length, read into an array

module _ {A : Type 0} (n : ℕ) (v : A) where
  -- What was read as n members, v for those that it lacks.
  unfoldable pub padded : Read (List A) → Read (List A)
  unfolding then_read pad_to
  padded r = then_read r λ l more. got (pad_to n v l) more

  -- The same where the first i members of the array p come first.
  unfoldable pub prefixed : List A → ℕ → Read (List A) → Read (List A)
  unfolding then_read pad_to
  prefixed p i r = then_read r λ l more. got (pad_to n v (take i p ++ l)) more

  one_more : (p : List A) (i : ℕ) (a : A) → i < length p → (r : Read (List A))
      → prefixed p i (then_read r (λ l more. got (a ∷ l) more)) ≡ prefixed (set p i a) (i + 1) r
  unfolding prefixed then_read
  one_more p i a h (fault k) = refl
  one_more p i a h (got l more) =
      ap (λ l. got (pad_to n v l) more)
      (sym (ap (λ t. t ++ l) (ap (λ k. take k (set p i a)) (add-one i) ∙ take-suc-set p i a h) ∙ append_snoc (take i p) a l))

  -- The array p holds the first i members of what was to be read and v after them; `rest` reads the others from the place `next`.
  pub record FilledTo (whole : Read (List A)) (bytes : List ℕ) (p : List A) (i next : ℕ) (rest : Read (List A)) : Type 0 where
    pub within : next ≤ length bytes
    pub long : length p ≡ n
    pub blank : p ≡ pad_to n v (take i p)
    pub left : padded whole ≡ prefixed p i rest

  module _ (whole : Read (List A)) (bytes : List ℕ) where
    pub filled-begins : (p : List A) (at : ℕ) → at ≤ length bytes → length p ≡ n → p ≡ pad_to n v [] → FilledTo whole bytes p 0 at whole
    unfolding padded prefixed
    filled-begins p at h e b = record { within = h; long = e; blank = b; left = refl }

    module _ (p : List A) (i next : ℕ) (rest : Read (List A)) (so_far : FilledTo whole bytes p i next rest) where
      pub filled-ends : rest ≡ got [] (drop next bytes) → padded whole ≡ got p (drop next bytes)
      unfolding prefixed
      filled-ends e =
          so_far.left
          ∙ ap (prefixed p i) e
          ∙ ap (λ l. got l (drop next bytes)) (ap (pad_to n v) (append-nil (take i p)) ∙ sym so_far.blank)

      -- One more member, read by `one` and made a member by g.
      module _ {X : Type 0} (one : Read X) (g : X → A) (others : X → List ℕ → Read (List A))
          (e : rest ≡ then_read one (λ x r. then_read (others x r) (λ l more. got (g x ∷ l) more))) where
        pub filled-refused : (k : ℕ) → one ≡ fault k → padded whole ≡ fault k
        unfolding prefixed
        filled-refused k f =
            so_far.left
            ∙ ap (prefixed p i) (e ∙ then-fault (λ x r. then_read (others x r) (λ l more. got (g x ∷ l) more)) f)

        pub filled-goes-on : (x : X) (at : ℕ) → i < n → one ≡ got x (drop at bytes) → at ≤ length bytes
            → FilledTo whole bytes (set p i (g x)) (i + 1) at (others x (drop at bytes))
        filled-goes-on x at h f inside =
            record {
              within = inside;
              long = length-set p i (g x) ∙ so_far.long;
              blank = rw (add-one i) (pad_to-set v n (g x) i p so_far.long so_far.blank);
              left =
                  so_far.left
                  ∙ ap (prefixed p i) (e ∙ then-got (λ x r. then_read (others x r) (λ l more. got (g x ∷ l) more)) f)
                  ∙ one_more p i (g x) (rw so_far.long h) (others x (drop at bytes));
            }

-- ---- coefficients

-- A coefficient after which k others are to come: how it is judged, and how it is read.
unfoldable pub judge_coefficient_of : ℕ → ℤ → ℕ
judge_coefficient_of zero = judge_last_of
judge_coefficient_of (suc k) = judge_small_of

unfoldable pub read_coefficient : ℕ → ℕ → List ℕ → Read ℤ
unfolding field judge_coefficient_of parting always
read_coefficient last k bytes = field (judge_coefficient_of k) (always (parting last k)) bytes

pub judge-inner : (k : ℕ) (v : ℤ) → (k ≡ 0 → ⊥) → judge_small_of v ≡ judge_coefficient_of k v
unfolding judge_coefficient_of
judge-inner zero v h = absurd (h refl)
judge-inner (suc k) v h = refl

-- Only a 0 is judged otherwise as the last.
pub judge-some : (k : ℕ) (v : ℤ) → (v ≡ pos 0 → ⊥) → judge_small_of v ≡ judge_coefficient_of k v
unfolding judge_coefficient_of judge_last_of judge_small_of
judge-some zero v h = sym (ap (λ t. cond (small v) (cond t 3 0) 5) (false_of (is_zero_ℤ v) (λ t. h ((is_zero_ℤ-iff v).0 t))))
judge-some (suc k) v h = refl

pub coefficients-step : (last k : ℕ) (bytes : List ℕ)
    → read_coefficients last (suc k) bytes
    ≡ then_read (read_coefficient last k bytes) (λ a rest. then_read (read_coefficients last k rest) (λ p more. got (a ∷ p) more))
unfolding read_coefficients read_coefficient judge_coefficient_of parting then_read
coefficients-step last zero bytes = refl
coefficients-step last (suc k) bytes = refl

-- With i of `count` coefficients read, the next one and those after it.
pub coefficients-next : (last count i : ℕ) (bytes : List ℕ) → i < count
    → read_coefficients last (count - i) bytes
    ≡ then_read (read_coefficient last (count - (i + 1)) bytes)
    (λ a rest. then_read (read_coefficients last (count - (i + 1)) rest) (λ p more. got (a ∷ p) more))
coefficients-next last count i bytes h =
    let e : count - i ≡ suc (count - (i + 1)) = omega arith in
    ap (λ k. read_coefficients last k bytes) e ∙ coefficients-step last (count - (i + 1)) bytes

pub coefficients-none : (last count i : ℕ) (bytes : List ℕ) → i ≡ count → read_coefficients last (count - i) bytes ≡ got [] bytes
unfolding read_coefficients
coefficients-none last count i bytes h =
    let e : count - i ≡ 0 = omega arith in
    ap (λ k. read_coefficients last k bytes) e

-- A block that was let through: t ≤ s ≤ l, and no higher than the one before (SCOPE 4.23, 4.34).
pub record BlockRight (z : Sizes) (s₀ s : ℤ) : Type 0 where
  pub low : z.t ≤ℤ s
  pub high : s ≤ℤ z.l
  pub falling : s ≤ℤ s₀

pub block-zero : (z : Sizes) (s₀ s : ℤ) → judge_block_of z s₀ s ≡ 0 → BlockRight z s₀ s
unfolding judge_block_of
block-zero z s₀ s e =
    let first = passed (le_z z.t s && le_z s z.l) (cond (le_z s s₀) 0 3) 1 e in
    let two = both_true (le_z z.t s) (le_z s z.l) first.0 in
    record { low = le_z-true two.0; high = le_z-true two.1; falling = le_z-true (passed (le_z s s₀) 0 2 first.1).0 }

-- A column that was let through: 1 ≤ c ≤ m, and after the one before if the block is the same (SCOPE 4.23, 4.34).
pub record ColumnRight (z : Sizes) (s₀ : ℤ) (c₀ : ℕ) (s c : ℤ) : Type 0 where
  pub counted : T (non_neg c)
  pub low : 1 ≤ nat_abs c
  pub high : nat_abs c ≤ z.m
  pub rising : (lt_z s s₀ || lt_z (pos c₀) c) ≡ true

pub column-zero : (z : Sizes) (s₀ : ℤ) (c₀ : ℕ) (s c : ℤ) → judge_column_of z s₀ c₀ s c ≡ 0 → ColumnRight z s₀ c₀ s c
unfolding judge_column_of
column-zero z s₀ c₀ s c e =
    let first = passed (le_z (pos 1) c && le_z c (pos z.m)) (cond (lt_z s s₀ || lt_z (pos c₀) c) 0 3) 1 e in
    let two = between-size 1 z.m c first.0 in
    record { counted = two.0; low = two.1; high = two.2; rising = (passed (lt_z s s₀ || lt_z (pos c₀) c) 0 2 first.1).0 }

-- ---- terms

abbrev pub term_of : ℤ → ℕ → Polynomial → Term
term_of s c p = record { block = s; column = c; polynomial = p }

-- A term with all its sixteen coefficients.
unfoldable pub pad_term : Term → Term
pad_term e = term_of e.block e.column (pad_to coefficient_count (pos 0) e.polynomial)

unfoldable pub read_padded : Sizes → ℤ → ℕ → ℕ → List ℕ → Read Term
read_padded z s₀ c₀ last bytes = then_read (read_term z s₀ c₀ last bytes) λ e rest. got (pad_term e) rest

-- The block and the column of a term, and then its polynomial.
unfoldable pub read_place : Sizes → ℤ → ℕ → List ℕ → Read (ℤ × ℕ)
read_place z s₀ c₀ bytes =
    then_read (field (judge_block_of z s₀) (always space) bytes) λ s rest.
    then_read (field (judge_column_of z s₀ c₀ s) (always space) rest) λ c more. got (s, nat_abs c) more

unfoldable pub read_polynomial : ℕ → List ℕ → Read Polynomial
read_polynomial last bytes =
    then_read (field (between (pos 1) (pos coefficient_count)) (always space) bytes) λ k rest.
    padded coefficient_count (pos 0) (read_coefficients last (nat_abs k) rest)

module _ (z : Sizes) (s₀ : ℤ) (c₀ last : ℕ) where
  -- The definition of a term, with its parts named.
  coefficients_then : ℤ → ℤ → ℤ → List ℕ → Read Term
  coefficients_then s c k bytes = then_read (read_coefficients last (nat_abs k) bytes) λ p rest. got (term_of s (nat_abs c) p) rest

  count_then : ℤ → ℤ → List ℕ → Read Term
  count_then s c bytes = then_read (field (between (pos 1) (pos coefficient_count)) (always space) bytes) (coefficients_then s c)

  column_then : ℤ → List ℕ → Read Term
  column_then s bytes = then_read (field (judge_column_of z s₀ c₀ s) (always space) bytes) (count_then s)

  term_is : (bytes : List ℕ) → read_term z s₀ c₀ last bytes ≡ then_read (field (judge_block_of z s₀) (always space) bytes) column_then
  unfolding read_term column_then count_then coefficients_then
  term_is bytes = refl

  -- What is made of a place and the polynomial at it.
  unfoldable pub with_place : ℤ × ℕ → List ℕ → Read Term
  with_place q bytes = then_read (read_polynomial last bytes) λ p rest. got (term_of q.0 q.1 p) rest

  pad : Term → List ℕ → Read Term
  pad e rest = got (pad_term e) rest

  pad-coefficients : (s c : ℤ) (r : Read Polynomial)
      → then_read (then_read r (λ p rest. got (term_of s (nat_abs c) p) rest)) pad
      ≡ then_read (padded coefficient_count (pos 0) r) (λ p rest. got (term_of s (nat_abs c) p) rest)
  unfolding then_read padded pad pad_term
  pad-coefficients s c (got p rest) = refl
  pad-coefficients s c (fault n) = refl

  pad-count : (s c : ℤ) (bytes : List ℕ) → then_read (count_then s c bytes) pad ≡ with_place (s, nat_abs c) bytes
  unfolding count_then coefficients_then with_place read_polynomial
  pad-count s c bytes =
      then-then count (coefficients_then s c) pad
      ∙ then-cong count (λ k rest. pad-coefficients s c (read_coefficients last (nat_abs k) rest))
      ∙ sym (then-then count (λ k rest. padded coefficient_count (pos 0) (read_coefficients last (nat_abs k) rest))
      (λ p rest. got (term_of s (nat_abs c) p) rest))
    where
      count : Read ℤ
      count = field (between (pos 1) (pos coefficient_count)) (always space) bytes

  pub read_padded-is : (bytes : List ℕ) → read_padded z s₀ c₀ last bytes ≡ then_read (read_place z s₀ c₀ bytes) with_place
  unfolding read_padded read_place pad column_then
  read_padded-is bytes =
      ap (λ r. then_read r pad) (term_is bytes)
      ∙ then-then (field (judge_block_of z s₀) (always space) bytes) column_then pad
      ∙ then-cong (field (judge_block_of z s₀) (always space) bytes) pad-column
      ∙ sym
      (then-then (field (judge_block_of z s₀) (always space) bytes)
      (λ s rest. then_read (field (judge_column_of z s₀ c₀ s) (always space) rest) λ c more. got (s, nat_abs c) more) with_place)
    where
      pad-column : (s : ℤ) (rest : List ℕ)
          → then_read (column_then s rest) pad
          ≡ then_read (then_read (field (judge_column_of z s₀ c₀ s) (always space) rest) λ c more. got (s, nat_abs c) more) with_place
      pad-column s rest =
          then-then column (count_then s) pad
          ∙ then-cong column (λ c more. pad-count s c more ∙ sym (then-got with_place refl))
          ∙ sym (then-then column (λ c more. got (s, nat_abs c) more) with_place)
        where
          column : Read ℤ
          column = field (judge_column_of z s₀ c₀ s) (always space) rest

-- ---- rows

-- Where the polynomial of a block and a column, counted from 1, begins in a row: blocks from l downward, four columns
-- in each, 16 coefficients in each of those (SCOPE 3.2).
unfoldable pub place_in_row_of : ℤ → ℤ → ℕ → ℕ
place_in_row_of l block column =
    nat_abs (l -ℤ block) * block_length + pred column * coefficient_count
