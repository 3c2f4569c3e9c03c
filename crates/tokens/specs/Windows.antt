-- Lines read from a window: the first bytes of what is left of a sheet or of a batch.
--
-- Main definitions
--   followed r x      what was read, with the bytes x after the rest
--   number_line, batch_line   the bytes that decide a number with its separator, and a line of a batch
--   Window w bytes    w is all of the bytes, or begins them and is long enough to decide a line
--
-- Main statements
--   word-unended, word-whole               a token whose separator is missing is all bytes, and goes on in more
--   field-unbegun, field-ended             a token that cannot begin a number; more bytes after a separator that is there
--   field-got-longer, field-longer         a number that is read from a window is read from all bytes; a window of 12 bytes
--                                          decides
--   sheet_line-got-longer, sheet_line-longer   the same for the line of a sheet, and 24 bytes
--   field-window, sheet_line-window         a window is read as all bytes are
use Rattle.std.specs.Prelude.{◌≡◌, ℕ, zero, suc, ◌+◌, ◌-◌, ◌<◌, ◌≤◌, Bool, true, false, cond, ◌&&◌, T, leb, ◌⊎◌, List, [], ◌∷◌, ◌++◌, length, drop, ℤ, pos, ◌==◌, nat_le}
use Rattle.std.proofs.Common.{not-suc-le-zero, ◌∙◌, ap₂, inl, inr, append-nil, append_assoc, leb→le, length-drop, drop_at}
use native.Mathlib.Omega.{arith}
use Rattle.std.proofs.Math.Path.{refl, sym, ap}
use Rattle.std.proofs.Math.ListN.{length-append}
use Rattle.lists.specs.Tests.{T-&&, every}
use Rattle.rules.specs.Numbers.{space, newline, is_separator_of, word, after_word, is_digit_of, signed, digits, starts_right_of, begins_number, is_number}
use Rattle.rules.specs.Numbers.{number_of, Read, got, fault, then_read, judged, read_word, read_separator, field, between}
use Rattle.rules.specs.Sheets.{always}
use Rattle.tokens.specs.Exact.{got-inj, fault-got}
use Rattle.tokens.specs.WrittenNumbers.{word-after_word}
use Rattle.rules.specs.Batch.{SheetLine, read_client, read_size, read_after_client, read_sheet_line}

-- ---- more bytes after those that are read

unfoldable pub followed : {A : Type 0} → Read A → List ℕ → Read A
followed (got a rest) x = got a (rest ++ x)
followed (fault n) x = fault n

-- A minus and ten digits at most (SCOPE 4.2), and a separator.
abbrev pub number_line : ℕ
number_line = 12

-- Two numbers with their separators (SCOPE 5.23).
abbrev pub batch_line : ℕ
batch_line = 24

-- The bytes that were read: at most `most` of them, and the rest follows.
pub record Taken (most : ℕ) (bytes rest : List ℕ) : Type 0 where
  pub front : List ℕ
  pub whole : bytes ≡ front ++ rest
  pub few : length front ≤ most

taken_twice : {j k : ℕ} {bytes rest more : List ℕ} → Taken j bytes rest → Taken k rest more → Taken (j + k) bytes more
taken_twice {more = more} s t =
    record {
      front = s.front ++ t.front;
      whole = s.whole ∙ ap (λ l. s.front ++ l) t.whole ∙ sym (append_assoc s.front t.front more);
      few = rw length-append (omega (arith, s.few, t.few));
    }

-- The number of bytes that were read, and the bytes after so many.
pub taken-length : {most : ℕ} {bytes rest : List ℕ} → Taken most bytes rest → length bytes - length rest ≤ most
taken-length {bytes = bytes} {rest = rest} s = omega (arith, ap length s.whole, length-append s.front rest, s.few)

pub taken-drop : {most : ℕ} {bytes rest : List ℕ} → Taken most bytes rest → drop (length bytes - length rest) bytes ≡ rest
taken-drop {bytes = bytes} {rest = rest} s =
    ap (drop (length bytes - length rest)) s.whole
    ∙ drop_at s.front rest (length bytes - length rest) (omega (arith, ap length s.whole, length-append s.front rest))

-- ---- a token

-- A token whose separator is there does not change with more bytes, and what follows it is followed by them.
word-longer : (w x : List ℕ) → 1 ≤ length (after_word w) → (word (w ++ x) ≡ word w) × (after_word (w ++ x) ≡ after_word w ++ x)
unfolding word after_word
word-longer [] x h = absurd (not-suc-le-zero h)
word-longer (b ∷ w) x h = go (is_separator_of b) h (word-longer w x)
  where
    go : (t : Bool) → 1 ≤ length (cond t (b ∷ w) (after_word w))
        → (1 ≤ length (after_word w) → (word (w ++ x) ≡ word w) × (after_word (w ++ x) ≡ after_word w ++ x))
        → (cond t [] (b ∷ word (w ++ x)) ≡ cond t [] (b ∷ word w))
        × (cond t (b ∷ (w ++ x)) (after_word (w ++ x)) ≡ cond t (b ∷ w) (after_word w) ++ x)
    go true h rest = (refl, refl)
    go false h rest = (ap (λ l. b ∷ l) (rest h).0, (rest h).1)

-- A token whose separator is missing is all bytes, and goes on in more.
pub word-unended : (w x : List ℕ) → length (after_word w) ≡ 0 → word (w ++ x) ≡ w ++ word x
unfolding word after_word
word-unended [] x h = refl
word-unended (b ∷ w) x h = go (is_separator_of b) h (word-unended w x)
  where
    go : (t : Bool) → length (cond t (b ∷ w) (after_word w)) ≡ 0 → (length (after_word w) ≡ 0 → word (w ++ x) ≡ w ++ word x)
        → cond t [] (b ∷ word (w ++ x)) ≡ b ∷ (w ++ word x)
    go true h rest = absurd (omega arith)
    go false h rest = ap (λ l. b ∷ l) (rest h)

pub word-whole : (w : List ℕ) → length (after_word w) ≡ 0 → word w ≡ w
unfolding word
word-whole w h = sym (ap word (append-nil w)) ∙ word-unended w [] h ∙ append-nil w

-- ---- a number with its separator

-- The bytes of a token that is a number are few.
pub begins-short : (w : List ℕ) → T (begins_number w) → length w < number_line
unfolding begins_number digits
begins-short w h =
    let few = leb (length (digits w)) 10 in
    let both = ((T-&& (every is_digit_of (digits w) && few) (starts_right_of (signed w) (digits w))).0 h).0 in
    go (signed w) (leb→le _ 10 ((T-&& (every is_digit_of (digits w)) few).0 both).1)
  where
    go : (t : Bool) → length (cond t (drop 1 w) w) ≤ 10 → length w < number_line
    go true i = omega (arith, length-drop 1 w)
    go false i = omega arith

pub number_short : (w : List ℕ) → T (is_number w) → length w < number_line
unfolding is_number
number_short w h = begins-short w ((T-&& (nat_le 1 (length (digits w))) (begins_number w)).0 h).1

module _ (judge follow : ℤ → ℕ) where
  -- The separator of a number that was read.
  unfoldable pub separated : ℤ → List ℕ → Read ℤ
  separated v rest = read_separator (follow v) v rest

  pub field_is : (bytes : List ℕ) → field judge follow bytes ≡ then_read (read_word judge (word bytes) (after_word bytes)) separated
  unfolding field separated
  field_is bytes = refl

  -- A token that cannot begin a number, as one with too many bytes.
  word-unbegun : (w after : List ℕ) → (T (begins_number w) → ⊥) → read_word judge w after ≡ fault 3
  unfolding read_word is_number
  word-unbegun w [] h = ap fault (go (begins_number w) h)
    where
      go : (t : Bool) → (T t → ⊥) → ◌≡◌ {A = ℕ} (cond t 4 3) 3
      go true i = absurd (i tt)
      go false i = refl
  word-unbegun w (b ∷ bytes) h = go (is_number w) (λ i. h ((T-&& (nat_le 1 (length (digits w))) (begins_number w)).0 i).1)
    where
      go : (t : Bool) → (T t → ⊥) → cond t (judged (judge (number_of w)) (number_of w) (b ∷ bytes)) (fault 3) ≡ fault 3
      go true i = absurd (i tt)
      go false i = refl

  pub field-unbegun : (bytes : List ℕ) → (T (begins_number (word bytes)) → ⊥) → field judge follow bytes ≡ fault 3
  unfolding then_read
  field-unbegun bytes h = field_is bytes ∙ ap (λ r. then_read r separated) (word-unbegun (word bytes) (after_word bytes) h)

  field-long : (bytes : List ℕ) → number_line ≤ length (word bytes) → field judge follow bytes ≡ fault 3
  field-long bytes h = field-unbegun bytes (λ i. omega (arith, begins-short (word bytes) i))

  separator-followed : (v : ℤ) (b : ℕ) (bytes x : List ℕ) → separated v (b ∷ (bytes ++ x)) ≡ followed (separated v (b ∷ bytes)) x
  unfolding separated read_separator followed
  separator-followed v b bytes x = go (b == follow v)
    where
      go : (t : Bool) → cond t (got v (bytes ++ x)) (fault 3) ≡ followed (cond t (got v bytes) (fault 3)) x
      go true = refl
      go false = refl

  -- A token and its separator, with more bytes after them.
  ended-followed : (w after x : List ℕ) → 1 ≤ length after
      → then_read (read_word judge w (after ++ x)) separated ≡ followed (then_read (read_word judge w after) separated) x
  unfolding read_word then_read judged followed
  ended-followed w [] x h = absurd (not-suc-le-zero h)
  ended-followed w (b ∷ bytes) x h = go (is_number w) (judge (number_of w))
    where
      go : (t : Bool) (n : ℕ)
          → then_read (cond t (judged n (number_of w) (b ∷ (bytes ++ x))) (fault 3)) separated
          ≡ followed (then_read (cond t (judged n (number_of w) (b ∷ bytes)) (fault 3)) separated) x
      go true zero = separator-followed (number_of w) b bytes x
      go true (suc n) = refl
      go false n = refl

  pub field-ended : (w x : List ℕ) → 1 ≤ length (after_word w) → field judge follow (w ++ x) ≡ followed (field judge follow w) x
  field-ended w x h =
      field_is (w ++ x)
      ∙ ap₂ (λ v after. then_read (read_word judge v after) separated) (word-longer w x h).0 (word-longer w x h).1
      ∙ ended-followed (word w) (after_word w) x h
      ∙ ap (λ r. followed r x) (sym (field_is w))

  -- A number that was read has its separator.
  field-separator : (bytes : List ℕ) (v : ℤ) (rest : List ℕ) → field judge follow bytes ≡ got v rest → 1 ≤ length (after_word bytes)
  unfolding read_word then_read
  field-separator bytes v rest e = go (after_word bytes) (sym (field_is bytes) ∙ e)
    where
      go : (after : List ℕ) → then_read (read_word judge (word bytes) after) separated ≡ got v rest → 1 ≤ length after
      go [] e = absurd (fault-got _ v rest e)
      go (b ∷ after) e = omega arith

  -- What is read of some bytes is read of these bytes and any others after them.
  pub field-got-longer : (w x : List ℕ) (v : ℤ) (rest : List ℕ) → field judge follow w ≡ got v rest
      → field judge follow (w ++ x) ≡ got v (rest ++ x)
  unfolding followed
  field-got-longer w x v rest e = field-ended w x (field-separator w v rest e) ∙ ap (λ r. followed r x) e

  -- Twelve bytes decide.
  pub field-longer : (w x : List ℕ) → number_line ≤ length w → field judge follow (w ++ x) ≡ followed (field judge follow w) x
  unfolding followed
  field-longer w x h = go (length (after_word w)) refl
    where
      go : (n : ℕ) → length (after_word w) ≡ n → field judge follow (w ++ x) ≡ followed (field judge follow w) x
      go (suc n) e = field-ended w x (omega arith)
      go zero e =
          field-long (w ++ x) (omega (arith, ap length (word-unended w x e), length-append w (word x)))
          ∙ sym (ap (λ r. followed r x) (field-long w (omega (arith, ap length (word-whole w e)))))

  pub field-taken : (bytes : List ℕ) (v : ℤ) (rest : List ℕ) → field judge follow bytes ≡ got v rest → Taken number_line bytes rest
  unfolding read_word then_read judged separated read_separator
  field-taken bytes v rest e = go (after_word bytes) (word-after_word bytes) (sym (field_is bytes) ∙ e)
    where
      w : List ℕ
      w = word bytes

      taken : (b : ℕ) (after : List ℕ) → w ++ (b ∷ after) ≡ bytes → length w < number_line → after ≡ rest → Taken number_line bytes rest
      taken b after whole h same =
          record {
            front = w ++ (b ∷ []);
            whole = sym whole ∙ ap (λ l. w ++ (b ∷ l)) same ∙ sym (append_assoc w (b ∷ []) rest);
            few = rw length-append (omega arith);
          }

      go : (after : List ℕ) → w ++ after ≡ bytes → then_read (read_word judge w after) separated ≡ got v rest → Taken number_line bytes rest
      go [] whole e = absurd (fault-got _ v rest e)
      go (b ∷ after) whole e = number (is_number w) (judge (number_of w)) (number_short w) e
        where
          ended : (t : Bool) → length w < number_line → cond t (got (number_of w) after) (fault 3) ≡ got v rest → Taken number_line bytes rest
          ended true h e = taken b after whole h (got-inj (number_of w) v after rest e).1
          ended false h e = absurd (fault-got 3 v rest e)

          number : (t : Bool) (n : ℕ) → (T t → length w < number_line)
              → then_read (cond t (judged n (number_of w) (b ∷ after)) (fault 3)) separated ≡ got v rest → Taken number_line bytes rest
          number true zero h e = ended (b == follow (number_of w)) (h tt) e
          number true (suc n) h e = absurd (fault-got (suc n) v rest e)
          number false n h e = absurd (fault-got 3 v rest e)

-- ---- the line of a sheet

abbrev pub count_of : List ℕ → Read ℤ
count_of bytes = field (between (pos 0) (pos 32768)) (always newline) bytes

abbrev pub client_of : List ℕ → Read ℤ
client_of bytes = field (between (pos 1) (pos 8)) (always space) bytes

pub sheet_line-is : (bytes : List ℕ) → read_sheet_line bytes ≡ read_after_client (client_of bytes)
unfolding read_sheet_line read_client
sheet_line-is bytes = refl

pub sheet_line-taken : (bytes : List ℕ) (v : SheetLine) (rest : List ℕ) → read_sheet_line bytes ≡ got v rest → Taken batch_line bytes rest
unfolding read_after_client read_size
sheet_line-taken bytes v rest e = client (client_of bytes) refl (sym (sheet_line-is bytes) ∙ e)
  where
    size : (k : ℤ) (more : List ℕ) → client_of bytes ≡ got k more → (r : Read ℤ) → count_of more ≡ r → read_size k r ≡ got v rest
        → Taken batch_line bytes rest
    size k more c (got n after) d e =
        taken_twice (field-taken (between (pos 1) (pos 8)) (always space) bytes k more c)
        (field-taken (between (pos 0) (pos 32768)) (always newline) more n rest (d ∙ ap (got n) (got-inj _ v after rest e).1))
    size k more c (fault n) d e = absurd (fault-got n v rest e)

    client : (r : Read ℤ) → client_of bytes ≡ r → read_after_client r ≡ got v rest → Taken batch_line bytes rest
    client (got k more) c e = size k more c (count_of more) refl e
    client (fault n) c e = absurd (fault-got n v rest e)

-- A size that is read after a client, with more bytes.
size-followed : (k : ℤ) (r : Read ℤ) (x : List ℕ) → read_size k (followed r x) ≡ followed (read_size k r) x
unfolding read_size followed
size-followed k (got n rest) x = refl
size-followed k (fault n) x = refl

pub sheet_line-got-longer : (w x : List ℕ) (v : SheetLine) (rest : List ℕ) → read_sheet_line w ≡ got v rest
    → read_sheet_line (w ++ x) ≡ got v (rest ++ x)
unfolding read_after_client read_size followed
sheet_line-got-longer w x v rest e = sheet_line-is (w ++ x) ∙ client (client_of w) refl (sym (sheet_line-is w) ∙ e)
  where
    size : (k : ℤ) (more : List ℕ) (r : Read ℤ) → count_of more ≡ r → read_size k r ≡ got v rest
        → read_size k (count_of (more ++ x)) ≡ got v (rest ++ x)
    size k more (got n after) d e =
        ap (read_size k) (field-got-longer (between (pos 0) (pos 32768)) (always newline) more x n after d) ∙ ap (λ r. followed r x) e
    size k more (fault n) d e = absurd (fault-got n v rest e)

    client : (r : Read ℤ) → client_of w ≡ r → read_after_client r ≡ got v rest → read_after_client (client_of (w ++ x)) ≡ got v (rest ++ x)
    client (got k more) c e = ap read_after_client (field-got-longer (between (pos 1) (pos 8)) (always space) w x k more c) ∙ size k more (count_of more) refl e
    client (fault n) c e = absurd (fault-got n v rest e)

-- Twenty-four bytes decide.
pub sheet_line-longer : (w x : List ℕ) → batch_line ≤ length w → read_sheet_line (w ++ x) ≡ followed (read_sheet_line w) x
unfolding read_after_client read_size followed
sheet_line-longer w x h =
    sheet_line-is (w ++ x)
    ∙ ap read_after_client (field-longer (between (pos 1) (pos 8)) (always space) w x (omega arith))
    ∙ client (client_of w) refl
    ∙ ap (λ r. followed r x) (sym (sheet_line-is w))
  where
    client : (r : Read ℤ) → client_of w ≡ r → read_after_client (followed r x) ≡ followed (read_after_client r) x
    client (got k more) c =
        ap (read_size k) (field-longer (between (pos 0) (pos 32768)) (always newline) more x
        (long (field-taken (between (pos 1) (pos 8)) (always space) w k more c)))
        ∙ size-followed k (count_of more) x
      where
        long : Taken number_line w more → number_line ≤ length more
        long t = omega (arith, t.few, ap length t.whole, length-append t.front more)
    client (fault n) c = refl

-- ---- windows

-- What is given of the bytes: all of them, or so many that they decide.
pub record Window (w bytes : List ℕ) : Type 0 where
  pub beyond : List ℕ
  pub joined : w ++ beyond ≡ bytes
  pub enough : (batch_line ≤ length w) ⊎ (beyond ≡ [])

followed-none : {A : Type 0} (r : Read A) → followed r [] ≡ r
unfolding followed
followed-none (got a rest) = ap (got a) (append-nil rest)
followed-none (fault n) = refl

module _ {A : Type 0} (read : List ℕ → Read A)
    (longer : (w x : List ℕ) → batch_line ≤ length w → read (w ++ x) ≡ followed (read w) x) where
  -- All bytes read as a window on them does, with the bytes beyond it after the rest.
  window-followed : (w bytes : List ℕ) (v : Window w bytes) → read bytes ≡ followed (read w) v.beyond
  window-followed w bytes v = ap read (sym v.joined) ∙ go v.enough
    where
      go : (batch_line ≤ length w) ⊎ (v.beyond ≡ []) → read (w ++ v.beyond) ≡ followed (read w) v.beyond
      go (inl h) = longer w v.beyond h
      go (inr e) = rw e (ap read (append-nil w) ∙ sym (followed-none (read w)))

pub field-window : (judge follow : ℤ → ℕ) (w bytes : List ℕ) (v : Window w bytes)
    → field judge follow bytes ≡ followed (field judge follow w) v.beyond
field-window judge follow = window-followed (field judge follow) (λ w x h. field-longer judge follow w x (omega arith))

pub sheet_line-window : (w bytes : List ℕ) (v : Window w bytes) → read_sheet_line bytes ≡ followed (read_sheet_line w) v.beyond
sheet_line-window = window-followed read_sheet_line sheet_line-longer
