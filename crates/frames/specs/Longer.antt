-- Lines of a batch when more bytes follow (SCOPE 5.23): a fault other than 4 is final, and 4 comes only of bytes too
-- few to decide.
--
-- Main statements
--   begins-front                                  the first bytes of what can begin a number can begin one
--   field-fault-longer, sheet_line-fault-longer    a fault other than 4 stays with more bytes
--   field-early, sheet_line-early                  a fault 4 comes of fewer than 12 bytes at a number, and 24 at a line
--   begun-longer, line-longer                     what is told of a line stays with more bytes, unless it is a refusal 4
--   begun-early, line-early                       a refusal 4 is told of fewer than 24 bytes
use Rattle.std.specs.Prelude.{ℕ, zero, suc, ◌-◌, ◌≤◌, ◌<◌, ◌≢◌, Bool, ◌&&◌, ◌||◌, not, cond, leb, eqb, drop, ℤ, pos, nat_abs}
use Rattle.std.proofs.Common.{arith, sym, ◌∙◌, subst, leb→le, le→leb, eqb→eq, length-append}
use Rattle.std.proofs.Math.Path.{◌≡◌, refl, ap}
use Rattle.std.proofs.Math.Bool.{true, false}
use mathlib.Core.List.{List, [], ◌∷◌, ◌++◌}
use Rattle.std.proofs.Math.Dec.{T}
use Rattle.std.proofs.Math.ListN.{length}
use Rattle.std.specs.Int.Signed.{le_z}
use Rattle.lists.specs.Tests.{T-&&, every, every_append}
use Rattle.rules.specs.Numbers.{minus, space, newline, word, after_word, is_digit_of, signed, digits, starts_right_of, begins_number, is_number, number_of}
use Rattle.rules.specs.Numbers.{Read, got, fault, then_read, judged, read_word, read_separator, field, between}
use Rattle.rules.specs.Sheets.{always}
use Rattle.rules.specs.Batch.{SheetLine as ReadLine, no_tally, read_size, read_after_client, read_sheet_line}
use Rattle.tokens.specs.Exact.{fault-got}
use Rattle.tokens.specs.Windows.{followed, number_line, batch_line, Taken, word-unended, word-whole, begins-short, separated, field_is}
use Rattle.tokens.specs.Windows.{field-unbegun, field-ended, field-got-longer, field-taken, count_of, client_of, sheet_line-is}
use Rattle.tokens.specs.Windows.{sheet_line-got-longer}
use Rattle.frames.specs.Pieces.{read_count, batch_with, begun_by, begun_of, line_by, line_of}

fault-inj : {A : Type 0} (m n : ℕ) → ◌≡◌ {A = Read A} (fault m) (fault n) → m ≡ n
fault-inj m n e = cc

got_fault : {A : Type 0} (a : A) (l : List ℕ) (n : ℕ) → ◌≡◌ {A = Read A} (got a l) (fault n) → ⊥
got_fault a l n e = fault-got n a l (sym e)

-- ---- what begins a number

digits-front : (b : ℕ) (w x : List ℕ) → digits (b ∷ (w ++ x)) ≡ digits (b ∷ w) ++ x
unfolding digits signed
digits-front b w x = go (eqb b minus)
  where
    go : (t : Bool) → cond t (drop 1 (b ∷ (w ++ x))) (b ∷ (w ++ x)) ≡ cond t (drop 1 (b ∷ w)) (b ∷ w) ++ x
    go true = refl
    go false = refl

right-front : (sign : Bool) (ds x : List ℕ) → T (starts_right_of sign (ds ++ x)) → T (starts_right_of sign ds)
unfolding starts_right_of
right-front sign [] x h = tt
right-front sign (d ∷ ds) x h = go (eqb d 48) sign ds h
  where
    go : (t sign : Bool) (ds : List ℕ) → T (not t || (not sign && eqb (length (ds ++ x)) 0)) → T (not t || (not sign && eqb (length ds) 0))
    go false sign ds h = tt
    go true true ds h = h
    go true false [] h = tt
    go true false (e ∷ ds) h = absurd (omega (arith, eqb→eq (suc (length (ds ++ x))) 0 h))

pub begins-front : (w x : List ℕ) → T (begins_number (w ++ x)) → T (begins_number w)
unfolding begins_number signed digits every starts_right_of
begins-front [] x h = tt
begins-front (b ∷ w) x h = go (digits (b ∷ w)) (subst (λ ds. T (form ds)) (digits-front b w x) h)
  where
    form : List ℕ → Bool
    form ds = every is_digit_of ds && leb (length ds) 10 && starts_right_of (eqb b minus) ds

    go : (ds : List ℕ) → T (form (ds ++ x)) → T (form ds)
    go ds h =
        let both = (T-&& (every is_digit_of (ds ++ x) && leb (length (ds ++ x)) 10) (starts_right_of (eqb b minus) (ds ++ x))).0 h in
        let few = (T-&& (every is_digit_of (ds ++ x)) (leb (length (ds ++ x)) 10)).0 both.0 in
        let all = ((T-&& (every is_digit_of ds) (every is_digit_of x)).0 (subst T (every_append is_digit_of ds x) few.0)).0 in
        let short : length ds ≤ 10 = omega (arith, leb→le (length (ds ++ x)) 10 few.1, length-append ds x) in
        (T-&& (every is_digit_of ds && leb (length ds) 10) (starts_right_of (eqb b minus) ds)).1
        ((T-&& (every is_digit_of ds) (leb (length ds) 10)).1 (all, le→leb (length ds) 10 short), right-front (eqb b minus) ds x both.1)

-- ---- a number with its separator

module _ (judge follow : ℤ → ℕ) where
  -- Bytes that end before the separator are 4 where they could begin a number, 3 where not (SCOPE 4.32).
  field-unended : (w : List ℕ) → length (after_word w) ≡ 0 → field judge follow w ≡ fault (cond (begins_number w) 4 3)
  unfolding read_word then_read
  field-unended w h = field_is judge follow w ∙ go (after_word w) h ∙ ap (λ v. fault (cond (begins_number v) 4 3)) (word-whole w h)
    where
      go : (after : List ℕ) → length after ≡ 0
          → then_read (read_word judge (word w) after) (separated judge follow) ≡ fault (cond (begins_number (word w)) 4 3)
      go [] h = refl
      go (b ∷ after) h = absurd (omega arith)

  pub field-fault-longer : (w x : List ℕ) (n : ℕ) → field judge follow w ≡ fault n → n ≢ 4 → field judge follow (w ++ x) ≡ fault n
  unfolding followed
  field-fault-longer w x n e other = go (length (after_word w)) refl
    where
      -- No longer token can begin a number where these bytes cannot.
      unended : length (after_word w) ≡ 0 → (t : Bool) → (T (begins_number w) → T t) → ◌≡◌ {A = Read ℤ} (fault (cond t 4 3)) (fault n)
          → field judge follow (w ++ x) ≡ fault n
      unended z true i same = absurd (other (sym (fault-inj 4 n same)))
      unended z false i same =
          field-unbegun judge follow (w ++ x) (λ b. i (begins-front w (word x) (subst (λ l. T (begins_number l)) (word-unended w x z) b)))
          ∙ same

      go : (k : ℕ) → length (after_word w) ≡ k → field judge follow (w ++ x) ≡ fault n
      go zero z = unended z (begins_number w) (λ b. b) (sym (field-unended w z) ∙ e)
      go (suc k) z = field-ended judge follow w x (omega arith) ∙ ap (λ r. followed r x) e

  -- Where no judgement is 4, only a missing separator is.
  pub field-early : ((v : ℤ) → judge v ≢ 4) → (w : List ℕ) → field judge follow w ≡ fault 4 → length w < number_line
  unfolding read_word then_read judged separated read_separator
  field-early fair w e = go (length (after_word w)) refl
    where
      unended : (t : Bool) → (T t → length w < number_line) → ◌≡◌ {A = Read ℤ} (fault (cond t 4 3)) (fault 4) → length w < number_line
      unended true short same = short tt
      unended false short same = absurd (omega (arith, fault-inj 3 4 same))

      separator : (t : Bool) (v : ℤ) (after : List ℕ) → cond t (got v after) (fault 3) ≡ fault 4 → ⊥
      separator true v after same = got_fault v after 4 same
      separator false v after same = omega (arith, fault-inj 3 4 same)

      number : (t : Bool) (n : ℕ) → n ≢ 4 → (v : ℤ) (b : ℕ) (after : List ℕ)
          → then_read (cond t (judged n v (b ∷ after)) (fault 3)) (separated judge follow) ≡ fault 4 → ⊥
      number true zero h v b after same = separator (eqb b (follow v)) v after same
      number true (suc n) h v b after same = h (fault-inj (suc n) 4 same)
      number false n h v b after same = omega (arith, fault-inj 3 4 same)

      ended : (after : List ℕ) → 1 ≤ length after → then_read (read_word judge (word w) after) (separated judge follow) ≡ fault 4 → ⊥
      ended [] h same = omega arith
      ended (b ∷ after) h same = number (is_number (word w)) (judge (number_of (word w))) (fair _) (number_of (word w)) b after same

      go : (k : ℕ) → length (after_word w) ≡ k → length w < number_line
      go zero z = unended (begins_number w) (begins-short w) (sym (field-unended w z) ∙ e)
      go (suc k) z = absurd (ended (after_word w) (omega arith) (sym (field_is judge follow w) ∙ e))

-- A range is told by 2.
between-other : (low high v : ℤ) → between low high v ≢ 4
unfolding between
between-other low high v = go (le_z low v && le_z v high)
  where
    go : (t : Bool) → ◌≢◌ {A = ℕ} (cond t 0 2) 4
    go true e = omega arith
    go false e = omega arith

-- ---- the line of a sheet

pub sheet_line-fault-longer : (w x : List ℕ) (n : ℕ) → read_sheet_line w ≡ fault n → n ≢ 4 → read_sheet_line (w ++ x) ≡ fault n
unfolding read_after_client read_size
sheet_line-fault-longer w x n e other = sheet_line-is (w ++ x) ∙ client (client_of w) refl (sym (sheet_line-is w) ∙ e)
  where
    size : (k : ℤ) (more : List ℕ) (r : Read ℤ) → count_of more ≡ r → read_size k r ≡ fault n → read_size k (count_of (more ++ x)) ≡ fault n
    size k more (got m after) d e = absurd (got_fault _ after n e)
    size k more (fault m) d e =
        ap (read_size k) (field-fault-longer (between (pos 0) (pos 32768)) (always newline) more x n (d ∙ ap fault (fault-inj m n e)) other)

    client : (r : Read ℤ) → client_of w ≡ r → read_after_client r ≡ fault n → read_after_client (client_of (w ++ x)) ≡ fault n
    client (got k more) c e = ap read_after_client (field-got-longer (between (pos 1) (pos 8)) (always space) w x k more c) ∙ size k more (count_of more) refl e
    client (fault m) c e = ap read_after_client (field-fault-longer (between (pos 1) (pos 8)) (always space) w x n (c ∙ ap fault (fault-inj m n e)) other)

pub sheet_line-early : (w : List ℕ) → read_sheet_line w ≡ fault 4 → length w < batch_line
unfolding read_after_client read_size
sheet_line-early w e = client (client_of w) refl (sym (sheet_line-is w) ∙ e)
  where
    size : (k : ℤ) (more : List ℕ) (r : Read ℤ) → count_of more ≡ r → read_size k r ≡ fault 4 → length more < number_line
    size k more (got m after) d e = absurd (got_fault _ after 4 e)
    size k more (fault m) d e = field-early (between (pos 0) (pos 32768)) (always newline) (between-other (pos 0) (pos 32768)) more (d ∙ ap fault (fault-inj m 4 e))

    client : (r : Read ℤ) → client_of w ≡ r → read_after_client r ≡ fault 4 → length w < batch_line
    client (got k more) c e = long (field-taken (between (pos 1) (pos 8)) (always space) w k more c) (size k more (count_of more) refl e)
      where
        long : Taken number_line w more → length more < number_line → length w < batch_line
        long t h = omega (arith, t.few, ap length t.whole, length-append t.front more)
    client (fault m) c e = omega (arith, field-early (between (pos 1) (pos 8)) (always space) (between-other (pos 1) (pos 8)) w (c ∙ ap fault (fault-inj m 4 e)))

-- ---- what is told of a line

-- As many bytes are taken.
taken-longer : (w rest x : List ℕ) → length (w ++ x) - length (rest ++ x) ≡ length w - length rest
taken-longer w rest x = omega (arith, length-append w x, length-append rest x)

pub begun-longer : (w x : List ℕ) → (begun_of w).refusal ≢ 4 → begun_of (w ++ x) ≡ begun_of w
unfolding begun_of begun_by read_count
begun-longer w x other = go (read_count w) refl other
  where
    go : (r : Read ℤ) → read_count w ≡ r → (begun_by w r).refusal ≢ 4 → begun_by (w ++ x) (read_count (w ++ x)) ≡ begun_by w r
    go (got k rest) e other =
        ap (begun_by (w ++ x)) (field-got-longer (between (pos 0) (pos 1000)) (always newline) w x k rest e)
        ∙ ap (λ n. record { refusal = 0; taken = n; batch = batch_with (nat_abs k) no_tally }) (taken-longer w rest x)
    go (fault n) e other = ap (begun_by (w ++ x)) (field-fault-longer (between (pos 0) (pos 1000)) (always newline) w x n e other)

pub line-longer : (w x : List ℕ) → (line_of w).refusal ≢ 4 → line_of (w ++ x) ≡ line_of w
unfolding line_of line_by
line-longer w x other = go (read_sheet_line w) refl other
  where
    go : (r : Read ReadLine) → read_sheet_line w ≡ r → (line_by w r).refusal ≢ 4 → line_by (w ++ x) (read_sheet_line (w ++ x)) ≡ line_by w r
    go (got v rest) e other =
        ap (line_by (w ++ x)) (sheet_line-got-longer w x v rest e)
        ∙ ap (λ n. record { refusal = 0; taken = n; client = v.client; bytes = v.bytes }) (taken-longer w rest x)
    go (fault n) e other = ap (line_by (w ++ x)) (sheet_line-fault-longer w x n e other)

pub begun-early : (w : List ℕ) → (begun_of w).refusal ≡ 4 → length w < batch_line
unfolding begun_of begun_by read_count
begun-early w z = go (read_count w) refl z
  where
    go : (r : Read ℤ) → read_count w ≡ r → (begun_by w r).refusal ≡ 4 → length w < batch_line
    go (got k rest) e z = absurd (omega arith)
    go (fault n) e z = omega (arith, field-early (between (pos 0) (pos 1000)) (always newline) (between-other (pos 0) (pos 1000)) w (e ∙ ap fault z))

pub line-early : (w : List ℕ) → (line_of w).refusal ≡ 4 → length w < batch_line
unfolding line_of line_by
line-early w z = go (read_sheet_line w) refl z
  where
    go : (r : Read ReadLine) → read_sheet_line w ≡ r → (line_by w r).refusal ≡ 4 → length w < batch_line
    go (got v rest) e z = absurd (omega arith)
    go (fault n) e z = sheet_line-early w (e ∙ ap fault z)
