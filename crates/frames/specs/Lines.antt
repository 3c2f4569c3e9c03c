-- What the functions that read and write the lines of a batch go by.
--
-- Main definitions
--   pair_bytes, tally_bytes                 the bytes that the line of a client can take, and the lines of all
--   lines_from y i                         the lines of the clients from a place on
--
-- Main statements
--   window-of                             the first 24 bytes are a window
--   begun-refused, begun-read             a batch's first line, by what the window gives
--   line-no-client, line-no-size, line_read   the line of a sheet, by what the window gives at its two numbers
--   in-range                              a number that was read is not negative
--   text-put, text-count, text-tally      lines that were stored in 192 zeros: one number, and the tally
--   raised-no-client, raised-past, raised-full, raised-more   one more for a client, by the tests
--   stays-empty, counts-accepted, counts-refused   the batch after one more answer, by the tests
--   close-left, close-over, close-accepted, close-refused, close-tally   the last lines, by the tests
--   two-numbers, lines_next, lines_end    the line of a client, and the lines of all, one by one
--   tally-short                           of at most 1,000 sheets the lines of all clients have at most 192 bytes
use Prim.Native.Nat.{ℕ, zero, suc, pred, ◌+◌, ◌-◌, ◌*◌, ◌≤◌, ◌<◌, zero-le}
use Rattle.std.proofs.Common.{zero-add, le_refl, le_of_lt, add-one, ◌∙◌, subst, inl, inr, leb→le, length-append, length-drop, take-append-drop, drop_of_length-le, length-take-le}
use Rattle.std.proofs.Math.Numerals.{sub-one}
use native.Mathlib.Omega.{arith}
use Rattle.std.specs.Prelude.{◌≡◌, ◌≢◌, ◌⊎◌, Bool, not, T, leb, eqb, take, drop, get_or, set, replicate, ℤ, pos}
use Rattle.std.proofs.Math.Path.{refl, sym, ap}
use Rattle.std.proofs.Math.Bool.{true, false, cond}
use mathlib.Core.List.{List, [], ◌∷◌, ◌++◌, map, flatten, append-nil, append_assoc}
use borrow.Author.Tests.{le-leb, lt-leb, le-ltb, eq-eqb}
use Rattle.std.proofs.Math.Dec.{nleb→lt}
use Rattle.std.proofs.Math.ListN.{length}
use Rattle.std.proofs.lemmas.List.{length-replicate}
use Rattle.std.proofs.lemmas.List.Edits.{sets, sets-eq}
use Rattle.std.proofs.Math.IntN.{nat_abs}
use Rattle.std.specs.Int.Signed.{non_neg}
use Rattle.rules.specs.Numbers.{space, newline, line, lines, decimal, got, fault, field, between}
use Rattle.rules.specs.Sheets.{always}
use Rattle.lists.specs.Overwritten.{overwrite}
use Rattle.lists.specs.Totals.{total, get_or-total}
use Rattle.algebra.specs.Sums.{count_from}
use Rattle.rules.specs.Batch.{Tally, no_tally, client_count, one_more_of, client_line, tally_lines}
use Rattle.rules.specs.Batch.{closing_by, closing, broken, read_size, read_after_client, read_sheet_line}
use Rattle.tokens.specs.Fields.{field-judged, between-zero}
use Rattle.tokens.specs.WrittenNumbers.{is_number-decimal}
use Rattle.number_texts.specs.Runs.{Put}
use Rattle.number_texts.specs.Texts.{digits_of}
use Rattle.lists.specs.Tests.{first-failed, second-failed, both-passed}
use Rattle.frames.specs.declared.Batch.{Batch}
use Rattle.frames.specs.declared.SheetLine.{SheetLine}
use Rattle.tokens.specs.Windows.{number_line, batch_line, followed, Window, field-window, sheet_line-window}
use Rattle.tokens.specs.Windows.{count_of, client_of, sheet_line-is, number_short}
use Rattle.frames.specs.Pieces.{read_count, batch_with, begun_of, begun_by, line_of, line_by, tally_of, numbered, raises, raised_of}
use Rattle.frames.specs.Pieces.{counted_by, counted_of, accepted_in, refused_in, raised_is, counted_is, text_room, text_of, refusal_line_of}
use Rattle.frames.specs.Pieces.{closeable, close_text, closed_is, refusal-broken, close-broken}

-- ---- the window

pub window-of : {w : List ℕ} (bytes : List ℕ) → w ≡ take batch_line bytes → Window w bytes
window-of bytes e =
    subst (λ l. Window l bytes) (sym e)
    (record {
      beyond = drop batch_line bytes;
      joined = take-append-drop batch_line bytes;
      enough = go (leb batch_line (length bytes)) (leb→le _ _) (nleb→lt _ _);
    })
  where
    go : (t : Bool) → (T t → batch_line ≤ length bytes) → (T (not t) → length bytes < batch_line)
        → (batch_line ≤ length (take batch_line bytes)) ⊎ (drop batch_line bytes ≡ [])
    go true long short = inl (rw (length-take-le batch_line bytes (long tt)) (le_refl batch_line))
    go false long short = inr (drop_of_length-le bytes (le_of_lt (short tt)))

-- The bytes taken are counted in all bytes as they are in the window.
taken_in : (w bytes : List ℕ) (v : Window w bytes) (at : ℕ) → at ≤ length w → length bytes - length (drop at w ++ v.beyond) ≡ at
taken_in w bytes v at h =
    rw (length-append, length-drop) (omega (arith, simp length-append at (ap length v.joined)))

module _ {w bytes : List ℕ} (v : Window w bytes) where
  -- ---- the first line

  pub begun-refused : (n : ℕ) → read_count w ≡ fault n → record { refusal = n; taken = 0; batch = batch_with 0 no_tally } ≡ begun_of bytes
  unfolding begun_of begun_by followed read_count
  begun-refused n e = sym (ap (begun_by bytes) (field-window (between (pos 0) (pos 1000)) (always newline) w bytes v ∙ ap (λ r. followed r v.beyond) e))

  pub begun-read : (k : ℤ) (at : ℕ) → read_count w ≡ got k (drop at w) → at ≤ length w
      → record { refusal = 0; taken = at; batch = batch_with (nat_abs k) no_tally } ≡ begun_of bytes
  unfolding begun_of begun_by followed read_count
  begun-read k at e h =
      sym
      (ap (begun_by bytes) (field-window (between (pos 0) (pos 1000)) (always newline) w bytes v ∙ ap (λ r. followed r v.beyond) e)
      ∙ ap (λ n. record { refusal = 0; taken = n; batch = batch_with (nat_abs k) no_tally }) (taken_in w bytes v at h))

  -- ---- the line of a sheet

  abbrev no_line_of : ℕ → SheetLine
  no_line_of n = record { refusal = n; taken = 0; client = 0; bytes = 0 }

  unread : (n : ℕ) → read_sheet_line w ≡ fault n → no_line_of n ≡ line_of bytes
  unfolding line_of line_by followed
  unread n e = sym (ap (line_by bytes) (sheet_line-window w bytes v ∙ ap (λ r. followed r v.beyond) e))

  pub line-no-client : (n : ℕ) → client_of w ≡ fault n → no_line_of n ≡ line_of bytes
  unfolding read_after_client
  line-no-client n e = unread n (sheet_line-is w ∙ ap read_after_client e)

  module _ (c : ℤ) (rest : List ℕ) (client : client_of w ≡ got c rest) where
    after-client : read_sheet_line w ≡ read_size c (count_of rest)
    unfolding read_after_client
    after-client = sheet_line-is w ∙ ap read_after_client client

    pub line-no-size : (n : ℕ) → count_of rest ≡ fault n → no_line_of n ≡ line_of bytes
    unfolding read_size
    line-no-size n e = unread n (after-client ∙ ap (read_size c) e)

    pub line_read : (s : ℤ) (at : ℕ) → count_of rest ≡ got s (drop at w) → at ≤ length w
        → record { refusal = 0; taken = at; client = nat_abs c; bytes = nat_abs s } ≡ line_of bytes
    unfolding line_of line_by followed read_size
    line_read s at e h =
        sym
        (ap (line_by bytes)
        (sheet_line-window w bytes v ∙ ap (λ r. followed r v.beyond) (after-client ∙ ap (read_size c) e))
        ∙ ap (λ n. record { refusal = 0; taken = n; client = nat_abs c; bytes = nat_abs s }) (taken_in w bytes v at h))

-- A number in the range of a line is not negative, and its size is in the range.
pub in-range : (low high separator : ℕ) (bytes : List ℕ) (v : ℤ) (rest : List ℕ)
    → field (between (pos low) (pos high)) (always separator) bytes ≡ got v rest → T (non_neg v) × (low ≤ nat_abs v) × (nat_abs v ≤ high)
in-range low high separator bytes v rest e = between-zero low high v
    (field-judged (between (pos low) (pos high)) (always separator) bytes e)

-- ---- lines that are written

-- Lines that were stored from the start of 192 zeros on.
pub text-put : (l bytes : List ℕ) (n : ℕ) → length l ≤ text_room → bytes ≡ sets (replicate text_room 0) 0 l → n ≡ 0 + length l
    → record { bytes = bytes; length = n } ≡ text_of l
unfolding text_of overwrite
text-put l bytes n h e f = λ i. record { bytes = stored i; length = size i }
  where
    size : n ≡ length l
    size = f ∙ zero-add (length l)

    stored : bytes ≡ l ++ drop (length l) (replicate text_room 0)
    stored =
        e ∙ sets-eq l (replicate text_room 0) 0 (rw (zero-add (length l), length-replicate) h)
        ∙ ap (λ k. l ++ drop k (replicate text_room 0)) (zero-add (length l))

-- ---- counting

module _ (client : ℕ) (counts : List ℕ) where
  unraised : raises client counts ≡ false → counts ≡ raised_of client counts
  unfolding raised_of
  unraised e = sym (ap (λ t. cond t (one_more_of client counts) counts) e)

  pub raised-no-client : client < 1 → counts ≡ raised_of client counts
  unfolding raises
  raised-no-client h = unraised (sym (first-failed (leb 1 client) _ _ (lt-leb 1 client h)))

  pub raised-past : 1 ≤ client → client_count < client → counts ≡ raised_of client counts
  unfolding raises
  raised-past low h =
      unraised (sym (second-failed (leb 1 client) _ _ (le-leb 1 client low) (lt-leb client client_count h)))

  module _ (low : 1 ≤ client) (high : client ≤ client_count) where
    pub raised-full : 1000 ≤ get_or counts (client - 1) 0 → counts ≡ raised_of client counts
    unfolding raises
    raised-full h =
        unraised
        (sym (both-passed (leb 1 client) (leb client client_count) _ (le-leb 1 client low) (le-leb client client_count high))
        ∙ le-ltb (get_or counts (pred client) 0) 1000 (rw sub-one at h))

    pub raised-more : get_or counts (client - 1) 0 < 1000
        → set counts (client - 1) (get_or counts (client - 1) 0 + 1) ≡ raised_of client counts
    unfolding one_more_of
    raised-more h =
        rw (add-one, sub-one) refl ∙ sym (raised_is client counts low high (rw sub-one at h))

module _ (b : Batch) (client n : ℕ) where
  pub stays-empty : b.left ≡ 0 → b ≡ counted_of b client n
  unfolding counted_of
  stays-empty e = rw (le-ltb 0 b.left (omega arith))

  module _ (some : b.left ≢ 0) where
    pub counts-accepted : n ≡ 0 → (counts : List ℕ) → counts ≡ raised_of client b.accepted
        → record { left = b.left - 1; accepted = counts; refused = b.refused } ≡ counted_of b client n
    unfolding counted_by numbered
    counts-accepted z counts e =
        (λ i. record { left = sub-one b.left i; accepted = e i; refused = b.refused })
        ∙ sym (counted_is b client n some ∙ ap (λ n. counted_by (numbered n) client b) z)

    pub counts-refused : n ≢ 0 → (counts : List ℕ) → counts ≡ raised_of client b.refused
        → record { left = b.left - 1; accepted = b.accepted; refused = counts } ≡ counted_of b client n
    unfolding counted_by numbered
    counts-refused z counts e =
        (λ i. record { left = sub-one b.left i; accepted = b.accepted; refused = e i })
        ∙ sym (counted_is b client n some ∙ go n z)
      where
        go : (n : ℕ) → n ≢ 0
            → counted_by (numbered n) client b
            ≡ record { left = pred b.left; accepted = b.accepted; refused = raised_of client b.refused }
        go zero z = absurd (z refl)
        go (suc n) z = refl

-- ---- the last lines

module _ (b : Batch) (over : ℕ) where
  -- The batch is not closed with its tally.
  unclosed : closeable b ≡ false → refusal_line_of 3 ≡ close_text b over
  unfolding close_text
  unclosed e = refusal-broken ∙ sym (ap (λ t. cond t (closing (tally_of b) (replicate over 0)) broken) e)

  pub close-left : b.left ≢ 0 → refusal_line_of 3 ≡ close_text b over
  close-left h = refusal-broken ∙ sym (close-broken b over h)

  pub close-accepted : b.left ≡ 0 → 1000 < accepted_in b → refusal_line_of 3 ≡ close_text b over
  unfolding closeable
  close-accepted none h =
      unclosed (sym (second-failed (eqb b.left 0) _ _ (eq-eqb b.left 0 none) (lt-leb (accepted_in b) 1000 h)))

  pub close-refused : b.left ≡ 0 → accepted_in b ≤ 1000 → 1000 < refused_in b → refusal_line_of 3 ≡ close_text b over
  unfolding closeable
  close-refused none few h =
      unclosed
      (sym (both-passed (eqb b.left 0) (leb (accepted_in b) 1000) _ (eq-eqb b.left 0 none) (le-leb (accepted_in b) 1000 few))
      ∙ lt-leb (refused_in b) 1000 h)

  pub close-over : over ≢ 0 → refusal_line_of 3 ≡ close_text b over
  unfolding close_text closing_by
  close-over h = refusal-broken ∙ sym (go (closeable b) over h)
    where
      go : (t : Bool) (over : ℕ) → over ≢ 0 → cond t (closing (tally_of b) (replicate over 0)) broken ≡ broken
      go t zero h = absurd (h refl)
      go true (suc k) h = refl
      go false (suc k) h = refl

  pub close-tally : b.left ≡ 0 → over ≡ 0 → accepted_in b ≤ 1000 → refused_in b ≤ 1000
      → lines (tally_lines (record { accepted = b.accepted; refused = b.refused })) ≡ close_text b over
  unfolding closing_by tally_of
  close-tally none z few few' = sym (closed_is b over none few few' ∙ ap (λ n. closing (tally_of b) (replicate n 0)) z)

-- ---- what the writer of numbers leaves

-- One number alone on a line.
pub text-count : (n : ℕ) (bytes : List ℕ) (r : ℕ) → Put (replicate text_room 0) 0 (line (pos n ∷ [])) 21 bytes r
    → record { bytes = bytes; length = r } ≡ text_of (refusal_line_of n)
unfolding refusal_line_of lines flatten
text-count n bytes r p =
    text-put (line (pos n ∷ [])) bytes r (omega (arith, p.few)) p.stored p.passed ∙ ap text_of (sym (append-nil (line (pos n ∷ []))))

-- ---- the tally

-- The bytes of two numbers of 64 bits with a space between them, and of a line of them for each client.
abbrev pub pair_bytes : ℕ
pair_bytes = 42

abbrev pub tally_bytes : ℕ
tally_bytes = 336

-- Two numbers on a line.
pub two-numbers : (a b : ℕ) → (digits_of a ++ (space ∷ [])) ++ line (pos b ∷ []) ≡ line (pos a ∷ pos b ∷ [])
unfolding digits_of line decimal
two-numbers a b = append_assoc (digits_of a) (space ∷ []) (line (pos b ∷ []))

abbrev pub lines_from : Tally → ℕ → List ℕ
lines_from y i = lines (map (client_line y) (count_from i (client_count - i)))

pub lines_next : (y : Tally) (i : ℕ) → i < client_count → lines_from y i ≡ line (client_line y i) ++ lines_from y (i + 1)
unfolding lines flatten count_from
lines_next y i h =
    let more : client_count - i ≡ suc (client_count - (i + 1)) = omega arith in
    ap (λ k. lines (map (client_line y) (count_from i k))) more
    ∙ ap (λ k. line (client_line y i) ++ lines (map (client_line y) (count_from k (client_count - (i + 1))))) (sym (add-one i))

pub lines_end : (y : Tally) (i : ℕ) → client_count ≤ i → lines_from y i ≡ []
unfolding lines flatten count_from
lines_end y i h =
    let none : client_count - i ≡ 0 = omega arith in
    ap (λ k. lines (map (client_line y) (count_from i k))) none

-- ---- how long the lines are

short-decimal : (n : ℕ) → n ≤ 1000 → length (decimal (pos n)) < number_line
short-decimal n h = number_short (decimal (pos n)) (is_number-decimal (pos n) (omega arith))

two-short : (a b : ℕ) → a ≤ 1000 → b ≤ 1000 → length (line (pos a ∷ pos b ∷ [])) ≤ batch_line
unfolding line
two-short a b h i =
    simp length-append (omega (arith, short-decimal a h, short-decimal b i))

both-short : (l m : List ℕ) (a b : ℕ) → length l ≤ a → length m ≤ b → length (l ++ m) ≤ a + b
both-short l m a b h i = rw length-append (omega arith)

module _ (y : Tally) (few : total y.accepted ≤ 1000) (few' : total y.refused ≤ 1000) where
  lines-short : (n i : ℕ) → length (lines (map (client_line y) (count_from i n))) ≤ n * batch_line
  unfolding lines flatten count_from
  lines-short zero i = zero-le
  lines-short (suc n) i =
      let first =
      two-short (get_or y.accepted i 0) (get_or y.refused i 0) (omega (arith, get_or-total y.accepted i))
      (omega (arith, get_or-total y.refused i)) in
      let h : length (line (client_line y i) ++ lines (map (client_line y) (count_from (suc i) n))) ≤ batch_line + n * batch_line =
      both-short (line (client_line y i)) _ batch_line (n * batch_line) first (lines-short n (suc i)) in
      omega arith

  pub tally-short : length (lines (tally_lines y)) ≤ text_room
  unfolding tally_lines
  tally-short = lines-short client_count 0

  pub text-tally : (bytes : List ℕ) (r : ℕ) → Put (replicate text_room 0) 0 (lines (tally_lines y)) tally_bytes bytes r
      → record { bytes = bytes; length = r } ≡ text_of (lines (tally_lines y))
  text-tally bytes r p = text-put (lines (tally_lines y)) bytes r tally-short p.stored p.passed
