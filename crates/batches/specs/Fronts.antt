-- A line is read as soon as its bytes are there: where the bytes held give none, the line that more bytes give ends beyond
-- them.
--
-- Main definitions
--   Front read bytes v rest     the bytes that were read, which are read alike with any bytes after them
--
-- Main statements
--   begun-beyond, line-beyond   a line that was not read of the bytes held goes beyond them
use Rattle.std.specs.Prelude.{ℕ, ◌-◌, ◌≤◌, ◌<◌, ◌^◌, ◌≡◌, refl, ◌≢◌, Bool, true, false, List, [], ◌∷◌, ◌++◌, T, leb, ℤ, pos, length, take, drop}
use Rattle.std.proofs.Common.{arith, sym, ◌∙◌, ap, append_assoc, leb-true, leb-false, length-append, take-append-drop, take_at}
use Rattle.std.proofs.lemmas.List.{take-append-le}
use Rattle.rules.specs.Numbers.{space, newline, is_separator_of, decimal, Read, got, fault, field, between}
use Rattle.rules.specs.Sheets.{always}
use Rattle.rules.specs.Batch.{read_size, read_after_client, read_sheet_line}
use Rattle.tokens.specs.Fields.{between-zero}
use Rattle.tokens.specs.Exact.{got-inj, fault-got, field-exact}
use Rattle.tokens.specs.Windows.{count_of, client_of, sheet_line-is}
use Rattle.frames.specs.Pieces.{read_count, begun_of, begun_by, line_of, line_by, begun-got, line-got, begun-fault, line-fault}

pub record Front {A : Type 0} (read : List ℕ → Read A) (bytes : List ℕ) (a : A) (rest : List ℕ) : Type 0 where
  pub front : List ℕ
  pub whole : bytes ≡ front ++ rest
  pub alike : (x : List ℕ) → read (front ++ x) ≡ got a x

abbrev Fronts : {A : Type 0} → (List ℕ → Read A) → Type 0
Fronts {A} read = (bytes : List ℕ) (a : A) (rest : List ℕ) → read bytes ≡ got a rest → Front read bytes a rest

-- A number in a range, with its separator.
range_front : (low high separator : ℕ) → high < 10 ^ 10 → T (is_separator_of separator)
    → Fronts (field (between (pos low) (pos high)) (always separator))
unfolding always
range_front low high separator h parted bytes a rest e =
    let exact = field-exact (between (pos low) (pos high)) (always separator)
    (λ a z. omega (arith, (between-zero low high a z).2)) (λ a. parted) in
    let (good, same) = exact.written_read bytes a rest e in
    record { front = decimal a ++ (separator ∷ []); whole = same; alike = λ x. exact.read-written a x good }

count-front : Fronts read_count
unfolding read_count is_separator_of
count-front = range_front 0 1000 newline (omega arith) tt

line-front : Fronts read_sheet_line
unfolding read_after_client read_size is_separator_of
line-front bytes v rest e = client (client_of bytes) refl (sym (sheet_line-is bytes) ∙ e)
  where
    size : (k : ℤ) (more : List ℕ) → client_of bytes ≡ got k more → (r : Read ℤ) → count_of more ≡ r
        → read_size k r ≡ got v rest → Front read_sheet_line bytes v rest
    size k more c (got n after) d e =
        let s = range_front 1 8 space (omega arith) tt bytes k more c in
        let t = range_front 0 32768 newline (omega arith) tt more n after d in
        let (same, ends) = got-inj _ v after rest e in
        record {
          front = s.front ++ t.front;
          whole =
              s.whole ∙ ap (λ l. s.front ++ l) (t.whole ∙ ap (λ l. t.front ++ l) ends)
              ∙ sym (append_assoc s.front t.front rest);
          alike = λ x.
              ap read_sheet_line (append_assoc s.front t.front x) ∙ sheet_line-is _
              ∙ ap read_after_client (s.alike (t.front ++ x)) ∙ ap (read_size k) (t.alike x) ∙ ap (λ v. got v x) same;
        }
    size k more c (fault n) d e = absurd (fault-got n v rest e)

    client : (r : Read ℤ) → client_of bytes ≡ r → read_after_client r ≡ got v rest → Front read_sheet_line bytes v rest
    client (got k more) c e = size k more c (count_of more) refl e
    client (fault n) c e = absurd (fault-got n v rest e)

-- What is read of more bytes, and not of those held, takes more than those.
beyond : {A : Type 0} (read : List ℕ → Read A) → Fronts read → (held y : List ℕ) (n : ℕ) (a : A) (rest : List ℕ)
    → read held ≡ fault n → read (held ++ y) ≡ got a rest → length held < length (held ++ y) - length rest
beyond read fronts held y n a rest none e = go (leb (length s.front) (length held)) (leb-true _ _) (leb-false _ _)
  where
    s : Front read (held ++ y) a rest
    s = fronts (held ++ y) a rest e

    k : ℕ
    k = length s.front

    -- The bytes that were read, if they are held.
    begun : k ≤ length held → held ≡ s.front ++ drop k held
    begun h =
        sym (take-append-drop k held)
        ∙ ap (λ l. l ++ drop k held)
        (sym (take-append-le k held y h) ∙ ap (take k) s.whole ∙ take_at s.front rest k refl)

    go : (t : Bool) → (t ≡ true → k ≤ length held) → (t ≡ false → length held < k)
        → length held < length (held ++ y) - length rest
    go true h i = absurd (fault-got n a (drop k held) (sym none ∙ ap read (begun (h refl)) ∙ s.alike (drop k held)))
    go false h i = omega (arith, i refl, ap length s.whole, length-append s.front rest)

pub begun-beyond : (held y : List ℕ) → (begun_of held).refusal ≢ 0 → (begun_of (held ++ y)).refusal ≡ 0
    → length held < (begun_of (held ++ y)).taken
unfolding begun_of begun_by
begun-beyond held y h z =
    let (k, rest, e, d, same) = begun-got (held ++ y) z in
    rw e (beyond read_count count-front held y _ k rest (begun-fault held h) e)

pub line-beyond : (held y : List ℕ) → (line_of held).refusal ≢ 0 → (line_of (held ++ y)).refusal ≡ 0
    → length held < (line_of (held ++ y)).taken
unfolding line_of line_by
line-beyond held y h z =
    let (v, rest, e, d, client, size) = line-got (held ++ y) z in
    rw e (beyond read_sheet_line line-front held y _ v rest (line-fault held h) e)
