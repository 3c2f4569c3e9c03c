-- The lines of equations and relations alike: records of a store, whose rows stand behind their first `skip` numbers, none or n0.
--
-- Main definitions
--   record_start skip part n   how a record's line begins: with the number n of its terms, behind n0 where it has that
--   start_bytes, start_room    how many bytes that takes at most, and how far below 2 ^ 64 the place has to be
--   record_line, record_lines   a record's line, and those of the first records of a store
--
-- Main statements
--   start-behind      how a line behind n0 begins
--   record-line       a record's line, as it is written
--   equation-lines, relation-lines   those of equations, and of relations
--   records-next, records-last   one line more, and the last
use Rattle.std.specs.Prelude.{◌≡◌, ◌≢◌, refl, ℕ, zero, suc, ◌+◌, ◌-◌, ◌*◌, ◌≤◌, ◌<◌, ℤ, pos, take, drop, get_or}
use Rattle.std.proofs.Common.{sym, ◌∙◌, ap, add-mul, arith}
use mathlib.Core.List.{List, [], ◌∷◌, ◌++◌, map, flatten, append_assoc, map-map}
use Rattle.lists.specs.Parts.{parts, parts_next, parts-end}
use Rattle.rules.specs.Limits.{row_length}
use Rattle.rules.specs.Layout.{polynomials_in}
use Rattle.rules.specs.Numbers.{newline, decimal, line, lines}
use Rattle.rules.specs.Sheets.{terms_from, equation_numbers, relation_line}
use Rattle.rules.specs.Stores.{row_of, rows_of, relation_of, relations_of}
use Rattle.number_texts.specs.Runs.{Going, Put, going_next, going-last, put_same}
use Rattle.number_texts.specs.TextBytes.{count_bytes, number_room}
use Rattle.number_texts.specs.Texts.{digits_of, spaced, spaced-append}
use Rattle.writing.specs.Writer.{numbers_of, nonzero_count, equation-line, relation-line}

-- a minus and nine digits, and a space and a count
abbrev pub start_bytes : ℕ
start_bytes = 10 + count_bytes

abbrev pub start_room : ℕ
start_room = number_room + count_bytes

unfoldable pub record_start : ℕ → List ℤ → ℕ → List ℕ
record_start zero part n = digits_of n
record_start (suc k) part n = decimal (get_or part 0 (pos 0)) ++ spaced (pos n ∷ [])

pub start-behind : (skip : ℕ) (part : List ℤ) (n : ℕ) → skip ≢ 0
    → record_start skip part n ≡ decimal (get_or part 0 (pos 0)) ++ spaced (pos n ∷ [])
unfolding record_start
start-behind zero part n some = absurd (some refl)
start-behind (suc k) part n some = refl

unfoldable pub record_line : ℤ → ℕ → List ℤ → List ℤ
record_line l zero part = equation_numbers l (row_of part)
record_line l (suc k) part = relation_line l (relation_of part)

unfoldable pub record_lines : ℤ → ℕ → ℕ → List ℤ → List ℕ
unfolding lines parts
record_lines l skip n store = lines (map (record_line l skip) (parts (skip + row_length) n store))

pub record-line : (l : ℤ) (skip : ℕ) (part : List ℤ) → skip ≤ 1
    → (record_start skip part (nonzero_count (polynomials_in (drop skip part))) ++ spaced (numbers_of (terms_from l (row_of (drop skip part)).blocks)))
    ++ (newline ∷ [])
    ≡ line (record_line l skip part)
unfolding record_start record_line
record-line l zero part h = equation-line l part
record-line l (suc zero) part h =
    let terms = numbers_of (terms_from l (row_of (drop 1 part)).blocks) in
    let n = nonzero_count (polynomials_in (drop 1 part)) in
    ap (λ r. r ++ (newline ∷ []))
    (append_assoc (decimal (get_or part 0 (pos 0))) (spaced (pos n ∷ [])) (spaced terms)
    ∙ ap (λ r. decimal (get_or part 0 (pos 0)) ++ r) (spaced-append (pos n ∷ []) terms))
    ∙ relation-line l part
record-line l (suc (suc k)) part h = absurd (omega arith)

pub equation-lines : (l : ℤ) (n : ℕ) (store : List ℤ) → record_lines l 0 n store ≡ lines (map (equation_numbers l) (rows_of n store))
unfolding record_lines record_line rows_of
equation-lines l n store = ap lines (sym (map-map (equation_numbers l) row_of (parts row_length n store)))

pub relation-lines : (l : ℤ) (n : ℕ) (store : List ℤ) → record_lines l 1 n store ≡ lines (map (relation_line l) (relations_of n store))
unfolding record_lines record_line relations_of
relation-lines l n store = ap lines (sym (map-map (relation_line l) relation_of (parts (1 + row_length) n store)))

-- The lines from i on are still to be stored.
module _ (l : ℤ) (skip n : ℕ) (store : List ℤ) (i : ℕ) where
  abbrev k : ℕ
  k = skip + row_length

  -- One line more; the record's length is k as the code computes it.
  pub records-next : {d all e e' : List ℕ} {at next last b : ℕ} → Going d at all e next (lines (map (record_line l skip) (drop i (parts (skip + row_length) n store)))) (i * b)
      → i < n → Put e next (line (record_line l skip (take (i * (skip + row_length) + (skip + row_length) - i * (skip + row_length)) (drop (i * (skip + row_length)) store)))) b e' last
      → Going d at all e' last (lines (map (record_line l skip) (drop (i + 1) (parts (skip + row_length) n store)))) ((i + 1) * b)
  unfolding lines flatten
  records-next {b = b} go h p =
      let width : i * k + k - i * k ≡ k = omega arith in
      going_next go (ap (λ r. lines (map (record_line l skip) r)) (parts_next k n store i h))
      (put_same p (ap (λ m. line (record_line l skip (take m (drop (i * k) store)))) width)) (omega (arith, add-mul i 1 b))

  pub records-last : {d all e : List ℕ} {at next j m : ℕ} → Going d at all e next (lines (map (record_line l skip) (drop i (parts (skip + row_length) n store)))) j
      → n ≤ i → j ≤ m → Put d at all m e next
  unfolding lines flatten
  records-last go h few = going-last go (ap (λ r. lines (map (record_line l skip) r)) (parts-end k n store i h)) few
