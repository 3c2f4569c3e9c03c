-- A sheet that is not read has a number from 2 to 5 (SCOPE 4.32 to 4.37).
--
-- Main definitions
--   Numbered r        the number of the fault, if r is one, is from 2 to 5
--   Judged n          n is 0 or from 2 to 5
--   Judging judge     so are the judgements of a number
--
-- Main statements
--   one_of, two, three, five   judgements
--   then-numbered     one thing read after another
--   field-numbered    a number with its separator
--   between-judging   a range is judged so
--   sheet-numbered    a whole sheet
use Rattle.std.specs.Prelude.{ℕ, zero, suc, ◌*◌, ◌≤◌, ◌+◌, Bool, true, false, ◌&&◌, ◌||◌, not, cond, List, [], ◌∷◌, length, eqb, ℤ, pos, neg_ℤ, nat_abs, ◌-ℤ◌}
use Rattle.std.proofs.Common.{arith}
use Rattle.std.specs.Int.Signed.{le_z, lt_z}
use Rattle.algebra.specs.Polynomials.{is_zero_ℤ, is_zero_of}
use Rattle.lists.specs.Tests.{every}
use Rattle.rules.specs.Limits.{coefficient_count, column_count, most_equations, most_relations, block_bound, small}
use Rattle.rules.specs.Stores.{Sizes, equations, span}
use Rattle.rules.specs.Numbers.{newline, word, after_word, begins_number, is_number, number_of, Read, got, fault, then_read, judged, read_word}
use Rattle.rules.specs.Numbers.{read_separator, field}
use Rattle.rules.specs.Numbers.{between, judge_small_of}
use Rattle.rules.specs.Sheets.{contains, judge_lowest_of, judge_last_of, judge_block_of, judge_column_of, judge_order_of, judge_side_of, judge_side_count}
use Rattle.rules.specs.Sheets.{read_side, read_sides, read_fifth}
use Rattle.rules.specs.Sheets.{Sheet, parting, read_sizes, read_coefficients, read_term, read_terms, read_equation, read_equations, read_relation}
use Rattle.rules.specs.Sheets.{read_relations, read_columns, read_order, read_end, read_rest, read_sheet_of}

pub data Numbered {A : Type 0} : Read A → Type 0 where
  read : (a : A) (rest : List ℕ) → Numbered (got a rest)
  numbered : (n : ℕ) → 1 ≤ n → n ≤ 4 → Numbered (fault (suc n))

pub data Judged : ℕ → Type 0 where
  fine : Judged 0
  wrong : (n : ℕ) → 1 ≤ n → n ≤ 4 → Judged (suc n)

abbrev pub Judging : (ℤ → ℕ) → Type 0
Judging judge = (v : ℤ) → Judged (judge v)

-- One of two judgements.
pub one_of : (t : Bool) {a b : ℕ} → Judged a → Judged b → Judged (cond t a b)
one_of true j k = j
one_of false j k = k

pub two : Judged 2
two = wrong 1 (omega arith) (omega arith)

pub three : Judged 3
three = wrong 2 (omega arith) (omega arith)

pub five : Judged 5
five = wrong 4 (omega arith) (omega arith)

pub then-numbered : {A B : Type 0} (r : Read A) (next : A → List ℕ → Read B) → Numbered r → ((a : A) (rest : List ℕ) → Numbered (next a rest))
    → Numbered (then_read r next)
unfolding then_read
then-numbered r next (read a rest) more = more a rest
then-numbered r next (numbered n low high) more = numbered n low high

-- ---- numbers

judged-numbered : (n : ℕ) (v : ℤ) (bytes : List ℕ) → Judged n → Numbered (judged n v bytes)
unfolding judged
judged-numbered n v bytes fine = read v bytes
judged-numbered n v bytes (wrong k low high) = numbered k low high

word-numbered : (judge : ℤ → ℕ) → Judging judge → (w after : List ℕ) → Numbered (read_word judge w after)
unfolding read_word
word-numbered judge j w [] = go (begins_number w)
  where
    go : (t : Bool) → Numbered {A = ℤ} (fault (cond t 4 3))
    go true = numbered 3 (omega arith) (omega arith)
    go false = numbered 2 (omega arith) (omega arith)
word-numbered judge j w (b ∷ bytes) =
    go (is_number w) (judged-numbered (judge (number_of w)) (number_of w) (b ∷ bytes) (j (number_of w)))
  where
    go : (t : Bool) → Numbered (judged (judge (number_of w)) (number_of w) (b ∷ bytes))
        → Numbered (cond t (judged (judge (number_of w)) (number_of w) (b ∷ bytes)) (fault 3))
    go true h = h
    go false h = numbered 2 (omega arith) (omega arith)

separator-numbered : (separator : ℕ) (v : ℤ) (bytes : List ℕ) → Numbered (read_separator separator v bytes)
unfolding read_separator
separator-numbered separator v [] = numbered 3 (omega arith) (omega arith)
separator-numbered separator v (b ∷ bytes) = go (eqb b separator)
  where
    go : (t : Bool) → Numbered (cond t (got v bytes) (fault 3))
    go true = read v bytes
    go false = numbered 2 (omega arith) (omega arith)

pub field-numbered : (judge follow : ℤ → ℕ) → Judging judge → (bytes : List ℕ) → Numbered (field judge follow bytes)
unfolding field
field-numbered judge follow j bytes =
    then-numbered (read_word judge (word bytes) (after_word bytes)) _ (word-numbered judge j (word bytes) (after_word bytes))
    (λ v rest. separator-numbered (follow v) v rest)

-- ---- the judgements

pub between-judging : (low high : ℤ) → Judging (between low high)
unfolding between
between-judging low high v = one_of (le_z low v && le_z v high) fine two

small-judging : Judging judge_small_of
unfolding judge_small_of
small-judging v = one_of (small v) fine five

lowest-judging : (l : ℤ) → Judging (judge_lowest_of l)
unfolding judge_lowest_of
lowest-judging l v = one_of (le_z (neg_ℤ (pos block_bound)) v && le_z v l && le_z (l -ℤ v) (pos 4)) fine two

last-judging : Judging judge_last_of
unfolding judge_last_of
last-judging v = one_of (small v) (one_of (is_zero_ℤ v) three fine) five

block-judging : (z : Sizes) (s₀ : ℤ) → Judging (judge_block_of z s₀)
unfolding judge_block_of
block-judging z s₀ v = one_of (le_z z.t v && le_z v z.l) (one_of (le_z v s₀) fine three) two

column-judging : (z : Sizes) (s₀ : ℤ) (c₀ : ℕ) (s : ℤ) → Judging (judge_column_of z s₀ c₀ s)
unfolding judge_column_of
column-judging z s₀ c₀ s v =
    one_of (le_z (pos 1) v && le_z v (pos z.m)) (one_of (lt_z s s₀ || lt_z (pos c₀) v) fine three) two

order-judging : (m : ℕ) (taken : List ℕ) → Judging (judge_order_of m taken)
unfolding judge_order_of
order-judging m taken v = one_of (le_z (pos 1) v && le_z v (pos m) && not (contains (nat_abs v) taken)) fine two

side-judging : (needed : Bool) → Judging (judge_side_of needed)
unfolding judge_side_of
side-judging needed v = one_of (le_z (pos 0) v && le_z v (pos coefficient_count)) (one_of (needed && is_zero_ℤ v) three fine) two

side_count-judging : (n : ℕ) → Judging (judge_side_count n)
unfolding judge_side_count
side_count-judging zero v = one_of (is_zero_ℤ v) three two
side_count-judging (suc k) v = between-judging (pos (suc k)) (pos (suc k)) v

-- ---- the sections

sizes-numbered : (bytes : List ℕ) → Numbered (read_sizes bytes)
unfolding read_sizes
sizes-numbered bytes =
    then-numbered _ _ (field-numbered _ _ (between-judging (pos 3) (pos 3)) bytes) λ _ bytes₁.
    then-numbered _ _ (field-numbered _ _ (between-judging (pos 1) (pos column_count)) bytes₁) λ m bytes₂.
    then-numbered _ _ (field-numbered _ _ (between-judging (neg_ℤ (pos block_bound)) (pos block_bound)) bytes₂) λ l bytes₃.
    then-numbered _ _ (field-numbered _ _ (lowest-judging l) bytes₃) λ t bytes₄.
    then-numbered _ _ (field-numbered _ _ (between-judging (pos 0) (pos most_equations)) bytes₄) λ k bytes₅. read _ _

coefficients-numbered : (last k : ℕ) (bytes : List ℕ) → Numbered (read_coefficients last k bytes)
unfolding read_coefficients
coefficients-numbered last zero bytes = read [] bytes
coefficients-numbered last (suc zero) bytes = then-numbered _ _ (field-numbered _ _ last-judging bytes) λ a rest. read _ _
coefficients-numbered last (suc (suc k)) bytes =
    then-numbered _ _ (field-numbered _ _ small-judging bytes) λ a rest.
    then-numbered _ _ (coefficients-numbered last (suc k) rest) λ p more. read _ _

term-numbered : (z : Sizes) (s₀ : ℤ) (c₀ last : ℕ) (bytes : List ℕ) → Numbered (read_term z s₀ c₀ last bytes)
unfolding read_term
term-numbered z s₀ c₀ last bytes =
    then-numbered _ _ (field-numbered _ _ (block-judging z s₀) bytes) λ s bytes₁.
    then-numbered _ _ (field-numbered _ _ (column-judging z s₀ c₀ s) bytes₁) λ c bytes₂.
    then-numbered _ _ (field-numbered _ _ (between-judging (pos 1) (pos coefficient_count)) bytes₂) λ k bytes₃.
    then-numbered _ _ (coefficients-numbered last (nat_abs k) bytes₃) λ p bytes₄. read _ _

terms-numbered : (z : Sizes) (k : ℕ) (s₀ : ℤ) (c₀ : ℕ) (bytes : List ℕ) → Numbered (read_terms z k s₀ c₀ bytes)
unfolding read_terms
terms-numbered z zero s₀ c₀ bytes = read [] bytes
terms-numbered z (suc k) s₀ c₀ bytes =
    then-numbered _ _ (term-numbered z s₀ c₀ (parting newline k) bytes) λ e rest.
    then-numbered _ _ (terms-numbered z k e.block e.column rest) λ l more. read _ _

equation-numbered : (z : Sizes) (bytes : List ℕ) → Numbered (read_equation z bytes)
unfolding read_equation
equation-numbered z bytes =
    then-numbered _ _ (field-numbered _ _ (between-judging (pos 0) (pos (z.m * suc (span z)))) bytes) λ k rest.
    then-numbered _ _ (terms-numbered z (nat_abs k) z.l 0 rest) λ es more. read _ _

equations-numbered : (z : Sizes) (k : ℕ) (bytes : List ℕ) → Numbered (read_equations z k bytes)
unfolding read_equations
equations-numbered z zero bytes = read [] bytes
equations-numbered z (suc k) bytes =
    then-numbered _ _ (equation-numbered z bytes) λ r rest.
    then-numbered _ _ (equations-numbered z k rest) λ l more. read _ _

relation-numbered : (z : Sizes) (bytes : List ℕ) → Numbered (read_relation z bytes)
unfolding read_relation
relation-numbered z bytes =
    then-numbered _ _ (field-numbered _ _ small-judging bytes) λ n0 rest.
    then-numbered _ _ (equation-numbered z rest) λ r more. read _ _

relations-numbered : (z : Sizes) (k : ℕ) (bytes : List ℕ) → Numbered (read_relations z k bytes)
unfolding read_relations
relations-numbered z zero bytes = read [] bytes
relations-numbered z (suc k) bytes =
    then-numbered _ _ (relation-numbered z bytes) λ e rest.
    then-numbered _ _ (relations-numbered z k rest) λ l more. read _ _

columns-numbered : (m k : ℕ) (taken bytes : List ℕ) → Numbered (read_columns m k taken bytes)
unfolding read_columns
columns-numbered m zero taken bytes = read [] bytes
columns-numbered m (suc k) taken bytes =
    then-numbered _ _ (field-numbered _ _ (order-judging m taken) bytes) λ c rest.
    then-numbered _ _ (columns-numbered m k (nat_abs c ∷ taken) rest) λ l more. read _ _

order-numbered : (m : ℕ) (bytes : List ℕ) → Numbered (read_order m bytes)
unfolding read_order
order-numbered m bytes =
    then-numbered _ _ (field-numbered _ _ (between-judging (pos 0) (pos m)) bytes) λ k rest. columns-numbered m (nat_abs k) [] rest

end-numbered : (sheet : Sheet) (bytes : List ℕ) → Numbered (read_end sheet bytes)
unfolding read_end
end-numbered sheet [] = read sheet []
end-numbered sheet (b ∷ bytes) = numbered 3 (omega arith) (omega arith)

side-numbered : (needed : Bool) (bytes : List ℕ) → Numbered (read_side needed bytes)
unfolding read_side
side-numbered needed bytes =
    then-numbered _ _ (field-numbered _ _ (side-judging needed) bytes) λ k rest.
    then-numbered _ _ (coefficients-numbered newline (nat_abs k) rest) λ p more. read _ _

sides-numbered : (k others : ℕ) (none : Bool) (bytes : List ℕ) → Numbered (read_sides k others none bytes)
unfolding read_sides
sides-numbered zero others none bytes = read [] bytes
sides-numbered (suc k) others none bytes =
    then-numbered _ _ (side-numbered (none && eqb (k + others) 0) bytes) λ p rest.
    then-numbered _ _ (sides-numbered k others (none && is_zero_of p) rest) λ ps more. read _ _

fifth-numbered : (sheet : Sheet) (bytes : List ℕ) → Numbered (read_fifth sheet bytes)
unfolding read_fifth
fifth-numbered sheet bytes =
    let n = length sheet.rows + length sheet.relations in
    then-numbered _ _ (field-numbered _ _ (side_count-judging n) bytes) λ _ bytes₁.
    then-numbered _ _ (sides-numbered (length sheet.rows) (length sheet.relations) true bytes₁) λ ps bytes₂.
    then-numbered _ _ (sides-numbered (length sheet.relations) 0 (every is_zero_of ps) bytes₂) λ qs bytes₃. read _ _

rest-numbered : (sheet : Sheet) (bytes : List ℕ) → Numbered (read_rest sheet bytes)
unfolding read_rest
rest-numbered sheet [] = read sheet []
rest-numbered sheet (b ∷ bytes) = then-numbered _ _ (fifth-numbered sheet (b ∷ bytes)) λ x rest. end-numbered x rest

-- ---- the whole sheet

pub sheet-numbered : (bytes : List ℕ) → Numbered (read_sheet_of bytes)
unfolding read_sheet_of
sheet-numbered bytes =
    then-numbered _ _ (sizes-numbered bytes) λ z bytes₁.
    then-numbered _ _ (equations-numbered z (equations z) bytes₁) λ rows bytes₂.
    then-numbered _ _ (field-numbered _ _ (between-judging (pos 0) (pos most_relations)) bytes₂) λ count bytes₃.
    then-numbered _ _ (relations-numbered z (nat_abs count) bytes₃) λ relations bytes₄.
    then-numbered _ _ (order-numbered z.m bytes₄) λ order bytes₅.
    rest-numbered _ bytes₅
