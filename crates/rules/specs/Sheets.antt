-- Sheets, read and written (SCOPE 4).
--
-- Main definitions
--   Sheet              what a sheet holds
--   sides_of sheet      its right sides, those of the equations first
--   read_sheet_of bytes    the sheet, or the number of its first fault in byte order (SCOPE 4.37)
--   write_sheet_of sheet   its bytes (SCOPE 4.52)
use Rattle.std.specs.Prelude.{ℕ, zero, suc, ◌+◌, ◌*◌, pred, Bool, true, false, ◌&&◌, ◌||◌, not, cond, eqb, length, get_or, set, replicate, ℤ, pos, neg_ℤ, nat_abs, ◌-ℤ◌}
use mathlib.Core.List.{List, [], ◌∷◌, ◌++◌, map, flatten, zip_with}
use Rattle.std.proofs.Math.IntN.{pred_ℤ}
use Rattle.std.specs.Int.Signed.{le_z, lt_z}
use Rattle.algebra.specs.Polynomials.{Polynomial, is_zero_of, is_zero_ℤ}
use Rattle.rules.specs.Limits.{coefficient_count, column_count, most_equations, most_span, block_count, most_relations}
use Rattle.rules.specs.Limits.{block_bound, small}
use Rattle.rules.specs.Rows.{Block, Row, Relation}
use Rattle.rules.specs.Stores.{Sizes, span, equations}
use Rattle.lists.specs.Padded.{pad_to}
use Rattle.lists.specs.Tests.{every}
use Rattle.rules.specs.Numbers.{space, newline, Read, got, fault, then_read, field, between, judge_small_of, lines}

-- The column order holds columns counted from 1, as in the sheet; it is empty if there is none.
pub record Sheet : Type 0 where
  pub sizes : Sizes
  pub rows : List Row
  pub relations : List Relation
  pub order : List ℕ

-- Block, column and coefficients from power 0 on (SCOPE 4.22); the column is counted from 1.
pub record Term : Type 0 where
  pub block : ℤ
  pub column : ℕ
  pub polynomial : Polynomial

-- ---- reading

-- A separator that does not depend on the number.
unfoldable pub always : ℕ → ℤ → ℕ
always separator v = separator

-- The separator after a count: the line ends if nothing is counted.
unfoldable pub after_count_of : ℤ → ℕ
unfolding is_zero_ℤ
after_count_of v = cond (is_zero_ℤ v) newline space

-- The separator after one of several things of which k are still to come.
unfoldable pub parting : ℕ → ℕ → ℕ
parting last zero = last
parting last (suc k) = space

-- t is not below -64 and not above l, and D is at most 4 (SCOPE 1.2, 4.34).
unfoldable pub judge_lowest_of : ℤ → ℤ → ℕ
judge_lowest_of l t =
    cond (le_z (neg_ℤ (pos block_bound)) t && le_z t l && le_z (l -ℤ t) (pos most_span)) 0 2

-- The line `3 m l t`, and the line with the number of equations (SCOPE 4.12, 4.13).
unfoldable pub read_sizes : List ℕ → Read Sizes
unfolding then_read field between always judge_lowest_of
read_sizes bytes =
    then_read (field (between (pos 3) (pos 3)) (always space) bytes) λ _ bytes₁.
    then_read (field (between (pos 1) (pos column_count)) (always space) bytes₁) λ m bytes₂.
    then_read (field (between (neg_ℤ (pos block_bound)) (pos block_bound)) (always space) bytes₂) λ l bytes₃.
    then_read (field (judge_lowest_of l) (always newline) bytes₃) λ t bytes₄.
    then_read (field (between (pos 0) (pos most_equations)) (always newline) bytes₄) λ k bytes₅.
    got (record { m = nat_abs m; equations = nat_abs k; l = l; t = t }) bytes₅

-- A term's last coefficient is 5 past ±C, and 3 if it is 0 (SCOPE 4.24, 4.34, 4.35).
unfoldable pub judge_last_of : ℤ → ℕ
unfolding small is_zero_ℤ
judge_last_of v = cond (small v) (cond (is_zero_ℤ v) 3 0) 5

-- Coefficients, `last` standing after the last of them (SCOPE 4.22).
unfoldable pub read_coefficients : ℕ → ℕ → List ℕ → Read Polynomial
unfolding then_read field judge_last_of judge_small_of always
read_coefficients last zero bytes = got [] bytes
read_coefficients last (suc zero) bytes =
    then_read (field judge_last_of (always last) bytes) λ a rest. got (a ∷ []) rest
read_coefficients last (suc (suc k)) bytes =
    then_read (field judge_small_of (always space) bytes) λ a rest.
    then_read (read_coefficients last (suc k) rest) λ p more. got (a ∷ p) more

-- The block never rises, and in one block the column rises (SCOPE 4.23, 4.35). The term before stood at block s₀ and
-- column c₀.
unfoldable pub judge_block_of : Sizes → ℤ → ℤ → ℕ
judge_block_of z s₀ s = cond (le_z z.t s && le_z s z.l) (cond (le_z s s₀) 0 3) 2

unfoldable pub judge_column_of : Sizes → ℤ → ℕ → ℤ → ℤ → ℕ
judge_column_of z s₀ c₀ s c =
    cond (le_z (pos 1) c && le_z c (pos z.m)) (cond (lt_z s s₀ || lt_z (pos c₀) c) 0 3) 2

unfoldable pub read_term : Sizes → ℤ → ℕ → ℕ → List ℕ → Read Term
unfolding then_read field judge_block_of judge_column_of between read_coefficients always
read_term z s₀ c₀ last bytes =
    then_read (field (judge_block_of z s₀) (always space) bytes) λ s bytes₁.
    then_read (field (judge_column_of z s₀ c₀ s) (always space) bytes₁) λ c bytes₂.
    then_read (field (between (pos 1) (pos coefficient_count)) (always space) bytes₂) λ k bytes₃.
    then_read (read_coefficients last (nat_abs k) bytes₃) λ p bytes₄.
    got (record { block = s; column = nat_abs c; polynomial = p }) bytes₄

unfoldable pub read_terms : Sizes → ℕ → ℤ → ℕ → List ℕ → Read (List Term)
unfolding then_read read_term parting
read_terms z zero s₀ c₀ bytes = got [] bytes
read_terms z (suc k) s₀ c₀ bytes =
    then_read (read_term z s₀ c₀ (parting newline k) bytes) λ e rest.
    then_read (read_terms z k e.block e.column rest) λ l more. got (e ∷ l) more

-- The row of a store, all zero.
unfoldable pub blank_row : Row
blank_row =
    record {
      blocks = replicate block_count (replicate column_count (replicate coefficient_count (pos 0)));
      right = replicate coefficient_count (pos 0);
    }

unfoldable pub put_term_of : ℤ → Term → Row → Row
unfolding pad_to
put_term_of l e r =
    let k = nat_abs (l -ℤ e.block) in
    record {
      blocks = set r.blocks k (set (get_or r.blocks k []) (pred e.column) (pad_to coefficient_count (pos 0) e.polynomial));
      right = r.right;
    }

-- A place without a term holds zero (SCOPE 4.23).
unfoldable pub row_of_terms : ℤ → List Term → Row
unfolding blank_row put_term_of
row_of_terms l [] = blank_row
row_of_terms l (e ∷ es) = put_term_of l e (row_of_terms l es)

-- The number of the terms, at most m × (D + 1), and the terms (SCOPE 4.21).
unfoldable pub read_equation : Sizes → List ℕ → Read Row
unfolding then_read field between after_count_of read_terms row_of_terms span
read_equation z bytes =
    then_read (field (between (pos 0) (pos (z.m * suc (span z)))) after_count_of bytes) λ k rest.
    then_read (read_terms z (nat_abs k) z.l 0 rest) λ es more. got (row_of_terms z.l es) more

unfoldable pub read_equations : Sizes → ℕ → List ℕ → Read (List Row)
unfolding then_read read_equation
read_equations z zero bytes = got [] bytes
read_equations z (suc k) bytes =
    then_read (read_equation z bytes) λ r rest.
    then_read (read_equations z k rest) λ l more. got (r ∷ l) more

-- n0 and then an equation (SCOPE 4.14).
unfoldable pub read_relation : Sizes → List ℕ → Read Relation
unfolding then_read field judge_small_of always read_equation
read_relation z bytes =
    then_read (field judge_small_of (always space) bytes) λ n0 rest.
    then_read (read_equation z rest) λ r more. got (record { index = n0; row = r }) more

unfoldable pub read_relations : Sizes → ℕ → List ℕ → Read (List Relation)
unfolding then_read read_relation
read_relations z zero bytes = got [] bytes
read_relations z (suc k) bytes =
    then_read (read_relation z bytes) λ e rest.
    then_read (read_relations z k rest) λ l more. got (e ∷ l) more

unfoldable pub contains : ℕ → List ℕ → Bool
contains c [] = false
contains c (d ∷ l) = eqb c d || contains c l

-- A column outside 1..m, or one that stands already, is a wrong order line (2) (SCOPE 4.34).
unfoldable pub judge_order_of : ℕ → List ℕ → ℤ → ℕ
unfolding contains
judge_order_of m taken v =
    cond (le_z (pos 1) v && le_z v (pos m) && not (contains (nat_abs v) taken)) 0 2

unfoldable pub read_columns : ℕ → ℕ → List ℕ → List ℕ → Read (List ℕ)
unfolding then_read field judge_order_of always parting
read_columns m zero taken bytes = got [] bytes
read_columns m (suc k) taken bytes =
    then_read (field (judge_order_of m taken) (always (parting newline k)) bytes) λ c rest.
    then_read (read_columns m k (nat_abs c ∷ taken) rest) λ l more. got (nat_abs c ∷ l) more

-- The line of the column order: the number of its columns, at most m, and those, all different (SCOPE 4.15, 4.34).
unfoldable pub read_order : ℕ → List ℕ → Read (List ℕ)
unfolding then_read field between after_count_of read_columns
read_order m bytes =
    then_read (field (between (pos 0) (pos m)) after_count_of bytes) λ k rest. read_columns m (nat_abs k) [] rest

-- ---- the fifth section

-- The number of a side's coefficients is from 0 to 16, else 2 (SCOPE 4.34). Where the side is needed it is not 0: that is 3, as a
-- last coefficient that is 0 (SCOPE 4.35).
unfoldable pub judge_side_of : Bool → ℤ → ℕ
unfolding is_zero_ℤ
judge_side_of needed v = cond (le_z (pos 0) v && le_z v (pos coefficient_count)) (cond (needed && is_zero_ℤ v) 3 0) 2

-- The number of a side's coefficients, and those from power 0 on (SCOPE 4.25).
unfoldable pub read_side : Bool → List ℕ → Read Polynomial
unfolding then_read field judge_side_of after_count_of read_coefficients pad_to
read_side needed bytes =
    then_read (field (judge_side_of needed) after_count_of bytes) λ k rest.
    then_read (read_coefficients newline (nat_abs k) rest) λ p more. got (pad_to coefficient_count (pos 0) p) more

-- So many sides, with others to come after them; `none` says that all before them are zero. A fifth section of zeros only is 3 at
-- its last line, which is needed there (SCOPE 4.35).
unfoldable pub read_sides : ℕ → ℕ → Bool → List ℕ → Read (List Polynomial)
unfolding then_read read_side is_zero_of
read_sides zero others none bytes = got [] bytes
read_sides (suc k) others none bytes =
    then_read (read_side (none && eqb (k + others) 0) bytes) λ p rest.
    then_read (read_sides k others (none && is_zero_of p) rest) λ ps more. got (p ∷ ps) more

unfoldable pub put_side_of : Row → Polynomial → Row
put_side_of r p = record { blocks = r.blocks; right = p }

unfoldable pub put_relation_side : Relation → Polynomial → Relation
unfolding put_side_of
put_relation_side e p = record { index = e.index; row = put_side_of e.row p }

-- The number of the equations and relations, any other being 2 (SCOPE 4.34). Where there are none, a fifth section holds zeros
-- only: its number 0 is 3 (SCOPE 4.35).
unfoldable pub judge_side_count : ℕ → ℤ → ℕ
unfolding between
judge_side_count zero v = cond (is_zero_ℤ v) 3 2
judge_side_count (suc k) v = between (pos (suc k)) (pos (suc k)) v

-- That number, and a side for each (SCOPE 4.16).
unfoldable pub read_fifth : Sheet → List ℕ → Read Sheet
unfolding then_read field judge_side_count always read_sides every is_zero_of zip_with put_side_of put_relation_side
read_fifth sheet bytes =
    let e = length sheet.rows in
    let r = length sheet.relations in
    then_read (field (judge_side_count (e + r)) (always newline) bytes) λ _ bytes₁.
    then_read (read_sides e r true bytes₁) λ ps bytes₂.
    then_read (read_sides r 0 (every is_zero_of ps) bytes₂) λ qs bytes₃.
    got
    (record {
      sizes = sheet.sizes;
      rows = zip_with put_side_of sheet.rows ps;
      relations = zip_with put_relation_side sheet.relations qs;
      order = sheet.order;
    })
    bytes₃

-- Bytes behind the fifth section are 4 (SCOPE 4.17, 4.37).
unfoldable pub read_end : Sheet → List ℕ → Read Sheet
read_end sheet [] = got sheet []
read_end sheet (b ∷ bytes) = fault 4

-- Without a fifth section all sides are zero; any byte behind the fourth begins the fifth (SCOPE 4.16).
unfoldable pub read_rest : Sheet → List ℕ → Read Sheet
unfolding then_read read_fifth read_end
read_rest sheet [] = got sheet []
read_rest sheet (b ∷ bytes) = then_read (read_fifth sheet (b ∷ bytes)) read_end

-- The sections in their order, each behind its count (SCOPE 4.11 to 4.17).
unfoldable pub read_sheet_of : List ℕ → Read Sheet
unfolding then_read read_sizes field between always read_equations read_relations read_order read_rest
read_sheet_of bytes =
    then_read (read_sizes bytes) λ z bytes₁.
    then_read (read_equations z (equations z) bytes₁) λ rows bytes₂.
    then_read (field (between (pos 0) (pos most_relations)) (always newline) bytes₂) λ count bytes₃.
    then_read (read_relations z (nat_abs count) bytes₃) λ relations bytes₄.
    then_read (read_order z.m bytes₄) λ order bytes₅.
    read_rest (record { sizes = z; rows = rows; relations = relations; order = order }) bytes₅

-- ---- writing

-- The polynomial without its zero high coefficients (SCOPE 4.52).
unfoldable pub trim : Polynomial → Polynomial
unfolding is_zero_of
trim [] = []
trim (a ∷ p) = cond (is_zero_of (a ∷ p)) [] (a ∷ trim p)

-- The terms of one block, from column c on.
unfoldable pub block_terms_of : ℤ → ℕ → Block → List Term
unfolding is_zero_of trim
block_terms_of s c [] = []
block_terms_of s c (p ∷ b) =
    let more = block_terms_of s (suc c) b in
    cond (is_zero_of p) more (record { block = s; column = c; polynomial = trim p } ∷ more)

-- The terms of the blocks from s down, those of a block by rising column (SCOPE 4.23, 4.52).
unfoldable pub terms_from : ℤ → List Block → List Term
unfolding block_terms_of
terms_from s [] = []
terms_from s (b ∷ bs) = block_terms_of s 1 b ++ terms_from (pred_ℤ s) bs

unfoldable pub term_numbers : Term → List ℤ
term_numbers e = e.block ∷ pos e.column ∷ pos (length e.polynomial) ∷ e.polynomial

unfoldable pub equation_numbers : ℤ → Row → List ℤ
unfolding terms_from flatten term_numbers
equation_numbers l r =
    let es = terms_from l r.blocks in
    pos (length es) ∷ flatten (map term_numbers es)

unfoldable pub relation_line : ℤ → Relation → List ℤ
unfolding equation_numbers
relation_line l e = e.index ∷ equation_numbers l e.row

unfoldable pub order_line : List ℕ → List ℤ
order_line order = pos (length order) ∷ map pos order

unfoldable pub sides_of : Sheet → List Polynomial
sides_of sheet = map (λ r. r.right) sheet.rows ++ map (λ e. e.row.right) sheet.relations

-- A zero side is the number 0 alone (SCOPE 4.25).
unfoldable pub side_line : Polynomial → List ℤ
unfolding trim
side_line p = pos (length (trim p)) ∷ trim p

-- The fifth section stands exactly if some side is not zero (SCOPE 4.16).
unfoldable pub side_lines : List Polynomial → List (List ℤ)
unfolding side_line every is_zero_of
side_lines ps = let section = (pos (length ps) ∷ []) ∷ map side_line ps in cond (every is_zero_of ps) [] section

unfoldable pub sheet_lines : Sheet → List (List ℤ)
unfolding equation_numbers relation_line order_line sides_of side_lines
sheet_lines sheet =
    let z = sheet.sizes in
    ((pos 3 ∷ pos z.m ∷ z.l ∷ z.t ∷ []) ∷ (pos (length sheet.rows) ∷ []) ∷ map (equation_numbers z.l) sheet.rows)
    ++ ((pos (length sheet.relations) ∷ []) ∷ map (relation_line z.l) sheet.relations)
    ++ (order_line sheet.order ∷ [])
    ++ side_lines (sides_of sheet)

unfoldable pub write_sheet_of : Sheet → List ℕ
unfolding lines sheet_lines
write_sheet_of sheet = lines (sheet_lines sheet)
