-- Sheets read back: what is written is read, and what is read would be written so (SCOPE 4.56).
--
-- Main definitions
--   SheetRight sheet                     a valid system, with a column order of different columns or none
--
-- Main statements
--   read-written                         what is written of a valid system and a right order is read back
--   written_read                         what is read, written again, is the same bytes
--   read-valid, read-order               what is read is a valid system with a right order
--   read-exactly                         the byte strings that are read are exactly those written of right sheets
use Rattle.std.specs.Prelude.{ℕ, zero, suc, ◌+◌, ◌≤◌, ◌<◌, ◌≡◌, ◌↔◌, Bool, false, not, cond, ◌≢◌, replicate, ℤ, pos, nat_abs}
use Rattle.std.proofs.Math.Path.{refl, ap}
use Rattle.std.proofs.Common.{sym, ◌∙◌, ap₂, subst, arith, suc-ne-zero, not-suc-le-zero, zero-lt-suc, length-append}
use Rattle.std.proofs.Math.Bool.{true}
use mathlib.Core.List.{nil≢cons}
use Rattle.std.proofs.Math.Nat.{suc_inj}
use mathlib.Core.List.{List, [], ◌∷◌, ◌++◌, map, flatten, append-nil, append_assoc, zip_with, map-append}
use Rattle.std.proofs.Math.Dec.{T, not_T, T_not}
use Rattle.std.proofs.Math.ListN.{length}
use Rattle.std.proofs.lemmas.List.{length-map, length-replicate}
use Rattle.std.specs.Int.Signed.{le_z_yes, ≤ℤ_refl}
use Rattle.algebra.specs.Order.{pos-nat_abs-nonneg, pos-nonneg, pos-≤ℤ}
use Rattle.rules.specs.Limits.{most_relations, coefficient_count, small}
use Rattle.rules.specs.Rows.{Row, Relation}
use Rattle.lists.specs.Everywhere.{All, all-mono, all_both}
use Rattle.rules.specs.Stores.{Sizes, sizes_right_of, row_right_of, relation_right_of, StoreRow, Valid, equations, Shaped}
use Rattle.rules.specs.Layout.{size-bounds, count_right-iff}
use Rattle.rules.specs.Numbers.{newline, decimal, line, lines, Read, got, fault, then_read, field, between}
use Rattle.rules.specs.Sheets.{Sheet, always, read_sizes, read_equations, read_relations, read_order, read_end, read_rest, judge_side_count}
use Rattle.rules.specs.Sheets.{read_fifth, read_sheet_of, put_side_of, put_relation_side, side_line, side_lines, sides_of, sheet_lines}
use Rattle.rules.specs.Sheets.{equation_numbers, relation_line, order_line, write_sheet_of}
use Rattle.tokens.specs.Exact.{Exact, got-inj, fault-got, got-in-two, field-exact, nothing-exact, then-exact, same-exact}
use Rattle.sheets.specs.WrittenTerms.{between-iff, between-exact, most, always-newline}
use Rattle.lists.specs.Tests.{every-all, every, cond-passed, T-&&, cond-not, every_append}
use Rattle.sheets.specs.WrittenSections.{just, sizes_lines, sizes-exact, EquationRight, equations-exact, RelationGood, relations-exact}
use Rattle.sheets.specs.WrittenOrder.{OrderRight, order-exact}
use Rattle.sheets.specs.RowBlocks.{StorePolynomial, row_right-blocks, blocks-row_right, row_right-side}
use Rattle.sheets.specs.RowTerms.{ZeroSide}
use Rattle.lists.specs.Joined.{flatten-append}
use Rattle.lists.specs.Images.{length-zip_with}
use Rattle.lists.specs.Everywhere.{all-zip_with, all_map, all_replicate}
use Rattle.rules.specs.Stores.{count_right}
use Rattle.sheets.specs.WrittenSides.{Sides, sides-exact, sides-iff}
use Rattle.algebra.specs.Polynomials.{Polynomial, is_zero_of, is_zero_ℤ, is_zero-replicate, zero-list}

-- What a sheet can hold: a valid system, and a column order of different columns, or none.
pub record SheetRight (sheet : Sheet) : Type 0 where
  pub valid : Valid sheet.sizes sheet.rows sheet.relations
  pub order-right : OrderRight sheet.sizes.m sheet.order

-- ---- reading up to the end

-- A sheet all of whose right sides are zero, as the first four sections give it.
abbrev PlainRight : Sheet → Type 0
PlainRight x = SheetRight x × All ZeroSide x.rows × All (λ e. ZeroSide e.row) x.relations

-- The bytes of the first four sections, which know nothing of right sides.
abbrev four_lines : Sheet → List (List ℤ)
four_lines x =
    ((pos 3 ∷ pos x.sizes.m ∷ x.sizes.l ∷ x.sizes.t ∷ []) ∷ (pos (length x.rows) ∷ [])
    ∷ map (equation_numbers x.sizes.l) x.rows)
    ++ ((pos (length x.relations) ∷ []) ∷ map (relation_line x.sizes.l) x.relations)
    ++ (order_line x.order ∷ [])

abbrev write_four : Sheet → List ℕ
write_four x = lines (four_lines x)

-- The four sections, whatever follows them.
read_sections : List ℕ → Read Sheet
read_sections bytes =
    then_read (read_sizes bytes) λ z bytes₁.
    then_read (read_equations z (equations z) bytes₁) λ rows bytes₂.
    then_read (field (between (pos 0) (pos most_relations)) (always newline) bytes₂) λ count bytes₃.
    then_read (read_relations z (nat_abs count) bytes₃) λ relations bytes₄.
    then_read (read_order z.m bytes₄) λ order bytes₅.
    got (record { sizes = z; rows = rows; relations = relations; order = order }) bytes₅

lines-append : (l more : List (List ℤ)) → lines (l ++ more) ≡ lines l ++ lines more
unfolding lines flatten
lines-append [] more = refl
lines-append (x ∷ l) more = ap (λ r. line x ++ r) (lines-append l more) ∙ sym (append_assoc (line x) (lines l) (lines more))

lines-map : {A : Type 0} (f : A → List ℤ) (l : List A) → lines (map f l) ≡ flatten (map (λ a. line (f a)) l)
unfolding lines flatten
lines-map f [] = refl
lines-map f (a ∷ l) = ap (λ r. line (f a) ++ r) (lines-map f l)

regroup : (a b c d e f : List ℕ) → ((a ++ (b ++ c)) ++ (d ++ e)) ++ f ≡ a ++ (b ++ (c ++ (d ++ (e ++ f))))
regroup a b c d e f = simp append_assoc

-- The lines of a sheet, section by section.
write_four-sections : (x : Sheet)
    → write_four x
    ≡ line (pos 3 ∷ pos x.sizes.m ∷ x.sizes.l ∷ x.sizes.t ∷ [])
    ++ (line (pos (length x.rows) ∷ [])
    ++ (flatten (map (λ r. line (equation_numbers x.sizes.l r)) x.rows)
    ++ (line (pos (length x.relations) ∷ [])
    ++ (flatten (map (λ e. line (relation_line x.sizes.l e)) x.relations) ++ (line (order_line x.order) ++ [])))))
unfolding lines flatten
write_four-sections x =
    lines-append (first ++ second) third
    ∙ ap (λ l. l ++ lines third) (lines-append first second)
    ∙ ap₂ (λ r q. ((line sizes ++ (line rows ++ r)) ++ (line relations ++ q)) ++ lines third)
    (lines-map (equation_numbers x.sizes.l) x.rows) (lines-map (relation_line x.sizes.l) x.relations)
    ∙ regroup (line sizes) (line rows) _ (line relations) _ (lines third)
  where
    sizes : List ℤ
    sizes = pos 3 ∷ pos x.sizes.m ∷ x.sizes.l ∷ x.sizes.t ∷ []

    rows : List ℤ
    rows = pos (length x.rows) ∷ []

    relations : List ℤ
    relations = pos (length x.relations) ∷ []

    first : List (List ℤ)
    first = sizes ∷ rows ∷ map (equation_numbers x.sizes.l) x.rows

    second : List (List ℤ)
    second = relations ∷ map (relation_line x.sizes.l) x.relations

    third : List (List ℤ)
    third = order_line x.order ∷ []

-- A number with the end of its line.
abbrev ended : ℤ → List ℕ
ended a = decimal a ++ (always newline a ∷ [])

line-ended : (a : ℤ) → line (a ∷ []) ≡ ended a
unfolding line always
line-ended a = refl

-- Three properties of each member at once.
all_three : {A : Type 0} (P Q S : A → Type 0) (l : List A) → All P l → All Q l → All S l → All (λ a. P a × Q a × S a) l
unfolding All
all_three P Q S [] a b c = tt
all_three P Q S (x ∷ l) a b c = ((a.0, b.0, c.0), all_three P Q S l a.1 b.1 c.1)

sections-exact : Exact read_sections PlainRight write_four
unfolding read_sections
sections-exact =
    same-exact read_sections PlainRight write_four
    (then-exact (λ x. x.sizes) sizes-exact
    (λ z x _ e. ap (λ y. y.sizes) (sym e.1.1.1.1)) λ z hz.
    then-exact (λ x. x.rows) (equations-exact z (size-bounds z hz) (equations z))
    (λ rows x _ e. ap (λ y. y.rows) (sym e.1.1.1)) λ rows hr.
    then-exact (λ x. pos (length x.relations))
    (between-exact (pos 0) (pos most_relations) (always newline) (le_z_yes tt) (le_z_yes tt) always-newline)
    (λ count x hc e. sym (pos-nat_abs-nonneg ((between-iff (pos 0) (pos most_relations) count).0 hc).0) ∙ ap pos (sym e.0.0)) λ count hc.
    then-exact (λ x. x.relations) (relations-exact z (size-bounds z hz) (nat_abs count))
    (λ relations x _ e. ap (λ y. y.relations) (sym e.1)) λ relations he.
    then-exact (λ x. x.order) (order-exact z.m (size-bounds z hz).few)
    (λ order x _ e. ap (λ y. y.order) (sym e)) λ order ho.
    nothing-exact (record { sizes = z; rows = rows; relations = relations; order = order }))
    (λ _. refl) good best bytes
  where
    Whole : Sheet → Type 0
    Whole x =
        T (sizes_right_of x.sizes)
        × (((length x.rows ≡ equations x.sizes) × All (EquationRight x.sizes) x.rows)
        × ((between (pos 0) (pos most_relations) (pos (length x.relations)) ≡ 0)
        × (((length x.relations ≡ length x.relations) × All (RelationGood x.sizes) x.relations)
        × (OrderRight x.sizes.m x.order × (x ≡ x)))))

    good : (x : Sheet) → PlainRight x → Whole x
    good x h =
        let v = h.0.valid in
        let z = x.sizes in (
          v.sizes,
          (
            (
              v.row_count,
              all_three StoreRow (λ r. T (row_right_of z r)) ZeroSide x.rows v.row-shapes
                  ((every-all (row_right_of z) x.rows).0 v.rows_right) h.1,
            ),
            (
              (between-iff (pos 0) (pos most_relations) (pos (length x.relations))).1
                  (pos-nonneg (length x.relations), pos-≤ℤ.1 ((count_right-iff (length x.relations)).0 v.relation-count)),
              (
                (
                  refl,
                  all_three (λ e. StoreRow e.row) (λ e. T (relation_right_of z e)) (λ e. ZeroSide e.row) x.relations
                      v.relation-shapes ((every-all (relation_right_of z) x.relations).0 v.relations-right) h.2,
                ),
                (h.0.order-right, refl),
              ),
            ),
          ),
        )

    best : (x : Sheet) → Whole x → PlainRight x
    best x h =
        let z = x.sizes in
        let rows = h.1.0.1 in
        let relations = h.1.1.1.0.1 in (
          record {
            valid = record {
              sizes = h.0;
              row_count = h.1.0.0;
              row-shapes = all-mono (EquationRight z) StoreRow (λ r i. i.0) x.rows rows;
              rows_right = (every-all (row_right_of z) x.rows).1
                  (all-mono (EquationRight z) (λ r. T (row_right_of z r)) (λ r i. i.1) x.rows rows);
              relation-count = (count_right-iff (length x.relations)).1
                  (pos-≤ℤ.0 ((between-iff (pos 0) (pos most_relations) _).0 h.1.1.0).1);
              relation-shapes = all-mono (RelationGood z) (λ e. StoreRow e.row) (λ e i. i.0) x.relations relations;
              relations-right = (every-all (relation_right_of z) x.relations).1
                  (all-mono (RelationGood z) (λ e. T (relation_right_of z e)) (λ e i. i.1) x.relations relations);
            };
            order-right = h.1.1.1.1.0;
          },
          all-mono (EquationRight z) ZeroSide (λ r i. i.2) x.rows rows,
          all-mono (RelationGood z) (λ e. ZeroSide e.row) (λ e i. i.2) x.relations relations,
        )

    bytes : (x : Sheet) → Whole x → write_four x
        ≡ sizes_lines x.sizes
        ++ (flatten (map (λ r. line (equation_numbers x.sizes.l r)) x.rows)
        ++ (ended (pos (length x.relations))
        ++ (flatten (map (λ e. line (relation_line x.sizes.l e)) x.relations) ++ (line (order_line x.order) ++ []))))
    bytes x h =
        write_four-sections x
        ∙ ap₂ (λ n d. line (pos 3 ∷ pos x.sizes.m ∷ x.sizes.l ∷ x.sizes.t ∷ [])
        ++ (line (pos n ∷ [])
        ++ (flatten (map (λ r. line (equation_numbers x.sizes.l r)) x.rows)
        ++ (d ++ (flatten (map (λ e. line (relation_line x.sizes.l e)) x.relations) ++ (line (order_line x.order) ++ []))))))
        h.1.0.0 (line-ended (pos (length x.relations)))
        ∙ sym (append_assoc (line (pos 3 ∷ pos x.sizes.m ∷ x.sizes.l ∷ x.sizes.t ∷ [])) (line (pos (equations x.sizes) ∷ [])) _)

-- ---- the whole sheet

-- Steps that are read in a row may be read together first.
then-assoc : {A B C : Type 0} (r : Read A) (f : A → List ℕ → Read B) (g : B → List ℕ → Read C) (h : A → List ℕ → Read C)
    → ((a : A) (l : List ℕ) → h a l ≡ then_read (f a l) g) → then_read r h ≡ then_read (then_read r f) g
unfolding then_read
then-assoc (got a l) f g h e = e a l
then-assoc (fault n) f g h e = refl

read_sheet-sections : (bytes : List ℕ) → read_sheet_of bytes ≡ then_read (read_sections bytes) read_rest
unfolding read_sheet_of read_sections
read_sheet-sections bytes =
    then-assoc (read_sizes bytes) _ read_rest _ λ z bytes₁.
    then-assoc (read_equations z (equations z) bytes₁) _ read_rest _ λ rows bytes₂.
    then-assoc (field (between (pos 0) (pos most_relations)) (always newline) bytes₂) _ read_rest _ λ count bytes₃.
    then-assoc (read_relations z (nat_abs count) bytes₃) _ read_rest _ λ relations bytes₄.
    then-assoc (read_order z.m bytes₄) _ read_rest _ λ order bytes₅. refl

read_end-got : (x y : Sheet) (more rest : List ℕ) → read_end x more ≡ got y rest → (x ≡ y) × (more ≡ []) × (rest ≡ [])
unfolding read_end
read_end-got x y [] rest e = let f = got-inj x y [] rest e in (f.0, refl, sym f.1)
read_end-got x y (b ∷ more) rest e = absurd (fault-got 4 y rest e)

-- ---- the fifth section

abbrev row_sides : Sheet → List Polynomial
row_sides x = map (λ r. r.right) x.rows

abbrev relation_sides : Sheet → List Polynomial
relation_sides x = map (λ e. e.row.right) x.relations

abbrev side_bytes : List Polynomial → List ℕ
side_bytes ps = flatten (map (λ p. line (side_line p)) ps)

-- A sheet with these sides in the place of its own.
abbrev sided : Sheet → List Polynomial → List Polynomial → Sheet
sided y ps qs =
    record {
      sizes = y.sizes;
      rows = zip_with put_side_of y.rows ps;
      relations = zip_with put_relation_side y.relations qs;
      order = y.order;
    }

put_sides : (rows : List Row) (ps : List Polynomial) → length ps ≡ length rows → map (λ r. r.right) (zip_with put_side_of rows ps) ≡ ps
unfolding zip_with put_side_of
put_sides [] [] e = refl
put_sides [] (p ∷ ps) e = absurd (suc-ne-zero (length ps) e)
put_sides (r ∷ rows) [] e = absurd (suc-ne-zero (length rows) (sym e))
put_sides (r ∷ rows) (p ∷ ps) e = ap (λ l. p ∷ l) (put_sides rows ps (suc_inj e))

put-relation-sides : (es : List Relation) (ps : List Polynomial) → length ps ≡ length es
    → map (λ e. e.row.right) (zip_with put_relation_side es ps) ≡ ps
unfolding zip_with put_relation_side put_side_of
put-relation-sides [] [] e = refl
put-relation-sides [] (p ∷ ps) e = absurd (suc-ne-zero (length ps) e)
put-relation-sides (x ∷ es) [] e = absurd (suc-ne-zero (length es) (sym e))
put-relation-sides (x ∷ es) (p ∷ ps) e = ap (λ l. p ∷ l) (put-relation-sides es ps (suc_inj e))

abbrev side_count : Sheet → ℕ
side_count y = length y.rows + length y.relations

-- The section has a side (SCOPE 4.35).
judge_side_count-iff : (n : ℕ) (v : ℤ) → (judge_side_count n v ≡ 0) ↔ ((0 < n) × (v ≡ pos n))
unfolding judge_side_count
judge_side_count-iff zero v = (λ e. absurd (none (is_zero_ℤ v) e), λ h. absurd (not-suc-le-zero h.0))
  where
    none : (t : Bool) → ◌≡◌ {A = ℕ} (cond t 3 2) 0 → ⊥
    none true e = suc-ne-zero 2 e
    none false e = suc-ne-zero 1 e
judge_side_count-iff (suc n) v = (
  λ e. (zero-lt-suc n, just (suc n) v e),
  λ h. (between-iff (pos (suc n)) (pos (suc n)) v).1 (rw h.1 (≤ℤ_refl (pos (suc n)), ≤ℤ_refl (pos (suc n)))),
)

-- What the fifth section makes of a sheet.
abbrev Fifth : Sheet → Sheet → Type 0
Fifth y x =
    (judge_side_count (side_count y) (pos (side_count y)) ≡ 0)
    × (((length (row_sides x) ≡ length y.rows) × Sides (length y.relations) true (row_sides x))
    × (((length (relation_sides x) ≡ length y.relations) × Sides 0 (every is_zero_of (row_sides x)) (relation_sides x))
    × (x ≡ sided y (row_sides x) (relation_sides x))))

fifth-exact : (y : Sheet) → side_count y ≤ most → Exact (read_fifth y) (Fifth y)
    (λ x. ended (pos (side_count y)) ++ (side_bytes (row_sides x) ++ (side_bytes (relation_sides x) ++ [])))
unfolding read_fifth
fifth-exact y few =
    then-exact (λ x. pos (side_count y))
    (field-exact (judge_side_count (side_count y)) (always newline)
    (λ v h. omega (arith, few, ap nat_abs ((judge_side_count-iff (side_count y) v).0 h).1)) always-newline)
    (λ k x hk _. ((judge_side_count-iff (side_count y) k).0 hk).1) λ k hk.
    then-exact row_sides (sides-exact (length y.relations) (length y.rows) true)
    (λ ps x hp e. sym (ap row_sides e.1 ∙ put_sides y.rows ps hp.0)) λ ps hp.
    then-exact relation_sides (sides-exact 0 (length y.relations) (every is_zero_of ps))
    (λ qs x hq e. sym (ap relation_sides e ∙ put-relation-sides y.relations qs hq.0)) λ qs hq.
    nothing-exact (sided y ps qs)

-- ---- the whole sheet

write_sheet-parts : (x : Sheet) → write_sheet_of x ≡ write_four x ++ lines (side_lines (sides_of x))
unfolding write_sheet_of sheet_lines
write_sheet-parts x = lines-append (four_lines x) (side_lines (sides_of x))

sides-count : (x : Sheet) → length (sides_of x) ≡ side_count x
unfolding sides_of
sides-count x =
    length-append (row_sides x) (relation_sides x)
    ∙ ap₂ ◌+◌ (length-map x.rows (λ r. r.right)) (length-map x.relations (λ e. e.row.right))

-- The section is there exactly if some side is not zero.
section-bytes : (x : Sheet) → T (not (every is_zero_of (sides_of x)))
    → lines (side_lines (sides_of x)) ≡ ended (pos (side_count x)) ++ (side_bytes (row_sides x) ++ (side_bytes (relation_sides x) ++ []))
unfolding side_lines sides_of lines flatten
section-bytes x h =
    ap lines (cond-not (every is_zero_of (sides_of x)) [] _ h)
    ∙ ap₂ ◌++◌ (ap (λ n. line (pos n ∷ [])) (sides-count x) ∙ line-ended (pos (side_count x)))
    (lines-map side_line (sides_of x) ∙ ap flatten (map-append (λ p. line (side_line p)) (row_sides x) (relation_sides x))
    ∙ flatten-append (map (λ p. line (side_line p)) (row_sides x)) (map (λ p. line (side_line p)) (relation_sides x))
    ∙ ap (λ l. side_bytes (row_sides x) ++ l) (sym (append-nil (side_bytes (relation_sides x)))))

no-section : (x : Sheet) → T (every is_zero_of (sides_of x)) → lines (side_lines (sides_of x)) ≡ []
unfolding side_lines lines flatten
no-section x h = ap lines (cond-passed (every is_zero_of (sides_of x)) [] _ h)

abbrev zero_polynomial : Polynomial
zero_polynomial = replicate coefficient_count (pos 0)

-- The sheet without its sides.
abbrev plain : Sheet → Sheet
plain x = sided x (replicate (length x.rows) zero_polynomial) (replicate (length x.relations) zero_polynomial)

-- The four sections do not know the sides.
four_same : (x y : Sheet) → y.sizes ≡ x.sizes → y.order ≡ x.order → length y.rows ≡ length x.rows
    → length y.relations ≡ length x.relations
    → map (equation_numbers x.sizes.l) y.rows ≡ map (equation_numbers x.sizes.l) x.rows
    → map (relation_line x.sizes.l) y.relations ≡ map (relation_line x.sizes.l) x.relations → write_four y ≡ write_four x
four_same x y e f g h a b = λ i.
    lines (
    ((pos 3 ∷ pos (e i).m ∷ (e i).l ∷ (e i).t ∷ []) ∷ (pos (g i) ∷ []) ∷ rows i)
    ++ ((pos (h i) ∷ []) ∷ relations i) ++ (order_line (f i) ∷ []))
  where
    rows : map (equation_numbers y.sizes.l) y.rows ≡ map (equation_numbers x.sizes.l) x.rows
    rows = ap (λ z. map (equation_numbers z.l) y.rows) e ∙ a

    relations : map (relation_line y.sizes.l) y.relations ≡ map (relation_line x.sizes.l) x.relations
    relations = ap (λ z. map (relation_line z.l) y.relations) e ∙ b

same-equations : (l : ℤ) (rows : List Row) (ps : List Polynomial) → length ps ≡ length rows
    → map (equation_numbers l) (zip_with put_side_of rows ps) ≡ map (equation_numbers l) rows
unfolding zip_with put_side_of equation_numbers
same-equations l [] ps e = refl
same-equations l (r ∷ rows) [] e = absurd (suc-ne-zero (length rows) (sym e))
same-equations l (r ∷ rows) (p ∷ ps) e = ap (λ k. equation_numbers l r ∷ k) (same-equations l rows ps (suc_inj e))

same-relations : (l : ℤ) (es : List Relation) (ps : List Polynomial) → length ps ≡ length es
    → map (relation_line l) (zip_with put_relation_side es ps) ≡ map (relation_line l) es
unfolding zip_with put_relation_side put_side_of relation_line equation_numbers
same-relations l [] ps e = refl
same-relations l (x ∷ es) [] e = absurd (suc-ne-zero (length es) (sym e))
same-relations l (x ∷ es) (p ∷ ps) e = ap (λ k. relation_line l x ∷ k) (same-relations l es ps (suc_inj e))

module _ (y : Sheet) (ps qs : List Polynomial) (e : length ps ≡ length y.rows) (f : length qs ≡ length y.relations) where
  sided-rows : length (sided y ps qs).rows ≡ length y.rows
  sided-rows = length-zip_with put_side_of y.rows ps (sym e)

  sided-relations : length (sided y ps qs).relations ≡ length y.relations
  sided-relations = length-zip_with put_relation_side y.relations qs (sym f)

  sided-four : write_four (sided y ps qs) ≡ write_four y
  sided-four =
      four_same y (sided y ps qs) refl refl sided-rows sided-relations (same-equations y.sizes.l y.rows ps e)
      (same-relations y.sizes.l y.relations qs f)

-- ---- right rows with other sides

side-changed : (z : Sizes) (r : Row) (p : Polynomial) → StoreRow r → T (row_right_of z r) → StorePolynomial p
    → StoreRow (put_side_of r p) × T (row_right_of z (put_side_of r p))
unfolding put_side_of
side-changed z r p s h side = blocks-row_right z (put_side_of r p) (row_right-blocks z r s h) side

relation-changed : (z : Sizes) (e : Relation) (p : Polynomial) → StoreRow e.row → T (relation_right_of z e) → StorePolynomial p
    → StoreRow (put_relation_side e p).row × T (relation_right_of z (put_relation_side e p))
unfolding put_relation_side relation_right_of
relation-changed z e p s h side =
    let f = (T-&& (small e.index) (row_right_of z e.row)).0 h in
    let g = side-changed z e.row p s f.1 side in
    (g.0, (T-&& (small e.index) (row_right_of z (put_side_of e.row p))).1 (f.0, g.1))

store-zero : StorePolynomial zero_polynomial
unfolding every small
store-zero = (refl, tt)

module _ (y : Sheet) (right : SheetRight y) (ps qs : List Polynomial) (e : length ps ≡ length y.rows) (f : length qs ≡ length y.relations)
    (hp : All StorePolynomial ps) (hq : All StorePolynomial qs) where
  abbrev z : Sizes
  z = y.sizes

  v : Valid z y.rows y.relations
  v = right.valid

  row-parts : All (λ r. StoreRow r × T (row_right_of z r)) (sided y ps qs).rows
  row-parts =
      all-zip_with (λ r. StoreRow r × T (row_right_of z r)) StorePolynomial (λ r. StoreRow r × T (row_right_of z r)) put_side_of
      (λ r p a b. side-changed z r p a.0 a.1 b) y.rows ps
      (all_both StoreRow (λ r. T (row_right_of z r)) y.rows v.row-shapes ((every-all (row_right_of z) y.rows).0 v.rows_right)) hp

  relation-parts : All (λ x. StoreRow x.row × T (relation_right_of z x)) (sided y ps qs).relations
  relation-parts =
      all-zip_with (λ x. StoreRow x.row × T (relation_right_of z x)) StorePolynomial (λ x. StoreRow x.row × T (relation_right_of z x))
      put_relation_side (λ x p a b. relation-changed z x p a.0 a.1 b) y.relations qs
      (all_both (λ x. StoreRow x.row) (λ x. T (relation_right_of z x)) y.relations v.relation-shapes
      ((every-all (relation_right_of z) y.relations).0 v.relations-right)) hq

  sided-right : SheetRight (sided y ps qs)
  sided-right =
      record {
        valid = record {
          sizes = v.sizes;
          row_count = sided-rows y ps qs e f ∙ v.row_count;
          row-shapes = all-mono (λ r. StoreRow r × T (row_right_of z r)) StoreRow (λ r a. a.0) (sided y ps qs).rows row-parts;
          rows_right = (every-all (row_right_of z) (sided y ps qs).rows).1
              (all-mono (λ r. StoreRow r × T (row_right_of z r)) (λ r. T (row_right_of z r)) (λ r a. a.1) (sided y ps qs).rows row-parts);
          relation-count = subst (λ n. T (count_right n)) (sym (sided-relations y ps qs e f)) v.relation-count;
          relation-shapes = all-mono (λ x. StoreRow x.row × T (relation_right_of z x)) (λ x. StoreRow x.row) (λ x a. a.0)
              (sided y ps qs).relations relation-parts;
          relations-right = (every-all (relation_right_of z) (sided y ps qs).relations).1
              (all-mono (λ x. StoreRow x.row × T (relation_right_of z x)) (λ x. T (relation_right_of z x)) (λ x a. a.1)
              (sided y ps qs).relations relation-parts);
        };
        order-right = right.order-right;
      }

-- ---- the sheet without its sides, and with them again

zero-count : (n : ℕ) → length (replicate n zero_polynomial) ≡ n
zero-count n = length-replicate n zero_polynomial

plain-right : (x : Sheet) → SheetRight x → PlainRight (plain x)
unfolding ZeroSide
plain-right x h =
    let e = zero-count (length x.rows) in
    let f = zero-count (length x.relations) in (
      sided-right x h _ _ e f (all_replicate StorePolynomial (length x.rows) zero_polynomial store-zero)
          (all_replicate StorePolynomial (length x.relations) zero_polynomial store-zero),
      (all_map (λ p. p ≡ zero_polynomial) (λ r. r.right) (plain x).rows).0
          (subst (All (λ p. p ≡ zero_polynomial)) (sym (put_sides x.rows (replicate (length x.rows) zero_polynomial) e))
          (all_replicate (λ p. p ≡ zero_polynomial) (length x.rows) zero_polynomial refl)),
      (all_map (λ p. p ≡ zero_polynomial) (λ e. e.row.right) (plain x).relations).0
          (subst (All (λ p. p ≡ zero_polynomial)) (sym (put-relation-sides x.relations (replicate (length x.relations) zero_polynomial) f))
          (all_replicate (λ p. p ≡ zero_polynomial) (length x.relations) zero_polynomial refl)),
    )

rows_back : (rows : List Row) (zs : List Polynomial) → length zs ≡ length rows
    → zip_with put_side_of (zip_with put_side_of rows zs) (map (λ r. r.right) rows) ≡ rows
unfolding zip_with put_side_of
rows_back [] zs e = refl
rows_back (r ∷ rows) [] e = absurd (suc-ne-zero (length rows) (sym e))
rows_back (r ∷ rows) (p ∷ zs) e = ap (λ l. r ∷ l) (rows_back rows zs (suc_inj e))

relations-back : (es : List Relation) (zs : List Polynomial) → length zs ≡ length es
    → zip_with put_relation_side (zip_with put_relation_side es zs) (map (λ e. e.row.right) es) ≡ es
unfolding zip_with put_relation_side put_side_of
relations-back [] zs e = refl
relations-back (x ∷ es) [] e = absurd (suc-ne-zero (length es) (sym e))
relations-back (x ∷ es) (p ∷ zs) e = ap (λ l. x ∷ l) (relations-back es zs (suc_inj e))

plain_back : (x : Sheet) → sided (plain x) (row_sides x) (relation_sides x) ≡ x
plain_back x = λ i. record {
  sizes = x.sizes;
  rows = rows_back x.rows (replicate (length x.rows) zero_polynomial) (zero-count (length x.rows)) i;
  relations = relations-back x.relations (replicate (length x.relations) zero_polynomial) (zero-count (length x.relations)) i;
  order = x.order;
}

-- The number of sides is small enough to be read.
few-sides : (x : Sheet) → SheetRight x → side_count x ≤ most
few-sides x h = omega (
  arith,
  h.valid.row_count,
  (size-bounds x.sizes h.valid.sizes).few-equations,
  (count_right-iff (length x.relations)).0 h.valid.relation-count,
)

-- What the section says of a sheet with its sides.
store-sides : (x : Sheet) → SheetRight x → All StorePolynomial (row_sides x) × All StorePolynomial (relation_sides x)
unfolding Shaped relation_right_of
store-sides x h =
    let z = x.sizes in
    let v = h.valid in (
      (all_map StorePolynomial (λ r. r.right) x.rows).1
          (all-mono (λ r. StoreRow r × T (row_right_of z r)) (λ r. StorePolynomial r.right) (λ r a. (a.0.2, row_right-side z r a.1)) x.rows
          (all_both StoreRow (λ r. T (row_right_of z r)) x.rows v.row-shapes ((every-all (row_right_of z) x.rows).0 v.rows_right))),
      (all_map StorePolynomial (λ e. e.row.right) x.relations).1
          (all-mono (λ e. StoreRow e.row × T (relation_right_of z e)) (λ e. StorePolynomial e.row.right)
          (λ e a. (a.0.2, row_right-side z e.row ((T-&& (small e.index) (row_right_of z e.row)).0 a.1).1)) x.relations
          (all_both (λ e. StoreRow e.row) (λ e. T (relation_right_of z e)) x.relations v.relation-shapes
          ((every-all (relation_right_of z) x.relations).0 v.relations-right))),
    )

-- Some side is not zero: among the equations' or, if none there, among the relations'.
some-side : (ps qs : List Polynomial) → T (not (every is_zero_of (ps ++ qs))) → T (every is_zero_of ps) → T (not (every is_zero_of qs))
some-side ps qs h z = not_T (every is_zero_of qs) (λ w. T_not (every is_zero_of (ps ++ qs)) h (rw (every_append is_zero_of ps qs)
    ((T-&& (every is_zero_of ps) (every is_zero_of qs)).1 (z, w))))

plain-fifth : (x : Sheet) → SheetRight x → T (not (every is_zero_of (sides_of x))) → Fifth (plain x) x
unfolding sides_of every
plain-fifth x h some =
    let a = zero-count (length x.rows) in
    let b = zero-count (length x.relations) in
    let e = sided-rows x (replicate (length x.rows) zero_polynomial) (replicate (length x.relations) zero_polynomial) a b in
    let f = sided-relations x (replicate (length x.rows) zero_polynomial) (replicate (length x.relations) zero_polynomial) a b in
    let stored = store-sides x h in (
      (judge_side_count-iff (side_count (plain x)) (pos (side_count (plain x)))).1
          (omega (arith, e, f, sides-count x, some-sides (sides_of x) some), refl),
      (
        (length-map x.rows (λ r. r.right) ∙ sym e, (sides-iff (length (plain x).relations) true (row_sides x)).1 (stored.0, first f)),
        (
          (
            length-map x.relations (λ e. e.row.right) ∙ sym f,
            (sides-iff 0 (every is_zero_of (row_sides x)) (relation_sides x)).1
                (stored.1, λ n _ _. some-side (row_sides x) (relation_sides x) some n),
          ),
          sym (plain_back x),
        ),
      ),
    )
  where
    some-sides : (l : List Polynomial) → T (not (every is_zero_of l)) → 0 < length l
    some-sides [] h = absurd h
    some-sides (p ∷ l) h = zero-lt-suc (length l)

    no-members : (l : List Polynomial) → length l ≡ 0 → l ≡ []
    no-members [] e = refl
    no-members (p ∷ l) e = absurd (suc-ne-zero (length l) e)

    first : length (plain x).relations ≡ length x.relations → T true → length (plain x).relations ≡ 0 → 0 < length (row_sides x)
        → T (not (every is_zero_of (row_sides x)))
    first f _ none _ =
        subst (λ l. T (not (every is_zero_of l)))
        (ap (λ q. row_sides x ++ q) (no-members (relation_sides x) (length-map x.relations (λ e. e.row.right) ∙ sym f ∙ none))
        ∙ append-nil (row_sides x)) some

-- Sides that are all zero are the sides of the plain sheet.
zero-sides : (x : Sheet) → SheetRight x → T (every is_zero_of (sides_of x)) → plain x ≡ x
unfolding sides_of zip_with put_side_of put_relation_side All every
zero-sides x h z =
    let stored = store-sides x h in
    let parts = (T-&& (every is_zero_of (row_sides x)) (every is_zero_of (relation_sides x))).0 (subst T (every_append is_zero_of (row_sides x) (relation_sides x)) z) in
    λ i. record {
      sizes = x.sizes;
      rows = rows_same x.rows stored.0 parts.0 i;
      relations = relations-same x.relations stored.1 parts.1 i;
      order = x.order;
    }
  where
    zero_of : (p : Polynomial) → length p ≡ coefficient_count → T (is_zero_of p) → p ≡ zero_polynomial
    zero_of p e z = zero-list p z ∙ ap (λ n. replicate n (pos 0)) e

    rows_same : (rows : List Row) → All StorePolynomial (map (λ r. r.right) rows) → T (every is_zero_of (map (λ r. r.right) rows))
        → zip_with put_side_of rows (replicate (length rows) zero_polynomial) ≡ rows
    rows_same [] a z = refl
    rows_same (r ∷ rows) a z =
        let f = (T-&& (is_zero_of r.right) (every is_zero_of (map (λ r. r.right) rows))).0 z in
        ap₂ (λ q l. record { blocks = r.blocks; right = q } ∷ l) (sym (zero_of r.right a.0.0 f.0)) (rows_same rows a.1 f.1)

    relations-same : (es : List Relation) → All StorePolynomial (map (λ e. e.row.right) es)
        → T (every is_zero_of (map (λ e. e.row.right) es)) → zip_with put_relation_side es (replicate (length es) zero_polynomial) ≡ es
    relations-same [] a z = refl
    relations-same (x ∷ es) a z =
        let f = (T-&& (is_zero_of x.row.right) (every is_zero_of (map (λ e. e.row.right) es))).0 z in
        ap₂ (λ q l. record { index = x.index; row = record { blocks = x.row.blocks; right = q } } ∷ l)
        (sym (zero_of x.row.right a.0.0 f.0)) (relations-same es a.1 f.1)

-- ---- written and read back

read_rest-none : (x : Sheet) → read_rest x [] ≡ got x []
unfolding read_rest
read_rest-none x = refl

read_rest-some : (x : Sheet) (bytes : List ℕ) → bytes ≢ [] → read_rest x bytes ≡ then_read (read_fifth x bytes) read_end
unfolding read_rest
read_rest-some x [] n = absurd (n refl)
read_rest-some x (b ∷ bytes) n = refl

ended_some : (a : ℤ) (l : List ℕ) → ended a ++ l ≢ []
ended_some a l e = go (decimal a) e
  where
    go : (d : List ℕ) → (d ++ (always newline a ∷ [])) ++ l ≡ [] → ⊥
    go [] e = nil≢cons (sym e)
    go (x ∷ d) e = nil≢cons (sym e)

-- What is written is read.
pub sheet-read-written : (x : Sheet) → SheetRight x → read_sheet_of (write_sheet_of x) ≡ got x []
unfolding then_read read_end
sheet-read-written x h =
    read_sheet-sections (write_sheet_of x)
    ∙ ap (λ l. then_read (read_sections l) read_rest)
    (write_sheet-parts x ∙ ap (λ l. l ++ section) (sym (sided-four x _ _ (zero-count (length x.rows)) (zero-count (length x.relations)))))
    ∙ ap (λ r. then_read r read_rest) (sections-exact.read-written (plain x) section (plain-right x h))
    ∙ cases (every is_zero_of (sides_of x)) refl
  where
    section : List ℕ
    section = lines (side_lines (sides_of x))

    cases : (t : Bool) → every is_zero_of (sides_of x) ≡ t → read_rest (plain x) section ≡ got x []
    cases true e =
        ap (read_rest (plain x)) (no-section x (rw e tt)) ∙ read_rest-none (plain x) ∙ ap (λ y. got y []) (zero-sides x h (rw e tt))
    cases false e =
        let some : T (not (every is_zero_of (sides_of x))) = rw e tt in
        let right = (plain-right x h).0 in
        let bytes = ended (pos (side_count (plain x))) ++ (side_bytes (row_sides x) ++ (side_bytes (relation_sides x) ++ [])) in
        ap (read_rest (plain x)) (section-bytes x some ∙ ap (λ n. ended (pos n) ++ (side_bytes (row_sides x) ++ (side_bytes (relation_sides x) ++ []))) count)
        ∙ read_rest-some (plain x) bytes (ended_some (pos (side_count (plain x))) _)
        ∙ ap (λ r. then_read r read_end)
        (ap (read_fifth (plain x)) (sym (append-nil bytes))
        ∙ (fifth-exact (plain x) (few-sides (plain x) right)).read-written x [] (plain-fifth x h some))
      where
        count : side_count x ≡ side_count (plain x)
        count =
            let ps = replicate (length x.rows) zero_polynomial in
            let qs = replicate (length x.relations) zero_polynomial in
            sym (ap₂ ◌+◌ (sided-rows x ps qs (zero-count (length x.rows)) (zero-count (length x.relations)))
            (sided-relations x ps qs (zero-count (length x.rows)) (zero-count (length x.relations))))

pub read-written : (z : Sizes) (rows : List Row) (relations : List Relation) (order : List ℕ) → Valid z rows relations
    → OrderRight z.m order
    → read_sheet_of (write_sheet_of (record { sizes = z; rows = rows; relations = relations; order = order }))
    ≡ got (record { sizes = z; rows = rows; relations = relations; order = order }) []
read-written z rows relations order v h =
    sheet-read-written (record { sizes = z; rows = rows; relations = relations; order = order }) (record { valid = v; order-right = h })

-- A plain sheet has no section.
plain-section : (y : Sheet) → PlainRight y → T (every is_zero_of (sides_of y))
unfolding sides_of ZeroSide
plain-section y h =
    rw (every_append is_zero_of (row_sides y) (relation_sides y))
    ((T-&& (every is_zero_of (row_sides y)) (every is_zero_of (relation_sides y))).1 (
      (every-all is_zero_of (row_sides y)).1 ((all_map (λ p. T (is_zero_of p)) (λ r. r.right) y.rows).1
          (all-mono ZeroSide (λ r. T (is_zero_of r.right)) (λ r e. subst (λ p. T (is_zero_of p)) (sym e) (is_zero-replicate coefficient_count)) y.rows h.1)),
      (every-all is_zero_of (relation_sides y)).1 ((all_map (λ p. T (is_zero_of p)) (λ e. e.row.right) y.relations).1
          (all-mono (λ e. ZeroSide e.row) (λ e. T (is_zero_of e.row.right)) (λ e f. subst (λ p. T (is_zero_of p)) (sym f) (is_zero-replicate coefficient_count))
          y.relations h.2)),
    ))

-- A sheet that the fifth section has made is right, and its section is what was read.
module _ (y x : Sheet) (right : SheetRight y) (w : Fifth y x) where
  fifth-lengths : (length (row_sides x) ≡ length y.rows) × (length (relation_sides x) ≡ length y.relations)
  fifth-lengths = (w.1.0.0, w.1.1.0.0)

  fifth-stored : All StorePolynomial (row_sides x) × All StorePolynomial (relation_sides x)
  fifth-stored =
      (((sides-iff (length y.relations) true (row_sides x)).0 w.1.0.1).0, ((sides-iff 0 (every is_zero_of (row_sides x)) (relation_sides x)).0 w.1.1.0.1).0)

  fifth-right : SheetRight x
  fifth-right =
      subst SheetRight (sym w.1.1.1)
      (sided-right y right (row_sides x) (relation_sides x) fifth-lengths.0 fifth-lengths.1 fifth-stored.0 fifth-stored.1)

  fifth-some : T (not (every is_zero_of (sides_of x)))
  unfolding sides_of
  fifth-some = not_T (every is_zero_of (sides_of x)) (λ z.
      let parts = (T-&& (every is_zero_of (row_sides x)) (every is_zero_of (relation_sides x))).0
      (subst T (every_append is_zero_of (row_sides x) (relation_sides x)) z) in
      clash parts.0 parts.1 (relation_sides x) refl)
    where
      clash : T (every is_zero_of (row_sides x)) → T (every is_zero_of (relation_sides x)) → (l : List Polynomial) → relation_sides x ≡ l → ⊥
      clash a b [] e =
          T_not (every is_zero_of (row_sides x))
          (((sides-iff (length y.relations) true (row_sides x)).0 w.1.0.1).1 tt (sym fifth-lengths.1 ∙ ap length e)
          (omega (arith, fifth-lengths.0, fifth-lengths.1, ap length e, ((judge_side_count-iff (side_count y) _).0 w.0).0))) a
      clash a b (q ∷ l) e =
          T_not (every is_zero_of (relation_sides x))
          (((sides-iff 0 (every is_zero_of (row_sides x)) (relation_sides x)).0 w.1.1.0.1).1 a refl (subst (λ k. 0 < length k) (sym e) (omega arith))) b

  fifth-written : write_sheet_of x ≡ write_four y ++ (ended (pos (side_count y)) ++ (side_bytes (row_sides x) ++ (side_bytes (relation_sides x) ++ [])))
  fifth-written =
      write_sheet-parts x
      ∙ ap₂ ◌++◌
      (ap write_four w.1.1.1 ∙ sided-four y (row_sides x) (relation_sides x) fifth-lengths.0 fifth-lengths.1)
      (section-bytes x fifth-some ∙ ap (λ n. ended (pos n) ++ (side_bytes (row_sides x) ++ (side_bytes (relation_sides x) ++ []))) count)
    where
      count : side_count x ≡ side_count y
      count = ap₂ ◌+◌ (sym (length-map x.rows (λ r. r.right)) ∙ fifth-lengths.0) (sym (length-map x.relations (λ e. e.row.right)) ∙ fifth-lengths.1)

-- What is read is a valid system with a right order, and would be written as it was.
pub read_right : (bytes : List ℕ) (x : Sheet) (rest : List ℕ) → read_sheet_of bytes ≡ got x rest
    → SheetRight x × (write_sheet_of x ≡ bytes) × (rest ≡ [])
read_right bytes x rest e =
    let (y, more, d, f) = got-in-two (read_sections bytes) read_rest x rest (sym (read_sheet-sections bytes) ∙ e) in
    let h = sections-exact.written_read bytes y more d in
    by y more h.0 h.1 f
  where
    by : (y : Sheet) (more : List ℕ) → PlainRight y → bytes ≡ write_four y ++ more → read_rest y more ≡ got x rest
        → SheetRight x × (write_sheet_of x ≡ bytes) × (rest ≡ [])
    by y [] h b f =
        let g = got-inj y x [] rest (sym (read_rest-none y) ∙ f) in (
          subst SheetRight g.0 h.0,
          ap write_sheet_of (sym g.0) ∙ write_sheet-parts y ∙ ap (λ l. write_four y ++ l) (no-section y (plain-section y h)) ∙ sym b,
          sym g.1,
        )
    by y (c ∷ more) h b f =
        let (v, left, d, k) = got-in-two (read_fifth y (c ∷ more)) read_end x rest (sym (read_rest-some y (c ∷ more) (λ z. nil≢cons (sym z))) ∙ f) in
        let g = read_end-got v x left rest k in
        let w = (fifth-exact y (few-sides y h.0)).written_read (c ∷ more) v left d in
        let section = ended (pos (side_count y)) ++ (side_bytes (row_sides v) ++ (side_bytes (relation_sides v) ++ [])) in (
          subst SheetRight g.0 (fifth-right y v h.0 w.0),
          ap write_sheet_of (sym g.0) ∙ fifth-written y v h.0 w.0
              ∙ ap (λ l. write_four y ++ l) (sym (w.1 ∙ ap (λ l. section ++ l) g.1 ∙ append-nil section)) ∙ sym b,
          g.2,
        )

pub written_read : (bytes : List ℕ) (x : Sheet) (rest : List ℕ) → read_sheet_of bytes ≡ got x rest → (write_sheet_of x ≡ bytes) × (rest ≡ [])
written_read bytes x rest e = let h = read_right bytes x rest e in (h.1, h.2)

pub read-valid : (bytes : List ℕ) (x : Sheet) (rest : List ℕ) → read_sheet_of bytes ≡ got x rest → Valid x.sizes x.rows x.relations
read-valid bytes x rest e = (read_right bytes x rest e).0.valid

pub read-order : (bytes : List ℕ) (x : Sheet) (rest : List ℕ) → read_sheet_of bytes ≡ got x rest → OrderRight x.sizes.m x.order
read-order bytes x rest e = (read_right bytes x rest e).0.order-right

-- Exactly the bytes that are written of some valid sheet are read.
pub read-exactly : (bytes : List ℕ) (x : Sheet) → (read_sheet_of bytes ≡ got x []) ↔ (SheetRight x × (write_sheet_of x ≡ bytes))
read-exactly bytes x = (
  λ e. let h = read_right bytes x [] e in (h.0, h.1),
  λ h. ap read_sheet_of (sym h.1) ∙ sheet-read-written x h.0,
)
