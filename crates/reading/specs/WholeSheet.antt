-- A whole sheet: its sizes, its sections and its end.
--
-- Main definitions
--   read_unknowns, read_blocks   the two halves of a sheet's first line
--   read_count                  the number of equations
--   relation_section, order_section, read_sections   the sections after it
--   SheetRead                  a sheet that was read into stores, or refused
--
-- Main statements
--   sizes-is      the sizes are those two halves and the number of equations
--   sizes-right   sizes that were read are right
--   sheet-is      a sheet is its sizes, its sections and its end
use Rattle.std.specs.Prelude.{ℕ, ◌+◌, ◌≤◌, ◌≡◌, refl, true, ◌&&◌, T, length, drop, pos, neg_ℤ, nat_abs, ◌-ℤ◌}
use Rattle.std.proofs.Common.{le_refl, ap₂, ◌∙◌, subst, le-leb}
use Rattle.std.proofs.Math.Path.{sym, ap}
use mathlib.Core.List.{List, [], ◌∷◌, zip_with}
use Rattle.std.proofs.Math.IntN.{ℤ}
use Rattle.std.specs.Int.Signed.{le_z, non_neg}
use Rattle.rules.specs.Limits.{column_count, most_span, most_equations, most_relations}
use Rattle.rules.specs.Stores.{Sizes, equations, sizes_right_of, rows_of, relations_of}
use Rattle.rules.specs.Numbers.{space, newline, Read, got, fault, then_read, field, between}
use Rattle.rules.specs.Rows.{Row, Relation}
use Rattle.rules.specs.Sheets.{always, judge_lowest_of, Sheet, read_sizes, read_equations, read_relations, read_order, read_sides, read_fifth}
use Rattle.rules.specs.Sheets.{read_end, read_rest, read_sheet_of, put_side_of, put_relation_side, judge_side_count}
use Rattle.algebra.specs.Polynomials.{is_zero_of}
use Rattle.lists.specs.Padded.{pad_to}
use Rattle.rules.specs.SheetCalls.{ReadResult, read_refusal}
use Rattle.lists.specs.Tests.{both_true, every}
use Rattle.tokens.specs.Fields.{read_of, fault-of, then-got, then-fault, then-cong, then-then, then-parts, field-judged, size-between}
use Rattle.tokens.specs.Fields.{passed, between-zero}
use Rattle.reading.specs.Terms.{padded}
use Rattle.reading.specs.Equations.{got-value}
use Rattle.reading.specs.Sides.{side_section_of, all_sides, relation_sides, nothing_more, rest_section}
use Rattle.stores.specs.Validity.{the_sizes_of}
use Rattle.std.specs.Prelude.{Result, IsErrAnd}
use Rattle.std.proofs.Common.{Ok, Err}
use Rattle.refusals.specs.Refusals.{number_of as refusal_number}
use Rattle.refusals.specs.declared.Refusal.{Refusal}
use Rattle.reading.specs.declared.sheet.Sheet.{Sheet as SheetGiven}
use Rattle.reading.specs.declared.sheet.SheetHead.{SheetHead}
use Rattle.reading.specs.declared.own.OwnRead.{OwnRead}

-- ---- sizes

unfoldable pub read_unknowns : List ℕ → Read ℤ
read_unknowns bytes =
    then_read (field (between (pos 3) (pos 3)) (always space) bytes) λ _ rest. field (between (pos 1) (pos 4)) (always space) rest

unfoldable pub read_blocks : List ℕ → Read (ℤ × ℤ)
read_blocks bytes =
    then_read (field (between (neg_ℤ (pos 64)) (pos 64)) (always space) bytes) λ l rest.
    then_read (field (judge_lowest_of l) (always newline) rest) λ t more. got (l, t) more

unfoldable pub read_count : List ℕ → Read ℤ
read_count bytes = field (between (pos 0) (pos 6)) (always newline) bytes

abbrev pub sizes : ℕ → ℕ → ℤ → ℤ → Sizes
sizes m equations l t = record { m = m; equations = equations; l = l; t = t }

unfoldable pub count_then : ℤ → ℤ × ℤ → List ℕ → Read Sizes
count_then m q bytes = then_read (read_count bytes) λ k rest. got (sizes (nat_abs m) (nat_abs k) q.0 q.1) rest

unfoldable pub sizes_then : ℤ → List ℕ → Read Sizes
sizes_then m bytes = then_read (read_blocks bytes) (count_then m)

-- The definition, with its parts named.
lowest_then : ℤ → ℤ → List ℕ → Read Sizes
lowest_then m l bytes = then_read (field (judge_lowest_of l) (always newline) bytes) λ t rest. count_then m (l, t) rest

highest_then : ℤ → List ℕ → Read Sizes
highest_then m bytes = then_read (field (between (neg_ℤ (pos 64)) (pos 64)) (always space) bytes) (lowest_then m)

unknowns_then : ℤ → List ℕ → Read Sizes
unknowns_then _ bytes = then_read (field (between (pos 1) (pos 4)) (always space) bytes) highest_then

sizes-parts : (bytes : List ℕ) → read_sizes bytes ≡ then_read (field (between (pos 3) (pos 3)) (always space) bytes) unknowns_then
unfolding read_sizes unknowns_then highest_then lowest_then count_then read_count
sizes-parts bytes = refl

highest-is : (m : ℤ) (bytes : List ℕ) → highest_then m bytes ≡ sizes_then m bytes
unfolding highest_then lowest_then sizes_then read_blocks
highest-is m bytes =
    then-cong highest
    (λ l rest. then-cong (field (judge_lowest_of l) (always newline) rest) (λ t more. sym (then-got (count_then m) refl))
    ∙ sym (then-then (field (judge_lowest_of l) (always newline) rest) (λ t more. got (l, t) more) (count_then m)))
    ∙ sym (then-then highest (λ l rest. then_read (field (judge_lowest_of l) (always newline) rest) λ t more. got (l, t) more) (count_then m))
  where
    highest : Read ℤ
    highest = field (between (neg_ℤ (pos 64)) (pos 64)) (always space) bytes

pub sizes-is : (bytes : List ℕ) → read_sizes bytes ≡ then_read (read_unknowns bytes) sizes_then
unfolding read_unknowns unknowns_then
sizes-is bytes =
    sizes-parts bytes
    ∙ then-cong (field (between (pos 3) (pos 3)) (always space) bytes)
    (λ _ rest. then-cong (field (between (pos 1) (pos 4)) (always space) rest) highest-is)
    ∙ sym (then-then (field (between (pos 3) (pos 3)) (always space) bytes)
    (λ _ rest. field (between (pos 1) (pos 4)) (always space) rest) sizes_then)

pub unknowns-right : (bytes : List ℕ) (m : ℤ) (rest : List ℕ) → read_unknowns bytes ≡ got m rest → T (non_neg m) × (1 ≤ nat_abs m)
    × (nat_abs m ≤ 4)
unfolding read_unknowns
unknowns-right bytes m rest e =
    let first = then-parts (field (between (pos 3) (pos 3)) (always space) bytes) _ e in
    between-zero 1 4 m (field-judged (between (pos 1) (pos 4)) (always space) first.1 first.3)

-- The number of equations is from 0 to 6.
pub count-right : (bytes : List ℕ) (k : ℤ) (rest : List ℕ) → read_count bytes ≡ got k rest → T (non_neg k) × (nat_abs k ≤ most_equations)
unfolding read_count
count-right bytes k rest e =
    let two = between-zero 0 6 k (field-judged (between (pos 0) (pos 6)) (always newline) bytes e) in
    (two.0, two.2)

highest-passed : (l : ℤ) → between (neg_ℤ (pos 64)) (pos 64) l ≡ 0 → (le_z (neg_ℤ (pos 64)) l && le_z l (pos 64)) ≡ true
unfolding between
highest-passed l e = (passed (le_z (neg_ℤ (pos 64)) l && le_z l (pos 64)) 0 1 e).0

-- The size of the highest block.
pub highest-small : (l : ℤ) → between (neg_ℤ (pos 64)) (pos 64) l ≡ 0 → nat_abs l ≤ 64
highest-small l e = size-between (pos 64) l 64 (le_refl 64) (highest-passed l e)

lowest-passed : (l t : ℤ) → judge_lowest_of l t ≡ 0 → (le_z (neg_ℤ (pos 64)) t && le_z t l && le_z (l -ℤ t) (pos most_span)) ≡ true
unfolding judge_lowest_of
lowest-passed l t e = (passed (le_z (neg_ℤ (pos 64)) t && le_z t l && le_z (l -ℤ t) (pos most_span)) 0 1 e).0

sizes-passed : (m n : ℕ) (l t : ℤ) → 1 ≤ m → m ≤ 4 → n ≤ most_equations → (le_z (neg_ℤ (pos 64)) l && le_z l (pos 64)) ≡ true
    → (le_z (neg_ℤ (pos 64)) t && le_z t l && le_z (l -ℤ t) (pos most_span)) ≡ true → T (sizes_right_of (sizes m n l t))
unfolding sizes_right_of equations
sizes-passed m n l t low high few hl ht =
    let lowest = both_true (le_z (neg_ℤ (pos 64)) t && le_z t l) (le_z (l -ℤ t) (pos most_span)) ht in
    let highest = both_true (le_z (neg_ℤ (pos 64)) l) (le_z l (pos 64)) hl in
    subst T
    (sym
    (ap₂ ◌&&◌ (ap₂ ◌&&◌ (ap₂ ◌&&◌ (le-leb 1 m low) (le-leb m 4 high)) (le-leb n most_equations few))
    (ap₂ ◌&&◌ (ap₂ ◌&&◌ lowest.0 highest.1) lowest.1)))
    tt

-- What the judgements let through are right sizes.
pub sizes-right : (bytes : List ℕ) (z : Sizes) (rest : List ℕ) → read_sizes bytes ≡ got z rest → T (sizes_right_of z)
unfolding sizes_then count_then read_blocks
sizes-right bytes z rest e =
    let unknowns = then-parts (read_unknowns bytes) sizes_then (sym (sizes-is bytes) ∙ e) in
    let blocks = then-parts (read_blocks unknowns.1) _ unknowns.3 in
    let highest = then-parts (field (between (neg_ℤ (pos 64)) (pos 64)) (always space) unknowns.1) _ blocks.2 in
    let lowest = then-parts (field (judge_lowest_of highest.0) (always newline) highest.1) _ highest.3 in
    let count = then-parts (read_count blocks.1) _ blocks.3 in
    let m = unknowns-right bytes unknowns.0 unknowns.1 unknowns.2 in
    let n = count-right blocks.1 count.0 count.1 count.2 in
    let l = highest-passed highest.0 (field-judged (between (neg_ℤ (pos 64)) (pos 64)) (always space) unknowns.1 highest.2) in
    let t = lowest-passed highest.0 lowest.0 (field-judged (judge_lowest_of highest.0) (always newline) highest.1 lowest.2) in
    subst (λ z. T (sizes_right_of z))
    (ap (λ q. sizes (nat_abs unknowns.0) (nat_abs count.0) q.0 q.1) (got-value lowest.3) ∙ got-value count.3)
    (sizes-passed (nat_abs unknowns.0) (nat_abs count.0) highest.0 lowest.0 m.1 m.2 n.1 l t)

-- ---- sections

unfoldable pub relation_section : Sizes → List ℕ → Read (List Relation)
relation_section z bytes = then_read (field (between (pos 0) (pos 16)) (always newline) bytes) λ count rest. read_relations z
    (nat_abs count) rest

abbrev pub sheet : Sizes → List Row → List Relation → List ℕ → Sheet
sheet z rows relations order = record { sizes = z; rows = rows; relations = relations; order = order }

-- The three sections after the sizes; the order has zeros past its end.
unfoldable pub order_section : Sizes → List Row → List Relation → List ℕ → Read Sheet
order_section z rows relations bytes =
    then_read (padded column_count 0 (read_order z.m bytes)) λ order rest. got (sheet z rows relations order) rest

unfoldable pub relations_then : Sizes → List Row → List ℕ → Read Sheet
relations_then z rows bytes = then_read (relation_section z bytes) (order_section z rows)

unfoldable pub read_sections : Sizes → List ℕ → Read Sheet
read_sections z bytes = then_read (read_equations z (equations z) bytes) (relations_then z)

-- ---- the whole sheet

-- A sheet with zeros past the end of its order.
unfoldable pub pad_sheet : Sheet → List ℕ → Read Sheet
pad_sheet s rest = got (sheet s.sizes s.rows s.relations (pad_to column_count 0 s.order)) rest

-- What stands behind the fourth section, put into a sheet.
unfoldable pub with_rest : Sheet → List Row × List Relation → List ℕ → Read Sheet
with_rest s q rest = got (sheet s.sizes q.0 q.1 s.order) rest

fifth-is : (s : Sheet) (bytes : List ℕ)
    → read_fifth s bytes ≡ then_read (side_section_of (length s.rows) (length s.relations) s.rows s.relations bytes) (with_rest s)
unfolding read_fifth side_section_of all_sides relation_sides with_rest then_read
fifth-is s bytes =
    then-cong count
    (λ _ rest. then-cong (read_sides e r true rest)
    (λ ps more. sym (then-then (read_sides r 0 (every is_zero_of ps) more) (λ qs last. got (
      zip_with put_side_of s.rows ps,
      zip_with
          put_relation_side s.relations qs,
    ) last) (with_rest s)))
    ∙ sym (then-then (read_sides e r true rest) (λ ps more. relation_sides r (zip_with put_side_of s.rows ps) s.relations (every is_zero_of ps)
    more) (with_rest s)))
    ∙ sym (then-then count (λ _ rest. all_sides e r s.rows s.relations rest) (with_rest s))
  where
    e : ℕ
    e = length s.rows

    r : ℕ
    r = length s.relations

    count : Read ℤ
    count = field (judge_side_count (e + r)) (always newline) bytes

pub rest-is : (s : Sheet) (bytes : List ℕ)
    → read_rest s bytes ≡ then_read (rest_section (length s.rows) (length s.relations) s.rows s.relations bytes) (with_rest s)
unfolding read_rest rest_section with_rest nothing_more
rest-is s [] = refl
rest-is s (b ∷ bytes) =
    ap (λ r. then_read r read_end) (fifth-is s (b ∷ bytes))
    ∙ then-then section (with_rest s) read_end
    ∙ then-cong section end
    ∙ sym (then-then section nothing_more (with_rest s))
  where
    section : Read (List Row × List Relation)
    section = side_section_of (length s.rows) (length s.relations) s.rows s.relations (b ∷ bytes)

    end : (q : List Row × List Relation) (rest : List ℕ) → then_read (with_rest s q rest) read_end ≡ then_read (nothing_more q rest) (with_rest s)
    end q [] = refl
    end q (b ∷ rest) = refl

-- It does not depend on the order.
rest-padded : (s : Sheet) (rest : List ℕ)
    → then_read (read_rest s rest) pad_sheet ≡ read_rest (sheet s.sizes s.rows s.relations (pad_to column_count 0 s.order)) rest
unfolding with_rest pad_sheet then_read
rest-padded s rest =
    ap (λ r. then_read r pad_sheet) (rest-is s rest)
    ∙ then-then (rest_section (length s.rows) (length s.relations) s.rows s.relations rest) (with_rest s) pad_sheet
    ∙ sym (rest-is (sheet s.sizes s.rows s.relations (pad_to column_count 0 s.order)) rest)

-- The definition, with its parts named.
module _ (z : Sizes) where
  from_order : List Row → List Relation → List ℕ → Read Sheet
  from_order rows relations bytes = then_read (read_order z.m bytes) λ order rest. read_rest (sheet z rows relations order) rest

  from_relations : List Row → ℤ → List ℕ → Read Sheet
  from_relations rows count bytes = then_read (read_relations z (nat_abs count) bytes) (from_order rows)

  from_relation_count : List Row → List ℕ → Read Sheet
  from_relation_count rows bytes = then_read (field (between (pos 0) (pos 16)) (always newline) bytes) (from_relations rows)

  from_equations : List ℕ → Read Sheet
  from_equations bytes = then_read (read_equations z (equations z) bytes) from_relation_count

  order-padded : (rows : List Row) (relations : List Relation) (bytes : List ℕ)
      → then_read (from_order rows relations bytes) pad_sheet ≡ then_read (order_section z rows relations bytes) read_rest
  unfolding from_order order_section padded
  order-padded rows relations bytes =
      then-then (read_order z.m bytes) (λ order rest. read_rest (sheet z rows relations order) rest) pad_sheet
      ∙ then-cong (read_order z.m bytes)
      (λ order rest. rest-padded (sheet z rows relations order) rest
      ∙ sym (then-got read_rest (then-got (λ order rest. got (sheet z rows relations order) rest) refl)))
      ∙ sym
      (ap (λ r. then_read r read_rest)
      (then-then (read_order z.m bytes) (λ order rest. got (pad_to column_count 0 order) rest)
      (λ order rest. got (sheet z rows relations order) rest))
      ∙ then-then (read_order z.m bytes)
      (λ order rest. then_read (got (pad_to column_count 0 order) rest) λ order rest. got (sheet z rows relations order) rest) read_rest)

  order_end : List Row → List Relation → List ℕ → Read Sheet
  order_end rows relations bytes = then_read (order_section z rows relations bytes) read_rest

  relations-padded : (rows : List Row) (bytes : List ℕ) → then_read (from_relation_count rows bytes) pad_sheet
      ≡ then_read (relations_then z rows bytes) read_rest
  unfolding from_relation_count from_relations relations_then relation_section order_end
  relations-padded rows bytes =
      then-then count (from_relations rows) pad_sheet
      ∙ then-cong count
      (λ k rest. then-then (read_relations z (nat_abs k) rest) (from_order rows) pad_sheet
      ∙ then-cong (read_relations z (nat_abs k) rest) (order-padded rows))
      ∙ sym (then-then count (λ k rest. read_relations z (nat_abs k) rest) (order_end rows))
      ∙ sym (then-then (relation_section z bytes) (order_section z rows) read_rest)
    where
      count : Read ℤ
      count = field (between (pos 0) (pos 16)) (always newline) bytes

  equations-padded : (bytes : List ℕ) → then_read (from_equations bytes) pad_sheet ≡ then_read (read_sections z bytes) read_rest
  unfolding from_equations read_sections
  equations-padded bytes =
      then-then (read_equations z (equations z) bytes) from_relation_count pad_sheet
      ∙ then-cong (read_equations z (equations z) bytes) relations-padded
      ∙ sym (then-then (read_equations z (equations z) bytes) (relations_then z) read_rest)

sheet-parts : (bytes : List ℕ) → read_sheet_of bytes ≡ then_read (read_sizes bytes) from_equations
unfolding read_sheet_of from_equations from_relation_count from_relations from_order
sheet-parts bytes = refl

-- The sections of a sheet, and its end.
unfoldable pub sections_end : Sizes → List ℕ → Read Sheet
sections_end z bytes = then_read (read_sections z bytes) read_rest

pub sheet-is : (bytes : List ℕ) → then_read (read_sheet_of bytes) pad_sheet ≡ then_read (read_sizes bytes) sections_end
unfolding sections_end
sheet-is bytes =
    ap (λ r. then_read r pad_sheet) (sheet-parts bytes)
    ∙ then-then (read_sizes bytes) from_equations pad_sheet
    ∙ then-cong (read_sizes bytes) equations-padded

-- ---- the answer to a whole sheet

-- The result of `rules` that a result of the code gives: a refusal has its number, and 0 in all other fields (SCOPE 6.31).
unfoldable pub result_of : Result SheetGiven Refusal → ReadResult
unfolding read_refusal
result_of (Ok r) = record { refusal = 0; sizes = the_sizes_of r.sizes; relations = r.relations; order = r.order }
result_of (Err e) = read_refusal (refusal_number e)

-- The sheet alone of what was read with the places of its relations.
abbrev pub sheet_in : Result OwnRead Refusal → Result SheetGiven Refusal
sheet_in (Ok r) = Ok r.sheet
sheet_in (Err e) = Err e

-- A sheet that was read into stores: the result and the stores hold it, or the result is the refusal.
pub record SheetRead (bytes : List ℕ) (r : ReadResult) (rows relations : List ℤ) : Type 0 where
  pub answer : read_of bytes r.refusal
      (sheet r.sizes (rows_of (equations r.sizes) rows) (relations_of r.relations relations) r.order) (length bytes)
      ≡ then_read (read_sheet_of bytes) pad_sheet
  pub few-rows : r.refusal ≡ 0 → equations r.sizes ≤ most_equations
  pub few : r.refusal ≡ 0 → r.relations ≤ most_relations

-- A sheet whose sizes, rows and number of relations have been read, and the relations come at the place `at`.
pub record HeadTo (bytes : List ℕ) (z : Sizes) (count at : ℕ) (rows : List ℤ) : Type 0 where
  pub within : at ≤ length bytes
  pub right : T (sizes_right_of z)
  pub few : count ≤ most_relations
  pub rest : then_read (read_sheet_of bytes) pad_sheet
      ≡ then_read (then_read (read_relations z count (drop at bytes)) (order_section z (rows_of (equations z) rows))) read_rest

-- So much of a sheet was read, or it is refused.
abbrev pub HeadRead : List ℕ → Sizes → Result SheetHead Refusal → List ℤ → Type 0
HeadRead bytes z (Ok h) rows = HeadTo bytes (the_sizes_of h.sizes) h.relations h.at rows × (the_sizes_of h.sizes ≡ z)
HeadRead bytes z (Err e) rows = then_read (read_sheet_of bytes) pad_sheet ≡ fault (refusal_number e)

-- A head that is refused by what refused one of its parts.
pub head-fails-on : (bytes : List ℕ) (z : Sizes) (result : Result SheetHead Refusal) (r : Refusal) (rows : List ℤ) → IsErrAnd result (λ e. e ≡ r)
    → then_read (read_sheet_of bytes) pad_sheet ≡ fault (refusal_number r) → HeadRead bytes z result rows
head-fails-on bytes z (Ok h) r rows same f = absurd same
head-fails-on bytes z (Err e) r rows same f = f ∙ ap (λ e. fault (refusal_number e)) (sym same)

module _ (bytes : List ℕ) (z : Sizes) (first : List ℕ) (sizes-read : read_sizes bytes ≡ got z first) where
  -- The equations, and then the relations.
  pub equations-fault : {n : ℕ} → read_equations z (equations z) first ≡ fault n → then_read (read_sheet_of bytes) pad_sheet ≡ fault n
  unfolding sections_end read_sections
  equations-fault e = sheet-is bytes ∙ then-got sections_end sizes-read ∙ then-fault read_rest (then-fault (relations_then z) e)

  module _ (rows : List Row) (second : List ℕ) (rows-read : read_equations z (equations z) first ≡ got rows second) where
    to-relations : then_read (read_sheet_of bytes) pad_sheet ≡ then_read (then_read (relation_section z second) (order_section z rows)) read_rest
    unfolding sections_end read_sections relations_then
    to-relations = sheet-is bytes ∙ then-got sections_end sizes-read ∙ ap (λ r. then_read r read_rest) (then-got (relations_then z) rows-read)

    pub count-fault : {n : ℕ} → field (between (pos 0) (pos 16)) (always newline) second ≡ fault n → then_read (read_sheet_of bytes) pad_sheet
        ≡ fault n
    unfolding relation_section
    count-fault e = to-relations ∙ then-fault read_rest (then-fault (order_section z rows) (then-fault _ e))

    pub count-got : (count : ℤ) (third : List ℕ) → field (between (pos 0) (pos 16)) (always newline) second ≡ got count third
        → then_read (read_sheet_of bytes) pad_sheet ≡ then_read (then_read (read_relations z (nat_abs count) third) (order_section z rows)) read_rest
    unfolding relation_section
    count-got count third e = to-relations ∙ ap (λ r. then_read (then_read r (order_section z rows)) read_rest) (then-got _ e)

module _ {bytes : List ℕ} {z : Sizes} {count at : ℕ} {rows : List ℤ} (head : HeadTo bytes z count at rows) where
  -- The relations, and then the order.
  pub relations-fault : {n : ℕ} → read_relations z count (drop at bytes) ≡ fault n → then_read (read_sheet_of bytes) pad_sheet ≡ fault n
  relations-fault e = head.rest ∙ then-fault read_rest (then-fault (order_section z (rows_of (equations z) rows)) e)

  module _ (relations : List Relation) (more : List ℕ) (e : read_relations z count (drop at bytes) ≡ got relations more) where
    pub order-fault : {n : ℕ} → padded column_count 0 (read_order z.m more) ≡ fault n → then_read (read_sheet_of bytes) pad_sheet ≡ fault n
    unfolding order_section
    order-fault f = head.rest ∙ then-fault read_rest (then-got (order_section z (rows_of (equations z) rows)) e ∙ then-fault _ f)

    pub order-got : (order rest : List ℕ) → padded column_count 0 (read_order z.m more) ≡ got order rest
        → then_read (read_sheet_of bytes) pad_sheet ≡ read_rest (sheet z (rows_of (equations z) rows) relations order) rest
    unfolding order_section
    order-got order rest f = head.rest ∙ then-got read_rest (then-got (order_section z (rows_of (equations z) rows)) e ∙ then-got _ f)

module _ (z : Sizes) (rows : List Row) (relations : List Relation) (order : List ℕ) (e r : ℕ) (rows-many : length rows ≡ e)
    (relations-many : length relations ≡ r) (bytes : List ℕ) where
  rest-counted : read_rest (sheet z rows relations order) bytes
      ≡ then_read (rest_section e r rows relations bytes) (with_rest (sheet z rows relations order))
  rest-counted =
      rest-is (sheet z rows relations order) bytes
      ∙ ap₂ (λ e r. then_read (rest_section e r rows relations bytes) (with_rest (sheet z rows relations order))) rows-many relations-many

  -- What stands behind the order.
  pub end-fault : {n : ℕ} → rest_section e r rows relations bytes ≡ fault n → read_rest (sheet z rows relations order) bytes ≡ fault n
  end-fault f = rest-counted ∙ then-fault (with_rest (sheet z rows relations order)) f

  pub end-got : {rows' : List Row} {relations' : List Relation} {rest : List ℕ}
      → rest_section e r rows relations bytes ≡ got (rows', relations') rest
      → read_rest (sheet z rows relations order) bytes ≡ got (sheet z rows' relations' order) rest
  unfolding with_rest
  end-got f = rest-counted ∙ then-got (with_rest (sheet z rows relations order)) f

module _ (bytes : List ℕ) (r : ReadResult) (rows relations : List ℤ) where
  held : Sheet
  held = sheet r.sizes (rows_of (equations r.sizes) rows) (relations_of r.relations relations) r.order

  -- A sheet that is refused.
  pub sheet-refuses : (n : ℕ) → r ≡ read_refusal n → (n ≡ 0 → ⊥) → then_read (read_sheet_of bytes) pad_sheet ≡ fault n
      → SheetRead bytes r rows relations
  unfolding read_refusal held
  sheet-refuses n e h f =
      record {
        answer = ap (λ k. read_of bytes k held (length bytes)) (ap (λ q. q.refusal) e) ∙ fault-of bytes n held (length bytes) h ∙ sym f;
        few-rows = λ z. absurd (h (sym (ap (λ q. q.refusal) e) ∙ z));
        few = λ z. absurd (h (sym (ap (λ q. q.refusal) e) ∙ z));
      }

  -- A sheet that is read to its end.
  pub sheet-gives : r.refusal ≡ 0
      → then_read (read_sheet_of bytes) pad_sheet
      ≡ got (sheet r.sizes (rows_of (equations r.sizes) rows) (relations_of r.relations relations) r.order)
      (drop (length bytes) bytes)
      → equations r.sizes ≤ most_equations → r.relations ≤ most_relations → SheetRead bytes r rows relations
  unfolding read_of held
  sheet-gives z e rows_few count =
      record { answer = ap (λ n. read_of bytes n held (length bytes)) z ∙ sym e; few-rows = λ _. rows_few; few = λ _. count }
