-- `writing::writer::put_given_sheet` meets its contract: the seven parts of a sheet, one after the other.
-- Assumes nothing.
use mathlib.Core.Path.{◌≡◌, ◌∙◌, ap, ap₂, subst}
use mathlib.Core.List.{List, [], ◌∷◌, ◌++◌, map}
use Prim.Native.Nat.{ℕ, suc, ◌+◌, ◌*◌, ◌^◌, ◌≤◌, ◌<◌}
use native.Mathlib.Nat.{le_refl}
use native.Mathlib.Omega.{arith}
use borrow.Author.Rules.{rules}
use lib.IntN.{ℤ, pos}
use lib.ListN.{length}
use mir.Syntax.{w64}
use mir.Val.{to_z, of_z}
use mir.Facts.{to_z-of_z}
use Rattle.integers.specs.Ranges.{sfits-size}
use lib.Dec.{lit<}
use Rattle.rules.specs.Limits.{row_length, relation_length, most_equations}
use Rattle.rules.specs.Numbers.{line, lines}
use Rattle.rules.specs.Sheets.{equation_numbers, relation_line, order_line, side_lines}
use Rattle.rules.specs.Stores.{span, equations, rows_of, relations_of}
use Rattle.stores.specs.Validity.{the_sizes_of}
use Rattle.number_texts.specs.Runs.{Put, put_same, put_then, put-few, put-wide, put-length}
use Rattle.number_texts.specs.TextBytes.{count_bytes}
use Rattle.writing.specs.LineLengths.{lines_length}
use Rattle.writing.specs.Records.{equation-lines}
use Rattle.writing.specs.SheetBytes.{sizes_bytes, relation_bytes, order_bytes}
use Rattle.writing.specs.Writer.{UnusedParts, sides_given, sheet-bytes}
use Rattle.writing.proofs.writer.put_given_sheet.Goals as goal
use Rattle.writing.proofs.writer.put_given_sheet.Goals.{After-put_count-after_count, After-put_count-after_number}
use Rattle.writing.proofs.writer.put_given_sheet.Goals.{After-put_records-after_rows, After-put_given-after_relations}
use Rattle.writing.proofs.writer.put_given_sheet.Goals.{After-put_order-after_order, After-put_sizes-after_sizes, After-span-blocks, Start}

-- l, t and the number of blocks in use, as the calls read them
module _ (c : After-span-blocks) where
  abbrev start : Start
  start = (goal.at.After-span-blocks c).Start

  abbrev l : ℤ
  l = start.args.sizes.l

  abbrev t : ℤ
  t = start.args.sizes.t

  back_l : to_z w64 (of_z w64 l) ≡ l
  unfolding the_sizes_of
  back_l = to_z-of_z {w = w64} {z = l} (sfits-size l start.requires.checked.0.blocks (lit< tt))

  back-t : to_z w64 (of_z w64 t) ≡ t
  unfolding the_sizes_of
  back-t = to_z-of_z {w = w64} {z = t} (sfits-size t start.requires.checked.0.low (lit< tt))

  blocks : suc (span (the_sizes_of start.args.sizes)) ≡ c.span-blocks.result + 1
  blocks = omega (arith, c.span-blocks.ensures)

-- the lines up to the number of relations
module _ (c : After-put_count-after_count) where
  abbrev after-rows : After-put_records-after_rows
  after-rows = (goal.at.After-put_count-after_count c).After-put_records-after_rows

  abbrev after-number : After-put_count-after_number
  after-number = (goal.at.After-put_records-after_rows after-rows).After-put_count-after_number

  abbrev after-sizes : After-put_sizes-after_sizes
  after-sizes = (goal.at.After-put_count-after_number after-number).After-put_sizes-after_sizes

  abbrev told : After-span-blocks
  told = (goal.at.After-put_sizes-after_sizes after-sizes).After-span-blocks

  abbrev begun : Start
  begun = start told

  few-rows : begun.args.sizes.equations ≤ most_equations
  unfolding equations the_sizes_of
  few-rows = begun.requires.checked.0.few-rows

  place : c.put_count-after_count.result ≤ sizes_bytes + (count_bytes + (most_equations * relation_bytes + count_bytes))
  place =
      let written =
      put_then after-sizes.put_sizes-after_sizes.ensures
      (put_then after-number.put_count-after_number.ensures
      (put_then after-rows.put_records-after_rows.ensures c.put_count-after_count.ensures)) in
      omega (arith, written.passed, written.few, few-rows)

  text : length begun.args.given.now < 2 ^ 63
  text = omega (arith, begun.well_formed.1.1.1.1.1.1.0.1)

-- the lines up to the order's
module _ (c : After-put_order-after_order) where
  abbrev after-relations : After-put_given-after_relations
  after-relations = (goal.at.After-put_order-after_order c).After-put_given-after_relations

  abbrev after-count : After-put_count-after_count
  after-count = (goal.at.After-put_given-after_relations after-relations).After-put_count-after_count

  -- by l and t
  abbrev bytes : ℤ → ℤ → List ℕ
  bytes l t =
      let args = (begun after-count).args in
      line (pos 3 ∷ pos args.sizes.m ∷ l ∷ t ∷ [])
      ++ (line (pos args.sizes.equations ∷ []) ++ (lines (map (equation_numbers l) (rows_of args.sizes.equations args.rows.now))
      ++ (line (pos args.count ∷ []) ++ (lines (map (relation_line l) (relations_of args.count args.relations.now))
      ++ line (order_line args.columns.now)))))

  -- the bytes of the lines of equations and relations as they are
  abbrev most : ℕ
  most =
      let args = (begun after-count).args in
      let l = to_z w64 (of_z w64 (l (told after-count))) in
      sizes_bytes + (count_bytes + (length (lines (map (equation_numbers l) (rows_of args.sizes.equations args.rows.now)))
      + (count_bytes + (length (lines (map (relation_line l) (relations_of args.count args.relations.now))) + order_bytes))))

  written : Put (begun after-count).args.bytes.now 0
      (bytes (to_z w64 (of_z w64 (l (told after-count)))) (to_z w64 (of_z w64 (t (told after-count))))) most
      c.put_order-after_order.new.bytes c.put_order-after_order.result
  written =
      put_then (after-sizes after-count).put_sizes-after_sizes.ensures
      (put_then (after-number after-count).put_count-after_number.ensures
      (put_then (put-few (put_same (after-rows after-count).put_records-after_rows.ensures (equation-lines _ _ _)) (le_refl _))
      (put_then after-count.put_count-after_count.ensures
      (put_then (put-few after-relations.put_given-after_relations.ensures (le_refl _)) c.put_order-after_order.ensures))))

pub span-blocks-requires : goal.span-blocks-requires
span-blocks-requires c = c.requires.checked.0.sizes

pub overflow_add-blocks : goal.overflow_add-blocks
overflow_add-blocks c = omega (arith, c.span-blocks.ensures, (start c).requires.checked.0.narrow)

pub put_sizes-after_sizes-requires : goal.put_sizes-after_sizes-requires
unfolding the_sizes_of
put_sizes-after_sizes-requires c =
    let told = (goal.at.put_sizes-after_sizes-requires c).After-span-blocks in
    let ready = (start told).requires.checked.0 in (
      search rules,
      rw (back_l told) ready.blocks,
      rw (back-t told) ready.low,
    )

pub put_records-after_rows-requires : goal.put_records-after_rows-requires
unfolding equations the_sizes_of
put_records-after_rows-requires c =
    let told = (goal.at.put_records-after_rows-requires c).After-span-blocks in
    let ready = (start told).requires.checked.0 in
    let args = (start told).args in (
      search rules,
      omega (arith, ready.few-rows),
      ready.rows,
      search rules,
      ready.row-numbers,
      subst (λ n. UnusedParts args.sizes.m n 0 row_length args.sizes.equations args.rows.now) (blocks told) ready.row-unused,
    )

pub put_count-after_count-requires : goal.put_count-after_count-requires
unfolding equations the_sizes_of
put_count-after_count-requires c =
    let told = (goal.at.put_count-after_count-requires c).After-span-blocks in
    omega (arith, (start told).requires.checked.0.few-rows)

pub put_given-after_relations-requires : goal.put_given-after_relations-requires
unfolding equations the_sizes_of
put_given-after_relations-requires c =
    let after-count = (goal.at.put_given-after_relations-requires c).After-put_count-after_count in
    let here = told after-count in
    let args = (start here).args in
    let ready = (start here).requires.checked.0 in record {
      count_le_most_relations = (
        ready.few,
        ready.relations,
        omega (arith, place after-count, text after-count),
        ready.relation-numbers,
        subst (λ n. UnusedParts args.sizes.m n 1 relation_length args.count args.relations.now) (blocks here)
            ready.relation-unused,
      );
      first_le_count = ((start here).requires.first_le_count.0, rw (back_l here) (start here).requires.first_le_count.1);
    }

pub put_order-after_order-requires : goal.put_order-after_order-requires
put_order-after_order-requires c =
    let after-count = (goal.at.put_order-after_order-requires c).After-put_count-after_count in
    let ready = (begun after-count).requires.checked in (
      ready.1,
      omega (
        arith,
        c.put_given-after_relations.ensures.passed,
        c.put_given-after_relations.ensures.few,
        place after-count,
        ready.0.few,
        text after-count,
      ),
    )

pub put_fifth-requires : goal.put_fifth-requires
unfolding equations the_sizes_of
put_fifth-requires c =
    let after-order = (goal.at.put_fifth-requires c).After-put_order-after_order in
    let here = after-count after-order in
    let ready = (begun here).requires.checked.0 in
    let put = written after-order in record {
      equations_le_most_equations = (ready.few-rows, ready.rows, ready.row-numbers);
      count_le_most_relations = (ready.few, ready.relations, ready.relation-numbers);
      side_room_bound = omega (
        arith,
        put.passed,
        put.few,
        few-rows here,
        ready.few,
        text here,
        (after-rows here).put_records-after_rows.ensures.few,
        (after-relations after-order).put_given-after_relations.ensures.few,
      );
    }

pub shape_of-bytes : goal.shape_of-bytes
shape_of-bytes c =
    put-length c.put_fifth.ensures ∙ put-length (written (goal.at.shape_of-bytes c).After-put_order-after_order)

pub returns : goal.returns
unfolding equations the_sizes_of lines_length
returns c =
    let after-order = (goal.at.returns c).After-put_order-after_order in
    let here = told (after-count after-order) in
    let args = (start here).args in
    let sides = lines (side_lines (sides_given args.sizes.equations args.count args.rows.now args.relations.now)) in
    let lengths = ap (λ l. lines_length l args.sizes.equations args.count args.rows.now args.relations.now) (back_l here) in
    put-wide
    (put_same (put_then (written after-order) c.put_fifth.ensures)
    (ap₂ (λ l t. bytes after-order l t ++ sides) (back_l here) (back-t here)
    ∙ sheet-bytes (the_sizes_of args.sizes) args.count args.columns.now args.rows.now args.relations.now))
    (omega (arith, lengths))

pub invariant_of-shape : goal.invariant_of-shape
unfolding the_sizes_of
invariant_of-shape c =
    let told = (goal.at.invariant_of-shape c).After-span-blocks in
    record { low = rw (back_l told) (start told).requires.checked.0.blocks; few = omega (arith, blocks told, (start told).requires.checked.0.narrow) }
