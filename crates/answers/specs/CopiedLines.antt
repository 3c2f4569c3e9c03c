-- The lines of the relations that a sheet gives, as bytes of it.
--
-- Main statements
--   given-ordered, given-text   the bytes between the two places that the reader tells are these lines
use Rattle.std.specs.Prelude.{ℕ, ◌+◌, ◌-◌, ◌≤◌, ◌≡◌, length, take, ℤ, pos}
use Rattle.std.proofs.Common.{arith, sym, ◌∙◌, length-append, length-drop, take_at}
use Rattle.std.proofs.Math.Path.{ap}
use mathlib.Core.List.{List, ◌∷◌, ◌++◌, map, flatten, map-map}
use Rattle.std.proofs.Math.ListN.{drop}
use Rattle.rules.specs.Layout.{SizeBounds}
use Rattle.rules.specs.Numbers.{line, lines}
use Rattle.rules.specs.Rows.{Block, Relation}
use Rattle.rules.specs.Sheets.{terms_from, term_numbers, equation_numbers, relation_line}
use Rattle.rules.specs.Stores.{Sizes, relations_of}
use Rattle.reading.specs.RelationLines.{left, RelationLines}
use Rattle.sheets.specs.WrittenSections.{relations-exact}

-- The line of a relation, by what it has of the relation.
line_of : ℤ → ℤ × List Block → List ℤ
line_of l q = let es = terms_from l q.1 in q.0 ∷ pos (length es) ∷ flatten (map term_numbers es)

line-left : (l : ℤ) (es : List Relation) → map (relation_line l) es ≡ map (line_of l) (map left es)
unfolding relation_line equation_numbers line_of
line-left l es = sym (map-map (line_of l) left es)

-- Relations that differ in right sides only have the same lines.
same_lines : (l : ℤ) (es fs : List Relation) → map left es ≡ map left fs → map (relation_line l) es ≡ map (relation_line l) fs
same_lines l es fs e = line-left l es ∙ ap (map (line_of l)) e ∙ sym (line-left l fs)

module _ {bytes : List ℕ} {z : Sizes} {count : ℕ} {store : List ℤ} {from to : ℕ} (r : RelationLines bytes z count store from to)
    (b : SizeBounds z) where
  abbrev text : List ℕ
  text = lines (map (relation_line z.l) (relations_of count store))

  parted : drop from bytes ≡ text ++ drop to bytes
  unfolding lines
  parted =
      ((relations-exact z b count).written_read (drop from bytes) r.given (drop to bytes) r.read).1
      ∙ ap (λ l. flatten l ++ drop to bytes)
      (sym (map-map line (relation_line z.l) r.given) ∙ ap (map line) (same_lines z.l r.given (relations_of count store) r.same))

  sizes : from + length text ≡ to
  sizes =
      omega (
        arith,
        r.begins,
        r.ends,
        ap length parted,
        length-drop from bytes,
        length-append text (drop to bytes),
        length-drop to bytes,
      )

  pub given-ordered : from ≤ to
  given-ordered = omega (arith, sizes)

  pub given-text : take (to - from) (drop from bytes) ≡ text
  given-text = ap (take (to - from)) parted ∙ take_at text (drop to bytes) (to - from) (omega (arith, sizes))
