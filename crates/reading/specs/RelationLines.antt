-- Where the lines of a sheet's relations stand.
--
-- Main definitions
--   left e           what the line of a relation has: n0 and the blocks
--   RelationLines    the relations of a store were read between two places of the bytes, but for their right sides
--
-- Main statements
--   rest-lefts       what stands behind the fourth section changes right sides only
--   lines-front      relations that are read into the front of a store
use Rattle.std.specs.Prelude.{ℕ, ◌+◌, ◌*◌, ◌≤◌, ◌≡◌, refl, length, drop, ℤ}
use Rattle.std.proofs.Common.{suc-ne-zero, le_refl, ◌∙◌, take_at}
use Rattle.std.proofs.Math.Nat.{suc_inj}
use Rattle.std.proofs.Math.Path.{sym, ap}
use Rattle.std.proofs.Math.Bool.{true}
use mathlib.Core.List.{List, [], ◌∷◌, ◌++◌, map, zip_with}
use Rattle.algebra.specs.Polynomials.{Polynomial, is_zero_of}
use Rattle.lists.specs.Parts.{parts, parts-take}
use Rattle.lists.specs.Tests.{every}
use Rattle.rules.specs.Limits.{relation_length}
use Rattle.rules.specs.Rows.{Block, Row, Relation}
use Rattle.rules.specs.Stores.{Sizes, relation_of, relations_of}
use Rattle.rules.specs.Numbers.{newline, got, field}
use Rattle.rules.specs.Sheets.{always, read_relations, read_sides, put_side_of, put_relation_side, judge_side_count}
use Rattle.tokens.specs.Fields.{got-not-fault, then-parts}
use Rattle.reading.specs.Equations.{got-value}
use Rattle.reading.specs.Sides.{sides-long, side_section_of, all_sides, relation_sides, nothing_more, rest_section}

abbrev pub left : Relation → ℤ × List Block
left e = (e.index, e.row.blocks)

pub record RelationLines (bytes : List ℕ) (z : Sizes) (count : ℕ) (store : List ℤ) (from to : ℕ) : Type 0 where
  pub begins : from ≤ length bytes
  pub ends : to ≤ length bytes
  pub given : List Relation
  pub read : read_relations z count (drop from bytes) ≡ got given (drop to bytes)
  pub same : map left given ≡ map left (relations_of count store)

-- ---- right sides alone are changed

lefts-with-sides : (es : List Relation) (ps : List Polynomial) → length ps ≡ length es
    → map left (zip_with put_relation_side es ps) ≡ map left es
unfolding zip_with put_relation_side put_side_of
lefts-with-sides [] ps e = refl
lefts-with-sides (x ∷ es) [] e = absurd (suc-ne-zero (length es) (sym e))
lefts-with-sides (x ∷ es) (p ∷ ps) e = ap (λ l. left x ∷ l) (lefts-with-sides es ps (suc_inj e))

module _ (e r : ℕ) (rows : List Row) (relations : List Relation) (many : length relations ≡ r) where
  section-lefts : (bytes : List ℕ) {q : List Row × List Relation} {rest : List ℕ} → side_section_of e r rows relations bytes ≡ got q rest
      → map left q.1 ≡ map left relations
  unfolding side_section_of all_sides relation_sides
  section-lefts bytes {q} f =
      let count = then-parts (field (judge_side_count (e + r)) (always newline) bytes) _ f in
      let first = then-parts (read_sides e r true count.1) _ count.3 in
      let second = then-parts (read_sides r 0 (every is_zero_of first.0) first.1) _ first.3 in
      let long = sides-long r 0 (every is_zero_of first.0) first.1 second.2 in
      ap (λ k. map left k.1) (sym (got-value second.3)) ∙ lefts-with-sides relations second.0 (long.0 ∙ sym many)

  pub rest-lefts : (bytes : List ℕ) {q : List Row × List Relation} {rest : List ℕ} → rest_section e r rows relations bytes ≡ got q rest
      → map left q.1 ≡ map left relations
  unfolding rest_section nothing_more
  rest-lefts [] f = ap (λ k. map left k.1) (sym (got-value f))
  rest-lefts (b ∷ bytes) {q} {rest} f =
      let parts = then-parts (side_section_of e r rows relations (b ∷ bytes)) nothing_more f in
      ap (λ k. map left k.1) (sym (end parts.0 parts.1 parts.3)) ∙ section-lefts (b ∷ bytes) parts.2
    where
      end : (p : List Row × List Relation) (more : List ℕ) → nothing_more p more ≡ got q rest → p ≡ q
      end p [] g = got-value g
      end p (c ∷ more) g = absurd (got-not-fault (sym g))

-- ---- the front of a store

relations_of-front : (count : ℕ) (part rest : List ℤ) → length part ≡ count * relation_length
    → relations_of count (part ++ rest) ≡ relations_of count part
unfolding relations_of
relations_of-front count part rest long =
    ap (map relation_of)
    (sym (parts-take relation_length count (count * relation_length) (part ++ rest) (le_refl (count * relation_length)))
    ∙ ap (parts relation_length count) (take_at part rest (count * relation_length) long))

pub lines-front : {bytes : List ℕ} {z : Sizes} {count from to : ℕ} (part rest : List ℤ) → length part ≡ count * relation_length
    → RelationLines bytes z count part from to → RelationLines bytes z count (part ++ rest) from to
lines-front {count = count} part rest long r =
    record {
      begins = r.begins;
      ends = r.ends;
      given = r.given;
      read = r.read;
      same = r.same ∙ ap (map left) (sym (relations_of-front count part rest long));
    }
