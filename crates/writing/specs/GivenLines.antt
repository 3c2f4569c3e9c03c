-- The lines of relations of which the first ones are there already, as a text.
--
-- Main statements
--   text-last, text-stored   a text that is copied, as far as the store goes
--   lines-given       the lines of the first relations and those of the others are the lines of all
--   lines-length-given   how many bytes they take
--   parts-behind      what holds of each part of a store holds of those behind the first ones
use Rattle.std.specs.Prelude.{◌≡◌, List, ◌++◌, map, ℕ, ◌+◌, ◌-◌, ◌*◌, ◌≤◌, ◌<◌, min, ℤ, length, take, drop}
use Rattle.std.proofs.Common.{sym, ◌∙◌, ap, subst, ⊎_elim, add-mul, add-sub_of_le, eq-or-lt_of_le, le_of_eq, arith, length-append, drop_of_length-le, drop-drop, take-append-drop, length-take-le, take_all}
use Rattle.std.proofs.lemmas.List.{map-append}
use Rattle.std.proofs.Math.Seq.{paste, length-sets}
use Rattle.std.proofs.lemmas.List.Edits.{sets, sets-eq}
use Rattle.lists.specs.Parts.{parts, parts-append}
use Rattle.lists.specs.Pasted.{sets-out, sets-append}
use Rattle.rules.specs.Limits.{relation_length}
use Rattle.rules.specs.Numbers.{lines}
use Rattle.rules.specs.Sheets.{relation_line}
use Rattle.rules.specs.Stores.{relation_of, relations_of}
use Rattle.writing.specs.LineLengths.{lines_length}
use Rattle.writing.specs.Writer.{lines-append}

-- ---- a text

-- Nothing is left of the text, or of the store.
pub text-last : (d text : List ℕ) (at i : ℕ) → i ≡ min (length text) (length d - at) → sets d (at + i) (drop i text) ≡ d
text-last d text at i e =
    ⊎_elim (λ all. ap (sets d (at + i)) (drop_of_length-le text (le_of_eq (sym all)))) (λ some. sets-out d (at + i) (drop i text) (omega arith))
    (eq-or-lt_of_le within)
  where
    within : i ≤ length text
    within = omega arith

-- As much of it as goes in is stored.
pub text-stored : (d text : List ℕ) (at n : ℕ) → n ≡ min (length text) (length d - at) → at ≤ length d
    → paste d at (take n text) n ≡ sets d at text
text-stored d text at n e within =
    ap (λ p. take at d ++ p ++ drop (at + n) d) (take_all n part (omega (arith, size))) ∙ ap (λ m. take at d ++ part ++ drop (at + m) d) (sym size) ∙ sym (sets-eq part d at (omega (arith, size)))
    ∙ sym (text-last (sets d at part) text at n (rw length-sets e))
    ∙ ap (λ m. sets (sets d at part) (at + m) (drop n text)) (sym size) ∙ sets-append d at part (drop n text)
    ∙ ap (sets d at) (take-append-drop n text)
  where
    part : List ℕ
    part = take n text

    size : length part ≡ n
    size = length-take-le n text (omega arith)

-- ---- relations

pub lines-given : (l : ℤ) (first count : ℕ) (store : List ℤ) → first ≤ count
    → lines (map (relation_line l) (relations_of first store))
    ++ lines (map (relation_line l) (relations_of (count - first) (drop (first * relation_length) store)))
    ≡ lines (map (relation_line l) (relations_of count store))
unfolding relations_of
lines-given l first count store h =
    let front = parts relation_length first store in
    let rest = parts relation_length (count - first) (drop (first * relation_length) store) in
    sym (lines-append (map (relation_line l) (map relation_of front)) (map (relation_line l) (map relation_of rest)))
    ∙ ap lines
    (sym (map-append (relation_line l) (map relation_of front) (map relation_of rest))
    ∙ ap (map (relation_line l))
    (sym (map-append relation_of front rest)
    ∙ ap (map relation_of)
    (sym (parts-append relation_length first (count - first) store) ∙ ap (λ n. parts relation_length n store) (add-sub_of_le h))))

pub lines-length-given : (l : ℤ) (n first count : ℕ) (rows store : List ℤ) (text : List ℕ) → first ≤ count
    → text ≡ lines (map (relation_line l) (relations_of first store))
    → lines_length l n count rows store ≡ length text + lines_length l n (count - first) rows (drop (first * relation_length) store)
unfolding lines_length
lines-length-given l n first count rows store text h e =
    let front = lines (map (relation_line l) (relations_of first store)) in
    let rest = lines (map (relation_line l) (relations_of (count - first) (drop (first * relation_length) store))) in
    omega (arith, ap length e, ap length (lines-given l first count store h), length-append front rest)

pub parts-behind : {A : Type 0} (P : List A → Type 0) (k first count : ℕ) (l : List A) → ((i : ℕ) → i < count → P (take k (drop (i * k) l)))
    → (i : ℕ) → i < count - first → P (take k (drop (i * k) (drop (first * k) l)))
parts-behind P k first count l each i h =
    subst (λ r. P (take k r)) (sym (drop-drop (i * k) (first * k) l ∙ ap (λ n. drop n l) (sym (add-mul first i k))))
    (each (first + i) (omega arith))
