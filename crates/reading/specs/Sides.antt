-- The fifth section of a sheet: right sides, each read into the last sixteen numbers of its part of a store.
--
-- Main definitions
--   sides_into width from ..   sides read one after another, each put into its part of a store at the place `from`
--   side_section_of               the count of the section and the sides, put into rows and relations
--   rest_section               what stands behind the fourth section: nothing, or the fifth section alone
--   SidesTo                   the first i sides of a group have been read into a store
--
-- Main statements
--   side-count-fault, side-fault, side-got   a side is its count and its coefficients
--   sides-begin, sides-go-on, sides-refused, sides-end   the sides of a group, one after another
--   section-gives             where the count and both kinds of sides were read, the stores hold the rows and relations with them
--   section-count-fault, section-rows-fault, section-relations-fault   where one of the three is refused
use Prim.Native.Nat.{ℕ, zero, suc, ◌+◌, ◌*◌, ◌-◌, ◌≤◌, ◌<◌, zero-le}
use Rattle.std.proofs.Common.{suc-ne-zero, le_of_eq, zero-add, add-one, ◌∙◌, length-set, length-drop, drop_of_length-le, take_all, take_at, drop-cons, drop-set-lt, take-suc-set, length-take-le}
use Rattle.std.proofs.Math.Nat.{suc_inj, suc-mul, mul-le-mul_right, sub-zero}
use native.Mathlib.Omega.{arith}
use Rattle.std.specs.Prelude.{◌≡◌, Bool, ◌&&◌, cond, T, get_or, set, ℤ, pos, nat_abs}
use Rattle.std.proofs.Math.Path.{refl, sym, ap, ap₂}
use Rattle.std.proofs.Math.Bool.{true, and-true, and_assoc}
use mathlib.Core.List.{List, [], ◌∷◌, ◌++◌, map, zip_with, append-nil}
use Rattle.std.proofs.Math.Dec.{eqb}
use borrow.Rule.Slice.PartMut.{put_mid}
use Rattle.std.proofs.Math.ListN.{length, take, drop}
use Rattle.std.proofs.lemmas.List.{length-map}
use Rattle.std.proofs.Math.Seq.{paste, length-paste, append_snoc, drop-length}
use Rattle.std.specs.Int.Signed.{le_z, non_neg}
use Rattle.algebra.specs.Polynomials.{Polynomial, is_zero_of, is_zero_ℤ}
use Rattle.lists.specs.Everywhere.{All}
use Rattle.lists.specs.Tests.{every}
use Rattle.lists.specs.Parts.{parts, parts-length, get_or-parts}
use Rattle.lists.specs.Images.{get_or_map, map-set}
use Rattle.lists.specs.Padded.{length-pad_to}
use Rattle.lists.specs.Pasted.{parts-paste-in, parts-paste-past, drop-paste-later, paste-first}
use Rattle.rules.specs.Limits.{coefficient_count, block_count, block_length, entries_length, row_length, relation_length}
use Rattle.rules.specs.Rows.{Row, Relation, no_row}
use Rattle.rules.specs.Stores.{row_of, rows_of, relation_of, relations_of}
use Rattle.rules.specs.Layout.{block_of}
use Rattle.rules.specs.Numbers.{newline, Read, got, fault, then_read, field}
use Rattle.rules.specs.Sheets.{always, after_count_of, judge_side_of, judge_side_count, read_side, read_sides, read_coefficients, put_side_of}
use Rattle.rules.specs.Sheets.{put_relation_side}
use Rattle.tokens.specs.Fields.{then-got, then-fault, then-cong, then-then, then-parts, got-not-fault, between-size, passed}
use Rattle.reading.specs.Terms.{padded}
use Rattle.stores.specs.LentParts.{lent_back}
use Rattle.reading.specs.Equations.{got-value, row_of-is}
use Rattle.reading.specs.Sections.{rows_of-parts, relations_of-parts, relation_of-is}

got-rest : {A : Type 0} {a b : A} {r s : List ℕ} → got a r ≡ got b s → r ≡ s
got-rest e = cc

-- ---- one side

-- A side, and whether it and all before it are zero.
unfoldable pub side_of : Bool → Polynomial → List ℕ → Read (Polynomial × Bool)
side_of none p rest = got (p, none && is_zero_of p) rest

pub side-long : (needed : Bool) (bytes : List ℕ) {p : Polynomial} {rest : List ℕ} → read_side needed bytes ≡ got p rest
    → length p ≡ coefficient_count
unfolding read_side
side-long needed bytes e =
    let count = then-parts (field (judge_side_of needed) after_count_of bytes) _ e in
    let found = then-parts (read_coefficients newline (nat_abs count.0) count.1) _ count.3 in
    sym (ap length (got-value found.3)) ∙ length-pad_to coefficient_count (pos 0) found.0

module _ (needed none : Bool) (bytes : List ℕ) where
  abbrev count : Read ℤ
  count = field (judge_side_of needed) after_count_of bytes

  side-is : read_side needed bytes ≡ then_read count (λ k rest. padded coefficient_count (pos 0) (read_coefficients newline (nat_abs k) rest))
  unfolding read_side padded
  side-is = refl

  pub side-count-fault : {n : ℕ} → field (judge_side_of needed) after_count_of bytes ≡ fault n → then_read (read_side needed bytes) (side_of none)
      ≡ fault n
  side-count-fault e = then-fault (side_of none) (side-is ∙ then-fault _ e)

  module _ {k : ℤ} {rest : List ℕ} (e : field (judge_side_of needed) after_count_of bytes ≡ got k rest) where
    pub side-fault : {n : ℕ} → padded coefficient_count (pos 0) (read_coefficients newline (nat_abs k) rest) ≡ fault n
        → then_read (read_side needed bytes) (side_of none) ≡ fault n
    side-fault f = then-fault (side_of none) (side-is ∙ then-got _ e ∙ f)

    pub side-got : {p : Polynomial} {more : List ℕ} → padded coefficient_count (pos 0) (read_coefficients newline (nat_abs k) rest) ≡ got p more
        → then_read (read_side needed bytes) (side_of none) ≡ got (p, none && is_zero_of p) more
    unfolding side_of
    side-got f = then-got (side_of none) (side-is ∙ then-got _ e ∙ f)

-- The number of a side's coefficients is from 0 to 16.
pub side-zero : (needed : Bool) (k : ℤ) → judge_side_of needed k ≡ 0 → T (non_neg k) × (nat_abs k ≤ coefficient_count)
unfolding judge_side_of
side-zero needed k e =
    let two = between-size 0 coefficient_count k (passed (le_z (pos 0) k && le_z k (pos coefficient_count)) (cond (needed && is_zero_ℤ k) 3 0) 1
    e).0 in
    (two.0, two.2)

-- ---- sides put into the parts of a store

-- The sides ps, put into the parts from the i-th on.
pub put_all : ℕ → ℕ → ℕ → List ℤ → List Polynomial → List ℤ
put_all width from i store [] = store
put_all width from i store (p ∷ ps) = put_all width from (suc i) (paste store (i * width + from) p coefficient_count) ps

-- k sides, read and put into the parts from the i-th on, with others to come after them.
unfoldable pub sides_into : ℕ → ℕ → ℕ → ℕ → ℕ → Bool → List ℤ → List ℕ → Read (List ℤ × Bool)
sides_into width from i zero others none store bytes = got (store, none) bytes
sides_into width from i (suc k) others none store bytes =
    then_read (read_side (none && eqb (k + others) 0) bytes) λ p rest.
    sides_into width from (suc i) k others (none && is_zero_of p) (paste store (i * width + from) p coefficient_count) rest

into-is : (width from i k others : ℕ) (none : Bool) (store : List ℤ) (bytes : List ℕ)
    → sides_into width from i k others none store bytes
    ≡ then_read (read_sides k others none bytes) (λ ps rest. got (put_all width from i store ps, none && every is_zero_of ps) rest)
unfolding sides_into read_sides put_all every
into-is width from i zero others none store bytes = ap (λ t. got (store, t) bytes) (sym (and-true none))
into-is width from i (suc k) others none store bytes =
    then-cong side
    (λ p rest. into-is width from (suc i) k others (none && is_zero_of p) (paste store (i * width + from) p coefficient_count) rest
    ∙ then-cong (read_sides k others (none && is_zero_of p) rest)
    (λ ps more. ap (λ t. got (put_all width from i store (p ∷ ps), t) more) (and_assoc none (is_zero_of p) (every is_zero_of ps)))
    ∙ sym (then-then (read_sides k others (none && is_zero_of p) rest) (λ ps more. got (p ∷ ps) more)
    (λ ps rest. got (put_all width from i store ps, none && every is_zero_of ps) rest)))
    ∙ sym (then-then side (λ p rest. then_read (read_sides k others (none && is_zero_of p) rest) λ ps more. got (p ∷ ps) more)
    (λ ps rest. got (put_all width from i store ps, none && every is_zero_of ps) rest))
  where
    side : Read Polynomial
    side = read_side (none && eqb (k + others) 0) bytes

-- The store holds the first i sides of `count`, and the others are read from the place `next`.
module _ (width from count others : ℕ) (none₀ : Bool) (store₀ : List ℤ) (bytes : List ℕ) (at : ℕ) where
  pub record SidesTo (store : List ℤ) (i next : ℕ) (none : Bool) : Type 0 where
    pub counted : i ≤ count
    pub within : next ≤ length bytes
    pub long : length store ≡ length store₀
    pub rest : sides_into width from 0 count others none₀ store₀ (drop at bytes)
        ≡ sides_into width from i (count - i) others none store (drop next bytes)

  pub sides-begin : at ≤ length bytes → SidesTo store₀ 0 at none₀
  sides-begin h =
      record {
        counted = zero-le;
        within = h;
        long = refl;
        rest = ap (λ k. sides_into width from 0 k others none₀ store₀ (drop at bytes)) (sym (sub-zero count));
      }

  module _ (store : List ℤ) (i next : ℕ) (none : Bool) (so_far : SidesTo store i next none) where
    pub sides-end : i ≡ count → sides_into width from 0 count others none₀ store₀ (drop at bytes) ≡ got (store, none) (drop next bytes)
    unfolding sides_into
    sides-end e =
        let none_left : count - i ≡ 0 = omega arith in
        so_far.rest ∙ ap (λ k. sides_into width from i k others none store (drop next bytes)) none_left

    module _ (some : i < count) where
      abbrev side : Read Polynomial
      side = read_side (none && eqb (count - (i + 1) + others) 0) (drop next bytes)

      side_then : Polynomial → List ℕ → Read (List ℤ × Bool)
      side_then p rest =
          sides_into width from (i + 1) (count - (i + 1)) others (none && is_zero_of p) (paste store (i * width + from) p coefficient_count) rest

      next-side : sides_into width from 0 count others none₀ store₀ (drop at bytes) ≡ then_read side side_then
      unfolding sides_into side_then
      next-side =
          let e : count - i ≡ suc (count - (i + 1)) = omega arith in
          so_far.rest
          ∙ ap (λ k. sides_into width from i k others none store (drop next bytes)) e
          ∙ ap (λ j. then_read side (λ p rest. sides_into width from j (count - (i + 1)) others (none && is_zero_of p)
          (paste store (i * width + from) p coefficient_count) rest)) (sym (add-one i))

      pub sides-refused : {n : ℕ}
          → then_read (read_side (none && eqb (count - (i + 1) + others) 0) (drop next bytes)) (side_of none) ≡ fault n
          → sides_into width from 0 count others none₀ store₀ (drop at bytes) ≡ fault n
      unfolding side_of then_read
      sides-refused {n} e = next-side ∙ then-fault side_then (by side e)
        where
          by : (r : Read Polynomial) → then_read {B = Polynomial × Bool} r (λ p rest. got (p, none && is_zero_of p) rest) ≡ fault n → r ≡ fault n
          by (got p rest) e = absurd (got-not-fault e)
          by (fault m) e = cc

      -- One more side, put into its place.
      pub sides-go-on : (p : Polynomial) (still : Bool) (after : ℕ) (place : ℕ)
          → then_read (read_side (none && eqb (count - (i + 1) + others) 0) (drop next bytes)) (side_of none) ≡ got (p, still) (drop after bytes)
          → after ≤ length bytes → place ≡ i * width + from → i * width + from + coefficient_count ≤ length store₀
          → SidesTo (put_mid place (place + coefficient_count - place) store p) (i + 1) after still
      unfolding side_of side_then
      sides-go-on p still after place e inside same fits =
          let found = then-parts side _ e in
          let p-is : found.0 ≡ p = ap (λ q. q.0) (got-value found.3) in
          let whole : length p ≡ coefficient_count
          = sym (ap length p-is) ∙ side-long (none && eqb (count - (i + 1) + others) 0) (drop next bytes) found.2 in
          rw (lent_back store place coefficient_count p whole, same)
          (record {
            counted = omega arith;
            within = inside;
            long =
                length-paste store (i * width + from) p coefficient_count (rw so_far.long fits) (le_of_eq (sym whole)) ∙ so_far.long;
            rest =
                next-side
                ∙ then-got side_then found.2
                ∙ (λ j. sides_into width from (i + 1) (count - (i + 1)) others (got-value found.3 j).1
                (paste store (i * width + from) (got-value found.3 j).0 coefficient_count) (got-rest found.3 j));
          })

-- Where the sides were read, what they are and where they were put.
pub record SidesPut (width from k others : ℕ) (none : Bool) (store : List ℤ) (bytes : List ℕ) (after : List ℤ) (zero : Bool)
    (rest : List ℕ) : Type 0 where
  pub sides : List Polynomial
  pub read : read_sides k others none bytes ≡ got sides rest
  pub put : after ≡ put_all width from 0 store sides
  pub still : zero ≡ (none && every is_zero_of sides)

pub into-got : (width from k others : ℕ) (none : Bool) (store : List ℤ) (bytes : List ℕ) {after : List ℤ} {zero : Bool} {rest : List ℕ}
    → sides_into width from 0 k others none store bytes ≡ got (after, zero) rest
    → SidesPut width from k others none store bytes after zero rest
into-got width from k others none store bytes {after} {zero} {rest} e =
    let found = then-parts (read_sides k others none bytes) _ (sym (into-is width from 0 k others none store bytes) ∙ e) in
    record {
      sides = found.0;
      read = found.2 ∙ ap (got found.0) (got-rest found.3);
      put = sym (ap (λ q. q.0) (got-value found.3));
      still = sym (ap (λ q. q.1) (got-value found.3));
    }

pub into-fault : (width from k others : ℕ) (none : Bool) (store : List ℤ) (bytes : List ℕ) {n : ℕ}
    → sides_into width from 0 k others none store bytes ≡ fault n → read_sides k others none bytes ≡ fault n
unfolding then_read
into-fault width from k others none store bytes {n} e =
    by (read_sides k others none bytes) (sym (into-is width from 0 k others none store bytes) ∙ e)
  where
    by : (r : Read (List Polynomial))
        → then_read {B = List ℤ × Bool} r (λ ps rest. got (put_all width from 0 store ps, none && every is_zero_of ps) rest) ≡ fault n
        → r ≡ fault n
    by (got ps rest) e = absurd (got-not-fault e)
    by (fault m) e = cc

pub sides-long : (k others : ℕ) (none : Bool) (bytes : List ℕ) {ps : List Polynomial} {rest : List ℕ} → read_sides k others none bytes ≡ got ps rest
    → (length ps ≡ k) × All (λ p. length p ≡ coefficient_count) ps
unfolding read_sides All
sides-long zero others none bytes {ps} e = rw (← got-value e) (refl, tt)
sides-long (suc k) others none bytes {ps} e =
    let first = then-parts (read_side (none && eqb (k + others) 0) bytes) _ e in
    let more = then-parts (read_sides k others (none && is_zero_of first.0) first.1) _ first.3 in
    let long = sides-long k others (none && is_zero_of first.0) first.1 more.2 in
    rw (← got-value more.3) (ap suc long.0, (side-long (none && eqb (k + others) 0) bytes first.2, long.1))

-- ---- one member after another changed by what stands at its place in a second list

module _ {A B : Type 0} (put : A → B → A) (d : A) where
  put_from : ℕ → List A → List B → List A
  put_from i l [] = l
  put_from i l (p ∷ ps) = put_from (suc i) (set l i (put (get_or l i d) p)) ps

  put_from-is : (i : ℕ) (l : List A) (ps : List B) → length l ≡ i + length ps → put_from i l ps ≡ take i l ++ zip_with put (drop i l) ps
  unfolding put_from zip_with
  put_from-is i l [] e =
      sym (take_all i l (omega (arith, e))) ∙ sym (append-nil (take i l))
      ∙ ap (λ r. take i l ++ r) (sym (ap (λ r. zip_with put r []) (drop_of_length-le l {i = i} (omega (arith, e)))))
  put_from-is i l (p ∷ ps) e =
      put_from-is (suc i) (set l i (put (get_or l i d) p)) ps (length-set l i _ ∙ e ∙ omega arith)
      ∙ ap₂ (λ a b. a ++ zip_with put b ps) (take-suc-set l i _ inside) (drop-set-lt (suc i) l i _ (omega arith))
      ∙ append_snoc (take i l) (put (get_or l i d) p) (zip_with put (drop (suc i) l) ps)
      ∙ ap (λ r. take i l ++ zip_with put r (p ∷ ps)) (sym (drop-cons l i d inside))
    where
      inside : i < length l
      inside = omega (arith, e)

-- ---- rows and relations with their sides

-- Sixteen numbers put at one place into each of the parts, where `decode` makes of a part what has a side.
module _ {B : Type 0} (width from n : ℕ) (decode : List ℤ → B) (put : B → Polynomial → B) (d : B)
    (inside : from + coefficient_count ≤ width)
    (decode-put : (l : List ℤ) (p : Polynomial) → length l ≡ width → length p ≡ coefficient_count
    → decode (paste l from p coefficient_count) ≡ put (decode l) p) where
  one-put : (i : ℕ) (store : List ℤ) (p : Polynomial) → i < n → n * width ≤ length store → length p ≡ coefficient_count
      → map decode (parts width n (paste store (i * width + from) p coefficient_count))
      ≡ set (map decode (parts width n store)) i (put (get_or (map decode (parts width n store)) i d) p)
  one-put i store p h enough long =
      ap (map decode) (parts-paste-in width n i from store p coefficient_count h inside enough (le_of_eq (sym long)))
      ∙ map-set decode (parts width n store) i _
      ∙ ap (set (map decode (parts width n store)) i)
      (decode-put (get_or (parts width n store) i []) p whole long
      ∙ ap (λ x. put x p) (sym (get_or_map decode (parts width n store) i [] d (rw (parts-length width n store) h))))
    where
      whole : length (get_or (parts width n store) i []) ≡ width
      whole =
          ap length (get_or-parts width n store i h)
          ∙ length-take-le width (drop (i * width) store)
          (rw (length-drop (i * width) store) (omega (arith, mul-le-mul_right {m = suc i} {n = n} width h, suc-mul i width)))

  all-put : (i : ℕ) (store : List ℤ) (ps : List Polynomial) → All (λ p. length p ≡ coefficient_count) ps → i + length ps ≤ n
      → n * width ≤ length store
      → map decode (parts width n (put_all width from i store ps)) ≡ put_from put d i (map decode (parts width n store)) ps
  unfolding put_all put_from All
  all-put i store [] long h enough = refl
  all-put i store (p ∷ ps) long h enough =
      all-put (suc i) (paste store (i * width + from) p coefficient_count) ps long.1 (omega arith)
      (rw (length-paste store (i * width + from) p coefficient_count fits (le_of_eq (sym long.0))) enough)
      ∙ ap (λ l. put_from put d (suc i) l ps) (one-put i store p (omega arith) enough long.0)
    where
      fits : i * width + from + coefficient_count ≤ length store
      fits = omega (arith, mul-le-mul_right {m = suc i} {n = n} width (omega arith), suc-mul i width)

  sides-put : (store : List ℤ) (ps : List Polynomial) → length ps ≡ n → All (λ p. length p ≡ coefficient_count) ps → n * width ≤ length store
      → map decode (parts width n (put_all width from 0 store ps)) ≡ zip_with put (map decode (parts width n store)) ps
  sides-put store ps e long enough =
      all-put 0 store ps long (omega (arith, e)) enough
      ∙ put_from-is put d 0 (map decode (parts width n store)) ps
      (length-map (parts width n store) decode ∙ parts-length width n store ∙ sym e ∙ sym (zero-add (length ps)))

row_of-side : (l : List ℤ) (p : Polynomial) → length l ≡ row_length → length p ≡ coefficient_count
    → row_of (paste l entries_length p coefficient_count) ≡ put_side_of (row_of l) p
unfolding put_side_of
row_of-side l p el ep =
    row_of-is (paste l entries_length p coefficient_count)
    ∙ ap₂ (λ ps side. record { blocks = map block_of ps; right = side })
    (parts-paste-past block_length block_count l p coefficient_count (omega arith)) side
    ∙ ap (λ r. record { blocks = r.blocks; right = p }) (sym (row_of-is l))
  where
    side : take coefficient_count (drop entries_length (paste l entries_length p coefficient_count)) ≡ p
    side =
        ap (take coefficient_count) (drop-paste-later l entries_length 0 p coefficient_count (omega arith) ∙ paste-first (drop entries_length l) p
        coefficient_count ep)
        ∙ take_at p (drop coefficient_count (drop entries_length l)) coefficient_count ep

relation_of-side : (l : List ℤ) (p : Polynomial) → length l ≡ relation_length → length p ≡ coefficient_count
    → relation_of (paste l (suc entries_length) p coefficient_count) ≡ put_relation_side (relation_of l) p
unfolding put_relation_side
relation_of-side [] p el ep = absurd (suc-ne-zero row_length (sym el))
relation_of-side (x ∷ l) p el ep =
    relation_of-is (x ∷ paste l entries_length p coefficient_count)
    ∙ ap (λ r. record { index = x; row = r }) (row_of-side l p (suc_inj el) ep)
    ∙ ap (λ e. put_relation_side e p) (sym (relation_of-is (x ∷ l)))

rows-put : (n : ℕ) (store : List ℤ) (ps : List Polynomial) → length ps ≡ n → All (λ p. length p ≡ coefficient_count) ps
    → n * row_length ≤ length store → rows_of n (put_all row_length entries_length 0 store ps) ≡ zip_with put_side_of (rows_of n store) ps
rows-put n store ps e long enough =
    rows_of-parts n (put_all row_length entries_length 0 store ps)
    ∙ sides-put row_length entries_length n row_of put_side_of no_row (omega arith) row_of-side store ps e long enough
    ∙ ap (λ rows. zip_with put_side_of rows ps) (sym (rows_of-parts n store))

relations-put : (n : ℕ) (store : List ℤ) (ps : List Polynomial) → length ps ≡ n → All (λ p. length p ≡ coefficient_count) ps
    → n * relation_length ≤ length store
    → relations_of n (put_all relation_length (suc entries_length) 0 store ps) ≡ zip_with put_relation_side (relations_of n store) ps
relations-put n store ps e long enough =
    relations_of-parts n (put_all relation_length (suc entries_length) 0 store ps)
    ∙ sides-put relation_length (suc entries_length) n relation_of put_relation_side (record { index = pos 0; row = no_row }) (omega arith)
    relation_of-side store ps e long enough
    ∙ ap (λ relations. zip_with put_relation_side relations ps) (sym (relations_of-parts n store))

-- ---- the fifth section

-- The sides of r relations, where `none` says that those of the equations are zero.
unfoldable pub relation_sides : ℕ → List Row → List Relation → Bool → List ℕ → Read (List Row × List Relation)
relation_sides r rows relations none bytes =
    then_read (read_sides r 0 none bytes) λ qs rest. got (rows, zip_with put_relation_side relations qs) rest

unfoldable pub all_sides : ℕ → ℕ → List Row → List Relation → List ℕ → Read (List Row × List Relation)
all_sides e r rows relations bytes =
    then_read (read_sides e r true bytes) λ ps rest. relation_sides r (zip_with put_side_of rows ps) relations (every is_zero_of ps) rest

-- The number of the sides, and the sides.
unfoldable pub side_section_of : ℕ → ℕ → List Row → List Relation → List ℕ → Read (List Row × List Relation)
side_section_of e r rows relations bytes =
    then_read (field (judge_side_count (e + r)) (always newline) bytes) λ _ rest. all_sides e r rows relations rest

module _ (e r : ℕ) (rows relations : List ℤ) (bytes : List ℕ) where
  pub section-count-fault : {n : ℕ} → field (judge_side_count (e + r)) (always newline) bytes ≡ fault n
      → side_section_of e r (rows_of e rows) (relations_of r relations) bytes ≡ fault n
  unfolding side_section_of
  section-count-fault f = then-fault _ f

  module _ (k : ℤ) (first : List ℕ) (counted : field (judge_side_count (e + r)) (always newline) bytes ≡ got k first) where
    pub section-rows-fault : {n : ℕ} → sides_into row_length entries_length 0 e r true rows first ≡ fault n
        → side_section_of e r (rows_of e rows) (relations_of r relations) bytes ≡ fault n
    unfolding side_section_of all_sides
    section-rows-fault f = then-got _ counted ∙ then-fault _ (into-fault row_length entries_length e r true rows first f)

    module _ (rows' : List ℤ) (none : Bool) (second : List ℕ)
        (rows-read : sides_into row_length entries_length 0 e r true rows first ≡ got (rows', none) second)
        (rows_long : e * row_length ≤ length rows) where
      to-relations : side_section_of e r (rows_of e rows) (relations_of r relations) bytes
          ≡ relation_sides r (rows_of e rows') (relations_of r relations) none second
      unfolding side_section_of all_sides
      to-relations =
          let found = into-got row_length entries_length e r true rows first rows-read in
          let long = sides-long e r true first found.read in
          then-got _ counted
          ∙ then-got _ found.read
          ∙ ap₂ (λ rows none. relation_sides r rows (relations_of r relations) none second)
          (sym (ap (rows_of e) found.put ∙ rows-put e rows found.sides long.0 long.1 rows_long)) (sym found.still)

      pub section-relations-fault : {n : ℕ} → sides_into relation_length (suc entries_length) 0 r 0 none relations second ≡ fault n
          → side_section_of e r (rows_of e rows) (relations_of r relations) bytes ≡ fault n
      unfolding relation_sides
      section-relations-fault f =
          to-relations ∙ then-fault _ (into-fault relation_length (suc entries_length) r 0 none relations second f)

      pub section-gives : {relations' : List ℤ} {zero : Bool} {third : List ℕ}
          → sides_into relation_length (suc entries_length) 0 r 0 none relations second ≡ got (relations', zero) third
          → r * relation_length ≤ length relations
          → side_section_of e r (rows_of e rows) (relations_of r relations) bytes ≡ got (rows_of e rows', relations_of r relations') third
      unfolding relation_sides
      section-gives {relations'} {third = third} f enough =
          let found = into-got relation_length (suc entries_length) r 0 none relations second f in
          let long = sides-long r 0 none second found.read in
          to-relations
          ∙ then-got _ found.read
          ∙ ap (λ l. got (rows_of e rows', l) third)
          (sym (ap (relations_of r) found.put ∙ relations-put r relations found.sides long.0 long.1 enough))

-- ---- the end of a sheet

-- Bytes behind the fifth section are 4.
unfoldable pub nothing_more : List Row × List Relation → List ℕ → Read (List Row × List Relation)
nothing_more q [] = got q []
nothing_more q (b ∷ bytes) = fault 4

-- No byte behind the fourth section, or the fifth section and no byte behind it.
unfoldable pub rest_section : ℕ → ℕ → List Row → List Relation → List ℕ → Read (List Row × List Relation)
rest_section e r rows relations [] = got (rows, relations) []
rest_section e r rows relations (b ∷ bytes) = then_read (side_section_of e r rows relations (b ∷ bytes)) nothing_more

module _ (e r : ℕ) (rows : List Row) (relations : List Relation) (bytes : List ℕ) (at : ℕ) where
  pub rest-none : at ≡ length bytes → rest_section e r rows relations (drop at bytes) ≡ got (rows, relations) (drop (length bytes) bytes)
  unfolding rest_section
  rest-none h =
      ap (rest_section e r rows relations) (ap (λ k. drop k bytes) h ∙ drop-length bytes)
      ∙ ap (got (rows, relations)) (sym (drop-length bytes))

  module _ (some : at < length bytes) where
    rest_some : rest_section e r rows relations (drop at bytes) ≡ then_read (side_section_of e r rows relations (drop at bytes)) nothing_more
    unfolding rest_section
    rest_some =
        ap (rest_section e r rows relations) (drop-cons bytes at 0 some)
        ∙ ap (λ l. then_read (side_section_of e r rows relations l) nothing_more) (sym (drop-cons bytes at 0 some))

    pub rest-fault : {n : ℕ} → side_section_of e r rows relations (drop at bytes) ≡ fault n → rest_section e r rows relations (drop at bytes)
        ≡ fault n
    rest-fault f = rest_some ∙ then-fault nothing_more f

    module _ (q : List Row × List Relation) (next : ℕ) (f : side_section_of e r rows relations (drop at bytes) ≡ got q (drop next bytes)) where
      pub rest_more : next < length bytes → rest_section e r rows relations (drop at bytes) ≡ fault 4
      unfolding nothing_more
      rest_more h = rest_some ∙ then-got nothing_more f ∙ ap (nothing_more q) (drop-cons bytes next 0 h)

      pub rest-whole : length bytes ≤ next → rest_section e r rows relations (drop at bytes) ≡ got q (drop (length bytes) bytes)
      unfolding nothing_more
      rest-whole h =
          rest_some
          ∙ then-got nothing_more f
          ∙ ap (nothing_more q) (drop_of_length-le bytes h)
          ∙ ap (got q) (sym (drop-length bytes))
