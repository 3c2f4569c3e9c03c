-- The terms of a row: its polynomials in use that are not zero, listed once for all n.
--
-- Main definitions
--   term_length_of, shape_length     the numbers of a term and of a shape: twenty terms, how many of them there are, and the end of the right side
--   term_polynomial              the polynomial of a term, without the zeros at its top
--   with_product, term_sum        a sum with a polynomial's product added; the sum of the first terms
--   Fine                        the terms lie in the row, and their numbers among so many
--   Listed                      what the terms listed behind others add to every sum
--   Shaped                      a shape is that of a row
--
-- Main statements
--   numbers-room                the numbers of the terms are there
--   column-skipped, column-listed   a zero polynomial does not count, any other is listed
--   listed-none, listed-column  columns listed one after the other
--   blocks-none, blocks-listed  blocks listed one after the other
--   blocks-shaped               the shape of a row
use Rattle.std.specs.Prelude.{ℕ, zero, suc, pred, ◌+◌, ◌*◌, ◌-◌, ◌≤◌, ◌<◌, ◌≡◌, refl, List, [], ◌∷◌, ◌++◌, map, T, length, take, drop, set, ℤ, pos, ◌+ℤ◌, ◌*ℤ◌}
use Rattle.std.proofs.Common.{zero-le, add-zero, add-mul, one-mul, suc-mul, mul-le-mul, le_refl, add-one, ◌∙◌, subst, length-set, get_or-set_same, get_or-set_other, take-take, drop-drop}
use Rattle.std.proofs.Math.Nat.{sub-zero}
use Rattle.std.proofs.Math.Decide.{dec_lt}
use native.Mathlib.Omega.{arith}
use Rattle.std.proofs.Math.Path.{sym, ap, ap₂}
use Rattle.std.proofs.lemmas.List.{map-append, length-map}
use Rattle.std.proofs.Math.Option.{Option, none, some}
use Rattle.std.proofs.Math.ListN.{get_or, length-take}
use Rattle.std.proofs.Math.IntN.{zero-*ℤ, +ℤ_idr}
use Rattle.algebra.specs.Polynomials.{Polynomial, is_zero_of}
use Rattle.lists.specs.Parts.{parts, parts-length, parts_more}
use Rattle.rules.specs.Layout.{block_of}
use Rattle.rules.specs.Limits.{coefficient_count, column_count, polynomial_count, most_span, block_length, entries_length, row_length}
use Rattle.rules.specs.Rows.{Block}
use Rattle.rules.specs.Stores.{row_of}
use Rattle.evaluation.specs.Evaluated.{after, horner, horner-zero, used, used-length, used-zero, horner-front}
use Rattle.records.specs.Records.{with_block, with_blocks}
use Rattle.records.specs.RecordSums.{blocks-of, columns_of}

-- Where the polynomial begins in the row, where it ends, and which number of the vectors multiplies it.
abbrev pub term_length_of : ℕ
term_length_of = 3

-- Behind the terms stand how many there are and where the right side ends.
abbrev pub shape_length : ℕ
shape_length = polynomial_count * term_length_of + 2

-- Where it stands how many there are.
abbrev pub count_place : ℕ
count_place = polynomial_count * term_length_of

-- The coefficients from the place where a term's polynomial begins to the place where it ends.
unfoldable pub term_polynomial : List ℤ → List ℕ → ℕ → Polynomial
term_polynomial row shape k =
    take (get_or shape (k * term_length_of + 1) 0 - get_or shape (k * term_length_of) 0) (drop (get_or shape (k * term_length_of) 0) row)

-- A sum with the product of a polynomial's value and a number added.
unfoldable pub with_product : ℤ → List ℤ → ℕ → Polynomial → ℤ → Option ℤ
unfolding after horner
with_product n values at p s = after (λ v. some (s +ℤ v *ℤ get_or values at (pos 0))) (horner n p)

-- The sum of the first terms, whose numbers are counted from a place on.
unfoldable pub term_sum : ℤ → List ℤ → List ℤ → ℕ → List ℕ → ℕ → Option ℤ
unfolding after with_product term_polynomial
term_sum n row values base shape zero = some (pos 0)
term_sum n row values base shape (suc k) =
    after (with_product n values (base + get_or shape (k * term_length_of + 2) 0) (term_polynomial row shape k)) (term_sum n row values base shape k)

-- The first terms lie in a row of that length, and their numbers among so many.
pub record FineTerm (long width : ℕ) (shape : List ℕ) (k : ℕ) : Type 0 where
  pub order : get_or shape (k * term_length_of) 0 ≤ get_or shape (k * term_length_of + 1) 0
  pub inside : get_or shape (k * term_length_of + 1) 0 ≤ long
  pub number : get_or shape (k * term_length_of + 2) 0 < width

abbrev pub Fine : ℕ → ℕ → List ℕ → ℕ → Type 0
Fine long width shape count = (k : ℕ) → k < count → FineTerm long width shape k

-- Terms are listed behind others, at most `room` of them, whose numbers stand before `end`: they add to every sum what is said.
pub record Listed (row : List ℤ) (shape : List ℕ) (count : ℕ) (later : List ℕ) (more room end : ℕ)
    (added : ℤ → List ℤ → ℕ → ℤ → Option ℤ) : Type 0 where
  pub same_length : length later ≡ length shape
  pub few : more ≤ count + room
  pub fine : (width : ℕ) → end ≤ width → Fine (length row) width shape count → Fine (length row) width later more
  pub sums : (n : ℤ) (values : List ℤ) (base : ℕ)
      → term_sum n row values base later more ≡ after (added n values base) (term_sum n row values base shape count)

-- The terms of a row are those of a shape, with as many numbers as its blocks meet, and so is the end of its right side.
pub record Shaped (m span : ℕ) (row : List ℤ) (shape : List ℕ) : Type 0 where
  pub long : length shape ≡ shape_length
  pub few : get_or shape (polynomial_count * term_length_of) 0 ≤ polynomial_count
  pub fine : Fine row_length ((span + 1) * m) shape (get_or shape (polynomial_count * term_length_of) 0)
  pub sums : (n : ℤ) (values : List ℤ) (top : ℕ) → span ≤ top
      → term_sum n row values ((top - span) * m) shape (get_or shape (polynomial_count * term_length_of) 0)
      ≡ with_blocks n values m top (pos 0) (take (suc span) (row_of row).blocks)
  pub right-from : entries_length ≤ get_or shape (polynomial_count * term_length_of + 1) 0
  pub right-to : get_or shape (polynomial_count * term_length_of + 1) 0 ≤ row_length
  pub right : (n : ℤ) → horner n (take (get_or shape (polynomial_count * term_length_of + 1) 0 - entries_length) (drop entries_length row))
      ≡ horner n (row_of row).right

-- The numbers that the blocks meet at so many successive n are there where the vectors that block l meets are.
pub numbers-room : (m span top tests n : ℕ) → span ≤ top → 0 < tests → (top + tests) * m ≤ n
    → (top - span) * m + (tests - 1) * m + (span + 1) * m ≤ n
numbers-room m span top tests n h Some-tests room =
    let e : top - span + (tests - 1) + (span + 1) ≡ top + tests = omega arith in
    let parts = add-mul (top - span + (tests - 1)) (span + 1) m in
    omega (arith, parts, add-mul (top - span) (tests - 1) m, ap (λ k. k * m) e)

-- ---- what follows a value

pub after_same : {A B : Type 0} (f g : A → Option B) → ((x : A) → f x ≡ g x) → (o : Option A) → after f o ≡ after g o
unfolding after
after_same f g h none = refl
after_same f g h (some v) = h v

after-after : {A B C : Type 0} (f : B → Option C) (g : A → Option B) (o : Option A) → after f (after g o) ≡ after (λ x. after f (g x)) o
unfolding after
after-after f g none = refl
after-after f g (some v) = refl

after-keep : {A : Type 0} (f : A → Option A) → ((x : A) → f x ≡ some x) → (o : Option A) → after f o ≡ o
unfolding after
after-keep f h none = refl
after-keep f h (some v) = h v

-- ---- terms

-- Terms that stand alike have one sum, and are fine alike.
sum_same : (n : ℤ) (row values : List ℤ) (base : ℕ) (shape other : List ℕ) (count : ℕ)
    → ((i : ℕ) → i < count * term_length_of → get_or other i 0 ≡ get_or shape i 0)
    → term_sum n row values base other count ≡ term_sum n row values base shape count
unfolding term_sum term_polynomial
sum_same n row values base shape other zero h = refl
sum_same n row values base shape other (suc k) h =
    let a = h (k * term_length_of) (omega arith) in
    let b = h (k * term_length_of + 1) (omega arith) in
    let d = h (k * term_length_of + 2) (omega arith) in
    rw (a, b, d)
    (ap (after (with_product n values (base + get_or shape (k * term_length_of + 2) 0) (term_polynomial row shape k)))
    (sum_same n row values base shape other k (λ i l. h i (omega arith))))

fine-same : (long width : ℕ) (shape other : List ℕ) (count : ℕ)
    → ((i : ℕ) → i < count * term_length_of → get_or other i 0 ≡ get_or shape i 0) → Fine long width shape count → Fine long width other count
fine-same long width shape other count h f k l =
    let a = h (k * term_length_of) (omega arith) in
    let b = h (k * term_length_of + 1) (omega arith) in
    let d = h (k * term_length_of + 2) (omega arith) in
    record { order = omega (arith, (f k l).order); inside = omega (arith, (f k l).inside); number = omega (arith, (f k l).number) }

pub fine-wider : (long width more : ℕ) (shape : List ℕ) (count : ℕ) → width ≤ more → Fine long width shape count → Fine long more shape count
fine-wider long width more shape count h f k l =
    record { order = (f k l).order; inside = (f k l).inside; number = omega (arith, (f k l).number) }

-- ---- one column

-- The product of a zero polynomial adds nothing.
product-zero : (n : ℤ) (values : List ℤ) (at : ℕ) (p : Polynomial) → T (is_zero_of p) → (s : ℤ) → with_product n values at p s ≡ some s
unfolding with_product after
product-zero n values at p z s =
    let x = get_or values at (pos 0) in
    ap (after (λ v. some (s +ℤ v *ℤ x))) (horner-zero n p z) ∙ ap (λ v. some (s +ℤ v)) (zero-*ℤ x) ∙ ap some (+ℤ_idr s)

module _ (row : List ℤ) (shape : List ℕ) (count from number : ℕ) where
  abbrev column_at_of : Polynomial
  column_at_of = take coefficient_count (drop from row)

  abbrev added : ℤ → List ℤ → ℕ → ℤ → Option ℤ
  added n values base s = with_product n values (base + number) column_at_of s

  -- The shape with where the polynomial begins, then with where it ends, and then with its number: the term behind the first ones.
  abbrev begun : List ℕ
  begun = set shape (count * term_length_of) from

  abbrev ended : List ℕ
  ended = set begun (count * term_length_of + 1) (from + used column_at_of)

  abbrev pub with_term_of : List ℕ
  with_term_of = set ended (count * term_length_of + 2) number

  terms-before : (i : ℕ) → i < count * term_length_of → get_or with_term_of i 0 ≡ get_or shape i 0
  terms-before i l =
      get_or-set_other ended (count * term_length_of + 2) i number 0 (λ e. absurd (omega arith))
      ∙ get_or-set_other begun (count * term_length_of + 1) i (from + used column_at_of) 0 (λ e. absurd (omega arith))
      ∙ get_or-set_other shape (count * term_length_of) i from 0 (λ e. absurd (omega arith))

  pub column-skipped : T (is_zero_of column_at_of) → Listed row shape count with_term_of count 1 (number + 1) added
  column-skipped z = record {
    same_length = simp length-set;
    few = omega arith;
    fine = λ width h f. fine-same (length row) width shape with_term_of count terms-before f;
    sums = λ n values base.
        sum_same n row values base shape with_term_of count terms-before
        ∙ sym (after-keep (added n values base) (product-zero n values (base + number) column_at_of z) (term_sum n row values base shape count));
  }

  module _ (room : count * term_length_of + term_length_of ≤ length shape) where
    begins : get_or with_term_of (count * term_length_of) 0 ≡ from
    begins =
        get_or-set_other ended (count * term_length_of + 2) (count * term_length_of) number 0 (λ e. absurd (omega arith))
        ∙ get_or-set_other begun (count * term_length_of + 1) (count * term_length_of) (from + used column_at_of) 0 (λ e. absurd (omega arith))
        ∙ get_or-set_same shape (count * term_length_of) from 0 (omega arith)

    ends : get_or with_term_of (count * term_length_of + 1) 0 ≡ from + used column_at_of
    ends =
        get_or-set_other ended (count * term_length_of + 2) (count * term_length_of + 1) number 0 (λ e. absurd (omega arith))
        ∙ get_or-set_same begun (count * term_length_of + 1) (from + used column_at_of) 0 (simp length-set (omega arith))

    numbered : get_or with_term_of (count * term_length_of + 2) 0 ≡ number
    numbered = get_or-set_same ended (count * term_length_of + 2) number 0 (simp length-set (omega arith))

    used-few : used column_at_of ≤ coefficient_count
    used-few = omega (arith, used-length column_at_of, length-take coefficient_count (drop from row))

    polynomial : (n : ℤ) → horner n (term_polynomial row with_term_of count) ≡ horner n column_at_of
    unfolding term_polynomial
    polynomial n =
        let width : from + used column_at_of - from ≡ used column_at_of = omega arith in
        ap₂ (λ b e. horner n (take (e - b) (drop b row))) begins ends
        ∙ ap (λ k. horner n (take k (drop from row))) width
        ∙ ap (horner n) (sym (take-take (used column_at_of) coefficient_count (drop from row) used-few))
        ∙ horner-front n column_at_of (used column_at_of) (used-zero column_at_of)

    sum-listed : (n : ℤ) (values : List ℤ) (base : ℕ)
        → term_sum n row values base with_term_of (count + 1) ≡ after (added n values base) (term_sum n row values base shape count)
    unfolding term_sum with_product
    sum-listed n values base =
        ap (term_sum n row values base with_term_of) (add-one count)
        ∙ after_same
        (with_product n values (base + get_or with_term_of (count * term_length_of + 2) 0) (term_polynomial row with_term_of count)) (added n values base)
        (λ s. ap₂ (λ k o. after (λ v. some (s +ℤ v *ℤ get_or values (base + k) (pos 0))) o) numbered (polynomial n))
        (term_sum n row values base with_term_of count)
        ∙ ap (after (added n values base)) (sum_same n row values base shape with_term_of count terms-before)

    fine-listed : from + coefficient_count ≤ length row → (width : ℕ) → number + 1 ≤ width → Fine (length row) width shape count
        → Fine (length row) width with_term_of (count + 1)
    fine-listed inside width h f k l = cases (dec_lt k count)
      where
        cases : Dec (k < count) → FineTerm (length row) width with_term_of k
        cases (yes below) = fine-same (length row) width shape with_term_of count terms-before f k below
        cases (no other) =
            let here : count ≡ k = omega arith in
            subst (FineTerm (length row) width with_term_of) here (record {
              order = omega (arith, begins, ends);
              inside = omega (arith, ends, used-few);
              number = omega (arith, numbered);
            })

    pub column-listed : from + coefficient_count ≤ length row → Listed row shape count with_term_of (count + 1) 1 (number + 1) added
    column-listed inside = record {
      same_length = simp length-set;
      few = omega arith;
      fine = fine-listed inside;
      sums = sum-listed;
    }

-- ---- the columns of a block

-- One column more behind the others.
block_more : (n : ℤ) (values : List ℤ) (from c : ℕ) (s : ℤ) (ps : Block) (p : Polynomial)
    → with_block n values from c s (ps ++ (p ∷ [])) ≡ after (with_product n values (from + (c + length ps)) p) (with_block n values from c s ps)
unfolding with_block with_product after
block_more n values from c s [] p = ap (λ k. with_product n values (from + k) p s) (sym (add-zero c))
block_more n values from c s (q ∷ ps) p =
    let next : ℤ → ℤ = λ v. s +ℤ v *ℤ get_or values (from + c) (pos 0) in
    let place : suc c + length ps ≡ c + suc (length ps) = omega arith in
    after_same _ (λ v. after (with_product n values (from + (c + suc (length ps))) p) (with_block n values from (suc c) (next v) ps))
    (λ v. block_more n values from (suc c) (next v) ps p
    ∙ ap (λ k. after (with_product n values (from + k) p) (with_block n values from (suc c) (next v) ps)) place)
    (horner n q)
    ∙ sym (after-after (with_product n values (from + (c + suc (length ps))) p) (λ v. with_block n values from (suc c) (next v) ps) (horner n q))

-- Column c of the block from a place on, and block b of a row.
abbrev pub column_of : List ℤ → ℕ → ℕ → Polynomial
column_of row at c = take coefficient_count (drop (at + c * coefficient_count) row)

abbrev block_at : List ℤ → ℕ → Block
block_at row b = block_of (take block_length (drop (b * block_length) row))

-- What the first c columns of a block add.
abbrev pub columns_added : List ℤ → ℕ → ℕ → ℕ → ℤ → List ℤ → ℕ → ℤ → Option ℤ
columns_added row at number c n values base s = with_block n values (base + number) 0 s (parts coefficient_count c (drop at row))

module _ (row : List ℤ) (at number : ℕ) (shape : List ℕ) (count : ℕ) where
  pub listed-none : Listed row shape count shape count 0 number (columns_added row at number 0)
  unfolding with_block parts
  listed-none = record {
    same_length = refl;
    few = omega arith;
    fine = λ width h f. f;
    sums = λ n values base. sym (after-keep _ (λ s. refl) (term_sum n row values base shape count));
  }

  pub listed-column : (c : ℕ) (middle later : List ℕ) (reached more : ℕ)
      → Listed row shape count middle reached c (number + c) (columns_added row at number c)
      → Listed row middle reached later more 1 (number + c + 1)
      (λ n values base s. with_product n values (base + (number + c)) (column_of row at c) s)
      → Listed row shape count later more (c + 1) (number + (c + 1)) (columns_added row at number (c + 1))
  listed-column c middle later reached more first next = record {
    same_length = next.same_length ∙ first.same_length;
    few = omega (arith, first.few, next.few);
    fine = λ width h f. next.fine width (omega arith) (first.fine width (omega arith) f);
    sums = sums;
  }
    where
      columns : parts coefficient_count (c + 1) (drop at row) ≡ parts coefficient_count c (drop at row) ++ (column_of row at c ∷ [])
      columns =
          ap (λ k. parts coefficient_count k (drop at row)) (add-one c) ∙ parts_more coefficient_count c (drop at row)
          ∙ ap (λ l. parts coefficient_count c (drop at row) ++ (take coefficient_count l ∷ [])) (drop-drop (c * coefficient_count) at row)

      whole : (n : ℤ) (values : List ℤ) (base : ℕ) (s : ℤ) → columns_added row at number (c + 1) n values base s
          ≡ after (with_product n values (base + (number + c)) (column_of row at c)) (columns_added row at number c n values base s)
      whole n values base s =
          let place : base + number + (0 + c) ≡ base + (number + c) = omega arith in
          ap (with_block n values (base + number) 0 s) columns
          ∙ block_more n values (base + number) 0 s (parts coefficient_count c (drop at row)) (column_of row at c)
          ∙ ap (λ k. after (with_product n values (base + number + (0 + k)) (column_of row at c)) (columns_added row at number c n values base s))
          (parts-length coefficient_count c (drop at row))
          ∙ ap (λ k. after (with_product n values k (column_of row at c)) (columns_added row at number c n values base s)) place

      sums : (n : ℤ) (values : List ℤ) (base : ℕ) → term_sum n row values base later more
          ≡ after (columns_added row at number (c + 1) n values base) (term_sum n row values base shape count)
      sums n values base =
          next.sums n values base
          ∙ ap (after (with_product n values (base + (number + c)) (column_of row at c))) (first.sums n values base)
          ∙ after-after (with_product n values (base + (number + c)) (column_of row at c)) (columns_added row at number c n values base)
          (term_sum n row values base shape count)
          ∙ sym (after_same (columns_added row at number (c + 1) n values base) _ (whole n values base) (term_sum n row values base shape count))

-- ---- the blocks of a row

-- One block more behind the others.
blocks_more : (n : ℤ) (values : List ℤ) (m top : ℕ) (s : ℤ) (bs : List Block) (b : Block) → with_blocks n values m top s (bs ++ (b ∷ []))
    ≡ after (λ q. with_block n values ((top - length bs) * m) 0 q (take m b)) (with_blocks n values m top s bs)
unfolding with_blocks after
blocks_more n values m top s [] b =
    after-keep _ (λ q. refl) (with_block n values (top * m) 0 s (take m b))
    ∙ ap (λ k. with_block n values (k * m) 0 s (take m b)) (sym (sub-zero top))
blocks_more n values m top s (a ∷ bs) b =
    let place : pred top - length bs ≡ top - suc (length bs) = omega arith in
    after_same _ (λ q. after (λ q. with_block n values ((top - suc (length bs)) * m) 0 q (take m b)) (with_blocks n values m (pred top) q bs))
    (λ q. blocks_more n values m (pred top) q bs b
    ∙ ap (λ k. after (λ q. with_block n values (k * m) 0 q (take m b)) (with_blocks n values m (pred top) q bs)) place)
    (with_block n values (top * m) 0 s (take m a))
    ∙ sym (after-after (λ q. with_block n values ((top - suc (length bs)) * m) 0 q (take m b)) (λ q. with_blocks n values m (pred top) q bs)
    (with_block n values (top * m) 0 s (take m a)))

-- The first b blocks are listed: their terms, in a shape of its length.
pub record BlocksListed (m span : ℕ) (row : List ℤ) (shape : List ℕ) (count b : ℕ) : Type 0 where
  pub long : length shape ≡ shape_length
  pub few : count ≤ b * m
  pub fine : Fine (length row) ((span + 1) * m) shape count
  pub sums : (n : ℤ) (values : List ℤ) (top : ℕ) → span ≤ top
      → term_sum n row values ((top - span) * m) shape count ≡ with_blocks n values m top (pos 0) (map block_of (parts block_length b row))

pub blocks-none : (m span : ℕ) (row : List ℤ) (shape : List ℕ) → length shape ≡ shape_length → BlocksListed m span row shape 0 0
unfolding term_sum with_blocks parts
blocks-none m span row shape h = record {
  long = h;
  few = zero-le;
  fine = λ k l. absurd (omega arith);
  sums = λ n values top h. refl;
}

pub blocks-listed : (m span : ℕ) (row : List ℤ) (shape : List ℕ) (count b : ℕ) (later : List ℕ) (more : ℕ) → b ≤ span → m ≤ column_count
    → BlocksListed m span row shape count b
    → Listed row shape count later more m ((span - b) * m + m) (columns_added row (b * block_length) ((span - b) * m) m)
    → BlocksListed m span row later more (b + 1)
blocks-listed m span row shape count b later more h few first next = record {
  long = next.same_length ∙ first.long;
  few = omega (arith, first.few, next.few, ap (λ k. k * m) (add-one b) ∙ suc-mul b m);
  fine = next.fine ((span + 1) * m) room first.fine;
  sums = sums;
}
  where
    room : (span - b) * m + m ≤ (span + 1) * m
    room =
        let rows : (span - b + 1) * m ≤ (span + 1) * m = mul-le-mul (omega arith) (le_refl m) in
        omega (arith, rows, add-mul (span - b) 1 m, one-mul m)

    blocks : map block_of (parts block_length (b + 1) row) ≡ map block_of (parts block_length b row) ++ (block_at row b ∷ [])
    blocks =
        ap (λ k. map block_of (parts block_length k row)) (add-one b)
        ∙ ap (map block_of) (parts_more block_length b row) ∙ map-append block_of (parts block_length b row) _

    count-is : length (map block_of (parts block_length b row)) ≡ b
    count-is = length-map (parts block_length b row) block_of ∙ parts-length block_length b row

    sums : (n : ℤ) (values : List ℤ) (top : ℕ) → span ≤ top → term_sum n row values ((top - span) * m) later more
        ≡ with_blocks n values m top (pos 0) (map block_of (parts block_length (b + 1) row))
    sums n values top l =
        let before = with_blocks n values m top (pos 0) (map block_of (parts block_length b row)) in
        let places : (top - span) * m + (span - b) * m ≡ (top - b) * m =
        let e : top - span + (span - b) ≡ top - b = omega arith in
        sym (add-mul (top - span) (span - b) m) ∙ ap (λ k. k * m) e in
        next.sums n values ((top - span) * m)
        ∙ ap (after (columns_added row (b * block_length) ((span - b) * m) m n values ((top - span) * m))) (first.sums n values top l)
        ∙ after_same _ (λ q. with_block n values ((top - b) * m) 0 q (take m (block_at row b)))
        (λ q. ap₂ (λ k ps. with_block n values k 0 q ps) places (sym (columns_of (drop (b * block_length) row) m few))) before
        ∙ ap (λ k. after (λ q. with_block n values ((top - k) * m) 0 q (take m (block_at row b))) before) (sym count-is)
        ∙ sym (blocks_more n values m top (pos 0) (map block_of (parts block_length b row)) (block_at row b))
        ∙ ap (with_blocks n values m top (pos 0)) (sym blocks)

-- ---- the shape of a row

-- All blocks are listed; how many terms there are, and where the right side ends, are written behind them.
module _ (m span : ℕ) (row : List ℤ) (shape : List ℕ) (count : ℕ) (narrow : m ≤ column_count) (few-blocks : span ≤ most_span)
    (row-long : length row ≡ row_length) (listed : BlocksListed m span row shape count (span + 1)) where
  abbrev counted : List ℕ
  counted = set shape (polynomial_count * term_length_of) count

  abbrev filled : List ℕ
  filled = set counted (polynomial_count * term_length_of + 1) (entries_length + used (row_of row).right)

  few-terms : count ≤ polynomial_count
  few-terms =
      let blocks : span + 1 ≤ 5 = omega arith in
      let most : (span + 1) * m ≤ 5 * 4 = mul-le-mul blocks narrow in
      omega (arith, listed.few, most)

  terms-kept : (i : ℕ) → i < count * term_length_of → get_or filled i 0 ≡ get_or shape i 0
  terms-kept i l =
      get_or-set_other counted (polynomial_count * term_length_of + 1) i _ 0 (λ e. absurd (omega (arith, few-terms)))
      ∙ get_or-set_other shape (polynomial_count * term_length_of) i count 0 (λ e. absurd (omega (arith, few-terms)))

  count-is : get_or filled (polynomial_count * term_length_of) 0 ≡ count
  count-is =
      get_or-set_other counted (polynomial_count * term_length_of + 1) (polynomial_count * term_length_of) _ 0 (λ e. absurd (omega arith))
      ∙ get_or-set_same shape (polynomial_count * term_length_of) count 0 (omega (arith, listed.long))

  end_is : get_or filled (polynomial_count * term_length_of + 1) 0 ≡ entries_length + used (row_of row).right
  end_is = get_or-set_same counted (polynomial_count * term_length_of + 1) _ 0 (simp length-set (omega (arith, listed.long)))

  right-few : used (row_of row).right ≤ coefficient_count
  unfolding row_of
  right-few = omega (arith, used-length (row_of row).right, length-take coefficient_count (drop entries_length row))

  sums_kept : (n : ℤ) (values : List ℤ) (top : ℕ) → span ≤ top
      → term_sum n row values ((top - span) * m) filled (get_or filled (polynomial_count * term_length_of) 0)
      ≡ with_blocks n values m top (pos 0) (take (suc span) (row_of row).blocks)
  sums_kept n values top h =
      ap (term_sum n row values ((top - span) * m) filled) count-is
      ∙ sum_same n row values ((top - span) * m) shape filled count terms-kept
      ∙ listed.sums n values top h
      ∙ ap (λ k. with_blocks n values m top (pos 0) (map block_of (parts block_length k row))) (add-one span)
      ∙ ap (with_blocks n values m top (pos 0)) (sym (blocks-of row (suc span) (omega arith)))

  right_kept : (n : ℤ) → horner n (take (get_or filled (polynomial_count * term_length_of + 1) 0 - entries_length) (drop entries_length row))
      ≡ horner n (row_of row).right
  unfolding row_of
  right_kept n =
      let width : get_or filled (polynomial_count * term_length_of + 1) 0 - entries_length ≡ used (row_of row).right = omega (arith, end_is) in
      ap (λ k. horner n (take k (drop entries_length row))) width
      ∙ ap (horner n) (sym (take-take (used (row_of row).right) coefficient_count (drop entries_length row) right-few))
      ∙ horner-front n (row_of row).right (used (row_of row).right) (used-zero (row_of row).right)

  pub blocks-shaped : Shaped m span row filled
  blocks-shaped = record {
    long = simp length-set listed.long;
    few = omega (arith, count-is, few-terms);
    fine =
        subst (Fine row_length ((span + 1) * m) filled) (sym count-is)
        (fine-same row_length ((span + 1) * m) shape filled count terms-kept
        (subst (λ k. Fine k ((span + 1) * m) shape count) row-long listed.fine));
    sums = sums_kept;
    right-from = omega (arith, end_is);
    right-to = omega (arith, end_is, right-few);
    right = right_kept;
  }
