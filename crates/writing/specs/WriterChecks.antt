-- What the checks before a sheet is written tell, and what the whole call does.
--
-- Main definitions
--   Checked           what the checks tell the writer
--   call_of            what a call did as a whole
--
-- Main statements
--   check_write-order, check_write-iff   the checks are those of every call on stores, and that of the order argument
--   check_write-sizes  wrong sizes
--   checked           what holds where the checks give no refusal
--   given-first, given-few   the columns that are given come first in the order argument
--   sheet-given       the sheet that is written is the definition's
--   call-refused, refused-by_name, call-checked, written-short, written-whole   the cases of a call
--   put_whole, put-short, put-counted   the same, by what was put into the store
use Rattle.std.specs.Prelude.{◌≡◌, refl, Result, Bool, true, ◌&&◌, ◌||◌, eqb, ◌↔◌, ◌≢◌, List, [], ◌∷◌, ◌++◌, ℕ, zero, suc, ◌*◌, ◌≤◌, ◌<◌, T, ℤ, pos, nat_abs, length, take, drop, get_or}
use Rattle.std.proofs.Math.Path.{sym, ap}
use Rattle.std.proofs.Common.{◌∙◌, Ok, Err, ap₂, zero-add, arith, le-leb, length-take, length-drop, drop-cons}
use Rattle.std.proofs.Math.Bool.{false, cond}
use Rattle.std.proofs.lemmas.Bool.{lt-leb}
use Rattle.std.specs.Int.Signed.{≤ℤ_refl}
use Rattle.std.proofs.lemmas.List.Edits.{sets, sets-eq}
use Rattle.algebra.specs.Order.{≤ℤ-trans, nat_abs-≤-iff}
use Rattle.lists.specs.Tests.{T-&&, cond-zero-iff, every, same_test}
use Rattle.rules.specs.Limits.{row_length, relation_length, small, most_equations, most_relations, block_bound, block_count}
use Rattle.rules.specs.Rows.{small_row}
use Rattle.rules.specs.Stores.{Sizes, span, row_of, rows_of, relation_of, relations_of, relation_need, row_need, equations}
use Rattle.rules.specs.Stores.{sizes_right_of, count_right, unused_zero_of, row_right_of, relation_right_of, check_stores_of}
use Rattle.rules.specs.Layout.{StoresRight, NumbersRight, SizeBounds, check_stores-zero, numbers_right-iff, size-bounds}
use Rattle.rules.specs.Layout.{count_right-iff, lengths_right-iff, coefficients_of-row_of-all, block-place}
use Rattle.lists.specs.Overwritten.{overwrite}
use Rattle.lists.specs.Pasted.{sets-out}
use Rattle.rules.specs.Sheets.{contains, write_sheet_of}
use Rattle.std.specs.List.{list_any}
use Rattle.std.proofs.Math.Facts.{eqb_yes, yes_eqb}
use Rattle.lists.specs.Parts.{held-every}
use Rattle.number_texts.specs.Runs.{Put}
use Rattle.writing.specs.Writer.{SmallParts, Unused, UnusedParts, unused, sheet_given}
use Rattle.refusals.specs.declared.Refusal.{Refusal}
use Rattle.refusals.specs.Refusals.{number_of, number-nonzero}
use Rattle.rules.specs.SheetCalls.{WriteCall, order_right_of, order_given, check_write_of, sheet_of, unwritten, written, after_write_check, write_call}

-- ---- the checks

-- Whether a column is there, as a search tells it.
pub any-contains : (c : ℕ) (l : List ℕ) → list_any (λ d. eqb d c) l ≡ contains c l
unfolding contains
any-contains c [] = refl
any-contains c (d ∷ l) =
    ap₂ ◌||◌ (same_test (eqb d c) (eqb c d) (λ h. yes_eqb (sym (eqb_yes h))) (λ h. yes_eqb (sym (eqb_yes h)))) (any-contains c l)

order-first : (s t : Bool) (n : ℕ) → cond (s && t) n 2 ≡ cond t (cond s n 2) 2
order-first true true n = refl
order-first true false n = refl
order-first false true n = refl
order-first false false n = refl

-- What the checks tell the writer.
pub record Checked (z : Sizes) (count : ℕ) (row_store relation_store : List ℤ) : Type 0 where
  pub few-rows : equations z ≤ most_equations
  pub rows : equations z * row_length ≤ length row_store
  pub blocks : nat_abs z.l ≤ block_bound
  pub few : count ≤ most_relations
  pub relations : count * relation_length ≤ length relation_store
  pub low : nat_abs z.t ≤ block_bound
  pub row-numbers : SmallParts row_length (equations z) row_store
  pub relation-numbers : SmallParts relation_length count relation_store
  pub sizes : T (sizes_right_of z)
  pub narrow : suc (span z) ≤ block_count
  pub row-unused : UnusedParts z.m (suc (span z)) 0 row_length (equations z) row_store
  pub relation-unused : UnusedParts z.m (suc (span z)) 1 relation_length count relation_store

row_small : (z : Sizes) (part : List ℤ) → length part ≡ row_length → T (row_right_of z (row_of part)) → T (every small part)
unfolding row_right_of small_row
row_small z part h right =
    rw (coefficients_of-row_of-all part h) at ((T-&& (small_row (row_of part)) (unused_zero_of z.m (span z) (row_of part))).0 right).0

relation-small : (z : Sizes) (part : List ℤ) → length part ≡ relation_length → T (relation_right_of z (relation_of part))
    → T (every small part)
unfolding relation_right_of relation_of every
relation-small z part h right =
    let both = (T-&& (small (get_or part 0 (pos 0))) (row_right_of z (row_of (drop 1 part)))).0 right in
    rw (drop-cons part 0 (pos 0) (omega arith))
    ((T-&& (small (get_or part 0 (pos 0))) (every small (drop 1 part))).1
    (both.0, row_small z (drop 1 part) (rw length-drop (omega arith)) both.1))

row-used : (z : Sizes) (row : List ℤ) → suc (span z) ≤ block_count → T (row_right_of z (row_of row)) → Unused z.m (suc (span z)) row
unfolding row_right_of
row-used z row few right =
    unused z.m (span z) row few ((T-&& (small_row (row_of row)) (unused_zero_of z.m (span z) (row_of row))).0 right).1

relation-used : (z : Sizes) (part : List ℤ) → suc (span z) ≤ block_count → T (relation_right_of z (relation_of part))
    → Unused z.m (suc (span z)) (drop 1 part)
unfolding relation_right_of relation_of
relation-used z part few right =
    row-used z (drop 1 part) few ((T-&& (small (get_or part 0 (pos 0))) (row_right_of z (row_of (drop 1 part)))).0 right).1

module _ (z : Sizes) (count : ℕ) (order : List ℕ) (row_store relation_store : List ℤ) where
  -- A wrong order argument is a wrong size (SCOPE 4.53).
  pub check_write-order : check_write_of z count order row_store relation_store
      ≡ cond (order_right_of z.m order) (check_stores_of z count row_store relation_store) 2
  unfolding check_write_of check_stores_of
  check_write-order = order-first (sizes_right_of z && count_right count) (order_right_of z.m order) _

  pub check_write-sizes : sizes_right_of z ≡ false → 2 ≡ check_write_of z count order row_store relation_store
  unfolding check_write_of
  check_write-sizes e = sym (failed (sizes_right_of z) (count_right count) (order_right_of z.m order) _ e)
    where
      failed : (s t u : Bool) (n : ℕ) → s ≡ false → cond (s && t && u) n 2 ≡ 2
      failed s t u n h = ap (λ b. cond (b && t && u) n 2) h

  pub check_write-iff : (check_write_of z count order row_store relation_store ≡ 0)
      ↔ (T (order_right_of z.m order) × StoresRight z count row_store relation_store)
  check_write-iff = (
    λ e.
        let h = chosen.0 (sym check_write-order ∙ e) in
        (h.0, (check_stores-zero z count row_store relation_store).0 h.1),
    λ h. check_write-order ∙ chosen.1 (h.0, (check_stores-zero z count row_store relation_store).1 h.1),
  )
    where
      chosen : (cond (order_right_of z.m order) (check_stores_of z count row_store relation_store) 2 ≡ 0)
          ↔ (T (order_right_of z.m order) × (check_stores_of z count row_store relation_store ≡ 0))
      chosen = cond-zero-iff (order_right_of z.m order) (check_stores_of z count row_store relation_store) 2 refl

  pub checked : check_write_of z count order row_store relation_store ≡ 0 → Checked z count row_store relation_store
  unfolding row_need rows_of relations_of span
  checked e =
      record {
        few-rows = sizes.few-equations;
        rows = long.0;
        blocks = (nat_abs-≤-iff z.l).1 (≤ℤ-trans sizes.low sizes.ordered, sizes.high);
        few = (count_right-iff count).0 right.few;
        relations = places;
        low = (nat_abs-≤-iff z.t).1 (sizes.low, ≤ℤ-trans sizes.ordered sizes.high);
        row-numbers = λ i h.
            row_small z (take row_length (drop (i * row_length) row_store))
            (simp (length-take, length-drop) (omega (arith, long.0)))
            (held-every (row_right_of z) row_of row_length (equations z) row_store numbers.rows_right i h);
        relation-numbers = λ i h.
            relation-small z (take relation_length (drop (i * relation_length) relation_store))
            (simp (length-take, length-drop) (omega (arith, places)))
            (held-every (relation_right_of z) relation_of relation_length count relation_store numbers.relations-right i h);
        sizes = right.sizes;
        narrow = narrow;
        row-unused = λ i h.
            row-used z (take row_length (drop (i * row_length) row_store)) narrow
            (held-every (row_right_of z) row_of row_length (equations z) row_store numbers.rows_right i h);
        relation-unused = λ i h.
            relation-used z (take relation_length (drop (i * relation_length) relation_store)) narrow
            (held-every (relation_right_of z) relation_of relation_length count relation_store numbers.relations-right i h);
      }
    where
      right : StoresRight z count row_store relation_store
      right = (check_write-iff.0 e).1

      numbers : NumbersRight z count row_store relation_store
      numbers = (numbers_right-iff z count row_store relation_store).0 right.numbers

      sizes : SizeBounds z
      sizes = size-bounds z right.sizes

      narrow : suc (span z) ≤ block_count
      narrow = block-place z z.t sizes (≤ℤ_refl z.t) sizes.ordered

      long : (row_need (equations z) ≤ length row_store) × (relation_need ≤ length relation_store)
      long = (lengths_right-iff (equations z) row_store relation_store).0 right.lengths

      places : count * relation_length ≤ length relation_store
      places = omega (arith, long.1, (count_right-iff count).0 right.few)

-- ---- the call

-- What a call did as a whole: the length that it returned, or its refusal, and the byte store afterwards.
abbrev pub call_of : Result ℕ Refusal → List ℕ → WriteCall
call_of (Ok n) bytes = record { refusal = 0; length = n; byte_store = bytes }
call_of (Err r) bytes = record { refusal = number_of r; length = 0; byte_store = bytes }

-- The columns that are given come first in the order argument.
pub given-first : (order : List ℕ) → take (length (order_given order)) order ≡ order_given order
unfolding order_given
given-first [] = refl
given-first (zero ∷ order) = refl
given-first (suc c ∷ order) = ap (λ l. suc c ∷ l) (given-first order)

pub given-few : (order : List ℕ) → length (order_given order) ≤ length order
unfolding order_given
given-few [] = omega arith
given-few (zero ∷ order) = omega arith
given-few (suc c ∷ order) = omega (arith, given-few order)

-- They are written, n of them.
pub sheet-given : (z : Sizes) (count : ℕ) (order : List ℕ) (row_store relation_store : List ℤ) (n : ℕ) → n ≡ length (order_given order)
    → write_sheet_of (sheet_given z count (take n order) row_store relation_store) ≡ write_sheet_of (sheet_of z count order row_store relation_store)
unfolding sheet_of sheet_given
sheet-given z count order row_store relation_store n e =
    ap (λ columns. write_sheet_of (sheet_given z count columns row_store relation_store)) (ap (λ k. take k order) e ∙ given-first order)

pub call-refused : (z : Sizes) (count : ℕ) (order : List ℕ) (row_store relation_store : List ℤ) (byte_store : List ℕ) (n : ℕ)
    → n ≡ check_write_of z count order row_store relation_store → n ≢ 0
    → unwritten n byte_store ≡ write_call z count order row_store relation_store byte_store
unfolding write_call
call-refused z count order row_store relation_store byte_store zero e ne = absurd (ne refl)
call-refused z count order row_store relation_store byte_store (suc n) e ne =
    ap (after_write_check z count order row_store relation_store byte_store) e

-- The same of a refusal by its name.
pub refused-by_name : (z : Sizes) (count : ℕ) (order : List ℕ) (row_store relation_store : List ℤ) (byte_store : List ℕ) (r : Refusal)
    → number_of r ≡ check_write_of z count order row_store relation_store
    → call_of (Err r) byte_store ≡ write_call z count order row_store relation_store byte_store
unfolding unwritten
refused-by_name z count order row_store relation_store byte_store r e =
    call-refused z count order row_store relation_store byte_store (number_of r) e (number-nonzero r)

pub call-checked : (z : Sizes) (count : ℕ) (order : List ℕ) (row_store relation_store : List ℤ) (byte_store : List ℕ)
    → check_write_of z count order row_store relation_store ≡ 0
    → written (write_sheet_of (sheet_of z count order row_store relation_store)) byte_store
    ≡ write_call z count order row_store relation_store byte_store
unfolding write_call
call-checked z count order row_store relation_store byte_store e = ap (after_write_check z count order row_store relation_store byte_store) (sym e)

pub written-short : (bytes byte_store : List ℕ) → length byte_store < length bytes → unwritten 1 byte_store ≡ written bytes byte_store
unfolding written
written-short bytes byte_store h = rw (lt-leb (length bytes) (length byte_store) h)

pub written-whole : (bytes byte_store : List ℕ) → length bytes ≤ length byte_store
    → ◌≡◌ {A = WriteCall} (record { refusal = 0; length = length bytes; byte_store = sets byte_store 0 bytes }) (written bytes byte_store)
unfolding written overwrite
written-whole bytes byte_store h =
    rw (le-leb (length bytes) (length byte_store) h)
    (λ i. record { refusal = 0; length = length bytes; byte_store = whole i })
  where
    whole : sets byte_store 0 bytes ≡ bytes ++ drop (length bytes) byte_store
    whole = sets-eq bytes byte_store 0 (omega arith) ∙ ap (λ n. bytes ++ drop n byte_store) (zero-add (length bytes))

-- What is put from the start of a store on is the sheet: with the n columns that the order argument gives.
module _ (z : Sizes) (count : ℕ) (order : List ℕ) (row_store relation_store : List ℤ) (n : ℕ) (given : n ≡ length (order_given order)) where
  abbrev bytes : List ℕ
  bytes = write_sheet_of (sheet_given z count (take n order) row_store relation_store)

  abbrev sheet : List ℕ
  sheet = write_sheet_of (sheet_of z count order row_store relation_store)

  same : bytes ≡ sheet
  same = sheet-given z count order row_store relation_store n given

  -- It was put whole, which gave e.
  pub put_whole : {d e : List ℕ} {k next : ℕ} (byte_store : List ℕ) → check_write_of z count order row_store relation_store ≡ 0 → Put d 0 bytes k e next
      → d ≡ byte_store → length bytes ≤ length byte_store
      → ◌≡◌ {A = WriteCall} (record { refusal = 0; length = next; byte_store = e }) (write_call z count order row_store relation_store byte_store)
  put_whole {d} {e} {k} {next} byte_store right put from whole =
      (λ i. record { refusal = 0; length = passed i; byte_store = stored i })
      ∙ written-whole sheet byte_store (omega (arith, ap length same))
      ∙ call-checked z count order row_store relation_store byte_store right
    where
      passed : next ≡ length sheet
      passed = put.passed ∙ zero-add (length bytes) ∙ ap length same

      stored : e ≡ sets byte_store 0 sheet
      stored = put.stored ∙ ap₂ (λ l xs. sets l 0 xs) from same

  -- It is too long, and nothing was put.
  pub put-short : {e : List ℕ} (byte_store : List ℕ) → check_write_of z count order row_store relation_store ≡ 0 → e ≡ byte_store
      → length byte_store < length bytes → unwritten 1 e ≡ write_call z count order row_store relation_store byte_store
  put-short byte_store right kept short =
      ap (unwritten 1) kept ∙ written-short sheet byte_store (omega (arith, ap length same))
      ∙ call-checked z count order row_store relation_store byte_store right

-- On an empty store bytes are counted, and nothing is stored.
pub put-counted : {d e bytes : List ℕ} {k next : ℕ} → Put d 0 bytes k e next → length d ≡ 0 → (e ≡ d) × (next ≡ length bytes)
put-counted {d} {e} {bytes} put none = (put.stored ∙ sets-out d 0 bytes (omega arith), put.passed ∙ zero-add (length bytes))
