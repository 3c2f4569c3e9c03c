-- Sections of a sheet: things of one kind read one after another into a store, each into its part of the store.
--
-- Main definitions
--   read_each one n       n things, each read by `one`
--   StoredTo             the first i of n things have been read into a store
--
-- Main statements
--   equations-each, relations-each    the equations and the relations of a sheet are such things
--   stored-part          the part of the store that the next thing is read into is zero
--   relation-behind, relation_of-back   behind n0 a relation is zero, and with a row read there it is a relation
--   rows_of-front         the rows of a store are those of its needed part
use Prim.Native.Nat.{ℕ, zero, suc, ◌+◌, ◌*◌, ◌-◌, ◌≤◌, ◌<◌, zero-le}
use Rattle.std.proofs.Common.{suc-ne-zero, le_of_eq, zero-mul, add-one, ap₂, ◌∙◌, drop_of_length-le, drop-drop, take_all}
use Rattle.std.proofs.Math.Nat.{sub-zero, suc-mul}
use native.Mathlib.Omega.{arith}
use Rattle.std.specs.Prelude.{◌≡◌, get_or, take, set, ℤ, pos}
use Rattle.std.proofs.Math.Path.{refl, sym, ap}
use mathlib.Core.List.{List, [], ◌∷◌, ◌++◌, map, map-append, append-nil}
use Rattle.std.proofs.Math.ListN.{length, drop}
use Rattle.std.proofs.Math.Seq.{paste, length-paste, drop-paste, append_snoc}
use borrow.Rule.Slice.PartMut.{mid_of, put_mid}
use Rattle.rules.specs.Limits.{row_length, relation_length}
use Rattle.rules.specs.Rows.{Relation}
use Rattle.rules.specs.Stores.{Sizes, row_of, rows_of, relation_of, relations_of, row_need}
use Rattle.lists.specs.Parts.{parts}
use Rattle.rules.specs.Layout.{row_store_of-rows_of, rows_of-row_store_of, length-rows_of, StoreRow-rows_of}
use Rattle.rules.specs.Calls.{zeros}
use Rattle.rules.specs.Numbers.{space, Read, got, fault, then_read, field, judge_small_of}
use Rattle.rules.specs.Sheets.{always, read_equation, read_equations, read_relation, read_relations}
use Rattle.tokens.specs.Fields.{then-got, then-fault, then-cong, then-then}
use Rattle.reading.specs.Zeros.{take-zeros, drop-zeros}
use Rattle.stores.specs.LentParts.{lent_back}
use Rattle.lists.specs.Pasted.{parts-paste-end}

-- ---- things of one kind

module _ {A : Type 0} (one : List ℕ → Read A) where
  unfoldable pub read_each : ℕ → List ℕ → Read (List A)
  read_each zero bytes = got [] bytes
  read_each (suc k) bytes = then_read (one bytes) λ x rest. then_read (read_each k rest) λ l more. got (x ∷ l) more

  -- A definition with these two clauses is this one.
  each-is : (f : ℕ → List ℕ → Read (List A)) → ((bytes : List ℕ) → f 0 bytes ≡ got [] bytes)
      → ((k : ℕ) (bytes : List ℕ) → f (suc k) bytes ≡ then_read (one bytes) (λ x rest. then_read (f k rest) (λ l more. got (x ∷ l) more)))
      → (k : ℕ) (bytes : List ℕ) → f k bytes ≡ read_each k bytes
  unfolding read_each
  each-is f none more zero bytes = none bytes
  each-is f none more (suc k) bytes =
      more k bytes ∙ then-cong (one bytes) (λ x rest. ap (λ r. then_read r (λ l more. got (x ∷ l) more)) (each-is f none more k rest))

pub equations-each : (z : Sizes) (k : ℕ) (bytes : List ℕ) → read_equations z k bytes ≡ read_each (read_equation z) k bytes
unfolding read_equations
equations-each z k bytes = each-is (read_equation z) (read_equations z) (λ bytes. refl) (λ k bytes. refl) k bytes

pub relations-each : (z : Sizes) (k : ℕ) (bytes : List ℕ) → read_relations z k bytes ≡ read_each (read_relation z) k bytes
unfolding read_relations
relations-each z k bytes = each-is (read_relation z) (read_relations z) (λ bytes. refl) (λ k bytes. refl) k bytes

-- ---- a store filled part by part

-- What is read after the first i things of a store comes after them.
unfoldable pub stored_then : {B : Type 0} → ℕ → (List ℤ → B) → List ℤ → ℕ → List B → List ℕ → Read (List B)
stored_then width decode store i l more = got (map decode (parts width i store) ++ l) more

then-got-id : {B : Type 0} (r : Read B) → then_read r got ≡ r
unfolding then_read
then-got-id (got a rest) = refl
then-got-id (fault n) = refl

-- The store holds the first i of n things, each in `width` numbers, with zeros behind them, and the others are read from the place `next`.
module _ {B : Type 0} (width : ℕ) (decode : List ℤ → B) (one : List ℕ → Read B) (n : ℕ) (bytes : List ℕ) (at : ℕ) where
  pub record StoredTo (store₀ store : List ℤ) (i next : ℕ) : Type 0 where
    pub counted : i ≤ n
    pub within : next ≤ length bytes
    pub long : length store ≡ length store₀
    pub fresh : drop (i * width) store ≡ zeros ((n - i) * width)
    pub rest : read_each one n (drop at bytes) ≡ then_read (read_each one (n - i) (drop next bytes)) (stored_then width decode store i)

  pub stored-begins : (store : List ℤ) → store ≡ zeros (n * width) → at ≤ length bytes → StoredTo store store 0 at
  unfolding stored_then parts
  stored-begins store e h =
      record {
        counted = zero-le;
        within = h;
        long = refl;
        fresh = ap (λ k. drop k store) (zero-mul width) ∙ e ∙ ap (λ k. zeros (k * width)) (sym (sub-zero n));
        rest = ap (λ k. read_each one k (drop at bytes)) (sym (sub-zero n)) ∙ sym (then-got-id (read_each one (n - 0) (drop at bytes)));
      }

  module _ (store₀ store : List ℤ) (i next : ℕ) (so_far : StoredTo store₀ store i next) where
    pub stored-ends : i ≡ n → read_each one n (drop at bytes) ≡ got (map decode (parts width n store)) (drop next bytes)
    unfolding read_each stored_then
    stored-ends e =
        let none : n - i ≡ 0 = omega arith in
        so_far.rest
        ∙ then-got (stored_then width decode store i) (ap (λ k. read_each one k (drop next bytes)) none)
        ∙ ap (λ l. got l (drop next bytes)) (append-nil (map decode (parts width i store)) ∙ ap (λ k. map decode (parts width k store)) e)

    module _ (some : i < n) where
      -- One thing, and those after it.
      cons : B → List B → List ℕ → Read (List B)
      cons x l more = got (x ∷ l) more

      others : B → List ℕ → Read (List B)
      others x rest = then_read (read_each one (n - (i + 1)) rest) (cons x)

      next_one : read_each one (n - i) (drop next bytes) ≡ then_read (one (drop next bytes)) others
      unfolding read_each others cons
      next_one =
          let e : n - i ≡ suc (n - (i + 1)) = omega arith in
          ap (λ k. read_each one k (drop next bytes)) e

      pub stored_refused : (k : ℕ) → one (drop next bytes) ≡ fault k → read_each one n (drop at bytes) ≡ fault k
      stored_refused k e = so_far.rest ∙ then-fault (stored_then width decode store i) (next_one ∙ then-fault others e)

      -- The part of the store that the next thing is read into is zero.
      pub stored-part : mid_of (i * width) (i * width + width - i * width) store ≡ zeros width
      stored-part =
          let e : i * width + width - i * width ≡ width = omega arith in
          let left : n - i ≡ suc (n - (i + 1)) = omega arith in
          ap₂ take e so_far.fresh ∙ take-zeros width ((n - i) * width) (rw left (omega (arith, suc-mul (n - (i + 1)) width)))

      -- One more thing, read into its part of the store.
      pub stored-goes-on : (item : List ℤ) (after : ℕ) → length item ≡ width → i * width + width ≤ length store₀
          → one (drop next bytes) ≡ got (decode item) (drop after bytes) → after ≤ length bytes
          → StoredTo store₀ (put_mid (i * width) (i * width + width - i * width) store item) (i + 1) after
      unfolding others cons stored_then
      stored-goes-on item after whole room e inside =
          rw (lent_back store (i * width) width item whole)
          (record {
            counted = omega arith;
            within = inside;
            long = length-paste store (i * width) item width fits (le_of_eq (sym whole)) ∙ so_far.long;
            fresh =
                ap (λ k. drop k (paste store (i * width) item width)) (ap (λ k. k * width) (add-one i) ∙ suc-mul i width)
                ∙ drop-paste store (i * width) item width (omega (arith, fits)) (le_of_eq (sym whole))
                ∙ sym (drop-drop width (i * width) store)
                ∙ ap (drop width) so_far.fresh
                ∙ drop-zeros width ((n - i) * width) (omega (arith, left))
                ∙ ap zeros (omega (arith, left));
            rest =
                so_far.rest
                ∙ ap (λ r. then_read r (stored_then width decode store i)) (next_one ∙ then-got others e)
                ∙ then-then (read_each one (n - (i + 1)) (drop after bytes)) (cons (decode item)) (stored_then width decode store i)
                ∙ then-cong (read_each one (n - (i + 1)) (drop after bytes))
                (λ l more. then-got (stored_then width decode store i) refl ∙ ap (λ s. got s more) (sym (moved l)));
          })
        where
          fits : i * width + width ≤ length store
          fits = rw so_far.long room

          left : (n - i) * width ≡ (n - (i + 1)) * width + width
          left = let e : n - i ≡ suc (n - (i + 1)) = omega arith in ap (λ k. k * width) e ∙ suc-mul (n - (i + 1)) width

          moved : (l : List B) → map decode (parts width (i + 1) (paste store (i * width) item width)) ++ l
              ≡ map decode (parts width i store) ++ (decode item ∷ l)
          moved l =
              ap (λ ps. map decode ps ++ l)
              (ap (λ k. parts width k (paste store (i * width) item width)) (add-one i) ∙ parts-paste-end width i store item whole fits)
              ∙ ap (λ ms. ms ++ l) (map-append decode (parts width i store) (item ∷ []))
              ∙ append_snoc (map decode (parts width i store)) (decode item) l

-- ---- relations

pub relation_of-is : (l : List ℤ) → relation_of l ≡ record { index = get_or l 0 (pos 0); row = row_of (drop 1 l) }
unfolding relation_of
relation_of-is l = refl

-- n0 and a row read behind it are a relation.
pub relation_of-back : (l row : List ℤ) (n0 : ℤ) → length l ≡ relation_length
    → relation_of (put_mid 1 (length (set l 0 n0) - 1) (set l 0 n0) row) ≡ record { index = n0; row = row_of row }
relation_of-back [] row n0 h = absurd (suc-ne-zero row_length (sym h))
relation_of-back (x ∷ l) row n0 h =
    relation_of-is (n0 ∷ (row ++ drop (suc (length l) - 1) l))
    ∙ ap (λ r. record { index = n0; row = row_of r })
    (ap (λ r. row ++ r) (drop_of_length-le l {i = suc (length l) - 1} (omega arith)) ∙ append-nil row)

-- What lies behind n0 is zero still.
pub relation-behind : (l : List ℤ) (n0 : ℤ) → l ≡ zeros relation_length → mid_of 1 (length (set l 0 n0) - 1) (set l 0 n0) ≡ zeros row_length
unfolding zeros
relation-behind l n0 e = ap (λ l. mid_of 1 (length (set l 0 n0) - 1) (set l 0 n0)) e

-- The definition of a relation, with its second part named.
unfoldable pub relation_then : Sizes → ℤ → List ℕ → Read Relation
relation_then z n0 bytes = then_read (read_equation z bytes) λ r rest. got (record { index = n0; row = r }) rest

pub relation-is : (z : Sizes) (bytes : List ℕ) → read_relation z bytes ≡ then_read (field judge_small_of (always space) bytes) (relation_then z)
unfolding read_relation relation_then
relation-is z bytes = refl

-- ---- the stores

pub rows_of-parts : (m : ℕ) (store : List ℤ) → rows_of m store ≡ map row_of (parts row_length m store)
unfolding rows_of
rows_of-parts m store = refl

-- The rows of a store are those of its needed part.
pub rows_of-front : (m : ℕ) (part rest : List ℤ) → length part ≡ row_need m → rows_of m (part ++ rest) ≡ rows_of m part
rows_of-front m part rest e =
    ap (λ l. rows_of m (l ++ rest)) (sym (row_store_of-rows_of m part ∙ take_all (row_need m) part (le_of_eq e)))
    ∙ rows_of-row_store_of m (rows_of m part) rest (length-rows_of m part) (StoreRow-rows_of m part (le_of_eq (sym e)))

pub relations_of-parts : (count : ℕ) (store : List ℤ) → relations_of count store ≡ map relation_of (parts relation_length count store)
unfolding relations_of
relations_of-parts count store = refl
