-- Terms put into a row: the definition puts them from the last to the first, the code from the first to the last, each into the
-- sixteen numbers of its place. Terms that were read stand at rising places, so that both give the same row.
--
-- Main definitions
--   put_terms_of l r es      the terms es put into the row r, the last one first
--   terms_into z k ..     k terms read and put into a row, the first one first
--   TermRight            what is known of a term that was read
--
-- Main statements
--   row_of-paste          sixteen numbers stored at the place of a block and a column are a term put into the row
--   equation-is          an equation is its count and then its terms, put into the blank row as they are read
use Prim.Native.Nat.{ℕ, zero, suc, pred, ◌+◌, ◌*◌, ◌-◌, ◌≤◌, ◌<◌, zero-le, suc-le-suc}
use Rattle.std.proofs.Common.{le_trans, le_of_eq, le_of_suc-le-suc, ap₂, ◌∙◌, subst, inl, inr, length-drop, length-take-le, get_or-set_other}
use Rattle.std.proofs.Math.Nat.{suc-mul, mul-le-mul_right}
use Rattle.std.proofs.Math.Decide.{ℕ_discrete}
use native.Mathlib.Omega.{arith}
use Rattle.std.specs.Prelude.{◌≡◌, ◌⊎◌, Bool, ◌||◌, length, get_or, take, drop, T, ℤ, pos, nat_abs, ◌-ℤ◌, ◌≤ℤ◌, ◌<ℤ◌}
use Rattle.std.proofs.Math.Path.{refl, sym, ap}
use borrow.Author.Tests.{ltb-true}
use Rattle.std.proofs.Math.Bool.{true, false}
use mathlib.Core.List.{List, [], ◌∷◌, map}
use Rattle.std.proofs.Math.ListN.{set}
use Rattle.std.proofs.Math.Seq.{paste, length-paste, set_comm}
use borrow.Rule.Slice.PartMut.{put_mid}
use Rattle.std.proofs.Math.Dec.{ltb}
use Rattle.std.specs.Int.Signed.{lt_z, lt_z_yes, ≤ℤ_refl, clash_ℤ, pos-nat_abs}
use Rattle.rules.specs.Limits.{coefficient_count, column_count, block_count, entries_length, row_length, most_span, block_length}
use Rattle.rules.specs.Rows.{Row, Block}
use Rattle.lists.specs.Everywhere.{All}
use Rattle.rules.specs.Stores.{Sizes, span, row_of, sizes_right_of}
use Rattle.lists.specs.Parts.{parts, parts-length, get_or-parts}
use Rattle.lists.specs.Images.{get_or_map, map-set}
use Rattle.rules.specs.Layout.{size-bounds, block-place, block_of}
use Rattle.lists.specs.Padded.{length-pad_to, pad_to-all, pad_to}
use Rattle.lists.specs.Pasted.{parts-paste, parts-paste-in, paste-rest}
use Rattle.rules.specs.Calls.{zeros}
use Rattle.rules.specs.Numbers.{Read, got, fault, then_read, field, between, space, newline}
use Rattle.rules.specs.Sheets.{Term, put_term_of, row_of_terms, blank_row, read_term, read_terms, read_equation, parting, after_count_of, always}
use Rattle.rules.specs.Sheets.{judge_block_of, judge_column_of, read_coefficients}
use Rattle.algebra.specs.Order.{≤ℤ-trans, ≤ℤ-cases, ≤ℤ-of-≡, ≤ℤ-difference, <ℤ-to-≤ℤ, +ℤ-<ℤ-left, neg_ℤ-<ℤ, pos-<ℤ, pos-nat_abs-nonneg}
use Rattle.algebra.specs.Polynomials.{Polynomial}
use Rattle.stores.specs.LentParts.{lent_back}
use Rattle.tokens.specs.Fields.{then-got, then-fault, then-cong, then-cong-read, then-then, then-parts, field-judged}
use Rattle.reading.specs.Terms.{padded, BlockRight, block-zero, column-zero, term_of, pad_term, read_padded, read_place, read_polynomial}
use Rattle.reading.specs.Terms.{with_place, read_padded-is, place_in_row_of}

-- ---- sixteen numbers put into a row

-- A part of k numbers replaced in the c-th part of the b-th part, for any widths.
module _ {A : Type 0} (K k n m : ℕ) (l p : List A) (b c : ℕ) (hb : b < n) (hc : c < m) (width : m * k ≡ K) (enough : n * K ≤ length l)
    (long : length p ≡ k) where
  part : List A
  part = get_or (parts K n l) b []

  part-is : part ≡ take K (drop (b * K) l)
  unfolding part
  part-is = get_or-parts K n l b hb

  part-long : length part ≡ K
  part-long =
      ap length part-is
      ∙ length-take-le K (drop (b * K) l)
      (rw (length-drop (b * K) l) (omega (arith, mul-le-mul_right {m = suc b} {n = n} K hb, suc-mul b K)))

  inner : parts k m (paste part (c * k) p k) ≡ set (parts k m part) c p
  inner = parts-paste k m part p c long (omega (arith, part-long)) hc

  blocks-paste : map (parts k m) (parts K n (paste l (b * K + c * k) p k))
      ≡ set (map (parts k m) (parts K n l)) b (set (get_or (map (parts k m) (parts K n l)) b []) c p)
  unfolding part
  blocks-paste =
      ap (map (parts k m)) (parts-paste-in K n b (c * k) l p k hb fits enough (le_of_eq (sym long)))
      ∙ map-set (parts k m) (parts K n l) b (paste part (c * k) p k)
      ∙ ap (set (map (parts k m) (parts K n l)) b)
      (inner ∙ ap (λ block. set block c p) (sym (get_or_map (parts k m) (parts K n l) b [] [] (rw (parts-length K n l) hb))))
    where
      fits : c * k + k ≤ K
      fits = omega (arith, mul-le-mul_right {m = suc c} {n = m} k hc, suc-mul c k)

pub row_of-is : (l : List ℤ)
    → row_of l ≡ record { blocks = map block_of (parts block_length block_count l); right = take coefficient_count (drop entries_length l) }
unfolding row_of
row_of-is l = refl

pub row_of-paste : (l p : List ℤ) (b c : ℕ) → length l ≡ row_length → length p ≡ coefficient_count → b < block_count → c < column_count
    → row_of (paste l (b * block_length + c * coefficient_count) p coefficient_count)
    ≡ record { blocks = set (row_of l).blocks b (set (get_or (row_of l).blocks b []) c p); right = (row_of l).right }
row_of-paste l p b c el ep hb hc =
    row_of-is (paste l (b * block_length + c * coefficient_count) p coefficient_count)
    ∙ ap₂ (λ bs side. record { blocks = bs; right = take coefficient_count side })
    (blocks-paste block_length coefficient_count block_count column_count l p b c hb hc refl (omega arith) ep)
    (paste-rest l (b * block_length + c * coefficient_count) p coefficient_count entries_length (omega (arith, before)) (le_of_eq (sym ep)) before)
    ∙ ap (λ r. record { blocks = set r.blocks b (set (get_or r.blocks b []) c p); right = r.right }) (sym (row_of-is l))
  where
    before : b * block_length + c * coefficient_count + coefficient_count ≤ entries_length
    before = omega arith

-- ---- terms at different places may change their order

module _ {A : Type 0} (d : A) where
  -- The k-th member changed by f.
  update : List A → ℕ → (A → A) → List A
  update l k f = set l k (f (get_or l k d))

  update_twice : (l : List A) (k : ℕ) (f g : A → A) → update (update l k f) k g ≡ update l k (λ x. g (f x))
  unfolding update
  update_twice [] k f g = refl
  update_twice (x ∷ l) zero f g = refl
  update_twice (x ∷ l) (suc k) f g = ap (λ r. x ∷ r) (update_twice l k f g)

  update_other : (l : List A) (j k : ℕ) (f g : A → A) → (j ≡ k → ⊥) → update (update l j f) k g ≡ update (update l k g) j f
  unfolding update
  update_other l j k f g h =
      ap (λ x. set (set l j (f (get_or l j d))) k (g x)) (get_or-set_other l j k (f (get_or l j d)) d (λ e. h (sym e)))
      ∙ set_comm l j k (f (get_or l j d)) (g (get_or l k d)) h
      ∙ ap (λ x. set (set l k (g (get_or l k d))) j (f x)) (sym (get_or-set_other l k j (g (get_or l k d)) d h))

-- The number of a term's place in a row, places being counted block after block.
unfoldable pub place_number : ℤ → Term → ℕ
place_number l e = nat_abs (l -ℤ e.block) * column_count + pred e.column

-- What a term puts into its block.
put_column : Term → Block → Block
put_column e b = set b (pred e.column) (pad_to coefficient_count (pos 0) e.polynomial)

put_term-is : (l : ℤ) (e : Term) (r : Row)
    → put_term_of l e r ≡ record { blocks = update [] r.blocks (nat_abs (l -ℤ e.block)) (put_column e); right = r.right }
unfolding put_term_of update put_column
put_term-is l e r = refl

put_term-comm : (l : ℤ) (e f : Term) (r : Row) → (place_number l e ≡ place_number l f → ⊥) → put_term_of l e (put_term_of l f r)
    ≡ put_term_of l f (put_term_of l e r)
unfolding update put_column place_number
put_term-comm l e f r h =
    twice e f
    ∙ ap (λ bs. record { blocks = bs; right = r.right }) (blocks (ℕ_discrete (nat_abs (l -ℤ f.block)) (nat_abs (l -ℤ e.block))))
    ∙ sym (twice f e)
  where
    twice : (e f : Term)
        → put_term_of l e (put_term_of l f r)
        ≡ record {
          blocks = update [] (update [] r.blocks (nat_abs (l -ℤ f.block)) (put_column f)) (nat_abs (l -ℤ e.block))
              (put_column e);
          right = r.right;
        }
    twice e f = put_term-is l e (put_term_of l f r)
        ∙ ap (λ q. record { blocks = update [] q.blocks (nat_abs (l -ℤ e.block)) (put_column e); right = q.right }) (put_term-is l f r)

    same : (k : ℕ) → (pred f.column ≡ pred e.column → ⊥)
        → update [] (update [] r.blocks k (put_column f)) k (put_column e)
        ≡ update [] (update [] r.blocks k (put_column e)) k (put_column f)
    same k h =
        update_twice [] r.blocks k (put_column f) (put_column e)
        ∙ ap (set r.blocks k) (set_comm (get_or r.blocks k []) (pred f.column) (pred e.column) _ _ h)
        ∙ sym (update_twice [] r.blocks k (put_column e) (put_column f))

    blocks : Dec (nat_abs (l -ℤ f.block) ≡ nat_abs (l -ℤ e.block))
        → update [] (update [] r.blocks (nat_abs (l -ℤ f.block)) (put_column f)) (nat_abs (l -ℤ e.block)) (put_column e)
        ≡ update [] (update [] r.blocks (nat_abs (l -ℤ e.block)) (put_column e)) (nat_abs (l -ℤ f.block)) (put_column f)
    blocks (no g) = update_other [] r.blocks (nat_abs (l -ℤ f.block)) (nat_abs (l -ℤ e.block)) (put_column f) (put_column e) g
    blocks (yes g) =
        ap (λ k. update [] (update [] r.blocks k (put_column f)) (nat_abs (l -ℤ e.block)) (put_column e)) g
        ∙ same (nat_abs (l -ℤ e.block)) (λ c. h (ap₂ (λ b c. b * column_count + c) (sym g) (sym c)))
        ∙ ap (λ k. update [] (update [] r.blocks (nat_abs (l -ℤ e.block)) (put_column e)) k (put_column f)) (sym g)

-- The terms put into a row, the last one first.
unfoldable pub put_terms_of : ℤ → Row → List Term → Row
put_terms_of l r [] = r
put_terms_of l r (e ∷ es) = put_term_of l e (put_terms_of l r es)

row_of_terms-is : (l : ℤ) (es : List Term) → row_of_terms l es ≡ put_terms_of l blank_row es
unfolding row_of_terms put_terms_of
row_of_terms-is l [] = refl
row_of_terms-is l (e ∷ es) = ap (put_term_of l e) (row_of_terms-is l es)

-- A term may be put before those that come after it.
put_terms-first : (l : ℤ) (r : Row) (e : Term) (es : List Term) → All (λ f. place_number l e < place_number l f) es
    → put_term_of l e (put_terms_of l r es) ≡ put_terms_of l (put_term_of l e r) es
unfolding put_terms_of All
put_terms-first l r e [] h = refl
put_terms-first l r e (f ∷ es) h =
    put_term-comm l e f (put_terms_of l r es) (λ z. omega (arith, h.0)) ∙ ap (put_term_of l f) (put_terms-first l r e es h.1)

-- ---- what is known of a term that was read

pub record TermRight (z : Sizes) (s₀ : ℤ) (c₀ : ℕ) (e : Term) : Type 0 where
  pub block-right : BlockRight z s₀ e.block
  pub low : 1 ≤ e.column
  pub high : e.column ≤ z.m
  pub rising : (lt_z e.block s₀ || ltb c₀ e.column) ≡ true

pub got-value : {A : Type 0} {a b : A} {r s : List ℕ} → got a r ≡ got b s → a ≡ b
got-value e = cc

pub place-right : (z : Sizes) (s₀ : ℤ) (c₀ : ℕ) (bytes : List ℕ) (q : ℤ × ℕ) (rest : List ℕ) (p : Polynomial) → read_place z s₀ c₀ bytes
    ≡ got q rest
    → TermRight z s₀ c₀ (term_of q.0 q.1 p)
unfolding read_place
place-right z s₀ c₀ bytes q rest p e =
    let block = then-parts (field (judge_block_of z s₀) (always space) bytes) _ e in
    let column = then-parts (field (judge_column_of z s₀ c₀ block.0) (always space) block.1) _ block.3 in
    let right = column-zero z s₀ c₀ block.0 column.0
    (field-judged (judge_column_of z s₀ c₀ block.0) (always space) block.1 column.2) in
    subst (λ q. TermRight z s₀ c₀ (term_of q.0 q.1 p)) (got-value column.3)
    (record {
      block-right = block-zero z s₀ block.0 (field-judged (judge_block_of z s₀) (always space) bytes block.2);
      low = right.low;
      high = right.high;
      rising = ap (λ c. lt_z block.0 s₀ || lt_z (pos c₀) c) (pos-nat_abs column.0 right.counted) ∙ right.rising;
    })

pub padded-right : (z : Sizes) (s₀ : ℤ) (c₀ last : ℕ) (bytes : List ℕ) (e : Term) (rest : List ℕ) → read_padded z s₀ c₀ last bytes
    ≡ got e rest
    → TermRight z s₀ c₀ e × (length e.polynomial ≡ coefficient_count)
unfolding with_place read_polynomial padded
padded-right z s₀ c₀ last bytes e rest h =
    let place = then-parts (read_place z s₀ c₀ bytes) (with_place z s₀ c₀ last) (sym (read_padded-is z s₀ c₀ last bytes) ∙ h) in
    let polynomial = then-parts (read_polynomial last place.1) _ place.3 in
    let count = then-parts (field (between (pos 1) (pos coefficient_count)) (always space) place.1) _ polynomial.2 in
    let coefficients = then-parts (read_coefficients last (nat_abs count.0) count.1) _ count.3 in
    subst (λ e. TermRight z s₀ c₀ e × (length e.polynomial ≡ coefficient_count)) (got-value polynomial.3) (
      place-right z s₀ c₀ bytes place.0 place.1 polynomial.0 place.2,
      sym (ap length (got-value coefficients.3)) ∙ length-pad_to coefficient_count (pos 0) coefficients.0,
    )

-- ---- terms that were read stand at rising places

-- How many places are taken up to block s and column c.
reach : ℤ → ℤ → ℕ → ℕ
reach l s c = nat_abs (l -ℤ s) * column_count + c

lower-further : (l a b : ℤ) → a <ℤ b → b ≤ℤ l → nat_abs (l -ℤ b) < nat_abs (l -ℤ a)
lower-further l a b h g =
    let nearer : pos 0 ≤ℤ (l -ℤ b) = ≤ℤ-difference.0 g in
    let further : (l -ℤ b) <ℤ (l -ℤ a) = +ℤ-<ℤ-left l (neg_ℤ-<ℤ.0 h) in
    let whole : pos 0 ≤ℤ (l -ℤ a) = ≤ℤ-trans nearer (<ℤ-to-≤ℤ further) in
    pos-<ℤ.0 (rw (pos-nat_abs-nonneg nearer, pos-nat_abs-nonneg whole) further)

module _ (z : Sizes) (s₀ : ℤ) (c₀ : ℕ) (high : s₀ ≤ℤ z.l) (few : c₀ ≤ column_count) (e : Term) (right : TermRight z s₀ c₀ e) where
  term-after : reach z.l s₀ c₀ ≤ place_number z.l e
  unfolding reach place_number
  term-after = by (≤ℤ-cases right.block-right.falling)
    where
      by : (e.block <ℤ s₀) ⊎ (e.block ≡ s₀) → reach z.l s₀ c₀ ≤ place_number z.l e
      by (inl h) = omega (arith, lower-further z.l e.block s₀ h high)
      by (inr h) =
          let next = ltb-true c₀ e.column (second (lt_z e.block s₀) (λ t. clash_ℤ (lt_z_yes t) (≤ℤ-of-≡ (sym h))) right.rising) in
          rw h (omega (arith, next))
        where
          second : (t : Bool) → (T t → ⊥) → (t || ltb c₀ e.column) ≡ true → ltb c₀ e.column ≡ true
          second true h e = absurd (h tt)
          second false h e = e

  -- The places up to this term are those up to its own place, and one more.
  place-reach : reach z.l e.block e.column ≡ suc (place_number z.l e)
  unfolding reach place_number
  place-reach = omega (arith, right.low)

term-right : (z : Sizes) (s₀ : ℤ) (c₀ last : ℕ) (bytes : List ℕ) (e : Term) (rest : List ℕ) → read_term z s₀ c₀ last bytes ≡ got e rest
    → TermRight z s₀ c₀ e
unfolding read_padded pad_term
term-right z s₀ c₀ last bytes e rest h =
    let right = (padded-right z s₀ c₀ last bytes (pad_term e) rest (then-got (λ e rest. got (pad_term e) rest) h)).0 in
    record { block-right = right.block-right; low = right.low; high = right.high; rising = right.rising }

All-later : (l : ℤ) (m n : ℕ) (es : List Term) → m ≤ n → All (λ f. n ≤ place_number l f) es → All (λ f. m ≤ place_number l f) es
unfolding All
All-later l m n [] h a = tt
All-later l m n (e ∷ es) h a = (le_trans h a.0, All-later l m n es h a.1)

read_terms-zero : (z : Sizes) (s₀ : ℤ) (c₀ : ℕ) (bytes : List ℕ) → read_terms z 0 s₀ c₀ bytes ≡ got [] bytes
unfolding read_terms
read_terms-zero z s₀ c₀ bytes = refl

-- The clause of the definition for one more term.
cons_term : Term → List Term → List ℕ → Read (List Term)
cons_term e es rest = got (e ∷ es) rest

term_then : Sizes → ℕ → Term → List ℕ → Read (List Term)
term_then z k e bytes = then_read (read_terms z k e.block e.column bytes) (cons_term e)

read_terms-suc : (z : Sizes) (k : ℕ) (s₀ : ℤ) (c₀ : ℕ) (bytes : List ℕ)
    → read_terms z (suc k) s₀ c₀ bytes ≡ then_read (read_term z s₀ c₀ (parting newline k) bytes) (term_then z k)
unfolding read_terms term_then cons_term
read_terms-suc z k s₀ c₀ bytes = refl

terms-after : (z : Sizes) → z.m ≤ column_count → (k : ℕ) (s₀ : ℤ) (c₀ : ℕ) (bytes : List ℕ) (es : List Term) (rest : List ℕ)
    → s₀ ≤ℤ z.l → c₀ ≤ column_count → read_terms z k s₀ c₀ bytes ≡ got es rest → All (λ f. reach z.l s₀ c₀ ≤ place_number z.l f) es
unfolding All term_then cons_term
terms-after z few zero s₀ c₀ bytes es rest hs hc h = none (got-value (sym (read_terms-zero z s₀ c₀ bytes) ∙ h))
  where
    none : [] ≡ es → All (λ f. reach z.l s₀ c₀ ≤ place_number z.l f) es
    none e = subst (All (λ f. reach z.l s₀ c₀ ≤ place_number z.l f)) e tt
terms-after z few (suc k) s₀ c₀ bytes es rest hs hc h =
    let first = then-parts (read_term z s₀ c₀ (parting newline k) bytes) (term_then z k) (sym (read_terms-suc z k s₀ c₀ bytes) ∙ h) in
    let e = first.0 in
    let more = then-parts (read_terms z k e.block e.column first.1) (cons_term e) first.3 in
    let right = term-right z s₀ c₀ (parting newline k) bytes e first.1 first.2 in
    subst (All (λ f. reach z.l s₀ c₀ ≤ place_number z.l f)) (got-value more.3) (
      term-after z s₀ c₀ hs hc e right,
      All-later z.l (reach z.l s₀ c₀) (reach z.l e.block e.column) more.0
          (omega (arith, term-after z s₀ c₀ hs hc e right, place-reach z s₀ c₀ hs hc e right))
          (terms-after z few k e.block e.column first.1 more.0 more.1 right.block-right.high
          (le_trans right.high few) more.2),
    )

-- ---- terms put into a row as they are read

-- k terms, the first one put first into the row r; the term before stood at block s₀ and column c₀.
unfoldable pub terms_into : Sizes → ℕ → ℤ → ℕ → Row → List ℕ → Read Row
terms_into z zero s₀ c₀ r bytes = got r bytes
terms_into z (suc k) s₀ c₀ r bytes =
    then_read (read_padded z s₀ c₀ (parting newline k) bytes) λ e rest. terms_into z k e.block e.column (put_term_of z.l e r) rest

put_term-pad_term : (l : ℤ) (e : Term) (r : Row) → put_term_of l (pad_term e) r ≡ put_term_of l e r
unfolding pad_term put_column
put_term-pad_term l e r =
    put_term-is l (pad_term e) r
    ∙ ap (λ p. record { blocks = update [] r.blocks (nat_abs (l -ℤ e.block)) (λ b. set b (pred e.column) p); right = r.right })
    (pad_to-all coefficient_count (pos 0) _ (length-pad_to coefficient_count (pos 0) e.polynomial))
    ∙ sym (put_term-is l e r)

put_all : ℤ → Row → List Term → List ℕ → Read Row
put_all l r es rest = got (put_terms_of l r es) rest

-- One more term: it is put first, whatever comes after it.
module _ (z : Sizes) (few : z.m ≤ column_count) (k : ℕ) (s₀ : ℤ) (c₀ : ℕ) (r : Row) (hs : s₀ ≤ℤ z.l) (hc : c₀ ≤ column_count)
    (e : Term) (rest : List ℕ) (right : TermRight z s₀ c₀ e) where
  term-first : then_read (read_terms z k e.block e.column rest) (put_all z.l (put_term_of z.l e r))
      ≡ then_read (term_then z k e rest) (put_all z.l r)
  unfolding term_then put_all cons_term put_terms_of
  term-first =
      then-cong-read (read_terms z k e.block e.column rest)
      (λ es more h. ap (λ q. got q more) (sym (put_terms-first z.l r e es (later es more h))))
      ∙ then-cong (read_terms z k e.block e.column rest) (λ es more. sym (then-got (put_all z.l r) refl))
      ∙ sym (then-then (read_terms z k e.block e.column rest) (cons_term e) (put_all z.l r))
    where
      strict : (es : List Term) → All (λ f. reach z.l e.block e.column ≤ place_number z.l f) es
          → All (λ f. place_number z.l e < place_number z.l f) es
      strict es a = All-later z.l (suc (place_number z.l e)) (reach z.l e.block e.column) es
          (le_of_eq (sym (place-reach z s₀ c₀ hs hc e right))) a

      later : (es : List Term) (more : List ℕ) → read_terms z k e.block e.column rest ≡ got es more
          → All (λ f. place_number z.l e < place_number z.l f) es
      later es more h = strict es
          (terms-after z few k e.block e.column rest es more right.block-right.high (le_trans right.high few) h)

into_rest : Sizes → ℕ → Row → Term → List ℕ → Read Row
into_rest z k r e rest = terms_into z k e.block e.column (put_term_of z.l e r) rest

terms_into-suc : (z : Sizes) (k : ℕ) (s₀ : ℤ) (c₀ : ℕ) (r : Row) (bytes : List ℕ)
    → terms_into z (suc k) s₀ c₀ r bytes ≡ then_read (read_term z s₀ c₀ (parting newline k) bytes) (into_rest z k r)
unfolding terms_into into_rest read_padded pad_term
terms_into-suc z k s₀ c₀ r bytes =
    then-then (read_term z s₀ c₀ (parting newline k) bytes) (λ e rest. got (pad_term e) rest) (into_rest z k r)
    ∙ then-cong (read_term z s₀ c₀ (parting newline k) bytes)
    (λ e rest. then-got (into_rest z k r) refl ∙ ap (λ q. terms_into z k e.block e.column q rest) (put_term-pad_term z.l e r))

terms-into : (z : Sizes) → z.m ≤ column_count → (k : ℕ) (s₀ : ℤ) (c₀ : ℕ) (r : Row) (bytes : List ℕ) → s₀ ≤ℤ z.l → c₀ ≤ column_count
    → terms_into z k s₀ c₀ r bytes ≡ then_read (read_terms z k s₀ c₀ bytes) (put_all z.l r)
unfolding terms_into put_all put_terms_of into_rest
terms-into z few zero s₀ c₀ r bytes hs hc = sym (then-got (put_all z.l r) (read_terms-zero z s₀ c₀ bytes))
terms-into z few (suc k) s₀ c₀ r bytes hs hc =
    terms_into-suc z k s₀ c₀ r bytes
    ∙ then-cong-read (read_term z s₀ c₀ (parting newline k) bytes)
    (λ e rest h.
    let right = term-right z s₀ c₀ (parting newline k) bytes e rest h in
    terms-into z few k e.block e.column (put_term_of z.l e r) rest right.block-right.high (le_trans right.high few)
    ∙ term-first z few k s₀ c₀ r hs hc e rest right)
    ∙ sym (then-then (read_term z s₀ c₀ (parting newline k) bytes) (term_then z k) (put_all z.l r))
    ∙ sym (ap (λ t. then_read t (put_all z.l r)) (read_terms-suc z k s₀ c₀ bytes))

-- An equation: its number of terms, and then its terms.
unfoldable pub terms_of : Sizes → ℤ → List ℕ → Read Row
terms_of z k bytes = terms_into z (nat_abs k) z.l 0 blank_row bytes

equation-parts : (z : Sizes) (bytes : List ℕ)
    → read_equation z bytes
    ≡ then_read (field (between (pos 0) (pos (z.m * suc (span z)))) after_count_of bytes)
    (λ k rest. then_read (read_terms z (nat_abs k) z.l 0 rest) (λ es more. got (row_of_terms z.l es) more))
unfolding read_equation
equation-parts z bytes = refl

pub equation-is : (z : Sizes) → z.m ≤ column_count → (bytes : List ℕ)
    → read_equation z bytes ≡ then_read (field (between (pos 0) (pos (z.m * suc (span z)))) after_count_of bytes) (terms_of z)
unfolding terms_of put_all
equation-is z few bytes =
    equation-parts z bytes
    ∙ then-cong (field (between (pos 0) (pos (z.m * suc (span z)))) after_count_of bytes)
    (λ k rest. then-cong (read_terms z (nat_abs k) z.l 0 rest) (λ es more. ap (λ q. got q more) (row_of_terms-is z.l es))
    ∙ sym (terms-into z few (nat_abs k) z.l 0 blank_row rest (≤ℤ_refl z.l) zero-le))

-- What a term that was read asks of its place in the row.
pub term-place : (z : Sizes) (s₀ : ℤ) (c₀ : ℕ) (e : Term) → T (sizes_right_of z) → TermRight z s₀ c₀ e
    → (nat_abs (z.l -ℤ e.block) ≤ most_span) × (e.block ≤ℤ z.l) × (1 ≤ e.column) × (e.column ≤ column_count)
term-place z s₀ c₀ e sizes right =
    let bounds = size-bounds z sizes in (
      le_of_suc-le-suc (block-place z e.block bounds right.block-right.low right.block-right.high),
      right.block-right.high,
      right.low,
      le_trans right.high bounds.few,
    )

pub place-fits : (z : Sizes) (s₀ : ℤ) (c₀ : ℕ) (e : Term) → T (sizes_right_of z) → TermRight z s₀ c₀ e
    → place_in_row_of z.l e.block e.column + coefficient_count ≤ row_length
unfolding place_in_row_of
place-fits z s₀ c₀ e sizes right = omega (arith, term-place z s₀ c₀ e sizes right)

-- Sixteen numbers stored at a term's place.
put_is : (z : Sizes) (s₀ : ℤ) (c₀ : ℕ) (e : Term) (row : List ℤ) → T (sizes_right_of z) → TermRight z s₀ c₀ e → length e.polynomial
    ≡ coefficient_count
    → length row ≡ row_length → row_of (paste row (place_in_row_of z.l e.block e.column) e.polynomial coefficient_count)
    ≡ put_term_of z.l e (row_of row)
unfolding place_in_row_of put_column update
put_is z s₀ c₀ e row sizes right whole long =
    let place = term-place z s₀ c₀ e sizes right in
    let column : pred e.column < column_count = omega (arith, place.2, place.3) in
    row_of-paste row e.polynomial (nat_abs (z.l -ℤ e.block)) (pred e.column) long whole (suc-le-suc place.0) column
    ∙ ap (λ p. record {
      blocks = set (row_of row).blocks (nat_abs (z.l -ℤ e.block))
          (set (get_or (row_of row).blocks (nat_abs (z.l -ℤ e.block)) []) (pred e.column) p);
      right = (row_of row).right;
    })
    (sym (pad_to-all coefficient_count (pos 0) e.polynomial whole))
    ∙ sym (put_term-is z.l e (row_of row))

-- The numbers of `row` are those of the terms before the place `next`; the last of them stood at block s and column c, and `left` terms
-- are to come.
pub record TermsTo (z : Sizes) (count : ℕ) (bytes : List ℕ) (at : ℕ) (row : List ℤ) (next : ℕ) (s : ℤ) (c left : ℕ) : Type 0 where
  pub within : next ≤ length bytes
  pub long : length row ≡ row_length
  pub few : c ≤ column_count
  pub rest : terms_into z count z.l 0 blank_row (drop at bytes) ≡ terms_into z left s c (row_of row) (drop next bytes)

module _ (z : Sizes) (sizes : T (sizes_right_of z)) (count : ℕ) (bytes : List ℕ) (at : ℕ) where
  pub terms-begin : (row : List ℤ) (s : ℤ) → at ≤ length bytes → s ≡ z.l → length row ≡ row_length → row_of row ≡ blank_row
      → TermsTo z count bytes at row at s 0 count
  terms-begin row s h e long blank =
      record {
        within = h;
        long = long;
        few = zero-le;
        rest = ap₂ (λ s r. terms_into z count s 0 r (drop at bytes)) (sym e) (sym blank);
      }

  module _ (row : List ℤ) (next : ℕ) (s : ℤ) (c left : ℕ) (so_far : TermsTo z count bytes at row next s c left) where
    pub terms-end : left ≡ 0 → terms_into z count z.l 0 blank_row (drop at bytes) ≡ got (row_of row) (drop next bytes)
    unfolding terms_into
    terms-end e = so_far.rest ∙ ap (λ k. terms_into z k s c (row_of row) (drop next bytes)) e

    module _ (some : 0 < left) where
      term-next : terms_into z left s c (row_of row) (drop next bytes)
          ≡ then_read (read_padded z s c (parting newline (left - 1)) (drop next bytes)) (into_rest z (left - 1) (row_of row))
      unfolding terms_into into_rest
      term-next =
          let e : left ≡ suc (left - 1) = omega arith in
          ap (λ k. terms_into z k s c (row_of row) (drop next bytes)) e

      pub terms-refused : (n : ℕ) → read_padded z s c (parting newline (left - 1)) (drop next bytes) ≡ fault n
          → terms_into z count z.l 0 blank_row (drop at bytes) ≡ fault n
      terms-refused n e = so_far.rest ∙ term-next ∙ then-fault (into_rest z (left - 1) (row_of row)) e

      -- One more term, read into its place.
      pub terms-go-on : (e : Term) (after from : ℕ) → read_padded z s c (parting newline (left - 1)) (drop next bytes)
          ≡ got e (drop after bytes)
          → after ≤ length bytes → from ≡ place_in_row_of z.l e.block e.column
          → TermsTo z count bytes at (put_mid from (from + coefficient_count - from) row e.polynomial) after e.block e.column
          (left - 1)
      unfolding into_rest
      terms-go-on e after from h inside same =
          let right = padded-right z s c (parting newline (left - 1)) (drop next bytes) e (drop after bytes) h in
          rw (lent_back row from coefficient_count e.polynomial right.1, same)
          (record {
            within = inside;
            long =
                length-paste row (place_in_row_of z.l e.block e.column) e.polynomial coefficient_count
                (rw so_far.long (place-fits z s c e sizes right.0)) (le_of_eq (sym right.1))
                ∙ so_far.long;
            few = (term-place z s c e sizes right.0).3;
            rest =
                so_far.rest
                ∙ term-next
                ∙ then-got (into_rest z (left - 1) (row_of row)) h
                ∙ ap (λ q. terms_into z (left - 1) e.block e.column q (drop after bytes))
                (sym (put_is z s c e row sizes right.0 right.1 so_far.long));
          })

-- A row of zeros is blank.
pub zeros-blank : row_of (zeros row_length) ≡ blank_row
unfolding row_of blank_row zeros
zeros-blank = refl
