-- The column order of a sheet, and its bytes.
--
-- Main definitions
--   OrderRight m order     different columns of 1..m, or none
--
-- Main statements
--   different-cons         when columns are different with one more before them
--   different-few          there are at most m of them
--   order-exact            the reader of the order line reads what is written of right orders, and nothing else
use Rattle.std.specs.Prelude.{ℕ, suc, ◌^◌, ◌≤◌, ◌<◌, ◌≡◌, refl, ◌↔◌, not, T, eqb, length, ℤ, pos, nat_abs, ◌≤ℤ◌}
use Rattle.std.proofs.Common.{suc-le-suc, not-suc-le-zero, le_of_suc-le-suc, arith, sym, ◌∙◌, ap, subst, inl, inr, ⊎_elim, leb→le, le→leb, eqb→eq, T_not}
use mathlib.Core.List.Memᴰ
use mathlib.Core.List.{List, [], ◌∷◌, ◌++◌, map, Memᴰ}
use Rattle.std.proofs.Math.Dec.{eqb_refl, not_T}
use Rattle.std.proofs.lemmas.List.{length-map}
use Rattle.std.specs.Int.Signed.{le_z_yes}
use Rattle.algebra.specs.Order.{≤ℤ-trans, pos-≤ℤ, pos-nonneg, pos-nat_abs-nonneg}
use Rattle.algebra.specs.Pigeonhole.{Distinct, distinct-length}
use Rattle.lists.specs.Tests.{T-&&, T-or, T-not-or, cond-zero-iff}
use Rattle.rules.specs.Limits.{column_count}
use Rattle.lists.specs.Everywhere.{All}
use Rattle.rules.specs.Numbers.{newline, line, got, then_read, field, between}
use Rattle.rules.specs.Sheets.{always, parting, after_count_of, contains, judge_order_of, read_columns, read_order, order_line}
use Rattle.rules.specs.SheetCalls.{different_columns_of}
use Rattle.tokens.specs.Exact.{Exact, field-exact, then-exact, same-exact, Chain, chain-exact}
use Rattle.sheets.specs.WrittenTerms.{between-iff, between-exact, range-digits, positive-pos, newline-separator}
use Rattle.sheets.specs.WrittenTerms.{parting-separator, parted, line-parted, chain_bytes-parted}
use Rattle.sheets.specs.WrittenSections.{counted, count-parted, after_count-separator}

-- Different columns of 1..m (SCOPE 4.15).
unfoldable pub OrderRight : ℕ → List ℕ → Type 0
OrderRight m order = T (different_columns_of m order)

-- ---- different columns

judge_order-iff : (m : ℕ) (taken : List ℕ) (v : ℤ)
    → (judge_order_of m taken v ≡ 0) ↔ ((pos 1 ≤ℤ v) × (v ≤ℤ pos m) × T (not (contains (nat_abs v) taken)))
unfolding judge_order_of
judge_order-iff m taken v = (
  λ e. let h = simp (cond-zero-iff, T-&&) at e in (le_z_yes h.0.0.0, le_z_yes h.0.0.1, h.0.1),
  λ h. simp (cond-zero-iff, T-&&) (((h.0.le, h.1.le), h.2), refl),
)

-- Columns of which none is taken, and no two are the same.
Columns : ℕ → List ℕ → List ℕ → Type 0
Columns m = Chain (λ taken c. nat_abs c ∷ taken) pos (λ taken _ c. judge_order_of m taken c ≡ 0)

abbrev Fresh : List ℕ → List ℕ → Type 0
Fresh taken = All (λ c. T (not (contains c taken)))

not-eqb-comm : (c d : ℕ) → T (not (eqb c d)) → T (not (eqb d c))
not-eqb-comm c d h = not_T (eqb d c) (λ e. T_not (eqb c d) h (subst (λ n. T (eqb c n)) (sym (eqb→eq d c e)) (eqb_refl c)))

-- One more column is taken.
Fresh-more : (c : ℕ) (taken l : List ℕ) → Fresh (c ∷ taken) l ↔ (T (not (contains c l)) × Fresh taken l)
unfolding All contains
Fresh-more c taken [] = (λ h. (tt, tt), λ h. tt)
Fresh-more c taken (d ∷ l) = (
  λ h.
      let e = (T-not-or (eqb d c) (contains d taken)).0 h.0 in
      let f = (Fresh-more c taken l).0 h.1 in
      ((T-not-or (eqb c d) (contains c l)).1 (not-eqb-comm d c e.0, f.0), (e.1, f.1)),
  λ h.
      let e = (T-not-or (eqb c d) (contains c l)).0 h.0 in
      ((T-not-or (eqb d c) (contains d taken)).1 (not-eqb-comm c d e.0, h.1.0), (Fresh-more c taken l).1 (e.1, h.1.1)),
)

pub different-cons : (m c : ℕ) (l : List ℕ)
    → T (different_columns_of m (c ∷ l)) ↔ ((1 ≤ c) × (c ≤ m) × T (not (contains c l)) × T (different_columns_of m l))
unfolding different_columns_of
different-cons m c l = (
  λ h. let e = simp T-&& at h in (leb→le 1 c e.0.0.0, leb→le c m e.0.0.1, e.0.1, e.1),
  λ h. simp T-&& (((le→leb 1 c h.0, le→leb c m h.1), h.2), h.3),
)

-- A column that stands among others is found there.
member-found : (c : ℕ) (l : List ℕ) → Memᴰ c l → T (contains c l)
unfolding contains
member-found c [] p = absurd (Memᴰ.not-nil p)
member-found c (d ∷ l) p =
    (T-or (eqb c d) (contains c l)).1
    (⊎_elim (λ e. inl (subst (λ n. T (eqb c n)) e (eqb_refl c))) (λ q. inr (member-found c l q)) (Memᴰ.cases_cons p))

different-distinct : (m : ℕ) (l : List ℕ) → T (different_columns_of m l) → Distinct l
different-distinct m [] h = tt
different-distinct m (c ∷ l) h =
    let e = (different-cons m c l).0 h in
    (λ p. T_not (contains c l) e.2 (member-found c l p), different-distinct m l e.3)

different-within : (m : ℕ) (l : List ℕ) → T (different_columns_of m l) → (c : ℕ) → Memᴰ c l → (1 ≤ c) × (c ≤ m)
different-within m [] h c p = absurd (Memᴰ.not-nil p)
different-within m (d ∷ l) h c p =
    let e = (different-cons m d l).0 h in
    ⊎_elim (λ same. subst (λ n. (1 ≤ n) × (n ≤ m)) (sym same) (e.0, e.1)) (different-within m l e.3 c) (Memᴰ.cases_cons p)

-- With 0 before them they are different numbers up to m.
pub different-few : (m : ℕ) (l : List ℕ) → T (different_columns_of m l) → length l ≤ m
different-few m l h =
    le_of_suc-le-suc
    (distinct-length (suc m) (0 ∷ l) (λ p. not-suc-le-zero (different-within m l h 0 p).0, different-distinct m l h) below)
  where
    below : (x : ℕ) → Memᴰ x (0 ∷ l) → x < suc m
    below x p = ⊎_elim (λ e. omega arith) (λ q. suc-le-suc (different-within m l h x q).1) (Memᴰ.cases_cons p)

Columns-iff : (m : ℕ) (taken l : List ℕ) → Columns m taken l ↔ (T (different_columns_of m l) × Fresh taken l)
unfolding Columns Chain All different_columns_of
Columns-iff m taken [] = (λ h. (tt, tt), λ h. tt)
Columns-iff m taken (c ∷ l) = (
  λ h.
      let e = (judge_order-iff m taken (pos c)).0 h.0 in
      let f = (Columns-iff m (c ∷ taken) l).0 h.1 in
      let g = (Fresh-more c taken l).0 f.1 in
      ((different-cons m c l).1 (pos-≤ℤ.0 e.0, pos-≤ℤ.0 e.1, g.0, f.0), (e.2, g.1)),
  λ h.
      let e = (different-cons m c l).0 h.0 in (
        (judge_order-iff m taken (pos c)).1 (pos-≤ℤ.1 e.0, pos-≤ℤ.1 e.1, h.1.0),
        (Columns-iff m (c ∷ taken) l).1 (e.3, (Fresh-more c taken l).1 (e.2, h.1.1)),
      ),
)

Columns-none : (m : ℕ) (l : List ℕ) → Columns m [] l ↔ T (different_columns_of m l)
unfolding All contains
Columns-none m l = (λ h. ((Columns-iff m [] l).0 h).0, λ h. (Columns-iff m [] l).1 (h, fresh l))
  where
    fresh : (l : List ℕ) → Fresh [] l
    fresh [] = tt
    fresh (c ∷ l) = (tt, fresh l)

-- ---- reading

read_columns-none : (m : ℕ) (taken bytes : List ℕ) → read_columns m 0 taken bytes ≡ got [] bytes
unfolding read_columns
read_columns-none m taken bytes = refl

read_columns-some : (m : ℕ) (taken : List ℕ) (k : ℕ) (bytes : List ℕ)
    → read_columns m (suc k) taken bytes
    ≡ then_read (field (judge_order_of m taken) (always (parting newline k)) bytes) λ c rest.
    then_read (read_columns m k (nat_abs c ∷ taken) rest) λ l more. got (nat_abs c ∷ l) more
unfolding read_columns
read_columns-some m taken k bytes = refl

columns-exact : (m k : ℕ) → m ≤ column_count
    → Exact (read_columns m k []) (λ l. (length l ≡ k) × T (different_columns_of m l)) (λ l. parted newline (map pos l))
unfolding Columns always
columns-exact m k b =
    same-exact (read_columns m k []) (λ l. (length l ≡ k) × T (different_columns_of m l)) (λ l. parted newline (map pos l))
    (chain-exact (λ taken k. field (judge_order_of m taken) (always (parting newline k))) (λ taken k. read_columns m k taken)
    (λ taken c. nat_abs c ∷ taken) nat_abs pos (pos 0)
    (read_columns-none m) (read_columns-some m)
    (λ taken k. field-exact (judge_order_of m taken) (always (parting newline k)) (digits taken)
    (λ _. parting-separator newline k newline-separator))
    (λ taken _ c h. sym (positive-pos ((judge_order-iff m taken c).0 h).0)) (λ _. refl) k [])
    (λ _. refl) (λ l h. (h.0, (Columns-none m l).1 h.1)) (λ l h. (h.0, (Columns-none m l).0 h.1))
    (λ l _. sym (chain_bytes-parted pos newline l))
  where
    digits : (taken : List ℕ) (c : ℤ) → judge_order_of m taken c ≡ 0 → nat_abs c < 10 ^ 10
    digits taken c e =
        let f = (judge_order-iff m taken c).0 e in
        range-digits (pos 1) (pos m) c (le_z_yes tt) (≤ℤ-trans (pos-≤ℤ.1 b) (le_z_yes tt)) f.0 f.1

pub order-exact : (m : ℕ) → m ≤ column_count → Exact (read_order m) (OrderRight m) (λ order. line (order_line order))
unfolding read_order order_line OrderRight
order-exact m b =
    same-exact (read_order m) (OrderRight m) (λ order. line (order_line order))
    (then-exact (λ order. pos (length order))
    (between-exact (pos 0) (pos m) after_count_of (le_z_yes tt) (≤ℤ-trans (pos-≤ℤ.1 b) (le_z_yes tt)) after_count-separator)
    (λ k order hk e. sym (pos-nat_abs-nonneg ((between-iff (pos 0) (pos m) k).0 hk).0) ∙ ap pos (sym e.0)) λ k _.
    columns-exact m (nat_abs k) b)
    (λ _. refl) good (λ order h. h.1.1) (λ order _. bytes order)
  where
    good : (order : List ℕ) → OrderRight m order
        → (between (pos 0) (pos m) (pos (length order)) ≡ 0) × ((length order ≡ length order) × T (different_columns_of m order))
    good order h = (
      (between-iff (pos 0) (pos m) (pos (length order))).1 (pos-nonneg (length order), pos-≤ℤ.1 (different-few m order h)),
      (refl, h),
    )

    bytes : (order : List ℕ) → line (pos (length order) ∷ map pos order) ≡ counted (length order) ++ parted newline (map pos order)
    bytes order =
        line-parted (pos (length order)) (map pos order)
        ∙ count-parted (map pos order) (length order) (ap (parting newline) (sym (length-map order pos)))
