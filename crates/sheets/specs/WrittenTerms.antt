-- Lines of numbers, coefficients and terms, and their bytes.
--
-- Main definitions
--   parted last l            the bytes of numbers parted by spaces, `last` standing after the last number
--   Sound p                  small coefficients, the last of them not zero
--   TermRight, Ordered       a term that may stand after another one, and terms of which each may stand after that before it
--
-- Main statements
--   between-iff, judge_small-iff, judge_last-iff, judge_block-iff, judge_column-iff   what the judgements of numbers ask
--   line-parted, parted-append               a line is parted numbers, and so are several parts of a line together
--   coefficients-exact, term-exact, terms-exact   their readers read what is written of them, and nothing else
use Rattle.std.specs.Prelude.{ℕ, zero, suc, ◌^◌, ◌≤◌, ◌<◌, ◌≡◌, refl, ◌↔◌, Bool, true, false, ◌||◌, not, cond, T, length, ℤ, pos, neg_ℤ, nat_abs, ◌≤ℤ◌}
use Rattle.std.proofs.Common.{zero-le, suc-le-suc, not-suc-le-zero, suc-ne-zero, arith, sym, ◌∙◌, ap, ap₂, leb→le}
use mathlib.Core.List.{List, [], ◌∷◌, ◌++◌, map, flatten, append-nil, append_assoc, map-id}
use Rattle.std.proofs.lemmas.List.{length-map}
use Rattle.std.specs.Int.Signed.{lt_z, le_z_yes}
use Rattle.algebra.specs.Order.{≤ℤ-trans, nat_abs-≤-iff, pos-nat_abs-nonneg, pos-≤ℤ}
use Rattle.algebra.specs.Polynomials.{Polynomial, is_zero_ℤ}
use Rattle.lists.specs.Tests.{T-&&, cond-zero-iff}
use Rattle.rules.specs.Limits.{bound, coefficient_count, small}
use Rattle.rules.specs.Stores.{Sizes}
use Rattle.rules.specs.Layout.{SizeBounds}
use Rattle.rules.specs.Numbers.{space, newline, is_separator_of, decimal, line, got, then_read, field, between, judge_small_of}
use Rattle.rules.specs.Sheets.{Term, always, parting, judge_last_of, read_coefficients, judge_block_of, judge_column_of, read_term, read_terms}
use Rattle.rules.specs.Sheets.{term_numbers}
use Rattle.tokens.specs.Exact.{Exact, field-exact, nothing-exact, then-exact, same-exact, Chain, chain_bytes, chain-exact}

-- ---- judgements

pub between-iff : (low high v : ℤ) → (between low high v ≡ 0) ↔ ((low ≤ℤ v) × (v ≤ℤ high))
unfolding between
between-iff low high v = (
  λ e. let h = simp (cond-zero-iff, T-&&) at e in (le_z_yes h.0.0, le_z_yes h.0.1),
  λ h. simp (cond-zero-iff, T-&&) ((h.0.le, h.1.le), refl),
)

pub judge_small-iff : (v : ℤ) → (judge_small_of v ≡ 0) ↔ T (small v)
unfolding judge_small_of
judge_small-iff v = (λ e. (simp cond-zero-iff at e).0, λ h. simp cond-zero-iff (h, refl))

pub judge_last-iff : (v : ℤ) → (judge_last_of v ≡ 0) ↔ (T (small v) × T (not (is_zero_ℤ v)))
unfolding judge_last_of
judge_last-iff v = (
  λ e. let h = (cond-zero-iff (small v) _ 5 refl).0 e in (h.0, (nonzero (is_zero_ℤ v)).0 h.1),
  λ h. (cond-zero-iff (small v) _ 5 refl).1 (h.0, (nonzero (is_zero_ℤ v)).1 h.1),
)
  where
    nonzero : (t : Bool) → (cond {A = ℕ} t 3 0 ≡ 0) ↔ T (not t)
    nonzero true = (λ e. absurd (suc-ne-zero 2 e), λ h. absurd h)
    nonzero false = (λ e. tt, λ h. refl)

-- Numbers of at most ten digits.
pub small-digits : (v : ℤ) → T (small v) → nat_abs v < 10 ^ 10
unfolding small
small-digits v h = omega (arith, leb→le (nat_abs v) bound h)

-- The largest number of ten digits.
abbrev pub most : ℕ
most = 9999999999

pub range-digits : (low high v : ℤ) → neg_ℤ (pos most) ≤ℤ low → high ≤ℤ pos most → low ≤ℤ v → v ≤ℤ high → nat_abs v < 10 ^ 10
range-digits low high v a b h i = omega (arith, (nat_abs-≤-iff v).1 (≤ℤ-trans a h, ≤ℤ-trans i b))

-- A number in a range, with its separator.
pub between-exact : (low high : ℤ) (follow : ℤ → ℕ) → neg_ℤ (pos most) ≤ℤ low → high ≤ℤ pos most → ((a : ℤ) → T (is_separator_of (follow a)))
    → Exact (field (between low high) follow) (λ a. between low high a ≡ 0) (λ a. decimal a ++ (follow a ∷ []))
between-exact low high follow a b =
    field-exact (between low high) follow (λ v e. let f = (between-iff low high v).0 e in range-digits low high v a b f.0 f.1)

pub positive-pos : {c : ℤ} → pos 1 ≤ℤ c → c ≡ pos (nat_abs c)
positive-pos h = sym (pos-nat_abs-nonneg (≤ℤ-trans {b = pos 1} (le_z_yes tt) h))

-- ---- lines

pub always-space : (v : ℤ) → T (is_separator_of (always space v))
unfolding always is_separator_of
always-space v = tt

pub always-newline : (v : ℤ) → T (is_separator_of (always newline v))
unfolding always is_separator_of
always-newline v = tt

pub newline-separator : T (is_separator_of newline)
unfolding is_separator_of
newline-separator = tt

pub parting-separator : (last k : ℕ) → T (is_separator_of last) → T (is_separator_of (parting last k))
unfolding parting is_separator_of
parting-separator last zero h = h
parting-separator last (suc k) h = tt

-- Numbers parted by spaces, `last` standing after the last of them.
unfoldable pub parted : ℕ → List ℤ → List ℕ
parted last [] = []
parted last (a ∷ l) = decimal a ++ (parting last (length l) ∷ parted last l)

pub line-parted : (a : ℤ) (l : List ℤ) → line (a ∷ l) ≡ parted newline (a ∷ l)
unfolding line parted parting
line-parted a [] = refl
line-parted a (b ∷ l) = ap (λ r. decimal a ++ (space ∷ r)) (line-parted b l)

pub parting-some : (last k : ℕ) → 1 ≤ k → parting last k ≡ space
unfolding parting
parting-some last zero h = absurd (not-suc-le-zero h)
parting-some last (suc k) h = refl

-- A number with a space.
abbrev pub spaced : ℤ → List ℕ
spaced a = decimal a ++ (always space a ∷ [])

pub parted-space : (last : ℕ) (a : ℤ) (l : List ℤ) → 1 ≤ length l → parted last (a ∷ l) ≡ spaced a ++ parted last l
unfolding parted always
parted-space last a l h =
    ap (λ b. decimal a ++ (b ∷ parted last l)) (parting-some last (length l) h)
    ∙ sym (append_assoc (decimal a) (space ∷ []) (parted last l))

-- Numbers, parted, in front of others.
pub parted-append : (last : ℕ) (l more : List ℤ) → parted last (l ++ more) ≡ parted (parting last (length more)) l ++ parted last more
unfolding parted parting
parted-append last [] more = refl
parted-append last (a ∷ l) more =
    ap₂ (λ b r. decimal a ++ (b ∷ r)) (same l more) (parted-append last l more)
    ∙ sym (append_assoc (decimal a) (parting (parting last (length more)) (length l) ∷ parted (parting last (length more)) l)
    (parted last more))
  where
    same : (l more : List ℤ) → parting last (length (l ++ more)) ≡ parting (parting last (length more)) (length l)
    same [] more = refl
    same (b ∷ l) more = refl

-- ---- coefficients

-- The judgement of a coefficient after which k stand.
unfoldable pub coefficient_judge : ℕ → ℤ → ℕ
coefficient_judge zero = judge_last_of
coefficient_judge (suc k) = judge_small_of

coefficient-digits : (k : ℕ) (a : ℤ) → coefficient_judge k a ≡ 0 → nat_abs a < 10 ^ 10
unfolding coefficient_judge
coefficient-digits zero a h = small-digits a ((judge_last-iff a).0 h).0
coefficient-digits (suc k) a h = small-digits a ((judge_small-iff a).0 h)

-- Small coefficients, the last of them not zero (SCOPE 4.24).
unfoldable pub Sound : Polynomial → Type 0
unfolding Chain coefficient_judge
Sound = Chain {S = Unit {0}} (λ s _. s) (λ a. a) (λ _ k a. coefficient_judge k a ≡ 0) tt

-- Numbers that are read one after another, each with what parts it from the next.
pub chain_bytes-parted : {A : Type 0} (g : A → ℤ) (last : ℕ) (l : List A)
    → chain_bytes g (λ k a. decimal a ++ (always (parting last k) a ∷ [])) l ≡ parted last (map g l)
unfolding chain_bytes parted always
chain_bytes-parted g last [] = refl
chain_bytes-parted g last (a ∷ l) =
    append_assoc (decimal (g a)) (parting last (length l) ∷ []) _
    ∙ ap₂ (λ k r. decimal (g a) ++ (parting last k ∷ r)) (sym (length-map l g)) (chain_bytes-parted g last l)

read_coefficients-none : (last : ℕ) (bytes : List ℕ) → read_coefficients last 0 bytes ≡ got [] bytes
unfolding read_coefficients
read_coefficients-none last bytes = refl

read_coefficients-some : (last k : ℕ) (bytes : List ℕ)
    → read_coefficients last (suc k) bytes
    ≡ then_read (field (coefficient_judge k) (always (parting last k)) bytes) λ a rest.
    then_read (read_coefficients last k rest) λ p more. got (a ∷ p) more
unfolding read_coefficients coefficient_judge parting
read_coefficients-some last zero bytes = refl
read_coefficients-some last (suc k) bytes = refl

pub coefficients-exact : (last k : ℕ) → T (is_separator_of last) → Exact (read_coefficients last k) (λ p. (length p ≡ k) × Sound p) (parted last)
unfolding Sound always
coefficients-exact last k h =
    same-exact (read_coefficients last k) (λ p. (length p ≡ k) × Sound p) (parted last)
    (chain-exact (λ _ k. field (coefficient_judge k) (always (parting last k))) (λ _. read_coefficients last) (λ s _. s)
    (λ a. a) (λ a. a) (pos 0)
    (λ _. read_coefficients-none last) (λ _. read_coefficients-some last)
    (λ _ k. field-exact (coefficient_judge k) (always (parting last k)) (coefficient-digits k) (λ _. parting-separator last k h))
    (λ _ _ _ _. refl) (λ _. refl) k tt)
    (λ _. refl) (λ _ h. h) (λ _ h. h) (λ p _. sym (chain_bytes-parted (λ a. a) last p ∙ ap (parted last) (map-id p)))

-- ---- terms

-- A term that may stand after one of block s₀ and column c₀ (SCOPE 4.23).
pub record TermRight (z : Sizes) (s₀ : ℤ) (c₀ : ℕ) (e : Term) : Type 0 where
  pub block-right : judge_block_of z s₀ e.block ≡ 0
  pub column-right : judge_column_of z s₀ c₀ e.block (pos e.column) ≡ 0
  pub some : 1 ≤ length e.polynomial
  pub few : length e.polynomial ≤ coefficient_count
  pub sound : Sound e.polynomial

pub judge_block-iff : (z : Sizes) (s₀ s : ℤ) → (judge_block_of z s₀ s ≡ 0) ↔ ((z.t ≤ℤ s) × (s ≤ℤ z.l) × (s ≤ℤ s₀))
unfolding judge_block_of
judge_block-iff z s₀ s = (
  λ e. let h = simp (cond-zero-iff, T-&&) at e in (le_z_yes h.0.0, le_z_yes h.0.1, le_z_yes h.1.0),
  λ h. simp (cond-zero-iff, T-&&) ((h.0.le, h.1.le), (h.2.le, refl)),
)

pub judge_column-iff : (z : Sizes) (s₀ : ℤ) (c₀ : ℕ) (s c : ℤ)
    → (judge_column_of z s₀ c₀ s c ≡ 0) ↔ ((pos 1 ≤ℤ c) × (c ≤ℤ pos z.m) × T (lt_z s s₀ || lt_z (pos c₀) c))
unfolding judge_column_of
judge_column-iff z s₀ c₀ s c = (
  λ e. let h = simp (cond-zero-iff, T-&&) at e in (le_z_yes h.0.0, le_z_yes h.0.1, h.1.0),
  λ h. simp (cond-zero-iff, T-&&) ((h.0.le, h.1.le), (h.2, refl)),
)

pub term-exact : (z : Sizes) (s₀ : ℤ) (c₀ last : ℕ) → SizeBounds z → T (is_separator_of last)
    → Exact (read_term z s₀ c₀ last) (TermRight z s₀ c₀) (λ e. parted last (term_numbers e))
unfolding read_term term_numbers
term-exact z s₀ c₀ last b h =
    same-exact (read_term z s₀ c₀ last) (TermRight z s₀ c₀) (λ e. parted last (term_numbers e))
    (then-exact (λ e. e.block) (field-exact (judge_block_of z s₀) (always space) block-digits always-space)
    (λ s e hs f. ap (λ x. x.block) (sym f.1.1.1)) λ s hs.
    then-exact (λ e. pos e.column) (field-exact (judge_column_of z s₀ c₀ s) (always space) (column-digits s) always-space)
    (λ c e hc f. positive-pos ((judge_column-iff z s₀ c₀ s c).0 hc).0 ∙ ap (λ x. pos x.column) (sym f.1.1)) λ c hc.
    then-exact (λ e. pos (length e.polynomial))
    (between-exact (pos 1) (pos coefficient_count) (always space) (le_z_yes tt) (le_z_yes tt) always-space)
    (λ k e hk f. positive-pos ((between-iff (pos 1) (pos coefficient_count) k).0 hk).0 ∙ ap pos (sym f.0.0)) λ k hk.
    then-exact (λ e. e.polynomial) (coefficients-exact last (nat_abs k) h)
    (λ p e _ f. ap (λ x. x.polynomial) (sym f)) λ p hp.
    nothing-exact (record { block = s; column = nat_abs c; polynomial = p }))
    (λ l. refl) good best bytes
  where
    block-digits : (s : ℤ) → judge_block_of z s₀ s ≡ 0 → nat_abs s < 10 ^ 10
    block-digits s e =
        let f = (judge_block-iff z s₀ s).0 e in
        range-digits z.t z.l s (≤ℤ-trans (le_z_yes tt) b.low) (≤ℤ-trans b.high (le_z_yes tt)) f.0 f.1

    column-digits : (s c : ℤ) → judge_column_of z s₀ c₀ s c ≡ 0 → nat_abs c < 10 ^ 10
    column-digits s c e =
        let f = (judge_column-iff z s₀ c₀ s c).0 e in
        range-digits (pos 1) (pos z.m) c (le_z_yes tt) (≤ℤ-trans (pos-≤ℤ.1 b.few) (le_z_yes tt)) f.0 f.1

    Whole : Term → Type 0
    Whole e =
        (judge_block_of z s₀ e.block ≡ 0)
        × ((judge_column_of z s₀ c₀ e.block (pos e.column) ≡ 0)
        × ((between (pos 1) (pos coefficient_count) (pos (length e.polynomial)) ≡ 0)
        × (((length e.polynomial ≡ length e.polynomial) × Sound e.polynomial) × (e ≡ e))))

    count : (e : Term) → Whole e → (1 ≤ length e.polynomial) × (length e.polynomial ≤ coefficient_count)
    count e f =
        let g = (between-iff (pos 1) (pos coefficient_count) (pos (length e.polynomial))).0 f.1.1.0 in
        (pos-≤ℤ.0 g.0, pos-≤ℤ.0 g.1)

    good : (e : Term) → TermRight z s₀ c₀ e → Whole e
    good e r = (
      r.block-right,
      (
        r.column-right,
        ((between-iff _ _ (pos (length e.polynomial))).1 (pos-≤ℤ.1 r.some, pos-≤ℤ.1 r.few), ((refl, r.sound), refl)),
      ),
    )

    best : (e : Term) → Whole e → TermRight z s₀ c₀ e
    best e f = record { block-right = f.0; column-right = f.1.0; some = (count e f).0; few = (count e f).1; sound = f.1.1.1.0.1 }

    bytes : (e : Term) → Whole e → parted last (term_numbers e)
        ≡ spaced e.block ++ (spaced (pos e.column) ++ (spaced (pos (length e.polynomial)) ++ (parted last e.polynomial ++ [])))
    bytes e f =
        parted-space last e.block _ (suc-le-suc zero-le)
        ∙ ap (λ r. spaced e.block ++ r) (parted-space last (pos e.column) _ (suc-le-suc zero-le)
        ∙ ap (λ r. spaced (pos e.column) ++ r) (parted-space last (pos (length e.polynomial)) e.polynomial (count e f).0
        ∙ ap (λ r. spaced (pos (length e.polynomial)) ++ r) (sym (append-nil (parted last e.polynomial)))))

-- Terms in order, of which the first may stand after one of block s₀ and column c₀.
unfoldable pub Ordered : Sizes → ℤ → ℕ → List Term → Type 0
unfolding Chain
Ordered z s₀ c₀ = Chain {S = ℤ × ℕ} (λ s e. (e.block, e.column)) (λ e. e) (λ s _ e. TermRight z s.0 s.1 e) (s₀, c₀)

read_terms-none : (z : Sizes) (s₀ : ℤ) (c₀ : ℕ) (bytes : List ℕ) → read_terms z 0 s₀ c₀ bytes ≡ got [] bytes
unfolding read_terms
read_terms-none z s₀ c₀ bytes = refl

read_terms-some : (z : Sizes) (s₀ : ℤ) (c₀ k : ℕ) (bytes : List ℕ)
    → read_terms z (suc k) s₀ c₀ bytes
    ≡ then_read (read_term z s₀ c₀ (parting newline k) bytes) λ e rest.
    then_read (read_terms z k e.block e.column rest) λ l more. got (e ∷ l) more
unfolding read_terms
read_terms-some z s₀ c₀ k bytes = refl

-- The numbers of terms are none exactly if there are no terms.
pub parting-terms : (es : List Term) → parting newline (length es) ≡ parting newline (length (flatten (map term_numbers es)))
unfolding flatten parting term_numbers
parting-terms [] = refl
parting-terms (e ∷ es) = refl

chain_bytes-terms : (es : List Term)
    → chain_bytes (λ e. e) (λ k e. parted (parting newline k) (term_numbers e)) es ≡ parted newline (flatten (map term_numbers es))
unfolding chain_bytes flatten parted
chain_bytes-terms [] = refl
chain_bytes-terms (e ∷ es) =
    ap₂ (λ k r. parted k (term_numbers e) ++ r) (parting-terms es) (chain_bytes-terms es)
    ∙ sym (parted-append newline (term_numbers e) (flatten (map term_numbers es)))

pub terms-exact : (z : Sizes) (k : ℕ) (s₀ : ℤ) (c₀ : ℕ) → SizeBounds z
    → Exact (read_terms z k s₀ c₀) (λ es. (length es ≡ k) × Ordered z s₀ c₀ es) (λ es. parted newline (flatten (map term_numbers es)))
unfolding Ordered
terms-exact z k s₀ c₀ b =
    same-exact (read_terms z k s₀ c₀) (λ es. (length es ≡ k) × Ordered z s₀ c₀ es) (λ es. parted newline (flatten (map term_numbers es)))
    (chain-exact {S = ℤ × ℕ} (λ s k. read_term z s.0 s.1 (parting newline k)) (λ s k. read_terms z k s.0 s.1)
    (λ s e. (e.block, e.column)) (λ e. e) (λ e. e) (record { block = pos 0; column = 0; polynomial = [] })
    (λ s. read_terms-none z s.0 s.1) (λ s. read_terms-some z s.0 s.1)
    (λ s k. term-exact z s.0 s.1 (parting newline k) b (parting-separator newline k newline-separator)) (λ _ _ _ _. refl)
    (λ _. refl) k (s₀, c₀))
    (λ _. refl) (λ _ h. h) (λ _ h. h) (λ es _. sym (chain_bytes-terms es))
