-- The right sides of a sheet's fifth section, written and read (SCOPE 4.16, 4.25).
--
-- Main definitions
--   SideGood needed p        a side that a line of the section can give; not zero where it is needed
--   Sides others none ps     sides with others to come, all before them being zero if `none` says so
--
-- Main statements
--   side-exact, sides-exact  exactly the lines of such sides are read, as those sides
--   sides-iff                what the sides of a section have in all
use Rattle.std.specs.Prelude.{ℕ, suc, ◌+◌, ◌≤◌, ◌<◌, ◌^◌, ◌≡◌, refl, ◌↔◌, Bool, true, false, not, ◌&&◌, cond, T, eqb, length, ℤ, pos, nat_abs, ◌≤ℤ◌}
use Rattle.std.proofs.Common.{arith, suc-ne-zero, le_trans, le_of_eq, sym, ◌∙◌, ap, subst, T_not, eqb→eq}
use mathlib.Core.List.{List, [], ◌∷◌, ◌++◌, map, flatten, append-nil}
use Rattle.std.proofs.Math.Dec.{not_T}
use Rattle.std.specs.Int.Signed.{le_z_yes, le_z}
use Rattle.algebra.specs.Order.{pos-≤ℤ, pos-nonneg, pos-nat_abs-nonneg}
use Rattle.algebra.specs.Polynomials.{Polynomial, is_zero_of, is_zero_ℤ, is_zero_ℤ-not-iff}
use Rattle.lists.specs.Tests.{T-&&, every}
use Rattle.lists.specs.Everywhere.{All}
use Rattle.lists.specs.Padded.{pad_to, length-pad_to}
use Rattle.rules.specs.Limits.{coefficient_count, small}
use Rattle.rules.specs.Numbers.{newline, line, got, then_read}
use Rattle.rules.specs.Sheets.{after_count_of, trim, judge_side_of, read_side, read_sides, side_line}
use Rattle.tokens.specs.Exact.{Exact, field-exact, then-exact, same-exact, nothing-exact, Chain, chain_bytes, chain-exact}
use Rattle.writing.specs.Writer.{trim-none, trim-le}
use Rattle.sheets.specs.WrittenTerms.{range-digits, parted, line-parted, newline-separator, Sound, coefficients-exact}
use Rattle.sheets.specs.Trimmed.{trim-some, Sound-trim, pad_to-trim, trim-pad_to, small-pad_to}
use Rattle.sheets.specs.RowBlocks.{StorePolynomial}
use Rattle.sheets.specs.WrittenSections.{after_count-separator, counted, count-parted}

-- ---- one side

abbrev pub SideGood : Bool → Polynomial → Type 0
SideGood needed p = StorePolynomial p × (T needed → T (not (is_zero_of p)))

judge_side-iff : (needed : Bool) (v : ℤ)
    → (judge_side_of needed v ≡ 0) ↔ ((pos 0 ≤ℤ v) × (v ≤ℤ pos coefficient_count) × (T needed → T (not (is_zero_ℤ v))))
unfolding judge_side_of
judge_side-iff needed v = go (le_z (pos 0) v) (le_z v (pos coefficient_count)) needed (is_zero_ℤ v) le_z_yes le_z_yes (λ h. h.le) (λ h. h.le)
  where
    go : (a b n q : Bool) → (T a → pos 0 ≤ℤ v) → (T b → v ≤ℤ pos coefficient_count) → (pos 0 ≤ℤ v → T a)
        → (v ≤ℤ pos coefficient_count → T b)
        → (◌≡◌ {A = ℕ} (cond (a && b) (cond (n && q) 3 0) 2) 0) ↔ ((pos 0 ≤ℤ v) × (v ≤ℤ pos coefficient_count) × (T n → T (not q)))
    go true true true true f g f' g' = (λ e. absurd (suc-ne-zero 2 e), λ h. absurd (h.2 tt))
    go true true true false f g f' g' = (λ e. (f tt, g tt, λ _. tt), λ h. refl)
    go true true false q f g f' g' = (λ e. (f tt, g tt, λ n. absurd n), λ h. refl)
    go true false n q f g f' g' = (λ e. absurd (suc-ne-zero 1 e), λ h. absurd (g' h.1))
    go false b n q f g f' g' = (λ e. absurd (suc-ne-zero 1 e), λ h. absurd (f' h.0))

pub side-exact : (needed : Bool) → Exact (read_side needed) (SideGood needed) (λ p. line (side_line p))
unfolding read_side side_line
side-exact needed =
    same-exact (read_side needed) (SideGood needed) (λ p. line (side_line p))
    (then-exact (λ p. pos (length (trim p)))
    (field-exact (judge_side_of needed) after_count_of digits after_count-separator)
    (λ k p hk e. sym (absolute k ((judge_side-iff needed k).0 hk).0) ∙ ap pos (sym e.0.0)) λ k hk.
    then-exact trim (coefficients-exact newline (nat_abs k) newline-separator)
    (λ q p hq e. sym (trim-pad_to coefficient_count q hq.1 (few k hk q hq.0)) ∙ ap trim (sym e)) λ q hq.
    nothing-exact (pad_to coefficient_count (pos 0) q))
    (λ _. refl) good best bytes
  where
    digits : (a : ℤ) → judge_side_of needed a ≡ 0 → nat_abs a < 10 ^ 10
    digits a h =
        let f = (judge_side-iff needed a).0 h in
        range-digits (pos 0) (pos coefficient_count) a (le_z_yes tt) (le_z_yes tt) f.0 f.1

    absolute : (k : ℤ) → pos 0 ≤ℤ k → pos (nat_abs k) ≡ k
    absolute k h = pos-nat_abs-nonneg h

    few : (k : ℤ) → judge_side_of needed k ≡ 0 → (q : Polynomial) → length q ≡ nat_abs k → length q ≤ coefficient_count
    few k hk q e =
        let f = (judge_side-iff needed k).0 hk in
        subst (λ n. n ≤ coefficient_count) (sym e) (pos-≤ℤ.0 (subst (λ v. v ≤ℤ pos coefficient_count) (sym (absolute k f.0)) f.1))

    Whole : Polynomial → Type 0
    Whole p =
        (judge_side_of needed (pos (length (trim p))) ≡ 0)
        × (((length (trim p) ≡ length (trim p)) × Sound (trim p)) × (p ≡ pad_to coefficient_count (pos 0) (trim p)))

    good : (p : Polynomial) → SideGood needed p → Whole p
    good p h = (
      (judge_side-iff needed (pos (length (trim p)))).1 (
        pos-nonneg (length (trim p)),
        pos-≤ℤ.1 (le_trans (trim-le p) (le_of_eq h.0.0)),
        λ n. (is_zero_ℤ-not-iff (pos (length (trim p)))).1 (λ e. some (trim-some p (h.1 n)) (ap nat_abs e)),
      ),
      ((refl, Sound-trim p h.0.1), sym (pad_to-trim coefficient_count p h.0.0)),
    )
      where
        some : 1 ≤ length (trim p) → length (trim p) ≡ 0 → ⊥
        some a e = omega arith

    best : (p : Polynomial) → Whole p → SideGood needed p
    best p h = (
      (
        ap length h.1.1 ∙ length-pad_to coefficient_count (pos 0) (trim p),
        subst (λ q. T (every small q)) (sym h.1.1) (small-pad_to coefficient_count (trim p) h.1.0.1),
      ),
      λ n. not_T (is_zero_of p) (λ z. T_not (is_zero_ℤ (pos (length (trim p)))) (((judge_side-iff needed (pos (length (trim p)))).0 h.0).2 n) (none z)),
    )
      where
        none : T (is_zero_of p) → T (is_zero_ℤ (pos (length (trim p))))
        none z = rw (trim-none p z) tt

    bytes : (p : Polynomial) → Whole p → line (pos (length (trim p)) ∷ trim p) ≡ counted (length (trim p)) ++ (parted newline (trim p) ++ [])
    bytes p h =
        line-parted (pos (length (trim p))) (trim p) ∙ count-parted (trim p) (length (trim p)) refl
        ∙ ap (λ l. counted (length (trim p)) ++ l) (sym (append-nil (parted newline (trim p))))

-- ---- a section of sides

abbrev Next : Bool → Polynomial → Bool
Next none p = none && is_zero_of p

abbrev pub Sides : ℕ → Bool → List Polynomial → Type 0
Sides others none ps = Chain Next (λ p. p) (λ n j p. SideGood (n && eqb (j + others) 0) p) none ps

sides-none : (others : ℕ) (none : Bool) (bytes : List ℕ) → read_sides 0 others none bytes ≡ got [] bytes
unfolding read_sides
sides-none others none bytes = refl

sides-some : (others : ℕ) (none : Bool) (k : ℕ) (bytes : List ℕ) → read_sides (suc k) others none bytes
    ≡ then_read (read_side (none && eqb (k + others) 0) bytes) λ p rest.
    then_read (read_sides k others (none && is_zero_of p) rest) λ ps more. got (p ∷ ps) more
unfolding read_sides
sides-some others none k bytes = refl

pub sides-exact : (others k : ℕ) (none : Bool) → Exact (read_sides k others none) (λ ps. (length ps ≡ k) × Sides others none ps)
    (λ ps. flatten (map (λ p. line (side_line p)) ps))
unfolding flatten chain_bytes
sides-exact others k none =
    same-exact (read_sides k others none) (λ ps. (length ps ≡ k) × Sides others none ps) (λ ps. flatten (map (λ p. line (side_line p)) ps))
    (chain-exact (λ n j. read_side (n && eqb (j + others) 0)) (λ n k. read_sides k others n) Next (λ p. p) (λ p. p) []
    (sides-none others) (sides-some others) (λ n j. side-exact (n && eqb (j + others) 0)) (λ _ _ _ _. refl) (λ _. refl) k none)
    (λ _. refl) (λ _ h. h) (λ _ h. h) (λ ps _. flat ps)
  where
    flat : (ps : List Polynomial) → flatten (map (λ p. line (side_line p)) ps) ≡ chain_bytes (λ p. p) (λ _ p. line (side_line p)) ps
    flat [] = refl
    flat (p ∷ ps) = ap (λ l. line (side_line p) ++ l) (flat ps)

-- What the sides have in all: where none follow and all before are zero, one of them is not.
pub sides-iff : (others : ℕ) (none : Bool) (ps : List Polynomial)
    → Sides others none ps ↔ (All StorePolynomial ps × (T none → others ≡ 0 → 0 < length ps → T (not (every is_zero_of ps))))
unfolding Chain All every
sides-iff others none [] = (λ h. (tt, λ n e some. absurd (omega arith)), λ h. tt)
sides-iff others none (p ∷ ps) = (
  λ h. let (a, f) = (sides-iff others (none && is_zero_of p) ps).0 h.1 in
      ((h.0.0, a), λ n e some. forth (is_zero_of p) refl n e h.0.1 f),
  λ h. (
    (h.0.0, λ n. back n h.1),
    (sides-iff others (none && is_zero_of p) ps).1 (
      h.0.1,
      λ n e some.
          let both = (T-&& none (is_zero_of p)).0 n in
          not_T (every is_zero_of ps) (λ q. T_not (is_zero_of p && every is_zero_of ps) (h.1 both.0 e (omega arith)) ((T-&& (is_zero_of p) (every is_zero_of ps)).1 (both.1, q))),
    ),
  ),
)
  where
    forth : (z : Bool) → is_zero_of p ≡ z → T none → others ≡ 0 → (T (none && eqb (length ps + others) 0) → T (not (is_zero_of p)))
        → (T (none && is_zero_of p) → others ≡ 0 → 0 < length ps → T (not (every is_zero_of ps))) → T (not (is_zero_of p && every is_zero_of ps))
    forth false z n e last rest = rw z tt
    forth true z n e last rest = rw z (later ps refl)
      where
        later : (qs : List Polynomial) → ps ≡ qs → T (not (every is_zero_of ps))
        later [] f =
            absurd (T_not (is_zero_of p) (last ((T-&& none _).1 (n, rw (f, e) tt))) (rw z tt))
        later (q ∷ qs) f = rest ((T-&& none (is_zero_of p)).1 (n, rw z tt)) e (subst (λ l. 0 < length l) (sym f) (omega arith))

    back : T (none && eqb (length ps + others) 0)
        → (T none → others ≡ 0 → 0 < suc (length ps) → T (not (is_zero_of p && every is_zero_of ps))) → T (not (is_zero_of p))
    back n f =
        let both = (T-&& none (eqb (length ps + others) 0)).0 n in
        let sum = eqb→eq (length ps + others) 0 both.1 in
        not_T (is_zero_of p) (λ z. T_not (is_zero_of p && every is_zero_of ps) (f both.0 (omega arith) (omega arith))
        ((T-&& (is_zero_of p) (every is_zero_of ps)).1 (z, empty ps (omega arith))))
      where
        empty : (qs : List Polynomial) → length qs ≡ 0 → T (every is_zero_of qs)
        empty [] e = tt
        empty (q ∷ qs) e = absurd (suc-ne-zero (length qs) e)
