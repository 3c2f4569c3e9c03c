-- The shift down by the mirror: mirrored, shifted up and mirrored back. The code has both already.
--
-- Main statements
--   same-polynomial      polynomials of one length with the same values are the same
--   mirror-shift         p(n - 1) is p(-n), with n + 1 for n, at -n
--   shift_down-mirrored   the row shifted down is its mirror shifted up, mirrored back
--   lowered-limit        and within the limit exactly if that is
use Rattle.std.specs.Prelude.{◌≡◌, refl, Bool, true, false, cond, T, length, ℤ, pos, negsuc, neg_ℤ, ◌+ℤ◌}
use Rattle.std.proofs.Common.{sym, ◌∙◌, ap, ap₂, subst, arith, ext_get_or}
use mathlib.Core.List.{List, [], ◌∷◌, map, get_last_d}
use Rattle.std.proofs.lemmas.List.{length-map}
use Rattle.std.proofs.Math.IntN.{neg_ℤ-neg_ℤ, neg_ℤ-+ℤ, +ℤ_invr, +ℤ_invl, +ℤ_assoc, +ℤ_idr, +ℤ_idl}
use Rattle.algebra.specs.Polynomials.{Polynomial, coeff, eval, is_zero_of, add, negate, shift, shift_by, mirror, eval_add, eval-negate}
use Rattle.algebra.specs.Polynomials.{eval-shift}
use Rattle.algebra.specs.Polynomials.{eval-shift_by, eval-mirror, eval-is_zero, length_shift, length-shift_by, length-mirror, is_zero-coeff}
use Rattle.algebra.specs.Polynomials.{is_zero-cons}
use Rattle.algebra.specs.Coefficients.{coeff-add, coeff-negate}
use Rattle.algebra.specs.Vanishing.{zero-everywhere}
use Rattle.rules.specs.Limits.{most_span, block_count}
use Rattle.rules.specs.Rows.{Block, Row, map_row, leading_block, blank, small_row, shift_up, mirror_row_of}
use Rattle.lists.specs.Tests.{same_test}
use Rattle.rules.specs.Elimination.{Limited, within, beyond, limit_coefficients}
use Rattle.theory.specs.Mirror.{Reaches, mirror-small, mirror_row-twice}
use Rattle.theory.specs.ShiftDown.{shift_down, last_block}

-- ---- one polynomial

difference-zero : (a b : ℤ) → a +ℤ neg_ℤ b ≡ pos 0 → a ≡ b
difference-zero a b e =
    sym (+ℤ_idr a) ∙ ap (λ x. a +ℤ x) (sym (+ℤ_invl b)) ∙ sym (+ℤ_assoc a (neg_ℤ b) b) ∙ ap (λ x. x +ℤ b) e ∙ +ℤ_idl b

pub same-polynomial : (p q : Polynomial) → length p ≡ length q → ((x : ℤ) → eval p x ≡ eval q x) → p ≡ q
unfolding coeff
same-polynomial p q size same =
    ext_get_or (pos 0) p q size (λ k _. difference-zero (coeff p k) (coeff q k)
    (ap (λ b. coeff p k +ℤ b) (sym (coeff-negate q k)) ∙ sym (coeff-add p (negate q) k) ∙ is_zero-coeff (add p (negate q)) zeros k))
  where
    nothing : (a b : ℤ) → a ≡ b → a +ℤ neg_ℤ b ≡ pos 0
    nothing a b e = ap (λ x. x +ℤ neg_ℤ b) e ∙ +ℤ_invr b

    zeros : T (is_zero_of (add p (negate q)))
    zeros = (zero-everywhere (add p (negate q))).1
        (λ x. eval_add p (negate q) x ∙ ap (λ b. eval p x +ℤ b) (eval-negate q x) ∙ nothing (eval p x) (eval q x) (same x))

pub mirror-shift : (p : Polynomial) → mirror (shift (mirror p)) ≡ shift_by (negsuc 0) p
mirror-shift p =
    same-polynomial (mirror (shift (mirror p))) (shift_by (negsuc 0) p)
    (length-mirror (shift (mirror p)) ∙ length_shift (mirror p) ∙ length-mirror p ∙ sym (length-shift_by (negsuc 0) p))
    (λ x. eval-mirror (shift (mirror p)) x ∙ eval-shift (mirror p) (neg_ℤ x) ∙ eval-mirror p (neg_ℤ x +ℤ pos 1)
    ∙ ap (eval p) (index x) ∙ sym (eval-shift_by (negsuc 0) p x))
  where
    index : (x : ℤ) → neg_ℤ (neg_ℤ x +ℤ pos 1) ≡ x +ℤ negsuc 0
    index x = neg_ℤ-+ℤ (neg_ℤ x) (pos 1) ∙ ap (λ y. y +ℤ negsuc 0) (neg_ℤ-neg_ℤ x)

-- ---- zeros

zeros-zero : (p : Polynomial) → T (is_zero_of (map (λ _. pos 0) p))
unfolding is_zero_of
zeros-zero [] = tt
zeros-zero (a ∷ p) = (is_zero-cons (pos 0) (map (λ _. pos 0) p)).1 (refl, zeros-zero p)

zeros-mirror : (p : Polynomial) → map (λ _. pos 0) (mirror p) ≡ mirror (map (λ _. pos 0) p)
zeros-mirror p =
    same-polynomial _ _
    (length-map (mirror p) (λ _. pos 0) ∙ length-mirror p
    ∙ sym (length-mirror (map (λ _. pos 0) p) ∙ length-map p (λ _. pos 0)))
    (λ x. eval-is_zero (map (λ _. pos 0) (mirror p)) x (zeros-zero (mirror p))
    ∙ sym (eval-mirror (map (λ _. pos 0) p) x ∙ eval-is_zero (map (λ _. pos 0) p) (neg_ℤ x) (zeros-zero p)))

-- ---- a block, and a row

block-shift : (b : Block) → map mirror (map shift (map mirror b)) ≡ map (shift_by (negsuc 0)) b
block-shift [] = refl
block-shift (p ∷ b) = ap₂ ◌∷◌ (mirror-shift p) (block-shift b)

blank-shift : (b : Block) → map mirror (map shift (blank (map mirror b))) ≡ map (shift_by (negsuc 0)) (blank b)
unfolding blank
blank-shift [] = refl
blank-shift (p ∷ b) = ap₂ ◌∷◌
    (ap (λ q. mirror (shift q)) (zeros-mirror p) ∙ mirror-shift (map (λ _. pos 0) p)) (blank-shift b)

pub shift_down-mirrored : (r : Row) → length r.blocks ≡ block_count → mirror_row_of most_span (shift_up (mirror_row_of most_span r)) ≡ shift_down r
unfolding mirror_row_of shift_up shift_down map_row leading_block last_block get_last_d
shift_down-mirrored r five = ap₂ (λ bs q. record { blocks = bs; right = q }) (go r.blocks five) (mirror-shift r.right)
  where
    go : (bs : List Block) → length bs ≡ 5
        → (mirror_row_of most_span (shift_up (mirror_row_of most_span (record { blocks = bs; right = [] })))).blocks
        ≡ (shift_down (record { blocks = bs; right = [] })).blocks
    go [] h = absurd (omega arith)
    go (a ∷ []) h = absurd (omega arith)
    go (a ∷ b ∷ []) h = absurd (omega arith)
    go (a ∷ b ∷ c ∷ []) h = absurd (omega arith)
    go (a ∷ b ∷ c ∷ d ∷ []) h = absurd (omega arith)
    go (a ∷ b ∷ c ∷ d ∷ e ∷ []) h =
        ap₂ ◌∷◌ (blank-shift e) (ap₂ ◌∷◌ (block-shift a) (ap₂ ◌∷◌ (block-shift b) (ap₂ ◌∷◌ (block-shift c) (ap (λ x. x ∷ [])
        (block-shift d)))))
    go (a ∷ b ∷ c ∷ d ∷ e ∷ f ∷ bs) h = absurd (omega arith)

-- ---- the limit

small-mirrored : (q : Row) → Reaches most_span q → small_row (mirror_row_of most_span q) ≡ small_row q
small-mirrored q h = same_test (small_row (mirror_row_of most_span q)) (small_row q)
    (λ t. subst (λ r. T (small_row r)) (mirror_row-twice most_span q h) (mirror-small most_span (mirror_row_of most_span q) t))
    (mirror-small most_span q)

unfoldable pub mirror_limited : Limited → Limited
unfolding mirror_row_of
mirror_limited (within r) = within (mirror_row_of most_span r)
mirror_limited (beyond n) = beyond n

pub lowered-limit : (r : Row) → length r.blocks ≡ block_count → Reaches most_span (shift_up (mirror_row_of most_span r))
    → mirror_limited (limit_coefficients (shift_up (mirror_row_of most_span r))) ≡ limit_coefficients (shift_down r)
unfolding limit_coefficients mirror_limited
lowered-limit r five reach =
    go (small_row up) ∙ ap (λ t. cond t (within (mirror_row_of most_span up)) (beyond 8)) (sym (small-mirrored up reach))
    ∙ ap (λ q. cond (small_row q) (within q) (beyond 8)) (shift_down-mirrored r five)
  where
    up : Row
    up = shift_up (mirror_row_of most_span r)

    go : (t : Bool) → mirror_limited (cond t (within up) (beyond 8)) ≡ cond t (within (mirror_row_of most_span up)) (beyond 8)
    go true = refl
    go false = refl
