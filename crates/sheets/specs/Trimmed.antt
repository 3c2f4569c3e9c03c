-- Polynomials without their high zeros, and with zeros up to a length.
--
-- Main statements
--   trim-some, Sound-trim                  a nonzero polynomial without its high zeros is as a term of a sheet has it
--   pad_to-trim, trim-pad_to                 high zeros taken off and put on again, and the other way round
--   pad_to-nonzero, small-pad_to             what a term gives the row is not zero, and small
use Rattle.std.specs.Prelude.{ℕ, zero, suc, ◌≤◌, ◌≡◌, refl, Bool, true, false, not, T, length, ℤ, pos}
use Rattle.std.proofs.Common.{zero-le, suc-le-suc, not-suc-le-zero, le_of_suc-le-suc, suc-ne-zero, sym, ◌∙◌, ap, ap₂, subst, T_not}
use Rattle.std.proofs.Math.Nat.{suc_inj}
use mathlib.Core.List.{[], ◌∷◌, nil≢cons}
use Rattle.std.proofs.Math.Dec.{not_T}
use Rattle.algebra.specs.Polynomials.{Polynomial, is_zero_of, is_zero_ℤ, is_zero-cons, is_zero_ℤ-not-iff}
use Rattle.rules.specs.Limits.{small}
use Rattle.lists.specs.Tests.{every, every-cons, cond-not}
use Rattle.lists.specs.Padded.{pad_to}
use Rattle.rules.specs.Sheets.{trim}
use Rattle.writing.specs.Writer.{trim-none}
use Rattle.sheets.specs.WrittenTerms.{Sound, coefficient_judge, judge_last-iff, judge_small-iff}

trim-nonzero : (a : ℤ) (p : Polynomial) → T (not (is_zero_of (a ∷ p))) → trim (a ∷ p) ≡ a ∷ trim p
unfolding trim
trim-nonzero a p h = cond-not (is_zero_of (a ∷ p)) _ _ h

-- A polynomial is zero or not.
pub zero_or_not : {C : Type 0} (p : Polynomial) → (T (is_zero_of p) → C) → (T (not (is_zero_of p)) → C) → C
zero_or_not {C} p = go (is_zero_of p)
  where
    go : (t : Bool) → (T t → C) → (T (not t) → C) → C
    go true f g = f tt
    go false f g = g tt

trim-cons : (P : Polynomial → Type 0) (a : ℤ) (p : Polynomial) → (T (is_zero_of (a ∷ p)) → P [])
    → (T (not (is_zero_of (a ∷ p))) → P (a ∷ trim p)) → P (trim (a ∷ p))
trim-cons P a p f g =
    zero_or_not (a ∷ p) (λ h. subst P (sym (trim-none (a ∷ p) h)) (f h)) (λ h. subst P (sym (trim-nonzero a p h)) (g h))

pub trim-some : (p : Polynomial) → T (not (is_zero_of p)) → 1 ≤ length (trim p)
unfolding is_zero_of
trim-some [] h = absurd h
trim-some (a ∷ p) h = rw (trim-nonzero a p h) (suc-le-suc zero-le)

-- The last coefficient that is kept is not zero.
trim-judged : (a : ℤ) (p : Polynomial) → T (small a) → T (not (is_zero_of (a ∷ p))) → coefficient_judge (length (trim p)) a ≡ 0
unfolding coefficient_judge
trim-judged a p h n = zero_or_not p last (λ i. before (length (trim p)) (trim-some p i))
  where
    last : T (is_zero_of p) → coefficient_judge (length (trim p)) a ≡ 0
    last z =
        ap (λ q. coefficient_judge (length q) a) (trim-none p z)
        ∙ (judge_last-iff a).1 (h, (is_zero_ℤ-not-iff a).1 (λ e. T_not (is_zero_of (a ∷ p)) n ((is_zero-cons a p).1 (e, z))))

    before : (k : ℕ) → 1 ≤ k → coefficient_judge k a ≡ 0
    before zero i = absurd (not-suc-le-zero i)
    before (suc k) i = (judge_small-iff a).1 h

pub Sound-trim : (p : Polynomial) → T (every small p) → Sound (trim p)
unfolding trim Sound
Sound-trim [] h = tt
Sound-trim (a ∷ p) h =
    let e = (every-cons small a p).0 h in
    trim-cons Sound a p (λ _. tt) (λ n. (trim-judged a p e.0 n, Sound-trim p e.1))

pub pad_to-trim : (n : ℕ) (p : Polynomial) → length p ≡ n → pad_to n (pos 0) (trim p) ≡ p
unfolding pad_to trim
pad_to-trim zero [] h = refl
pad_to-trim (suc n) [] h = absurd (suc-ne-zero n (sym h))
pad_to-trim zero (a ∷ p) h = absurd (suc-ne-zero (length p) h)
pad_to-trim (suc n) (a ∷ p) h = go (pad_to-trim n p (suc_inj h))
  where
    go : pad_to n (pos 0) (trim p) ≡ p → pad_to (suc n) (pos 0) (trim (a ∷ p)) ≡ a ∷ p
    go e =
        trim-cons (λ q. pad_to (suc n) (pos 0) q ≡ a ∷ p) a p
        (λ z. let f = (is_zero-cons a p).0 z in ap₂ (λ x l. x ∷ l) (sym f.0) (ap (pad_to n (pos 0)) (sym (trim-none p f.1)) ∙ e))
        (λ _. ap (λ l. a ∷ l) e)

is_zero-pad_to : (n : ℕ) → T (is_zero_of (pad_to n (pos 0) []))
unfolding pad_to is_zero_of is_zero_ℤ
is_zero-pad_to zero = tt
is_zero-pad_to (suc n) = is_zero-pad_to n

-- What stands in front of zeros is all that is kept, if its last coefficient is not zero.
keeps-first : (a : ℤ) (p q : Polynomial) → coefficient_judge (length p) a ≡ 0 → trim q ≡ p → trim (a ∷ q) ≡ a ∷ p
unfolding coefficient_judge
keeps-first a [] q j e =
    trim-nonzero a q (not_T (is_zero_of (a ∷ q)) (λ z. (is_zero_ℤ-not-iff a).0 ((judge_last-iff a).0 j).1 ((is_zero-cons a q).0 z).0))
    ∙ ap (λ l. a ∷ l) e
keeps-first a (b ∷ p) q j e =
    trim-nonzero a q (not_T (is_zero_of (a ∷ q)) (λ z. nil≢cons (sym (trim-none q ((is_zero-cons a q).0 z).1) ∙ e))) ∙ ap (λ l. a ∷ l) e

pub trim-pad_to : (n : ℕ) (p : Polynomial) → Sound p → length p ≤ n → trim (pad_to n (pos 0) p) ≡ p
unfolding pad_to Sound
trim-pad_to n [] h i = trim-none (pad_to n (pos 0) []) (is_zero-pad_to n)
trim-pad_to zero (a ∷ p) h i = absurd (not-suc-le-zero i)
trim-pad_to (suc n) (a ∷ p) h i = keeps-first a p (pad_to n (pos 0) p) h.0 (trim-pad_to n p h.1 (le_of_suc-le-suc i))

pub pad_to-nonzero : (n : ℕ) (p : Polynomial) → Sound p → 1 ≤ length p → length p ≤ n → T (not (is_zero_of (pad_to n (pos 0) p)))
pad_to-nonzero n [] h i j = absurd (not-suc-le-zero i)
pad_to-nonzero n (a ∷ p) h i j =
    not_T (is_zero_of (pad_to n (pos 0) (a ∷ p))) (λ z. nil≢cons (sym (trim-none (pad_to n (pos 0) (a ∷ p)) z) ∙ trim-pad_to n (a ∷ p) h j))

small-zero : T (small (pos 0))
unfolding small
small-zero = tt

Sound-small : (k : ℕ) (a : ℤ) → coefficient_judge k a ≡ 0 → T (small a)
unfolding coefficient_judge
Sound-small zero a h = ((judge_last-iff a).0 h).0
Sound-small (suc k) a h = (judge_small-iff a).0 h

pub small-pad_to : (n : ℕ) (p : Polynomial) → Sound p → T (every small (pad_to n (pos 0) p))
unfolding pad_to every Sound
small-pad_to zero p h = tt
small-pad_to (suc n) [] h = (every-cons small (pos 0) (pad_to n (pos 0) [])).1 (small-zero, small-pad_to n [] tt)
small-pad_to (suc n) (a ∷ p) h = (every-cons small a (pad_to n (pos 0) p)).1 (Sound-small (length p) a h.0, small-pad_to n p h.1)
