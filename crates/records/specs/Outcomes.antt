-- What an answer says of the tests, whatever they test.
--
-- Main definitions
--   SumZero t           the sum of a test is formed and zero
--   First P ts          a test with a property, where all sums before it are zero
--
-- Main statements
--   fits-sums, sums-fit     "fits" comes exactly if every sum is zero, with the number of tests
--   first-has, first-as     what holds of that test
--   fails-first, first-fails   a failure is the first nonzero sum, with its place; and the other way round
--   refused-first, first-refused   12 comes exactly if, before any nonzero sum, one is not formed
use Rattle.std.specs.Prelude.{ℕ, suc, ◌+◌, ◌≡◌, refl, ◌≢◌, Bool, true, false, List, [], ◌∷◌, ◌++◌, T, length, ℤ, pos}
use Rattle.std.proofs.Common.{add-zero, arith, sym, ◌∙◌, ap, ap₂, subst}
use Rattle.std.proofs.Math.Option.{Option, none, some}
use Rattle.algebra.specs.Polynomials.{is_zero_ℤ, is_zero_ℤ-iff}
use Rattle.lists.specs.Everywhere.{All, all_back}
use Rattle.lists.specs.Tests.{true-T}
use Rattle.records.specs.Records.{Which, Tested, fits, fails, refused, limit_passed, answer_to}
use Rattle.records.specs.RecordAnswers.{go_on, answer-append, answer-past, answer-zero, answer-fails}

unfoldable pub SumZero : Tested → Type 0
SumZero t = t.sum ≡ some (pos 0)

-- The first test with a property, after sums that are all zero.
pub record First (P : Tested → Type 0) (ts : List Tested) : Type 0 where
  pub earlier : List Tested
  pub test : Tested
  pub later : List Tested
  pub parts : ts ≡ earlier ++ (test ∷ later)
  pub zeros : All SumZero earlier
  pub holds : P test

-- A test that fails so.
unfoldable pub FailsWith : Which → ℤ → ℤ → Tested → Type 0
FailsWith w n s t = (t.which ≡ w) × (t.index ≡ n) × (t.sum ≡ some s) × (s ≢ pos 0)

unfoldable pub Unformed : Tested → Type 0
Unformed t = t.sum ≡ none

-- The answer by the first test.
data Opening (k : ℕ) (t : Tested) (ts : List Tested) : Type 0 where
  zero-sum : SumZero t → answer_to k (t ∷ ts) ≡ answer_to (k + 1) ts → Opening k t ts
  other-sum : (s : ℤ) → t.sum ≡ some s → s ≢ pos 0 → answer_to k (t ∷ ts) ≡ fails t.which t.index s → Opening k t ts
  no-sum : Unformed t → answer_to k (t ∷ ts) ≡ refused limit_passed → Opening k t ts

opening : (k : ℕ) (t : Tested) (ts : List Tested) → Opening k t ts
unfolding SumZero Unformed
opening k t ts = go t.sum refl
  where
    by-test : (s : ℤ) (b : Bool) → is_zero_ℤ s ≡ b → t.sum ≡ some s → Opening k t ts
    by-test s true e f =
        let z : t.sum ≡ some (pos 0) = f ∙ ap some ((is_zero_ℤ-iff s).0 (true-T (is_zero_ℤ s) e)) in zero-sum z (answer-zero k t ts z)
    by-test s false e f = let d : s ≢ pos 0 = λ z. subst T e ((is_zero_ℤ-iff s).1 z) in other-sum s f d (answer-fails k t ts s f d)

    go : (o : Option ℤ) → t.sum ≡ o → Opening k t ts
    go none e = no-sum e (answer-past k t ts e)
    go (some s) e = by-test s (is_zero_ℤ s) refl e

fits-fails : {j : ℕ} {w : Which} {n s : ℤ} → fails w n s ≡ fits j → ⊥
fits-fails e = let z : ◌≡◌ {A = ℕ} 0 1 = cc in omega arith

fits_refused : {j k : ℕ} → refused k ≡ fits j → ⊥
fits_refused e = let z : ◌≡◌ {A = ℕ} 0 1 = cc in omega arith

fails-refused : {k : ℕ} {w : Which} {n s : ℤ} → refused k ≡ fails w n s → ⊥
fails-refused e = let z : ◌≡◌ {A = ℕ} 0 1 = cc in omega arith

-- ---- "fits"

pub fits-sums : (k j : ℕ) (ts : List Tested) → answer_to k ts ≡ fits j → All SumZero ts
unfolding All
fits-sums k j [] e = tt
fits-sums k j (t ∷ ts) e = go (opening k t ts) (fits-sums (k + 1) j ts)
  where
    go : Opening k t ts → (answer_to (k + 1) ts ≡ fits j → All SumZero ts) → SumZero t × All SumZero ts
    go (zero-sum h f) later = (h, later (sym f ∙ e))
    go (other-sum s h d f) later = absurd (fits-fails (sym f ∙ e))
    go (no-sum h f) later = absurd (fits_refused (sym f ∙ e))

pub sums-fit : (k : ℕ) (ts : List Tested) → All SumZero ts → answer_to k ts ≡ fits (k + length ts)
unfolding All answer_to SumZero
sums-fit k [] a = ap fits (sym (add-zero k))
sums-fit k (t ∷ ts) a =
    let more : k + 1 + length ts ≡ k + suc (length ts) = omega arith in
    answer-zero k t ts a.0 ∙ sums-fit (k + 1) ts a.1 ∙ ap fits more

-- Tests whose sums are zero leave the answer to the others.
after-zeros : (k : ℕ) (ts us : List Tested) → All SumZero ts → answer_to k (ts ++ us) ≡ answer_to (k + length ts) us
unfolding go_on
after-zeros k ts us a = answer-append k ts us ∙ ap (go_on us) (sums-fit k ts a)

-- ---- the first that fails, or that is not formed

earlier-too : {P : Tested → Type 0} {t : Tested} {ts : List Tested} → SumZero t → First P ts → First P (t ∷ ts)
unfolding All
earlier-too {P} {t} h f =
    record {
      earlier =
          t ∷ f.earlier;
      test = f.test;
      later = f.later;
      parts = ap (λ l. t ∷ l) f.parts;
      zeros = (h, f.zeros);
      holds = f.holds;
    }

first_of : {P : Tested → Type 0} (t : Tested) (ts : List Tested) → P t → First P (t ∷ ts)
unfolding All
first_of t ts h = record { earlier = []; test = t; later = ts; parts = refl; zeros = tt; holds = h }

-- What holds of all tests holds of that one.
pub first-has : (P Q : Tested → Type 0) (ts : List Tested) (f : First P ts) → All Q ts → Q f.test
unfolding All
first-has P Q ts f a = (all_back Q f.earlier (f.test ∷ f.later) (subst (All Q) f.parts a)).0

-- And one property may stand for the other.
pub first-as : (P Q : Tested → Type 0) (ts : List Tested) → All (λ t. P t → Q t) ts → First P ts → First Q ts
first-as P Q ts a f =
    record {
      earlier = f.earlier;
      test = f.test;
      later = f.later;
      parts = f.parts;
      zeros = f.zeros;
      holds = first-has P (λ t. P t → Q t) ts f a f.holds;
    }

pub fails-first : (k : ℕ) (w : Which) (n s : ℤ) (ts : List Tested) → answer_to k ts ≡ fails w n s → First (FailsWith w n s) ts
unfolding answer_to FailsWith
fails-first k w n s [] e = absurd (fits-fails (sym e))
fails-first k w n s (t ∷ ts) e = go (opening k t ts) (fails-first (k + 1) w n s ts)
  where
    go : Opening k t ts → (answer_to (k + 1) ts ≡ fails w n s → First (FailsWith w n s) ts) → First (FailsWith w n s) (t ∷ ts)
    go (zero-sum h f) later = earlier-too h (later (sym f ∙ e))
    go (other-sum q h d f) later =
        let same : fails t.which t.index q ≡ fails w n s = sym f ∙ e in
        let sums : q ≡ s = cc in
        first_of t ts (cc, cc, h ∙ ap some sums, λ z. d (sums ∙ z))
    go (no-sum h f) later = absurd (fails-refused (sym f ∙ e))

pub first-fails : (k : ℕ) (w : Which) (n s : ℤ) (ts : List Tested) → First (FailsWith w n s) ts → answer_to k ts ≡ fails w n s
unfolding FailsWith
first-fails k w n s ts f =
    ap (answer_to k) f.parts ∙ after-zeros k f.earlier (f.test ∷ f.later) f.zeros
    ∙ answer-fails (k + length f.earlier) f.test f.later s f.holds.2 f.holds.3
    ∙ ap₂ (λ a b. fails a b s) f.holds.0 f.holds.1

pub refused-first : (k c : ℕ) (ts : List Tested) → answer_to k ts ≡ refused c → (c ≡ limit_passed) × First Unformed ts
unfolding answer_to
refused-first k c [] e = absurd (fits_refused (sym e))
refused-first k c (t ∷ ts) e = go (opening k t ts) (refused-first (k + 1) c ts)
  where
    go : Opening k t ts → (answer_to (k + 1) ts ≡ refused c → (c ≡ limit_passed) × First Unformed ts)
        → (c ≡ limit_passed) × First Unformed (t ∷ ts)
    go (zero-sum h f) later = let w = later (sym f ∙ e) in (w.0, earlier-too h w.1)
    go (other-sum q h d f) later = absurd (fails-refused (sym (sym f ∙ e)))
    go (no-sum h f) later = let same : refused limit_passed ≡ refused c = sym f ∙ e in (cc, first_of t ts h)

pub first-refused : (k : ℕ) (ts : List Tested) → First Unformed ts → answer_to k ts ≡ refused limit_passed
unfolding Unformed
first-refused k ts f =
    ap (answer_to k) f.parts ∙ after-zeros k f.earlier (f.test ∷ f.later) f.zeros
    ∙ answer-past (k + length f.earlier) f.test f.later f.holds
