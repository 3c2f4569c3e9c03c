-- The sum of the products of two vectors of n numbers, and what a row says of a vector.
--
-- Main definitions
--   pair n f v       f 0 × v 0 + .. + f (n - 1) × v (n - 1)
--   Kills n v r      the row r makes the sum 0 with the vector v
-- Main statements
--   pair-combined    the pairing of a combination; pair-right: the same on the other side
--   pair-only        the pairing where all products but one are zero
use Rattle.std.specs.Prelude.{ℕ, ◌<◌, ◌≡◌, ◌≢◌, List, ℤ, pos, ◌+ℤ◌, ◌*ℤ◌}
use Rattle.std.proofs.Common.{◌∙◌, ap₂}
use Rattle.algebra.specs.Integers.{ringℤ}
use Rattle.algebra.specs.Sums.{sum_below, sum_below-congr, sum_below-+ℤ, sum_below-*ℤ, sum_below-single}
use Rattle.echelon.specs.Eliminated.{at}

unfoldable pub pair : ℕ → (ℕ → ℤ) → (ℕ → ℤ) → ℤ
unfolding sum_below
pair n f v = sum_below n (λ j. f j *ℤ v j)

unfoldable pub Kills : ℕ → (ℕ → ℤ) → List ℤ → Type 0
Kills n v r = pair n (at r) v ≡ pos 0

pub pair-congr : (n : ℕ) (f e v w : ℕ → ℤ) → ((j : ℕ) → j < n → f j ≡ e j) → ((j : ℕ) → j < n → v j ≡ w j) → pair n f v ≡ pair n e w
unfolding pair
pair-congr n f e v w h k = sum_below-congr n (λ j. f j *ℤ v j) (λ j. e j *ℤ w j) (λ j p. ap₂ ◌*ℤ◌ (h j p) (k j p))

pub pair-combined : (n : ℕ) (g h : ℤ) (f e v : ℕ → ℤ) → pair n (λ j. g *ℤ f j +ℤ h *ℤ e j) v ≡ g *ℤ pair n f v +ℤ h *ℤ pair n e v
unfolding pair
pair-combined n g h f e v =
    sum_below-congr n (λ j. (g *ℤ f j +ℤ h *ℤ e j) *ℤ v j) (λ j. g *ℤ (f j *ℤ v j) +ℤ h *ℤ (e j *ℤ v j)) (λ j p. step (f j) (e j) (v j))
    ∙ sum_below-+ℤ n (λ j. g *ℤ (f j *ℤ v j)) (λ j. h *ℤ (e j *ℤ v j))
    ∙ ap₂ ◌+ℤ◌ (sum_below-*ℤ n g (λ j. f j *ℤ v j)) (sum_below-*ℤ n h (λ j. e j *ℤ v j))
  where
    step : (a b x : ℤ) → (g *ℤ a +ℤ h *ℤ b) *ℤ x ≡ g *ℤ (a *ℤ x) +ℤ h *ℤ (b *ℤ x)
    step a b x = simp ringℤ

pub pair-right : (n : ℕ) (g h : ℤ) (f v w : ℕ → ℤ) → pair n f (λ j. g *ℤ v j +ℤ h *ℤ w j) ≡ g *ℤ pair n f v +ℤ h *ℤ pair n f w
unfolding pair
pair-right n g h f v w =
    sum_below-congr n (λ j. f j *ℤ (g *ℤ v j +ℤ h *ℤ w j)) (λ j. g *ℤ (f j *ℤ v j) +ℤ h *ℤ (f j *ℤ w j)) (λ j p. step (f j) (v j) (w j))
    ∙ sum_below-+ℤ n (λ j. g *ℤ (f j *ℤ v j)) (λ j. h *ℤ (f j *ℤ w j))
    ∙ ap₂ ◌+ℤ◌ (sum_below-*ℤ n g (λ j. f j *ℤ v j)) (sum_below-*ℤ n h (λ j. f j *ℤ w j))
  where
    step : (a x y : ℤ) → a *ℤ (g *ℤ x +ℤ h *ℤ y) ≡ g *ℤ (a *ℤ x) +ℤ h *ℤ (a *ℤ y)
    step a x y = simp ringℤ

pub pair-scaled : (n : ℕ) (g : ℤ) (f v : ℕ → ℤ) → pair n (λ j. g *ℤ f j) v ≡ g *ℤ pair n f v
unfolding pair
pair-scaled n g f v =
    sum_below-congr n (λ j. g *ℤ f j *ℤ v j) (λ j. g *ℤ (f j *ℤ v j)) (λ j p. step (f j) (v j)) ∙ sum_below-*ℤ n g (λ j. f j *ℤ v j)
  where
    step : (a x : ℤ) → g *ℤ a *ℤ x ≡ g *ℤ (a *ℤ x)
    step a x = simp ringℤ

pub pair-only : (n c : ℕ) (f v : ℕ → ℤ) → c < n → ((j : ℕ) → j < n → j ≢ c → f j *ℤ v j ≡ pos 0) → pair n f v ≡ f c *ℤ v c
unfolding pair
pair-only n c f v h z = sum_below-single n c (λ j. f j *ℤ v j) h z
