-- The content of a combination of two rows that a store holds.
--
-- Main definitions
--   content_in o           the content that an answer has, 0 where it is none
--   ContentOf r d          d is the content of r where no degree is past 15, and it is in the range of an i64
--
-- Main statement
--   content-undivided      the content of the combination before its division
use Rattle.std.specs.Prelude.{ℕ, ◌^◌, ◌<◌, ◌≡◌, refl, true, cond, List, ℤ, Option}
use Rattle.std.proofs.Common.{Some, None, arith, sym, ◌∙◌, ap}
use Rattle.lists.specs.Tests.{true-T}
use Rattle.algebra.specs.Gcd.{content}
use Rattle.algebra.specs.Polynomials.{Polynomial}
use Rattle.rules.specs.Rows.{Row, coefficients_of, low_degrees, width}
use Rattle.rules.specs.Stores.{row_of}
use Rattle.stores.specs.Flat.{part_count}
use Rattle.working_rows.specs.Working.{numbers_held, loaded}
use Rattle.combinations.specs.declared.Combination.{Combination}
use Rattle.combinations.specs.Combination.{low_numbers, cut_low}
use Rattle.combinations.specs.Primitive.{content-below, content-cut}
use Rattle.combinations.specs.Undivided.{RowsFit, StoredFit, whole_row, undivided_of, undivided-low, undivided-whole, all-below, loaded-held, stored-fits}
use Rattle.log_steps.specs.Divisions.{combined}

-- The content that an answer has, 0 where a degree is past 15.
abbrev pub content_in : Option Combination → ℕ
content_in (Some c) = c.content
content_in None = 0

pub record ContentOf (r : Row) (d : ℕ) : Type 0 where
  pub content-is : low_degrees r ≡ true → d ≡ content (coefficients_of r)
  pub below : d < 2 ^ 63

module _ {g h : Polynomial} {t u : List ℤ} (stored : StoredFit g h t u) where
  abbrev numbers : List ℤ
  numbers = low_numbers part_count g h t u

  fits : RowsFit g h (loaded t 0) u (width (row_of u))
  fits = stored-fits stored refl refl

  loaded-made : undivided_of g h (numbers_held (loaded t 0)) u ≡ undivided_of g h t u
  loaded-made = ap (λ l. undivided_of g h l u) (loaded-held t stored.target-long)

  below-of : (o : Option Combination) → undivided_of g h t u ≡ o → content_in o < 2 ^ 63
  below-of None e = omega arith
  below-of (Some c) e =
      rw (ap (λ r. r.content) (undivided-whole fits (loaded-made ∙ e)))
      (content-below (2 ^ 63) (low_numbers part_count g h (numbers_held (loaded t 0)) u) (omega arith) (all-below fits (loaded-made ∙ e)))

  pub content-undivided : ContentOf (combined g h t u) (content_in (undivided_of g h t u))
  content-undivided = record {
    content-is =
        λ low. ap content_in (undivided-low g h t u ∙ ap (λ b. cond b (Some (whole_row numbers)) None) low)
        ∙ ap content (sym (cut_low g h t u (omega (arith, stored.g-long)) stored.target-long))
        ∙ content-cut (combined g h t u) (true-T _ low);
    below = below-of (undivided_of g h t u) refl;
  }
