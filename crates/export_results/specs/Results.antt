-- Results in a lent store: what an exported call that reads or writes systems did as a whole, and the numbers of its result.
--
-- Main definitions
--   Exported                   the refusal that a call returned, and every lent store afterwards
--   kept n ..                  a refusal that leaves the stores as they were
--   on_acceptance n ..          a store that is written where the refusal is 0 only
--   most_count                  the largest count that a result holds
--   early n, kept_or ..         the refusals that leave the result store as it was, and the store by the refusal
--
-- Main statements
--   on_acceptance-none, on_acceptance-some   such a store, by the refusal
--   kept-early, kept-late      the result store by the refusal
--   none-checked               stores that hold nothing are too short
--   small-fits, small-value    a small count is in the range of an i64, and is the number that it is cast to
--   count_fits, count-value    so is every count of a result
--   answer-value               so is 1 or 0 for yes or no
--   not_negative               the test of one number of an order or of a state
--   four-members, four-columns   four members of a list, and the numbers of an order of four columns, one by one
--   sizes-told                 sizes as they are handed on
use Rattle.std.specs.Prelude.{ℕ, zero, suc, ◌*◌, ◌≤◌, ◌≡◌, refl, ◌≢◌, Bool, true, false, ◌&&◌, not, cond, List, [], ◌∷◌, map, leb, ℤ, pos, negsuc, length, take, get_or}
use Rattle.std.proofs.Common.{zero-le, arith, sym, ◌∙◌, ap, le-ltb, lit<, take_all, to_z-of_z}
use Rattle.std.proofs.Math.Bool.{and-false}
use Rattle.std.specs.Int.Signed.{non_neg, lt_z}
use Rattle.std.specs.Int.{w64}
use mir.Val.{SFits, to_z, of_z, bool_byte}
use Rattle.std.proofs.Math.Facts.{to_z_pos}
use Rattle.rules.specs.Limits.{row_length}
use Rattle.integers.specs.Ranges.{sfits-size}
use Rattle.rules.specs.Stores.{Sizes, sizes_right_of, count_right, lengths_right_of, numbers_right_of, row_need, check_stores_of, equations}
use Rattle.lists.specs.Overwritten.{overwrite}

pub record Exported : Type 0 where
  pub refusal : ℕ
  pub row_store : List ℤ
  pub relation_store : List ℤ
  pub result_store : List ℤ

-- A refusal found before the work begins leaves every store as it was (SCOPE 3.54, 6.32).
unfoldable pub kept : ℕ → List ℤ → List ℤ → List ℤ → Exported
kept n row_store relation_store result_store =
    record { refusal = n; row_store = row_store; relation_store = relation_store; result_store = result_store }

-- The numbers that the result of a run has, and that of a sheet that was read (SCOPE 3.52).
abbrev pub run_need : ℕ
run_need = 10

abbrev pub read_need : ℕ
read_need = 9

-- The largest count that a result holds: the shifts of a replay are no more than its log has steps (SCOPE 13.1).
abbrev pub most_count : ℕ
most_count = 1000

unfoldable pub on_acceptance : ℕ → List ℤ → List ℤ → List ℤ
unfolding overwrite
on_acceptance zero numbers result_store = overwrite numbers result_store
on_acceptance (suc n) numbers result_store = result_store

pub on_acceptance-none : (n : ℕ) (numbers result_store : List ℤ) → n ≢ 0 → result_store ≡ on_acceptance n numbers result_store
unfolding on_acceptance
on_acceptance-none zero numbers result_store h = absurd (h refl)
on_acceptance-none (suc n) numbers result_store h = refl

pub on_acceptance-some : (n : ℕ) (numbers result_store : List ℤ) → n ≡ 0 → overwrite numbers result_store ≡ on_acceptance n numbers result_store
unfolding on_acceptance
on_acceptance-some n numbers result_store e = ap (λ k. on_acceptance k numbers result_store) (sym e)

-- The refusals that are found before the work begins (SCOPE 6.32).
unfoldable pub early : ℕ → Bool
early n = leb 1 n && leb n 5

unfoldable pub kept_or : ℕ → List ℤ → List ℤ → List ℤ
unfolding early overwrite
kept_or n numbers result_store = cond (early n) result_store (overwrite numbers result_store)

pub kept-early : (n : ℕ) (numbers result_store : List ℤ) → early n ≡ true → result_store ≡ kept_or n numbers result_store
unfolding kept_or
kept-early n numbers result_store e = sym (ap (λ b. cond b result_store (overwrite numbers result_store)) e)

pub kept-late : (n : ℕ) (numbers result_store : List ℤ) → early n ≡ false → overwrite numbers result_store ≡ kept_or n numbers result_store
unfolding kept_or
kept-late n numbers result_store e = sym (ap (λ b. cond b result_store (overwrite numbers result_store)) e)

-- Stores that hold nothing are too short.
pub none-checked : (z : Sizes) (count : ℕ) → check_stores_of z count [] [] ≡ cond (sizes_right_of z && count_right count) 1 2
unfolding check_stores_of lengths_right_of row_need
none-checked z count =
    ap (λ b. cond (sizes_right_of z && count_right count) (cond b (cond (numbers_right_of z count [] []) 0 5) 1) 2)
    (and-false (leb (equations z * row_length) 0))

pub small-fits : (n : ℕ) → n ≤ 64 → SFits w64 (pos n)
small-fits n h = sfits-size (pos n) h (lit< tt)

pub small-value : (n : ℕ) → n ≤ 64 → to_z w64 n ≡ pos n
small-value n h = to_z_pos w64 (omega arith)

pub count_fits : (n : ℕ) → n ≤ most_count → SFits w64 (pos n)
count_fits n h = sfits-size (pos n) h (lit< tt)

pub count-value : (n : ℕ) → n ≤ most_count → to_z w64 n ≡ pos n
count-value n h = to_z_pos w64 (omega arith)

pub answer-value : (b : Bool) → to_z w64 (bool_byte b) ≡ pos (cond b 1 0)
answer-value true = small-value 1 (omega arith)
answer-value false = small-value 0 (omega arith)

pub not_negative : (a : ℤ) → non_neg a ≡ not (lt_z a (pos 0))
not_negative (pos n) = sym (ap not (le-ltb n 0 zero-le))
not_negative (negsuc n) = refl

-- m, the number of equations, l and t, as a call that takes them in a struct reads them.
pub sizes-told : (m n : ℕ) {l t : ℤ} → SFits w64 l → SFits w64 t
    → ◌≡◌ {A = Sizes} (record { m = m; equations = n; l = to_z w64 (of_z w64 l); t = to_z w64 (of_z w64 t) })
    (record { m = m; equations = n; l = l; t = t })
sizes-told m n f g i = record { m = m; equations = n; l = to_z-of_z f i; t = to_z-of_z g i }

-- The first four members of a list, one by one.
pub four-members : {A B : Type 0} (f : A → B) (d : A) (l : List A) → 4 ≤ length l
    → f (get_or l 0 d) ∷ f (get_or l 1 d) ∷ f (get_or l 2 d) ∷ f (get_or l 3 d) ∷ [] ≡ map f (take 4 l)
four-members f d (a ∷ b ∷ c ∷ e ∷ l) h = refl
four-members f d [] h = absurd (omega arith)
four-members f d (a ∷ []) h = absurd (omega arith)
four-members f d (a ∷ b ∷ []) h = absurd (omega arith)
four-members f d (a ∷ b ∷ c ∷ []) h = absurd (omega arith)

-- The numbers of an order of four columns, one by one.
pub four-columns : (l : List ℕ) → length l ≡ 4
    → pos (get_or l 0 0) ∷ pos (get_or l 1 0) ∷ pos (get_or l 2 0) ∷ pos (get_or l 3 0) ∷ [] ≡ map pos l
four-columns l e = four-members pos 0 l (omega arith) ∙ ap (map pos) (take_all 4 l (omega arith))
