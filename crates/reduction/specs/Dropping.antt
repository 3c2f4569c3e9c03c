-- A row that is dropped: the later ones move up, and the place of the last one holds 0 (SCOPE 2.11).
--
-- Main definitions
--   dropped store i last     the store without row i, where row `last` is the last one
--
-- Main statements
--   dropped-state            the state that it holds
--   dropped-within, dropped-kept, dropped-freed   what is asked of it, what stays, and the place that is free
--   freed-none, freed-then, kept_more             no row dropped, rows dropped before and after, and a longer part that may change
use Prim.Native.Nat.{ℕ, zero, suc, ◌+◌, ◌*◌, ◌-◌, ◌≤◌, ◌<◌}
use Rattle.std.proofs.Common.{le_refl, le_of_eq, ◌∙◌, length-drop, length-take-le, take-take, take-add, drop-drop}
use native.Mathlib.Omega.{arith}
use Rattle.std.specs.Prelude.{◌≡◌, refl, pos, length, drop}
use Rattle.std.proofs.Math.Path.{sym, ap, ap₂, subst}
use mathlib.Core.List.{List, [], ◌∷◌, ◌++◌, map}
use Rattle.std.proofs.Math.Dec.{T}
use Rattle.std.proofs.Math.IntN.{ℤ}
use Rattle.std.proofs.Math.ListN.{take, replicate}
use Rattle.std.proofs.lemmas.List.{length-replicate, replicate-append-replicate}
use Rattle.std.proofs.Math.Seq.{paste, take_all, take_at, drop_at, length-paste, take-paste}
use Rattle.lists.specs.Tests.{every, every-join, every_take, every_drop}
use Rattle.lists.specs.Taken.{drop-take}
use Rattle.lists.specs.Places.{without}
use Rattle.lists.specs.Parts.{parts, parts-length, parts-append, parts-take}
use Rattle.lists.specs.Pasted.{paste-rest}
use Rattle.rules.specs.Limits.{row_length, small}
use Rattle.rules.specs.Stores.{row_of, rows_of, relations_of, row_need}
use Rattle.rules.specs.Elimination.{drop_row}
use Rattle.rules.specs.Calls.{zeros}
use Rattle.sides.specs.Lent.{Within, Kept}
use Rattle.reduction.specs.declared.step.Progress.{Progress}
use Rattle.reduction.specs.Progress.{Freed, state, state_of, dropped_progress}

-- ---- the parts of a list without one of them

without_at : {A : Type 0} (xs : List A) (y : A) (ys : List A) → without (xs ++ y ∷ ys) (length xs) ≡ xs ++ ys
unfolding without
without_at [] y ys = refl
without_at (x ∷ xs) y ys = ap (λ l. x ∷ l) (without_at xs y ys)

map-without : {A B : Type 0} (f : A → B) (l : List A) (i : ℕ) → map f (without l i) ≡ without (map f l) i
unfolding without
map-without f [] i = refl
map-without f (x ∷ l) zero = refl
map-without f (x ∷ l) (suc i) = ap (λ r. f x ∷ r) (map-without f l i)

parts-without : {A : Type 0} (k i r : ℕ) (l : List A) → i * k ≤ length l
    → parts k (i + r) (take (i * k) l ++ take (r * k) (drop (i * k + k) l)) ≡ without (parts k (i + suc r) l) i
unfolding parts
parts-without {A = A} k i r l h =
    parts-append k i r (front ++ behind)
    ∙ ap₂ ◌++◌
    (sym (parts-take k i (i * k) (front ++ behind) (le_refl (i * k))) ∙ ap (parts k i) (take_at front behind (i * k) size)
    ∙ parts-take k i (i * k) l (le_refl (i * k)))
    (ap (parts k r) (drop_at front behind (i * k) size) ∙ parts-take k r (r * k) (drop (i * k + k) l) (le_refl (r * k))
    ∙ ap (parts k r) (sym (drop-drop k (i * k) l)))
    ∙ sym (without_at (parts k i l) (take k (drop (i * k) l)) (parts k r (drop k (drop (i * k) l))))
    ∙ ap₂ without (sym (parts-append k i (suc r) l)) (parts-length k i l)
  where
    front : List A
    front = take (i * k) l

    behind : List A
    behind = take (r * k) (drop (i * k + k) l)

    size : length front ≡ i * k
    size = length-take-le (i * k) l h

-- ---- the store

unfoldable pub dropped : List ℤ → ℕ → ℕ → List ℤ
dropped store i last =
    let moved = paste store (i * row_length) (drop (i * row_length + row_length) store) ((last - i) * row_length) in
    paste moved (last * row_length) (replicate row_length (pos 0)) row_length

module _ (n : ℕ) (store : List ℤ) (w : Within (row_need n) store) (i : ℕ) (inside : i < n) where
  abbrev r : ℕ
  r = n - 1 - i

  abbrev at : ℕ
  at = i * row_length

  abbrev behind : List ℤ
  behind = drop (at + row_length) store

  abbrev moved : List ℤ
  moved = paste store at behind (r * row_length)

  abbrev after : List ℤ
  after = dropped store i (n - 1)

  long : n * row_length ≤ length store
  unfolding row_need
  long = w.long

  behind-long : r * row_length ≤ length behind
  behind-long = rw length-drop (omega (arith, long))

  free-long : row_length ≤ length (replicate row_length (pos 0))
  free-long = le_of_eq (sym (length-replicate row_length (pos 0)))

  last-is : (n - 1) * row_length ≡ at + r * row_length
  last-is = omega arith

  moved_length : length moved ≡ length store
  moved_length = length-paste store at behind (r * row_length) (omega (arith, long)) behind-long

  after-length : length after ≡ length store
  unfolding dropped
  after-length =
      length-paste moved ((n - 1) * row_length) (replicate row_length (pos 0)) row_length (rw moved_length (omega (arith, long))) free-long
      ∙ moved_length

  -- The rows before the place, and those behind it.
  front : take ((n - 1) * row_length) after ≡ take at store ++ take (r * row_length) behind
  unfolding dropped
  front =
      let last = (n - 1) * row_length in
      let free : List ℤ = replicate row_length (pos 0) in
      sym (take-take last (last + row_length) after (omega arith))
      ∙ ap (take last) (take-paste moved last free row_length (rw moved_length (omega (arith, long))) free-long)
      ∙ take_at (take last moved) (take row_length free) last (length-take-le last moved (rw moved_length (omega (arith, long))))
      ∙ ap (λ k. take k moved) last-is ∙ take-paste store at behind (r * row_length) (omega (arith, long)) behind-long

  pub dropped-within : Within (row_need (n - 1)) after
  unfolding row_need
  dropped-within =
      record {
        long = rw after-length (omega (arith, long));
        numbers =
            subst (λ l. T (every small l)) (sym front)
            (every-join small (take at store) (take (r * row_length) behind) before later);
      }
    where
      before : T (every small (take at store))
      before = subst (λ l. T (every small l)) (take-take at (n * row_length) store (omega arith)) (every_take small at _ w.numbers)

      later : T (every small (take (r * row_length) behind))
      later =
          subst (λ l. T (every small l))
          (ap (λ k. drop (at + row_length) (take k store)) whole ∙ drop-take (at + row_length) (r * row_length) store)
          (every_drop small (at + row_length) _ w.numbers)
        where
          whole : n * row_length ≡ at + row_length + r * row_length
          whole = omega arith

  pub dropped-kept : Kept (row_need n) store after
  unfolding row_need dropped
  dropped-kept =
      record {
        same_length = after-length;
        same_rest =
            paste-rest moved ((n - 1) * row_length) (replicate row_length (pos 0)) row_length (n * row_length)
            (rw moved_length (omega (arith, long))) free-long (omega arith)
            ∙ paste-rest store at behind (r * row_length) (n * row_length) (omega (arith, long)) behind-long (omega arith);
      }

  pub dropped-freed : Freed n (n - 1) after
  unfolding row_need dropped zeros
  dropped-freed =
      ap (λ k. take k (drop last after)) one ∙ sym (drop-take last row_length after)
      ∙ ap (drop last) (take-paste moved last free row_length fits free-long)
      ∙ drop_at (take last moved) (take row_length free) last (length-take-le last moved fits)
      ∙ take_all row_length free (le_of_eq (length-replicate row_length (pos 0))) ∙ ap zeros (sym one)
    where
      last : ℕ
      last = (n - 1) * row_length

      free : List ℤ
      free = replicate row_length (pos 0)

      fits : last ≤ length moved
      fits = rw moved_length (omega (arith, long))

      one : (n - (n - 1)) * row_length ≡ row_length
      one = omega arith

  pub dropped-rows : rows_of (n - 1) after ≡ without (rows_of n store) i
  unfolding rows_of
  dropped-rows =
      ap (map row_of)
      (sym (parts-take row_length (n - 1) ((n - 1) * row_length) after (le_refl _)) ∙ ap₂ (parts row_length) fewer front
      ∙ parts-without row_length i r store (omega (arith, long)) ∙ ap (λ k. without (parts row_length k store) i) (sym whole))
      ∙ map-without row_of (parts row_length n store) i
    where
      fewer : n - 1 ≡ i + r
      fewer = omega arith

      whole : n ≡ i + suc r
      whole = omega arith

pub dropped-state : (store relations : List ℤ) (p : Progress) → Within (row_need p.rows) store → p.settled < p.rows
    → state_of (dropped store p.settled (p.rows - 1)) relations (dropped_progress p) ≡ drop_row (state_of store relations p) p.settled
unfolding state_of drop_row
dropped-state store relations p w inside =
    ap (λ rows. state rows (relations_of p.count relations) (take p.settled p.order) p.shifts)
    (dropped-rows p.rows store w p.settled inside)

-- ---- the places of the rows that were dropped

pub freed-none : (n : ℕ) (store : List ℤ) → Freed n n store
unfolding zeros
freed-none n store = ap (λ k. take k (drop (row_need n) store)) none ∙ ap zeros (sym none)
  where
    none : (n - n) * row_length ≡ 0
    none = omega arith

-- Rows were dropped, and then more.
pub freed-then : (n k j : ℕ) {store after : List ℤ} → k ≤ n → j ≤ k → Freed n k store → Kept (row_need k) store after → Freed k j after
    → Freed n j after
unfolding row_need zeros
freed-then n k j {store} {after} h g first kept then =
    ap (λ m. take m (drop (j * row_length) after)) total
    ∙ take-add ((k - j) * row_length) ((n - k) * row_length) (drop (j * row_length) after)
    ∙ ap₂ ◌++◌ then
    (ap (take ((n - k) * row_length))
    (drop-drop ((k - j) * row_length) (j * row_length) after ∙ ap (λ m. drop m after) end ∙ kept.same_rest) ∙ first)
    ∙ replicate-append-replicate ((k - j) * row_length) ((n - k) * row_length) (pos 0) ∙ ap zeros (sym total)
  where
    total : (n - j) * row_length ≡ (k - j) * row_length + (n - k) * row_length
    total = omega arith

    end : j * row_length + (k - j) * row_length ≡ k * row_length
    end = omega arith

pub kept_more : (j k : ℕ) {store after : List ℤ} → j ≤ k → Kept (row_need j) store after → Kept (row_need k) store after
unfolding row_need
kept_more j k {store} {after} h kept =
    record {
      same_length = kept.same_length;
      same_rest =
          ap (λ m. drop m after) (sym end) ∙ sym (drop-drop ((k - j) * row_length) (j * row_length) after)
          ∙ ap (drop ((k - j) * row_length)) kept.same_rest ∙ drop-drop ((k - j) * row_length) (j * row_length) store
          ∙ ap (λ m. drop m store) end;
    }
  where
    end : j * row_length + (k - j) * row_length ≡ k * row_length
    end = omega arith
