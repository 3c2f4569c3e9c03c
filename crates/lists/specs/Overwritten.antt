-- A list whose front is replaced.
--
-- Main definitions
--   overwrite part store                   the part, and what lies behind it in the store
--
-- Main statements
--   length-overwrite, overwrite-length     the store keeps its length, and is never shorter
--   overwrite-front, drop-overwrite        the front and what lies behind it
--   put-behind, put_two                    a part put behind another one, and before one that stands behind its place
--   overwrite-twice, overwrite-again       the same front again
--   set-overwrite, overwrite-paste         one member set, and a part pasted at the front
use Rattle.std.specs.Prelude.{◌≡◌, refl, List, [], ◌∷◌, ◌++◌, ℕ, ◌+◌, ◌-◌, ◌≤◌, length, take, drop, set}
use Rattle.std.proofs.Common.{sym, ◌∙◌, ap, append_assoc, zero-add, not-suc-le-zero, arith, length-append, length-drop, length-take-le, drop-drop, take_at, drop_at}
use Rattle.std.proofs.Math.Seq.{drop-append-add, paste}

-- The list with its front replaced; what lies behind it does not change.
unfoldable pub overwrite : {A : Type 0} → List A → List A → List A
overwrite part store = part ++ drop (length part) store

pub length-overwrite : {A : Type 0} (part store : List A) → length part ≤ length store → length (overwrite part store) ≡ length store
unfolding overwrite
length-overwrite part store h = length-append part (drop (length part) store) ∙ omega (arith, length-drop (length part) store)

pub overwrite-length : {A : Type 0} (l store : List A) → length store ≤ length (overwrite l store)
unfolding overwrite
overwrite-length l store = rw (length-append, length-drop) (omega arith)

pub overwrite-front : {A : Type 0} (l store : List A) → take (length l) (overwrite l store) ≡ l
unfolding overwrite
overwrite-front l store = take_at l (drop (length l) store) (length l) refl

pub drop-overwrite : {A : Type 0} (n : ℕ) (l store : List A) → length l ≤ n → drop n (overwrite l store) ≡ drop n store
unfolding overwrite
drop-overwrite n l store h =
    let e : length l + (n - length l) ≡ n = omega arith in
    ap (λ k. drop k (l ++ drop (length l) store)) (sym e) ∙ drop-append-add l (drop (length l) store) (n - length l)
    ∙ drop-drop (n - length l) (length l) store ∙ ap (λ k. drop k store) e

-- A part put behind another one.
pub put-behind : {A : Type 0} (text more output : List A) → text ++ overwrite more (drop (length text) output)
    ≡ overwrite (text ++ more) output
unfolding overwrite
put-behind text more output =
    ap (λ l. text ++ (more ++ l)) (drop-drop (length more) (length text) output)
    ∙ sym (append_assoc text more (drop (length text + length more) output))
    ∙ ap (λ n. (text ++ more) ++ drop n output) (sym (length-append text more))

-- A part put before another one that stands behind its place.
pub put_two : {A : Type 0} (line text output : List A) → length line ≤ length output
    → overwrite line (take (length line) output ++ overwrite text (drop (length line) output)) ≡ overwrite (line ++ text) output
unfolding overwrite
put_two line text output h =
    ap (λ l. line ++ l) (drop_at (take (length line) output) _ (length line) (length-take-le (length line) output h))
    ∙ put-behind line text output

pub overwrite-twice : {A : Type 0} (l more store : List A) → overwrite l (overwrite (l ++ more) store) ≡ overwrite (l ++ more) store
unfolding overwrite
overwrite-twice l more store =
    ap (λ r. l ++ drop (length l) r) (append_assoc l more _) ∙ ap (λ r. l ++ r) (drop_at l (more ++ _) (length l) refl)
    ∙ sym (append_assoc l more _)

pub overwrite-again : {A : Type 0} (l store : List A) → overwrite l (overwrite l store) ≡ overwrite l store
unfolding overwrite
overwrite-again l store = ap (λ r. l ++ r) (drop_at l (drop (length l) store) (length l) refl)

pub set-overwrite : {A : Type 0} (store : List A) (a : A) → 1 ≤ length store → set store 0 a ≡ overwrite (a ∷ []) store
unfolding overwrite
set-overwrite [] a h = absurd (not-suc-le-zero h)
set-overwrite (b ∷ store) a h = refl

-- A part pasted at the front takes the place of the front.
pub overwrite-paste : {A : Type 0} (store numbers : List A) (n : ℕ) → n ≤ length numbers → paste store 0 numbers n
    ≡ overwrite (take n numbers) store
unfolding overwrite
overwrite-paste store numbers n h =
    ap (λ k. take n numbers ++ drop k store) (zero-add n ∙ sym (length-take-le n numbers h))
