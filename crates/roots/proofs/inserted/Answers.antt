-- `roots::inserted` meets its contract. The invariant, `Inserting`: the first i values, followed by the insertion of x
-- among the values from i to n, are the whole; the places from n on are still 0. The measure is n - i.
-- Assumes nothing.
use mathlib.Core.Path.{◌≡◌, refl, sym, ◌∙◌, ap, ap₂, subst, subst⁻¹}
use mathlib.Core.Bool.{true, false, not}
use mathlib.Core.List.{List, [], ◌∷◌, ◌++◌}
use Prim.Native.Nat.{ℕ, suc, ◌+◌, ◌-◌, ◌≤◌, ◌<◌, zero-le}
use native.Mathlib.Numerals.{add-one}
use native.Mathlib.Omega.{arith}
use lib.Dec.{T}
use lib.IntN.{ℤ, pos}
use lib.Signed.{◌<ℤ◌, lt_z, lt_z_yes, lt_z_no}
use lib.ListN.{length, take, drop, get_or, set, replicate, length-set, length-append, length-replicate, take-append-drop}
use lib.Seq.{slice, take-set-lt, take-take, length-take-le, drop_at, slice-cons, slice_empty, take-suc, take-suc-set, drop-set-lt}
use lib.Seq.{set_split, append_snoc, drop-drop}
use mir.Syntax.{w64}
use mir.Val.{Fits, SFits, of_z, to_z}
use mir.Facts.{to_z-of_z, of_z-to_z}
use Rattle.algebra.specs.Order.{≤ℤ-≢-<ℤ}
use Rattle.roots.specs.declared.RootList.{RootList}
use Rattle.roots.specs.RootSearch.{held, listed}
use Rattle.roots.specs.Ascending.{insert, insert-nil, insert-below, insert-above, insert-here, insert-longer}
use Rattle.roots.proofs.inserted.Goals as goal
use Rattle.roots.proofs.inserted.Goals.{After-y-1, At-loop-i, else-x-y-2, then-x-y-2}
use Rattle.roots.proofs.inserted.Invariants.{Inserting}

-- The result's two fields, from the list that it holds.
listed_of : {n : ℕ} {v : List ℤ} (l : List ℤ) → n ≡ length l → v ≡ l ++ replicate (16 - n) (pos 0)
    → ◌≡◌ {A = RootList} (record { count = n; values = v }) (listed l)
listed_of l e f =
    ap₂ (λ m w. record { count = m; values = w }) e (f ∙ ap (λ m. l ++ replicate (16 - m) (pos 0)) e)

module _ {n : ℕ} {whole v : List ℤ} {x : ℤ} {i : ℕ} (s : Inserting n whole v x i) where
  abbrev y : ℤ
  y = get_or v i (pos 0)

  abbrev others : List ℤ
  others = slice (i + 1) n v

  room : n ≤ length v
  room = omega (arith, s.size, s.within)

  values-from : i < n → slice i n v ≡ y ∷ others
  values-from h = rw (add-one i) (slice-cons i n v (pos 0) h room)

  others-after : i < n → slice (i + 1) n (set v i x) ≡ others
  others-after h = rw (add-one i, take-set-lt n v i x h) (drop-set-lt (suc i) (take n v) i x (omega arith))

  -- What the first i values and the new one are followed by.
  taken-x : i < n → take (i + 1) (set v i x) ≡ take i v ++ (x ∷ [])
  taken-x h = rw (add-one i) (take-suc-set v i x (omega (arith, room)))

  taken-y : i < n → take (i + 1) v ≡ take i v ++ (y ∷ [])
  taken-y h = rw (add-one i) (take-suc v i (pos 0) (omega (arith, room)))

  next-below : i < n → x <ℤ y → Inserting n whole (set v i x) y (i + 1)
  next-below h k =
      record {
        within = omega (arith, s.within);
        size = length-set v i x ∙ s.size;
        split =
            ap₂ (λ a b. a ++ insert y b) (taken-x h) (others-after h) ∙ append_snoc (take i v) x (insert y others)
            ∙ ap (λ l. take i v ++ l) (sym (ap (insert x) (values-from h) ∙ insert-below others k)) ∙ s.split;
        zeros = drop-set-lt n v i x h ∙ s.zeros;
      }

  next-above : i < n → y <ℤ x → Inserting n whole v x (i + 1)
  next-above h k =
      record {
        within = omega (arith, s.within);
        size = s.size;
        split =
            ap (λ a. a ++ insert x others) (taken-y h) ∙ append_snoc (take i v) y (insert x others)
            ∙ ap (λ l. take i v ++ l) (sym (ap (insert x) (values-from h) ∙ insert-above others k)) ∙ s.split;
        zeros = s.zeros;
      }

  end-here : i < n → x ≡ y → ◌≡◌ {A = RootList} (record { count = n; values = v }) (listed whole)
  end-here h e =
      listed_of whole
      (sym (ap length all ∙ length-take-le n v room))
      (sym (ap₂ ◌++◌ all (sym s.zeros) ∙ take-append-drop n v))
    where
      unchanged : insert x (slice i n v) ≡ slice i n v
      unchanged = ap (insert x) (values-from h) ∙ insert-here others e ∙ sym (values-from h)

      all : whole ≡ take n v
      all =
          sym s.split ∙ ap₂ ◌++◌ (sym (take-take i n v s.within.0)) unchanged ∙ take-append-drop i (take n v)

  -- At the end x is the last.
  all-last : n ≤ i → take n v ++ (x ∷ []) ≡ whole
  all-last h =
      let e : i ≡ n = omega (arith, s.within) in
      ap (λ l. take n v ++ l) (sym (ap (insert x) (slice_empty n v) ∙ insert-nil x))
      ∙ subst (λ k. take k v ++ insert x (slice k n v) ≡ whole) e s.split

  length_last : n ≤ i → n + 1 ≡ length whole
  length_last h = sym (ap length (sym (all-last h)) ∙ length-append (take n v) (x ∷ []) ∙ ap (λ k. k + 1) (length-take-le n v room))

  zeros-last : n < 16 → drop (suc n) v ≡ replicate (16 - (n + 1)) (pos 0)
  zeros-last h =
      let e : 16 - n ≡ suc (16 - (n + 1)) = omega arith in
      ap (λ k. drop k v) (sym (add-one n)) ∙ sym (drop-drop 1 n v) ∙ ap (drop 1) (s.zeros ∙ ap (λ k. replicate k (pos 0)) e)

  end-last : n ≤ i → length whole ≤ 16 → ◌≡◌ {A = RootList} (record { count = n + 1; values = set v n x }) (listed whole)
  end-last h k =
      let small : n < 16 = omega (arith, length_last h) in
      let end = replicate (16 - (n + 1)) (pos 0) in
      listed_of whole (length_last h)
      (set_split v n x (omega (arith, s.size)) ∙ ap (λ l. take n v ++ x ∷ l) (zeros-last small)
      ∙ sym (append_snoc (take n v) x end) ∙ ap (λ l. l ++ end) (all-last h))

start : (f : RootList) (r : ℤ) → f ≡ listed (held f) → length (insert r (held f)) ≤ 16
    → Inserting f.count (insert r (held f)) f.values r 0
start f r e h = record { within = (zero-le, fits); size = size; split = refl; zeros = zeros }
  where
    counted : f.count ≡ length (held f)
    counted = ap (λ g. g.count) e

    filled : f.values ≡ held f ++ replicate (16 - f.count) (pos 0)
    filled = ap (λ g. g.values) e ∙ ap (λ n. held f ++ replicate (16 - n) (pos 0)) (sym counted)

    fits : f.count ≤ 16
    fits = omega (arith, insert-longer r (held f), counted)

    size : length f.values ≡ 16
    size =
        ap length filled ∙ length-append (held f) _ ∙ ap₂ ◌+◌ (sym counted) (length-replicate (16 - f.count) (pos 0))
        ∙ omega (arith, fits)

    zeros : drop f.count f.values ≡ replicate (16 - f.count) (pos 0)
    zeros = ap (drop f.count) filled ∙ drop_at (held f) _ f.count (sym counted)

-- What the tests of a turn say, of x or of its bits.
test_below : {x y : ℤ} → SFits w64 y → lt_z x (to_z w64 (of_z w64 y)) ≡ true → x <ℤ y
test_below f t = lt_z_yes (subst⁻¹ T (rw (to_z-of_z f) at t) tt)

test-above : {x : ℕ} {y : ℤ} → Fits w64 x → SFits w64 y → (x ≡ of_z w64 y → ⊥) → lt_z (to_z w64 x) (to_z w64 (of_z w64 y)) ≡ false
    → y <ℤ to_z w64 x
test-above {x} {y} g f n t =
    ≤ℤ-≢-<ℤ (lt_z_no (subst⁻¹ (λ b. T (not b)) (rw (to_z-of_z f) at t) tt)) (λ e. n (sym (of_z-to_z g) ∙ ap (of_z w64) (sym e)))

-- The state at the loop's head, and the value that x is compared with.
module _ (c : At-loop-i) where
  abbrev n : ℕ
  n = c.args.found.count

  abbrev whole : List ℤ
  whole = insert c.args.r (held c.args.found)

  state : Inserting n whole c.loop-i.v (to_z w64 c.loop-i.x-bits) c.loop-i.i
  state = rw (to_z-of_z c.ranges.r) at c.loop-i.invariant

fits-y : (c : After-y-1) → SFits w64 (y (state c.before.before))
fits-y c = record { sfits = c.y-1.given }

pub loop-i-init : goal.loop-i-init
loop-i-init c =
    let fits = c.ranges.r in
    simp (to_z-of_z fits) (start c.args.found c.args.r c.requires.0 c.requires.1)

pub offset_bounds-v-i : goal.offset_bounds-v-i
offset_bounds-v-i c = omega (arith, c.loop-i.invariant.within)

pub bounds-v-i : goal.bounds-v-i
bounds-v-i c = omega (arith, c.loop-i.invariant.within)

pub returns-then-x-y : goal.returns-then-x-y
returns-then-x-y c =
    let head = c.before.before.before in
    end-here (state head) c.loop-i-test.true (ap (to_z w64) c.if-x-y.true ∙ to_z-of_z (fits-y c.before))

pub offset_bounds-v-i-then-x-y-2 : goal.offset_bounds-v-i-then-x-y-2
offset_bounds-v-i-then-x-y-2 c = omega (arith, c.loop-i.invariant.within)

pub bounds-v-i-then-x-y-2 : goal.bounds-v-i-then-x-y-2
bounds-v-i-then-x-y-2 c = omega (arith, c.loop-i.invariant.within)

pub loop-i-preserved : goal.loop-i-preserved
loop-i-preserved c =
    let head = c.before.before.before.before in
    let more = c.loop-i-test.true in
    let fits = fits-y c.before.before in
    let fits-r = head.ranges.r in
    let below = next-below (state head) more in
    let above = next-above (state head) more in
    let other = test-above head.loop-i.auto.x-fits fits c.if-x-y.false in
    elim c.if-x-y-2.branch [
      | then-x-y-2 w ↦ rw (w.v-is, w.x-is) (simp (to_z-of_z fits, to_z-of_z fits-r) (below (test_below fits w.if-x-y-2.true)))
      | else-x-y-2 w ↦ rw (w.v-is, w.x-is) (rw (to_z-of_z fits-r) (above (other w.if-x-y-2.false)))
    ]

pub offset_bounds-v-n : goal.offset_bounds-v-n
offset_bounds-v-n c = omega (arith, c.loop-i.invariant.within)

pub bounds-v-n : goal.bounds-v-n
bounds-v-n c = omega (arith, length_last (state c.before) c.loop-i-test.false, c.requires.1)

pub overflow_add-result : goal.overflow_add-result
overflow_add-result c = omega (arith, c.loop-i.invariant.within)

pub returns : goal.returns
returns c = end-last (state c.before) c.loop-i-test.false c.requires.1
