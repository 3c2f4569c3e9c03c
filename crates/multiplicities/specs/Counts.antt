-- The roots of a polynomial in an array, each with how often it occurs.
--
-- Main definitions
--   root_of, pair_of       a pair as the code holds it, and back; no_root zeros
--   listed_with l          the array that holds the pairs l, zeros past their end
--   held_with w            the pairs that the array holds; roots_held w the numbers alone
--   placed f zero l i      what f gives of the first i of l, in an array, zeros behind
--   times_in p rs          each of the numbers rs, with how often it occurs as a root of p
--   counts p rs            how often each occurs alone, in an array
--   counted p rs i         the first i of them in an array, zeros behind
--   with_times_of p o      a root of p or none, with how often it occurs
--   answered_with p o      the same of an answer of the rules
--
-- Main statements
--   held_with-of, roots_held-of, root-at   the pairs that are held, the numbers alone, and one of them
--   placed-next            one place more
--   values-all             the numbers alone, all of them
--   counted-next, counted-all   one count more; all of them
--   times-held, found-held, found-count, found-long   the numbers that were counted, the roots, how many, and the places
--   roots-within           the roots of a small polynomial are within ±C
--   furthest-small         the largest and the smallest root are within ±C
use Rattle.std.specs.Prelude as Prelude
use Rattle.std.specs.Prelude.{ℕ, suc, ◌+◌, ◌-◌, ◌≤◌, ◌<◌, ◌≡◌, refl, T, ℤ, pos, nat_abs, length, get_or, take, set, replicate, None, Some, IfSome, slice_get}
use Rattle.std.proofs.Common.{sym, ◌∙◌, ap, ap₂, le_refl, le_of_eq, add-one, arith, le→leb, take_all, take-suc, length-append, length-take-le}
use Rattle.std.proofs.Math.Logic.{by_cases}
use Rattle.std.proofs.Math.Decide.{dec_le}
use Rattle.std.proofs.Common.{subst, lt_of_not-le}
use Rattle.std.proofs.lemmas.Option.{slice_get-get_or, slice_get_past}
use Rattle.std.proofs.Math.Option.{Option}
use mathlib.Core.List.{List, [], ◌∷◌, ◌++◌, map, map-append, map-map, map-id}
use Rattle.std.proofs.Math.Dec.{not_T}
use Rattle.std.proofs.lemmas.List.{length-map, length-replicate}
use Rattle.std.proofs.Math.ListN.{get_or-append}
use Rattle.std.proofs.Math.Seq.{append_snoc, set-append_seam, take-append_seam}
use Rattle.algebra.specs.Coefficients.{degree-is_zero}
use Rattle.algebra.specs.Multiplicity.{multiplicity}
use Rattle.algebra.specs.Polynomials.{Polynomial, is_zero_of}
use Rattle.algebra.specs.Roots.{roots, roots-sound}
use Rattle.polynomials.specs.Content.{small_at}
use Rattle.lists.specs.Images.{get_or_map}
use Rattle.lists.specs.Tests.{every, every-member, dec-T}
use Rattle.rules.specs.Limits.{bound, small}
use Rattle.rules.specs.Elimination.{Side, leading, trailing, furthest, roots_with_of}
use Rattle.roots.specs.RootSearch.{listed, answered, roots-small, roots-constant, roots-ascend, answered-first, answered-last}
use Rattle.multiplicities.specs.declared.RootsWith.{RootsWith}
use Rattle.multiplicities.specs.declared.Root.{Root}

abbrev pub root_of : ℤ × ℕ → Root
root_of x = record { value = x.0; times = x.1 }

abbrev pub pair_of : Root → ℤ × ℕ
pair_of r = (r.value, r.times)

abbrev pub no_root : Root
no_root = root_of (pos 0, 0)

abbrev pub listed_with : List (ℤ × ℕ) → RootsWith
listed_with l = record { count = length l; roots = map root_of l ++ replicate (16 - length l) no_root }

-- The numbers alone, without how often each occurs.
abbrev pub roots_held : RootsWith → List ℤ
roots_held w = map (λ r. r.value) (take w.count w.roots)

abbrev pub held_with : RootsWith → List (ℤ × ℕ)
held_with w = map pair_of (take w.count w.roots)

module _ {w : RootsWith} (l : List (ℤ × ℕ)) (e : w ≡ listed_with l) where
  taken : take w.count w.roots ≡ map root_of l
  taken = ap (λ v. take v.count v.roots) e
      ∙ ap (λ n. take n (map root_of l ++ replicate (16 - length l) no_root)) (sym (length-map l root_of))
      ∙ take-append_seam (map root_of l) (replicate (16 - length l) no_root)

  pub roots_held-of : roots_held w ≡ map (λ x. x.0) l
  roots_held-of = ap (map (λ r. r.value)) taken ∙ map-map (λ r. r.value) root_of l

  pub held_with-of : held_with w ≡ l
  held_with-of = ap (map pair_of) taken ∙ map-map pair_of root_of l ∙ map-id l

  pub listed_with-held : w ≡ listed_with (held_with w)
  listed_with-held = e ∙ ap listed_with (sym held_with-of)

  pub root-at : (i : ℕ) → i < length l → get_or w.roots i no_root ≡ root_of (get_or l i (pos 0, 0))
  root-at i h =
      ap (λ v. get_or v.roots i no_root) e
      ∙ get_or-append (map root_of l) (replicate (16 - length l) no_root) no_root i (rw (length-map l root_of) h)
      ∙ get_or_map root_of l i (pos 0, 0) no_root h

-- ---- an array that is filled place by place

-- What f gives of the first i of l, zeros behind.
abbrev pub placed : {A B : Type 0} → (A → B) → B → List A → ℕ → List B
placed f zero l i = map f (take i l) ++ replicate (16 - i) zero

pub placed-next : {A B : Type 0} (f : A → B) (d : A) (zero : B) (l : List A) (i : ℕ) → i < length l → i < 16
    → set (placed f zero l i) i (f (get_or l i d)) ≡ placed f zero l (i + 1)
placed-next {A} {B} f d zero l i inside h =
    ap₂ (λ n k. set (before ++ replicate n zero) k x) room here ∙ set-append_seam before zero rest x ∙ sym (append_snoc before x rest)
    ∙ ap (λ m. m ++ rest) (sym longer)
  where
    x : B
    x = f (get_or l i d)

    before : List B
    before = map f (take i l)

    rest : List B
    rest = replicate (16 - (i + 1)) zero

    room : 16 - i ≡ suc (16 - (i + 1))
    room = omega arith

    here : i ≡ length before
    here = sym (length-map (take i l) f ∙ length-take-le i l (omega arith))

    longer : map f (take (i + 1) l) ≡ before ++ (x ∷ [])
    longer = ap (λ n. map f (take n l)) (add-one i) ∙ ap (map f) (take-suc l i d inside) ∙ map-append f (take i l) (get_or l i d ∷ [])

-- The numbers alone, all of them.
pub values-all : (w : RootsWith) (i : ℕ) → i ≡ w.count → w.count ≤ length w.roots
    → record { count = w.count; values = placed (λ r. r.value) (pos 0) (take w.count w.roots) i } ≡ listed (roots_held w)
values-all w i e h =
    ap (λ n. record { count = w.count; values = placed (λ r. r.value) (pos 0) numbers n }) e
    ∙ ap₂ (λ n l. record { count = n; values = map (λ r. r.value) l ++ replicate (16 - n) (pos 0) }) count-is (take_all w.count numbers (le_of_eq held-long))
  where
    numbers : List Root
    numbers = take w.count w.roots

    held-long : length numbers ≡ w.count
    held-long = length-take-le w.count w.roots h

    count-is : w.count ≡ length (roots_held w)
    count-is = sym (length-map numbers (λ r. r.value) ∙ held-long)

-- ---- the roots

slice_get-small : (l : List ℤ) (i : ℕ) → T (every small l) → IfSome (slice_get l i) (λ r. nat_abs r ≤ bound)
slice_get-small l i t = by_cases (dec_le (length l) i) (λ h. rw (slice_get_past l i h) tt)
    (λ h. rw (slice_get-get_or l i (pos 0) (lt_of_not-le h)) (small_at l t i))

-- The zero polynomial has no root listed.
pub roots-within : (p : Polynomial) → T (every small p) → T (every small (roots p))
unfolding every small
roots-within p t =
    by_cases (dec-T (is_zero_of p)) (λ z. rw (roots-constant p (degree-is_zero p z)) tt)
    (λ n. every-member small (roots p) (λ r m. le→leb (nat_abs r) bound (omega (arith, roots-small p (not_T (is_zero_of p) n) t r (roots-sound p m)))))

-- ---- the counts

abbrev pub times_in : Polynomial → List ℤ → List (ℤ × ℕ)
times_in p rs = map (λ r. (r, multiplicity p r)) rs

pub length-times : (p : Polynomial) (rs : List ℤ) → length (times_in p rs) ≡ length rs
length-times p rs = length-map rs (λ r. (r, multiplicity p r))

-- How often each occurs alone, in an array with zeros behind.
abbrev pub counts : Polynomial → List ℤ → List ℕ
counts p rs = map (multiplicity p) rs ++ replicate (16 - length rs) 0

-- The first i of rs as they are counted, zeros behind.
abbrev pub counted : Polynomial → List ℤ → ℕ → List Root
counted p rs i = map root_of (times_in p (take i rs)) ++ replicate (16 - i) no_root

pub counted-next : (p : Polynomial) (rs : List ℤ) (i : ℕ) → i < length rs → i < 16
    → set (counted p rs i) i (root_of (get_or rs i (pos 0), multiplicity p (get_or rs i (pos 0)))) ≡ counted p rs (i + 1)
counted-next p rs i inside h =
    ap (λ l. set l i (f (get_or rs i (pos 0)))) (as-placed i) ∙ placed-next f (pos 0) no_root rs i inside h ∙ sym (as-placed (i + 1))
  where
    f : ℤ → Root
    f r = root_of (r, multiplicity p r)

    as-placed : (n : ℕ) → counted p rs n ≡ placed f no_root rs n
    as-placed n = ap (λ l. l ++ replicate (16 - n) no_root) (map-map root_of (λ r. (r, multiplicity p r)) (take n rs))

-- All of them are counted.
pub counted-all : (p : Polynomial) (rs : List ℤ) → record { count = length rs; roots = counted p rs (length rs) } ≡ listed_with (times_in p rs)
counted-all p rs =
    ap (λ l. record { count = length rs; roots = map root_of (times_in p l) ++ replicate (16 - length rs) no_root })
    (take_all (length rs) rs (le_refl (length rs)))
    ∙ ap (λ n. record { count = n; roots = map root_of (times_in p rs) ++ replicate (16 - n) no_root }) (sym (length-times p rs))

-- Numbers with how often each occurs, the numbers alone.
pub times-held : {w : RootsWith} (p : Polynomial) (rs : List ℤ) → w ≡ listed_with (times_in p rs) → roots_held w ≡ rs
times-held p rs e = roots_held-of (times_in p rs) e ∙ map-map (λ x. x.0) (λ r. (r, multiplicity p r)) rs ∙ map-id rs

pub found-held : {w : RootsWith} (p : Polynomial) → w ≡ listed_with (roots_with_of p) → roots_held w ≡ roots p
unfolding roots_with_of
found-held p e = times-held p (roots p) e

pub found-long : {w : RootsWith} (p : Polynomial) → w ≡ listed_with (roots_with_of p) → length (roots p) ≤ 16 → length w.roots ≡ 16
unfolding roots_with_of
found-long p e few =
    let size = length-map (times_in p (roots p)) root_of ∙ length-times p (roots p) in
    ap (λ w. length w.roots) e ∙ simp (length-append, length-replicate) (omega (arith, size, length-times p (roots p)))

pub found-count : {w : RootsWith} (p : Polynomial) → w ≡ listed_with (roots_with_of p) → w.count ≡ length (roots p)
unfolding roots_with_of
found-count p e = ap (λ w. w.count) e ∙ length-times p (roots p)

-- ---- the furthest root

abbrev pub with_times_of : Polynomial → Prelude.Option ℤ → Prelude.Option Root
with_times_of p None = None
with_times_of p (Some r) = Some (root_of (r, multiplicity p r))

abbrev pub answered_with : Polynomial → Option ℤ → Prelude.Option Root
answered_with p o = with_times_of p (answered o)

pub furthest-small : (side : Side) (p : Polynomial) → T (every small p) → IfSome (answered (furthest side (roots p))) (λ r. nat_abs r ≤ bound)
furthest-small leading p t =
    subst (λ o. IfSome o (λ r. nat_abs r ≤ bound)) (answered-last (roots p) (roots-ascend p)) (slice_get-small (roots p) (length (roots p) - 1) (roots-within p t))
furthest-small trailing p t =
    subst (λ o. IfSome o (λ r. nat_abs r ≤ bound)) (answered-first (roots p) (roots-ascend p)) (slice_get-small (roots p) 0 (roots-within p t))
