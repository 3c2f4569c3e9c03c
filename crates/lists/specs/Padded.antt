-- Lists with a value up to a length, and lists of one value.
--
-- Main definitions
--   pad_to n v l                            the first n members of l, and v for those that l lacks
--
-- Main statements
--   length-pad_to, pad_to-all, get_or-pad_to, all-pad_to   its length, and its members
--   pad_to-set, pad_to-more                  a member more before the padding
--   take-pad_to, every-pad_to, drop-pad_to    the members before the padding, and the padding
--   pad-zeros, pad-taken                   a list that ends in zeros
--   get_or-replicate-each, replicate-snoc    lists of one value: a member, and one more
use Rattle.std.specs.Prelude.{◌≡◌, Bool, T, eqb, length, get_or, take, drop, set, replicate}
use Rattle.std.proofs.Math.Path.{refl, ap}
use Rattle.std.proofs.Common.{sym, ap₂, suc-ne-zero, le_of_suc-le-suc, not-suc-le-zero, arith, eqb→eq}
use mathlib.Core.List.{List, [], ◌∷◌, ◌++◌, tail}
use Prim.Native.Nat.{ℕ, zero, suc, ◌≤◌, ◌<◌}
use Rattle.std.proofs.Math.Nat.{suc_inj}
use Rattle.lists.specs.Everywhere.{All}
use Rattle.lists.specs.Tests.{T-&&, every}

-- The first n members of l, and v for those that l lacks.
unfoldable pub pad_to : {A : Type 0} → ℕ → A → List A → List A
pad_to zero v l = []
pad_to (suc n) v [] = v ∷ pad_to n v []
pad_to (suc n) v (x ∷ l) = x ∷ pad_to n v l

pub length-pad_to : {A : Type 0} (n : ℕ) (v : A) (l : List A) → length (pad_to n v l) ≡ n
unfolding pad_to
length-pad_to zero v l = refl
length-pad_to (suc n) v [] = ap suc (length-pad_to n v [])
length-pad_to (suc n) v (x ∷ l) = ap suc (length-pad_to n v l)

pub pad_to-all : {A : Type 0} (n : ℕ) (v : A) (l : List A) → length l ≡ n → pad_to n v l ≡ l
unfolding pad_to
pad_to-all zero v [] h = refl
pad_to-all (suc n) v [] h = absurd (suc-ne-zero n (sym h))
pad_to-all zero v (x ∷ l) h = absurd (suc-ne-zero (length l) h)
pad_to-all (suc n) v (x ∷ l) h = ap (λ r. x ∷ r) (pad_to-all n v l (suc_inj h))

pub get_or-pad_to : {A : Type 0} (n : ℕ) (v d : A) (l : List A) (i : ℕ) → i < length l → i < n → get_or (pad_to n v l) i d ≡ get_or l i d
unfolding pad_to
get_or-pad_to zero v d l i h k = absurd (omega arith)
get_or-pad_to (suc n) v d [] i h k = absurd (omega arith)
get_or-pad_to (suc n) v d (x ∷ l) zero h k = refl
get_or-pad_to (suc n) v d (x ∷ l) (suc i) h k = get_or-pad_to n v d l i (le_of_suc-le-suc h) (le_of_suc-le-suc k)

module _ {A : Type 0} (v : A) where
  pub pad_to-set : (k : ℕ) (a : A) (i : ℕ) (p : List A) → length p ≡ k → p ≡ pad_to k v (take i p)
      → set p i a ≡ pad_to k v (take (suc i) (set p i a))
  unfolding pad_to
  pad_to-set zero a i [] e h = refl
  pad_to-set (suc k) a i [] e h = absurd (suc-ne-zero k (sym e))
  pad_to-set zero a i (x ∷ p) e h = absurd (suc-ne-zero (length p) e)
  pad_to-set (suc k) a zero (x ∷ p) e h = ap (λ l. a ∷ l) (ap tail h)
  pad_to-set (suc k) a (suc i) (x ∷ p) e h = ap (λ l. x ∷ l) (pad_to-set k a i p (suc_inj e) (ap tail h))

pub pad_to-more : {A : Type 0} (n : ℕ) (v : A) (l : List A) (x : A) → length l < n
    → set (pad_to n v l) (length l) x ≡ pad_to n v (l ++ x ∷ [])
unfolding pad_to
pad_to-more zero v l x h = absurd (not-suc-le-zero h)
pad_to-more (suc n) v [] x h = refl
pad_to-more (suc n) v (y ∷ l) x h = ap (λ r. y ∷ r) (pad_to-more n v l x (le_of_suc-le-suc h))

pub all-pad_to : {A : Type 0} (P : A → Type 0) (n : ℕ) (v : A) (l : List A) → P v → All P l → All P (pad_to n v l)
unfolding pad_to All
all-pad_to P zero v l h a = tt
all-pad_to P (suc n) v [] h a = (h, all-pad_to P n v [] h tt)
all-pad_to P (suc n) v (x ∷ l) h a = (a.0, all-pad_to P n v l h a.1)

pub take-pad_to : {A : Type 0} (n : ℕ) (v : A) (l : List A) → length l ≤ n → take (length l) (pad_to n v l) ≡ l
unfolding pad_to
take-pad_to n v [] h = refl
take-pad_to zero v (x ∷ l) h = absurd (not-suc-le-zero h)
take-pad_to (suc n) v (x ∷ l) h = ap (λ r. x ∷ r) (take-pad_to n v l (le_of_suc-le-suc h))

pub every-pad_to : {A : Type 0} (t : A → Bool) (n : ℕ) (v : A) → T (t v) → T (every t (pad_to n v []))
unfolding pad_to every
every-pad_to t zero v h = tt
every-pad_to t (suc n) v h = (T-&& (t v) _).1 (h, every-pad_to t n v h)

pub drop-pad_to : {A : Type 0} (t : A → Bool) (n : ℕ) (v : A) (l : List A) → T (t v) → T (every t (drop (length l) (pad_to n v l)))
unfolding pad_to every
drop-pad_to t n v [] h = every-pad_to t n v h
drop-pad_to t zero v (x ∷ l) h = tt
drop-pad_to t (suc n) v (x ∷ l) h = drop-pad_to t n v l h

pub pad-zeros : (l : List ℕ) → T (every (eqb 0) l) → pad_to (length l) 0 [] ≡ l
unfolding pad_to every
pad-zeros [] h = refl
pad-zeros (x ∷ l) h = let e = (T-&& (eqb 0 x) _).0 h in ap₂ ◌∷◌ (eqb→eq 0 x e.0) (pad-zeros l e.1)

pub pad-taken : (m : ℕ) (l : List ℕ) → T (every (eqb 0) (drop m l)) → pad_to (length l) 0 (take m l) ≡ l
unfolding pad_to
pad-taken zero l h = pad-zeros l h
pad-taken (suc m) [] h = refl
pad-taken (suc m) (x ∷ l) h = ap (λ r. x ∷ r) (pad-taken m l h)

-- ---- lists of one value

pub get_or-replicate-each : {A : Type 0} (P : A → Type 0) (n : ℕ) (x d : A) (i : ℕ) → P x → P d → P (get_or (replicate n x) i d)
get_or-replicate-each P zero x d i h k = k
get_or-replicate-each P (suc n) x d zero h k = h
get_or-replicate-each P (suc n) x d (suc i) h k = get_or-replicate-each P n x d i h k

pub replicate-snoc : {A : Type 0} (n : ℕ) (x : A) (l : List A) → replicate (suc n) x ++ l ≡ replicate n x ++ (x ∷ l)
replicate-snoc zero x l = refl
replicate-snoc (suc n) x l = ap (λ r. x ∷ r) (replicate-snoc n x l)
