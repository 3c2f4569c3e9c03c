-- Readers that accept exactly what is written, and how they are put together.
--
-- Main definitions
--   Exact read Good write    the reader reads what is written of the good values, and nothing else
--   Chain, chain_bytes        the good lists of things that are read one after another, and their bytes
--
-- Main statements
--   field-written, field-read, field-exact   one number with its separator
--   nothing-exact, then-exact                a reader that takes no bytes, and one reader after another
--   same-exact                               the good values and their bytes may be said otherwise
--   chain-exact, many-exact                  a counted list, of things that depend on those before them or of things alike
use Rattle.std.specs.Prelude.{◌≡◌, ℕ, zero, suc, ◌^◌, ◌<◌, Bool, true, false, cond, T, List, [], ◌∷◌, ◌++◌, map, length, ℤ, ◌==◌, unsigned_abs}
use Rattle.std.proofs.Common.{suc-ne-zero, arith, ◌∙◌, subst, eqb→eq}
use Rattle.std.proofs.Math.Nat.{suc_inj}
use Rattle.std.proofs.Math.Path.{refl, sym, ap, ap₂}
use mathlib.Core.List.{tail, flatten, append-nil, append_assoc, nil≢cons}
use Rattle.std.proofs.Math.Dec.{eqb_refl}
use Rattle.lists.specs.Everywhere.{All}
use Rattle.rules.specs.Numbers.{is_separator_of, word, after_word, is_number, number_of, decimal, Read, got, fault, then_read, judged, read_word}
use Rattle.rules.specs.Numbers.{read_separator, field}
use Rattle.lists.specs.Tests.{cond-passed}
use Rattle.tokens.specs.WrittenNumbers.{is_number-decimal, number_of-decimal, decimal-number_of, word-decimal}
use Rattle.tokens.specs.WrittenNumbers.{after_word-decimal, word-after_word}

-- The reader reads what is written of a good value, whatever follows; and where it reads a value, the value is good and the
-- bytes are those written of it.
pub record Exact {A : Type 0} (read : List ℕ → Read A) (Good : A → Type 0) (write : A → List ℕ) : Type 0 where
  pub read-written : (a : A) (rest : List ℕ) → Good a → read (write a ++ rest) ≡ got a rest
  pub written_read : (bytes : List ℕ) (a : A) (rest : List ℕ) → read bytes ≡ got a rest → Good a × (bytes ≡ write a ++ rest)

pub got-inj : {A : Type 0} (a b : A) (l m : List ℕ) → got a l ≡ got b m → (a ≡ b) × (l ≡ m)
got-inj a b l m e = (cc, cc)

pub fault-got : {A : Type 0} (n : ℕ) (a : A) (l : List ℕ) → ◌≡◌ {A = Read A} (fault n) (got a l) → ⊥
fault-got n a l e = let z : ◌≡◌ {A = ℕ} 0 1 = cc in omega arith

-- ---- one number

judged-zero : (n : ℕ) (v : ℤ) (bytes : List ℕ) → n ≡ 0 → judged n v bytes ≡ got v bytes
unfolding judged
judged-zero zero v bytes e = refl
judged-zero (suc n) v bytes e = absurd (suc-ne-zero n e)

judged-got : (n : ℕ) (v a : ℤ) (bytes rest : List ℕ) → judged n v bytes ≡ got a rest → (n ≡ 0) × (v ≡ a) × (bytes ≡ rest)
unfolding judged
judged-got zero v a bytes rest e = let f = got-inj v a bytes rest e in (refl, f.0, f.1)
judged-got (suc n) v a bytes rest e = absurd (fault-got (suc n) a rest e)

-- What was read in two steps.
pub got-in-two : {A B : Type 0} (r : Read A) (next : A → List ℕ → Read B) (b : B) (rest : List ℕ) → then_read r next ≡ got b rest
    → (a : A) × (more : List ℕ) × (r ≡ got a more) × (next a more ≡ got b rest)
unfolding then_read
got-in-two (got a more) next b rest e = (a, more, refl, e)
got-in-two (fault n) next b rest e = absurd (fault-got n b rest e)

read_word-got : (judge : ℤ → ℕ) (w after : List ℕ) (a : ℤ) (rest : List ℕ) → read_word judge w after ≡ got a rest
    → (judge a ≡ 0) × (w ≡ decimal a) × (after ≡ rest)
unfolding read_word
read_word-got judge w [] a rest e = absurd (fault-got _ a rest e)
read_word-got judge w (b ∷ bytes) a rest e = go (is_number w) (decimal-number_of w) e
  where
    go : (t : Bool) → (T t → decimal (number_of w) ≡ w)
        → cond t (judged (judge (number_of w)) (number_of w) (b ∷ bytes)) (fault 3) ≡ got a rest
        → (judge a ≡ 0) × (w ≡ decimal a) × (b ∷ bytes ≡ rest)
    go true d e =
        let f = judged-got (judge (number_of w)) (number_of w) a (b ∷ bytes) rest e in
        (ap judge (sym f.1) ∙ f.0, sym (d tt) ∙ ap decimal f.1, f.2)
    go false d e = absurd (fault-got 3 a rest e)

read_word-decimal : (judge : ℤ → ℕ) (a : ℤ) (b : ℕ) (rest : List ℕ) → unsigned_abs a < 10 ^ 10 → judge a ≡ 0
    → read_word judge (decimal a) (b ∷ rest) ≡ got a (b ∷ rest)
unfolding read_word
read_word-decimal judge a b rest h e =
    cond-passed (is_number (decimal a)) _ _ (is_number-decimal a h)
    ∙ ap (λ v. judged (judge v) v (b ∷ rest)) (number_of-decimal a)
    ∙ judged-zero (judge a) a (b ∷ rest) e

read_separator-same : (b : ℕ) (a : ℤ) (rest : List ℕ) → read_separator b a (b ∷ rest) ≡ got a rest
unfolding read_separator
read_separator-same b a rest = cond-passed (b == b) _ _ (eqb_refl b)

read_separator-got : (b : ℕ) (v a : ℤ) (bytes rest : List ℕ) → read_separator b v bytes ≡ got a rest → (v ≡ a) × (bytes ≡ b ∷ rest)
unfolding read_separator
read_separator-got b v a [] rest e = absurd (fault-got 4 a rest e)
read_separator-got b v a (c ∷ bytes) rest e = go (c == b) (eqb→eq c b) e
  where
    go : (t : Bool) → (T t → c ≡ b) → cond t (got v bytes) (fault 3) ≡ got a rest → (v ≡ a) × (c ∷ bytes ≡ b ∷ rest)
    go true d e = let f = got-inj v a bytes rest e in (f.0, ap₂ (λ x l. x ∷ l) (d tt) f.1)
    go false d e = absurd (fault-got 3 a rest e)

module _ (judge follow : ℤ → ℕ) where
  pub field-written : (a : ℤ) (rest : List ℕ) → unsigned_abs a < 10 ^ 10 → judge a ≡ 0 → T (is_separator_of (follow a))
      → field judge follow (decimal a ++ (follow a ∷ rest)) ≡ got a rest
  unfolding field then_read
  field-written a rest h i j =
      ap₂ (λ w after. then_read (read_word judge w after) (λ v more. read_separator (follow v) v more))
      (word-decimal a (follow a) rest j) (after_word-decimal a (follow a) rest j)
      ∙ ap (λ r. then_read r (λ v more. read_separator (follow v) v more)) (read_word-decimal judge a (follow a) rest h i)
      ∙ read_separator-same (follow a) a rest

  pub field-read : (bytes : List ℕ) (a : ℤ) (rest : List ℕ) → field judge follow bytes ≡ got a rest
      → (judge a ≡ 0) × (bytes ≡ decimal a ++ (follow a ∷ rest))
  unfolding field
  field-read bytes a rest e =
      let (v, more, d, f) = got-in-two (read_word judge (word bytes) (after_word bytes))
      (λ v more. read_separator (follow v) v more) a rest e in
      let g = read_separator-got (follow v) v a more rest f in
      let h = read_word-got judge (word bytes) (after_word bytes) v more d in (
        ap judge (sym g.0) ∙ h.0,
        sym (word-after_word bytes)
            ∙ ap₂ (λ w after. w ++ after) (h.1 ∙ ap decimal g.0) (h.2 ∙ g.1 ∙ ap (λ x. follow x ∷ rest) g.0),
      )

  -- A number with its separator, where the values that are judged right have at most ten digits.
  pub field-exact : ((a : ℤ) → judge a ≡ 0 → unsigned_abs a < 10 ^ 10) → ((a : ℤ) → T (is_separator_of (follow a)))
      → Exact (field judge follow) (λ a. judge a ≡ 0) (λ a. decimal a ++ (follow a ∷ []))
  field-exact few parted =
      record {
        read-written = λ a rest h.
            ap (field judge follow) (append_assoc (decimal a) (follow a ∷ []) rest) ∙ field-written a rest (few a h) h (parted a);
        written_read = λ bytes a rest e.
            let f = field-read bytes a rest e in
            (f.0, f.1 ∙ sym (append_assoc (decimal a) (follow a ∷ []) rest));
      }

-- ---- readers put together

-- Nothing is read.
pub nothing-exact : {A : Type 0} (a : A) → Exact (got a) (λ b. b ≡ a) (λ _. [])
nothing-exact a =
    record {
      read-written = λ b rest e. ap (λ x. got x rest) (sym e);
      written_read = λ bytes b rest e. let f = got-inj a b bytes rest e in (sym f.0, f.1);
    }

-- One reader after another; what the first read is picked from the whole.
pub then-exact : {A B : Type 0} {read : List ℕ → Read A} {Good : A → Type 0} {write : A → List ℕ} {next : A → List ℕ → Read B}
    {Best : A → B → Type 0} {add : A → B → List ℕ} (pick : B → A)
    → Exact read Good write → ((a : A) (b : B) → Good a → Best a b → a ≡ pick b) → ((a : A) → Good a → Exact (next a) (Best a) (add a))
    → Exact (λ bytes. then_read (read bytes) next) (λ b. Good (pick b) × Best (pick b) b) (λ b. write (pick b) ++ add (pick b) b)
unfolding then_read
then-exact {read = read} {Good = Good} {write = write} {next = next} {Best = Best} {add = add} pick first same second =
    record {
      read-written = λ b rest h.
          ap (λ l. then_read (read l) next) (append_assoc (write (pick b)) (add (pick b) b) rest)
          ∙ ap (λ r. then_read r next) (first.read-written (pick b) (add (pick b) b ++ rest) h.0)
          ∙ (second (pick b) h.0).read-written b rest h.1;
      written_read = λ bytes b rest e.
          let (a, more, d, f) = got-in-two (read bytes) next b rest e in
          let g = first.written_read bytes a more d in
          let h = (second a g.0).written_read more b rest f in
          subst (λ x. (Good x × Best x b) × (bytes ≡ (write x ++ add x b) ++ rest)) (same a b g.0 h.0)
          ((g.0, h.0), g.1 ∙ ap (λ l. write a ++ l) h.1 ∙ sym (append_assoc (write a) (add a b) rest));
    }

-- The same reader, with its good values and its bytes said otherwise.
pub same-exact : {A : Type 0} {read : List ℕ → Read A} {Good : A → Type 0} {write : A → List ℕ}
    (other : List ℕ → Read A) (Best : A → Type 0) (bytes : A → List ℕ) → Exact read Good write → ((l : List ℕ) → other l ≡ read l)
    → ((a : A) → Best a → Good a) → ((a : A) → Good a → Best a) → ((a : A) → Good a → bytes a ≡ write a) → Exact other Best bytes
same-exact {read = read} other Best bytes x law good best same =
    record {
      read-written = λ a rest h.
          law (bytes a ++ rest) ∙ ap (λ l. read (l ++ rest)) (same a (good a h)) ∙ x.read-written a rest (good a h);
      written_read = λ l a rest e.
          let f = x.written_read l a rest (sym (law l) ∙ e) in
          (best a f.0, f.1 ∙ ap (λ b. b ++ rest) (sym (same a f.0)));
    }

-- ---- lists

-- The first member as g gives it, and `blank` of no list.
first : {X A : Type 0} → (A → X) → X → List A → X
first g blank [] = blank
first g blank (a ∷ l) = g a

-- A list of things each of which is read in the light of those before it: `step` takes a state past a thing, and a thing's
-- reader knows how many are still to come.
module _ {S X A : Type 0} (step : S → X → S) (g : A → X) (Good : S → ℕ → X → Type 0) where
  unfoldable pub Chain : S → List A → Type 0
  Chain s [] = Unit {0}
  Chain s (a ∷ l) = Good s (length l) (g a) × Chain (step s (g a)) l

unfoldable pub chain_bytes : {X A : Type 0} → (A → X) → (ℕ → X → List ℕ) → List A → List ℕ
chain_bytes g write [] = []
chain_bytes g write (a ∷ l) = write (length l) (g a) ++ chain_bytes g write l

-- `many` is given by its two clauses. A thing x is listed as f x, and g takes f back.
module _ {S X A : Type 0} (read : S → ℕ → List ℕ → Read X) (many : S → ℕ → List ℕ → Read (List A)) (step : S → X → S)
    (f : X → A) (g : A → X) (blank : X)
    (none : (s : S) (bytes : List ℕ) → many s 0 bytes ≡ got [] bytes)
    (some : (s : S) (k : ℕ) (bytes : List ℕ)
    → many s (suc k) bytes ≡ then_read (read s k bytes) λ x rest. then_read (many (step s x) k rest) λ l more. got (f x ∷ l) more)
    {Good : S → ℕ → X → Type 0} {write : ℕ → X → List ℕ} (each : (s : S) (k : ℕ) → Exact (read s k) (Good s k) (write k))
    (gf : (s : S) (k : ℕ) (x : X) → Good s k x → g (f x) ≡ x) (fg : (a : A) → f (g a) ≡ a) where
  pub chain-exact : (k : ℕ) (s : S) → Exact (many s k) (λ l. (length l ≡ k) × Chain step g Good s l) (chain_bytes g write)
  unfolding Chain chain_bytes first
  chain-exact zero s =
      same-exact (many s 0) (λ l. (length l ≡ 0) × Chain step g Good s l) (chain_bytes g write) (nothing-exact []) (none s) good best bytes
    where
      good : (l : List A) → (length l ≡ 0) × Chain step g Good s l → l ≡ []
      good [] h = refl
      good (a ∷ l) h = absurd (suc-ne-zero (length l) h.0)

      best : (l : List A) → l ≡ [] → (length l ≡ 0) × Chain step g Good s l
      best l e = rw e (refl, tt)

      bytes : (l : List A) → l ≡ [] → chain_bytes g write l ≡ []
      bytes l e = ap (chain_bytes g write) e
  chain-exact (suc k) s =
      same-exact (many s (suc k)) (λ l. (length l ≡ suc k) × Chain step g Good s l) (chain_bytes g write)
      (then-exact (first g blank) (each s k) same λ x h.
      then-exact tail (chain-exact k (step s x)) (λ l b _ e. ap tail (sym e)) λ l _. nothing-exact (f x ∷ l))
      (some s k) good best bytes
    where
      Whole : List A → Type 0
      Whole b =
          Good s k (first g blank b)
          × (((length (tail b) ≡ k) × Chain step g Good (step s (first g blank b)) (tail b)) × (b ≡ f (first g blank b) ∷ tail b))

      same : (x : X) (b : List A) → Good s k x
          → ((length (tail b) ≡ k) × Chain step g Good (step s x) (tail b)) × (b ≡ f x ∷ tail b) → x ≡ first g blank b
      same x b h e = sym (gf s k x h) ∙ ap (first g blank) (sym e.1)

      good : (b : List A) → (length b ≡ suc k) × Chain step g Good s b → Whole b
      good [] h = absurd (suc-ne-zero k (sym h.0))
      good (a ∷ l) h =
          let e = suc_inj h.0 in
          (subst (λ n. Good s n (g a)) e h.1.0, ((e, h.1.1), ap (λ x. x ∷ l) (sym (fg a))))

      best : (b : List A) → Whole b → (length b ≡ suc k) × Chain step g Good s b
      best [] h = absurd (nil≢cons h.1.1)
      best (a ∷ l) h = (ap suc h.1.0.0, (subst (λ n. Good s n (g a)) (sym h.1.0.0) h.0, h.1.0.1))

      bytes : (b : List A) → Whole b → chain_bytes g write b ≡ write k (first g blank b) ++ (chain_bytes g write (tail b) ++ [])
      bytes [] h = absurd (nil≢cons h.1.1)
      bytes (a ∷ l) h = ap₂ (λ n r. write n (g a) ++ r) h.1.0.0 (sym (append-nil (chain_bytes g write l)))

-- Things of one kind, each read as the others.
module _ {A : Type 0} (read : List ℕ → Read A) (many : ℕ → List ℕ → Read (List A)) (blank : A)
    (none : (bytes : List ℕ) → many 0 bytes ≡ got [] bytes)
    (some : (k : ℕ) (bytes : List ℕ)
    → many (suc k) bytes ≡ then_read (read bytes) λ a rest. then_read (many k rest) λ l more. got (a ∷ l) more) where
  pub many-exact : {Good : A → Type 0} {write : A → List ℕ} → Exact read Good write
      → (k : ℕ) → Exact (many k) (λ l. (length l ≡ k) × All Good l) (λ l. flatten (map write l))
  unfolding All Chain chain_bytes flatten
  many-exact {Good} {write} each k =
      same-exact (many k) (λ l. (length l ≡ k) × All Good l) (λ l. flatten (map write l))
      (chain-exact {S = Unit {0}} (λ _ _. read) (λ _. many) (λ s _. s) (λ a. a) (λ a. a) blank (λ _. none) (λ _. some) (λ _ _. each)
      (λ _ _ _ _. refl)
      (λ _. refl) k tt)
      (λ _. refl) (λ l h. (h.0, good l h.1)) (λ l h. (h.0, best l h.1)) (λ l _. bytes l)
    where
      good : (l : List A) → All Good l → Chain {S = Unit {0}} (λ s _. s) (λ a. a) (λ _ _. Good) tt l
      good [] h = tt
      good (a ∷ l) h = (h.0, good l h.1)

      best : (l : List A) → Chain {S = Unit {0}} (λ s _. s) (λ a. a) (λ _ _. Good) tt l → All Good l
      best [] h = tt
      best (a ∷ l) h = (h.0, best l h.1)

      bytes : (l : List A) → flatten (map write l) ≡ chain_bytes (λ a. a) (λ _. write) l
      bytes [] = refl
      bytes (a ∷ l) = ap (λ r. write a ++ r) (bytes l)
