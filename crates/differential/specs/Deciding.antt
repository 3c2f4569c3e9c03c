-- Readers for which so many bytes decide, put together from those of single numbers.
--
-- Main definitions
--   Decides most Good read   `most` bytes decide what is read; no more are taken, and what is read is good
--   Closes most Good read    the same of a reader that wants the bytes to end: one byte more than `most` is a fault, and
--                            decides
--
-- Main statements
--   field-decides, nothing-decides, then-decides   one number; nothing; one reader after another
--   more-decides, weaken-decides   a larger bound; less that is asked of what is read
--   then-closes              a reader that closes after one that decides
--   closes-window, closes-refused   so many bytes, and one more, are read as all bytes are; where there are so many it is a
--                            fault
use Rattle.std.specs.Prelude.{ℕ, suc, ◌+◌, ◌-◌, ◌≤◌, ◌<◌, ◌≡◌, refl, List, ◌++◌, length, take, drop, ℤ}
use Rattle.std.proofs.Common.{le_trans, eq-zero-or-pos, arith, sym, ◌∙◌, ap, subst, ⊎_elim, length-append, length-take, take-append-drop, take_all}
use Rattle.rules.specs.Numbers.{Read, got, fault, then_read, field}
use Rattle.tokens.specs.Exact.{got-inj, field-read, got-in-two}
use Rattle.tokens.specs.Windows.{followed, number_line, field-longer, field-taken, Taken}

pub record Decides {A : Type 0} (most : ℕ) (Good : A → Type 0) (read : List ℕ → Read A) : Type 0 where
  pub longer : (w x : List ℕ) → most ≤ length w → read (w ++ x) ≡ followed (read w) x
  pub few : (bytes : List ℕ) (a : A) (rest : List ℕ) → read bytes ≡ got a rest → length bytes ≤ most + length rest
  pub good : (bytes : List ℕ) (a : A) (rest : List ℕ) → read bytes ≡ got a rest → Good a

-- A minus, ten digits and the separator.
pub field-decides : (judge follow : ℤ → ℕ) → Decides number_line (λ v. judge v ≡ 0) (field judge follow)
field-decides judge follow =
    record {
      longer = field-longer judge follow;
      few = λ bytes a rest e. taken (field-taken judge follow bytes a rest e);
      good = λ bytes a rest e. (field-read judge follow bytes a rest e).0;
    }
  where
    taken : {bytes rest : List ℕ} → Taken number_line bytes rest → length bytes ≤ number_line + length rest
    taken {rest = rest} t = omega (arith, t.few, ap length t.whole, length-append t.front rest)

pub nothing-decides : {A : Type 0} {Good : A → Type 0} (a : A) → Good a → Decides 0 Good (got a)
unfolding followed
nothing-decides {Good = Good} a h =
    record {
      longer = λ w x _. refl;
      few = λ bytes b rest e. omega (arith, ap length (got-inj a b bytes rest e).1);
      good = λ bytes b rest e. subst Good (got-inj a b bytes rest e).0 h;
    }

pub more-decides : {A : Type 0} {Good : A → Type 0} {read : List ℕ → Read A} {j k : ℕ} → j ≤ k
    → Decides j Good read → Decides k Good read
more-decides h d =
    record {
      longer = λ w x i. d.longer w x (le_trans h i);
      few = λ bytes a rest e. omega (arith, d.few bytes a rest e);
      good = d.good;
    }

pub weaken-decides : {A : Type 0} {Good Best : A → Type 0} {read : List ℕ → Read A} {k : ℕ} → ((a : A) → Good a → Best a)
    → Decides k Good read → Decides k Best read
weaken-decides f d = record { longer = d.longer; few = d.few; good = λ bytes a rest e. f a (d.good bytes a rest e) }

pub then-decides : {A B : Type 0} {Good : A → Type 0} {Best : B → Type 0}
    {read : List ℕ → Read A} {next : A → List ℕ → Read B} {j k : ℕ}
    → Decides j Good read → ((a : A) → Good a → Decides k Best (next a))
    → Decides (j + k) Best (λ bytes. then_read (read bytes) next)
unfolding then_read followed
then-decides {A} {read = read} {next = next} {j = j} {k = k} first second =
    record {
      longer = λ w x h. ap (λ r. then_read r next) (first.longer w x (omega arith)) ∙ go w x h (read w) refl;
      few = λ bytes b rest e.
          let (a, more, d, f) = got-in-two (read bytes) next b rest e in
          let s = second a (first.good bytes a more d) in
          omega (arith, first.few bytes a more d, s.few more b rest f);
      good = λ bytes b rest e.
          let (a, more, d, f) = got-in-two (read bytes) next b rest e in
          (second a (first.good bytes a more d)).good more b rest f;
    }
  where
    go : (w x : List ℕ) → j + k ≤ length w → (r : Read A) → read w ≡ r
        → then_read (followed r x) next ≡ followed (then_read r next) x
    go w x h (got a rest) e = (second a (first.good w a rest e)).longer rest x (omega (arith, first.few w a rest e))
    go w x h (fault n) e = refl

-- ---- readers that want the bytes to end

pub record Closes {A : Type 0} (most : ℕ) (Good : A → Type 0) (read : List ℕ → Read A) : Type 0 where
  pub longer : (w x : List ℕ) → most < length w → read (w ++ x) ≡ read w
  pub few : (bytes : List ℕ) (a : A) (rest : List ℕ) → read bytes ≡ got a rest → length bytes ≤ most
  pub good : (bytes : List ℕ) (a : A) (rest : List ℕ) → read bytes ≡ got a rest → Good a

pub then-closes : {A B : Type 0} {Good : A → Type 0} {Best : B → Type 0}
    {read : List ℕ → Read A} {next : A → List ℕ → Read B} {j k : ℕ}
    → Decides j Good read → ((a : A) → Good a → Closes k Best (next a))
    → Closes (j + k) Best (λ bytes. then_read (read bytes) next)
unfolding then_read followed
then-closes {A} {read = read} {next = next} {j = j} {k = k} first second =
    record {
      longer = λ w x h. ap (λ r. then_read r next) (first.longer w x (omega arith)) ∙ go w x h (read w) refl;
      few = λ bytes b rest e.
          let (a, more, d, f) = got-in-two (read bytes) next b rest e in
          let s = second a (first.good bytes a more d) in
          omega (arith, first.few bytes a more d, s.few more b rest f);
      good = λ bytes b rest e.
          let (a, more, d, f) = got-in-two (read bytes) next b rest e in
          (second a (first.good bytes a more d)).good more b rest f;
    }
  where
    go : (w x : List ℕ) → j + k < length w → (r : Read A) → read w ≡ r → then_read (followed r x) next ≡ then_read r next
    go w x h (got a rest) e = (second a (first.good w a rest e)).longer rest x (omega (arith, first.few w a rest e))
    go w x h (fault n) e = refl

-- The first bytes, one more than those that decide, are read as all are: with fewer bytes they are all.
module _ {A : Type 0} {Good : A → Type 0} {read : List ℕ → Read A} {most : ℕ} (c : Closes most Good read)
    (bytes : List ℕ) where
  pub closes-window : read (take (suc most) bytes) ≡ read bytes
  closes-window =
      ⊎_elim (λ h. ap read (take_all (suc most) bytes (omega arith))) (λ h. long (omega arith))
      (eq-zero-or-pos (length bytes - suc most))
    where
      long : suc most ≤ length bytes → read (take (suc most) bytes) ≡ read bytes
      long h =
          sym (c.longer (take (suc most) bytes) (drop (suc most) bytes) (rw (length-take (suc most) bytes) (omega arith)))
          ∙ ap read (take-append-drop (suc most) bytes)

  -- So many bytes are a fault.
  pub closes-refused : most < length bytes → (n : ℕ) × (read bytes ≡ fault n)
  closes-refused h = go (read bytes) refl
    where
      go : (r : Read A) → read bytes ≡ r → (n : ℕ) × (r ≡ fault n)
      go (got a rest) e = absurd (omega (arith, c.few bytes a rest e))
      go (fault n) e = (n, refl)
