-- A number with its judgement and its separator, read from a place in the bytes; and the laws of reading one thing after another.
--
-- Main definitions
--   read_in, Reads         what a result says of what was to be read, by the value and the next place in it
--   FoundIn                the same of a result with a number
--   Judges, Follows        the calls of a judge give a judgement, and those of another function the separator after a value
--   read_number_of, NumberAt  a number not yet judged
--   closing                what is done with it: its judgement, and the separator that has to follow
--
-- Main statements
--   closing-refused, closing-judged, closing-wrong, closing-right   the number's own refusal, its judgement and its separator, in that order
--   field-unread, field-refused, field-separated, answers-field   a field is a number, its judgement and its separator
--   field-judged          a number that was read as a field has passed its judgement
--   then-cong, then-then, then-parts   one thing read after another
--   between-zero          what a range lets through
use Rattle.std.specs.Prelude.{◌≡◌, ℕ, zero, suc, ◌+◌, ◌-◌, ◌<◌, ◌≤◌, Bool, true, false, cond, ◌&&◌, T, List, [], ◌∷◌, length, drop, ℤ, pos, negsuc, neg_ℤ, ◌≤ℤ◌, FitsSigned, ◌==◌, ◌≢◌, int_le, nat_le, nat_lt, slice_index, slice_index_or, unsigned_abs}
use Rattle.std.proofs.Common.{suc-ne-zero, add-one, arith, ap₂, ◌∙◌, subst, eq-eqb, ne_eqb, leb-true, of_z, to_z, to_z-of_z}
use Rattle.std.proofs.Math.Path.{refl, sym, ap}
use Rattle.std.proofs.Math.Bool.{and-false}
use Rattle.std.proofs.Math.Seq.{slice, drop-cons, drop-length}
use Rattle.std.specs.Int.Signed.{non_neg, le_z_yes}
use Rattle.std.specs.Int.{w64}
use Rattle.algebra.specs.Order.{≤ℤ-trans, nat_abs-≤-iff}
use Rattle.lists.specs.Tests.{both_true}
use Rattle.std.specs.Prelude.{Result, IfOk, IsErrAnd, ⊤}
use Rattle.std.proofs.Common.{Ok, Err}
use Rattle.refusals.specs.Refusals.{number_of as refusal_number, refusal_in, number-nonzero}
use Rattle.refusals.specs.declared.Refusal.{Refusal}
use Rattle.tokens.specs.declared.Found.{Found}
use Rattle.rules.specs.Numbers.{is_separator_of, word, after_word, digits, starts_right_of, begins_number, is_number, number_of, Read, got, fault}
use Rattle.rules.specs.Numbers.{then_read, judged, read_word, read_separator, field, between}
use Rattle.tokens.specs.Tokens.{DigitsStart, DigitsTo, Stopped, token-cut, token-stops, digits-followed, begins-is, number_is}
use Rattle.tokens.specs.Tokens.{number-of, unjudged}

-- ---- what a call answers

-- A refusal of 0 gives the value and the bytes from the next place on; another gives that fault, whatever stands beside it.
unfoldable pub read_of : {A : Type 0} → List ℕ → ℕ → A → ℕ → Read A
read_of bytes zero v at = got v (drop at bytes)
read_of bytes (suc n) v at = fault (suc n)

pub fault-of : {A : Type 0} (bytes : List ℕ) (n : ℕ) (v : A) (at : ℕ) → (n ≢ 0) → read_of bytes n v at ≡ fault n
unfolding read_of
fault-of bytes zero v at h = absurd (h refl)
fault-of bytes (suc n) v at h = refl

module _ {A B : Type 0} (bytes : List ℕ) (value : A → B) (place : A → ℕ) where
  -- A value and the bytes from the place behind it on, or the fault that the refusal is.
  unfoldable pub read_in : Result A Refusal → Read B
  read_in (Ok a) = got (value a) (drop (place a) bytes)
  read_in (Err r) = fault (refusal_number r)

  -- What was answered is what was to be read, and the next place is one of the bytes.
  pub record Reads (result : Result A Refusal) (expected : Read B) : Type 0 where
    pub answer : read_in result ≡ expected
    pub within : IfOk result (λ a. place a ≤ length bytes)

-- The same of a result with a number.
abbrev pub FoundIn : List ℕ → Result Found Refusal → Read ℤ → Type 0
FoundIn bytes result expected = Reads bytes (λ n. n.value) (λ n. n.at) result expected

-- Each call of a judge gives the judgement.
abbrev pub Judges : (ℤ → Result ⊤ Refusal → Type 0) → (ℤ → ℕ) → Type 0
Judges P judge = (v : ℤ) → FitsSigned w64 v → (r : Result ⊤ Refusal) → P v r → refusal_in r ≡ judge v

-- Each call of a function gives the separator that follows a value.
abbrev pub Follows : (ℤ → ℕ → Type 0) → (ℤ → ℕ) → Type 0
Follows P follow = (v : ℤ) → FitsSigned w64 v → (b : ℕ) → P v b → b ≡ follow v

-- The judgement of a value, as the code passes it.
pub judge-at : {P : ℤ → Result ⊤ Refusal → Type 0} {judge : ℤ → ℕ} → ((v : ℤ) → FitsSigned w64 v → (r : Result ⊤ Refusal) → P v r → refusal_in r ≡ judge v)
    → {v : ℤ} → FitsSigned w64 v → (r : Result ⊤ Refusal) → P (to_z w64 (of_z w64 v)) r → refusal_in r ≡ judge v
judge-at {P} judges {v} fits r h = judges v fits r (subst (λ v. P v r) (to_z-of_z fits) h)

pub follow-at : {P : ℤ → ℕ → Type 0} {follow : ℤ → ℕ} → ((v : ℤ) → FitsSigned w64 v → (b : ℕ) → P v b → b ≡ follow v)
    → {v : ℤ} → FitsSigned w64 v → (b : ℕ) → P (to_z w64 (of_z w64 v)) b → b ≡ follow v
follow-at {P} follows {v} fits b h = follows v fits b (subst (λ v. P v b) (to_z-of_z fits) h)

-- A refusal that a `?` hands on.
pub handed-on : {A : Type 0} (result : Result A Refusal) {r : Refusal} → IsErrAnd result (λ e. e ≡ r) → result ≡ Err r
handed-on (Ok a) same = absurd same
handed-on (Err e) same = ap (λ e. Err e) same

-- An answer that is a refusal, and one that is none.
module _ {A B : Type 0} {bytes : List ℕ} {value : A → B} {place : A → ℕ} {expected : Read B} where
  pub read-err : {r : Refusal} → Reads bytes value place (Err r) expected → expected ≡ fault (refusal_number r)
  unfolding read_in
  read-err e = sym e.answer

  pub read-ok : {a : A} → Reads bytes value place (Ok a) expected → expected ≡ got (value a) (drop (place a) bytes)
  unfolding read_in
  read-ok e = sym e.answer

  pub read-within : {a : A} → Reads bytes value place (Ok a) expected → place a ≤ length bytes
  read-within e = e.within

  -- A function that refuses, and one that has read a.
  pub fails : {r : Refusal} → expected ≡ fault (refusal_number r) → Reads bytes value place (Err r) expected
  unfolding read_in
  fails e = record { answer = sym e; within = tt }

  -- A function that hands on a refusal.
  pub fails-on : (result : Result A Refusal) (r : Refusal) → IsErrAnd result (λ e. e ≡ r) → expected ≡ fault (refusal_number r)
      → Reads bytes value place result expected
  fails-on (Ok a) r same f = absurd same
  fails-on (Err e) r same f = fails (f ∙ ap (λ e. fault (refusal_number e)) (sym same))

  -- What is made of a value that was read.
  pub reads-made : {C : Type 0} (make : B → C) {result : Result A Refusal} → Reads bytes value place result expected
      → Reads bytes (λ a. make (value a)) place result (then_read expected (λ b rest. got (make b) rest))
  unfolding read_in then_read
  reads-made make {result} e = record { answer = made result ∙ ap (λ r. then_read r (λ b rest. got (make b) rest)) e.answer; within = e.within }
    where
      made : (r : Result A Refusal) → read_in bytes (λ a. make (value a)) place r
          ≡ then_read (read_in bytes value place r) (λ b rest. got (make b) rest)
      made (Ok a) = refl
      made (Err r) = refl

  pub reads : {a : A} {w : B} → value a ≡ w → expected ≡ got w (drop (place a) bytes) → place a ≤ length bytes
      → Reads bytes value place (Ok a) expected
  unfolding read_in
  reads {a} same e h = record { answer = ap (λ v. got v (drop (place a) bytes)) same ∙ sym e; within = h }

  pub reads-as : {result : Result A Refusal} {other : Read B} → Reads bytes value place result expected → expected ≡ other
      → Reads bytes value place result other
  reads-as a e = record { answer = a.answer ∙ e; within = a.within }

module _ {A B : Type 0} (f : A → List ℕ → Read B) where
  pub then-got : {r : Read A} {a : A} {rest : List ℕ} → r ≡ got a rest → then_read r f ≡ f a rest
  unfolding then_read
  then-got e = ap (λ r. then_read r f) e

  pub then-fault : {r : Read A} {n : ℕ} → r ≡ fault n → then_read r f ≡ fault n
  unfolding then_read
  then-fault e = ap (λ r. then_read r f) e

-- ---- one field

-- A number, not yet judged, and the bytes from its separator on.
unfoldable pub read_number_of : List ℕ → Read ℤ
unfolding read_word word after_word
read_number_of bytes = read_word unjudged (word bytes) (after_word bytes)

-- The answer to reading a number at a place.
pub record NumberAt (bytes : List ℕ) (at : ℕ) (result : Result Found Refusal) : Type 0 where
  pub answer : read_in bytes (λ n. n.value) (λ n. n.at) result ≡ read_number_of (drop at bytes)
  pub separator : IfOk result (λ n. n.at < length bytes)

-- What is done with a number that was read: its judgement, and the separator that has to follow.
unfoldable pub closing : ℕ → ℕ → ℤ → List ℕ → Read ℤ
unfolding then_read judged read_separator
closing judgement separator v rest = then_read (judged judgement v rest) (read_separator separator)

-- What cannot begin a number is 3, be a separator behind it or not (SCOPE 4.32, 4.33).
not-begun : (w rest : List ℕ) → begins_number w ≡ false → read_word unjudged w rest ≡ fault 3
unfolding read_word is_number
not-begun w [] e = rw e
not-begun w (b ∷ rest) e = rw (e, and-false (nat_le 1 (length (digits w))))

module _ (bytes : List ℕ) (at from end v : ℕ) (start : DigitsStart bytes at from) (read : DigitsTo bytes from end v) where
  pub number-followed : end < length bytes → is_separator_of (slice_index bytes end) ≡ false → Stopped bytes from end
      → read_number_of (drop at bytes) ≡ fault 3
  unfolding read_number_of
  number-followed h e stopped = not-begun (word (drop at bytes)) (after_word (drop at bytes))
      (digits-followed bytes at from end v start read h e stopped)

  -- Bytes that end before the separator are 4 where they could begin a number, 3 where not (SCOPE 4.32).
  pub number_cut : end ≡ length bytes → read_number_of (drop at bytes) ≡ fault (cond (starts_right_of (nat_lt at from) (slice from end bytes)) 4 3)
  unfolding read_number_of read_word
  number_cut e =
      let t = token-cut bytes from end read.token (omega arith) in
      ap (read_word unjudged (word (drop at bytes))) (start.rest ∙ t.rest ∙ ap (λ k. drop k bytes) e ∙ drop-length bytes)
      ∙ ap (λ t. fault (cond t 4 3)) (begins-is bytes at from end v start read t)

  module _ (h : end < length bytes) (e : is_separator_of (slice_index bytes end) ≡ true) where
    pub number-whole : read_number_of (drop at bytes)
        ≡ cond (nat_le 1 (end - from) && starts_right_of (nat_lt at from) (slice from end bytes))
        (got (cond (nat_lt at from) (neg_ℤ (pos v)) (pos v)) (drop end bytes)) (fault 3)
    unfolding read_number_of read_word unjudged
    number-whole =
        let t = token-stops bytes from end read.token h e in
        ap (read_word unjudged (word (drop at bytes))) (start.rest ∙ t.rest ∙ drop-cons bytes end 0 h)
        ∙ rw (number_is bytes at from end v start read t, number-of bytes at from end v start read t, drop-cons bytes end 0 h)

-- A call that finds no number, and one that finds v.
module _ {bytes : List ℕ} {at : ℕ} where
  pub number-fails : {r : Refusal} → read_number_of (drop at bytes) ≡ fault (refusal_number r) → NumberAt bytes at (Err r)
  unfolding read_in
  number-fails e = record { answer = sym e; separator = tt }

  pub number-err : {r : Refusal} → NumberAt bytes at (Err r) → read_number_of (drop at bytes) ≡ fault (refusal_number r)
  unfolding read_in
  number-err e = sym e.answer

  pub number-ok : {n : Found} → NumberAt bytes at (Ok n) → read_number_of (drop at bytes) ≡ got n.value (drop n.at bytes)
  unfolding read_in
  number-ok e = sym e.answer

-- A judge that refuses, and one that lets a value pass.
module _ {A : Type 0} {result : Result A Refusal} {n : ℕ} (same : refusal_in result ≡ n) where
  pub judge-err : {r : Refusal} → result ≡ Err r → n ≡ refusal_number r
  judge-err e = sym same ∙ ap refusal_in e

  pub judge-ok : {a : A} → result ≡ Ok a → n ≡ 0
  judge-ok e = sym same ∙ ap refusal_in e

-- A field is a number, its judgement and its separator: the first that is wrong tells the fault (SCOPE 4.33, 4.34, 4.36).
module _ (judge follow : ℤ → ℕ) where
  judged_then : ℤ → List ℕ → Read ℤ
  judged_then v rest = then_read (judged (judge v) v rest) (λ u more. read_separator (follow u) u more)

  field-split : (w rest : List ℕ)
      → then_read (read_word unjudged w rest) judged_then
      ≡ then_read (read_word judge w rest) (λ v more. read_separator (follow v) v more)
  unfolding then_read read_word unjudged judged judged_then
  field-split w [] = refl
  field-split w (b ∷ rest) = by (is_number w)
    where
      by : (t : Bool)
          → then_read (cond t (got (number_of w) (b ∷ rest)) (fault 3)) judged_then
          ≡ then_read (cond t (judged (judge (number_of w)) (number_of w) (b ∷ rest)) (fault 3)) (λ v more. read_separator (follow v) v more)
      by true = refl
      by false = refl

  field-is : (bytes : List ℕ) → field judge follow bytes ≡ then_read (read_number_of bytes) judged_then
  unfolding field read_number_of
  field-is bytes = sym (field-split (word bytes) (after_word bytes))

  module _ (bytes : List ℕ) where
    pub field-unread : {n : ℕ} → read_number_of bytes ≡ fault n → field judge follow bytes ≡ fault n
    field-unread e = field-is bytes ∙ then-fault judged_then e

    module _ {v : ℤ} {rest : List ℕ} (read : read_number_of bytes ≡ got v rest) where
      pub field-refused : (r : Refusal) → judge v ≡ refusal_number r → field judge follow bytes ≡ fault (refusal_number r)
      unfolding judged_then judged
      field-refused r e = field-is bytes ∙ then-got judged_then read ∙ then-fault _ (by (judge v) (λ z. number-nonzero r (sym e ∙ z)) ∙ ap fault e)
        where
          by : (j : ℕ) → (j ≢ 0) → judged j v rest ≡ fault j
          by zero h = absurd (h refl)
          by (suc j) h = refl

      pub field-separated : {separator : ℕ} → judge v ≡ 0 → separator ≡ follow v → read_separator separator v rest ≡ field judge follow bytes
      unfolding judged_then judged
      field-separated z s =
          ap (λ b. read_separator b v rest) s
          ∙ sym (field-is bytes ∙ then-got judged_then read
          ∙ then-got (λ u more. read_separator (follow u) u more) (ap (λ j. judged j v rest) z))

  closing-field : (v : ℤ) (rest : List ℕ) (n : ℕ)
      → closing n (follow v) v rest ≡ then_read (judged n v rest) (λ u more. read_separator (follow u) u more)
  unfolding closing then_read judged
  closing-field v rest zero = refl
  closing-field v rest (suc n) = refl

  -- What `separated` answers is a field, where it is told the judgement and the separator of the number.
  pub answers-field : {bytes : List ℕ} {at : ℕ} {n : Found} {judgement separator : ℕ} {result : Result Found Refusal}
      → NumberAt bytes at (Ok n) → judgement ≡ judge n.value → separator ≡ follow n.value
      → FoundIn bytes result (then_read (read_in bytes (λ f. f.value) (λ f. f.at) (Ok n)) (closing judgement separator))
      → FoundIn bytes result (field judge follow (drop at bytes))
  unfolding read_in then_read judged_then
  answers-field {bytes} {at} {n} {judgement} {separator} read j s a =
      reads-as a
      (ap₂ (λ j s. closing j s n.value (drop n.at bytes)) j s
      ∙ closing-field n.value (drop n.at bytes) (judge n.value)
      ∙ sym (field-is (drop at bytes) ∙ then-got judged_then (number-ok read)))

-- The separator behind a number that was read.
module _ (bytes : List ℕ) (at separator : ℕ) (v : ℤ) (inside : at < length bytes) where
  pub separator-wrong : (slice_index bytes at ≢ separator) → read_separator separator v (drop at bytes) ≡ fault 3
  unfolding read_separator
  separator-wrong h =
      ap (read_separator separator v) (drop-cons bytes at 0 inside)
      ∙ ap (λ t. cond t (got v (drop (suc at) bytes)) (fault 3)) (ne_eqb (slice_index bytes at) separator h)

  pub separator-right : slice_index_or bytes at 0 ≡ separator → read_separator separator v (drop at bytes) ≡ got v (drop (at + 1) bytes)
  unfolding read_separator
  separator-right e =
      ap (read_separator separator v) (drop-cons bytes at 0 inside)
      ∙ ap (λ t. cond t (got v (drop (suc at) bytes)) (fault 3)) (eq-eqb (slice_index bytes at) separator e)
      ∙ ap (λ k. got v (drop k bytes)) (sym (add-one at))

module _ (bytes : List ℕ) (n : Result Found Refusal) (judgement separator : ℕ) where
  -- The number's own refusal comes first, then its judgement, then the separator (SCOPE 4.33, 4.34, 4.36).
  pub closing-refused : {r : Refusal} → n ≡ Err r
      → then_read (read_in bytes (λ f. f.value) (λ f. f.at) n) (closing judgement separator) ≡ fault (refusal_number r)
  unfolding read_in
  closing-refused e = then-fault (closing judgement separator) (ap (read_in bytes (λ f. f.value) (λ f. f.at)) e)

  module _ {f : Found} (read : n ≡ Ok f) where
    closing-read : then_read (read_in bytes (λ f. f.value) (λ f. f.at) n) (closing judgement separator)
        ≡ closing judgement separator f.value (drop f.at bytes)
    unfolding read_in
    closing-read = then-got (closing judgement separator) (ap (read_in bytes (λ f. f.value) (λ f. f.at)) read)

    pub closing-judged : (judgement ≢ 0)
        → then_read (read_in bytes (λ f. f.value) (λ f. f.at) n) (closing judgement separator) ≡ fault judgement
    unfolding closing judged
    closing-judged h = closing-read ∙ then-fault (read_separator separator) (fault-judged judgement h)
      where
        fault-judged : (j : ℕ) → (j ≢ 0) → judged j f.value (drop f.at bytes) ≡ fault j
        fault-judged zero h = absurd (h refl)
        fault-judged (suc j) h = refl

    -- What was judged and passed has its separator still to follow.
    module _ (passed : judgement ≡ 0) where
      pub closing-passed : then_read (read_in bytes (λ f. f.value) (λ f. f.at) n) (closing judgement separator)
          ≡ read_separator separator f.value (drop f.at bytes)
      unfolding closing judged
      closing-passed = closing-read ∙ then-got (read_separator separator) (ap (λ j. judged j f.value (drop f.at bytes)) passed)

      module _ (inside : f.at < length bytes) where
        pub closing-wrong : (slice_index bytes f.at ≢ separator)
            → then_read (read_in bytes (λ f. f.value) (λ f. f.at) n) (closing judgement separator) ≡ fault 3
        closing-wrong h = closing-passed ∙ separator-wrong bytes f.at separator f.value inside h

        pub closing-right : slice_index_or bytes f.at 0 ≡ separator
            → then_read (read_in bytes (λ f. f.value) (λ f. f.at) n) (closing judgement separator) ≡ got f.value (drop (f.at + 1) bytes)
        closing-right e = closing-passed ∙ separator-right bytes f.at separator f.value inside e

-- ---- laws of reading one thing after another

pub got-not-fault : {A : Type 0} {a : A} {rest : List ℕ} {n : ℕ} → got a rest ≢ fault n
got-not-fault e = let z : ◌≡◌ {A = ℕ} 0 1 = cc in omega arith

module _ {A B : Type 0} where
  pub then-cong : (r : Read A) {f g : A → List ℕ → Read B} → ((a : A) (rest : List ℕ) → f a rest ≡ g a rest) → then_read r f ≡ then_read r g
  unfolding then_read
  then-cong (got a rest) h = h a rest
  then-cong (fault n) h = refl

  -- The same, where f and g need agree only on what was read.
  pub then-cong-read : (r : Read A) {f g : A → List ℕ → Read B} → ((a : A) (rest : List ℕ) → r ≡ got a rest → f a rest ≡ g a rest)
      → then_read r f ≡ then_read r g
  unfolding then_read
  then-cong-read (got a rest) h = h a rest refl
  then-cong-read (fault n) h = refl

  pub then-then : {C : Type 0} (r : Read A) (f : A → List ℕ → Read B) (g : B → List ℕ → Read C)
      → then_read (then_read r f) g ≡ then_read r (λ a rest. then_read (f a rest) g)
  unfolding then_read
  then-then (got a rest) f g = refl
  then-then (fault n) f g = refl

  -- Where something was read in the end, its first part was read.
  pub then-parts : (r : Read A) (f : A → List ℕ → Read B) {b : B} {rest : List ℕ} → then_read r f ≡ got b rest
      → (a : A) × (more : List ℕ) × (r ≡ got a more) × (f a more ≡ got b rest)
  unfolding then_read
  then-parts (got a more) f e = (a, more, refl, e)
  then-parts (fault n) f e = absurd (got-not-fault (sym e))

-- A number that was read as a field has passed its judgement.
module _ (judge follow : ℤ → ℕ) where
  pub field-judged : (bytes : List ℕ) {v : ℤ} {rest : List ℕ} → field judge follow bytes ≡ got v rest → judge v ≡ 0
  unfolding field
  field-judged bytes {v} {rest} e = at-word (word bytes) (after_word bytes) e
    where
      separator : (s : ℕ) (u : ℤ) (l : List ℕ) → read_separator s u l ≡ got v rest → u ≡ v
      separator s u [] e = absurd (got-not-fault (sym e))
      separator s u (b ∷ l) e = by (b == s) e
        where
          by : (t : Bool) → cond t (got u l) (fault 3) ≡ got v rest → u ≡ v
          by true e = cc
          by false e = absurd (got-not-fault (sym e))

      number : (u : ℤ) (j : ℕ) (l : List ℕ) → judge u ≡ j → then_read (judged j u l) (λ v more. read_separator (follow v) v more)
          ≡ got v rest → judge v ≡ 0
      number u zero l h e = ap judge (sym (separator (follow u) u l e)) ∙ h
      number u (suc j) l h e = absurd (got-not-fault (sym e))

      at-word : (w l : List ℕ) → then_read (read_word judge w l) (λ v more. read_separator (follow v) v more) ≡ got v rest → judge v ≡ 0
      at-word w [] e = absurd (got-not-fault (sym e))
      at-word w (b ∷ l) e = by (is_number w) e
        where
          by : (t : Bool)
              → then_read (cond t (judged (judge (number_of w)) (number_of w) (b ∷ l)) (fault 3)) (λ v more. read_separator (follow v) v more)
              ≡ got v rest → judge v ≡ 0
          by true e = number (number_of w) (judge (number_of w)) (b ∷ l) refl e
          by false e = absurd (got-not-fault (sym e))

-- ---- judgements

pub le_z-true : {a b : ℤ} → int_le a b ≡ true → a ≤ℤ b
le_z-true e = le_z_yes (subst T (sym e) tt)

-- Where -n ≤ a ≤ b ≤ n, the size of a is at most n.
pub size-between : (b a : ℤ) (n : ℕ) → unsigned_abs b ≤ n → (int_le (neg_ℤ (pos n)) a && int_le a b) ≡ true → unsigned_abs a ≤ n
size-between b a n h e =
    let two = both_true (int_le (neg_ℤ (pos n)) a) (int_le a b) e in
    (nat_abs-≤-iff a).1 (le_z-true two.0, ≤ℤ-trans (le_z-true two.1) ((nat_abs-≤-iff b).0 h).1)

-- A number between bounds that are not negative is the one that its size gives.
pub between-size : (low high : ℕ) (v : ℤ) → (int_le (pos low) v && int_le v (pos high)) ≡ true
    → T (non_neg v) × (low ≤ unsigned_abs v) × (unsigned_abs v ≤ high)
between-size low high (pos n) e =
    let two = both_true (nat_le low n) (nat_le n high) e in
    (tt, leb-true low n two.0, leb-true n high two.1)
between-size low high (negsuc n) e = absurd (subst T (sym e) tt)

-- ---- what a judgement of 0 says

pub passed : (t : Bool) (a b : ℕ) → cond t a (suc b) ≡ 0 → (t ≡ true) × (a ≡ 0)
passed true a b e = (refl, e)
passed false a b e = absurd (suc-ne-zero b e)

pub between-zero : (low high : ℕ) (v : ℤ) → between (pos low) (pos high) v ≡ 0 → T (non_neg v) × (low ≤ unsigned_abs v) × (unsigned_abs v ≤ high)
unfolding between
between-zero low high v e = between-size low high v (passed (int_le (pos low) v && int_le v (pos high)) 0 1 e).0
