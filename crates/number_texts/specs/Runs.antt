-- Runs of bytes stored from a place on, as far as the store goes: what the functions that write go by.
--
-- Main definitions
--   Put, Going        what a writing function does; what a loop that writes has still to do
--
-- Main statements
--   put_then          two runs of bytes stored one after the other are one run
--   put_same, put-few, put-wide, put-into, put-none, put-length   the same run, said otherwise; one of no bytes; the store's length
--   going-first, going_next, going-last   a loop that stores a run part by part
use Rattle.std.specs.Prelude.{◌≡◌, refl, List, [], ◌++◌, ℕ, ◌+◌, ◌≤◌, length}
use Rattle.std.proofs.Common.{sym, ◌∙◌, ap, ap₂, subst, le_trans, arith, length-append}
use Rattle.std.proofs.lemmas.List.Edits.{sets}
use Rattle.std.proofs.Math.Seq.{length-sets}
use Rattle.lists.specs.Pasted.{sets-append}

-- The bytes xs, at most k of them, were stored in d from a place on, which gave e; those past the end of d were only counted.
pub record Put (d : List ℕ) (at : ℕ) (xs : List ℕ) (k : ℕ) (e : List ℕ) (next : ℕ) : Type 0 where
  pub stored : e ≡ sets d at xs
  pub passed : next ≡ at + length xs
  pub few : length xs ≤ k

pub put_then : {d e f : List ℕ} {at j k next last : ℕ} {xs ys : List ℕ} → Put d at xs j e next → Put e next ys k f last
    → Put d at (xs ++ ys) (j + k) f last
put_then {d} {e} {f} {at} {j} {k} {next} {last} {xs} {ys} p q =
    record {
      stored =
          q.stored ∙ ap₂ (λ l n. sets l n ys) p.stored p.passed ∙ sets-append d at xs ys;
      passed = rw length-append (omega (arith, p.passed, q.passed));
      few = rw length-append (omega (arith, p.few, q.few));
    }

-- The same bytes, said otherwise.
pub put_same : {d e : List ℕ} {at k next : ℕ} {xs ys : List ℕ} → Put d at xs k e next → xs ≡ ys → Put d at ys k e next
put_same {d} {e} {at} {k} {next} p same = subst (λ l. Put d at l k e next) same p

-- The same number of bytes, bounded otherwise.
pub put-few : {d e : List ℕ} {at j k next : ℕ} {xs : List ℕ} → Put d at xs j e next → length xs ≤ k → Put d at xs k e next
put-few p few = record { stored = p.stored; passed = p.passed; few = few }

pub put-wide : {d e : List ℕ} {at j k next : ℕ} {xs : List ℕ} → Put d at xs j e next → j ≤ k → Put d at xs k e next
put-wide p le = put-few p (le_trans p.few le)

-- The same store, said otherwise.
pub put-into : {d e f : List ℕ} {at k next : ℕ} {xs : List ℕ} → Put d at xs k e next → f ≡ e → Put d at xs k f next
put-into p same = record { stored = same ∙ p.stored; passed = p.passed; few = p.few }

pub put-none : {d xs : List ℕ} {at k : ℕ} → xs ≡ [] → Put d at xs k d at
put-none {d} {xs} {at} {k} none =
    let size = ap length none in
    record { stored = sym (ap (sets d at) none); passed = omega arith; few = omega arith }

pub put-length : {d e : List ℕ} {at k next : ℕ} {xs : List ℕ} → Put d at xs k e next → length e ≡ length d
put-length {d} {e} {at} {k} {next} {xs} p = ap length p.stored ∙ length-sets d at xs

-- A loop that stores `all` in d from `at` on, at most k bytes up to now: `rest` is still to be stored in e from `next` on.
pub record Going (d : List ℕ) (at : ℕ) (all : List ℕ) (e : List ℕ) (next : ℕ) (rest : List ℕ) (k : ℕ) : Type 0 where
  pub stored : sets e next rest ≡ sets d at all
  pub passed : next + length rest ≡ at + length all
  pub few : next ≤ at + k
  pub kept : length e ≡ length d

pub going-first : {d all rest : List ℕ} {at : ℕ} → all ≡ rest → Going d at all d at rest 0
going-first {d} {all} {rest} {at} same =
    record { stored = ap (sets d at) (sym same); passed = ap (λ l. at + length l) (sym same); few = omega arith; kept = refl }

pub going_next : {d all e f part rest more : List ℕ} {at next last j k m : ℕ} → Going d at all e next rest j → rest ≡ part ++ more
    → Put e next part k f last → j + k ≤ m → Going d at all f last more m
going_next {d} {all} {e} {f} {part} {rest} {more} {at} {next} {last} {j} {k} {m} g split p le =
    let size = ap length split ∙ length-append part more in
    record {
      stored =
          ap₂ (λ l n. sets l n more) p.stored p.passed ∙ sets-append e next part more ∙ ap (sets e next) (sym split) ∙ g.stored;
      passed = omega (arith, p.passed, g.passed, size);
      few = omega (arith, p.passed, p.few, g.few);
      kept = put-length p ∙ g.kept;
    }

pub going-last : {d all e rest : List ℕ} {at next j k : ℕ} → Going d at all e next rest j → rest ≡ [] → j ≤ k → Put d at all k e next
going-last {d} {all} {e} {rest} {at} {next} g none le =
    let size = ap length none in
    record {
      stored = sym (ap (sets e next) none) ∙ g.stored;
      passed = omega (arith, g.passed, size);
      few = omega (arith, g.passed, g.few);
    }
