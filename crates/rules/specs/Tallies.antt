-- The tally by client, and the count of all sheets of a batch without regard to the client, which its sums come to (SCOPE 5.15).
--
-- Main definitions
--   Total, in_all_of        how many sheets are accepted and refused in all, and the one line that says so
--   output_in_all bytes   the output of a batch that ends with that line
--   Sums y z            y is a tally of eight clients, and its sums over the clients are z
--
-- Main statements
--   same-client, other-client   one more for a client: its number is 1 more, and that of any other stays
--   sums_none, sums-count       the sums are those of the count in all, before anything is counted and with each answer
--   two-clients, no-client      a batch of two clients, and one that breaks at a client 9
use Rattle.std.specs.Prelude.{ℕ, suc, pred, ◌≤◌, ◌<◌, ◌≡◌, refl, ◌≢◌, List, [], ◌∷◌, ℤ, pos, length, get_or}
use Rattle.std.proofs.Common.{arith, ◌∙◌, ap}
use Rattle.std.proofs.Math.ListN.{length-set}
use Rattle.std.proofs.Math.Seq.{get_or-set_same, get_or-set_other}
use Rattle.lists.specs.Totals.{total, total-one-more}
use Rattle.rules.specs.Numbers.{lines}
use Rattle.rules.specs.Batch.{Answer, accepted, refused_with, Counting, output_by, client_count, Tally, no_tally, one_more_of}
use Rattle.rules.specs.Batch.{count_answer, batch_output}
use Rattle.rules.specs.Opened.{opened}

-- ---- the count in all

pub record Total : Type 0 where
  pub accepted : ℕ
  pub refused : ℕ

unfoldable pub count_in_all : Answer → Total → Total
count_in_all (accepted bytes) z = record { accepted = suc z.accepted; refused = z.refused }
count_in_all (refused_with n) z = record { accepted = z.accepted; refused = suc z.refused }

-- One line `accepted refused`.
abbrev pub total_line : Total → List ℤ
total_line z = pos z.accepted ∷ pos z.refused ∷ []

abbrev pub in_all_of : Counting Total
in_all_of =
    record { none = record { accepted = 0; refused = 0 }; count = λ client. count_in_all; ending = λ z. total_line z ∷ [] }

unfoldable pub output_in_all : List ℕ → List ℕ
unfolding output_by count_in_all
output_in_all bytes = output_by in_all_of bytes

-- ---- one more for a client

module _ (client : ℕ) (counts : List ℕ) where
  pub same-client : pred client < length counts → get_or (one_more_of client counts) (pred client) 0 ≡ suc (get_or counts (pred client) 0)
  unfolding one_more_of
  same-client h = get_or-set_same counts (pred client) _ 0 h

  pub other-client : (k : ℕ) → k ≢ pred client → get_or (one_more_of client counts) k 0 ≡ get_or counts k 0
  unfolding one_more_of
  other-client k h = get_or-set_other counts (pred client) k _ 0 h

  pub as_many : length (one_more_of client counts) ≡ length counts
  unfolding one_more_of
  as_many = length-set counts (pred client) _

  pub one-more-in-all : pred client < length counts → total (one_more_of client counts) ≡ suc (total counts)
  unfolding one_more_of
  one-more-in-all h = total-one-more counts (pred client) h

-- ---- the sums

pub record Sums (y : Tally) (z : Total) : Type 0 where
  pub each-accepted : length y.accepted ≡ client_count
  pub each-refused : length y.refused ≡ client_count
  pub all-accepted : total y.accepted ≡ z.accepted
  pub all-refused : total y.refused ≡ z.refused

pub sums_none : Sums no_tally in_all_of.none
unfolding total
sums_none = record { each-accepted = refl; each-refused = refl; all-accepted = refl; all-refused = refl }

pub sums-count : (client : ℕ) → 1 ≤ client → client ≤ client_count → (a : Answer) {y : Tally} {z : Total} → Sums y z
    → Sums (count_answer client a y) (count_in_all a z)
unfolding count_answer count_in_all
sums-count client low high (accepted bytes) {y} s =
    record {
      each-accepted = as_many client y.accepted ∙ s.each-accepted;
      each-refused = s.each-refused;
      all-accepted = one-more-in-all client y.accepted (omega (arith, s.each-accepted)) ∙ ap suc s.all-accepted;
      all-refused = s.all-refused;
    }
sums-count client low high (refused_with n) {y} s =
    record {
      each-accepted = s.each-accepted;
      each-refused = as_many client y.refused ∙ s.each-refused;
      all-accepted = s.all-accepted;
      all-refused = one-more-in-all client y.refused (omega (arith, s.each-refused)) ∙ ap suc s.all-refused;
    }

-- ---- two batches

abbrev numbers : ℕ → ℕ → List ℤ
numbers a b = pos a ∷ pos b ∷ []

-- A sheet of no bytes of client 3, two of client 8: each is answered with 4, and counted as refused for its client.
two-clients : batch_output (lines ((pos 3 ∷ []) ∷ numbers 8 0 ∷ numbers 3 0 ∷ numbers 8 0 ∷ []))
    ≡ lines ((pos 4 ∷ []) ∷ (pos 4 ∷ []) ∷ (pos 4 ∷ [])
    ∷ numbers 0 0 ∷ numbers 0 0 ∷ numbers 0 1 ∷ numbers 0 0 ∷ numbers 0 0 ∷ numbers 0 0 ∷ numbers 0 0 ∷ numbers 0 2 ∷ [])
unfolding opened
two-clients = refl

-- There is no client 9: the batch is broken, and no count comes after the 3.
no-client : batch_output (lines ((pos 2 ∷ []) ∷ numbers 1 0 ∷ numbers 9 0 ∷ [])) ≡ lines ((pos 4 ∷ []) ∷ (pos 3 ∷ []) ∷ [])
unfolding opened
no-client = refl
