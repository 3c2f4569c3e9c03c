-- The answer to one sheet put at the front of the output, where it fits.
--
-- Main definitions
--   number_of a                    the refusal's number of an answer, 0 for one that accepts
--   PutCall, answer_put a output   what is told, and the output afterwards
--
-- Main statements
--   straight-fits, straight-call, straight_none   the answer made in the output itself, or refused there
--   made-within, beside-call, beside-unput   the answer made beside the output, copied where it fits
use Rattle.std.specs.Prelude.{ℕ, zero, suc, ◌+◌, ◌-◌, ◌≤◌, ◌<◌, ◌≡◌, refl, ◌≢◌, Bool, true, false, T, leb, drop}
use Rattle.std.proofs.Common.{le_refl, suc-ne-zero, arith, ◌∙◌, leb→le, le→leb, length-append, length-drop, take-append-drop, length-take-le}
use Rattle.std.proofs.Math.Path.{sym, ap, ap₂, subst}
use Rattle.std.proofs.Math.Bool.{cond}
use mathlib.Core.List.{List, [], ◌++◌, flatten, append-nil}
use Rattle.std.proofs.lemmas.Bool.{lt-leb}
use borrow.Rule.Slice.PartMut.{put_mid, put_same}
use Rattle.std.proofs.Math.ListN.{length, take}
use Rattle.lists.specs.Overwritten.{overwrite, length-overwrite, put_two}
use Rattle.lists.specs.Tests.{cond-passed}
use Rattle.rules.specs.Numbers.{lines}
use Rattle.rules.specs.Batch.{most_bytes, Answer, accepted, refused_with, answer_sheet, answer_bytes}
use Rattle.answers.specs.declared.AnswerResult.{AnswerResult}
use Rattle.answers.specs.Answers.{AnswerCall, call_of, answer_call, answered, unanswered, RightAnswer, right-accepted}
use Rattle.answers.specs.Answers.{right-refused, answer-right, answer_by, answered-fits, answer_call-answer, answer_call-none}
use Rattle.frames.specs.declared.Text.{Text}
use Rattle.frames.specs.PieceSizes.{answer-fits}
use Rattle.frames.specs.Pieces.{text_room, text_of, shown, shown-text, refusal_line_of, refusal-refused, refusal-accepted}
use Rattle.lists.specs.Taken.{whole_part}
use Rattle.placed_answers.specs.declared.Put.{Put}

-- ---- the call

-- The refusal's number of an answer, 0 for one that accepts.
unfoldable pub number_of : Answer → ℕ
number_of (accepted bytes) = 0
number_of (refused_with n) = n

pub record PutCall : Type 0 where
  pub fits : Bool
  pub refusal : ℕ
  pub written : ℕ
  pub output : List ℕ

abbrev pub put_of : Put → List ℕ → PutCall
put_of r output = record { fits = r.fits; refusal = r.refusal; written = r.written; output = output }

abbrev pub put : Answer → List ℕ → PutCall
put a output = record { fits = true; refusal = number_of a; written = length (answer_bytes a); output = overwrite (answer_bytes a) output }

abbrev pub unput : List ℕ → PutCall
unput output = record { fits = false; refusal = 0; written = 0; output = output }

unfoldable pub answer_put : Answer → List ℕ → PutCall
unfolding answer_bytes overwrite
answer_put a output = cond (leb (length (answer_bytes a)) (length output)) (put a output) (unput output)

-- ---- what is put

-- The line of an answer, and the sheet behind it.
shown-answer : (a : Answer) (c : AnswerCall) → answer_by c.refusal c.length c.store ≡ a → (c.refusal ≢ 0 → c.length ≡ 0)
    → (number_of a ≡ c.refusal) × (refusal_line_of c.refusal ++ take c.length c.store ≡ answer_bytes a)
unfolding answer_by number_of
shown-answer a c e none = (sym (ap number_of e) ∙ number c.refusal, go c.refusal none ∙ ap answer_bytes e)
  where
    number : (n : ℕ) → number_of (answer_by n c.length c.store) ≡ n
    number zero = refl
    number (suc n) = refl

    go : (n : ℕ) → (n ≢ 0 → c.length ≡ 0) → refusal_line_of n ++ take c.length c.store ≡ answer_bytes (answer_by n c.length c.store)
    go zero z = refusal-accepted (take c.length c.store)
    go (suc n) z =
        ap (λ j. refusal_line_of (suc n) ++ take j c.store) (z (suc-ne-zero n)) ∙ append-nil (refusal_line_of (suc n)) ∙ refusal-refused (suc n)

answer_keeps : (sheet store : List ℕ) → length (answer_call sheet store).store ≡ length store
unfolding answer_call answered unanswered
answer_keeps sheet store = go (answer_sheet sheet)
  where
    go : (a : Answer) → length (answered a store).store ≡ length store
    go (accepted bytes) = by (leb (length bytes) (length store)) (leb→le (length bytes) (length store))
      where
        whole : AnswerCall
        whole = record { refusal = 0; length = length bytes; store = overwrite bytes store }

        by : (t : Bool) → (T t → length bytes ≤ length store) → length (cond t whole (unanswered 1 store)).store ≡ length store
        by true h = length-overwrite bytes store (h tt)
        by false h = refl
    go (refused_with n) = refl

-- The answer of a call that does not say 1 of a store shorter than some sheets, and its line.
module _ (sheet store : List ℕ) (r : AnswerResult) (stored : List ℕ) (line : Text) (decided : r.refusal ≡ 1 → most_bytes ≤ length store)
    (e : call_of r stored ≡ answer_call sheet store) (f : line ≡ text_of (refusal_line_of r.refusal)) where
  abbrev answer : Answer
  answer = answer_sheet sheet

  made : (number_of answer ≡ r.refusal) × (refusal_line_of r.refusal ++ take r.length stored ≡ answer_bytes answer)
  unfolding call_of
  made =
      subst
      (λ c. (number_of answer ≡ c.refusal) × (refusal_line_of c.refusal ++ take c.length c.store ≡ answer_bytes answer)) (sym e)
      (shown-answer answer (answer_call sheet store) (answer_call-answer sheet store (λ d. decided (ap (λ c. c.refusal) e ∙ d)))
      (λ h. (answer_call-none sheet store h).0))

  -- The sheet that answers lies in the store.
  pub made-within : (r.length ≤ length store) × (length stored ≡ length store)
  unfolding call_of
  made-within = (
    subst (λ c. c.length ≤ length store) (sym e) (answer-fits sheet store),
    ap (λ c. length c.store) e ∙ answer_keeps sheet store,
  )

  line-length : line.length ≡ length (refusal_line_of r.refusal)
  unfolding text_of
  line-length = ap (λ t. t.length) f

  line-shown : shown line ≡ refusal_line_of r.refusal
  line-shown = ap shown f ∙ shown-text (refusal_line_of r.refusal)

  made-length : length (answer_bytes answer) ≡ line.length + r.length
  made-length =
      sym (ap length made.1) ∙ length-append (refusal_line_of r.refusal) (take r.length stored)
      ∙ ap₂ ◌+◌ (sym line-length) (length-take-le r.length stored (omega (arith, made-within)))

  -- Where the answer fits.
  fitting : (output after : List ℕ) → line.length + r.length ≤ length output → after ≡ overwrite (answer_bytes answer) output
      → ◌≡◌ {A = PutCall} (record
      { fits = true; refusal = r.refusal; written = line.length + r.length; output = after }) (answer_put answer output)
  unfolding answer_put
  fitting output after h same =
      (λ i. record { fits = true; refusal = sym made.0 i; written = sym made-length i; output = same i })
      ∙ sym (cond-passed (leb (length (answer_bytes answer)) (length output)) (put answer output) (unput output)
      (le→leb (length (answer_bytes answer)) (length output) (omega (arith, made-length))))

-- The answer made in the output itself, behind the place of the line `0`.
abbrev behind : List ℕ → List ℕ
behind output = take (length output - 2) (drop 2 output)

behind-all : (output : List ℕ) → 2 ≤ length output → behind output ≡ drop 2 output
behind-all output h = (whole_part output 2 h).0

-- It has room for the line.
straight-room : (a : Answer) (output : List ℕ) → RightAnswer a → text_room ≤ length output → length (refusal_line_of (number_of a)) ≤ text_room
    → ((answered a (behind output)).refusal ≡ 1 → most_bytes ≤ length (behind output)) → length (answer_bytes a) ≤ length output
unfolding number_of refusal_line_of lines flatten
straight-room a output (right-accepted {bytes = sheet} few) long line decided =
    let fits = answered-fits sheet (behind output) few decided in
    rw (← refusal-accepted sheet, length-append)
    (omega (arith, fits, ap length (behind-all output (omega arith)), length-drop 2 output))
straight-room a output (right-refused n low) long line decided = rw (← refusal-refused (suc n)) (omega arith)

straight-put : (a : Answer) (output : List ℕ) → RightAnswer a → 2 ≤ length output
    → ((answered a (behind output)).refusal ≡ 1 → most_bytes ≤ length (behind output))
    → let c = answered a (behind output) in
    overwrite (refusal_line_of c.refusal) (put_mid 2 (length output - 2) output c.store) ≡ overwrite (answer_bytes a) output
unfolding answered unanswered refusal_line_of lines flatten
straight-put a output (right-accepted {bytes = sheet} few) long decided =
    let fits = answered-fits sheet (behind output) few decided in
    ap (λ c. overwrite (refusal_line_of c.refusal) (put_mid 2 (length output - 2) output c.store))
    (cond-passed (leb (length sheet) (length (behind output))) _ (unanswered 1 (behind output))
    (le→leb (length sheet) (length (behind output)) fits))
    ∙ ap₂ (λ part after. overwrite (refusal_line_of 0) (take 2 output ++ (overwrite sheet part ++ after)))
    (behind-all output long) (whole_part output 2 long).1
    ∙ ap (λ l. overwrite (refusal_line_of 0) (take 2 output ++ l)) (append-nil (overwrite sheet (drop 2 output)))
    ∙ put_two (refusal_line_of 0) sheet output (omega arith)
    ∙ ap (λ l. overwrite l output) (refusal-accepted sheet)
straight-put a output (right-refused n low) long decided =
    ap₂ overwrite (refusal-refused (suc n)) (put_same 2 (length output - 2) output)

-- A call that is refused leaves the output as it was.
pub straight_none : (sheet output : List ℕ) (r : AnswerResult) (stored : List ℕ) → call_of r stored ≡ answer_call sheet (behind output)
    → r.refusal ≢ 0 → put_mid 2 (length output - 2) output stored ≡ output
unfolding call_of
straight_none sheet output r stored e h =
    let same = (answer_call-none sheet (behind output) (λ z. h (ap (λ c. c.refusal) e ∙ z))).1 in
    ap (put_mid 2 (length output - 2) output) (ap (λ c. c.store) e ∙ same) ∙ put_same 2 (length output - 2) output

module _ (sheet output : List ℕ) (r : AnswerResult) (stored : List ℕ) (line : Text) (long : text_room ≤ length output)
    (e : call_of r stored ≡ answer_call sheet (behind output)) (f : line ≡ text_of (refusal_line_of r.refusal))
    (few : line.length ≤ text_room) (known : r.refusal ≡ 1 → 2 + most_bytes ≤ length output) where
  decided : r.refusal ≡ 1 → most_bytes ≤ length (behind output)
  decided h = omega (arith, known h, ap length (behind-all output (omega arith)), length-drop 2 output)

  made-number : number_of (answer_sheet sheet) ≡ r.refusal
  made-number = (made sheet _ r stored line decided e f).0

  decided-call : (answered (answer_sheet sheet) (behind output)).refusal ≡ 1 → most_bytes ≤ length (behind output)
  unfolding call_of answer_call
  decided-call h = decided (ap (λ c. c.refusal) e ∙ h)

  pub straight-fits : line.length + r.length ≤ length output
  straight-fits =
      omega (
        arith,
        made-length sheet _ r stored line decided e f,
        straight-room (answer_sheet sheet) output (answer-right sheet) long
            (rw made-number (omega (arith, line-length sheet _ r stored line decided e f))) decided-call,
      )

  pub straight-call : (after : List ℕ) → after ≡ overwrite (shown line) (put_mid 2 (length output - 2) output stored)
      → ◌≡◌ {A = PutCall} (record { fits = true; refusal = r.refusal; written = line.length + r.length; output = after })
      (answer_put (answer_sheet sheet) output)
  unfolding call_of answer_call
  straight-call after g =
      fitting sheet _ r stored line decided e f output after straight-fits
      (g
      ∙ ap₂ (λ l s. overwrite l (put_mid 2 (length output - 2) output s)) (line-shown sheet _ r stored line decided e f)
      (ap (λ c. c.store) e)
      ∙ ap (λ n. overwrite (refusal_line_of n) (put_mid 2 (length output - 2) output (answer_call sheet (behind output)).store))
      (ap (λ c. c.refusal) e)
      ∙ straight-put (answer_sheet sheet) output (answer-right sheet) (omega arith) decided-call)

-- The answer made in a store beside the output.
module _ (sheet store output : List ℕ) (r : AnswerResult) (stored : List ℕ) (line : Text) (decided : r.refusal ≡ 1 → most_bytes ≤ length store)
    (e : call_of r stored ≡ answer_call sheet store) (f : line ≡ text_of (refusal_line_of r.refusal)) where
  pub beside-unput : length output < line.length + r.length → unput output ≡ answer_put (answer_sheet sheet) output
  unfolding answer_put
  beside-unput h =
      sym (ap (λ t. cond t (put (answer_sheet sheet) output) (unput output))
      (lt-leb (length (answer_bytes (answer_sheet sheet))) (length output) (omega (arith, made-length sheet store r stored line decided e f))))

  pub beside-call : line.length + r.length ≤ length output → (copied after : List ℕ)
      → copied ≡ overwrite (take r.length stored) (take (length output - line.length) (drop line.length output))
      → after ≡ overwrite (shown line) (put_mid line.length (length output - line.length) output copied)
      → ◌≡◌ {A = PutCall} (record { fits = true; refusal = r.refusal; written = line.length + r.length; output = after })
      (answer_put (answer_sheet sheet) output)
  beside-call h copied after g i =
      fitting sheet store r stored line decided e f output after h
      (i
      ∙ ap₂ (λ l c. overwrite (shown line) (take line.length output ++ (c ++ l))) none (g ∙ ap (overwrite (take r.length stored)) all)
      ∙ ap (λ l. overwrite (shown line) (take line.length output ++ l))
      (append-nil (overwrite (take r.length stored) (drop line.length output)))
      ∙ ap₂ (λ l n. overwrite l (take n output ++ overwrite (take r.length stored) (drop n output)))
      (line-shown sheet store r stored line decided e f) (line-length sheet store r stored line decided e f)
      ∙ put_two (refusal_line_of r.refusal) (take r.length stored) output (omega (arith, line-length sheet store r stored line decided e f))
      ∙ ap (λ l. overwrite l output) (made sheet store r stored line decided e f).1)
    where
      all : take (length output - line.length) (drop line.length output) ≡ drop line.length output
      all = (whole_part output line.length (omega arith)).0

      none : drop (length output - line.length) (drop line.length output) ≡ []
      none = (whole_part output line.length (omega arith)).1
