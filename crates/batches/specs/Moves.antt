-- The moves of a batch: its first line, one sheet with its answer, or a break; and the bytes that wait for more.
--
-- Main definitions
--   meaning stage b bytes    what a batch still writes for all the bytes that come
--   CountedIn stage b        a batch that has begun has at most 1,000 sheets
--   Look left bytes n        why `next_sheet left bytes` is n
--   Moved, Move stage b bytes m   one move, and what it comes to: breaks_off, begun_with, answered_by
--   Alive stage              a stage that a batch moves from
--   Ready stage b bytes      the bytes wait, or are passed over, or there is a move
--
-- Main statements
--   look, look_is, look-waits   `next_sheet` by its cases
--   look-some, look-inside   a sheet that is there was to come, and its bytes are there
--   counted-in               a batch of at most 1,000 sheets is one in every stage
--   ready                    one of the three is so
--   move-alive               a broken batch makes no move
--   move-inside, move-counted, move-few   a move takes bytes that are there, and keeps at most 1,000 sheets
--   move-longer              it is the same with more bytes
--   move-means               the meaning, by one move
--   waits-none, waits-short  no bytes wait, and all that wait are fewer than a line and a sheet can have
--   end-meaning              what bytes that wait mean at the end of the input
use Rattle.std.specs.Prelude.{ℕ, suc, pred, ◌+◌, ◌-◌, ◌≤◌, ◌<◌, ◌≡◌, refl, ◌≢◌, Bool, true, false, cond, List, [], ◌++◌, leb, eqb, length, take, drop}
use Rattle.std.proofs.Common.{zero-le, arith, sym, ◌∙◌, ap, ap₂, subst, append-nil, le-leb, leb-true, leb-false, eqb-true, eq-eqb, ne_eqb, length-append, length-drop, drop-drop}
use Rattle.std.proofs.Math.Decide.{ℕ_discrete}
use Rattle.std.proofs.lemmas.Bool.{lt-leb, eqb-false}
use Rattle.rules.specs.Numbers.{Read, got, fault}
use Rattle.rules.specs.Batch.{SheetLine as ReadLine, Answer, Tally, count_answer, answer_sheet, answer_bytes, broken, closing}
use Rattle.rules.specs.Batch.{read_sheet_line, answers_by, answers, batch_output, client_count, by_client}
use Rattle.answers.specs.Answers.{RightAnswer, right-accepted, right-refused, answer-right}
use Rattle.frames.specs.declared.Batch.{Batch}
use Rattle.frames.specs.declared.Begun.{Begun}
use Rattle.frames.specs.declared.SheetLine.{SheetLine}
use Rattle.tokens.specs.Windows.{batch_line, taken-length, sheet_line-taken}
use Rattle.frames.specs.Pieces.{begun_of, line_of, line_by, counted_of, tally_of, numbered, Counted}
use Rattle.frames.specs.Pieces.{begun-inside, line-inside, begun-got, line-got, begun-fault, line-fault}
use Rattle.frames.specs.Pieces.{counted-left, counted-tally, counted-few, close_text, close-closing, close-broken}
use Rattle.frames.specs.Longer.{begun-longer, line-longer, begun-early, line-early}
use Rattle.frames.specs.PieceSizes.{line-client, line_small, begun-counted}
use Rattle.frames.specs.Countings.{output-fault, output-got, answers-none, answers-fault, after_line, answers-got, closing-over}
use Rattle.lists.specs.Taken.{part-longer}
use Rattle.batches.specs.declared.Stage.{Stage}
use Rattle.batches.specs.declared.Stage.TheVariants.{Count, Sheets, Over}
use Rattle.batches.specs.Feeds.{Next, waits, breaks, sheet, by_size, by_line, next_sheet}
use Rattle.placed_answers.specs.Answering.{number_of}
use Rattle.batches.specs.PieceCalls.{held_need, is_waiting, waits_with_of, end_text_of}

-- ---- what a batch means

unfoldable pub meaning : Stage → Batch → List ℕ → List ℕ
unfolding batch_output answers_by tally_of
meaning Count b bytes = batch_output bytes
meaning Sheets b bytes = answers b.left (tally_of b) bytes
meaning Over b bytes = []

abbrev pub CountedIn : Stage → Batch → Type 0
CountedIn Count b = Unit {0}
CountedIn Sheets b = Counted b
CountedIn Over b = Unit {0}

pub counted-in : (stage : Stage) (b : Batch) → Counted b → CountedIn stage b
counted-in Count b few = tt
counted-in Sheets b few = few
counted-in Over b few = tt

-- ---- the next sheet

pub data Look (left : ℕ) (bytes : List ℕ) : Next → Type 0 where
  -- No sheet is to come, and no bytes are there, or some are left over.
  no_more : left ≡ 0 → length bytes ≡ 0 → Look left bytes waits
  left_over : left ≡ 0 → length bytes ≢ 0 → Look left bytes breaks
  -- The line ends early, or has a fault.
  line-waits : left ≢ 0 → (line_of bytes).refusal ≡ 4 → Look left bytes waits
  line-breaks : left ≢ 0 → (line_of bytes).refusal ≢ 4 → (line_of bytes).refusal ≢ 0 → Look left bytes breaks
  -- Bytes of the sheet are missing, or it is whole.
  sheet-waits : left ≢ 0 → (line_of bytes).refusal ≡ 0 → length bytes < (line_of bytes).taken + (line_of bytes).bytes
      → Look left bytes waits
  sheet-whole : {client from to : ℕ} → left ≢ 0 → (line_of bytes).refusal ≡ 0 → (line_of bytes).client ≡ client
      → (line_of bytes).taken ≡ from → from + (line_of bytes).bytes ≡ to → to ≤ length bytes → Look left bytes (sheet client from to)

pub look : (left : ℕ) (bytes : List ℕ) → Look left bytes (next_sheet left bytes)
unfolding next_sheet by_line by_size
look left bytes = by_left (eqb left 0) (eqb-true left 0) (eqb-false left 0)
  where
    n : ℕ
    n = length bytes

    v : SheetLine
    v = line_of bytes

    by_bytes : left ≡ 0 → (t : Bool) → (t ≡ true → n ≡ 0) → (t ≡ false → n ≢ 0) → Look left bytes (cond t waits breaks)
    by_bytes z true is isn't = no_more z (is refl)
    by_bytes z false is isn't = left_over z (isn't refl)

    by-size : left ≢ 0 → v.refusal ≡ 0 → (t : Bool) → (t ≡ true → v.taken + v.bytes ≤ n)
        → (t ≡ false → n < v.taken + v.bytes)
        → Look left bytes (cond t (sheet v.client v.taken (v.taken + v.bytes)) waits)
    by-size some z true is isn't = sheet-whole some z refl refl refl (is refl)
    by-size some z false is isn't = sheet-waits some z (isn't refl)

    by-fault : left ≢ 0 → v.refusal ≢ 4 → (t : Bool) → (t ≡ true → v.refusal ≡ 0) → (t ≡ false → v.refusal ≢ 0)
        → Look left bytes (cond t (by_size v n) breaks)
    by-fault some other true is isn't = by-size some (is refl) (leb (v.taken + v.bytes) n) (leb-true _ n) (leb-false _ n)
    by-fault some other false is isn't = line-breaks some other (isn't refl)

    by-line : left ≢ 0 → (t : Bool) → (t ≡ true → v.refusal ≡ 4) → (t ≡ false → v.refusal ≢ 4)
        → Look left bytes (cond t waits (cond (eqb v.refusal 0) (by_size v n) breaks))
    by-line some true is isn't = line-waits some (is refl)
    by-line some false is isn't = by-fault some (isn't refl) (eqb v.refusal 0) (eqb-true _ 0) (eqb-false _ 0)

    by_left : (t : Bool) → (t ≡ true → left ≡ 0) → (t ≡ false → left ≢ 0)
        → Look left bytes (cond t (cond (eqb n 0) waits breaks) (by_line v n))
    by_left true is isn't = by_bytes (is refl) (eqb n 0) (eqb-true n 0) (eqb-false n 0)
    by_left false is isn't = by-line (isn't refl) (eqb v.refusal 4) (eqb-true _ 4) (eqb-false _ 4)

pub look_is : {left : ℕ} {bytes : List ℕ} {k : Next} → Look left bytes k → next_sheet left bytes ≡ k
unfolding next_sheet by_line by_size
look_is {left} {bytes} (no_more z e) = rw (eq-eqb left 0 z, eq-eqb (length bytes) 0 e)
look_is {left} {bytes} (left_over z e) = rw (eq-eqb left 0 z, ne_eqb (length bytes) 0 e)
look_is {left} {bytes} (line-waits some z) = rw (ne_eqb left 0 some, eq-eqb (line_of bytes).refusal 4 z)
look_is {left} {bytes} (line-breaks some other z) =
    rw (ne_eqb left 0 some, ne_eqb (line_of bytes).refusal 4 other, ne_eqb (line_of bytes).refusal 0 z)
look_is {left} {bytes} (sheet-waits some z h) =
    rw (ne_eqb left 0 some, z, lt-leb ((line_of bytes).taken + (line_of bytes).bytes) (length bytes) h)
look_is {left} {bytes} (sheet-whole some z client from to h) =
    rw (ne_eqb left 0 some, z, client, from, to, le-leb _ (length bytes) h)

-- What is seen of a sheet that is there, and of bytes that break the batch, is seen with more bytes after them.
abbrev Decided : Next → Type 0
Decided waits = ⊥
Decided breaks = Unit {0}
Decided (sheet client from to) = Unit {0}

look-longer : {left : ℕ} {bytes : List ℕ} {k : Next} (x : List ℕ) → Decided k → Look left bytes k → Look left (bytes ++ x) k
look-longer {left = left} {bytes = bytes} x d (no_more _ _) = elim d [ ]
look-longer {bytes = bytes} x d (left_over z h) = left_over z (λ e. h (omega (arith, e, length-append bytes x)))
look-longer {left = left} {bytes = bytes} x d (line-waits _ _) = elim d [ ]
look-longer {bytes = bytes} x d (line-breaks some other z) =
    let same = line-longer bytes x other in
    line-breaks some (λ e. other (sym (ap (λ v. v.refusal) same) ∙ e)) (λ e. z (sym (ap (λ v. v.refusal) same) ∙ e))
look-longer {left = left} {bytes = bytes} x d (sheet-waits _ _ _) = elim d [ ]
look-longer {bytes = bytes} x d (sheet-whole {from = from} some z client at to h) =
    let same = line-longer bytes x (λ e. omega (arith, e, z)) in
    sheet-whole some (ap (λ v. v.refusal) same ∙ z) (ap (λ v. v.client) same ∙ client) (ap (λ v. v.taken) same ∙ at)
    (ap (λ v. from + v.bytes) same ∙ to) (omega (arith, length-append bytes x))

-- ---- one move

-- What a move comes to: what is written, the stage and the batch after it, and the bytes that are taken.
pub record Moved : Type 0 where
  pub text : List ℕ
  pub stage : Stage
  pub batch : Batch
  pub taken : ℕ

-- A broken batch passes over whatever comes, so that no bytes are taken here.
abbrev pub breaks_off : Batch → Moved
breaks_off b = record { text = broken; stage = Over; batch = b; taken = 0 }

abbrev pub begun_with : Begun → Moved
begun_with v = record { text = []; stage = Sheets; batch = v.batch; taken = v.taken }

abbrev pub answered_by : Answer → ℕ → Batch → ℕ → Moved
answered_by a client b to =
    record { text = answer_bytes a; stage = Sheets; batch = counted_of b client (number_of a); taken = to }

pub data Move : Stage → Batch → List ℕ → Moved → Type 0 where
  begins : {b : Batch} {bytes : List ℕ} → (begun_of bytes).refusal ≡ 0 → Move Count b bytes (begun_with (begun_of bytes))
  count-breaks : {b : Batch} {bytes : List ℕ} → (begun_of bytes).refusal ≢ 4 → (begun_of bytes).refusal ≢ 0
      → Move Count b bytes (breaks_off b)
  sheets-break : {b : Batch} {bytes : List ℕ} → Look b.left bytes breaks → Move Sheets b bytes (breaks_off b)
  answering : {b : Batch} {bytes : List ℕ} {client from to : ℕ} {a : Answer} → Look b.left bytes (sheet client from to)
      → answer_sheet (take (to - from) (drop from bytes)) ≡ a → Move Sheets b bytes (answered_by a client b to)

-- A broken batch makes none.
abbrev pub Alive : Stage → Type 0
Alive Count = Unit {0}
Alive Sheets = Unit {0}
Alive Over = ⊥

pub move-alive : {stage : Stage} {b : Batch} {bytes : List ℕ} {m : Moved} → Move stage b bytes m → Alive stage
move-alive (begins z) = tt
move-alive (count-breaks h i) = tt
move-alive (sheets-break l) = tt
move-alive (answering l e) = tt

pub data Ready : Stage → Batch → List ℕ → Type 0 where
  waiting : {stage : Stage} {b : Batch} {bytes : List ℕ} → waits_with_of stage b bytes ≡ true → Ready stage b bytes
  passing : {b : Batch} {bytes : List ℕ} → Ready Over b bytes
  moving : {stage : Stage} {b : Batch} {bytes : List ℕ} {m : Moved} → Move stage b bytes m → Ready stage b bytes

pub ready : (stage : Stage) (b : Batch) (bytes : List ℕ) → Ready stage b bytes
unfolding waits_with_of is_waiting
ready Count b bytes = go (ℕ_discrete (begun_of bytes).refusal 4) (ℕ_discrete (begun_of bytes).refusal 0)
  where
    go : Dec ((begun_of bytes).refusal ≡ 4) → Dec ((begun_of bytes).refusal ≡ 0) → Ready Count b bytes
    go (yes e) d = waiting (eq-eqb _ 4 e)
    go (no h) (yes e) = moving (begins e)
    go (no h) (no i) = moving (count-breaks h i)
ready Sheets b bytes = go (next_sheet b.left bytes) refl (look b.left bytes)
  where
    go : (k : Next) → next_sheet b.left bytes ≡ k → Look b.left bytes k → Ready Sheets b bytes
    go waits e l = waiting (ap is_waiting e)
    go breaks e l = moving (sheets-break l)
    go (sheet client from to) e l = moving (answering l refl)
ready Over b bytes = passing

-- ---- what a move keeps

pub look-some : {left : ℕ} {bytes : List ℕ} {client from to : ℕ} → Look left bytes (sheet client from to) → left ≢ 0
look-some (sheet-whole some z client from to h) = some

pub look-inside : {left : ℕ} {bytes : List ℕ} {client from to : ℕ} → Look left bytes (sheet client from to)
    → (from ≤ to) × (to ≤ length bytes)
look-inside (sheet-whole some z client from to h) = (omega arith, h)

pub move-inside : {stage : Stage} {b : Batch} {bytes : List ℕ} {m : Moved} → Move stage b bytes m → m.taken ≤ length bytes
move-inside {bytes = bytes} (begins z) = begun-inside bytes
move-inside (count-breaks h i) = zero-le
move-inside (sheets-break l) = zero-le
move-inside (answering l e) = (look-inside l).1

pub move-counted : {stage : Stage} {b : Batch} {bytes : List ℕ} {m : Moved} → CountedIn stage b → Move stage b bytes m
    → CountedIn m.stage m.batch
move-counted {bytes = bytes} few (begins z) = begun-counted bytes
move-counted few (count-breaks h i) = tt
move-counted few (sheets-break l) = tt
move-counted {b = b} few (answering {client = client} {a = a} l e) = counted-few b few (look-some l) client (number_of a)

pub move-few : {stage : Stage} {b : Batch} {bytes : List ℕ} {m : Moved} → Counted b → Move stage b bytes m → Counted m.batch
move-few {bytes = bytes} few (begins z) = begun-counted bytes
move-few few (count-breaks h i) = few
move-few few (sheets-break l) = few
move-few few (answering l e) = move-counted few (answering l e)

pub move-longer : {stage : Stage} {b : Batch} {bytes : List ℕ} {m : Moved} (x : List ℕ) → Move stage b bytes m
    → Move stage b (bytes ++ x) m
move-longer {b = b} {bytes = bytes} x (begins z) =
    let same = begun-longer bytes x (λ e. omega (arith, e, z)) in
    subst (λ v. Move Count b (bytes ++ x) (begun_with v)) same (begins (ap (λ v. v.refusal) same ∙ z))
move-longer {bytes = bytes} x (count-breaks h i) =
    let same = ap (λ v. v.refusal) (begun-longer bytes x h) in
    count-breaks (λ e. h (sym same ∙ e)) (λ e. i (sym same ∙ e))
move-longer x (sheets-break l) = sheets-break (look-longer x tt l)
move-longer {bytes = bytes} x (answering {from = from} {to = to} l e) =
    answering (look-longer x tt l) (ap answer_sheet (part-longer from to bytes x (look-inside l).0 (look-inside l).1) ∙ e)

-- ---- the answers of `rules`, step by step

module _ (b : Batch) (bytes : List ℕ) where
  -- No sheet is to come.
  left-none : b.left ≡ 0 → answers b.left (tally_of b) bytes ≡ closing (tally_of b) bytes
  left-none z = ap (λ k. answers k (tally_of b) bytes) z ∙ answers-none by_client (tally_of b) bytes

  module _ (some : b.left ≢ 0) where
    next : answers b.left (tally_of b) bytes ≡ answers (suc (pred b.left)) (tally_of b) bytes
    next = ap (λ k. answers k (tally_of b) bytes) (one_more b.left some)
      where
        one_more : (n : ℕ) → n ≢ 0 → n ≡ suc (pred n)
        one_more n h = omega arith

    line-unread : (line_of bytes).refusal ≢ 0 → answers b.left (tally_of b) bytes ≡ broken
    line-unread z = next ∙ answers-fault by_client (pred b.left) (tally_of b) bytes _ (line-fault bytes z)

    line_read : (line_of bytes).refusal ≡ 0
        → let size = (line_of bytes).bytes in
        let after = drop (line_of bytes).taken bytes in
        answers b.left (tally_of b) bytes
        ≡ cond (leb size (length after)) (after_line by_client (pred b.left) (tally_of b) (line_of bytes).client size after) broken
    line_read z =
        let (v, rest, e, d, client, size) = line-got bytes z in
        next ∙ answers-got by_client (pred b.left) (tally_of b) bytes v rest e
        ∙ ap (λ c. cond (leb v.bytes (length rest)) (after_line by_client (pred b.left) (tally_of b) c v.bytes rest) broken) (sym client)
        ∙ ap₂ (λ n l. cond (leb n (length l)) (after_line by_client (pred b.left) (tally_of b) (line_of bytes).client n l) broken)
        (sym size) (sym d)

-- ---- the meaning, by one move

number_counts : (client : ℕ) (a : Answer) (y : Tally) → RightAnswer a
    → count_answer client (numbered (number_of a)) y ≡ count_answer client a y
unfolding count_answer numbered number_of
number_counts client a y (right-accepted few) = refl
number_counts client a y (right-refused n few) = refl

module _ (b : Batch) (bytes : List ℕ) where
  breaks-means : Look b.left bytes breaks → answers b.left (tally_of b) bytes ≡ broken
  breaks-means (left_over z h) = left-none b bytes z ∙ closing-over by_client (tally_of b) bytes h
  breaks-means (line-breaks some other z) = line-unread b bytes some z

  sheet-means : {client from to : ℕ} → Counted b → Look b.left bytes (sheet client from to)
      → let a = answer_sheet (take (to - from) (drop from bytes)) in
      let b' = counted_of b client (number_of a) in
      answers b.left (tally_of b) bytes ≡ answer_bytes a ++ answers b'.left (tally_of b') (drop to bytes)
  sheet-means {client} {from} {to} few (sheet-whole some z same at end h) =
      let a = answer_sheet (take (to - from) (drop from bytes)) in
      let (low, high) = subst (λ n. (1 ≤ n) × (n ≤ client_count)) same (line-client bytes z) in
      line_read b bytes some z
      ∙ ap (λ t. cond t (after_line by_client (pred b.left) (tally_of b) (line_of bytes).client size after) broken)
      (le-leb size (length after) (omega (arith, length-drop (line_of bytes).taken bytes)))
      ∙ ap (λ n. after_line by_client (pred b.left) (tally_of b) n size after) same
      ∙ ap₂ (λ l r. answer_bytes (answer_sheet l) ++ answers (pred b.left) (count_answer client (answer_sheet l) (tally_of b)) r)
      whole behind
      ∙ sym
      (ap₂ (λ k y. answer_bytes a ++ answers k y (drop to bytes)) (counted-left b few some client (number_of a))
      (counted-tally b few some client (number_of a) low high ∙ number_counts client a (tally_of b) (answer-right _)))
    where
      size : ℕ
      size = (line_of bytes).bytes

      after : List ℕ
      after = drop (line_of bytes).taken bytes

      whole : take size after ≡ take (to - from) (drop from bytes)
      whole = let few : size ≡ to - from = omega arith in ap₂ (λ n k. take n (drop k bytes)) few at

      behind : drop size after ≡ drop to bytes
      behind =
          let end : (line_of bytes).taken + size ≡ to = omega arith in
          drop-drop size (line_of bytes).taken bytes ∙ ap (λ n. drop n bytes) end

pub move-means : {stage : Stage} {b : Batch} {bytes : List ℕ} {m : Moved} → CountedIn stage b → Move stage b bytes m
    → meaning stage b bytes ≡ m.text ++ meaning m.stage m.batch (drop m.taken bytes)
unfolding meaning batch_output tally_of
move-means {bytes = bytes} few (begins z) =
    let (k, rest, e, d, same) = begun-got bytes z in
    output-got by_client bytes k rest e ∙ ap₂ (λ b l. answers b.left (tally_of b) l) (sym same) (sym d)
move-means {bytes = bytes} few (count-breaks h i) = output-fault by_client bytes _ (begun-fault bytes i) ∙ sym (append-nil broken)
move-means {b = b} {bytes = bytes} few (sheets-break l) = breaks-means b bytes l ∙ sym (append-nil broken)
move-means {b = b} {bytes = bytes} few (answering {client = client} {to = to} l e) =
    subst
    (λ a. answers b.left (tally_of b) bytes ≡ answer_bytes a ++ meaning Sheets (counted_of b client (number_of a)) (drop to bytes))
    e (sheet-means b bytes few l)

-- ---- bytes that wait

pub waits-none : (stage : Stage) (b : Batch) → waits_with_of stage b [] ≡ true
unfolding waits_with_of is_waiting next_sheet by_line begun_of line_of
waits-none Count b = refl
waits-none Sheets b = go (eqb b.left 0)
  where
    go : (t : Bool) → is_waiting (cond t waits (by_line (line_of []) 0)) ≡ true
    go true = refl
    go false = refl
waits-none Over b = refl

-- Bytes that wait for a sheet.
pub look-waits : (left : ℕ) (bytes : List ℕ) → is_waiting (next_sheet left bytes) ≡ true → Look left bytes waits
unfolding is_waiting
look-waits left bytes e = go (next_sheet left bytes) e (look left bytes)
  where
    go : (k : Next) → is_waiting k ≡ true → Look left bytes k → Look left bytes waits
    go waits e l = l
    go breaks e l = absurd (let z : ◌≡◌ {A = ℕ} 0 1 = cc in omega arith)
    go (sheet client from to) e l = absurd (let z : ◌≡◌ {A = ℕ} 0 1 = cc in omega arith)

line_taken : (bytes : List ℕ) → (line_of bytes).taken ≤ batch_line
unfolding line_of line_by
line_taken bytes = go (read_sheet_line bytes) refl
  where
    go : (r : Read ReadLine) → read_sheet_line bytes ≡ r → (line_by bytes r).taken ≤ batch_line
    go (got v rest) e = taken-length (sheet_line-taken bytes v rest e)
    go (fault n) e = zero-le

pub waits-short : (stage : Stage) (b : Batch) (held : List ℕ) → waits_with_of stage b held ≡ true → length held < held_need
unfolding waits_with_of
waits-short Count b held e = omega (arith, begun-early held (eqb-true _ 4 e))
waits-short Sheets b held e = go (look-waits b.left held e)
  where
    go : Look b.left held waits → length held < held_need
    go (no_more z n) = omega arith
    go (line-waits some z) = omega (arith, line-early held z)
    go (sheet-waits some z h) = omega (arith, line_small held, line_taken held)
waits-short Over b held e = omega (arith, eqb-true (length held) 0 e)

pub end-meaning : (stage : Stage) (b : Batch) (held : List ℕ) → CountedIn stage b → waits_with_of stage b held ≡ true
    → meaning stage b held ≡ end_text_of stage b (length held)
unfolding meaning batch_output end_text_of waits_with_of
end-meaning Count b held few e =
    output-fault by_client held _ (begun-fault held (λ z. omega (arith, z, eqb-true (begun_of held).refusal 4 e)))
end-meaning Sheets b held few e = go (look-waits b.left held e)
  where
    go : Look b.left held waits → answers b.left (tally_of b) held ≡ close_text b (length held)
    go (no_more z n) = left-none b held z ∙ sym (close-closing b few z held)
    go (line-waits some z) = line-unread b held some (λ e. omega (arith, e, z)) ∙ sym (close-broken b (length held) some)
    go (sheet-waits some z h) =
        let size = (line_of held).bytes in
        let after = drop (line_of held).taken held in
        line_read b held some z
        ∙ ap (λ t. cond t (after_line by_client (pred b.left) (tally_of b) (line_of held).client size after) broken)
        (lt-leb size (length after) (omega (arith, length-drop (line_of held).taken held, line-inside held)))
        ∙ sym (close-broken b (length held) some)
end-meaning Over b held few e = refl
