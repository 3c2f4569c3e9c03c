-- What is promised of the public calls, demand by demand. A reader starts here.
--
-- Each claim is about a call as it was called. `Ran side z count rows relations c` says that `run_leading` or `run_trailing`
-- was lent the stores `rows` and `relations`, with the sizes z and `count` relations, and that c is its result with both stores
-- as it left them: the function's contract, word for word. `SheetWasRead`, `SheetWasWritten`, `SheetWasAnswered`,
-- `PieceWasGiven`, `InputWasEnded`, `BatchWasAnswered` and `ExportedRun`, `ExportedRead`, `ExportedWrite`, `ExportedBatch` say
-- so of the other calls, `DifferentialWasRead` and `RecurrenceWasWritten` of those on differential sheets, `ExportedPrepare` and
-- `ExportedSteps` of those of work by steps, `ExportedReplay` and `ExportedLogged` of those on logs. The words of the claims
-- are in the files *Words.antt, and below those in `rules`, where the scope (docs/SCOPE.md) stands as definitions. Every proof here is
-- one citation of a file Lifted*.antt, which brings the theorems of `theory`, `sheets`, `answers` and `batches` to the calls, or of a
-- theorem of those crates itself.
--
-- Demand 1 (SCOPE 2.112): whatever reaches a public entry point is worked to its end or gets a refusal number; on the
-- way no digit is lost and no index is wrong. That part is no theorem here, but what it means that a crate is proved
-- (SCOPE 9.1): no public function has a `requires`, and each is proved to end, to keep its numbers in their types and
-- its indices in their stores, and to meet its contract. What is claimed here is what a refusal gives back and leaves.
-- Demand 2 (SCOPE 2.113): the output is what the rules say, each refusal comes where they say, sheets follow the
-- grammar, and one that was written reads back.
-- Demand 3 (SCOPE 2.114 to 2.122): an accepted system has the solutions of its input, its diagonal is nonzero, where its rank is m
-- D vectors past the reported root settle all that follow, its rows are independent, and its rank is below the number of
-- equations exactly if those are dependent. The rows of an output are as many as its rank says: `left z c` are its sizes.
--
-- Main statements, by demand and call
--   1 runs:         run-number, run-refused-fields, run-refused-before, run-refused-during, run-rest-kept
--     polynomials:  polynomial-refused
--     sheets:       read_number, read-refused, write-number, write-refused
--     differential: differential-number, differential-refused, recurrence-number, recurrence-refused
--     answers:      answer-number, answer-refused
--     batches:      piece-number, piece-refused, piece-rest-kept, finish-number, finish-refused, batch-number, batch-refused
--     exports:      export-number, export-refused-before, export-refused-during, export-read-number, export-read-refused,
--                   export-write-number, export-write-refused, export-batch-number, export-batch-missing,
--                   export-batch-refused
--     steps:        prepare-number, prepare-refused, steps-number, steps-refused-before, steps-refused-during
--     logs:         replay-number, replay-refused-before, replay-refused-during, logged-number, logged-refused-before,
--                   logged-refused-during
--     solutions:    solutions-course, solutions-range, solutions-lengths, solutions-numbers, solutions-before, solutions-during,
--                   solutions-answer
--   2 runs:         run-course, run-range, run-lengths, run-numbers, run-work-refused, run-accepts, run-output, run-freed,
--                   run-relations-first, run-roots, run-roots-once, run-mirrored
--     polynomials:  polynomial-range, polynomial-length, polynomial-accepts, polynomial-part, polynomial-sixteen
--     sheets:       read-course, read-faults, read-lengths, read-accepts, read-output, read-writes-back, write-course,
--                   write-range, write-lengths, write-numbers, write-accepts, write-output, written-reads-back
--     differential: differential-course, differential-accepts, differential-output, differential-passes, recurrence-course,
--                   recurrence-reads-back
--     answers:      answer-course, answer-faults, answer-work-refused, answer-sizes, answer-output
--     batches:      start_right, piece-course, piece-range, piece-lengths, piece-held, piece-accepts, piece-again,
--                   piece-writes, piece-takes, piece-gets-on, piece-stops, finish-course, finish-lengths, finish-fits,
--                   finish-output, pieces-output, pieces-exist, batch-course, batch-lengths, batch-accepts, batch-output,
--                   batch-sums
--     exports:      export-course, export-range, export-lengths, export-numbers, export-work, export-output,
--                   export-read-course, export-read-faults, export-read-lengths, export-read-accepts, export-read-output,
--                   export-write-course, export-write-range, export-write-lengths, export-write-numbers, export-write-accepts,
--                   export-write-output, export-batch-course, export-batch-lengths, export-batch-output
--     steps:        prepare-course, prepare-range, prepare-lengths, prepare-numbers, prepare-output, steps-checks, steps-output,
--                   steps-bound, steps-none, steps-divided, steps-whole, steps-passes
--     logs:         replay-course, replay-range, replay-lengths, replay-numbers, replay-output, replay-relations-first, replay-shifts,
--                   logged-course, logged-range, logged-lengths, logged-numbers, logged-output, own-log-accepted
--   3 runs:         same-solutions, diagonal-nonzero, agreement-leading, agreement-trailing, no-root, no-root-zero, last-root,
--                   root-times, no-root-times,
--                   rank_most, rank-few, rank_below, rows-independent, undropped-independent, ten-unsatisfied, shifts-bounded,
--                   output-passes
--     from an index: first-index-enough, first-index-kept, first-index-back
--     differential: differential-solutions
--     records:      record-fits, record-fails, record-limit, record-satisfied
--     answers:      answer-solutions
--     logs:         replay-solutions, replay-triangular, replay-agreement, replay-no-root, replay-no-root-zero, replay-last-root,
--                   replay-rank-most, replay-rank-few, replay-independent, replay-passes
use Rattle.std.specs.Prelude.{ℕ, pred, ◌*◌, ◌≤◌, ◌<◌, ◌≡◌, ◌↔◌, ◌≢◌, ◌⊎◌, true, false, not, T, length, take, drop, replicate, get_or, ℤ, pos, ◌+ℤ◌, ◌≤ℤ◌}
use mathlib.Core.List.{List, [], ◌∷◌, ◌++◌, map, Mem, Nodup}
use Rattle.algebra.specs.Polynomials.{Polynomial, eval, is_zero_of}
use Rattle.algebra.specs.Roots.{roots, roots-sound, roots-complete, roots-distinct}
use Rattle.rules.specs.Limits.{coefficient_count}
use Rattle.rules.specs.Rows.{Row, Relation, no_row, mirror_row_of, mirror_relation}
use Rattle.rules.specs.Elimination.{Side, leading, trailing, State, Outcome, done, refused, diagonal, mirror_outcome, whole_run_of}
use Rattle.algebra.specs.Multiplicity.{multiplicity}
use Rattle.theory.specs.Report.{product}
use Rattle.rules.specs.Stores.{Sizes, equations, span, rows_of, relations_of, row_need, relation_need, check_stores_of}
use Rattle.rules.specs.Sequences.{Sequence, value_of, Satisfies, Dependent, polynomial_at_of}
use Rattle.rules.specs.Layout.{SizeBounds, NumbersRight}
use Rattle.rules.specs.Calls.{Call, refusal, zeros, polynomial_check, polynomial_part}
use Rattle.rules.specs.Numbers.{got, fault}
use Rattle.rules.specs.Sheets.{Sheet, read_sheet_of, write_sheet_of}
use Rattle.rules.specs.SheetCalls.{ReadCall, WriteCall, unread, unwritten}
use Rattle.rules.specs.Batch.{batch_output}
use Rattle.rules.specs.Tallies.{output_in_all}
use Rattle.theory.proofs.Demands.{same-sequences}
use Rattle.theory.specs.ListedOrder.{Listed}
use Rattle.answers.specs.Answers.{AnswerCall, unanswered, sheet_after_of}
use Rattle.frames.specs.Pieces.{text_room}
use Rattle.frames.specs.Countings.{Ends, tally-sums}
use Rattle.batches.specs.declared.Stream.{Stream}
use Rattle.batches.specs.Feeds.{start_of}
use Rattle.batches.specs.PieceCalls.{held_need, PieceCall, piece_refused, OutputCall}
use Rattle.batches.specs.PieceLaws.{Run}
use Rattle.batches.specs.Rooms.{answer_room}
use Rattle.batches.specs.PieceLaws as Pieces
use Rattle.batches.specs.Rooms as Rooms
use Rattle.differential.specs.Differential.{DifferentialSheet}
use Rattle.differential.specs.Recurrence.{recurrence_of}
use Rattle.differential.specs.Meaning.{Series, SatisfiesDifferential}
use Rattle.records.specs.Records as Records
use Rattle.records.specs.Records.{Which, Tested, fits, fails, limit_passed, tests, check_record_of, record_call}
use Rattle.records.specs.RecordMeaning.{Agrees, RowPasses}
use Rattle.records.specs.Outcomes.{First, FailsWith}
use Rattle.records.specs.Explained.{named, Explains}
use Rattle.records.proofs.RecordPromises as Promises
use Rattle.export_results.specs.Results.{Exported, run_need}
use Rattle.exported_sheets.specs.Writes.{Written, not_written}
use Rattle.claims.specs.RunWords.{Ran, FoundBefore, FoundDuring, RunNumber, Rewritten, Cleared, Kept, InRange}
use Rattle.claims.specs.RunWords.{Course, LongEnough, Passed, ruled, GivesBack, left, Freed, Solves, SolvesFrom}
use Rattle.claims.specs.RunWords.{AgreeBetween, AgreeFrom, AgreeDown, AgreeUpTo, Triangular, NoRoot, LastRoot, PastRoot}
use Rattle.claims.specs.SheetWords.{WriteNumber, SheetWasRead, SheetWasWritten, IsSheetOf, HoldsSheet, ReadsBack}
use Rattle.claims.specs.SheetWords.{ReadCourse, WriteCourse, WriteRange, WriteShort, sheet_bytes, PlaceInside}
use Rattle.claims.specs.SheetWords.{WriteReady}
use Rattle.claims.specs.ExportWords.{ExportedRun, ExportedRead, ExportedWrite, ExportLong, ExportReadLong, OrderRange, OrderLong}
use Rattle.claims.specs.ExportWords.{ExportWriteShort, ExportCourse, ExportReadCourse, ExportWriteCourse}
use Rattle.claims.specs.ExportWords.{ExportGives, ExportReadGives, ExportWriteGives, ExportWriteReady}
use Rattle.claims.specs.ExportWords.{ExportedBatch, ExportBatchCourse}
use Rattle.claims.specs.AnswerWords.{AnswerCourse, SheetWasAnswered, AnswerFits, AnswerHolds, sheet_run}
use Rattle.claims.specs.AnswerWords.{SheetAccepted}
use Rattle.claims.specs.BatchWords.{PieceWasGiven, StreamInRange, StoreHolds, HeldWaits, StreamRight, PieceNumber}
use Rattle.claims.specs.BatchWords.{PieceCourse, NextTooLong, InputWasEnded, BatchWasAnswered, last_text, no_room_of}
use Rattle.claims.specs.BatchWords.{TextCourse}
use Rattle.claims.specs.DifferentialWords.{DifferentialWasRead, RecurrenceWasWritten, IsDifferential, DifferentialCourse}
use Rattle.claims.specs.DifferentialWords.{RecurrenceCourse}
use Rattle.reduction.specs.Progress.{most_steps}
use Rattle.steps.specs.HeldCalls.{state_numbers_of, prepared}
use Rattle.exported_steps.specs.StateNumbers.{state_need, StatePrepared, held_in}
use Rattle.exported_steps.specs.StepNumbers.{steps_need, check_steps, Stepped}
use Rattle.claims.specs.StepWords.{ExportedPrepare, ExportedSteps, PrepareLong, PrepareCourse, StateFault, StepsNumber, steps_told}
use Rattle.claims.specs.StepWords.{StepsGives, Successive, SameEnd}
use Rattle.log_steps.specs.Logs.{own_need}
use Rattle.logs.specs.LogCalls.{LoggedCall}
use Rattle.logs.specs.LogCallLaws.{ReplayNumber}
use Rattle.exported_logs.specs.LogNumbers.{LoggedExport, logged_need}
use Rattle.claims.specs.LogWords.{Replayed, ExportedReplay, ExportedLogged, ReplayRange, ReplayLong, LoggedLong, ReplayReturns}
use Rattle.claims.specs.LogWords.{ReplayCourse, ReplayGives, LoggedCourse, LoggedGives, steps_logged}
use Rattle.claims.specs.LiftedRuns as Runs
use Rattle.claims.specs.LiftedSheets as Sheets
use Rattle.claims.specs.LiftedDifferentials as Differentials
use Rattle.claims.specs.LiftedExports as Exports
use Rattle.claims.specs.LiftedSteps as Steps
use Rattle.claims.specs.LiftedLogs as Logs
use Rattle.claims.specs.MirroredRun.{Alike, trailing-mirrors}
use Rattle.claims.specs.LiftedAnswers as Answers
use Rattle.claims.specs.LiftedBatches as Batches
use Rattle.exported_solutions.specs.SolutionNumbers.{Solved, unsolved}
use Rattle.solutions.specs.SolutionCalls.{Work}
use Rattle.solutions.specs.AnswerNumbers.{Number}
use Rattle.claims.specs.SolutionWords.{ExportedSolutions, SolveLong, SolvePassed, Unlisted, Lists, NoneFinite, Promised, SolveCourse}
use Rattle.claims.specs.LiftedSolutions as Solutions

-- ==== runs: `elimination::run_leading` and `run_trailing`

module _ {side : Side} {z : Sizes} {count : ℕ} {rows relations : List ℤ} {c : Call}
    (ran : Ran side z count rows relations c) where
  -- ---- demand 1

  -- A run returns 0, 1, 2, 5, or a number from 7 to 10.
  pub run-number : RunNumber c.result.refusal
  run-number = Runs.number-of ran

  -- A refusal returns its number, and all other fields are 0 (SCOPE 6.31).
  pub run-refused-fields : c.result.refusal ≢ 0 → c.result ≡ refusal c.result.refusal
  run-refused-fields = Runs.fields-zero ran

  -- A refusal found before the work leaves both stores as they were (SCOPE 6.32).
  pub run-refused-before : FoundBefore c.result.refusal → (c.row_store ≡ rows) × (c.relation_store ≡ relations)
  run-refused-before = Runs.stores-kept ran

  -- A refusal found during the work leaves the needed part of both stores zero, and the rest as it was (SCOPE 6.33).
  pub run-refused-during : FoundDuring c.result.refusal
      → Cleared (row_need (equations z)) rows c.row_store × Cleared relation_need relations c.relation_store
  run-refused-during = Runs.stores-cleared ran

  -- Whatever the result, the numbers past the needed part stay, and so do the lengths (SCOPE 3.12).
  pub run-rest-kept : Kept (row_need (equations z)) rows c.row_store × Kept relation_need relations c.relation_store
  run-rest-kept = Runs.rest-kept ran

  -- ---- demand 2

  -- In one: the five things that a run can do, by what the checks and the rules say, and what each gives back and leaves.
  pub run-course : Course side z count rows relations c
  run-course = Runs.course ran

  -- 2 exactly if a size or the count is out of its range.
  pub run-range : (c.result.refusal ≡ 2) ↔ (¬ InRange z count)
  run-range = Runs.two-exactly ran

  -- 1 exactly if they are in range and a store is too short.
  pub run-lengths : (c.result.refusal ≡ 1) ↔ (InRange z count × (¬ LongEnough z rows relations))
  run-lengths = Runs.one-exactly ran

  -- 5 exactly if sizes and lengths are right, and a number is out of range or nonzero at an unused position.
  pub run-numbers : (c.result.refusal ≡ 5)
      ↔ (InRange z count × LongEnough z rows relations × (¬ NumbersRight z count rows relations))
  run-numbers = Runs.five-exactly ran

  -- 7, 8, 9 or 10 exactly if the checks pass and the run of the rules refuses with that number (SCOPE 6.7 to 6.10).
  pub run-work-refused : (n : ℕ) → FoundDuring n
      → (c.result.refusal ≡ n) ↔ (Passed z count rows relations × (ruled side z count rows relations ≡ refused n))
  run-work-refused = Runs.during-exactly ran

  -- 0 exactly if the checks pass and the run of the rules accepts.
  pub run-accepts : (c.result.refusal ≡ 0)
      ↔ (Passed z count rows relations × ((s : State) × (ruled side z count rows relations ≡ done s)))
  run-accepts = Runs.accepted-exactly ran

  -- The rows, relations, column order, shift count, root report and rank are those of the rules' final state, and what is
  -- past the needed part of a store stays (SCOPE 3.21, 3.22).
  pub run-output : c.result.refusal ≡ 0
      → (s : State) × (ruled side z count rows relations ≡ done s) × GivesBack side z s rows relations c
  run-output e = let (s, a) = Runs.accepted ran e in (s, a.accepts, a.given)

  -- The rows that are left come first in the row store; behind them its needed part is zero (SCOPE 3.14).
  pub run-freed : c.result.refusal ≡ 0 → Freed (row_need (equations z)) (row_need c.result.rank) c.row_store
  run-freed = Runs.freed ran

  -- The lent relations stay first, in their order (SCOPE 2.3). Behind them the relations that one multiplier adds stand
  -- together, by strictly ascending n0, on either side as given back (SCOPE 2.33).
  pub run-relations-first : c.result.refusal ≡ 0
      → (more : List Relation)
      × (relations_of c.result.relations c.relation_store ≡ relations_of count relations ++ more) × Listed more
  run-relations-first = Runs.relations-first ran

  -- ---- demand 3

  -- A system that is refused with 10 is satisfied by no sequence (SCOPE 2.121).
  pub ten-unsatisfied : c.result.refusal ≡ 10 → (y : Sequence) → Solves z count rows relations y → ⊥
  ten-unsatisfied = Runs.unsatisfied-ten ran

  module _ (accepted : c.result.refusal ≡ 0) where
    -- The same sequences satisfy the system that was lent and the one that was given back (SCOPE 2.114).
    pub same-solutions : (y : Sequence)
        → Solves z count rows relations y ↔ Solves (left z c) c.result.relations c.row_store c.relation_store y
    same-solutions = Runs.sequences ran accepted

    -- In the reported order, of different columns, block l, or block t, is triangular, with nonzero diagonal polynomials; where the
    -- rank is m it is an order of all columns (SCOPE 2.71, 2.73, 2.115).
    pub diagonal-nonzero : Triangular side (left z c) c
    diagonal-nonzero = Runs.triangular ran accepted

    -- No root is reported exactly if no diagonal polynomial has an integer root (SCOPE 2.81),
    pub no-root : (c.result.has_root_of ≡ false) ↔ NoRoot side (left z c) c
    no-root = Runs.root-no ran accepted

    -- and then the root is 0 (SCOPE 2.82).
    pub no-root-zero : c.result.has_root_of ≡ false → c.result.root ≡ pos 0
    no-root-zero = Runs.root_none ran accepted

    -- A root that is reported is the largest integer root of all diagonal polynomials, on the trailing side the
    -- smallest (SCOPE 2.81, 2.93).
    pub last-root : c.result.has_root_of ≡ true → LastRoot side (left z c) c c.result.root
    last-root = Runs.root-yes ran accepted

    -- Beside it stands how often it occurs in the product of the diagonal polynomials of the rules' final state, at least once, and 0 with
    -- "no" (SCOPE 2.83).
    pub root-times : c.result.has_root_of ≡ true → (s : State) × (ruled side z count rows relations ≡ done s)
        × (c.result.multiplicity ≡ multiplicity (product (diagonal side (span z) s)) c.result.root) × (1 ≤ c.result.multiplicity)
    root-times = Runs.times-yes ran accepted

    pub no-root-times : c.result.has_root_of ≡ false → c.result.multiplicity ≡ 0
    no-root-times = Runs.times_none ran accepted

    -- The rank is at most the number of unknowns, and at most that of the lent equations (SCOPE 2.13).
    pub rank_most : c.result.rank ≤ z.m
    rank_most = Runs.most-unknowns ran accepted

    pub rank-few : c.result.rank ≤ equations z
    rank-few = Runs.most-equations ran accepted

    -- It is below that number exactly if a nonzero combination of shifted lent equations vanishes: so it is where a row was dropped
    -- (SCOPE 2.119, 2.122), and a run that is refused later has dropped one only there too, by `dropped-dependent` of
    -- crates/theory/proofs/Demands.antt.
    pub rank_below : (c.result.rank < equations z) ↔ Dependent z.l (rows_of (equations z) rows)
    rank_below = Runs.below-dependent ran accepted

    -- The rows that are left are independent, and so are the lent ones where none was dropped (SCOPE 2.118).
    pub rows-independent : ¬ Dependent z.l (rows_of c.result.rank c.row_store)
    rows-independent = Runs.kept-independent ran accepted

    pub undropped-independent : c.result.rank ≡ equations z → ¬ Dependent z.l (rows_of (equations z) rows)
    undropped-independent = Runs.undropped-independent ran accepted

    -- There are at most D shifts for each lent equation (SCOPE 2.65).
    pub shifts-bounded : c.result.shifts ≤ equations z * span z
    shifts-bounded = Runs.shifts-few ran accepted

    -- What was given back, with the rank as its number of equations, passes the checks of the next call: every number within ±C,
    -- every degree at most 15, unused positions zero (SCOPE 9.27).
    pub output-passes : Passed (left z c) c.result.relations c.row_store c.relation_store
    output-passes = Runs.output-passes ran accepted

-- Where the rank is m, two solutions that agree on D successive vectors past the reported root agree ever after (SCOPE 2.116,
-- 2.117): on the leading side upwards,
pub agreement-leading : {z : Sizes} {count : ℕ} {rows relations : List ℤ} {c : Call} → Ran leading z count rows relations c
    → c.result.refusal ≡ 0 → c.result.rank ≡ z.m
    → (y w : Sequence) → Solves z count rows relations y → Solves z count rows relations w → (n : ℤ)
    → PastRoot leading c.result n → AgreeBetween z y w (n +ℤ z.t) (n +ℤ z.l) → AgreeFrom z y w (n +ℤ z.t)
agreement-leading = Runs.agrees-leading

-- on the trailing side downwards.
pub agreement-trailing : {z : Sizes} {count : ℕ} {rows relations : List ℤ} {c : Call} → Ran trailing z count rows relations c
    → c.result.refusal ≡ 0 → c.result.rank ≡ z.m
    → (y w : Sequence) → Solves z count rows relations y → Solves z count rows relations w → (n : ℤ)
    → PastRoot trailing c.result n → AgreeDown z y w (n +ℤ z.t) (n +ℤ z.l) → AgreeUpTo z y w (n +ℤ z.l)
agreement-trailing = Runs.agrees-trailing

-- Sequences with a first index, on the leading side. Equations at every n from k or a later index on and relations with n0 ≥ k use nothing
-- below the index k + t, so that a two-sided sequence serves for a series that begins there (SCOPE 2.125).
pub first-index-enough : {z : Sizes} {count : ℕ} {rows relations : List ℤ} → Passed z count rows relations → (j k : ℤ) → k ≤ℤ j
    → (y w : Sequence) → AgreeFrom z y w (k +ℤ z.t) → SolvesFrom z j k count rows relations y → SolvesFrom z j k count rows relations w
first-index-enough = Runs.from-unused

module _ {z : Sizes} {count : ℕ} {rows relations : List ℤ} {c : Call} (ran : Ran leading z count rows relations c)
    (accepted : c.result.refusal ≡ 0) (k : ℤ) (y : Sequence) where
  -- What satisfies the lent equations at every n ≥ k and the lent relations with n0 ≥ k does so with those that were given back (SCOPE 2.123).
  pub first-index-kept : SolvesFrom z k k count rows relations y
      → SolvesFrom (left z c) k k c.result.relations c.row_store c.relation_store y
  first-index-kept = Runs.from-kept ran accepted k y

  -- What satisfies these satisfies the lent equations at every n ≥ k + S, with S the shift count, and the lent relations with n0 ≥ k
  -- (SCOPE 2.124).
  pub first-index-back : SolvesFrom (left z c) k k c.result.relations c.row_store c.relation_store y
      → SolvesFrom z (k +ℤ pos c.result.shifts) k count rows relations y
  first-index-back = Runs.from_back ran accepted k y

-- ---- demand 2, of the rules themselves
--
-- The rules are `step` and `run` of crates/rules/specs/Elimination.antt. A step has no memory of j: that it is the loop
-- over j is `next-row-later` and `zero-row-dropped` of crates/theory/proofs/Demands.antt (SCOPE 2.26). The order among
-- the roots of one g is ours (SCOPE 2.33).

-- The roots that are listed for g are its integer roots (SCOPE 2.31),
pub run-roots : (g : Polynomial) → T (not (is_zero_of g)) → (n : ℤ) → Mem n (roots g) ↔ (eval g n ≡ pos 0)
run-roots g nonzero n = (roots-sound g, roots-complete g n nonzero)

-- each of them once (SCOPE 9.3).
pub run-roots-once : (g : Polynomial) → T (not (is_zero_of g)) → Nodup (roots g)
run-roots-once = roots-distinct

-- The trailing run is the mirror: run the mirrored system on the leading side, with the roots of one g in some order,
-- and mirror back (SCOPE 2.91).
pub run-mirrored : (D : ℕ) (rows : List Row) (relations : List Relation)
    → (o : Outcome) × (whole_run_of trailing D rows relations ≡ mirror_outcome D o)
    × Alike o (whole_run_of leading D (map (mirror_row_of D) rows) (map (mirror_relation D) relations))
run-mirrored = trailing-mirrors

-- ==== one polynomial: `elimination::check_polynomial` and `polynomial`

module _ (rows : List ℤ) (z : Sizes) (row : ℕ) (block : ℤ) (column : ℕ) where
  -- Where the check is not 0, the part is empty (SCOPE 3.44).
  pub polynomial-refused : polynomial_check rows z row block column ≢ 0 → polynomial_part rows z row block column ≡ []
  polynomial-refused = Sheets.part_none rows z row block column

  -- 2 exactly if a size or the place is out of range (SCOPE 3.42),
  pub polynomial-range : (polynomial_check rows z row block column ≡ 2) ↔ (¬ (SizeBounds z × PlaceInside z row block column))
  polynomial-range = Sheets.place-two rows z row block column

  -- 1 exactly if it is not and the store is too short (SCOPE 3.43),
  pub polynomial-length : (polynomial_check rows z row block column ≡ 1)
      ↔ ((SizeBounds z × PlaceInside z row block column) × (¬ (row_need (equations z) ≤ length rows)))
  polynomial-length = Sheets.place-one rows z row block column

  -- 0 otherwise.
  pub polynomial-accepts : (polynomial_check rows z row block column ≡ 0)
      ↔ ((SizeBounds z × PlaceInside z row block column) × (row_need (equations z) ≤ length rows))
  polynomial-accepts = Sheets.place-zero rows z row block column

  -- Then the part is the polynomial of that row, block and column, sixteen coefficients (SCOPE 3.41).
  pub polynomial-part : polynomial_check rows z row block column ≡ 0
      → polynomial_part rows z row block column
      ≡ polynomial_at_of z.l (get_or (rows_of (equations z) rows) (pred row) no_row) block (pred column)
  polynomial-part = Sheets.part-polynomial rows z row block column

  pub polynomial-sixteen : polynomial_check rows z row block column ≡ 0
      → length (polynomial_part rows z row block column) ≡ coefficient_count
  polynomial-sixteen = Sheets.part-sixteen rows z row block column

-- ==== sheets: `sheets::read_sheet` and `write_sheet`

module _ {bytes : List ℕ} {rows relations : List ℤ} {c : ReadCall} (was_read : SheetWasRead bytes rows relations c) where
  -- Reading returns 0, or a refusal from 1 to 5;
  pub read_number : (c.result.refusal ≡ 0) ⊎ FoundBefore c.result.refusal
  read_number = Sheets.read_number was_read

  -- with a refusal all other fields are 0, and the stores are as they were (SCOPE 4.43, 6.31).
  pub read-refused : c.result.refusal ≢ 0 → c ≡ unread c.result.refusal rows relations
  read-refused = Sheets.read-refused was_read

  -- In one: the three things that reading can do.
  pub read-course : ReadCourse bytes rows relations c
  read-course = Sheets.read-course was_read

  -- 2, 3, 4 or 5 exactly if that is the number of the first fault that the grammar finds (SCOPE 4.37).
  pub read-faults : (n : ℕ) → 2 ≤ n → (c.result.refusal ≡ n) ↔ (read_sheet_of bytes ≡ fault n)
  read-faults = Sheets.read-fault was_read

  -- 1 exactly if the bytes are a sheet, and a store is too short for it (SCOPE 4.42).
  pub read-lengths : (c.result.refusal ≡ 1) ↔ ((x : Sheet) × IsSheetOf x bytes × (¬ LongEnough x.sizes rows relations))
  read-lengths = Sheets.read_short was_read

  -- 0 exactly if the bytes are those written of a sheet, and the stores are long enough for it.
  pub read-accepts : (c.result.refusal ≡ 0) ↔ ((x : Sheet) × IsSheetOf x bytes × LongEnough x.sizes rows relations)
  read-accepts = Sheets.read-accepts was_read

  -- Then the result and the stores hold that sheet, and what is past the needed part of a store stays (SCOPE 4.43).
  pub read-output : (x : Sheet) → IsSheetOf x bytes → c.result.refusal ≡ 0 → HoldsSheet x rows relations c
  read-output = Sheets.read-sheet was_read

  -- What was read is written back as the same bytes (SCOPE 4.56).
  pub read-writes-back : c.result.refusal ≡ 0 → {byte_store : List ℕ} {w : WriteCall}
      → SheetWasWritten c.result.sizes c.result.relations c.result.order c.row_store c.relation_store byte_store w
      → length bytes ≤ length byte_store
      → (w.refusal ≡ 0) × (w.length ≡ length bytes) × Rewritten (length bytes) bytes byte_store w.byte_store
  read-writes-back = Sheets.write-back was_read

module _ {z : Sizes} {count : ℕ} {order : List ℕ} {rows relations : List ℤ} {bytes : List ℕ} {w : WriteCall}
    (was-written : SheetWasWritten z count order rows relations bytes w) where
  -- Writing returns 0, 1, 2 or 5;
  pub write-number : WriteNumber w.refusal
  write-number = Sheets.write-number was-written

  -- with a refusal the length is 0, and the byte store is as it was (SCOPE 4.54).
  pub write-refused : w.refusal ≢ 0 → w ≡ unwritten w.refusal bytes
  write-refused = Sheets.write-refused was-written

  -- In one: the five things that writing can do.
  pub write-course : WriteCourse z count order rows relations bytes w
  write-course = Sheets.write-course was-written

  -- 2 exactly if a size, the count or the order is out of range,
  pub write-range : (w.refusal ≡ 2) ↔ (¬ WriteRange z count order)
  write-range = Sheets.write-range was-written

  -- 1 exactly if they are in range and a store of the system is too short, or all is right but the length of the byte store,
  pub write-lengths : (w.refusal ≡ 1) ↔ WriteShort z count order rows relations bytes
  write-lengths = Sheets.write-short was-written

  -- 5 exactly if sizes and lengths are right, and a number is out of range or nonzero at an unused position.
  pub write-numbers : (w.refusal ≡ 5)
      ↔ (WriteRange z count order × LongEnough z rows relations × (¬ NumbersRight z count rows relations))
  write-numbers = Sheets.write-numbers was-written

  -- 0 exactly if all checks pass and the byte store is long enough for the sheet.
  pub write-accepts : (w.refusal ≡ 0)
      ↔ (WriteReady z count order rows relations × (length (sheet_bytes z count order rows relations) ≤ length bytes))
  write-accepts = Sheets.write-accepts was-written

  -- Then the byte store begins with the sheet of the system, and the bytes past it stay (SCOPE 4.51, 4.52).
  pub write-output : w.refusal ≡ 0 → (w.length ≡ length (sheet_bytes z count order rows relations))
      × Rewritten w.length (sheet_bytes z count order rows relations) bytes w.byte_store
  write-output = Sheets.write_bytes was-written

  -- A sheet that was written reads back, into any stores that are long enough, as its system: sizes, count, order, rows
  -- and relations (SCOPE 4.56).
  pub written-reads-back : w.refusal ≡ 0 → {rows' relations' : List ℤ} {c : ReadCall}
      → SheetWasRead (take w.length w.byte_store) rows' relations' c → LongEnough z rows' relations'
      → ReadsBack z count order rows relations rows' relations' c
  written-reads-back = Sheets.read_back was-written

-- ==== differential sheets: `differential::read_differential` and `write_recurrence`

module _ {bytes : List ℕ} {rows relations : List ℤ} {c : ReadCall} (was_read : DifferentialWasRead bytes rows relations c) where
  -- ---- demand 1

  -- Reading returns 0, or a number from 1 to 5.
  pub differential-number : (c.result.refusal ≡ 0) ⊎ FoundBefore c.result.refusal
  differential-number = Differentials.read_number was_read

  -- A refusal returns its number, with all other fields 0, and leaves both stores as they were (SCOPE 10.41).
  pub differential-refused : c.result.refusal ≢ 0 → c ≡ unread c.result.refusal rows relations
  differential-refused = Differentials.read-refused was_read

  -- ---- demand 2

  -- In one: the three things that the call can do.
  pub differential-course : DifferentialCourse bytes rows relations c
  differential-course = Differentials.read-course was_read

  -- It accepts exactly if the bytes are a differential sheet and the stores are long enough.
  pub differential-accepts : (c.result.refusal ≡ 0)
      ↔ ((d : DifferentialSheet) × IsDifferential d bytes × LongEnough (recurrence_of d).sizes rows relations)
  differential-accepts = Differentials.read-accepts was_read

  module _ (d : DifferentialSheet) (is : IsDifferential d bytes) (accepted : c.result.refusal ≡ 0) where
    -- The result and the stores then hold its recurrence (SCOPE 10.21).
    pub differential-output : HoldsSheet (recurrence_of d) rows relations c
    differential-output = Differentials.read-holds was_read d is accepted

    -- What was read passes the checks of a run: it is refused with neither 2 nor 1 nor 5 (SCOPE 10.24).
    pub differential-passes : check_stores_of c.result.sizes c.result.relations c.row_store c.relation_store ≡ 0
    differential-passes = Differentials.read-passes was_read d is accepted

    -- ---- demand 3

    -- A series satisfies the differential sheet exactly if its coefficients satisfy the system that the stores hold (SCOPE 10.33).
    pub differential-solutions : (y : Sequence) → Series y
        → SatisfiesDifferential d y
        ↔ Satisfies c.result.sizes.l (rows_of (equations c.result.sizes) c.row_store)
        (relations_of c.result.relations c.relation_store) y
    differential-solutions = Differentials.read-solutions was_read d is accepted

module _ {sheet bytes : List ℕ} {w : WriteCall} (was-written : RecurrenceWasWritten sheet bytes w) where
  -- ---- demand 1

  -- Writing returns 0, or a number from 1 to 5.
  pub recurrence-number : (w.refusal ≡ 0) ⊎ FoundBefore w.refusal
  recurrence-number = Differentials.write-number was-written

  -- A refusal writes nothing (SCOPE 10.42).
  pub recurrence-refused : w.refusal ≢ 0 → w ≡ unwritten w.refusal bytes
  recurrence-refused = Differentials.write-refused was-written

  -- ---- demand 2

  -- In one: the three things that the call can do.
  pub recurrence-course : RecurrenceCourse sheet bytes w
  recurrence-course = Differentials.write-course was-written

  -- What is written reads back as the recurrence (SCOPE 4.56, 10.42).
  pub recurrence-reads-back : (d : DifferentialSheet) → IsDifferential d sheet
      → read_sheet_of (write_sheet_of (recurrence_of d)) ≡ got (recurrence_of d) []
  recurrence-reads-back = Differentials.written-reads was-written

-- ==== the answer to one sheet: `batches::answer`

module _ {bytes store : List ℕ} {a : AnswerCall} (was-answered : SheetWasAnswered bytes store a) where
  -- An answer is 0 or a refusal from 1 to 5 or from 7 to 10;
  pub answer-number : (a.refusal ≡ 0) ⊎ (FoundBefore a.refusal ⊎ FoundDuring a.refusal)
  answer-number = Answers.answer-number was-answered

  -- with a refusal the length is 0, and the lent store is as it was: no byte of it was needed (SCOPE 5.31).
  pub answer-refused : a.refusal ≢ 0 → a ≡ unanswered a.refusal store
  answer-refused = Answers.answer-refused was-answered

  -- In one: the four things that the call can do.
  pub answer-course : AnswerCourse bytes store a
  answer-course = Answers.answer-course was-answered

  -- 2, 3, 4 or 5 exactly if that is the number of the sheet's first fault,
  pub answer-faults : (n : ℕ) → 2 ≤ n → n ≤ 5 → (a.refusal ≡ n) ↔ (read_sheet_of bytes ≡ fault n)
  answer-faults = Answers.answer-fault was-answered

  -- 7, 8, 9 or 10 exactly if the leading run of the rules refuses the sheet with that number,
  pub answer-work-refused : (n : ℕ) → FoundDuring n
      → (a.refusal ≡ n) ↔ ((x : Sheet) × IsSheetOf x bytes × (sheet_run x ≡ refused n))
  answer-work-refused = Answers.answer-during was-answered

  -- and for a sheet that the rules accept 0 or 1: 1 exactly if the answer is above 65,536 bytes or the lent store is
  -- too short for it (SCOPE 5.13, 5.31).
  pub answer-sizes : {x : Sheet} {s : State} → IsSheetOf x bytes → SheetAccepted x s
      → ((a.refusal ≡ 0) ↔ AnswerFits (write_sheet_of (sheet_after_of x s)) store)
      × ((a.refusal ≡ 1) ↔ (¬ AnswerFits (write_sheet_of (sheet_after_of x s)) store))
  answer-sizes = Answers.answer-fits was-answered

  -- With 0 the store begins with the sheet of the rules' final state, and the bytes past it stay (SCOPE 5.14, 5.31).
  pub answer-output : a.refusal ≡ 0 → (x : Sheet) × (s : State) × AnswerHolds bytes store a x s
  answer-output = Answers.answer-accepted was-answered

  -- The sheet that answers has the solutions of the sheet that was asked (SCOPE 2.114). The other sentences of demand 3
  -- hold of it too: they take `accepted` of AnswerHolds, in crates/theory/proofs/Demands.antt.
  pub answer-solutions : {x : Sheet} {s : State} → AnswerHolds bytes store a x s → (y : Sequence)
      → Satisfies x.sizes.l x.rows x.relations y ↔ Satisfies x.sizes.l s.rows s.relations y
  answer-solutions h = same-sequences h.accepted

-- ==== a batch in pieces: `batches::start`, `piece` and `finish`
--
-- A `Stream` is a batch that comes in pieces; it is made by `start`, and each call of `piece` gives the next one. A call is given
-- a piece of the input and says how many bytes of it were taken: the others come again with the next piece. Bytes that begin a
-- line or a sheet are held in a store that the caller lends, and hands in again as it was left (SCOPE 5.33).

module _ {s : Stream} {store piece output : List ℕ} {c : PieceCall} (given : PieceWasGiven s store piece output c) where
  -- ---- demand 1

  -- A piece returns 0, 1, 2 or 5.
  pub piece-number : PieceNumber c.refusal
  piece-number = Batches.piece-number given

  -- A refusal leaves both stores as they were, and all other fields are as at the start of a batch (SCOPE 5.34).
  pub piece-refused : c.refusal ≢ 0 → c ≡ piece_refused c.refusal store output
  piece-refused = Batches.piece-refused given

  -- Whatever the result, the bytes past the first 32,792 of the store for held bytes stay, and so does its length.
  pub piece-rest-kept : Kept held_need store c.store
  piece-rest-kept = Batches.piece_store given

  -- ---- demand 2

  -- In one: the four things that the call can do.
  pub piece-course : PieceCourse s store piece output c
  piece-course = Batches.piece-course given

  -- 2 exactly if a size of the stream is out of range,
  pub piece-range : (c.refusal ≡ 2) ↔ (¬ StreamInRange s)
  piece-range = Batches.piece-two given

  -- 1 exactly if they are in range, and the store for held bytes is shorter than 32,792,
  pub piece-lengths : (c.refusal ≡ 1) ↔ (StreamInRange s × (¬ StoreHolds store))
  piece-lengths = Batches.piece-one given

  -- 5 exactly if sizes and length are right, and the bytes that are held do not begin a line or a sheet.
  pub piece-held : (c.refusal ≡ 5) ↔ (StreamInRange s × StoreHolds store × (¬ HeldWaits s store))
  piece-held = Batches.piece-five given

  -- 0 exactly if all three are right.
  pub piece-accepts : (c.refusal ≡ 0) ↔ StreamRight s store
  piece-accepts = Batches.piece-zero given

  -- What is written stands at the front of the output, and the bytes past it stay.
  pub piece-writes : (c.written ≤ length output) × Kept c.written output c.output
  piece-writes = Batches.piece-written given

  -- No more bytes are taken than there are,
  pub piece-takes : c.taken ≤ length piece
  piece-takes = Batches.piece-taken given

  module _ (accepted : c.refusal ≡ 0) where
    -- at least one of a piece that is not empty, in an output of at least 65,538 bytes (SCOPE 5.34),
    pub piece-gets-on : answer_room ≤ length output → 1 ≤ length piece → 1 ≤ c.taken
    piece-gets-on = Batches.piece-some given accepted

    -- and all of the piece, unless the next answer does not fit behind those that are written (SCOPE 5.34).
    pub piece-stops : c.taken < length piece → NextTooLong piece output c
    piece-stops = Batches.piece-stops given accepted

    -- The next call does not refuse the stream and the store that this one gives back,
    pub piece-again : StreamRight c.stream c.store
    piece-again = Batches.piece-again given accepted

-- nor those that a batch starts with.
pub start_right : (store : List ℕ) → StoreHolds store → StreamRight start_of store
start_right = Pieces.start_right

module _ {s : Stream} {output : List ℕ} {e : OutputCall} (ended : InputWasEnded s output e) where
  -- The end of the input returns 0 or 1;
  pub finish-number : (e.refusal ≡ 0) ⊎ (e.refusal ≡ 1)
  finish-number = Batches.text-number (Batches.end-course ended)

  -- with a refusal the length is 0, and the output is as it was (SCOPE 5.35).
  pub finish-refused : e.refusal ≢ 0 → e ≡ no_room_of output
  finish-refused = Batches.text-refused (Batches.end-course ended)

  -- In one: the two things that the call can do.
  pub finish-course : TextCourse (last_text s) output output e
  finish-course = Batches.end-course ended

  -- 1 exactly if the output is too short for what is still to be written,
  pub finish-lengths : (e.refusal ≡ 1) ↔ (length output < length (last_text s))
  finish-lengths = Batches.text-one (Batches.end-course ended)

  -- which for a stream that `start` or `piece` gave is at most 192 bytes.
  pub finish-fits : (store : List ℕ) → StreamRight s store → text_room ≤ length output → e.refusal ≡ 0
  finish-fits = Batches.end_fits ended

  -- With 0 the output begins with that, and the bytes past it stay (SCOPE 5.35).
  pub finish-output : e.refusal ≡ 0
      → (e.length ≡ length (last_text s)) × Rewritten e.length (last_text s) output e.output
  finish-output = Batches.text-front (Batches.end-course ended)

-- `Run start_of store input written` says that a batch was started, that calls of `piece` took the whole of `input`, in any pieces
-- and with any outputs, that `finish` was not refused, and that what they wrote, laid end to end, is `written`.

-- However the input is cut, and whatever room each call has, the calls write what the whole batch writes (SCOPE 5.36),
pub pieces-output : {store input written : List ℕ} → StoreHolds store → Run start_of store input written
    → written ≡ batch_output input
pieces-output {store} {input} {written} = Pieces.pieces-output store input written

-- and there are such calls for every input, in any output of at least 65,538 bytes.
pub pieces-exist : (output : List ℕ) → answer_room ≤ length output → (store input : List ℕ) → StoreHolds store
    → Run start_of store input (batch_output input)
pieces-exist = Rooms.pieces-exist

-- ==== a whole batch: `batches::output`

module _ {input output : List ℕ} {e : OutputCall} (answered : BatchWasAnswered input output e) where
  -- A whole batch returns 0 or 1, and a broken one 0: its output ends in `3` (SCOPE 5.32).
  pub batch-number : (e.refusal ≡ 0) ⊎ (e.refusal ≡ 1)
  batch-number = Batches.text-number (Batches.whole-course answered)

  -- A refusal is found during the work: the length is 0, and all of the output is zero (SCOPE 5.32).
  pub batch-refused : e.refusal ≢ 0 → e ≡ no_room_of (replicate (length output) 0)
  batch-refused = Batches.text-refused (Batches.whole-course answered)

  -- In one: the two things that the call can do.
  pub batch-course : TextCourse (batch_output input) output (replicate (length output) 0) e
  batch-course = Batches.whole-course answered

  -- 1 exactly if the output is shorter than what the batch writes (SCOPE 5.1 to 5.22),
  pub batch-lengths : (e.refusal ≡ 1) ↔ (length output < length (batch_output input))
  batch-lengths = Batches.text-one (Batches.whole-course answered)

  -- 0 otherwise.
  pub batch-accepts : (e.refusal ≡ 0) ↔ (length (batch_output input) ≤ length output)
  batch-accepts = Batches.text-zero (Batches.whole-course answered)

  -- Then the output begins with that, and the bytes past it stay.
  pub batch-output : e.refusal ≡ 0
      → (e.length ≡ length (batch_output input)) × Rewritten e.length (batch_output input) output e.output
  batch-output = Batches.text-front (Batches.whole-course answered)

-- Whatever the input, what is written for it has the same answers as the output that counts the sheets of all clients together, and then
-- both are broken, or the eight lines of the one have as their sums over the clients the two numbers of the other's last line
-- (SCOPE 5.12, 5.15).
pub batch-sums : (input : List ℕ) → Ends (batch_output input) (output_in_all input)
batch-sums = tally-sums

-- ==== records: `check_record`

-- What the answer to a record says, of stores that pass the checks of the call (SCOPE 12.25). `tests` are the tests in their order.
module _ (z : Sizes) (count : ℕ) (first : ℤ) (vectors : ℕ) (rows relations values : List ℤ)
    (passed : check_record_of z count first vectors rows relations values ≡ 0) where
  abbrev recorded : List Tested
  recorded = tests z first vectors (take (vectors * z.m) values) (rows_of (equations z) rows) (relations_of count relations)

  abbrev record_answer : Records.Answer
  record_answer = record_call z count first vectors rows relations values

  -- Where 12 does not come, "fits" comes exactly if every tested equation and relation holds of a sequence with these vectors.
  pub record-fits : (y : Sequence) → Agrees z.m first vectors values y → record_answer ≢ Records.refused limit_passed
      → (record_answer ≡ fits (length recorded)) ↔ Explains z first vectors (rows_of (equations z) rows) (relations_of count relations) y
  record-fits = Promises.record-fits z count first vectors rows relations values passed

  -- A failure is the first in the order of the tests, and its sum is the nonzero value of its row there.
  pub record-fails : (w : Which) (n s : ℤ) → record_answer ≡ fails w n s
      → First (FailsWith w n s) recorded
      × ((y : Sequence) → Agrees z.m first vectors values y
      → (s ≡ value_of z.l (named (rows_of (equations z) rows) (relations_of count relations) w) y n) × (s ≢ pos 0))
  record-fails = Promises.record-fails z count first vectors rows relations values passed

  -- 12 comes exactly if, before any nonzero sum, a value of Horner's rule for a tested row passes ±2^40 (SCOPE 12.31).
  pub record-limit : (record_answer ≡ Records.refused limit_passed)
      ↔ First (λ t. RowPasses z.m (span z) (named (rows_of (equations z) rows) (relations_of count relations) t.which) t.index) recorded
  record-limit = Promises.record-limit z count first vectors rows relations values passed

  -- What satisfies the system and has the recorded vectors never fails.
  pub record-satisfied : (y : Sequence) → Solves z count rows relations y → Agrees z.m first vectors values y
      → (w : Which) (n s : ℤ) → record_answer ≢ fails w n s
  record-satisfied = Promises.satisfied-never-fails z count first vectors rows relations values passed

-- ==== the exported calls: `wurgalm_run_leading`, `wurgalm_run_trailing`, `wurgalm_read_sheet`, `wurgalm_write_sheet`,
-- `wurgalm_batch`
--
-- They return the refusal, and the other fields of the result are numbers of one more lent store, `result`: ten for a
-- run, nine for a sheet that is read, one, the length, for a sheet that is written (SCOPE 3.51, 3.52) and for a batch.

module _ {side : Side} {z : Sizes} {count : ℕ} {rows relations result : List ℤ} {e : Exported}
    (exported : ExportedRun side z count rows relations result e) where
  -- An exported run returns what a run returns.
  pub export-number : RunNumber e.refusal
  export-number = Exports.export-number exported

  -- A refusal found before the work leaves all three stores as they were (SCOPE 3.54, 6.32),
  pub export-refused-before : FoundBefore e.refusal
      → (e.row_store ≡ rows) × (e.relation_store ≡ relations) × (e.result_store ≡ result)
  export-refused-before = Exports.export-refused exported

  -- one found during the work leaves the needed part of all three zero, and the rest as it was (SCOPE 3.54, 6.33).
  pub export-refused-during : FoundDuring e.refusal
      → Cleared (row_need (equations z)) rows e.row_store × Cleared relation_need relations e.relation_store
      × Cleared run_need result e.result_store
  export-refused-during = Exports.export-cleared exported

  -- In one: the four things that an exported run can do.
  pub export-course : ExportCourse side z count rows relations result e
  export-course = Exports.export-course exported

  -- 2 exactly if a size or the count is out of range,
  pub export-range : (e.refusal ≡ 2) ↔ (¬ InRange z count)
  export-range = Exports.export-two exported

  -- 1 exactly if they are in range and a store is too short, the result's too (SCOPE 3.53),
  pub export-lengths : (e.refusal ≡ 1) ↔ (InRange z count × (¬ ExportLong z rows relations result))
  export-lengths = Exports.export-one exported

  -- 5 exactly if sizes and lengths are right and a number is wrong,
  pub export-numbers : (e.refusal ≡ 5)
      ↔ (InRange z count × ExportLong z rows relations result × (¬ NumbersRight z count rows relations))
  export-numbers = Exports.export-five exported

  -- any other number exactly if the run on the same stores returns it and the result's store is long enough.
  pub export-work : {c : Call} → Ran side z count rows relations c → (n : ℕ) → ¬ FoundBefore n
      → (e.refusal ≡ n) ↔ ((c.result.refusal ≡ n) × (run_need ≤ length result))
  export-work = Exports.export-as-run exported

  -- With 0 the stores are those of the run, and the result's store begins with the ten numbers of SCOPE 3.52.
  pub export-output : e.refusal ≡ 0 → (c : Call) × ExportGives side z count rows relations result c e
  export-output = Exports.export-accepted exported

module _ {bytes : List ℕ} {rows relations result : List ℤ} {e : Exported}
    (exported : ExportedRead bytes rows relations result e) where
  -- Reading returns 0, or a refusal from 1 to 5,
  pub export-read-number : (e.refusal ≡ 0) ⊎ FoundBefore e.refusal
  export-read-number = Exports.export-read-number exported

  -- which leaves all three stores as they were.
  pub export-read-refused : e.refusal ≢ 0 → (e.row_store ≡ rows) × (e.relation_store ≡ relations) × (e.result_store ≡ result)
  export-read-refused = Exports.export-read-refused exported

  -- In one: the two things that the call can do.
  pub export-read-course : ExportReadCourse bytes rows relations result e
  export-read-course = Exports.export-read-course exported

  -- 2, 3, 4 or 5 exactly if that is the number of the first fault,
  pub export-read-faults : (n : ℕ) → 2 ≤ n → (e.refusal ≡ n) ↔ (read_sheet_of bytes ≡ fault n)
  export-read-faults = Exports.export-read-fault exported

  -- 1 exactly if the bytes are a sheet, and a store is too short, the result's too,
  pub export-read-lengths : (e.refusal ≡ 1) ↔ ((x : Sheet) × IsSheetOf x bytes × (¬ ExportReadLong x.sizes rows relations result))
  export-read-lengths = Exports.export-read-short exported

  -- 0 exactly if the bytes are a sheet, and the stores are long enough for it.
  pub export-read-accepts : (e.refusal ≡ 0) ↔ ((x : Sheet) × IsSheetOf x bytes × ExportReadLong x.sizes rows relations result)
  export-read-accepts = Exports.export-read-accepts exported

  -- Then the stores are those of the call that reads a sheet, and the result's store begins with the nine numbers of its
  -- result.
  pub export-read-output : e.refusal ≡ 0 → (c : ReadCall) × ExportReadGives bytes rows relations result c e
  export-read-output = Exports.export-read-accepted exported

module _ {z : Sizes} {count : ℕ} {order rows relations : List ℤ} {bytes : List ℕ} {result : List ℤ} {w : Written}
    (exported : ExportedWrite z count order rows relations bytes result w) where
  -- Writing returns 0, 1, 2 or 5,
  pub export-write-number : WriteNumber w.refusal
  export-write-number = Exports.export-write-number exported

  -- and a refusal leaves the byte store and the result's store as they were.
  pub export-write-refused : w.refusal ≢ 0 → (w.byte_store ≡ bytes) × (w.result_store ≡ result)
  export-write-refused = Exports.export-write-refused exported

  -- In one: the four things that the call can do.
  pub export-write-course : ExportWriteCourse z count order rows relations bytes result w
  export-write-course = Exports.export-write-course exported

  -- 2 exactly if a size, the count or the order is out of range,
  pub export-write-range : (w.refusal ≡ 2) ↔ (¬ OrderRange z count order)
  export-write-range = Exports.export-write-two exported

  -- 1 exactly if they are in range and a store is too short, or all is right but the length of the byte store,
  pub export-write-lengths : (w.refusal ≡ 1) ↔ ExportWriteShort z count order rows relations bytes result
  export-write-lengths = Exports.export-write-one exported

  -- 5 exactly if sizes and lengths are right and a number is wrong.
  pub export-write-numbers : (w.refusal ≡ 5)
      ↔ (OrderRange z count order × OrderLong z order rows relations result × (¬ NumbersRight z count rows relations))
  export-write-numbers = Exports.export-write-five exported

  -- 0 exactly if all checks pass and the byte store is long enough for the sheet.
  pub export-write-accepts : (w.refusal ≡ 0) ↔ ExportWriteReady z count order rows relations bytes result
  export-write-accepts = Exports.export-write-zero exported

  -- Then the byte store is that of the call that writes a sheet, and the result's store begins with the length of the sheet.
  pub export-write-output : w.refusal ≡ 0 → (x : WriteCall) × ExportWriteGives z count order rows relations bytes result x w
  export-write-output = Exports.export-write-accepted exported

module _ {input output : List ℕ} {result : List ℤ} {w : Written} (exported : ExportedBatch input output result w) where
  -- A whole batch returns 0 or 1.
  pub export-batch-number : (w.refusal ≡ 0) ⊎ (w.refusal ≡ 1)
  export-batch-number = Batches.export-batch-number exported

  -- That the result's store has no place for the length is found before the work, and leaves both stores as they were,
  pub export-batch-missing : length result < 1 → w ≡ not_written 1 output result
  export-batch-missing = Batches.export-batch-none exported

  -- any other refusal is found during the work, and leaves all of the output and the number of the result zero.
  pub export-batch-refused : 1 ≤ length result → w.refusal ≢ 0
      → (w.byte_store ≡ replicate (length output) 0) × Cleared 1 result w.result_store
  export-batch-refused = Batches.export-batch-cleared exported

  -- In one: the two things that the call can do.
  pub export-batch-course : ExportBatchCourse input output result w
  export-batch-course = Batches.export-batch-course exported

  -- 1 exactly if there is no place for the length, or the output is shorter than what the batch writes.
  pub export-batch-lengths : (w.refusal ≡ 1) ↔ ((length result < 1) ⊎ (length output < length (batch_output input)))
  export-batch-lengths = Batches.export-batch-one exported

  -- With 0 the output begins with that, and the result's store with its length.
  pub export-batch-output : w.refusal ≡ 0
      → let l = batch_output input in
      Rewritten (length l) l output w.byte_store × Rewritten 1 (pos (length l) ∷ []) result w.result_store
  export-batch-output = Batches.export-batch-front exported

-- ==== work by steps: `wurgalm_prepare` and `wurgalm_run_steps`

module _ {z : Sizes} {count : ℕ} {rows relations state : List ℤ} {p : StatePrepared}
    (exported : ExportedPrepare z count rows relations state p) where
  -- The call that prepares returns 0, 1, 2 or 5.
  pub prepare-number : WriteNumber p.refusal
  prepare-number = Steps.prepare-number exported

  -- A refusal leaves the state store as it was.
  pub prepare-refused : p.refusal ≢ 0 → p.state_store ≡ state
  prepare-refused = Steps.prepare-refused exported

  -- In one: the four things that it can do.
  pub prepare-course : PrepareCourse z count rows relations state p
  prepare-course = Steps.prepare-course exported

  -- 2 comes exactly if a size or the count is out of its range,
  pub prepare-range : (p.refusal ≡ 2) ↔ (¬ InRange z count)
  prepare-range = Steps.prepare-two exported

  -- 1 if it is not and a store is too short, that of the state too,
  pub prepare-lengths : (p.refusal ≡ 1) ↔ (InRange z count × (¬ PrepareLong z rows relations state))
  prepare-lengths = Steps.prepare-one exported

  -- and 5 if only a number is wrong.
  pub prepare-numbers : (p.refusal ≡ 5)
      ↔ (InRange z count × PrepareLong z rows relations state × (¬ NumbersRight z count rows relations))
  prepare-numbers = Steps.prepare-five exported

  -- Otherwise the state store begins with the numbers of the state before the first step (SCOPE 11.15).
  pub prepare-output : p.refusal ≡ 0
      → Passed z count rows relations × Rewritten state_need (state_numbers_of (prepared z count)) state p.state_store
  prepare-output = Steps.prepare-output exported

module _ {budget : ℕ} {rows relations state result : List ℤ} {s : Stepped}
    (exported : ExportedSteps budget rows relations state result s) where
  -- A run with a budget returns 0, 1, 11, or a number from 7 to 10.
  pub steps-number : StepsNumber s.refusal
  steps-number = Steps.steps-number exported

  -- A refusal by the checks leaves every store as it was (SCOPE 11.35, 11.45).
  pub steps-refused-before : StateFault s.refusal
      → (s.row_store ≡ rows) × (s.relation_store ≡ relations) × (s.state_store ≡ state) × (s.result_store ≡ result)
  steps-refused-before = Steps.steps-refused exported

  -- A refusal by a step makes the needed parts of rows, relations and state zero; the result tells the steps before it, and zeros.
  pub steps-refused-during : FoundDuring s.refusal
      → Cleared (row_need (equations (held_in state).sizes)) rows s.row_store × Cleared relation_need relations s.relation_store
      × Cleared state_need state s.state_store × Rewritten steps_need (pos (steps_told s) ∷ zeros 11) result s.result_store
  steps-refused-during = Steps.steps-cleared exported

  -- 1 and 11 come exactly where the checks say so (SCOPE 11.21, 11.43, 11.44).
  pub steps-checks : {n : ℕ} → StateFault n → (s.refusal ≡ n) ↔ (check_steps rows relations state result ≡ n)
  steps-checks = Steps.steps-checked exported

  -- A call that is not refused leaves what the run of the definition leaves, and the numbers of its state and of its result.
  pub steps-output : s.refusal ≡ 0 → StepsGives budget rows relations state result s
  steps-output = Steps.steps-gives exported

  -- No call takes more steps than its budget, and none more than 252, whatever state it was handed (SCOPE 11.1, 11.26).
  pub steps-bound : ¬ StateFault s.refusal → (steps_told s ≤ budget) × (steps_told s ≤ most_steps)
  steps-bound = Steps.steps-bound exported

-- With budget 0 nothing moves (SCOPE 11.4).
pub steps-none : {rows relations state result : List ℤ} {s : Stepped} → ExportedSteps 0 rows relations state result s
    → (s.row_store ≡ rows) × (s.relation_store ≡ relations) × (s.state_store ≡ state) × (¬ StateFault s.refusal → steps_told s ≡ 0)
steps-none = Steps.steps-none

-- Successive calls from a prepared state, with a result store that is long enough.
module _ {z : Sizes} {count : ℕ} {rows relations state : List ℤ} {p : StatePrepared}
    (exported : ExportedPrepare z count rows relations state p) (accepted : p.refusal ≡ 0) (result : List ℤ)
    (long : steps_need ≤ length result) {a n : ℕ} {s : Stepped} (calls : Successive rows relations p.state_store result a n s) where
  -- They end as one call with the sum of their budgets ends, and take as many steps (SCOPE 11.5).
  pub steps-divided : {t : Stepped} → ExportedSteps a rows relations p.state_store result t → SameEnd n s t
  steps-divided = Steps.divided (Steps.prepare-accepted exported accepted) result long calls

  -- With budgets of 252 together, or more, they give and leave what `wurgalm_run_leading` gives and leaves (SCOPE 11.6).
  pub steps-whole : most_steps ≤ a → {other : List ℤ} {e : Exported} → ExportedRun leading z count rows relations other e
      → run_need ≤ length other
      → (s.refusal ≡ e.refusal) × (s.row_store ≡ e.row_store) × (s.relation_store ≡ e.relation_store)
      × (take run_need (drop 2 s.result_store) ≡ take run_need e.result_store)
  steps-whole = Steps.whole (Steps.prepare-accepted exported accepted) result long calls

  -- Where none was refused, the checks of the next call pass (SCOPE 11.25).
  pub steps-passes : s.refusal ≡ 0 → {k : ℕ} {t : Stepped}
      → ExportedSteps k s.row_store s.relation_store s.state_store s.result_store t → ¬ StateFault t.refusal
  steps-passes = Steps.passes (Steps.prepare-accepted exported accepted) result long calls

-- ==== logs: `wurgalm_replay` and `wurgalm_run_logged`

module _ {z : Sizes} {count steps : ℕ} {log rows relations result : List ℤ} {e : Exported}
    (exported : ExportedReplay z count steps log rows relations result e) where
  -- A replay returns 0, 1, 2, 5, or 13, 7, 8 or 9 (SCOPE 13.26, 13.41).
  pub replay-number : ReplayReturns e.refusal
  replay-number = Logs.replay-number exported

  -- A refusal found before the work leaves all stores as they were,
  pub replay-refused-before : FoundBefore e.refusal
      → (e.row_store ≡ rows) × (e.relation_store ≡ relations) × (e.result_store ≡ result)
  replay-refused-before = Logs.replay-kept exported

  -- one found during the work leaves the needed part of all three that may be written zero, and the rest as it was (SCOPE 13.42).
  pub replay-refused-during : ReplayNumber e.refusal
      → Cleared (row_need (equations z)) rows e.row_store × Cleared relation_need relations e.relation_store
      × Cleared run_need result e.result_store
  replay-refused-during = Logs.replay-cleared exported

  -- In one: the five things that an exported replay can do.
  pub replay-course : ReplayCourse z count steps log rows relations result e
  replay-course = Logs.replay-course exported

  -- 2 exactly if a size, the count or the number of steps is out of its range,
  pub replay-range : (e.refusal ≡ 2) ↔ (¬ ReplayRange z count steps)
  replay-range = Logs.replay-two exported

  -- 1 exactly if they are in range and a store is too short, the log's and the result's too,
  pub replay-lengths : (e.refusal ≡ 1) ↔ (ReplayRange z count steps × (¬ ReplayLong z steps log rows relations result))
  replay-lengths = Logs.replay-one exported

  -- 5 exactly if a number of the system is wrong and nothing else; of the log nothing is judged before its turn (SCOPE 13.41).
  pub replay-numbers : (e.refusal ≡ 5)
      ↔ (ReplayRange z count steps × ReplayLong z steps log rows relations result × (¬ NumbersRight z count rows relations))
  replay-numbers = Logs.replay-five exported

  -- An accepted log: the stores are those of the replay, and the result has its ten numbers.
  pub replay-output : e.refusal ≡ 0 → (c : Call) × ReplayGives z count steps log rows relations result c e
  replay-output = Logs.replay-gives exported

-- What is accepted, whoever made the log (SCOPE 13.6).
module _ {z : Sizes} {count steps : ℕ} {log rows relations : List ℤ} {c : Call} (replayed : Replayed z count steps log rows relations c)
    (accepted : c.result.refusal ≡ 0) where
  -- The same sequences satisfy the system that was lent and the one that was given back (SCOPE 13.61).
  pub replay-solutions : (y : Sequence)
      → Solves z count rows relations y ↔ Solves (left z c) c.result.relations c.row_store c.relation_store y
  replay-solutions = Logs.sequences replayed accepted

  -- Block l is triangular in the log's order, with nonzero diagonal polynomials (SCOPE 13.62).
  pub replay-triangular : Triangular leading (left z c) c
  replay-triangular = Logs.triangular replayed accepted

  -- Where the rank is m, solutions that agree on D successive vectors past the reported root agree ever after (SCOPE 13.63).
  pub replay-agreement : c.result.rank ≡ z.m → (y w : Sequence) → Solves z count rows relations y → Solves z count rows relations w
      → (n : ℤ) → PastRoot leading c.result n → AgreeBetween z y w (n +ℤ z.t) (n +ℤ z.l) → AgreeFrom z y w (n +ℤ z.t)
  replay-agreement = Logs.agrees replayed accepted

  -- The root report is that of a run: none exactly if no diagonal polynomial has an integer root, otherwise the largest.
  pub replay-no-root : (c.result.has_root_of ≡ false) ↔ NoRoot leading (left z c) c
  replay-no-root = Logs.root-no replayed accepted

  pub replay-no-root-zero : c.result.has_root_of ≡ false → c.result.root ≡ pos 0
  replay-no-root-zero = Logs.root_none replayed accepted

  pub replay-last-root : c.result.has_root_of ≡ true → LastRoot leading (left z c) c c.result.root
  replay-last-root = Logs.root-yes replayed accepted

  -- The rank is at most the number of unknowns, and at most that of the lent equations; the rows are independent (SCOPE 13.62).
  pub replay-rank-most : c.result.rank ≤ z.m
  replay-rank-most = Logs.most-unknowns replayed accepted

  pub replay-rank-few : c.result.rank ≤ equations z
  replay-rank-few = Logs.most-equations replayed accepted

  pub replay-independent : ¬ Dependent z.l (rows_of c.result.rank c.row_store)
  replay-independent = Logs.independent replayed accepted

  -- What was given back passes the checks of the next call (SCOPE 13.64).
  pub replay-passes : Passed (left z c) c.result.relations c.row_store c.relation_store
  replay-passes = Logs.passes replayed accepted

  -- The lent relations stay first; behind them those of one combination stand together, by strictly ascending n0 (SCOPE 13.65).
  pub replay-relations-first : (more : List Relation)
      × (relations_of c.result.relations c.relation_store ≡ relations_of count relations ++ more) × Listed more
  replay-relations-first = Logs.relations-first replayed accepted

  -- The shifts are the steps up, so no more than there are steps.
  pub replay-shifts : c.result.shifts ≤ steps
  replay-shifts = Logs.shifts-few replayed accepted

module _ {z : Sizes} {count : ℕ} {log rows relations result : List ℤ} {e : LoggedExport}
    (exported : ExportedLogged z count log rows relations result e) where
  -- A run with its log returns what a run returns.
  pub logged-number : RunNumber e.refusal
  logged-number = Logs.logged-number exported

  -- A refusal found before the work leaves all four stores as they were,
  pub logged-refused-before : FoundBefore e.refusal
      → (e.row_store ≡ rows) × (e.relation_store ≡ relations) × (e.log_store ≡ log) × (e.result_store ≡ result)
  logged-refused-before = Logs.logged-kept exported

  -- one found during the work leaves the needed part of all four zero, and the rest as it was (SCOPE 13.52).
  pub logged-refused-during : FoundDuring e.refusal
      → Cleared (row_need (equations z)) rows e.row_store × Cleared relation_need relations e.relation_store
      × Cleared own_need log e.log_store × Cleared logged_need result e.result_store
  logged-refused-during = Logs.logged-cleared exported

  -- In one: the four things that it can do.
  pub logged-course : LoggedCourse z count log rows relations result e
  logged-course = Logs.logged-course exported

  -- 2, 1 and 5 come as in an exported run; the store of the log is one of the stores.
  pub logged-range : (e.refusal ≡ 2) ↔ (¬ InRange z count)
  logged-range = Logs.logged-two exported

  pub logged-lengths : (e.refusal ≡ 1) ↔ (InRange z count × (¬ LoggedLong z log rows relations result))
  logged-lengths = Logs.logged-one exported

  pub logged-numbers : (e.refusal ≡ 5)
      ↔ (InRange z count × LoggedLong z log rows relations result × (¬ NumbersRight z count rows relations))
  logged-numbers = Logs.logged-five exported

  -- A run that is not refused: rows, relations and the first ten numbers are those of a run on the leading side (SCOPE 13.5).
  pub logged-output : e.refusal ≡ 0 → (c : LoggedCall) × LoggedGives z count log rows relations result c e
  logged-output = Logs.logged-gives exported

  -- `wurgalm_replay` accepts the log that it left, on the stores as they were before, and leaves the same rows and relations, the same
  -- order and the same other numbers of a run (SCOPE 13.53).
  pub own-log-accepted : e.refusal ≡ 0
      → {other : List ℤ} {r : Exported} → ExportedReplay z count (steps_logged e) e.log_store rows relations other r
      → run_need ≤ length other
      → (r.refusal ≡ 0) × (r.row_store ≡ e.row_store) × (r.relation_store ≡ e.relation_store)
      × (take run_need r.result_store ≡ take run_need e.result_store)
  own-log-accepted = Logs.own-replayed exported

-- ==== polynomial solutions: `wurgalm_solutions`

module _ {z : Sizes} {count : ℕ} {rows relations : List ℤ} {w : Work} {result : List ℤ} {e : Solved}
    (exported : ExportedSolutions z count rows relations w result e) where
  -- In one: the five things that the call can do.
  pub solutions-course : SolveCourse z count rows relations w result e
  solutions-course = Solutions.solve-course exported

  -- 2 exactly if a size or the count is out of range,
  pub solutions-range : (e.refusal ≡ 2) ↔ (¬ InRange z count)
  solutions-range = Solutions.solve-two (Solutions.solve-course exported)

  -- 1 exactly if they are in range and one of the seven stores is too short (SCOPE 14.62, 14.65),
  pub solutions-lengths : (e.refusal ≡ 1) ↔ (InRange z count × (¬ SolveLong z rows relations w result))
  solutions-lengths = Solutions.solve-one (Solutions.solve-course exported)

  -- 5 exactly if sizes and lengths are right and a number is wrong.
  pub solutions-numbers : (e.refusal ≡ 5)
      ↔ (InRange z count × SolveLong z rows relations w result × (¬ NumbersRight z count rows relations))
  solutions-numbers = Solutions.solve-five (Solutions.solve-course exported)

  -- Where a check does not pass, that of the right sides (14) among them, all stores are as they were (SCOPE 14.62, 14.65).
  pub solutions-before : ¬ SolvePassed z count rows relations w result → e ≡ unsolved e.refusal w result
  solutions-before = Solutions.solve-before (Solutions.solve-course exported)

  -- Where all pass, a refusal is 7, 8, 9, 12 or 14, and the needed parts of the work stores, the list and the result are zero
  -- (SCOPE 14.63, 14.65).
  pub solutions-during : SolvePassed z count rows relations w result → e.refusal ≢ 0
      → Number e.refusal × Unlisted z w result e
  solutions-during = Solutions.solve-during (Solutions.solve-course exported)

  -- With 0 there is no N, nothing is listed, and zero alone ends on both sides and begins at index 0 or later; or N and a list stand in
  -- the stores: each listed sequence is a solution, no other list is so, and none is missing (SCOPE 14.71 to 14.73).
  pub solutions-answer : e.refusal ≡ 0
      → SolvePassed z count rows relations w result
      × ((Unlisted z w result e × NoneFinite z count rows relations)
      ⊎ ((N : ℕ) × (l : List (List ℤ)) × Lists z w result e N l × Promised z count rows relations N l))
  solutions-answer = Solutions.solve-answer (Solutions.solve-course exported)
