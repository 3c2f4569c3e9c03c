-- What the call promises of stores that pass its checks (SCOPE 12.25).
--
-- Main statements
--   record-fits         where 12 does not come, "fits" comes exactly if the system explains the record, and with the number of tests
--   record-fails        a failure is the first in the order of the tests; its sum is the nonzero value of its row at its index
--   record-limit        12 comes exactly if, before any nonzero sum, a value of Horner's rule for a tested row passes the limit
--   satisfied-fits, satisfied-never-fails   a sequence that satisfies the system and agrees with the record never fails: the answer is
--                       "fits" unless 12 comes
use Rattle.std.specs.Prelude.{ℕ, suc, ◌+◌, ◌*◌, ◌≤◌, ◌≡◌, ◌≢◌, ◌↔◌, List, length, take, ℤ, pos, ◌≤ℤ◌}
use Rattle.std.proofs.Common.{mul-le-mul, le_refl, suc-mul, arith, sym, ◌∙◌, get_or-take}
use Rattle.std.proofs.Math.Path.{ap}
use Rattle.std.proofs.Math.Dec.{T}
use Rattle.lists.specs.Everywhere.{All, all-mono}
use Rattle.lists.specs.Tests.{every-all, T-&&}
use Rattle.rules.specs.Limits.{small}
use Rattle.rules.specs.Rows.{Row, Relation, small_row}
use Rattle.rules.specs.Layout.{size-bounds, NumbersRight, numbers_right-iff}
use Rattle.rules.specs.Sequences.{Sequence, value_of, Satisfies}
use Rattle.rules.specs.Stores.{Sizes, equations, span, rows_of, relations_of, unused_zero_of, row_right_of, relation_right_of}
use Rattle.records.specs.Records.{Which, Tested, Answer, fits, fails, refused, limit_passed, answer_to, tests}
use Rattle.records.specs.Records.{check_record_of, after_check, record_call}
use Rattle.records.specs.RecordChecks.{RecordRight, check_record-zero}
use Rattle.records.specs.RecordMeaning.{Agrees, RowPasses}
use Rattle.records.specs.Outcomes.{First, FailsWith, fails-first}
use Rattle.records.proofs.Explained as ExplainedLaws
use Rattle.records.specs.Explained.{named, Explains, satisfied-explains}

-- What agrees with a record agrees with the part that is looked at.
agrees-known : (m : ℕ) (first : ℤ) (vectors : ℕ) (values : List ℤ) (y : Sequence) → Agrees m first vectors values y
    → Agrees m first vectors (take (vectors * m) values) y
unfolding Agrees
agrees-known m first vectors values y a j c h g =
    let whole : suc j * m ≤ vectors * m = mul-le-mul h (le_refl m) in
    let more : suc j * m ≡ j * m + m = suc-mul j m in
    a j c h g ∙ sym (get_or-take (vectors * m) values (j * m + c) (pos 0) (omega arith))

module _ (z : Sizes) (count : ℕ) (first : ℤ) (vectors : ℕ) (row_store relation_store values : List ℤ)
    (passed : check_record_of z count first vectors row_store relation_store values ≡ 0) where
  abbrev rows : List Row
  rows = rows_of (equations z) row_store

  abbrev relations : List Relation
  relations = relations_of count relation_store

  -- The part of the values that is looked at.
  abbrev known : List ℤ
  known = take (vectors * z.m) values

  abbrev made : List Tested
  made = tests z first vectors known rows relations

  abbrev answer : Answer
  answer = record_call z count first vectors row_store relation_store values

  right : RecordRight z count first vectors row_store relation_store values
  right = check_record-zero z count first vectors row_store relation_store values passed

  ordered : z.t ≤ℤ z.l
  ordered = (size-bounds z right.system.sizes).ordered

  numbers : NumbersRight z count row_store relation_store
  numbers = (numbers_right-iff z count row_store relation_store).0 right.system.numbers

  rows-used : All (λ r. T (unused_zero_of z.m (span z) r)) rows
  unfolding row_right_of
  rows-used =
      all-mono (λ r. T (row_right_of z r)) (λ r. T (unused_zero_of z.m (span z) r))
      (λ r t. ((T-&& (small_row r) (unused_zero_of z.m (span z) r)).0 t).1) rows ((every-all (row_right_of z) rows).0 numbers.rows_right)

  relations-used : All (λ e. T (unused_zero_of z.m (span z) e.row)) relations
  unfolding relation_right_of row_right_of
  relations-used =
      all-mono (λ e. T (relation_right_of z e)) (λ e. T (unused_zero_of z.m (span z) e.row))
      (λ e t.
      ((T-&& (small_row e.row) (unused_zero_of z.m (span z) e.row)).0 ((T-&& (small e.index) (row_right_of z e.row)).0 t).1).1)
      relations
      ((every-all (relation_right_of z) relations).0 numbers.relations-right)

  call-is : answer ≡ answer_to 0 made
  unfolding record_call after_check
  call-is = ap (after_check z count first vectors row_store relation_store values) passed

  -- Where 12 does not come, "fits" comes exactly if every tested sum is zero.
  pub record-fits : (y : Sequence) → Agrees z.m first vectors values y → answer ≢ refused limit_passed
      → (answer ≡ fits (length made)) ↔ Explains z first vectors rows relations y
  record-fits y a no-limit =
      let known-agrees = agrees-known z.m first vectors values y a in (
        λ e. ExplainedLaws.fits-explains z first vectors known rows relations ordered rows-used relations-used y known-agrees (length made)
            (sym call-is ∙ e),
        λ x.
            call-is
            ∙ ExplainedLaws.explains-fits z first vectors known rows relations ordered rows-used relations-used y known-agrees x
            (λ e. no-limit (call-is ∙ e)),
      )

  -- A failure is the first in the order of the tests, and its sum is what its row makes there of any sequence that agrees.
  pub record-fails : (w : Which) (n s : ℤ) → answer ≡ fails w n s
      → First (FailsWith w n s) made
      × ((y : Sequence) → Agrees z.m first vectors values y → (s ≡ value_of z.l (named rows relations w) y n) × (s ≢ pos 0))
  record-fails w n s e = (
    fails-first 0 w n s made (sym call-is ∙ e),
    λ y a.
        ExplainedLaws.failure-value z first vectors known rows relations ordered rows-used relations-used y
        (agrees-known z.m first vectors values y a)
        w n s (sym call-is ∙ e),
  )

  -- 12 comes exactly if, before any nonzero sum, a value of Horner's rule for a tested row passes ±2^40.
  pub record-limit : (answer ≡ refused limit_passed)
      ↔ First (λ t. RowPasses z.m (span z) (named rows relations t.which) t.index) made
  record-limit =
      let i = ExplainedLaws.limit-iff z first vectors known rows relations ordered in
      (λ e. i.0 (sym call-is ∙ e), λ f. call-is ∙ i.1 f)

  module _ (y : Sequence) (satisfied : Satisfies z.l rows relations y) (agrees : Agrees z.m first vectors values y) where
    -- No test of a record fails of which some sequence that satisfies the system has the vectors.
    pub satisfied-never-fails : (w : Which) (n s : ℤ) → answer ≢ fails w n s
    satisfied-never-fails w n s e =
        ExplainedLaws.explains-never-fails z first vectors known rows relations ordered rows-used relations-used y
        (agrees-known z.m first vectors values y agrees) (satisfied-explains z first vectors rows relations y satisfied) w n s
        (sym call-is ∙ e)

    pub satisfied-fits : answer ≢ refused limit_passed → answer ≡ fits (length made)
    satisfied-fits no-limit = (record-fits y agrees no-limit).1 (satisfied-explains z first vectors rows relations y satisfied)
