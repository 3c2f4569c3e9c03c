-- `writing::writer::put_record` meets its contract: how the line begins, the terms, and its end.
-- Assumes nothing.
use Rattle.std.proofs.Common.{rules, ◌≡◌, sym, ◌∙◌, ap, subst, List, [], ◌∷◌, ◌++◌, ℕ, ◌+◌, ◌-◌, le_refl, length, take, drop, length-drop, take_all, ℤ, arith}
use Rattle.rules.specs.Limits.{small}
use Rattle.lists.specs.Tests.{every-part}
use Rattle.rules.specs.Numbers.{newline}
use Rattle.rules.specs.Sheets.{terms_from}
use Rattle.rules.specs.Stores.{row_of}
use Rattle.rules.specs.Layout.{polynomials_in}
use Rattle.number_texts.specs.Runs.{put_same, put_then}
use Rattle.number_texts.specs.Texts.{spaced}
use Rattle.writing.specs.Writer.{numbers_of, nonzero_count, Unused}
use Rattle.writing.specs.Records.{record_start, record-line}
use Rattle.writing.proofs.writer.put_record.Goals as goal

-- The row of a record.
behind : (skip : ℕ) (l : List ℤ) → take (length l - skip) (drop skip l) ≡ drop skip l
behind skip l = take_all (length l - skip) (drop skip l) (rw length-drop (le_refl _))

long : (skip : ℕ) (l : List ℤ) {n : ℕ} → length l ≡ skip + n → length (take (length l - skip) (drop skip l)) ≡ n
long skip l e = ap length (behind skip l) ∙ length-drop skip l ∙ omega arith

pub term_lengths-terms-requires : goal.term_lengths-terms-requires
term_lengths-terms-requires c =
    let p = c.args.part.now in
    (search rules, long c.args.skip p c.requires.1, subst (Unused c.args.shape.m c.args.shape.blocks) (sym (behind c.args.skip p)) c.requires.4)

pub put_start-started-requires : goal.put_start-started-requires
put_start-started-requires c = (omega (arith, c.requires.1), c.requires.3, search rules)

pub put_terms-written-requires : goal.put_terms-written-requires
put_terms-written-requires c =
    let skip = c.args.skip in
    let p = c.args.part.now in (
      long skip p c.requires.1,
      search rules,
      c.term_lengths-terms.ensures.1,
      search rules,
      every-part small skip (length p - skip) p c.requires.3,
      rw (behind skip p) c.requires.4.terms,
    )

pub returns : goal.returns
returns c =
    let skip = c.args.skip in
    let p = c.args.part.now in
    let bytes : ℕ → List ℤ → List ℕ =
    λ n row. (record_start skip p n ++ spaced (numbers_of (terms_from c.args.shape.l (row_of row).blocks))) ++ (newline ∷ []) in
    let row = take (length p - skip) (drop skip p) in
    put_same (put_then (put_then c.put_start-started.ensures c.put_terms-written.ensures) c.put_byte.ensures)
    (ap (λ n. bytes n row) c.term_lengths-terms.ensures.0
    ∙ ap (λ row. bytes (nonzero_count (polynomials_in row)) row) (behind skip p)
    ∙ record-line c.args.shape.l skip p c.requires.0)
