-- What a run has when all rows of a valid system are settled, on the leading side and mirrored back: `Settled` and `Diagonal` of
-- specs/Settled.antt.
--
-- Main statements
--   settled-count, settled-few   all rows of u are settled, and they are no more than the equations
--   settled-leading        an accepted leading run leads to its final state
--   settled-trailing       an accepted trailing run leads to the mirror of its final state, from the mirrored system
--   settled-diagonal       the diagonal of u
use Rattle.std.specs.Prelude.{◌≤◌, ◌<◌, ◌≡◌, refl}
use Rattle.std.proofs.Math.Path.{sym, subst}
use Rattle.std.proofs.Common.{◌∙◌, le_antisymm}
use mathlib.Core.List.{List}
use Rattle.std.proofs.Math.ListN.{length}
use Rattle.rules.specs.Rows.{Row, Relation, entry, leading_block}
use Rattle.rules.specs.Elimination.{Side, leading, trailing, State, start, done, run, enough, whole_run_of, leading_run_of, trailing_run_of}
use Rattle.rules.specs.Elimination.{mirror_state, diagonal_place, row_at}
use Rattle.rules.specs.Stores.{Sizes, span, Valid}
use Rattle.theory.specs.Steps.{current}
use Rattle.theory.proofs.Steps.{chain_length, run-done}
use Rattle.theory.specs.Triangular.{Triangular, triangular-start, triangular-chain}
use Rattle.theory.specs.Pivots.{order-distinct}
use Rattle.theory.specs.LimitsKept.{ValidRows, valid-rows, valid-kept}
use Rattle.theory.proofs.Ending.{mirror_outcome-done}
use Rattle.theory.specs.BackSubstitution.{TriangularRows}
use Rattle.theory.specs.Agreement.{settled-column, every-column, triangular-rows}
use Rattle.theory.specs.Mirror.{mirror-valid}
use Rattle.theory.specs.Settled.{Diagonal, MirroredRun, Settled}

-- ---- a settled state

module _ {side : Side} {z : Sizes} {rows : List Row} {relations : List Relation} {u : State} (a : Settled side z rows relations u) where
  pub settled-valid : ValidRows z u.rows u.relations
  settled-valid = valid-kept a.valid a.chain

  pub settled-triangular : Triangular u
  settled-triangular = triangular-chain a.chain (triangular-start rows relations)

  pub settled-count : current u ≡ length u.rows
  settled-count = le_antisymm settled-triangular.fits a.all

  pub settled-few : current u ≤ length rows
  unfolding start
  settled-few = subst (λ n. n ≤ length rows) (sym settled-count) (chain_length a.chain)

  pub settled-rows : current u ≡ z.m → TriangularRows z.m (span z) u.rows u.order
  settled-rows square = triangular-rows z u settled-valid settled-triangular settled-count (sym settled-count ∙ square)

  pub settled-diagonal : Diagonal leading (current u) z.m (span z) u
  unfolding diagonal_place row_at entry leading_block
  settled-diagonal =
      record {
        row_count = sym settled-count;
        order-count = refl;
        zero-before = λ j k b h. (settled-triangular.pivots j h).zeros k b;
        nonzero = λ j h. (settled-triangular.pivots j h).diagonal;
        column-below = λ j h. settled-column z u settled-valid settled-triangular settled-count j (subst (λ n. j < n) settled-count h);
        columns-different = order-distinct u.order u.rows settled-triangular.pivots;
        every-column = λ square. every-column z u settled-valid settled-triangular settled-count (sym settled-count ∙ square);
      }

-- ---- the whole runs

pub settled-leading : {z : Sizes} {rows : List Row} {relations : List Relation} {s : State} → Valid z rows relations
    → whole_run_of leading (span z) rows relations ≡ done s → Settled leading z rows relations s
unfolding whole_run_of leading_run_of
settled-leading {rows = rows} {relations} {s} v e =
    let (k, chain, all) = run-done leading (enough rows) (start rows relations) s e in
    record { valid = valid-rows v; steps = k; chain = chain; all = all }

pub settled-trailing : {z : Sizes} {rows : List Row} {relations : List Relation} {s : State} → Valid z rows relations
    → whole_run_of trailing (span z) rows relations ≡ done s → MirroredRun z rows relations s
unfolding whole_run_of trailing_run_of mirror_state start
settled-trailing {z} {rows} {relations} {s} v e =
    let (u, f, same) = mirror_outcome-done (span z) (run trailing (enough rows) (mirror_state (span z) (start rows relations))) s e in
    let (k, chain, all) = run-done trailing (enough rows) (mirror_state (span z) (start rows relations)) u f in
    record {
      final = u;
      settled = record { valid = mirror-valid z rows relations (valid-rows v); steps = k; chain = chain; all = all };
      back = same;
    }
