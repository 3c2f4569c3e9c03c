-- What a run has when all rows of a valid system are settled, on the leading side and mirrored back.
--
-- Main definitions
--   Diagonal side e m D s    e rows, triangular in the column order; with m rows it holds every column
--   Settled side z rows relations u   a run from the valid system rows, relations leads to u, all of whose rows are settled
--
-- Main statements (the others are in proofs/Settled.antt)
--   mirrored-diagonal      the diagonal of the mirror
--   diagonal-most          no more rows than columns
use Rattle.std.specs.Prelude.{ℕ, ◌≤◌, ◌<◌, ◌≡◌, not, T, get_or}
use Rattle.std.proofs.Math.Path.{sym, subst}
use Rattle.std.proofs.Common.{◌∙◌, ap}
use mathlib.Core.List.{List, [], map, Memᴰ}
use Rattle.std.proofs.Math.ListN.{length, get_or-map}
use Rattle.std.proofs.lemmas.List.{length-map}
use Rattle.algebra.specs.Pigeonhole.{Distinct, distinct-length}
use Rattle.algebra.specs.Polynomials.{Polynomial, is_zero_of, is_zero-mirror}
use Rattle.rules.specs.Rows.{Row, Relation, no_row, entry, leading_block, map_row, mirror_row_of, mirror_relation}
use Rattle.lists.specs.Everywhere.{All, all_get_or}
use Rattle.lists.specs.Places.{member-place}
use Rattle.rules.specs.Elimination.{Side, leading, trailing, State, start}
use Rattle.rules.specs.Elimination.{mirror_state, diagonal_place}
use Rattle.rules.specs.Stores.{Sizes, span}
use Rattle.theory.specs.Steps.{current, Chain}
use Rattle.theory.specs.LimitsKept.{ValidRows}
use Rattle.theory.specs.Report.{NonzeroDiagonal, nonzero-diagonal}
use Rattle.theory.specs.Mirror.{mirror_sizes, Reaches, mirror-last_entry}

-- The polynomial of row j at column c of the block that is made triangular: block l, or block t.
abbrev pub pivot_entry : Side → ℕ → State → ℕ → ℕ → Polynomial
pivot_entry side D s j c = get_or (get_or (get_or s.rows j no_row).blocks (diagonal_place side D) []) c []

-- In the block of the side, row j is zero in columns c(1) to c(j - 1) and not zero in c(j); the columns of the
-- order are different, and with as many rows as columns they are all the columns (SCOPE 2.71, 2.73, 2.115).
pub record Diagonal (side : Side) (e m D : ℕ) (s : State) : Type 0 where
  pub row_count : length s.rows ≡ e
  pub order-count : length s.order ≡ e
  pub zero-before : (j k : ℕ) → k < j → j < e → T (is_zero_of (pivot_entry side D s j (get_or s.order k 0)))
  pub nonzero : (j : ℕ) → j < e → T (not (is_zero_of (pivot_entry side D s j (get_or s.order j 0))))
  pub column-below : (j : ℕ) → j < e → get_or s.order j 0 < m
  pub columns-different : Distinct s.order
  pub every-column : e ≡ m → (c : ℕ) → c < m → (j : ℕ) × (j < m) × (get_or s.order j 0 ≡ c)

pub record Settled (side : Side) (z : Sizes) (rows : List Row) (relations : List Relation) (u : State) : Type 0 where
  pub valid : ValidRows z rows relations
  pub steps : ℕ
  pub chain : Chain side (start rows relations) steps u
  pub all : length u.rows ≤ current u

-- ---- a settled state

-- Each diagonal polynomial is nonzero.
pub nonzero-of-diagonal : (side : Side) (e m D : ℕ) (s : State) → Diagonal side e m D s → NonzeroDiagonal side D s
nonzero-of-diagonal side e m D s d = nonzero-diagonal side D s (λ j h k. d.nonzero j (subst (λ n. j < n) d.row_count h))

-- There are no more rows than columns.
pub diagonal-most : {side : Side} {e m D : ℕ} {s : State} → Diagonal side e m D s → e ≤ m
diagonal-most {e = e} {m} {s = s} d =
    subst (λ n. n ≤ m) d.order-count (distinct-length m s.order d.columns-different below)
  where
    below : (c : ℕ) → Memᴰ c s.order → c < m
    below c h =
        let (j, inside, same) = member-place 0 h in
        subst (λ k. k < m) same (d.column-below j (subst (λ n. j < n) d.order-count inside))

-- ---- mirrored back

pub mirrored-diagonal : (e m D : ℕ) (u : State) → All (Reaches D) u.rows
    → Diagonal leading e m D u → Diagonal trailing e m D (mirror_state D u)
unfolding diagonal_place entry leading_block mirror_state mirror_row_of map_row
mirrored-diagonal e m D u r d =
    record {
      row_count = length-map u.rows (mirror_row_of D) ∙ d.row_count;
      order-count = d.order-count;
      zero-before = λ j k b h. subst (λ t. T t) (sym (same j (get_or u.order k 0) h)) (d.zero-before j k b h);
      nonzero = λ j h. subst (λ t. T (not t)) (sym (same j (get_or u.order j 0) h)) (d.nonzero j h);
      column-below = d.column-below;
      columns-different = d.columns-different;
      every-column = d.every-column;
    }
  where
    row-at : (j : ℕ) → get_or (map (mirror_row_of D) u.rows) j no_row ≡ mirror_row_of D (get_or u.rows j no_row)
    row-at j = get_or-map (mirror_row_of D) u.rows j no_row

    reach : (j : ℕ) → j < e → Reaches D (get_or u.rows j no_row)
    reach j h = all_get_or (Reaches D) u.rows no_row j (subst (λ n. j < n) (sym d.row_count) h) r

    same : (j c : ℕ) → j < e → is_zero_of (pivot_entry trailing D (mirror_state D u) j c) ≡ is_zero_of (pivot_entry leading D u j c)
    same j c h =
        ap (λ q. is_zero_of (get_or (get_or q.blocks D []) c [])) (row-at j)
        ∙ ap is_zero_of (mirror-last_entry D (get_or u.rows j no_row) c (reach j h))
        ∙ is_zero-mirror (entry (get_or u.rows j no_row) c)

-- ---- the whole runs

-- The run that a trailing run makes, on the mirrored system, and its final state.
pub record MirroredRun (z : Sizes) (rows : List Row) (relations : List Relation) (s : State) : Type 0 where
  pub final : State
  pub settled : Settled trailing (mirror_sizes z) (map (mirror_row_of (span z)) rows) (map (mirror_relation (span z)) relations) final
  pub back : mirror_state (span z) final ≡ s
