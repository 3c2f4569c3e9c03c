-- What an accepted replay promises, for logs from anywhere (SCOPE 13.6).
--
-- Main definitions
--   AcceptedLog z l numbers rows relations s   the system is valid, and the replay of the log accepts it with the final state s
--
-- Main statements, by the numbers of their comments
--   1 same-sequences        3 agreement-leading     5 relations-listed
--   2 diagonal-nonzero,     4 output-valid          6 report-no, report-root
--     rank_most, rank-few                           7 rows-independent
use Rattle.std.specs.Prelude.{ℕ, ◌≤◌, ◌<◌, ◌≡◌, refl, ◌↔◌, Bool, true, false, ◌&&◌, cond, take, ℤ, ◌+ℤ◌, ◌≤ℤ◌, ◌<ℤ◌}
use Rattle.std.proofs.Math.Path.{sym, subst}
use Rattle.std.proofs.Common.{◌∙◌, le_refl, le_trans, leb→le}
use mathlib.Core.List.{List, ◌++◌}
use Rattle.std.proofs.Math.Option.{none, some}
use Rattle.std.proofs.Math.Nat.{le_of_eq}
use Rattle.std.proofs.Math.Dec.{T}
use Rattle.std.proofs.Math.ListN.{length}
use Rattle.std.proofs.lemmas.List.{length-map}
use Rattle.std.proofs.Math.Seq.{length-take-le}
use Rattle.lists.specs.Everywhere.{All}
use Rattle.lists.specs.Tests.{T-&&}
use Rattle.rules.specs.Limits.{column_count}
use Rattle.rules.specs.Rows.{Row, Relation, entry, leading_block}
use Rattle.rules.specs.Stores.{Sizes, equations, with_equations_of, span, Valid}
use Rattle.rules.specs.Layout.{size-bounds}
use Rattle.rules.specs.Sequences.{Sequence, Satisfies, Same, Dependent}
use Rattle.rules.specs.Elimination.{State, start, Outcome, going, done, refused, and_then, leading, rank, row_at, diagonal_place, diagonal}
use Rattle.rules.specs.Elimination.{report}
use Rattle.theory.specs.Steps.{current, done-injective, done≢refused}
use Rattle.theory.specs.Triangular.{Triangular}
use Rattle.theory.specs.Pivots.{order-distinct}
use Rattle.theory.specs.LimitsKept.{ValidRows, valid-rows, counted-valid}
use Rattle.theory.specs.Agreement.{settled-column, every-column, triangular-rows, leading-agreement}
use Rattle.theory.specs.Settled.{Diagonal, nonzero-of-diagonal, diagonal-most}
use Rattle.theory.specs.Report.{Past, Rootless, FurthestRoot, report-none, report-some}
use Rattle.theory.proofs.Dependence.{settled-independent}
use Rattle.theory.specs.ListedOrder.{Listed}
use Rattle.theory.specs.Mirror.{span-sum}
use Rattle.log_steps.specs.Logs.{step_length, replayed, order_holds_of, the_columns_of, with_order, ordered, replay}
use Rattle.steps.specs.HeldCalls.{pivots_right_of}
use Rattle.log_steps.specs.Changes.{Replay, replayed-not-done}
use Rattle.log_steps.proofs.Changes.{replayed-view}
use Rattle.logs.specs.LogKept.{replay-valid, replay-solutions, replay-length, replay-listed}
use Rattle.steps.specs.SoundStates.{pivots-right}

-- The log is cut into steps of 36 numbers and the four numbers of the order (SCOPE 13.1).
pub record AcceptedLog (z : Sizes) (l : List (List ℤ)) (numbers : List ℤ) (rows : List Row) (relations : List Relation)
    (s : State) : Type 0 where
  pub valid : Valid z rows relations
  pub steps : All (λ x. length x ≡ step_length) l
  pub columns : length numbers ≡ column_count
  pub accepts : replay z.m (span z) l numbers rows relations ≡ done s

-- ---- from the outcome to the steps and the end

-- The state that the steps lead to, and what holds of it at the end.
record Final (m D : ℕ) (numbers : List ℤ) (rows : List Row) (relations : List Relation) (s : State) : Type 0 where
  last : State
  steps : Replay D (start rows relations) last
  few : length last.rows ≤ m
  triangular : T (pivots_right_of (the_columns_of (length last.rows) numbers) last.rows (length last.rows))
  same : with_order (the_columns_of (length last.rows) numbers) last ≡ s

cond-done : {s : State} (t : Bool) (o : Outcome) (n : ℕ) → cond t o (refused n) ≡ done s → T t × (o ≡ done s)
cond-done true o n e = (tt, e)
cond-done false o n e = absurd (done≢refused (sym e))

order-few : (m w : ℕ) (numbers : List ℤ) → T (order_holds_of m w numbers) → w ≤ m
unfolding order_holds_of
order-few m w numbers h = let e = simp T-&& at h in leb→le w m e.0.0

final : (m D : ℕ) (l : List (List ℤ)) (numbers : List ℤ) (rows : List Row) (relations : List Relation) (s : State)
    → All (λ x. length x ≡ step_length) l → replay m D l numbers rows relations ≡ done s → Final m D numbers rows relations s
unfolding replay and_then ordered
final m D l numbers rows relations s widths = go (replayed D l (start rows relations)) refl
  where
    go : (o : Outcome) → replayed D l (start rows relations) ≡ o → and_then o (ordered m numbers) ≡ done s
        → Final m D numbers rows relations s
    go (going u) e f =
        let (t, same) = cond-done (order_holds_of m (length u.rows) numbers
        && pivots_right_of (the_columns_of (length u.rows) numbers) u.rows (length u.rows)) _ 13 f in
        let (holds, pivots) = (T-&& (order_holds_of m (length u.rows) numbers) _).0 t in
        record {
          last = u;
          steps = replayed-view D l (start rows relations) widths e;
          few = order-few m (length u.rows) numbers holds;
          triangular = pivots;
          same = done-injective same;
        }
    go (done u) e f = absurd (replayed-not-done D l (start rows relations) e)
    go (refused n) e f = absurd (done≢refused (sym f))

module _ {z : Sizes} {l : List (List ℤ)} {numbers : List ℤ} {rows : List Row} {relations : List Relation} {s : State}
    (a : AcceptedLog z l numbers rows relations s) where
  end : Final z.m (span z) numbers rows relations s
  end = final z.m (span z) l numbers rows relations s a.steps a.accepts

  valid-end : ValidRows z s.rows s.relations
  unfolding with_order start
  valid-end = subst (λ u. ValidRows z u.rows u.relations) end.same (replay-valid end.steps (valid-rows a.valid))

  -- As many columns as rows.
  settled : current s ≡ length s.rows
  unfolding with_order the_columns_of
  settled =
      subst (λ u. current u ≡ length u.rows) end.same
      (length-map (take (length end.last.rows) numbers) _
      ∙ length-take-le (length end.last.rows) numbers
      (le_trans end.few (le_trans (size-bounds z a.valid.sizes).few (le_of_eq (sym a.columns)))))

  triangular : Triangular s
  unfolding with_order
  triangular =
      record {
        fits = le_of_eq settled;
        pivots = (pivots-right s.order s.rows (current s) (le_refl (current s))).0
            (subst (λ n. T (pivots_right_of s.order s.rows n)) (sym settled)
            (subst (λ u. T (pivots_right_of u.order u.rows (length u.rows))) end.same end.triangular));
      }

  -- 1. A sequence satisfies the input exactly if it satisfies the output (SCOPE 13.61).
  pub same-sequences : (y : Sequence) → Satisfies z.l rows relations y ↔ Satisfies z.l s.rows s.relations y
  unfolding with_order start
  same-sequences y =
      subst (λ u. Satisfies z.l rows relations y ↔ Satisfies z.l u.rows u.relations y) end.same
      (replay-solutions z.l y (valid-rows a.valid) end.steps)

  -- 2. The output is triangular in the log's order, and no diagonal polynomial is zero (SCOPE 13.62); it has as many rows as its rank
  -- says, no more than there are unknowns and no more than there were equations.
  pub diagonal-nonzero : Diagonal leading (rank s) z.m (span z) s
  unfolding rank diagonal_place row_at entry leading_block
  diagonal-nonzero =
      record {
        row_count = sym settled;
        order-count = refl;
        zero-before = λ j k b h. (triangular.pivots j h).zeros k b;
        nonzero = λ j h. (triangular.pivots j h).diagonal;
        column-below = λ j h. settled-column z s valid-end triangular settled j (subst (λ n. j < n) settled h);
        columns-different = order-distinct s.order s.rows triangular.pivots;
        every-column = λ square. every-column z s valid-end triangular settled (sym settled ∙ square);
      }

  pub rank_most : rank s ≤ z.m
  rank_most = diagonal-most diagonal-nonzero

  pub rank-few : rank s ≤ equations z
  unfolding rank with_order start
  rank-few = subst (λ n. current s ≤ n) a.valid.row_count
      (subst (λ n. n ≤ length rows) (sym settled)
      (subst (λ u. length u.rows ≤ length rows) end.same (replay-length end.steps)))

  -- 3. Where the rank is m: where n lies above the reported root, or anywhere if the report is "no", sequences that satisfy the
  -- system and are equal at the D indices from n + t to n + l - 1 are equal from n + t upward (SCOPE 13.63).
  pub agreement-leading : rank s ≡ z.m → (y w : Sequence) → Satisfies z.l rows relations y → Satisfies z.l rows relations w
      → (n : ℤ) → Past leading (report leading (span z) s) n
      → ((i : ℤ) → (n +ℤ z.t) ≤ℤ i → i <ℤ (n +ℤ z.l) → Same z.m y w i)
      → (i : ℤ) → (n +ℤ z.t) ≤ℤ i → Same z.m y w i
  unfolding Satisfies rank
  agreement-leading square y w hy hw =
      leading-agreement z.m (span z) s (triangular-rows z s valid-end triangular settled (sym settled ∙ square)) square
      (nonzero-of-diagonal leading (rank s) z.m (span z) s diagonal-nonzero)
      z.l z.t (span-sum z a.valid.sizes) y w ((same-sequences y).0 hy).0 ((same-sequences w).0 hw).0

  -- 4. The output is a valid system of as many equations as its rank says (SCOPE 13.64).
  pub output-valid : Valid (with_equations_of (rank s) z) s.rows s.relations
  output-valid = counted-valid valid-end diagonal-nonzero.row_count rank-few

  -- 5. The input's relations stay first. Behind them those that one multiplier adds stand together, by strictly ascending n0
  -- (SCOPE 13.65).
  pub relations-listed : (more : List Relation) × (s.relations ≡ relations ++ more) × Listed more
  unfolding with_order start
  relations-listed =
      subst (λ u. (more : List Relation) × (u.relations ≡ relations ++ more) × Listed more) end.same (replay-listed end.steps)

  -- 6. The report is "no" exactly if no diagonal polynomial vanishes at an integer; a reported root is the greatest of all.
  pub report-no : (report leading (span z) s ≡ none) ↔ Rootless (diagonal leading (span z) s)
  report-no = report-none leading (span z) s (nonzero-of-diagonal leading (rank s) z.m (span z) s diagonal-nonzero)

  pub report-root : {r : ℤ} → report leading (span z) s ≡ some r → FurthestRoot leading (diagonal leading (span z) s) r
  report-root e = report-some leading (span z) s (nonzero-of-diagonal leading (rank s) z.m (span z) s diagonal-nonzero) e

  -- 7. The rows kept are independent.
  pub rows-independent : Dependent z.l s.rows → ⊥
  rows-independent = settled-independent z.l s triangular (le_of_eq (sym settled))
