-- `back_substitution::list_column` meets its contract: one column more of the list.
-- Assumes nothing.
use mathlib.Core.Path.{◌≡◌, refl, sym, ◌∙◌, subst}
use mathlib.Core.Logic.{inl, inr}
use mathlib.Core.Bool.{true}
use mathlib.Core.List.{List}
use Prim.Native.Nat.{ℕ, ◌+◌}
use native.Mathlib.Omega.{arith}
use lib.IntN.{ℤ}
use lib.ListN.{length}
use Rattle.lists.specs.Tests.{true-T}
use Rattle.echelon.specs.Eliminated.{Pivot}
use Rattle.back_substitution.specs.Listed.{is_free_of, vector_at}
use Rattle.echelon.specs.MatrixTurns.{pivots_in}
use Rattle.back_substitution.specs.Substituted.{is_free-iff, vector-solves}
use Rattle.back_substitution.specs.BackSubstitution.{FreeColumn, free-columns}
use Rattle.back_substitution.specs.ListRows.{Placed, Written, written-past, written-zeros, written_next, listing-refused}
use Rattle.back_substitution.proofs.list_column.Goals as goal
use Rattle.back_substitution.proofs.list_column.Goals.{After-is_free, After-list_at, Else-not-is_free, Start}

-- the test of the column
module _ (c : After-is_free) where
  abbrev start : Start
  start = (goal.at.After-is_free c).Start

  abbrev n : ℕ
  n = start.args.n

  abbrev f : ℕ
  f = start.args.f

  abbrev count : ℕ
  count = start.args.count

  abbrev list : List ℤ
  list = start.args.list.now

  abbrev ps : List Pivot
  ps = pivots_in n start.args.columns.now start.args.matrix.now

  free-is : c.is_free.result ≡ is_free_of ps f
  free-is = c.is_free.ensures ∙ sym (free-columns n start.args.columns.now start.args.matrix.now f)

-- a column without a pivot
module _ (c : Else-not-is_free) where
  abbrev tested : After-is_free
  tested = (goal.at.Else-not-is_free c).After-is_free

  free : is_free_of (ps tested) (f tested) ≡ true
  free = sym (free-is tested) ∙ c.if-not-is_free.false

  column : FreeColumn (n tested) (ps tested) (f tested)
  column =
      record {
        settled = (start tested).requires.settled;
        free = (is_free-iff (ps tested) (f tested)).0 (true-T (is_free_of (ps tested) (f tested)) free);
      }

  size : length (vector_at (n tested) (ps tested) (f tested)) ≡ n tested
  size =
      (vector-solves (n tested) (ps tested) column.settled.echelon (f tested) (start tested).requires.n_le_list_columns.1 column.free).size

-- its sequence in the store
module _ (c : After-list_at) where
  abbrev there : Else-not-is_free
  there = (goal.at.After-list_at c).Else-not-is_free

  abbrev w : List ℤ
  w = vector_at (n (tested there)) (ps (tested there)) (f (tested there))

  placed : Placed (n (tested there)) (count (tested there)) c.list_at.result w (list (tested there)) c.list_at.new.list
  placed = c.list_at.ensures

pub returns-then-not-is_free : goal.returns-then-not-is_free
returns-then-not-is_free c =
    let e = (goal.at.returns-then-not-is_free c).After-is_free in
    let s = start e in record {
      stepped = inl (refl, written-past (n e) (ps e) (f e) (count e) (list e) s.requires.written (sym (free-is e) ∙ c.if-not-is_free.true));
      kept = record { same_length = refl; same_rest = refl };
    }

pub list_at-requires : goal.list_at-requires
list_at-requires c =
    let e = (goal.at.list_at-requires c).After-is_free in
    let s = start e in record {
      n_le_list_columns = (s.requires.n_le_list_columns.0, s.requires.n_le_list_columns.1, omega (arith, s.requires.written.few, s.requires.n_le_list_columns.0, s.requires.n_le_list_columns.1), s.requires.n_le_list_columns.2);
      list_need_in_bounds = (
        s.requires.n_le_list_columns.3,
        written-zeros (n e) (ps e) (f e) (count e) (list e) s.requires.written s.requires.n_le_list_columns.0 s.requires.n_le_list_columns.1 s.requires.n_le_list_columns.3,
      );
      free_column = column (goal.at.list_at-requires c).Else-not-is_free;
    }

pub returns-then-not-list_at : goal.returns-then-not-list_at
returns-then-not-list_at c =
    let a = (goal.at.returns-then-not-list_at c).After-list_at in
    let e = tested (there a) in
    let s = start e in record {
      stepped = inr (
        refl,
        listing-refused (n e) (ps e) (f e) (count e) (list e) s.requires.written s.requires.n_le_list_columns.1 (free (there a))
            (sym (placed a).judged ∙ c.if-not-list_at.true),
      );
      kept = (placed a).kept;
    }

pub returns : goal.returns
returns c =
    let a = (goal.at.returns c).After-list_at in
    let e = tested (there a) in
    let s = start e in
    let passed = c.if-not-list_at.false in
    let next = written_next (n e) (ps e) (f e) (count e) (list e) s.requires.written s.requires.n_le_list_columns.0 s.requires.n_le_list_columns.1 s.requires.n_le_list_columns.3
    (free (there a)) (sym (placed a).judged ∙ passed) (size (there a)) in
    record {
      stepped = inl (refl, subst (Written (n e) (ps e) (f e + 1) (count e + 1)) (sym ((placed a).same passed)) next);
      kept = (placed a).kept;
    }
