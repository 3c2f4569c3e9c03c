-- `own_logs::lines::combination` meets its contract: multipliers and content are those of the definition.
-- Assumes nothing.
use mathlib.Core.Path.{◌≡◌, refl, sym, ◌∙◌, ap, ap₂, subst, subst₂}
use mathlib.Core.Bool.{true}
use mathlib.Core.List.{List, ◌∷◌, ◌++◌}
use Prim.Native.Nat.{ℕ, suc, ◌+◌, ◌^◌, ◌<◌}
use native.Mathlib.Numerals.{add-one}
use native.Mathlib.Omega.{arith}
use lib.Dec.{T}
use lib.IntN.{ℤ, pos}
use lib.ListN.{length, length-append}
use Rattle.lists.specs.Tests.{every}
use Rattle.rules.specs.Limits.{row_length, small}
use Rattle.rules.specs.Rows.{Row, entry, combine, low_degrees}
use Rattle.rules.specs.Stores.{row_of}
use Rattle.rules.specs.Elimination.{Multipliers, multipliers}
use Rattle.combinations.specs.Undivided.{StoredFit}
use Rattle.reduction.specs.MultiplierSizes.{Sixteen, multipliers-fit}
use Rattle.reduction.specs.StoreExchange.{length-entry, small-entry}
use Rattle.own_logs.specs.Own.{change_numbers, divisor_of}
use Rattle.own_logs.specs.LineLaws.{divisor-zero, divisor-some}
use Rattle.own_logs.specs.Contents.{ContentOf, content_in, content-undivided}
use Rattle.own_logs.proofs.lines.combination.Goals as goal
use Rattle.own_logs.proofs.lines.combination.Goals.{After-put_multipliers_at, After-content_of-content, Joined-content-eq0, Start}
use Rattle.own_logs.proofs.lines.combination.Goals.{else-content-eq0, then-content-eq0}

-- the two rows
module _ (c : Start) where
  abbrev target : List ℤ
  target = c.args.target.now

  abbrev pivot : List ℤ
  pivot = c.args.pivot.now

  abbrev column : ℕ
  column = c.args.c

  fits-entry : (l : List ℤ) → length l ≡ row_length → T (every small l) → Sixteen (entry (row_of l) column)
  fits-entry l e s = (
    length-entry l column (omega (arith, e)) c.requires.i_lt_most_equations.2,
    small-entry l column s c.requires.i_lt_most_equations.2,
  )

  abbrev x : Multipliers
  x = multipliers (entry (row_of pivot) column) (entry (row_of target) column)

  fits : Sixteen x.g × Sixteen x.h
  fits =
      multipliers-fit (entry (row_of pivot) column) (entry (row_of target) column)
      (fits-entry pivot c.requires.target_len.1 c.requires.target_len.3)
      (fits-entry target c.requires.target_len.0 c.requires.target_len.2)

  abbrev result : Row
  result = combine x.g x.h (row_of target) (row_of pivot)

-- the multipliers
module _ (c : After-put_multipliers_at) where
  abbrev start : Start
  start = (goal.at.After-put_multipliers_at c).Start

  abbrev g : List ℤ
  g = c.put_multipliers_at.new.g

  abbrev h : List ℤ
  h = c.put_multipliers_at.new.h

  g-is : g ≡ (x start).g
  g-is = c.put_multipliers_at.ensures.g_after

  h-is : h ≡ (x start).h
  h-is = c.put_multipliers_at.ensures.h_after

  g-fits : Sixteen g
  g-fits = subst Sixteen (sym g-is) (fits start).0

  h_fits : Sixteen h
  h_fits = subst Sixteen (sym h-is) (fits start).1

  stored : StoredFit g h (target start) (pivot start)
  stored =
      let rows = start.requires.target_len in record {
        g-long = g-fits.0;
        g-small = g-fits.1;
        h-long = h_fits.0;
        h-small = h_fits.1;
        target-long = rows.0;
        target_small = rows.2;
        pivot-long = rows.1;
        pivot-small = rows.3;
      }

-- the content
module _ (c : After-content_of-content) where
  abbrev multiplied : After-put_multipliers_at
  multiplied = (goal.at.After-content_of-content c).After-put_multipliers_at

  abbrev base : Start
  base = start multiplied

  abbrev divided-by : ℕ
  divided-by = c.content_of-content.result

  found : ContentOf (result base) divided-by
  found =
      subst₂ (λ g h. ContentOf (combine g h (row_of (target base)) (row_of (pivot base))) divided-by) (g-is multiplied)
      (h-is multiplied)
      (subst (ContentOf (combine (g multiplied) (h multiplied) (row_of (target base)) (row_of (pivot base))))
      (sym (c.content_of-content.ensures ∙ ap content_in c.undivided_stored.ensures)) (content-undivided (stored multiplied)))

-- the integer
module _ (c : Joined-content-eq0) where
  divisor-below : c.if-content-eq0.divisor < 2 ^ 63
  divisor-below =
      elim c.if-content-eq0.branch [
        | then-content-eq0 w ↦ omega arith
        | else-content-eq0 w ↦ omega (arith, (found (goal.at.Joined-content-eq0 c).After-content_of-content).below)
      ]

  divisor-is : low_degrees (result (base (goal.at.Joined-content-eq0 c).After-content_of-content)) ≡ true → c.if-content-eq0.divisor
      ≡ divisor_of (result (base (goal.at.Joined-content-eq0 c).After-content_of-content))
  divisor-is low =
      let r = result (base (goal.at.Joined-content-eq0 c).After-content_of-content) in
      let same = (found (goal.at.Joined-content-eq0 c).After-content_of-content).content-is low in
      elim c.if-content-eq0.branch [
        | then-content-eq0 w ↦ w.divisor-is ∙ sym (divisor-zero r (sym same ∙ w.if-content-eq0.true))
        | else-content-eq0 w ↦ w.divisor-is ∙ same ∙ sym (divisor-some r (λ e. w.if-content-eq0.false (same ∙ e)))
      ]

pub put_multipliers_at-requires : goal.put_multipliers_at-requires
put_multipliers_at-requires c =
    record {
      g_len = (refl, refl);
      c_lt_column_count = (
        c.requires.i_lt_most_equations.2,
        omega (arith, c.requires.target_len.0),
        omega (arith, c.requires.target_len.1),
      );
      t = (c.requires.target_len.2, c.requires.target_len.3);
      t_2 = c.requires.t;
    }

pub undivided_stored-requires : goal.undivided_stored-requires
undivided_stored-requires c = stored (goal.at.undivided_stored-requires c).After-put_multipliers_at

pub combining-requires : goal.combining-requires
combining-requires c =
    let joined = (goal.at.combining-requires c).Joined-content-eq0 in
    let e = multiplied (goal.at.Joined-content-eq0 joined).After-content_of-content in
    let b = start e in
    record {
      i_bound = (omega (arith, b.requires.i_lt_most_equations.0), omega (arith, b.requires.i_lt_most_equations.1), divisor-below joined);
      g_len = ((g-fits e).0, (h_fits e).0);
    }

pub returns : goal.returns
unfolding change_numbers
returns c =
    let joined = (goal.at.returns c).Joined-content-eq0 in
    let e = multiplied (goal.at.Joined-content-eq0 joined).After-content_of-content in
    let b = start e in
    record {
      long =
          ap length c.combining.ensures
          ∙ ap (λ n. suc (suc (suc (suc n))))
          (length-append (g e) (h e) ∙ ap₂ ◌+◌ (g-fits e).0 (h_fits e).0);
      said =
          λ low. c.combining.ensures
          ∙ (λ k. pos 2 ∷ pos (add-one b.args.i k) ∷ pos (add-one b.args.j k) ∷ pos (divisor-is joined low k)
          ∷ (g-is e k ++ h-is e k));
    }
