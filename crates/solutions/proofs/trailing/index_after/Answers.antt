-- `solutions::trailing::index_after` meets its contract.
-- Assumes nothing.
use mathlib.Core.Path.{◌≡◌, sym, ◌∙◌, ap, subst}
use mathlib.Core.List.{List}
use Prim.Native.Nat.{◌≤◌}
use native.Mathlib.Omega.{arith}
use lib.Dec.{lit<}
use lib.IntN.{ℤ, nat_abs, ◌+ℤ◌}
use mir.Syntax.{w64}
use mir.Val.{SFits, of_z, to_z}
use mir.Facts.{to_z-of_z}
use Rattle.algebra.specs.Integers.{nat_abs-+ℤ}
use Rattle.algebra.specs.Order.{≤ℤ-trans, nat_abs-≤-iff}
use Rattle.integers.specs.Ranges.{sfits-size}
use Rattle.rules.specs.Elimination.{State}
use Rattle.rules.specs.Layout.{size-bounds}
use Rattle.rules.specs.Limits.{bound, block_bound}
use Rattle.rules.specs.Stores as Stores
use Rattle.rules.specs.Stores.{row_need}
use Rattle.std.specs.Prelude as Prelude
use Rattle.std.specs.Prelude.{None, Some}
use Rattle.rules.specs.Calls.{root_value}
use Rattle.roots.specs.RootSearch.{answered}
use Rattle.stores.specs.Validity.{the_sizes_of}
use Rattle.sides.specs.Lent.{Within}
use Rattle.sides.specs.ReportLaws.{settled_state}
use Rattle.solutions.specs.LargestRoots.{option_of, option-of}
use Rattle.reduction.specs.Answer.{Outcome, run_answer}
use Rattle.std.proofs.Common.{refl, Ok}
use Rattle.runs.specs.CallLaws.{few-blocks}
use Rattle.solutions.specs.SolutionAnswers.{last_root_of}
use Rattle.solutions.specs.LastIndices.{index_of, index_for, after-rank, after-root, last-small}
use Rattle.solutions.proofs.trailing.index_after.Goals as goal
use Rattle.solutions.proofs.trailing.index_after.Goals.{After-last_root, After-span-span, In-Some, Else-settled-m, Start}

module _ (s : Start) where
  abbrev z : Stores.Sizes
  z = the_sizes_of s.args.sizes

  abbrev rows : List ℤ
  rows = s.args.rows.now

  abbrev o : Outcome
  o = run_answer (Ok s.args.p) s.args.p

  abbrev ended : State
  ended = settled_state o.progress.settled rows o.progress.order

pub returns-then-settled-m : goal.returns-then-settled-m
unfolding the_sizes_of
returns-then-settled-m c =
    let s = (goal.at.returns-then-settled-m c).Start in
    λ relations. after-rank (z s) (rows s) relations (o s) s.requires.1 refl c.if-settled-m.true

pub span-span-requires : goal.span-span-requires
span-span-requires c = c.requires.0

-- The rank is m.
module _ (d : After-span-span) where
  abbrev full : Else-settled-m
  full = (goal.at.After-span-span d).Else-settled-m

  abbrev st : Start
  st = (goal.at.Else-settled-m full).Start

  span-is : d.span-span.result ≡ Stores.span (z st)
  span-is = d.span-span.ensures

  left : Within (row_need (o st).progress.settled) (rows st)
  left =
      subst (λ n. Within (row_need n) (rows st)) (st.requires.1.all_settled refl).1 st.requires.1.rows-within

pub last_root-requires : goal.last_root-requires
last_root-requires c =
    let s = st c in
    (s.requires.1.few-settled, rw (span-is c) (few-blocks (z s) s.requires.0), s.requires.1.columns, left c)

-- The largest root.
module _ (e : After-last_root) where
  abbrev d : After-span-span
  d = (goal.at.After-last_root e).After-span-span

  abbrev s : Start
  s = st d

  answer-is : e.last_root.result ≡ answered (last_root_of (Stores.span (z s)) (ended s))
  answer-is = e.last_root.ensures ∙ ap (λ n. answered (last_root_of n (ended s))) (span-is d)

  rank_is : (o s).progress.settled ≡ (z s).m
  unfolding the_sizes_of
  rank_is = (full d).if-settled-m.false

  -- Which it is.
  known : (a : Prelude.Option ℤ) → e.last_root.result ≡ a → last_root_of (Stores.span (z s)) (ended s) ≡ option_of a
  known a is = sym (option-of _) ∙ ap option_of (sym answer-is ∙ is)

  root-small : (r : ℤ) → e.last_root.result ≡ Some r → nat_abs r ≤ bound
  unfolding root_value
  root-small r is =
      subst (λ o. nat_abs (root_value o) ≤ bound) (known (Some r) is)
      (last-small (Stores.span (z s)) (o s).progress.settled (rows s) (o s).progress.order
      (omega (arith, s.requires.1.few-settled, s.requires.1.four)) (few-blocks (z s) s.requires.0) s.requires.1.columns (left d))

pub returns-in_default : goal.returns-in_default
unfolding index_of index_for
returns-in_default c =
    let e = (goal.at.returns-in_default c).After-last_root in
    λ relations.
    sym (ap (index_for (z (s e)).t) (known e None c.in_default.is))
    ∙ after-root (z (s e)) (rows (s e)) relations (o (s e)) (s e).requires.1 refl (rank_is e)

-- There is one.
module _ (f : In-Some) where
  abbrev e : After-last_root
  e = (goal.at.In-Some f).After-last_root

  abbrev r : ℤ
  r = f.in-Some.root

  abbrev t : ℤ
  t = (s e).args.sizes.t

  small : nat_abs r ≤ bound
  small = root-small e r f.in-Some.is

  t-small : nat_abs t ≤ block_bound
  unfolding the_sizes_of
  t-small =
      let bounds = size-bounds (z (s e)) (s e).requires.0 in
      (nat_abs-≤-iff t).1 (bounds.low, ≤ℤ-trans bounds.ordered bounds.high)

  root-back : to_z w64 (of_z w64 r) ≡ r
  root-back = to_z-of_z {w = w64} {z = r} (sfits-size r small (lit< tt))

  t-back : to_z w64 (of_z w64 t) ≡ t
  t-back = to_z-of_z {w = w64} {z = t} (sfits-size t t-small (lit< tt))

  sum_fits : SFits w64 (r +ℤ t)
  sum_fits = sfits-size (r +ℤ t) {k = 268436000} (omega (arith, nat_abs-+ℤ r t, small, t-small)) (lit< tt)

pub overflow_add-root : goal.overflow_add-root
overflow_add-root c = let f = (goal.at.overflow_add-root c).In-Some in simp (root-back f, t-back f) (sum_fits f)

pub returns : goal.returns
unfolding index_for the_sizes_of
returns c =
    let f = (goal.at.returns c).In-Some in
    let g = e f in
    λ relations.
    (simp (root-back f, t-back f, to_z-of_z {w = w64} (sum_fits f)) at c.index_at.ensures)
    ∙ sym (ap (index_for (t f)) (known g (Some (r f)) f.in-Some.is))
    ∙ after-root (z (s g)) (rows (s g)) relations (o (s g)) (s g).requires.1 refl (rank_is g)
