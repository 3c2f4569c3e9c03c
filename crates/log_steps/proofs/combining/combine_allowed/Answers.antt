-- `log_steps::combining::combine_allowed` meets its contract: roots and relations are those of the definition, and the new row is handed in.
-- Assumes nothing.
use mathlib.Core.Path.{◌≡◌, refl, sym, ◌∙◌, ap₂, subst, subst₂}
use mathlib.Core.List.{List}
use Prim.Native.Nat.{ℕ, ◌+◌, ◌≤◌, ◌<◌}
use native.Mathlib.Nat.{le_of_eq}
use native.Mathlib.Omega.{arith}
use lib.Dec.{T}
use lib.IntN.{ℤ}
use lib.ListN.{length}
use Rattle.algebra.specs.Polynomials.{Polynomial}
use Rattle.algebra.specs.Roots.{roots}
use Rattle.lists.specs.Tests.{every}
use Rattle.rules.specs.Limits.{small}
use Rattle.rules.specs.Elimination.{Limited, leading, listing}
use Rattle.roots.specs.RootSearch.{roots_few}
use Rattle.multiplicities.specs.declared.RootsWith.{RootsWith}
use Rattle.multiplicities.specs.Counts.{roots_held, found-held, found-count, found-long}
use Rattle.sides.specs.Relations.{Relisted}
use Rattle.working_rows.specs.Worked.{refusal_of, numbers_of}
use Rattle.reduction.specs.declared.step.Progress.{Progress}
use Rattle.reduction.specs.MultiplierSizes.{roots-small}
use Rattle.reduction.specs.Progress.{Ready, state_of, answer_of, listed_progress}
use Rattle.reduction.specs.NewRows.{saved, saved-limited}
use Rattle.reduction.specs.StoreExchange.{numbers_at, length-numbers_at, small-numbers_at}
use Rattle.log_steps.specs.Logs.{combine_rows_of}
use Rattle.log_steps.specs.Divisions.{divided-storable}
use Rattle.log_steps.specs.StoreChanges.{Begun, begun-few, begun-room, Stepped, stepped_same}
use Rattle.log_steps.specs.StoreCombinations.{new_row}
use Rattle.log_steps.proofs.StoreCombinations.{combine-many, combine-stepped}
use Rattle.log_steps.proofs.combining.combine_allowed.Goals as goal
use Rattle.log_steps.proofs.combining.combine_allowed.Goals.{After-list_roots, After-roots_with-found, Start}

abbrev Small : List ℤ → Type 0
Small l = T (every small l)

-- the arguments
module _ (c : Start) where
  abbrev rows : List ℤ
  rows = c.args.rows.now

  abbrev relations : List ℤ
  relations = c.args.relations.now

  abbrev p : Progress
  p = c.args.p

  abbrev i : ℕ
  i = c.args.i

  abbrev g : Polynomial
  g = c.args.g.now

  ready : Ready rows relations p
  ready = c.requires.ready.0

  none : p.settled ≡ 0
  none = c.requires.ready.1

  inside : i < p.rows
  inside = c.requires.ready.2

  begun : Begun rows p
  begun = record { few-rows = ready.few-rows; rows-within = ready.rows-within; unsettled = none }

  abbrev target : List ℤ
  target = numbers_at rows i

  target_small : Small target
  target_small = small-numbers_at p.rows rows ready.rows-within i inside

  few : length (roots g) ≤ 15
  few = roots_few g (le_of_eq c.requires.g_len.0)

  abbrev new : ℕ → ℕ → Polynomial → Limited
  new j d h = new_row d g h target (numbers_at rows j)

-- the roots
module _ (c : After-roots_with-found) where
  abbrev base : Start
  base = (goal.at.After-roots_with-found c).Start

  abbrev found : RootsWith
  found = c.roots_with-found.result

  count-is : found.count ≡ length (roots (g base))
  count-is = found-count (g base) c.roots_with-found.ensures

  held-is : roots_held found ≡ roots (g base)
  held-is = found-held (g base) c.roots_with-found.ensures

-- the relations, and the new row
module _ (c : After-list_roots) where
  abbrev rooted : After-roots_with-found
  rooted = (goal.at.After-list_roots c).After-roots_with-found

  abbrev origin : Start
  origin = base rooted

  abbrev after : List ℤ
  after = c.list_roots.new.relations

  relisted : Relisted (p origin).count (target origin) (listing leading (roots (g origin))) (relations origin) after
  relisted =
      subst₂ (λ t l. Relisted (p origin).count t (listing leading l) (relations origin) after)
      c.row_at-row.ensures.result_value (held-is rooted) c.list_roots.ensures

  room : (p origin).count + length (roots (g origin)) ≤ 16
  room = omega (arith, count-is rooted, c.if-count-gt16.false)

  stepped : (j d : ℕ) (h : Polynomial) → j < (p origin).rows
      → Stepped (rows origin) (relations origin)
      (saved (rows origin) (i origin) (refusal_of (new origin j d h)) (numbers_of (new origin j d h))) after (p origin)
      (answer_of (refusal_of (new origin j d h)) (listed_progress (p origin) (length (roots (g origin)))))
      (combine_rows_of (state_of (rows origin) (relations origin) (p origin)) (i origin) j d (g origin) h)
  stepped j d h other =
      let s = origin in
      combine-stepped (ready s) (none s) (i s) j d (g s) h (inside s) other relisted room
      (divided-storable (g s) h (target s) (numbers_at (rows s) j) (omega (arith, s.requires.g_len.0))
      (length-numbers_at (p s).rows (rows s) (ready s).rows-within (i s) (inside s)) d)

pub roots_with-found-requires : goal.roots_with-found-requires
roots_with-found-requires c = (c.requires.g_len.0, c.requires.g_len.1)

pub overflow_add-count : goal.overflow_add-count
overflow_add-count c =
    let r = (goal.at.overflow_add-count c).After-roots_with-found in
    omega (arith, few (base r), count-is r, (ready (base r)).listing.few)

pub returns-then-count-gt16 : goal.returns-then-count-gt16
returns-then-count-gt16 c =
    let r = (goal.at.returns-then-count-gt16 c).After-roots_with-found in
    let s = base r in
    let many : 16 < (p s).count + length (roots (g s)) = omega (arith, count-is r, c.if-count-gt16.true) in
    rw c.stopped.ensures (λ j d h other made. combine-many (ready s) (none s) (i s) j d (g s) h (inside s) other many)

pub overflow_mul-i : goal.overflow_mul-i
overflow_mul-i c =
    let s = base (goal.at.overflow_mul-i c).After-roots_with-found in omega (arith, begun-few (begun s) (i s) (inside s))

pub row_at-row-requires : goal.row_at-row-requires
row_at-row-requires c =
    let s = base (goal.at.row_at-row-requires c).After-roots_with-found in begun-room (begun s) (i s) (inside s)

pub list_roots-requires : goal.list_roots-requires
list_roots-requires c =
    let r = (goal.at.list_roots-requires c).After-roots_with-found in
    let s = base r in
    let row = subst Small (sym c.row_at-row.ensures.result_value) (target_small s) in
    let values = found-long (g s) c.roots_with-found.ensures (omega (arith, few s)) in record {
      listing = ((ready s).listing, omega (arith, c.if-count-gt16.false), values);
      t = (subst Small (sym (held-is r)) (roots-small (g s) s.requires.g_len.1), row, c.row_at-row.ensures.result_len);
    }

pub put_limited-requires : goal.put_limited-requires
put_limited-requires c = let s = (goal.at.put_limited-requires c).Start in (begun-room (begun s) (i s) (inside s), s.requires.g_len.2)

pub returns : goal.returns
returns c =
    let l = (goal.at.returns c).After-list_roots in
    let s = origin l in
    λ j d h other shown.
    stepped_same (c.put_limited.ensures.rows_after ∙ saved-limited (rows s) (i s) (new s j d h) s.args.worked shown)
    (c.put_limited.ensures.value ∙ ap₂ (λ n k. answer_of n (listed_progress (p s) k)) shown.0 (count-is (rooted l)))
    refl
    (stepped l j d h other)
