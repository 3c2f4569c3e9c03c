-- What one step of the elimination does, and chains of steps.
--
-- Main definitions
--   Stepped side s s'      s' is the state after one step from s: a combination, a settling, a shift, the drop of a zero row
--   Chain side s k s'      k steps lead from s to s'
--   Narrowed s i j e       e is the state after the exchange of rule 2, if there is one
--   FirstNonzero ps c      the polynomial at place c is the first of ps that is not zero
--   Left s t               whether s is finished: no row is left, or one is
--   StepView side s o      o is the outcome of a step from s
--   RunView side s k o     o is the outcome of a run of at most k steps from s
--
-- Main statements (those that rest on what a step is are in proofs/Steps.antt)
--   row_at-put_row-same, row_at-exchange-left, ..   the rows of a changed state
--   narrow_first-both, narrow_first-width, narrow_first-all   what the exchange of rule 2 leaves
--   first_nonzero-some, first_nonzero-none         the laws of first_nonzero
--   stepped-relations                            a step keeps the listed relations
--   left                                         `finished` tells whether a row is left
--   zero-dropped                                 a step drops a zero row
--   chain-induction                              what every step keeps, a chain keeps
use Rattle.std.specs.Prelude.{ℕ, zero, suc, ◌≤◌, ◌<◌, ◌≡◌, ◌↔◌, ◌⊎◌, Bool, false, not, cond, T, ltb, get_or, set}
use Rattle.std.proofs.Math.Path.{refl}
use Rattle.std.proofs.Common.{sym, ◌∙◌, ap, subst, inl, inr, zero-lt-suc, not-suc-le-zero, arith, ltb→lt, nltb→le, length-set, get_or-set_same}
use Rattle.std.proofs.Math.Bool.{true}
use mathlib.Core.List.{List, [], ◌∷◌, ◌++◌, append_assoc, append-nil}
use Rattle.std.proofs.Math.Option
use Rattle.std.proofs.Math.Option.{none, some, map-eq-some_iff, map-eq-none_iff, some-injective, none-ne-some, some-ne-none}
use Rattle.std.proofs.Math.Nat.{suc-le-suc_iff}
use Rattle.std.proofs.Math.ListN.{length}
use Rattle.algebra.specs.Polynomials.{Polynomial, is_zero_of}
use Rattle.rules.specs.Limits.{most_relations}
use Rattle.rules.specs.Rows.{Row, Relation, no_row, zero_left, zero_row, contradicts, width, entry, leading_block, first_nonzero, combine, primitive, low_degrees}
use Rattle.lists.specs.Everywhere.{All}
use Rattle.rules.specs.Rows.{cut, small_row, shift_up}
use Rattle.lists.specs.Places.{all-swap, get_or-swap-left, get_or-swap-right, length-swap, length_without}
use Rattle.lists.specs.Tests.{cond-passed}
use Rattle.rules.specs.Elimination.{Side, Multipliers, State, Outcome, going, done, refused, within, beyond, limit_coefficients}
use Rattle.rules.specs.Elimination.{limit_degrees, row_at, put_row, list_relations, settle, count_shift, exchange}
use Rattle.rules.specs.Elimination.{root_relations, drop_row}
use Rattle.rules.specs.Elimination.{multipliers_at, narrow_first, work_on, step}
use Rattle.rules.specs.Elimination.{finished}

-- The row that a step works on, row i = w + 1 (SCOPE 2.2), counted from 0.
abbrev pub current : State → ℕ
current s = length s.order

-- The leading entry of the current row at the column of settled row k.
abbrev pub met : State → ℕ → Polynomial
met s k = entry (row_at s (current s)) (get_or s.order k 0)

-- The current row is zero at the columns of the settled rows before row j.
abbrev pub MetZeroBelow : State → ℕ → Type 0
MetZeroBelow s j = (k : ℕ) → k < j → T (is_zero_of (met s k))

-- The state after the exchange, if there is one, and the multipliers there.
abbrev pub exchanged : State → ℕ → State
exchanged s j = narrow_first s (current s) j

abbrev pub multipliers_for : State → ℕ → Multipliers
multipliers_for s j = multipliers_at (exchanged s j) (current s) j

-- The state with the relations of rule 3 listed.
abbrev pub listed : Side → State → ℕ → State
listed side s j =
    list_relations (exchanged s j) (root_relations side (multipliers_for s j).g (row_at (exchanged s j) (current s)))

-- The row that the combination makes, before its limits are checked.
abbrev pub combination : State → ℕ → Row
combination s j =
    primitive (combine (multipliers_for s j).g (multipliers_for s j).h (row_at (exchanged s j) (current s)) (row_at (exchanged s j) j))

-- One step that goes on.
pub data Stepped (side : Side) (s : State) : State → Type 0 where
  combined : (j : ℕ) → j < current s → current s < length s.rows → T (not (zero_left (row_at s (current s)))) → MetZeroBelow s j
      → T (not (is_zero_of (met s j))) → length (listed side s j).relations ≤ most_relations → (r : Row) → limit_degrees (combination s j)
      ≡ within r
      → Stepped side s (put_row (listed side s j) (current s) r)
  settled : (c : ℕ) → current s < length s.rows → T (not (zero_left (row_at s (current s)))) → MetZeroBelow s (current s)
      → first_nonzero (leading_block (row_at s (current s))) ≡ some c → Stepped side s (settle s c)
  shifted : (r : Row) → current s < length s.rows → T (not (zero_left (row_at s (current s)))) → MetZeroBelow s (current s)
      → first_nonzero (leading_block (row_at s (current s))) ≡ none → limit_coefficients (shift_up (row_at s (current s))) ≡ within r
      → Stepped side s (put_row (count_shift s) (current s) r)
  dropped : current s < length s.rows → T (zero_row (row_at s (current s))) → Stepped side s (drop_row s (current s))

-- k steps, one after another.
pub data Chain (side : Side) (s : State) : ℕ → State → Type 0 where
  here : Chain side s zero s
  next : {k : ℕ} {u v : State} → Chain side s k u → Stepped side u v → Chain side s (suc k) v

-- ---- the rows of a changed state

pub row_at-put_row-same : (s : State) (i : ℕ) (r : Row) → i < length s.rows → row_at (put_row s i r) i ≡ r
unfolding row_at put_row
row_at-put_row-same s i r h = get_or-set_same s.rows i r no_row h

pub length-put_row : (s : State) (i : ℕ) (r : Row) → length (put_row s i r).rows ≡ length s.rows
unfolding put_row
length-put_row s i r = length-set s.rows i r

-- Two rows change places.
pub row_at-exchange-left : (s : State) (i j : ℕ) → i < length s.rows → row_at (exchange s i j) i ≡ row_at s j
unfolding exchange put_row row_at
row_at-exchange-left s i j h = get_or-swap-left s.rows no_row i j h

pub row_at-exchange-right : (s : State) (i j : ℕ) → j < length s.rows → row_at (exchange s i j) j ≡ row_at s i
unfolding exchange put_row row_at
row_at-exchange-right s i j h = get_or-swap-right s.rows no_row i j h

pub length-exchange : (s : State) (i j : ℕ) → length (exchange s i j).rows ≡ length s.rows
unfolding exchange put_row row_at
length-exchange s i j = length-swap s.rows no_row i j

-- ---- narrow_first: the exchange of rule 2, made only if row j is the wider

pub data Narrowed (s : State) (i j : ℕ) : State → Type 0 where
  kept : width (row_at s j) ≤ width (row_at s i) → Narrowed s i j s
  swapped : width (row_at s i) < width (row_at s j) → Narrowed s i j (exchange s i j)

pub narrowed : (s : State) (i j : ℕ) → Narrowed s i j (narrow_first s i j)
unfolding narrow_first
narrowed s i j = go (ltb (width (row_at s i)) (width (row_at s j)))
    (ltb→lt (width (row_at s i)) (width (row_at s j))) (nltb→le (width (row_at s i)) (width (row_at s j)))
  where
    go : (t : Bool) → (T t → width (row_at s i) < width (row_at s j)) → (T (not t) → width (row_at s j) ≤ width (row_at s i))
        → Narrowed s i j (cond t (exchange s i j) s)
    go true f g = swapped (f tt)
    go false f g = kept (g tt)

pub length-narrow_first : (s : State) (i j : ℕ) → length (narrow_first s i j).rows ≡ length s.rows
length-narrow_first s i j = go (narrowed s i j)
  where
    go : {e : State} → Narrowed s i j e → length e.rows ≡ length s.rows
    go (kept h) = refl
    go (swapped h) = length-exchange s i j

-- What does not look at the rows is as it was.
pub narrow_first-keeps : {A : Type 0} (f : State → A) (s : State) (i j : ℕ)
    → ((l : List Row) → f (record { rows = l; relations = s.relations; order = s.order; shifts = s.shifts }) ≡ f s)
    → f (narrow_first s i j) ≡ f s
unfolding exchange put_row
narrow_first-keeps f s i j same = go (narrowed s i j)
  where
    go : {e : State} → Narrowed s i j e → f e ≡ f s
    go (kept h) = refl
    go (swapped h) = same (set (set s.rows j (row_at s i)) i (row_at s j))

pub order-narrow_first : (s : State) (i j : ℕ) → (narrow_first s i j).order ≡ s.order
order-narrow_first s i j = narrow_first-keeps (λ u. u.order) s i j (λ l. refl)

pub relations-narrow_first : (s : State) (i j : ℕ) → (narrow_first s i j).relations ≡ s.relations
relations-narrow_first s i j = narrow_first-keeps (λ u. u.relations) s i j (λ l. refl)

pub shifts-narrow_first : (s : State) (i j : ℕ) → (narrow_first s i j).shifts ≡ s.shifts
shifts-narrow_first s i j = narrow_first-keeps (λ u. u.shifts) s i j (λ l. refl)

-- What both rows have, both rows have after it.
pub narrow_first-both : (P : Row → Type 0) (s : State) (i j : ℕ) → i < length s.rows → j < length s.rows
    → P (row_at s i) → P (row_at s j) → P (row_at (narrow_first s i j) i) × P (row_at (narrow_first s i j) j)
narrow_first-both P s i j h k p q = go (narrowed s i j)
  where
    go : {e : State} → Narrowed s i j e → P (row_at e i) × P (row_at e j)
    go (kept w) = (p, q)
    go (swapped w) = (rw (row_at-exchange-left s i j h) q, rw (row_at-exchange-right s i j k) p)

-- Row j is not the wider after it.
pub narrow_first-width : (s : State) (i j : ℕ) → i < length s.rows → j < length s.rows
    → width (row_at (narrow_first s i j) j) ≤ width (row_at (narrow_first s i j) i)
narrow_first-width s i j h k = go (narrowed s i j)
  where
    go : {e : State} → Narrowed s i j e → width (row_at e j) ≤ width (row_at e i)
    go (kept w) = w
    go (swapped w) = rw (row_at-exchange-left s i j h, row_at-exchange-right s i j k) (omega arith)

-- All rows have a property exactly if all rows have it after it.
module _ (P : Row → Type 0) (s : State) (i j : ℕ) (below-i : i < length s.rows) (below-j : j < length s.rows) where
  pub exchange-all : All P (exchange s i j).rows ↔ All P s.rows
  unfolding exchange put_row row_at
  exchange-all = all-swap s.rows no_row i j P below-i below-j

  pub narrow_first-all : All P (narrow_first s i j).rows ↔ All P s.rows
  narrow_first-all = go (narrowed s i j)
    where
      go : {e : State} → Narrowed s i j e → All P e.rows ↔ All P s.rows
      go (kept w) = (λ a. a, λ a. a)
      go (swapped w) = exchange-all

-- ---- the first nonzero polynomial of a list

pub record FirstNonzero (ps : List Polynomial) (c : ℕ) : Type 0 where
  pub inside : c < length ps
  pub nonzero : T (not (is_zero_of (get_or ps c [])))
  pub before : (k : ℕ) → k < c → T (is_zero_of (get_or ps k []))

-- One zero polynomial in front moves the place up by one.
first_nonzero-behind : (p : Polynomial) (ps : List Polynomial) (c : ℕ) → T (is_zero_of p) → FirstNonzero ps c → FirstNonzero (p ∷ ps) (suc c)
first_nonzero-behind p ps c z f = record { inside = suc-le-suc_iff.1 f.inside; nonzero = f.nonzero; before = earlier }
  where
    earlier : (k : ℕ) → k < suc c → T (is_zero_of (get_or (p ∷ ps) k []))
    earlier zero h = z
    earlier (suc k) h = f.before k (omega arith)

pub first_nonzero-some : (ps : List Polynomial) (c : ℕ) → first_nonzero ps ≡ some c → FirstNonzero ps c
unfolding first_nonzero
first_nonzero-some [] c e = absurd (none-ne-some c e)
first_nonzero-some (p ∷ ps) c e = go (is_zero_of p) refl (first_nonzero-some ps) e
  where
    go : (z : Bool) → is_zero_of p ≡ z → ((k : ℕ) → first_nonzero ps ≡ some k → FirstNonzero ps k)
        → cond z (Option.map suc (first_nonzero ps)) (some 0) ≡ some c → FirstNonzero (p ∷ ps) c
    go true z rec e =
        let (k, found, up) = (map-eq-some_iff suc (first_nonzero ps)).0 e in
        subst (FirstNonzero (p ∷ ps)) up (first_nonzero-behind p ps k (rw z tt) (rec k found))
    go false z rec e = subst (FirstNonzero (p ∷ ps)) (some-injective 0 c e)
        (record { inside = zero-lt-suc (length ps); nonzero = rw z tt; before = λ k h. absurd (not-suc-le-zero h) })

pub first_nonzero-none : (ps : List Polynomial) → first_nonzero ps ≡ none → (k : ℕ) → T (is_zero_of (get_or ps k []))
unfolding first_nonzero is_zero_of
first_nonzero-none [] e k = tt
first_nonzero-none (p ∷ ps) e k = go (is_zero_of p) refl (first_nonzero-none ps) k e
  where
    go : (z : Bool) → is_zero_of p ≡ z → (first_nonzero ps ≡ none → (k : ℕ) → T (is_zero_of (get_or ps k [])))
        → (k : ℕ) → cond z (Option.map suc (first_nonzero ps)) (some 0) ≡ none → T (is_zero_of (get_or (p ∷ ps) k []))
    go true z rec zero e = rw z tt
    go true z rec (suc k) e = rec ((map-eq-none_iff suc (first_nonzero ps)).0 e) k
    go false z rec k e = absurd (some-ne-none 0 e)

-- ---- what a step that goes on keeps

pub listed-rows : (side : Side) (s : State) (j : ℕ) → length (listed side s j).rows ≡ length s.rows
unfolding list_relations
listed-rows side s j = length-narrow_first s (current s) j

pub listed-order : (side : Side) (s : State) (j : ℕ) → (listed side s j).order ≡ s.order
unfolding list_relations
listed-order side s j = order-narrow_first s (current s) j

-- What is listed comes behind the relations that are there (SCOPE 2.3).
pub listed-relations : (side : Side) (s : State) (j : ℕ)
    → (listed side s j).relations ≡ s.relations ++ root_relations side (multipliers_for s j).g (row_at (exchanged s j) (current s))
unfolding list_relations
listed-relations side s j =
    ap (λ l. l ++ root_relations side (multipliers_for s j).g (row_at (exchanged s j) (current s))) (relations-narrow_first s (current s) j)

pub combined-length : (side : Side) (s : State) (j : ℕ) (r : Row)
    → length (put_row (listed side s j) (current s) r).rows ≡ length s.rows
combined-length side s j r = length-put_row (listed side s j) (current s) r ∙ listed-rows side s j

pub length-drop_row : (s : State) (i : ℕ) → i < length s.rows → suc (length (drop_row s i).rows) ≡ length s.rows
unfolding drop_row
length-drop_row s i h = length_without s.rows i h

pub stepped-relations : {side : Side} {s s' : State} → Stepped side s s' → (l : List Relation) × (s'.relations ≡ s.relations ++ l)
unfolding put_row settle count_shift drop_row
stepped-relations {side} {s} (combined j a b c d e f r g) =
    (root_relations side (multipliers_for s j).g (row_at (exchanged s j) (current s)), listed-relations side s j)
stepped-relations {s} (settled c a b d e) = ([], sym (append-nil s.relations))
stepped-relations {s} (shifted r a b c d e) = ([], sym (append-nil s.relations))
stepped-relations {s} (dropped a b) = ([], sym (append-nil s.relations))

pub chain-relations : {side : Side} {s s' : State} {k : ℕ} → Chain side s k s' → (l : List Relation) × (s'.relations ≡ s.relations ++ l)
chain-relations {s} here = ([], sym (append-nil s.relations))
chain-relations {s} (next c t) =
    let (l, e) = chain-relations c in
    let (k, f) = stepped-relations t in
    (l ++ k, f ∙ ap (λ x. x ++ k) e ∙ append_assoc s.relations l k)

-- ---- what a step gives

-- A finished state has no row left.
pub data Left (s : State) : Bool → Type 0 where
  none_left : length s.rows ≤ current s → Left s true
  row-left : current s < length s.rows → Left s false

pub left : (s : State) → Left s (finished s)
unfolding finished
left s = go (ltb (current s) (length s.rows)) (ltb→lt (current s) (length s.rows)) (nltb→le (current s) (length s.rows))
  where
    go : (t : Bool) → (T t → current s < length s.rows) → (T (not t) → length s.rows ≤ current s) → Left s (not t)
    go true more rest = row-left (more tt)
    go false more rest = none_left (rest tt)

-- The current row, or the row that a combination would put into its place, has a right side and no left part.
pub data Inconsistent (side : Side) (s : State) : Type 0 where
  at_once : T (contradicts (row_at s (current s))) → Inconsistent side s
  next_row : {s' : State} → Stepped side s s' → current s < length s'.rows → T (contradicts (row_at s' (current s)))
      → Inconsistent side s

-- The outcome of one step from s.
pub data StepView (side : Side) (s : State) : Outcome → Type 0 where
  over-limit : (n : ℕ) → current s < length s.rows → T (not (zero_left (row_at s (current s))))
      → (n ≡ 7) ⊎ (n ≡ 8) ⊎ (n ≡ 9) → StepView side s (refused n)
  inconsistent : current s < length s.rows → Inconsistent side s → StepView side s (refused 10)
  goes_on : {s' : State} → Stepped side s s' → StepView side s (going s')

within≢beyond : {r : Row} {n : ℕ} → within r ≡ beyond n → ⊥
within≢beyond e = let z : ◌≡◌ {A = ℕ} 0 1 = cc in omega arith

beyond-injective : {k n : ℕ} → beyond k ≡ beyond n → k ≡ n
beyond-injective e = cc

pub limit_coefficients-beyond : (r : Row) (n : ℕ) → limit_coefficients r ≡ beyond n → n ≡ 8
unfolding limit_coefficients
limit_coefficients-beyond r n = go (small_row r)
  where
    go : (t : Bool) → cond t (within r) (beyond 8) ≡ beyond n → n ≡ 8
    go true e = absurd (within≢beyond e)
    go false e = sym (beyond-injective e)

pub limit_degrees-beyond : (r : Row) (n : ℕ) → limit_degrees r ≡ beyond n → (n ≡ 7) ⊎ (n ≡ 8)
unfolding limit_degrees
limit_degrees-beyond r n = go (low_degrees r)
  where
    go : (t : Bool) → cond t (limit_coefficients (cut r)) (beyond 7) ≡ beyond n → (n ≡ 7) ⊎ (n ≡ 8)
    go true e = inr (limit_coefficients-beyond (cut r) n e)
    go false e = inl (sym (beyond-injective e))

-- A row within the limits is the row itself, cut to 16 coefficients after a combination.
pub limit_coefficients-within : (q r : Row) → limit_coefficients q ≡ within r → T (small_row q) × (r ≡ q)
unfolding limit_coefficients
limit_coefficients-within q r = go (small_row q)
  where
    go : (t : Bool) → cond t (within q) (beyond 8) ≡ within r → T t × (r ≡ q)
    go true e = (tt, cc)
    go false e = absurd (within≢beyond (sym e))

pub limit_degrees-within : (q r : Row) → limit_degrees q ≡ within r → T (low_degrees q) × T (small_row (cut q)) × (r ≡ cut q)
unfolding limit_degrees
limit_degrees-within q r = go (low_degrees q)
  where
    go : (t : Bool) → cond t (limit_coefficients (cut q)) (beyond 7) ≡ within r → T t × T (small_row (cut q)) × (r ≡ cut q)
    go true e = let (small, same) = limit_coefficients-within (cut q) r e in (tt, small, same)
    go false e = absurd (within≢beyond (sym e))

-- ---- the same by the outcome

pub going-injective : {s s' : State} → going s ≡ going s' → s ≡ s'
going-injective e = cc

pub done-injective : {s s' : State} → done s ≡ done s' → s ≡ s'
done-injective e = cc

pub refused-injective : {n n' : ℕ} → refused n ≡ refused n' → n ≡ n'
refused-injective e = cc

pub going≢done : {s s' : State} → going s ≡ done s' → ⊥
going≢done e = let z : ◌≡◌ {A = ℕ} 0 1 = cc in omega arith

pub going≢refused : {s : State} {n : ℕ} → going s ≡ refused n → ⊥
going≢refused e = let z : ◌≡◌ {A = ℕ} 0 1 = cc in omega arith

pub done≢refused : {s : State} {n : ℕ} → done s ≡ refused n → ⊥
done≢refused e = let z : ◌≡◌ {A = ℕ} 0 1 = cc in omega arith

-- The refusals of a run (SCOPE 6.7 to 6.10).
abbrev pub Refusal : Side → State → ℕ → Type 0
Refusal side s n = ((n ≡ 10) × Inconsistent side s) ⊎ ((n ≡ 7) ⊎ (n ≡ 8) ⊎ (n ≡ 9))

-- The row that a combination has made zero is dropped by the next step (SCOPE 2.45).
pub zero-dropped : (side : Side) (s : State) → T (zero_row (row_at s (current s))) → step side s ≡ going (drop_row s (current s))
unfolding step work_on
zero-dropped side s zeros = cond-passed (zero_row (row_at s (current s))) (going (drop_row s (current s))) _ zeros

-- ---- chains and runs

pub chain-induction : (side : Side) (P : State → Type 0) → ((u v : State) → Stepped side u v → P u → P v)
    → {s s' : State} {k : ℕ} → Chain side s k s' → P s → P s'
chain-induction side P keep here p = p
chain-induction side P keep (next {u} {v} c t) p = keep u v t (chain-induction side P keep c p)

-- A step before a chain.
pub chain-before : {side : Side} {s u v : State} {k : ℕ} → Stepped side s u → Chain side u k v → Chain side s (suc k) v
chain-before t here = next here t
chain-before t (next c t') = next (chain-before t c) t'

-- What a run of at most k steps from s comes to: a state with a row left after k steps, a finished state, or a refused step.
pub data RunView (side : Side) (s : State) (k : ℕ) : Outcome → Type 0 where
  all-taken : {v : State} → Chain side s k v → current v < length v.rows → RunView side s k (going v)
  came-to-end : {j : ℕ} {v : State} → Chain side s j v → length v.rows ≤ current v → RunView side s k (done v)
  step-stopped : {j n : ℕ} {u : State} → Chain side s j u → current u < length u.rows → step side u ≡ refused n
      → RunView side s k (refused n)
