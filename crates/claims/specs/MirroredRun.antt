-- The trailing run against the leading run of the mirrored system: mirrored back they are the same (SCOPE 2.91), but
-- for the order among the roots of one g (SCOPE 2.33).
--
-- Main definitions
--   relist s l                 the state s with the relations l
--   Alike o u                  the outcomes are the same but for the order of the relations
-- Main statements
--   trailing-mirrors           the trailing run of a system is the mirror of the leading run of its mirror
use Rattle.std.specs.Prelude.{ℕ, zero, suc, ◌+◌, ◌*◌, ◌≡◌, refl, Bool, true, false, cond, ltb, leb, length}
use Rattle.std.proofs.Common.{sym, ◌∙◌, ap, ap₂, subst}
use Rattle.std.proofs.Math.Option.{Option, none, some}
use mathlib.Core.List.Permᴰ
use mathlib.Core.List.{List, [], ◌∷◌, ◌++◌, map, Permᴰ}
use Rattle.std.proofs.lemmas.List.{length-map}
use Rattle.algebra.specs.Polynomials.{Polynomial}
use Rattle.algebra.specs.Roots.{roots}
use Rattle.rules.specs.Limits.{most_relations}
use Rattle.rules.specs.Rows.{Row, Relation, zero_row, width, entry, first_nonzero, leading_block, combine, primitive, shift_up, contradicts}
use Rattle.rules.specs.Rows.{mirror_row_of, mirror_relation}
use Rattle.rules.specs.Elimination.{Side, leading, trailing, Multipliers, State, Outcome, going, done, refused, Limited, consistent}
use Rattle.rules.specs.Elimination.{within, beyond}
use Rattle.rules.specs.Elimination.{start, enough, finished, step, work_on, meet, settle_or_shift, shift_step_of, eliminate_step_of}
use Rattle.rules.specs.Elimination.{narrow_first, combine_step_of}
use Rattle.rules.specs.Elimination.{multipliers_at, row_at, put_row, list_relations, settle, count_shift, exchange, put_limited_of}
use Rattle.rules.specs.Elimination.{listing, drop_row}
use Rattle.rules.specs.Elimination.{root_relations, limit_degrees, limit_coefficients, run, and_then, mirror_state, mirror_outcome}
use Rattle.rules.specs.Elimination.{whole_run_of, leading_run_of, trailing_run_of}
use Rattle.theory.specs.Mirror.{mirror_row-length}

abbrev pub relist : State → List Relation → State
relist s l = record { rows = s.rows; relations = l; order = s.order; shifts = s.shifts }

pub data Alike : Outcome → Outcome → Type 0 where
  both-going : (s : State) (l : List Relation) → Permᴰ l s.relations → Alike (going (relist s l)) (going s)
  both-done : (s : State) (l : List Relation) → Permᴰ l s.relations → Alike (done (relist s l)) (done s)
  both-refused : (n : ℕ) → Alike (refused n) (refused n)

cond-alike : (t : Bool) {a b c d : Outcome} → Alike a b → Alike c d → Alike (cond t a c) (cond t b d)
cond-alike true h k = h
cond-alike false h k = k

perm-length : {A : Type 0} {l m : List A} → Permᴰ l m → length l ≡ length m
perm-length Permᴰ.nil = refl
perm-length (Permᴰ.cons e p) = ap suc (perm-length p)
perm-length (Permᴰ.swap e f) = refl
perm-length (Permᴰ.trans p q) = perm-length p ∙ perm-length q

-- The roots of one g in either order.
listed-alike : (l m : List Relation) (g : Polynomial) (r : Row) → Permᴰ l m
    → Permᴰ (l ++ root_relations trailing g r) (m ++ root_relations leading g r)
unfolding root_relations listing
listed-alike l m g r p =
    Permᴰ.trans (Permᴰ.append_right (root_relations trailing g r) p)
    (Permᴰ.append_left m (Permᴰ.map (λ n0. record { index = n0; row = r }) (Permᴰ.reverse (roots g))))

module _ (s : State) (l : List Relation) (p : Permᴰ l s.relations) where
  limited-alike : (i : ℕ) (x : Limited) → Alike (put_limited_of (relist s l) i x) (put_limited_of s i x)
  unfolding put_limited_of put_row
  limited-alike i (within r) = both-going (put_row s i r) l p
  limited-alike i (beyond n) = both-refused n

  shift-alike : (i : ℕ) → Alike (shift_step_of (relist s l) i) (shift_step_of s i)
  unfolding shift_step_of count_shift row_at put_limited_of put_row
  shift-alike i = go (limit_coefficients (shift_up (row_at s i)))
    where
      go : (x : Limited) → Alike (put_limited_of (count_shift (relist s l)) i x) (put_limited_of (count_shift s) i x)
      go (within r) = both-going (put_row (count_shift s) i r) l p
      go (beyond n) = both-refused n

  settle-alike : (i : ℕ) (o : Option ℕ) → Alike (settle_or_shift (relist s l) i o) (settle_or_shift s i o)
  unfolding settle_or_shift settle
  settle-alike i (some c) = both-going (settle s c) l p
  settle-alike i none = shift-alike i

combine-alike : (s : State) (l : List Relation) → Permᴰ l s.relations → (i j : ℕ) (x : Multipliers)
    → Alike (combine_step_of trailing (relist s l) i j x) (combine_step_of leading s i j x)
unfolding combine_step_of list_relations row_at
combine-alike s l p i j x =
    subst (λ n. Alike (cond (leb n most_relations) (rest trailing l) (refused 9))
    (cond (leb (length listed.relations) most_relations) (rest leading s.relations) (refused 9)))
    (sym (perm-length q))
    (cond-alike (leb (length listed.relations) most_relations)
    (limited-alike listed (l ++ root_relations trailing x.g (row_at s i)) q i new)
    (both-refused 9))
  where
    listed : State
    listed = list_relations s (root_relations leading x.g (row_at s i))

    new : Limited
    new = consistent (limit_degrees (primitive (combine x.g x.h (row_at s i) (row_at s j))))

    rest : Side → List Relation → Outcome
    rest side m = put_limited_of (relist s (m ++ root_relations side x.g (row_at s i))) i new

    q : Permᴰ (l ++ root_relations trailing x.g (row_at s i)) listed.relations
    q = listed-alike l s.relations x.g (row_at s i) p

-- The exchange has no part in the relations.
narrow-relations : (s : State) (i j : ℕ) → (narrow_first s i j).relations ≡ s.relations
unfolding narrow_first exchange put_row
narrow-relations s i j = go (ltb (width (row_at s i)) (width (row_at s j)))
  where
    go : (t : Bool) → (cond t (exchange s i j) s).relations ≡ s.relations
    go true = refl
    go false = refl

narrow-relist : (s : State) (l : List Relation) (i j : ℕ) → narrow_first (relist s l) i j ≡ relist (narrow_first s i j) l
unfolding narrow_first exchange put_row row_at
narrow-relist s l i j = go (ltb (width (row_at s i)) (width (row_at s j)))
  where
    go : (t : Bool) → cond t (exchange (relist s l) i j) (relist s l) ≡ relist (cond t (exchange s i j) s) l
    go true = refl
    go false = refl

eliminate-alike : (s : State) (l : List Relation) → Permᴰ l s.relations → (i j : ℕ)
    → Alike (eliminate_step_of trailing (relist s l) i j) (eliminate_step_of leading s i j)
unfolding eliminate_step_of multipliers_at row_at
eliminate-alike s l p i j =
    subst (λ e. Alike (combine_step_of trailing e i j (multipliers_at e i j))
    (combine_step_of leading narrow i j (multipliers_at narrow i j)))
    (sym (narrow-relist s l i j))
    (combine-alike narrow l (subst (Permᴰ l) (sym (narrow-relations s i j)) p) i j (multipliers_at narrow i j))
  where
    narrow : State
    narrow = narrow_first s i j

step-alike : (s : State) (l : List Relation) → Permᴰ l s.relations → Alike (step trailing (relist s l)) (step leading s)
unfolding step work_on row_at meet drop_row
step-alike s l p =
    cond-alike (zero_row (row_at s i)) (both-going (drop_row s i) l p)
    (cond-alike (contradicts (row_at s i)) (both-refused 10) (met (first_nonzero (map (entry (row_at s i)) s.order))))
  where
    i : ℕ
    i = length s.order

    met : (o : Option ℕ) → Alike (meet trailing (relist s l) i o) (meet leading s i o)
    met (some j) = eliminate-alike s l p i j
    met none = settle-alike s l p i (first_nonzero (leading_block (row_at s i)))

run-alike : (k : ℕ) (s : State) (l : List Relation) → Permᴰ l s.relations
    → Alike (run trailing k (relist s l)) (run leading k s)
unfolding run finished and_then
run-alike zero s l p = cond-alike (finished s) (both-done s l p) (both-going s l p)
run-alike (suc k) s l p = cond-alike (finished s) (both-done s l p) (go (step-alike s l p) (run-alike k))
  where
    go : {o u : Outcome} → Alike o u
        → ((t : State) (m : List Relation) → Permᴰ m t.relations → Alike (run trailing k (relist t m)) (run leading k t))
        → Alike (and_then o (run trailing k)) (and_then u (run leading k))
    go (both-going t m q) more = more t m q
    go (both-done t m q) more = both-done t m q
    go (both-refused n) more = both-refused n

mirror-enough : (D : ℕ) (rows : List Row) → enough (map (mirror_row_of D) rows) ≡ enough rows
unfolding enough
mirror-enough D [] = refl
mirror-enough D (r ∷ rows) =
    ap₂ (λ m b. suc m * (m + m * b)) (length-map (r ∷ rows) (mirror_row_of D)) (mirror_row-length D r)

pub trailing-mirrors : (D : ℕ) (rows : List Row) (relations : List Relation)
    → (o : Outcome) × (whole_run_of trailing D rows relations ≡ mirror_outcome D o)
    × Alike o (whole_run_of leading D (map (mirror_row_of D) rows) (map (mirror_relation D) relations))
unfolding whole_run_of leading_run_of trailing_run_of mirror_state start
trailing-mirrors D rows relations = (
  run trailing (enough rows) turned,
  refl,
  subst (λ k. Alike (run trailing (enough rows) turned) (run leading k turned)) (sym (mirror-enough D rows))
      (run-alike (enough rows) turned turned.relations (Permᴰ.refl turned.relations)),
)
  where
    turned : State
    turned = start (map (mirror_row_of D) rows) (map (mirror_relation D) relations)
