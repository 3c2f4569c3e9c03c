-- What is promised of the list of polynomial solutions (SCOPE 14.7).
--
-- Main definitions
--   ListedAt       the properties of the listed vector of a free column: a solution, positive there, zero at the other free columns, no
--                  common divisor above 1
--   sum_of          an integer combination of the sequences that vectors hold
--   Finite         zero below index 0 and above some index
-- Main statements
--   listed-one-each   one sequence for each column without a pivot, in their order
--   listed_at         each has these properties
--   listed-only       and the list is the only one that has them
--   listed-complete   a solution with finitely many nonzero terms, none below index 0, times a nonzero integer, is an integer
--                     combination of the list
--   none-zero         where there is no N, such a solution is zero
use Prim.Native.Nat.{ℕ, ◌+◌, ◌*◌, ◌<◌}
use Rattle.std.specs.Prelude.{◌≡◌, refl, ◌≢◌, ◌↔◌, Bool, true, false, ◌&&◌, cond, leb, ltb, pos, negsuc, ◌+ℤ◌, ◌*ℤ◌, ◌<ℤ◌}
use Rattle.std.proofs.Math.Path.{sym, ap, subst}
use Rattle.std.proofs.Common.{◌∙◌, ap₂, ⊎_elim, arith, leb→le, ltb→lt}
use mathlib.Core.Logic.Iff
use mathlib.Core.List.{List, [], ◌∷◌, map}
use Rattle.std.proofs.Math.Dec.{T}
use Rattle.std.proofs.Math.ListN.{length, get_or, length-map}
use Rattle.std.proofs.Math.Seq.{ext_get_or}
use Rattle.std.proofs.Math.IntN.{ℤ, *ℤ-zero}
use Rattle.std.specs.Int.Signed.{<ℤ-≤ℤ_trans, lt_z_yes}
use Rattle.algebra.specs.Order.{≤ℤ-or->}
use Rattle.algebra.specs.Sums.{count_from, count_from-bounds}
use Rattle.algebra.specs.Gcd.{content}
use Rattle.lists.specs.Everywhere.{All, all_get_or, member-all}
use Rattle.lists.specs.Images.{get_or_map}
use Rattle.lists.specs.Sifted.{keep}
use Rattle.lists.specs.Tests.{T-&&}
use Rattle.rules.specs.Layout.{size-bounds}
use Rattle.rules.specs.Rows.{Row, Relation}
use Rattle.rules.specs.Elimination.{trailing, State}
use Rattle.rules.specs.Stores.{Sizes, Valid}
use Rattle.rules.specs.Sequences.{Sequence, Satisfies, Same}
use Rattle.theory.specs.Demands.{Accepted}
use Rattle.constant_rows.specs.Constants.{Judged, fine, and_on, each, the_columns_of}
use Rattle.echelon.specs.Eliminated.{Pivot, at, limited}
use Rattle.back_substitution.specs.Listed.{is_free_of, free_columns, vector_at, sequences}
use Rattle.solutions.specs.SolutionAnswers.{none_listed, listed, answer}
use Rattle.echelon.specs.KernelKept.{and_on-fine, limited-fine, Echelon, KillsAll, Settled, eliminate-settled}
use Rattle.back_substitution.specs.Substituted.{Free, is_free-iff, Solves, vector-solves}
use Rattle.solutions.specs.Spanned.{combination, spanned, solves-unique}
use Rattle.solutions.specs.Extent.{ZeroAt, ZeroAbove, ends_at, ends_nowhere}
use Rattle.solutions.specs.RowMeaning.{sequence_of, vector_of, sequence-same, column-inside}
use Rattle.solutions.specs.Asked.{rows-say, rows-length, satisfies-same}
use Rattle.solutions.specs.Course.{Begun, Course, listed-course, none-course}

-- ---- combinations of sequences

unfoldable pub sum_of : ℕ → ℕ → List ℤ → List (List ℤ) → Sequence
unfolding sequence_of at
sum_of m N [] vs i c = pos 0
sum_of m N (k ∷ ks) [] i c = pos 0
sum_of m N (k ∷ ks) (v ∷ vs) i c = k *ℤ sequence_of m N (at v) i c +ℤ sum_of m N ks vs i c

sequence-of-zeros : (m N : ℕ) (i : ℤ) (c : ℕ) → sequence_of m N (λ _. pos 0) i c ≡ pos 0
unfolding sequence_of
sequence-of-zeros m N (pos k) c = choice (leb k N && ltb c m)
  where
    choice : (t : Bool) → cond t (pos 0) (pos 0) ≡ pos 0
    choice true = refl
    choice false = refl
sequence-of-zeros m N (negsuc k) c = refl

-- The combination of the vectors holds the combination of the sequences.
sum-of-combination : (m N : ℕ) (ks : List ℤ) (vs : List (List ℤ)) (i : ℤ) (c : ℕ)
    → sequence_of m N (combination ks vs) i c ≡ sum_of m N ks vs i c
unfolding sum_of sequence_of combination
sum-of-combination m N [] vs i c = sequence-of-zeros m N i c
sum-of-combination m N (k ∷ ks) [] i c = sequence-of-zeros m N i c
sum-of-combination m N (k ∷ ks) (v ∷ vs) i c = split i ∙ ap (λ u. k *ℤ sequence_of m N (at v) i c +ℤ u) (sum-of-combination m N ks vs i c)
  where
    choice : (t : Bool) (x y : ℤ) → cond t (k *ℤ x +ℤ y) (pos 0) ≡ k *ℤ cond t x (pos 0) +ℤ cond t y (pos 0)
    choice true x y = refl
    choice false x y = sym (ap (λ u. u +ℤ pos 0) (*ℤ-zero k))

    split : (i : ℤ) → sequence_of m N (λ j. k *ℤ at v j +ℤ combination ks vs j) i c
        ≡ k *ℤ sequence_of m N (at v) i c +ℤ sequence_of m N (combination ks vs) i c
    split (pos h) = choice (leb h N && ltb c m) (at v (h * m + c)) (combination ks vs (h * m + c))
    split (negsuc h) = sym (ap (λ u. u +ℤ pos 0) (*ℤ-zero k))

-- A multiple of a vector holds the multiple of its sequence.
multiple-sequence : (m N : ℕ) (k : ℤ) (v w : ℕ → ℤ) → ((j : ℕ) → j < the_columns_of m N → k *ℤ v j ≡ w j)
    → (i : ℤ) (c : ℕ) → k *ℤ sequence_of m N v i c ≡ sequence_of m N w i c
unfolding sequence_of the_columns_of
multiple-sequence m N k v w h (negsuc j) c = *ℤ-zero k
multiple-sequence m N k v w h (pos j) c = cases (leb j N && ltb c m) (T-&& (leb j N) (ltb c m)).0
  where
    cases : (t : Bool) → (T t → T (leb j N) × T (ltb c m)) → k *ℤ cond t (v (j * m + c)) (pos 0) ≡ cond t (w (j * m + c)) (pos 0)
    cases true p = h (j * m + c) (column-inside m N j c (leb→le j N (p tt).0) (ltb→lt c m (p tt).1))
    cases false p = *ℤ-zero k

-- ---- lists

each_map : {A B : Type 0} (f : A → Judged B) (g : A → B) → ((x : A) (y : B) → f x ≡ fine y → y ≡ g x) → (l : List A) (ys : List B)
    → each f l ≡ fine ys → ys ≡ map g l
unfolding each
each_map f g h [] ys e = cc
each_map f g h (x ∷ l) ys e =
    let (y, one, rest) = and_on-fine (f x) (λ y. and_on (each f l) (λ ys. fine (y ∷ ys))) ys e in
    let (zs, more, last) = and_on-fine (each f l) (λ ys. fine (y ∷ ys)) ys rest in
    let s : (y ∷ zs) ≡ ys = cc in
    sym s ∙ ap₂ (λ a b. a ∷ b) (h x y one) (each_map f g h l zs more)

all_keep : {A : Type 0} (P : A → Type 0) (t : A → Bool) (l : List A) → All P l → All (λ x. P x × T (t x)) (keep t l)
unfolding All keep
all_keep P t [] a = tt
all_keep P t (x ∷ l) a = cases (t x) (λ h. (a.0, h)) (all_keep P t l a.1)
  where
    cases : (s : Bool) → (T s → P x × T (t x)) → All (λ x. P x × T (t x)) (keep t l)
        → All (λ x. P x × T (t x)) (cond s (x ∷ keep t l) (keep t l))
    cases true h k = (h tt, k)
    cases false h k = k

-- ---- the promises

-- What is said of the vector v of the free column f (SCOPE 14.71).
pub record ListedAt (z : Sizes) (rows : List Row) (relations : List Relation) (N : ℕ) (ps : List Pivot) (f : ℕ) (v : List ℤ) : Type 0 where
  pub size : length v ≡ the_columns_of z.m N
  pub solution : Satisfies z.l rows relations (sequence_of z.m N (at v))
  pub positive : (i : ℕ) × (0 < i) × (at v f ≡ pos i)
  pub elsewhere : (c : ℕ) → c ≢ f → Free ps c → at v c ≡ pos 0
  pub primitive : content v ≡ 1

-- Finitely many nonzero terms, none below index 0 (SCOPE 14.72).
pub record Finite (m : ℕ) (y : Sequence) : Type 0 where
  pub low : (i : ℤ) → i <ℤ pos 0 → ZeroAt m y i
  pub bound : ℤ
  pub high : ZeroAbove m y bound

module _ {z : Sizes} {rows : List Row} {relations : List Relation} (valid : Valid z rows relations) where
  some-column : 0 < z.m
  some-column = (size-bounds z valid.sizes).some

  accepted : {s : State} → Begun z rows relations s → Accepted trailing z rows relations s
  accepted b = record { valid = valid; accepts = b.accepts }

  -- Where there is no N a finite solution is zero (SCOPE 14.72).
  pub none-zero : answer z rows relations ≡ none_listed → (y : Sequence) → Satisfies z.l rows relations y → Finite z.m y
      → (i : ℤ) → ZeroAt z.m y i
  none-zero e y h f i =
      let (s, b, o) = none-course z rows relations e in
      ⊎_elim (λ n. ends_nowhere (accepted b) b.square b.sides y h n f.bound f.high i)
      (λ w. let (r, found, (k, negative)) = w in
      ⊎_elim (λ p. subst (λ x. ZeroAbove z.m y x) negative
      (ends_at (accepted b) b.square b.sides y h r found f.bound f.high) i
      (<ℤ-≤ℤ_trans (below k) p)) (f.low i) (≤ℤ-or-> (pos 0) i)) o
    where
      below : (k : ℕ) → negsuc k <ℤ pos 0
      below k = lt_z_yes tt

  module _ {N : ℕ} {l : List (List ℤ)} (e : answer z rows relations ≡ listed N l) where
    course : Course z rows relations N l
    course = listed-course z rows relations N l e

    -- The settled rows, whose columns are the pivots.
    pub pivots : List Pivot
    pivots = course.pivots

    columns : ℕ
    columns = the_columns_of z.m N

    settled : Settled columns [] pivots course.constants
    unfolding columns pivots Echelon
    settled = eliminate-settled columns course.constants [] tt (rows-length z N rows relations course.constants course.made) pivots
        course.eliminated

    -- The settled rows say of a vector what the system says of the sequence that it holds.
    kernel : (v : ℕ → ℤ) → Satisfies z.l rows relations (sequence_of z.m N v) ↔ KillsAll columns v pivots
    unfolding columns All
    kernel v =
        Iff.trans (rows-say valid N v course.begun.sides some-column course.constants course.made)
        (Iff.trans (λ h. (tt, h), λ h. h.1) (settled.kernel v))

    listed_of : (f : ℕ) (v : List ℤ) → Solves columns pivots f v → ListedAt z rows relations N pivots f v
    unfolding columns
    listed_of f v s =
        record {
          size = s.size;
          solution = (kernel (at v)).1
              s.kills;
          positive = s.positive;
          elsewhere = s.elsewhere;
          primitive = s.primitive;
        }

    solves-of : (f : ℕ) (v : List ℤ) → ListedAt z rows relations N pivots f v → Solves columns pivots f v
    unfolding columns
    solves-of f v s =
        record {
          size = s.size;
          kills = (kernel (at v)).0
              s.solution;
          positive = s.positive;
          elsewhere = s.elsewhere;
          primitive = s.primitive;
        }

    vectors : l ≡ map (vector_at columns pivots) (free_columns columns pivots)
    unfolding sequences columns pivots
    vectors =
        each_map (λ f. limited (vector_at columns pivots f)) (vector_at columns pivots)
        (λ f v h. sym (limited-fine (vector_at columns pivots f) v h).0) (free_columns columns pivots) l course.shown

    -- One sequence for each column without a pivot (SCOPE 14.51).
    pub listed-one-each : length l ≡ length (free_columns (the_columns_of z.m N) pivots)
    unfolding columns
    listed-one-each = ap length vectors ∙ length-map (free_columns columns pivots) (vector_at columns pivots)

    free-columns : All (λ f. (f < columns) × T (is_free_of pivots f)) (free_columns columns pivots)
    unfolding free_columns
    free-columns =
        all_keep (λ f. f < columns) (is_free_of pivots) (count_from 0 columns)
        (member-all (λ f. f < columns) (count_from 0 columns) (λ f m. omega (arith, count_from-bounds 0 columns m)))

    -- Each is a solution, positive at its own column, zero at the other free ones, without a common divisor above 1 (SCOPE 14.71).
    pub listed_at : (k : ℕ) → k < length l
        → ListedAt z rows relations N pivots (get_or (free_columns (the_columns_of z.m N) pivots) k 0) (get_or l k [])
    unfolding columns
    listed_at k h =
        let inside : k < length (free_columns columns pivots) = subst (λ n. k < n) listed-one-each h in
        let f : ℕ = get_or (free_columns columns pivots) k 0 in
        let (below, free) = all_get_or (λ f. (f < columns) × T (is_free_of pivots f)) (free_columns columns pivots) 0 k inside free-columns in
        listed_of f (get_or l k []) (subst (Solves columns pivots f) (sym (ap (λ u. get_or u k []) vectors
        ∙ get_or_map (vector_at columns pivots) (free_columns columns pivots) k 0 [] inside))
        (vector-solves columns pivots settled.echelon f below ((is_free-iff pivots f).0 free)))

    -- No other list has these properties for the same columns (SCOPE 14.73).
    pub listed-only : (other : List (List ℤ)) → length other ≡ length (free_columns (the_columns_of z.m N) pivots)
        → ((k : ℕ) → k < length other → ListedAt z rows relations N pivots (get_or (free_columns (the_columns_of z.m N) pivots) k 0)
        (get_or other k []))
        → other ≡ l
    unfolding columns
    listed-only other same h =
        ext_get_or [] other l (same ∙ sym listed-one-each) (λ k p. let f : ℕ = get_or (free_columns columns pivots) k 0 in
        solves-unique columns pivots settled.echelon f (get_or other k []) (get_or l k []) (solves-of f (get_or other k []) (h k p))
        (solves-of f (get_or l k []) (listed_at k (subst (λ n. k < n) (same ∙ sym listed-one-each) p))))

    -- A solution with finitely many nonzero terms, none below index 0, is zero above N.
    finite-ends : (y : Sequence) → Satisfies z.l rows relations y → Finite z.m y → ZeroAbove z.m y (pos N)
    finite-ends y h f =
        subst (ZeroAbove z.m y) course.end
        (ends_at (accepted course.begun) course.begun.square course.begun.sides y h course.root course.last f.bound
        f.high)

    -- It is, times some nonzero integer, an integer combination of the list (SCOPE 14.72).
    pub listed-complete : (y : Sequence) → Satisfies z.l rows relations y → Finite z.m y
        → (k : ℤ) × (k ≢ pos 0) × (ks : List ℤ) × ((i : ℤ) (c : ℕ) → c < z.m → k *ℤ y i c ≡ sum_of z.m N ks l i c)
    unfolding columns Same
    listed-complete y h f = (
      factor,
      nonzero,
      ks,
      λ i c p. ap (λ u. factor *ℤ u) (sym (same i c p)) ∙ multiple-sequence z.m N factor v (combination ks l) agree i c
          ∙ sum-of-combination z.m N ks l i c,
    )
      where
        v : ℕ → ℤ
        v = vector_of z.m y

        same : (i : ℤ) → Same z.m (sequence_of z.m N v) y i
        same = sequence-same z.m N y f.low (finite-ends y h f)

        held : Satisfies z.l rows relations (sequence_of z.m N v)
        held = satisfies-same valid y (sequence_of z.m N v) (λ i c p. sym (same i c p)) h

        span_of : (k : ℤ) × (k ≢ pos 0) × (ks : List ℤ)
            × ((c : ℕ) → c < columns → k *ℤ v c ≡ combination ks (map (vector_at columns pivots) (free_columns columns pivots)) c)
        span_of = spanned columns pivots settled.echelon v ((kernel v).0 held)

        factor : ℤ
        factor = span_of.0

        nonzero : factor ≢ pos 0
        nonzero = span_of.1

        ks : List ℤ
        ks = span_of.2

        agree : (c : ℕ) → c < columns → factor *ℤ v c ≡ combination ks l c
        agree c p = span_of.3 c p ∙ ap (λ u. combination ks u c) (sym vectors)
