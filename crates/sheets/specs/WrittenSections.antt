-- Equations, relations and sizes of a sheet, and their bytes.
--
-- Main definitions
--   EquationRight, RelationGood     the rows and relations that a store can hold and the check of its numbers lets through
--   sizes_lines z                    the bytes of the lines with the sizes
--
-- Main statements
--   count-parted                                              a count with what it counts
--   equation-exact, equations-exact, relation-exact, relations-exact, sizes-exact
--                                                             their readers read what is written of them, and nothing else
use Rattle.std.specs.Prelude.{ℕ, zero, suc, ◌*◌, ◌^◌, ◌≤◌, ◌<◌, ◌≡◌, refl, ◌↔◌, Bool, true, false, cond, T, length, ℤ, pos, neg_ℤ, nat_abs, ◌-ℤ◌, ◌≤ℤ◌}
use Rattle.std.proofs.Common.{suc-le-suc, mul-le-mul, arith, sym, ◌∙◌, ap, subst}
use mathlib.Core.List.{List, [], ◌∷◌, ◌++◌, map, flatten, append-nil, append_assoc}
use Rattle.std.proofs.Math.Dec.{eqb-suc-zero}
use Rattle.std.specs.Int.Signed.{le_z_yes, ≤ℤ_refl}
use Rattle.algebra.specs.Order.{≤ℤ-trans, ≤ℤ-antisym, ≤ℤ-difference, nat_abs-≤-iff, pos-nat_abs-nonneg, pos-nonneg, pos-≤ℤ}
use Rattle.algebra.specs.Polynomials.{is_zero_ℤ}
use Rattle.lists.specs.Tests.{T-&&, cond-zero-iff, every}
use Rattle.rules.specs.Limits.{column_count, most_equations, block_count, block_bound, small}
use Rattle.rules.specs.Rows.{Row, Relation, no_row}
use Rattle.lists.specs.Everywhere.{All}
use Rattle.rules.specs.Stores.{Sizes, equations, span, sizes_right_of, row_right_of, relation_right_of, StoreRow}
use Rattle.rules.specs.Layout.{SizeBounds, size-bounds, bounds-right}
use Rattle.rules.specs.Numbers.{space, newline, is_separator_of, decimal, line, between, judge_small_of}
use Rattle.rules.specs.Sheets.{Term, always, after_count_of, parting, row_of_terms, read_equation, read_equations, read_relation, read_relations}
use Rattle.rules.specs.Sheets.{judge_lowest_of, read_sizes, terms_from, term_numbers, equation_numbers, relation_line}
use Rattle.tokens.specs.Exact.{Exact, field-exact, nothing-exact, then-exact, same-exact, many-exact}
use Rattle.sheets.specs.WrittenTerms.{between-iff, judge_small-iff, small-digits, range-digits, between-exact}
use Rattle.sheets.specs.WrittenTerms.{positive-pos, always-space, always-newline, parted, line-parted, spaced, Ordered}
use Rattle.sheets.specs.WrittenTerms.{parting-terms, terms-exact}
use Rattle.sheets.specs.RowBlocks.{StorePolynomial, RowRight, row_right-blocks, blocks-row_right}
use Rattle.sheets.specs.RowTerms.{terms-held, ZeroSide, terms-side, row-of-terms}
use Rattle.sheets.specs.OrderedTerms.{row-ordered, row_count}

-- ---- counts

pub after_count-separator : (v : ℤ) → T (is_separator_of (after_count_of v))
unfolding after_count_of is_separator_of
after_count-separator v = go (is_zero_ℤ v)
  where
    go : (t : Bool) → T (is_separator_of (cond t newline space))
    go true = tt
    go false = tt

pub after_count-parting : (n : ℕ) → after_count_of (pos n) ≡ parting newline n
unfolding after_count_of parting is_zero_ℤ
after_count-parting zero = refl
after_count-parting (suc n) = ap (λ t. cond t newline space) (eqb-suc-zero n)

-- A count, and a count with what it counts.
abbrev pub counted : ℕ → List ℕ
counted n = decimal (pos n) ++ (after_count_of (pos n) ∷ [])

pub count-parted : (l : List ℤ) (n : ℕ) → parting newline n ≡ parting newline (length l)
    → parted newline (pos n ∷ l) ≡ counted n ++ parted newline l
unfolding parted
count-parted l n e =
    ap (λ b. decimal (pos n) ++ (b ∷ parted newline l)) (sym (after_count-parting n ∙ e))
    ∙ sym (append_assoc (decimal (pos n)) (after_count_of (pos n) ∷ []) (parted newline l))

-- ---- equations

most-terms : (z : Sizes) → SizeBounds z → z.m * suc (span z) ≤ column_count * block_count
unfolding span
most-terms z b =
    mul-le-mul b.few
    (suc-le-suc ((nat_abs-≤-iff (z.l -ℤ z.t)).1 (≤ℤ-trans (le_z_yes tt) (≤ℤ-difference.0 b.ordered), b.narrow)))

-- A row that an equation of a sheet can give: its right side comes later.
abbrev pub EquationRight : Sizes → Row → Type 0
EquationRight z r = StoreRow r × T (row_right_of z r) × ZeroSide r

-- Zeros are what a store can hold.
zero-side : (r : Row) → ZeroSide r → StorePolynomial r.right
unfolding ZeroSide every small
zero-side r e = rw e (refl, tt)

pub equation-exact : (z : Sizes) → SizeBounds z → Exact (read_equation z) (EquationRight z) (λ r. line (equation_numbers z.l r))
unfolding read_equation equation_numbers
equation-exact z b =
    same-exact (read_equation z) (EquationRight z) (λ r. line (equation_numbers z.l r))
    (then-exact (λ r. pos (length (terms r)))
    (between-exact (pos 0) (pos most) after_count_of (le_z_yes tt) (pos-≤ℤ.1 (omega (arith, most-terms z b))) after_count-separator)
    (λ k r hk e. sym (pos-nat_abs-nonneg ((between-iff (pos 0) (pos most) k).0 hk).0) ∙ ap pos (sym e.0.0)) λ k hk.
    then-exact terms (terms-exact z (nat_abs k) z.l 0 b)
    (λ es r he e. sym (terms-held z z.l 0 es b (≤ℤ_refl z.l) he.1).same ∙ ap terms (sym e)) λ es he.
    nothing-exact (row_of_terms z.l es))
    (λ _. refl) good best bytes
  where
    most : ℕ
    most = z.m * suc (span z)

    terms : Row → List Term
    terms r = terms_from z.l r.blocks

    Whole : Row → Type 0
    Whole r =
        (between (pos 0) (pos most) (pos (length (terms r))) ≡ 0)
        × (((length (terms r) ≡ length (terms r)) × Ordered z z.l 0 (terms r)) × (r ≡ row_of_terms z.l (terms r)))

    good : (r : Row) → EquationRight z r → Whole r
    good r h =
        let right = row_right-blocks z r h.0 h.1 in (
          (between-iff (pos 0) (pos most) (pos (length (terms r)))).1
              (pos-nonneg (length (terms r)), pos-≤ℤ.1 (row_count z r.blocks right)),
          ((refl, row-ordered z r.blocks b right), sym (row-of-terms z.l r h.0 h.2)),
        )

    best : (r : Row) → Whole r → EquationRight z r
    best r h =
        let side = subst ZeroSide (sym h.1.1) (terms-side z.l (terms r)) in
        let right = blocks-row_right z r
        (subst (λ q. RowRight z q.blocks) (sym h.1.1) (terms-held z z.l 0 (terms r) b (≤ℤ_refl z.l) h.1.0.1).right)
        (zero-side r side) in
        (right.0, right.1, side)

    bytes : (r : Row) → Whole r → line (equation_numbers z.l r)
        ≡ counted (length (terms r)) ++ (parted newline (flatten (map term_numbers (terms r))) ++ [])
    bytes r h =
        line-parted (pos (length (terms r))) (flatten (map term_numbers (terms r)))
        ∙ count-parted (flatten (map term_numbers (terms r))) (length (terms r)) (parting-terms (terms r))
        ∙ ap (λ l. counted (length (terms r)) ++ l) (sym (append-nil (parted newline (flatten (map term_numbers (terms r))))))

pub equations-exact : (z : Sizes) → SizeBounds z → (k : ℕ)
    → Exact (read_equations z k) (λ rows. (length rows ≡ k) × All (EquationRight z) rows)
    (λ rows. flatten (map (λ r. line (equation_numbers z.l r)) rows))
unfolding read_equations
equations-exact z b = many-exact (read_equation z) (read_equations z) no_row (λ _. refl) (λ _ _. refl) (equation-exact z b)

-- ---- relations

-- A number in front of others of its line.
line-space : (a b : ℤ) (l : List ℤ) → line (a ∷ b ∷ l) ≡ spaced a ++ line (b ∷ l)
unfolding line always
line-space a b l = sym (append_assoc (decimal a) (space ∷ []) (line (b ∷ l)))

abbrev pub RelationGood : Sizes → Relation → Type 0
RelationGood z e = StoreRow e.row × T (relation_right_of z e) × ZeroSide e.row

pub relation-exact : (z : Sizes) → SizeBounds z → Exact (read_relation z) (RelationGood z) (λ e. line (relation_line z.l e))
unfolding read_relation relation_line equation_numbers relation_right_of
relation-exact z b =
    same-exact (read_relation z) (RelationGood z) (λ e. line (relation_line z.l e))
    (then-exact (λ e. e.index) (field-exact judge_small_of (always space) (λ a h. small-digits a ((judge_small-iff a).0 h)) always-space)
    (λ n0 e _ f. ap (λ x. x.index) (sym f.1)) λ n0 _.
    then-exact (λ e. e.row) (equation-exact z b) (λ r e _ f. ap (λ x. x.row) (sym f)) λ r _.
    nothing-exact (record { index = n0; row = r }))
    (λ _. refl)
    (λ e h. let f = (T-&& (small e.index) (row_right_of z e.row)).0 h.1 in ((judge_small-iff e.index).1 f.0, ((h.0, f.1, h.2), refl)))
    (λ e h. (h.1.0.0, (T-&& (small e.index) (row_right_of z e.row)).1 ((judge_small-iff e.index).0 h.0, h.1.0.1), h.1.0.2))
    (λ e _.
    line-space e.index (pos (length (terms_from z.l e.row.blocks))) _ ∙ ap (λ l. spaced e.index ++ l) (sym (append-nil _)))

pub relations-exact : (z : Sizes) → SizeBounds z → (k : ℕ)
    → Exact (read_relations z k) (λ es. (length es ≡ k) × All (RelationGood z) es)
    (λ es. flatten (map (λ e. line (relation_line z.l e)) es))
unfolding read_relations
relations-exact z b =
    many-exact (read_relation z) (read_relations z) (record { index = pos 0; row = no_row }) (λ _. refl) (λ _ _. refl) (relation-exact z b)

-- ---- the sizes

-- A number that may have one value only.
pub just : (n : ℕ) (v : ℤ) → between (pos n) (pos n) v ≡ 0 → v ≡ pos n
just n v e = let f = (between-iff (pos n) (pos n) v).0 e in ≤ℤ-antisym f.1 f.0

judge_lowest-iff : (l t : ℤ) → (judge_lowest_of l t ≡ 0) ↔ ((neg_ℤ (pos block_bound) ≤ℤ t) × (t ≤ℤ l) × ((l -ℤ t) ≤ℤ pos 4))
unfolding judge_lowest_of
judge_lowest-iff l t = (
  λ e. let h = simp (cond-zero-iff, T-&&) at e in (le_z_yes h.0.0.0, le_z_yes h.0.0.1, le_z_yes h.0.1),
  λ h. simp (cond-zero-iff, T-&&) (((h.0.le, h.1.le), h.2.le), refl),
)

-- The line of m, l and t, and that of the number of equations.
abbrev pub sizes_lines : Sizes → List ℕ
sizes_lines z = line (pos 3 ∷ pos z.m ∷ z.l ∷ z.t ∷ []) ++ line (pos (equations z) ∷ [])

pub sizes-exact : Exact read_sizes (λ z. T (sizes_right_of z)) sizes_lines
unfolding read_sizes line equations
sizes-exact =
    same-exact read_sizes (λ z. T (sizes_right_of z)) sizes_lines
    (then-exact (λ _. pos 3) (between-exact (pos 3) (pos 3) (always space) (le_z_yes tt) (le_z_yes tt) always-space)
    (λ k z hk e. just 3 k hk) λ _ _.
    then-exact (λ z. pos z.m) (between-exact (pos 1) (pos column_count) (always space) (le_z_yes tt) (le_z_yes tt) always-space)
    (λ m z hm e. positive-pos ((between-iff (pos 1) (pos column_count) m).0 hm).0 ∙ ap (λ x. pos x.m) (sym e.1.1.1)) λ m _.
    then-exact (λ z. z.l)
    (between-exact (neg_ℤ (pos block_bound)) (pos block_bound) (always space) (le_z_yes tt) (le_z_yes tt) always-space)
    (λ l z _ e. ap (λ x. x.l) (sym e.1.1)) λ l hl.
    then-exact (λ z. z.t) (field-exact (judge_lowest_of l) (always newline) (lowest-digits l hl) always-newline)
    (λ t z _ e. ap (λ x. x.t) (sym e.1)) λ t _.
    then-exact (λ z. pos (equations z))
    (between-exact (pos 0) (pos most_equations) (always newline) (le_z_yes tt) (le_z_yes tt) always-newline)
    (λ k z hk e. sym (pos-nat_abs-nonneg ((between-iff (pos 0) (pos most_equations) k).0 hk).0) ∙ ap (λ x. pos (equations x)) (sym e)) λ k _.
    nothing-exact (record { m = nat_abs m; equations = nat_abs k; l = l; t = t }))
    (λ _. refl) good best bytes
  where
    lowest-digits : (l : ℤ) → between (neg_ℤ (pos block_bound)) (pos block_bound) l ≡ 0 → (t : ℤ) → judge_lowest_of l t ≡ 0 → nat_abs t < 10 ^ 10
    lowest-digits l hl t e =
        let f = (judge_lowest-iff l t).0 e in
        let g = (between-iff (neg_ℤ (pos block_bound)) (pos block_bound) l).0 hl in
        range-digits (neg_ℤ (pos block_bound)) (pos block_bound) t (le_z_yes tt) (le_z_yes tt) f.0 (≤ℤ-trans f.1 g.1)

    Whole : Sizes → Type 0
    Whole z =
        (between (pos 3) (pos 3) (pos 3) ≡ 0)
        × ((between (pos 1) (pos column_count) (pos z.m) ≡ 0)
        × ((between (neg_ℤ (pos block_bound)) (pos block_bound) z.l ≡ 0)
        × ((judge_lowest_of z.l z.t ≡ 0) × ((between (pos 0) (pos most_equations) (pos (equations z)) ≡ 0) × (z ≡ z)))))

    good : (z : Sizes) → T (sizes_right_of z) → Whole z
    good z h =
        let b = size-bounds z h in (
          refl,
          (
            (between-iff (pos 1) (pos column_count) (pos z.m)).1 (pos-≤ℤ.1 b.some, pos-≤ℤ.1 b.few),
            (
              (between-iff (neg_ℤ (pos block_bound)) (pos block_bound) z.l).1 (≤ℤ-trans b.low b.ordered, b.high),
              (
                (judge_lowest-iff z.l z.t).1 (b.low, b.ordered, b.narrow),
                (
                  (between-iff (pos 0) (pos most_equations) (pos (equations z))).1 (pos-nonneg (equations z), pos-≤ℤ.1 b.few-equations),
                  refl,
                ),
              ),
            ),
          ),
        )

    best : (z : Sizes) → Whole z → T (sizes_right_of z)
    best z h =
        let m = (between-iff (pos 1) (pos column_count) (pos z.m)).0 h.1.0 in
        let l = (between-iff (neg_ℤ (pos block_bound)) (pos block_bound) z.l).0 h.1.1.0 in
        let t = (judge_lowest-iff z.l z.t).0 h.1.1.1.0 in
        let k = (between-iff (pos 0) (pos most_equations) (pos (equations z))).0 h.1.1.1.1.0 in
        bounds-right z
        (record {
          some = pos-≤ℤ.0 m.0;
          few = pos-≤ℤ.0 m.1;
          few-equations = pos-≤ℤ.0 k.1;
          low = t.0;
          ordered = t.1;
          high = l.1;
          narrow = t.2;
        })

    regroup : (a b c d e : List ℕ) → (a ++ (b ++ (c ++ d))) ++ e ≡ a ++ (b ++ (c ++ (d ++ (e ++ []))))
    regroup a b c d e = simp (append_assoc, append-nil)

    bytes : (z : Sizes) → Whole z → sizes_lines z
        ≡ spaced (pos 3) ++ (spaced (pos z.m) ++ (spaced z.l ++ (line (z.t ∷ []) ++ (line (pos (equations z) ∷ []) ++ []))))
    bytes z _ =
        ap (λ r. r ++ line (pos (equations z) ∷ []))
        (line-space (pos 3) (pos z.m) (z.l ∷ z.t ∷ [])
        ∙ ap (λ r. spaced (pos 3) ++ r) (line-space (pos z.m) z.l (z.t ∷ [])
        ∙ ap (λ r. spaced (pos z.m) ++ r) (line-space z.l z.t [])))
        ∙ regroup (spaced (pos 3)) (spaced (pos z.m)) (spaced z.l) (line (z.t ∷ [])) (line (pos (equations z) ∷ []))
