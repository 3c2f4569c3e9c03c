-- The order in which a run lists its relations, as the caller has them: those of one multiplier stand together, and their n0
-- ascend (SCOPE 2.33).
--
-- Main definitions
--   OneMultiplier group     one row at each integer root of one multiplier, by ascending n0
--   Listed more             a list made of such groups, one behind the other
--
-- Main statements
--   leading-listed, trailing-listed   what a run adds is such a list, on the trailing side mirrored back
use Rattle.std.specs.Prelude.{ℕ, ◌≡◌, ◌↔◌, not, T, ℤ, pos, ◌<ℤ◌}
use Rattle.std.proofs.Math.Path.{refl, ap}
use Rattle.std.proofs.Common.{sym, ◌∙◌, ap₂, subst}
use Rattle.std.proofs.Math.Logic.{∥∥₁_elim}
use mathlib.Core.List.{List, [], ◌∷◌, ◌++◌, map, flatten, reverse, append-nil, append_assoc, Mem}
use mathlib.Core.List.Pairwise
use mathlib.Core.List.{mem-reverse, mem-map_of_mem, exists_of_mem-map, Pairwise, Pairwise-map, Pairwise-reverse}
use Rattle.std.proofs.Math.IntN.{neg_ℤ, neg_ℤ-neg_ℤ, ℤ_set}
use Rattle.algebra.specs.Order.{neg_ℤ-<ℤ, <ℤ_prop}
use Rattle.algebra.specs.Polynomials.{Polynomial, eval, is_zero_of, mirror, eval-mirror}
use Rattle.algebra.specs.Roots.{roots, roots-sound, roots-complete, roots-ascending}
use Rattle.rules.specs.Rows.{Row, Relation, mirror_row_of, mirror_relation}
use Rattle.rules.specs.Elimination.{Side, leading, trailing, State, listing, root_relations, row_at, put_row, settle, count_shift, drop_row}
use Rattle.lists.specs.Joined.{flatten-append, flatten-map}
use Rattle.lists.specs.Everywhere.{All, append-all, map-keeps, all-mono}
use Rattle.theory.specs.Steps.{Stepped, combined, settled, shifted, dropped, Chain, here, next, current, exchanged}
use Rattle.theory.specs.Steps.{multipliers_for, listed-relations}
use Rattle.theory.specs.Triangular.{Triangular, triangular-chain, multipliers_for-nonzero}

-- One row, once at each integer root of one polynomial, by strictly ascending n0; none where it has no root.
pub record OneMultiplier (group : List Relation) : Type 0 where
  pub multiplier : Polynomial
  pub row : Row
  pub places : List ℤ
  pub listed : group ≡ map (λ n0. record { index = n0; row = row }) places
  pub ascending : Pairwise ◌<ℤ◌ places
  pub all-roots : (n : ℤ) → Mem n places ↔ (eval multiplier n ≡ pos 0)

pub record Listed (more : List Relation) : Type 0 where
  pub groups : List (List Relation)
  pub together : more ≡ flatten groups
  pub each : All OneMultiplier groups

-- ---- the relations of one combination

module _ (g : Polynomial) (nonzero : T (not (is_zero_of g))) (r : Row) where
  leading-group : OneMultiplier (root_relations leading g r)
  unfolding root_relations listing
  leading-group =
      record {
        multiplier = g;
        row = r;
        places = roots g;
        listed = refl;
        ascending = roots-ascending g nonzero;
        all-roots = λ n. (λ m. roots-sound g m, λ e. roots-complete g n nonzero e);
      }

  -- On the trailing side the mirrored run takes the roots from the largest down, so that they ascend as given back.
  trailing-group : (D : ℕ) → OneMultiplier (map (mirror_relation D) (root_relations trailing g r))
  unfolding root_relations listing mirror_relation
  trailing-group D =
      record {
        multiplier = mirror g;
        row = mirror_row_of D r;
        places = map neg_ℤ (reverse (roots g));
        listed = same (reverse (roots g));
        ascending = (Pairwise-map <ℤ_prop neg_ℤ).1
            ((Pairwise-reverse (λ a b. <ℤ_prop (neg_ℤ a) (neg_ℤ b))).1 (Pairwise.imp (λ a b h. neg_ℤ-<ℤ.0 h) (roots-ascending g nonzero)));
        all-roots = λ n. (forth n, back n);
      }
    where
      same : (l : List ℤ) → map (mirror_relation D) (map (λ n0. record { index = n0; row = r }) l)
          ≡ map (λ n0. record { index = n0; row = mirror_row_of D r }) (map neg_ℤ l)
      same [] = refl
      same (n ∷ l) = ap (λ rest. record { index = neg_ℤ n; row = mirror_row_of D r } ∷ rest) (same l)

      forth : (n : ℤ) → Mem n (map neg_ℤ (reverse (roots g))) → eval (mirror g) n ≡ pos 0
      forth n m =
          eval-mirror g n
          ∙ ∥∥₁_elim (exists_of_mem-map {f = neg_ℤ} {l = reverse (roots g)} m) (ℤ_set (eval g (neg_ℤ n)) (pos 0))
          (λ t. ap (λ x. eval g (neg_ℤ x)) (sym t.2) ∙ ap (eval g) (neg_ℤ-neg_ℤ t.0) ∙ roots-sound g (mem-reverse.0 t.1))

      back : (n : ℤ) → eval (mirror g) n ≡ pos 0 → Mem n (map neg_ℤ (reverse (roots g)))
      back n e =
          subst (λ x. Mem x (map neg_ℤ (reverse (roots g)))) (neg_ℤ-neg_ℤ n)
          (mem-map_of_mem neg_ℤ (mem-reverse.1 (roots-complete g (neg_ℤ n) nonzero (sym (eval-mirror g n) ∙ e))))

-- ---- a whole run

-- The groups that a chain of steps adds, each given by what one combination lists.
record Added (side : Side) (more : List Relation) : Type 0 where
  groups : List (List Relation)
  together : more ≡ flatten groups
  each : All (λ l. (g : Polynomial) × T (not (is_zero_of g)) × (r : Row) × (l ≡ root_relations side g r)) groups

stepped-added : {side : Side} {s v : State} → Triangular s → Stepped side s v → (more : List Relation)
    × (v.relations ≡ s.relations ++ more) × Added side more
unfolding put_row settle count_shift drop_row All flatten
stepped-added {side} {s} t (combined j before below nonzero clear meets few r e) =
    let g = (multipliers_for s j).g in
    let row = row_at (exchanged s j) (current s) in (
      root_relations side g row,
      listed-relations side s j,
      record {
        groups = root_relations side g row ∷ [];
        together = sym (append-nil (root_relations side g row));
        each = ((g, multipliers_for-nonzero s j t before below clear meets, row, refl), tt);
      },
    )
stepped-added {s} t (settled c below nonzero clear e) =
    ([], sym (append-nil s.relations), record { groups = []; together = refl; each = tt })
stepped-added {s} t (shifted r below nonzero clear f e) =
    ([], sym (append-nil s.relations), record { groups = []; together = refl; each = tt })
stepped-added {s} t (dropped below zeros) =
    ([], sym (append-nil s.relations), record { groups = []; together = refl; each = tt })

chain-added : {side : Side} {s v : State} {k : ℕ} → Triangular s → Chain side s k v → (more : List Relation)
    × (v.relations ≡ s.relations ++ more) × Added side more
unfolding All flatten
chain-added {s} t here = ([], sym (append-nil s.relations), record { groups = []; together = refl; each = tt })
chain-added {side} {s} t (next {u} c step) =
    let (first, e, a) = chain-added t c in
    let (second, f, b) = stepped-added (triangular-chain c t) step in (
      first ++ second,
      f ∙ ap (λ l. l ++ second) e ∙ append_assoc s.relations first second,
      record {
        groups = a.groups ++ b.groups;
        together = ap₂ ◌++◌ a.together b.together ∙ sym (flatten-append a.groups b.groups);
        each = append-all _ a.groups b.groups a.each b.each;
      },
    )

pub leading-listed : {s v : State} {k : ℕ} → Triangular s → Chain leading s k v
    → (more : List Relation) × (v.relations ≡ s.relations ++ more) × Listed more
leading-listed t c =
    let (more, e, a) = chain-added t c in (
      more,
      e,
      record {
        groups = a.groups;
        together = a.together;
        each = all-mono _ OneMultiplier (λ l h. subst OneMultiplier (sym h.3) (leading-group h.0 h.1 h.2)) a.groups a.each;
      },
    )

-- The relations that the mirrored run adds, mirrored back.
pub trailing-listed : (D : ℕ) {s v : State} {k : ℕ} → Triangular s → Chain trailing s k v
    → (more : List Relation) × (v.relations ≡ s.relations ++ more) × Listed (map (mirror_relation D) more)
trailing-listed D t c =
    let (more, e, a) = chain-added t c in (
      more,
      e,
      record {
        groups = map (map (mirror_relation D)) a.groups;
        together = ap (map (mirror_relation D)) a.together ∙ sym (flatten-map (mirror_relation D) a.groups);
        each = map-keeps _ OneMultiplier (map (mirror_relation D))
            (λ l h. subst (λ x. OneMultiplier (map (mirror_relation D) x)) (sym h.3) (trailing-group h.0 h.1 h.2 D))
            a.groups a.each;
      },
    )
