-- The systems K1 to K11 of known result, in one table, computed in the definitions (SCOPE 7.21).
--
-- Main definitions
--   Entry, Holds    a system with all that the scope says of it; the definitions give that
--   table           K1 to K11, with the second system of K10
-- Main statements
--   known           every entry of the table holds; K2 through the batch program; K1's condition of source paper 000
use Rattle.std.specs.Prelude.{ℕ, pred, ◌≡◌, refl, List, [], ◌∷◌, ◌++◌, map, replicate, ℤ, pos, negsuc, ◌+ℤ◌, ◌-ℤ◌, ◌*ℤ◌}
use Rattle.std.proofs.Common.{sym, ◌∙◌, ap}
use Rattle.std.proofs.Math.Option.{Option, none, some}
use Rattle.std.proofs.Math.IntN.{zero-*ℤ, +ℤ_idl, +ℤ_idr}
use Rattle.algebra.specs.Integers.{*ℤ-+ℤ, *ℤ-assoc}
use Rattle.algebra.specs.Polynomials.{Polynomial}
use Rattle.rules.specs.Rows.{Row, Relation}
use Rattle.lists.specs.Everywhere.{All}
use Rattle.rules.specs.Stores.{Sizes, span}
use Rattle.rules.specs.Sequences.{Sequence, value_of}
use Rattle.rules.specs.Elimination.{Side, leading, trailing, State, done, refused, whole_run_of, report, reported_times}
use Rattle.rules.specs.Sheets.{Term, row_of_terms}
use Rattle.rules.specs.Batch.{batch_output}
use Rattle.rules.specs.Opened.{opened}

-- An equation by its terms; columns are counted from 1, as in the scope.
abbrev pub Equation : Type 0
Equation = List Term

abbrev pub term : ℤ → ℕ → Polynomial → Term
term s c p = record { block = s; column = c; polynomial = p }

pub record Listed : Type 0 where
  pub index : ℤ
  pub equation : Equation

-- What the scope says of a system: rows, relations, order, shifts, root and how often it occurs, or a refusal.
pub data Expected : Type 0 where
  accepts : List Equation → List Listed → List ℕ → ℕ → Option ℤ → ℕ → Expected
  refuses : ℕ → Expected

pub record Entry : Type 0 where
  pub side : Side
  pub sizes : Sizes
  pub equations : List Equation
  pub expected : Expected

abbrev pub the_sizes_of : ℕ → ℕ → ℤ → ℤ → Sizes
the_sizes_of m equations l t = record { m = m; equations = equations; l = l; t = t }

abbrev pub rows_of_equations : ℤ → List Equation → List Row
rows_of_equations l es = map (row_of_terms l) es

abbrev pub relations_of_listed : ℤ → List Listed → List Relation
relations_of_listed l es = map (λ e. record { index = e.index; row = row_of_terms l e.equation }) es

abbrev pub HoldsAs : Side → Sizes → List Equation → Expected → Type 0
HoldsAs side z es (accepts rows relations order shifts root times) =
    let s : State = record
    { rows = rows_of_equations z.l rows; relations = relations_of_listed z.l relations; order = map pred order; shifts = shifts } in
    (whole_run_of side (span z) (rows_of_equations z.l es) [] ≡ done s) × (report side (span z) s ≡ root)
    × (reported_times side (span z) s root ≡ times)
HoldsAs side z es (refuses n) = whole_run_of side (span z) (rows_of_equations z.l es) [] ≡ refused n

abbrev pub Holds : Entry → Type 0
Holds e = HoldsAs e.side e.sizes e.equations e.expected

-- K1: (n - 1) x(n) - y(n - 3) and -2 x(n) + (n - 2) y(n - 1) come out as -2 x(n) + (n - 2) y(n - 1) and
-- n (n - 1) y(n) - 2 y(n - 2) after one shift, with order 1 2, no relation and greatest root 1 (SCOPE 7.1).
abbrev pub k1-first : Equation
k1-first = term (pos 0) 1 (negsuc 1 ∷ []) ∷ term (negsuc 0) 2 (negsuc 1 ∷ pos 1 ∷ []) ∷ []

abbrev pub k1 : Entry
k1 =
    record {
      side = leading;
      sizes = the_sizes_of 2 2 (pos 0) (negsuc 2);
      equations = (term (pos 0) 1 (negsuc 0 ∷ pos 1 ∷ []) ∷ term (negsuc 2) 2 (negsuc 0 ∷ []) ∷ []) ∷ k1-first ∷ [];
      expected =
          accepts
          (k1-first ∷ (term (pos 0) 2 (pos 0 ∷ negsuc 0 ∷ pos 1 ∷ []) ∷ term (negsuc 1) 2 (negsuc 1 ∷ []) ∷ []) ∷ [])
          []
          (1 ∷ 2 ∷ []) 1 (some (pos 1)) 1;
    }

-- K2: n x(n + 1) - y(n) and x(n + 1) - x(n) come out as the second sheet says, after one shift, with greatest root 0
-- (SCOPE 7.2).
abbrev k2-first : Equation
k2-first = term (pos 1) 1 (pos 0 ∷ pos 1 ∷ []) ∷ term (pos 0) 2 (negsuc 0 ∷ []) ∷ []

abbrev k2-second : Equation
k2-second = term (pos 1) 1 (pos 1 ∷ []) ∷ term (pos 0) 1 (negsuc 0 ∷ []) ∷ []

abbrev pub k2 : Entry
k2 =
    record {
      side = leading;
      sizes = the_sizes_of 2 2 (pos 1) (pos 0);
      equations = k2-first ∷ k2-second ∷ [];
      expected =
          accepts
          ((term (pos 1) 1 (negsuc 0 ∷ negsuc 0 ∷ []) ∷ term (pos 1) 2 (pos 1 ∷ []) ∷ [])
          ∷ (term (pos 1) 2 (pos 0 ∷ pos 1 ∷ []) ∷ term (pos 0) 2 (negsuc 0 ∷ negsuc 0 ∷ []) ∷ []) ∷ [])
          (record { index = pos 0; equation = k2-second } ∷ record { index = negsuc 0; equation = k2-first } ∷ [])
          (1 ∷ 2 ∷ []) 1 (some (pos 0)) 1;
    }

-- K3: m = 1, (n - 3) x(n + 1) - x(n) stays as it is, with greatest root 3 (SCOPE 7.3).
abbrev k3-only : Equation
k3-only = term (pos 1) 1 (negsuc 2 ∷ pos 1 ∷ []) ∷ term (pos 0) 1 (negsuc 0 ∷ []) ∷ []

abbrev pub k3 : Entry
k3 =
    record {
      side = leading;
      sizes = the_sizes_of 1 1 (pos 1) (pos 0);
      equations = k3-only ∷ [];
      expected = accepts (k3-only ∷ []) [] (1 ∷ []) 0 (some (pos 3)) 1;
    }

-- K4: m = 1, the zero row is dropped, and the rank is 0 (SCOPE 7.4).
abbrev pub k4 : Entry
k4 =
    record { side = leading; sizes = the_sizes_of 1 1 (pos 0) (pos 0); equations = [] ∷ []; expected = accepts [] [] [] 0 none 0 }

-- K5: of x(n + 1) + y(n), two times, one is kept, and the rank is 1 (SCOPE 7.5).
abbrev k5-twice : Equation
k5-twice = term (pos 1) 1 (pos 1 ∷ []) ∷ term (pos 0) 2 (pos 1 ∷ []) ∷ []

abbrev pub k5 : Entry
k5 =
    record { side = leading; sizes = the_sizes_of 2 2 (pos 1) (pos 0); equations = k5-twice ∷ k5-twice ∷ []; expected = accepts (k5-twice ∷ []) [] (1 ∷ []) 0 none 0 }

-- K6: m = 1, l = 4, t = 0: x(n) alone comes out as x(n + 4) after four shifts (SCOPE 7.6).
abbrev pub k6 : Entry
k6 =
    record {
      side = leading;
      sizes = the_sizes_of 1 1 (pos 4) (pos 0);
      equations = (term (pos 0) 1 (pos 1 ∷ []) ∷ []) ∷ [];
      expected = accepts ((term (pos 4) 1 (pos 1 ∷ []) ∷ []) ∷ []) [] (1 ∷ []) 4 none 0;
    }

-- K7: D = 0, n^14 x + y and n x + n y are accepted; the second row is n^14 y - y, and the relation at 0 stays (SCOPE 7.7).
abbrev power : ℕ → Polynomial
power k = replicate k (pos 0) ++ (pos 1 ∷ [])

abbrev k7-first : ℕ → Equation
k7-first k = term (pos 0) 1 (power k) ∷ term (pos 0) 2 (pos 1 ∷ []) ∷ []

abbrev k7-second : Equation
k7-second = term (pos 0) 1 (power 1) ∷ term (pos 0) 2 (power 1) ∷ []

abbrev pub k7 : Entry
k7 =
    record {
      side = leading;
      sizes = the_sizes_of 2 2 (pos 0) (pos 0);
      equations = k7-first 14 ∷ k7-second ∷ [];
      expected =
          accepts
          (k7-first 14 ∷ (term (pos 0) 2 (negsuc 0 ∷ power 13) ∷ []) ∷ [])
          (record { index = pos 0; equation = k7-second } ∷ [])
          (1 ∷ 2 ∷ []) 0 (some (pos 1)) 1;
    }

-- K8: with n^15 for n^14 the second row is n^15 y - y (SCOPE 7.8).
abbrev pub k8 : Entry
k8 =
    record {
      side = leading;
      sizes = the_sizes_of 2 2 (pos 0) (pos 0);
      equations = k7-first 15 ∷ k7-second ∷ [];
      expected =
          accepts
          (k7-first 15 ∷ (term (pos 0) 2 (negsuc 0 ∷ power 14) ∷ []) ∷ [])
          (record { index = pos 0; equation = k7-second } ∷ [])
          (1 ∷ 2 ∷ []) 0 (some (pos 1)) 1;
    }

-- K9: D = 0, 10,000 x + y and x + (20,000 n + 1) y are accepted (SCOPE 7.9).
abbrev k9-first : ℕ → Equation
k9-first a = term (pos 0) 1 (pos a ∷ []) ∷ term (pos 0) 2 (pos 1 ∷ []) ∷ []

abbrev k9-second : Polynomial → Equation
k9-second p = term (pos 0) 1 (pos 1 ∷ []) ∷ term (pos 0) 2 p ∷ []

abbrev pub k9 : Entry
k9 =
    record {
      side = leading;
      sizes = the_sizes_of 2 2 (pos 0) (pos 0);
      equations = k9-first 10000 ∷ k9-second (pos 1 ∷ pos 20000 ∷ []) ∷ [];
      expected = accepts (k9-first 10000 ∷ (term (pos 0) 2 (pos 9999 ∷ pos 200000000 ∷ []) ∷ []) ∷ []) [] (1 ∷ 2 ∷ []) 0 none 0;
    }

-- K10: with 20,000 x for 10,000 x the system is refused with 8; 20,000 x + y and x + 20,000 y are accepted, and y is
-- the second row (SCOPE 7.10).
abbrev pub k10 : Entry
k10 =
    record {
      side = leading;
      sizes = the_sizes_of 2 2 (pos 0) (pos 0);
      equations = k9-first 20000 ∷ k9-second (pos 1 ∷ pos 20000 ∷ []) ∷ [];
      expected = refuses 8;
    }

abbrev pub k10-divided : Entry
k10-divided =
    record {
      side = leading;
      sizes = the_sizes_of 2 2 (pos 0) (pos 0);
      equations = k9-first 20000 ∷ k9-second (pos 20000 ∷ []) ∷ [];
      expected = accepts (k9-first 20000 ∷ (term (pos 0) 2 (pos 1 ∷ []) ∷ []) ∷ []) [] (1 ∷ 2 ∷ []) 0 none 0;
    }

-- K11: on the trailing side, with l = 1 and t = 0, n x(n + 1) comes out as (n - 1) x(n) after one shift, with least
-- root 1 (SCOPE 7.11).
abbrev pub k11 : Entry
k11 =
    record {
      side = trailing;
      sizes = the_sizes_of 1 1 (pos 1) (pos 0);
      equations = (term (pos 1) 1 (pos 0 ∷ pos 1 ∷ []) ∷ []) ∷ [];
      expected = accepts ((term (pos 0) 1 (negsuc 0 ∷ pos 1 ∷ []) ∷ []) ∷ []) [] (1 ∷ []) 1 (some (pos 1)) 1;
    }

abbrev pub table : List Entry
table = k1 ∷ k2 ∷ k3 ∷ k4 ∷ k5 ∷ k6 ∷ k7 ∷ k8 ∷ k9 ∷ k10 ∷ k10-divided ∷ k11 ∷ []

k1-holds : Holds k1
unfolding opened
k1-holds = (refl, refl, refl)

k2-holds : Holds k2
unfolding opened
k2-holds = (refl, refl, refl)

k3-holds : Holds k3
unfolding opened
k3-holds = (refl, refl, refl)

k4-holds : Holds k4
unfolding opened
k4-holds = (refl, refl, refl)

k5-holds : Holds k5
unfolding opened
k5-holds = (refl, refl, refl)

k6-holds : Holds k6
unfolding opened
k6-holds = (refl, refl, refl)

k7-holds : Holds k7
unfolding opened
k7-holds = (refl, refl, refl)

k8-holds : Holds k8
unfolding opened
k8-holds = (refl, refl, refl)

k9-holds : Holds k9
unfolding opened
k9-holds = (refl, refl, refl)

k10-holds : Holds k10
unfolding opened
k10-holds = refl

k10-divided-holds : Holds k10-divided
unfolding opened
k10-divided-holds = (refl, refl, refl)

k11-holds : Holds k11
unfolding opened
k11-holds = (refl, refl, refl)

-- K2 as a batch: the lines `1` and `1 54` and the first sheet; what is printed is `0`, the second sheet, `1 0` for client 1
-- and `0 0` for each of the others (SCOPE 5.12, 7.2).
abbrev pub k2-input : List ℕ
k2-input =
    49 ∷ 10 ∷
    49 ∷ 32 ∷ 53 ∷ 52 ∷ 10 ∷
    51 ∷ 32 ∷ 50 ∷ 32 ∷ 49 ∷ 32 ∷ 48 ∷ 10 ∷
    50 ∷ 10 ∷
    50 ∷ 32 ∷ 49 ∷ 32 ∷ 49 ∷ 32 ∷ 50 ∷ 32 ∷ 48 ∷ 32 ∷ 49 ∷ 32 ∷ 48 ∷ 32 ∷ 50 ∷ 32 ∷ 49 ∷ 32 ∷ 45 ∷ 49 ∷ 10 ∷
    50 ∷ 32 ∷ 49 ∷ 32 ∷ 49 ∷ 32 ∷ 49 ∷ 32 ∷ 49 ∷ 32 ∷ 48 ∷ 32 ∷ 49 ∷ 32 ∷ 49 ∷ 32 ∷ 45 ∷ 49 ∷ 10 ∷
    48 ∷ 10 ∷
    48 ∷ 10 ∷ []

abbrev pub k2-output : List ℕ
k2-output =
    48 ∷ 10 ∷
    51 ∷ 32 ∷ 50 ∷ 32 ∷ 49 ∷ 32 ∷ 48 ∷ 10 ∷
    50 ∷ 10 ∷
    50 ∷ 32 ∷ 49 ∷ 32 ∷ 49 ∷ 32 ∷ 50 ∷ 32 ∷ 45 ∷ 49 ∷ 32 ∷ 45 ∷ 49 ∷ 32 ∷ 49 ∷ 32 ∷ 50 ∷ 32 ∷ 49 ∷ 32 ∷ 49 ∷ 10 ∷
    50 ∷ 32 ∷ 49 ∷ 32 ∷ 50 ∷ 32 ∷ 50 ∷ 32 ∷ 48 ∷ 32 ∷ 49 ∷ 32 ∷ 48 ∷ 32 ∷ 50 ∷ 32 ∷ 50 ∷ 32 ∷ 45 ∷ 49 ∷ 32 ∷ 45 ∷ 49 ∷ 10 ∷
    50 ∷ 10 ∷
    48 ∷ 32 ∷ 50 ∷ 32 ∷ 49 ∷ 32 ∷ 49 ∷ 32 ∷ 49 ∷ 32 ∷ 49 ∷ 32 ∷ 48 ∷ 32 ∷ 49 ∷ 32 ∷ 49 ∷ 32 ∷ 45 ∷ 49 ∷ 10 ∷
    45 ∷ 49 ∷ 32 ∷ 50 ∷ 32 ∷ 49 ∷ 32 ∷ 49 ∷ 32 ∷ 50 ∷ 32 ∷ 48 ∷ 32 ∷ 49 ∷ 32 ∷ 48 ∷ 32 ∷ 50 ∷ 32 ∷ 49 ∷ 32 ∷ 45 ∷ 49 ∷ 10 ∷
    50 ∷ 32 ∷ 49 ∷ 32 ∷ 50 ∷ 10 ∷
    49 ∷ 32 ∷ 48 ∷ 10 ∷
    48 ∷ 32 ∷ 48 ∷ 10 ∷
    48 ∷ 32 ∷ 48 ∷ 10 ∷
    48 ∷ 32 ∷ 48 ∷ 10 ∷
    48 ∷ 32 ∷ 48 ∷ 10 ∷
    48 ∷ 32 ∷ 48 ∷ 10 ∷
    48 ∷ 32 ∷ 48 ∷ 10 ∷
    48 ∷ 32 ∷ 48 ∷ 10 ∷ []

k2-printed : batch_output k2-input ≡ k2-output
unfolding opened
k2-printed = refl

-- The sum over the four columns of a block of a row with constant coefficients.
abbrev four : (ℕ → ℤ) → ℤ → ℤ → ℤ
four v a b = a *ℤ v 0 +ℤ (b *ℤ v 1 +ℤ (pos 0 *ℤ v 2 +ℤ (pos 0 *ℤ v 3 +ℤ pos 0)))

k1-value : (z : Sequence) → value_of (pos 0) (row_of_terms (pos 0) k1-first) z (pos 1)
    ≡ (four (z (pos 1)) (negsuc 1) (pos 0) +ℤ (four (z (pos 0)) (pos 0) (negsuc 0) +ℤ (four (z (negsuc 0)) (pos 0) (pos 0)
    +ℤ (four (z (negsuc 1)) (pos 0) (pos 0) +ℤ (four (z (negsuc 2)) (pos 0) (pos 0) +ℤ pos 0))))) -ℤ pos 0
unfolding opened
k1-value z = refl

paper-sum : (x y : ℤ) → negsuc 1 *ℤ x +ℤ negsuc 0 *ℤ y ≡ negsuc 0 *ℤ (pos 2 *ℤ x +ℤ y)
paper-sum x y =
    sym (*ℤ-+ℤ (negsuc 0) (pos 2 *ℤ x) y ∙ ap (λ a. a +ℤ negsuc 0 *ℤ y) (sym (*ℤ-assoc (negsuc 0) (pos 2) x)))

-- The condition 2 x(1) + y(0) = 0 that source paper 000 adds is the first output row of K1 at n = 1 (SCOPE 7.1).
abbrev pub Paper : Type 0
Paper = (z : Sequence) → value_of (pos 0) (row_of_terms (pos 0) k1-first) z (pos 1) ≡ negsuc 0 *ℤ (pos 2 *ℤ z (pos 1) 0 +ℤ z (pos 0) 1)

k1-paper : Paper
k1-paper z =
    k1-value z ∙ simp (zero-*ℤ, +ℤ_idl, +ℤ_idr) (paper-sum (z (pos 1) 0) (z (pos 0) 1))

pub record Known : Type 0 where
  pub entries : All Holds table
  pub printed : batch_output k2-input ≡ k2-output
  pub paper : Paper

pub known : Known
unfolding All
known =
    record {
      entries = (
        k1-holds,
        (
          k2-holds,
          (
            k3-holds,
            (k4-holds, (k5-holds, (k6-holds, (k7-holds, (k8-holds, (k9-holds, (k10-holds, (k10-divided-holds, (k11-holds, tt))))))))),
          ),
        ),
      );
      printed = k2-printed;
      paper = k1-paper;
    }
