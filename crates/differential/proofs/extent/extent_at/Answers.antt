-- `differential::extent::extent_at` meets its contract: the number of unknowns, then the two limits, and the number of equations.
-- Assumes nothing.
use Rattle.std.proofs.Common.{rules, ◌≡◌, ◌∙◌, List, ℕ, ℤ, pos, drop, w64, FitsSigned}
use mir.Facts.{to_z-of_z, Fits-nat_abs}
use Rattle.rules.specs.Numbers.{got, field, between}
use Rattle.rules.specs.Sheets.{always}
use Rattle.tokens.specs.Fields.{read-err, read-ok, read-within, fails-on, reads, then-got, then-fault, field-judged, between-zero}
use Rattle.reading.specs.WholeSheet.{read_unknowns, unknowns-right}
use Rattle.differential.specs.Grammar.{read_extent}
use Rattle.differential.specs.Read.{extent_of}
use Rattle.differential.specs.Extents.{count_then, degree_then, order_then, extent-is}
use Rattle.differential.proofs.extent.extent_at.Goals as goal
use Rattle.differential.proofs.extent.extent_at.Goals.{In_ok-m, In_ok-k, In_ok-j, In_ok-n}

pub returns-in_err-m : goal.returns-in_err-m
returns-in_err-m c =
    fails-on _ c.in_err-m.field-0.0 c.from_residual.ensures.1 (extent-is _ ∙ then-fault _ (read-err c.in_err-m.ensures))

-- The number of unknowns, as it was read, and what is read after it.
module _ (c : In_ok-m) where
  abbrev lent : List ℕ
  lent = c.args.bytes.now

  abbrev m : ℤ
  m = c.in_ok-m.m.value

  m-read : read_unknowns lent ≡ got m (drop c.in_ok-m.m.at lent)
  m-read = read-ok c.in_ok-m.ensures

  m-then : read_extent lent ≡ order_then m (drop c.in_ok-m.m.at lent)
  m-then = extent-is _ ∙ then-got _ m-read

pub number_between-requires : goal.number_between-requires
number_between-requires c = read-within c.in_ok-m.ensures

pub returns-in_err-k : goal.returns-in_err-k
unfolding order_then
returns-in_err-k c =
    fails-on _ c.in_err-k.field-0.0 c.from_residual-in_err-k.ensures.1
    (m-then (goal.at.returns-in_err-k c).In_ok-m ∙ then-fault _ (read-err c.in_err-k.ensures))

-- The highest derivative.
module _ (c : In_ok-k) where
  abbrev else1 : In_ok-m
  else1 = (goal.at.In_ok-k c).In_ok-m

  abbrev k : ℤ
  k = c.in_ok-k.k.value

  k-read : field (between (pos 0) (pos 2)) (always 32) (drop else1.in_ok-m.m.at (lent else1)) ≡ got k (drop c.in_ok-k.k.at (lent else1))
  k-read = read-ok c.in_ok-k.ensures

  k-then : read_extent (lent else1) ≡ degree_then (m else1) k (drop c.in_ok-k.k.at (lent else1))
  unfolding order_then
  k-then = m-then else1 ∙ then-got _ k-read

pub number_between-requires-2 : goal.number_between-requires-2
number_between-requires-2 c = read-within c.in_ok-k.ensures

pub returns-in_err-j : goal.returns-in_err-j
unfolding degree_then
returns-in_err-j c =
    fails-on _ c.in_err-j.field-0.0 c.from_residual-in_err-j.ensures.1
    (k-then (goal.at.returns-in_err-j c).In_ok-k ∙ then-fault _ (read-err c.in_err-j.ensures))

-- The highest power.
module _ (c : In_ok-j) where
  abbrev else2 : In_ok-k
  else2 = (goal.at.In_ok-j c).In_ok-k

  abbrev j : ℤ
  j = c.in_ok-j.j.value

  j-read : field (between (pos 0) (pos 2)) (always 10) (drop else2.in_ok-k.k.at (lent (else1 else2)))
      ≡ got j (drop c.in_ok-j.j.at (lent (else1 else2)))
  j-read = read-ok c.in_ok-j.ensures

  j-then : read_extent (lent (else1 else2)) ≡ count_then (m (else1 else2)) (k else2) j (drop c.in_ok-j.j.at (lent (else1 else2)))
  unfolding degree_then
  j-then = k-then else2 ∙ then-got _ j-read

pub number_between-requires-3 : goal.number_between-requires-3
number_between-requires-3 c = read-within c.in_ok-j.ensures

pub returns-in_err-n : goal.returns-in_err-n
unfolding count_then
returns-in_err-n c =
    fails-on _ c.in_err-n.field-0.0 c.from_residual-in_err-n.ensures.1
    (j-then (goal.at.returns-in_err-n c).In_ok-j ∙ then-fault _ (read-err c.in_err-n.ensures))

-- The number of equations.
module _ (c : In_ok-n) where
  abbrev else3 : In_ok-j
  else3 = (goal.at.In_ok-n c).In_ok-j

  abbrev n : ℤ
  n = c.in_ok-n.n.value

  n-read : field (between (pos 0) (pos 6)) (always 10) (drop else3.in_ok-j.j.at (lent (else1 (else2 else3))))
      ≡ got n (drop c.in_ok-n.n.at (lent (else1 (else2 else3))))
  n-read = read-ok c.in_ok-n.ensures

pub overflow_cast-result : goal.overflow_cast-result
overflow_cast-result c =
    let fits : FitsSigned w64 c.in_ok-m.m.value = search rules in
    rw (to_z-of_z {w = w64} fits) ((unknowns-right _ _ _ (m-read (goal.at.overflow_cast-result c).In_ok-m)).0, Fits-nat_abs tt fits)

pub overflow_cast-result-2 : goal.overflow_cast-result-2
overflow_cast-result-2 c =
    let fits : FitsSigned w64 c.in_ok-k.k.value = search rules in
    rw (to_z-of_z {w = w64} fits)
    ((between-zero 0 2 _ (field-judged _ (always 32) _ (k-read (goal.at.overflow_cast-result-2 c).In_ok-k))).0, Fits-nat_abs tt fits)

pub overflow_cast-result-3 : goal.overflow_cast-result-3
overflow_cast-result-3 c =
    let fits : FitsSigned w64 c.in_ok-j.j.value = search rules in
    rw (to_z-of_z {w = w64} fits)
    ((between-zero 0 2 _ (field-judged _ (always 10) _ (j-read (goal.at.overflow_cast-result-3 c).In_ok-j))).0, Fits-nat_abs tt fits)

pub overflow_cast-result-4 : goal.overflow_cast-result-4
overflow_cast-result-4 c =
    let fits : FitsSigned w64 c.in_ok-n.n.value = search rules in
    rw (to_z-of_z {w = w64} fits)
    ((between-zero 0 6 _ (field-judged _ (always 10) _ (n-read (goal.at.overflow_cast-result-4 c).In_ok-n))).0, Fits-nat_abs tt fits)

pub returns : goal.returns
unfolding count_then extent_of
returns c =
    let m-fits : FitsSigned w64 c.in_ok-m.m.value = search rules in
    let k-fits : FitsSigned w64 c.in_ok-k.k.value = search rules in
    let j-fits : FitsSigned w64 c.in_ok-j.j.value = search rules in
    let n-fits : FitsSigned w64 c.in_ok-n.n.value = search rules in
    reads (simp (to_z-of_z {w = w64} m-fits, to_z-of_z {w = w64} k-fits, to_z-of_z {w = w64} j-fits, to_z-of_z {w = w64} n-fits))
    (j-then (goal.at.returns c).In_ok-j ∙ then-got _ (n-read (goal.at.returns c).In_ok-n)) (read-within c.in_ok-n.ensures)
