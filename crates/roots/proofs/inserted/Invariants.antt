-- `roots::inserted` meets its contract. The invariant, `Inserting`: the first i values, followed by the insertion of x
-- among the values from i to n, are the whole; the places from n on are still 0. The measure is n - i.
-- Assumes nothing.
use mathlib.Core.Path.{◌≡◌}
use mathlib.Core.List.{List, ◌++◌}
use Prim.Native.Nat.{ℕ, ◌-◌, ◌≤◌}
use lib.IntN.{ℤ, pos}
use lib.ListN.{length, take, drop, replicate}
use lib.Seq.{slice}
use Rattle.roots.specs.Ascending.{insert}
use Rattle.roots.proofs.inserted.Given as goal

pub record Inserting (n : ℕ) (whole v : List ℤ) (x : ℤ) (i : ℕ) : Type 0 where
  pub within : (i ≤ n) × (n ≤ 16)
  pub size : length v ≡ 16
  pub split : take i v ++ insert x (slice i n v) ≡ whole
  pub zeros : drop n v ≡ replicate (16 - n) (pos 0)

abbrev pub invariant-loop-i : goal.invariant-loop-i
invariant-loop-i l = Inserting l.n (insert l.r (take l.n l.initial.v)) l.v l.x l.i
