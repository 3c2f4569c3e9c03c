-- `combinations::put_low` meets its contract. Where no power past 15 can be, both products are added to the zeros that are there.
-- Assumes nothing.
use mathlib.Core.Path.{◌≡◌, sym, ◌∙◌, ap, subst}
use mathlib.Core.Bool.{Bool, true, false, not}
use mathlib.Core.List.{List}
use Prim.Native.Nat.{ℕ, ◌+◌, ◌*◌}
use native.Mathlib.Omega.{arith}
use lib.IntN.{ℤ, pos, nat_abs, ◌+ℤ◌, +ℤ_idl}
use lib.ListN.{length, take, replicate, length-replicate}
use lib.Seq.{take_all, ext_get_or}
use Rattle.algebra.specs.Integers.{nat_abs-+ℤ}
use Rattle.algebra.specs.Polynomials.{Polynomial, coeff, add, mul, is_zero_of, is_zero_ℤ, is_zero-coeff}
use Rattle.algebra.specs.Coefficients.{coeff-add}
use Rattle.polynomials.specs.Content.{Below}
use Rattle.products.specs.Product.{product-size}
use Rattle.rules.specs.Limits.{bound, coefficient_count}
use Rattle.combinations.specs.Combination.{low_part_of, length-low_part, low_part-at, high-free}
use Rattle.combinations.proofs.put_low.Goals as goal
use Rattle.combinations.proofs.put_low.Goals.{Start}

never : ◌≡◌ {A = Bool} true false → ⊥
never e = let z : ◌≡◌ {A = ℕ} 0 1 = cc in omega arith

module _ (c : Start) where
  abbrev g : Polynomial
  g = c.args.g.now

  abbrev p : Polynomial
  p = c.args.p.now

  abbrev h : Polynomial
  h = c.args.h.now

  abbrev q : Polynomial
  q = c.args.q.now

  abbrev sum : Polynomial
  sum = add (mul g p) (mul h q)

  place-long : length c.args.place.now ≡ coefficient_count
  place-long = ap length c.requires.place_value ∙ length-replicate coefficient_count (pos 0)

  zero-at : (k : ℕ) → coeff c.args.place.now k ≡ pos 0
  unfolding is_zero_of is_zero_ℤ
  zero-at k = ap (λ l. coeff l k) c.requires.place_value ∙ is_zero-coeff (replicate coefficient_count (pos 0)) tt k

  zeros-below : Below (16 * (bound * bound) + 1) c.args.place.now
  unfolding coeff
  zeros-below k = rw (zero-at k) (omega arith)

  first_below : Below (16 * (bound * bound) + 1) (add c.args.place.now (mul g p))
  unfolding coeff
  first_below k =
      rw (coeff-add c.args.place.now (mul g p) k)
      (omega (
        arith,
        nat_abs-+ℤ (coeff c.args.place.now k) (coeff (mul g p) k),
        ap nat_abs (zero-at k),
        product-size g p c.requires.counted.0.2 c.requires.counted.1.2 k coefficient_count c.requires.counted.0.1,
      ))

  both-added : (r : List ℤ) → length r ≡ coefficient_count → r ≡ add (add c.args.place.now (mul g p)) (mul h q) → r ≡ low_part_of sum
  unfolding coeff
  both-added r long e =
      ext_get_or (pos 0) r (low_part_of sum) (long ∙ sym (length-low_part sum)) (λ k l.
      ap (λ s. coeff s k) e ∙ coeff-add (add c.args.place.now (mul g p)) (mul h q) k
      ∙ ap (λ a. a +ℤ coeff (mul h q) k)
      (coeff-add c.args.place.now (mul g p) k ∙ ap (λ a. a +ℤ coeff (mul g p) k) (zero-at k) ∙ +ℤ_idl (coeff (mul g p) k))
      ∙ sym (low_part-at sum k (omega (arith, long)) ∙ coeff-add (mul g p) (mul h q) k))

pub add_product-requires : goal.add_product-requires
add_product-requires c =
    let start = (goal.at.add_product-requires c).Start in
    let few = c.if-most-lt-COEFFICIENTS.true in record {
      g_len_bound = (start.requires.counted.0.1, start.requires.counted.0.2, start.requires.counted.1.2);
      p_nonzero = (
        start.requires.counted.1.0,
        omega (arith, place-long (goal.at.Start start).Start, few, c.top-most.ensures),
        zeros-below (goal.at.Start start).Start,
      );
    }

pub add_product-requires-then-most-lt-COEFFICIENTS : goal.add_product-requires-then-most-lt-COEFFICIENTS
add_product-requires-then-most-lt-COEFFICIENTS c =
    let start = (goal.at.add_product-requires-then-most-lt-COEFFICIENTS c).Start in
    let few = c.if-most-lt-COEFFICIENTS.true in record {
      g_len_bound = (start.requires.counted.2.1, start.requires.counted.2.2, start.requires.counted.3.2);
      p_nonzero = (
        start.requires.counted.3.0,
        omega (arith, c.add_product.auto.place, place-long (goal.at.Start start).Start, few, c.top-most.ensures),
        subst (Below (16 * (bound * bound) + 1)) (sym c.add_product.ensures) (first_below (goal.at.Start start).Start),
      );
    }

pub shape_of-place-then-most-lt-COEFFICIENTS : goal.shape_of-place-then-most-lt-COEFFICIENTS
shape_of-place-then-most-lt-COEFFICIENTS c = c.add_product-then-most-lt-COEFFICIENTS.auto.place ∙ c.add_product.auto.place

pub returns-then-most-lt-COEFFICIENTS : goal.returns-then-most-lt-COEFFICIENTS
returns-then-most-lt-COEFFICIENTS c =
    let start = (goal.at.returns-then-most-lt-COEFFICIENTS c).Start in record {
      value = ap not (sym (high-free (g start) (p (goal.at.Start start).Start) (h (goal.at.Start start).Start) (q (goal.at.Start start).Start) start.requires.counted coefficient_count
          (omega (arith, c.top-most.ensures, c.if-most-lt-COEFFICIENTS.true)) (λ j below above. absurd (omega arith))));
      place_after = λ low. both-added (goal.at.Start start).Start c.add_product-then-most-lt-COEFFICIENTS.new.place (c.add_product-then-most-lt-COEFFICIENTS.auto.place ∙ c.add_product.auto.place ∙ place-long start)
          (c.add_product-then-most-lt-COEFFICIENTS.ensures ∙ ap (λ r. add r (mul (h start) (q (goal.at.Start start).Start))) c.add_product.ensures);
    }

pub returns-then-passes : goal.returns-then-passes
returns-then-passes c = record { value = sym c.if-passes.true ∙ c.passes.ensures; place_after = λ low. absurd (never low) }

pub put_combined-requires : goal.put_combined-requires
put_combined-requires c =
    let start = (goal.at.put_combined-requires c).Start in record {
      place_len_bound = omega (arith, place-long (goal.at.Start start).Start);
      counted = start.requires.counted;
    }

pub returns : goal.returns
returns c =
    let start = (goal.at.returns c).Start in record {
      value = sym c.if-passes.false ∙ c.passes.ensures;
      place_after = λ low. c.put_combined.ensures ∙ ap (λ m. take m (low_part_of (sum start))) (place-long (goal.at.Start start).Start)
          ∙ take_all coefficient_count (low_part_of (sum start)) (rw length-low_part (omega arith));
    }
