-- Laws of a factor times the numbers of a span.
use Rattle.std.proofs.Common.{◌≡◌, refl, sym, ap, subst, ◌∙◌, ℕ, zero, suc, ◌+◌, ◌*◌, ◌^◌, ◌<◌, ◌≤◌, max, arith, rules}
use Rattle.std.proofs.Math.IntN.{ℤ, pos, negsuc, ◌+ℤ◌, ◌-ℤ◌, ◌*ℤ◌}
use Rattle.std.proofs.Math.Nat.{mul-le-mul_left}
use Rattle.std.specs.Prelude.{◌≤ℤ◌, unsigned_abs, FitsSigned}
use Rattle.std.specs.Int.{w128, int_min, int_max}
use Rattle.std.proofs.lemmas.Int.{ints, clamps, by_lt_z, fits_signed_mul, unsigned_abs-mul}
use Rattle.bp_theory.specs.Program.{IsWithin, reach}
use Rattle.bp_theory.specs.Bound.{end_cost}
use Rattle.bp_theory.specs.declared.Span.{Span}
use Rattle.bp_theory.proofs.Whole.{le-mul_pos, le-mul_negsuc}
use Rattle.pricing_problem.specs.Ends.{top_cost}

-- the ends lie within the reach
pub lo-le_reach : (s : Span) → unsigned_abs s.lo ≤ reach s
lo-le_reach s = omega arith

pub hi-le_reach : (s : Span) → unsigned_abs s.hi ≤ reach s
hi-le_reach s = omega arith

-- so does each number of the span
pub number-le_reach : (s : Span) (v : ℤ) → IsWithin s v → unsigned_abs v ≤ reach s
number-le_reach s v h = omega (arith, ints, h.above, h.below)

-- a product with an end fits
pub fits_end : (r v : ℤ) (s : Span) → unsigned_abs v ≤ reach s → unsigned_abs r * reach s < 2 ^ 127 → FitsSigned w128 (r *ℤ v)
fits_end r v s l h = fits_signed_mul w128 r v (unsigned_abs r) (reach s) (omega arith) l h

-- each product lies between the ends' products
pub end_cost-le : (s : Span) (r v : ℤ) → IsWithin s v → end_cost s r ≤ℤ (r *ℤ v)
end_cost-le s (pos n) v h = omega (arith, ints, clamps, le-mul_pos n s.lo v h.above)
end_cost-le s (negsuc n) v h = omega (arith, ints, clamps, le-mul_negsuc n v s.hi h.below)

pub top_cost-ge : (s : Span) (r v : ℤ) → IsWithin s v → (r *ℤ v) ≤ℤ top_cost s r
top_cost-ge s (pos n) v h = omega (arith, ints, clamps, le-mul_pos n v s.hi h.below)
top_cost-ge s (negsuc n) v h = omega (arith, ints, clamps, le-mul_negsuc n s.lo v h.above)

-- a span of one number has that number's product alone
pub end_cost-one : (v r : ℤ) → end_cost (record { lo = v; hi = v }) r ≡ r *ℤ v
end_cost-one v r = omega (arith, ints, clamps)

pub top_cost-one : (v r : ℤ) → top_cost (record { lo = v; hi = v }) r ≡ r *ℤ v
top_cost-one v r = omega (arith, ints, clamps)

-- a product's magnitude is at most that of the factor times the reach
pub product-within : (r v : ℤ) (s : Span) → unsigned_abs v ≤ reach s → unsigned_abs (r *ℤ v) ≤ unsigned_abs r * reach s
product-within r v s l = omega (arith, unsigned_abs-mul r v, mul-le-mul_left (unsigned_abs r) l)

pub end_cost-within : (s : Span) (r : ℤ) → unsigned_abs (end_cost s r) ≤ unsigned_abs r * reach s
end_cost-within s r = one_of (r *ℤ s.lo) (r *ℤ s.hi) (unsigned_abs r * reach s) (product-within r s.lo s (lo-le_reach s)) (product-within r s.hi s (hi-le_reach s))
  where
    one_of : (a b : ℤ) (m : ℕ) → unsigned_abs a ≤ m → unsigned_abs b ≤ m → unsigned_abs (int_min a b) ≤ m
    one_of a b m h k = omega (arith, ints, clamps)

pub top_cost-within : (s : Span) (r : ℤ) → unsigned_abs (top_cost s r) ≤ unsigned_abs r * reach s
top_cost-within s r = one_of (r *ℤ s.lo) (r *ℤ s.hi) (unsigned_abs r * reach s) (product-within r s.lo s (lo-le_reach s)) (product-within r s.hi s (hi-le_reach s))
  where
    one_of : (a b : ℤ) (m : ℕ) → unsigned_abs a ≤ m → unsigned_abs b ≤ m → unsigned_abs (int_max a b) ≤ m
    one_of a b m h k = omega (arith, ints, clamps)
