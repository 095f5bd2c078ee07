-- Weak Lagrangian duality.
use Rattle.std.proofs.Common.{◌≡◌, refl, sym, ap, ◌∙◌, ℕ, zero, suc, ◌<◌, Bool, true, false, List, [], ◌∷◌, length, get_or, Option, Some, None, arith}
use Rattle.std.proofs.Math.IntN.{ℤ, pos, negsuc, ◌-ℤ◌, ◌*ℤ◌, zero-*ℤ}
use Rattle.std.specs.Prelude.{◌≤ℤ◌, All, if◌then◌else◌}
use Rattle.std.specs.List.{flat_map, AllByRecursion}
use Rattle.std.proofs.lemmas.Int.{ints}
use Rattle.std.proofs.lemmas.List.Elements.{recursion_from_All, All-nil}
use Rattle.bp_theory.specs.Sums.{sum_of}
use Rattle.bp_theory.specs.Program.{Program, value_at, span_at, IsWithin, IsInside, Meets, MeetsRow, IsFeasible}
use Rattle.bp_theory.specs.Blocking.{Copy, Block, Blocking, IsFaithful, all_copies, coef_in, copy_cost, copy_activity, restriction, row_at}
use Rattle.bp_theory.specs.Bound.{spans_of, IsPoint, is_picked, priced_rows, reduced_cost, AreParts, side, side_at, SignFits, SignFitsSense, SignsFit}
use Rattle.bp_theory.specs.Laws.{Duality}
use Rattle.bp_theory.specs.declared.Span.{Span}
use Rattle.bp_theory.specs.declared.Sense.{Sense}
use Rattle.bp_theory.specs.declared.Sense.TheVariants.{Le, Ge, Eq, In}
use Rattle.bp_theory.specs.declared.MasterRow.{MasterRow}
use Rattle.bp_theory.specs.declared.Picked.{Picked}
use Rattle.bp_theory.specs.declared.Proof.{Proof}
use Rattle.bp_theory.proofs.Whole.{mul-add, sub-mul, mul_assoc, le-mul_pos, le-mul_negsuc}
use Rattle.bp_theory.proofs.SumLaws.{sum_of-append, sum_of-same, sum_of-sub, sum_of_swap, mul-sum_of, sum_of-mul, sum_of-le, dot-map-map}
use Rattle.bp_theory.proofs.ZipLaws.{AllZip_at, AllZip-length, AllZip-map-map}

-- the reduced costs of copies at a point are scale times cost, less multipliers times activities
pub reduced_costs_at : (proof : Proof) (x : List ℤ) (cs : List Copy)
    → sum_of (λ c. reduced_cost proof c *ℤ value_at x c.var) cs
    ≡ pos proof.scale *ℤ copy_cost x cs -ℤ sum_of (λ m. m.1 *ℤ copy_activity x m.0 cs) proof.mults
reduced_costs_at proof x cs =
    let at : Copy → ℤ = λ c. value_at x c.var in
    let scaled : Copy → ℤ = λ c. pos proof.scale *ℤ c.cost in
    let taken : Copy → ℤ = λ c. sum_of (λ m. m.1 *ℤ coef_in c m.0) proof.mults in
    sum_of-same (λ c. (scaled c -ℤ taken c) *ℤ at c) (λ c. scaled c *ℤ at c -ℤ taken c *ℤ at c)
    (λ c. sub-mul (scaled c) (taken c) (at c)) cs
    ∙ sum_of-sub (λ c. scaled c *ℤ at c) (λ c. taken c *ℤ at c) cs
    ∙ ap (λ z. z -ℤ sum_of (λ c. taken c *ℤ at c) cs)
    (sum_of-same (λ c. scaled c *ℤ at c) (λ c. pos proof.scale *ℤ (c.cost *ℤ at c))
    (λ c. sym (mul_assoc (pos proof.scale) c.cost (at c))) cs
    ∙ sym (mul-sum_of (pos proof.scale) (λ c. c.cost *ℤ at c) cs))
    ∙ ap (λ z. pos proof.scale *ℤ copy_cost x cs -ℤ z)
    (sum_of-same (λ c. taken c *ℤ at c) (λ c. sum_of (λ m. (m.1 *ℤ coef_in c m.0) *ℤ at c) proof.mults)
    (λ c. sum_of-mul (at c) (λ m. m.1 *ℤ coef_in c m.0) proof.mults) cs
    ∙ sum_of_swap (λ c m. (m.1 *ℤ coef_in c m.0) *ℤ at c) cs proof.mults
    ∙ sum_of-same (λ m. sum_of (λ c. (m.1 *ℤ coef_in c m.0) *ℤ at c) cs) (λ m. m.1 *ℤ copy_activity x m.0 cs)
    (λ m. sum_of-same (λ c. (m.1 *ℤ coef_in c m.0) *ℤ at c) (λ c. m.1 *ℤ (coef_in c m.0 *ℤ at c))
    (λ c. sym (mul_assoc m.1 (coef_in c m.0) (at c))) cs
    ∙ sym (mul-sum_of m.1 (λ c. coef_in c m.0 *ℤ at c) cs))
    proof.mults)

-- a multiplier of fitting sign takes no more from its side than from a sum that meets the row
multiplier_below_by : (s : Sense) (low rhs p a : ℤ) → SignFitsSense s p → Meets s low rhs a
    → (p *ℤ side (record { sense = s; low = low; rhs = rhs }) p) ≤ℤ (p *ℤ a)
multiplier_below_by s low rhs (pos zero) a fits meets = omega (arith, ints, zero-*ℤ rhs, zero-*ℤ a)
multiplier_below_by Le low rhs (pos (suc n)) a fits meets = absurd (omega (arith, ints))
multiplier_below_by Ge low rhs (pos (suc n)) a fits meets = le-mul_pos (suc n) low a meets
multiplier_below_by Eq low rhs (pos (suc n)) a fits meets = le-mul_pos (suc n) low a meets.0
multiplier_below_by In low rhs (pos (suc n)) a fits meets = le-mul_pos (suc n) low a meets.0
multiplier_below_by Le low rhs (negsuc n) a fits meets = le-mul_negsuc n a rhs meets
multiplier_below_by Ge low rhs (negsuc n) a fits meets = absurd (omega (arith, ints))
multiplier_below_by Eq low rhs (negsuc n) a fits meets = le-mul_negsuc n a rhs meets.1
multiplier_below_by In low rhs (negsuc n) a fits meets = le-mul_negsuc n a rhs meets.1

pub multiplier_below : (o : Option MasterRow) (p a : ℤ) → SignFits o p
    → ((r : MasterRow) → o ≡ Some r → Meets r.sense r.low r.rhs a) → (p *ℤ side_at o p) ≤ℤ (p *ℤ a)
multiplier_below None p a fits meets = absurd fits
multiplier_below (Some r) p a fits meets = multiplier_below_by r.sense r.low r.rhs p a fits (meets r refl)

-- a point of a block is one of the rows that are priced
pub IsPoint-priced : (picked : Picked) (k : ℕ) (b : Block) (spans : List Span) (y : List ℤ)
    → IsPoint b.rows spans y → IsPoint (priced_rows picked k b) spans y
IsPoint-priced picked k b spans y h = by (is_picked picked k)
  where
    by : (t : Bool) → IsPoint (if t then b.rows else []) spans y
    by true = h
    by false = record { inside = h.inside; meets = All-nil (MeetsRow y) }

-- the blocks' least reduced costs are no more than the reduced costs of points of the blocks
pub parts_below : (zone : List Span) (proof : Proof) (x : List ℤ) (k : ℕ) (bs : List Block) (vs : List ℤ)
    → AreParts zone proof k bs vs
    → AllByRecursion (λ b. IsPoint b.rows (spans_of zone b) (restriction x b)) bs
    → sum_of (λ z. z) vs ≤ℤ sum_of (λ c. reduced_cost proof c *ℤ value_at x c.var) (flat_map (λ b. b.copies) bs)
parts_below zone proof x k [] [] parts points = omega (arith, ints)
parts_below zone proof x k [] (v ∷ vs) parts points = absurd parts
parts_below zone proof x k (b ∷ bs) [] parts points = absurd parts
parts_below zone proof x k (b ∷ bs) (v ∷ vs) parts points =
    let here = parts.0.least (restriction x b) (IsPoint-priced proof.picked k b (spans_of zone b) (restriction x b) points.0) in
    let there = parts_below zone proof x (suc k) bs vs parts.1 points.1 in
    omega (
      arith,
      ints,
      here,
      there,
      dot-map-map (reduced_cost proof) (λ c. value_at x c.var) b.copies,
      sum_of-append (λ c. reduced_cost proof c *ℤ value_at x c.var) b.copies (flat_map (λ b'. b'.copies) bs),
    )

-- a feasible point in a zone is a point of each block
pub points_of_blocks : (p : Program) (b : Blocking) (zone : List Span) (x : List ℤ)
    → IsFaithful p b → IsFeasible p x → IsInside zone x
    → All (λ k. IsPoint k.rows (spans_of zone k) (restriction x k)) b.blocks
points_of_blocks p b zone x faithful feasible inside k d l =
    let long : length zone ≡ length p.spans = AllZip-length IsWithin zone x inside ∙ sym (AllZip-length IsWithin p.spans x feasible.inside) in
    record {
      inside = AllZip-map-map IsWithin (λ c. span_at zone c.var) (λ c. value_at x c.var) (λ c. c.var < length p.spans)
          (λ c below. AllZip_at IsWithin zone x inside c.var (record { lo = pos 0; hi = pos 0 }) (pos 0) (omega arith))
          (get_or b.blocks k d).copies
          (recursion_from_All (λ c. c.var < length p.spans) (get_or b.blocks k d).copies (faithful.known k d l));
      meets = faithful.points x feasible k d l;
    }

-- the multipliers take no more from the sides than from the activities
pub multipliers_below : (p : Program) (b : Blocking) (proof : Proof) (x : List ℤ)
    → IsFaithful p b → SignsFit b proof → IsFeasible p x
    → sum_of (λ m. m.1 *ℤ side_at (row_at b m.0) m.1) proof.mults
    ≤ℤ sum_of (λ m. m.1 *ℤ copy_activity x m.0 (all_copies b)) proof.mults
multipliers_below p b proof x faithful fits feasible =
    sum_of-le (λ m. m.1 *ℤ side_at (row_at b m.0) m.1) (λ m. m.1 *ℤ copy_activity x m.0 (all_copies b)) proof.mults
    (recursion_from_All (λ m. (m.1 *ℤ side_at (row_at b m.0) m.1) ≤ℤ (m.1 *ℤ copy_activity x m.0 (all_copies b))) proof.mults
    (λ k d l. multiplier_below (row_at b (get_or proof.mults k d).0) (get_or proof.mults k d).1
    (copy_activity x (get_or proof.mults k d).0 (all_copies b)) (fits k d l)
    (λ r e. faithful.rows x feasible (get_or proof.mults k d).0 r e)))

pub duality_lem : Duality
duality_lem p b zone proof x faithful fits feasible inside =
    let points = points_of_blocks p b zone x faithful feasible inside in (
      λ endless. endless.none (record { copies = []; rows = [] }) (restriction x (get_or b.blocks endless.block (record { copies = []; rows = [] })))
          (points endless.block (record { copies = []; rows = [] }) endless.there),
      λ v bound.
          let parts = parts_below zone proof x 0 b.blocks bound.parts bound.are_parts
          (recursion_from_All (λ k. IsPoint k.rows (spans_of zone k) (restriction x k)) b.blocks points) in
          let mults = multipliers_below p b proof x faithful fits feasible in
          omega (
            arith,
            ints,
            parts,
            mults,
            bound.total,
            reduced_costs_at proof x (all_copies b),
            mul-add (pos proof.scale) b.constant (copy_cost x (all_copies b)),
            ap (λ z. pos proof.scale *ℤ z) (faithful.costs x feasible),
          ),
    )
