-- The parts of a bound, block by block.
use Rattle.std.proofs.Common.{◌≡◌, refl, sym, ap, subst, ◌∙◌, ℕ, ◌+◌, ◌*◌, ◌<◌, ◌≤◌, true, false, if◌then◌else◌, List, [], ◌∷◌, ◌++◌, map, take, length, get_or, sum_by, ⊎_elim, arith, length-append}
use Rattle.std.proofs.Math.IntN.{ℤ, pos, ◌+ℤ◌, ◌*ℤ◌}
use Rattle.std.specs.Prelude.{◌≤ℤ◌, unsigned_abs}
use Rattle.std.specs.List.{AllByRecursion}
use Rattle.std.proofs.lemmas.Bool.{cases_lt}
use Rattle.std.proofs.lemmas.Int.{ints}
use Rattle.std.proofs.lemmas.List.{get_or_append_left, get_or-append-add, get_or_default, get_or_past, take_more, length-map}
use Rattle.std.proofs.lemmas.List.Elements.{All-from_recursion}
use Rattle.std.proofs.lemmas.List.Sums.{sum_by-append, sum_by-cons, sum_by-take-le}
use Rattle.bp_theory.specs.Limits.{price_limit}
use Rattle.bp_theory.specs.Sums.{sum_of, dot}
use Rattle.bp_theory.specs.Program.{span_at, reach, IsInside}
use Rattle.bp_theory.specs.Blocking.{Copy, Block, Blocking}
use Rattle.bp_theory.specs.Bound.{base, spans_of, reduced_cost, is_picked, priced_rows, IsPoint, IsLeast, IsPart, IsBound, IsEndless}
use Rattle.bp_theory.specs.Trees.{IsProper}
use Rattle.bp_theory.specs.declared.Span.{Span}
use Rattle.bp_theory.specs.declared.Row.{Row}
use Rattle.bp_theory.specs.declared.Proof.{Proof}
use Rattle.bp_theory.proofs.SumLaws.{sum_of-append}
use Rattle.bp_theory.proofs.ClassProof.{least_over_box_lem}
use Rattle.bp_theory.proofs.RoundProof.{parts_add_up_lem}
use Rattle.bp_theory.proofs.ShrinkProof.{one_bound_lem}
use Rattle.search_laws.specs.Spread.{block_at}
use Rattle.pricing_problem.specs.Form.{cost_size}
use Rattle.pricing_problem.specs.Priced.{IsCheapest, IsPriced, HasNoPoint}
use Rattle.pricing_problem.specs.declared.Cap.{Cap}
use Rattle.pricing_problem.specs.declared.Cap.TheVariants.{Never}
use Rattle.pricing_problem.specs.declared.Priced.{Priced}
use Rattle.pricing_problem.specs.declared.Priced.TheVariants.{Least, Nothing, Cut}
use Rattle.pricing_problem.proofs.EndLaws.{number-le_reach, product-within}
use Rattle.reduced_costs.specs.Sizes.{reduced_costs, block_least, block_size, base_size, bound_size}
use Rattle.lagr_bound.specs.Bounded.{IsPartAnswer, IsBounded, IsBestPoint}
use Rattle.lagr_bound.specs.declared.bounded.Bounded.{Bounded}
use Rattle.lagr_bound.specs.declared.bounded.Bounded.TheVariants as bounds
use Rattle.reduced_costs.proofs.Steps.{base_within}
use Rattle.reduced_costs.proofs.FillLemmas.{no_block}

-- ---- the size of a part

-- the cost of a point within spans
dot_within : (spans : List Span) (costs y : List ℤ) → IsInside spans y → unsigned_abs (dot costs y) ≤ cost_size spans costs
dot_within spans [] y h = omega (arith, ints)
dot_within [] (r ∷ rs) [] h = omega (arith, ints)
dot_within [] (r ∷ rs) (x ∷ xs) h = absurd h
dot_within (s ∷ ss) (r ∷ rs) [] h = absurd h
dot_within (s ∷ ss) (r ∷ rs) (x ∷ xs) h =
    let first : unsigned_abs (r *ℤ x) ≤ unsigned_abs r * reach s = product-within r x s (number-le_reach s x h.0) in
    let rest : unsigned_abs (dot rs xs) ≤ cost_size ss rs = dot_within ss rs xs h.1 in
    together (r *ℤ x) (dot rs xs) (unsigned_abs r * reach s) (cost_size ss rs) first rest
  where
    together : (a b : ℤ) (m n : ℕ) → unsigned_abs a ≤ m → unsigned_abs b ≤ n → unsigned_abs (a +ℤ b) ≤ m + n
    together a b m n h g = omega (arith, ints, h, g)

pub part_within : (zone : List Span) (proof : Proof) (k : ℕ) (block : Block) (v : ℤ) → IsPart zone proof k block v → unsigned_abs v ≤ block_size zone proof block
part_within zone proof k block v part =
    subst (λ z. unsigned_abs z ≤ block_size zone proof block) part.reached
    (dot_within (spans_of zone block) (map (reduced_cost proof) block.copies) part.point part.is_point.inside)

-- ---- sums of parts

-- the parts of the blocks below a number, which a sum has from the base on
pub record HasParts (b : Blocking) (zone : List Span) (proof : Proof) (k : ℕ) (sum : ℤ) : Type 0 where
  pub parts : List ℤ
  pub each : length parts ≡ k
  pub are : (j : ℕ) (d : Block) → j < k → IsPart zone proof j (get_or b.blocks j d) (get_or parts j (pos 0))
  pub total : sum ≡ base b proof +ℤ sum_of (λ z. z) parts
  pub small : unsigned_abs sum ≤ base_size b proof + sum_by (block_size zone proof) (take k b.blocks)

pub no_parts : (b : Blocking) (zone : List Span) (proof : Proof) (sum : ℤ) → sum ≡ base b proof → HasParts b zone proof 0 sum
no_parts b zone proof sum e = record {
  parts = [];
  each = refl;
  are = λ j d l. absurd (omega (arith, l));
  total = omega (arith, ints, e);
  small = omega (arith, ints, e, base_within b proof);
}

pub one_part_more : (b : Blocking) (zone : List Span) (proof : Proof) (k : ℕ) (sum v : ℤ) → k < length b.blocks → HasParts b zone proof k sum
    → IsPart zone proof k (block_at b k) v → HasParts b zone proof (k + 1) (sum +ℤ v)
one_part_more b zone proof k sum v l had part = record {
  parts = had.parts ++ v ∷ [];
  each = omega (arith, had.each, length-append had.parts (v ∷ []));
  are = λ j d m. ⊎_elim
      (λ below. subst (IsPart zone proof j (get_or b.blocks j d)) (sym (get_or_append_left had.parts (v ∷ []) (pos 0) j (omega (arith, below, had.each))))
      (had.are j d below))
      (λ above. last j d (omega (arith, m, above)))
      (cases_lt j k);
  total = omega (arith, ints, had.total, sum_of-append (λ z. z) had.parts (v ∷ []));
  small = together sum v _ (block_size zone proof (block_at b k)) _ had.small (part_within zone proof k (block_at b k) v part) more;
}
  where
    here : get_or (had.parts ++ v ∷ []) k (pos 0) ≡ v
    here =
        let place : k ≡ length had.parts + 0 = omega (arith, had.each) in
        ap (λ n. get_or (had.parts ++ v ∷ []) n (pos 0)) place ∙ get_or-append-add had.parts (v ∷ []) 0 (pos 0)

    last : (j : ℕ) (d : Block) → j ≡ k → IsPart zone proof j (get_or b.blocks j d) (get_or (had.parts ++ v ∷ []) j (pos 0))
    last j d e =
        subst (λ n. IsPart zone proof n (get_or b.blocks n d) (get_or (had.parts ++ v ∷ []) n (pos 0))) (sym e)
        (subst (IsPart zone proof k (get_or b.blocks k d)) (sym here)
        (subst (λ (c : Block). IsPart zone proof k c v) (get_or_default b.blocks k no_block d l) part))

    more : sum_by (block_size zone proof) (take (k + 1) b.blocks) ≡ sum_by (block_size zone proof) (take k b.blocks) + block_size zone proof (block_at b k)
    more =
        ap (sum_by (block_size zone proof)) (take_more b.blocks k no_block l)
        ∙ omega (
          arith,
          sum_by-append (block_size zone proof) (take k b.blocks) (block_at b k ∷ []),
          sum_by-cons (block_size zone proof) (block_at b k) [],
        )

    together : (a c : ℤ) (s n t : ℕ) → unsigned_abs a ≤ base_size b proof + s → unsigned_abs c ≤ n → t ≡ s + n → unsigned_abs (a +ℤ c) ≤ base_size b proof + t
    together a c s n t h g e = omega (arith, ints, h, g, e)

pub parts_small : (b : Blocking) (zone : List Span) (proof : Proof) (k : ℕ) (sum : ℤ) → HasParts b zone proof k sum → bound_size b zone proof < price_limit
    → unsigned_abs sum < price_limit
parts_small b zone proof k sum had limit = omega (arith, had.small, limit, sum_by-take-le (block_size zone proof) b.blocks k)

pub all_parts : (b : Blocking) (zone : List Span) (proof : Proof) (k : ℕ) (sum : ℤ) → k ≡ length b.blocks → HasParts b zone proof k sum → IsBound b zone proof sum
all_parts b zone proof k sum e had =
    subst (IsBound b zone proof) (sym had.total)
    (parts_add_up_lem b zone proof had.parts (had.each ∙ e) (λ j d l. had.are j d (omega (arith, l, e))))

-- ---- what a block gives

-- the least over the box of a block that isn't picked
pub box_is_part : (zone : List Span) (proof : Proof) (k : ℕ) (block : Block) → IsProper zone → is_picked proof.picked k ≡ false
    → IsPart zone proof k block (block_least zone proof block)
box_is_part zone proof k block proper other =
    let none : priced_rows proof.picked k block ≡ [] = ap (λ t. if t then block.rows else []) other in
    subst (λ (rows : List Row). IsLeast rows (spans_of zone block) (map (reduced_cost proof) block.copies) (block_least zone proof block)) (sym none)
    (least_over_box_lem (spans_of zone block) (map (reduced_cost proof) block.copies)
    (All-from_recursion (λ (s : Span). s.lo ≤ℤ s.hi) (spans_of zone block) (spans block.copies))
    (length-map block.copies (reduced_cost proof) ∙ sym (length-map block.copies (λ (c : Copy). span_at zone c.var))))
  where
    proper_at : (v : ℕ) → (span_at zone v).lo ≤ℤ (span_at zone v).hi
    proper_at v = ⊎_elim
        (λ there. proper v (record { lo = pos 0; hi = pos 0 }) there)
        (λ past. subst (λ (s : Span). s.lo ≤ℤ s.hi) (sym (get_or_past zone v (record { lo = pos 0; hi = pos 0 }) past)) (omega (arith, ints)))
        (cases_lt v (length zone))

    spans : (cs : List Copy) → AllByRecursion (λ (s : Span). s.lo ≤ℤ s.hi) (map (λ (c : Copy). span_at zone c.var) cs)
    spans [] = tt
    spans (c ∷ cs) = (proper_at c.var, spans cs)

-- the price of a picked block
pub price_is_part : (b : Blocking) (zone : List Span) (proof : Proof) (cap : Cap) (k : ℕ) (answer : Priced) (point : List ℤ) → is_picked proof.picked k ≡ true
    → IsPriced (block_at b k).rows (spans_of zone (block_at b k)) (reduced_costs proof (block_at b k)) cap answer point
    → IsPartAnswer b zone proof cap k answer
price_is_part b zone proof cap k (Least v) point own h =
    let rows : priced_rows proof.picked k (block_at b k) ≡ (block_at b k).rows = ap (λ t. if t then (block_at b k).rows else []) own in
    subst (λ (rs : List Row). IsLeast rs (spans_of zone (block_at b k)) (map (reduced_cost proof) (block_at b k).copies) v) (sym rows)
    (record { point = point; is_point = h.is_point; reached = h.reached; least = h.least })
price_is_part b zone proof cap k Nothing point own h = (own, h)
price_is_part b zone proof cap k Cut point own h = (own, h)

pub best_point : (zone : List Span) (proof : Proof) (block : Block) (point : List ℤ) (v : ℤ)
    → IsCheapest block.rows (spans_of zone block) (reduced_costs proof block) point v → IsBestPoint zone proof block point
best_point zone proof block point v h = record {
  is_point = h.is_point;
  least = λ z g. subst (λ w. w ≤ℤ dot (reduced_costs proof block) z) (sym h.reached) (h.least z g);
}

-- ---- what ends a bound

pub endless_is : (b : Blocking) (zone : List Span) (proof : Proof) (k : ℕ) → k < length b.blocks
    → (is_picked proof.picked k ≡ true) × HasNoPoint (block_at b k).rows (spans_of zone (block_at b k)) → IsEndless b zone proof
endless_is b zone proof k l h = record {
  block = k;
  there = l;
  picked = h.0;
  none = λ d y. subst (λ (c : Block). IsPoint c.rows (spans_of zone c) y → ⊥) (get_or_default b.blocks k no_block d l) (h.1 y);
}

pub never_otherwise : (b : Blocking) (zone : List Span) (proof : Proof) (cap : Cap) (answer : Bounded) → IsBounded b zone proof cap answer
    → cap ≡ Never → IsEndless b zone proof → answer ≡ bounds.Endless
never_otherwise b zone proof cap (bounds.Whole v) h never endless = absurd (one_bound_lem.not_both b zone proof v endless h)
never_otherwise b zone proof cap bounds.Endless h never endless = refl
never_otherwise b zone proof cap (bounds.Cut k) h never endless =
    absurd ((subst (λ c. IsBounded b zone proof c (bounds.Cut k)) never h).2)
