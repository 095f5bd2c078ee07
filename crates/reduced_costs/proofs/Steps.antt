-- One more term of a bound's sums.
use Rattle.std.proofs.Common.{◌≡◌, ℕ, ◌+◌, ◌*◌, ◌^◌, ◌<◌, ◌≤◌, List, [], ◌∷◌, map, take, length, get_or, sum_by, All, sym, ap, subst, ◌∙◌, ⊎_elim, arith}
use Rattle.std.proofs.Math.IntN.{ℤ, pos, ◌+ℤ◌, ◌-ℤ◌, ◌*ℤ◌}
use Rattle.std.specs.Prelude.{unsigned_abs, ◌≤ℤ◌}
use Rattle.std.specs.List.{AllByRecursion}
use Rattle.std.proofs.lemmas.Bool.{cases_lt}
use Rattle.std.proofs.lemmas.Int.{ints, unsigned_abs-mul}
use Rattle.std.proofs.lemmas.List.{take_all, get_or-map, get_or_past, length-map}
use Rattle.std.proofs.lemmas.List.Sums.{get_or-le-sum_by}
use Rattle.bp_theory.specs.Limits.{price_limit}
use Rattle.bp_theory.specs.Sums.{sum_of, sum_at}
use Rattle.bp_theory.specs.Program.{span_at, reach}
use Rattle.bp_theory.specs.Blocking.{Copy, Block, Blocking, row_at}
use Rattle.bp_theory.specs.Bound.{reduced_cost, side_at, base, end_cost, spans_of, IsPart, IsBound, priced_rows}
use Rattle.bp_theory.specs.Trees.{IsProper}
use Rattle.bp_theory.specs.declared.Span.{Span}
use Rattle.bp_theory.specs.declared.Picked.{Picked}
use Rattle.bp_theory.specs.declared.Picked.TheVariants.{These}
use Rattle.bp_theory.specs.declared.Row.{Row}
use Rattle.bp_theory.specs.declared.Proof.{Proof}
use Rattle.bp_theory.proofs.SumLaws.{sum_of_more, sum_of_so_far_within, sum_of-within, sum_of-map}
use Rattle.bp_theory.specs.Bound.{IsLeast}
use Rattle.std.proofs.lemmas.List.Elements.{All-from_recursion}
use Rattle.bp_theory.proofs.ClassProof.{least_over_box_lem}
use Rattle.bp_theory.proofs.RoundProof.{parts_add_up_lem}
use Rattle.pricing_problem.proofs.EndLaws.{end_cost-within}
use Rattle.reduced_costs.specs.Sizes.{IsSmallCopy, copy_least, block_least, block_size, base_size, bound_size}
use Rattle.reduced_costs.proofs.Sums.{sum_by-smaller, box_least-maps, cost_size-maps}

-- a sum from a start, so far
pub more_from : {X : Type 0} (start : ℤ) (f : X → ℤ) (xs : List X) (i : ℕ) (d : X) (sum more : ℤ) (most : ℕ) → i < length xs
    → sum ≡ start +ℤ sum_of f (take i xs) → more ≡ f (get_or xs i d) → unsigned_abs start + sum_by (λ x. unsigned_abs (f x)) xs ≤ most
    → (sum +ℤ more ≡ start +ℤ sum_of f (take (i + 1) xs)) × (unsigned_abs (sum +ℤ more) ≤ most)
more_from start f xs i d sum more most l so_far next limit =
    let step : sum +ℤ more ≡ start +ℤ sum_of f (take (i + 1) xs) = omega (arith, ints, sum_of_more f xs i d l, so_far, next) in
    (step, omega (arith, ints, step, sum_of_so_far_within f xs (i + 1), limit))

-- ---- what a proof gives before the blocks

abbrev pub side_term : Blocking → ℕ × ℤ → ℤ
side_term b m = m.1 *ℤ side_at (row_at b m.0) m.1

pub base_more : (b : Blocking) (proof : Proof) (items : List (ℕ × ℤ)) (i : ℕ) (sum more : ℤ) → items ≡ proof.mults → i < length items
    → sum ≡ pos proof.scale *ℤ b.constant +ℤ sum_of (side_term b) (take i proof.mults) → more ≡ side_term b (get_or items i (0, pos 0))
    → base_size b proof ≤ price_limit
    → (sum +ℤ more ≡ pos proof.scale *ℤ b.constant +ℤ sum_of (side_term b) (take (i + 1) proof.mults)) × (unsigned_abs (sum +ℤ more) ≤ price_limit)
base_more b proof items i sum more e l so_far next limit =
    more_from (pos proof.scale *ℤ b.constant) (side_term b) proof.mults i (0, pos 0) sum more price_limit (subst (λ (xs : List (ℕ × ℤ)). i < length xs) e l)
    so_far (next ∙ ap (λ (xs : List (ℕ × ℤ)). side_term b (get_or xs i (0, pos 0))) e) limit

pub base_all : (b : Blocking) (proof : Proof) (items : List (ℕ × ℤ)) (i : ℕ) (sum : ℤ) → items ≡ proof.mults → length items ≤ i
    → sum ≡ pos proof.scale *ℤ b.constant +ℤ sum_of (side_term b) (take i proof.mults) → sum ≡ base b proof
base_all b proof items i sum e l so_far =
    so_far ∙ ap (λ (xs : List (ℕ × ℤ)). pos proof.scale *ℤ b.constant +ℤ sum_of (side_term b) xs) (take_all i proof.mults (subst (λ (xs : List (ℕ × ℤ)). length xs ≤ i) e l))

pub base_within : (b : Blocking) (proof : Proof) → unsigned_abs (base b proof) ≤ base_size b proof
base_within b proof = omega (arith, ints, sum_of-within (side_term b) proof.mults)

-- ---- reduced costs

-- what is scaled and what is paid differ by no more than the limit of prices
pub reduced_fits : (scale : ℕ) (cost scaled paid : ℤ) → scale < 2 ^ 32 → scaled ≡ pos scale *ℤ cost → unsigned_abs cost < 2 ^ 62 → unsigned_abs paid ≤ 2 ^ 123
    → unsigned_abs (scaled -ℤ paid) < 2 ^ 124
reduced_fits scale cost scaled paid small e h g =
    let size = unsigned_abs-mul (pos scale) cost in
    let most : scale * unsigned_abs cost ≤ 2 ^ 32 * 2 ^ 62 = product scale (unsigned_abs cost) small h in
    omega (arith, ints, e, size, most, g)
  where
    product : (a b : ℕ) → a < 2 ^ 32 → b < 2 ^ 62 → a * b ≤ 2 ^ 32 * 2 ^ 62
    product a b h g = grind arith

pub reduced_is : (proof : Proof) (cs : List Copy) (place : ℕ) (costs : List ℤ) (coefs : List (ℕ × ℤ)) (scaled paid result : ℤ) → place < length cs
    → costs ≡ map (λ (c : Copy). c.cost) cs → ((d : Copy) → coefs ≡ (get_or cs place d).coefs)
    → scaled ≡ pos proof.scale *ℤ get_or costs place (pos 0) → paid ≡ sum_of (λ (m : ℕ × ℤ). m.1 *ℤ sum_at (λ (e : ℕ × ℤ). e.0) (λ e. e.1) coefs m.0) proof.mults
    → result ≡ scaled -ℤ paid → (d : Copy) → result ≡ reduced_cost proof (get_or cs place d)
reduced_is proof cs place costs coefs scaled paid result l costs_are coefs_are scaled_is paid_is result_is d =
    let cost : get_or costs place (pos 0) ≡ (get_or cs place d).cost =
    ap (λ (zs : List ℤ). get_or zs place (pos 0)) costs_are ∙ get_or-map (λ (c : Copy). c.cost) cs place d (pos 0) l in
    result_is
    ∙ ap (λ z. z -ℤ paid) (scaled_is ∙ ap (λ z. pos proof.scale *ℤ z) cost)
    ∙ ap (λ z. pos proof.scale *ℤ (get_or cs place d).cost -ℤ z)
    (paid_is ∙ ap (λ (xs : List (ℕ × ℤ)). sum_of (λ (m : ℕ × ℤ). m.1 *ℤ sum_at (λ (e : ℕ × ℤ). e.0) (λ e. e.1) xs m.0) proof.mults) (coefs_are d))

pub cost_at : (cs : List Copy) (place : ℕ) (costs : List ℤ) → place < length cs → costs ≡ map (λ (c : Copy). c.cost) cs → All IsSmallCopy cs
    → unsigned_abs (get_or costs place (pos 0)) < 2 ^ 62
cost_at cs place costs l e small =
    let none : Copy = record { var = 0; cost = pos 0; coefs = [] } in
    subst (λ z. unsigned_abs z < 2 ^ 62)
    (sym (ap (λ (zs : List ℤ). get_or zs place (pos 0)) e ∙ get_or-map (λ (c : Copy). c.cost) cs place none (pos 0) l))
    (small place none l).cost

-- ---- boxes

pub least_is : (zone : List Span) (proof : Proof) (cs : List Copy) (place : ℕ) (vars : List ℕ) (span : Span) (cost result : ℤ) → place < length cs
    → vars ≡ map (λ (c : Copy). c.var) cs → span ≡ span_at zone (get_or vars place 0) → ((d : Copy) → cost ≡ reduced_cost proof (get_or cs place d))
    → result ≡ end_cost span cost → (d : Copy) → result ≡ copy_least zone proof (get_or cs place d)
least_is zone proof cs place vars span cost result l vars_are span_is cost_is result_is d =
    let var : get_or vars place 0 ≡ (get_or cs place d).var =
    ap (λ (vs : List ℕ). get_or vs place 0) vars_are ∙ get_or-map (λ (c : Copy). c.var) cs place d 0 l in
    result_is
    ∙ ap (λ (s : Span). end_cost s cost) (span_is ∙ ap (span_at zone) var)
    ∙ ap (end_cost (span_at zone (get_or cs place d).var)) (cost_is d)

pub least_fits : (zone : List Span) (proof : Proof) (block : Block) (place : ℕ) (vars : List ℕ) (span : Span) (cost : ℤ) → place < length block.copies
    → vars ≡ map (λ (c : Copy). c.var) block.copies → span ≡ span_at zone (get_or vars place 0)
    → ((d : Copy) → cost ≡ reduced_cost proof (get_or block.copies place d)) → block_size zone proof block ≤ price_limit
    → unsigned_abs cost * reach span < 2 ^ 127
least_fits zone proof block place vars span cost l vars_are span_is cost_is limit =
    let none : Copy = record { var = 0; cost = pos 0; coefs = [] } in
    let cs : List Copy = block.copies in
    let c : Copy = get_or cs place none in
    let var : get_or vars place 0 ≡ c.var = ap (λ (vs : List ℕ). get_or vs place 0) vars_are ∙ get_or-map (λ (k : Copy). k.var) cs place none 0 l in
    let one = get_or-le-sum_by (λ (k : Copy). unsigned_abs (reduced_cost proof k) * reach (span_at zone k.var)) cs place none l in
    let all = cost_size-maps (λ (k : Copy). span_at zone k.var) (reduced_cost proof) cs in
    let same : unsigned_abs cost * reach span ≡ unsigned_abs (reduced_cost proof c) * reach (span_at zone c.var) =
    ap (λ z. unsigned_abs z * reach span) (cost_is none) ∙ ap (λ (s : Span). unsigned_abs (reduced_cost proof c) * reach s) (span_is ∙ ap (span_at zone) var) in
    omega (arith, one, all, same, limit)

pub var_there : (zone : List Span) (cs : List Copy) (place : ℕ) (vars : List ℕ) → place < length cs → vars ≡ map (λ (c : Copy). c.var) cs
    → All (λ (c : Copy). c.var < length zone) cs → get_or vars place 0 < length zone
var_there zone cs place vars l vars_are there =
    let none : Copy = record { var = 0; cost = pos 0; coefs = [] } in
    subst (λ v. v < length zone)
    (sym (ap (λ (vs : List ℕ). get_or vs place 0) vars_are ∙ get_or-map (λ (k : Copy). k.var) cs place none 0 l))
    (there place none l)

-- the ends' magnitudes
leasts_within : (zone : List Span) (proof : Proof) (cs : List Copy)
    → sum_by (λ c. unsigned_abs (copy_least zone proof c)) cs ≤ sum_by (λ (c : Copy). unsigned_abs (reduced_cost proof c) * reach (span_at zone c.var)) cs
leasts_within zone proof cs =
    sum_by-smaller (λ c. unsigned_abs (copy_least zone proof c)) (λ (c : Copy). unsigned_abs (reduced_cost proof c) * reach (span_at zone c.var)) cs (each cs)
  where
    each : (cs : List Copy) → AllByRecursion (λ c. unsigned_abs (copy_least zone proof c) ≤ unsigned_abs (reduced_cost proof c) * reach (span_at zone c.var)) cs
    each [] = tt
    each (c ∷ cs) = (end_cost-within (span_at zone c.var) (reduced_cost proof c), each cs)

pub box_more : (zone : List Span) (proof : Proof) (block : Block) (i : ℕ) (sum more : ℤ) → i < length block.copies
    → sum ≡ sum_of (copy_least zone proof) (take i block.copies) → ((d : Copy) → more ≡ copy_least zone proof (get_or block.copies i d))
    → block_size zone proof block ≤ price_limit
    → (sum +ℤ more ≡ sum_of (copy_least zone proof) (take (i + 1) block.copies)) × (unsigned_abs (sum +ℤ more) ≤ price_limit)
box_more zone proof block i sum more l so_far next limit =
    let none : Copy = record { var = 0; cost = pos 0; coefs = [] } in
    let all = cost_size-maps (λ (k : Copy). span_at zone k.var) (reduced_cost proof) block.copies in
    let h = more_from (pos 0) (copy_least zone proof) block.copies i none sum more price_limit l (omega (arith, ints, so_far)) (next none)
    (omega (arith, leasts_within zone proof block.copies, all, limit)) in
    (omega (arith, ints, h.0), h.1)

pub box_all : (zone : List Span) (proof : Proof) (block : Block) (i : ℕ) (sum : ℤ) → length block.copies ≤ i
    → sum ≡ sum_of (copy_least zone proof) (take i block.copies) → sum ≡ block_least zone proof block
box_all zone proof block i sum l so_far =
    so_far ∙ ap (sum_of (copy_least zone proof)) (take_all i block.copies l)
    ∙ box_least-maps (λ (c : Copy). span_at zone c.var) (reduced_cost proof) block.copies

pub box_within : (zone : List Span) (proof : Proof) (block : Block) → unsigned_abs (block_least zone proof block) ≤ block_size zone proof block
box_within zone proof block =
    omega (
      arith,
      ints,
      box_least-maps (λ (c : Copy). span_at zone c.var) (reduced_cost proof) block.copies,
      sum_of-within (copy_least zone proof) block.copies,
      leasts_within zone proof block.copies,
      cost_size-maps (λ (k : Copy). span_at zone k.var) (reduced_cost proof) block.copies,
    )

-- ---- all blocks

pub blocks_within : (zone : List Span) (proof : Proof) (bs : List Block)
    → sum_by (λ k. unsigned_abs (block_least zone proof k)) bs ≤ sum_by (block_size zone proof) bs
blocks_within zone proof bs = sum_by-smaller (λ k. unsigned_abs (block_least zone proof k)) (block_size zone proof) bs (each bs)
  where
    each : (bs : List Block) → AllByRecursion (λ k. unsigned_abs (block_least zone proof k) ≤ block_size zone proof k) bs
    each [] = tt
    each (k ∷ ks) = (box_within zone proof k, each ks)

pub bound_more : (b : Blocking) (zone : List Span) (proof : Proof) (i : ℕ) (sum more : ℤ) → i < length b.blocks
    → sum ≡ base b proof +ℤ sum_of (block_least zone proof) (take i b.blocks) → more ≡ block_least zone proof (get_or b.blocks i (record { copies = []; rows = [] }))
    → bound_size b zone proof < price_limit
    → (sum +ℤ more ≡ base b proof +ℤ sum_of (block_least zone proof) (take (i + 1) b.blocks)) × (unsigned_abs (sum +ℤ more) ≤ price_limit)
bound_more b zone proof i sum more l so_far next limit =
    more_from (base b proof) (block_least zone proof) b.blocks i (record { copies = []; rows = [] }) sum more price_limit l so_far next
    (omega (arith, base_within b proof, blocks_within zone proof b.blocks, limit))

-- each block's least over its box is its part, where no block is picked
least_is_part : (zone : List Span) (proof : Proof) (k : ℕ) (block : Block) → IsProper zone → proof.picked ≡ These []
    → IsPart zone proof k block (block_least zone proof block)
least_is_part zone proof k block proper picked =
    let none : priced_rows proof.picked k block ≡ [] = ap (λ (p : Picked). priced_rows p k block) picked in
    subst (λ (rows : List Row). IsLeast rows (spans_of zone block) (map (reduced_cost proof) block.copies) (block_least zone proof block)) (sym none)
    (least_over_box_lem (spans_of zone block) (map (reduced_cost proof) block.copies)
    (All-from_recursion (λ (s : Span). s.lo ≤ℤ s.hi) (spans_of zone block) (spans block.copies))
    (length-map block.copies (reduced_cost proof) ∙ sym (length-map block.copies (λ (c : Copy). span_at zone c.var))))
  where
    proper_at : (v : ℕ) → (span_at zone v).lo ≤ℤ (span_at zone v).hi
    proper_at v = ⊎_elim
        (λ there. proper v (record { lo = pos 0; hi = pos 0 }) there)
        (λ past. subst (λ (s : Span). s.lo ≤ℤ s.hi) (sym (get_or_past zone v (record { lo = pos 0; hi = pos 0 }) past)) (omega (arith, ints)))
        (cases_lt v (length zone))

    spans : (cs : List Copy) → AllByRecursion (λ (s : Span). s.lo ≤ℤ s.hi) (map (λ (c : Copy). span_at zone c.var) cs)
    spans [] = tt
    spans (c ∷ cs) = (proper_at c.var, spans cs)

-- all parts give the bound
pub bound_is : (b : Blocking) (zone : List Span) (proof : Proof) (i : ℕ) (sum : ℤ) → IsProper zone → proof.picked ≡ These [] → length b.blocks ≤ i
    → sum ≡ base b proof +ℤ sum_of (block_least zone proof) (take i b.blocks) → IsBound b zone proof sum
bound_is b zone proof i sum proper picked l so_far =
    let none : Block = record { copies = []; rows = [] } in
    let value : sum ≡ base b proof +ℤ sum_of (λ z. z) (map (block_least zone proof) b.blocks) =
    so_far ∙ ap (λ (bs : List Block). base b proof +ℤ sum_of (block_least zone proof) bs) (take_all i b.blocks l)
    ∙ ap (λ z. base b proof +ℤ z) (sym (sum_of-map (λ z. z) (block_least zone proof) b.blocks)) in
    subst (IsBound b zone proof) (sym value)
    (parts_add_up_lem b zone proof (map (block_least zone proof) b.blocks) (length-map b.blocks (block_least zone proof))
    (λ k d m. subst (IsPart zone proof k (get_or b.blocks k d)) (sym (get_or-map (block_least zone proof) b.blocks k d (pos 0) m))
    (least_is_part zone proof k (get_or b.blocks k d) proper picked)))

pub bound_within : (b : Blocking) (zone : List Span) (proof : Proof) (i : ℕ) (sum : ℤ)
    → sum ≡ base b proof +ℤ sum_of (block_least zone proof) (take i b.blocks) → bound_size b zone proof < price_limit → unsigned_abs sum < price_limit
bound_within b zone proof i sum so_far limit =
    omega (arith, ints, so_far, sum_of_so_far_within (block_least zone proof) b.blocks i, base_within b proof, blocks_within zone proof b.blocks, limit)
