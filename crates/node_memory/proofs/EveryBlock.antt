-- How large the bound of all blocks without multipliers is: no larger than costs can get.
use Rattle.std.proofs.Common.{◌≡◌, ℕ, suc, ◌+◌, ◌*◌, ◌^◌, ◌<◌, ◌≤◌, Bool, true, false, if◌then◌else◌, List, [], ◌∷◌, ◌++◌, length, sum_by, All, refl, sym, ap, subst, ◌∙◌, ⊎_elim, arith}
use Rattle.std.proofs.Math.IntN.{ℤ, pos, ◌+ℤ◌, ◌-ℤ◌, ◌*ℤ◌}
use Rattle.std.specs.Prelude.{unsigned_abs, ◌≤ℤ◌}
use Rattle.std.specs.List.{range_with_len, flat_map, AllByRecursion}
use Rattle.std.proofs.Math.Nat.{mul-le-mul_left}
use Rattle.std.proofs.lemmas.Bool.{cases_lt}
use Rattle.std.proofs.lemmas.Int.{ints}
use Rattle.std.proofs.lemmas.List.{get_or_past}
use Rattle.std.proofs.lemmas.List.Elements.{recursion_from_All}
use Rattle.std.proofs.lemmas.List.Sums.{sum_by-cons, sum_by-le-sum_by}
use Rattle.bp_theory.specs.Sums.{sum_of, sum_at}
use Rattle.bp_theory.specs.Program.{Program, coefficient, span_at, reach}
use Rattle.bp_theory.specs.Blocking.{Copy, Block, Blocking, all_copies}
use Rattle.bp_theory.specs.Decomposition.{Decomposition, is_in, is_first, ProofRow, proof_rows, at_first, copy_of, blocking_of}
use Rattle.bp_theory.specs.Bound.{reduced_cost, IsBound, AreParts}
use Rattle.bp_theory.specs.Trees.{IsZone, IsSubspan}
use Rattle.bp_theory.specs.Cuts.{cut_rows}
use Rattle.bp_theory.specs.declared.Row.{Row}
use Rattle.bp_theory.specs.declared.Span.{Span}
use Rattle.bp_theory.specs.declared.Term.{Term}
use Rattle.bp_theory.specs.declared.Proof.{Proof}
use Rattle.bp_theory.proofs.SumLaws.{sum_of-same}
use Rattle.bp_theory.proofs.ZipLaws.{AllZip_at, AllZip-length}
use Rattle.bp_theory.proofs.DecompositionProof.{first_takes, copies_at, copies_past, coefficient_past, decomposition_lem}
use Rattle.bp_theory.proofs.CutProof.{cuts_are_met_lem}
use Rattle.block_program.specs.Blocked.{BlockedProgram, IsFormed}
use Rattle.search_laws.specs.Verdicts.{every_block}
use Rattle.reduced_costs.specs.Sizes.{block_size}
use Rattle.lagr_bound.proofs.PartLemmas.{part_within}
use Rattle.reduced_costs.proofs.Sums.{sum_by-flat_map, copies_within, cost_size-maps}

-- ---- what the copies cost together

abs_first : (t : Bool) (z : ℤ) → pos (unsigned_abs (at_first t z)) ≡ (if t then pos (unsigned_abs z) else pos 0)
abs_first true z = refl
abs_first false z = refl

copies_of : Program → Decomposition → List Row → List Copy
copies_of p d cuts = all_copies (blocking_of p d cuts)

-- the rows of the program's cuts
abbrev pub cuts_of : BlockedProgram → List Row
cuts_of b = cut_rows b.named.program b.dec [] b.cuts

weights : (p : Program) (d : Decomposition) (cuts : List Row) (w : Copy → ℤ) (terms : List Term) → AllByRecursion (λ (t : Term). t.var < length p.spans) terms
    → ((first : Bool) (v k : ℕ) → w (copy_of p (proof_rows p d cuts) first v k) ≡ at_first first (coefficient terms v))
    → (v : ℕ) → sum_at (λ (c : Copy). c.var) (λ c. pos (unsigned_abs (w c))) (copies_of p d cuts) v ≡ pos (unsigned_abs (coefficient terms v))
unfolding copies_of
weights p d cuts w terms closed e v = ⊎_elim there past (cases_lt v (length p.spans))
  where
    rows : List ProofRow
    rows = proof_rows p d cuts

    g : ℤ
    g = coefficient terms v

    f : Copy → ℤ
    f c = pos (unsigned_abs (w c))

    weight : (first : Bool) (k : ℕ) → pos (unsigned_abs (w (copy_of p (proof_rows p d cuts) first v k))) ≡ (if first then pos (unsigned_abs (coefficient terms v)) else pos 0)
    weight first k = ap (λ z. pos (unsigned_abs z)) (e first v k) ∙ abs_first first (coefficient terms v)

    there : v < length p.spans → sum_at (λ (c : Copy). c.var) (λ c. pos (unsigned_abs (w c))) (all_copies (blocking_of p d cuts)) v ≡ pos (unsigned_abs (coefficient terms v))
    there l =
        copies_at p d (proof_rows p d cuts) (λ c. pos (unsigned_abs (w c))) v l
        ∙ ap (λ z. z +ℤ (if is_first p d v d.blocks then pos (unsigned_abs (w (copy_of p (proof_rows p d cuts) true v d.blocks))) else pos 0))
        (sum_of-same
        (λ k. if is_in p d v k then pos (unsigned_abs (w (copy_of p (proof_rows p d cuts) (is_first p d v k) v k))) else pos 0)
        (λ k. if is_in p d v k then (if is_first p d v k then pos (unsigned_abs (coefficient terms v)) else pos 0) else pos 0)
        (λ k. ap (λ z. if is_in p d v k then z else pos 0) (weight (is_first p d v k) k))
        (range_with_len 0 d.blocks))
        ∙ ap (λ z. sum_of (λ k. if is_in p d v k then (if is_first p d v k then pos (unsigned_abs (coefficient terms v)) else pos 0) else pos 0) (range_with_len 0 d.blocks)
        +ℤ (if is_first p d v d.blocks then z else pos 0)) (weight true d.blocks)
        ∙ first_takes (is_in p d v) (pos (unsigned_abs (coefficient terms v))) d.blocks

    past : length p.spans ≤ v → sum_at (λ (c : Copy). c.var) (λ c. pos (unsigned_abs (w c))) (all_copies (blocking_of p d cuts)) v ≡ pos (unsigned_abs (coefficient terms v))
    past l =
        copies_past p d (proof_rows p d cuts) (λ c. pos (unsigned_abs (w c))) v l
        ∙ sym (ap (λ z. pos (unsigned_abs z)) (coefficient_past (length p.spans) v terms closed l))

-- what holds of the copies of each block holds of all copies
all_of_blocks : (P : Copy → Type 0) (bs : List Block) → AllByRecursion (λ (k : Block). All P k.copies) bs → AllByRecursion P (flat_map (λ (k : Block). k.copies) bs)
all_of_blocks P [] h = tt
all_of_blocks P (k ∷ ks) h = joined k.copies (recursion_from_All P k.copies h.0) (all_of_blocks P ks h.1)
  where
    joined : (cs : List Copy) → AllByRecursion P cs → AllByRecursion P (flat_map (λ (k : Block). k.copies) ks) → AllByRecursion P (cs ++ flat_map (λ (k : Block). k.copies) ks)
    joined [] g rest = rest
    joined (c ∷ cs) g rest = (g.0, joined cs g.1 rest)

pub known : (b : BlockedProgram) → IsFormed b → All (λ (k : Block). All (λ (c : Copy). c.var < length b.named.program.spans) k.copies) (blocking_of b.named.program b.dec (cuts_of b)).blocks
known b formed = (decomposition_lem.adds_up b.named.program b.dec (cuts_of b) formed.kept.closed (cuts_are_met_lem.closed b.named.program b.dec b.cuts)).known

known_copies : (b : BlockedProgram) → IsFormed b → AllByRecursion (λ (c : Copy). c.var < length b.named.program.spans) (copies_of b.named.program b.dec (cuts_of b))
unfolding copies_of
known_copies b formed =
    let n : ℕ = length b.named.program.spans in
    let bs : List Block = (blocking_of b.named.program b.dec (cuts_of b)).blocks in
    all_of_blocks (λ (c : Copy). c.var < n) bs (recursion_from_All (λ (k : Block). All (λ (c : Copy). c.var < n) k.copies) bs (known b formed))

-- what all copies weigh in the costs
costs_weigh : (b : BlockedProgram) → IsFormed b
    → sum_by (λ (c : Copy). unsigned_abs c.cost * reach (span_at b.named.program.spans c.var)) (copies_of b.named.program b.dec (cuts_of b))
    ≤ sum_by (λ (t : Term). unsigned_abs t.coef * reach (span_at b.named.program.spans t.var)) b.named.program.costs
costs_weigh b formed =
    let p : Program = b.named.program in
    let closed = recursion_from_All (λ (t : Term). t.var < length p.spans) p.costs formed.kept.closed.costs in
    copies_within (λ (c : Copy). unsigned_abs c.cost) (λ v. reach (span_at p.spans v)) (length p.spans) (copies_of p b.dec (cuts_of b)) p.costs
    (known_copies b formed) closed (weights p b.dec (cuts_of b) (λ (c : Copy). c.cost) p.costs closed (λ first v k. refl))

-- ---- zones

-- a zone's spans reach no further than the program's
reach_within : (spans zone : List Span) → IsZone spans zone → (v : ℕ) → reach (span_at zone v) ≤ reach (span_at spans v)
reach_within spans zone h v = ⊎_elim
    (λ there.
    let inside = AllZip_at IsSubspan zone spans h.inside v (record { lo = pos 0; hi = pos 0 }) (record { lo = pos 0; hi = pos 0 }) there in
    let proper = h.proper v (record { lo = pos 0; hi = pos 0 }) there in
    narrower (span_at zone v) (span_at spans v) inside.above inside.below proper)
    (λ past.
    let same = AllZip-length IsSubspan zone spans h.inside in
    omega (
      arith,
      ap (λ (s : Span). reach s) (get_or_past zone v (record { lo = pos 0; hi = pos 0 }) past),
      ap (λ (s : Span). reach s) (get_or_past spans v (record { lo = pos 0; hi = pos 0 }) (omega (arith, past, same))),
    ))
    (cases_lt v (length zone))
  where
    narrower : (s t : Span) → t.lo ≤ℤ s.lo → s.hi ≤ℤ t.hi → s.lo ≤ℤ s.hi → reach s ≤ reach t
    narrower s t low high proper = omega (arith, ints, low, high, proper)

-- ---- the bound

-- the parts add up to no more than the blocks' sizes
parts_within : (zone : List Span) (proof : Proof) (k : ℕ) (bs : List Block) (vs : List ℤ) → AreParts zone proof k bs vs
    → unsigned_abs (sum_of (λ z. z) vs) ≤ sum_by (block_size zone proof) bs
parts_within zone proof k [] [] h = omega (arith, ints)
parts_within zone proof k [] (v ∷ vs) h = absurd h
parts_within zone proof k (b ∷ bs) [] h = absurd h
parts_within zone proof k (b ∷ bs) (v ∷ vs) h =
    together v (sum_of (λ z. z) vs) (block_size zone proof b) (sum_by (block_size zone proof) bs) _ (part_within zone proof k b v h.0)
    (parts_within zone proof (suc k) bs vs h.1) (sum_by-cons (block_size zone proof) b bs)
  where
    together : (a c : ℤ) (m n t : ℕ) → unsigned_abs a ≤ m → unsigned_abs c ≤ n → t ≡ m + n → unsigned_abs (a +ℤ c) ≤ t
    together a c m n t h g e = omega (arith, ints, h, g, e)

-- without multipliers a block's size is that of its copies' costs
size_within : (spans zone : List Span) → IsZone spans zone → (k : Block)
    → block_size zone every_block k ≤ sum_by (λ (c : Copy). unsigned_abs c.cost * reach (span_at spans c.var)) k.copies
size_within spans zone in_root k =
    let own : sum_by (λ (c : Copy). unsigned_abs (reduced_cost every_block c) * reach (span_at zone c.var)) k.copies ≡ block_size zone every_block k =
    cost_size-maps (λ (c : Copy). span_at zone c.var) (reduced_cost every_block) k.copies in
    let less = sum_by-le-sum_by (λ (c : Copy). unsigned_abs (reduced_cost every_block c) * reach (span_at zone c.var)) (λ (c : Copy). unsigned_abs c.cost * reach (span_at spans c.var)) k.copies each in
    omega (arith, own, less)
  where
    same : (z : ℤ) → unsigned_abs ((pos 1 *ℤ z) -ℤ pos 0) ≡ unsigned_abs z
    same z = omega (arith, ints)

    each : (c : Copy) → unsigned_abs (reduced_cost every_block c) * reach (span_at zone c.var) ≤ unsigned_abs c.cost * reach (span_at spans c.var)
    each c =
        let wider : unsigned_abs c.cost * reach (span_at zone c.var) ≤ unsigned_abs c.cost * reach (span_at spans c.var) =
        mul-le-mul_left (unsigned_abs c.cost) (reach_within spans zone in_root c.var) in
        omega (arith, wider, ap (λ n. n * reach (span_at zone c.var)) (same c.cost))

-- the bound of all blocks without multipliers keeps the limit of costs
pub every_small : (b : BlockedProgram) (zone : List Span) (v : ℤ) → IsFormed b → IsZone b.named.program.spans zone → IsBound b.blocking zone every_block v
    → unsigned_abs v < 2 ^ 62
unfolding copies_of
every_small b zone v formed in_root bound =
    let p : Program = b.named.program in
    let bs : List Block = (blocking_of p b.dec (cuts_of b)).blocks in
    let f : Copy → ℕ = λ c. unsigned_abs c.cost * reach (span_at p.spans c.var) in
    let formed_bound : IsBound (blocking_of p b.dec (cuts_of b)) zone every_block v = subst (λ (k : Blocking). IsBound k zone every_block v) formed.blocking bound in
    let parts = parts_within zone every_block 0 bs formed_bound.parts formed_bound.are_parts in
    let sizes = sum_by-le-sum_by (block_size zone every_block) (λ (k : Block). sum_by f k.copies) bs (size_within p.spans zone in_root) in
    let flat = sum_by-flat_map f (λ (k : Block). k.copies) bs in
    all p.constant v (sum_of (λ z. z) formed_bound.parts) _ _ _ _ (total p.constant v (sum_of (λ z. z) formed_bound.parts) formed_bound.total) parts sizes flat (costs_weigh b formed) formed.kept.cost_activity
  where
    total : (c v s : ℤ) → v ≡ ((pos 1 *ℤ c) +ℤ pos 0) +ℤ s → v ≡ c +ℤ s
    total c v s e = omega (arith, ints, e)

    all : (c v s : ℤ) (blocks copies flat terms : ℕ) → v ≡ c +ℤ s → unsigned_abs s ≤ blocks → blocks ≤ copies → flat ≡ copies → flat ≤ terms
        → unsigned_abs c + terms < 2 ^ 62 → unsigned_abs v < 2 ^ 62
    all c v s blocks copies flat terms e h g f k l = omega (arith, ints, e, h, g, f, k, l)
