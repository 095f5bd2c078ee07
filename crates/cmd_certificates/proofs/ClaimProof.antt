-- What is claimed of a merged tree is no worse than what either certificate claims.
use Rattle.std.proofs.Common.{◌≡◌, inl, inr, ⊎_elim, refl, sym, ap, subst, ◌∙◌, ℕ, ◌-◌, ◌<◌, ◌^◌, Bool, true, false, List, [], ◌∷◌, ◌++◌, Option, Some, None, arith}
use Rattle.std.proofs.Math.IntN.{ℤ, pos, ◌-ℤ◌, ◌*ℤ◌, zero-*ℤ}
use Rattle.std.specs.Prelude.{◌≤ℤ◌, ◌<ℤ◌, IfSome, unsigned_abs, option_to_list, All}
use Rattle.std.specs.List.{AllByRecursion}
use Rattle.std.specs.Int.{int_min}
use Rattle.std.proofs.lemmas.Int.{ints, clamps, by_lt_z}
use Rattle.std.proofs.lemmas.Bool.{cases_lt}
use Rattle.std.proofs.lemmas.List.Elements.{All-from_recursion, recursion_from_All, All-contains}
use Rattle.bp_theory.specs.Sums.{round_up}
use Rattle.bp_theory.specs.Program.{Program, IsFeasible, cost, value, in_sense}
use Rattle.bp_theory.specs.Blocking.{Blocking}
use Rattle.bp_theory.specs.Bound.{IsBound, IsEndless}
use Rattle.bp_theory.specs.Trees.{Tree, shut_leaf, open_leaf, split, Leaf, leaves, low_part, high_part}
use Rattle.bp_theory.specs.Claims.{Holds, Empties, Certificate, Shows, PointFits, IsValid, IsTrueClaim}
use Rattle.bp_theory.specs.declared.Span.{Span}
use Rattle.bp_theory.specs.declared.Proof.{Proof}
use Rattle.bp_theory.specs.declared.Cut.{Cut}
use Rattle.bp_theory.specs.declared.Claim.{Claim}
use Rattle.bp_theory.specs.declared.Claim.TheVariants.{Optimal, Infeasible, Bound}
use Rattle.bp_theory.proofs.Whole.{le-mul_pos}
use Rattle.bp_theory.proofs.CutProof.{le-round_up, certified_is_true_lem}
use Rattle.bp_theory.proofs.ShrinkProof.{one_bound_lem}
use Rattle.bp_theory.proofs.TruthProof.{older_lem, in_sense_twice}
use Rattle.block_program.specs.Blocked.{BlockedProgram, IsFormed}
use Rattle.cert_load.specs.Recut.{with_cuts}
use Rattle.search_laws.specs.Grove.{GrowingTree, live, shut, fork, live_bounds}
use Rattle.search_laws.specs.GroveFacts.{Settles, IsNoDearer, best_cost}
use Rattle.search_laws.specs.Loading.{rounded_bound, LoadsLeaf, Loads}
use Rattle.search_laws.specs.Verdicts.{better, cheaper_cost}
use Rattle.search_laws.proofs.Places.{recursion_parts, recursion-append}
use Rattle.branch_tree.specs.Groves.{GroveState}
use Rattle.branch_tree.specs.Adopted.{point_in}
use Rattle.branch_tree.specs.declared.loaded.Loaded.{Loaded}
use Rattle.branch_tree.specs.declared.outcome.Outcome.{Outcome}
use Rattle.branch_tree.specs.declared.outcome.Outcome.TheVariants as ends
use Rattle.tree_merge.specs.Merging.{merged}
use Rattle.tree_merge.specs.Merges.{cost_in, IsMergedOf}
use Rattle.tree_merge.proofs.BoundProof.{Rises, IsOver, over_first, over_second, shut_over}
use Rattle.tree_merge.proofs.KeepProof.{better_cost}
use Rattle.tree_merge.proofs.LoadedProof.{cheaper_point}
use Rattle.bp_search.specs.Ends.{EndsWithin, grove_in, point_of}
use Rattle.cert_text.specs.Outcomes.{claim_of}
use Rattle.cert_text.specs.Programs.{IsSmallClaim}
use Rattle.cmd_certificates.specs.Claims.{claimed_bound, claimed_cost, IsMergedClaim}
use Rattle.cmd_certificates.specs.Opens.{IsOpened}

-- ---- values

-- the value that a claim names is that of its point
named_twice : (p : Program) (v : ℤ) (x : List ℤ) → value p x ≡ v → in_sense p.maximises v ≡ cost p x
named_twice p v x is = ap (in_sense p.maximises) (sym is) ∙ in_sense_twice p.maximises (cost p x)

point_cost : (p : Program) (claim : Claim) (point : Option (List ℤ)) → PointFits p claim point → claimed_cost p claim ≡ best_cost p point
point_cost p (Optimal v) None fits = absurd fits
point_cost p (Optimal v) (Some x) fits = ap Some (named_twice p v x fits.has_value)
point_cost p Infeasible None fits = refl
point_cost p Infeasible (Some x) fits = absurd fits
point_cost p (Bound bound None) None fits = refl
point_cost p (Bound bound None) (Some x) fits = absurd fits
point_cost p (Bound bound (Some v)) None fits = absurd fits
point_cost p (Bound bound (Some v)) (Some x) fits = ap Some (named_twice p v x fits.has_value)

outcome_cost : (b : BlockedProgram) (most : ℕ) (o : Outcome) → EndsWithin b most o
    → claimed_cost b.named.program (claim_of b.named.program.maximises o) ≡ best_cost b.named.program (point_of o)
outcome_cost b most (ends.Optimal g point z) is = ap Some (in_sense_twice b.named.program.maximises z ∙ is.is_cost)
outcome_cost b most (ends.Infeasible g) is = refl
outcome_cost b most (ends.Budget g None bound) is = refl
outcome_cost b most (ends.Budget g (Some k) bound) is = ap Some (in_sense_twice b.named.program.maximises k.1 ∙ is.kept.1)

-- ---- bounds

-- a true claim's bound is no worse than the cost of any feasible point
true_bound : (p : Program) (claim : Claim) (x : List ℤ) → IsTrueClaim p claim → IsFeasible p x → IsNoDearer (claimed_bound p claim) (Some (cost p x))
true_bound p (Optimal v) x best feasible =
    subst (λ (z : ℤ). z ≤ℤ cost p x) (sym (named_twice p v best.0 best.2)) (best.1.least x feasible)
true_bound p Infeasible x none feasible = absurd (none x feasible)
true_bound p (Bound bound None) x each feasible = each x feasible
true_bound p (Bound bound (Some v)) x each feasible = each.0 x feasible

-- what the live bounds of a certificate's loaded tree are: no less than the claimed bound, and there are none under a final claim
abbrev Over : Program → Claim → ℤ → Type 0
Over p (Optimal v) z = ⊥
Over p Infeasible z = ⊥
Over p (Bound bound v) z = in_sense p.maximises bound ≤ℤ z

over_rises : (p : Program) (claim : Claim) → Rises (Over p claim)
over_rises p (Optimal v) z w l h = h
over_rises p Infeasible z w l h = h
over_rises p (Bound bound v) z w l h = omega (arith, ints, l, h)

over_bound : (p : Program) (claim : Claim) (z : ℤ) → Over p claim z → IsNoDearer (claimed_bound p claim) (Some z)
over_bound p (Optimal v) z h = absurd h
over_bound p Infeasible z h = absurd h
over_bound p (Bound bound v) z h = h

-- ---- the leaves of a loaded tree

settled_by_endless : (b : Blocking) (best : Option ℤ) (zone : List Span) (proof : Proof) → IsEndless b zone proof → Settles b best zone proof
settled_by_endless b None zone proof h = inl h
settled_by_endless b (Some z) zone proof h = inl h

settled_by_empty : (b : Blocking) (best : Option ℤ) (zone : List Span) (proof : Proof) → Empties b zone proof → Settles b best zone proof
settled_by_empty b None zone proof h = h
settled_by_empty b (Some z) zone proof h = older_lem.emptied b zone proof z h

-- a bound that settles nothing but holds for a number comes from a positive scale
positive_scale : (b : Blocking) (best : Option ℤ) (zone : List Span) (proof : Proof) (z v : ℤ) → (Settles b best zone proof → ⊥) → IsBound b zone proof v
    → (pos proof.scale *ℤ (z -ℤ pos 1)) <ℤ v → 0 < proof.scale
positive_scale b best zone proof z v not bound above = ⊎_elim
    (λ none. absurd (not (settled_by_empty b best zone proof (inr (v, bound, zero_scale none, positive (zero_scale none))))))
    (λ some. some)
    (cases_lt proof.scale 1)
  where
    zero_scale : proof.scale < 1 → proof.scale ≡ 0
    zero_scale h = omega (arith, h)

    positive : proof.scale ≡ 0 → pos 0 <ℤ v
    positive e = omega (arith, ints, above, ap (λ s. pos s *ℤ (z -ℤ pos 1)) e, zero-*ℤ (z -ℤ pos 1))

rounded_above : (s : ℕ) (z v : ℤ) → 0 < s → (pos s *ℤ (z -ℤ pos 1)) <ℤ v → z ≤ℤ round_up v s
rounded_above s z v positive above = by_lt_z (round_up v s) z
    (λ less. absurd (omega (arith, ints, above, le-round_up v s positive, le-mul_pos s (round_up v s) (z -ℤ pos 1) (omega (arith, ints, less)))))
    (λ more. more)

cut_above : (z r : ℤ) → unsigned_abs z < 2 ^ 62 → z ≤ℤ r → z ≤ℤ int_min r (pos (2 ^ 62 - 1))
cut_above z r h l = grind (arith, ints, clamps)

-- what a proof holds for, its rounded bound is no less than
holds_rounded : (b : Blocking) (best : Option ℤ) (zone : List Span) (proof : Proof) (z v : ℤ) → unsigned_abs z < 2 ^ 62 → Holds b zone proof z
    → (Settles b best zone proof → ⊥) → IsBound b zone proof v → z ≤ℤ rounded_bound v proof
holds_rounded b best zone proof z v small (inl endless) not bound = absurd (not (settled_by_endless b best zone proof endless))
holds_rounded b best zone proof z v small (inr found) not bound =
    let same : found.0 ≡ v = one_bound_lem.one b zone proof found.0 v found.1 bound in
    let above : (pos proof.scale *ℤ (z -ℤ pos 1)) <ℤ v = subst (λ u. (pos proof.scale *ℤ (z -ℤ pos 1)) <ℤ u) same found.2 in
    cut_above z (round_up v proof.scale) small (rounded_above proof.scale z v (positive_scale b best zone proof z v not bound above) above)

-- what a leaf that isn't settled gives its loaded one
abbrev Gives : Blocking → Option ℤ → (ℤ → Type 0) → Leaf → Type 0
Gives b best P leaf = (v : ℤ) → (Settles b best leaf.zone leaf.proof → ⊥) → IsBound b leaf.zone leaf.proof v → P (rounded_bound v leaf.proof)

small_sense : (m : Bool) (z : ℤ) → unsigned_abs z < 2 ^ 62 → unsigned_abs (in_sense m z) < 2 ^ 62
small_sense true z small = omega (arith, ints, small)
small_sense false z small = small

small_bound : (bound : ℤ) (v : Option ℤ) → IsSmallClaim (Bound bound v) → unsigned_abs bound < 2 ^ 62
small_bound bound None h = h
small_bound bound (Some v) h = h.0

claim_gives : (p : Program) (b : Blocking) (claim : Claim) (point : Option (List ℤ)) (leaf : Leaf) → IsSmallClaim claim → PointFits p claim point → Shows p b claim leaf
    → Gives b (best_cost p point) (Over p claim) leaf
claim_gives p b (Optimal v) None leaf small fits shows = absurd fits
claim_gives p b (Optimal v) (Some x) leaf small fits shows = λ z not bound.
    not (subst (λ y. Holds b leaf.zone leaf.proof y) (named_twice p v x fits.has_value) shows)
claim_gives p b Infeasible None leaf small fits shows = λ z not bound. not shows
claim_gives p b Infeasible (Some x) leaf small fits shows = absurd fits
claim_gives p b (Bound bound v) point leaf small fits shows = λ z not is.
    holds_rounded b (best_cost p point) leaf.zone leaf.proof (in_sense p.maximises bound) z (small_sense p.maximises bound (small_bound bound v small)) shows not is

leaf_over : (b : Blocking) (best : Option ℤ) (P : ℤ → Type 0) (zone : List Span) (proof : Proof) (is_open : Bool) (t : GrowingTree)
    → Gives b best P (record { zone = zone; proof = proof; is_open = is_open }) → LoadsLeaf b best zone proof t → IsOver P t
leaf_over b best P zone proof is_open (live own bound) gives loads = (subst P (sym loads.2.2) (gives loads.2.0 loads.1 loads.2.1), tt)
leaf_over b best P zone proof is_open (shut own) gives loads = tt
leaf_over b best P zone proof is_open (fork v at low high) gives loads = absurd loads

loaded_over : (b : Blocking) (best : Option ℤ) (P : ℤ → Type 0) (zone : List Span) (tree : Tree) (t : GrowingTree)
    → AllByRecursion (Gives b best P) (leaves tree zone) → Loads b best zone tree t → IsOver P t
loaded_over b best P zone (shut_leaf proof) t gives loads = leaf_over b best P zone proof false t gives.0 loads
loaded_over b best P zone (open_leaf proof) t gives loads = leaf_over b best P zone proof true t gives.0 loads
loaded_over b best P zone (split v at low high) (live own bound) gives loads = absurd loads
loaded_over b best P zone (split v at low high) (shut own) gives loads = absurd loads
loaded_over b best P zone (split v at low high) (fork w a first second) gives loads =
    let parts = recursion_parts (Gives b best P) (leaves low (low_part zone v at)) (leaves high (high_part zone v at)) gives in
    recursion-append P (live_bounds first) (live_bounds second)
    (loaded_over b best P (low_part zone v at) low first parts.0 loads.2) (loaded_over b best P (high_part zone v at) high second parts.1 loads.3)

-- ---- a certificate that was opened

opened_over : (b : BlockedProgram) (text : List ℕ) (from : Loaded) → (one : IsOpened b text from) → IsOver (Over b.named.program one.cert.claim) from.grove.tree
opened_over b text from one =
    let p : Program = b.named.program in
    let cert : Certificate = one.cert in
    let k : Blocking = (with_cuts b cert.cuts).blocking in
    let valid : IsValid p k cert = one.valid.valid in
    let best : Option ℤ = best_cost p cert.point in
    let P : ℤ → Type 0 = Over p cert.claim in
    let gives : All (Gives k best P) (leaves cert.tree p.spans) = λ n d l. claim_gives p k cert.claim cert.point _ one.goes_with.claim valid.point (valid.shown n d l) in
    subst (IsOver P) (sym one.loaded.adopted.tree)
    (loaded_over k best P p.spans cert.tree one.loaded.tree (recursion_from_All (Gives k best P) (leaves cert.tree p.spans) gives) one.loaded.loads)

-- ---- what is claimed

-- where no live bound of an outcome's tree is below a true claim's bound, the outcome's own is no worse
no_worse : (b : BlockedProgram) (most : ℕ) (claim : Claim) (g : GroveState) (o : Outcome) → EndsWithin b most o → IsTrueClaim b.named.program claim
    → grove_in o ≡ g → IsOver (Over b.named.program claim) g.tree
    → IsNoDearer (claimed_bound b.named.program claim) (claimed_bound b.named.program (claim_of b.named.program.maximises o))
no_worse b most claim g (ends.Optimal h point z) is true' same over =
    let p : Program = b.named.program in
    subst (λ (c : ℤ). IsNoDearer (claimed_bound p claim) (Some c)) (sym (in_sense_twice p.maximises z ∙ is.is_cost))
    (true_bound p claim point true' is.searched.search.feasible)
no_worse b most claim g (ends.Infeasible h) is true' same over = tt
no_worse b most claim g (ends.Budget h best bound) is true' same over =
    let p : Program = b.named.program in
    let known : Option (List ℤ) = point_of (ends.Budget h best bound) in
    let Q : ℤ → Type 0 = λ (z : ℤ). IsNoDearer (claimed_bound p claim) (Some z) in
    let here : IsOver (Over p claim) h.tree = subst (λ (k : GroveState). IsOver (Over p claim) k.tree) (sym same) over in
    let lives : AllByRecursion Q (live_bounds h.tree) = weaker (Over p claim) Q (over_bound p claim) (live_bounds h.tree) here in
    subst (λ (c : ℤ). IsNoDearer (claimed_bound p claim) (Some c)) (sym (in_sense_twice p.maximises bound))
    (All-contains Q (live_bounds h.tree ++ option_to_list (best_cost p known)) bound
    (All-from_recursion Q (live_bounds h.tree ++ option_to_list (best_cost p known))
    (recursion-append Q (live_bounds h.tree) (option_to_list (best_cost p known)) lives (costs known is.searched.search.feasible)))
    is.remaining.reached)
  where
    weaker : (P Q : ℤ → Type 0) → ((z : ℤ) → P z → Q z) → (zs : List ℤ) → AllByRecursion P zs → AllByRecursion Q zs
    weaker P Q f [] all = tt
    weaker P Q f (z ∷ zs) all = (f z all.0, weaker P Q f zs all.1)

    costs : (known : Option (List ℤ)) → IfSome known (IsFeasible b.named.program)
        → AllByRecursion (λ (z : ℤ). IsNoDearer (claimed_bound b.named.program claim) (Some z)) (option_to_list (best_cost b.named.program known))
    costs None feasible = tt
    costs (Some x) feasible = (true_bound b.named.program claim x true' feasible, tt)

pub merged_claim : (b : BlockedProgram) (cuts : List Cut) (most : ℕ) (text more : List ℕ) (first second from : Loaded) (o : Outcome) → IsFormed b → (one : IsOpened b text first)
    → (other : IsOpened b more second) → IsMergedOf first second from → EndsWithin (with_cuts b cuts) most o → grove_in o ≡ from.grove → point_of o ≡ point_in from.best
    → IsMergedClaim b.named.program one.cert.claim other.cert.claim (claim_of b.named.program.maximises o)
merged_claim b cuts most text more first second from o formed one other is ended grove point =
    let p : Program = b.named.program in
    let c : Certificate = one.cert in
    let d : Certificate = other.cert in
    let x : Option ℤ = cost_in first.best in
    let y : Option ℤ = cost_in second.best in
    let valid = one.valid.valid in
    let beside = other.valid.valid in
    let points : point_of o ≡ better p c.point d.point =
    point ∙ ap point_in is.best ∙ cheaper_point p first.best second.best one.loaded.loaded.costs other.loaded.loaded.costs
    ∙ ap (λ (k : Option (List ℤ)). better p k (point_in second.best)) one.loaded.point ∙ ap (better p c.point) other.loaded.point in
    record {
      value = outcome_cost (with_cuts b cuts) most o ended ∙ ap (best_cost p) points ∙ better_cost p c.point d.point
          ∙ ap (λ (k : Option ℤ). cheaper_cost k (best_cost p d.point)) (sym (point_cost p c.claim c.point valid.point))
          ∙ ap (cheaper_cost (claimed_cost p c.claim)) (sym (point_cost p d.claim d.point beside.point));
      first = no_worse (with_cuts b cuts) most c.claim from.grove o ended (certified_is_true_lem p b.dec c formed.kept.closed one.valid) grove
          (subst (IsOver (Over p c.claim)) (sym is.tree)
          (shut_over (Over p c.claim) (merged first.grove.tree second.grove.tree) (cheaper_cost x y)
          (over_first (Over p c.claim) (over_rises p c.claim) first.grove.tree second.grove.tree (opened_over b text first one))));
      second = no_worse (with_cuts b cuts) most d.claim from.grove o ended (certified_is_true_lem p b.dec d formed.kept.closed other.valid) grove
          (subst (IsOver (Over p d.claim)) (sym is.tree)
          (shut_over (Over p d.claim) (merged first.grove.tree second.grove.tree) (cheaper_cost x y)
          (over_second (Over p d.claim) (over_rises p d.claim) first.grove.tree second.grove.tree (opened_over b more second other))));
    }
