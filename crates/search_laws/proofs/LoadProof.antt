-- Loading a certificate, and ending a search that was stopped.
use Rattle.std.proofs.Common.{◌≡◌, ◌⊎◌, refl, sym, ap, subst, ◌∙◌, ℕ, ◌-◌, ◌<◌, ◌≤◌, ◌^◌, Bool, true, false, lit<, List, [], ◌∷◌, ◌++◌, length, Option, Some, None, arith, inl, inr, ⊎_elim}
use Rattle.std.proofs.Math.IntN.{ℤ, pos, ◌-ℤ◌, ◌*ℤ◌, zero-*ℤ}
use Rattle.std.specs.Prelude.{◌≤ℤ◌, ◌<ℤ◌, IfSome, unsigned_abs, All}
use Rattle.std.specs.List.{AllByRecursion}
use Rattle.std.specs.Int.{int_min}
use Rattle.std.proofs.lemmas.Int.{ints, clamps, by_lt_z}
use Rattle.std.proofs.lemmas.Bool.{cases_lt}
use Rattle.std.proofs.lemmas.List.Elements.{All-from_recursion, recursion_from_All}
use Rattle.bp_theory.specs.Sums.{round_up}
use Rattle.bp_theory.specs.Program.{Program, IsFeasible, IsBest, cost, in_sense}
use Rattle.bp_theory.specs.Blocking.{Blocking, IsFaithful}
use Rattle.bp_theory.specs.Bound.{IsBound, IsEndless, Fits}
use Rattle.bp_theory.specs.Trees.{Tree, shut_leaf, open_leaf, split, Leaf, leaves, low_part, high_part, HasSoundSplits, IsSoundSplit, IsProper}
use Rattle.bp_theory.specs.Claims.{Holds, Empties, Certificate, Shows, PointFits, IsValid}
use Rattle.bp_theory.specs.declared.Limits.{Limits}
use Rattle.bp_theory.specs.declared.Span.{Span}
use Rattle.bp_theory.specs.declared.Proof.{Proof}
use Rattle.bp_theory.specs.declared.Claim.{Claim}
use Rattle.bp_theory.specs.declared.Claim.TheVariants.{Optimal, Infeasible, Bound}
use Rattle.bp_theory.proofs.Whole.{le-mul_pos}
use Rattle.bp_theory.proofs.CutProof.{le-round_up}
use Rattle.bp_theory.proofs.ShrinkProof.{one_bound_lem}
use Rattle.bp_theory.proofs.ClassProof.{split_shrinks_lem}
use Rattle.bp_theory.proofs.RoundProof.{rounded_holds_lem}
use Rattle.bp_theory.proofs.TruthProof.{older_lem, in_sense_twice}
use Rattle.search_laws.specs.declared.Side.{Side}
use Rattle.search_laws.specs.declared.Side.TheVariants.{Low, High}
use Rattle.search_laws.specs.Grove.{GrowingTree, live, shut, fork, GrowingLeaf, leaves_below, growing_leaves, live_count, certificate_tree}
use Rattle.search_laws.specs.GroveFacts.{IsSoundProof, KeepsBound, IsKept, Settles, SettlesIfShut, IsSettled, KeepsDepth, IsShallow, IsSized, IsSearch, best_cost, IsRemainingBound}
use Rattle.search_laws.specs.Crew.{Crew, CrewEvent, IsRun, idle_crew}
use Rattle.search_laws.specs.Loading.{rounded_bound, LoadsLeaf, Loads, IsReadable, IsFinalClaim, HasSmallBound}
use Rattle.search_laws.specs.Outcomes.{final_claim, stopped_claim, read_off}
use Rattle.search_laws.specs.Laws.{LoadKeeps, ResumeAgrees}
use Rattle.search_laws.proofs.Places.{recursion_parts, recursion-append}
use Rattle.search_laws.proofs.OutcomeProof.{search_is_right_lem, read_off_is_valid_lem, of_leaves}
use Rattle.search_laws.proofs.CrewProof.{events_keep_lem, runs_keep_lem}

-- ---- one leaf

-- an endless bound settles a zone
settled_by_endless : (b : Blocking) (best : Option ℤ) (zone : List Span) (proof : Proof) → IsEndless b zone proof → Settles b best zone proof
settled_by_endless b None zone proof h = inl h
settled_by_endless b (Some z) zone proof h = inl h

-- what empties a zone settles it
settled_by_empty : (b : Blocking) (best : Option ℤ) (zone : List Span) (proof : Proof) → Empties b zone proof → Settles b best zone proof
settled_by_empty b None zone proof h = h
settled_by_empty b (Some z) zone proof h = older_lem.emptied b zone proof z h

-- a bound that doesn't settle a zone, but holds for some number, comes from a positive scale
positive_scale : (b : Blocking) (best : Option ℤ) (zone : List Span) (proof : Proof) (z v : ℤ) → (Settles b best zone proof → ⊥) → IsBound b zone proof v
    → (pos proof.scale *ℤ (z -ℤ pos 1)) <ℤ v → 0 < proof.scale
positive_scale b best zone proof z v not bound above = ⊎_elim
    (λ none. absurd (not (settled_by_empty b best zone proof (inr (v, bound, zero_scale none, positive (zero_scale none))))))
    (λ some. some)
    (cases_lt proof.scale 1)
  where
    zero_scale : proof.scale < 1 → proof.scale ≡ 0
    zero_scale h = omega (arith, h)

    positive : proof.scale ≡ 0 → pos 0 <ℤ v
    positive e = omega (arith, ints, above, ap (λ s. pos s *ℤ (z -ℤ pos 1)) e, zero-*ℤ (z -ℤ pos 1))

-- a rounded bound is no less than what the proof holds for
rounded_above : (s : ℕ) (z v : ℤ) → 0 < s → (pos s *ℤ (z -ℤ pos 1)) <ℤ v → z ≤ℤ round_up v s
rounded_above s z v positive above = by_lt_z (round_up v s) z
    (λ less. absurd (omega (arith, ints, above, le-round_up v s positive, le-mul_pos s (round_up v s) (z -ℤ pos 1) (omega (arith, ints, less)))))
    (λ more. more)

-- so it is small where that is
rounded_small : (z r : ℤ) → unsigned_abs z < 2 ^ 62 → z ≤ℤ r → unsigned_abs (int_min r (pos (2 ^ 62 - 1))) < 2 ^ 62
rounded_small z r h l = grind (arith, ints, clamps)

-- a live leaf that is loaded keeps its rounded bound
keeps_rounded : (b : Blocking) (best : Option ℤ) (zone : List Span) (proof : Proof) (z v : ℤ) → (Settles b best zone proof → ⊥) → IsBound b zone proof v
    → unsigned_abs z < 2 ^ 62 → Holds b zone proof z → KeepsBound b zone proof (rounded_bound v proof)
keeps_rounded b best zone proof z v not bound small (inl endless) = absurd (not (settled_by_endless b best zone proof endless))
keeps_rounded b best zone proof z v not bound small (inr found) =
    let same : found.0 ≡ v = one_bound_lem.one b zone proof found.0 v found.1 bound in
    let above : (pos proof.scale *ℤ (z -ℤ pos 1)) <ℤ v = subst (λ u. (pos proof.scale *ℤ (z -ℤ pos 1)) <ℤ u) same found.2 in
    let positive : 0 < proof.scale = positive_scale b best zone proof z v not bound above in
    record {
      scale = positive;
      holds = older_lem.smaller b zone proof (rounded_bound v proof) (round_up v proof.scale) (cut_off (round_up v proof.scale))
          (rounded_holds_lem b zone proof v positive bound);
      size = rounded_small z (round_up v proof.scale) small (rounded_above proof.scale z v positive above);
    }
  where
    cut_off : (r : ℤ) → int_min r (pos (2 ^ 62 - 1)) ≤ℤ r
    cut_off r = omega (arith, ints, clamps)

-- ---- all leaves

-- what is known of a certificate's leaf: a sound proof, which settles its zone or holds for a number
record IsReady (b : Blocking) (best : Option ℤ) (z : ℤ) (leaf : Leaf) : Type 0 where
  sound : IsSoundProof b leaf.proof
  shown : Settles b best leaf.zone leaf.proof ⊎ Holds b leaf.zone leaf.proof z

-- what is known then of the loaded tree, below a node
record IsLoadedBelow (b : Blocking) (best : Option ℤ) (path : List Side) (zone : List Span) (t : GrowingTree) : Type 0 where
  splits : HasSoundSplits (certificate_tree t) zone
  kept : AllByRecursion (IsKept b) (leaves_below t path zone)
  settled : AllByRecursion (IsSettled b best) (leaves_below t path zone)

load_leaf : (b : Blocking) (best : Option ℤ) (z : ℤ) (path : List Side) (zone : List Span) (proof : Proof) (is_open : Bool) (t : GrowingTree)
    → unsigned_abs z < 2 ^ 62 → IsReady b best z (record { zone = zone; proof = proof; is_open = is_open }) → LoadsLeaf b best zone proof t
    → IsLoadedBelow b best path zone t
load_leaf b best z path zone proof is_open (live own bound) small ready loads =
    let keeps : KeepsBound b zone proof bound =
    subst (KeepsBound b zone proof) (sym loads.2.2)
    (keeps_rounded b best zone proof z loads.2.0 loads.1 loads.2.1 small (⊎_elim (λ settled. absurd (loads.1 settled)) (λ holds. holds) ready.shown)) in
    record {
      splits = tt;
      kept = (
        record {
          sound = subst (IsSoundProof b) (sym loads.0) ready.sound;
          bound = subst (λ (q : Proof). KeepsBound b zone q bound) (sym loads.0) keeps;
        },
        tt,
      );
      settled = (tt, tt);
    }
load_leaf b best z path zone proof is_open (shut own) small ready loads = record {
  splits = tt;
  kept = (record { sound = subst (IsSoundProof b) (sym loads.0) ready.sound; bound = tt }, tt);
  settled = (subst (λ (q : Proof). Settles b best zone q) (sym loads.0) loads.1, tt);
}
load_leaf b best z path zone proof is_open (fork v at low high) small ready loads = absurd loads

load_below : (b : Blocking) (best : Option ℤ) (z : ℤ) (path : List Side) (zone : List Span) (tree : Tree) (t : GrowingTree)
    → unsigned_abs z < 2 ^ 62 → HasSoundSplits tree zone → AllByRecursion (IsReady b best z) (leaves tree zone) → Loads b best zone tree t
    → IsLoadedBelow b best path zone t
load_below b best z path zone (shut_leaf proof) t small sound ready loads = load_leaf b best z path zone proof false t small ready.0 loads
load_below b best z path zone (open_leaf proof) t small sound ready loads = load_leaf b best z path zone proof true t small ready.0 loads
load_below b best z path zone (split v at low high) (live own bound) small sound ready loads = absurd loads
load_below b best z path zone (split v at low high) (shut own) small sound ready loads = absurd loads
load_below b best z path zone (split v at low high) (fork w a first second) small sound ready loads =
    let parts = recursion_parts (IsReady b best z) (leaves low (low_part zone v at)) (leaves high (high_part zone v at)) ready in
    subst (λ n. IsLoadedBelow b best path zone (fork n a first second)) (sym loads.0)
    (subst (λ n. IsLoadedBelow b best path zone (fork v n first second)) (sym loads.1)
    (joined v at first second sound.0
    (load_below b best z (path ++ Low ∷ []) (low_part zone v at) low first small sound.1 parts.0 loads.2)
    (load_below b best z (path ++ High ∷ []) (high_part zone v at) high second small sound.2 parts.1 loads.3)))
  where
    joined : (v : ℕ) (at : ℤ) (first second : GrowingTree) → IsSoundSplit zone v at
        → IsLoadedBelow b best (path ++ Low ∷ []) (low_part zone v at) first
        → IsLoadedBelow b best (path ++ High ∷ []) (high_part zone v at) second
        → IsLoadedBelow b best path zone (fork v at first second)
    joined v at first second here low high = record {
      splits = (here, low.splits, high.splits);
      kept = recursion-append (IsKept b) (leaves_below first (path ++ Low ∷ []) (low_part zone v at))
          (leaves_below second (path ++ High ∷ []) (high_part zone v at)) low.kept high.kept;
      settled = recursion-append (IsSettled b best) (leaves_below first (path ++ Low ∷ []) (low_part zone v at))
          (leaves_below second (path ++ High ∷ []) (high_part zone v at)) low.settled high.settled;
    }

-- ---- claims

-- under a claim that isn't one of a bound, what a leaf shows settles its zone
final_settles : (p : Program) (b : Blocking) (claim : Claim) (point : Option (List ℤ)) (leaf : Leaf) → IsFinalClaim claim → PointFits p claim point
    → Shows p b claim leaf → Settles b (best_cost p point) leaf.zone leaf.proof
final_settles p b (Optimal v) None leaf final fits shows = absurd fits
final_settles p b (Optimal v) (Some x) leaf final fits shows =
    subst (λ z. Holds b leaf.zone leaf.proof z) (ap (in_sense p.maximises) (sym fits.has_value) ∙ in_sense_twice p.maximises (cost p x)) shows
final_settles p b Infeasible None leaf final fits shows = shows
final_settles p b Infeasible (Some x) leaf final fits shows = absurd fits
final_settles p b (Bound bound v) point leaf final fits shows = absurd final

-- a number that the leaves show, or 0 where each settles its zone
shown_number : Program → Claim → ℤ
shown_number p (Optimal v) = pos 0
shown_number p Infeasible = pos 0
shown_number p (Bound bound v) = in_sense p.maximises bound

shown_small : (p : Program) (claim : Claim) → HasSmallBound claim → unsigned_abs (shown_number p claim) < 2 ^ 62
unfolding shown_number
shown_small p (Optimal v) h = lit< tt
shown_small p Infeasible h = lit< tt
shown_small p (Bound bound v) h = by p.maximises
  where
    by : (m : Bool) → unsigned_abs (in_sense m bound) < 2 ^ 62
    by true = omega (arith, ints, h)
    by false = h

shown_ready : (p : Program) (b : Blocking) (claim : Claim) (point : Option (List ℤ)) (leaf : Leaf) → PointFits p claim point → Shows p b claim leaf
    → Settles b (best_cost p point) leaf.zone leaf.proof ⊎ Holds b leaf.zone leaf.proof (shown_number p claim)
unfolding shown_number
shown_ready p b (Optimal v) point leaf fits shows = inl (final_settles p b (Optimal v) point leaf tt fits shows)
shown_ready p b Infeasible point leaf fits shows = inl (final_settles p b Infeasible point leaf tt fits shows)
shown_ready p b (Bound bound v) point leaf fits shows = inr shows

point_is_feasible : (p : Program) (claim : Claim) (point : Option (List ℤ)) → PointFits p claim point → IfSome point (IsFeasible p)
point_is_feasible p claim None fits = tt
point_is_feasible p (Optimal v) (Some x) fits = fits.feasible
point_is_feasible p Infeasible (Some x) fits = absurd fits
point_is_feasible p (Bound bound None) (Some x) fits = absurd fits
point_is_feasible p (Bound bound (Some v)) (Some x) fits = fits.feasible

load_search : (p : Program) (b : Blocking) (cert : Certificate) (t : GrowingTree) → IsValid p b cert → IsReadable p b cert
    → Loads b (best_cost p cert.point) p.spans cert.tree t → All (IsShallow p.limits) (growing_leaves t p.spans) → IsSearch p b t cert.point
load_search p b cert t valid readable loads shallow =
    let best : Option ℤ = best_cost p cert.point in
    let z : ℤ = shown_number p cert.claim in
    let ready : All (IsReady b best z) (leaves cert.tree p.spans) = λ k d l. record {
      sound = record { fits = readable.fits k d l; signs = valid.signs k d l };
      shown = shown_ready p b cert.claim cert.point _ valid.point (valid.shown k d l);
    } in
    let below : IsLoadedBelow b best [] p.spans t =
    load_below b best z [] p.spans cert.tree t (shown_small p cert.claim readable.bound) valid.splits
    (recursion_from_All (IsReady b best z) (leaves cert.tree p.spans) ready) loads in
    record {
      feasible = point_is_feasible p cert.claim cert.point valid.point;
      grove = record { splits = below.splits; leaves = All-from_recursion (IsKept b) (growing_leaves t p.spans) below.kept };
      shallow = shallow;
      settled = All-from_recursion (IsSettled b best) (growing_leaves t p.spans) below.settled;
    }

-- ---- that there is one loaded tree

-- a proof settles a zone or not
settles_or_not : (b : Blocking) (best : Option ℤ) (zone : List Span) (proof : Proof) (v : ℤ) → IsBound b zone proof v
    → Settles b best zone proof ⊎ (Settles b best zone proof → ⊥)
settles_or_not b None zone proof v bound = ⊎_elim
    (λ none. by_lt_z (pos 0) v
    (λ less. inl (inr (v, bound, zero_scale none, less)))
    (λ more. inr (refuted bound (λ w same h. not_above v w same more h.1))))
    (λ some. inr (refuted bound (λ w same h. not_zero some h.0)))
    (cases_lt proof.scale 1)
  where
    zero_scale : proof.scale < 1 → proof.scale ≡ 0
    zero_scale h = omega (arith, h)

    not_zero : 1 ≤ proof.scale → proof.scale ≡ 0 → ⊥
    not_zero h e = omega (arith, h, e)

    not_above : (v w : ℤ) → w ≡ v → v ≤ℤ pos 0 → pos 0 <ℤ w → ⊥
    not_above v w e h k = omega (arith, ints)

    refuted : IsBound b zone proof v → ((w : ℤ) → w ≡ v → (proof.scale ≡ 0) × (pos 0 <ℤ w) → ⊥) → Empties b zone proof → ⊥
    refuted bound no' (inl endless) = one_bound_lem.not_both b zone proof v endless bound
    refuted bound no' (inr found) = no' found.0 (one_bound_lem.one b zone proof found.0 v found.1 bound) (found.2, found.3)
settles_or_not b (Some z) zone proof v bound = by_lt_z (pos proof.scale *ℤ (z -ℤ pos 1)) v
    (λ less. inl (inr (v, bound, less)))
    (λ more. inr (refuted more))
  where
    not_above : (v w s : ℤ) → w ≡ v → v ≤ℤ s → s <ℤ w → ⊥
    not_above v w s e h k = omega (arith, ints)

    refuted : v ≤ℤ (pos proof.scale *ℤ (z -ℤ pos 1)) → Holds b zone proof z → ⊥
    refuted more (inl endless) = one_bound_lem.not_both b zone proof v endless bound
    refuted more (inr found) =
        not_above v found.0 (pos proof.scale *ℤ (z -ℤ pos 1)) (one_bound_lem.one b zone proof found.0 v found.1 bound) more found.2

leaf_there : (b : Blocking) (best : Option ℤ) (zone : List Span) (proof : Proof) → IsProper zone → (t : GrowingTree) × LoadsLeaf b best zone proof t
leaf_there b best zone proof proper = ⊎_elim
    (λ endless. (shut proof, (refl, settled_by_endless b best zone proof endless)))
    (λ found. ⊎_elim
    (λ settles. (shut proof, (refl, settles)))
    (λ not. (live proof (rounded_bound found.0 proof), (refl, not, (found.0, found.1, refl))))
    (settles_or_not b best zone proof found.0 found.1))
    (one_bound_lem.total b zone proof proper)

tree_there : (b : Blocking) (best : Option ℤ) (zone : List Span) (tree : Tree) → IsProper zone → HasSoundSplits tree zone
    → (t : GrowingTree) × Loads b best zone tree t
tree_there b best zone (shut_leaf proof) proper sound = leaf_there b best zone proof proper
tree_there b best zone (open_leaf proof) proper sound = leaf_there b best zone proof proper
tree_there b best zone (split v at low high) proper sound =
    let first = tree_there b best (low_part zone v at) low (split_shrinks_lem.low zone v at sound.0 proper).0 sound.1 in
    let second = tree_there b best (high_part zone v at) high (split_shrinks_lem.high zone v at sound.0 proper).0 sound.2 in
    (fork v at first.0 second.0, (refl, refl, first.1, second.1))

leaf_once : (b : Blocking) (best : Option ℤ) (zone : List Span) (proof : Proof) (t u : GrowingTree) → LoadsLeaf b best zone proof t → LoadsLeaf b best zone proof u → t ≡ u
leaf_once b best zone proof (live own bound) (live own' bound') h g =
    let same : h.2.0 ≡ g.2.0 = one_bound_lem.one b zone proof h.2.0 g.2.0 h.2.1 g.2.1 in
    both (h.0 ∙ sym g.0) (h.2.2 ∙ ap (λ v. rounded_bound v proof) same ∙ sym g.2.2)
  where
    both : own ≡ own' → bound ≡ bound' → live own bound ≡ live own' bound'
    both e f = cc
leaf_once b best zone proof (live own bound) (shut own') h g = absurd (h.1 g.1)
leaf_once b best zone proof (shut own) (live own' bound') h g = absurd (g.1 h.1)
leaf_once b best zone proof (shut own) (shut own') h g = ap (λ (q : Proof). shut q) (h.0 ∙ sym g.0)
leaf_once b best zone proof (fork v at low high) u h g = absurd h
leaf_once b best zone proof (live own bound) (fork v at low high) h g = absurd g
leaf_once b best zone proof (shut own) (fork v at low high) h g = absurd g

tree_once : (b : Blocking) (best : Option ℤ) (zone : List Span) (tree : Tree) (t u : GrowingTree) → Loads b best zone tree t → Loads b best zone tree u → t ≡ u
tree_once b best zone (shut_leaf proof) t u h g = leaf_once b best zone proof t u h g
tree_once b best zone (open_leaf proof) t u h g = leaf_once b best zone proof t u h g
tree_once b best zone (split v at low high) (live own bound) u h g = absurd h
tree_once b best zone (split v at low high) (shut own) u h g = absurd h
tree_once b best zone (split v at low high) (fork w a first second) (live own bound) h g = absurd g
tree_once b best zone (split v at low high) (fork w a first second) (shut own) h g = absurd g
tree_once b best zone (split v at low high) (fork w a first second) (fork w' a' first' second') h g =
    both (h.0 ∙ sym g.0) (h.1 ∙ sym g.1)
    (tree_once b best (low_part zone v at) low first first' h.2 g.2)
    (tree_once b best (high_part zone v at) high second second' h.3 g.3)
  where
    both : w ≡ w' → a ≡ a' → first ≡ first' → second ≡ second' → fork w a first second ≡ fork w' a' first' second'
    both e f d c = cc

-- ---- no live leaf under a final claim

final_leaf : (b : Blocking) (best : Option ℤ) (zone : List Span) (proof : Proof) (t : GrowingTree) → Settles b best zone proof → LoadsLeaf b best zone proof t → live_count t ≡ 0
final_leaf b best zone proof (live own bound) settles loads = absurd (loads.1 settles)
final_leaf b best zone proof (shut own) settles loads = refl
final_leaf b best zone proof (fork v at low high) settles loads = absurd loads

none_live_below : (b : Blocking) (best : Option ℤ) (zone : List Span) (tree : Tree) (t : GrowingTree)
    → AllByRecursion (λ (leaf : Leaf). Settles b best leaf.zone leaf.proof) (leaves tree zone) → Loads b best zone tree t → live_count t ≡ 0
none_live_below b best zone (shut_leaf proof) t settles loads = final_leaf b best zone proof t settles.0 loads
none_live_below b best zone (open_leaf proof) t settles loads = final_leaf b best zone proof t settles.0 loads
none_live_below b best zone (split v at low high) (live own bound) settles loads = absurd loads
none_live_below b best zone (split v at low high) (shut own) settles loads = absurd loads
none_live_below b best zone (split v at low high) (fork w a first second) settles loads =
    let parts = recursion_parts (λ (leaf : Leaf). Settles b best leaf.zone leaf.proof) (leaves low (low_part zone v at)) (leaves high (high_part zone v at)) settles in
    omega (
      arith,
      none_live_below b best (low_part zone v at) low first parts.0 loads.2,
      none_live_below b best (high_part zone v at) high second parts.1 loads.3,
    )

-- ---- a tree that is written and loaded is no deeper

shallow_leaf : (limits : Limits) (b : Blocking) (best : Option ℤ) (path : List Side) (zone : List Span) (proof : Proof) (bound : Option ℤ) (t : GrowingTree)
    → KeepsDepth limits (length path) zone bound → SettlesIfShut b best zone proof bound → LoadsLeaf b best zone proof t
    → AllByRecursion (IsShallow limits) (leaves_below t path zone)
shallow_leaf limits b best path zone proof None (live own z) deep settled loads = absurd (loads.1 settled)
shallow_leaf limits b best path zone proof (Some y) (live own z) deep settled loads = (deep, tt)
shallow_leaf limits b best path zone proof None (shut own) deep settled loads = (deep, tt)
shallow_leaf limits b best path zone proof (Some y) (shut own) deep settled loads = (omega (arith, deep), tt)
shallow_leaf limits b best path zone proof bound (fork v at low high) deep settled loads = absurd loads

shallow_below : (limits : Limits) (b : Blocking) (best : Option ℤ) (path : List Side) (zone : List Span) (t loaded : GrowingTree)
    → AllByRecursion (IsShallow limits) (leaves_below t path zone) → AllByRecursion (IsSettled b best) (leaves_below t path zone)
    → Loads b best zone (certificate_tree t) loaded → AllByRecursion (IsShallow limits) (leaves_below loaded path zone)
shallow_below limits b best path zone (live proof bound) loaded deep settled loads = shallow_leaf limits b best path zone proof (Some bound) loaded deep.0 settled.0 loads
shallow_below limits b best path zone (shut proof) loaded deep settled loads = shallow_leaf limits b best path zone proof None loaded deep.0 settled.0 loads
shallow_below limits b best path zone (fork v at low high) (live own bound) deep settled loads = absurd loads
shallow_below limits b best path zone (fork v at low high) (shut own) deep settled loads = absurd loads
shallow_below limits b best path zone (fork v at low high) (fork w a first second) deep settled loads =
    let before : List GrowingLeaf = leaves_below low (path ++ Low ∷ []) (low_part zone v at) in
    let behind : List GrowingLeaf = leaves_below high (path ++ High ∷ []) (high_part zone v at) in
    let deeps = recursion_parts (IsShallow limits) before behind deep in
    let settles = recursion_parts (IsSettled b best) before behind settled in
    subst (λ n. AllByRecursion (IsShallow limits) (leaves_below (fork n a first second) path zone)) (sym loads.0)
    (subst (λ n. AllByRecursion (IsShallow limits) (leaves_below (fork v n first second) path zone)) (sym loads.1)
    (recursion-append (IsShallow limits) (leaves_below first (path ++ Low ∷ []) (low_part zone v at)) (leaves_below second (path ++ High ∷ []) (high_part zone v at))
    (shallow_below limits b best (path ++ Low ∷ []) (low_part zone v at) low first deeps.0 settles.0 loads.2)
    (shallow_below limits b best (path ++ High ∷ []) (high_part zone v at) high second deeps.1 settles.1 loads.3)))

written_is_shallow : (p : Program) (b : Blocking) (t loaded : GrowingTree) (best : Option (List ℤ)) → IsSearch p b t best
    → Loads b (best_cost p best) p.spans (certificate_tree t) loaded → All (IsShallow p.limits) (growing_leaves loaded p.spans)
written_is_shallow p b t loaded best search loads =
    All-from_recursion (IsShallow p.limits) (growing_leaves loaded p.spans)
    (shallow_below p.limits b (best_cost p best) [] p.spans t loaded (recursion_from_All (IsShallow p.limits) (growing_leaves t p.spans) search.shallow)
    (recursion_from_All (IsSettled b (best_cost p best)) (growing_leaves t p.spans) search.settled) loads)

pub load_keeps_lem : LoadKeeps
load_keeps_lem = record {
  there = λ p b cert proper valid. tree_there b (best_cost p cert.point) p.spans cert.tree proper valid.splits;
  one = λ p b tree best t u h g. tree_once b best p.spans tree t u h g;
  search = load_search;
  none_live = λ p b cert t valid final loads.
      none_live_below b (best_cost p cert.point) p.spans cert.tree t
      (recursion_from_All (λ (leaf : Leaf). Settles b (best_cost p cert.point) leaf.zone leaf.proof) (leaves cert.tree p.spans)
      (λ k d l. final_settles p b cert.claim cert.point _ final valid.point (valid.shown k d l))) loads;
  shallow = written_is_shallow;
}

-- ---- searches that end

same_best_cost : (p : Program) (x y : List ℤ) → IsBest p x → IsBest p y → cost p x ≡ cost p y
same_best_cost p x y h g = both (cost p x) (cost p y) (h.least y g.feasible) (g.least x h.feasible)
  where
    both : (a b : ℤ) → a ≤ℤ b → b ≤ℤ a → a ≡ b
    both a b h k = omega (arith, ints)

ends_agree : (p : Program) (b : Blocking) (t u : GrowingTree) (best other : Option (List ℤ)) → IsFaithful p b → IsSearch p b t best → IsSearch p b u other
    → live_count t ≡ 0 → live_count u ≡ 0 → final_claim p best ≡ final_claim p other
ends_agree p b t u None None faithful h g e f = refl
ends_agree p b t u None (Some y) faithful h g e f = absurd (search_is_right_lem.none p b t faithful h e y g.feasible)
ends_agree p b t u (Some x) None faithful h g e f = absurd (search_is_right_lem.none p b u faithful g f x h.feasible)
ends_agree p b t u (Some x) (Some y) faithful h g e f =
    ap (λ z. Optimal (in_sense p.maximises z))
    (same_best_cost p x y (search_is_right_lem.best p b t x faithful h e) (search_is_right_lem.best p b u y faithful g f))

resumed_agrees : (p : Program) (b : Blocking) (t loaded : GrowingTree) (best : Option (List ℤ)) (v : ℤ) (workers others : ℕ)
    (events later : List CrewEvent) (last end : Crew)
    → IsSized p → IsFaithful p b → IsSearch p b t best → IsRemainingBound p t best v → unsigned_abs v < 2 ^ 62
    → Loads b (best_cost p best) p.spans (read_off (stopped_claim p best v) best [] t).tree loaded
    → IsRun p b (idle_crew t best workers) events last → live_count last.tree ≡ 0
    → IsRun p b (idle_crew loaded best others) later end → live_count end.tree ≡ 0
    → final_claim p last.best ≡ final_claim p end.best
resumed_agrees p b t loaded best v workers others events later last end sized faithful search remaining small loads run h run' g =
    let cert : Certificate = read_off (stopped_claim p best v) best [] t in
    let readable : IsReadable p b cert = record {
      fits = of_leaves (λ (leaf : Leaf). Fits b leaf.proof) t p.spans (λ k d l. (search.grove.leaves k d l).sound.fits);
      bound = small_in_sense p.maximises;
    } in
    let again : IsSearch p b loaded best =
    load_search p b cert loaded (read_off_is_valid_lem.stopped p b t best v [] search remaining) readable loads (written_is_shallow p b t loaded best search loads) in
    ends_agree p b last.tree end.tree last.best end.best faithful
    (runs_keep_lem.kept p b (idle_crew t best workers) last events sized (events_keep_lem.idle p b t best workers search) run).search
    (runs_keep_lem.kept p b (idle_crew loaded best others) end later sized (events_keep_lem.idle p b loaded best others again) run').search h g
  where
    small_in_sense : (m : Bool) → unsigned_abs (in_sense m v) < 2 ^ 62
    small_in_sense true = omega (arith, ints, small)
    small_in_sense false = small

pub resume_agrees_lem : ResumeAgrees
resume_agrees_lem = record { ends = ends_agree; resumed = resumed_agrees }
