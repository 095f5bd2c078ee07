-- What a search may claim when it ends or is stopped.
use Rattle.std.proofs.Common.{◌≡◌, refl, sym, ap, subst, ◌∙◌, suc, ◌<◌, List, [], ◌∷◌, ◌++◌, map, length, get_or, Option, Some, None, arith, length-append}
use Rattle.std.proofs.Math.IntN.{ℤ}
use Rattle.std.specs.Prelude.{◌≤ℤ◌, IsTrue, is_some, All, Contains, IfSome, option_to_list}
use Rattle.std.specs.List.{AllByRecursion}
use Rattle.std.proofs.lemmas.Int.{ints, by_lt_z}
use Rattle.std.proofs.lemmas.List.{map-append}
use Rattle.std.proofs.lemmas.List.Elements.{All-weaker, All-map, All-from_recursion, recursion_from_All, All-contains}
use Rattle.bp_theory.specs.Program.{Program, IsFeasible, IsBest, cost, value, in_sense}
use Rattle.bp_theory.specs.Blocking.{Blocking}
use Rattle.bp_theory.specs.Decomposition.{Decomposition, blocking_of}
use Rattle.bp_theory.specs.Bound.{SignsFit}
use Rattle.bp_theory.specs.Cuts.{cut_rows}
use Rattle.bp_theory.specs.Trees.{Leaf, leaves, low_part, high_part}
use Rattle.bp_theory.specs.Claims.{Holds, Shows, PointFits, MayBeOpen, IsValid, IsCertified, IsTrueClaim}
use Rattle.bp_theory.specs.declared.Span.{Span}
use Rattle.bp_theory.specs.declared.Proof.{Proof}
use Rattle.bp_theory.specs.declared.Cut.{Cut}
use Rattle.bp_theory.specs.declared.Claim.TheVariants.{Optimal}
use Rattle.bp_theory.proofs.TruthProof.{older_lem, in_sense_twice, valid_is_true_lem}
use Rattle.bp_theory.proofs.CutProof.{certified_is_true_lem}
use Rattle.search_laws.specs.declared.Side.{Side}
use Rattle.search_laws.specs.declared.Side.TheVariants.{Low, High}
use Rattle.search_laws.specs.Grove.{GrowingTree, live, shut, fork, GrowingLeaf, leaves_below, growing_leaves, live_count, live_bounds, certificate_tree}
use Rattle.search_laws.specs.GroveFacts.{KeepsBound, IsKept, Settles, SettlesIfShut, IsSettled, IsSearch, best_cost, IsLeastOf, IsRemainingBound}
use Rattle.search_laws.specs.Outcomes.{CutsFit, final_claim, stopped_claim, read_off}
use Rattle.search_laws.specs.Laws.{LeastBoundIsThere, SearchIsRight, ReadOffIsValid, ReadOffIsCertified}
use Rattle.search_laws.proofs.Places.{recursion_parts, recursion-append}

-- ---- the least of some numbers

contains_first : (z : ℤ) (zs : List ℤ) → Contains (z ∷ zs) z
contains_first z zs = (0, omega arith, refl)

contains_later : (y z : ℤ) (zs : List ℤ) → Contains zs z → Contains (y ∷ zs) z
contains_later y z zs h = (suc h.0, omega (arith, h.1), h.2)

-- some numbers have a least
pub least_of : (z : ℤ) (zs : List ℤ) → (v : ℤ) × IsLeastOf (z ∷ zs) v
least_of z [] = (
  z,
  record {
    reached = contains_first z [];
    least = All-from_recursion (λ y. z ≤ℤ y) (z ∷ []) (omega (arith, ints), tt);
  },
)
least_of z (y ∷ ys) = by (least_of y ys)
  where
    by : (v : ℤ) × IsLeastOf (y ∷ ys) v → (v : ℤ) × IsLeastOf (z ∷ y ∷ ys) v
    by found =
        let all : AllByRecursion (λ u. found.0 ≤ℤ u) (y ∷ ys) = recursion_from_All (λ u. found.0 ≤ℤ u) (y ∷ ys) found.1.least in
        by_lt_z z found.0
        (λ less. (
          z,
          record {
            reached = contains_first z (y ∷ ys);
            least = All-from_recursion (λ u. z ≤ℤ u) (z ∷ y ∷ ys) (
              omega (arith, ints),
              recursion_from_All (λ u. z ≤ℤ u) (y ∷ ys)
                  (All-weaker (λ u. found.0 ≤ℤ u) (λ u. z ≤ℤ u) (λ u h. omega (arith, ints)) (y ∷ ys) found.1.least),
            );
          },
        ))
        (λ more. (
          found.0,
          record {
            reached = contains_later z found.0 (y ∷ ys) found.1.reached;
            least = All-from_recursion (λ u. found.0 ≤ℤ u) (z ∷ y ∷ ys) (more, all);
          },
        ))

-- a least is at most each
least-le : (zs : List ℤ) (v z : ℤ) → IsLeastOf zs v → Contains zs z → v ≤ℤ z
least-le zs v z least h = All-contains (λ u. v ≤ℤ u) zs z least.least h

one_least : (zs : List ℤ) (v w : ℤ) → IsLeastOf zs v → IsLeastOf zs w → v ≡ w
one_least zs v w h g = both v w (least-le zs v w h g.reached) (least-le zs w v g h.reached)
  where
    both : (a b : ℤ) → a ≤ℤ b → b ≤ℤ a → a ≡ b
    both a b h k = omega (arith, ints)

-- as many bounds as live leaves
live_bounds-length : (t : GrowingTree) → length (live_bounds t) ≡ live_count t
live_bounds-length (live proof bound) = refl
live_bounds-length (shut proof) = refl
live_bounds-length (fork v at low high) =
    omega (arith, live_bounds-length low, live_bounds-length high, length-append (live_bounds low) (live_bounds high))

least_there : (zs ys : List ℤ) → 0 < length zs → (v : ℤ) × IsLeastOf (zs ++ ys) v
least_there [] ys h = absurd (omega arith)
least_there (z ∷ zs) ys h = least_of z (zs ++ ys)

least_there_alone : (zs : List ℤ) → 0 < length zs → (v : ℤ) × IsLeastOf zs v
least_there_alone [] h = absurd (omega arith)
least_there_alone (z ∷ zs) h = least_of z zs

pub least_bound_is_there_lem : LeastBoundIsThere
least_bound_is_there_lem = record {
  there = λ t h. least_there_alone (live_bounds t) (omega (arith, h, live_bounds-length t));
  one = one_least;
  remaining = λ p t best h. least_there (live_bounds t) (option_to_list (best_cost p best)) (omega (arith, h, live_bounds-length t));
}

-- ---- the leaves of the certificate

-- a growing leaf as a certificate's
abbrev pub as_leaf : GrowingLeaf → Leaf
as_leaf leaf = record { zone = leaf.zone; proof = leaf.proof; is_open = is_some leaf.bound }

pub leaves_read_off : (t : GrowingTree) (path : List Side) (zone : List Span)
    → leaves (certificate_tree t) zone ≡ map as_leaf (leaves_below t path zone)
leaves_read_off (live proof bound) path zone = refl
leaves_read_off (shut proof) path zone = refl
leaves_read_off (fork v at low high) path zone =
    let first : List GrowingLeaf = leaves_below low (path ++ Low ∷ []) (low_part zone v at) in
    let second : List GrowingLeaf = leaves_below high (path ++ High ∷ []) (high_part zone v at) in
    ap (λ (ls : List Leaf). ls ++ leaves (certificate_tree high) (high_part zone v at)) (leaves_read_off low (path ++ Low ∷ []) (low_part zone v at))
    ∙ ap (λ (ls : List Leaf). map as_leaf first ++ ls) (leaves_read_off high (path ++ High ∷ []) (high_part zone v at))
    ∙ sym (map-append as_leaf first second)

-- a fact of the certificate's leaves, from one of the growing tree's
pub of_leaves : (P : Leaf → Type 0) (t : GrowingTree) (zone : List Span) → All (λ (leaf : GrowingLeaf). P (as_leaf leaf)) (growing_leaves t zone)
    → All P (leaves (certificate_tree t) zone)
of_leaves P t zone all =
    subst (All P) (sym (leaves_read_off t [] zone)) (All-map P as_leaf (growing_leaves t zone) all)

-- a fact of each place, from two facts of it
both_facts : {X : Type 0} (P Q R : X → Type 0) → ((x : X) → P x → Q x → R x) → (xs : List X) → All P xs → All Q xs → All R xs
both_facts P Q R h xs all each k d l = h (get_or xs k d) (all k d l) (each k d l)

-- where no leaf is live, each is shut
pub all_shut : (t : GrowingTree) (path : List Side) (zone : List Span) → live_count t ≡ 0
    → AllByRecursion (λ (leaf : GrowingLeaf). leaf.bound ≡ None) (leaves_below t path zone)
all_shut (live proof bound) path zone h = absurd (omega arith)
all_shut (shut proof) path zone h = (refl, tt)
all_shut (fork v at low high) path zone h =
    recursion-append (λ (leaf : GrowingLeaf). leaf.bound ≡ None) (leaves_below low (path ++ Low ∷ []) (low_part zone v at))
    (leaves_below high (path ++ High ∷ []) (high_part zone v at))
    (all_shut low (path ++ Low ∷ []) (low_part zone v at) (omega arith)) (all_shut high (path ++ High ∷ []) (high_part zone v at) (omega arith))

-- a number that is at most each live bound is at most that of each live leaf
below_live_bounds : (v : ℤ) (t : GrowingTree) (path : List Side) (zone : List Span) → AllByRecursion (λ z. v ≤ℤ z) (live_bounds t)
    → AllByRecursion (λ (leaf : GrowingLeaf). IfSome leaf.bound (λ z. v ≤ℤ z)) (leaves_below t path zone)
below_live_bounds v (live proof bound) path zone h = (h.0, tt)
below_live_bounds v (shut proof) path zone h = (tt, tt)
below_live_bounds v (fork w at low high) path zone h =
    let parts = recursion_parts (λ z. v ≤ℤ z) (live_bounds low) (live_bounds high) h in
    recursion-append (λ (leaf : GrowingLeaf). IfSome leaf.bound (λ z. v ≤ℤ z)) (leaves_below low (path ++ Low ∷ []) (low_part zone w at))
    (leaves_below high (path ++ High ∷ []) (high_part zone w at))
    (below_live_bounds v low (path ++ Low ∷ []) (low_part zone w at) parts.0)
    (below_live_bounds v high (path ++ High ∷ []) (high_part zone w at) parts.1)

-- a shut leaf is settled
settled_if_shut : (b : Blocking) (best : Option ℤ) (zone : List Span) (proof : Proof) (bound : Option ℤ) → bound ≡ None
    → SettlesIfShut b best zone proof bound → Settles b best zone proof
settled_if_shut b best zone proof None e h = h
settled_if_shut b best zone proof (Some z) e h = absurd (cc)

-- a leaf that isn't live isn't open
not_open : (bound : Option ℤ) → bound ≡ None → IsTrue (is_some bound) → ⊥
not_open None e h = cc
not_open (Some z) e h = absurd (cc)

-- what settles a zone against the best point shows the final claim
shows_final : (p : Program) (b : Blocking) (best : Option (List ℤ)) (leaf : Leaf) → Settles b (best_cost p best) leaf.zone leaf.proof
    → Shows p b (final_claim p best) leaf
shows_final p b None leaf h = h
shows_final p b (Some x) leaf h =
    subst (λ z. Holds b leaf.zone leaf.proof z) (sym (in_sense_twice p.maximises (cost p x))) h

point_fits_final : (p : Program) (best : Option (List ℤ)) → IfSome best (IsFeasible p) → PointFits p (final_claim p best) best
point_fits_final p None h = tt
point_fits_final p (Some x) h = record { feasible = h; has_value = refl }

point_fits_stopped : (p : Program) (best : Option (List ℤ)) (v : ℤ) → IfSome best (IsFeasible p) → PointFits p (stopped_claim p best v) best
point_fits_stopped p None v h = tt
point_fits_stopped p (Some x) v h = record { feasible = h; has_value = refl }

ended_is_valid : (p : Program) (b : Blocking) (t : GrowingTree) (best : Option (List ℤ)) (cuts : List Cut) → IsSearch p b t best
    → live_count t ≡ 0 → IsValid p b (read_off (final_claim p best) best cuts t)
ended_is_valid p b t best cuts search h =
    let none_live : All (λ (leaf : GrowingLeaf). leaf.bound ≡ None) (growing_leaves t p.spans) =
    All-from_recursion (λ (leaf : GrowingLeaf). leaf.bound ≡ None) (growing_leaves t p.spans) (all_shut t [] p.spans h) in
    record {
      point = point_fits_final p best search.feasible;
      splits = search.grove.splits;
      signs = of_leaves (λ (leaf : Leaf). SignsFit b leaf.proof) t p.spans
          (All-weaker (IsKept b) (λ (leaf : GrowingLeaf). SignsFit b leaf.proof) (λ leaf k. k.sound.signs) (growing_leaves t p.spans) search.grove.leaves);
      shown = of_leaves (Shows p b (final_claim p best)) t p.spans
          (both_facts (λ (leaf : GrowingLeaf). leaf.bound ≡ None) (IsSettled b (best_cost p best)) (λ (leaf : GrowingLeaf). Shows p b (final_claim p best) (as_leaf leaf))
          (λ leaf e s. shows_final p b best (as_leaf leaf) (settled_if_shut b (best_cost p best) leaf.zone leaf.proof leaf.bound e s))
          (growing_leaves t p.spans) none_live search.settled);
      shut = of_leaves (λ (leaf : Leaf). IsTrue leaf.is_open → MayBeOpen (final_claim p best)) t p.spans
          (All-weaker (λ (leaf : GrowingLeaf). leaf.bound ≡ None) (λ (leaf : GrowingLeaf). IsTrue (is_some leaf.bound) → MayBeOpen (final_claim p best))
          (λ leaf e is_open. absurd (not_open leaf.bound e is_open)) (growing_leaves t p.spans) none_live);
    }

-- a zone that is settled against the best cost holds for each number that is no more than it
settles_below : (b : Blocking) (best : Option ℤ) (zone : List Span) (proof : Proof) (v : ℤ) → IfSome best (λ z. v ≤ℤ z)
    → Settles b best zone proof → Holds b zone proof v
settles_below b None zone proof v l h = older_lem.emptied b zone proof v h
settles_below b (Some z) zone proof v l h = older_lem.smaller b zone proof v z l h

leaf_holds : (b : Blocking) (best : Option ℤ) (zone : List Span) (proof : Proof) (bound : Option ℤ) (v : ℤ) → IfSome best (λ z. v ≤ℤ z)
    → IfSome bound (KeepsBound b zone proof) → SettlesIfShut b best zone proof bound → IfSome bound (λ z. v ≤ℤ z) → Holds b zone proof v
leaf_holds b best zone proof None v l keeps settled h = settles_below b best zone proof v l settled
leaf_holds b best zone proof (Some z) v l keeps settled h = older_lem.smaller b zone proof v z h keeps.holds

below_best : (v : ℤ) (best : Option ℤ) → AllByRecursion (λ z. v ≤ℤ z) (option_to_list best) → IfSome best (λ z. v ≤ℤ z)
below_best v None h = tt
below_best v (Some z) h = h.0

-- each leaf holds for the remaining bound
all_hold : (p : Program) (b : Blocking) (t : GrowingTree) (best : Option (List ℤ)) (v : ℤ) → IsSearch p b t best → IsRemainingBound p t best v
    → All (λ (leaf : GrowingLeaf). Holds b leaf.zone leaf.proof v) (growing_leaves t p.spans)
all_hold p b t best v search remaining =
    let parts = recursion_parts (λ z. v ≤ℤ z) (live_bounds t) (option_to_list (best_cost p best))
    (recursion_from_All (λ z. v ≤ℤ z) (live_bounds t ++ option_to_list (best_cost p best)) remaining.least) in
    let below : All (λ (leaf : GrowingLeaf). IfSome leaf.bound (λ z. v ≤ℤ z)) (growing_leaves t p.spans) =
    All-from_recursion (λ (leaf : GrowingLeaf). IfSome leaf.bound (λ z. v ≤ℤ z)) (growing_leaves t p.spans) (below_live_bounds v t [] p.spans parts.0) in
    λ k d l.
    let leaf : GrowingLeaf = get_or (growing_leaves t p.spans) k d in
    leaf_holds b (best_cost p best) leaf.zone leaf.proof leaf.bound v (below_best v (best_cost p best) parts.1)
    (search.grove.leaves k d l).bound (search.settled k d l) (below k d l)

stopped_is_valid : (p : Program) (b : Blocking) (t : GrowingTree) (best : Option (List ℤ)) (v : ℤ) (cuts : List Cut) → IsSearch p b t best
    → IsRemainingBound p t best v → IsValid p b (read_off (stopped_claim p best v) best cuts t)
stopped_is_valid p b t best v cuts search remaining = record {
  point = point_fits_stopped p best v search.feasible;
  splits = search.grove.splits;
  signs = of_leaves (λ (leaf : Leaf). SignsFit b leaf.proof) t p.spans
      (All-weaker (IsKept b) (λ (leaf : GrowingLeaf). SignsFit b leaf.proof) (λ leaf k. k.sound.signs) (growing_leaves t p.spans) search.grove.leaves);
  shown = of_leaves (Shows p b (stopped_claim p best v)) t p.spans
      (All-weaker (λ (leaf : GrowingLeaf). Holds b leaf.zone leaf.proof v) (λ (leaf : GrowingLeaf). Shows p b (stopped_claim p best v) (as_leaf leaf))
      (λ leaf h. subst (λ z. Holds b leaf.zone leaf.proof z) (sym (in_sense_twice p.maximises v)) h)
      (growing_leaves t p.spans) (all_hold p b t best v search remaining));
  shut = of_leaves (λ (leaf : Leaf). IsTrue leaf.is_open → MayBeOpen (stopped_claim p best v)) t p.spans (λ k d l is_open. tt);
}

pub read_off_is_valid_lem : ReadOffIsValid
read_off_is_valid_lem = record { ended = ended_is_valid; stopped = stopped_is_valid }

-- ---- what is true

-- two points of one value have one cost
same_cost : (p : Program) (x y : List ℤ) → value p x ≡ value p y → cost p x ≡ cost p y
same_cost p x y e =
    sym (in_sense_twice p.maximises (cost p x)) ∙ ap (in_sense p.maximises) e ∙ in_sense_twice p.maximises (cost p y)

true_bound : (p : Program) (best : Option (List ℤ)) (v : ℤ) → IsTrueClaim p (stopped_claim p best v) → (x : List ℤ) → IsFeasible p x → v ≤ℤ cost p x
true_bound p None v h x feasible = subst (λ z. z ≤ℤ cost p x) (in_sense_twice p.maximises v) (h x feasible)
true_bound p (Some y) v h x feasible = subst (λ z. z ≤ℤ cost p x) (in_sense_twice p.maximises v) (h.0 x feasible)

-- a feasible point of the best value is best
best_by_claim : (p : Program) (x : List ℤ) → IsFeasible p x → IsTrueClaim p (Optimal (value p x)) → IsBest p x
best_by_claim p x feasible h = record {
  feasible = feasible;
  least = λ y g. subst (λ z. z ≤ℤ cost p y) (same_cost p h.0 x h.2) (h.1.least y g);
}

pub search_is_right_lem : SearchIsRight
search_is_right_lem = record {
  best = λ p b t x faithful search h.
      best_by_claim p x search.feasible (valid_is_true_lem p b (read_off (final_claim p (Some x)) (Some x) [] t) faithful (ended_is_valid p b t (Some x) [] search h));
  none = λ p b t faithful search h. valid_is_true_lem p b (read_off (final_claim p None) None [] t) faithful (ended_is_valid p b t None [] search h);
  bound = λ p b t best v faithful search remaining.
      true_bound p best v (valid_is_true_lem p b (read_off (stopped_claim p best v) best [] t) faithful (stopped_is_valid p b t best v [] search remaining));
}

ended_is_certified : (p : Program) (d : Decomposition) (cuts : List Cut) (t : GrowingTree) (best : Option (List ℤ)) → CutsFit p d cuts
    → IsSearch p (blocking_of p d (cut_rows p d [] cuts)) t best → live_count t ≡ 0
    → IsCertified p d (read_off (final_claim p best) best cuts t)
ended_is_certified p d cuts t best fit search h = record {
  fitting = fit.fitting;
  bounded = fit.bounded;
  valid = ended_is_valid p (blocking_of p d (cut_rows p d [] cuts)) t best cuts search h;
}

stopped_is_certified : (p : Program) (d : Decomposition) (cuts : List Cut) (t : GrowingTree) (best : Option (List ℤ)) (v : ℤ) → CutsFit p d cuts
    → IsSearch p (blocking_of p d (cut_rows p d [] cuts)) t best → IsRemainingBound p t best v
    → IsCertified p d (read_off (stopped_claim p best v) best cuts t)
stopped_is_certified p d cuts t best v fit search remaining = record {
  fitting = fit.fitting;
  bounded = fit.bounded;
  valid = stopped_is_valid p (blocking_of p d (cut_rows p d [] cuts)) t best v cuts search remaining;
}

pub read_off_is_certified_lem : ReadOffIsCertified
read_off_is_certified_lem = record {
  ended = ended_is_certified;
  stopped = stopped_is_certified;
  true_at_end = λ p d cuts t best closed fit search h.
      certified_is_true_lem p d (read_off (final_claim p best) best cuts t) closed (ended_is_certified p d cuts t best fit search h);
  true_when_stopped = λ p d cuts t best v closed fit search remaining.
      certified_is_true_lem p d (read_off (stopped_claim p best v) best cuts t) closed (stopped_is_certified p d cuts t best v fit search remaining);
}
