-- A walk down a tree along a path.
use Rattle.std.proofs.Common.{◌≡◌, ℕ, ◌+◌, ◌<◌, List, [], ◌∷◌, length, drop, get_or, Some, ℤ, sym, subst, ap, ◌∙◌, refl, add-one, drop-cons, ◌≤◌}
use Rattle.std.proofs.lemmas.List.{drop_all}
use Rattle.bp_theory.specs.Trees.{HasSoundSplits, low_part, high_part}
use Rattle.bp_theory.specs.declared.Span.{Span}
use Rattle.bp_theory.specs.declared.Proof.{Proof}
use Rattle.search_laws.specs.Grove.{GrowingTree, LiveLeaf, live, shut, fork, live_at, zone_at, certificate_tree}
use Rattle.search_laws.specs.declared.Side.{Side}
use Rattle.search_laws.specs.declared.Side.TheVariants.{Low, High}

-- a node and its zone, from which the rest of a path leads where the whole path leads from the root
pub record IsWalk (t : GrowingTree) (root : List Span) (path : List Side) (node : GrowingTree) (zone : List Span) (rest : List Side) : Type 0 where
  pub splits : HasSoundSplits (certificate_tree node) zone
  pub zone_is : zone_at t root path ≡ zone_at node zone rest
  pub live_is : live_at t path ≡ live_at node rest

pub walk_low : (t : GrowingTree) (root : List Span) (path : List Side) (v : ℕ) (at : ℤ) (low high : GrowingTree) (zone : List Span) (rest : List Side)
    → IsWalk t root path (fork v at low high) zone (Low ∷ rest) → IsWalk t root path low (low_part zone v at) rest
walk_low t root path v at low high zone rest w = record { splits = w.splits.1; zone_is = w.zone_is; live_is = w.live_is }

pub walk_high : (t : GrowingTree) (root : List Span) (path : List Side) (v : ℕ) (at : ℤ) (low high : GrowingTree) (zone : List Span) (rest : List Side)
    → IsWalk t root path (fork v at low high) zone (High ∷ rest) → IsWalk t root path high (high_part zone v at) rest
walk_high t root path v at low high zone rest w = record { splits = w.splits.2; zone_is = w.zone_is; live_is = w.live_is }

-- the rest of a path at a place, as the side there and the rest behind it
pub rest_is : (path : List Side) (i : ℕ) (d : Side) → i < length path → drop i path ≡ get_or path i d ∷ drop (i + 1) path
rest_is path i d l = rw (add-one, drop-cons path i d) refl

-- where a walk ends: at the zone of the whole path, and at its live leaf where it leads to one
pub record IsEnd (t : GrowingTree) (root : List Span) (path : List Side) (node : GrowingTree) (zone : List Span) : Type 0 where
  pub leaf : (leaf : LiveLeaf) → live_at t path ≡ Some leaf → node ≡ live leaf.proof leaf.bound
  pub zone_is : zone ≡ zone_at t root path

zone_of_shut : (zone : List Span) (proof : Proof) (rest : List Side) → zone_at (shut proof) zone rest ≡ zone
zone_of_shut zone proof [] = refl
zone_of_shut zone proof (side ∷ rest) = refl

live_here : (node : GrowingTree) (leaf : LiveLeaf) → live_at node [] ≡ Some leaf → node ≡ live leaf.proof leaf.bound
live_here (live proof bound) leaf e = by leaf (cc)
  where
    by : (leaf : LiveLeaf) → record { proof = proof; bound = bound } ≡ leaf → live proof bound ≡ live leaf.proof leaf.bound
    by leaf same = ap (λ (l : LiveLeaf). live l.proof l.bound) same
live_here (shut proof) leaf e = absurd (cc)
live_here (fork v at low high) leaf e = absurd (cc)

pub ends_at_shut : (t : GrowingTree) (root : List Span) (path : List Side) (node : GrowingTree) (proof : Proof) (zone : List Span) (rest : List Side)
    → node ≡ shut proof → IsWalk t root path node zone rest → IsEnd t root path node zone
ends_at_shut t root path node proof zone rest same w = record {
  leaf = λ leaf e. let none : live_at (shut proof) rest ≡ Some leaf = subst (λ n. live_at n rest ≡ Some leaf) same (sym w.live_is ∙ e) in absurd (cc);
  zone_is = sym (w.zone_is ∙ subst (λ n. zone_at n zone rest ≡ zone) (sym same) (zone_of_shut zone proof rest));
}

pub ends_with_path : (t : GrowingTree) (root : List Span) (path : List Side) (node : GrowingTree) (zone : List Span) (i : ℕ)
    → length path ≤ i → IsWalk t root path node zone (drop i path) → IsEnd t root path node zone
ends_with_path t root path node zone i past w = by (subst (IsWalk t root path node zone) (drop_all i path past) w)
  where
    by : IsWalk t root path node zone [] → IsEnd t root path node zone
    by v = record {
      leaf = λ leaf e. live_here node leaf (sym v.live_is ∙ e);
      zone_is = sym v.zone_is;
    }
