-- The facts of a search, kept by each step and by each cheaper point.
use Rattle.std.proofs.Common.{◌≡◌, ℕ, List, [], ◌∷◌, ◌++◌, Option, Some, None}
use Rattle.std.proofs.Math.IntN.{ℤ}
use Rattle.std.specs.Prelude.{All}
use Rattle.std.proofs.lemmas.List.Elements.{All-append, All-weaker}
use Rattle.bp_theory.specs.Program.{cost}
use Rattle.bp_theory.specs.Blocking.{Blocking}
use Rattle.bp_theory.specs.Trees.{low_part, high_part}
use Rattle.bp_theory.specs.declared.Span.{Span}
use Rattle.bp_theory.specs.declared.Proof.{Proof}
use Rattle.bp_theory.proofs.TruthProof.{older_lem}
use Rattle.search_laws.specs.declared.Side.{Side}
use Rattle.search_laws.specs.declared.Side.TheVariants.{Low, High}
use Rattle.search_laws.specs.Grove.{GrowingTree, live, shut, fork, GrowingLeaf, leaves_below, growing_leaves, LiveLeaf, live_at, zone_at, put_at}
use Rattle.search_laws.specs.GroveFacts.{Settles, SettlesIfShut, IsSettled, IsNoDearer, best_cost}
use Rattle.search_laws.specs.Laws.{SearchKeeps}
use Rattle.search_laws.proofs.Places.{leaves_put}
use Rattle.search_laws.proofs.GroveProof.{All-one, plant_keeps_lem, shut_keeps_lem, fork_keeps_lem}
use Rattle.search_laws.proofs.DepthProof.{stays_shallow_lem}

-- what settles a zone settles it for a cheaper best point
pub settles_for_cheaper : (b : Blocking) (zone : List Span) (proof : Proof) (new old : Option ℤ) → IsNoDearer new old
    → Settles b old zone proof → Settles b new zone proof
settles_for_cheaper b zone proof None None h settled = settled
settles_for_cheaper b zone proof (Some y) None h settled = older_lem.emptied b zone proof y settled
settles_for_cheaper b zone proof None (Some z) h settled = absurd h
settles_for_cheaper b zone proof (Some y) (Some z) h settled = older_lem.smaller b zone proof y z h settled

settled_for_cheaper : (b : Blocking) (zone : List Span) (proof : Proof) (bound new old : Option ℤ) → IsNoDearer new old
    → SettlesIfShut b old zone proof bound → SettlesIfShut b new zone proof bound
settled_for_cheaper b zone proof None new old h settled = settles_for_cheaper b zone proof new old h settled
settled_for_cheaper b zone proof (Some bound) new old h settled = tt

-- all leaves stay settled for a cheaper best point
pub all_settled_for_cheaper : (b : Blocking) (leaves : List GrowingLeaf) (new old : Option ℤ) → IsNoDearer new old
    → All (IsSettled b old) leaves → All (IsSettled b new) leaves
all_settled_for_cheaper b leaves new old h all =
    All-weaker (IsSettled b old) (IsSettled b new)
    (λ (leaf : GrowingLeaf) settled. settled_for_cheaper b leaf.zone leaf.proof leaf.bound new old h settled) leaves all

-- a leaf that is shut by what settles its zone
pub shut_is_settled : (b : Blocking) (zone : List Span) (t : GrowingTree) (best : Option ℤ) (path : List Side) (leaf : LiveLeaf) (proof : Proof)
    → live_at t path ≡ Some leaf → All (IsSettled b best) (growing_leaves t zone) → Settles b best (zone_at t zone path) proof
    → All (IsSettled b best) (growing_leaves (put_at t path (shut proof)) zone)
shut_is_settled b zone t best path leaf proof h all settled =
    leaves_put (IsSettled b best) t zone path leaf (shut proof) h all
    (All-one (IsSettled b best) (record { path = path; zone = zone_at t zone path; proof = proof; bound = None }) settled)

-- a leaf that is forked
pub fork_is_settled : (b : Blocking) (zone : List Span) (t : GrowingTree) (best : Option ℤ) (path : List Side) (leaf : LiveLeaf)
    (v : ℕ) (at : ℤ) (proof : Proof) (bound : ℤ) → live_at t path ≡ Some leaf → All (IsSettled b best) (growing_leaves t zone)
    → All (IsSettled b best) (growing_leaves (put_at t path (fork v at (live proof bound) (live proof bound))) zone)
fork_is_settled b zone t best path leaf v at proof bound h all =
    let here : List Span = zone_at t zone path in
    leaves_put (IsSettled b best) t zone path leaf (fork v at (live proof bound) (live proof bound)) h all
    (All-append (IsSettled b best) (leaves_below (live proof bound) (path ++ Low ∷ []) (low_part here v at))
    (leaves_below (live proof bound) (path ++ High ∷ []) (high_part here v at))
    (All-one (IsSettled b best) (record { path = path ++ Low ∷ []; zone = low_part here v at; proof = proof; bound = Some bound }) tt)
    (All-one (IsSettled b best) (record { path = path ++ High ∷ []; zone = high_part here v at; proof = proof; bound = Some bound }) tt))

pub search_keeps_lem : SearchKeeps
search_keeps_lem = record {
  planted = λ p b v sized bound size. record {
    feasible = tt;
    grove = plant_keeps_lem b p.spans v bound size;
    shallow = stays_shallow_lem.planted p v sized;
    settled = All-one (IsSettled b None) _ tt;
  };
  shut = λ p b t best path leaf proof search h sound settles. record {
    feasible = search.feasible;
    grove = shut_keeps_lem b p.spans t path leaf proof search.grove h sound;
    shallow = stays_shallow_lem.shut p t path leaf proof h search.shallow;
    settled = shut_is_settled b p.spans t (best_cost p best) path leaf proof h search.settled settles;
  };
  forked = λ p b t best path leaf v at proof bound sized search h split timely sound keeps. record {
    feasible = search.feasible;
    grove = fork_keeps_lem b p.spans t path leaf v at proof bound sized.proper search.grove h split sound keeps;
    shallow = stays_shallow_lem.forked p t path leaf v at proof bound sized search.grove.splits h split timely search.shallow;
    settled = fork_is_settled b p.spans t (best_cost p best) path leaf v at proof bound h search.settled;
  };
  cheaper = λ p b t best x search feasible h. record {
    feasible = feasible;
    grove = search.grove;
    shallow = search.shallow;
    settled = all_settled_for_cheaper b (growing_leaves t p.spans) (Some (cost p x)) (best_cost p best) h search.settled;
  };
}
