-- The facts of a growing tree: planted, shut, forked.
use Rattle.std.proofs.Common.{◌≡◌, List, [], ◌∷◌, ◌++◌, Some, None, arith, rules, inr}
use Rattle.std.proofs.Math.IntN.{ℤ, pos, ◌*ℤ◌, ◌-ℤ◌}
use Rattle.std.specs.Prelude.{◌<ℤ◌, All}
use Rattle.std.proofs.lemmas.Int.{ints}
use Rattle.std.proofs.lemmas.List.Elements.{All-nil, All-cons, All-append}
use Rattle.bp_theory.specs.Blocking.{Blocking}
use Rattle.bp_theory.specs.Bound.{plain_proof}
use Rattle.bp_theory.specs.Trees.{IsProper, IsSubzone, HasSoundSplits, low_part, high_part}
use Rattle.bp_theory.specs.declared.Span.{Span}
use Rattle.bp_theory.specs.declared.Proof.{Proof}
use Rattle.bp_theory.proofs.ShrinkProof.{shrink_lem}
use Rattle.bp_theory.proofs.ClassProof.{split_shrinks_lem}
use Rattle.search_laws.specs.declared.Side.{Side}
use Rattle.search_laws.specs.declared.Side.TheVariants.{Low, High}
use Rattle.search_laws.specs.Grove.{GrowingTree, live, shut, fork, leaves_below, LiveLeaf, live_at, zone_at, certificate_tree}
use Rattle.search_laws.specs.GroveFacts.{IsSoundProof, KeepsBound, IsKept}
use Rattle.search_laws.specs.Laws.{PlantKeeps, ShutKeeps, ForkKeeps, CountsChangeByOne}
use Rattle.search_laws.proofs.Places.{leaves_put, splits_put, steps_put, live_count_put}

-- a list of one
pub All-one : {X : Type 0} (P : X → Type 0) (x : X) → P x → All P (x ∷ [])
All-one P x h = All-cons P x [] h (All-nil P)

-- the plain proof is sound over every blocking
pub plain_is_sound : (b : Blocking) → IsSoundProof b plain_proof
plain_is_sound b = record {
  fits = record {
    scale = omega arith;
    sizes = All-nil _;
    nonzero = All-nil _;
    rows = All-nil _;
    ascend = search rules;
    picked = (search rules, All-nil _);
  };
  signs = All-nil _;
}

pub plant_keeps_lem : PlantKeeps
plant_keeps_lem b zone v bound size = record {
  splits = tt;
  leaves = All-one (IsKept b) (record { path = []; zone = zone; proof = plain_proof; bound = Some v })
      (record {
        sound = plain_is_sound b;
        bound = record { scale = omega arith; holds = inr (v, bound, below v); size = size };
      });
}
  where
    below : (w : ℤ) → (pos 1 *ℤ (w -ℤ pos 1)) <ℤ w
    below w = omega (arith, ints)

pub shut_keeps_lem : ShutKeeps
shut_keeps_lem b zone t path leaf proof grove h sound = record {
  splits = splits_put t zone path leaf (shut proof) h grove.splits tt;
  leaves = leaves_put (IsKept b) t zone path leaf (shut proof) h grove.leaves
      (All-one (IsKept b) (record { path = path; zone = zone_at t zone path; proof = proof; bound = None })
      (record { sound = sound; bound = tt }));
}

-- the zone at the path of a live leaf is proper
pub zone_is_proper : (t : GrowingTree) (zone : List Span) (path : List Side) (leaf : LiveLeaf) → live_at t path ≡ Some leaf
    → HasSoundSplits (certificate_tree t) zone → IsProper zone → IsProper (zone_at t zone path)
zone_is_proper t zone [] leaf h sound proper = proper
zone_is_proper (live proof bound) zone (side ∷ path) leaf h sound proper = absurd (cc)
zone_is_proper (shut proof) zone (side ∷ path) leaf h sound proper = absurd (cc)
zone_is_proper (fork v at low high) zone (Low ∷ path) leaf h sound proper =
    zone_is_proper low (low_part zone v at) path leaf h sound.1 (split_shrinks_lem.low zone v at sound.0 proper).0
zone_is_proper (fork v at low high) zone (High ∷ path) leaf h sound proper =
    zone_is_proper high (high_part zone v at) path leaf h sound.2 (split_shrinks_lem.high zone v at sound.0 proper).0

-- a proof that holds in a zone holds in a smaller one
in_part : (b : Blocking) (small large : List Span) (path : List Side) (proof : Proof) (bound : ℤ) → IsProper small → IsSubzone small large
    → IsSoundProof b proof → KeepsBound b large proof bound
    → All (IsKept b) (leaves_below (live proof bound) path small)
in_part b small large path proof bound proper inside sound keeps =
    All-one (IsKept b) (record { path = path; zone = small; proof = proof; bound = Some bound })
    (record {
      sound = sound;
      bound = record {
        scale = keeps.scale;
        holds = shrink_lem.holds b small large proof bound proper inside keeps.holds;
        size = keeps.size;
      };
    })

pub fork_keeps_lem : ForkKeeps
fork_keeps_lem b zone t path leaf v at proof bound proper grove h split sound keeps =
    let here : List Span = zone_at t zone path in
    let fine : IsProper here = zone_is_proper t zone path leaf h grove.splits proper in
    let low = split_shrinks_lem.low here v at split fine in
    let high = split_shrinks_lem.high here v at split fine in
    record {
      splits = splits_put t zone path leaf (fork v at (live proof bound) (live proof bound)) h grove.splits (split, tt, tt);
      leaves = leaves_put (IsKept b) t zone path leaf (fork v at (live proof bound) (live proof bound)) h grove.leaves
          (All-append (IsKept b) (leaves_below (live proof bound) (path ++ Low ∷ []) (low_part here v at))
          (leaves_below (live proof bound) (path ++ High ∷ []) (high_part here v at))
          (in_part b (low_part here v at) here (path ++ Low ∷ []) proof bound low.0 low.1 sound keeps)
          (in_part b (high_part here v at) here (path ++ High ∷ []) proof bound high.0 high.1 sound keeps));
    }

pub counts_change_by_one_lem : CountsChangeByOne
counts_change_by_one_lem = record {
  shut_steps = λ t path leaf proof h. steps_put t path leaf (shut proof) h;
  shut_live = λ t path leaf proof h. omega (arith, live_count_put t path leaf (shut proof) h);
  fork_steps = λ t path leaf v at proof bound h. steps_put t path leaf (fork v at (live proof bound) (live proof bound)) h;
  fork_live = λ t path leaf v at proof bound h. omega (arith, live_count_put t path leaf (fork v at (live proof bound) (live proof bound)) h);
}
