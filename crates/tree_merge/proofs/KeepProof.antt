-- Two searches merged have the facts of a search.
use Rattle.std.proofs.Common.{◌≡◌, refl, sym, subst, ℕ, ◌+◌, ◌≤◌, Bool, true, false, List, [], ◌∷◌, ◌++◌, length, Option, Some, None, arith}
use Rattle.std.proofs.Math.IntN.{ℤ}
use Rattle.std.specs.Prelude.{int_lt, if◌then◌else◌, IfSome, All}
use Rattle.std.specs.List.{AllByRecursion}
use Rattle.std.proofs.lemmas.List.Elements.{All-from_recursion, recursion_from_All}
use Rattle.bp_theory.specs.Limits.{greatest_depth}
use Rattle.bp_theory.specs.Program.{Program, IsFeasible, cost}
use Rattle.bp_theory.specs.Blocking.{Blocking}
use Rattle.bp_theory.specs.Trees.{HasSoundSplits, IsSoundSplit, IsProper, IsSubzone, low_part, high_part}
use Rattle.bp_theory.specs.Digits.{zone_bits}
use Rattle.bp_theory.specs.declared.Limits.{Limits}
use Rattle.bp_theory.specs.declared.Span.{Span}
use Rattle.bp_theory.specs.declared.Proof.{Proof}
use Rattle.bp_theory.proofs.ShrinkProof.{shrink_lem}
use Rattle.bp_theory.proofs.ClassProof.{split_shrinks_lem}
use Rattle.bp_theory.proofs.TruthProof.{older_lem}
use Rattle.search_laws.specs.declared.Side.{Side}
use Rattle.search_laws.specs.declared.Side.TheVariants.{Low, High}
use Rattle.search_laws.specs.Grove.{GrowingTree, live, shut, fork, leaves_below, growing_leaves, certificate_tree}
use Rattle.search_laws.specs.GroveFacts.{IsSoundProof, KeepsBound, IsKept, Settles, IsSettled, IsShallow, IsSearch, IsNoDearer, best_cost}
use Rattle.search_laws.specs.Verdicts.{better, cheaper_cost}
use Rattle.search_laws.proofs.Places.{recursion_parts, recursion-append}
use Rattle.search_laws.proofs.SearchProof.{all_settled_for_cheaper}
use Rattle.tree_merge.specs.Merging.{same_split, raised, farther, is_beyond, least_live, merged, is_below, shut_by}
use Rattle.tree_merge.specs.Laws.{MergeKeeps}
use Rattle.tree_merge.proofs.TestFacts.{choose, no_less_by_test, split_same, cheaper_first, cheaper_second}

-- the facts of a search, of the part of a tree below a node of this path and zone
pub record IsSearchBelow (limits : Limits) (b : Blocking) (best : Option ℤ) (path : List Side) (zone : List Span) (t : GrowingTree) : Type 0 where
  pub splits : HasSoundSplits (certificate_tree t) zone
  pub kept : AllByRecursion (IsKept b) (leaves_below t path zone)
  pub shallow : AllByRecursion (IsShallow limits) (leaves_below t path zone)
  pub settled : AllByRecursion (IsSettled b best) (leaves_below t path zone)

low_of : (limits : Limits) (b : Blocking) (best : Option ℤ) (path : List Side) (zone : List Span) (v : ℕ) (at : ℤ) (low high : GrowingTree)
    → IsSearchBelow limits b best path zone (fork v at low high) → IsSearchBelow limits b best (path ++ Low ∷ []) (low_part zone v at) low
low_of limits b best path zone v at low high h =
    let first = leaves_below low (path ++ Low ∷ []) (low_part zone v at) in
    let second = leaves_below high (path ++ High ∷ []) (high_part zone v at) in
    record {
      splits = h.splits.1;
      kept = (recursion_parts (IsKept b) first second h.kept).0;
      shallow = (recursion_parts (IsShallow limits) first second h.shallow).0;
      settled = (recursion_parts (IsSettled b best) first second h.settled).0;
    }

high_of : (limits : Limits) (b : Blocking) (best : Option ℤ) (path : List Side) (zone : List Span) (v : ℕ) (at : ℤ) (low high : GrowingTree)
    → IsSearchBelow limits b best path zone (fork v at low high) → IsSearchBelow limits b best (path ++ High ∷ []) (high_part zone v at) high
high_of limits b best path zone v at low high h =
    let first = leaves_below low (path ++ Low ∷ []) (low_part zone v at) in
    let second = leaves_below high (path ++ High ∷ []) (high_part zone v at) in
    record {
      splits = h.splits.2;
      kept = (recursion_parts (IsKept b) first second h.kept).1;
      shallow = (recursion_parts (IsShallow limits) first second h.shallow).1;
      settled = (recursion_parts (IsSettled b best) first second h.settled).1;
    }

joined : (limits : Limits) (b : Blocking) (best : Option ℤ) (path : List Side) (zone : List Span) (v : ℕ) (at : ℤ) (low high : GrowingTree) → IsSoundSplit zone v at
    → IsSearchBelow limits b best (path ++ Low ∷ []) (low_part zone v at) low → IsSearchBelow limits b best (path ++ High ∷ []) (high_part zone v at) high
    → IsSearchBelow limits b best path zone (fork v at low high)
joined limits b best path zone v at low high here one two =
    let first = leaves_below low (path ++ Low ∷ []) (low_part zone v at) in
    let second = leaves_below high (path ++ High ∷ []) (high_part zone v at) in
    record {
      splits = (here, one.splits, two.splits);
      kept = recursion-append (IsKept b) first second one.kept two.kept;
      shallow = recursion-append (IsShallow limits) first second one.shallow two.shallow;
      settled = recursion-append (IsSettled b best) first second one.settled two.settled;
    }

-- what a proof shows of a zone it shows of a part
keeps_in : (b : Blocking) (small large : List Span) (proof : Proof) (bound : ℤ) → IsProper small × IsSubzone small large → KeepsBound b large proof bound
    → KeepsBound b small proof bound
keeps_in b small large proof bound part keeps = record {
  scale = keeps.scale;
  holds = shrink_lem.holds b small large proof bound part.0 part.1 keeps.holds;
  size = keeps.size;
}

raised_below : (limits : Limits) (b : Blocking) (best : Option ℤ) (path : List Side) (zone : List Span) (t : GrowingTree) (proof : Proof) (bound : ℤ) → IsProper zone
    → IsSoundProof b proof → KeepsBound b zone proof bound → IsSearchBelow limits b best path zone t → IsSearchBelow limits b best path zone (raised t proof bound)
raised_below limits b best path zone (live own least) proof bound proper sound keeps h =
    choose (IsSearchBelow limits b best path zone) (int_lt least bound) (live proof bound) (live own least)
    (λ less. record { splits = tt; kept = (record { sound = sound; bound = keeps }, tt); shallow = (h.shallow.0, tt); settled = (tt, tt) })
    (λ more. h)
raised_below limits b best path zone (shut own) proof bound proper sound keeps h = h
raised_below limits b best path zone (fork v at low high) proof bound proper sound keeps h =
    let here : IsSoundSplit zone v at = h.splits.0 in
    let one = split_shrinks_lem.low zone v at here proper in
    let two = split_shrinks_lem.high zone v at here proper in
    joined limits b best path zone v at (raised low proof bound) (raised high proof bound) here
    (raised_below limits b best (path ++ Low ∷ []) (low_part zone v at) low proof bound one.0 sound
    (keeps_in b (low_part zone v at) zone proof bound one keeps) (low_of limits b best path zone v at low high h))
    (raised_below limits b best (path ++ High ∷ []) (high_part zone v at) high proof bound two.0 sound
    (keeps_in b (high_part zone v at) zone proof bound two keeps) (high_of limits b best path zone v at low high h))

merged_below : (limits : Limits) (b : Blocking) (best : Option ℤ) (path : List Side) (zone : List Span) (t u : GrowingTree) → IsProper zone
    → IsSearchBelow limits b best path zone t → IsSearchBelow limits b best path zone u → IsSearchBelow limits b best path zone (merged t u)
merged_below limits b best path zone (shut p) u proper h g = h
merged_below limits b best path zone (live p z) (shut q) proper h g = g
merged_below limits b best path zone (live p z) (live q w) proper h g = raised_below limits b best path zone (live p z) q w proper g.kept.0.sound g.kept.0.bound h
merged_below limits b best path zone (live p z) (fork w c left right) proper h g =
    raised_below limits b best path zone (fork w c left right) p z proper h.kept.0.sound h.kept.0.bound g
merged_below limits b best path zone (fork v a low high) (shut q) proper h g = g
merged_below limits b best path zone (fork v a low high) (live q w) proper h g =
    raised_below limits b best path zone (fork v a low high) q w proper g.kept.0.sound g.kept.0.bound h
merged_below limits b best path zone (fork v a low high) (fork w c left right) proper h g =
    choose (IsSearchBelow limits b best path zone) (same_split v a w c) (fork v a (merged low left) (merged high right)) (farther (fork v a low high) (fork w c left right))
    (λ same.
    let split = split_same v w a c same in
    let here : IsSoundSplit zone v a = h.splits.0 in
    let other : IsSearchBelow limits b best path zone (fork v a left right) =
    subst (λ (n : ℕ). IsSearchBelow limits b best path zone (fork n a left right)) (sym split.0)
    (subst (λ (n : ℤ). IsSearchBelow limits b best path zone (fork w n left right)) (sym split.1) g) in
    joined limits b best path zone v a (merged low left) (merged high right) here
    (merged_below limits b best (path ++ Low ∷ []) (low_part zone v a) low left (split_shrinks_lem.low zone v a here proper).0
    (low_of limits b best path zone v a low high h) (low_of limits b best path zone v a left right other))
    (merged_below limits b best (path ++ High ∷ []) (high_part zone v a) high right (split_shrinks_lem.high zone v a here proper).0
    (high_of limits b best path zone v a low high h) (high_of limits b best path zone v a left right other)))
    (λ differ. choose (IsSearchBelow limits b best path zone) (is_beyond (least_live (fork w c left right)) (least_live (fork v a low high)))
    (fork w c left right) (fork v a low high) (λ beyond. g) (λ not. h))

-- a bound that is no less than the best cost settles a zone
settles_by_bound : (b : Blocking) (best : Option ℤ) (zone : List Span) (proof : Proof) (bound : ℤ) → is_below bound best ≡ false → KeepsBound b zone proof bound
    → Settles b best zone proof
settles_by_bound b None zone proof bound not keeps = absurd (cc)
settles_by_bound b (Some z) zone proof bound not keeps = older_lem.smaller b zone proof z bound (no_less_by_test bound z not) keeps.holds

shut_below : (limits : Limits) (b : Blocking) (best : Option ℤ) (path : List Side) (zone : List Span) (t : GrowingTree)
    → IsSearchBelow limits b best path zone t → IsSearchBelow limits b best path zone (shut_by best t)
shut_below limits b best path zone (live p z) h =
    choose (IsSearchBelow limits b best path zone) (is_below z best) (live p z) (shut p)
    (λ below. h)
    (λ not.
    let deep : length path + zone_bits zone ≤ greatest_depth limits = h.shallow.0 in
    let alone : length path ≤ greatest_depth limits = omega (arith, deep) in
    record {
      splits = tt;
      kept = (record { sound = h.kept.0.sound; bound = tt }, tt);
      shallow = (alone, tt);
      settled = (settles_by_bound b best zone p z not h.kept.0.bound, tt);
    })
shut_below limits b best path zone (shut p) h = h
shut_below limits b best path zone (fork v at low high) h =
    joined limits b best path zone v at (shut_by best low) (shut_by best high) h.splits.0
    (shut_below limits b best (path ++ Low ∷ []) (low_part zone v at) low (low_of limits b best path zone v at low high h))
    (shut_below limits b best (path ++ High ∷ []) (high_part zone v at) high (high_of limits b best path zone v at low high h))

-- the cost of the better point is the cheaper of both costs
pub better_cost : (p : Program) (best other : Option (List ℤ)) → best_cost p (better p best other) ≡ cheaper_cost (best_cost p best) (best_cost p other)
better_cost p None None = refl
better_cost p None (Some x) = refl
better_cost p (Some y) None = refl
better_cost p (Some y) (Some x) = by (int_lt (cost p x) (cost p y))
  where
    by : (t : Bool) → best_cost p (if t then Some x else Some y) ≡ Some (if t then cost p x else cost p y)
    by true = refl
    by false = refl

pub better_is_feasible : (p : Program) (best other : Option (List ℤ)) → IfSome best (IsFeasible p) → IfSome other (IsFeasible p) → IfSome (better p best other) (IsFeasible p)
better_is_feasible p None None h g = tt
better_is_feasible p None (Some x) h g = g
better_is_feasible p (Some y) None h g = h
better_is_feasible p (Some y) (Some x) h g = choose (λ (o : Option (List ℤ)). IfSome o (IsFeasible p)) (int_lt (cost p x) (cost p y)) (Some x) (Some y) (λ less. g) (λ more. h)

-- the facts of a search against a cheaper cost
against : (p : Program) (b : Blocking) (t : GrowingTree) (best : Option (List ℤ)) (cheaper : Option ℤ) → IsNoDearer cheaper (best_cost p best)
    → IsSearch p b t best → IsSearchBelow p.limits b cheaper [] p.spans t
against p b t best cheaper less search = record {
  splits = search.grove.splits;
  kept = recursion_from_All (IsKept b) (growing_leaves t p.spans) search.grove.leaves;
  shallow = recursion_from_All (IsShallow p.limits) (growing_leaves t p.spans) search.shallow;
  settled = recursion_from_All (IsSettled b cheaper) (growing_leaves t p.spans)
      (all_settled_for_cheaper b (growing_leaves t p.spans) cheaper (best_cost p best) less search.settled);
}

pub merge_keeps_lem : MergeKeeps
merge_keeps_lem p b t u best other proper first second =
    let x : Option ℤ = best_cost p best in
    let y : Option ℤ = best_cost p other in
    let cheaper : Option ℤ = cheaper_cost x y in
    let m : GrowingTree = shut_by cheaper (merged t u) in
    let facts : IsSearchBelow p.limits b cheaper [] p.spans m =
    shut_below p.limits b cheaper [] p.spans (merged t u)
    (merged_below p.limits b cheaper [] p.spans t u proper (against p b t best cheaper (cheaper_first x y) first) (against p b u other cheaper (cheaper_second x y) second)) in
    record {
      feasible = better_is_feasible p best other first.feasible second.feasible;
      grove = record { splits = facts.splits; leaves = All-from_recursion (IsKept b) (growing_leaves m p.spans) facts.kept };
      shallow = All-from_recursion (IsShallow p.limits) (growing_leaves m p.spans) facts.shallow;
      settled = subst (λ (o : Option ℤ). All (IsSettled b o) (growing_leaves m p.spans)) (sym (better_cost p best other))
          (All-from_recursion (IsSettled b cheaper) (growing_leaves m p.spans) facts.settled);
    }
