-- The outcome of a search may be written as a certificate.
use Rattle.std.proofs.Common.{◌≡◌, refl, sym, subst, ℕ, ◌<◌, List, [], ◌∷◌, ◌++◌, length, Option, Some, None, arith}
use Rattle.std.proofs.Math.IntN.{ℤ}
use Rattle.std.specs.Prelude.{IfSome, option_to_list}
use Rattle.std.specs.List.{AllByRecursion}
use Rattle.std.proofs.lemmas.Int.{ints}
use Rattle.std.proofs.lemmas.List.Elements.{recursion_from_All, All-from_recursion, All-contains}
use Rattle.bp_theory.specs.Program.{IsFeasible, IsInside, IsWithin, cost}
use Rattle.bp_theory.specs.Trees.{steps, low_part, high_part}
use Rattle.bp_theory.specs.Blocking.{Blocking}
use Rattle.bp_theory.specs.declared.Span.{Span}
use Rattle.bp_theory.proofs.ZipLaws.{AllZip-length}
use Rattle.bp_model.specs.Named.{HasSmallEnds}
use Rattle.bp_model.proofs.PointLemmas.{cost_small}
use Rattle.block_program.specs.Blocked.{BlockedProgram, IsFormed}
use Rattle.search_laws.specs.Grove.{GrowingTree, live, shut, fork, leaves_below, live_count, live_bounds, certificate_tree}
use Rattle.search_laws.specs.GroveFacts.{IsSearch, IsGrove, IsKept, IsRemainingBound, best_cost}
use Rattle.search_laws.specs.declared.Side.{Side}
use Rattle.search_laws.specs.declared.Side.TheVariants.{Low, High}
use Rattle.search_laws.proofs.DepthProof.{stays_shallow_lem}
use Rattle.search_laws.proofs.Places.{recursion_parts, recursion-append}
use Rattle.branch_tree.specs.Groves.{GroveState, IsGroveOf}
use Rattle.branch_tree.specs.declared.outcome.Outcome.{Outcome}
use Rattle.branch_tree.specs.declared.outcome.Outcome.TheVariants.{Optimal, Infeasible, Budget}
use Rattle.cert_text.specs.Programs.{IsSmall, IsSmallPoint}
use Rattle.cert_text.specs.Outcomes.{IsWritable}
use Rattle.bp_search.specs.declared.kept.Kept.{Kept}
use Rattle.bp_search.specs.Searches.{IsRunning}
use Rattle.bp_search.specs.Ends.{EndsWithin, ended, IsStopped}
use Rattle.bp_search.proofs.Final.{ends, stops}

-- a number of a small span is small
small_within : (s : Span) (v : ℤ) → HasSmallEnds s → IsWithin s v → IsSmall v
small_within s v ends within =
    let lo = ends.lo in
    let hi = ends.hi in
    let above = within.above in
    let below = within.below in
    grind (arith, ints)

small_inside : (spans : List Span) (x : List ℤ) → AllByRecursion HasSmallEnds spans → IsInside spans x → AllByRecursion IsSmall x
small_inside [] [] ends inside = tt
small_inside [] (v ∷ vs) ends inside = absurd inside
small_inside (s ∷ ss) [] ends inside = absurd inside
small_inside (s ∷ ss) (v ∷ vs) ends inside = (small_within s v ends.0 inside.0, small_inside ss vs ends.1 inside.1)

-- a feasible point has small numbers
small_point : (b : BlockedProgram) (x : List ℤ) → IsFormed b → IsFeasible b.named.program x → IsSmallPoint (length b.named.program.spans) x
small_point b x formed feasible = record {
  each = sym (AllZip-length IsWithin b.named.program.spans x feasible.inside);
  small = All-from_recursion IsSmall x
      (small_inside b.named.program.spans x (recursion_from_All HasSmallEnds b.named.program.spans formed.kept.ends) feasible.inside);
}

small_cost : (b : BlockedProgram) (x : List ℤ) → IsFormed b → IsFeasible b.named.program x → IsSmall (cost b.named.program x)
small_cost b x formed feasible = cost_small b.named x formed.kept feasible.inside

-- live bounds are small
small_lives : (b : Blocking) (t : GrowingTree) (path : List Side) (zone : List Span) → AllByRecursion (IsKept b) (leaves_below t path zone) → AllByRecursion IsSmall (live_bounds t)
small_lives b (live proof bound) path zone kept = (kept.0.bound.size, tt)
small_lives b (shut proof) path zone kept = tt
small_lives b (fork v at low high) path zone kept =
    let parts = recursion_parts (IsKept b) (leaves_below low (path ++ Low ∷ []) (low_part zone v at)) (leaves_below high (path ++ High ∷ []) (high_part zone v at)) kept in
    recursion-append IsSmall (live_bounds low) (live_bounds high) (small_lives b low (path ++ Low ∷ []) (low_part zone v at) parts.0)
    (small_lives b high (path ++ High ∷ []) (high_part zone v at) parts.1)

small_best : (b : BlockedProgram) (best : Option (List ℤ)) → IsFormed b → IfSome best (IsFeasible b.named.program)
    → AllByRecursion IsSmall (option_to_list (best_cost b.named.program best))
small_best b None formed feasible = tt
small_best b (Some x) formed feasible = (small_cost b x formed feasible, tt)

-- what is still to come has a small bound
small_remaining : (b : BlockedProgram) (t : GrowingTree) (best : Option (List ℤ)) (bound : ℤ) → IsFormed b → IsSearch b.named.program b.blocking t best
    → IsRemainingBound b.named.program t best bound → IsSmall bound
small_remaining b t best bound formed search remaining =
    let lives : AllByRecursion IsSmall (live_bounds t) =
    small_lives b.blocking t [] b.named.program.spans (recursion_from_All (IsKept b.blocking) (leaves_below t [] b.named.program.spans) search.grove.leaves) in
    let costs : List ℤ = option_to_list (best_cost b.named.program best) in
    All-contains IsSmall (live_bounds t ++ costs) bound
    (All-from_recursion IsSmall (live_bounds t ++ costs) (recursion-append IsSmall (live_bounds t) costs lives (small_best b best formed search.feasible)))
    remaining.reached

grove_of_program : (b : BlockedProgram) (g : GroveState) (best : Option (List ℤ)) → g.root ≡ b.named.program.spans
    → IsSearch b.named.program b.blocking g.tree best → IsGroveOf b g
grove_of_program b g best root search = record {
  root = root;
  kept = subst (λ (zone : List Span). IsGrove b.blocking zone g.tree) (sym root) search.grove;
}

-- an outcome of a search may be written
writable : (b : BlockedProgram) → IsFormed b → (most : ℕ) (o : Outcome) → EndsWithin b most o → IsWritable b o
writable b formed most (Optimal g point value) is = record {
  grove = grove_of_program b g (Some point) is.searched.root is.searched.search;
  shallow = stays_shallow_lem.depth b.named.program.limits g.tree b.named.program.spans is.searched.search.shallow;
  numbers = subst IsSmall (sym is.is_cost) (small_cost b point formed is.searched.search.feasible);
  point = small_point b point formed is.searched.search.feasible;
}
writable b formed most (Infeasible g) is = record {
  grove = grove_of_program b g None is.searched.root is.searched.search;
  shallow = stays_shallow_lem.depth b.named.program.limits g.tree b.named.program.spans is.searched.search.shallow;
  numbers = tt;
  point = tt;
}
writable b formed most (Budget g None bound) is = record {
  grove = grove_of_program b g None is.searched.root is.searched.search;
  shallow = stays_shallow_lem.depth b.named.program.limits g.tree b.named.program.spans is.searched.search.shallow;
  numbers = (small_remaining b g.tree None bound formed is.searched.search is.remaining, tt);
  point = tt;
}
writable b formed most (Budget g (Some kept) bound) is = record {
  grove = grove_of_program b g (Some kept.0) is.searched.root is.searched.search;
  shallow = stays_shallow_lem.depth b.named.program.limits g.tree b.named.program.spans is.searched.search.shallow;
  numbers = (
    small_remaining b g.tree (Some kept.0) bound formed is.searched.search is.remaining,
    subst IsSmall (sym is.kept.1) (small_cost b kept.0 formed is.kept.0),
  );
  point = small_point b kept.0 formed is.kept.0;
}

-- where no leaf is live
pub ended_writable : (b : BlockedProgram) (g : GroveState) (best : Option Kept) → IsFormed b → IsRunning b g best → live_count g.tree ≡ 0
    → IsWritable b (ended g best)
ended_writable b g best formed run none =
    writable b formed (steps (certificate_tree g.tree)) (ended g best) (ends b (steps (certificate_tree g.tree)) g best formed run none (omega arith))

-- where a leaf is live
pub stopped_writable : (b : BlockedProgram) (g : GroveState) (best : Option Kept) (outcome : Outcome) → IsFormed b → IsRunning b g best
    → 0 < live_count g.tree → IsStopped g best outcome → IsWritable b outcome
stopped_writable b g best outcome formed run some stop =
    writable b formed (steps (certificate_tree g.tree)) outcome (stops b (steps (certificate_tree g.tree)) g best outcome formed run some refl stop)
