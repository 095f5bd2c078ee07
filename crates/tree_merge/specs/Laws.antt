-- The laws of merging.
use Rattle.std.specs.Prelude.{◌≡◌, ◌⊎◌, ◌+◌, ◌≤◌, List, Option, Some, ℤ, ◌≤ℤ◌, ◌<ℤ◌}
use Rattle.bp_theory.specs.Program.{Program}
use Rattle.bp_theory.specs.Blocking.{Blocking, IsFaithful}
use Rattle.bp_theory.specs.Trees.{IsProper, HasSoundSplits}
use Rattle.bp_theory.specs.declared.Span.{Span}
use Rattle.search_laws.specs.declared.Side.{Side}
use Rattle.search_laws.specs.Grove.{GrowingTree, LiveLeaf, live_at, zone_at, live_count, certificate_tree}
use Rattle.search_laws.specs.GroveFacts.{IsSearch, IsRemainingBound, best_cost}
use Rattle.search_laws.specs.Verdicts.{better, cheaper_cost}
use Rattle.branch_tree.specs.Groves.{made}
use Rattle.tree_merge.specs.Merging.{merged, shut_by}
use Rattle.tree_merge.specs.Opens.{AgreeInSplits, open_at, open_in_both, live_bound, LiesUnder, IsAsFarAs}

-- two trees with their best points made into one: with the cheaper point, the first's of equals, whose cost shuts what it settles
abbrev pub merged_by : Option ℤ → Option ℤ → GrowingTree → GrowingTree → GrowingTree
merged_by cost other t u = shut_by (cheaper_cost cost other) (merged t u)

-- two searches of one program merged have the facts of a search: each shut leaf is settled against the cheaper point, each live leaf keeps
-- a bound that its proof shows, and none is too deep
abbrev pub MergeKeeps : Type 0
MergeKeeps = (p : Program) (b : Blocking) (t u : GrowingTree) (best other : Option (List ℤ)) → IsProper p.spans → IsSearch p b t best → IsSearch p b u other
    → IsSearch p b (merged_by (best_cost p best) (best_cost p other) t u) (better p best other)

-- a node is open in the merged tree exactly where it is open in both, and with the better of both bounds, where no two splits differ
abbrev pub MergedByNode : Type 0
MergedByNode = (t u : GrowingTree) (path : List Side) → AgreeInSplits t u → open_at (merged t u) path ≡ open_in_both (open_at t path) (open_at u path)

-- Nothing that was done is lost: what is live in the merged tree was live in one of the two, with no greater bound; and in both, where no
-- two splits differ.
pub record NothingIsLost : Type 0 where
  pub either : (spans : List Span) (t u : GrowingTree) (cost other : Option ℤ) (path : List Side) (leaf : LiveLeaf) → IsProper spans
      → HasSoundSplits (certificate_tree t) spans → HasSoundSplits (certificate_tree u) spans → live_at (merged_by cost other t u) path ≡ Some leaf
      → LiesUnder spans t (zone_at (merged_by cost other t u) spans path) path leaf.bound
      ⊎ LiesUnder spans u (zone_at (merged_by cost other t u) spans path) path leaf.bound
  pub first : (spans : List Span) (t u : GrowingTree) (cost other : Option ℤ) → IsProper spans → HasSoundSplits (certificate_tree t) spans
      → HasSoundSplits (certificate_tree u) spans → AgreeInSplits t u → IsAsFarAs spans (merged_by cost other t u) t
  pub second : (spans : List Span) (t u : GrowingTree) (cost other : Option ℤ) → IsProper spans → HasSoundSplits (certificate_tree t) spans
      → HasSoundSplits (certificate_tree u) spans → AgreeInSplits t u → IsAsFarAs spans (merged_by cost other t u) u

-- The bound that is left to a search, the least of the live bounds and the best cost, is no worse after merging than that of either; and
-- where nothing is live in one of the two nothing is live after merging.
pub record BoundsRise : Type 0 where
  pub first : (p : Program) (b : Blocking) (t u : GrowingTree) (best other : Option (List ℤ)) (v w : ℤ) → IsFaithful p b
      → IsSearch p b t best → IsSearch p b u other → IsRemainingBound p t best v
      → IsRemainingBound p (merged_by (best_cost p best) (best_cost p other) t u) (better p best other) w → v ≤ℤ w
  pub second : (p : Program) (b : Blocking) (t u : GrowingTree) (best other : Option (List ℤ)) (v w : ℤ) → IsFaithful p b
      → IsSearch p b t best → IsSearch p b u other → IsRemainingBound p u other v
      → IsRemainingBound p (merged_by (best_cost p best) (best_cost p other) t u) (better p best other) w → v ≤ℤ w
  pub first_ended : (t u : GrowingTree) (cost other : Option ℤ) → live_count t ≡ 0 → live_count (merged_by cost other t u) ≡ 0
  pub second_ended : (t u : GrowingTree) (cost other : Option ℤ) → live_count u ≡ 0 → live_count (merged_by cost other t u) ≡ 0

-- a live leaf's bound is below the best cost: so a search whose bound reached its value has ended
abbrev pub LeavesAreWorth : Type 0
LeavesAreWorth = (t : GrowingTree) (cost : ℤ) (path : List Side) (leaf : LiveLeaf) → live_at (shut_by (Some cost) t) path ≡ Some leaf → leaf.bound <ℤ cost

-- Where no two splits differ, neither the order of merging nor the grouping of three changes which leaves are live, or their bounds.
pub record OrderIsFree : Type 0 where
  pub order : (t u : GrowingTree) (x y : Option ℤ) (path : List Side) → AgreeInSplits t u → live_bound (merged_by x y t u) path ≡ live_bound (merged_by y x u t) path
  pub grouping : (t u w : GrowingTree) (x y z : Option ℤ) (path : List Side) → AgreeInSplits t u → AgreeInSplits t w → AgreeInSplits u w
      → live_bound (merged_by (cheaper_cost x y) z (merged_by x y t u) w) path ≡ live_bound (merged_by x (cheaper_cost y z) t (merged_by y z u w)) path

-- merging a tree with itself changes nothing
abbrev pub MergedWithItself : Type 0
MergedWithItself = (t : GrowingTree) → merged t t ≡ t

-- a merged tree has no more nodes than both trees together
abbrev pub NodesAddUp : Type 0
NodesAddUp = (t u : GrowingTree) (cost other : Option ℤ) → made (merged_by cost other t u) ≤ made t + made u
