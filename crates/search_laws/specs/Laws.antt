-- The laws of the search.
use Rattle.std.specs.Prelude.{ℕ, ◌+◌, ◌<◌, ◌≤◌, ◌^◌, ◌≡◌, ◌≢◌, ◌↔◌, List, [], ◌∷◌, ◌++◌, Option, Some, None, ℤ, pos, ◌+ℤ◌, ◌*ℤ◌, ◌≤ℤ◌, zip, unsigned_abs, length, map, count_by, sum, is_some, Bool, All}
use Rattle.bp_theory.specs.Limits.{greatest_depth, number_limit}
use Rattle.bp_theory.specs.Program.{Program, IsInside, IsFeasible, IsBest, cost, span_at}
use Rattle.bp_theory.specs.Blocking.{Blocking, IsFaithful, AddsUp}
use Rattle.bp_theory.specs.Decomposition.{Decomposition, IsClosed, HasPlaces, full_row, proof_rows, blocking_of}
use Rattle.bp_theory.specs.Bound.{IsBound, IsEndless, Fits, plain_proof}
use Rattle.bp_theory.specs.Cuts.{cut_rows}
use Rattle.bp_theory.specs.Claims.{Certificate, IsValid, IsCertified, IsTrueClaim}
use Rattle.bp_theory.specs.Trees.{Tree, IsProper, IsSubzone, IsSoundSplit, HasSoundSplits, low_part, high_part, steps, depth, leaves, HoldsOnce}
use Rattle.bp_theory.specs.declared.Limits.{Limits}
use Rattle.bp_theory.specs.declared.Span.{Span}
use Rattle.bp_theory.specs.declared.Proof.{Proof}
use Rattle.bp_theory.specs.declared.Row.{Row}
use Rattle.bp_theory.specs.declared.MasterRow.{MasterRow}
use Rattle.bp_theory.specs.declared.Cut.{Cut}
use Rattle.search_laws.specs.declared.Side.{Side}
use Rattle.search_laws.specs.declared.Side.TheVariants.{Low, High}
use Rattle.search_laws.specs.Grove.{GrowingTree, LiveLeaf, growing_leaves, planted, live_at, zone_at, put_at, shut_at, fork_at, live_count, live_bounds, certificate_tree}
use Rattle.bp_theory.specs.Digits.{zone_bits, middle}
use Rattle.search_laws.specs.GroveFacts.{IsGrove, IsSoundProof, KeepsBound, IsShallow, IsTimelySplit, IsSized, IsSearch, Settles, IsNoDearer, best_cost, IsLeastOf, IsRemainingBound}
use Rattle.search_laws.specs.declared.Next.{Next}
use Rattle.search_laws.specs.declared.Verdict.{Verdict}
use Rattle.search_laws.specs.Verdicts.{IsVerdict, better, grown}
use Rattle.search_laws.specs.Crew.{Crew, CrewEvent, takes, reports, drops, Leads, IsRun, is_report, shuts_leaf, forks_leaf, idle_crew, IsCrew, IsFree, held_by, listed, holds_after, is_shut_kind, is_fork_kind, free_count, holder_count}
use Rattle.search_laws.specs.declared.Column.{Column}
use Rattle.search_laws.specs.Master.{IsKnownColumn, HaveFittingSigns, AreConvex, FitsTimes, one_weight, weighted_cost, gap, short}
use Rattle.search_laws.specs.Loading.{Loads, IsReadable, IsFinalClaim}
use Rattle.search_laws.specs.Parts.{ArePartsOf, chosen_sum}
use Rattle.search_laws.specs.declared.UsedColumn.{UsedColumn}
use Rattle.search_laws.specs.Spread.{AreClasses, IsUsed, IsSpread, MeetOwnRows, HasEachRow, HasEachVariable, used_total}
use Rattle.search_laws.specs.Queue.{Queue, IsQueue, IsWithout, IsWith, IsEmptyQueue, IsFirstEntry}
use Rattle.search_laws.specs.Outcomes.{CutsFit, final_claim, stopped_claim, read_off}

-- a planted tree has its facts where its bound is that of the plain proof
abbrev pub PlantKeeps : Type 0
PlantKeeps = (b : Blocking) (zone : List Span) (v : ℤ) → IsBound b zone plain_proof v → unsigned_abs v < number_limit
    → IsGrove b zone (planted v)

-- a live leaf shut with a sound proof keeps the facts
abbrev pub ShutKeeps : Type 0
ShutKeeps = (b : Blocking) (zone : List Span) (t : GrowingTree) (path : List Side) (leaf : LiveLeaf) (proof : Proof)
    → IsGrove b zone t → live_at t path ≡ Some leaf → IsSoundProof b proof
    → IsGrove b zone (shut_at t path proof)

-- a live leaf forked soundly, with a sound proof that holds in its zone for a bound, keeps the facts
abbrev pub ForkKeeps : Type 0
ForkKeeps = (b : Blocking) (zone : List Span) (t : GrowingTree) (path : List Side) (leaf : LiveLeaf) (v : ℕ) (at : ℤ) (proof : Proof) (bound : ℤ)
    → IsProper zone → IsGrove b zone t → live_at t path ≡ Some leaf → IsSoundSplit (zone_at t zone path) v at
    → IsSoundProof b proof → KeepsBound b (zone_at t zone path) proof bound
    → IsGrove b zone (fork_at t path v at proof bound)

-- a tree that is planted, shut, or forked in time, stays shallow, and so its depth is at most the greatest of its limits
pub record StaysShallow : Type 0 where
  pub planted : (p : Program) (v : ℤ) → IsSized p → All (IsShallow p.limits) (growing_leaves (planted v) p.spans)
  pub shut : (p : Program) (t : GrowingTree) (path : List Side) (leaf : LiveLeaf) (proof : Proof)
      → live_at t path ≡ Some leaf → All (IsShallow p.limits) (growing_leaves t p.spans) → All (IsShallow p.limits) (growing_leaves (shut_at t path proof) p.spans)
  pub forked : (p : Program) (t : GrowingTree) (path : List Side) (leaf : LiveLeaf) (v : ℕ) (at : ℤ) (proof : Proof) (bound : ℤ)
      → IsSized p → HasSoundSplits (certificate_tree t) p.spans → live_at t path ≡ Some leaf
      → IsSoundSplit (zone_at t p.spans path) v at → IsTimelySplit (length path) (zone_at t p.spans path) v at
      → All (IsShallow p.limits) (growing_leaves t p.spans) → All (IsShallow p.limits) (growing_leaves (fork_at t path v at proof bound) p.spans)
  pub depth : (limits : Limits) (t : GrowingTree) (zone : List Span) → All (IsShallow limits) (growing_leaves t zone)
      → depth (certificate_tree t) ≤ greatest_depth limits

-- a split at the middle takes at least one bit from the zones of both parts, and no sound split adds one
pub record MiddleTakesABit : Type 0 where
  pub low : (zone : List Span) (v : ℕ) (at : ℤ) → IsSoundSplit zone v at → at ≡ middle (span_at zone v) → zone_bits (low_part zone v at) < zone_bits zone
  pub high : (zone : List Span) (v : ℕ) (at : ℤ) → IsSoundSplit zone v at → at ≡ middle (span_at zone v) → zone_bits (high_part zone v at) < zone_bits zone
  pub smaller : (small large : List Span) → IsSubzone small large → zone_bits small ≤ zone_bits large

-- the facts of a search are there when it begins, and stay when a leaf is shut or forked and when a cheaper point is found
pub record SearchKeeps : Type 0 where
  pub planted : (p : Program) (b : Blocking) (v : ℤ) → IsSized p → IsBound b p.spans plain_proof v → unsigned_abs v < number_limit
      → IsSearch p b (planted v) None
  pub shut : (p : Program) (b : Blocking) (t : GrowingTree) (best : Option (List ℤ)) (path : List Side) (leaf : LiveLeaf) (proof : Proof)
      → IsSearch p b t best → live_at t path ≡ Some leaf → IsSoundProof b proof → Settles b (best_cost p best) (zone_at t p.spans path) proof
      → IsSearch p b (shut_at t path proof) best
  pub forked : (p : Program) (b : Blocking) (t : GrowingTree) (best : Option (List ℤ)) (path : List Side) (leaf : LiveLeaf)
      (v : ℕ) (at : ℤ) (proof : Proof) (bound : ℤ)
      → IsSized p → IsSearch p b t best → live_at t path ≡ Some leaf
      → IsSoundSplit (zone_at t p.spans path) v at → IsTimelySplit (length path) (zone_at t p.spans path) v at
      → IsSoundProof b proof → KeepsBound b (zone_at t p.spans path) proof bound
      → IsSearch p b (fork_at t path v at proof bound) best
  pub cheaper : (p : Program) (b : Blocking) (t : GrowingTree) (best : Option (List ℤ)) (x : List ℤ)
      → IsSearch p b t best → IsFeasible p x → IsNoDearer (Some (cost p x)) (best_cost p best)
      → IsSearch p b t (Some x)

-- while a leaf is live there is exactly one least of the live bounds
pub record LeastBoundIsThere : Type 0 where
  pub there : (t : GrowingTree) → 0 < live_count t → (v : ℤ) × IsLeastOf (live_bounds t) v
  pub one : (zs : List ℤ) (v w : ℤ) → IsLeastOf zs v → IsLeastOf zs w → v ≡ w
  pub remaining : (p : Program) (t : GrowingTree) (best : Option (List ℤ)) → 0 < live_count t → (v : ℤ) × IsRemainingBound p t best v

-- where no leaf is live the kept point is best, or nothing is feasible; at every moment no feasible
-- point costs less than the remaining bound
pub record SearchIsRight : Type 0 where
  pub best : (p : Program) (b : Blocking) (t : GrowingTree) (x : List ℤ) → IsFaithful p b → IsSearch p b t (Some x) → live_count t ≡ 0 → IsBest p x
  pub none : (p : Program) (b : Blocking) (t : GrowingTree) → IsFaithful p b → IsSearch p b t None → live_count t ≡ 0
      → (x : List ℤ) → IsFeasible p x → ⊥
  pub bound : (p : Program) (b : Blocking) (t : GrowingTree) (best : Option (List ℤ)) (v : ℤ) → IsFaithful p b → IsSearch p b t best
      → IsRemainingBound p t best v → (x : List ℤ) → IsFeasible p x → v ≤ℤ cost p x

-- the certificate that is read off the tree is valid: at the end for the best point's value or for
-- none, and at every moment for the remaining bound
pub record ReadOffIsValid : Type 0 where
  pub ended : (p : Program) (b : Blocking) (t : GrowingTree) (best : Option (List ℤ)) (cuts : List Cut) → IsSearch p b t best
      → live_count t ≡ 0 → IsValid p b (read_off (final_claim p best) best cuts t)
  pub stopped : (p : Program) (b : Blocking) (t : GrowingTree) (best : Option (List ℤ)) (v : ℤ) (cuts : List Cut) → IsSearch p b t best
      → IsRemainingBound p t best v → IsValid p b (read_off (stopped_claim p best v) best cuts t)

-- the same for a decomposition and cuts: the certificate is valid for them, and its claim is true
pub record ReadOffIsCertified : Type 0 where
  pub ended : (p : Program) (d : Decomposition) (cuts : List Cut) (t : GrowingTree) (best : Option (List ℤ)) → CutsFit p d cuts
      → IsSearch p (blocking_of p d (cut_rows p d [] cuts)) t best → live_count t ≡ 0
      → IsCertified p d (read_off (final_claim p best) best cuts t)
  pub stopped : (p : Program) (d : Decomposition) (cuts : List Cut) (t : GrowingTree) (best : Option (List ℤ)) (v : ℤ) → CutsFit p d cuts
      → IsSearch p (blocking_of p d (cut_rows p d [] cuts)) t best → IsRemainingBound p t best v
      → IsCertified p d (read_off (stopped_claim p best v) best cuts t)
  pub true_at_end : (p : Program) (d : Decomposition) (cuts : List Cut) (t : GrowingTree) (best : Option (List ℤ)) → IsClosed p → CutsFit p d cuts
      → IsSearch p (blocking_of p d (cut_rows p d [] cuts)) t best → live_count t ≡ 0
      → IsTrueClaim p (final_claim p best)
  pub true_when_stopped : (p : Program) (d : Decomposition) (cuts : List Cut) (t : GrowingTree) (best : Option (List ℤ)) (v : ℤ) → IsClosed p → CutsFit p d cuts
      → IsSearch p (blocking_of p d (cut_rows p d [] cuts)) t best → IsRemainingBound p t best v
      → IsTrueClaim p (stopped_claim p best v)

-- a live leaf that is shut or forked adds one step, and takes one live leaf away or adds one
pub record CountsChangeByOne : Type 0 where
  pub shut_steps : (t : GrowingTree) (path : List Side) (leaf : LiveLeaf) (proof : Proof) → live_at t path ≡ Some leaf
      → steps (certificate_tree (shut_at t path proof)) ≡ steps (certificate_tree t) + 1
  pub shut_live : (t : GrowingTree) (path : List Side) (leaf : LiveLeaf) (proof : Proof) → live_at t path ≡ Some leaf
      → live_count (shut_at t path proof) + 1 ≡ live_count t
  pub fork_steps : (t : GrowingTree) (path : List Side) (leaf : LiveLeaf) (v : ℕ) (at : ℤ) (proof : Proof) (bound : ℤ) → live_at t path ≡ Some leaf
      → steps (certificate_tree (fork_at t path v at proof bound)) ≡ steps (certificate_tree t) + 1
  pub fork_live : (t : GrowingTree) (path : List Side) (leaf : LiveLeaf) (v : ℕ) (at : ℤ) (proof : Proof) (bound : ℤ) → live_at t path ≡ Some leaf
      → live_count (fork_at t path v at proof bound) ≡ live_count t + 1

-- a verdict that is right for a best cost no cheaper than that of now keeps the facts of a search, and
-- adds one step; the best point is no dearer than before
pub record VerdictsKeep : Type 0 where
  pub search : (p : Program) (b : Blocking) (t : GrowingTree) (best : Option (List ℤ)) (path : List Side) (leaf : LiveLeaf) (given : Option ℤ) (verdict : Verdict)
      → IsSized p → IsSearch p b t best → live_at t path ≡ Some leaf → IsNoDearer (best_cost p best) given
      → IsVerdict p b (length path) (zone_at t p.spans path) leaf.bound given verdict
      → IsSearch p b (grown t path verdict.next) (better p best verdict.point)
  pub steps : (t : GrowingTree) (path : List Side) (leaf : LiveLeaf) (next : Next) → live_at t path ≡ Some leaf
      → steps (certificate_tree (grown t path next)) ≡ steps (certificate_tree t) + 1
  pub no_dearer : (p : Program) (best : Option (List ℤ)) (point : Option (List ℤ)) → IsNoDearer (best_cost p (better p best point)) (best_cost p best)

-- a crew with idle workers over a search has the facts of a crew, and each event keeps them; a report
-- adds one step, and to take or drop a leaf changes neither the tree nor the best point
pub record EventsKeep : Type 0 where
  pub idle : (p : Program) (b : Blocking) (t : GrowingTree) (best : Option (List ℤ)) (workers : ℕ) → IsSearch p b t best → IsCrew p b (idle_crew t best workers)
  pub kept : (p : Program) (b : Blocking) (before after : Crew) (event : CrewEvent) → IsSized p → IsCrew p b before → Leads p b before event after → IsCrew p b after
  pub reported : (p : Program) (b : Blocking) (before after : Crew) (worker : ℕ) (verdict : Verdict) → Leads p b before (reports worker verdict) after
      → steps (certificate_tree after.tree) ≡ steps (certificate_tree before.tree) + 1
  pub taken : (p : Program) (b : Blocking) (before after : Crew) (worker : ℕ) (path : List Side) → Leads p b before (takes worker path) after
      → (after.tree ≡ before.tree) × (after.best ≡ before.best)
  pub dropped : (p : Program) (b : Blocking) (before after : Crew) (worker : ℕ) → Leads p b before (drops worker) after
      → (after.tree ≡ before.tree) × (after.best ≡ before.best)

-- every run keeps the facts of a crew; its reports count the steps, and its forks and shut leaves
-- the live leaves; and each point of the root zone lies in exactly one leaf
pub record RunsKeep : Type 0 where
  pub kept : (p : Program) (b : Blocking) (first last : Crew) (events : List CrewEvent) → IsSized p → IsCrew p b first → IsRun p b first events last
      → IsCrew p b last
  pub steps : (p : Program) (b : Blocking) (first last : Crew) (events : List CrewEvent) → IsRun p b first events last
      → steps (certificate_tree last.tree) ≡ steps (certificate_tree first.tree) + count_by is_report events
  pub live : (p : Program) (b : Blocking) (first last : Crew) (events : List CrewEvent) → IsRun p b first events last
      → live_count last.tree + count_by shuts_leaf events ≡ live_count first.tree + count_by forks_leaf events
  pub covered : (p : Program) (b : Blocking) (crew : Crew) (x : List ℤ) → IsCrew p b crew → IsInside p.spans x
      → HoldsOnce (λ leaf. IsInside leaf.zone x) (leaves (certificate_tree crew.tree) p.spans)

-- at every moment of every run from a search: where no leaf is live the best point is best, or nothing
-- is feasible, and the certificate for it is valid; else the one for the remaining bound is
pub record CrewIsRight : Type 0 where
  pub best : (p : Program) (b : Blocking) (first last : Crew) (events : List CrewEvent) (x : List ℤ) → IsSized p → IsFaithful p b
      → IsCrew p b first → IsRun p b first events last → last.best ≡ Some x → live_count last.tree ≡ 0 → IsBest p x
  pub none : (p : Program) (b : Blocking) (first last : Crew) (events : List CrewEvent) (x : List ℤ) → IsSized p → IsFaithful p b
      → IsCrew p b first → IsRun p b first events last → last.best ≡ None → live_count last.tree ≡ 0 → IsFeasible p x → ⊥
  pub bound : (p : Program) (b : Blocking) (first last : Crew) (events : List CrewEvent) (v : ℤ) (x : List ℤ) → IsSized p → IsFaithful p b
      → IsCrew p b first → IsRun p b first events last → IsRemainingBound p last.tree last.best v → IsFeasible p x → v ≤ℤ cost p x
  pub ended : (p : Program) (d : Decomposition) (cuts : List Cut) (first last : Crew) (events : List CrewEvent) → IsSized p → CutsFit p d cuts
      → IsCrew p (blocking_of p d (cut_rows p d [] cuts)) first → IsRun p (blocking_of p d (cut_rows p d [] cuts)) first events last
      → live_count last.tree ≡ 0 → IsCertified p d (read_off (final_claim p last.best) last.best cuts last.tree)
  pub stopped : (p : Program) (d : Decomposition) (cuts : List Cut) (first last : Crew) (events : List CrewEvent) (v : ℤ) → IsSized p → CutsFit p d cuts
      → IsCrew p (blocking_of p d (cut_rows p d [] cuts)) first → IsRun p (blocking_of p d (cut_rows p d [] cuts)) first events last
      → IsRemainingBound p last.tree last.best v → IsCertified p d (read_off (stopped_claim p last.best v) last.best cuts last.tree)

-- whatever the multipliers, so they have fitting signs: weights that fit times a number cost no less
-- than an answer's, in units, but for the gap
abbrev pub GapBounds : Type 0
GapBounds = (cols : List Column) (rows : List MasterRow) (counts : List ℕ) (weights mults convex : List ℤ)
    → All (IsKnownColumn (length rows) (length counts)) cols → HaveFittingSigns rows mults → AreConvex cols (length counts) mults convex
    → (n : ℕ) (others : List ℤ) → All (λ y. pos 0 ≤ℤ y) others → FitsTimes n rows counts (zip cols others)
    → (pos n *ℤ weighted_cost (zip cols weights)) ≤ℤ (pos one_weight *ℤ weighted_cost (zip cols others) +ℤ pos n *ℤ gap rows counts (zip cols weights) mults convex)

-- nothing is short exactly where the weights fit in units
abbrev pub ShortIsNone : Type 0
ShortIsNone = (rows : List MasterRow) (counts : List ℕ) (zs : List (Column × ℤ)) → short rows counts zs ≡ 0 ↔ FitsTimes one_weight rows counts zs

-- a valid certificate can be loaded, in one way; the loaded tree has the facts of a search where it is
-- shallow; and no leaf of it is live where the claim isn't one of a bound
pub record LoadKeeps : Type 0 where
  pub there : (p : Program) (b : Blocking) (cert : Certificate) → IsProper p.spans → IsValid p b cert
      → (t : GrowingTree) × Loads b (best_cost p cert.point) p.spans cert.tree t
  pub one : (p : Program) (b : Blocking) (tree : Tree) (best : Option ℤ) (t u : GrowingTree) → Loads b best p.spans tree t → Loads b best p.spans tree u → t ≡ u
  pub search : (p : Program) (b : Blocking) (cert : Certificate) (t : GrowingTree) → IsValid p b cert → IsReadable p b cert
      → Loads b (best_cost p cert.point) p.spans cert.tree t → All (IsShallow p.limits) (growing_leaves t p.spans) → IsSearch p b t cert.point
  pub none_live : (p : Program) (b : Blocking) (cert : Certificate) (t : GrowingTree) → IsValid p b cert → IsFinalClaim cert.claim
      → Loads b (best_cost p cert.point) p.spans cert.tree t → live_count t ≡ 0
  pub shallow : (p : Program) (b : Blocking) (t loaded : GrowingTree) (best : Option (List ℤ)) → IsSearch p b t best
      → Loads b (best_cost p best) p.spans (certificate_tree t) loaded → All (IsShallow p.limits) (growing_leaves loaded p.spans)

-- searches that end agree in word and value; so a run that is stopped, written, loaded and ended by
-- another run claims what a run that isn't stopped claims
pub record ResumeAgrees : Type 0 where
  pub ends : (p : Program) (b : Blocking) (t u : GrowingTree) (best other : Option (List ℤ)) → IsFaithful p b → IsSearch p b t best → IsSearch p b u other
      → live_count t ≡ 0 → live_count u ≡ 0 → final_claim p best ≡ final_claim p other
  pub resumed : (p : Program) (b : Blocking) (t loaded : GrowingTree) (best : Option (List ℤ)) (v : ℤ) (workers others : ℕ)
      (events later : List CrewEvent) (last end : Crew)
      → IsSized p → IsFaithful p b → IsSearch p b t best → IsRemainingBound p t best v → unsigned_abs v < number_limit
      → Loads b (best_cost p best) p.spans (read_off (stopped_claim p best v) best [] t).tree loaded
      → IsRun p b (idle_crew t best workers) events last → live_count last.tree ≡ 0
      → IsRun p b (idle_crew loaded best others) later end → live_count end.tree ≡ 0
      → final_claim p last.best ≡ final_claim p end.best

-- each number has its parts, in one way; they add up to it, and some of them to each number up to it
pub record PartsSuffice : Type 0 where
  pub there : (w : ℕ) → (parts : List ℕ) × ArePartsOf w parts
  pub one : (w : ℕ) (parts others : List ℕ) → ArePartsOf w parts → ArePartsOf w others → parts ≡ others
  pub whole : (w : ℕ) (parts : List ℕ) → ArePartsOf w parts → sum parts ≡ w
  pub each : (w : ℕ) (parts : List ℕ) (v : ℕ) → ArePartsOf w parts → v ≤ w
      → (chosen : List Bool) × (length chosen ≡ length parts) × (chosen_sum chosen parts ≡ v)
  pub none_more : (w : ℕ) (parts : List ℕ) (chosen : List Bool) → ArePartsOf w parts → chosen_sum chosen parts ≤ w

-- which paths have a live leaf, and in which zone, once a live leaf is shut or forked
pub record LiveLeavesChange : Type 0 where
  pub shut_gone : (t : GrowingTree) (path : List Side) (leaf : LiveLeaf) (proof : Proof) → live_at t path ≡ Some leaf
      → live_at (shut_at t path proof) path ≡ None
  pub shut_others : (t : GrowingTree) (path other : List Side) (leaf : LiveLeaf) (proof : Proof) → live_at t path ≡ Some leaf → other ≢ path
      → live_at (shut_at t path proof) other ≡ live_at t other
  pub fork_gone : (t : GrowingTree) (path : List Side) (leaf : LiveLeaf) (v : ℕ) (at : ℤ) (proof : Proof) (bound : ℤ) → live_at t path ≡ Some leaf
      → live_at (fork_at t path v at proof bound) path ≡ None
  pub fork_parts : (t : GrowingTree) (path : List Side) (leaf : LiveLeaf) (v : ℕ) (at : ℤ) (proof : Proof) (bound : ℤ) (side : Side) → live_at t path ≡ Some leaf
      → live_at (fork_at t path v at proof bound) (path ++ side ∷ []) ≡ Some (record { proof = proof; bound = bound })
  pub fork_others : (t : GrowingTree) (path other : List Side) (leaf : LiveLeaf) (v : ℕ) (at : ℤ) (proof : Proof) (bound : ℤ) → live_at t path ≡ Some leaf
      → other ≢ path → ((side : Side) → other ≢ path ++ side ∷ [])
      → live_at (fork_at t path v at proof bound) other ≡ live_at t other
  pub low_zone : (t : GrowingTree) (zone : List Span) (path : List Side) (leaf : LiveLeaf) (v : ℕ) (at : ℤ) (proof : Proof) (bound : ℤ) → live_at t path ≡ Some leaf
      → zone_at (fork_at t path v at proof bound) zone (path ++ Low ∷ []) ≡ low_part (zone_at t zone path) v at
  pub high_zone : (t : GrowingTree) (zone : List Span) (path : List Side) (leaf : LiveLeaf) (v : ℕ) (at : ℤ) (proof : Proof) (bound : ℤ) → live_at t path ≡ Some leaf
      → zone_at (fork_at t path v at proof bound) zone (path ++ High ∷ []) ≡ high_part (zone_at t zone path) v at
  pub zones_stay : (t new : GrowingTree) (zone : List Span) (path other : List Side) (leaf kept : LiveLeaf) → live_at t path ≡ Some leaf
      → live_at t other ≡ Some kept → other ≢ path → zone_at (put_at t path new) zone other ≡ zone_at t zone other

-- the least of the live bounds is one that a live leaf keeps, and no live leaf keeps a lower one
pub record LeastByPaths : Type 0 where
  pub from_paths : (t : GrowingTree) (path : List Side) (leaf : LiveLeaf) → live_at t path ≡ Some leaf
      → ((other : List Side) (l : LiveLeaf) → live_at t other ≡ Some l → leaf.bound ≤ℤ l.bound) → IsLeastOf (live_bounds t) leaf.bound
  pub to_path : (t : GrowingTree) (v : ℤ) → IsLeastOf (live_bounds t) v
      → (path : List Side) × (leaf : LiveLeaf) × (live_at t path ≡ Some leaf) × (leaf.bound ≡ v)
  pub to_all : (t : GrowingTree) (v : ℤ) (path : List Side) (leaf : LiveLeaf) → IsLeastOf (live_bounds t) v → live_at t path ≡ Some leaf → v ≤ℤ leaf.bound

-- from the moment at which a run begins the list of its events tells the steps, how many leaves are live
-- and which workers hold one
pub record EventsTell : Type 0 where
  pub steps : (p : Program) (b : Blocking) (first last : Crew) (events : List CrewEvent) → IsRun p b first events last
      → steps (certificate_tree last.tree) ≡ steps (certificate_tree first.tree)
      + count_by (λ e. is_shut_kind e.kind) (map listed events) + count_by (λ e. is_fork_kind e.kind) (map listed events)
  pub live : (p : Program) (b : Blocking) (first last : Crew) (events : List CrewEvent) → IsRun p b first events last
      → live_count last.tree + count_by (λ e. is_shut_kind e.kind) (map listed events)
      ≡ live_count first.tree + count_by (λ e. is_fork_kind e.kind) (map listed events)
  pub held : (p : Program) (b : Blocking) (first last : Crew) (events : List CrewEvent) (worker : ℕ) → IsRun p b first events last
      → is_some (held_by last worker) ≡ holds_after worker (is_some (held_by first worker)) (map listed events)

-- the live leaves are those that are held, each by one worker, and the free ones; and where one is free
-- it can be taken
pub record FreeIsTheRest : Type 0 where
  pub rest : (p : Program) (b : Blocking) (crew : Crew) → IsCrew p b crew → free_count crew + holder_count crew ≡ live_count crew.tree
  pub there : (crew : Crew) → 0 < free_count crew
      → (path : List Side) × (leaf : LiveLeaf) × (live_at crew.tree path ≡ Some leaf) × IsFree crew path
  pub counted : (crew : Crew) (path : List Side) (leaf : LiveLeaf) → live_at crew.tree path ≡ Some leaf → IsFree crew path → 0 < free_count crew

-- whole weights that meet the program's rows spread to a feasible point of their cost
pub record SpreadFits : Type 0 where
  pub feasible : (p : Program) (rows : List (Option Row)) (b : Blocking) (zone : List Span) (classes firsts : List ℕ) (used : List UsedColumn) (x : List ℤ)
      → AddsUp p rows b → HasEachRow p rows b → HasEachVariable p b → IsSubzone zone p.spans
      → AreClasses zone b classes firsts → All (IsUsed zone b firsts) used → MeetOwnRows p b firsts used
      → length x ≡ length p.spans → IsSpread b classes firsts used x → IsFeasible p x
  pub cost : (p : Program) (rows : List (Option Row)) (b : Blocking) (zone : List Span) (classes firsts : List ℕ) (used : List UsedColumn) (x : List ℤ)
      → AddsUp p rows b → AreClasses zone b classes firsts → All (IsUsed zone b firsts) used → IsSpread b classes firsts used x
      → pos one_weight *ℤ cost p x ≡ pos one_weight *ℤ p.constant +ℤ used_total b firsts (λ c. c.cost) used

-- the blocking of a decomposition has each row and each variable of the program
pub record DecompositionHasAll : Type 0 where
  pub rows : (p : Program) (d : Decomposition) (cuts : List Row) → IsClosed p → HasPlaces p d
      → HasEachRow p (map full_row (proof_rows p d cuts)) (blocking_of p d cuts)
  pub variables : (p : Program) (d : Decomposition) (cuts : List Row) → HasEachVariable p (blocking_of p d cuts)

-- further cuts change no bound of a proof that fits without them, and so keep the facts of a search
pub record FurtherCutsKeep : Type 0 where
  pub sound : (p : Program) (d : Decomposition) (cuts more : List Row) (proof : Proof) → IsSoundProof (blocking_of p d cuts) proof
      → IsSoundProof (blocking_of p d (cuts ++ more)) proof
  pub bound : (p : Program) (d : Decomposition) (cuts more : List Row) (zone : List Span) (proof : Proof) (v : ℤ) → Fits (blocking_of p d cuts) proof
      → IsBound (blocking_of p d cuts) zone proof v → IsBound (blocking_of p d (cuts ++ more)) zone proof v
  pub endless : (p : Program) (d : Decomposition) (cuts more : List Row) (zone : List Span) (proof : Proof) → Fits (blocking_of p d cuts) proof
      → IsEndless (blocking_of p d cuts) zone proof → IsEndless (blocking_of p d (cuts ++ more)) zone proof
  pub search : (p : Program) (d : Decomposition) (cuts further : List Cut) (t : GrowingTree) (best : Option (List ℤ))
      → IsSearch p (blocking_of p d (cut_rows p d [] cuts)) t best
      → IsSearch p (blocking_of p d (cut_rows p d [] (cuts ++ further))) t best

-- the queue is kept when a tree is planted, when a leaf is shut, and when one is forked, where the low
-- part is made before the high one; and the bound of the first entry is the least of the live bounds
pub record QueueKeeps : Type 0 where
  pub planted : (v : ℤ) (empty entry : Queue) → IsEmptyQueue empty → IsWith empty v 0 [] entry → IsQueue (planted v) entry 1
  pub shut : (t : GrowingTree) (before after : Queue) (made n : ℕ) (path : List Side) (leaf : LiveLeaf) (proof : Proof) → IsQueue t before made
      → live_at t path ≡ Some leaf → before leaf.bound n ≡ Some path → IsWithout before leaf.bound n after → IsQueue (shut_at t path proof) after made
  pub forked : (t : GrowingTree) (before without low after : Queue) (made n : ℕ) (path : List Side) (leaf : LiveLeaf) (v : ℕ) (at : ℤ) (proof : Proof) (bound : ℤ)
      → IsQueue t before made → live_at t path ≡ Some leaf → before leaf.bound n ≡ Some path → IsWithout before leaf.bound n without
      → IsWith without bound made (path ++ Low ∷ []) low → IsWith low bound (made + 1) (path ++ High ∷ []) after
      → IsQueue (fork_at t path v at proof bound) after (made + 2)
  pub first : (t : GrowingTree) (entry : Queue) (made n : ℕ) (z : ℤ) (path : List Side) → IsQueue t entry made → IsFirstEntry entry z n path
      → IsLeastOf (live_bounds t) z
