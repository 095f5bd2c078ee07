-- The grove that a tree is made into.
use Rattle.std.proofs.Common.{◌≡◌, ℕ, ◌+◌, ◌<◌, ◌≤◌, ◌^◌, List, [], Some, None, sym, subst, ap, ◌∙◌, arith, zero-add}
use Rattle.bp_theory.specs.declared.Limits.TheVariants.{Large}
use Rattle.bp_theory.specs.Limits.{greatest_depth}
use Rattle.bp_theory.specs.Trees.{HasSoundSplits, IsZone, steps, depth}
use Rattle.bp_theory.specs.declared.Span.{Span}
use Rattle.block_program.specs.Blocked.{BlockedProgram, IsFormed}
use Rattle.search_laws.specs.Grove.{GrowingTree, LiveLeaf, live, shut, fork, live_at, live_count, certificate_tree}
use Rattle.search_laws.specs.GroveFacts.{IsGrove, IsSearch, IsSized}
use Rattle.search_laws.specs.Queue.{Queue, IsQueue}
use Rattle.search_laws.specs.declared.Side.{Side}
use Rattle.search_laws.proofs.SearchProof.{search_keeps_lem}
use Rattle.open_nodes.specs.Queues.{Entries, queue_of}
use Rattle.open_nodes.specs.Filled.{place_of, IsFilled}
use Rattle.open_nodes.proofs.Preorder.{place_below}
use Rattle.branch_tree.specs.Groves.{GroveState, IsStanding, AreCounts, IsGroveOf, IsPlanted, made}
use Rattle.branch_tree.specs.Adopted.{IsSearchState}

-- no tree has more live leaves than splits and shut leaves, but one
fewer_live : (t : GrowingTree) → live_count t ≤ steps (certificate_tree t) + 1
fewer_live (live p z) = omega arith
fewer_live (shut p) = omega arith
fewer_live (fork v at low high) = omega (arith, fewer_live low, fewer_live high)

-- ---- the grove

pub queue_filled : (t : GrowingTree) (after : Queue) → IsFilled (λ _ _. None) t [] 0 after → IsQueue t after (made t)
queue_filled t after filled = record {
  live = λ z n path e. let f = filled.none_else z n path (omega arith) e in (f.1, ap (live_at t) f.5 ∙ f.2, f.3);
  each = λ path leaf h. (0 + place_of t path, filled.added path leaf h);
  once = λ z w n m path e d.
      let f = filled.none_else z n path (omega arith) e in
      let g = filled.none_else w m path (omega arith) d in
      let same : f.0 ≡ g.0 = sym f.5 ∙ g.5 in
      f.4 ∙ ap (λ (p : List Side). 0 + place_of t p) same ∙ sym g.4;
  numbered = λ z n path e.
      let f = filled.none_else z n path (omega arith) e in
      let small : place_of t f.0 < live_count t = place_below t f.0 f.1 f.2 in
      let is : n ≡ 0 + place_of t f.0 = f.4 in
      omega (arith, small, is);
}

pub adopt_whole : (b : BlockedProgram) (root : List Span) (t : GrowingTree) (after : Entries) (lives count deepest : ℕ)
    → root ≡ b.named.program.spans → IsZone b.named.program.spans root
    → IsGrove b.blocking b.named.program.spans t → depth (certificate_tree t) ≤ greatest_depth Large → made t < 2 ^ 62
    → IsFilled (λ _ _. None) t [] 0 (queue_of after) → lives ≡ live_count t → count ≡ steps (certificate_tree t) → deepest ≡ depth (certificate_tree t)
    → IsStanding (record { tree = t; root = root; queue = after }) × AreCounts t lives count deepest
adopt_whole b root t after lives count deepest root_is zone kept deep few filled lives_is count_is deepest_is = (
  record {
    proper = zone.proper;
    splits = subst (HasSoundSplits (certificate_tree t)) (sym root_is) kept.splits;
    queued = queue_filled t (queue_of after) filled;
    deep = deep;
    few = omega (arith, few);
    fewer = fewer_live t;
  },
  record { lives_is = lives_is; count_is = count_is; deepest_is = deepest_is },
)

pub adopt_numbered : (t : GrowingTree) (after : Queue) → IsFilled (λ _ _. None) t [] 0 after
    → (p : List Side) (leaf : LiveLeaf) → live_at t p ≡ Some leaf → after leaf.bound (place_of t p) ≡ Some p
adopt_numbered t after filled p leaf h = ap (after leaf.bound) (sym (zero-add (place_of t p))) ∙ filled.added p leaf h

pub adopt_kept : (b : BlockedProgram) (root : List Span) (t : GrowingTree) (after : Entries) → root ≡ b.named.program.spans
    → IsGrove b.blocking b.named.program.spans t → IsGroveOf b (record { tree = t; root = root; queue = after })
adopt_kept b root t after is kept = record {
  root = is;
  kept = subst (λ spans. IsGrove b.blocking spans t) (sym is) kept;
}

-- ---- the start of a search

pub sized_of : (b : BlockedProgram) → IsFormed b → IsSized b.named.program
sized_of b formed = record { proper = formed.kept.proper; bits = formed.kept.bits }

pub fresh_state : (b : BlockedProgram) (g : GroveState) → IsFormed b → IsPlanted b g → IsStanding g → IsSearchState b g None
fresh_state b g formed start standing = record {
  standing = standing;
  root = start.root;
  search = subst (λ (t : GrowingTree). IsSearch b.named.program b.blocking t None) (sym start.tree)
      (search_keeps_lem.planted b.named.program b.blocking start.bound (sized_of b formed) start.is_bound start.small);
  costs = tt;
}

pub planted_steps : (b : BlockedProgram) (g : GroveState) → IsPlanted b g → steps (certificate_tree g.tree) ≡ 0
planted_steps b g start = ap (λ (t : GrowingTree). steps (certificate_tree t)) start.tree
