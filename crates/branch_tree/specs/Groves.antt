-- What a grove is, what it keeps, and what is done with it.
use Rattle.std.specs.Prelude.{◌≡◌, ℕ, ◌+◌, ◌<◌, ◌≤◌, ◌^◌, List, [], ◌∷◌, ◌++◌, length, Some, None, ℤ, unsigned_abs, refl}
use Rattle.bp_theory.specs.declared.Limits.TheVariants.{Large}
use Rattle.bp_theory.specs.Limits.{greatest_depth, number_limit}
use Rattle.std.specs.Coded.{Coded, code_by, coded×, coded_list, coded_ℕ}
use base.Stored.{coded_ℤ}
use Rattle.bp_theory.specs.Bound.{IsBound, plain_proof}
use Rattle.bp_theory.specs.Trees.{HasSoundSplits, IsProper, steps, depth}
use Rattle.bp_theory.specs.declared.Span.{Span}
use Rattle.bp_theory.specs.contracts.Span as span_type
use Rattle.block_program.specs.Blocked.{BlockedProgram}
use Rattle.search_laws.specs.declared.Side.{Side}
use Rattle.search_laws.specs.contracts.Side as side_type
use Rattle.search_laws.specs.declared.Side.TheVariants.{Low, High}
use Rattle.search_laws.specs.Grove.{GrowingTree, live_at, zone_at, live_count, live_bounds, certificate_tree, planted}
use Rattle.search_laws.specs.GroveFacts.{IsGrove, IsLeastOf}
use Rattle.search_laws.specs.Queue.{Queue, IsQueue, IsFirstEntry, IsWith, IsWithout, SameKey}
use Rattle.search_laws.specs.TreeCodes.{coded_growing}
use Rattle.open_nodes.specs.Queues.{Entries, queue_of, IsEntryAt, LiesBelow, IsFirstBelow}
use Rattle.open_nodes.specs.declared.turn.Turn.{Turn}

-- a grove: its tree, the zone of the root, and the queue of its live leaves
pub record GroveState : Type 0 where
  pub tree : GrowingTree
  pub root : List Span
  pub queue : Entries

abbrev pub coded_grove : Coded GroveState
coded_grove =
    code_by (GrowingTree × (List Span × Entries))
    (coded× coded_growing (coded× (coded_list span_type.the_row.coded) (coded_list (coded× (coded× coded_ℤ coded_ℕ) (coded_list side_type.the_row.coded)))))
    (λ g. (g.tree, (g.root, g.queue))) (λ p. record { tree = p.0; root = p.1.0; queue = p.1.1 }) (λ _. refl)

-- how many leaves were made: each node was one when it was made, so as many as there are live leaves, shut leaves and splits
abbrev pub made : GrowingTree → ℕ
made t = live_count t + steps (certificate_tree t)

-- what a grove keeps at every moment: sound splits, a queue of exactly the live leaves, a depth within the large limits, and
-- few enough leaves that all counts fit 64 bits
pub record IsStanding (g : GroveState) : Type 0 where
  pub proper : IsProper g.root
  pub splits : HasSoundSplits (certificate_tree g.tree) g.root
  pub queued : IsQueue g.tree (queue_of g.queue) (made g.tree)
  pub deep : depth (certificate_tree g.tree) ≤ greatest_depth Large
  pub few : made g.tree < 2 ^ 64
  pub fewer : live_count g.tree ≤ steps (certificate_tree g.tree) + 1

-- the counts of a grove
pub record AreCounts (t : GrowingTree) (lives count deepest : ℕ) : Type 0 where
  pub lives_is : lives ≡ live_count t
  pub count_is : count ≡ steps (certificate_tree t)
  pub deepest_is : deepest ≡ depth (certificate_tree t)

-- a grove of a program in blocks: it begins with the program's spans, and each leaf keeps its facts
pub record IsGroveOf (b : BlockedProgram) (g : GroveState) : Type 0 where
  pub root : g.root ≡ b.named.program.spans
  pub kept : IsGrove b.blocking g.root g.tree

-- a planted grove: one live leaf with the plain proof and its bound in the program's spans, made first
pub record IsPlanted (b : BlockedProgram) (g : GroveState) : Type 0 where
  pub bound : ℤ
  pub is_bound : IsBound b.blocking b.named.program.spans plain_proof bound
  pub small : unsigned_abs bound < number_limit
  pub tree : g.tree ≡ planted bound
  pub root : g.root ≡ b.named.program.spans
  pub queued : IsWith (λ _ _. None) bound 0 [] (queue_of g.queue)

-- a turn is that of a live leaf: its path, its zone, its depth and what it keeps
pub record IsLiveTurn (g : GroveState) (turn : Turn) : Type 0 where
  pub live : live_at g.tree turn.path ≡ Some (record { proof = turn.proof; bound = turn.bound })
  pub in_zone : turn.zone ≡ zone_at g.tree g.root turn.path
  pub far : turn.depth ≡ length turn.path

-- the live leaf that is next: none has a lower bound, and of those with its bound it was made first
pub record IsNextTurn (g : GroveState) (turn : Turn) : Type 0 where
  pub live : IsLiveTurn g turn
  pub number : ℕ
  pub first : IsFirstEntry (queue_of g.queue) turn.bound number turn.path
  pub least : IsLeastOf (live_bounds g.tree) turn.bound

-- the live leaf at a place in the queue's order, from 0: exactly so many entries come before its own, by bound and of equal
-- bounds by number of making
pub record IsTurnAt (g : GroveState) (place : ℕ) (turn : Turn) : Type 0 where
  pub live : IsLiveTurn g turn
  pub number : ℕ
  pub entry : IsEntryAt g.queue place turn.bound number turn.path

-- the live leaf at or below a path that comes first of those in the queue's order
pub record IsTurnBelow (g : GroveState) (above : List Side) (turn : Turn) : Type 0 where
  pub live : IsLiveTurn g turn
  pub number : ℕ
  pub first : IsFirstBelow (queue_of g.queue) above turn.bound number turn.path

-- no leaf at or below a path is live
abbrev pub NoneLiveBelow : GrowingTree → List Side → Type 0
NoneLiveBelow t above = (path : List Side) → LiesBelow above path → live_at t path ≡ None

-- a queue without a turn's entry
pub record IsShutQueue (before : Queue) (turn : Turn) (after : Queue) : Type 0 where
  pub number : ℕ
  pub there : before turn.bound number ≡ Some turn.path
  pub without : IsWithout before turn.bound number after

-- a queue with the two parts of a turn's leaf in place of its entry: they have a bound, and the next two numbers, the low part the lower
pub record IsForkedQueue (before : Queue) (turn : Turn) (next : ℤ) (made : ℕ) (after : Queue) : Type 0 where
  pub number : ℕ
  pub there : before turn.bound number ≡ Some turn.path
  pub gone : after turn.bound number ≡ None
  pub low : after next made ≡ Some (turn.path ++ Low ∷ [])
  pub high : after next (made + 1) ≡ Some (turn.path ++ High ∷ [])
  pub others : (w : ℤ) (m : ℕ) → (SameKey w m turn.bound number → ⊥) → (SameKey w m next made → ⊥) → (SameKey w m next (made + 1) → ⊥)
      → after w m ≡ before w m
