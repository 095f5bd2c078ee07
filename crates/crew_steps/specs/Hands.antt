-- What workers hold, and which leaf is free and next.
use Rattle.std.specs.Prelude.{◌≡◌, ℕ, List, Option, Some, None, ℤ, slice_index_or}
use Rattle.bp_theory.specs.Blocking.{Blocking}
use Rattle.search_laws.specs.declared.Side.{Side}
use Rattle.search_laws.specs.declared.Next.{Next}
use Rattle.search_laws.specs.declared.Holding.{Holding}
use Rattle.search_laws.specs.Queue.{ComesFirst}
use Rattle.search_laws.specs.Verdicts.{grown}
use Rattle.open_nodes.specs.Queues.{queue_of}
use Rattle.branch_tree.specs.Groves.{GroveState, IsStanding, IsLiveTurn, IsTurnAt}
use Rattle.bp_search.specs.Searches.{CanGrow}
use Rattle.crew_steps.specs.declared.hand.Hand.{Hand}
use Rattle.open_nodes.specs.declared.turn.Turn.{Turn}

-- a hand as the laws of a crew see it
abbrev pub holding_of : Hand → Holding
holding_of hand = record { path = hand.turn.path; given = hand.given }

-- the best cost that was given with what is held
abbrev pub given_in : Option Hand → Option ℤ
given_in None = None
given_in (Some hand) = hand.given

-- a worker holds the leaf at a path
pub record IsHeld (hands : List (Option Hand)) (path : List Side) : Type 0 where
  pub worker : ℕ
  pub hand : Hand
  pub holds : slice_index_or hands worker None ≡ Some hand
  pub same : hand.turn.path ≡ path

-- a live leaf that nobody holds, of least bound, and of those with its bound the one made first
pub record IsFirstFree (g : GroveState) (hands : List (Option Hand)) (turn : Turn) : Type 0 where
  pub live : IsLiveTurn g turn
  pub free : IsHeld hands turn.path → ⊥
  pub number : ℕ
  pub there : queue_of g.queue turn.bound number ≡ Some turn.path
  pub first : (w : ℤ) (m : ℕ) (other : List Side) → queue_of g.queue w m ≡ Some other → (IsHeld hands other → ⊥) → ComesFirst turn.bound number w m

-- the live leaf at a place of the queue is held
pub record IsHeldAt (g : GroveState) (hands : List (Option Hand)) (place : ℕ) : Type 0 where
  pub turn : Turn
  pub at : IsTurnAt g place turn
  pub held : IsHeld hands turn.path

-- a leaf is held, and what is to be done with it can be done
pub record CanGrowHeld (b : Blocking) (g : GroveState) (held : Option Hand) (next : Next) : Type 0 where
  pub hand : Hand
  pub holds : held ≡ Some hand
  pub live : IsLiveTurn g hand.turn
  pub can : CanGrow b hand.turn next

-- the leaf that is held is shut or forked
pub record IsGrown (before : GroveState) (held : Option Hand) (next : Next) (after : GroveState) : Type 0 where
  pub hand : Hand
  pub holds : held ≡ Some hand
  pub tree : after.tree ≡ grown before.tree hand.turn.path next
  pub root : after.root ≡ before.root
  pub standing : IsStanding after
