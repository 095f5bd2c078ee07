-- What a crew is at one moment, what it keeps, and what each of its calls does.
use Rattle.std.specs.Prelude.{◌≡◌, ◌+◌, ◌<◌, ◌≤◌, ◌^◌, ℕ, List, [], ◌∷◌, ◌++◌, map, Option, Some, None, option_map, is_some, IfSome, unsigned_abs, slice_index_or, slice_set, replicate, count_by, refl}
use Rattle.bp_theory.specs.Limits.{number_limit}
use Rattle.std.specs.Coded.{Coded, code_by, coded×, coded_list, coded_option}
use Rattle.block_program.specs.Blocked.{BlockedProgram, IsFormed}
use Rattle.search_laws.specs.declared.Event.{Event}
use Rattle.search_laws.specs.declared.Kind.TheVariants.{Take, Drop}
use Rattle.search_laws.specs.declared.Verdict.{Verdict}
use Rattle.search_laws.specs.contracts.Event as event_type
use Rattle.search_laws.specs.Crew.{Crew, CrewEvent, Leads, IsCrew, listed}
use Rattle.search_laws.specs.Verdicts.{IsVerdict}
use Rattle.branch_tree.specs.Groves.{GroveState, coded_grove, IsLiveTurn}
use Rattle.open_nodes.specs.declared.turn.Turn.{Turn}
use Rattle.branch_tree.specs.declared.loaded.Loaded.{Loaded}
use Rattle.bp_search.specs.declared.kept.Kept.{Kept}
use Rattle.bp_search.specs.contracts.kept.Kept as kept_type
use Rattle.bp_search.specs.Searches.{kept_point, kept_cost, as_pair, IsRunning}
use Rattle.crew_steps.specs.declared.hand.Hand.{Hand}
use Rattle.crew_steps.specs.contracts.hand.Hand as hand_type
use Rattle.crew_steps.specs.Hands.{holding_of, IsFirstFree}

-- a crew: its grove, the best point, what each worker holds, and the events so far
pub record CrewState : Type 0 where
  pub grove : GroveState
  pub best : Option Kept
  pub hands : List (Option Hand)
  pub events : List Event

abbrev pub coded_crew : Coded CrewState
coded_crew =
    code_by (GroveState × (Option Kept × (List (Option Hand) × List Event)))
    (coded× coded_grove (coded× (coded_option kept_type.the_row.coded) (coded× (coded_list (coded_option hand_type.the_row.coded)) (coded_list event_type.the_row.coded))))
    (λ s. (s.grove, (s.best, (s.hands, s.events)))) (λ p. record { grove = p.0; best = p.1.0; hands = p.1.1.0; events = p.1.1.1 }) (λ _. refl)

-- what a worker holds
abbrev pub hand_of : CrewState → ℕ → Option Hand
hand_of s worker = slice_index_or s.hands worker None

-- the crew as its laws see it: the tree, the best point, and the path and the given cost of what each worker holds
abbrev pub crew_of : CrewState → Crew
crew_of s = record { tree = s.grove.tree; best = kept_point s.best; held = map (option_map holding_of) s.hands }

-- a crew of a program in blocks: its search runs, each held leaf is live, as it was handed out, and held by one worker alone,
-- and no cost that was given is cheaper than that of now
pub record IsCrewOf (b : BlockedProgram) (s : CrewState) : Type 0 where
  pub formed : IsFormed b
  pub running : IsRunning b s.grove s.best
  pub crew : IsCrew b.named.program b.blocking (crew_of s)
  pub turns : (worker : ℕ) (hand : Hand) → hand_of s worker ≡ Some hand → IsLiveTurn s.grove hand.turn
  pub small : (worker : ℕ) (hand : Hand) → hand_of s worker ≡ Some hand → IfSome hand.given (λ z. unsigned_abs z < number_limit)

-- a crew of a program in blocks, whichever it is
abbrev pub IsSomeCrew : CrewState → Type 0
IsSomeCrew s = (b : BlockedProgram) × IsCrewOf b s

-- the count of those that hold a leaf, and room in the list for the event that closes each of their turns
pub record HasRoom (hands : List (Option Hand)) (holders events room : ℕ) : Type 0 where
  pub count : holders ≡ count_by is_some hands
  pub enough : events + holders ≤ room

-- a crew of so many workers over a loaded tree, where nothing is held yet
pub record IsMade (from : Loaded) (workers : ℕ) (s : CrewState) : Type 0 where
  pub grove : s.grove ≡ from.grove
  pub best : as_pair s.best ≡ from.best
  pub hands : s.hands ≡ replicate workers None
  pub events : s.events ≡ []

-- a turn is what is held
pub record IsTurnOf (held : Option Hand) (turn : Turn) : Type 0 where
  pub hand : Hand
  pub holds : held ≡ Some hand
  pub same : turn ≡ hand.turn

-- a worker holds a leaf, and a verdict is right for it and for the best cost that was given with it
pub record IsRight (b : BlockedProgram) (s : CrewState) (worker : ℕ) (verdict : Verdict) : Type 0 where
  pub hand : Hand
  pub holds : hand_of s worker ≡ Some hand
  pub right : IsVerdict b.named.program b.blocking hand.turn.depth hand.turn.zone hand.turn.bound hand.given verdict

-- a worker takes the first free leaf, with the best cost of the moment, and this is listed
pub record IsTaken (before : CrewState) (worker : ℕ) (after : CrewState) : Type 0 where
  pub hand : Hand
  pub first : IsFirstFree before.grove before.hands hand.turn
  pub given : hand.given ≡ kept_cost before.best
  pub becomes : after ≡ record before {
    hands = slice_set before.hands worker (Some hand);
    events = before.events ++ record { worker = worker; kind = Take } ∷ [];
  }

-- a worker drops what it holds, and this is listed
abbrev pub dropped : CrewState → ℕ → CrewState
dropped s worker = record s {
  hands = slice_set s.hands worker None;
  events = s.events ++ record { worker = worker; kind = Drop } ∷ [];
}

-- a call is an event of the crew, which is added to the list, and the crew stays one of its program
pub record IsEvent (b : BlockedProgram) (before : CrewState) (event : CrewEvent) (after : CrewState) : Type 0 where
  pub leads : Leads b.named.program b.blocking (crew_of before) event (crew_of after)
  pub adds : after.events ≡ before.events ++ listed event ∷ []
  pub kept : IsCrewOf b after
