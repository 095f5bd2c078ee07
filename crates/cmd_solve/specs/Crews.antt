-- How a search went: from where it went on, and the events of a crew.
use Rattle.std.specs.Prelude.{◌≡◌, ℕ, List, [], Option, Some, None}
use Rattle.bp_theory.specs.declared.Limits.{Limits}
use Rattle.bp_shelf.specs.Shelf.{Files}
use Rattle.block_program.specs.Blocked.{BlockedProgram}
use Rattle.search_laws.specs.declared.Event.{Event}
use Rattle.branch_tree.specs.Loads.{IsFresh}
use Rattle.branch_tree.specs.declared.loaded.Loaded.{Loaded}
use Rattle.branch_tree.specs.declared.outcome.Outcome.{Outcome}
use Rattle.bp_search.specs.Ends.{last_step}
use Rattle.bp_crew.specs.Runs.{IsCrewRun}
use Rattle.frontend.specs.Front.{FilesCome, blocked}
use Rattle.search_outcome.specs.Endings.{GoesOnAt}
use Rattle.search_start.specs.Starts.{BeginsBy}
use Rattle.cmd_solve.specs.declared.crew.CrewOrder.{CrewOrder}

-- the crew that is ordered: one worker and the seed 0 where only the other is given
abbrev pub ordered_crew : (workers order : Option ℕ) → Option CrewOrder
ordered_crew None None = None
ordered_crew None (Some o) = Some (record { workers = 1; order = o })
ordered_crew (Some w) None = Some (record { workers = w; order = 0 })
ordered_crew (Some w) (Some o) = Some (record { workers = w; order = o })

-- the tree from which a crew begins: a loaded one, or the planted one
abbrev pub BeginsAt : BlockedProgram → Option Loaded → Loaded → Type 0
BeginsAt b None start = IsFresh b start
BeginsAt b (Some from) start = start ≡ from

-- an outcome and events are those of a run of the crew from where the search begins, whose events are drawn from its seed
pub record IsCrewSearch (b : BlockedProgram) (from : Option Loaded) (steps : Option ℕ) (crew : CrewOrder) (outcome : Outcome) (events : List Event) : Type 0 where
  pub start : Loaded
  pub begins : BeginsAt b from start
  pub run : IsCrewRun b start crew.workers crew.order (last_step start.grove steps) outcome events

-- what a search's events are: those of the crew, or none where none was ordered
abbrev pub HasEventsOf : BlockedProgram → Option Loaded → (steps : Option ℕ) → Option CrewOrder → Outcome → List Event → Type 0
HasEventsOf b from steps None outcome events = events ≡ []
HasEventsOf b from steps (Some crew) outcome events = IsCrewSearch b from steps crew outcome events

-- how a search went: its outcome goes on from the tree that was loaded, where one was, and its events are those of the crew
pub record IsSearchOf (b : BlockedProgram) (from : Option Loaded) (steps : Option ℕ) (crew : Option CrewOrder) (outcome : Outcome) (events : List Event) : Type 0 where
  pub goes_on : GoesOnAt b from outcome
  pub has_events : HasEventsOf b from steps crew outcome events

-- the same beside what is kept: no events where nothing is
abbrev pub HasEventsFrom : BlockedProgram → Option Loaded → (steps : Option ℕ) → Option CrewOrder → Option Outcome → List Event → Type 0
HasEventsFrom b from steps crew None events = events ≡ []
HasEventsFrom b from steps crew (Some outcome) events = IsSearchOf b from steps crew outcome events

-- events beside what is kept
abbrev pub events_with : Option Outcome → List Event → List Event
events_with None events = []
events_with (Some outcome) events = events

-- how the search of a program in blocks went, beside what is kept: that over the program with its cuts
abbrev pub EventsBy : Files → (from : Option (List ℕ)) → (steps : Option ℕ) → Option CrewOrder → (cuts : ℕ) → BlockedProgram → Option Outcome → List Event → Type 0
EventsBy files from steps crew cuts b None events = events ≡ []
EventsBy files from steps crew cuts b (Some outcome) events =
    (c : BlockedProgram) × (start : Option Loaded) × BeginsBy files from cuts b c start × IsSearchOf c start steps crew outcome events

-- how the search of `solve` went: no events where nothing is kept, and else that of the program in blocks that the files come to, which
-- goes on from the certificate of the named file where one is named
abbrev pub HasEvents : Limits → Files → (lp : List ℕ) → (dec : Option (List ℕ)) → (steps : Option ℕ) → (from : Option (List ℕ)) → (workers order : Option ℕ) → (cuts : ℕ) → Option Outcome → List Event → Type 0
HasEvents limits files lp dec steps from workers order cuts None events = events ≡ []
HasEvents limits files lp dec steps from workers order cuts (Some outcome) events =
    (b : BlockedProgram) × FilesCome limits files lp dec (blocked b) × EventsBy files from steps (ordered_crew workers order) cuts b (Some outcome) events
