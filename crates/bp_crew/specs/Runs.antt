-- Runs of a crew whose events are drawn.
use Rattle.std.specs.Prelude.{◌≡◌, ◌+◌, ◌<◌, ℕ, Bool, true, false, List, ◌++◌, map, length, Option, Some, None, is_some, slice_index_or}
use Rattle.block_program.specs.Blocked.{BlockedProgram}
use Rattle.search_laws.specs.declared.Event.{Event}
use Rattle.search_laws.specs.Crew.{Crew, CrewEvent, drops as drops', IsRun, listed, idle_crew, free_count}
use Rattle.branch_tree.specs.Adopted.{point_in}
use Rattle.branch_tree.specs.declared.loaded.Loaded.{Loaded}
use Rattle.branch_tree.specs.declared.outcome.Outcome.{Outcome}
use Rattle.bp_search.specs.Ends.{grove_in, point_of}
use Rattle.crew_steps.specs.declared.hand.Hand.{Hand}
use Rattle.crew_steps.specs.declared.choice.Task.{Task}
use Rattle.crew_steps.specs.declared.choice.Task.TheVariants.{Take as TakeTask, Report as ReportTask, Drop as DropTask}
use Rattle.crew_steps.specs.declared.choice.Choice.{Choice}
use Rattle.crew_steps.specs.States.{CrewState, crew_of, hand_of, IsEvent, dropped}
use Rattle.crew_steps.specs.Draws.{IsOf, moment_of, AreDrawn, IsDrawn, drops_from}

-- a worker that holds a leaf or not may do a task, where leaves may be taken, or dropped, or not
abbrev pub IsFor : (holds may_take may_drop : Bool) → Task → Type 0
IsFor false false may_drop TakeTask = ⊥
IsFor false true may_drop TakeTask = Unit {0}
IsFor true may_take may_drop TakeTask = ⊥
IsFor false may_take may_drop ReportTask = ⊥
IsFor true may_take may_drop ReportTask = Unit {0}
IsFor false may_take may_drop DropTask = ⊥
IsFor true may_take false DropTask = ⊥
IsFor true may_take true DropTask = Unit {0}

-- a choice is possible for its worker, where the first of the listed ones has a number
pub record IsPossible (first : ℕ) (holds : List Bool) (may_take may_drop : Bool) (choice : Choice) : Type 0 where
  pub place : ℕ
  pub at : choice.worker ≡ first + place
  pub there : place < length holds
  pub task : IsFor (slice_index_or holds place false) may_take may_drop choice.task

-- what is chosen can be done: a leaf is taken by a worker that holds none where one is free, and else the worker holds one
abbrev pub IsAllowedFor : CrewState → ℕ → Task → Type 0
IsAllowedFor s worker TakeTask = (worker < length s.hands) × (hand_of s worker ≡ None) × (0 < free_count (crew_of s))
IsAllowedFor s worker ReportTask = (hand : Hand) × (hand_of s worker ≡ Some hand)
IsAllowedFor s worker DropTask = (hand : Hand) × (hand_of s worker ≡ Some hand)

abbrev pub IsAllowed : CrewState → Choice → Type 0
IsAllowed s choice = IsAllowedFor s choice.worker choice.task

-- the draws so far: their state, and how many drops came since the last report
pub record IsDrawnTo (b : BlockedProgram) (most order : ℕ) (first now : CrewState) (drops state : ℕ) : Type 0 where
  pub events : List CrewEvent
  pub run : IsRun b.named.program b.blocking (crew_of first) events (crew_of now)
  pub adds : now.events ≡ first.events ++ map listed events
  pub drawn : AreDrawn (moment_of most 0 order (crew_of first)) (map listed events) (moment_of most drops state (crew_of now))

-- what is chosen is done: an event of its worker and of its kind of task
pub record IsDone (b : BlockedProgram) (before : CrewState) (choice : Choice) (after : CrewState) : Type 0 where
  pub event : CrewEvent
  pub is : IsEvent b before event after
  pub worker : (listed event).worker ≡ choice.worker
  pub kind : IsOf choice.task (listed event).kind

-- what is held is dropped, in the order of workers
pub record IsLetGo (b : BlockedProgram) (before after : CrewState) : Type 0 where
  pub events : List CrewEvent
  pub run : IsRun b.named.program b.blocking (crew_of before) events (crew_of after)
  pub adds : after.events ≡ before.events ++ map listed events
  pub listed_are : map listed events ≡ drops_from 0 (map is_some (crew_of before).held)
  pub grove : after.grove ≡ before.grove

-- what one worker holds is dropped, or it holds nothing and nothing is done
abbrev pub IsLetGoOf : BlockedProgram → CrewState → ℕ → Option Hand → CrewState → Type 0
IsLetGoOf b before worker None after = after ≡ before
IsLetGoOf b before worker (Some hand) after = (after ≡ dropped before worker) × IsEvent b before (drops' worker) after

abbrev pub IsLetGoAt : BlockedProgram → CrewState → ℕ → CrewState → Type 0
IsLetGoAt b before worker after = IsLetGoOf b before worker (hand_of before worker) after

-- an outcome and a list of events are those of a run of so many workers from a loaded tree, whose events are drawn from a seed
pub record IsCrewRun (b : BlockedProgram) (from : Loaded) (workers order most : ℕ) (outcome : Outcome) (list : List Event) : Type 0 where
  pub events : List CrewEvent
  pub last : Crew
  pub run : IsRun b.named.program b.blocking (idle_crew from.grove.tree (point_in from.best) workers) events last
  pub tree : last.tree ≡ (grove_in outcome).tree
  pub best : last.best ≡ point_of outcome
  pub list_is : list ≡ map listed events
  pub drawn : IsDrawn (moment_of most 0 order (idle_crew from.grove.tree (point_in from.best) workers)) list
