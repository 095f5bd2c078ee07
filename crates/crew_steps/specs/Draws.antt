-- Which events are drawn from a seed, told over a list of events alone.
use Rattle.std.specs.Prelude.{nat_lt, ◌≡◌, ◌+◌, ◌-◌, ◌*◌, ◌/◌, ◌%◌, ◌^◌, ◌<◌, ℕ, suc, Bool, true, false, List, [], ◌∷◌, ◌++◌, length, Some, map, is_some, slice_get, slice_set}
use Rattle.bp_theory.specs.Trees.{steps}
use Rattle.search_laws.specs.declared.Event.{Event}
use Rattle.search_laws.specs.declared.Kind.{Kind}
use Rattle.search_laws.specs.declared.Kind.TheVariants.{Take, Shut, Fork, Drop}
use Rattle.search_laws.specs.Crew.{Crew}
use Rattle.search_laws.specs.Grove.{live_count, certificate_tree}
use Rattle.crew_steps.specs.declared.choice.Task.{Task}
use Rattle.crew_steps.specs.declared.choice.Task.TheVariants.{Take as TakeTask, Report as ReportTask, Drop as DropTask}
use Rattle.crew_steps.specs.declared.choice.Choice.{Choice}
use Rattle.crew_steps.specs.States.{CrewState, crew_of}

-- the state behind one more draw
abbrev pub next_state : ℕ → ℕ
next_state t = (t * 6364136223846793005 + 1442695040888963407) % 2 ^ 64

-- the draw that a state gives
abbrev pub draw_of : ℕ → ℕ
draw_of t = t / 2 ^ 33

-- what a list of events tells at one place: which workers hold a leaf, how many leaves are live, how many of the given steps
-- are left, how many drops came since the last report, and the state of the draws
pub record Moment : Type 0 where
  pub holds : List Bool
  pub live : ℕ
  pub left : ℕ
  pub drops : ℕ
  pub state : ℕ

-- how many workers hold a leaf
abbrev pub holder_count : List Bool → ℕ
holder_count [] = 0
holder_count (true ∷ holds) = suc (holder_count holds)
holder_count (false ∷ holds) = holder_count holds

-- what a worker may do: take a leaf where it holds none and one is free; else report, and where few drops came since the
-- last report drop it
abbrev pub choices_of : (worker : ℕ) (holds may_take may_drop : Bool) → List Choice
choices_of worker false false may_drop = []
choices_of worker false true may_drop = record { worker = worker; task = TakeTask } ∷ []
choices_of worker true may_take false = record { worker = worker; task = ReportTask } ∷ []
choices_of worker true may_take true = record { worker = worker; task = ReportTask } ∷ record { worker = worker; task = DropTask } ∷ []

-- what workers may do, in their order, from a first worker on
abbrev pub choices_from : (first : ℕ) (holds : List Bool) (may_take may_drop : Bool) → List Choice
choices_from first [] may_take may_drop = []
choices_from first (h ∷ holds) may_take may_drop = choices_of first h may_take may_drop ++ choices_from (suc first) holds may_take may_drop

-- the possible events of a moment
abbrev pub choices : Moment → List Choice
choices m = choices_from 0 m.holds (nat_lt (holder_count m.holds) m.live) (nat_lt m.drops (length m.holds))

-- an event is one of a kind of task: a report is listed as what is done with the leaf
abbrev pub IsOf : Task → Kind → Type 0
IsOf TakeTask Take = Unit {0}
IsOf TakeTask Shut = ⊥
IsOf TakeTask Fork = ⊥
IsOf TakeTask Drop = ⊥
IsOf ReportTask Take = ⊥
IsOf ReportTask Shut = Unit {0}
IsOf ReportTask Fork = Unit {0}
IsOf ReportTask Drop = ⊥
IsOf DropTask Take = ⊥
IsOf DropTask Shut = ⊥
IsOf DropTask Fork = ⊥
IsOf DropTask Drop = Unit {0}

-- an event is the possible one that is drawn: the draw modulo their number is its place
pub record IsPicked (m : Moment) (event : Event) : Type 0 where
  pub choice : Choice
  pub some : 0 < length (choices m)
  pub drawn : slice_get (choices m) (draw_of (next_state m.state) % length (choices m)) ≡ Some choice
  pub worker : event.worker ≡ choice.worker
  pub kind : IsOf choice.task event.kind

-- the moment behind an event of a kind
abbrev pub moment_after : Kind → (worker : ℕ) → Moment → Moment
moment_after Take worker m = record m { holds = slice_set m.holds worker true; state = next_state m.state }
moment_after Shut worker m = record {
  holds = slice_set m.holds worker false;
  live = m.live - 1;
  left = m.left - 1;
  drops = 0;
  state = next_state m.state;
}
moment_after Fork worker m = record {
  holds = slice_set m.holds worker false;
  live = m.live + 1;
  left = m.left - 1;
  drops = 0;
  state = next_state m.state;
}
moment_after Drop worker m = record m { holds = slice_set m.holds worker false; drops = m.drops + 1; state = next_state m.state }

-- drawing goes on while a leaf is live and given steps are left
abbrev pub GoesOn : Moment → Type 0
GoesOn m = (0 < m.live) × (0 < m.left)

-- events are drawn, one after another, from one moment to another
abbrev pub AreDrawn : Moment → List Event → Moment → Type 0
AreDrawn m [] last = m ≡ last
AreDrawn m (event ∷ events) last = GoesOn m × IsPicked m event × AreDrawn (moment_after event.kind event.worker m) events last

-- the drops of the turns that are still held, in the order of workers, from a first worker on
abbrev pub drops_from : (first : ℕ) (holds : List Bool) → List Event
drops_from first [] = []
drops_from first (true ∷ holds) = record { worker = first; kind = Drop } ∷ drops_from (suc first) holds
drops_from first (false ∷ holds) = drops_from (suc first) holds

-- a list is the one that drawing names: events are drawn until no leaf is live or no step is left, and then each turn that is
-- still held is dropped, in the order of workers
pub record IsDrawn (first : Moment) (events : List Event) : Type 0 where
  pub drawn : List Event
  pub last : Moment
  pub draws : AreDrawn first drawn last
  pub over : GoesOn last → ⊥
  pub all : events ≡ drawn ++ drops_from 0 last.holds

-- what a crew's moment tells of its list: how many steps are left of so many, beside the drops and the state of the draws
abbrev pub moment_of : (most drops state : ℕ) → Crew → Moment
moment_of most drops state crew = record {
  holds = map is_some crew.held;
  live = live_count crew.tree;
  left = most - steps (certificate_tree crew.tree);
  drops = drops;
  state = state;
}

-- drops since the last report, behind a task
abbrev pub drops_after : Task → ℕ → ℕ
drops_after TakeTask drops = drops
drops_after ReportTask drops = 0
drops_after DropTask drops = drops + 1

-- the possible events of a crew, where so many drops came since the last report
abbrev pub choices_in : ℕ → CrewState → List Choice
choices_in drops s = choices (moment_of 0 drops 0 (crew_of s))
