-- A crew: workers who take live leaves, report on them and drop them.
use Rattle.std.specs.Prelude.{◌≡◌, ◌≢◌, ℕ, ◌+◌, ◌<◌, Bool, true, false, not, is_some, ◌==◌, if◌then◌else◌, List, [], ◌∷◌, length, Option, Some, None, ℤ, replicate, slice_index_or, slice_set, count_by}
use Rattle.std.specs.List.{list_any}
use Rattle.bp_theory.specs.Program.{Program}
use Rattle.bp_theory.specs.Blocking.{Blocking}
use Rattle.search_laws.specs.declared.Side.{Side}
use Rattle.search_laws.specs.declared.Side.TheVariants.{Low, High}
use Rattle.search_laws.specs.declared.Kind.{Kind}
use Rattle.search_laws.specs.declared.Kind.TheVariants.{Take, Shut as ShutKind, Fork as ForkKind, Drop}
use Rattle.search_laws.specs.declared.Event.{Event}
use Rattle.search_laws.specs.declared.Holding.{Holding}
use Rattle.search_laws.specs.declared.Next.{Next}
use Rattle.search_laws.specs.declared.Next.TheVariants.{Shut, Fork}
use Rattle.search_laws.specs.declared.Verdict.{Verdict}
use Rattle.search_laws.specs.Grove.{GrowingTree, live, shut, fork, LiveLeaf, live_at, zone_at}
use Rattle.search_laws.specs.GroveFacts.{IsNoDearer, IsSearch, best_cost}
use Rattle.search_laws.specs.Verdicts.{IsVerdict, better, grown}

-- a crew at one moment: the tree, the best point, and what each worker holds
pub record Crew : Type 0 where
  pub tree : GrowingTree
  pub best : Option (List ℤ)
  pub held : List (Option Holding)

-- what a worker holds
abbrev pub held_by : Crew → ℕ → Option Holding
held_by crew worker = slice_index_or crew.held worker None

-- nobody holds the leaf at a path
abbrev pub IsFree : Crew → List Side → Type 0
IsFree crew path = (worker : ℕ) (h : Holding) → held_by crew worker ≡ Some h → h.path ≢ path

-- a worker takes a leaf, reports a verdict on its leaf, or drops it
pub data CrewEvent : Type 0 where
  takes : (worker : ℕ) (path : List Side) → CrewEvent
  reports : (worker : ℕ) (verdict : Verdict) → CrewEvent
  drops : (worker : ℕ) → CrewEvent

-- a worker that holds nothing takes a free live leaf, and is given the best cost of the moment
pub record Takes (p : Program) (before : Crew) (worker : ℕ) (path : List Side) (after : Crew) : Type 0 where
  pub known : worker < length before.held
  pub idle : held_by before worker ≡ None
  pub leaf : LiveLeaf
  pub live : live_at before.tree path ≡ Some leaf
  pub free : IsFree before path
  pub becomes : after ≡ record before { held = slice_set before.held worker (Some (record { path = path; given = best_cost p before.best })) }

-- a worker's verdict is right for its leaf and the best cost that it was given; the leaf is shut or
-- forked, and a point that is cheaper than the best of now replaces it
pub record Reports (p : Program) (b : Blocking) (before : Crew) (worker : ℕ) (verdict : Verdict) (after : Crew) : Type 0 where
  pub holding : Holding
  pub holds : held_by before worker ≡ Some holding
  pub leaf : LiveLeaf
  pub live : live_at before.tree holding.path ≡ Some leaf
  pub right : IsVerdict p b (length holding.path) (zone_at before.tree p.spans holding.path) leaf.bound holding.given verdict
  pub becomes : after ≡ record {
    tree = grown before.tree holding.path verdict.next;
    best = better p before.best verdict.point;
    held = slice_set before.held worker None;
  }

-- a worker's leaf is free again
pub record Drops (before : Crew) (worker : ℕ) (after : Crew) : Type 0 where
  pub holding : Holding
  pub holds : held_by before worker ≡ Some holding
  pub becomes : after ≡ record before { held = slice_set before.held worker None }

-- an event leads from one moment of a crew to the next
abbrev pub Leads : Program → Blocking → Crew → CrewEvent → Crew → Type 0
Leads p b before (takes worker path) after = Takes p before worker path after
Leads p b before (reports worker verdict) after = Reports p b before worker verdict after
Leads p b before (drops worker) after = Drops before worker after

-- events, one after another, lead from one moment of a crew to another
abbrev pub IsRun : Program → Blocking → Crew → List CrewEvent → Crew → Type 0
IsRun p b first [] last = first ≡ last
IsRun p b first (event ∷ events) last = (next : Crew) × Leads p b first event next × IsRun p b next events last

-- whether what is done shuts a leaf
abbrev pub is_shut : Next → Bool
is_shut (Shut proof) = true
is_shut (Fork v at proof bound) = false

-- whether what is done forks a leaf
abbrev pub is_fork : Next → Bool
is_fork (Shut proof) = false
is_fork (Fork v at proof bound) = true

-- whether an event is a report
abbrev pub is_report : CrewEvent → Bool
is_report (takes worker path) = false
is_report (reports worker verdict) = true
is_report (drops worker) = false

-- whether an event shuts a leaf
abbrev pub shuts_leaf : CrewEvent → Bool
shuts_leaf (takes worker path) = false
shuts_leaf (reports worker verdict) = is_shut verdict.next
shuts_leaf (drops worker) = false

-- whether an event forks a leaf
abbrev pub forks_leaf : CrewEvent → Bool
forks_leaf (takes worker path) = false
forks_leaf (reports worker verdict) = is_fork verdict.next
forks_leaf (drops worker) = false

-- what is done with a leaf, in an event's list
abbrev pub kind_of_next : Next → Kind
kind_of_next (Shut proof) = ShutKind
kind_of_next (Fork v at proof bound) = ForkKind

-- an event as it is listed: the worker and the kind
abbrev pub listed : CrewEvent → Event
listed (takes worker path) = record { worker = worker; kind = Take }
listed (reports worker verdict) = record { worker = worker; kind = kind_of_next verdict.next }
listed (drops worker) = record { worker = worker; kind = Drop }

-- whether a worker holds a leaf after an event of this kind
abbrev pub is_take : Kind → Bool
is_take Take = true
is_take ShutKind = false
is_take ForkKind = false
is_take Drop = false

-- whether a worker holds a leaf after listed events: as its last one says
abbrev pub holds_after : ℕ → Bool → List Event → Bool
holds_after worker now [] = now
holds_after worker now (e ∷ es) = holds_after worker (if e.worker == worker then is_take e.kind else now) es

-- whether a kind shuts a leaf
abbrev pub is_shut_kind : Kind → Bool
is_shut_kind Take = false
is_shut_kind ShutKind = true
is_shut_kind ForkKind = false
is_shut_kind Drop = false

-- whether a kind forks a leaf
abbrev pub is_fork_kind : Kind → Bool
is_fork_kind Take = false
is_fork_kind ShutKind = false
is_fork_kind ForkKind = true
is_fork_kind Drop = false

-- whether two paths are one
abbrev pub same_path : List Side → List Side → Bool
same_path [] [] = true
same_path [] (side ∷ path) = false
same_path (side ∷ path) [] = false
same_path (Low ∷ path) (Low ∷ other) = same_path path other
same_path (Low ∷ path) (High ∷ other) = false
same_path (High ∷ path) (Low ∷ other) = false
same_path (High ∷ path) (High ∷ other) = same_path path other

-- whether what a worker holds is the leaf at a path
abbrev pub is_holding : List Side → Option Holding → Bool
is_holding path None = false
is_holding path (Some h) = same_path h.path path

-- how many live leaves have a path that passes a test
abbrev pub count_live : (List Side → Bool) → GrowingTree → ℕ
count_live test (live proof bound) = if test [] then 1 else 0
count_live test (shut proof) = 0
count_live test (fork v at low high) = count_live (λ path. test (Low ∷ path)) low + count_live (λ path. test (High ∷ path)) high

-- how many live leaves nobody holds
abbrev pub free_count : Crew → ℕ
free_count crew = count_live (λ path. not (list_any (is_holding path) crew.held)) crew.tree

-- how many workers hold a leaf
abbrev pub holder_count : Crew → ℕ
holder_count crew = count_by is_some crew.held

-- a crew that begins: no worker holds anything
abbrev pub idle_crew : GrowingTree → Option (List ℤ) → (workers : ℕ) → Crew
idle_crew t best workers = record { tree = t; best = best; held = replicate workers None }

-- the facts of a crew: those of the search; each leaf that is held is live and held by one worker
-- alone; and no best cost that was given is cheaper than that of now
pub record IsCrew (p : Program) (b : Blocking) (crew : Crew) : Type 0 where
  pub search : IsSearch p b crew.tree crew.best
  pub live : (worker : ℕ) (h : Holding) → held_by crew worker ≡ Some h → (leaf : LiveLeaf) × (live_at crew.tree h.path ≡ Some leaf)
  pub alone : (worker other : ℕ) (h g : Holding) → held_by crew worker ≡ Some h → held_by crew other ≡ Some g → h.path ≡ g.path → worker ≡ other
  pub outdated : (worker : ℕ) (h : Holding) → held_by crew worker ≡ Some h → IsNoDearer (best_cost p crew.best) h.given
